-- Places that name cells below a limit: reading and writing one of them, in a row; and reading and writing a row in a table of rows.
use Rattle.std.proofs.Common.{◌≡◌, ℕ, zero, suc, ◌<◌, true, ◌&&◌, ltb, List, [], ◌∷◌, set, get_or, length, replicate, Some, None, Option, refl, arith}
use Rattle.std.proofs.lemmas.Bool.{ltb-true, lt-ltb, and_parts, and_from}
use Rattle.exchange_theory.specs.declared.row.Row.{Row}
use Rattle.exchange_theory.specs.Inside.{below, inside, within, all_within}
use Rattle.exchange_theory.specs.World.{emptied, row_reading, row_building}

pub inside_at : (n : ℕ) (os : List (Option ℕ)) (i : ℕ) → inside n os ≡ true → below n (get_or os i None) ≡ true
inside_at n [] i e = refl
inside_at n (o ∷ os) zero e = (and_parts (below n o) (inside n os) e).0
inside_at n (o ∷ os) (suc i) e = inside_at n os i (and_parts (below n o) (inside n os) e).1

pub inside_cell : (n : ℕ) (os : List (Option ℕ)) (i c : ℕ) → inside n os ≡ true → get_or os i None ≡ Some c → c < n
inside_cell n os i c e g = let b : below n (Some c) ≡ true = rw g at (inside_at n os i e) in ltb-true c n b

pub inside_none : (n k : ℕ) → inside n (replicate k None) ≡ true
inside_none n zero = refl
inside_none n (suc k) = inside_none n k

pub inside_set : (n : ℕ) (os : List (Option ℕ)) (i : ℕ) (x : Option ℕ) → inside n os ≡ true → below n x ≡ true → inside n (set os i x) ≡ true
inside_set n [] i x e b = refl
inside_set n (o ∷ os) zero x e b = and_from (below n x) (inside n os) b (and_parts (below n o) (inside n os) e).1
inside_set n (o ∷ os) (suc i) x e b = let q = and_parts (below n o) (inside n os) e in and_from (below n o) (inside n (set os i x)) q.0 (inside_set n os i x q.1 b)

-- the parts of a row that is within the limit
record Within (n : ℕ) (r : Row) : Type 0 where
  reads : inside n r.reading ≡ true
  builds : inside n r.building ≡ true
  offer : r.offered < 8

within_parts : (n : ℕ) (r : Row) → within n r ≡ true → Within n r
within_parts n r e =
    let a = and_parts (inside n r.reading) (inside n r.building && ltb r.offered 8) e in
    let b = and_parts (inside n r.building) (ltb r.offered 8) a.1 in
    record { reads = a.0; builds = b.0; offer = ltb-true r.offered 8 b.1 }

within_from : (n : ℕ) (r : Row) → Within n r → within n r ≡ true
within_from n r x = and_from (inside n r.reading) (inside n r.building && ltb r.offered 8) x.reads (and_from (inside n r.building) (ltb r.offered 8) x.builds (lt-ltb r.offered 8 x.offer))

pub within_reading : (n a : ℕ) (o : Option ℕ) (r : Row) → within n r ≡ true → below n o ≡ true → within n (row_reading a o r) ≡ true
within_reading n a o r e l =
    let x = within_parts n r e in
    within_from n (row_reading a o r) (record { reads = inside_set n r.reading a o x.reads l; builds = x.builds; offer = x.offer })

pub within_building : (n b : ℕ) (o : Option ℕ) (r : Row) → within n r ≡ true → below n o ≡ true → within n (row_building b o r) ≡ true
within_building n b o r e l =
    let x = within_parts n r e in
    within_from n (row_building b o r) (record { reads = x.reads; builds = inside_set n r.building b o x.builds l; offer = x.offer })

pub within_emptied : (n c : ℕ) (r : Row) → within n r ≡ true → within n (emptied r.offered c) ≡ true
within_emptied n c r e = within_from n (emptied r.offered c) (record { reads = refl; builds = refl; offer = (within_parts n r e).offer })

-- a table of rows: one of them, and another in its place
pub row_within : (n : ℕ) (rs : List Row) (p : ℕ) (d : Row) → p < length rs → all_within n rs ≡ true → within n (get_or rs p d) ≡ true
row_within n [] p d l e = absurd (omega arith)
row_within n (r ∷ rs) zero d l e = (and_parts (within n r) (all_within n rs) e).0
row_within n (r ∷ rs) (suc p) d l e = row_within n rs p d (omega arith) (and_parts (within n r) (all_within n rs) e).1

pub row_low : (n : ℕ) (rs : List Row) (p : ℕ) (d : Row) → p < length rs → all_within n rs ≡ true → (get_or rs p d).offered < 8
row_low n rs p d l e = (within_parts n (get_or rs p d) (row_within n rs p d l e)).offer

pub rows_within : (n : ℕ) (rs : List Row) (p : ℕ) (r : Row) → all_within n rs ≡ true → within n r ≡ true → all_within n (set rs p r) ≡ true
rows_within n [] p r e w = refl
rows_within n (x ∷ rs) zero r e w = and_from (within n r) (all_within n rs) w (and_parts (within n x) (all_within n rs) e).1
rows_within n (x ∷ rs) (suc p) r e w = let q = and_parts (within n x) (all_within n rs) e in and_from (within n x) (all_within n (set rs p r)) q.0 (rows_within n rs p r q.1 w)
