-- The three ends of an operation keep what always holds.
use Rattle.std.specs.Prelude.{◌≡◌, ℕ, ◌+◌, ◌<◌, ◌≤◌, Bool, true, false, cond, List, [], ◌∷◌, length, Some, None, ◌≢◌, slice_set, refl}
use Rattle.std.proofs.Common.{sym, ap, ◌∙◌, subst, ⊎_elim, arith, Option}
use Rattle.std.proofs.lemmas.Bool.{cases_eq, ne_eqb, eqb-true, false≢true}
use Rattle.std.proofs.lemmas.Bool.Decides.{nat_tests}
use Rattle.keeper.specs.declared.version.Version.{Version}
use Rattle.keeper.specs.declared.stage.Stage.{Stage}
use Rattle.keeper.specs.declared.stage.Stage.TheVariants.{Idle, Opening, Open, Offering, Offered, Closing}
use Rattle.keeper.specs.Totals.{total}
use Rattle.keeper.specs.Stages.{named, engaged, uses}
use Rattle.keeper.specs.Meaning.{is_serial, same, version}
use Rattle.keeper.proofs.Totals.{total_set, total_at}
use Rattle.counting.specs.declared.rows.Row.{Row}
use Rattle.counting.specs.State.{State, on_row, used_by, steady, holds, empty, first, taken}
use Rattle.counting.specs.Moves.{stage_at, row_at, place, both, raised, lowered, count, opening, open_ends, accepts, last_one, close_ends}
use Rattle.std.proofs.lemmas.List.Sums.{passes_at_first}
use Rattle.counting.specs.Firsts.{first_found}
use Rattle.counting.specs.Crowd.{unheld, crowd, rows_fill, vacancy}
use Rattle.counting.specs.Good.{Good, changed_good}

-- a row of the version is a row of its serial
same_serial : (v : Version) (rs : List (Option Row)) → total (on_row (same v)) rs ≤ total (on_row (is_serial v.serial)) rs
same_serial v [] = omega arith
same_serial v (None ∷ rs) = omega (arith, same_serial v rs)
same_serial v (Some row ∷ rs) = grind (arith, nat_tests, same_serial v rs)

not_held : (s : ℕ) (r : Option Row) → holds s r ≡ false → on_row (is_serial s) r ≡ 0
not_held s None e = refl
not_held s (Some row) e = grind arith

pub held_one : (s : ℕ) (r : Option Row) → holds s r ≡ true → on_row (is_serial s) r ≡ 1
held_one s None e = absurd (false≢true e)
held_one s (Some row) e = grind arith

-- a row that holds a serial is not empty
pub held_some : (s : ℕ) (r : Option Row) → holds s r ≡ true → ((row : Row) → r ≡ Some row → ⊥) → ⊥
held_some s None e n = false≢true e
held_some s (Some row) e n = n row refl

used_count : (s : ℕ) (r : Option Row) → holds s r ≡ true → used_by s r ≡ count r
used_count s None e = absurd (false≢true e)
used_count s (Some row) e = grind arith

raised_held : (f : Version → ℕ) (r : Option Row) → on_row f (raised r) ≡ on_row f r
raised_held f None = refl
raised_held f (Some row) = refl

lowered_held : (f : Version → ℕ) (r : Option Row) → on_row f (lowered r) ≡ on_row f r
lowered_held f None = refl
lowered_held f (Some row) = refl

raised_used : (s t : ℕ) (r : Option Row) → holds s r ≡ true → used_by t (raised r) ≡ used_by t r + named t (Some s)
raised_used s t None e = absurd (false≢true e)
raised_used s t (Some row) e = grind (arith, nat_tests, eqb-true s row.version.serial e)

lowered_used : (s t : ℕ) (r : Option Row) → holds s r ≡ true → 1 ≤ count r → used_by t (lowered r) + named t (Some s) ≡ used_by t r
lowered_used s t None e h = absurd (false≢true e)
lowered_used s t (Some row) e h = grind (arith, nat_tests, eqb-true s row.version.serial e)

dropped_used : (s t : ℕ) (r : Option Row) → holds s r ≡ true → count r ≡ 1 → named t (Some s) ≡ used_by t r
dropped_used s t None e h = absurd (false≢true e)
dropped_used s t (Some row) e h = grind (arith, nat_tests, eqb-true s row.version.serial e)

other_version : (s : ℕ) (v : Version) (r : Option Row) → holds s r ≡ true → (s ≢ v.serial) → on_row (same v) r ≡ 0
other_version s v None e ne = refl
other_version s v (Some row) e ne = grind (arith, nat_tests, eqb-true s row.version.serial e)

pub emptied : (r : Option Row) → empty r ≡ true → r ≡ None
emptied None e = refl
emptied (Some row) e = absurd (false≢true e)

not_empty : (r : Option Row) → empty r ≡ false → vacancy r ≡ 0
not_empty None e = absurd (false≢true (sym e))
not_empty (Some row) e = refl

-- an opening program is bound to nothing
pub unbound : (c l : ℕ) (st : Stage) → opening st ≡ true → steady c l st ≡ true → engaged st ≡ None
unbound c l Idle o e = refl
unbound c l (Opening since None) o e = refl
unbound c l (Opening since (Some b)) o e = absurd (false≢true e)
unbound c l (Open s) o e = absurd (false≢true o)
unbound c l (Offering r s) o e = absurd (false≢true o)
unbound c l (Offered s) o e = absurd (false≢true o)
unbound c l (Closing s) o e = absurd (false≢true o)

module _ (v : State) (g : Good v) where
  -- a serial that is held has its row, and the row counts all who use it
  pub placed : (s : ℕ) → 0 < total (on_row (is_serial s)) v.rows → place v s < length v.rows
  placed s h = first_found (holds s) (on_row (is_serial s)) (not_held s) v.rows h

  pub placed_holds : (s : ℕ) → 0 < total (on_row (is_serial s)) v.rows → holds s (row_at v (place v s)) ≡ true
  placed_holds s h = passes_at_first (holds s) v.rows None (placed s h)

  pub placed_counts : (s : ℕ) → 0 < total (on_row (is_serial s)) v.rows → total (used_by s) v.rows ≡ count (row_at v (place v s))
  placed_counts s h =
      let i = place v s in
      let at = placed s h in
      let here = placed_holds s h in
      let held = total_set (on_row (is_serial s)) v.rows i None None at in
      let usage = total_set (used_by s) v.rows i None None at in
      let gone : total (on_row (is_serial s)) (slice_set v.rows i None) ≡ 0 = omega (arith, g.filled.1 s, held_one s (row_at v i) here) in
      omega (arith, unheld s (slice_set v.rows i None) gone, used_count s (row_at v i) here)

  pub current_held : 0 < total (on_row (is_serial v.current.serial)) v.rows
  current_held = omega (arith, same_serial v.current v.rows, g.filled.0)

  -- a serial that a program has or is closing is held
  pub used_held : (p s : ℕ) → p < v.programs → engaged (stage_at v p) ≡ Some s → 0 < total (on_row (is_serial s)) v.rows
  used_held p s h e = ⊎_elim
      (λ (z : total (on_row (is_serial s)) v.rows ≡ 0). absurd (omega (arith, unheld s v.rows z, users)))
      (λ (n : total (on_row (is_serial s)) v.rows ≡ 0 → ⊥). omega arith)
      (cases_eq (total (on_row (is_serial s)) v.rows) 0)
    where
      one : named s (engaged (stage_at v p)) ≡ 1
      one = ap (named s) e ∙ grind (arith, nat_tests)

      users : 0 < total (used_by s) v.rows
      users = omega (arith, one, g.counted.0 s, total_at (uses s) v.stages p Idle (omega (arith, g.sized)))

module _ (v : State) (g : Good v) (p : ℕ) (within : p < v.programs) where
  pub open_good : opening (stage_at v p) ≡ true → Good (open_ends v p)
  open_good o =
      let c = v.current.serial in
      let i = place v c in
      let r = row_at v i in
      let here = placed_holds v g c (current_held v g) in
      let free = unbound c v.last (stage_at v p) o (g.counted.2 p) in
      let at = placed v g c (current_held v g) in
      changed_good v g p within v.current (Open c) i (raised r) at g.sized.4 (omega arith) refl
      (omega (arith, g.filled.0, raised_held (same v.current) r, total_set (on_row (same v.current)) v.rows i (raised r) None at))
      (λ s. omega (arith, g.filled.1 s, raised_held (is_serial s) r))
      (λ s h. omega (arith, raised_held (is_serial s) r))
      (λ s. omega (arith, raised_used c s r here, ap (named s) free))
      (λ s ne. omega (arith, g.counted.1 s ne, raised_held (is_serial s) r, raised_used c s r here))

  -- some row is empty where a program offers over the current serial
  pub room : engaged (stage_at v p) ≡ Some v.current.serial → first empty v.rows < length v.rows
  room e =
      let c = v.current.serial in
      let one : named c (engaged (stage_at v p)) ≡ 1 = ap (named c) e ∙ grind (arith, nat_tests) in
      let used : 1 ≤ total (used_by c) v.rows = omega (arith, one, g.counted.0 c, total_at (uses c) v.stages p Idle (omega (arith, g.sized))) in
      let full : (s : ℕ) → total (on_row (is_serial s)) v.rows ≤ total (used_by s) v.rows =
      λ s. ⊎_elim (λ (e : s ≡ c). grind (arith, e, used, g.filled.1 c)) (λ (ne : s ≡ c → ⊥). g.counted.1 s ne) (cases_eq s c) in
      let few : total count v.rows ≤ length v.stages = crowd engaged v.rows v.stages g.filled.1 (λ s. omega (arith, g.counted.0 s)) in
      first_found empty vacancy not_empty v.rows (omega (arith, rows_fill v.rows g.filled.1 full, few, g.sized))

  pub accept_good : (r s : ℕ) → stage_at v p ≡ Offering r s → s ≡ v.current.serial → Good (accepts v p r s)
  accept_good r s e is =
      let c = v.current.serial in
      let n : Version = version (s + 1) r in
      let i = first empty v.rows in
      let at = room (ap engaged e ∙ ap (λ k. Some k) is) in
      let old : row_at v i ≡ None = emptied (row_at v i) (passes_at_first empty v.rows None at) in
      let small : s < v.last = grind (arith, nat_tests, subst (λ st. steady c v.last st ≡ true) e (g.counted.2 p)) in
      let own : uses s (stage_at v p) ≡ 1 = ap (uses s) e ∙ grind (arith, nat_tests) in
      let users : 1 ≤ total (used_by s) v.rows = omega (arith, own, g.counted.0 s, total_at (uses s) v.stages p Idle (omega (arith, g.sized))) in
      changed_good v g p within n (Offered s) i (taken n 0) at (omega arith) (omega arith) refl
      (grind (arith, nat_tests, total_set (on_row (same n)) v.rows i (taken n 0) None at, ap (on_row (same n)) old))
      (λ t. grind (arith, nat_tests, g.filled.1 t, g.filled.2 t, is))
      (λ t h. grind (arith, nat_tests))
      (λ t. grind (arith, nat_tests, ap (used_by t) old, ap (uses t) e))
      (λ t ne. ⊎_elim
      (λ (same : t ≡ c). grind (arith, nat_tests, is, users, g.filled.1 t, ap (used_by t) old))
      (λ (other : t ≡ c → ⊥). grind (arith, nat_tests, g.counted.1 t other, ap (used_by t) old))
      (cases_eq t c))

  -- a program that is closing s is counted in its row
  pub closing_held : (s : ℕ) → stage_at v p ≡ Closing s → 0 < total (on_row (is_serial s)) v.rows
  closing_held s e = used_held v g p s within (ap engaged e)

  pub closing_counted : (s : ℕ) → stage_at v p ≡ Closing s → 1 ≤ count (row_at v (place v s))
  closing_counted s e =
      let own : uses s (stage_at v p) ≡ 1 = ap (uses s) e ∙ grind (arith, nat_tests) in
      omega (arith, placed_counts v g s (closing_held s e), own, g.counted.0 s, total_at (uses s) v.stages p Idle (omega (arith, g.sized)))

  pub close_good : (s : ℕ) → stage_at v p ≡ Closing s → Good (close_ends v p s)
  close_good s e = go (last_one v s) refl
    where
      there : 0 < total (on_row (is_serial s)) v.rows
      there = closing_held s e

      at : place v s < length v.rows
      at = placed v g s there

      here : holds s (row_at v (place v s)) ≡ true
      here = placed_holds v g s there

      counts : total (used_by s) v.rows ≡ count (row_at v (place v s))
      counts = placed_counts v g s there

      go : (b : Bool) → last_one v s ≡ b → Good (both v p Idle (place v s) (cond b None (lowered (row_at v (place v s)))))
      go true l =
          let r = row_at v (place v s) in
          let only : count (row_at v (place v s)) ≡ 1 = grind (arith, nat_tests, l) in
          let old : s ≡ v.current.serial → ⊥ = λ h. grind (arith, nat_tests, l) in
          changed_good v g p within v.current Idle (place v s) None at g.sized.4 (omega arith) refl
          (omega (arith, g.filled.0, other_version s v.current r here old, total_set (on_row (same v.current)) v.rows (place v s) None None at))
          (λ t. omega (arith, g.filled.1 t))
          (λ t h. omega arith)
          (λ t. omega (arith, dropped_used s t r here only, ap (uses t) e))
          (λ t ne. ⊎_elim
          (λ (same : t ≡ s). grind (arith, same, counts, only, g.filled.1 t, held_one s r here, used_count s r here))
          (λ (other : t ≡ s → ⊥). omega (arith, g.counted.1 t ne, dropped_used s t r here only, ap {B = ℕ} (λ b. cond b 1 0) (ne_eqb t s other)))
          (cases_eq t s))
      go false l =
          let r = row_at v (place v s) in
          let some : 1 ≤ count (row_at v (place v s)) = closing_counted s e in
          changed_good v g p within v.current Idle (place v s) (lowered r) at g.sized.4 (omega arith) refl
          (omega (arith, g.filled.0, lowered_held (same v.current) r, total_set (on_row (same v.current)) v.rows (place v s) (lowered r) None at))
          (λ t. omega (arith, g.filled.1 t, lowered_held (is_serial t) r))
          (λ t h. omega (arith, lowered_held (is_serial t) r))
          (λ t. omega (arith, lowered_used s t r here some, ap (uses t) e))
          (λ t ne. ⊎_elim
          (λ (same : t ≡ s).
          let two : 2 ≤ count (row_at v (place v s)) = grind (arith, nat_tests, l, same) in
          let once = g.filled.1 s in
          let held = lowered_held (is_serial s) r in
          let one = lowered_used s s r here some in
          let self : named s (Some s) ≡ 1 = grind (arith, nat_tests) in
          subst (λ k. total (on_row (is_serial k)) v.rows + on_row (is_serial k) (lowered r) + used_by k r ≤ total (used_by k) v.rows + used_by k (lowered r) + on_row (is_serial k) r) (sym same)
          (omega (arith, counts, held_one s r here, used_count s r here)))
          (λ (other : t ≡ s → ⊥). omega (arith, g.counted.1 t ne, lowered_held (is_serial t) r, lowered_used s t r here some, ap {B = ℕ} (λ b. cond b 1 0) (ne_eqb t s other)))
          (cases_eq t s))
