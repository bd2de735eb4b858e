-- One cell is named once more or once less from outside.
use Rattle.std.proofs.Common.{◌≡◌, ℕ, ◌+◌, ◌-◌, ◌<◌, ◌≤◌, Bool, true, false, cond, eqb, ltb, leb, List, ◌∷◌, length, set, sym, refl, ap, ◌∙◌, subst, ⊎_elim, arith}
use Rattle.std.proofs.lemmas.List.{length-set}
use Rattle.std.proofs.lemmas.Bool.{cases_eq, cases_lt, eq-eqb, ne_eqb, lt-ltb, le-ltb, le-leb, and_from}
use Rattle.cells_theory.specs.declared.cell.Cell.{Cell}
use Rattle.cells_theory.specs.declared.cell.Field.{Field}
use Rattle.cells_theory.specs.declared.cell.Field.TheVariants as field
use Rattle.cells_theory.specs.Memory.{Memory, memory, chains, cell, cell_at, count_at, link_at, fields_at, nth, name_of}
use Rattle.cells_theory.specs.LetGo.{let_go, let_go_field, lowered}
use Rattle.cells_theory.specs.Build.{raise}
use Rattle.cells_theory.specs.Sound.{times, naming, Chain, Sound}
use Rattle.cells_theory.specs.Promises.{OneMore, Live, LetGoPromises}
use Rattle.cells_theory.proofs.Counting.{same_self, same_is, same_not, on_set, fields_kept, links_kept, naming_kept, cell_other, cell_same, below_set, below_in}
use Rattle.cells_theory.proofs.Chains.{chain_like}
use Rattle.cells_theory.proofs.Frames.{kept_reaches}

-- the order of the names does not matter
pub sound_like : (m : Memory) (names others : List ℕ) → ((d : ℕ) → times d others ≡ times d names) → Sound m names → Sound m others
sound_like m names others eq s = record {
  few = s.few;
  free = s.free;
  waiting = s.waiting;
  free_chain = s.free_chain;
  waiting_chain = s.waiting_chain;
  distinct = s.distinct;
  blank = s.blank;
  within = s.within;
  named = λ c p. s.named c (omega (arith, p, eq c));
  counted = λ c l. omega (arith, s.counted c l, eq c);
  idle = s.idle;
  waits = s.waits;
  rank = s.rank;
  falls = s.falls;
}

-- a live cell is in neither chain
module _ (m : Memory) (names : List ℕ) (s : Sound m names) (c : ℕ) (lc : Live m c) where
  pub live_not_free : times c s.free ≡ 0
  live_not_free = ⊎_elim (λ p. absurd (omega (arith, (s.blank c p).0, lc.1))) (λ n. omega (arith, n)) (cases_lt 0 (times c s.free))

  pub live_not_waiting : times c s.waiting ≡ 0
  live_not_waiting = ⊎_elim (λ p. absurd (omega (arith, s.idle c p, lc.1))) (λ n. omega (arith, n)) (cases_lt 0 (times c s.waiting))

  free_other : (d : ℕ) → 0 < times d s.free → d ≡ c → ⊥
  free_other d p e = omega (arith, p, live_not_free, ap (λ i. times i s.free) e)

  waiting_other : (d : ℕ) → 0 < times d s.waiting → d ≡ c → ⊥
  waiting_other d p e = omega (arith, p, live_not_waiting, ap (λ i. times i s.waiting) e)

-- a cell whose count alone is written, above 0
abbrev with_count : List Cell → ℕ → ℕ → Cell
with_count cs c k = cell k (link_at cs c) (fields_at cs c)

pub recount : (m : Memory) (names others : List ℕ) (s : Sound m names) (c k : ℕ) → Live m c → 0 < k
    → ((d : ℕ) → (d ≡ c → ⊥) → times d others ≡ times d names) → k + times c names ≡ count_at m.cells c + times c others
    → Sound (memory m.heads (set m.cells c (with_count m.cells c k))) others
recount m names others s c k lc pk eq bal =
    let cs = m.cells in
    let x = with_count cs c k in
    let ds = set cs c x in
    let l = lc.0 in
    let fs = fields_kept cs c x l refl in
    record {
      few = omega (arith, s.few, length-set cs c x);
      free = s.free;
      waiting = s.waiting;
      free_chain = chain_like cs ds m.heads.free s.free (length-set cs c x) (λ d p. links_kept cs c x l refl d) s.free_chain;
      waiting_chain = chain_like cs ds m.heads.waiting s.waiting (length-set cs c x) (λ d p. links_kept cs c x l refl d) s.waiting_chain;
      distinct = s.distinct;
      blank = λ d p. (
        on_set cs c x l (λ y. y.count ≡ 0) d (λ e. absurd (free_other m names s c lc d p e)) (λ n. (s.blank d p).0),
        fs d ∙ (s.blank d p).1,
      );
      within = λ d j e lj h. below_in cs c x e (s.within d j e lj (sym (ap (λ f. nth f j) (fs d)) ∙ h));
      named = λ d p. below_in cs c x d (⊎_elim (λ e. omega (arith, e, l)) (λ n. s.named d (omega (arith, p, eq d n))) (cases_eq d c));
      counted = λ d ld. on_set cs c x l (λ y. y.count ≡ naming d ds + times d others) d
          (λ e. subst (λ i. k ≡ naming i ds + times i others) (sym e) (omega (arith, naming_kept cs c x l refl c, s.counted c l, bal)))
          (λ n. omega (arith, naming_kept cs c x l refl d, s.counted d (below_set cs c x d ld), eq d n));
      idle = λ d p. on_set cs c x l (λ y. y.count ≡ 0) d (λ e. absurd (waiting_other m names s c lc d p e)) (λ n. s.idle d p);
      waits = λ d ld. on_set cs c x l (λ y. y.count ≡ 0 → 0 < times d s.free + times d s.waiting) d (λ e z. absurd (omega (arith, z, pk))) (λ n z. s.waits d (below_set cs c x d ld) z);
      rank = s.rank;
      falls = λ d j e lj h. s.falls d j e lj (sym (ap (λ f. nth f j) (fs d)) ∙ h);
    }

-- a live cell is named once more
pub raise_is : (cs : List Cell) (c : ℕ) → c < length cs → count_at cs c ≤ 999990 → raise c cs ≡ set cs c (with_count cs c (count_at cs c + 1))
raise_is cs c l h =
    ap (λ b. cond b (set cs c (with_count cs c (count_at cs c + 1))) cs)
    (and_from (ltb c (length cs)) (leb (count_at cs c) 999990) (lt-ltb c (length cs) l) (le-leb (count_at cs c) 999990 h))

pub raised : (m : Memory) (names : List ℕ) (c : ℕ) → Sound m names → Live m c → count_at m.cells c ≤ 999990 → Sound (memory m.heads (raise c m.cells)) (c ∷ names)
raised m names c s lc h =
    subst (λ (cs : List Cell). Sound (memory m.heads cs) (c ∷ names)) (sym (raise_is m.cells c lc.0 h))
    (recount m names (c ∷ names) s c (count_at m.cells c + 1) lc (omega arith) (λ d n. omega (arith, same_not d c n)) (omega (arith, same_self c)))

-- a cell that is named once, and no more: it is the first that waits
abbrev at_rest : Memory → ℕ → Memory
at_rest m c = memory (chains m.heads.free c) (set m.cells c (cell 0 m.heads.waiting (fields_at m.cells c)))

rested : (m : Memory) (names rest : List ℕ) (c : ℕ) → OneMore c rest names → Sound m names → Live m c → count_at m.cells c ≡ 1 → Sound (at_rest m c) rest
rested m names rest c more s lc one =
    let cs = m.cells in
    let x = cell 0 m.heads.waiting (fields_at cs c) in
    let ds = set cs c x in
    let l = lc.0 in
    let fs = fields_kept cs c x l refl in
    record {
      few = omega (arith, s.few, length-set cs c x);
      free = s.free;
      waiting = c ∷ s.waiting;
      free_chain = chain_like cs ds m.heads.free s.free (length-set cs c x) (λ d p. ap (λ (y : Cell). y.link) (cell_other cs c x d (free_other m names s c lc d p))) s.free_chain;
      waiting_chain = (
        refl,
        omega (arith, l, s.few),
        below_in cs c x c l,
        subst (λ h. Chain ds h s.waiting) (sym (ap (λ (y : Cell). y.link) (cell_same cs c x l)))
            (chain_like cs ds m.heads.waiting s.waiting (length-set cs c x) (λ d p. ap (λ (y : Cell). y.link) (cell_other cs c x d (waiting_other m names s c lc d p))) s.waiting_chain),
      );
      distinct = λ d. ⊎_elim
          (λ e. omega (arith, same_is d c e, live_not_free m names s c lc, live_not_waiting m names s c lc, ap (λ i. times i s.free) e, ap (λ i. times i s.waiting) e))
          (λ n. omega (arith, same_not d c n, s.distinct d)) (cases_eq d c);
      blank = λ d p. (
        on_set cs c x l (λ y. y.count ≡ 0) d (λ e. refl) (λ n. (s.blank d p).0),
        fs d ∙ (s.blank d p).1,
      );
      within = λ d j e lj h. below_in cs c x e (s.within d j e lj (sym (ap (λ f. nth f j) (fs d)) ∙ h));
      named = λ d p. below_in cs c x d (s.named d (omega (arith, p, more d)));
      counted = λ d ld. on_set cs c x l (λ y. y.count ≡ naming d ds + times d rest) d
          (λ e. subst (λ i. 0 ≡ naming i ds + times i rest) (sym e) (omega (arith, naming_kept cs c x l refl c, s.counted c l, one, more c, same_self c)))
          (λ n. omega (arith, naming_kept cs c x l refl d, s.counted d (below_set cs c x d ld), more d, same_not d c n));
      idle = λ d p. on_set cs c x l (λ y. y.count ≡ 0) d (λ e. refl) (λ n. s.idle d (omega (arith, p, same_not d c n)));
      waits = λ d ld. on_set cs c x l (λ y. y.count ≡ 0 → 0 < times d s.free + times d (c ∷ s.waiting)) d
          (λ e z. omega (arith, same_is d c e))
          (λ n z. omega (arith, s.waits d (below_set cs c x d ld) z));
      rank = s.rank;
      falls = λ d j e lj h. s.falls d j e lj (sym (ap (λ f. nth f j) (fs d)) ∙ h);
    }

-- what the outside names is live
pub named_live : (m : Memory) (names : List ℕ) (c : ℕ) → Sound m names → 0 < times c names → Live m c
named_live m names c s p = let l = s.named c p in (l, omega (arith, s.counted c l, p))

-- a live cell that is let go loses one
let_go_is : (m : Memory) (c : ℕ) → Live m c → let_go c m ≡ lowered c (cell_at m.cells c) m
let_go_is m c lc =
    ap (λ b. cond b (cond (eqb (count_at m.cells c) 0) m (lowered c (cell_at m.cells c) m)) m) (lt-ltb c (length m.cells) lc.0)
    ∙ ap (λ b. cond b m (lowered c (cell_at m.cells c) m)) (ne_eqb (count_at m.cells c) 0 (λ e. omega (arith, e, lc.1)))

-- letting go of a cell that the outside names
pub let_go_sound : (m : Memory) (names rest : List ℕ) (c : ℕ) → OneMore c rest names → Sound m names → Sound (let_go c m) rest
let_go_sound m names rest c more s =
    let lc : Live m c = named_live m names c s (omega (arith, more c, same_self c)) in
    let n = count_at m.cells c in
    subst (λ (v : Memory). Sound v rest) (sym (let_go_is m c lc))
    (⊎_elim
    (λ e. subst (λ (v : Memory). Sound v rest) (sym (ap (λ b. cond b (at_rest m c) (memory m.heads (set m.cells c (with_count m.cells c (n - 1))))) (eq-eqb n 1 e))) (rested m names rest c more s lc e))
    (λ e. subst (λ (v : Memory). Sound v rest) (sym (ap (λ b. cond b (at_rest m c) (memory m.heads (set m.cells c (with_count m.cells c (n - 1))))) (ne_eqb n 1 e)))
    (recount m names rest s c (n - 1) lc (omega (arith, lc.1, e)) (λ d k. omega (arith, more d, same_not d c k)) (omega (arith, more c, same_self c, lc.1))))
    (cases_eq n 1))

-- no field changes
pub let_go_fields : (m : Memory) (c d : ℕ) → fields_at (let_go c m).cells d ≡ fields_at m.cells d
let_go_fields m c d =
    ⊎_elim
    (λ l. ⊎_elim
    (λ z. ap (λ b. fields_at (cond b (cond (eqb (count_at m.cells c) 0) m (lowered c (cell_at m.cells c) m)) m).cells d) (lt-ltb c (length m.cells) l)
    ∙ ap (λ b. fields_at (cond b m (lowered c (cell_at m.cells c) m)).cells d) (eq-eqb (count_at m.cells c) 0 z))
    (λ z. ap (λ (v : Memory). fields_at v.cells d) (let_go_is m c (l, omega (arith, z))) ∙ lowered_fields (eqb (count_at m.cells c) 1) l)
    (cases_eq (count_at m.cells c) 0))
    (λ l. ap (λ b. fields_at (cond b (cond (eqb (count_at m.cells c) 0) m (lowered c (cell_at m.cells c) m)) m).cells d) (le-ltb c (length m.cells) l))
    (cases_lt c (length m.cells))
  where
    lowered_fields : (b : Bool) → c < length m.cells → fields_at (cond b (at_rest m c) (memory m.heads (set m.cells c (with_count m.cells c (count_at m.cells c - 1))))).cells d ≡ fields_at m.cells d
    lowered_fields true l = fields_kept m.cells c _ l refl d
    lowered_fields false l = fields_kept m.cells c _ l refl d

-- the outside names what a field names, too
abbrev pub hold : Field → List ℕ → List ℕ
hold field.Empty names = names
hold (field.Number n) names = names
hold (field.Cell c) names = c ∷ names

pub times_hold : (f : Field) (names : List ℕ) (d : ℕ) → times d (hold f names) ≡ times d names + name_of d f
times_hold field.Empty names d = omega arith
times_hold (field.Number n) names d = omega arith
times_hold (field.Cell c) names d = omega arith

pub let_go_field_sound : (m : Memory) (names : List ℕ) (f : Field) → Sound m (hold f names) → Sound (let_go_field f m) names
let_go_field_sound m names field.Empty s = s
let_go_field_sound m names (field.Number n) s = s
let_go_field_sound m names (field.Cell c) s = let_go_sound m (c ∷ names) names c (λ d. omega arith) s

pub let_go_promises : (c : ℕ) (m n : Memory) → n ≡ let_go c m → LetGoPromises c m n
let_go_promises c m n e =
    let fs : (d : ℕ) → fields_at n.cells d ≡ fields_at m.cells d = λ d. ap (λ (v : Memory). fields_at v.cells d) e ∙ let_go_fields m c d in
    record {
      sound = λ names rest more s. subst (λ (v : Memory). Sound v rest) (sym e) (let_go_sound m names rest c more s);
      fields = fs;
      reaches = kept_reaches m.cells n.cells fs;
    }
