-- A sweep takes the first waiting cell out of use, with the outside holding what its fields named, and then lets go of that.
use Rattle.std.proofs.Common.{◌≡◌, ℕ, zero, suc, ◌+◌, ◌-◌, ◌<◌, ◌≤◌, Bool, true, false, cond, ◌&&◌, eqb, ltb, List, [], ◌∷◌, length, set, Some, None, Ok, Err, Option, Result, sym, refl, ap, ◌∙◌, subst, ⊎_elim, arith}
use Rattle.std.proofs.lemmas.List.{length-set, set_comm}
use Rattle.std.proofs.lemmas.Bool.{cases_lt, lt-ltb, and_from, eqb-true, eqb-false, cond-true}
use Rattle.keeper.specs.declared.fault.Fault.{Fault}
use Rattle.cells_theory.specs.declared.cell.Cell.{Cell}
use Rattle.cells_theory.specs.declared.cell.Field.{Field}
use Rattle.cells_theory.specs.declared.cell.Field.TheVariants as field
use Rattle.cells_theory.specs.Memory.{Memory, memory, chains, cell, none, four_empty, cell_at, count_at, link_at, fields_at, nth, names_in, damaged}
use Rattle.cells_theory.specs.LetGo.{let_go, let_go_field, let_go_four, lowered}
use Rattle.cells_theory.specs.Sweep.{sweep_answer, unlink, freed, sweep_memory}
use Rattle.cells_theory.specs.Trees.{Reaches, here, down}
use Rattle.cells_theory.specs.Sound.{times, naming, Chain, Sound, Waits}
use Rattle.cells_theory.specs.Promises.{SweepKeeps, SweepPromises}
use Rattle.cells_theory.proofs.Counting.{same_self, same_is, same_not, names_in_find, naming_set, on_set, cell_other, cell_same, below_set, below_in, times_here}
use Rattle.cells_theory.proofs.Chains.{chain_like, chain_head, chain_none, in_waits, waits_in, in_free}
use Rattle.cells_theory.proofs.Counts.{hold, times_hold, let_go_field_sound, let_go_fields}
use Rattle.cells_theory.proofs.Frames.{Frame, framed, walked, unnamed, all_but, cell_is}

-- Letting go of other cells and putting a cell first among the free can change places.

through : (f : Memory → Memory) (b : Bool) (u v : Memory) → f (cond b u v) ≡ cond b (f u) (f v)
through f true u v = refl
through f false u v = refl

swapped : (cs : List Cell) (w c h : ℕ) (y : Cell) → (c ≡ w → ⊥) → set (set cs c y) w (cell (count_at (set cs c y) w) h four_empty) ≡ set (set cs w (cell (count_at cs w) h four_empty)) c y
swapped cs w c h y n =
    ap (λ k. set (set cs c y) w (cell k h four_empty)) (ap (λ (z : Cell). z.count) (cell_other cs c y w (λ e. n (sym e))))
    ∙ set_comm cs c w y (cell (count_at cs w) h four_empty) n

freed_lowered : (m : Memory) (w c : ℕ) (y : Cell) → (c ≡ w → ⊥) → freed w (lowered c y m) ≡ lowered c y (freed w m)
freed_lowered m w c y n =
    let a = cell 0 m.heads.waiting y.fields in
    let b = cell (y.count - 1) y.link y.fields in
    through (freed w) (eqb y.count 1) (memory (chains m.heads.free c) (set m.cells c a)) (memory m.heads (set m.cells c b))
    ∙ ap (λ (cs : List Cell). cond (eqb y.count 1) (memory (chains w c) cs) (freed w (memory m.heads (set m.cells c b)))) (swapped m.cells w c m.heads.free a n)
    ∙ ap (λ (cs : List Cell). cond (eqb y.count 1) (memory (chains w c) (set (freed w m).cells c a)) (memory (chains w m.heads.waiting) cs)) (swapped m.cells w c m.heads.free b n)

-- letting go of c, where the cells are so many and c is y
abbrev letting : ℕ → Memory → ℕ → Cell → Memory
letting c m long y = cond (ltb c long) (cond (eqb y.count 0) m (lowered c y m)) m

let_go_freed : (m : Memory) (w c : ℕ) → (c ≡ w → ⊥) → let_go c (freed w m) ≡ freed w (let_go c m)
let_go_freed m w c n =
    let cs = m.cells in
    let x = cell (count_at cs w) m.heads.free four_empty in
    let y = cell_at cs c in
    ap (λ k. letting c (freed w m) k (cell_at (set cs w x) c)) (length-set cs w x)
    ∙ ap (λ (z : Cell). letting c (freed w m) (length cs) z) (cell_other cs w x c n)
    ∙ sym (through (freed w) (ltb c (length cs)) (cond (eqb y.count 0) m (lowered c y m)) m
    ∙ ap (λ (u : Memory). cond (ltb c (length cs)) u (freed w m)) (through (freed w) (eqb y.count 0) m (lowered c y m)
    ∙ ap (λ (u : Memory). cond (eqb y.count 0) (freed w m) u) (freed_lowered m w c y n)))

let_go_field_freed : (m : Memory) (w : ℕ) (f : Field) → (f ≡ field.Cell w → ⊥) → let_go_field f (freed w m) ≡ freed w (let_go_field f m)
let_go_field_freed m w field.Empty n = refl
let_go_field_freed m w (field.Number i) n = refl
let_go_field_freed m w (field.Cell c) n = let_go_freed m w c (λ e. n (ap field.Cell e))

let_go_four_freed : (m : Memory) (w : ℕ) (fs : List Field) → ((k : ℕ) → k < 4 → nth fs k ≡ field.Cell w → ⊥) → let_go_four fs (freed w m) ≡ freed w (let_go_four fs m)
let_go_four_freed m w fs n =
    let f₀ = nth fs 0 in
    let f₁ = nth fs 1 in
    let f₂ = nth fs 2 in
    let f₃ = nth fs 3 in
    let m₁ = let_go_field f₀ m in
    let m₂ = let_go_field f₁ m₁ in
    let m₃ = let_go_field f₂ m₂ in
    ap (λ (v : Memory). let_go_field f₃ (let_go_field f₂ (let_go_field f₁ v))) (let_go_field_freed m w f₀ (n 0 (omega arith)))
    ∙ ap (λ (v : Memory). let_go_field f₃ (let_go_field f₂ v)) (let_go_field_freed m₁ w f₁ (n 1 (omega arith)))
    ∙ ap (λ (v : Memory). let_go_field f₃ v) (let_go_field_freed m₂ w f₂ (n 2 (omega arith)))
    ∙ let_go_field_freed m₃ w f₃ (n 3 (omega arith))

field_fields : (m : Memory) (f : Field) (d : ℕ) → fields_at (let_go_field f m).cells d ≡ fields_at m.cells d
field_fields m field.Empty d = refl
field_fields m (field.Number n) d = refl
field_fields m (field.Cell c) d = let_go_fields m c d

four_fields : (m : Memory) (fs : List Field) (d : ℕ) → fields_at (let_go_four fs m).cells d ≡ fields_at m.cells d
four_fields m fs d =
    let m₁ = let_go_field (nth fs 0) m in
    let m₂ = let_go_field (nth fs 1) m₁ in
    let m₃ = let_go_field (nth fs 2) m₂ in
    field_fields m₃ (nth fs 3) d ∙ field_fields m₂ (nth fs 2) d ∙ field_fields m₁ (nth fs 1) d ∙ field_fields m (nth fs 0) d

-- an empty field names nothing
pub empty_names : (k c : ℕ) → k < 4 → nth four_empty k ≡ field.Cell c → ⊥
empty_names zero c l e = let z : ◌≡◌ {A = ℕ} 0 1 = cc in omega arith
empty_names (suc zero) c l e = let z : ◌≡◌ {A = ℕ} 0 1 = cc in omega arith
empty_names (suc (suc zero)) c l e = let z : ◌≡◌ {A = ℕ} 0 1 = cc in omega arith
empty_names (suc (suc (suc zero))) c l e = let z : ◌≡◌ {A = ℕ} 0 1 = cc in omega arith
empty_names (suc (suc (suc (suc k)))) c l e = omega arith

-- the names that four fields give up, the first of them first
abbrev hold_four : List Field → List ℕ → List ℕ
hold_four fs names = hold (nth fs 0) (hold (nth fs 1) (hold (nth fs 2) (hold (nth fs 3) names)))

times_four : (fs : List Field) (names : List ℕ) (d : ℕ) → times d (hold_four fs names) ≡ names_in d fs + times d names
times_four fs names d =
    let n₃ = hold (nth fs 3) names in
    let n₂ = hold (nth fs 2) n₃ in
    let n₁ = hold (nth fs 1) n₂ in
    omega (arith, times_hold (nth fs 3) names d, times_hold (nth fs 2) n₃ d, times_hold (nth fs 1) n₂ d, times_hold (nth fs 0) n₁ d)

let_go_four_sound : (m : Memory) (names : List ℕ) (fs : List Field) → Sound m (hold_four fs names) → Sound (let_go_four fs m) names
let_go_four_sound m names fs s =
    let n₃ = hold (nth fs 3) names in
    let n₂ = hold (nth fs 2) n₃ in
    let n₁ = hold (nth fs 1) n₂ in
    let m₁ = let_go_field (nth fs 0) m in
    let m₂ = let_go_field (nth fs 1) m₁ in
    let m₃ = let_go_field (nth fs 2) m₂ in
    let_go_field_sound m₃ names (nth fs 3) (let_go_field_sound m₂ n₃ (nth fs 2) (let_go_field_sound m₁ n₂ (nth fs 1) (let_go_field_sound m n₁ (nth fs 0) s)))

-- the first waiting cell w becomes the first free one, and its fields' names are held outside
module _ (m : Memory) (names : List ℕ) (w : ℕ) (rest : List ℕ) (s : Sound m names) (isw : s.waiting ≡ w ∷ rest) where
  wait_chain : Chain m.cells m.heads.waiting (w ∷ rest)
  wait_chain = subst (λ xs. Chain m.cells m.heads.waiting xs) isw s.waiting_chain

  wait_in : w < length m.cells
  wait_in = wait_chain.2

  wait_once : (d : ℕ) → times d s.free + times d (w ∷ rest) ≤ 1
  wait_once d = subst (λ xs. times d s.free + times d xs ≤ 1) isw (s.distinct d)

  wait_idle : (d : ℕ) → 0 < times d (w ∷ rest) → count_at m.cells d ≡ 0
  wait_idle d p = s.idle d (subst (λ xs. 0 < times d xs) (sym isw) p)

  wait_unnamed : (naming w m.cells ≡ 0) × (times w names ≡ 0)
  wait_unnamed =
      let e = s.counted w wait_in in
      let z = wait_idle w (times_here w rest) in
      (omega (arith, e, z), omega (arith, e, z))

  retired : Sound (freed w (unlink w m)) (hold_four (fields_at m.cells w) names)
  retired =
      let cs = m.cells in
      let fs = fields_at cs w in
      let x = cell (count_at cs w) m.heads.free four_empty in
      let ds = set cs w x in
      let l = wait_in in
      let held = hold_four fs names in
      let not_free : (d : ℕ) → 0 < times d s.free → d ≡ w → ⊥ = λ d p e. omega (arith, p, wait_once w, same_self w, ap (λ i. times i s.free) e) in
      let not_rest : (d : ℕ) → 0 < times d rest → d ≡ w → ⊥ = λ d p e. omega (arith, p, wait_once w, same_self w, ap (λ i. times i rest) e) in
      let naming_now : (d : ℕ) → naming d ds + names_in d fs ≡ naming d cs = λ d. omega (arith, naming_set cs w x d l) in
      record {
        few = omega (arith, s.few, length-set cs w x);
        free = w ∷ s.free;
        waiting = rest;
        free_chain = (
          refl,
          wait_chain.1,
          below_in cs w x w l,
          subst (λ h. Chain ds h s.free) (sym (ap (λ (y : Cell). y.link) (cell_same cs w x l)))
              (chain_like cs ds m.heads.free s.free (length-set cs w x) (λ d p. ap (λ (y : Cell). y.link) (cell_other cs w x d (not_free d p))) s.free_chain),
        );
        waiting_chain = chain_like cs ds (link_at cs w) rest (length-set cs w x) (λ d p. ap (λ (y : Cell). y.link) (cell_other cs w x d (not_rest d p))) wait_chain.3;
        distinct = λ d. omega (arith, wait_once d);
        blank = λ d p. on_set cs w x l (λ y. (y.count ≡ 0) × (y.fields ≡ four_empty)) d
            (λ e. (wait_idle w (times_here w rest), refl))
            (λ n. s.blank d (omega (arith, p, same_not d w n)));
        within = λ d k e lk. on_set cs w x l (λ y. nth y.fields k ≡ field.Cell e → e < length ds) d
            (λ q h. absurd (empty_names k e lk h))
            (λ n h. below_in cs w x e (s.within d k e lk h));
        named = λ d p. below_in cs w x d (⊎_elim
            (λ q. let f = names_in_find d fs q in s.within w f.0 d f.1 f.2)
            (λ q. s.named d (omega (arith, p, times_four fs names d, q)))
            (cases_lt 0 (names_in d fs)));
        counted = λ d ld. on_set cs w x l (λ y. y.count ≡ naming d ds + times d held) d
            (λ e. subst (λ i. count_at cs w ≡ naming i ds + times i held) (sym e) (omega (arith, naming_now w, s.counted w l, times_four fs names w)))
            (λ n. omega (arith, naming_now d, s.counted d (below_set cs w x d ld), times_four fs names d));
        idle = λ d p. on_set cs w x l (λ y. y.count ≡ 0) d (λ e. absurd (not_rest d p e)) (λ n. wait_idle d (omega (arith, p)));
        waits = λ d ld. on_set cs w x l (λ y. y.count ≡ 0 → 0 < times d (w ∷ s.free) + times d rest) d
            (λ e z. omega (arith, same_is d w e))
            (λ n z. omega (arith, subst (λ xs. 0 < times d s.free + times d xs) isw (s.waits d (below_set cs w x d ld) z)));
        rank = s.rank;
        falls = λ d k e lk. on_set cs w x l (λ y. nth y.fields k ≡ field.Cell e → s.rank e < s.rank d) d
            (λ q h. absurd (empty_names k e lk h))
            (λ n h. s.falls d k e lk h);
      }

  sweep_sound : Sound (sweep_memory (Ok (Some w)) m) names
  sweep_sound =
      let fs = fields_at m.cells w in
      subst (λ (v : Memory). Sound v names) (let_go_four_freed (unlink w m) w fs (λ k l e. unnamed m.cells w w k wait_unnamed.0 l e))
      (let_go_four_sound (freed w (unlink w m)) names fs retired)

  sweep_keeps : {T : Type 0} (ls : List T) → SweepKeeps m (sweep_memory (Ok (Some w)) m) ls w names
  sweep_keeps ls =
      let n = sweep_memory (Ok (Some w)) m in
      let cs = m.cells in
      let mid = let_go_four (fields_at cs w) (unlink w m) in
      let frame : Frame (λ d. d ≡ w → ⊥) cs n.cells ls ls =
      all_but cs n.cells ls ls w wait_unnamed.0
      (λ d k. ap (λ (y : Cell). y.fields) (cell_other mid.cells w (cell (count_at mid.cells w) mid.heads.free four_empty) d k) ∙ four_fields (unlink w m) (fields_at cs w) d)
      (λ d y k. refl) in
      let ends = chain_head n.cells w sweep_sound.free sweep_sound.free_chain (λ e. omega (arith, e, wait_chain.1)) in
      record {
        sound = sweep_sound;
        waited = in_waits m names s w (subst (λ xs. 0 < times w xs) (sym isw) (times_here w rest));
        «is_free» = in_free n names sweep_sound w (subst (λ xs. 0 < times w xs) (sym ends.1) (times_here w ends.0));
        unreached = λ e p r. away e p r;
        stands = λ d x k st. framed (λ d. d ≡ w → ⊥) frame (field.Cell d) x (λ e q z. k (cell_is d e q ∙ z)) st;
        reaches = λ d e k p. (walked (λ d. d ≡ w → ⊥) frame d e k p).1;
      }
    where
      away : (e : ℕ) → 0 < times e names → Reaches m.cells e w → ⊥
      away e p here = omega (arith, p, wait_unnamed.1)
      away e p (down {d = d} k l r h) = unnamed m.cells w d k wait_unnamed.0 l h

pub sweep_promises : {T : Type 0} (m : Memory) (ls : List T) (r : Result (Option ℕ) Fault) (n : Memory) → r ≡ sweep_answer m (length ls) → n ≡ sweep_memory r m → SweepPromises m ls r n
sweep_promises {T} m ls (Ok None) n a b = λ names s e wt. go names s e wt (eqb m.heads.waiting none) (ltb m.heads.waiting (length m.cells) && ltb m.heads.waiting (length ls)) refl a
  where
    go : (names : List ℕ) (s : Sound m names) (e : ℕ) → Waits m e → (t u : Bool) → eqb m.heads.waiting none ≡ t → Ok None ≡ cond t (Ok None) (cond u (Ok (Some m.heads.waiting)) (Err damaged)) → ⊥
    go names s e wt true u p q =
        let z : 0 < times e [] = subst (λ xs. 0 < times e xs) (chain_none m.cells m.heads.waiting s.waiting s.waiting_chain (eqb-true m.heads.waiting none p)) (waits_in m names s e wt) in
        omega (arith, z)
    go names s e wt false true p q = let z : ◌≡◌ {A = ℕ} 0 1 = cc in omega arith
    go names s e wt false false p q = let z : ◌≡◌ {A = ℕ} 0 1 = cc in omega arith
sweep_promises {T} m ls (Ok (Some w)) n a b = λ names s. subst (λ (v : Memory). SweepKeeps m v ls w names) (sym b) (go names s (eqb m.heads.waiting none) (ltb m.heads.waiting (length m.cells) && ltb m.heads.waiting (length ls)) refl a)
  where
    go : (names : List ℕ) (s : Sound m names) (t u : Bool) → eqb m.heads.waiting none ≡ t → Ok (Some w) ≡ cond t (Ok None) (cond u (Ok (Some m.heads.waiting)) (Err damaged)) → SweepKeeps m (sweep_memory (Ok (Some w)) m) ls w names
    go names s true u p q = let z : ◌≡◌ {A = ℕ} 0 1 = cc in absurd (omega arith)
    go names s false false p q = let z : ◌≡◌ {A = ℕ} 0 1 = cc in absurd (omega arith)
    go names s false true p q =
        let e : w ≡ m.heads.waiting = cc in
        let ends = chain_head m.cells m.heads.waiting s.waiting s.waiting_chain (eqb-false m.heads.waiting none p) in
        sweep_keeps m names w ends.0 s (ends.1 ∙ ap (λ i. i ∷ ends.0) (sym e)) ls
sweep_promises {T} m ls (Err f) n a b = λ names s long. go names s long (eqb m.heads.waiting none) refl a
  where
    go : (names : List ℕ) (s : Sound m names) → length m.cells ≤ length ls → (t : Bool) → eqb m.heads.waiting none ≡ t
        → Err f ≡ cond t (Ok None) (cond (ltb m.heads.waiting (length m.cells) && ltb m.heads.waiting (length ls)) (Ok (Some m.heads.waiting)) (Err damaged)) → ⊥
    go names s long true p q = let z : ◌≡◌ {A = ℕ} 0 1 = cc in omega arith
    go names s long false p q =
        let h = m.heads.waiting in
        let ends = chain_head m.cells h s.waiting s.waiting_chain (eqb-false h none p) in
        let l : h < length m.cells = (subst (λ xs. Chain m.cells h xs) ends.1 s.waiting_chain).2 in
        let t = and_from (ltb h (length m.cells)) (ltb h (length ls)) (lt-ltb h (length m.cells) l) (lt-ltb h (length ls) (omega (arith, l, long))) in
        let e : cond (ltb h (length m.cells) && ltb h (length ls)) (Ok (Some h)) (Err damaged) ≡ Ok (Some h) = cond-true (ltb h (length m.cells) && ltb h (length ls)) (Ok (Some h)) (Err damaged) t in
        let z : ◌≡◌ {A = ℕ} 0 1 = cc in
        omega arith
