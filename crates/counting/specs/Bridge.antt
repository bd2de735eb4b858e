-- From the fields of a counting keeper to its state.
use Rattle.std.specs.Prelude.{◌≡◌, ℕ, zero, suc, ◌+◌, ◌<◌, ◌≤◌, Bool, true, false, cond, ◌∷◌, take, replicate, ◌≢◌, slice_index_or, slice_set, refl}
use Rattle.std.proofs.Common.{⊎_elim, sym, ap, ◌∙◌, subst, arith, add-one, None, Option}
use Rattle.std.proofs.lemmas.List.{take-replicate, length-replicate, get_or_past, get_or-take}
use Rattle.std.proofs.lemmas.Bool.{cases_lt, false≢true}
use Rattle.std.proofs.lemmas.Bool.Decides.{nat_tests}
use Rattle.keeper.specs.declared.version.Version.{Version}
use Rattle.keeper.specs.declared.stage.Stage.{Stage}
use Rattle.keeper.specs.declared.stage.Stage.TheVariants.{Idle, Opening}
use Rattle.keeper.specs.Totals.{total}
use Rattle.keeper.specs.Stages.{uses, engaged, moving}
use Rattle.keeper.specs.Meaning.{is_serial, version}
use Rattle.keeper.proofs.Totals.{total_at}
use Rattle.keeper.proofs.Fronts.{front_set}
use Rattle.counting.specs.declared.rows.Row.{Row}
use Rattle.counting.specs.declared.state.Counting.{Counting}
use Rattle.counting.specs.State.{State, Sized, Filled, Counted, view, on_row, used_by, steady, taken}
use Rattle.counting.specs.Moves.{opening, stage_at, row_at, place, put, both, lowered, count, last_one, close_ends, fresh}
use Rattle.counting.specs.Model.{state_of}
use Rattle.counting.specs.Crowd.{crowd}
use Rattle.counting.specs.Good.{Good, changed}

pub good : (k : Counting) → Good (state_of k)
good k = record { sized = k.sized; filled = k.filled; counted = k.counted }

-- the ghost fields of a keeper, as a check asks for them
abbrev pub Fields : State → Type 0
Fields v = Sized v × (Filled v × (Counted v × Unit {0}))

pub fields : (v w : State) → v ≡ w → Good w → Fields v
fields v w e g = subst Fields (sym e) (g.sized, (g.filled, (g.counted, tt)))

module _ (k : Counting) where
  pub stage_here : (p : ℕ) → p < k.programs → stage_at (state_of k) p ≡ slice_index_or k.stages p Idle
  stage_here p h = get_or-take k.programs k.stages p Idle h

  -- a program with steps left is one of the keeper's
  pub at_work : (p : ℕ) → moving (stage_at (state_of k) p) ≡ true → p < k.programs
  at_work p e = ⊎_elim (λ l. l)
      (λ past. absurd (false≢true (sym (ap moving (get_or_past (state_of k).stages p Idle (omega (arith, past, k.sized)))) ∙ e)))
      (cases_lt p k.programs)

  pub row_here : (i : ℕ) → i < k.programs + 1 → row_at (state_of k) i ≡ slice_index_or k.rows i None
  row_here i h = get_or-take (k.programs + 1) k.rows i None h

  pub view_put : (p : ℕ) (st : Stage) → view k.programs k.last k.current k.rows (slice_set k.stages p st) ≡ put (state_of k) p st
  view_put p st = simp front_set

  pub view_changed : (c : Version) (p : ℕ) (st : Stage) (i : ℕ) (r : Option Row) → view k.programs k.last c (slice_set k.rows i r) (slice_set k.stages p st) ≡ changed (state_of k) c p st i r
  view_changed c p st i r = simp front_set

  -- a write of row i, which is the row of a serial, to what f makes of it
  pub view_row : (f : Option Row → Option Row) (s p : ℕ) (st : Stage) (i : ℕ) (r : Option Row) → i ≡ place (state_of k) s → i < k.programs + 1 → r ≡ f (slice_index_or k.rows i None)
      → view k.programs k.last k.current (slice_set k.rows i r) (slice_set k.stages p st) ≡ both (state_of k) p st (place (state_of k) s) (f (row_at (state_of k) (place (state_of k) s)))
  view_row f s p st i r e h is =
      let at : r ≡ f (row_at (state_of k) (place (state_of k) s)) = is ∙ ap f (sym (row_here i h)) ∙ ap (λ j. f (row_at (state_of k) j)) e in
      view_changed k.current p st i r ∙ ap (λ j. both (state_of k) p st j r) e ∙ ap (both (state_of k) p st (place (state_of k) s)) at

  pub few_users : (i : ℕ) → i < k.programs + 1 → count (slice_index_or k.rows i None) ≤ 8
  few_users i h =
      let v = state_of k in
      omega (
        arith,
        ap count (row_here i h),
        total_at count v.rows i None (omega (arith, k.sized)),
        crowd engaged v.rows v.stages k.filled.1 (λ s. omega (arith, k.counted.0 s)),
        k.sized,
      )

  -- a close, by whether it hands the version out
  pub view_closed : (b : Bool) (s p i : ℕ) (r : Option Row) → last_one (state_of k) s ≡ b → i ≡ place (state_of k) s → i < k.programs + 1 → r ≡ cond b None (lowered (slice_index_or k.rows i None))
      → view k.programs k.last k.current (slice_set k.rows i r) (slice_set k.stages p Idle) ≡ close_ends (state_of k) p s
  view_closed b s p i r l e h is =
      view_row (λ x. cond b None (lowered x)) s p Idle i r e h is
      ∙ ap (λ x. both (state_of k) p Idle (place (state_of k) s) (cond x None (lowered (row_at (state_of k) (place (state_of k) s))))) (sym l)

  count_here : (s i : ℕ) → i ≡ place (state_of k) s → i < k.programs + 1 → count (row_at (state_of k) (place (state_of k) s)) ≡ count (slice_index_or k.rows i None)
  count_here s i e h = ap (λ j. count (row_at (state_of k) j)) (sym e) ∙ ap count (row_here i h)

  pub frees : (s i : ℕ) → i ≡ place (state_of k) s → i < k.programs + 1 → count (slice_index_or k.rows i None) ≡ 1 → (s ≢ k.current.serial) → last_one (state_of k) s ≡ true
  frees s i e h one old = grind (arith, nat_tests, count_here s i e h)

  pub stays : (s i : ℕ) → i ≡ place (state_of k) s → i < k.programs + 1 → (count (slice_index_or k.rows i None) ≡ 1 → s ≡ k.current.serial) → last_one (state_of k) s ≡ false
  stays s i e h now = grind (arith, nat_tests, count_here s i e h)

-- a keeper just made
total_none : {A : Type 0} (f : A → ℕ) (x : A) → f x ≡ 0 → (n : ℕ) → total f (replicate n x) ≡ 0
total_none f x e zero = refl
total_none f x e (suc n) = omega (arith, e, total_none f x e n)

get_d_same : (n p : ℕ) → slice_index_or (replicate n Idle) p Idle ≡ Idle
get_d_same zero p = refl
get_d_same (suc n) zero = refl
get_d_same (suc n) (suc p) = get_d_same n p

pub view_fresh : (p l : ℕ) → p ≤ 8 → view p l (version 0 0) (taken (version 0 0) 0 ∷ replicate 8 None) (replicate 8 Idle) ≡ fresh p l
view_fresh p l h =
    let rows : take (p + 1) (taken (version 0 0) 0 ∷ replicate 8 None) ≡ taken (version 0 0) 0 ∷ replicate p None =
    ap (λ n. take n (taken (version 0 0) 0 ∷ replicate 8 None)) (add-one p) ∙ ap (λ rs. taken (version 0 0) 0 ∷ rs) (take-replicate p 8 None h) in
    let stages : take p (replicate 8 Idle) ≡ replicate p Idle = take-replicate p 8 Idle h in
    λ i. record { programs = p; last = l; current = version 0 0; rows = rows i; stages = stages i }

pub fresh_good : (p l : ℕ) → p ≤ 8 → l ≤ 4000000000 → Good (fresh p l)
fresh_good p l few limit = record {
  sized = (few, simp length-replicate (omega arith), length-replicate p Idle, limit, omega arith);
  filled = (omega arith, (λ s. grind (arith, nat_tests, total_none (on_row (is_serial s)) None refl p)), (λ s h. grind (arith, nat_tests, total_none (on_row (is_serial s)) None refl p)));
  counted = (
    (λ s. grind (arith, nat_tests, total_none (used_by s) None refl p, total_none (uses s) Idle refl p)),
    (λ s ne. grind (arith, nat_tests, total_none (on_row (is_serial s)) None refl p)),
    (λ q. ap (steady 0 l) (get_d_same p q)),
  );
}

pub opens_moving : (st : Stage) → opening st ≡ true → moving st ≡ true
opens_moving (Opening since bound) e = e
opens_moving st e = absurd cc
