-- Every move of the counting keeper keeps what always holds.
use Rattle.std.specs.Prelude.{◌≡◌, ℕ, ◌+◌, ◌<◌, ◌≤◌, true, List, length, Some, None, ◌≢◌, slice_index_or, slice_set, refl}
use Rattle.std.proofs.Common.{sym, subst, ⊎_elim, arith, length-set, get_or-set_same, get_or-set_other, Option}
use Rattle.std.proofs.lemmas.Bool.{cases_eq}
use Rattle.std.proofs.lemmas.Bool.Decides.{nat_tests}
use Rattle.keeper.specs.declared.version.Version.{Version}
use Rattle.keeper.specs.declared.stage.Stage.{Stage}
use Rattle.keeper.specs.declared.stage.Stage.TheVariants.{Idle, Opening, Open, Offering, Offered, Closing}
use Rattle.keeper.specs.Totals.{total}
use Rattle.keeper.specs.Stages.{uses}
use Rattle.keeper.specs.Meaning.{is_serial, same}
use Rattle.keeper.proofs.Totals.{total_set}
use Rattle.counting.specs.declared.rows.Row.{Row}
use Rattle.counting.specs.State.{State, Sized, Filled, Counted, on_row, used_by, steady}
use Rattle.counting.specs.Moves.{stage_at, row_at, put}

pub record Good (v : State) : Type 0 where
  pub sized : Sized v
  pub filled : Filled v
  pub counted : Counted v

-- program p at stage st, row i at r, and the current version at c
abbrev pub changed : State → Version → ℕ → Stage → ℕ → Option Row → State
changed v c p st i r = record {
  programs = v.programs;
  last = v.last;
  current = c;
  rows = slice_set v.rows i r;
  stages = slice_set v.stages p st;
}

steady_on : (c d l : ℕ) (st : Stage) → c ≤ d → steady c l st ≡ true → steady d l st ≡ true
steady_on c d l Idle h e = refl
steady_on c d l (Opening since None) h e = grind (arith, nat_tests)
steady_on c d l (Opening since (Some b)) h e = e
steady_on c d l (Open s) h e = refl
steady_on c d l (Offering r s) h e = e
steady_on c d l (Offered s) h e = refl
steady_on c d l (Closing s) h e = refl

-- what a write at p leaves of a fact about every stage
each_set : (P : Stage → Type 0) (xs : List Stage) (p : ℕ) (st : Stage) → p < length xs → P st → ((q : ℕ) → P (slice_index_or xs q Idle)) → (q : ℕ) → P (slice_index_or (slice_set xs p st) q Idle)
each_set P xs p st h here all q = ⊎_elim
    (λ (e : q ≡ p). subst (λ k. P (slice_index_or (slice_set xs p st) k Idle)) (sym e) (subst P (sym (get_or-set_same xs p st Idle h)) here))
    (λ (ne : q ≡ p → ⊥). subst P (sym (get_or-set_other xs p q st Idle ne)) (all q))
    (cases_eq q p)

module _ (v : State) (g : Good v) (p : ℕ) (within : p < v.programs) where
  seat : p < length v.stages
  seat = omega arith

  -- a move of a program alone
  pub put_good : (st : Stage) → ((s : ℕ) → uses s st ≡ uses s (stage_at v p)) → steady v.current.serial v.last st ≡ true → Good (put v p st)
  put_good st level calm = record {
    sized = simp length-set g.sized;
    filled = g.filled;
    counted = (
      (λ s. omega (arith, g.counted.0 s, level s, total_set (uses s) v.stages p st Idle seat)),
      g.counted.1,
      each_set (λ x. steady v.current.serial v.last x ≡ true) v.stages p st seat calm g.counted.2,
    );
  }

  -- a move of a program with a row
  pub changed_good : (c : Version) (st : Stage) (i : ℕ) (r : Option Row) → i < length v.rows
      → c.serial ≤ v.last → v.current.serial ≤ c.serial
      → steady c.serial v.last st ≡ true
      → 0 < total (on_row (same c)) (slice_set v.rows i r)
      → ((s : ℕ) → total (on_row (is_serial s)) v.rows + on_row (is_serial s) r ≤ 1 + on_row (is_serial s) (row_at v i))
      → ((s : ℕ) → c.serial < s → on_row (is_serial s) r ≤ on_row (is_serial s) (row_at v i))
      → ((s : ℕ) → used_by s r + uses s (stage_at v p) ≡ used_by s (row_at v i) + uses s st)
      → ((s : ℕ) → (s ≢ c.serial) → total (on_row (is_serial s)) v.rows + on_row (is_serial s) r + used_by s (row_at v i) ≤ total (used_by s) v.rows + used_by s r + on_row (is_serial s) (row_at v i))
      → Good (changed v c p st i r)
  changed_good c st i r at reach later calm stands once below level wanted = record {
    sized = simp length-set (g.sized.0, g.sized.1, g.sized.2, g.sized.3, reach);
    filled = (
      stands,
      (λ s. omega (arith, once s, held s)),
      (λ s h. omega (arith, below s h, held s, g.filled.2 s (omega arith))),
    );
    counted = (
      (λ s. omega (arith, g.counted.0 s, level s, total_set (uses s) v.stages p st Idle seat, usage s)),
      (λ s ne. omega (arith, wanted s ne, held s, usage s)),
      each_set (λ x. steady c.serial v.last x ≡ true) v.stages p st seat calm (λ q. steady_on v.current.serial c.serial v.last (stage_at v q) later (g.counted.2 q)),
    );
  }
    where
      held : (s : ℕ) → total (on_row (is_serial s)) (slice_set v.rows i r) + on_row (is_serial s) (row_at v i) ≡ total (on_row (is_serial s)) v.rows + on_row (is_serial s) r
      held s = total_set (on_row (is_serial s)) v.rows i r None at

      usage : (s : ℕ) → total (used_by s) (slice_set v.rows i r) + used_by s (row_at v i) ≡ total (used_by s) v.rows + used_by s r
      usage s = total_set (used_by s) v.rows i r None at
