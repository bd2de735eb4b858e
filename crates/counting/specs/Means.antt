-- The meaning of a state that holds what always holds: its laws, and what each move does to it.
use Rattle.std.specs.Prelude.{◌≡◌, ℕ, zero, suc, ◌+◌, ◌<◌, ◌≤◌, Bool, true, false, cond, List, [], ◌∷◌, map, length, get_or, set, Some, None, Option, ◌==◌, ◌≢◌, slice_index_or, slice_set, refl}
use Rattle.std.proofs.Common.{sym, ap, ◌∙◌, subst, inl, ⊎_elim, arith, length-set, get_or-set_same, get_or-set_other, not}
use Rattle.std.proofs.lemmas.Option.{none-some}
use Rattle.std.proofs.lemmas.List.{length-map, get_or_past, map-set}
use Rattle.std.proofs.lemmas.Bool.{cases_eq, cases_lt, eqb-true, false≢true}
use Rattle.std.proofs.lemmas.Bool.Decides.{nat_tests}
use Rattle.keeper.specs.declared.version.Version.{Version}
use Rattle.keeper.specs.declared.stage.Stage.{Stage}
use Rattle.keeper.specs.declared.stage.Stage.TheVariants.{Idle, Opening, Open, Offering, Offered, Closing}
use Rattle.keeper.specs.Totals.{total}
use Rattle.keeper.specs.Stages.{named, has, engaged, uses}
use Rattle.keeper.specs.Meaning.{Meaning, Laws, Paced, is_serial, same, version, root_at, left_of}
use Rattle.keeper.specs.Effects.{Begun, Frame, StepDone}
use Rattle.keeper.specs.declared.outcome.Outcome.TheVariants.{Opened, Accepted, Stale, Nothing, HandedOut}
use Rattle.keeper.proofs.Totals.{total_set, total_at, get_d_map}
use Rattle.counting.specs.declared.rows.Row.{Row}
use Rattle.counting.specs.State.{State, on_row, steady, holds, empty, first, taken}
use Rattle.counting.specs.Moves.{kept_of, pace, meaning_of, stage_at, row_at, place, put, both, raised, lowered, count, root_in, opening, open_ends, accepts, offer_ends, offer_answers, last_one, close_ends, close_answers}
use Rattle.std.proofs.lemmas.List.Sums.{passes_at_first}
use Rattle.counting.specs.Good.{Good}
use Rattle.counting.specs.Steps.{current_held, used_held, placed, placed_holds, placed_counts, room, unbound, emptied, closing_held}

pub total_kept : (f : Version → ℕ) (rs : List (Option Row)) → total f (kept_of rs) ≡ total (on_row f) rs
total_kept f [] = refl
total_kept f (None ∷ rs) = omega (arith, total_kept f rs)
total_kept f (Some row ∷ rs) = omega (arith, total_kept f rs)

further : (s : ℕ) (r : Option Row) (rs : List (Option Row)) (i : ℕ) → root_at s (kept_of rs) ≡ root_in (slice_index_or rs i None) → root_at s (kept_of rs) ≡ root_in (slice_index_or (r ∷ rs) (1 + i) None)
further s r rs i ih =
    let e : suc i ≡ 1 + i = omega arith in
    subst (λ j. root_at s (kept_of rs) ≡ root_in (slice_index_or (r ∷ rs) j None)) e ih

pub root_at_is : (s : ℕ) (rs : List (Option Row)) → root_at s (kept_of rs) ≡ root_in (slice_index_or rs (first (holds s) rs) None)
root_at_is s [] = refl
root_at_is s (None ∷ rs) = further s None rs (first (holds s) rs) (root_at_is s rs)
root_at_is s (Some row ∷ rs) = go (s == row.version.serial) (root_at_is s rs)
  where
    go : (b : Bool) → root_at s (kept_of rs) ≡ root_in (slice_index_or rs (first (holds s) rs) None) → cond b row.version.root (root_at s (kept_of rs)) ≡ root_in (slice_index_or (Some row ∷ rs) (cond (not b) (1 + first (holds s) rs) 0) None)
    go true ih = refl
    go false ih = further s (Some row) rs (first (holds s) rs) ih

kept_raised : (rs : List (Option Row)) (i : ℕ) → kept_of (slice_set rs i (raised (slice_index_or rs i None))) ≡ kept_of rs
kept_raised [] i = refl
kept_raised (None ∷ rs) zero = refl
kept_raised (Some row ∷ rs) zero = refl
kept_raised (None ∷ rs) (suc i) = kept_raised rs i
kept_raised (Some row ∷ rs) (suc i) = ap (λ l. row.version ∷ l) (kept_raised rs i)

kept_lowered : (rs : List (Option Row)) (i : ℕ) → kept_of (slice_set rs i (lowered (slice_index_or rs i None))) ≡ kept_of rs
kept_lowered [] i = refl
kept_lowered (None ∷ rs) zero = refl
kept_lowered (Some row ∷ rs) zero = refl
kept_lowered (None ∷ rs) (suc i) = kept_lowered rs i
kept_lowered (Some row ∷ rs) (suc i) = ap (λ l. row.version ∷ l) (kept_lowered rs i)

paced : (st : Stage) → Paced st (pace st)
paced Idle = refl
paced (Opening since bound) = omega arith
paced (Open s) = refl
paced (Offering r s) = omega arith
paced (Offered s) = refl
paced (Closing s) = omega arith

pub has_engaged : (st : Stage) (s : ℕ) → has st ≡ Some s → engaged st ≡ Some s
has_engaged Idle s e = e
has_engaged (Opening since bound) s e = e
has_engaged (Open b) s e = e
has_engaged (Offering r b) s e = e
has_engaged (Offered b) s e = e
has_engaged (Closing b) s e = absurd (none-some s e)

-- steps left go with the stage
left_at_is : (v : State) (p : ℕ) → left_of (meaning_of v) p ≡ pace (stage_at v p)
left_at_is v p = get_d_map pace v.stages p Idle

pub laws : (v : State) → Good v → Laws (meaning_of v)
laws v g = record {
  staged = g.sized.2;
  timed = length-map v.stages pace ∙ g.sized.2;
  current = omega (arith, total_kept (same v.current) v.rows, g.filled.0);
  once = λ s. omega (arith, total_kept (is_serial s) v.rows, g.filled.1 s);
  had = λ p s e. omega (arith, total_kept (is_serial s) v.rows, had p s e);
  used = λ s h ne. omega (arith, total_kept (is_serial s) v.rows, g.counted.1 s ne, g.counted.0 s);
  paced = λ p. subst (Paced (stage_at v p)) (sym (left_at_is v p)) (paced (stage_at v p));
}
  where
    had : (p s : ℕ) → has (stage_at v p) ≡ Some s → 0 < total (on_row (is_serial s)) v.rows
    had p s e = ⊎_elim
        (λ (h : p < v.programs). used_held v g p s h (has_engaged (stage_at v p) s e))
        (λ (h : v.programs ≤ p). absurd (none-some s (sym (ap has (get_or_past v.stages p Idle (omega (arith, g.sized)))) ∙ e)))
        (cases_lt p v.programs)

-- m with other steps left
abbrev with_left : Meaning → List ℕ → Meaning
with_left m l = record {
  programs = m.programs;
  last = m.last;
  current = m.current;
  kept = m.kept;
  stages = m.stages;
  left = l;
  declared = m.declared;
}

module _ (v : State) (g : Good v) (p : ℕ) (within : p < v.programs) where
  at_p : (st : Stage) → slice_index_or (slice_set v.stages p st) p Idle ≡ st
  at_p st = get_or-set_same v.stages p st Idle (omega (arith, g.sized))

  pub begun : (st : Stage) → pace st ≡ 1 → Begun (meaning_of v) p st 1 (meaning_of (put v p st))
  begun st one =
      let left : left_of (meaning_of (put v p st)) p ≡ pace st = left_at_is (put v p st) p ∙ ap pace (at_p st) in
      record {
        after = ap (with_left (meaning_of (put v p st))) (map-set pace v.stages p st ∙ ap (set (map pace v.stages) p) (sym left));
        few = omega (arith, one, left);
      }

  -- what every step leaves alone
  frame : (w : State) (st : Stage) → w.programs ≡ v.programs → w.last ≡ v.last → w.stages ≡ slice_set v.stages p st → Frame (meaning_of v) p (meaning_of w)
  frame w st programs last stages = record {
    programs = programs;
    last = last;
    declared = refl;
    others = λ q ne. inl (kept_stage q ne);
    slower = λ q ne. omega (arith, left_at_is v q, left_at_is w q, ap pace (kept_stage q ne));
  }
    where
      kept_stage : (q : ℕ) → (q ≢ p) → stage_at w q ≡ stage_at v q
      kept_stage q ne = ap (λ l. get_or l q Idle) stages ∙ get_or-set_other v.stages p q st Idle ne

  pub open_step : (since : ℕ) (bound : Option ℕ) → stage_at v p ≡ Opening since bound → StepDone (meaning_of v) p (meaning_of (open_ends v p)) (Opened v.current.serial)
  open_step since bound e =
      let c = v.current.serial in
      let free : bound ≡ None = sym (ap engaged e) ∙ unbound c v.last (stage_at v p) (ap opening e) (g.counted.2 p) in
      let calm : steady c v.last (Opening since None) ≡ true = subst (λ b. steady c v.last (Opening since b) ≡ true) free (subst (λ st. steady c v.last st ≡ true) e (g.counted.2 p)) in (
        frame (open_ends v p) (Open c) refl refl refl,
        record {
          since = since;
          bound = None;
          was = e ∙ ap (Opening since) free;
          chosen = record {
            kept = omega (arith, total_kept (is_serial c) v.rows, current_held v g);
            from = grind (arith, nat_tests, calm);
            to = omega arith;
          };
          agrees = tt;
          is = at_p (Open c);
          versions = record { current = refl; kept = kept_raised v.rows (place v c) };
        },
      )

  pub offer_step : (r s : ℕ) → stage_at v p ≡ Offering r s → StepDone (meaning_of v) p (meaning_of (offer_ends v p r s)) (offer_answers v s)
  offer_step r s e = go (s == v.current.serial) refl
    where
      go : (b : Bool) → (s == v.current.serial) ≡ b → StepDone (meaning_of v) p (meaning_of (cond b (accepts v p r s) (put v p (Offered s)))) (cond b (Accepted (s + 1)) Stale)
      go true t =
          let same : s ≡ v.current.serial = eqb-true s v.current.serial t in
          let i = first empty v.rows in
          let at = room v g p within (ap engaged e ∙ ap (λ k. Some k) same) in
          let old : row_at v i ≡ None = emptied (row_at v i) (passes_at_first empty v.rows None at) in
          let n : Version = version (s + 1) r in (
            frame (accepts v p r s) (Offered s) refl refl refl,
            record {
              root = r;
              over = s;
              was = e;
              current = same;
              serial = refl;
              replaced = refl;
              added = λ f. omega (arith, total_kept f v.rows, total_kept f (slice_set v.rows i (taken n 0)), total_set (on_row f) v.rows i (taken n 0) None at, ap (on_row f) old);
              is = at_p (Offered s);
            },
          )
      go false t = (
        frame (put v p (Offered s)) (Offered s) refl refl refl,
        record {
          root = r;
          over = s;
          was = e;
          old = λ h. grind (arith, nat_tests, t);
          is = at_p (Offered s);
          versions = record { current = refl; kept = refl };
        },
      )

  pub close_step : (s : ℕ) → stage_at v p ≡ Closing s → StepDone (meaning_of v) p (meaning_of (close_ends v p s)) (close_answers v s)
  close_step s e = go (last_one v s) refl
    where
      there : 0 < total (on_row (is_serial s)) v.rows
      there = closing_held v g p within s e

      at : place v s < length v.rows
      at = placed v g s there

      there_root : (f : Version → ℕ) (r : Option Row) → holds s r ≡ true → on_row f r ≡ f (version s (root_in r))
      there_root f None h = absurd (false≢true h)
      there_root f (Some row) h = ap (λ k. f (version k row.version.root)) (sym (eqb-true s row.version.serial h))

      -- a program that has s is another one, and the row would count two
      unused : count (row_at v (place v s)) ≡ 1 → (q : ℕ) → has (stage_at v q) ≢ Some s
      unused only q h = ⊎_elim
          (λ (same : q ≡ p). absurd (none-some s (sym (ap (λ k. has (stage_at v k)) same ∙ ap has e) ∙ h)))
          (λ (other : q ≡ p → ⊥). ⊎_elim
          (λ (in_range : q < v.programs).
          let rest = set v.stages p Idle in
          let own : uses s (stage_at v p) ≡ 1 = ap (uses s) e ∙ grind (arith, nat_tests) in
          let theirs : uses s (slice_index_or (slice_set v.stages p Idle) q Idle) ≡ 1 = ap (uses s) (get_or-set_other v.stages p q Idle Idle other) ∙ ap (named s) (has_engaged (stage_at v q) s h) ∙ grind (arith, nat_tests) in
          omega (
            arith,
            only,
            own,
            theirs,
            placed_counts v g s there,
            g.counted.0 s,
            total_set (uses s) v.stages p Idle Idle (omega (arith, g.sized)),
            total_at (uses s) rest q Idle (simp length-set (omega (arith, g.sized))),
          ))
          (λ (far : v.programs ≤ q). absurd (none-some s (sym (ap has (get_or_past v.stages q Idle (omega (arith, g.sized)))) ∙ h)))
          (cases_lt q v.programs))
          (cases_eq q p)

      go : (b : Bool) → last_one v s ≡ b → StepDone (meaning_of v) p (meaning_of (both v p Idle (place v s) (cond b None (lowered (row_at v (place v s)))))) (cond b (HandedOut s) Nothing)
      go true l = (
        frame (both v p Idle (place v s) None) Idle refl refl refl,
        record {
          was = e;
          is = at_p Idle;
          kept = omega (arith, total_kept (is_serial s) v.rows, there);
          old = λ h. grind (arith, nat_tests, l);
          unused = unused (grind (arith, nat_tests, l));
          current = refl;
          removed = λ f. omega (
            arith,
            total_kept f v.rows,
            total_kept f (slice_set v.rows (place v s) None),
            total_set (on_row f) v.rows (place v s) None None at,
            there_root f (row_at v (place v s)) (placed_holds v g s there),
            ap (λ k. f (version s k)) (root_at_is s v.rows),
          );
        },
      )
      go false l = (
        frame (both v p Idle (place v s) (lowered (row_at v (place v s)))) Idle refl refl refl,
        record {
          serial = s;
          was = e;
          is = at_p Idle;
          versions = record { current = refl; kept = kept_lowered v.rows (place v s) };
        },
      )
