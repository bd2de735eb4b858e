-- From serials to moments: a serial from the one that was current at a program's call of open up to the present one was current at a
-- moment between the two.
use Rattle.std.proofs.Common.{◌≡◌, ℕ, ◌+◌, ◌≤◌, false, cond, ◌⊎◌, List, [], ◌∷◌, Ok, Err, Result, sym, refl, ap, ◌∙◌, inl, inr, ⊎_elim, arith}
use Rattle.std.proofs.lemmas.Bool.{cases_eq, eq-eqb, ne_eqb}
use Rattle.keeper.specs.Meaning.{stage_of}
use Rattle.keeper.specs.declared.outcome.Outcome.{Outcome}
use Rattle.keeper.specs.declared.outcome.Outcome.TheVariants.{GoesOn, Opened, Accepted, Stale, Nothing, HandedOut}
use Rattle.keeper.specs.declared.fault.Fault.{Fault}
use Rattle.exchange_theory.proofs.Held.{opened_has}
use Rattle.exchange_theory.specs.declared.calls.Call.{Call}
use Rattle.exchange_theory.specs.declared.calls.Call.TheVariants as call
use Rattle.exchange_theory.specs.World.{World}
use Rattle.exchange_theory.specs.declared.calls.Answer.{Answer}
use Rattle.exchange_theory.specs.declared.calls.Answer.TheVariants as answer
use Rattle.exchange_theory.specs.Story.{Story, tell, tell_step, tell_answer}
use Rattle.exchange_theory.specs.History.{Event, Reached, story}
use Rattle.exchange_theory.specs.Moments.{Throughout, is_open_of, CurrentSinceOpen, at_last, earlier, OpenedAtMoment, AsTold}
use Rattle.exchange_theory.specs.Promises.{Always, OpenedWasCurrent}
use Rattle.exchange_theory.proofs.Told.{meant}
use Rattle.exchange_theory.proofs.Runs.{past}

-- what is told after S keeps the serial at program p's call of open, and the current one rises by one at most
pub record Kept {T : Type 0} (p : ℕ) (S R : Story T) : Type 0 where
  pub since : R.since p ≡ S.since p
  pub rise : R.current ≤ S.current + 1

-- what is told after S is that program p called open
pub record Begun {T : Type 0} (p : ℕ) (S R : Story T) : Type 0 where
  pub since : R.since p ≡ S.current
  pub same : R.current ≡ S.current

stays : {T : Type 0} (p : ℕ) (S : Story T) → Kept p S S
stays p S = record { since = refl; rise = omega arith }

step_kept : {T : Type 0} (p q : ℕ) (o : Outcome) (S : Story T) → Kept p S (tell_step q o S)
step_kept p q GoesOn S = record { since = refl; rise = omega arith }
step_kept p q (Opened s) S = record { since = refl; rise = omega arith }
step_kept p q (Accepted t) S = record { since = refl; rise = omega arith }
step_kept p q Stale S = record { since = refl; rise = omega arith }
step_kept p q Nothing S = record { since = refl; rise = omega arith }
step_kept p q (HandedOut s) S = record { since = refl; rise = omega arith }

answer_kept : {T : Type 0} (p q : ℕ) (a : Answer T) (S : Story T) → Kept p S (tell_answer q a S)
answer_kept p q answer.Begun S = stays p S
answer_kept p q (answer.Stepped o) S = step_kept p q o S
answer_kept p q answer.Done S = stays p S
answer_kept p q (answer.Shown s) S = stays p S
answer_kept p q answer.Swept S = stays p S
answer_kept p q answer.Unswept S = stays p S

tells : {T : Type 0} (p : ℕ) (c : Call T) (r : Result (Answer T) Fault) (S : Story T) → ((is_open_of c r p ≡ false) × Kept p S (tell c r S)) ⊎ Begun p S (tell c r S)
tells p (call.Open q) (Ok a) S =
    ⊎_elim
    (λ e. inr (record { since = ap (λ b. cond b S.current (S.since p)) (eq-eqb p q e); same = refl }))
    (λ n. inl (ne_eqb p q n, record { since = ap (λ b. cond b S.current (S.since p)) (ne_eqb p q n); rise = omega arith }))
    (cases_eq p q)
tells p (call.Open q) (Err f) S = inl (refl, stays p S)
tells p (call.Publish q b) (Ok a) S = inl (refl, record { since = refl; rise = omega arith })
tells p (call.Publish q b) (Err f) S = inl (refl, stays p S)
tells p (call.Close q) (Ok a) S = inl (refl, record { since = refl; rise = omega arith })
tells p (call.Close q) (Err f) S = inl (refl, stays p S)
tells p (call.Step q) (Ok a) S = inl (refl, answer_kept p q a S)
tells p (call.Step q) (Err f) S = inl (refl, stays p S)
tells p (call.Root q a) (Ok x) S = inl (refl, record { since = refl; rise = omega arith })
tells p (call.Root q a) (Err f) S = inl (refl, stays p S)
tells p (call.Down q a k b) (Ok x) S = inl (refl, record { since = refl; rise = omega arith })
tells p (call.Down q a k b) (Err f) S = inl (refl, stays p S)
tells p (call.Look q a) (Ok x) S = inl (refl, stays p S)
tells p (call.Look q a) (Err f) S = inl (refl, stays p S)
tells p (call.Build q b ss leaf) (Ok x) S = inl (refl, record { since = refl; rise = omega arith })
tells p (call.Build q b ss leaf) (Err f) S = inl (refl, stays p S)
tells p call.Sweep (Ok x) S = inl (refl, stays p S)
tells p call.Sweep (Err f) S = inl (refl, stays p S)

pub moment : {T : Type 0} (leaf : T) (h : List (Event T)) (p s : ℕ) → (story leaf h).since p ≤ s → s ≤ (story leaf h).current → CurrentSinceOpen leaf p s h
moment leaf [] p s from to = at_last (omega (arith, to))
moment leaf (e ∷ h) p s from to =
    let S = story leaf h in
    ⊎_elim (λ same. at_last (sym same))
    (λ other.
    ⊎_elim
    (λ k. earlier e k.0 (moment leaf h p s (omega (arith, from, k.1.since)) (omega (arith, to, other, k.1.rise))))
    (λ b. absurd (omega (arith, from, to, other, b.since, b.same)))
    (tells p e.call e.answer S))
    (cases_eq s (story leaf (e ∷ h)).current)

-- an open that ended on s: s was current at a moment from the call of open to the step that ended it
at_moments : {T : Type 0} (leaf : T) (h : List (Event T)) → Always OpenedWasCurrent leaf h → Throughout (OpenedAtMoment leaf) h
at_moments leaf [] o = tt
at_moments leaf (e ∷ h) o = ((λ p s came. let x = o.0 p s came in moment leaf h p s x.0 x.1), at_moments leaf h o.1)

pub opened_at_moment : {T : Type 0} {leaf : T} {h : List (Event T)} {w : World T} → Reached leaf h w → Throughout (OpenedAtMoment leaf) h
opened_at_moment {leaf = leaf} {h = h} r = at_moments leaf h (past r).opened

pub as_told : {T : Type 0} {leaf : T} {h : List (Event T)} {w : World T} → Reached leaf h w → AsTold leaf h w
as_told {w = w} r =
    let i = meant r in
    record { current_told = i.now; opened_had = λ p s e. opened_has (stage_of w.keeper p) s (sym (i.opens p) ∙ e) }
