-- What every run tells of serials and steps, since the keeper means it.
use Rattle.keeper.proofs.Stages.{idle_is}
use Rattle.keeper.proofs.Totals.{total_find}
use Rattle.std.proofs.Common.{◌≡◌, ℕ, zero, suc, ◌<◌, Bool, true, false, cond, ◌&&◌, eqb, ltb, List, length, Some, None, Option, Result, sym, refl, ap, ◌∙◌, subst, ⊎_elim, arith}
use Rattle.std.proofs.lemmas.List.{get_or_past}
use Rattle.std.proofs.lemmas.Bool.{cases_eq, cases_lt, eqb-true, and_parts, ne_eqb}
use Rattle.keeper.specs.declared.stage.Stage.{Stage}
use Rattle.keeper.specs.declared.stage.Stage.TheVariants.{Idle, Opening, Open, Offering, Closing}
use Rattle.keeper.specs.declared.outcome.Outcome.TheVariants.{Opened, Accepted, Stale, HandedOut}
use Rattle.keeper.specs.declared.fault.Fault.{Fault}
use Rattle.keeper.specs.Stages.{has, engaged, uses, named, idle, serial_of}
use Rattle.keeper.specs.Refusals.{limits}
use Rattle.keeper.specs.Meaning.{Meaning, Laws, Paced, stage_of, left_of, times}
use Rattle.keeper.specs.Effects.{step_fault, publish_fault, open_fault, close_fault, root_answer}
use Rattle.keeper.proofs.Recall.{copies_times}
use Rattle.exchange_theory.specs.declared.column.Column.TheVariants as column
use Rattle.exchange_theory.specs.declared.calls.Call.{Call}
use Rattle.exchange_theory.specs.declared.calls.Call.TheVariants.{Open as CallOpen, Publish, Close, Step, Root, Down, Look, Build, Sweep}
use Rattle.exchange_theory.specs.declared.calls.Answer.{Answer}
use Rattle.exchange_theory.specs.World.{World, building_at}
use Rattle.exchange_theory.specs.Table.{allows}
use Rattle.exchange_theory.specs.Order.{filled, passing, fault_of}
use Rattle.exchange_theory.specs.Keeping.{Opens, Publishes, Closes, Steps}
use Rattle.exchange_theory.specs.Reading.{Roots, Downs, Looks}
use Rattle.exchange_theory.specs.Building.{Builds, Sweeps}
use Rattle.exchange_theory.specs.Did.{Did}
use Rattle.exchange_theory.specs.Make.{Fresh, idle_below, new_keeper, new_memory}
use Rattle.exchange_theory.specs.Story.{Story, resting, start, tell}
use Rattle.exchange_theory.specs.History.{Event, event, Reached, made, after, story}
use Rattle.exchange_theory.specs.Promises.{allowance, OpenedWasCurrent, HandedOutReplaced, StepInTime, PublishDecided}
use Rattle.exchange_theory.proofs.Accepted.{admitted, by_begun, by_stepped, by_done, by_shown, by_swept, step_from}
use Rattle.exchange_theory.proofs.Meant.{opened_at, task_at, one, MeantBy, meant_open, meant_publish, meant_close, meant_step, kept_low}

not_gone : (b : Bool) → one b ≡ 0 → b ≡ false
not_gone true e = absurd (omega (arith, e))
not_gone false e = refl

-- what the table says of a stage
pub opens_idle : (st : Stage) → allows st column.Open ≡ true → st ≡ Idle
opens_idle Idle e = refl
opens_idle st e = absurd cc

pub publishes_open : (st : Stage) → allows st column.Publish ≡ true → st ≡ Open (serial_of st)
publishes_open (Open s) e = refl
publishes_open st e = absurd cc

pub steps_moving : (st : Stage) → allows st column.Step ≡ true → task_at st ≡ resting → ⊥
steps_moving Idle e r = cc
steps_moving st e r = cc

-- where something is unfinished steps are left
left_some : (st : Stage) (n : ℕ) → Paced st n → (task_at st ≡ resting → ⊥) → 0 < n
left_some (Opening a c) n p b = p
left_some (Offering r s) n p b = p
left_some (Closing s) n p b = p
left_some st n p b = absurd (b refl)

engaged_from : (s : ℕ) (o : Option ℕ) → 0 < named s o → o ≡ Some s
engaged_from s None h = absurd (omega arith)
engaged_from s (Some b) h = ⊎_elim (λ e. ap Some (sym e)) (λ ne. let z : named s (Some b) ≡ 0 = ap {B = ℕ} (λ x. cond x 1 0) (ne_eqb s b ne) in absurd (omega (arith, h, z))) (cases_eq s b)

-- the laws hold at every moment
pub reached_laws : {T : Type 0} {leaf : T} {h : List (Event T)} {w : World T} → Reached leaf h w → Laws w.keeper
reached_laws (made ls f l) = l
reached_laws (after c r p d l) = l

idle_all : (m : Meaning) (n : ℕ) → idle_below m n ≡ true → (p : ℕ) → p < n → stage_of m p ≡ Idle
idle_all m zero e p l = absurd (omega arith)
idle_all m (suc n) e p l =
    let q = and_parts (idle_below m n) (idle (stage_of m n)) e in
    ⊎_elim (λ z. ap (stage_of m) z ∙ idle_is (stage_of m n) q.1) (λ ne. idle_all m n q.0 p (omega (arith, l, ne))) (cases_eq p n)

-- what makes an exchange: the parts of the test
pub record Ready {T : Type 0} (w : World T) (leaves : ℕ) : Type 0 where
  pub limited : limits w.keeper.programs w.keeper.last ≡ true
  pub memory : new_memory (length w.cells) leaves ≡ true
  pub serial : w.keeper.current.serial ≡ 0
  pub root : w.keeper.current.root ≡ 0
  pub resting : (p : ℕ) → stage_of w.keeper p ≡ Idle

pub ready : {T : Type 0} (leaf : T) (ls : List T) (w : World T) → Fresh leaf ls w → Laws w.keeper → Ready w (length ls)
ready leaf ls w f laws =
    let m = w.keeper in
    let a = and_parts (limits m.programs m.last) (new_memory (length w.cells) (length ls) && new_keeper m) f.within in
    let b = and_parts (new_memory (length w.cells) (length ls)) (new_keeper m) a.1 in
    let c = and_parts (eqb m.current.serial 0) (eqb m.current.root 0 && idle_below m m.programs) b.1 in
    let d = and_parts (eqb m.current.root 0) (idle_below m m.programs) c.1 in
    record {
      limited = a.0;
      memory = b.0;
      serial = eqb-true m.current.serial 0 c.0;
      root = eqb-true m.current.root 0 d.0;
      resting = λ p. ⊎_elim (λ l. idle_all m m.programs d.1 p l) (λ past. get_or_past m.stages p Idle (omega (arith, past, laws.staged))) (cases_lt p m.programs);
    }

pub meant_start : {T : Type 0} (leaf : T) (ls : List T) (w : World T) → Fresh leaf ls w → Laws w.keeper → MeantBy (start leaf) w.keeper
meant_start leaf ls w f laws =
    let m = w.keeper in
    let r = ready leaf ls w f laws in
    record {
      now = r.serial;
      opens = λ p. sym (ap opened_at (r.resting p));
      began = λ p a b h. let q : Idle ≡ Opening a b = sym (r.resting p) ∙ h in absurd cc;
      about = λ p. sym (ap task_at (r.resting p));
      timely = λ p b. absurd (b (ap task_at (r.resting p)));
      kept = λ s h. let e : s ≡ m.current.serial = omega (arith, h, r.serial) in
          omega (arith, laws.once s, laws.current, copies_times m.current m.kept, ap (λ x. times x m.kept) e);
      beyond = λ s h. (
        ⊎_elim
            (λ k. let u = total_find (uses s) m.stages Idle (laws.used s k (λ e. omega (arith, e, r.serial, h))) in
            absurd (omega (arith, u.2, ap (uses s) (r.resting u.0))))
            (λ z. omega (arith, z)) (cases_lt 0 (times s m.kept)),
        refl,
      );
    }

-- one call more
pub meant_call : {T : Type 0} (S : Story T) (w v : World T) (c : Call T) (r : Result (Answer T) Fault) → Laws w.keeper → MeantBy S w.keeper → Did c r w v → MeantBy (tell c r S) v.keeper
meant_call {T} S w v (CallOpen p) r laws i d =
    by_begun (λ x. Opens p x w v) (λ x. MeantBy (tell (CallOpen p) x S) v.keeper) r d
    (λ a o. let g = admitted w p true column.Open (open_fault w.keeper p) o.0 in
    meant_open S w.keeper v.keeper p laws g.seat i o.1.keeper (ap opened_at (opens_idle (stage_of w.keeper p) g.allowed)))
    (λ f e. subst (λ (x : World T). MeantBy S x.keeper) (sym e.1) i)
meant_call {T} S w v (Publish p b) r laws i d =
    by_begun (λ x. Publishes p b x w v) (λ x. MeantBy (tell (Publish p b) x S) v.keeper) r d
    (λ a o. let g = admitted w p (ltb b 8) column.Publish (filled (building_at w p b) (publish_fault w.keeper p)) o.0 in
    meant_publish S w.keeper v.keeper p laws g.seat i o.1.cell b o.1.keeper (ap opened_at (publishes_open (stage_of w.keeper p) g.allowed)))
    (λ f e. subst (λ (x : World T). MeantBy S x.keeper) (sym e.1) i)
meant_call {T} S w v (Close p) r laws i d =
    by_begun (λ x. Closes p x w v) (λ x. MeantBy (tell (Close p) x S) v.keeper) r d
    (λ a o. let g = admitted w p true column.Close (passing (fault_of (root_answer w.keeper p)) (close_fault w.keeper p)) o.0 in
    meant_close S w.keeper v.keeper p laws g.seat i o.1.keeper)
    (λ f e. subst (λ (x : World T). MeantBy S x.keeper) (sym e.1) i)
meant_call {T} S w v (Step p) r laws i d =
    by_stepped (λ x. Steps p x w v) (λ x. MeantBy (tell (Step p) x S) v.keeper) r d
    (λ o s. let g = admitted w p true column.Step (step_fault w.keeper p) s.0 in
    meant_step S w.keeper v.keeper p laws g.seat i o s.1.keeper (steps_moving (stage_of w.keeper p) g.allowed))
    (λ f e. subst (λ (x : World T). MeantBy S x.keeper) (sym e.1) i)
meant_call {T} S w v (Root p a) r laws i d =
    by_done (λ x. Roots p a x w v) (λ x. MeantBy (tell (Root p a) x S) v.keeper) r d
    (λ x o. subst (λ (x : World T). MeantBy S x.keeper) (sym o.1.after) i)
    (λ f e. subst (λ (x : World T). MeantBy S x.keeper) (sym e.1) i)
meant_call {T} S w v (Down p a k b) r laws i d =
    by_done (λ x. Downs p a k b x w v) (λ x. MeantBy (tell (Down p a k b) x S) v.keeper) r d
    (λ x o. subst (λ (x : World T). MeantBy S x.keeper) (sym o.1.after) i)
    (λ f e. subst (λ (x : World T). MeantBy S x.keeper) (sym e.1) i)
meant_call {T} S w v (Look p a) r laws i d =
    by_shown (λ x. Looks p a x w v) (λ x. MeantBy (tell (Look p a) x S) v.keeper) r d
    (λ x s o. subst (λ (x : World T). MeantBy S x.keeper) (sym o.1.after) i)
    (λ f e. subst (λ (x : World T). MeantBy S x.keeper) (sym e.1) i)
meant_call {T} S w v (Build p b ss leaf) r laws i d =
    by_done (λ x. Builds p b ss leaf x w v) (λ x. MeantBy (tell (Build p b ss leaf) x S) v.keeper) r d
    (λ x o. subst (λ (x : World T). MeantBy S x.keeper) (sym o.1.after) i)
    (λ f e. subst (λ (x : World T). MeantBy S x.keeper) (sym e.1) i)
meant_call {T} S w v Sweep r laws i d =
    by_swept (λ x. Sweeps x w v) (λ x. MeantBy (tell Sweep x S) v.keeper) r d
    (λ x b o. subst (λ (x : World T). MeantBy S x.keeper) (sym o.1.after) i)
    (λ f e. subst (λ (x : World T). MeantBy S x.keeper) (sym e.1) i)

pub meant : {T : Type 0} {leaf : T} {h : List (Event T)} {w : World T} → Reached leaf h w → MeantBy (story leaf h) w.keeper
meant {leaf = leaf} (made {w = w} ls f l) = meant_start leaf ls w f l
meant {leaf = leaf} (after {h = h} {w = w} {v = v} c r p d l) = meant_call (story leaf h) w v c r (reached_laws p) (meant p) d

-- what one event promises
module _ {T : Type 0} (S : Story T) (w v : World T) (c : Call T) (r : Result (Answer T) Fault) (laws : Laws w.keeper) (i : MeantBy S w.keeper) (d : Did c r w v) where
  pub told_opened : OpenedWasCurrent (event c r) S
  told_opened p s came =
      let o = (step_from c r w v p (Opened s) d came.call came.answer).1.keeper.1 in
      (omega (arith, o.chosen.from, i.began p o.since o.bound o.was), omega (arith, o.chosen.to, i.now))

  pub told_handed_out : HandedOutReplaced (event c r) S
  told_handed_out p s came =
      let g = step_from c r w v p (HandedOut s) d came.call came.answer in
      let o = g.1.keeper.1 in
      let a = admitted w p true column.Step (step_fault w.keeper p) g.0 in
      let low = kept_low S w.keeper v.keeper p laws a.seat i s o.kept in
      let strict : s < S.current = omega (arith, low, i.now, o.old) in
      (strict, not_gone (S.gone s) (omega (arith, i.kept s low, o.kept)))

  pub told_step : StepInTime w.keeper.declared (event c r) S
  told_step p o came =
      let g = step_from c r w v p o d came.call came.answer in
      let a = admitted w p true column.Step (step_fault w.keeper p) g.0 in
      let b = steps_moving (stage_of w.keeper p) a.allowed in
      omega (arith, i.timely p b, left_some (stage_of w.keeper p) (left_of w.keeper p) (laws.paced p) b, ap (allowance w.keeper.declared) (i.about p))

  pub told_publish : PublishDecided (event c r) S
  told_publish = record {
    accepted = λ p t came.
        let o = (step_from c r w v p (Accepted t) d came.call came.answer).1.keeper.1 in
        (i.opens p ∙ ap opened_at o.was ∙ ap Some (o.current ∙ i.now), omega (arith, o.serial, o.current, i.now));
    stale = λ p came.
        let o = (step_from c r w v p Stale d came.call came.answer).1.keeper.1 in
        (o.over, i.opens p ∙ ap opened_at o.was, λ e. o.old (e ∙ sym i.now));
  }

-- what is promised of the present moment
module _ {T : Type 0} (S : Story T) (m : Meaning) (laws : Laws m) (i : MeantBy S m) where
  pub told_unused : (p s : ℕ) → has (stage_of m p) ≡ Some s → S.gone s ≡ false
  told_unused p s h =
      let k = laws.had p s h in
      ⊎_elim (λ l. (i.beyond s l).1) (λ l. not_gone (S.gone s) (omega (arith, i.kept s l, k))) (cases_lt S.current s)

  pub told_gone : (s : ℕ) → s < S.current → ((p : ℕ) → engaged (stage_of m p) ≡ Some s → ⊥) → S.gone s ≡ true
  told_gone s l free =
      ⊎_elim
      (λ k. let u = total_find (uses s) m.stages Idle (laws.used s k (λ e. omega (arith, e, i.now, l))) in
      absurd (free u.0 (engaged_from s (engaged (stage_of m u.0)) u.2)))
      (λ z. is_gone (S.gone s) (omega (arith, z, i.kept s (omega arith))))
      (cases_lt 0 (times s m.kept))
    where
      is_gone : (b : Bool) → one b ≡ 1 → b ≡ true
      is_gone true e = refl
      is_gone false e = absurd (omega (arith, e))

  pub told_unended : (p : ℕ) → (S.task p ≡ resting → ⊥) → S.taken p < allowance m.declared (S.task p)
  told_unended p b =
      let c : task_at (stage_of m p) ≡ resting → ⊥ = λ e. b (i.about p ∙ e) in
      omega (arith, i.timely p c, left_some (stage_of m p) (left_of m p) (laws.paced p) c, ap (allowance m.declared) (i.about p))
