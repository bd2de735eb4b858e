-- The promises over whole runs.
use Rattle.std.proofs.Common.{◌≡◌, List, [], ◌∷◌, Ok, Err, Result, sym, refl, ap, subst, arith}
use Rattle.keeper.specs.declared.fault.Fault.{Fault}
use Rattle.keeper.specs.declared.version.Declared.{Declared}
use Rattle.keeper.specs.Meaning.{Meaning, Laws}
use Rattle.cells_theory.specs.declared.cell.Cell.{Cell}
use Rattle.cells_theory.specs.Look.{count_answer}
use Rattle.cells_theory.proofs.Reaching.{count_bound, count_promises}
use Rattle.exchange_theory.specs.declared.calls.Call.{Call}
use Rattle.exchange_theory.specs.declared.calls.Call.TheVariants.{Open, Publish, Close, Step, Root, Down, Look, Build, Sweep}
use Rattle.exchange_theory.specs.declared.calls.Answer.{Answer}
use Rattle.exchange_theory.specs.World.{World, memory_of}
use Rattle.exchange_theory.specs.Keeping.{Opens, Publishes, Closes, Steps}
use Rattle.exchange_theory.specs.Reading.{Roots, Downs, Looks}
use Rattle.exchange_theory.specs.Building.{Builds, Sweeps}
use Rattle.exchange_theory.specs.Did.{Did}
use Rattle.exchange_theory.specs.Make.{Fresh, Makes}
use Rattle.exchange_theory.specs.History.{Event, event, Reached, made, after, story}
use Rattle.exchange_theory.specs.Promises.{names, Always, OpenedWasCurrent, LookIsTrue, HandedOutReplaced, StepInTime, PublishDecided, NotDamaged, Promises, BeginsRun, GoesOn}
use Rattle.exchange_theory.proofs.Accepted.{by_begun, by_stepped, by_done, by_shown, by_swept}
use Rattle.exchange_theory.proofs.Told.{told_opened, told_handed_out, told_step, told_publish, told_unused, told_gone, told_unended}
use Rattle.exchange_theory.proofs.Invariant.{invariant}
use Rattle.exchange_theory.proofs.Sure.{told_sure, told_look, names_few}

-- no call changes the declared steps
same_declared : {T : Type 0} (w v : World T) (c : Call T) (r : Result (Answer T) Fault) → Did c r w v → v.keeper.declared ≡ w.keeper.declared
same_declared {T} w v (Open p) r d = by_begun (λ x. Opens p x w v) (λ _. v.keeper.declared ≡ w.keeper.declared) r d (λ a o. ap (λ (x : Meaning). x.declared) o.1.keeper.after) (λ f e. ap (λ (x : World T). x.keeper.declared) e.1)
same_declared {T} w v (Publish p b) r d = by_begun (λ x. Publishes p b x w v) (λ _. v.keeper.declared ≡ w.keeper.declared) r d (λ a o. ap (λ (x : Meaning). x.declared) o.1.keeper.after) (λ f e. ap (λ (x : World T). x.keeper.declared) e.1)
same_declared {T} w v (Close p) r d = by_begun (λ x. Closes p x w v) (λ _. v.keeper.declared ≡ w.keeper.declared) r d (λ a o. ap (λ (x : Meaning). x.declared) o.1.keeper.after) (λ f e. ap (λ (x : World T). x.keeper.declared) e.1)
same_declared {T} w v (Step p) r d = by_stepped (λ x. Steps p x w v) (λ _. v.keeper.declared ≡ w.keeper.declared) r d (λ o s. s.1.keeper.0.declared) (λ f e. ap (λ (x : World T). x.keeper.declared) e.1)
same_declared {T} w v (Root p a) r d = by_done (λ x. Roots p a x w v) (λ _. v.keeper.declared ≡ w.keeper.declared) r d (λ a o. ap (λ (x : World T). x.keeper.declared) o.1.after) (λ f e. ap (λ (x : World T). x.keeper.declared) e.1)
same_declared {T} w v (Down p a k b) r d = by_done (λ x. Downs p a k b x w v) (λ _. v.keeper.declared ≡ w.keeper.declared) r d (λ a o. ap (λ (x : World T). x.keeper.declared) o.1.after) (λ f e. ap (λ (x : World T). x.keeper.declared) e.1)
same_declared {T} w v (Look p a) r d = by_shown (λ x. Looks p a x w v) (λ _. v.keeper.declared ≡ w.keeper.declared) r d (λ a s o. ap (λ (x : World T). x.keeper.declared) o.1.after) (λ f e. ap (λ (x : World T). x.keeper.declared) e.1)
same_declared {T} w v (Build p b ss leaf) r d = by_done (λ x. Builds p b ss leaf x w v) (λ _. v.keeper.declared ≡ w.keeper.declared) r d (λ a o. ap (λ (x : World T). x.keeper.declared) o.1.after) (λ f e. ap (λ (x : World T). x.keeper.declared) e.1)
same_declared {T} w v Sweep r d = by_swept (λ x. Sweeps x w v) (λ _. v.keeper.declared ≡ w.keeper.declared) r d (λ a b o. ap (λ (x : World T). x.keeper.declared) o.1.after) (λ f e. ap (λ (x : World T). x.keeper.declared) e.1)

-- what each event of a run promises
pub record Past {T : Type 0} (leaf : T) (h : List (Event T)) (d : Declared) : Type 0 where
  pub opened : Always OpenedWasCurrent leaf h
  pub looks : Always LookIsTrue leaf h
  pub handed : Always HandedOutReplaced leaf h
  pub timely : Always (StepInTime d) leaf h
  pub decided : Always PublishDecided leaf h
  pub sure : Always NotDamaged leaf h

pub past : {T : Type 0} {leaf : T} {h : List (Event T)} {w : World T} → Reached leaf h w → Past leaf h w.keeper.declared
past (made ls f l) = record { opened = tt; looks = tt; handed = tt; timely = tt; decided = tt; sure = tt }
past {leaf = leaf} (after {h = h} {w = w} {v = v} c r p d l) =
    let i = invariant p in
    let S = story leaf h in
    let before = past p in
    subst (λ (x : Declared). Past leaf (event c r ∷ h) x) (sym (same_declared w v c r d)) (record {
      opened = (told_opened S w v c r i.laws i.meant d, before.opened);
      looks = (told_look S w i.laws i.meant i.held v c r d, before.looks);
      handed = (told_handed_out S w v c r i.laws i.meant d, before.handed);
      timely = (told_step S w v c r i.laws i.meant d, before.timely);
      decided = (told_publish S w v c r i.laws i.meant d, before.decided);
      sure = (told_sure S w i.laws i.meant i.held v c r d, before.sure);
    })

pub promises : {T : Type 0} {leaf : T} {h : List (Event T)} {w : World T} → Reached leaf h w → Promises leaf h w
promises {leaf = leaf} {h = h} {w = w} p =
    let i = invariant p in
    let e = past p in
    let S = story leaf h in
    let sh = i.held.shaped in
    let few = names_few S w i.laws i.meant i.held in
    record {
      opened_was_current = e.opened;
      looks_true = e.looks;
      handed_out_replaced = e.handed;
      handed_out_unused = told_unused S w.keeper i.laws i.meant;
      unused_handed_out = told_gone S w.keeper i.laws i.meant;
      used_reachable = λ c. (count_promises (memory_of w) (names w) i.held.sound c (count_answer w.cells c) refl).used_reachable;
      reachable_used = λ c. (count_promises (memory_of w) (names w) i.held.sound c (count_answer w.cells c) refl).reachable_used;
      ended_in_time = e.timely;
      unended_in_time = told_unended S w.keeper i.laws i.meant;
      accepted_iff_current = e.decided;
      never_damaged = e.sure;
      counts_low = λ c. omega (arith, count_bound (memory_of w) (names w) i.held.sound c, few, sh.cells_fit);
      bound_low = omega (arith, sh.most, sh.few);
    }

-- one call more: the run goes on, and keeps what is promised
pub goes_on : {T : Type 0} {leaf : T} {h : List (Event T)} {w v : World T} (c : Call T) (r : Result (Answer T) Fault)
    → Did c r w v → Laws v.keeper → Reached leaf h w → Reached leaf (event c r ∷ h) v × Promises leaf (event c r ∷ h) v
goes_on c r d l p = let q = after c r p d l in (q, promises q)

-- the making begins a run
pub begins : {T : Type 0} (leaf : T) (ls : List T) {w : World T} → Fresh leaf ls w → Laws w.keeper → Reached leaf [] w × Promises leaf [] w
begins leaf ls f l = let q = made ls f l in (q, promises q)

-- both, as the clauses of a making and of a call want them
pub begins_run : {X T : Type 0} (leaf : T) (m : Meaning) (cs : List Cell) (ls : List T) (seen : X → World T) (ds : List Cell) (ms : List T) (r : Result X Fault)
    → Makes leaf m cs ls seen ds ms r → ((x : X) → Laws (seen x).keeper) → BeginsRun leaf seen r
begins_run leaf m cs ls seen ds ms (Ok x) d l = begins leaf ls d.3 (l x)
begins_run leaf m cs ls seen ds ms (Err f) d l = tt

pub carries_on : {T : Type 0} (c : Call T) (r : Result (Answer T) Fault) (w v : World T) → Did c r w v → Laws v.keeper → GoesOn c r w v
carries_on c r w v d l = λ leaf h p. goes_on c r d l p
