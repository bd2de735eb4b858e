-- What each call of a keeper answers, and does to its meaning.
use Rattle.std.specs.Prelude.{◌≡◌, ℕ, ◌+◌, ◌<◌, ◌≤◌, cond, not, ◌⊎◌, Some, None, Ok, Err, Option, Result, ◌==◌, ◌≢◌, nat_lt, slice_set}
use Rattle.keeper.specs.declared.stage.Stage.{Stage}
use Rattle.keeper.specs.declared.stage.Stage.TheVariants.{Idle, Opening, Open, Offering, Offered, Closing}
use Rattle.keeper.specs.declared.outcome.Outcome.{Outcome}
use Rattle.keeper.specs.declared.outcome.Outcome.TheVariants.{GoesOn, Opened, Accepted, Stale, Nothing, HandedOut}
use Rattle.keeper.specs.declared.fault.Refusal.TheVariants.{NoProgram, StageForbids, LastSerial}
use Rattle.keeper.specs.declared.fault.Fault.{Fault}
use Rattle.keeper.specs.Totals.{Added}
use Rattle.keeper.specs.Stages.{has, idle, opened, closable, moving, serial_of}
use Rattle.keeper.specs.Refusals.{fault, unless}
use Rattle.keeper.specs.Meaning.{Meaning, version, stage_of, left_of, times, root_at}

-- the refusal that an acting call meets first, if any: 1, 11, 15 in rising order
abbrev pub open_fault : Meaning → ℕ → Option Fault
open_fault m p = unless (nat_lt p m.programs) NoProgram (unless (idle (stage_of m p)) StageForbids None)

abbrev pub publish_fault : Meaning → ℕ → Option Fault
publish_fault m p = unless (nat_lt p m.programs) NoProgram
    (unless (opened (stage_of m p)) StageForbids (unless (not (m.current.serial == m.last)) LastSerial None))

abbrev pub close_fault : Meaning → ℕ → Option Fault
close_fault m p = unless (nat_lt p m.programs) NoProgram (unless (closable (stage_of m p)) StageForbids None)

abbrev pub step_fault : Meaning → ℕ → Option Fault
step_fault m p = unless (nat_lt p m.programs) NoProgram (unless (moving (stage_of m p)) StageForbids None)

-- a, unless there is a fault
abbrev pub answer : {A : Type 0} → Option Fault → A → Result A Fault
answer None a = Ok a
answer (Some f) a = Err f

-- the state w after a call of a keeper, unless it is refused: then nothing is altered
abbrev pub settled : {S : Type 0} → Option Fault → S → S → S
settled None v w = w
settled (Some f) v w = v

-- the stage of a program
abbrev pub stage_answer : Meaning → ℕ → Result Stage Fault
stage_answer m p = answer (unless (nat_lt p m.programs) NoProgram None) (stage_of m p)

-- the root of the version that a program has, 11 if it has none
abbrev pub root_of : Meaning → Option ℕ → Result ℕ Fault
root_of m None = Err (fault StageForbids)
root_of m (Some s) = Ok (root_at s m.kept)

abbrev pub root_answer : Meaning → ℕ → Result ℕ Fault
root_answer m p = cond (nat_lt p m.programs) (root_of m (has (stage_of m p))) (Err (fault NoProgram))

-- an acting call refuses exactly where `refusal` names a fault, and then alters nothing; else `Done` holds of its answer
abbrev pub Acts : {A : Type 0} → Option Fault → Meaning → Meaning → (A → Type 0) → Result A Fault → Type 0
Acts refusal m n Done (Ok a) = (refusal ≡ None) × Done a
Acts refusal m n Done (Err f) = (refusal ≡ Some f) × (n ≡ m)

-- m with program p at another stage with other steps left
abbrev pub moved : Meaning → ℕ → Stage → ℕ → Meaning
moved m p st k = record {
  programs = m.programs;
  last = m.last;
  current = m.current;
  kept = m.kept;
  stages = slice_set m.stages p st;
  left = slice_set m.left p k;
  declared = m.declared;
}

-- from m to n program p alone moves, to st, with at most `most` steps left
pub record Begun (m : Meaning) (p : ℕ) (st : Stage) (most : ℕ) (n : Meaning) : Type 0 where
  pub after : n ≡ moved m p st (left_of n p)
  pub few : left_of n p ≤ most

-- open takes idle to opening, unbound, since the current serial
abbrev pub OpenDone : Meaning → ℕ → Meaning → Type 0
OpenDone m p n = Begun m p (Opening m.current.serial None) m.declared.opening n

-- publish takes open on s to offering r over s
abbrev pub PublishDone : Meaning → ℕ → ℕ → Meaning → Type 0
PublishDone m p r n = Begun m p (Offering r (serial_of (stage_of m p))) m.declared.offering n

-- close takes open on s, or offered over s, to closing s
abbrev pub CloseDone : Meaning → ℕ → Meaning → Type 0
CloseDone m p n = Begun m p (Closing (serial_of (stage_of m p))) m.declared.closing n

-- s may be opened by a program whose open began when `since` was the current serial
pub record Openable (m : Meaning) (since s : ℕ) : Type 0 where
  pub kept : 0 < times s m.kept
  pub from : since ≤ s
  pub to : s ≤ m.current.serial

-- by a step that leads to n an unbound opening program may be bound; nothing else of a stage changes
abbrev pub Rebinds : Meaning → Stage → Stage → Type 0
Rebinds n a b = (b ≡ a) ⊎ ((since : ℕ) × (s : ℕ) × (a ≡ Opening since None) × (b ≡ Opening since (Some s)) × Openable n since s)

-- what a step of program p leaves alone, whatever it answers: other programs are at most bound, and their steps left do not rise
pub record Frame (m : Meaning) (p : ℕ) (n : Meaning) : Type 0 where
  pub programs : n.programs ≡ m.programs
  pub last : n.last ≡ m.last
  pub declared : n.declared ≡ m.declared
  pub others : (q : ℕ) → (q ≢ p) → Rebinds n (stage_of m q) (stage_of n q)
  pub slower : (q : ℕ) → (q ≢ p) → left_of n q ≤ left_of m q

-- the versions are as they were
pub record Unmoved (m n : Meaning) : Type 0 where
  pub current : n.current ≡ m.current
  pub kept : n.kept ≡ m.kept

-- the operation goes on, with fewer steps left
pub record Continues (m : Meaning) (p : ℕ) (n : Meaning) : Type 0 where
  pub fewer : left_of n p < left_of m p
  pub stage : Rebinds n (stage_of m p) (stage_of n p)
  pub versions : Unmoved m n

-- a bound program opens the serial that it is bound to
abbrev pub Agrees : Option ℕ → ℕ → Type 0
Agrees None s = Unit {0}
Agrees (Some b) s = s ≡ b

-- opening ends open on s
pub record OpensOn (m : Meaning) (p s : ℕ) (n : Meaning) : Type 0 where
  pub since : ℕ
  pub bound : Option ℕ
  pub was : stage_of m p ≡ Opening since bound
  pub chosen : Openable m since s
  pub agrees : Agrees bound s
  pub «is» : stage_of n p ≡ Open s
  pub versions : Unmoved m n

-- offering over the current serial ends accepted: the next serial, with the offered root, is kept and current
pub record Accepts (m : Meaning) (p t : ℕ) (n : Meaning) : Type 0 where
  pub root : ℕ
  pub over : ℕ
  pub was : stage_of m p ≡ Offering root over
  pub current : over ≡ m.current.serial
  pub serial : t ≡ over + 1
  pub replaced : n.current ≡ version t root
  pub added : Added (version t root) m.kept n.kept
  pub «is» : stage_of n p ≡ Offered over

-- offering over a replaced serial ends stale
pub record Stales (m : Meaning) (p : ℕ) (n : Meaning) : Type 0 where
  pub root : ℕ
  pub over : ℕ
  pub was : stage_of m p ≡ Offering root over
  pub old : over ≡ m.current.serial → ⊥
  pub «is» : stage_of n p ≡ Offered over
  pub versions : Unmoved m n

-- closing ends with nothing
pub record Leaves (m : Meaning) (p : ℕ) (n : Meaning) : Type 0 where
  pub serial : ℕ
  pub was : stage_of m p ≡ Closing serial
  pub «is» : stage_of n p ≡ Idle
  pub versions : Unmoved m n

-- closing s ends by handing out s, which was kept, is not current and which no program has; it is kept no longer
pub record HandsOut (m : Meaning) (p s : ℕ) (n : Meaning) : Type 0 where
  pub was : stage_of m p ≡ Closing s
  pub «is» : stage_of n p ≡ Idle
  pub kept : 0 < times s m.kept
  pub old : s ≡ m.current.serial → ⊥
  pub unused : (q : ℕ) → has (stage_of m q) ≢ Some s
  pub current : n.current ≡ m.current
  pub removed : Added (version s (root_at s m.kept)) n.kept m.kept

-- each answer of a step, with its value, and what it says
abbrev pub Ends : Meaning → ℕ → Meaning → Outcome → Type 0
Ends m p n GoesOn = Continues m p n
Ends m p n (Opened s) = OpensOn m p s n
Ends m p n (Accepted t) = Accepts m p t n
Ends m p n Stale = Stales m p n
Ends m p n Nothing = Leaves m p n
Ends m p n (HandedOut s) = HandsOut m p s n

abbrev pub StepDone : Meaning → ℕ → Meaning → Outcome → Type 0
StepDone m p n o = Frame m p n × Ends m p n o

-- what each acting call says, of the meaning m before it, n after it, and its answer
abbrev pub OpenSays : Meaning → ℕ → Meaning → Result (Unit {0}) Fault → Type 0
OpenSays m p n r = Acts (open_fault m p) m n (λ _. OpenDone m p n) r

abbrev pub PublishSays : Meaning → ℕ → ℕ → Meaning → Result (Unit {0}) Fault → Type 0
PublishSays m p root n r = Acts (publish_fault m p) m n (λ _. PublishDone m p root n) r

abbrev pub CloseSays : Meaning → ℕ → Meaning → Result (Unit {0}) Fault → Type 0
CloseSays m p n r = Acts (close_fault m p) m n (λ _. CloseDone m p n) r

abbrev pub StepSays : Meaning → ℕ → Meaning → Result Outcome Fault → Type 0
StepSays m p n r = Acts (step_fault m p) m n (StepDone m p n) r
