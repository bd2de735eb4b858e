-- What a call of a schedule does to a keeper, and what it answers.
use Rattle.std.specs.Prelude.{◌≡◌, ℕ, cond, List, Some, None, Ok, Err, Option, Result, MatchOption}
use Rattle.keeper.specs.declared.stage.Stage.{Stage}
use Rattle.keeper.specs.declared.outcome.Outcome.{Outcome}
use Rattle.keeper.specs.declared.fault.Fault.{Fault}
use Rattle.keeper.specs.declared.fault.Refusal.TheVariants.{Limits}
use Rattle.keeper.specs.Refusals.{fault, limits}
use Rattle.keeper.specs.Meaning.{Meaning}
use Rattle.keeper.specs.Effects.{OpenSays, PublishSays, CloseSays, StepSays, stage_answer, root_answer}
use Rattle.announcement_theory.specs.declared.position.Label.{Label as AnnouncementLabel}
use Rattle.announcement_theory.specs.declared.position.Position.{Position}
use Rattle.announcement_theory.specs.State as announced
use Rattle.announcement_theory.specs.Means as announcement
use Rattle.counting.specs.declared.label.Label.{Label as CountingLabel}
use Rattle.counting.specs.Labels.{label_of}
use Rattle.counting.specs.State.{State}
use Rattle.counting.specs.Moves.{meaning_of, fresh, stage_at}
use Rattle.schedule.specs.Lines.{Reads}
use Rattle.schedule.specs.declared.call.Call.{Call}
use Rattle.schedule.specs.declared.call.Call.TheVariants as call
use Rattle.schedule.specs.declared.call.Kind.{Kind}
use Rattle.schedule.specs.declared.call.Kind.TheVariants as kind
use Rattle.desk.specs.declared.label.Label.{Label}
use Rattle.desk.specs.declared.label.Label.TheVariants.{Announcement, Counting}
use Rattle.desk.specs.declared.answer.Answer.{Answer}
use Rattle.desk.specs.declared.answer.Answer.TheVariants.{Made, Begun, Stepped, Root, Stage as Staged, Current, Declared, Show, Refused, Unreadable}

-- the label of a program of the counting keeper, by its stage
abbrev pub counted : Option CountingLabel → Option Label
counted None = None
counted (Some l) = Some (Counting l)

abbrev pub counting_label : Stage → Option Label
counting_label st = counted (label_of st)

-- the label of a program of the announcement keeper, by its position
abbrev pub labelled : Option AnnouncementLabel → Option Label
labelled None = None
labelled (Some l) = Some (Announcement l)

abbrev pub announcement_label : Position → Option Label
announcement_label at = labelled (announcement.label_of at)

-- a step's answer, with the label at which it was taken; a program with steps left has one
abbrev pub stepped : Option Label → Outcome → Answer → Type 0
stepped None o a = ⊥
stepped (Some l) o a = a ≡ Stepped l o

-- the call c leads from m to n, and is answered r, or refused; `labels` gives the label at which each program stands before it
abbrev pub PerformsOrRefuses : (ℕ → Option Label) → Meaning → Call → Meaning → Result Answer Fault → Type 0
PerformsOrRefuses labels m (call.Keeper kind p l) n (Ok a) = (n ≡ m) × (a ≡ Unreadable)
PerformsOrRefuses labels m (call.Keeper kind p l) n (Err f) = ⊥
PerformsOrRefuses labels m (call.Open p) n (Ok a) = OpenSays m p n (Ok tt) × (a ≡ Begun)
PerformsOrRefuses labels m (call.Open p) n (Err f) = OpenSays m p n (Err f)
PerformsOrRefuses labels m (call.Publish p root) n (Ok a) = PublishSays m p root n (Ok tt) × (a ≡ Begun)
PerformsOrRefuses labels m (call.Publish p root) n (Err f) = PublishSays m p root n (Err f)
PerformsOrRefuses labels m (call.Step p) n (Ok a) = (o : Outcome) × StepSays m p n (Ok o) × stepped (labels p) o a
PerformsOrRefuses labels m (call.Step p) n (Err f) = StepSays m p n (Err f)
PerformsOrRefuses labels m (call.Close p) n (Ok a) = CloseSays m p n (Ok tt) × (a ≡ Begun)
PerformsOrRefuses labels m (call.Close p) n (Err f) = CloseSays m p n (Err f)
PerformsOrRefuses labels m (call.Root p) n (Ok a) = (n ≡ m) × ((r : ℕ) × (root_answer m p ≡ Ok r) × (a ≡ Root r))
PerformsOrRefuses labels m (call.Root p) n (Err f) = (n ≡ m) × (root_answer m p ≡ Err f)
PerformsOrRefuses labels m (call.Stage p) n (Ok a) = (n ≡ m) × ((st : Stage) × (stage_answer m p ≡ Ok st) × (a ≡ Staged st))
PerformsOrRefuses labels m (call.Stage p) n (Err f) = (n ≡ m) × (stage_answer m p ≡ Err f)
PerformsOrRefuses labels m call.Current n (Ok a) = (n ≡ m) × (a ≡ Current m.current)
PerformsOrRefuses labels m call.Current n (Err f) = ⊥
PerformsOrRefuses labels m call.Declared n (Ok a) = (n ≡ m) × (a ≡ Declared m.declared)
PerformsOrRefuses labels m call.Declared n (Err f) = ⊥
PerformsOrRefuses labels m call.Show n (Ok a) = (n ≡ m) × (a ≡ Show)
PerformsOrRefuses labels m call.Show n (Err f) = ⊥

-- an answer as a result: a refused call is answered with its fault
abbrev pub told : Answer → Result Answer Fault
told Made = Ok Made
told Begun = Ok Begun
told (Stepped l o) = Ok (Stepped l o)
told (Root r) = Ok (Root r)
told (Staged st) = Ok (Staged st)
told (Current v) = Ok (Current v)
told (Declared d) = Ok (Declared d)
told Show = Ok Show
told (Refused f) = Err f
told Unreadable = Ok Unreadable

-- the call c leads from m to n, and is answered a
abbrev pub Performs : (ℕ → Option Label) → Meaning → Call → Meaning → Answer → Type 0
Performs labels m c n a = PerformsOrRefuses labels m c n (told a)

-- a keeper as the desk sees it: its kind, its meaning, and the label at which each program stands
pub record Standing : Type 0 where
  pub kind : Kind
  pub meaning : Meaning
  pub labels : ℕ → Option Label

abbrev pub announcement_standing : announced.State → Standing
announcement_standing s = record { kind = kind.Announcement; meaning = announcement.meaning_of s; labels = λ p. announcement_label (announced.position_at s p) }

abbrev pub counting_standing : State → Standing
counting_standing v = record { kind = kind.Counting; meaning = meaning_of v; labels = λ p. counting_label (stage_at v p) }

-- a new keeper of a kind
abbrev pub new_keeper : Kind → ℕ → ℕ → Standing
new_keeper kind.Announcement p l = announcement_standing (announced.fresh p l)
new_keeper kind.Counting p l = counting_standing (fresh p l)

-- a making leads from d to e and is answered a: within the limits a new keeper stands there, else what stood there stays
abbrev pub Makes : Kind → ℕ → ℕ → Option Standing → Option Standing → Answer → Type 0
Makes kind p l d e a = cond (limits p l) ((a ≡ Made) × (e ≡ Some (new_keeper kind p l))) ((a ≡ Refused (fault Limits)) × (e ≡ d))

-- a call on what stands there, if anything does
abbrev pub Goes : Option Standing → Call → Option Standing → Answer → Type 0
Goes None c e a = (e ≡ None) × (a ≡ Unreadable)
Goes (Some s) c None a = ⊥
Goes (Some s) c (Some t) a = (t.kind ≡ s.kind) × Performs s.labels s.meaning c t.meaning a

-- the call leads from d to e and is answered a
abbrev pub Answers : Option Standing → Call → Option Standing → Answer → Type 0
Answers d (call.Keeper kind p l) e a = Makes kind p l d e a
Answers d (call.Open p) e a = Goes d (call.Open p) e a
Answers d (call.Publish p r) e a = Goes d (call.Publish p r) e a
Answers d (call.Step p) e a = Goes d (call.Step p) e a
Answers d (call.Close p) e a = Goes d (call.Close p) e a
Answers d (call.Root p) e a = Goes d (call.Root p) e a
Answers d (call.Stage p) e a = Goes d (call.Stage p) e a
Answers d call.Current e a = Goes d call.Current e a
Answers d call.Declared e a = Goes d call.Declared e a
Answers d call.Show e a = Goes d call.Show e a

-- a line that is written as a call is carried out as that call, any other is unreadable
pub record AnswersLine (d : Option Standing) (line : List ℕ) (e : Option Standing) (a : Answer) : Type 0 where
  pub call : Option Call
  pub reads : Reads line call
  pub does : MatchOption call ((e ≡ d) × (a ≡ Unreadable)) (λ c. Answers d c e a)
