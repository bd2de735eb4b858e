-- Which call is refused, and with what.
use Rattle.std.proofs.Common.{◌≡◌, ℕ, ◌<◌, ◌≤◌, Bool, true, false, not, eqb, ltb, Some, None, Ok, Option, refl, ap, ◌∙◌, arith}
use Rattle.std.proofs.lemmas.Bool.{lt-ltb, le-ltb, ltb-true, eq-eqb, ne_eqb}
use Rattle.keeper.specs.declared.fault.Refusal.{Refusal}
use Rattle.keeper.specs.declared.fault.Refusal.TheVariants.{NoProgram, StageForbids, LastSerial}
use Rattle.keeper.specs.declared.fault.Fault.{Fault}
use Rattle.keeper.specs.declared.stage.Stage.{Stage}
use Rattle.keeper.specs.Meaning.{Meaning, stage_of}
use Rattle.keeper.specs.Stages.{idle, opened, closable, moving}
use Rattle.keeper.specs.Refusals.{unless, fault}
use Rattle.keeper.specs.Effects.{answer, stage_answer, open_fault, publish_fault, close_fault, step_fault}

pub allowed : (b : Bool) (r : Refusal) (rest : Option Fault) → b ≡ true → unless b r rest ≡ rest
allowed b r rest e = ap (λ b. unless b r rest) e

pub forbidden : (b : Bool) (r : Refusal) (rest : Option Fault) → b ≡ false → unless b r rest ≡ Some (fault r)
forbidden b r rest e = ap (λ b. unless b r rest) e

pub in_range : (p n : ℕ) (rest : Option Fault) → p < n → unless (ltb p n) NoProgram rest ≡ rest
in_range p n rest h = allowed (ltb p n) NoProgram rest (lt-ltb p n h)

pub out_of_range : (p n : ℕ) (rest : Option Fault) → n ≤ p → unless (ltb p n) NoProgram rest ≡ Some (fault NoProgram)
out_of_range p n rest h = forbidden (ltb p n) NoProgram rest (le-ltb p n h)

-- what an accepted call tells
pub passed : (b : Bool) (r : Refusal) (rest : Option Fault) → unless b r rest ≡ None → b ≡ true
passed true r rest e = refl
passed false r rest e = grind arith

pub seated : (p n : ℕ) (rest : Option Fault) → unless (ltb p n) NoProgram rest ≡ None → p < n
seated p n rest e = ltb-true p n (passed (ltb p n) NoProgram rest e)

-- what an enquiry for a stage tells, and what it answers a program of the keeper's
pub stage_told : (m : Meaning) (p : ℕ) (st : Stage) → Ok st ≡ stage_answer m p → (p < m.programs) × (st ≡ stage_of m p)
stage_told m p st e = go (ltb p m.programs) refl e
  where
    go : (b : Bool) → ltb p m.programs ≡ b → Ok st ≡ answer (unless b NoProgram None) (stage_of m p) → (p < m.programs) × (st ≡ stage_of m p)
    go true t e = (ltb-true p m.programs t, grind arith)
    go false t e = grind arith

pub stage_answers : (m : Meaning) (p : ℕ) → p < m.programs → stage_answer m p ≡ Ok (stage_of m p)
stage_answers m p h = ap (λ o. answer o (stage_of m p)) (in_range p m.programs None h)

-- which refusal a call of program p meets, by its stage
module _ (m : Meaning) (p : ℕ) (st : Stage) (within : p < m.programs) (at : stage_of m p ≡ st) where
  by_stage : (t : Stage → Bool) (b : Bool) (rest : Option Fault) → t st ≡ b → unless (ltb p m.programs) NoProgram (unless (t (stage_of m p)) StageForbids rest) ≡ unless b StageForbids rest
  by_stage t b rest e = in_range p m.programs _ within ∙ ap (λ x. unless x StageForbids rest) (ap t at ∙ e)

  pub open_meets : (b : Bool) → idle st ≡ b → open_fault m p ≡ unless b StageForbids None
  open_meets b e = by_stage idle b None e

  pub publish_meets : (b : Bool) → opened st ≡ b → publish_fault m p ≡ unless b StageForbids (unless (not (eqb m.current.serial m.last)) LastSerial None)
  publish_meets b e = by_stage opened b _ e

  pub close_meets : (b : Bool) → closable st ≡ b → close_fault m p ≡ unless b StageForbids None
  close_meets b e = by_stage closable b None e

  pub step_meets : (b : Bool) → moving st ≡ b → step_fault m p ≡ unless b StageForbids None
  step_meets b e = by_stage moving b None e

  -- a publish where the stage allows it
  pub publish_last : opened st ≡ true → m.current.serial ≡ m.last → publish_fault m p ≡ Some (fault LastSerial)
  publish_last e full = publish_meets true e ∙ ap (λ x. unless (not x) LastSerial None) (eq-eqb _ _ full)

  pub publish_allowed : opened st ≡ true → (m.current.serial ≡ m.last → ⊥) → publish_fault m p ≡ None
  publish_allowed e room = publish_meets true e ∙ ap (λ x. unless (not x) LastSerial None) (ne_eqb _ _ room)
