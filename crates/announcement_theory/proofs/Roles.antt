-- Which views of a position go together.
use Rattle.std.proofs.Common.{◌≡◌, ℕ, Bool, true, false, Some, None, Option, sym, refl, ap, ◌∙◌, subst, arith}
use Rattle.std.proofs.lemmas.Option.{same_Some}
use Rattle.announcement_theory.specs.declared.mark.Mark.{Mark}
use Rattle.announcement_theory.specs.declared.announcement.Announcement.{Announcement}
use Rattle.announcement_theory.specs.declared.announcement.Announcement.TheVariants as announcement
use Rattle.announcement_theory.specs.declared.position.Offer.{Offer}
use Rattle.announcement_theory.specs.declared.position.Position.{Position}
use Rattle.announcement_theory.specs.declared.position.Position.TheVariants.{Idle, Opening, Offering, Closing}
use Rattle.announcement_theory.specs.declared.position.OpenLabel.TheVariants.{O1, O3}
use Rattle.announcement_theory.specs.declared.position.OfferLabel.{OfferLabel}
use Rattle.announcement_theory.specs.declared.position.OfferLabel.TheVariants.{F1, F2, F3}
use Rattle.announcement_theory.specs.declared.position.CloseLabel.TheVariants.{C1}
use Rattle.announcement_theory.specs.Views.{silent, asking, holding, manner, fits, about, Opener, calm, ready, seeking, found, opener, offerer, over_in, Closer, stays, checks, past, pends, sweeps, closer}
use Rattle.announcement_theory.proofs.Basics.{false_true, none_some, holding_plain, silent_empty}

-- a close is past the emptying of its announcement
abbrev pub closing : Closer → Bool
closing stays = false
closing (checks v) = true
closing (past v) = true
closing (pends v a) = true
closing (sweeps v b) = true

pub closing_silent : (all : ℕ) (at : Position) → closing (closer all at) ≡ true → manner at ≡ silent
closing_silent all Idle e = refl
closing_silent all (Opening t O1) e = refl
closing_silent all (Closing v C1) e = false_true e
closing_silent all (Closing v _) e = refl
closing_silent all _ e = false_true e

-- an offer is over one version at each label
over_is : (all : ℕ) (f : Offer) (at : OfferLabel) → over_in (offerer all (Offering f at)) ≡ Some f.over
over_is all f F1 = refl
over_is all f (F2 x) = refl
over_is all f F3 = refl

pub offering_holding : (all : ℕ) (at : Position) (o : Mark) → over_in (offerer all at) ≡ Some o → manner at ≡ holding o
offering_holding all (Offering f at) o e = ap holding (same_Some f.over o (sym (over_is all f at) ∙ e))
offering_holding all _ o e = none_some o e

abbrev is_ready : Opener → Bool
is_ready calm = false
is_ready ready = true
is_ready (seeking r) = false
is_ready (found v r) = false

ready_asks : (at : Position) → is_ready (opener at) ≡ true → (u : Mark) × (manner at ≡ asking u)
ready_asks (Opening t O3) e = (t.u, refl)
ready_asks _ e = false_true e

-- a program about to take its flag off is not closing
pub ready_not_closing : {A : Type 0} (all : ℕ) (at : Position) → opener at ≡ ready → closing (closer all at) ≡ true → A
ready_not_closing all at e c =
    let u = ready_asks at (ap is_ready e) in
    let m = closing_silent all at c in
    let z : ◌≡◌ {A = ℕ} 0 1 = cc (u.1, m) in absurd (omega arith)

-- a closing program announces nothing
pub closing_empty : (all : ℕ) (at : Position) (a : Announcement) → fits (manner at) a ≡ true → closing (closer all at) ≡ true → a ≡ announcement.Empty
closing_empty all at a l c = silent_empty a (subst (λ m. fits m a ≡ true) (closing_silent all at c) l)

-- an offering program announces the version that it is over
pub offering_plain : (all : ℕ) (at : Position) (a : Announcement) (o : Mark) → fits (manner at) a ≡ true → over_in (offerer all at) ≡ Some o
    → a ≡ announcement.Plain o
offering_plain all at a o l e = holding_plain o a (subst (λ m. fits m a ≡ true) (offering_holding all at o e) l)

-- the version that a close is of
abbrev pub closed : Closer → Option Mark
closed stays = None
closed (checks v) = Some v
closed (past v) = Some v
closed (pends v a) = Some v
closed (sweeps v b) = Some v

pub closing_about : (all : ℕ) (at : Position) (v : Mark) → closed (closer all at) ≡ Some v → about at ≡ Some v
closing_about all (Closing w C1) v e = none_some v e
closing_about all (Closing w _) v e = e
closing_about all _ v e = none_some v e

pub offering_about : (all : ℕ) (at : Position) (v : Mark) → over_in (offerer all at) ≡ Some v → about at ≡ Some v
offering_about all (Offering o at) v e = sym (over_is all o at) ∙ e
offering_about all _ v e = none_some v e
