-- What a position says, seen from one side at a time.
use Rattle.std.specs.Prelude.{◌≡◌, ℕ, ◌*◌, Bool, true, false, ◌&&◌, ◌⊎◌, Some, None, Option, nat_le, nat_lt}
use Rattle.announcement_theory.specs.declared.mark.Mark.{Mark}
use Rattle.announcement_theory.specs.declared.announcement.Announcement.{Announcement}
use Rattle.announcement_theory.specs.declared.announcement.Announcement.TheVariants as announcement
use Rattle.announcement_theory.specs.declared.position.Round.{Round}
use Rattle.announcement_theory.specs.declared.position.Round.TheVariants.{First, Second}
use Rattle.announcement_theory.specs.declared.position.Position.{Position}
use Rattle.announcement_theory.specs.declared.position.Position.TheVariants.{Idle, Opening, Open, Offering, Offered, Closing}
use Rattle.announcement_theory.specs.declared.position.OpenLabel.TheVariants.{O1, O3, O4, O5, O6}
use Rattle.announcement_theory.specs.declared.position.OfferLabel.TheVariants.{F1, F2, F3}
use Rattle.announcement_theory.specs.declared.position.CloseLabel.TheVariants.{C1, C2, C3, C4, C5, C6, C7}
use Rattle.announcement_theory.specs.declared.seat.Seat.{Seat}
use Rattle.announcement_theory.specs.Tests.{is_mark, announces}

-- how a program announces: not at all; u with help, or whatever others made of that; or the version that it has
pub data Manner : Type 0 where
  silent : Manner
  asking : Mark → Manner
  holding : Mark → Manner

-- how a program announces at each label
abbrev pub manner : Position → Manner
manner Idle = silent
manner (Opening t O1) = silent
manner (Opening t _) = asking t.u
manner (Open v) = holding v
manner (Offering o at) = holding o.over
manner (Offered v) = holding v
manner (Closing v C1) = holding v
manner (Closing v _) = silent

-- the announcement is one that goes with the manner
abbrev pub fits : Manner → Announcement → Bool
fits silent announcement.Empty = true
fits silent (announcement.Plain v) = false
fits silent (announcement.Help v) = false
fits (asking u) announcement.Empty = false
fits (asking u) (announcement.Plain v) = true
fits (asking u) (announcement.Help v) = is_mark u v
fits (holding u) announcement.Empty = false
fits (holding u) (announcement.Plain v) = is_mark u v
fits (holding u) (announcement.Help v) = false

-- the version that a program is about
abbrev pub about : Position → Option Mark
about Idle = None
about (Opening t at) = Some t.u
about (Open v) = Some v
about (Offering o at) = Some o.over
about (Offered v) = Some v
about (Closing v at) = Some v

-- the version read at O4 and not announced yet
abbrev pub spare : Position → Option Mark
spare (Opening t (O5 w round)) = Some w
spare _ = None

-- a program mentions a version: it is about it, has just read it, or announces it
abbrev pub Mentions : Seat → Mark → Type 0
Mentions x v = (about x.position ≡ Some v) ⊎ ((spare x.position ≡ Some v) ⊎ (announces x.announced ≡ Some v))

-- the serial that was current when an open began, 0 elsewhere
abbrev pub since : Position → ℕ
since (Opening t at) = t.since
since _ = 0

-- how far an open is: about to take the flag off (O3), about to read V (O4), or with a version read from V (w at O5, u at O6)
pub data Opener : Type 0 where
  calm : Opener
  ready : Opener
  seeking : Round → Opener
  found : Mark → Round → Opener

-- how far the open of a program is
abbrev pub opener : Position → Opener
opener (Opening t O3) = ready
opener (Opening t (O4 round)) = seeking round
opener (Opening t (O5 w round)) = found w round
opener (Opening t (O6 round)) = found t.u round
opener _ = calm

-- an open that one who offers over the current version v has passed: in round 1, and what it read is v
abbrev pub settled : Mark → Opener → Bool
settled v calm = true
settled v ready = true
settled v (seeking First) = true
settled v (seeking Second) = false
settled v (found w First) = is_mark w v
settled v (found w Second) = false

-- an open that asks for help: what it read in round 2 is the current version v
abbrev pub steady : Mark → Opener → Bool
steady v calm = true
steady v ready = true
steady v (seeking r) = true
steady v (found w First) = true
steady v (found w Second) = is_mark w v

-- how far an offer is: at a slot in its search, or the owner of a slot, with the number of programs that it has passed
pub data Offerer : Type 0 where
  aside : Offerer
  seeks : Mark → ℕ → Offerer
  owns : ℕ → Mark → ℕ → ℕ → Offerer

-- how far the offer of a program is, where there are `all` programs: F3 has passed them all
abbrev pub offerer : ℕ → Position → Offerer
offerer all (Offering o F1) = seeks o.over o.slot
offerer all (Offering o (F2 x)) = owns o.root o.over o.slot x
offerer all (Offering o F3) = owns o.root o.over o.slot all
offerer all _ = aside

-- the slot that an offer owns
abbrev pub owned_in : Offerer → Option ℕ
owned_in aside = None
owned_in (seeks over i) = None
owned_in (owns r over i f) = Some i

-- the slot that a program owns
abbrev pub owned : Position → Option ℕ
owned at = owned_in (offerer 0 at)

-- the version that an offer is over
abbrev pub over_in : Offerer → Option Mark
over_in aside = None
over_in (seeks over i) = Some over
over_in (owns r over i f) = Some over

-- how far a close is: before its look at V (C2), past it (C3), helping programs (C4, C5) or looking for programs (C6, C7), with
-- the number of programs that it has passed
pub data Closer : Type 0 where
  stays : Closer
  checks : Mark → Closer
  past : Mark → Closer
  pends : Mark → ℕ → Closer
  sweeps : Mark → ℕ → Closer

-- how far the close of a program is, where there are `all` programs: C5 and C7 have passed them all
abbrev pub closer : ℕ → Position → Closer
closer all (Closing v C2) = checks v
closer all (Closing v C3) = past v
closer all (Closing v (C4 x)) = pends v x
closer all (Closing v C5) = pends v all
closer all (Closing v (C6 x)) = sweeps v x
closer all (Closing v C7) = sweeps v all
closer all _ = stays

-- slots and programs that a position names are there
abbrev pub ranged : ℕ → Position → Bool
ranged all (Offering o (F2 x)) = nat_le o.slot (3 * all) && nat_lt x all
ranged all (Offering o _) = nat_le o.slot (3 * all)
ranged all (Closing v (C4 x)) = nat_lt x all
ranged all (Closing v (C6 x)) = nat_lt x all
ranged all _ = true
