-- How many filled slots a program can account for. Whoever looks for an empty slot over the current version meets filled slots; each
-- of them is the current one's, or belongs to a program: an old version that it had when the current one came, a slot that it filled
-- over that old version, and one that it fills over the current version. So no program accounts for more than three.
use Rattle.std.specs.Prelude.{ℕ, ◌+◌, cond, Some, None, Option, nat_lt}
use Rattle.keeper.specs.Totals.{total}
use Rattle.announcement_theory.specs.declared.mark.Mark.{Mark}
use Rattle.announcement_theory.specs.declared.announcement.Announcement.{Announcement}
use Rattle.announcement_theory.specs.declared.announcement.Announcement.TheVariants as announcement
use Rattle.announcement_theory.specs.declared.position.Position.{Position}
use Rattle.announcement_theory.specs.declared.position.Position.TheVariants.{Idle, Opening, Open, Offering, Offered, Closing}
use Rattle.announcement_theory.specs.declared.position.OpenLabel.TheVariants.{O4, O5}
use Rattle.announcement_theory.specs.declared.seat.Seat.{Seat}
use Rattle.announcement_theory.specs.State.{State}
use Rattle.announcement_theory.specs.Tests.{is_mark}
use Rattle.announcement_theory.specs.Views.{owned}

-- what a program may have left behind: as much as may be; as much, if u is still current; nothing; what goes with the version v
-- that it has; and the same with one slot more, since its offer over v may have ended
pub data Past : Type 0 where
  whole : Past
  hopes : Mark → Past
  lost : Past
  uses : Mark → Past
  done : Mark → Past

-- what a program may have left behind, by its label
abbrev pub past_of : Position → Past
past_of Idle = whole
past_of (Opening t (O4 round)) = lost
past_of (Opening t (O5 w round)) = lost
past_of (Opening t _) = hopes t.u
past_of (Open v) = uses v
past_of (Offering o at) = uses o.over
past_of (Offered v) = done v
past_of (Closing v at) = done v

-- 1 where slot j lies below i
abbrev pub below : ℕ → ℕ → ℕ
below j i = cond (nat_lt j i) 1 0

-- 2 for the current version c, else 1 if the slot of v lies below i, and the extra
abbrev pub used : Mark → ℕ → Mark → ℕ → ℕ
used c i v extra = cond (is_mark v c) 2 (below v.slot i + extra)

-- an opening program that is bound to a version goes with it
abbrev pub share_of : Mark → ℕ → Past → Announcement → ℕ
share_of c i whole a = 2
share_of c i (hopes u) announcement.Empty = cond (is_mark u c) 2 0
share_of c i (hopes u) (announcement.Plain v) = used c i v 0
share_of c i (hopes u) (announcement.Help v) = cond (is_mark u c) 2 0
share_of c i lost announcement.Empty = 0
share_of c i lost (announcement.Plain v) = used c i v 0
share_of c i lost (announcement.Help v) = 0
share_of c i (uses v) a = used c i v 0
share_of c i (done v) a = used c i v 1

-- 1 where an owned slot lies below i
abbrev pub owned_below : ℕ → Option ℕ → ℕ
owned_below i None = 0
owned_below i (Some j) = below j i

-- the filled slots below i that a program accounts for, with those that it may have left behind
abbrev pub share : Mark → ℕ → Seat → ℕ
share c i x = share_of c i (past_of x.position) x.announced + owned_below i (owned x.position)

-- the filled slots below i that are accounted for
abbrev pub accounted : State → ℕ → ℕ
accounted s i = below s.current.slot i + total (share s.current i) s.seats
