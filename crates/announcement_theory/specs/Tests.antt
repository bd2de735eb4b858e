-- What the keeper asks of a version, an announcement and a slot.
use Rattle.std.specs.Prelude.{ℕ, Bool, true, false, ◌&&◌, Some, None, Option, is_some, ◌==◌}
use Rattle.announcement_theory.specs.declared.mark.Mark.{Mark}
use Rattle.announcement_theory.specs.declared.slot.Status.{Status}
use Rattle.announcement_theory.specs.declared.slot.Status.TheVariants.{Usable, Pending, Frozen}
use Rattle.announcement_theory.specs.declared.slot.Stored.{Stored}
use Rattle.announcement_theory.specs.declared.announcement.Announcement.{Announcement}
use Rattle.announcement_theory.specs.declared.announcement.Announcement.TheVariants as announcement
use Rattle.announcement_theory.specs.State.{mark}

-- the two are one version: serial and slot agree
abbrev pub is_mark : Mark → Mark → Bool
is_mark v w = v.serial == w.serial && v.slot == w.slot

-- v is announced with help
abbrev pub asks : Mark → Announcement → Bool
asks v announcement.Empty = false
asks v (announcement.Plain w) = false
asks v (announcement.Help w) = is_mark v w

-- v is announced without help
abbrev pub bears : Mark → Announcement → Bool
bears v announcement.Empty = false
bears v (announcement.Plain w) = is_mark v w
bears v (announcement.Help w) = false

-- help is asked for
abbrev pub flagged : Announcement → Bool
flagged announcement.Empty = false
flagged (announcement.Plain w) = false
flagged (announcement.Help w) = true

-- the announced version, if there is one
abbrev pub announces : Announcement → Option Mark
announces announcement.Empty = None
announces (announcement.Plain w) = Some w
announces (announcement.Help w) = Some w

-- the announced version, where there is one
abbrev pub version_in : Announcement → Mark
version_in announcement.Empty = mark 0 0
version_in (announcement.Plain w) = w
version_in (announcement.Help w) = w

-- the slot is not empty
abbrev pub filled : Option Stored → Bool
filled x = is_some x

-- the serial in a slot, 0 in an empty one
abbrev pub serial_in : Option Stored → ℕ
serial_in None = 0
serial_in (Some x) = x.serial

-- the root in a slot, 0 in an empty one
abbrev pub root_in : Option Stored → ℕ
root_in None = 0
root_in (Some x) = x.root

-- the slot holds the version v
abbrev pub holds : Mark → Option Stored → Bool
holds v None = false
holds v (Some x) = x.serial == v.serial

-- the status is usable, pending, frozen
abbrev pub is_usable : Status → Bool
is_usable Usable = true
is_usable Pending = false
is_usable Frozen = false

abbrev pub is_pending : Status → Bool
is_pending Usable = false
is_pending Pending = true
is_pending Frozen = false

abbrev pub is_frozen : Status → Bool
is_frozen Usable = false
is_frozen Pending = false
is_frozen Frozen = true

-- the slot is usable
abbrev pub usable : Option Stored → Bool
usable None = false
usable (Some x) = is_usable x.status

-- the slot is pending
abbrev pub pending : Option Stored → Bool
pending None = false
pending (Some x) = is_pending x.status

-- the slot is frozen
abbrev pub frozen : Option Stored → Bool
frozen None = false
frozen (Some x) = is_frozen x.status

-- the slot with another status
abbrev pub restated : Status → Option Stored → Option Stored
restated st None = None
restated st (Some x) = Some (record x { status = st })
