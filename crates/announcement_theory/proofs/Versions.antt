-- What the labels that write a slot, or V, do to the versions that are kept.
use Rattle.std.proofs.Common.{◌≡◌, ℕ, ◌+◌, ◌*◌, ◌<◌, Bool, true, false, cond, eqb, length, Some, None, Option, sym, refl, ap, ◌∙◌, subst, inl, ⊎_elim, arith}
use Rattle.std.proofs.lemmas.Bool.{cases_eq, ne_eqb}
use Rattle.announcement_theory.specs.declared.mark.Mark.{Mark}
use Rattle.announcement_theory.specs.declared.slot.Status.{Status}
use Rattle.announcement_theory.specs.declared.slot.Stored.{Stored}
use Rattle.announcement_theory.specs.declared.announcement.Announcement.TheVariants as announcement
use Rattle.announcement_theory.specs.declared.position.Position.TheVariants.{Idle, Offering, Offered, Closing}
use Rattle.announcement_theory.specs.declared.position.OfferLabel.TheVariants.{F3}
use Rattle.announcement_theory.specs.declared.position.CloseLabel.TheVariants.{C7}
use Rattle.announcement_theory.specs.declared.seat.Seat.{Seat}
use Rattle.announcement_theory.specs.State.{State, mark, seat, slot_at, seat_at, position_at, announced_at, offer}
use Rattle.announcement_theory.specs.Tests.{is_mark, serial_in, root_in, usable, frozen, restated}
use Rattle.announcement_theory.specs.Next.{put, fill, advance}
use Rattle.announcement_theory.specs.Views.{about, Mentions, offerer, owned, closer}
use Rattle.announcement_theory.specs.Invariant.{Holds, Kept, Good}
use Rattle.announcement_theory.proofs.Basics.{clash, holds_serial, usable_frozen, at_same}
use Rattle.announcement_theory.proofs.Waiting.{current_stands, mentioned_kept, current_kept, current_only}
use Rattle.announcement_theory.proofs.Fillings.{one_slot, says_mentions}
use Rattle.announcement_theory.proofs.Writes.{slot_same, slot_other, slot_each}
use Rattle.announcement_theory.proofs.Freezings.{plain_below, holds_in_range}
use Rattle.keeper.specs.declared.version.Version.{Version}
use Rattle.keeper.specs.Stages.{has}
use Rattle.keeper.specs.Meaning.{version, stage_of, root_at}
use Rattle.announcement_theory.specs.Means.{is_slot, owners, entry_in, entry_at, kept_of, meaning_of}
use Rattle.keeper.specs.declared.outcome.Outcome.TheVariants.{Accepted, HandedOut}
use Rattle.keeper.specs.Effects.{Unmoved, StepDone}
use Rattle.announcement_theory.proofs.Gathered.{gathered_same, gathered_more}
use Rattle.announcement_theory.proofs.Entries.{owned_taken, entry_kept, entry_taken, entry_empty, kept_in_range}
use Rattle.announcement_theory.proofs.Lawful.{root_kept, stage_at_is, has_plain, kept_times}
use Rattle.announcement_theory.proofs.Effects.{entry_put, stage_here, frame, stage_was}
use Rattle.announcement_theory.proofs.Accepting.{accept_good, next_serial, over_current}

-- a slot that is not j is not owned as j
slot_apart : (j i : ℕ) → (j ≡ i → ⊥) → is_slot j (Some i) ≡ 0
slot_apart j i ne = ap {B = ℕ} (λ b. cond b 1 0) (ne_eqb i j (λ (e : i ≡ j). ne (sym e)))

-- the current version is as it was, where its slot still has its root
pub same_current : (s t : State) → t.current ≡ s.current → root_in (slot_at t s.current.slot) ≡ root_in (slot_at s s.current.slot)
    → (meaning_of t).current ≡ (meaning_of s).current
same_current s t e f = ap (λ v. version v.serial (root_in (slot_at t v.slot))) e ∙ ap (version s.current.serial) f

-- slot i becomes y, and p owns it before or after, and not at both times
module _ (s : State) (g : Good s) (p : ℕ) (h : p < s.programs) (i : ℕ) (y : Option Stored) (x : Seat) (in_slots : i < length s.slots)
    (old : i ≡ s.current.slot → ⊥) where
  abbrev after : State
  after = put (fill s i y) p x

  within : p < length s.seats
  within = omega (arith, g.sized.3)

  elsewhere : (j : ℕ) → (j ≡ i → ⊥) → is_slot j (owned x.position) ≡ is_slot j (owned (position_at s p)) → entry_at after j ≡ entry_at s j
  elsewhere j ne e = entry_put (fill s i y) p x within j e ∙ ap (λ z. entry_in z (eqb (owners s j) 0)) (slot_other s i y in_slots j ne)

  untouched : ((j : ℕ) → (j ≡ i → ⊥) → is_slot j (owned x.position) ≡ is_slot j (owned (position_at s p))) → entry_at after i ≡ entry_at s i
      → Unmoved (meaning_of s) (meaning_of after)
  untouched others here = record {
    current = same_current s after refl (ap root_in (slot_other s i y in_slots s.current.slot (λ (e : s.current.slot ≡ i). old (sym e))));
    kept = gathered_same (entry_at after) (entry_at s) (λ j. ⊎_elim
        (λ (e : j ≡ i). subst (λ k. entry_at after k ≡ entry_at s k) (sym e) here)
        (λ (ne : j ≡ i → ⊥). elsewhere j ne (others j ne))
        (cases_eq j i)) 0 (3 * s.programs + 1);
  }

  -- p fills an empty slot and owns it
  pub fills : owned (position_at s p) ≡ None → owned x.position ≡ Some i → slot_at s i ≡ None → Unmoved (meaning_of s) (meaning_of after)
  fills before now vacant = untouched
      (λ j ne. ap (is_slot j) now ∙ slot_apart j i ne ∙ sym (ap (is_slot j) before))
      (entry_taken after i (owned_taken after i p (ap (λ z. owned z.position) (at_same (fill s i y) p x within) ∙ now)) ∙ sym
      (entry_empty s i vacant))

  -- p empties the slot that it owned
  pub empties : owned (position_at s p) ≡ Some i → owned x.position ≡ None → y ≡ None → Unmoved (meaning_of s) (meaning_of after)
  empties before now none = untouched
      (λ j ne. ap (is_slot j) now ∙ sym (slot_apart j i ne) ∙ sym (ap (is_slot j) before))
      (entry_empty after i (slot_same s i y in_slots ∙ none) ∙ sym (entry_taken s i (owned_taken s i p before)))

restated_entry : (st : Status) (x : Option Stored) (b : Bool) → entry_in (restated st x) b ≡ entry_in x b
restated_entry st None b = refl
restated_entry st (Some x) true = refl
restated_entry st (Some x) false = refl

restated_root : (st : Status) (x : Option Stored) → root_in (restated st x) ≡ root_in x
restated_root st None = refl
restated_root st (Some x) = refl

-- another status leaves what is kept
pub restates : (s : State) → Good s → (p : ℕ) → p < s.programs → (j : ℕ) (st : Status) (x : Seat) → j < length s.slots
    → owned x.position ≡ owned (position_at s p) → Unmoved (meaning_of s) (meaning_of (put (fill s j (restated st (slot_at s j))) p x))
restates s g p h j st x in_slots free = record {
  current = same_current s (put (fill s j y) p x) refl
      (slot_each s j y in_slots (λ z. root_in z ≡ root_in (slot_at s s.current.slot)) s.current.slot
      (λ e. restated_root st (slot_at s j) ∙ ap (λ k. root_in (slot_at s k)) (sym e)) (λ _. refl));
  kept = gathered_same (entry_at (put (fill s j y) p x)) (entry_at s) (λ k.
      entry_put (fill s j y) p x (omega (arith, g.sized.3)) k (ap (is_slot k) free)
      ∙ slot_each s j y in_slots (λ z. entry_in z (eqb (owners s k) 0) ≡ entry_at s k) k
      (λ e. restated_entry st (slot_at s j) (eqb (owners s k) 0) ∙ ap (λ i. entry_in (slot_at s i) (eqb (owners s k) 0)) (sym e)) (λ _. refl))
      0 (3 * s.programs + 1);
}
  where
    y : Option Stored
    y = restated st (slot_at s j)

-- an accepted offer
module _ (s : State) (g : Good s) (p : ℕ) (h : p < s.programs) (r : ℕ) (over : Mark) (i : ℕ)
    (was : seat_at s p ≡ seat (Offering (offer r over i) F3) (announcement.Plain over))
    (current : is_mark over s.current ≡ true) where
  pub accepts : StepDone (meaning_of s) p (meaning_of
      (put (advance s (mark (serial_in (slot_at s i)) i)) p (seat (Offered over) (announcement.Plain over)))) (Accepted (serial_in (slot_at s i)))
  accepts = (
    frame s g p h t x refl refl refl,
    record {
      root = r;
      over = over.serial;
      was = stage_was s g p h t x refl refl refl old was;
      current = serial_is;
      serial = next_serial s g p h r over i was current ∙ ap (λ k. k + 1) (sym serial_is);
      replaced = ap (version (serial_in (slot_at s i))) root_is;
      added = λ f. gathered_more f (entry_at s) (entry_at after) i (version (serial_in (slot_at s i)) r)
          (entry_taken s i (owned_taken s i p mine))
          (entry_kept after i (current_kept after good) ∙ ap (λ k. Some (version (serial_in (slot_at s i)) k)) root_is)
          (λ k ne. entry_put t p x (omega (arith, g.sized.3)) k (sym (ap (is_slot k) mine ∙ slot_apart k i ne)))
          0 (3 * s.programs + 1) (omega arith) (kept_in_range after good i (current_kept after good));
      is = stage_here s g p h t x refl refl refl;
    },
  )
    where
      t : State
      t = advance s (mark (serial_in (slot_at s i)) i)

      old : Seat
      old = seat (Offering (offer r over i) F3) (announcement.Plain over)

      x : Seat
      x = seat (Offered over) (announcement.Plain over)

      after : State
      after = put (advance s (mark (serial_in (slot_at s i)) i)) p (seat (Offered over) (announcement.Plain over))

      good : Good (put (advance s (mark (serial_in (slot_at s i)) i)) p (seat (Offered over) (announcement.Plain over)))
      good = accept_good s g p h r over i was current

      serial_is : over.serial ≡ s.current.serial
      serial_is = ap (λ v. v.serial) (over_current s g p h r over i was current)

      mine : owned (position_at s p) ≡ Some i
      mine = ap (λ y. owned y.position) was

      root_is : root_in (slot_at s i) ≡ r
      root_is = (g.own p r over i s.programs (ap (λ y. offerer s.programs y.position) was)).1

-- a version is handed out
module _ (s : State) (g : Good s) (p : ℕ) (h : p < s.programs) (v : Mark) (was : seat_at s p ≡ seat (Closing v C7) announcement.Empty) (stands : Holds s v)
    (icy : frozen (slot_at s v.slot) ≡ true) where
  pub hands_out : StepDone (meaning_of s) p (meaning_of (put (fill s v.slot None) p (seat Idle announcement.Empty))) (HandedOut v.serial)
  hands_out = (
    frame s g p h t x refl refl refl,
    record {
      was = stage_was s g p h t x refl refl refl old was;
      is = stage_here s g p h t x refl refl refl;
      kept = kept_times s g v.serial v.slot kept_here serial_is;
      old = λ e. not_current (current_only s g p v mentions stands e);
      unused = unused;
      current = same_current s after refl (ap root_in
          (slot_other s v.slot None in_slots s.current.slot (λ (e : s.current.slot ≡ v.slot).
          not_current (one_slot s v s.current stands (current_stands s g) (sym e)))));
      removed = λ f. gathered_more f (entry_at after) (entry_at s) v.slot (version v.serial (root_at v.serial (kept_of s)))
          (entry_empty after v.slot (slot_same s v.slot None in_slots))
          (entry_kept s v.slot kept_here ∙ ap {B = Option Version} Some version_is)
          (λ k ne. sym (entry_put t p x (omega (arith, g.sized.3)) k (sym (ap (λ y. is_slot k (owned y.position)) was))
          ∙ ap (λ z. entry_in z (eqb (owners s k) 0)) (slot_other s v.slot None in_slots k ne)))
          0 (3 * s.programs + 1) (omega arith) (kept_in_range s g v.slot kept_here);
    },
  )
    where
      t : State
      t = fill s v.slot None

      old : Seat
      old = seat (Closing v C7) announcement.Empty

      x : Seat
      x = seat Idle announcement.Empty

      after : State
      after = put (fill s v.slot None) p (seat Idle announcement.Empty)

      in_slots : v.slot < length s.slots
      in_slots = holds_in_range s v stands

      mentions : Mentions (seat_at s p) v
      mentions = inl (ap (λ y. about y.position) was)

      kept_here : Kept s v.slot
      kept_here = mentioned_kept s g p v mentions stands

      serial_is : serial_in (slot_at s v.slot) ≡ v.serial
      serial_is = holds_serial v (slot_at s v.slot) stands

      not_current : v ≡ s.current → ⊥
      not_current e = clash (frozen (slot_at s v.slot)) icy
          (usable_frozen (slot_at s v.slot) (subst (λ w. usable (slot_at s w.slot) ≡ true) (sym e) g.current.1))

      version_is : version (serial_in (slot_at s v.slot)) (root_in (slot_at s v.slot)) ≡ version v.serial (root_at v.serial (kept_of s))
      version_is = ap (version (serial_in (slot_at s v.slot))) (sym (root_kept s g v.slot kept_here)) ∙ ap
          (λ k. version k (root_at k (kept_of s))) serial_is

      unused : (q : ℕ) → has (stage_of (meaning_of s) q) ≡ Some v.serial → ⊥
      unused q e =
          let a = has_plain (position_at s q) (announced_at s q) v.serial (g.local q) (sym (ap has (stage_at_is s q)) ∙ e) in
          let w = a.version in
          let there = g.held q w a.says in
          let slot_is : w.slot ≡ v.slot = g.distinct w.slot v.slot (mentioned_kept s g q w (says_mentions s q w a.says) there) kept_here
          (holds_serial w (slot_at s w.slot) there ∙ a.serial ∙ sym serial_is) in
          let is = one_slot s w v there stands slot_is in
          let has_it : announced_at s q ≡ announcement.Plain v = subst (λ k. announced_at s q ≡ announcement.Plain k) is a.says in
          ⊎_elim
          (λ (z : q ≡ p). let f : announcement.Plain v ≡ announcement.Empty = sym has_it ∙ ap (announced_at s) z ∙ ap (λ y. y.announced) was in
          let zero_one : ◌≡◌ {A = ℕ} 0 1 = cc (f) in omega arith)
          (λ (z : q ≡ p → ⊥). omega (
            arith,
            plain_below s g q v has_it,
            g.swept q p v s.programs has_it
                (ap (λ y. closer s.programs y.position) was),
          ))
          (cases_eq q p)
