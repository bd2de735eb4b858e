-- The labels that change the status of a slot, or empty it for good, keep what always holds.
use Rattle.std.proofs.Common.{◌≡◌, ℕ, ◌<◌, ◌≤◌, Bool, true, false, cond, ◌||◌, length, Some, None, Option, sym, refl, ap, ◌∙◌, subst, inl, ⊎_elim, arith}
use Rattle.std.proofs.lemmas.Bool.{cases_eq, cases_lt, lt-ltb}
use Rattle.std.proofs.lemmas.List.{get_or_past}
use Rattle.announcement_theory.specs.declared.mark.Mark.{Mark}
use Rattle.announcement_theory.specs.declared.slot.Status.{Status}
use Rattle.announcement_theory.specs.declared.slot.Status.TheVariants.{Pending, Frozen}
use Rattle.announcement_theory.specs.declared.slot.Stored.{Stored}
use Rattle.announcement_theory.specs.declared.announcement.Announcement.{Announcement}
use Rattle.announcement_theory.specs.declared.announcement.Announcement.TheVariants as announcement
use Rattle.announcement_theory.specs.declared.position.Position.{Position}
use Rattle.announcement_theory.specs.declared.position.Position.TheVariants.{Idle, Closing}
use Rattle.announcement_theory.specs.declared.position.CloseLabel.TheVariants.{C3, C4, C5, C6, C7}
use Rattle.announcement_theory.specs.declared.seat.Seat.{Seat}
use Rattle.announcement_theory.specs.State.{State, mark, seat, slot_at, seat_at, position_at, announced_at}
use Rattle.announcement_theory.specs.Tests.{is_mark, filled, serial_in, holds, usable, pending, frozen, restated}
use Rattle.announcement_theory.specs.Next.{put, fill}
use Rattle.announcement_theory.specs.Views.{silent, manner, fits, about, spare, since, aside, offerer, owned_in, owned, pends, sweeps, closer, ranged}
use Rattle.announcement_theory.specs.Shares.{done, used, share_of, owned_below, past_of}
use Rattle.announcement_theory.specs.Invariant.{Holds, waits_on, waits, Good}
use Rattle.announcement_theory.proofs.Basics.{false_true, clash, none_some, mark_same, same_mark, holds_filled, holds_serial, serial_holds, usable_filled, usable_pending, usable_frozen, pending_frozen, owned_is, owner_owns, beyond}
use Rattle.announcement_theory.proofs.Good.{Sound, Each, Closes, Offers, KeptWith, Fits, known, put_good}
use Rattle.announcement_theory.proofs.Stay.{stay, still_searched}
use Rattle.announcement_theory.proofs.Shared.{used_most, waits_left, waits_right}
use Rattle.announcement_theory.proofs.Writes.{Written, slot_same, slot_other, slot_each, written}
use Rattle.announcement_theory.proofs.Fillings.{empty_holds, one_slot}

restated_holds : (st : Status) (v : Mark) (x : Option Stored) → holds v (restated st x) ≡ holds v x
restated_holds st v None = refl
restated_holds st v (Some x) = refl

restated_filled : (st : Status) (x : Option Stored) → filled (restated st x) ≡ filled x
restated_filled st None = refl
restated_filled st (Some x) = refl

restated_serial : (st : Status) (x : Option Stored) → serial_in (restated st x) ≡ serial_in x
restated_serial st None = refl
restated_serial st (Some x) = refl

restated_pending : (x : Option Stored) → filled x ≡ true → (pending (restated Pending x) ≡ true) × (frozen (restated Pending x) ≡ false)
restated_pending None e = false_true e
restated_pending (Some x) e = (refl, refl)

restated_frozen : (x : Option Stored) → filled x ≡ true → (frozen (restated Frozen x) ≡ true) × (pending (restated Frozen x) ≡ false)
restated_frozen None e = false_true e
restated_frozen (Some x) e = (refl, refl)

-- a program that announces something is one of the programs
pub seated_below : (s : State) → Good s → (q : ℕ) (a : Announcement) → announced_at s q ≡ a → (a ≡ announcement.Empty → ⊥) → q < s.programs
seated_below s g q a e ne = ⊎_elim
    (λ (l : q < s.programs). l)
    (λ (m : s.programs ≤ q). absurd (ne (sym e ∙ ap (λ x. x.announced) (beyond s q (omega (arith, g.sized.3))))))
    (cases_lt q s.programs)

plain_not_empty : (v : Mark) → announcement.Plain v ≡ announcement.Empty → ⊥
plain_not_empty v e = let z : ◌≡◌ {A = ℕ} 0 1 = cc in omega arith

help_not_empty : (v : Mark) → announcement.Help v ≡ announcement.Empty → ⊥
help_not_empty v e = let z : ◌≡◌ {A = ℕ} 0 1 = cc in omega arith

pub plain_below : (s : State) → Good s → (q : ℕ) (v : Mark) → announced_at s q ≡ announcement.Plain v → q < s.programs
plain_below s g q v e = seated_below s g q (announcement.Plain v) e (plain_not_empty v)

pub help_below : (s : State) → Good s → (q : ℕ) (v : Mark) → announced_at s q ≡ announcement.Help v → q < s.programs
help_below s g q v e = seated_below s g q (announcement.Help v) e (help_not_empty v)

pub holds_in_range : (s : State) (v : Mark) → Holds s v → v.slot < length s.slots
holds_in_range s v t = ⊎_elim (λ (a : v.slot < length s.slots). a)
    (λ (b : length s.slots ≤ v.slot). empty_holds v (slot_at s v.slot) (get_or_past s.slots v.slot None b) t)
    (cases_lt v.slot (length s.slots))

-- the slot of v, which p is closing, gets another status
module _ (s : State) (g : Good s) (p : ℕ) (h : p < s.programs) (v : Mark) (stands : Holds s v) (st : Status)
    (from to : Position) (was : seat_at s p ≡ seat from announcement.Empty) where
  abbrev j : ℕ
  j = v.slot

  abbrev y : Option Stored
  y = restated st (slot_at s j)

  abbrev after : State
  after = fill s j y

  in_slots : j < length s.slots
  in_slots = holds_in_range s v stands

  same_filled : (k : ℕ) → filled (slot_at after k) ≡ filled (slot_at s k)
  same_filled k = slot_each s j y in_slots (λ x. filled x ≡ filled (slot_at s k)) k
      (λ e. restated_filled st (slot_at s j) ∙ ap (λ n. filled (slot_at s n)) (sym e)) (λ _. refl)

  same_serial : (k : ℕ) → serial_in (slot_at after k) ≡ serial_in (slot_at s k)
  same_serial k = slot_each s j y in_slots (λ x. serial_in x ≡ serial_in (slot_at s k)) k
      (λ e. restated_serial st (slot_at s j) ∙ ap (λ n. serial_in (slot_at s n)) (sym e)) (λ _. refl)

  here_holds : (w : Mark) → holds w y ≡ holds w (slot_at s j)
  here_holds w = restated_holds st w (slot_at s j)

  still : (w : Mark) → w.slot ≡ j → Holds s w → holds w y ≡ true
  still w e t = here_holds w ∙ ap (λ n. holds w (slot_at s n)) (sym e) ∙ t

  back : (w : Mark) → w.slot ≡ j → holds w y ≡ true → Holds s w
  back w e t = ap (λ n. holds w (slot_at s n)) e ∙ sym (here_holds w) ∙ t

  restated_good : Written s p j y → about from ≡ Some v → about to ≡ Some v → spare to ≡ None → since to ≡ 0 → owned from ≡ None → offerer
      s.programs to ≡ aside → manner to ≡ silent
      → past_of from ≡ done v → past_of to ≡ done v
      → ranged s.programs to ≡ true → Closes after p (closer s.programs to) → waits after j (seat to announcement.Empty) ≡ true
      → ((k : ℕ) → waits s k (seat from announcement.Empty) ≡ true → k ≡ j)
      → Good (put after p (seat to announcement.Empty))
  restated_good w about_from about_to spare_to since_to free aside_to silent_to past_from past_to ranged_to closes_to waits_to waits_from =
      let old = seat from announcement.Empty in
      let new = seat to announcement.Empty in
      let t = stay s g p h old was in
      let k = known s p old t.knows v (inl about_from) in
      let mine : Sound after p 0 v = record {
        from = omega arith;
        to = k.to;
        within = k.within;
        fresh = λ z ne e u. k.fresh z ne e stands;
      } in
      let unowned : owned to ≡ None = sym (owned_is s.programs to) ∙ ap owned_in aside_to in
      put_good after p new (written s j y in_slots g p w) (record {
        ranged = ranged_to;
        local = subst (λ m. fits m announcement.Empty ≡ true) (sym silent_to) refl;
        knows = (
          subst (λ o. Each (Sound after p (since to)) o) (sym about_to) (subst (λ n. Sound after p n v) (sym since_to) mine),
          subst (λ o. Each (Sound after p (since to)) o) (sym spare_to) tt,
          tt,
        );
        self = λ u _ e _. none_some u.slot (sym unowned ∙ e);
        offers = subst (Offers after p) (sym aside_to) tt;
        closes = closes_to;
        says = tt;
        opens = tt;
        distinct = λ a b x z e. t.distinct a b (kept_from a x) (kept_from b z) (sym (same_serial a) ∙ e ∙ same_serial b);
        wanted = λ a x here rest. ⊎_elim
            (λ (e : a ≡ j). absurd (here (subst (λ n. waits after n new ≡ true) (sym e) waits_to)))
            (λ (ne : a ≡ j → ⊥).
            let same = slot_other s j y in_slots a ne in
            t.wanted a (kept_from a x) (λ e. ne (waits_from a e))
            (λ q qn e. rest q qn (subst (λ x. waits_on x (mark (serial_in x) a) (announced_at s q) (closer s.programs (position_at s q)) ≡ true)
            (sym same) e)))
            (cases_eq a j);
        searched = still_searched s g p h old new was (λ i.
            let a : share_of s.current i (past_of from) announcement.Empty ≡ used s.current i v 1 = ap
            (λ x. share_of s.current i x announcement.Empty) past_from in
            let b : share_of s.current i (past_of to) announcement.Empty ≡ used s.current i v 1 = ap
            (λ x. share_of s.current i x announcement.Empty) past_to in
            omega (arith, ap (owned_below i) free, ap (owned_below i) unowned));
        seeking = λ o i e. let z : ◌≡◌ {A = ℕ} 0 1 = cc in absurd (omega arith);
      }) h
    where
      kept_from : (a : ℕ) → KeptWith after p (owned to) a → KeptWith s p (owned from) a
      kept_from a x = (sym (same_filled a) ∙ x.0, x.1, λ e. none_some a (sym free ∙ e))

-- C3: the slot of v was usable
module _ (s : State) (g : Good s) (p : ℕ) (h : p < s.programs) (v : Mark) (was : seat_at s p ≡ seat (Closing v C3) announcement.Empty) (stands : Holds s v)
    (fine : usable (slot_at s v.slot) ≡ true) where
  pub c3_pend_good : Good (put (fill s v.slot (restated Pending (slot_at s v.slot))) p (seat (Closing v (C4 0)) announcement.Empty))
  c3_pend_good = restated_good s g p h v stands Pending (Closing v C3) (Closing v (C4 0)) was (record {
    fresh = λ q z ne zn w e m o t. g.fresh q z w m (o ∙ ap {B = Option ℕ} Some (sym e)) (from_here w e t);
    current = λ e. absurd (clash (is_mark v V)
        (same_mark v V (one_slot s v V stands (serial_holds V (slot_at s V.slot) (usable_filled (slot_at s V.slot) g.current.1)
        g.current.2) (sym e))) fit.closes);
    own = λ z ne r o f e. absurd (fit.knows.0.fresh z ne (owner_owns s.programs (position_at s z) r o v.slot f e) stands);
    held = λ q ne w e a. to_here w e (g.held q w a);
    valid = λ q ne w e o a. (to_here w e (g.valid q w o a).0, (restated_pending x (holds_filled v x stands)).1);
    pended = λ z ne w a e c. clash (pending x) (subst (λ n. pending (slot_at s n) ≡ true) e (g.pended z w a c).1) (usable_pending x fine);
    froze = λ z ne w b e c t. clash (frozen x) (subst (λ n. frozen (slot_at s n) ≡ true) e (g.froze z w b c (from_here w e t)))
        (usable_frozen x fine);
  }) refl refl refl refl refl refl refl refl refl
      (lt-ltb 0 s.programs (omega (arith, g.sized.0)))
      (record {
        stands = ap (holds v) now ∙ restated_holds Pending v x ∙ stands;
        pending = ap pending now ∙ (restated_pending x (holds_filled v x stands)).0;
        single = λ z b ne c. clash (pending x) (g.pended z v b c).1 (usable_pending x fine);
        helped = λ q ne o a. omega arith;
      })
      (subst (λ y. waits_on y (mark (serial_in y) v.slot) announcement.Empty (pends v 0) ≡ true) (sym now)
      (waiting (pending (restated Pending x)) (is_mark (mark (serial_in (restated Pending x)) v.slot) v)
      (restated_pending x (holds_filled v x stands)).0
      (same_mark (mark (serial_in (restated Pending x)) v.slot) v
      (ap (λ n. mark n v.slot) (restated_serial Pending x ∙ holds_serial v x stands)))))
      (λ k w. ap (λ y. y.slot) (mark_same (mark (serial_in (slot_at s k)) k) v
      (waits_left (pending (slot_at s k)) (is_mark (mark (serial_in (slot_at s k)) k) v) w).1))
    where
      x : Option Stored
      x = slot_at s v.slot

      V : Mark
      V = s.current

      fit : Fits s p (seat (Closing v C3) announcement.Empty)
      fit = stay s g p h (seat (Closing v C3) announcement.Empty) was

      now : slot_at (fill s v.slot (restated Pending x)) v.slot ≡ restated Pending x
      now = slot_same s v.slot (restated Pending x) (holds_in_range s v stands)

      to_here : (w : Mark) → w.slot ≡ v.slot → Holds s w → holds w (restated Pending x) ≡ true
      to_here w e t = still s g p h v stands Pending (Closing v C3) (Closing v (C4 0)) was w e t

      from_here : (w : Mark) → w.slot ≡ v.slot → holds w (restated Pending x) ≡ true → Holds s w
      from_here w e t = back s g p h v stands Pending (Closing v C3) (Closing v (C4 0)) was w e t

      waiting : (b m : Bool) → b ≡ true → m ≡ true → cond b m (false || false) ≡ true
      waiting true m e f = f
      waiting false m e f = e

-- C5: the slot of v, which is pending, becomes frozen
module _ (s : State) (g : Good s) (p : ℕ) (h : p < s.programs) (v : Mark) (was : seat_at s p ≡ seat (Closing v C5) announcement.Empty) where
  pub c5_good : Good (put (fill s v.slot (restated Frozen (slot_at s v.slot))) p (seat (Closing v (C6 0)) announcement.Empty))
  c5_good = restated_good s g p h v stands Frozen (Closing v C5) (Closing v (C6 0)) was (record {
    fresh = λ q z ne zn w e m o t. g.fresh q z w m (o ∙ ap {B = Option ℕ} Some (sym e)) (from_here w e t);
    current = λ e. clash (pending x) pend (usable_pending x (subst (λ n. usable (slot_at s n) ≡ true) e g.current.1));
    own = λ z ne r o f e. clash (pending x) pend (usable_pending x (g.own z r o v.slot f e).0);
    held = λ q ne w e a. to_here w e (g.held q w a);
    valid = λ q ne w e o a.
        let is = one_slot s w v (g.valid q w o a).0 stands e in
        let asked : announced_at s q ≡ announcement.Help v = subst (λ n. announced_at s q ≡ announcement.Help n) is a in
        absurd (omega (arith, fit.closes.helped q ne o asked, help_below s g q v asked));
    pended = λ z ne w a e c.
        let is = one_slot s w v (g.pended z w a c).0 stands e in
        absurd (fit.closes.single z a ne (subst (λ n. closer s.programs (position_at s z) ≡ pends n a) is c));
    froze = λ z ne w b e c t. (restated_frozen x (holds_filled v x stands)).0;
  }) refl refl refl refl refl refl refl refl refl
      (lt-ltb 0 s.programs (omega (arith, g.sized.0)))
      (record {
        frozen = λ _. ap frozen now ∙ (restated_frozen x (holds_filled v x stands)).0;
        swept = λ q ne a. omega arith;
      })
      (subst (λ y. waits_on y (mark (serial_in y) v.slot) announcement.Empty (sweeps v 0) ≡ true) (sym now)
      (waits_right (pending (restated Frozen x)) (is_mark (mark (serial_in (restated Frozen x)) v.slot) v)
      (restated_frozen x (holds_filled v x stands)).1
      (same_mark (mark (serial_in (restated Frozen x)) v.slot) v
      (ap (λ n. mark n v.slot) (restated_serial Frozen x ∙ holds_serial v x stands)))))
      (λ k w. ap (λ y. y.slot) (mark_same (mark (serial_in (slot_at s k)) k) v
      (pended_on (pending (slot_at s k)) (is_mark (mark (serial_in (slot_at s k)) k) v) w)))
    where
      x : Option Stored
      x = slot_at s v.slot

      fit : Fits s p (seat (Closing v C5) announcement.Empty)
      fit = stay s g p h (seat (Closing v C5) announcement.Empty) was

      stands : Holds s v
      stands = fit.closes.stands

      pend : pending x ≡ true
      pend = fit.closes.pending

      now : slot_at (fill s v.slot (restated Frozen x)) v.slot ≡ restated Frozen x
      now = slot_same s v.slot (restated Frozen x) (holds_in_range s v stands)

      to_here : (w : Mark) → w.slot ≡ v.slot → Holds s w → holds w (restated Frozen x) ≡ true
      to_here w e t = still s g p h v stands Frozen (Closing v C5) (Closing v (C6 0)) was w e t

      from_here : (w : Mark) → w.slot ≡ v.slot → holds w (restated Frozen x) ≡ true → Holds s w
      from_here w e t = back s g p h v stands Frozen (Closing v C5) (Closing v (C6 0)) was w e t

      pended_on : (b m : Bool) → cond b m (false || false) ≡ true → m ≡ true
      pended_on true m e = e
      pended_on false m e = false_true e

-- C7: the slot of v, which is frozen, is emptied
module _ (s : State) (g : Good s) (p : ℕ) (h : p < s.programs) (v : Mark) (was : seat_at s p ≡ seat (Closing v C7) announcement.Empty) (stands : Holds s v)
    (icy : frozen (slot_at s v.slot) ≡ true) where
  pub c7_hand_good : Good (put (fill s v.slot None) p (seat Idle announcement.Empty))
  c7_hand_good = put_good after p new (written s v.slot None in_slots g p (record {
    fresh = λ q z ne zn w e m o t. false_true t;
    current = λ e. clash (frozen x) icy (usable_frozen x (subst (λ n. usable (slot_at s n) ≡ true) e g.current.1));
    own = λ z ne r o f e. clash (frozen x) icy (usable_frozen x (g.own z r o v.slot f e).0);
    held = λ q ne w e a.
        let is = one_slot s w v (g.held q w a) stands e in
        let has_it : announced_at s q ≡ announcement.Plain v = subst (λ n. announced_at s q ≡ announcement.Plain n) is a in
        absurd (omega (arith, fit.closes.swept q ne has_it, plain_below s g q v has_it));
    valid = λ q ne w e o a. clash (frozen x) icy (subst (λ n. frozen (slot_at s n) ≡ false) e (g.valid q w o a).1);
    pended = λ z ne w a e c. clash (frozen x) icy (pending_frozen x (subst (λ n. pending (slot_at s n) ≡ true) e (g.pended z w a c).1));
    froze = λ z ne w b e c t. false_true t;
  })) (record {
    ranged = refl;
    local = refl;
    knows = (tt, tt, tt);
    self = λ u _ e _. none_some u.slot e;
    offers = tt;
    closes = tt;
    says = tt;
    opens = tt;
    distinct = λ a b c d e.
        let k = was_kept a c in
        let l = was_kept b d in
        fit.distinct a b k.1 l.1 (sym (ap serial_in (slot_other s v.slot None in_slots a k.0)) ∙ e ∙ ap serial_in
        (slot_other s v.slot None in_slots b l.0));
    wanted = λ a c here rest.
        let k = was_kept a c in
        let same = slot_other s v.slot None in_slots a k.0 in
        fit.wanted a k.1
        (λ e. k.0 (ap (λ y. y.slot) (mark_same (mark (serial_in (slot_at s a)) a) v
        (waits_left (pending (slot_at s a)) (is_mark (mark (serial_in (slot_at s a)) a) v) e).1)))
        (λ q ne e. rest q ne (subst (λ x. waits_on x (mark (serial_in x) a) (announced_at s q) (closer s.programs (position_at s q)) ≡ true)
        (sym same) e));
    searched = still_searched s g p h old new was (λ i. omega (arith, used_most s.current i v 1 (omega arith)));
    seeking = λ o i e. let z : ◌≡◌ {A = ℕ} 0 1 = cc in absurd (omega arith);
  }) h
    where
      x : Option Stored
      x = slot_at s v.slot

      after : State
      after = fill s v.slot None

      old : Seat
      old = seat (Closing v C7) announcement.Empty

      new : Seat
      new = seat Idle announcement.Empty

      fit : Fits s p (seat (Closing v C7) announcement.Empty)
      fit = stay s g p h (seat (Closing v C7) announcement.Empty) was

      in_slots : v.slot < length s.slots
      in_slots = holds_in_range s v stands

      was_kept : (k : ℕ) → KeptWith (fill s v.slot None) p None k → (k ≡ v.slot → ⊥) × KeptWith s p None k
      was_kept k a =
          let ne : k ≡ v.slot → ⊥ = λ (e : k ≡ v.slot). false_true
          (sym (ap filled (ap (slot_at (fill s v.slot None)) e ∙ slot_same s v.slot None in_slots)) ∙ a.0) in
          (ne, (subst (λ x. filled x ≡ true) (slot_other s v.slot None in_slots k ne) a.0, a.1, a.2))
