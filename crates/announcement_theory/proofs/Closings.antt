-- The labels of a close that leave the slots alone keep what always holds.
use Rattle.std.proofs.Common.{◌≡◌, ℕ, ◌+◌, ◌<◌, ◌≤◌, Bool, true, false, cond, ◌||◌, None, sym, refl, ap, ◌∙◌, subst, arith}
use Rattle.std.proofs.lemmas.Bool.{ltb-true, lt-ltb}
use Rattle.announcement_theory.specs.declared.mark.Mark.{Mark}
use Rattle.announcement_theory.specs.declared.announcement.Announcement.TheVariants as announcement
use Rattle.announcement_theory.specs.declared.position.Position.TheVariants.{Idle, Open, Offered, Closing}
use Rattle.announcement_theory.specs.declared.position.CloseLabel.TheVariants.{C1, C2, C3, C4, C5, C6, C7}
use Rattle.announcement_theory.specs.declared.seat.Seat.{Seat}
use Rattle.announcement_theory.specs.State.{State, mark, seat, slot_at, seat_at, position_at, announced_at}
use Rattle.announcement_theory.specs.Tests.{is_mark, asks, bears, serial_in, pending, frozen}
use Rattle.announcement_theory.specs.Next.{put}
use Rattle.announcement_theory.specs.Views.{owned, closer}
use Rattle.announcement_theory.specs.Shares.{share}
use Rattle.announcement_theory.specs.Invariant.{Holds, Kept, pends_on, leaves_on, waits, Good}
use Rattle.announcement_theory.proofs.Basics.{false_true, true_false, clash, mark_same, mark_self, mark_flip, serial_holds}
use Rattle.announcement_theory.proofs.Good.{Other, PendsAt, SweepsAt}
use Rattle.announcement_theory.proofs.Stay.{stay, moves}
use Rattle.announcement_theory.proofs.Shared.{used_more, used_most, waits_over, waits_left}

module _ (s : State) (g : Good s) (p : ℕ) (h : p < s.programs) (v : Mark) where
  abbrev V : Mark
  V = s.current

  pub close_open_good : seat_at s p ≡ seat (Open v) (announcement.Plain v) → Good (put s p (seat (Closing v C1) (announcement.Plain v)))
  close_open_good e =
      let old = seat (Open v) (announcement.Plain v) in
      let t = stay s g p h old e in
      moves s g p h old (seat (Closing v C1) (announcement.Plain v)) e refl refl (record {
        ranged = refl;
        local = t.local;
        knows = t.knows;
        closes = tt;
        says = t.says;
        opens = tt;
        wanted = λ j k here rest w. absurd (here w);
        rise = λ i. omega (arith, used_more V i v);
      })

  pub close_offered_good : seat_at s p ≡ seat (Offered v) (announcement.Plain v) → Good (put s p (seat (Closing v C1) (announcement.Plain v)))
  close_offered_good e =
      let old = seat (Offered v) (announcement.Plain v) in
      let t = stay s g p h old e in
      moves s g p h old (seat (Closing v C1) (announcement.Plain v)) e refl refl (record {
        ranged = refl;
        local = t.local;
        knows = t.knows;
        closes = tt;
        says = t.says;
        opens = tt;
        wanted = λ j k here rest w. absurd (here w);
        rise = λ i. omega arith;
      })

  pub c1_good : seat_at s p ≡ seat (Closing v C1) (announcement.Plain v) → Good (put s p (seat (Closing v C2) announcement.Empty))
  c1_good e =
      let old = seat (Closing v C1) (announcement.Plain v) in
      let t = stay s g p h old e in
      moves s g p h old (seat (Closing v C2) announcement.Empty) e refl refl (record {
        ranged = refl;
        local = refl;
        knows = (t.knows.0, tt, tt);
        closes = tt;
        says = tt;
        opens = tt;
        wanted = λ j k here rest w. absurd (here (waits_over (pending (slot_at s j)) (is_mark (mark (serial_in (slot_at s j)) j) v) w));
        rise = λ i. omega arith;
      })

  -- p goes idle, where it waits for without slot but the current one's
  idles : (old : Seat) → seat_at s p ≡ old → owned old.position ≡ None → ((i : ℕ) → share V i old ≤ 2)
      → ((j : ℕ) → Kept s j → ((q : ℕ) → Other p q → waits s j (seat_at s q) ≡ true → ⊥) → waits s j old ≡ true → j ≡ V.slot)
      → Good (put s p (seat Idle announcement.Empty))
  idles old e free few wanted = moves s g p h old (seat Idle announcement.Empty) e free refl (record {
    ranged = refl;
    local = refl;
    knows = (tt, tt, tt);
    closes = tt;
    says = tt;
    opens = tt;
    wanted = λ j k here rest w. wanted j k rest w;
    rise = λ i. omega (arith, few i);
  })

  -- a slot that a close waits for is that of its version
  waited : (j : ℕ) → Kept s j → cond (pending (slot_at s j)) false (false || is_mark (mark (serial_in (slot_at s j)) j) v) ≡ true
      → (j ≡ v.slot) × Holds s v × (pending (slot_at s v.slot) ≡ false)
  waited j k w =
      let b = waits_left (pending (slot_at s j)) (is_mark (mark (serial_in (slot_at s j)) j) v) w in
      let is : mark (serial_in (slot_at s j)) j ≡ v = mark_same (mark (serial_in (slot_at s j)) j) v b.1 in (
        ap (λ y. y.slot) is,
        subst (Holds s) is (serial_holds (mark (serial_in (slot_at s j)) j) (slot_at s j) k.0 refl),
        subst (λ y. pending (slot_at s y.slot) ≡ false) is b.0,
      )

  pub c2_end_good : seat_at s p ≡ seat (Closing v C2) announcement.Empty → is_mark V v ≡ true → Good (put s p (seat Idle announcement.Empty))
  c2_end_good e c = idles (seat (Closing v C2) announcement.Empty) e refl (λ i. omega (arith, used_most V i v 1 (omega arith)))
      (λ j k rest w. (waited j k w).0 ∙ ap (λ y. y.slot) (sym (mark_same V v c)))

  pub c2_go_good : seat_at s p ≡ seat (Closing v C2) announcement.Empty → is_mark V v ≡ false → Good (put s p (seat (Closing v C3) announcement.Empty))
  c2_go_good e c =
      let old = seat (Closing v C2) announcement.Empty in
      let t = stay s g p h old e in
      moves s g p h old (seat (Closing v C3) announcement.Empty) e refl refl (record {
        ranged = refl;
        local = refl;
        knows = t.knows;
        closes = mark_flip v V ∙ c;
        says = tt;
        opens = tt;
        wanted = λ j k here rest w. absurd (here w);
        rise = λ i. omega arith;
      })

  pub c3_frozen_good : seat_at s p ≡ seat (Closing v C3) announcement.Empty → frozen (slot_at s v.slot) ≡ true → Good
      (put s p (seat (Closing v (C6 0)) announcement.Empty))
  c3_frozen_good e f =
      let old = seat (Closing v C3) announcement.Empty in
      let t = stay s g p h old e in
      moves s g p h old (seat (Closing v (C6 0)) announcement.Empty) e refl refl (record {
        ranged = lt-ltb 0 s.programs (omega (arith, g.sized.0));
        local = refl;
        knows = t.knows;
        closes = record { frozen = λ _. f; swept = λ q ne a. omega arith };
        says = tt;
        opens = tt;
        wanted = λ j k here rest w. absurd (here w);
        rise = λ i. omega arith;
      })

  -- the version is not in its slot, or another program is at it
  pub c3_end_good : seat_at s p ≡ seat (Closing v C3) announcement.Empty → (Holds s v → pending (slot_at s v.slot) ≡ true) → Good
      (put s p (seat Idle announcement.Empty))
  c3_end_good e gone = idles (seat (Closing v C3) announcement.Empty) e refl (λ i. omega (arith, used_most V i v 1 (omega arith)))
      (λ j k rest w. let b = waited j k w in clash (pending (slot_at s v.slot)) (gone b.1) b.2)

  -- the version is not in its slot, or not frozen there
  pub c7_end_good : seat_at s p ≡ seat (Closing v C7) announcement.Empty → (Holds s v → frozen (slot_at s v.slot) ≡ false) → Good
      (put s p (seat Idle announcement.Empty))
  c7_end_good e gone =
      let t = stay s g p h (seat (Closing v C7) announcement.Empty) e in
      idles (seat (Closing v C7) announcement.Empty) e refl (λ i. omega (arith, used_most V i v 1 (omega arith)))
      (λ j k rest w. let b = waited j k w in clash (frozen (slot_at s v.slot)) (t.closes.frozen b.1) (gone b.1))

  module _ (x : ℕ) where
    next_past : {b : ℕ} → b ≡ x + 1 → (q : ℕ) → x ≤ q → (q ≡ x → ⊥) → b ≤ q
    next_past e q k ne = omega arith

    pends_next : (b : ℕ) → b ≡ x + 1 → seat_at s p ≡ seat (Closing v (C4 x)) announcement.Empty → asks v (announced_at s x) ≡ false → PendsAt s p v b
    pends_next b n e without =
        let t = stay s g p h (seat (Closing v (C4 x)) announcement.Empty) e in
        record {
          stands = t.closes.stands;
          pending = t.closes.pending;
          single = t.closes.single;
          helped = λ q ne o a. next_past n q (t.closes.helped q ne o a)
              (λ (same : q ≡ x). clash (asks v (announced_at s x))
              (subst (λ y. asks v (announced_at s y) ≡ true) same (ap (asks v) a ∙ mark_self v)) without);
        }

    pub c4_next_good : seat_at s p ≡ seat (Closing v (C4 x)) announcement.Empty → asks v (announced_at s x) ≡ false → x + 1 < s.programs
        → Good (put s p (seat (Closing v (C4 (x + 1))) announcement.Empty))
    c4_next_good e without l =
        let old = seat (Closing v (C4 x)) announcement.Empty in
        let t = stay s g p h old e in
        moves s g p h old (seat (Closing v (C4 (x + 1))) announcement.Empty) e refl refl (record {
          ranged = lt-ltb (x + 1) s.programs l;
          local = refl;
          knows = t.knows;
          closes = pends_next (x + 1) refl e without;
          says = tt;
          opens = tt;
          wanted = λ j k here rest w. absurd (here w);
          rise = λ i. omega arith;
        })

    pub c4_last_good : seat_at s p ≡ seat (Closing v (C4 x)) announcement.Empty → asks v (announced_at s x) ≡ false → s.programs ≤ x + 1
        → Good (put s p (seat (Closing v C5) announcement.Empty))
    c4_last_good e without l =
        let old = seat (Closing v (C4 x)) announcement.Empty in
        let t = stay s g p h old e in
        let here : x < s.programs = ltb-true x s.programs t.ranged in
        moves s g p h old (seat (Closing v C5) announcement.Empty) e refl refl (record {
          ranged = refl;
          local = refl;
          knows = t.knows;
          closes = pends_next s.programs (omega arith) e without;
          says = tt;
          opens = tt;
          wanted = λ j k here rest w. absurd (here w);
          rise = λ i. omega arith;
        })

    sweeps_next : (b : ℕ) → b ≡ x + 1 → seat_at s p ≡ seat (Closing v (C6 x)) announcement.Empty → bears v (announced_at s x) ≡ false → SweepsAt s p v b
    sweeps_next b n e without =
        let t = stay s g p h (seat (Closing v (C6 x)) announcement.Empty) e in
        record {
          frozen = t.closes.frozen;
          swept = λ q ne a. next_past n q (t.closes.swept q ne a)
              (λ (same : q ≡ x). clash (bears v (announced_at s x))
              (subst (λ y. bears v (announced_at s y) ≡ true) same (ap (bears v) a ∙ mark_self v)) without);
        }

    pub c6_next_good : seat_at s p ≡ seat (Closing v (C6 x)) announcement.Empty → bears v (announced_at s x) ≡ false → x + 1 < s.programs
        → Good (put s p (seat (Closing v (C6 (x + 1))) announcement.Empty))
    c6_next_good e without l =
        let old = seat (Closing v (C6 x)) announcement.Empty in
        let t = stay s g p h old e in
        moves s g p h old (seat (Closing v (C6 (x + 1))) announcement.Empty) e refl refl (record {
          ranged = lt-ltb (x + 1) s.programs l;
          local = refl;
          knows = t.knows;
          closes = sweeps_next (x + 1) refl e without;
          says = tt;
          opens = tt;
          wanted = λ j k here rest w. absurd (here w);
          rise = λ i. omega arith;
        })

    pub c6_last_good : seat_at s p ≡ seat (Closing v (C6 x)) announcement.Empty → bears v (announced_at s x) ≡ false → s.programs ≤ x + 1
        → Good (put s p (seat (Closing v C7) announcement.Empty))
    c6_last_good e without l =
        let old = seat (Closing v (C6 x)) announcement.Empty in
        let t = stay s g p h old e in
        let here : x < s.programs = ltb-true x s.programs t.ranged in
        moves s g p h old (seat (Closing v C7) announcement.Empty) e refl refl (record {
          ranged = refl;
          local = refl;
          knows = t.knows;
          closes = sweeps_next s.programs (omega arith) e without;
          says = tt;
          opens = tt;
          wanted = λ j k here rest w. absurd (here w);
          rise = λ i. omega arith;
        })

    -- another program has the version, and waits for it
    pub c6_end_good : seat_at s p ≡ seat (Closing v (C6 x)) announcement.Empty → bears v (announced_at s x) ≡ true → Good (put s p (seat Idle announcement.Empty))
    c6_end_good e with_it = idles (seat (Closing v (C6 x)) announcement.Empty) e refl (λ i. omega (arith, used_most V i v 1 (omega arith)))
        (λ j k rest w.
        let b = waits_left (pending (slot_at s j)) (is_mark (mark (serial_in (slot_at s j)) j) v) w in
        let is : mark (serial_in (slot_at s j)) j ≡ v = mark_same (mark (serial_in (slot_at s j)) j) v b.1 in
        let bears_it : bears (mark (serial_in (slot_at s j)) j) (announced_at s x) ≡ true = subst (λ y. bears y (announced_at s x) ≡ true)
        (sym is) with_it in
        absurd (rest x other (theirs (pending (slot_at s j)) (bears (mark (serial_in (slot_at s j)) j) (announced_at s x))
        (pends_on (mark (serial_in (slot_at s j)) j) (closer s.programs (position_at s x)))
        (leaves_on (mark (serial_in (slot_at s j)) j) (closer s.programs (position_at s x))) b.0 bears_it)))
      where
        other : x ≡ p → ⊥
        other same = clash (bears v (announced_at s x)) with_it (ap (bears v) (ap (announced_at s) same ∙ ap (λ y. y.announced) e))

        theirs : (b m c l : Bool) → b ≡ false → m ≡ true → cond b c (m || l) ≡ true
        theirs true m c l e f = true_false e
        theirs false true c l e f = refl
        theirs false false c l e f = false_true f
