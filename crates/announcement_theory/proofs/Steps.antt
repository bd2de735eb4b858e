-- Every beginning and every step keeps what always holds.
use Rattle.std.proofs.Common.{◌≡◌, ℕ, ◌+◌, ◌*◌, ◌<◌, Bool, true, false, cond, eqb, ltb, leb, Some, None, Option, sym, refl, ap, ◌∙◌, subst, arith}
use Rattle.std.proofs.lemmas.Bool.{and_parts, ltb-true, ltb-false}
use Rattle.announcement_theory.specs.declared.mark.Mark.{Mark}
use Rattle.announcement_theory.specs.declared.slot.Status.{Status}
use Rattle.announcement_theory.specs.declared.slot.Status.TheVariants.{Usable, Pending, Frozen}
use Rattle.announcement_theory.specs.declared.slot.Stored.{Stored}
use Rattle.announcement_theory.specs.declared.announcement.Announcement.{Announcement}
use Rattle.announcement_theory.specs.declared.announcement.Announcement.TheVariants as announcement
use Rattle.announcement_theory.specs.declared.position.Round.{Round}
use Rattle.announcement_theory.specs.declared.position.Round.TheVariants.{First, Second}
use Rattle.announcement_theory.specs.declared.position.Position.{Position}
use Rattle.announcement_theory.specs.declared.position.Position.TheVariants.{Idle, Opening, Open, Offering, Offered, Closing}
use Rattle.announcement_theory.specs.declared.position.OpenLabel.TheVariants.{O1, O2, O3, O4, O5, O6}
use Rattle.announcement_theory.specs.declared.position.OfferLabel.TheVariants.{F1, F2, F3}
use Rattle.announcement_theory.specs.declared.position.CloseLabel.TheVariants.{C1, C2, C3, C4, C5, C6, C7}
use Rattle.announcement_theory.specs.declared.seat.Seat.{Seat}
use Rattle.announcement_theory.specs.State.{State, mark, seat, stored, slot_at, seat_at, position_at, announced_at, attempt, offer}
use Rattle.announcement_theory.specs.Tests.{is_mark, asks, bears, flagged, version_in, filled, serial_in, holds, usable, pending, frozen, restated}
use Rattle.announcement_theory.specs.Next.{put, fill, advance, go_to, announce, goes, stepped, opens_on, stales, step_at, step, opens, publishes, closes, searches, looks, looks_on, hands, hands_on, again, next_or, version_had}
use Rattle.announcement_theory.specs.Views.{silent, holding, manner, fits, offerer, closer, ranged}
use Rattle.announcement_theory.specs.Invariant.{Holds, Good}
use Rattle.announcement_theory.proofs.Basics.{false_true, clash, mark_same, mark_flip, holding_plain, silent_empty, asks_help, asking_bound, at_same, at_other}
use Rattle.announcement_theory.proofs.Good.{flag_on}
use Rattle.keeper.specs.declared.outcome.Outcome.TheVariants.{GoesOn, Accepted, Stale, Nothing, HandedOut}
use Rattle.announcement_theory.proofs.Openings.{open_good, o1_good, o2_same_good, o2_moved_good, o3_own_good, o3_bound_good, o4_good, o5_flag_good, o5_bound_good, o6_same_good, o6_bound_good, o6_again_good, helped_twice}
use Rattle.announcement_theory.proofs.Closings.{close_open_good, close_offered_good, c1_good, c2_end_good, c2_go_good, c3_frozen_good, c3_end_good, c7_end_good, c4_next_good, c4_last_good, c6_next_good, c6_last_good, c6_end_good}
use Rattle.announcement_theory.proofs.Bindings.{bind_current_good, bind_pending_good}
use Rattle.announcement_theory.proofs.Offerings.{publish_good, f1_next_good, f1_end_good, f2_next_good, f2_last_good}
use Rattle.announcement_theory.proofs.Fillings.{f1_put_good, f2_stale_good, f3_stale_good}
use Rattle.announcement_theory.proofs.Freezings.{c3_pend_good, c5_good, c7_hand_good}
use Rattle.announcement_theory.proofs.Accepting.{accept_good}
use Rattle.announcement_theory.proofs.Counts.{gain}

-- the seat of a program by what it is at
pub seat_is : (s : State) (p : ℕ) (at : Position) (a : Announcement) → position_at s p ≡ at → announced_at s p ≡ a → seat_at s p ≡ seat at a
seat_is s p at a e f = ap (λ k. seat k (announced_at s p)) e ∙ ap (seat at) f

module _ (s : State) (g : Good s) (p : ℕ) (h : p < s.programs) where
  abbrev V : Mark
  V = s.current

  abbrev mine : Announcement
  mine = announced_at s p

  pub local_at : (at : Position) → position_at s p ≡ at → fits (manner at) mine ≡ true
  local_at at e = subst (λ k. fits (manner k) mine ≡ true) e (g.local p)

  pub ranged_at : (at : Position) → position_at s p ≡ at → ranged s.programs at ≡ true
  ranged_at at e = subst (λ k. ranged s.programs k ≡ true) e (g.ranged p)

  -- a program that announces nothing, by its manner
  pub empty_at : (at : Position) → position_at s p ≡ at → manner at ≡ silent → mine ≡ announcement.Empty
  empty_at at e m = silent_empty mine (subst (λ k. fits k mine ≡ true) m (local_at at e))

  pub plain_at : (at : Position) → position_at s p ≡ at → (v : Mark) → manner at ≡ holding v → mine ≡ announcement.Plain v
  plain_at at e v m = holding_plain v mine (subst (λ k. fits k mine ≡ true) m (local_at at e))

  told : (t : State) (at : Position) (a : Announcement) → mine ≡ a → Good (put t p (seat at a)) → Good (put t p (seat at mine))
  told t at a e k = subst (λ b. Good (put t p (seat at b))) (sym e) k

  ended : (a : Announcement) → mine ≡ a → Good (put s p (seat (Open (version_in a)) a)) → Good (put s p (seat (Open (version_in mine)) mine))
  ended a e k = subst (λ b. Good (put s p (seat (Open (version_in b)) b))) (sym e) k

  -- beginnings
  pub opens_good : position_at s p ≡ Idle → Good (opens s p)
  opens_good e =
      let a = empty_at Idle e refl in
      told s (Opening (attempt V.serial V) O1) announcement.Empty a (open_good s g p h (seat_is s p Idle announcement.Empty e a))

  pub publishes_good : (r : ℕ) (v : Mark) → position_at s p ≡ Open v → (V.serial ≡ s.last → ⊥) → Good (publishes s p r)
  publishes_good r v e l =
      let a = plain_at (Open v) e v refl in
      subst (λ k. Good (go_to s p (Offering (offer r (version_had k) 0) F1))) (sym e)
      (told s (Offering (offer r v 0) F1) (announcement.Plain v) a (publish_good s g p h r v (seat_is s p (Open v) (announcement.Plain v) e a) l))

  pub closes_open_good : (v : Mark) → position_at s p ≡ Open v → Good (closes s p)
  closes_open_good v e =
      let a = plain_at (Open v) e v refl in
      subst (λ k. Good (go_to s p (Closing (version_had k) C1))) (sym e)
      (told s (Closing v C1) (announcement.Plain v) a (close_open_good s g p h v (seat_is s p (Open v) (announcement.Plain v) e a)))

  pub closes_offered_good : (v : Mark) → position_at s p ≡ Offered v → Good (closes s p)
  closes_offered_good v e =
      let a = plain_at (Offered v) e v refl in
      subst (λ k. Good (go_to s p (Closing (version_had k) C1))) (sym e)
      (told s (Closing v C1) (announcement.Plain v) a (close_offered_good s g p h v (seat_is s p (Offered v) (announcement.Plain v) e a)))

  -- labels of an open
  o2_step : (n : ℕ) (u : Mark) → position_at s p ≡ Opening (attempt n u) O2 → (b : Bool) → is_mark V u ≡ b → Good
      (cond b (goes s p (Opening (attempt n u) O3)) (goes s p (Opening (attempt n u) (O4 First)))).after
  o2_step n u e true c = o2_same_good s g p h n u mine (seat_is s p (Opening (attempt n u) O2) mine e refl) c
  o2_step n u e false c = o2_moved_good s g p h n u mine (seat_is s p (Opening (attempt n u) O2) mine e refl) c

  o6_again_step : (n : ℕ) (u : Mark) (r : Round) → position_at s p ≡ Opening (attempt n u) (O6 r) → is_mark V u ≡ false → Good (again s p n u r).after
  o6_again_step n u First e c = o6_again_good s g p h n u mine (seat_is s p (Opening (attempt n u) (O6 First)) mine e refl) c
  o6_again_step n u Second e c =
      let b = helped_twice s g p h n u mine (seat_is s p (Opening (attempt n u) (O6 Second)) mine e refl) c in
      ended (announcement.Plain b.0) b.1 (o6_bound_good s g p h n u Second b.0
      (seat_is s p (Opening (attempt n u) (O6 Second)) (announcement.Plain b.0) e b.1))

  -- labels of an offer
  f1_step : (r : ℕ) (over : Mark) (i : ℕ) → position_at s p ≡ Offering (offer r over i) F1 → (x : Option Stored) → slot_at s i ≡ x → Good (searches s p r over i x).after
  f1_step r over i e None f =
      let a = plain_at (Offering (offer r over i) F1) e over refl in
      told (fill s i (Some (stored (V.serial + 1) r Usable))) (Offering (offer r over i) (F2 0)) (announcement.Plain over) a
      (f1_put_good s g p h r over i (seat_is s p (Offering (offer r over i) F1) (announcement.Plain over) e a) f)
  f1_step r over i e (Some y) f = go (ltb i (3 * s.programs)) refl
    where
      a : mine ≡ announcement.Plain over
      a = plain_at (Offering (offer r over i) F1) e over refl

      is : seat_at s p ≡ seat (Offering (offer r over i) F1) (announcement.Plain over)
      is = seat_is s p (Offering (offer r over i) F1) (announcement.Plain over) e a

      go : (b : Bool) → ltb i (3 * s.programs) ≡ b
          → Good (cond b (goes s p (Offering (offer r over (i + 1)) F1)) (stepped (go_to s p (Offered over)) Stale)).after
      go true l = told s (Offering (offer r over (i + 1)) F1) (announcement.Plain over) a
          (f1_next_good s g p h r over i is (ltb-true i (3 * s.programs) l)
          (λ c. omega (arith, gain s g i (ap filled f), g.searched p over i (ap (offerer s.programs) e) c)))
      go false l = told s (Offered over) (announcement.Plain over) a (f1_end_good s g p h r over i is)

  f2_next_step : (r : ℕ) (over : Mark) (i x : ℕ) → seat_at s p ≡ seat (Offering (offer r over i) (F2 x)) (announcement.Plain over) → flagged (announced_at s x) ≡ false
      → (b : Bool) → ltb (x + 1) s.programs ≡ b → Good (put s p (seat (Offering (offer r over i) (cond b (F2 (x + 1)) F3)) (announcement.Plain over)))
  f2_next_step r over i x e a true l = f2_next_good s g p h r over i x e a (ltb-true (x + 1) s.programs l)
  f2_next_step r over i x e a false l = f2_last_good s g p h r over i x e a (ltb-false (x + 1) s.programs l)

  c4_next_step : (v : Mark) (x : ℕ) → seat_at s p ≡ seat (Closing v (C4 x)) announcement.Empty → asks v (announced_at s x) ≡ false
      → (b : Bool) → ltb (x + 1) s.programs ≡ b → Good (put s p (seat (Closing v (cond b (C4 (x + 1)) C5)) announcement.Empty))
  c4_next_step v x e a true l = c4_next_good s g p h v x e a (ltb-true (x + 1) s.programs l)
  c4_next_step v x e a false l = c4_last_good s g p h v x e a (ltb-false (x + 1) s.programs l)

  c6_next_step : (v : Mark) (x : ℕ) → seat_at s p ≡ seat (Closing v (C6 x)) announcement.Empty → bears v (announced_at s x) ≡ false
      → (b : Bool) → ltb (x + 1) s.programs ≡ b → Good (put s p (seat (Closing v (cond b (C6 (x + 1)) C7)) announcement.Empty))
  c6_next_step v x e a true l = c6_next_good s g p h v x e a (ltb-true (x + 1) s.programs l)
  c6_next_step v x e a false l = c6_last_good s g p h v x e a (ltb-false (x + 1) s.programs l)

  -- C3 and C7 at a slot
  c3_step : (v : Mark) → position_at s p ≡ Closing v C3 → (x : Option Stored) → slot_at s v.slot ≡ x → Good (looks s p v x).after
  c3_step v e x f = go x f
    where
      a : mine ≡ announcement.Empty
      a = empty_at (Closing v C3) e refl

      is : seat_at s p ≡ seat (Closing v C3) announcement.Empty
      is = seat_is s p (Closing v C3) announcement.Empty e a

      end : (Holds s v → pending (slot_at s v.slot) ≡ true) → Good (go_to s p Idle)
      end gone = told s Idle announcement.Empty a (c3_end_good s g p h v is gone)

      go_on : (n r : ℕ) (st : Status) → slot_at s v.slot ≡ Some (stored n r st) → Good (looks_on s p v n r st).after
      go_on n r Usable f = test (eqb n v.serial) refl
        where
          test : (b : Bool) → eqb n v.serial ≡ b → Good
              (cond b (goes (fill s v.slot (Some (stored n r Pending))) p (Closing v (C4 0))) (stepped (go_to s p Idle) Nothing)).after
          test true c = told (fill s v.slot (Some (stored n r Pending))) (Closing v (C4 0)) announcement.Empty a
              (subst (λ y. Good (put (fill s v.slot y) p (seat (Closing v (C4 0)) announcement.Empty))) (ap (restated Pending) f)
              (c3_pend_good s g p h v is (ap (holds v) f ∙ c) (ap usable f)))
          test false c = end (λ t. clash (eqb n v.serial) (sym (ap (holds v) f) ∙ t) c)
      go_on n r Pending f = end (λ t. ap pending f)
      go_on n r Frozen f = test (eqb n v.serial) refl
        where
          test : (b : Bool) → eqb n v.serial ≡ b → Good (cond b (goes s p (Closing v (C6 0))) (stepped (go_to s p Idle) Nothing)).after
          test true c = told s (Closing v (C6 0)) announcement.Empty a (c3_frozen_good s g p h v is (ap frozen f))
          test false c = end (λ t. clash (eqb n v.serial) (sym (ap (holds v) f) ∙ t) c)

      go : (x : Option Stored) → slot_at s v.slot ≡ x → Good (looks s p v x).after
      go None f = end (λ t. false_true (sym (ap (holds v) f) ∙ t))
      go (Some x) f = go_on x.serial x.root x.status f

  c7_step : (v : Mark) → position_at s p ≡ Closing v C7 → (x : Option Stored) → slot_at s v.slot ≡ x → Good (hands s p v x).after
  c7_step v e x f = go x f
    where
      a : mine ≡ announcement.Empty
      a = empty_at (Closing v C7) e refl

      is : seat_at s p ≡ seat (Closing v C7) announcement.Empty
      is = seat_is s p (Closing v C7) announcement.Empty e a

      end : (Holds s v → frozen (slot_at s v.slot) ≡ false) → Good (go_to s p Idle)
      end gone = told s Idle announcement.Empty a (c7_end_good s g p h v is gone)

      go_on : (n r : ℕ) (st : Status) → slot_at s v.slot ≡ Some (stored n r st) → Good (hands_on s p v n st).after
      go_on n r Usable f = end (λ t. ap frozen f)
      go_on n r Pending f = end (λ t. ap frozen f)
      go_on n r Frozen f = test (eqb n v.serial) refl
        where
          test : (b : Bool) → eqb n v.serial ≡ b → Good
              (cond b (stepped (go_to (fill s v.slot None) p Idle) (HandedOut v.serial)) (stepped (go_to s p Idle) Nothing)).after
          test true c = told (fill s v.slot None) Idle announcement.Empty a (c7_hand_good s g p h v is (ap (holds v) f ∙ c) (ap frozen f))
          test false c = end (λ t. clash (eqb n v.serial) (sym (ap (holds v) f) ∙ t) c)

      go : (x : Option Stored) → slot_at s v.slot ≡ x → Good (hands s p v x).after
      go None f = end (λ t. ap frozen f)
      go (Some x) f = go_on x.serial x.root x.status f

-- F2 and C4 with another program's announcement made plain first: then that program is passed over
module _ (s : State) (g : Good s) (p : ℕ) (h : p < s.programs) where
  -- another program's announcement leaves the seat of p
  apart_from : (x : ℕ) (y : Seat) → x < s.programs → (x ≡ p → ⊥) → seat_at (put s x y) p ≡ seat_at s p
  apart_from x y l ne = at_other s x y (omega (arith, g.sized.3)) p (λ (e : p ≡ x). ne (sym e))

  f2_step : (r : ℕ) (over : Mark) (i x : ℕ) → position_at s p ≡ Offering (offer r over i) (F2 x) → (b c : Bool) → flagged (announced_at s x) ≡ b → is_mark
      s.current over ≡ c
      → Good (cond b
      (cond c
      (goes (announce s x (announcement.Plain over)) p (Offering (offer r over i) (next_or s.programs x (F2 (x + 1)) F3)))
      (stales s p over i))
      (goes s p (Offering (offer r over i) (next_or s.programs x (F2 (x + 1)) F3)))).after
  f2_step r over i x e = go
    where
      a : announced_at s p ≡ announcement.Plain over
      a = plain_at s g p h (Offering (offer r over i) (F2 x)) e over refl

      is : seat_at s p ≡ seat (Offering (offer r over i) (F2 x)) (announcement.Plain over)
      is = seat_is s p (Offering (offer r over i) (F2 x)) (announcement.Plain over) e a

      below_all : x < s.programs
      below_all = ltb-true x s.programs (and_parts (leb i (3 * s.programs)) (ltb x s.programs) (ranged_at s g p h (Offering (offer r over i) (F2 x)) e)).1

      go : (b c : Bool) → flagged (announced_at s x) ≡ b → is_mark s.current over ≡ c
          → Good (cond b
          (cond c
          (goes (announce s x (announcement.Plain over)) p (Offering (offer r over i) (next_or s.programs x (F2 (x + 1)) F3)))
          (stales s p over i))
          (goes s p (Offering (offer r over i) (next_or s.programs x (F2 (x + 1)) F3)))).after
      go true true f c =
          let asked = flag_on (announced_at s x) f in
          let ne : x ≡ p → ⊥ = λ (k : x ≡ p). clash (flagged (announced_at s x)) f (ap (λ q. flagged (announced_at s q)) k ∙ ap flagged a) in
          let new = seat (position_at s x) (announcement.Plain over) in
          let s1 = announce s x (announcement.Plain over) in
          let g1 : Good s1 = subst (λ v. Good (announce s x (announcement.Plain v))) (mark_same s.current over c)
          (bind_current_good s g x below_all asked.0 asked.1) in
          let same = apart_from x new below_all ne in
          subst (λ y. Good (put s1 p (seat (Offering (offer r over i) (next_or s.programs x (F2 (x + 1)) F3)) y))) (sym (ap (λ y. y.announced) same ∙ a))
          (f2_next_step s1 g1 p h r over i x (same ∙ is)
          (ap (λ y. flagged y.announced) (at_same s x new (omega (arith, g.sized.3, below_all)))) (ltb (x + 1) s.programs) refl)
      go true false f c = told s g p h (fill s i None) (Offered over) (announcement.Plain over) a
          (f2_stale_good s g p h r over i x is (mark_flip over s.current ∙ c))
      go false c f d = told s g p h s (Offering (offer r over i) (next_or s.programs x (F2 (x + 1)) F3)) (announcement.Plain over) a
          (f2_next_step s g p h r over i x is f (ltb (x + 1) s.programs) refl)

  c4_step : (v : Mark) (x : ℕ) → position_at s p ≡ Closing v (C4 x) → (b : Bool) → asks v (announced_at s x) ≡ b
      → Good (cond b
      (goes (announce s x (announcement.Plain v)) p (Closing v (next_or s.programs x (C4 (x + 1)) C5)))
      (goes s p (Closing v (next_or s.programs x (C4 (x + 1)) C5)))).after
  c4_step v x e = go
    where
      a : announced_at s p ≡ announcement.Empty
      a = empty_at s g p h (Closing v (C4 x)) e refl

      is : seat_at s p ≡ seat (Closing v (C4 x)) announcement.Empty
      is = seat_is s p (Closing v (C4 x)) announcement.Empty e a

      below_all : x < s.programs
      below_all = ltb-true x s.programs (ranged_at s g p h (Closing v (C4 x)) e)

      go : (b : Bool) → asks v (announced_at s x) ≡ b
          → Good (cond b
          (goes (announce s x (announcement.Plain v)) p (Closing v (next_or s.programs x (C4 (x + 1)) C5)))
          (goes s p (Closing v (next_or s.programs x (C4 (x + 1)) C5)))).after
      go true f =
          let asked = asks_help v (announced_at s x) f in
          let ne : x ≡ p → ⊥ = λ (k : x ≡ p). clash (asks v (announced_at s x)) f (ap (λ q. asks v (announced_at s q)) k ∙ ap (asks v) a) in
          let new = seat (position_at s x) (announcement.Plain v) in
          let s1 = announce s x (announcement.Plain v) in
          let g1 : Good s1 = bind_pending_good s g x below_all v asked p x (ap (closer s.programs) e) in
          let same = apart_from x new below_all ne in
          subst (λ y. Good (put s1 p (seat (Closing v (next_or s.programs x (C4 (x + 1)) C5)) y))) (sym (ap (λ y. y.announced) same ∙ a))
          (c4_next_step s1 g1 p h v x (same ∙ is)
          (ap (λ y. asks v y.announced) (at_same s x new (omega (arith, g.sized.3, below_all)))) (ltb (x + 1) s.programs) refl)
      go false f = told s g p h s (Closing v (next_or s.programs x (C4 (x + 1)) C5)) announcement.Empty a
          (c4_next_step s g p h v x is f (ltb (x + 1) s.programs) refl)

  -- the other labels with a test
  o3_step : (n : ℕ) (u : Mark) → position_at s p ≡ Opening (attempt n u) O3 → (b : Bool) → asks u (announced_at s p) ≡ b
      → Good (cond b (opens_on s p (announcement.Plain u)) (opens_on s p (announced_at s p))).after
  o3_step n u e true f = o3_own_good s g p h n u (seat_is s p (Opening (attempt n u) O3) (announcement.Help u) e (asks_help u (announced_at s p) f))
  o3_step n u e false f =
      let b = asking_bound u (announced_at s p) (local_at s g p h (Opening (attempt n u) O3) e) f in
      ended s g p h (announcement.Plain b.0) b.1 (o3_bound_good s g p h n u b.0 (seat_is s p (Opening (attempt n u) O3) (announcement.Plain b.0) e b.1))

  o5_step : (n : ℕ) (u w : Mark) (r : Round) → position_at s p ≡ Opening (attempt n u) (O5 w r) → (b : Bool) → asks u (announced_at s p) ≡ b
      → Good (cond b (stepped (put s p (seat (Opening (attempt n w) (O6 r)) (announcement.Help w))) GoesOn) (opens_on s p (announced_at s p))).after
  o5_step n u w r e true f = o5_flag_good s g p h n u r w (seat_is s p (Opening (attempt n u) (O5 w r)) (announcement.Help u) e (asks_help u (announced_at s p) f))
  o5_step n u w r e false f =
      let b = asking_bound u (announced_at s p) (local_at s g p h (Opening (attempt n u) (O5 w r)) e) f in
      ended s g p h (announcement.Plain b.0) b.1
      (o5_bound_good s g p h n u r w b.0 (seat_is s p (Opening (attempt n u) (O5 w r)) (announcement.Plain b.0) e b.1))

  o6_step : (n : ℕ) (u : Mark) (r : Round) → position_at s p ≡ Opening (attempt n u) (O6 r) → (b : Bool) → is_mark s.current u ≡ b
      → Good (cond b (goes s p (Opening (attempt n u) O3)) (again s p n u r)).after
  o6_step n u r e true c = o6_same_good s g p h n u r (announced_at s p) (seat_is s p (Opening (attempt n u) (O6 r)) (announced_at s p) e refl) c
  o6_step n u r e false c = o6_again_step s g p h n u r e c

  f3_step : (r : ℕ) (over : Mark) (i : ℕ) → position_at s p ≡ Offering (offer r over i) F3 → (b : Bool) → is_mark s.current over ≡ b
      → Good (cond b
      (stepped (go_to (advance s (mark (serial_in (slot_at s i)) i)) p (Offered over)) (Accepted (serial_in (slot_at s i))))
      (stales s p over i)).after
  f3_step r over i e b c = go b c
    where
      a : announced_at s p ≡ announcement.Plain over
      a = plain_at s g p h (Offering (offer r over i) F3) e over refl

      is : seat_at s p ≡ seat (Offering (offer r over i) F3) (announcement.Plain over)
      is = seat_is s p (Offering (offer r over i) F3) (announcement.Plain over) e a

      go : (b : Bool) → is_mark s.current over ≡ b
          → Good (cond b
          (stepped (go_to (advance s (mark (serial_in (slot_at s i)) i)) p (Offered over)) (Accepted (serial_in (slot_at s i))))
          (stales s p over i)).after
      go true c = told s g p h (advance s (mark (serial_in (slot_at s i)) i)) (Offered over) (announcement.Plain over) a
          (accept_good s g p h r over i is (mark_flip over s.current ∙ c))
      go false c = told s g p h (fill s i None) (Offered over) (announcement.Plain over) a
          (f3_stale_good s g p h r over i is (mark_flip over s.current ∙ c))

  c2_step : (v : Mark) → position_at s p ≡ Closing v C2 → (b : Bool) → is_mark s.current v ≡ b → Good
      (cond b (stepped (go_to s p Idle) Nothing) (goes s p (Closing v C3))).after
  c2_step v e true c =
      let a = empty_at s g p h (Closing v C2) e refl in
      told s g p h s Idle announcement.Empty a (c2_end_good s g p h v (seat_is s p (Closing v C2) announcement.Empty e a) c)
  c2_step v e false c =
      let a = empty_at s g p h (Closing v C2) e refl in
      told s g p h s (Closing v C3) announcement.Empty a (c2_go_good s g p h v (seat_is s p (Closing v C2) announcement.Empty e a) c)

  c6_step : (v : Mark) (x : ℕ) → position_at s p ≡ Closing v (C6 x) → (b : Bool) → bears v (announced_at s x) ≡ b
      → Good (cond b (stepped (go_to s p Idle) Nothing) (goes s p (Closing v (next_or s.programs x (C6 (x + 1)) C7)))).after
  c6_step v x e true f =
      let a = empty_at s g p h (Closing v (C6 x)) e refl in
      told s g p h s Idle announcement.Empty a (c6_end_good s g p h v x (seat_is s p (Closing v (C6 x)) announcement.Empty e a) f)
  c6_step v x e false f =
      let a = empty_at s g p h (Closing v (C6 x)) e refl in
      told s g p h s (Closing v (next_or s.programs x (C6 (x + 1)) C7)) announcement.Empty a
      (c6_next_step s g p h v x (seat_is s p (Closing v (C6 x)) announcement.Empty e a) f (ltb (x + 1) s.programs) refl)

  step_at_good : (at : Position) → position_at s p ≡ at → Good (step_at s p at).after
  step_at_good (Opening t O1) e = o1_good s g p h t.since t.u (seat_is s p (Opening t O1) announcement.Empty e (empty_at s g p h (Opening t O1) e refl))
  step_at_good (Opening t O2) e = o2_step s g p h t.since t.u e (is_mark s.current t.u) refl
  step_at_good (Opening t O3) e = o3_step t.since t.u e (asks t.u (announced_at s p)) refl
  step_at_good (Opening t (O4 r)) e = o4_good s g p h t.since t.u r (announced_at s p) (seat_is s p (Opening t (O4 r)) (announced_at s p) e refl)
  step_at_good (Opening t (O5 w r)) e = o5_step t.since t.u w r e (asks t.u (announced_at s p)) refl
  step_at_good (Opening t (O6 r)) e = o6_step t.since t.u r e (is_mark s.current t.u) refl
  step_at_good (Offering o F1) e = f1_step s g p h o.root o.over o.slot e (slot_at s o.slot) refl
  step_at_good (Offering o (F2 x)) e = f2_step o.root o.over o.slot x e (flagged (announced_at s x)) (is_mark s.current o.over) refl refl
  step_at_good (Offering o F3) e = f3_step o.root o.over o.slot e (is_mark s.current o.over) refl
  step_at_good (Closing v C1) e = c1_good s g p h v (seat_is s p (Closing v C1) (announcement.Plain v) e (plain_at s g p h (Closing v C1) e v refl))
  step_at_good (Closing v C2) e = c2_step v e (is_mark s.current v) refl
  step_at_good (Closing v C3) e = c3_step s g p h v e (slot_at s v.slot) refl
  step_at_good (Closing v (C4 x)) e = c4_step v x e (asks v (announced_at s x)) refl
  step_at_good (Closing v C5) e =
      let a = empty_at s g p h (Closing v C5) e refl in
      told s g p h (fill s v.slot (restated Frozen (slot_at s v.slot))) (Closing v (C6 0)) announcement.Empty a
      (c5_good s g p h v (seat_is s p (Closing v C5) announcement.Empty e a))
  step_at_good (Closing v (C6 x)) e = c6_step v x e (bears v (announced_at s x)) refl
  step_at_good (Closing v C7) e = c7_step s g p h v e (slot_at s v.slot) refl
  step_at_good _ e = g

  -- a step of any program keeps what always holds
  pub step_good : Good (step s p).after
  step_good = step_at_good (position_at s p) refl
