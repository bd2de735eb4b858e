-- The labels that fill or empty a slot keep what always holds.
use Rattle.std.proofs.Common.{◌≡◌, ℕ, ◌+◌, ◌*◌, ◌<◌, ◌≤◌, true, false, cond, eqb, ltb, leb, length, Some, None, Option, sym, refl, ap, ◌∙◌, subst, inl, inr, ⊎_elim, arith}
use Rattle.std.proofs.lemmas.Bool.{cases_lt, eqb-true, and_from, lt-ltb, leb-true}
use Rattle.std.proofs.lemmas.Bool.Decides.{nat_tests}
use Rattle.std.proofs.lemmas.List.{get_or_past}
use Rattle.std.proofs.lemmas.Option.{same_Some}
use Rattle.announcement_theory.specs.declared.mark.Mark.{Mark}
use Rattle.announcement_theory.specs.declared.slot.Status.TheVariants.{Usable}
use Rattle.announcement_theory.specs.declared.slot.Stored.{Stored}
use Rattle.announcement_theory.specs.declared.announcement.Announcement.TheVariants as announcement
use Rattle.announcement_theory.specs.declared.position.Position.TheVariants.{Offering, Offered}
use Rattle.announcement_theory.specs.declared.position.OfferLabel.TheVariants.{F1, F2, F3}
use Rattle.announcement_theory.specs.declared.seat.Seat.{Seat}
use Rattle.announcement_theory.specs.State.{State, mark, seat, stored, slot_at, seat_at, position_at, announced_at, offer}
use Rattle.announcement_theory.specs.Tests.{is_mark, announces, filled, serial_in, root_in, holds, usable}
use Rattle.announcement_theory.specs.Next.{put, fill}
use Rattle.announcement_theory.specs.Views.{about, Mentions, owns, offerer, owned, over_in, Closer, stays, pends, sweeps, closer}
use Rattle.announcement_theory.specs.Shares.{uses, below, used, share_of, owned_below, share, past_of}
use Rattle.announcement_theory.specs.Invariant.{Holds, waits_on, Good}
use Rattle.announcement_theory.proofs.Basics.{false_true, none_some, mark_self, holds_serial, owner_owns, owner_of}
use Rattle.announcement_theory.proofs.Roles.{closed, closing_about, offering_about, offering_plain}
use Rattle.announcement_theory.proofs.Good.{Other, Rest, Sound, OwnsAt, Offers, SaysAt, Says, KeptWith, Fits, known, put_good}
use Rattle.announcement_theory.proofs.Stay.{stay, still_searched}
use Rattle.announcement_theory.proofs.Writes.{slot_same, slot_other, slot_each, slot_back, written}

pub empty_holds : {A : Type 0} (v : Mark) (x : Option Stored) → x ≡ None → holds v x ≡ true → A
empty_holds v x e h = false_true (sym (ap (holds v) e) ∙ h)

pub empty_usable : {A : Type 0} (x : Option Stored) → x ≡ None → usable x ≡ true → A
empty_usable x e h = false_true (sym (ap usable e) ∙ h)

-- two versions in one slot are one
pub one_slot : (s : State) (v w : Mark) → Holds s v → Holds s w → v.slot ≡ w.slot → v ≡ w
one_slot s v w a b e =
    let n : v.serial ≡ w.serial = sym (holds_serial v (slot_at s v.slot) a) ∙ ap (λ j. serial_in (slot_at s j)) e ∙ holds_serial w
    (slot_at s w.slot) b in
    ap (λ k. mark k v.slot) n ∙ ap (mark w.serial) e

-- what a program announces or closes it mentions
pub says_mentions : (s : State) (q : ℕ) (v : Mark) → announced_at s q ≡ announcement.Plain v → Mentions (seat_at s q) v
says_mentions s q v e = inr (inr (ap announces e))

pub asks_mentions : (s : State) (q : ℕ) (v : Mark) → announced_at s q ≡ announcement.Help v → Mentions (seat_at s q) v
asks_mentions s q v e = inr (inr (ap announces e))

pub closes_mentions : (s : State) (q : ℕ) (v : Mark) (c : Closer) → closer s.programs (position_at s q) ≡ c → closed c ≡ Some v → Mentions
    (seat_at s q) v
closes_mentions s q v c e f = inl (closing_about s.programs (position_at s q) v (ap closed e ∙ f))

-- slot i was empty, and becomes the slot of p, with the next serial
module _ (s : State) (g : Good s) (p : ℕ) (h : p < s.programs) (r : ℕ) (over : Mark) (i : ℕ)
    (was : seat_at s p ≡ seat (Offering (offer r over i) F1) (announcement.Plain over)) (vacant : slot_at s i ≡ None) where
  abbrev y : Option Stored
  y = Some (stored (s.current.serial + 1) r Usable)

  abbrev after : State
  after = fill s i y

  unowned : (z : ℕ) → owned (position_at s z) ≡ Some i → ⊥
  unowned z e = let o = owner_of s.programs (position_at s z) i e in empty_usable (slot_at s i) vacant
      (g.own z o.root o.over i o.passed o.is).0

  vacant_at : (v : Mark) → v.slot ≡ i → Holds s v → ⊥
  vacant_at v e t = empty_holds v (slot_at s v.slot) (ap (slot_at s) e ∙ vacant) t

  in_range : i < length s.slots
  in_range = omega (arith, g.sized.2, leb-true i (3 * s.programs) (stay s g p h (seat (Offering (offer r over i) F1) (announcement.Plain over)) was).ranged)

  -- no one mentions the next serial
  unknown : (q : ℕ) (v : Mark) → Mentions (seat_at s q) v → eqb (s.current.serial + 1) v.serial ≡ true → ⊥
  unknown q v m e = omega (arith, eqb-true (s.current.serial + 1) v.serial e, (g.seen q v m).0)

  others : Rest after p
  others = written s i y in_range g p (record {
    fresh = λ q z ne zn v k m e t. unowned z e;
    current = λ e. empty_usable (slot_at s s.current.slot) (ap (slot_at s) e ∙ vacant) g.current.1;
    own = λ z ne m o f e. absurd (unowned z (owner_owns s.programs (position_at s z) m o i f e));
    held = λ q ne v k e. absurd (vacant_at v k (g.held q v e));
    valid = λ q ne v k o e. absurd (vacant_at v k (g.valid q v o e).0);
    pended = λ z ne v a k e. absurd (vacant_at v k (g.pended z v a e).0);
    froze = λ z ne v b k e t. absurd (unknown z v (closes_mentions s z v (sweeps v b) e refl) t);
  })

  still_kept : (j : ℕ) → KeptWith after p (Some i) j → (j ≡ i → ⊥) × KeptWith s p None j
  still_kept j k =
      let ne : j ≡ i → ⊥ = λ (e : j ≡ i). k.2 (ap {B = Option ℕ} Some (sym e)) in
      (ne, (subst (λ x. filled x ≡ true) (slot_other s i y in_range j ne) k.0, k.1, λ e. none_some j e))

  pub f1_put_good : Good (put after p (seat (Offering (offer r over i) (F2 0)) (announcement.Plain over)))
  f1_put_good =
      let old = seat (Offering (offer r over i) F1) (announcement.Plain over) in
      let new = seat (Offering (offer r over i) (F2 0)) (announcement.Plain over) in
      let t = stay s g p h old was in
      let mine : Sound after p 0 over = record {
        from = omega arith;
        to = t.knows.0.to;
        within = t.knows.0.within;
        fresh = λ z ne e k. slot_back s i y in_range (λ x. holds over x ≡ true) ⊥ over.slot k
            (λ (f : over.slot ≡ i) _. unowned z (e ∙ ap {B = Option ℕ} Some f))
            (λ _ u. t.knows.0.fresh z ne e u);
      } in
      put_good after p new others (record {
        ranged = and_from (leb i (3 * s.programs)) (ltb 0 s.programs) t.ranged (lt-ltb 0 s.programs (omega (arith, g.sized.0)));
        local = t.local;
        knows = (mine, tt, mine);
        self = λ v m e k. slot_back s i y in_range (λ x. holds v x ≡ true) ⊥ v.slot k
            (λ (f : v.slot ≡ i) u. omega (arith, eqb-true (s.current.serial + 1) v.serial u, (known s p old t.knows v m).to))
            (λ (ne : v.slot ≡ i → ⊥) _. ne (sym (same_Some i v.slot e)));
        offers = record {
          usable = ap usable (slot_same s i y in_range);
          root = ap root_in (slot_same s i y in_range);
          serial = λ _. ap serial_in (slot_same s i y in_range);
          old = λ e. empty_usable (slot_at s s.current.slot) (ap (slot_at s) (sym e) ∙ vacant) g.current.1;
          limited = t.offers;
          apart = λ z ne e. unowned z e;
          fresh = λ q ne v m e k. slot_back s i y in_range (λ x. holds v x ≡ true) ⊥ v.slot k
              (λ _ u. unknown q v m u)
              (λ (f : v.slot ≡ i → ⊥) _. f e);
          passed = λ c q ne a l. absurd (omega arith);
        };
        closes = tt;
        says = record {
          stands = slot_each s i y in_range (λ x. holds over x ≡ true) over.slot (λ e. absurd (vacant_at over e t.says.stands))
              (λ _. t.says.stands);
          swept = t.says.swept;
        };
        opens = tt;
        distinct = λ j k a b e.
            let c = still_kept j a in
            let d = still_kept k b in
            t.distinct j k c.1 d.1 (sym (ap serial_in (slot_other s i y in_range j c.0)) ∙ e ∙ ap serial_in
            (slot_other s i y in_range k d.0));
        wanted = λ j k here rest.
            let c = still_kept j k in
            let same = slot_other s i y in_range j c.0 in
            t.wanted j c.1
            (λ e. here (subst (λ x. waits_on x (mark (serial_in x) j) (announcement.Plain over) stays ≡ true) (sym same) e))
            (λ q ne e. rest q ne (subst (λ x. waits_on x (mark (serial_in x) j) (announced_at s q) (closer s.programs (position_at s q)) ≡ true)
            (sym same) e));
        searched = still_searched s g p h old new was (λ k. omega arith);
        seeking = λ o k e. let z : ◌≡◌ {A = ℕ} 0 1 = cc in absurd (omega arith);
      }) h

-- p gives up: its own slot is emptied
module _ (s : State) (g : Good s) (p : ℕ) (h : p < s.programs) (over : Mark) (i : ℕ) (old : Seat) (was : seat_at s p ≡ old) (r f : ℕ)
    (owner : offerer s.programs old.position ≡ owns r over i f) (replaced : is_mark over s.current ≡ false) where
  abbrev emptied : State
  emptied = fill s i None

  fit : Fits s p old
  fit = stay s g p h old was

  own_slot : OwnsAt s p r over i f
  own_slot = subst (Offers s p) owner fit.offers

  mine_is : owned old.position ≡ Some i
  mine_is = owner_owns s.programs old.position r over i f owner

  about_over : about old.position ≡ Some over
  about_over = offering_about s.programs old.position over (ap over_in owner)

  says_over : old.announced ≡ announcement.Plain over
  says_over = offering_plain s.programs old.position old.announced over fit.local (ap over_in owner)

  there : SaysAt s p over
  there = subst (Says s p) says_over fit.says

  sound_over : Sound s p 0 over
  sound_over = let k = known s p old fit.knows over
      (inl about_over) in record { from = omega arith; to = k.to; within = k.within; fresh = k.fresh }

  in_slots : i < length s.slots
  in_slots = ⊎_elim (λ (a : i < length s.slots). a)
      (λ (b : length s.slots ≤ i). empty_usable (slot_at s i) (get_or_past s.slots i None b) own_slot.usable)
      (cases_lt i (length s.slots))

  mentioned : (q : ℕ) → Other p q → (v : Mark) → v.slot ≡ i → Mentions (seat_at s q) v → Holds s v → ⊥
  mentioned q ne v k m t = own_slot.fresh q ne v m k t

  rest_emptied : Rest emptied p
  rest_emptied = written s i None in_slots g p (record {
    fresh = λ q z ne zn v k m e t. false_true t;
    current = λ e. absurd (own_slot.old (sym e));
    own = λ z ne m o n e. absurd (own_slot.apart z ne (owner_owns s.programs (position_at s z) m o i n e));
    held = λ q ne v k e. absurd (mentioned q ne v k (says_mentions s q v e) (g.held q v e));
    valid = λ q ne v k o e. absurd (mentioned q ne v k (asks_mentions s q v e) (g.valid q v o e).0);
    pended = λ z ne v a k e. absurd (mentioned z ne v k (closes_mentions s z v (pends v a) e refl) (g.pended z v a e).0);
    froze = λ z ne v b k e t. false_true t;
  })

  was_kept : (j : ℕ) → KeptWith emptied p None j → (j ≡ i → ⊥) × KeptWith s p (owned old.position) j
  was_kept j k =
      let ne : j ≡ i → ⊥ = λ (e : j ≡ i). false_true (sym (ap filled (ap (slot_at emptied) e ∙ slot_same s i None in_slots)) ∙ k.0) in (
        ne,
        (subst (λ x. filled x ≡ true) (slot_other s i None in_slots j ne) k.0, k.1, λ e. ne (same_Some j i (sym e ∙ mine_is))),
      )

  stale_good : closer s.programs old.position ≡ stays → past_of old.position ≡ uses over → Good
      (put emptied p (seat (Offered over) (announcement.Plain over)))
  stale_good idle_close past_is =
      let new = seat (Offered over) (announcement.Plain over) in
      let mine : Sound emptied p 0 over = record {
        from = omega arith;
        to = sound_over.to;
        within = sound_over.within;
        fresh = λ z ne e k. slot_back s i None in_slots (λ x. holds over x ≡ true) ⊥ over.slot k
            (λ _ u. false_true u)
            (λ _ u. sound_over.fresh z ne e u);
      } in
      put_good emptied p new rest_emptied (record {
        ranged = refl;
        local = mark_self over;
        knows = (mine, tt, mine);
        self = λ v m e k. none_some v.slot e;
        offers = tt;
        closes = tt;
        says = record {
          stands = slot_each s i None in_slots (λ x. holds over x ≡ true) over.slot
              (λ e. absurd (fit.self over (inl about_over) (mine_is ∙ ap {B = Option ℕ} Some (sym e)) there.stands))
              (λ _. there.stands);
          swept = there.swept;
        };
        opens = tt;
        distinct = λ j k a b e.
            let c = was_kept j a in
            let d = was_kept k b in
            fit.distinct j k c.1 d.1 (sym (ap serial_in (slot_other s i None in_slots j c.0)) ∙ e ∙ ap serial_in
            (slot_other s i None in_slots k d.0));
        wanted = λ j k here rest.
            let c = was_kept j k in
            let same = slot_other s i None in_slots j c.0 in
            fit.wanted j c.1
            (λ e. here (subst (λ x. waits_on x (mark (serial_in x) j) (announcement.Plain over) stays ≡ true) (sym same)
            (subst (λ a. waits_on (slot_at s j) (mark (serial_in (slot_at s j)) j) a stays ≡ true) says_over
            (subst (λ a. waits_on (slot_at s j) (mark (serial_in (slot_at s j)) j) old.announced a ≡ true) idle_close e))))
            (λ q ne e. rest q ne (subst (λ x. waits_on x (mark (serial_in x) j) (announced_at s q) (closer s.programs (position_at s q)) ≡ true)
            (sym same) e));
        searched = still_searched s g p h old new was (λ k. fewer k);
        seeking = λ o k e. let z : ◌≡◌ {A = ℕ} 0 1 = cc in absurd (omega arith);
      }) h
    where
      fewer : (k : ℕ) → share s.current k old ≤ share s.current k (seat (Offered over) (announcement.Plain over))
      fewer k =
          let a : share_of s.current k (past_of old.position) old.announced ≡ used s.current k over 0 = ap
          (λ y. share_of s.current k y old.announced) past_is in
          let b : owned_below k (owned old.position) ≡ below i k = ap (owned_below k) mine_is in
          let c : used s.current k over 0 ≡ below over.slot k + 0 = ap (λ y. cond y 2 (below over.slot k + 0)) replaced in
          let d : used s.current k over 1 ≡ below over.slot k + 1 = ap (λ y. cond y 2 (below over.slot k + 1)) replaced in
          let m : below i k ≤ 1 = grind (arith, nat_tests) in
          omega arith

pub f2_stale_good : (s : State) → Good s → (p : ℕ) → p < s.programs → (r : ℕ) (over : Mark) (i x : ℕ) → seat_at s p ≡ seat (Offering (offer r over i) (F2 x))
    (announcement.Plain over)
    → is_mark over s.current ≡ false → Good (put (fill s i None) p (seat (Offered over) (announcement.Plain over)))
f2_stale_good s g p h r over i x e n = stale_good s g p h over i (seat (Offering (offer r over i) (F2 x)) (announcement.Plain over)) e r x refl n refl refl

pub f3_stale_good : (s : State) → Good s → (p : ℕ) → p < s.programs → (r : ℕ) (over : Mark) (i : ℕ) → seat_at s p ≡ seat (Offering (offer r over i) F3)
    (announcement.Plain over)
    → is_mark over s.current ≡ false → Good (put (fill s i None) p (seat (Offered over) (announcement.Plain over)))
f3_stale_good s g p h r over i e n = stale_good s g p h over i (seat (Offering (offer r over i) F3) (announcement.Plain over)) e r s.programs refl n refl refl
