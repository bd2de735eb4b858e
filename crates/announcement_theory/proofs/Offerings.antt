-- The labels of an offer that leave the slots alone keep what always holds.
use Rattle.std.proofs.Common.{◌≡◌, ℕ, ◌+◌, ◌*◌, ◌<◌, ◌≤◌, true, false, ltb, leb, length, sym, refl, subst, ⊎_elim, arith}
use Rattle.std.proofs.lemmas.Bool.{cases_eq, and_parts, and_from, ltb-true, lt-ltb, le-leb}
use Rattle.announcement_theory.specs.declared.mark.Mark.{Mark}
use Rattle.announcement_theory.specs.declared.announcement.Announcement.TheVariants as announcement
use Rattle.announcement_theory.specs.declared.position.Position.TheVariants.{Open, Offering, Offered}
use Rattle.announcement_theory.specs.declared.position.OfferLabel.TheVariants.{F1, F2, F3}
use Rattle.announcement_theory.specs.declared.seat.Seat.{Seat}
use Rattle.announcement_theory.specs.State.{State, seat, seat_at, announced_at, offer}
use Rattle.announcement_theory.specs.Tests.{is_mark, flagged}
use Rattle.announcement_theory.specs.Next.{put}
use Rattle.announcement_theory.specs.Shares.{share, accounted}
use Rattle.announcement_theory.proofs.Basics.{clash}
use Rattle.announcement_theory.specs.Invariant.{Good}
use Rattle.announcement_theory.proofs.Good.{OwnsAt, put_good}
use Rattle.announcement_theory.proofs.Stay.{rest_same, rises, stay, still_searched, moves_on, moves}
use Rattle.announcement_theory.proofs.Shared.{used_more}

module _ (s : State) (g : Good s) (p : ℕ) (h : p < s.programs) (r : ℕ) (over : Mark) where
  abbrev V : Mark
  V = s.current

  pub publish_good : seat_at s p ≡ seat (Open over) (announcement.Plain over) → (V.serial ≡ s.last → ⊥) → Good
      (put s p (seat (Offering (offer r over 0) F1) (announcement.Plain over)))
  publish_good e open_end =
      let old = seat (Open over) (announcement.Plain over) in
      let t = stay s g p h old e in
      moves_on s g p h old (seat (Offering (offer r over 0) F1) (announcement.Plain over)) e refl refl
      (omega (arith, t.knows.0.to, g.reached, open_end))
      (λ o i q c. let z : i ≡ 0 = cc in omega arith)
      (record {
        ranged = le-leb 0 (3 * s.programs) (omega arith);
        local = t.local;
        knows = t.knows;
        closes = tt;
        says = t.says;
        opens = tt;
        wanted = λ j k here rest w. absurd (here w);
        rise = λ i. omega arith;
      })

  -- the next slot, where the search over V is accounted for with this one
  pub f1_next_good : (i : ℕ) → seat_at s p ≡ seat (Offering (offer r over i) F1) (announcement.Plain over) → i < 3 * s.programs
      → (is_mark over V ≡ true → i + 1 ≤ accounted s (i + 1)) → Good (put s p (seat (Offering (offer r over (i + 1)) F1) (announcement.Plain over)))
  f1_next_good i e l gain =
      let old = seat (Offering (offer r over i) F1) (announcement.Plain over) in
      let new = seat (Offering (offer r over (i + 1)) F1) (announcement.Plain over) in
      let t = stay s g p h old e in
      moves_on s g p h old new e refl refl
      t.offers
      (λ o j q c.
      let z : j ≡ i + 1 = cc in
      let o_is : over ≡ o = cc in
      let w : p < length s.seats = omega (arith, g.sized.3) in
      let up : accounted s (i + 1) ≤ accounted (put s p new) (i + 1) = rises s p new w (i + 1)
      (subst (λ y. share V (i + 1) y ≤ share V (i + 1) new) (sym e) (omega arith)) in
      let now : i + 1 ≤ accounted (put s p new) (i + 1) = omega (arith, gain (subst (λ y. is_mark y V ≡ true) (sym o_is) c)) in
      subst (λ k. k ≤ accounted (put s p new) k) (sym z) now)
      (record {
        ranged = le-leb (i + 1) (3 * s.programs) (omega arith);
        local = t.local;
        knows = t.knows;
        closes = tt;
        says = t.says;
        opens = tt;
        wanted = λ j k here rest w. absurd (here w);
        rise = λ i. omega arith;
      })

  pub f1_end_good : (i : ℕ) → seat_at s p ≡ seat (Offering (offer r over i) F1) (announcement.Plain over) → Good
      (put s p (seat (Offered over) (announcement.Plain over)))
  f1_end_good i e =
      let old = seat (Offering (offer r over i) F1) (announcement.Plain over) in
      let t = stay s g p h old e in
      moves s g p h old (seat (Offered over) (announcement.Plain over)) e refl refl
      (record {
        ranged = refl;
        local = t.local;
        knows = t.knows;
        closes = tt;
        says = t.says;
        opens = tt;
        wanted = λ j k here rest w. absurd (here w);
        rise = λ i. omega (arith, used_more V i over);
      })

  module _ (i x : ℕ) (was : seat_at s p ≡ seat (Offering (offer r over i) (F2 x)) (announcement.Plain over)) (unflagged : flagged (announced_at s x) ≡ false) where
    abbrev old : Seat
    old = seat (Offering (offer r over i) (F2 x)) (announcement.Plain over)

    owns_next : (b : ℕ) → b ≡ x + 1 → OwnsAt s p r over i b
    owns_next b n =
        let t = stay s g p h old was in
        record {
          usable = t.offers.usable;
          root = t.offers.root;
          serial = t.offers.serial;
          old = t.offers.old;
          limited = t.offers.limited;
          apart = t.offers.apart;
          fresh = t.offers.fresh;
          passed = λ c q ne a l. ⊎_elim
              (λ (same : q ≡ x). clash (flagged (announced_at s x)) (subst (λ y. flagged (announced_at s y) ≡ true) same a) unflagged)
              (λ (other : q ≡ x → ⊥). t.offers.passed c q ne a (omega arith))
              (cases_eq q x);
        }

    pub f2_next_good : x + 1 < s.programs → Good (put s p (seat (Offering (offer r over i) (F2 (x + 1))) (announcement.Plain over)))
    f2_next_good l =
        let t = stay s g p h old was in
        let new = seat (Offering (offer r over i) (F2 (x + 1))) (announcement.Plain over) in
        let b = and_parts (leb i (3 * s.programs)) (ltb x s.programs) t.ranged in
        put_good s p new (rest_same s g p) (record {
          ranged = and_from (leb i (3 * s.programs)) (ltb (x + 1) s.programs) b.0 (lt-ltb (x + 1) s.programs l);
          local = t.local;
          knows = t.knows;
          self = t.self;
          offers = owns_next (x + 1) refl;
          closes = tt;
          says = t.says;
          opens = tt;
          distinct = t.distinct;
          wanted = t.wanted;
          searched = still_searched s g p h old new was (λ i. omega arith);
          seeking = λ o k e. let z : ◌≡◌ {A = ℕ} 0 1 = cc in absurd (omega arith);
        }) h

    pub f2_last_good : s.programs ≤ x + 1 → Good (put s p (seat (Offering (offer r over i) F3) (announcement.Plain over)))
    f2_last_good l =
        let t = stay s g p h old was in
        let new = seat (Offering (offer r over i) F3) (announcement.Plain over) in
        let b = and_parts (leb i (3 * s.programs)) (ltb x s.programs) t.ranged in
        let here : x < s.programs = ltb-true x s.programs b.1 in
        put_good s p new (rest_same s g p) (record {
          ranged = b.0;
          local = t.local;
          knows = t.knows;
          self = t.self;
          offers = owns_next s.programs (omega arith);
          closes = tt;
          says = t.says;
          opens = tt;
          distinct = t.distinct;
          wanted = t.wanted;
          searched = still_searched s g p h old new was (λ i. omega arith);
          seeking = λ o k e. let z : ◌≡◌ {A = ℕ} 0 1 = cc in absurd (omega arith);
        }) h
