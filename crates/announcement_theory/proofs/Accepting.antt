-- F3 over the current version keeps what always holds: the offered version becomes current.
use Rattle.std.proofs.Common.{◌≡◌, ℕ, ◌+◌, ◌*◌, ◌<◌, ◌≤◌, Bool, true, false, cond, ◌||◌, Some, None, sym, refl, ap, ◌∙◌, subst, inl, ⊎_elim, arith}
use Rattle.std.proofs.lemmas.Bool.{cases_eq, cases_Bool, or_left, leb-true}
use Rattle.std.proofs.lemmas.Option.{same_Some}
use Rattle.announcement_theory.specs.declared.mark.Mark.{Mark}
use Rattle.announcement_theory.specs.declared.announcement.Announcement.TheVariants as announcement
use Rattle.announcement_theory.specs.declared.position.Round.TheVariants.{First, Second}
use Rattle.announcement_theory.specs.declared.position.Position.TheVariants.{Offering, Offered}
use Rattle.announcement_theory.specs.declared.position.OfferLabel.TheVariants.{F3}
use Rattle.announcement_theory.specs.declared.seat.Seat.{Seat}
use Rattle.announcement_theory.specs.State.{State, mark, seat, slot_at, seat_at, position_at, announced_at, offer}
use Rattle.announcement_theory.specs.Tests.{is_mark, serial_in, pending}
use Rattle.announcement_theory.specs.Next.{put, advance}
use Rattle.announcement_theory.specs.Views.{Mentions, Opener, calm, ready, seeking, found, opener, settled, steady, offerer, owned, over_in, past}
use Rattle.announcement_theory.specs.Invariant.{Kept, waits, Good}
use Rattle.announcement_theory.proofs.Basics.{false_true, true_false, clash, none_some, mark_same, same_mark, usable_pending}
use Rattle.announcement_theory.proofs.Roles.{offering_about}
use Rattle.announcement_theory.proofs.Good.{Rest, Sound, OwnsAt, KeptWith, Fits, flag_on, put_good}
use Rattle.announcement_theory.proofs.Stay.{kept_here, stay}
use Rattle.announcement_theory.proofs.Fillings.{closes_mentions}
use Rattle.announcement_theory.proofs.Freezings.{help_below}
use Rattle.announcement_theory.proofs.Waiting.{kept_seen}

settled_steady : (c d : Mark) (o : Opener) → settled c o ≡ true → steady d o ≡ true
settled_steady c d calm e = refl
settled_steady c d ready e = refl
settled_steady c d (seeking r) e = refl
settled_steady c d (found w First) e = refl
settled_steady c d (found w Second) e = false_true e

module _ (s : State) (g : Good s) (p : ℕ) (h : p < s.programs) (r : ℕ) (over : Mark) (i : ℕ)
    (was : seat_at s p ≡ seat (Offering (offer r over i) F3) (announcement.Plain over))
    (current : is_mark over s.current ≡ true) where
  abbrev old : Seat
  old = seat (Offering (offer r over i) F3) (announcement.Plain over)

  abbrev new : Seat
  new = seat (Offered over) (announcement.Plain over)

  abbrev V : Mark
  V = s.current

  -- the version of slot i
  abbrev next : Mark
  next = mark (serial_in (slot_at s i)) i

  abbrev after : State
  after = advance s next

  fit : Fits s p old
  fit = stay s g p h old was

  own_slot : OwnsAt s p r over i s.programs
  own_slot = fit.offers

  pub over_current : over ≡ V
  over_current = mark_same over V current

  pub next_serial : serial_in (slot_at s i) ≡ V.serial + 1
  next_serial = own_slot.serial current

  pub room_left : V.serial + 1 ≤ s.last
  room_left = omega (arith, ap (λ y. y.serial) over_current, own_slot.limited)

  older : (v : Mark) → v.serial ≤ V.serial → is_mark v next ≡ false
  older v l = ⊎_elim
      (λ (e : is_mark v next ≡ true). absurd (omega (arith, ap (λ y. y.serial) (mark_same v next e), next_serial)))
      (λ (e : is_mark v next ≡ false). e)
      (cases_Bool (is_mark v next))

  mentioned_older : (q : ℕ) (v : Mark) → Mentions (seat_at s q) v → is_mark v next ≡ false
  mentioned_older q v m = older v (g.seen q v m).0

  over_older : (q : ℕ) (o : Mark) → over_in (offerer s.programs (position_at s q)) ≡ Some o → is_mark o next ≡ false
  over_older q o e = mentioned_older q o (inl (offering_about s.programs (position_at s q) o e))

  mine : owned (position_at s p) ≡ Some i
  mine = ap (λ x. owned x.position) was

  others : Rest after p
  others = record {
    sized = g.sized;
    reached = omega (arith, next_serial, room_left);
    ranged = λ q ne. g.ranged q;
    local = λ q ne. g.local q;
    since = λ q ne. g.since q;
    seen = λ q ne v m. (omega (arith, next_serial, (g.seen q v m).0), (g.seen q v m).1);
    fresh = λ q z ne zn. g.fresh q z;
    current = (leb-true i (3 * s.programs) fit.ranged, own_slot.usable, refl, λ z ne e. own_slot.apart z ne e);
    own = λ z ne m o k f e. ((g.own z m o k f e).0, (g.own z m o k f e).1, λ c. clash (is_mark o next) c (over_older z o (ap over_in e)));
    apart = λ z u ne un. g.apart z u;
    held = λ q ne. g.held q;
    valid = λ q ne. g.valid q;
    replaced = λ q ne v e. mentioned_older q v (closes_mentions s q v (past v) e refl);
    pended = λ z ne. g.pended z;
    single = λ z u ne un. g.single z u;
    helped = λ q z ne zn. g.helped q z;
    froze = λ z ne. g.froze z;
    swept = λ q z ne zn. g.swept q z;
    passed = λ q z ne zn m o k f a e c l. clash (is_mark o next) c (over_older z o (ap over_in e));
    steady = λ q ne a.
        let v = flag_on (announced_at s q) a in
        settled_steady V next (opener (position_at s q)) (own_slot.passed current q ne a (help_below s g q v.0 v.1));
    limited = λ q ne. g.limited q;
  }

  kept_before : (j : ℕ) → (j ≡ i → ⊥) → KeptWith after p None j → KeptWith s p (Some i) j
  kept_before j ne k = (k.0, k.1, λ e. ne (sym (same_Some i j e)))

  kept_plainly : (j : ℕ) → (j ≡ i → ⊥) → KeptWith after p None j → Kept s j
  kept_plainly j ne k = kept_here s g p j (subst (λ o. KeptWith s p o j) (sym mine) (kept_before j ne k))

  apart_serials : (j : ℕ) → (j ≡ i → ⊥) → KeptWith after p None j → serial_in (slot_at s j) ≡ serial_in (slot_at s i) → ⊥
  apart_serials j ne k e = omega (arith, kept_seen s g j (kept_plainly j ne k), next_serial)

  -- p still waits for the version that it was over
  holder_waits : waits s V.slot new ≡ true
  holder_waits = go (pending (slot_at s V.slot)) (usable_pending (slot_at s V.slot) g.current.1)
    where
      v : Mark
      v = mark (serial_in (slot_at s V.slot)) V.slot

      it : is_mark (mark (serial_in (slot_at s V.slot)) V.slot) over ≡ true
      it = same_mark (mark (serial_in (slot_at s V.slot)) V.slot) over (ap (λ n. mark n V.slot) g.current.2 ∙ sym over_current)

      go : (b : Bool) → b ≡ false → cond b false (is_mark (mark (serial_in (slot_at s V.slot)) V.slot) over || false) ≡ true
      go true e = true_false e
      go false e = or_left (is_mark (mark (serial_in (slot_at s V.slot)) V.slot) over) false it

  pub accept_good : Good (put after p new)
  accept_good =
      let k = fit.knows.0 in
      let now : Sound after p 0 over = record { from = omega arith; to = omega (arith, k.to, next_serial); within = k.within; fresh = k.fresh } in
      put_good after p new others (record {
        ranged = refl;
        local = fit.local;
        knows = (now, tt, now);
        self = λ v _ e _. none_some v.slot e;
        offers = tt;
        closes = tt;
        says = record { stands = fit.says.stands; swept = fit.says.swept };
        opens = tt;
        distinct = λ a b c d e. ⊎_elim
            (λ (x : a ≡ i). ⊎_elim
            (λ (z : b ≡ i). x ∙ sym z)
            (λ (z : b ≡ i → ⊥). absurd (apart_serials b z d (sym e ∙ ap (λ n. serial_in (slot_at s n)) x)))
            (cases_eq b i))
            (λ (x : a ≡ i → ⊥). ⊎_elim
            (λ (z : b ≡ i). absurd (apart_serials a x c (e ∙ ap (λ n. serial_in (slot_at s n)) z)))
            (λ (z : b ≡ i → ⊥). fit.distinct a b (kept_before a x c) (kept_before b z d) e)
            (cases_eq b i))
            (cases_eq a i);
        wanted = λ j c here rest. ⊎_elim
            (λ (x : j ≡ i). x)
            (λ (x : j ≡ i → ⊥).
            let is : j ≡ V.slot = fit.wanted j (kept_before j x c) here rest in
            absurd (here (subst (λ n. waits s n new ≡ true) (sym is) holder_waits)))
            (cases_eq j i);
        searched = λ q ne o n e c. clash (is_mark o next) c (over_older q o (ap over_in e));
        seeking = λ o n e. let z : ◌≡◌ {A = ℕ} 0 1 = cc in absurd (omega arith);
      }) h
