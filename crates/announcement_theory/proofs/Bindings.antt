-- An announcement of another program made plain keeps what always holds.
use Rattle.std.proofs.Common.{◌≡◌, ℕ, ◌<◌, true, None, sym, refl, ap, ◌∙◌, subst, arith}
use Rattle.announcement_theory.specs.declared.mark.Mark.{Mark}
use Rattle.announcement_theory.specs.declared.announcement.Announcement.TheVariants as announcement
use Rattle.announcement_theory.specs.declared.position.Position.{Position}
use Rattle.announcement_theory.specs.State.{State, mark, seat, slot_at, seat_at, position_at, announced_at}
use Rattle.announcement_theory.specs.Tests.{is_mark, serial_in, pending, frozen}
use Rattle.announcement_theory.specs.Next.{announce}
use Rattle.announcement_theory.specs.Views.{asking, manner, fits, since, owned_in, owned, pends, closer}
use Rattle.announcement_theory.specs.Shares.{past_of}
use Rattle.announcement_theory.specs.Invariant.{pends_on, leaves_on, Good}
use Rattle.announcement_theory.proofs.Basics.{clash, none_some, mark_self, serial_holds, usable_filled, usable_frozen, pending_frozen, owned_is, flag_asks}
use Rattle.announcement_theory.proofs.Good.{Sound, SaysAt, Fits, put_good}
use Rattle.announcement_theory.proofs.Stay.{rest_same, sound_current, stay, still_searched}
use Rattle.announcement_theory.proofs.Shared.{share_bound, waits_more, asking_aside}

module _ (s : State) (g : Good s) (x : ℕ) (h : x < s.programs) (v : Mark) (asked : announced_at s x ≡ announcement.Help v) where
  abbrev V : Mark
  V = s.current

  abbrev at : Position
  at = position_at s x

  was : seat_at s x ≡ seat at (announcement.Help v)
  was = ap (seat at) asked

  fit : Fits s x (seat at (announcement.Help v))
  fit = stay s g x h (seat at (announcement.Help v)) was

  pub opening_on : manner at ≡ asking v
  opening_on = flag_asks (manner at) v fit.local

  bind_good : (w : Mark) → Sound s x (since at) w → SaysAt s x w → (is_mark v V ≡ true → is_mark w V ≡ true) → Good
      (announce s x (announcement.Plain w))
  bind_good w mine says same =
      let new = seat at (announcement.Plain w) in
      let roles = asking_aside s.programs at v opening_on in
      let free : owned at ≡ None = sym (owned_is s.programs at) ∙ ap owned_in roles.0 in
      put_good s x new (rest_same s g x) (record {
        ranged = fit.ranged;
        local = subst (λ m. fits m (announcement.Plain w) ≡ true) (sym opening_on) refl;
        knows = (fit.knows.0, fit.knows.1, mine);
        self = λ u _ e _. none_some u.slot (sym free ∙ e);
        offers = fit.offers;
        closes = fit.closes;
        says = says;
        opens = tt;
        distinct = fit.distinct;
        wanted = λ j k here rest. fit.wanted j k
            (λ e. here (waits_more (pending (slot_at s j)) (pends_on (mark (serial_in (slot_at s j)) j) (closer s.programs at))
            (is_mark (mark (serial_in (slot_at s j)) j) w) (leaves_on (mark (serial_in (slot_at s j)) j) (closer s.programs at)) e))
            rest;
        searched = still_searched s g x h (seat at (announcement.Help v)) new was
            (λ i. omega (arith, share_bound V i v w (past_of at) roles.1 same));
        seeking = λ over i e. let z : ◌≡◌ {A = ℕ} 0 1 = cc (roles.0, e) in absurd (omega arith);
      }) h

  -- to the current version
  pub bind_current_good : Good (announce s x (announcement.Plain V))
  bind_current_good = bind_good V (sound_current s g x (since at) (omega (arith, fit.knows.2.from, fit.knows.2.to)))
      (record {
        stands = serial_holds V (slot_at s V.slot) (usable_filled (slot_at s V.slot) g.current.1) g.current.2;
        swept = λ z b ne c. clash (frozen (slot_at s V.slot))
            (g.froze z V b c (serial_holds V (slot_at s V.slot) (usable_filled (slot_at s V.slot) g.current.1) g.current.2))
            (usable_frozen (slot_at s V.slot) g.current.1);
      })
      (λ _. mark_self V)

  -- to the version that it announced, which another program found pending
  pub bind_pending_good : (p a : ℕ) → closer s.programs (position_at s p) ≡ pends v a → Good (announce s x (announcement.Plain v))
  bind_pending_good p a c = bind_good v fit.knows.2
      (record {
        stands = (g.pended p v a c).0;
        swept = λ z b ne f. clash (frozen (slot_at s v.slot)) (g.froze z v b f (g.pended p v a c).0)
            (pending_frozen (slot_at s v.slot) (g.pended p v a c).1);
      })
      (λ e. e)
