-- The labels of an open keep what always holds.
use Rattle.std.proofs.Common.{◌≡◌, ℕ, ◌<◌, ◌≤◌, Bool, true, false, cond, refl, ap, ◌∙◌, subst, arith}
use Rattle.std.proofs.lemmas.Bool.Decides.{nat_tests}
use Rattle.announcement_theory.specs.declared.mark.Mark.{Mark}
use Rattle.announcement_theory.specs.declared.announcement.Announcement.{Announcement}
use Rattle.announcement_theory.specs.declared.announcement.Announcement.TheVariants as announcement
use Rattle.announcement_theory.specs.declared.position.Round.{Round}
use Rattle.announcement_theory.specs.declared.position.Round.TheVariants.{First, Second}
use Rattle.announcement_theory.specs.declared.position.Position.TheVariants.{Idle, Opening, Open}
use Rattle.announcement_theory.specs.declared.position.OpenLabel.TheVariants.{O1, O2, O3, O4, O5, O6}
use Rattle.announcement_theory.specs.State.{State, seat, slot_at, seat_at, attempt}
use Rattle.announcement_theory.specs.Tests.{is_mark, pending, frozen}
use Rattle.announcement_theory.specs.Next.{put}
use Rattle.announcement_theory.specs.Views.{asking, fits, Opener, calm, ready, seeking, found, settled, steady}
use Rattle.announcement_theory.specs.Shares.{hopes, lost, share_of}
use Rattle.announcement_theory.proofs.Basics.{false_true, clash, mark_same, mark_self, mark_flip, serial_holds, usable_filled, usable_pending, usable_frozen}
use Rattle.announcement_theory.specs.Invariant.{Good}
use Rattle.announcement_theory.proofs.Good.{Sound, ReadyAt, AsksAt, Opens}
use Rattle.announcement_theory.proofs.Stay.{sound_current, stay, moves}

-- a version that may be mentioned in an open may be mentioned after it
pub later : (s : State) (p n : ℕ) (v : Mark) → Sound s p n v → Sound s p 0 v
later s p n v k = record { from = omega arith; to = k.to; within = k.within; fresh = k.fresh }

-- what is owed for a flag, carried from one label to the next
pub asks_on : (s : State) (p : ℕ) (o m : Opener) → ((v : Mark) → AsksAt s p o v → AsksAt s p m v) → (a : Announcement) → Opens s p o a → Opens s p m a
asks_on s p o m f announcement.Empty h = tt
asks_on s p o m f (announcement.Plain v) h = tt
asks_on s p o m f (announcement.Help v) h = f v h

-- a program that announces with help or nothing, and is not closing, waits for nothing
pub waits_none : {A : Type 0} (b : Bool) → cond b false false ≡ true → A
waits_none true e = false_true e
waits_none false e = false_true e

settled_found : (c : Mark) (r : Round) → settled c (seeking r) ≡ true → settled c (found c r) ≡ true
settled_found c First e = mark_self c
settled_found c Second e = e

steady_found : (c : Mark) (r : Round) → steady c (found c r) ≡ true
steady_found c First = refl
steady_found c Second = mark_self c

-- a share that is lost was none, unless the program is bound
share_lost : (c u : Mark) (i : ℕ) (a : Announcement) → is_mark u c ≡ false → share_of c i (hopes u) a ≤ share_of c i lost a
share_lost c u i announcement.Empty e = omega (arith, ap {B = ℕ} (λ b. cond b 2 0) e)
share_lost c u i (announcement.Plain v) e = omega arith
share_lost c u i (announcement.Help v) e = omega (arith, ap {B = ℕ} (λ b. cond b 2 0) e)

module _ (s : State) (g : Good s) (p : ℕ) (h : p < s.programs) where
  abbrev V : Mark
  V = s.current

  pub open_good : seat_at s p ≡ seat Idle announcement.Empty → Good (put s p (seat (Opening (attempt V.serial V) O1) announcement.Empty))
  open_good e = moves s g p h (seat Idle announcement.Empty) (seat (Opening (attempt V.serial V) O1) announcement.Empty) e refl refl (record {
    ranged = refl;
    local = refl;
    knows = (sound_current s g p V.serial (omega arith), tt, tt);
    closes = tt;
    says = tt;
    opens = tt;
    wanted = λ j k here rest w. absurd (here w);
    rise = λ i. omega (arith, ap {B = ℕ} (λ b. cond b 2 0) (mark_self V));
  })

  module _ (n : ℕ) (u : Mark) where
    pub o1_good : seat_at s p ≡ seat (Opening (attempt n u) O1) announcement.Empty → Good (put s p (seat (Opening (attempt n u) O2) (announcement.Help u)))
    o1_good e =
        let old = seat (Opening (attempt n u) O1) announcement.Empty in
        let t = stay s g p h old e in
        moves s g p h old (seat (Opening (attempt n u) O2) (announcement.Help u)) e refl refl (record {
          ranged = refl;
          local = mark_self u;
          knows = (t.knows.0, tt, t.knows.0);
          closes = tt;
          says = tt;
          opens = record { ready = tt; passed = λ z ne r over i f o c l. refl; steady = refl };
          wanted = λ j k here rest w. absurd (here w);
          rise = λ i. omega arith;
        })

    -- V is u: the flag may be taken off
    pub ready_now : is_mark V u ≡ true → ReadyAt s p u
    ready_now c =
        let is = mark_same V u c in
        subst (ReadyAt s p) is (record {
          stands = serial_holds V (slot_at s V.slot) (usable_filled (slot_at s V.slot) g.current.1) g.current.2;
          thawed = usable_frozen (slot_at s V.slot) g.current.1;
          helped = λ z a ne e. clash (pending (slot_at s V.slot)) (g.pended z V a e).1 (usable_pending (slot_at s V.slot) g.current.1);
        })

    ready_opens : is_mark V u ≡ true → (a : Announcement) → fits (asking u) a ≡ true → Opens s p ready a
    ready_opens c announcement.Empty l = tt
    ready_opens c (announcement.Plain v) l = tt
    ready_opens c (announcement.Help v) l = record {
      ready = subst (ReadyAt s p) (mark_same u v l) (ready_now c);
      passed = λ z ne r over i f o e k. refl;
      steady = refl;
    }

    pub o2_same_good : (a : Announcement) → seat_at s p ≡ seat (Opening (attempt n u) O2) a → is_mark V u ≡ true → Good (put s p (seat (Opening (attempt n u) O3) a))
    o2_same_good a e c =
        let t = stay s g p h (seat (Opening (attempt n u) O2) a) e in
        moves s g p h (seat (Opening (attempt n u) O2) a) (seat (Opening (attempt n u) O3) a) e refl refl (record {
          ranged = refl;
          local = t.local;
          knows = t.knows;
          closes = tt;
          says = t.says;
          opens = ready_opens c a t.local;
          wanted = λ j k here rest w. absurd (here w);
          rise = λ i. omega arith;
        })

    pub o2_moved_good : (a : Announcement) → seat_at s p ≡ seat (Opening (attempt n u) O2) a → is_mark V u ≡ false → Good (put s p (seat (Opening (attempt n u) (O4 First)) a))
    o2_moved_good a e c =
        let t = stay s g p h (seat (Opening (attempt n u) O2) a) e in
        moves s g p h (seat (Opening (attempt n u) O2) a) (seat (Opening (attempt n u) (O4 First)) a) e refl refl (record {
          ranged = refl;
          local = t.local;
          knows = t.knows;
          closes = tt;
          says = t.says;
          opens = asks_on s p calm (seeking First) (λ v k. record { ready = tt; passed = λ z ne r over i f o d l. refl; steady = refl }) a t.opens;
          wanted = λ j k here rest w. absurd (here w);
          rise = λ i. omega (arith, share_lost V u i a (mark_flip u V ∙ c));
        })

    pub o3_own_good : seat_at s p ≡ seat (Opening (attempt n u) O3) (announcement.Help u) → Good (put s p (seat (Open u) (announcement.Plain u)))
    o3_own_good e =
        let old = seat (Opening (attempt n u) O3) (announcement.Help u) in
        let t = stay s g p h old e in
        let mine : Sound s p 0 u = later s p n u t.knows.0 in
        let now : ReadyAt s p u = t.opens.ready in
        moves s g p h old (seat (Open u) (announcement.Plain u)) e refl refl (record {
          ranged = refl;
          local = mark_self u;
          knows = (mine, tt, mine);
          closes = tt;
          says = record {
            stands = now.stands;
            swept = λ z b ne c. clash (frozen (slot_at s u.slot)) (g.froze z u b c now.stands) now.thawed;
          };
          opens = tt;
          wanted = λ j k here rest w. waits_none (pending (slot_at s j)) w;
          rise = λ i. grind (arith, nat_tests);
        })

    -- an open ends on the version that it is bound to
    pub o3_bound_good : (v : Mark) → seat_at s p ≡ seat (Opening (attempt n u) O3) (announcement.Plain v) → Good (put s p (seat (Open v) (announcement.Plain v)))
    o3_bound_good v e =
        let old = seat (Opening (attempt n u) O3) (announcement.Plain v) in
        let t = stay s g p h old e in
        let mine : Sound s p 0 v = later s p n v t.knows.2 in
        moves s g p h old (seat (Open v) (announcement.Plain v)) e refl refl (record {
          ranged = refl;
          local = mark_self v;
          knows = (mine, tt, mine);
          closes = tt;
          says = t.says;
          opens = tt;
          wanted = λ j k here rest w. absurd (here w);
          rise = λ i. omega arith;
        })

    module _ (r : Round) where
      pub o4_good : (a : Announcement) → seat_at s p ≡ seat (Opening (attempt n u) (O4 r)) a → Good (put s p (seat (Opening (attempt n u) (O5 V r)) a))
      o4_good a e =
          let t = stay s g p h (seat (Opening (attempt n u) (O4 r)) a) e in
          moves s g p h (seat (Opening (attempt n u) (O4 r)) a) (seat (Opening (attempt n u) (O5 V r)) a) e refl refl (record {
            ranged = refl;
            local = t.local;
            knows = (t.knows.0, sound_current s g p n (omega (arith, t.knows.0.from, t.knows.0.to)), t.knows.2);
            closes = tt;
            says = t.says;
            opens = asks_on s p (seeking r) (found V r) (λ v k. record {
              ready = tt;
              passed = λ z ne m over i f o d l. settled_found V r (k.passed z ne m over i f o d l);
              steady = steady_found V r;
            }) a t.opens;
            wanted = λ j k here rest w. absurd (here w);
            rise = λ i. omega arith;
          })

      pub o5_flag_good : (w : Mark) → seat_at s p ≡ seat (Opening (attempt n u) (O5 w r)) (announcement.Help u) → Good (put s p (seat (Opening (attempt n w) (O6 r)) (announcement.Help w)))
      o5_flag_good w e =
          let old = seat (Opening (attempt n u) (O5 w r)) (announcement.Help u) in
          let t = stay s g p h old e in
          moves s g p h old (seat (Opening (attempt n w) (O6 r)) (announcement.Help w)) e refl refl (record {
            ranged = refl;
            local = mark_self w;
            knows = (t.knows.1, tt, t.knows.1);
            closes = tt;
            says = tt;
            opens = record { ready = tt; passed = t.opens.passed; steady = t.opens.steady };
            wanted = λ j k here rest w. absurd (here w);
            rise = λ i. omega arith;
          })

      pub o5_bound_good : (w v : Mark) → seat_at s p ≡ seat (Opening (attempt n u) (O5 w r)) (announcement.Plain v) → Good (put s p (seat (Open v) (announcement.Plain v)))
      o5_bound_good w v e =
          let old = seat (Opening (attempt n u) (O5 w r)) (announcement.Plain v) in
          let t = stay s g p h old e in
          let mine : Sound s p 0 v = later s p n v t.knows.2 in
          moves s g p h old (seat (Open v) (announcement.Plain v)) e refl refl (record {
            ranged = refl;
            local = mark_self v;
            knows = (mine, tt, mine);
            closes = tt;
            says = t.says;
            opens = tt;
            wanted = λ j k here rest w. absurd (here w);
            rise = λ i. omega arith;
          })

      pub o6_same_good : (a : Announcement) → seat_at s p ≡ seat (Opening (attempt n u) (O6 r)) a → is_mark V u ≡ true → Good (put s p (seat (Opening (attempt n u) O3) a))
      o6_same_good a e c =
          let t = stay s g p h (seat (Opening (attempt n u) (O6 r)) a) e in
          moves s g p h (seat (Opening (attempt n u) (O6 r)) a) (seat (Opening (attempt n u) O3) a) e refl refl (record {
            ranged = refl;
            local = t.local;
            knows = t.knows;
            closes = tt;
            says = t.says;
            opens = ready_opens c a t.local;
            wanted = λ j k here rest w. absurd (here w);
            rise = λ i. omega arith;
          })

      pub o6_bound_good : (v : Mark) → seat_at s p ≡ seat (Opening (attempt n u) (O6 r)) (announcement.Plain v) → Good (put s p (seat (Open v) (announcement.Plain v)))
      o6_bound_good v e =
          let old = seat (Opening (attempt n u) (O6 r)) (announcement.Plain v) in
          let t = stay s g p h old e in
          let mine : Sound s p 0 v = later s p n v t.knows.2 in
          moves s g p h old (seat (Open v) (announcement.Plain v)) e refl refl (record {
            ranged = refl;
            local = mark_self v;
            knows = (mine, tt, mine);
            closes = tt;
            says = t.says;
            opens = tt;
            wanted = λ j k here rest w. absurd (here w);
            rise = λ i. omega arith;
          })

    pub o6_again_good : (a : Announcement) → seat_at s p ≡ seat (Opening (attempt n u) (O6 First)) a → is_mark V u ≡ false → Good (put s p (seat (Opening (attempt n u) (O4 Second)) a))
    o6_again_good a e c =
        let t = stay s g p h (seat (Opening (attempt n u) (O6 First)) a) e in
        moves s g p h (seat (Opening (attempt n u) (O6 First)) a) (seat (Opening (attempt n u) (O4 Second)) a) e refl refl (record {
          ranged = refl;
          local = t.local;
          knows = t.knows;
          closes = tt;
          says = t.says;
          opens = asks_on s p (found u First) (seeking Second) (λ v k. record {
            ready = tt;
            passed = λ z ne m over i f o d l. clash (is_mark u V) (k.passed z ne m over i f o d l) (mark_flip u V ∙ c);
            steady = refl;
          }) a t.opens;
          wanted = λ j k here rest w. absurd (here w);
          rise = λ i. omega (arith, share_lost V u i a (mark_flip u V ∙ c));
        })

    -- after the second round someone has helped
    pub helped_twice : (a : Announcement) → seat_at s p ≡ seat (Opening (attempt n u) (O6 Second)) a → is_mark V u ≡ false → (v : Mark) × (a ≡ announcement.Plain v)
    helped_twice a e c = go a (stay s g p h (seat (Opening (attempt n u) (O6 Second)) a) e).local (stay s g p h (seat (Opening (attempt n u) (O6 Second)) a) e).opens
      where
        go : (b : Announcement) → fits (asking u) b ≡ true → Opens s p (found u Second) b → (v : Mark) × (b ≡ announcement.Plain v)
        go announcement.Empty l o = false_true l
        go (announcement.Plain v) l o = (v, refl)
        go (announcement.Help v) l o = clash (is_mark u V) o.steady (mark_flip u V ∙ c)
