-- What a good state says of one seat, and moves of one program that leave slots and the current version as they are.
use Rattle.std.proofs.Common.{◌≡◌, ℕ, ◌<◌, ◌≤◌, Bool, true, false, length, Some, None, Option, sym, refl, ap, ◌∙◌, subst, inl, inr, ⊎_elim, arith}
use Rattle.std.proofs.lemmas.Bool.{cases_eq}
use Rattle.keeper.proofs.Totals.{total_set}
use Rattle.announcement_theory.specs.declared.mark.Mark.{Mark}
use Rattle.announcement_theory.specs.declared.announcement.Announcement.{Announcement}
use Rattle.announcement_theory.specs.declared.announcement.Announcement.TheVariants as announcement
use Rattle.announcement_theory.specs.declared.seat.Seat.{Seat}
use Rattle.announcement_theory.specs.State.{State, unseated, seat_at, position_at, announced_at}
use Rattle.announcement_theory.specs.Tests.{is_mark, flagged, announces}
use Rattle.announcement_theory.specs.Next.{put}
use Rattle.announcement_theory.specs.Views.{manner, fits, about, spare, Mentions, since, Opener, calm, ready, seeking, found, opener, Offerer, aside, seeks, owns, offerer, owned_in, owned, over_in, Closer, stays, checks, past, pends, sweeps, closer, ranged}
use Rattle.announcement_theory.specs.Shares.{share, accounted}
use Rattle.announcement_theory.specs.Invariant.{Kept, waits, Good}
use Rattle.announcement_theory.proofs.Basics.{clash, none_some, owned_is, owner_owns}
use Rattle.announcement_theory.proofs.Good.{Other, Rest, Sound, Each, Knows, Closes, Offers, Says, Readies, Opens, KeptWith, Fits, put_good}

pub rest_same : (s : State) → Good s → (p : ℕ) → Rest s p
rest_same s g p = record {
  sized = g.sized;
  reached = g.reached;
  ranged = λ q ne. g.ranged q;
  local = λ q ne. g.local q;
  since = λ q ne. g.since q;
  seen = λ q ne. g.seen q;
  fresh = λ q z ne zn. g.fresh q z;
  current = (g.current.0, g.current.1, g.current.2, λ z ne. g.current.3 z);
  own = λ z ne. g.own z;
  apart = λ z y ne yn. g.apart z y;
  held = λ q ne. g.held q;
  valid = λ q ne. g.valid q;
  replaced = λ q ne. g.replaced q;
  pended = λ z ne. g.pended z;
  single = λ z y ne yn. g.single z y;
  helped = λ q z ne zn. g.helped q z;
  froze = λ z ne. g.froze z;
  swept = λ q z ne zn. g.swept q z;
  passed = λ q z ne zn. g.passed q z;
  steady = λ q ne. g.steady q;
  limited = λ q ne. g.limited q;
}

each_from : (Q : Mark → Type 0) (o : Option Mark) → ((v : Mark) → o ≡ Some v → Q v) → Each Q o
each_from Q None h = tt
each_from Q (Some v) h = h v refl

-- the slots that are accounted for do not fall where the share of p does not
pub rises : (s : State) (p : ℕ) (x : Seat) → p < length s.seats → (i : ℕ) → share s.current i (seat_at s p) ≤ share s.current i x
    → accounted s i ≤ accounted (put s p x) i
rises s p x h i up = omega (arith, total_set (share s.current i) s.seats p x unseated h)

module _ (s : State) (g : Good s) (p : ℕ) where
  pub sound : (n : ℕ) (v : Mark) → n ≤ v.serial → Mentions (seat_at s p) v → Sound s p n v
  sound n v from m = record {
    from = from;
    to = (g.seen p v m).0;
    within = (g.seen p v m).1;
    fresh = λ z ne e t. g.fresh p z v m e t;
  }

  -- the current version may be mentioned by every program
  pub sound_current : (n : ℕ) → n ≤ s.current.serial → Sound s p n s.current
  sound_current n h = record {
    from = h;
    to = omega arith;
    within = g.current.0;
    fresh = λ z ne e t. g.current.3 z e;
  }

  offers_at : (o : Offerer) → offerer s.programs (position_at s p) ≡ o → Offers s p o
  offers_at aside e = tt
  offers_at (seeks over i) e = g.limited p over (ap over_in e)
  offers_at (owns r over i f) e =
      let w = g.own p r over i f e in
      let mine = owner_owns s.programs (position_at s p) r over i f e in
      record {
        usable = w.0;
        root = w.1;
        serial = w.2;
        old = λ k. g.current.3 p (mine ∙ ap {B = Option ℕ} Some k);
        limited = g.limited p over (ap over_in e);
        apart = λ z ne o. ne (g.apart z p i o mine);
        fresh = λ q ne v m k t. g.fresh q p v m (mine ∙ ap {B = Option ℕ} Some (sym k)) t;
        passed = λ c q ne a l. g.passed q p r over i f a e c l;
      }

  closes_at : (c : Closer) → closer s.programs (position_at s p) ≡ c → Closes s p c
  closes_at stays e = tt
  closes_at (checks v) e = tt
  closes_at (past v) e = g.replaced p v e
  closes_at (pends v a) e = record {
    stands = (g.pended p v a e).0;
    pending = (g.pended p v a e).1;
    single = λ z b ne f. ne (g.single z p v b a f e);
    helped = λ q ne o f. g.helped q p v a o f e;
  }
  closes_at (sweeps v b) e = record {
    frozen = g.froze p v b e;
    swept = λ q ne f. g.swept q p v b f e;
  }

  says_at : (a : Announcement) → announced_at s p ≡ a → Says s p a
  says_at announcement.Empty e = tt
  says_at (announcement.Plain v) e = record { stands = g.held p v e; swept = λ z b ne f. g.swept p z v b e f }
  says_at (announcement.Help v) e = tt

  readies_at : (v : Mark) → announced_at s p ≡ announcement.Help v → (o : Opener) → opener (position_at s p) ≡ o → Readies s p v o
  readies_at v e calm f = tt
  readies_at v e ready f = record {
    stands = (g.valid p v f e).0;
    thawed = (g.valid p v f e).1;
    helped = λ z a ne c. g.helped p z v a f e c;
  }
  readies_at v e (seeking r) f = tt
  readies_at v e (found w r) f = tt

  opens_at : (a : Announcement) → announced_at s p ≡ a → Opens s p (opener (position_at s p)) a
  opens_at announcement.Empty e = tt
  opens_at (announcement.Plain v) e = tt
  opens_at (announcement.Help v) e = record {
    ready = readies_at v e (opener (position_at s p)) refl;
    passed = λ z ne r over i f o c l. g.passed p z r over i f (ap flagged e) o c l;
    steady = g.steady p (ap flagged e);
  }

  pub kept_here : (j : ℕ) → KeptWith s p (owned (position_at s p)) j → Kept s j
  kept_here j k = (
    k.0,
    λ z e. ⊎_elim
        (λ (same : z ≡ p). k.2 (subst (λ y. owned (position_at s y) ≡ Some j) same e))
        (λ (other : z ≡ p → ⊥). k.1 z other e)
        (cases_eq z p),
  )

  -- the seat of p as it is
  pub stay_here : p < s.programs → Fits s p (seat_at s p)
  stay_here h =
      let w : p < length s.seats = omega (arith, g.sized.3) in
      let n = since (position_at s p) in
      record {
        ranged = g.ranged p;
        local = g.local p;
        knows = (
          each_from (Sound s p n) (about (position_at s p)) (λ v e. sound n v (g.since p v (inl e)) (inl e)),
          each_from (Sound s p n) (spare (position_at s p)) (λ v e. sound n v (g.since p v (inr (inl e))) (inr (inl e))),
          each_from (Sound s p n) (announces (announced_at s p)) (λ v e. sound n v (g.since p v (inr (inr e))) (inr (inr e))),
        );
        self = λ v m e t. g.fresh p p v m e t;
        offers = offers_at (offerer s.programs (position_at s p)) refl;
        closes = closes_at (closer s.programs (position_at s p)) refl;
        says = says_at (announced_at s p) refl;
        opens = opens_at (announced_at s p) refl;
        distinct = λ j k a b e. g.distinct j k (kept_here j a) (kept_here k b) e;
        wanted = λ j k here rest. g.wanted j (kept_here j k) (λ q e. ⊎_elim
            (λ (same : q ≡ p). here (subst (λ y. waits s j (seat_at s y) ≡ true) same e))
            (λ (other : q ≡ p → ⊥). rest q other e)
            (cases_eq q p));
        searched = λ q ne over i e c. omega (arith, g.searched q over i e c, rises s p (seat_at s p) w i (omega arith));
        seeking = λ over i e c. omega (arith, g.searched p over i e c, rises s p (seat_at s p) w i (omega arith));
      }

  -- the same, by what it is
  pub stay : p < s.programs → (x : Seat) → seat_at s p ≡ x → Fits s p x
  stay h x e = subst (Fits s p) e (stay_here h)

  -- searches of others stay accounted for
  pub still_searched : p < s.programs → (old x : Seat) → seat_at s p ≡ old → ((i : ℕ) → share s.current i old ≤ share s.current i x)
      → (q : ℕ) → Other p q → (over : Mark) (i : ℕ) → offerer s.programs (position_at s q) ≡ seeks over i
      → is_mark over s.current ≡ true → i ≤ accounted (put s p x) i
  still_searched h old x is up q ne over i e c =
      let w : p < length s.seats = omega (arith, g.sized.3) in
      omega (arith, g.searched q over i e c, rises s p x w i (subst (λ y. share s.current i y ≤ share s.current i x) (sym is) (up i)))

aside_seeks : {A : Type 0} (o : Offerer) (over : Mark) (i : ℕ) → o ≡ aside → o ≡ seeks over i → A
aside_seeks o over i e f = let z : ◌≡◌ {A = ℕ} 0 1 = cc in absurd (omega arith)

-- a move of p to a seat that owns no slot and looks for none, from a seat that owns none
module _ (s : State) (g : Good s) (p : ℕ) (h : p < s.programs) (old x : Seat) (was : seat_at s p ≡ old) (free : owned old.position ≡ None) where
  pub record Move : Type 0 where
    pub ranged : ranged s.programs x.position ≡ true
    pub local : fits (manner x.position) x.announced ≡ true
    pub knows : Knows s p x
    pub closes : Closes s p (closer s.programs x.position)
    pub says : Says s p x.announced
    pub opens : Opens s p (opener x.position) x.announced
    pub wanted : (j : ℕ) → Kept s j → (waits s j x ≡ true → ⊥) → ((q : ℕ) → Other p q → waits s j (seat_at s q) ≡ true → ⊥) → waits s j old ≡ true
        → j ≡ s.current.slot
    pub rise : (i : ℕ) → share s.current i old ≤ share s.current i x

  kept_old : owned x.position ≡ None → (j : ℕ) → KeptWith s p (owned x.position) j → KeptWith s p (owned old.position) j
  kept_old none j k = (k.0, k.1, λ e. none_some j (sym free ∙ e))

  kept_now : owned x.position ≡ None → (j : ℕ) → KeptWith s p (owned x.position) j → Kept s j
  kept_now none j k = kept_here s g p j (subst (λ y. KeptWith s p (owned y.position) j) (sym was) (kept_old none j k))

  -- with what is owed as an offer
  pub moves_on : owned x.position ≡ None → Offers s p (offerer s.programs x.position)
      → ((over : Mark) (i : ℕ) → offerer s.programs x.position ≡ seeks over i → is_mark over s.current ≡ true → i ≤ accounted (put s p x) i)
      → Move → Good (put s p x)
  moves_on none offers sought m =
      let t = stay s g p h old was in
      put_good s p x (rest_same s g p) (record {
        ranged = m.ranged;
        local = m.local;
        knows = m.knows;
        self = λ v _ e _. none_some v.slot (sym none ∙ e);
        offers = offers;
        closes = m.closes;
        says = m.says;
        opens = m.opens;
        distinct = λ j k a b e. t.distinct j k (kept_old none j a) (kept_old none k b) e;
        wanted = λ j k here rest. go j k here rest (waits s j old) refl;
        searched = still_searched s g p h old x was m.rise;
        seeking = sought;
      }) h
    where
      go : (j : ℕ) → KeptWith s p (owned x.position) j → (waits s j x ≡ true → ⊥) → ((q : ℕ) → Other p q → waits s j (seat_at s q) ≡ true → ⊥)
          → (b : Bool) → waits s j old ≡ b → j ≡ s.current.slot
      go j k here rest true e = m.wanted j (kept_now none j k) here rest e
      go j k here rest false e = (stay s g p h old was).wanted j (kept_old none j k) (λ f. clash (waits s j old) f e) rest

  pub moves : offerer s.programs x.position ≡ aside → Move → Good (put s p x)
  moves none m = moves_on (sym (owned_is s.programs x.position) ∙ ap owned_in none) (subst (Offers s p) (sym none) tt)
      (λ over i e. aside_seeks (offerer s.programs x.position) over i none e) m
