-- What always holds, by name, and when it still holds after program p took another seat.
use Rattle.std.proofs.Common.{◌≡◌, ℕ, ◌+◌, ◌*◌, ◌<◌, ◌≤◌, true, false, length, Some, None, Option, refl, ap, ◌∙◌, subst, inl, inr, arith, length-set}
use Rattle.std.proofs.lemmas.Option.{same_Some}
use Rattle.announcement_theory.specs.declared.mark.Mark.{Mark}
use Rattle.announcement_theory.specs.declared.announcement.Announcement.{Announcement}
use Rattle.announcement_theory.specs.declared.announcement.Announcement.TheVariants as announcement
use Rattle.announcement_theory.specs.declared.position.Position.{Position}
use Rattle.announcement_theory.specs.declared.seat.Seat.{Seat}
use Rattle.announcement_theory.specs.State.{State, slot_at, seat_at, position_at, announced_at}
use Rattle.announcement_theory.specs.Tests.{is_mark, flagged, announces, filled, serial_in, root_in, holds, usable, pending, frozen}
use Rattle.announcement_theory.specs.Next.{put}
use Rattle.announcement_theory.specs.Views.{manner, fits, about, spare, Mentions, since, Opener, calm, ready, seeking, found, opener, settled, steady, Offerer, aside, seeks, owns, offerer, owned, over_in, Closer, stays, checks, past, pends, sweeps, closer, ranged}
use Rattle.announcement_theory.specs.Shares.{accounted}
use Rattle.announcement_theory.specs.Invariant.{Holds, Kept, waits, Sized, Reached, Good}
use Rattle.announcement_theory.proofs.Basics.{false_true, clash, none_some, owner_of, at_same, at_other, at_each, at_two}
use Rattle.announcement_theory.proofs.Roles.{closing, closing_empty, offering_plain, ready_not_closing}

-- a program other than p
abbrev pub Other : ℕ → ℕ → Type 0
Other p q = q ≡ p → ⊥

-- what holds of the programs other than p
pub record Rest (s : State) (p : ℕ) : Type 0 where
  pub sized : Sized s
  pub reached : Reached s
  pub ranged : (q : ℕ) → Other p q → ranged s.programs (position_at s q) ≡ true
  pub local : (q : ℕ) → Other p q → fits (manner (position_at s q)) (announced_at s q) ≡ true
  pub since : (q : ℕ) → Other p q → (v : Mark) → Mentions (seat_at s q) v → since (position_at s q) ≤ v.serial
  pub seen : (q : ℕ) → Other p q → (v : Mark) → Mentions (seat_at s q) v → (v.serial ≤ s.current.serial) × (v.slot ≤ 3 * s.programs)
  pub fresh : (q z : ℕ) → Other p q → Other p z → (v : Mark) → Mentions (seat_at s q) v → owned (position_at s z) ≡ Some v.slot → Holds s v → ⊥
  pub current :
      (s.current.slot ≤ 3 * s.programs) × (usable (slot_at s s.current.slot) ≡ true)
      × (serial_in (slot_at s s.current.slot) ≡ s.current.serial) × ((z : ℕ) → Other p z → owned (position_at s z) ≡ Some s.current.slot → ⊥)
  pub own :
      (z : ℕ) → Other p z → (r : ℕ) (over : Mark) (i f : ℕ) → offerer s.programs (position_at s z) ≡ owns r over i f
      → (usable (slot_at s i) ≡ true) × (root_in (slot_at s i) ≡ r) × (is_mark over s.current ≡ true → serial_in (slot_at s i) ≡ s.current.serial + 1)
  pub apart : (z y : ℕ) → Other p z → Other p y → (i : ℕ) → owned (position_at s z) ≡ Some i → owned (position_at s y) ≡ Some i → z ≡ y
  pub held : (q : ℕ) → Other p q → (v : Mark) → announced_at s q ≡ announcement.Plain v → Holds s v
  pub valid :
      (q : ℕ) → Other p q → (v : Mark) → opener (position_at s q) ≡ ready → announced_at s q ≡ announcement.Help v
      → (holds v (slot_at s v.slot) ≡ true) × (frozen (slot_at s v.slot) ≡ false)
  pub replaced : (q : ℕ) → Other p q → (v : Mark) → closer s.programs (position_at s q) ≡ past v → is_mark v s.current ≡ false
  pub pended :
      (z : ℕ) → Other p z → (v : Mark) (a : ℕ) → closer s.programs (position_at s z) ≡ pends v a
      → (holds v (slot_at s v.slot) ≡ true) × (pending (slot_at s v.slot) ≡ true)
  pub single :
      (z y : ℕ) → Other p z → Other p y → (v : Mark) (a b : ℕ) → closer s.programs (position_at s z) ≡ pends v a
      → closer s.programs (position_at s y) ≡ pends v b → z ≡ y
  pub helped :
      (q z : ℕ) → Other p q → Other p z → (v : Mark) (a : ℕ) → opener (position_at s q) ≡ ready → announced_at s q ≡ announcement.Help v
      → closer s.programs (position_at s z) ≡ pends v a → a ≤ q
  pub froze : (z : ℕ) → Other p z → (v : Mark) (b : ℕ) → closer s.programs (position_at s z) ≡ sweeps v b → Holds s v → frozen
      (slot_at s v.slot) ≡ true
  pub swept :
      (q z : ℕ) → Other p q → Other p z → (v : Mark) (b : ℕ) → announced_at s q ≡ announcement.Plain v
      → closer s.programs (position_at s z) ≡ sweeps v b → b ≤ q
  pub passed :
      (q z : ℕ) → Other p q → Other p z → (r : ℕ) (over : Mark) (i f : ℕ) → flagged (announced_at s q) ≡ true
      → offerer s.programs (position_at s z) ≡ owns r over i f → is_mark over s.current ≡ true → q < f
      → settled s.current (opener (position_at s q)) ≡ true
  pub steady : (q : ℕ) → Other p q → flagged (announced_at s q) ≡ true → steady s.current (opener (position_at s q)) ≡ true
  pub limited : (q : ℕ) → Other p q → (over : Mark) → over_in (offerer s.programs (position_at s q)) ≡ Some over → over.serial < s.last

-- a version that p may mention: known since n, and in no slot that another program owns
pub record Sound (s : State) (p n : ℕ) (v : Mark) : Type 0 where
  pub from : n ≤ v.serial
  pub to : v.serial ≤ s.current.serial
  pub within : v.slot ≤ 3 * s.programs
  pub fresh : (z : ℕ) → Other p z → owned (position_at s z) ≡ Some v.slot → Holds s v → ⊥

abbrev pub Each : (Mark → Type 0) → Option Mark → Type 0
Each Q None = Unit {0}
Each Q (Some v) = Q v

abbrev pub Knows : State → ℕ → Seat → Type 0
Knows s p x =
    Each (Sound s p (since x.position)) (about x.position) × Each (Sound s p (since x.position)) (spare x.position)
    × Each (Sound s p (since x.position)) (announces x.announced)

pub record PendsAt (s : State) (p : ℕ) (v : Mark) (a : ℕ) : Type 0 where
  pub stands : Holds s v
  pub pending : pending (slot_at s v.slot) ≡ true
  pub single : (z b : ℕ) → Other p z → closer s.programs (position_at s z) ≡ pends v b → ⊥
  pub helped : (q : ℕ) → Other p q → opener (position_at s q) ≡ ready → announced_at s q ≡ announcement.Help v → a ≤ q

pub record SweepsAt (s : State) (p : ℕ) (v : Mark) (b : ℕ) : Type 0 where
  pub frozen : Holds s v → frozen (slot_at s v.slot) ≡ true
  pub swept : (q : ℕ) → Other p q → announced_at s q ≡ announcement.Plain v → b ≤ q

-- what is owed by p as a close that is so far
abbrev pub Closes : State → ℕ → Closer → Type 0
Closes s p stays = Unit {0}
Closes s p (checks v) = Unit {0}
Closes s p (past v) = is_mark v s.current ≡ false
Closes s p (pends v a) = PendsAt s p v a
Closes s p (sweeps v b) = SweepsAt s p v b

pub record OwnsAt (s : State) (p r : ℕ) (over : Mark) (i f : ℕ) : Type 0 where
  pub usable : usable (slot_at s i) ≡ true
  pub root : root_in (slot_at s i) ≡ r
  pub serial : is_mark over s.current ≡ true → serial_in (slot_at s i) ≡ s.current.serial + 1
  pub old : i ≡ s.current.slot → ⊥
  pub limited : over.serial < s.last
  pub apart : (z : ℕ) → Other p z → owned (position_at s z) ≡ Some i → ⊥
  pub fresh : (q : ℕ) → Other p q → (v : Mark) → Mentions (seat_at s q) v → v.slot ≡ i → Holds s v → ⊥
  pub passed : is_mark over s.current ≡ true → (q : ℕ) → Other p q → flagged (announced_at s q) ≡ true → q < f → settled s.current
      (opener (position_at s q)) ≡ true

-- what is owed by p as an offer that is so far
abbrev pub Offers : State → ℕ → Offerer → Type 0
Offers s p aside = Unit {0}
Offers s p (seeks over i) = over.serial < s.last
Offers s p (owns r over i f) = OwnsAt s p r over i f

pub record SaysAt (s : State) (p : ℕ) (v : Mark) : Type 0 where
  pub stands : Holds s v
  pub swept : (z b : ℕ) → Other p z → closer s.programs (position_at s z) ≡ sweeps v b → b ≤ p

-- what is owed for an announcement of p
abbrev pub Says : State → ℕ → Announcement → Type 0
Says s p announcement.Empty = Unit {0}
Says s p (announcement.Plain v) = SaysAt s p v
Says s p (announcement.Help v) = Unit {0}

pub record ReadyAt (s : State) (p : ℕ) (v : Mark) : Type 0 where
  pub stands : Holds s v
  pub thawed : frozen (slot_at s v.slot) ≡ false
  pub helped : (z a : ℕ) → Other p z → closer s.programs (position_at s z) ≡ pends v a → a ≤ p

abbrev pub Readies : State → ℕ → Mark → Opener → Type 0
Readies s p v calm = Unit {0}
Readies s p v ready = ReadyAt s p v
Readies s p v (seeking r) = Unit {0}
Readies s p v (found w r) = Unit {0}

pub record AsksAt (s : State) (p : ℕ) (o : Opener) (v : Mark) : Type 0 where
  pub ready : Readies s p v o
  pub passed :
      (z : ℕ) → Other p z → (r : ℕ) (over : Mark) (i f : ℕ) → offerer s.programs (position_at s z) ≡ owns r over i f
      → is_mark over s.current ≡ true → p < f → settled s.current o ≡ true
  pub steady : steady s.current o ≡ true

-- what is owed by p as an open that is so far and asks for help
abbrev pub Opens : State → ℕ → Opener → Announcement → Type 0
Opens s p o announcement.Empty = Unit {0}
Opens s p o (announcement.Plain v) = Unit {0}
Opens s p o (announcement.Help v) = AsksAt s p o v

-- slot j is kept, if p owns o
abbrev pub KeptWith : State → ℕ → Option ℕ → ℕ → Type 0
KeptWith s p o j = (filled (slot_at s j) ≡ true) × ((z : ℕ) → Other p z → owned (position_at s z) ≡ Some j → ⊥) × (o ≡ Some j → ⊥)

-- the seat x of program p goes with the rest of the state
pub record Fits (s : State) (p : ℕ) (x : Seat) : Type 0 where
  pub ranged : ranged s.programs x.position ≡ true
  pub local : fits (manner x.position) x.announced ≡ true
  pub knows : Knows s p x
  pub self : (v : Mark) → Mentions x v → owned x.position ≡ Some v.slot → Holds s v → ⊥
  pub offers : Offers s p (offerer s.programs x.position)
  pub closes : Closes s p (closer s.programs x.position)
  pub says : Says s p x.announced
  pub opens : Opens s p (opener x.position) x.announced
  pub distinct :
      (j h : ℕ) → KeptWith s p (owned x.position) j → KeptWith s p (owned x.position) h
      → serial_in (slot_at s j) ≡ serial_in (slot_at s h) → j ≡ h
  pub wanted :
      (j : ℕ) → KeptWith s p (owned x.position) j → (waits s j x ≡ true → ⊥)
      → ((q : ℕ) → Other p q → waits s j (seat_at s q) ≡ true → ⊥) → j ≡ s.current.slot
  pub searched :
      (q : ℕ) → Other p q → (over : Mark) (i : ℕ) → offerer s.programs (position_at s q) ≡ seeks over i
      → is_mark over s.current ≡ true → i ≤ accounted (put s p x) i
  pub seeking :
      (over : Mark) (i : ℕ) → offerer s.programs x.position ≡ seeks over i → is_mark over s.current ≡ true → i ≤ accounted (put s p x) i

each_at : (Q : Mark → Type 0) (o : Option Mark) (v : Mark) → Each Q o → o ≡ Some v → Q v
each_at Q None v h e = none_some v e
each_at Q (Some w) v h e = subst Q (same_Some w v e) h

pub known : (s : State) (p : ℕ) (x : Seat) → Knows s p x → (v : Mark) → Mentions x v → Sound s p (since x.position) v
known s p x k v (inl e) = each_at (Sound s p (since x.position)) (about x.position) v k.0 e
known s p x k v (inr (inl e)) = each_at (Sound s p (since x.position)) (spare x.position) v k.1 e
known s p x k v (inr (inr e)) = each_at (Sound s p (since x.position)) (announces x.announced) v k.2 e

-- a flag is there on some version
pub flag_on : (a : Announcement) → flagged a ≡ true → (v : Mark) × (a ≡ announcement.Help v)
flag_on announcement.Empty e = false_true e
flag_on (announcement.Plain v) e = false_true e
flag_on (announcement.Help v) e = (v, refl)

module _ (s : State) (p : ℕ) (x : Seat) (rest : Rest s p) (new : Fits s p x) where
  abbrev all : ℕ
  all = s.programs

  abbrev at : Position
  at = x.position

  asks_at : (v : Mark) → x.announced ≡ announcement.Help v → AsksAt s p (opener at) v
  asks_at v e = subst (Opens s p (opener at)) e new.opens

  says_at : (v : Mark) → x.announced ≡ announcement.Plain v → SaysAt s p v
  says_at v e = subst (Says s p) e new.says

  owns_at : (r : ℕ) (over : Mark) (i f : ℕ) → offerer all at ≡ owns r over i f → OwnsAt s p r over i f
  owns_at r over i f e = subst (Offers s p) e new.offers

  pends_at : (v : Mark) (a : ℕ) → closer all at ≡ pends v a → PendsAt s p v a
  pends_at v a e = subst (Closes s p) e new.closes

  sweeps_at : (v : Mark) (b : ℕ) → closer all at ≡ sweeps v b → SweepsAt s p v b
  sweeps_at v b e = subst (Closes s p) e new.closes

  past_at : (v : Mark) → closer all at ≡ past v → is_mark v s.current ≡ false
  past_at v e = subst (Closes s p) e new.closes

  ready_at : (v : Mark) → x.announced ≡ announcement.Help v → opener at ≡ ready → ReadyAt s p v
  ready_at v e o = subst (Readies s p v) o (asks_at v e).ready

  limited_at : (o : Offerer) (over : Mark) → Offers s p o → over_in o ≡ Some over → over.serial < s.last
  limited_at aside over h e = none_some over e
  limited_at (seeks w i) over h e = subst (λ k. k.serial < s.last) (same_Some w over e) h
  limited_at (owns r w i f) over h e = subst (λ k. k.serial < s.last) (same_Some w over e) h.limited

  -- an owned slot of p, by its number
  owned_at : (i : ℕ) → owned at ≡ Some i → (r : ℕ) × (over : Mark) × (f : ℕ) × OwnsAt s p r over i f
  owned_at i e = let w = owner_of all at i e in (w.root, w.over, w.passed, owns_at w.root w.over i w.passed w.is)

  kept_with : (within : p < length s.seats) (j : ℕ) → Kept (put s p x) j → KeptWith s p (owned at) j
  kept_with within j k = (
    k.0,
    (λ z ne e. k.1 z (ap (λ y. owned y.position) (at_other s p x within z ne) ∙ e)),
    (λ e. k.1 p (ap (λ y. owned y.position) (at_same s p x within) ∙ e)),
  )

  pub put_good : p < s.programs → Good (put s p x)
  put_good h =
      let w : p < length s.seats = omega (arith, rest.sized.3) in
      let each = at_each s p x w in
      let two = at_two s p x w in
      record {
        sized = simp length-set rest.sized;
        reached = rest.reached;
        ranged = each (λ q y. ranged all y.position ≡ true) new.ranged rest.ranged;
        local = each (λ q y. fits (manner y.position) y.announced ≡ true) new.local rest.local;
        since = each (λ q y. (v : Mark) → Mentions y v → since y.position ≤ v.serial) (λ v m. (known s p x new.knows v m).from) rest.since;
        seen = each (λ q y. (v : Mark) → Mentions y v → (v.serial ≤ s.current.serial) × (v.slot ≤ 3 * s.programs))
            (λ v m. let k = known s p x new.knows v m in (k.to, k.within)) rest.seen;
        fresh = two (λ q y z o. (v : Mark) → Mentions y v → owned o.position ≡ Some v.slot → Holds s v → ⊥)
            new.self
            (λ z ne v m e t. (known s p x new.knows v m).fresh z ne e t)
            (λ q ne v m e t. (owned_at v.slot e).3.fresh q ne v m refl t)
            rest.fresh;
        current = (
          rest.current.0,
          rest.current.1,
          rest.current.2,
          each (λ z y. owned y.position ≡ Some s.current.slot → ⊥) (λ e. (owned_at s.current.slot e).3.old refl) rest.current.3,
        );
        own = each (λ z y. (r : ℕ) (over : Mark) (i f : ℕ) → offerer all y.position ≡ owns r over i f
            → (usable (slot_at s i) ≡ true) × (root_in (slot_at s i) ≡ r) ×
            (is_mark over s.current ≡ true → serial_in (slot_at s i) ≡ s.current.serial + 1))
            (λ r over i f e. let o = owns_at r over i f e in (o.usable, o.root, o.serial)) rest.own;
        apart = two (λ z y u t. (i : ℕ) → owned y.position ≡ Some i → owned t.position ≡ Some i → z ≡ u)
            (λ i e f. refl)
            (λ z ne i e f. absurd ((owned_at i e).3.apart z ne f))
            (λ z ne i e f. absurd ((owned_at i f).3.apart z ne e))
            rest.apart;
        distinct = λ j k a b e. new.distinct j k (kept_with w j a) (kept_with w k b) e;
        held = each (λ q y. (v : Mark) → y.announced ≡ announcement.Plain v → Holds s v) (λ v e. (says_at v e).stands) rest.held;
        valid = each (λ q y. (v : Mark) → opener y.position ≡ ready → y.announced ≡ announcement.Help v
            → (holds v (slot_at s v.slot) ≡ true) × (frozen (slot_at s v.slot) ≡ false))
            (λ v o e. let r = ready_at v e o in (r.stands, r.thawed)) rest.valid;
        replaced = each (λ q y. (v : Mark) → closer all y.position ≡ past v → is_mark v s.current ≡ false) past_at rest.replaced;
        pended = each (λ z y. (v : Mark) (a : ℕ) → closer all y.position ≡ pends v a
            → (holds v (slot_at s v.slot) ≡ true) × (pending (slot_at s v.slot) ≡ true))
            (λ v a e. let c = pends_at v a e in (c.stands, c.pending)) rest.pended;
        single = two (λ z y u t. (v : Mark) (a b : ℕ) → closer all y.position ≡ pends v a → closer all t.position ≡ pends v b → z ≡ u)
            (λ v a b e f. refl)
            (λ z ne v a b e f. absurd ((pends_at v a e).single z b ne f))
            (λ z ne v a b e f. absurd ((pends_at v b f).single z a ne e))
            rest.single;
        helped = two (λ q y z t. (v : Mark) (a : ℕ) → opener y.position ≡ ready → y.announced ≡ announcement.Help v → closer all
            t.position ≡ pends v a → a ≤ q)
            (λ v a o e c. ready_not_closing all at o (ap closing c))
            (λ z ne v a o e c. (ready_at v e o).helped z a ne c)
            (λ q ne v a o e c. (pends_at v a c).helped q ne o e)
            rest.helped;
        froze = each (λ z y. (v : Mark) (b : ℕ) → closer all y.position ≡ sweeps v b → Holds s v → frozen (slot_at s v.slot) ≡ true)
            (λ v b e. (sweeps_at v b e).frozen) rest.froze;
        swept = two (λ q y z t. (v : Mark) (b : ℕ) → y.announced ≡ announcement.Plain v → closer all t.position ≡ sweeps v b → b ≤ q)
            (λ v b e c. let m = closing_empty all at x.announced new.local (ap closing c) in
            let z : ◌≡◌ {A = ℕ} 0 1 = cc in absurd (omega arith))
            (λ z ne v b e c. (says_at v e).swept z b ne c)
            (λ q ne v b e c. (sweeps_at v b c).swept q ne e)
            rest.swept;
        wanted = λ j k none. new.wanted j (kept_with w j k)
            (λ e. none p (ap (waits s j) (at_same s p x w) ∙ e))
            (λ q ne e. none q (ap (waits s j) (at_other s p x w q ne) ∙ e));
        passed = two (λ q y z t. (r : ℕ) (over : Mark) (i f : ℕ) → flagged y.announced ≡ true → offerer all t.position ≡ owns r over i f
            → is_mark over s.current ≡ true → q < f → settled s.current (opener y.position) ≡ true)
            (λ r over i f g o e l. let m = offering_plain all at x.announced over new.local (ap over_in o) in clash (flagged x.announced) g
            (ap flagged m))
            (λ z ne r over i f g o e l. let a = flag_on x.announced g in (asks_at a.0 a.1).passed z ne r over i f o e l)
            (λ q ne r over i f g o e l. (owns_at r over i f o).passed e q ne g l)
            rest.passed;
        steady = each (λ q y. flagged y.announced ≡ true → steady s.current (opener y.position) ≡ true)
            (λ g. let a = flag_on x.announced g in (asks_at a.0 a.1).steady) rest.steady;
        searched = each (λ q y. (over : Mark) (i : ℕ) → offerer all y.position ≡ seeks over i → is_mark over s.current ≡ true → i ≤ accounted
            (put s p x) i)
            new.seeking new.searched;
        limited = each (λ q y. (over : Mark) → over_in (offerer all y.position) ≡ Some over → over.serial < s.last)
            (λ over e. limited_at (offerer all at) over new.offers e) rest.limited;
      }
