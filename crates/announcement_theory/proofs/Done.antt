-- Every beginning and every step has the effects that a keeper owes.
use Rattle.std.proofs.Common.{◌≡◌, ℕ, ◌+◌, ◌*◌, ◌<◌, ◌≤◌, Bool, true, false, cond, eqb, ltb, leb, length, Some, None, Option, sym, refl, ap, ◌∙◌, subst, inl, ⊎_elim, arith}
use Rattle.std.proofs.lemmas.Bool.{cases_lt, and_parts, ltb-true, ltb-false, leb-true}
use Rattle.std.proofs.lemmas.List.{get_or_past}
use Rattle.announcement_theory.specs.declared.mark.Mark.{Mark}
use Rattle.announcement_theory.specs.declared.slot.Status.{Status}
use Rattle.announcement_theory.specs.declared.slot.Status.TheVariants.{Usable, Pending, Frozen}
use Rattle.announcement_theory.specs.declared.slot.Stored.{Stored}
use Rattle.announcement_theory.specs.declared.announcement.Announcement.{Announcement}
use Rattle.announcement_theory.specs.declared.announcement.Announcement.TheVariants as announcement
use Rattle.announcement_theory.specs.declared.position.Round.{Round}
use Rattle.announcement_theory.specs.declared.position.Round.TheVariants.{First, Second}
use Rattle.announcement_theory.specs.declared.position.Position.{Position}
use Rattle.announcement_theory.specs.declared.position.Position.TheVariants.{Idle, Opening, Open, Offering, Offered, Closing}
use Rattle.announcement_theory.specs.declared.position.OpenLabel.TheVariants.{O1, O2, O3, O4, O5, O6}
use Rattle.announcement_theory.specs.declared.position.OfferLabel.TheVariants.{F1, F2, F3}
use Rattle.announcement_theory.specs.declared.position.CloseLabel.TheVariants.{C1, C2, C3, C4, C5, C6, C7}
use Rattle.announcement_theory.specs.declared.seat.Seat.{Seat}
use Rattle.announcement_theory.specs.State.{State, mark, seat, stored, slot_at, seat_at, position_at, announced_at, attempt, offer}
use Rattle.announcement_theory.specs.Tests.{is_mark, asks, bears, flagged, filled, serial_in, holds, usable, frozen, restated}
use Rattle.announcement_theory.specs.Next.{put, fill, advance, go_to, announce, Stepped, goes, stepped, opens_on, stales, step_at, step, opens, publishes, closes, searches, looks, looks_on, hands, hands_on, again, next_or, version_had}
use Rattle.announcement_theory.specs.Views.{holding, manner, about, Mentions, since, opener, owns, offerer, owned, closer}
use Rattle.announcement_theory.specs.Invariant.{Holds, Good}
use Rattle.announcement_theory.proofs.Basics.{false_true, clash, mark_same, same_mark, mark_flip, owner_owns, asks_help, asking_bound, at_other}
use Rattle.announcement_theory.proofs.Good.{flag_on}
use Rattle.announcement_theory.proofs.Waiting.{current_only}
use Rattle.announcement_theory.proofs.Fillings.{empty_usable, says_mentions, asks_mentions}
use Rattle.announcement_theory.proofs.Freezings.{holds_in_range}
use Rattle.keeper.specs.declared.stage.Stage.TheVariants as stage
use Rattle.keeper.specs.Stages.{moving, serial_of}
use Rattle.keeper.specs.Meaning.{stage_of, same, times}
use Rattle.announcement_theory.specs.Means.{bound, stage_from, stage_in, in_round, left_at, kept_of, meaning_of}
use Rattle.keeper.specs.declared.outcome.Outcome.TheVariants.{GoesOn, Accepted, Stale, Nothing, HandedOut}
use Rattle.keeper.specs.Effects.{OpenDone, PublishDone, CloseDone, StepDone}
use Rattle.announcement_theory.proofs.Lawful.{stage_at_is, mentioned_times}
use Rattle.announcement_theory.proofs.Effects.{begun, continues, gives_up, ends_open, unmoved, goes_on, leaves_off, openable}
use Rattle.announcement_theory.proofs.Openings.{helped_twice}
use Rattle.announcement_theory.proofs.Counts.{search_ends}
use Rattle.announcement_theory.proofs.Bound.{binds}
use Rattle.announcement_theory.proofs.Versions.{fills, empties, restates, accepts, hands_out}
use Rattle.announcement_theory.proofs.Steps.{local_at, ranged_at, seat_is, empty_at, plain_at}

-- what a step comes to is what a keeper owes
abbrev Does : State → ℕ → Stepped → Type 0
Does s p st = StepDone (meaning_of s) p (meaning_of st.after) st.outcome

in_round_less : (r : Round) (a b c d : ℕ) → a < c → b < d → in_round r a b < in_round r c d
in_round_less First a b c d h k = h
in_round_less Second a b c d h k = k

in_round_one : (r : Round) (a b : ℕ) → 1 < a → 1 < b → 1 < in_round r a b
in_round_one First a b h k = h
in_round_one Second a b h k = k

module _ (s : State) (g : Good s) (p : ℕ) (h : p < s.programs) where
  abbrev V : Mark
  V = s.current

  abbrev mine : Announcement
  mine = announced_at s p

  seat_at_is : (at : Position) → position_at s p ≡ at → seat_at s p ≡ seat at mine
  seat_at_is at e = seat_is s p at mine e refl

  -- beginnings
  pub opens_done : position_at s p ≡ Idle → OpenDone (meaning_of s) p (meaning_of (opens s p))
  opens_done e = begun s g p h (seat (Opening (attempt V.serial V) O1) mine) (sym (ap owned e)) (stage.Opening V.serial None)
      (ap (λ a. stage.Opening V.serial (bound a)) (empty_at s g p h Idle e refl)) 9 (omega arith)

  pub publishes_done : (r : ℕ) (v : Mark) → position_at s p ≡ Open v → PublishDone (meaning_of s) p r (meaning_of (publishes s p r))
  publishes_done r v e = begun s g p h (seat (Offering (offer r (version_had (position_at s p)) 0) F1) mine) (sym (ap owned e))
      (stage.Offering r (serial_of (stage_of (meaning_of s) p)))
      (ap (stage.Offering r) (ap (λ k. (version_had k).serial) e ∙ sym (ap serial_of (stage_at_is s p) ∙ ap (λ k. serial_of (stage_from mine k)) e)))
      (4 * s.programs + 2) (omega arith)

  closes_done_at : (at : Position) (v : Mark) → position_at s p ≡ at → owned at ≡ None → version_had at ≡ v → serial_of (stage_from mine at) ≡ v.serial
      → CloseDone (meaning_of s) p (meaning_of (closes s p))
  closes_done_at at v e free had serial = begun s g p h (seat (Closing (version_had (position_at s p)) C1) mine) (sym (ap owned e ∙ free))
      (stage.Closing (serial_of (stage_of (meaning_of s) p)))
      (ap stage.Closing (ap (λ k. (version_had k).serial) e ∙ ap (λ k. k.serial) had ∙ sym
      (ap serial_of (stage_at_is s p) ∙ ap (λ k. serial_of (stage_from mine k)) e ∙ serial)))
      (2 * s.programs + 5) (omega arith)

  pub closes_open_done : (v : Mark) → position_at s p ≡ Open v → CloseDone (meaning_of s) p (meaning_of (closes s p))
  closes_open_done v e = closes_done_at (Open v) v e refl refl refl

  pub closes_offered_done : (v : Mark) → position_at s p ≡ Offered v → CloseDone (meaning_of s) p (meaning_of (closes s p))
  closes_offered_done v e = closes_done_at (Offered v) v e refl refl refl

  -- an open goes on at another label
  on_opening : (at to : Position) → position_at s p ≡ at → owned at ≡ None → owned to ≡ None → stage_from mine to ≡ stage_from mine at
      → left_at s.programs to < left_at s.programs at → Does s p (goes s p to)
  on_opening at to e free none st fewer = goes_on s g p h (seat at mine) (seat to mine) (seat_at_is at e) (none ∙ sym free) st fewer

  -- an open ends on the version that it is bound to
  ends_bound : (at : Position) → position_at s p ≡ at → owned at ≡ None → (n : ℕ) → since at ≡ n →
      ((a : Announcement) → stage_from a at ≡ stage.Opening n (bound a))
      → (v : Mark) → mine ≡ announcement.Plain v → Does s p (opens_on s p mine)
  ends_bound at e free n since_is stage_is v a = subst (λ b. Does s p (opens_on s p b)) (sym a)
      (ends_open s g p h s new refl refl refl old was n (Some v.serial) v.serial (stage_is (announcement.Plain v)) refl
      (openable s g p v there (g.held p v a) n (subst (λ k. k ≤ v.serial) (ap since e ∙ since_is) (g.since p v there))) refl
      (unmoved s g p h old new was (sym free)))
    where
      old : Seat
      old = seat at (announcement.Plain v)

      new : Seat
      new = seat (Open v) (announcement.Plain v)

      was : seat_at s p ≡ seat at (announcement.Plain v)
      was = seat_is s p at (announcement.Plain v) e a

      there : Mentions (seat_at s p) v
      there = says_mentions s p v a

  o3_done : (n : ℕ) (u : Mark) → position_at s p ≡ Opening (attempt n u) O3 → (b : Bool) → asks u mine ≡ b
      → Does s p (cond b (opens_on s p (announcement.Plain u)) (opens_on s p mine))
  o3_done n u e true f =
      let a = asks_help u mine f in
      let old = seat (Opening (attempt n u) O3) (announcement.Help u) in
      let new = seat (Open u) (announcement.Plain u) in
      let was = seat_is s p (Opening (attempt n u) O3) (announcement.Help u) e a in
      let there = asks_mentions s p u a in
      let safe = g.valid p u (ap opener e) a in
      ends_open s g p h s new refl refl refl old was n None u.serial refl refl
      (openable s g p u there safe.0 n (subst (λ k. k ≤ u.serial) (ap since e) (g.since p u there))) tt
      (unmoved s g p h old new was refl)
  o3_done n u e false f =
      let b = asking_bound u mine (local_at s g p h (Opening (attempt n u) O3) e) f in
      ends_bound (Opening (attempt n u) O3) e refl n refl (λ a. refl) b.0 b.1

  o5_done : (n : ℕ) (u w : Mark) (r : Round) → position_at s p ≡ Opening (attempt n u) (O5 w r) → (b : Bool) → asks u mine ≡ b
      → Does s p (cond b (stepped (put s p (seat (Opening (attempt n w) (O6 r)) (announcement.Help w))) GoesOn) (opens_on s p mine))
  o5_done n u w r e true f = goes_on s g p h (seat (Opening (attempt n u) (O5 w r)) (announcement.Help u)) (seat (Opening (attempt n w) (O6 r)) (announcement.Help w))
      (seat_is s p (Opening (attempt n u) (O5 w r)) (announcement.Help u) e (asks_help u mine f)) refl refl (in_round_less r 5 2 6 3 (omega arith) (omega arith))
  o5_done n u w r e false f =
      let b = asking_bound u mine (local_at s g p h (Opening (attempt n u) (O5 w r)) e) f in
      ends_bound (Opening (attempt n u) (O5 w r)) e refl n refl (λ a. refl) b.0 b.1

  o2_done : (n : ℕ) (u : Mark) → position_at s p ≡ Opening (attempt n u) O2 → (b : Bool) → is_mark V u ≡ b → Does s p
      (cond b (goes s p (Opening (attempt n u) O3)) (goes s p (Opening (attempt n u) (O4 First))))
  o2_done n u e true c = on_opening (Opening (attempt n u) O2) (Opening (attempt n u) O3) e refl refl refl (omega arith)
  o2_done n u e false c = on_opening (Opening (attempt n u) O2) (Opening (attempt n u) (O4 First)) e refl refl refl (omega arith)

  again_done : (n : ℕ) (u : Mark) (r : Round) → position_at s p ≡ Opening (attempt n u) (O6 r) → is_mark V u ≡ false → Does s p (again s p n u r)
  again_done n u First e c = on_opening (Opening (attempt n u) (O6 First)) (Opening (attempt n u) (O4 Second)) e refl refl refl (omega arith)
  again_done n u Second e c =
      let b = helped_twice s g p h n u mine (seat_at_is (Opening (attempt n u) (O6 Second)) e) c in
      ends_bound (Opening (attempt n u) (O6 Second)) e refl n refl (λ a. refl) b.0 b.1

  o6_done : (n : ℕ) (u : Mark) (r : Round) → position_at s p ≡ Opening (attempt n u) (O6 r) → (b : Bool) → is_mark V u ≡ b → Does s p
      (cond b (goes s p (Opening (attempt n u) O3)) (again s p n u r))
  o6_done n u r e true c = on_opening (Opening (attempt n u) (O6 r)) (Opening (attempt n u) O3) e refl refl refl (in_round_one r 5 2 (omega arith) (omega arith))
  o6_done n u r e false c = again_done n u r e c

  -- over a version with the current serial, V is that version
  over_old : (over : Mark) → mine ≡ announcement.Plain over → is_mark V over ≡ false → over.serial ≡ V.serial → ⊥
  over_old over a c e = clash (is_mark V over) (same_mark V over (sym (current_only s g p over (says_mentions s p over a) (g.held p over a) e))) c

  f1_done : (r : ℕ) (over : Mark) (i : ℕ) → position_at s p ≡ Offering (offer r over i) F1 → (x : Option Stored) → slot_at s i ≡ x → Does s p (searches s p r over i x)
  f1_done r over i e = go
    where
      a : mine ≡ announcement.Plain over
      a = plain_at s g p h (Offering (offer r over i) F1) e over refl

      is : seat_at s p ≡ seat (Offering (offer r over i) F1) (announcement.Plain over)
      is = seat_is s p (Offering (offer r over i) F1) (announcement.Plain over) e a

      near : i ≤ 3 * s.programs
      near = leb-true i (3 * s.programs) (ranged_at s g p h (Offering (offer r over i) F1) e)

      go : (x : Option Stored) → slot_at s i ≡ x → Does s p (searches s p r over i x)
      go None f =
          let y = Some (stored (V.serial + 1) r Usable) in
          let new = seat (Offering (offer r over i) (F2 0)) mine in
          continues s g p h (fill s i y) new refl refl refl (seat (Offering (offer r over i) F1) mine) (seat_at_is (Offering (offer r over i) F1) e) refl (omega (arith, near))
          (fills s g p h i y new (omega (arith, near, g.sized.2))
          (λ (k : i ≡ V.slot). empty_usable (slot_at s V.slot) (ap (slot_at s) (sym k) ∙ f) g.current.1)
          (ap owned e) refl f)
      go (Some y) f = test (ltb i (3 * s.programs)) refl
        where
          full : filled (slot_at s i) ≡ true
          full = ap filled f

          test : (b : Bool) → ltb i (3 * s.programs) ≡ b → Does s p (cond b (goes s p (Offering (offer r over (i + 1)) F1)) (stepped (go_to s p (Offered over)) Stale))
          test true l = goes_on s g p h (seat (Offering (offer r over i) F1) mine) (seat (Offering (offer r over (i + 1)) F1) mine) (seat_at_is (Offering (offer r over i) F1) e) refl refl
              (omega (arith, near))
          test false l = gives_up s g p h s (seat (Offered over) mine) refl refl refl (seat (Offering (offer r over i) F1) mine)
              (seat_at_is (Offering (offer r over i) F1) e) r over refl refl
              (λ k. search_ends s g p h r over i is
              (same_mark over V (current_only s g p over (says_mentions s p over a) (g.held p over a) k)) full (ltb-false i (3 * s.programs) l))
              (unmoved s g p h (seat (Offering (offer r over i) F1) mine) (seat (Offered over) mine) (seat_at_is (Offering (offer r over i) F1) e) refl)

  -- an offer gives up, over an old version
  stale_done : (at : Position) (r : ℕ) (over : Mark) (i f : ℕ) → position_at s p ≡ at → offerer s.programs at ≡ owns r over i f
      → manner at ≡ holding over → ((a : Announcement) → stage_from a at ≡ stage.Offering r over.serial) → is_mark V over ≡ false → Does s p
      (stales s p over i)
  stale_done at r over i f e o m st c =
      let a = plain_at s g p h at e over m in
      let here : offerer s.programs (position_at s p) ≡ owns r over i f = ap (offerer s.programs) e ∙ o in
      let owned_here : owned (position_at s p) ≡ Some i = owner_owns s.programs (position_at s p) r over i f here in
      let good = g.own p r over i f here in
      let new = seat (Offered over) mine in
      gives_up s g p h (fill s i None) new refl refl refl (seat at mine) (seat_at_is at e) r over (st mine) refl (over_old over a c)
      (empties s g p h i None new (in_slots i good.0)
      (λ (k : i ≡ V.slot). g.current.3 p (owned_here ∙ ap {B = Option ℕ} Some k)) owned_here refl refl)
    where
      in_slots : (i : ℕ) → usable (slot_at s i) ≡ true → i < length s.slots
      in_slots i u = ⊎_elim (λ (l : i < length s.slots). l)
          (λ (b : length s.slots ≤ i). empty_usable (slot_at s i) (get_or_past s.slots i None b) u)
          (cases_lt i (length s.slots))

  f3_done : (r : ℕ) (over : Mark) (i : ℕ) → position_at s p ≡ Offering (offer r over i) F3 → (b : Bool) → is_mark V over ≡ b
      → Does s p (cond b
      (stepped (go_to (advance s (mark (serial_in (slot_at s i)) i)) p (Offered over)) (Accepted (serial_in (slot_at s i))))
      (stales s p over i))
  f3_done r over i e true c =
      let a = plain_at s g p h (Offering (offer r over i) F3) e over refl in
      subst (λ y. Does s p (stepped (put (advance s (mark (serial_in (slot_at s i)) i)) p (seat (Offered over) y)) (Accepted (serial_in (slot_at s i)))))
      (sym a)
      (accepts s g p h r over i (seat_is s p (Offering (offer r over i) F3) (announcement.Plain over) e a) (mark_flip over V ∙ c))
  f3_done r over i e false c = stale_done (Offering (offer r over i) F3) r over i s.programs e refl refl (λ a. refl) c

  -- the next program, or the next label after the last one
  next_done : {A : Type 0} (f : A → Position) (at : Position) (next last : A) (x : ℕ) → position_at s p ≡ at → owned (f next) ≡ owned at → owned (f last) ≡ owned at
      → stage_from mine (f next) ≡ stage_from mine at → stage_from mine (f last) ≡ stage_from mine at
      → (x + 1 < s.programs → left_at s.programs (f next) < left_at s.programs at)
      → (s.programs ≤ x + 1 → left_at s.programs (f last) < left_at s.programs at)
      → (b : Bool) → ltb (x + 1) s.programs ≡ b → Does s p (goes s p (f (cond b next last)))
  next_done f at next last x e o q st su less more true l = goes_on s g p h (seat at mine) (seat (f next) mine) (seat_at_is at e) o st
      (less (ltb-true (x + 1) s.programs l))
  next_done f at next last x e o q st su less more false l = goes_on s g p h (seat at mine) (seat (f last) mine) (seat_at_is at e) q su
      (more (ltb-false (x + 1) s.programs l))

  -- the same, after x was bound to w
  bind_done : {A : Type 0} (f : A → Position) (at : Position) (next last : A) (x : ℕ) (u w : Mark) → position_at s p ≡ at → x < s.programs → (x ≡ p → ⊥)
      → announced_at s x ≡ announcement.Help u
      → since (position_at s x) ≤ w.serial → w.serial ≤ V.serial → 0 < times w.serial (kept_of s)
      → owned (f next) ≡ owned at → owned (f last) ≡ owned at
      → ((a : Announcement) → stage_from a (f next) ≡ stage_from a at) → ((a : Announcement) → stage_from a (f last) ≡ stage_from a at)
      → (x + 1 < s.programs → left_at s.programs (f next) < left_at s.programs at)
      → (s.programs ≤ x + 1 → left_at s.programs (f last) < left_at s.programs at)
      → (b : Bool) → ltb (x + 1) s.programs ≡ b → Does s p (goes (announce s x (announcement.Plain w)) p (f (cond b next last)))
  bind_done f at next last x u w e l ne asked from to there o q st su less more b t =
      subst (λ a. Does s p (stepped (put (announce s x (announcement.Plain w)) p (seat (f (cond b next last)) a)) GoesOn)) (sym same) (go b t)
    where
      same : announced_at (announce s x (announcement.Plain w)) p ≡ mine
      same = ap (λ y. y.announced) (at_other s x (seat (position_at s x) (announcement.Plain w)) (omega (arith, l, g.sized.3)) p
          (λ (k : p ≡ x). ne (sym k)))

      go : (b : Bool) → ltb (x + 1) s.programs ≡ b → Does s p
          (stepped (put (announce s x (announcement.Plain w)) p (seat (f (cond b next last)) mine)) GoesOn)
      go true t = binds s g p h x l ne u w asked (seat at mine) (seat (f next) mine) (seat_at_is at e) o from to there (st mine)
          (less (ltb-true (x + 1) s.programs t))
      go false t = binds s g p h x l ne u w asked (seat at mine) (seat (f last) mine) (seat_at_is at e) q from to there (su mine)
          (more (ltb-false (x + 1) s.programs t))

  -- what x asks for lies between its beginning and now
  asked_range : (x : ℕ) (u : Mark) → announced_at s x ≡ announcement.Help u → (since (position_at s x) ≤ u.serial) × (u.serial ≤ V.serial)
  asked_range x u a = (g.since x u (asks_mentions s x u a), (g.seen x u (asks_mentions s x u a)).0)

  f2_done : (r : ℕ) (over : Mark) (i x : ℕ) → position_at s p ≡ Offering (offer r over i) (F2 x) → (b c : Bool) → flagged (announced_at s x) ≡ b → is_mark V over ≡ c
      → Does s p (cond b
      (cond c
      (goes (announce s x (announcement.Plain over)) p (Offering (offer r over i) (next_or s.programs x (F2 (x + 1)) F3)))
      (stales s p over i))
      (goes s p (Offering (offer r over i) (next_or s.programs x (F2 (x + 1)) F3))))
  f2_done r over i x e = go
    where
      a : mine ≡ announcement.Plain over
      a = plain_at s g p h (Offering (offer r over i) (F2 x)) e over refl

      below_all : x < s.programs
      below_all = ltb-true x s.programs (and_parts (leb i (3 * s.programs)) (ltb x s.programs) (ranged_at s g p h (Offering (offer r over i) (F2 x)) e)).1

      go : (b c : Bool) → flagged (announced_at s x) ≡ b → is_mark V over ≡ c
          → Does s p (cond b
          (cond c
          (goes (announce s x (announcement.Plain over)) p (Offering (offer r over i) (next_or s.programs x (F2 (x + 1)) F3)))
          (stales s p over i))
          (goes s p (Offering (offer r over i) (next_or s.programs x (F2 (x + 1)) F3))))
      go true true f c =
          let asked = flag_on (announced_at s x) f in
          let range = asked_range x asked.0 asked.1 in
          let is = mark_same V over c in
          let serial_is : V.serial ≡ over.serial = ap (λ v. v.serial) is in
          bind_done (Offering (offer r over i)) (Offering (offer r over i) (F2 x)) (F2 (x + 1)) F3 x asked.0 over e below_all
          (λ (k : x ≡ p). clash (flagged (announced_at s x)) f (ap (λ q. flagged (announced_at s q)) k ∙ ap flagged a))
          asked.1 (omega (arith, range.0, range.1)) (omega arith)
          (mentioned_times s g p over (says_mentions s p over a) (g.held p over a))
          refl refl (λ b. refl) (λ b. refl) (λ l. omega arith) (λ l. omega (arith, below_all)) (ltb (x + 1) s.programs) refl
      go true false f c = stale_done (Offering (offer r over i) (F2 x)) r over i x e refl refl (λ b. refl) c
      go false c f d = next_done (Offering (offer r over i)) (Offering (offer r over i) (F2 x)) (F2 (x + 1)) F3 x e refl refl refl refl
          (λ l. omega arith) (λ l. omega (arith, below_all)) (ltb (x + 1) s.programs) refl

  c4_done : (v : Mark) (x : ℕ) → position_at s p ≡ Closing v (C4 x) → (b : Bool) → asks v (announced_at s x) ≡ b
      → Does s p (cond b
      (goes (announce s x (announcement.Plain v)) p (Closing v (next_or s.programs x (C4 (x + 1)) C5)))
      (goes s p (Closing v (next_or s.programs x (C4 (x + 1)) C5))))
  c4_done v x e b f =
      let below_all : x < s.programs = ltb-true x s.programs (ranged_at s g p h (Closing v (C4 x)) e) in
      go b f below_all
    where
      a : mine ≡ announcement.Empty
      a = empty_at s g p h (Closing v (C4 x)) e refl

      go : (b : Bool) → asks v (announced_at s x) ≡ b → x < s.programs
          → Does s p (cond b
          (goes (announce s x (announcement.Plain v)) p (Closing v (next_or s.programs x (C4 (x + 1)) C5)))
          (goes s p (Closing v (next_or s.programs x (C4 (x + 1)) C5))))
      go true f below_all =
          let asked = asks_help v (announced_at s x) f in
          let range = asked_range x v asked in
          bind_done (Closing v) (Closing v (C4 x)) (C4 (x + 1)) C5 x v v e below_all
          (λ (k : x ≡ p). clash (asks v (announced_at s x)) f (ap (λ q. asks v (announced_at s q)) k ∙ ap (asks v) a))
          asked range.0 range.1
          (mentioned_times s g p v (inl (ap about e)) (g.pended p v x (ap (closer s.programs) e)).0)
          refl refl (λ b. refl) (λ b. refl) (λ l. omega arith) (λ l. omega arith) (ltb (x + 1) s.programs) refl
      go false f below_all = next_done (Closing v) (Closing v (C4 x)) (C4 (x + 1)) C5 x e refl refl refl refl
          (λ l. omega arith) (λ l. omega arith) (ltb (x + 1) s.programs) refl

  -- a close ends with nothing
  ends_close : (at : Position) (v : Mark) → position_at s p ≡ at → owned at ≡ None → ((a : Announcement) → stage_from a at ≡ stage.Closing v.serial)
      → Does s p (stepped (go_to s p Idle) Nothing)
  ends_close at v e free st = leaves_off s g p h (seat at mine) (seat Idle mine) (seat_at_is at e) (sym free) v.serial (st mine) refl

  c2_done : (v : Mark) → position_at s p ≡ Closing v C2 → (b : Bool) → is_mark V v ≡ b → Does s p (cond b (stepped (go_to s p Idle) Nothing) (goes s p (Closing v C3)))
  c2_done v e true c = ends_close (Closing v C2) v e refl (λ a. refl)
  c2_done v e false c = on_opening (Closing v C2) (Closing v C3) e refl refl refl (omega arith)

  c6_done : (v : Mark) (x : ℕ) → position_at s p ≡ Closing v (C6 x) → (b : Bool) → bears v (announced_at s x) ≡ b
      → Does s p (cond b (stepped (go_to s p Idle) Nothing) (goes s p (Closing v (next_or s.programs x (C6 (x + 1)) C7))))
  c6_done v x e true f = ends_close (Closing v (C6 x)) v e refl (λ a. refl)
  c6_done v x e false f =
      let below_all : x < s.programs = ltb-true x s.programs (ranged_at s g p h (Closing v (C6 x)) e) in
      next_done (Closing v) (Closing v (C6 x)) (C6 (x + 1)) C7 x e refl refl refl refl (λ l. omega arith) (λ l. omega arith) (ltb (x + 1) s.programs) refl

  -- a status changes, and the close goes on
  restate_done : (at to : Position) (v : Mark) (st : Status) → position_at s p ≡ at → Holds s v → owned at ≡ None → owned to ≡ None
      → stage_from mine to ≡ stage_from mine at
      → left_at s.programs to < left_at s.programs at → Does s p (goes (fill s v.slot (restated st (slot_at s v.slot))) p to)
  restate_done at to v st e t free none same fewer =
      continues s g p h (fill s v.slot (restated st (slot_at s v.slot))) (seat to mine) refl refl refl (seat at mine) (seat_at_is at e) same fewer
      (restates s g p h v.slot st (seat to mine) (holds_in_range s v t) (none ∙ sym (ap owned e ∙ free)))

  c3_done : (v : Mark) → position_at s p ≡ Closing v C3 → (x : Option Stored) → slot_at s v.slot ≡ x → Does s p (looks s p v x)
  c3_done v e = go
    where
      end : Does s p (stepped (go_to s p Idle) Nothing)
      end = ends_close (Closing v C3) v e refl (λ a. refl)

      go_on : (n r : ℕ) (st : Status) → slot_at s v.slot ≡ Some (stored n r st) → Does s p (looks_on s p v n r st)
      go_on n r Usable f = test (eqb n v.serial) refl
        where
          test : (b : Bool) → eqb n v.serial ≡ b → Does s p
              (cond b (goes (fill s v.slot (Some (stored n r Pending))) p (Closing v (C4 0))) (stepped (go_to s p Idle) Nothing))
          test true c = subst (λ y. Does s p (goes (fill s v.slot y) p (Closing v (C4 0)))) (ap (restated Pending) f)
              (restate_done (Closing v C3) (Closing v (C4 0)) v Pending e (ap (holds v) f ∙ c) refl refl refl (omega arith))
          test false c = end
      go_on n r Pending f = end
      go_on n r Frozen f = test (eqb n v.serial) refl
        where
          test : (b : Bool) → eqb n v.serial ≡ b → Does s p (cond b (goes s p (Closing v (C6 0))) (stepped (go_to s p Idle) Nothing))
          test true c = on_opening (Closing v C3) (Closing v (C6 0)) e refl refl refl (omega arith)
          test false c = end

      go : (x : Option Stored) → slot_at s v.slot ≡ x → Does s p (looks s p v x)
      go None f = end
      go (Some x) f = go_on x.serial x.root x.status f

  c7_done : (v : Mark) → position_at s p ≡ Closing v C7 → (x : Option Stored) → slot_at s v.slot ≡ x → Does s p (hands s p v x)
  c7_done v e = go
    where
      end : Does s p (stepped (go_to s p Idle) Nothing)
      end = ends_close (Closing v C7) v e refl (λ a. refl)

      go_on : (n r : ℕ) (st : Status) → slot_at s v.slot ≡ Some (stored n r st) → Does s p (hands_on s p v n st)
      go_on n r Usable f = end
      go_on n r Pending f = end
      go_on n r Frozen f = test (eqb n v.serial) refl
        where
          a : mine ≡ announcement.Empty
          a = empty_at s g p h (Closing v C7) e refl

          test : (b : Bool) → eqb n v.serial ≡ b → Does s p
              (cond b (stepped (go_to (fill s v.slot None) p Idle) (HandedOut v.serial)) (stepped (go_to s p Idle) Nothing))
          test true c = subst (λ y. Does s p (stepped (put (fill s v.slot None) p (seat Idle y)) (HandedOut v.serial))) (sym a)
              (hands_out s g p h v (seat_is s p (Closing v C7) announcement.Empty e a) (ap (holds v) f ∙ c) (ap frozen f))
          test false c = end

      go : (x : Option Stored) → slot_at s v.slot ≡ x → Does s p (hands s p v x)
      go None f = end
      go (Some x) f = go_on x.serial x.root x.status f

  done_at : (at : Position) → position_at s p ≡ at → moving (stage_from mine at) ≡ true → Does s p (step_at s p at)
  done_at (Opening t O1) e m = goes_on s g p h (seat (Opening t O1) announcement.Empty) (seat (Opening t O2) (announcement.Help t.u))
      (seat_is s p (Opening t O1) announcement.Empty e (empty_at s g p h (Opening t O1) e refl)) refl refl (omega arith)
  done_at (Opening t O2) e m = o2_done t.since t.u e (is_mark V t.u) refl
  done_at (Opening t O3) e m = o3_done t.since t.u e (asks t.u mine) refl
  done_at (Opening t (O4 r)) e m = on_opening (Opening t (O4 r)) (Opening t (O5 V r)) e refl refl refl (in_round_less r 6 3 7 4 (omega arith) (omega arith))
  done_at (Opening t (O5 w r)) e m = o5_done t.since t.u w r e (asks t.u mine) refl
  done_at (Opening t (O6 r)) e m = o6_done t.since t.u r e (is_mark V t.u) refl
  done_at (Offering o F1) e m = f1_done o.root o.over o.slot e (slot_at s o.slot) refl
  done_at (Offering o (F2 x)) e m = f2_done o.root o.over o.slot x e (flagged (announced_at s x)) (is_mark V o.over) refl refl
  done_at (Offering o F3) e m = f3_done o.root o.over o.slot e (is_mark V o.over) refl
  done_at (Closing v C1) e m = goes_on s g p h (seat (Closing v C1) mine) (seat (Closing v C2) announcement.Empty) (seat_at_is (Closing v C1) e) refl refl (omega arith)
  done_at (Closing v C2) e m = c2_done v e (is_mark V v) refl
  done_at (Closing v C3) e m = c3_done v e (slot_at s v.slot) refl
  done_at (Closing v (C4 x)) e m = c4_done v x e (asks v (announced_at s x)) refl
  done_at (Closing v C5) e m = restate_done (Closing v C5) (Closing v (C6 0)) v Frozen e (g.pended p v s.programs (ap (closer s.programs) e)).0 refl refl refl
      (omega arith)
  done_at (Closing v (C6 x)) e m = c6_done v x e (bears v (announced_at s x)) refl
  done_at (Closing v C7) e m = c7_done v e (slot_at s v.slot) refl
  done_at _ e m = false_true m

  -- a step where one is allowed has the effects that a keeper owes
  pub step_done : moving (stage_in (seat_at s p)) ≡ true → StepDone (meaning_of s) p (meaning_of (step s p).after) (step s p).outcome
  step_done m = done_at (position_at s p) refl m
