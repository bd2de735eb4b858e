-- Steps left are the steps of the longest way to an end.
use Rattle.std.proofs.Common.{◌≡◌, ℕ, zero, suc, ◌+◌, ◌-◌, ◌*◌, ◌<◌, ◌≤◌, max, Bool, true, false, cond, eqb, ltb, leb, List, [], ◌∷◌, map, length, replicate, is_some, Some, None, Option, sym, refl, ap, ◌∙◌, subst, inl, inr, arith, length-set}
use Rattle.std.proofs.lemmas.Bool.{eq-eqb, and_parts, ltb-true, ltb-false, leb-true}
use Rattle.std.proofs.lemmas.Bool.Decides.{nat_tests}
use Rattle.announcement_theory.specs.declared.mark.Mark.{Mark}
use Rattle.announcement_theory.specs.declared.slot.Status.{Status}
use Rattle.announcement_theory.specs.declared.slot.Status.TheVariants.{Usable, Pending, Frozen}
use Rattle.announcement_theory.specs.declared.slot.Stored.{Stored}
use Rattle.announcement_theory.specs.declared.announcement.Announcement.TheVariants as announcement
use Rattle.announcement_theory.specs.declared.position.Round.{Round}
use Rattle.announcement_theory.specs.declared.position.Round.TheVariants.{First, Second}
use Rattle.announcement_theory.specs.declared.position.Position.{Position}
use Rattle.announcement_theory.specs.declared.position.Position.TheVariants.{Idle, Opening, Open, Offering, Offered, Closing}
use Rattle.announcement_theory.specs.declared.position.OpenLabel.TheVariants.{O1, O2, O3, O4, O5, O6}
use Rattle.announcement_theory.specs.declared.position.OfferLabel.TheVariants.{F1, F2, F3}
use Rattle.announcement_theory.specs.declared.position.CloseLabel.TheVariants.{C1, C2, C3, C4, C5, C6, C7}
use Rattle.announcement_theory.specs.declared.seat.Seat.{Seat}
use Rattle.announcement_theory.specs.State.{State, mark, seat, stored, slot_at, position_at, announced_at, offer, attempt}
use Rattle.announcement_theory.specs.Tests.{is_mark, asks, bears, flagged, version_in, serial_in, restated}
use Rattle.announcement_theory.specs.Next.{put, fill, advance, go_to, announce, Stepped, goes, stepped, opens_on, stales, step_at, step, searches, looks, looks_on, hands, hands_on, again, next_or}
use Rattle.announcement_theory.proofs.Basics.{false_true, true_false, mark_self, at_same}
use Rattle.std.proofs.lemmas.List.{get_or-replicate}
use Rattle.keeper.specs.declared.outcome.Outcome.TheVariants.{GoesOn, Opened, Accepted, Stale, Nothing, HandedOut}
use Rattle.announcement_theory.specs.Means.{left_at, label_of, in_round}
use Rattle.announcement_theory.specs.Longest.{rounds, successors, Among, largest, Leads, Longest, Ended, Way, Reaches}

round_left : (all n : ℕ) (c u : Mark) (r : Round) → in_round r 5 2 ≡ 1 + largest (map (left_at all) (rounds n u r))
round_left all n c u First = refl
round_left all n c u Second = refl

-- the next program, or the last label
next_left : {A : Type 0} (left : A → ℕ) (all x a b : ℕ) (next last : A) → x < all → (x + 1 < all → left next ≡ a) → (all ≤ x + 1 → left last ≡ a)
    → b ≡ 1 + a → b ≡ 1 + largest (left (next_or all x next last) ∷ [])
next_left left all x a b next last h less more e = go (ltb (x + 1) all) refl
  where
    go : (t : Bool) → ltb (x + 1) all ≡ t → b ≡ 1 + max (left (cond t next last)) 0
    go true t = omega (arith, less (ltb-true (x + 1) all t))
    go false t = omega (arith, more (ltb-false (x + 1) all t))

search_left : (all r : ℕ) (over : Mark) (i : ℕ) → i ≤ 3 * all → (b : Bool) → ltb i (3 * all) ≡ b
    → 4 * all + 2 - i ≡ 1 + max (all + 1 - 0) (largest (map (left_at all) (cond b (Offering (offer r over (i + 1)) F1 ∷ []) [])))
search_left all r over i h true e = omega (arith, ltb-true i (3 * all) e)
search_left all r over i h false e = omega (arith, ltb-false i (3 * all) e)

pub longest : Longest
longest all c Idle l m = false_true m
longest all c (Opening t O1) l m = refl
longest all c (Opening t O2) l m = refl
longest all c (Opening t O3) l m = refl
longest all c (Opening t (O4 First)) l m = refl
longest all c (Opening t (O4 Second)) l m = refl
longest all c (Opening t (O5 w First)) l m = refl
longest all c (Opening t (O5 w Second)) l m = refl
longest all c (Opening t (O6 r)) l m = round_left all t.since c t.u r
longest all c (Open v) l m = false_true m
longest all c (Offering o F1) l m = search_left all o.root o.over o.slot (leb-true o.slot (3 * all) l) (ltb o.slot (3 * all)) refl
longest all c (Offering o (F2 x)) l m =
    let h : x < all = ltb-true x all (and_parts (leb o.slot (3 * all)) (ltb x all) l).1 in
    next_left (λ at. left_at all (Offering o at)) all x (all - x) (all + 1 - x) (F2 (x + 1)) F3 h (λ k. omega arith) (λ k. omega arith) (omega arith)
longest all c (Offering o F3) l m = refl
longest all c (Offered v) l m = false_true m
longest all c (Closing v (C4 x)) l m =
    let h : x < all = ltb-true x all l in
    next_left (λ at. left_at all (Closing v at)) all x (2 * all + 1 - x) (2 * all + 2 - x) (C4 (x + 1)) C5 h (λ k. omega arith) (λ k. omega arith) (omega arith)
longest all c (Closing v (C6 x)) l m =
    let h : x < all = ltb-true x all l in
    next_left (λ at. left_at all (Closing v at)) all x (all - x) (all + 1 - x) (C6 (x + 1)) C7 h (λ k. omega arith) (λ k. omega arith) (omega arith)
longest all c (Closing v _) l m = omega arith

pub ended : Ended
ended all Idle m = refl
ended all (Open v) m = refl
ended all (Offered v) m = refl
ended all _ m = true_false m

-- outcomes that end an operation
opened_ends : (n : ℕ) → Opened n ≡ GoesOn → ⊥
opened_ends n e = let z : ◌≡◌ {A = ℕ} 0 1 = cc in omega arith

accepted_ends : (n : ℕ) → Accepted n ≡ GoesOn → ⊥
accepted_ends n e = let z : ◌≡◌ {A = ℕ} 0 1 = cc in omega arith

handed_ends : (n : ℕ) → HandedOut n ≡ GoesOn → ⊥
handed_ends n e = let z : ◌≡◌ {A = ℕ} 0 1 = cc in omega arith

stale_ends : Stale ≡ GoesOn → ⊥
stale_ends e = let z : ◌≡◌ {A = ℕ} 0 1 = cc in omega arith

nothing_ends : Nothing ≡ GoesOn → ⊥
nothing_ends e = let z : ◌≡◌ {A = ℕ} 0 1 = cc in omega arith

module _ (s : State) (p : ℕ) (h : p < length s.seats) where
  -- a step that goes on leads into the list
  abbrev Into : Stepped → List Position → Type 0
  Into st l = st.outcome ≡ GoesOn → Among (position_at st.after p) l

  there : (t : State) (x : Seat) → p < length t.seats → position_at (put t p x) p ≡ x.position
  there t x k = ap (λ y. y.position) (at_same t p x k)

  into_again : (n : ℕ) (u : Mark) (r : Round) → Into (again s p n u r) (rounds n u r)
  into_again n u First e = inr (inl (there s (seat (Opening (attempt n u) (O4 Second)) (announced_at s p)) h))
  into_again n u Second e = absurd (opened_ends (version_in (announced_at s p)).serial e)

  into_o6 : (n : ℕ) (u : Mark) (r : Round) (b : Bool) → Into (cond b (goes s p (Opening (attempt n u) O3)) (again s p n u r)) (rounds n u r)
  into_o6 n u First true e = inl (there s (seat (Opening (attempt n u) O3) (announced_at s p)) h)
  into_o6 n u Second true e = inl (there s (seat (Opening (attempt n u) O3) (announced_at s p)) h)
  into_o6 n u r false e = into_again n u r e

  into_o2 : (n : ℕ) (u : Mark) (b : Bool) → Into (cond b (goes s p (Opening (attempt n u) O3)) (goes s p (Opening (attempt n u) (O4 First)))) (Opening (attempt n u) O3 ∷ Opening (attempt n u) (O4 First) ∷ [])
  into_o2 n u true e = inl (there s (seat (Opening (attempt n u) O3) (announced_at s p)) h)
  into_o2 n u false e = inr (inl (there s (seat (Opening (attempt n u) (O4 First)) (announced_at s p)) h))

  into_o3 : (u : Mark) (b : Bool) → Into (cond b (opens_on s p (announcement.Plain u)) (opens_on s p (announced_at s p))) []
  into_o3 u true e = opened_ends u.serial e
  into_o3 u false e = opened_ends (version_in (announced_at s p)).serial e

  into_o5 : (n : ℕ) (w : Mark) (r : Round) (b : Bool)
      → Into (cond b (stepped (put s p (seat (Opening (attempt n w) (O6 r)) (announcement.Help w))) GoesOn) (opens_on s p (announced_at s p))) (Opening (attempt n w) (O6 r) ∷ [])
  into_o5 n w r true e = inl (there s (seat (Opening (attempt n w) (O6 r)) (announcement.Help w)) h)
  into_o5 n w r false e = absurd (opened_ends (version_in (announced_at s p)).serial e)

  into_f1 : (r : ℕ) (over : Mark) (i : ℕ) (x : Option Stored) → Into (searches s p r over i x)
      (Offering (offer r over i) (F2 0) ∷ cond (ltb i (3 * s.programs)) (Offering (offer r over (i + 1)) F1 ∷ []) [])
  into_f1 r over i None e = inl (there (fill s i (Some (stored (s.current.serial + 1) r Usable))) (seat (Offering (offer r over i) (F2 0)) (announced_at s p)) h)
  into_f1 r over i (Some x) f = go (ltb i (3 * s.programs)) f
    where
      go : (b : Bool) → Into (cond b (goes s p (Offering (offer r over (i + 1)) F1)) (stepped (go_to s p (Offered over)) Stale))
          (Offering (offer r over i) (F2 0) ∷ cond b (Offering (offer r over (i + 1)) F1 ∷ []) [])
      go true e = inr (inl (there s (seat (Offering (offer r over (i + 1)) F1) (announced_at s p)) h))
      go false e = absurd (stale_ends e)

  into_f2 : (over : Mark) (i x : ℕ) (next : Position) (b c : Bool)
      → Into (cond b (cond c (goes (announce s x (announcement.Plain over)) p next) (stales s p over i)) (goes s p next)) (next ∷ [])
  into_f2 over i x next true true e =
      let t = announce s x (announcement.Plain over) in
      inl (there t (seat next (announced_at t p)) (simp length-set h))
  into_f2 over i x next true false e = absurd (stale_ends e)
  into_f2 over i x next false c e = inl (there s (seat next (announced_at s p)) h)

  into_f3 : (over : Mark) (i : ℕ) (b : Bool)
      → Into (cond b (stepped (go_to (advance s (mark (serial_in (slot_at s i)) i)) p (Offered over)) (Accepted (serial_in (slot_at s i))))
      (stales s p over i)) []
  into_f3 over i true e = accepted_ends (serial_in (slot_at s i)) e
  into_f3 over i false e = stale_ends e

  into_c2 : (v : Mark) (b : Bool) → Into (cond b (stepped (go_to s p Idle) Nothing) (goes s p (Closing v C3))) (Closing v C3 ∷ [])
  into_c2 v true e = absurd (nothing_ends e)
  into_c2 v false e = inl (there s (seat (Closing v C3) (announced_at s p)) h)

  into_c3_on : (v : Mark) (n r : ℕ) (st : Status) → Into (looks_on s p v n r st) (Closing v (C4 0) ∷ Closing v (C6 0) ∷ [])
  into_c3_on v n r Usable f = go (eqb n v.serial) f
    where
      go : (b : Bool) → Into (cond b (goes (fill s v.slot (Some (stored n r Pending))) p (Closing v (C4 0))) (stepped (go_to s p Idle) Nothing))
          (Closing v (C4 0) ∷ Closing v (C6 0) ∷ [])
      go true e = inl (there (fill s v.slot (Some (stored n r Pending))) (seat (Closing v (C4 0)) (announced_at s p)) h)
      go false e = absurd (nothing_ends e)
  into_c3_on v n r Pending e = absurd (nothing_ends e)
  into_c3_on v n r Frozen f = go (eqb n v.serial) f
    where
      go : (b : Bool) → Into (cond b (goes s p (Closing v (C6 0))) (stepped (go_to s p Idle) Nothing)) (Closing v (C4 0) ∷ Closing v (C6 0) ∷ [])
      go true e = inr (inl (there s (seat (Closing v (C6 0)) (announced_at s p)) h))
      go false e = absurd (nothing_ends e)

  into_c3 : (v : Mark) (x : Option Stored) → Into (looks s p v x) (Closing v (C4 0) ∷ Closing v (C6 0) ∷ [])
  into_c3 v None e = absurd (nothing_ends e)
  into_c3 v (Some x) e = into_c3_on v x.serial x.root x.status e

  into_c4 : (v : Mark) (x : ℕ) (next : Position) (b : Bool) → Into (cond b (goes (announce s x (announcement.Plain v)) p next) (goes s p next))
      (next ∷ [])
  into_c4 v x next true e =
      let t = announce s x (announcement.Plain v) in
      inl (there t (seat next (announced_at t p)) (simp length-set h))
  into_c4 v x next false e = inl (there s (seat next (announced_at s p)) h)

  into_c6 : (next : Position) (b : Bool) → Into (cond b (stepped (go_to s p Idle) Nothing) (goes s p next)) (next ∷ [])
  into_c6 next true e = absurd (nothing_ends e)
  into_c6 next false e = inl (there s (seat next (announced_at s p)) h)

  into_c7_on : (v : Mark) (n : ℕ) (st : Status) → Into (hands_on s p v n st) []
  into_c7_on v n Usable e = nothing_ends e
  into_c7_on v n Pending e = nothing_ends e
  into_c7_on v n Frozen f = go (eqb n v.serial) f
    where
      go : (b : Bool) → Into (cond b (stepped (go_to (fill s v.slot None) p Idle) (HandedOut v.serial))
          (stepped (go_to s p Idle) Nothing)) []
      go true e = handed_ends v.serial e
      go false e = nothing_ends e

  into_c7 : (v : Mark) (x : Option Stored) → Into (hands s p v x) []
  into_c7 v None e = nothing_ends e
  into_c7 v (Some x) e = into_c7_on v x.serial x.status e

  into : (at : Position) → is_some (label_of at) ≡ true → Into (step_at s p at) (successors s.programs s.current at)
  into (Opening t O1) m = λ e. inl (there s (seat (Opening t O2) (announcement.Help t.u)) h)
  into (Opening t O2) m = into_o2 t.since t.u (is_mark s.current t.u)
  into (Opening t O3) m = into_o3 t.u (asks t.u (announced_at s p))
  into (Opening t (O4 r)) m = λ e. inl (there s (seat (Opening t (O5 s.current r)) (announced_at s p)) h)
  into (Opening t (O5 w r)) m = into_o5 t.since w r (asks t.u (announced_at s p))
  into (Opening t (O6 r)) m = into_o6 t.since t.u r (is_mark s.current t.u)
  into (Offering o F1) m = into_f1 o.root o.over o.slot (slot_at s o.slot)
  into (Offering o (F2 x)) m = into_f2 o.over o.slot x (Offering o (next_or s.programs x (F2 (x + 1)) F3)) (flagged (announced_at s x))
      (is_mark s.current o.over)
  into (Offering o F3) m = into_f3 o.over o.slot (is_mark s.current o.over)
  into (Closing v C1) m = λ e. inl (there s (seat (Closing v C2) announcement.Empty) h)
  into (Closing v C2) m = into_c2 v (is_mark s.current v)
  into (Closing v C3) m = into_c3 v (slot_at s v.slot)
  into (Closing v (C4 x)) m = into_c4 v x (Closing v (next_or s.programs x (C4 (x + 1)) C5)) (asks v (announced_at s x))
  into (Closing v C5) m = λ e. inl (there (fill s v.slot (restated Frozen (slot_at s v.slot))) (seat (Closing v (C6 0)) (announced_at s p)) h)
  into (Closing v (C6 x)) m = into_c6 (Closing v (next_or s.programs x (C6 (x + 1)) C7)) (bears v (announced_at s x))
  into (Closing v C7) m = into_c7 v (slot_at s v.slot)
  into _ m = false_true m

pub leads : Leads
leads s p h m e = into s p h (position_at s p) m e

-- a state with one program in sight
abbrev lone : ℕ → Mark → List (Option Stored) → Seat → State
lone all c slots x = record { programs = all; last = 0; current = c; slots = slots; seats = x ∷ [] }

-- another version than v
abbrev other : Mark → Mark
other v = mark (v.serial + 1) v.slot

other_is : (v : Mark) → is_mark (other v) v ≡ false
other_is v = grind (arith, nat_tests)

-- all announcements are empty
quiet : (all : ℕ) (c : Mark) (slots : List (Option Stored)) (at : Position) (x : ℕ) → announced_at
    (lone all c slots (seat at announcement.Empty)) x ≡ announcement.Empty
quiet all c slots at zero = refl
quiet all c slots at (suc x) = refl

-- a way from a step whose test is known
way : (all : ℕ) (from to : Position) (s : State) → s.programs ≡ all → position_at s 0 ≡ from → (st : Stepped) → step s 0 ≡ st → st.outcome ≡ GoesOn
    → position_at st.after 0 ≡ to → Way all from to
way all from to s a b st e f g = record {
  state = s;
  programs = a;
  stands = b;
  goes = ap (λ x. x.outcome) e ∙ f;
  leads = ap (λ x. position_at x.after 0) e ∙ g;
}

-- the one successor, or one of two
only_to : {all : ℕ} {at next : Position} → Way all at next → (to : Position) → Among to (next ∷ []) → Way all at to
only_to {all = all} {at = at} way to (inl e) = subst (Way all at) (sym e) way
only_to way to (inr m) = absurd m

either_to : {all : ℕ} {at next other : Position} → Way all at next → Way all at other → (to : Position) → Among to (next ∷ other ∷ []) → Way all at to
either_to {all = all} {at = at} way also to (inl e) = subst (Way all at) (sym e) way
either_to way also to (inr m) = only_to also to m

module _ (all : ℕ) where
  way_o2_o3 : (n : ℕ) (u : Mark) → Way all (Opening (attempt n u) O2) (Opening (attempt n u) O3)
  way_o2_o3 n u =
      let s = lone all u [] (seat (Opening (attempt n u) O2) announcement.Empty) in
      way all (Opening (attempt n u) O2) (Opening (attempt n u) O3) s refl refl (goes s 0 (Opening (attempt n u) O3))
      (ap (λ b. cond b (goes s 0 (Opening (attempt n u) O3)) (goes s 0 (Opening (attempt n u) (O4 First)))) (mark_self u)) refl refl

  way_o2_o4 : (n : ℕ) (u : Mark) → Way all (Opening (attempt n u) O2) (Opening (attempt n u) (O4 First))
  way_o2_o4 n u =
      let s = lone all (other u) [] (seat (Opening (attempt n u) O2) announcement.Empty) in
      way all (Opening (attempt n u) O2) (Opening (attempt n u) (O4 First)) s refl refl (goes s 0 (Opening (attempt n u) (O4 First)))
      (ap (λ b. cond b (goes s 0 (Opening (attempt n u) O3)) (goes s 0 (Opening (attempt n u) (O4 First)))) (other_is u)) refl refl

  way_o5 : (n : ℕ) (u w : Mark) (r : Round) → Way all (Opening (attempt n u) (O5 w r)) (Opening (attempt n w) (O6 r))
  way_o5 n u w r =
      let s = lone all u [] (seat (Opening (attempt n u) (O5 w r)) (announcement.Help u)) in
      let on : Stepped = stepped (put s 0 (seat (Opening (attempt n w) (O6 r)) (announcement.Help w))) GoesOn in
      way all (Opening (attempt n u) (O5 w r)) (Opening (attempt n w) (O6 r)) s refl refl on (ap (λ b. cond b on (opens_on s 0 (announcement.Help u))) (mark_self u)) refl refl

  way_o6_o3 : (n : ℕ) (u : Mark) (r : Round) → Way all (Opening (attempt n u) (O6 r)) (Opening (attempt n u) O3)
  way_o6_o3 n u r =
      let s = lone all u [] (seat (Opening (attempt n u) (O6 r)) announcement.Empty) in
      way all (Opening (attempt n u) (O6 r)) (Opening (attempt n u) O3) s refl refl (goes s 0 (Opening (attempt n u) O3)) (ap (λ b. cond b (goes s 0 (Opening (attempt n u) O3)) (again s 0 n u r)) (mark_self u)) refl refl

  way_o6_o4 : (n : ℕ) (u : Mark) → Way all (Opening (attempt n u) (O6 First)) (Opening (attempt n u) (O4 Second))
  way_o6_o4 n u =
      let s = lone all (other u) [] (seat (Opening (attempt n u) (O6 First)) announcement.Empty) in
      way all (Opening (attempt n u) (O6 First)) (Opening (attempt n u) (O4 Second)) s refl refl (goes s 0 (Opening (attempt n u) (O4 Second)))
      (ap (λ b. cond b (goes s 0 (Opening (attempt n u) O3)) (again s 0 n u First)) (other_is u)) refl refl

  way_rounds : (n : ℕ) (u : Mark) (r : Round) (to : Position) → Among to (rounds n u r) → Way all (Opening (attempt n u) (O6 r)) to
  way_rounds n u First to m = either_to (way_o6_o3 n u First) (way_o6_o4 n u) to m
  way_rounds n u Second to m = only_to (way_o6_o3 n u Second) to m

  way_f1_f1 : (r : ℕ) (over : Mark) (i : ℕ) → ltb i (3 * all) ≡ true → Way all (Offering (offer r over i) F1) (Offering (offer r over (i + 1)) F1)
  way_f1_f1 r over i l =
      let full = Some (stored 0 0 Usable) in
      let s = lone all over (replicate (suc i) full) (seat (Offering (offer r over i) F1) announcement.Empty) in
      way all (Offering (offer r over i) F1) (Offering (offer r over (i + 1)) F1) s refl refl (goes s 0 (Offering (offer r over (i + 1)) F1))
      (ap (searches s 0 r over i) (get_or-replicate (suc i) i full None (omega arith))
      ∙ ap (λ b. cond b (goes s 0 (Offering (offer r over (i + 1)) F1)) (stepped (go_to s 0 (Offered over)) Stale)) l) refl refl

  way_f1_f2 : (r : ℕ) (over : Mark) (i : ℕ) → Way all (Offering (offer r over i) F1) (Offering (offer r over i) (F2 0))
  way_f1_f2 r over i =
      let s = lone all over [] (seat (Offering (offer r over i) F1) announcement.Empty) in
      way all (Offering (offer r over i) F1) (Offering (offer r over i) (F2 0)) s refl refl (step s 0) refl refl refl

  way_f1 : (r : ℕ) (over : Mark) (i : ℕ) (to : Position) (b : Bool) → ltb i (3 * all) ≡ b
      → Among to (Offering (offer r over i) (F2 0) ∷ cond b (Offering (offer r over (i + 1)) F1 ∷ []) []) → Way all (Offering (offer r over i) F1) to
  way_f1 r over i to true l m = either_to (way_f1_f2 r over i) (way_f1_f1 r over i l) to m
  way_f1 r over i to false l m = only_to (way_f1_f2 r over i) to m

  way_f2 : (r : ℕ) (over : Mark) (i x : ℕ) → Way all (Offering (offer r over i) (F2 x)) (Offering (offer r over i) (next_or all x (F2 (x + 1)) F3))
  way_f2 r over i x =
      let at = Offering (offer r over i) (F2 x) in
      let next = Offering (offer r over i) (next_or all x (F2 (x + 1)) F3) in
      let s = lone all over [] (seat at announcement.Empty) in
      way all at next s refl refl (goes s 0 next)
      (ap (λ a. cond (flagged a) (cond (is_mark over over) (goes (announce s x (announcement.Plain over)) 0 next) (stales s 0 over i)) (goes s 0 next))
      (quiet all over [] at x)) refl refl

  way_c2 : (v : Mark) → Way all (Closing v C2) (Closing v C3)
  way_c2 v =
      let s = lone all (other v) [] (seat (Closing v C2) announcement.Empty) in
      way all (Closing v C2) (Closing v C3) s refl refl (goes s 0 (Closing v C3))
      (ap (λ b. cond b (stepped (go_to s 0 Idle) Nothing) (goes s 0 (Closing v C3))) (other_is v)) refl refl

  way_c3_c4 : (v : Mark) → Way all (Closing v C3) (Closing v (C4 0))
  way_c3_c4 v =
      let held = Some (stored v.serial 0 Usable) in
      let s = lone all v (replicate (suc v.slot) held) (seat (Closing v C3) announcement.Empty) in
      let on : Stepped = goes (fill s v.slot (Some (stored v.serial 0 Pending))) 0 (Closing v (C4 0)) in
      way all (Closing v C3) (Closing v (C4 0)) s refl refl on
      (ap (looks s 0 v) (get_or-replicate (suc v.slot) v.slot held None (omega arith))
      ∙ ap (λ b. cond b on (stepped (go_to s 0 Idle) Nothing)) (eq-eqb v.serial v.serial refl)) refl refl

  way_c3_c6 : (v : Mark) → Way all (Closing v C3) (Closing v (C6 0))
  way_c3_c6 v =
      let held = Some (stored v.serial 0 Frozen) in
      let s = lone all v (replicate (suc v.slot) held) (seat (Closing v C3) announcement.Empty) in
      way all (Closing v C3) (Closing v (C6 0)) s refl refl (goes s 0 (Closing v (C6 0)))
      (ap (looks s 0 v) (get_or-replicate (suc v.slot) v.slot held None (omega arith))
      ∙ ap (λ b. cond b (goes s 0 (Closing v (C6 0))) (stepped (go_to s 0 Idle) Nothing)) (eq-eqb v.serial v.serial refl)) refl refl

  way_c4 : (v : Mark) (x : ℕ) → Way all (Closing v (C4 x)) (Closing v (next_or all x (C4 (x + 1)) C5))
  way_c4 v x =
      let next = Closing v (next_or all x (C4 (x + 1)) C5) in
      let s = lone all v [] (seat (Closing v (C4 x)) announcement.Empty) in
      way all (Closing v (C4 x)) next s refl refl (goes s 0 next)
      (ap (λ a. cond (asks v a) (goes (announce s x (announcement.Plain v)) 0 next) (goes s 0 next)) (quiet all v [] (Closing v (C4 x)) x)) refl refl

  way_c6 : (v : Mark) (x : ℕ) → Way all (Closing v (C6 x)) (Closing v (next_or all x (C6 (x + 1)) C7))
  way_c6 v x =
      let next = Closing v (next_or all x (C6 (x + 1)) C7) in
      let s = lone all v [] (seat (Closing v (C6 x)) announcement.Empty) in
      way all (Closing v (C6 x)) next s refl refl (goes s 0 next)
      (ap (λ a. cond (bears v a) (stepped (go_to s 0 Idle) Nothing) (goes s 0 next)) (quiet all v [] (Closing v (C6 x)) x)) refl refl

  -- a label whose step has no test
  way_straight : (c : Mark) (from to : Position) →
      (let s = lone all c [] (seat from announcement.Empty) in ((step s 0).outcome ≡ GoesOn) × (position_at (step s 0).after 0 ≡ to)) → Way all from to
  way_straight c from to k =
      let s = lone all c [] (seat from announcement.Empty) in
      way all from to s refl refl (step s 0) refl k.0 k.1

pub reaches : Reaches
reaches all c (Opening t O1) to m = only_to (way_straight all c (Opening t O1) (Opening t O2) (refl, refl)) to m
reaches all c (Opening t O2) to m = either_to (way_o2_o3 all t.since t.u) (way_o2_o4 all t.since t.u) to m
reaches all c (Opening t (O4 r)) to m = only_to (way_straight all c (Opening t (O4 r)) (Opening t (O5 c r)) (refl, refl)) to m
reaches all c (Opening t (O5 w r)) to m = only_to (way_o5 all t.since t.u w r) to m
reaches all c (Opening t (O6 r)) to m = way_rounds all t.since t.u r to m
reaches all c (Offering o F1) to m = way_f1 all o.root o.over o.slot to (ltb o.slot (3 * all)) refl m
reaches all c (Offering o (F2 x)) to m = only_to (way_f2 all o.root o.over o.slot x) to m
reaches all c (Closing v C1) to m = only_to (way_straight all c (Closing v C1) (Closing v C2) (refl, refl)) to m
reaches all c (Closing v C2) to m = only_to (way_c2 all v) to m
reaches all c (Closing v C3) to m = either_to (way_c3_c4 all v) (way_c3_c6 all v) to m
reaches all c (Closing v (C4 x)) to m = only_to (way_c4 all v x) to m
reaches all c (Closing v C5) to m = only_to (way_straight all c (Closing v C5) (Closing v (C6 0)) (refl, refl)) to m
reaches all c (Closing v (C6 x)) to m = only_to (way_c6 all v x) to m
reaches all c _ to m = absurd m
