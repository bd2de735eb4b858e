-- The search for an empty slot: every filled slot is accounted for, and over the current version not all slots are filled.
use Rattle.std.proofs.Common.{◌≡◌, ℕ, zero, suc, ◌+◌, ◌*◌, ◌<◌, ◌≤◌, Bool, true, false, cond, List, [], ◌∷◌, length, get_or, Some, None, Option, sym, refl, ap, ◌∙◌, subst, ⊎_elim, arith}
use Rattle.std.proofs.lemmas.Bool.{cases_lt, cases_Bool}
use Rattle.std.proofs.lemmas.Bool.Decides.{nat_tests}
use Rattle.std.proofs.lemmas.Option.{same_Some}
use Rattle.keeper.specs.Totals.{total}
use Rattle.announcement_theory.specs.declared.mark.Mark.{Mark}
use Rattle.announcement_theory.specs.declared.announcement.Announcement.{Announcement}
use Rattle.announcement_theory.specs.declared.announcement.Announcement.TheVariants as announcement
use Rattle.announcement_theory.specs.declared.position.Position.{Position}
use Rattle.announcement_theory.specs.declared.position.Position.TheVariants.{Opening, Open, Offering, Offered, Closing}
use Rattle.announcement_theory.specs.declared.position.OpenLabel.TheVariants.{O1}
use Rattle.announcement_theory.specs.declared.position.OfferLabel.TheVariants.{F1}
use Rattle.announcement_theory.specs.declared.position.CloseLabel.TheVariants.{C1}
use Rattle.announcement_theory.specs.declared.seat.Seat.{Seat}
use Rattle.announcement_theory.specs.State.{State, mark, seat, unseated, slot_at, seat_at, position_at, announced_at, offer}
use Rattle.announcement_theory.specs.Tests.{is_mark, filled, serial_in}
use Rattle.announcement_theory.specs.Views.{manner, fits, offerer, owned, closer}
use Rattle.announcement_theory.specs.Shares.{Past, whole, hopes, lost, uses, done, below, used, share_of, owned_below, share, accounted, past_of}
use Rattle.announcement_theory.specs.Invariant.{waits, Good}
use Rattle.announcement_theory.proofs.Basics.{false_true, none_some, mark_same, beyond}
use Rattle.announcement_theory.proofs.Roles.{closed}
use Rattle.announcement_theory.proofs.Stay.{stay}
use Rattle.announcement_theory.proofs.Shared.{below_most, used_most}
use Rattle.announcement_theory.proofs.Waiting.{waits_how}

-- sums
total_level : {A : Type 0} (f g : A → ℕ) → ((x : A) → f x ≤ g x) → (xs : List A) → total g xs ≤ total f xs → (total f xs ≡ total g xs) ×
    ((q : ℕ) (d : A) → q < length xs → g (get_or xs q d) ≡ f (get_or xs q d))
total_level f g up [] h = (refl, λ q d l. absurd (omega arith))
total_level f g up (x ∷ xs) h =
    let low : total f xs ≤ total g xs = total_up f g up xs in
    let rest = total_level f g up xs (omega (arith, up x)) in
    (omega (arith, up x, rest.0), λ q d l. at q d l (omega (arith, up x, rest.0)) rest.1)
  where
    total_up : {A : Type 0} (f g : A → ℕ) → ((x : A) → f x ≤ g x) → (xs : List A) → total f xs ≤ total g xs
    total_up f g up [] = omega arith
    total_up f g up (x ∷ xs) = omega (arith, up x, total_up f g up xs)

    at : (q : ℕ) (d : _) → q < suc (length xs) → g x ≡ f x → ((q : ℕ) (d : _) → q < length xs → g (get_or xs q d) ≡ f (get_or xs q d)) → g
        (get_or (x ∷ xs) q d) ≡ f (get_or (x ∷ xs) q d)
    at zero d l e r = e
    at (suc q) d l e r = r q d (omega arith)

total_cap : {A : Type 0} (f : A → ℕ) → ((x : A) → f x ≤ 3) → (xs : List A) → total f xs ≤ 3 * length xs
total_cap f cap [] = omega arith
total_cap f cap (x ∷ xs) = omega (arith, cap x, total_cap f cap xs)

total_under : {A : Type 0} (f : A → ℕ) → ((x : A) → f x ≤ 3) → (xs : List A) (p : ℕ) (d : A) → p < length xs → f (get_or xs p d) ≤ 2
    → total f xs + 1 ≤ 3 * length xs
total_under f cap [] p d h k = absurd (omega arith)
total_under f cap (x ∷ xs) zero d h k = omega (arith, total_cap f cap xs)
total_under f cap (x ∷ xs) (suc p) d h k = omega (arith, cap x, total_under f cap xs p d (omega arith) k)

-- shares
below_up : (j i : ℕ) → below j i ≤ below j (i + 1)
below_up j i = grind (arith, nat_tests)

below_here : (i : ℕ) → (below i i ≡ 0) × (below i (i + 1) ≡ 1)
below_here i = (grind (arith, nat_tests), grind (arith, nat_tests))

used_up : (c : Mark) (i : ℕ) (v : Mark) (n : ℕ) → used c i v n ≤ used c (i + 1) v n
used_up c i v n = go (is_mark v c) (below_up v.slot i)
  where
    go : (b : Bool) → below v.slot i ≤ below v.slot (i + 1) → cond b 2 (below v.slot i + n) ≤ cond b 2 (below v.slot (i + 1) + n)
    go true h = omega arith
    go false h = omega arith

share_up_of : (c : Mark) (i : ℕ) (k : Past) (a : Announcement) → share_of c i k a ≤ share_of c (i + 1) k a
share_up_of c i whole a = omega arith
share_up_of c i (hopes u) announcement.Empty = omega arith
share_up_of c i (hopes u) (announcement.Plain v) = used_up c i v 0
share_up_of c i (hopes u) (announcement.Help v) = omega arith
share_up_of c i lost announcement.Empty = omega arith
share_up_of c i lost (announcement.Plain v) = used_up c i v 0
share_up_of c i lost (announcement.Help v) = omega arith
share_up_of c i (uses v) a = used_up c i v 0
share_up_of c i (done v) a = used_up c i v 1

hope_most : (b : Bool) → cond b 2 0 ≤ 2
hope_most true = omega arith
hope_most false = omega arith

share_most_of : (c : Mark) (i : ℕ) (k : Past) (a : Announcement) → share_of c i k a ≤ 2
share_most_of c i whole a = omega arith
share_most_of c i (hopes u) announcement.Empty = hope_most (is_mark u c)
share_most_of c i (hopes u) (announcement.Plain v) = used_most c i v 0 (omega arith)
share_most_of c i (hopes u) (announcement.Help v) = hope_most (is_mark u c)
share_most_of c i lost announcement.Empty = omega arith
share_most_of c i lost (announcement.Plain v) = used_most c i v 0 (omega arith)
share_most_of c i lost (announcement.Help v) = omega arith
share_most_of c i (uses v) a = used_most c i v 0 (omega arith)
share_most_of c i (done v) a = used_most c i v 1 (omega arith)

owned_up : (i : ℕ) (o : Option ℕ) → owned_below i o ≤ owned_below (i + 1) o
owned_up i None = omega arith
owned_up i (Some j) = below_up j i

owned_most : (i : ℕ) (o : Option ℕ) → owned_below i o ≤ 1
owned_most i None = omega arith
owned_most i (Some j) = below_most j i

share_up : (c : Mark) (i : ℕ) (x : Seat) → share c i x ≤ share c (i + 1) x
share_up c i x = omega (arith, share_up_of c i (past_of x.position) x.announced, owned_up i (owned x.position))

share_most : (c : Mark) (i : ℕ) (x : Seat) → share c i x ≤ 3
share_most c i x = omega (arith, share_most_of c i (past_of x.position) x.announced, owned_most i (owned x.position))

-- a program that has v, or is closing it, accounts for the slot of v
record Uses (at : Position) (a : Announcement) (v : Mark) : Type 0 where
  pub extra : ℕ
  pub «is» : (c : Mark) (i : ℕ) → share_of c i (past_of at) a ≡ used c i v extra

has_uses : (at : Position) (v : Mark) → fits (manner at) (announcement.Plain v) ≡ true → Uses at (announcement.Plain v) v
has_uses (Opening t O1) v e = false_true e
has_uses (Opening t _) v e = record { extra = 0; is = λ c i. refl }
has_uses (Open u) v e = record { extra = 0; is = λ c i. ap (λ y. used c i y 0) (mark_same u v e) }
has_uses (Offering o at) v e = record { extra = 0; is = λ c i. ap (λ y. used c i y 0) (mark_same o.over v e) }
has_uses (Offered u) v e = record { extra = 1; is = λ c i. ap (λ y. used c i y 1) (mark_same u v e) }
has_uses (Closing u C1) v e = record { extra = 1; is = λ c i. ap (λ y. used c i y 1) (mark_same u v e) }
has_uses _ v e = false_true e

closes_uses : (all : ℕ) (at : Position) (a : Announcement) (v : Mark) → closed (closer all at) ≡ Some v → Uses at a v
closes_uses all (Closing u C1) a v e = none_some v e
closes_uses all (Closing u _) a v e = record { extra = 1; is = λ c i. ap (λ y. used c i y 1) (same_Some u v e) }
closes_uses all _ a v e = none_some v e

module _ (s : State) (g : Good s) (i : ℕ) (full : filled (slot_at s i) ≡ true) where
  abbrev V : Mark
  V = s.current

  abbrev v : Mark
  v = mark (serial_in (slot_at s i)) i

  -- suppose that slot i is not accounted for
  module _ (few : accounted s (i + 1) ≤ accounted s i) where
    level : (below V.slot (i + 1) ≡ below V.slot i) × ((q : ℕ) → q < s.programs → share V (i + 1) (seat_at s q) ≡ share V i (seat_at s q))
    level =
        let m = total_level (share V i) (share V (i + 1)) (share_up V i) s.seats (omega (arith, below_up V.slot i)) in
        (omega (arith, m.0, below_up V.slot i), λ q l. m.1 q unseated (omega (arith, g.sized.3)))

    level_all : (q : ℕ) → share V (i + 1) (seat_at s q) ≡ share V i (seat_at s q)
    level_all q = ⊎_elim
        (λ (l : q < s.programs). level.1 q l)
        (λ (m : s.programs ≤ q). let e = beyond s q (omega (arith, g.sized.3)) in ap (share V (i + 1)) e ∙ sym (ap (share V i) e))
        (cases_lt q s.programs)

    not_current : i ≡ V.slot → ⊥
    not_current e = omega (arith, below_here i, subst (λ j. below j (i + 1) ≡ below j i) (sym e) level.0)

    unowned : (z : ℕ) → owned (position_at s z) ≡ Some i → ⊥
    unowned z e = omega (
      arith,
      below_here i,
      level_all z,
      share_up_of V i (past_of (position_at s z)) (announced_at s z),
      ap (owned_below i) e,
      ap (owned_below (i + 1)) e,
    )

    old_version : is_mark v V ≡ false
    old_version = ⊎_elim
        (λ (e : is_mark v V ≡ true). absurd (not_current (ap (λ y. y.slot) (mark_same v V e))))
        (λ (e : is_mark v V ≡ false). e)
        (cases_Bool (is_mark v V))

    not_used : (q : ℕ) → Uses (position_at s q) (announced_at s q) v → ⊥
    not_used q u = omega (
      arith,
      below_here i,
      level_all q,
      owned_up i (owned (position_at s q)),
      u.is V i,
      u.is V (i + 1),
      ap (λ b. cond b 2 (below i i + u.extra)) old_version,
      ap (λ b. cond b 2 (below i (i + 1) + u.extra)) old_version,
    )

    unwanted : (q : ℕ) → waits s i (seat_at s q) ≡ true → ⊥
    unwanted q w = ⊎_elim
        (λ (e : announced_at s q ≡ announcement.Plain v). not_used q
        (subst (λ a. Uses (position_at s q) a v) (sym e)
        (has_uses (position_at s q) v (subst (λ a. fits (manner (position_at s q)) a ≡ true) e (g.local q)))))
        (λ (e : closed (closer s.programs (position_at s q)) ≡ Some v). not_used q
        (closes_uses s.programs (position_at s q) (announced_at s q) v e))
        (waits_how (slot_at s i) v (announced_at s q) (closer s.programs (position_at s q)) w)

    impossible : ⊥
    impossible = not_current (g.wanted i (full, unowned) unwanted)

  -- a filled slot is accounted for
  pub gain : accounted s i + 1 ≤ accounted s (i + 1)
  gain = ⊎_elim
      (λ (l : accounted s i < accounted s (i + 1)). omega arith)
      (λ (m : accounted s (i + 1) ≤ accounted s i). absurd (impossible m))
      (cases_lt (accounted s i) (accounted s (i + 1)))

-- over the current version some slot is empty
pub search_ends : (s : State) → Good s → (p : ℕ) → p < s.programs → (r : ℕ) (over : Mark) (i : ℕ) → seat_at s p ≡ seat (Offering (offer r over i) F1)
    (announcement.Plain over)
    → is_mark over s.current ≡ true → filled (slot_at s i) ≡ true → 3 * s.programs ≤ i → ⊥
search_ends s g p h r over i e c full end =
    let t = stay s g p h (seat (Offering (offer r over i) F1) (announcement.Plain over)) e in
    let so_far : i ≤ accounted s i = g.searched p over i (ap (λ x. offerer s.programs x.position) e) c in
    let mine : share s.current (i + 1) (seat_at s p) ≤ 2 = subst (λ x. share s.current (i + 1) x ≤ 2) (sym e)
    (omega (arith, used_most s.current (i + 1) over 0 (omega arith))) in
    omega (
      arith,
      so_far,
      gain s g i full,
      below_most s.current.slot (i + 1),
      total_under (share s.current (i + 1)) (share_most s.current (i + 1)) s.seats p unseated (omega (arith, g.sized.3)) mine,
      g.sized.3,
    )
