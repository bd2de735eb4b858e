-- The laws of a keeper hold of the meaning of a good state.
use Rattle.std.proofs.Common.{◌≡◌, ℕ, ◌+◌, ◌*◌, ◌<◌, ◌≤◌, true, cond, ltb, leb, map, length, Some, Option, sym, refl, ap, ◌∙◌, subst, ⊎_elim, arith}
use Rattle.std.proofs.lemmas.Bool.{cases_eq, cases_lt, eq-eqb, and_parts, ltb-true, leb-true}
use Rattle.std.proofs.lemmas.Bool.Decides.{nat_tests}
use Rattle.keeper.specs.Totals.{total}
use Rattle.keeper.proofs.Totals.{total_at, get_d_map}
use Rattle.announcement_theory.specs.declared.mark.Mark.{Mark}
use Rattle.announcement_theory.specs.declared.announcement.Announcement.{Announcement}
use Rattle.announcement_theory.specs.declared.announcement.Announcement.TheVariants as announcement
use Rattle.announcement_theory.specs.declared.position.Round.{Round}
use Rattle.announcement_theory.specs.declared.position.Round.TheVariants.{First, Second}
use Rattle.announcement_theory.specs.declared.position.Position.{Position}
use Rattle.announcement_theory.specs.declared.position.Position.TheVariants.{Idle, Opening, Open, Offering, Offered, Closing}
use Rattle.announcement_theory.specs.declared.position.OpenLabel.TheVariants.{O4, O5, O6}
use Rattle.announcement_theory.specs.declared.position.OfferLabel.TheVariants.{F1, F2}
use Rattle.announcement_theory.specs.declared.position.CloseLabel.TheVariants.{C1, C4, C6}
use Rattle.announcement_theory.specs.declared.seat.Seat.{Seat}
use Rattle.announcement_theory.specs.State.{State, mark, unseated, slot_at, seat_at, position_at, announced_at}
use Rattle.announcement_theory.specs.Tests.{version_in, serial_in, root_in}
use Rattle.announcement_theory.specs.Views.{holding, manner, fits, Mentions, closer, ranged}
use Rattle.announcement_theory.specs.Invariant.{Holds, Kept, waits, Good}
use Rattle.announcement_theory.proofs.Basics.{false_true, none_some, mark_same, holds_serial, holding_plain, beyond}
use Rattle.announcement_theory.proofs.Roles.{closed}
use Rattle.announcement_theory.proofs.Waiting.{waits_how, mentioned_kept, current_kept}
use Rattle.announcement_theory.proofs.Fillings.{says_mentions}
use Rattle.std.proofs.lemmas.List.{length-map}
use Rattle.std.proofs.lemmas.Option.{same_Some}
use Rattle.keeper.specs.declared.version.Version.{Version}
use Rattle.keeper.specs.declared.stage.Stage.TheVariants as stage
use Rattle.keeper.specs.Stages.{has, engaged, named, uses}
use Rattle.keeper.specs.Meaning.{root_at, Laws, Paced, version, stage_of, left_of, is_serial, same, times}
use Rattle.announcement_theory.specs.Means.{bound, stage_from, stage_in, in_round, left_at, entry_at, kept_of, meaning_of}
use Rattle.announcement_theory.proofs.Gathered.{gathered_at, gathered_found, gathered_once, root_once}
use Rattle.announcement_theory.proofs.Entries.{entry_kept, kept_entry, kept_in_range}

pub stage_at_is : (s : State) (q : ℕ) → stage_of (meaning_of s) q ≡ stage_in (seat_at s q)
stage_at_is s q = get_d_map stage_in s.seats q unseated

pub left_at_is : (s : State) (q : ℕ) → left_of (meaning_of s) q ≡ left_at s.programs (position_at s q)
left_at_is s q = get_d_map (λ (x : Seat). left_at s.programs x.position) s.seats q unseated

-- a program that has n announces it without help
pub record Plainly (a : Announcement) (n : ℕ) : Type 0 where
  pub version : Mark
  pub says : a ≡ announcement.Plain version
  pub serial : version.serial ≡ n

bound_plain : (a : Announcement) (n : ℕ) → bound a ≡ Some n → Plainly a n
bound_plain announcement.Empty n e = none_some n e
bound_plain (announcement.Plain v) n e = record { version = v; says = refl; serial = same_Some v.serial n e }
bound_plain (announcement.Help v) n e = none_some n e

held_plain : (a : Announcement) (v : Mark) (n : ℕ) → fits (holding v) a ≡ true → ◌≡◌ {A = Option ℕ} (Some v.serial) (Some n) → Plainly a n
held_plain a v n l e = record { version = v; says = holding_plain v a l; serial = same_Some v.serial n e }

pub has_plain : (at : Position) (a : Announcement) (n : ℕ) → fits (manner at) a ≡ true → has (stage_from a at) ≡ Some n → Plainly a n
has_plain (Opening t at) a n l e = bound_plain a n e
has_plain (Open v) a n l e = held_plain a v n l e
has_plain (Offering o at) a n l e = held_plain a o.over n l e
has_plain (Offered v) a n l e = held_plain a v n l e
has_plain _ a n l e = none_some n e

-- a program that announces v without help has it, or is closing it
plain_engaged : (at : Position) (v : Mark) → fits (manner at) (announcement.Plain v) ≡ true → engaged (stage_from (announcement.Plain v) at) ≡ Some
    v.serial
plain_engaged (Opening t at) v e = refl
plain_engaged (Open u) v e = ap (λ (y : Mark). Some y.serial) (mark_same u v e)
plain_engaged (Offering o at) v e = ap (λ (y : Mark). Some y.serial) (mark_same o.over v e)
plain_engaged (Offered u) v e = ap (λ (y : Mark). Some y.serial) (mark_same u v e)
plain_engaged (Closing u C1) v e = ap (λ (y : Mark). Some y.serial) (mark_same u v e)
plain_engaged _ v e = false_true e

closing_engaged : (all : ℕ) (at : Position) (a : Announcement) (v : Mark) → closed (closer all at) ≡ Some v → engaged (stage_from a at) ≡ Some
    v.serial
closing_engaged all (Closing u C1) a v e = none_some v e
closing_engaged all (Closing u _) a v e = ap (λ (y : Mark). Some y.serial) (same_Some u v e)
closing_engaged all _ a v e = none_some v e

in_round_some : (r : Round) (a b : ℕ) → 0 < a → 0 < b → 0 < in_round r a b
in_round_some First a b h k = h
in_round_some Second a b h k = k

-- steps are left exactly where the stage says so
pub paced_at : (all : ℕ) (at : Position) (a : Announcement) → ranged all at ≡ true → Paced (stage_from a at) (left_at all at)
paced_at all Idle a l = refl
paced_at all (Opening t (O4 round)) a l = in_round_some round 7 4 (omega arith) (omega arith)
paced_at all (Opening t (O5 w round)) a l = in_round_some round 6 3 (omega arith) (omega arith)
paced_at all (Opening t (O6 round)) a l = in_round_some round 5 2 (omega arith) (omega arith)
paced_at all (Open v) a l = refl
paced_at all (Offering o F1) a l = omega (arith, leb-true o.slot (3 * all) l)
paced_at all (Offering o (F2 x)) a l = omega (arith, ltb-true x all (and_parts (leb o.slot (3 * all)) (ltb x all) l).1)
paced_at all (Offered v) a l = refl
paced_at all (Closing v (C4 x)) a l = omega (arith, ltb-true x all l)
paced_at all (Closing v (C6 x)) a l = omega (arith, ltb-true x all l)
paced_at all _ a l = omega arith

module _ (s : State) (g : Good s) where
  -- a version that is kept in slot j
  pub kept_counts : (f : Version → ℕ) (j : ℕ) → Kept s j → f (version (serial_in (slot_at s j)) (root_in (slot_at s j))) ≤ total f (kept_of s)
  kept_counts f j k = gathered_at f (entry_at s) 0 (3 * s.programs + 1) j (version (serial_in (slot_at s j)) (root_in (slot_at s j))) (omega arith)
      (kept_in_range s g j k) (entry_kept s j k)

  pub kept_times : (n j : ℕ) → Kept s j → serial_in (slot_at s j) ≡ n → 0 < times n (kept_of s)
  kept_times n j k e = omega (arith, kept_counts (is_serial n) j k, ap {B = ℕ} (λ b. cond b 1 0) (eq-eqb n (serial_in (slot_at s j)) (sym e)))

  -- a version that is mentioned and in its slot is kept
  pub mentioned_times : (q : ℕ) (v : Mark) → Mentions (seat_at s q) v → Holds s v → 0 < times v.serial (kept_of s)
  mentioned_times q v m t = kept_times v.serial v.slot (mentioned_kept s g q v m t) (holds_serial v (slot_at s v.slot) t)

  pub kept_once : (n : ℕ) → times n (kept_of s) ≤ 1
  kept_once n = gathered_once (entry_at s) n (λ j k v w e f a b.
      let x = kept_entry s j v e in
      let y = kept_entry s k w f in
      g.distinct j k x.0 y.0 (sym (ap (λ u. u.serial) x.1) ∙ a ∙ sym b ∙ ap (λ u. u.serial) y.1))
      0 (3 * s.programs + 1)

  -- the root of a kept serial is that of its slot
  pub root_kept : (j : ℕ) → Kept s j → root_at (serial_in (slot_at s j)) (kept_of s) ≡ root_in (slot_at s j)
  root_kept j k =
      let w = version (serial_in (slot_at s j)) (root_in (slot_at s j)) in
      let one : same w w ≡ 1 = grind (arith, nat_tests) in
      root_once w (kept_of s) (kept_once (serial_in (slot_at s j))) (omega (arith, kept_counts (same w) j k))

  -- the root of the version that a program has is that of the slot that it announces
  pub root_had : (p n : ℕ) → has (stage_of (meaning_of s) p) ≡ Some n → root_at n (kept_of s) ≡ root_in (slot_at s (version_in (announced_at s p)).slot)
  root_had p n e =
      let a = has_plain (position_at s p) (announced_at s p) n (g.local p) (sym (ap has (stage_at_is s p)) ∙ e) in
      let v = a.version in
      let t = g.held p v a.says in
      ap (λ k. root_at k (kept_of s)) (sym a.serial ∙ sym (holds_serial v (slot_at s v.slot) t))
      ∙ root_kept v.slot (mentioned_kept s g p v (says_mentions s p v a.says) t)
      ∙ ap (λ x. root_in (slot_at s (version_in x).slot)) (sym a.says)

  -- a kept serial that no one uses is the current one
  unused_current : (n : ℕ) → 0 < times n (kept_of s) → total (uses n) (map stage_in s.seats) ≡ 0 → n ≡ s.current.serial
  unused_current n h none =
      let f = gathered_found (entry_at s) n 0 (3 * s.programs + 1) h in
      let j = f.place in
      let k = kept_entry s j f.version f.there in
      let is : serial_in (slot_at s j) ≡ n = sym (ap (λ u. u.serial) k.1) ∙ f.serial in
      let slot_is : j ≡ s.current.slot = g.wanted j k.0 (λ q w. idle_one j is q w) in
      sym is ∙ ap (λ m. serial_in (slot_at s m)) slot_is ∙ g.current.2
    where
      each_none : (q : ℕ) → uses n (stage_in (seat_at s q)) ≡ 0
      each_none q = ⊎_elim
          (λ (l : q < length (map stage_in s.seats)). omega
          (arith, total_at (uses n) (map stage_in s.seats) q stage.Idle l, ap (uses n) (stage_at_is s q)))
          (λ (m : length (map stage_in s.seats) ≤ q). ap (λ x. uses n (stage_in x)) (beyond s q (omega (arith, length-map s.seats stage_in))))
          (cases_lt q (length (map stage_in s.seats)))

      busy : (q : ℕ) (v : Mark) → v.serial ≡ n → engaged (stage_in (seat_at s q)) ≡ Some v.serial → ⊥
      busy q v e f = omega (arith, each_none q, ap (named n) f, ap {B = ℕ} (λ b. cond b 1 0) (eq-eqb n v.serial (sym e)))

      idle_one : (j : ℕ) → serial_in (slot_at s j) ≡ n → (q : ℕ) → waits s j (seat_at s q) ≡ true → ⊥
      idle_one j is q w =
          let v = mark (serial_in (slot_at s j)) j in
          ⊎_elim
          (λ (e : announced_at s q ≡ announcement.Plain v). busy q v is
          (ap (λ a. engaged (stage_from a (position_at s q))) e ∙ plain_engaged (position_at s q) v
          (subst (λ a. fits (manner (position_at s q)) a ≡ true) e (g.local q))))
          (λ (e : closed (closer s.programs (position_at s q)) ≡ Some v). busy q v is
          (closing_engaged s.programs (position_at s q) (announced_at s q) v e))
          (waits_how (slot_at s j) v (announced_at s q) (closer s.programs (position_at s q)) w)

  pub laws : Laws (meaning_of s)
  laws = record {
    staged = length-map s.seats stage_in ∙ g.sized.3;
    timed = length-map s.seats (λ (x : Seat). left_at s.programs x.position) ∙ g.sized.3;
    current =
        let k = s.current.slot in
        let v = version s.current.serial (root_in (slot_at s k)) in
        let w = version (serial_in (slot_at s k)) (root_in (slot_at s k)) in
        let one : same v w ≡ 1 = grind (arith, nat_tests, g.current.2) in
        omega (arith, kept_counts (same v) k (current_kept s g));
    once = kept_once;
    had = λ p n e.
        let v = has_plain (position_at s p) (announced_at s p) n (g.local p) (sym (ap has (stage_at_is s p)) ∙ e) in
        subst (λ k. 0 < times k (kept_of s)) v.serial
        (mentioned_times p v.version (says_mentions s p v.version v.says) (g.held p v.version v.says));
    used = λ n h ne. ⊎_elim
        (λ (z : total (uses n) (map stage_in s.seats) ≡ 0). absurd (ne (unused_current n h z)))
        (λ (z : total (uses n) (map stage_in s.seats) ≡ 0 → ⊥). omega arith)
        (cases_eq (total (uses n) (map stage_in s.seats)) 0);
    paced = λ p. subst (λ st. Paced st (left_of (meaning_of s) p)) (sym (stage_at_is s p))
        (subst (Paced (stage_in (seat_at s p))) (sym (left_at_is s p)) (paced_at s.programs (position_at s p) (announced_at s p) (g.ranged p)));
  }
