-- Shares of accounted slots, and waiting, as tests.
use Rattle.std.proofs.Common.{◌≡◌, ℕ, ◌+◌, ◌≤◌, Bool, true, false, cond, ◌||◌, ◌⊎◌, sym, refl, ap, subst, inl, inr, arith}
use Rattle.std.proofs.lemmas.Bool.Decides.{nat_tests}
use Rattle.announcement_theory.specs.declared.mark.Mark.{Mark}
use Rattle.announcement_theory.specs.declared.announcement.Announcement.TheVariants as announcement
use Rattle.announcement_theory.specs.declared.position.Position.{Position}
use Rattle.announcement_theory.specs.declared.position.Position.TheVariants.{Opening, Closing}
use Rattle.announcement_theory.specs.declared.position.OpenLabel.TheVariants.{O2, O3, O4, O5, O6}
use Rattle.announcement_theory.specs.declared.position.CloseLabel.TheVariants.{C1}
use Rattle.announcement_theory.specs.Tests.{is_mark}
use Rattle.announcement_theory.specs.Views.{asking, manner, aside, offerer}
use Rattle.announcement_theory.specs.Shares.{Past, hopes, lost, below, used, share_of, past_of}
use Rattle.announcement_theory.proofs.Basics.{false_true, true_false}

pub used_more : (c : Mark) (i : ℕ) (v : Mark) → used c i v 0 ≤ used c i v 1
used_more c i v = go (is_mark v c)
  where
    go : (b : Bool) → cond b 2 (below v.slot i + 0) ≤ cond b 2 (below v.slot i + 1)
    go true = omega arith
    go false = omega arith

pub below_most : (j i : ℕ) → below j i ≤ 1
below_most j i = grind (arith, nat_tests)

pub used_most : (c : Mark) (i : ℕ) (v : Mark) (n : ℕ) → n ≤ 1 → used c i v n ≤ 2
used_most c i v n h = go (is_mark v c) (below v.slot i) (below_most v.slot i)
  where
    go : (b : Bool) (m : ℕ) → m ≤ 1 → cond b 2 (m + n) ≤ 2
    go true m k = omega arith
    go false m k = omega arith

pub share_bound : (c : Mark) (i : ℕ) (v w : Mark) (k : Past) → (k ≡ hopes v) ⊎ (k ≡ lost) → (is_mark v c ≡ true → is_mark w c ≡ true)
    → share_of c i k (announcement.Help v) ≤ share_of c i k (announcement.Plain w)
share_bound c i v w k (inl e) h = subst (λ y. share_of c i y (announcement.Help v) ≤ share_of c i y (announcement.Plain w)) (sym e)
    (go (is_mark v c) (is_mark w c) h)
  where
    go : (a b : Bool) → (a ≡ true → b ≡ true) → cond a 2 0 ≤ cond b 2 (below w.slot i + 0)
    go true true f = omega arith
    go true false f = false_true (f refl)
    go false b f = omega arith
share_bound c i v w k (inr e) h = subst (λ y. share_of c i y (announcement.Help v) ≤ share_of c i y (announcement.Plain w)) (sym e) (omega arith)

-- an announcement given up at C1 counts on in the close
pub waits_over : (b m : Bool) → cond b false (m || false) ≡ true → cond b false (false || m) ≡ true
waits_over true m e = e
waits_over false true e = refl
waits_over false false e = e

pub waits_left : (b m : Bool) → cond b false (false || m) ≡ true → (b ≡ false) × (m ≡ true)
waits_left true m e = false_true e
waits_left false m e = (refl, e)

pub waits_right : (b m : Bool) → b ≡ false → m ≡ true → cond b false (false || m) ≡ true
waits_right true m e f = true_false e
waits_right false m e f = f

pub waits_more : (b p m l : Bool) → cond b p (false || l) ≡ true → cond b p (m || l) ≡ true
waits_more true p m l e = e
waits_more false p true l e = refl
waits_more false p false l e = e

-- an asking program is not offering, and accounts as one that opens
pub asking_aside : (all : ℕ) (at : Position) (u : Mark) → manner at ≡ asking u → (offerer all at ≡ aside) ×
    ((past_of at ≡ hopes u) ⊎ (past_of at ≡ lost))
asking_aside all (Opening t O2) u e = (refl, inl (let f : t.u ≡ u = cc in ap hopes f))
asking_aside all (Opening t O3) u e = (refl, inl (let f : t.u ≡ u = cc in ap hopes f))
asking_aside all (Opening t (O4 round)) u e = (refl, inr refl)
asking_aside all (Opening t (O5 w round)) u e = (refl, inr refl)
asking_aside all (Opening t (O6 round)) u e = (refl, inl (let f : t.u ≡ u = cc in ap hopes f))
asking_aside all (Closing v C1) u e = let z : ◌≡◌ {A = ℕ} 0 1 = cc in absurd (omega arith)
asking_aside all _ u e = let z : ◌≡◌ {A = ℕ} 0 1 = cc in absurd (omega arith)
