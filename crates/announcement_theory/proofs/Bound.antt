-- What a step does to the meaning that first makes the announcement of another program plain.
use Rattle.std.proofs.Common.{◌≡◌, ℕ, ◌<◌, ◌≤◌, true, length, sym, refl, ap, ◌∙◌, subst, inl, inr, ⊎_elim, arith, length-set}
use Rattle.std.proofs.lemmas.Bool.{cases_eq}
use Rattle.announcement_theory.specs.declared.mark.Mark.{Mark}
use Rattle.announcement_theory.specs.declared.announcement.Announcement.{Announcement}
use Rattle.announcement_theory.specs.declared.announcement.Announcement.TheVariants as announcement
use Rattle.announcement_theory.specs.declared.position.Position.{Position}
use Rattle.announcement_theory.specs.declared.position.Position.TheVariants.{Opening, Closing}
use Rattle.announcement_theory.specs.declared.position.CloseLabel.TheVariants.{C1}
use Rattle.announcement_theory.specs.declared.seat.Seat.{Seat}
use Rattle.announcement_theory.specs.State.{State, seat, seat_at, position_at, announced_at}
use Rattle.announcement_theory.specs.Next.{put, announce}
use Rattle.announcement_theory.specs.Views.{asking, manner, fits, since, owned}
use Rattle.announcement_theory.proofs.Basics.{flag_asks, at_same, at_other, at_each}
use Rattle.announcement_theory.specs.Invariant.{Good}
use Rattle.announcement_theory.proofs.Good.{Other}
use Rattle.keeper.specs.declared.stage.Stage.TheVariants as stage
use Rattle.keeper.specs.Meaning.{Meaning, stage_of, times}
use Rattle.announcement_theory.specs.Means.{bound, stage_from, stage_in, left_at, kept_of, meaning_of}
use Rattle.keeper.specs.declared.outcome.Outcome.TheVariants.{GoesOn}
use Rattle.keeper.specs.Effects.{Rebinds, StepDone}
use Rattle.announcement_theory.proofs.Lawful.{stage_at_is, left_at_is}
use Rattle.announcement_theory.proofs.Effects.{kept_put}

-- an asking program is opening
pub asking_stage : (at : Position) (u : Mark) → manner at ≡ asking u → (a : Announcement) → stage_from a at ≡ stage.Opening (since at) (bound a)
asking_stage (Opening t at) u e a = refl
asking_stage (Closing v C1) u e a = let z : ◌≡◌ {A = ℕ} 0 1 = cc in absurd (omega arith)
asking_stage _ u e a = let z : ◌≡◌ {A = ℕ} 0 1 = cc in absurd (omega arith)

-- x asked for help with u and is bound to w, and p goes from old to new
module _ (s : State) (g : Good s) (p : ℕ) (h : p < s.programs) (x : ℕ) (l : x < s.programs) (ne : x ≡ p → ⊥) (u w : Mark)
    (asked : announced_at s x ≡ announcement.Help u) (old new : Seat) (was : seat_at s p ≡ old)
    (free : owned new.position ≡ owned old.position) where
  abbrev s1 : State
  s1 = announce s x (announcement.Plain w)

  abbrev m : Meaning
  m = meaning_of s

  abbrev n : Meaning
  n = meaning_of (put s1 p new)

  abbrev bound_seat : Seat
  bound_seat = seat (position_at s x) (announcement.Plain w)

  x_in : x < length s.seats
  x_in = omega (arith, g.sized.3)

  p_in : p < length s1.seats
  p_in = simp length-set (omega (arith, g.sized.3))

  p_same : seat_at s1 p ≡ old
  p_same = at_other s x bound_seat x_in p (λ (e : p ≡ x). ne (sym e)) ∙ was

  kept_same : n.kept ≡ m.kept
  kept_same = kept_put s1 p new p_in (free ∙ sym (ap (λ y. owned y.position) p_same)) ∙ kept_put s x bound_seat x_in refl

  -- the position of another program stays
  position_there : (q : ℕ) → Other p q → position_at (put s1 p new) q ≡ position_at s q
  position_there q qn = ap (λ y. y.position) (at_other s1 p new p_in q qn)
      ∙ at_each s x bound_seat x_in (λ q y. y.position ≡ position_at s q) refl (λ q _. refl) q

  x_there : seat_at (put s1 p new) x ≡ bound_seat
  x_there = at_other s1 p new p_in x ne ∙ at_same s x bound_seat x_in

  x_opening : manner (position_at s x) ≡ asking u
  x_opening = flag_asks (manner (position_at s x)) u (subst (λ a. fits (manner (position_at s x)) a ≡ true) asked (g.local x))

  pub binds : (since (position_at s x) ≤ w.serial) → w.serial ≤ s.current.serial → 0 < times w.serial (kept_of s)
      → stage_in new ≡ stage_in old → left_at s.programs new.position < left_at s.programs old.position → StepDone m p n GoesOn
  binds from to there st fewer = (
    record {
      programs = refl;
      last = refl;
      declared = refl;
      others = λ q qn. ⊎_elim
          (λ (e : q ≡ x). subst (λ k. Rebinds n (stage_of m k) (stage_of n k)) (sym e) (inr (
            since (position_at s x),
            w.serial,
            stage_at_is s x ∙ ap (λ a. stage_from a (position_at s x)) asked ∙ asking_stage (position_at s x) u x_opening (announcement.Help u),
            stage_at_is (put s1 p new) x ∙ ap stage_in x_there ∙ asking_stage (position_at s x) u x_opening (announcement.Plain w),
            record { kept = subst (λ k. 0 < times w.serial k) (sym kept_same) there; from = from; to = to },
          )))
          (λ (other : q ≡ x → ⊥). inl (stage_at_is (put s1 p new) q ∙ ap stage_in (at_other s1 p new p_in q qn ∙ at_other s x bound_seat x_in q other)
          ∙ sym (stage_at_is s q)))
          (cases_eq q x);
      slower = λ q qn. omega (arith, left_at_is (put s1 p new) q, left_at_is s q, ap (left_at s.programs) (position_there q qn));
    },
    record {
      fewer = omega (
        arith,
        left_at_is (put s1 p new) p,
        left_at_is s p,
        ap (λ y. left_at s.programs y.position) (at_same s1 p new p_in),
        ap (λ y. left_at s.programs y.position) was,
      );
      stage = inl (stage_at_is (put s1 p new) p ∙ ap stage_in (at_same s1 p new p_in) ∙ st ∙ sym (stage_at_is s p ∙ ap stage_in was));
      versions = record { current = refl; kept = kept_same };
    },
  )
