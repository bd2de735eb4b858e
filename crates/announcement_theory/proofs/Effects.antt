-- What a change of one seat does to the meaning.
use Rattle.std.proofs.Common.{◌≡◌, ℕ, ◌+◌, ◌*◌, ◌<◌, ◌≤◌, eqb, List, map, length, get_or, set, Option, sym, refl, ap, ◌∙◌, inl, arith}
use Rattle.std.proofs.lemmas.List.{map-set}
use Rattle.keeper.proofs.Totals.{total_set}
use Rattle.announcement_theory.specs.declared.mark.Mark.{Mark}
use Rattle.announcement_theory.specs.declared.seat.Seat.{Seat}
use Rattle.announcement_theory.specs.State.{State, unseated, slot_at, seat_at, position_at}
use Rattle.announcement_theory.specs.Next.{put}
use Rattle.announcement_theory.specs.Views.{Mentions, since, owned}
use Rattle.announcement_theory.specs.Invariant.{Holds, Good}
use Rattle.announcement_theory.proofs.Basics.{at_same, at_other}
use Rattle.announcement_theory.proofs.Good.{Other}
use Rattle.keeper.specs.declared.version.Version.{Version}
use Rattle.keeper.specs.declared.stage.Stage.{Stage}
use Rattle.keeper.specs.declared.stage.Stage.TheVariants as stage
use Rattle.keeper.specs.Meaning.{Meaning, stage_of, left_of}
use Rattle.announcement_theory.specs.Means.{stage_in, left_at, is_slot, owners, entry_in, entry_at, kept_of, meaning_of}
use Rattle.keeper.specs.declared.outcome.Outcome.TheVariants.{GoesOn, Opened, Stale, Nothing}
use Rattle.keeper.specs.Effects.{Begun, Openable, Frame, Unmoved, Agrees, StepDone}
use Rattle.announcement_theory.proofs.Gathered.{gathered_same}
use Rattle.announcement_theory.proofs.Lawful.{stage_at_is, left_at_is, mentioned_times}

-- the owners of a slot change with what p owns
pub owners_put : (s : State) (p : ℕ) (x : Seat) → p < length s.seats → (j : ℕ)
    → owners (put s p x) j + is_slot j (owned (position_at s p)) ≡ owners s j + is_slot j (owned x.position)
owners_put s p x h j = total_set (λ (y : Seat). is_slot j (owned y.position)) s.seats p x unseated h

-- what is kept does not change where p owns what it owned
pub entry_put : (s : State) (p : ℕ) (x : Seat) → p < length s.seats → (j : ℕ) → is_slot j (owned x.position) ≡ is_slot j (owned (position_at s p))
    → entry_at (put s p x) j ≡ entry_at s j
entry_put s p x h j e =
    let same : owners (put s p x) j ≡ owners s j = omega (arith, owners_put s p x h j) in
    ap (λ n. entry_in (slot_at s j) (eqb n 0)) same

pub kept_put : (s : State) (p : ℕ) (x : Seat) → p < length s.seats → owned x.position ≡ owned (position_at s p) → kept_of (put s p x) ≡ kept_of s
kept_put s p x h e = gathered_same (entry_at (put s p x)) (entry_at s) (λ j. entry_put s p x h j (ap (is_slot j) e)) 0 (3 * s.programs + 1)

-- a meaning with other versions kept, other stages and other steps left
abbrev meant : Meaning → List Version → List Stage → List ℕ → Meaning
meant m k st l = record {
  programs = m.programs;
  last = m.last;
  current = m.current;
  kept = k;
  stages = st;
  left = l;
  declared = m.declared;
}

-- program p begins an operation
pub begun : (s : State) → Good s → (p : ℕ) → p < s.programs → (x : Seat) → owned x.position ≡ owned (position_at s p) → (st : Stage)
    → stage_in x ≡ st
    → (most : ℕ) → left_at s.programs x.position ≤ most → Begun (meaning_of s) p st most (meaning_of (put s p x))
begun s g p h x free st is most few =
    let w : p < length s.seats = omega (arith, g.sized.3) in
    let n = meaning_of (put s p x) in
    let steps : left_of n p ≡ left_at s.programs x.position = left_at_is (put s p x) p ∙ ap (λ y. left_at s.programs y.position)
    (at_same s p x w) in
    record {
      after =
          ap (λ k. meant n k n.stages n.left) (kept_put s p x w free)
          ∙ ap (λ k. meant n (kept_of s) k n.left) (map-set stage_in s.seats p x ∙ ap (set (map stage_in s.seats) p) is)
          ∙ ap (λ k. meant n (kept_of s) (set (map stage_in s.seats) p st) k)
          (map-set (λ (y : Seat). left_at s.programs y.position) s.seats p x
          ∙ ap (set (map (λ (y : Seat). left_at s.programs y.position) s.seats) p) (sym steps));
      few = omega arith;
    }

-- program p took the seat x, in a state t with the seats of s
module _ (s : State) (g : Good s) (p : ℕ) (h : p < s.programs) (t : State) (x : Seat) (seats : t.seats ≡ s.seats)
    (all : t.programs ≡ s.programs) (last : t.last ≡ s.last) where
  abbrev m : Meaning
  m = meaning_of s

  abbrev n : Meaning
  n = meaning_of (put t p x)

  within : p < length t.seats
  within = omega (arith, g.sized.3, ap length seats)

  pub stage_here : stage_of n p ≡ stage_in x
  stage_here = stage_at_is (put t p x) p ∙ ap stage_in (at_same t p x within)

  pub left_here : left_of n p ≡ left_at s.programs x.position
  left_here = left_at_is (put t p x) p ∙ ap (λ y. left_at t.programs y.position) (at_same t p x within) ∙ ap (λ k. left_at k x.position) all

  seat_there : (q : ℕ) → Other p q → seat_at (put t p x) q ≡ seat_at s q
  seat_there q ne = at_other t p x within q ne ∙ ap (λ l. get_or l q unseated) seats

  pub stage_there : (q : ℕ) → Other p q → stage_of n q ≡ stage_of m q
  stage_there q ne = stage_at_is (put t p x) q ∙ ap stage_in (seat_there q ne) ∙ sym (stage_at_is s q)

  pub left_there : (q : ℕ) → Other p q → left_of n q ≡ left_of m q
  left_there q ne = left_at_is (put t p x) q ∙ ap (λ y. left_at t.programs y.position) (seat_there q ne) ∙ ap (λ k. left_at k (position_at s q)) all
      ∙ sym (left_at_is s q)

  pub frame : Frame m p n
  frame = record {
    programs = all;
    last = last;
    declared = ap (λ k. record { opening = 9; offering = 4 * k + 2; closing = 2 * k + 5 }) all;
    others = λ q ne. inl (stage_there q ne);
    slower = λ q ne. omega (arith, left_there q ne);
  }

  module _ (old : Seat) (was : seat_at s p ≡ old) where
    pub stage_was : stage_of m p ≡ stage_in old
    stage_was = stage_at_is s p ∙ ap stage_in was

    left_was : left_of m p ≡ left_at s.programs old.position
    left_was = left_at_is s p ∙ ap (λ y. left_at s.programs y.position) was

    -- the operation goes on
    pub continues : stage_in x ≡ stage_in old → left_at s.programs x.position < left_at s.programs old.position → Unmoved m n
        → StepDone m p n GoesOn
    continues st fewer still = (
      frame,
      record {
        fewer = omega (arith, left_here, left_was);
        stage = inl (stage_here ∙ st ∙ sym stage_was);
        versions = still;
      },
    )

    -- a close ends with nothing
    pub leaves : (v : ℕ) → stage_in old ≡ stage.Closing v → stage_in x ≡ stage.Idle → Unmoved m n → StepDone m p n Nothing
    leaves v a b still = (frame, record { serial = v; was = stage_was ∙ a; is = stage_here ∙ b; versions = still })

    -- an offer ends over an old version
    pub gives_up : (r : ℕ) (over : Mark) → stage_in old ≡ stage.Offering r over.serial → stage_in x ≡ stage.Offered over.serial
        → (over.serial ≡ s.current.serial → ⊥) → Unmoved m n → StepDone m p n Stale
    gives_up r over a b old still = (
      frame,
      record {
        root = r;
        over = over.serial;
        was = stage_was ∙ a;
        old = old;
        is = stage_here
            ∙ b;
        versions = still;
      },
    )

    -- an open ends
    pub ends_open : (since : ℕ) (b : Option ℕ) (v : ℕ) → stage_in old ≡ stage.Opening since b → stage_in x ≡ stage.Open v → Openable m since v
        → Agrees b v
        → Unmoved m n → StepDone m p n (Opened v)
    ends_open since b v a c may agrees still =
        (frame, record { since = since; bound = b; was = stage_was ∙ a; chosen = may; agrees = agrees; is = stage_here ∙ c; versions = still })

-- in the state itself, with p owning what it owned
module _ (s : State) (g : Good s) (p : ℕ) (h : p < s.programs) (old x : Seat) (was : seat_at s p ≡ old)
    (free : owned x.position ≡ owned old.position) where
  pub unmoved : Unmoved (meaning_of s) (meaning_of (put s p x))
  unmoved = record {
    current = refl;
    kept = kept_put s p x (omega (arith, g.sized.3)) (free ∙ sym (ap (λ y. owned y.position) was));
  }

  pub goes_on : stage_in x ≡ stage_in old → left_at s.programs x.position < left_at s.programs old.position → StepDone (meaning_of s) p
      (meaning_of (put s p x)) GoesOn
  goes_on st fewer = continues s g p h s x refl refl refl old was st fewer unmoved

  pub leaves_off : (v : ℕ) → stage_in old ≡ stage.Closing v → stage_in x ≡ stage.Idle → StepDone (meaning_of s) p (meaning_of (put s p x)) Nothing
  leaves_off v a b = leaves s g p h s x refl refl refl old was v a b unmoved

-- a version that p mentions and that is in its slot may be opened
pub openable : (s : State) → Good s → (p : ℕ) (v : Mark) → Mentions (seat_at s p) v → Holds s v → (n : ℕ) → n ≤ v.serial → Openable (meaning_of s) n
    v.serial
openable s g p v m t n from = record { kept = mentioned_times s g p v m t; from = from; to = (g.seen p v m).0 }
