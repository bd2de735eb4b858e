-- A new keeper's state, read from arrays that may be longer.
use Rattle.std.proofs.Common.{◌≡◌, ℕ, ◌*◌, ◌≤◌, List, ◌∷◌, take, replicate, Some, None, Option, ap, ◌∙◌, add-one, arith}
use Rattle.std.proofs.lemmas.List.{take-replicate}
use Rattle.announcement_theory.specs.declared.slot.Stored.{Stored}
use Rattle.announcement_theory.specs.declared.seat.Seat.{Seat}
use Rattle.announcement_theory.specs.declared.slot.Status.TheVariants.{Usable}
use Rattle.announcement_theory.specs.State.{mark, unseated, stored, fresh, view}

-- a new keeper in arrays for 8 programs
pub view_fresh : (p l : ℕ) → p ≤ 8 → view p l (mark 0 0) (Some (stored 0 0 Usable) ∷ replicate 24 None) (replicate 8 unseated) ≡ fresh p l
view_fresh p l h =
    ap (λ (k : List (Option Stored)). record { programs = p; last = l; current = mark 0 0; slots = k; seats = take p (replicate 8 unseated) })
    (ap (λ n. take n (Some (stored 0 0 Usable) ∷ replicate 24 None)) (add-one (3 * p)) ∙ ap (λ k. Some (stored 0 0 Usable) ∷ k)
    (take-replicate (3 * p) 24 None (omega arith)))
    ∙ ap (λ (k : List Seat). record { programs = p; last = l; current = mark 0 0; slots = Some (stored 0 0 Usable) ∷ replicate (3 * p) None; seats = k })
    (take-replicate p 8 unseated h)
