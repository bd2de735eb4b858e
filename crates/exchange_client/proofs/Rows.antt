-- A row of calls grows by one.
use Rattle.std.proofs.Common.{ℕ, ◌+◌, List, [], ◌∷◌, ◌++◌, Result, Ok, Err, true, false, ◌≡◌, ◌≤◌, refl, ap, arith}
use Rattle.std.specs.Result.{is_err}
use Rattle.keeper.specs.declared.fault.Fault.{Fault}
use Rattle.exchange_theory.specs.declared.calls.Call.{Call}
use Rattle.exchange_theory.specs.declared.calls.Answer.{Answer}
use Rattle.exchange_theory.specs.World.{World}
use Rattle.exchange_theory.specs.History.{Event, event, Reached}
use Rattle.exchange_theory.specs.Promises.{Promises, GoesOn}
use Rattle.exchange_client.specs.Rows.{turned, Performed}

pub performed_none : {T : Type 0} {leaf : T} {h : List (Event T)} {w : World T} → Reached leaf h w → Promises leaf h w → Performed leaf h [] 0 w
performed_none r p = record { later = []; calls = refl; refused = refl; reached = r; promises = p }

-- a refusal counts 1, another answer 0
pub turned_one : {A : Type 0} (r : Result A Fault) → is_err r ≡ true → turned r ≡ 1
turned_one (Ok a) e = absurd cc
turned_one (Err f) e = refl

pub turned_none : {A : Type 0} (r : Result A Fault) → is_err r ≡ false → turned r ≡ 0
turned_none (Ok a) e = refl
turned_none (Err f) e = absurd cc

pub turned_low : {A : Type 0} (r : Result A Fault) → turned r ≤ 1
turned_low (Ok a) = omega arith
turned_low (Err f) = omega arith

pub performed_more : {T : Type 0} {leaf : T} {h : List (Event T)} {w v : World T} (cs : List (Call T)) (n : ℕ) (c : Call T) (r : Result (Answer T) Fault)
    → Performed leaf h cs n w → GoesOn c r w v → Performed leaf h (cs ++ (c ∷ [])) (n + turned r) v
performed_more {leaf = leaf} {h = h} cs n c r p g =
    let on = g leaf (p.later ++ h) p.reached in
    record {
      later = event c r ∷ p.later;
      calls = ap (λ xs. xs ++ (c ∷ [])) p.calls;
      refused = ap (λ k. k + turned r) p.refused;
      reached = on.0;
      promises = on.1;
    }
