-- A making that is refused gives the keeper back.
use Rattle.std.specs.Prelude.{◌≡◌, Ok, Err, Result}
use Rattle.keeper.specs.declared.fault.Fault.{Fault}
use Rattle.exchange.specs.declared.exchange.Exchange.{Exchange}
use Rattle.exchange.specs.declared.unmade.Unmade.{Unmade}

-- what was made, or the fault alone
abbrev pub fault_alone : {K : Type 0} → Result (Exchange K) (Unmade K) → Result (Exchange K) Fault
fault_alone (Ok x) = Ok x
fault_alone (Err u) = Err u.fault

-- the keeper that was given is in the exchange, or comes back
abbrev pub Keeps : {K : Type 0} → K → Result (Exchange K) (Unmade K) → Type 0
Keeps k (Ok x) = x.keeper ≡ k
Keeps k (Err u) = u.keeper ≡ k
