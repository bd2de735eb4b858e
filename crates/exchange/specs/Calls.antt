-- Which calls go to the places of a program.
use Rattle.std.specs.Prelude.{Bool, true, false}
use Rattle.exchange_theory.specs.declared.calls.Call.{Call}
use Rattle.exchange_theory.specs.declared.calls.Call.TheVariants.{Root, Down, Look, Build}

abbrev pub on_places : {T : Type 0} → Call T → Bool
on_places (Root p a) = true
on_places (Down p a k b) = true
on_places (Look p a) = true
on_places (Build p b ss leaf) = true
on_places c = false
