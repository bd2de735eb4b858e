-- The calls that read: root, down and look.
use Rattle.std.specs.Prelude.{◌≡◌, ℕ, cond, ◌&&◌, List, length, Some, None, Ok, Err, Option, Result, nat_lt}
use Rattle.keeper.specs.declared.fault.Refusal.TheVariants.{PlaceEmpty, NoCell}
use Rattle.keeper.specs.declared.fault.Fault.{Fault}
use Rattle.keeper.specs.Effects.{root_answer}
use Rattle.cells_theory.specs.declared.cell.Cell.{Cell}
use Rattle.cells_theory.specs.declared.cell.Field.{Field}
use Rattle.cells_theory.specs.declared.cell.Field.TheVariants as field
use Rattle.cells_theory.specs.declared.shown.Shown.{Shown}
use Rattle.cells_theory.specs.Memory.{damaged}
use Rattle.cells_theory.specs.Look.{field_answer, Looks as LooksAt}
use Rattle.exchange_theory.specs.declared.column.Column.TheVariants as column
use Rattle.exchange_theory.specs.World.{World, reading_at, reading}
use Rattle.exchange_theory.specs.Order.{own_fault, admits, Turns}

-- a root is followed: as the keeper refuses to tell it, then 16 where it is N or more
abbrev pub root_fault : ℕ → Result ℕ Fault → Option Fault
root_fault n (Ok r) = cond (nat_lt r n) None (Some damaged)
root_fault n (Err f) = Some f

-- root into reading place a: 3 for a
abbrev pub root_refusal : {T : Type 0} → World T → ℕ → ℕ → Option Fault
root_refusal w p a = admits w p (nat_lt a 8) column.Root (root_fault w.size (root_answer w.keeper p))

-- reading place a names the root of the version that p has
pub record TakesRoot {T : Type 0} (p a : ℕ) (w v : World T) : Type 0 where
  pub root : ℕ
  pub had : root_answer w.keeper p ≡ Ok root
  pub after : v ≡ reading p a (Some root) w

abbrev pub Roots : {T : Type 0} → ℕ → ℕ → Result (Unit {0}) Fault → World T → World T → Type 0
Roots p a r w v = Turns (root_refusal w p a) w v (λ _. TakesRoot p a w v) r

-- 13 where what a field gives is no cell, and 16 where the cells refuse to follow it
abbrev pub no_cell : Result Field Fault → Option Fault
no_cell (Ok field.Empty) = Some (own_fault NoCell)
no_cell (Ok (field.Number n)) = Some (own_fault NoCell)
no_cell (Ok (field.Cell c)) = None
no_cell (Err f) = Some f

-- 12 where the place is empty, then as following field k of its cell is refused
abbrev pub down_fault : List Cell → ℕ → Option ℕ → Option Fault
down_fault cs k None = Some (own_fault PlaceEmpty)
down_fault cs k (Some c) = no_cell (field_answer cs c k)

-- down from reading place a along field k into reading place b: 3 for a, k and b
abbrev pub down_refusal : {T : Type 0} → World T → ℕ → ℕ → ℕ → ℕ → Option Fault
down_refusal w p a k b = admits w p (nat_lt a 8 && (nat_lt k 4 && nat_lt b 8)) column.Down (down_fault w.cells k (reading_at w p a))

-- reading place b names the cell that field k of the cell in reading place a names
pub record Descends {T : Type 0} (p a k b : ℕ) (w v : World T) : Type 0 where
  pub from : ℕ
  pub to : ℕ
  pub start : reading_at w p a ≡ Some from
  pub along : field_answer w.cells from k ≡ Ok (field.Cell to)
  pub after : v ≡ reading p b (Some to) w

abbrev pub Downs : {T : Type 0} → ℕ → ℕ → ℕ → ℕ → Result (Unit {0}) Fault → World T → World T → Type 0
Downs p a k b r w v = Turns (down_refusal w p a k b) w v (λ _. Descends p a k b w v) r

-- 12 where the place is empty, then 16 where its cell or the leaf of it is not there
abbrev pub look_fault : {T : Type 0} → List Cell → List T → Option ℕ → Option Fault
look_fault cs ls None = Some (own_fault PlaceEmpty)
look_fault cs ls (Some c) = cond (nat_lt c (length cs) && nat_lt c (length ls)) None (Some damaged)

-- look at reading place a: 3 for a
abbrev pub look_refusal : {T : Type 0} → World T → ℕ → ℕ → Option Fault
look_refusal w p a = admits w p (nat_lt a 8) column.Look (look_fault w.cells w.leaves (reading_at w p a))

-- the leaf and the fields of the cell in reading place a are shown; nothing changes
pub record LooksInto {T : Type 0} (p a : ℕ) (s : Shown T) (w v : World T) : Type 0 where
  pub cell : ℕ
  pub start : reading_at w p a ≡ Some cell
  pub shows : LooksAt w.cells w.leaves cell (Ok s)
  pub after : v ≡ w

abbrev pub Looks : {T : Type 0} → ℕ → ℕ → Result (Shown T) Fault → World T → World T → Type 0
Looks p a r w v = Turns (look_refusal w p a) w v (λ s. LooksInto p a s w v) r
