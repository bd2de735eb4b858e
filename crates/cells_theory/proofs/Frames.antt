-- A tree stays, and a path stays, where every cell that can be reached stays.
use Rattle.std.proofs.Common.{◌≡◌, ℕ, ◌<◌, List, [], length, get_or, sym, refl, ap, ◌∙◌, subst, ⊎_elim, arith}
use Rattle.std.proofs.lemmas.List.{get_or_past}
use Rattle.std.proofs.lemmas.Bool.{cases_lt}
use Rattle.cells_theory.specs.declared.cell.Cell.{Cell}
use Rattle.cells_theory.specs.declared.cell.Field.{Field}
use Rattle.cells_theory.specs.declared.cell.Field.TheVariants as field
use Rattle.cells_theory.specs.Memory.{cell, fields_at, field_at, nth}
use Rattle.cells_theory.specs.Trees.{Tree, empty, number, node, Stands, Reaches, here, down}
use Rattle.cells_theory.specs.Sound.{naming}
use Rattle.cells_theory.proofs.Counting.{naming_at}

-- the cells P: what their fields name is among them, and they have the fields and leaves that they had
pub record Frame {T : Type 0} (P : ℕ → Type 0) (cs ds : List Cell) (ls ms : List T) : Type 0 where
  pub closed : (c k d : ℕ) → k < 4 → P c → field_at cs c k ≡ field.Cell d → P d
  pub fields : (c k : ℕ) → P c → field_at ds c k ≡ field_at cs c k
  pub leaf : (c : ℕ) (d : T) → P c → get_or ms c d ≡ get_or ls c d

pub cell_is : (d e : ℕ) → field.Cell d ≡ field.Cell e → d ≡ e
cell_is d e q = cc

-- a cell that a field names is among P
abbrev pub Names : (ℕ → Type 0) → Field → Type 0
Names P f = (c : ℕ) → f ≡ field.Cell c → P c

pub framed : {T : Type 0} {cs ds : List Cell} {ls ms : List T} (P : ℕ → Type 0) → Frame P cs ds ls ms → (f : Field) (t : Tree T) → Names P f → Stands cs ls f t → Stands ds ms f t
framed P o field.Empty empty n s = tt
framed P o (field.Number m) empty n s = absurd s
framed P o (field.Cell c) empty n s = absurd s
framed P o field.Empty (number i) n s = absurd s
framed P o (field.Number m) (number i) n s = s
framed P o (field.Cell c) (number i) n s = absurd s
framed P o field.Empty (node t x₀ x₁ x₂ x₃) n s = absurd s
framed P o (field.Number m) (node t x₀ x₁ x₂ x₃) n s = absurd s
framed {T} {cs} {ds} {ls} {ms} P o (field.Cell c) (node t x₀ x₁ x₂ x₃) n s =
    let p = n c refl in (
      λ d. o.leaf c d p ∙ s.0 d,
      subst (λ (f : Field). Stands ds ms f x₀) (sym (o.fields c 0 p)) (framed P o (field_at cs c 0) x₀ (λ d e. o.closed c 0 d (omega arith) p e) s.1),
      subst (λ (f : Field). Stands ds ms f x₁) (sym (o.fields c 1 p)) (framed P o (field_at cs c 1) x₁ (λ d e. o.closed c 1 d (omega arith) p e) s.2),
      subst (λ (f : Field). Stands ds ms f x₂) (sym (o.fields c 2 p)) (framed P o (field_at cs c 2) x₂ (λ d e. o.closed c 2 d (omega arith) p e) s.3),
      subst (λ (f : Field). Stands ds ms f x₃) (sym (o.fields c 3 p)) (framed P o (field_at cs c 3) x₃ (λ d e. o.closed c 3 d (omega arith) p e) s.4),
    )

pub walked : {T : Type 0} {cs ds : List Cell} {ls ms : List T} (P : ℕ → Type 0) → Frame P cs ds ls ms → (c d : ℕ) → P c → Reaches cs c d → P d × Reaches ds c d
walked P o c d p here = (p, here)
walked P o c d p (down {d = e} k l r h) =
    let w = walked P o c e p r in
    (o.closed e k d l w.0 h, down k l w.1 (o.fields e k w.0 ∙ h))

-- a field that names a cell stands in one
pub field_below : (cs : List Cell) (c k d : ℕ) → field_at cs c k ≡ field.Cell d → c < length cs
field_below cs c k d e =
    ⊎_elim (λ l. l)
    (λ past. let q : field_at cs c k ≡ field.Empty = ap (λ (x : Cell). nth x.fields k) (get_or_past cs c (cell 0 0 []) past) in
    let z : ◌≡◌ {A = ℕ} 0 1 = cc in absurd (omega arith))
    (cases_lt c (length cs))

-- where no field names a cell, none leads to it
pub unnamed : (cs : List Cell) (c d k : ℕ) → naming c cs ≡ 0 → k < 4 → field_at cs d k ≡ field.Cell c → ⊥
unnamed cs c d k z l e = omega (arith, z, naming_at cs c d k (field_below cs d k c e) l e)

-- all cells but one that nothing names, with their fields and leaves as they were
pub all_but : {T : Type 0} (cs ds : List Cell) (ls ms : List T) (c : ℕ) → naming c cs ≡ 0 → ((d : ℕ) → (d ≡ c → ⊥) → fields_at ds d ≡ fields_at cs d)
    → ((d : ℕ) (x : T) → (d ≡ c → ⊥) → get_or ms d x ≡ get_or ls d x) → Frame (λ d. d ≡ c → ⊥) cs ds ls ms
all_but cs ds ls ms c z fs gs = record {
  closed = λ d k e l p h q. unnamed cs c d k z l (h ∙ ap field.Cell q);
  fields = λ d k p. ap (λ f. nth f k) (fs d p);
  leaf = λ d x p. gs d x p;
}

-- no field changes
pub same_fields : {T : Type 0} (cs ds : List Cell) (ls : List T) → ((d : ℕ) → fields_at ds d ≡ fields_at cs d) → Frame (λ _. Unit {0}) cs ds ls ls
same_fields cs ds ls fs = record { closed = λ c k d l p h. tt; fields = λ c k p. ap (λ f. nth f k) (fs c); leaf = λ c d p. refl }

pub kept_stands : {T : Type 0} (cs ds : List Cell) (ls : List T) → ((d : ℕ) → fields_at ds d ≡ fields_at cs d) → (f : Field) (t : Tree T) → Stands cs ls f t → Stands ds ls f t
kept_stands cs ds ls fs f t s = framed (λ _. Unit {0}) (same_fields cs ds ls fs) f t (λ c e. tt) s

pub kept_reaches : (cs ds : List Cell) → ((d : ℕ) → fields_at ds d ≡ fields_at cs d) → (c d : ℕ) → Reaches cs c d → Reaches ds c d
kept_reaches cs ds fs c d r = (walked {ls = []} (λ _. Unit {0}) (same_fields {T = ℕ} cs ds [] fs) c d tt r).1

-- one path after another
pub onward : (cs : List Cell) (c d e : ℕ) → Reaches cs c d → Reaches cs d e → Reaches cs c e
onward cs c d e p here = p
onward cs c d e p (down {d = x} k l r h) = down k l (onward cs c d x p r) h
