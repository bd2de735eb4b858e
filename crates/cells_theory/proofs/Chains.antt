-- Chains: what is written to other cells, or leaves the links, does not matter to them, and there is one from each head.
use Rattle.std.proofs.Common.{◌≡◌, ℕ, ◌<◌, List, [], ◌∷◌, length, sym, refl, ap, ◌∙◌, subst, ⊎_elim, arith}
use Rattle.std.proofs.lemmas.Bool.{cases_eq}
use Rattle.cells_theory.specs.declared.cell.Cell.{Cell}
use Rattle.cells_theory.specs.Memory.{Memory, none, link_at}
use Rattle.cells_theory.specs.Sound.{times, Chain, InChain, Sound, Free, Waits}
use Rattle.cells_theory.proofs.Counting.{same_not, times_here}

pub chain_like : (cs ds : List Cell) (h : ℕ) (xs : List ℕ) → length ds ≡ length cs → ((c : ℕ) → 0 < times c xs → link_at ds c ≡ link_at cs c) → Chain cs h xs → Chain ds h xs
chain_like cs ds h [] n eq ch = ch
chain_like cs ds h (x ∷ xs) n eq ch = (
  ch.0,
  ch.1,
  omega (arith, ch.2, n),
  subst (λ l. Chain ds l xs) (sym (eq x (times_here x xs))) (chain_like cs ds (link_at cs x) xs n (λ c p. eq c (omega (arith, p))) ch.3),
)

pub chain_in : (cs : List Cell) (h : ℕ) (xs : List ℕ) (c : ℕ) → Chain cs h xs → 0 < times c xs → c < length cs
chain_in cs h [] c ch p = absurd (omega arith)
chain_in cs h (x ∷ xs) c ch p =
    ⊎_elim (λ e. omega (arith, e, ch.2)) (λ n. chain_in cs (link_at cs x) xs c ch.3 (omega (arith, p, same_not c x n))) (cases_eq c x)

pub chain_head : (cs : List Cell) (h : ℕ) (xs : List ℕ) → Chain cs h xs → (h ≡ none → ⊥) → (rest : List ℕ) × (xs ≡ h ∷ rest)
chain_head cs h [] ch n = absurd (n ch)
chain_head cs h (x ∷ rest) ch n = (rest, ap (λ y. y ∷ rest) (sym ch.0))

pub chain_none : (cs : List Cell) (h : ℕ) (xs : List ℕ) → Chain cs h xs → h ≡ none → xs ≡ []
chain_none cs h [] ch e = refl
chain_none cs h (x ∷ rest) ch e = absurd (omega (arith, e, ch.0, ch.1))

cons_eq : {c d : ℕ} {cs ds : List ℕ} → c ≡ d → cs ≡ ds → c ∷ cs ≡ d ∷ ds
cons_eq p q = cc

pub single : (cs : List Cell) (h : ℕ) (xs ys : List ℕ) → Chain cs h xs → Chain cs h ys → xs ≡ ys
single cs h [] [] a b = refl
single cs h [] (y ∷ ys) a b = absurd (omega (arith, a, b.0, b.1))
single cs h (x ∷ xs) [] a b = absurd (omega (arith, b, a.0, a.1))
single cs h (x ∷ xs) (y ∷ ys) a b =
    let e : x ≡ y = sym a.0 ∙ b.0 in
    cons_eq e (single cs (link_at cs x) xs ys a.3 (subst (λ z. Chain cs (link_at cs z) ys) (sym e) b.3))

-- a cell is in a chain exactly where it stands in the list of its cells
pub in_list : (cs : List Cell) (h c : ℕ) (xs : List ℕ) → Chain cs h xs → InChain cs h c → 0 < times c xs
in_list cs h c xs ch i = subst (λ ys. 0 < times c ys) (single cs h i.members xs i.chain ch) i.in_it

pub in_chain : (cs : List Cell) (h c : ℕ) (xs : List ℕ) → Chain cs h xs → 0 < times c xs → InChain cs h c
in_chain cs h c xs ch p = record { members = xs; chain = ch; in_it = p }

module _ (m : Memory) (names : List ℕ) (s : Sound m names) (c : ℕ) where
  pub free_in : Free m c → 0 < times c s.free
  free_in = in_list m.cells m.heads.free c s.free s.free_chain

  pub in_free : 0 < times c s.free → Free m c
  in_free = in_chain m.cells m.heads.free c s.free s.free_chain

  pub waits_in : Waits m c → 0 < times c s.waiting
  waits_in = in_list m.cells m.heads.waiting c s.waiting s.waiting_chain

  pub in_waits : 0 < times c s.waiting → Waits m c
  in_waits = in_chain m.cells m.heads.waiting c s.waiting s.waiting_chain
