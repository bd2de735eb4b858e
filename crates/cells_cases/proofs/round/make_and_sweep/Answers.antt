-- Each call hands a sound memory on to the next.
use Rattle.std.proofs.Common.{◌≡◌, ℕ, zero, suc, List, [], ◌∷◌, Result, sym, subst, arith}
use Rattle.keeper.specs.declared.fault.Fault.{Fault}
use Rattle.cells_theory.specs.declared.cell.Cell.{Cell}
use Rattle.cells_theory.specs.declared.cell.Heads.{Heads}
use Rattle.cells_theory.specs.declared.cell.Field.{Field}
use Rattle.cells_theory.specs.declared.cell.Field.TheVariants as field
use Rattle.cells_theory.specs.Memory.{Memory, memory}
use Rattle.cells_theory.specs.Sound.{Sound}
use Rattle.cells_theory.specs.Promises.{Live, LiveFields}
use Rattle.cells_theory.proofs.Counts.{named_live}
use Rattle.cells_theory.proofs.Steps.{after_build, after_sweep, built}
use Rattle.cells_cases.proofs.round.make_and_sweep.Goals as goal
use Rattle.cells_cases.proofs.round.make_and_sweep.Goals.{in-Ok, in_default}

abbrev twice : List Field
twice = field.Cell 0 ∷ field.Empty ∷ field.Number 5 ∷ field.Cell 0 ∷ []

named : (m : Memory) (c : ℕ) → Live m 0 → field.Cell 0 ≡ field.Cell c → Live m c
named m c l e = let q : 0 ≡ c = cc in subst (λ i. Live m i) q l

twice_live : (m : Memory) → Live m 0 → LiveFields m twice
twice_live m l zero c h e = named m c l e
twice_live m l (suc zero) c h e = let z : ◌≡◌ {A = ℕ} 0 1 = cc in absurd (omega arith)
twice_live m l (suc (suc zero)) c h e = let z : ◌≡◌ {A = ℕ} 0 1 = cc in absurd (omega arith)
twice_live m l (suc (suc (suc zero))) c h e = named m c l e
twice_live m l (suc (suc (suc (suc k)))) c h e = absurd (omega arith)

-- a memory whose parts are known under other names
moved : (h i : Heads) (cs ds : List Cell) (names : List ℕ) → h ≡ i → cs ≡ ds → Sound (memory i ds) names → Sound (memory h cs) names
moved h i cs ds names p q s = subst (λ (j : Heads). Sound (memory j cs) names) (sym p) (subst (λ (es : List Cell). Sound (memory i es) names) (sym q) s)

pub returns : goal.returns
returns g c = λ some few leaf.
    let names : List ℕ = 0 ∷ [] in
    let m₀ = memory c.make-heads.result c.make-heads.new.cells in
    let m₁ = memory c.build-built.new.heads c.build-built.new.cells in
    let m₂ = memory c.match-built.heads c.match-built.cells in
    let s₀ : Sound m₀ names = (c.make-heads.ensures.promises (omega arith) (omega arith) (omega arith)).sound in
    let s₁ : Sound m₁ (built c.build-built.result names) =
    after_build twice c.args.leaf m₀ c.make-heads.new.leaves c.build-built.result m₁ c.build-built.new.leaves names c.build-built.ensures.promises c.build-built.ensures.after (twice_live m₀ (named_live m₀ names 0 s₀ (omega arith))) s₀ in
    let s₂ : Sound m₂ names = elim c.match-built.branch [
      | in-Ok w ↦ moved c.match-built.heads w.let_go.new.heads c.match-built.cells w.let_go.new.cells names w.heads-is w.cells-is
          (w.let_go.ensures.promises.sound (w.in-Ok.c ∷ names) names (λ d. omega arith) (subst (λ (r : Result ℕ Fault). Sound m₁ (built r names)) w.in-Ok.is s₁))
      | in_default w ↦ moved c.match-built.heads c.build-built.new.heads c.match-built.cells c.build-built.new.cells names w.heads-is w.cells-is
          (subst (λ (r : Result ℕ Fault). Sound m₁ (built r names)) w.in_default.is s₁)
    ] in
    after_sweep m₂ c.build-built.new.leaves c.sweep.result (memory c.sweep.new.heads c.sweep.new.cells) names c.sweep.ensures.promises c.sweep.ensures.after s₂
