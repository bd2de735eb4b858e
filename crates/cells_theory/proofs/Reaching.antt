-- Which cells are used, and how high a count can be.
use Rattle.std.proofs.Common.{◌≡◌, ℕ, zero, suc, ◌+◌, ◌*◌, ◌<◌, ◌≤◌, ltb, ◌⊎◌, List, [], length, sym, ap, ◌∙◌, inl, inr, ⊎_elim, arith}
use Rattle.std.proofs.lemmas.List.{get_or_past}
use Rattle.std.proofs.lemmas.Bool.{cases_eq, cases_lt, lt-ltb, le-ltb, cond-true, cond-false}
use Rattle.cells_theory.specs.declared.cell.Cell.{Cell}
use Rattle.cells_theory.specs.declared.cell.Field.TheVariants as field
use Rattle.cells_theory.specs.Memory.{Memory, cell, count_at, field_at, nth}
use Rattle.cells_theory.specs.Look.{count_answer}
use Rattle.cells_theory.specs.Trees.{Reaches, here, down}
use Rattle.cells_theory.specs.Sound.{times, naming, Sound, Waits, Used}
use Rattle.cells_theory.specs.Promises.{Live, Reachable, CountPromises}
use Rattle.cells_theory.proofs.Counting.{naming_at, naming_find, naming_low, times_low}
use Rattle.cells_theory.proofs.Chains.{chain_in, free_in, in_waits, waits_in, in_free}
use Rattle.cells_theory.proofs.Counts.{named_live, live_not_free, live_not_waiting}
use Rattle.cells_theory.proofs.Frames.{field_below}
use Rattle.cells_theory.proofs.Sweeping.{empty_names}

-- the sum of the ranks of the first n cells is above each of them
abbrev top : (ℕ → ℕ) → ℕ → ℕ
top r zero = 0
top r (suc n) = r n + top r n

below_top : (r : ℕ → ℕ) (n c : ℕ) → c < n → r c ≤ top r n
below_top r zero c l = absurd (omega arith)
below_top r (suc n) c l = ⊎_elim (λ e. omega (arith, ap r e)) (λ k. omega (arith, below_top r n c (omega (arith, l, k)))) (cases_eq c n)

module _ (m : Memory) (names : List ℕ) (s : Sound m names) where
  -- what a field names is live
  field_live : (d k c : ℕ) → k < 4 → field_at m.cells d k ≡ field.Cell c → Live m c
  field_live d k c l h =
      let lc = s.within d k c l h in
      (lc, omega (arith, s.counted c lc, naming_at m.cells c d k (field_below m.cells d k c h) l h))

  -- what an outside name reaches is live
  pub reached_live : (e c : ℕ) → 0 < times e names → Reaches m.cells e c → Live m c
  reached_live e c p here = named_live m names e s p
  reached_live e c p (down {d = d} k l r h) = field_live d k c l h

  pub live_used : (c : ℕ) → Live m c → Used m c
  live_used c lc = (lc.0, λ f. omega (arith, free_in m names s c f, live_not_free m names s c lc))

  pub live_waits_not : (c : ℕ) → Live m c → Waits m c → ⊥
  live_waits_not c lc w = omega (arith, waits_in m names s c w, live_not_waiting m names s c lc)

  waits_used : (c : ℕ) → Waits m c → Used m c
  waits_used c w =
      let p = waits_in m names s c w in
      (chain_in m.cells m.heads.waiting s.waiting c s.waiting_chain p, λ f. omega (arith, p, free_in m names s c f, s.distinct c))

  end_used : (e c : ℕ) → (0 < times e names) ⊎ Waits m e → Reaches m.cells e c → Used m c
  end_used e c f here = ⊎_elim (λ p. live_used c (named_live m names c s p)) (λ w. waits_used c w) f
  end_used e c f (down {d = d} k l r h) = live_used c (field_live d k c l h)

  not_free : (c : ℕ) → Used m c → times c s.free ≡ 0
  not_free c u = ⊎_elim (λ p. absurd (u.1 (in_free m names s c p))) (λ n. omega (arith, n)) (cases_lt 0 (times c s.free))

  -- a cell with a field that names another is used
  full_used : (d k c : ℕ) → k < 4 → field_at m.cells d k ≡ field.Cell c → Used m d
  full_used d k c l h = (field_below m.cells d k c h, λ f. empty_names k c l (sym (ap (λ fs. nth fs k) (s.blank d (free_in m names s d f)).1) ∙ h))

  -- a used cell is named from outside, waits, or is named by a field
  settled : (c : ℕ) → Used m c → ((d k : ℕ) → d < length m.cells → k < 4 → field_at m.cells d k ≡ field.Cell c → Reachable m names c) → Reachable m names c
  settled c u higher =
      ⊎_elim
      (λ p. record { start = c; from = inl p; path = here })
      (λ n. ⊎_elim
      (λ p. let f = naming_find m.cells c p in higher f.0 f.2.0 f.1 f.2.1 f.2.2)
      (λ z. record { start = c; from = inr (in_waits m names s c (omega (arith, s.waits c u.0 (omega (arith, s.counted c u.0, n, z)), not_free c u))); path = here })
      (cases_lt 0 (naming c m.cells)))
      (cases_lt 0 (times c names))

  -- up from a used cell, to one that the outside names or that waits
  climb : (fuel c : ℕ) → Used m c → top s.rank (length m.cells) ≤ s.rank c + fuel → Reachable m names c
  climb zero c u up = settled c u (λ d k ld lk h. absurd (omega (arith, s.falls d k c lk h, below_top s.rank (length m.cells) d ld, up)))
  climb (suc fuel) c u up = settled c u (λ d k ld lk h.
      let r = climb fuel d (full_used d k c lk h) (omega (arith, up, s.falls d k c lk h)) in
      record { start = r.start; from = r.from; path = down k lk r.path h })

  pub count_bound : (c : ℕ) → count_at m.cells c ≤ 4 * length m.cells + length names
  count_bound c =
      ⊎_elim
      (λ l. omega (arith, s.counted c l, naming_low c m.cells, times_low c names))
      (λ past. omega (arith, ap (λ (x : Cell). x.count) (get_or_past m.cells c (cell 0 0 []) past)))
      (cases_lt c (length m.cells))

  pub count_promises : (c n : ℕ) → n ≡ count_answer m.cells c → CountPromises m names c n
  count_promises c n q =
      let e : n ≡ count_at m.cells c = q ∙ count_is in
      record {
        used = λ d p r. live_used c (reached_live d c p r);
        waits_not = λ d p r. live_waits_not c (reached_live d c p r);
        positive = λ d p r. omega (arith, e, (reached_live d c p r).1);
        used_reachable = λ u. climb (top s.rank (length m.cells)) c u (omega arith);
        reachable_used = λ r. end_used r.start c r.from r.path;
        bound = omega (arith, e, count_bound c);
      }
    where
      count_is : count_answer m.cells c ≡ count_at m.cells c
      count_is =
          ⊎_elim
          (λ l. cond-true (ltb c (length m.cells)) (count_at m.cells c) 0 (lt-ltb c (length m.cells) l))
          (λ past. cond-false (ltb c (length m.cells)) (count_at m.cells c) 0 (le-ltb c (length m.cells) past)
          ∙ sym (ap (λ (x : Cell). x.count) (get_or_past m.cells c (cell 0 0 []) past)))
          (cases_lt c (length m.cells))
