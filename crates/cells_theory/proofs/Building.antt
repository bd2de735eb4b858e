-- A build raises the cells that its fields name, so that the outside names them once more for each field, and then puts these names
-- into the fields of a cell that was free.
use Rattle.std.proofs.Common.{◌≡◌, ℕ, zero, suc, ◌+◌, ◌-◌, ◌*◌, ◌<◌, ◌≤◌, Bool, true, false, cond, ◌&&◌, eqb, ltb, leb, List, ◌∷◌, length, set, Ok, Err, Result, sym, refl, ap, ◌∙◌, subst, ⊎_elim, arith}
use Rattle.std.proofs.lemmas.List.{length-set, get_or-set_same, get_or-set_other}
use Rattle.std.proofs.lemmas.Bool.{cases_eq, eq-eqb, ne_eqb, lt-ltb, le-leb, and_from, and_parts, ltb-true, leb-true, eqb-false, cond-true, cond-false}
use Rattle.keeper.specs.declared.fault.Fault.{Fault}
use Rattle.cells_theory.specs.declared.cell.Cell.{Cell}
use Rattle.cells_theory.specs.declared.cell.Heads.{Heads}
use Rattle.cells_theory.specs.declared.cell.Field.{Field}
use Rattle.cells_theory.specs.declared.cell.Field.TheVariants as field
use Rattle.cells_theory.specs.Memory.{Memory, memory, cell, none, four_empty, count_at, link_at, fields_at, field_at, nth, same, name_of, names_in, no_free_cell, damaged}
use Rattle.cells_theory.specs.Build.{raise_field, raise_four, raisable, all_raisable, fillable, fill, build_answer, build_memory, build_leaves}
use Rattle.cells_theory.specs.Trees.{Tree, Stands}
use Rattle.cells_theory.specs.Sound.{times, naming, Chain, Sound, Free, Used}
use Rattle.cells_theory.specs.Promises.{LiveFields, BuildCounts, BuildKeeps, BuildPromises}
use Rattle.cells_theory.proofs.Counting.{same_self, same_is, same_not, name_of_is, names_in_at, names_in_low, naming_set, naming_less, times_low, on_set, fields_kept, links_kept, cell_other, cell_same, below_set, below_in, times_here}
use Rattle.cells_theory.proofs.Chains.{chain_like, chain_head, in_free}
use Rattle.cells_theory.proofs.Counts.{raise_is, raised, hold, times_hold}
use Rattle.cells_theory.proofs.Frames.{Frame, framed, walked, unnamed, all_but, cell_is}

-- the cell that a field names is there, and may be raised; it is live
abbrev May : List Cell → Field → Type 0
May cs f = (c : ℕ) → f ≡ field.Cell c → (c < length cs) × (count_at cs c ≤ 999990)

abbrev Alive : List Cell → Field → Type 0
Alive cs f = (c : ℕ) → f ≡ field.Cell c → 0 < count_at cs c

raise_field_sound : (h : Heads) (cs : List Cell) (names : List ℕ) (f : Field) → May cs f → Alive cs f → Sound (memory h cs) names → Sound (memory h (raise_field f cs)) (hold f names)
raise_field_sound h cs names field.Empty r a s = s
raise_field_sound h cs names (field.Number n) r a s = s
raise_field_sound h cs names (field.Cell c) r a s = let t = r c refl in raised (memory h cs) names c s (t.0, a c refl) t.1

-- what a raise leaves: so many cells, their fields and links, and so much more of each count
record Risen (cs ds : List Cell) (n : ℕ → ℕ) : Type 0 where
  long : length ds ≡ length cs
  counts : (d : ℕ) → count_at ds d ≡ count_at cs d + n d
  fields : (d : ℕ) → fields_at ds d ≡ fields_at cs d

risen_none : (cs : List Cell) → Risen cs cs (λ d. 0)
risen_none cs = record { long = refl; counts = λ d. omega arith; fields = λ d. refl }

risen : (cs : List Cell) (f : Field) → May cs f → Risen cs (raise_field f cs) (λ d. name_of d f)
risen cs field.Empty r = risen_none cs
risen cs (field.Number n) r = risen_none cs
risen cs (field.Cell c) r =
    let t = r c refl in
    let x = cell (count_at cs c + 1) (link_at cs c) (fields_at cs c) in
    subst (λ (ds : List Cell). Risen cs ds (λ d. same d c)) (sym (raise_is cs c t.0 t.1)) (record {
      long = length-set cs c x;
      counts = λ d. on_set cs c x t.0 (λ y. y.count ≡ count_at cs d + same d c) d
          (λ e. omega (arith, same_is d c e, ap (count_at cs) e)) (λ n. omega (arith, same_not d c n));
      fields = fields_kept cs c x t.0 refl;
    })

-- the cells that the fields name may be raised so often
abbrev AllMay : List Cell → List Field → Type 0
AllMay cs fs = (k c : ℕ) → k < 4 → nth fs k ≡ field.Cell c → (c < length cs) × (count_at cs c + names_in c fs ≤ 999991)

-- four raises in a row
record Lifted (cs : List Cell) (fs : List Field) : Type 0 where
  may₀ : May cs (nth fs 0)
  may₁ : May (raise_field (nth fs 0) cs) (nth fs 1)
  may₂ : May (raise_field (nth fs 1) (raise_field (nth fs 0) cs)) (nth fs 2)
  may₃ : May (raise_field (nth fs 2) (raise_field (nth fs 1) (raise_field (nth fs 0) cs))) (nth fs 3)
  all : Risen cs (raise_four fs cs) (λ d. names_in d fs)

lifted : (cs : List Cell) (fs : List Field) → AllMay cs fs → Lifted cs fs
lifted cs fs r =
    let f₀ = nth fs 0 in
    let f₁ = nth fs 1 in
    let f₂ = nth fs 2 in
    let f₃ = nth fs 3 in
    let c₁ = raise_field f₀ cs in
    let c₂ = raise_field f₁ c₁ in
    let c₃ = raise_field f₂ c₂ in
    let r₀ : May cs f₀ = λ c e. let t = r 0 c (omega arith) e in (t.0, omega (arith, t.1, name_of_is c f₀ e)) in
    let w₀ = risen cs f₀ r₀ in
    let r₁ : May c₁ f₁ = λ c e. let t = r 1 c (omega arith) e in (omega (arith, t.0, w₀.long), omega (arith, t.1, name_of_is c f₁ e, w₀.counts c)) in
    let w₁ = risen c₁ f₁ r₁ in
    let r₂ : May c₂ f₂ = λ c e. let t = r 2 c (omega arith) e in
    (omega (arith, t.0, w₀.long, w₁.long), omega (arith, t.1, name_of_is c f₂ e, w₀.counts c, w₁.counts c)) in
    let w₂ = risen c₂ f₂ r₂ in
    let r₃ : May c₃ f₃ = λ c e. let t = r 3 c (omega arith) e in
    (omega (arith, t.0, w₀.long, w₁.long, w₂.long), omega (arith, t.1, name_of_is c f₃ e, w₀.counts c, w₁.counts c, w₂.counts c)) in
    let w₃ = risen c₃ f₃ r₃ in
    record {
      may₀ = r₀;
      may₁ = r₁;
      may₂ = r₂;
      may₃ = r₃;
      all = record {
        long = w₃.long ∙ w₂.long ∙ w₁.long ∙ w₀.long;
        counts = λ d. omega (arith, w₀.counts d, w₁.counts d, w₂.counts d, w₃.counts d);
        fields = λ d. w₃.fields d ∙ w₂.fields d ∙ w₁.fields d ∙ w₀.fields d;
      };
    }

-- the outside names what the four fields name, too
record Raised (h : Heads) (cs : List Cell) (fs : List Field) (names : List ℕ) : Type 0 where
  held : List ℕ
  holds : (d : ℕ) → times d held ≡ names_in d fs + times d names
  sound : Sound (memory h (raise_four fs cs)) held

raised_four : (h : Heads) (cs : List Cell) (fs : List Field) (names : List ℕ) → Lifted cs fs → ((k : ℕ) → k < 4 → Alive cs (nth fs k)) → Sound (memory h cs) names → Raised h cs fs names
raised_four h cs fs names r a s =
    let f₀ = nth fs 0 in
    let f₁ = nth fs 1 in
    let f₂ = nth fs 2 in
    let f₃ = nth fs 3 in
    let c₁ = raise_field f₀ cs in
    let c₂ = raise_field f₁ c₁ in
    let c₃ = raise_field f₂ c₂ in
    let w₀ = risen cs f₀ r.may₀ in
    let w₁ = risen c₁ f₁ r.may₁ in
    let w₂ = risen c₂ f₂ r.may₂ in
    let n₁ = hold f₀ names in
    let n₂ = hold f₁ n₁ in
    let n₃ = hold f₂ n₂ in
    let s₁ = raise_field_sound h cs names f₀ r.may₀ (a 0 (omega arith)) s in
    let s₂ = raise_field_sound h c₁ n₁ f₁ r.may₁ (λ c e. omega (arith, a 1 (omega arith) c e, w₀.counts c)) s₁ in
    let s₃ = raise_field_sound h c₂ n₂ f₂ r.may₂ (λ c e. omega (arith, a 2 (omega arith) c e, w₀.counts c, w₁.counts c)) s₂ in
    record {
      held = hold f₃ n₃;
      holds = λ d. omega (arith, times_hold f₀ names d, times_hold f₁ n₁ d, times_hold f₂ n₂ d, times_hold f₃ n₃ d);
      sound = raise_field_sound h c₃ n₃ f₃ r.may₃ (λ c e. omega (arith, a 3 (omega arith) c e, w₀.counts c, w₁.counts c, w₂.counts c)) s₃;
    }

-- the ranks of the cells that fields name
abbrev rank_of : (ℕ → ℕ) → Field → ℕ
rank_of r field.Empty = 0
rank_of r (field.Number n) = 0
rank_of r (field.Cell c) = r c

abbrev above : (ℕ → ℕ) → List Field → ℕ
above r fs = suc (((rank_of r (nth fs 0) + rank_of r (nth fs 1)) + rank_of r (nth fs 2)) + rank_of r (nth fs 3))

ranked : (r : ℕ → ℕ) (fs : List Field) (k c : ℕ) → k < 4 → nth fs k ≡ field.Cell c → r c < above r fs
ranked r fs zero c l e = omega (arith, ap (rank_of r) e)
ranked r fs (suc zero) c l e = omega (arith, ap (rank_of r) e)
ranked r fs (suc (suc zero)) c l e = omega (arith, ap (rank_of r) e)
ranked r fs (suc (suc (suc zero))) c l e = omega (arith, ap (rank_of r) e)
ranked r fs (suc (suc (suc (suc k)))) c l e = absurd (omega arith)

-- the first free cell gets fields, and the names that the outside held for them
module _ (m : Memory) (held names : List ℕ) (fs : List Field) (c : ℕ) (rest : List ℕ) (s : Sound m held) (isf : s.free ≡ c ∷ rest) (holds : (d : ℕ) → times d held ≡ names_in d fs + times d names) where
  fill_chain : Chain m.cells m.heads.free (c ∷ rest)
  fill_chain = subst (λ xs. Chain m.cells m.heads.free xs) isf s.free_chain

  fill_in : c < length m.cells
  fill_in = fill_chain.2

  fill_free : (d : ℕ) → 0 < times d (c ∷ rest) → 0 < times d s.free
  fill_free d p = subst (λ xs. 0 < times d xs) (sym isf) p

  fill_once : (d : ℕ) → times d (c ∷ rest) + times d s.waiting ≤ 1
  fill_once d = subst (λ xs. times d xs + times d s.waiting ≤ 1) isf (s.distinct d)

  fill_blank : (count_at m.cells c ≡ 0) × (fields_at m.cells c ≡ four_empty)
  fill_blank = s.blank c (fill_free c (times_here c rest))

  -- nothing names a free cell
  fill_unnamed : (naming c m.cells ≡ 0) × (names_in c fs ≡ 0) × (times c names ≡ 0)
  fill_unnamed =
      let e = s.counted c fill_in in
      (omega (arith, e, fill_blank.0), omega (arith, e, fill_blank.0, holds c), omega (arith, e, fill_blank.0, holds c))

  pub fill_named_not : (k : ℕ) → k < 4 → nth fs k ≡ field.Cell c → ⊥
  fill_named_not k l e = omega (arith, names_in_at c fs k l e, fill_unnamed.1)

  fill_within : (k d : ℕ) → k < 4 → nth fs k ≡ field.Cell d → d < length m.cells
  fill_within k d l e = s.named d (omega (arith, holds d, names_in_at d fs k l e))

  fill_naming : (d : ℕ) → naming d (fill c fs m).cells ≡ naming d m.cells + names_in d fs
  fill_naming d = omega (arith, naming_set m.cells c (cell 1 (link_at m.cells c) fs) d fill_in, ap (names_in d) fill_blank.1)

  fill_rank : ℕ → ℕ
  fill_rank d = cond (eqb d c) (above s.rank fs) (s.rank d)

  fill_rank_new : (d : ℕ) → d ≡ c → fill_rank d ≡ above s.rank fs
  unfolding fill_rank
  fill_rank_new d e = cond-true (eqb d c) (above s.rank fs) (s.rank d) (eq-eqb d c e)

  fill_rank_old : (d : ℕ) → (d ≡ c → ⊥) → fill_rank d ≡ s.rank d
  unfolding fill_rank
  fill_rank_old d n = cond-false (eqb d c) (above s.rank fs) (s.rank d) (ne_eqb d c n)

  pub filled : Sound (fill c fs m) (c ∷ names)
  filled =
      let cs = m.cells in
      let x = cell 1 (link_at cs c) fs in
      let ds = set cs c x in
      let l = fill_in in
      let others : (d : ℕ) → 0 < times d rest → d ≡ c → ⊥ = λ d p e. omega (arith, p, fill_once c, same_self c, ap (λ i. times i rest) e) in
      let rest_in : (d : ℕ) → 0 < times d rest → 0 < times d s.free = λ d p. fill_free d (omega (arith, p)) in
      record {
        few = omega (arith, s.few, length-set cs c x);
        free = rest;
        waiting = s.waiting;
        free_chain = chain_like cs ds (link_at cs c) rest (length-set cs c x) (λ d p. links_kept cs c x l refl d) fill_chain.3;
        waiting_chain = chain_like cs ds m.heads.waiting s.waiting (length-set cs c x) (λ d p. links_kept cs c x l refl d) s.waiting_chain;
        distinct = λ d. omega (arith, fill_once d);
        blank = λ d p. on_set cs c x l (λ y. (y.count ≡ 0) × (y.fields ≡ four_empty)) d (λ e. absurd (others d p e)) (λ n. s.blank d (rest_in d p));
        within = λ d k e lk. on_set cs c x l (λ y. nth y.fields k ≡ field.Cell e → e < length ds) d
            (λ q h. below_in cs c x e (fill_within k e lk h))
            (λ n h. below_in cs c x e (s.within d k e lk h));
        named = λ d p. below_in cs c x d (⊎_elim (λ e. omega (arith, e, l)) (λ n. s.named d (omega (arith, p, same_not d c n, holds d))) (cases_eq d c));
        counted = λ d ld. on_set cs c x l (λ y. y.count ≡ naming d ds + times d (c ∷ names)) d
            (λ e. subst (λ i. 1 ≡ naming i ds + times i (c ∷ names)) (sym e) (omega (arith, fill_naming c, fill_unnamed.0, fill_unnamed.1, fill_unnamed.2, same_self c)))
            (λ n. omega (arith, fill_naming d, s.counted d (below_set cs c x d ld), holds d, same_not d c n));
        idle = λ d p. on_set cs c x l (λ y. y.count ≡ 0) d
            (λ e. absurd (omega (arith, p, fill_once c, same_self c, ap (λ i. times i s.waiting) e)))
            (λ n. s.idle d p);
        waits = λ d ld. on_set cs c x l (λ y. y.count ≡ 0 → 0 < times d rest + times d s.waiting) d
            (λ e z. absurd (omega (arith, z)))
            (λ n z. omega (arith, subst (λ xs. 0 < times d xs + times d s.waiting) isf (s.waits d (below_set cs c x d ld) z), same_not d c n));
        rank = fill_rank;
        falls = λ d k e lk. on_set cs c x l (λ y. nth y.fields k ≡ field.Cell e → fill_rank e < fill_rank d) d
            (λ q h. omega (arith, ranked s.rank fs k e lk h, fill_rank_new d q, fill_rank_old e (λ z. fill_named_not k lk (h ∙ ap field.Cell z))))
            (λ n h. omega (arith, s.falls d k e lk h, fill_rank_old d n, fill_rank_old e (λ z. unnamed cs c d k fill_unnamed.0 lk (h ∙ ap field.Cell z))));
      }

-- what an accepted build tells
record Told (m : Memory) (leaves : ℕ) (fs : List Field) (c : ℕ) : Type 0 where
  first : c ≡ m.heads.free
  some : m.heads.free ≡ none → ⊥
  cells : m.heads.free < length m.cells
  leaf : m.heads.free < leaves
  raises : all_raisable m.cells fs ≡ true

told : (m : Memory) (leaves : ℕ) (fs : List Field) (c : ℕ) → Ok c ≡ build_answer m leaves fs → Told m leaves fs c
told m leaves fs c e = go (eqb m.heads.free none) (fillable m.cells leaves m.heads.free fs) refl refl e
  where
    go : (a b : Bool) → eqb m.heads.free none ≡ a → fillable m.cells leaves m.heads.free fs ≡ b → Ok c ≡ cond a (Err no_free_cell) (cond b (Ok m.heads.free) (Err damaged)) → Told m leaves fs c
    go true b p q e = let z : ◌≡◌ {A = ℕ} 0 1 = cc in absurd (omega arith)
    go false false p q e = let z : ◌≡◌ {A = ℕ} 0 1 = cc in absurd (omega arith)
    go false true p q e =
        let x = and_parts (ltb m.heads.free (length m.cells)) (ltb m.heads.free leaves && all_raisable m.cells fs) q in
        let y = and_parts (ltb m.heads.free leaves) (all_raisable m.cells fs) x.1 in
        record {
          first = cc;
          some = eqb-false m.heads.free none p;
          cells = ltb-true m.heads.free (length m.cells) x.0;
          leaf = ltb-true m.heads.free leaves y.0;
          raises = y.1;
        }

each_raisable : (cs : List Cell) (fs : List Field) → all_raisable cs fs ≡ true → (k : ℕ) → k < 4 → raisable cs fs (nth fs k) ≡ true
each_raisable cs fs h =
    let a = raisable cs fs (nth fs 0) in
    let b = raisable cs fs (nth fs 1) in
    let c = raisable cs fs (nth fs 2) in
    let d = raisable cs fs (nth fs 3) in
    let x = and_parts a (b && (c && d)) h in
    let y = and_parts b (c && d) x.1 in
    let z = and_parts c d y.1 in
    pick x.0 y.0 z.0 z.1
  where
    pick : raisable cs fs (nth fs 0) ≡ true → raisable cs fs (nth fs 1) ≡ true → raisable cs fs (nth fs 2) ≡ true → raisable cs fs (nth fs 3) ≡ true → (k : ℕ) → k < 4 → raisable cs fs (nth fs k) ≡ true
    pick a b c d zero l = a
    pick a b c d (suc zero) l = b
    pick a b c d (suc (suc zero)) l = c
    pick a b c d (suc (suc (suc zero))) l = d
    pick a b c d (suc (suc (suc (suc k)))) l = absurd (omega arith)

ready : (cs : List Cell) (fs : List Field) → all_raisable cs fs ≡ true → AllMay cs fs
ready cs fs h k c l e =
    let p = and_parts (ltb c (length cs)) (leb (count_at cs c) (999991 - names_in c fs)) (subst (λ f. raisable cs fs f ≡ true) e (each_raisable cs fs h k l)) in
    (ltb-true c (length cs) p.0, omega (arith, leb-true (count_at cs c) (999991 - names_in c fs) p.1, names_in_low c fs))

-- what an accepted build keeps
module _ {T : Type 0} (fs : List Field) (leaf : T) (m : Memory) (ls : List T) (names : List ℕ) (c : ℕ) (t : Told m (length ls) fs c) (s : Sound m names) (live : LiveFields m fs) where
  build_keeps : BuildKeeps fs leaf m (build_memory (Ok m.heads.free) fs m) ls (set ls m.heads.free leaf) m.heads.free names
  build_keeps =
      let cs = m.cells in
      let f = m.heads.free in
      let lift = lifted cs fs (ready cs fs t.raises) in
      let r = raised_four m.heads cs fs names lift (λ k l c e. (live k c l e).1) s in
      let m₁ = memory m.heads (raise_four fs cs) in
      let ch = chain_head m₁.cells f r.sound.free r.sound.free_chain t.some in
      let x = cell 1 (link_at m₁.cells f) fs in
      let n = fill f fs m₁ in
      let ms = set ls f leaf in
      let own = chain_head cs f s.free s.free_chain t.some in
      let at_first : 0 < times f s.free = subst (λ xs. 0 < times f xs) (sym own.1) (times_here f own.0) in
      let free : Free m f = in_free m names s f at_first in
      let zero_count : count_at cs f ≡ 0 = (s.blank f at_first).0 in
      let l₁ : f < length m₁.cells = omega (arith, t.cells, lift.all.long) in
      let frame : Frame (λ d. d ≡ f → ⊥) cs n.cells ls ms =
      all_but cs n.cells ls ms f (omega (arith, s.counted f t.cells, zero_count))
      (λ d k. ap (λ (y : Cell). y.fields) (cell_other m₁.cells f x d k) ∙ lift.all.fields d)
      (λ d y k. get_or-set_other ls f d leaf y k) in
      let used : (d : ℕ) → Used m d → d ≡ f → ⊥ = λ d u q. u.1 (subst (λ i. Free m i) (sym q) free) in
      let part : (k : ℕ) → k < 4 → (x : Tree T) → Stands cs ls (nth fs k) x → Stands n.cells ms (field_at n.cells f k) x =
      λ k l x st. subst (λ (g : Field). Stands n.cells ms g x) (sym (ap (λ (y : Cell). nth y.fields k) (cell_same m₁.cells f (cell 1 (link_at m₁.cells f) fs) l₁)))
      (framed (λ d. d ≡ f → ⊥) frame (nth fs k) x (λ e q z. omega (arith, (live k e l q).1, zero_count, ap (count_at cs) z)) st) in
      record {
        sound = filled m₁ r.held names fs f ch.0 r.sound ch.1 r.holds;
        was_free = free;
        stands = λ d x u st. framed (λ d. d ≡ f → ⊥) frame (field.Cell d) x (λ e q. used e (subst (λ i. Used m i) (cell_is d e q) u)) st;
        reaches = λ d e u p. (walked (λ d. d ≡ f → ⊥) frame d e (used d u) p).1;
        new = λ t₀ t₁ t₂ t₃ s₀ s₁ s₂ s₃. (
          λ d. get_or-set_same ls f leaf d t.leaf,
          part 0 (omega arith) t₀ s₀,
          part 1 (omega arith) t₁ s₁,
          part 2 (omega arith) t₂ s₂,
          part 3 (omega arith) t₃ s₃,
        );
      }

-- a build of live cells is refused only because no cell is free, while so many fields and names are few enough
raisable_if : (cs : List Cell) (fs : List Field) (f : Field) → ((c : ℕ) → f ≡ field.Cell c → (c < length cs) × (count_at cs c ≤ 999991 - names_in c fs)) → raisable cs fs f ≡ true
raisable_if cs fs field.Empty h = refl
raisable_if cs fs (field.Number n) h = refl
raisable_if cs fs (field.Cell c) h = and_from (ltb c (length cs)) (leb (count_at cs c) (999991 - names_in c fs)) (lt-ltb c (length cs) (h c refl).0) (le-leb (count_at cs c) (999991 - names_in c fs) (h c refl).1)

module _ (fs : List Field) (m : Memory) (leaves : ℕ) (names : List ℕ) (s : Sound m names) (live : LiveFields m fs) (long : length m.cells ≤ leaves) (few : 4 * length m.cells + length names ≤ 999990) where
  can_fill : (m.heads.free ≡ none → ⊥) → fillable m.cells leaves m.heads.free fs ≡ true
  can_fill some =
      let cs = m.cells in
      let f = m.heads.free in
      let own = chain_head cs f s.free s.free_chain some in
      let l : f < length cs = (subst (λ xs. Chain cs f xs) own.1 s.free_chain).2 in
      let blank = s.blank f (subst (λ xs. 0 < times f xs) (sym own.1) (times_here f own.0)) in
      let one : (k : ℕ) → k < 4 → raisable cs fs (nth fs k) ≡ true = λ k lk. raisable_if cs fs (nth fs k) (λ c e. (
        (live k c lk e).0,
        omega (arith, s.counted c (live k c lk e).0, naming_less c cs f l (ap (names_in c) blank.1), times_low c names, names_in_low c fs),
      )) in
      and_from (ltb f (length cs)) (ltb f leaves && all_raisable cs fs) (lt-ltb f (length cs) l)
      (and_from (ltb f leaves) (all_raisable cs fs) (lt-ltb f leaves (omega (arith, l)))
      (and_from (raisable cs fs (nth fs 0)) (raisable cs fs (nth fs 1) && (raisable cs fs (nth fs 2) && raisable cs fs (nth fs 3))) (one 0 (omega arith))
      (and_from (raisable cs fs (nth fs 1)) (raisable cs fs (nth fs 2) && raisable cs fs (nth fs 3)) (one 1 (omega arith))
      (and_from (raisable cs fs (nth fs 2)) (raisable cs fs (nth fs 3)) (one 2 (omega arith)) (one 3 (omega arith))))))

  refused : (e : Fault) → Err e ≡ build_answer m leaves fs → e ≡ no_free_cell
  refused e q = go (eqb m.heads.free none) refl q
    where
      go : (a : Bool) → eqb m.heads.free none ≡ a → Err e ≡ cond a (Err no_free_cell) (cond (fillable m.cells leaves m.heads.free fs) (Ok m.heads.free) (Err damaged)) → e ≡ no_free_cell
      go true p q = cc
      go false p q =
          let w : cond (fillable m.cells leaves m.heads.free fs) (Ok m.heads.free) (Err damaged) ≡ Ok m.heads.free =
          cond-true (fillable m.cells leaves m.heads.free fs) (Ok m.heads.free) (Err damaged) (can_fill (eqb-false m.heads.free none p)) in
          let z : ◌≡◌ {A = ℕ} 0 1 = cc in
          absurd (omega arith)

-- what an accepted build adds to the counts of the other cells
pub build_counts : (fs : List Field) (m : Memory) (leaves : ℕ) (r : Result ℕ Fault) (n : Memory) → r ≡ build_answer m leaves fs → n ≡ build_memory r fs m → BuildCounts fs m r n
build_counts fs m leaves (Ok c) n a b = λ d k.
    let lift = lifted m.cells fs (ready m.cells fs (told m leaves fs c a).raises) in
    let ds = raise_four fs m.cells in
    ap (λ (v : Memory). count_at v.cells d) b ∙ ap (λ (y : Cell). y.count) (cell_other ds c (cell 1 (link_at ds c) fs) d k) ∙ lift.all.counts d
build_counts fs m leaves (Err e) n a b = tt

pub build_promises : {T : Type 0} (fs : List Field) (leaf : T) (m : Memory) (ls : List T) (r : Result ℕ Fault) (n : Memory) (ms : List T) → r ≡ build_answer m (length ls) fs → n ≡ build_memory r fs m → ms ≡ build_leaves r leaf ls
    → BuildPromises fs leaf m ls r n ms
build_promises {T} fs leaf m ls (Ok c) n ms a b d = λ names s live.
    let t = told m (length ls) fs c a in
    let k = build_keeps fs leaf m ls names c t s live in
    let k₁ = subst (λ i. BuildKeeps fs leaf m (build_memory (Ok i) fs m) ls (set ls i leaf) i names) (sym t.first) k in
    let k₂ = subst (λ (v : Memory). BuildKeeps fs leaf m v ls (set ls c leaf) c names) (sym b) k₁ in
    subst (λ (vs : List T). BuildKeeps fs leaf m n ls vs c names) (sym d) k₂
build_promises fs leaf m ls (Err e) n ms a b d = λ names s live long few. refused fs m (length ls) names s live long few e a
