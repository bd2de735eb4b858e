-- The cells hold what the run tells after a publish, a sweep and a build.
use Rattle.std.proofs.Common.{◌≡◌, ℕ, ◌+◌, ◌<◌, cond, ◌&&◌, eqb, ltb, leb, List, ◌∷◌, length, get_or, Some, None, Ok, Option, sym, refl, ap, ◌∙◌, subst, ⊎_elim, arith}
use Rattle.std.proofs.lemmas.List.{length-set}
use Rattle.std.proofs.lemmas.Bool.{cases_eq, cond_both}
use Rattle.keeper.specs.declared.version.Version.{Version}
use Rattle.keeper.specs.declared.stage.Stage.{Stage}
use Rattle.keeper.specs.declared.stage.Stage.TheVariants.{Offering, Closing}
use Rattle.keeper.specs.Stages.{serial_of}
use Rattle.keeper.specs.Meaning.{Meaning, Laws, stage_of, times as times_kept, root_at}
use Rattle.keeper.specs.Effects.{PublishDone}
use Rattle.cells_theory.specs.declared.cell.Cell.{Cell}
use Rattle.cells_theory.specs.declared.cell.Field.{Field}
use Rattle.cells_theory.specs.declared.cell.Field.TheVariants as field
use Rattle.cells_theory.specs.Memory.{Memory, cell_at, count_at, fields_at, nth}
use Rattle.cells_theory.specs.LetGo.{lowered, let_go, let_go_field, let_go_four}
use Rattle.cells_theory.specs.Build.{raise, raise_field, raise_four, build_answer, build_memory, build_leaves}
use Rattle.cells_theory.specs.Sweep.{sweep_memory, unlink}
use Rattle.cells_theory.specs.Trees.{Tree, node, Stands}
use Rattle.cells_theory.specs.Sound.{times, Sound}
use Rattle.cells_theory.specs.Promises.{Live, LiveFields}
use Rattle.cells_theory.proofs.Counts.{sound_like, let_go_sound, let_go_fields}
use Rattle.cells_theory.proofs.Frames.{kept_stands, kept_reaches}
use Rattle.cells_theory.proofs.Reaching.{live_used, live_waits_not}
use Rattle.cells_theory.proofs.Building.{build_promises}
use Rattle.cells_theory.proofs.Sweeping.{sweep_promises}
use Rattle.exchange_theory.specs.declared.row.Row.{Row}
use Rattle.exchange_theory.specs.World.{World, row, row_building, row_at, building_at, offered_at, memory_of, keeping, with_row, building, storing, leaving, offering, let_go_place}
use Rattle.exchange_theory.specs.Building.{placed, first_waiting}
use Rattle.exchange_theory.specs.Story.{at, at_place}
use Rattle.exchange_theory.specs.Promises.{names}
use Rattle.exchange_theory.proofs.Meant.{opened_at, at_same, at_other, begun_stage, begun_others}
use Rattle.exchange_theory.proofs.Rows.{row_same, row_other, part_kept, place_same, place_other}
use Rattle.exchange_theory.proofs.Naming.{name_by, names_are, names_place, on_place}
use Rattle.exchange_theory.proofs.Held.{Shaped, Held, Stays, shaped_row, shaped_keeps, sound_row, sound_keeps, stood_row, stood_stays, stood_moves, same_versions}

-- no cell comes or goes
pub let_go_length : (c : ℕ) (m : Memory) → length (let_go c m).cells ≡ length m.cells
let_go_length c m =
    cond_both (ltb c (length m.cells)) (cond (eqb (cell_at m.cells c).count 0) m (lowered c (cell_at m.cells c) m)) m (λ (x : Memory). length x.cells ≡ length m.cells)
    (λ _. cond_both (eqb (cell_at m.cells c).count 0) m (lowered c (cell_at m.cells c) m) (λ (x : Memory). length x.cells ≡ length m.cells) (λ _. refl) (λ _. low))
    (λ _. refl)
  where
    low : length (lowered c (cell_at m.cells c) m).cells ≡ length m.cells
    low = cond_both (eqb (cell_at m.cells c).count 1) _ _ (λ (x : Memory). length x.cells ≡ length m.cells) (λ _. length-set m.cells c _) (λ _. length-set m.cells c _)

field_length : (f : Field) (m : Memory) → length (let_go_field f m).cells ≡ length m.cells
field_length field.Empty m = refl
field_length (field.Number n) m = refl
field_length (field.Cell c) m = let_go_length c m

four_length : (fs : List Field) (m : Memory) → length (let_go_four fs m).cells ≡ length m.cells
four_length fs m =
    let a = let_go_field (nth fs 0) m in let b = let_go_field (nth fs 1) a in let c = let_go_field (nth fs 2) b in
    field_length (nth fs 3) c ∙ field_length (nth fs 2) b ∙ field_length (nth fs 1) a ∙ field_length (nth fs 0) m

pub place_length : (o : Option ℕ) (m : Memory) → length (let_go_place o m).cells ≡ length m.cells
place_length None m = refl
place_length (Some c) m = let_go_length c m

raise_length : (c : ℕ) (cs : List Cell) → length (raise c cs) ≡ length cs
raise_length c cs = cond_both (ltb c (length cs) && leb (count_at cs c) 999990) _ cs (λ (x : List Cell). length x ≡ length cs) (λ _. length-set cs c _) (λ _. refl)

raise_field_length : (f : Field) (cs : List Cell) → length (raise_field f cs) ≡ length cs
raise_field_length field.Empty cs = refl
raise_field_length (field.Number n) cs = refl
raise_field_length (field.Cell c) cs = raise_length c cs

build_length : (c : ℕ) (fs : List Field) (m : Memory) → length (build_memory (Ok c) fs m).cells ≡ length m.cells
build_length c fs m =
    let a = raise_field (nth fs 0) m.cells in let b = raise_field (nth fs 1) a in let d = raise_field (nth fs 2) b in
    length-set (raise_four fs m.cells) c _ ∙ raise_field_length (nth fs 3) d ∙ raise_field_length (nth fs 2) b ∙ raise_field_length (nth fs 1) a ∙ raise_field_length (nth fs 0) m.cells

sweep_length : (c : ℕ) (m : Memory) → length (sweep_memory (Ok (Some c)) m).cells ≡ length m.cells
sweep_length c m = length-set (let_go_four (fields_at m.cells c) (unlink c m)).cells c _ ∙ four_length (fields_at m.cells c) (unlink c m)

pub place_fields : (o : Option ℕ) (m : Memory) (d : ℕ) → fields_at (let_go_place o m).cells d ≡ fields_at m.cells d
place_fields None m d = refl
place_fields (Some c) m d = let_go_fields m c d

-- what a place named is let go: the outside names it once less
pub place_sound : (o : Option ℕ) (m : Memory) (ns rest : List ℕ) → Sound m ns → ((d : ℕ) → times d rest + name_by d o ≡ times d ns) → Sound (let_go_place o m) rest
place_sound None m ns rest s e = sound_like m ns rest (λ d. omega (arith, e d)) s
place_sound (Some c) m ns rest s e = let_go_sound m ns rest c (λ d. omega (arith, e d)) s

pub shaped_stores : {T : Type 0} {w : World T} (m : Memory) (ls : List T) → length m.cells ≡ length w.cells → length ls ≡ length w.leaves → Shaped w → Shaped (leaving ls (storing m w))
shaped_stores m ls e g i = record {
  cells_fit = e ∙ i.cells_fit;
  leaves_fit = g ∙ i.leaves_fit;
  most = i.most;
  few = i.few;
  «same» = i.«same»;
  seats = i.seats;
  reads = i.reads;
  builds = i.builds;
  vacant = i.vacant;
}

-- one building place is written, of a program below P
pub shaped_builds : {T : Type 0} {w : World T} (p b : ℕ) (o : Option ℕ) → p < w.programs → Shaped w → Shaped (building p b o w)
shaped_builds {w = w} p b o lp i =
    let l8 : p < 8 = omega (arith, i.few, lp) in
    shaped_row p (row_building b o (row_at w p)) lp (i.reads p l8) (length-set (row_at w p).building b o ∙ i.builds p l8) i

module _ {T : Type 0} (version : ℕ → Tree T) (rd bd : ℕ → ℕ → Tree T) (offers : ℕ → ℕ) (w : World T) (laws : Laws w.keeper) (h : Held version rd bd offers w) where
  pub held_publish : (p b c : ℕ) (n : Meaning) → p < w.keeper.programs → b < 8 → building_at w p b ≡ Some c → PublishDone w.keeper p c n → opened_at (stage_of w.keeper p) ≡ Some (serial_of (stage_of w.keeper p))
      → Held version rd bd (at offers p b) (offering p b (keeping n w))
  held_publish p b c n lp lb e d op =
      let m = w.keeper in
      let st : Stage = Offering c (serial_of (stage_of m p)) in
      let own = begun_stage m p st m.declared.offering n (omega (arith, laws.staged, lp)) d in
      let others = begun_others m p st m.declared.offering n d in
      let k : n.kept ≡ m.kept = ap (λ (x : Meaning). x.kept) d.after in
      let cur : n.current ≡ m.current = ap (λ (x : Meaning). x.current) d.after in
      let i = h.shaped in
      let u = keeping n w in
      let r = row (row_at w p).reading (row_at w p).building b (row_at w p).closing in
      let l : p < length w.rows = omega (arith, i.seats, i.few, i.«same», lp) in
      let builds = λ (x : ℕ). part_kept (λ (y : Row). get_or y.building x None) u p r l refl in
      let so = stood_moves n version h.stood (same_versions n.kept k h.stood)
      (λ q s g. (⊎_elim (λ z. ap (λ j. opened_at (stage_of n j)) z ∙ ap opened_at own ∙ sym op ∙ ap (λ j. opened_at (stage_of m j)) (sym z) ∙ g) (λ ne. ap opened_at (others q ne) ∙ g) (cases_eq q p), ap (root_at s) k)) in
      record {
        shaped = shaped_row p r (omega (arith, i.«same», lp)) (i.reads p (omega (arith, l, i.seats))) (i.builds p (omega (arith, l, i.seats))) (shaped_keeps n i (ap (λ (x : Meaning). x.programs) d.after));
        sound = sound_row u p r l refl (sound_keeps w n.kept k h.sound);
        stood = stood_row u p r l refl refl so;
        noted = record {
          offer = λ q x s g. ⊎_elim
              (λ z. let a = at_same offers p b in
              let g2 : Offering c (serial_of (stage_of m p)) ≡ Offering x s = sym own ∙ ap (stage_of n) (sym z) ∙ g in
              let cr : c ≡ x = cc in
              subst (λ (y : ℕ). (at offers p b y < 8) × (offered_at (with_row p r u) y ≡ at offers p b y) × (building_at (with_row p r u) y (at offers p b y) ≡ Some x)) (sym z)
              (omega (arith, a, lb), ap (λ (y : Row). y.offered) (row_same u p r l) ∙ sym a, ap (building_at (with_row p r u) p) a ∙ builds b p ∙ e ∙ ap Some cr))
              (λ ne. let o = h.noted.offer q x s (sym (others q ne) ∙ g) in let a = at_other offers p b q ne in
              (omega (arith, a, o.0), ap (λ (y : Row). y.offered) (row_other u p r q ne) ∙ o.1 ∙ sym a, ap (building_at (with_row p r u) q) a ∙ builds (offers q) q ∙ o.2))
              (cases_eq q p);
          close = λ q s g. ⊎_elim
              (λ z. let g2 : Offering c (serial_of (stage_of m p)) ≡ Closing s = sym own ∙ ap (stage_of n) (sym z) ∙ g in absurd cc)
              (λ ne. let o = h.noted.close q s (sym (others q ne) ∙ g) in
              (omega (arith, o.0, ap (λ (v : Version). v.serial) cur), λ x. part_kept (λ (y : Row). y.closing) u p r l refl q ∙ o.1 (subst (λ (y : List Version). 0 < times_kept s y) k x) ∙ ap (root_at s) (sym k)))
              (cases_eq q p);
        };
      }

  pub held_sweep : (found : Option ℕ) → first_waiting w ≡ Ok found → Held version rd bd offers (storing (sweep_memory (Ok found) (memory_of w)) w)
  held_sweep None e = h
  held_sweep (Some c) e =
      let m = memory_of w in
      let n = sweep_memory (Ok (Some c)) m in
      let k = sweep_promises m w.leaves (Ok (Some c)) n (sym e) refl (names w) h.sound in
      let ne : (d : ℕ) → Live m d → d ≡ c → ⊥ = λ d l q. live_waits_not m (names w) h.sound c (subst (λ (x : ℕ). Live m x) q l) k.waited in
      record {
        shaped = shaped_stores n w.leaves (sweep_length c m) refl h.shaped;
        sound = k.sound;
        stood = stood_stays version rd bd offers w laws h n w.leaves (record { stands = λ d t l s. k.stands d t (ne d l) s; reaches = λ d x l r. k.reaches d x (ne d l) r });
        noted = record { offer = h.noted.offer; close = h.noted.close };
      }

  pub held_build : (p b c : ℕ) (fs : List Field) (leaf : T) (x₀ x₁ x₂ x₃ : Tree T) → p < w.programs → b < 8 → ((r s : ℕ) → stage_of w.keeper p ≡ Offering r s → ⊥)
      → LiveFields (memory_of w) fs → Stands w.cells w.leaves (nth fs 0) x₀ → Stands w.cells w.leaves (nth fs 1) x₁ → Stands w.cells w.leaves (nth fs 2) x₂ → Stands w.cells w.leaves (nth fs 3) x₃
      → build_answer (memory_of w) (length w.leaves) fs ≡ Ok c
      → Held version rd (at_place bd p b (node leaf x₀ x₁ x₂ x₃)) offers
      (building p b (Some c) (leaving (build_leaves (Ok c) leaf w.leaves) (storing (let_go_place (building_at w p b) (build_memory (Ok c) fs (memory_of w))) w)))
  held_build p b c fs leaf x₀ x₁ x₂ x₃ lp lb notoff live s₀ s₁ s₂ s₃ new =
      let m = memory_of w in
      let n = build_memory (Ok c) fs m in
      let ms = build_leaves (Ok c) leaf w.leaves in
      let k = build_promises fs leaf m w.leaves (Ok c) n ms (sym new) refl refl (names w) h.sound live in
      let old = building_at w p b in
      let o = let_go_place old n in
      let pf = place_fields old n in
      let y : Stays w o ms = record {
        stands = λ d t l s. kept_stands n.cells o.cells ms pf (field.Cell d) t (k.stands d t (live_used m (names w) h.sound d l) s);
        reaches = λ d x l r. kept_reaches n.cells o.cells pf d x (k.reaches d x (live_used m (names w) h.sound d l) r);
      } in
      let so = stood_stays version rd bd offers w laws h o ms y in
      let fresh = kept_stands n.cells o.cells ms pf (field.Cell c) (node leaf x₀ x₁ x₂ x₃) (k.new x₀ x₁ x₂ x₃ s₀ s₁ s₂ s₃) in
      let u : World T = leaving ms (storing o w) in
      let r = row_building b (Some c) (row_at w p) in
      let v : World T = with_row p r u in
      let l8 : p < 8 = omega (arith, h.shaped.few, lp) in
      let l : p < length w.rows = omega (arith, h.shaped.seats, l8) in
      let bl : b < length (row_at w p).building = omega (arith, h.shaped.builds p l8, lb) in
      let own = place_same (λ (y : Row). y.building) u p r b (Some c) l bl refl in
      let apart = place_other (λ (y : Row). y.building) u p r b (Some c) l refl in
      let reads = λ (a : ℕ). part_kept (λ (y : Row). get_or y.reading a None) u p r l refl in
      record {
        shaped = shaped_builds p b (Some c) lp (shaped_stores o ms (place_length old n ∙ build_length c fs m) (length-set w.leaves c leaf) h.shaped);
        sound = place_sound old n (c ∷ names w) (names v) k.sound (λ d. omega (arith, names_are v d, names_are w d, names_place w p b (Some c) l bl d));
        stood = record {
          versions = so.versions;
          built = λ q a lq la. on_place (λ z t. Stands o.cells ms (placed z) t) (building_at w) (building_at v) bd p b (Some c) (node leaf x₀ x₁ x₂ x₃) own apart fresh q a (so.built q a lq la);
          read = λ q a lq la. subst (λ (z : Option ℕ). Stands o.cells ms (placed z) (rd q a)) (sym (reads a q)) (so.read q a lq la);
          reached = λ q a d lq la e. so.reached q a d lq la (sym (reads a q) ∙ e);
        };
        noted = record {
          offer = λ q x s e. let z = h.noted.offer q x s e in
              (z.0, part_kept (λ (y : Row). y.offered) u p r l refl q ∙ z.1, apart q (offers q) (λ j _. notoff x s (ap (stage_of w.keeper) (sym j) ∙ e)) ∙ z.2);
          close = λ q s e. let z = h.noted.close q s e in (z.0, λ g. part_kept (λ (y : Row). y.closing) u p r l refl q ∙ z.1 g);
        };
      }
