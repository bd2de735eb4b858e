-- The cells hold what the run tells: what is true of the places, the versions and the memory of every reached world.
use Rattle.std.proofs.Common.{◌≡◌, ℕ, ◌<◌, ◌≤◌, cond, List, ◌++◌, map, length, get_or, Some, None, Ok, Err, Option, sym, refl, ap, ◌∙◌, subst, ⊎_elim, arith}
use Rattle.std.proofs.lemmas.List.{length-set, get_or_past}
use Rattle.std.proofs.lemmas.Bool.{cases_eq, cases_lt, lt-ltb}
use Rattle.std.proofs.lemmas.Option.{none-some}
use Rattle.keeper.specs.declared.version.Version.{Version}
use Rattle.keeper.specs.declared.stage.Stage.{Stage}
use Rattle.keeper.specs.declared.stage.Stage.TheVariants.{Idle, Opening, Offering, Closing}
use Rattle.keeper.specs.declared.fault.Refusal.TheVariants.{NoProgram}
use Rattle.keeper.specs.Refusals.{fault}
use Rattle.keeper.specs.Stages.{has}
use Rattle.keeper.specs.Meaning.{Meaning, Laws, stage_of, times as times_kept, root_at}
use Rattle.keeper.specs.Effects.{Frame, Rebinds, root_answer, root_of}
use Rattle.keeper.specs.Totals.{total}
use Rattle.keeper.proofs.Totals.{total_at}
use Rattle.cells_theory.specs.declared.cell.Cell.{Cell}
use Rattle.cells_theory.specs.declared.cell.Field.TheVariants as field
use Rattle.cells_theory.specs.Memory.{Memory}
use Rattle.cells_theory.specs.Trees.{Tree, empty, number, node, Stands, Reaches}
use Rattle.cells_theory.specs.Sound.{times, Sound}
use Rattle.cells_theory.specs.Promises.{Live}
use Rattle.cells_theory.proofs.Counting.{same_self}
use Rattle.cells_theory.proofs.Counts.{named_live, sound_like}
use Rattle.cells_theory.proofs.Reaching.{reached_live}
use Rattle.exchange_theory.specs.declared.row.Row.{Row}
use Rattle.exchange_theory.specs.World.{World, row_reading, row_at, reading_at, building_at, offered_at, closed_at, memory_of, keeping, with_row, reading, storing, leaving, emptied}
use Rattle.exchange_theory.specs.Building.{placed}
use Rattle.exchange_theory.specs.Story.{Story, resting, at_place}
use Rattle.exchange_theory.specs.Promises.{built_in, names}
use Rattle.exchange_theory.proofs.Meant.{opened_at, task_at, rebinds_opened}
use Rattle.exchange_theory.proofs.Rows.{row_same, row_other, part_kept, place_same, place_other}
use Rattle.exchange_theory.proofs.Naming.{name_by, names_in, names_are, names_row, root_named, on_place}

-- the sizes of everything, and no building place in use beyond those of the programs
pub record Shaped {T : Type 0} (w : World T) : Type 0 where
  pub cells_fit : length w.cells ≡ w.size
  pub leaves_fit : length w.leaves ≡ w.size
  pub most : w.size ≤ 65536
  pub few : w.programs ≤ 8
  pub «same» : w.keeper.programs ≡ w.programs
  pub seats : length w.rows ≡ 8
  pub reads : (p : ℕ) → p < 8 → length (row_at w p).reading ≡ 8
  pub builds : (p : ℕ) → p < 8 → length (row_at w p).building ≡ 8
  pub vacant : (p b : ℕ) → w.programs ≤ p → building_at w p b ≡ None

-- the cells stand for the trees of the run: those of the kept versions and of the places; and what a program reads is reached from the
-- root of the version that it opened
pub record Stood {T : Type 0} (version : ℕ → Tree T) (rd bd : ℕ → ℕ → Tree T) (w : World T) : Type 0 where
  pub versions : (s : ℕ) → 0 < times_kept s w.keeper.kept → Stands w.cells w.leaves (field.Cell (root_at s w.keeper.kept)) (version s)
  pub built : (p b : ℕ) → p < 8 → b < 8 → Stands w.cells w.leaves (placed (building_at w p b)) (bd p b)
  pub read : (p a : ℕ) → p < 8 → a < 8 → Stands w.cells w.leaves (placed (reading_at w p a)) (rd p a)
  pub reached : (p a c : ℕ) → p < 8 → a < 8 → reading_at w p a ≡ Some c
      → (s : ℕ) × (opened_at (stage_of w.keeper p) ≡ Some s) × Reaches w.cells (root_at s w.keeper.kept) c

-- what is remembered of offers and closes is right
pub record Noted {T : Type 0} (offers : ℕ → ℕ) (w : World T) : Type 0 where
  pub offer : (p r s : ℕ) → stage_of w.keeper p ≡ Offering r s → (offers p < 8) × (offered_at w p ≡ offers p) × (building_at w p (offers p) ≡ Some r)
  pub close : (p s : ℕ) → stage_of w.keeper p ≡ Closing s → (s ≤ w.keeper.current.serial) × (0 < times_kept s w.keeper.kept → closed_at w p ≡ root_at s w.keeper.kept)

pub record Held {T : Type 0} (version : ℕ → Tree T) (rd bd : ℕ → ℕ → Tree T) (offers : ℕ → ℕ) (w : World T) : Type 0 where
  pub shaped : Shaped w
  pub sound : Sound (memory_of w) (names w)
  pub stood : Stood version rd bd w
  pub noted : Noted offers w

abbrev pub HeldBy : {T : Type 0} → Story T → World T → Type 0
HeldBy S w = Held S.version S.reading S.building S.offers w

pub opened_has : (st : Stage) (s : ℕ) → opened_at st ≡ Some s → has st ≡ Some s
opened_has (Opening a b) s e = absurd cc
opened_has st s e = e

-- the root that the keeper tells is that of the version which the program has
pub root_told : (m : Meaning) (p root : ℕ) → p < m.programs → root_answer m p ≡ Ok root → (s : ℕ) × (has (stage_of m p) ≡ Some s) × (root ≡ root_at s m.kept)
root_told m p root l e = go (has (stage_of m p)) refl (sym (ap (λ b. cond b (root_of m (has (stage_of m p))) (Err (fault NoProgram))) (lt-ltb p m.programs l)) ∙ e)
  where
    go : (o : Option ℕ) → has (stage_of m p) ≡ o → root_of m o ≡ Ok root → (s : ℕ) × (has (stage_of m p) ≡ Some s) × (root ≡ root_at s m.kept)
    go None h e = absurd cc
    go (Some s) h e = (s, h, cc)

-- a place stays, where the cell in it does
pub placed_stays : {T : Type 0} (cs ds : List Cell) (ls ms : List T) (o : Option ℕ) (t : Tree T) → ((c : ℕ) → o ≡ Some c → Stands cs ls (field.Cell c) t → Stands ds ms (field.Cell c) t) → Stands cs ls (placed o) t → Stands ds ms (placed o) t
placed_stays cs ds ls ms None empty k s = tt
placed_stays cs ds ls ms None (number n) k s = absurd s
placed_stays cs ds ls ms None (node t x₀ x₁ x₂ x₃) k s = absurd s
placed_stays cs ds ls ms (Some c) t k s = k c refl s

-- the live cells stay as trees and as paths, in another memory
pub record Stays {T : Type 0} (w : World T) (m : Memory) (ls : List T) : Type 0 where
  pub stands : (d : ℕ) (t : Tree T) → Live (memory_of w) d → Stands w.cells w.leaves (field.Cell d) t → Stands m.cells ls (field.Cell d) t
  pub reaches : (d e : ℕ) → Live (memory_of w) d → Reaches w.cells d e → Reaches m.cells d e

-- no program has more building places than eight
pub eight_places : {T : Type 0} (w : World T) → Shaped w → (p b : ℕ) → 8 ≤ b → building_at w p b ≡ None
eight_places w i p b k =
    ⊎_elim
    (λ l. get_or_past (row_at w p).building b None (omega (arith, i.builds p l, k)))
    (λ past. i.vacant p b (omega (arith, i.few, past)))
    (cases_lt p 8)

-- another row for a program below P
pub shaped_row : {T : Type 0} {w : World T} (p : ℕ) (r : Row) → p < w.programs → length r.reading ≡ 8 → length r.building ≡ 8 → Shaped w → Shaped (with_row p r w)
shaped_row {w = w} p r lp er eb i =
    let l : p < length w.rows = omega (arith, i.seats, i.few, lp) in record {
      cells_fit = i.cells_fit;
      leaves_fit = i.leaves_fit;
      most = i.most;
      few = i.few;
      «same» = i.«same»;
      seats = length-set w.rows p r ∙ i.seats;
      reads = λ q lq. ⊎_elim
          (λ z. ap (λ j. length (row_at (with_row p r w) j).reading) z ∙ ap (λ (x : Row). length x.reading) (row_same w p r l) ∙ er)
          (λ ne. ap (λ (x : Row). length x.reading) (row_other w p r q ne) ∙ i.reads q lq)
          (cases_eq q p);
      builds = λ q lq. ⊎_elim
          (λ z. ap (λ j. length (row_at (with_row p r w) j).building) z ∙ ap (λ (x : Row). length x.building) (row_same w p r l) ∙ eb)
          (λ ne. ap (λ (x : Row). length x.building) (row_other w p r q ne) ∙ i.builds q lq)
          (cases_eq q p);
      vacant = λ q b k. ap (λ (x : Row). get_or x.building b None) (row_other w p r q (λ z. omega (arith, z, k, lp))) ∙ i.vacant q b k;
    }

-- another row with the same building places
pub sound_row : {T : Type 0} (w : World T) (p : ℕ) (r : Row) → p < length w.rows → r.building ≡ (row_at w p).building → Sound (memory_of w) (names w) → Sound (memory_of w) (names (with_row p r w))
sound_row w p r l e s =
    sound_like (memory_of w) (names w) (names (with_row p r w))
    (λ d. omega (arith, names_are (with_row p r w) d, names_are w d, names_row w p r l d, ap (total (name_by d)) e)) s

-- another row with the same places
pub stood_row : {T : Type 0} {version : ℕ → Tree T} {rd bd : ℕ → ℕ → Tree T} (w : World T) (p : ℕ) (r : Row) → p < length w.rows → r.reading ≡ (row_at w p).reading → r.building ≡ (row_at w p).building
    → Stood version rd bd w → Stood version rd bd (with_row p r w)
stood_row {rd = rd} {bd = bd} w p r l er eb i =
    let builds = λ (b : ℕ). part_kept (λ (y : Row). get_or y.building b None) w p r l (ap (λ (os : List (Option ℕ)). get_or os b None) eb) in
    let reads = λ (a : ℕ). part_kept (λ (y : Row). get_or y.reading a None) w p r l (ap (λ (os : List (Option ℕ)). get_or os a None) er) in record {
      versions = i.versions;
      built = λ q b lq lb. subst (λ (o : Option ℕ). Stands w.cells w.leaves (placed o) (bd q b)) (sym (builds b q)) (i.built q b lq lb);
      read = λ q a lq la. subst (λ (o : Option ℕ). Stands w.cells w.leaves (placed o) (rd q a)) (sym (reads a q)) (i.read q a lq la);
      reached = λ q a c lq la e. i.reached q a c lq la (sym (reads a q) ∙ e);
    }

module _ {T : Type 0} (version : ℕ → Tree T) (rd bd : ℕ → ℕ → Tree T) (offers : ℕ → ℕ) (w : World T) (laws : Laws w.keeper) (h : Held version rd bd offers w) where
  version_named : (s : ℕ) → 0 < times_kept s w.keeper.kept → 0 < times (root_at s w.keeper.kept) (names w)
  version_named s k = omega (arith, names_are w (root_at s w.keeper.kept), root_named s w.keeper.kept k)

  built_named : (p b c : ℕ) → p < 8 → b < 8 → building_at w p b ≡ Some c → 0 < times c (names w)
  built_named p b c lp lb e =
      let l : p < length w.rows = omega (arith, h.shaped.seats, lp) in
      let n : b < length (row_at w p).building = omega (arith, h.shaped.builds p lp, lb) in
      omega (arith, names_are w c, total_at (names_in c) w.rows p (emptied 0 0) l, total_at (name_by c) (row_at w p).building b None n, ap (name_by c) e, same_self c)

  pub version_live : (s : ℕ) → 0 < times_kept s w.keeper.kept → Live (memory_of w) (root_at s w.keeper.kept)
  version_live s k = named_live (memory_of w) (names w) (root_at s w.keeper.kept) h.sound (version_named s k)

  pub built_live : (p b c : ℕ) → p < 8 → b < 8 → building_at w p b ≡ Some c → Live (memory_of w) c
  built_live p b c lp lb e = named_live (memory_of w) (names w) c h.sound (built_named p b c lp lb e)

  opened_kept : (p s : ℕ) → opened_at (stage_of w.keeper p) ≡ Some s → 0 < times_kept s w.keeper.kept
  opened_kept p s e = laws.had p s (opened_has (stage_of w.keeper p) s e)

  -- what has opened a version is a program
  opened_below : (p s : ℕ) → opened_at (stage_of w.keeper p) ≡ Some s → p < w.programs
  opened_below p s e = ⊎_elim
      (λ l. l)
      (λ past. absurd (none-some s (sym (ap opened_at (get_or_past w.keeper.stages p Idle (omega (arith, laws.staged, h.shaped.«same», past)))) ∙ e)))
      (cases_lt p w.programs)

  pub read_live : (p a c : ℕ) → p < 8 → a < 8 → reading_at w p a ≡ Some c → Live (memory_of w) c
  read_live p a c lp la e =
      let r = h.stood.reached p a c lp la e in
      reached_live (memory_of w) (names w) h.sound (root_at r.0 w.keeper.kept) c (version_named r.0 (opened_kept p r.0 r.1)) r.2

  pub stood_stays : (m : Memory) (ls : List T) → Stays w m ls → Stood version rd bd (leaving ls (storing m w))
  stood_stays m ls y = record {
    versions = λ s k. y.stands (root_at s w.keeper.kept) (version s) (version_live s k) (h.stood.versions s k);
    built = λ p b lp lb. placed_stays w.cells m.cells w.leaves ls (building_at w p b) (bd p b) (λ c e s. y.stands c (bd p b) (built_live p b c lp lb e) s) (h.stood.built p b lp lb);
    read = λ p a lp la. placed_stays w.cells m.cells w.leaves ls (reading_at w p a) (rd p a) (λ c e s. y.stands c (rd p a) (read_live p a c lp la e) s) (h.stood.read p a lp la);
    reached = λ p a c lp la e. let r = h.stood.reached p a c lp la e in
        (r.0, r.1, y.reaches (root_at r.0 w.keeper.kept) c (version_live r.0 (opened_kept p r.0 r.1)) r.2);
  }

  -- root and down: a reading place gets a cell that the program's version reaches
  pub held_reads : (p a c : ℕ) (x : Tree T) → p < 8 → a < 8 → Stands w.cells w.leaves (field.Cell c) x
      → (s : ℕ) × (opened_at (stage_of w.keeper p) ≡ Some s) × Reaches w.cells (root_at s w.keeper.kept) c
      → Held version (at_place rd p a x) bd offers (reading p a (Some c) w)
  held_reads p a c x l8 la st path =
      let i = h.shaped in
      let lp = opened_below p path.0 path.1 in
      let old = row_at w p in
      let r = row_reading a (Some c) old in
      let v = with_row p r w in
      let l : p < length w.rows = omega (arith, i.seats, l8) in
      let ra : a < length old.reading = omega (arith, i.reads p l8, la) in
      let own = place_same (λ (y : Row). y.reading) w p r a (Some c) l ra refl in
      let apart = place_other (λ (y : Row). y.reading) w p r a (Some c) l refl in
      let builds : (q b : ℕ) → building_at v q b ≡ building_at w q b = λ q b. part_kept (λ (y : Row). get_or y.building b None) w p r l refl q in
      record {
        shaped = shaped_row p r lp (length-set old.reading a (Some c) ∙ i.reads p l8) (i.builds p l8) i;
        sound = sound_row w p r l refl h.sound;
        stood = record {
          versions = h.stood.versions;
          built = λ q b lq lb. subst (λ (o : Option ℕ). Stands w.cells w.leaves (placed o) (bd q b)) (sym (builds q b)) (h.stood.built q b lq lb);
          read = λ q b lq lb. on_place (λ o t. Stands w.cells w.leaves (placed o) t) (reading_at w) (reading_at v) rd p a (Some c) x own apart st q b (h.stood.read q b lq lb);
          reached = λ q b d lq lb e. ⊎_elim
              (λ k. ⊎_elim
              (λ j. let g : Some c ≡ Some d = sym own ∙ sym (ap (λ i. reading_at v i b) k ∙ ap (reading_at v p) j) ∙ e in
              let cd : c ≡ d = cc in
              (path.0, ap (λ i. opened_at (stage_of w.keeper i)) k ∙ path.1, subst (λ (y : ℕ). Reaches w.cells (root_at path.0 w.keeper.kept) y) cd path.2))
              (λ ne. h.stood.reached q b d lq lb (sym (apart q b (λ _ j. ne j)) ∙ e))
              (cases_eq b a))
              (λ ne. h.stood.reached q b d lq lb (sym (apart q b (λ k _. ne k)) ∙ e))
              (cases_eq q p);
        };
        noted = record {
          offer = λ q y s e. let o = h.noted.offer q y s e in (o.0, part_kept (λ (z : Row). z.offered) w p r l refl q ∙ o.1, builds q (offers q) ∙ o.2);
          close = λ q s e. let o = h.noted.close q s e in (o.0, λ k. part_kept (λ (z : Row). z.closing) w p r l refl q ∙ o.1 k);
        };
      }

-- a keeper's step that changes no version, and no offer or close but by ending it
pub record Quiet (m n : Meaning) : Type 0 where
  pub programs : n.programs ≡ m.programs
  pub current : n.current.serial ≡ m.current.serial
  pub kept : n.kept ≡ m.kept
  pub opened : (q s : ℕ) → opened_at (stage_of m q) ≡ Some s → opened_at (stage_of n q) ≡ Some s
  pub offering : (q r s : ℕ) → stage_of n q ≡ Offering r s → stage_of m q ≡ Offering r s
  pub closing : (q s : ℕ) → stage_of n q ≡ Closing s → stage_of m q ≡ Closing s

-- another keeper's meaning over the same cells
pub stood_moves : {T : Type 0} {version : ℕ → Tree T} {rd bd : ℕ → ℕ → Tree T} {w : World T} (n : Meaning) (version' : ℕ → Tree T) → Stood version rd bd w
    → ((s : ℕ) → 0 < times_kept s n.kept → Stands w.cells w.leaves (field.Cell (root_at s n.kept)) (version' s))
    → ((q s : ℕ) → opened_at (stage_of w.keeper q) ≡ Some s → (opened_at (stage_of n q) ≡ Some s) × (root_at s n.kept ≡ root_at s w.keeper.kept))
    → Stood version' rd bd (keeping n w)
stood_moves {w = w} n version' i vs os = record {
  versions = vs;
  built = i.built;
  read = i.read;
  reached = λ p a c lp la e. let r = i.reached p a c lp la e in let o = os p r.0 r.1 in
      (r.0, o.0, subst (λ (x : ℕ). Reaches w.cells x c) (sym o.1) r.2);
}

pub shaped_keeps : {T : Type 0} {w : World T} (n : Meaning) → Shaped w → n.programs ≡ w.keeper.programs → Shaped (keeping n w)
shaped_keeps n i e = record {
  cells_fit = i.cells_fit;
  leaves_fit = i.leaves_fit;
  most = i.most;
  few = i.few;
  «same» = e ∙ i.«same»;
  seats = i.seats;
  reads = i.reads;
  builds = i.builds;
  vacant = i.vacant;
}

-- the versions of an unchanged list
pub same_versions : {T : Type 0} {version : ℕ → Tree T} {rd bd : ℕ → ℕ → Tree T} {w : World T} (vs : List Version) → vs ≡ w.keeper.kept → Stood version rd bd w
    → (s : ℕ) → 0 < times_kept s vs → Stands w.cells w.leaves (field.Cell (root_at s vs)) (version s)
same_versions {version = version} {w = w} vs e i s k = subst (λ (x : List Version). Stands w.cells w.leaves (field.Cell (root_at s x)) (version s)) (sym e) (i.versions s (subst (λ (x : List Version). 0 < times_kept s x) e k))

pub sound_keeps : {T : Type 0} (w : World T) (vs : List Version) → vs ≡ w.keeper.kept → Sound (memory_of w) (names w) → Sound (memory_of w) (map (λ (v : Version). v.root) vs ++ built_in w.rows)
sound_keeps w vs e s = subst (λ (x : List Version). Sound (memory_of w) (map (λ (v : Version). v.root) x ++ built_in w.rows)) (sym e) s

pub held_quiet : {T : Type 0} {version : ℕ → Tree T} {rd bd : ℕ → ℕ → Tree T} {offers : ℕ → ℕ} {w : World T} (n : Meaning) → Held version rd bd offers w → Quiet w.keeper n → Held version rd bd offers (keeping n w)
held_quiet {version = version} {w = w} n h q = record {
  shaped = shaped_keeps n h.shaped q.programs;
  sound = sound_keeps w n.kept q.kept h.sound;
  stood = stood_moves n version h.stood (same_versions n.kept q.kept h.stood) (λ p s e. (q.opened p s e, ap (root_at s) q.kept));
  noted = record {
    offer = λ p r s e. h.noted.offer p r s (q.offering p r s e);
    close = λ p s e. let c = h.noted.close p s (q.closing p s e) in
        (omega (arith, c.0, q.current), λ k. c.1 (subst (λ (x : List Version). 0 < times_kept s x) q.kept k) ∙ ap (root_at s) (sym q.kept));
  };
}

pub rebinds_offering : (n : Meaning) (a b : Stage) (r s : ℕ) → Rebinds n a b → b ≡ Offering r s → a ≡ Offering r s
rebinds_offering n a b r s x e = ⊎_elim (λ g. sym g ∙ e) (λ y. let g : Opening y.0 (Some y.1) ≡ Offering r s = sym y.3 ∙ e in absurd cc) x

pub rebinds_closing : (n : Meaning) (a b : Stage) (s : ℕ) → Rebinds n a b → b ≡ Closing s → a ≡ Closing s
rebinds_closing n a b s x e = ⊎_elim (λ g. sym g ∙ e) (λ y. let g : Opening y.0 (Some y.1) ≡ Closing s = sym y.3 ∙ e in absurd cc) x

-- program p alone moves, and what it does itself is quiet
pub quiet_moves : (m n : Meaning) (p : ℕ) → Frame m p n → n.current.serial ≡ m.current.serial → n.kept ≡ m.kept
    → ((s : ℕ) → opened_at (stage_of m p) ≡ Some s → opened_at (stage_of n p) ≡ Some s)
    → ((r s : ℕ) → stage_of n p ≡ Offering r s → stage_of m p ≡ Offering r s)
    → ((s : ℕ) → stage_of n p ≡ Closing s → stage_of m p ≡ Closing s) → Quiet m n
quiet_moves m n p f cur kept op off cl = record {
  programs = f.programs;
  current = cur;
  kept = kept;
  opened = λ q s e. ⊎_elim (λ g. ap (λ i. opened_at (stage_of n i)) g ∙ op s (ap (λ i. opened_at (stage_of m i)) (sym g) ∙ e))
      (λ ne. rebinds_opened n (stage_of m q) (stage_of n q) (f.others q ne) ∙ e) (cases_eq q p);
  offering = λ q r s e. ⊎_elim (λ g. ap (stage_of m) g ∙ off r s (ap (stage_of n) (sym g) ∙ e)) (λ ne. rebinds_offering n (stage_of m q) (stage_of n q) r s (f.others q ne) e) (cases_eq q p);
  closing = λ q s e. ⊎_elim (λ g. ap (stage_of m) g ∙ cl s (ap (stage_of n) (sym g) ∙ e)) (λ ne. rebinds_closing n (stage_of m q) (stage_of n q) s (f.others q ne) e) (cases_eq q p);
}

-- a program at rest neither offers nor closes
pub rest_offers_not : (st a : Stage) (r s : ℕ) → task_at st ≡ resting → a ≡ st → a ≡ Offering r s → ⊥
rest_offers_not st a r s t e g = let k : task_at (Offering r s) ≡ resting = ap task_at (sym g ∙ e) ∙ t in cc

pub rest_closes_not : (st a : Stage) (s : ℕ) → task_at st ≡ resting → a ≡ st → a ≡ Closing s → ⊥
rest_closes_not st a s t e g = let k : task_at (Closing s) ≡ resting = ap task_at (sym g ∙ e) ∙ t in cc
