-- In every reached world the keeper means, and the cells hold, what the run tells.
use Rattle.std.proofs.Common.{◌≡◌, ℕ, zero, suc, ◌+◌, ◌<◌, true, false, cond, ◌&&◌, eqb, ltb, leb, List, [], ◌∷◌, length, get_or, set, replicate, Some, None, Ok, Option, Result, sym, refl, ap, ◌∙◌, subst, ⊎_elim, arith}
use Rattle.std.proofs.lemmas.List.{length-set, get_or-replicate}
use Rattle.std.proofs.lemmas.Bool.{cases_eq, cases_lt, eq-eqb, eqb-true, leb-true, ltb-true, and_parts, cond_both}
use Rattle.keeper.specs.declared.version.Version.{Version}
use Rattle.keeper.specs.declared.stage.Stage.{Stage}
use Rattle.keeper.specs.declared.stage.Stage.TheVariants.{Idle, Opening, Open, Offering, Offered, Closing}
use Rattle.keeper.specs.declared.outcome.Outcome.{Outcome}
use Rattle.keeper.specs.declared.outcome.Outcome.TheVariants.{GoesOn, Opened, Accepted, Stale, Nothing, HandedOut}
use Rattle.keeper.specs.declared.fault.Refusal.TheVariants.{PlaceEmpty}
use Rattle.keeper.specs.declared.fault.Fault.{Fault}
use Rattle.keeper.specs.Totals.{total}
use Rattle.keeper.specs.Stages.{has, serial_of}
use Rattle.keeper.specs.Meaning.{Meaning, Laws, version, stage_of, is_serial, times as times_kept, root_at}
use Rattle.keeper.specs.Effects.{step_fault, publish_fault, open_fault, close_fault, root_answer}
use Rattle.keeper.proofs.Recall.{first_kept, one_root}
use Rattle.cells_theory.specs.declared.cell.Field.{Field}
use Rattle.cells_theory.specs.declared.cell.Field.TheVariants as field
use Rattle.cells_theory.specs.Memory.{same, field_at}
use Rattle.cells_theory.specs.Look.{field_answer}
use Rattle.cells_theory.specs.Make.{fresh_leaves}
use Rattle.cells_theory.specs.Trees.{Tree, empty, node, child, Stands, Reaches, here}
use Rattle.cells_theory.specs.Sound.{times}
use Rattle.cells_theory.specs.Promises.{Live, LiveFields}
use Rattle.cells_theory.proofs.Counts.{sound_like}
use Rattle.cells_theory.proofs.Frames.{onward}
use Rattle.cells_theory.proofs.Looking.{field_promises, child_stands}
use Rattle.cells_theory.proofs.Making.{make_promises}
use Rattle.exchange_theory.specs.declared.row.Row.{Row}
use Rattle.exchange_theory.specs.declared.column.Column.TheVariants as column
use Rattle.exchange_theory.specs.declared.calls.Source.{Source}
use Rattle.exchange_theory.specs.declared.calls.Source.TheVariants as source
use Rattle.exchange_theory.specs.declared.calls.Call.{Call}
use Rattle.exchange_theory.specs.declared.calls.Call.TheVariants.{Open as CallOpen, Publish, Close, Step, Root, Down, Look, Build, Sweep}
use Rattle.exchange_theory.specs.declared.calls.Answer.{Answer}
use Rattle.exchange_theory.specs.World.{World, emptied, row_at, reading_at, building_at, memory_of, keeping}
use Rattle.exchange_theory.specs.Table.{allows}
use Rattle.exchange_theory.specs.Order.{filled, passing, fault_of, refuse}
use Rattle.exchange_theory.specs.Keeping.{Opens, Publishes, Closes, Steps, OpenBegins, CloseBegins, StepTakes, settles}
use Rattle.exchange_theory.specs.Reading.{Roots, Downs, Looks, TakesRoot, Descends, root_fault, down_fault}
use Rattle.exchange_theory.specs.Building.{Builds, Sweeps, BuildsCell, src, ranged, all_ranged, all_given, placed, field_from, fields_from, new_cell}
use Rattle.exchange_theory.specs.Did.{Did}
use Rattle.exchange_theory.specs.Make.{Fresh}
use Rattle.exchange_theory.specs.Story.{Story, start, at, at_place, calls_close, reads, builds, tell, tell_step, tree_of, sourced, tree_from}
use Rattle.exchange_theory.specs.History.{Event, Reached, made, after, story}
use Rattle.exchange_theory.specs.Promises.{names}
use Rattle.exchange_theory.proofs.Accepted.{Admitted, admitted, by_begun, by_stepped, by_done, by_shown, by_swept}
use Rattle.exchange_theory.proofs.Meant.{opened_at, MeantBy, kept_low, begun_stage, begun_frame, rebinds_opened}
use Rattle.exchange_theory.proofs.Told.{opens_idle, publishes_open, ready, meant_start, meant_call}
use Rattle.exchange_theory.proofs.Rows.{all_none}
use Rattle.exchange_theory.proofs.Naming.{is_root, names_in, names_are}
use Rattle.exchange_theory.proofs.Held.{Held, HeldBy, held_quiet, quiet_moves, rest_offers_not, rest_closes_not, root_told, read_live, built_live, held_reads, rebinds_offering, rebinds_closing}
use Rattle.exchange_theory.proofs.Changes.{held_publish, held_sweep, held_build}
use Rattle.exchange_theory.proofs.Ends.{held_accepted, held_out, held_closed}

-- a new keeper keeps one version
nothing_kept : (vs : List Version) → ((s : ℕ) → times_kept s vs ≡ 0) → vs ≡ []
nothing_kept [] h = refl
nothing_kept (v ∷ vs) h = let k : is_serial v.serial v ≡ 1 = ap {B = ℕ} (λ b. cond b 1 0) (eq-eqb v.serial v.serial refl) in absurd (omega (arith, h v.serial, k))

one_kept : (vs : List Version) → ((s : ℕ) → 0 < s → times_kept s vs ≡ 0) → times_kept 0 vs ≡ 1 → (d : ℕ) → total (is_root d) vs ≡ same d (root_at 0 vs)
one_kept [] h e d = absurd (omega (arith, e))
one_kept (v ∷ vs) h e d =
    ⊎_elim
    (λ z. let b = eq-eqb 0 v.serial (sym z) in
    let k : is_serial 0 v ≡ 1 = ap {B = ℕ} (λ b. cond b 1 0) b in
    let r : root_at 0 (v ∷ vs) ≡ v.root = ap (λ b. cond b v.root (root_at 0 vs)) b in
    let nil = nothing_kept vs (λ s. ⊎_elim (λ l. omega (arith, h s l)) (λ l. let q : s ≡ 0 = omega (arith, l) in ap (λ x. times_kept x vs) q ∙ (omega (arith, e, k))) (cases_lt 0 s)) in
    let t : total (is_root d) vs ≡ 0 = ap (total (is_root d)) nil in
    omega (arith, t, ap (same d) r))
    (λ ne. let k : is_serial v.serial v ≡ 1 = ap {B = ℕ} (λ b. cond b 1 0) (eq-eqb v.serial v.serial refl) in
    absurd (omega (arith, h v.serial (omega (arith, ne)), k)))
    (cases_eq v.serial 0)

no_row : (n p b : ℕ) → ◌≡◌ {A = Option ℕ} (get_or (get_or (replicate n (emptied 0 0)) p (emptied 0 0)).building b None) None
no_row zero p b = all_none 8 b
no_row (suc n) zero b = all_none 8 b
no_row (suc n) (suc p) b = no_row n p b

none_named : (n d : ℕ) → total (names_in d) (replicate n (emptied 0 0)) ≡ 0
none_named zero d = refl
none_named (suc n) d = omega (arith, none_named n d)

fresh_length : {T : Type 0} (n : ℕ) (leaf : T) (ls : List T) → length (fresh_leaves n leaf ls) ≡ length ls
fresh_length {T} n leaf ls = cond_both (ltb 0 n && ltb 0 (length ls)) (set ls 0 leaf) ls (λ (x : List T). length x ≡ length ls) (λ _. length-set ls 0 leaf) (λ _. refl)

pub held_start : {T : Type 0} (leaf : T) (ls : List T) (w : World T) → Fresh leaf ls w → Laws w.keeper → HeldBy (start leaf) w
held_start {T} leaf ls w f laws =
    let m = w.keeper in
    let r = ready leaf ls w f laws in
    let i = meant_start leaf ls w f laws in
    let a = and_parts (leb 1 (length w.cells)) (leb (length w.cells) 65536 && eqb (length ls) (length w.cells)) r.memory in
    let b = and_parts (leb (length w.cells) 65536) (eqb (length ls) (length w.cells)) a.1 in
    let some = leb-true 1 (length w.cells) a.0 in
    let most = leb-true (length w.cells) 65536 b.0 in
    let many = eqb-true (length ls) (length w.cells) b.1 in
    let c = and_parts (leb 1 m.programs && leb m.programs 8) (leb 1 m.last && leb m.last 4000000000) r.limited in
    let e = and_parts (leb 1 m.programs) (leb m.programs 8) c.0 in
    let few = leb-true m.programs 8 e.1 in
    let long : length w.leaves ≡ length w.cells = ap length f.leaves ∙ fresh_length (length w.cells) leaf ls ∙ many in
    let k = make_promises leaf w.heads w.cells ls w.leaves f.heads f.cells f.leaves some (omega (arith, most)) (omega (arith, long, some)) in
    let zero_kept : times_kept 0 m.kept ≡ 1 = omega (arith, i.kept 0 (omega arith)) in
    let root : root_at 0 m.kept ≡ 0 = one_root (version 0 (root_at 0 m.kept)) m.current m.kept (sym r.serial) (laws.once 0) (first_kept 0 m.kept (omega (arith, zero_kept))) laws.current ∙ r.root in
    let at_first : (p : ℕ) → p < 8 → row_at w p ≡ emptied 0 0 = λ p l. ap (λ (rs : List Row). get_or rs p (emptied 0 0)) f.rows ∙ get_or-replicate 8 p (emptied 0 0) (emptied 0 0) l in
    let unread : (p a : ℕ) → p < 8 → reading_at w p a ≡ None = λ p a l. ap (λ (x : Row). get_or x.reading a None) (at_first p l) ∙ all_none 8 a in
    let unbuilt : (p b : ℕ) → building_at w p b ≡ None = λ p b. ap (λ (rs : List Row). get_or (get_or rs p (emptied 0 0)).building b None) f.rows ∙ no_row 8 p b in
    let ns : (d : ℕ) → times d (names w) ≡ times d (0 ∷ []) = λ d.
    let t : total (names_in d) w.rows ≡ 0 = ap (total (names_in d)) f.rows ∙ none_named 8 d in
    omega (arith, names_are w d, t, one_kept m.kept (λ s l. (i.beyond s l).0) zero_kept d, ap (same d) root) in
    record {
      shaped = record {
        cells_fit = sym f.size;
        leaves_fit = long ∙ sym f.size;
        most = omega (arith, most, f.size);
        few = omega (arith, few, f.programs);
        «same» = sym f.programs;
        seats = ap length f.rows;
        reads = λ p l. ap (λ (x : Row). length x.reading) (at_first p l);
        builds = λ p l. ap (λ (x : Row). length x.building) (at_first p l);
        vacant = λ p b _. unbuilt p b;
      };
      sound = sound_like (memory_of w) (0 ∷ []) (names w) ns k.sound;
      stood = record {
        versions = λ s x. ⊎_elim (λ l. absurd (omega (arith, (i.beyond s l).0, x)))
            (λ l. let q : s ≡ 0 = omega (arith, l) in
            subst (λ (y : ℕ). Stands w.cells w.leaves (field.Cell y) (node leaf empty empty empty empty)) (sym (ap (λ y. root_at y m.kept) q ∙ root)) k.stands) (cases_lt 0 s);
        built = λ p b lp lb. subst (λ (o : Option ℕ). Stands {T = T} w.cells w.leaves (placed o) empty) (sym (unbuilt p b)) tt;
        read = λ p a lp la. subst (λ (o : Option ℕ). Stands {T = T} w.cells w.leaves (placed o) empty) (sym (unread p a lp)) tt;
        reached = λ p a d lp la g. let q : None ≡ Some d = sym (unread p a lp) ∙ g in absurd cc;
      };
      noted = record {
        offer = λ p x s g. absurd (rest_offers_not Idle (stage_of m p) x s refl (r.resting p) g);
        close = λ p s g. absurd (rest_closes_not Idle (stage_of m p) s refl (r.resting p) g);
      };
    }

-- what the table says of a stage, once more
root_opened : (st : Stage) (s : ℕ) → allows st column.Root ≡ true → has st ≡ Some s → opened_at st ≡ Some s
root_opened (Open t) s a e = e
root_opened (Offering x t) s a e = e
root_opened (Offered t) s a e = e
root_opened st s a e = absurd cc

close_serial : (st : Stage) (s : ℕ) → allows st column.Close ≡ true → has st ≡ Some s → serial_of st ≡ s
close_serial (Open t) s a e = cc
close_serial (Offering x t) s a e = cc
close_serial (Offered t) s a e = cc
close_serial st s a e = absurd cc

build_offers_not : (st : Stage) (r s : ℕ) → allows st column.Build ≡ true → st ≡ Offering r s → ⊥
build_offers_not st r s a e = let g : false ≡ true = sym (ap (λ (x : Stage). allows x column.Build) e) ∙ a in cc

pub placed_some : (o : Option ℕ) (c : ℕ) → placed o ≡ field.Cell c → o ≡ Some c
placed_some None c e = absurd cc
placed_some (Some d) c e = cc

-- the places that four sources name are there
ranged_parts : (ss : List Source) → all_ranged ss ≡ true → (ranged (src ss 0) ≡ true) × (ranged (src ss 1) ≡ true) × (ranged (src ss 2) ≡ true) × (ranged (src ss 3) ≡ true)
ranged_parts ss e =
    let a = and_parts (ranged (src ss 0)) (ranged (src ss 1) && (ranged (src ss 2) && ranged (src ss 3))) e in
    let b = and_parts (ranged (src ss 1)) (ranged (src ss 2) && ranged (src ss 3)) a.1 in
    let c = and_parts (ranged (src ss 2)) (ranged (src ss 3)) b.1 in (a.0, b.0, c.0, c.1)

module _ {T : Type 0} (S : Story T) (w : World T) (laws : Laws w.keeper) (i : MeantBy S w.keeper) (h : HeldBy S w) where
  -- the sources of a build
  source_live : (p : ℕ) (s : Source) (c : ℕ) → p < 8 → ranged s ≡ true → field_from (row_at w p) s ≡ field.Cell c → Live (memory_of w) c
  source_live p source.Empty c lp g e = absurd cc
  source_live p (source.Number n) c lp g e = absurd cc
  source_live p (source.Reading a) c lp g e = read_live S.version S.reading S.building S.offers w laws h p a c lp (ltb-true a 8 g) (placed_some (reading_at w p a) c e)
  source_live p (source.Building b) c lp g e = built_live S.version S.reading S.building S.offers w laws h p b c lp (ltb-true b 8 g) (placed_some (building_at w p b) c e)

  source_stands : (p : ℕ) (s : Source) → p < 8 → ranged s ≡ true → Stands w.cells w.leaves (field_from (row_at w p) s) (sourced S p s)
  source_stands p source.Empty lp g = tt
  source_stands p (source.Number n) lp g = refl
  source_stands p (source.Reading a) lp g = h.stood.read p a lp (ltb-true a 8 g)
  source_stands p (source.Building b) lp g = h.stood.built p b lp (ltb-true b 8 g)

  pub sources_live : (p : ℕ) (ss : List Source) → p < 8 → all_ranged ss ≡ true → LiveFields (memory_of w) (fields_from (row_at w p) ss)
  sources_live p ss lp g zero c l e = source_live p (src ss 0) c lp (ranged_parts ss g).0 e
  sources_live p ss lp g (suc zero) c l e = source_live p (src ss 1) c lp (ranged_parts ss g).1 e
  sources_live p ss lp g (suc (suc zero)) c l e = source_live p (src ss 2) c lp (ranged_parts ss g).2 e
  sources_live p ss lp g (suc (suc (suc zero))) c l e = source_live p (src ss 3) c lp (ranged_parts ss g).3 e
  sources_live p ss lp g (suc (suc (suc (suc k)))) c l e = absurd (omega arith)

  eight : (p : ℕ) → p < w.programs → p < 8
  eight p l = omega (arith, l, h.shaped.few)

  -- the root that the keeper tells of a program that may read
  pub root_path : (p root : ℕ) → p < w.keeper.programs → allows (stage_of w.keeper p) column.Root ≡ true → root_answer w.keeper p ≡ Ok root
      → (s : ℕ) × (opened_at (stage_of w.keeper p) ≡ Some s) × (root ≡ root_at s w.keeper.kept) × (0 < times_kept s w.keeper.kept)
  root_path p root l a e =
      let t = root_told w.keeper p root l e in
      (t.0, root_opened (stage_of w.keeper p) t.0 a t.1, t.2, laws.had p t.0 t.1)

  held_open : (v : World T) (p : ℕ) → Admitted w p true column.Open (open_fault w.keeper p) → OpenBegins p w v → HeldBy S v
  held_open v p g o =
      let m = w.keeper in
      let n = v.keeper in
      let d = o.keeper in
      let st : Stage = Opening m.current.serial None in
      let idle = opens_idle (stage_of m p) g.allowed in
      let own = begun_stage m p st m.declared.opening n (omega (arith, laws.staged, g.seat)) d in
      subst (λ (x : World T). HeldBy S x) (sym o.after)
      (held_quiet n h (quiet_moves m n p (begun_frame m p st m.declared.opening n d)
      (ap (λ (x : Meaning). x.current.serial) d.after) (ap (λ (x : Meaning). x.kept) d.after)
      (λ s e. let k : None ≡ Some s = sym (ap opened_at idle) ∙ e in absurd cc)
      (λ r s e. let k : st ≡ Offering r s = sym own ∙ e in absurd cc)
      (λ s e. let k : st ≡ Closing s = sym own ∙ e in absurd cc)))

  -- a step, by what it came to
  held_step : (v : World T) (p : ℕ) (o : Outcome) → Laws v.keeper → Admitted w p true column.Step (step_fault w.keeper p) → StepTakes p o w v → HeldBy (tell_step p o S) v
  held_step v p GoesOn lawn g t =
      let f = t.keeper.0 in let c = t.keeper.1 in
      let m = w.keeper in let n = v.keeper in
      subst (λ (x : World T). HeldBy S x) (sym t.after) (held_quiet n h (quiet_moves m n p f (ap (λ (x : Version). x.serial) c.versions.current) c.versions.kept
      (λ s e. rebinds_opened n (stage_of m p) (stage_of n p) c.stage ∙ e)
      (λ r s e. rebinds_offering n (stage_of m p) (stage_of n p) r s c.stage e)
      (λ s e. rebinds_closing n (stage_of m p) (stage_of n p) s c.stage e)))
  held_step v p (Opened x) lawn g t =
      let f = t.keeper.0 in let c = t.keeper.1 in
      let m = w.keeper in let n = v.keeper in
      subst (λ (x : World T). HeldBy S x) (sym t.after) (held_quiet n h (quiet_moves m n p f (ap (λ (x : Version). x.serial) c.versions.current) c.versions.kept
      (λ s e. let k : None ≡ Some s = sym (ap opened_at c.was) ∙ e in absurd cc)
      (λ r s e. absurd (rest_offers_not (Open x) (stage_of n p) r s refl c.«is» e))
      (λ s e. absurd (rest_closes_not (Open x) (stage_of n p) s refl c.«is» e))))
  held_step v p (Accepted x) lawn g t =
      let f = t.keeper.0 in let c = t.keeper.1 in
      let e : x ≡ S.current + 1 = omega (arith, c.serial, c.current, i.now) in
      subst (λ (y : World T). Held (at S.version (S.current + 1) (S.building p (S.offers p))) S.reading (at_place S.building p (S.offers p) empty) S.offers y) (sym t.after)
      (subst (λ (y : ℕ). Held (at S.version y (S.building p (S.offers p))) S.reading (at_place S.building p (S.offers p) empty) S.offers (settles (Accepted x) p (keeping v.keeper w))) e
      (held_accepted S.version S.reading S.building S.offers w laws h p x v.keeper g.seat lawn f c (i.beyond x (omega (arith, e))).0))
  held_step v p Stale lawn g t =
      let f = t.keeper.0 in let c = t.keeper.1 in
      let m = w.keeper in let n = v.keeper in
      subst (λ (x : World T). HeldBy S x) (sym t.after) (held_quiet n h (quiet_moves m n p f (ap (λ (x : Version). x.serial) c.versions.current) c.versions.kept
      (λ s e. ap opened_at c.«is» ∙ sym (ap opened_at c.was) ∙ e)
      (λ r s e. absurd (rest_offers_not (Offered c.over) (stage_of n p) r s refl c.«is» e))
      (λ s e. absurd (rest_closes_not (Offered c.over) (stage_of n p) s refl c.«is» e))))
  held_step v p Nothing lawn g t =
      let f = t.keeper.0 in let c = t.keeper.1 in
      let m = w.keeper in let n = v.keeper in
      subst (λ (x : World T). HeldBy S x) (sym t.after) (held_quiet n h (quiet_moves m n p f (ap (λ (x : Version). x.serial) c.versions.current) c.versions.kept
      (λ s e. let k : None ≡ Some s = sym (ap opened_at c.was) ∙ e in absurd cc)
      (λ r s e. absurd (rest_offers_not Idle (stage_of n p) r s refl c.«is» e))
      (λ s e. absurd (rest_closes_not Idle (stage_of n p) s refl c.«is» e))))
  held_step v p (HandedOut x) lawn g t =
      subst (λ (y : World T). HeldBy S y) (sym t.after) (held_out S.version S.reading S.building S.offers w laws h p x v.keeper lawn t.keeper.0 t.keeper.1)

  held_close : (v : World T) (p : ℕ) → Admitted w p true column.Close (passing (fault_of (root_answer w.keeper p)) (close_fault w.keeper p)) → CloseBegins p w v → HeldBy (calls_close p S) v
  held_close v p g o =
      let t = root_told w.keeper p o.root g.seat o.had in
      let e = close_serial (stage_of w.keeper p) t.0 g.allowed t.1 in
      let low = kept_low S w.keeper v.keeper p laws g.seat i t.0 (laws.had p t.0 t.1) in
      subst (λ (x : World T). Held S.version (at S.reading p (λ _. empty)) (at S.building p (λ _. empty)) S.offers x) (sym o.after)
      (held_closed S.version S.reading S.building S.offers w laws h p o.root v.keeper g.seat o.keeper (t.2 ∙ ap (λ s. root_at s w.keeper.kept) (sym e)) (omega (arith, e, low, i.now)))

  held_root : (v : World T) (p a : ℕ) → Admitted w p (ltb a 8) column.Root (root_fault w.size (root_answer w.keeper p)) → TakesRoot p a w v → HeldBy (reads p a (tree_of S (S.opened p)) S) v
  held_root v p a g o =
      let t = root_path p o.root g.seat g.allowed o.had in
      let kept = w.keeper.kept in
      let tree : tree_of S (S.opened p) ≡ S.version t.0 = ap (tree_of S) (i.opens p ∙ t.1) in
      let st : Stands w.cells w.leaves (field.Cell o.root) (tree_of S (S.opened p)) =
      subst (λ (y : Tree T). Stands w.cells w.leaves (field.Cell o.root) y) (sym tree)
      (subst (λ (c : ℕ). Stands w.cells w.leaves (field.Cell c) (S.version t.0)) (sym t.2) (h.stood.versions t.0 t.3)) in
      subst (λ (x : World T). HeldBy (reads p a (tree_of S (S.opened p)) S) x) (sym o.after)
      (held_reads S.version S.reading S.building S.offers w laws h p a o.root (tree_of S (S.opened p)) (eight p g.program) (ltb-true a 8 g.range) st
      (t.0, t.1, subst (λ (c : ℕ). Reaches w.cells (root_at t.0 kept) c) (sym t.2) here))

  -- following a field of a live cell
  pub follows : (c k : ℕ) → Live (memory_of w) c → k < 4 → field_answer w.cells c k ≡ Ok (field_at w.cells c k)
  follows c k l lk = (field_promises w.cells c k (field_answer w.cells c k) refl).answered w.heads (names w) h.sound l.0 lk

  held_down : (v : World T) (p a k b : ℕ) → Admitted w p (ltb a 8 && (ltb k 4 && ltb b 8)) column.Down (down_fault w.cells k (reading_at w p a)) → Descends p a k b w v
      → HeldBy (reads p b (child k (S.reading p a)) S) v
  held_down v p a k b g o =
      let r = and_parts (ltb a 8) (ltb k 4 && ltb b 8) g.range in
      let q = and_parts (ltb k 4) (ltb b 8) r.1 in
      let la = ltb-true a 8 r.0 in
      let lk = ltb-true k 4 q.0 in
      let lb = ltb-true b 8 q.1 in
      let lp = eight p g.program in
      let live = read_live S.version S.reading S.building S.offers w laws h p a o.from lp la o.start in
      let same_answer : Ok (field_at w.cells o.from k) ≡ Ok (field.Cell o.to) = sym (follows o.from k live lk) ∙ o.along in
      let e : field_at w.cells o.from k ≡ field.Cell o.to = cc in
      let top : Stands w.cells w.leaves (field.Cell o.from) (S.reading p a) = subst (λ (x : Option ℕ). Stands w.cells w.leaves (placed x) (S.reading p a)) o.start (h.stood.read p a lp la) in
      let st : Stands w.cells w.leaves (field.Cell o.to) (child k (S.reading p a)) = subst (λ (f : Field). Stands w.cells w.leaves f (child k (S.reading p a))) e (child_stands w.cells w.leaves o.from k (S.reading p a) lk top) in
      let path = h.stood.reached p a o.from lp la o.start in
      let lower = (field_promises w.cells o.from k (Ok (field.Cell o.to)) (sym o.along)).reached o.to refl in
      subst (λ (x : World T). HeldBy (reads p b (child k (S.reading p a)) S) x) (sym o.after)
      (held_reads S.version S.reading S.building S.offers w laws h p b o.to (child k (S.reading p a)) lp lb st
      (path.0, path.1, onward w.cells (root_at path.0 w.keeper.kept) o.from o.to path.2 lower))

  held_built : (v : World T) (p b : ℕ) (ss : List Source) (leaf : T) → Admitted w p (ltb b 8 && all_ranged ss) column.Build (refuse (all_given (row_at w p) ss) PlaceEmpty (fault_of (new_cell w p ss))) → BuildsCell p b ss leaf w v
      → HeldBy (builds p b (tree_from S p ss leaf) S) v
  held_built v p b ss leaf g o =
      let r = and_parts (ltb b 8) (all_ranged ss) g.range in
      let lp = eight p g.program in
      let f = ranged_parts ss r.1 in
      subst (λ (x : World T). HeldBy (builds p b (tree_from S p ss leaf) S) x) (sym o.after)
      (held_build S.version S.reading S.building S.offers w laws h p b o.cell (fields_from (row_at w p) ss) leaf
      (sourced S p (src ss 0)) (sourced S p (src ss 1)) (sourced S p (src ss 2)) (sourced S p (src ss 3)) g.program (ltb-true b 8 r.0)
      (λ x s e. build_offers_not (stage_of w.keeper p) x s g.allowed e) (sources_live p ss lp r.1)
      (source_stands p (src ss 0) lp f.0) (source_stands p (src ss 1) lp f.1) (source_stands p (src ss 2) lp f.2) (source_stands p (src ss 3) lp f.3) o.new)

  -- one call more
  pub held_call : (v : World T) (c : Call T) (r : Result (Answer T) Fault) → Laws v.keeper → Did c r w v → HeldBy (tell c r S) v
  held_call v (CallOpen p) r lawn d =
      by_begun (λ x. Opens p x w v) (λ x. HeldBy (tell (CallOpen p) x S) v) r d
      (λ a o. held_open v p (admitted w p true column.Open (open_fault w.keeper p) o.0) o.1)
      (λ f e. subst (λ (x : World T). HeldBy S x) (sym e.1) h)
  held_call v (Publish p b) r lawn d =
      by_begun (λ x. Publishes p b x w v) (λ x. HeldBy (tell (Publish p b) x S) v) r d
      (λ a o. let g = admitted w p (ltb b 8) column.Publish (filled (building_at w p b) (publish_fault w.keeper p)) o.0 in
      subst (λ (x : World T). Held S.version S.reading S.building (at S.offers p b) x) (sym o.1.after)
      (held_publish S.version S.reading S.building S.offers w laws h p b o.1.cell v.keeper g.seat (ltb-true b 8 g.range) o.1.named o.1.keeper
      (ap opened_at (publishes_open (stage_of w.keeper p) g.allowed))))
      (λ f e. subst (λ (x : World T). HeldBy S x) (sym e.1) h)
  held_call v (Close p) r lawn d =
      by_begun (λ x. Closes p x w v) (λ x. HeldBy (tell (Close p) x S) v) r d
      (λ a o. held_close v p (admitted w p true column.Close (passing (fault_of (root_answer w.keeper p)) (close_fault w.keeper p)) o.0) o.1)
      (λ f e. subst (λ (x : World T). HeldBy S x) (sym e.1) h)
  held_call v (Step p) r lawn d =
      by_stepped (λ x. Steps p x w v) (λ x. HeldBy (tell (Step p) x S) v) r d
      (λ o s. held_step v p o lawn (admitted w p true column.Step (step_fault w.keeper p) s.0) s.1)
      (λ f e. subst (λ (x : World T). HeldBy S x) (sym e.1) h)
  held_call v (Root p a) r lawn d =
      by_done (λ x. Roots p a x w v) (λ x. HeldBy (tell (Root p a) x S) v) r d
      (λ x o. held_root v p a (admitted w p (ltb a 8) column.Root (root_fault w.size (root_answer w.keeper p)) o.0) o.1)
      (λ f e. subst (λ (x : World T). HeldBy S x) (sym e.1) h)
  held_call v (Down p a k b) r lawn d =
      by_done (λ x. Downs p a k b x w v) (λ x. HeldBy (tell (Down p a k b) x S) v) r d
      (λ x o. held_down v p a k b (admitted w p (ltb a 8 && (ltb k 4 && ltb b 8)) column.Down (down_fault w.cells k (reading_at w p a)) o.0) o.1)
      (λ f e. subst (λ (x : World T). HeldBy S x) (sym e.1) h)
  held_call v (Look p a) r lawn d =
      by_shown (λ x. Looks p a x w v) (λ x. HeldBy (tell (Look p a) x S) v) r d
      (λ x s o. subst (λ (x : World T). HeldBy S x) (sym o.1.after) h)
      (λ f e. subst (λ (x : World T). HeldBy S x) (sym e.1) h)
  held_call v (Build p b ss leaf) r lawn d =
      by_done (λ x. Builds p b ss leaf x w v) (λ x. HeldBy (tell (Build p b ss leaf) x S) v) r d
      (λ x o. held_built v p b ss leaf (admitted w p (ltb b 8 && all_ranged ss) column.Build (refuse (all_given (row_at w p) ss) PlaceEmpty (fault_of (new_cell w p ss))) o.0) o.1)
      (λ f e. subst (λ (x : World T). HeldBy S x) (sym e.1) h)
  held_call v Sweep r lawn d =
      by_swept (λ x. Sweeps x w v) (λ x. HeldBy (tell Sweep x S) v) r d
      (λ x b o. subst (λ (x : World T). HeldBy S x) (sym o.1.after) (held_sweep S.version S.reading S.building S.offers w laws h o.1.found o.1.first))
      (λ f e. subst (λ (x : World T). HeldBy S x) (sym e.1) h)

-- what holds of every reached world
pub record Inv {T : Type 0} (leaf : T) (h : List (Event T)) (w : World T) : Type 0 where
  pub laws : Laws w.keeper
  pub meant : MeantBy (story leaf h) w.keeper
  pub held : HeldBy (story leaf h) w

pub invariant : {T : Type 0} {leaf : T} {h : List (Event T)} {w : World T} → Reached leaf h w → Inv leaf h w
invariant {leaf = leaf} (made {w = w} ls f l) = record { laws = l; meant = meant_start leaf ls w f l; held = held_start leaf ls w f l }
invariant {leaf = leaf} (after {h = h} {w = w} {v = v} c r p d l) =
    let i = invariant p in
    record {
      laws = l;
      meant = meant_call (story leaf h) w v c r i.laws i.meant d;
      held = held_call (story leaf h) w i.laws i.meant i.held v c r l d;
    }
