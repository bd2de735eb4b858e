-- In a reached world no call meets a damaged memory, and looks are true.
use Rattle.std.proofs.Common.{◌≡◌, ℕ, ◌+◌, ◌*◌, ◌<◌, ◌≤◌, Bool, true, false, cond, not, ◌&&◌, eqb, ltb, List, [], ◌∷◌, length, Some, None, Ok, Err, Option, Result, sym, refl, ap, ◌∙◌, subst, arith}
use Rattle.std.proofs.lemmas.Bool.{ltb-true, lt-ltb, and_parts, and_from}
use Rattle.keeper.specs.declared.fault.Refusal.{Refusal}
use Rattle.keeper.specs.declared.fault.Refusal.TheVariants.{NoProgram, WrongMemory, OutOfRange, StageForbids, PlaceEmpty, NoCell, NoFreeCell, LastSerial, Damaged}
use Rattle.keeper.specs.declared.fault.Layer.{Layer}
use Rattle.keeper.specs.declared.fault.Layer.TheVariants as layer
use Rattle.keeper.specs.declared.fault.Fault.{Fault}
use Rattle.keeper.specs.Stages.{has, idle, opened, closable, moving}
use Rattle.keeper.specs.Refusals.{fault_by, fault, unless}
use Rattle.keeper.specs.Meaning.{Meaning, Laws, stage_of}
use Rattle.keeper.specs.Effects.{open_fault, publish_fault, close_fault, step_fault, root_answer, root_of}
use Rattle.cells_theory.specs.declared.cell.Field.{Field}
use Rattle.cells_theory.specs.declared.cell.Field.TheVariants as field
use Rattle.cells_theory.specs.declared.shown.Shown.{Shown}
use Rattle.cells_theory.specs.Memory.{damaged, no_free_cell, field_at}
use Rattle.cells_theory.specs.Trees.{Tree, empty, number, node, Stands}
use Rattle.cells_theory.specs.Promises.{shown_tree}
use Rattle.cells_theory.proofs.Looking.{look_promises}
use Rattle.cells_theory.proofs.Building.{build_promises}
use Rattle.cells_theory.proofs.Sweeping.{sweep_promises}
use Rattle.exchange_theory.specs.declared.column.Column.{Column}
use Rattle.exchange_theory.specs.declared.column.Column.TheVariants as column
use Rattle.exchange_theory.specs.declared.calls.Source.{Source}
use Rattle.exchange_theory.specs.declared.calls.Call.{Call}
use Rattle.exchange_theory.specs.declared.calls.Call.TheVariants.{Open as CallOpen, Publish, Close, Step, Root, Down, Look, Build, Sweep}
use Rattle.exchange_theory.specs.declared.calls.Answer.{Answer}
use Rattle.exchange_theory.specs.declared.calls.Answer.TheVariants as answer
use Rattle.exchange_theory.specs.World.{World, row_at, reading_at, building_at, memory_of}
use Rattle.exchange_theory.specs.Table.{allows}
use Rattle.exchange_theory.specs.Order.{filled, passing, fault_of, refuse, sized, admits}
use Rattle.exchange_theory.specs.Keeping.{Opens, Publishes, Closes, Steps, open_refusal, publish_refusal, close_refusal, step_refusal}
use Rattle.exchange_theory.specs.Reading.{Roots, Downs, Looks, root_fault, no_cell, down_fault, look_fault, root_refusal, down_refusal, look_refusal}
use Rattle.exchange_theory.specs.Building.{Builds, Sweeps, all_ranged, all_given, placed, fields_from, new_cell, first_waiting, build_refusal, sweep_refusal}
use Rattle.exchange_theory.specs.Did.{Did}
use Rattle.exchange_theory.specs.Story.{Story}
use Rattle.exchange_theory.specs.History.{event}
use Rattle.exchange_theory.specs.Promises.{names, SeenAs, LookIsTrue, NotDamaged}
use Rattle.exchange_theory.proofs.Accepted.{admitted, by_begun, by_stepped, by_done, by_shown, by_swept}
use Rattle.exchange_theory.proofs.Meant.{MeantBy}
use Rattle.exchange_theory.proofs.Naming.{few_names}
use Rattle.exchange_theory.proofs.Held.{HeldBy, eight_places, read_live, version_live}
use Rattle.exchange_theory.proofs.Invariant.{sources_live, root_path, follows}

-- there is no refusal, or another than 16
abbrev Clean : Option Fault → Type 0
Clean o = (f : Fault) → o ≡ Some f → f.refusal ≡ Damaged → ⊥

clean_none : Clean None
clean_none f e g = cc

clean_by : (l : Layer) (r : Refusal) → (r ≡ Damaged → ⊥) → Clean (Some (fault_by l r))
clean_by l r ne f e g = let k : fault_by l r ≡ f = cc in ne (ap (λ (x : Fault). x.refusal) k ∙ g)

clean_refuse : (b : Bool) (r : Refusal) (rest : Option Fault) → (r ≡ Damaged → ⊥) → (b ≡ true → Clean rest) → Clean (refuse b r rest)
clean_refuse true r rest ne k = k refl
clean_refuse false r rest ne k = clean_by layer.Exchange r ne

clean_unless : (b : Bool) (r : Refusal) (rest : Option Fault) → (r ≡ Damaged → ⊥) → (b ≡ true → Clean rest) → Clean (unless b r rest)
clean_unless true r rest ne k = k refl
clean_unless false r rest ne k = clean_by layer.Keeper r ne

clean_passing : (o rest : Option Fault) → Clean o → Clean rest → Clean (passing o rest)
clean_passing None rest a b = b
clean_passing (Some f) rest a b = a

clean_filled : (o : Option ℕ) (rest : Option Fault) → Clean rest → Clean (filled o rest)
clean_filled None rest k = clean_by layer.Exchange PlaceEmpty (λ e. cc)
clean_filled (Some c) rest k = k

-- what the keeper refuses
clean_two : (a b : Bool) → Clean (unless a NoProgram (unless b StageForbids None))
clean_two a b = clean_unless a NoProgram (unless b StageForbids None) (λ e. cc) (λ _. clean_unless b StageForbids None (λ e. cc) (λ _. clean_none))

clean_three : (a b c : Bool) → Clean (unless a NoProgram (unless b StageForbids (unless c LastSerial None)))
clean_three a b c = clean_unless a NoProgram (unless b StageForbids (unless c LastSerial None)) (λ e. cc)
    (λ _. clean_unless b StageForbids (unless c LastSerial None) (λ e. cc) (λ _. clean_unless c LastSerial None (λ e. cc) (λ _. clean_none)))

clean_root : (m : Meaning) (b : Bool) (o : Option ℕ) → Clean (fault_of (cond b (root_of m o) (Err (fault NoProgram))))
clean_root m true None = clean_by layer.Keeper StageForbids (λ e. cc)
clean_root m true (Some s) = clean_none
clean_root m false o = clean_by layer.Keeper NoProgram (λ e. cc)

-- a root below N is followed
clean_followed : (n : ℕ) (x : Result ℕ Fault) → Clean (fault_of x) → ((r : ℕ) → x ≡ Ok r → r < n) → Clean (root_fault n x)
clean_followed n (Ok r) k low = subst (λ (b : Bool). Clean (cond b None (Some damaged))) (sym (lt-ltb r n (low r refl))) clean_none
clean_followed n (Err f) k low = k

clean_field : (f : Field) → Clean (no_cell (Ok f))
clean_field field.Empty = clean_by layer.Exchange NoCell (λ e. cc)
clean_field (field.Number n) = clean_by layer.Exchange NoCell (λ e. cc)
clean_field (field.Cell c) = clean_none

clean_fault : {A : Type 0} (x : Result A Fault) → ((f : Fault) → x ≡ Err f → f.refusal ≡ Damaged → ⊥) → Clean (fault_of x)
clean_fault (Ok a) k = clean_none
clean_fault (Err g) k = λ f e d. let q : g ≡ f = cc in k f (ap Err q) d

clean_admits : {T : Type 0} (w : World T) (p : ℕ) (rg : Bool) (c : Column) (rest : Option Fault)
    → (p < w.programs → rg ≡ true → p < w.keeper.programs → allows (stage_of w.keeper p) c ≡ true → Clean rest) → Clean (admits w p rg c rest)
clean_admits w p rg c rest k =
    clean_refuse (ltb p w.programs) NoProgram _ (λ e. cc) (λ a.
    clean_refuse (sized w) WrongMemory _ (λ e. cc) (λ b.
    clean_refuse rg OutOfRange _ (λ e. cc) (λ d.
    clean_unless (ltb p w.keeper.programs) NoProgram _ (λ e. cc) (λ e.
    clean_refuse (allows (stage_of w.keeper p) c) StageForbids rest (λ e. cc) (λ g. k (ltb-true p w.programs a) d (ltb-true p w.keeper.programs e) g)))))

-- the answer of a look at a node
abbrev SeenOk : {T : Type 0} → T → Tree T → Tree T → Tree T → Tree T → Shown T → Type 0
SeenOk {T} t x₀ x₁ x₂ x₃ s = ◌≡◌ {A = Result (Shown T) Fault} (Ok s) (Ok (record { leaf = t; parts = shown_tree x₀ ∷ shown_tree x₁ ∷ shown_tree x₂ ∷ shown_tree x₃ ∷ [] }))

module _ {T : Type 0} (S : Story T) (w : World T) (laws : Laws w.keeper) (i : MeantBy S w.keeper) (h : HeldBy S w) where
  clean_down : (p a k : ℕ) (o : Option ℕ) → reading_at w p a ≡ o → p < 8 → a < 8 → k < 4 → Clean (down_fault w.cells k o)
  clean_down p a k None e lp la lk = clean_by layer.Exchange PlaceEmpty (λ e. cc)
  clean_down p a k (Some c) e lp la lk =
      subst (λ (x : Result Field Fault). Clean (no_cell x)) (sym (follows S w laws i h c k (read_live S.version S.reading S.building S.offers w laws h p a c lp la e) lk)) (clean_field (field_at w.cells c k))

  clean_look : (p a : ℕ) (o : Option ℕ) → reading_at w p a ≡ o → p < 8 → a < 8 → Clean (look_fault w.cells w.leaves o)
  clean_look p a None e lp la = clean_by layer.Exchange PlaceEmpty (λ e. cc)
  clean_look p a (Some c) e lp la =
      let l = (read_live S.version S.reading S.building S.offers w laws h p a c lp la e).0 in
      let g : c < length w.leaves = omega (arith, l, h.shaped.cells_fit, h.shaped.leaves_fit) in
      subst (λ (b : Bool). Clean (cond b None (Some damaged))) (sym (and_from (ltb c (length w.cells)) (ltb c (length w.leaves)) (lt-ltb c (length w.cells) l) (lt-ltb c (length w.leaves) g))) clean_none

  eight : (p : ℕ) → p < w.programs → p < 8
  eight p l = omega (arith, l, h.shaped.few)

  -- no call is refused with 16
  open_clean : (p : ℕ) → Clean (open_refusal w p)
  open_clean p = clean_admits w p true column.Open (open_fault w.keeper p) (λ a b c d. clean_two (ltb p w.keeper.programs) (idle (stage_of w.keeper p)))

  publish_clean : (p b : ℕ) → Clean (publish_refusal w p b)
  publish_clean p b = clean_admits w p (ltb b 8) column.Publish (filled (building_at w p b) (publish_fault w.keeper p))
      (λ x y c d. clean_filled (building_at w p b) (publish_fault w.keeper p)
      (clean_three (ltb p w.keeper.programs) (opened (stage_of w.keeper p)) (not (eqb w.keeper.current.serial w.keeper.last))))

  close_clean : (p : ℕ) → Clean (close_refusal w p)
  close_clean p = clean_admits w p true column.Close (passing (fault_of (root_answer w.keeper p)) (close_fault w.keeper p))
      (λ a b c d. clean_passing (fault_of (root_answer w.keeper p)) (close_fault w.keeper p) (clean_root w.keeper (ltb p w.keeper.programs) (has (stage_of w.keeper p)))
      (clean_two (ltb p w.keeper.programs) (closable (stage_of w.keeper p))))

  step_clean : (p : ℕ) → Clean (step_refusal w p)
  step_clean p = clean_admits w p true column.Step (step_fault w.keeper p) (λ a b c d. clean_two (ltb p w.keeper.programs) (moving (stage_of w.keeper p)))

  root_clean : (p a : ℕ) → Clean (root_refusal w p a)
  root_clean p a = clean_admits w p (ltb a 8) column.Root (root_fault w.size (root_answer w.keeper p))
      (λ lp la seat al. clean_followed w.size (root_answer w.keeper p) (clean_root w.keeper (ltb p w.keeper.programs) (has (stage_of w.keeper p)))
      (λ r e. let t = root_path S w laws i h p r seat al e in
      let l = (version_live S.version S.reading S.building S.offers w laws h t.0 t.3).0 in omega (arith, l, t.2, h.shaped.cells_fit)))

  down_clean : (p a k b : ℕ) → Clean (down_refusal w p a k b)
  down_clean p a k b = clean_admits w p (ltb a 8 && (ltb k 4 && ltb b 8)) column.Down (down_fault w.cells k (reading_at w p a))
      (λ lp rg seat al. let x = and_parts (ltb a 8) (ltb k 4 && ltb b 8) rg in let y = and_parts (ltb k 4) (ltb b 8) x.1 in
      clean_down p a k (reading_at w p a) refl (eight p lp) (ltb-true a 8 x.0) (ltb-true k 4 y.0))

  look_clean : (p a : ℕ) → Clean (look_refusal w p a)
  look_clean p a = clean_admits w p (ltb a 8) column.Look (look_fault w.cells w.leaves (reading_at w p a)) (λ lp la seat al. clean_look p a (reading_at w p a) refl (eight p lp) (ltb-true a 8 la))

  pub names_few : length (names w) ≤ 8 * w.programs + (w.programs + 1)
  names_few = few_names w laws (eight_places w h.shaped) h.shaped.vacant h.shaped.«same»

  build_clean : (p b : ℕ) (ss : List Source) (leaf : T) → Clean (build_refusal w p b ss)
  build_clean p b ss leaf = clean_admits w p (ltb b 8 && all_ranged ss) column.Build (refuse (all_given (row_at w p) ss) PlaceEmpty (fault_of (new_cell w p ss)))
      (λ lp rg seat al. clean_refuse (all_given (row_at w p) ss) PlaceEmpty (fault_of (new_cell w p ss)) (λ e. cc) (λ _. clean_fault (new_cell w p ss) (λ f e d.
      let x = and_parts (ltb b 8) (all_ranged ss) rg in
      let q : f ≡ no_free_cell = build_promises (fields_from (row_at w p) ss) leaf (memory_of w) w.leaves (Err f) (memory_of w) w.leaves (sym e) refl refl (names w) h.sound
      (sources_live S w laws i h p ss (eight p lp) x.1) (omega (arith, h.shaped.cells_fit, h.shaped.leaves_fit)) (omega (arith, names_few, h.shaped.cells_fit, h.shaped.most, h.shaped.few)) in
      let z : NoFreeCell ≡ Damaged = sym (ap (λ (y : Fault). y.refusal) q) ∙ d in cc)))

  sweep_clean : Clean (sweep_refusal w)
  sweep_clean = clean_refuse (sized w) WrongMemory (fault_of (first_waiting w)) (λ e. cc) (λ _. clean_fault (first_waiting w) (λ f e d.
      sweep_promises (memory_of w) w.leaves (Err f) (memory_of w) (sym e) refl (names w) h.sound (omega (arith, h.shaped.cells_fit, h.shaped.leaves_fit))))

  -- of a refusal x with fault g, f is g
  from_fault : (x : Option Fault) → Clean x → (g : Fault) → x ≡ Some g → (f : Fault) → ◌≡◌ {A = Result (Answer T) Fault} (Err g) (Err f) → f.refusal ≡ Damaged → ⊥
  from_fault x k g e f q d = let gf : g ≡ f = cc in k g e (ap (λ (y : Fault). y.refusal) gf ∙ d)

  not_refused : (a : Answer T) (f : Fault) → ◌≡◌ {A = Result (Answer T) Fault} (Ok a) (Err f) → f.refusal ≡ Damaged → ⊥
  not_refused a f q d = cc

  pub told_sure : (v : World T) (c : Call T) (r : Result (Answer T) Fault) → Did c r w v → NotDamaged (event c r) S
  told_sure v (CallOpen p) r d = by_begun (λ x. Opens p x w v) (λ x. NotDamaged (event (CallOpen p) x) S) r d (λ a o. not_refused a) (λ g e. from_fault (open_refusal w p) (open_clean p) g e.0)
  told_sure v (Publish p b) r d = by_begun (λ x. Publishes p b x w v) (λ x. NotDamaged (event (Publish p b) x) S) r d (λ a o. not_refused a) (λ g e. from_fault (publish_refusal w p b) (publish_clean p b) g e.0)
  told_sure v (Close p) r d = by_begun (λ x. Closes p x w v) (λ x. NotDamaged (event (Close p) x) S) r d (λ a o. not_refused a) (λ g e. from_fault (close_refusal w p) (close_clean p) g e.0)
  told_sure v (Step p) r d = by_stepped (λ x. Steps p x w v) (λ x. NotDamaged (event (Step p) x) S) r d (λ o s. not_refused (answer.Stepped o)) (λ g e. from_fault (step_refusal w p) (step_clean p) g e.0)
  told_sure v (Root p a) r d = by_done (λ x. Roots p a x w v) (λ x. NotDamaged (event (Root p a) x) S) r d (λ x o. not_refused x) (λ g e. from_fault (root_refusal w p a) (root_clean p a) g e.0)
  told_sure v (Down p a k b) r d = by_done (λ x. Downs p a k b x w v) (λ x. NotDamaged (event (Down p a k b) x) S) r d (λ x o. not_refused x) (λ g e. from_fault (down_refusal w p a k b) (down_clean p a k b) g e.0)
  told_sure v (Look p a) r d = by_shown (λ x. Looks p a x w v) (λ x. NotDamaged (event (Look p a) x) S) r d (λ x s o. not_refused x) (λ g e. from_fault (look_refusal w p a) (look_clean p a) g e.0)
  told_sure v (Build p b ss leaf) r d = by_done (λ x. Builds p b ss leaf x w v) (λ x. NotDamaged (event (Build p b ss leaf) x) S) r d (λ x o. not_refused x) (λ g e. from_fault (build_refusal w p b ss) (build_clean p b ss leaf) g e.0)
  told_sure v Sweep r d = by_swept (λ x. Sweeps x w v) (λ x. NotDamaged (event Sweep x) S) r d (λ x b o. not_refused x) (λ g e. from_fault (sweep_refusal w) sweep_clean g e.0)

  -- looks are true
  pub told_look : (v : World T) (c : Call T) (r : Result (Answer T) Fault) → Did c r w v → LookIsTrue (event c r) S
  told_look v c r d p a s e g =
      let l = subst (λ (x : Result (Answer T) Fault). Did (Look p a) x w v) g (subst (λ (x : Call T). Did x r w v) e d) in
      let o = l.1 in
      let ad = admitted w p (ltb a 8) column.Look (look_fault w.cells w.leaves (reading_at w p a)) l.0 in
      seen (S.reading p a) o.cell (look_promises w.cells w.leaves o.cell (Ok s) o.shows).shows o.shows.0 o.shows.1
      (subst (λ (x : Option ℕ). Stands w.cells w.leaves (placed x) (S.reading p a)) o.start (h.stood.read p a (eight p ad.program) (ltb-true a 8 ad.range)))
    where
      seen : (x : Tree T) (c : ℕ) → ((t : T) (x₀ x₁ x₂ x₃ : Tree T) → c < length w.cells → c < length w.leaves → Stands w.cells w.leaves (field.Cell c) (node t x₀ x₁ x₂ x₃) → SeenOk t x₀ x₁ x₂ x₃ s)
          → c < length w.cells → c < length w.leaves → Stands w.cells w.leaves (field.Cell c) x → SeenAs x s
      seen empty c k l m st = absurd st
      seen (number n) c k l m st = absurd st
      seen (node t x₀ x₁ x₂ x₃) c k l m st = let q = k t x₀ x₁ x₂ x₃ l m st in cc
