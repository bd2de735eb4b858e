-- The cells hold what the run tells after a publish is accepted, a version is handed out, and a close.
use Rattle.std.proofs.Common.{◌≡◌, ℕ, ◌+◌, ◌<◌, ◌≤◌, List, [], ◌∷◌, ◌++◌, length, get_or, Some, None, Option, sym, refl, ap, ◌∙◌, subst, ⊎_elim, arith}
use Rattle.std.proofs.lemmas.Bool.{cases_eq}
use Rattle.keeper.specs.declared.version.Version.{Version}
use Rattle.keeper.specs.declared.stage.Stage.TheVariants.{Idle, Offering, Offered, Closing}
use Rattle.keeper.specs.Stages.{serial_of}
use Rattle.keeper.specs.Meaning.{Meaning, Laws, stage_of, times as times_kept, root_at}
use Rattle.keeper.specs.Effects.{Frame, Accepts, HandsOut, CloseDone}
use Rattle.keeper.specs.Totals.{total}
use Rattle.cells_theory.specs.declared.cell.Field.TheVariants as field
use Rattle.cells_theory.specs.Memory.{Memory, fields_at}
use Rattle.cells_theory.specs.LetGo.{let_go}
use Rattle.cells_theory.specs.Trees.{Tree, empty, Stands, Reaches}
use Rattle.cells_theory.specs.Sound.{times, Sound}
use Rattle.cells_theory.proofs.Counts.{sound_like, let_go_sound, let_go_fields}
use Rattle.cells_theory.proofs.Frames.{kept_stands, kept_reaches}
use Rattle.exchange_theory.specs.declared.row.Row.{Row}
use Rattle.exchange_theory.specs.World.{World, emptied, row_building, row_at, reading_at, building_at, offered_at, closed_at, memory_of, keeping, with_row, building, storing, closing, let_go_place, let_go_places}
use Rattle.exchange_theory.specs.Building.{placed}
use Rattle.exchange_theory.specs.Story.{at, at_place}
use Rattle.exchange_theory.specs.Promises.{cells_in, names}
use Rattle.exchange_theory.proofs.Meant.{opened_at, at_same, at_other, begun_stage, begun_others, rebinds_opened}
use Rattle.exchange_theory.proofs.Rows.{row_same, row_other, part_kept, place_same, place_other, all_none}
use Rattle.exchange_theory.proofs.Naming.{name_by, is_root, times_append, times_places, names_are, names_row, names_place, root_added, root_new, times_added, times_new, on_place}
use Rattle.exchange_theory.proofs.Held.{Held, Stays, stood_stays, stood_moves, shaped_row, shaped_keeps, opened_has, rebinds_offering, rebinds_closing, rest_offers_not, rest_closes_not}
use Rattle.exchange_theory.proofs.Changes.{let_go_length, place_length, place_fields, place_sound, shaped_stores, shaped_builds}

-- memory whose fields are as they were
same_stays : {T : Type 0} (w : World T) (m : Memory) → ((d : ℕ) → fields_at m.cells d ≡ fields_at w.cells d) → Stays w m w.leaves
same_stays w m fs = record {
  stands = λ d t l s. kept_stands w.cells m.cells w.leaves fs (field.Cell d) t s;
  reaches = λ d e l r. kept_reaches w.cells m.cells fs d e r;
}

-- what places name is let go: no field changes, no cell comes or goes, and the outside names each of them once less
places_fields : (os : List (Option ℕ)) (m : Memory) (d : ℕ) → fields_at (let_go_places os m).cells d ≡ fields_at m.cells d
places_fields [] m d = refl
places_fields (o ∷ os) m d = places_fields os (let_go_place o m) d ∙ place_fields o m d

places_length : (os : List (Option ℕ)) (m : Memory) → length (let_go_places os m).cells ≡ length m.cells
places_length [] m = refl
places_length (o ∷ os) m = places_length os (let_go_place o m) ∙ place_length o m

places_sound : (os : List (Option ℕ)) (m : Memory) (ns rest : List ℕ) → Sound m ns → ((d : ℕ) → times d rest + total (name_by d) os ≡ times d ns) → Sound (let_go_places os m) rest
places_sound [] m ns rest s e = sound_like m ns rest (λ d. omega (arith, e d)) s
places_sound (o ∷ os) m ns rest s e =
    places_sound os (let_go_place o m) (cells_in os ++ rest) rest
    (place_sound o m ns (cells_in os ++ rest) s (λ d. omega (arith, e d, times_append d (cells_in os) rest, times_places d os)))
    (λ d. omega (arith, times_append d (cells_in os) rest, times_places d os))

module _ {T : Type 0} (version' : ℕ → Tree T) (rd bd : ℕ → ℕ → Tree T) (offers : ℕ → ℕ) (w : World T) (laws : Laws w.keeper) (h : Held version' rd bd offers w) where
  -- the offered place is empty, and the new version has its root
  pub held_accepted : (p t : ℕ) (n : Meaning) → p < w.keeper.programs → Laws n → Frame w.keeper p n → (a : Accepts w.keeper p t n) → times_kept t w.keeper.kept ≡ 0
      → Held (at version' t (bd p (offers p))) rd (at_place bd p (offers p) empty) offers (building p (offered_at w p) None (keeping n w))
  held_accepted p t n lp lawn f a new =
      let m = w.keeper in
      let r = a.root in
      let note = h.noted.offer p r a.over a.was in
      let lo = note.0 in
      let once = laws.once in
      let oncen = lawn.once in
      let kn = root_new t r m.kept n.kept a.added new (oncen t) in
      let ko : (s : ℕ) → (s ≡ t → ⊥) → root_at s n.kept ≡ root_at s m.kept = λ s ne. root_added s t r m.kept n.kept a.added ne (once s) (oncen s) in
      let cur : n.current.serial ≡ t = ap (λ (x : Version). x.serial) a.replaced in
      let l8 : p < 8 = omega (arith, h.shaped.few, h.shaped.«same», lp) in
      let l : p < length w.rows = omega (arith, h.shaped.seats, l8) in
      let bl : offers p < length (row_at w p).building = omega (arith, h.shaped.builds p l8, lo) in
      let standing : Stands w.cells w.leaves (field.Cell r) (bd p (offers p)) = subst (λ (o : Option ℕ). Stands w.cells w.leaves (placed o) (bd p (offers p))) note.2 (h.stood.built p (offers p) l8 lo) in
      let so = stood_moves n (at version' t (bd p (offers p))) h.stood
      (λ s k. ⊎_elim
      (λ e. subst (λ (x : ℕ). Stands w.cells w.leaves (field.Cell (root_at x n.kept)) (at version' t (bd p (offers p)) x)) (sym e)
      (subst (λ (y : Tree T). Stands w.cells w.leaves (field.Cell (root_at t n.kept)) y) (sym (at_same version' t (bd p (offers p))))
      (subst (λ (c : ℕ). Stands w.cells w.leaves (field.Cell c) (bd p (offers p))) (sym kn) standing)))
      (λ ne. subst (λ (y : Tree T). Stands w.cells w.leaves (field.Cell (root_at s n.kept)) y) (sym (at_other version' t (bd p (offers p)) s ne))
      (subst (λ (c : ℕ). Stands w.cells w.leaves (field.Cell c) (version' s)) (sym (ko s ne)) (h.stood.versions s (omega (arith, k, times_added s t r m.kept n.kept a.added ne)))))
      (cases_eq s t))
      (λ q s e. (opens q s e, ko s (λ z. omega (arith, laws.had q s (opened_has (stage_of m q) s e), ap (λ x. times_kept x m.kept) z, new)))) in
      let k : World T = keeping n w in
      let x = row_building (offers p) None (row_at w p) in
      let u : World T = with_row p x k in
      let own = place_same (λ (y : Row). y.building) k p x (offers p) None l bl refl in
      let apart = place_other (λ (y : Row). y.building) k p x (offers p) None l refl in
      let reads = λ (b : ℕ). part_kept (λ (y : Row). get_or y.reading b None) k p x l refl in
      subst (λ (i : ℕ). Held (at version' t (bd p (offers p))) rd (at_place bd p (offers p) empty) offers (building p i None (keeping n w))) (sym note.1)
      (record {
        shaped = shaped_builds p (offers p) None (omega (arith, h.shaped.«same», lp)) (shaped_keeps n h.shaped f.programs);
        sound = sound_like (memory_of w) (names w) (names u)
            (λ d. omega (arith, names_are u d, names_are w d, a.added (is_root d), names_place w p (offers p) None l bl d, ap (name_by d) note.2)) h.sound;
        stood = record {
          versions = so.versions;
          built = λ q b lq lc. on_place (λ o y. Stands w.cells w.leaves (placed o) y) (building_at w) (building_at u) bd p (offers p) None empty own apart tt q b (h.stood.built q b lq lc);
          read = λ q b lq lc. subst (λ (o : Option ℕ). Stands w.cells w.leaves (placed o) (rd q b)) (sym (reads b q)) (so.read q b lq lc);
          reached = λ q b c lq lc e. so.reached q b c lq lc (sym (reads b q) ∙ e);
        };
        noted = record {
          offer = λ q y s e. ⊎_elim
              (λ z. absurd (rest_offers_not (Offered a.over) (stage_of n p) y s refl a.«is» (ap (stage_of n) (sym z) ∙ e)))
              (λ ne. let o = h.noted.offer q y s (rebinds_offering n (stage_of m q) (stage_of n q) y s (f.others q ne) e) in
              (o.0, part_kept (λ (z : Row). z.offered) k p x l refl q ∙ o.1, apart q (offers q) (λ j _. ne j) ∙ o.2))
              (cases_eq q p);
          close = λ q s e. ⊎_elim
              (λ z. absurd (rest_closes_not (Offered a.over) (stage_of n p) s refl a.«is» (ap (stage_of n) (sym z) ∙ e)))
              (λ ne. let c = h.noted.close q s (rebinds_closing n (stage_of m q) (stage_of n q) s (f.others q ne) e) in
              let st : s ≡ t → ⊥ = λ z. omega (arith, c.0, z, a.serial, a.current) in
              (omega (arith, c.0, cur, a.serial, a.current), λ g. part_kept (λ (z : Row). z.closing) k p x l refl q ∙ c.1 (omega (arith, g, times_added s t r m.kept n.kept a.added st)) ∙ sym (ko s st)))
              (cases_eq q p);
        };
      })
    where
      opens : (q s : ℕ) → opened_at (stage_of w.keeper q) ≡ Some s → opened_at (stage_of n q) ≡ Some s
      opens q s e =
          ⊎_elim (λ z. ap (λ j. opened_at (stage_of n j)) z ∙ ap opened_at a.«is» ∙ sym (ap opened_at a.was) ∙ ap (λ j. opened_at (stage_of w.keeper j)) (sym z) ∙ e)
          (λ ne. rebinds_opened n (stage_of w.keeper q) (stage_of n q) (f.others q ne) ∙ e) (cases_eq q p)

  -- the version is kept no longer, and its root is let go
  pub held_out : (p x : ℕ) (n : Meaning) → Laws n → Frame w.keeper p n → (a : HandsOut w.keeper p x n)
      → Held version' rd bd offers (storing (let_go (closed_at w p) (memory_of w)) (keeping n w))
  held_out p x n lawn f a =
      let m = w.keeper in
      let r = root_at x m.kept in
      let note = (h.noted.close p x a.was).1 a.kept in
      let o = let_go r (memory_of w) in
      let u : World T = storing o (keeping n w) in
      let ko : (s : ℕ) → (s ≡ x → ⊥) → root_at s n.kept ≡ root_at s m.kept = λ s ne. sym (root_added s x r n.kept m.kept a.removed ne (lawn.once s) (laws.once s)) in
      let gone : times_kept x n.kept ≡ 0 = omega (arith, times_new x r n.kept m.kept a.removed, laws.once x) in
      let so = stood_stays version' rd bd offers w laws h o w.leaves (same_stays w o (let_go_fields (memory_of w) r)) in
      let differs : (s : ℕ) → 0 < times_kept s n.kept → s ≡ x → ⊥ = λ s k z. omega (arith, k, ap (λ y. times_kept y n.kept) z, gone) in
      let si = stood_moves n version' so
      (λ s k. subst (λ (c : ℕ). Stands o.cells w.leaves (field.Cell c) (version' s)) (sym (ko s (differs s k)))
      (so.versions s (omega (arith, k, times_added s x r n.kept m.kept a.removed (differs s k)))))
      (λ q s e. let oq = opens q s e in (oq, ko s (differs s (lawn.had q s (opened_has (stage_of n q) s oq))))) in
      subst (λ (i : ℕ). Held version' rd bd offers (storing (let_go i (memory_of w)) (keeping n w))) (sym note)
      (record {
        shaped = shaped_keeps n (shaped_stores o w.leaves (let_go_length r (memory_of w)) refl h.shaped) f.programs;
        sound = let_go_sound (memory_of w) (names w) (names u) r (λ d. omega (arith, names_are u d, names_are w d, a.removed (is_root d))) h.sound;
        stood = record { versions = si.versions; built = si.built; read = si.read; reached = si.reached };
        noted = record {
          offer = λ q y s e. ⊎_elim
              (λ z. absurd (rest_offers_not Idle (stage_of n p) y s refl a.«is» (ap (stage_of n) (sym z) ∙ e)))
              (λ ne. h.noted.offer q y s (rebinds_offering n (stage_of m q) (stage_of n q) y s (f.others q ne) e))
              (cases_eq q p);
          close = λ q s e. ⊎_elim
              (λ z. absurd (rest_closes_not Idle (stage_of n p) s refl a.«is» (ap (stage_of n) (sym z) ∙ e)))
              (λ ne. let c = h.noted.close q s (rebinds_closing n (stage_of m q) (stage_of n q) s (f.others q ne) e) in (
                omega (arith, c.0, ap (λ (y : Version). y.serial) a.current),
                λ k. c.1 (omega (arith, k, times_added s x r n.kept m.kept a.removed (differs s k))) ∙ sym (ko s (differs s k)),
              ))
              (cases_eq q p);
        };
      })
    where
      opens : (q s : ℕ) → opened_at (stage_of w.keeper q) ≡ Some s → opened_at (stage_of n q) ≡ Some s
      opens q s e =
          ⊎_elim (λ z. let g : opened_at (Closing x) ≡ Some s = sym (ap opened_at a.was) ∙ ap (λ j. opened_at (stage_of w.keeper j)) (sym z) ∙ e in absurd cc)
          (λ ne. rebinds_opened n (stage_of w.keeper q) (stage_of n q) (f.others q ne) ∙ e) (cases_eq q p)

  -- the places of the program are empty, and what it built is let go
  pub held_closed : (p root : ℕ) (n : Meaning) → p < w.keeper.programs → CloseDone w.keeper p n → root ≡ root_at (serial_of (stage_of w.keeper p)) w.keeper.kept
      → serial_of (stage_of w.keeper p) ≤ w.keeper.current.serial
      → Held version' (at rd p (λ _. empty)) (at bd p (λ _. empty)) offers
      (closing p root (storing (let_go_places (row_at w p).building (memory_of w)) (keeping n w)))
  held_closed p root n lp d er low =
      let m = w.keeper in
      let s₀ = serial_of (stage_of m p) in
      let own_stage = begun_stage m p (Closing s₀) m.declared.closing n (omega (arith, laws.staged, lp)) d in
      let others = begun_others m p (Closing s₀) m.declared.closing n d in
      let k : n.kept ≡ m.kept = ap (λ (x : Meaning). x.kept) d.after in
      let cur : n.current ≡ m.current = ap (λ (x : Meaning). x.current) d.after in
      let i = h.shaped in
      let l8 : p < 8 = omega (arith, i.few, i.«same», lp) in
      let l : p < length w.rows = omega (arith, i.seats, l8) in
      let old = row_at w p in
      let o = let_go_places old.building (memory_of w) in
      let so = stood_stays version' rd bd offers w laws h o w.leaves (same_stays w o (places_fields old.building (memory_of w))) in
      let u : World T = storing o (keeping n w) in
      let r = emptied old.offered root in
      let v : World T = with_row p r u in
      let own = row_same u p r l in
      let other = row_other u p r in
      let sd = places_sound old.building (memory_of w) (names w) (names v) h.sound
      (λ d. omega (arith, names_are v d, names_are w d, names_row w p r l d, ap (total (is_root d)) k)) in
      record {
        shaped = shaped_row p r (omega (arith, i.«same», lp)) refl refl (shaped_keeps n (shaped_stores o w.leaves (places_length old.building (memory_of w)) refl i) (ap (λ (x : Meaning). x.programs) d.after));
        sound = sd;
        stood = record {
          versions = λ s x. subst (λ (vs : List Version). Stands o.cells w.leaves (field.Cell (root_at s vs)) (version' s)) (sym k) (so.versions s (subst (λ (vs : List Version). 0 < times_kept s vs) k x));
          built = λ q b lq lc. ⊎_elim
              (λ z. cleared o (building_at v) bd p q b z (ap (λ (x : Row). get_or x.building b None) own ∙ all_none 8 b))
              (λ ne. apart o (building_at v) (building_at w) bd p q b ne (ap (λ (x : Row). get_or x.building b None) (other q ne)) (so.built q b lq lc))
              (cases_eq q p);
          read = λ q b lq lc. ⊎_elim
              (λ z. cleared o (reading_at v) rd p q b z (ap (λ (x : Row). get_or x.reading b None) own ∙ all_none 8 b))
              (λ ne. apart o (reading_at v) (reading_at w) rd p q b ne (ap (λ (x : Row). get_or x.reading b None) (other q ne)) (so.read q b lq lc))
              (cases_eq q p);
          reached = λ q b c lq lc e. ⊎_elim
              (λ z. let g : None ≡ Some c = sym (ap (λ j. reading_at v j b) z ∙ ap (λ (x : Row). get_or x.reading b None) own ∙ all_none 8 b) ∙ e in absurd cc)
              (λ ne. let x = so.reached q b c lq lc (sym (ap (λ (y : Row). get_or y.reading b None) (other q ne)) ∙ e) in
              (x.0, ap opened_at (others q ne) ∙ x.1, subst (λ (vs : List Version). Reaches o.cells (root_at x.0 vs) c) (sym k) x.2))
              (cases_eq q p);
        };
        noted = record {
          offer = λ q x s e. ⊎_elim
              (λ z. let g : Closing s₀ ≡ Offering x s = sym own_stage ∙ ap (stage_of n) (sym z) ∙ e in absurd cc)
              (λ ne. let note = h.noted.offer q x s (sym (others q ne) ∙ e) in
              (note.0, ap (λ (y : Row). y.offered) (other q ne) ∙ note.1, ap (λ (y : Row). get_or y.building (offers q) None) (other q ne) ∙ note.2))
              (cases_eq q p);
          close = λ q s e. ⊎_elim
              (λ z. let g : Closing s₀ ≡ Closing s = sym own_stage ∙ ap (stage_of n) (sym z) ∙ e in let ss : s₀ ≡ s = cc in (
                omega (arith, low, ss, ap (λ (x : Version). x.serial) cur),
                λ x. ap (closed_at v) z ∙ ap (λ (y : Row). y.closing) own ∙ er ∙ ap (λ j. root_at j m.kept) ss ∙ ap (root_at s) (sym k),
              ))
              (λ ne. let note = h.noted.close q s (sym (others q ne) ∙ e) in (
                omega (arith, note.0, ap (λ (x : Version). x.serial) cur),
                λ x. ap (λ (y : Row). y.closing) (other q ne) ∙ note.1 (subst (λ (vs : List Version). 0 < times_kept s vs) k x) ∙ ap (root_at s) (sym k),
              ))
              (cases_eq q p);
        };
      }
    where
      cleared : (o : Memory) (new : ℕ → ℕ → Option ℕ) (f : ℕ → ℕ → Tree T) (p q b : ℕ) → q ≡ p → new p b ≡ None → Stands o.cells w.leaves (placed (new q b)) (at f p (λ _. empty) q b)
      cleared o new f p q b z e =
          subst (λ (y : Tree T). Stands o.cells w.leaves (placed (new q b)) y) (sym (ap (λ (j : ℕ). at f p (λ _. empty) j b) z ∙ ap (λ (g : ℕ → Tree T). g b) (at_same f p (λ _. empty))))
          (subst (λ (y : Option ℕ). Stands {T = T} o.cells w.leaves (placed y) empty) (sym (ap (λ j. new j b) z ∙ e)) tt)

      apart : (o : Memory) (new old : ℕ → ℕ → Option ℕ) (f : ℕ → ℕ → Tree T) (p q b : ℕ) → (q ≡ p → ⊥) → new q b ≡ old q b → Stands o.cells w.leaves (placed (old q b)) (f q b)
          → Stands o.cells w.leaves (placed (new q b)) (at f p (λ _. empty) q b)
      apart o new old f p q b ne e s =
          subst (λ (y : Tree T). Stands o.cells w.leaves (placed (new q b)) y) (sym (ap (λ (g : ℕ → Tree T). g b) (at_other f p (λ _. empty) q ne)))
          (subst (λ (y : Option ℕ). Stands o.cells w.leaves (placed y) (f q b)) (sym e) s)
