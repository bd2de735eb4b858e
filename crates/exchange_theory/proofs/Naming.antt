-- How often the outside names a cell: by kept roots and by building places.
use Rattle.std.proofs.Common.{◌≡◌, ℕ, zero, suc, ◌+◌, ◌*◌, ◌<◌, ◌≤◌, cond, eqb, List, [], ◌∷◌, ◌++◌, map, length, get_or, set, Some, None, Option, sym, refl, ap, ◌∙◌, subst, ⊎_elim, arith}
use Rattle.std.proofs.lemmas.List.{length-map, length-append}
use Rattle.std.proofs.lemmas.Bool.{cases_eq, eq-eqb, ne_eqb, and_from, and_left, and_right}
use Rattle.keeper.specs.declared.version.Version.{Version}
use Rattle.keeper.specs.declared.stage.Stage.{Stage}
use Rattle.keeper.specs.Totals.{total, Added}
use Rattle.keeper.proofs.Totals.{total_set}
use Rattle.keeper.specs.Stages.{engaged, named, uses}
use Rattle.keeper.specs.Meaning.{Meaning, Laws, version, is_serial, times as times_kept, root_at}
use Rattle.cells_theory.specs.Memory.{same}
use Rattle.cells_theory.specs.Sound.{times}
use Rattle.cells_theory.proofs.Counting.{same_is}
use Rattle.exchange_theory.specs.declared.row.Row.{Row}
use Rattle.exchange_theory.specs.World.{World, row_building, row_at, building_at, emptied}
use Rattle.exchange_theory.specs.Story.{at_place}
use Rattle.exchange_theory.specs.Promises.{cells_in, built_in, names}

-- 1 where a place names cell c, and where a version's root is c
abbrev pub name_by : ℕ → Option ℕ → ℕ
name_by c None = 0
name_by c (Some d) = same c d

abbrev pub is_root : ℕ → Version → ℕ
is_root c v = same c v.root

pub times_append : (c : ℕ) (xs ys : List ℕ) → times c (xs ++ ys) ≡ times c xs + times c ys
times_append c [] ys = omega arith
times_append c (x ∷ xs) ys = omega (arith, times_append c xs ys)

times_roots : (c : ℕ) (vs : List Version) → times c (map (λ (v : Version). v.root) vs) ≡ total (is_root c) vs
times_roots c [] = refl
times_roots c (v ∷ vs) = omega (arith, times_roots c vs)

pub times_places : (c : ℕ) (os : List (Option ℕ)) → times c (cells_in os) ≡ total (name_by c) os
times_places c [] = refl
times_places c (None ∷ os) = omega (arith, times_places c os)
times_places c (Some d ∷ os) = omega (arith, times_places c os)

-- how often the building places of a row name cell c
abbrev pub names_in : ℕ → Row → ℕ
names_in c r = total (name_by c) r.building

times_rows : (c : ℕ) (rs : List Row) → times c (built_in rs) ≡ total (names_in c) rs
times_rows c [] = refl
times_rows c (r ∷ rs) = omega (arith, times_append c (cells_in r.building) (built_in rs), times_places c r.building, times_rows c rs)

pub names_are : {T : Type 0} (w : World T) (c : ℕ) → times c (names w) ≡ total (is_root c) w.keeper.kept + total (names_in c) w.rows
names_are w c = omega (arith, times_append c (map (λ (v : Version). v.root) w.keeper.kept) (built_in w.rows), times_roots c w.keeper.kept, times_rows c w.rows)

-- another row for program p
pub names_row : {T : Type 0} (w : World T) (p : ℕ) (r : Row) → p < length w.rows → (c : ℕ) → total (names_in c) (set w.rows p r) + names_in c (row_at w p) ≡ total (names_in c) w.rows + names_in c r
names_row w p r l c = total_set (names_in c) w.rows p r (emptied 0 0) l

-- another name in building place b of program p
pub names_place : {T : Type 0} (w : World T) (p b : ℕ) (o : Option ℕ) → p < length w.rows → b < length (row_at w p).building
    → (c : ℕ) → total (names_in c) (set w.rows p (row_building b o (row_at w p))) + name_by c (building_at w p b) ≡ total (names_in c) w.rows + name_by c o
names_place w p b o l lb c = omega (arith, names_row w p (row_building b o (row_at w p)) l c, total_set (name_by c) (row_at w p).building b o None lb)

-- the root of a kept version is named
pub root_named : (s : ℕ) (vs : List Version) → 0 < times_kept s vs → 0 < total (is_root (root_at s vs)) vs
root_named s [] h = absurd (omega arith)
root_named s (v ∷ vs) h =
    ⊎_elim
    (λ e. let r : root_at s (v ∷ vs) ≡ v.root = ap (λ b. cond b v.root (root_at s vs)) (eq-eqb s v.serial e) in
    omega (arith, same_is (root_at s (v ∷ vs)) v.root r))
    (λ ne. let r : root_at s (v ∷ vs) ≡ root_at s vs = ap (λ b. cond b v.root (root_at s vs)) (ne_eqb s v.serial ne) in
    let k : is_serial s v ≡ 0 = ap {B = ℕ} (λ b. cond b 1 0) (ne_eqb s v.serial ne) in
    let u = root_named s vs (omega (arith, h, k)) in
    let g : total (is_root (root_at s (v ∷ vs))) vs ≡ total (is_root (root_at s vs)) vs = ap (λ (x : ℕ). total (is_root x) vs) r in
    omega (arith, u, g))
    (cases_eq s v.serial)

-- the root of serial s as a sum, where s is kept once at most
abbrev root_if : ℕ → Version → ℕ
root_if s v = cond (eqb s v.serial) v.root 0

root_none : (s : ℕ) (vs : List Version) → times_kept s vs ≡ 0 → total (root_if s) vs ≡ 0
root_none s [] h = refl
root_none s (v ∷ vs) h =
    ⊎_elim
    (λ e. let k : is_serial s v ≡ 1 = ap {B = ℕ} (λ b. cond b 1 0) (eq-eqb s v.serial e) in absurd (omega (arith, h, k)))
    (λ ne. let r : root_if s v ≡ 0 = ap {B = ℕ} (λ b. cond b v.root 0) (ne_eqb s v.serial ne) in omega (arith, r, root_none s vs (omega (arith, h))))
    (cases_eq s v.serial)

root_sum : (s : ℕ) (vs : List Version) → times_kept s vs ≤ 1 → total (root_if s) vs ≡ root_at s vs
root_sum s [] h = refl
root_sum s (v ∷ vs) h =
    ⊎_elim
    (λ e. let b = eq-eqb s v.serial e in
    let k : is_serial s v ≡ 1 = ap {B = ℕ} (λ b. cond b 1 0) b in
    let r : root_if s v ≡ v.root = ap {B = ℕ} (λ b. cond b v.root 0) b in
    let a : root_at s (v ∷ vs) ≡ v.root = ap (λ b. cond b v.root (root_at s vs)) b in
    omega (arith, r, a, root_none s vs (omega (arith, h, k))))
    (λ ne. let b = ne_eqb s v.serial ne in
    let r : root_if s v ≡ 0 = ap {B = ℕ} (λ b. cond b v.root 0) b in
    let a : root_at s (v ∷ vs) ≡ root_at s vs = ap (λ b. cond b v.root (root_at s vs)) b in
    omega (arith, r, a, root_sum s vs (omega (arith, h))))
    (cases_eq s v.serial)

-- another version more does not change a root; and its own root is found
pub root_added : (s t r : ℕ) (vs us : List Version) → Added (version t r) vs us → (s ≡ t → ⊥) → times_kept s vs ≤ 1 → times_kept s us ≤ 1 → root_at s us ≡ root_at s vs
root_added s t r vs us a ne l k =
    let z : root_if s (version t r) ≡ 0 = ap {B = ℕ} (λ b. cond b r 0) (ne_eqb s t ne) in
    omega (arith, root_sum s vs l, root_sum s us k, a (root_if s), z)

pub root_new : (t r : ℕ) (vs us : List Version) → Added (version t r) vs us → times_kept t vs ≡ 0 → times_kept t us ≤ 1 → root_at t us ≡ r
root_new t r vs us a l k =
    let z : root_if t (version t r) ≡ r = ap {B = ℕ} (λ b. cond b r 0) (eq-eqb t t refl) in
    omega (arith, root_none t vs l, root_sum t us k, a (root_if t), z)

pub times_added : (s t r : ℕ) (vs us : List Version) → Added (version t r) vs us → (s ≡ t → ⊥) → times_kept s us ≡ times_kept s vs
times_added s t r vs us a ne = let z : is_serial s (version t r) ≡ 0 = ap {B = ℕ} (λ b. cond b 1 0) (ne_eqb s t ne) in omega (arith, a (is_serial s), z)

pub times_new : (t r : ℕ) (vs us : List Version) → Added (version t r) vs us → times_kept t us ≡ times_kept t vs + 1
times_new t r vs us a = let z : is_serial t (version t r) ≡ 1 = ap {B = ℕ} (λ b. cond b 1 0) (eq-eqb t t refl) in omega (arith, a (is_serial t), z)

-- at most so many places name a cell
pub few_cells : (os : List (Option ℕ)) (n : ℕ) → ((i : ℕ) → n ≤ i → get_or os i None ≡ None) → length (cells_in os) ≤ n
few_cells [] n h = omega arith
few_cells (None ∷ os) zero h = few_cells os 0 (λ i l. h (suc i) (omega arith))
few_cells (None ∷ os) (suc n) h = omega (arith, few_cells os n (λ i l. h (suc i) (omega arith)))
few_cells (Some c ∷ os) zero h = let e = h 0 (omega arith) in absurd cc
few_cells (Some c ∷ os) (suc n) h = omega (arith, few_cells os n (λ i l. h (suc i) (omega arith)))

-- the first n rows have eight building places each, and those after them name nothing
few_built : (rs : List Row) (n : ℕ) → ((p b : ℕ) → 8 ≤ b → get_or (get_or rs p (emptied 0 0)).building b None ≡ None) → ((p b : ℕ) → n ≤ p → get_or (get_or rs p (emptied 0 0)).building b None ≡ None)
    → length (built_in rs) ≤ 8 * n
few_built [] n h v = omega arith
few_built (r ∷ rs) zero h v =
    omega (arith, length-append (cells_in r.building) (built_in rs), few_cells r.building 0 (λ i l. v 0 i (omega arith)), few_built rs 0 (λ p. h (suc p)) (λ p b l. v (suc p) b (omega arith)))
few_built (r ∷ rs) (suc n) h v =
    omega (arith, length-append (cells_in r.building) (built_in rs), few_cells r.building 8 (λ i l. h 0 i l), few_built rs n (λ p. h (suc p)) (λ p b l. v (suc p) b (omega arith)))

-- at most P + 1 versions are kept: each but the current one is used by a program, and a program uses one at most
swap : (vs : List Version) (sts : List Stage) → total (λ (v : Version). total (uses v.serial) sts) vs ≡ total (λ st. total (λ (v : Version). uses v.serial st) vs) sts
swap vs [] = zeros vs
  where
    zeros : (vs : List Version) → total (λ (v : Version). total (uses v.serial) []) vs ≡ 0
    zeros [] = refl
    zeros (v ∷ vs) = omega (arith, zeros vs)
swap vs (st ∷ sts) = split vs ∙ ap (λ n. total (λ (v : Version). uses v.serial st) vs + n) (swap vs sts)
  where
    split : (vs : List Version) → total (λ (v : Version). total (uses v.serial) (st ∷ sts)) vs ≡ total (λ (v : Version). uses v.serial st) vs + total (λ (v : Version). total (uses v.serial) sts) vs
    split [] = omega arith
    split (v ∷ vs) = omega (arith, split vs)

named_kept : (b : ℕ) (vs : List Version) → total (λ (v : Version). named v.serial (Some b)) vs ≡ times_kept b vs
named_kept b [] = refl
named_kept b (v ∷ vs) =
    ⊎_elim
    (λ e. let x : named v.serial (Some b) ≡ 1 = ap {B = ℕ} (λ t. cond t 1 0) (eq-eqb v.serial b e) in
    let y : is_serial b v ≡ 1 = ap {B = ℕ} (λ t. cond t 1 0) (eq-eqb b v.serial (sym e)) in omega (arith, x, y, named_kept b vs))
    (λ ne. let x : named v.serial (Some b) ≡ 0 = ap {B = ℕ} (λ t. cond t 1 0) (ne_eqb v.serial b ne) in
    let y : is_serial b v ≡ 0 = ap {B = ℕ} (λ t. cond t 1 0) (ne_eqb b v.serial (λ e. ne (sym e))) in omega (arith, x, y, named_kept b vs))
    (cases_eq v.serial b)

none_kept : (vs : List Version) → total (λ (v : Version). named v.serial None) vs ≡ 0
none_kept [] = refl
none_kept (v ∷ vs) = omega (arith, none_kept vs)

one_each : (vs : List Version) → ((s : ℕ) → times_kept s vs ≤ 1) → (o : Option ℕ) → total (λ (v : Version). named v.serial o) vs ≤ 1
one_each vs once None = omega (arith, none_kept vs)
one_each vs once (Some b) = omega (arith, named_kept b vs, once b)

low_sum : {A : Type 0} (f : A → ℕ) (xs : List A) → ((x : A) → f x ≤ 1) → total f xs ≤ length xs
low_sum f [] h = omega arith
low_sum f (x ∷ xs) h = omega (arith, h x, low_sum f xs h)

many : (vs : List Version) (cur : ℕ) (sts : List Stage) → ((s : ℕ) → 0 < times_kept s vs → (s ≡ cur → ⊥) → 0 < total (uses s) sts)
    → length vs ≤ times_kept cur vs + total (λ (v : Version). total (uses v.serial) sts) vs
many [] cur sts h = omega arith
many (v ∷ vs) cur sts h =
    let u = many vs cur sts (λ s k ne. h s (omega arith) ne) in
    ⊎_elim
    (λ e. let k : is_serial cur v ≡ 1 = ap {B = ℕ} (λ t. cond t 1 0) (eq-eqb cur v.serial e) in omega (arith, u, k))
    (λ ne. let k : is_serial v.serial v ≡ 1 = ap {B = ℕ} (λ t. cond t 1 0) (eq-eqb v.serial v.serial refl) in
    omega (arith, u, h v.serial (omega (arith, k)) (λ e. ne (sym e))))
    (cases_eq cur v.serial)

pub few_kept : (m : Meaning) → Laws m → length m.kept ≤ m.programs + 1
few_kept m laws =
    omega (
      arith,
      many m.kept m.current.serial m.stages laws.used,
      laws.once m.current.serial,
      swap m.kept m.stages,
      low_sum (λ st. total (λ (v : Version). uses v.serial st) m.kept) m.stages (λ st. one_each m.kept laws.once (engaged st)),
      laws.staged,
    )

pub few_names : {T : Type 0} (w : World T) → Laws w.keeper → ((p b : ℕ) → 8 ≤ b → building_at w p b ≡ None) → ((p b : ℕ) → w.programs ≤ p → building_at w p b ≡ None)
    → w.keeper.programs ≡ w.programs → length (names w) ≤ 8 * w.programs + (w.programs + 1)
few_names w laws eight vacant e =
    omega (arith, length-append (map (λ (v : Version). v.root) w.keeper.kept) (built_in w.rows), length-map w.keeper.kept (λ (v : Version). v.root), few_kept w.keeper laws, few_built w.rows w.programs eight vacant, e)

-- a table of places after one was written
pub place_same : {A : Type 0} (f : ℕ → ℕ → A) (p a : ℕ) (x : A) (q b : ℕ) → q ≡ p → b ≡ a → at_place f p a x q b ≡ x
place_same f p a x q b e g = ap (λ t. cond t x (f q b)) (and_from (eqb q p) (eqb b a) (eq-eqb q p e) (eq-eqb b a g))

pub place_other : {A : Type 0} (f : ℕ → ℕ → A) (p a : ℕ) (x : A) (q b : ℕ) → (q ≡ p → b ≡ a → ⊥) → at_place f p a x q b ≡ f q b
place_other f p a x q b n =
    ⊎_elim
    (λ e. ap (λ t. cond t x (f q b)) (and_right (eqb q p) (eqb b a) (ne_eqb b a (n e))))
    (λ ne. ap (λ t. cond t x (f q b)) (and_left (eqb q p) (eqb b a) (ne_eqb q p ne)))
    (cases_eq q p)

-- what holds of each place and its tree holds after place a of program p was written
pub on_place : {A : Type 0} (P : Option ℕ → A → Type 0) (old new : ℕ → ℕ → Option ℕ) (f : ℕ → ℕ → A) (p a : ℕ) (o : Option ℕ) (x : A)
    → new p a ≡ o → ((q b : ℕ) → (q ≡ p → b ≡ a → ⊥) → new q b ≡ old q b) → P o x
    → (q b : ℕ) → P (old q b) (f q b) → P (new q b) (at_place f p a x q b)
on_place {A} P old new f p a o x own apart fresh q b before =
    ⊎_elim (λ e. ⊎_elim (λ g. here e g) (λ ne. there (λ e g. ne g)) (cases_eq b a)) (λ ne. there (λ e g. ne e)) (cases_eq q p)
  where
    here : q ≡ p → b ≡ a → P (new q b) (at_place f p a x q b)
    here e g =
        subst (λ (y : A). P (new q b) y) (sym (place_same f p a x q b e g))
        (subst (λ (z : Option ℕ). P z x) (sym (ap (λ i. new i b) e ∙ ap (new p) g ∙ own)) fresh)

    there : (q ≡ p → b ≡ a → ⊥) → P (new q b) (at_place f p a x q b)
    there n =
        subst (λ (y : A). P (new q b) y) (sym (place_other f p a x q b n))
        (subst (λ (z : Option ℕ). P z (f q b)) (sym (apart q b n)) before)
