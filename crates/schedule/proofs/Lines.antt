-- A line is read as a call just where it is how the call is written.
use Rattle.std.proofs.Common.{◌≡◌, ℕ, ◌^◌, ◌<◌, Bool, true, false, cond, List, [], ◌∷◌, ◌++◌, Some, None, codes, decimal, Option, sym, refl, ap, ◌∙◌, arith}
use Rattle.std.proofs.lemmas.Slice.Eq.{bytes_eq-Decides}
use Rattle.std.specs.Str.{bytes_eq}
use Rattle.schedule.specs.declared.call.Call.{Call}
use Rattle.schedule.specs.declared.call.Call.TheVariants as call
use Rattle.schedule.specs.declared.call.Kind.{Kind}
use Rattle.schedule.specs.declared.call.Kind.TheVariants.{Announcement, Counting}
use Rattle.schedule.specs.declared.line.Word.{Word}
use Rattle.schedule.specs.declared.line.Word.TheVariants as word
use Rattle.schedule.specs.Lines.{Fit, Reads, named, written}
use Rattle.schedule.specs.Pieces.{and_then, cut_at}
use Rattle.schedule.specs.Words.{bare_of, call_of, call_split, called_of, keeper_of, kind_of, publish_of, wide, wide_lead, word_of}
use Rattle.schedule.proofs.Figures.{after_lead, after_number, lead_back, number_back}
use Rattle.schedule.proofs.Marks.{after_cut, cut_joins}
use Rattle.std.proofs.lemmas.Option.{none-some}
use Rattle.schedule.proofs.Steps.{after_step}

-- the pieces at 32 bits and a blank
wide_back : (n : ℕ) → n < 2 ^ 32 → wide (decimal n) ≡ Some n
wide_back n h = number_back 4294967295 n (omega arith) (omega arith)

lead_wide : (n : ℕ) (rest : List ℕ) → n < 2 ^ 32 → wide_lead (decimal n ++ (32 ∷ rest)) ≡ Some (n, rest)
lead_wide n rest h = lead_back 32 4294967295 n rest refl (omega arith) (omega arith)

after_wide : (text : List ℕ) (f : ℕ → Option Call) (c : Call) (Goal : Type 0) → and_then (wide text) f ≡ Some c → ((n : ℕ) → text ≡ decimal n → f n ≡ Some c → Goal) → Goal
after_wide text f c Goal e k = after_number 4294967295 text f c Goal (omega arith) e k

after_wide_lead : (text : List ℕ) (f : ℕ × List ℕ → Option Call) (c : Call) (Goal : Type 0) → and_then (wide_lead text) f ≡ Some c → ((n : ℕ) (rest : List ℕ) → text ≡ decimal n ++ (32 ∷ rest) → f (n, rest) ≡ Some c → Goal) → Goal
after_wide_lead text f c Goal e k = after_lead 32 4294967295 text f c Goal (omega arith) e k

-- how a call is written is read as the call
back : (c : Call) → Fit c → call_of (written c) ≡ Some c
back (call.Keeper Announcement p l) h = rw (lead_wide p (decimal l) h.0, wide_back l h.1)
back (call.Keeper Counting p l) h = rw (lead_wide p (decimal l) h.0, wide_back l h.1)
back (call.Open p) h = rw (wide_back p h)
back (call.Publish p r) h = rw (lead_wide p (decimal r) h.0, wide_back r h.1)
back (call.Step p) h = rw (wide_back p h)
back (call.Close p) h = rw (wide_back p h)
back (call.Root p) h = rw (wide_back p h)
back (call.Stage p) h = rw (wide_back p h)
back call.Current h = refl
back call.Declared h = refl
back call.Show h = refl

-- the words, and back from a text to the word that it is
abbrev spelled : Word → List ℕ
spelled word.Keeper = codes "keeper"
spelled word.Open = codes "open"
spelled word.Publish = codes "publish"
spelled word.Step = codes "step"
spelled word.Close = codes "close"
spelled word.Root = codes "root"
spelled word.Stage = codes "stage"
spelled word.Current = codes "current"
spelled word.Declared = codes "declared"
spelled word.Show = codes "show"

-- one alternative of a chain that finds what a text spells
picks : {A : Type 0} (spell : A → List ℕ) (text : List ℕ) (a b : A) (rest : Option A) → (rest ≡ Some b → text ≡ spell b) → cond (bytes_eq text (spell a)) (Some a) rest ≡ Some b → text ≡ spell b
picks spell text a b rest else e = go (bytes_eq text (spell a)) refl e
  where
    go : (t : Bool) → bytes_eq text (spell a) ≡ t → cond t (Some a) rest ≡ Some b → text ≡ spell b
    go true is e = let s = (bytes_eq-Decides text (spell a)).0 is in let q : a ≡ b = cc in cc
    go false is e = else e

word_form : (text : List ℕ) (w : Word) → word_of text ≡ Some w → text ≡ spelled w
word_form text w =
    picks spelled text word.Keeper w _ (picks spelled text word.Open w _ (picks spelled text word.Publish w _ (picks spelled text word.Step w _
    (picks spelled text word.Close w _ (picks spelled text word.Root w _ (picks spelled text word.Stage w _ (picks spelled text word.Current w _
    (picks spelled text word.Declared w _ (picks spelled text word.Show w None (λ e. absurd (none-some _ e)))))))))))

kind_form : (text : List ℕ) (k : Kind) → kind_of text ≡ Some k → text ≡ named k
kind_form text k = picks named text Announcement k _ (picks named text Counting k None (λ e. absurd (none-some _ e)))

-- a call with one number
one_form : (make : ℕ → Call) (front rest : List ℕ) (c : Call) → ((n : ℕ) → written (make n) ≡ front ++ decimal n) → and_then (wide rest) (λ n. Some (make n)) ≡ Some c → front ++ rest ≡ written c
one_form make front rest c shape e =
    after_wide rest _ c _ e (λ n is e. let s = shape n in let m : make n ≡ c = cc in cc)

publish_form : (rest : List ℕ) (c : Call) → publish_of rest ≡ Some c → codes "publish " ++ rest ≡ written c
publish_form rest c e =
    after_wide_lead rest _ c _ e (λ p tail whole e.
    after_wide tail _ c _ e (λ r is e.
    let m : call.Publish p r ≡ c = cc in
    let w : rest ≡ decimal p ++ (32 ∷ decimal r) = cc in
    ap (λ (t : List ℕ). codes "publish " ++ t) w ∙ ap written m))

keeper_form : (rest : List ℕ) (c : Call) → keeper_of rest ≡ Some c → codes "keeper " ++ rest ≡ written c
keeper_form rest c e =
    after_cut 32 rest _ c _ e (λ name numbers whole e.
    after_step (kind_of name) _ c _ e (λ kind is e.
    after_wide_lead numbers _ c _ e (λ p tail two e.
    after_wide tail _ c _ e (λ l three e.
    let k = kind_form name kind is in
    let m : call.Keeper kind p l ≡ c = cc in
    let w : rest ≡ named kind ++ (32 ∷ (decimal p ++ (32 ∷ decimal l))) = cc in
    ap (λ (t : List ℕ). codes "keeper " ++ t) w ∙ ap written m))))

called_form : (w : Word) (rest : List ℕ) (c : Call) → called_of w rest ≡ Some c → spelled w ++ (32 ∷ rest) ≡ written c
called_form word.Keeper rest c e = keeper_form rest c e
called_form word.Open rest c e = one_form call.Open (codes "open ") rest c (λ n. refl) e
called_form word.Publish rest c e = publish_form rest c e
called_form word.Step rest c e = one_form call.Step (codes "step ") rest c (λ n. refl) e
called_form word.Close rest c e = one_form call.Close (codes "close ") rest c (λ n. refl) e
called_form word.Root rest c e = one_form call.Root (codes "root ") rest c (λ n. refl) e
called_form word.Stage rest c e = one_form call.Stage (codes "stage ") rest c (λ n. refl) e
called_form word.Current rest c e = absurd (none-some c e)
called_form word.Declared rest c e = absurd (none-some c e)
called_form word.Show rest c e = absurd (none-some c e)

bare_form : (w : Word) (c : Call) → bare_of w ≡ Some c → spelled w ≡ written c
bare_form word.Keeper c e = absurd (none-some c e)
bare_form word.Open c e = absurd (none-some c e)
bare_form word.Publish c e = absurd (none-some c e)
bare_form word.Step c e = absurd (none-some c e)
bare_form word.Close c e = absurd (none-some c e)
bare_form word.Root c e = absurd (none-some c e)
bare_form word.Stage c e = absurd (none-some c e)
bare_form word.Current c e = let s : call.Current ≡ c = cc in ap written s
bare_form word.Declared c e = let s : call.Declared ≡ c = cc in ap written s
bare_form word.Show c e = let s : call.Show ≡ c = cc in ap written s

-- what is read as a call is how the call is written
form : (line : List ℕ) (c : Call) → call_of line ≡ Some c → line ≡ written c
form line c e = go (cut_at 32 line) refl e
  where
    go : (o : Option (List ℕ × List ℕ)) → cut_at 32 line ≡ o → call_split line o ≡ Some c → line ≡ written c
    go None is e = after_step (word_of line) bare_of c _ e (λ w is e. word_form line w is ∙ bare_form w c e)
    go (Some p) is e =
        after_step (word_of p.0) _ c _ e (λ w first e.
        cut_joins 32 [] line p is ∙ ap (λ (front : List ℕ). front ++ (32 ∷ p.1)) (word_form p.0 w first) ∙ called_form w p.1 c e)

-- the reading's contract
pub reads : (line : List ℕ) (r : Option Call) → r ≡ call_of line → Reads line r
reads line (Some c) e = form line c (sym e)
reads line None e = λ c fit is.
    none-some c (e ∙ ap call_of is ∙ back c fit)
