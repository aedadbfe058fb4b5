-- Fronts of forms, put together of what was read, what was begun, and the shortest words that go on from there.
use Rattle.std.proofs.Common.{◌≡◌, ◌⊎◌, inl, inr, ℕ, ◌≤◌, List, [], ◌∷◌, ◌++◌, None, refl, sym, ap, subst, ◌∙◌, append_assoc}
use Rattle.std.proofs.lemmas.List.{append-nil}
use Rattle.ui_base.specs.declared.value.Spot.{Spot}
use Rattle.ui_scan.specs.declared.kind.TokenKind.{TokenKind}
use Rattle.ui_tree.specs.declared.part.Placed.{Placed}
use Rattle.ui_tree.specs.Tree.{TypeTree, named, union, no_args, types_end, type_and, name}
use Rattle.ui_grammar.specs.Word.{Word, ident, mark, Named, Mark}
use Rattle.ui_grammar.specs.Spells.{SpellsType}
use Rattle.ui_grammar.proofs.Frames.{Spelling, Framed, Then, framed, framed_as, fill_word, frame_mark, frame_type}
use Rattle.ui_parse.specs.Reader.{Outcome, Reader, and_then, first, take_by, marked, named as a_name, expect, expect_name}
use Rattle.ui_parse.proofs.Outcomes.{Holds, bind, mono, mark_holds, name_holds, expect_holds, expect_name_holds}
use Rattle.ui_syntax.specs.declared.site.Site.{Site}
use Rattle.ui_syntax.specs.declared.site.TypeSite.{TypeSite}
use Rattle.ui_syntax.specs.declared.site.TypeSite.TheVariants as at
use Rattle.ui_syntax.specs.Cover.{Read}
use Rattle.ui_syntax.proofs.ByBudget.{Begun, Stops, FitsAt, TypeForm, IsTypeRead, ExprForm}

-- ---- words that are a form by themselves, whatever follows

pub record Short (S : Spelling) : Type 0 where
  pub words : List Word
  pub spells : (k : List Word) → S (words ++ k) k

pub short_as : {S T : Spelling} → Short S → ((us ws : List Word) → S us ws → T us ws) → Short T
short_as s f = record { words = s.words; spells = λ k. f (s.words ++ k) k (s.spells k) }

pub short_then : {R S : Spelling} → Short R → Short S → Short (Then R S)
short_then {R = R} {S = S} a b = record {
  words = a.words ++ b.words;
  spells = λ k. (b.words ++ k, subst (λ (u : List Word). R u (b.words ++ k)) (sym (append_assoc a.words b.words k)) (a.spells (b.words ++ k)), b.spells k);
}

abbrev pub no_spot : Spot
no_spot = record { line = 0; col = 0 }

abbrev pub x_name : Placed
x_name = record { spot = no_spot; text = 120 ∷ [] }

pub short_mark : (k : TokenKind) → Short (Mark k)
short_mark k = record { words = mark k no_spot ∷ []; spells = λ ws. record { spot = no_spot; is = refl } }

-- ---- fronts

pub begun_as : {R T : Spelling} {ts rest : List Word} → Begun R ts rest → ((us ws : List Word) → R us ws → T us ws) → Begun T ts rest
begun_as g f = record { front = g.front; parts = g.parts; more = g.more; spells = λ k. f (g.front ++ (g.more ++ k)) k (g.spells k) }

pub stops_as : {R T : Spelling} {ts rest : List Word} → Stops R ts rest → ((us ws : List Word) → R us ws → T us ws) → Stops T ts rest
stops_as (inl e) f = inl e
stops_as (inr g) f = inr (begun_as g f)

-- nothing was taken
pub begun_none : {R : Spelling} (ts : List Word) → Short R → Begun R ts ts
begun_none ts s = record { front = []; parts = refl; more = s.words; spells = s.spells }

pub begun_stops : {R : Spelling} {ts rest : List Word} → Short R → Stops R ts rest → Begun R ts rest
begun_stops {R = R} {ts = ts} s (inl e) = subst (λ (u : List Word). Begun R ts u) e (begun_none ts s)
begun_stops s (inr g) = g

-- all of it was read
pub begun_whole : {R : Spelling} {ts rest : List Word} → Framed R ts rest → Begun R ts rest
begun_whole f = record { front = f.front; parts = f.parts; more = []; spells = f.again }

-- a first part was read, and what follows it is begun
pub behind : {R S : Spelling} {ts m rest : List Word} → Framed R ts m → Begun S m rest → Begun (Then R S) ts rest
behind {R = R} {ts = ts} {m = m} {rest = rest} f g = record {
  front = f.front ++ g.front;
  parts = f.parts ∙ ap (λ (v : List Word). f.front ++ v) g.parts ∙ sym (append_assoc f.front g.front rest);
  more = g.more;
  spells = λ k. (g.front ++ (g.more ++ k), subst (λ (u : List Word). R u (g.front ++ (g.more ++ k))) (sym (append_assoc f.front g.front (g.more ++ k))) (f.again (g.front ++ (g.more ++ k))), g.spells k);
}

pub behind_stops : {R S : Spelling} {ts m rest : List Word} → Framed R ts m → Short S → Stops S m rest → Begun (Then R S) ts rest
behind_stops f s h = behind f (begun_stops s h)

-- a first part was read, and nothing else
pub behind_none : {R S : Spelling} {ts m : List Word} → Framed R ts m → Short S → Begun (Then R S) ts m
behind_none {m = m} f s = behind f (begun_none m s)

-- a first part is begun
pub before : {R S : Spelling} {ts rest : List Word} → Begun R ts rest → Short S → Begun (Then R S) ts rest
before {R = R} g s = record {
  front = g.front;
  parts = g.parts;
  more = g.more ++ s.words;
  spells = λ k. (s.words ++ k, subst (λ (u : List Word). R (g.front ++ u) (s.words ++ k)) (sym (append_assoc g.more s.words k)) (g.spells (s.words ++ k)), s.spells k);
}

pub before_stops : {R S : Spelling} {ts rest : List Word} → Stops R ts rest → Short S → Stops (Then R S) ts rest
before_stops (inl e) s = inl e
before_stops (inr g) s = inr (before g s)

-- one of two forms, whatever follows
pub begun_either : {R S : Spelling} {ts rest : List Word} → ((us ws : List Word) → R us ws → Framed R us ws) → ((us ws : List Word) → S us ws → Framed S us ws) → Begun (λ us ws. R us ws ⊎ S us ws) ts rest
    → Begun R ts rest ⊎ Begun S ts rest
begun_either {R = R} {S = S} {ts = ts} {rest = rest} frame_r frame_s g = by_case (g.spells [])
  where
    same : {T : Spelling} → (f : Framed T (g.front ++ (g.more ++ [])) []) → (k : List Word) → T (g.front ++ (g.more ++ k)) k
    same {T = T} f k =
        let e : g.front ++ g.more ≡ f.front = ap (λ (v : List Word). g.front ++ v) (sym (append-nil g.more)) ∙ f.parts ∙ append-nil f.front in
        subst (λ (v : List Word). T v k) (ap (λ (v : List Word). v ++ k) (sym e) ∙ append_assoc g.front g.more k) (f.again k)

    by_case : R (g.front ++ (g.more ++ [])) [] ⊎ S (g.front ++ (g.more ++ [])) [] → Begun R ts rest ⊎ Begun S ts rest
    by_case (inl h) = inl (record { front = g.front; parts = g.parts; more = g.more; spells = same (frame_r (g.front ++ (g.more ++ [])) [] h) })
    by_case (inr h) = inr (record { front = g.front; parts = g.parts; more = g.more; spells = same (frame_s (g.front ++ (g.more ++ [])) [] h) })

-- ---- a first word that was taken

-- the first word is this one
abbrev pub Is : Word → Spelling
Is w us ws = us ≡ w ∷ ws

pub frame_word : (w : Word) (ws : List Word) → Framed (Is w) (w ∷ ws) ws
frame_word w ws = framed (fill_word w (w ∷ ws) ws refl)

pub behind_word : {S : Spelling} (w : Word) {ws rest : List Word} → Short S → Stops S ws rest → Begun (Then (Is w) S) (w ∷ ws) rest
behind_word w {ws = ws} s h = behind_stops (frame_word w ws) s h

-- ---- the steps of readers: what is read holds by Q; a fault stops in the form of what is read and what follows

pub then_holds : {A B : Type 0} {P : A → List Word → Type 0} {Q : B → List Word → Type 0} {R S : Spelling} {ts : List Word} {o : Outcome A} {f : A → Reader B}
    → Short S → Holds P (Stops R ts) o → ((a : A) (m : List Word) → P a m → Framed R ts m) → ((a : A) (m : List Word) → P a m → Holds Q (Stops S m) (f a m)) → Holds Q (Stops (Then R S) ts) (and_then o f)
then_holds short h frames on = bind h (λ a m p. mono (on a m p) (λ b r q. q) (λ r s. inr (behind_stops (frames a m p) short s))) (λ r s. before_stops s short)

-- the same forms by other names
pub faults : {A : Type 0} {Q : A → List Word → Type 0} {R T : Spelling} {ts : List Word} {o : Outcome A} → Holds Q (Stops R ts) o → ((us ws : List Word) → R us ws → T us ws) → Holds Q (Stops T ts) o
faults h f = mono h (λ a r q. q) (λ r s. stops_as s f)

pub expect_then : {B : Type 0} {Q : B → List Word → Type 0} {S : Spelling} (k : TokenKind) (ws : List Word) {f : Spot → Reader B}
    → Short S → ((s : Spot) (rest : List Word) → ws ≡ mark k s ∷ rest → Holds Q (Stops S rest) (f s rest)) → Holds Q (Stops (Then (Mark k) S) ws) (and_then (expect k ws) f)
expect_then k ws short on = then_holds short (expect_holds {Q = λ s rest. ws ≡ mark k s ∷ rest} {F = Stops (Mark k) ws} k ws (λ s rest e. e) (λ _. inl refl))
    (λ s m e. frame_mark k ws m (record { spot = s; is = e })) on

-- a name, whichever
pub record AName (ts rest : List Word) : Type 0 where
  pub word : Placed
  pub is : Named word ts rest

pub short_name : Short AName
short_name = record { words = ident x_name ∷ []; spells = λ ws. record { word = x_name; is = refl } }

pub frame_name : (p : Placed) (ts rest : List Word) → Named p ts rest → Framed AName ts rest
frame_name p ts rest e = framed_as (framed (fill_word (ident p) ts rest e)) (λ us ws h. record { word = p; is = h })

pub name_then : {B : Type 0} {Q : B → List Word → Type 0} {S : Spelling} (ws : List Word) {f : Placed → Reader B}
    → Short S → ((p : Placed) (rest : List Word) → ws ≡ ident p ∷ rest → Holds Q (Stops S rest) (f p rest)) → Holds Q (Stops (Then AName S) ws) (and_then (expect_name ws) f)
name_then ws short on = then_holds short (expect_name_holds {Q = λ p rest. ws ≡ ident p ∷ rest} {F = Stops AName ws} ws (λ p rest e. e) (λ _. inl refl))
    (λ p m e. frame_name p ws m e) on

-- the words from here on by their first one, where it passes
pub mark_at : {A : Type 0} (P : List Word → A → List Word → Type 0) (F : List Word → List Word → Type 0) (k : TokenKind) (on : Spot → Reader A) (other : Reader A) (ws : List Word)
    → ((s : Spot) (rest : List Word) → Holds (P (mark k s ∷ rest)) (F (mark k s ∷ rest)) (on s rest)) → (first (marked k) ws ≡ None → Holds (P ws) (F ws) (other ws)) → Holds (P ws) (F ws) (take_by (marked k) on other ws)
mark_at P F k on other ws on_is other_is = mark_holds k on other ws (λ s rest e. subst (λ (u : List Word). Holds (P u) (F u) (on s rest)) (sym e) (on_is s rest)) other_is

pub name_at : {A : Type 0} (P : List Word → A → List Word → Type 0) (F : List Word → List Word → Type 0) (on : Placed → Reader A) (other : Reader A) (ws : List Word)
    → ((p : Placed) (rest : List Word) → Holds (P (ident p ∷ rest)) (F (ident p ∷ rest)) (on p rest)) → (first a_name ws ≡ None → Holds (P ws) (F ws) (other ws)) → Holds (P ws) (F ws) (take_by a_name on other ws)
name_at P F on other ws on_is other_is = name_holds on other ws (λ p rest e. subst (λ (u : List Word). Holds (P u) (F u) (on p rest)) (sym e) (on_is p rest)) other_is

-- ---- types and expressions

-- a type that fits at the site, whatever its end
pub record TypeAt (p : TypeSite) (b : ℕ) (ts rest : List Word) : Type 0 where
  pub tree : TypeTree
  pub spells : SpellsType tree ts rest
  pub fits : FitsAt p b tree

pub open_form : {p : TypeSite} {b : ℕ} (us ws : List Word) → TypeForm p b us ws → TypeAt p b us ws
open_form us ws h = record { tree = h.tree; spells = h.spells; fits = h.fits }

pub frame_read : (p : TypeSite) (b : ℕ) (ts : List Word) (x : Read TypeTree) (rest : List Word) → IsTypeRead p b ts x rest → Framed (TypeAt p b) ts rest
frame_read p b ts x rest r = framed_as (frame_type x.tree ts rest r.spells) (λ us ws h. record { tree = x.tree; spells = h; fits = r.fits })

-- a name is a type, and a function without parameters and results an operand's
pub short_type : (b : ℕ) → 1 ≤ b → Short (TypeForm at.Plain b)
short_type b le = record { words = ident x_name ∷ []; spells = λ k. record { tree = named x_name None no_args; spells = (k, k, refl, refl, refl); fits = ((refl, tt), le); closed = refl } }

pub short_open : (b : ℕ) → 1 ≤ b → Short (TypeAt at.Plain b)
short_open b le = short_as (short_type b le) open_form

pub short_element : (b : ℕ) → 1 ≤ b → Short (TypeForm at.Element b)
short_element b le = record {
  words = ident x_name ∷ [];
  spells = λ k. record { tree = union no_spot (type_and (named x_name None no_args) types_end); spells = (refl, (k, (k, k, refl, refl, refl), refl)); fits = ((refl, ((refl, tt), tt)), le); closed = refl };
}

pub short_expr : (s : Site) (b least : ℕ) → 1 ≤ b → least ≤ 7 → Short (ExprForm s b least)
short_expr s b least le binds = record { words = ident x_name ∷ []; spells = λ k. record { tree = name x_name; spells = refl; fits = record { fits = tt; shallow = le; binds = binds } } }
