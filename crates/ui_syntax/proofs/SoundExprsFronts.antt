-- How a fault's front goes on, behind what was read and before what is left to come.
use Rattle.std.proofs.Common.{◌≡◌, ◌⊎◌, inl, inr, ℕ, ◌≤◌, false, List, [], ◌∷◌, ◌++◌, refl, sym, ap, subst, ◌∙◌, append_assoc}
use Rattle.std.proofs.lemmas.List.{append-nil}
use Rattle.ui_base.specs.declared.value.Spot.{Spot}
use Rattle.ui_scan.specs.declared.kind.TokenKind.{TokenKind}
use Rattle.ui_scan.specs.declared.kind.TokenKind.TheVariants.{Comma, RBrace}
use Rattle.ui_tree.specs.Tree.{TypeTree, Tree, trees_end}
use Rattle.ui_grammar.specs.Word.{Word, mark, Mark, Begins, Closes}
use Rattle.ui_grammar.specs.Both.{ends_open}
use Rattle.ui_grammar.specs.Spells.{Spells, SpellsType}
use Rattle.ui_grammar.proofs.Frames.{Spelling, Framed, Then, framed, framed_as, next, starts_at, fill, fill_type, frame, frame_type, frame_mark, begins_by}
use Rattle.ui_parse.specs.Reader.{Outcome, and_then, ◌>>=◌, pure, eat, expect}
use Rattle.ui_parse.proofs.Outcomes.{Holds, good, bind, mono, eat_holds, expect_holds}
use Rattle.ui_syntax.specs.declared.site.Site.{Site}
use Rattle.ui_syntax.specs.declared.site.TypeSite.{TypeSite}
use Rattle.ui_syntax.proofs.ByBudget.{Begun, Stops, FitsAt, TypeForm, FitsAlone, ExprForm, CoverForm, ElemsForm}
use Rattle.ui_syntax.proofs.Begun.{Short, short_mark, begun_as, behind_stops}

-- what stands at the spot
abbrev pub Standing : Spot → Spelling → Spelling
Standing s R us ws = Begins s us × R us ws

pub frame_standing : (s : Spot) (e : Tree) (ts rest : List Word) → Begins s ts → Spells e ts rest → Framed (Standing s (Spells e)) ts rest
frame_standing s e ts rest b h = framed (starts_at s b (fill e ts rest h))

pub frame_standing_type : (s : Spot) (t : TypeTree) (ts rest : List Word) → Begins s ts → SpellsType t ts rest → Framed (Standing s (SpellsType t)) ts rest
frame_standing_type s t ts rest b h = framed (starts_at s b (fill_type t ts rest h))

-- a mark that was taken behind a part
pub frame_to : {R : Spelling} {ts m rest : List Word} (k : TokenKind) (s : Spot) → Framed R ts m → m ≡ mark k s ∷ rest → Framed (Then R (Mark k)) ts rest
frame_to {m = m} {rest = rest} k s a e = next a (frame_mark k m rest (record { spot = s; is = e }))

-- a fault in what follows a part
pub after : {A : Type 0} {Q : A → List Word → Type 0} {R S T : Spelling} {ts m : List Word} {o : Outcome A}
    → Framed R ts m → Short S → ((us ws : List Word) → Then R S us ws → T us ws) → Holds Q (Stops S m) o → Holds Q (Stops T ts) o
after fr short join h = mono h (λ a r q. q) (λ r s. inr (begun_as (behind_stops fr short s) join))

-- [ "," ] and the close
pub closes_then : {A : Type 0} {Q : A → List Word → Type 0} (close : TokenKind) (a : A) (ws : List Word) → ((r : List Word) → Closes Comma close ws r → Q a r)
    → Holds Q (Stops (Closes Comma close) ws) (and_then (eat Comma ws) (λ _. (expect close >>= (λ _. pure a))))
closes_then {A = A} {Q = Q} close a ws on = eat_holds Comma (λ _. (expect close >>= (λ _. pure a))) ws
    (λ s rest e. bind (expect_holds {Q = λ x r. Closes Comma close ws r} {F = Stops (Closes Comma close) ws} close rest
    (λ x r e2. inr (rest, record { spot = s; is = e }, record { spot = x; is = e2 }))
    (λ _. inr (begun_as (behind_stops {S = Mark close} (frame_mark Comma ws rest (record { spot = s; is = e })) (short_mark close) (inl refl)) (λ us k h. inr h))))
    (λ x r c. good (on r c)) (λ r h. h))
    (λ _. bind (expect_holds {Q = λ x r. Closes Comma close ws r} {F = Stops (Closes Comma close) ws} close ws
    (λ x r e2. inl (record { spot = x; is = e2 })) (λ _. inl refl))
    (λ x r c. good (on r c)) (λ r h. h))

pub short_closes : (close : TokenKind) → Short (Closes Comma close)
short_closes close = record { words = (short_mark close).words; spells = λ k. inl ((short_mark close).spells k) }

pub short_elems : (b : ℕ) → 1 ≤ b → Short (ElemsForm b)
short_elems b le = record { words = (short_mark RBrace).words; spells = λ k. record { all = trees_end; spells = (refl, (short_mark RBrace).spells k); fits = tt; shallow = le } }

-- ---- one tree, whatever follows

refix : {R S : Spelling} {ts rest : List Word} (b : Begun R ts rest) → Framed S (b.front ++ (b.more ++ [])) [] → Begun S ts rest
refix {S = S} b fr = record {
  front = b.front;
  parts = b.parts;
  more = b.more;
  spells = λ k. subst (λ (u : List Word). S u k) (ap (λ (v : List Word). v ++ k) whole ∙ append_assoc b.front b.more k) (fr.again k);
}
  where
    whole : fr.front ≡ b.front ++ b.more
    whole = sym (append-nil fr.front) ∙ sym fr.parts ∙ ap (λ (v : List Word). b.front ++ v) (append-nil b.more)

pub record FixedType (p : TypeSite) (b : ℕ) (ts rest : List Word) : Type 0 where
  pub tree : TypeTree
  pub spot : Spot
  pub fits : FitsAt p b tree
  pub closed : ends_open tree ≡ false
  pub begun : Begun (Standing spot (SpellsType tree)) ts rest

pub fixed_type : {p : TypeSite} {b : ℕ} {ts rest : List Word} → Begun (TypeForm p b) ts rest → FixedType p b ts rest
fixed_type g =
    let h = g.spells [] in
    let fr = fill_type h.tree (g.front ++ (g.more ++ [])) [] h.spells in
    let at = begins_by fr in
    record { tree = h.tree; spot = at.0; fits = h.fits; closed = h.closed; begun = refix g (framed (starts_at at.0 at.1 fr)) }

-- a type alone, however it ends
pub record AloneAt (s : Site) (b : ℕ) (ts rest : List Word) : Type 0 where
  pub tree : TypeTree
  pub spells : SpellsType tree ts rest
  pub fits : FitsAlone s b tree

-- an expression is begun, or a type
abbrev pub Either : Site → ℕ → ℕ → List Word → List Word → Type 0
Either s b least ts rest = Begun (ExprForm s b least) ts rest ⊎ Begun (AloneAt s b) ts rest

fixed_by : {s : Site} {b least : ℕ} {ts rest : List Word} (g : Begun (CoverForm s b least) ts rest) → CoverForm s b least (g.front ++ (g.more ++ [])) [] → Either s b least ts rest
fixed_by g (inl h) = inl (refix g (framed_as (frame h.tree (g.front ++ (g.more ++ [])) [] h.spells) (λ us ws q. record { tree = h.tree; spells = q; fits = h.fits })))
fixed_by g (inr h) = inr (refix g (framed_as (frame_type h.tree (g.front ++ (g.more ++ [])) [] h.spells) (λ us ws q. record { tree = h.tree; spells = q; fits = h.fits })))

pub fixed_cover : {s : Site} {b least : ℕ} {ts rest : List Word} → Begun (CoverForm s b least) ts rest → Either s b least ts rest
fixed_cover g = fixed_by g (g.spells [])
