-- A word is that of a generic alias just where it is `=` behind the parameters of a type.
use Rattle.std.proofs.Common.{◌≡◌, ◌⊎◌, inl, inr, ℕ, Bool, true, false, List, [], ◌∷◌, ◌++◌, length, drop, reverse, Some, None, Ok, Err, refl, sym, ap, subst, ◌∙◌, append_assoc}
use Rattle.std.specs.Prelude.{◌&&◌, ◌||◌}
use Rattle.std.proofs.Math.Seq.{drop-append_seam}
use Rattle.std.proofs.lemmas.Bool.{and_parts}
use Rattle.std.proofs.lemmas.List.{length-reverse, reverse-append, reverse-reverse}
use Rattle.ui_base.specs.declared.value.Spot.{Spot}
use Rattle.ui_scan.specs.declared.kind.TokenKind.{TokenKind}
use Rattle.ui_scan.specs.declared.kind.TokenKind.TheVariants as kind
use Rattle.ui_scan.specs.declared.kind.TokenKind.TheVariants.{LParen, LBracket, RBracket, Semi}
use Rattle.ui_tree.specs.declared.part.LiteralKind.TheVariants.{Whole, Rune as ARune, Text}
use Rattle.ui_tree.specs.View.{groups, kept}
use Rattle.ui_grammar.specs.Word.{Word, ident, lit, mark}
use Rattle.ui_parse.specs.Kind.{is_kind}
use Rattle.ui_parse.specs.Reader.{Outcome, tail}
use Rattle.ui_parse.proofs.Outcomes.{HoldsBy}
use Rattle.ui_parse.proofs.SameKinds.{same_kind}
use Rattle.ui_stmts.specs.Decls.{TypeParams, type_params_apart}
use Rattle.ui_syntax.proofs.ByBudget.{Begun}
use Rattle.ui_stmts.proofs.SoundTypeLists.{TypeParamsForm, TypeParamsRead, type_params_apart_hold}
use Rattle.ui_pexpr.specs.declared.fault.Form.TheVariants.{Tag, DotImport, GenericAlias}
use Rattle.ui_pexpr.specs.Back.{kind_at, last_is, opening}
use Rattle.ui_pexpr.specs.Forms.{is_whole, behind_field, form_if, or_else}
use Rattle.ui_pdecl.specs.Forms.{opens_group, begins_spec, opens_params, params_from, behind_params, form_by_kind}
use Rattle.ui_readings.specs.Tags.{IsClosed, IsParted}
use Rattle.ui_readings.specs.Aliases.{BeginsSpec, AreParams, IsBehindParams, AliasesExactly}
use Rattle.ui_readings.proofs.AliasesStand.{behind}
use Rattle.ui_readings.proofs.TagsOnly.{Comes, Stop, never, none_is, semi_is, stop_at}

-- ---- single words

-- no literal and no name is of this kind
record IsMark (k : TokenKind) : Type 0 where
  no_name : is_kind kind.Ident k ≡ false
  no_whole : is_kind kind.Int k ≡ false
  no_rune : is_kind kind.Rune k ≡ false
  no_text : is_kind kind.Str k ≡ false

other : {X : Type 0} (b : Bool) → b ≡ false → b ≡ true → X
other b off e = never (sym off ∙ e)

mark_is : (k : TokenKind) → IsMark k → (w : Word) → is_kind (kind_at w) k ≡ true → (s : Spot) × (w ≡ mark k s)
mark_is k m (ident p) e = other (is_kind kind.Ident k) m.no_name e
mark_is k m (lit Whole s v) e = other (is_kind kind.Int k) m.no_whole e
mark_is k m (lit ARune s v) e = other (is_kind kind.Rune k) m.no_rune e
mark_is k m (lit Text s v) e = other (is_kind kind.Str k) m.no_text e
mark_is k m (mark j s) e = (s, ap (λ (x : TokenKind). mark x s) (same_kind j k e))

-- the last word is such a mark
record Ends (k : TokenKind) (back : List Word) : Type 0 where
  spot : Spot
  rest : List Word
  is : back ≡ mark k spot ∷ rest

ends_with : (k : TokenKind) → IsMark k → (back : List Word) → last_is k back ≡ true → Ends k back
ends_with k m [] e = never e
ends_with k m (w ∷ back) e =
    let at = mark_is k m w e in
    record { spot = at.0; rest = back; is = ap (λ (v : Word). v ∷ back) at.1 }

record Named (back : List Word) : Type 0 where
  name : Word
  rest : List Word
  is : back ≡ name ∷ rest
  is_name : kind_at name ≡ kind.Ident

named : (back : List Word) → last_is kind.Ident back ≡ true → Named back
named [] e = never e
named (w ∷ back) e = record { name = w; rest = back; is = refl; is_name = same_kind (kind_at w) kind.Ident e }

is_bracket : IsMark LBracket
is_bracket = record { no_name = refl; no_whole = refl; no_rune = refl; no_text = refl }

is_close : IsMark RBracket
is_close = record { no_name = refl; no_whole = refl; no_rune = refl; no_text = refl }

is_paren : IsMark LParen
is_paren = record { no_name = refl; no_whole = refl; no_rune = refl; no_text = refl }

is_type : IsMark kind.«Type»
is_type = record { no_name = refl; no_whole = refl; no_rune = refl; no_text = refl }

-- ---- words turned round

two_back : (ws ts : List Word) (v w : Word) → reverse (ts ++ (v ∷ (w ∷ ws))) ≡ reverse ws ++ (w ∷ (v ∷ reverse ts))
two_back ws ts v w =
    reverse-append ts (v ∷ (w ∷ ws))
    ∙ ap (λ (x : List Word). x ++ reverse ts) (reverse-append (v ∷ (w ∷ [])) ws)
    ∙ append_assoc (reverse ws) (w ∷ (v ∷ [])) (reverse ts)

-- ---- a specification begins

some_words : (bracket : List Word) (w : Word) (ws : List Word) → bracket ≡ w ∷ ws → bracket ≡ [] → ⊥
some_words bracket w ws e none = absurd cc

closed_by : (passed bracket : List Word) → (bracket ≡ [] → ⊥) → Comes 0 passed bracket → IsClosed (reverse passed)
closed_by passed bracket some (inl none) = absurd (some none)
closed_by passed bracket some (inr on) = λ back. ap (λ (v : List Word). opening false 0 (v ++ back)) (reverse-reverse passed) ∙ on back

-- a parenthesis that opens ends the way
no_paren : (s : Spot) (passed bracket : List Word) → (bracket ≡ [] → ⊥) → Comes 0 (mark LParen s ∷ passed) bracket → ⊥
no_paren s passed bracket some (inl none) = some none
no_paren s passed bracket some (inr on) = let e : mark LParen s ∷ (passed ++ []) ≡ [] = on [] in absurd cc

or_parts : (a b : Bool) → (a || b) ≡ true → (a ≡ true) ⊎ (b ≡ true)
or_parts true b e = inl refl
or_parts false b e = inr e

parted_by : (back passed bracket : List Word) → back ≡ passed ++ bracket → (bracket ≡ [] → ⊥) → Comes 0 passed bracket
    → (last_is LParen back || last_is Semi back) ≡ true → IsParted (reverse passed)
parted_by back [] bracket e some comes last = inl refl
parted_by back (w ∷ passed) bracket e some comes last = by (or_parts (is_kind (kind_at w) LParen) (is_kind (kind_at w) Semi) (sym (ap (λ (v : List Word). last_is LParen v || last_is Semi v) e) ∙ last))
  where
    by : (is_kind (kind_at w) LParen ≡ true) ⊎ (is_kind (kind_at w) Semi ≡ true) → IsParted (reverse (w ∷ passed))
    by (inl paren) = let at = mark_is LParen is_paren w paren in absurd (no_paren at.0 passed bracket some (subst (λ (v : Word). Comes 0 (v ∷ passed) bracket) at.1 comes))
    by (inr semi) = let at = semi_is w semi in inr (reverse passed, at.0, reverse-append (w ∷ []) passed ∙ ap (λ (v : Word). reverse passed ++ (v ∷ [])) at.1)

-- a keyword's parenthesis, the last word first
record Group (bracket : List Word) : Type 0 where
  type_spot : Spot
  paren_spot : Spot
  before : List Word
  is : bracket ≡ mark LParen paren_spot ∷ (mark kind.«Type» type_spot ∷ before)

group : (bracket : List Word) → opens_group kind.«Type» bracket ≡ true → Group bracket
group bracket e =
    let both = and_parts (last_is LParen bracket) (last_is kind.«Type» (tail bracket)) e in
    let p = ends_with LParen is_paren bracket both.0 in
    let t = ends_with kind.«Type» is_type (tail bracket) both.1 in
    record { type_spot = t.spot; paren_spot = p.spot; before = t.rest; is = p.is ∙ ap (λ (v : List Word). mark LParen p.spot ∷ v) (sym (ap tail p.is) ∙ t.is) }

in_group_back : (back : List Word) → Stop 0 back → (last_is LParen back || last_is Semi back) ≡ true → Group (opening false 0 back) → BeginsSpec (reverse back)
in_group_back back stop last g =
    let bracket = opening false 0 back in
    let some : bracket ≡ [] → ⊥ = some_words bracket (mark LParen g.paren_spot) (mark kind.«Type» g.type_spot ∷ g.before) g.is in
    inr (
      reverse g.before,
      reverse stop.passed,
      g.type_spot,
      g.paren_spot,
      ap reverse stop.whole ∙ ap (λ (v : List Word). reverse (stop.passed ++ v)) g.is ∙ two_back g.before stop.passed (mark LParen g.paren_spot) (mark kind.«Type» g.type_spot),
      closed_by stop.passed bracket some stop.comes,
      parted_by back stop.passed bracket stop.whole some stop.comes last,
    )

begun_by : (back : List Word) → (last_is kind.«Type» back ≡ true) ⊎ (((last_is LParen back || last_is Semi back) && opens_group kind.«Type» (opening false 0 back)) ≡ true) → BeginsSpec (reverse back)
begun_by back (inl e) =
    let t = ends_with kind.«Type» is_type back e in
    inl (reverse t.rest, t.spot, ap reverse t.is ∙ reverse-append (mark kind.«Type» t.spot ∷ []) t.rest)
begun_by back (inr e) =
    let both = and_parts (last_is LParen back || last_is Semi back) (opens_group kind.«Type» (opening false 0 back)) e in
    in_group_back back (stop_at back 0) both.0 (group (opening false 0 back) both.1)

begun : (back : List Word) → begins_spec kind.«Type» back ≡ true → BeginsSpec (reverse back)
begun back e = begun_by back (or_parts (last_is kind.«Type» back) ((last_is LParen back || last_is Semi back) && opens_group kind.«Type» (opening false 0 back)) e)

-- ---- the parameters

params_read : (ts : List Word) (ps : TypeParams) (rest : List Word) → TypeParamsRead 199 true ts ps rest → rest ≡ [] → AreParams ts
params_read ts ps rest h none =
    let h2 = subst (λ (r : List Word). TypeParamsRead 199 true ts ps r) none h in
    record { params = groups kept ps.groups; spells = h2.spells; fits = (h2.good.named, h2.good.fits); shallow = h2.good.shallow }

params_sound : (ts : List Word) (o : Outcome TypeParams) → type_params_apart 199 ts ≡ o → is_whole o ≡ true → AreParams ts
params_sound ts (Err r) e whole = never whole
params_sound ts (Ok p) e whole =
    let h = subst (λ (o : Outcome TypeParams). HoldsBy (TypeParamsRead 199 true ts) (Begun (TypeParamsForm 199 true) ts) o) e (type_params_apart_hold 199 ts).holds in
    params_read ts p.0 p.1 h (none_is p.1 whole)

-- ---- what the words are

-- a type's name and a bracket, the last word first
record Opened (bracket : List Word) : Type 0 where
  name : Word
  spot : Spot
  before : List Word
  is : bracket ≡ mark LBracket spot ∷ (name ∷ before)
  is_name : kind_at name ≡ kind.Ident
  begins : BeginsSpec (reverse before)

opened : (bracket : List Word) → opens_params bracket ≡ true → Opened bracket
opened bracket e =
    let both = and_parts (last_is LBracket bracket) (last_is kind.Ident (tail bracket) && begins_spec kind.«Type» (tail (tail bracket))) e in
    let rest = and_parts (last_is kind.Ident (tail bracket)) (begins_spec kind.«Type» (tail (tail bracket))) both.1 in
    let b = ends_with LBracket is_bracket bracket both.0 in
    let n = named (tail bracket) rest.0 in
    let behind_name : tail (tail bracket) ≡ n.rest = ap tail n.is in
    record {
      name = n.name;
      spot = b.spot;
      before = n.rest;
      is = b.is ∙ ap (λ (v : List Word). mark LBracket b.spot ∷ v) (sym (ap tail b.is) ∙ n.is);
      is_name = n.is_name;
      begins = begun n.rest (ap (begins_spec kind.«Type») (sym behind_name) ∙ rest.1);
    }

-- the words before the bracket, and those behind it
record Apart (front back : List Word) (close : Word) : Type 0 where
  passed : List Word
  bracket : List Word
  turned : back ≡ close ∷ (passed ++ bracket)
  at : Opened bracket
  reads : is_whole (type_params_apart 199 (drop (length bracket) front)) ≡ true

by_apart : (front : List Word) (close : Word) → Apart front (reverse front) close → IsBehindParams front
by_apart front close a =
    let o = a.at in
    let ts = reverse a.passed ++ (close ∷ []) in
    let first = reverse o.before ++ (o.name ∷ (mark LBracket o.spot ∷ [])) in
    let whole : front ≡ reverse o.before ++ (o.name ∷ (mark LBracket o.spot ∷ ts)) =
    sym (reverse-reverse front) ∙ ap reverse (a.turned ∙ ap (λ (v : List Word). close ∷ (a.passed ++ v)) o.is)
    ∙ two_back o.before (close ∷ a.passed) (mark LBracket o.spot) o.name
    ∙ ap (λ (v : List Word). reverse o.before ++ (o.name ∷ (mark LBracket o.spot ∷ v))) (reverse-append (close ∷ []) a.passed) in
    let parts : front ≡ first ++ ts = whole ∙ sym (append_assoc (reverse o.before) (o.name ∷ (mark LBracket o.spot ∷ [])) ts) in
    let long : length a.bracket ≡ length first =
    ap length o.is ∙ sym (length-reverse (mark LBracket o.spot ∷ (o.name ∷ o.before))) ∙ ap length (reverse-append (mark LBracket o.spot ∷ (o.name ∷ [])) o.before) in
    let left : drop (length a.bracket) front ≡ ts = ap (λ (n : ℕ). drop n front) long ∙ ap (drop (length first)) parts ∙ drop-append_seam first ts in
    record {
      before = reverse o.before;
      name = o.name;
      bracket_spot = o.spot;
      params = ts;
      whole = whole;
      is_name = o.is_name;
      begins = o.begins;
      are_params = params_sound ts (type_params_apart 199 ts) refl (ap (λ (v : List Word). is_whole (type_params_apart 199 v)) (sym left) ∙ a.reads);
    }

apart_at : (front back : List Word) → behind_params front back ≡ true → (close : Word) × Apart front back close
apart_at front back e =
    let both = and_parts (last_is RBracket back) (params_from front (opening false 0 (tail back))) e in
    let rest = and_parts (opens_params (opening false 0 (tail back))) (is_whole (type_params_apart 199 (drop (length (opening false 0 (tail back))) front))) both.1 in
    let close = ends_with RBracket is_close back both.0 in
    let stop = stop_at (tail back) 0 in (
      mark RBracket close.spot,
      record {
        passed = stop.passed;
        bracket = opening false 0 (tail back);
        turned = close.is ∙ ap (λ (v : List Word). mark RBracket close.spot ∷ v) (sym (ap tail close.is) ∙ stop.whole);
        at = opened (opening false 0 (tail back)) rest.0;
        reads = rest.1;
      },
    )

if_alias : (b : Bool) → form_if b GenericAlias ≡ Some GenericAlias → b ≡ true
if_alias true e = refl
if_alias false e = absurd cc

no_tag : {X : Type 0} (b : Bool) → or_else (form_if b Tag) None ≡ Some GenericAlias → X
no_tag true e = absurd cc
no_tag false e = absurd cc

no_dot : {X : Type 0} (b : Bool) → form_if b DotImport ≡ Some GenericAlias → X
no_dot true e = absurd cc
no_dot false e = absurd cc

alias_is : (front : List Word) (k : TokenKind) → form_by_kind front k ≡ Some GenericAlias → (k ≡ kind.Assign) × (behind_params front (reverse front) ≡ true)
alias_is front kind.Assign e = (refl, if_alias (behind_params front (reverse front)) e)
alias_is front kind.Str e = no_tag (behind_field front (reverse front)) e
alias_is front kind.Period e = no_dot (begins_spec kind.Import (reverse front)) e
alias_is front _ e = absurd cc

is_behind : (front : List Word) → IsBehindParams front → behind_params front (reverse front) ≡ true
is_behind front b = subst (λ (v : List Word). behind_params v (reverse v) ≡ true) (sym b.whole) (behind b.before b.params b.name b.bracket_spot b.is_name b.begins b.are_params)

is_alias : (front : List Word) (k : TokenKind) → k ≡ kind.Assign → behind_params front (reverse front) ≡ true → form_by_kind front k ≡ Some GenericAlias
is_alias front k e b = ap (form_by_kind front) e ∙ ap (λ (x : Bool). form_if x GenericAlias) b

pub aliases_exactly : AliasesExactly
aliases_exactly front w = (
  λ e. (let a = alias_is front (kind_at w) e in let p = apart_at front (reverse front) a.1 in (a.0, by_apart front p.0 p.1)),
  λ h. is_alias front (kind_at w) h.0 (is_behind front h.1),
)
