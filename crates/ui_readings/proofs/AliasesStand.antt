-- Behind the parameters of a type specification `=` is that of a generic alias.
use Rattle.std.proofs.Common.{◌≡◌, inl, inr, ℕ, Bool, true, false, List, [], ◌∷◌, ◌++◌, length, drop, reverse, Ok, refl, sym, ap, subst, ◌∙◌, append_assoc, append-nil, arith}
use Rattle.std.specs.Prelude.{◌&&◌, ◌||◌}
use Rattle.std.proofs.Math.Seq.{drop-append_seam}
use Rattle.std.proofs.lemmas.List.{length-append, length-reverse, reverse-append}
use Rattle.ui_base.specs.declared.value.Spot.{Spot}
use Rattle.ui_scan.specs.declared.kind.TokenKind.{TokenKind}
use Rattle.ui_scan.specs.declared.kind.TokenKind.TheVariants as kind
use Rattle.ui_scan.specs.declared.kind.TokenKind.TheVariants.{LParen, LBracket, RBracket, Comma, Semi, Assign, «Type» as AType}
use Rattle.ui_tree.specs.Tree.{Groups, groups_end, group_and}
use Rattle.ui_tree.specs.Stmt.{TypeGroup}
use Rattle.ui_grammar.specs.Word.{Word, ident, mark}
use Rattle.ui_grammar.specs.Both.{is_length}
use Rattle.ui_grammar.specs.Declaration.{SpellsTypeParams, SpellsTypeHead, SpellsTypeGroup}
use Rattle.ui_parse.specs.Reader.{Outcome}
use Rattle.ui_stmts.specs.Decls.{TypeParams, type_params_apart}
use Rattle.ui_stmts.proofs.CompleteTypeParams.{type_params_apart_read}
use Rattle.ui_pexpr.specs.declared.fault.Form.TheVariants.{GenericAlias}
use Rattle.ui_parse.specs.Kind.{is_kind}
use Rattle.ui_pexpr.specs.Back.{kind_at, last_is, opening}
use Rattle.ui_pexpr.specs.Forms.{is_whole, form_if}
use Rattle.ui_pdecl.specs.Forms.{opens_group, begins_spec, params_from, behind_params}
use Rattle.ui_readings.specs.Tags.{IsClosed, IsParted}
use Rattle.ui_readings.specs.Aliases.{SpellsTypeSpecs, BeginsType, BeginsSpec, AreParams, AliasesBehindParams}
use Rattle.ui_readings.proofs.WayBack.{Level, Until, a_name, before_until, brackets, comma_flat, flat_apart, flat_mark, level_labels, nothing, pair, then_level, until_mark, assign_flat}
use Rattle.ui_readings.proofs.Matched.{level_type, until_groups}
use Rattle.ui_readings.proofs.Parted.{Parted, none_parted, one_parted, then_parted}

-- ---- specifications

until_params : (b : Bool) (gs : Groups) (ts rest : List Word) → SpellsTypeParams b gs ts rest → Until RBracket ts rest
until_params b groups_end ts rest s = absurd s
until_params false (group_and ns t gs) ts rest s = until_groups Comma RBracket (flat_apart Comma comma_flat) (group_and ns t gs) ts rest s
until_params true (group_and ns t gs) ts rest (a, b, c, n, s, m, k) = before_until (level_labels ns ts a n) (before_until (level_type t a b s) (before_until (flat_mark Comma b c comma_flat m) (until_mark RBracket c rest k)))

level_head : (gs : Groups) (alias : Bool) (ts rest : List Word) → SpellsTypeHead gs alias ts rest → Level ts rest
level_head groups_end false ts rest s = nothing ts rest s
level_head groups_end true ts rest s = flat_mark Assign ts rest assign_flat s
level_head (group_and ns t gs) false ts rest s = pair LBracket RBracket brackets s.1.spot ts s.0 rest s.1.is (until_params (is_length (group_and ns t gs)) (group_and ns t gs) s.0 rest s.2)
level_head (group_and ns t gs) true ts rest s = absurd s

level_group : (t : TypeGroup) (ts rest : List Word) → SpellsTypeGroup t ts rest → Level ts rest
level_group t ts rest s = then_level (a_name t.name ts s.0 s.2) (then_level (level_head t.params t.alias s.0 s.1 s.3) (level_type t.of s.1 rest s.4))

specs_parted : (us : List TypeGroup) (ts rest : List Word) → SpellsTypeSpecs us ts rest → Parted ts rest
specs_parted [] ts rest e = none_parted ts rest e
specs_parted (t ∷ us) ts rest (a, b, s, m, h) = then_parted ts b rest (one_parted ts a b (level_group t ts a s) m) (specs_parted us b rest h)

-- ---- a specification begins

or_both : (a b c : Bool) → b ≡ true → c ≡ true → (a || (b && c)) ≡ true
or_both true b c e f = refl
or_both false b c e f = ap (λ (x : Bool). x && c) e ∙ f

two_turned : (before ts : List Word) (v w : Word) → reverse (before ++ (v ∷ (w ∷ ts))) ≡ reverse ts ++ (w ∷ (v ∷ reverse before))
two_turned before ts v w =
    reverse-append before (v ∷ (w ∷ ts))
    ∙ ap (λ (x : List Word). x ++ reverse before) (reverse-append (v ∷ (w ∷ [])) ts)
    ∙ append_assoc (reverse ts) (w ∷ (v ∷ [])) (reverse before)

-- the words of specifications leave no bracket open
specs_begin : (before : List Word) → BeginsType before → BeginsSpec before
specs_begin before (inl b) = inl b
specs_begin before (inr (front, ts, s, p, us, e, h)) =
    let parted = specs_parted us ts [] h in
    let same : parted.middle ≡ ts = sym (parted.parts ∙ append-nil parted.middle) in
    inr (
      front,
      ts,
      s,
      p,
      e,
      subst IsClosed same (λ back. parted.passes false 0 back refl),
      subst IsParted same parted.parted,
    )

ends : (middle : List Word) → IsParted middle → (paren : List Word) → last_is kind.LParen paren ≡ true
    → (last_is kind.LParen (reverse middle ++ paren) || last_is kind.Semi (reverse middle ++ paren)) ≡ true
ends middle (inl e) paren opened = subst (λ (m : List Word). (last_is kind.LParen (reverse m ++ paren) || last_is kind.Semi (reverse m ++ paren)) ≡ true) (sym e) (ap (λ (x : Bool). x || last_is kind.Semi paren) opened)
ends middle (inr (m, x, e)) paren opened = subst (λ (r : List Word). (last_is kind.LParen (r ++ paren) || last_is kind.Semi (r ++ paren)) ≡ true) (sym (ap reverse e ∙ reverse-append m (mark Semi x ∷ []))) refl

-- behind a keyword's parenthesis and words that leave no bracket open
in_group : (front ts : List Word) (s p : Spot) → IsClosed ts → IsParted ts → begins_spec kind.«Type» (reverse ts ++ (mark LParen p ∷ (mark AType s ∷ reverse front))) ≡ true
in_group front ts s p closed parted =
    let paren = mark LParen p ∷ (mark AType s ∷ reverse front) in
    let out : opening false 0 (reverse ts ++ paren) ≡ paren = closed paren in
    or_both (last_is kind.«Type» (reverse ts ++ paren)) (last_is kind.LParen (reverse ts ++ paren) || last_is kind.Semi (reverse ts ++ paren)) (opens_group kind.«Type» (opening false 0 (reverse ts ++ paren)))
    (ends ts parted paren refl) (ap (opens_group kind.«Type») out)

begins : (before : List Word) → BeginsSpec before → begins_spec kind.«Type» (reverse before) ≡ true
begins before (inl (front, s, e)) = subst (λ (r : List Word). begins_spec kind.«Type» r ≡ true) (sym (ap reverse e ∙ reverse-append front (mark AType s ∷ []))) refl
begins before (inr (front, ts, s, p, e, closed, parted)) =
    subst (λ (r : List Word). begins_spec kind.«Type» r ≡ true) (sym (ap reverse e ∙ two_turned front ts (mark AType s) (mark LParen p))) (in_group front ts s p closed parted)

-- ---- the parameters

apart_whole : (o : Outcome TypeParams) (x : TypeParams) → o ≡ Ok (x, []) → is_whole o ≡ true
apart_whole o x e = ap is_whole e

params_whole : (ts : List Word) → AreParams ts → is_whole (type_params_apart 199 ts) ≡ true
params_whole ts p = apart_whole (type_params_apart 199 ts) _ (type_params_apart_read 199 p.params ts [] p.spells p.fits.0 p.fits.1 (omega (arith, p.shallow)))

pub behind : (before ts : List Word) (n : Word) (b : Spot) → kind_at n ≡ kind.Ident → BeginsSpec before → AreParams ts → behind_params (before ++ (n ∷ (mark LBracket b ∷ ts))) (reverse (before ++ (n ∷ (mark LBracket b ∷ ts)))) ≡ true
behind before ts n b name start p =
    let front = before ++ (n ∷ (mark LBracket b ∷ ts)) in
    let bracket = mark LBracket b ∷ (n ∷ reverse before) in
    let u = until_params (is_length p.params) p.params ts [] p.spells in
    let close = u.close_is in
    let text : ts ≡ u.inner.front ++ (mark RBracket close.spot ∷ []) = u.inner.parts ∙ ap (λ (v : List Word). u.inner.front ++ v) close.is in
    let turned : reverse front ≡ mark RBracket close.spot ∷ (reverse u.inner.front ++ bracket) =
    two_turned before ts n (mark LBracket b) ∙ ap (λ (v : List Word). reverse v ++ bracket) text ∙ ap (λ (v : List Word). v ++ bracket) (reverse-append u.inner.front (mark RBracket close.spot ∷ [])) in
    let out : opening false 0 (reverse u.inner.front ++ bracket) ≡ bracket = u.inner.passes false 0 bracket refl in
    let long : length bracket ≡ length (before ++ (n ∷ (mark LBracket b ∷ []))) =
    (let c = length-append before (n ∷ (mark LBracket b ∷ [])) in let e = length-reverse before in omega (arith, c, e)) in
    let whole : front ≡ (before ++ (n ∷ (mark LBracket b ∷ []))) ++ ts = sym (append_assoc before (n ∷ (mark LBracket b ∷ [])) ts) in
    let left : drop (length bracket) front ≡ ts = ap (λ (k : ℕ). drop k front) long ∙ ap (drop (length (before ++ (n ∷ (mark LBracket b ∷ []))))) whole ∙ drop-append_seam (before ++ (n ∷ (mark LBracket b ∷ []))) ts in
    let read : Bool = is_whole (type_params_apart 199 (drop (length bracket) front)) in
    ap (behind_params front) turned
    ∙ ap (params_from front) out
    ∙ ap (λ (k : TokenKind). (is_kind k kind.Ident && begins_spec kind.«Type» (reverse before)) && read) name
    ∙ ap (λ (x : Bool). x && read) (begins before start)
    ∙ ap (λ (v : List Word). is_whole (type_params_apart 199 v)) left
    ∙ params_whole ts p

pub aliases_behind_params : AliasesBehindParams
aliases_behind_params before ts n b at start p = ap (λ (x : Bool). form_if x GenericAlias) (behind before ts (ident n) b refl (specs_begin before start) p)
