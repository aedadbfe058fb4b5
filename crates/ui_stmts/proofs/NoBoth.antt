-- No text begins both with an array's length and its bracket and with type parameters and theirs: behind the first name the
-- words of parameters go on so that each expression that begins there ends before a word that is no closing bracket.
use Rattle.std.proofs.Common.{◌≡◌, ◌⊎◌, inl, inr, suc, ◌≤◌, Bool, true, false, List, [], ◌∷◌, Option, Some, None, refl, sym, ap, subst, ◌∙◌, arith}
use Rattle.std.specs.Prelude.{◌&&◌}
use Rattle.ui_base.specs.declared.kind.BinOp.TheVariants as op
use Rattle.ui_scan.specs.declared.kind.TokenKind.TheVariants.{LParen, LBracket, RBracket, Comma, Tilde, Map, Func, Struct, Interface}
use Rattle.ui_tree.specs.declared.part.Placed.{Placed}
use Rattle.ui_tree.specs.Tree.{TypeTree, named, parenthesized, pointer, slice, array, counted, mapping, func, struct, interface, union, Args, no_args, args, Types, types_end, type_and, Groups, groups_end, group_and, Tree, literal, name, paren, convert, composite, elided, keyed, instance, selector, assert, index, sliced, call, type_arg, unary, binary}
use Rattle.ui_grammar.specs.Word.{Word, ident, lit, mark, Mark}
use Rattle.ui_grammar.specs.Both.{is_expression, continues, all_expressions, bound_continues, is_length}
use Rattle.ui_grammar.specs.Operator.{prefix_mark_of}
use Rattle.ui_grammar.specs.Spells.{Member, SpellsType, SpellsArgs, SpellsTermsTail, SpellsGroupsTail, Spells}
use Rattle.ui_grammar.specs.Fits.{plain, plain_type, of_literal, bound, term, level, Fits, FitsType, FitsArgs, FitsTypes}
use Rattle.ui_grammar.specs.Declaration.{SpellsTypeParams}
use Rattle.ui_syntax.specs.declared.site.Site.TheVariants.{Argument}
use Rattle.ui_syntax.proofs.ByBudget.{Quiet}
use Rattle.ui_syntax.proofs.Quiet.{Stop, stop_mark, stop_bracket, stop_comma, quiet_stop}
use Rattle.ui_syntax.proofs.FirstWords.{Starts, type_mark, only_mark, first_of_alone}
use Rattle.ui_syntax.proofs.FirstTrees.{level_below}
use Rattle.ui_syntax.proofs.Places.{TermCase, one_type, with_tilde, term_case}
use Rattle.ui_syntax.proofs.CompleteExprsOperators.{quiet_operator}
use Rattle.ui_syntax.proofs.Covers.{some_types}
use Rattle.ui_stmts.specs.Laws.{NoBoth}
use Rattle.ui_stmts.proofs.ParamsGo.{Goes, ends, empty, indexed, called, operated, alone, tilded, Calm, calm_stop, calm_or, clash, at_period, at_brace, at_close, after_index, after_slice, after_types, after_arguments, after_operator}

-- ---- an expression that begins with a name behind which words of parameters come

name_rest : (p n : Placed) (ts a b : List Word) → ts ≡ ident p ∷ a → ts ≡ ident n ∷ b → a ≡ b
name_rest p n ts a b e h = by_words (sym e ∙ h)
  where
    by_words : ident p ∷ a ≡ ident n ∷ b → a ≡ b
    by_words e = cc

abbrev is_name : Word → Bool
is_name (ident p) = true
is_name _ = false

no_name : (w : Word) (p : Placed) (ts a b : List Word) → ts ≡ ident p ∷ a → ts ≡ w ∷ b → is_name w ≡ false → ⊥
no_name w p ts a b e h other = clash (sym other ∙ by_words (sym h ∙ e))
  where
    head : List Word → Bool
    head [] = false
    head (x ∷ xs) = is_name x

    by_words : w ∷ b ≡ ident p ∷ a → is_name w ≡ true
    by_words e = ap head e

named_rest : (m : Option Placed) (vs : Args) (a b c : List Word) → Member m a b → SpellsArgs vs b c → FitsArgs vs → Goes a → Goes c
named_rest (Some q) vs a b c m s f g = absurd (at_period a m.0 g m.1)
named_rest None no_args a b c m s f g = subst Goes (m ∙ s) g
named_rest None (args vs) a b c m s f g = after_types vs b s.0 c (subst Goes m g) s.1 s.2 f

literal_rest : (t : TypeTree) (p : Placed) (ts ws m : List Word) → ts ≡ ident p ∷ ws → SpellsType t ts m → FitsType t of_literal → Goes ws → Goes m
literal_rest (named n q vs) p ts ws m e s f g = named_rest q vs s.0 s.1 m s.3 s.4 f.1 (subst Goes (name_rest p n ts ws s.0 e s.2) g)
literal_rest (slice x t) p ts ws m e s f g = absurd (no_name (mark LBracket x) p ts ws s.0 e s.2 refl)
literal_rest (array x i t) p ts ws m e s f g = absurd (no_name (mark LBracket x) p ts ws s.0 e s.3 refl)
literal_rest (counted x t) p ts ws m e s f g = absurd (no_name (mark LBracket x) p ts ws s.0 e s.3 refl)
literal_rest (mapping x k t) p ts ws m e s f g = absurd (no_name (mark Map x) p ts ws s.0 e s.4 refl)
literal_rest (struct x gs) p ts ws m e s f g = absurd (no_name (mark Struct x) p ts ws s.0 e s.2 refl)
literal_rest _ p ts ws m e s f g = absurd cc

left : (e : Tree) (p : Placed) (ts ws m : List Word) → ts ≡ ident p ∷ ws → Spells e ts m → Fits e plain → Goes ws → (level e ≤ 5 → Quiet Argument (suc (level e)) m) → Goes m
left (literal x k v) p ts ws m e s f g q = absurd (no_name (lit k x v) p ts ws m e s refl)
left (name n) p ts ws m e s f g q = subst Goes (name_rest p n ts ws m e s) g
left (paren x i) p ts ws m e s f g q = absurd (no_name (mark LParen x) p ts ws s.0 e s.2 refl)
left (convert x t i) p ts ws m e s f g q = absurd (clash (subst (Starts (only_mark type_mark)) e (first_of_alone t ts s.0 f.0 s.4 f.3)))
left (composite x t es) p ts ws m e s f g q = absurd (at_brace s.0 s.1 (literal_rest t p ts ws s.0 e s.3 f.1 g) s.4)
left (elided x es) p ts ws m e s f g q = absurd (clash f.0)
left (keyed x k i) p ts ws m e s f g q = let h = f.0 in absurd cc
left (instance x i vs) p ts ws m e s f g q = after_types vs s.0 s.1 m (left i p ts ws s.0 e s.3 f.1 g (λ le. absurd (omega (arith, le, f.0)))) s.4 (some_types vs s.1 m s.5) f.2
left (selector x i n) p ts ws m e s f g q = absurd (at_period s.0 s.1 (left i p ts ws s.0 e s.3 f.1 g (λ le. absurd (omega (arith, le, f.0)))) s.4)
left (assert x i t) p ts ws m e s f g q = absurd (at_period s.0 s.1 (left i p ts ws s.0 e s.5 f.1 g (λ le. absurd (omega (arith, le, f.0)))) s.6)
left (index x i j) p ts ws m e s f g q = after_index j s.0 s.1 s.2 m (left i p ts ws s.0 e s.4 f.1 g (λ le. absurd (omega (arith, le, f.0)))) s.5 s.6 f.2 s.7
left (sliced x i low high most) p ts ws m e s f g q = absurd (after_slice low s.0 s.1 s.2 s.3 (left i p ts ws s.0 e s.7 f.1 g (λ le. absurd (omega (arith, le, f.0)))) s.8 s.9 f.2 s.10)
left (call x i es spread) p ts ws m e s f g q = after_arguments spread es s.0 s.1 m (left i p ts ws s.0 e s.3 f.1 g (λ le. absurd (omega (arith, le, f.0)))) s.4 s.5 f.2
left (type_arg t) p ts ws m e s f g q = let h = f.0 in absurd cc
left (unary x o i) p ts ws m e s f g q = absurd (no_name (mark (prefix_mark_of o) x) p ts ws s.0 e s.1 refl)
left (binary x o l r) p ts ws m e s f g q = after_operator o r s.0 s.1 m (left l p ts ws s.0 e s.3 f.2 g (λ le. quiet_operator Argument (level l) o s.0 s.1 f.0 s.4)) s.4 s.5 f.3 f.1 (q (level_below o))

-- ---- the words of parameters

goes_type : (t : TypeTree) (a b : List Word) → SpellsType t a b → FitsType t plain_type → Calm b → (continues t ≡ false) ⊎ Goes b → Goes a
goes_type (named n q vs) a b s f c h = ends a (ident n) s.0 s.2 refl
goes_type (parenthesized x t) a b s f c (inl e) = absurd (clash (sym e))
goes_type (parenthesized x t) a b s f c (inr g) = called t a s.0 s.1 b (record { spot = x; is = s.2 }) s.3 f.1 s.4 g
goes_type (pointer x t) a b s f c (inl e) = alone op.Mul t a s.0 b (omega arith) (record { spot = x; is = s.1 }) s.2 f.1 c e
goes_type (pointer x t) a b s f c (inr g) = operated op.Mul t a s.0 b (omega arith) (record { spot = x; is = s.1 }) s.2 f.1 c g
goes_type (slice x t) a b s f c h = empty a s.0 s.1 (record { spot = x; is = s.2 }) s.3
goes_type (array x e t) a b s f c h = indexed e a s.0 s.1 s.2 (record { spot = x; is = s.3 }) s.4 f.1 s.5 (goes_type t s.2 b s.6 f.2 c h)
goes_type (mapping x k t) a b s f c h = ends a (mark Map x) s.0 s.4 refl
goes_type (func x gs r) a b s f c h = ends a (mark Func x) s.0 s.3 refl
goes_type (struct x gs) a b s f c h = ends a (mark Struct x) s.0 s.2 refl
goes_type (interface x us) a b s f c h = ends a (mark Interface x) s.0 s.2 refl
goes_type _ a b s f c h = absurd cc

calm_tail : (us : Types) (a b : List Word) → SpellsTermsTail us a b → Stop b → Calm a
calm_tail types_end a b s q = subst Calm (sym s) (calm_stop q)
calm_tail (type_and t us) a b s q = calm_or s.0 s.2

goes_tail : (us : Types) (a b : List Word) → SpellsTermsTail us a b → FitsTypes us term → Stop b → (all_expressions us ≡ false) ⊎ Goes b → Goes a
goes_tail types_end a b s f q (inl e) = absurd (clash (sym e))
goes_tail types_end a b s f q (inr g) = subst Goes (sym s) g
goes_tail (type_and t us) a b s f q h = by_term (goes_tail us s.1 b s.4 f.1 q) (term_case t f.0)
  where
    by_test : ((all_expressions us ≡ false) ⊎ Goes b → Goes s.1) → FitsType t plain_type → (x : Bool) → is_expression t ≡ x → ((x && all_expressions us) ≡ false) ⊎ Goes b → Goes a
    by_test more g true e h = operated op.Or t a s.0 s.1 (omega arith) s.2 s.3 g (calm_tail us s.1 b s.4 q) (more h)
    by_test more g false e h = alone op.Or t a s.0 s.1 (omega arith) s.2 s.3 g (calm_tail us s.1 b s.4 q) e

    by_term : ((all_expressions us ≡ false) ⊎ Goes b → Goes s.1) → TermCase t → Goes a
    by_term more (one_type g) = by_test more g (is_expression t) refl h
    by_term more (with_tilde x u e g) = let w = subst (λ (v : TypeTree). SpellsType v s.0 s.1) e s.3 in tilded a s.0 w.0 s.2 (record { spot = x; is = w.1 })

goes_bound : (t : TypeTree) (a b : List Word) → SpellsType t a b → FitsType t bound → Stop b → (bound_continues t ≡ false) ⊎ Goes b → Goes a
goes_bound (union x types_end) a b s f q h = absurd s.1
goes_bound (union x (type_and t us)) a b s f q h = by_term (term_case t f.1.0)
  where
    by_test : (x : Bool) → continues t ≡ x → (x && all_expressions us ≡ false) ⊎ Goes b → (continues t ≡ false) ⊎ Goes s.1.0
    by_test true e h = inr (goes_tail us s.1.0 b s.1.2 f.1.1 q h)
    by_test false e h = inl e

    by_term : TermCase t → Goes a
    by_term (one_type g) = goes_type t a s.1.0 s.1.1 g (calm_tail us s.1.0 b s.1.2 q) (by_test (continues t) refl h)
    by_term (with_tilde y u e g) = let w = subst (λ (v : TypeTree). SpellsType v a s.1.0) e s.1.1 in ends a (mark Tilde y) w.0 w.1 refl
goes_bound _ a b s f q h = absurd cc

at_comma : (a b : List Word) → Mark Comma a b → Goes a
at_comma a b m = ends a (mark Comma m.spot) b m.is refl

-- behind the bound
goes_params : (p : Placed) (t : TypeTree) (gs : Groups) (x : Bool) (a b d : List Word) → is_length (group_and (p ∷ []) t gs) ≡ x → SpellsType t a b → FitsType t bound → SpellsGroupsTail Comma RBracket gs b d → x ≡ false → Goes a
goes_params p t groups_end x a b d i s f (inl m) e = goes_bound t a b s f (stop_mark RBracket b d stop_bracket m) (inl (i ∙ e))
goes_params p t groups_end x a b d i s f (inr m) e = goes_bound t a b s f (stop_mark Comma b m.0 stop_comma m.1) (inr (at_comma b m.0 m.1))
goes_params p t (group_and ns u gs) x a b d i s f m e = goes_bound t a b s f (stop_mark Comma b m.0 stop_comma m.3) (inr (at_comma b m.0 m.3))

goes_all : (p : Placed) (ns : List Placed) (t : TypeTree) (gs : Groups) (x : Bool) (ts d : List Word) → is_length (group_and (p ∷ ns) t gs) ≡ x → SpellsTypeParams x (group_and (p ∷ ns) t gs) ts d → FitsType t bound → (k : List Word) × (ts ≡ ident p ∷ k) × Goes k
goes_all p [] t gs true ts d i s f =
    (s.3.0, s.3.1, subst Goes (sym s.3.2) (goes_bound t s.0 s.1 s.4 f (stop_mark Comma s.1 s.2 stop_comma s.5) (inr (at_comma s.1 s.2 s.5))))
goes_all p [] t gs false ts d i s f = (s.2.0, s.2.1, subst Goes (sym s.2.2) (goes_params p t gs false s.0 s.1 d i s.3 f s.4 refl))
goes_all p (n ∷ ns) t gs true ts d i s f = (s.3.0, s.3.1, at_comma s.3.0 s.3.2.0 s.3.2.2)
goes_all p (n ∷ ns) t gs false ts d i s f = (s.2.0, s.2.1, at_comma s.2.0 s.2.2.0 s.2.2.2)

pub no_both : NoBoth
no_both e groups_end ts m c d s k f h g = absurd h
no_both e (group_and [] t gs) ts m c d s k f h g = clash g.0
no_both e (group_and (p ∷ ns) t gs) ts m c d s k f h g =
    let w = goes_all p ns t gs (is_length (group_and (p ∷ ns) t gs)) ts d refl h g.1.0 in
    at_close m c (left e p ts w.0 m w.1 s f w.2 (λ le. quiet_stop Argument (suc (level e)) m (stop_mark RBracket m c stop_bracket k))) k
