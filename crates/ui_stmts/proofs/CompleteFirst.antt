-- Where no expression begins, its reader takes nothing.
use Rattle.std.proofs.Common.{◌≡◌, inl, inr, ℕ, zero, suc, Bool, true, false, List, ◌∷◌, None, Ok, Err, refl, sym, subst, ◌∙◌}
use Rattle.std.specs.Prelude.{nat_le}
use Rattle.ui_base.specs.declared.value.Spot.{Spot}
use Rattle.ui_scan.specs.declared.kind.TokenKind.TheVariants.{LParen, LBracket, LBrace, RBrace, Semi, Map, Func, Struct, Interface}
use Rattle.ui_grammar.specs.Word.{Word, mark}
use Rattle.ui_parse.specs.Reader.{pure, first, take_by, marked, named as a_name}
use Rattle.ui_parse.proofs.Outcomes.{take_other}
use Rattle.ui_syntax.specs.declared.site.TypeSite.TheVariants as at
use Rattle.ui_syntax.specs.Types.{Nested, map_type, opened, bracket_type, operand_type, maybe_type}
use Rattle.ui_syntax.specs.Exprs.{a_literal, a_prefix, parenthesized_operand, type_operand, operand, prefixed, primary, unary_expr, level}
use Rattle.ui_syntax.specs.Read.{readers, place_of, expr}
use Rattle.ui_syntax.proofs.CompleteTypesLists.{pick_same}
use Rattle.ui_stmts.specs.Laws.{EndsAStmt}

-- no expression begins
pub record NoExpr (ws : List Word) : Type 0 where
  pub no_prefix : first a_prefix ws ≡ None
  pub no_literal : first a_literal ws ≡ None
  pub no_name : first a_name ws ≡ None
  pub no_paren : first (marked LParen) ws ≡ None
  pub no_func : first (marked Func) ws ≡ None
  pub no_struct : first (marked Struct) ws ≡ None
  pub no_interface : first (marked Interface) ws ≡ None
  pub no_bracket : first (marked LBracket) ws ≡ None
  pub no_map : first (marked Map) ws ≡ None

pub no_expr_semi : (x : Spot) (ws : List Word) → NoExpr (mark Semi x ∷ ws)
no_expr_semi x ws = record { no_prefix = refl; no_literal = refl; no_name = refl; no_paren = refl; no_func = refl; no_struct = refl; no_interface = refl; no_bracket = refl; no_map = refl }

pub no_expr_close : (x : Spot) (ws : List Word) → NoExpr (mark RBrace x ∷ ws)
no_expr_close x ws = record { no_prefix = refl; no_literal = refl; no_name = refl; no_paren = refl; no_func = refl; no_struct = refl; no_interface = refl; no_bracket = refl; no_map = refl }

pub no_expr_open : (x : Spot) (ws : List Word) → NoExpr (mark LBrace x ∷ ws)
no_expr_open x ws = record { no_prefix = refl; no_literal = refl; no_name = refl; no_paren = refl; no_func = refl; no_struct = refl; no_interface = refl; no_bracket = refl; no_map = refl }

pub no_expr_end : (ts : List Word) → EndsAStmt ts → NoExpr ts
no_expr_end ts (inl m) = subst NoExpr (sym m.1.is) (no_expr_semi m.1.spot m.0)
no_expr_end ts (inr m) = subst NoExpr (sym m.1.is) (no_expr_close m.1.spot m.0)

-- ---- reader by reader

operand_type_none : (room : ℕ) (inner : Nested) (ws : List Word) → NoExpr ws → maybe_type room inner at.Operand ws ≡ Ok (None, ws)
unfolding maybe_type operand_type
operand_type_none room inner ws n =
    take_other (marked Func) _ _ ws n.no_func ∙ take_other (marked Struct) _ _ ws n.no_struct ∙ take_other (marked Interface) _ _ ws n.no_interface
    ∙ pick_same (nat_le 1 room) (take_by (marked LBracket) (λ s. opened room inner (bracket_type room inner at.Operand s)) (take_by (marked Map) (λ s. opened room inner (map_type room inner s)) (pure None))) (pure None) ws (Ok (None, ws))
    (take_other (marked LBracket) _ _ ws n.no_bracket ∙ take_other (marked Map) _ _ ws n.no_map) refl

reader_none : (d : ℕ) (ws : List Word) → NoExpr ws → (readers d).maybe_type at.Operand ws ≡ Ok (None, ws)
unfolding readers
reader_none zero ws n = refl
reader_none (suc d) ws n = operand_type_none d (readers d) ws n

type_operand_none : (room : ℕ) (header : Bool) (ws : List Word) → NoExpr ws → type_operand room (readers room) (place_of header) ws ≡ Err ws
type_operand_none room true ws n = rw (reader_none room ws n) refl
type_operand_none room false ws n = rw (reader_none room ws n) refl

operand_none : (room : ℕ) (header : Bool) (ws : List Word) → NoExpr ws → operand room (readers room) (place_of header) ws ≡ Err ws
unfolding operand
operand_none room header ws n =
    take_other a_literal _ _ ws n.no_literal ∙ take_other a_name _ _ ws n.no_name
    ∙ pick_same (nat_le 1 room) (take_by (marked LParen) (λ s. parenthesized_operand room (readers room) (place_of header) s) (type_operand room (readers room) (place_of header))) (type_operand room (readers room) (place_of header)) ws (Err ws)
    (take_other (marked LParen) _ _ ws n.no_paren ∙ type_operand_none room header ws n) (type_operand_none room header ws n)

primary_none : (room : ℕ) (header : Bool) (ws : List Word) → NoExpr ws → primary room (readers room) (place_of header) ws ≡ Err ws
unfolding primary
primary_none room header ws n = rw (operand_none room header ws n) refl

unary_none : (room : ℕ) (header : Bool) (ws : List Word) → NoExpr ws → unary_expr room (readers room) (place_of header) ws ≡ Err ws
unfolding unary_expr
unary_none room header ws n =
    pick_same (nat_le 1 room) (take_by a_prefix (λ o. prefixed room (readers room) (place_of header) o) (primary room (readers room) (place_of header))) (primary room (readers room) (place_of header)) ws (Err ws)
    (take_other a_prefix _ _ ws n.no_prefix ∙ primary_none room header ws n) (primary_none room header ws n)

level_none : (room : ℕ) (header : Bool) (ws : List Word) → NoExpr ws → level room (readers room) (place_of header) 1 ws ≡ Err ws
unfolding level
level_none room header ws n = rw (unary_none room header ws n) refl

pub expr_none : (budget : ℕ) (header : Bool) (ws : List Word) → NoExpr ws → expr budget header ws ≡ Err ws
unfolding readers
expr_none zero header ws n = refl
expr_none (suc d) header ws n = level_none d header ws n
