-- What the code takes of the next word, as its readers do.
use Rattle.std.proofs.Common.{◌≡◌, ℕ, List, [], ◌∷◌, refl}
use Rattle.std.specs.Option.{option_map}
use Rattle.ui_tree.specs.declared.part.LiteralKind.TheVariants as literal
use Rattle.ui_grammar.specs.Word.{Word, ident, lit, mark}
use Rattle.ui_grammar.specs.Operator.{operator_of}
use Rattle.ui_parse.specs.declared.literal.Literal.{Literal as Taken}
use Rattle.ui_parse.specs.Cursor.{kind_of, a_literal as taken_literal}
use Rattle.ui_parse.proofs.Peeks.{of_kind, next_by_kind}
use Rattle.ui_parse.specs.Reader.{first}
use Rattle.ui_syntax.specs.Exprs.{Literal, a_literal, an_operator, if_binds}

abbrev pub seen_literal : Taken → Literal
seen_literal l = record { kind = l.kind; spot = l.spot; value = l.value }

-- the literals of both are the same
pub literals : (ws : List Word) → first a_literal ws ≡ option_map seen_literal (first taken_literal ws)
literals [] = refl
literals (ident p ∷ ws) = refl
literals (lit k s v ∷ ws) = refl
literals (mark k s ∷ ws) = refl

operator_by : (least : ℕ) (w : Word) → an_operator least w ≡ of_kind (λ k. if_binds least (operator_of k)) (kind_of w)
operator_by least (ident p) = refl
operator_by least (lit literal.Whole s v) = refl
operator_by least (lit literal.Rune s v) = refl
operator_by least (lit literal.Text s v) = refl
operator_by least (mark k s) = refl

-- the operator that comes next goes by the kind of its token
pub operators : (least : ℕ) (ws : List Word) → first (an_operator least) ws ≡ of_kind (λ k. if_binds least (operator_of k)) (first kind_of ws)
operators least ws = next_by_kind (λ k. if_binds least (operator_of k)) (an_operator least) ws (operator_by least)
