-- The turns of the loops of expressions, as the code takes them.
use Rattle.std.specs.Prelude.{ℕ, suc, Bool, not, ◌&&◌, Option, Some, None, nat_le, if◌then◌else◌}
use Rattle.ui_scan.specs.declared.kind.TokenKind.TheVariants.{LParen, LBracket, LBrace, Period}
use Rattle.ui_tree.specs.Tree.{TypeTree, Tree}
use Rattle.ui_grammar.specs.Operator.{level_of}
use Rattle.ui_parse.specs.declared.turn.Turn.{Turn}
use Rattle.ui_parse.specs.declared.turn.Turn.TheVariants.{Done, More}
use Rattle.ui_parse.specs.Reader.{Reader, ◌>>=◌, pure, take_by, marked}
use Rattle.ui_syntax.specs.declared.site.Site.{Site}
use Rattle.ui_syntax.specs.Cover.{Read, only_type, as_type, if_named}
use Rattle.ui_syntax.specs.Types.{Nested, of_type}
use Rattle.ui_ptype.specs.Parts.{covered}
use Rattle.ui_syntax.specs.Exprs.{is_some, is_header, operand_site, an_operator, literal_of, selected, indexed, called, binary_of}

abbrev pub see_turn : {S V : Type 0} → (S → V) → Turn S → Turn V
see_turn see (Done s) = Done (see s)
see_turn see (More s) = More (see s)

abbrev pub done : Read Tree → Reader (Turn (Read Tree))
done f = pure (Done f)

abbrev pub more : Read Tree → Reader (Turn (Read Tree))
more f = pure (More f)

-- whether something may go on with the tree
abbrev pub goes_on : ℕ → Read Tree → Bool
goes_on room f = not (is_some (only_type f.tree)) && nat_le f.depth room

module _ (room : ℕ) (inner : Nested) where
  abbrev pub literal_turn : Site → Read Tree → Option TypeTree → Reader (Turn (Read Tree))
  literal_turn site f None = done f
  literal_turn site f (Some t) = if is_header site then done f else take_by (marked LBrace) (λ _. literal_of room inner (of_type t f.spot f.depth) >>= more) (done f)

  -- behind the brace, where the tree is a type too
  abbrev pub named_literal : Read Tree → Reader (Turn (Read Tree))
  named_literal f = covered f (as_type f.tree) >>= (λ t. literal_of room inner t >>= more)

  abbrev pub suffix_turn : Site → Read Tree → Reader (Turn (Read Tree))
  suffix_turn site f =
      take_by (marked Period) (λ _. selected room inner f >>= more) (take_by (marked LBracket) (λ _. indexed room inner f >>= more)
      (take_by (marked LParen) (λ _. called room inner f >>= more) (literal_turn site f (if_named (as_type f.tree)))))

  abbrev pub operation_turn : Site → ℕ → Read Tree → Reader (Turn (Read Tree))
  operation_turn site least l = take_by (an_operator least) (λ o. inner.level (operand_site site) (suc (level_of o)) >>= (λ r. more (binary_of room inner o l r))) (done l)
