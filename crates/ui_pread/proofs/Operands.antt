-- Operands, by what the code takes of the next word.
use Rattle.std.proofs.Common.{◌≡◌, ℕ, List, Option, Some, None, Result, Ok, refl, sym, ap, ◌∙◌}
use Rattle.std.specs.Prelude.{nat_le, if◌then◌else◌}
use Rattle.std.specs.Option.{option_map}
use Rattle.ui_scan.specs.declared.kind.TokenKind.TheVariants.{LParen}
use Rattle.ui_tree.specs.declared.part.Placed.{Placed}
use Rattle.ui_tree.specs.Tree.{Tree, literal, name}
use Rattle.ui_grammar.specs.Word.{Word}
use Rattle.ui_parse.specs.declared.fault.ParseError.{ParseError}
use Rattle.ui_parse.specs.declared.literal.Literal.{Literal as Taken}
use Rattle.ui_parse.specs.Cursor.{after, a_literal as taken_literal}
use Rattle.ui_parse.specs.Reader.{Reader, pure, first, take_by, marked, named as a_name}
use Rattle.ui_parse.specs.View.{Reads}
use Rattle.ui_syntax.specs.declared.site.Site.{Site}
use Rattle.ui_ptype.specs.declared.sub.Sub.{Sub}
use Rattle.ui_syntax.specs.Cover.{Read}
use Rattle.ui_syntax.specs.Types.{Nested}
use Rattle.ui_syntax.specs.Exprs.{a_literal, of_tree, operand, parenthesized_operand, type_operand}
use Rattle.ui_ptype.specs.Seen.{see}
use Rattle.ui_pread.proofs.CodeWords.{seen_literal, literals}
use Rattle.ui_ptype.specs.Branches.{reads_took, reads_missed}

after_seen : (x : Option Taken) (ws : List Word) → after x ws ≡ after (option_map seen_literal x) ws
after_seen None ws = refl
after_seen (Some l) ws = refl

module _ (room : ℕ) (inner : Nested) (site : Site) (ws : List Word) (r : Result Sub ParseError) (left : List Word) where
  abbrev in_words : Reader (Read Tree)
  in_words = take_by (marked LParen) (λ s. parenthesized_operand room inner site s) (type_operand room inner site)

  abbrev rest : Reader (Read Tree)
  rest = if nat_le 1 room then in_words else type_operand room inner site

  abbrev no_literal : Reader (Read Tree)
  no_literal = take_by a_name (λ p. pure (of_tree (name p) p.spot 1)) rest

  pub operand_literal : (x : Option Taken) (l : Taken) (us : List Word) → x ≡ first taken_literal ws → x ≡ Some l → us ≡ after x ws
      → Reads see (Ok (of_tree (literal l.spot l.kind l.value) l.spot 1, us)) r left → Reads see (operand room inner site ws) r left
  unfolding operand
  operand_literal x l us found is behind h = reads_took see r left a_literal (λ l. pure (of_tree (literal l.spot l.kind l.value) l.spot 1)) no_literal (option_map seen_literal x) (seen_literal l) ws us
      (ap (option_map seen_literal) found ∙ sym (literals ws)) (ap (option_map seen_literal) is) (behind ∙ after_seen x ws) h

  other : (x : Option Taken) (us : List Word) → x ≡ first taken_literal ws → x ≡ None → us ≡ after x ws → Reads see (no_literal us) r left → Reads see (operand room inner site ws) r left
  unfolding operand
  other x us found is behind h = reads_missed see r left a_literal (λ l. pure (of_tree (literal l.spot l.kind l.value) l.spot 1)) no_literal (option_map seen_literal x) ws us
      (ap (option_map seen_literal) found ∙ sym (literals ws)) (ap (option_map seen_literal) is) (behind ∙ after_seen x ws) h

  module _ (x : Option Taken) (us : List Word) (found : x ≡ first taken_literal ws) (is : x ≡ None) (behind : us ≡ after x ws) where
    pub operand_name : (y : Option Placed) (p : Placed) (vs : List Word) → y ≡ first a_name us → y ≡ Some p → vs ≡ after y us → Reads see (Ok (of_tree (name p) p.spot 1, vs)) r left → Reads see (operand room inner site ws) r left
    operand_name y p vs found_name is_name behind_name h = other x us found is behind (reads_took see r left a_name (λ p. pure (of_tree (name p) p.spot 1)) rest y p us vs found_name is_name behind_name h)

    pub operand_rest : (y : Option Placed) (vs : List Word) → y ≡ first a_name us → y ≡ None → vs ≡ after y us → Reads see (rest vs) r left → Reads see (operand room inner site ws) r left
    operand_rest y vs found_name is_name behind_name h = other x us found is behind (reads_missed see r left a_name (λ p. pure (of_tree (name p) p.spot 1)) rest y us vs found_name is_name behind_name h)
