-- Files whose fault of depth no fixed number of levels more shows: type parameters end before a word that an array's length goes on
-- with, deeper at each operator before it.
use Rattle.std.proofs.Common.{◌≡◌, ℕ, zero, suc, ◌+◌, List, [], ◌∷◌, refl, sym, subst, lt_irrefl, arith, Err}
use Rattle.ui_base.specs.declared.value.Spot.{Spot}
use Rattle.ui_scan.specs.declared.kind.TokenKind.{TokenKind}
use Rattle.ui_scan.specs.declared.kind.TokenKind.TheVariants as k
use Rattle.ui_tree.specs.Stmt.{File}
use Rattle.ui_grammar.specs.Word.{Word, ident, mark}
use Rattle.ui_parse.specs.Reader.{Outcome, take_by, eat, expect, expect_name, chain_from, chain, parts_from, parts, more_parts}
use Rattle.ui_syntax.specs.Types.{named_type, bracketed, open_name, param, params, results, signature, field, struct_type, interface_type, bracket_type, operand_type, plain_type, term, union_from, element, maybe_type}
use Rattle.ui_syntax.specs.Exprs.{behind_type, parenthesized_operand, operand, selected, bounds, indexed, argument, called, suffixes, primary, prefixed, unary_expr, operations, level, elem, braces}
use Rattle.ui_syntax.specs.Read.{readers}
use Rattle.ui_stmts.specs.Common.{specs}
use Rattle.ui_stmts.specs.Decls.{farther, type_params, type_params_apart, type_spec, maybe_decl, each_from, each, file, whole_file}
use Rattle.ui_depth.specs.Laws.{IsFarther}
use Rattle.ui_depth.specs.Laws.{Missed}
use Rattle.ui_depth.proofs.FilePasses.{file_passes}

abbrev here : Spot
here = record { line = 1; col = 1 }

abbrev id : ℕ → Word
id c = ident (record { spot = here; text = c ∷ [] })

abbrev m : TokenKind → Word
m kind = mark kind here

-- | T as often as that
abbrev bars : ℕ → List Word → List Word
bars zero ws = ws
bars (suc n) ws = m k.Or ∷ id 84 ∷ bars n ws

-- + T
abbrev left_over : List Word
left_over = m k.Add ∷ id 84 ∷ []

-- package p; type N [P *T | .. | T + T
abbrev text : ℕ → List Word
text n = m k.Package ∷ id 112 ∷ m k.Semi ∷ m k.Type ∷ id 78 ∷ m k.LBracket ∷ id 80 ∷ m k.Mul ∷ id 84 ∷ bars n left_over

fault_four : whole_file 2 (text 6) ≡ Err left_over
unfolding take_by eat expect expect_name chain_from chain parts_from parts more_parts named_type bracketed open_name param params results signature field struct_type interface_type bracket_type operand_type plain_type term union_from element maybe_type behind_type parenthesized_operand operand selected bounds indexed argument called suffixes primary prefixed unary_expr operations level elem braces readers specs farther type_params type_params_apart type_spec maybe_decl each_from each file
fault_four = refl

four_more : whole_file (2 + 4) (text 6) ≡ Err left_over
unfolding take_by eat expect expect_name chain_from chain parts_from parts more_parts named_type bracketed open_name param params results signature field struct_type interface_type bracket_type operand_type plain_type term union_from element maybe_type behind_type parenthesized_operand operand selected bounds indexed argument called suffixes primary prefixed unary_expr operations level elem braces readers specs farther type_params type_params_apart type_spec maybe_decl each_from each file
four_more = refl

-- where there is room for all of it
all_four : whole_file 10 (text 6) ≡ Err []
unfolding take_by eat expect expect_name chain_from chain parts_from parts more_parts named_type bracketed open_name param params results signature field struct_type interface_type bracket_type operand_type plain_type term union_from element maybe_type behind_type parenthesized_operand operand selected bounds indexed argument called suffixes primary prefixed unary_expr operations level elem braces readers specs farther type_params type_params_apart type_spec maybe_decl each_from each file
all_four = refl

fault_sixteen : whole_file 2 (text 18) ≡ Err left_over
unfolding take_by eat expect expect_name chain_from chain parts_from parts more_parts named_type bracketed open_name param params results signature field struct_type interface_type bracket_type operand_type plain_type term union_from element maybe_type behind_type parenthesized_operand operand selected bounds indexed argument called suffixes primary prefixed unary_expr operations level elem braces readers specs farther type_params type_params_apart type_spec maybe_decl each_from each file
fault_sixteen = refl

sixteen_more : whole_file (2 + 16) (text 18) ≡ Err left_over
unfolding take_by eat expect expect_name chain_from chain parts_from parts more_parts named_type bracketed open_name param params results signature field struct_type interface_type bracket_type operand_type plain_type term union_from element maybe_type behind_type parenthesized_operand operand selected bounds indexed argument called suffixes primary prefixed unary_expr operations level elem braces readers specs farther type_params type_params_apart type_spec maybe_decl each_from each file
sixteen_more = refl

all_sixteen : whole_file 22 (text 18) ≡ Err []
unfolding take_by eat expect expect_name chain_from chain parts_from parts more_parts named_type bracketed open_name param params results signature field struct_type interface_type bracket_type operand_type plain_type term union_from element maybe_type behind_type parenthesized_operand operand selected bounds indexed argument called suffixes primary prefixed unary_expr operations level elem braces readers specs farther type_params type_params_apart type_spec maybe_decl each_from each file
all_sixteen = refl

missed_by : (more n : ℕ) → whole_file 2 (text n) ≡ Err left_over → whole_file (2 + more) (text n) ≡ Err left_over → (other : ℕ) → whole_file other (text n) ≡ Err [] → Missed more
missed_by more n at again other all = record {
  room = 2;
  words = text n;
  rest = left_over;
  fault = at;
  no_farther = λ far. lt_irrefl _ (subst (λ (o : Outcome File). IsFarther o left_over) again far);
  deep = file_passes 2 (text n) left_over at other (subst (λ (o : Outcome File). IsFarther o left_over) (sym all) (omega arith));
}

-- four levels more do not show it
pub not_by_four : Missed 4
not_by_four = missed_by 4 6 fault_four four_more 10 all_four

-- nor do sixteen
pub not_by_sixteen : Missed 16
not_by_sixteen = missed_by 16 18 fault_sixteen sixteen_more 22 all_sixteen
