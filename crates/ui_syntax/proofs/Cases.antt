-- Short lists of words as they are read.
use Rattle.std.proofs.Common.{◌≡◌, ℕ, Bool, true, false, List, [], ◌∷◌, refl, codes, pos, Ok, Err}
use Rattle.std.specs.Prelude.{length}
use Rattle.ui_base.specs.declared.value.Value.TheVariants as value
use Rattle.ui_tree.specs.declared.part.LiteralKind.TheVariants.{Whole}
use Rattle.ui_base.specs.declared.value.Spot.{Spot}
use Rattle.ui_scan.specs.declared.kind.TokenKind.{TokenKind}
use Rattle.ui_scan.specs.declared.kind.TokenKind.TheVariants as k
use Rattle.ui_grammar.specs.Word.{Word, ident, lit, mark}
use Rattle.ui_parse.specs.Reader.{Outcome, take_by, eat, expect, expect_name, chain_from, chain, parts_from, parts, more_parts}
use Rattle.ui_syntax.specs.Types.{named_type, bracketed, open_name, param, params, results, signature, field, struct_type, interface_type, bracket_type, operand_type, plain_type, term, union_from, element, maybe_type}
use Rattle.ui_syntax.specs.Exprs.{behind_type, parenthesized_operand, operand, selected, bounds, indexed, argument, called, suffixes, primary, prefixed, unary_expr, operations, level, elem, braces}
use Rattle.ui_syntax.specs.Read.{readers, expr, type}

abbrev at : ℕ → Spot
at col = record { line = 1; col = col }

abbrev id : ℕ → List ℕ → Word
id col text = ident (record { spot = at col; text = text })

abbrev m : TokenKind → ℕ → Word
m kind col = mark kind (at col)

-- how many words are left: one more at a fault, behind a hundred
abbrev left : {A : Type 0} → Outcome A → Bool × ℕ
left (Ok p) = (true, length p.1)
left (Err ws) = (false, length ws)

-- a + b * c
pub case0 : left (expr 4 false (id 1 (codes "a") ∷ m k.Add 2 ∷ id 3 (codes "b") ∷ m k.Mul 4 ∷ id 5 (codes "c") ∷ [])) ≡ (true, 0)
unfolding take_by eat expect expect_name chain_from chain parts_from parts more_parts named_type bracketed open_name param params results signature field struct_type interface_type bracket_type operand_type plain_type term union_from element maybe_type behind_type parenthesized_operand operand selected bounds indexed argument called suffixes primary prefixed unary_expr operations level elem braces readers
case0 = refl

-- f([]T)
pub case1 : left (expr 6 false (id 1 (codes "f") ∷ m k.LParen 2 ∷ m k.LBracket 3 ∷ m k.RBracket 4 ∷ id 5 (codes "T") ∷ m k.RParen 6 ∷ [])) ≡ (true, 0)
unfolding take_by eat expect expect_name chain_from chain parts_from parts more_parts named_type bracketed open_name param params results signature field struct_type interface_type bracket_type operand_type plain_type term union_from element maybe_type behind_type parenthesized_operand operand selected bounds indexed argument called suffixes primary prefixed unary_expr operations level elem braces readers
case1 = refl

-- f([]T{})
pub case2 : left (expr 8 false (id 1 (codes "f") ∷ m k.LParen 2 ∷ m k.LBracket 3 ∷ m k.RBracket 4 ∷ id 5 (codes "T") ∷ m k.LBrace 6 ∷ m k.RBrace 7 ∷ m k.RParen 8 ∷ [])) ≡ (true, 0)
unfolding take_by eat expect expect_name chain_from chain parts_from parts more_parts named_type bracketed open_name param params results signature field struct_type interface_type bracket_type operand_type plain_type term union_from element maybe_type behind_type parenthesized_operand operand selected bounds indexed argument called suffixes primary prefixed unary_expr operations level elem braces readers
case2 = refl

-- (*[]T)(x)
pub case3 : left (expr 8 false (m k.LParen 1 ∷ m k.Mul 2 ∷ m k.LBracket 3 ∷ m k.RBracket 4 ∷ id 5 (codes "T") ∷ m k.RParen 6 ∷ m k.LParen 7 ∷ id 8 (codes "x") ∷ m k.RParen 9 ∷ [])) ≡ (true, 0)
unfolding take_by eat expect expect_name chain_from chain parts_from parts more_parts named_type bracketed open_name param params results signature field struct_type interface_type bracket_type operand_type plain_type term union_from element maybe_type behind_type parenthesized_operand operand selected bounds indexed argument called suffixes primary prefixed unary_expr operations level elem braces readers
case3 = refl

-- ([]T)
pub case4 : left (expr 8 false (m k.LParen 1 ∷ m k.LBracket 2 ∷ m k.RBracket 3 ∷ id 4 (codes "T") ∷ m k.RParen 5 ∷ [])) ≡ (false, 0)
unfolding take_by eat expect expect_name chain_from chain parts_from parts more_parts named_type bracketed open_name param params results signature field struct_type interface_type bracket_type operand_type plain_type term union_from element maybe_type behind_type parenthesized_operand operand selected bounds indexed argument called suffixes primary prefixed unary_expr operations level elem braces readers
case4 = refl

-- []T + 1
pub case5 : left (expr 8 false (m k.LBracket 1 ∷ m k.RBracket 2 ∷ id 3 (codes "T") ∷ m k.Add 4 ∷ lit Whole (at 5) (value.Whole (pos 1)) ∷ [])) ≡ (false, 2)
unfolding take_by eat expect expect_name chain_from chain parts_from parts more_parts named_type bracketed open_name param params results signature field struct_type interface_type bracket_type operand_type plain_type term union_from element maybe_type behind_type parenthesized_operand operand selected bounds indexed argument called suffixes primary prefixed unary_expr operations level elem braces readers
case5 = refl

-- func(A)(x)(y)
pub case6 : left (expr 8 false (m k.Func 1 ∷ m k.LParen 2 ∷ id 3 (codes "A") ∷ m k.RParen 4 ∷ m k.LParen 5 ∷ id 6 (codes "x") ∷ m k.RParen 7 ∷ m k.LParen 8 ∷ id 9 (codes "y") ∷ m k.RParen 10 ∷ [])) ≡ (true, 0)
unfolding take_by eat expect expect_name chain_from chain parts_from parts more_parts named_type bracketed open_name param params results signature field struct_type interface_type bracket_type operand_type plain_type term union_from element maybe_type behind_type parenthesized_operand operand selected bounds indexed argument called suffixes primary prefixed unary_expr operations level elem braces readers
case6 = refl

-- func(A)(x)
pub case7 : left (expr 8 false (m k.Func 1 ∷ m k.LParen 2 ∷ id 3 (codes "A") ∷ m k.RParen 4 ∷ m k.LParen 5 ∷ id 6 (codes "x") ∷ m k.RParen 7 ∷ [])) ≡ (false, 0)
unfolding take_by eat expect expect_name chain_from chain parts_from parts more_parts named_type bracketed open_name param params results signature field struct_type interface_type bracket_type operand_type plain_type term union_from element maybe_type behind_type parenthesized_operand operand selected bounds indexed argument called suffixes primary prefixed unary_expr operations level elem braces readers
case7 = refl

-- [...]T{1}
pub case8 : left (expr 8 false (m k.LBracket 1 ∷ m k.Ellipsis 2 ∷ m k.RBracket 3 ∷ id 4 (codes "T") ∷ m k.LBrace 5 ∷ lit Whole (at 6) (value.Whole (pos 1)) ∷ m k.RBrace 7 ∷ [])) ≡ (true, 0)
unfolding take_by eat expect expect_name chain_from chain parts_from parts more_parts named_type bracketed open_name param params results signature field struct_type interface_type bracket_type operand_type plain_type term union_from element maybe_type behind_type parenthesized_operand operand selected bounds indexed argument called suffixes primary prefixed unary_expr operations level elem braces readers
case8 = refl

-- f([...]T)
pub case9 : left (expr 8 false (id 1 (codes "f") ∷ m k.LParen 2 ∷ m k.LBracket 3 ∷ m k.Ellipsis 4 ∷ m k.RBracket 5 ∷ id 6 (codes "T") ∷ m k.RParen 7 ∷ [])) ≡ (false, 1)
unfolding take_by eat expect expect_name chain_from chain parts_from parts more_parts named_type bracketed open_name param params results signature field struct_type interface_type bracket_type operand_type plain_type term union_from element maybe_type behind_type parenthesized_operand operand selected bounds indexed argument called suffixes primary prefixed unary_expr operations level elem braces readers
case9 = refl

-- T{a: {b}, c,}
pub case10 : left (expr 8 false (id 1 (codes "T") ∷ m k.LBrace 2 ∷ id 3 (codes "a") ∷ m k.Colon 4 ∷ m k.LBrace 5 ∷ id 6 (codes "b") ∷ m k.RBrace 7 ∷ m k.Comma 8 ∷ id 9 (codes "c") ∷ m k.Comma 10 ∷ m k.RBrace 11 ∷ [])) ≡ (true, 0)
unfolding take_by eat expect expect_name chain_from chain parts_from parts more_parts named_type bracketed open_name param params results signature field struct_type interface_type bracket_type operand_type plain_type term union_from element maybe_type behind_type parenthesized_operand operand selected bounds indexed argument called suffixes primary prefixed unary_expr operations level elem braces readers
case10 = refl

-- f[T,]
pub case11 : left (expr 8 false (id 1 (codes "f") ∷ m k.LBracket 2 ∷ id 3 (codes "T") ∷ m k.Comma 4 ∷ m k.RBracket 5 ∷ [])) ≡ (true, 0)
unfolding take_by eat expect expect_name chain_from chain parts_from parts more_parts named_type bracketed open_name param params results signature field struct_type interface_type bracket_type operand_type plain_type term union_from element maybe_type behind_type parenthesized_operand operand selected bounds indexed argument called suffixes primary prefixed unary_expr operations level elem braces readers
case11 = refl

-- f[a:b:c](d)
pub case12 : left (expr 8 false (id 1 (codes "f") ∷ m k.LBracket 2 ∷ id 3 (codes "a") ∷ m k.Colon 4 ∷ id 5 (codes "b") ∷ m k.Colon 6 ∷ id 7 (codes "c") ∷ m k.RBracket 8 ∷ m k.LParen 9 ∷ id 10 (codes "d") ∷ m k.RParen 11 ∷ [])) ≡ (true, 0)
unfolding take_by eat expect expect_name chain_from chain parts_from parts more_parts named_type bracketed open_name param params results signature field struct_type interface_type bracket_type operand_type plain_type term union_from element maybe_type behind_type parenthesized_operand operand selected bounds indexed argument called suffixes primary prefixed unary_expr operations level elem braces readers
case12 = refl

-- f[a,[]b]{}
pub case13 : left (expr 8 false (id 1 (codes "f") ∷ m k.LBracket 2 ∷ id 3 (codes "a") ∷ m k.Comma 4 ∷ m k.LBracket 5 ∷ m k.RBracket 6 ∷ id 7 (codes "b") ∷ m k.RBracket 8 ∷ m k.LBrace 9 ∷ m k.RBrace 10 ∷ [])) ≡ (true, 0)
unfolding take_by eat expect expect_name chain_from chain parts_from parts more_parts named_type bracketed open_name param params results signature field struct_type interface_type bracket_type operand_type plain_type term union_from element maybe_type behind_type parenthesized_operand operand selected bounds indexed argument called suffixes primary prefixed unary_expr operations level elem braces readers
case13 = refl

-- a[1]{}
pub case14 : left (expr 8 false (id 1 (codes "a") ∷ m k.LBracket 2 ∷ lit Whole (at 3) (value.Whole (pos 1)) ∷ m k.RBracket 4 ∷ m k.LBrace 5 ∷ m k.RBrace 6 ∷ [])) ≡ (true, 2)
unfolding take_by eat expect expect_name chain_from chain parts_from parts more_parts named_type bracketed open_name param params results signature field struct_type interface_type bracket_type operand_type plain_type term union_from element maybe_type behind_type parenthesized_operand operand selected bounds indexed argument called suffixes primary prefixed unary_expr operations level elem braces readers
case14 = refl

-- x == T {
pub case15 : left (expr 8 true (id 1 (codes "x") ∷ m k.Equal 2 ∷ id 3 (codes "T") ∷ m k.LBrace 4 ∷ [])) ≡ (true, 1)
unfolding take_by eat expect expect_name chain_from chain parts_from parts more_parts named_type bracketed open_name param params results signature field struct_type interface_type bracket_type operand_type plain_type term union_from element maybe_type behind_type parenthesized_operand operand selected bounds indexed argument called suffixes primary prefixed unary_expr operations level elem braces readers
case15 = refl

-- x == []T {}
pub case16 : left (expr 8 true (id 1 (codes "x") ∷ m k.Equal 2 ∷ m k.LBracket 3 ∷ m k.RBracket 4 ∷ id 5 (codes "T") ∷ m k.LBrace 6 ∷ m k.RBrace 7 ∷ [])) ≡ (true, 0)
unfolding take_by eat expect expect_name chain_from chain parts_from parts more_parts named_type bracketed open_name param params results signature field struct_type interface_type bracket_type operand_type plain_type term union_from element maybe_type behind_type parenthesized_operand operand selected bounds indexed argument called suffixes primary prefixed unary_expr operations level elem braces readers
case16 = refl

-- a.b.c(x, y...)
pub case17 : left (expr 8 false (id 1 (codes "a") ∷ m k.Period 2 ∷ id 3 (codes "b") ∷ m k.Period 4 ∷ id 5 (codes "c") ∷ m k.LParen 6 ∷ id 7 (codes "x") ∷ m k.Comma 8 ∷ id 9 (codes "y") ∷ m k.Ellipsis 10 ∷ m k.RParen 11 ∷ [])) ≡ (true, 0)
unfolding take_by eat expect expect_name chain_from chain parts_from parts more_parts named_type bracketed open_name param params results signature field struct_type interface_type bracket_type operand_type plain_type term union_from element maybe_type behind_type parenthesized_operand operand selected bounds indexed argument called suffixes primary prefixed unary_expr operations level elem braces readers
case17 = refl

-- - x.y * !z || w
pub case18 : left (expr 8 false (m k.Sub 1 ∷ id 2 (codes "x") ∷ m k.Period 3 ∷ id 4 (codes "y") ∷ m k.Mul 5 ∷ m k.Not 6 ∷ id 7 (codes "z") ∷ m k.LogicalOr 8 ∷ id 9 (codes "w") ∷ [])) ≡ (true, 0)
unfolding take_by eat expect expect_name chain_from chain parts_from parts more_parts named_type bracketed open_name param params results signature field struct_type interface_type bracket_type operand_type plain_type term union_from element maybe_type behind_type parenthesized_operand operand selected bounds indexed argument called suffixes primary prefixed unary_expr operations level elem braces readers
case18 = refl

-- a + b + c
pub case19 : left (expr 2 false (id 1 (codes "a") ∷ m k.Add 2 ∷ id 3 (codes "b") ∷ m k.Add 4 ∷ id 5 (codes "c") ∷ [])) ≡ (true, 2)
unfolding take_by eat expect expect_name chain_from chain parts_from parts more_parts named_type bracketed open_name param params results signature field struct_type interface_type bracket_type operand_type plain_type term union_from element maybe_type behind_type parenthesized_operand operand selected bounds indexed argument called suffixes primary prefixed unary_expr operations level elem braces readers
case19 = refl

-- a + b * c * d
pub case20 : left (expr 3 false (id 1 (codes "a") ∷ m k.Add 2 ∷ id 3 (codes "b") ∷ m k.Mul 4 ∷ id 5 (codes "c") ∷ m k.Mul 6 ∷ id 7 (codes "d") ∷ [])) ≡ (true, 2)
unfolding take_by eat expect expect_name chain_from chain parts_from parts more_parts named_type bracketed open_name param params results signature field struct_type interface_type bracket_type operand_type plain_type term union_from element maybe_type behind_type parenthesized_operand operand selected bounds indexed argument called suffixes primary prefixed unary_expr operations level elem braces readers
case20 = refl

-- func(a, b T) (c, d)
pub case21 : left (type 6 (m k.Func 1 ∷ m k.LParen 2 ∷ id 3 (codes "a") ∷ m k.Comma 4 ∷ id 5 (codes "b") ∷ id 6 (codes "T") ∷ m k.RParen 7 ∷ m k.LParen 8 ∷ id 9 (codes "c") ∷ m k.Comma 10 ∷ id 11 (codes "d") ∷ m k.RParen 12 ∷ [])) ≡ (true, 0)
unfolding take_by eat expect expect_name chain_from chain parts_from parts more_parts named_type bracketed open_name param params results signature field struct_type interface_type bracket_type operand_type plain_type term union_from element maybe_type behind_type parenthesized_operand operand selected bounds indexed argument called suffixes primary prefixed unary_expr operations level elem braces readers
case21 = refl

-- func(a [n]T, b, c U)
pub case22 : left (type 6 (m k.Func 1 ∷ m k.LParen 2 ∷ id 3 (codes "a") ∷ m k.LBracket 4 ∷ id 5 (codes "n") ∷ m k.RBracket 6 ∷ id 7 (codes "T") ∷ m k.Comma 8 ∷ id 9 (codes "b") ∷ m k.Comma 10 ∷ id 11 (codes "c") ∷ id 12 (codes "U") ∷ m k.RParen 13 ∷ [])) ≡ (true, 0)
unfolding take_by eat expect expect_name chain_from chain parts_from parts more_parts named_type bracketed open_name param params results signature field struct_type interface_type bracket_type operand_type plain_type term union_from element maybe_type behind_type parenthesized_operand operand selected bounds indexed argument called suffixes primary prefixed unary_expr operations level elem braces readers
case22 = refl

-- func(a [n], b)
pub case23 : left (type 6 (m k.Func 1 ∷ m k.LParen 2 ∷ id 3 (codes "a") ∷ m k.LBracket 4 ∷ id 5 (codes "n") ∷ m k.RBracket 6 ∷ m k.Comma 7 ∷ id 8 (codes "b") ∷ m k.RParen 9 ∷ [])) ≡ (true, 0)
unfolding take_by eat expect expect_name chain_from chain parts_from parts more_parts named_type bracketed open_name param params results signature field struct_type interface_type bracket_type operand_type plain_type term union_from element maybe_type behind_type parenthesized_operand operand selected bounds indexed argument called suffixes primary prefixed unary_expr operations level elem braces readers
case23 = refl

-- func(a [n], b T)
pub case24 : left (type 6 (m k.Func 1 ∷ m k.LParen 2 ∷ id 3 (codes "a") ∷ m k.LBracket 4 ∷ id 5 (codes "n") ∷ m k.RBracket 6 ∷ m k.Comma 7 ∷ id 8 (codes "b") ∷ id 9 (codes "T") ∷ m k.RParen 10 ∷ [])) ≡ (false, 2)
unfolding take_by eat expect expect_name chain_from chain parts_from parts more_parts named_type bracketed open_name param params results signature field struct_type interface_type bracket_type operand_type plain_type term union_from element maybe_type behind_type parenthesized_operand operand selected bounds indexed argument called suffixes primary prefixed unary_expr operations level elem braces readers
case24 = refl

-- func(a T, b)
pub case25 : left (type 6 (m k.Func 1 ∷ m k.LParen 2 ∷ id 3 (codes "a") ∷ id 4 (codes "T") ∷ m k.Comma 5 ∷ id 6 (codes "b") ∷ m k.RParen 7 ∷ [])) ≡ (false, 1)
unfolding take_by eat expect expect_name chain_from chain parts_from parts more_parts named_type bracketed open_name param params results signature field struct_type interface_type bracket_type operand_type plain_type term union_from element maybe_type behind_type parenthesized_operand operand selected bounds indexed argument called suffixes primary prefixed unary_expr operations level elem braces readers
case25 = refl

-- func(a.b, c [2]d)
pub case26 : left (type 6 (m k.Func 1 ∷ m k.LParen 2 ∷ id 3 (codes "a") ∷ m k.Period 4 ∷ id 5 (codes "b") ∷ m k.Comma 6 ∷ id 7 (codes "c") ∷ m k.LBracket 8 ∷ lit Whole (at 9) (value.Whole (pos 2)) ∷ m k.RBracket 10 ∷ id 11 (codes "d") ∷ m k.RParen 12 ∷ [])) ≡ (false, 4)
unfolding take_by eat expect expect_name chain_from chain parts_from parts more_parts named_type bracketed open_name param params results signature field struct_type interface_type bracket_type operand_type plain_type term union_from element maybe_type behind_type parenthesized_operand operand selected bounds indexed argument called suffixes primary prefixed unary_expr operations level elem braces readers
case26 = refl

-- interface { M(A) B; ~int | string; N.P[Q] }
pub case27 : left (type 8 (m k.Interface 1 ∷ m k.LBrace 2 ∷ id 3 (codes "M") ∷ m k.LParen 4 ∷ id 5 (codes "A") ∷ m k.RParen 6 ∷ id 7 (codes "B") ∷ m k.Semi 8 ∷ m k.Tilde 9 ∷ id 10 (codes "int") ∷ m k.Or 11 ∷ id 12 (codes "string") ∷ m k.Semi 13 ∷ id 14 (codes "N") ∷ m k.Period 15 ∷ id 16 (codes "P") ∷ m k.LBracket 17 ∷ id 18 (codes "Q") ∷ m k.RBracket 19 ∷ m k.RBrace 20 ∷ [])) ≡ (true, 0)
unfolding take_by eat expect expect_name chain_from chain parts_from parts more_parts named_type bracketed open_name param params results signature field struct_type interface_type bracket_type operand_type plain_type term union_from element maybe_type behind_type parenthesized_operand operand selected bounds indexed argument called suffixes primary prefixed unary_expr operations level elem braces readers
case27 = refl

-- struct { a, b T; c []U }
pub case28 : left (type 6 (m k.Struct 1 ∷ m k.LBrace 2 ∷ id 3 (codes "a") ∷ m k.Comma 4 ∷ id 5 (codes "b") ∷ id 6 (codes "T") ∷ m k.Semi 7 ∷ id 8 (codes "c") ∷ m k.LBracket 9 ∷ m k.RBracket 10 ∷ id 11 (codes "U") ∷ m k.RBrace 12 ∷ [])) ≡ (true, 0)
unfolding take_by eat expect expect_name chain_from chain parts_from parts more_parts named_type bracketed open_name param params results signature field struct_type interface_type bracket_type operand_type plain_type term union_from element maybe_type behind_type parenthesized_operand operand selected bounds indexed argument called suffixes primary prefixed unary_expr operations level elem braces readers
case28 = refl

-- map[K]func()
pub case29 : left (type 6 (m k.Map 1 ∷ m k.LBracket 2 ∷ id 3 (codes "K") ∷ m k.RBracket 4 ∷ m k.Func 5 ∷ m k.LParen 6 ∷ m k.RParen 7 ∷ [])) ≡ (true, 0)
unfolding take_by eat expect expect_name chain_from chain parts_from parts more_parts named_type bracketed open_name param params results signature field struct_type interface_type bracket_type operand_type plain_type term union_from element maybe_type behind_type parenthesized_operand operand selected bounds indexed argument called suffixes primary prefixed unary_expr operations level elem braces readers
case29 = refl

-- func() func(A) *p.T[B, C,]
pub case30 : left (type 6 (m k.Func 1 ∷ m k.LParen 2 ∷ m k.RParen 3 ∷ m k.Func 4 ∷ m k.LParen 5 ∷ id 6 (codes "A") ∷ m k.RParen 7 ∷ m k.Mul 8 ∷ id 9 (codes "p") ∷ m k.Period 10 ∷ id 11 (codes "T") ∷ m k.LBracket 12 ∷ id 13 (codes "B") ∷ m k.Comma 14 ∷ id 15 (codes "C") ∷ m k.Comma 16 ∷ m k.RBracket 17 ∷ [])) ≡ (true, 0)
unfolding take_by eat expect expect_name chain_from chain parts_from parts more_parts named_type bracketed open_name param params results signature field struct_type interface_type bracket_type operand_type plain_type term union_from element maybe_type behind_type parenthesized_operand operand selected bounds indexed argument called suffixes primary prefixed unary_expr operations level elem braces readers
case30 = refl

-- p.T
pub case31 : left (type 1 (id 1 (codes "p") ∷ m k.Period 2 ∷ id 3 (codes "T") ∷ [])) ≡ (true, 2)
unfolding take_by eat expect expect_name chain_from chain parts_from parts more_parts named_type bracketed open_name param params results signature field struct_type interface_type bracket_type operand_type plain_type term union_from element maybe_type behind_type parenthesized_operand operand selected bounds indexed argument called suffixes primary prefixed unary_expr operations level elem braces readers
case31 = refl

-- p.T[A]
pub case32 : left (type 2 (id 1 (codes "p") ∷ m k.Period 2 ∷ id 3 (codes "T") ∷ m k.LBracket 4 ∷ id 5 (codes "A") ∷ m k.RBracket 6 ∷ [])) ≡ (true, 3)
unfolding take_by eat expect expect_name chain_from chain parts_from parts more_parts named_type bracketed open_name param params results signature field struct_type interface_type bracket_type operand_type plain_type term union_from element maybe_type behind_type parenthesized_operand operand selected bounds indexed argument called suffixes primary prefixed unary_expr operations level elem braces readers
case32 = refl
