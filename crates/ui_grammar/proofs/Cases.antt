-- Short lists of words with their trees.
use Rattle.std.proofs.Common.{ℕ, true, List, [], ◌∷◌, refl, inl, codes, pos, lit≤, lit<, arith}
use Rattle.ui_base.specs.declared.value.Spot.{Spot}
use Rattle.ui_base.specs.declared.value.Value.TheVariants as value
use Rattle.ui_base.specs.declared.kind.BinOp.TheVariants.{Add as Plus, Mul as Times, Equal as Equals}
use Rattle.ui_scan.specs.declared.kind.TokenKind.{TokenKind}
use Rattle.ui_scan.specs.declared.kind.TokenKind.TheVariants as k
use Rattle.ui_tree.specs.declared.part.Placed.{Placed}
use Rattle.ui_tree.specs.declared.part.LiteralKind.TheVariants.{Whole}
use Rattle.std.specs.Prelude.{None}
use Rattle.ui_tree.specs.Tree.{TypeTree, named, slice, func, listed, struct, no_args, groups_end, group_and, given_type, Tree, literal, name, paren, composite, call, binary, trees_end, tree_and}
use Rattle.ui_grammar.specs.Word.{Word, ident, lit, mark}
use Rattle.ui_grammar.specs.Fits.{plain, in_header, Fits}
use Rattle.ui_grammar.specs.Parse.{HasExpr, HasType, depth_limit}

-- words of one line, by their column
abbrev at : ℕ → Spot
at col = record { line = 1; col = col }

abbrev placed : ℕ → List ℕ → Placed
placed col text = record { spot = at col; text = text }

abbrev id : ℕ → List ℕ → Word
id col text = ident (placed col text)

abbrev m : TokenKind → ℕ → Word
m kind col = mark kind (at col)

abbrev number : ℕ → ℕ → Word
number col n = lit Whole (at col) (value.Whole (pos n))

abbrev numeral : ℕ → ℕ → Tree
numeral col n = literal (at col) Whole (value.Whole (pos n))

abbrev var : ℕ → List ℕ → Tree
var col text = name (placed col text)

abbrev plain_name : ℕ → List ℕ → TypeTree
plain_name col text = named (placed col text) None no_args

-- a + b * c
abbrev sum_words : List Word
sum_words = id 1 (codes "a") ∷ m k.Add 3 ∷ id 5 (codes "b") ∷ m k.Mul 7 ∷ id 9 (codes "c") ∷ []

abbrev sum_tree : Tree
sum_tree = binary (at 1) Plus (var 1 (codes "a")) (binary (at 5) Times (var 5 (codes "b")) (var 9 (codes "c")))

pub sum_has_tree : HasExpr plain depth_limit sum_words sum_tree
sum_has_tree = record {
  spells = (_, _, refl, refl, record { spot = at 3; is = refl }, (_, _, refl, refl, record { spot = at 7; is = refl }, refl));
  fits = (lit≤ tt, lit< tt, tt, (lit≤ tt, lit< tt, tt, tt));
  shallow = lit≤ tt;
}

-- (a + b) * c without the parentheses doesn't fit
pub sum_first_is_none : Fits (binary (at 1) Times (binary (at 1) Plus (var 1 (codes "a")) (var 5 (codes "b"))) (var 9 (codes "c"))) plain → ⊥
sum_first_is_none h = absurd (omega (arith, h.0))

-- f(x, y...)
abbrev spread_words : List Word
spread_words = id 1 (codes "f") ∷ m k.LParen 2 ∷ id 3 (codes "x") ∷ m k.Comma 4 ∷ id 6 (codes "y") ∷ m k.Ellipsis 7 ∷ m k.RParen 10 ∷ []

pub spread_has_tree : HasExpr plain depth_limit spread_words (call (at 1) (var 1 (codes "f")) (tree_and (var 3 (codes "x")) (tree_and (var 6 (codes "y")) trees_end)) true)
spread_has_tree = record {
  spells = (_, _, refl, refl, record { spot = at 2; is = refl }, (_, refl, (_, _, record { spot = at 4; is = refl }, refl, (_, record { spot = at 7; is = refl }, inl (record { spot = at 10; is = refl })))));
  fits = (refl, tt, (tt, (tt, tt)));
  shallow = lit≤ tt;
}

-- T{1}
abbrev literal_words : List Word
literal_words = id 1 (codes "T") ∷ m k.LBrace 2 ∷ number 3 1 ∷ m k.RBrace 4 ∷ []

abbrev literal_tree : Tree
literal_tree = composite (at 1) (plain_name 1 (codes "T")) (tree_and (numeral 3 1) trees_end)

pub literal_has_tree : HasExpr plain depth_limit literal_words literal_tree
literal_has_tree = record {
  spells = (_, _, refl, (_, _, refl, refl, refl), record { spot = at 2; is = refl }, (_, refl, (_, refl, inl (record { spot = at 4; is = refl }))));
  fits = (refl, (refl, tt), (tt, tt));
  shallow = lit≤ tt;
}

-- but not in a header
pub literal_not_in_header : Fits literal_tree in_header → ⊥
literal_not_in_header h = let e = h.0 in cc

-- []int{1}, in a header too
abbrev ints_words : List Word
ints_words = m k.LBracket 1 ∷ m k.RBracket 2 ∷ id 3 (codes "int") ∷ m k.LBrace 6 ∷ number 7 1 ∷ m k.RBrace 8 ∷ []

pub ints_has_tree : HasExpr in_header depth_limit ints_words (composite (at 1) (slice (at 1) (plain_name 3 (codes "int"))) (tree_and (numeral 7 1) trees_end))
ints_has_tree = record {
  spells = (_, _, refl, (_, _, refl, record { spot = at 2; is = refl }, (_, _, refl, refl, refl)), record { spot = at 6; is = refl }, (_, refl, (_, refl, inl (record { spot = at 8; is = refl }))));
  fits = (refl, (refl, (refl, tt)), (tt, tt));
  shallow = lit≤ tt;
}

-- x == (T{1}), in a header
abbrev test_words : List Word
test_words = id 1 (codes "x") ∷ m k.Equal 3 ∷ m k.LParen 6 ∷ id 7 (codes "T") ∷ m k.LBrace 8 ∷ number 9 1 ∷ m k.RBrace 10 ∷ m k.RParen 11 ∷ []

pub test_has_tree : HasExpr in_header depth_limit test_words (binary (at 1) Equals (var 1 (codes "x")) (paren (at 6) (composite (at 7) (plain_name 7 (codes "T")) (tree_and (numeral 9 1) trees_end))))
test_has_tree = record {
  spells = (_, _, refl, refl, record { spot = at 3; is = refl }, (_, _, refl, (_, _, refl, (_, _, refl, refl, refl), record { spot = at 8; is = refl }, (_, refl, (_, refl, inl (record { spot = at 10; is = refl })))), record { spot = at 11; is = refl }));
  fits = (lit≤ tt, lit< tt, tt, (refl, (refl, tt), (tt, tt)));
  shallow = lit≤ tt;
}

-- func(a, b int, c string) (int, error)
abbrev sig_words : List Word
sig_words = m k.Func 1 ∷ m k.LParen 5 ∷ id 6 (codes "a") ∷ m k.Comma 7 ∷ id 9 (codes "b") ∷ id 11 (codes "int") ∷ m k.Comma 14 ∷ id 16 (codes "c") ∷ id 18 (codes "string") ∷ m k.RParen 24 ∷ m k.LParen 26 ∷ id 27 (codes "int") ∷ m k.Comma 30 ∷ id 32 (codes "error") ∷ m k.RParen 37 ∷ []

abbrev sig_tree : TypeTree
sig_tree =
    func (at 1) (group_and (placed 6 (codes "a") ∷ placed 9 (codes "b") ∷ []) (plain_name 11 (codes "int")) (group_and (placed 16 (codes "c") ∷ []) (plain_name 18 (codes "string")) groups_end))
    (given_type (listed (at 26) (group_and [] (plain_name 27 (codes "int")) (group_and [] (plain_name 32 (codes "error")) groups_end))))

pub sig_has_tree : HasType depth_limit sig_words sig_tree
sig_has_tree = record {
  spells = (
    _,
    _,
    _,
    refl,
    record { spot = at 5; is = refl },
    (
      _,
      _,
      (_, refl, (_, _, record { spot = at 7; is = refl }, refl, refl)),
      (_, _, refl, refl, refl),
      (_, _, _, record { spot = at 14; is = refl }, (_, refl, refl), (_, _, refl, refl, refl), inl (record { spot = at 24; is = refl })),
    ),
    (_, refl, (_, _, refl, (_, _, refl, refl, refl), (_, _, _, record { spot = at 30; is = refl }, refl, (_, _, refl, refl, refl), inl (record { spot = at 37; is = refl })))),
  );
  fits = (refl, refl, ((refl, tt), ((refl, tt), tt)), (refl, refl, ((refl, tt), ((refl, tt), tt))));
  shallow = lit≤ tt;
}

-- struct { f, g int }
abbrev struct_words : List Word
struct_words = m k.Struct 1 ∷ m k.LBrace 8 ∷ id 10 (codes "f") ∷ m k.Comma 11 ∷ id 13 (codes "g") ∷ id 15 (codes "int") ∷ m k.RBrace 19 ∷ []

pub struct_has_tree : HasType depth_limit struct_words (struct (at 1) (group_and (placed 10 (codes "f") ∷ placed 13 (codes "g") ∷ []) (plain_name 15 (codes "int")) groups_end))
struct_has_tree = record {
  spells = (_, _, refl, record { spot = at 8; is = refl }, (_, _, (_, refl, (_, _, record { spot = at 11; is = refl }, refl, refl)), (_, _, refl, refl, refl), inl (record { spot = at 19; is = refl })));
  fits = (refl, refl, ((refl, tt), tt));
  shallow = lit≤ tt;
}
