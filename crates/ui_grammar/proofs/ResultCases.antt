-- `func(A)(a *b)`: a func type with a named result. Parentheses behind a signature are its results, so it is no conversion.
use Rattle.std.proofs.Common.{◌≡◌, ℕ, true, false, List, [], ◌∷◌, refl, inl, codes, lit≤}
use Rattle.std.specs.Prelude.{None}
use Rattle.ui_base.specs.declared.value.Spot.{Spot}
use Rattle.ui_base.specs.declared.kind.BinOp.TheVariants.{Mul as Times}
use Rattle.ui_scan.specs.declared.kind.TokenKind.{TokenKind}
use Rattle.ui_scan.specs.declared.kind.TokenKind.TheVariants as k
use Rattle.ui_tree.specs.declared.part.Placed.{Placed}
use Rattle.ui_tree.specs.Tree.{TypeTree, named, pointer, func, listed, no_args, groups_end, group_and, no_type, given_type, Tree, name, convert, binary, type_arg}
use Rattle.ui_grammar.specs.Word.{Word, ident, mark}
use Rattle.ui_grammar.specs.Fits.{argument, plain, Fits}
use Rattle.ui_grammar.specs.Parse.{HasExpr, depth_limit}

abbrev at : ℕ → Spot
at col = record { line = 1; col = col }

abbrev placed : ℕ → List ℕ → Placed
placed col text = record { spot = at col; text = text }

abbrev m : TokenKind → ℕ → Word
m kind col = mark kind (at col)

abbrev plain_name : ℕ → List ℕ → TypeTree
plain_name col text = named (placed col text) None no_args

abbrev both_words : List Word
both_words = m k.Func 1 ∷ m k.LParen 5 ∷ ident (placed 6 (codes "A")) ∷ m k.RParen 7 ∷ m k.LParen 8 ∷ ident (placed 9 (codes "a")) ∷ m k.Mul 11 ∷ ident (placed 12 (codes "b")) ∷ m k.RParen 13 ∷ []

abbrev as_type : Tree
as_type = type_arg (func (at 1) (group_and [] (plain_name 6 (codes "A")) groups_end) (given_type (listed (at 8) (group_and (placed 9 (codes "a") ∷ []) (pointer (at 11) (plain_name 12 (codes "b"))) groups_end))))

abbrev as_conversion : Tree
as_conversion = convert (at 1) (func (at 1) (group_and [] (plain_name 6 (codes "A")) groups_end) no_type) (binary (at 9) Times (name (placed 9 (codes "a"))) (name (placed 12 (codes "b"))))

pub is_a_type : HasExpr argument depth_limit both_words as_type
is_a_type = record {
  spells = (
    _,
    _,
    _,
    refl,
    record { spot = at 5; is = refl },
    (_, _, refl, (_, _, refl, refl, refl), inl (record { spot = at 7; is = refl })),
    (_, refl, (_, _, (_, refl, refl), (_, refl, (_, _, refl, refl, refl)), inl (record { spot = at 13; is = refl }))),
  );
  fits = (refl, refl, (refl, refl, ((refl, tt), tt), (refl, refl, ((refl, (refl, tt)), tt))));
  shallow = lit≤ tt;
}

pub is_no_conversion : Fits as_conversion plain → ⊥
is_no_conversion h = let both : true ≡ false = h.2 in absurd cc
