-- Trees that fit at one place fit at others; and none of them has the depth 0.
use Rattle.std.proofs.Common.{◌≡◌, ◌≤◌, true, false, List, Option, Some, None, refl, arith}
use Rattle.std.specs.Prelude.{◌||◌}
use Rattle.ui_base.specs.declared.value.Spot.{Spot}
use Rattle.ui_tree.specs.declared.part.Placed.{Placed}
use Rattle.ui_tree.specs.Tree.{TypeTree, named, parenthesized, pointer, slice, array, counted, mapping, func, listed, struct, interface, method, union, tilde, no_args, args, types_end, type_and, Groups, Tree, Trees, literal, name, paren, convert, composite, elided, keyed, instance, selector, assert, index, sliced, call, type_arg, unary, binary}
use Rattle.ui_grammar.specs.Word.{Word}
use Rattle.ui_grammar.specs.Spells.{SpellsType}
use Rattle.ui_grammar.specs.Fits.{Place, in_header, plain, argument, element, item, within, plain_type, of_literal, result, interface_element, term, name_depth, depth, type_depth, all_named, all_bare, Fits, FitsType, FitsTrees, FitsGroups}
use Rattle.ui_syntax.specs.Cover.{only_type, has_literals, is_counted, is_parenthesized}

-- ---- expressions

-- one that stands elsewhere stands as an argument, as an element and in one
pub fits_argument : (e : Tree) → Fits e plain → Fits e argument
fits_argument (elided s es) f = absurd cc
fits_argument (keyed s k e) f = absurd cc
fits_argument (type_arg t) f = absurd cc
fits_argument _ f = f

pub fits_element : (e : Tree) → Fits e plain → Fits e element
fits_element (elided s es) f = absurd cc
fits_element (keyed s k e) f = absurd cc
fits_element (type_arg t) f = absurd cc
fits_element _ f = f

pub fits_item : (e : Tree) → Fits e plain → Fits e item
fits_item (elided s es) f = absurd cc
fits_item (keyed s k e) f = absurd cc
fits_item (type_arg t) f = absurd cc
fits_item _ f = f

-- the other way round
pub plain_argument : (e : Tree) → only_type e ≡ None → Fits e argument → Fits e plain
plain_argument (elided s es) o f = absurd cc
plain_argument (keyed s k e) o f = absurd cc
plain_argument (type_arg t) o f = absurd cc
plain_argument _ o f = f

pub data ItemCase (e : Tree) : Type 0 where
  an_item : Fits e plain → ItemCase e
  in_braces : (s : Spot) (es : Trees) → e ≡ elided s es → FitsTrees es element → ItemCase e

pub item_case : (e : Tree) → Fits e item → ItemCase e
item_case (elided s es) f = in_braces s es refl f.1
item_case (keyed s k e) f = absurd cc
item_case (type_arg t) f = absurd cc
item_case _ f = an_item f

pub data ElementCase (e : Tree) : Type 0 where
  one_item : Fits e item → ElementCase e
  with_key : (s : Spot) (k i : Tree) → e ≡ keyed s k i → Fits k item → Fits i item → ElementCase e

pub element_case : (e : Tree) → Fits e element → ElementCase e
element_case (keyed s k i) f = with_key s k i refl f.1 f.2
element_case (elided s es) f = one_item (refl, f.1)
element_case (type_arg t) f = absurd cc
element_case _ f = one_item f

-- a type for itself is an argument alone
pub no_type : (e : Tree) (p : Place) → Fits e (within p) → only_type e ≡ None
no_type (type_arg t) p f = absurd (no_argument p f.0)
  where
    no_argument : (p : Place) → within p ≡ argument → ⊥
    no_argument in_header e = cc
    no_argument plain e = cc
    no_argument argument e = cc
    no_argument element e = cc
    no_argument item e = cc
no_type _ p f = refl

-- ---- types

pub fits_term : (t : TypeTree) → FitsType t plain_type → FitsType t term
fits_term (counted s t) f = absurd cc
fits_term (listed s gs) f = absurd cc
fits_term (method n gs r) f = absurd cc
fits_term (union s us) f = absurd cc
fits_term (tilde s t) f = absurd cc
fits_term _ f = f

pub fits_result : (t : TypeTree) → FitsType t plain_type → is_parenthesized t ≡ false → FitsType t result
fits_result (parenthesized s t) f e = absurd cc
fits_result (counted s t) f e = absurd cc
fits_result (listed s gs) f e = absurd cc
fits_result (method n gs r) f e = absurd cc
fits_result (union s us) f e = absurd cc
fits_result (tilde s t) f e = absurd cc
fits_result _ f e = f

-- what stands as a result
pub data ResultCase (t : TypeTree) : Type 0 where
  one_result : FitsType t plain_type → is_parenthesized t ≡ false → ResultCase t
  in_list : (s : Spot) (gs : Groups) → t ≡ listed s gs → ((all_named gs || all_bare gs) ≡ true) → FitsGroups gs plain_type → ResultCase t

pub result_case : (t : TypeTree) → FitsType t result → ResultCase t
result_case (listed s gs) f = in_list s gs refl f.1 f.2
result_case (parenthesized s t) f = absurd cc
result_case (counted s t) f = absurd cc
result_case (method n gs r) f = absurd cc
result_case (union s us) f = absurd cc
result_case (tilde s t) f = absurd cc
result_case _ f = one_result f refl

-- what stands as a term
pub data TermCase (t : TypeTree) : Type 0 where
  one_type : FitsType t plain_type → TermCase t
  with_tilde : (s : Spot) (u : TypeTree) → t ≡ tilde s u → FitsType u plain_type → TermCase t

pub term_case : (t : TypeTree) → FitsType t term → TermCase t
term_case (tilde s t) f = with_tilde s t refl f.1
term_case (counted s t) f = absurd cc
term_case (listed s gs) f = absurd cc
term_case (method n gs r) f = absurd cc
term_case (union s us) f = absurd cc
term_case _ f = one_type f

-- a type that a literal may have stands elsewhere too, but for `[...]T`
pub plain_of_literal : (t : TypeTree) → is_counted t ≡ false → FitsType t of_literal → FitsType t plain_type
plain_of_literal (named n m vs) e f = f
plain_of_literal (slice s t) e f = f
plain_of_literal (array s x t) e f = f
plain_of_literal (mapping s k t) e f = f
plain_of_literal (struct s gs) e f = f
plain_of_literal _ e f = absurd cc

pub literal_of_plain : (t : TypeTree) → has_literals t ≡ true → FitsType t plain_type → FitsType t of_literal
literal_of_plain (slice s t) e f = f
literal_of_plain (array s x t) e f = f
literal_of_plain (mapping s k t) e f = f
literal_of_plain (struct s gs) e f = f
literal_of_plain (counted s t) e f = absurd cc
literal_of_plain _ e f = absurd cc

-- ---- depths

pub name_positive : (m : Option Placed) → 1 ≤ name_depth m
name_positive None = omega arith
name_positive (Some p) = omega arith

pub type_positive : (t : TypeTree) → FitsType t plain_type → 1 ≤ type_depth t
type_positive (named n m no_args) f = name_positive m
type_positive (listed s gs) f = absurd cc
type_positive (union s us) f = absurd cc
type_positive (tilde s t) f = absurd cc
type_positive (named n m (args us)) f = omega arith
type_positive (parenthesized s t) f = omega arith
type_positive (pointer s t) f = omega arith
type_positive (slice s t) f = omega arith
type_positive (array s e t) f = omega arith
type_positive (counted s t) f = omega arith
type_positive (mapping s k t) f = omega arith
type_positive (func s gs r) f = omega arith
type_positive (struct s gs) f = omega arith
type_positive (interface s us) f = omega arith
type_positive (method n gs r) f = omega arith

pub literal_positive : (t : TypeTree) → FitsType t of_literal → 1 ≤ type_depth t
literal_positive (counted s t) f = omega arith
literal_positive (named n m vs) f = type_positive (named n m vs) f
literal_positive (slice s t) f = omega arith
literal_positive (array s e t) f = omega arith
literal_positive (mapping s k t) f = omega arith
literal_positive (struct s gs) f = omega arith
literal_positive _ f = absurd cc

pub term_positive : (t : TypeTree) → FitsType t term → 1 ≤ type_depth t
term_positive t f = by_case (term_case t f)
  where
    by_case : TermCase t → 1 ≤ type_depth t
    by_case (one_type g) = type_positive t g
    by_case (with_tilde s u e g) = rw e (type_positive u g)

-- a union has a term
pub element_positive : (t : TypeTree) (ts rest : List Word) → SpellsType t ts rest → FitsType t interface_element → 1 ≤ type_depth t
element_positive (named n m vs) ts rest s f = absurd cc
element_positive (method n gs r) ts rest s f = omega arith
element_positive (union x types_end) ts rest s f = absurd s.1
element_positive (union x (type_and t us)) ts rest s f = omega (arith, term_positive t f.1.0)
element_positive _ ts rest s f = absurd cc

pub depth_positive : (e : Tree) (p : Place) → Fits e p → 1 ≤ depth e
depth_positive (keyed s k e) p f = omega (arith, depth_positive k item f.1)
depth_positive (type_arg t) p f = type_positive t f.2
depth_positive (literal s k v) p f = omega arith
depth_positive (name n) p f = omega arith
depth_positive (paren s e) p f = omega arith
depth_positive (convert s t e) p f = omega arith
depth_positive (composite s t es) p f = omega arith
depth_positive (elided s es) p f = omega arith
depth_positive (instance s g us) p f = omega arith
depth_positive (selector s e n) p f = omega arith
depth_positive (assert s e t) p f = omega arith
depth_positive (index s e i) p f = omega arith
depth_positive (sliced s e l h m) p f = omega arith
depth_positive (call s g es spread) p f = omega arith
depth_positive (unary s o e) p f = omega arith
depth_positive (binary s o l r) p f = omega arith
