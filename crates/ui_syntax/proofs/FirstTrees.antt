-- With which words expressions begin.
use Rattle.std.proofs.Common.{inl, ◌≡◌, ◌≤◌, Bool, true, false, List, Some, None, refl, sym, ap, subst, ◌∙◌, arith}
use Rattle.ui_base.specs.declared.kind.BinOp.{BinOp}
use Rattle.ui_base.specs.declared.kind.BinOp.TheVariants as op
use Rattle.ui_scan.specs.declared.kind.TokenKind.{TokenKind}
use Rattle.ui_scan.specs.declared.kind.TokenKind.TheVariants as kind
use Rattle.ui_tree.specs.declared.part.PrefixOp.{PrefixOp}
use Rattle.ui_tree.specs.declared.part.PrefixOp.TheVariants.{Plus, Minus, Not, Flip, Deref, Address}
use Rattle.ui_tree.specs.Tree.{TypeTree, parenthesized, Tree, literal, name, paren, convert, composite, elided, keyed, instance, selector, assert, index, sliced, call, type_arg, unary, binary}
use Rattle.ui_grammar.specs.Word.{Word, ident, lit, mark}
use Rattle.ui_grammar.specs.Both.{is_expression}
use Rattle.ui_grammar.specs.Operator.{level_of, prefix_mark_of, prefix_of}
use Rattle.ui_grammar.specs.Spells.{SpellsType, Spells}
use Rattle.ui_grammar.specs.Fits.{Place, in_header, plain, argument, element, item, within, takes_braces, plain_type, level, is_pointer, Fits, FitsType}
use Rattle.ui_parse.specs.Reader.{first}
use Rattle.ui_syntax.specs.Exprs.{a_prefix}
use Rattle.ui_syntax.proofs.Places.{no_type}
use Rattle.ui_syntax.proofs.FirstWords.{Starts, operand_mark, type_mark, primary_mark, tree_mark, only_mark, name_or, word_or, starts_as, starts_no, starts_at, first_of_literal, first_of_operand, first_of_type}

-- ---- one test within another

operand_primary : (w : Word) → only_mark operand_mark w ≡ true → word_or primary_mark w ≡ true
operand_primary (ident p) h = absurd cc
operand_primary (lit l x v) h = absurd cc
operand_primary (mark k x) h = in_primary k h
  where
    in_primary : (k : TokenKind) → operand_mark k ≡ true → primary_mark k ≡ true
    in_primary kind.LParen h = refl
    in_primary _ h = h

literal_primary : (w : Word) → name_or operand_mark w ≡ true → word_or primary_mark w ≡ true
literal_primary (ident p) h = refl
literal_primary (lit l x v) h = refl
literal_primary (mark k x) h = operand_primary (mark k x) h

marks_in_tree : (b : Bool) (test : TokenKind → Bool) → ((k : TokenKind) → test k ≡ true → tree_mark b k ≡ true) → (w : Word) → word_or test w ≡ true → word_or (tree_mark b) w ≡ true
marks_in_tree b test h (ident p) e = refl
marks_in_tree b test h (lit l x v) e = refl
marks_in_tree b test h (mark k x) e = h k e

primary_in_tree : (b : Bool) (k : TokenKind) → primary_mark k ≡ true → tree_mark b k ≡ true
primary_in_tree b kind.LBrace h = absurd cc
primary_in_tree b kind.Add h = refl
primary_in_tree b kind.Sub h = refl
primary_in_tree b kind.Not h = refl
primary_in_tree b kind.Xor h = refl
primary_in_tree b kind.Mul h = refl
primary_in_tree b kind.And h = refl
primary_in_tree b _ h = h

type_in_tree : (b : Bool) (k : TokenKind) → type_mark k ≡ true → tree_mark b k ≡ true
type_in_tree b kind.LBrace h = absurd cc
type_in_tree b kind.Add h = refl
type_in_tree b kind.Sub h = refl
type_in_tree b kind.Not h = refl
type_in_tree b kind.Xor h = refl
type_in_tree b kind.Mul h = refl
type_in_tree b kind.And h = refl
type_in_tree b _ h = h

-- braces that are not taken may be where they are
more_in_tree : (b : Bool) (k : TokenKind) → tree_mark false k ≡ true → tree_mark b k ≡ true
more_in_tree b kind.LBrace h = absurd cc
more_in_tree b _ h = h

name_in_tree : (b : Bool) (w : Word) → name_or type_mark w ≡ true → word_or (tree_mark b) w ≡ true
name_in_tree b (ident p) h = refl
name_in_tree b (lit l x v) h = refl
name_in_tree b (mark k x) h = type_in_tree b k h

-- no operator stands before an expression without one
pub no_prefix : (ts : List Word) → Starts (word_or primary_mark) ts → first a_prefix ts ≡ None
no_prefix ts s = starts_no (word_or primary_mark) a_prefix ts by_word s
  where
    by_kind : (k : TokenKind) → primary_mark k ≡ true → prefix_of k ≡ None
    by_kind kind.Add h = absurd cc
    by_kind kind.Sub h = absurd cc
    by_kind kind.Not h = absurd cc
    by_kind kind.Xor h = absurd cc
    by_kind kind.Mul h = absurd cc
    by_kind kind.And h = absurd cc
    by_kind _ h = refl

    by_word : (w : Word) → word_or primary_mark w ≡ true → a_prefix w ≡ None
    by_word (ident p) h = refl
    by_word (lit l x v) h = refl
    by_word (mark k x) h = rw (by_kind k h) refl

-- ---- places of parts that nothing encloses

within_braces : (p : Place) → takes_braces (within p) ≡ false
within_braces in_header = refl
within_braces plain = refl
within_braces argument = refl
within_braces element = refl
within_braces item = refl

no_braces : (p : Place) → takes_braces (within p) ≡ true → ⊥
no_braces p h = clash (sym (within_braces p) ∙ h)
  where
    clash : false ≡ true → ⊥
    clash h = cc

no_element : (p : Place) → within p ≡ element → ⊥
no_element p e = no_braces p (ap takes_braces e)

pub level_below : (o : BinOp) → level_of o ≤ 5
level_below op.LogicalOr = omega arith
level_below op.LogicalAnd = omega arith
level_below op.Equal = omega arith
level_below op.NotEqual = omega arith
level_below op.Less = omega arith
level_below op.LessEqual = omega arith
level_below op.Greater = omega arith
level_below op.GreaterEqual = omega arith
level_below _ = omega arith

-- ---- expressions

first_of_conversion : (t : TypeTree) (ts rest : List Word) → is_expression t ≡ false → is_pointer t ≡ false → SpellsType t ts rest → FitsType t plain_type → Starts (word_or primary_mark) ts
first_of_conversion (parenthesized x t) ts rest e p s f = starts_at (word_or primary_mark) (mark kind.LParen x) ts s.0 s.2 refl
first_of_conversion t ts rest e p s f = starts_as (only_mark operand_mark) (word_or primary_mark) ts operand_primary
    (first_of_operand t ts rest s (record { no_expression = e; no_pointer = p; no_parentheses = refl; fits = inl f }))

-- without an operator
pub first_of_primary : (e : Tree) (p : Place) (ts rest : List Word) → 7 ≤ level e → Spells e ts rest → Fits e (within p) → Starts (word_or primary_mark) ts
first_of_primary (literal x k v) p ts rest l s f = starts_at (word_or primary_mark) (lit k x v) ts rest s refl
first_of_primary (name n) p ts rest l s f = starts_at (word_or primary_mark) (ident n) ts rest s refl
first_of_primary (paren x e) p ts rest l s f = starts_at (word_or primary_mark) (mark kind.LParen x) ts s.0 s.2 refl
first_of_primary (convert x t e) p ts rest l s f = first_of_conversion t ts s.0 f.0 f.1 s.4 f.3
first_of_primary (composite x t es) p ts rest l s f = starts_as (name_or operand_mark) (word_or primary_mark) ts literal_primary (first_of_literal t ts s.0 s.3 f.1)
first_of_primary (elided x es) p ts rest l s f = absurd (no_braces p f.0)
first_of_primary (keyed x k e) p ts rest l s f = absurd (no_element p f.0)
first_of_primary (instance x g vs) p ts rest l s f = first_of_primary g (within p) ts s.0 (omega (arith, f.0)) s.3 f.1
first_of_primary (selector x g n) p ts rest l s f = first_of_primary g (within p) ts s.0 (omega (arith, f.0)) s.3 f.1
first_of_primary (assert x g t) p ts rest l s f = first_of_primary g (within p) ts s.0 (omega (arith, f.0)) s.5 f.1
first_of_primary (index x g i) p ts rest l s f = first_of_primary g (within p) ts s.0 (omega (arith, f.0)) s.4 f.1
first_of_primary (sliced x g low high most) p ts rest l s f = first_of_primary g (within p) ts s.0 (omega (arith, f.0)) s.7 f.1
first_of_primary (call x g es spread) p ts rest l s f = first_of_primary g (within p) ts s.0 (omega (arith, f.0)) s.3 f.1
first_of_primary (type_arg t) p ts rest l s f = absurd (is_none (no_type (type_arg t) p f))
  where
    is_none : Some t ≡ None → ⊥
    is_none e = cc
first_of_primary (unary x o e) p ts rest l s f = absurd (omega (arith, l))
first_of_primary (binary x o a b) p ts rest l s f = absurd (omega (arith, l, level_below o))

primary_first : (e : Tree) (p : Place) (b : Bool) (ts rest : List Word) → 7 ≤ level e → Spells e ts rest → Fits e (within p) → Starts (word_or (tree_mark b)) ts
primary_first e p b ts rest l s f = starts_as (word_or primary_mark) (word_or (tree_mark b)) ts (marks_in_tree b primary_mark (primary_in_tree b)) (first_of_primary e p ts rest l s f)

prefix_first : (b : Bool) (o : PrefixOp) → tree_mark b (prefix_mark_of o) ≡ true
prefix_first b Plus = refl
prefix_first b Minus = refl
prefix_first b Not = refl
prefix_first b Flip = refl
prefix_first b Deref = refl
prefix_first b Address = refl

tree_first : (e : Tree) (p : Place) (b : Bool) (ts rest : List Word) → takes_braces p ≡ b → Spells e ts rest → Fits e p → Starts (word_or (tree_mark b)) ts
tree_first (literal x k v) p b ts rest h s f = starts_at (word_or (tree_mark b)) (lit k x v) ts rest s refl
tree_first (name n) p b ts rest h s f = starts_at (word_or (tree_mark b)) (ident n) ts rest s refl
tree_first (paren x e) p b ts rest h s f = starts_at (word_or (tree_mark b)) (mark kind.LParen x) ts s.0 s.2 refl
tree_first (convert x t e) p b ts rest h s f = primary_first (convert x t e) plain b ts rest (omega arith) s f
tree_first (composite x t es) p b ts rest h s f = starts_as (name_or operand_mark) (word_or (tree_mark b)) ts (λ w e. marks_in_tree b primary_mark (primary_in_tree b) w (literal_primary w e)) (first_of_literal t ts s.0 s.3 f.1)
tree_first (elided x es) p b ts rest h s f = starts_at (word_or (tree_mark b)) (mark kind.LBrace x) ts s.0 s.1 (sym h ∙ f.0)
tree_first (keyed x k e) p b ts rest h s f =
    let all : true ≡ b = sym (ap takes_braces f.0) ∙ h in
    subst (λ (c : Bool). Starts (word_or (tree_mark c)) ts) all (tree_first k item true ts s.0 refl s.3 f.1)
tree_first (instance x g vs) p b ts rest h s f = primary_first g p b ts s.0 (omega (arith, f.0)) s.3 f.1
tree_first (selector x g n) p b ts rest h s f = primary_first g p b ts s.0 (omega (arith, f.0)) s.3 f.1
tree_first (assert x g t) p b ts rest h s f = primary_first g p b ts s.0 (omega (arith, f.0)) s.5 f.1
tree_first (index x g i) p b ts rest h s f = primary_first g p b ts s.0 (omega (arith, f.0)) s.4 f.1
tree_first (sliced x g low high most) p b ts rest h s f = primary_first g p b ts s.0 (omega (arith, f.0)) s.7 f.1
tree_first (call x g es spread) p b ts rest h s f = primary_first g p b ts s.0 (omega (arith, f.0)) s.3 f.1
tree_first (type_arg t) p b ts rest h s f = starts_as (name_or type_mark) (word_or (tree_mark b)) ts (name_in_tree b) (first_of_type t ts rest s f.2)
tree_first (unary x o e) p b ts rest h s f = starts_at (word_or (tree_mark b)) (mark (prefix_mark_of o) x) ts s.0 s.1 (prefix_first b o)
tree_first (binary x o l r) p b ts rest h s f = starts_as (word_or (tree_mark false)) (word_or (tree_mark b)) ts (marks_in_tree b (tree_mark false) (more_in_tree b)) (tree_first l (within p) false ts s.0 (within_braces p) s.3 f.2)

-- any expression, by what its place takes
pub first_of_tree : (e : Tree) (p : Place) (ts rest : List Word) → Spells e ts rest → Fits e p → Starts (word_or (tree_mark (takes_braces p))) ts
first_of_tree e p ts rest s f = tree_first e p (takes_braces p) ts rest refl s f
