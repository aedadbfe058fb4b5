-- With which words forms begin.
use Rattle.std.proofs.Common.{◌≡◌, ◌⊎◌, inl, inr, Bool, true, false, List, [], ◌∷◌, Option, None, refl, sym, subst, ◌∙◌}
use Rattle.ui_base.specs.declared.value.Spot.{Spot}
use Rattle.ui_scan.specs.declared.kind.TokenKind.{TokenKind}
use Rattle.ui_scan.specs.declared.kind.TokenKind.TheVariants as kind
use Rattle.ui_tree.specs.Tree.{TypeTree, named, parenthesized, pointer, slice, array, counted, mapping, func, listed, struct, interface, method, union, tilde, types_end, type_and, Tree}
use Rattle.ui_grammar.specs.Word.{Word, ident, lit, mark, Begins}
use Rattle.ui_grammar.specs.Both.{is_expression}
use Rattle.ui_grammar.specs.Spells.{SpellsType, Spells}
use Rattle.ui_grammar.specs.Fits.{plain_type, of_literal, result, interface_element, term, is_named, FitsType}
use Rattle.ui_grammar.proofs.Frames.{fill, fill_type, begins_by}
use Rattle.ui_parse.specs.Kind.{is_kind}
use Rattle.ui_parse.proofs.SameKinds.{same_kind}
use Rattle.ui_parse.specs.Reader.{first, spot_if, marked, named as a_name}
use Rattle.ui_syntax.specs.Cover.{is_counted}
use Rattle.ui_syntax.specs.Exprs.{a_literal}
use Rattle.ui_syntax.proofs.ByBudget.{IsOperandType}
use Rattle.ui_syntax.proofs.Places.{TermCase, one_type, with_tilde, term_case}

-- ---- spots

pub begins_spelled : (e : Tree) (ts rest : List Word) → Spells e ts rest → (s : Spot) × Begins s ts
begins_spelled e ts rest s = begins_by (fill e ts rest s)

pub begins_spelled_type : (t : TypeTree) (ts rest : List Word) → SpellsType t ts rest → (s : Spot) × Begins s ts
begins_spelled_type t ts rest s = begins_by (fill_type t ts rest s)

-- words begin at one spot
pub same_spot : (s t : Spot) (ts : List Word) → Begins s ts → Begins t ts → s ≡ t
same_spot s t [] b c = absurd b
same_spot s t (w ∷ ws) b c = sym b ∙ c

-- ---- tests of the first word

-- there is a first word, and it passes
abbrev pub Starts : (Word → Bool) → List Word → Type 0
Starts test [] = ⊥
Starts test (w ∷ ws) = test w ≡ true

-- an operand's type
abbrev pub operand_mark : TokenKind → Bool
operand_mark kind.LBracket = true
operand_mark kind.Map = true
operand_mark kind.Func = true
operand_mark kind.Struct = true
operand_mark kind.Interface = true
operand_mark _ = false

abbrev pub type_mark : TokenKind → Bool
type_mark kind.LParen = true
type_mark kind.Mul = true
type_mark kind.LBracket = true
type_mark kind.Map = true
type_mark kind.Func = true
type_mark kind.Struct = true
type_mark kind.Interface = true
type_mark _ = false

abbrev pub term_mark : TokenKind → Bool
term_mark kind.Tilde = true
term_mark k = type_mark k

-- an expression without an operator
abbrev pub primary_mark : TokenKind → Bool
primary_mark kind.LParen = true
primary_mark kind.LBracket = true
primary_mark kind.Map = true
primary_mark kind.Func = true
primary_mark kind.Struct = true
primary_mark kind.Interface = true
primary_mark _ = false

-- an expression, or a literal without its type where braces are taken
abbrev pub tree_mark : Bool → TokenKind → Bool
tree_mark braces kind.LBrace = braces
tree_mark braces kind.Add = true
tree_mark braces kind.Sub = true
tree_mark braces kind.Not = true
tree_mark braces kind.Xor = true
tree_mark braces kind.Mul = true
tree_mark braces kind.And = true
tree_mark braces k = primary_mark k

abbrev pub only_mark : (TokenKind → Bool) → Word → Bool
only_mark test (ident p) = false
only_mark test (lit l s v) = false
only_mark test (mark k s) = test k

abbrev pub name_or : (TokenKind → Bool) → Word → Bool
name_or test (ident p) = true
name_or test (lit l s v) = false
name_or test (mark k s) = test k

abbrev pub word_or : (TokenKind → Bool) → Word → Bool
word_or test (ident p) = true
word_or test (lit l s v) = true
word_or test (mark k s) = test k

-- one test after the other
pub starts_as : (test other : Word → Bool) (ts : List Word) → ((w : Word) → test w ≡ true → other w ≡ true) → Starts test ts → Starts other ts
starts_as test other [] h s = s
starts_as test other (w ∷ ws) h s = h w s

-- what no such word passes
pub starts_no : {B : Type 0} (test : Word → Bool) (pass : Word → Option B) (ts : List Word) → ((w : Word) → test w ≡ true → pass w ≡ None) → Starts test ts → first pass ts ≡ None
starts_no test pass [] h s = absurd s
starts_no test pass (w ∷ ws) h s = h w s

other_mark : (test : Word → Bool) (k found : TokenKind) (s : Spot) (b : Bool) → test (mark k s) ≡ false → is_kind found k ≡ b → test (mark found s) ≡ true → spot_if b s ≡ None
other_mark test k found s false no_k e passes = refl
other_mark test k found s true no_k e passes =
    let at_k : test (mark k s) ≡ true = subst (λ (x : TokenKind). test (mark x s) ≡ true) (same_kind found k e) passes in
    absurd (clash (sym no_k ∙ at_k))
  where
    clash : false ≡ true → ⊥
    clash h = cc

-- no mark that does not pass
pub starts_other : (test : Word → Bool) (k : TokenKind) (ts : List Word) → ((s : Spot) → test (mark k s) ≡ false) → Starts test ts → first (marked k) ts ≡ None
starts_other test k ts no_k s = starts_no test (marked k) ts other s
  where
    other : (w : Word) → test w ≡ true → marked k w ≡ None
    other (ident p) h = refl
    other (lit l x v) h = refl
    other (mark found x) h = other_mark test k found x (is_kind found k) (no_k x) refl h

-- no name, where only marks pass
pub starts_no_name : (test : TokenKind → Bool) (ts : List Word) → Starts (only_mark test) ts → first a_name ts ≡ None
starts_no_name test ts s = starts_no (only_mark test) a_name ts other s
  where
    other : (w : Word) → only_mark test w ≡ true → a_name w ≡ None
    other (ident p) h = absurd cc
    other (lit l x v) h = refl
    other (mark found x) h = refl

pub starts_no_literal : (test : TokenKind → Bool) (ts : List Word) → Starts (name_or test) ts → first a_literal ts ≡ None
starts_no_literal test ts s = starts_no (name_or test) a_literal ts other s
  where
    other : (w : Word) → name_or test w ≡ true → a_literal w ≡ None
    other (ident p) h = refl
    other (lit l x v) h = absurd cc
    other (mark found x) h = refl

-- ---- types

-- at the first word
pub starts_at : (test : Word → Bool) (w : Word) (ts rest : List Word) → ts ≡ w ∷ rest → test w ≡ true → Starts test ts
starts_at test w ts rest e h = subst (Starts test) (sym e) h

-- other than a name
pub first_of_unnamed : (t : TypeTree) (ts rest : List Word) → is_named t ≡ false → SpellsType t ts rest → FitsType t plain_type → Starts (only_mark type_mark) ts
first_of_unnamed (parenthesized x t) ts rest e s f = starts_at (only_mark type_mark) (mark kind.LParen x) ts s.0 s.2 refl
first_of_unnamed (pointer x t) ts rest e s f = starts_at (only_mark type_mark) (mark kind.Mul x) ts s.0 s.1 refl
first_of_unnamed (slice x t) ts rest e s f = starts_at (only_mark type_mark) (mark kind.LBracket x) ts s.0 s.2 refl
first_of_unnamed (array x n t) ts rest e s f = starts_at (only_mark type_mark) (mark kind.LBracket x) ts s.0 s.3 refl
first_of_unnamed (mapping x k t) ts rest e s f = starts_at (only_mark type_mark) (mark kind.Map x) ts s.0 s.4 refl
first_of_unnamed (func x gs r) ts rest e s f = starts_at (only_mark type_mark) (mark kind.Func x) ts s.0 s.3 refl
first_of_unnamed (struct x gs) ts rest e s f = starts_at (only_mark type_mark) (mark kind.Struct x) ts s.0 s.2 refl
first_of_unnamed (interface x us) ts rest e s f = starts_at (only_mark type_mark) (mark kind.Interface x) ts s.0 s.2 refl
first_of_unnamed _ ts rest e s f = absurd cc

name_too : (test : TokenKind → Bool) (w : Word) → only_mark test w ≡ true → name_or test w ≡ true
name_too test (ident p) h = absurd cc
name_too test (lit l x v) h = absurd cc
name_too test (mark k x) h = h

pub first_of_type : (t : TypeTree) (ts rest : List Word) → SpellsType t ts rest → FitsType t plain_type → Starts (name_or type_mark) ts
first_of_type (named n m vs) ts rest s f = starts_at (name_or type_mark) (ident n) ts s.0 s.2 refl
first_of_type t ts rest s f = starts_as (only_mark type_mark) (name_or type_mark) ts (name_too type_mark) (first_of_unnamed t ts rest refl s f)

-- no expression
pub first_of_alone : (t : TypeTree) (ts rest : List Word) → is_expression t ≡ false → SpellsType t ts rest → FitsType t plain_type → Starts (only_mark type_mark) ts
first_of_alone (named n m vs) ts rest e s f = absurd cc
first_of_alone t ts rest e s f = first_of_unnamed t ts rest refl s f

operand_fits : (t : TypeTree) → is_counted t ≡ false → IsOperandType t → FitsType t plain_type
operand_fits t e i = by_case i.fits
  where
    by_case : FitsType t plain_type ⊎ ((is_counted t ≡ true) × FitsType t of_literal) → FitsType t plain_type
    by_case (inl f) = f
    by_case (inr f) = absurd (clash (sym e ∙ f.0))
      where
        clash : false ≡ true → ⊥
        clash h = cc

pub first_of_operand : (t : TypeTree) (ts rest : List Word) → SpellsType t ts rest → IsOperandType t → Starts (only_mark operand_mark) ts
first_of_operand (slice x t) ts rest s i = starts_at (only_mark operand_mark) (mark kind.LBracket x) ts s.0 s.2 refl
first_of_operand (array x n t) ts rest s i = starts_at (only_mark operand_mark) (mark kind.LBracket x) ts s.0 s.3 refl
first_of_operand (counted x t) ts rest s i = starts_at (only_mark operand_mark) (mark kind.LBracket x) ts s.0 s.3 refl
first_of_operand (mapping x k t) ts rest s i = starts_at (only_mark operand_mark) (mark kind.Map x) ts s.0 s.4 refl
first_of_operand (func x gs r) ts rest s i = starts_at (only_mark operand_mark) (mark kind.Func x) ts s.0 s.3 refl
first_of_operand (struct x gs) ts rest s i = starts_at (only_mark operand_mark) (mark kind.Struct x) ts s.0 s.2 refl
first_of_operand (interface x us) ts rest s i = starts_at (only_mark operand_mark) (mark kind.Interface x) ts s.0 s.2 refl
first_of_operand (named n m vs) ts rest s i = absurd (no_operand i.no_expression)
  where
    no_operand : true ≡ false → ⊥
    no_operand h = cc
first_of_operand (pointer x t) ts rest s i = absurd (no_operand i.no_pointer)
  where
    no_operand : true ≡ false → ⊥
    no_operand h = cc
first_of_operand (parenthesized x t) ts rest s i = absurd (no_operand i.no_parentheses)
  where
    no_operand : true ≡ false → ⊥
    no_operand h = cc
first_of_operand (listed x gs) ts rest s i = let f = operand_fits (listed x gs) refl i in absurd (nowhere f.0)
  where
    nowhere : plain_type ≡ result → ⊥
    nowhere h = cc
first_of_operand (method n gs r) ts rest s i = let f = operand_fits (method n gs r) refl i in absurd (nowhere f.0)
  where
    nowhere : plain_type ≡ interface_element → ⊥
    nowhere h = cc
first_of_operand (union x us) ts rest s i = let f = operand_fits (union x us) refl i in absurd (nowhere f.0)
  where
    nowhere : false ≡ true → ⊥
    nowhere h = cc
first_of_operand (tilde x t) ts rest s i = let f = operand_fits (tilde x t) refl i in absurd (nowhere f.0)
  where
    nowhere : plain_type ≡ term → ⊥
    nowhere h = cc

pub first_of_literal : (t : TypeTree) (ts rest : List Word) → SpellsType t ts rest → FitsType t of_literal → Starts (name_or operand_mark) ts
first_of_literal (named n m vs) ts rest s f = starts_at (name_or operand_mark) (ident n) ts s.0 s.2 refl
first_of_literal (slice x t) ts rest s f = starts_at (name_or operand_mark) (mark kind.LBracket x) ts s.0 s.2 refl
first_of_literal (array x n t) ts rest s f = starts_at (name_or operand_mark) (mark kind.LBracket x) ts s.0 s.3 refl
first_of_literal (counted x t) ts rest s f = starts_at (name_or operand_mark) (mark kind.LBracket x) ts s.0 s.3 refl
first_of_literal (mapping x k t) ts rest s f = starts_at (name_or operand_mark) (mark kind.Map x) ts s.0 s.4 refl
first_of_literal (struct x gs) ts rest s f = starts_at (name_or operand_mark) (mark kind.Struct x) ts s.0 s.2 refl
first_of_literal _ ts rest s f = absurd cc

or_tilde : (w : Word) → name_or type_mark w ≡ true → name_or term_mark w ≡ true
or_tilde (ident p) h = h
or_tilde (lit l x v) h = h
or_tilde (mark kind.Tilde x) h = refl
or_tilde (mark _ x) h = h

pub first_of_term : (t : TypeTree) (ts rest : List Word) → SpellsType t ts rest → FitsType t term → Starts (name_or term_mark) ts
first_of_term t ts rest s f = by_case (term_case t f)
  where
    by_case : TermCase t → Starts (name_or term_mark) ts
    by_case (one_type g) = starts_as (name_or type_mark) (name_or term_mark) ts or_tilde (first_of_type t ts rest s g)
    by_case (with_tilde x u e g) =
        let h : SpellsType (tilde x u) ts rest = subst (λ (v : TypeTree). SpellsType v ts rest) e s in
        starts_at (name_or term_mark) (mark kind.Tilde x) ts h.0 h.1 refl

pub first_of_element : (t : TypeTree) (ts rest : List Word) → SpellsType t ts rest → FitsType t interface_element → Starts (name_or term_mark) ts
first_of_element (method n gs r) ts rest s f = starts_at (name_or term_mark) (ident n) ts s.0 s.3 refl
first_of_element (union x types_end) ts rest s f = absurd s.1
first_of_element (union x (type_and t us)) ts rest s f = first_of_term t ts s.1.0 s.1.1 f.1.0
first_of_element _ ts rest s f = absurd cc
