-- A text that is an expression and a type: each tree from the other.
use Rattle.std.proofs.Common.{◌≡◌, inl, inr, suc, ◌≤◌, Bool, true, false, List, ◌∷◌, Option, Some, None, refl, sym, ap, subst, ◌∙◌, arith}
use Rattle.std.proofs.Math.Nat.{max-zero}
use Rattle.ui_base.specs.declared.value.Spot.{Spot}
use Rattle.ui_scan.specs.declared.kind.TokenKind.TheVariants.{RBracket, LBracket, Comma}
use Rattle.ui_tree.specs.declared.part.Placed.{Placed}
use Rattle.ui_tree.specs.declared.part.PrefixOp.{PrefixOp}
use Rattle.ui_tree.specs.declared.part.PrefixOp.TheVariants.{Deref}
use Rattle.ui_tree.specs.Tree.{TypeTree, named, parenthesized, pointer, Args, no_args, args, Types, types_end, type_and, Tree, name, paren, instance, selector, index, type_arg, unary}
use Rattle.ui_grammar.specs.Word.{Word, ident, Named, Mark, Begins, Closes}
use Rattle.ui_grammar.specs.Both.{is_expression}
use Rattle.ui_grammar.specs.Spells.{Member, Spells, SpellsType, SpellsSomeTypes, SpellsTypesTail, SpellsInstance, SpellsInstanceTail}
use Rattle.ui_grammar.specs.Fits.{Place, plain, argument, within, plain_type, of_literal, level, is_named, name_depth, depth, type_depth, Fits, FitsType, FitsTypes}
use Rattle.ui_syntax.specs.Cover.{TypeName, only_type, member_of, name_of, with_args, without_args, one_type, pointed, enclosed, as_type, if_named}

-- ---- names of types

-- the tree is this name of a type
pub record IsName (f : Tree) (n : TypeName) : Type 0 where
  pub level : level f ≡ 7
  pub sized : depth f ≡ name_depth n.1
  pub fits : (p : Place) → Fits f p
  pub spelled : (ts rest : List Word) → Spells f ts rest → (a : List Word) × Named n.0 ts a × Member n.1 a rest

member_is : (s : Spot) (f : Tree) (m : Placed) (n : TypeName) → member_of f m ≡ Some n → IsName (selector s f m) n
member_is s (name p) m n e =
    let same : (p, Some m) ≡ n = cc in
    subst (IsName (selector s (name p) m)) same (record { level = refl; sized = refl; fits = λ q. (refl, tt); spelled = λ ts rest h. (h.0, h.3, (h.1, h.4, h.5)) })
member_is s _ m n e = absurd cc

pub name_is : (f : Tree) (n : TypeName) → name_of f ≡ Some n → IsName f n
name_is (name p) n e =
    let same : (p, None) ≡ n = cc in
    subst (IsName (name p)) same (record { level = refl; sized = refl; fits = λ q. tt; spelled = λ ts rest h. (rest, h, refl) })
name_is (selector s f m) n e = member_is s f m n e
name_is _ n e = absurd cc

-- ---- what the type of a tree is made of

some_is : {A : Type 0} (x y : A) → Some x ≡ Some y → x ≡ y
some_is x y e = cc

without_is : (x : Option TypeName) (t : TypeTree) → without_args x ≡ Some t → (n : TypeName) × (x ≡ Some n) × (named n.0 n.1 no_args ≡ t)
without_is None t e = absurd cc
without_is (Some n) t e = (n, refl, some_is _ _ e)

with_is : (x : Option TypeName) (y : Option Types) (t : TypeTree) → with_args x y ≡ Some t → (n : TypeName) × (vs : Types) × (x ≡ Some n) × (y ≡ Some vs) × (named n.0 n.1 (args vs) ≡ t)
with_is None y t e = absurd cc
with_is (Some n) None t e = absurd cc
with_is (Some n) (Some vs) t e = (n, vs, refl, refl, some_is _ _ e)

one_is : (x : Option TypeTree) (vs : Types) → one_type x ≡ Some vs → (t : TypeTree) × (x ≡ Some t) × (type_and t types_end ≡ vs)
one_is None vs e = absurd cc
one_is (Some t) vs e = (t, refl, some_is _ _ e)

enclosed_is : (s : Spot) (x : Option TypeTree) (t : TypeTree) → enclosed s x ≡ Some t → (u : TypeTree) × (x ≡ Some u) × (parenthesized s u ≡ t)
enclosed_is s None t e = absurd cc
enclosed_is s (Some u) t e = (u, refl, some_is _ _ e)

pointed_is : (o : PrefixOp) (s : Spot) (x : Option TypeTree) (t : TypeTree) → pointed o s x ≡ Some t → (u : TypeTree) × (o ≡ Deref) × (x ≡ Some u) × (pointer s u ≡ t)
pointed_is Deref s None t e = absurd cc
pointed_is Deref s (Some u) t e = (u, refl, refl, some_is _ _ e)
pointed_is _ s x t e = absurd cc

-- ---- the type of a tree

-- the type has the tree's text and depth
abbrev pub IsTypeOf : Tree → TypeTree → List Word → List Word → Type 0
IsTypeOf e t ts rest = (SpellsType t ts rest) × (FitsType t plain_type) × (is_expression t ≡ true) × (type_depth t ≡ depth e)

type_of_name : (f : Tree) (t : TypeTree) (ts rest : List Word) → without_args (name_of f) ≡ Some t → Spells f ts rest → IsTypeOf f t ts rest
type_of_name f t ts rest e s =
    let x = without_is (name_of f) t e in
    let is = name_is f x.0 x.1 in
    let h = is.spelled ts rest s in
    subst (λ (u : TypeTree). IsTypeOf f u ts rest) x.2 ((h.0, rest, h.1, h.2, refl), (refl, tt), refl, sym is.sized)

all_types : (b : Bool) (vs : Types) (ts rest : List Word) → SpellsInstanceTail b vs ts rest → SpellsTypesTail Comma RBracket vs ts rest
all_types true types_end ts rest s = inr s
all_types false types_end ts rest s = s
all_types true (type_and t vs) ts rest s = s
all_types false (type_and t vs) ts rest s = s

pub some_types : (vs : Types) (ts rest : List Word) → SpellsInstance vs ts rest → SpellsSomeTypes vs ts rest
some_types types_end ts rest s = s
some_types (type_and t vs) ts rest s = (s.0, s.1, all_types (is_expression t) vs s.0 rest s.2)

type_of_args : (f : Tree) (n : TypeName) (vs : Types) (ts b c rest : List Word) → name_of f ≡ Some n → Spells f ts b → Mark LBracket b c → SpellsSomeTypes vs c rest → SpellsType (named n.0 n.1 (args vs)) ts rest
type_of_args f n vs ts b c rest e s m h =
    let k = (name_is f n e).spelled ts b s in
    (k.0, b, k.1, k.2, (c, m, h))

pub type_of_tree : (e : Tree) (t : TypeTree) (ts rest : List Word) → as_type e ≡ Some t → Spells e ts rest → Fits e plain → (SpellsType t ts rest) × (FitsType t plain_type) × (is_expression t ≡ true) × (type_depth t ≡ depth e)
type_of_tree (name n) t ts rest e s f = type_of_name (name n) t ts rest e s
type_of_tree (selector x g m) t ts rest e s f = type_of_name (selector x g m) t ts rest e s
type_of_tree (index x g i) t ts rest e s f =
    let w = with_is (name_of g) (one_type (as_type i)) t e in
    let o = one_is (as_type i) w.1 w.3 in
    let h = type_of_tree i o.0 s.1 s.2 o.1 s.6 f.2 in
    let is = name_is g w.0 w.2 in
    let same : named w.0.0 w.0.1 (args (type_and o.0 types_end)) ≡ t = ap (λ (vs : Types). named w.0.0 w.0.1 (args vs)) o.2 ∙ w.4 in
    subst (λ (u : TypeTree). IsTypeOf (index x g i) u ts rest) same (
      type_of_args g w.0 (type_and o.0 types_end) ts s.0 s.1 rest w.2 s.4 s.5 (s.2, h.0, inl s.7),
      (refl, (h.1, tt)),
      refl,
      ap suc (rw (is.sized, max-zero (type_depth o.0), h.3) refl),
    )
type_of_tree (instance x g vs) t ts rest e s f =
    let w = with_is (name_of g) (Some vs) t e in
    let is = name_is g w.0 w.2 in
    let same : named w.0.0 w.0.1 (args vs) ≡ t = ap (λ (us : Types). named w.0.0 w.0.1 (args us)) (some_is vs w.1 w.3) ∙ w.4 in
    subst (λ (u : TypeTree). IsTypeOf (instance x g vs) u ts rest) same
    (type_of_args g w.0 vs ts s.0 s.1 rest w.2 s.3 s.4 (some_types vs s.1 rest s.5), (refl, f.2), refl, ap suc (rw is.sized refl))
type_of_tree (paren x g) t ts rest e s f =
    let w = enclosed_is x (as_type g) t e in
    let h = type_of_tree g w.0 s.0 s.1 w.1 s.3 f in
    subst (λ (u : TypeTree). IsTypeOf (paren x g) u ts rest) w.2 ((s.0, s.1, s.2, h.0, s.4), (refl, h.1), h.2, ap suc h.3)
type_of_tree (unary x o g) t ts rest e s f =
    let w = pointed_is o x (as_type g) t e in
    let from : Spells (unary x Deref g) ts rest = subst (λ (p : PrefixOp). Spells (unary x p g) ts rest) w.1 s in
    let h = type_of_tree g w.0 from.0 rest w.2 from.2 f.1 in
    subst (λ (u : TypeTree). IsTypeOf (unary x o g) u ts rest) w.3 ((from.0, from.1, h.0), (refl, h.1), h.2, ap suc h.3)
type_of_tree (type_arg u) t ts rest e s f = absurd (elsewhere f.0)
  where
    elsewhere : plain ≡ argument → ⊥
    elsewhere e = cc
type_of_tree _ t ts rest e s f = absurd cc

-- ---- the tree of a type

abbrev pub name_tree : Placed → Option Placed → Tree
name_tree n None = name n
name_tree n (Some m) = selector n.spot (name n) m

-- what holds of a type's name as a tree
pub record IsNamed (n : Placed) (m : Option Placed) (ts b : List Word) : Type 0 where
  pub spells : Spells (name_tree n m) ts b
  pub begins : Begins n.spot ts
  pub name : name_of (name_tree n m) ≡ Some (n, m)
  pub as_type : as_type (name_tree n m) ≡ Some (named n m no_args)
  pub only : only_type (name_tree n m) ≡ None
  pub level : level (name_tree n m) ≡ 7
  pub sized : depth (name_tree n m) ≡ name_depth m
  pub fits : (p : Place) → Fits (name_tree n m) p

pub named_tree : (n : Placed) (m : Option Placed) (ts a b : List Word) → Named n ts a → Member m a b → IsNamed n m ts b
named_tree n None ts a b s h = record {
  spells = s ∙ ap (λ (v : List Word). ident n ∷ v) h;
  begins = subst (Begins n.spot) (sym s) refl;
  name = refl;
  as_type = refl;
  only = refl;
  level = refl;
  sized = refl;
  fits = λ p. tt;
}
named_tree n (Some m) ts a b s h = record {
  spells = (a, h.0, subst (Begins n.spot) (sym s) refl, s, h.1, h.2);
  begins = subst (Begins n.spot) (sym s) refl;
  name = refl;
  as_type = refl;
  only = refl;
  level = refl;
  sized = refl;
  fits = λ p. (refl, tt);
}

-- the tree has the type's text and depth
abbrev pub IsTreeOf : TypeTree → List Word → List Word → Type 0
IsTreeOf t ts rest = (e : Tree) × (Spells e ts rest) × (Fits e plain) × (as_type e ≡ Some t) × (depth e ≡ type_depth t) × (only_type e ≡ None) × (6 ≤ level e)

tree_of_name : (n : Placed) (m : Option Placed) (ts a b rest : List Word) → Named n ts a → Member m a b → b ≡ rest → IsTreeOf (named n m no_args) ts rest
tree_of_name n m ts a b rest s h e =
    let is = named_tree n m ts a b s h in
    (name_tree n m, subst (λ (v : List Word). Spells (name_tree n m) ts v) e is.spells, is.fits plain, is.as_type, is.sized, is.only, rw is.level (omega arith))

module _ (n : Placed) (m : Option Placed) (ts a b c rest : List Word) (s : Named n ts a) (h : Member m a b) (k : Mark LBracket b c) where
  tree_of_instance : (vs : Types) → FitsTypes vs plain_type → SpellsInstance vs c rest → IsTreeOf (named n m (args vs)) ts rest
  tree_of_instance vs f i =
      let is = named_tree n m ts a b s h in
      (instance n.spot (name_tree n m) vs, (b, c, is.begins, is.spells, k, i), (is.level, is.fits plain, f), rw is.name refl, rw is.sized refl, refl, omega arith)

  tree_of_index : (t : TypeTree) (d : List Word) → IsTreeOf t c d → Mark RBracket d rest → IsTreeOf (named n m (args (type_and t types_end))) ts rest
  tree_of_index t d i close =
      let is = named_tree n m ts a b s h in
      (index n.spot (name_tree n m) i.0, (b, c, d, is.begins, is.spells, k, i.1, close), (is.level, is.fits plain, i.2), rw (is.name, i.3) refl, rw (is.sized, i.4, max-zero (type_depth t)) refl, refl, omega arith)

  -- one type
  tree_of_one : (t : TypeTree) (d : List Word) (b : Bool) → is_expression t ≡ b → SpellsType t c d → FitsType t plain_type → (b ≡ true → IsTreeOf t c d) → Closes Comma RBracket d rest
      → IsTreeOf (named n m (args (type_and t types_end))) ts rest
  tree_of_one t d true e s f tree (inl close) = tree_of_index t d (tree refl) close
  tree_of_one t d true e s f tree (inr closes) = tree_of_instance (type_and t types_end) (f, tt) (d, s, subst (λ (x : Bool). SpellsInstanceTail x types_end d rest) (sym e) closes)
  tree_of_one t d false e s f tree closes = tree_of_instance (type_and t types_end) (f, tt) (d, s, subst (λ (x : Bool). SpellsInstanceTail x types_end d rest) (sym e) closes)

more_types : (b : Bool) (t : TypeTree) (vs : Types) (ts rest : List Word) → SpellsTypesTail Comma RBracket (type_and t vs) ts rest → SpellsInstanceTail b (type_and t vs) ts rest
more_types true t vs ts rest s = s
more_types false t vs ts rest s = s

pub tree_of_type : (t : TypeTree) (ts rest : List Word) → is_expression t ≡ true → SpellsType t ts rest → FitsType t plain_type
    → (e : Tree) × (Spells e ts rest) × (Fits e plain) × (as_type e ≡ Some t) × (depth e ≡ type_depth t) × (only_type e ≡ None) × (6 ≤ level e)
tree_of_type (named n m no_args) ts rest x s f = tree_of_name n m ts s.0 s.1 rest s.2 s.3 s.4
tree_of_type (named n m (args types_end)) ts rest x s f = absurd s.4.2
tree_of_type (named n m (args (type_and t types_end))) ts rest x s f =
    let k = s.4 in
    tree_of_one n m ts s.0 s.1 k.0 rest s.2 s.3 k.1 t k.2.0 (is_expression t) refl k.2.1 f.1.0 (λ e. tree_of_type t k.0 k.2.0 e k.2.1 f.1.0) k.2.2
tree_of_type (named n m (args (type_and t (type_and u vs)))) ts rest x s f =
    let k = s.4 in
    tree_of_instance n m ts s.0 s.1 k.0 rest s.2 s.3 k.1 (type_and t (type_and u vs)) f.1 (k.2.0, k.2.1, more_types (is_expression t) u vs k.2.0 rest k.2.2)
tree_of_type (parenthesized p t) ts rest x s f =
    let h = tree_of_type t s.0 s.1 x s.3 f.1 in
    (paren p h.0, (s.0, s.1, s.2, h.1, s.4), h.2, rw h.3 refl, ap suc h.4, refl, omega arith)
tree_of_type (pointer p t) ts rest x s f =
    let h = tree_of_type t s.0 rest x s.2 f.1 in
    (unary p Deref h.0, (s.0, s.1, h.1), (h.6, h.2), rw h.3 refl, ap suc h.4, refl, omega arith)
tree_of_type _ ts rest x s f = absurd cc

-- ---- a type's name with braces behind it

named_is : (x : Option TypeTree) (t : TypeTree) → if_named x ≡ Some t → (x ≡ Some t) × (is_named t ≡ true)
named_is None t e = absurd cc
named_is (Some (named n m vs)) t e = (e, subst (λ (u : TypeTree). is_named u ≡ true) (some_is (named n m vs) t e) refl)
named_is (Some _) t e = absurd cc

-- a tree that is a type's name, with arguments or without
pub record IsNamedTree (e : Tree) (t : TypeTree) (ts rest : List Word) : Type 0 where
  pub as_type : as_type e ≡ Some t
  pub name : is_named t ≡ true
  pub only : only_type e ≡ None
  pub level : level e ≡ 7
  pub fits : (p : Place) → Fits e p
  pub spells : SpellsType t ts rest
  pub plain : FitsType t plain_type
  pub literal : FitsType t of_literal
  pub sized : type_depth t ≡ depth e

literal_name : (t : TypeTree) → is_named t ≡ true → FitsType t plain_type → FitsType t of_literal
literal_name (named n m vs) e f = (refl, f.1)
literal_name _ e f = absurd cc

named_everywhere : (e : Tree) (t : TypeTree) → as_type e ≡ Some t → is_named t ≡ true → Fits e plain → (level e ≡ 7) × (only_type e ≡ None) × ((p : Place) → Fits e p)
named_everywhere (name n) t e i f = (refl, refl, λ p. tt)
named_everywhere (selector x g m) t e i f =
    let is = name_is (selector x g m) (without_is (member_of g m) t e).0 (without_is (member_of g m) t e).1 in
    (refl, refl, is.fits)
named_everywhere (index x g j) t e i f =
    let w = with_is (name_of g) (one_type (as_type j)) t e in
    let is = name_is g w.0 w.2 in
    (refl, refl, λ p. (is.level, is.fits (within p), f.2))
named_everywhere (instance x g vs) t e i f =
    let w = with_is (name_of g) (Some vs) t e in
    let is = name_is g w.0 w.2 in
    (refl, refl, λ p. (is.level, is.fits (within p), f.2))
named_everywhere (paren x g) t e i f =
    let w = enclosed_is x (as_type g) t e in
    absurd (no_name (subst (λ (u : TypeTree). is_named u ≡ true) (sym w.2) i))
  where
    no_name : false ≡ true → ⊥
    no_name h = cc
named_everywhere (unary x o g) t e i f =
    let w = pointed_is o x (as_type g) t e in
    absurd (no_name (subst (λ (u : TypeTree). is_named u ≡ true) (sym w.3) i))
  where
    no_name : false ≡ true → ⊥
    no_name h = cc
named_everywhere (type_arg u) t e i f = absurd (elsewhere f.0)
  where
    elsewhere : plain ≡ argument → ⊥
    elsewhere h = cc
named_everywhere _ t e i f = absurd cc

pub named_tree_is : (e : Tree) (t : TypeTree) (ts rest : List Word) → if_named (as_type e) ≡ Some t → Spells e ts rest → Fits e plain → IsNamedTree e t ts rest
named_tree_is e t ts rest h s f =
    let n = named_is (as_type e) t h in
    let is = type_of_tree e t ts rest n.0 s f in
    let at = named_everywhere e t n.0 n.1 f in
    record { as_type = n.0; name = n.1; only = at.1; level = at.0; fits = at.2; spells = is.0; plain = is.1; literal = literal_name t n.1 is.1; sized = is.3 }

pub named_parts : (t : TypeTree) → is_named t ≡ true → (n : Placed) × (m : Option Placed) × (vs : Args) × (t ≡ named n m vs)
named_parts (named n m vs) e = (n, m, vs, refl)
named_parts _ e = absurd cc

-- the name of a literal is a name elsewhere, and is found so
pub plain_name : (t : TypeTree) → is_named t ≡ true → FitsType t of_literal → FitsType t plain_type
plain_name (named n m vs) e f = (refl, f.1)
plain_name _ e f = absurd cc

pub if_named_finds : (e : Tree) (t : TypeTree) → is_named t ≡ true → as_type e ≡ Some t → if_named (as_type e) ≡ Some t
if_named_finds e (named n m vs) i h = rw h refl
if_named_finds e _ i h = absurd cc
