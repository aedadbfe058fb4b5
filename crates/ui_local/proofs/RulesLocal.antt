-- Expressions are checked alike in two environments that agree on a set of names: one line a form, as the rules have it.
use Rattle.ui_tree.specs.Tree.{Tree, literal, name, paren, convert, composite, elided, keyed, instance, selector, assert, index, sliced, call, type_arg, unary, binary}
use Rattle.ui_scopes.specs.Operands.{OperandTree}
use Rattle.ui_scopes.specs.Scopes.{World, ScopeTree}
use Rattle.ui_scopes.specs.Local.{Names, OperandIn, any_package, Agree, Same, same_then, same_weaker, same_ok, same_err}
use Rattle.ui_rules.specs.Rules.{operand_of}
use Rattle.ui_local.specs.Mentioned.{ScopeIn, IsPackage, TreeIn}
use Rattle.ui_local.specs.Laws.{ExpressionsAgree, ExpressionsStayWithin}
use Rattle.ui_local.proofs.NamesLocal.{no_package_is, name_local}
use Rattle.ui_local.proofs.FormsLocal.{any_package_is, literal_in, in_parens_local, unary_local, binary_local, selected_local}

module _ {S : Names} {w w' : World} (g : Agree S w w') (s : ScopeTree) (k : ScopeIn S s) where
  -- as a part of a form, which may be any package
  as_part : (t : Tree) → (x : OperandTree) → OperandIn S (IsPackage s t) x → OperandIn S any_package x
  as_part t x h = any_package_is S (IsPackage s t) x h

  pub operand_local : (t : Tree) → TreeIn S s t → Same (OperandIn S (IsPackage s t)) (operand_of w s t) (operand_of w' s t)
  unfolding operand_of
  operand_local (literal at kind v) h = same_weaker (no_package_is S (IsPackage s (literal at kind v))) (same_ok (literal_in S kind v))
  operand_local (name p) h = name_local g s p k
  operand_local (paren at a) h = same_then (operand_local a h) (λ x i. in_parens_local S s.file at x (as_part a x i))
  operand_local (selector at a p) h = same_then (operand_local a h.0) (λ x i. selected_local g s.file at p.text (IsPackage s a) h.1 x i)
  operand_local (unary at op a) h = same_then (operand_local a h) (λ x i. unary_local g s.file at op x (as_part a x i))
  operand_local (binary at op a b) h =
      same_then (operand_local a h.0) (λ x i. same_then (operand_local b h.1) (λ y j. binary_local g s.file at op x y (as_part a x i) (as_part b y j)))
  operand_local (convert at t a) h = same_err
  operand_local (composite at t es) h = same_err
  operand_local (elided at es) h = same_err
  operand_local (keyed at k a) h = same_err
  operand_local (instance at a ts) h = same_err
  operand_local (assert at a t) h = same_err
  operand_local (index at a b) h = same_err
  operand_local (sliced at a l h m) i = same_err
  operand_local (call at a es spread) h = same_err
  operand_local (type_arg t) h = same_err

pub expressions_agree : ExpressionsAgree
expressions_agree set w w' s t g k h = (operand_local g s k t h).equal

pub expressions_stay_within : ExpressionsStayWithin
expressions_stay_within set w w' s t g k h = (operand_local g s k t h).within
