-- What operands and scopes are in a table that grows: what callers use.
use Rattle.std.specs.Prelude.{◌≡◌, ℕ, List, refl, All, Option, Some, None, IfSome, option_map}
use Rattle.std.proofs.Common.{ap}
use Rattle.ui_base.specs.declared.name.Name.{Name}
use Rattle.ui_types.specs.declared.id.TypeId.{TypeId}
use Rattle.ui_types.specs.Ty.{Ty}
use Rattle.ui_types.specs.Table.{Table, IsId, Grows, AreIds, tree, trees}
use Rattle.ui_types.specs.Trees.{IsId-grows, AreIds-grows, trees-grows}
use Rattle.ui_scopes.specs.declared.operand.Operand.{Operand}
use Rattle.ui_scopes.specs.declared.scope.Meaning.{Meaning}
use Rattle.ui_scopes.specs.declared.scope.Meaning.TheVariants.{Object, Package, Predeclared, Param, Local, Const}
use Rattle.ui_scopes.specs.declared.scope.Scope.{Scope}
use Rattle.ui_core.specs.Checked.{ExprOf}
use Rattle.ui_core.specs.Mentions.{with_types, Mentions, any_name}
use Rattle.ui_core.specs.MentionLaws.{Mentions-weaker, with_types-alike}
use Rattle.ui_scopes.specs.Operands as op
use Rattle.ui_scopes.specs.Operands.{OperandOf, operand_with, OperandMentions, seen, IsOperand, shown_operand}
use Rattle.ui_scopes.specs.Scopes as s
use Rattle.ui_scopes.specs.Scopes.{MeaningTree, ScopeTree, IsMeaning, shown_meaning, IsScope, shown_scope, find_meaning}

module _ {old new : Table} where
  -- ---- checked trees

  pub Mentions-grows : (e : ExprOf TypeId) → Grows old new → Mentions (IsId old) any_name e → Mentions (IsId new) any_name e
  Mentions-grows e g h = Mentions-weaker (λ x k. IsId-grows x g k) (λ n k. k) e h

  pub shown_checked-grows : (e : ExprOf TypeId) → Grows old new → Mentions (IsId old) any_name e → with_types (tree new) e ≡ with_types (tree old) e
  shown_checked-grows e g h = with_types-alike (tree new) (tree old) e (Mentions-weaker (λ x k. g.keeps x k) (λ n k. k) e h)

  -- ---- operands

  seen_grows : Grows old new → (a : OperandOf TypeId) → OperandMentions (IsId old) any_name a → OperandMentions (IsId new) any_name a
  seen_grows g (op.value e t c a) h = (Mentions-grows e g h.0, IsId-grows t g h.1)
  seen_grows g (op.many e ts) h = (Mentions-grows e g h.0, AreIds-grows ts g h.1)
  seen_grows g (op.type_of t) h = IsId-grows t g h
  seen_grows g (op.generic_type n) h = tt
  seen_grows g (op.generic_func n ts) h = (tt, AreIds-grows ts g h.1)
  seen_grows g (op.method e t) h = (Mentions-grows e g h.0, IsId-grows t g h.1)
  seen_grows g (op.builtin n) h = tt
  seen_grows g (op.package_at p) h = tt

  with_grows : Grows old new → (a : OperandOf TypeId) → OperandMentions (IsId old) any_name a → operand_with (tree new) a ≡ operand_with (tree old) a
  with_grows g (op.value e t c a) h = λ i. op.value (shown_checked-grows e g h.0 i) (g.keeps t h.1 i) c a
  with_grows g (op.many e ts) h = λ i. op.many (shown_checked-grows e g h.0 i) (trees-grows ts g h.1 i)
  with_grows g (op.type_of t) h = ap op.type_of (g.keeps t h)
  with_grows g (op.generic_type n) h = refl
  with_grows g (op.generic_func n ts) h = ap (op.generic_func n) (trees-grows ts g h.1)
  with_grows g (op.method e t) h = λ i. op.method (shown_checked-grows e g h.0 i) (g.keeps t h.1 i)
  with_grows g (op.builtin n) h = refl
  with_grows g (op.package_at p) h = refl

  pub IsOperand-grows : (a : Operand) → Grows old new → IsOperand old a → IsOperand new a
  IsOperand-grows a g h = seen_grows g (seen a) h

  pub shown_operand-grows : (a : Operand) → Grows old new → IsOperand old a → shown_operand new a ≡ shown_operand old a
  shown_operand-grows a g h = with_grows g (seen a) h

  -- ---- scopes

  IsMeaning-grows : Grows old new → (m : Option Meaning) → IfSome m (IsMeaning old) → IfSome m (IsMeaning new)
  IsMeaning-grows g None h = tt
  IsMeaning-grows g (Some (Object n)) h = tt
  IsMeaning-grows g (Some (Package p)) h = tt
  IsMeaning-grows g (Some (Predeclared n)) h = tt
  IsMeaning-grows g (Some (Param k)) h = tt
  IsMeaning-grows g (Some (Local k t)) h = IsId-grows t g h
  IsMeaning-grows g (Some (Const t v)) h = IsId-grows t g h

  shown_meaning-grows : Grows old new → (m : Option Meaning) → IfSome m (IsMeaning old) → option_map (shown_meaning new) m ≡ option_map (shown_meaning old) m
  shown_meaning-grows g None h = refl
  shown_meaning-grows g (Some (Object n)) h = refl
  shown_meaning-grows g (Some (Package p)) h = refl
  shown_meaning-grows g (Some (Predeclared n)) h = refl
  shown_meaning-grows g (Some (Param k)) h = refl
  shown_meaning-grows g (Some (Local k t)) h = ap (λ (u : Ty). Some (s.local k u)) (g.keeps t h)
  shown_meaning-grows g (Some (Const t v)) h = ap (λ (u : Ty). Some (s.constant u v)) (g.keeps t h)

  pub IsScope-grows : (a : Scope) → Grows old new → IsScope old a → IsScope new a
  IsScope-grows a g h = record { meanings = λ n. IsMeaning-grows g (find_meaning a.levels n) (h.meanings n); bounds = AreIds-grows a.bounds g h.bounds }

  pub shown_scope-grows : (a : Scope) → Grows old new → IsScope old a → shown_scope new a ≡ shown_scope old a
  unfolding shown_scope
  shown_scope-grows a g h = λ i. record { meaning = λ n. shown_meaning-grows g (find_meaning a.levels n) (h.meanings n) i; bounds = trees-grows a.bounds g h.bounds i; path = a.path; file = a.file }

pub ruleset growing = (Mentions-grows, shown_checked-grows, IsOperand-grows, shown_operand-grows, IsScope-grows, shown_scope-grows)
