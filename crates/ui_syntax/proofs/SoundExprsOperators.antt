-- Operators: unary, and binary by how tightly they bind.
use Rattle.std.proofs.Common.{◌≡◌, ℕ, suc, ◌≤◌, Bool, true, false, cond, Option, Some, None, refl, ap, subst, ◌∙◌, arith}
use Rattle.std.specs.Prelude.{nat_le}
use Rattle.std.proofs.lemmas.Bool.{leb-true, leb-false}
use Rattle.ui_base.specs.declared.value.Spot.{Spot}
use Rattle.ui_base.specs.declared.kind.BinOp.{BinOp}
use Rattle.ui_base.specs.declared.kind.BinOp.TheVariants as op
use Rattle.ui_scan.specs.declared.kind.TokenKind.{TokenKind}
use Rattle.ui_scan.specs.declared.kind.TokenKind.TheVariants as kind
use Rattle.ui_tree.specs.declared.part.PrefixOp.{PrefixOp}
use Rattle.ui_tree.specs.declared.part.PrefixOp.TheVariants.{Plus, Minus, Not, Flip, Deref, Address}
use Rattle.ui_grammar.specs.Word.{Word, ident, lit, mark}
use Rattle.ui_grammar.specs.Operator.{mark_of, prefix_mark_of, level_of, operator_of, prefix_of}
use Rattle.ui_syntax.specs.Exprs.{Prefix, prefix_at, a_prefix, if_binds, an_operator}

-- ---- the first word as an operator

prefix_mark : (k : TokenKind) (o : PrefixOp) → prefix_of k ≡ Some o → k ≡ prefix_mark_of o
prefix_mark kind.Add o e = let same : Plus ≡ o = cc in ap prefix_mark_of same
prefix_mark kind.Sub o e = let same : Minus ≡ o = cc in ap prefix_mark_of same
prefix_mark kind.Not o e = let same : Not ≡ o = cc in ap prefix_mark_of same
prefix_mark kind.Xor o e = let same : Flip ≡ o = cc in ap prefix_mark_of same
prefix_mark kind.Mul o e = let same : Deref ≡ o = cc in ap prefix_mark_of same
prefix_mark kind.And o e = let same : Address ≡ o = cc in ap prefix_mark_of same
prefix_mark _ o e = absurd cc

prefix_by : (k : TokenKind) (s : Spot) (x : Option PrefixOp) (o : Prefix) → prefix_of k ≡ x → prefix_at x s ≡ Some o → mark k s ≡ mark (prefix_mark_of o.op) o.spot
prefix_by k s None o e h = absurd cc
prefix_by k s (Some p) o e h = let same : record { op = p; spot = s } ≡ o = cc in
    ap (λ (z : TokenKind). mark z s) (prefix_mark k p e) ∙ ap (λ (z : Prefix). mark (prefix_mark_of z.op) z.spot) same

pub prefix_is : (w : Word) (o : Prefix) → a_prefix w ≡ Some o → w ≡ mark (prefix_mark_of o.op) o.spot
prefix_is (ident p) o e = absurd cc
prefix_is (lit k s v) o e = absurd cc
prefix_is (mark k s) o e = prefix_by k s (prefix_of k) o refl e

operator_mark : (k : TokenKind) (o : BinOp) → operator_of k ≡ Some o → k ≡ mark_of o
operator_mark kind.Add o e = let same : op.Add ≡ o = cc in ap mark_of same
operator_mark kind.Sub o e = let same : op.Sub ≡ o = cc in ap mark_of same
operator_mark kind.Mul o e = let same : op.Mul ≡ o = cc in ap mark_of same
operator_mark kind.Div o e = let same : op.Div ≡ o = cc in ap mark_of same
operator_mark kind.Rem o e = let same : op.Rem ≡ o = cc in ap mark_of same
operator_mark kind.And o e = let same : op.And ≡ o = cc in ap mark_of same
operator_mark kind.Or o e = let same : op.Or ≡ o = cc in ap mark_of same
operator_mark kind.Xor o e = let same : op.Xor ≡ o = cc in ap mark_of same
operator_mark kind.AndNot o e = let same : op.AndNot ≡ o = cc in ap mark_of same
operator_mark kind.Shl o e = let same : op.Shl ≡ o = cc in ap mark_of same
operator_mark kind.Shr o e = let same : op.Shr ≡ o = cc in ap mark_of same
operator_mark kind.Equal o e = let same : op.Equal ≡ o = cc in ap mark_of same
operator_mark kind.NotEqual o e = let same : op.NotEqual ≡ o = cc in ap mark_of same
operator_mark kind.Less o e = let same : op.Less ≡ o = cc in ap mark_of same
operator_mark kind.LessEqual o e = let same : op.LessEqual ≡ o = cc in ap mark_of same
operator_mark kind.Greater o e = let same : op.Greater ≡ o = cc in ap mark_of same
operator_mark kind.GreaterEqual o e = let same : op.GreaterEqual ≡ o = cc in ap mark_of same
operator_mark kind.LogicalAnd o e = let same : op.LogicalAnd ≡ o = cc in ap mark_of same
operator_mark kind.LogicalOr o e = let same : op.LogicalOr ≡ o = cc in ap mark_of same
operator_mark _ o e = absurd cc

-- an operator that binds so tightly
pub record IsOperator (least : ℕ) (o : BinOp) (w : Word) : Type 0 where
  pub spot : Spot
  pub is : w ≡ mark (mark_of o) spot
  pub binds : least ≤ level_of o

binds_by : (least : ℕ) (p : BinOp) (o : BinOp) (b : Bool) → nat_le least (level_of p) ≡ b → cond b (Some p) None ≡ Some o → (p ≡ o) × (least ≤ level_of p)
binds_by least p o true e h = let same : p ≡ o = cc in (same, leb-true _ _ e)
binds_by least p o false e h = absurd cc

operator_by : (least : ℕ) (k : TokenKind) (s : Spot) (x : Option BinOp) (o : BinOp) → operator_of k ≡ x → if_binds least x ≡ Some o → IsOperator least o (mark k s)
operator_by least k s None o e h = absurd cc
operator_by least k s (Some p) o e h = let b = binds_by least p o (nat_le least (level_of p)) refl h in record {
  spot = s;
  is = ap (λ (z : TokenKind). mark z s) (operator_mark k o (e ∙ ap (λ (z : BinOp). Some z) b.0));
  binds = subst (λ (z : BinOp). least ≤ level_of z) b.0 b.1;
}

pub operator_is : (least : ℕ) (w : Word) (o : BinOp) → an_operator least w ≡ Some o → IsOperator least o w
operator_is least (ident p) o e = absurd cc
operator_is least (lit k s v) o e = absurd cc
operator_is least (mark k s) o e = operator_by least k s (operator_of k) o refl e

-- none binds tighter than this level
loose_by : (k : ℕ) (p : BinOp) (b : Bool) → nat_le (suc k) (level_of p) ≡ b → cond b (Some p) None ≡ None → level_of p ≤ k
loose_by k p true e h = absurd cc
loose_by k p false e h = omega (arith, leb-false _ _ e)

tight_by : (least k : ℕ) (x : Option BinOp) (o : BinOp) → if_binds least x ≡ Some o → if_binds (suc k) x ≡ None → level_of o ≤ k
tight_by least k None o h g = absurd cc
tight_by least k (Some p) o h g = subst (λ (z : BinOp). level_of z ≤ k) (binds_by least p o (nat_le least (level_of p)) refl h).0 (loose_by k p (nat_le (suc k) (level_of p)) refl g)

pub tight_word : (least k : ℕ) (w : Word) (o : BinOp) → an_operator least w ≡ Some o → an_operator (suc k) w ≡ None → level_of o ≤ k
tight_word least k (ident p) o h g = absurd cc
tight_word least k (lit l s v) o h g = absurd cc
tight_word least k (mark l s) o h g = tight_by least k (operator_of l) o h g
