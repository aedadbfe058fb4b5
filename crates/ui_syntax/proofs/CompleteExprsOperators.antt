-- Operators: their tokens, and what they are not.
use Rattle.std.proofs.Common.{◌≡◌, ℕ, suc, ◌≤◌, Bool, true, false, cond, List, [], ◌∷◌, Option, Some, None, refl, sym, subst, ◌∙◌, arith}
use Rattle.std.specs.Prelude.{nat_le}
use Rattle.std.proofs.lemmas.Bool.{leb-false, le-leb, lt-leb}
use Rattle.ui_base.specs.declared.kind.BinOp.{BinOp}
use Rattle.ui_base.specs.declared.kind.BinOp.TheVariants as op
use Rattle.ui_scan.specs.declared.kind.TokenKind.TheVariants.{LParen, LBracket, LBrace, Period}
use Rattle.ui_grammar.specs.Word.{Word, ident, lit, mark, Mark}
use Rattle.ui_grammar.specs.Operator.{mark_of, operator_of, level_of}
use Rattle.ui_parse.specs.Kind.{is_kind}
use Rattle.ui_parse.specs.Reader.{first}
use Rattle.ui_syntax.specs.declared.site.Site.{Site}
use Rattle.ui_syntax.specs.Exprs.{an_operator, if_binds, is_header}
use Rattle.ui_syntax.proofs.ByBudget.{Quiet}
use Rattle.ui_syntax.proofs.FirstTrees.{level_below}

-- the operator of its token, which is no mark that goes on with an operand
record IsOperatorMark (o : BinOp) : Type 0 where
  back : operator_of (mark_of o) ≡ Some o
  no_dot : is_kind (mark_of o) Period ≡ false
  no_bracket : is_kind (mark_of o) LBracket ≡ false
  no_paren : is_kind (mark_of o) LParen ≡ false
  no_brace : is_kind (mark_of o) LBrace ≡ false

operator_mark : (o : BinOp) → IsOperatorMark o
operator_mark op.Add = record { back = refl; no_dot = refl; no_bracket = refl; no_paren = refl; no_brace = refl }
operator_mark op.Sub = record { back = refl; no_dot = refl; no_bracket = refl; no_paren = refl; no_brace = refl }
operator_mark op.Mul = record { back = refl; no_dot = refl; no_bracket = refl; no_paren = refl; no_brace = refl }
operator_mark op.Div = record { back = refl; no_dot = refl; no_bracket = refl; no_paren = refl; no_brace = refl }
operator_mark op.Rem = record { back = refl; no_dot = refl; no_bracket = refl; no_paren = refl; no_brace = refl }
operator_mark op.And = record { back = refl; no_dot = refl; no_bracket = refl; no_paren = refl; no_brace = refl }
operator_mark op.Or = record { back = refl; no_dot = refl; no_bracket = refl; no_paren = refl; no_brace = refl }
operator_mark op.Xor = record { back = refl; no_dot = refl; no_bracket = refl; no_paren = refl; no_brace = refl }
operator_mark op.AndNot = record { back = refl; no_dot = refl; no_bracket = refl; no_paren = refl; no_brace = refl }
operator_mark op.Shl = record { back = refl; no_dot = refl; no_bracket = refl; no_paren = refl; no_brace = refl }
operator_mark op.Shr = record { back = refl; no_dot = refl; no_bracket = refl; no_paren = refl; no_brace = refl }
operator_mark op.Equal = record { back = refl; no_dot = refl; no_bracket = refl; no_paren = refl; no_brace = refl }
operator_mark op.NotEqual = record { back = refl; no_dot = refl; no_bracket = refl; no_paren = refl; no_brace = refl }
operator_mark op.Less = record { back = refl; no_dot = refl; no_bracket = refl; no_paren = refl; no_brace = refl }
operator_mark op.LessEqual = record { back = refl; no_dot = refl; no_bracket = refl; no_paren = refl; no_brace = refl }
operator_mark op.Greater = record { back = refl; no_dot = refl; no_bracket = refl; no_paren = refl; no_brace = refl }
operator_mark op.GreaterEqual = record { back = refl; no_dot = refl; no_bracket = refl; no_paren = refl; no_brace = refl }
operator_mark op.LogicalAnd = record { back = refl; no_dot = refl; no_bracket = refl; no_paren = refl; no_brace = refl }
operator_mark op.LogicalOr = record { back = refl; no_dot = refl; no_bracket = refl; no_paren = refl; no_brace = refl }

-- a token that is an operator which binds so tightly
pub operator_seen : (least : ℕ) (o : BinOp) (a b : List Word) → least ≤ level_of o → (m : Mark (mark_of o) a b) → first (an_operator least) (mark (mark_of o) m.spot ∷ b) ≡ Some o
operator_seen least o a b le m = let binds : nat_le least (level_of o) ≡ true = le-leb _ _ le in rw (operator_mark o).back (rw binds refl)

binds_mono : (k l : ℕ) (m : Option BinOp) → k ≤ l → if_binds k m ≡ None → if_binds l m ≡ None
binds_mono k l None le h = refl
binds_mono k l (Some o) le h = go (nat_le k (level_of o)) refl h
  where
    go : (b : Bool) → nat_le k (level_of o) ≡ b → cond b (Some o) None ≡ None → cond (nat_le l (level_of o)) (Some o) None ≡ None
    go true e h = absurd cc
    go false e h = let f : nat_le l (level_of o) ≡ false = lt-leb _ _ (omega (arith, leb-false _ _ e)) in rw f refl

pub operator_mono : (k l : ℕ) (ts : List Word) → k ≤ l → first (an_operator k) ts ≡ None → first (an_operator l) ts ≡ None
operator_mono k l [] le h = refl
operator_mono k l (ident p ∷ ws) le h = refl
operator_mono k l (lit f s v ∷ ws) le h = refl
operator_mono k l (mark found s ∷ ws) le h = binds_mono k l (operator_of found) le h

binds_top : (m : Option BinOp) → if_binds 6 m ≡ None
binds_top None = refl
binds_top (Some o) = let e : nat_le 6 (level_of o) ≡ false = lt-leb _ _ (omega (arith, level_below o)) in rw e refl

-- none binds as tightly as a unary one
pub operator_top : (ts : List Word) → first (an_operator 6) ts ≡ None
operator_top [] = refl
operator_top (ident p ∷ ws) = refl
operator_top (lit f s v ∷ ws) = refl
operator_top (mark found s ∷ ws) = binds_top (operator_of found)

-- before an operator that does not bind tighter
pub quiet_operator : (s : Site) (k : ℕ) (o : BinOp) (a b : List Word) → level_of o ≤ k → Mark (mark_of o) a b → Quiet s (suc k) a
quiet_operator s k o a b le m = subst (Quiet s (suc k)) (sym m.is) (record { no_dot = rw w.no_dot refl; no_bracket = rw w.no_bracket refl; no_paren = rw w.no_paren refl; no_brace = λ _. rw w.no_brace refl; no_operator = rw w.back (rw loose refl) })
  where
    w : IsOperatorMark o
    w = operator_mark o

    loose : nat_le (suc k) (level_of o) ≡ false
    loose = lt-leb _ _ (omega arith)

-- the same at another site
pub quiet_at : (s s2 : Site) (k l : ℕ) (ts : List Word) → is_header s2 ≡ is_header s → Quiet s k ts → first (an_operator l) ts ≡ None → Quiet s2 l ts
quiet_at s s2 k l ts e q none_comes = record { no_dot = q.no_dot; no_bracket = q.no_bracket; no_paren = q.no_paren; no_brace = λ h. q.no_brace (sym e ∙ h); no_operator = none_comes }
