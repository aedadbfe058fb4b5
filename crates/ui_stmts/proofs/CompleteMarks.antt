-- Marks behind an expression that begins a statement, and what ends one.
use Rattle.std.proofs.Common.{◌≡◌, inl, inr, Bool, true, List, ◌∷◌, Some, None, refl, sym, subst}
use Rattle.ui_base.specs.declared.value.Spot.{Spot}
use Rattle.ui_base.specs.declared.kind.BinOp.{BinOp}
use Rattle.ui_base.specs.declared.kind.BinOp.TheVariants as op
use Rattle.ui_scan.specs.declared.kind.TokenKind.{TokenKind}
use Rattle.ui_scan.specs.declared.kind.TokenKind.TheVariants as kind
use Rattle.ui_grammar.specs.Word.{Word, mark, Mark}
use Rattle.ui_grammar.specs.Operator.{assign_mark_of, assignment_of}
use Rattle.ui_grammar.specs.Statement.{MarkOfAssign}
use Rattle.ui_parse.specs.Reader.{first, marked}
use Rattle.ui_syntax.specs.Read.{place_of}
use Rattle.ui_syntax.proofs.ByBudget.{Quiet}
use Rattle.ui_stmts.specs.Simple.{an_assignment}
use Rattle.ui_stmts.specs.Laws.{EndsAStmt}
use Rattle.ui_stmts.proofs.CompleteLists.{EndsExprs}

pub ends_assign : (header : Bool) (ts rest : List Word) → Mark kind.Assign ts rest → EndsExprs header ts
ends_assign header ts rest m = subst (EndsExprs header) (sym m.is) (record { quiet = record { no_dot = refl; no_bracket = refl; no_paren = refl; no_brace = λ _. refl; no_operator = refl }; no_comma = refl })

pub ends_define : (header : Bool) (ts rest : List Word) → Mark kind.Define ts rest → EndsExprs header ts
ends_define header ts rest m = subst (EndsExprs header) (sym m.is) (record { quiet = record { no_dot = refl; no_bracket = refl; no_paren = refl; no_brace = λ _. refl; no_operator = refl }; no_comma = refl })

pub quiet_inc : (header : Bool) (ts rest : List Word) → Mark kind.Inc ts rest → Quiet (place_of header) 1 ts
quiet_inc header ts rest m = subst (Quiet (place_of header) 1) (sym m.is) (record { no_dot = refl; no_bracket = refl; no_paren = refl; no_brace = λ _. refl; no_operator = refl })

pub quiet_dec : (header : Bool) (ts rest : List Word) → Mark kind.Dec ts rest → Quiet (place_of header) 1 ts
quiet_dec header ts rest m = subst (Quiet (place_of header) 1) (sym m.is) (record { no_dot = refl; no_bracket = refl; no_paren = refl; no_brace = λ _. refl; no_operator = refl })

-- ---- assignments with an operator

pub record OpMark (header : Bool) (o : BinOp) (ts rest : List Word) : Type 0 where
  pub word : Word
  pub is : ts ≡ word ∷ rest
  pub operator : an_assignment word ≡ Some o
  pub quiet : Quiet (place_of header) 1 (word ∷ rest)
  pub no_comma : marked kind.Comma word ≡ None
  pub no_assign : marked kind.Assign word ≡ None

abbrev quiet_at : (header : Bool) (k : TokenKind) → Type 0
quiet_at header k = (x : Spot) (ws : List Word) → Quiet (place_of header) 1 (mark k x ∷ ws)

op_at : (header : Bool) (o : BinOp) (k : TokenKind) (ts rest : List Word) → Mark k ts rest → assignment_of k ≡ Some o → quiet_at header k
    → ((x : Spot) → marked kind.Comma (mark k x) ≡ None) → ((x : Spot) → marked kind.Assign (mark k x) ≡ None) → OpMark header o ts rest
op_at header o k ts rest m e q no_comma no_assign = record { word = mark k m.spot; is = m.is; operator = e; quiet = q m.spot rest; no_comma = no_comma m.spot; no_assign = no_assign m.spot }

pub op_mark : (header : Bool) (o : BinOp) (ts rest : List Word) → MarkOfAssign (assign_mark_of o) ts rest → OpMark header o ts rest
op_mark header op.Add ts rest m = op_at header op.Add kind.AddAssign ts rest m refl (λ x ws. record { no_dot = refl; no_bracket = refl; no_paren = refl; no_brace = λ _. refl; no_operator = refl }) (λ x. refl) (λ x. refl)
op_mark header op.Sub ts rest m = op_at header op.Sub kind.SubAssign ts rest m refl (λ x ws. record { no_dot = refl; no_bracket = refl; no_paren = refl; no_brace = λ _. refl; no_operator = refl }) (λ x. refl) (λ x. refl)
op_mark header op.Mul ts rest m = op_at header op.Mul kind.MulAssign ts rest m refl (λ x ws. record { no_dot = refl; no_bracket = refl; no_paren = refl; no_brace = λ _. refl; no_operator = refl }) (λ x. refl) (λ x. refl)
op_mark header op.Div ts rest m = op_at header op.Div kind.DivAssign ts rest m refl (λ x ws. record { no_dot = refl; no_bracket = refl; no_paren = refl; no_brace = λ _. refl; no_operator = refl }) (λ x. refl) (λ x. refl)
op_mark header op.Rem ts rest m = op_at header op.Rem kind.RemAssign ts rest m refl (λ x ws. record { no_dot = refl; no_bracket = refl; no_paren = refl; no_brace = λ _. refl; no_operator = refl }) (λ x. refl) (λ x. refl)
op_mark header op.And ts rest m = op_at header op.And kind.AndAssign ts rest m refl (λ x ws. record { no_dot = refl; no_bracket = refl; no_paren = refl; no_brace = λ _. refl; no_operator = refl }) (λ x. refl) (λ x. refl)
op_mark header op.Or ts rest m = op_at header op.Or kind.OrAssign ts rest m refl (λ x ws. record { no_dot = refl; no_bracket = refl; no_paren = refl; no_brace = λ _. refl; no_operator = refl }) (λ x. refl) (λ x. refl)
op_mark header op.Xor ts rest m = op_at header op.Xor kind.XorAssign ts rest m refl (λ x ws. record { no_dot = refl; no_bracket = refl; no_paren = refl; no_brace = λ _. refl; no_operator = refl }) (λ x. refl) (λ x. refl)
op_mark header op.AndNot ts rest m = op_at header op.AndNot kind.AndNotAssign ts rest m refl (λ x ws. record { no_dot = refl; no_bracket = refl; no_paren = refl; no_brace = λ _. refl; no_operator = refl }) (λ x. refl) (λ x. refl)
op_mark header op.Shl ts rest m = op_at header op.Shl kind.ShlAssign ts rest m refl (λ x ws. record { no_dot = refl; no_bracket = refl; no_paren = refl; no_brace = λ _. refl; no_operator = refl }) (λ x. refl) (λ x. refl)
op_mark header op.Shr ts rest m = op_at header op.Shr kind.ShrAssign ts rest m refl (λ x ws. record { no_dot = refl; no_bracket = refl; no_paren = refl; no_brace = λ _. refl; no_operator = refl }) (λ x. refl) (λ x. refl)
op_mark header _ ts rest m = absurd m

-- ---- the end of a simple statement, or of an expression alone

pub record EndsHead (header : Bool) (ts : List Word) : Type 0 where
  pub exprs : EndsExprs header ts
  pub no_assign : first (marked kind.Assign) ts ≡ None
  pub no_assignment : first an_assignment ts ≡ None
  pub no_inc : first (marked kind.Inc) ts ≡ None
  pub no_dec : first (marked kind.Dec) ts ≡ None
  pub no_define : first (marked kind.Define) ts ≡ None

pub head_semi : (header : Bool) (ts rest : List Word) → Mark kind.Semi ts rest → EndsHead header ts
head_semi header ts rest m = subst (EndsHead header) (sym m.is)
    (record { exprs = record { quiet = record { no_dot = refl; no_bracket = refl; no_paren = refl; no_brace = λ _. refl; no_operator = refl }; no_comma = refl }; no_assign = refl; no_assignment = refl; no_inc = refl; no_dec = refl; no_define = refl })

pub head_close : (header : Bool) (ts rest : List Word) → Mark kind.RBrace ts rest → EndsHead header ts
head_close header ts rest m = subst (EndsHead header) (sym m.is)
    (record { exprs = record { quiet = record { no_dot = refl; no_bracket = refl; no_paren = refl; no_brace = λ _. refl; no_operator = refl }; no_comma = refl }; no_assign = refl; no_assignment = refl; no_inc = refl; no_dec = refl; no_define = refl })

pub head_body : (ts rest : List Word) → Mark kind.LBrace ts rest → EndsHead true ts
head_body ts rest m = subst (EndsHead true) (sym m.is)
    (record { exprs = record { quiet = record { no_dot = refl; no_bracket = refl; no_paren = refl; no_brace = λ e. absurd cc; no_operator = refl }; no_comma = refl }; no_assign = refl; no_assignment = refl; no_inc = refl; no_dec = refl; no_define = refl })

pub head_end : (header : Bool) (ts : List Word) → EndsAStmt ts → EndsHead header ts
head_end header ts (inl m) = head_semi header ts m.0 m.1
head_end header ts (inr m) = head_close header ts m.0 m.1
