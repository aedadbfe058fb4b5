-- Kinds of tokens of one number are one kind.
use Rattle.std.proofs.Common.{◌≡◌, ℕ, true, List, [], ◌∷◌, get_or, refl, sym, ap, ◌∙◌}
use Rattle.std.proofs.lemmas.Bool.{eqb-true, eq-eqb}
use Rattle.ui_scan.specs.declared.kind.TokenKind.{TokenKind}
use Rattle.ui_scan.specs.declared.kind.TokenKind.TheVariants as kind
use Rattle.ui_parse.specs.Kind.{number, is_kind}

kinds : List TokenKind
kinds =
    kind.Ident ∷ kind.Int ∷ kind.Rune ∷ kind.Str ∷ kind.Semi ∷ kind.End ∷ kind.Break ∷ kind.Case ∷ kind.Chan ∷
    kind.Const ∷ kind.Continue ∷ kind.Default ∷ kind.Defer ∷ kind.Else ∷ kind.Fallthrough ∷ kind.For ∷ kind.Func ∷
    kind.Go ∷ kind.Goto ∷ kind.If ∷ kind.Import ∷ kind.Interface ∷ kind.Map ∷ kind.Package ∷ kind.Range ∷
    kind.Return ∷ kind.Select ∷ kind.Struct ∷ kind.Switch ∷ kind.Type ∷ kind.Var ∷ kind.Add ∷ kind.Sub ∷ kind.Mul ∷
    kind.Div ∷ kind.Rem ∷ kind.And ∷ kind.Or ∷ kind.Xor ∷ kind.Shl ∷ kind.Shr ∷ kind.AndNot ∷ kind.AddAssign ∷
    kind.SubAssign ∷ kind.MulAssign ∷ kind.DivAssign ∷ kind.RemAssign ∷ kind.AndAssign ∷ kind.OrAssign ∷
    kind.XorAssign ∷ kind.ShlAssign ∷ kind.ShrAssign ∷ kind.AndNotAssign ∷ kind.LogicalAnd ∷ kind.LogicalOr ∷
    kind.Arrow ∷ kind.Inc ∷ kind.Dec ∷ kind.Equal ∷ kind.Less ∷ kind.Greater ∷ kind.Assign ∷ kind.Not ∷ kind.Tilde ∷
    kind.NotEqual ∷ kind.LessEqual ∷ kind.GreaterEqual ∷ kind.Define ∷ kind.Ellipsis ∷ kind.LParen ∷ kind.LBracket ∷
    kind.LBrace ∷ kind.Comma ∷ kind.Period ∷ kind.RParen ∷ kind.RBracket ∷ kind.RBrace ∷ kind.Colon ∷ []

kind_at : ℕ → TokenKind
kind_at n = get_or kinds n kind.End

kind_at_number : (k : TokenKind) → kind_at (number k) ≡ k
unfolding kind_at kinds
kind_at_number kind.Ident = refl
kind_at_number kind.Int = refl
kind_at_number kind.Rune = refl
kind_at_number kind.Str = refl
kind_at_number kind.Semi = refl
kind_at_number kind.End = refl
kind_at_number kind.Break = refl
kind_at_number kind.Case = refl
kind_at_number kind.Chan = refl
kind_at_number kind.Const = refl
kind_at_number kind.Continue = refl
kind_at_number kind.Default = refl
kind_at_number kind.Defer = refl
kind_at_number kind.Else = refl
kind_at_number kind.Fallthrough = refl
kind_at_number kind.For = refl
kind_at_number kind.Func = refl
kind_at_number kind.Go = refl
kind_at_number kind.Goto = refl
kind_at_number kind.If = refl
kind_at_number kind.Import = refl
kind_at_number kind.Interface = refl
kind_at_number kind.Map = refl
kind_at_number kind.Package = refl
kind_at_number kind.Range = refl
kind_at_number kind.Return = refl
kind_at_number kind.Select = refl
kind_at_number kind.Struct = refl
kind_at_number kind.Switch = refl
kind_at_number kind.Type = refl
kind_at_number kind.Var = refl
kind_at_number kind.Add = refl
kind_at_number kind.Sub = refl
kind_at_number kind.Mul = refl
kind_at_number kind.Div = refl
kind_at_number kind.Rem = refl
kind_at_number kind.And = refl
kind_at_number kind.Or = refl
kind_at_number kind.Xor = refl
kind_at_number kind.Shl = refl
kind_at_number kind.Shr = refl
kind_at_number kind.AndNot = refl
kind_at_number kind.AddAssign = refl
kind_at_number kind.SubAssign = refl
kind_at_number kind.MulAssign = refl
kind_at_number kind.DivAssign = refl
kind_at_number kind.RemAssign = refl
kind_at_number kind.AndAssign = refl
kind_at_number kind.OrAssign = refl
kind_at_number kind.XorAssign = refl
kind_at_number kind.ShlAssign = refl
kind_at_number kind.ShrAssign = refl
kind_at_number kind.AndNotAssign = refl
kind_at_number kind.LogicalAnd = refl
kind_at_number kind.LogicalOr = refl
kind_at_number kind.Arrow = refl
kind_at_number kind.Inc = refl
kind_at_number kind.Dec = refl
kind_at_number kind.Equal = refl
kind_at_number kind.Less = refl
kind_at_number kind.Greater = refl
kind_at_number kind.Assign = refl
kind_at_number kind.Not = refl
kind_at_number kind.Tilde = refl
kind_at_number kind.NotEqual = refl
kind_at_number kind.LessEqual = refl
kind_at_number kind.GreaterEqual = refl
kind_at_number kind.Define = refl
kind_at_number kind.Ellipsis = refl
kind_at_number kind.LParen = refl
kind_at_number kind.LBracket = refl
kind_at_number kind.LBrace = refl
kind_at_number kind.Comma = refl
kind_at_number kind.Period = refl
kind_at_number kind.RParen = refl
kind_at_number kind.RBracket = refl
kind_at_number kind.RBrace = refl
kind_at_number kind.Colon = refl

pub same_kind : (k l : TokenKind) → is_kind k l ≡ true → k ≡ l
same_kind k l e = sym (kind_at_number k) ∙ ap kind_at (eqb-true (number k) (number l) e) ∙ kind_at_number l

pub kind_is : (k : TokenKind) → is_kind k k ≡ true
kind_is k = eq-eqb (number k) (number k) refl
