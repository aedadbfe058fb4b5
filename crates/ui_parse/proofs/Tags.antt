-- Kinds of tokens in the code.
use Rattle.std.proofs.Common.{◌≡◌, ℕ, nat_eq, refl, ap, ◌∙◌}
use Rattle.ui_scan.specs.declared.kind.TokenKind.{TokenKind}
use Rattle.ui_scan.specs.declared.kind.TokenKind.TheVariants as kind
use Rattle.ui_scan.specs.contracts.kind.TokenKind.{the_type}
use denote.Enum.Declared.{tag_of}
use Rattle.ui_parse.specs.Kind.{number, is_kind}

tag_is : (k : TokenKind) → tag_of the_type k ≡ number k
tag_is kind.Ident = refl
tag_is kind.Int = refl
tag_is kind.Rune = refl
tag_is kind.Str = refl
tag_is kind.Semi = refl
tag_is kind.End = refl
tag_is kind.Break = refl
tag_is kind.Case = refl
tag_is kind.Chan = refl
tag_is kind.Const = refl
tag_is kind.Continue = refl
tag_is kind.Default = refl
tag_is kind.Defer = refl
tag_is kind.Else = refl
tag_is kind.Fallthrough = refl
tag_is kind.For = refl
tag_is kind.Func = refl
tag_is kind.Go = refl
tag_is kind.Goto = refl
tag_is kind.If = refl
tag_is kind.Import = refl
tag_is kind.Interface = refl
tag_is kind.Map = refl
tag_is kind.Package = refl
tag_is kind.Range = refl
tag_is kind.Return = refl
tag_is kind.Select = refl
tag_is kind.Struct = refl
tag_is kind.Switch = refl
tag_is kind.Type = refl
tag_is kind.Var = refl
tag_is kind.Add = refl
tag_is kind.Sub = refl
tag_is kind.Mul = refl
tag_is kind.Div = refl
tag_is kind.Rem = refl
tag_is kind.And = refl
tag_is kind.Or = refl
tag_is kind.Xor = refl
tag_is kind.Shl = refl
tag_is kind.Shr = refl
tag_is kind.AndNot = refl
tag_is kind.AddAssign = refl
tag_is kind.SubAssign = refl
tag_is kind.MulAssign = refl
tag_is kind.DivAssign = refl
tag_is kind.RemAssign = refl
tag_is kind.AndAssign = refl
tag_is kind.OrAssign = refl
tag_is kind.XorAssign = refl
tag_is kind.ShlAssign = refl
tag_is kind.ShrAssign = refl
tag_is kind.AndNotAssign = refl
tag_is kind.LogicalAnd = refl
tag_is kind.LogicalOr = refl
tag_is kind.Arrow = refl
tag_is kind.Inc = refl
tag_is kind.Dec = refl
tag_is kind.Equal = refl
tag_is kind.Less = refl
tag_is kind.Greater = refl
tag_is kind.Assign = refl
tag_is kind.Not = refl
tag_is kind.Tilde = refl
tag_is kind.NotEqual = refl
tag_is kind.LessEqual = refl
tag_is kind.GreaterEqual = refl
tag_is kind.Define = refl
tag_is kind.Ellipsis = refl
tag_is kind.LParen = refl
tag_is kind.LBracket = refl
tag_is kind.LBrace = refl
tag_is kind.Comma = refl
tag_is kind.Period = refl
tag_is kind.RParen = refl
tag_is kind.RBracket = refl
tag_is kind.RBrace = refl
tag_is kind.Colon = refl

pub same_tags : (k l : TokenKind) → nat_eq (tag_of the_type k) (tag_of the_type l) ≡ is_kind k l
same_tags k l = ap (λ (n : ℕ). nat_eq n (tag_of the_type l)) (tag_is k) ∙ ap (nat_eq (number k)) (tag_is l)
