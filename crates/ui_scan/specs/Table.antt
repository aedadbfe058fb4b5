-- How keywords and operators are spelled. Go specification, "Keywords" and "Operators and punctuation".
use Rattle.std.specs.Prelude.{ℕ, List, [], ◌∷◌, length, Option, None, Some, if◌then◌else◌, codes, nat_eq, unwrap_or}
use Rattle.std.specs.Str.{bytes_eq}
use Rattle.std.specs.List.{starts_with, zip}
use Rattle.ui_base.specs.Names as words
use Rattle.ui_scan.specs.declared.kind.TokenKind.{TokenKind}
use Rattle.ui_scan.specs.declared.kind.TokenKind.TheVariants as kind
use Rattle.ui_scan.specs.declared.kind.ScanKind.TheVariants as fault
use Rattle.ui_scan.specs.declared.piece.Piece.{Piece}
use Rattle.ui_scan.specs.declared.piece.Piece.TheVariants as piece

-- a word, and the kind that it spells
abbrev pub Row : Type 0
Row = List ℕ × TokenKind

-- the kinds of the keywords, in the order of these
abbrev pub keyword_kinds : List TokenKind
keyword_kinds =
    kind.Break ∷ kind.Case ∷ kind.Chan ∷ kind.Const ∷ kind.Continue ∷ kind.Default ∷ kind.Defer ∷ kind.Else
    ∷ kind.Fallthrough ∷ kind.For ∷ kind.Func ∷ kind.Go ∷ kind.Goto ∷ kind.If ∷ kind.Import ∷ kind.Interface
    ∷ kind.Map ∷ kind.Package ∷ kind.Range ∷ kind.Return ∷ kind.Select ∷ kind.Struct ∷ kind.Switch ∷ kind.Type
    ∷ kind.Var ∷ []

unfoldable pub keywords : List Row
keywords = zip words.keywords keyword_kinds

-- the operators, each before those that it begins with
unfoldable pub operators : List Row
operators =
    (codes "<<=", kind.ShlAssign)
    ∷ (codes ">>=", kind.ShrAssign)
    ∷ (codes "&^=", kind.AndNotAssign)
    ∷ (codes "...", kind.Ellipsis)
    ∷ (codes "+=", kind.AddAssign)
    ∷ (codes "-=", kind.SubAssign)
    ∷ (codes "*=", kind.MulAssign)
    ∷ (codes "/=", kind.DivAssign)
    ∷ (codes "%=", kind.RemAssign)
    ∷ (codes "&=", kind.AndAssign)
    ∷ (codes "|=", kind.OrAssign)
    ∷ (codes "^=", kind.XorAssign)
    ∷ (codes "<<", kind.Shl)
    ∷ (codes ">>", kind.Shr)
    ∷ (codes "&^", kind.AndNot)
    ∷ (codes "&&", kind.LogicalAnd)
    ∷ (codes "||", kind.LogicalOr)
    ∷ (codes "<-", kind.Arrow)
    ∷ (codes "++", kind.Inc)
    ∷ (codes "--", kind.Dec)
    ∷ (codes "==", kind.Equal)
    ∷ (codes "!=", kind.NotEqual)
    ∷ (codes "<=", kind.LessEqual)
    ∷ (codes ">=", kind.GreaterEqual)
    ∷ (codes ":=", kind.Define)
    ∷ (codes "+", kind.Add)
    ∷ (codes "-", kind.Sub)
    ∷ (codes "*", kind.Mul)
    ∷ (codes "/", kind.Div)
    ∷ (codes "%", kind.Rem)
    ∷ (codes "&", kind.And)
    ∷ (codes "|", kind.Or)
    ∷ (codes "^", kind.Xor)
    ∷ (codes "<", kind.Less)
    ∷ (codes ">", kind.Greater)
    ∷ (codes "=", kind.Assign)
    ∷ (codes "!", kind.Not)
    ∷ (codes "~", kind.Tilde)
    ∷ (codes "(", kind.LParen)
    ∷ (codes "[", kind.LBracket)
    ∷ (codes "{", kind.LBrace)
    ∷ (codes ",", kind.Comma)
    ∷ (codes ".", kind.Period)
    ∷ (codes ")", kind.RParen)
    ∷ (codes "]", kind.RBracket)
    ∷ (codes "}", kind.RBrace)
    ∷ (codes ";", kind.Semi)
    ∷ (codes ":", kind.Colon)
    ∷ []

-- the kind of the word in a table
abbrev pub spelled : List Row → List ℕ → Option TokenKind
spelled [] word = None
spelled (entry ∷ table) word = if bytes_eq entry.0 word then Some entry.1 else spelled table word

-- a keyword, or else an identifier
unfoldable pub word_kind : List ℕ → TokenKind
word_kind word = unwrap_or (spelled keywords word) kind.Ident

-- the first operator of a table that the bytes begin with
abbrev pub first_operator : List Row → List ℕ → Piece
first_operator [] bytes = piece.Fault fault.BadByte 0
first_operator (entry ∷ table) bytes =
    if starts_with nat_eq bytes entry.0 then piece.Token entry.1 (length entry.0) else first_operator table bytes

-- the operator that the bytes begin with
unfoldable pub operator : List ℕ → Piece
operator bytes = first_operator operators bytes
