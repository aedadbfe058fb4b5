-- Words before a place, looked at from the last one back.
use Rattle.std.specs.Prelude.{ℕ, zero, suc, Bool, true, false, ◌&&◌, ◌==◌, List, [], ◌∷◌, reverse, Option, Some, None, if◌then◌else◌}
use Rattle.ui_scan.specs.declared.kind.Token.{Token}
use Rattle.ui_scan.specs.declared.kind.TokenKind.{TokenKind}
use Rattle.ui_scan.specs.declared.kind.TokenKind.TheVariants as kind
use Rattle.ui_grammar.specs.Word.{Word, ident, lit, mark, words}
use Rattle.ui_parse.specs.Kind.{is_kind}
use Rattle.ui_parse.specs.Cursor.{kind_of_literal}

-- the kind of the token that a word is
abbrev pub kind_at : Word → TokenKind
kind_at (ident p) = kind.Ident
kind_at (lit k s v) = kind_of_literal k
kind_at (mark k s) = k

abbrev pub opens : TokenKind → Bool
opens kind.LParen = true
opens kind.LBracket = true
opens kind.LBrace = true
opens k = false

abbrev pub closes : TokenKind → Bool
closes kind.RParen = true
closes kind.RBracket = true
closes kind.RBrace = true
closes k = false

-- ---- words before a place, which come last first here

-- the last word is of this kind
abbrev pub last_is : TokenKind → List Word → Bool
last_is k [] = false
last_is k (w ∷ back) = is_kind (kind_at w) k

-- at a bracket that opens, where so many brackets are closed behind it
abbrev pub outer : ℕ → Option ℕ
outer zero = None
outer (suc n) = Some n

-- a semicolon that no brackets are around
abbrev pub separates : ℕ → TokenKind → Bool
separates n k = n == 0 && is_kind k kind.Semi

-- how many brackets are closed behind a word and still open before it, or none where the way back ends at the word
abbrev pub next_level : Bool → ℕ → TokenKind → Option ℕ
next_level semicolons n k =
    if closes k then Some (suc n) else if opens k then outer n else if semicolons && separates n k then None else Some n

abbrev pub or_here : Option ℕ → List Word → (ℕ → List Word) → List Word
or_here None here on = here
or_here (Some n) here on = on n

-- The words up to the innermost bracket that is open behind them, with it; with semicolons, up to the last semicolon that
-- is beside what follows, if one comes later than the bracket. The number counts the brackets that are closed behind.
abbrev pub opening : Bool → ℕ → List Word → List Word
opening semicolons n [] = []
opening semicolons n (w ∷ back) = or_here (next_level semicolons n (kind_at w)) (w ∷ back) (λ m. opening semicolons m back)

-- the words of tokens, the last first
abbrev pub back_of : List ℕ → List Token → List Word
back_of bytes ts = reverse (words bytes ts)
