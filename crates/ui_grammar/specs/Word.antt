-- Tokens as the grammar sees them.
use Rattle.std.specs.Prelude.{◌≡◌, ◌⊎◌, ℕ, Bool, true, false, List, [], ◌∷◌, map}
use Rattle.ui_base.specs.declared.value.Spot.{Spot}
use Rattle.ui_base.specs.declared.value.Value.{Value}
use Rattle.ui_base.specs.declared.value.Value.TheVariants as value
use Rattle.ui_scan.specs.declared.kind.Token.{Token}
use Rattle.ui_scan.specs.declared.kind.TokenKind.{TokenKind}
use Rattle.ui_scan.specs.declared.kind.TokenKind.TheVariants.{Ident, Int, Rune, Str, Comma}
use Rattle.ui_scan.specs.Value.{text_of, value_in}
use Rattle.ui_tree.specs.declared.part.Placed.{Placed}
use Rattle.ui_tree.specs.declared.part.LiteralKind.{LiteralKind}
use Rattle.ui_tree.specs.declared.part.LiteralKind.TheVariants.{Whole, Rune as ARune, Text}

-- a name, a literal with its value, or a keyword or an operator
pub data Word : Type 0 where
  ident : Placed → Word
  lit : LiteralKind → Spot → Value → Word
  mark : TokenKind → Spot → Word

abbrev pub spot_of : Token → Spot
spot_of t = record { line = t.line; col = t.col }

abbrev pub word_of_kind : List ℕ → Token → TokenKind → Word
word_of_kind bytes t Ident = ident (record { spot = spot_of t; text = text_of bytes t })
word_of_kind bytes t Int = lit Whole (spot_of t) (value_in Int (text_of bytes t))
word_of_kind bytes t Rune = lit ARune (spot_of t) (value_in Rune (text_of bytes t))
word_of_kind bytes t Str = lit Text (spot_of t) (value_in Str (text_of bytes t))
word_of_kind bytes t k = mark k (spot_of t)

-- the word that a token of these bytes is
abbrev pub word_of : List ℕ → Token → Word
word_of bytes t = word_of_kind bytes t t.kind

abbrev pub words : List ℕ → List Token → List Word
words bytes = map (word_of bytes)

-- ---- Single words. Each fact is of a list of words and of what it leaves of them.

-- the first word is this name
abbrev pub Named : Placed → List Word → List Word → Type 0
Named p ts rest = ts ≡ ident p ∷ rest

-- the first word is this keyword or operator
pub record Mark (k : TokenKind) (ts rest : List Word) : Type 0 where
  pub spot : Spot
  pub is : ts ≡ mark k spot ∷ rest

-- the first word is a string of this value
abbrev pub Quoted : Placed → List Word → List Word → Type 0
Quoted p ts rest = ts ≡ lit Text p.spot (value.Str p.text) ∷ rest

abbrev pub spot_at : Word → Spot
spot_at (ident p) = p.spot
spot_at (lit k s v) = s
spot_at (mark k s) = s

-- the first word stands at this spot
abbrev pub Begins : Spot → List Word → Type 0
Begins s [] = ⊥
Begins s (w ∷ ws) = spot_at w ≡ s

-- the closing mark of a list, before which a separator may stand
abbrev pub Closes : TokenKind → TokenKind → List Word → List Word → Type 0
Closes separator close ts rest = Mark close ts rest ⊎ ((m : List Word) × Mark separator ts m × Mark close m rest)

-- this mark where the flag is set, else nothing
abbrev pub If : Bool → TokenKind → List Word → List Word → Type 0
If true k ts rest = Mark k ts rest
If false k ts rest = ts ≡ rest

-- names with commas between, at least one
abbrev pub NamesTail : List Placed → List Word → List Word → Type 0
NamesTail [] ts rest = ts ≡ rest
NamesTail (p ∷ ps) ts rest = (m n : List Word) × Mark Comma ts m × Named p m n × NamesTail ps n rest

abbrev pub Names : List Placed → List Word → List Word → Type 0
Names [] ts rest = ⊥
Names (p ∷ ps) ts rest = (m : List Word) × Named p ts m × NamesTail ps m rest
