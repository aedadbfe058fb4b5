-- Words before a place, by the tokens that the code looks at.
use Rattle.std.proofs.Common.{◌≡◌, ℕ, List, length, take, drop, reverse, refl, ap, sym, ◌∙◌}
use Rattle.std.proofs.lemmas.List.{length-reverse, length-map, take-map, drop-map}
use Rattle.ui_scan.specs.declared.kind.Token.{Token}
use Rattle.ui_scan.specs.declared.kind.TokenKind.{TokenKind}
use Rattle.ui_scan.specs.declared.kind.TokenKind.TheVariants as kind
use Rattle.ui_grammar.specs.Word.{word_of_kind, word_of, words}
use Rattle.ui_pexpr.specs.Back.{kind_at, back_of}
use Rattle.ui_pexpr.specs.Faults.{front_of}

kinds : (bytes : List ℕ) (t : Token) (k : TokenKind) → kind_at (word_of_kind bytes t k) ≡ k
kinds bytes t kind.Ident = refl
kinds bytes t kind.Int = refl
kinds bytes t kind.Rune = refl
kinds bytes t kind.Str = refl
kinds bytes t k = refl

pub kind_of_token : (bytes : List ℕ) (t : Token) → kind_at (word_of bytes t) ≡ t.kind
kind_of_token bytes t = kinds bytes t t.kind

pub back_length : (bytes : List ℕ) (ts : List Token) → length (back_of bytes ts) ≡ length ts
back_length bytes ts = length-reverse (words bytes ts) ∙ length-map ts (word_of bytes)

-- the words of a front, by its tokens
pub front_back : (bytes : List ℕ) (ts front : List Token) (from count : ℕ) → front ≡ take count (drop from ts) → back_of bytes front ≡ reverse (front_of bytes ts from count)
front_back bytes ts front from count is =
    ap (back_of bytes) is
    ∙ ap reverse (sym (take-map (word_of bytes) count (drop from ts)) ∙ ap (take count) (sym (drop-map (word_of bytes) from ts)))
