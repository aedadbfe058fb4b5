-- The text of each name of a file lies within its bytes.
use Rattle.std.proofs.Common.{◌≡◌, ◌≤◌, ℕ, zero, suc, Bool, true, false, List, [], ◌∷◌, ◌++◌, length, take, drop, Option, Some, None, refl, sym, ap, subst, ◌∙◌, arith, All}
use Rattle.std.specs.List.{AllByRecursion}
use Rattle.std.proofs.lemmas.Bool.{true≢false}
use Rattle.std.proofs.lemmas.List.{drop-map, take-map}
use Rattle.std.proofs.lemmas.List.Elements.{recursion_from_All}
use Rattle.ui_scan.specs.declared.kind.Token.{Token}
use Rattle.ui_scan.specs.declared.kind.TokenKind.TheVariants as kind
use Rattle.ui_scan.specs.declared.place.Place.{Place}
use Rattle.ui_scan.specs.Scan.{token_between, due_after}
use Rattle.ui_scan.specs.Tokens.{place_at, IsLexeme, AreWords, ends_line, semicolon_before, with_semicolons, Tokens}
use Rattle.ui_scan.specs.Value.{IsIfLiteral}
use Rattle.ui_grammar.specs.Word.{word_of, words}
use Rattle.ui_parse.specs.Cursor.{is_name, IsReadable}

record IsIfName (bytes : List ℕ) (t : Token) : Type 0 where
  ordered : is_name t.kind ≡ true → t.start ≤ t.end
  within : is_name t.kind ≡ true → t.end ≤ length bytes

lexeme : (bytes : List ℕ) (t : Token) → IsLexeme bytes t → IsIfName bytes t
lexeme bytes t is = record { ordered = λ _. omega (arith, is.some_bytes); within = λ _. is.in_bytes }

other : (bytes : List ℕ) (t : Token) → is_name t.kind ≡ false → IsIfName bytes t
other bytes t no_name = record { ordered = λ name. absurd (true≢false (sym name ∙ no_name)); within = λ name. absurd (true≢false (sym name ∙ no_name)) }

joined : (bytes : List ℕ) (b : Bool) (due : Option Place) (ts : List Token) → AllByRecursion (IsIfName bytes) ts → AllByRecursion (IsIfName bytes) (semicolon_before b due ++ ts)
joined bytes true None ts each = each
joined bytes true (Some p) ts each = (other bytes (token_between kind.Semi p p) refl, each)
joined bytes false due ts each = each

in_words : (bytes : List ℕ) (due : Option Place) (at : ℕ) (ws : List Token) → AreWords bytes at ws → AllByRecursion (IsIfName bytes) (with_semicolons bytes due at ws)
in_words bytes due at [] words = tt
in_words bytes due at (t ∷ []) words = joined bytes (ends_line bytes at t) due (t ∷ []) (other bytes t (ap is_name words.1.kind), tt)
in_words bytes due at (t ∷ u ∷ ts) words =
    joined bytes (ends_line bytes at t) due _ (lexeme bytes t words.1, in_words bytes (due_after t.kind (place_at bytes t.end)) t.end (u ∷ ts) words.2)

zipped : (bytes : List ℕ) (ts : List Token) → AllByRecursion (IsIfName bytes) ts → AllByRecursion (IsIfLiteral bytes) ts → AllByRecursion (IsReadable bytes) ts
zipped bytes [] names literals = tt
zipped bytes (t ∷ ts) names literals = (record { ordered = names.0.ordered; within = names.0.within; literal = literals.0 }, zipped bytes ts names.1 literals.1)

pub readable : (bytes : List ℕ) (ts : List Token) → Tokens bytes ts → All (IsIfLiteral bytes) ts → AllByRecursion (IsReadable bytes) ts
readable bytes ts found literals = zipped bytes ts
    (subst (AllByRecursion (IsIfName bytes)) (sym found.tokens.tokens) (in_words bytes None _ found.tokens.words found.tokens.stand))
    (recursion_from_All (IsIfLiteral bytes) ts literals)

-- ---- from a place on

pub drop_words : (bytes : List ℕ) (ts : List Token) (n : ℕ) → words bytes (drop n ts) ≡ drop n (words bytes ts)
drop_words bytes ts n = sym (drop-map (word_of bytes) n ts)

pub drop_readable : (bytes : List ℕ) (n : ℕ) (ts : List Token) → AllByRecursion (IsReadable bytes) ts → AllByRecursion (IsReadable bytes) (drop n ts)
drop_readable bytes zero ts each = each
drop_readable bytes (suc n) [] each = tt
drop_readable bytes (suc n) (t ∷ ts) each = drop_readable bytes n ts each.1

-- ---- the first words

pub take_words : (bytes : List ℕ) (ts : List Token) (n : ℕ) → words bytes (take n ts) ≡ take n (words bytes ts)
take_words bytes ts n = sym (take-map (word_of bytes) n ts)

pub take_readable : (bytes : List ℕ) (n : ℕ) (ts : List Token) → AllByRecursion (IsReadable bytes) ts → AllByRecursion (IsReadable bytes) (take n ts)
take_readable bytes zero ts each = tt
take_readable bytes (suc n) [] each = tt
take_readable bytes (suc n) (t ∷ ts) each = (each.0, take_readable bytes n ts each.1)
