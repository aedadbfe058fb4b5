-- What is read is the longest token.
use Rattle.std.proofs.Common.{◌≡◌, ℕ, ◌-◌, ◌<◌, List, ◌++◌, length, take, drop, refl, sym, ap, ◌∙◌, subst, arith}
use Rattle.std.specs.Prelude.{◌==◌, ◌&&◌, slice_index}
use Rattle.std.proofs.lemmas.Bool.{eqb-true}
use Rattle.std.proofs.lemmas.List.{take-append-drop, length-take-le, length-drop}
use Rattle.ui_scan.specs.Language.{IsToken}
use Rattle.ui_scan.specs.Language.IsToken.{identifier, keyword, operator as operator_token, int, rune as rune_token, string as string_token, raw_string as raw_token}
use Rattle.ui_scan.specs.Letters.{begins_name}
use Rattle.ui_scan.specs.Longest.{IsLongestToken, ReadsTheLongest}
use Rattle.ui_scan.specs.Piece.{lexeme, word, is_decimal, IsPieceIn}
use Rattle.ui_scan.specs.Table.{operators, operator}
use Rattle.ui_scan.specs.Tokens.{IsLexeme}
use Rattle.ui_scan.specs.declared.kind.Token.{Token}
use Rattle.ui_scan.specs.declared.kind.TokenKind.{TokenKind}
use Rattle.ui_scan.specs.declared.piece.Piece.{Piece}
use Rattle.ui_scan.specs.declared.piece.Piece.TheVariants as a
use Rattle.ui_scan.proofs.PieceLaws.{tested, lexeme_in}
use Rattle.ui_scan.proofs.Readings.{Outdone, Reads, Sound, HasAtLeast}
use Rattle.ui_scan.proofs.WordLanguage.{identifier_reads, keyword_reads, word_sound}
use Rattle.ui_scan.proofs.OperatorLanguage.{Spells, operator_reads, operator_sound}
use Rattle.ui_scan.proofs.NumberLanguage.{int_reads, number_sound, faulty_reads}
use Rattle.ui_scan.proofs.LiteralLanguage.{string_reads, rune_reads, raw_string_reads, string_sound, rune_sound, raw_string_sound}

-- where a token stands
token_reads : (kind : TokenKind) (text rest : List ℕ) → IsToken kind text → Reads (text ++ rest) kind (length text) (lexeme (text ++ rest))
token_reads kind text rest (identifier is name) = identifier_reads kind text rest is name
token_reads kind text rest (keyword is) = keyword_reads kind text rest is
token_reads kind text rest (operator_token is) = operator_reads kind text rest is
token_reads kind text rest (int is i) = int_reads kind text rest is i
token_reads kind text rest (rune_token is r) = rune_reads kind text rest is r
token_reads kind text rest (string_token is s) = string_reads kind text rest is s
token_reads kind text rest (raw_token is r) = raw_string_reads kind text rest is r

-- what is read is a token
operator_is : (bytes : List ℕ) (p : Piece) → Spells operators bytes p → Sound bytes p
operator_is bytes (a.Blank len ends_line) spells = tt
operator_is bytes (a.Token kind len) spells = operator_token spells
operator_is bytes (a.Fault kind at) spells = tt
operator_is bytes (a.Open kind) spells = tt

lexeme_sound : (bytes : List ℕ) → Sound bytes (lexeme bytes)
unfolding lexeme word
lexeme_sound bytes =
    let b = slice_index bytes 0 in
    tested (Sound bytes) (b == 34) _ _ (λ e. string_sound bytes (eqb-true b 34 e))
    (λ _. tested (Sound bytes) (b == 39) _ _ (λ e. rune_sound bytes (eqb-true b 39 e))
    (λ _. tested (Sound bytes) (b == 96) _ _ (λ e. raw_string_sound bytes (eqb-true b 96 e))
    (λ _. tested (Sound bytes) (is_decimal b) _ _ (λ digit. number_sound bytes digit)
    (λ _. tested (Sound bytes) (b == 46 && is_decimal (slice_index bytes 1)) _ _ (λ _. tt)
    (λ _. tested (Sound bytes) (begins_name bytes) (word bytes) (operator bytes) (λ begins. word_sound bytes begins)
    (λ _. operator_is bytes (operator bytes) (operator_sound bytes)))))))

reads_in : (bytes : List ℕ) (kind : TokenKind) (text rest : List ℕ) → IsToken kind text → bytes ≡ text ++ rest → Reads bytes kind (length text) (lexeme bytes)
reads_in bytes kind text rest token spelling = subst (λ t. Reads t kind (length text) (lexeme t)) (sym spelling) (token_reads kind text rest token)

pub read_is_longest : (bytes : List ℕ) (kind : TokenKind) (len : ℕ) → 0 < length bytes → lexeme bytes ≡ a.Token kind len → IsLongestToken bytes kind len
read_is_longest bytes kind len long is = record {
  within = (let p : IsPieceIn (length bytes) (a.Token kind len) = subst (IsPieceIn (length bytes)) is (lexeme_in bytes long) in p.1);
  token = (let s : Sound bytes (a.Token kind len) = subst (Sound bytes) is (lexeme_sound bytes) in s);
  longest = record {
    of_tokens = λ other text rest token spelling.
        let r : Reads bytes other (length text) (a.Token kind len) = subst (Reads bytes other (length text)) is (reads_in bytes other text rest token spelling) in r.0;
    of_faulty = λ text rest faulty spelling.
        let r : HasAtLeast (length text) (a.Token kind len) = subst (HasAtLeast (length text)) (sym (ap lexeme spelling) ∙ is) (faulty_reads text rest faulty) in r;
  };
}

longest_is_read : (bytes : List ℕ) (kind : TokenKind) (len : ℕ) → 0 < length bytes → IsLongestToken bytes kind len → lexeme bytes ≡ a.Token kind len
longest_is_read bytes kind len long it =
    by_piece (lexeme bytes) refl (reads_in bytes kind (take len bytes) (drop len bytes) it.token (sym (take-append-drop len bytes)))
  where
    own : length (take len bytes) ≡ len
    own = length-take-le len bytes it.within

    outdone : Outdone bytes (length (take len bytes)) → ⊥
    outdone o = omega (arith, own, o.longer, it.longest.of_faulty o.text o.rest o.faulty o.spelling)

    by_piece : (p : Piece) → lexeme bytes ≡ p → Reads bytes kind (length (take len bytes)) p → lexeme bytes ≡ a.Token kind len
    by_piece (a.Blank n ends_line) is reads = absurd reads
    by_piece (a.Token k n) is reads =
        let other = read_is_longest bytes k n long is in
        let no_longer = it.longest.of_tokens k (take n bytes) (drop n bytes) other.token (sym (take-append-drop n bytes)) in
        let same : n ≡ len = omega (arith, own, reads.0, no_longer, length-take-le n bytes other.within) in
        is ∙ ap (λ m. a.Token k m) same ∙ ap (λ x. a.Token x len) (sym (reads.1 (own ∙ sym same)))
    by_piece (a.Fault k at) is reads = absurd (outdone reads)
    by_piece (a.Open k) is reads = absurd (outdone reads)

pub reads_the_longest : ReadsTheLongest
reads_the_longest bytes kind len long = (read_is_longest bytes kind len long, longest_is_read bytes kind len long)

-- the token of a file is read
pub lexeme_read : (bytes : List ℕ) (t : Token) → IsLexeme bytes t → lexeme (drop t.start bytes) ≡ a.Token t.kind (t.end - t.start)
lexeme_read bytes t token =
    longest_is_read (drop t.start bytes) t.kind (t.end - t.start) (omega (arith, token.some_bytes, token.in_bytes, length-drop t.start bytes)) token.longest
