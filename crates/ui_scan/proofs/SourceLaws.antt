-- Which bytes are a source, and the tokens of a file.
use Rattle.std.proofs.Common.{◌≡◌, ℕ, zero, suc, ◌+◌, ◌-◌, ◌<◌, ◌≤◌, Bool, true, false, cond, List, [], ◌∷◌, length, take, drop, get_or, refl, sym, ap, ◌∙◌, subst, arith, ⊎_elim}
use Rattle.ui_scan.specs.Steps.{GivesAll}
use Rattle.ui_scan.specs.declared.scanner.TokensFault.{TokensFault}
use Rattle.std.specs.declared.alloc.Global.{Global}
use Rattle.std.specs.Prelude.{Option, Some, None, Result, Ok, Err, IsErr, IfOk, Vec, nat_lt, ◌==◌, ◌||◌}
use Rattle.std.specs.Str.{IsUtf8}
use Rattle.std.proofs.lemmas.Str.{utf8_valid_len-IsUtf8, utf8_valid_len_le}
use Rattle.std.proofs.lemmas.Bool.{cases_Bool, ltb-false, le-ltb, true≢false, eq-eqb, ne_eqb}
use Rattle.std.proofs.lemmas.List.{take_all, length-drop, length-take}
use Rattle.ui_scan.specs.Piece.{piece}
use Rattle.ui_scan.specs.Source.{begins_mark, mark, clean_len, mark_len, after_mark, valid_len, clean_part, text_len, text_fault}
use Rattle.ui_scan.specs.Scan.{Outcome, move_by, follow, outcome_from, outcome, scanned, all_with, tokens_of, past}
use Rattle.ui_scan.specs.Tokens.{IsSource, place_at, Tokens}
use Rattle.ui_scan.specs.declared.place.Place.{Place}
use Rattle.ui_scan.specs.declared.kind.Token.{Token}
use Rattle.ui_scan.specs.declared.kind.ScanKind.{ScanKind}
use Rattle.ui_scan.specs.declared.kind.ScanKind.TheVariants.{BadByte, BadUtf8}
use Rattle.ui_scan.specs.declared.kind.ScanFault.{ScanFault}
use Rattle.ui_scan.specs.declared.piece.Piece.{Piece}
use Rattle.ui_scan.specs.declared.piece.Piece.TheVariants as a
use Rattle.ui_scan.proofs.PieceLaws.{tested, starts_with_is}
use Rattle.ui_scan.proofs.LetterLaws.{valid_is_utf8}
use Rattle.ui_scan.proofs.TokenLaws.{sound, complete}

-- a text before a fault ends in one
only_err_follows : (kind : ScanKind) (due : Option Place) (p : Place) (bytes : List ℕ) (x : Piece) (next : Option Place → ℕ → Outcome)
    → ((d : Option Place) (n : ℕ) → IsErr (next d n).ends) → IsErr (follow (move_by (Some kind) due p bytes x) next).ends
only_err_follows kind due p bytes (a.Blank len true) next each = each None len
only_err_follows kind due p bytes (a.Blank len false) next each = each due len
only_err_follows kind due p bytes (a.Token k len) next each = each _ len
only_err_follows kind due p bytes (a.Fault k at) next each = refl
only_err_follows kind due p bytes (a.Open k) next each = refl

only_err : (kind : ScanKind) (due : Option Place) (p : Place) (k : ℕ) (bytes : List ℕ) → IsErr (outcome_from (Some kind) due p k bytes).ends
only_err kind due p k [] = refl
only_err kind due p (suc k) (b ∷ bytes) = only_err kind due (past p b) k bytes
only_err kind due p zero (b ∷ bytes) =
    only_err_follows kind due p (b ∷ bytes) (piece (b ∷ bytes)) (λ d n. outcome_from (Some kind) d (past p b) (n - 1) bytes)
    (λ d n. only_err kind d (past p b) (n - 1) bytes)

neither : (x y : Bool) → (x || y) ≡ false → (x ≡ false) × (y ≡ false)
neither true y e = absurd (true≢false e)
neither false y e = (refl, e)

-- the first byte is clean where any is counted
first_counts : (b : ℕ) (bytes : List ℕ) (i : ℕ) → i < clean_len (b ∷ bytes) → ((b == 0 || begins_mark (b ∷ bytes)) ≡ false) × (i < 1 + clean_len bytes)
first_counts b bytes i lt =
    ⊎_elim
    (λ bad. absurd (let e : clean_len (b ∷ bytes) ≡ 0 = ap (λ t. cond t 0 (1 + clean_len bytes)) bad in let x : ⊥ = omega (arith, e) in x))
    (λ good. (good, let e : clean_len (b ∷ bytes) ≡ 1 + clean_len bytes = ap (λ t. cond t 0 (1 + clean_len bytes)) good in omega (arith, e)))
    (cases_Bool (b == 0 || begins_mark (b ∷ bytes)))

-- each byte before the first that isn't clean is clean
clean_each : (bytes : List ℕ) (i : ℕ) → i < clean_len bytes → (get_or bytes i 0 ≡ 0 → ⊥) × (begins_mark (drop i bytes) ≡ false)
clean_each [] i lt = absurd (let x : ⊥ = omega arith in x)
clean_each (b ∷ bytes) zero lt =
    let p = neither (b == 0) (begins_mark (b ∷ bytes)) (first_counts b bytes zero lt).0 in
    (λ e. true≢false (sym (eq-eqb b 0 e) ∙ p.0), p.1)
clean_each (b ∷ bytes) (suc i) lt = clean_each bytes i (let f = (first_counts b bytes (suc i) lt).1 in omega arith)

-- and bytes that are clean are counted
all_clean : (bytes : List ℕ) → ((i : ℕ) → i < length bytes → get_or bytes i 0 ≡ 0 → ⊥) → ((i : ℕ) → i < length bytes → begins_mark (drop i bytes) ≡ false) → clean_len bytes ≡ length bytes
all_clean [] no_zero no_mark = refl
all_clean (b ∷ bytes) no_zero no_mark =
    let rest = all_clean bytes (λ i lt. no_zero (suc i) (omega arith)) (λ i lt. no_mark (suc i) (omega arith)) in
    let e : clean_len (b ∷ bytes) ≡ 1 + clean_len bytes =
    ap (λ t. cond (t || begins_mark (b ∷ bytes)) 0 (1 + clean_len bytes)) (ne_eqb b 0 (no_zero zero (omega arith)))
    ∙ ap (λ t. cond t 0 (1 + clean_len bytes)) (no_mark zero (omega arith)) in
    omega (arith, e, rest)

clean_len-le : (bytes : List ℕ) → clean_len bytes ≤ length bytes
clean_len-le [] = omega arith
clean_len-le (b ∷ bytes) =
    tested (λ n. n ≤ suc (length bytes)) (b == 0 || begins_mark (b ∷ bytes)) 0 (1 + clean_len bytes) (λ _. omega arith) (λ _. omega (arith, clean_len-le bytes))

pub mark_within : (bytes : List ℕ) → mark_len bytes ≤ length bytes
unfolding mark_len
mark_within bytes =
    tested (λ n. n ≤ length bytes) (begins_mark bytes) 3 0
    (λ found. omega (arith, ap length (starts_with_is bytes mark found), length-take 3 bytes)) (λ _. omega arith)

-- a source is a text whole
pub record IsWholeText (bytes : List ℕ) : Type 0 where
  pub no_fault : text_fault bytes ≡ None
  pub whole : text_len bytes ≡ length bytes

source_is : (bytes : List ℕ) → text_fault bytes ≡ None → IsSource bytes × IsWholeText bytes
unfolding text_fault text_len
source_is bytes no_fault =
    let rest = after_mark bytes in
    let valid = valid_len bytes in
    let clean = clean_part bytes in
    let part : clean ≤ length (take valid rest) = clean_len-le (take valid rest) in
    let high : valid ≤ length rest = utf8_valid_len_le rest in
    let tests = by_tests (nat_lt clean valid) (nat_lt valid (length rest)) no_fault in
    let c : valid ≤ clean = ltb-false clean valid tests.0 in
    let v : length rest ≤ valid = ltb-false valid (length rest) tests.1 in
    let all_ : take valid rest ≡ rest = take_all valid rest v in
    let counted : clean_len rest ≡ length rest = (let e = ap clean_len all_ in let f = ap length all_ in omega arith) in (
      record {
        utf8 = subst IsUtf8 all_ (valid_is_utf8 rest);
        no_zero = λ i lt. (clean_each rest i (omega (arith, counted))).0;
        no_mark = λ i lt. (clean_each rest i (omega (arith, counted))).1;
      },
      record {
        no_fault = no_fault;
        whole = (let l = length-drop (mark_len bytes) bytes in let m = mark_within bytes in let e = ap clean_len all_ in omega arith);
      },
    )
  where
    by_tests : (x y : Bool) → cond x (Some BadByte) (cond y (Some BadUtf8) None) ≡ None → (x ≡ false) × (y ≡ false)
    by_tests true y e = absurd (cc)
    by_tests false true e = absurd (cc)
    by_tests false false e = (refl, refl)

is_source : (bytes : List ℕ) → IsSource bytes → IsWholeText bytes
unfolding text_fault text_len
is_source bytes source =
    let rest = after_mark bytes in
    let valid : valid_len bytes ≡ length rest = utf8_valid_len-IsUtf8 rest source.utf8 in
    let all_ : take (valid_len bytes) rest ≡ rest = take_all (valid_len bytes) rest (omega (arith, valid)) in
    let clean : clean_part bytes ≡ length rest = ap clean_len all_ ∙ all_clean rest source.no_zero source.no_mark in
    record {
      no_fault = ap (λ t. cond t (Some BadByte) (cond (nat_lt (valid_len bytes) (length rest)) (Some BadUtf8) None)) (le-ltb (clean_part bytes) (valid_len bytes) (omega (arith, valid, clean)))
          ∙ ap (λ t. cond t (Some BadUtf8) None) (le-ltb (valid_len bytes) (length rest) (omega (arith, valid)));
      whole = omega (arith, clean, length-drop (mark_len bytes) bytes, mark_within bytes);
    }

-- the whole scan, of a source
scan_is : (bytes : List ℕ) → IsWholeText bytes → scanned bytes ≡ outcome bytes None None (place_at bytes (mark_len bytes))
unfolding scanned
scan_is bytes whole =
    ap (λ t. outcome t (text_fault bytes) None (place_at bytes (mark_len bytes))) (take_all (text_len bytes) bytes (omega (arith, whole.whole)))
    ∙ ap (λ f. outcome bytes f None (place_at bytes (mark_len bytes))) whole.no_fault

err_no_tokens : (front : List Token) (ends : Result Token ScanFault) (ts : List Token) → IsErr ends → all_with front ends ≡ Ok ts → ⊥
err_no_tokens front (Ok t) ts err gives = true≢false (sym err)
err_no_tokens front (Err f) ts err gives = cc

scan_fails : (bytes : List ℕ) (kind : ScanKind) → text_fault bytes ≡ Some kind → IsErr (scanned bytes).ends
unfolding scanned outcome
scan_fails bytes kind fault =
    subst (λ f. IsErr (outcome_from f None (place_at bytes (mark_len bytes)) 0 (drop (place_at bytes (mark_len bytes)).at (take (text_len bytes) bytes))).ends) (sym fault)
    (only_err kind None (place_at bytes (mark_len bytes)) 0 (drop (place_at bytes (mark_len bytes)).at (take (text_len bytes) bytes)))

-- the tokens of a file
pub tokens_sound : (bytes : List ℕ) (ts : List Token) → tokens_of bytes ≡ Ok ts → Tokens bytes ts
unfolding tokens_of
tokens_sound bytes ts gives = by_fault (text_fault bytes) refl
  where
    by_fault : (f : Option ScanKind) → text_fault bytes ≡ f → Tokens bytes ts
    by_fault None none_ =
        let s = source_is bytes none_ in
        record {
          source = s.0;
          tokens = sound bytes (mark_len bytes) ts (mark_within bytes) (ap (λ (o : Outcome). all_with o.front o.ends) (sym (scan_is bytes s.1)) ∙ gives);
        }
    by_fault (Some kind) fault = absurd (err_no_tokens (scanned bytes).front (scanned bytes).ends ts (scan_fails bytes kind fault) gives)

pub tokens_complete : (bytes : List ℕ) (ts : List Token) → Tokens bytes ts → tokens_of bytes ≡ Ok ts
unfolding tokens_of
tokens_complete bytes ts found =
    ap (λ (o : Outcome). all_with o.front o.ends) (scan_is bytes (is_source bytes found.source)) ∙ complete bytes (mark_len bytes) ts (mark_within bytes) found.tokens

-- what a call gives, in these words
pub found_tokens : (bytes : List ℕ) (r : Result (Vec Token Global) TokensFault) → GivesAll (tokens_of bytes) r → IfOk r (λ v. Tokens bytes v.items)
found_tokens bytes (Ok v) gives = tokens_sound bytes v.items gives
found_tokens bytes (Err e) gives = tt

pub only_tokens : (bytes : List ℕ) (r : Result (Vec Token Global) TokensFault) (ts : List Token) → tokens_of bytes ≡ Ok ts → GivesAll (tokens_of bytes) r → GivesAll (Ok ts) r
only_tokens bytes r ts is gives = subst (λ w. GivesAll w r) is gives
