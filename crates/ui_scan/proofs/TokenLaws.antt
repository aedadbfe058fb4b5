-- The scan gives the tokens of a file, and no others.
use Rattle.std.proofs.Common.{◌≡◌, ℕ, zero, suc, ◌+◌, ◌-◌, ◌<◌, ◌≤◌, Bool, true, false, List, [], ◌∷◌, ◌++◌, length, take, drop, refl, sym, ap, ◌∙◌, subst, arith, append_assoc, ⊎_elim}
use Rattle.std.specs.Prelude.{Option, None, Result, Ok, Err, ◌||◌}
use Rattle.std.specs.List.{list_any, concat}
use Rattle.std.proofs.lemmas.Bool.{cases_lt}
use Rattle.std.proofs.lemmas.List.{length-drop, length-append, length-take-le, drop-drop, drop_at, take_at, take-append-drop}
use Rattle.ui_scan.specs.Piece.{piece, lexeme, is_line_end, is_end, IsPieceIn}
use Rattle.ui_scan.specs.Scan.{place_after, origin, Outcome, at_end, semicolons, token_between, due_after, fault_at, open_fault, then_outcome, outcome, all_with}
use Rattle.ui_scan.specs.Tokens.{IsBlank, AreBlanks, begins_blank, IsLexeme, place_at, Stands, IsLast, AreWords, ends_line, semicolon_before, with_semicolons, AreTokensFrom}
use Rattle.ui_scan.specs.declared.place.Place.{Place}
use Rattle.ui_scan.specs.declared.kind.Token.{Token}
use Rattle.ui_scan.specs.declared.kind.ScanFault.{ScanFault}
use Rattle.ui_scan.specs.declared.kind.TokenKind.{TokenKind}
use Rattle.ui_scan.specs.declared.kind.TokenKind.TheVariants.{End}
use Rattle.ui_scan.specs.declared.piece.Piece.{Piece}
use Rattle.ui_scan.specs.declared.piece.Piece.TheVariants as a
use Rattle.ui_scan.proofs.LongestLaws.{read_is_longest, lexeme_read}
use Rattle.ui_scan.proofs.PieceLaws.{piece_in}
use Rattle.ui_scan.proofs.BlankLaws.{blank_piece, piece_is_blank, IsBlankOf, piece_by_lexeme, piece_token}
use Rattle.ui_scan.proofs.ScanLaws.{place_after-append, place_after_at, outcome_end, by_blank, by_line, by_token, by_fault, by_open}

list_any-append : (p : ℕ → Bool) (xs ys : List ℕ) → list_any p (xs ++ ys) ≡ (list_any p xs || list_any p ys)
list_any-append p [] ys = refl
list_any-append p (x ∷ xs) ys = ap (λ t. p x || t) (list_any-append p xs ys) ∙ sym (or_assoc (p x) (list_any p xs) (list_any p ys))
  where
    or_assoc : (x y z : Bool) → (x || y || z) ≡ (x || (y || z))
    or_assoc true y z = refl
    or_assoc false y z = refl

nothing_taken : (len : ℕ) → take {A = ℕ} len [] ≡ []
nothing_taken zero = refl
nothing_taken (suc len) = refl

take_join : (bytes : List ℕ) (m n : ℕ) → take m bytes ++ take n (drop m bytes) ≡ take (m + n) bytes
take_join bytes zero n = ap (λ k. take k bytes) (let e : n ≡ 0 + n = omega arith in e)
take_join [] (suc m) n = nothing_taken n ∙ ap (λ k. take {A = ℕ} k []) (let e : suc (m + n) ≡ suc m + n = omega arith in e)
take_join (b ∷ bytes) (suc m) n =
    ap (λ t. b ∷ t) (take_join bytes m n) ∙ ap (λ k. take k (b ∷ bytes)) (let e : suc (m + n) ≡ suc m + n = omega arith in e)

-- the place behind some more bytes
place_more : (bytes : List ℕ) (at len : ℕ) → place_after (place_at bytes at) (take len (drop at bytes)) ≡ place_at bytes (at + len)
place_more bytes at len = sym (place_after-append origin (take at bytes) (take len (drop at bytes))) ∙ ap (place_after origin) (take_join bytes at len)

place_at_at : (bytes : List ℕ) (at : ℕ) → at ≤ length bytes → (place_at bytes at).at ≡ at
place_at_at bytes at le = place_after_at origin (take at bytes) ∙ (let e = length-take-le at bytes le in omega (arith, e))

-- the bytes between two offsets, with a third between them
between_more : (bytes : List ℕ) (at mid end : ℕ) → at ≤ mid → mid ≤ end → end ≤ length bytes
    → take (end - at) (drop at bytes) ≡ take (mid - at) (drop at bytes) ++ take (end - mid) (drop mid bytes)
between_more bytes at mid end le le' within =
    let e : end - at ≡ (mid - at) + (end - mid) = omega arith in
    let f : at + (mid - at) ≡ mid = omega arith in
    ap (λ n. take n (drop at bytes)) e ∙ sym (take_join (drop at bytes) (mid - at) (end - mid))
    ∙ ap (λ t. take (mid - at) (drop at bytes) ++ take (end - mid) t) (drop-drop (mid - at) at bytes ∙ ap (λ n. drop n bytes) f)

-- a line ends before a token where one does in the white space or comment at the front, or behind that
ends_line_more : (bytes : List ℕ) (at len : ℕ) (t : Token) → at + len ≤ t.start → t.start ≤ length bytes
    → ends_line bytes at t ≡ (list_any is_line_end (take len (drop at bytes)) || ends_line bytes (at + len) t)
ends_line_more bytes at len t le within =
    let e : at + len - at ≡ len = omega arith in
    let cut = between_more bytes at (at + len) t.start (omega arith) le within ∙ ap (λ n. take n (drop at bytes) ++ take (t.start - (at + len)) (drop (at + len) bytes)) e in
    let any = ap (list_any is_line_end) cut ∙ list_any-append is_line_end (take len (drop at bytes)) (take (t.start - (at + len)) (drop (at + len) bytes)) in
    ap (λ b. is_end t.kind || b) any ∙ swapped (is_end t.kind) (list_any is_line_end (take len (drop at bytes))) (list_any is_line_end (take (t.start - (at + len)) (drop (at + len) bytes)))
  where
    swapped : (x y z : Bool) → (x || (y || z)) ≡ (y || (x || z))
    swapped true true z = refl
    swapped true false z = refl
    swapped false y z = refl

-- a place in the text, and the pieces behind it
module _ (bytes : List ℕ) (at : ℕ) (le : at ≤ length bytes) where
  here : drop at bytes ≡ drop (place_at bytes at).at bytes
  here = ap (λ n. drop n bytes) (sym (place_at_at bytes at le))

  place_behind : (len : ℕ) → place_at bytes (at + len) ≡ place_after (place_at bytes at) (take len (drop at bytes))
  place_behind len = sym (place_more bytes at len)

  at_blank : (due : Option Place) (len : ℕ) → 1 ≤ len → len ≤ length (drop at bytes) → piece (drop at bytes) ≡ a.Blank len false
      → outcome bytes None due (place_at bytes at) ≡ outcome bytes None due (place_at bytes (at + len))
  at_blank due len low high is = by_blank bytes None due (place_at bytes at) (drop at bytes) here len (place_at bytes (at + len)) low high (sym is) (place_behind len)

  at_line : (due : Option Place) (len : ℕ) → 1 ≤ len → len ≤ length (drop at bytes) → piece (drop at bytes) ≡ a.Blank len true
      → outcome bytes None due (place_at bytes at) ≡ then_outcome (semicolons due) (outcome bytes None None (place_at bytes (at + len)))
  at_line due len low high is = by_line bytes None due (place_at bytes at) (drop at bytes) here len (place_at bytes (at + len)) low high (sym is) (place_behind len)

  at_token : (due : Option Place) (kind : TokenKind) (len : ℕ) → 1 ≤ len → len ≤ length (drop at bytes) → piece (drop at bytes) ≡ a.Token kind len
      → outcome bytes None due (place_at bytes at)
      ≡ then_outcome (token_between kind (place_at bytes at) (place_at bytes (at + len)) ∷ []) (outcome bytes None (due_after kind (place_at bytes (at + len))) (place_at bytes (at + len)))
  at_token due kind len low high is = by_token bytes None due (place_at bytes at) (drop at bytes) here kind len (place_at bytes (at + len)) low high (sym is) (place_behind len)

  before_end : at < length bytes → (place_at bytes at).at < length bytes
  before_end lt = omega (arith, place_at_at bytes at le)

  at_the_end : (due : Option Place) → length bytes ≤ at → outcome bytes None due (place_at bytes at) ≡ at_end None due (place_at bytes at)
  at_the_end due ge = outcome_end bytes None due (place_at bytes at) (omega (arith, place_at_at bytes at le))

-- white space or a comment before a token
stands_back : (bytes : List ℕ) (at len : ℕ) (t : Token) → IsBlank (take len (drop at bytes)) (drop len (drop at bytes)) → Stands bytes (at + len) t → Stands bytes at t
stands_back bytes at len t blank s =
    let rest : drop len (drop at bytes) ≡ concat s.gap.blanks ++ drop t.start bytes = drop-drop len at bytes ∙ s.gap.spelling in
    record {
      ascends = omega (arith, s.ascends);
      within = s.within;
      gap = record {
        blanks = take len (drop at bytes) ∷ s.gap.blanks;
        spelling = sym (take-append-drop len (drop at bytes)) ∙ ap (λ x. take len (drop at bytes) ++ x) rest
            ∙ sym (append_assoc (take len (drop at bytes)) (concat s.gap.blanks) (drop t.start bytes));
        each = (subst (IsBlank (take len (drop at bytes))) rest blank, s.gap.each);
      };
      line = s.line;
      col = s.col;
    }

words_back : (bytes : List ℕ) (at mid : ℕ) (t : Token) (ts : List Token) → (Stands bytes mid t → Stands bytes at t) → AreWords bytes mid (t ∷ ts) → AreWords bytes at (t ∷ ts)
words_back bytes at mid t [] back w = (back w.0, w.1)
words_back bytes at mid t (u ∷ us) back w = (back w.0, w.1, w.2)

words_stand : (bytes : List ℕ) (at : ℕ) (t : Token) (ts : List Token) → AreWords bytes at (t ∷ ts) → Stands bytes at t
words_stand bytes at t [] w = w.0
words_stand bytes at t (u ∷ us) w = w.0

none_due : (b : Bool) → semicolon_before b None ≡ []
none_due true = refl
none_due false = refl

-- the semicolons before the same tokens from further ahead, behind no line's end or behind one
ahead_same : (bytes : List ℕ) (due : Option Place) (at len : ℕ) (t : Token) (ts : List Token) → at + len ≤ t.start → t.start ≤ length bytes
    → list_any is_line_end (take len (drop at bytes)) ≡ false → with_semicolons bytes due (at + len) (t ∷ ts) ≡ with_semicolons bytes due at (t ∷ ts)
ahead_same bytes due at len t ts le within no_line =
    ap (λ b. semicolon_before b due ++ (t ∷ with_semicolons bytes (due_after t.kind (place_at bytes t.end)) t.end ts))
    (sym (ends_line_more bytes at len t le within ∙ ap (λ b. b || ends_line bytes (at + len) t) no_line))

ahead_line : (bytes : List ℕ) (due : Option Place) (at len : ℕ) (t : Token) (ts : List Token) → at + len ≤ t.start → t.start ≤ length bytes
    → list_any is_line_end (take len (drop at bytes)) ≡ true
    → semicolons due ++ with_semicolons bytes None (at + len) (t ∷ ts) ≡ with_semicolons bytes due at (t ∷ ts)
ahead_line bytes due at len t ts le within line =
    let others = with_semicolons bytes (due_after t.kind (place_at bytes t.end)) t.end ts in
    ap (λ xs. semicolons due ++ (xs ++ (t ∷ others))) (none_due (ends_line bytes (at + len) t))
    ∙ ap (λ b. semicolon_before b due ++ (t ∷ others)) (sym (ends_line_more bytes at len t le within ∙ ap (λ b. b || ends_line bytes (at + len) t) line))

-- what is found behind white space or a comment is found before it
found_blank : (bytes : List ℕ) (due : Option Place) (at len : ℕ) (ts : List Token) → IsBlankOf (drop at bytes) len false → AreTokensFrom bytes due (at + len) ts
    → AreTokensFrom bytes due at ts
found_blank bytes due at len ts blank found = by_words found.words found.stand found.tokens
  where
    by_words : (ws : List Token) → AreWords bytes (at + len) ws → ts ≡ with_semicolons bytes due (at + len) ws → AreTokensFrom bytes due at ts
    by_words [] stand tokens = absurd stand
    by_words (w ∷ ws) stand tokens =
        let s = words_stand bytes (at + len) w ws stand in
        record {
          words = w ∷ ws;
          stand = words_back bytes at (at + len) w ws (stands_back bytes at len w blank.blank) stand;
          tokens = tokens ∙ ahead_same bytes due at len w ws s.ascends s.within (sym blank.line);
        }

found_line : (bytes : List ℕ) (due : Option Place) (at len : ℕ) (ts : List Token) → IsBlankOf (drop at bytes) len true → AreTokensFrom bytes None (at + len) ts
    → AreTokensFrom bytes due at (semicolons due ++ ts)
found_line bytes due at len ts blank found = by_words found.words found.stand found.tokens
  where
    by_words : (ws : List Token) → AreWords bytes (at + len) ws → ts ≡ with_semicolons bytes None (at + len) ws → AreTokensFrom bytes due at (semicolons due ++ ts)
    by_words [] stand tokens = absurd stand
    by_words (w ∷ ws) stand tokens =
        let s = words_stand bytes (at + len) w ws stand in
        record {
          words = w ∷ ws;
          stand = words_back bytes at (at + len) w ws (stands_back bytes at len w blank.blank) stand;
          tokens = ap (λ xs. semicolons due ++ xs) tokens ∙ ahead_line bytes due at len w ws s.ascends s.within (sym blank.line);
        }

-- a token at once
stands_at : (bytes : List ℕ) (at : ℕ) (t : Token) → at ≤ length bytes → t.start ≡ at → t.line ≡ (place_at bytes at).line → t.col ≡ (place_at bytes at).col → Stands bytes at t
stands_at bytes at t le start line col = record {
  ascends = omega (arith, start);
  within = omega (arith, start);
  gap = record { blanks = []; spelling = ap (λ n. drop n bytes) (sym start); each = tt };
  line = line ∙ ap (λ n. (place_at bytes n).line) (sym start);
  col = col ∙ ap (λ n. (place_at bytes n).col) (sym start);
}

-- no line ends before a token that stands at once
no_line_before : (bytes : List ℕ) (at : ℕ) (t : Token) → t.start ≡ at → is_end t.kind ≡ false → ends_line bytes at t ≡ false
no_line_before bytes at t start open_ =
    ap (λ b. b || list_any is_line_end (take (t.start - at) (drop at bytes))) open_
    ∙ ap (λ n. list_any is_line_end (take n (drop at bytes))) (let e : t.start - at ≡ 0 = omega (arith, start) in e)

found_token : (bytes : List ℕ) (due : Option Place) (at len : ℕ) (t : Token) (ts : List Token) → at ≤ length bytes → 1 ≤ len → at + len ≤ length bytes → t.start ≡ at → t.end ≡ at + len
    → t.line ≡ (place_at bytes at).line → t.col ≡ (place_at bytes at).col → is_end t.kind ≡ false
    → begins_blank (drop at bytes) ≡ false → lexeme (drop at bytes) ≡ a.Token t.kind len
    → AreTokensFrom bytes (due_after t.kind (place_at bytes (at + len))) (at + len) ts → AreTokensFrom bytes due at (t ∷ ts)
found_token bytes due at len t ts le long room start end line col open_ no_blank token found =
    by_words found.words (subst (λ n. AreWords bytes n found.words) (sym end) found.stand)
    (found.tokens ∙ ap (λ n. with_semicolons bytes (due_after t.kind (place_at bytes n)) n found.words) (sym end))
  where
    by_words : (ws : List Token) → AreWords bytes t.end ws → ts ≡ with_semicolons bytes (due_after t.kind (place_at bytes t.end)) t.end ws → AreTokensFrom bytes due at (t ∷ ts)
    by_words [] stand tokens = absurd stand
    by_words (w ∷ ws) stand tokens = record {
      words = t ∷ w ∷ ws;
      stand = (
        stands_at bytes at t le start line col,
        record {
          no_blank = ap (λ n. begins_blank (drop n bytes)) start ∙ no_blank;
          some_bytes = omega (arith, start, end);
          in_bytes = omega (arith, end);
          longest = read_is_longest (drop t.start bytes) t.kind (t.end - t.start) (omega (arith, start, length-drop t.start bytes))
              (ap (λ n. lexeme (drop n bytes)) start ∙ token ∙ ap (a.Token t.kind) (let e : len ≡ t.end - t.start = omega (arith, start, end) in e));
        },
        stand,
      );
      tokens = ap (λ xs. t ∷ xs) tokens
          ∙ ap (λ b. semicolon_before b due ++ (t ∷ with_semicolons bytes (due_after t.kind (place_at bytes t.end)) t.end (w ∷ ws))) (sym (no_line_before bytes at t start open_));
    }

-- the end of the bytes
found_end : (bytes : List ℕ) (due : Option Place) (at : ℕ) (t : Token) → at ≡ length bytes → t.kind ≡ End → t.start ≡ at → t.end ≡ at
    → t.line ≡ (place_at bytes at).line → t.col ≡ (place_at bytes at).col → AreTokensFrom bytes due at (semicolons due ++ t ∷ [])
found_end bytes due at t done kind start end line col = record {
  words = t ∷ [];
  stand = (stands_at bytes at t (omega arith) start line col, record { kind = kind; start = start ∙ done; end = end ∙ done });
  tokens = ap (λ b. semicolon_before b due ++ (t ∷ [])) (sym (ap (λ k. is_end k || list_any is_line_end (take (t.start - at) (drop at bytes))) kind));
}

-- an outcome of the rest that ends well has its tokens
abbrev Found : List ℕ → Option Place → ℕ → Outcome → Type 0
Found bytes due at o = (e : Token) → o.ends ≡ Ok e → AreTokensFrom bytes due at (o.front ++ e ∷ [])

sound_at_end : (bytes : List ℕ) (due : Option Place) (at : ℕ) → at ≡ length bytes → Found bytes due at (at_end None due (place_at bytes at))
sound_at_end bytes due at done e ends =
    let same : token_between End (place_at bytes at) (place_at bytes at) ≡ e = cc in
    let p = place_at_at bytes at (omega arith) in
    subst (λ t. AreTokensFrom bytes due at (semicolons due ++ t ∷ [])) same
    (found_end bytes due at (token_between End (place_at bytes at) (place_at bytes at)) done refl p p refl refl)

-- what holds of the rest behind each piece
abbrev Next : List ℕ → ℕ → Type 0
Next bytes at = (due : Option Place) (len : ℕ) → 1 ≤ len → len ≤ length (drop at bytes) → Found bytes due (at + len) (outcome bytes None due (place_at bytes (at + len)))

sound_step : (bytes : List ℕ) (due : Option Place) (at : ℕ) → at ≤ length bytes → at < length bytes → Next bytes at
    → (x : Piece) → piece (drop at bytes) ≡ x → IsPieceIn (length (drop at bytes)) x → Found bytes due at (outcome bytes None due (place_at bytes at))
sound_step bytes due at le lt next (a.Blank len false) is within =
    let blank = piece_is_blank (drop at bytes) len false (omega (arith, length-drop at bytes)) is in
    subst (Found bytes due at) (sym (at_blank bytes at le due len within.0 within.1 is))
    (λ e ends. found_blank bytes due at len _ blank (next due len within.0 within.1 e ends))
sound_step bytes due at le lt next (a.Blank len true) is within =
    let blank = piece_is_blank (drop at bytes) len true (omega (arith, length-drop at bytes)) is in
    let o = outcome bytes None None (place_at bytes (at + len)) in
    subst (Found bytes due at) (sym (at_line bytes at le due len within.0 within.1 is))
    (λ e ends. subst (AreTokensFrom bytes due at) (sym (append_assoc (semicolons due) o.front (e ∷ [])))
    (found_line bytes due at len (o.front ++ e ∷ []) blank (next None len within.0 within.1 e ends)))
sound_step bytes due at le lt next (a.Token kind len) is within =
    let p = place_at bytes at in
    let q = place_at bytes (at + len) in
    let token = piece_token (drop at bytes) kind len is in
    let t = token_between kind p q in
    let o = outcome bytes None (due_after kind q) q in
    subst (Found bytes due at) (sym (at_token bytes at le due kind len within.0 within.1 is))
    (λ e ends. found_token bytes due at len t (o.front ++ e ∷ []) le within.0 (omega (arith, within.1, length-drop at bytes)) (place_at_at bytes at le)
    (place_at_at bytes (at + len) (omega (arith, within.1, length-drop at bytes))) refl refl within.2 token.0 token.1
    (next (due_after kind q) len within.0 within.1 e ends))
sound_step bytes due at le lt next (a.Fault kind k) is within =
    λ e ends. absurd (let f = ap (λ (o : Outcome). o.ends) (by_fault bytes None due (place_at bytes at) (drop at bytes) (here bytes at le) kind k (before_end bytes at le lt) (sym is)) in
    let g : Err (fault_at kind ((place_at bytes at).at + k)) ≡ Ok e = sym f ∙ ends in cc)
sound_step bytes due at le lt next (a.Open kind) is within =
    λ e ends. absurd (let f = ap (λ (o : Outcome). o.ends) (by_open bytes None due (place_at bytes at) (drop at bytes) (here bytes at le) kind (before_end bytes at le lt) (sym is)) in
    let g : Err (open_fault None kind (place_at bytes at) (drop at bytes)) ≡ Ok e = sym f ∙ ends in cc)

sound_from : (n : ℕ) (bytes : List ℕ) (due : Option Place) (at : ℕ) → at ≤ length bytes → length bytes ≤ at + n → Found bytes due at (outcome bytes None due (place_at bytes at))
sound_from zero bytes due at le fuel =
    subst (Found bytes due at) (sym (at_the_end bytes at le due (omega arith))) (sound_at_end bytes due at (omega arith))
sound_from (suc n) bytes due at le fuel =
    ⊎_elim
    (λ lt. sound_step bytes due at le lt
    (λ due' len low high. sound_from n bytes due' (at + len) (omega (arith, length-drop at bytes)) (omega arith))
    (piece (drop at bytes)) refl (piece_in (drop at bytes) (omega (arith, length-drop at bytes))))
    (λ ge. subst (Found bytes due at) (sym (at_the_end bytes at le due ge)) (sound_at_end bytes due at (omega arith)))
    (cases_lt at (length bytes))

-- and these tokens are the outcome
abbrev pub all_of : Outcome → Result (List Token) ScanFault
all_of o = all_with o.front o.ends

abbrev pub Yields : List ℕ → Option Place → ℕ → List Token → Type 0
Yields bytes due at ts = all_of (outcome bytes None due (place_at bytes at)) ≡ Ok ts

all_then : (ts : List Token) (o : Outcome) (us : List Token) → all_of o ≡ Ok us → all_of (then_outcome ts o) ≡ Ok (ts ++ us)
all_then ts o us is = by_ends o.front o.ends is
  where
    by_ends : (front : List Token) (ends : Result Token ScanFault) → all_with front ends ≡ Ok us → all_with (ts ++ front) ends ≡ Ok (ts ++ us)
    by_ends front (Ok t) is = ap Ok (append_assoc ts front (t ∷ []) ∙ ap (λ xs. ts ++ xs) (let e : front ++ t ∷ [] ≡ us = cc in e))
    by_ends front (Err e) is = absurd (cc)

-- a token with these parts is the one between these places
token_is : (t : Token) (p q : Place) → t.start ≡ p.at → t.end ≡ q.at → t.line ≡ p.line → t.col ≡ p.col → token_between t.kind p q ≡ t
token_is t p q start end line col = λ i. record { kind = t.kind; start = (sym start) i; end = (sym end) i; line = (sym line) i; col = (sym col) i }

-- white space and comments have a byte or more
blank_long : (text after : List ℕ) → IsBlank text after → 1 ≤ length text
blank_long text after blank =
    ⊎_elim (λ white. omega (arith, ap length white.spelling))
    (λ comment. ⊎_elim (λ line. omega (arith, ap length line.spelling)) (λ general. omega (arith, ap length general.spelling)) comment) blank

-- the tokens behind each piece
abbrev NextGives : List ℕ → ℕ → Type 0
NextGives bytes at = (due : Option Place) (len : ℕ) (ws : List Token) → 1 ≤ len → at + len ≤ length bytes → AreWords bytes (at + len) ws
    → Yields bytes due (at + len) (with_semicolons bytes due (at + len) ws)

-- a token that stands behind white space or a comment stands behind its rest
words_ahead : (bytes : List ℕ) (at mid : ℕ) (t : Token) (ts : List Token) → Stands bytes mid t → AreWords bytes at (t ∷ ts) → AreWords bytes mid (t ∷ ts)
words_ahead bytes at mid t [] s w = (s, w.1)
words_ahead bytes at mid t (u ∷ us) s w = (s, w.1, w.2)

by_line_end : (bytes : List ℕ) (due : Option Place) (at : ℕ) (t : Token) (ts : List Token) (len : ℕ) (ends : Bool) (le : at ≤ length bytes) → NextGives bytes at
    → 1 ≤ len → len ≤ length (drop at bytes) → at + len ≤ length bytes → at + len ≤ t.start → t.start ≤ length bytes → AreWords bytes (at + len) (t ∷ ts)
    → piece (drop at bytes) ≡ a.Blank len ends → list_any is_line_end (take len (drop at bytes)) ≡ ends → Yields bytes due at (with_semicolons bytes due at (t ∷ ts))
by_line_end bytes due at t ts len false le next long high room far within ahead is line =
    ap all_of (at_blank bytes at le due len long high is) ∙ next due len (t ∷ ts) long room ahead ∙ ap Ok (ahead_same bytes due at len t ts far within line)
by_line_end bytes due at t ts len true le next long high room far within ahead is line =
    ap all_of (at_line bytes at le due len long high is)
    ∙ all_then (semicolons due) (outcome bytes None None (place_at bytes (at + len))) _ (next None len (t ∷ ts) long room ahead)
    ∙ ap Ok (ahead_line bytes due at len t ts far within line)

complete_blank : (bytes : List ℕ) (due : Option Place) (at : ℕ) (t : Token) (ts : List Token) (text : List ℕ) (texts : List (List ℕ)) → at ≤ length bytes
    → NextGives bytes at → AreWords bytes at (t ∷ ts) → at ≤ t.start → t.start ≤ length bytes → drop at bytes ≡ (text ++ concat texts) ++ drop t.start bytes
    → IsBlank text (concat texts ++ drop t.start bytes) → AreBlanks texts (drop t.start bytes) → Yields bytes due at (with_semicolons bytes due at (t ∷ ts))
complete_blank bytes due at t ts text texts le next words ascends within spelling blank each =
    let len = length text in
    let after = concat texts ++ drop t.start bytes in
    let cut : drop at bytes ≡ text ++ after = spelling ∙ append_assoc text (concat texts) (drop t.start bytes) in
    let long : 1 ≤ len = blank_long text after blank in
    let high : len ≤ length (drop at bytes) = omega (arith, ap length cut, length-append text after) in
    let front : take len (drop at bytes) ≡ text = ap (take len) cut ∙ take_at text after len refl in
    let rest : drop (at + len) bytes ≡ after = sym (drop-drop len at bytes) ∙ ap (drop len) cut ∙ drop_at text after len refl in
    let room : at + len ≤ length bytes = omega (arith, high, length-drop at bytes) in
    let far : at + len ≤ t.start = omega (arith, ap length rest, length-append (concat texts) (drop t.start bytes), length-drop t.start bytes, length-drop (at + len) bytes) in
    let s = words_stand bytes at t ts words in
    let ahead = words_ahead bytes at (at + len) t ts
    (record { ascends = far; within = within; gap = record { blanks = texts; spelling = rest; each = each }; line = s.line; col = s.col }) words in
    let is : piece (drop at bytes) ≡ a.Blank len (list_any is_line_end text) = ap piece cut ∙ blank_piece text after blank in
    by_line_end bytes due at t ts len (list_any is_line_end text) le next long high room far within ahead is (ap (list_any is_line_end) front)

-- a token that stands at once
complete_end : (bytes : List ℕ) (due : Option Place) (at : ℕ) (t : Token) → at ≤ length bytes → t.start ≡ at → Stands bytes at t → IsLast bytes t
    → Yields bytes due at (with_semicolons bytes due at (t ∷ []))
complete_end bytes due at t le start s last =
    let p = place_at bytes at in
    let done : length bytes ≤ at = omega (arith, last.start, start) in
    let same : token_between End p p ≡ t =
    ap (λ k. token_between k p p) (sym last.kind)
    ∙ token_is t p p (start ∙ sym (place_at_at bytes at le)) (let e = last.end in let f = last.start in let g = place_at_at bytes at le in omega arith)
    (s.line ∙ ap (λ n. (place_at bytes n).line) start) (s.col ∙ ap (λ n. (place_at bytes n).col) start) in
    ap all_of (at_the_end bytes at le due done)
    ∙ ap (λ x. Ok (semicolons due ++ x ∷ [])) same
    ∙ ap (λ b. Ok (semicolon_before b due ++ (t ∷ []))) (sym (ap (λ k. is_end k || list_any is_line_end (take (t.start - at) (drop at bytes))) last.kind))

complete_token : (bytes : List ℕ) (due : Option Place) (at : ℕ) (t u : Token) (ts : List Token) → at ≤ length bytes → at < length bytes → NextGives bytes at → t.start ≡ at
    → Stands bytes at t → IsLexeme bytes t → AreWords bytes t.end (u ∷ ts) → Yields bytes due at (with_semicolons bytes due at (t ∷ u ∷ ts))
complete_token bytes due at t u ts le lt next start s token words =
    let len = t.end - t.start in
    let end : t.end ≡ at + len = omega (arith, token.some_bytes, start) in
    let is : piece (drop at bytes) ≡ a.Token t.kind len =
    ap (λ n. piece (drop n bytes)) (sym start) ∙ piece_by_lexeme (drop t.start bytes) token.no_blank ∙ lexeme_read bytes t token in
    let within : IsPieceIn (length (drop at bytes)) (a.Token t.kind len) =
    subst (IsPieceIn (length (drop at bytes))) is (piece_in (drop at bytes) (omega (arith, length-drop at bytes))) in
    let p = place_at bytes at in
    let q = place_at bytes (at + len) in
    let room : at + len ≤ length bytes = omega (arith, within.1, length-drop at bytes) in
    let same : token_between t.kind p q ≡ t =
    token_is t p q (start ∙ sym (place_at_at bytes at le)) (end ∙ sym (place_at_at bytes (at + len) room))
    (s.line ∙ ap (λ n. (place_at bytes n).line) start) (s.col ∙ ap (λ n. (place_at bytes n).col) start) in
    let rest = next (due_after t.kind q) len (u ∷ ts) within.0 room (subst (λ n. AreWords bytes n (u ∷ ts)) end words) in
    ap all_of (at_token bytes at le due t.kind len within.0 within.1 is)
    ∙ all_then (token_between t.kind p q ∷ []) (outcome bytes None (due_after t.kind q) q) _ rest
    ∙ ap (λ x. Ok (x ∷ with_semicolons bytes (due_after t.kind q) (at + len) (u ∷ ts))) same
    ∙ ap (λ n. Ok (t ∷ with_semicolons bytes (due_after t.kind (place_at bytes n)) n (u ∷ ts))) (sym end)
    ∙ ap (λ b. Ok (semicolon_before b due ++ (t ∷ with_semicolons bytes (due_after t.kind (place_at bytes t.end)) t.end (u ∷ ts)))) (sym (no_line_before bytes at t start within.2))

complete_here : (bytes : List ℕ) (due : Option Place) (at : ℕ) (t : Token) (ts : List Token) → at ≤ length bytes → NextGives bytes at → t.start ≡ at
    → AreWords bytes at (t ∷ ts) → Yields bytes due at (with_semicolons bytes due at (t ∷ ts))
complete_here bytes due at t [] le next start words = complete_end bytes due at t le start words.0 words.1
complete_here bytes due at t (u ∷ ts) le next start words =
    ⊎_elim
    (λ lt. complete_token bytes due at t u ts le lt next start words.0 words.1 words.2)
    (λ ge. absurd (nothing_left ge))
    (cases_lt at (length bytes))
  where
    nothing_left : length bytes ≤ at → ⊥
    nothing_left ge = omega (arith, start, words.1.some_bytes, words.1.in_bytes)

complete_step : (bytes : List ℕ) (due : Option Place) (at : ℕ) (t : Token) (ts : List Token) → at ≤ length bytes → NextGives bytes at → AreWords bytes at (t ∷ ts)
    → Yields bytes due at (with_semicolons bytes due at (t ∷ ts))
complete_step bytes due at t ts le next words = by_blanks (words_stand bytes at t ts words) (words_stand bytes at t ts words).gap.blanks
    (words_stand bytes at t ts words).gap.spelling (words_stand bytes at t ts words).gap.each
  where
    by_blanks : Stands bytes at t → (blanks : List (List ℕ)) → drop at bytes ≡ concat blanks ++ drop t.start bytes → AreBlanks blanks (drop t.start bytes)
        → Yields bytes due at (with_semicolons bytes due at (t ∷ ts))
    by_blanks s [] spelling each =
        complete_here bytes due at t ts le next
        (let low = s.ascends in let high = s.within in omega (arith, ap length spelling, length-drop at bytes, length-drop t.start bytes)) words
    by_blanks s (text ∷ texts) spelling each =
        complete_blank bytes due at t ts text texts le next words s.ascends s.within spelling each.0 each.1

complete_from : (n : ℕ) (bytes : List ℕ) (due : Option Place) (at : ℕ) (ws : List Token) → at ≤ length bytes → length bytes ≤ at + n → AreWords bytes at ws
    → Yields bytes due at (with_semicolons bytes due at ws)
complete_from n bytes due at [] le fuel words = absurd words
complete_from zero bytes due at (t ∷ ts) le fuel words =
    complete_step bytes due at t ts le (λ due' len ws long room words'. absurd (let x : ⊥ = omega arith in x)) words
complete_from (suc n) bytes due at (t ∷ ts) le fuel words =
    complete_step bytes due at t ts le
    (λ due' len ws long room words'. complete_from n bytes due' (at + len) ws room (omega arith) words') words

-- the outcome of bytes that are a text whole
pub sound : (bytes : List ℕ) (at : ℕ) (ts : List Token) → at ≤ length bytes → Yields bytes None at ts → AreTokensFrom bytes None at ts
sound bytes at ts le gives = by_ends (outcome bytes None None (place_at bytes at)).ends refl
  where
    by_ends : (ends : Result Token ScanFault) → (outcome bytes None None (place_at bytes at)).ends ≡ ends → AreTokensFrom bytes None at ts
    by_ends (Ok e) is =
        let all_ : (outcome bytes None None (place_at bytes at)).front ++ e ∷ [] ≡ ts =
        (let g : all_with (outcome bytes None None (place_at bytes at)).front (Ok e) ≡ Ok ts = ap (all_with (outcome bytes None None (place_at bytes at)).front) (sym is) ∙ gives in cc) in
        subst (AreTokensFrom bytes None at) all_ (sound_from (length bytes) bytes None at le (omega arith) e is)
    by_ends (Err f) is = absurd (let g : Err f ≡ Ok ts = ap (all_with (outcome bytes None None (place_at bytes at)).front) (sym is) ∙ gives in cc)

pub complete : (bytes : List ℕ) (at : ℕ) (ts : List Token) → at ≤ length bytes → AreTokensFrom bytes None at ts → Yields bytes None at ts
complete bytes at ts le found =
    complete_from (length bytes) bytes None at found.words le (omega arith) found.stand ∙ ap Ok (sym found.tokens)
