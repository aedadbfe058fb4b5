-- The fault of a file: what is passed before it, and what stands there.
use Rattle.std.proofs.Common.{◌≡◌, ◌⊎◌, inl, inr, ℕ, zero, suc, ◌+◌, ◌<◌, ◌≤◌, Bool, true, false, List, [], ◌∷◌, ◌++◌, length, take, drop, refl, sym, ap, ◌∙◌, subst, arith, ⊎_elim, append_assoc}
use Rattle.std.specs.Prelude.{Option, Some, None, Result, Ok, Err}
use Rattle.std.specs.List.{concat, list_any}
use Rattle.std.proofs.lemmas.Bool.{cases_lt}
use Rattle.std.proofs.lemmas.List.{take-append-drop, drop_at, length-take-le, length-drop, length-take, length-append, drop-drop, nil_from_length}
use Rattle.ui_scan.specs.Piece.{piece, is_line_end, IsPieceIn}
use Rattle.ui_scan.specs.Scan.{place_after, origin, Outcome, at_end, token_between, due_after, fault_at, open_fault, outcome, scanned, all_with, tokens_of}
use Rattle.ui_scan.specs.Source.{mark_len, text_len, text_fault}
use Rattle.ui_scan.specs.Tokens.{IsBlank, begins_blank}
use Rattle.ui_scan.specs.declared.place.Place.{Place}
use Rattle.ui_scan.specs.declared.kind.Token.{Token}
use Rattle.ui_scan.specs.declared.kind.ScanKind.{ScanKind}
use Rattle.ui_scan.specs.declared.kind.ScanFault.{ScanFault}
use Rattle.ui_scan.specs.Longest.{IsLongestToken}
use Rattle.ui_scan.specs.declared.kind.TokenKind.{TokenKind}
use Rattle.ui_scan.specs.declared.kind.TokenKind.TheVariants.{End}
use Rattle.ui_scan.specs.declared.piece.Piece.{Piece}
use Rattle.ui_scan.specs.declared.piece.Piece.TheVariants as a
use Rattle.ui_scan.proofs.BlankLaws.{blank_piece, piece_is_blank, piece_by_lexeme, piece_token}
use Rattle.ui_scan.proofs.LongestLaws.{read_is_longest, reads_the_longest}
use Rattle.ui_scan.proofs.PieceLaws.{piece_in}
use Rattle.ui_scan.proofs.ScanLaws.{place_after_at, outcome_end, by_blank, by_line, by_token, by_fault, by_open}
use Rattle.ui_tokens.specs.Faults.{IsFaultyNumber, IsFaultyLiteral, IsFaultAt, IsOpen, IsWord, ArePassed, IsFaultOf, IsScanFault, TellsScanFaults}
use Rattle.ui_tokens.specs.Faults.IsFaultyNumber.{point, float, imaginary, no_numeral, too_big}
use Rattle.ui_tokens.specs.Faults.IsFaultyLiteral.{cut_string, cut_rune, no_rune, in_string, in_rune}
use Rattle.ui_tokens.specs.Faults.IsFaultAt.{number, literal, stray}
use Rattle.ui_tokens.specs.Faults.IsOpen.{comment, string, raw_string, rune}
use Rattle.ui_tokens.specs.Faults.IsFaultOf.{here, open_, open_before, past}
use Rattle.ui_scan.proofs.SourceLaws.{mark_within}
use Rattle.ui_tokens.proofs.Fronts.{Explains, piece_explained, fault_read, open_read}

-- what holds of the rest of a text from an offset on: pieces that are passed, and the fault behind them
record Rest (end : Option ScanKind) (left : List ℕ) (kind : ScanKind) (at : ℕ) : Type 0 where
  passed : List (List ℕ)
  behind : List ℕ
  spelling : left ≡ concat passed ++ behind
  each : ArePassed passed behind
  from : ℕ
  fault : IsFaultOf end behind kind from
  stands : at ≡ length (concat passed) + from

-- one piece before
one_more : (end : Option ScanKind) (bytes : List ℕ) (len : ℕ) (kind : ScanKind) (at : ℕ) → len ≤ length bytes
    → IsBlank (take len bytes) (drop len bytes) ⊎ IsWord (take len bytes) (drop len bytes) → Rest end (drop len bytes) kind at → Rest end bytes kind (len + at)
one_more end bytes len kind at within first r = record {
  passed = take len bytes ∷ r.passed;
  behind = r.behind;
  spelling = sym (take-append-drop len bytes) ∙ ap (λ t. take len bytes ++ t) r.spelling ∙ sym (append_assoc (take len bytes) (concat r.passed) r.behind);
  each = (subst (λ t. IsBlank (take len bytes) t ⊎ IsWord (take len bytes) t) r.spelling first, r.each);
  from = r.from;
  fault = r.fault;
  stands = (let e = length-append (take len bytes) (concat r.passed) in let f = length-take-le len bytes within in let g = r.stands in omega arith);
}

at_once : (end : Option ScanKind) (bytes : List ℕ) (kind : ScanKind) (at : ℕ) → IsFaultOf end bytes kind at → Rest end bytes kind at
at_once end bytes kind at is = record { passed = []; behind = bytes; spelling = refl; each = tt; from = at; fault = is; stands = omega arith }

abbrev failed : ScanFault → Result Token ScanFault
failed f = Err f

err_of : (x y : ScanFault) → failed x ≡ failed y → x ≡ y
err_of x y e = cc

offset_of : (k kind : ScanKind) (m n : ℕ) → failed (fault_at k m) ≡ failed (fault_at kind n) → (k ≡ kind) × (m ≡ n)
offset_of k kind m n e =
    let same = err_of (fault_at k m) (fault_at kind n) e in
    (ap (λ (f : ScanFault). f.kind) same, ap (λ (f : ScanFault). f.at) same)

-- ---- what is passed leaves the end of an outcome as it is

record Passes (text : List ℕ) (end : Option ScanKind) (due : Option Place) (p : Place) (len : ℕ) : Type 0 where
  due_then : Option Place
  place : Place
  ahead : place.at ≡ p.at + len
  same : (outcome text end due p).ends ≡ (outcome text end due_then place).ends

module _ (text : List ℕ) (end : Option ScanKind) (due : Option Place) (p : Place) (len : ℕ) (low : 1 ≤ len) (high : len ≤ length (drop p.at text)) where
  behind_at : (place_after p (take len (drop p.at text))).at ≡ p.at + len
  behind_at = place_after_at p (take len (drop p.at text)) ∙ ap (λ n. p.at + n) (length-take-le len (drop p.at text) high)

  passes_blank : (ends : Bool) → piece (drop p.at text) ≡ a.Blank len ends → Passes text end due p len
  passes_blank false is = record {
    due_then = due;
    place = place_after p (take len (drop p.at text));
    ahead = behind_at;
    same = ap (λ (o : Outcome). o.ends) (by_blank text end due p (drop p.at text) refl len (place_after p (take len (drop p.at text))) low high (sym is) refl);
  }
  passes_blank true is = record {
    due_then = None;
    place = place_after p (take len (drop p.at text));
    ahead = behind_at;
    same = ap (λ (o : Outcome). o.ends) (by_line text end due p (drop p.at text) refl len (place_after p (take len (drop p.at text))) low high (sym is) refl);
  }

  passes_token : (k : TokenKind) → piece (drop p.at text) ≡ a.Token k len → Passes text end due p len
  passes_token k is = record {
    due_then = due_after k (place_after p (take len (drop p.at text)));
    place = place_after p (take len (drop p.at text));
    ahead = behind_at;
    same = ap (λ (o : Outcome). o.ends) (by_token text end due p (drop p.at text) refl k len (place_after p (take len (drop p.at text))) low high (sym is) refl);
  }

-- ---- from an outcome

-- an outcome that ends in a fault has it behind this place
abbrev Ends : Option ScanKind → List ℕ → ℕ → Outcome → Type 0
Ends end left at o = (kind : ScanKind) (n : ℕ) → o.ends ≡ Err (fault_at kind n) → (k : ℕ) × Rest end left kind k × (n ≡ at + k)

module _ (text : List ℕ) (end : Option ScanKind) where
  ends_at_end : (due : Option Place) (p : Place) → length text ≤ p.at → Ends end (drop p.at text) p.at (outcome text end due p)
  ends_at_end due p ge kind n is = by_end end refl
    where
      empty : drop p.at text ≡ []
      empty = nil_from_length (drop p.at text) (omega (arith, length-drop p.at text))

      by_end : (o : Option ScanKind) → end ≡ o → (k : ℕ) × Rest end (drop p.at text) kind k × (n ≡ p.at + k)
      by_end None same =
          absurd (let e : Ok (token_between End p p) ≡ Err (fault_at kind n) = sym (ap (λ (o : Outcome). o.ends) (outcome_end text end due p ge ∙ ap (λ o. at_end o due p) same)) ∙ is in cc)
      by_end (Some k) same =
          let e = offset_of k kind p.at n (sym (ap (λ (o : Outcome). o.ends) (outcome_end text end due p ge ∙ ap (λ o. at_end o due p) same)) ∙ is) in
          (0, at_once end (drop p.at text) kind 0 (past empty (same ∙ ap Some e.0) refl), omega (arith, e.1))

  -- behind a piece
  abbrev Next : ℕ → Type 0
  Next n = (due : Option Place) (p : Place) → p.at ≤ length text → length text ≤ p.at + n → Ends end (drop p.at text) p.at (outcome text end due p)

  ends_later : (n : ℕ) → Next n → (due : Option Place) (p : Place) → p.at < length text → length text ≤ p.at + suc n → (len : ℕ) → 1 ≤ len → len ≤ length (drop p.at text)
      → IsBlank (take len (drop p.at text)) (drop len (drop p.at text)) ⊎ IsWord (take len (drop p.at text)) (drop len (drop p.at text)) → Passes text end due p len
      → Ends end (drop p.at text) p.at (outcome text end due p)
  ends_later n next due p lt fuel len low high first w kind at is =
      let behind : drop w.place.at text ≡ drop len (drop p.at text) = ap (λ k. drop k text) w.ahead ∙ sym (drop-drop len p.at text) in
      let r = next w.due_then w.place (omega (arith, w.ahead, high, length-drop p.at text)) (omega (arith, w.ahead)) kind at (sym w.same ∙ is) in
      (len + r.0, one_more end (drop p.at text) len kind r.0 high first (subst (λ t. Rest end t kind r.0) behind r.1), omega (arith, r.2, w.ahead))

  ends_fault : (due : Option Place) (p : Place) → p.at < length text → (k : ScanKind) (m : ℕ) → piece (drop p.at text) ≡ a.Fault k m → IsFaultAt (drop p.at text) k m
      → Ends end (drop p.at text) p.at (outcome text end due p)
  ends_fault due p lt k m is explained kind at ended =
      let e = offset_of k kind (p.at + m) at (sym (ap (λ (o : Outcome). o.ends) (by_fault text end due p (drop p.at text) refl k m lt (sym is))) ∙ ended) in
      (m, at_once end (drop p.at text) kind m (here (subst (λ x. IsFaultAt (drop p.at text) x m) e.0 explained)), sym e.1)

  ends_open : (due : Option Place) (p : Place) → p.at < length text → (k : ScanKind) → piece (drop p.at text) ≡ a.Open k → IsOpen (drop p.at text) k
      → Ends end (drop p.at text) p.at (outcome text end due p)
  ends_open due p lt k is explained kind at ended = by_end end refl
    where
      told : (o : Option ScanKind) → end ≡ o → failed (open_fault o k p (drop p.at text)) ≡ failed (fault_at kind at)
      told o same = sym (ap (λ (x : Outcome). x.ends) (by_open text end due p (drop p.at text) refl k lt (sym is)) ∙ ap (λ x. failed (open_fault x k p (drop p.at text))) same) ∙ ended

      by_end : (o : Option ScanKind) → end ≡ o → (i : ℕ) × Rest end (drop p.at text) kind i × (at ≡ p.at + i)
      by_end None same =
          let e = offset_of k kind p.at at (told None same) in
          (0, at_once end (drop p.at text) kind 0 (open_ same refl (subst (IsOpen (drop p.at text)) e.0 explained)), omega (arith, e.1))
      by_end (Some other) same =
          let e = offset_of other kind (p.at + length (drop p.at text)) at (told (Some other) same) in
          (length (drop p.at text), at_once end (drop p.at text) kind (length (drop p.at text)) (open_before k (same ∙ ap Some e.0) refl explained), sym e.1)

  ends_step : (n : ℕ) → Next n → (due : Option Place) (p : Place) → p.at < length text → length text ≤ p.at + suc n → (x : Piece) → piece (drop p.at text) ≡ x
      → IsPieceIn (length (drop p.at text)) x → Explains (drop p.at text) x → Ends end (drop p.at text) p.at (outcome text end due p)
  ends_step n next due p lt fuel (a.Blank len ends) is within explained =
      let blank = piece_is_blank (drop p.at text) len ends (omega (arith, length-drop p.at text)) is in
      ends_later n next due p lt fuel len within.0 within.1 (inl blank.blank) (passes_blank text end due p len within.0 within.1 ends is)
  ends_step n next due p lt fuel (a.Token k len) is within explained =
      let bytes = drop p.at text in
      let token = piece_token bytes k len is in
      let long : length (take len bytes) ≡ len = length-take-le len bytes within.1 in
      let join : take len bytes ++ drop len bytes ≡ bytes = take-append-drop len bytes in
      let longest = read_is_longest bytes k len (omega (arith, length-drop p.at text)) token.1 in
      ends_later n next due p lt fuel len within.0 within.1
      (inr (record {
        some_bytes = omega (arith, long, within.0);
        no_blank = ap begins_blank join ∙ token.0;
        kind = k;
        longest = subst (λ t. IsLongestToken t k (length (take len bytes))) (sym join) (subst (IsLongestToken bytes k) (sym long) longest);
      }))
      (passes_token text end due p len within.0 within.1 k is)
  ends_step n next due p lt fuel (a.Fault k m) is within explained = ends_fault due p lt k m is explained
  ends_step n next due p lt fuel (a.Open k) is within explained = ends_open due p lt k is explained

  ends_from : (n : ℕ) → Next n
  ends_from zero due p le fuel = ends_at_end due p (omega arith)
  ends_from (suc n) due p le fuel = ⊎_elim
      (λ lt. ends_step n (ends_from n) due p lt fuel (piece (drop p.at text)) refl (piece_in (drop p.at text) (omega (arith, length-drop p.at text)))
      (piece_explained (drop p.at text) (omega (arith, length-drop p.at text))))
      (λ ge. ends_at_end due p ge)
      (cases_lt p.at (length text))

-- ---- and back

-- what has a fault has a byte
number_long : (bytes : List ℕ) (kind : ScanKind) → IsFaultyNumber bytes kind → 0 < length bytes
number_long [] kind (point is dot digit) = absurd (omega (arith, dot))
number_long [] kind (float is digit f) = absurd cc
number_long [] kind (imaginary is digit no_f i) = absurd cc
number_long [] kind (no_numeral is one other) = absurd (let e = one.digit in cc)
number_long [] kind (too_big is one numeral great) = absurd (let e = one.digit in cc)
number_long (b ∷ bytes) kind is = omega arith

literal_long : (bytes : List ℕ) (kind : ScanKind) (at : ℕ) → IsFaultyLiteral bytes kind at → 0 < length bytes
literal_long bytes kind at (cut_string left is zero_ o) = omega (arith, ap length o.spelling)
literal_long bytes kind at (cut_rune left is zero_ o) = omega (arith, ap length o.spelling)
literal_long bytes kind at (no_rune left is zero_ o apart) = omega (arith, ap length o.spelling)
literal_long bytes kind at (in_string left is o place bad) = omega (arith, ap length o.spelling)
literal_long bytes kind at (in_rune left is o place bad) = omega (arith, ap length o.spelling)

fault_long : (bytes : List ℕ) (kind : ScanKind) (at : ℕ) → IsFaultAt bytes kind at → 0 < length bytes
fault_long bytes kind at (number zero_ is) = number_long bytes kind is
fault_long bytes kind at (literal is) = literal_long bytes kind at is
fault_long bytes kind at (stray is zero_ s) = s.some_bytes

open_long : (bytes : List ℕ) (kind : ScanKind) → IsOpen bytes kind → 0 < length bytes
open_long bytes kind (comment body is spelling none) = omega (arith, ap length spelling)
open_long bytes kind (string is o) = omega (arith, ap length o.spelling)
open_long bytes kind (raw_string body is spelling none) = omega (arith, ap length spelling)
open_long bytes kind (rune is o) = omega (arith, ap length o.spelling)

module _ (text : List ℕ) (end : Option ScanKind) (kind : ScanKind) where
  gives_open : (due : Option Place) (p : Place) (k : ScanKind) → IsOpen (drop p.at text) k → (outcome text end due p).ends ≡ Err (open_fault end k p (drop p.at text))
  gives_open due p k is =
      ap (λ (o : Outcome). o.ends) (by_open text end due p (drop p.at text) refl k (omega (arith, open_long (drop p.at text) k is, length-drop p.at text)) (sym (open_read (drop p.at text) k is)))

  gives_fault : (due : Option Place) (p : Place) (from : ℕ) → p.at ≤ length text → IsFaultOf end (drop p.at text) kind from → (outcome text end due p).ends ≡ Err (fault_at kind (p.at + from))
  gives_fault due p from le (here is) =
      ap (λ (o : Outcome). o.ends) (by_fault text end due p (drop p.at text) refl kind from (omega (arith, fault_long (drop p.at text) kind from is, length-drop p.at text)) (sym (fault_read (drop p.at text) kind from is)))
  gives_fault due p from le (open_ none zero_ is) =
      gives_open due p kind is ∙ ap (λ x. failed (open_fault x kind p (drop p.at text))) none ∙ ap (λ n. failed (fault_at kind n)) (omega (arith, zero_))
  gives_fault due p from le (open_before other some_ place is) =
      gives_open due p other is ∙ ap (λ x. failed (open_fault x other p (drop p.at text))) some_ ∙ ap (λ n. failed (fault_at kind (p.at + n))) (sym place)
  gives_fault due p from le (past empty some_ zero_) =
      ap (λ (o : Outcome). o.ends) (outcome_end text end due p (omega (arith, ap length empty, length-drop p.at text)) ∙ ap (λ x. at_end x due p) some_)
      ∙ ap (λ n. failed (fault_at kind n)) (omega (arith, zero_))

  passes_first : (due : Option Place) (p : Place) (first after : List ℕ) → p.at ≤ length text → drop p.at text ≡ first ++ after → IsBlank first after ⊎ IsWord first after → Passes text end due p (length first)
  passes_first due p first after le cut is = ⊎_elim
      (λ blank.
      let read : piece (drop p.at text) ≡ a.Blank (length first) (list_any is_line_end first) = ap piece cut ∙ blank_piece first after blank in
      let within : IsPieceIn (length (drop p.at text)) (a.Blank (length first) (list_any is_line_end first)) =
      subst (IsPieceIn (length (drop p.at text))) read (piece_in (drop p.at text) (blank_long blank)) in
      passes_blank text end due p (length first) within.0 within.1 (list_any is_line_end first) read)
      (λ word.
      let long : 0 < length (first ++ after) = omega (arith, word.some_bytes, length-append first after) in
      let read : piece (drop p.at text) ≡ a.Token word.kind (length first) =
      ap piece cut ∙ piece_by_lexeme (first ++ after) word.no_blank ∙ (reads_the_longest (first ++ after) word.kind (length first) long).1 word.longest in
      passes_token text end due p (length first) word.some_bytes (omega (arith, ap length cut, length-append first after)) word.kind read)
      is
    where
      total : length (drop p.at text) ≡ length first + length after
      total = ap length cut ∙ length-append first after

      blank_long : IsBlank first after → 1 ≤ length (drop p.at text)
      blank_long blank =
          ⊎_elim (λ white. omega (arith, total, ap length white.spelling))
          (λ comment. ⊎_elim (λ line. omega (arith, total, ap length line.spelling)) (λ general. omega (arith, total, ap length general.spelling)) comment) blank

  gives : (passed : List (List ℕ)) (left : List ℕ) (from : ℕ) (due : Option Place) (p : Place) → p.at ≤ length text → drop p.at text ≡ concat passed ++ left → ArePassed passed left
      → IsFaultOf end left kind from → (outcome text end due p).ends ≡ Err (fault_at kind (p.at + (length (concat passed) + from)))
  gives [] left from due p le spelling each fault =
      gives_fault due p from le (subst (λ t. IsFaultOf end t kind from) (sym spelling) fault) ∙ ap (λ n. failed (fault_at kind n)) (omega arith)
  gives (first ∷ passed) left from due p le spelling each fault =
      let after = concat passed ++ left in
      let cut : drop p.at text ≡ first ++ after = spelling ∙ append_assoc first (concat passed) left in
      let w = passes_first due p first after le cut each.0 in
      let rest : drop w.place.at text ≡ after = ap (λ n. drop n text) w.ahead ∙ sym (drop-drop (length first) p.at text) ∙ ap (drop (length first)) cut ∙ drop_at first after (length first) refl in
      let room : w.place.at ≤ length text = omega (arith, w.ahead, ap length cut, length-append first after, length-drop p.at text) in
      w.same ∙ gives passed left from w.due_then w.place room rest each.1 fault
      ∙ ap (λ n. failed (fault_at kind n)) (omega (arith, w.ahead, length-append first (concat passed)))

-- ---- a file

abbrev text_of : List ℕ → List ℕ
text_of bytes = take (text_len bytes) bytes

abbrev start_of : List ℕ → Place
start_of bytes = place_after origin (take (mark_len bytes) bytes)

start_at : (bytes : List ℕ) → (start_of bytes).at ≡ mark_len bytes
start_at bytes = place_after_at origin (take (mark_len bytes) bytes) ∙ (let e = length-take-le (mark_len bytes) bytes (mark_within bytes) in omega (arith, e))

start_within : (bytes : List ℕ) → mark_len bytes ≤ length (text_of bytes)
unfolding text_len
start_within bytes = omega (arith, length-take (text_len bytes) bytes, mark_within bytes)

scan_of : (bytes : List ℕ) → scanned bytes ≡ outcome (text_of bytes) (text_fault bytes) None (start_of bytes)
unfolding scanned
scan_of bytes = refl

tokens_by : (bytes : List ℕ) → tokens_of bytes ≡ all_with (scanned bytes).front (scanned bytes).ends
unfolding tokens_of
tokens_by bytes = refl

ends_in : (front : List Token) (ends : Result Token ScanFault) (f : ScanFault) → all_with front ends ≡ Err f → ends ≡ Err f
ends_in front (Ok t) f is = absurd cc
ends_in front (Err g) f is = let e : g ≡ f = cc in ap Err e

told_by : (bytes : List ℕ) (kind : ScanKind) (at : ℕ) → tokens_of bytes ≡ Err (fault_at kind at) → IsScanFault bytes kind at
told_by bytes kind at is =
    let text = text_of bytes in
    let p = start_of bytes in
    let ended : (outcome text (text_fault bytes) None p).ends ≡ failed (fault_at kind at) =
    ap (λ (o : Outcome). o.ends) (sym (scan_of bytes)) ∙ ends_in (scanned bytes).front (scanned bytes).ends (fault_at kind at) (sym (tokens_by bytes) ∙ is) in
    let r = ends_from text (text_fault bytes) (length text) None p (omega (arith, start_at bytes, start_within bytes)) (omega arith) kind at ended in
    record {
      passed = r.1.passed;
      left = r.1.behind;
      spelling = ap (λ n. drop n text) (sym (start_at bytes)) ∙ r.1.spelling;
      each = r.1.each;
      from = r.1.from;
      fault = r.1.fault;
      stands = omega (arith, r.2, r.1.stands, start_at bytes);
    }

told_back : (bytes : List ℕ) (kind : ScanKind) (at : ℕ) → IsScanFault bytes kind at → tokens_of bytes ≡ Err (fault_at kind at)
told_back bytes kind at is =
    let text = text_of bytes in
    let p = start_of bytes in
    let ended = gives text (text_fault bytes) kind is.passed is.left is.from None p (omega (arith, start_at bytes, start_within bytes)) (ap (λ n. drop n text) (start_at bytes) ∙ is.spelling) is.each is.fault in
    tokens_by bytes
    ∙ ap (all_with (scanned bytes).front) (ap (λ (o : Outcome). o.ends) (scan_of bytes) ∙ ended)
    ∙ ap (λ n. all_with [] (failed (fault_at kind n))) (omega (arith, is.stands, start_at bytes))

pub tells_scan_faults : TellsScanFaults
tells_scan_faults bytes kind at = (told_by bytes kind at, told_back bytes kind at)
