-- Outcomes, one piece at a time.
use Rattle.std.proofs.Common.{◌≡◌, ℕ, zero, suc, ◌+◌, ◌-◌, ◌<◌, ◌≤◌, Bool, true, false, List, [], ◌∷◌, ◌++◌, length, take, drop, refl, sym, ap, ◌∙◌, subst, arith, append_assoc, append-nil}
use Rattle.std.specs.Prelude.{Option, Some, None, Result, Ok, Err, IfOk, ◌==◌}
use Rattle.std.specs.List.{AllByRecursion}
use Rattle.std.proofs.lemmas.List.{length-drop, drop-drop, drop_all, length-take-le, take-take}
use Rattle.std.proofs.lemmas.List.Sums.{fold-append}
use Rattle.std.proofs.lemmas.Bool.{true≢false}
use Rattle.ui_scan.specs.Piece.{piece, is_end, IsPieceIn}
use Rattle.ui_scan.specs.Source.{mark_len, text_len, text_fault}
use Rattle.ui_scan.specs.Scan.{past, place_after, Outcome, at_end, semicolons, semicolon_due, token_between, due_after, fault_at, open_fault, stops, goes, move_by, follow, then_outcome, outcome_from, outcome, scanned, origin, first_of, first, rest, tail, all_with, tokens_of}
use Rattle.ui_scan.specs.Steps.{Steps}
use Rattle.ui_scan.specs.declared.scanner.Found.{Found}
use Rattle.ui_scan.specs.declared.place.Place.{Place}
use Rattle.ui_scan.specs.declared.kind.Token.{Token}
use Rattle.ui_scan.specs.declared.kind.TokenKind.{TokenKind}
use Rattle.ui_scan.specs.declared.kind.TokenKind.TheVariants.{Semi}
use Rattle.ui_scan.specs.declared.piece.Piece.{Piece}
use Rattle.ui_scan.specs.declared.piece.Piece.TheVariants as a
use Rattle.ui_scan.specs.declared.kind.ScanKind.{ScanKind}
use Rattle.ui_scan.specs.declared.kind.ScanFault.{ScanFault}
use Rattle.ui_scan.proofs.PieceLaws.{tested, piece_in}

pub place_after-append : (p : Place) (xs ys : List ℕ) → place_after p (xs ++ ys) ≡ place_after (place_after p xs) ys
unfolding place_after
place_after-append p xs ys = fold-append past p xs ys

past_at : (p : Place) (b : ℕ) → (past p b).at ≡ p.at + 1
past_at p b = tested (λ (q : Place). q.at ≡ p.at + 1) (b == 10) _ _ (λ _. refl) (λ _. refl)

pub place_after_at : (p : Place) (bytes : List ℕ) → (place_after p bytes).at ≡ p.at + length bytes
unfolding place_after
place_after_at p [] = omega arith
place_after_at p (b ∷ bytes) = omega (arith, place_after_at (past p b) bytes, past_at p b)

-- what is passed over only moves the place
pub outcome_from-passed : (fault : Option ScanKind) (due : Option Place) (p : Place) (k : ℕ) (bytes : List ℕ) → k ≤ length bytes
    → outcome_from fault due p k bytes ≡ outcome_from fault due (place_after p (take k bytes)) 0 (drop k bytes)
unfolding place_after
outcome_from-passed fault due p zero bytes le = refl
outcome_from-passed fault due p (suc k) [] le = absurd (omega arith)
outcome_from-passed fault due p (suc k) (b ∷ bytes) le = outcome_from-passed fault due (past p b) k bytes (omega arith)

-- at the end of the text
pub outcome_end : (text : List ℕ) (fault : Option ScanKind) (due : Option Place) (p : Place) → length text ≤ p.at
    → outcome text fault due p ≡ at_end fault due p
unfolding outcome
outcome_end text fault due p le = ap (outcome_from fault due p 0) (drop_all p.at text le)

stop_at : (fault : Option ScanKind) (due : Option Place) (p : Place) (bytes : List ℕ) (e : ScanFault) → 1 ≤ length bytes
    → move_by fault due p bytes (piece bytes) ≡ stops e → outcome_from fault due p 0 bytes ≡ record { front = []; ends = Err e }
stop_at fault due p [] e le stopped = absurd (omega arith)
stop_at fault due p (b ∷ bytes) e le stopped = ap (λ m. follow m (λ due' len. outcome_from fault due' (past p b) (len - 1) bytes)) stopped

-- at a fault
pub outcome_stop : (text : List ℕ) (fault : Option ScanKind) (due : Option Place) (p : Place) (e : ScanFault) → p.at < length text
    → move_by fault due p (drop p.at text) (piece (drop p.at text)) ≡ stops e → outcome text fault due p ≡ record { front = []; ends = Err e }
unfolding outcome
outcome_stop text fault due p e lt stopped = stop_at fault due p (drop p.at text) e (omega (arith, length-drop p.at text)) stopped

go_at : (fault : Option ScanKind) (due due' : Option Place) (p : Place) (bytes : List ℕ) (ts : List Token) (len : ℕ) → 1 ≤ len → len ≤ length bytes
    → move_by fault due p bytes (piece bytes) ≡ goes ts due' len
    → outcome_from fault due p 0 bytes ≡ then_outcome ts (outcome_from fault due' (place_after p (take len bytes)) 0 (drop len bytes))
unfolding place_after
go_at fault due due' p [] ts len le le' moved = absurd (omega arith)
go_at fault due due' p (b ∷ bytes) ts len le le' moved =
    let e : len ≡ suc (len - 1) = omega arith in
    ap (λ m. follow m (λ d n. outcome_from fault d (past p b) (n - 1) bytes)) moved
    ∙ ap (then_outcome ts) (outcome_from-passed fault due' (past p b) (len - 1) bytes (omega arith))
    ∙ ap (λ n. then_outcome ts (outcome_from fault due' (place_after p (take n (b ∷ bytes))) 0 (drop n (b ∷ bytes)))) (sym e)

-- at white space, a comment or a token
pub outcome_go : (text : List ℕ) (fault : Option ScanKind) (due due' : Option Place) (p : Place) (ts : List Token) (len : ℕ)
    → 1 ≤ len → len ≤ length (drop p.at text)
    → move_by fault due p (drop p.at text) (piece (drop p.at text)) ≡ goes ts due' len
    → outcome text fault due p ≡ then_outcome ts (outcome text fault due' (place_after p (take len (drop p.at text))))
unfolding outcome
outcome_go text fault due due' p ts len le le' moved =
    let q = place_after p (take len (drop p.at text)) in
    let at : q.at ≡ p.at + len = place_after_at p (take len (drop p.at text)) ∙ ap (λ n. p.at + n) (length-take-le len (drop p.at text) le') in
    go_at fault due due' p (drop p.at text) ts len le le' moved
    ∙ ap (λ bytes. then_outcome ts (outcome_from fault due' q 0 bytes)) (drop-drop len p.at text ∙ ap (λ n. drop n text) (sym at))

semicolons_are : (due : Option Place) (token : Token) → semicolon_due true due ≡ Some token → semicolons due ≡ token ∷ []
semicolons_are None token found = absurd (cc)
semicolons_are (Some p) token found = ap (λ t. t ∷ []) (let e : token_between Semi p p ≡ token = cc in e)

no_semicolons : (due : Option Place) → semicolon_due true due ≡ None → semicolons due ≡ []
no_semicolons None none_ = refl
no_semicolons (Some p) none_ = absurd (cc)

not_due : (due : Option Place) → semicolon_due true due ≡ None → due ≡ None
not_due None none_ = refl
not_due (Some p) none_ = absurd (cc)

-- what each kind of piece does, where the bytes are what is left of the text and q is the place behind the piece
module _ (text : List ℕ) (fault : Option ScanKind) (due : Option Place) (p : Place) (bytes : List ℕ) (left : bytes ≡ drop p.at text) where
  moved_by : (x : Piece) → x ≡ piece bytes → move_by fault due p (drop p.at text) (piece (drop p.at text)) ≡ move_by fault due p (drop p.at text) x
  moved_by x is = ap (λ b. move_by fault due p (drop p.at text) (piece b)) (sym left) ∙ ap (move_by fault due p (drop p.at text)) (sym is)

  behind_place : (len : ℕ) (q : Place) → q ≡ place_after p (take len bytes) → place_after p (take len (drop p.at text)) ≡ q
  behind_place len q at = ap (λ b. place_after p (take len b)) (sym left) ∙ sym at

  pub by_blank : (len : ℕ) (q : Place) → 1 ≤ len → len ≤ length bytes → a.Blank len false ≡ piece bytes → q ≡ place_after p (take len bytes)
      → outcome text fault due p ≡ outcome text fault due q
  by_blank len q le le' is at =
      outcome_go text fault due due p [] len le (omega (arith, ap length left)) (moved_by _ is) ∙ ap (outcome text fault due) (behind_place len q at)

  pub by_line : (len : ℕ) (q : Place) → 1 ≤ len → len ≤ length bytes → a.Blank len true ≡ piece bytes → q ≡ place_after p (take len bytes)
      → outcome text fault due p ≡ then_outcome (semicolons due) (outcome text fault None q)
  by_line len q le le' is at =
      outcome_go text fault due None p (semicolons due) len le (omega (arith, ap length left)) (moved_by _ is)
      ∙ ap (λ r. then_outcome (semicolons due) (outcome text fault None r)) (behind_place len q at)

  -- white space or a comment, behind which a semicolon is due or isn't
  pub by_semicolon : (len : ℕ) (ends_line : Bool) (q : Place) (token : Token) → 1 ≤ len → len ≤ length bytes → a.Blank len ends_line ≡ piece bytes
      → q ≡ place_after p (take len bytes) → semicolon_due ends_line due ≡ Some token
      → outcome text fault due p ≡ then_outcome (token ∷ []) (outcome text fault None q)
  by_semicolon len false q token le le' is at found = absurd (cc)
  by_semicolon len true q token le le' is at found = by_line len q le le' is at ∙ ap (λ ts. then_outcome ts (outcome text fault None q)) (semicolons_are due token found)

  pub by_no_semicolon : (len : ℕ) (ends_line : Bool) (q : Place) → 1 ≤ len → len ≤ length bytes → a.Blank len ends_line ≡ piece bytes
      → q ≡ place_after p (take len bytes) → semicolon_due ends_line due ≡ None → outcome text fault due p ≡ outcome text fault due q
  by_no_semicolon len false q le le' is at none_ = by_blank len q le le' is at
  by_no_semicolon len true q le le' is at none_ =
      by_line len q le le' is at ∙ ap (λ ts. then_outcome ts (outcome text fault None q)) (no_semicolons due none_)
      ∙ ap (λ d. outcome text fault d q) (sym (not_due due none_))

  pub by_token : (kind : TokenKind) (len : ℕ) (q : Place) → 1 ≤ len → len ≤ length bytes → a.Token kind len ≡ piece bytes → q ≡ place_after p (take len bytes)
      → outcome text fault due p ≡ then_outcome (token_between kind p q ∷ []) (outcome text fault (due_after kind q) q)
  by_token kind len q le le' is at =
      outcome_go text fault due _ p _ len le (omega (arith, ap length left)) (moved_by _ is)
      ∙ ap (λ r. then_outcome (token_between kind p r ∷ []) (outcome text fault (due_after kind r) r)) (behind_place len q at)

  pub by_fault : (kind : ScanKind) (at : ℕ) → p.at < length text → a.Fault kind at ≡ piece bytes
      → outcome text fault due p ≡ record { front = []; ends = Err (fault_at kind (p.at + at)) }
  by_fault kind at lt is = outcome_stop text fault due p _ lt (moved_by _ is)

  pub by_open : (kind : ScanKind) → p.at < length text → a.Open kind ≡ piece bytes
      → outcome text fault due p ≡ record { front = []; ends = Err (open_fault fault kind p bytes) }
  by_open kind lt is =
      outcome_stop text fault due p _ lt (moved_by _ is)
      ∙ ap (λ b. record { front = []; ends = Err (open_fault fault kind p b) }) (sym left)

-- a step from an outcome is one from what equals it
pub Steps-from : (text : List ℕ) (fault : Option ScanKind) (o o' : Outcome) (r : Result Found ScanFault) → o ≡ o' → Steps text fault o r → Steps text fault o' r
Steps-from text fault o o' r e s = subst (λ x. Steps text fault x r) e s

mark_within : (bytes : List ℕ) → mark_len bytes ≤ text_len bytes
unfolding text_len
mark_within bytes = omega arith

-- the outcome of a file, from its parts
pub scanned_from : (bytes text : List ℕ) (fault : Option ScanKind) (mark : ℕ) (q : Place) → text ≡ take (text_len bytes) bytes → fault ≡ text_fault bytes
    → mark ≡ mark_len bytes → q ≡ place_after origin (take mark text) → outcome text fault None q ≡ scanned bytes
unfolding scanned
scanned_from bytes text fault mark q is fault_is mark_is at =
    let cut : take mark text ≡ take (mark_len bytes) bytes =
    ap (take mark) is ∙ ap (λ n. take n (take (text_len bytes) bytes)) mark_is ∙ take-take (mark_len bytes) (text_len bytes) bytes (mark_within bytes) in
    ap (λ t. outcome t fault None q) is
    ∙ ap (λ f. outcome (take (text_len bytes) bytes) f None q) fault_is
    ∙ ap (outcome (take (text_len bytes) bytes) (text_fault bytes) None) (at ∙ ap (place_after origin) cut)

-- no token before the last is an end, and only an end repeats
pub record EndsOnce (o : Outcome) : Type 0 where
  pub before : AllByRecursion (λ t. is_end t.kind ≡ false) o.front
  pub last : IfOk o.ends (λ t. is_end t.kind ≡ true)

at_end_once : (fault : Option ScanKind) (due : Option Place) (p : Place) → EndsOnce (at_end fault due p)
at_end_once None None p = record { before = tt; last = refl }
at_end_once None (Some q) p = record { before = (refl, tt); last = refl }
at_end_once (Some kind) due p = record { before = tt; last = tt }

then_once : (ts : List Token) (o : Outcome) → AllByRecursion (λ t. is_end t.kind ≡ false) ts → EndsOnce o → EndsOnce (then_outcome ts o)
then_once [] o each once = once
then_once (t ∷ ts) o each once = record { before = (each.0, (then_once ts o each.1 once).before); last = once.last }

semicolons_open : (due : Option Place) → AllByRecursion (λ t. is_end t.kind ≡ false) (semicolons due)
semicolons_open None = tt
semicolons_open (Some q) = (refl, tt)

follow_once : (fault : Option ScanKind) (due : Option Place) (p : Place) (bytes : List ℕ) (x : Piece) (next : Option Place → ℕ → Outcome)
    → IsPieceIn (length bytes) x → ((d : Option Place) (n : ℕ) → EndsOnce (next d n)) → EndsOnce (follow (move_by fault due p bytes x) next)
follow_once fault due p bytes (a.Blank len true) next within each = then_once (semicolons due) (next None len) (semicolons_open due) (each None len)
follow_once fault due p bytes (a.Blank len false) next within each = each due len
follow_once fault due p bytes (a.Token kind len) next within each = then_once (token_between kind p (place_after p (take len bytes)) ∷ []) (next (due_after kind (place_after p (take len bytes))) len)
    (let open_ : AllByRecursion (λ (t : Token). is_end t.kind ≡ false) (token_between kind p (place_after p (take len bytes)) ∷ []) = (within.2, tt) in open_)
    (each (due_after kind (place_after p (take len bytes))) len)
follow_once fault due p bytes (a.Fault kind at) next within each = record { before = tt; last = tt }
follow_once fault due p bytes (a.Open kind) next within each = record { before = tt; last = tt }

outcome_from_once : (fault : Option ScanKind) (due : Option Place) (p : Place) (k : ℕ) (bytes : List ℕ) → EndsOnce (outcome_from fault due p k bytes)
outcome_from_once fault due p k [] = at_end_once fault due p
outcome_from_once fault due p (suc k) (b ∷ bytes) = outcome_from_once fault due (past p b) k bytes
outcome_from_once fault due p zero (b ∷ bytes) =
    follow_once fault due p (b ∷ bytes) (piece (b ∷ bytes)) (λ d n. outcome_from fault d (past p b) (n - 1) bytes)
    (piece_in (b ∷ bytes) (omega arith)) (λ d n. outcome_from_once fault d (past p b) (n - 1) bytes)

pub scanned_once : (bytes : List ℕ) → EndsOnce (scanned bytes)
unfolding scanned outcome
scanned_once bytes = outcome_from_once _ _ _ 0 _

-- a loop that has taken some tokens
abbrev all_of : Outcome → Result (List Token) ScanFault
all_of o = all_with o.front o.ends

all_of-scanned : (bytes : List ℕ) → all_of (scanned bytes) ≡ tokens_of bytes
unfolding tokens_of
all_of-scanned bytes = refl

err_of : (found front : List Token) (ends : Result Token ScanFault) (e : ScanFault) → first_of front ends ≡ Err e → all_with (found ++ front) ends ≡ Err e
err_of found [] ends e is = ap (all_with (found ++ [])) is
err_of found (t ∷ ts) ends e is = absurd (cc)

last_of : (found front : List Token) (ends : Result Token ScanFault) (t : Token) → first_of front ends ≡ Ok t → is_end t.kind ≡ true
    → AllByRecursion (λ t. is_end t.kind ≡ false) front → all_with (found ++ front) ends ≡ Ok (found ++ t ∷ [])
last_of found [] ends t is last each = ap (all_with (found ++ [])) is ∙ ap (λ xs. Ok (xs ++ t ∷ [])) (append-nil found)
last_of found (u ∷ us) ends t is last each =
    let same : u ≡ t = cc in absurd (true≢false (sym last ∙ sym (ap (λ (x : Token). is_end x.kind) same) ∙ each.0))

ok_then : (ends : Result Token ScanFault) (t : Token) → ends ≡ Ok t → IfOk ends (λ t. is_end t.kind ≡ true) → is_end t.kind ≡ true
ok_then (Ok u) t is last = let same : u ≡ t = cc in sym (ap (λ (x : Token). is_end x.kind) same) ∙ last
ok_then (Err e) t is last = absurd (cc)

more_of : (front : List Token) (ends : Result Token ScanFault) (t : Token) → first_of front ends ≡ Ok t → is_end t.kind ≡ false
    → IfOk ends (λ t. is_end t.kind ≡ true) → front ≡ t ∷ tail front
more_of [] ends t is more last = absurd (true≢false (sym (ok_then ends t is last) ∙ more))
more_of (u ∷ us) ends t is more last = ap (λ x. x ∷ us) (let same : u ≡ t = cc in same)

module _ (bytes : List ℕ) (found : List Token) (o : Outcome) (so_far : then_outcome found o ≡ scanned bytes) (once : EndsOnce o) where
  whole_is : all_with (found ++ o.front) o.ends ≡ tokens_of bytes
  whole_is = ap all_of so_far ∙ all_of-scanned bytes

  pub tokens_fail : (e : ScanFault) → first o ≡ Err e → tokens_of bytes ≡ Err e
  tokens_fail e is = sym whole_is ∙ err_of found o.front o.ends e is

  pub tokens_end : (t : Token) → first o ≡ Ok t → is_end t.kind ≡ true → tokens_of bytes ≡ Ok (found ++ t ∷ [])
  tokens_end t is last = sym whole_is ∙ last_of found o.front o.ends t is last once.before

  front_is : (t : Token) → first o ≡ Ok t → is_end t.kind ≡ false → o.front ≡ t ∷ tail o.front
  front_is t is more = more_of o.front o.ends t is more once.last

  pub tokens_more : (t : Token) → first o ≡ Ok t → is_end t.kind ≡ false → then_outcome (found ++ t ∷ []) (rest o) ≡ scanned bytes
  tokens_more t is more =
      ap (λ xs. record { front = xs; ends = o.ends }) (append_assoc found (t ∷ []) (tail o.front) ∙ ap (λ xs. found ++ xs) (sym (front_is t is more))) ∙ so_far

  pub rest_once : EndsOnce (rest o)
  rest_once = record { before = by_tail o.front once.before; last = once.last }
    where
      by_tail : (ts : List Token) → AllByRecursion (λ t. is_end t.kind ≡ false) ts → AllByRecursion (λ t. is_end t.kind ≡ false) (tail ts)
      by_tail [] each = tt
      by_tail (t ∷ ts) each = each.1

  pub rest_shorter : (t : Token) → first o ≡ Ok t → is_end t.kind ≡ false → length (tail o.front) < length o.front
  rest_shorter t is more = omega (arith, ap length (front_is t is more))
