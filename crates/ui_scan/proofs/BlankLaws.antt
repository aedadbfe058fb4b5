-- White space and comments: the reader finds these and no others.
use Rattle.std.proofs.Common.{◌≡◌, ℕ, zero, suc, ◌+◌, ◌-◌, ◌≤◌, Bool, true, false, cond, List, [], ◌∷◌, ◌++◌, length, take, drop, refl, sym, ap, ◌∙◌, subst, arith, ⊎_elim, inl, inr}
use Rattle.std.specs.Prelude.{Option, Some, None, ◌==◌, ◌&&◌, ◌||◌, not, slice_index, option_map, is_some, nat_lt, nat_eq}
use Rattle.std.specs.List.{list_any, position_or_len, starts_with}
use Rattle.std.proofs.lemmas.Bool.{cases_Bool, and_parts, or_right, or_left, eqb-true, true≢false}
use Rattle.std.proofs.lemmas.List.{take_at, length-take-le}
use Rattle.ui_scan.specs.Literal.{string, rune, raw_string, string_piece, rune_piece, raw_end, body, rune_code}
use Rattle.ui_scan.specs.Number.{number, radix, number_end, whole_number, within, is_numeral, digits_in, begins_fraction}
use Rattle.ui_scan.specs.Digits.{whole}
use Rattle.ui_scan.specs.Letters.{begins_name}
use Rattle.ui_scan.specs.Piece.{piece, lexeme, line_comment, general_comment, comment_len, comment_piece, word, is_line_end, is_blank, is_decimal}
use Rattle.ui_scan.specs.Table.{Row, operator, operators, first_operator}
use Rattle.ui_scan.specs.Tokens.{IsWhite, at_line_end, IsLineComment, IsGeneralComment, IsBlank, begins_blank}
use Rattle.ui_scan.specs.declared.literal.Body.{Body}
use Rattle.ui_scan.specs.declared.literal.Body.TheVariants as body
use Rattle.ui_scan.specs.declared.kind.TokenKind.{TokenKind}
use Rattle.ui_scan.specs.declared.piece.Piece.{Piece}
use Rattle.ui_scan.specs.declared.piece.Piece.TheVariants.{Blank, Token, Fault, Open}
use Rattle.ui_scan.proofs.PieceLaws.{tested}

-- up to the first line feed
position_before : (body after : List ℕ) → list_any is_line_end body ≡ false → at_line_end after ≡ true → position_or_len is_line_end (body ++ after) ≡ length body
position_before [] [] one ends = refl
position_before [] (b ∷ after) one ends = ap (λ t. cond (not t) (1 + position_or_len is_line_end after) 0) ends
position_before (b ∷ body) after one ends =
    ⊎_elim
    (λ feed. absurd (true≢false (sym (or_left (is_line_end b) (list_any is_line_end body) feed) ∙ one)))
    (λ other.
    let rest : list_any is_line_end body ≡ false = sym (ap (λ t. t || list_any is_line_end body) other) ∙ one in
    let e : position_or_len is_line_end (b ∷ (body ++ after)) ≡ 1 + position_or_len is_line_end (body ++ after) =
    ap (λ t. cond (not t) (1 + position_or_len is_line_end (body ++ after)) 0) other in
    omega (arith, e, position_before body after rest ends))
    (cases_Bool (is_line_end b))

position_is : (bytes : List ℕ) → (list_any is_line_end (take (position_or_len is_line_end bytes) bytes) ≡ false)
    × (at_line_end (drop (position_or_len is_line_end bytes) bytes) ≡ true)
position_is [] = (refl, refl)
position_is (b ∷ bytes) =
    ⊎_elim
    (λ feed.
    let e : position_or_len is_line_end (b ∷ bytes) ≡ 0 = ap (λ t. cond (not t) (1 + position_or_len is_line_end bytes) 0) feed in
    (ap (λ n. list_any is_line_end (take n (b ∷ bytes))) e, ap (λ n. at_line_end (drop n (b ∷ bytes))) e ∙ feed))
    (λ other.
    let e : position_or_len is_line_end (b ∷ bytes) ≡ suc (position_or_len is_line_end bytes) =
    ap (λ t. cond (not t) (1 + position_or_len is_line_end bytes) 0) other ∙ (let s : 1 + position_or_len is_line_end bytes ≡ suc (position_or_len is_line_end bytes) = omega arith in s) in (
      ap (λ n. list_any is_line_end (take n (b ∷ bytes))) e ∙ ap (λ t. t || list_any is_line_end (take (position_or_len is_line_end bytes) bytes)) other ∙ (position_is bytes).0,
      ap (λ n. at_line_end (drop n (b ∷ bytes))) e ∙ (position_is bytes).1,
    ))
    (cases_Bool (is_line_end b))

-- up to the first end of a comment, whatever follows
mapped : (o : Option ℕ) (n : ℕ) → option_map (λ k. 1 + k) o ≡ Some n → (m : ℕ) × (o ≡ Some m) × (n ≡ suc m)
mapped None n e = absurd (cc)
mapped (Some m) n e = (m, refl, let s : 1 + m ≡ n = cc in omega arith)

comment_len-cons : (b c : ℕ) (bytes : List ℕ) → comment_len (b ∷ c ∷ bytes) ≡ cond (b == 42 && c == 47) (Some 2) (option_map (λ n. 1 + n) (comment_len (c ∷ bytes)))
comment_len-cons b c bytes = refl

comment_len-append : (xs ys : List ℕ) (n : ℕ) → comment_len xs ≡ Some n → comment_len (xs ++ ys) ≡ Some n
comment_len-append [] ys n e = absurd (cc)
comment_len-append (b ∷ []) ys n e = absurd (let f = alone b in cc)
  where
    alone : (b : ℕ) → comment_len (b ∷ []) ≡ None
    alone b = tested (λ o. o ≡ None) (b == 42 && 0 == 47) (Some 2) None (λ t. absurd (true≢false (sym (and_parts (b == 42) false t).1))) (λ _. refl)
comment_len-append (b ∷ c ∷ xs) ys n e =
    ⊎_elim
    (λ closes. ap (λ t. cond t (Some 2) (option_map (λ n. 1 + n) (comment_len (c ∷ (xs ++ ys))))) closes
    ∙ sym (ap (λ t. cond t (Some 2) (option_map (λ n. 1 + n) (comment_len (c ∷ xs)))) closes) ∙ e)
    (λ open_.
    let m = mapped (comment_len (c ∷ xs)) n (sym (ap (λ t. cond t (Some 2) (option_map (λ n. 1 + n) (comment_len (c ∷ xs)))) open_) ∙ e) in
    ap (λ t. cond t (Some 2) (option_map (λ n. 1 + n) (comment_len (c ∷ (xs ++ ys))))) open_
    ∙ ap (option_map (λ n. 1 + n)) (comment_len-append (c ∷ xs) ys m.0 m.1)
    ∙ ap Some (let s : 1 + m.0 ≡ n = omega (arith, m.2) in s))
    (cases_Bool (b == 42 && c == 47))

comment_len-take : (bytes : List ℕ) (n : ℕ) → comment_len bytes ≡ Some n → (comment_len (take n bytes) ≡ Some n) × (n ≤ length bytes)
comment_len-take [] n e = absurd (cc)
comment_len-take (b ∷ []) n e = absurd (let f = alone b in cc)
  where
    alone : (b : ℕ) → comment_len (b ∷ []) ≡ None
    alone b = tested (λ o. o ≡ None) (b == 42 && 0 == 47) (Some 2) None (λ t. absurd (true≢false (sym (and_parts (b == 42) false t).1))) (λ _. refl)
comment_len-take (b ∷ c ∷ bytes) n e =
    ⊎_elim
    (λ closes.
    let two : n ≡ 2 = (let f : Some 2 ≡ Some n = sym (ap (λ t. cond t (Some 2) (option_map (λ n. 1 + n) (comment_len (c ∷ bytes)))) closes) ∙ e in let g : 2 ≡ n = cc in sym g) in (
      subst (λ k. comment_len (take k (b ∷ c ∷ bytes)) ≡ Some k) (sym two)
          (ap (λ t. cond t (Some 2) (option_map (λ n. 1 + n) (comment_len (c ∷ [])))) closes),
      omega arith,
    ))
    (λ open_.
    let m = mapped (comment_len (c ∷ bytes)) n (sym (ap (λ t. cond t (Some 2) (option_map (λ n. 1 + n) (comment_len (c ∷ bytes)))) open_) ∙ e) in
    let rest = comment_len-take (c ∷ bytes) m.0 m.1 in
    (subst (λ k. comment_len (take k (b ∷ c ∷ bytes)) ≡ Some k) (sym m.2) (longer b c bytes m.0 open_ rest.0), omega (arith, rest.1, m.2)))
    (cases_Bool (b == 42 && c == 47))
  where
    longer : (b c : ℕ) (bytes : List ℕ) (m : ℕ) → (b == 42 && c == 47) ≡ false → comment_len (take m (c ∷ bytes)) ≡ Some m → comment_len (b ∷ take m (c ∷ bytes)) ≡ Some (suc m)
    longer b c bytes zero open_ e = absurd (cc)
    longer b c bytes (suc m) open_ e =
        ap (λ t. cond t (Some 2) (option_map (λ n. 1 + n) (comment_len (c ∷ take m bytes)))) open_
        ∙ ap (option_map (λ n. 1 + n)) e
        ∙ ap Some (let s : 1 + suc m ≡ suc (suc m) = omega arith in s)

-- what is white space or a comment is read as that
white_piece : (b : ℕ) (after : List ℕ) → (is_line_end b || is_blank b) ≡ true → piece (b ∷ after) ≡ Blank 1 (is_line_end b || false)
unfolding piece
white_piece b after white =
    ⊎_elim
    (λ feed. ap (λ t. cond t (Blank 1 true) (other_piece b after)) feed ∙ sym (ap (λ t. Blank 1 (t || false)) feed))
    (λ other. ap (λ t. cond t (Blank 1 true) (other_piece b after)) other
    ∙ ap (λ t. cond t (Blank 1 false) (slash_piece b after)) (sym (ap (λ t. t || is_blank b) other) ∙ white)
    ∙ sym (ap (λ t. Blank 1 (t || false)) other))
    (cases_Bool (is_line_end b))
  where
    slash_piece : ℕ → List ℕ → Piece
    slash_piece b after = cond (b == 47 && slice_index after 0 == 47) (line_comment (b ∷ after))
        (cond (b == 47 && slice_index after 0 == 42) (general_comment (b ∷ after)) (lexeme (b ∷ after)))

    other_piece : ℕ → List ℕ → Piece
    other_piece b after = cond (is_blank b) (Blank 1 false) (slash_piece b after)

line_piece : (body after : List ℕ) → list_any is_line_end body ≡ false → at_line_end after ≡ true
    → piece (47 ∷ 47 ∷ (body ++ after)) ≡ Blank (length (47 ∷ 47 ∷ body)) (list_any is_line_end (47 ∷ 47 ∷ body))
unfolding piece line_comment
line_piece body after one ends =
    ap (λ n. Blank n false) (let p = position_before body after one ends in let e : 1 + (1 + position_or_len is_line_end (body ++ after)) ≡ suc (suc (length body)) = omega arith in e)
    ∙ ap (Blank (suc (suc (length body)))) (sym one)

general_piece : (body after : List ℕ) → comment_len body ≡ Some (length body)
    → piece (47 ∷ 42 ∷ (body ++ after)) ≡ Blank (length (47 ∷ 42 ∷ body)) (list_any is_line_end (47 ∷ 42 ∷ body))
unfolding piece general_comment
general_piece body after closed =
    ap (comment_piece (47 ∷ 42 ∷ (body ++ after))) (comment_len-append body after (length body) closed)
    ∙ ap (λ n. Blank n (list_any is_line_end (take n (47 ∷ 42 ∷ (body ++ after))))) (let e : 2 + length body ≡ suc (suc (length body)) = omega arith in e)
    ∙ ap (λ t. Blank (suc (suc (length body))) (list_any is_line_end (47 ∷ 42 ∷ t))) (take_at body after (length body) refl)

pub blank_piece : (text after : List ℕ) → IsBlank text after → piece (text ++ after) ≡ Blank (length text) (list_any is_line_end text)
blank_piece text after blank =
    ⊎_elim (λ white. by_white text after white) (λ comment. ⊎_elim (λ line. by_line text after line) (λ general. by_general text after general) comment) blank
  where
    by_white : (text after : List ℕ) → IsWhite text → piece (text ++ after) ≡ Blank (length text) (list_any is_line_end text)
    by_white text after w =
        subst (λ t. piece (t ++ after) ≡ Blank (length t) (list_any is_line_end t)) (sym w.spelling) (white_piece w.byte after w.white)

    by_line : (text after : List ℕ) → IsLineComment text after → piece (text ++ after) ≡ Blank (length text) (list_any is_line_end text)
    by_line text after c =
        subst (λ t. piece (t ++ after) ≡ Blank (length t) (list_any is_line_end t)) (sym c.spelling) (line_piece c.body after c.one_line c.to_its_end)

    by_general : (text after : List ℕ) → IsGeneralComment text → piece (text ++ after) ≡ Blank (length text) (list_any is_line_end text)
    by_general text after c =
        subst (λ t. piece (t ++ after) ≡ Blank (length t) (list_any is_line_end t)) (sym c.spelling) (general_piece c.body after c.closed)

-- no token and no fault is white space or a comment
abbrev NotBlank : Piece → Type 0
NotBlank (Blank len ends) = ⊥
NotBlank (Token kind len) = Unit {0}
NotBlank (Fault kind at) = Unit {0}
NotBlank (Open kind) = Unit {0}

operator_not_blank : (table : List Row) (bytes : List ℕ) → NotBlank (first_operator table bytes)
operator_not_blank [] bytes = tt
operator_not_blank (entry ∷ table) bytes =
    tested NotBlank (starts_with nat_eq bytes entry.0) _ _ (λ _. tt) (λ _. operator_not_blank table bytes)

string_not_blank : (b : Body) → NotBlank (string_piece b)
string_not_blank (body.Closed len) = tt
string_not_blank body.Newline = tt
string_not_blank (body.BadEscape at) = tt
string_not_blank body.Open = tt

rune_not_blank : (bytes : List ℕ) (b : Body) → NotBlank (rune_piece bytes b)
rune_not_blank bytes (body.Closed len) = tested NotBlank (is_some (rune_code (take (len - 1) (drop 1 bytes)))) _ _ (λ _. tt) (λ _. tt)
rune_not_blank bytes body.Newline = tt
rune_not_blank bytes (body.BadEscape at) = tt
rune_not_blank bytes body.Open = tt

within_not_blank : (end : ℕ) (o : Option ℕ) → NotBlank (within end o)
within_not_blank end None = tt
within_not_blank end (Some n) = tt

number_not_blank : (bytes : List ℕ) → NotBlank (number bytes)
unfolding number whole_number
number_not_blank bytes =
    let end = number_end (radix bytes) bytes in
    tested NotBlank (begins_fraction (slice_index bytes end)) _ _ (λ _. tt)
    (λ _. tested NotBlank (slice_index bytes end == 105) _ _ (λ _. tt)
    (λ _. tested NotBlank (is_numeral (radix bytes).base (digits_in (radix bytes) bytes end)) _ _
    (λ _. within_not_blank end (whole (radix bytes).base (digits_in (radix bytes) bytes end))) (λ _. tt)))

lexeme_not_blank : (bytes : List ℕ) → NotBlank (lexeme bytes)
unfolding lexeme string rune raw_string word operator
lexeme_not_blank bytes =
    let b = slice_index bytes 0 in
    tested NotBlank (b == 34) _ _ (λ _. string_not_blank (body 34 (drop 1 bytes)))
    (λ _. tested NotBlank (b == 39) _ _ (λ _. rune_not_blank bytes (body 39 (drop 1 bytes)))
    (λ _. tested NotBlank (b == 96) _ _ (λ _. tested NotBlank (nat_lt (raw_end bytes) (length bytes)) _ _ (λ _. tt) (λ _. tt))
    (λ _. tested NotBlank (is_decimal b) _ _ (λ _. number_not_blank bytes)
    (λ _. tested NotBlank (b == 46 && is_decimal (slice_index bytes 1)) _ _ (λ _. tt)
    (λ _. tested NotBlank (begins_name bytes) _ _ (λ _. tt) (λ _. operator_not_blank operators bytes))))))

-- what is read as white space or a comment is that
pub record IsBlankOf (bytes : List ℕ) (len : ℕ) (ends : Bool) : Type 0 where
  pub blank : IsBlank (take len bytes) (drop len bytes)
  pub line : ends ≡ list_any is_line_end (take len bytes)

abbrev BlankIs : List ℕ → Piece → Type 0
BlankIs bytes (Blank len ends) = IsBlankOf bytes len ends
BlankIs bytes (Token kind len) = Unit {0}
BlankIs bytes (Fault kind at) = Unit {0}
BlankIs bytes (Open kind) = Unit {0}

blank_unless : (bytes : List ℕ) (x : Piece) → NotBlank x → BlankIs bytes x
blank_unless bytes (Blank len ends) p = absurd p
blank_unless bytes (Token kind len) p = tt
blank_unless bytes (Fault kind at) p = tt
blank_unless bytes (Open kind) p = tt

feed_is : (b : ℕ) (bytes : List ℕ) → is_line_end b ≡ true → IsBlankOf (b ∷ bytes) 1 true
feed_is b bytes feed = record {
  blank = inl (record { byte = b; spelling = refl; white = or_left (is_line_end b) (is_blank b) feed });
  line = sym (or_left (is_line_end b) false feed);
}

white_is : (b : ℕ) (bytes : List ℕ) → is_line_end b ≡ false → is_blank b ≡ true → IsBlankOf (b ∷ bytes) 1 false
white_is b bytes other white = record {
  blank = inl (record { byte = b; spelling = refl; white = or_right (is_line_end b) (is_blank b) white });
  line = sym (ap (λ t. t || false) other);
}

line_is : (bytes : List ℕ) → slice_index bytes 0 ≡ 47 → slice_index bytes 1 ≡ 47 → BlankIs bytes (line_comment bytes)
unfolding line_comment
line_is [] e f = absurd (omega arith)
line_is (b ∷ []) e f = absurd (omega arith)
line_is (b ∷ c ∷ bytes) e f =
    subst (λ x. BlankIs (x ∷ c ∷ bytes) (Blank (position_or_len is_line_end (x ∷ c ∷ bytes)) false)) (sym e)
    (subst (λ y. BlankIs (47 ∷ y ∷ bytes) (Blank (position_or_len is_line_end (47 ∷ y ∷ bytes)) false)) (sym f)
    (at_slashes bytes (position_or_len is_line_end bytes) (position_is bytes)))
  where
    at_slashes : (bytes : List ℕ) (n : ℕ) → (list_any is_line_end (take n bytes) ≡ false) × (at_line_end (drop n bytes) ≡ true)
        → IsBlankOf (47 ∷ 47 ∷ bytes) (1 + (1 + n)) false
    at_slashes bytes n is =
        let two : 1 + (1 + n) ≡ suc (suc n) = omega arith in
        subst (λ k. IsBlankOf (47 ∷ 47 ∷ bytes) k false) (sym two)
        (record {
          blank = inr (inl (record { body = take n bytes; spelling = refl; one_line = is.0; to_its_end = is.1 }));
          line = sym is.0;
        })

general_is : (bytes : List ℕ) → slice_index bytes 0 ≡ 47 → slice_index bytes 1 ≡ 42 → BlankIs bytes (general_comment bytes)
unfolding general_comment
general_is [] e f = absurd (omega arith)
general_is (b ∷ []) e f = absurd (omega arith)
general_is (b ∷ c ∷ bytes) e f =
    subst (λ x. BlankIs (x ∷ c ∷ bytes) (comment_piece (x ∷ c ∷ bytes) (comment_len bytes))) (sym e)
    (subst (λ y. BlankIs (47 ∷ y ∷ bytes) (comment_piece (47 ∷ y ∷ bytes) (comment_len bytes))) (sym f)
    (at_slash bytes (comment_len bytes) refl))
  where
    at_slash : (bytes : List ℕ) (o : Option ℕ) → comment_len bytes ≡ o → BlankIs (47 ∷ 42 ∷ bytes) (comment_piece (47 ∷ 42 ∷ bytes) o)
    at_slash bytes None is = tt
    at_slash bytes (Some n) is =
        let front = comment_len-take bytes n is in
        let two : 2 + n ≡ suc (suc n) = omega arith in
        subst (λ k. IsBlankOf (47 ∷ 42 ∷ bytes) k (list_any is_line_end (take k (47 ∷ 42 ∷ bytes)))) (sym two)
        (record {
          blank = inr (inr (record { body = take n bytes; spelling = refl; closed = front.0 ∙ ap Some (sym (length-take-le n bytes front.1)) }));
          line = refl;
        })

piece_blank : (bytes : List ℕ) → 1 ≤ length bytes → BlankIs bytes (piece bytes)
unfolding piece
piece_blank [] le = absurd (omega arith)
piece_blank (b ∷ bytes) le =
    let all_ = b ∷ bytes in
    let next = slice_index bytes 0 in
    tested (BlankIs all_) (is_line_end b) _ _ (λ feed. feed_is b bytes feed)
    (λ other. tested (BlankIs all_) (is_blank b) _ _ (λ white. white_is b bytes other white)
    (λ _. tested (BlankIs all_) (b == 47 && next == 47) _ _
    (λ e. let p = and_parts (b == 47) (next == 47) e in line_is all_ (eqb-true b 47 p.0) (eqb-true next 47 p.1))
    (λ _. tested (BlankIs all_) (b == 47 && next == 42) _ _
    (λ e. let p = and_parts (b == 47) (next == 42) e in general_is all_ (eqb-true b 47 p.0) (eqb-true next 42 p.1))
    (λ _. blank_unless all_ (lexeme all_) (lexeme_not_blank all_)))))

pub piece_is_blank : (bytes : List ℕ) (len : ℕ) (ends : Bool) → 1 ≤ length bytes → piece bytes ≡ Blank len ends → IsBlankOf bytes len ends
piece_is_blank bytes len ends le is = subst (BlankIs bytes) is (piece_blank bytes le)

neither : (x y : Bool) → (x || y) ≡ false → (x ≡ false) × (y ≡ false)
neither true y e = absurd (true≢false e)
neither false y e = (refl, e)

-- and where neither begins, a token or a fault is read
pub piece_by_lexeme : (bytes : List ℕ) → begins_blank bytes ≡ false → piece bytes ≡ lexeme bytes
unfolding piece
piece_by_lexeme bytes no_blank =
    let b = slice_index bytes 0 in
    let next = slice_index bytes 1 in
    let slash = b == 47 && next == 47 in
    let star = b == 47 && next == 42 in
    let p = neither (is_line_end b) (is_blank b || (slash || star)) no_blank in
    let q = neither (is_blank b) (slash || star) p.1 in
    let r = neither slash star q.1 in
    ap (λ t. cond t (Blank 1 true) (cond (is_blank b) (Blank 1 false) (cond slash (line_comment bytes) (cond star (general_comment bytes) (lexeme bytes))))) p.0
    ∙ ap (λ t. cond t (Blank 1 false) (cond slash (line_comment bytes) (cond star (general_comment bytes) (lexeme bytes)))) q.0
    ∙ ap (λ t. cond t (line_comment bytes) (cond star (general_comment bytes) (lexeme bytes))) r.0
    ∙ ap (λ t. cond t (general_comment bytes) (lexeme bytes)) r.1

-- where either begins, no token is read
abbrev NoToken : Piece → Type 0
NoToken (Blank len ends) = Unit {0}
NoToken (Token kind len) = ⊥
NoToken (Fault kind at) = Unit {0}
NoToken (Open kind) = Unit {0}

comment_no_token : (bytes : List ℕ) (o : Option ℕ) → NoToken (comment_piece bytes o)
comment_no_token bytes None = tt
comment_no_token bytes (Some n) = tt

blank_no_token : (bytes : List ℕ) → begins_blank bytes ≡ true → NoToken (piece bytes)
unfolding piece line_comment general_comment
blank_no_token bytes begins =
    let b = slice_index bytes 0 in
    let next = slice_index bytes 1 in
    let slash = b == 47 && next == 47 in
    let star = b == 47 && next == 42 in
    tested NoToken (is_line_end b) _ _ (λ _. tt)
    (λ p. tested NoToken (is_blank b) _ _ (λ _. tt)
    (λ q. tested NoToken slash _ _ (λ _. tt)
    (λ r. tested NoToken star _ _ (λ _. comment_no_token bytes (comment_len (drop 2 bytes)))
    (λ s. absurd (true≢false (sym begins ∙ ap (λ t. t || (is_blank b || (slash || star))) p ∙ ap (λ t. t || (slash || star)) q ∙ ap (λ t. t || star) r ∙ s))))))

pub piece_token : (bytes : List ℕ) (kind : TokenKind) (len : ℕ) → piece bytes ≡ Token kind len → (begins_blank bytes ≡ false) × (lexeme bytes ≡ Token kind len)
piece_token bytes kind len is =
    ⊎_elim
    (λ begins. absurd (subst NoToken is (blank_no_token bytes begins)))
    (λ other. (other, sym (piece_by_lexeme bytes other) ∙ is))
    (cases_Bool (begins_blank bytes))
