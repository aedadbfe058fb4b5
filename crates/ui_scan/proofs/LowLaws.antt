-- Letters and digits below 128, and names one character at a time.
use Rattle.std.proofs.Common.{◌≡◌, ℕ, ◌+◌, ◌<◌, ◌≤◌, true, false, cond, List, [], ◌∷◌, ◌++◌, length, drop, get_or, refl, sym, ap, ◌∙◌, arith, ⊎_elim}
use Rattle.std.specs.Prelude.{Option, Some, None}
use Rattle.std.specs.Char.{len_utf8}
use Rattle.std.proofs.lemmas.Bool.{cases_Bool, agree_below_at}
use Rattle.std.proofs.lemmas.List.{length-drop}
use Rattle.std.proofs.lemmas.Str.{encode_ascii, length-encode, len_utf8_bounds}
use Rattle.ucd_category.specs.GeneralCategory.{general_category}
use Rattle.ucd_category.specs.GeneralCategoryRows.{general_category_rows}
use Rattle.ucd_table.specs.Rows.{value_in}
use Rattle.ui_base.specs.Chars.{is_letter, is_digit}
use Rattle.ui_base.specs.Names.{continues}
use Rattle.ui_scan.specs.Letters.{front_char, passes, width, begins_name, name_len, continuing_len, is_low_letter, low_continues}
use Rattle.ui_scan.proofs.LetterLaws.{front_char-encode, front_char_within, name_len_done, step_more}
use Rattle.ui_scan.proofs.WordLanguage.{low_scalar}

-- what ui_base says of them
low_letter : (b : ℕ) → b < 128 → is_low_letter b ≡ is_letter b
unfolding is_letter general_category value_in general_category_rows
low_letter b low = agree_below_at is_low_letter is_letter 128 b refl low

low_continuing : (b : ℕ) → b < 128 → low_continues b ≡ continues b
unfolding is_letter is_digit general_category value_in general_category_rows
low_continuing b low = agree_below_at low_continues continues 128 b refl low

-- at the front
front_of : (bytes : List ℕ) (b : ℕ) → 0 < length bytes → get_or bytes 0 0 ≡ b → b < 128 → front_char bytes ≡ Some b
front_of [] b some is low = absurd (omega arith)
front_of (x ∷ bytes) b some is low =
    let l : x < 128 = omega arith in
    ap (λ t. front_char (t ++ bytes)) (sym (encode_ascii x l)) ∙ front_char-encode x bytes (low_scalar x l) ∙ ap Some is

pub front_low : (bytes : List ℕ) (b : ℕ) → 0 < length bytes → b ≡ get_or bytes 0 0 → b < 128 → Some b ≡ front_char bytes
front_low bytes b some is low = sym (front_of bytes b some (sym is) low)

pub begins_low : (bytes : List ℕ) (b : ℕ) → 0 < length bytes → b ≡ get_or bytes 0 0 → b < 128 → is_low_letter b ≡ begins_name bytes
begins_low bytes b some is low = low_letter b low ∙ ap (passes is_letter) (front_low bytes b some is low)

pub continuing_low : (bytes : List ℕ) (b : ℕ) → 0 < length bytes → b ≡ get_or bytes 0 0 → b < 128 → cond (low_continues b) 1 0 ≡ continuing_len bytes
continuing_low bytes b some is low =
    ap (λ t. cond t 1 0) (low_continuing b low) ∙ one ∙ ap (λ o. cond (passes continues o) (width o) 0) (front_low bytes b some is low)
  where
    one : cond (continues b) 1 0 ≡ cond (continues b) (len_utf8 b) 0
    one = ap (λ n. cond (continues b) n 0) (ap length (sym (encode_ascii b low)) ∙ length-encode b)

-- the character there, where it continues a name
continuing_is : (bytes : List ℕ) (n : ℕ) (o : Option ℕ) → front_char (drop n bytes) ≡ o → 0 < cond (passes continues o) (width o) 0
    → n ≤ length bytes
    → (n + cond (passes continues o) (width o) 0 ≤ length bytes) × (n + cond (passes continues o) (width o) 0 + name_len (drop (n + cond (passes continues o) (width o) 0) bytes) ≡ n + name_len (drop n bytes))
continuing_is bytes n None is more le = absurd (omega arith)
continuing_is bytes n (Some c) is more le = ⊎_elim
    (λ (yes : continues c ≡ true).
    let w : cond (continues c) (len_utf8 c) 0 ≡ len_utf8 c = ap (λ t. cond t (len_utf8 c) 0) yes in
    rw w (omega (arith, front_char_within (drop n bytes) c is, length-drop n bytes, le), step_more bytes n c is yes))
    (λ (no : continues c ≡ false).
    let w : cond (continues c) (len_utf8 c) 0 ≡ 0 = ap (λ t. cond t (len_utf8 c) 0) no in
    absurd (omega (arith, w, more)))
    (cases_Bool (continues c))

-- one more step over a name
pub name_goes_on : (bytes : List ℕ) (n more : ℕ) → n ≤ length bytes → more ≡ continuing_len (drop n bytes) → 0 < more
    → (n + more ≤ length bytes) × (n + more + name_len (drop (n + more) bytes) ≡ n + name_len (drop n bytes))
name_goes_on bytes n more le is some =
    rw is (continuing_is bytes n (front_char (drop n bytes)) refl (omega (arith, is, some)) le)

-- and its end
not_continuing : (bytes : List ℕ) (o : Option ℕ) → front_char bytes ≡ o → cond (passes continues o) (width o) 0 ≡ 0 → passes continues o ≡ false
not_continuing bytes None is none = refl
not_continuing bytes (Some c) is none = ⊎_elim
    (λ (yes : continues c ≡ true). absurd (omega (arith, ap (λ t. cond t (len_utf8 c) 0) yes, none, len_utf8_bounds c)))
    (λ (no : continues c ≡ false). no)
    (cases_Bool (continues c))

pub name_ends : (bytes : List ℕ) (more : ℕ) → more ≡ continuing_len bytes → more ≡ 0 → name_len bytes ≡ 0
name_ends bytes more is none = name_len_done bytes (not_continuing bytes (front_char bytes) refl (sym is ∙ none))
