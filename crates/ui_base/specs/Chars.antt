-- Letters, digits and upper case. Go specification, "Characters", "Letters and digits" and "Exported identifiers".
use Rattle.std.specs.Prelude.{ℕ, Bool, true, false, ◌||◌, ◌==◌}
use Rattle.ucd_category.specs.GeneralCategory.{general_category}
use Rattle.ucd_category.specs.declared.GeneralCategory.{GeneralCategory}
use Rattle.ucd_category.specs.declared.GeneralCategory.TheVariants.{UppercaseLetter, LowercaseLetter, TitlecaseLetter, ModifierLetter, OtherLetter, DecimalNumber}

-- the categories of letters: Lu, Ll, Lt, Lm and Lo
abbrev pub is_letter_category : GeneralCategory → Bool
is_letter_category UppercaseLetter = true
is_letter_category LowercaseLetter = true
is_letter_category TitlecaseLetter = true
is_letter_category ModifierLetter = true
is_letter_category OtherLetter = true
is_letter_category _ = false

-- the category of digits: Nd
abbrev pub is_digit_category : GeneralCategory → Bool
is_digit_category DecimalNumber = true
is_digit_category _ = false

-- the category of capitals: Lu
abbrev pub is_upper_category : GeneralCategory → Bool
is_upper_category UppercaseLetter = true
is_upper_category _ = false

-- a letter of an identifier; `_` is one
unfoldable pub is_letter : ℕ → Bool
is_letter c = c == 95 || is_letter_category (general_category c)

-- a digit of an identifier
unfoldable pub is_digit : ℕ → Bool
is_digit c = is_digit_category (general_category c)

-- a capital
unfoldable pub is_upper : ℕ → Bool
is_upper c = is_upper_category (general_category c)
