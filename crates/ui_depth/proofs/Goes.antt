-- Words before which a type or an expression may stop for its depth: none of them ends what it is a part of.
use Rattle.std.proofs.Common.{◌≡◌, Bool, true, false, ◌||◌, None, refl, sym, ap, ◌∙◌}
use Rattle.ui_base.specs.declared.value.Spot.{Spot}
use Rattle.ui_scan.specs.declared.kind.TokenKind.{TokenKind}
use Rattle.ui_scan.specs.declared.kind.TokenKind.TheVariants.{LParen, LBracket, LBrace, Period, Mul, Map, Func, Struct, Interface, Tilde}
use Rattle.ui_grammar.specs.Word.{Word, ident, lit, mark}
use Rattle.ui_grammar.specs.Operator.{operator_of}
use Rattle.ui_parse.specs.Kind.{is_kind}
use Rattle.ui_parse.proofs.SameKinds.{same_kind}
use Rattle.ui_parse.specs.Reader.{spot_if, marked}
use Rattle.ui_syntax.specs.Exprs.{is_some}

-- what a type goes on with, or results begin with that are no list
abbrev pub goes_type_kind : TokenKind → Bool
goes_type_kind k = is_kind k Period || (is_kind k LBracket || (is_kind k Func || (is_kind k Struct || (is_kind k Interface || (is_kind k Map || is_kind k Mul)))))

-- what a type begins with, too
abbrev pub begins_kind : TokenKind → Bool
begins_kind k = is_kind k LParen || goes_type_kind k

-- what an expression goes on with, too
abbrev pub goes_kind : TokenKind → Bool
goes_kind k = is_kind k LBrace || (is_kind k Tilde || (is_some (operator_of k) || begins_kind k))

abbrev pub by_kind : (TokenKind → Bool) → Word → Bool
by_kind f (ident p) = true
by_kind f (lit k s v) = false
by_kind f (mark k s) = f k

abbrev pub goes_type : Word → Bool
goes_type w = by_kind goes_type_kind w

abbrev pub begins : Word → Bool
begins w = by_kind begins_kind w

abbrev pub goes : Word → Bool
goes w = by_kind goes_kind w

or_right : (a b : Bool) → b ≡ true → (a || b) ≡ true
or_right true b e = refl
or_right false b e = e

pub type_begins : (w : Word) → goes_type w ≡ true → begins w ≡ true
type_begins (ident p) e = refl
type_begins (lit k s v) e = e
type_begins (mark k s) e = or_right (is_kind k LParen) (goes_type_kind k) e

pub begins_goes : (w : Word) → begins w ≡ true → goes w ≡ true
begins_goes (ident p) e = refl
begins_goes (lit k s v) e = e
begins_goes (mark k s) e = or_right (is_kind k LBrace) _ (or_right (is_kind k Tilde) _ (or_right (is_some (operator_of k)) _ e))

pub type_goes : (w : Word) → goes_type w ≡ true → goes w ≡ true
type_goes w e = begins_goes w (type_begins w e)

-- ---- marks that are none of them

other_kind : (f : TokenKind → Bool) (k found : TokenKind) (b : Bool) → is_kind found k ≡ b → f found ≡ true → f k ≡ false → b ≡ false
other_kind f k found false e on off = refl
other_kind f k found true e on off = let clash : true ≡ false = sym on ∙ ap f (same_kind found k e) ∙ off in absurd cc

-- a mark for which a test fails is not found where it passes
pub unlike : (f : TokenKind → Bool) (k found : TokenKind) → f found ≡ true → f k ≡ false → is_kind found k ≡ false
unlike f k found on off = other_kind f k found (is_kind found k) refl on off

not_mark : (f : TokenKind → Bool) (k : TokenKind) (w : Word) → by_kind f w ≡ true → f k ≡ false → marked k w ≡ None
not_mark f k (ident p) on off = refl
not_mark f k (lit l s v) on off = refl
not_mark f k (mark found s) on off = ap (λ (b : Bool). spot_if b s) (unlike f k found on off)

pub no_goes : (k : TokenKind) (w : Word) → goes w ≡ true → goes_kind k ≡ false → marked k w ≡ None
no_goes k w on off = not_mark goes_kind k w on off

pub no_goes_type : (k : TokenKind) (w : Word) → goes_type w ≡ true → goes_type_kind k ≡ false → marked k w ≡ None
no_goes_type k w on off = not_mark goes_type_kind k w on off

or_cases : (a b : Bool) → (a || b) ≡ true → a ≡ false → b ≡ true
or_cases true b e off = absurd cc
or_cases false b e off = e

spot_none : (b : Bool) (s : Spot) → spot_if b s ≡ None → b ≡ false
spot_none true s e = absurd cc
spot_none false s e = refl

-- a type begins, and no parenthesis
pub begins_bare : (w : Word) → begins w ≡ true → marked LParen w ≡ None → goes_type w ≡ true
begins_bare (ident p) e none = refl
begins_bare (lit k s v) e none = e
begins_bare (mark k s) e none = or_cases (is_kind k LParen) (goes_type_kind k) e (spot_none (is_kind k LParen) s none)
