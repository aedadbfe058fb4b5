-- Forms of Go that no tree of an expression or a type stands for, by the word that nothing goes on with and the words
-- before it. Go specification, "Struct types" for tags.
use Rattle.std.specs.Prelude.{Bool, true, false, ◌&&◌, List, [], ◌∷◌, length, drop, reverse, Option, Some, None, Ok, Err}
use Rattle.ui_scan.specs.declared.kind.TokenKind.{TokenKind}
use Rattle.ui_scan.specs.declared.kind.TokenKind.TheVariants as kind
use Rattle.ui_tree.specs.Tree.{TypeTree}
use Rattle.ui_grammar.specs.Word.{Word}
use Rattle.ui_parse.specs.Names.{names}
use Rattle.ui_parse.specs.Reader.{Outcome, Reader, ◌>>=◌, tail}
use Rattle.ui_syntax.specs.Cover.{Read}
use Rattle.ui_syntax.specs.Read.{type}
use Rattle.ui_pexpr.specs.declared.fault.Form.{Form}
use Rattle.ui_pexpr.specs.declared.fault.Form.TheVariants.{Chan, Defer, Fallthrough, Func, Go, Goto, Select, «Type», Arrow, Ellipsis, Tag}
use Rattle.ui_pexpr.specs.Back.{kind_at, last_is, opening}

-- the form without trees that a token of this kind begins, wherever it is
abbrev pub form_of : TokenKind → Option Form
form_of kind.Chan = Some Chan
form_of kind.Defer = Some Defer
form_of kind.Fallthrough = Some Fallthrough
form_of kind.Func = Some Func
form_of kind.Go = Some Go
form_of kind.Goto = Some Goto
form_of kind.Select = Some Select
form_of kind.«Type» = Some «Type»
form_of kind.Arrow = Some Arrow
form_of kind.Ellipsis = Some Ellipsis
form_of other = None

-- ---- a field's type

abbrev pub none_left : List Word → Bool
none_left [] = true
none_left (w ∷ ws) = false

-- the reader reads all of the words
abbrev pub is_whole : {A : Type 0} → Outcome A → Bool
is_whole (Ok p) = none_left p.1
is_whole (Err ws) = false

-- Names Type, where no field of a form is deeper
abbrev pub field : Reader (Read TypeTree)
field = names >>= (λ ns. type 199)

abbrev pub in_struct : List Word → Bool
in_struct bracket = last_is kind.LBrace bracket && last_is kind.Struct (tail bracket)

-- the words, which come last first too, end with a whole field of a struct that is open
abbrev pub behind_field : List Word → List Word → Bool
behind_field front back = in_struct (opening false 0 back) && is_whole (field (drop (length (opening true 0 back)) front))

-- ---- all forms

abbrev pub form_if : Bool → Form → Option Form
form_if true f = Some f
form_if false f = None

abbrev pub or_else : {A : Type 0} → Option A → Option A → Option A
or_else None b = b
or_else (Some a) b = Some a

-- a string behind a field is its tag
abbrev pub tag_by_kind : List Word → TokenKind → Option Form
tag_by_kind front kind.Str = form_if (behind_field front (reverse front)) Tag
tag_by_kind front k = None

-- the form that begins behind these words with a word of such a kind, where nothing goes on with it
abbrev pub form_by_kind : List Word → TokenKind → Option Form
form_by_kind front k = or_else (form_of k) (tag_by_kind front k)

abbrev pub form_at : List Word → Word → Option Form
form_at front w = form_by_kind front (kind_at w)

abbrev pub form_by_maybe : List Word → Option TokenKind → Option Form
form_by_maybe front None = None
form_by_maybe front (Some k) = form_by_kind front k
