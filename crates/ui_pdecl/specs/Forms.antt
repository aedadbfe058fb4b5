-- Forms of Go that no tree of a file stands for, by the word that no file goes on with and the words before it. Go
-- specification, "Import declarations", "Alias declarations".
use Rattle.std.specs.Prelude.{Bool, false, ◌&&◌, ◌||◌, List, length, drop, reverse, Option, None}
use Rattle.ui_scan.specs.declared.kind.TokenKind.{TokenKind}
use Rattle.ui_scan.specs.declared.kind.TokenKind.TheVariants as kind
use Rattle.ui_grammar.specs.Word.{Word}
use Rattle.ui_parse.specs.Reader.{tail}
use Rattle.ui_stmts.specs.Decls.{type_params_apart}
use Rattle.ui_pexpr.specs.declared.fault.Form.{Form}
use Rattle.ui_pexpr.specs.declared.fault.Form.TheVariants.{DotImport, GenericAlias}
use Rattle.ui_pexpr.specs.Back.{kind_at, last_is, opening}
use Rattle.ui_pexpr.specs.Forms as parts
use Rattle.ui_pexpr.specs.Forms.{is_whole, form_if, or_else}

-- ---- specifications. Words before a place come last first here

abbrev pub opens_group : TokenKind → List Word → Bool
opens_group k bracket = last_is kind.LParen bracket && last_is k (tail bracket)

-- A specification begins behind these words: right behind this keyword, or in its parentheses, behind the one that opens
-- or a semicolon.
abbrev pub begins_spec : TokenKind → List Word → Bool
begins_spec k back = last_is k back || ((last_is kind.LParen back || last_is kind.Semi back) && opens_group k (opening false 0 back))

-- ---- the parameters of a type

-- a type's name and a bracket
abbrev pub opens_params : List Word → Bool
opens_params bracket = last_is kind.LBracket bracket && (last_is kind.Ident (tail bracket) && begins_spec kind.«Type» (tail (tail bracket)))

abbrev pub params_from : List Word → List Word → Bool
params_from front bracket = opens_params bracket && is_whole (type_params_apart 199 (drop (length bracket) front))

-- the words end with the parameters of a type specification, and their bracket
abbrev pub behind_params : List Word → List Word → Bool
behind_params front back = last_is kind.RBracket back && params_from front (opening false 0 (tail back))

-- ---- all forms

-- a form of files alone: a `.` in the place of an import's name, a `=` behind the parameters of a type
abbrev pub file_form : List Word → List Word → TokenKind → Option Form
file_form front back kind.Period = form_if (begins_spec kind.Import back) DotImport
file_form front back kind.Assign = form_if (behind_params front back) GenericAlias
file_form front back k = None

-- the form that begins behind these words with a word of such a kind, where no file goes on with it
abbrev pub form_by_kind : List Word → TokenKind → Option Form
form_by_kind front k = or_else (parts.form_by_kind front k) (file_form front (reverse front) k)

abbrev pub form_at : List Word → Word → Option Form
form_at front w = form_by_kind front (kind_at w)
