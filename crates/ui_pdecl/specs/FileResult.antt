-- What the tokens of a file give: its tree, or where and why it has none.
use Rattle.std.specs.Prelude.{◌≡◌, ℕ, suc, ◌+◌, ◌-◌, ◌*◌, Bool, not, ◌&&◌, ◌||◌, ◌==◌, List, [], ◌∷◌, length, take, drop, Option, Some, None, Result, Ok, Err, bytes_eq, if◌then◌else◌}
use Rattle.ui_base.specs.declared.value.Spot.{Spot}
use Rattle.ui_base.specs.Paths.{is_path}
use Rattle.ui_scan.specs.declared.kind.Token.{Token}
use Rattle.ui_scan.specs.declared.kind.TokenKind.{TokenKind}
use Rattle.ui_scan.specs.declared.kind.TokenKind.TheVariants.{Str}
use Rattle.ui_tree.specs.declared.part.Specs.{Specs}
use Rattle.ui_tree.specs.declared.part.Specs.TheVariants.{One, Grouped}
use Rattle.ui_tree.specs.declared.decl.FileTree.{FileTree}
use Rattle.ui_tree.specs.Stmt.{Imported, Import, File}
use Rattle.ui_tree.specs.StmtView.{file_view}
use Rattle.ui_grammar.specs.Word.{Word, words}
use Rattle.ui_parse.specs.Kind.{is_kind}
use Rattle.ui_parse.specs.Reader.{Outcome, rest_of}
use Rattle.ui_stmts.specs.Decls.{whole_file}
use Rattle.ui_pexpr.specs.declared.fault.ParseFault.{ParseFault}
use Rattle.ui_pexpr.specs.declared.fault.ParseFault.TheVariants.{Unexpected, BadImportPath, NoMemory}
use Rattle.ui_pexpr.specs.Faults.{first_offset, first_kind, told}
use Rattle.ui_pexpr.specs.Forms.{none_left, or_else}
use Rattle.ui_pdecl.specs.Forms.{form_by_kind}

-- ---- the paths of imports

-- no package's path, or the file's own package's
abbrev pub is_bad : List ℕ → List ℕ → Bool
is_bad own path = not (is_path path) || bytes_eq path own

-- where the first bad path stands
abbrev pub bad_spec : List ℕ → List Imported → Option Spot
bad_spec own [] = None
bad_spec own (i ∷ is) = if is_bad own i.path.text then Some i.path.spot else bad_spec own is

abbrev pub all_specs : {S : Type 0} → Specs S → List S
all_specs (One s) = s ∷ []
all_specs (Grouped ss) = ss

abbrev pub bad_import : List ℕ → List Import → Option Spot
bad_import own [] = None
bad_import own (i ∷ is) = or_else (bad_spec own (all_specs i.specs)) (bad_import own is)

abbrev pub is_string_at : Spot → Token → Bool
is_string_at s t = is_kind t.kind Str && (t.line == s.line && t.col == s.col)

-- the first byte of the string at a spot
abbrev pub string_at : Spot → List Token → ℕ
string_at s [] = 0
string_at s (t ∷ ts) = if is_string_at s t then t.start else string_at s ts

abbrev pub with_paths : List Token → File → Option Spot → Result File ParseFault
with_paths ts f None = Ok f
with_paths ts f (Some s) = Err (BadImportPath (string_at s ts))

-- ---- faults

-- how many levels let a reading of so many words go as far as any number of levels does
abbrev pub enough : ℕ → ℕ
enough n = 8 * n + 16

-- With more levels the word behind the first k is read too: no word is left of these k + 1.
abbrev pub reads_farther : List Word → ℕ → Bool
reads_farther ws k = none_left (rest_of (whole_file (199 + enough (suc k)) (take (suc k) ws)))

-- the fault behind the first k words, where a token of this kind is there, or none is
abbrev pub told_at : List Word → ℕ → Option TokenKind → ℕ → ParseFault
told_at ws k None at = Unexpected at
told_at ws k (Some kind) at = told (reads_farther ws k) (form_by_kind (take k ws) kind) at

abbrev pub fault_behind : List ℕ → List Token → ℕ → ParseFault
fault_behind bytes ts k = told_at (words bytes ts) k (first_kind (drop k ts)) (first_offset bytes (drop k ts))

-- ---- the result

abbrev pub result_of : List ℕ → List ℕ → List Token → Outcome File → Result File ParseFault
result_of own bytes ts (Ok p) = with_paths ts p.0 (bad_import own p.0.imports)
result_of own bytes ts (Err rest) = Err (fault_behind bytes ts (length ts - length rest))

-- Depth is limited to 200.
unfoldable pub file_result : List ℕ → List ℕ → List Token → Result File ParseFault
file_result own bytes ts = result_of own bytes ts (whole_file 199 (words bytes ts))

-- The code's result is this one, but for want of memory.
abbrev pub IsResult : Result File ParseFault → Result FileTree ParseFault → Type 0
IsResult (Ok f) (Ok t) = file_view t ≡ f
IsResult (Err e) (Err g) = (g ≡ NoMemory → ⊥) → g ≡ e
IsResult (Ok f) (Err g) = g ≡ NoMemory
IsResult (Err e) (Ok t) = ⊥
