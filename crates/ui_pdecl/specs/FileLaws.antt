-- What the result of a file's tokens says by the grammar alone.
use Rattle.std.specs.Prelude.{◌≡◌, ◌⊎◌, ℕ, true, List, ◌∷◌, ◌++◌, drop, Some, None, Ok, Err}
use Rattle.ui_base.specs.declared.value.Spot.{Spot}
use Rattle.ui_base.specs.declared.value.Value.TheVariants as value
use Rattle.ui_scan.specs.Tokens.{Tokens}
use Rattle.ui_scan.specs.declared.kind.Token.{Token}
use Rattle.ui_tree.specs.declared.part.LiteralKind.TheVariants.{Text}
use Rattle.ui_tree.specs.Stmt.{File}
use Rattle.ui_grammar.specs.Word.{lit, word_of, words}
use Rattle.ui_grammar.specs.Parse.{HasFile, IsFault, depth_limit}
use Rattle.ui_pexpr.specs.declared.fault.ParseFault.{ParseFault}
use Rattle.ui_pexpr.specs.declared.fault.ParseFault.TheVariants.{BadImportPath}
use Rattle.ui_pexpr.specs.Faults.{StandsAt, IsKind}
use Rattle.ui_pexpr.specs.Laws.{Stays}
use Rattle.ui_pdecl.specs.Forms.{form_at}
use Rattle.ui_pdecl.specs.FileResult.{is_bad, bad_import, file_result}

-- The words are no file, and the fault, which is of its kind, stands at the word behind the longest list of them with which
-- a file begins.
pub record IsNoFile (bytes : List ℕ) (ts : List Token) (e : ParseFault) : Type 0 where
  pub count : ℕ
  pub fault : IsFault (HasFile depth_limit) (words bytes ts) count
  pub stands : StandsAt bytes (drop count ts) e
  pub kind : IsKind HasFile form_at (words bytes ts) count e

-- The words are a file, and the fault stands at the token of the first of its paths that isn't good.
pub record HasBadPath (own bytes : List ℕ) (ts : List Token) (e : ParseFault) : Type 0 where
  pub tree : File
  pub has : HasFile depth_limit (words bytes ts) tree
  pub spot : Spot
  pub first : bad_import own tree.imports ≡ Some spot
  pub before : List Token
  pub token : Token
  pub behind : List Token
  pub parts : ts ≡ before ++ (token ∷ behind)
  pub path : List ℕ
  pub string : word_of bytes token ≡ lit Text spot (value.Str path)
  pub bad : is_bad own path ≡ true
  pub told : e ≡ BadImportPath token.start

-- A tree is given exactly where the words are a file with good paths, this one, and no other; a fault exactly where it is
-- the fault of words that are no file, or of a file's paths.
pub record Decided (own bytes : List ℕ) (ts : List Token) : Type 0 where
  pub found : (f : File) → file_result own bytes ts ≡ Ok f → HasFile depth_limit (words bytes ts) f × (bad_import own f.imports ≡ None)
  pub every : (f : File) → HasFile depth_limit (words bytes ts) f → bad_import own f.imports ≡ None → file_result own bytes ts ≡ Ok f
  pub one : (f g : File) → HasFile depth_limit (words bytes ts) f → HasFile depth_limit (words bytes ts) g → f ≡ g
  pub faulty : (e : ParseFault) → file_result own bytes ts ≡ Err e → IsNoFile bytes ts e ⊎ HasBadPath own bytes ts e
  pub refused : (e : ParseFault) → IsNoFile bytes ts e ⊎ HasBadPath own bytes ts e → file_result own bytes ts ≡ Err e

abbrev pub DecidesFiles : Type 0
DecidesFiles = (own bytes : List ℕ) (ts : List Token) → Tokens bytes ts → Decided own bytes ts

abbrev pub FileFaultsStay : Type 0
FileFaultsStay = Stays HasFile
