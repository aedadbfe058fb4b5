-- What names mean at a declaration. Go specification, "Declarations and scope", "Predeclared
-- identifiers", "Iota".
use Rattle.std.specs.Prelude.{ℕ, pos, List, [], ◌∷◌, Option, Some, None, codes, get_or, bytes_eq}
use Rattle.std.specs.Prelude.{if◌then◌else◌}
use Rattle.ui_base.specs.declared.value.Value.TheVariants.{Whole}
use Rattle.ui_base.specs.declared.kind.Basic.TheVariants.{UntypedInt}
use Rattle.ui_types.specs.Ty.{basic}
use Rattle.ui_scopes.specs.Scopes.{MeaningTree, ScopeTree, or_else, predeclared, constant}
use Rattle.ui_rules.specs.Names.{is_word}
use Rattle.ui_collect.specs.Items.{What, aliased, made_as, varied, valued, miscounted, called, Item}

abbrev pub Meanings : Type 0
Meanings = List ℕ → Option MeaningTree

abbrev pub no_names : Meanings
no_names n = None

-- "Predeclared identifiers"
abbrev pub predeclared_names : List (List ℕ)
predeclared_names =
    codes "any" ∷ codes "bool" ∷ codes "byte" ∷ codes "comparable" ∷ codes "complex64"
    ∷ codes "complex128" ∷ codes "error" ∷ codes "float32" ∷ codes "float64" ∷ codes "int"
    ∷ codes "int8" ∷ codes "int16" ∷ codes "int32" ∷ codes "int64" ∷ codes "rune"
    ∷ codes "string" ∷ codes "uint" ∷ codes "uint8" ∷ codes "uint16" ∷ codes "uint32"
    ∷ codes "uint64" ∷ codes "uintptr" ∷ codes "true" ∷ codes "false" ∷ codes "iota"
    ∷ codes "nil" ∷ codes "append" ∷ codes "cap" ∷ codes "clear" ∷ codes "close"
    ∷ codes "complex" ∷ codes "copy" ∷ codes "delete" ∷ codes "imag" ∷ codes "len"
    ∷ codes "make" ∷ codes "max" ∷ codes "min" ∷ codes "new" ∷ codes "panic" ∷ codes "print"
    ∷ codes "println" ∷ codes "real" ∷ codes "recover" ∷ []

unfoldable pub universe : Meanings
universe n = if is_word predeclared_names n then Some (predeclared n) else None

-- "Iota": in a constant's declaration `iota` is the number of its specification
abbrev pub iota_names : Option ℕ → Meanings
iota_names None n = None
iota_names (Some k) n = if bytes_eq n (codes "iota") then Some (constant (basic UntypedInt) (Whole
    (pos k))) else None

-- a file's name, and what the names of its imports mean
pub record FileNames : Type 0 where
  pub file : List ℕ
  pub imports : Meanings

-- a package: its path, what the names that it declares mean, and its files
pub record Around : Type 0 where
  pub path : List ℕ
  pub own : Meanings
  pub files : List FileNames

abbrev pub no_file : FileNames
no_file = record { file = []; imports = no_names }

-- the package's names go before those of the imports, these before `iota`, and this before the
-- predeclared names: each hides those behind it
abbrev pub names_at : Meanings → Meanings → Option ℕ → Meanings
names_at own imports iota n = or_else (or_else (or_else (own n) (imports n)) (iota_names iota n))
    (universe n)

abbrev pub scope_in : Around → FileNames → Option ℕ → ScopeTree
scope_in around f iota = record {
  meaning = names_at around.own f.imports iota;
  bounds = [];
  path =
      around.path;
  file = f.file;
}

abbrev pub iota_of : What → Option ℕ
iota_of (aliased t) = None
iota_of (made_as t) = None
iota_of (varied t) = None
iota_of (valued iota t e) = Some iota
iota_of (miscounted iota at t es) = Some iota
iota_of (called ps r) = None

-- the scope of a declaration
abbrev pub item_scope : Around → Item → ScopeTree
item_scope around d = scope_in around (get_or around.files d.file no_file) (iota_of d.what)
