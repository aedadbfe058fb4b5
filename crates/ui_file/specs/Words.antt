-- What the parts of a file say: texts, files, packages and names. This project's own.
use Rattle.std.specs.Prelude.{ℕ, List, [], map, get_or, Option, Some, None}
use Rattle.ui_base.specs.declared.name.Name.{Name}
use Rattle.ui_strpos.specs.declared.name.NameEl.{NameEl}
use Rattle.ui_etype.specs.declared.sel.Sel.{Sel}
use Rattle.ui_file.specs.declared.file.File.{File}
use Rattle.ui_file.specs.declared.words.FileWords.{FileWords}

-- What the parts of a file say, by which its types and objects are read.
pub record Words : Type 0 where
  pub texts : List (List ℕ)
  -- the file of each PosBase, the path of each Pkg, and the name of each Obj
  pub files : List (List ℕ)
  pub paths : List (List ℕ)
  pub names : List Name

abbrev pub text_at : List (List ℕ) → ℕ → List ℕ
text_at texts k = get_or texts k []

abbrev pub nameless : Name
nameless = record { path = []; name = [] }

abbrev pub name_of : List (List ℕ) → List (List ℕ) → NameEl → Name
name_of texts paths n = record { path = text_at paths n.pkg; name = text_at texts n.name }

abbrev pub words : File → Words
words x = record {
  texts = x.texts;
  files = map (λ b. text_at x.texts b.file) x.bases;
  paths = map (λ p. text_at x.texts p.path) x.packages;
  names = map (name_of x.texts (map (λ p. text_at x.texts p.path) x.packages)) x.names;
}

-- the same words as lists
abbrev pub said : FileWords → Words
said s = record { texts = s.texts; files = s.files; paths = s.paths; names = s.names }

abbrev pub path_of : Words → Option ℕ → List ℕ
path_of w None = []
path_of w (Some k) = text_at w.paths k

-- a selector has the empty path exactly where it is exported
abbrev pub selected : Words → Sel → Name
selected w s = record { path = path_of w s.pkg; name = text_at w.texts s.name }

-- the names of the public root
abbrev pub listed_of : File → List Name
listed_of x = map (λ u. get_or (words x).names u.object nameless) x.public.objects

-- the path of the package of the public root
abbrev pub own_path : File → List ℕ
own_path x = get_or (words x).paths x.public.pkg []
