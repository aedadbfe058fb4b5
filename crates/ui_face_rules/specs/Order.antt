-- The phase faces: the nodes of declarations are taken in an order in which each stands behind
-- those that it depends on, and each is checked over what is known by then. One that depends on a
-- fault is passed over. Of the faults the first in the order of the sources is told. The node 2k is
-- what the name of the k-th declaration is declared as, and 2k + 1 the underlying type of that.
use Rattle.std.specs.Prelude.{ℕ, ◌*◌, ◌+◌, nat_eq, nat_lt, Bool, not, ◌&&◌, List, [], ◌∷◌, ◌++◌}
use Rattle.std.specs.Prelude.{Option, Some, None, is_some, Ok, Err, if◌then◌else◌}
use Rattle.std.specs.List.{flat_map, fold, list_any}
use Rattle.ui_base.specs.declared.name.Name.{Name}
use Rattle.ui_base.specs.declared.value.Pos.{Pos}
use Rattle.ui_base.specs.declared.value.Spot.{Spot}
use Rattle.ui_base.specs.declared.fault.Fault.{Fault}
use Rattle.ui_types.specs.Decls.{DeclTree, DeclTrees, FaceTree, defined, empty_struct, find_decl}
use Rattle.ui_types.specs.Decls.{Packages}
use Rattle.ui_scopes.specs.Scopes.{World, world, ScopeTree}
use Rattle.ui_scopes.specs.Steps.{Checks}
use Rattle.ui_collect.specs.Names.{is_blank, is_init}
use Rattle.ui_collect.specs.Items.{What, aliased, made_as, varied, valued, miscounted, called, Item}
use Rattle.ui_face_rules.specs.Places.{Around, item_scope}
use Rattle.ui_face_rules.specs.Faces.{meaning_face, under_face}

-- ---- declarations

abbrev pub place_of : List ℕ → Spot → Pos
place_of file at = record { file = file; line = at.line; col = at.col }

abbrev pub declared : ScopeTree → Item → FaceTree → Name × DeclTree
declared s d f = (
  record { path = s.path; name = d.name.text },
  record {
    pos = place_of s.file
        d.name.spot;
    face = f;
  },
)

-- a declaration more, where its name has none yet
abbrev pub with_decl : DeclTrees → Name × DeclTree → DeclTrees
with_decl ds d = if is_some (find_decl ds d.0) then ds else ds ++ d ∷ []

-- "Blank identifier", "Package initialization": `_` and `init` are checked, and declare nothing
abbrev pub is_declared : List ℕ → Bool
is_declared n = not (is_blank n) && not (is_init n)

abbrev pub with_face : DeclTrees → ScopeTree → Item → FaceTree → DeclTrees
with_face ds s d f = if is_declared d.name.text then with_decl ds (declared s d f) else ds

-- a new type, of which only the name is known yet
abbrev pub type_name : DeclTrees → ScopeTree → Item → What → DeclTrees
type_name ds s d (aliased t) = ds
type_name ds s d (made_as t) = with_face ds s d (defined [] empty_struct [])
type_name ds s d (varied t) = ds
type_name ds s d (valued iota t e) = ds
type_name ds s d (miscounted iota first t es) = ds
type_name ds s d (called ps r) = ds

-- the names of the package's new types
abbrev pub type_names : Around → List Item → DeclTrees
type_names around items = fold (λ ds d. type_name ds (item_scope around d) d d.what) [] items

-- ---- nodes

-- a node: its number, its links, whether it is an underlying type, its declaration and its scope
pub record Node : Type 0 where
  pub number : ℕ
  pub links : List ℕ
  pub under : Bool
  pub item : Item
  pub scope : ScopeTree

abbrev pub node_face : World → Node → Checks (Option FaceTree)
node_face w n = if n.under then under_face w n.scope n.item.what
    else meaning_face w n.scope n.item.name.spot n.item.what

-- how far the phase has come: the faces so far, the nodes with a fault or passed over, and the
-- fault of the least number
pub record Progress : Type 0 where
  pub faces : DeclTrees
  pub stopped : List ℕ
  pub fault : Option (ℕ × Fault)

abbrev pub progress : DeclTrees → List ℕ → Option (ℕ × Fault) → Progress
progress ds stopped fault = record { faces = ds; stopped = stopped; fault = fault }

abbrev pub earlier : ℕ × Fault → Option (ℕ × Fault) → Option (ℕ × Fault)
earlier f None = Some f
earlier f (Some g) = if nat_lt f.0 g.0 then Some f else Some g

-- what is known once the node's face is, or its fault
abbrev pub taken : Progress → Node → Checks (Option FaceTree) → Progress
taken p n (Ok None) = p
taken p n (Ok (Some f)) = progress (with_face p.faces n.scope n.item f) p.stopped p.fault
taken p n (Err e) = progress p.faces (n.number ∷ p.stopped) (earlier (n.number, e) p.fault)

abbrev pub is_stopped : List ℕ → List ℕ → Bool
is_stopped stopped links = list_any (λ k. list_any (nat_eq k) stopped) links

-- the world of a node: the faces so far, the names of new types, and what is imported
abbrev pub node_world : World → DeclTrees → World
node_world w faces = world w.packages (faces ++ w.decls)

abbrev pub step : World → Progress → Node → Progress
step w p n = if is_stopped p.stopped n.links then progress p.faces (n.number ∷ p.stopped) p.fault
    else taken p n (node_face (node_world w p.faces) n)

abbrev pub verdict : Progress → Option (ℕ × Fault) → Checks DeclTrees
verdict p None = Ok p.faces
verdict p (Some f) = Err f.1

-- the faces of nodes in their order, over the names of new types and what is imported
unfoldable pub faces_of : World → List Node → Checks DeclTrees
faces_of w nodes = let p = fold (step w) (progress [] [] None) nodes in verdict p p.fault
