-- Fields and methods. Go specification, "Selectors", "Method sets".
use Rattle.std.specs.Prelude.{ℕ, ◌+◌, Bool, true, false, ◌==◌, List, [], ◌∷◌, length, Option, Some}
use Rattle.std.specs.Prelude.{None, Ok, if◌then◌else◌, option_map}
use Rattle.ui_base.specs.declared.name.Name.{Name}
use Rattle.ui_types.specs.Ty.{Ty, Tys, named, pointer, struct, iface, param, no_types, types}
use Rattle.ui_types.specs.Ty.{list_of, subst}
use Rattle.ui_types.specs.Decls.{DeclTrees, DeclTree, FaceTree, MethodTree, defined, name_eq}
use Rattle.ui_types.specs.Decls.{find_decl, error_name}
use Rattle.ui_sets.specs.Needed.{Needs, ◌>>=◌, within, needed, bound_of}

-- Where a name is looked up: the struct or the interface, the methods of the defined type with its
-- type arguments, and whether a pointer is followed.
pub record SiteTree : Type 0 where
  pub shape : Option Ty
  pub methods : List MethodTree
  pub args : List Ty
  pub through : Bool

-- ---- the methods that are declared for a type
abbrev pub face_methods : FaceTree → ℕ → List MethodTree
face_methods (defined ps t ms) count = if length ps == count then ms else []
face_methods _ count = []

abbrev pub decl_methods : Option DeclTree → ℕ → List MethodTree
decl_methods None count = []
decl_methods (Some d) count = face_methods d.face count

abbrev pub name_methods : DeclTrees → Name → ℕ → List MethodTree
name_methods ds n count = if name_eq n error_name then [] else decl_methods (find_decl ds n) count

abbrev pub own_methods : DeclTrees → Ty → List MethodTree
own_methods ds (named n args) = name_methods ds n (length (list_of args))
own_methods ds _ = []

abbrev pub args_of : Ty → List Ty
args_of (named n args) = list_of args
args_of _ = []

-- Methods of a defined type don't count where its underlying type is a pointer or an interface. Go
-- specification, "Method declarations".
abbrev pub counted : Ty → List MethodTree → List MethodTree
counted (pointer t) ms = []
counted (iface ns ts c us) ms = []
counted _ ms = ms

-- ---- where a type's members are
abbrev pub fields_of : Ty → Option Ty
fields_of (struct ns ts) = Some (struct ns ts)
fields_of _ = None

abbrev pub listed_of : Ty → Option Ty
listed_of (iface ns ts c us) = Some (iface ns ts c us)
listed_of _ = None

abbrev pub is_pointer : Ty → Bool
is_pointer (pointer t) = true
is_pointer _ = false

-- What a type with the underlying type `*T` has: the fields of T, and T's methods where it is the
-- type `*T` itself. A pointer to an interface or to a type parameter has none.
abbrev pub pointed_site : DeclTrees → Bool → Ty → Needs SiteTree
pointed_site ds is_itself t =
    needed ds t >>= λ u. Ok (record {
      shape = fields_of u;
      methods = if is_itself then counted u (own_methods ds t) else [];
      args = args_of t;
      through = true;
    })

abbrev pub elem_of : Ty → Option Ty
elem_of (pointer t) = Some t
elem_of _ = None

abbrev pub under_site : DeclTrees → Ty → Ty → Option Ty → Needs SiteTree
under_site ds t u None = Ok (record {
  shape = Some u;
  methods = counted u (own_methods ds t);
  args =
      args_of t;
  through = false;
})
under_site ds t u (Some elem) = pointed_site ds (is_pointer t) elem

abbrev pub number_of : Ty → Option ℕ
number_of (param k) = Some k
number_of _ = None

-- a type parameter has the methods of its constraint
abbrev pub numbered_site : DeclTrees → List Ty → Ty → Option ℕ → Needs SiteTree
numbered_site ds bounds t None = needed ds t >>= λ u. under_site ds t u (elem_of u)
numbered_site ds bounds t (Some k) = needed ds (bound_of bounds k)
    >>= λ u. Ok (record { shape = listed_of u; methods = []; args = []; through = false })

abbrev pub site : DeclTrees → List Ty → Ty → Needs SiteTree
site ds bounds t = numbered_site ds bounds t (number_of t)

-- ---- looking a name up
-- a field with its place, or a method; and whether a pointer is followed
pub data FoundTree : Type 0 where
  field : ℕ → Ty → Bool → FoundTree
  method : MethodTree → Bool → FoundTree

abbrev pub find_field : ℕ → List Name → Tys → Name → Bool → Option FoundTree
find_field k [] ts name through = None
find_field k (n ∷ ns) no_types name through = None
find_field k (n ∷ ns) (types t ts) name through = if name_eq n name then Some (field k t through)
    else find_field (k + 1) ns ts name through

-- a method of an interface stands nowhere
abbrev pub listed : Name → Ty → MethodTree
listed name sig = record {
  name = name;
  pos = record { file = []; line = 0; col = 0 };
  pointer =
      false;
  sig = sig;
}

abbrev pub find_listed : List Name → Tys → Name → Option Ty
find_listed [] ts name = None
find_listed (n ∷ ns) no_types name = None
find_listed (n ∷ ns) (types t ts) name = if name_eq n name then Some t else find_listed ns ts name

abbrev pub in_shape : Ty → Name → Bool → Option FoundTree
in_shape (struct ns ts) name through = find_field 0 ns ts name through
in_shape (iface ns ts c us) name through = option_map (λ sig. method (listed name sig) false)
    (find_listed ns ts name)
in_shape _ name through = None

abbrev pub in_shapes : Option Ty → Name → Bool → Option FoundTree
in_shapes None name through = None
in_shapes (Some t) name through = in_shape t name through

abbrev pub find_method : List MethodTree → Name → Option MethodTree
find_method [] name = None
find_method (m ∷ ms) name = if name_eq m.name name then Some m else find_method ms name

-- the signature with the type arguments put in is needed
abbrev pub method_with : List Ty → Bool → Option MethodTree → Needs (Option FoundTree)
method_with args through None = Ok None
method_with args through (Some m) = within (subst args m.sig)
    >>= λ sig. Ok (Some (method (record m { sig = sig }) through))

-- a field is found before a method of the same name
abbrev pub or_method : Needs (Option FoundTree) → Option FoundTree → Needs (Option FoundTree)
or_method other None = other
or_method other (Some found) = Ok (Some found)

abbrev pub found_at : SiteTree → Name → Needs (Option FoundTree)
found_at s name = or_method (method_with s.args s.through (find_method s.methods name))
    (in_shapes s.shape name s.through)

abbrev pub lookup : DeclTrees → List Ty → Ty → Name → Needs (Option FoundTree)
lookup ds bounds t name = site ds bounds t >>= λ s. found_at s name
