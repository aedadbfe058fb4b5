-- Looking names up and implementing interfaces, in two environments that agree.
use Rattle.std.specs.Prelude.{◌≡◌, ℕ, Bool, true, false, ◌==◌, List, [], ◌∷◌, length, refl, All, ◌+◌}
use Rattle.std.specs.Prelude.{Option, Some, None, IfSome, Ok, Err, IfOk, if◌then◌else◌, option_map}
use Rattle.std.proofs.Common.{ap, ◌∙◌}
use Rattle.std.proofs.lemmas.List.Elements.{All-head, All-tail, All-nil}
use Rattle.ui_base.specs.declared.name.Name.{Name}
use Rattle.ui_types.specs.Ty.{Ty, Tys, basic, named, pointer, slice, array, map_of, func, struct}
use Rattle.ui_types.specs.Ty.{iface, union, param, no_types, types, subst, list_of}
use Rattle.ui_types.specs.Decls.{FaceTree, DeclTree, MethodTree, alias, constant, variable, function}
use Rattle.ui_types.specs.Decls.{defined, find_decl, error_name, name_eq}
use Rattle.ui_scopes.specs.Scopes.{World}
use Rattle.ui_scopes.specs.Local.{Names, TypeIn, TypesIn, FaceIn, Agree}
use Rattle.ui_sets.specs.Needed.{Needs, ◌>>=◌, within, needed, bound_of}
use Rattle.ui_sets.specs.Sites.{SiteTree, FoundTree, field, method, face_methods, decl_methods}
use Rattle.ui_sets.specs.Sites.{name_methods, own_methods, args_of, counted, fields_of, listed_of}
use Rattle.ui_sets.specs.Sites.{is_pointer, pointed_site, elem_of, under_site, number_of}
use Rattle.ui_sets.specs.Sites.{numbered_site, site, find_field, listed, find_listed, in_shape}
use Rattle.ui_sets.specs.Sites.{in_shapes, find_method, method_with, or_method, found_at, lookup}
use Rattle.ui_sets.specs.Methods.{has_methods, some_fit, methods_fit, method_names, method_sigs}
use Rattle.ui_sets.specs.Methods.{listed_fit, implements}
use Rattle.ui_set_local.specs.Laws.{FoundIn, LookupsAgree, LookupsStayWithin, ImplementingAgrees}
use Rattle.ui_set_local.proofs.Alike.{Alike, alike_then, alike_ok, alike_same, subst_in, list_in}
use Rattle.ui_set_local.proofs.Alike.{within_in, needed_alike, bound_in}

abbrev pub MethodsIn : Names → List MethodTree → Type 0
MethodsIn S ms = All (λ m. TypeIn S m.sig) ms

pub record SiteIn (S : Names) (s : SiteTree) : Type 0 where
  pub shape : IfSome s.shape (TypeIn S)
  pub methods : MethodsIn S s.methods
  pub args : All (TypeIn S) s.args

-- ---- what a type mentions
args_in : (S : Names) (t : Ty) → TypeIn S t → All (TypeIn S) (args_of t)
args_in S (named n ts) h = list_in S ts h.1
args_in S (basic b) h = All-nil (TypeIn S)
args_in S (pointer t) h = All-nil (TypeIn S)
args_in S (slice t) h = All-nil (TypeIn S)
args_in S (array len t) h = All-nil (TypeIn S)
args_in S (map_of k t) h = All-nil (TypeIn S)
args_in S (func ps rs) h = All-nil (TypeIn S)
args_in S (struct ns ts) h = All-nil (TypeIn S)
args_in S (iface ns ts c us) h = All-nil (TypeIn S)
args_in S (union ms ts) h = All-nil (TypeIn S)
args_in S (param k) h = All-nil (TypeIn S)

fields_in : (S : Names) (t : Ty) → TypeIn S t → IfSome (fields_of t) (TypeIn S)
fields_in S (struct ns ts) h = h
fields_in S (named n ts) h = tt
fields_in S (basic b) h = tt
fields_in S (pointer t) h = tt
fields_in S (slice t) h = tt
fields_in S (array len t) h = tt
fields_in S (map_of k t) h = tt
fields_in S (func ps rs) h = tt
fields_in S (iface ns ts c us) h = tt
fields_in S (union ms ts) h = tt
fields_in S (param k) h = tt

listed_in : (S : Names) (t : Ty) → TypeIn S t → IfSome (listed_of t) (TypeIn S)
listed_in S (iface ns ts c us) h = h
listed_in S (named n ts) h = tt
listed_in S (basic b) h = tt
listed_in S (pointer t) h = tt
listed_in S (slice t) h = tt
listed_in S (array len t) h = tt
listed_in S (map_of k t) h = tt
listed_in S (func ps rs) h = tt
listed_in S (struct ns ts) h = tt
listed_in S (union ms ts) h = tt
listed_in S (param k) h = tt

elem_in : (S : Names) (t : Ty) → TypeIn S t → IfSome (elem_of t) (TypeIn S)
elem_in S (pointer t) h = h
elem_in S (named n ts) h = tt
elem_in S (basic b) h = tt
elem_in S (slice t) h = tt
elem_in S (array len t) h = tt
elem_in S (map_of k t) h = tt
elem_in S (func ps rs) h = tt
elem_in S (struct ns ts) h = tt
elem_in S (iface ns ts c us) h = tt
elem_in S (union ms ts) h = tt
elem_in S (param k) h = tt

none_in : (S : Names) → MethodsIn S []
none_in S = All-nil (λ (m : MethodTree). TypeIn S m.sig)

counted_in : (S : Names) (t : Ty) (ms : List MethodTree) → MethodsIn S ms
    → MethodsIn S (counted t ms)
counted_in S (pointer t) ms h = none_in S
counted_in S (iface ns ts c us) ms h = none_in S
counted_in S (named n ts) ms h = h
counted_in S (basic b) ms h = h
counted_in S (slice t) ms h = h
counted_in S (array len t) ms h = h
counted_in S (map_of k t) ms h = h
counted_in S (func ps rs) ms h = h
counted_in S (struct ns ts) ms h = h
counted_in S (union ms' ts) ms h = h
counted_in S (param k) ms h = h

face_in : (S : Names) (f : FaceTree) (count : ℕ) → FaceIn S f → MethodsIn S (face_methods f count)
face_in S (alias t) count h = none_in S
face_in S (constant t v) count h = none_in S
face_in S (variable t) count h = none_in S
face_in S (function ps t) count h = none_in S
face_in S (defined ps t ms) count h = choice (length ps == count)
  where
    choice : (b : Bool) → MethodsIn S (if b then ms else [])
    choice true = h.2
    choice false = none_in S

decl_in : (S : Names) (d : Option DeclTree) (count : ℕ) → IfSome d (λ d. FaceIn S d.face)
    → MethodsIn S (decl_methods d count)
decl_in S None count h = none_in S
decl_in S (Some d) count h = face_in S d.face count h

module _ {S : Names} {w w' : World} (g : Agree S w w') where
  -- ---- the methods that are declared for a type
  name_alike : (n : Name) → S n → (count : ℕ)
      → (name_methods w.decls n count ≡ name_methods w'.decls n count)
      × MethodsIn S (name_methods w.decls n count)
  name_alike n s count = choice (name_eq n error_name)
    where
      choice : (b : Bool) → ((if b then [] else decl_methods (find_decl w.decls n) count)
          ≡ (if b then [] else decl_methods (find_decl w'.decls n) count))
          × MethodsIn S (if b then [] else decl_methods (find_decl w.decls n) count)
      choice true = (refl, none_in S)
      choice false = (
        ap (λ (d : Option DeclTree). decl_methods d count) (g.alike n s),
        decl_in S (find_decl w.decls n) count (g.closed n s),
      )

  own_alike : (t : Ty) → TypeIn S t → (own_methods w.decls t ≡ own_methods w'.decls t)
      × MethodsIn S (own_methods w.decls t)
  own_alike (named n ts) h = name_alike n h.0 (length (list_of ts))
  own_alike (basic b) h = (refl, none_in S)
  own_alike (pointer t) h = (refl, none_in S)
  own_alike (slice t) h = (refl, none_in S)
  own_alike (array len t) h = (refl, none_in S)
  own_alike (map_of k t) h = (refl, none_in S)
  own_alike (func ps rs) h = (refl, none_in S)
  own_alike (struct ns ts) h = (refl, none_in S)
  own_alike (iface ns ts c us) h = (refl, none_in S)
  own_alike (union ms ts) h = (refl, none_in S)
  own_alike (param k) h = (refl, none_in S)

  -- ---- sites
  pointed_alike : (is_itself : Bool) (t : Ty) → TypeIn S t
      → Alike (SiteIn S) (pointed_site w.decls is_itself t) (pointed_site w'.decls is_itself t)
  pointed_alike is_itself t h = alike_then (needed_alike g t h) (λ u i. by is_itself u i)
    where
      with_methods : Ty → List MethodTree → SiteTree
      with_methods u ms = record {
        shape = fields_of u;
        methods = ms;
        args = args_of t;
        through =
            true;
      }

      by : (b : Bool) (u : Ty) → TypeIn S u → Alike (SiteIn S)
          (Ok (record {
            shape = fields_of u;
            methods = if b then counted u (own_methods w.decls t)
                else [];
            args = args_of t;
            through = true;
          }))
          (Ok (record {
            shape = fields_of u;
            methods = if b then counted u (own_methods w'.decls t)
                else [];
            args = args_of t;
            through = true;
          }))
      by true u i = record {
        equal = λ j. Ok (record {
          shape = fields_of u;
          methods = counted u ((own_alike t h).0 j);
          args = args_of t;
          through = true;
        });
        within = record {
          shape = fields_in S u i;
          methods = counted_in S u (own_methods w.decls t)
              (own_alike t h).1;
          args = args_in S t h;
        };
      }
      by false u i = alike_ok (record {
        shape = fields_in S u i;
        methods = none_in S;
        args = args_in
            S t h;
      })

  under_site_alike : (t u : Ty) (o : Option Ty) → TypeIn S t → TypeIn S u → IfSome o (TypeIn S)
      → Alike (SiteIn S) (under_site w.decls t u o) (under_site w'.decls t u o)
  under_site_alike t u None h i k = record {
    equal = λ j. Ok (record {
      shape = Some u;
      methods = counted u ((own_alike t h).0 j);
      args =
          args_of t;
      through = false;
    });
    within = record {
      shape = i;
      methods = counted_in S u (own_methods w.decls t) (own_alike t h).1;
      args = args_in S t h;
    };
  }
  under_site_alike t u (Some elem) h i k = pointed_alike (is_pointer t) elem k

  numbered_alike : (bounds : List Ty) (t : Ty) (o : Option ℕ) → All (TypeIn S) bounds → TypeIn S t
      → Alike (SiteIn S) (numbered_site w.decls bounds t o) (numbered_site w'.decls bounds t o)
  numbered_alike bounds t None b h =
      alike_then (needed_alike g t h) (λ u i. under_site_alike t u (elem_of u) h i (elem_in S u i))
  numbered_alike bounds t (Some k) b h =
      alike_then (needed_alike g (bound_of bounds k) (bound_in S bounds k b))
      (λ u i. alike_ok (record {
        shape = listed_in S u i;
        methods = none_in S;
        args = All-nil
            (TypeIn S);
      }))

  pub site_alike : (bounds : List Ty) (t : Ty) → All (TypeIn S) bounds → TypeIn S t
      → Alike (SiteIn S) (site w.decls bounds t) (site w'.decls bounds t)
  site_alike bounds t b h = numbered_alike bounds t (number_of t) b h

-- ---- what is found at a site
field_found : (S : Names) (k : ℕ) (ns : List Name) (ts : Tys) (name : Name) (through : Bool)
    → TypesIn S ts → IfSome (find_field k ns ts name through) (FoundIn S)
field_found S k [] ts name through h = tt
field_found S k (n ∷ ns) no_types name through h = tt
field_found S k (n ∷ ns) (types t ts) name through h =
    choice (name_eq n name) (field_found S (k + 1) ns ts name through h.1)
  where
    choice : (b : Bool) → IfSome (find_field (k + 1) ns ts name through) (FoundIn S)
        → IfSome (if b then Some (field k t through) else find_field (k + 1) ns ts name through)
        (FoundIn S)
    choice true rest = h.0
    choice false rest = rest

listed_found : (S : Names) (ns : List Name) (ts : Tys) (name : Name) → TypesIn S ts
    → IfSome (find_listed ns ts name) (TypeIn S)
listed_found S [] ts name h = tt
listed_found S (n ∷ ns) no_types name h = tt
listed_found S (n ∷ ns) (types t ts) name h = choice (name_eq n name)
    (listed_found S ns ts name h.1)
  where
    choice : (b : Bool) → IfSome (find_listed ns ts name) (TypeIn S)
        → IfSome (if b then Some t else find_listed ns ts name) (TypeIn S)
    choice true rest = h.0
    choice false rest = rest

as_method : (S : Names) (name : Name) (o : Option Ty) → IfSome o (TypeIn S)
    → IfSome (option_map (λ sig. method (listed name sig) false) o) (FoundIn S)
as_method S name None h = tt
as_method S name (Some t) h = h

shape_found : (S : Names) (t : Ty) (name : Name) (through : Bool) → TypeIn S t
    → IfSome (in_shape t name through) (FoundIn S)
shape_found S (struct ns ts) name through h = field_found S 0 ns ts name through h
shape_found S (iface ns ts c us) name through h =
    as_method S name (find_listed ns ts name) (listed_found S ns ts name h.0)
shape_found S (named n ts) name through h = tt
shape_found S (basic b) name through h = tt
shape_found S (pointer t) name through h = tt
shape_found S (slice t) name through h = tt
shape_found S (array len t) name through h = tt
shape_found S (map_of k t) name through h = tt
shape_found S (func ps rs) name through h = tt
shape_found S (union ms ts) name through h = tt
shape_found S (param k) name through h = tt

shapes_found : (S : Names) (o : Option Ty) (name : Name) (through : Bool) → IfSome o (TypeIn S)
    → IfSome (in_shapes o name through) (FoundIn S)
shapes_found S None name through h = tt
shapes_found S (Some t) name through h = shape_found S t name through h

method_found : (S : Names) (ms : List MethodTree) (name : Name) → MethodsIn S ms
    → IfSome (find_method ms name) (λ m. TypeIn S m.sig)
method_found S [] name h = tt
method_found S (m ∷ ms) name h =
    choice (name_eq m.name name) (method_found S ms name
    (All-tail (λ (x : MethodTree). TypeIn S x.sig) m ms h))
  where
    choice : (b : Bool) → IfSome (find_method ms name) (λ m. TypeIn S m.sig)
        → IfSome (if b then Some m else find_method ms name) (λ m. TypeIn S m.sig)
    choice true rest = All-head (λ (x : MethodTree). TypeIn S x.sig) m ms h
    choice false rest = rest

with_found : (S : Names) (args : List Ty) (through : Bool) (o : Option MethodTree)
    → All (TypeIn S) args
    → IfSome o (λ m. TypeIn S m.sig)
    → IfOk (method_with args through o) (λ found. IfSome found (FoundIn S))
with_found S args through None a h = tt
with_found S args through (Some m) a h = by (within (subst args m.sig))
    (within_in S (subst args m.sig) (subst_in S args a m.sig h))
  where
    by : (r : Needs Ty) → IfOk r (TypeIn S)
        → IfOk (r >>= λ sig. Ok (Some (method (record m { sig = sig }) through)))
        (λ found. IfSome found (FoundIn S))
    by (Ok t) i = i
    by (Err e) i = tt

found_in : (S : Names) (s : SiteTree) (name : Name) → SiteIn S s
    → IfOk (found_at s name) (λ found. IfSome found (FoundIn S))
found_in S s name h =
    by (in_shapes s.shape name s.through) (shapes_found S s.shape name s.through h.shape)
    (method_with s.args s.through (find_method s.methods name))
    (with_found S s.args s.through (find_method s.methods name) h.args
    (method_found S s.methods name h.methods))
  where
    by : (o : Option FoundTree) → IfSome o (FoundIn S) → (r : Needs (Option FoundTree))
        → IfOk r (λ found. IfSome found (FoundIn S)) → IfOk (or_method r o)
        (λ found. IfSome found (FoundIn S))
    by None a r b = b
    by (Some f) a r b = a

lookup_alike : {S : Names} {w w' : World} → Agree S w w' → (bounds : List Ty) (t : Ty) (name : Name)
    → All (TypeIn S) bounds → TypeIn S t
    → Alike (λ found. IfSome found (FoundIn S)) (lookup w.decls bounds t name)
    (lookup w'.decls bounds t name)
lookup_alike {S} g bounds t name b h =
    alike_then (site_alike g bounds t b h) (λ s i. alike_same refl (found_in S s name i))

pub lookups_agree : LookupsAgree
lookups_agree set w w' bounds t name g b h = (lookup_alike g bounds t name b h).equal

pub lookups_stay_within : LookupsStayWithin
lookups_stay_within set w w' bounds t name g b h = (lookup_alike g bounds t name b h).within

-- ---- interfaces
abbrev pub anything : Unit {0} → Type 0
anything u = Unit {0}

any_ok : (m : Needs (Unit {0})) → IfOk m anything
any_ok (Ok u) = tt
any_ok (Err e) = tt

pub same_unit : {m m' : Needs (Unit {0})} → m ≡ m' → Alike anything m m'
same_unit {m} e = record { equal = e; within = any_ok m }

methods_fit_alike : {S : Names} {w w' : World} → Agree S w w'
    → (bounds : List Ty) (t : Ty) (ns : List Name) (sigs : Tys)
    → All (TypeIn S) bounds → TypeIn S t
    → Alike anything (methods_fit w.decls bounds t ns sigs) (methods_fit w'.decls bounds t ns sigs)
methods_fit_alike g bounds t [] sigs b h = same_unit refl
methods_fit_alike g bounds t (n ∷ ns) sigs b h =
    alike_then (site_alike g bounds t b h) (λ s i. same_unit refl)

pub listed_fit_alike : {S : Names} {w w' : World} → Agree S w w' → (bounds : List Ty) (t u : Ty)
    → All (TypeIn S) bounds → TypeIn S t
    → Alike anything (listed_fit w.decls bounds t u) (listed_fit w'.decls bounds t u)
listed_fit_alike g bounds t u b h = methods_fit_alike g bounds t (method_names u) (method_sigs u) b
    h

pub implementing_agrees : ImplementingAgrees
implementing_agrees set w w' bounds t i g b h k =
    (alike_then {Out = anything} (needed_alike g i k) (λ u v. listed_fit_alike g bounds t u b
    h)).equal
