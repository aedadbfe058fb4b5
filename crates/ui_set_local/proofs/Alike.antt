-- Underlying types in two environments that agree, and one needed type after another.
use Rattle.std.specs.Prelude.{◌≡◌, ℕ, Bool, true, false, List, [], ◌∷◌, length, refl, All, Option}
use Rattle.std.specs.Prelude.{Some, None, IfSome, Ok, Err, IfOk, slice_index_or, ◌==◌}
use Rattle.std.specs.Prelude.{if◌then◌else◌, nat_lt}
use Rattle.std.proofs.Common.{zero, suc, ap, sym, ◌∙◌, subst as along, rules}
use Rattle.std.proofs.lemmas.List.Elements.{All-head, All-tail, All-nil, All-cons}
use Rattle.ui_base.specs.declared.name.Name.{Name}
use Rattle.ui_types.specs.Ty.{Ty, Tys, basic, named, pointer, slice, array, map_of, func, struct}
use Rattle.ui_types.specs.Ty.{iface, union, param, no_types, types, subst, substs, list_of, size, depth}
use Rattle.ui_types.specs.Table.{max_size, max_depth}
use Rattle.ui_types.specs.Decls.{FaceTree, DeclTree, alias, constant, variable, function, defined}
use Rattle.ui_types.specs.Decls.{find_decl, under, under_name, under_decl, under_face, error_name}
use Rattle.ui_types.specs.Decls.{error_type, empty_struct, name_eq}
use Rattle.ui_scopes.specs.Scopes.{World}
use Rattle.ui_scopes.specs.Local.{Names, TypeIn, TypesIn, FaceIn, Agree}
use Rattle.ui_sets.specs.declared.fault.SetFault.TheVariants.{TooBig, TooDeep}
use Rattle.ui_sets.specs.Needed.{Needs, ◌>>=◌, within, needed, any_type, bound_of}

-- the same in both, and In holds of what it gives
pub record Alike {A : Type 0} (In : A → Type 0) (m m' : Needs A) : Type 0 where
  pub equal : m ≡ m'
  pub within : IfOk m In

module _ {A B : Type 0} {In : A → Type 0} {Out : B → Type 0} where
  pub alike_then : {m m' : Needs A} {f f' : A → Needs B} → Alike In m m'
      → ((x : A) → In x → Alike Out (f x) (f' x)) → Alike Out (m >>= f) (m' >>= f')
  alike_then {m} {m'} {f} {f'} h k =
      along (λ (r : Needs A). Alike Out (m >>= f) (r >>= f')) h.equal (first m h.within)
    where
      first : (r : Needs A) → IfOk r In → Alike Out (r >>= f) (r >>= f')
      first (Ok x) i = k x i
      first (Err e) i = record { equal = refl; within = tt }

module _ {A : Type 0} {In : A → Type 0} where
  pub alike_ok : {x : A} → In x → Alike In (Ok x) (Ok x)
  alike_ok h = record { equal = refl; within = h }

  pub alike_same : {m m' : Needs A} → m ≡ m' → IfOk m In → Alike In m m'
  alike_same e h = record { equal = e; within = h }

-- ---- what types with arguments mention
arg_in : (S : Names) (args : List Ty) (k j : ℕ) → All (TypeIn S) args
    → TypeIn S (slice_index_or args k (param j))
arg_in S [] k j h = tt
arg_in S (t ∷ ts) zero j h = All-head (TypeIn S) t ts h
arg_in S (t ∷ ts) (suc k) j h = arg_in S ts k j (All-tail (TypeIn S) t ts h)

mutual
  pub subst_in : (S : Names) (args : List Ty) → All (TypeIn S) args → (t : Ty) → TypeIn S t
      → TypeIn S (subst args t)
  subst_in S args a (basic b) h = tt
  subst_in S args a (named n ts) h = (h.0, substs_in S args a ts h.1)
  subst_in S args a (pointer t) h = subst_in S args a t h
  subst_in S args a (slice t) h = subst_in S args a t h
  subst_in S args a (array len t) h = subst_in S args a t h
  subst_in S args a (map_of k t) h = (subst_in S args a k h.0, subst_in S args a t h.1)
  subst_in S args a (func ps rs) h = (substs_in S args a ps h.0, substs_in S args a rs h.1)
  subst_in S args a (struct ns ts) h = substs_in S args a ts h
  subst_in S args a (iface ns ts c us) h = (substs_in S args a ts h.0, substs_in S args a us h.1)
  subst_in S args a (union ms ts) h = substs_in S args a ts h
  subst_in S args a (param k) h = arg_in S args k k a

  substs_in : (S : Names) (args : List Ty) → All (TypeIn S) args → (ts : Tys) → TypesIn S ts
      → TypesIn S (substs args ts)
  substs_in S args a no_types h = tt
  substs_in S args a (types t ts) h = (subst_in S args a t h.0, substs_in S args a ts h.1)

pub list_in : (S : Names) (ts : Tys) → TypesIn S ts → All (TypeIn S) (list_of ts)
list_in S no_types h = All-nil (TypeIn S)
list_in S (types t ts) h = All-cons (TypeIn S) t (list_of ts) h.0 (list_in S ts h.1)

-- ---- underlying types
face_under : (S : Names) (f : FaceTree) (args : List Ty) → FaceIn S f → All (TypeIn S) args
    → TypeIn S (under_face f args)
face_under S (alias t) args h a = tt
face_under S (constant t v) args h a = tt
face_under S (variable t) args h a = tt
face_under S (function ps t) args h a = tt
face_under S (defined ps t ms) args h a = choice (length ps == length args)
  where
    choice : (b : Bool) → TypeIn S (if b then subst args t else empty_struct)
    choice true = subst_in S args a t h.1
    choice false = tt

decl_under : (S : Names) (d : Option DeclTree) (args : List Ty) → IfSome d (λ d. FaceIn S d.face)
    → All (TypeIn S) args → TypeIn S (under_decl d args)
decl_under S None args h a = tt
decl_under S (Some d) args h a = face_under S d.face args h a

module _ {S : Names} {w w' : World} (g : Agree S w w') where
  name_under : (n : Name) → S n → (args : List Ty) → All (TypeIn S) args
      → (under_name w.decls n args ≡ under_name w'.decls n args)
      × TypeIn S (under_name w.decls n args)
  name_under n s args a = choice (name_eq n error_name)
    where
      choice : (b : Bool) → ((if b then error_type else under_decl (find_decl w.decls n) args)
          ≡ (if b then error_type else under_decl (find_decl w'.decls n) args))
          × TypeIn S (if b then error_type else under_decl (find_decl w.decls n) args)
      choice true = (refl, search rules)
      choice false = (
        ap (λ (d : Option DeclTree). under_decl d args) (g.alike n s),
        decl_under S (find_decl w.decls n) args (g.closed n s) a,
      )

  pub under_alike : (t : Ty) → TypeIn S t
      → (under w.decls t ≡ under w'.decls t) × TypeIn S (under w.decls t)
  under_alike (named n ts) h = name_under n h.0 (list_of ts) (list_in S ts h.1)
  under_alike (basic b) h = (refl, h)
  under_alike (pointer t) h = (refl, h)
  under_alike (slice t) h = (refl, h)
  under_alike (array len t) h = (refl, h)
  under_alike (map_of k t) h = (refl, h)
  under_alike (func ps rs) h = (refl, h)
  under_alike (struct ns ts) h = (refl, h)
  under_alike (iface ns ts c us) h = (refl, h)
  under_alike (union ms ts) h = (refl, h)
  under_alike (param k) h = (refl, h)

pub within_in : (S : Names) (t : Ty) → TypeIn S t → IfOk (within t) (TypeIn S)
unfolding within
within_in S t h = choice (nat_lt max_size (size t)) (nat_lt max_depth (depth t))
  where
    choice : (b c : Bool) → IfOk (if b then Err TooBig else (if c then Err TooDeep else Ok t))
        (TypeIn S)
    choice true c = tt
    choice false true = tt
    choice false false = h

pub needed_alike : {S : Names} {w w' : World} → Agree S w w' → (t : Ty) → TypeIn S t
    → Alike (TypeIn S) (needed w.decls t) (needed w'.decls t)
needed_alike {S} {w} {w'} g t h =
    let k = under_alike g t h in
    record { equal = ap within k.0; within = within_in S (under w.decls t) k.1 }

-- ---- constraints
pub bound_in : (S : Names) (bounds : List Ty) (k : ℕ) → All (TypeIn S) bounds
    → TypeIn S (bound_of bounds k)
bound_in S [] k h = (tt, tt)
bound_in S (t ∷ ts) zero h = All-head (TypeIn S) t ts h
bound_in S (t ∷ ts) (suc k) h = bound_in S ts k (All-tail (TypeIn S) t ts h)
