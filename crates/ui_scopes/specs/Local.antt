-- Locality: what is checked in two environments that agree on a set of names. This project's own.
use Rattle.std.specs.Prelude.{◌≡◌, ℕ, Bool, true, false, List, [], ◌∷◌, map, length, refl, All, Option, Some, None, IfSome, Result, Ok, Err, IfOk, slice_index_or, ◌==◌, if◌then◌else◌, nat_lt}
use Rattle.std.proofs.Common.{zero, suc, ap, sym, ◌∙◌, subst as along, rules, arith}
use Rattle.std.proofs.lemmas.List.Elements.{All-head, All-tail}
use Rattle.ui_base.specs.declared.name.Name.{Name}
use Rattle.ui_base.specs.declared.value.Spot.{Spot}
use Rattle.ui_base.specs.declared.kind.Basic.{Basic}
use Rattle.ui_types.specs.Ty.{Ty, Tys, basic, named, pointer, slice, array, map_of, func, struct, iface, union, param, no_types, types, subst, substs, list_of, size, depth}
use Rattle.ui_types.specs.Table.{max_size, max_depth}
use Rattle.ui_types.specs.Decls.{FaceTree, DeclTree, DeclTrees, TParamTree, MethodTree, alias, constant, variable, function, defined, find_decl, find_package, under, under_name, under_decl, under_face, error_name, error_type, empty_struct, name_eq}
use Rattle.ui_base.specs.declared.fault.FaultKind.TheVariants as fault
use Rattle.ui_base.specs.declared.fault.Fault.{Fault}
use Rattle.ui_core.specs.Checked.{ExprOf}
use Rattle.ui_core.specs.Mentions.{Mentions}
use Rattle.ui_scopes.specs.Operands.{OperandOf, OperandTree, value, many, type_of, generic_type, generic_func, method, builtin, package_at}
use Rattle.ui_scopes.specs.Scopes.{World}
use Rattle.ui_scopes.specs.Steps.{Checks, ◌>>=◌, refuse, made_at, under_at}

abbrev pub Names : Type 1
Names = Name → Type 0

-- ---- what is mentioned

abbrev mutual
  pub TypeIn : Names → Ty → Type 0
  TypeIn S (basic b) = Unit {0}
  TypeIn S (named n ts) = S n × TypesIn S ts
  TypeIn S (pointer t) = TypeIn S t
  TypeIn S (slice t) = TypeIn S t
  TypeIn S (array len t) = TypeIn S t
  TypeIn S (map_of k t) = TypeIn S k × TypeIn S t
  TypeIn S (func ps rs) = TypesIn S ps × TypesIn S rs
  TypeIn S (struct ns ts) = TypesIn S ts
  TypeIn S (iface ns ts c us) = TypesIn S ts × TypesIn S us
  TypeIn S (union ms ts) = TypesIn S ts
  TypeIn S (param k) = Unit {0}

  pub TypesIn : Names → Tys → Type 0
  TypesIn S no_types = Unit {0}
  TypesIn S (types t ts) = TypeIn S t × TypesIn S ts

abbrev pub FaceIn : Names → FaceTree → Type 0
FaceIn S (alias t) = TypeIn S t
FaceIn S (constant t v) = TypeIn S t
FaceIn S (variable t) = TypeIn S t
FaceIn S (function ps t) = All (λ p. TypeIn S p.bound) ps × TypeIn S t
FaceIn S (defined ps t ms) = All (λ p. TypeIn S p.bound) ps × TypeIn S t × All (λ m. TypeIn S m.sig) ms

abbrev pub ExprIn : Names → ExprOf Ty → Type 0
ExprIn S e = Mentions (TypeIn S) S e

-- an operand, where K says which packages it may be
abbrev pub OperandIn : Names → (List ℕ → Type 0) → OperandTree → Type 0
OperandIn S K (value e t c a) = ExprIn S e × TypeIn S t
OperandIn S K (many e ts) = ExprIn S e × All (TypeIn S) ts
OperandIn S K (type_of t) = TypeIn S t
OperandIn S K (generic_type n) = S n
OperandIn S K (generic_func n ts) = S n × All (TypeIn S) ts
OperandIn S K (method e t) = ExprIn S e × TypeIn S t
OperandIn S K (builtin n) = Unit {0}
OperandIn S K (package_at path) = K path

abbrev pub any_package : List ℕ → Type 0
any_package path = Unit {0}

abbrev pub no_package : List ℕ → Type 0
no_package path = ⊥

-- ---- two environments, and what is checked in them

-- they declare the names of the set alike, and the set holds what its names mention
pub record Agree (S : Names) (w w' : World) : Type 0 where
  pub alike : (n : Name) → S n → find_decl w.decls n ≡ find_decl w'.decls n
  pub closed : (n : Name) → S n → IfSome (find_decl w.decls n) (λ d. FaceIn S d.face)

-- the same in both, and In holds of what it gives
pub record Same {A : Type 0} (In : A → Type 0) (m m' : Checks A) : Type 0 where
  pub equal : m ≡ m'
  pub within : IfOk m In

module _ {A B : Type 0} {In : A → Type 0} {Out : B → Type 0} where
  pub same_then : {m m' : Checks A} {f f' : A → Checks B} → Same In m m' → ((x : A) → In x → Same Out (f x) (f' x)) → Same Out (m >>= f) (m' >>= f')
  same_then {m} {m'} {f} {f'} h k = along (λ (r : Checks A). Same Out (m >>= f) (r >>= f')) h.equal (first m h.within)
    where
      first : (r : Checks A) → IfOk r In → Same Out (r >>= f) (r >>= f')
      first (Ok x) i = k x i
      first (Err e) i = record { equal = refl; within = tt }

module _ {A : Type 0} {In Out : A → Type 0} where
  pub same_weaker : {m m' : Checks A} → ((x : A) → In x → Out x) → Same In m m' → Same Out m m'
  same_weaker {m} k h = record { equal = h.equal; within = weaker m h.within }
    where
      weaker : (r : Checks A) → IfOk r In → IfOk r Out
      weaker (Ok x) i = k x i
      weaker (Err e) i = tt

module _ {A : Type 0} {In : A → Type 0} where
  pub same_ok : {x : A} → In x → Same In (Ok x) (Ok x)
  same_ok h = record { equal = refl; within = h }

  pub same_err : {e : Fault} → Same In (Err e) (Err e)
  same_err = record { equal = refl; within = tt }

  pub same_if : (b : Bool) {m n m' n' : Checks A} → Same In m m' → Same In n n' → Same In (if b then m else n) (if b then m' else n')
  same_if true h k = h
  same_if false h k = k

-- ---- underlying types

arg_in : (S : Names) (args : List Ty) (k j : ℕ) → All (TypeIn S) args → TypeIn S (slice_index_or args k (param j))
arg_in S [] k j h = tt
arg_in S (t ∷ ts) zero j h = All-head (TypeIn S) t ts h
arg_in S (t ∷ ts) (suc k) j h = arg_in S ts k j (All-tail (TypeIn S) t ts h)

mutual
  subst_in : (S : Names) (args : List Ty) → All (TypeIn S) args → (t : Ty) → TypeIn S t → TypeIn S (subst args t)
  subst_in S args a (basic b) h = tt
  subst_in S args a (named n ts) h = (h.0, substs_in S args a ts h.1)
  subst_in S args a (pointer t) h = subst_in S args a t h
  subst_in S args a (slice t) h = subst_in S args a t h
  subst_in S args a (array len t) h = subst_in S args a t h
  subst_in S args a (map_of k t) h = (subst_in S args a k h.0, subst_in S args a t h.1)
  subst_in S args a (func ps rs) h = (substs_in S args a ps h.0, substs_in S args a rs h.1)
  subst_in S args a (struct ns ts) h = substs_in S args a ts h
  subst_in S args a (iface ns ts c us) h = (substs_in S args a ts h.0, substs_in S args a us h.1)
  subst_in S args a (union ms ts) h = substs_in S args a ts h
  subst_in S args a (param k) h = arg_in S args k k a

  substs_in : (S : Names) (args : List Ty) → All (TypeIn S) args → (ts : Tys) → TypesIn S ts → TypesIn S (substs args ts)
  substs_in S args a no_types h = tt
  substs_in S args a (types t ts) h = (subst_in S args a t h.0, substs_in S args a ts h.1)

list_in : (S : Names) (ts : Tys) → TypesIn S ts → All (TypeIn S) (list_of ts)
list_in S no_types h = search rules
list_in S (types t ts) h = search (rules, list_in S ts h.1)

face_under : (S : Names) (f : FaceTree) (args : List Ty) → FaceIn S f → All (TypeIn S) args → TypeIn S (under_face f args)
face_under S (alias t) args h a = tt
face_under S (constant t v) args h a = tt
face_under S (variable t) args h a = tt
face_under S (function ps t) args h a = tt
face_under S (defined ps t ms) args h a = choice (length ps == length args)
  where
    choice : (b : Bool) → TypeIn S (if b then subst args t else empty_struct)
    choice true = subst_in S args a t h.1
    choice false = tt

decl_under : (S : Names) (d : Option DeclTree) (args : List Ty) → IfSome d (λ d. FaceIn S d.face) → All (TypeIn S) args → TypeIn S (under_decl d args)
decl_under S None args h a = tt
decl_under S (Some d) args h a = face_under S d.face args h a

name_under : {S : Names} {w w' : World} → Agree S w w' → (n : Name) → S n → (args : List Ty) → All (TypeIn S) args → (under_name w.decls n args ≡ under_name w'.decls n args) × TypeIn S (under_name w.decls n args)
name_under {S} {w} {w'} g n s args a = choice (name_eq n error_name)
  where
    choice : (b : Bool) → ((if b then error_type else under_decl (find_decl w.decls n) args) ≡ (if b then error_type else under_decl (find_decl w'.decls n) args)) × TypeIn S (if b then error_type else under_decl (find_decl w.decls n) args)
    choice true = (refl, search rules)
    choice false = (ap (λ (d : Option DeclTree). under_decl d args) (g.alike n s), decl_under S (find_decl w.decls n) args (g.closed n s) a)

under_same : {S : Names} {w w' : World} → Agree S w w' → (t : Ty) → TypeIn S t → (under w.decls t ≡ under w'.decls t) × TypeIn S (under w.decls t)
under_same {S} g (named n ts) h = name_under g n h.0 (list_of ts) (list_in S ts h.1)
under_same g (basic b) h = (refl, h)
under_same g (pointer t) h = (refl, h)
under_same g (slice t) h = (refl, h)
under_same g (array len t) h = (refl, h)
under_same g (map_of k t) h = (refl, h)
under_same g (func ps rs) h = (refl, h)
under_same g (struct ns ts) h = (refl, h)
under_same g (iface ns ts c us) h = (refl, h)
under_same g (union ms ts) h = (refl, h)
under_same g (param k) h = (refl, h)

pub made_in : (S : Names) (file : List ℕ) (at : Spot) (t : Ty) → TypeIn S t → IfOk (made_at file at t) (TypeIn S)
unfolding made_at
made_in S file at t h = choice (nat_lt max_size (size t)) (nat_lt max_depth (depth t))
  where
    choice : (b c : Bool) → IfOk (if b then refuse {A = Ty} file at fault.TypeTooBig else (if c then refuse file at fault.TypeTooDeep else Ok t)) (TypeIn S)
    choice true c = tt
    choice false true = tt
    choice false false = h

pub under_at_same : {S : Names} {w w' : World} → Agree S w w' → (file : List ℕ) (at : Spot) (t : Ty) → TypeIn S t → Same (TypeIn S) (under_at w file at t) (under_at w' file at t)
unfolding under_at
under_at_same {S} {w} {w'} g file at t h =
    let k = under_same g t h in
    record { equal = ap (made_at file at) k.0; within = made_in S file at (under w.decls t) k.1 }
