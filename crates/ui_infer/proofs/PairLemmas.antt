-- Two types beside each other, part by part.
use Rattle.std.proofs.Common.{◌≡◌, Bool, true, false, ◌&&◌, ℕ, suc, ◌+◌, ◌<◌, ◌≤◌}
use Rattle.std.proofs.Common.{nat_lt, List, [], ◌∷◌, ◌++◌, length, drop, get_or, refl, sym, ◌∙◌}
use Rattle.std.proofs.Common.{ap, arith, add-one, drop-cons, append_assoc}
use Rattle.std.specs.Prelude.{Option, Some, None, Result, Ok, Err, IfOk, OnOk}
use Rattle.std.proofs.lemmas.List.{append-nil, drop_all}
use Rattle.ui_types.specs.declared.id.TypeId.{TypeId}
use Rattle.ui_types.specs.Ty.{Ty, Tys, basic, named, pointer, slice, array, map_of, func, struct}
use Rattle.ui_types.specs.Ty.{iface, union, param, no_types, types}
use Rattle.ui_types.specs.Table.{Table, tree, parts}
use Rattle.ui_types.proofs.NodeLemmas.{join, parts_of}
use Rattle.ui_types.specs.Same.{same_type}
use Rattle.ui_types.proofs.SameLemmas.{type_sound}
use Rattle.ui_infer.specs.Shape.{fill, filled, shape, same_shape}
use Rattle.ui_infer.specs.declared.binding.Binding.{Binding}
use Rattle.ui_infer.specs.Shown.{shown_binding, shown_bindings}
use Rattle.ui_infer.specs.Pairs.{BindingTree, unknown, pairs, pairs_all, bindings_of, are_alike}

-- ---- lists of pairs
pub bindings_of-append : (ps qs : List (Option BindingTree)) → bindings_of (ps ++ qs)
    ≡ bindings_of ps ++ bindings_of qs
bindings_of-append [] qs = refl
bindings_of-append (None ∷ ps) qs = bindings_of-append ps qs
bindings_of-append (Some b ∷ ps) qs = ap (λ (bs : List BindingTree). b ∷ bs)
    (bindings_of-append ps qs)

pub are_alike-append : (ps qs : List (Option BindingTree)) → are_alike (ps ++ qs)
    ≡ (are_alike ps && are_alike qs)
are_alike-append [] qs = refl
are_alike-append (None ∷ ps) qs = refl
are_alike-append (Some b ∷ ps) qs = are_alike-append ps qs

-- ---- two types of one shape have as many parts
fill-join : (z : Ty) (ts us : Tys) → fill z (join ts us) ≡ join (fill z ts) (fill z us)
fill-join z no_types us = refl
fill-join z (types t ts) us = ap (λ (vs : Tys). types z vs) (fill-join z ts us)

parts_of-filled : (z : Ty) (t : Ty) → parts_of (filled z t) ≡ fill z (parts_of t)
parts_of-filled z (basic b) = refl
parts_of-filled z (named n ts) = refl
parts_of-filled z (pointer t) = refl
parts_of-filled z (slice t) = refl
parts_of-filled z (array len t) = refl
parts_of-filled z (map_of k t) = refl
parts_of-filled z (func ps rs) = sym (fill-join z ps rs)
parts_of-filled z (struct ns ts) = refl
parts_of-filled z (iface ns ts c us) = sym (fill-join z ts us)
parts_of-filled z (union ms ts) = refl
parts_of-filled z (param k) = refl

shapes_equal : (t u : Ty) → same_shape t u ≡ true → shape t ≡ shape u
unfolding same_shape
shapes_equal t u e = type_sound (shape t) (shape u) e

fills_equal : (t u : Ty) → same_shape t u ≡ true → fill (param 0) (parts_of t)
    ≡ fill (param 0) (parts_of u)
fills_equal t u e = sym (parts_of-filled (param 0) t) ∙ ap parts_of (shapes_equal t u e)
    ∙ parts_of-filled (param 0) u

length-filled : (table : Table) (z : Ty) (xs ys : List TypeId) → fill z (parts table xs)
    ≡ fill z (parts table ys) → length xs ≡ length ys
length-filled table z [] [] e = refl
length-filled table z [] (y ∷ ys) e = absurd cc
length-filled table z (x ∷ xs) [] e = absurd cc
length-filled table z (x ∷ xs) (y ∷ ys) e =
    let f : fill z (parts table xs) ≡ fill z (parts table ys) = cc in
    ap (λ (n : ℕ). suc n) (length-filled table z xs ys f)

pub as_many : (table : Table) (t u : Ty) (xs ys : List TypeId) → same_shape t u ≡ true → parts_of t
    ≡ parts table xs → parts_of u ≡ parts table ys → length xs ≡ length ys
as_many table t u xs ys e p q =
    length-filled table (param 0) xs ys (ap (fill (param 0)) (sym p) ∙ fills_equal t u e
    ∙ ap (fill (param 0)) q)

-- ---- a type that is no unknown is taken part by part
pairs_all-join : (n : ℕ) (ps rs qs ss : Tys) → fill (param 0) ps ≡ fill (param 0) qs
    → pairs_all n (join ps rs) (join qs ss) ≡ pairs_all n ps qs ++ pairs_all n rs ss
unfolding pairs_all
pairs_all-join n no_types rs no_types ss e = refl
pairs_all-join n no_types rs (types q qs) ss e = absurd cc
pairs_all-join n (types p ps) rs no_types ss e = absurd cc
pairs_all-join n (types p ps) rs (types q qs) ss e =
    let f : fill (param 0) ps ≡ fill (param 0) qs = cc in
    ap (λ (vs : List (Option BindingTree)). pairs n p q ++ vs) (pairs_all-join n ps rs qs ss f)
    ∙ sym (append_assoc (pairs n p q) (pairs_all n ps qs) (pairs_all n rs ss))

not_equal : {A : Type 0} → true ≡ false → A
not_equal e = absurd cc

pub pairs_parts : (n : ℕ) (t u : Ty) → unknown n t ≡ None → same_shape t u ≡ true → pairs n t u
    ≡ pairs_all n (parts_of t) (parts_of u)
unfolding pairs pairs_all
pairs_parts n (param k) u other e = by_test (nat_lt k n) refl
  where
    by_test : (r : Bool) → nat_lt k n ≡ r → pairs n (param k) u ≡ []
    by_test true f = absurd (let h : unknown n (param k) ≡ Some k = rw f refl in cc)
    by_test false f = rw (f, e) refl
pairs_parts n (basic b) u other e = rw e refl
pairs_parts n (named m ts) (named k us) other e = rw e refl
pairs_parts n (pointer t) (pointer u) other e = sym (append-nil (pairs n t u))
pairs_parts n (slice t) (slice u) other e = sym (append-nil (pairs n t u))
pairs_parts n (array len t) (array k u) other e = rw e (sym (append-nil (pairs n t u)))
pairs_parts n (map_of k t) (map_of l u) other e = ap
    (λ (vs : List (Option BindingTree)). pairs n k l ++ vs) (sym (append-nil (pairs n t u)))
pairs_parts n (func ps rs) (func qs ss) other e =
    let f : shape (func ps rs) ≡ shape (func qs ss) = shapes_equal (func ps rs) (func qs ss) e in
    let g : fill (param 0) ps ≡ fill (param 0) qs = cc in
    rw e (sym (pairs_all-join n ps rs qs ss g))
pairs_parts n (struct ns ts) (struct ms us) other e = rw e refl
pairs_parts n (iface ns ts c vs) (iface ms us d ws) other e =
    let f : shape (iface ns ts c vs) ≡ shape (iface ms us d ws) = shapes_equal (iface ns ts c vs)
    (iface ms us d ws) e in
    let g : fill (param 0) ts ≡ fill (param 0) us = cc in
    rw e (sym (pairs_all-join n ts vs us ws g))
pairs_parts n (union ns ts) (union ms us) other e = rw e refl
pairs_parts n t u other e = let f : shape t ≡ shape u = shapes_equal t u e in absurd cc

pub pairs_unlike : (n : ℕ) (t u : Ty) → unknown n t ≡ None → same_shape t u ≡ false → pairs n t u
    ≡ None ∷ []
unfolding pairs same_shape same_type
pairs_unlike n (param k) u other e = by_test (nat_lt k n) refl
  where
    by_test : (r : Bool) → nat_lt k n ≡ r → pairs n (param k) u ≡ None ∷ []
    by_test true f = absurd (let h : unknown n (param k) ≡ Some k = rw f refl in cc)
    by_test false f = rw (f, e) refl
pairs_unlike n (basic b) u other e = rw e refl
pairs_unlike n (named m ts) (named k us) other e = rw e refl
pairs_unlike n (pointer t) (pointer u) other e = not_equal e
pairs_unlike n (slice t) (slice u) other e = not_equal e
pairs_unlike n (array len t) (array k u) other e = rw e refl
pairs_unlike n (map_of k t) (map_of l u) other e = not_equal e
pairs_unlike n (func ps rs) (func qs ss) other e = rw e refl
pairs_unlike n (struct ns ts) (struct ms us) other e = rw e refl
pairs_unlike n (iface ns ts c vs) (iface ms us d ws) other e = rw e refl
pairs_unlike n (union ns ts) (union ms us) other e = rw e refl
pairs_unlike n t u other e = refl

pub pairs_unknown : (n : ℕ) (t u : Ty) (k : ℕ) → unknown n t ≡ Some k → pairs n t u
    ≡ Some (record { param = k; ty = u }) ∷ []
unfolding pairs
pairs_unknown n (param j) u k is = by_test (nat_lt j n) refl
  where
    by_test : (r : Bool) → nat_lt j n ≡ r → pairs n (param j) u
        ≡ Some (record { param = k; ty = u }) ∷ []
    by_test true f =
        let h : Some j ≡ Some k = rw f at is in
        let g : j ≡ k = cc in
        rw f (ap (λ (i : ℕ). Some (let b : BindingTree = record { param = i; ty = u } in b) ∷ [])
        g)
    by_test false f = let h : None ≡ Some k = rw f at is in absurd cc
pairs_unknown n t u k is = absurd cc

-- ---- a step of a loop over parts
pub pairs_rest : (n : ℕ) (table : Table) (xs ys : List TypeId) (i : ℕ) (d e : TypeId)
    → i < length xs → length xs ≡ length ys
    → pairs_all n (parts table (drop i xs)) (parts table (drop i ys))
    ≡ pairs n (tree table (get_or xs i d)) (tree table (get_or ys i e))
    ++ pairs_all n (parts table (drop (i + 1) xs)) (parts table (drop (i + 1) ys))
unfolding pairs_all
pairs_rest n table xs ys i d e h l = rw (
  drop-cons xs i d h,
  drop-cons ys i e
      (omega (arith, h, l)),
  add-one,
) refl

pub pairs_none : (n : ℕ) (us : Tys) → pairs_all n no_types us ≡ []
unfolding pairs_all
pairs_none n us = refl

-- the pair of the loop's place, and what is left
pub bindings_step : (new mid whole : List BindingTree) (ps qs rs : List (Option BindingTree)) → new
    ≡ mid ++ bindings_of ps → qs ≡ ps ++ rs → mid ++ bindings_of qs ≡ whole → new ++ bindings_of rs
    ≡ whole
bindings_step new mid whole ps qs rs e f h =
    ap (λ (bs : List BindingTree). bs ++ bindings_of rs) e
    ∙ append_assoc mid (bindings_of ps) (bindings_of rs)
    ∙ ap (λ (bs : List BindingTree). mid ++ bs)
    (sym (bindings_of-append ps rs) ∙ ap bindings_of (sym f)) ∙ h

and_assoc : (a b c : Bool) → ((a && b) && c) ≡ (a && (b && c))
and_assoc true b c = refl
and_assoc false b c = refl

and_true : (a : Bool) → (a && true) ≡ a
and_true true = refl
and_true false = refl

pub alike_step : (r a same whole : Bool) (ps qs rs : List (Option BindingTree)) → r ≡ (a && same)
    → same ≡ are_alike ps → qs ≡ ps ++ rs → (a && are_alike qs) ≡ whole → (r && are_alike rs)
    ≡ whole
alike_step r a same whole ps qs rs e s f h =
    ap (λ (b : Bool). b && are_alike rs) (e ∙ ap (λ (b : Bool). a && b) s)
    ∙ and_assoc a (are_alike ps) (are_alike rs)
    ∙ ap (λ (b : Bool). a && b) (sym (are_alike-append ps rs) ∙ ap are_alike (sym f)) ∙ h

-- nothing is left
pairs_over : (n : ℕ) (table : Table) (xs : List TypeId) (us : Tys) (i : ℕ) → length xs ≤ i
    → pairs_all n (parts table (drop i xs)) us ≡ []
pairs_over n table xs us i h = rw (drop_all i xs h) (pairs_none n us)

pub bindings_over : (n : ℕ) (table : Table) (xs : List TypeId) (us : Tys) (i : ℕ)
    (new whole : List BindingTree) → length xs ≤ i → new
    ++ bindings_of (pairs_all n (parts table (drop i xs)) us) ≡ whole → new ≡ whole
bindings_over n table xs us i new whole h e = sym (append-nil new)
    ∙ ap (λ (ps : List (Option BindingTree)). new ++ bindings_of ps)
    (sym (pairs_over n table xs us i h)) ∙ e

pub alike_over : (n : ℕ) (table : Table) (xs : List TypeId) (us : Tys) (i : ℕ) (a whole : Bool)
    → length xs ≤ i → (a && are_alike (pairs_all n (parts table (drop i xs)) us)) ≡ whole → a
    ≡ whole
alike_over n table xs us i a whole h e = sym (and_true a)
    ∙ ap (λ (ps : List (Option BindingTree)). a && are_alike ps)
    (sym (pairs_over n table xs us i h)) ∙ e

-- ---- what one call puts after the bindings
shown_push : (table : Table) (bs : List Binding) (b : Binding)
    → shown_bindings table (bs ++ b ∷ []) ≡ shown_bindings table bs ++ shown_binding table b ∷ []
shown_push table [] b = refl
shown_push table (c ∷ bs) b = ap (λ (cs : List BindingTree). shown_binding table c ∷ cs)
    (shown_push table bs b)

pub pushed_binding : (table : Table) (bs new : List Binding) (b : Binding)
    (ps : List (Option BindingTree)) → new ≡ bs ++ b ∷ [] → ps ≡ Some (shown_binding table b) ∷ []
    → shown_bindings table new ≡ shown_bindings table bs ++ bindings_of ps
pushed_binding table bs new b ps e f = ap (shown_bindings table) e ∙ shown_push table bs b
    ∙ ap (λ (qs : List (Option BindingTree)). shown_bindings table bs ++ bindings_of qs) (sym f)

pub no_unknown : (o p : Option ℕ) → o ≡ p → ((k : ℕ) → o ≡ Some k → ⊥) → p ≡ None
no_unknown None p e none = sym e
no_unknown (Some k) p e none = absurd (none k refl)

pub alike_by : {E : Type 0} (r : Result Bool E) (ps qs : List (Option BindingTree)) → ps ≡ qs
    → IfOk r (λ a. a ≡ are_alike qs) → IfOk r (λ a. a ≡ are_alike ps)
alike_by (Ok a) ps qs e h = h ∙ ap are_alike (sym e)
alike_by (Err x) ps qs e h = tt

pub bindings_by : {E : Type 0} (r : Result Bool E) (new old : List BindingTree)
    (ps qs : List (Option BindingTree)) → ps ≡ qs → OnOk r (new ≡ old ++ bindings_of qs)
    → OnOk r (new ≡ old ++ bindings_of ps)
bindings_by (Ok a) new old ps qs e h = h ∙ ap
    (λ (rs : List (Option BindingTree)). old ++ bindings_of rs) (sym e)
bindings_by (Err x) new old ps qs e h = tt
