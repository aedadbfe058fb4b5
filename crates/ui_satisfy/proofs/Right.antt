-- What the search finds is the least set of what isn't comparable.
use Rattle.std.proofs.Common.{◌≡◌, ℕ, zero, suc, Bool, true, false, ◌⊎◌, inl, inr, List, [], ◌∷◌}
use Rattle.std.proofs.Common.{refl, sym, ap, subst, ◌∙◌, true≢false}
use Rattle.std.specs.Prelude.{Contains, Option, Some, None, Ok, Err, not, if◌then◌else◌, nat_lt}
use Rattle.ui_types.specs.Ty.{Ty, basic, named, pointer, slice, array, map_of, func, struct, iface}
use Rattle.ui_types.specs.Ty.{union, param, list_of, size, depth}
use Rattle.ui_types.specs.Table.{max_size, max_depth}
use Rattle.ui_types.specs.Decls.{DeclTrees, under}
use Rattle.ui_sets.specs.declared.fault.SetFault.{SetFault}
use Rattle.ui_sets.specs.declared.fault.SetFault.TheVariants.{TooBig, TooDeep}
use Rattle.ui_sets.specs.Needed.{Needs, needed, within, bound_of}
use Rattle.ui_sets.specs.Sites.{number_of}
use Rattle.ui_terms.specs.Terms.{unions_of}
use Rattle.ui_satisfy.specs.Comparable.{is_incomparable, parts_of, asks_comparable, term_types}
use Rattle.ui_satisfy.specs.Comparable.{HasOne, IsClosed, NotComparable, Tells}
use Rattle.ui_satisfy.specs.Search.{Seen, nothing_seen, is_in, put, Look, unfinished, refused, holds, fails}
use Rattle.ui_satisfy.specs.Search.{and_then, or_else, with_needed, all_looked, one_looked}
use Rattle.ui_satisfy.specs.Search.{bound_looked, plain_looked, inside, opened, closed, looked_anew}
use Rattle.ui_satisfy.specs.Search.{looked, look, answer_of, compared}
use Rattle.ui_satisfy.specs.Laws.{SearchIsRight}
use Rattle.ui_satisfy.proofs.Members.{contains_head, contains_tail, contains_none, contains_either}
use Rattle.ui_satisfy.proofs.Members.{in_front, in_behind, front_or_behind, put_keeps, put_has}
use Rattle.ui_satisfy.proofs.Members.{put_either}

-- what is needed is the underlying type
within_is : (t u : Ty) → within t ≡ Ok u → t ≡ u
unfolding within
within_is t u e = by (nat_lt max_size (size t)) (nat_lt max_depth (depth t)) e
  where
    by : (a b : Bool) → (if a then Err TooBig else (if b then Err TooDeep else Ok t)) ≡ Ok u → t ≡ u
    by true b e = absurd cc
    by false true e = absurd cc
    by false false e = cc

param_of : (t : Ty) (k : ℕ) → number_of t ≡ Some k → t ≡ param k
param_of (param j) k e = cc
param_of t k e = cc

no_param : (t : Ty) → number_of t ≡ None → (k : ℕ) → t ≡ param k → ⊥
no_param t e k p = let q : Some k ≡ None = sym (ap number_of p) ∙ e in absurd cc

module _ (ds : DeclTrees) (bounds : List Ty) where
  abbrev bound_under : ℕ → Ty
  bound_under k = under ds (bound_of bounds k)

  -- ---- sets of types that were found comparable
  abbrev AllIn : List Ty → List Ty → Type 0
  AllIn good ts = (p : Ty) → Contains ts p → is_in p good ≡ true

  abbrev HasBad : List Ty → Type 0
  HasBad ts = (p : Ty) × Contains ts p × NotComparable ds bounds p

  abbrev HasUnion : List Ty → List Ty → Type 0
  HasUnion good us = (u : Ty) × Contains us u × AllIn good (term_types u)

  abbrev AllBad : List Ty → Type 0
  AllBad us = (u : Ty) → Contains us u → HasBad (term_types u)

  abbrev IsBounded : List Ty → ℕ → Type 0
  IsBounded good k =
      (asks_comparable (bound_under k) ≡ true) ⊎ HasUnion good (list_of (unions_of (bound_under k)))

  -- nothing speaks against a type but what the set says
  record Supported (good : List Ty) (x : Ty) : Type 0 where
    pub kind : is_incomparable (under ds x) ≡ false
    pub parts : AllIn good (parts_of (under ds x))
    pub param : (k : ℕ) → x ≡ param k → IsBounded good k

  abbrev Grew : List Ty → List Ty → Type 0
  Grew old new = (x : Ty) → is_in x old ≡ true → is_in x new ≡ true

  Supported-grew : (old new : List Ty) (x : Ty) → Grew old new → Supported old x → Supported new x
  Supported-grew old new x g h = record {
    kind = h.kind;
    parts = λ p c. g p (h.parts p c);
    param = λ k e. elim (h.param k e) [
      | inl a ↦ inl a
      | inr w ↦ inr (w.0, w.1, λ p c. g p (w.2 p c))
    ];
  }

  -- ---- what is known of what was met, where some types are looked at
  record Known (open_ : List Ty) (s : Seen) : Type 0 where
    pub good : (x : Ty) → is_in x s.good ≡ true → (is_in x open_ ≡ true) ⊎ Supported s.good x
    pub bad : (x : Ty) → is_in x s.bad ≡ true → NotComparable ds bounds x

  record After (open_ : List Ty) (s s' : Seen) (Told : Type 0) : Type 0 where
    pub known : Known open_ s'
    pub grew : Grew s.good s'.good
    pub told : Told

  abbrev Finds : List Ty → Seen → (List Ty → Type 0) → Type 0 → Look → Type 0
  Finds open_ s Yes No unfinished = Unit {0}
  Finds open_ s Yes No (refused e) = Unit {0}
  Finds open_ s Yes No (holds s') = After open_ s s' (Yes s'.good)
  Finds open_ s Yes No (fails s') = After open_ s s' No

  abbrev IsRightLook : (Seen → Ty → Look) → Type 0
  IsRightLook look = (open_ : List Ty) (s : Seen) (t : Ty) → Known open_ s
      → Finds open_ s (λ good. is_in t good ≡ true) (NotComparable ds bounds t) (look s t)

  onward : (open_ : List Ty) (s s1 : Seen) (Yes Yes' : List Ty → Type 0) (No No' : Type 0)
      (r : Look)
      → Grew s.good s1.good → Finds open_ s1 Yes No r
      → ((good : List Ty) → Grew s1.good good → Yes good → Yes' good) → (No → No')
      → Finds open_ s Yes' No' r
  onward open_ s s1 Yes Yes' No No' unfinished g v f h = tt
  onward open_ s s1 Yes Yes' No No' (refused e) g v f h = tt
  onward open_ s s1 Yes Yes' No No' (holds s') g v f h = record {
    known = v.known;
    grew = λ x e. v.grew x (g x e);
    told = f s'.good v.grew v.told;
  }
  onward open_ s s1 Yes Yes' No No' (fails s') g v f h = record {
    known = v.known;
    grew = λ x e. v.grew x (g x e);
    told = h v.told;
  }

  -- ---- one type after another
  all_step : (open_ : List Ty) (s : Seen) (t : Ty) (ts : List Ty) (rest : Seen → Look) (r : Look)
      → ((s1 : Seen) → Known open_ s1 → Finds open_ s1 (λ good. AllIn good ts) (HasBad ts)
      (rest s1))
      → Finds open_ s (λ good. is_in t good ≡ true) (NotComparable ds bounds t) r
      → Finds open_ s (λ good. AllIn good (t ∷ ts)) (HasBad (t ∷ ts)) (and_then r rest)
  all_step open_ s t ts rest unfinished k w = tt
  all_step open_ s t ts rest (refused e) k w = tt
  all_step open_ s t ts rest (fails s1) k w = record {
    known = w.known;
    grew = w.grew;
    told = (t, contains_head t ts, w.told);
  }
  all_step open_ s t ts rest (holds s1) k w =
      onward open_ s s1 (λ good. AllIn good ts) (λ good. AllIn good (t ∷ ts)) (HasBad ts)
      (HasBad (t ∷ ts)) (rest s1) w.grew
      (k s1 w.known)
      (λ good g y p c. elim (contains_either t p ts c) [
        | inl e ↦ g p (subst (λ (x : Ty). is_in x s1.good ≡ true) e w.told)
        | inr d ↦ y p d
      ])
      (λ n. (n.0, contains_tail t n.0 ts n.1, n.2))

  all_right : (look : Seen → Ty → Look) → IsRightLook look
      → (open_ : List Ty) (s : Seen) (ts : List Ty)
      → Known open_ s → Finds open_ s (λ good. AllIn good ts) (HasBad ts) (all_looked look s ts)
  all_right look h open_ s [] k = record {
    known = k;
    grew = λ x e. e;
    told = λ p c. absurd (contains_none p c);
  }
  all_right look h open_ s (t ∷ ts) k =
      all_step open_ s t ts (λ s1. all_looked look s1 ts) (look s t)
      (λ s1 k1. all_right look h open_ s1 ts k1) (h open_ s t k)

  -- ---- one union after another
  one_step : (open_ : List Ty) (s : Seen) (u : Ty) (us : List Ty) (rest : Seen → Look) (r : Look)
      → ((s1 : Seen) → Known open_ s1 → Finds open_ s1 (λ good. HasUnion good us) (AllBad us)
      (rest s1))
      → Finds open_ s (λ good. AllIn good (term_types u)) (HasBad (term_types u)) r
      → Finds open_ s (λ good. HasUnion good (u ∷ us)) (AllBad (u ∷ us)) (or_else r rest)
  one_step open_ s u us rest unfinished k w = tt
  one_step open_ s u us rest (refused e) k w = tt
  one_step open_ s u us rest (holds s1) k w = record {
    known = w.known;
    grew = w.grew;
    told = (u, contains_head u us, w.told);
  }
  one_step open_ s u us rest (fails s1) k w =
      onward open_ s s1 (λ good. HasUnion good us) (λ good. HasUnion good (u ∷ us)) (AllBad us)
      (AllBad (u ∷ us)) (rest s1) w.grew
      (k s1 w.known)
      (λ good g y. (y.0, contains_tail u y.0 us y.1, y.2))
      (λ n v c. elim (contains_either u v us c) [
        | inl e ↦ subst (λ (x : Ty). HasBad (term_types x)) e w.told
        | inr d ↦ n v d
      ])

  one_right : (look : Seen → Ty → Look) → IsRightLook look
      → (open_ : List Ty) (s : Seen) (us : List Ty)
      → Known open_ s → Finds open_ s (λ good. HasUnion good us) (AllBad us) (one_looked look s us)
  one_right look h open_ s [] k = record {
    known = k;
    grew = λ x e. e;
    told = λ u c. absurd (contains_none u c);
  }
  one_right look h open_ s (u ∷ us) k =
      one_step open_ s u us (λ s1. one_looked look s1 us) (all_looked look s (term_types u))
      (λ s1 k1. one_right look h open_ s1 us k1) (all_right look h open_ s (term_types u) k)

  -- ---- inside a type
  same_after : (open_ : List Ty) (s : Seen) (Yes Yes' : List Ty → Type 0) (No No' : Type 0)
      (r : Look)
      → Finds open_ s Yes No r → ((good : List Ty) → Yes good → Yes' good) → (No → No')
      → Finds open_ s Yes' No' r
  same_after open_ s Yes Yes' No No' r v f h =
      onward open_ s s Yes Yes' No No' r (λ x e. e) v (λ good g y. f good y) h

  bound_right : (look : Seen → Ty → Look) → IsRightLook look → (open_ : List Ty) (s : Seen) (k : ℕ)
      → Known open_ s
      → Finds open_ s (λ good. IsBounded good k) (NotComparable ds bounds (param k))
      (bound_looked look s (bound_under k))
  bound_right look h open_ s k known = by (asks_comparable (bound_under k)) refl
    where
      by : (b : Bool) → asks_comparable (bound_under k) ≡ b
          → Finds open_ s (λ good. IsBounded good k) (NotComparable ds bounds (param k))
          (if b then holds s else one_looked look s (list_of (unions_of (bound_under k))))
      by true e = record { known = known; grew = λ x q. q; told = inl e }
      by false e =
          same_after open_ s (λ good. HasUnion good (list_of (unions_of (bound_under k))))
          (λ good. IsBounded good k)
          (AllBad (list_of (unions_of (bound_under k)))) (NotComparable ds bounds (param k))
          (one_looked look s (list_of (unions_of (bound_under k))))
          (one_right look h open_ s (list_of (unions_of (bound_under k))) known)
          (λ good y. inr y)
          (λ n S c. c.params k e (λ u d. let q = n u d in (q.0, q.1, q.2 S c)))

  param_right : (look : Seen → Ty → Look) → IsRightLook look → (open_ : List Ty) (s : Seen) (k : ℕ)
      → Known open_ s
      → Finds open_ s (λ good. IsBounded good k) (NotComparable ds bounds (param k))
      (with_needed (needed ds (bound_of bounds k)) (bound_looked look s))
  param_right look h open_ s k known = by (needed ds (bound_of bounds k)) refl
    where
      by : (m : Needs Ty) → needed ds (bound_of bounds k) ≡ m
          → Finds open_ s (λ good. IsBounded good k) (NotComparable ds bounds (param k))
          (with_needed m (bound_looked look s))
      by (Err e) p = tt
      by (Ok u) p = subst (λ (v : Ty). Finds open_ s (λ good. IsBounded good k)
          (NotComparable ds bounds (param k)) (bound_looked look s v))
          (within_is (bound_under k) u p) (bound_right look h open_ s k known)

  plain_right : (look : Seen → Ty → Look) → IsRightLook look → (open_ : List Ty) (s : Seen) (t : Ty)
      → number_of t ≡ None → Known open_ s
      → Finds open_ s (λ good. Supported good t) (NotComparable ds bounds t)
      (plain_looked look s (under ds t))
  plain_right look h open_ s t none known = by (is_incomparable (under ds t)) refl
    where
      by : (b : Bool) → is_incomparable (under ds t) ≡ b
          → Finds open_ s (λ good. Supported good t) (NotComparable ds bounds t)
          (if b then fails s else all_looked look s (parts_of (under ds t)))
      by true e = record { known = known; grew = λ x q. q; told = λ S c. c.kinds t e }
      by false e =
          same_after open_ s (λ good. AllIn good (parts_of (under ds t))) (λ good. Supported good t)
          (HasBad (parts_of (under ds t))) (NotComparable ds bounds t)
          (all_looked look s (parts_of (under ds t)))
          (all_right look h open_ s (parts_of (under ds t)) known)
          (λ good y. record { kind = e; parts = y; param = λ k p. absurd (no_param t none k p) })
          (λ n S c. c.parts t (n.0, n.1, n.2 S c))

  param_supported : (good : List Ty) (k : ℕ) → IsBounded good k → Supported good (param k)
  param_supported good k h = record {
    kind = refl;
    parts = λ p c. absurd (contains_none p c);
    param = λ j e. let q : k ≡ j = cc in subst (IsBounded good) q h;
  }

  inside_right : (look : Seen → Ty → Look) → IsRightLook look
      → (open_ : List Ty) (s : Seen) (t : Ty)
      → Known open_ s
      → Finds open_ s (λ good. Supported good t) (NotComparable ds bounds t)
      (inside ds bounds look s (under ds t) (number_of t))
  inside_right look h open_ s t known = by (number_of t) refl
    where
      by : (o : Option ℕ) → number_of t ≡ o
          → Finds open_ s (λ good. Supported good t) (NotComparable ds bounds t)
          (inside ds bounds look s (under ds t) o)
      by None e = plain_right look h open_ s t e known
      by (Some k) e =
          subst (λ (x : Ty). Finds open_ s (λ good. Supported good x) (NotComparable ds bounds x)
          (with_needed (needed ds (bound_of bounds k)) (bound_looked look s)))
          (sym (param_of t k e))
          (same_after open_ s (λ good. IsBounded good k) (λ good. Supported good (param k))
          (NotComparable ds bounds (param k)) (NotComparable ds bounds (param k))
          (with_needed (needed ds (bound_of bounds k)) (bound_looked look s))
          (param_right look h open_ s k known) (λ good y. param_supported good k y) (λ n. n))

  -- ---- a type that wasn't met
  opened_known : (open_ : List Ty) (s : Seen) (t : Ty) → Known open_ s
      → Known (t ∷ open_) (opened s t)
  opened_known open_ s t k = record {
    good = λ x e. elim (put_either x t s.good e) [
      | inl m ↦ elim (k.good x m) [
        | inl o ↦ inl (in_behind x t open_ o)
        | inr w ↦ inr (Supported-grew s.good (put t s.good) x (λ y d. put_keeps y t s.good d) w)
      ]
      | inr p ↦ inl (subst (λ (y : Ty). is_in y (t ∷ open_) ≡ true) (sym p) (in_front t open_))
    ];
    bad = k.bad;
  }

  closed_right : (open_ : List Ty) (s : Seen) (t : Ty) (r : Look) → Known open_ s
      → Finds (t ∷ open_) (opened s t) (λ good. Supported good t) (NotComparable ds bounds t) r
      → Finds open_ s (λ good. is_in t good ≡ true) (NotComparable ds bounds t) (closed s t r)
  closed_right open_ s t unfinished k w = tt
  closed_right open_ s t (refused e) k w = tt
  closed_right open_ s t (holds s1) k w = record {
    known = record {
      good = λ x e. elim (w.known.good x e) [
        | inl o ↦ elim (front_or_behind x t open_ o) [
          | inl p ↦ inr (subst (λ (y : Ty). Supported s1.good y) (sym p) w.told)
          | inr q ↦ inl q
        ]
        | inr v ↦ inr v
      ];
      bad = w.known.bad;
    };
    grew = λ x e. w.grew x (put_keeps x t s.good e);
    told = w.grew t (put_has t s.good);
  }
  closed_right open_ s t (fails s1) k w = record {
    known = record {
      good = k.good;
      bad = λ x e. elim (put_either x t s1.bad e) [
        | inl m ↦ w.known.bad x m
        | inr p ↦ subst (λ (y : Ty). NotComparable ds bounds y) (sym p) w.told
      ];
    };
    grew = λ x e. e;
    told = w.told;
  }

  anew_right : (look : Seen → Ty → Look) → IsRightLook look → (open_ : List Ty) (s : Seen) (t : Ty)
      → Known open_ s
      → Finds open_ s (λ good. is_in t good ≡ true) (NotComparable ds bounds t)
      (with_needed (needed ds t) (looked_anew ds bounds look s t))
  anew_right look h open_ s t known = by (needed ds t) refl
    where
      by : (m : Needs Ty) → needed ds t ≡ m
          → Finds open_ s (λ good. is_in t good ≡ true) (NotComparable ds bounds t)
          (with_needed m (looked_anew ds bounds look s t))
      by (Err e) p = tt
      by (Ok u) p = subst (λ (v : Ty). Finds open_ s (λ good. is_in t good ≡ true)
          (NotComparable ds bounds t) (looked_anew ds bounds look s t v))
          (within_is (under ds t) u p)
          (closed_right open_ s t (inside ds bounds look (opened s t) (under ds t) (number_of t))
          known
          (inside_right look h (t ∷ open_) (opened s t) t (opened_known open_ s t known)))

  looked_right : (look : Seen → Ty → Look) → IsRightLook look → IsRightLook (looked ds bounds look)
  looked_right look h open_ s t known = by (is_in t s.bad) (is_in t s.good) refl refl
    where
      by : (a b : Bool) → is_in t s.bad ≡ a → is_in t s.good ≡ b
          → Finds open_ s (λ good. is_in t good ≡ true) (NotComparable ds bounds t)
          (if a then fails s else (if b then holds s else with_needed (needed ds t)
          (looked_anew ds bounds look s t)))
      by true b p q = record { known = known; grew = λ x e. e; told = known.bad t p }
      by false true p q = record { known = known; grew = λ x e. e; told = q }
      by false false p q = anew_right look h open_ s t known

  look_right : (n : ℕ) → IsRightLook (look ds bounds n)
  unfolding look
  look_right zero open_ s t known = tt
  look_right (suc n) open_ s t known = looked_right (look ds bounds n) (look_right n) open_ s t
      known

  -- ---- the whole search
  nothing_known : Known [] nothing_seen
  nothing_known = record { good = λ x e. absurd cc; bad = λ x e. absurd cc }

  good_is_closed : (good : List Ty) → ((x : Ty) → is_in x good ≡ true → Supported good x)
      → IsClosed ds bounds (λ x. not (is_in x good))
  good_is_closed good all = record {
    kinds = λ t e. outside t (λ p. absurd (true≢false (sym e ∙ (all t p).kind)));
    parts = λ t h. outside t (λ p. not_both h.0 ((all t p).parts h.0 h.1) h.2);
    params = λ k e h. outside (param k) (λ p. elim ((all (param k) p).param k refl) [
      | inl a ↦ absurd (true≢false (sym a ∙ e))
      | inr w ↦ let q = h w.0 w.1 in not_both q.0 (w.2 q.0 q.1) q.2
    ]);
  }
    where
      outside : (t : Ty) → (is_in t good ≡ true → ⊥) → not (is_in t good) ≡ true
      outside t f = by (is_in t good) refl
        where
          by : (b : Bool) → is_in t good ≡ b → not b ≡ true
          by true e = absurd (f e)
          by false e = refl

      not_both : (t : Ty) → is_in t good ≡ true → not (is_in t good) ≡ true → ⊥
      not_both t e f = let g : not true ≡ true = rw e at f in absurd cc

  told : (t : Ty) (is : Bool) (r : Look)
      → Finds [] nothing_seen (λ good. is_in t good ≡ true) (NotComparable ds bounds t) r
      → answer_of r ≡ Some (Ok is) → Tells ds bounds t is
  told t is unfinished w e = absurd cc
  told t is (refused f) w e = absurd cc
  told t true (holds s) w e = λ n.
      let all : (x : Ty) → is_in x s.good ≡ true → Supported s.good x = λ x m. elim
      (w.known.good x m) [
        | inl o ↦ absurd cc
        | inr v ↦ v
      ] in
      let f : not (is_in t s.good) ≡ true = n (λ x. not (is_in x s.good))
      (good_is_closed s.good all) in
      let m : is_in t s.good ≡ true = w.told in
      let g : not true ≡ true = rw m at f in absurd cc
  told t false (holds s) w e = absurd cc
  told t true (fails s) w e = absurd cc
  told t false (fails s) w e = w.told

  pub search_tells : (t : Ty) (n : ℕ) (is : Bool) → compared ds bounds t n ≡ Some (Ok is)
      → Tells ds bounds t is
  search_tells t n is e = told t is (look ds bounds n nothing_seen t)
      (look_right n [] nothing_seen t nothing_known) e

pub search_is_right : SearchIsRight
search_is_right ds bounds t n is e = search_tells ds bounds t n is e
