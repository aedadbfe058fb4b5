-- Each format that is made of these parts is lawful.
use Rattle.std.specs.List.{AllByRecursion, flat_map}
use Rattle.std.specs.Prelude.{nat_eq, nat_lt, slice_get}
use Rattle.std.proofs.lemmas.Bool.{eqb-true}
use Rattle.std.proofs.lemmas.List.Concat.{flat_map-cons}
use Rattle.std.proofs.Common.{length, cond, ◌≡◌, ◌⊎◌, inl, inr, ℤ, ℕ, zero, suc, List, [], ◌∷◌, ◌++◌, Bool, true, false, Option, Some, None, Result, Ok, Err, refl, sym, ap, subst, ◌∙◌}
use Rattle.ui_frame.specs.Reading.{◌>>=◌, uint_at, int_at, truth_at}
use Rattle.ui_frame.specs.declared.number.NumFault.{NumFault}
use Rattle.ui_frame.specs.Laws.{bind_ok, ok_is, chosen}
use Rattle.ui_strpos.specs.declared.fault.Cause.{Cause}
use Rattle.ui_strpos.specs.declared.fault.Cause.TheVariants.{BadCode, BadIndex, BadSection, TableOrder}
use Rattle.ui_strpos.specs.Items.{Item, UInt, Int, Truth, Use}
use Rattle.ui_strpos.specs.declared.target.Target.{Target}
use Rattle.ui_strpos.specs.Reading.{Context, State, Fault, fault, cause_of, field, past, uint_in, int_in, truth_in, use_in, entry_index, used_index, uses}
use Rattle.ui_strpos.specs.Format.{Format, checked, one_field, uint_field, int_field, truth_field, use_field, seq, via, opt_items, opt_fits, variant, tagged, by_shape, choose, no_format, nothing_more, there, with_option, times, times_of, counted, times_by, items_by, fits_by, counted_by, ReadsItem, Reads, Stopped, Lawful}

-- an outcome is one thing
abbrev failed : {A : Type 0} → Fault → Result A Fault
failed e = Err e

pub err_is : {A : Type 0} (d e : Fault) → failed {A = A} d ≡ failed e → d ≡ e
err_is d e h = cc

pub ok_err : {A : Type 0} (x : A) (e : Fault) → Ok x ≡ failed e → ⊥
ok_err x e h = cc

pub checked_ok : {A : Type 0} (o : Option Cause) (place : ℕ) (x y : A) → checked o place x ≡ Ok y → (o ≡ None) × (x ≡ y)
checked_ok None place x y e = (refl, ok_is {F = Fault} x y e)
checked_ok (Some c) place x y e = absurd cc

-- the fault of one of two steps
pub bind_err : {A B : Type 0} (r : Result A Fault) (f : A → Result B Fault) (e : Fault) → (r >>= f) ≡ Err e → (r ≡ Err e) ⊎ ((x : A) × (r ≡ Ok x) × (f x ≡ Err e))
bind_err {A = A} (Ok x) f e h = inr (x, refl, h)
bind_err {A = A} {B = B} (Err d) f e h = inl (ap (λ (x : Fault). Err x) (err_is {A = B} d e h))

-- ---- a single field

pub field_stops : {A : Type 0} (s : State) (r : Result (A × ℕ) NumFault) (e : Fault) → field s r ≡ Err e → e.offset ≡ s.place
field_stops s (Ok r) e h = absurd cc
field_stops {A = A} s (Err d) e h = ap (λ (x : Fault). x.offset) (sym (err_is {A = A × State} (fault s.place (cause_of d)) e h))

entry_stops : (section place used k : ℕ) (o : Option Target) (e : Fault) → entry_index section place used k o ≡ Err e → e.offset ≡ place
entry_stops section place used k None e h = ap (λ (x : Fault). x.offset) (sym (err_is {A = ℕ} (fault place BadIndex) e h))
entry_stops section place used k (Some t) e h =
    elim (chosen (nat_eq t.section section) (cond (nat_lt used k) (Err (fault place TableOrder)) (Ok t.index)) (Err (fault place BadSection)) (Err e) h) [
      | inl p ↦ elim (chosen (nat_lt used k) (Err (fault place TableOrder)) (Ok t.index) (Err e) p.1) [
        | inl q ↦ ap (λ (x : Fault). x.offset) (sym (err_is {A = ℕ} (fault place TableOrder) e q.1))
        | inr q ↦ absurd cc
      ]
      | inr p ↦ ap (λ (x : Fault). x.offset) (sym (err_is {A = ℕ} (fault place BadSection) e p.1))
    ]

use_stops : (section : ℕ) (s : State) (e : Fault) → use_in section s ≡ Err e → e.offset ≡ s.place
unfolding use_in
use_stops section s e h =
    elim (bind_err (uint_in s) (λ k. used_index section s.place s.used s.table k.0 >>= λ index. Ok (index, uses k.1 k.0)) e h) [
      | inl p ↦ field_stops s (uint_at s.rest) e p
      | inr p ↦ elim (bind_err (used_index section s.place s.used s.table p.0.0) (λ index. Ok (index, uses p.0.1 p.0.0)) e p.2) [
        | inl q ↦ entry_stops section s.place s.used p.0.0 (slice_get s.table p.0.0) e q
        | inr q ↦ absurd (ok_err (q.0, uses p.0.1 p.0.0) e q.2)
      ]
    ]

checked_stops : {A : Type 0} (o : Option Cause) (place : ℕ) (x : A) (e : Fault) → checked o place x ≡ Err e → e.offset ≡ place
checked_stops None place x e h = absurd cc
checked_stops {A = A} (Some c) place x e h = ap (λ (y : Fault). y.offset) (sym (err_is {A = A} (fault place c) e h))

stopped_here : (s : State) (e : Fault) → e.offset ≡ s.place → Stopped s e
stopped_here s e h = record { before = []; at = s; reads = refl; place = sym h }

one_lawful : {A : Type 0} (reading : State → Result (A × State) Fault) (item : A → Item) (test : Context → A → Option Cause)
    → ((s t : State) (a : A) → reading s ≡ Ok (a, t) → ReadsItem s (item a) t)
    → ((s t : State) (a : A) → ReadsItem s (item a) t → reading s ≡ Ok (a, t))
    → ((s : State) (e : Fault) → reading s ≡ Err e → e.offset ≡ s.place)
    → Lawful (one_field reading item test)
one_lawful {A = A} reading item test is back place = record {
  takes = λ s x e.
      let a = bind_ok (reading s) (λ n. checked (test s.context n.0) s.place n) x e in
      let b = checked_ok (test s.context a.0.0) s.place a.0 x a.2 in
      let r : reading s ≡ Ok x = a.1 ∙ ap (λ (y : A × State). Ok y) b.1 in
      ((x.1, is s x.1 x.0 r, refl), subst (λ (y : A × State). test s.context y.0 ≡ None) b.1 b.0);
  again = λ s t n fits r.
      rw (back s r.0 n r.1, fits) (ap (λ (u : State). Ok (n, u)) (sym r.2));
  stops = λ s e h.
      stopped_here s e (elim (bind_err (reading s) (λ n. checked (test s.context n.0) s.place n) e h) [
        | inl p ↦ place s e p
        | inr p ↦ checked_stops (test s.context p.0.0) s.place p.0 e p.2
      ]);
}

pub uint_lawful : (test : Context → ℕ → Option Cause) → Lawful (uint_field test)
uint_lawful test = one_lawful uint_in (λ n. UInt n) test (λ s t n e. e) (λ s t n e. e) (λ s e h. field_stops s (uint_at s.rest) e h)

pub int_lawful : (test : Context → ℤ → Option Cause) → Lawful (int_field test)
int_lawful test = one_lawful int_in (λ z. Int z) test (λ s t z e. e) (λ s t z e. e) (λ s e h. field_stops s (int_at s.rest) e h)

pub truth_lawful : (test : Context → Bool → Option Cause) → Lawful (truth_field test)
truth_lawful test = one_lawful truth_in (λ b. Truth b) test (λ s t b e. e) (λ s t b e. e) (λ s e h. field_stops s (truth_at s.rest) e h)

pub use_lawful : (section : ℕ) (test : Context → ℕ → Option Cause) → Lawful (use_field section test)
use_lawful section test = one_lawful (use_in section) (λ k. Use section k) test (λ s t k e. e) (λ s t k e. e) (use_stops section)

-- reading keeps the counts and Strings
field_keeps : {A : Type 0} (s : State) (r : Result (A × ℕ) NumFault) (a : A) (t : State) → field s r ≡ Ok (a, t) → t.context ≡ s.context
field_keeps {A = A} s (Ok r) a t e = ap (λ (x : A × State). x.1.context) (ok_is {F = Fault} (a, t) (r.0, past s r.1) (sym e))
field_keeps {A = A} s (Err d) a t e = absurd cc

use_keeps : (section : ℕ) (s : State) (k : ℕ) (t : State) → use_in section s ≡ Ok (k, t) → t.context ≡ s.context
unfolding use_in
use_keeps section s k t e =
    let a = bind_ok (uint_in s) (λ k. used_index section s.place s.used s.table k.0 >>= λ index. Ok (index, uses k.1 k.0)) (k, t) e in
    let b = bind_ok (used_index section s.place s.used s.table a.0.0) (λ index. Ok (index, uses a.0.1 a.0.0)) (k, t) a.2 in
    let same = ok_is {F = Fault} (b.0, uses a.0.1 a.0.0) (k, t) b.2 in
    sym (ap (λ (x : ℕ × State). x.1.context) same) ∙ field_keeps s (uint_at s.rest) a.0.0 a.0.1 a.1

item_keeps : (i : Item) (s t : State) → ReadsItem s i t → t.context ≡ s.context
item_keeps (UInt n) s t r = field_keeps s (uint_at s.rest) n t r
item_keeps (Int z) s t r = field_keeps s (int_at s.rest) z t r
item_keeps (Truth b) s t r = field_keeps s (truth_at s.rest) b t r
item_keeps (Use section k) s t r = use_keeps section s k t r

pub keeps : (is : List Item) (s t : State) → Reads s is t → t.context ≡ s.context
keeps [] s t r = ap (λ (u : State). u.context) r
keeps (i ∷ is) s t r = keeps is r.0 t r.2 ∙ item_keeps i s r.0 r.1

pub reads_then : (xs ys : List Item) (s m t : State) → Reads s xs m → Reads m ys t → Reads s (xs ++ ys) t
reads_then [] ys s m t p q = subst (λ (u : State). Reads u ys t) p q
reads_then (x ∷ xs) ys s m t p q = (p.0, p.1, reads_then xs ys p.0 m t p.2 q)

pub reads_parts : (xs ys : List Item) (s t : State) → Reads s (xs ++ ys) t → (m : State) × Reads s xs m × Reads m ys t
reads_parts [] ys s t r = (s, refl, r)
reads_parts (x ∷ xs) ys s t r = let p = reads_parts xs ys r.0 t r.2 in (p.0, (r.0, r.1, p.1), p.2)

pub stopped_after : (is : List Item) (s m : State) (e : Fault) → Reads s is m → Stopped m e → Stopped s e
stopped_after is s m e r h = record { before = is ++ h.before; at = h.at; reads = reads_then is h.before s m h.at r h.reads; place = h.place }

-- the fault of one of two steps, where the second reads on and cannot fail otherwise
pub map_err : {A B : Type 0} (r : Result A Fault) (f : A → B) (e : Fault) → (r >>= λ a. Ok (f a)) ≡ Err e → r ≡ Err e
map_err {A = A} {B = B} r f e h =
    elim (bind_err r (λ a. Ok (f a)) e h) [ inl p ↦ p | inr p ↦ absurd (ok_err (f p.0) e p.2) ]

-- ---- fields together

pub seq_lawful : {A B : Type 0} (f : Format A) (g : A → Format B) → Lawful f → ((a : A) → Lawful (g a)) → Lawful (seq f g)
seq_lawful {A = A} {B = B} f g lf lg = record {
  takes = λ s x e.
      let a = bind_ok (f.read s) (λ a. (g a.0).read a.1 >>= λ b. Ok ((a.0, b.0), b.1)) x e in
      let b = bind_ok ((g a.0.0).read a.0.1) (λ b. Ok ((a.0.0, b.0), b.1)) x a.2 in
      let first = lf.takes s a.0 a.1 in
      let second = (lg a.0.0).takes a.0.1 b.0 b.1 in
      let fits : (g a.0.0).fits s.context b.0.0 = subst (λ (c : Context). (g a.0.0).fits c b.0.0) (keeps (f.items a.0.0) s a.0.1 first.0) second.1 in
      let both = reads_then (f.items a.0.0) ((g a.0.0).items b.0.0) s a.0.1 b.0.1 first.0 second.0 in
      subst (λ (y : (A × B) × State). Reads s ((seq f g).items y.0) y.1 × (seq f g).fits s.context y.0) (ok_is {F = Fault} ((a.0.0, b.0.0), b.0.1) x b.2) (both, (first.1, fits));
  again = λ s t x fits r.
      let p = reads_parts (f.items x.0) ((g x.0).items x.1) s t r in
      let first = lf.again s p.0 x.0 fits.0 p.1 in
      let second = (lg x.0).again p.0 t x.1 (subst (λ (c : Context). (g x.0).fits c x.1) (sym (keeps (f.items x.0) s p.0 p.1)) fits.1) p.2 in
      rw (first, second) refl;
  stops = λ s e h.
      elim (bind_err (f.read s) (λ a. (g a.0).read a.1 >>= λ b. Ok ((a.0, b.0), b.1)) e h) [
        | inl p ↦ lf.stops s e p
        | inr p ↦ stopped_after (f.items p.0.0) s p.0.1 e (lf.takes s p.0 p.1).0 ((lg p.0.0).stops p.0.1 e (map_err ((g p.0.0).read p.0.1) (λ b. ((p.0.0, b.0), b.1)) e p.2))
      ];
}

pub via_lawful : {A B : Type 0} (to : A → B) (from : B → A) (f : Format A) → Lawful f → ((b : B) → to (from b) ≡ b) → ((c : Context) (a : A) → f.fits c a → from (to a) ≡ a) → Lawful (via to from f)
via_lawful {A = A} {B = B} to from f lf back forth = record {
  takes = λ s x e.
      let a = bind_ok (f.read s) (λ a. Ok (to a.0, a.1)) x e in
      let first = lf.takes s a.0 a.1 in
      let same = forth s.context a.0.0 first.1 in
      subst (λ (y : B × State). Reads s (f.items (from y.0)) y.1 × f.fits s.context (from y.0)) (ok_is {F = Fault} (to a.0.0, a.0.1) x a.2) (rw same first);
  again = λ s t b fits r.
      rw (lf.again s t (from b) fits r, back b) refl;
  stops = λ s e h. lf.stops s e (map_err (f.read s) (λ a. (to a.0, a.1)) e h);
}

pub opt_takes : {A : Type 0} (f : Format A) → Lawful f → (s : State) (a : A) (t : State) (o : Option A) → o ≡ Some a → f.read s ≡ Ok (a, t) → Reads s (opt_items f o) t × opt_fits f s.context o
opt_takes {A = A} f lf s a t o is e = subst (λ (x : Option A). Reads s (opt_items f x) t × opt_fits f s.context x) (sym is) (lf.takes s (a, t) e)

opt_again : {A : Type 0} (f : Format A) → Lawful f → (s t : State) (o : Option A) → opt_fits f s.context o → Reads s (opt_items f o) t → (a : A) × (o ≡ Some a) × (f.read s ≡ Ok (a, t))
opt_again f lf s t None h r = absurd h
opt_again f lf s t (Some a) h r = (a, refl, lf.again s t a h r)

pub variant_lawful : {A V : Type 0} (to : A → V) (from : V → Option A) (f : Format A) → Lawful f → ((a : A) → from (to a) ≡ Some a) → ((v : V) (a : A) → from v ≡ Some a → to a ≡ v) → Lawful (variant to from f)
variant_lawful {A = A} {V = V} to from f lf back forth = record {
  takes = λ s x e.
      let a = bind_ok (f.read s) (λ a. Ok (to a.0, a.1)) x e in
      let first = opt_takes f lf s a.0.0 a.0.1 (from (to a.0.0)) (back a.0.0) a.1 in
      subst (λ (y : V × State). Reads s (opt_items f (from y.0)) y.1 × opt_fits f s.context (from y.0)) (ok_is {F = Fault} (to a.0.0, a.0.1) x a.2) first;
  again = λ s t v fits r.
      let p = opt_again f lf s t (from v) fits r in
      rw (p.2, forth v p.0 p.1) refl;
  stops = λ s e h. lf.stops s e (map_err (f.read s) (λ a. (to a.0, a.1)) e h);
}

pub tagged_lawful : {T V : Type 0} (tag : Format T) (tag_of : V → T) (body : T → Format V) → Lawful tag → ((k : T) → Lawful (body k)) → ((k : T) (c : Context) (v : V) → (body k).fits c v → tag_of v ≡ k) → Lawful (tagged tag tag_of body)
tagged_lawful {T = T} {V = V} tag tag_of body lt lb only = record {
  takes = λ s x e.
      let a = bind_ok (tag.read s) (λ k. (body k.0).read k.1) x e in
      let first = lt.takes s a.0 a.1 in
      let second = (lb a.0.0).takes a.0.1 x a.2 in
      let fits : (body a.0.0).fits s.context x.0 = subst (λ (c : Context). (body a.0.0).fits c x.0) (keeps (tag.items a.0.0) s a.0.1 first.0) second.1 in
      let both = reads_then (tag.items a.0.0) ((body a.0.0).items x.0) s a.0.1 x.1 first.0 second.0 in
      subst (λ (k : T). Reads s (tag.items k ++ (body k).items x.0) x.1 × (tag.fits s.context k × (body k).fits s.context x.0)) (sym (only a.0.0 s.context x.0 fits)) (both, (first.1, fits));
  again = λ s t v fits r.
      let k : T = tag_of v in
      let p = reads_parts (tag.items k) ((body k).items v) s t r in
      let first = lt.again s p.0 k fits.0 p.1 in
      let second = (lb k).again p.0 t v (subst (λ (c : Context). (body k).fits c v) (sym (keeps (tag.items k) s p.0 p.1)) fits.1) p.2 in
      rw (first, second) refl;
  stops = λ s e h.
      elim (bind_err (tag.read s) (λ k. (body k.0).read k.1) e h) [
        | inl p ↦ lt.stops s e p
        | inr p ↦ stopped_after (tag.items p.0.0) s p.0.1 e (lt.takes s p.0 p.1).0 ((lb p.0.0).stops p.0.1 e p.2)
      ];
}

pub nothing_lawful : {A : Type 0} (a : A) → Lawful (nothing_more a)
nothing_lawful {A = A} a = record {
  takes = λ s x e. let same = ok_is {F = Fault} (a, s) x e in subst (λ (y : A × State). (y.1 ≡ s) × (y.0 ≡ a)) same (refl, refl);
  again = λ s t v fits r. rw (r, fits) refl;
  stops = λ s e h. absurd (ok_err (a, s) e h);
}

-- the case that the context says
pub shape_lawful : {T V : Type 0} (wanted : Context → T) (tag_of : V → T) (body : T → Format V) → ((k : T) → Lawful (body k)) → ((k : T) (c : Context) (v : V) → (body k).fits c v → tag_of v ≡ k) → Lawful (by_shape wanted tag_of body)
shape_lawful {T = T} {V = V} wanted tag_of body lb only = record {
  takes = λ s x e.
      let k : T = wanted s.context in
      let h = (lb k).takes s x e in
      let same = only k s.context x.0 h.1 in
      (subst (λ (j : T). Reads s ((body j).items x.0) x.1) (sym same) h.0, (same, subst (λ (j : T). (body j).fits s.context x.0) (sym same) h.1));
  again = λ s t v fits r.
      subst (λ (j : T). (body j).read s ≡ Ok (v, t)) fits.0 ((lb (tag_of v)).again s t v fits.1 r);
  stops = λ s e h. (lb (wanted s.context)).stops s e h;
}

-- one of two formats
pub either_lawful : {V : Type 0} (b : Bool) (f g : Format V) → Lawful f → Lawful g → Lawful (choose b f g)
either_lawful true f g lf lg = lf
either_lawful false f g lf lg = lg

times_takes : {A : Type 0} (f : Format A) → Lawful f → (n : ℕ) (s : State) (x : List A × State) → times f n s ≡ Ok x → Reads s (flat_map f.items x.0) x.1 × AllByRecursion (f.fits s.context) x.0 × (length x.0 ≡ n)
unfolding times
times_takes {A = A} f lf zero s x e = subst (λ (y : List A × State). Reads s (flat_map f.items y.0) y.1 × AllByRecursion (f.fits s.context) y.0 × (length y.0 ≡ 0)) (ok_is {F = Fault} ([], s) x e) (refl, tt, refl)
times_takes {A = A} f lf (suc n) s x e =
    let a = bind_ok (f.read s) (λ a. times f n a.1 >>= λ others. Ok (a.0 ∷ others.0, others.1)) x e in
    let b = bind_ok (times f n a.0.1) (λ others. Ok (a.0.0 ∷ others.0, others.1)) x a.2 in
    let first = lf.takes s a.0 a.1 in
    let rest = times_takes f lf n a.0.1 b.0 b.1 in
    let fits = subst (λ (c : Context). AllByRecursion (f.fits c) b.0.0) (keeps (f.items a.0.0) s a.0.1 first.0) rest.1 in
    let both = reads_then (f.items a.0.0) (flat_map f.items b.0.0) s a.0.1 b.0.1 first.0 rest.0 in
    subst (λ (y : List A × State). Reads s (flat_map f.items y.0) y.1 × AllByRecursion (f.fits s.context) y.0 × (length y.0 ≡ suc n)) (ok_is {F = Fault} (a.0.0 ∷ b.0.0, b.0.1) x b.2) (rw flat_map-cons both, (first.1, fits), ap suc rest.2)

times_again : {A : Type 0} (f : Format A) → Lawful f → (xs : List A) (s t : State) → AllByRecursion (f.fits s.context) xs → Reads s (flat_map f.items xs) t → times f (length xs) s ≡ Ok (xs, t)
unfolding times
times_again f lf [] s t fits r = rw (sym r) refl
times_again f lf (x ∷ xs) s t fits r =
    let p = reads_parts (f.items x) (flat_map f.items xs) s t (subst (λ (is : List Item). Reads s is t) (flat_map-cons f.items x xs) r) in
    let first = lf.again s p.0 x fits.0 p.1 in
    let rest = times_again f lf xs p.0 t (subst (λ (c : Context). AllByRecursion (f.fits c) xs) (sym (keeps (f.items x) s p.0 p.1)) fits.1) p.2 in
    rw (first, rest) refl

times_stops : {A : Type 0} (f : Format A) → Lawful f → (n : ℕ) (s : State) (e : Fault) → times f n s ≡ Err e → Stopped s e
unfolding times
times_stops {A = A} f lf zero s e h = absurd (ok_err ([], s) e h)
times_stops {A = A} f lf (suc n) s e h =
    elim (bind_err (f.read s) (λ a. times f n a.1 >>= λ others. Ok (a.0 ∷ others.0, others.1)) e h) [
      | inl p ↦ lf.stops s e p
      | inr p ↦ stopped_after (f.items p.0.0) s p.0.1 e (lf.takes s p.0 p.1).0 (times_stops f lf n p.0.1 e (map_err (times f n p.0.1) (λ others. (p.0.0 ∷ others.0, others.1)) e p.2))
    ]

pub times_lawful : {A : Type 0} (count : Context → ℕ) (f : Format A) → Lawful f → Lawful (times_of count f)
times_lawful {A = A} count f lf = record {
  takes = λ s x e. let h = times_takes f lf (count s.context) s x e in (h.0, (h.2, h.1));
  again = λ s t xs fits r. subst (λ (n : ℕ). times f n s ≡ Ok (xs, t)) fits.0 (times_again f lf xs s t fits.1 r);
  stops = λ s e h. times_stops f lf (count s.context) s e h;
}

-- a count, and then what it says
count_stops : {A : Type 0} (s : State) (then_ : ℕ → State → Result (A × State) Fault) → ((n : ℕ) (t : State) (e : Fault) → then_ n t ≡ Err e → Stopped t e) → (e : Fault) → (uint_in s >>= λ n. then_ n.0 n.1) ≡ Err e → Stopped s e
count_stops s then_ rest e h =
    elim (bind_err (uint_in s) (λ n. then_ n.0 n.1) e h) [
      | inl p ↦ stopped_here s e (field_stops s (uint_at s.rest) e p)
      | inr p ↦ stopped_after (UInt p.0.0 ∷ []) s p.0.1 e (p.0.1, p.1, refl) (rest p.0.0 p.0.1 e p.2)
    ]

pub counted_lawful : {A : Type 0} (f : Format A) → Lawful f → Lawful (counted f)
counted_lawful {A = A} f lf = record {
  takes = λ s x e.
      let a = bind_ok (uint_in s) (λ n. times f n.0 n.1) x e in
      let first : Reads s (UInt a.0.0 ∷ []) a.0.1 = (a.0.1, a.1, refl) in
      let rest = times_takes f lf a.0.0 a.0.1 x a.2 in
      let fits = subst (λ (c : Context). AllByRecursion (f.fits c) x.0) (keeps (UInt a.0.0 ∷ []) s a.0.1 first) rest.1 in
      let both = reads_then (UInt a.0.0 ∷ []) (flat_map f.items x.0) s a.0.1 x.1 first rest.0 in
      (subst (λ (n : ℕ). Reads s (UInt n ∷ flat_map f.items x.0) x.1) (sym rest.2) both, fits);
  again = λ s t xs fits r.
      let rest = times_again f lf xs r.0 t (subst (λ (c : Context). AllByRecursion (f.fits c) xs) (sym (keeps (UInt (length xs) ∷ []) s r.0 (r.0, r.1, refl))) fits) r.2 in
      rw (r.1, rest) refl;
  stops = λ s e h. count_stops s (times f) (times_stops f lf) e h;
}

-- each by the one before it
by_takes : {A : Type 0} (f : Option A → Format A) → ((before : Option A) → Lawful (f before)) → (n : ℕ) (before : Option A) (s : State) (x : List A × State) → times_by f before n s ≡ Ok x
    → Reads s (items_by f before x.0) x.1 × fits_by f s.context before x.0 × (length x.0 ≡ n)
unfolding times_by
by_takes {A = A} f lf zero before s x e = subst (λ (y : List A × State). Reads s (items_by f before y.0) y.1 × fits_by f s.context before y.0 × (length y.0 ≡ 0)) (ok_is {F = Fault} ([], s) x e) (refl, tt, refl)
by_takes {A = A} f lf (suc n) before s x e =
    let a = bind_ok ((f before).read s) (λ a. times_by f (Some a.0) n a.1 >>= λ others. Ok (a.0 ∷ others.0, others.1)) x e in
    let b = bind_ok (times_by f (Some a.0.0) n a.0.1) (λ others. Ok (a.0.0 ∷ others.0, others.1)) x a.2 in
    let first = (lf before).takes s a.0 a.1 in
    let rest = by_takes f lf n (Some a.0.0) a.0.1 b.0 b.1 in
    let fits = subst (λ (c : Context). fits_by f c (Some a.0.0) b.0.0) (keeps ((f before).items a.0.0) s a.0.1 first.0) rest.1 in
    let both = reads_then ((f before).items a.0.0) (items_by f (Some a.0.0) b.0.0) s a.0.1 b.0.1 first.0 rest.0 in
    subst (λ (y : List A × State). Reads s (items_by f before y.0) y.1 × fits_by f s.context before y.0 × (length y.0 ≡ suc n)) (ok_is {F = Fault} (a.0.0 ∷ b.0.0, b.0.1) x b.2) (both, (first.1, fits), ap suc rest.2)

by_again : {A : Type 0} (f : Option A → Format A) → ((before : Option A) → Lawful (f before)) → (xs : List A) (before : Option A) (s t : State) → fits_by f s.context before xs → Reads s (items_by f before xs) t → times_by f before (length xs) s ≡ Ok (xs, t)
unfolding times_by
by_again f lf [] before s t fits r = rw (sym r) refl
by_again f lf (x ∷ xs) before s t fits r =
    let p = reads_parts ((f before).items x) (items_by f (Some x) xs) s t r in
    let first = (lf before).again s p.0 x fits.0 p.1 in
    let rest = by_again f lf xs (Some x) p.0 t (subst (λ (c : Context). fits_by f c (Some x) xs) (sym (keeps ((f before).items x) s p.0 p.1)) fits.1) p.2 in
    rw (first, rest) refl

by_stops : {A : Type 0} (f : Option A → Format A) → ((before : Option A) → Lawful (f before)) → (n : ℕ) (before : Option A) (s : State) (e : Fault) → times_by f before n s ≡ Err e → Stopped s e
unfolding times_by
by_stops {A = A} f lf zero before s e h = absurd (ok_err ([], s) e h)
by_stops {A = A} f lf (suc n) before s e h =
    elim (bind_err ((f before).read s) (λ a. times_by f (Some a.0) n a.1 >>= λ others. Ok (a.0 ∷ others.0, others.1)) e h) [
      | inl p ↦ (lf before).stops s e p
      | inr p ↦ stopped_after ((f before).items p.0.0) s p.0.1 e ((lf before).takes s p.0 p.1).0 (by_stops f lf n (Some p.0.0) p.0.1 e (map_err (times_by f (Some p.0.0) n p.0.1) (λ others. (p.0.0 ∷ others.0, others.1)) e p.2))
    ]

pub counted_by_lawful : {A : Type 0} (f : Option A → Format A) → ((before : Option A) → Lawful (f before)) → Lawful (counted_by f)
counted_by_lawful {A = A} f lf = record {
  takes = λ s x e.
      let a = bind_ok (uint_in s) (λ n. times_by f None n.0 n.1) x e in
      let first : Reads s (UInt a.0.0 ∷ []) a.0.1 = (a.0.1, a.1, refl) in
      let rest = by_takes f lf a.0.0 None a.0.1 x a.2 in
      let fits = subst (λ (c : Context). fits_by f c None x.0) (keeps (UInt a.0.0 ∷ []) s a.0.1 first) rest.1 in
      let both = reads_then (UInt a.0.0 ∷ []) (items_by f None x.0) s a.0.1 x.1 first rest.0 in
      (subst (λ (n : ℕ). Reads s (UInt n ∷ items_by f None x.0) x.1) (sym rest.2) both, fits);
  again = λ s t xs fits r.
      let rest = by_again f lf xs None r.0 t (subst (λ (c : Context). fits_by f c None xs) (sym (keeps (UInt (length xs) ∷ []) s r.0 (r.0, r.1, refl))) fits) r.2 in
      rw (r.1, rest) refl;
  stops = λ s e h. count_stops s (λ n t. times_by f None n t) (λ n t d g. by_stops f lf n None t d g) e h;
}

there_again : {A B : Type 0} (g : Format B) → Lawful g → (b : Bool) (a : A) (s t : State) (o : Option B) → there b g s.context o → Reads s (opt_items g o) t → cond b (◌>>=◌ {B = (A × Option B) × State} (g.read s) (λ x. Ok ((a, Some x.0), x.1))) (Ok ((a, None), s)) ≡ Ok ((a, o), t)
there_again g lg true a s t None h r = absurd h
there_again g lg true a s t (Some x) h r = rw (lg.again s t x h r) refl
there_again g lg false a s t None h r = rw (sym r) refl
there_again g lg false a s t (Some x) h r = absurd h

there_takes : {A B : Type 0} (g : Format B) → Lawful g → (b : Bool) (a : A) (s : State) (x : (A × Option B) × State) → cond b (g.read s >>= λ y. Ok ((a, Some y.0), y.1)) (Ok ((a, None), s)) ≡ Ok x → (a ≡ x.0.0) × Reads s (opt_items g x.0.1) x.1 × there b g s.context x.0.1
there_takes {A = A} {B = B} g lg true a s x e =
    let p = bind_ok (g.read s) (λ y. Ok ((a, Some y.0), y.1)) x e in
    let h = lg.takes s p.0 p.1 in
    subst (λ (y : (A × Option B) × State). (a ≡ y.0.0) × Reads s (opt_items g y.0.1) y.1 × there true g s.context y.0.1) (ok_is {F = Fault} ((a, Some p.0.0), p.0.1) x p.2) (refl, h.0, h.1)
there_takes {A = A} {B = B} g lg false a s x e =
    subst (λ (y : (A × Option B) × State). (a ≡ y.0.0) × Reads s (opt_items g y.0.1) y.1 × there false g s.context y.0.1) (ok_is {F = Fault} ((a, None), s) x e) (refl, refl, tt)

there_stops : {A B : Type 0} (g : Format B) → Lawful g → (b : Bool) (a : A) (s : State) (e : Fault) → cond b (◌>>=◌ {B = (A × Option B) × State} (g.read s) (λ x. Ok ((a, Some x.0), x.1))) (Ok ((a, None), s)) ≡ Err e → Stopped s e
there_stops {A = A} {B = B} g lg true a s e h = lg.stops s e (map_err {B = (A × Option B) × State} (g.read s) (λ x. ((a, Some x.0), x.1)) e h)
there_stops {A = A} {B = B} g lg false a s e h = absurd (ok_err {A = (A × Option B) × State} ((a, None), s) e h)

pub option_lawful : {A B : Type 0} (f : Format A) (asks : Context → A → Bool) (g : Format B) → Lawful f → Lawful g → Lawful (with_option f asks g)
option_lawful {A = A} {B = B} f asks g lf lg = record {
  takes = λ s x e.
      let a = bind_ok (f.read s) (λ a. cond (asks s.context a.0) (g.read a.1 >>= λ b. Ok ((a.0, Some b.0), b.1)) (Ok ((a.0, None), a.1))) x e in
      let first = lf.takes s a.0 a.1 in
      let second = there_takes g lg (asks s.context a.0.0) a.0.0 a.0.1 x a.2 in
      let fits = subst (λ (c : Context). there (asks s.context a.0.0) g c x.0.1) (keeps (f.items a.0.0) s a.0.1 first.0) second.2 in
      let both = reads_then (f.items a.0.0) (opt_items g x.0.1) s a.0.1 x.1 first.0 second.1 in
      subst (λ (y : A). Reads s (f.items y ++ opt_items g x.0.1) x.1 × (f.fits s.context y × there (asks s.context y) g s.context x.0.1)) second.0 (both, (first.1, fits));
  again = λ s t x fits r.
      let p = reads_parts (f.items x.0) (opt_items g x.1) s t r in
      let first = lf.again s p.0 x.0 fits.0 p.1 in
      let second = there_again g lg (asks s.context x.0) x.0 p.0 t x.1 (subst (λ (c : Context). there (asks s.context x.0) g c x.1) (sym (keeps (f.items x.0) s p.0 p.1)) fits.1) p.2 in
      rw first second;
  stops = λ s e h.
      elim (bind_err (f.read s) (λ a. cond (asks s.context a.0) (g.read a.1 >>= λ b. Ok ((a.0, Some b.0), b.1)) (Ok ((a.0, None), a.1))) e h) [
        | inl p ↦ lf.stops s e p
        | inr p ↦ stopped_after (f.items p.0.0) s p.0.1 e (lf.takes s p.0 p.1).0 (there_stops g lg (asks s.context p.0.0) p.0.0 p.0.1 e p.2)
      ];
}

pub no_lawful : {V : Type 0} → Lawful (no_format {V = V})
no_lawful {V = V} = record {
  takes = λ s x e. absurd cc;
  again = λ s t a fits r. absurd fits;
  stops = λ s e h. stopped_here s e (ap (λ (x : Fault). x.offset) (sym (err_is {A = V × State} (fault s.place BadCode) e h)));
}

-- which case fits
pub case_only : {V : Type 0} (code_of : V → ℕ) (k n : ℕ) (f g : Format V) (c : Context) (v : V) → (choose (nat_eq k n) f g).fits c v → (f.fits c v → code_of v ≡ n) → (g.fits c v → code_of v ≡ k) → code_of v ≡ k
case_only code_of k n f g c v h first other = at (nat_eq k n) refl h
  where
    at : (b : Bool) → nat_eq k n ≡ b → (choose b f g).fits c v → code_of v ≡ k
    at true e h = first h ∙ sym (eqb-true k n e)
    at false e h = other h

pub variant_code : {A V : Type 0} (to : A → V) (from : V → Option A) (f : Format A) (code_of : V → ℕ) (n : ℕ) (c : Context) (v : V) → opt_fits f c (from v) → ((v : V) (a : A) → from v ≡ Some a → to a ≡ v) → ((a : A) → code_of (to a) ≡ n) → code_of v ≡ n
variant_code {A = A} {V = V} to from f code_of n c v h forth is = at (from v) refl h
  where
    at : (o : Option A) → from v ≡ o → opt_fits f c o → code_of v ≡ n
    at None e h = absurd h
    at (Some a) e h = ap code_of (sym (forth v a e)) ∙ is a
