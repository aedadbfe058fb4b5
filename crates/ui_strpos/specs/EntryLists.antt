-- The loops over a list of entries, each by the one before it.
use Rattle.std.proofs.Common.{◌≡◌, ℕ, suc, ◌+◌, ◌-◌, ◌<◌, ◌≤◌, List, [], ◌∷◌, ◌++◌, Option, Some, None, Result, Ok, refl, sym, ap, subst, ◌∙◌, append_assoc, arith, take, length, get_or}
use Rattle.std.specs.Prelude.{slice_get, IfSome}
use Rattle.std.proofs.lemmas.List.{append-nil, take_more, length-append}
use Rattle.ui_strpos.specs.declared.fault.ElementFault.{ElementFault}
use Rattle.ui_strpos.specs.declared.fault.ElementFault.TheVariants as faults
use Rattle.ui_strpos.specs.Items.{Item, Written, written}
use Rattle.ui_strpos.specs.Writing.{written_append}
use Rattle.ui_strpos.specs.Reading.{Context, State, Fault, Fails}
use Rattle.ui_strpos.specs.Format.{Format, times_by, items_by}
use Rattle.ui_strpos.specs.Lists.{with_front, regroup}

-- the last entry so far
abbrev pub last_of : {A : Type 0} → List A → Option A
last_of xs = slice_get xs (length xs - 1)

get_seam : {A : Type 0} (xs : List A) (a : A) → slice_get (xs ++ a ∷ []) (length xs) ≡ Some a
get_seam [] a = refl
get_seam (x ∷ xs) a = get_seam xs a

pub last_push : {A : Type 0} (xs : List A) (a : A) → last_of (xs ++ a ∷ []) ≡ Some a
last_push xs a = ap (slice_get (xs ++ a ∷ [])) (omega (arith, length-append xs (a ∷ []))) ∙ get_seam xs a

pub step : {A : Type 0} (f : Option A → Format A) (front : List A) (count i : ℕ) (s t : State) (a : A) (total : Result (List A × State) Fault) → i < count → (f (last_of front)).read s ≡ Ok (a, t)
    → with_front front (times_by f (last_of front) (count - i) s) ≡ total → with_front (front ++ a ∷ []) (times_by f (last_of (front ++ a ∷ [])) (count - (i + 1)) t) ≡ total
unfolding times_by
step f front count i s t a total lt e so_far =
    let k : count - i ≡ suc (count - (i + 1)) = omega arith in
    let one : with_front front (times_by f (last_of front) (count - i) s) ≡ with_front (front ++ a ∷ []) (times_by f (Some a) (count - (i + 1)) t) = rw (k, e) (regroup front a (times_by f (Some a) (count - (i + 1)) t)) in
    rw (last_push front a) (sym one ∙ so_far)

pub ends : {A : Type 0} (f : Option A → Format A) (e : ElementFault) (front : List A) (count i : ℕ) (s : State) (total : Result (List A × State) Fault) → i < count → Fails e ((f (last_of front)).read s)
    → with_front front (times_by f (last_of front) (count - i) s) ≡ total → Fails e total
unfolding times_by
ends f faults.NoMemory front count i s total lt h so_far = tt
ends f (faults.Bad o c) front count i s total lt h so_far =
    let k : count - i ≡ suc (count - (i + 1)) = omega arith in
    sym so_far ∙ rw (k, h) refl

pub is_done : {A : Type 0} (f : Option A → Format A) (front : List A) (count i : ℕ) (s : State) (total : Result (List A × State) Fault) → count ≤ i → with_front front (times_by f (last_of front) (count - i) s) ≡ total → total ≡ Ok (front, s)
unfolding times_by
is_done {A = A} f front count i s total le so_far =
    let k : count - i ≡ 0 = omega arith in
    sym so_far ∙ rw k (ap (λ (xs : List A). Ok (xs, s)) (append-nil front))

-- what is known of the last entry
pub known_push : {A : Type 0} (known : Context → A → Type 0) (c d : Context) (xs : List A) (a : A) → known c a → c ≡ d → IfSome (last_of (xs ++ a ∷ [])) (known d)
known_push {A = A} known c d xs a h e = rw (last_push xs a) (subst (λ (x : Context). known x a) e h)

-- the entry before those that follow
abbrev pub after_all : {A : Type 0} → Option A → List A → Option A
after_all before [] = before
after_all before (x ∷ xs) = after_all (Some x) xs

pub items_push : {A : Type 0} (f : Option A → Format A) (before : Option A) (xs : List A) (a : A) → items_by f before (xs ++ a ∷ []) ≡ items_by f before xs ++ (f (after_all before xs)).items a
items_push f before [] a = append-nil ((f before).items a)
items_push f before (x ∷ xs) a = ap (λ (is : List Item). (f before).items x ++ is) (items_push f (Some x) xs a) ∙ sym (append_assoc ((f before).items x) (items_by f (Some x) xs) ((f (after_all (Some x) xs)).items a))

pub put_step : {A : Type 0} (f : Option A → Format A) (w new : Written) (xs : List A) (i : ℕ) (a : A) → i < length xs → a ≡ get_or xs i a
    → ((before : Option A) → new ≡ written (written w (items_by f None (take i xs))) ((f before).items a)) → new ≡ written w (items_by f None (take (i + 1) xs))
put_step {A = A} f w new xs i a lt is h =
    let front : List A = take i xs in
    let last : Option A = after_all None front in
    let more : take (i + 1) xs ≡ front ++ a ∷ [] = take_more xs i a lt ∙ ap (λ (x : A). front ++ x ∷ []) (sym is) in
    h last ∙ sym (written_append (items_by f None front) ((f last).items a) w) ∙ ap (written w) (sym (ap (items_by f None) more ∙ items_push f None front a))
