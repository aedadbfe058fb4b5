-- The loops over a list of fields.
use Rattle.std.proofs.Common.{◌≡◌, ℕ, suc, ◌+◌, ◌-◌, ◌<◌, ◌≤◌, List, [], ◌∷◌, ◌++◌, Result, Ok, Err, refl, sym, ap, ◌∙◌, append_assoc, arith, take, length, get_or}
use Rattle.std.specs.List.{flat_map}
use Rattle.std.proofs.lemmas.List.{append-nil, take_more}
use Rattle.std.proofs.lemmas.List.Concat.{flat_map-cons, flat_map-append}
use Rattle.ui_frame.specs.Reading.{◌>>=◌}
use Rattle.ui_strpos.specs.declared.fault.ElementFault.{ElementFault}
use Rattle.ui_strpos.specs.declared.fault.ElementFault.TheVariants as faults
use Rattle.ui_strpos.specs.Items.{Item, Written, written}
use Rattle.ui_strpos.specs.Writing.{written_append}
use Rattle.ui_strpos.specs.Reading.{State, Fault, Fails}
use Rattle.ui_strpos.specs.Format.{Format, times}

abbrev pub with_front : {A : Type 0} → List A → Result (List A × State) Fault → Result (List A × State) Fault
with_front front (Ok x) = Ok (front ++ x.0, x.1)
with_front front (Err e) = Err e

pub regroup : {A : Type 0} (front : List A) (a : A) (r : Result (List A × State) Fault) → with_front front (r >>= λ others. Ok (a ∷ others.0, others.1)) ≡ with_front (front ++ a ∷ []) r
regroup {A = A} front a (Ok x) = ap (λ (xs : List A). Ok (xs, x.1)) (sym (append_assoc front (a ∷ []) x.0))
regroup front a (Err e) = refl

pub step : {A : Type 0} (f : Format A) (front : List A) (count i : ℕ) (s t : State) (a : A) (total : Result (List A × State) Fault) → i < count → f.read s ≡ Ok (a, t)
    → with_front front (times f (count - i) s) ≡ total → with_front (front ++ a ∷ []) (times f (count - (i + 1)) t) ≡ total
unfolding times
step f front count i s t a total lt e so_far =
    let k : count - i ≡ suc (count - (i + 1)) = omega arith in
    let one : with_front front (times f (count - i) s) ≡ with_front (front ++ a ∷ []) (times f (count - (i + 1)) t) = rw (k, e) (regroup front a (times f (count - (i + 1)) t)) in
    sym one ∙ so_far

pub ends : {A : Type 0} (f : Format A) (e : ElementFault) (front : List A) (count i : ℕ) (s : State) (total : Result (List A × State) Fault) → i < count → Fails e (f.read s)
    → with_front front (times f (count - i) s) ≡ total → Fails e total
unfolding times
ends f faults.NoMemory front count i s total lt h so_far = tt
ends f (faults.Bad o c) front count i s total lt h so_far =
    let k : count - i ≡ suc (count - (i + 1)) = omega arith in
    sym so_far ∙ rw (k, h) refl

pub is_done : {A : Type 0} (f : Format A) (front : List A) (count i : ℕ) (s : State) (total : Result (List A × State) Fault) → count ≤ i → with_front front (times f (count - i) s) ≡ total → total ≡ Ok (front, s)
unfolding times
is_done {A = A} f front count i s total le so_far =
    let k : count - i ≡ 0 = omega arith in
    sym so_far ∙ rw k (ap (λ (xs : List A). Ok (xs, s)) (append-nil front))

pub put_step : {A : Type 0} (f : Format A) (w : Written) (xs : List A) (i : ℕ) (a : A) → i < length xs → a ≡ get_or xs i a → written (written w (flat_map f.items (take i xs))) (f.items a) ≡ written w (flat_map f.items (take (i + 1) xs))
put_step {A = A} f w xs i a lt is =
    let front : take (i + 1) xs ≡ take i xs ++ a ∷ [] = take_more xs i a lt ∙ ap (λ (x : A). take i xs ++ x ∷ []) (sym is) in
    let all : flat_map f.items (take (i + 1) xs) ≡ flat_map f.items (take i xs) ++ f.items a =
    ap (flat_map f.items) front ∙ flat_map-append f.items (take i xs) (a ∷ []) ∙ ap (λ (ys : List Item). flat_map f.items (take i xs) ++ ys) (flat_map-cons f.items a [] ∙ append-nil (f.items a)) in
    sym (written_append (flat_map f.items (take i xs)) (f.items a) w) ∙ ap (written w) (sym all)
