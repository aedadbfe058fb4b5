-- Sections and containers that grow by an element.
use Rattle.std.proofs.Common.{◌≡◌, ℕ, zero, suc, ◌+◌, ◌-◌, ◌<◌, ◌≤◌, true, List, [], ◌∷◌, ◌++◌, length, map, take, drop, get_or, set, refl, sym, ap, ◌∙◌, append_assoc, arith}
use Rattle.std.proofs.lemmas.Bool.{and_from, and_parts, le-leb, leb-true}
use Rattle.std.proofs.lemmas.List.{drop-append-le, drop_at, get_or_default, length-append, length-drop, length-set, take-append-le, take_all}
use Rattle.std.proofs.lemmas.List.Concat.{flat_map-append}
use Rattle.std.specs.Prelude.{slice_range, nat_le}
use Rattle.ui_frame.specs.Container.{joined, running, word, words}
use Rattle.ui_frame.specs.Opening.{ascends, cut, last_from}
use Rattle.ui_frame.proofs.Pieces.{joined-cut, last_from-le}

-- ---- one more piece

pub ascends-push : (low : ℕ) (ns : List ℕ) (n : ℕ) → ascends low ns ≡ true → last_from low ns ≤ n → ascends low (ns ++ n ∷ []) ≡ true
ascends-push low [] n up h = and_from _ _ (le-leb low n h) refl
ascends-push low (m ∷ ms) n up h =
    let parts = and_parts (nat_le low m) (ascends m ms) up in
    and_from _ _ parts.0 (ascends-push m ms n parts.1 h)

pub last_from-push : (low : ℕ) (ns : List ℕ) (n : ℕ) → last_from low (ns ++ n ∷ []) ≡ n
last_from-push low [] n = refl
last_from-push low (m ∷ ms) n = last_from-push m ms n

range-append : {X : Type 0} (xs ys : List X) (start end : ℕ) → start ≤ end → end ≤ length xs → slice_range (xs ++ ys) start end ≡ slice_range xs start end
range-append xs ys start end h k =
    let short : start ≤ length xs = omega arith in
    let within : end - start ≤ length (drop start xs) = omega (arith, length-drop start xs) in
    ap (take (end - start)) (drop-append-le start xs ys short) ∙ take-append-le (end - start) (drop start xs) ys within

pub cut-push : {X : Type 0} (start : ℕ) (ends : List ℕ) (xs ys : List X) → ascends start ends ≡ true → last_from start ends ≡ length xs → cut start (ends ++ (length xs + length ys) ∷ []) (xs ++ ys) ≡ cut start ends xs ++ ys ∷ []
cut-push start [] xs ys up last =
    let width : length xs + length ys - start ≡ length ys = omega arith in
    rw (width, drop_at xs ys start (sym last), take_all (length ys) ys (omega arith)) refl
cut-push start (end ∷ ends) xs ys up last =
    let parts = and_parts (nat_le start end) (ascends end ends) up in
    let first : start ≤ end = leb-true start end parts.0 in
    let above = last_from-le end ends parts.1 in
    rw (range-append xs ys start end first (omega arith), cut-push end ends xs ys parts.1 last) refl

pub joined-whole : {X : Type 0} (ends : List ℕ) (xs : List X) → ascends 0 ends ≡ true → last_from 0 ends ≡ length xs → joined (cut 0 ends xs) ≡ xs
joined-whole ends xs up last = joined-cut 0 ends xs up ∙ take_all _ xs (omega arith)

-- ---- running sums, counted on from another start

pub get_or-le-last : (low : ℕ) (ns : List ℕ) (k : ℕ) → ascends low ns ≡ true → k < length ns → get_or ns k 0 ≤ last_from low ns
get_or-le-last low [] k up h = absurd (omega arith)
get_or-le-last low (n ∷ ns) zero up h = last_from-le n ns (and_parts (nat_le low n) (ascends n ns) up).1
get_or-le-last low (n ∷ ns) (suc k) up h = get_or-le-last n ns k (and_parts (nat_le low n) (ascends n ns) up).1 (omega arith)

pub map-running : (start before : ℕ) (ns : List ℕ) → map (λ n. start + n) (running before ns) ≡ running (start + before) ns
map-running start before [] = refl
map-running start before (n ∷ ns) =
    let place : start + (before + n) ≡ start + before + n = omega arith in
    rw (map-running start (before + n) ns, place) refl

pub running-append : {X : Type 0} (before : ℕ) (xss yss : List (List X)) → running before (map length (xss ++ yss)) ≡ running before (map length xss) ++ running (before + length (joined xss)) (map length yss)
running-append before [] yss = let none : before + 0 ≡ before = omega arith in rw none refl
running-append {X = X} before (x ∷ xss) yss =
    let place : before + length (x ++ joined xss) ≡ before + length x + length (joined xss) = omega (arith, length-append x (joined xss)) in
    rw (running-append (before + length x) xss yss, place) refl

-- ---- a list of lists in which one grows

pub joined-set : {X : Type 0} (xss : List (List X)) (k : ℕ) (ys : List X) → k < length xss → joined (set xss k (get_or xss k [] ++ ys)) ≡ (joined (take k xss) ++ get_or xss k []) ++ (ys ++ joined (drop (suc k) xss))
joined-set [] k ys h = absurd (omega arith)
joined-set (x ∷ xss) zero ys h = append_assoc x ys (joined xss)
joined-set {X = X} (x ∷ xss) (suc k) ys h =
    ap (λ (zs : List X). x ++ zs) (joined-set xss k ys (omega arith)) ∙ simp append_assoc

pub joined-split : {X : Type 0} (xss : List (List X)) (k : ℕ) → k < length xss → joined xss ≡ (joined (take k xss) ++ get_or xss k []) ++ joined (drop (suc k) xss)
joined-split [] k h = absurd (omega arith)
joined-split (x ∷ xss) zero h = refl
joined-split {X = X} (x ∷ xss) (suc k) h =
    ap (λ (zs : List X). x ++ zs) (joined-split xss k (omega arith)) ∙ simp append_assoc

-- the ends of more elements, counted on from those before
pub ends-step : (out : List ℕ) (start : ℕ) (xs rest : List (List ℕ)) → (out ++ words (running start (map length xs))) ++ words (running (start + length (joined xs)) (map length rest)) ≡ out ++ words (running start (map length (xs ++ rest)))
ends-step out start xs rest =
    let more : List ℕ = running (start + length (joined xs)) (map length rest) in
    append_assoc out (words (running start (map length xs))) (words more)
    ∙ ap (λ (ws : List ℕ). out ++ ws) (sym (flat_map-append word (running start (map length xs)) more))
    ∙ ap (λ (ns : List ℕ). out ++ words ns) (sym (running-append start xs rest))

-- ---- a container in which one section grows by an element

pub record Grown {X : Type 0} (old new : List (List (List X))) (piece : List X) : Type 0 where
  pub sections : length new ≡ length old
  pub elements_is : length (joined new) ≡ length (joined old) + 1
  pub contents_is : length (joined (joined new)) ≡ length (joined (joined old)) + length piece

pub Grown-set : {X : Type 0} (parts : List (List (List X))) (k : ℕ) (section new : List (List X)) (piece : List X) → k < length parts → new ≡ get_or parts k section ++ piece ∷ [] → Grown parts (set parts k new) piece
Grown-set {X = X} parts k section new piece h e =
    let front : List (List X) = joined (take k parts) ++ get_or parts k [] in
    let back : List (List X) = joined (drop (suc k) parts) in
    let same : new ≡ get_or parts k [] ++ piece ∷ [] = e ∙ ap (λ (xs : List (List X)). xs ++ piece ∷ []) (get_or_default parts k section [] h) in
    let split : joined parts ≡ front ++ back = joined-split parts k h in
    let grown : joined (set parts k new) ≡ front ++ piece ∷ back = ap (λ (xs : List (List X)). joined (set parts k xs)) same ∙ joined-set parts k (piece ∷ []) h in
    let split_bytes = ap joined split ∙ flat_map-append (λ (xs : List X). xs) front back in
    let grown_bytes = ap joined grown ∙ flat_map-append (λ (xs : List X). xs) front (piece ∷ back) in
    record {
      sections = length-set parts k new;
      elements_is = omega (arith, ap length split, ap length grown, length-append front back, length-append front (piece ∷ back));
      contents_is = omega (arith, ap length split_bytes, ap length grown_bytes, length-append (joined front) (joined back), length-append (joined front) (piece ++ joined back), length-append piece (joined back));
    }

-- no section has more elements, nor more bytes, than the container
pub record IsWithin {X : Type 0} (section : List (List X)) (parts : List (List (List X))) : Type 0 where
  pub elements_le : length section ≤ length (joined parts)
  pub contents_le : length (joined section) ≤ length (joined (joined parts))

pub IsWithin-get_or : {X : Type 0} (parts : List (List (List X))) (k : ℕ) (section : List (List X)) → k < length parts → IsWithin (get_or parts k section) parts
IsWithin-get_or {X = X} parts k section h =
    let before : List (List X) = joined (take k parts) in
    let one : List (List X) = get_or parts k [] in
    let back : List (List X) = joined (drop (suc k) parts) in
    let split : joined parts ≡ (before ++ one) ++ back = joined-split parts k h in
    let bytes = ap joined split ∙ flat_map-append (λ (xs : List X). xs) (before ++ one) back ∙ ap (λ (xs : List X). xs ++ joined back) (flat_map-append (λ (xs : List X). xs) before one) in
    rw (get_or_default parts k section [] h) (record {
      elements_le = omega (arith, ap length split, length-append (before ++ one) back, length-append before one);
      contents_le = omega (arith, ap length bytes, length-append (joined before ++ joined one) (joined back), length-append (joined before) (joined one));
    })
