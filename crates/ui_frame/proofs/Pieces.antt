-- A list of lists against its joined items and its running ends.
use Rattle.std.proofs.Common.{◌≡◌, ℕ, zero, suc, ◌+◌, ◌-◌, ◌<◌, ◌≤◌, true, List, [], ◌∷◌, ◌++◌, length, map, drop, get_or, refl, sym, ap, ◌∙◌, append_assoc, arith}
use Rattle.std.proofs.lemmas.List.{drop-drop, drop_at, length-append, length-drop, length-map, length-take-le, take_at}
use Rattle.std.proofs.Math.Seq.{take-add}
use Rattle.std.proofs.lemmas.Bool.{and_from, and_parts, le-leb, leb-true}
use Rattle.std.specs.Prelude.{slice_range, nat_le}
use Rattle.ui_frame.specs.Container.{joined, running, ends_of}
use Rattle.ui_frame.specs.Opening.{ascends, cut, last_from}

-- ---- cutting by the running ends gives the pieces

length-pre : {X : Type 0} (pre x : List X) → length pre + length x ≡ length (pre ++ x)
length-pre pre x = sym (length-append pre x)

regroup : {X : Type 0} (pre x xs rest : List X) → pre ++ ((x ++ xs) ++ rest) ≡ (pre ++ x) ++ (xs ++ rest)
regroup pre x xs rest = simp append_assoc

piece : {X : Type 0} (pre x rest : List X) → slice_range (pre ++ (x ++ rest)) (length pre) (length pre + length x) ≡ x
piece pre x rest =
    let len : length pre + length x - length pre ≡ length x = omega arith in
    rw (len, drop_at pre (x ++ rest) (length pre) refl) (take_at x rest (length x) refl)

pub cut-running : {X : Type 0} (pre : List X) (xss : List (List X)) (rest : List X) → cut (length pre) (running (length pre) (map length xss)) (pre ++ (joined xss ++ rest)) ≡ xss
cut-running pre [] rest = refl
cut-running {X = X} pre (x ∷ xss) rest =
    let first : slice_range (pre ++ ((x ++ joined xss) ++ rest)) (length pre) (length pre + length x) ≡ x = rw append_assoc (piece pre x (joined xss ++ rest)) in
    let others : cut (length pre + length x) (running (length pre + length x) (map length xss)) (pre ++ ((x ++ joined xss) ++ rest)) ≡ xss = rw (regroup, length-pre pre x) (cut-running (pre ++ x) xss rest) in
    rw (first, others) refl

-- the pieces, from their joined items with more behind them
pub cut-ends_of : {X : Type 0} (xss : List (List X)) (rest : List X) → cut 0 (ends_of xss) (joined xss ++ rest) ≡ xss
cut-ends_of xss rest = cut-running [] xss rest

pub length-running : (before : ℕ) (ns : List ℕ) → length (running before ns) ≡ length ns
length-running before [] = refl
length-running before (n ∷ ns) = ap suc (length-running (before + n) ns)

pub ascends-running : (before : ℕ) (ns : List ℕ) → ascends before (running before ns) ≡ true
ascends-running before [] = refl
ascends-running before (n ∷ ns) = and_from _ _ (le-leb before (before + n) (omega arith)) (ascends-running (before + n) ns)

pub last_from-running : {X : Type 0} (before : ℕ) (xss : List (List X)) → last_from before (running before (map length xss)) ≡ before + length (joined xss)
last_from-running before [] = omega arith
last_from-running before (x ∷ xss) =
    let rest = last_from-running (before + length x) xss in
    omega (arith, rest, length-append x (joined xss))

-- ---- and the pieces that are cut have these ends

pub length-cut : {X : Type 0} (start : ℕ) (ends : List ℕ) (xs : List X) → length (cut start ends xs) ≡ length ends
length-cut start [] xs = refl
length-cut start (end ∷ ends) xs = ap suc (length-cut end ends xs)

pub last_from-le : (low : ℕ) (ns : List ℕ) → ascends low ns ≡ true → low ≤ last_from low ns
last_from-le low [] up = omega arith
last_from-le low (n ∷ ns) up =
    let parts = and_parts (nat_le low n) (ascends n ns) up in
    let first : low ≤ n = leb-true low n parts.0 in
    let rest = last_from-le n ns parts.1 in
    omega arith

length-range : {X : Type 0} (xs : List X) (start end : ℕ) → end ≤ length xs → length (slice_range xs start end) ≡ end - start
length-range xs start end fits = length-take-le (end - start) (drop start xs) (omega (arith, length-drop start xs))

pub running-cut : {X : Type 0} (start : ℕ) (ends : List ℕ) (xs : List X) → ascends start ends ≡ true → last_from start ends ≤ length xs → running start (map length (cut start ends xs)) ≡ ends
running-cut start [] xs up fits = refl
running-cut start (end ∷ ends) xs up fits =
    let parts = and_parts (nat_le start end) (ascends end ends) up in
    let first : start ≤ end = leb-true start end parts.0 in
    let above = last_from-le end ends parts.1 in
    let len = length-range xs start end (omega arith) in
    let place : start + length (slice_range xs start end) ≡ end = omega (arith, len) in
    rw place (ap (λ (es : List ℕ). end ∷ es) (running-cut end ends xs parts.1 fits))

range_more : {X : Type 0} (xs : List X) (start end last : ℕ) → start ≤ end → end ≤ last → slice_range xs start end ++ slice_range xs end last ≡ slice_range xs start last
range_more xs start end last h k =
    let whole : (end - start) + (last - end) ≡ last - start = omega arith in
    let place : start + (end - start) ≡ end = omega arith in
    let behind : drop (end - start) (drop start xs) ≡ drop end xs = drop-drop (end - start) start xs ∙ rw place refl in
    rw (← behind, ← whole) (sym (take-add (end - start) (last - end) (drop start xs)))

pub joined-cut : {X : Type 0} (start : ℕ) (ends : List ℕ) (xs : List X) → ascends start ends ≡ true → joined (cut start ends xs) ≡ slice_range xs start (last_from start ends)
joined-cut start [] xs up = let none : start - start ≡ 0 = omega arith in rw none refl
joined-cut start (end ∷ ends) xs up =
    let parts = and_parts (nat_le start end) (ascends end ends) up in
    let first : start ≤ end = leb-true start end parts.0 in
    let above = last_from-le end ends parts.1 in
    rw (joined-cut end ends xs parts.1) (range_more xs start end (last_from end ends) first above)

-- ---- one piece by its number

pub get_or-cut : {X : Type 0} (start : ℕ) (ends : List ℕ) (xs : List X) (k : ℕ) → k < length ends → get_or (cut start ends xs) k [] ≡ slice_range xs (get_or (start ∷ ends) k 0) (get_or ends k 0)
get_or-cut start [] xs k h = absurd (omega arith)
get_or-cut start (end ∷ ends) xs zero h = refl
get_or-cut start (end ∷ ends) xs (suc k) h = get_or-cut end ends xs k (omega arith)

pub piece_at : {X : Type 0} (xss : List (List X)) (rest : List X) (k : ℕ) → k < length xss → get_or xss k [] ≡ slice_range (joined xss ++ rest) (get_or (0 ∷ ends_of xss) k 0) (get_or (ends_of xss) k 0)
piece_at {X = X} xss rest k h =
    let within : k < length (ends_of xss) = omega (arith, length-running 0 (map length xss), length-map xss length) in
    ap (λ (yss : List (List X)). get_or yss k []) (sym (cut-ends_of xss rest)) ∙ get_or-cut 0 (ends_of xss) (joined xss ++ rest) k within

-- a piece fills what lies between the end before it and its own, which is within the items
pub at_running : {X : Type 0} (before : ℕ) (xss : List (List X)) (k : ℕ) → k < length xss → get_or (before ∷ running before (map length xss)) k 0 + length (get_or xss k []) ≡ get_or (running before (map length xss)) k 0
at_running before [] k h = absurd (omega arith)
at_running before (x ∷ xss) zero h = refl
at_running before (x ∷ xss) (suc k) h = at_running (before + length x) xss k (omega arith)

pub within_running : {X : Type 0} (before : ℕ) (xss : List (List X)) (k : ℕ) → k < length xss → get_or (running before (map length xss)) k 0 ≤ before + length (joined xss)
within_running before [] k h = absurd (omega arith)
within_running before (x ∷ xss) zero h = omega (arith, length-append x (joined xss))
within_running before (x ∷ xss) (suc k) h =
    let rest = within_running (before + length x) xss k (omega arith) in
    omega (arith, length-append x (joined xss))
