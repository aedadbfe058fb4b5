-- What is held of claims that are added one after another is what is held of all of them.
use Rattle.std.proofs.Common.{◌≡◌, ◌∙◌, sym, ap, refl, ℕ, Bool, true, false, cond, not, ◌||◌, List, [], ◌∷◌, map, filter, Option, Some, None, slice_get}
use Rattle.std.proofs.lemmas.Slice.Eq.{bytes_eq-Decides}
use Rattle.std.specs.Prelude.{bytes_eq}
use Rattle.std.specs.List.{list_any}
use Rattle.std.specs.Ordering.{nat_cmp}
use Rattle.std.specs.Cmp.Lexicographic.{slice_cmp, texts_ties, nat_list_cmp_total}
use Rattle.std.specs.FinMap.{get, empty, get-insert, get-empty, get-from_entries, same_map, slice_cmp-IsAntisymmetric, nat_cmp-IsAntisymmetric}
use Rattle.std.specs.FinMap.Entries.{find}
use Rattle.ui_exports.specs.Linked.{Below}
use Rattle.ui_below.specs.Claims.{Held, ByPath, about, held_of, held}
use Rattle.ui_below.specs.Holding.{merged, other_with, with_claim, with_claims}

same_text : (x y : List ℕ) → bytes_eq x y ≡ true → x ≡ y
same_text x y e = (bytes_eq-Decides x y).0 e

itself : (x : List ℕ) → bytes_eq x x ≡ true
itself x = (bytes_eq-Decides x x).1 refl

-- ---- one path

-- claims about one path, one after another
abbrev after : Option Held → List Below → Option Held
after o [] = o
after o (c ∷ cs) = after (Some (merged o c.print c.direct)) cs

abbrev or_else : {A : Type 0} → Option A → Option A → Option A
or_else (Some x) o = Some x
or_else None o = o

abbrev others : List ℕ → List Below → Option (List ℕ)
others first cs = slice_get (filter (λ p. not (bytes_eq first p)) (map (λ c. c.print) cs)) 0

abbrev grown : Held → List Below → Held
grown h cs = record { print = h.print; other = or_else h.other (others h.print cs); direct = h.direct || list_any (λ c. c.direct) cs }

no_other : {A : Type 0} (o : Option A) → o ≡ or_else o None
no_other (Some x) = refl
no_other None = refl

or_false : (b : Bool) → b ≡ b || false
or_false true = refl
or_false false = refl

or_assoc : (a b c : Bool) → (a || b) || c ≡ a || (b || c)
or_assoc true b c = refl
or_assoc false b c = refl

next_other : (first : List ℕ) (o : Option (List ℕ)) (p : List ℕ) (ps : List (List ℕ)) → or_else (other_with first o p) (slice_get ps 0) ≡ or_else o (slice_get (cond (not (bytes_eq first p)) (p ∷ ps) ps) 0)
next_other first (Some x) p ps = refl
next_other first None p ps = elim (bytes_eq first p) as (λ b. or_else (cond b None (Some p)) (slice_get ps 0) ≡ slice_get (cond (not b) (p ∷ ps) ps) 0) [ true ↦ refl | false ↦ refl ]

grows : (h : Held) (cs : List Below) → after (Some h) cs ≡ Some (grown h cs)
grows h [] =
    ap (λ o. Some (record { print = h.print; other = o; direct = h.direct })) (no_other h.other)
    ∙ ap (λ d. Some (record { print = h.print; other = or_else h.other None; direct = d })) (or_false h.direct)
grows h (c ∷ cs) =
    grows (merged (Some h) c.print c.direct) cs
    ∙ ap (λ o. Some (record { print = h.print; other = o; direct = (h.direct || c.direct) || list_any (λ x. x.direct) cs })) (next_other h.print h.other c.print (filter (λ p. not (bytes_eq h.print p)) (map (λ x. x.print) cs)))
    ∙ ap (λ d. Some (record { print = h.print; other = or_else h.other (others h.print (c ∷ cs)); direct = d })) (or_assoc h.direct c.direct (list_any (λ x. x.direct) cs))

first_dropped : (c : Below) (cs : List Below) → others c.print cs ≡ others c.print (c ∷ cs)
first_dropped c cs = ap (λ b. slice_get (cond (not b) (c.print ∷ filter (λ p. not (bytes_eq c.print p)) (map (λ x. x.print) cs)) (filter (λ p. not (bytes_eq c.print p)) (map (λ x. x.print) cs))) 0) (sym (itself c.print))

-- nothing is held of a path without claims
abbrev pub held_if : List Below → Option Held
held_if [] = None
held_if (c ∷ cs) = Some (held_of (c ∷ cs))

held_after : (cs : List Below) → after None cs ≡ held_if cs
unfolding held_of
held_after [] = refl
held_after (c ∷ cs) = grows (merged None c.print c.direct) cs ∙ ap (λ o. Some (record { print = c.print; other = o; direct = c.direct || list_any (λ x. x.direct) cs })) (first_dropped c cs)

-- ---- all paths

get_with_claim : (m : ByPath Held) (c : Below) (q : List ℕ) → get (with_claim m c) q ≡ cond (bytes_eq q c.path) (Some (merged (get m q) c.print c.direct)) (get m q)
get_with_claim m c q =
    get-insert nat_list_cmp_total m c.path (merged (get m c.path) c.print c.direct) q
    ∙ ap (λ b. cond b (Some (merged (get m c.path) c.print c.direct)) (get m q)) (sym (texts_ties q c.path))
    ∙ elim (bytes_eq q c.path) as (λ b. bytes_eq q c.path ≡ b → cond b (Some (merged (get m c.path) c.print c.direct)) (get m q) ≡ cond b (Some (merged (get m q) c.print c.direct)) (get m q)) [
      | true ↦ λ e. ap (λ k. Some (merged (get m k) c.print c.direct)) (sym (same_text q c.path e))
      | false ↦ λ e. refl
    ] refl

seen : (b : Bool) (o : Option Held) (c : Below) (cs : List Below) → after (cond b (Some (merged o c.print c.direct)) o) cs ≡ after o (cond b (c ∷ cs) cs)
seen true o c cs = refl
seen false o c cs = refl

get_with_claims : (m : ByPath Held) (cs : List Below) (q : List ℕ) → get (with_claims m cs) q ≡ after (get m q) (about q cs)
get_with_claims m [] q = refl
get_with_claims m (c ∷ cs) q =
    get_with_claims (with_claim m c) cs q
    ∙ ap (λ o. after o (about q cs)) (get_with_claim m c q)
    ∙ seen (bytes_eq q c.path) (get m q) c (about q cs)

-- what a test of the same list finds
abbrev is_some_of : List Below → (List Below → Held) → List Below → Option Held
is_some_of [] f all = None
is_some_of (c ∷ cs) f all = Some (f all)

find_claimed : (f : List ℕ → Held) (cs : List Below) (q : List ℕ) → find (slice_cmp nat_cmp) q (map (λ c. (c.path, f c.path)) cs) ≡ is_some_of (about q cs) (λ _. f q) cs
find_claimed f [] q = refl
find_claimed f (c ∷ cs) q =
    ap (λ b. cond b (Some (f c.path)) (find (slice_cmp nat_cmp) q (map (λ x. (x.path, f x.path)) cs))) (sym (texts_ties q c.path))
    ∙ elim (bytes_eq q c.path) as (λ b. bytes_eq q c.path ≡ b → cond b (Some (f c.path)) (find (slice_cmp nat_cmp) q (map (λ x. (x.path, f x.path)) cs)) ≡ is_some_of (cond b (c ∷ about q cs) (about q cs)) (λ _. f q) (c ∷ cs)) [
      | true ↦ λ e. ap (λ k. Some (f k)) (sym (same_text q c.path e))
      | false ↦ λ e. find_claimed f cs q ∙ elim (about q cs) as (λ l. is_some_of l (λ _. f q) cs ≡ is_some_of l (λ _. f q) (c ∷ cs)) [ [] ↦ refl | x ∷ xs ↦ refl ]
    ] refl

pub get_held : (cs : List Below) (q : List ℕ) → get (held cs) q ≡ held_if (about q cs)
unfolding held
get_held cs q =
    get-from_entries nat_list_cmp_total _ q
    ∙ find_claimed (λ path. held_of (about path cs)) cs q
    ∙ elim (about q cs) as (λ l. about q cs ≡ l → is_some_of l (λ _. held_of (about q cs)) cs ≡ held_if l) [
      | [] ↦ λ e. refl
      | x ∷ xs ↦ λ e. ap (λ l. Some (held_of l)) e
    ] refl

pub all_held : (cs : List Below) → with_claims empty cs ≡ held cs
all_held cs = same_map nat_list_cmp_total (slice_cmp-IsAntisymmetric nat_cmp-IsAntisymmetric) _ _
    (λ q. get_with_claims empty cs q ∙ ap (λ o. after o (about q cs)) (get-empty (slice_cmp nat_cmp) q) ∙ held_after (about q cs) ∙ sym (get_held cs q))
