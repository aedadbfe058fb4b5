-- How the answers so far follow from the queries so far.
use Rattle.std.proofs.Common.{subst, ◌≡◌, ◌∙◌, ap, sym, refl, ℕ, ◌+◌, ◌<◌, Bool, true, false, ◌&&◌, length, List, [], ◌∷◌, ◌++◌, take, drop, get_or, append-nil, Option}
use Rattle.std.specs.Prelude.{String, string_bytes}
use Rattle.std.specs.declared.alloc.Global.{Global}
use Rattle.std.proofs.lemmas.Grind.{flat_map-append}
use Rattle.std.proofs.lemmas.List.{map-append, take_more, take-append-drop}
use Rattle.std.proofs.lemmas.List.Folds.{list_all-append}
use Rattle.ui_store.specs.Told.{more, more_twice}
use Rattle.ui_store.specs.Sinks.{Partly, partly_all, partly_first, partly_next}
use Rattle.ui_exports.specs.Export.{Export}
use Rattle.ui_top.specs.Answers.{answer, answers, are_answered}
use Rattle.ui_top.specs.Outcome.{words_of}

abbrev Queries : Type 0
Queries = List (String Global)

joined : (e : Export) (xs ys : Queries) → answers e (words_of (xs ++ ys)) ≡ answers e (words_of xs) ++ answers e (words_of ys)
joined e xs ys = ap (answers e) (map-append string_bytes xs ys) ∙ flat_map-append (λ q. (answer e q).0) (words_of xs) (words_of ys)

split_at : (e : Export) (qs : Queries) (i : ℕ) → answers e (words_of (take i qs)) ++ answers e (words_of (drop i qs)) ≡ answers e (words_of qs)
split_at e qs i = sym (joined e (take i qs) (drop i qs)) ∙ ap (λ xs. answers e (words_of xs)) (take-append-drop i qs)

one_more : (e : Export) (qs : Queries) (i : ℕ) (d : String Global) → i < length qs → answers e (words_of (take (i + 1) qs)) ≡ answers e (words_of (take i qs)) ++ (answer e (string_bytes (get_or qs i d))).0
one_more e qs i d h =
    ap (λ xs. answers e (words_of xs)) (take_more qs i d h) ∙ joined e (take i qs) (get_or qs i d ∷ [])
    ∙ ap (λ x. answers e (words_of (take i qs)) ++ x) (append-nil (answer e (string_bytes (get_or qs i d))).0)

and_true : (a b : Bool) → (a && (b && true)) ≡ (a && b)
and_true true true = refl
and_true true false = refl
and_true false b = refl

one_more_answered : (e : Export) (qs : Queries) (i : ℕ) (d : String Global) → i < length qs → are_answered e (words_of (take (i + 1) qs)) ≡ (are_answered e (words_of (take i qs)) && (answer e (string_bytes (get_or qs i d))).1)
one_more_answered e qs i d h =
    ap (λ xs. are_answered e (words_of xs)) (take_more qs i d h) ∙ ap (are_answered e) (map-append string_bytes (take i qs) (get_or qs i d ∷ []))
    ∙ list_all-append (λ q. (answer e q).1) (words_of (take i qs)) (words_of (get_or qs i d ∷ [])) ∙ and_true _ _

-- the answers so far are a front of all
pub so_far : (e : Export) (qs : Queries) (i : ℕ) (old now : Option (List ℕ)) → now ≡ more old (answers e (words_of (take i qs))) → Partly old now (answers e (words_of qs))
so_far e qs i old now is = let P : List ℕ → Type 0 = Partly old now in
    subst P (split_at e qs i) (partly_all old now (answers e (words_of (take i qs))) (answers e (words_of (drop i qs))) is)

-- and with a front of the next
pub so_far_next : (e : Export) (qs : Queries) (i : ℕ) (d : String Global) (old mid now : Option (List ℕ)) → i < length qs → mid ≡ more old (answers e (words_of (take i qs)))
    → Partly mid now (answer e (string_bytes (get_or qs i d))).0 → Partly old now (answers e (words_of qs))
so_far_next e qs i d old mid now h is p = let P : List ℕ → Type 0 = Partly old now in
    subst P (ap (λ x. x ++ answers e (words_of (drop (i + 1) qs))) (sym (one_more e qs i d h)) ∙ split_at e qs (i + 1))
    (partly_first old now (answers e (words_of (take i qs)) ++ (answer e (string_bytes (get_or qs i d))).0) (answers e (words_of (drop (i + 1) qs)))
    (partly_next old mid now (answers e (words_of (take i qs))) (answer e (string_bytes (get_or qs i d))).0 is p))

pub one_more_written : (e : Export) (qs : Queries) (i : ℕ) (d : String Global) (old mid now : Option (List ℕ)) → i < length qs → mid ≡ more old (answers e (words_of (take i qs)))
    → now ≡ more mid (answer e (string_bytes (get_or qs i d))).0 → now ≡ more old (answers e (words_of (take (i + 1) qs)))
one_more_written e qs i d old mid now h is w =
    w ∙ ap (λ o. more o (answer e (string_bytes (get_or qs i d))).0) is ∙ more_twice old _ _ ∙ ap (more old) (sym (one_more e qs i d h))

pub one_more_all : (e : Export) (qs : Queries) (i : ℕ) (d : String Global) (a b : Bool) → i < length qs → a ≡ are_answered e (words_of (take i qs)) → b ≡ (answer e (string_bytes (get_or qs i d))).1 → (a && b) ≡ are_answered e (words_of (take (i + 1) qs))
one_more_all e qs i d a b h p q = ap (λ x. x && b) p ∙ ap (λ x. are_answered e (words_of (take i qs)) && x) q ∙ sym (one_more_answered e qs i d h)
