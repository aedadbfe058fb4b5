-- Parts with a semicolon behind each, turn by turn.
use Rattle.std.proofs.Common.{◌≡◌, ℕ, zero, suc, ◌-◌, ◌++◌, List, [], ◌∷◌, map, length, Option, Some, None, Result, Ok, Err, refl, sym, ap, subst, ◌∙◌, arith}
use Rattle.std.specs.Option.{option_map}
use Rattle.std.proofs.lemmas.List.{map_push}
use Rattle.ui_base.specs.declared.value.Spot.{Spot}
use Rattle.ui_scan.specs.declared.kind.TokenKind.TheVariants.{Semi}
use Rattle.ui_grammar.specs.Word.{Word}
use Rattle.ui_parse.specs.declared.fault.ParseError.{ParseError}
use Rattle.ui_parse.specs.declared.fault.ParseError.TheVariants.{Fault}
use Rattle.ui_parse.specs.Reader.{Outcome, Reader, and_then, expect}
use Rattle.ui_parse.specs.View.{Reads}
use Rattle.ui_parse.proofs.ListLaws.{reads_fault}
use Rattle.ui_stmts.specs.Decls.{behind_each, each_from, each}

read_is : {A X : Type 0} (see : X → A) (o : Outcome A) (x : X) (m : List Word) → Reads see o (Ok x) m → o ≡ Ok (see x, m)
read_is see (Ok p) x m h = rw (h.0, h.1) refl
read_is see (Err ws) x m h = absurd h

reads_as : {A X : Type 0} (see : X → A) (o o' : Outcome A) (r : Result X ParseError) (left : List Word) → o ≡ o' → Reads see o r left → Reads see o' r left
reads_as {A = A} see o o' r left e h = subst (λ (o : Outcome A). Reads see o r left) e h

module _ {S V : Type 0} (see : S → V) (p : Reader (Option V)) (room : ℕ) where
  abbrev pub go : ℕ → List S → Reader (List V)
  go n l = each_from room p n (map see l)

  pub begins : (ws : List Word) → go (suc (length ws)) [] ws ≡ each room p ws
  unfolding each
  begins ws = refl

  turn : (n : ℕ) (l : List S) (ws : List Word) → go (suc n) l ws ≡ and_then (p ws) (behind_each room (each_from room p n) (map see l))
  unfolding each_from
  turn n l ws = refl

  spent : (l : List S) (ws : List Word) → go zero l ws ≡ Err ws
  unfolding each_from
  spent l ws = refl

  module _ (whole : Outcome (List V)) (n : ℕ) (l : List S) (ws m : List Word) (same : go (suc n) l ws ≡ whole) where
    found : (x : Option S) → Reads (option_map see) (p ws) (Ok x) m → behind_each room (each_from room p n) (map see l) (option_map see x) m ≡ whole
    found x h = sym (turn n l ws ∙ ap (λ (o : Outcome (Option V)). and_then o (behind_each room (each_from room p n) (map see l))) (read_is (option_map see) (p ws) x m h)) ∙ same

    pub at_fault : (e : ParseError) → Reads (option_map see) (p ws) (Err e) m → Reads (map see) whole (Err e) m
    at_fault e h = reads_as (map see) _ whole (Err e) m (sym (turn n l ws) ∙ same) (reads_fault (option_map see) (map see) (p ws) (behind_each room (each_from room p n) (map see l)) e m h)

    pub at_end : (x : Option S) → x ≡ None → Reads (option_map see) (p ws) (Ok x) m → Reads (map see) whole (Ok l) m
    at_end None is h = reads_as (map see) _ whole (Ok l) m (found None h) (refl, refl)
    at_end (Some x) is h = absurd cc

    module _ (x : S) (o : Option S) (is : o ≡ Some x) (h : Reads (option_map see) (p ws) (Ok o) m) where
      some : and_then (expect Semi m) (λ _. each_from room p n (map see l ++ (see x ∷ []))) ≡ whole
      some = subst (λ (o : Option S). behind_each room (each_from room p n) (map see l) (option_map see o) m ≡ whole) is (found o h)

      pub no_semicolon : (e : ParseError) (k : List Word) → Reads (λ (s : Spot). s) (expect Semi m) (Err e) k → Reads (map see) whole (Err e) k
      no_semicolon e k g = reads_as (map see) _ whole (Err e) k some (reads_fault (λ (s : Spot). s) (map see) (expect Semi m) (λ _. each_from room p n (map see l ++ (see x ∷ []))) e k g)

      behind : (s : Spot) (k : List Word) (all : List S) → Reads (λ (s : Spot). s) (expect Semi m) (Ok s) k → all ≡ l ++ (x ∷ []) → go n all k ≡ whole
      behind s k all g more = ap (λ (l : List S). go n l k) more ∙ ap (λ (l : List V). each_from room p n l k) (map_push see l x)
          ∙ (sym (ap (λ (o : Outcome Spot). and_then o (λ _. each_from room p n (map see l ++ (see x ∷ [])))) (read_is (λ (s : Spot). s) (expect Semi m) s k g)) ∙ some)

      pub at_spent : (s : Spot) (k : List Word) (all : List S) → Reads (λ (s : Spot). s) (expect Semi m) (Ok s) k → all ≡ l ++ (x ∷ []) → n ≡ 0 → Reads (map see) whole (Err Fault) k
      at_spent s k all g more none_left = reads_as (map see) _ whole (Err Fault) k (sym (ap (λ (n : ℕ). go n all k) none_left ∙ spent all k) ∙ behind s k all g more) refl

      pub at_more : (s : Spot) (k : List Word) (all : List S) → Reads (λ (s : Spot). s) (expect Semi m) (Ok s) k → all ≡ l ++ (x ∷ []) → (n ≡ 0 → ⊥) → go (suc (n - 1)) all k ≡ whole
      at_more s k all g more some = let fewer : suc (n - 1) ≡ n = omega (arith, some) in ap (λ (n : ℕ). go n all k) fewer ∙ behind s k all g more
