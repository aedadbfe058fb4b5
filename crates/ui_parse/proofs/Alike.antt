-- Outcomes over two lists of words that begin alike.
use Rattle.std.proofs.Common.{◌≡◌, ◌<◌, ◌≤◌, List, [], ◌∷◌, ◌++◌, length, Option, Some, None, Ok, Err, refl, sym, ap, subst, ◌∙◌, append_assoc, arith}
use Rattle.std.proofs.lemmas.List.{length-append, append_cancel_right}
use Rattle.ui_grammar.specs.Word.{Word}
use Rattle.ui_parse.specs.Reader.{Outcome, Reader, and_then, rest_of}
use Rattle.ui_parse.proofs.Outcomes.{Holds, bind, mono}

pub record Suffix (ws rest : List Word) : Type 0 where
  pub front : List Word
  pub parts : ws ≡ front ++ rest

pub suffix_all : (ws : List Word) → Suffix ws ws
suffix_all ws = record { front = []; parts = refl }

pub suffix_then : (a b c : List Word) → Suffix a b → Suffix b c → Suffix a c
suffix_then a b c p q = record { front = p.front ++ q.front; parts = p.parts ∙ ap (λ (v : List Word). p.front ++ v) q.parts ∙ sym (append_assoc p.front q.front c) }

pub suffix_length : (ws rest : List Word) → Suffix ws rest → length rest ≤ length ws
suffix_length ws rest s = omega (arith, ap length s.parts, length-append s.front rest)

pub suffix_tail : (w : Word) (ws rest : List Word) → Suffix ws rest → Suffix (w ∷ ws) rest
suffix_tail w ws rest s = record { front = w ∷ s.front; parts = ap (λ (v : List Word). w ∷ v) s.parts }

-- what is left ends the words
abbrev pub Ends : {A : Type 0} → List Word → Outcome A → Type 0
Ends ws o = Holds (λ _ r. Suffix ws r) (λ r. Suffix ws r) o

-- What two lists go on by behind the same words: any two, where reading stops before them; or a word with what follows it,
-- and nothing, where it stops before that word.
pub data Tails : Type 0 where
  two : List Word → List Word → Tails
  end : Word → List Word → Tails

abbrev pub one_tail : Tails → List Word
one_tail (two r r') = r
one_tail (end w r) = w ∷ r

abbrev pub other_tail : Tails → List Word
other_tail (two r r') = r'
other_tail (end w r) = []

-- these words may be left before the tails
abbrev pub MayBeLeft : Tails → List Word → Type 0
MayBeLeft (two r r') [] = ⊥
MayBeLeft (two r r') (w ∷ ws) = Unit {0}
MayBeLeft (end w r) ws = Unit {0}

-- a value, or a fault, with the words that are left
abbrev pub outcome : {A : Type 0} → Option A → List Word → Outcome A
outcome None ws = Err ws
outcome (Some a) ws = Ok (a, ws)

-- the outcomes over the two lists are the same, where words are left that may be
pub record Alike {A : Type 0} (tails : Tails) (o o' : Outcome A) : Type 0 where
  pub is : (x : Option A) (left : List Word) → MayBeLeft tails left → o ≡ outcome x (left ++ one_tail tails) → o' ≡ outcome x (left ++ other_tail tails)

pub outcome_ends : {A : Type 0} (ws : List Word) (o : Outcome A) (x : Option A) (r : List Word) → Ends ws o → o ≡ outcome x r → Suffix ws r
outcome_ends ws o None r e h = (subst (Ends ws) h e).holds
outcome_ends ws o (Some a) r e h = (subst (Ends ws) h e).holds

-- nothing is claimed where what is left is longer than what was there
pub longer : {A : Type 0} (tails : Tails) (ws : List Word) (o o' : Outcome A) → Ends ws o
    → ((left : List Word) → MayBeLeft tails left → length ws < length (left ++ one_tail tails)) → Alike tails o o'
longer tails ws o o' e long = record {
  is = λ x left may h.
      let s = outcome_ends ws o x (left ++ one_tail tails) e h in
      absurd (omega (arith, long left may, ap length s.parts, length-append s.front (left ++ one_tail tails)));
}

value_of : {A : Type 0} → Outcome A → Option A
value_of (Ok p) = Some p.0
value_of (Err ws) = None

value_is : {A : Type 0} (x : Option A) (ws : List Word) → value_of (outcome x ws) ≡ x
unfolding value_of
value_is None ws = refl
value_is (Some a) ws = refl

pub rest_is : {A : Type 0} (x : Option A) (ws : List Word) → rest_of (outcome x ws) ≡ ws
rest_is None ws = refl
rest_is (Some a) ws = refl

same_value : {A : Type 0} (x y : Option A) (ws us : List Word) → outcome x ws ≡ outcome y us → x ≡ y
same_value x y ws us e = sym (value_is x ws) ∙ ap value_of e ∙ value_is y us

pub same_rest : {A : Type 0} (x y : Option A) (ws us : List Word) → outcome x ws ≡ outcome y us → ws ≡ us
same_rest x y ws us e = sym (rest_is x ws) ∙ ap rest_of e ∙ rest_is y us

pub same_outcome : {A : Type 0} (tails : Tails) (text : List Word) (y : Option A) → Alike tails (outcome y (text ++ one_tail tails)) (outcome y (text ++ other_tail tails))
same_outcome tails text y = record {
  is = λ x left may h.
      ap (λ (v : List Word). outcome y (v ++ other_tail tails)) (append_cancel_right text left (one_tail tails) (same_rest y x (text ++ one_tail tails) (left ++ one_tail tails) h))
      ∙ ap (λ (z : Option _). outcome z (left ++ other_tail tails)) (same_value y x (text ++ one_tail tails) (left ++ one_tail tails) h);
}

pub data BindCase {A B : Type 0} (o : Outcome A) (f : A → Reader B) (y : Outcome B) : Type 0 where
  went_on : (a : A) (u : List Word) → o ≡ Ok (a, u) → f a u ≡ y → BindCase o f y
  failed : (u : List Word) → o ≡ Err u → outcome {A = B} None u ≡ y → BindCase o f y

pub bind_case : {A B : Type 0} (o : Outcome A) (f : A → Reader B) (y : Outcome B) → and_then o f ≡ y → BindCase o f y
bind_case (Ok p) f y e = went_on p.0 p.1 refl e
bind_case (Err u) f y e = failed u refl e

pub more_left : (tails : Tails) (front left : List Word) → MayBeLeft tails left → MayBeLeft tails (front ++ left)
more_left (two r r') [] left may = may
more_left (two r r') (w ∷ front) left may = tt
more_left (end w r) front left may = tt

pub alike_bind : {A B : Type 0} (tails : Tails) (o o' : Outcome A) (f f' : A → Reader B) → Alike tails o o' → ((a : A) (u : List Word) → Ends u (f a u))
    → ((a : A) (left : List Word) → Alike tails (f a (left ++ one_tail tails)) (f' a (left ++ other_tail tails))) → Alike tails (and_then o f) (and_then o' f')
alike_bind {A = A} {B = B} tails o o' f f' same ends on = record { is = λ x left may e. done x left may (bind_case o f (outcome x (left ++ one_tail tails)) e) }
  where
    done : (x : Option B) (left : List Word) → MayBeLeft tails left → BindCase o f (outcome x (left ++ one_tail tails)) → and_then o' f' ≡ outcome x (left ++ other_tail tails)
    done x left may (went_on a u e h) =
        let s = outcome_ends u (f a u) x (left ++ one_tail tails) (ends a u) h in
        let parts : u ≡ (s.front ++ left) ++ one_tail tails = s.parts ∙ sym (append_assoc s.front left (one_tail tails)) in
        let e2 = same.is (Some a) (s.front ++ left) (more_left tails s.front left may) (e ∙ ap (outcome (Some a)) parts) in
        ap (λ (q : Outcome A). and_then q f') e2 ∙ (on a (s.front ++ left)).is x left may (ap (f a) (sym parts) ∙ h)
    done x left may (failed u e h) =
        let e2 = same.is None left may (e ∙ ap (outcome {A = A} None) (same_rest {A = B} None x u (left ++ one_tail tails) h)) in
        ap (λ (q : Outcome A). and_then q f') e2 ∙ ap (λ (z : Option B). outcome z (left ++ other_tail tails)) (same_value {A = B} None x u (left ++ one_tail tails) h)

pub ends_bind : {A B : Type 0} (ws : List Word) (o : Outcome A) (f : A → Reader B) → Ends ws o → ((a : A) (u : List Word) → Ends u (f a u)) → Ends ws (and_then o f)
ends_bind ws o f e on = bind e (λ a r s. mono (on a r) (λ b q t. suffix_then ws r q s t) (λ q t. suffix_then ws r q s t)) (λ r s. s)
