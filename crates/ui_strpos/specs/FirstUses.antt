-- The table of a list of fields, said without the writer: the targets used, each once, in the order of first use.
use Rattle.std.proofs.Common.{◌≡◌, List, [], ◌∷◌, ◌++◌, Bool, true, false, cond, not, refl, sym, ap, ◌∙◌, append_assoc}
use Rattle.std.specs.Prelude.{◌&&◌, ◌||◌}
use Rattle.std.specs.List.{filter, list_any}
use Rattle.std.proofs.lemmas.List.{append-nil}
use Rattle.std.proofs.lemmas.List.Folds.{list_any-append}
use Rattle.ui_strpos.specs.declared.target.Target.{Target}
use Rattle.ui_strpos.specs.Items.{Item, UInt, Int, Truth, Use, Written, target, is_target, after_use, written, nothing}
use Rattle.ui_strpos.specs.Tables.{is_target_true, is_target_refl, has_target}
use Rattle.ui_strpos.specs.Bytes.{table_from, written_is}

-- the targets of fields, in their order
abbrev pub targets : List Item → List Target
targets [] = []
targets (UInt n ∷ is) = targets is
targets (Int z ∷ is) = targets is
targets (Truth b ∷ is) = targets is
targets (Use section index ∷ is) = target section index ∷ targets is

-- each target once, where it is first
abbrev pub first_uses : List Target → List Target
first_uses [] = []
first_uses (t ∷ ts) = t ∷ filter (λ u. not (is_target t u)) (first_uses ts)

abbrev lacks : List Target → Target → Bool
lacks table u = not (list_any (is_target u) table)

same_test : (t u : Target) → is_target u t ≡ is_target t u
same_test t u = at (is_target t u) (is_target u t) refl refl
  where
    at : (a b : Bool) → is_target t u ≡ a → is_target u t ≡ b → b ≡ a
    at true true e h = refl
    at false false e h = refl
    at true false e h = sym h ∙ ap (λ (x : Target). is_target u x) (is_target_true t u e) ∙ is_target_refl u
    at false true e h = sym (is_target_refl t) ∙ ap (λ (x : Target). is_target t x) (sym (is_target_true u t h)) ∙ e

-- a target that the table has is dropped anyhow
filter_step : (t : Target) (table : List Target) (x : Target) (xs : List Target) (b : Bool) → is_target t x ≡ b → list_any (is_target t) table ≡ true → filter (lacks table) (filter (λ u. not (is_target t u)) xs) ≡ filter (lacks table) xs
    → filter (lacks table) (cond (not b) (x ∷ filter (λ u. not (is_target t u)) xs) (filter (λ u. not (is_target t u)) xs)) ≡ filter (lacks table) (x ∷ xs)
filter_step t table x xs true e has rest =
    let known : list_any (is_target x) table ≡ true = ap (λ (u : Target). list_any (is_target u) table) (sym (is_target_true t x e)) ∙ has in
    rest ∙ sym (ap (λ (h : Bool). cond (not h) (x ∷ filter (lacks table) xs) (filter (lacks table) xs)) known)
filter_step t table x xs false e has rest = ap (λ (ys : List Target). cond (lacks table x) (x ∷ ys) ys) rest

filter_known : (t : Target) (table : List Target) (xs : List Target) → list_any (is_target t) table ≡ true → filter (lacks table) (filter (λ u. not (is_target t u)) xs) ≡ filter (lacks table) xs
filter_known t table [] has = refl
filter_known t table (x ∷ xs) has = filter_step t table x xs (is_target t x) refl has (filter_known t table xs has)

either_test : (a b d : Bool) → b ≡ d → not (a || (b || false)) ≡ (not a && not d)
either_test true b d e = refl
either_test false true d e = ap not e
either_test false false d e = ap not e

lacks_more : (table : List Target) (t u : Target) → lacks (table ++ t ∷ []) u ≡ (lacks table u && not (is_target t u))
lacks_more table t u = ap not (list_any-append (is_target u) table (t ∷ [])) ∙ either_test (list_any (is_target u) table) (is_target u t) (is_target t u) (same_test t u)

twice : (table : List Target) (t x : Target) (ys : List Target) (a b : Bool) → lacks table x ≡ b → cond (b && not a) (x ∷ filter (lacks table) ys) (filter (lacks table) ys) ≡ filter (lacks table) (cond (not a) (x ∷ ys) ys)
twice table t x ys true true e = refl
twice table t x ys true false e = refl
twice table t x ys false true e = sym (ap (λ (h : Bool). cond h (x ∷ filter (lacks table) ys) (filter (lacks table) ys)) e)
twice table t x ys false false e = sym (ap (λ (h : Bool). cond h (x ∷ filter (lacks table) ys) (filter (lacks table) ys)) e)

-- what a table with one more target lacks
filter_more : (table : List Target) (t : Target) (xs : List Target) → filter (lacks (table ++ t ∷ [])) xs ≡ filter (lacks table) (filter (λ u. not (is_target t u)) xs)
filter_more table t [] = refl
filter_more table t (x ∷ xs) =
    ap (λ (b : Bool). cond b (x ∷ filter (lacks (table ++ t ∷ [])) xs) (filter (lacks (table ++ t ∷ [])) xs)) (lacks_more table t x)
    ∙ ap (λ (ys : List Target). cond (lacks table x && not (is_target t x)) (x ∷ ys) ys) (filter_more table t xs)
    ∙ twice table t x (filter (λ u. not (is_target t u)) xs) (is_target t x) (lacks table x) refl

-- the targets used that a table lacks come after it
abbrev Follows : List Item → Type 0
Follows is = (table : List Target) → table_from table is ≡ table ++ filter (lacks table) (first_uses (targets is))

use_follows : (is : List Item) (table : List Target) (t : Target) (b : Bool) → list_any (is_target t) table ≡ b → Follows is → table_from (after_use table t) is ≡ table ++ filter (lacks table) (t ∷ filter (λ u. not (is_target t u)) (first_uses (targets is)))
use_follows is table t b e rest =
    let xs : List Target = first_uses (targets is) in
    let others : List Target = filter (lacks table) (filter (λ u. not (is_target t u)) xs) in
    let front : cond (not (list_any (is_target t) table)) (t ∷ others) others ≡ cond (not b) (t ∷ others) others = ap (λ (h : Bool). cond (not h) (t ∷ others) others) e in
    let after : after_use table t ≡ cond b table (table ++ t ∷ []) = ap (λ (h : Bool). cond h table (table ++ t ∷ [])) (sym (has_target table t) ∙ e) in
    ap (λ (x : List Target). table_from x is) after ∙ by b e ∙ ap (λ (ys : List Target). table ++ ys) (sym front)
  where
    by : (b : Bool) → list_any (is_target t) table ≡ b → table_from (cond b table (table ++ t ∷ [])) is ≡ table ++ cond (not b) (t ∷ filter (lacks table) (filter (λ u. not (is_target t u)) (first_uses (targets is)))) (filter (lacks table) (filter (λ u. not (is_target t u)) (first_uses (targets is))))
    by true has = rest table ∙ ap (λ (ys : List Target). table ++ ys) (sym (filter_known t table (first_uses (targets is)) has))
    by false has =
        rest (table ++ t ∷ []) ∙ append_assoc table (t ∷ []) (filter (lacks (table ++ t ∷ [])) (first_uses (targets is)))
        ∙ ap (λ (ys : List Target). table ++ t ∷ ys) (filter_more table t (first_uses (targets is)))

follows : (is : List Item) → Follows is
follows [] table = sym (append-nil table)
follows (UInt n ∷ is) table = follows is table
follows (Int z ∷ is) table = follows is table
follows (Truth b ∷ is) table = follows is table
follows (Use s k ∷ is) table = use_follows is table (target s k) (list_any (is_target (target s k)) table) refl (follows is)

none_lacked : (xs : List Target) → filter (lacks []) xs ≡ xs
none_lacked [] = refl
none_lacked (x ∷ xs) = ap (λ (ys : List Target). x ∷ ys) (none_lacked xs)

pub own_first_uses : (is : List Item) → (written nothing is).table ≡ first_uses (targets is)
own_first_uses is = ap (λ (w : Written). w.table) (written_is is nothing) ∙ follows is [] ∙ none_lacked (first_uses (targets is))
