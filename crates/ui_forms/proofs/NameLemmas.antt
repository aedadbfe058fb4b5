-- Names that are added to a set one after another.
use Rattle.std.proofs.Common.{◌≡◌, ℕ, ◌+◌, ◌<◌, ◌≤◌, Bool, true, false, cond, not, ◌&&◌, ◌||◌, List, [], ◌∷◌, ◌++◌, map, drop, length, get_or, refl, sym, ap, ◌∙◌}
use Rattle.std.specs.Prelude.{bytes_eq}
use Rattle.std.specs.List.{flat_map, list_all}
use Rattle.std.specs.FinMap.{empty, insert}
use Rattle.std.proofs.lemmas.List.{drop_more, drop_all}
use Rattle.ui_forms.specs.Words.{last_segment}
use Rattle.ui_forms.specs.Numbers.{Numbered, has}
use Rattle.ui_forms.specs.Sums.{Known, nothing, with_name}
use Rattle.ui_forms.specs.Form.{are_apart, are_distinct, are_new, is_among, names, segments}
use Rattle.ui_forms.specs.Choosing.{IsSet}
use Rattle.ui_forms.specs.declared.part.ConstantSum.{ConstantSum}
use Rattle.ui_forms.specs.declared.part.ImportPath.{ImportPath}
use Rattle.ui_forms.specs.declared.part.Part.{Part}
use Rattle.ui_forms.proofs.NumberLemmas.{has-empty, has-insert, has-set}
use Rattle.ui_base.proofs.StepLemmas.{turn, no_turn}

-- ---- texts of a list

or_assoc : (a b c : Bool) → ((a || b) || c) ≡ (a || (b || c))
or_assoc true b c = refl
or_assoc false b c = refl

or_swap : (a b c : Bool) → (a || (b || c)) ≡ ((b || a) || c)
or_swap true true c = refl
or_swap true false c = refl
or_swap false true c = refl
or_swap false false c = refl

pub or_false : (b : Bool) → (b || false) ≡ b
or_false true = refl
or_false false = refl

and_false : (b : Bool) → (b && false) ≡ false
and_false true = refl
and_false false = refl

pub among-append : (xs ys : List (List ℕ)) (text : List ℕ) → is_among (xs ++ ys) text ≡ (is_among xs text || is_among ys text)
among-append [] ys text = refl
among-append (x ∷ xs) ys text = ap (λ b. bytes_eq text x || b) (among-append xs ys text) ∙ sym (or_assoc (bytes_eq text x) (is_among xs text) (is_among ys text))

-- no texts are there
pub set_none : (b : Bool) (m : Numbered) (q : List ℕ) → m ≡ empty → (b || has m q) ≡ b
set_none b m q none = ap (λ n. b || has n q) none ∙ ap (λ k. b || k q) has-empty ∙ or_false b

pub new_none : (m : Numbered) (texts : List (List ℕ)) → m ≡ empty → are_new (has m) texts ≡ are_new nothing texts
new_none m texts none = ap (λ n. are_new (has n) texts) none ∙ ap (λ k. are_new k texts) has-empty

-- ---- the turns of a loop that adds one text at each

module _ {X : Type 0} (f : X → List ℕ) (xs : List X) (i : ℕ) (m : Numbered) where
  pub set_more : (x : X) (text q : List ℕ) (n : ℕ) (m' : Numbered) (target : Bool) → i < length xs → x ≡ get_or xs i x → text ≡ f x → m' ≡ insert m text n → (is_among (map f (drop i xs)) q || has m q) ≡ target → (is_among (map f (drop (i + 1) xs)) q || has m' q) ≡ target
  set_more x text q n m' target h is named now before =
      ap (λ k. is_among (map f (drop (i + 1) xs)) q || has k q) now
      ∙ ap (λ k. is_among (map f (drop (i + 1) xs)) q || k q) (has-insert m text n)
      ∙ ap (λ t. is_among (map f (drop (i + 1) xs)) q || with_name t (has m) q) named
      ∙ or_swap (is_among (map f (drop (i + 1) xs)) q) (bytes_eq q (f x)) (has m q)
      ∙ sym (ap (λ ts. is_among ts q || has m q) (turn f xs i x h is))
      ∙ before

  pub set_end : (q : List ℕ) (target : Bool) → length xs ≤ i → (is_among (map f (drop i xs)) q || has m q) ≡ target → has m q ≡ target
  set_end q target h before = sym (ap (λ ts. is_among ts q || has m q) (no_turn f xs i h)) ∙ before

  new_turn : (x : X) (rest : List (List ℕ)) → i < length xs → x ≡ get_or xs i x → are_new (has m) (map f (drop i xs) ++ rest) ≡ (not (has m (f x)) && are_new (with_name (f x) (has m)) (map f (drop (i + 1) xs) ++ rest))
  new_turn x rest h is = ap (λ ts. are_new (has m) (ts ++ rest)) (turn f xs i x h is)

  pub new_more : (x : X) (text : List ℕ) (n : ℕ) (m' : Numbered) (added : Bool) (rest : List (List ℕ)) (target : Bool) → i < length xs → x ≡ get_or xs i x → text ≡ f x → m' ≡ insert m text n → added ≡ not (has m text) → added ≡ true → are_new (has m) (map f (drop i xs) ++ rest) ≡ target → are_new (has m') (map f (drop (i + 1) xs) ++ rest) ≡ target
  new_more x text n m' added rest target h is named now new holds before =
      ap (λ k. are_new (has k) (map f (drop (i + 1) xs) ++ rest)) now
      ∙ ap (λ k. are_new k (map f (drop (i + 1) xs) ++ rest)) (has-insert m text n)
      ∙ ap (λ t. are_new (with_name t (has m)) (map f (drop (i + 1) xs) ++ rest)) named
      ∙ sym (ap (λ b. b && are_new (with_name (f x) (has m)) (map f (drop (i + 1) xs) ++ rest)) (ap (λ t. not (has m t)) (sym named) ∙ sym new ∙ holds))
      ∙ sym (new_turn x rest h is)
      ∙ before

  pub new_stops : (x : X) (text : List ℕ) (added : Bool) (rest : List (List ℕ)) (target : Bool) → i < length xs → x ≡ get_or xs i x → text ≡ f x → added ≡ not (has m text) → added ≡ false → are_new (has m) (map f (drop i xs) ++ rest) ≡ target → target ≡ false
  new_stops x text added rest target h is named new fails before =
      sym before
      ∙ new_turn x rest h is
      ∙ ap (λ b. b && are_new (with_name (f x) (has m)) (map f (drop (i + 1) xs) ++ rest)) (ap (λ t. not (has m t)) (sym named) ∙ sym new ∙ fails)

  pub new_end : (rest : List (List ℕ)) (target : Bool) → length xs ≤ i → are_new (has m) (map f (drop i xs) ++ rest) ≡ target → target ≡ are_new (has m) rest
  new_end rest target h before = sym before ∙ ap (λ ts. are_new (has m) (ts ++ rest)) (no_turn f xs i h)

-- ---- names of imports, apart from those of constants

abbrev pub apart_from : Known → Known → List (List ℕ) → Bool
apart_from known taken texts = are_new known texts && list_all (λ text. not (taken text)) texts

both : (a b x y : Bool) → a ≡ true → b ≡ true → ((a && x) && (b && y)) ≡ (x && y)
both a b x y p q = ap (λ c. (c && x) && (b && y)) p ∙ ap (λ c. x && (c && y)) q

first_no : (a b x y : Bool) → a ≡ false → ((a && x) && (b && y)) ≡ false
first_no a b x y p = ap (λ c. (c && x) && (b && y)) p

second_no : (a b x y : Bool) → b ≡ false → ((a && x) && (b && y)) ≡ false
second_no a b x y p = ap (λ c. (a && x) && (c && y)) p ∙ and_false (a && x)

module _ (taken : Known) (is : List ImportPath) (i : ℕ) (m : Numbered) (x : ImportPath) (h : i < length is) (at : x ≡ get_or is i x) (text : List ℕ) (named : text ≡ last_segment x.path) (target : Bool) (before : apart_from (has m) taken (segments (drop i is)) ≡ target) where
  cut : target ≡ apart_from (has m) taken (text ∷ segments (drop (i + 1) is))
  cut = sym before ∙ ap (apart_from (has m) taken) (turn (λ (j : ImportPath). last_segment j.path) is i x h at) ∙ ap (λ t. apart_from (has m) taken (t ∷ segments (drop (i + 1) is))) (sym named)

  pub apart_taken : taken text ≡ true → false ≡ target
  apart_taken holds = sym (cut ∙ second_no (not (has m text)) (not (taken text)) (are_new (with_name text (has m)) (segments (drop (i + 1) is))) (list_all (λ t. not (taken t)) (segments (drop (i + 1) is))) (ap not holds))

  pub apart_repeated : (added : Bool) → added ≡ not (has m text) → added ≡ false → false ≡ target
  apart_repeated added new fails = sym (cut ∙ first_no (not (has m text)) (not (taken text)) (are_new (with_name text (has m)) (segments (drop (i + 1) is))) (list_all (λ t. not (taken t)) (segments (drop (i + 1) is))) (sym new ∙ fails))

  pub apart_more : (m' : Numbered) (n : ℕ) (added : Bool) → taken text ≡ false → m' ≡ insert m text n → added ≡ not (has m text) → added ≡ true → apart_from (has m') taken (segments (drop (i + 1) is)) ≡ target
  apart_more m' n added other now new holds =
      ap (λ k. apart_from (has k) taken (segments (drop (i + 1) is))) now
      ∙ ap (λ k. apart_from k taken (segments (drop (i + 1) is))) (has-insert m text n)
      ∙ sym (both (not (has m text)) (not (taken text)) (are_new (with_name text (has m)) (segments (drop (i + 1) is))) (list_all (λ t. not (taken t)) (segments (drop (i + 1) is))) (sym new ∙ holds) (ap not other))
      ∙ sym cut

pub apart_none : (taken : Known) (texts : List (List ℕ)) (m : Numbered) → m ≡ empty → apart_from (has m) taken texts ≡ are_apart taken texts
apart_none taken texts m none = ap (λ b. b && list_all (λ text. not (taken text)) texts) (new_none m texts none)

pub apart_end : (taken : Known) (is : List ImportPath) (i : ℕ) (m : Numbered) (target : Bool) → length is ≤ i → apart_from (has m) taken (segments (drop i is)) ≡ target → true ≡ target
apart_end taken is i m target h before = sym (ap (apart_from (has m) taken) (no_turn (λ (j : ImportPath). last_segment j.path) is i h)) ∙ before

-- ---- the names of all sources

abbrev names_in : Part → List (List ℕ)
names_in p = map (λ c. c.name) p.constants

module _ (ps : List Part) (i : ℕ) (m : Numbered) (p : Part) (h : i < length ps) (at : p ≡ get_or ps i p) where
  names_turn : names (drop i ps) ≡ names_in p ++ names (drop (i + 1) ps)
  names_turn = ap (flat_map names_in) (drop_more ps i p h ∙ ap (λ x. x ∷ drop (i + 1) ps) (sym at))

  -- a source whose names are all new
  pub names_more : (m' : Numbered) (constants : List ConstantSum) (new : Bool) (target : Bool) → constants ≡ p.constants → ((rest : List (List ℕ)) → are_new (has m) (map (λ c. c.name) constants ++ rest) ≡ cond new (are_new (has m') rest) false) → new ≡ true → are_new (has m) (names (drop i ps)) ≡ target → are_new (has m') (names (drop (i + 1) ps)) ≡ target
  names_more m' constants new target same step holds before =
      sym (step (names (drop (i + 1) ps)) ∙ ap (λ b. cond b (are_new (has m') (names (drop (i + 1) ps))) false) holds)
      ∙ ap (λ cs. are_new (has m) (map (λ c. c.name) cs ++ names (drop (i + 1) ps))) same
      ∙ sym (ap (are_new (has m)) names_turn)
      ∙ before

  pub names_repeated : (m' : Numbered) (constants : List ConstantSum) (new : Bool) (target : Bool) → constants ≡ p.constants → ((rest : List (List ℕ)) → are_new (has m) (map (λ c. c.name) constants ++ rest) ≡ cond new (are_new (has m') rest) false) → new ≡ false → are_new (has m) (names (drop i ps)) ≡ target → target ≡ false
  names_repeated m' constants new target same step fails before =
      sym before
      ∙ ap (are_new (has m)) names_turn
      ∙ sym (ap (λ cs. are_new (has m) (map (λ c. c.name) cs ++ names (drop (i + 1) ps))) same)
      ∙ step (names (drop (i + 1) ps))
      ∙ ap (λ b. cond b (are_new (has m') (names (drop (i + 1) ps))) false) fails

  pub all_names_more : (m' : Numbered) (constants : List ConstantSum) (q : List ℕ) (target : Bool) → constants ≡ p.constants → has m' q ≡ (is_among (map (λ c. c.name) constants) q || has m q) → (is_among (names (drop i ps)) q || has m q) ≡ target → (is_among (names (drop (i + 1) ps)) q || has m' q) ≡ target
  all_names_more m' constants q target same now before =
      ap (λ b. is_among (names (drop (i + 1) ps)) q || b) (now ∙ ap (λ cs. is_among (map (λ c. c.name) cs) q || has m q) same)
      ∙ or_swap (is_among (names (drop (i + 1) ps)) q) (is_among (names_in p) q) (has m q)
      ∙ sym (ap (λ b. b || has m q) (ap (λ ts. is_among ts q) names_turn ∙ among-append (names_in p) (names (drop (i + 1) ps)) q))
      ∙ before

module _ (ps : List Part) (i : ℕ) (m : Numbered) (h : length ps ≤ i) where
  no_names : names (drop i ps) ≡ []
  no_names = ap (flat_map names_in) (drop_all i ps h)

  pub names_end : (target : Bool) → are_new (has m) (names (drop i ps)) ≡ target → target ≡ true
  names_end target before = sym before ∙ ap (are_new (has m)) no_names

  pub all_names_end : ((q : List ℕ) → (is_among (names (drop i ps)) q || has m q) ≡ is_among (names ps) q) → IsSet m (names ps)
  all_names_end before = record { same = λ q. sym (ap (λ ts. is_among ts q || has m q) no_names) ∙ before q }

-- ---- all names

pub distinct-repeated : (ps : List Part) → are_new nothing (names ps) ≡ false → false ≡ are_distinct ps
distinct-repeated ps fails = sym (ap (λ b. b && list_all (λ p. are_apart (is_among (names ps)) (segments p.imports)) ps) fails)

pub distinct-new : (ps : List Part) (m : Numbered) (apart : Bool) → are_new nothing (names ps) ≡ true → IsSet m (names ps) → apart ≡ list_all (λ p. are_apart (has m) (segments p.imports)) ps → apart ≡ are_distinct ps
distinct-new ps m apart holds set is =
    is
    ∙ ap (λ k. list_all (λ p. are_apart k (segments p.imports)) ps) (has-set m (names ps) set)
    ∙ sym (ap (λ b. b && list_all (λ p. are_apart (is_among (names ps)) (segments p.imports)) ps) holds)
