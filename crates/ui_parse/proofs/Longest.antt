-- From what is read to the longest live list: what holds of each reader that reads exactly the forms.
use Rattle.std.proofs.Common.{◌≡◌, ℕ, zero, suc, ◌-◌, ◌<◌, ◌≤◌, List, [], ◌∷◌, ◌++◌, length, take, drop, Option, Some, None, Ok, Err, refl, sym, ap, subst, ◌∙◌, append_assoc, arith}
use Rattle.std.proofs.lemmas.List.{length-append, append-nil, take_at, drop_at, length-drop}
use Rattle.ui_grammar.specs.Word.{Word}
use Rattle.ui_grammar.specs.Parse.{IsLive, IsLongest, IsFound, IsFault}
use Rattle.ui_parse.specs.Reader.{Outcome, Reader, rest_of}
use Rattle.ui_parse.specs.Exact.{ReadsExactly}
use Rattle.ui_parse.proofs.Alike.{suffix_length, two, end, outcome, outcome_ends}
use Rattle.ui_parse.proofs.Steady.{Steady}

-- the front of a list and what it has
pub record FrontHas {T : Type 0} (Has : List Word → T → Type 0) (ws rest : List Word) (t : T) : Type 0 where
  pub front : List Word
  pub parts : ws ≡ front ++ rest
  pub has : Has front t

pub record FrontLive {T : Type 0} (Has : List Word → T → Type 0) (ws rest : List Word) : Type 0 where
  pub front : List Word
  pub parts : ws ≡ front ++ rest
  pub live : IsLive Has front

-- the whole list is read, to this tree
pub record Whole {X T : Type 0} (p : Reader X) (tree : X → T) (ws : List Word) (t : T) : Type 0 where
  pub x : X
  pub read : p ws ≡ Ok (x, [])
  pub is : tree x ≡ t

-- the reader reads exactly the forms
pub record Decides {T X : Type 0} (Has : List Word → T → Type 0) (p : Reader X) (tree : X → T) : Type 0 where
  pub found_has : (ws : List Word) (x : X) (rest : List Word) → p ws ≡ Ok (x, rest) → FrontHas Has ws rest (tree x)
  pub fault_live : (ws rest : List Word) → p ws ≡ Err rest → FrontLive Has ws rest
  pub complete : (ws : List Word) (t : T) → Has ws t → Whole p tree ws t
  pub steady : Steady p

module _ {A : Type 0} (p : Reader A) (steady : Steady p) where
  -- what is read up to a word that is left depends on nothing behind that
  pub same : (x : Option A) (text : List Word) (w : Word) (left r r' : List Word) → p (text ++ r) ≡ outcome x ((w ∷ left) ++ r) → p (text ++ r') ≡ outcome x ((w ∷ left) ++ r')
  same x text w left r r' e = (steady.alike (two r r') text).is x (w ∷ left) tt e

  -- what stops before a word stops so at the end
  pub closes : (x : Option A) (text : List Word) (w : Word) (r : List Word) → p (text ++ (w ∷ r)) ≡ outcome x (w ∷ r) → p text ≡ outcome x []
  closes x text w r e = ap p (sym (append-nil text)) ∙ (steady.alike (end w r) text).is x [] tt e

-- a longer front goes on with the first word of the rest
record Longer (front rest : List Word) (n : ℕ) : Type 0 where
  word : Word
  r : List Word
  rest_is : rest ≡ word ∷ r
  more : List Word
  is : take n (front ++ rest) ≡ front ++ (word ∷ more)

longer : (front rest : List Word) (n : ℕ) → length front < n → n ≤ length (front ++ rest) → Longer front rest n
longer [] [] n lt le = absurd (omega arith)
longer [] (w ∷ r) zero lt le = absurd (omega arith)
longer [] (w ∷ r) (suc n) lt le = record { word = w; r = r; rest_is = refl; more = take n r; is = refl }
longer (w ∷ front) rest zero lt le = absurd (omega arith)
longer (w ∷ front) rest (suc n) lt le =
    let l = longer front rest n (omega arith) (omega arith) in
    record { word = l.word; r = l.r; rest_is = l.rest_is; more = l.more; is = ap (λ (v : List Word). w ∷ v) l.is }

abbrev cut : List Word → List Word → ℕ
cut ws rest = length ws - length rest

cut_front : (ws front rest : List Word) → ws ≡ front ++ rest → cut ws rest ≡ length front
cut_front ws front rest e = omega (arith, ap length e, length-append front rest)

take_front : (ws front rest : List Word) → ws ≡ front ++ rest → take (cut ws rest) ws ≡ front
take_front ws front rest e = subst (λ (v : List Word). take (cut ws rest) v ≡ front) (sym e) (take_at front rest (cut ws rest) (sym (cut_front ws front rest e)))

left_is : (ws front rest : List Word) → ws ≡ front ++ rest → rest ≡ drop (cut ws rest) ws
left_is ws front rest e = sym (ap (drop (cut ws rest)) e ∙ drop_at front rest (cut ws rest) (sym (cut_front ws front rest e)))

value_in : {A : Type 0} → A → Outcome A → A
value_in a (Ok p) = p.0
value_in a (Err ws) = a

ends_differ : {A : Type 0} (x : Option A) (w : Word) (more : List Word) (y : A) → outcome x (w ∷ more) ≡ Ok (y, []) → ⊥
ends_differ None w more y e = absurd cc
ends_differ (Some x) w more y e = let f : w ∷ more ≡ [] = ap rest_of e in absurd cc

module _ {T X : Type 0} (Has : List Word → T → Type 0) (p : Reader X) (tree : X → T) (decides : Decides Has p tree) where
  -- no list has two trees
  pub one : (ws : List Word) (t u : T) → Has ws t → Has ws u → t ≡ u
  unfolding value_in
  one ws t u h g =
      let a = decides.complete ws t h in
      let b = decides.complete ws u g in
      sym a.is ∙ ap tree (ap (value_in a.x) (sym a.read ∙ b.read)) ∙ b.is

  longest_by : (ws front rest : List Word) → ws ≡ front ++ rest → IsLive Has front
      → ((r more : List Word) (w : Word) (t : T) → rest ≡ w ∷ r → Has (front ++ (w ∷ more)) t → ⊥) → IsLongest Has ws (cut ws rest)
  longest_by ws front rest e live none = record {
    inside = omega arith;
    live = subst (IsLive Has) (sym (take_front ws front rest e)) live;
    no_longer = λ n lt le l.
        let g = longer front rest n (omega (arith, cut_front ws front rest e)) (omega (arith, ap length e)) in
        let whole : take n ws ++ l.0 ≡ front ++ (g.word ∷ (g.more ++ l.0)) = ap (λ (v : List Word). take n v ++ l.0) e ∙ ap (λ (v : List Word). v ++ l.0) g.is ∙ append_assoc front (g.word ∷ g.more) l.0 in
        none g.r (g.more ++ l.0) g.word l.1 g.rest_is (subst (λ (v : List Word). Has v l.1) whole l.2);
  }

  -- no form begins with what was read and the word behind it
  beyond : (x : Option X) (front r more : List Word) (w : Word) (t : T) → p (front ++ (w ∷ r)) ≡ outcome x (w ∷ r) → Has (front ++ (w ∷ more)) t → ⊥
  beyond x front r more w t e has =
      let e1 = same p decides.steady x (front ++ (w ∷ [])) w [] r more (ap p (append_assoc front (w ∷ []) r) ∙ e) in
      let c = decides.complete (front ++ (w ∷ more)) t has in
      ends_differ x w more c.x (sym e1 ∙ ap p (append_assoc front (w ∷ []) more) ∙ c.read)

  -- the front of a fault is no whole form
  no_tree : (front rest : List Word) (t : T) → p (front ++ rest) ≡ Err rest → Has front t → ⊥
  no_tree front [] t e has =
      let c = decides.complete front t has in
      let clash : outcome {A = X} (Some c.x) [] ≡ outcome {A = X} None [] = sym c.read ∙ ap p (sym (append-nil front)) ∙ e in absurd cc
  no_tree front (w ∷ r) t e has =
      let c = decides.complete front t has in
      let clash : outcome {A = X} (Some c.x) [] ≡ outcome {A = X} None [] = sym c.read ∙ closes p decides.steady None front w r e in absurd cc

  pub found : (ws : List Word) (x : X) (rest : List Word) → p ws ≡ Ok (x, rest) → IsFound Has ws (tree x) (length ws - length rest)
  found ws x rest e =
      let f = decides.found_has ws x rest e in
      let at : p (f.front ++ rest) ≡ Ok (x, rest) = ap p (sym f.parts) ∙ e in
      record {
        has = subst (λ (v : List Word). Has v (tree x)) (sym (take_front ws f.front rest f.parts)) f.has;
        longest = longest_by ws f.front rest f.parts ([], tree x, subst (λ (v : List Word). Has v (tree x)) (sym (append-nil f.front)) f.has)
            (λ r more w t rest_is has2. beyond (Some x) f.front r more w t (subst (λ (v : List Word). p (f.front ++ v) ≡ Ok (x, v)) rest_is at) has2);
      }

  pub fault : (ws rest : List Word) → p ws ≡ Err rest → IsFault Has ws (length ws - length rest)
  fault ws rest e =
      let f = decides.fault_live ws rest e in
      let at : p (f.front ++ rest) ≡ Err rest = ap p (sym f.parts) ∙ e in
      record {
        none = λ t has. no_tree f.front rest t at (subst (λ (v : List Word). Has v t) (take_front ws f.front rest f.parts) has);
        longest = longest_by ws f.front rest f.parts f.live
            (λ r more w t rest_is has2. beyond None f.front r more w t (subst (λ (v : List Word). p (f.front ++ v) ≡ Err v) rest_is at) has2);
      }

  pub exactly : ReadsExactly Has p tree
  exactly = record {
    found = λ ws x rest e. let f = decides.found_has ws x rest e in (found ws x rest e, left_is ws f.front rest f.parts);
    fault = λ ws rest e. let f = decides.fault_live ws rest e in (fault ws rest e, left_is ws f.front rest f.parts);
    every = λ ws t h. let c = decides.complete ws t h in (c.x, c.read, c.is);
    one = one;
  }

  shorter : (x : Option X) (ws rest : List Word) → p ws ≡ outcome x rest → length rest ≤ length ws
  shorter x ws rest e = suffix_length ws rest (outcome_ends ws (p ws) x rest (decides.steady.ends ws) e)

  -- from a place on
  pub found_at : (from : ℕ) (ws : List Word) (x : X) (rest : List Word) → from ≤ length ws → p (drop from ws) ≡ Ok (x, rest)
      → (length rest ≤ length ws) × (from ≤ length ws - length rest) × IsFound Has (drop from ws) (tree x) (length ws - length rest - from)
  found_at from ws x rest le e =
      let less = shorter (Some x) (drop from ws) rest e in
      let long = length-drop from ws in
      let k : length ws - length rest - from ≡ length (drop from ws) - length rest = omega (arith, long) in
      (omega (arith, less, long), omega (arith, less, long), rw k (found (drop from ws) x rest e))

  pub fault_at : (from : ℕ) (ws rest : List Word) → from ≤ length ws → p (drop from ws) ≡ Err rest
      → (length rest ≤ length ws) × (from ≤ length ws - length rest) × IsFault Has (drop from ws) (length ws - length rest - from)
  fault_at from ws rest le e =
      let less = shorter None (drop from ws) rest e in
      let long = length-drop from ws in
      let k : length ws - length rest - from ≡ length (drop from ws) - length rest = omega (arith, long) in
      (omega (arith, less, long), omega (arith, less, long), rw k (fault (drop from ws) rest e))
