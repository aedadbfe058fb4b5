-- The laws of discovery.
use Rattle.std.specs.Prelude.{◌≡◌, ℕ, ◌+◌, Bool, true, false, cond, not, ◌&&◌, ◌||◌, List, [], ◌∷◌, Option, Some, None, is_some, unwrap_or, slice_get, if◌then◌else◌, bytes_eq, refl}
use Rattle.std.proofs.Common.{◌∙◌, ap, sym, true≢false}
use Rattle.std.specs.Ordering.{nat_cmp, eq_by_cmp}
use Rattle.std.specs.List.{list_any}
use Rattle.std.specs.Cmp.Lexicographic.{slice_cmp, nat_list_cmp_total}
use Rattle.std.specs.FinMap.{FinMap, get, contains_key, insert, remove, empty, len, keys, get-insert, get-remove, get-empty, len-insert, contains_key-keys}
use Rattle.std.proofs.lemmas.Map.Text.{is_eq-slice_cmp}
use Rattle.std.proofs.lemmas.Slice.Eq.{bytes_eq-Decides}
use Rattle.std.proofs.lemmas.Bool.{false≢true}
use Rattle.ui_order.specs.Steps.{has}
use Rattle.ui_order.specs.Found.{Text, Paths, Graph, Found, IsFound, imports_of, begun, is_found, with_unread, with_imports}
use Rattle.ui_order.specs.Laws.{BeginsFound, KeepsFound, ReadsOneMore, ClosesAtEnd}

cond-is_some : {X : Type 0} (b : Bool) (v : X) (o : Option X) → is_some (cond b (Some v) o) ≡ (b || is_some o)
cond-is_some true v o = refl
cond-is_some false v o = refl

cond-without : {X : Type 0} (b : Bool) (o : Option X) → is_some (cond b None o) ≡ (not b && is_some o)
cond-without true o = refl
cond-without false o = refl

cond-unwrap : {X : Type 0} (b : Bool) (v : X) (o : Option X) (d : X) → unwrap_or (cond b (Some v) o) d ≡ cond b v (unwrap_or o d)
cond-unwrap true v o d = refl
cond-unwrap false v o d = refl

first_has : (xs : List Text) (q : Text) → slice_get xs 0 ≡ Some q → list_any (eq_by_cmp (slice_cmp nat_cmp) q) xs ≡ true
first_has [] q e = cc
first_has (x ∷ xs) q e =
    let same : q ≡ x = cc in
    ap (λ b. b || list_any (eq_by_cmp (slice_cmp nat_cmp) q) xs) (is_eq-slice_cmp q x ∙ (bytes_eq-Decides q x).1 same)

none_has : (xs : List Text) (q : Text) → slice_get xs 0 ≡ None → list_any (eq_by_cmp (slice_cmp nat_cmp) q) xs ≡ false
none_has [] q e = refl
none_has (x ∷ xs) q e = cc

module _ {X : Type 0} where
  pub contains-insert : (m : FinMap (slice_cmp nat_cmp) X) (k : Text) (v : X) (q : Text) → contains_key (insert m k v) q ≡ (bytes_eq q k || contains_key m q)
  contains-insert m k v q = ap is_some (get-insert nat_list_cmp_total m k v q) ∙ cond-is_some _ v (get m q) ∙ ap (λ b. b || contains_key m q) (is_eq-slice_cmp q k)

  pub contains-remove : (m : FinMap (slice_cmp nat_cmp) X) (k : Text) (q : Text) → contains_key (remove m k) q ≡ (not (bytes_eq q k) && contains_key m q)
  contains-remove m k q = ap is_some (get-remove nat_list_cmp_total m k q) ∙ cond-without _ (get m q) ∙ ap (λ b. not b && contains_key m q) (is_eq-slice_cmp q k)

  pub contains-first : (m : FinMap (slice_cmp nat_cmp) X) (q : Text) → slice_get (keys m) 0 ≡ Some q → contains_key m q ≡ true
  contains-first m q e = contains_key-keys m q ∙ first_has (keys m) q e

  pub contains-no_first : (m : FinMap (slice_cmp nat_cmp) X) (q : Text) → slice_get (keys m) 0 ≡ None → contains_key m q ≡ false
  contains-no_first m q e = contains_key-keys m q ∙ none_has (keys m) q e

-- the imports after a path was read
pub imports_of-insert : (graph : Graph) (k : Text) (v : List Text) (q : Text) → imports_of (insert graph k v) q ≡ cond (bytes_eq q k) v (imports_of graph q)
imports_of-insert graph k v q = ap (λ o. unwrap_or o []) (get-insert nat_list_cmp_total graph k v q) ∙ cond-unwrap _ v (get graph q) [] ∙ ap (λ b. cond b v (imports_of graph q)) (is_eq-slice_cmp q k)

stays : (b h u r : Bool) → (b ≡ true → r ≡ true) → (u || (h && not r)) ≡ (u || ((b || h) && not r))
stays false h u r e = refl
stays true h true r e = refl
stays true true false r e = refl
stays true false false true e = refl
stays true false false false e = absurd (false≢true (e refl))

enters : (b h u r : Bool) → (b ≡ true → r ≡ false) → ((b || u) || (h && not r)) ≡ (u || ((b || h) && not r))
enters false h u r e = refl
enters true h true r e = refl
enters true h false false e = refl
enters true h false true e = absurd (true≢false (e refl))

-- which paths are unread after a path was read
pub contains-with_unread : (read : Graph) (unread : Paths) (ps : List Text) (q : Text) → contains_key (with_unread read unread ps) q ≡ (contains_key unread q || (has bytes_eq ps q && not (contains_key read q)))
contains-with_unread read unread [] q = elim (contains_key unread q) as (λ b. b ≡ (b || false)) [ true ↦ refl | false ↦ refl ]
contains-with_unread read unread (p ∷ ps) q =
    let same : (b : Bool) → contains_key read p ≡ b → bytes_eq q p ≡ true → contains_key read q ≡ b = λ b e h. ap (λ x. contains_key read x) ((bytes_eq-Decides q p).0 h) ∙ e in
    elim (contains_key read p) as (λ b. contains_key read p ≡ b → contains_key (with_unread read (if b then unread else insert unread p tt) ps) q ≡ (contains_key unread q || ((bytes_eq q p || has bytes_eq ps q) && not (contains_key read q)))) [
      | true ↦ λ e. contains-with_unread read unread ps q ∙ stays (bytes_eq q p) (has bytes_eq ps q) (contains_key unread q) (contains_key read q) (same true e)
      | false ↦ λ e. contains-with_unread read (insert unread p tt) ps q
          ∙ ap (λ b. b || (has bytes_eq ps q && not (contains_key read q))) (contains-insert unread p tt q)
          ∙ enters (bytes_eq q p) (has bytes_eq ps q) (contains_key unread q) (contains_key read q) (same false e)
    ] refl

itself : (q : Text) → bytes_eq q q ≡ true
itself q = (bytes_eq-Decides q q).1 refl

-- e: the path is the one read; u, r: it was unread, read; h: it is one of the imports
kept : (e u r h : Bool) → (u || r) ≡ true → (((not e && u) || (h && not (e || r))) || (e || r)) ≡ true
kept true u r true k = refl
kept true u r false k = refl
kept false true r h k = refl
kept false false true true k = refl
kept false false true false k = refl
kept false false false h k = absurd (false≢true k)

added : (a h r : Bool) → h ≡ true → ((a || (h && not r)) || r) ≡ true
added true h r k = refl
added false true true k = refl
added false true false k = refl
added false false r k = absurd (false≢true k)

module _ (found : Found) (path : Text) (imports : List Text) where
  unread_now : (q : Text) → contains_key (with_imports found path imports).unread q ≡ ((not (bytes_eq q path) && contains_key found.unread q) || (has bytes_eq imports q && not (bytes_eq q path || contains_key found.read q)))
  unfolding with_imports
  unread_now q =
      contains-with_unread (insert found.read path imports) (remove found.unread path) imports q
      ∙ (λ i. contains-remove found.unread path q i || (has bytes_eq imports q && not (contains-insert found.read path imports q i)))

  read_now : (q : Text) → contains_key (with_imports found path imports).read q ≡ (bytes_eq q path || contains_key found.read q)
  unfolding with_imports
  read_now q = contains-insert found.read path imports q

  found_now : (q : Text) → is_found (with_imports found path imports) q ≡ (((not (bytes_eq q path) && contains_key found.unread q) || (has bytes_eq imports q && not (bytes_eq q path || contains_key found.read q))) || (bytes_eq q path || contains_key found.read q))
  found_now q = λ i. unread_now q i || read_now q i

  pub imports_now : (p : Text) → imports_of (with_imports found path imports).read p ≡ cond (bytes_eq p path) imports (imports_of found.read p)
  unfolding with_imports
  imports_now p = imports_of-insert found.read path imports p

  stays_found : (q : Text) → is_found found q ≡ true → is_found (with_imports found path imports) q ≡ true
  stays_found q h = found_now q ∙ kept (bytes_eq q path) (contains_key found.unread q) (contains_key found.read q) (has bytes_eq imports q) h

  import_found : (q : Text) → has bytes_eq imports q ≡ true → is_found (with_imports found path imports) q ≡ true
  import_found q h = found_now q ∙ added _ (has bytes_eq imports q) (bytes_eq q path || contains_key found.read q) h

  all_found : (root : Text) → IsFound root found → (p q : Text) (b : Bool) → has bytes_eq (cond b imports (imports_of found.read p)) q ≡ true → is_found (with_imports found path imports) q ≡ true
  all_found root f p q true h = import_found q h
  all_found root f p q false h = stays_found q (f.holds_imports p q h)

apart_now : (e u r h : Bool) → (u ≡ true → r ≡ false) → ((not e && u) || (h && not (e || r))) ≡ true → (e || r) ≡ false
apart_now true u r true f k = absurd (false≢true k)
apart_now true u r false f k = absurd (false≢true k)
apart_now false true r h f k = f refl
apart_now false false false h f k = refl
apart_now false false true true f k = absurd (false≢true k)
apart_now false false true false f k = absurd (false≢true k)

no_imports : (p : Text) → imports_of empty p ≡ []
no_imports p = ap (λ o. unwrap_or o []) (get-empty (slice_cmp nat_cmp) p)

nothing_read : (q : Text) → contains_key {X = List Text} {R = slice_cmp nat_cmp} empty q ≡ false
nothing_read q = ap is_some (get-empty (slice_cmp nat_cmp) q)

put_in : (paths : Paths) (root : Text) → contains_key (insert paths root tt) root ≡ true
put_in paths root = contains-insert paths root tt root ∙ ap (λ b. b || contains_key paths root) (itself root)

pub IsFound-begun : BeginsFound
unfolding begun
IsFound-begun root = record {
  holds_root = ap (λ b. b || contains_key {X = List Text} {R = slice_cmp nat_cmp} empty root) (put_in empty root);
  holds_imports = λ p q h. absurd (false≢true (ap (λ xs. has bytes_eq xs q) (sym (no_imports p)) ∙ h));
  apart = λ p h. nothing_read p;
}

pub IsFound-with_imports : KeepsFound
IsFound-with_imports root found path imports f = record {
  holds_root = stays_found found path imports root f.holds_root;
  holds_imports = λ p q h. all_found found path imports root f p q (bytes_eq p path) (ap (λ xs. has bytes_eq xs q) (sym (imports_now found path imports p)) ∙ h);
  apart = λ p h. read_now found path imports p
      ∙ apart_now (bytes_eq p path) (contains_key found.unread p) (contains_key found.read p) (has bytes_eq imports p) (f.apart p) (sym (unread_now found path imports p) ∙ h);
}

one_more : (b : Bool) (n : ℕ) → b ≡ false → cond b n (n + 1) ≡ n + 1
one_more true n e = absurd (true≢false e)
one_more false n e = refl

pub reads_one_more : ReadsOneMore
unfolding with_imports
reads_one_more root found path imports f turn =
    len-insert nat_list_cmp_total found.read path imports
    ∙ one_more (contains_key found.read path) (len found.read) (f.apart path (contains-first found.unread path turn))

pub closes_at_end : ClosesAtEnd
closes_at_end root found f end =
    let read : (q : Text) → is_found found q ≡ true → contains_key found.read q ≡ true = λ q h. ap (λ b. b || contains_key found.read q) (sym (contains-no_first found.unread q end)) ∙ h in
    (read root f.holds_root, λ p q h. read q (f.holds_imports p q h))
