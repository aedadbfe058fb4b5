-- Sets of ids, read in a table, in which equal trees have equal ids.
use Rattle.std.proofs.Common.{◌≡◌, ℕ, suc, ◌+◌, Bool, true, false, ◌||◌, List, [], ◌∷◌, ◌++◌, length}
use Rattle.std.proofs.Common.{take, refl, sym, ap, ◌∙◌, arith, rules, Decides, length-append}
use Rattle.std.specs.Prelude.{All, if◌then◌else◌}
use Rattle.std.specs.List.{list_any}
use Rattle.std.proofs.lemmas.Bool.Decides.{Decides-eqb}
use Rattle.std.proofs.lemmas.List.{map-append, take_all, take-append-le}
use Rattle.std.proofs.lemmas.List.Elements.{All-head, All-tail, All-push}
use Rattle.indexmap.specs.IndexSet.{insert_key}
use Rattle.ui_types.specs.declared.id.TypeId.{TypeId}
use Rattle.ui_types.specs.contracts.id.TypeIdPartialEq.TheImpl.{ghosts as ids}
use Rattle.ui_types.specs.Table.{Table, IsId, AreIds, tree, trees}
use Rattle.ui_types.specs.Same.{same_type}
use Rattle.ui_types.proofs.SameLemmas.{same_type_is}
use Rattle.ui_satisfy.specs.Search.{is_in, put}
use Rattle.ui_satisfy.specs.Marks.{IsLonger}
use Rattle.ui_satisfy.proofs.Walks.{longer_refl}

abbrev pub Once : Table → Type 0
Once table = (a b : TypeId) → IsId table a → IsId table b → tree table a ≡ tree table b → a ≡ b

Decides-id : (a b : TypeId) → Decides (ids.eq a b) (a ≡ b)
Decides-id a b = search (rules, Decides-eqb)

eq_same : (table : Table) → Once table → (a b : TypeId) → IsId table a → IsId table b
    → ids.eq a b ≡ same_type (tree table a) (tree table b)
eq_same table once a b p q =
    same_type_is (ids.eq a b) (tree table a) (tree table b)
    (λ h. ap (tree table) ((Decides-id a b).0 h), λ e. (Decides-id a b).1 (once a b p q e))

pub in_marks : (table : Table) → Once table → (id : TypeId) (ks : List TypeId) → IsId table id
    → AreIds table ks → list_any (ids.eq id) ks ≡ is_in (tree table id) (trees table ks)
in_marks table once id [] v w = refl
in_marks table once id (k ∷ ks) v w = λ j.
    eq_same table once id k v (All-head (IsId table) k ks w) j
    || in_marks table once id ks v (All-tail (IsId table) k ks w) j

module _ (table : Table) (once : Once table) (id : TypeId) (ks : List TypeId) (v : IsId table id)
    (w : AreIds table ks) where
  put_by : (b : Bool) → trees table (if b then ks else ks ++ id ∷ [])
      ≡ (if b then trees table ks else trees table ks ++ tree table id ∷ [])
  put_by true = refl
  put_by false = map-append (tree table) ks (id ∷ [])

  pub put_marks : trees table (insert_key ids.eq ks id) ≡ put (tree table id) (trees table ks)
  put_marks =
      put_by (list_any (ids.eq id) ks)
      ∙ ap (λ (b : Bool). if b then trees table ks else trees table ks ++ tree table id ∷ [])
      (in_marks table once id ks v w)

  pub put_valid : AreIds table (insert_key ids.eq ks id)
  put_valid = by (list_any (ids.eq id) ks)
    where
      by : (b : Bool) → AreIds table (if b then ks else ks ++ id ∷ [])
      by true = w
      by false = All-push (IsId table) ks id w v

  pub put_longer : IsLonger ks (insert_key ids.eq ks id)
  put_longer = by (list_any (ids.eq id) ks)
    where
      by : (b : Bool) → IsLonger ks (if b then ks else ks ++ id ∷ [])
      by true = longer_refl ks
      by false = record {
        front = take-append-le (length ks) ks (id ∷ []) (omega arith)
            ∙ take_all (length ks) ks (omega arith);
        longer = omega (arith, length-append ks (id ∷ []));
      }

  pub put_more : is_in (tree table id) (trees table ks) ≡ false → length (insert_key ids.eq ks id)
      ≡ suc (length ks)
  put_more e = by (list_any (ids.eq id) ks) (in_marks table once id ks v w ∙ e)
    where
      by : (b : Bool) → b ≡ false → length (if b then ks else ks ++ id ∷ []) ≡ suc (length ks)
      by true f = absurd cc
      by false f = omega (arith, length-append ks (id ∷ []))
