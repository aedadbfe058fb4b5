-- Terms and sums, by the trees that they are seen as.
use Rattle.std.proofs.Common.{◌≡◌, true, false, cond, List, [], ◌∷◌, ◌++◌, Ok, Err, refl, ap, ◌∙◌}
use Rattle.ui_base.specs.declared.value.Spot.{Spot}
use Rattle.ui_base.specs.declared.value.Value.{Value}
use Rattle.ui_base.specs.declared.kind.BinOp.{BinOp}
use Rattle.ui_tree.specs.declared.part.Placed.{Placed}
use Rattle.ui_tree.specs.declared.part.LiteralKind.{LiteralKind}
use Rattle.ui_tree.specs.declared.expr.ExprTree.{ExprTree}
use Rattle.ui_tree.specs.declared.expr.ExprTree.TheVariants as ev
use Rattle.ui_tree.specs.Tree.{Tree, literal, name, selector, binary}
use Rattle.ui_tree.specs.View.{kept, view}
use Rattle.ui_tree.specs.Views.{seen_Binary}
use Rattle.ui_tree.proofs.Apart.{apart_Binary, apart_Literal, apart_Name, apart_Selector}
use Rattle.ui_tree.specs.Spots.{tree_spot}
use Rattle.ui_forms.specs.Sums.{Known, alone, followed, is_add, selected, term_of, terms_of}
use Rattle.ui_forms.specs.Choosing.{GivesPart}
use Rattle.ui_forms.specs.declared.part.Term.{Term}
use Rattle.ui_forms.specs.declared.fault.PartFault.{PartFault}
use Rattle.ui_forms.specs.declared.fault.PartFault.TheVariants.{NotTaken, NoMemory}

-- ---- other trees

other_term : (imports own : Known) (t : Tree) → ((s : Spot) (k : LiteralKind) (v : Value) → t ≡ literal s k v → ⊥) → ((n : Placed) → t ≡ name n → ⊥) → ((s : Spot) (e : Tree) (n : Placed) → t ≡ selector s e n → ⊥) → term_of imports own t ≡ Err (tree_spot t)
other_term imports own (literal s k v) a b c = absurd (a s k v refl)
other_term imports own (name n) a b c = absurd (b n refl)
other_term imports own (selector s e n) a b c = absurd (c s e n refl)
other_term imports own t a b c = refl

pub no_term : (imports own : Known) (e : ExprTree) → ((s : Spot) (k : LiteralKind) (v : Value) → e ≡ ev.Literal s k v → ⊥) → ((n : Placed) → e ≡ ev.Name n → ⊥) → ((s : Spot) (of : ExprTree) (n : Placed) → e ≡ ev.Selector s of n → ⊥) → term_of imports own (view e) ≡ Err (tree_spot (view e))
no_term imports own e a b c = other_term imports own (view e) (apart_Literal kept e a) (apart_Name kept e b) (apart_Selector kept e c)

other_sum : (imports own : Known) (t : Tree) → ((s : Spot) (op : BinOp) (l r : Tree) → t ≡ binary s op l r → ⊥) → terms_of imports own t ≡ alone (term_of imports own t)
other_sum imports own (binary s op l r) a = absurd (a s op l r refl)
other_sum imports own t a = refl

pub no_sum : (imports own : Known) (e : ExprTree) → ((s : Spot) (op : BinOp) (l r : ExprTree) → e ≡ ev.Binary s op l r → ⊥) → terms_of imports own (view e) ≡ alone (term_of imports own (view e))
no_sum imports own e a = other_sum imports own (view e) (apart_Binary kept e a)

other_name : (imports : Known) (s : Spot) (t : Tree) (n : Placed) → ((m : Placed) → t ≡ name m → ⊥) → selected imports s t n ≡ Err s
other_name imports s (name m) n a = absurd (a m refl)
other_name imports s t n a = refl

pub no_name : (imports : Known) (s : Spot) (e : ExprTree) (n : Placed) → ((m : Placed) → e ≡ ev.Name m → ⊥) → selected imports s (view e) n ≡ Err s
no_name imports s e n a = other_name imports s (view e) n (apart_Name kept e a)

-- ---- two operands

module _ (imports own : Known) (e : ExprTree) (s : Spot) (op : BinOp) (l r : ExprTree) (is : e ≡ ev.Binary s op l r) where
  pair : terms_of imports own (view e) ≡ cond (is_add op) (followed (terms_of imports own (view l)) (term_of imports own (view r))) (Err s)
  pair = ap (terms_of imports own) (ap view is ∙ seen_Binary kept s op l r)

  pub not_added : is_add op ≡ false → terms_of imports own (view e) ≡ Err s
  not_added fails = pair ∙ ap (λ b. cond b (followed (terms_of imports own (view l)) (term_of imports own (view r))) (Err s)) fails

  pub added : is_add op ≡ true → terms_of imports own (view e) ≡ followed (terms_of imports own (view l)) (term_of imports own (view r))
  added holds = pair ∙ ap (λ b. cond b (followed (terms_of imports own (view l)) (term_of imports own (view r))) (Err s)) holds

  pub left_stops : (x : PartFault) → is_add op ≡ true → GivesPart (terms_of imports own (view l)) (Err x) → GivesPart (terms_of imports own (view e)) (Err x)
  left_stops (NotTaken p) holds g = added holds ∙ ap (λ ts. followed ts (term_of imports own (view r))) g
  left_stops NoMemory holds g = tt

  pub right_stops : (ts : List Term) (x : PartFault) → is_add op ≡ true → terms_of imports own (view l) ≡ Ok ts → GivesPart (term_of imports own (view r)) (Err x) → GivesPart (terms_of imports own (view e)) (Err x)
  right_stops ts (NotTaken p) holds left g = added holds ∙ ap (λ x. followed x (term_of imports own (view r))) left ∙ ap (followed (Ok ts)) g
  right_stops ts NoMemory holds left g = tt

  pub both_taken : (ts : List Term) (t : Term) → is_add op ≡ true → terms_of imports own (view l) ≡ Ok ts → term_of imports own (view r) ≡ Ok t → terms_of imports own (view e) ≡ Ok (ts ++ t ∷ [])
  both_taken ts t holds left right = added holds ∙ ap (λ x. followed x (term_of imports own (view r))) left ∙ ap (followed (Ok ts)) right
