-- The elements of a literal are read.
use Rattle.std.proofs.Common.{◌≡◌, inl, inr, ℕ, suc, ◌≤◌, max, Bool, true, false, List, ◌∷◌, None, Ok, refl, sym, ap, subst, ◌∙◌, arith}
use Rattle.std.specs.Prelude.{nat_le}
use Rattle.std.proofs.lemmas.Bool.{le-leb}
use Rattle.ui_base.specs.declared.value.Spot.{Spot}
use Rattle.ui_scan.specs.declared.kind.TokenKind.TheVariants.{LBrace, RBrace, Comma, Colon}
use Rattle.ui_tree.specs.Tree.{Tree, elided, keyed, Trees, trees_end, tree_and}
use Rattle.ui_tree.specs.View.{trees}
use Rattle.ui_grammar.specs.Word.{Word, mark, Mark, Closes, Begins}
use Rattle.ui_grammar.specs.Spells.{Spells, SpellsTrees}
use Rattle.ui_grammar.specs.Fits.{plain, element, item as in_item, depth, trees_depth, Fits, FitsTrees}
use Rattle.ui_parse.specs.Reader.{first, marked, take_by, parts}
use Rattle.ui_parse.proofs.TurnLaws.{parts_close, parts_next, parts_end}
use Rattle.ui_syntax.specs.declared.site.Site.TheVariants.{Plain}
use Rattle.ui_syntax.specs.Types.{Nested, Listed, add, empty, any_end}
use Rattle.ui_syntax.specs.Exprs.{of_tree, item, elem, braces}
use Rattle.ui_syntax.proofs.ByBudget.{ReadsTo, ElemsReadTo, IsComplete}
use Rattle.ui_syntax.proofs.Quiet.{stop_brace, stop_comma, stop_colon, Stop, stop_mark, stop_closes}
use Rattle.ui_syntax.proofs.Places.{ItemCase, an_item, in_braces, item_case, ElementCase, one_item, with_key, element_case}
use Rattle.ui_syntax.proofs.FirstWords.{same_spot}
use Rattle.ui_syntax.proofs.SteadyTypes.{AreSteady}
use Rattle.ui_syntax.proofs.SteadyExprs.{steady_elem}
use Rattle.ui_syntax.proofs.CompleteExprsTrees.{no_mark, read_as}
use Rattle.ui_syntax.proofs.CompleteExprsParts.{plain_reads}
use Rattle.ui_syntax.proofs.CompleteExprsLists.{trees_of_list, with_trees, trees_none, trees_more}

no_colon : (a rest : List Word) → Closes Comma RBrace a rest → first (marked Colon) a ≡ None
no_colon a rest (inl m) = ap (first (marked Colon)) m.is
no_colon a rest (inr p) = ap (first (marked Colon)) p.1.is

module _ (room low : ℕ) (inner : Nested) (c : IsComplete room low inner) (steady : AreSteady inner) where
  plain_item : (e : Tree) (ts m : List Word) → Spells e ts m → Fits e plain → depth e ≤ room → Stop m → (b : Bool) → nat_le 1 room ≡ b → ReadsTo (item room inner ts) e (depth e) ts m
  unfolding take_by
  plain_item e ts m s f le stop b e_is =
      let r = plain_reads room low inner c e ts m s f le stop in
      let no_brace = no_mark LBrace e plain ts m refl s f in
      record { read = r.read; is = by_room b e_is no_brace ∙ r.is; tree = r.tree; depth = r.depth; begins = r.begins }
    where
      by_room : (b : Bool) → nat_le 1 room ≡ b → first (marked LBrace) ts ≡ None → item room inner ts ≡ inner.level Plain 1 ts
      by_room true e_is no_brace = rw (e_is, no_brace) refl
      by_room false e_is no_brace = rw e_is refl

  braces_item : (x : Spot) (es : Trees) (ts a m : List Word) → ts ≡ mark LBrace x ∷ a → SpellsTrees RBrace false es a m → FitsTrees es element → suc (trees_depth es) ≤ room → ReadsTo (item room inner ts) (elided x es) (suc (trees_depth es)) ts m
  unfolding take_by
  braces_item x es ts a m first_is s f le =
      let r = c.braces a m es s f le in
      let roomy : nat_le 1 room ≡ true = le-leb 1 room (omega arith) in
      record {
        read = of_tree (elided x (trees r.read.items)) x (suc r.read.depth);
        is = rw (first_is, roomy, r.is) refl;
        tree = ap (elided x) r.all;
        depth = ap suc r.depth;
        begins = subst (Begins x) (sym first_is) refl;
      }

  item_reads : (e : Tree) (ts m : List Word) → Spells e ts m → Fits e in_item → depth e ≤ room → Stop m → ReadsTo (item room inner ts) e (depth e) ts m
  item_reads e ts m s f le stop = by_case (item_case e f)
    where
      by_case : ItemCase e → ReadsTo (item room inner ts) e (depth e) ts m
      by_case (an_item g) = plain_item e ts m s g le stop (nat_le 1 room) refl
      by_case (in_braces x es same g) =
          let w = subst (λ (x : Tree). Spells x ts m) same s in
          subst (λ (x : Tree). ReadsTo (item room inner ts) x (depth x) ts m) (sym same) (braces_item x es ts w.0 m w.1 w.2 g (subst (λ (x : Tree). depth x ≤ room) same le))

  keyed_is : (l : Listed Tree) (k v : Tree) (x y : Spot) (i j : ℕ) (ts a b m : List Word) → item room inner ts ≡ Ok (of_tree k x i, a) → Mark Colon a b → item room inner b ≡ Ok (of_tree v y j, m) → elem room inner l ts ≡ Ok (add l (keyed x k v) (max i j), m)
  unfolding elem take_by
  keyed_is l k v x y i j ts a b m key colon value = rw (key, colon.is, value) refl

  keyed_reads : (l : Listed Tree) (x : Spot) (k v : Tree) (ts m : List Word) → Spells (keyed x k v) ts m → Fits k in_item → Fits v in_item → max (depth k) (depth v) ≤ room → Stop m → elem room inner l ts ≡ Ok (add l (keyed x k v) (max (depth k) (depth v)), m)
  keyed_reads l x k v ts m w f g le stop =
      let key = item_reads k ts w.0 w.3 f (omega arith) (stop_mark Colon w.0 w.1 stop_colon w.4) in
      let value = item_reads v w.1 m w.5 g (omega arith) stop in
      keyed_is l k v key.read.spot value.read.spot (depth k) (depth v) ts w.0 w.1 m (read_as key) w.4 (read_as value)
      ∙ ap (λ (y : Spot). Ok (add l (keyed y k v) (max (depth k) (depth v)), m)) (same_spot key.read.spot x ts key.begins w.2)

  elem_reads : (l : Listed Tree) (e : Tree) (ts m : List Word) → Spells e ts m → Fits e element → depth e ≤ room → Stop m → first (marked Colon) m ≡ None → elem room inner l ts ≡ Ok (add l e (depth e), m)
  unfolding elem take_by
  elem_reads l e ts m s f le stop quiet = by_case (element_case e f)
    where
      by_case : ElementCase e → elem room inner l ts ≡ Ok (add l e (depth e), m)
      by_case (one_item g) = rw (read_as (item_reads e ts m s g le stop), quiet) refl
      by_case (with_key x k v same g h) =
          keyed_reads l x k v ts m (subst (λ (x : Tree). Spells x ts m) same s) g h (subst (λ (x : Tree). depth x ≤ room) same le) stop
          ∙ ap (λ (x : Tree). Ok (add l x (depth x), m)) (sym same)

  elems_read : (es : Trees) (l : Listed Tree) (ts rest : List Word) → SpellsTrees RBrace false es ts rest → FitsTrees es element → trees_depth es ≤ room → parts Comma RBrace any_end (elem room inner) l ts ≡ Ok (with_trees l es, rest)
  elems_read trees_end l ts rest s fits le =
      ap (parts Comma RBrace any_end (elem room inner) l) s.1.is ∙ parts_close Comma RBrace any_end (elem room inner) (steady_elem room inner steady) l s.1.spot rest refl ∙ ap (λ (x : Listed Tree). Ok (x, rest)) (trees_none l)
  elems_read (tree_and e trees_end) l ts rest s fits le =
      let closes = subst (λ (m : List Word). Closes Comma RBrace m rest) (sym s.2.1) s.2.2 in
      parts_end Comma RBrace any_end (elem room inner) (steady_elem room inner steady) l ts (add l e (depth e)) s.0 rest (no_mark RBrace e element ts s.0 refl s.1 fits.0)
      (elem_reads l e ts s.0 s.1 fits.0 (omega arith) (stop_closes Comma RBrace s.0 rest stop_comma stop_brace closes) (no_colon s.0 rest closes)) refl refl closes
      ∙ ap (λ (x : Listed Tree). Ok (x, rest)) (trees_none (add l e (depth e)) ∙ trees_more l e trees_end)
  elems_read (tree_and e (tree_and g es)) l ts rest s fits le =
      let tail = s.2 in
      parts_next Comma RBrace any_end (elem room inner) (steady_elem room inner steady) l ts (add l e (depth e)) tail.2.spot tail.0 (no_mark RBrace e element ts s.0 refl s.1 fits.0)
      (elem_reads l e ts s.0 s.1 fits.0 (omega arith) (stop_mark Comma s.0 tail.0 stop_comma tail.2) (ap (first (marked Colon)) tail.2.is) ∙ ap (λ (m : List Word). Ok (add l e (depth e), m)) tail.2.is) refl
      ∙ elems_read (tree_and g es) (add l e (depth e)) tail.0 rest (tail.1, tail.3, tail.4) fits.1 (omega arith)
      ∙ ap (λ (x : Listed Tree). Ok (x, rest)) (trees_more l e (tree_and g es))

  pub braces_complete : (ts rest : List Word) (es : Trees) → SpellsTrees RBrace false es ts rest → FitsTrees es element → suc (trees_depth es) ≤ suc room → ElemsReadTo (braces room inner ts) es rest
  unfolding braces
  braces_complete ts rest es s fits le = record { read = with_trees empty es; is = elems_read es empty ts rest s fits (omega arith); all = trees_of_list es; depth = omega arith }
