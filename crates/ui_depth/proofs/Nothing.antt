-- Nothing has the depth 0: what the readers of a budget of four take or refuse at the first word, those of each greater one do.
use Rattle.std.proofs.Common.{◌≡◌, ℕ, zero, suc, ◌≤◌, true, List, [], ◌∷◌, length, Option, Some, None, Err, refl, sym, ap, subst, ◌∙◌, arith}
use Rattle.std.specs.Prelude.{nat_le}
use Rattle.std.proofs.lemmas.Bool.{le-leb}
use Rattle.ui_base.specs.declared.value.Spot.{Spot}
use Rattle.ui_scan.specs.declared.kind.TokenKind.TheVariants.{LParen, LBracket, LBrace, RBrace, Comma, Colon, Mul, Tilde, Map, Func, Struct, Interface}
use Rattle.ui_tree.specs.declared.part.Placed.{Placed}
use Rattle.ui_tree.specs.Tree.{TypeTree, Tree}
use Rattle.ui_grammar.specs.Word.{Word}
use Rattle.ui_parse.specs.Reader.{Outcome, Reader, ◌>>=◌, pure, refuse, first, marked, named as a_name, parts, more_parts, rest_of as left}
use Rattle.ui_parse.proofs.Outcomes.{marked_is, named_is}
use Rattle.ui_parse.proofs.Steady.{Steady, steady_pure, steady_bind, steady_if, steady_take, steady_parts, steady_more_parts}
use Rattle.ui_parse.proofs.TurnLaws.{parts_step, parts_close}
use Rattle.ui_syntax.specs.declared.site.Site.{Site}
use Rattle.ui_syntax.specs.declared.site.Site.TheVariants.{Header, Plain, Wrapped, Argument}
use Rattle.ui_syntax.specs.declared.site.TypeSite.{TypeSite}
use Rattle.ui_syntax.specs.declared.site.TypeSite.TheVariants as at
use Rattle.ui_syntax.specs.Cover.{Read}
use Rattle.ui_syntax.specs.Types.{Listed, any_end, empty, named_type, a_type, operand_type, marked_type, other_type, plain_type, union_from, element, maybe_type}
use Rattle.ui_syntax.specs.Exprs.{a_literal, a_prefix, maybe_behind, type_operand, operand, primary, unary_expr, level, item, add_elem, elem, braces}
use Rattle.ui_syntax.specs.Read.{readers}
use Rattle.ui_syntax.proofs.SteadyTypes.{steady_or_refuse, steady_a_type, steady_named_type, steady_signature, steady_bracket_type, steady_plain_type, steady_union_from, steady_maybe_union}
use Rattle.ui_syntax.proofs.SteadyExprs.{steady_suffixes, steady_operations, steady_elem, steady_maybe_behind, steady_parenthesized_operand, steady_prefixed}
use Rattle.ui_syntax.proofs.Steady.{readers_steady}
use Rattle.ui_depth.proofs.Deeper.{reads, faults, Deeper, beyond, deeper_as, Deepens, Never, deep_pure, deep_wide, deep_ahead, deep_refuse_then, deep_none_then}
use Rattle.ui_depth.proofs.Goes.{goes, begins, goes_type, begins_goes}
use Rattle.ui_depth.proofs.Ends.{steady_func, steady_struct, steady_interface, steady_map, steady_pointer, steady_parenthesized}
use Rattle.ui_depth.proofs.Budgets.{none_stops, MaybeStop, AnyStop, AreDeeper}

module _ (h : ℕ → ℕ) where
  abbrev Room : ℕ → ℕ
  Room e = suc (h e)

  one_wide : (e : ℕ) → nat_le 1 (Room e) ≡ true
  one_wide e = le-leb _ _ (omega arith)

  -- ---- types

  abbrev Opens : TypeSite → (ℕ → Reader (Option (Read TypeTree))) → Type 0
  Opens p q = Deepens (MaybeStop p) (pure None) q

  first_operand_type : (p : TypeSite) (others : ℕ → Reader (Option (Read TypeTree))) → Opens p others → Opens p (λ e. operand_type (Room e) (readers (Room e)) p (others e))
  unfolding operand_type
  first_operand_type p others is = deep_ahead (marked Func) (λ s w r e. none_stops p w r (ap goes_type (marked_is Func w s e))) (λ e s u. (steady_func (Room e) (readers (Room e)) (readers_steady (Room e)) s).ends u)
      (deep_ahead (marked Struct) (λ s w r e. none_stops p w r (ap goes_type (marked_is Struct w s e))) (λ e s u. (steady_struct (Room e) (readers (Room e)) (readers_steady (Room e)) s).ends u)
      (deep_ahead (marked Interface) (λ s w r e. none_stops p w r (ap goes_type (marked_is Interface w s e))) (λ e s u. (steady_interface (Room e) (readers (Room e)) (readers_steady (Room e)) s).ends u)
      (deep_wide (λ e. nat_le 1 (Room e)) _ one_wide
      (deep_ahead (marked LBracket) (λ s w r e. none_stops p w r (ap goes_type (marked_is LBracket w s e)))
      (λ e s u. (steady_bind (steady_bracket_type (Room e) (readers (Room e)) (readers_steady (Room e)) p s) (λ t. steady_pure (Some t))).ends u)
      (deep_ahead (marked Map) (λ s w r e. none_stops p w r (ap goes_type (marked_is Map w s e))) (λ e s u. (steady_map (Room e) (readers (Room e)) (readers_steady (Room e)) s).ends u) is)))))

  first_marked_type : Opens at.Plain (λ e. marked_type (Room e) (readers (Room e)))
  first_marked_type = deep_wide (λ e. nat_le 1 (Room e)) _ one_wide
      (deep_ahead (marked Mul) (λ s w r e. reads None refl (ap begins (marked_is Mul w s e))) (λ e s u. (steady_pointer (Room e) (readers (Room e)) (readers_steady (Room e)) s).ends u)
      (deep_ahead (marked LParen) (λ s w r e. reads None refl (ap begins (marked_is LParen w s e))) (λ e s u. (steady_parenthesized (Room e) (readers (Room e)) (readers_steady (Room e)) s).ends u) (deep_pure None)))

  first_other_type : Opens at.Plain (λ e. other_type (Room e) (readers (Room e)))
  first_other_type = first_operand_type at.Plain (λ e. marked_type (Room e) (readers (Room e))) first_marked_type

  named_steady : (e : ℕ) (p : Placed) → Steady (named_type (suc (Room e)) (a_type (Room e) (readers (Room e))) p)
  named_steady e p = steady_named_type (a_type (Room e) (readers (Room e))) (steady_a_type (Room e) (readers (Room e)) (readers_steady (Room e))) (suc (Room e)) p

  first_plain_type : Opens at.Plain (λ e. plain_type (Room e) (readers (Room e)))
  unfolding plain_type
  first_plain_type = deep_ahead a_name (λ p w r e. reads None refl (ap begins (named_is w p e))) (λ e p u. (steady_bind (named_steady e p) (λ t. steady_pure (Some t))).ends u) first_other_type

  union_steady : (e : ℕ) (t : Read TypeTree) → Steady (union_from (Room e) (readers (Room e)) t)
  union_steady e t = steady_union_from (Room e) (readers (Room e)) (readers_steady (Room e)) t

  first_element : Opens at.Element (λ e. element (Room e) (readers (Room e)))
  unfolding element
  first_element = deep_ahead a_name (λ p w r e. reads None refl (ap goes (named_is w p e)))
      (λ e p u. (steady_take (marked LParen) (λ _. steady_bind (steady_signature (Room e) (readers (Room e)) (readers_steady (Room e)) _) (λ t. steady_pure (Some t))) (steady_bind (named_steady e p) (union_steady e))).ends u)
      (deep_ahead (marked Tilde) (λ s w r e. reads None refl (ap goes (marked_is Tilde w s e)))
      (λ e s u. (steady_bind (steady_bind (steady_plain_type (Room e) (readers (Room e)) (readers_steady (Room e))) steady_or_refuse) (λ t. union_steady e _)).ends u)
      (deep_none_then (pure None) first_other_type (λ e u. refl) (λ w r g. reads None refl (begins_goes w g)) (λ e x u. (steady_maybe_union (Room e) (readers (Room e)) (readers_steady (Room e)) x).ends u)))

  first_type : (p : TypeSite) → Opens p (λ e. maybe_type (Room e) (readers (Room e)) p)
  unfolding maybe_type
  first_type at.Plain = first_plain_type
  first_type at.Element = first_element
  first_type at.Operand = first_operand_type at.Operand (λ e. pure None) (deep_pure None)
  first_type at.Argument = first_operand_type at.Argument (λ e. pure None) (deep_pure None)

  lower_type : (p : TypeSite) → Opens p (λ e. (readers (suc (Room e))).maybe_type p)
  unfolding readers
  lower_type p = first_type p

-- ---- expressions

module _ (h : ℕ → ℕ) where
  abbrev Wide : ℕ → ℕ
  Wide e = suc (suc (h e))

  wide : (e : ℕ) → nat_le 1 (Wide e) ≡ true
  wide e = le-leb _ _ (omega arith)

  abbrev Refused : {A : Type 0} → (ℕ → Reader A) → Type 0
  Refused q = Deepens Never refuse q

  behind_none : (site : Site) (p : TypeSite) (q : ℕ → Reader (Option (Read TypeTree))) → Deepens (MaybeStop p) (pure None) q → Refused (λ e. q e >>= maybe_behind (Wide e) (readers (Wide e)) site)
  behind_none site p q is = deep_none_then refuse is (λ e u. refl) (λ w r g. faults refl) (λ e x u. (steady_maybe_behind (Wide e) (readers (Wide e)) (readers_steady (Wide e)) site x).ends u)

  first_type_operand : (site : Site) → Refused (λ e. type_operand (Wide e) (readers (Wide e)) site)
  first_type_operand Argument = behind_none Argument at.Argument _ (first_type (λ e. suc (h e)) at.Argument)
  first_type_operand Header = behind_none Header at.Operand _ (lower_type h at.Operand)
  first_type_operand Plain = behind_none Plain at.Operand _ (lower_type h at.Operand)
  first_type_operand Wrapped = behind_none Wrapped at.Operand _ (lower_type h at.Operand)

  first_operand : (site : Site) → Refused (λ e. operand (Wide e) (readers (Wide e)) site)
  unfolding operand
  first_operand site = deep_ahead a_literal (λ l w r e. faults refl) (λ e l u. (steady_pure _).ends u) (deep_ahead a_name (λ p w r e. faults refl) (λ e p u. (steady_pure _).ends u)
      (deep_wide (λ e. nat_le 1 (Wide e)) _ wide
      (deep_ahead (marked LParen) (λ s w r e. faults refl) (λ e s u. (steady_parenthesized_operand (Wide e) (readers (Wide e)) (readers_steady (Wide e)) site s).ends u) (first_type_operand site))))

  first_primary : (site : Site) → Refused (λ e. primary (Wide e) (readers (Wide e)) site)
  unfolding primary
  first_primary site = deep_refuse_then (first_operand site) (λ e f u. (steady_suffixes (Wide e) (readers (Wide e)) (readers_steady (Wide e)) site (suc (suc (Wide e))) f).ends u)

  first_unary : (site : Site) → Refused (λ e. unary_expr (Wide e) (readers (Wide e)) site)
  unfolding unary_expr
  first_unary site = deep_wide (λ e. nat_le 1 (Wide e)) _ wide
      (deep_ahead a_prefix (λ o w r e. faults refl) (λ e o u. (steady_prefixed (Wide e) (readers (Wide e)) (readers_steady (Wide e)) site o).ends u) (first_primary site))

  first_level : {D : Read Tree → Word → Type 0} (site : Site) (least : ℕ) → Deepens D refuse (λ e. level (Wide e) (readers (Wide e)) site least)
  unfolding level
  first_level site least = deep_refuse_then (first_unary site) (λ e l u. (steady_operations (Wide e) (readers (Wide e)) (readers_steady (Wide e)) site least (suc (suc (Wide e))) l).ends u)

  lower_level : {D : Read Tree → Word → Type 0} (site : Site) (least : ℕ) → Deepens D refuse (λ e. (readers (suc (Wide e))).level site least)
  unfolding readers
  lower_level {D = D} site least = first_level {D = D} site least

-- ---- elements of literals

module _ (h : ℕ → ℕ) where
  abbrev Wider : ℕ → ℕ
  Wider e = suc (suc (suc (h e)))

  first_item : Deepens AnyStop refuse (λ e. item (Wider e) (readers (Wider e)))
  first_item = deep_wide (λ e. nat_le 1 (Wider e)) _ (λ e. le-leb _ _ (omega arith))
      (deep_ahead (marked LBrace) (λ s w r e. faults refl) (λ e s u. (steady_bind (readers_steady (Wider e)).braces (λ es. steady_pure _)).ends u) (lower_level h Plain 1))

  item_steady : (e : ℕ) → Steady (item (Wider e) (readers (Wider e)))
  item_steady e = steady_if _ (steady_take (marked LBrace) (λ s. steady_bind (readers_steady (Wider e)).braces (λ es. steady_pure _)) ((readers_steady (Wider e)).level Plain 1)) ((readers_steady (Wider e)).level Plain 1)

  add_elem_steady : (e : ℕ) (l : Listed Tree) (k : Read Tree) → Steady (add_elem (Wider e) (readers (Wider e)) l k)
  add_elem_steady e l k = steady_take (marked Colon) (λ _. steady_bind (item_steady e) (λ x. steady_pure _)) (steady_pure _)

  first_elem : (l : Listed Tree) → Deepens AnyStop refuse (λ e. elem (Wider e) (readers (Wider e)) l)
  unfolding elem
  first_elem l = deep_refuse_then first_item (λ e k u. (add_elem_steady e l k).ends u)

  abbrev Elems : ℕ → Listed Tree → Reader (Listed Tree)
  Elems e = elem (Wider e) (readers (Wider e))

  elems_steady : (e : ℕ) (l : Listed Tree) → Steady (Elems e l)
  elems_steady e l = steady_elem (Wider e) (readers (Wider e)) (readers_steady (Wider e)) l

  first_part : Deepens Never refuse (λ e. Elems e empty >>= more_parts Comma RBrace any_end (Elems e))
  first_part = deep_refuse_then (first_elem empty) (λ e l u. (steady_more_parts Comma RBrace any_end (Elems e) (elems_steady e) l).ends u)

  brace_by : (ws : List Word) (x : Option Spot) → first (marked RBrace) ws ≡ x → Deeper {A = Listed Tree} Never (Err ws) (λ e. parts Comma RBrace any_end (Elems e) empty ws)
  brace_by ws None e = deeper_as (first_part.at ws) refl (λ i. parts_step Comma RBrace any_end (Elems i) (elems_steady i) empty ws e)
  brace_by [] (Some s) e = absurd cc
  brace_by (w ∷ rest) (Some s) e = beyond w rest (faults refl)
      (λ i. subst (λ (o : Outcome (Listed Tree)). length (left o) ≤ length rest) (sym (ap (λ (v : Word). parts Comma RBrace any_end (Elems i) empty (v ∷ rest)) (marked_is RBrace w s e) ∙ parts_close Comma RBrace any_end (Elems i) (elems_steady i) empty s rest refl)) (omega arith))

  first_braces : Deepens Never refuse (λ e. braces (Wider e) (readers (Wider e)))
  unfolding braces
  first_braces = record {
    at = λ ws. brace_by ws (first (marked RBrace) ws) refl;
    ends = λ e ws. (steady_parts Comma RBrace any_end (Elems e) (elems_steady e) empty).ends ws;
  }

-- ---- the readers of no budget

pub nothing_deeper : AreDeeper zero
unfolding readers
nothing_deeper = record {
  level = λ s least. first_level (λ e. suc e) s least;
  maybe_type = λ p. first_type (λ e. suc (suc e)) p;
  braces = first_braces (λ e. e);
  lower_level = λ s least. first_level (λ e. e) s least;
  lower_maybe_type = λ p. first_type (λ e. suc e) p;
}
