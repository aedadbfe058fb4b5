-- Type arguments and the arguments of a call are read.
use Rattle.std.proofs.Common.{◌≡◌, inl, inr, ℕ, ◌≤◌, Bool, true, false, List, Option, Some, None, Ok, refl, sym, ap, subst, ◌∙◌, arith}
use Rattle.ui_base.specs.declared.value.Spot.{Spot}
use Rattle.ui_scan.specs.declared.kind.TokenKind.TheVariants.{RParen, RBracket, Comma, Ellipsis}
use Rattle.ui_tree.specs.Tree.{TypeTree, Types, Tree, Trees, trees_end, tree_and}
use Rattle.ui_grammar.specs.Word.{Word, Mark, Closes, If}
use Rattle.ui_grammar.specs.Spells.{Spells, SpellsType, SpellsTypes, SpellsTypesTail, SpellsTrees}
use Rattle.ui_grammar.specs.Fits.{argument, plain_type, depth, type_depth, types_depth, trees_depth, Fits, FitsType, FitsTypes, FitsTrees}
use Rattle.ui_parse.specs.Reader.{first, marked, parts}
use Rattle.ui_parse.proofs.Outcomes.{eat_mark, eat_other}
use Rattle.ui_parse.proofs.TurnLaws.{parts_close, parts_next, parts_end}
use Rattle.ui_syntax.specs.declared.site.TypeSite.TheVariants as at
use Rattle.ui_syntax.specs.Types.{Nested, Listed, more_args, args_behind, a_type}
use Rattle.ui_syntax.specs.Exprs.{of_tree, Arguments, call_ending, add_argument, argument as an_argument}
use Rattle.ui_syntax.proofs.ByBudget.{IsComplete}
use Rattle.ui_syntax.proofs.Quiet.{stop_paren, stop_bracket, stop_comma, stop_dots, Stop, stop_mark, stop_closes}
use Rattle.ui_syntax.proofs.SteadyTypes.{AreSteady, steady_a_type}
use Rattle.ui_syntax.proofs.SteadyExprs.{steady_argument}
use Rattle.ui_syntax.proofs.CompleteExprsTrees.{no_mark, read_as}
use Rattle.ui_syntax.proofs.CompleteExprsParts.{argument_reads, type_reads}
use Rattle.ui_syntax.proofs.CompleteTypesBase.{ReadAs, maybe_as, or_refused, not_type_first}
use Rattle.ui_syntax.proofs.CompleteTypesLists.{with_types, types_read, types_tail_read}
use Rattle.ui_syntax.proofs.CompleteExprsLists.{with_arguments, arguments_none, arguments_more}

no_dots : (a rest : List Word) → Closes Comma RParen a rest → first (marked Ellipsis) a ≡ None
no_dots a rest (inl m) = ap (first (marked Ellipsis)) m.is
no_dots a rest (inr p) = ap (first (marked Ellipsis)) p.1.is

module _ (room low : ℕ) (inner : Nested) (c : IsComplete room low inner) (steady : AreSteady inner) where
  -- ---- type arguments

  type_as : (t : TypeTree) (ts rest : List Word) → SpellsType t ts rest → FitsType t plain_type → type_depth t ≤ room → Stop rest → ReadAs (a_type room inner ts) t (type_depth t) rest
  type_as t ts rest s fits le stop = or_refused (inner.maybe_type at.Plain ts) t (type_depth t) rest (maybe_as (inner.maybe_type at.Plain ts) t ts rest (type_reads room low inner c t ts rest s fits le stop))

  -- behind a comma
  pub type_args_read : (us : Types) (l : Listed TypeTree) (ts rest : List Word) → SpellsTypes Comma RBracket us ts rest → FitsTypes us plain_type → types_depth us ≤ room → args_behind (a_type room inner) l ts ≡ Ok (with_types l us, rest)
  type_args_read us l ts rest s fits le =
      types_read Comma RBracket stop_comma stop_bracket refl plain_type (not_type_first RBracket (λ _. refl)) room (a_type room inner) (steady_a_type room inner steady) type_as us l ts rest s fits le

  -- behind a first type
  pub more_type_args_read : (us : Types) (l : Listed TypeTree) (ts rest : List Word) → SpellsTypesTail Comma RBracket us ts rest → FitsTypes us plain_type → types_depth us ≤ room → more_args (a_type room inner) l ts ≡ Ok (with_types l us, rest)
  more_type_args_read us l ts rest s fits le =
      types_tail_read Comma RBracket stop_comma stop_bracket refl plain_type (not_type_first RBracket (λ _. refl)) room (a_type room inner) (steady_a_type room inner steady) type_as us l ts rest s fits le

  -- ---- arguments of a call

  record ArgumentRead (l : Arguments) (e : Tree) (ts rest : List Word) (is_last : Bool) : Type 0 where
    spot : Spot
    dots : Option Spot
    is : an_argument room inner l ts ≡ Ok (add_argument l (of_tree e spot (depth e)) dots, rest)
    spread : (add_argument l (of_tree e spot (depth e)) dots).spread ≡ is_last

  argument_one : (l : Arguments) (e : Tree) (ts m : List Word) → Spells e ts m → Fits e argument → depth e ≤ room → Stop m → first (marked Ellipsis) m ≡ None → ArgumentRead l e ts m false
  unfolding an_argument
  argument_one l e ts m s fits le stop quiet =
      let r = argument_reads room low inner c e ts m s fits le stop in
      record { spot = r.read.spot; dots = None; is = rw (read_as r, eat_other Ellipsis m quiet) refl; spread = refl }

  argument_last : (l : Arguments) (e : Tree) (spread : Bool) (ts m b rest : List Word) → Spells e ts m → Fits e argument → depth e ≤ room → If spread Ellipsis m b → Closes Comma RParen b rest → ArgumentRead l e ts b spread
  unfolding an_argument
  argument_last l e false ts m b rest s fits le same closes =
      argument_one l e ts b (subst (Spells e ts) same s) fits le (stop_closes Comma RParen b rest stop_comma stop_paren closes) (no_dots b rest closes)
  argument_last l e true ts m b rest s fits le dots closes =
      let r = argument_reads room low inner c e ts m s fits le (stop_mark Ellipsis m b stop_dots dots) in
      record { spot = r.read.spot; dots = Some dots.spot; is = rw (read_as r, dots.is, eat_mark) refl; spread = refl }

  no_paren : (e : Tree) → Fits e argument → (ts rest : List Word) → Spells e ts rest → first (marked RParen) ts ≡ None
  no_paren e fits ts rest s = no_mark RParen e argument ts rest refl s fits

  -- what is read up to the argument
  next : (l : Arguments) (e : Tree) (ts m : List Word) (spread : Bool) → ArgumentRead l e ts m spread → Arguments
  next l e ts m spread r = add_argument l (of_tree e r.spot (depth e)) r.dots

  arguments_end : (l : Arguments) (e : Tree) (spread : Bool) (ts m b rest : List Word) → Spells e ts m → Fits e argument → ArgumentRead l e ts b spread → Closes Comma RParen b rest
      → parts Comma RParen call_ending (an_argument room inner) l ts ≡ Ok (with_arguments l (tree_and e trees_end) spread, rest)
  unfolding next
  arguments_end l e spread ts m b rest s fits r closes =
      parts_end Comma RParen call_ending (an_argument room inner) (steady_argument room inner steady) l ts (next l e ts b spread r) b rest (no_paren e fits ts m s) r.is refl refl closes
      ∙ ap (λ (x : Arguments). Ok (x, rest)) (arguments_none (next l e ts b spread r) spread r.spread ∙ arguments_more l e r.spot r.dots trees_end spread)

  arguments_next : (l : Arguments) (e : Tree) (ts m n : List Word) → Spells e ts m → Fits e argument → (r : ArgumentRead l e ts m false) → Mark Comma m n
      → parts Comma RParen call_ending (an_argument room inner) l ts ≡ parts Comma RParen call_ending (an_argument room inner) (next l e ts m false r) n
  unfolding next
  arguments_next l e ts m n s fits r comma =
      parts_next Comma RParen call_ending (an_argument room inner) (steady_argument room inner steady) l ts (next l e ts m false r) comma.spot n (no_paren e fits ts m s)
      (r.is ∙ ap (λ (w : List Word). Ok (next l e ts m false r, w)) comma.is) r.spread

  arguments_on : (l : Arguments) (e : Tree) (es : Trees) (spread : Bool) (ts m n rest : List Word) → Spells e ts m → Fits e argument → ArgumentRead l e ts m false → Mark Comma m n
      → ((l2 : Arguments) → l2.spread ≡ false → parts Comma RParen call_ending (an_argument room inner) l2 n ≡ Ok (with_arguments l2 es spread, rest))
      → parts Comma RParen call_ending (an_argument room inner) l ts ≡ Ok (with_arguments l (tree_and e es) spread, rest)
  unfolding next
  arguments_on l e es spread ts m n rest s fits r comma again =
      arguments_next l e ts m n s fits r comma ∙ again (next l e ts m false r) r.spread ∙ ap (λ (x : Arguments). Ok (x, rest)) (arguments_more l e r.spot r.dots es spread)

  pub arguments_read : (es : Trees) (spread : Bool) (l : Arguments) (ts rest : List Word) → SpellsTrees RParen spread es ts rest → FitsTrees es argument → trees_depth es ≤ room → l.spread ≡ false
      → parts Comma RParen call_ending (an_argument room inner) l ts ≡ Ok (with_arguments l es spread, rest)
  arguments_read trees_end spread l ts rest s fits le none_yet =
      ap (parts Comma RParen call_ending (an_argument room inner) l) s.1.is ∙ parts_close Comma RParen call_ending (an_argument room inner) (steady_argument room inner steady) l s.1.spot rest refl
      ∙ ap (λ (x : Arguments). Ok (x, rest)) (arguments_none l spread (none_yet ∙ sym s.0))
  arguments_read (tree_and e trees_end) spread l ts rest s fits le none_yet =
      arguments_end l e spread ts s.0 s.2.0 rest s.1 fits.0 (argument_last l e spread ts s.0 s.2.0 rest s.1 fits.0 (omega arith) s.2.1 s.2.2) s.2.2
  arguments_read (tree_and e (tree_and g es)) spread l ts rest s fits le none_yet =
      arguments_on l e (tree_and g es) spread ts s.0 s.2.0 rest s.1 fits.0
      (argument_one l e ts s.0 s.1 fits.0 (omega arith) (stop_mark Comma s.0 s.2.0 stop_comma s.2.2) (ap (first (marked Ellipsis)) s.2.2.is)) s.2.2
      (λ l2 none_yet2. arguments_read (tree_and g es) spread l2 s.2.0 rest (s.2.1, s.2.3, s.2.4) fits.1 (omega arith) none_yet2)
