-- A primary expression is read, where its front is.
use Rattle.std.proofs.Common.{◌≡◌, ℕ, suc, ◌<◌, ◌≤◌, max, Bool, true, false, List, ◌∷◌, Some, None, Ok, refl, sym, ap, subst, ◌∙◌, arith}
use Rattle.ui_base.specs.declared.value.Spot.{Spot}
use Rattle.ui_scan.specs.declared.kind.TokenKind.TheVariants.{LParen, RParen, LBracket, RBracket, LBrace, RBrace, Comma, Period, Colon}
use Rattle.ui_tree.specs.declared.part.Placed.{Placed}
use Rattle.ui_tree.specs.Tree.{TypeTree, Types, types_end, type_and, Tree, composite, instance, selector, assert, index, sliced, call, type_arg, Trees, MaybeTree, absent, given}
use Rattle.ui_tree.specs.View.{trees, types}
use Rattle.ui_grammar.specs.Word.{Word, ident, Mark, Begins}
use Rattle.ui_grammar.specs.Both.{is_expression}
use Rattle.ui_grammar.specs.Spells.{Spells, SpellsType, SpellsTypes, SpellsTypesTail, SpellsInstance, SpellsInstanceTail, SpellsTrees, SpellsMaybe, SpellsThird, AreBounds}
use Rattle.ui_grammar.specs.Fits.{plain, argument, element, plain_type, depth, type_depth, types_depth, trees_depth, maybe_depth, Fits, FitsType, FitsTypes, FitsTrees, FitsMaybe}
use Rattle.ui_parse.specs.Reader.{Reader, first, marked, take_by, parts}
use Rattle.ui_syntax.specs.declared.site.Site.{Site}
use Rattle.ui_syntax.specs.declared.site.Site.TheVariants.{Argument}
use Rattle.ui_syntax.specs.Cover.{Read, only_type, as_type, if_named}
use Rattle.ui_syntax.specs.Types.{Nested, Listed, only, more_args, args_behind, a_type}
use Rattle.ui_syntax.specs.Exprs.{of_tree, is_header, no_arguments, Arguments, slice_of, bounds, instance_of, indexed, called, argument as an_argument, call_ending, one_suffix}
use Rattle.ui_syntax.specs.Read.{place_at}
use Rattle.ui_syntax.proofs.ByBudget.{IsComplete}
use Rattle.ui_syntax.proofs.Quiet.{stop_bracket, stop_paren, stop_comma, stop_colon, stop_mark}
use Rattle.ui_syntax.proofs.Covers.{tree_of_type}
use Rattle.ui_syntax.proofs.Places.{no_type}
use Rattle.ui_syntax.proofs.SteadyTypes.{AreSteady}
use Rattle.ui_syntax.proofs.CompleteExprsTrees.{no_type_at, no_mark, no_mark_of_type, read_as, type_read_as}
use Rattle.ui_syntax.proofs.CompleteExprsSuffixes.{Primary, extend, selector_step, assert_step, index_step, no_bounds, one_bound, two_bounds, high_step, low_step, literal_step}
use Rattle.ui_syntax.proofs.CompleteExprsParts.{types_tail_stops, plain_reads, index_reads, alone_reads, type_reads}
use Rattle.ui_syntax.proofs.CompleteTypesBase.{types_of_list}
use Rattle.ui_syntax.proofs.CompleteTypesLists.{with_types}
use Rattle.ui_syntax.proofs.CompleteExprsLists.{trees_of_list, with_arguments}
use Rattle.ui_syntax.proofs.CompleteExprsArgs.{type_args_read, more_type_args_read, arguments_read}

-- ---- instances and calls, turn by turn

module _ (room : ℕ) (inner : Nested) where
  -- a first type alone
  instance_step : (again : Read Tree → Reader (Read Tree)) (s : Site) (f : Read Tree) (t : TypeTree) (y : Spot) (k : ℕ) (l : Listed TypeTree) (a b m rest : List Word) → Mark LBracket a b → first (marked Colon) b ≡ None
      → inner.level Argument 1 b ≡ Ok (of_tree (type_arg t) y k, m) → more_args (a_type room inner) (only t k) m ≡ Ok (l, rest) → one_suffix room inner again s f a ≡ again (instance_of room inner f l) rest
  unfolding take_by indexed
  instance_step again s f t y k l a b m rest begin no_colon is h = rw (begin.is, no_colon, is, h) refl

  -- a first type that is an expression too, with a comma behind it
  cover_step : (again : Read Tree → Reader (Read Tree)) (s : Site) (f : Read Tree) (t : TypeTree) (e : Tree) (y : Spot) (k : ℕ) (l : Listed TypeTree) (a b m n rest : List Word) → Mark LBracket a b → first (marked Colon) b ≡ None
      → inner.level Argument 1 b ≡ Ok (of_tree e y k, m) → only_type e ≡ None → as_type e ≡ Some t → Mark Comma m n → args_behind (a_type room inner) (only t k) n ≡ Ok (l, rest) → one_suffix room inner again s f a ≡ again (instance_of room inner f l) rest
  unfolding take_by indexed
  cover_step again s f t e y k l a b m n rest begin no_colon is alone type comma h = rw (begin.is, no_colon, is, alone, comma.is, type, h) refl

  call_step : (again : Read Tree → Reader (Read Tree)) (s : Site) (f : Read Tree) (l : Arguments) (a b rest : List Word) → Mark LParen a b → parts Comma RParen call_ending (an_argument room inner) no_arguments b ≡ Ok (l, rest)
      → one_suffix room inner again s f a ≡ again (of_tree (call f.spot f.tree (trees l.items) l.spread) f.spot (suc (max f.depth l.depth))) rest
  unfolding take_by called
  call_step again s f l a b rest begin h = rw (begin.is, h) refl

first_types : (t : TypeTree) (us : Types) → types ((with_types (only t (type_depth t)) us).items) ≡ type_and t us
first_types t us = ap (type_and t) (types_of_list us)

-- a tail behind a comma
after_comma : (us : Types) (m rest : List Word) → SpellsInstanceTail true us m rest → (n : List Word) × Mark Comma m n × SpellsTypes Comma RBracket us n rest
after_comma types_end m rest s = s
after_comma (type_and t us) m rest s = (s.0, s.2, (s.1, s.3, s.4))

alone_tail : (us : Types) (m rest : List Word) → SpellsInstanceTail false us m rest → SpellsTypesTail Comma RBracket us m rest
alone_tail types_end m rest s = s
alone_tail (type_and t us) m rest s = s

module _ (room low : ℕ) (inner : Nested) (c : IsComplete room low inner) (steady : AreSteady inner)
    (s : Site) (x : Spot) (f : Tree) (ts a : List Word) (p : Primary room inner s ts f a) (fits : Fits f (place_at s)) (le : depth f ≤ room) (begins : Begins x ts) where
  more : (e : Tree) (rest : List Word) → depth f < depth e → ((again : Read Tree → Reader (Read Tree)) → one_suffix room inner again s (of_tree f x (depth f)) a ≡ again (of_tree e x (depth e)) rest) → Primary room inner s ts e rest
  more e rest deeper step = extend room inner s ts f e x a rest p (no_type_at f s fits) le deeper begins step

  pub selector_reads : (n : Placed) (b rest : List Word) → Mark Period a b → b ≡ ident n ∷ rest → Primary room inner s ts (selector x f n) rest
  selector_reads n b rest dot e = more (selector x f n) rest (omega arith) (λ again. selector_step room inner again s (of_tree f x (depth f)) n a b rest dot e)

  pub assert_reads : (t : TypeTree) (b m d rest : List Word) → Mark Period a b → Mark LParen b m → SpellsType t m d → Mark RParen d rest → FitsType t plain_type → type_depth t ≤ room → Primary room inner s ts (assert x f t) rest
  assert_reads t b m d rest dot begin spelled close f_t le_t =
      let r = type_reads room low inner c t m d spelled f_t le_t (stop_mark RParen d rest stop_paren close) in
      more (assert x f t) rest (omega arith) (λ again. assert_step room inner again s (of_tree f x (depth f)) t r.read.spot (type_depth t) a b m d rest dot begin close (type_read_as r))

  pub index_of_reads : (i : Tree) (b m rest : List Word) → Mark LBracket a b → Spells i b m → Mark RBracket m rest → Fits i plain → depth i ≤ room → Primary room inner s ts (index x f i) rest
  index_of_reads i b m rest begin spelled close f_i le_i =
      let r = index_reads room low inner c i b m spelled f_i le_i (stop_mark RBracket m rest stop_bracket close) in
      more (index x f i) rest (omega arith) (λ again. index_step room inner again s (of_tree f x (depth f)) i r.read.spot (depth i) a b m rest begin close
      (no_type i plain f_i) (no_mark Colon i plain b m refl spelled f_i) (read_as r))

  bounds_reads : (low_bound : MaybeTree) (i : ℕ) (high most : MaybeTree) (d g h rest : List Word) → AreBounds high most → SpellsMaybe high d g → SpellsThird most g h → Mark RBracket h rest → FitsMaybe high → FitsMaybe most → maybe_depth high ≤ room → maybe_depth most ≤ room
      → bounds room inner (of_tree f x (depth f)) low_bound i d ≡ Ok (slice_of room inner (of_tree f x (depth f)) low_bound i high (maybe_depth high) most (maybe_depth most), rest)
  bounds_reads low_bound i absent absent d g h rest are sh sm close fh fm lh lm = no_bounds room inner (of_tree f x (depth f)) low_bound i d rest (subst (λ (w : List Word). Mark RBracket w rest) (sym (sh ∙ sm)) close)
  bounds_reads low_bound i absent (given m) d g h rest are sh sm close fh fm lh lm = absurd are
  bounds_reads low_bound i (given e) absent d g h rest are sh sm close fh fm lh lm =
      let close_here = subst (λ (w : List Word). Mark RBracket w rest) (sym sm) close in
      let r = plain_reads room low inner c e d g sh fh lh (stop_mark RBracket g rest stop_bracket close_here) in
      one_bound room inner (of_tree f x (depth f)) low_bound i e r.read.spot (depth e) d g rest close_here (no_mark RBracket e plain d g refl sh fh) (read_as r)
  bounds_reads low_bound i (given e) (given m) d g h rest are sh sm close fh fm lh lm =
      let r = plain_reads room low inner c e d g sh fh lh (stop_mark Colon g sm.0 stop_colon sm.1) in
      let r2 = plain_reads room low inner c m sm.0 h sm.2 fm lm (stop_mark RBracket h rest stop_bracket close) in
      two_bounds room inner (of_tree f x (depth f)) low_bound i e m r.read.spot r2.read.spot (depth e) (depth m) d g sm.0 h rest sm.1 close (no_mark RBracket e plain d g refl sh fh) (read_as r) (read_as r2)

  pub sliced_reads : (l high most : MaybeTree) (b m d g h rest : List Word) → Mark LBracket a b → SpellsMaybe l b m → Mark Colon m d → AreBounds high most → SpellsMaybe high d g → SpellsThird most g h → Mark RBracket h rest
      → FitsMaybe l → FitsMaybe high → FitsMaybe most → maybe_depth l ≤ room → maybe_depth high ≤ room → maybe_depth most ≤ room → Primary room inner s ts (sliced x f l high most) rest
  sliced_reads absent high most b m d g h rest begin sl colon are sh sm close fl fh fm ll lh lm =
      more (sliced x f absent high most) rest (omega arith) (λ again. high_step room inner again s (of_tree f x (depth f)) _ a b d rest begin (subst (λ (w : List Word). Mark Colon w d) (sym sl) colon)
      (bounds_reads absent 0 high most d g h rest are sh sm close fh fm lh lm))
  sliced_reads (given e) high most b m d g h rest begin sl colon are sh sm close fl fh fm ll lh lm =
      let r = index_reads room low inner c e b m sl fl ll (stop_mark Colon m d stop_colon colon) in
      more (sliced x f (given e) high most) rest (omega arith) (λ again. low_step room inner again s (of_tree f x (depth f)) e r.read.spot (depth e) _ a b m d rest begin colon
      (no_type e plain fl) (no_mark Colon e plain b m refl sl fl) (read_as r) (bounds_reads (given e) (depth e) high most d g h rest are sh sm close fh fm lh lm))

  -- what is read of the types, as the tree has them
  instance_is : (t : TypeTree) (us : Types) → instance_of room inner (of_tree f x (depth f)) (with_types (only t (type_depth t)) us) ≡ of_tree (instance x f (type_and t us)) x (depth (instance x f (type_and t us)))
  instance_is t us = ap (λ (vs : Types). of_tree (instance x f vs) x (suc (max (depth f) (max (type_depth t) (types_depth us))))) (first_types t us)

  instance_by : (b : List Word) (t : TypeTree) (us : Types) (both : Bool) (m rest : List Word) → is_expression t ≡ both → Mark LBracket a b → SpellsType t b m → SpellsInstanceTail both us m rest
      → FitsType t plain_type → FitsTypes us plain_type → type_depth t ≤ room → types_depth us ≤ room → Primary room inner s ts (instance x f (type_and t us)) rest
  instance_by b t us true m rest both begin spelled tail f_t f_us le_t le_us =
      let k = after_comma us m rest tail in
      let e = tree_of_type t b m both spelled f_t in
      let r = index_reads room low inner c e.0 b m e.1 e.2 (omega (arith, e.4)) (stop_mark Comma m k.0 stop_comma k.1) in
      let h = type_args_read room low inner c steady us (only t (type_depth t)) k.0 rest k.2 f_us le_us in
      let is = read_as r ∙ ap (λ (n : ℕ). Ok (of_tree e.0 r.read.spot n, m)) e.4 in
      more (instance x f (type_and t us)) rest (omega arith) (λ again. cover_step room inner again s (of_tree f x (depth f)) t e.0 r.read.spot (type_depth t) (with_types (only t (type_depth t)) us) a b m k.0 rest begin
      (no_mark Colon e.0 plain b m refl e.1 e.2) is e.5 e.3 k.1 h ∙ ap (λ (q : Read Tree). again q rest) (instance_is t us))
  instance_by b t us false m rest both begin spelled tail f_t f_us le_t le_us =
      let tail2 = alone_tail us m rest tail in
      let r = alone_reads room low inner c t b m spelled both f_t le_t (types_tail_stops us m rest tail2) in
      let h = more_type_args_read room low inner c steady us (only t (type_depth t)) m rest tail2 f_us le_us in
      more (instance x f (type_and t us)) rest (omega arith) (λ again. instance_step room inner again s (of_tree f x (depth f)) t r.read.spot (type_depth t) (with_types (only t (type_depth t)) us) a b m rest begin
      (no_mark_of_type Colon t b m refl spelled f_t) (read_as r) h ∙ ap (λ (q : Read Tree). again q rest) (instance_is t us))

  pub instance_reads : (us : Types) (b rest : List Word) → Mark LBracket a b → SpellsInstance us b rest → FitsTypes us plain_type → types_depth us ≤ room → Primary room inner s ts (instance x f us) rest
  instance_reads types_end b rest begin spelled f_us le_us = absurd spelled
  instance_reads (type_and t us) b rest begin spelled f_us le_us = instance_by b t us (is_expression t) spelled.0 rest refl begin spelled.1 spelled.2 f_us.0 f_us.1 (omega arith) (omega arith)

  pub call_reads : (es : Trees) (spread : Bool) (b rest : List Word) → Mark LParen a b → SpellsTrees RParen spread es b rest → FitsTrees es argument → trees_depth es ≤ room → Primary room inner s ts (call x f es spread) rest
  call_reads es spread b rest begin spelled f_es le_es =
      let h = arguments_read room low inner c steady es spread no_arguments b rest spelled f_es le_es refl in
      more (call x f es spread) rest (omega arith) (λ again. call_step room inner again s (of_tree f x (depth f)) (with_arguments no_arguments es spread) a b rest begin h ∙ ap (λ (q : Read Tree). again q rest) call_is)
    where
      call_is : of_tree (call x f (trees (with_arguments no_arguments es spread).items) spread) x (suc (max (depth f) (max 0 (trees_depth es)))) ≡ of_tree (call x f es spread) x (suc (max (depth f) (trees_depth es)))
      call_is = let deep : max 0 (trees_depth es) ≡ trees_depth es = omega arith in rw (trees_of_list es, deep) refl

  -- a literal whose type is this name
  pub named_literal_reads : (t : TypeTree) (es : Trees) (b rest : List Word) → Mark LBrace a b → SpellsTrees RBrace false es b rest → is_header s ≡ false → if_named (as_type f) ≡ Some t → depth f ≡ type_depth t → FitsTrees es element → suc (trees_depth es) ≤ room
      → Primary room inner s ts (composite x t es) rest
  named_literal_reads t es b rest begin spelled site is sized f_es le_es =
      let r = c.braces b rest es spelled f_es le_es in
      more (composite x t es) rest (omega (arith, sized)) (λ again. literal_step room inner again s (of_tree f x (depth f)) t r.read a b rest begin site is r.is
      ∙ ap (λ (q : Read Tree). again q rest) (rw (r.all, r.depth, sized) refl))
