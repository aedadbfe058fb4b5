-- Each primary expression is read.
use Rattle.std.proofs.Common.{◌≡◌, ℕ, zero, suc, ◌≤◌, Bool, true, false, List, refl, arith}
use Rattle.std.specs.Prelude.{◌&&◌}
use Rattle.ui_base.specs.declared.value.Spot.{Spot}
use Rattle.ui_scan.specs.declared.kind.TokenKind.TheVariants.{LBrace, RBrace}
use Rattle.ui_tree.specs.Tree.{TypeTree, named, Tree, literal, name, paren, convert, composite, elided, keyed, instance, selector, assert, index, sliced, call, type_arg, unary, binary, Trees}
use Rattle.ui_grammar.specs.Word.{Word, Mark, Begins}
use Rattle.ui_grammar.specs.Both.{is_expression}
use Rattle.ui_grammar.specs.Spells.{Spells, SpellsType, SpellsTrees}
use Rattle.ui_grammar.specs.Fits.{argument, element, of_literal, is_header as in_header, takes_braces, is_named, level, depth, type_depth, trees_depth, Fits, FitsType, FitsTrees}
use Rattle.ui_syntax.specs.declared.site.Site.{Site}
use Rattle.ui_syntax.specs.declared.site.Site.TheVariants.{Header, Plain, Wrapped, Argument}
use Rattle.ui_syntax.specs.declared.site.TypeSite.{TypeSite}
use Rattle.ui_syntax.specs.Types.{Nested, maybe_type}
use Rattle.ui_syntax.specs.Exprs.{is_header}
use Rattle.ui_syntax.specs.Read.{place_at}
use Rattle.ui_syntax.proofs.ByBudget.{FitsAt, QuietAt, TypeReadsTo, IsComplete}
use Rattle.ui_syntax.proofs.Covers.{tree_of_type, named_tree_is, plain_name, if_named_finds}
use Rattle.ui_syntax.proofs.Places.{depth_positive}
use Rattle.ui_syntax.proofs.FirstTrees.{level_below}
use Rattle.ui_syntax.proofs.SteadyTypes.{AreSteady}
use Rattle.ui_syntax.proofs.CompleteExprsTrees.{fits_within}
use Rattle.ui_syntax.proofs.CompleteExprsSuffixes.{Primary}
use Rattle.ui_syntax.proofs.CompleteExprsHeads.{literal_head, name_head, paren_head, convert_head, composite_head}
use Rattle.ui_syntax.proofs.CompleteExprsSpine.{selector_reads, assert_reads, index_of_reads, sliced_reads, instance_reads, call_reads, named_literal_reads}

named_is_expression : (t : TypeTree) → is_named t ≡ true → is_expression t ≡ true
named_is_expression (named n m vs) e = refl
named_is_expression _ e = absurd cc

no_header : (s : Site) (b : Bool) → b ≡ true → (b && in_header (place_at s)) ≡ false → is_header s ≡ false
no_header Header true e f = absurd cc
no_header Header false e f = absurd cc
no_header Plain b e f = refl
no_header Wrapped b e f = refl
no_header Argument b e f = refl

no_braces_at : (s : Site) → takes_braces (place_at s) ≡ true → ⊥
no_braces_at Header e = cc
no_braces_at Plain e = cc
no_braces_at Wrapped e = cc
no_braces_at Argument e = cc

no_element_at : (s : Site) → place_at s ≡ element → ⊥
no_element_at Header e = cc
no_element_at Plain e = cc
no_element_at Wrapped e = cc
no_element_at Argument e = cc

no_argument_at : (s : Site) → place_at s ≡ argument → ⊥
no_argument_at Header e = cc
no_argument_at Plain e = cc
no_argument_at Wrapped e = cc
no_argument_at Argument e = cc

module _ (room low : ℕ) (inner : Nested) (c : IsComplete room low inner) (steady : AreSteady inner)
    (type_complete : (p : TypeSite) (ts rest : List Word) (t : TypeTree) → SpellsType t ts rest → FitsAt p (suc room) t → QuietAt p t rest → TypeReadsTo (maybe_type room inner p ts) t ts rest) where
  -- a literal, where the type's name is read that it may begin with
  composite_reads : (s : Site) (x : Spot) (t : TypeTree) (es : Trees) (ts a b rest : List Word) → Begins x ts → SpellsType t ts a → Mark LBrace a b → SpellsTrees RBrace false es b rest
      → FitsType t of_literal → FitsTrees es element → type_depth t ≤ room → suc (trees_depth es) ≤ room
      → ((e : Tree) → depth e ≡ type_depth t → level e ≡ 7 → Spells e ts a → Fits e (place_at s) → Primary room inner s ts e a)
      → (b2 : Bool) → is_named t ≡ b2 → (b2 && in_header (place_at s)) ≡ false → Primary room inner s ts (composite x t es) rest
  composite_reads s x t es ts a b rest begins sp begin spelled f f_es le le2 read false unnamed site = composite_head room low inner c type_complete s x t es ts a b rest begins sp begin spelled unnamed f f_es le le2
  composite_reads s x t es ts a b rest begins sp begin spelled f f_es le le2 read true is_name site =
      let e = tree_of_type t ts a (named_is_expression t is_name) sp (plain_name t is_name f) in
      let found = if_named_finds e.0 t is_name e.3 in
      let n = named_tree_is e.0 t ts a found e.1 e.2 in
      let fits = n.fits (place_at s) in
      named_literal_reads room low inner c steady s x e.0 ts a (read e.0 e.4 n.level e.1 fits) fits (omega (arith, e.4)) begins t es b rest begin spelled (no_header s true refl site) found e.4 f_es le2

  -- The number bounds the depth: a name before braces is no part of the tree.
  pub primary_reads : (n : ℕ) (e : Tree) (s : Site) (ts rest : List Word) → depth e ≤ n → level e ≡ 7 → depth e ≤ suc room → Spells e ts rest → Fits e (place_at s) → Primary room inner s ts e rest
  primary_reads zero e s ts rest le is_primary shallow sp f = absurd (omega (arith, depth_positive e (place_at s) f))
  primary_reads (suc n) (literal x k v) s ts rest le is_primary shallow sp f = literal_head room low inner c type_complete s x k v ts rest sp
  primary_reads (suc n) (name p) s ts rest le is_primary shallow sp f = name_head room low inner c type_complete s p ts rest sp
  primary_reads (suc n) (paren x e) s ts rest le is_primary shallow sp f = paren_head room low inner c type_complete s x e ts sp.0 sp.1 rest sp.2 sp.3 sp.4 f (omega arith)
  primary_reads (suc n) (convert x t e) s ts rest le is_primary shallow sp f =
      convert_head room low inner c type_complete s x t e ts sp.0 sp.1 sp.2 rest sp.3 sp.4 sp.5 sp.6 sp.7 f.0 f.1 f.2 f.3 f.4 (omega arith) (omega arith)
  primary_reads (suc n) (composite x t es) s ts rest le is_primary shallow sp f =
      composite_reads s x t es ts sp.0 sp.1 rest sp.2 sp.3 sp.4 sp.5 f.1 f.2 (omega arith) (omega arith)
      (λ e k is_first sp_e f_e. primary_reads n e s ts sp.0 (omega arith) is_first (omega arith) sp_e f_e) (is_named t) refl f.0
  primary_reads (suc n) (elided x es) s ts rest le is_primary shallow sp f = absurd (no_braces_at s f.0)
  primary_reads (suc n) (keyed x k e) s ts rest le is_primary shallow sp f = absurd (no_element_at s f.0)
  primary_reads (suc n) (instance x g us) s ts rest le is_primary shallow sp f =
      let fits = fits_within g s f.1 in
      instance_reads room low inner c steady s x g ts sp.0 (primary_reads n g s ts sp.0 (omega arith) f.0 (omega arith) sp.3 fits) fits (omega arith) sp.2 us sp.1 rest sp.4 sp.5 f.2 (omega arith)
  primary_reads (suc n) (selector x g p) s ts rest le is_primary shallow sp f =
      let fits = fits_within g s f.1 in
      selector_reads room low inner c steady s x g ts sp.0 (primary_reads n g s ts sp.0 (omega arith) f.0 (omega arith) sp.3 fits) fits (omega arith) sp.2 p sp.1 rest sp.4 sp.5
  primary_reads (suc n) (assert x g t) s ts rest le is_primary shallow sp f =
      let fits = fits_within g s f.1 in
      assert_reads room low inner c steady s x g ts sp.0 (primary_reads n g s ts sp.0 (omega arith) f.0 (omega arith) sp.5 fits) fits (omega arith) sp.4 t sp.1 sp.2 sp.3 rest sp.6 sp.7 sp.8 sp.9 f.2 (omega arith)
  primary_reads (suc n) (index x g i) s ts rest le is_primary shallow sp f =
      let fits = fits_within g s f.1 in
      index_of_reads room low inner c steady s x g ts sp.0 (primary_reads n g s ts sp.0 (omega arith) f.0 (omega arith) sp.4 fits) fits (omega arith) sp.3 i sp.1 sp.2 rest sp.5 sp.6 sp.7 f.2 (omega arith)
  primary_reads (suc n) (sliced x g l h m) s ts rest le is_primary shallow sp f =
      let fits = fits_within g s f.1 in
      sliced_reads room low inner c steady s x g ts sp.0 (primary_reads n g s ts sp.0 (omega arith) f.0 (omega arith) sp.7 fits) fits (omega arith) sp.6 l h m sp.1 sp.2 sp.3 sp.4 sp.5 rest
      sp.8 sp.9 sp.10 sp.11 sp.12 sp.13 sp.14 f.2 f.3 f.4 (omega arith) (omega arith) (omega arith)
  primary_reads (suc n) (call x g es spread) s ts rest le is_primary shallow sp f =
      let fits = fits_within g s f.1 in
      call_reads room low inner c steady s x g ts sp.0 (primary_reads n g s ts sp.0 (omega arith) f.0 (omega arith) sp.3 fits) fits (omega arith) sp.2 es spread sp.1 rest sp.4 sp.5 f.2 (omega arith)
  primary_reads (suc n) (type_arg t) s ts rest le is_primary shallow sp f = absurd (no_argument_at s f.0)
  primary_reads (suc n) (unary x o e) s ts rest le is_primary shallow sp f = absurd (omega (arith, is_primary))
  primary_reads (suc n) (binary x o l r) s ts rest le is_primary shallow sp f = absurd (omega (arith, level_below o, is_primary))
