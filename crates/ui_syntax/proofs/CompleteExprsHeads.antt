-- What primary expressions begin with is read.
use Rattle.std.proofs.Common.{◌≡◌, inl, inr, ℕ, suc, ◌≤◌, max, true, false, List, ◌∷◌, None, Ok, refl, sym, ap, subst, ◌∙◌, arith}
use Rattle.std.specs.Prelude.{nat_le}
use Rattle.std.proofs.lemmas.Bool.{le-leb}
use Rattle.ui_base.specs.declared.value.Spot.{Spot}
use Rattle.ui_base.specs.declared.value.Value.{Value}
use Rattle.ui_scan.specs.declared.kind.TokenKind.TheVariants.{LParen, RParen, LBrace, RBrace, Comma}
use Rattle.ui_tree.specs.declared.part.Placed.{Placed}
use Rattle.ui_tree.specs.declared.part.LiteralKind.{LiteralKind}
use Rattle.ui_tree.specs.Tree.{TypeTree, named, parenthesized, slice, array, counted, mapping, struct, Tree, literal, name, paren, convert, composite, Trees}
use Rattle.ui_tree.specs.View.{trees}
use Rattle.ui_grammar.specs.Word.{Word, ident, lit, mark, Mark, Begins, Closes}
use Rattle.ui_grammar.specs.Both.{is_expression, ends_open}
use Rattle.ui_grammar.specs.Spells.{Spells, SpellsType, SpellsTrees}
use Rattle.ui_grammar.specs.Fits.{plain, element, plain_type, of_literal, is_named, is_pointer, depth, type_depth, trees_depth, Fits, FitsType, FitsTrees}
use Rattle.ui_parse.specs.Reader.{first, take_by, expect}
use Rattle.ui_syntax.specs.declared.site.Site.{Site}
use Rattle.ui_syntax.specs.declared.site.Site.TheVariants.{Header, Plain, Wrapped, Argument}
use Rattle.ui_syntax.specs.declared.site.TypeSite.{TypeSite}
use Rattle.ui_syntax.specs.Cover.{only_type, has_literals, is_counted}
use Rattle.ui_syntax.specs.Types.{Nested, of_type, maybe_type}
use Rattle.ui_syntax.specs.Exprs.{of_tree, a_prefix, inner_site, parenthesized_operand, operand, primary}
use Rattle.ui_syntax.specs.Read.{place_at}
use Rattle.ui_syntax.proofs.ByBudget.{FitsAt, QuietAt, QuietType, TypeReadsTo, IsComplete}
use Rattle.ui_syntax.proofs.Quiet.{stop_paren, stop_comma, stop_mark, stop_closes, quiet_type_paren, quiet_type_brace}
use Rattle.ui_syntax.proofs.Places.{no_type, type_positive, depth_positive}
use Rattle.ui_syntax.proofs.FirstWords.{same_spot}
use Rattle.ui_syntax.proofs.CompleteExprsTrees.{read_as}
use Rattle.ui_syntax.proofs.CompleteExprsSuffixes.{Primary}
use Rattle.ui_syntax.proofs.CompleteExprsParts.{whole_at, plain_reads}
use Rattle.ui_syntax.proofs.CompleteExprsOperands.{FrontRoom, front_room, IsFront, Front, convert_reads, literal_reads, bare_front, enclosed_front}

place_inner : (s : Site) → place_at (inner_site s) ≡ plain
place_inner Header = refl
place_inner Plain = refl
place_inner Wrapped = refl
place_inner Argument = refl

room_pos : (s : Site) (room : ℕ) (x : Spot) (t : TypeTree) → FrontRoom s room (parenthesized x t) → 1 ≤ type_depth t → 1 ≤ room
room_pos Header room x t le pos = omega arith
room_pos Plain room x t le pos = omega arith
room_pos Wrapped room x t le pos = omega arith
room_pos Argument room x t le pos = let h = le.0 in omega arith

pub not_counted : (t : TypeTree) → FitsType t plain_type → is_counted t ≡ false
not_counted (counted x t) f = absurd (cc (f.0))
not_counted _ f = refl

enclosed_fits : (x : Spot) (t : TypeTree) → IsFront (parenthesized x t) → FitsType t plain_type
enclosed_fits x t i = elim i.fits [ inl f ↦ f.1 | inr f ↦ absurd (cc (f.0)) ]

-- the type of a literal, where it is no name
record IsLiteralType (t : TypeTree) : Type 0 where
  front : IsFront t
  literals : has_literals t ≡ true

literal_type : (t : TypeTree) → is_named t ≡ false → FitsType t of_literal → IsLiteralType t
literal_type (slice x t) e f = record { front = record { no_expression = refl; no_pointer = refl; fits = inl (refl, f.1) }; literals = refl }
literal_type (array x n t) e f = record { front = record { no_expression = refl; no_pointer = refl; fits = inl (refl, f.1, f.2) }; literals = refl }
literal_type (counted x t) e f = record { front = record { no_expression = refl; no_pointer = refl; fits = inr (refl, f) }; literals = refl }
literal_type (mapping x k t) e f = record { front = record { no_expression = refl; no_pointer = refl; fits = inl (refl, f.1, f.2) }; literals = refl }
literal_type (struct x gs) e f = record { front = record { no_expression = refl; no_pointer = refl; fits = inl (refl, f.1, f.2) }; literals = refl }
literal_type (named n m vs) e f = absurd (cc e)
literal_type _ e f = absurd (cc (f.0))

module _ (room low : ℕ) (inner : Nested) (c : IsComplete room low inner)
    (type_complete : (p : TypeSite) (ts rest : List Word) (t : TypeTree) → SpellsType t ts rest → FitsAt p (suc room) t → QuietAt p t rest → TypeReadsTo (maybe_type room inner p ts) t ts rest) where
  pub front : (s : Site) (t : TypeTree) (ts a : List Word) → SpellsType t ts a → IsFront t → FrontRoom s room t → QuietType t a → Front room low inner c type_complete s t ts a
  front s (parenthesized x t) ts a sp i le q =
      let f = enclosed_fits x t i in
      enclosed_front room low inner c type_complete s x t ts sp.0 sp.1 a sp.2 sp.3 sp.4 i.no_expression f le (room_pos s room x t le (type_positive t f))
  front s t ts a sp i le q =
      bare_front room low inner c type_complete s t ts a sp (record { no_expression = i.no_expression; no_pointer = i.no_pointer; no_parentheses = refl; fits = i.fits }) le q

  -- ---- heads

  primary_of : (s : Site) (ts : List Word) (e : Tree) (x : Spot) (rest : List Word) → Begins x ts → operand room inner s ts ≡ Ok (of_tree e x (depth e), rest) → first a_prefix ts ≡ None → Primary room inner s ts e rest
  unfolding primary
  primary_of s ts e x rest begins is no_prefix = record { fuel = suc (suc room); enough = omega arith; spot = x; begins = begins; same = rw is refl; no_prefix = no_prefix }

  pub literal_head : (s : Site) (x : Spot) (k : LiteralKind) (v : Value) (ts rest : List Word) → ts ≡ lit k x v ∷ rest → Primary room inner s ts (literal x k v) rest
  unfolding operand take_by
  literal_head s x k v ts rest e = primary_of s ts (literal x k v) x rest (subst (Begins x) (sym e) refl) (rw e refl) (ap (first a_prefix) e)

  pub name_head : (s : Site) (n : Placed) (ts rest : List Word) → ts ≡ ident n ∷ rest → Primary room inner s ts (name n) rest
  unfolding operand take_by
  name_head s n ts rest e = primary_of s ts (name n) n.spot rest (subst (Begins n.spot) (sym e) refl) (rw e refl) (ap (first a_prefix) e)

  paren_is : (s : Site) (x : Spot) (e : Tree) (y : Spot) (k : ℕ) (ts a b rest : List Word) → ts ≡ mark LParen x ∷ a → nat_le 1 room ≡ true → inner.level (inner_site s) 1 a ≡ Ok (of_tree e y k, b) → Mark RParen b rest → only_type e ≡ None
      → operand room inner s ts ≡ Ok (of_tree (paren x e) x (suc k), rest)
  unfolding operand parenthesized_operand take_by expect
  paren_is s x e y k ts a b rest first_is roomy is close alone = rw (first_is, roomy, is, close.is, alone) refl

  pub paren_head : (s : Site) (x : Spot) (e : Tree) (ts a b rest : List Word) → ts ≡ mark LParen x ∷ a → Spells e a b → Mark RParen b rest → Fits e plain → depth e ≤ room → Primary room inner s ts (paren x e) rest
  paren_head s x e ts a b rest first_is spelled close fits le =
      let r = whole_at room low inner c (inner_site s) e a b spelled (subst (Fits e) (sym (place_inner s)) fits) le (stop_mark RParen b rest stop_paren close) in
      let roomy : nat_le 1 room ≡ true = le-leb 1 room (omega (arith, depth_positive e plain fits)) in
      primary_of s ts (paren x e) x rest (subst (Begins x) (sym first_is) refl) (paren_is s x e r.read.spot (depth e) ts a b rest first_is roomy (read_as r) close (no_type e plain fits)) (ap (first a_prefix) first_is)

  pub convert_head : (s : Site) (x : Spot) (t : TypeTree) (e : Tree) (ts a b m rest : List Word) → Begins x ts → SpellsType t ts a → Mark LParen a b → Spells e b m → Closes Comma RParen m rest
      → is_expression t ≡ false → is_pointer t ≡ false → ends_open t ≡ false → FitsType t plain_type → Fits e plain → type_depth t ≤ room → depth e ≤ room → Primary room inner s ts (convert x t e) rest
  convert_head s x t e ts a b m rest begins sp begin spelled closes no_expression no_pointer closed f fits le le2 =
      let h = front s t ts a sp (record { no_expression = no_expression; no_pointer = no_pointer; fits = inl f }) (front_room s room t le) (subst (QuietType t) (sym begin.is) (quiet_type_paren t begin.spot b closed)) in
      let r = plain_reads room low inner c e b m spelled fits le2 (stop_closes Comma RParen m rest stop_comma stop_paren closes) in
      let is = convert_reads room low inner c type_complete s (of_type t h.spot (type_depth t)) e r.read.spot (depth e) a b m rest (not_counted t f) le begin (read_as r) closes in
      primary_of s ts (convert x t e) x rest begins (h.is ∙ is ∙ ap (λ (y : Spot). Ok (of_tree (convert y t e) y (suc (max (type_depth t) (depth e))), rest)) (same_spot h.spot x ts h.begins begins)) h.no_prefix

  pub composite_head : (s : Site) (x : Spot) (t : TypeTree) (es : Trees) (ts a b rest : List Word) → Begins x ts → SpellsType t ts a → Mark LBrace a b → SpellsTrees RBrace false es b rest
      → is_named t ≡ false → FitsType t of_literal → FitsTrees es element → type_depth t ≤ room → suc (trees_depth es) ≤ room → Primary room inner s ts (composite x t es) rest
  composite_head s x t es ts a b rest begins sp begin spelled unnamed f fits le le2 =
      let l = literal_type t unnamed f in
      let h = front s t ts a sp l.front (front_room s room t le) (subst (QuietType t) (sym begin.is) (quiet_type_brace t begin.spot b)) in
      let r = c.braces b rest es spelled fits le2 in
      let is = literal_reads room low inner c type_complete s (of_type t h.spot (type_depth t)) r.read a b rest l.literals le begin r.is in
      primary_of s ts (composite x t es) x rest begins
      (h.is ∙ is ∙ ap (λ (y : Spot). Ok (of_tree (composite y t (trees r.read.items)) y (suc (max (type_depth t) (suc r.read.depth))), rest)) (same_spot h.spot x ts h.begins begins) ∙ rw (r.all, r.depth) refl) h.no_prefix
