-- Operands are read: those that begin with a type, too.
use Rattle.std.proofs.Common.{◌≡◌, ◌⊎◌, inl, inr, ℕ, suc, ◌≤◌, max, true, false, cond, List, ◌∷◌, None, Ok, refl, sym, ap, subst, ◌∙◌, arith}
use Rattle.std.specs.Prelude.{nat_le}
use Rattle.std.proofs.lemmas.Bool.{le-leb}
use Rattle.ui_base.specs.declared.value.Spot.{Spot}
use Rattle.ui_scan.specs.declared.kind.TokenKind.TheVariants.{LParen, RParen, LBrace, Comma}
use Rattle.ui_tree.specs.Tree.{TypeTree, named, parenthesized, pointer, slice, array, counted, mapping, func, listed, struct, interface, method, union, tilde, Tree, convert, composite, type_arg}
use Rattle.ui_tree.specs.View.{trees}
use Rattle.ui_grammar.specs.Word.{Word, mark, Mark, Begins, Closes}
use Rattle.ui_grammar.specs.Both.{is_expression}
use Rattle.ui_grammar.specs.Spells.{SpellsType}
use Rattle.ui_grammar.specs.Fits.{plain_type, of_literal, is_pointer, type_depth, FitsType}
use Rattle.ui_parse.specs.Reader.{first, marked, named as a_name, take_by, eat, expect}
use Rattle.ui_parse.proofs.Outcomes.{take_other}
use Rattle.ui_syntax.specs.declared.site.Site.{Site}
use Rattle.ui_syntax.specs.declared.site.Site.TheVariants.{Header, Plain, Wrapped, Argument}
use Rattle.ui_syntax.specs.declared.site.TypeSite.{TypeSite}
use Rattle.ui_syntax.specs.declared.site.TypeSite.TheVariants as at
use Rattle.ui_syntax.specs.Cover.{Read, has_literals, is_counted}
use Rattle.ui_syntax.specs.Types.{Nested, Listed, of_type, maybe_type}
use Rattle.ui_syntax.specs.Exprs.{of_tree, a_literal, a_prefix, takes_types, inner_site, alone, convert_or, literal_of, behind_type, type_operand, parenthesized_operand, operand}
use Rattle.ui_syntax.proofs.ByBudget.{FitsAt, type_room, QuietAt, QuietType, IsOperandType, TypeReadsTo, IsComplete}
use Rattle.ui_syntax.proofs.Quiet.{stop_paren, stop_mark, quiet_alone_stop}
use Rattle.ui_syntax.proofs.CompleteTypesLists.{pick_same}
use Rattle.ui_syntax.proofs.CompleteExprsTrees.{read_as, type_read_as}

-- ---- first words

record OperandFirst (ts : List Word) : Type 0 where
  no_literal : first a_literal ts ≡ None
  no_name : first a_name ts ≡ None
  no_paren : first (marked LParen) ts ≡ None
  no_prefix : first a_prefix ts ≡ None

operand_first : (t : TypeTree) → IsOperandType t → (ts rest : List Word) → SpellsType t ts rest → OperandFirst ts
operand_first (named n m vs) i ts rest s = absurd (cc (i.no_expression))
operand_first (parenthesized x t) i ts rest s = absurd (cc (i.no_parentheses))
operand_first (pointer x t) i ts rest s = absurd (cc (i.no_pointer))
operand_first (slice x t) i ts rest s = record { no_literal = ap (first a_literal) s.2; no_name = ap (first a_name) s.2; no_paren = ap (first (marked LParen)) s.2; no_prefix = ap (first a_prefix) s.2 }
operand_first (array x e t) i ts rest s = record { no_literal = ap (first a_literal) s.3; no_name = ap (first a_name) s.3; no_paren = ap (first (marked LParen)) s.3; no_prefix = ap (first a_prefix) s.3 }
operand_first (counted x t) i ts rest s = record { no_literal = ap (first a_literal) s.3; no_name = ap (first a_name) s.3; no_paren = ap (first (marked LParen)) s.3; no_prefix = ap (first a_prefix) s.3 }
operand_first (mapping x k t) i ts rest s = record { no_literal = ap (first a_literal) s.4; no_name = ap (first a_name) s.4; no_paren = ap (first (marked LParen)) s.4; no_prefix = ap (first a_prefix) s.4 }
operand_first (func x gs r) i ts rest s = record { no_literal = ap (first a_literal) s.3; no_name = ap (first a_name) s.3; no_paren = ap (first (marked LParen)) s.3; no_prefix = ap (first a_prefix) s.3 }
operand_first (struct x gs) i ts rest s = record { no_literal = ap (first a_literal) s.2; no_name = ap (first a_name) s.2; no_paren = ap (first (marked LParen)) s.2; no_prefix = ap (first a_prefix) s.2 }
operand_first (interface x us) i ts rest s = record { no_literal = ap (first a_literal) s.2; no_name = ap (first a_name) s.2; no_paren = ap (first (marked LParen)) s.2; no_prefix = ap (first a_prefix) s.2 }
operand_first (listed x gs) i ts rest s = absurd (elim i.fits [ inl f ↦ cc (f.0) | inr f ↦ cc (f.0) ])
operand_first (method n gs r) i ts rest s = absurd (elim i.fits [ inl f ↦ cc (f.0) | inr f ↦ cc (f.0) ])
operand_first (union x us) i ts rest s = absurd (elim i.fits [ inl f ↦ cc (f.0) | inr f ↦ cc (f.0) ])
operand_first (tilde x t) i ts rest s = absurd (elim i.fits [ inl f ↦ cc (f.0) | inr f ↦ cc (f.0) ])

-- the room for a type at the front of an operand
abbrev pub FrontRoom : Site → ℕ → TypeTree → Type 0
FrontRoom Header room t = type_depth t ≤ room
FrontRoom Plain room t = type_depth t ≤ room
FrontRoom Wrapped room t = type_depth t ≤ room
FrontRoom Argument room t = (type_depth t ≤ suc room) × (is_counted t ≡ true → suc (type_depth t) ≤ suc room)

pub front_room : (s : Site) (room : ℕ) (t : TypeTree) → type_depth t ≤ room → FrontRoom s room t
front_room Header room t le = le
front_room Plain room t le = le
front_room Wrapped room t le = le
front_room Argument room t le = (omega arith, λ _. omega arith)

-- within parentheses
pub inner_room : (s : Site) (room : ℕ) (x : Spot) (t : TypeTree) → FrontRoom s room (parenthesized x t) → type_room (inner_site s) room t
inner_room Header room x t le = le
inner_room Plain room x t le = le
inner_room Wrapped room x t le = le
inner_room Argument room x t le = let h = le.0 in omega arith

-- a type that an operand may begin with, in parentheses too
pub record IsFront (t : TypeTree) : Type 0 where
  pub no_expression : is_expression t ≡ false
  pub no_pointer : is_pointer t ≡ false
  pub fits : FitsType t plain_type ⊎ ((is_counted t ≡ true) × FitsType t of_literal)

module _ (room low : ℕ) (inner : Nested) (c : IsComplete room low inner)
    (type_complete : (p : TypeSite) (ts rest : List Word) (t : TypeTree) → SpellsType t ts rest → FitsAt p (suc room) t → QuietAt p t rest → TypeReadsTo (maybe_type room inner p ts) t ts rest) where
  -- ---- behind a type

  convert_or_reads : (s : Site) (f : Read TypeTree) (e : Tree) (y : Spot) (j : ℕ) (a b m rest : List Word) → is_counted f.tree ≡ false → Mark LParen a b → inner.level Plain 1 b ≡ Ok (of_tree e y j, m) → Closes Comma RParen m rest
      → convert_or room inner s f a ≡ Ok (of_tree (convert f.spot f.tree e) f.spot (suc (max f.depth j)), rest)
  unfolding take_by eat expect
  convert_or_reads s f e y j a b m rest counted_not begin is (inl close) = rw (counted_not, begin.is, is, close.is) refl
  convert_or_reads s f e y j a b m rest counted_not begin is (inr p) = rw (counted_not, begin.is, is, p.1.is, p.2.is) refl

  pub convert_reads : (s : Site) (f : Read TypeTree) (e : Tree) (y : Spot) (j : ℕ) (a b m rest : List Word) → is_counted f.tree ≡ false → f.depth ≤ room → Mark LParen a b → inner.level Plain 1 b ≡ Ok (of_tree e y j, m) → Closes Comma RParen m rest
      → behind_type room inner s f a ≡ Ok (of_tree (convert f.spot f.tree e) f.spot (suc (max f.depth j)), rest)
  unfolding behind_type
  convert_reads s f e y j a b m rest counted_not le begin is closes =
      let roomy : nat_le f.depth room ≡ true = le-leb f.depth room le in
      let reads = convert_or_reads s f e y j a b m rest counted_not begin is closes in
      rw roomy (pick_same (has_literals f.tree) (take_by (marked LBrace) (λ _. literal_of room inner f) (convert_or room inner s f)) (convert_or room inner s f) a _
      (take_other (marked LBrace) (λ _. literal_of room inner f) (convert_or room inner s f) a (ap (first (marked LBrace)) begin.is) ∙ reads) reads)

  pub literal_reads : (s : Site) (f : Read TypeTree) (l : Listed Tree) (a b rest : List Word) → has_literals f.tree ≡ true → f.depth ≤ room → Mark LBrace a b → inner.braces b ≡ Ok (l, rest)
      → behind_type room inner s f a ≡ Ok (of_tree (composite f.spot f.tree (trees l.items)) f.spot (suc (max f.depth (suc l.depth))), rest)
  unfolding behind_type take_by
  literal_reads s f l a b rest literals le begin is = let roomy : nat_le f.depth room ≡ true = le-leb f.depth room le in rw (roomy, literals, begin.is, is) refl

  pub alone_behind : (s : Site) (f : Read TypeTree) (a : List Word) → takes_types s ≡ true → is_counted f.tree ≡ false → first (marked LParen) a ≡ None → first (marked LBrace) a ≡ None
      → behind_type room inner s f a ≡ Ok (of_tree (type_arg f.tree) f.spot f.depth, a)
  unfolding behind_type take_by
  alone_behind s f a types counted_not no_paren no_brace =
      let alone_is : alone room inner s f a ≡ Ok (of_tree (type_arg f.tree) f.spot f.depth, a) = rw (types, counted_not) refl in
      let convert_is : convert_or room inner s f a ≡ Ok (of_tree (type_arg f.tree) f.spot f.depth, a) = rw (counted_not, no_paren) (rw types refl) in
      pick_same (nat_le f.depth room) (cond (has_literals f.tree) (take_by (marked LBrace) (λ _. literal_of room inner f) (convert_or room inner s f)) (convert_or room inner s f)) (alone room inner s f) a _
      (pick_same (has_literals f.tree) (take_by (marked LBrace) (λ _. literal_of room inner f) (convert_or room inner s f)) (convert_or room inner s f) a _
      (take_other (marked LBrace) (λ _. literal_of room inner f) (convert_or room inner s f) a no_brace ∙ convert_is) convert_is) alone_is

  -- ---- a type at the front of an operand

  pub record Front (s : Site) (t : TypeTree) (ts a : List Word) : Type 0 where
    pub spot : Spot
    pub begins : Begins spot ts
    pub is : operand room inner s ts ≡ behind_type room inner s (of_type t spot (type_depth t)) a
    pub no_prefix : first a_prefix ts ≡ None

  operand_site_type : (s : Site) (t : TypeTree) (ts a : List Word) → SpellsType t ts a → IsOperandType t → FrontRoom s room t → QuietType t a → (y : Spot) × (Begins y ts) × (type_operand room inner s ts ≡ behind_type room inner s (of_type t y (type_depth t)) a)
  operand_site_type Header t ts a sp i le q = let r = c.own.type at.Operand ts a t sp (i, le) q in (r.read.spot, r.begins, rw (type_read_as r) refl)
  operand_site_type Plain t ts a sp i le q = let r = c.own.type at.Operand ts a t sp (i, le) q in (r.read.spot, r.begins, rw (type_read_as r) refl)
  operand_site_type Wrapped t ts a sp i le q = let r = c.own.type at.Operand ts a t sp (i, le) q in (r.read.spot, r.begins, rw (type_read_as r) refl)
  operand_site_type Argument t ts a sp i le q = let r = type_complete at.Argument ts a t sp (i, le.0, le.1) q in (r.read.spot, r.begins, rw (type_read_as r) refl)

  pub bare_front : (s : Site) (t : TypeTree) (ts a : List Word) → SpellsType t ts a → IsOperandType t → FrontRoom s room t → QuietType t a → Front s t ts a
  unfolding operand take_by
  bare_front s t ts a sp i le q =
      let w = operand_first t i ts a sp in
      let h = operand_site_type s t ts a sp i le q in
      record {
        spot = h.0;
        begins = h.1;
        no_prefix = w.no_prefix;
        is = rw (w.no_literal, w.no_name) (pick_same (nat_le 1 room) (take_by (marked LParen) (λ x. parenthesized_operand room inner s x) (type_operand room inner s)) (type_operand room inner s) ts _
            (take_other (marked LParen) (λ x. parenthesized_operand room inner s x) (type_operand room inner s) ts w.no_paren ∙ h.2) h.2);
      }

  pub enclosed_front : (s : Site) (x : Spot) (t : TypeTree) (ts a b rest : List Word) → ts ≡ mark LParen x ∷ a → SpellsType t a b → Mark RParen b rest → is_expression t ≡ false → FitsType t plain_type → FrontRoom s room (parenthesized x t) → 1 ≤ room → Front s (parenthesized x t) ts rest
  unfolding operand parenthesized_operand take_by expect
  enclosed_front s x t ts a b rest e sp close no_expression fits le pos =
      let r = c.own.alone (inner_site s) 1 a b t sp (record { no_expression = no_expression; fits = fits; room = inner_room s room x t le }) (quiet_alone_stop t b (stop_mark RParen b rest stop_paren close)) in
      let roomy : nat_le 1 room ≡ true = le-leb 1 room pos in
      record { spot = x; begins = subst (Begins x) (sym e) refl; no_prefix = ap (first a_prefix) e; is = rw (e, roomy, read_as r, close.is) refl }
