-- What goes on behind an operand, turn by turn.
use Rattle.std.proofs.Common.{◌≡◌, ℕ, zero, suc, ◌+◌, ◌<◌, ◌≤◌, max, true, false, List, ◌∷◌, Option, Some, None, Ok, refl, ap, ◌∙◌, arith}
use Rattle.std.specs.Prelude.{nat_le, not, ◌&&◌}
use Rattle.std.proofs.lemmas.Bool.{le-leb}
use Rattle.ui_base.specs.declared.value.Spot.{Spot}
use Rattle.ui_scan.specs.declared.kind.TokenKind.TheVariants.{LParen, RParen, LBracket, RBracket, LBrace, Period, Colon}
use Rattle.ui_tree.specs.declared.part.Placed.{Placed}
use Rattle.ui_tree.specs.Tree.{TypeTree, Tree, composite, selector, assert, index, MaybeTree, absent, given}
use Rattle.ui_tree.specs.View.{trees}
use Rattle.ui_grammar.specs.Word.{Word, ident, Begins, Mark}
use Rattle.ui_grammar.specs.Fits.{depth}
use Rattle.ui_parse.specs.Reader.{Reader, pure, first, marked, take_by, expect}
use Rattle.ui_syntax.specs.declared.site.Site.{Site}
use Rattle.ui_syntax.specs.declared.site.Site.TheVariants.{Header, Plain, Wrapped, Argument}
use Rattle.ui_syntax.specs.declared.site.TypeSite.TheVariants as at
use Rattle.ui_syntax.specs.Cover.{Read, only_type, as_type, if_named}
use Rattle.ui_syntax.specs.Types.{Nested, Listed, of_type}
use Rattle.ui_syntax.specs.Exprs.{of_tree, is_header, is_some, a_prefix, slice_of, bounds, selected, indexed, literal_or, one_suffix, suffixes, primary}
use Rattle.ui_syntax.proofs.ByBudget.{Quiet}
use Rattle.ui_syntax.proofs.FirstWords.{same_spot}
use Rattle.ui_syntax.proofs.CompleteTypesLists.{pick_same}

module _ (room : ℕ) (inner : Nested) where
  -- ---- nothing goes on

  literal_stops : (again : Read Tree → Reader (Read Tree)) (s : Site) (f : Read Tree) (m : Option TypeTree) (ws : List Word) → (is_header s ≡ false → first (marked LBrace) ws ≡ None) → literal_or room inner again s f m ws ≡ Ok (f, ws)
  unfolding take_by
  literal_stops again s f None ws e = refl
  literal_stops again Header f (Some t) ws e = refl
  literal_stops again Plain f (Some t) ws e = rw (e refl) refl
  literal_stops again Wrapped f (Some t) ws e = rw (e refl) refl
  literal_stops again Argument f (Some t) ws e = rw (e refl) refl

  one_stops : (again : Read Tree → Reader (Read Tree)) (s : Site) (least : ℕ) (f : Read Tree) (ws : List Word) → Quiet s least ws → one_suffix room inner again s f ws ≡ Ok (f, ws)
  unfolding take_by
  one_stops again s least f ws q = rw (q.no_dot, q.no_bracket, q.no_paren) (literal_stops again s f (if_named (as_type f.tree)) ws q.no_brace)

  pub suffixes_stop : (s : Site) (least n : ℕ) (f : Read Tree) (ws : List Word) → Quiet s least ws → suffixes room inner s n f ws ≡ Ok (f, ws)
  unfolding suffixes
  suffixes_stop s least zero f ws q = refl
  suffixes_stop s least (suc n) f ws q = pick_same (not (is_some (only_type f.tree)) && nat_le f.depth room) (one_suffix room inner (suffixes room inner s n) s f) (pure f) ws (Ok (f, ws)) (one_stops (suffixes room inner s n) s least f ws q) refl

  -- a type alone
  pub suffixes_alone : (s : Site) (n : ℕ) (f : Read Tree) (t : TypeTree) (ws : List Word) → only_type f.tree ≡ Some t → suffixes room inner s n f ws ≡ Ok (f, ws)
  unfolding suffixes
  suffixes_alone s zero f t ws e = refl
  suffixes_alone s (suc n) f t ws e = rw e refl

  -- ---- one turn

  -- an operand with what follows, read up to here; each turn that is left makes the tree deeper
  pub record Primary (s : Site) (ts : List Word) (e : Tree) (rest : List Word) : Type 0 where
    pub fuel : ℕ
    pub enough : suc room < fuel + depth e
    pub spot : Spot
    pub begins : Begins spot ts
    pub same : primary room inner s ts ≡ suffixes room inner s fuel (of_tree e spot (depth e)) rest
    pub no_prefix : first a_prefix ts ≡ None

  turn : (s : Site) (n : ℕ) (f : Tree) (x : Spot) (ws : List Word) → only_type f ≡ None → depth f ≤ room
      → suffixes room inner s (suc n) (of_tree f x (depth f)) ws ≡ one_suffix room inner (suffixes room inner s n) s (of_tree f x (depth f)) ws
  unfolding suffixes
  turn s n f x ws alone le = let fits : nat_le (depth f) room ≡ true = le-leb _ _ le in rw (alone, fits) refl

  extend_by : (s : Site) (ts : List Word) (f e : Tree) (x : Spot) (a rest : List Word) → only_type f ≡ None → depth f ≤ room → depth f < depth e → Begins x ts
      → ((again : Read Tree → Reader (Read Tree)) → one_suffix room inner again s (of_tree f x (depth f)) a ≡ again (of_tree e x (depth e)) rest)
      → (n : ℕ) → suc room < n + depth f → primary room inner s ts ≡ suffixes room inner s n (of_tree f x (depth f)) a → first a_prefix ts ≡ None → Primary s ts e rest
  extend_by s ts f e x a rest alone le deeper begins step zero lt same no_prefix = absurd (omega arith)
  extend_by s ts f e x a rest alone le deeper begins step (suc n) lt same no_prefix = record {
    fuel = n;
    enough = omega arith;
    spot = x;
    begins = begins;
    same = same ∙ turn s n f x a alone le ∙ step (suffixes room inner s n);
    no_prefix = no_prefix;
  }

  pub extend : (s : Site) (ts : List Word) (f e : Tree) (x : Spot) (a rest : List Word) → Primary s ts f a → only_type f ≡ None → depth f ≤ room → depth f < depth e → Begins x ts
      → ((again : Read Tree → Reader (Read Tree)) → one_suffix room inner again s (of_tree f x (depth f)) a ≡ again (of_tree e x (depth e)) rest) → Primary s ts e rest
  extend s ts f e x a rest p alone le deeper begins step =
      extend_by s ts f e x a rest alone le deeper begins step p.fuel p.enough
      (p.same ∙ ap (λ (y : Spot). suffixes room inner s p.fuel (of_tree f y (depth f)) a) (same_spot p.spot x ts p.begins begins)) p.no_prefix

  -- ---- what each suffix gives

  pub selector_step : (again : Read Tree → Reader (Read Tree)) (s : Site) (f : Read Tree) (n : Placed) (a b rest : List Word) → Mark Period a b → b ≡ ident n ∷ rest
      → one_suffix room inner again s f a ≡ again (of_tree (selector f.spot f.tree n) f.spot (suc f.depth)) rest
  unfolding take_by selected
  selector_step again s f n a b rest dot e = rw (dot.is, e) refl

  pub assert_step : (again : Read Tree → Reader (Read Tree)) (s : Site) (f : Read Tree) (t : TypeTree) (x : Spot) (k : ℕ) (a b c d rest : List Word) → Mark Period a b → Mark LParen b c → Mark RParen d rest
      → inner.maybe_type at.Plain c ≡ Ok (Some (of_type t x k), d) → one_suffix room inner again s f a ≡ again (of_tree (assert f.spot f.tree t) f.spot (suc (max f.depth k))) rest
  unfolding take_by selected expect
  assert_step again s f t x k a b c d rest dot begin close h = rw (dot.is, begin.is, h, close.is) refl

  pub index_step : (again : Read Tree → Reader (Read Tree)) (s : Site) (f : Read Tree) (i : Tree) (x : Spot) (k : ℕ) (a b c rest : List Word) → Mark LBracket a b → Mark RBracket c rest → only_type i ≡ None → first (marked Colon) b ≡ None
      → inner.level Argument 1 b ≡ Ok (of_tree i x k, c) → one_suffix room inner again s f a ≡ again (of_tree (index f.spot f.tree i) f.spot (suc (max f.depth k))) rest
  unfolding take_by indexed
  index_step again s f i x k a b c rest begin close alone no_colon h = rw (begin.is, no_colon, h, alone, close.is) refl

  -- behind the first colon
  pub no_bounds : (f : Read Tree) (low : MaybeTree) (i : ℕ) (d rest : List Word) → Mark RBracket d rest → bounds room inner f low i d ≡ Ok (slice_of room inner f low i absent 0 absent 0, rest)
  unfolding take_by bounds
  no_bounds f low i d rest close = rw close.is refl

  pub one_bound : (f : Read Tree) (low : MaybeTree) (i : ℕ) (h : Tree) (x : Spot) (j : ℕ) (d g rest : List Word) → Mark RBracket g rest → first (marked RBracket) d ≡ None
      → inner.level Plain 1 d ≡ Ok (of_tree h x j, g) → bounds room inner f low i d ≡ Ok (slice_of room inner f low i (given h) j absent 0, rest)
  unfolding take_by bounds expect
  one_bound f low i h x j d g rest close no_close is = rw (no_close, is, close.is) refl

  pub two_bounds : (f : Read Tree) (low : MaybeTree) (i : ℕ) (h m : Tree) (x y : Spot) (j k : ℕ) (d g g2 g3 rest : List Word) → Mark Colon g g2 → Mark RBracket g3 rest → first (marked RBracket) d ≡ None
      → inner.level Plain 1 d ≡ Ok (of_tree h x j, g) → inner.level Plain 1 g2 ≡ Ok (of_tree m y k, g3) → bounds room inner f low i d ≡ Ok (slice_of room inner f low i (given h) j (given m) k, rest)
  unfolding take_by bounds expect
  two_bounds f low i h m x y j k d g g2 g3 rest colon close no_close is is2 = rw (no_close, is, colon.is, is2, close.is) refl

  pub high_step : (again : Read Tree → Reader (Read Tree)) (s : Site) (f x : Read Tree) (a b d rest : List Word) → Mark LBracket a b → Mark Colon b d → bounds room inner f absent 0 d ≡ Ok (x, rest)
      → one_suffix room inner again s f a ≡ again x rest
  unfolding take_by indexed
  high_step again s f x a b d rest begin colon h = rw (begin.is, colon.is, h) refl

  pub low_step : (again : Read Tree → Reader (Read Tree)) (s : Site) (f : Read Tree) (l : Tree) (y : Spot) (k : ℕ) (x : Read Tree) (a b c d rest : List Word) → Mark LBracket a b → Mark Colon c d → only_type l ≡ None → first (marked Colon) b ≡ None
      → inner.level Argument 1 b ≡ Ok (of_tree l y k, c) → bounds room inner f (given l) k d ≡ Ok (x, rest) → one_suffix room inner again s f a ≡ again x rest
  unfolding take_by indexed
  low_step again s f l y k x a b c d rest begin colon alone no_colon is h = rw (begin.is, no_colon, is, alone, colon.is, h) refl

  pub literal_step : (again : Read Tree → Reader (Read Tree)) (s : Site) (f : Read Tree) (t : TypeTree) (l : Listed Tree) (a b rest : List Word) → Mark LBrace a b → is_header s ≡ false → if_named (as_type f.tree) ≡ Some t
      → inner.braces b ≡ Ok (l, rest) → one_suffix room inner again s f a ≡ again (of_tree (composite f.spot t (trees l.items)) f.spot (suc (max f.depth (suc l.depth)))) rest
  unfolding take_by
  literal_step again s f t l a b rest begin site is h = rw (begin.is, is, site, h) refl
