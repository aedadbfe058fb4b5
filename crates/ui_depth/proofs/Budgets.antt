-- The readers of a budget beside those of each budget that is greater by four at least.
use Rattle.std.proofs.Common.{◌≡◌, ℕ, zero, suc, ◌+◌, ◌≤◌, true, List, ◌∷◌, Option, Some, None, refl, arith}
use Rattle.std.specs.Prelude.{nat_le}
use Rattle.std.proofs.lemmas.Bool.{le-leb}
use Rattle.ui_tree.specs.Tree.{TypeTree, Tree}
use Rattle.ui_grammar.specs.Word.{Word}
use Rattle.ui_parse.specs.Reader.{Reader, ◌>>=◌, pure}
use Rattle.ui_syntax.specs.declared.site.Site.{Site}
use Rattle.ui_syntax.specs.declared.site.TypeSite.{TypeSite}
use Rattle.ui_syntax.specs.declared.site.TypeSite.TheVariants as at
use Rattle.ui_syntax.specs.Cover.{Read, only_type}
use Rattle.ui_syntax.specs.Types.{or_refuse}
use Rattle.ui_syntax.specs.Read.{readers}
use Rattle.ui_depth.proofs.Deeper.{StopsAt, reads, faults, Deepens, Never, deep_bind, deep_pure, deep_refuse}
use Rattle.ui_depth.proofs.Goes.{goes_type, begins, goes, type_begins, type_goes}

-- each budget that is greater by four at least
abbrev pub above : ℕ → ℕ → ℕ
above zero e = suc (suc (suc (suc e)))
above (suc d) e = suc (above d e)

pub above_is : (d e : ℕ) → above d e ≡ d + 4 + e
above_is zero e = omega arith
above_is (suc d) e = omega (arith, above_is d e)

pub room_for : (k d e : ℕ) → k ≤ d + 4 → nat_le k (above d e) ≡ true
room_for k d e le = le-leb _ _ (omega (arith, above_is d e, le))

-- ---- where what was read may stop for its depth

abbrev pub TypeStop : Read TypeTree → Word → Type 0
TypeStop t w = goes_type w ≡ true

abbrev pub MaybeStop : TypeSite → Option (Read TypeTree) → Word → Type 0
MaybeStop p (Some t) w = goes_type w ≡ true
MaybeStop at.Plain None w = begins w ≡ true
MaybeStop at.Element None w = goes w ≡ true
MaybeStop at.Operand None w = begins w ≡ true
MaybeStop at.Argument None w = begins w ≡ true

-- The tree of an expression has the whole depth of the budget.
pub record ExprStop (budget : ℕ) (x : Read Tree) (w : Word) : Type 0 where
  pub full : only_type x.tree ≡ None → budget ≤ x.depth
  pub word : goes w ≡ true

abbrev pub AnyStop : {A : Type 0} → A → Word → Type 0
AnyStop a w = goes w ≡ true

-- what holds of the readers of a budget
pub record AreDeeper (d : ℕ) : Type 0 where
  pub level : (s : Site) (least : ℕ) → Deepens (ExprStop d) ((readers d).level s least) (λ e. (readers (above d e)).level s least)
  pub maybe_type : (p : TypeSite) → Deepens (MaybeStop p) ((readers d).maybe_type p) (λ e. (readers (above d e)).maybe_type p)
  pub braces : Deepens Never (readers d).braces (λ e. (readers (above d e)).braces)
  pub lower_level : (s : Site) (least : ℕ) → Deepens AnyStop ((readers d).lower_level s least) (λ e. (readers (above d e)).lower_level s least)
  pub lower_maybe_type : (p : TypeSite) → Deepens (MaybeStop p) ((readers d).lower_maybe_type p) (λ e. (readers (above d e)).lower_maybe_type p)

-- no type is read where one goes on
pub none_stops : (p : TypeSite) (w : Word) (r : List Word) → goes_type w ≡ true → StopsAt (MaybeStop p) (pure None (w ∷ r)) w r
none_stops at.Plain w r g = reads None refl (type_begins w g)
none_stops at.Element w r g = reads None refl (type_goes w g)
none_stops at.Operand w r g = reads None refl (type_begins w g)
none_stops at.Argument w r g = reads None refl (type_begins w g)

-- ---- a type that has to be there

pub deep_or_refuse : {A : Type 0} {D : A → Word → Type 0} (x : Option A) → Deepens D (or_refuse x) (λ e. or_refuse x)
deep_or_refuse None = deep_refuse
deep_or_refuse (Some a) = deep_pure a

or_refuse_stops : (p : TypeSite) (x : Option (Read TypeTree)) (w : Word) (r : List Word) → MaybeStop p x w → StopsAt TypeStop (or_refuse x (w ∷ r)) w r
or_refuse_stops p None w r d = faults refl
or_refuse_stops p (Some t) w r d = reads t refl d

pub deep_there : (p : TypeSite) {m : Reader (Option (Read TypeTree))} {ms : ℕ → Reader (Option (Read TypeTree))} → Deepens (MaybeStop p) m ms → Deepens TypeStop (m >>= or_refuse) (λ e. ms e >>= or_refuse)
deep_there p h = deep_bind h deep_or_refuse (or_refuse_stops p)
