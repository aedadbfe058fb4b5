-- What was read at a site, as an expression or as a type alone, and what its levels, places and depths are.
use Rattle.std.proofs.Common.{◌≡◌, ℕ, suc, ◌≤◌, List, Option, Some, None, refl, sym, subst, arith}
use Rattle.ui_base.specs.declared.kind.BinOp.{BinOp}
use Rattle.ui_base.specs.declared.kind.BinOp.TheVariants as op
use Rattle.ui_tree.specs.Tree.{TypeTree, Tree, type_arg, binary}
use Rattle.ui_grammar.specs.Word.{Word, Begins}
use Rattle.ui_grammar.specs.Operator.{level_of}
use Rattle.ui_grammar.specs.Spells.{Spells, SpellsType}
use Rattle.ui_grammar.specs.Fits.{within, level, depth, type_depth, Fits}
use Rattle.ui_syntax.specs.declared.site.Site.{Site}
use Rattle.ui_syntax.specs.declared.site.Site.TheVariants.{Header, Plain, Wrapped, Argument}
use Rattle.ui_syntax.specs.Cover.{Read, only_type}
use Rattle.ui_syntax.proofs.Places.{no_type, depth_positive}
use Rattle.ui_syntax.specs.Read.{place_at}
use Rattle.ui_syntax.proofs.ByBudget.{FitsExpr, FitsAlone, FitsCover, cover_depth, IsExprRead}
use Rattle.ui_syntax.proofs.SoundTypesBracket.{only_is}

-- ---- what was read, whatever follows

pub record IsCoverRead (s : Site) (b least : ℕ) (ts : List Word) (x : Read Tree) (rest : List Word) : Type 0 where
  pub begins : Begins x.spot ts
  pub spells : Spells x.tree ts rest
  pub fits : FitsCover s b least x.tree (only_type x.tree)
  pub sized : cover_depth x.tree (only_type x.tree) ≡ x.depth

-- an expression
pub record IsWhole (s : Site) (b least : ℕ) (ts : List Word) (x : Read Tree) (rest : List Word) : Type 0 where
  pub begins : Begins x.spot ts
  pub spells : Spells x.tree ts rest
  pub fits : FitsExpr s b least x.tree
  pub sized : depth x.tree ≡ x.depth

-- a type
pub record IsAlone (s : Site) (b : ℕ) (ts : List Word) (t : TypeTree) (x : Read Tree) (rest : List Word) : Type 0 where
  pub is : x.tree ≡ type_arg t
  pub begins : Begins x.spot ts
  pub spells : SpellsType t ts rest
  pub fits : FitsAlone s b t
  pub sized : type_depth t ≡ x.depth

abbrev pub IsCover : Site → ℕ → ℕ → List Word → Read Tree → List Word → Option TypeTree → Type 0
IsCover s b least ts x rest None = IsWhole s b least ts x rest
IsCover s b least ts x rest (Some t) = IsAlone s b ts t x rest

pub cover_is : (s : Site) (b least : ℕ) (ts : List Word) (x : Read Tree) (rest : List Word) (o : Option TypeTree) → only_type x.tree ≡ o → IsCoverRead s b least ts x rest → IsCover s b least ts x rest o
cover_is s b least ts x rest None e h = record {
  begins = h.begins;
  spells = h.spells;
  fits = subst (λ (o : Option TypeTree). FitsCover s b least x.tree o) e h.fits;
  sized = subst (λ (o : Option TypeTree). cover_depth x.tree o ≡ x.depth) e h.sized;
}
cover_is s b least ts x rest (Some t) e h = let is = only_is x.tree t e in record {
  is = is;
  begins = h.begins;
  spells = subst (λ (v : Tree). Spells v ts rest) is h.spells;
  fits = subst (λ (o : Option TypeTree). FitsCover s b least x.tree o) e h.fits;
  sized = subst (λ (o : Option TypeTree). cover_depth x.tree o ≡ x.depth) e h.sized;
}

pub cover_of : {s : Site} {b least : ℕ} {ts : List Word} {x : Read Tree} {rest : List Word} → IsExprRead s b least ts x rest → IsCoverRead s b least ts x rest
cover_of h = record { begins = h.begins; spells = h.spells; fits = h.fits; sized = h.sized }

-- the place of what a site's expression begins with is its own
within_site : (s : Site) → within (place_at s) ≡ place_at s
within_site Header = refl
within_site Plain = refl
within_site Wrapped = refl
within_site Argument = refl

pub fits_within : (s : Site) (e : Tree) → Fits e (place_at s) → Fits e (within (place_at s))
fits_within s e f = subst (Fits e) (sym (within_site s)) f

pub whole_cover : (s : Site) (b least : ℕ) (ts : List Word) (x : Read Tree) (rest : List Word) → IsWhole s b least ts x rest → IsCoverRead s b least ts x rest
whole_cover s b least ts x rest h = let e = no_type x.tree (place_at s) (fits_within s x.tree h.fits.fits) in record {
  begins = h.begins;
  spells = h.spells;
  fits = subst (λ (o : Option TypeTree). FitsCover s b least x.tree o) (sym e) h.fits;
  sized = subst (λ (o : Option TypeTree). cover_depth x.tree o ≡ x.depth) (sym e) h.sized;
}

-- ---- levels and depths

pub level_le : (o : BinOp) → suc (level_of o) ≤ 6
level_le op.LogicalOr = omega arith
level_le op.LogicalAnd = omega arith
level_le op.Equal = omega arith
level_le op.NotEqual = omega arith
level_le op.Less = omega arith
level_le op.LessEqual = omega arith
level_le op.Greater = omega arith
level_le op.GreaterEqual = omega arith
level_le op.Add = omega arith
level_le op.Sub = omega arith
level_le op.Or = omega arith
level_le op.Xor = omega arith
level_le op.Mul = omega arith
level_le op.Div = omega arith
level_le op.Rem = omega arith
level_le op.Shl = omega arith
level_le op.Shr = omega arith
level_le op.And = omega arith
level_le op.AndNot = omega arith

level_most : (e : Tree) → level e ≤ 7
level_most (binary s o l r) = omega (arith, level_le o)
level_most _ = omega arith

pub level_full : (e : Tree) → 7 ≤ level e → level e ≡ 7
level_full e le = omega (arith, level_most e)

pub depth_at : (s : Site) (e : Tree) → Fits e (place_at s) → 1 ≤ depth e
depth_at s e f = depth_positive e (place_at s) f
