-- What is known of the readers below, as their outcomes.
use Rattle.std.proofs.Common.{◌≡◌, ℕ, suc, ◌≤◌, false, List, [], ◌∷◌, Option, Some, None, Ok, refl, ap, ◌∙◌}
use Rattle.ui_base.specs.declared.value.Spot.{Spot}
use Rattle.ui_tree.specs.declared.part.Group.{Group}
use Rattle.ui_scan.specs.declared.kind.TokenKind.{TokenKind}
use Rattle.ui_tree.specs.Tree.{TypeTree, Types, types_end, type_and, Groups, groups_end, group_and, Tree, type_arg}
use Rattle.ui_tree.specs.View.{types, groups, kept, names}
use Rattle.ui_grammar.specs.Word.{Word, mark}
use Rattle.ui_grammar.specs.Both.{is_expression}
use Rattle.ui_grammar.specs.Spells.{Spells, SpellsType}
use Rattle.ui_grammar.specs.Fits.{plain, plain_type, interface_element, depth, type_depth, Fits, FitsType}
use Rattle.ui_parse.specs.Reader.{Outcome, Reader, and_then, first, marked}
use Rattle.ui_syntax.specs.declared.site.Site.TheVariants as site
use Rattle.ui_syntax.specs.declared.site.TypeSite.TheVariants as at
use Rattle.ui_syntax.specs.Cover.{Read}
use Rattle.ui_syntax.specs.Types.{Nested, or_refuse, a_type, a_lower_type, an_element}
use Rattle.ui_syntax.proofs.ByBudget.{IsCompleteAt, ReadsTo, TypeReadsTo, QuietType, QuietAt, Quiet, QuietAlone}
use Rattle.ui_syntax.proofs.SteadyTypes.{AreSteady}
use Rattle.ui_syntax.proofs.FirstWords.{type_mark, name_or, word_or, tree_mark, starts_other, first_of_type}
use Rattle.ui_syntax.proofs.FirstTrees.{first_of_tree}
use Rattle.ui_syntax.proofs.Levels.{level_positive}
use Rattle.ui_syntax.proofs.SoundTypesGroups.{names_kept}

-- the readers below are complete and steady
pub record Below (room low : ℕ) (inner : Nested) : Type 0 where
  pub below : 1 ≤ room → room ≡ suc low
  pub own : IsCompleteAt room inner.level inner.maybe_type
  pub lower : IsCompleteAt low inner.lower_level inner.lower_maybe_type
  pub steady : AreSteady inner

-- ---- first words

-- a mark with which no type begins
pub not_type_first : (k : TokenKind) → ((x : Spot) → name_or type_mark (mark k x) ≡ false) → (t : TypeTree) (ts rest : List Word) → SpellsType t ts rest → FitsType t plain_type → first (marked k) ts ≡ None
not_type_first k other t ts rest s fits = starts_other (name_or type_mark) k ts other (first_of_type t ts rest s fits)

-- and one with which no expression does
pub not_length_first : (k : TokenKind) → ((x : Spot) → word_or (tree_mark false) (mark k x) ≡ false) → (e : Tree) (ts rest : List Word) → Spells e ts rest → Fits e plain → first (marked k) ts ≡ None
not_length_first k other e ts rest s fits = starts_other (word_or (tree_mark false)) k ts other (first_of_tree e plain ts rest s fits)

-- ---- outcomes with a spot

pub record ReadAs {T : Type 0} (o : Outcome (Read T)) (t : T) (k : ℕ) (rest : List Word) : Type 0 where
  pub spot : Spot
  pub is : o ≡ Ok (record { tree = t; spot = spot; depth = k }, rest)

pub record MaybeAs {T : Type 0} (o : Outcome (Option (Read T))) (t : T) (k : ℕ) (rest : List Word) : Type 0 where
  pub spot : Spot
  pub is : o ≡ Ok (Some (record { tree = t; spot = spot; depth = k }), rest)

abbrev read_of : {T : Type 0} → T → Spot → ℕ → Read T
read_of t s k = record { tree = t; spot = s; depth = k }

pub same_read : {T : Type 0} (x : Read T) (t : T) (k : ℕ) → x.tree ≡ t → x.depth ≡ k → x ≡ record { tree = t; spot = x.spot; depth = k }
same_read x t k e f = ap (λ v. read_of v x.spot x.depth) e ∙ ap (λ v. read_of t x.spot v) f

pub read_as : (o : Outcome (Read Tree)) (e : Tree) (k : ℕ) (ts rest : List Word) → ReadsTo o e k ts rest → ReadAs o e k rest
read_as o e k ts rest x = record { spot = x.read.spot; is = x.is ∙ ap (λ (v : Read Tree). Ok (v, rest)) (same_read x.read e k x.tree x.depth) }

pub maybe_as : (o : Outcome (Option (Read TypeTree))) (t : TypeTree) (ts rest : List Word) → TypeReadsTo o t ts rest → MaybeAs o t (type_depth t) rest
maybe_as o t ts rest x = record { spot = x.read.spot; is = x.is ∙ ap (λ (v : Read TypeTree). Ok (Some v, rest)) (same_read x.read t (type_depth t) x.tree x.depth) }

pub or_refused : {T : Type 0} (o : Outcome (Option (Read T))) (t : T) (k : ℕ) (rest : List Word) → MaybeAs o t k rest → ReadAs (and_then o or_refuse) t k rest
or_refused o t k rest x = record { spot = x.spot; is = rw x.is refl }

-- ---- lists of the tree as lists

abbrev pub type_list : Types → List TypeTree
type_list types_end = []
type_list (type_and t us) = t ∷ type_list us

pub types_of_list : (us : Types) → types (type_list us) ≡ us
types_of_list types_end = refl
types_of_list (type_and t us) = ap (type_and t) (types_of_list us)

abbrev pub group_list : Groups → List (Group TypeTree)
group_list groups_end = []
group_list (group_and ns t gs) = record { names = ns; of = t } ∷ group_list gs

pub groups_of_list : (gs : Groups) → groups kept (group_list gs) ≡ gs
groups_of_list groups_end = refl
groups_of_list (group_and ns t gs) = ap (λ v. group_and v t (groups kept (group_list gs))) (names_kept ns) ∙ ap (group_and ns t) (groups_of_list gs)

-- ---- the parts of a type

-- a reader of types up to this depth, as those behind a name or brackets
abbrev pub ReadsTypes : ℕ → Reader (Read TypeTree) → Type 0
ReadsTypes r type = (t : TypeTree) (ts rest : List Word) → SpellsType t ts rest → FitsType t plain_type → type_depth t ≤ r → QuietType t rest → ReadAs (type ts) t (type_depth t) rest

module _ (room low : ℕ) (inner : Nested) (has : Below room low inner) where
  pub inner_type : (t : TypeTree) (ts rest : List Word) → SpellsType t ts rest → FitsType t plain_type → type_depth t ≤ room → QuietType t rest → MaybeAs (inner.maybe_type at.Plain ts) t (type_depth t) rest
  inner_type t ts rest s fits le quiet = maybe_as (inner.maybe_type at.Plain ts) t ts rest (has.own.type at.Plain ts rest t s (fits, le) quiet)

  pub lower_type : (t : TypeTree) (ts rest : List Word) → SpellsType t ts rest → FitsType t plain_type → type_depth t ≤ low → QuietType t rest → MaybeAs (inner.lower_maybe_type at.Plain ts) t (type_depth t) rest
  lower_type t ts rest s fits le quiet = maybe_as (inner.lower_maybe_type at.Plain ts) t ts rest (has.lower.type at.Plain ts rest t s (fits, le) quiet)

  pub a_type_reads : ReadsTypes room (a_type room inner)
  a_type_reads t ts rest s fits le quiet = or_refused (inner.maybe_type at.Plain ts) t (type_depth t) rest (inner_type t ts rest s fits le quiet)

  pub a_lower_type_reads : ReadsTypes low (a_lower_type room inner)
  a_lower_type_reads t ts rest s fits le quiet = or_refused (inner.lower_maybe_type at.Plain ts) t (type_depth t) rest (lower_type t ts rest s fits le quiet)

  pub an_element_reads : (t : TypeTree) (ts rest : List Word) → SpellsType t ts rest → FitsType t interface_element → type_depth t ≤ room → QuietAt at.Element t rest → ReadAs (an_element room inner ts) t (type_depth t) rest
  an_element_reads t ts rest s fits le quiet =
      or_refused (inner.maybe_type at.Element ts) t (type_depth t) rest (maybe_as (inner.maybe_type at.Element ts) t ts rest (has.own.type at.Element ts rest t s (fits, le) quiet))

  pub length_reads : (e : Tree) (ts rest : List Word) → Spells e ts rest → Fits e plain → depth e ≤ room → Quiet site.Plain 1 rest → ReadAs (inner.level site.Plain 1 ts) e (depth e) rest
  length_reads e ts rest s fits le quiet = read_as (inner.level site.Plain 1 ts) e (depth e) ts rest (has.own.expr site.Plain 1 ts rest e s (record { fits = fits; shallow = le; binds = level_positive e }) quiet)

  -- between the brackets behind a parameter's name
  pub cover_reads : (e : Tree) (ts rest : List Word) → Spells e ts rest → Fits e plain → depth e ≤ low → Quiet site.Argument 1 rest → ReadAs (inner.lower_level site.Argument 1 ts) e (depth e) rest
  cover_reads e ts rest s fits le quiet = read_as (inner.lower_level site.Argument 1 ts) e (depth e) ts rest (has.lower.expr site.Argument 1 ts rest e s (record { fits = fits; shallow = le; binds = level_positive e }) quiet)

  pub cover_alone_reads : (t : TypeTree) (ts rest : List Word) → SpellsType t ts rest → is_expression t ≡ false → FitsType t plain_type → type_depth t ≤ low → QuietAlone t rest → ReadAs (inner.lower_level site.Argument 1 ts) (type_arg t) (type_depth t) rest
  cover_alone_reads t ts rest s no_expression fits le quiet =
      read_as (inner.lower_level site.Argument 1 ts) (type_arg t) (type_depth t) ts rest (has.lower.alone site.Argument 1 ts rest t s (record { no_expression = no_expression; fits = fits; room = le }) quiet)
