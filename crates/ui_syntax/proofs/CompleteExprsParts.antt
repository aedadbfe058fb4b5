-- The parts of a tree, which have one level less, are read.
use Rattle.std.proofs.Common.{◌≡◌, ◌⊎◌, inl, inr, ℕ, ◌≤◌, false, List, refl, sym, subst}
use Rattle.ui_scan.specs.declared.kind.TokenKind.TheVariants.{RBracket, Comma}
use Rattle.ui_tree.specs.Tree.{TypeTree, Types, types_end, type_and, Tree, type_arg}
use Rattle.ui_grammar.specs.Word.{Word}
use Rattle.ui_grammar.specs.Both.{is_expression}
use Rattle.ui_grammar.specs.Spells.{Spells, SpellsType, SpellsTypesTail}
use Rattle.ui_grammar.specs.Fits.{plain, argument, plain_type, depth, type_depth, Fits, FitsType}
use Rattle.ui_syntax.specs.declared.site.Site.{Site}
use Rattle.ui_syntax.specs.declared.site.Site.TheVariants.{Plain, Argument}
use Rattle.ui_syntax.specs.declared.site.TypeSite.TheVariants as at
use Rattle.ui_syntax.specs.Types.{Nested}
use Rattle.ui_syntax.specs.Read.{place_at}
use Rattle.ui_syntax.proofs.ByBudget.{ReadsTo, TypeReadsTo, IsComplete}
use Rattle.ui_syntax.proofs.Places.{plain_argument}
use Rattle.ui_syntax.proofs.Levels.{level_positive}
use Rattle.ui_syntax.proofs.Quiet.{stop_bracket, stop_comma, Stop, stop_mark, stop_closes, quiet_stop, quiet_type_stop, quiet_alone_stop}

-- ---- an argument or an element is an expression, or its form is of its place alone

abbrev pub IsArgument : Tree → Type 0
IsArgument e = Fits e plain ⊎ ((t : TypeTree) × (e ≡ type_arg t) × (is_expression t ≡ false) × FitsType t plain_type)

pub argument_cases : (e : Tree) → Fits e argument → IsArgument e
argument_cases (type_arg t) f = inr (t, refl, f.1, f.2)
argument_cases e f = inl (plain_argument e refl f)

-- ---- what stands behind a part of a list

pub types_tail_stops : (us : Types) (ts rest : List Word) → SpellsTypesTail Comma RBracket us ts rest → Stop ts
types_tail_stops types_end ts rest s = stop_closes Comma RBracket ts rest stop_comma stop_bracket s
types_tail_stops (type_and t us) ts rest s = stop_mark Comma ts s.0 stop_comma s.2

module _ (room low : ℕ) (inner : Nested) (c : IsComplete room low inner) where
  pub whole_at : (s : Site) (e : Tree) (ts rest : List Word) → Spells e ts rest → Fits e (place_at s) → depth e ≤ room → Stop rest → ReadsTo (inner.level s 1 ts) e (depth e) ts rest
  whole_at s e ts rest spelled fits le stop = c.own.expr s 1 ts rest e spelled (record { fits = fits; shallow = le; binds = level_positive e }) (quiet_stop s 1 rest stop)

  pub plain_reads : (e : Tree) (ts rest : List Word) → Spells e ts rest → Fits e plain → depth e ≤ room → Stop rest → ReadsTo (inner.level Plain 1 ts) e (depth e) ts rest
  plain_reads e ts rest spelled fits le stop = whole_at Plain e ts rest spelled fits le stop

  pub index_reads : (e : Tree) (ts rest : List Word) → Spells e ts rest → Fits e plain → depth e ≤ room → Stop rest → ReadsTo (inner.level Argument 1 ts) e (depth e) ts rest
  index_reads e ts rest spelled fits le stop = whole_at Argument e ts rest spelled fits le stop

  pub alone_reads : (t : TypeTree) (ts rest : List Word) → SpellsType t ts rest → is_expression t ≡ false → FitsType t plain_type → type_depth t ≤ room → Stop rest → ReadsTo (inner.level Argument 1 ts) (type_arg t) (type_depth t) ts rest
  alone_reads t ts rest spelled no_expression fits le stop =
      c.own.alone Argument 1 ts rest t spelled (record { no_expression = no_expression; fits = fits; room = le }) (quiet_alone_stop t rest stop)

  pub argument_reads : (e : Tree) (ts rest : List Word) → Spells e ts rest → Fits e argument → depth e ≤ room → Stop rest → ReadsTo (inner.level Argument 1 ts) e (depth e) ts rest
  argument_reads e ts rest spelled fits le stop = by_case (argument_cases e fits)
    where
      by_case : IsArgument e → ReadsTo (inner.level Argument 1 ts) e (depth e) ts rest
      by_case (inl f) = index_reads e ts rest spelled f le stop
      by_case (inr p) =
          subst (λ (x : Tree). ReadsTo (inner.level Argument 1 ts) x (depth x) ts rest) (sym p.1)
          (alone_reads p.0 ts rest (subst (λ (x : Tree). Spells x ts rest) p.1 spelled) p.2 p.3 (subst (λ (x : Tree). depth x ≤ room) p.1 le) stop)

  pub type_reads : (t : TypeTree) (ts rest : List Word) → SpellsType t ts rest → FitsType t plain_type → type_depth t ≤ room → Stop rest → TypeReadsTo (inner.maybe_type at.Plain ts) t ts rest
  type_reads t ts rest spelled fits le stop = c.own.type at.Plain ts rest t spelled (fits, le) (quiet_type_stop t rest stop)
