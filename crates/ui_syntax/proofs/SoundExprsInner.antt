-- What the readers of the next lower budget read: whole expressions where no type stands alone, and types.
use Rattle.std.proofs.Common.{◌≡◌, inl, inr, ℕ, ◌≤◌, false, List, Option, Some, None, refl}
use Rattle.ui_tree.specs.Tree.{TypeTree, Tree}
use Rattle.ui_grammar.specs.Word.{Word}
use Rattle.ui_grammar.proofs.Frames.{Framed, framed_as, frame, frame_type}
use Rattle.ui_parse.proofs.Outcomes.{Holds, mono}
use Rattle.ui_syntax.specs.declared.site.Site.{Site}
use Rattle.ui_syntax.specs.declared.site.Site.TheVariants.{Header, Plain, Wrapped, Argument}
use Rattle.ui_syntax.specs.declared.site.TypeSite.TheVariants as at
use Rattle.ui_syntax.specs.Cover.{Read, only_type}
use Rattle.ui_syntax.specs.Types.{Nested, a_type}
use Rattle.ui_syntax.specs.Exprs.{takes_types}
use Rattle.ui_syntax.proofs.ByBudget.{Stops, TypeForm, IsTypeRead, type_room, ExprForm, CoverForm, Ends, IsExprRead, IsSoundAt}
use Rattle.ui_syntax.proofs.Begun.{stops_as}
use Rattle.ui_syntax.proofs.SoundTypesRead.{or_refuse_holds}
use Rattle.ui_syntax.proofs.SoundExprsFronts.{AloneAt}
use Rattle.ui_syntax.proofs.SoundExprsForms.{IsWhole, IsAlone, cover_is, cover_of}

pub no_room : (s : Site) (b : ℕ) (t : TypeTree) → takes_types s ≡ false → type_room s b t → ⊥
no_room Header b t off h = h
no_room Plain b t off h = h
no_room Wrapped b t off h = absurd cc
no_room Argument b t off h = absurd cc

pub frame_whole : (s : Site) (b least : ℕ) (ts : List Word) (x : Read Tree) (rest : List Word) → IsWhole s b least ts x rest → Framed (ExprForm s b least) ts rest
frame_whole s b least ts x rest h = framed_as (frame x.tree ts rest h.spells) (λ us ws q. record { tree = x.tree; spells = q; fits = h.fits })

pub frame_alone : (s : Site) (b : ℕ) (ts : List Word) (t : TypeTree) (x : Read Tree) (rest : List Word) → IsAlone s b ts t x rest → Framed (AloneAt s b) ts rest
frame_alone s b ts t x rest h = framed_as (frame_type t ts rest h.spells) (λ us ws q. record { tree = t; spells = q; fits = h.fits })

plain_by : (s : Site) (b least : ℕ) (ts : List Word) (x : Read Tree) (rest : List Word) (o : Option TypeTree) → only_type x.tree ≡ o → takes_types s ≡ false → IsExprRead s b least ts x rest
    → IsWhole s b least ts x rest × Ends b least x rest
plain_by s b least ts x rest None e off h = (cover_is s b least ts x rest None e (cover_of h), h.ends e)
plain_by s b least ts x rest (Some t) e off h = absurd (no_room s b t off (cover_is s b least ts x rest (Some t) e (cover_of h)).fits.room)

plain_form : (s : Site) (b least : ℕ) → takes_types s ≡ false → (us ws : List Word) → CoverForm s b least us ws → ExprForm s b least us ws
plain_form s b least off us ws (inl h) = h
plain_form s b least off us ws (inr h) = absurd (no_room s b h.tree off h.fits.room)

module _ (room : ℕ) (inner : Nested) (own : IsSoundAt room inner.level inner.maybe_type) where
  pub plain_read : (s : Site) (least : ℕ) (ts : List Word) → takes_types s ≡ false → least ≤ 6
      → Holds (λ x r. IsWhole s room least ts x r × Ends room least x r) (Stops (ExprForm s room least) ts) (inner.level s least ts)
  plain_read s least ts off le = mono (own.expr s least ts le)
      (λ x r h. plain_by s room least ts x r (only_type x.tree) refl off h)
      (λ r g. stops_as g (plain_form s room least off))

  pub type_read : (ts : List Word) → Holds (IsTypeRead at.Plain room ts) (Stops (TypeForm at.Plain room) ts) (a_type room inner ts)
  type_read ts = or_refuse_holds (own.type at.Plain ts)
