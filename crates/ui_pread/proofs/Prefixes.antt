-- Unary expressions, by what the code takes of the next word.
use Rattle.std.proofs.Common.{◌≡◌, ℕ, List, Option, Some, None, Result, refl, ap, ◌∙◌}
use Rattle.std.specs.Option.{option_map}
use Rattle.ui_grammar.specs.Word.{Word}
use Rattle.ui_parse.specs.declared.fault.ParseError.{ParseError}
use Rattle.ui_parse.specs.Cursor.{after}
use Rattle.ui_parse.specs.Reader.{first, take_by}
use Rattle.ui_parse.specs.View.{Reads}
use Rattle.ui_syntax.specs.declared.site.Site.{Site}
use Rattle.ui_ptype.specs.declared.sub.Sub.{Sub}
use Rattle.ui_pread.specs.declared.marks.Prefix.{Prefix}
use Rattle.ui_syntax.specs.Types.{Nested}
use Rattle.ui_syntax.specs.Exprs.{a_prefix, prefixed, primary, unary_expr}
use Rattle.ui_ptype.specs.Seen.{see}
use Rattle.ui_pread.specs.Seen.{see_prefix}
use Rattle.ui_ptype.specs.Branches.{some_room, no_room, reads_on, reads_off, reads_took, reads_missed}

after_seen : (x : Option Prefix) (ws : List Word) → after x ws ≡ after (option_map see_prefix x) ws
after_seen None ws = refl
after_seen (Some p) ws = refl

module _ (room : ℕ) (inner : Nested) (site : Site) (ws : List Word) (r : Result Sub ParseError) (left : List Word) where
  pub unary_low : room ≡ 0 → Reads see (primary room inner site ws) r left → Reads see (unary_expr room inner site ws) r left
  unfolding unary_expr
  unary_low low h = reads_off see r left _ (take_by a_prefix (λ o. prefixed room inner site o) (primary room inner site)) (primary room inner site) ws (no_room room low) h

  pub unary_prefix : (x : Option Prefix) (p : Prefix) (us : List Word) → (room ≡ 0 → ⊥) → option_map see_prefix x ≡ first a_prefix ws → x ≡ Some p → us ≡ after x ws
      → Reads see (prefixed room inner site (see_prefix p) us) r left → Reads see (unary_expr room inner site ws) r left
  unfolding unary_expr
  unary_prefix x p us some found is behind h = reads_on see r left _ (take_by a_prefix (λ o. prefixed room inner site o) (primary room inner site)) (primary room inner site) ws (some_room room some)
      (reads_took see r left a_prefix (λ o. prefixed room inner site o) (primary room inner site) (option_map see_prefix x) (see_prefix p) ws us found (ap (option_map see_prefix) is) (behind ∙ after_seen x ws) h)

  pub unary_plain : (x : Option Prefix) (us : List Word) → (room ≡ 0 → ⊥) → option_map see_prefix x ≡ first a_prefix ws → x ≡ None → us ≡ after x ws
      → Reads see (primary room inner site us) r left → Reads see (unary_expr room inner site ws) r left
  unfolding unary_expr
  unary_plain x us some found is behind h = reads_on see r left _ (take_by a_prefix (λ o. prefixed room inner site o) (primary room inner site)) (primary room inner site) ws (some_room room some)
      (reads_missed see r left a_prefix (λ o. prefixed room inner site o) (primary room inner site) (option_map see_prefix x) ws us found (ap (option_map see_prefix) is) (behind ∙ after_seen x ws) h)
