-- What stands behind a type at the front of an operand, by what the code tests.
use Rattle.std.proofs.Common.{◌≡◌, ℕ, ◌<◌, ◌≤◌, true, false, List, Option, None, Result}
use Rattle.std.specs.Prelude.{nat_le}
use Rattle.std.proofs.lemmas.Bool.{le-leb, lt-leb}
use Rattle.ui_base.specs.declared.value.Spot.{Spot}
use Rattle.ui_scan.specs.declared.kind.TokenKind.TheVariants.{LParen, LBrace}
use Rattle.ui_grammar.specs.Word.{Word}
use Rattle.ui_parse.specs.declared.fault.ParseError.{ParseError}
use Rattle.ui_parse.specs.Cursor.{after}
use Rattle.ui_parse.specs.Reader.{first, marked, refuse}
use Rattle.ui_parse.specs.View.{Reads}
use Rattle.ui_syntax.specs.declared.site.Site.{Site}
use Rattle.ui_ptype.specs.declared.sub.Sub.{Sub}
use Rattle.ui_ptype.specs.declared.sub.TypeSub.{TypeSub}
use Rattle.ui_syntax.specs.Cover.{has_literals, is_counted}
use Rattle.ui_syntax.specs.Types.{Nested}
use Rattle.ui_syntax.specs.Exprs.{alone, convert_or, behind_type}
use Rattle.ui_ptype.specs.Seen.{see, see_type}
use Rattle.ui_ptype.specs.Branches.{reads_on, reads_off, reads_missed}

module _ (inner : Nested) (site : Site) (t : TypeSub) (ws : List Word) (r : Result Sub ParseError) where
  pub convert_alone : (us : List Word) (x : Option Spot) (room : ℕ) → is_counted (see_type t).tree ≡ false → x ≡ first (marked LParen) ws → x ≡ None → us ≡ after x ws → ((vs : List Word) → Reads see (alone room inner site (see_type t) vs) r vs) → Reads see (convert_or room inner site (see_type t) ws) r us
  convert_alone us x room e found is behind h = reads_off see r us (is_counted (see_type t).tree) refuse _ ws e (reads_missed see r us (marked LParen) _ (alone room inner site (see_type t)) x ws us found is behind (h us))

  pub behind_alone : (room : ℕ) → room < t.depth → ((vs : List Word) → Reads see (alone room inner site (see_type t) vs) r vs) → Reads see (behind_type room inner site (see_type t) ws) r ws
  unfolding behind_type
  behind_alone room lt h = reads_off see r ws (nat_le t.depth room) _ _ ws (lt-leb _ _ lt) (h ws)

  pub behind_convert : (us : List Word) (x : Option Spot) (left : List Word) (room : ℕ) → t.depth ≤ room → has_literals (see_type t).tree ≡ true → x ≡ first (marked LBrace) ws → x ≡ None → us ≡ after x ws → Reads see (convert_or room inner site (see_type t) us) r left → Reads see (behind_type room inner site (see_type t) ws) r left
  unfolding behind_type
  behind_convert us x left room le has found is behind h = reads_on see r left (nat_le t.depth room) _ _ ws (le-leb _ _ le) (reads_on see r left (has_literals (see_type t).tree) _ _ ws has (reads_missed see r left (marked LBrace) _ _ x ws us found is behind h))
