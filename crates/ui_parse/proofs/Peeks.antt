-- What the kind of the next token tells.
use Rattle.std.proofs.Common.{◌≡◌, Bool, true, false, List, [], ◌∷◌, Option, Some, None, refl, ap, ◌∙◌}
use Rattle.ui_base.specs.declared.value.Spot.{Spot}
use Rattle.ui_scan.specs.declared.kind.TokenKind.{TokenKind}
use Rattle.ui_scan.specs.declared.kind.TokenKind.TheVariants as kind
use Rattle.ui_tree.specs.declared.part.LiteralKind.{LiteralKind}
use Rattle.ui_tree.specs.declared.part.LiteralKind.TheVariants as literal
use Rattle.ui_grammar.specs.Word.{Word, ident, lit, mark}
use Rattle.ui_parse.specs.Kind.{is_kind}
use Rattle.ui_parse.specs.Reader.{first, spot_if, marked, named}
use Rattle.ui_parse.specs.Cursor.{a_literal, kind_of, kind_of_literal, is_mark, is_name, literal_kind}

-- no word is left
pub none_left : (ws : List Word) → first kind_of ws ≡ None → ws ≡ []
none_left [] e = refl
none_left (ident p ∷ ws) e = absurd cc
none_left (lit k s v ∷ ws) e = absurd cc
none_left (mark k s ∷ ws) e = absurd cc

-- the first word is this keyword or operator
pub record IsMarked (k : TokenKind) (ws : List Word) : Type 0 where
  pub spot : Spot
  pub rest : List Word
  pub is : ws ≡ mark k spot ∷ rest

no_mark_of : (l : LiteralKind) → is_mark (kind_of_literal l) ≡ true → ⊥
no_mark_of literal.Whole e = absurd cc
no_mark_of literal.Rune e = absurd cc
no_mark_of literal.Text e = absurd cc

pub next_marked : (k : TokenKind) (ws : List Word) → first kind_of ws ≡ Some k → is_mark k ≡ true → IsMarked k ws
next_marked k [] e m = absurd cc
next_marked k (ident p ∷ ws) e m = let same : kind.Ident ≡ k = cc in let clash : false ≡ true = ap is_mark same ∙ m in absurd cc
next_marked k (lit l s v ∷ ws) e m = let same : kind_of_literal l ≡ k = cc in absurd (no_mark_of l (ap is_mark same ∙ m))
next_marked k (mark found s ∷ ws) e m = let same : found ≡ k = cc in record { spot = s; rest = ws; is = ap (λ (z : TokenKind). mark z s ∷ ws) same }

-- it is no other
pub next_other : (k l : TokenKind) (ws : List Word) → first kind_of ws ≡ Some k → is_kind k l ≡ false → first (marked l) ws ≡ None
next_other k l [] e other = refl
next_other k l (ident p ∷ ws) e other = refl
next_other k l (lit j s v ∷ ws) e other = refl
next_other k l (mark found s ∷ ws) e other =
    let same : found ≡ k = cc in
    ap (λ (b : Bool). spot_if b s) (ap (λ (z : TokenKind). is_kind z l) same ∙ other)

pub next_no_name : (k : TokenKind) (ws : List Word) → first kind_of ws ≡ Some k → is_name k ≡ false → first named ws ≡ None
next_no_name k [] e other = refl
next_no_name k (ident p ∷ ws) e other = let same : kind.Ident ≡ k = cc in let clash : true ≡ false = ap is_name same ∙ other in absurd cc
next_no_name k (lit j s v ∷ ws) e other = refl
next_no_name k (mark found s ∷ ws) e other = refl

some_kind : (l : LiteralKind) → literal_kind (kind_of_literal l) ≡ None → ⊥
some_kind literal.Whole e = absurd cc
some_kind literal.Rune e = absurd cc
some_kind literal.Text e = absurd cc

pub next_no_literal : (k : TokenKind) (ws : List Word) → first kind_of ws ≡ Some k → literal_kind k ≡ None → first a_literal ws ≡ None
next_no_literal k [] e other = refl
next_no_literal k (ident p ∷ ws) e other = refl
next_no_literal k (lit j s v ∷ ws) e other = let same : kind_of_literal j ≡ k = cc in absurd (some_kind j (ap literal_kind same ∙ other))
next_no_literal k (mark found s ∷ ws) e other = refl

-- what is taken of its kind alone
abbrev pub of_kind : {B : Type 0} → (TokenKind → Option B) → Option TokenKind → Option B
of_kind f None = None
of_kind f (Some k) = f k

-- what a test finds in the next word that goes by the kind of marks, and takes no name or literal
pub next_by_kind : {B : Type 0} (f : TokenKind → Option B) (test : Word → Option B) (ws : List Word) → ((w : Word) → test w ≡ of_kind f (kind_of w)) → first test ws ≡ of_kind f (first kind_of ws)
next_by_kind f test [] same = refl
next_by_kind f test (w ∷ ws) same = same w
