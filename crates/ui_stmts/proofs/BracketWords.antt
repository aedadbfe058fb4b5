-- Square brackets are matched in the words of expressions and types, so an expression ends before a bracket that closes
-- something around it.
use Rattle.std.proofs.Common.{◌≡◌, inl, inr, ℕ, zero, suc, ◌≤◌, Bool, true, false, List, [], ◌∷◌, ◌++◌, length, Option, Some, None, refl, sym, ap, ◌∙◌, append_assoc, arith}
use Rattle.std.proofs.lemmas.List.{length-append}
use Rattle.ui_base.specs.declared.value.Spot.{Spot}
use Rattle.ui_base.specs.declared.kind.BinOp.{BinOp}
use Rattle.ui_base.specs.declared.kind.BinOp.TheVariants as op
use Rattle.ui_scan.specs.declared.kind.TokenKind.{TokenKind}
use Rattle.ui_scan.specs.declared.kind.TokenKind.TheVariants.{LParen, RParen, LBracket, RBracket, LBrace, RBrace, Comma, Semi, Period, Colon, Ellipsis, Mul, Or, Tilde, Map, Func, Struct, Interface}
use Rattle.ui_base.specs.declared.value.Value.{Value}
use Rattle.ui_tree.specs.declared.part.LiteralKind.{LiteralKind}
use Rattle.ui_tree.specs.declared.part.Placed.{Placed}
use Rattle.ui_tree.specs.declared.part.PrefixOp.{PrefixOp}
use Rattle.ui_tree.specs.declared.part.PrefixOp.TheVariants as prefix
use Rattle.ui_grammar.specs.Word.{Word, ident, lit, mark, Mark, Closes, If, NamesTail}
use Rattle.ui_grammar.specs.Operator.{mark_of, prefix_mark_of}
use Rattle.ui_grammar.specs.Spells.{Member, Labels}
use Rattle.ui_parse.specs.Kind.{is_kind}

-- how a word changes the number of open brackets
pub data Move : Type 0 where
  flat : Move
  up : Move
  down : Move

pub by_kind : Bool → Bool → Move
by_kind true c = up
by_kind false true = down
by_kind false false = flat

pub move : Word → Move
move (ident p) = flat
move (lit k s v) = flat
move (mark k s) = by_kind (is_kind k LBracket) (is_kind k RBracket)

pub after : Move → (ℕ → Option ℕ) → ℕ → Option ℕ
after flat k d = k d
after up k d = k (suc d)
after down k zero = None
after down k (suc d) = k d

-- how many brackets are open behind the words, where none closes that was not opened
pub scan : List Word → ℕ → Option ℕ
scan [] d = Some d
scan (w ∷ ws) d = after (move w) (scan ws) d

-- ts is a front whose brackets are matched, and then m
pub record Level (ts m : List Word) : Type 0 where
  pub front : List Word
  pub parts : ts ≡ front ++ m
  pub scans : (d : ℕ) (x : List Word) → scan (front ++ x) d ≡ scan x d

-- likewise, and then the mark
pub record Until (close : TokenKind) (ts rest : List Word) : Type 0 where
  pub middle : List Word
  pub level : Level ts middle
  pub close_is : Mark close middle rest

pub nothing : (ts rest : List Word) → ts ≡ rest → Level ts rest
nothing ts rest e = record { front = []; parts = e; scans = λ d x. refl }

pub then_level : {ts m rest : List Word} → Level ts m → Level m rest → Level ts rest
then_level {ts = ts} {m = m} {rest = rest} a b = record {
  front = a.front ++ b.front;
  parts = a.parts ∙ ap (λ (v : List Word). a.front ++ v) b.parts ∙ sym (append_assoc a.front b.front rest);
  scans = λ d x. ap (λ (v : List Word). scan v d) (append_assoc a.front b.front x) ∙ a.scans d (b.front ++ x) ∙ b.scans d x;
}

pub flat_word : (w : Word) (ts rest : List Word) → move w ≡ flat → ts ≡ w ∷ rest → Level ts rest
unfolding scan after
flat_word w ts rest f e = record { front = w ∷ []; parts = e; scans = λ d x. ap (λ (v : Move). after v (scan x) d) f }

pub flat_mark : (k : TokenKind) (ts rest : List Word) → ((s : Spot) → move (mark k s) ≡ flat) → Mark k ts rest → Level ts rest
flat_mark k ts rest f m = flat_word (mark k m.spot) ts rest (f m.spot) m.is

pub a_name : (p : Placed) (ts rest : List Word) → ts ≡ ident p ∷ rest → Level ts rest
unfolding move
a_name p ts rest e = flat_word (ident p) ts rest refl e

pub a_literal : (k : LiteralKind) (x : Spot) (v : Value) (ts rest : List Word) → ts ≡ lit k x v ∷ rest → Level ts rest
unfolding move
a_literal k x v ts rest e = flat_word (lit k x v) ts rest refl e

-- brackets with what is in them
pub pair : (x : Spot) (ts a rest : List Word) → ts ≡ mark LBracket x ∷ a → Until RBracket a rest → Level ts rest
unfolding scan after move by_kind
pair x ts a rest e u = let l = u.level in let k = u.close_is in record {
  front = mark LBracket x ∷ (l.front ++ (mark RBracket k.spot ∷ []));
  parts = e ∙ ap (λ (v : List Word). mark LBracket x ∷ v) (l.parts ∙ ap (λ (v : List Word). l.front ++ v) k.is ∙ sym (append_assoc l.front (mark RBracket k.spot ∷ []) rest));
  scans = λ d y. ap (λ (v : List Word). scan v (suc d)) (append_assoc l.front (mark RBracket k.spot ∷ []) y) ∙ l.scans (suc d) (mark RBracket k.spot ∷ y);
}

-- marks that are no brackets
abbrev pub IsFlat : TokenKind → Type 0
IsFlat k = (s : Spot) → move (mark k s) ≡ flat

pub op_flat : (o : BinOp) → IsFlat (mark_of o)
unfolding move by_kind
op_flat op.Add s = refl
op_flat op.Sub s = refl
op_flat op.Mul s = refl
op_flat op.Div s = refl
op_flat op.Rem s = refl
op_flat op.And s = refl
op_flat op.Or s = refl
op_flat op.Xor s = refl
op_flat op.AndNot s = refl
op_flat op.Shl s = refl
op_flat op.Shr s = refl
op_flat op.Equal s = refl
op_flat op.NotEqual s = refl
op_flat op.Less s = refl
op_flat op.LessEqual s = refl
op_flat op.Greater s = refl
op_flat op.GreaterEqual s = refl
op_flat op.LogicalAnd s = refl
op_flat op.LogicalOr s = refl

pub prefix_flat : (o : PrefixOp) → IsFlat (prefix_mark_of o)
unfolding move by_kind
prefix_flat prefix.Plus s = refl
prefix_flat prefix.Minus s = refl
prefix_flat prefix.Not s = refl
prefix_flat prefix.Flip s = refl
prefix_flat prefix.Deref s = refl
prefix_flat prefix.Address s = refl

pub lparen_flat : IsFlat LParen
unfolding move by_kind
lparen_flat s = refl

pub rparen_flat : IsFlat RParen
unfolding move by_kind
rparen_flat s = refl

pub lbrace_flat : IsFlat LBrace
unfolding move by_kind
lbrace_flat s = refl

pub rbrace_flat : IsFlat RBrace
unfolding move by_kind
rbrace_flat s = refl

pub comma_flat : IsFlat Comma
unfolding move by_kind
comma_flat s = refl

pub semi_flat : IsFlat Semi
unfolding move by_kind
semi_flat s = refl

pub period_flat : IsFlat Period
unfolding move by_kind
period_flat s = refl

pub colon_flat : IsFlat Colon
unfolding move by_kind
colon_flat s = refl

pub ellipsis_flat : IsFlat Ellipsis
unfolding move by_kind
ellipsis_flat s = refl

pub mul_flat : IsFlat Mul
unfolding move by_kind
mul_flat s = refl

pub or_flat : IsFlat Or
unfolding move by_kind
or_flat s = refl

pub tilde_flat : IsFlat Tilde
unfolding move by_kind
tilde_flat s = refl

pub map_flat : IsFlat Map
unfolding move by_kind
map_flat s = refl

pub func_flat : IsFlat Func
unfolding move by_kind
func_flat s = refl

pub struct_flat : IsFlat Struct
unfolding move by_kind
struct_flat s = refl

pub interface_flat : IsFlat Interface
unfolding move by_kind
interface_flat s = refl

-- ---- lists

pub before_until : {close : TokenKind} {ts a rest : List Word} → Level ts a → Until close a rest → Until close ts rest
before_until l u = record { middle = u.middle; level = then_level l u.level; close_is = u.close_is }

pub until_mark : (close : TokenKind) (ts rest : List Word) → Mark close ts rest → Until close ts rest
until_mark close ts rest k = record { middle = ts; level = nothing ts ts refl; close_is = k }

pub until_level : (close : TokenKind) (ts rest : List Word) → IsFlat close → Until close ts rest → Level ts rest
until_level close ts rest f u = then_level u.level (flat_mark close u.middle rest f u.close_is)

pub until_closes : (separator close : TokenKind) (ts rest : List Word) → IsFlat separator → Closes separator close ts rest → Until close ts rest
until_closes separator close ts rest f (inl k) = until_mark close ts rest k
until_closes separator close ts rest f (inr (a, m, k)) = before_until (flat_mark separator ts a f m) (until_mark close a rest k)

pub level_names_tail : (ps : List Placed) (ts rest : List Word) → NamesTail ps ts rest → Level ts rest
level_names_tail [] ts rest e = nothing ts rest e
level_names_tail (p ∷ ps) ts rest (a, b, m, n, t) = then_level (flat_mark Comma ts a comma_flat m) (then_level (a_name p a b n) (level_names_tail ps b rest t))

pub level_labels : (ps : List Placed) (ts rest : List Word) → Labels ps ts rest → Level ts rest
level_labels [] ts rest e = nothing ts rest e
level_labels (p ∷ ps) ts rest (a, n, t) = then_level (a_name p ts a n) (level_names_tail ps a rest t)

pub level_member : (p : Option Placed) (ts rest : List Word) → Member p ts rest → Level ts rest
level_member None ts rest e = nothing ts rest e
level_member (Some p) ts rest (a, m, n) = then_level (flat_mark Period ts a period_flat m) (a_name p a rest n)

pub level_if : (b : Bool) (ts rest : List Word) → If b Ellipsis ts rest → Level ts rest
level_if true ts rest m = flat_mark Ellipsis ts rest ellipsis_flat m
level_if false ts rest e = nothing ts rest e

pub word_at : (k : TokenKind) (x : Spot) (ts rest : List Word) → IsFlat k → ts ≡ mark k x ∷ rest → Level ts rest
word_at k x ts rest f e = flat_word (mark k x) ts rest (f x) e

-- ---- fronts

-- of two fronts of a list the longer begins with the shorter
pub cut : (a b x y : List Word) → a ++ x ≡ b ++ y → length y ≤ length x → (d : List Word) × (b ≡ a ++ d)
cut [] b x y e le = (b, refl)
cut (v ∷ a) [] x y e le = absurd (omega (arith, ap length e, length-append a x))
cut (v ∷ a) (w ∷ b) x y e le =
    let heads : v ≡ w = cc in
    let tails : a ++ x ≡ b ++ y = cc in
    let d = cut a b x y tails le in (d.0, ap (λ (z : Word). z ∷ b) (sym heads) ∙ ap (λ (z : List Word). v ∷ z) d.1)

-- where it went on to the bracket, that would close what it has not opened
pub no_close : (e : List Word) (g d : List Word) (y : Spot) → ((k : ℕ) (x : List Word) → scan (e ++ x) k ≡ scan x k) → ((k : ℕ) (x : List Word) → scan (g ++ x) k ≡ scan x k) → e ≡ (g ++ (mark RBracket y ∷ [])) ++ d → ⊥
unfolding scan after move by_kind
no_close e g d y es gs same =
    let open_end : scan (e ++ []) 0 ≡ Some 0 = es 0 [] in
    let text : e ++ [] ≡ g ++ (mark RBracket y ∷ (d ++ [])) = ap (λ (v : List Word). v ++ []) same ∙ append_assoc (g ++ (mark RBracket y ∷ [])) d [] ∙ append_assoc g (mark RBracket y ∷ []) (d ++ []) in
    let shut : scan (e ++ []) 0 ≡ None = ap (λ (v : List Word). scan v 0) text ∙ gs 0 (mark RBracket y ∷ (d ++ [])) in
    absurd cc
