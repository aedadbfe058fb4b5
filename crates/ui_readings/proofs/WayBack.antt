-- Brackets are matched in the words of types and expressions, so the way back over them comes out where it went in.
use Rattle.std.proofs.Common.{◌≡◌, inl, inr, ℕ, suc, Bool, true, false, cond, List, [], ◌∷◌, ◌++◌, reverse, Option, Some, None, refl, sym, ap, ◌∙◌, append_assoc}
use Rattle.std.specs.Prelude.{◌&&◌, ◌==◌}
use Rattle.std.proofs.Math.Dec.{eqb-suc-zero}
use Rattle.std.proofs.lemmas.List.{reverse-append}
use Rattle.ui_base.specs.declared.value.Spot.{Spot}
use Rattle.ui_base.specs.declared.kind.BinOp.{BinOp}
use Rattle.ui_base.specs.declared.kind.BinOp.TheVariants as op
use Rattle.ui_scan.specs.declared.kind.TokenKind.{TokenKind}
use Rattle.ui_scan.specs.declared.kind.TokenKind.TheVariants.{Ident, Int, Rune, Str, LParen, RParen, LBracket, RBracket, LBrace, RBrace, Comma, Semi, Period, Colon, Ellipsis, Mul, Or, Tilde, Map, Func, Struct, Interface, Assign}
use Rattle.ui_base.specs.declared.value.Value.{Value}
use Rattle.ui_tree.specs.declared.part.LiteralKind.{LiteralKind}
use Rattle.ui_tree.specs.declared.part.LiteralKind.TheVariants.{Whole, Rune as ARune, Text}
use Rattle.ui_tree.specs.declared.part.Placed.{Placed}
use Rattle.ui_tree.specs.declared.part.PrefixOp.{PrefixOp}
use Rattle.ui_tree.specs.declared.part.PrefixOp.TheVariants as prefix
use Rattle.ui_grammar.specs.Word.{Word, ident, lit, mark, Mark, Closes, If, NamesTail}
use Rattle.ui_grammar.specs.Operator.{mark_of, prefix_mark_of}
use Rattle.ui_grammar.specs.Spells.{Member, Labels}
use Rattle.ui_parse.specs.Kind.{is_kind}
use Rattle.ui_parse.specs.Cursor.{kind_of_literal}
use Rattle.ui_pexpr.specs.Back.{kind_at, opens, closes, outer, separates, next_level, or_here, opening}

-- where the way back may be: with which semicolons in view, and at which level
abbrev pub Where : Type 1
Where = Bool → ℕ → Type 0

-- anywhere
abbrev pub Outside : Where
Outside b n = Unit {0}

-- where no semicolon ends the way
abbrev pub Inside : Where
Inside b n = (b && (n == 0)) ≡ false

-- ts is a front over which the way back passes from there, and then m
pub record Over (P : Where) (ts m : List Word) : Type 0 where
  pub front : List Word
  pub parts : ts ≡ front ++ m
  pub passes : (b : Bool) (n : ℕ) (back : List Word) → P b n → opening b n (reverse front ++ back) ≡ opening b n back

abbrev pub Level : List Word → List Word → Type 0
Level ts m = Over Outside ts m

abbrev pub Inner : List Word → List Word → Type 0
Inner ts m = Over Inside ts m

-- likewise within brackets, and then the mark
pub record Until (close : TokenKind) (ts rest : List Word) : Type 0 where
  pub middle : List Word
  pub inner : Inner ts middle
  pub close_is : Mark close middle rest

pub within : {ts rest : List Word} → Level ts rest → Inner ts rest
within l = record { front = l.front; parts = l.parts; passes = λ b n back p. l.passes b n back tt }

pub nothing_over : (P : Where) (ts rest : List Word) → ts ≡ rest → Over P ts rest
nothing_over P ts rest e = record { front = []; parts = e; passes = λ b n back p. refl }

pub nothing : (ts rest : List Word) → ts ≡ rest → Level ts rest
nothing ts rest e = nothing_over Outside ts rest e

pub then_over : (P : Where) (ts m rest : List Word) → Over P ts m → Over P m rest → Over P ts rest
then_over P ts m rest a b = record {
  front = a.front ++ b.front;
  parts = a.parts ∙ ap (λ (v : List Word). a.front ++ v) b.parts ∙ sym (append_assoc a.front b.front rest);
  passes = λ c n back p.
      ap (λ (v : List Word). opening c n (v ++ back)) (reverse-append a.front b.front)
      ∙ ap (opening c n) (append_assoc (reverse b.front) (reverse a.front) back)
      ∙ b.passes c n (reverse a.front ++ back) p ∙ a.passes c n back p;
}

pub then_level : {ts m rest : List Word} → Level ts m → Level m rest → Level ts rest
then_level {ts = ts} {m = m} {rest = rest} a b = then_over Outside ts m rest a b

pub then_inner : {ts m rest : List Word} → Inner ts m → Inner m rest → Inner ts rest
then_inner {ts = ts} {m = m} {rest = rest} a b = then_over Inside ts m rest a b

-- a word at which the level stays
pub word_over : (P : Where) (w : Word) (ts rest : List Word) → ((b : Bool) (n : ℕ) → P b n → next_level b n (kind_at w) ≡ Some n) → ts ≡ w ∷ rest → Over P ts rest
word_over P w ts rest f e = record { front = w ∷ []; parts = e; passes = λ b n back p. ap (λ (o : Option ℕ). or_here o (w ∷ back) (λ m. opening b m back)) (f b n p) }

-- words of such a kind are no brackets and no semicolons
abbrev pub IsFlat : TokenKind → Type 0
IsFlat k = (b : Bool) (n : ℕ) → next_level b n k ≡ Some n

and_false : (a b : Bool) → (a && (b && false)) ≡ false
and_false true true = refl
and_false true false = refl
and_false false b = refl

flat_by : (k : TokenKind) → closes k ≡ false → opens k ≡ false → is_kind k Semi ≡ false → IsFlat k
flat_by k c o s b n =
    ap (λ (x : Bool). cond x (Some (suc n)) (cond (opens k) (outer n) (cond (b && separates n k) None (Some n)))) c
    ∙ ap (λ (x : Bool). cond x (outer n) (cond (b && separates n k) None (Some n))) o
    ∙ ap (λ (x : Bool). cond (b && ((n == 0) && x)) None (Some n)) s
    ∙ ap (λ (x : Bool). cond x None (Some n)) (and_false b (n == 0))

pub flat_word : (w : Word) (ts rest : List Word) → IsFlat (kind_at w) → ts ≡ w ∷ rest → Level ts rest
flat_word w ts rest f e = word_over Outside w ts rest (λ b n p. f b n) e

pub flat_mark : (k : TokenKind) (ts rest : List Word) → IsFlat k → Mark k ts rest → Level ts rest
flat_mark k ts rest f m = flat_word (mark k m.spot) ts rest f m.is

pub word_at : (k : TokenKind) (x : Spot) (ts rest : List Word) → IsFlat k → ts ≡ mark k x ∷ rest → Level ts rest
word_at k x ts rest f e = flat_word (mark k x) ts rest f e

pub a_name : (p : Placed) (ts rest : List Word) → ts ≡ ident p ∷ rest → Level ts rest
a_name p ts rest e = flat_word (ident p) ts rest (flat_by Ident refl refl refl) e

literal_flat : (k : LiteralKind) → IsFlat (kind_of_literal k)
literal_flat Whole = flat_by Int refl refl refl
literal_flat ARune = flat_by Rune refl refl refl
literal_flat Text = flat_by Str refl refl refl

pub a_literal : (k : LiteralKind) (x : Spot) (v : Value) (ts rest : List Word) → ts ≡ lit k x v ∷ rest → Level ts rest
a_literal k x v ts rest e = flat_word (lit k x v) ts rest (literal_flat k) e

pub op_flat : (o : BinOp) → IsFlat (mark_of o)
op_flat op.Add = flat_by (mark_of op.Add) refl refl refl
op_flat op.Sub = flat_by (mark_of op.Sub) refl refl refl
op_flat op.Mul = flat_by (mark_of op.Mul) refl refl refl
op_flat op.Div = flat_by (mark_of op.Div) refl refl refl
op_flat op.Rem = flat_by (mark_of op.Rem) refl refl refl
op_flat op.And = flat_by (mark_of op.And) refl refl refl
op_flat op.Or = flat_by (mark_of op.Or) refl refl refl
op_flat op.Xor = flat_by (mark_of op.Xor) refl refl refl
op_flat op.AndNot = flat_by (mark_of op.AndNot) refl refl refl
op_flat op.Shl = flat_by (mark_of op.Shl) refl refl refl
op_flat op.Shr = flat_by (mark_of op.Shr) refl refl refl
op_flat op.Equal = flat_by (mark_of op.Equal) refl refl refl
op_flat op.NotEqual = flat_by (mark_of op.NotEqual) refl refl refl
op_flat op.Less = flat_by (mark_of op.Less) refl refl refl
op_flat op.LessEqual = flat_by (mark_of op.LessEqual) refl refl refl
op_flat op.Greater = flat_by (mark_of op.Greater) refl refl refl
op_flat op.GreaterEqual = flat_by (mark_of op.GreaterEqual) refl refl refl
op_flat op.LogicalAnd = flat_by (mark_of op.LogicalAnd) refl refl refl
op_flat op.LogicalOr = flat_by (mark_of op.LogicalOr) refl refl refl

pub prefix_flat : (o : PrefixOp) → IsFlat (prefix_mark_of o)
prefix_flat prefix.Plus = flat_by (prefix_mark_of prefix.Plus) refl refl refl
prefix_flat prefix.Minus = flat_by (prefix_mark_of prefix.Minus) refl refl refl
prefix_flat prefix.Not = flat_by (prefix_mark_of prefix.Not) refl refl refl
prefix_flat prefix.Flip = flat_by (prefix_mark_of prefix.Flip) refl refl refl
prefix_flat prefix.Deref = flat_by (prefix_mark_of prefix.Deref) refl refl refl
prefix_flat prefix.Address = flat_by (prefix_mark_of prefix.Address) refl refl refl

pub comma_flat : IsFlat Comma
comma_flat = flat_by Comma refl refl refl

pub period_flat : IsFlat Period
period_flat = flat_by Period refl refl refl

pub colon_flat : IsFlat Colon
colon_flat = flat_by Colon refl refl refl

pub ellipsis_flat : IsFlat Ellipsis
ellipsis_flat = flat_by Ellipsis refl refl refl

pub mul_flat : IsFlat Mul
mul_flat = flat_by Mul refl refl refl

pub or_flat : IsFlat Or
or_flat = flat_by Or refl refl refl

pub tilde_flat : IsFlat Tilde
tilde_flat = flat_by Tilde refl refl refl

pub map_flat : IsFlat Map
map_flat = flat_by Map refl refl refl

pub func_flat : IsFlat Func
func_flat = flat_by Func refl refl refl

pub struct_flat : IsFlat Struct
struct_flat = flat_by Struct refl refl refl

pub interface_flat : IsFlat Interface
interface_flat = flat_by Interface refl refl refl

pub assign_flat : IsFlat Assign
assign_flat = flat_by Assign refl refl refl

-- ---- brackets with what is in them

-- a mark that opens and one that closes
pub record Pair (o c : TokenKind) : Type 0 where
  pub opens_is : opens o ≡ true
  pub no_close : closes o ≡ false
  pub closes_is : closes c ≡ true

pub parens : Pair LParen RParen
parens = record { opens_is = refl; no_close = refl; closes_is = refl }

pub brackets : Pair LBracket RBracket
brackets = record { opens_is = refl; no_close = refl; closes_is = refl }

pub braces : Pair LBrace RBrace
braces = record { opens_is = refl; no_close = refl; closes_is = refl }

inside_brackets : (b : Bool) (n : ℕ) → Inside b (suc n)
inside_brackets true n = eqb-suc-zero n
inside_brackets false n = refl

at_close : (c : TokenKind) (b : Bool) (n : ℕ) → closes c ≡ true → next_level b n c ≡ Some (suc n)
at_close c b n e = ap (λ (x : Bool). cond x (Some (suc n)) (cond (opens c) (outer n) (cond (b && separates n c) None (Some n)))) e

at_open : (o : TokenKind) (b : Bool) (n : ℕ) → closes o ≡ false → opens o ≡ true → next_level b n o ≡ outer n
at_open o b n c e =
    ap (λ (x : Bool). cond x (Some (suc n)) (cond (opens o) (outer n) (cond (b && separates n o) None (Some n)))) c
    ∙ ap (λ (x : Bool). cond x (outer n) (cond (b && separates n o) None (Some n))) e

around : (o c : TokenKind) (x y : Spot) (inner : List Word) → reverse (mark o x ∷ (inner ++ (mark c y ∷ []))) ≡ (mark c y ∷ reverse inner) ++ (mark o x ∷ [])
around o c x y inner = reverse-append (mark o x ∷ []) (inner ++ (mark c y ∷ [])) ∙ ap (λ (v : List Word). v ++ (mark o x ∷ [])) (reverse-append inner (mark c y ∷ []))

pub pair : (o c : TokenKind) → Pair o c → (x : Spot) (ts a rest : List Word) → ts ≡ mark o x ∷ a → Until c a rest → Level ts rest
pair o c p x ts a rest e u = let l = u.inner in let k = u.close_is in record {
  front = mark o x ∷ (l.front ++ (mark c k.spot ∷ []));
  parts = e ∙ ap (λ (v : List Word). mark o x ∷ v) (l.parts ∙ ap (λ (v : List Word). l.front ++ v) k.is ∙ sym (append_assoc l.front (mark c k.spot ∷ []) rest));
  passes = λ b n back _.
      ap (λ (v : List Word). opening b n (v ++ back)) (around o c x k.spot l.front)
      ∙ ap (λ (v : List Word). opening b n (mark c k.spot ∷ v)) (append_assoc (reverse l.front) (mark o x ∷ []) back)
      ∙ ap (λ (m : Option ℕ). or_here m (mark c k.spot ∷ (reverse l.front ++ (mark o x ∷ back))) (λ m. opening b m (reverse l.front ++ (mark o x ∷ back)))) (at_close c b n p.closes_is)
      ∙ l.passes b (suc n) (mark o x ∷ back) (inside_brackets b n)
      ∙ ap (λ (m : Option ℕ). or_here m (mark o x ∷ back) (λ m. opening b m back)) (at_open o b (suc n) p.no_close p.opens_is);
}

-- ---- separators

-- words of such a kind are passed within brackets
abbrev pub IsApart : TokenKind → Type 0
IsApart k = (b : Bool) (n : ℕ) → Inside b n → next_level b n k ≡ Some n

pub flat_apart : (k : TokenKind) → IsFlat k → IsApart k
flat_apart k f b n i = f b n

pub semi_apart : IsApart Semi
semi_apart b n i = ap (λ (x : Bool). cond x None (Some n)) (both b (n == 0) i)
  where
    both : (a c : Bool) → (a && c) ≡ false → (a && (c && true)) ≡ false
    both true true h = h
    both true false h = refl
    both false c h = refl

pub apart_mark : (k : TokenKind) (ts rest : List Word) → IsApart k → Mark k ts rest → Inner ts rest
apart_mark k ts rest f m = word_over Inside (mark k m.spot) ts rest f m.is

-- ---- lists

pub before_until : {close : TokenKind} {ts a rest : List Word} → Level ts a → Until close a rest → Until close ts rest
before_until l u = record { middle = u.middle; inner = then_inner (within l) u.inner; close_is = u.close_is }

pub apart_until : {close : TokenKind} {ts a rest : List Word} → Inner ts a → Until close a rest → Until close ts rest
apart_until l u = record { middle = u.middle; inner = then_inner l u.inner; close_is = u.close_is }

pub until_mark : (close : TokenKind) (ts rest : List Word) → Mark close ts rest → Until close ts rest
until_mark close ts rest k = record { middle = ts; inner = within (nothing ts ts refl); close_is = k }

pub until_closes : (separator close : TokenKind) (ts rest : List Word) → IsApart separator → Closes separator close ts rest → Until close ts rest
until_closes separator close ts rest f (inl k) = until_mark close ts rest k
until_closes separator close ts rest f (inr (a, m, k)) = apart_until (apart_mark separator ts a f m) (until_mark close a rest k)

pub level_names_tail : (ps : List Placed) (ts rest : List Word) → NamesTail ps ts rest → Level ts rest
level_names_tail [] ts rest e = nothing ts rest e
level_names_tail (p ∷ ps) ts rest (a, b, m, n, t) = then_level (flat_mark Comma ts a comma_flat m) (then_level (a_name p a b n) (level_names_tail ps b rest t))

pub level_labels : (ps : List Placed) (ts rest : List Word) → Labels ps ts rest → Level ts rest
level_labels [] ts rest e = nothing ts rest e
level_labels (p ∷ ps) ts rest (a, n, t) = then_level (a_name p ts a n) (level_names_tail ps a rest t)

pub level_member : (p : Option Placed) (ts rest : List Word) → Member p ts rest → Level ts rest
level_member None ts rest e = nothing ts rest e
level_member (Some p) ts rest (a, m, n) = then_level (flat_mark Period ts a period_flat m) (a_name p a rest n)

pub level_if : (b : Bool) (ts rest : List Word) → If b Ellipsis ts rest → Level ts rest
level_if true ts rest m = flat_mark Ellipsis ts rest ellipsis_flat m
level_if false ts rest e = nothing ts rest e
