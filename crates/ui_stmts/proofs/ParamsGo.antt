-- How the words of type parameters go on behind an operand, and what an expression takes of them.
use Rattle.std.proofs.Common.{◌≡◌, ◌⊎◌, inl, inr, suc, ◌≤◌, ◌<◌, Bool, true, false, List, [], ◌∷◌, Some, None, refl, sym, ap, subst, ◌∙◌, arith}
use Rattle.ui_base.specs.declared.value.Spot.{Spot}
use Rattle.ui_base.specs.declared.kind.BinOp.{BinOp}
use Rattle.ui_base.specs.declared.kind.BinOp.TheVariants as op
use Rattle.ui_scan.specs.declared.kind.TokenKind.{TokenKind}
use Rattle.ui_scan.specs.declared.kind.TokenKind.TheVariants.{LParen, RParen, LBracket, RBracket, LBrace, Comma, Period, Colon, Ellipsis, Or, Tilde, Map, Func, Struct, Interface}
use Rattle.ui_tree.specs.Tree.{TypeTree, Types, types_end, type_and, Tree, Trees, trees_end, tree_and, MaybeTree, absent, given}
use Rattle.ui_grammar.specs.Word.{Word, ident, mark, Mark, Closes}
use Rattle.ui_grammar.specs.Both.{is_expression}
use Rattle.ui_grammar.specs.Operator.{mark_of, level_of}
use Rattle.ui_grammar.specs.Spells.{SpellsType, SpellsSomeTypes, SpellsTypesTail, Spells, SpellsMaybe, SpellsTrees, SpellsTreesTail}
use Rattle.ui_grammar.specs.Fits.{plain, argument, plain_type, level, Fits, FitsType, FitsTypes, FitsTrees, FitsMaybe}
use Rattle.ui_parse.specs.Reader.{first}
use Rattle.ui_syntax.specs.declared.site.Site.TheVariants.{Argument}
use Rattle.ui_syntax.specs.Exprs.{an_operator}
use Rattle.ui_syntax.proofs.ByBudget.{Quiet, QuietAlone}
use Rattle.ui_syntax.proofs.Quiet.{Stop, stop_mark, stop_closes, stop_paren, stop_bracket, stop_comma, stop_colon, stop_dots, quiet_stop, quiet_alone_stop, quiet_type_or}
use Rattle.ui_syntax.proofs.FirstWords.{Starts, type_mark, tree_mark, name_or, word_or, first_of_type}
use Rattle.ui_syntax.proofs.FirstTrees.{first_of_tree, level_below}
use Rattle.ui_syntax.proofs.CompleteExprsOperators.{operator_seen, quiet_operator}
use Rattle.ui_stmts.proofs.OneText.{IsSame, same_rest, before_stop, type_rest, type_stop, argument_stop}

-- ---- how parameters go on

-- a word that goes on with no expression, and is no bracket that closes
abbrev pub ends_word : Word → Bool
ends_word (ident p) = true
ends_word (mark Comma s) = true
ends_word (mark Tilde s) = true
ends_word (mark Map s) = true
ends_word (mark Func s) = true
ends_word (mark Struct s) = true
ends_word (mark Interface s) = true
ends_word _ = false

-- a type ends before these words
pub data Calm (ts : List Word) : Type 0 where
  calm_stop : Stop ts → Calm ts
  calm_or : (r : List Word) → Mark Or ts r → Calm ts

-- The words behind an operand that goes on with the text of parameters: an index, a call, or an operator with a type. They
-- come to a word behind which no expression with these words ends.
pub data Goes : List Word → Type 0 where
  ends : (ts : List Word) (w : Word) (r : List Word) → ts ≡ w ∷ r → ends_word w ≡ true → Goes ts
  empty : (ts a b : List Word) → Mark LBracket ts a → Mark RBracket a b → Goes ts
  indexed : (e : Tree) (ts a b c : List Word) → Mark LBracket ts a → Spells e a b → Fits e plain → Mark RBracket b c → Goes c → Goes ts
  called : (t : TypeTree) (ts a b c : List Word) → Mark LParen ts a → SpellsType t a b → FitsType t plain_type → Mark RParen b c → Goes c → Goes ts
  operated : (o : BinOp) (t : TypeTree) (ts a b : List Word) → 4 ≤ level_of o → Mark (mark_of o) ts a → SpellsType t a b → FitsType t plain_type → Calm b → Goes b → Goes ts
  alone : (o : BinOp) (t : TypeTree) (ts a b : List Word) → 4 ≤ level_of o → Mark (mark_of o) ts a → SpellsType t a b → FitsType t plain_type → Calm b → is_expression t ≡ false → Goes ts
  tilded : (ts a b : List Word) → Mark Or ts a → Mark Tilde a b → Goes ts

-- ---- words that are not the same

pub clash : false ≡ true → ⊥
clash e = cc

tail_is : (v w : Word) (a b : List Word) → v ∷ a ≡ w ∷ b → a ≡ b
tail_is v w a b e = cc

-- what is behind the same mark
behind : (k l : TokenKind) (ts a b : List Word) → Mark k ts a → Mark l ts b → a ≡ b
behind k l ts a b m n = tail_is _ _ a b (sym m.is ∙ n.is)

-- words are told apart by a test of the first one
apart : (test : Word → Bool) (v w : Word) (ts a b : List Word) → ts ≡ v ∷ a → ts ≡ w ∷ b → test v ≡ false → test w ≡ true → ⊥
apart test v w ts a b e h no_v is_w = clash (sym no_v ∙ (by_words (sym e ∙ h) ∙ is_w))
  where
    head : List Word → Bool
    head [] = false
    head (x ∷ xs) = test x

    by_words : v ∷ a ≡ w ∷ b → test v ≡ test w
    by_words e = ap head e

abbrev opens : Word → Bool
opens (mark LBracket s) = true
opens (mark LParen s) = true
opens _ = false

-- ---- the operator that comes

seen : (o : BinOp) (ts a : List Word) → Mark (mark_of o) ts a → first (an_operator 0) ts ≡ Some o
seen o ts a m = subst (λ (v : List Word). first (an_operator 0) v ≡ Some o) (sym m.is) (operator_seen 0 o ts a (omega arith) m)

same_operator : (o p : BinOp) (ts a b : List Word) → Mark (mark_of o) ts a → Mark (mark_of p) ts b → o ≡ p
same_operator o p ts a b m n = some_is (sym (seen o ts a m) ∙ seen p ts b n)
  where
    some_is : Some o ≡ Some p → o ≡ p
    some_is e = cc

no_operator : (o : BinOp) (ts a : List Word) → Mark (mark_of o) ts a → first (an_operator 0) ts ≡ None → ⊥
no_operator o ts a m none = by_some (sym (seen o ts a m) ∙ none)
  where
    by_some : Some o ≡ None → ⊥
    by_some e = cc

ends_no_operator : (w : Word) → ends_word w ≡ true → an_operator 0 w ≡ None
ends_no_operator (ident p) e = refl
ends_no_operator (mark Comma s) e = refl
ends_no_operator (mark Tilde s) e = refl
ends_no_operator (mark Map s) e = refl
ends_no_operator (mark Func s) e = refl
ends_no_operator (mark Struct s) e = refl
ends_no_operator (mark Interface s) e = refl
ends_no_operator _ e = absurd cc

no_operator_at : (w : Word) (ts a : List Word) → ts ≡ w ∷ a → an_operator 0 w ≡ None → first (an_operator 0) ts ≡ None
no_operator_at w ts a e none = subst (λ (v : List Word). first (an_operator 0) v ≡ None) (sym e) none

-- ---- what goes on at a mark

data AtBracket (b : List Word) : Type 0 where
  empty_there : (c : List Word) → Mark RBracket b c → AtBracket b
  indexed_there : (e : Tree) (c d : List Word) → Spells e b c → Fits e plain → Mark RBracket c d → Goes d → AtBracket b

at_bracket : (m b : List Word) → Goes m → Mark LBracket m b → AtBracket b
at_bracket _ b (ends ts w r e h) k = absurd (apart ends_word (mark LBracket k.spot) w ts b r k.is e refl h)
at_bracket _ b (empty ts a z n l) k = empty_there z (subst (λ (v : List Word). Mark RBracket v z) (behind LBracket LBracket ts a b n k) l)
at_bracket _ b (indexed e ts a z y n s f l g) k = indexed_there e z y (subst (λ (v : List Word). Spells e v z) (behind LBracket LBracket ts a b n k) s) f l g
at_bracket _ b (called t ts a z y n s f l g) k = let e = sym n.is ∙ k.is in absurd cc
at_bracket _ b (operated o t ts a z le n s f c g) k = absurd (no_operator o ts a n (no_operator_at (mark LBracket k.spot) ts b k.is refl))
at_bracket _ b (alone o t ts a z le n s f c i) k = absurd (no_operator o ts a n (no_operator_at (mark LBracket k.spot) ts b k.is refl))
at_bracket _ b (tilded ts a z n l) k = let e = sym n.is ∙ k.is in absurd cc

record AtParen (b : List Word) : Type 0 where
  type : TypeTree
  end : List Word
  after : List Word
  spells : SpellsType type b end
  fits : FitsType type plain_type
  close : Mark RParen end after
  goes : Goes after

at_paren : (m b : List Word) → Goes m → Mark LParen m b → AtParen b
at_paren _ b (ends ts w r e h) k = absurd (apart ends_word (mark LParen k.spot) w ts b r k.is e refl h)
at_paren _ b (empty ts a z n l) k = let e = sym n.is ∙ k.is in absurd cc
at_paren _ b (indexed e ts a z y n s f l g) k = let e = sym n.is ∙ k.is in absurd cc
at_paren _ b (called t ts a z y n s f l g) k = record { type = t; end = z; after = y; spells = subst (λ (v : List Word). SpellsType t v z) (behind LParen LParen ts a b n k) s; fits = f; close = l; goes = g }
at_paren _ b (operated o t ts a z le n s f c g) k = absurd (no_operator o ts a n (no_operator_at (mark LParen k.spot) ts b k.is refl))
at_paren _ b (alone o t ts a z le n s f c i) k = absurd (no_operator o ts a n (no_operator_at (mark LParen k.spot) ts b k.is refl))
at_paren _ b (tilded ts a z n l) k = let e = sym n.is ∙ k.is in absurd cc

data AtOperator (o : BinOp) (b : List Word) : Type 0 where
  type_there : (t : TypeTree) (c : List Word) → 4 ≤ level_of o → SpellsType t b c → FitsType t plain_type → Calm c → (is_expression t ≡ false) ⊎ Goes c → AtOperator o b
  tilde_there : (c : List Word) → Mark Tilde b c → AtOperator o b

type_at : (o p : BinOp) (t : TypeTree) (ts a b c : List Word) → 4 ≤ level_of o → Mark (mark_of o) ts a → SpellsType t a c → FitsType t plain_type → Calm c → (is_expression t ≡ false) ⊎ Goes c → Mark (mark_of p) ts b → AtOperator p b
type_at o p t ts a b c le n s f q g k =
    type_there t c (subst (λ (x : BinOp). 4 ≤ level_of x) (same_operator o p ts a b n k) le) (subst (λ (v : List Word). SpellsType t v c) (behind (mark_of o) (mark_of p) ts a b n k) s) f q g

at_operator : (p : BinOp) (m b : List Word) → Goes m → Mark (mark_of p) m b → AtOperator p b
at_operator p _ b (ends ts w r e h) k = absurd (no_operator p ts b k (no_operator_at w ts r e (ends_no_operator w h)))
at_operator p _ b (empty ts a z n l) k = absurd (no_operator p ts b k (no_operator_at (mark LBracket n.spot) ts a n.is refl))
at_operator p _ b (indexed e ts a z y n s f l g) k = absurd (no_operator p ts b k (no_operator_at (mark LBracket n.spot) ts a n.is refl))
at_operator p _ b (called t ts a z y n s f l g) k = absurd (no_operator p ts b k (no_operator_at (mark LParen n.spot) ts a n.is refl))
at_operator p _ b (operated o t ts a z le n s f c g) k = type_at o p t ts a b z le n s f c (inr g) k
at_operator p _ b (alone o t ts a z le n s f c i) k = type_at o p t ts a b z le n s f c (inl i) k
at_operator p _ b (tilded ts a z n l) k = tilde_there z (subst (λ (v : List Word). Mark Tilde v z) (behind Or (mark_of p) ts a b n k) l)

-- no other mark
at_other : (k : TokenKind) (m b : List Word) → ((s : Spot) → ends_word (mark k s) ≡ false) → ((s : Spot) → opens (mark k s) ≡ false) → ((s : Spot) → an_operator 0 (mark k s) ≡ None) → Goes m → Mark k m b → ⊥
at_other kind _ b no_end no_open no_op (ends ts w r e h) k = apart ends_word (mark kind k.spot) w ts b r k.is e (no_end k.spot) h
at_other kind _ b no_end no_open no_op (empty ts a z n l) k = apart opens (mark kind k.spot) (mark LBracket n.spot) ts b a k.is n.is (no_open k.spot) refl
at_other kind _ b no_end no_open no_op (indexed e ts a z y n s f l g) k = apart opens (mark kind k.spot) (mark LBracket n.spot) ts b a k.is n.is (no_open k.spot) refl
at_other kind _ b no_end no_open no_op (called t ts a z y n s f l g) k = apart opens (mark kind k.spot) (mark LParen n.spot) ts b a k.is n.is (no_open k.spot) refl
at_other kind _ b no_end no_open no_op (operated o t ts a z le n s f c g) k = no_operator o ts a n (no_operator_at (mark kind k.spot) ts b k.is (no_op k.spot))
at_other kind _ b no_end no_open no_op (alone o t ts a z le n s f c i) k = no_operator o ts a n (no_operator_at (mark kind k.spot) ts b k.is (no_op k.spot))
at_other kind _ b no_end no_open no_op (tilded ts a z n l) k = no_operator op.Or ts a n (no_operator_at (mark kind k.spot) ts b k.is (no_op k.spot))

pub at_period : (m b : List Word) → Goes m → Mark Period m b → ⊥
at_period m b g k = at_other Period m b (λ s. refl) (λ s. refl) (λ s. refl) g k

pub at_brace : (m b : List Word) → Goes m → Mark LBrace m b → ⊥
at_brace m b g k = at_other LBrace m b (λ s. refl) (λ s. refl) (λ s. refl) g k

pub at_close : (m b : List Word) → Goes m → Mark RBracket m b → ⊥
at_close m b g k = at_other RBracket m b (λ s. refl) (λ s. refl) (λ s. refl) g k

-- ---- what an expression takes of them

no_tree : (k : TokenKind) (e : Tree) (b c d : List Word) → Mark k b c → tree_mark false k ≡ false → Spells e b d → Fits e plain → ⊥
no_tree k e b c d m no_mark s f = clash (sym no_mark ∙ subst (Starts (word_or (tree_mark false))) m.is (first_of_tree e plain b d s f))

no_type : (k : TokenKind) (t : TypeTree) (b c d : List Word) → Mark k b c → type_mark k ≡ false → SpellsType t b d → FitsType t plain_type → ⊥
no_type k t b c d m no_mark s f = clash (sym no_mark ∙ subst (Starts (name_or type_mark)) m.is (first_of_type t b d s f))

pub after_index : (i : Tree) (m b c d : List Word) → Goes m → Mark LBracket m b → Spells i b c → Fits i plain → Mark RBracket c d → Goes d
after_index i m b c d g k s f l = by_case (at_bracket m b g k)
  where
    by_case : AtBracket b → Goes d
    by_case (empty_there z n) = absurd (no_tree RBracket i b z c n refl s f)
    by_case (indexed_there e z y h w n go) =
        let same = same_rest 1 e i b z c (before_stop e b z h w (stop_mark RBracket z y stop_bracket n)) (before_stop i b c s f (stop_mark RBracket c d stop_bracket l)) in
        let closed : Mark RBracket c y = subst (λ (v : List Word). Mark RBracket v y) same n in
        subst Goes (behind RBracket RBracket c y d closed l) go

-- a slice's bounds
pub after_slice : (low : MaybeTree) (m b c d : List Word) → Goes m → Mark LBracket m b → SpellsMaybe low b c → FitsMaybe low → Mark Colon c d → ⊥
after_slice low m b c d g k s f l = by_case low s f (at_bracket m b g k)
  where
    by_case : (low : MaybeTree) → SpellsMaybe low b c → FitsMaybe low → AtBracket b → ⊥
    by_case absent s f (empty_there z n) = let e = sym n.is ∙ (s ∙ l.is) in absurd cc
    by_case absent s f (indexed_there e z y h w n go) = no_tree Colon e b d z (subst (λ (v : List Word). Mark Colon v d) (sym s) l) refl h w
    by_case (given i) s f (empty_there z n) = no_tree RBracket i b z c n refl s f
    by_case (given i) s f (indexed_there e z y h w n go) =
        let same = same_rest 1 e i b z c (before_stop e b z h w (stop_mark RBracket z y stop_bracket n)) (before_stop i b c s f (stop_mark Colon c d stop_colon l)) in
        let e = sym n.is ∙ (same ∙ l.is) in absurd cc

stop_types : (vs : Types) (a c : List Word) → SpellsTypesTail Comma RBracket vs a c → Stop a
stop_types types_end a c s = stop_closes Comma RBracket a c stop_comma stop_bracket s
stop_types (type_and t vs) a c s = stop_mark Comma a s.0 stop_comma s.2

-- type arguments
pub after_types : (vs : Types) (m b c : List Word) → Goes m → Mark LBracket m b → SpellsSomeTypes vs b c → FitsTypes vs plain_type → Goes c
after_types types_end m b c g k s f = absurd s
after_types (type_and t vs) m b c g k s f = by_case (at_bracket m b g k)
  where
    by_tail : (vs : Types) (y : List Word) → Mark RBracket s.0 y → Goes y → SpellsTypesTail Comma RBracket vs s.0 c → Goes c
    by_tail types_end y n go (inl l) = subst Goes (behind RBracket RBracket s.0 y c n l) go
    by_tail types_end y n go (inr l) = let e = sym n.is ∙ l.1.is in absurd cc
    by_tail (type_and u us) y n go l = let e = sym n.is ∙ l.2.is in absurd cc

    by_case : AtBracket b → Goes c
    by_case (empty_there z n) = absurd (no_type RBracket t b z s.0 n refl s.1 f.0)
    by_case (indexed_there e z y h w n go) =
        let same = type_stop e t b z s.0 h w (stop_mark RBracket z y stop_bracket n) s.1 f.0 (stop_types vs s.0 c s.2) in
        by_tail vs y (subst (λ (v : List Word). Mark RBracket v y) same n) go s.2

stop_trees : (spread : Bool) (es : Trees) (a c : List Word) → SpellsTreesTail RParen spread es a c → Stop a
stop_trees true trees_end a c s = stop_mark Ellipsis a s.0 stop_dots s.1
stop_trees false trees_end a c s = subst Stop (sym s.1) (stop_closes Comma RParen s.0 c stop_comma stop_paren s.2)
stop_trees spread (tree_and e es) a c s = stop_mark Comma a s.0 stop_comma s.2

-- arguments
pub after_arguments : (spread : Bool) (es : Trees) (m b c : List Word) → Goes m → Mark LParen m b → SpellsTrees RParen spread es b c → FitsTrees es argument → Goes c
after_arguments spread trees_end m b c g k s f = let at = at_paren m b g k in absurd (no_type RParen at.type b c at.end s.1 refl at.spells at.fits)
after_arguments spread (tree_and x es) m b c g k s f =
    let at = at_paren m b g k in
    let same = argument_stop x at.type b s.0 at.end s.1 f.0 (stop_trees spread es s.0 c s.2) at.spells at.fits (stop_mark RParen at.end at.after stop_paren at.close) in
    by_tail spread es at.after (subst (λ (v : List Word). Mark RParen v at.after) (sym same) at.close) at.goes s.2
  where
    by_closes : (y z : List Word) → Mark RParen s.0 y → Goes y → s.0 ≡ z → Closes Comma RParen z c → Goes c
    by_closes y z n go e (inl l) = subst Goes (behind RParen RParen z y c (subst (λ (v : List Word). Mark RParen v y) e n) l) go
    by_closes y z n go e (inr l) = let h = sym n.is ∙ (e ∙ l.1.is) in absurd cc

    by_tail : (spread : Bool) (es : Trees) (y : List Word) → Mark RParen s.0 y → Goes y → SpellsTreesTail RParen spread es s.0 c → Goes c
    by_tail true trees_end y n go l = let e = sym n.is ∙ l.1.is in absurd cc
    by_tail false trees_end y n go l = by_closes y l.0 n go l.1 l.2
    by_tail spread (tree_and u us) y n go l = let e = sym n.is ∙ l.2.is in absurd cc

pub quiet_calm : (o : BinOp) (c : List Word) → 4 ≤ level_of o → Calm c → Quiet Argument (suc (level_of o)) c
quiet_calm o c le (calm_stop s) = quiet_stop Argument (suc (level_of o)) c s
quiet_calm o c le (calm_or r m) = quiet_operator Argument (level_of o) op.Or c r le m

pub alone_calm : (t : TypeTree) (c : List Word) → Calm c → QuietAlone t c
alone_calm t c (calm_stop s) = quiet_alone_stop t c s
alone_calm t c (calm_or r m) = subst (QuietAlone t) (sym m.is) (record { quiet = quiet_type_or t m.spot r; no_paren = refl; no_brace = refl })

-- an operator and an operand
pub after_operator : (o : BinOp) (r : Tree) (m b c : List Word) → Goes m → Mark (mark_of o) m b → Spells r b c → Fits r plain → level_of o < level r → Quiet Argument (suc (level_of o)) c → Goes c
after_operator o r m b c g k s f le q = by_case (at_operator o m b g k)
  where
    by_goes : (t : TypeTree) (z : List Word) → IsSame t c z → (is_expression t ≡ false) ⊎ Goes z → Goes c
    by_goes t z same (inl i) = absurd (clash (sym i ∙ same.is))
    by_goes t z same (inr go) = subst Goes (sym same.rest) go

    by_case : AtOperator o b → Goes c
    by_case (tilde_there z n) = absurd (no_tree Tilde r b z c n refl s f)
    by_case (type_there t z four h w calm next) =
        by_goes t z (type_rest (suc (level_of o)) r t b c z (omega (arith, level_below o)) (record { spells = s; fits = f; binds = omega (arith, le); quiet = q }) h w (quiet_calm o z four calm) (alone_calm t z calm)) next
