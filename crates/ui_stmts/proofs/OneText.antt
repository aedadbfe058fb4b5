-- Words have one end as an expression, and as a type where it is no expression, if what follows goes on with neither.
use Rattle.std.proofs.Common.{◌≡◌, ℕ, max, ◌≤◌, Bool, true, false, List, Ok, Err, refl, sym, ap, subst, ◌∙◌, arith}
use Rattle.ui_tree.specs.Tree.{TypeTree, Tree, type_arg}
use Rattle.ui_grammar.specs.Word.{Word}
use Rattle.ui_grammar.specs.Both.{is_expression}
use Rattle.ui_grammar.specs.Spells.{Spells, SpellsType}
use Rattle.ui_grammar.specs.Fits.{plain, argument, plain_type, level, depth, type_depth, Fits, FitsType}
use Rattle.ui_parse.specs.Reader.{Outcome, rest_of}
use Rattle.ui_syntax.specs.declared.site.Site.TheVariants.{Argument}
use Rattle.ui_syntax.specs.Cover.{Read}
use Rattle.ui_syntax.proofs.ByBudget.{Quiet, QuietAlone}
use Rattle.ui_syntax.proofs.Quiet.{Stop, quiet_stop, quiet_alone_stop, quiet_type_stop}
use Rattle.ui_syntax.proofs.Levels.{level_positive}
use Rattle.ui_syntax.proofs.Places.{plain_argument}
use Rattle.ui_syntax.proofs.Covers.{tree_of_type}
use Rattle.ui_syntax.proofs.Complete.{readers_complete, type_complete}

value_of : {A : Type 0} → A → Outcome A → A
value_of x (Ok p) = p.0
value_of x (Err ws) = x

one_read : {A : Type 0} (o : Outcome A) (x y : A) (m n : List Word) → o ≡ Ok (x, m) → o ≡ Ok (y, n) → x ≡ y
unfolding value_of
one_read o x y m n e h = ap (value_of x) (sym e ∙ h)

one_rest : {A : Type 0} (o : Outcome A) (x y : A) (m n : List Word) → o ≡ Ok (x, m) → o ≡ Ok (y, n) → m ≡ n
one_rest o x y m n e h = ap rest_of (sym e ∙ h)

-- an expression whose operators bind so tightly, up to words that do not go on with it
pub record Reaches (k : ℕ) (e : Tree) (ts m : List Word) : Type 0 where
  pub spells : Spells e ts m
  pub fits : Fits e plain
  pub binds : k ≤ level e
  pub quiet : Quiet Argument k m

pub same_rest : (k : ℕ) (e g : Tree) (ts m n : List Word) → Reaches k e ts m → Reaches k g ts n → m ≡ n
same_rest k e g ts m n a b =
    let c = (readers_complete (max (depth e) (depth g))).own in
    let r = c.expr Argument k ts m e a.spells (record { fits = a.fits; shallow = omega arith; binds = a.binds }) a.quiet in
    let u = c.expr Argument k ts n g b.spells (record { fits = b.fits; shallow = omega arith; binds = b.binds }) b.quiet in
    one_rest _ r.read u.read m n r.is u.is

no_argument : (e : Tree) (t : TypeTree) → e ≡ type_arg t → Fits e plain → ⊥
no_argument e t h f = let g : Fits (type_arg t) plain = subst (λ (x : Tree). Fits x plain) h f in elsewhere g.0
  where
    elsewhere : plain ≡ argument → ⊥
    elsewhere e = cc

no_alone : (k : ℕ) (e : Tree) (t : TypeTree) (ts m n : List Word) → Reaches k e ts m → SpellsType t ts n → FitsType t plain_type → is_expression t ≡ false → QuietAlone t n → ⊥
no_alone k e t ts m n a s f no_expression q =
    let c = (readers_complete (max (depth e) (type_depth t))).own in
    let r = c.expr Argument k ts m e a.spells (record { fits = a.fits; shallow = omega arith; binds = a.binds }) a.quiet in
    let u = c.alone Argument k ts n t s (record { no_expression = no_expression; fits = f; room = omega arith }) q in
    no_argument e t (sym r.tree ∙ (ap_tree (one_read _ r.read u.read m n r.is u.is) ∙ u.tree)) a.fits
  where
    ap_tree : {x y : Read Tree} → x ≡ y → x.tree ≡ y.tree
    ap_tree {x = x} e = subst (λ (z : Read Tree). x.tree ≡ z.tree) e refl

-- A type with an expression's words is one.
pub record IsSame (t : TypeTree) (m n : List Word) : Type 0 where
  pub rest : m ≡ n
  pub is : is_expression t ≡ true

pub type_rest : (k : ℕ) (e : Tree) (t : TypeTree) (ts m n : List Word) → k ≤ 6 → Reaches k e ts m → SpellsType t ts n → FitsType t plain_type → Quiet Argument k n → QuietAlone t n → IsSame t m n
type_rest k e t ts m n le a s f q alone = by_test (is_expression t) refl
  where
    by_test : (b : Bool) → is_expression t ≡ b → IsSame t m n
    by_test true is =
        let g = tree_of_type t ts n is s f in
        record { rest = same_rest k e g.0 ts m n a (record { spells = g.1; fits = g.2; binds = omega (arith, le, g.6); quiet = q }); is = is }
    by_test false is = absurd (no_alone k e t ts m n a s f is alone)

one_type_rest : (t u : TypeTree) (ts m n : List Word) → SpellsType t ts m → FitsType t plain_type → Stop m → SpellsType u ts n → FitsType u plain_type → Stop n → m ≡ n
one_type_rest t u ts m n s f q s2 f2 q2 =
    let d = max (type_depth t) (type_depth u) in
    let r = type_complete d ts m t s f (omega arith) (quiet_type_stop t m q) in
    let v = type_complete d ts n u s2 f2 (omega arith) (quiet_type_stop u n q2) in
    one_rest _ _ _ m n r.is v.is

-- an expression before a stop
pub before_stop : (e : Tree) (ts m : List Word) → Spells e ts m → Fits e plain → Stop m → Reaches 1 e ts m
before_stop e ts m s f q = record { spells = s; fits = f; binds = level_positive e; quiet = quiet_stop Argument 1 m q }

pub type_stop : (e : Tree) (t : TypeTree) (ts m n : List Word) → Spells e ts m → Fits e plain → Stop m → SpellsType t ts n → FitsType t plain_type → Stop n → m ≡ n
type_stop e t ts m n s f q h g w =
    let same = type_rest 1 e t ts m n (omega arith) (before_stop e ts m s f q) h g (quiet_stop Argument 1 n w) (quiet_alone_stop t n w) in
    same.rest

-- an argument and a type
pub argument_stop : (x : Tree) (t : TypeTree) (ts m n : List Word) → Spells x ts m → Fits x argument → Stop m → SpellsType t ts n → FitsType t plain_type → Stop n → m ≡ n
argument_stop (type_arg u) t ts m n s f q h g w = one_type_rest u t ts m n s f.2 q h g w
argument_stop x t ts m n s f q h g w = type_stop x t ts m n s (plain_argument x refl f) q h g w
