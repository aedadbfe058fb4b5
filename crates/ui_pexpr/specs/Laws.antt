-- No words have two trees, and which faults stay at greater limits.
use Rattle.std.specs.Prelude.{◌≡◌, ℕ, ◌≤◌, Bool, List}
use Rattle.ui_tree.specs.Tree.{TypeTree, Tree}
use Rattle.ui_grammar.specs.Word.{Word}
use Rattle.ui_grammar.specs.Parse.{HasExpr, HasType, HasSig, IsFault}
use Rattle.ui_pexpr.specs.Faults.{NoDeeper}
use Rattle.ui_pexpr.specs.Parsed.{place}

abbrev pub HasOneExpr : Type 0
HasOneExpr = (limit : ℕ) (header : Bool) (ws : List Word) (t u : Tree) → HasExpr (place header) limit ws t → HasExpr (place header) limit ws u → t ≡ u

abbrev pub HasOneType : Type 0
HasOneType = (limit : ℕ) (ws : List Word) (t u : TypeTree) → HasType limit ws t → HasType limit ws u → t ≡ u

abbrev pub HasOneSig : Type 0
HasOneSig = (limit : ℕ) (ws : List Word) (t u : TypeTree) → HasSig limit ws t → HasSig limit ws u → t ≡ u

-- a fault that is none of depth stands where it does at each greater limit too
abbrev pub Stays : {T : Type 0} → (ℕ → List Word → T → Type 0) → Type 0
Stays Has = (limit above k : ℕ) (ws : List Word) → 1 ≤ limit → limit ≤ above → IsFault (Has limit) ws k → NoDeeper Has ws k → IsFault (Has above) ws k

abbrev pub ExprFaultsStay : Type 0
ExprFaultsStay = (header : Bool) → Stays (HasExpr (place header))

abbrev pub TypeFaultsStay : Type 0
TypeFaultsStay = Stays HasType

abbrev pub SigFaultsStay : Type 0
SigFaultsStay = Stays HasSig
