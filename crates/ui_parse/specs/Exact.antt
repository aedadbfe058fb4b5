-- Readers that read exactly the forms of a grammar.
use Rattle.std.specs.Prelude.{◌≡◌, ◌-◌, List, [], length, drop, Ok, Err}
use Rattle.ui_grammar.specs.Word.{Word}
use Rattle.ui_grammar.specs.Parse.{IsFound, IsFault}
use Rattle.ui_parse.specs.Reader.{Reader}

pub record ReadsExactly {T X : Type 0} (Has : List Word → T → Type 0) (p : Reader X) (tree : X → T) : Type 0 where
  -- What is read is the longest list of words with which a form begins, and is itself a form with this tree. Those behind it are left.
  pub found : (ws : List Word) (x : X) (rest : List Word) → p ws ≡ Ok (x, rest) → IsFound Has ws (tree x) (length ws - length rest) × (rest ≡ drop (length ws - length rest) ws)
  -- A fault stands behind the longest such list, which is no form.
  pub fault : (ws rest : List Word) → p ws ≡ Err rest → IsFault Has ws (length ws - length rest) × (rest ≡ drop (length ws - length rest) ws)
  -- Each form is read.
  pub every : (ws : List Word) (t : T) → Has ws t → (x : X) × (p ws ≡ Ok (x, [])) × (tree x ≡ t)
  -- No words have two trees.
  pub one : (ws : List Word) (t u : T) → Has ws t → Has ws u → t ≡ u
