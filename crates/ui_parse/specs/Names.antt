-- Names with commas between.
use Rattle.std.specs.Prelude.{List, [], ◌∷◌, ◌++◌}
use Rattle.ui_scan.specs.declared.kind.TokenKind.TheVariants.{Comma}
use Rattle.ui_tree.specs.declared.part.Placed.{Placed}
use Rattle.ui_parse.specs.Reader.{Reader, ◌>>=◌, pure, expect_name, chain}

abbrev pub one_name_more : List Placed → Reader (List Placed)
one_name_more ns = expect_name >>= (λ p. pure (ns ++ (p ∷ [])))

-- behind a first name
abbrev pub more_names : List Placed → Reader (List Placed)
more_names ns = chain Comma one_name_more ns

abbrev pub names : Reader (List Placed)
names = expect_name >>= (λ p. more_names (p ∷ []))
