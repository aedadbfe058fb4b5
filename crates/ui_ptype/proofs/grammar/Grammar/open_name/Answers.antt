use Rattle.std.proofs.lemmas.Bool.{lt-leb}
use Rattle.std.specs.Prelude.{nat_le}
use Rattle.ui_syntax.specs.Types.{open_name}
use Rattle.ui_ptype.specs.Seen.{see_params}
use Rattle.ui_ptype.specs.Branches.{reads_off}
use Rattle.ui_ptype.proofs.grammar.Grammar.open_name.Goals as goal

pub returns-then-self-lt2 : goal.returns-then-self-lt2
unfolding open_name
returns-then-self-lt2 g c = reads_off see_params c.maybe_named.result c.maybe_named.new.words (nat_le 2 c.args.self.now.room) _ _ c.args.words.now (lt-leb _ _ c.if-self-lt2.true) c.maybe_named.ensures
