-- A command as it lies in memory.
use Rattle.ui_top.specs.Outcome.{Command, Build, Dump, words_of}
use Rattle.ui_top.specs.declared.commands.Invocation.{Invocation}
use Rattle.ui_top.specs.declared.commands.Invocation.TheVariants as invocation

-- a command without where its words lie
abbrev pub command_as : Invocation → Command
command_as (invocation.Build path queries) = Build path.now (words_of queries.now)
command_as (invocation.Dump path queries) = Dump path.now (words_of queries.now)
