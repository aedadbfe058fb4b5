use Rattle.std.proofs.Common.{None}
use Rattle.ui_scan.specs.declared.kind.TokenKind.TheVariants.{Func, Struct, Interface}
use Rattle.ui_parse.specs.Reader.{pure, take_by, marked}
use Rattle.ui_syntax.specs.Read.{readers}
use Rattle.ui_syntax.specs.Types.{opened, func_type, struct_type, interface_type, deep_type, operand_type}
use Rattle.ui_ptype.specs.Seen.{see_maybe}
use Rattle.ui_ptype.specs.Branches.{reads_missed}
use Rattle.ui_ptype.proofs.grammar.Grammar.operand_type.Goals as goal

pub returns-in-None : goal.returns-in-None
unfolding operand_type
returns-in-None g c =
    let room = c.args.self.now.room in
    let inner = readers room in
    let deep = deep_type room inner c.args.site (pure None) in
    let third = take_by (marked Interface) (λ s. opened room inner (interface_type room inner s)) deep in
    let second = take_by (marked Struct) (λ s. opened room inner (struct_type room inner s)) third in
    reads_missed see_maybe c.deep_type.result c.deep_type.new.words (marked Func) (λ s. opened room inner (func_type room inner s)) second c.take.result c.args.words.now c.take.new.self c.take.ensures.found c.in_default.is c.take.ensures.left
    (reads_missed see_maybe c.deep_type.result c.deep_type.new.words (marked Struct) (λ s. opened room inner (struct_type room inner s)) third c.take-2.result c.take.new.self c.take-2.new.self c.take-2.ensures.found c.in_default-take.is c.take-2.ensures.left
    (reads_missed see_maybe c.deep_type.result c.deep_type.new.words (marked Interface) (λ s. opened room inner (interface_type room inner s)) deep c.take-3.result c.take-2.new.self c.take-3.new.self c.take-3.ensures.found c.in-None.is c.take-3.ensures.left c.deep_type.ensures))
