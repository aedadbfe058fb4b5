use Rattle.std.proofs.Common.{[], drop, map}
use Rattle.std.specs.List.{flat_map}
use Rattle.ui_tree.specs.StmtView.{decl_view}
use Rattle.ui_used.specs.Mentions.{in_decl}
use Rattle.ui_used.proofs.MentionLemmas.{Found}
use Rattle.ui_used.proofs.mentions.in_file.Given as goal

abbrev pub invariant-loop-decl : goal.invariant-loop-decl
invariant-loop-decl l = Found [] l.found (flat_map in_decl (map decl_view l.file.decls)) (flat_map
    in_decl (map decl_view (drop l.decl-index l.file.decls)))
