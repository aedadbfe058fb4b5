use Rattle.std.proofs.Common.{◌≡◌, ◌+◌, map, drop}
use Rattle.ui_forms.specs.Form.{decl_count, source_of}
use Rattle.ui_forms.proofs.package.has_few_decls.Given as goal

abbrev pub invariant-loop-file : goal.invariant-loop-file
invariant-loop-file l = l.room + decl_count (map source_of l.files) ≡ 4096 + decl_count (map source_of (drop l.file-index l.files))
