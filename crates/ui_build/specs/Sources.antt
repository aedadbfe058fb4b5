-- Sources as they lie in memory, and their trees.
use Rattle.std.specs.Prelude.{List, map, Vec}
use Rattle.std.specs.declared.alloc.Global.{Global}
use Rattle.ui_sources.specs.Sources.{SourceFile, Trees, source_of, source_tree}
use Rattle.ui_sources.specs.declared.source.SourceFile.{SourceFile as InMemory}
use Rattle.ui_sources.specs.declared.source.Trees.{Trees as TreesInMemory}

abbrev pub sources_of : Vec InMemory Global → List SourceFile
sources_of v = map source_of v.items

abbrev pub trees_seen : TreesInMemory → Trees
trees_seen t = record { size = t.size; files = map source_tree t.files.items }
