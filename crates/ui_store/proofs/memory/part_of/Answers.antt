use Rattle.std.proofs.Common.{arith, ◌≡◌, ◌<◌, ℕ, List, length, true}
use Rattle.std.specs.List.{slice_index}
use Rattle.std.proofs.lemmas.Str.{IsCharBoundary-after_ascii}
use Rattle.ui_store.specs.Files.{is_part}
use Rattle.ui_store.proofs.memory.part_of.Goals as goal

slash : (folder name : List ℕ) → is_part folder name ≡ true → (length folder < length name) × (slice_index name (length folder) ≡ 47)
slash folder name h = grind arith

pub range_from-requires : goal.range_from-requires
range_from-requires c =
    let at = slash c.args.dir.now c.args.name.now (grind arith) in
    λ _. IsCharBoundary-after_ascii c.args.name.now (length c.args.dir.now) c.utf8.name at.0 (omega (arith, at.1))
