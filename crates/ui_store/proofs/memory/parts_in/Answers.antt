use Rattle.std.proofs.Common.{sym, subst, ◌≡◌, ◌∙◌, ap, append-nil, map, string_bytes}
use Rattle.std.specs.Prelude.{filter_map}
use Rattle.std.specs.BTreeMap.{keys}
use Rattle.ui_base.proofs.EntryLemmas.{sorted_texts}
use Rattle.ui_store.specs.Files.{part_in, texts}
use Rattle.ui_store.specs.Listings.{IsListing, are_listings}
use Rattle.ui_store.specs.Memory.{keys_of_files}
use Rattle.ui_store.proofs.memory.parts_in.Goals as goal

parts : (c : goal.In-None) → texts c.loop-name.names ≡ filter_map (part_in c.args.dir.now) (map string_bytes (keys c.args.files.now))
parts c = sym (append-nil _) ∙ (rw c.in-None.ensures.steps.0 at c.loop-name.invariant)

pub returns-clause-gives : goal.returns-clause-gives
returns-clause-gives c =
    parts c ∙ ap (filter_map (part_in c.args.dir.now)) (sym (keys_of_files c.args.files.now.entries c.keys-name-items.ensures.ordered))

pub returns-clause-listed : goal.returns-clause-listed
returns-clause-listed c =
    subst IsListing (sym (parts c)) (are_listings c.args.dir.now _ (sorted_texts string_bytes _ c.keys-name-items.ensures.ordered))
