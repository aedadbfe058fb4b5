use Rattle.std.proofs.Common.{refl, arith}
use Rattle.std.proofs.lemmas.Grind.{common_steps}
use Rattle.std.proofs.lemmas.Result.{err_from_is_err_and}
use Rattle.ui_build.specs.Plan.{Put}
use Rattle.ui_build.specs.Package.{unit_file, linked_file}
use Rattle.ui_build.specs.Build.{write_files}
use Rattle.ui_build.specs.Stops.{state, IsFileOf}
use Rattle.ui_build.proofs.Steps.{first_stops, second_stops, both_end, no_refusal_stops, stops_none}
use Rattle.ui_build.proofs.Compiled.{file_of}
use Rattle.ui_build.proofs.compiling.write_files.Goals as goal

pub returns-in_err-bytes-clause-does : goal.returns-in_err-bytes-clause-does
returns-in_err-bytes-clause-does g c =
    let p = err_from_is_err_and c.from_residual.result c.from_residual.ensures.1 in
    λ told entry at is. rw (p.1, p.2) (stops_none (write_files c.args.path.now entry) (state (g.S.Store.told c.args.store.now).files (g.S.Store.told c.args.store.now).asked))

pub returns-in_err-unit-clause-does : goal.returns-in_err-unit-clause-does
returns-in_err-unit-clause-does g c =
    let p = err_from_is_err_and c.from_residual-in_err-unit.result c.from_residual-in_err-unit.ensures.1 in
    λ told entry at is. rw (p.1, p.2) (stops_none (write_files c.args.path.now entry) (state (g.S.Store.told c.args.store.now).files (g.S.Store.told c.args.store.now).asked))

pub returns-in_err-linked-clause-does : goal.returns-in_err-linked-clause-does
returns-in_err-linked-clause-does g c =
    let p = err_from_is_err_and c.from_residual-in_err-linked.result c.from_residual-in_err-linked.ensures.1 in
    λ told entry at is. rw (p.1, p.2) (stops_none (write_files c.args.path.now entry) (state (g.S.Store.told c.args.store.now).files (g.S.Store.told c.args.store.now).asked))

pub returns-in_err-write_file-clause-does : goal.returns-in_err-write_file-clause-does
returns-in_err-write_file-clause-does g c =
    let p = err_from_is_err_and c.from_residual-in_err-write_file.result c.from_residual-in_err-write_file.ensures.1 in
    let old = g.S.Store.told c.args.store.now in
    let new = g.S.Store.told c.write_file.new.store in
    let path = c.args.path.now in
    λ told entry at is.
    let both : Put = record { unit = unit_file path; linked = linked_file path; entry = entry } in
    let file : IsFileOf old.files c.in_ok-bytes.bytes.items entry = file_of old.files told c.in_ok-bytes.bytes.items c.args.of.now entry at is (rw c.deref.ensures.value at c.are_bytes.ensures) c.in_ok-bytes.ensures.holds (grind (arith, common_steps)) in
    rw (p.1, p.2)
    (no_refusal_stops (write_files path entry) (state old.files old.asked) (state new.files new.asked) c.in_err-write_file.field-0.0 c.in_err-write_file.ensures.heard.stop
    (first_stops both c.in_ok-bytes.bytes.items old.files new.files old.asked new.asked file (rw c.in_ok-unit.ensures at c.in_err-write_file.ensures.asked) (rw (c.in_ok-unit.ensures, c.deref-2.ensures.value) at c.in_err-write_file.ensures.files)))

pub returns-in_err-write_file-2-clause-does : goal.returns-in_err-write_file-2-clause-does
returns-in_err-write_file-2-clause-does g c =
    let p = err_from_is_err_and c.from_residual-in_err-write_file-2.result c.from_residual-in_err-write_file-2.ensures.1 in
    let old = g.S.Store.told c.args.store.now in
    let mid = g.S.Store.told c.write_file.new.store in
    let new = g.S.Store.told c.write_file-2.new.store in
    let path = c.args.path.now in
    λ told entry at is.
    let both : Put = record { unit = unit_file path; linked = linked_file path; entry = entry } in
    let file : IsFileOf old.files c.in_ok-bytes.bytes.items entry = file_of old.files told c.in_ok-bytes.bytes.items c.args.of.now entry at is (rw c.deref.ensures.value at c.are_bytes.ensures) c.in_ok-bytes.ensures.holds (grind (arith, common_steps)) in
    rw (p.1, p.2)
    (no_refusal_stops (write_files path entry) (state old.files old.asked) (state new.files new.asked) c.in_err-write_file-2.field-0.0 c.in_err-write_file-2.ensures.heard.stop
    (second_stops both c.in_ok-bytes.bytes.items old.files mid.files new.files old.asked mid.asked new.asked file (rw c.in_ok-unit.ensures at c.in_ok-write_file.ensures.asked) (rw (c.in_ok-unit.ensures, c.deref-2.ensures.value) at c.in_ok-write_file.ensures.files)
    (rw c.in_ok-linked.ensures at c.in_err-write_file-2.ensures.asked) (rw (c.in_ok-linked.ensures, c.deref-3.ensures.value) at c.in_err-write_file-2.ensures.files)))

pub returns-clause-does : goal.returns-clause-does
returns-clause-does g c =
    let old = g.S.Store.told c.args.store.now in
    let mid = g.S.Store.told c.write_file.new.store in
    let new = g.S.Store.told c.write_file-2.new.store in
    let path = c.args.path.now in
    λ told entry at is.
    let both : Put = record { unit = unit_file path; linked = linked_file path; entry = entry } in
    let file : IsFileOf old.files c.in_ok-bytes.bytes.items entry = file_of old.files told c.in_ok-bytes.bytes.items c.args.of.now entry at is (rw c.deref.ensures.value at c.are_bytes.ensures) c.in_ok-bytes.ensures.holds (grind (arith, common_steps)) in (
      refl,
      both_end both c.in_ok-bytes.bytes.items old.files mid.files new.files old.asked mid.asked new.asked file (rw c.in_ok-unit.ensures at c.in_ok-write_file.ensures.asked) (rw (c.in_ok-unit.ensures, c.deref-2.ensures.value) at c.in_ok-write_file.ensures.files)
          (rw c.in_ok-linked.ensures at c.in_ok-write_file-2.ensures.asked) (rw (c.in_ok-linked.ensures, c.deref-3.ensures.value) at c.in_ok-write_file-2.ensures.files),
    )
