use Rattle.std.proofs.Common.{◌≡◌, ◌≢◌, ◌+◌, ◌*◌, ◌≤◌, ℕ, List, length, true, false, ap, arith, sym, ◌∙◌}
use Rattle.std.proofs.lemmas.Bool.{not-false}
use Rattle.std.proofs.lemmas.Slice.Eq.{bytes_eq-Decides}
use Rattle.std.specs.Prelude.{not}
use Rattle.std.specs.Str.{bytes_eq}
use Rattle.ui_frame.specs.Opening.{ascends, counts_in, ends_in, last_from, total_in, computed_in}
use Rattle.ui_frame.proofs.Containers.{ends_by, failing-short, failing-version, failing-flags, failing-counts, failing-room, failing-ends, failing-length, failing-fingerprint, first_failing-none, headed_by, Headed, Passes}
use Rattle.ui_frame.proofs.frame.test_container.Goals as goal
use Rattle.ui_frame.proofs.frame.test_container.Goals.{After-last_ascending, After-last_ascending-2, After-ne, In-Some-last_ascending}

-- the tables are in order, and there are so many elements
record Tabled (bytes : List ℕ) (count : ℕ) : Type 0 where
  headed : Headed bytes
  counts_up : ascends 0 (counts_in bytes) ≡ true
  count_is : count ≡ total_in bytes
  room : 56 + 4 * total_in bytes ≤ length bytes

pub returns-then-bytes-lt-EMPTY_LENGTH-clause-failed : goal.returns-then-bytes-lt-EMPTY_LENGTH-clause-failed
returns-then-bytes-lt-EMPTY_LENGTH-clause-failed c = failing-short c.args.bytes.now c.if-bytes-lt-EMPTY_LENGTH.true

pub returns-then-read_word-ne-VERSION-clause-failed : goal.returns-then-read_word-ne-VERSION-clause-failed
returns-then-read_word-ne-VERSION-clause-failed c =
    failing-version c.args.bytes.now c.if-bytes-lt-EMPTY_LENGTH.false (λ same. c.if-read_word-ne-VERSION.true (c.read_word.ensures ∙ same))

pub returns-then-read_word-ne-FLAGS-clause-failed : goal.returns-then-read_word-ne-FLAGS-clause-failed
returns-then-read_word-ne-FLAGS-clause-failed c =
    failing-flags c.args.bytes.now c.if-bytes-lt-EMPTY_LENGTH.false (sym c.read_word.ensures ∙ c.if-read_word-ne-VERSION.false)
    (λ same. c.if-read_word-ne-FLAGS.true (c.read_word-2.ensures ∙ same))

unlike : (kept computed : List ℕ) → true ≡ not (bytes_eq kept computed) → kept ≢ computed
unlike kept computed e same =
    let alike : bytes_eq kept computed ≡ true = (bytes_eq-Decides kept computed).1 same in
    absurd cc

alike : (kept computed : List ℕ) → false ≡ not (bytes_eq kept computed) → kept ≡ computed
alike kept computed e = (bytes_eq-Decides kept computed).0 (not-false _ (sym e))

-- the heading, as each later exit has it
headed : (c : After-last_ascending) → Headed c.args.bytes.now
headed c =
    headed_by c.args.bytes.now c.read_word.result c.read_word-2.result c.if-bytes-lt-EMPTY_LENGTH.false c.read_word.ensures c.if-read_word-ne-VERSION.false c.read_word-2.ensures c.if-read_word-ne-FLAGS.false

pub returns-in_default-clause-failed : goal.returns-in_default-clause-failed
unfolding counts_in
returns-in_default-clause-failed c =
    failing-counts c.args.bytes.now (headed (goal.at.returns-in_default-clause-failed c).After-last_ascending) c.in_default.ensures.down

pub returns-then-bytes-count-clause-failed : goal.returns-then-bytes-count-clause-failed
unfolding counts_in
returns-then-bytes-count-clause-failed c =
    let count = c.in-Some.ensures.last in
    failing-room c.args.bytes.now (headed (goal.at.returns-then-bytes-count-clause-failed c).After-last_ascending) c.in-Some.ensures.up (omega arith)

-- the tables, as each exit behind the test of the counts has them
tabled : (c : After-last_ascending-2) → Tabled c.args.bytes.now c.in-Some.count
unfolding counts_in
tabled c =
    let count = c.in-Some.ensures.last in
    record {
      headed = headed_by c.args.bytes.now c.read_word.result c.read_word-2.result c.if-bytes-lt-EMPTY_LENGTH.false c.read_word.ensures c.if-read_word-ne-VERSION.false c.read_word-2.ensures c.if-read_word-ne-FLAGS.false;
      counts_up = c.in-Some.ensures.up;
      count_is = count;
      room = omega arith;
    }

pub returns-in_default-last_ascending-clause-failed : goal.returns-in_default-last_ascending-clause-failed
returns-in_default-last_ascending-clause-failed c =
    let t = tabled (goal.at.returns-in_default-last_ascending-clause-failed c).After-last_ascending-2 in
    let down = c.in_default-last_ascending.ensures.down in
    failing-ends c.args.bytes.now t.headed t.counts_up t.room (ap (ascends 0) (sym (ends_by c.args.bytes.now c.in-Some.count t.count_is)) ∙ down)

pub returns-then-count-size-clause-failed : goal.returns-then-count-size-clause-failed
returns-then-count-size-clause-failed c =
    let t = tabled (goal.at.returns-then-count-size-clause-failed c).After-last_ascending-2 in
    let count = t.count_is in
    let ends = ends_by c.args.bytes.now c.in-Some.count t.count_is in
    let up = ap (ascends 0) (sym ends) ∙ c.in-Some-last_ascending.ensures.up in
    let last : c.in-Some-last_ascending.size ≡ last_from 0 (ends_in c.args.bytes.now) = c.in-Some-last_ascending.ensures.last ∙ ap (last_from 0) ends in
    failing-length c.args.bytes.now t.headed t.counts_up t.room up (λ same. c.if-count-size.true (omega arith))

-- all but the fingerprints' equality, which is tested last
but_fingerprint : (c : After-ne) → c.kept_fingerprint-kept.result ≡ c.fingerprint_of-computed.result → Passes c.args.bytes.now
unfolding counts_in computed_in
but_fingerprint c same =
    let bytes : List ℕ = c.args.bytes.now in
    let count = c.in-Some.ensures.last in
    let ends = ends_by bytes c.in-Some.count count in
    let last : c.in-Some-last_ascending.size ≡ last_from 0 (ends_in bytes) = c.in-Some-last_ascending.ensures.last ∙ ap (last_from 0) ends in
    record {
      headed = headed_by bytes c.read_word.result c.read_word-2.result c.if-bytes-lt-EMPTY_LENGTH.false c.read_word.ensures c.if-read_word-ne-VERSION.false c.read_word-2.ensures c.if-read_word-ne-FLAGS.false;
      counts_up = c.in-Some.ensures.up;
      room = omega arith;
      ends_up = ap (ascends 0) (sym ends) ∙ c.in-Some-last_ascending.ensures.up;
      all = let long = c.if-count-size.false in omega arith;
      kept = sym c.kept_fingerprint-kept.ensures ∙ same ∙ c.fingerprint_of-computed.ensures;
    }

pub returns-then-ne-clause-failed : goal.returns-then-ne-clause-failed
unfolding computed_in
returns-then-ne-clause-failed c =
    let bytes : List ℕ = c.args.bytes.now in
    let t = tabled (goal.at.returns-then-ne-clause-failed c).After-last_ascending-2 in
    let count = t.count_is in
    let ends = ends_by bytes c.in-Some.count t.count_is in
    let up = ap (ascends 0) (sym ends) ∙ c.in-Some-last_ascending.ensures.up in
    let last : c.in-Some-last_ascending.size ≡ last_from 0 (ends_in bytes) = c.in-Some-last_ascending.ensures.last ∙ ap (last_from 0) ends in
    let ne = unlike _ _ c.if-ne.ensures in
    rw (c.kept_fingerprint-kept.ensures, c.fingerprint_of-computed.ensures)
    (failing-fingerprint bytes t.headed t.counts_up t.room up (let long = c.if-count-size.false in omega arith) (λ same. ne (c.kept_fingerprint-kept.ensures ∙ same ∙ sym c.fingerprint_of-computed.ensures)))

pub returns-clause-passed : goal.returns-clause-passed
returns-clause-passed c =
    first_failing-none c.args.bytes.now (but_fingerprint (goal.at.returns-clause-passed c).After-ne (alike _ _ c.if-ne.ensures))
