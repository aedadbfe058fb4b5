use Rattle.std.specs.Prelude.{◌≡◌, true, false, string_bytes, bytes_eq}
use Rattle.std.proofs.Common.{◌∙◌, ap, sym}
use Rattle.std.proofs.lemmas.Bool.{or_left, or_right, or_from}
use Rattle.std.specs.FinMap.{contains_key, insert}
use Rattle.ui_order.specs.Tables.{paths_of, graph_of}
use Rattle.ui_order.proofs.TableLemmas.{import_kept, import_put, contains-graph_of, paths_of-insert}
use Rattle.ui_order.proofs.discovery.find_import.Goals as goal
use Rattle.ui_order.proofs.discovery.find_import.Goals.{then-eq-via-then-eq, then-eq-via-else-eq+then-contains_key}

pub returns-then-eq : goal.returns-then-eq
returns-then-eq c = λ own.
    let read = graph_of c.args.read.now.entries in
    let q = string_bytes c.args.import.now in
    let p = c.args.path.now in
    import_kept read (paths_of c.args.unread.now.keys) p q own
    (elim c.then-eq.branch [
      | then-eq-via-then-eq w ↦
          let same : bytes_eq q p ≡ true = ap (λ x. bytes_eq x p) (sym c.as_str.ensures.value) ∙ sym c.eq.ensures ∙ w.if-eq.true in
          or_left (bytes_eq q p) (contains_key read q) same
      | then-eq-via-else-eq+then-contains_key w ↦
          let held : contains_key read q ≡ true =
          ap (λ x. contains_key read x) (sym w.as_str-else-eq.ensures.value) ∙ contains-graph_of c.args.read.now.entries w.as_str-else-eq.result.now ∙ sym w.contains_key.ensures ∙ w.if-contains_key.true in
          or_right (bytes_eq q p) (contains_key read q) held
    ])

pub returns : goal.returns
returns c = λ own.
    let read = graph_of c.args.read.now.entries in
    let q = string_bytes c.args.import.now in
    let p = c.args.path.now in
    let other : bytes_eq q p ≡ false = ap (λ x. bytes_eq x p) (sym c.as_str.ensures.value) ∙ sym c.eq.ensures ∙ c.if-eq.false in
    let unread : contains_key read q ≡ false =
    ap (λ x. contains_key read x) (sym c.as_str-else-eq.ensures.value) ∙ contains-graph_of c.args.read.now.entries c.as_str-else-eq.result.now ∙ sym c.contains_key.ensures ∙ c.if-contains_key.false in
    let cloned : string_bytes c.in_ok-clone.field-0 ≡ q = c.in_ok-clone.ensures.cases in
    paths_of-insert (string_bytes c.in_ok-clone.field-0) c.args.unread.now c.insert.new.self c.in_ok-insert.ensures.updates
    ∙ ap (λ x. insert (paths_of c.args.unread.now.keys) x tt) cloned
    ∙ import_put read (paths_of c.args.unread.now.keys) p q own (or_from (bytes_eq q p) (contains_key read q) other unread)
