use Rattle.std.proofs.Common.{◌≡◌, ◌<◌, ℕ, ◌+◌, List, length, drop, sym, subst, arith}
use Rattle.ui_frame.specs.Container.{section}
use Rattle.ui_frame.specs.Sections.{number_of}
use Rattle.ui_strpos.specs.Contexts.{context}
use Rattle.ui_file.specs.Files.{elements_from}
use Rattle.ui_sections.specs.Told.{with_front}
use Rattle.ui_sections.proofs.Steps.{begins, step, fails, is_done}
use Rattle.ui_sections.proofs.Growing.{none_first, one_more, all_first}
use Rattle.ui_sections.proofs.section.read_section.Goals as goal

pub loop-k-init : goal.loop-k-init
loop-k-init g c = record {
  told = begins c.new-elements.result.items _ c.new-elements.ensures.items;
  found = none_first g.E.Element.format c.args.s
      (g.S.Shapes.shape_of c.args.shapes.now) c.args.frame.now
      c.new-elements.result.items c.new-elements.ensures.items;
}

pub returns-in-Err-clause-read : goal.returns-in-Err-clause-read
returns-in-Err-clause-read g c =
    fails g.E.Element.format (number_of c.args.s)
    (λ (k : ℕ). context k (g.S.Shapes.shape_of c.args.shapes.now k) c.args.frame.now)
    (section c.args.s c.args.frame.now) c.loop-k.elements.items c.loop-k.k c.in-Err.fault _
    (let n = c.loop-k-test.true in let m = c.count-k-end.ensures in omega arith)
    c.in-Err.ensures.read c.loop-k.invariant.told

pub loop-k-preserved : goal.loop-k-preserved
loop-k-preserved g c =
    let f = g.E.Element.format in
    let parts = section c.args.s c.args.frame.now in
    let of : ℕ → _ = λ (k : ℕ). context k
    (g.S.Shapes.shape_of c.args.shapes.now k) c.args.frame.now in
    let less : c.loop-k.k < length parts =
    (let n = c.loop-k-test.true in let m = c.count-k-end.ensures in omega arith) in
    let more = step f (number_of c.args.s) of parts c.loop-k.elements.items c.loop-k.k
    c.in-Ok.element _
    less c.in-Ok.ensures.read c.loop-k.invariant.told in
    record {
      told =
          subst (λ (front : List _). with_front front
          (elements_from f (number_of c.args.s) of (c.loop-k.k + 1) (drop (c.loop-k.k + 1) parts))
          ≡ elements_from f (number_of c.args.s) of 0 parts) (sym c.in-Ok-push.ensures.items) more;
      found = one_more f c.args.s (g.S.Shapes.shape_of c.args.shapes.now) c.args.frame.now
          c.loop-k.elements.items _ c.loop-k.k c.in-Ok.element less c.loop-k.invariant.found
          c.in-Ok.ensures.found c.in-Ok-push.ensures.items;
    }

pub returns-clause-read : goal.returns-clause-read
returns-clause-read g c =
    is_done g.E.Element.format (number_of c.args.s)
    (λ (k : ℕ). context k (g.S.Shapes.shape_of c.args.shapes.now k) c.args.frame.now)
    (section c.args.s c.args.frame.now) c.loop-k.elements.items c.loop-k.k _
    (let n = c.loop-k-test.false in let m = c.count-k-end.ensures in omega arith)
    c.loop-k.invariant.told

pub returns-clause-found : goal.returns-clause-found
returns-clause-found g c =
    all_first g.E.Element.format c.args.s (g.S.Shapes.shape_of c.args.shapes.now) c.args.frame.now
    c.loop-k.elements.items c.loop-k.k
    (let n = c.loop-k-test.false in let m = c.count-k-end.ensures in omega arith)
    c.loop-k.invariant.found
