use Rattle.std.proofs.Common.{◌≡◌, ℕ, drop}
use Rattle.ui_frame.specs.Container.{section}
use Rattle.ui_frame.specs.Sections.{number_of}
use Rattle.ui_strpos.specs.Contexts.{context}
use Rattle.ui_file.specs.Files.{elements_from}
use Rattle.ui_sections.specs.Told.{with_front}
use Rattle.ui_sections.proofs.Growing.{AreFirst}
use Rattle.ui_sections.proofs.section.read_section.Given as goal

abbrev pub invariant-loop-k : goal.invariant-loop-k
invariant-loop-k g l = record {
  told : with_front l.elements.items
      (elements_from g.E.Element.format (number_of l.s)
      (λ (k : ℕ). context k (g.S.Shapes.shape_of l.shapes k) l.frame) l.k
      (drop l.k (section l.s l.frame)))
      ≡ elements_from g.E.Element.format (number_of l.s)
      (λ (k : ℕ). context k (g.S.Shapes.shape_of l.shapes k) l.frame) 0 (section l.s l.frame);
  found : AreFirst g.E.Element.format l.s
      (g.S.Shapes.shape_of l.shapes) l.frame l.elements.items l.k;
}
