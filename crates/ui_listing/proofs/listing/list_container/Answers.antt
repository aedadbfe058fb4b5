use Rattle.std.proofs.Common.{ℕ, ◌++◌, List, ap, ◌∙◌, append_assoc}
use Rattle.std.specs.List.{flat_map}
use Rattle.std.specs.Prelude.{codes}
use Rattle.ui_listing.specs.Listing as spec
use Rattle.ui_listing.proofs.listing.list_container.Goals as goal

pub returns : goal.returns
unfolding spec.listing
returns c =
    let parts = c.args.frame.now in
    let sections : List ℕ = flat_map (spec.section_lines parts) spec.all_sections in
    c.in_ok-put_fingerprint.ensures
    ∙ ap (λ (xs : List ℕ). xs ++ spec.last_line parts)
    (c.in_ok-put_sections.ensures ∙ ap (λ (xs : List ℕ). xs ++ sections)
    (c.in_ok-put_text.ensures
    ∙ ap (λ (xs : List ℕ). xs ++ codes "version 1 flags 0\n") c.new-out.ensures.items))
    ∙ append_assoc (codes "version 1 flags 0\n") sections (spec.last_line parts)
