use Rattle.std.proofs.Common.{◌≡◌, get_or, List, ℕ, sym, ap, subst, ◌∙◌}
use Rattle.std.specs.Prelude.{Option, bytes_eq}
use Rattle.ui_frame.specs.declared.section.Section.TheVariants.{Meta}
use Rattle.ui_file.specs.Words.{Words, own_path}
use Rattle.ui_file.specs.Rules.{KeepsPath, count_in}
use Rattle.ui_file_rules.specs.First.{FirstOf}
use Rattle.ui_file_rules.proofs.Free.{at_section, free_path}
use Rattle.ui_name_rules.proofs.Roots.{path_is}
use Rattle.ui_name_rules.proofs.path_rule.WrongPathFileRule.first_in.Goals as goal

pub returns-in-Meta : goal.returns-in-Meta
returns-in-Meta c =
    let x = c.args.self.now.file.now in
    let path = c.args.self.now.path.now in
    let own : c.text_at-own.result.now ≡ own_path x =
    c.text_at-own.ensures
    ∙ ap (λ (ps : List (List ℕ)). get_or ps x.public.pkg _)
    (c.items.ensures ∙ ap (λ (w : Words). w.paths) c.args.self.now.agree) in
    at_section (λ s k. KeepsPath path x s k)
    (λ s. count_in x s) c.args.s Meta c.first_or_none.result c.in-Meta.is
    (subst (λ (o : Option _). FirstOf (KeepsPath path x Meta) (count_in x Meta) o)
    (sym c.first_or_none.ensures)
    (path_is path x c.eq.result (c.eq.ensures ∙ (λ i. bytes_eq (own i) (c.bytes-asked.ensures i)))))

pub returns-in_default : goal.returns-in_default
returns-in_default c = λ k lt.
    free_path c.args.self.now.path.now c.args.self.now.file.now c.args.s c.in_default.not-Meta k
