use Rattle.std.proofs.Common.{◌≡◌, true, get_or, List, ap, subst, ◌∙◌, ℕ, length, refl}
use Rattle.ui_base.specs.declared.name.Name.{Name}
use Rattle.ui_frame.specs.declared.section.Section.TheVariants.{Name as Names}
use Rattle.ui_file.specs.Files.{no_name}
use Rattle.ui_file.specs.Words.{Words, words, nameless, own_path}
use Rattle.ui_file.specs.Rules.{KeepsStub, count_in, stub_fits, is_stub}
use Rattle.ui_file_rules.specs.First.{FirstOf}
use Rattle.ui_file_rules.proofs.Free.{at_section, over_list, free_stub}
use Rattle.ui_name_rules.proofs.stub_rule.StubLeftFileRule.first_in.Goals as goal

pub returns-in-Name : goal.returns-in-Name
returns-in-Name c =
    let x = c.args.self.now.file.now in
    let kind = c.args.self.now.kind in
    let own : c.text_at-own.result.now ≡ own_path x =
    c.text_at-own.ensures
    ∙ ap (λ (ps : List (List ℕ)). get_or ps x.public.pkg _)
    (c.items.ensures ∙ ap (λ (w : Words). w.paths) c.args.self.now.agree) in
    let names : c.items-names.result.now ≡ (words x).names = c.items-names.ensures
    ∙ ap (λ (w : Words). w.names) c.args.self.now.agree in
    at_section (λ s k. KeepsStub kind x s k)
    (λ s. count_in x s) c.args.s Names c.first_not.result c.in-Name.is
    (over_list (λ ns k. stub_fits kind (own_path x) (get_or (words x).names k nameless)
    (is_stub (get_or ns k no_name).kind) ≡ true)
    c.items-els.result.now x.names (length c.items-els.result.now) c.first_not.result c.items-els.ensures refl
    (subst (λ (ns : List Name). FirstOf (λ k. stub_fits kind (own_path x) (get_or ns k nameless)
    (is_stub (get_or c.items-els.result.now k no_name).kind)
    ≡ true) (length c.items-els.result.now) c.first_not.result) names
    (subst (λ (p : List ℕ). FirstOf (λ k. stub_fits kind p (get_or c.items-names.result.now k nameless)
    (is_stub (get_or c.items-els.result.now k no_name).kind)
    ≡ true) (length c.items-els.result.now) c.first_not.result) own
    c.first_not.ensures)))

pub returns-in_default : goal.returns-in_default
returns-in_default c = λ k lt.
    free_stub c.args.self.now.kind c.args.self.now.file.now c.args.s c.in_default.not-Name k
