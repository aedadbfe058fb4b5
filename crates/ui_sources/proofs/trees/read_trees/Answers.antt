use Rattle.std.proofs.Common.{Vec, Global, Ok, Err, map, subst, ◌∙◌, ◌≡◌}
use Rattle.std.proofs.lemmas.Result.{err_from_is_err_and}
use Rattle.ui_scan.specs.declared.kind.Token.{Token}
use Rattle.ui_tree.specs.declared.decl.FileTree.{FileTree}
use Rattle.ui_sources.specs.Sources.{GivesTrees, source_of, source_tree, trees_of}
use Rattle.ui_sources.proofs.Phases.{all_read, files_stop, size_stops, tokens_stop}
use Rattle.ui_sources.proofs.trees.read_trees.Goals as goal

pub returns-in_err-size : goal.returns-in_err-size
returns-in_err-size c =
    let p = err_from_is_err_and c.from_residual.result c.from_residual.ensures.1 in
    rw (p.1, p.2) (size_stops c.args.own.now (map source_of c.args.sources.now) c.in_err-size.field-0.0 c.in_err-size.ensures.gives)

pub returns-in_err-tokens : goal.returns-in_err-tokens
returns-in_err-tokens c =
    let p = err_from_is_err_and c.from_residual-in_err-tokens.result c.from_residual-in_err-tokens.ensures.1 in
    rw (p.1, p.2)
    (tokens_stop c.args.own.now (map source_of c.args.sources.now) c.in_ok-size.size c.in_ok-size.ensures.gives (λ (v : Vec (Vec Token Global) Global). map (λ tokens. tokens.items) v.items) c.in_err-tokens.field-0.0 c.in_err-tokens.ensures)

pub returns-in_err-files : goal.returns-in_err-files
returns-in_err-files c =
    let p = err_from_is_err_and c.from_residual-in_err-files.result c.from_residual-in_err-files.ensures.1 in
    rw (p.1, p.2)
    (subst (λ own. GivesTrees (trees_of own (map source_of c.args.sources.now)) (Err c.in_err-files.field-0.0)) (c.in_ok-own.ensures ∙ c.as_bytes.ensures.value)
    (files_stop c.in_ok-own.own (map source_of c.args.sources.now) c.in_ok-size.size c.in_ok-size.ensures.gives (map (λ tokens. tokens.items) c.in_ok-tokens.tokens.items) c.in_ok-tokens.ensures (λ (v : Vec FileTree Global). map source_tree v.items) c.in_err-files.field-0.0 c.in_err-files.ensures))

pub returns : goal.returns
returns c =
    subst (λ own. trees_of own (map source_of c.args.sources.now) ≡ Ok (record { size = c.in_ok-size.size; files = map source_tree c.in_ok-files.files.items })) (c.in_ok-own.ensures ∙ c.as_bytes.ensures.value)
    (all_read c.in_ok-own.own (map source_of c.args.sources.now) c.in_ok-size.size c.in_ok-size.ensures.gives (map (λ tokens. tokens.items) c.in_ok-tokens.tokens.items) c.in_ok-tokens.ensures (map source_tree c.in_ok-files.files.items) c.in_ok-files.ensures)
