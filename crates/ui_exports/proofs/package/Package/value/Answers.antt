use Rattle.std.proofs.Common.{◌≡◌, ℕ, List, option_map, Option, Some, None, sym, ap, ◌∙◌}
use Rattle.std.specs.FinMap.{get}
use denote.Ref.{Bor}
use Rattle.ui_exports.specs.Constants.{declaration, declarations_of}
use Rattle.ui_exports.specs.Export.{Export, Declarations}
use Rattle.ui_exports.specs.declared.package.Constant.{Constant}
use Rattle.ui_exports.proofs.package.Package.value.Goals as goal

found : (m : Declarations) (e : Export) (q : List ℕ) (r : Option (Bor Constant)) (x : Bor Constant) → e.decls ≡ m → r ≡ Some x → option_map (λ c. declaration c.now) r ≡ get m q → Some x.now.value ≡ option_map (λ d. d.value) (get e.decls q)
found m e q r x same is e' = ap (option_map (λ d. d.value)) (sym (ap (option_map (λ c. declaration c.now)) is) ∙ e') ∙ ap (λ n. option_map (λ d. d.value) (get n q)) (sym same)

missed : (m : Declarations) (e : Export) (q : List ℕ) (r : Option (Bor Constant)) → e.decls ≡ m → r ≡ None → option_map (λ c. declaration c.now) r ≡ get m q → None ≡ option_map (λ d. d.value) (get e.decls q)
missed m e q r same is e' = ap (option_map (λ d. d.value)) (sym (ap (option_map (λ c. declaration c.now)) is) ∙ e') ∙ ap (λ n. option_map (λ d. d.value) (get n q)) (sym same)

pub returns-in-Some : goal.returns-in-Some
returns-in-Some c = found (declarations_of c.self.inside.constants.entries) c.args.self.now c.args.name.now c.find.result c.in-Some.constant (ap (λ e. e.decls) (sym c.self.view_is)) c.in-Some.is c.find.ensures

pub returns-in-None : goal.returns-in-None
returns-in-None c = missed (declarations_of c.self.inside.constants.entries) c.args.self.now c.args.name.now c.find.result (ap (λ e. e.decls) (sym c.self.view_is)) c.in-None.is c.find.ensures
