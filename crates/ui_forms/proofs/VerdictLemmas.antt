-- The verdict, step by step.
use Rattle.std.proofs.Common.{◌≡◌, ℕ, ◌+◌, ◌<◌, List, [], ◌∷◌, drop, length, get_or, Result, Ok, Err, refl, sym, ap, ◌∙◌}
use Rattle.std.specs.FinMap.{empty, insert}
use Rattle.std.proofs.lemmas.List.{drop_more}
use Rattle.ui_base.specs.declared.fault.Fault.{Fault}
use Rattle.ui_base.specs.declared.fault.CheckFault.{CheckFault}
use Rattle.ui_base.specs.declared.fault.CheckFault.TheVariants.{NoMemory, Fault as Refused}
use Rattle.ui_exports.specs.Export.{Declarations, Export}
use Rattle.ui_exports.specs.Constants.{declarations_of}
use Rattle.ui_exports.specs.Linked.{Linked}
use Rattle.ui_base.specs.Steps.{and_then}
use Rattle.ui_forms.specs.Form.{Form}
use Rattle.ui_forms.specs.Verdict.{Environment, IsRefusal, Selection, all_used, constant_value, declared, declared_from, environment_of, exported, parts_from, value_from, verdict}
use Rattle.ui_forms.specs.Scope.{Scope, selection_of}
use Rattle.ui_forms.specs.declared.part.ImportPath.{ImportPath}
use Rattle.ui_forms.specs.declared.part.ConstantSum.{ConstantSum}
use Rattle.ui_forms.specs.declared.part.Part.{Part}
use Rattle.ui_forms.proofs.PartLaws.{ok_is}

-- no constants
pub none_declared : declarations_of [] ≡ empty
unfolding declarations_of
none_declared = refl

module _ (e : Environment) (f : Form) (parts : List Part) (same : parts ≡ f.parts) where
  pub verdict-refused : (fault : CheckFault) → IsRefusal (parts_from e empty parts) fault → IsRefusal (verdict e f) fault
  unfolding verdict
  verdict-refused (Refused fault) r = ap (and_then (λ decls. and_then (λ _. Ok (exported f decls)) (all_used f.parts))) (ap (parts_from e empty) (sym same) ∙ r)
  verdict-refused NoMemory r = tt

  at_decls : (decls : Declarations) → parts_from e empty parts ≡ Ok decls → verdict e f ≡ and_then (λ _. Ok (exported f decls)) (all_used f.parts)
  unfolding verdict
  at_decls decls made = ap (and_then (λ ds. and_then (λ _. Ok (exported f ds)) (all_used f.parts))) (ap (parts_from e empty) (sym same) ∙ made)

  pub verdict-unused : (decls : Declarations) (parts' : List Part) (fault : CheckFault) → parts_from e empty parts ≡ Ok decls → parts' ≡ f.parts → IsRefusal (all_used parts') fault → IsRefusal (verdict e f) fault
  verdict-unused decls parts' (Refused fault) made again r = at_decls decls made ∙ ap (and_then (λ _. Ok (exported f decls))) (ap all_used (sym again) ∙ r)
  verdict-unused decls parts' NoMemory made again r = tt

  pub verdict-ok : (p : Export) (path name : List ℕ) (parts' : List Part) (done : Unit {0}) → path ≡ f.path → name ≡ f.name → parts_from e empty parts ≡ Ok p.decls → p ≡ record { path = path; name = name; decls = p.decls } → parts' ≡ f.parts → all_used parts' ≡ Ok done → verdict e f ≡ Ok p
  verdict-ok p path name parts' done is_path is_name made named again used =
      at_decls p.decls made
      ∙ ap (and_then (λ _. Ok (exported f p.decls))) (ap all_used (sym again) ∙ used)
      ∙ ap (λ (x : Export). let r : Result Export Fault = Ok x in r) (sym (named ∙ λ i. record { path = is_path i; name = is_name i; decls = p.decls }))

-- ---- constants one after another

passed : {A B : Type 0} (g : A → B) (f : B → Result B Fault) (r : Result A Fault) (y : B) → and_then (λ x. let z : Result B Fault = Ok (g x) in z) r ≡ Ok y → and_then (λ x. f (g x)) r ≡ f y
passed g f (Ok x) y e = ap f (ok_is {E = Fault} (g x) y e)
passed g f (Err fault) y e = absurd cc

module _ (select : Selection) (file : List ℕ) (before : Declarations) (cs : List ConstantSum) (i : ℕ) (c : ConstantSum) (h : i < length cs) (at : c ≡ get_or cs i c) (target : Result Declarations Fault) (so_far : declared_from select file before (drop i cs) ≡ target) where
  cut : declared_from select file before (c ∷ drop (i + 1) cs) ≡ target
  cut = sym (ap (declared_from select file before) (drop_more cs i c h ∙ ap (λ x. x ∷ drop (i + 1) cs) (sym at))) ∙ so_far

  pub declared_more : (decls : Declarations) → and_then (λ value. Ok (insert before c.name (declared file c value))) (constant_value select file before c) ≡ Ok decls → declared_from select file decls (drop (i + 1) cs) ≡ target
  declared_more decls e = sym (passed (λ value. insert before c.name (declared file c value)) (λ ds. declared_from select file ds (drop (i + 1) cs)) (constant_value select file before c) decls e) ∙ cut

  pub declared_stops : (e : CheckFault) → IsRefusal (constant_value select file before c) e → IsRefusal target e
  declared_stops (Refused fault) r = sym cut ∙ ap (and_then (λ value. declared_from select file (insert before c.name (declared file c value)) (drop (i + 1) cs))) r
  declared_stops NoMemory r = tt

-- the constants of a source, by its scope
pub part_declared : (p : Part) (linked : List Linked) (before : Declarations) (is : List ImportPath) (file : List ℕ) (cs : List ConstantSum) (s : Scope) → s ≡ record { linked = linked; imports = is } → is ≡ p.imports → file ≡ p.file → cs ≡ p.constants → declared_from (selection_of s) file before cs ≡ declared_from (value_from (environment_of linked) p.imports) p.file before p.constants
part_declared p linked before is file cs s scoped these named those =
    ap (λ x. declared_from (selection_of x) file before cs) scoped
    ∙ ap (λ x. declared_from (value_from (environment_of linked) x) file before cs) these
    ∙ ap (λ x. declared_from (value_from (environment_of linked) p.imports) x before cs) named
    ∙ ap (declared_from (value_from (environment_of linked) p.imports) p.file before) those
