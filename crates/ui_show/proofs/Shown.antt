-- What declarations say, by the trees of their ids.
use Rattle.std.proofs.Common.{◌≡◌, ℕ, ◌+◌, ◌<◌, ◌≤◌, arith, List, [], ◌∷◌, ◌++◌, take, get_or, length, refl, ap, ◌∙◌}
use Rattle.std.specs.Prelude.{map}
use Rattle.std.specs.List.{flat_map}
use Rattle.std.proofs.lemmas.List.{take_more, map-append}
use Rattle.std.proofs.lemmas.List.Concat.{flat_map-append, flat_map-cons}
use Rattle.ui_types.specs.declared.id.TypeId.{TypeId}
use Rattle.ui_types.specs.declared.decl.TParam.{TParam}
use Rattle.ui_types.specs.declared.decl.MethodFace.{MethodFace}
use Rattle.ui_types.specs.Table.{Table, tree, trees}
use Rattle.ui_types.specs.Decls.{MethodTree, shown_params, shown_methods}
use Rattle.ui_show.specs.Types.{in_brackets, type_text}
use Rattle.ui_show.specs.Decls.{param_names, param_text, brackets, method_line}
use Rattle.ui_show.proofs.Joins.{append_nil}
use Rattle.ui_show.proofs.Texts.{bound_text, text_at}

pub names_shown : (table : Table) (ps : List TParam)
    → map (λ (p : TParam). p.name) ps ≡ param_names (shown_params table ps)
names_shown table [] = refl
names_shown table (p ∷ ps) = ap (λ (ns : List (List ℕ)). p.name ∷ ns) (names_shown table ps)

bounds_shown : (names : List (List ℕ)) (table : Table) (ps : List TParam)
    → map (bound_text names table) ps ≡ map (param_text names) (shown_params table ps)
bounds_shown names table [] = refl
bounds_shown names table (p ∷ ps) =
    ap (λ (ts : List (List ℕ)). bound_text names table p ∷ ts) (bounds_shown names table ps)

pub params_shown : (table : Table) (ps : List TParam)
    → map (bound_text (map (λ (p : TParam). p.name) ps) table) ps
    ≡ map (param_text (param_names (shown_params table ps))) (shown_params table ps)
params_shown table ps =
    bounds_shown (map (λ (p : TParam). p.name) ps) table ps
    ∙ ap (λ (ns : List (List ℕ)). map (param_text ns) (shown_params table ps)) (names_shown table ps)

texts_shown : (names : List (List ℕ)) (table : Table) (ts : List TypeId)
    → map (text_at names table) ts ≡ map (type_text names) (trees table ts)
texts_shown names table [] = refl
texts_shown names table (t ∷ ts) =
    ap (λ (xs : List (List ℕ)). text_at names table t ∷ xs) (texts_shown names table ts)

-- with type arguments these stand in brackets
pub arguments_shown : (table : Table) (ps : List TParam) (ts : List TypeId) → 1 ≤ length ts
    → in_brackets (map (text_at (map (λ (p : TParam). p.name) ps) table) ts)
    ≡ brackets (param_names (shown_params table ps)) (trees table ts) (shown_params table ps)
arguments_shown table ps [] h = absurd (omega arith)
arguments_shown table ps (t ∷ ts) h =
    ap in_brackets (texts_shown (map (λ (p : TParam). p.name) ps) table (t ∷ ts))
    ∙ ap (λ (ns : List (List ℕ)). in_brackets (map (type_text ns) (trees table (t ∷ ts))))
    (names_shown table ps)

abbrev pub method_shown : Table → MethodFace → MethodTree
method_shown table m = record { name = m.name; pos = m.pos; pointer = m.pointer; sig = tree table m.sig }

pub lines_more : (names : List (List ℕ)) (table : Table) (ms : List MethodFace) (i : ℕ)
    (d : MethodFace) → i < length ms
    → flat_map (method_line names) (shown_methods table (take (i + 1) ms))
    ≡ flat_map (method_line names) (shown_methods table (take i ms))
    ++ method_line names (method_shown table (get_or ms i d))
lines_more names table ms i d h =
    let f = method_line names in
    ap (λ (ns : List MethodFace). flat_map f (shown_methods table ns)) (take_more ms i d h)
    ∙ ap (λ (ts : List MethodTree). flat_map f ts)
    (map-append (method_shown table) (take i ms) (get_or ms i d ∷ []))
    ∙ flat_map-append f (shown_methods table (take i ms)) (method_shown table (get_or ms i d) ∷ [])
    ∙ ap (λ (t : List ℕ). flat_map f (shown_methods table (take i ms)) ++ t)
    (flat_map-cons f (method_shown table (get_or ms i d)) []
    ∙ append_nil (f (method_shown table (get_or ms i d))))
