-- The texts of a node's parts, by their ids.
use Rattle.std.proofs.Common.{◌≡◌, ℕ, zero, suc, ◌<◌, ◌≤◌, Bool, length, get_or, arith, List, [], ◌∷◌, ◌++◌, refl, ap}
use Rattle.std.specs.Prelude.{map, codes, if◌then◌else◌}
use Rattle.ui_base.specs.declared.name.Name.{Name}
use Rattle.ui_types.specs.declared.id.TypeId.{TypeId}
use Rattle.ui_types.specs.declared.decl.TParam.{TParam}
use Rattle.ui_types.specs.declared.part.Field.{Field}
use Rattle.ui_types.specs.declared.part.Method.{Method}
use Rattle.ui_types.specs.declared.part.Term.{Term}
use Rattle.ui_types.specs.declared.node.TypeNode.TheVariants.{Named, Func, Struct, Iface, Union}
use Rattle.ui_types.specs.Ty.{size, sizes}
use Rattle.ui_types.specs.Table.{Table, tree, parts, parts_by, shown}
use Rattle.ui_show.specs.Pieces.{selected, joined}
use Rattle.ui_show.specs.Types.{type_text, type_texts, sig_text, sig_texts, type_name, in_brackets, signature, fields, methods, terms, comparable}

-- the type of a part is smaller than those of all
pub part_smaller : {P : Type 0} (type_of : P → TypeId) (table : Table) (ps : List P) (i : ℕ) (d : P)
    → i < length ps → size (tree table (type_of (get_or ps i d))) ≤ sizes (parts_by type_of table ps)
part_smaller type_of table [] i d h = absurd (omega arith)
part_smaller type_of table (p ∷ ps) zero d h = omega arith
part_smaller type_of table (p ∷ ps) (suc i) d h =
    let rest = part_smaller type_of table ps i d (omega arith) in omega arith

module _ (names : List (List ℕ)) (table : Table) where
  abbrev pub text_at : TypeId → List ℕ
  text_at t = type_text names (tree table t)

  abbrev pub field_text : Field → List ℕ
  field_text f = selected f.name ++ codes " " ++ type_text names (tree table f.ty)

  abbrev pub method_text : Method → List ℕ
  method_text m = selected m.name ++ sig_text names (tree table m.sig)

  abbrev pub term_text : Term → List ℕ
  term_text t = (if t.tilde then codes "~" else []) ++ type_text names (tree table t.ty)

  -- a type parameter with its constraint
  abbrev pub bound_text : TParam → List ℕ
  bound_text p = p.name ++ codes " " ++ type_text names (tree table p.bound)

  texts_at : (ids : List TypeId) → type_texts names (parts table ids) ≡ map text_at ids
  texts_at [] = refl
  texts_at (t ∷ ts) = ap (λ (xs : List (List ℕ)). text_at t ∷ xs) (texts_at ts)

  fields_at : (fs : List Field)
      → fields (map (λ f. f.name) fs) (type_texts names (parts_by (λ f. f.ty) table fs))
      ≡ map field_text fs
  fields_at [] = refl
  fields_at (f ∷ fs) = ap (λ (xs : List (List ℕ)). field_text f ∷ xs) (fields_at fs)

  methods_at : (ms : List Method)
      → methods (map (λ m. m.name) ms) (sig_texts names (parts_by (λ m. m.sig) table ms))
      ≡ map method_text ms
  methods_at [] = refl
  methods_at (m ∷ ms) = ap (λ (xs : List (List ℕ)). method_text m ∷ xs) (methods_at ms)

  terms_at : (ts : List Term)
      → terms (map (λ t. t.tilde) ts) (type_texts names (parts_by (λ t. t.ty) table ts))
      ≡ map term_text ts
  terms_at [] = refl
  terms_at (t ∷ ts) = ap (λ (xs : List (List ℕ)). term_text t ∷ xs) (terms_at ts)

  pub named_text : (n : Name) (args : List TypeId)
      → type_text names (shown table (Named n args))
      ≡ type_name n ++ in_brackets (map text_at args)
  named_text n args =
      ap (λ (xs : List (List ℕ)). type_name n ++ in_brackets xs) (texts_at args)

  pub signature_text : (ps rs : List TypeId)
      → sig_text names (shown table (Func ps rs)) ≡ signature (map text_at ps) (map text_at rs)
  signature_text ps rs = λ i. signature (texts_at ps i) (texts_at rs i)

  pub func_text : (ps rs : List TypeId)
      → type_text names (shown table (Func ps rs))
      ≡ codes "func" ++ signature (map text_at ps) (map text_at rs)
  func_text ps rs = λ i. codes "func" ++ signature (texts_at ps i) (texts_at rs i)

  pub struct_text : (fs : List Field)
      → type_text names (shown table (Struct fs))
      ≡ codes "struct{" ++ joined (codes "; ") (map field_text fs) ++ codes "}"
  struct_text fs =
      ap (λ (xs : List (List ℕ)). codes "struct{" ++ joined (codes "; ") xs ++ codes "}")
      (fields_at fs)

  pub iface_text : (ms : List Method) (c : Bool) (us : List TypeId)
      → type_text names (shown table (Iface ms c us))
      ≡ codes "interface{"
      ++ joined (codes "; ") (map method_text ms ++ comparable c ++ map text_at us) ++ codes "}"
  iface_text ms c us = λ i.
      codes "interface{"
      ++ joined (codes "; ") (methods_at ms i ++ comparable c ++ texts_at us i) ++ codes "}"

  pub union_text : (ts : List Term)
      → type_text names (shown table (Union ts)) ≡ joined (codes " | ") (map term_text ts)
  union_text ts = ap (λ (xs : List (List ℕ)). joined (codes " | ") xs) (terms_at ts)
