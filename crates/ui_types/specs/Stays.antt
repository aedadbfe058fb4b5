-- Declarations in a table that grows.
use Rattle.std.specs.Prelude.{◌≡◌, List, [], ◌∷◌, refl, All, Option, Some, None}
use Rattle.std.proofs.Common.{ap, ◌∙◌}
use Rattle.std.proofs.lemmas.List.Elements.{All-head, All-tail, All-weaker}
use Rattle.ui_base.specs.declared.name.Name.{Name}
use Rattle.ui_types.specs.declared.decl.TParam.{TParam}
use Rattle.ui_types.specs.declared.decl.MethodFace.{MethodFace}
use Rattle.ui_types.specs.declared.decl.Face.{Face}
use Rattle.ui_types.specs.declared.decl.Face.TheVariants.{Alias, Const, Var, Func, Defined}
use Rattle.ui_types.specs.declared.decl.Decl.{Decl}
use Rattle.ui_types.specs.Ty.{Ty}
use Rattle.ui_types.specs.Table.{Table, IsId, Grows}
use Rattle.ui_types.specs.Decls.{FaceTree, DeclTree, alias, constant, variable, function, defined, IsFace, IsDecl, shown_params, shown_methods, shown_face, shown_decl, shown_decls, AreDecls, IsAnswer}
use Rattle.ui_types.specs.Trees.{IsId-grows, All_by-grows}

shown_params-grows : {t u : Table} (ps : List TParam) → Grows t u → All (λ p. IsId t p.bound) ps → shown_params u ps ≡ shown_params t ps
shown_params-grows [] g h = refl
shown_params-grows {t} {u} (p ∷ ps) g h =
    λ i. (record { name = p.name; bound = g.keeps p.bound (All-head (λ (q : TParam). IsId t q.bound) p ps h) i }) ∷ shown_params-grows ps g (All-tail (λ (q : TParam). IsId t q.bound) p ps h) i

shown_methods-grows : {t u : Table} (ms : List MethodFace) → Grows t u → All (λ m. IsId t m.sig) ms → shown_methods u ms ≡ shown_methods t ms
shown_methods-grows [] g h = refl
shown_methods-grows {t} {u} (m ∷ ms) g h =
    λ i. (record { name = m.name; pos = m.pos; pointer = m.pointer; sig = g.keeps m.sig (All-head (λ (n : MethodFace). IsId t n.sig) m ms h) i }) ∷ shown_methods-grows ms g (All-tail (λ (n : MethodFace). IsId t n.sig) m ms h) i

IsFace-grows : {t u : Table} (f : Face) → Grows t u → IsFace t f → IsFace u f
IsFace-grows (Alias i) g h = IsId-grows i g h
IsFace-grows (Const i v) g h = IsId-grows i g h
IsFace-grows (Var i) g h = IsId-grows i g h
IsFace-grows (Func ps i) g h = (All_by-grows (λ (p : TParam). p.bound) ps g h.0, IsId-grows i g h.1)
IsFace-grows (Defined ps i ms) g h = (All_by-grows (λ (p : TParam). p.bound) ps g h.0, IsId-grows i g h.1, All_by-grows (λ (m : MethodFace). m.sig) ms g h.2)

shown_face-grows : {t u : Table} (f : Face) → Grows t u → IsFace t f → shown_face u f ≡ shown_face t f
shown_face-grows (Alias i) g h = ap alias (g.keeps i h)
shown_face-grows (Const i v) g h = ap (λ (ty : Ty). constant ty v) (g.keeps i h)
shown_face-grows (Var i) g h = ap variable (g.keeps i h)
shown_face-grows (Func ps i) g h = λ a. function (shown_params-grows ps g h.0 a) (g.keeps i h.1 a)
shown_face-grows (Defined ps i ms) g h = λ a. defined (shown_params-grows ps g h.0 a) (g.keeps i h.1 a) (shown_methods-grows ms g h.2 a)

pub IsDecl-grows : {t u : Table} (d : Decl) → Grows t u → IsDecl t d → IsDecl u d
IsDecl-grows d g h = IsFace-grows d.face g h

pub shown_decl-grows : {t u : Table} (d : Decl) → Grows t u → IsDecl t d → shown_decl u d ≡ shown_decl t d
shown_decl-grows d g h = ap (λ (f : FaceTree). let x : DeclTree = record { pos = d.pos; face = f } in x) (shown_face-grows d.face g h)

pub IsAnswer-grows : {t u : Table} {d : Option DeclTree} (o : Option Decl) → Grows t u → IsAnswer t d o → IsAnswer u d o
IsAnswer-grows None g h = record { valid = tt; value = h.value }
IsAnswer-grows (Some x) g h = record {
  valid = IsDecl-grows x g h.valid;
  value = ap (λ (e : DeclTree). let o : Option DeclTree = Some e in o) (shown_decl-grows x g h.valid) ∙ h.value;
}

shown_decls-grows : {t u : Table} (ds : List (Name × Decl)) → Grows t u → AreDecls t ds → shown_decls u ds ≡ shown_decls t ds
shown_decls-grows [] g h = refl
shown_decls-grows {t} {u} (d ∷ ds) g h =
    λ i. (d.0, shown_decl-grows d.1 g (All-head (λ (x : Name × Decl). IsDecl t x.1) d ds h) i) ∷ shown_decls-grows ds g (All-tail (λ (x : Name × Decl). IsDecl t x.1) d ds h) i

pub decls_stay : (t u : Table) (ds : List (Name × Decl)) → Grows t u → AreDecls t ds → AreDecls u ds × (shown_decls u ds ≡ shown_decls t ds)
decls_stay t u ds g h =
    (All-weaker (λ (d : Name × Decl). IsDecl t d.1) (λ (d : Name × Decl). IsDecl u d.1) (λ d k. IsDecl-grows d.1 g k) ds h, shown_decls-grows ds g h)

-- declarations that are kept while the table grows
pub ruleset staying = (IsDecl-grows, shown_decl-grows, IsAnswer-grows)
