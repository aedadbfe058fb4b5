-- What is in memory, read in a table.
use Rattle.std.specs.Prelude.{◌≡◌, List, All, Option, Some, None, IfSome, option_map, refl}
use Rattle.std.specs.Prelude.{[], ◌∷◌}
use Rattle.std.proofs.Common.{ap}
use Rattle.std.proofs.lemmas.List.Elements.{All-head, All-tail}
use Rattle.ui_types.specs.declared.id.TypeId.{TypeId}
use Rattle.ui_types.specs.Ty.{Ty}
use Rattle.ui_types.specs.Table.{Table, IsId, AreIds, Grows, tree, trees}
use Rattle.ui_types.specs.Trees.{IsId-grows, AreIds-grows, trees-grows, All_by-grows}
use Rattle.ui_types.specs.Decls.{MethodTree, shown_methods}
use Rattle.ui_types.specs.declared.decl.MethodFace.{MethodFace}
use Rattle.ui_sets.specs.declared.site.Site.{Site}
use Rattle.ui_sets.specs.declared.site.Found.{Found}
use Rattle.ui_sets.specs.declared.site.Found.TheVariants.{Field, Method}
use Rattle.ui_sets.specs.Sites.{SiteTree, FoundTree, field, method}

pub record IsSite (table : Table) (s : Site) : Type 0 where
  pub shape : IfSome s.shape (IsId table)
  pub methods : All (λ m. IsId table m.sig) s.methods
  pub args : AreIds table s.args

abbrev pub shown_site : Table → Site → SiteTree
shown_site table s = record {
  shape = option_map (tree table) s.shape;
  methods = shown_methods table s.methods;
  args = trees table s.args;
  through = s.through;
}

abbrev pub IsFound : Table → Found → Type 0
IsFound table (Field k t through) = IsId table t
IsFound table (Method m through) = IsId table m.sig

abbrev pub shown_method : Table → MethodFace → MethodTree
shown_method table m = record {
  name = m.name;
  pos = m.pos;
  pointer = m.pointer;
  sig = tree table
      m.sig;
}

abbrev pub shown_found : Table → Found → FoundTree
shown_found table (Field k t through) = field k (tree table t) through
shown_found table (Method m through) = method (shown_method table m) through

-- ---- in a table that grows
IfSome-grows : {t u : Table} (o : Option TypeId) → Grows t u → IfSome o (IsId t) → IfSome o (IsId u)
IfSome-grows None g h = tt
IfSome-grows (Some id) g h = IsId-grows id g h

option-grows : {t u : Table} (o : Option TypeId) → Grows t u → IfSome o (IsId t)
    → option_map (tree u) o ≡ option_map (tree t) o
option-grows None g h = refl
option-grows (Some id) g h = ap (λ (x : Ty). let o : Option Ty = Some x in o) (g.keeps id h)

methods-grows : {t u : Table} (ms : List MethodFace) → Grows t u → All (λ m. IsId t m.sig) ms
    → shown_methods u ms ≡ shown_methods t ms
methods-grows [] g h = refl
methods-grows {t} {u} (m ∷ ms) g h =
    λ i. (record {
      name = m.name;
      pos = m.pos;
      pointer = m.pointer;
      sig = g.keeps m.sig
          (All-head (λ (n : MethodFace). IsId t n.sig) m ms h) i;
    }) ∷ methods-grows ms g
    (All-tail (λ (n : MethodFace). IsId t n.sig) m ms h) i

pub IsSite-grows : {t u : Table} (s : Site) → Grows t u → IsSite t s → IsSite u s
IsSite-grows s g h = record {
  shape = IfSome-grows s.shape g h.shape;
  methods = All_by-grows (λ (m : MethodFace). m.sig) s.methods g h.methods;
  args = AreIds-grows s.args g h.args;
}

pub shown_site-grows : {t u : Table} (s : Site) → Grows t u → IsSite t s → shown_site u s
    ≡ shown_site t s
shown_site-grows s g h = λ i. record {
  shape = option-grows s.shape g h.shape i;
  methods = methods-grows s.methods g h.methods i;
  args = trees-grows s.args g h.args i;
  through = s.through;
}

pub ruleset sites_grow = (IsSite-grows, shown_site-grows)
