-- Sections of which a rule asks something, and those of which it asks nothing.
use Rattle.std.specs.Prelude.{◌≡◌, ℕ, List, suc, length, Option}
use Rattle.std.proofs.Common.{refl, sym, subst}
use Rattle.ui_frame.specs.declared.section.Section.{Section}
use Rattle.ui_frame.specs.declared.section.Section.TheVariants.{Str, Meta, PosBase, Pkg, Name}
use Rattle.ui_frame.specs.declared.section.Section.TheVariants.{Types, Obj, ObjExt, ObjDict, Body}
use Rattle.ui_file.specs.Rules.{KeepsDerived, KeepsIndex, KeepsCount, KeepsUnder, KeepsLimit}
use Rattle.ui_file.specs.Rules.{KeepsStub, KeepsPath}
use Rattle.ui_file.specs.declared.file.File.{File}
use Rattle.ui_file.specs.declared.kind.FileKind.{FileKind}
use Rattle.ui_file_rules.specs.First.{FirstOf}

-- what is said of a section by its name
pub at_section : (keeps : Section → ℕ → Type 0) (count : Section → ℕ) (s t : Section)
    (o : Option ℕ) → s ≡ t
    → FirstOf (keeps t) (count t) o → FirstOf (keeps s) (count s) o
at_section keeps count s t o e h = subst (λ (u : Section). FirstOf (keeps u) (count u) o) (sym e) h

-- what is said of a list that is another's items
pub over_list : {X : Type 0} (P : List X → ℕ → Type 0) (xs ys : List X) (n : ℕ) (o : Option ℕ)
    → xs ≡ ys
    → n ≡ length xs → FirstOf (P xs) n o → FirstOf (P ys) (length ys) o
over_list P xs ys n o e many h =
    subst (λ (zs : List _). FirstOf (P zs) (length zs) o) e
    (subst (λ (m : ℕ). FirstOf (P xs) m o) many h)

pub free_derived : (x : File) (s : Section) → (s ≡ Types → ⊥) → (k : ℕ) → KeepsDerived x s k
free_derived x Str n0 k = tt
free_derived x Meta n0 k = tt
free_derived x PosBase n0 k = tt
free_derived x Pkg n0 k = tt
free_derived x Name n0 k = tt
free_derived x Types n0 k = absurd (n0 refl)
free_derived x Obj n0 k = tt
free_derived x ObjExt n0 k = tt
free_derived x ObjDict n0 k = tt
free_derived x Body n0 k = tt

pub free_index : (x : File) (s : Section) → (s ≡ Obj → ⊥) → (k : ℕ) → KeepsIndex x s k
free_index x Str n0 k = tt
free_index x Meta n0 k = tt
free_index x PosBase n0 k = tt
free_index x Pkg n0 k = tt
free_index x Name n0 k = tt
free_index x Types n0 k = tt
free_index x Obj n0 k = absurd (n0 refl)
free_index x ObjExt n0 k = tt
free_index x ObjDict n0 k = tt
free_index x Body n0 k = tt

pub free_count : (x : File) (s : Section) → (s ≡ Meta → ⊥) → (s ≡ Types → ⊥) → (s ≡ Obj → ⊥)
    → (k : ℕ) → KeepsCount x s k
free_count x Str n0 n1 n2 k = tt
free_count x Meta n0 n1 n2 k = absurd (n0 refl)
free_count x PosBase n0 n1 n2 k = tt
free_count x Pkg n0 n1 n2 k = tt
free_count x Name n0 n1 n2 k = tt
free_count x Types n0 n1 n2 k = absurd (n1 refl)
free_count x Obj n0 n1 n2 k = absurd (n2 refl)
free_count x ObjExt n0 n1 n2 k = tt
free_count x ObjDict n0 n1 n2 k = tt
free_count x Body n0 n1 n2 k = tt

pub free_under : (x : File) (s : Section) → (s ≡ Types → ⊥) → (s ≡ Obj → ⊥) → (k : ℕ)
    → KeepsUnder x s k
free_under x Str n0 n1 k = tt
free_under x Meta n0 n1 k = tt
free_under x PosBase n0 n1 k = tt
free_under x Pkg n0 n1 k = tt
free_under x Name n0 n1 k = tt
free_under x Types n0 n1 k = absurd (n0 refl)
free_under x Obj n0 n1 k = absurd (n1 refl)
free_under x ObjExt n0 n1 k = tt
free_under x ObjDict n0 n1 k = tt
free_under x Body n0 n1 k = tt

pub free_limit : (x : File) (s : Section) → (s ≡ Types → ⊥) → (k : ℕ) → KeepsLimit x s k
free_limit x Str n0 k = tt
free_limit x Meta n0 k = tt
free_limit x PosBase n0 k = tt
free_limit x Pkg n0 k = tt
free_limit x Name n0 k = tt
free_limit x Types n0 k = absurd (n0 refl)
free_limit x Obj n0 k = tt
free_limit x ObjExt n0 k = tt
free_limit x ObjDict n0 k = tt
free_limit x Body n0 k = tt

pub free_stub : (kind : FileKind) (x : File) (s : Section) → (s ≡ Name → ⊥) → (k : ℕ)
    → KeepsStub kind x s k
free_stub kind x Str n0 k = tt
free_stub kind x Meta n0 k = tt
free_stub kind x PosBase n0 k = tt
free_stub kind x Pkg n0 k = tt
free_stub kind x Name n0 k = absurd (n0 refl)
free_stub kind x Types n0 k = tt
free_stub kind x Obj n0 k = tt
free_stub kind x ObjExt n0 k = tt
free_stub kind x ObjDict n0 k = tt
free_stub kind x Body n0 k = tt

pub free_path : (path : List ℕ) (x : File) (s : Section) → (s ≡ Meta → ⊥) → (k : ℕ)
    → KeepsPath path x s k
free_path path x Str n k = tt
free_path path x Meta n k = absurd (n refl)
free_path path x PosBase n k = tt
free_path path x Pkg n k = tt
free_path path x Name n k = tt
free_path path x Types n k = tt
free_path path x Obj n k = tt
free_path path x ObjExt n k = tt
free_path path x ObjDict n k = tt
free_path path x Body n k = tt

-- behind the first root
pub later_path : (path : List ℕ) (x : File) (k : ℕ) → KeepsPath path x Meta (suc k)
later_path path x k = tt
