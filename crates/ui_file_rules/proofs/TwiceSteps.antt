use Rattle.std.proofs.Common.{◌≡◌, ℕ, List, [], length, refl, sym, ap, subst, Option, Result, Ok, Err}
use Rattle.std.specs.Prelude.{IfOk}
use Rattle.std.proofs.lemmas.List.{length-map}
use Rattle.ui_frame.specs.declared.section.Section.{Section}
use Rattle.ui_frame.specs.declared.section.Section.TheVariants.{Str, PosBase, Pkg, Name, Types}
use Rattle.ui_file.specs.Words.{Words, words, nameless}
use Rattle.ui_file.specs.Rules.{IsNew, KeepsTwice, count_in, no_type}
use Rattle.ui_file.specs.declared.file.File.{File}
use Rattle.ui_file_rules.specs.First.{FirstOf}

-- the first that is like one before it in a list
abbrev pub Again : {X E : Type 0} → List X → Result (Option ℕ) E → Type 0
Again {X = X} xs r = IfOk r (λ o. (d : X) → FirstOf (IsNew xs d) (length xs) o)

again-of : {X E : Type 0} (xs ys : List X) (d : X) (n : ℕ) → xs ≡ ys → length ys ≡ n
    → (r : Result (Option ℕ) E) → Again xs r → IfOk r (FirstOf (λ k. IsNew ys d k) n)
again-of xs ys d n e len (Ok o) h = subst (λ (m : ℕ). FirstOf (λ k. IsNew ys d k) m o) len
    (subst (λ (zs : List _). FirstOf (λ k. IsNew zs d k) (length zs) o) e (h d))
again-of xs ys d n e len (Err z) h = h

module _ {E : Type 0} (x : File) (s : Section) (r : Result (Option ℕ) E) where
  abbrev Keeps : Section → Type 0
  Keeps t = IfOk r (FirstOf (λ k. KeepsTwice x t k) (count_in x t))

  pub texts-again : s ≡ Str → Again x.texts r → Keeps s
  texts-again e h = subst Keeps (sym e) (again-of x.texts x.texts [] (length x.texts) refl refl r h)

  pub types-again : s ≡ Types → Again x.types r → Keeps s
  types-again e h = subst Keeps (sym e)
      (again-of x.types x.types no_type (length x.types) refl refl r h)

  module _ (w : Words) (agree : w ≡ words x) where
    pub bases-again : s ≡ PosBase → Again w.files r → Keeps s
    bases-again e h = subst Keeps (sym e)
        (again-of w.files (words x).files [] (length x.bases) (ap (λ (v : Words). v.files) agree)
        (length-map x.bases _) r h)

    pub paths-again : s ≡ Pkg → Again w.paths r → Keeps s
    paths-again e h = subst Keeps (sym e)
        (again-of w.paths (words x).paths [] (length x.packages)
        (ap (λ (v : Words). v.paths) agree) (length-map x.packages _) r h)

    pub names-again : s ≡ Name → Again w.names r → Keeps s
    names-again e h = subst Keeps (sym e)
        (again-of w.names (words x).names nameless (length x.names)
        (ap (λ (v : Words). v.names) agree) (length-map x.names _) r h)
