-- The methods that a site has, from one of them on.
use Rattle.std.proofs.Common.{◌≡◌, ℕ, suc, ◌+◌, ◌<◌, List, [], ◌∷◌, length, drop, get_or, refl, ap}
use Rattle.std.proofs.Common.{sym, subst, zero, ◌∙◌, arith, add-one}
use Rattle.std.specs.Prelude.{map, All, Ok}
use Rattle.std.proofs.Math.Seq.{drop-cons}
use Rattle.std.proofs.lemmas.List.Elements.{All-head, All-tail}
use Rattle.std.specs.Prelude.{◌==◌, false}
use Rattle.ui_types.specs.Ty.{Ty, Tys}
use Rattle.ui_types.specs.Decls.{DeclTrees}
use Rattle.ui_types.specs.Trees.{parts_by-grows}
use Rattle.ui_sets.specs.Sites.{SiteTree, site}
use Rattle.ui_sets.specs.Methods.{methods_fit, some_fit}
use Rattle.ui_types.specs.declared.part.Method.{Method}
use Rattle.ui_types.specs.Table.{Table, IsId, Grows, tree, parts_by}
use Rattle.ui_sets.specs.declared.site.Site.{Site}
use Rattle.ui_sets.specs.Needed.{Needs, ◌>>=◌}
use Rattle.ui_sets.specs.Methods.{finds, or_lacks, has_methods}
use Rattle.ui_sets.specs.Reading.{IsSite, shown_site, shown_site-grows}

-- the methods of a list from a place on
abbrev pub lacking_from : Table → Site → List Method → Needs (Unit {0})
lacking_from t s ms = has_methods (shown_site t s) (map (λ m. m.name) ms)
    (parts_by (λ m. m.sig) t ms)

dropped : (ms : List Method) (i : ℕ) (m : Method) → i < length ms → m ≡ get_or ms i m → drop i ms
    ≡ m ∷ drop (i + 1) ms
dropped ms i m lt e = rw (drop-cons ms i m lt, add-one i, sym e) refl

sig_at : (t : Table) (ms : List Method) (i : ℕ) (m : Method) → All (λ x. IsId t x.sig) ms
    → i < length ms → m ≡ get_or ms i m → IsId t m.sig
sig_at t [] i m k lt e = absurd (omega arith)
sig_at t (x ∷ xs) zero m k lt e = subst (λ (y : Method). IsId t y.sig) (sym e)
    (All-head (λ (y : Method). IsId t y.sig) x xs k)
sig_at t (x ∷ xs) (suc i) m k lt e = sig_at t xs i m (All-tail (λ (y : Method). IsId t y.sig) x xs
    k) (omega arith) e

pub lacking_at : {t u : Table} (s : Site) (ms : List Method) (i : ℕ) (m : Method) → Grows t u
    → IsSite t s → All (λ x. IsId t x.sig) ms → i < length ms → m ≡ get_or ms i m
    → lacking_from t s (drop i ms) ≡ (finds (shown_site u s) m.name (tree u m.sig)
    >>= or_lacks m.name (lacking_from t s (drop (i + 1) ms)))
lacking_at {t} {u} s ms i m g h k lt e =
    let d : drop i ms ≡ m ∷ drop (i + 1) ms = dropped ms i m lt e in
    ap (λ (xs : List Method). lacking_from t s xs) d
    ∙ (λ j. finds (sym (shown_site-grows s g h) j) m.name
    (sym (g.keeps m.sig (sig_at t ms i m k lt e)) j)
    >>= or_lacks m.name (lacking_from t s (drop (i + 1) ms)))

-- where there is a method
pub fit_some : (ds : DeclTrees) (bounds : List Ty) (t : Ty) (ms : List Method) (sigs : Tys)
    → (length ms == 0) ≡ false
    → methods_fit ds bounds t (map (λ m. m.name) ms) sigs
    ≡ some_fit ds bounds t (map (λ m. m.name) ms) sigs
fit_some ds bounds t [] sigs e = cc
fit_some ds bounds t (m ∷ ms) sigs e = refl

-- the methods in the table that has grown
pub some_at : (ds : DeclTrees) (bounds : List Ty) (t : Ty) (old new : Table) (s : Site)
    (ms : List Method) → Grows old new → All (λ m. IsId old m.sig) ms → site ds bounds t
    ≡ Ok (shown_site new s)
    → some_fit ds bounds t (map (λ m. m.name) ms) (parts_by (λ m. m.sig) old ms)
    ≡ lacking_from new s ms
some_at ds bounds t old new s ms g h e =
    ap (λ (r : Needs SiteTree). r >>= λ x. has_methods x (map (λ m. m.name) ms)
    (parts_by (λ m. m.sig) old ms)) e
    ∙ ap (λ (ts : Tys). has_methods (shown_site new s) (map (λ m. m.name) ms) ts)
    (sym (parts_by-grows (λ (m : Method). m.sig) ms g h))
