-- What is read as the private root is a list of packages below.
use Rattle.std.proofs.Common.{◌≡◌, ℕ, zero, suc, Bool, true, false, cond, List, [], ◌∷◌, map, length, option_map, Option, Some, None, Result, Ok, Err, refl, sym, ap, ◌∙◌, subst, get_or}
use Rattle.std.specs.Prelude.{slice_get}
use Rattle.std.specs.Option.{option_and_then}
use Rattle.std.proofs.lemmas.Bool.{eqb-true}
use Rattle.std.specs.List.{AllByRecursion}
use Rattle.std.specs.List.Sorted.{IsStrictlySortedBy}
use Rattle.std.specs.Ordering.{nat_cmp, is_lt}
use Rattle.std.specs.declared.cmp.Ordering.{Ordering}
use Rattle.std.specs.declared.cmp.Ordering.TheVariants.{Less, Equal, Greater}
use Rattle.std.specs.Cmp.Lexicographic.{slice_cmp, nat_list_cmp_total}
use Rattle.ui_base.specs.Paths.{is_path}
use Rattle.ui_frame.specs.Container.{Parts, section}
use Rattle.ui_frame.specs.declared.section.Section.{Section}
use Rattle.ui_frame.specs.declared.section.Section.TheVariants.{Str, Meta}
use Rattle.ui_frame.specs.Laws.{bind_ok, ok_is}
use Rattle.ui_frame.specs.Reading.{◌>>=◌, uint_at}
use Rattle.ui_strpos.specs.declared.fault.Cause.{Cause}
use Rattle.ui_strpos.specs.declared.fault.Cause.TheVariants.{BadText, WrongCount, BadSection, BadIndex}
use Rattle.ui_strpos.specs.Items.{target}
use Rattle.ui_strpos.specs.Reading.{Context, State, Fault, below, added, count_of, entry_in, entries_in, table_in, start_in, fresh, uint_in, with_table, finish_in, text_of}
use Rattle.ui_strpos.specs.Bytes.{field_ok}
use Rattle.ui_strpos.specs.Format.{Format, Lawful, element_in, whole_in, fits_by}
use Rattle.ui_eobj.specs.Roots.{below_entry, is_before, is_print, private_root}
use Rattle.ui_eobj.specs.ObjectLaws.{private_root_lawful}
use Rattle.ui_eobj.specs.declared.root.BelowEl.{BelowEl}
use Rattle.ui_eobj.specs.declared.root.PrivateRootEl.{PrivateRootEl}
use Rattle.ui_exports.specs.Linked.{Below, Linked}
use Rattle.ui_consts.specs.Record.{below_by, over}
use Rattle.ui_consts.specs.Reading.{read_of, element, below_in, export_in, record_in}
use Rattle.ui_consts.specs.Size.{IsBelow, IsListed}

-- ---- what is read fits, over what it was read over

uint_keeps : (s : State) (x : ℕ × State) → uint_in s ≡ Ok x → x.1.context ≡ s.context
uint_keeps s x e = let a = field_ok s (uint_at s.rest) x.0 x.1 e in ap (λ (t : State). t.context) a.2

entry_keeps : (s t : State) → entry_in s ≡ Ok t → t.context ≡ s.context
unfolding entry_in
entry_keeps s t e =
    let a = bind_ok (uint_in s) _ t e in
    let b = bind_ok (below 10 s.place BadSection a.0.0) _ t a.2 in
    let c = bind_ok (uint_in a.0.1) _ t b.2 in
    let d = bind_ok (below (count_of s.context a.0.0) a.0.1.place BadIndex c.0.0) _ t c.2 in
    let f = bind_ok (added s.table s.place (target a.0.0 c.0.0)) _ t d.2 in
    let same = ok_is {F = Fault} (with_table c.0.1 f.0) t f.2 in
    sym (ap (λ (u : State). u.context) same) ∙ uint_keeps a.0.1 c.0 c.1 ∙ uint_keeps s a.0 a.1

entries_keep : (n : ℕ) (s t : State) → entries_in n s ≡ Ok t → t.context ≡ s.context
unfolding entries_in
entries_keep zero s t e = ap (λ (u : State). u.context) (sym (ok_is {F = Fault} s t e))
entries_keep (suc n) s t e =
    let a = bind_ok (entry_in s) (entries_in n) t e in
    entries_keep n a.0 t a.2 ∙ entry_keeps s a.0 a.1

start_keeps : (c : Context) (bytes : List ℕ) (s : State) → start_in c bytes ≡ Ok s → s.context ≡ c
unfolding table_in
start_keeps c bytes s e =
    let a = bind_ok (uint_in (fresh c bytes)) (λ n. entries_in n.0 n.1) s e in
    entries_keep a.0.0 a.0.1 s a.2 ∙ uint_keeps (fresh c bytes) a.0 a.1

-- an element that was read fits
read_fits : {A : Type 0} (f : Format A) (c : Context) (bytes : List ℕ) (a : A) → Lawful f → element_in f c bytes ≡ Ok a → f.fits c a
read_fits {A = A} f c bytes a law e =
    let p = bind_ok (start_in c bytes) (λ s. whole_in f s >>= λ x. Ok x.0) a e in
    let q = bind_ok (whole_in f p.0) (λ x. Ok x.0) a p.2 in
    let r = bind_ok (f.read p.0) (λ x. finish_in x.1 >>= λ _. Ok x) q.0 q.1 in
    let z = bind_ok (finish_in r.0.1) (λ _. Ok r.0) q.0 r.2 in
    let value : r.0.0 ≡ a = ap (λ (x : A × State). x.0) (ok_is {F = Fault} r.0 q.0 z.2) ∙ ok_is {F = Fault} q.0.0 a q.2 in
    subst (λ (x : A). f.fits c x) value (subst (λ (d : Context). f.fits d r.0.0) (start_keeps c bytes p.0 p.1) (law.takes p.0 r.0 r.1).1)

read_is : {A : Type 0} (r : Result A Fault) (a : A) → read_of r ≡ Some a → r ≡ Ok a
read_is {A = A} (Ok b) a e = ap (λ (x : A). Ok x) (some_is b a e)
  where
    some_is : (x y : A) → Some x ≡ Some y → x ≡ y
    some_is x y h = cc
read_is (Err d) a e = absurd cc

chain : {X Y : Type 0} (o : Option X) (f : X → Option Y) (y : Y) → option_and_then f o ≡ Some y → (x : X) × (o ≡ Some x) × (f x ≡ Some y)
chain None f y e = absurd cc
chain (Some x) f y e = (x, refl, e)

mapped : {X Y : Type 0} (o : Option X) (f : X → Y) (y : Y) → option_map f o ≡ Some y → (x : X) × (o ≡ Some x) × (f x ≡ y)
mapped None f y e = absurd cc
mapped (Some x) f y e = (x, refl, (cc))

element_fits : {A : Type 0} (f : Format A) (parts : Parts) (s : Section) (k : ℕ) (a : A) → Lawful f → element f parts s k ≡ Some a → f.fits (over parts) a
unfolding element
element_fits f parts s k a law e =
    let p = chain (slice_get (section s parts) k) (λ bytes. read_of (element_in f (over parts) bytes)) a e in
    read_fits f (over parts) p.0 a law (read_is (element_in f (over parts) p.0) a p.2)

-- ---- a list that ascends
-- the texts of an entry, and that it comes after the one before it
record IsNext (c : Context) (before : Option BelowEl) (b : BelowEl) : Type 0 where
  path : is_path (text_of c b.path) ≡ true
  print : length (text_of c b.print) ≡ 8
  after : (a : BelowEl) → before ≡ Some a → slice_cmp nat_cmp (text_of c a.path) (text_of c b.path) ≡ Less

passes : (b : Bool) (d : Cause) → cond b None (Some d) ≡ None → b ≡ true
passes true d e = refl
passes false d e = absurd cc

passes_both : (a b : Bool) (d e : Cause) → cond a (cond b None (Some d)) (Some e) ≡ None → (a ≡ true) × (b ≡ true)
passes_both true true d e h = (refl, refl)
passes_both true false d e h = absurd cc
passes_both false b d e h = absurd cc

comes_before : (o : Ordering) → is_lt o ≡ true → o ≡ Less
comes_before Less e = refl
comes_before Equal e = absurd cc
comes_before Greater e = absurd cc

some_is : (x y : BelowEl) → Some x ≡ Some y → x ≡ y
some_is x y h = cc

no_some : (a : BelowEl) → ◌≡◌ {A = Option BelowEl} None (Some a) → ⊥
no_some a e = cc

next-is : (c : Context) (before : Option BelowEl) (b : BelowEl) → (below_entry before).fits c b → IsNext c before b
next-is c None b fits = record {
  path = passes (is_path (text_of c b.path)) BadText fits.0;
  print = eqb-true (length (text_of c b.print)) 8 (passes (is_print (text_of c b.print)) BadText fits.1.0);
  after = λ a e. absurd (no_some a e);
}
next-is c (Some a) b fits =
    let path = passes_both (is_path (text_of c b.path)) (is_before (text_of c a.path) (text_of c b.path)) WrongCount BadText fits.0 in
    let less = comes_before (slice_cmp nat_cmp (text_of c a.path) (text_of c b.path)) path.1 in record {
      path = path.0;
      print = eqb-true (length (text_of c b.print)) 8 (passes (is_print (text_of c b.print)) BadText fits.1.0);
      after = λ d e. subst (λ (x : BelowEl). slice_cmp nat_cmp (text_of c x.path) (text_of c b.path) ≡ Less) (some_is a d e) less;
    }

-- the paths of a list of entries
abbrev paths : Context → List BelowEl → List (List ℕ)
paths c bs = map (λ b. text_of c b.path) bs

abbrev ByPath : List ℕ → List ℕ → Type 0
ByPath p q = slice_cmp nat_cmp p q ≡ Less

later : (p q : List ℕ) (rest : List (List ℕ)) → ByPath p q → AllByRecursion (ByPath q) rest → AllByRecursion (ByPath p) rest
later p q [] h all = tt
later p q (r ∷ rest) h all = (nat_list_cmp_total.trans p q r h all.0, later p q rest h all.1)

ascends : (c : Context) (before : BelowEl) (bs : List BelowEl) → fits_by below_entry c (Some before) bs → AllByRecursion (ByPath (text_of c before.path)) (paths c bs) × IsStrictlySortedBy (slice_cmp nat_cmp) (paths c bs)
unfolding IsStrictlySortedBy
ascends c before [] fits = (tt, tt)
ascends c before (b ∷ bs) fits =
    let first = next-is c (Some before) b fits.0 in
    let rest = ascends c b bs fits.1 in
    ((first.after before refl, later (text_of c before.path) (text_of c b.path) (paths c bs) (first.after before refl) rest.0), rest)

sorted : (c : Context) (bs : List BelowEl) → fits_by below_entry c None bs → IsStrictlySortedBy (slice_cmp nat_cmp) (paths c bs)
unfolding IsStrictlySortedBy
sorted c [] fits = tt
sorted c (b ∷ bs) fits = ascends c b bs fits.1

each : (c : Context) (before : Option BelowEl) (bs : List BelowEl) → fits_by below_entry c before bs → AllByRecursion IsBelow (map (below_by c.texts) bs)
each c before [] fits = tt
each c before (b ∷ bs) fits = (let first = next-is c before b fits.0 in record { path = first.path; print = first.print }, each c (Some b) bs fits.1)

paths_of : (strings : List (List ℕ)) (bs : List BelowEl) → map (λ (b : Below). b.path) (map (below_by strings) bs) ≡ map (λ (b : BelowEl). get_or strings b.path []) bs
paths_of strings [] = refl
paths_of strings (b ∷ bs) = ap (λ (ps : List (List ℕ)). get_or strings b.path [] ∷ ps) (paths_of strings bs)

pub listed : (parts : Parts) (l : Linked) → record_in parts ≡ Some l → IsListed l.below
unfolding record_in below_in
listed parts l e =
    let c : Context = over parts in
    let p = chain (export_in parts) (λ e. option_map (λ bs. record { export = e; below = bs }) (below_in parts)) l e in
    let q = mapped (below_in parts) (λ bs. record { export = p.0; below = bs }) l p.2 in
    let r = mapped (element private_root parts Meta 1) (λ (x : PrivateRootEl). map (below_by (section Str parts)) x.below) q.0 q.1 in
    let fits = element_fits private_root parts Meta 1 r.0 private_root_lawful r.1 in
    let same : map (below_by (section Str parts)) r.0.below ≡ l.below = r.2 ∙ ap (λ (x : Linked). x.below) q.2 in
    subst IsListed same (record {
      each = each c None r.0.below fits;
      ascending = subst (IsStrictlySortedBy (slice_cmp nat_cmp)) (sym (paths_of (section Str parts) r.0.below)) (sorted c r.0.below fits);
    })
