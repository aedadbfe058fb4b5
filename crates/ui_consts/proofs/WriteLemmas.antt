-- Elements that are added to the parts of a file.
use Rattle.std.proofs.Common.{◌≡◌, ℕ, zero, suc, ◌+◌, ◌*◌, ◌^◌, ◌<◌, ◌≤◌, List, [], ◌∷◌, ◌++◌, map, take, length, get_or, set, refl, sym, ap, ◌∙◌, subst, arith, append_assoc, add-one, lit<, lit≤, replicate, min}
use Rattle.std.specs.List.{AllByRecursion, flat_map, range_with_len}
use Rattle.std.proofs.lemmas.List.{length-append, length-map, length-set, append-nil, set-get_or, take_more, map-append}
use Rattle.std.proofs.lemmas.List.Concat.{flat_map-append}
use Rattle.ui_frame.specs.Container.{Parts, IsContainer, contents, elements, joined, no_elements, section, with_element}
use Rattle.ui_frame.specs.Sections.{number_of}
use Rattle.ui_frame.specs.declared.section.Section.{Section}
use Rattle.ui_frame.specs.declared.section.Section.TheVariants.{Str, Meta, PosBase, Pkg, Name, Types, Obj, ObjExt, ObjDict, Body}
use Rattle.ui_strpos.specs.Format.{InGrammar, items_by}
use Rattle.ui_strpos.specs.Reading.{Context}
use Rattle.ui_strpos.specs.Elements.{name, pkg, posbase}
use Rattle.ui_strpos.specs.declared.name.NameEl.{NameEl}
use Rattle.ui_eobj.specs.declared.object.ConstEl.{ConstEl}
use Rattle.ui_eobj.specs.Roots.{object_use, below_entry, public_root, private_root}
use Rattle.ui_eobj.specs.Objects.{constant}
use Rattle.ui_eobj.specs.declared.root.BelowEl.{BelowEl}
use Rattle.ui_eobj.specs.declared.root.ObjectUse.{ObjectUse}
use Rattle.ui_eobj.specs.declared.value.ValueEl.{ValueEl}
use Rattle.ui_eobj.specs.declared.value.ValueEl.TheVariants as value
use Rattle.std.specs.Prelude.{Option, Some}
use Rattle.ui_exports.specs.Linked.{Linked}
use Rattle.ui_consts.specs.Elements.{Elements, Entry, spelled, spelled_as, base_of, package_of, name_of, object_of, public_of, private_of, use_of, types_of, type_bytes, extension_bytes, dictionary_bytes}
use Rattle.ui_consts.specs.Record.{Holds}
use Rattle.ui_consts.specs.Numbering.{Numbers, elements_of, entry}
use Rattle.ui_consts.specs.Writing.{Adds, AddsAll, HasPlace, HasRoom, front, middle, with_elements}
use Rattle.ui_consts.specs.declared.numbered.Numbered.{Numbered}
use Rattle.ui_consts.specs.declared.numbered.Entry as rust
use Rattle.ui_consts.proofs.SpellingSizes.{length-container}

number_of-lt : (s : Section) → number_of s < 10
number_of-lt Str = lit< tt
number_of-lt Meta = lit< tt
number_of-lt PosBase = lit< tt
number_of-lt Pkg = lit< tt
number_of-lt Name = lit< tt
number_of-lt Types = lit< tt
number_of-lt Obj = lit< tt
number_of-lt ObjExt = lit< tt
number_of-lt ObjDict = lit< tt
number_of-lt Body = lit< tt

-- ---- the numbers of elements and bytes

length-joined-append : {X : Type 0} (xs ys : List (List X)) → length (joined (xs ++ ys)) ≡ length (joined xs) + length (joined ys)
length-joined-append xs ys = ap length (flat_map-append (λ x. x) xs ys) ∙ length-append (joined xs) (joined ys)

length-joined-set : {X : Type 0} (xss : List (List X)) (k : ℕ) (ys : List X) → k < length xss → length (joined (set xss k (get_or xss k [] ++ ys))) ≡ length (joined xss) + length ys
length-joined-set [] k ys h = absurd (omega arith)
length-joined-set (xs ∷ xss) zero ys h = omega (arith, length-append (xs ++ ys) (joined xss), length-append xs ys, length-append xs (joined xss))
length-joined-set (xs ∷ xss) (suc k) ys h =
    let rest = length-joined-set xss k ys (omega arith) in
    omega (arith, length-append xs (joined (set xss k (get_or xss k [] ++ ys))), length-append xs (joined xss), rest)

length-contents-set : (xss : Parts) (k : ℕ) (ys : List (List ℕ)) → k < length xss → length (contents (set xss k (get_or xss k [] ++ ys))) ≡ length (contents xss) + length (joined ys)
length-contents-set [] k ys h = absurd (omega arith)
length-contents-set (xs ∷ xss) zero ys h = omega (arith, length-joined-append (xs ++ ys) (joined xss), length-joined-append xs ys, length-joined-append xs (joined xss))
length-contents-set (xs ∷ xss) (suc k) ys h =
    let rest = length-contents-set xss k ys (omega arith) in
    omega (arith, length-joined-append xs (joined (set xss k (get_or xss k [] ++ ys))), length-joined-append xs (joined xss), rest)

one_piece : (b : List ℕ) → length (joined (b ∷ [])) ≡ length b
one_piece b = ap length (append-nil b)

-- ---- one element, and more

pub Adds-one : (s : Section) (b : List ℕ) (old new : Parts) → length old ≡ 10 → new ≡ with_element s b old → Adds s (b ∷ []) (length b) old new
Adds-one s b old new ten is =
    let within : number_of s < length old = omega (arith, number_of-lt s) in
    let long : length (with_elements s (b ∷ []) old) ≡ length old = length-set old (number_of s) (section s old ++ b ∷ []) in
    let count : length (elements (with_elements s (b ∷ []) old)) ≡ length (elements old) + 1 = length-joined-set old (number_of s) (b ∷ []) within in
    let size : length (contents (with_elements s (b ∷ []) old)) ≡ length (contents old) + length (joined (b ∷ [])) = length-contents-set old (number_of s) (b ∷ []) within in
    record {
      parts = is;
      ten = omega (arith, ap length is);
      count = ap (λ (p : Parts). length (elements p)) is ∙ count;
      size = omega (arith, ap (λ (p : Parts). length (contents p)) is, one_piece b);
    }

set_again : (xss : Parts) (k : ℕ) (es fs : List (List ℕ)) → k < length xss → set (set xss k (get_or xss k [] ++ es)) k (get_or (set xss k (get_or xss k [] ++ es)) k [] ++ fs) ≡ set xss k (get_or xss k [] ++ (es ++ fs))
set_again [] k es fs h = absurd (omega arith)
set_again (xs ∷ xss) zero es fs h = ap (λ (ys : List (List ℕ)). ys ∷ xss) (append_assoc xs es fs)
set_again (xs ∷ xss) (suc k) es fs h = ap (λ (p : Parts). xs ∷ p) (set_again xss k es fs (omega arith))

pub Adds-none : (s : Section) (old : Parts) (es : List (List ℕ)) (w : ℕ) → length old ≡ 10 → es ≡ [] → Adds s es w old old
Adds-none s old es w ten none =
    record {
      parts = sym (ap (λ (fs : List (List ℕ)). with_elements s fs old) none ∙ ap (set old (number_of s)) (append-nil (section s old)) ∙ set-get_or old (number_of s) []);
      ten = ten;
      count = omega (arith, ap length none);
      size = omega arith;
    }

pub Adds-more : (s : Section) (es : List (List ℕ)) (y : List ℕ) (w v : ℕ) (old mid new : Parts) → length old ≡ 10 → Adds s es w old mid → Adds s (y ∷ []) v mid new → Adds s (es ++ y ∷ []) (w + v) old new
Adds-more s es y w v old mid new ten a b =
    let within : number_of s < length old = omega (arith, number_of-lt s) in
    record {
      parts = b.parts ∙ ap (with_elements s (y ∷ [])) a.parts ∙ set_again old (number_of s) es (y ∷ []) within;
      ten = b.ten;
      count = omega (arith, a.count, b.count, length-append es (y ∷ []));
      size = omega (arith, a.size, b.size);
    }

pub Adds-same : (s : Section) (es fs : List (List ℕ)) (w v : ℕ) (old new : Parts) → es ≡ fs → w ≤ v → Adds s es w old new → Adds s fs v old new
Adds-same s es fs w v old new same h a = subst (λ gs. Adds s gs v old new) same (record { parts = a.parts; ten = a.ten; count = a.count; size = omega (arith, a.size) })

-- a section's elements are at most so many and so large
pub all_added : (s : Section) (es : List (List ℕ)) (w : ℕ) (old new : Parts) → length es ≤ 2 ^ 14 → w ≤ 2 ^ 26 → Adds s es w old new → AddsAll s es old new
all_added s es w old new few light a = record {
  parts = a.parts;
  room = λ n r. record { ten = a.ten; few = omega (arith, r.few, a.count); light = omega (arith, r.light, a.size) };
}

pub all_same : (s : Section) (es fs : List (List ℕ)) (old new : Parts) → es ≡ fs → AddsAll s es old new → AddsAll s fs old new
all_same s es fs old new same a = subst (λ gs. AddsAll s gs old new) same a

-- ---- many elements, of at most 4,096 bytes each

-- the first elements of many
abbrev pub Begun : {X : Type 0} → Section → (X → List ℕ) → List X → ℕ → Parts → Parts → Type 0
Begun s f xs i old new = Adds s (map f (take i xs)) (4096 * i) old new

pub turn : {X : Type 0} (s : Section) (f : X → List ℕ) (xs : List X) (i : ℕ) (x d : X) (v : ℕ) (old mid new : Parts) → length old ≡ 10 → i < length xs → x ≡ get_or xs i d → v ≤ 4096 → Begun s f xs i old mid → Adds s (f x ∷ []) v mid new → Begun s f xs (i + 1) old new
turn s f xs i x d v old mid new ten h is light a b =
    let more : take (i + 1) xs ≡ take i xs ++ x ∷ [] = take_more xs i d h ∙ ap (λ y. take i xs ++ y ∷ []) (sym is) in
    let same : map f (take i xs) ++ f x ∷ [] ≡ map f (take (i + 1) xs) = sym (ap (map f) more ∙ map-append f (take i xs) (x ∷ [])) in
    Adds-same s (map f (take i xs) ++ f x ∷ []) (map f (take (i + 1) xs)) (4096 * i + v) (4096 * (i + 1)) old new same (omega arith) (Adds-more s (map f (take i xs)) (f x) (4096 * i) v old mid new ten a b)

length-take-some : {X : Type 0} (f : X → List ℕ) (xs : List X) (i : ℕ) → i ≤ length xs → length (map f (take i xs)) ≡ i
length-take-some f xs zero h = refl
length-take-some f [] (suc i) h = absurd (omega arith)
length-take-some f (x ∷ xs) (suc i) h = ap suc (length-take-some f xs i (omega arith))

pub place_next : {X : Type 0} (s : Section) (f : X → List ℕ) (xs : List X) (i v : ℕ) (old mid : Parts) → i < length xs → length xs ≤ 2 ^ 14 → v ≤ 4096 → HasRoom 1 old → Begun s f xs i old mid → HasPlace 1 v mid
place_next s f xs i v old mid h few light r a =
    let count = length-take-some f xs i (omega arith) in
    record { ten = a.ten; few = omega (arith, r.few, a.count, count); light = omega (arith, r.light, a.size) }

pub many_added : {X : Type 0} (s : Section) (f : X → List ℕ) (xs : List X) (i : ℕ) (old new : Parts) → i ≡ length xs → length xs ≤ 2 ^ 14 → Begun s f xs i old new → AddsAll s (map f xs) old new
many_added s f xs i old new all few a =
    let count : length (map f xs) ≡ length xs = length-map xs f in
    let whole : map f (take i xs) ≡ map f xs = ap (map f) (take_whole xs i (omega arith)) in
    all_added s (map f xs) (4096 * i) old new (omega arith) (omega arith) (Adds-same s (map f (take i xs)) (map f xs) (4096 * i) (4096 * i) old new whole (omega arith) a)
  where
    take_whole : {Y : Type 0} (ys : List Y) (k : ℕ) → length ys ≤ k → take k ys ≡ ys
    take_whole [] zero h = refl
    take_whole [] (suc k) h = refl
    take_whole (y ∷ ys) zero h = absurd (omega arith)
    take_whole (y ∷ ys) (suc k) h = ap (λ zs. y ∷ zs) (take_whole ys k (omega arith))

pub short_at : (ss : List (List ℕ)) (i : ℕ) (d : List ℕ) → AllByRecursion (λ text. length text ≤ 4096) ss → i < length ss → length (get_or ss i d) ≤ 4096
short_at [] i d all h = absurd (omega arith)
short_at (s ∷ ss) zero d all h = all.0
short_at (s ∷ ss) (suc i) d all h = short_at ss i d all.1 (omega arith)

pub all_at : {X : Type 0} (P : X → Type 0) (xs : List X) (i : ℕ) (d : X) → AllByRecursion P xs → i < length xs → P (get_or xs i d)
all_at P [] i d all h = absurd (omega arith)
all_at P (x ∷ xs) zero d all h = all.0
all_at P (x ∷ xs) (suc i) d all h = all_at P xs i d all.1 (omega arith)

pub all_map_at : {X Y : Type 0} (P : Y → Type 0) (f : X → Y) (xs : List X) (i : ℕ) (d : X) → AllByRecursion P (map f xs) → i < length xs → P (f (get_or xs i d))
all_map_at P f [] i d all h = absurd (omega arith)
all_map_at P f (x ∷ xs) zero d all h = all.0
all_map_at P f (x ∷ xs) (suc i) d all h = all_map_at P f xs i d all.1 (omega arith)

pub map_map : {X Y : Type 0} (f : X → Y) (g : Y → List ℕ) (xs : List X) → map (λ x. g (f x)) xs ≡ map g (map f xs)
map_map f g [] = refl
map_map f g (x ∷ xs) = ap (λ (ys : List (List ℕ)). g (f x) ∷ ys) (map_map f g xs)

pub map_same : (xs : List (List ℕ)) → map (λ (x : List ℕ). x) xs ≡ xs
map_same [] = refl
map_same (x ∷ xs) = ap (λ (ys : List (List ℕ)). x ∷ ys) (map_same xs)

-- ---- the same element again

pub replicate-more : (n : ℕ) (y : List ℕ) → replicate n y ++ y ∷ [] ≡ replicate (n + 1) y
replicate-more n y = step n ∙ ap (λ m. replicate m y) (sym (add-one n))
  where
    step : (n : ℕ) → replicate n y ++ y ∷ [] ≡ replicate (suc n) y
    step zero = refl
    step (suc n) = ap (λ (ys : List (List ℕ)). y ∷ ys) (step n)

pub length-replicate : (n : ℕ) (y : List ℕ) → length (replicate n y) ≡ n
length-replicate zero y = refl
length-replicate (suc n) y = ap suc (length-replicate n y)

pub same_turn : (s : Section) (y : List ℕ) (i : ℕ) (old mid new : Parts) → length old ≡ 10 → length y ≤ 4096 → Adds s (replicate i y) (4096 * i) old mid → Adds s (y ∷ []) (length y) mid new → Adds s (replicate (i + 1) y) (4096 * (i + 1)) old new
same_turn s y i old mid new ten light a b = Adds-same s (replicate i y ++ y ∷ []) (replicate (i + 1) y) (4096 * i + length y) (4096 * (i + 1)) old new (replicate-more i y) (omega arith) (Adds-more s (replicate i y) y (4096 * i) (length y) old mid new ten a b)

pub same_next : (s : Section) (y : List ℕ) (i count : ℕ) (old mid : Parts) → i < count → count ≤ 4096 → length y ≤ 4096 → HasRoom 1 old → Adds s (replicate i y) (4096 * i) old mid → HasPlace 1 (length y) mid
same_next s y i count old mid h few light r a =
    let n = length-replicate i y in
    record { ten = a.ten; few = omega (arith, r.few, a.count, n); light = omega (arith, r.light, a.size) }

pub same_added : (s : Section) (y : List ℕ) (i count : ℕ) (old new : Parts) → i ≡ count → count ≤ 4096 → Adds s (replicate i y) (4096 * i) old new → AddsAll s (replicate count y) old new
same_added s y i count old new all few a =
    let n = length-replicate i y in
    all_same s (replicate i y) (replicate count y) old new (ap (λ k. replicate k y) all) (all_added s (replicate i y) (4096 * i) old new (omega arith) (omega arith) a)

-- ---- how many fields

pub items-constant : (e : Entry) → length (constant.items (object_of e)) ≤ 10
items-constant e = by e.value
  where
    by : (v : ValueEl) → length (constant.items (record { pos = record { base = e.base; line = e.line; column = e.column }; ty = 0; value = v })) ≤ 10
    by (value.Int64 z) = lit≤ tt
    by (value.Big k b) = lit≤ tt

pub items-public : (ks : List ℕ) → length (flat_map object_use.items (map use_of ks)) ≡ 3 * length ks
items-public [] = refl
items-public (k ∷ ks) = omega (arith, length-append (object_use.items (use_of k)) (flat_map object_use.items (map use_of ks)), items-public ks)

pub items-private : (before : Option BelowEl) (bs : List BelowEl) → length (items_by below_entry before bs) ≡ 3 * length bs
items-private before [] = refl
items-private before (b ∷ bs) = omega (arith, length-append ((below_entry before).items b) (items_by below_entry (Some b) bs), items-private (Some b) bs)

-- ---- the public root

range-more : (n a : ℕ) → range_with_len a (suc n) ≡ range_with_len a n ++ (a + n) ∷ []
range-more zero a = let e : a ≡ a + 0 = omega arith in ap (λ k. k ∷ []) e
range-more (suc n) a = let e : (a + 1) + n ≡ a + suc n = omega arith in ap (λ (ks : List ℕ). a ∷ ks) (range-more n (a + 1) ∙ ap (λ k. range_with_len (a + 1) n ++ k ∷ []) e)

pub uses-turn : (k : ℕ) (old new : List ObjectUse) → old ≡ map use_of (range_with_len 0 k) → new ≡ old ++ use_of k ∷ [] → new ≡ map use_of (range_with_len 0 (k + 1))
uses-turn k old new so_far pushed =
    let range : range_with_len 0 (k + 1) ≡ range_with_len 0 k ++ k ∷ [] = ap (range_with_len 0) (add-one k) ∙ range-more k 0 ∙ ap (λ n. range_with_len 0 k ++ n ∷ []) (omega arith) in
    pushed ∙ ap (λ us. us ++ use_of k ∷ []) so_far ∙ sym (map-append use_of (range_with_len 0 k) (k ∷ [])) ∙ ap (map use_of) (sym range)

-- ---- the whole file

pub less : (n m : ℕ) (parts : Parts) → m ≤ n → HasRoom n parts → HasRoom m parts
less n m parts h r = record { ten = r.ten; few = omega (arith, r.few); light = omega (arith, r.light) }

pub room_at_first : (parts : Parts) → parts ≡ no_elements → HasRoom 10 parts
room_at_first parts e = subst (HasRoom 10) (sym e) (record { ten = refl; few = lit≤ tt; light = lit≤ tt })

same-map : (y : List ℕ) (es : List Entry) → replicate (length es) y ≡ map (λ (e : Entry). y) es
same-map y [] = refl
same-map y (e ∷ es) = ap (λ (ys : List (List ℕ)). y ∷ ys) (same-map y es)

pub same_for_all : (y : List ℕ) (es : List rust.Entry) (n : ℕ) → n ≡ length es → replicate n y ≡ map (λ (e : Entry). y) (map entry es)
same_for_all y es n e = ap (λ k. replicate k y) (e ∙ sym (length-map es entry)) ∙ same-map y (map entry es)

pub types-same : (es : List rust.Entry) (n : ℕ) → n ≡ min (length es) 1 → replicate n type_bytes ≡ types_of (map entry es)
types-same [] n e = ap (λ k. replicate k type_bytes) e
types-same (x ∷ es) n e = (let one : n ≡ 1 = omega (arith, e) in ap (λ k. replicate k type_bytes) one)

pub whole : (x : Elements) (p q r : Parts) → p ≡ middle x → q ≡ with_elements Meta (spelled_as public_root (public_of x) ∷ []) p → r ≡ with_elements Meta (spelled_as private_root (private_of x) ∷ []) q → r ≡ spelled x
unfolding spelled
whole x p q r a b c = c ∙ ap (with_elements Meta (spelled_as private_root (private_of x) ∷ [])) (b ∙ ap (with_elements Meta (spelled_as public_root (public_of x) ∷ [])) a)

pub holds_is : (bytes : List ℕ) (parts : Parts) (n : Numbered) (l : Linked) → IsContainer bytes parts → parts ≡ spelled (elements_of n) → Numbers n l → Holds bytes l
holds_is bytes parts n l container is numbered = (parts, container, (elements_of n, numbered.fits, is, numbered.means))

pub short_file : (bytes : List ℕ) (parts : Parts) → IsContainer bytes parts → HasRoom 0 parts → length bytes ≤ 2 ^ 30
short_file bytes parts container light = omega (arith, length-container bytes parts container, light.few, light.light)

-- ---- the constants' elements

pub name_fits : (c : Context) (es : List rust.Entry) (i : ℕ) (d : rust.Entry) (n : NameEl) → AllByRecursion (λ e. InGrammar name c (name_of e)) (map entry es) → i < length es → n ≡ name_of (entry (get_or es i d)) → InGrammar name c n
name_fits c es i d n all h e = subst (λ (m : NameEl). InGrammar name c m) (sym e) (all_map_at (λ e. InGrammar name c (name_of e)) entry es i d all h)

pub object_fits : (c : Context) (es : List rust.Entry) (i : ℕ) (d : rust.Entry) (o : ConstEl) → AllByRecursion (λ e. InGrammar constant c (object_of e)) (map entry es) → i < length es → o ≡ object_of (entry (get_or es i d)) → InGrammar constant c o
object_fits c es i d o all h e = subst (λ (m : ConstEl). InGrammar constant c m) (sym e) (all_map_at (λ e. InGrammar constant c (object_of e)) entry es i d all h)

abbrev pub object_bytes : rust.Entry → List ℕ
object_bytes e = spelled_as constant (object_of (entry e))

pub object_turn : (es : List rust.Entry) (i : ℕ) (d : rust.Entry) (o : ConstEl) (old mid new : Parts) → length old ≡ 10 → i < length es → o ≡ object_of (entry (get_or es i d)) → Begun Obj object_bytes es i old mid → Adds Obj (spelled_as constant o ∷ []) (10 + 30 * length (constant.items o)) mid new → Begun Obj object_bytes es (i + 1) old new
object_turn es i d o old mid new ten h is a b =
    let x : rust.Entry = get_or es i d in
    turn Obj object_bytes es i x d (10 + 30 * length (constant.items (object_of (entry x)))) old mid new ten h refl (omega (arith, items-constant (entry x))) a
    (subst (λ (m : ConstEl). Adds Obj (spelled_as constant m ∷ []) (10 + 30 * length (constant.items m)) mid new) is b)

pub object_place : (es : List rust.Entry) (i : ℕ) (d : rust.Entry) (o : ConstEl) (old mid : Parts) → i < length es → length es ≤ 4096 → o ≡ object_of (entry (get_or es i d)) → HasRoom 1 old → Begun Obj object_bytes es i old mid → HasPlace 1 (10 + 30 * length (constant.items o)) mid
object_place es i d o old mid h few is r a =
    let x : rust.Entry = get_or es i d in
    place_next Obj object_bytes es i (10 + 30 * length (constant.items o)) old mid h (omega arith) (omega (arith, ap (λ (m : ConstEl). length (constant.items m)) is, items-constant (entry x))) r a

pub names_added : (es : List rust.Entry) (i : ℕ) (old new : Parts) → i ≡ length es → length es ≤ 4096 → Begun Name (λ e. spelled_as name (name_of (entry e))) es i old new → AddsAll Name (map (λ e. spelled_as name (name_of e)) (map entry es)) old new
names_added es i old new all few a = all_same Name _ _ old new (map_map entry (λ e. spelled_as name (name_of e)) es) (many_added Name (λ e. spelled_as name (name_of (entry e))) es i old new all (omega arith) a)

pub objects_added : (es : List rust.Entry) (i : ℕ) (old new : Parts) → i ≡ length es → length es ≤ 4096 → Begun Obj object_bytes es i old new → AddsAll Obj (map (λ e. spelled_as constant (object_of e)) (map entry es)) old new
objects_added es i old new all few a = all_same Obj _ _ old new (map_map entry (λ e. spelled_as constant (object_of e)) es) (many_added Obj object_bytes es i old new all (omega arith) a)

-- ---- sections one after another

pub front_is : (x : Elements) (p0 p1 p2 p3 p4 : Parts) → p0 ≡ no_elements → p1 ≡ with_elements Str x.strings p0 → p2 ≡ with_elements PosBase (map (λ file. spelled_as posbase (base_of file)) x.bases) p1 → p3 ≡ with_elements Pkg (spelled_as pkg (package_of x) ∷ []) p2 → p4 ≡ with_elements Name (map (λ e. spelled_as name (name_of e)) x.entries) p3 → p4 ≡ front x
front_is x p0 p1 p2 p3 p4 a b c d e =
    e ∙ ap (with_elements Name (map (λ e. spelled_as name (name_of e)) x.entries)) (d ∙ ap (with_elements Pkg (spelled_as pkg (package_of x) ∷ [])) (c ∙ ap (with_elements PosBase (map (λ file. spelled_as posbase (base_of file)) x.bases)) (b ∙ ap (with_elements Str x.strings) a)))

pub middle_is : (x : Elements) (p0 p1 p2 p3 p4 : Parts) → p0 ≡ front x → p1 ≡ with_elements Types (types_of x.entries) p0 → p2 ≡ with_elements Obj (map (λ e. spelled_as constant (object_of e)) x.entries) p1 → p3 ≡ with_elements ObjExt (map (λ e. extension_bytes) x.entries) p2 → p4 ≡ with_elements ObjDict (map (λ e. dictionary_bytes) x.entries) p3 → p4 ≡ middle x
middle_is x p0 p1 p2 p3 p4 a b c d e =
    e ∙ ap (with_elements ObjDict (map (λ e. dictionary_bytes) x.entries)) (d ∙ ap (with_elements ObjExt (map (λ e. extension_bytes) x.entries)) (c ∙ ap (with_elements Obj (map (λ e. spelled_as constant (object_of e)) x.entries)) (b ∙ ap (with_elements Types (types_of x.entries)) a)))
