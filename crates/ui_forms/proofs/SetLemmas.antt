-- Sets of texts that grow.
use Rattle.std.proofs.Common.{◌≡◌, ℕ, ◌+◌, ◌<◌, ◌≤◌, zero, suc, true, List, [], ◌∷◌, ◌++◌, map, drop, length, get_or, Some, Vec, refl, sym, ap, ◌∙◌, subst, arith}
use Rattle.std.specs.Prelude.{slice_get}
use Rattle.std.specs.declared.alloc.Global.{Global}
use Rattle.std.specs.List.{AllByRecursion, flat_map}
use Rattle.std.specs.List.Sorted.{IsStrictlySortedBy}
use Rattle.std.specs.declared.cmp.Ordering.TheVariants.{Less, Equal, Greater}
use Rattle.std.specs.Ordering.{nat_cmp}
use Rattle.std.specs.Cmp.Lexicographic.{slice_cmp, nat_list_cmp_total}
use Rattle.std.specs.FinMap.{empty, entries, insert, keys, entries-insert, len-entries, len-empty}
use Rattle.std.specs.FinMap.Entries.{put, by_order}
use Rattle.std.specs.Map.Iter.{deref_pair}
use denote.Ref.{Bor}
use Rattle.std.proofs.lemmas.List.{nil_from_length}
use Rattle.ui_base.specs.Paths.{is_path}
use Rattle.ui_forms.specs.Numbers.{Numbered, numbers_of}
use Rattle.ui_tree.specs.declared.part.Specs.TheVariants.{Grouped}
use Rattle.ui_tree.specs.declared.decl.ImportSpec.{ImportSpec}
use Rattle.ui_tree.specs.declared.decl.ImportTree.{ImportTree}
use Rattle.ui_tree.specs.StmtView.{import_view}
use Rattle.ui_forms.specs.Form.{ascending, set_with, spec_paths}
use Rattle.ui_forms.proofs.NumberLemmas.{Entry, text_at, keys-numbers_of}
use Rattle.ui_base.proofs.StepLemmas.{turn, no_turn}

pub set_with-append : (m : Numbered) (xs ys : List (List ℕ)) → set_with m (xs ++ ys) ≡ set_with (set_with m xs) ys
set_with-append m [] ys = refl
set_with-append m (x ∷ xs) ys = set_with-append (insert m x 0) xs ys

-- ---- the turns of a loop

module _ {X Y : Type 0} (view : X → Y) (f : Y → List (List ℕ)) (xs : List X) (i : ℕ) (m target : Numbered) where
  pub sets_more : (x : X) (m' : Numbered) → i < length xs → x ≡ get_or xs i x → set_with m (flat_map f (map view (drop i xs))) ≡ target → m' ≡ set_with m (f (view x)) → set_with m' (flat_map f (map view (drop (i + 1) xs))) ≡ target
  sets_more x m' h is before now =
      ap (λ n. set_with n (flat_map f (map view (drop (i + 1) xs)))) now
      ∙ sym (set_with-append m (f (view x)) (flat_map f (map view (drop (i + 1) xs))))
      ∙ sym (ap (λ ys. set_with m (flat_map f ys)) (turn view xs i x h is))
      ∙ before

  pub sets_end : length xs ≤ i → set_with m (flat_map f (map view (drop i xs))) ≡ target → m ≡ target
  sets_end h before = sym (ap (λ ys. set_with m (flat_map f ys)) (no_turn view xs i h)) ∙ before

-- the paths of a group
pub group_paths : (i : ImportTree) (group slice : List ImportSpec) → i.specs ≡ Grouped group → slice ≡ group → map (λ x. x.path.text) slice ≡ spec_paths (import_view i).specs
group_paths i group slice is same = ap (map (λ x. x.path.text)) same ∙ fused group ∙ sym (ap (λ specs. spec_paths (import_view (record { spot = i.spot; specs = specs })).specs) is)
  where
    fused : (xs : List ImportSpec) → map (λ (x : ImportSpec). x.path.text) xs ≡ spec_paths (import_view (record { spot = i.spot; specs = Grouped xs })).specs
    fused [] = refl
    fused (x ∷ xs) = ap (λ ts. x.path.text ∷ ts) (fused xs)

-- ---- what holds of each text

module _ (P : List ℕ → Type 0) where
  put-all : (k : List ℕ) (v : ℕ) (es : List (List ℕ × ℕ)) → P k → AllByRecursion (λ e. P e.0) es → AllByRecursion (λ e. P e.0) (put (slice_cmp nat_cmp) k v es)
  put-all k v [] new h = (new, tt)
  put-all k v (e ∷ es) new h =
      elim (slice_cmp nat_cmp k e.0) as (λ o. AllByRecursion (λ x. P x.0) (by_order o ((k, v) ∷ e ∷ es) ((e.0, v) ∷ es) (e ∷ put (slice_cmp nat_cmp) k v es)))
      [ Less ↦ (new, h) | Equal ↦ h | Greater ↦ (h.0, put-all k v es new h.1) ]

  abbrev AllIn : Numbered → Type 0
  AllIn m = AllByRecursion (λ e. P e.0) (entries m)

  none-all : AllIn empty
  none-all =
      let none : length (entries (empty {X = ℕ} {R = slice_cmp nat_cmp})) ≡ 0 = sym (len-entries empty) ∙ len-empty (slice_cmp nat_cmp) ℕ in
      subst (AllByRecursion (λ e. P e.0)) (sym (nil_from_length (entries (empty {X = ℕ} {R = slice_cmp nat_cmp})) none)) tt

  set-all : (m : Numbered) (texts : List (List ℕ)) → AllIn m → AllByRecursion P texts → AllIn (set_with m texts)
  set-all m [] h all = h
  set-all m (text ∷ texts) h all =
      set-all (insert m text 0) texts (subst (AllByRecursion (λ x. P x.0)) (sym (entries-insert nat_list_cmp_total m text 0)) (put-all text 0 (entries m) all.0 h)) all.1

  keys-all : (es : List (List ℕ × ℕ)) → AllByRecursion (λ e. P e.0) es → AllByRecursion P (map (λ e. e.0) es)
  keys-all [] h = tt
  keys-all (e ∷ es) h = (h.0, keys-all es h.1)

  -- what holds of texts holds of them in order
  pub ascending-all : (texts : List (List ℕ)) → AllByRecursion P texts → AllByRecursion P (ascending texts)
  ascending-all texts h = keys-all (entries (set_with empty texts)) (set-all empty texts none-all h)

-- ---- the turns of a loop over a map

pub at_place : {X : Type 0} (P : X → Type 0) (xs : List X) (k : ℕ) (x : X) → AllByRecursion P xs → slice_get xs k ≡ Some x → P x
at_place P [] zero x all e = absurd cc
at_place P [] (suc k) x all e = absurd cc
at_place {X} P (y ∷ ys) zero x all e = subst P (some_is y x e) all.0
  where
    some_is : (a b : X) → Some a ≡ Some b → a ≡ b
    some_is a b h = cc
at_place P (y ∷ ys) (suc k) x all e = at_place P ys k x all.1 e

abbrev Sorted : List Entry → Type 0
Sorted es = IsStrictlySortedBy (λ (x y : Vec ℕ Global). slice_cmp nat_cmp x.items y.items) (map (λ e. e.0) es)

unmapped : (P : List ℕ → Type 0) (es : List Entry) → AllByRecursion P (map text_at es) → AllByRecursion (λ e. P (text_at e)) es
unmapped P [] h = tt
unmapped P (e ∷ es) h = (h.0, unmapped P es h.1)

-- the text at a turn is a path
pub turn_path : (es : List Entry) (k : ℕ) (e : Entry) (p : List ℕ) → AllByRecursion (λ p. is_path p ≡ true) (keys (numbers_of es)) → Sorted es → slice_get es k ≡ Some e → p ≡ e.0.items → is_path p ≡ true
turn_path es k e p all sorted got same =
    ap is_path same ∙ at_place (λ e. is_path (text_at e) ≡ true) es k e (unmapped (λ p. is_path p ≡ true) es (subst (AllByRecursion (λ p. is_path p ≡ true)) (keys-numbers_of es sorted) all)) got

fused : (ps : List (Bor (Vec ℕ Global) × Bor ℕ)) → map (λ p. text_at (deref_pair p)) ps ≡ map text_at (map deref_pair ps)
fused [] = refl
fused (p ∷ ps) = ap (λ ts. text_at (deref_pair p) ∷ ts) (fused ps)

-- the texts of all turns are those of the map in order
pub all_turns : (es : List Entry) (texts : List (List ℕ)) (ps : List (Bor (Vec ℕ Global) × Bor ℕ)) → Sorted es → map deref_pair ps ≡ es → texts ≡ map (λ p. text_at (deref_pair p)) ps → texts ≡ keys (numbers_of es)
all_turns es texts ps sorted whole same = same ∙ fused ps ∙ ap (map text_at) whole ∙ sym (keys-numbers_of es sorted)
