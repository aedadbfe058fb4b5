-- The entries of a map of constants, and what they declare.
use Rattle.std.proofs.Common.{◌≡◌, ℕ, List, map, option_map, Option, Vec}
use Rattle.std.specs.Prelude.{is_some}
use Rattle.std.specs.Option.{option_copied}
use Rattle.std.specs.declared.alloc.Global.{Global}
use Rattle.std.specs.Ordering.{nat_cmp}
use Rattle.std.specs.Map.{lookup}
use Rattle.std.specs.List.Sorted.{IsStrictlySortedBy}
use Rattle.std.specs.BTreeMap.{is_at, insert_entry}
use Rattle.std.specs.Cmp.Lexicographic.{slice_cmp}
use Rattle.std.specs.FinMap.{get, insert, entries}
use denote.Ref.{Bor}
use Rattle.ui_base.specs.Entries.{bytes_of}
use Rattle.ui_base.proofs.EntryLemmas.{map_of-insert, look-map_of, has-map_of, texts-entry_of, entries-map_of}
use Rattle.ui_exports.specs.Constants.{declaration, entry_of, declarations_of}
use Rattle.ui_exports.specs.declared.package.Constant.{Constant}

abbrev Entry : Type 0
Entry = Vec ℕ Global × Constant

-- to insert an entry is to insert what it declares
pub declarations_of-insert : (es : List Entry) (k : Vec ℕ Global) (v : Constant) → declarations_of (insert_entry (λ x y. slice_cmp nat_cmp x.items y.items) es k v) ≡ insert (declarations_of es) k.items (declaration v)
unfolding declarations_of
declarations_of-insert es k v = map_of-insert bytes_of declaration es k v

-- what a look-up in the map finds
pub find_declaration : (es : List Entry) (q : List ℕ) (r : Option (Bor Constant)) → option_copied r ≡ lookup (is_at (λ (k : Vec ℕ Global). slice_cmp nat_cmp q k.items)) es → option_map (λ c. declaration c.now) r ≡ get (declarations_of es) q
unfolding declarations_of
find_declaration es q r e = look-map_of bytes_of declaration es q r e

-- a name that is there
pub is_there : (es : List Entry) (k : Vec ℕ Global) → is_some (get (declarations_of es) k.items) ≡ is_some (lookup (is_at (λ (x : Vec ℕ Global). slice_cmp nat_cmp k.items x.items)) es)
unfolding declarations_of
is_there es k = has-map_of bytes_of declaration es k.items

-- the map of entries in order has them
pub entries-declarations_of : (es : List Entry) → IsStrictlySortedBy (λ (x y : Vec ℕ Global). slice_cmp nat_cmp x.items y.items) (map (λ e. e.0) es) → entries (declarations_of es) ≡ map entry_of es
unfolding declarations_of
entries-declarations_of es h = entries-map_of bytes_of declaration es h

-- and its names are in order
pub names-entry_of : (es : List Entry) → IsStrictlySortedBy (λ (x y : Vec ℕ Global). slice_cmp nat_cmp x.items y.items) (map (λ e. e.0) es) → IsStrictlySortedBy (slice_cmp nat_cmp) (map (λ e. e.0) (map entry_of es))
names-entry_of es h = texts-entry_of bytes_of declaration es h
