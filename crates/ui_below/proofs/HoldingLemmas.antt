-- The entries of the map of claims, and what they hold.
use Rattle.std.proofs.Common.{◌≡◌, ℕ, List, map, option_map, Option, Vec}
use Rattle.std.specs.Prelude.{is_some}
use Rattle.std.specs.Option.{option_copied}
use Rattle.std.specs.declared.alloc.Global.{Global}
use Rattle.std.specs.Ordering.{nat_cmp}
use Rattle.std.specs.Map.{lookup}
use Rattle.std.specs.List.Sorted.{IsStrictlySortedBy}
use Rattle.std.specs.BTreeMap.{is_at, insert_entry}
use Rattle.std.specs.Cmp.Lexicographic.{slice_cmp}
use Rattle.std.specs.FinMap.{get, insert, entries}
use denote.Ref.{Bor}
use Rattle.ui_base.specs.Entries.{bytes_of}
use Rattle.ui_base.proofs.EntryLemmas.{map_of-insert, look-map_of, has-map_of, entries-map_of}
use Rattle.ui_below.specs.Holding.{held_as, entry_of, holding}
use Rattle.ui_below.specs.declared.claims.Held.{Held}

abbrev Entry : Type 0
Entry = Vec ℕ Global × Held

-- to insert an entry is to insert what it holds
pub holding-insert : (es : List Entry) (k : Vec ℕ Global) (v : Held) → holding (insert_entry (λ x y. slice_cmp nat_cmp x.items y.items) es k v) ≡ insert (holding es) k.items (held_as v)
unfolding holding
holding-insert es k v = map_of-insert bytes_of held_as es k v

-- what a look-up in the map finds
pub find_held : (es : List Entry) (q : List ℕ) (r : Option (Bor Held)) → option_copied r ≡ lookup (is_at (λ (k : Vec ℕ Global). slice_cmp nat_cmp q k.items)) es → option_map (λ c. held_as c.now) r ≡ get (holding es) q
unfolding holding
find_held es q r e = look-map_of bytes_of held_as es q r e

-- a path that is there
pub is_held : (es : List Entry) (q : List ℕ) → is_some (get (holding es) q) ≡ is_some (lookup (is_at (λ (k : Vec ℕ Global). slice_cmp nat_cmp q k.items)) es)
unfolding holding
is_held es q = has-map_of bytes_of held_as es q

-- the map of entries in order has them
pub entries-holding : (es : List Entry) → IsStrictlySortedBy (λ (x y : Vec ℕ Global). slice_cmp nat_cmp x.items y.items) (map (λ e. e.0) es) → entries (holding es) ≡ map entry_of es
unfolding holding
entries-holding es h = entries-map_of bytes_of held_as es h
