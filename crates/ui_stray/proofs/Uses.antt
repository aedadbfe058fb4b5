-- The table of an element's fields has just the targets that they use, each an element that there is.
use Rattle.std.proofs.Common.{◌≡◌, inl, inr, ℕ, zero, suc, ◌<◌, ◌^◌, Bool, true, false, cond, not}
use Rattle.std.proofs.Common.{List, [], ◌∷◌, ◌++◌, map, length, refl, sym, ap, subst, ◌∙◌, arith}
use Rattle.std.specs.List.{AllByRecursion, filter}
use Rattle.ui_strpos.specs.declared.target.Target.{Target}
use Rattle.ui_strpos.specs.Items.{Item, UInt, Int, Truth, Use, target, is_target, written, nothing, spelling}
use Rattle.ui_strpos.specs.FirstUses.{targets, first_uses, own_first_uses}
use Rattle.ui_strpos.specs.Tables.{is_target_true}
use Rattle.ui_strpos.specs.Reading.{Context, count_of}
use Rattle.ui_strpos.specs.Format.{ItemFits}
use Rattle.ui_file.specs.Rules.{In}
use Rattle.ui_stray.specs.Links.{table_at}
use Rattle.ui_stray.proofs.Tables.{IsSmall, table_spelled}

module _ (p : Target → Bool) where
  kept : (xs : List Target) (u : Target) → In (filter p xs) u → In xs u
  kept [] u m = absurd m
  kept (x ∷ xs) u m = at (p x) (kept xs u) m
    where
      at : (b : Bool) → (In (filter p xs) u → In xs u)
          → In (cond b (x ∷ filter p xs) (filter p xs)) u
          → In (x ∷ xs) u
      at true others (inl e) = inl e
      at true others (inr m) = inr (others m)
      at false others m = inr (others m)

  keeps : (xs : List Target) (u : Target) → p u ≡ true → In xs u → In (filter p xs) u
  keeps [] u e m = absurd m
  keeps (x ∷ xs) u e (inl is) =
      let passes : p x ≡ true = ap p is ∙ e in
      subst (λ (b : Bool). In (cond b (x ∷ filter p xs) (filter p xs)) u) (sym passes) (inl is)
  keeps (x ∷ xs) u e (inr m) = at (p x) (keeps xs u e m)
    where
      at : (b : Bool) → In (filter p xs) u → In (cond b (x ∷ filter p xs) (filter p xs)) u
      at true m = inr m
      at false m = m

used_first : (ts : List Target) (u : Target) → In ts u → In (first_uses ts) u
used_first [] u m = absurd m
used_first (t ∷ ts) u (inl e) = inl e
used_first (t ∷ ts) u (inr m) = at (is_target t u) refl (used_first ts u m)
  where
    at : (b : Bool) → is_target t u ≡ b → In (first_uses ts) u → In (first_uses (t ∷ ts)) u
    at true e m = inl (is_target_true t u e)
    at false e m = inr (keeps (λ v. not (is_target t v)) (first_uses ts) u (ap not e) m)

first_used : (ts : List Target) (u : Target) → In (first_uses ts) u → In ts u
first_used [] u m = absurd m
first_used (t ∷ ts) u (inl e) = inl e
first_used (t ∷ ts) u (inr m) =
    inr (first_used ts u (kept (λ v. not (is_target t v)) (first_uses ts) u m))

-- a target that there is
pub record IsThere (c : Context) (u : Target) : Type 0 where
  pub section : u.section < 10
  pub index : u.index < count_of c u.section
  pub small : u.index < 2 ^ 64

pub used_there : (c : Context) (is : List Item) (u : Target) → AllByRecursion (ItemFits c) is
    → In (targets is) u → IsThere c u
used_there c [] u fits m = absurd m
used_there c (UInt n ∷ is) u fits m = used_there c is u fits.1 m
used_there c (Int z ∷ is) u fits m = used_there c is u fits.1 m
used_there c (Truth b ∷ is) u fits m = used_there c is u fits.1 m
used_there c (Use s k ∷ is) u fits (inl e) =
    subst (λ (t : Target). IsThere c t) e
    (record { section = fits.0.0; index = fits.0.1; small = fits.0.2 })
used_there c (Use s k ∷ is) u fits (inr m) = used_there c is u fits.1 m

all_of : {X : Type 0} (P : X → Type 0) (xs : List X) → ((x : X) → In xs x → P x)
    → AllByRecursion P xs
all_of P [] h = tt
all_of P (x ∷ xs) h = (h x (inl refl), all_of P xs (λ y m. h y (inr m)))

-- the table of a spelling
module _ (c : Context) (is : List Item) (fits : AllByRecursion (ItemFits c) is)
    (few : length (written nothing is).table < 2 ^ 64) where
  table_is : table_at (spelling is) ≡ first_uses (targets is)
  table_is =
      let small : (u : Target) → In (written nothing is).table u → IsSmall u = λ u m.
      (let there = used_there c is u fits (first_used (targets is) u
      (subst (λ (us : List Target). In us u) (own_first_uses is) m)) in
      (let s = there.section in omega arith, there.small)) in
      table_spelled is few (all_of IsSmall (written nothing is).table small) ∙ own_first_uses is

  pub in_table : (u : Target) → In (targets is) u → In (table_at (spelling is)) u
  in_table u m =
      subst (λ (us : List Target). In us u) (sym table_is) (used_first (targets is) u m)

  pub of_table : (u : Target) → In (table_at (spelling is)) u → In (targets is) u
  of_table u m =
      first_used (targets is) u (subst (λ (us : List Target). In us u) table_is m)
