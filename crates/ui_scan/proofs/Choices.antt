-- Which way a test went, and what holds of a value that may be there.
use Rattle.std.proofs.Common.{◌≡◌, Bool, true, false, cond, refl, inl, inr, subst}
use Rattle.std.specs.Prelude.{◌⊎◌, Option, Some, None, IfSome, option_and_then, option_map}

pub chosen : {X : Type 0} (b : Bool) (x y z : X) → cond b x y ≡ z → ((b ≡ true) × (x ≡ z)) ⊎ ((b ≡ false) × (y ≡ z))
chosen true x y z e = inl (refl, e)
chosen false x y z e = inr (refl, e)

pub some_chosen : {X : Type 0} (P : X → Type 0) (b : Bool) (x y : Option X) → (b ≡ true → IfSome x P) → (b ≡ false → IfSome y P) → IfSome (cond b x y) P
some_chosen P true x y p q = p refl
some_chosen P false x y p q = q refl

pub some_then : {X Y : Type 0} (P : Y → Type 0) (f : X → Option Y) (o : Option X) → ((x : X) → o ≡ Some x → IfSome (f x) P) → IfSome (option_and_then f o) P
some_then P f None p = tt
some_then P f (Some x) p = p x refl

pub some_mapped : {X Y : Type 0} (P : Y → Type 0) (f : X → Y) (o : Option X) → ((x : X) → o ≡ Some x → P (f x)) → IfSome (option_map f o) P
some_mapped P f None p = tt
some_mapped P f (Some x) p = p x refl

pub at_some : {X : Type 0} (P : X → Type 0) (o : Option X) (x : X) → o ≡ Some x → IfSome o P → P x
at_some P None x e p = absurd (cc)
at_some P (Some y) x e p = subst P (let s : y ≡ x = cc in s) p
