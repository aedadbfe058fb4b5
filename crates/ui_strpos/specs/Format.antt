-- An element's grammar, said once: how its fields are read, which fields a value has, and which values fit. This
-- project's own.
--
-- A format is made of the parts below. A value is in the grammar where it fits and its fields can be held; its bytes
-- are the one spelling of its fields (Items). Reading gives the value, or the place and cause of the first fault. That
-- the three belong together is the format's law (Lawful), which each part keeps.
use Rattle.std.specs.Prelude.{◌≡◌, ℕ, zero, suc, ◌<◌, ◌^◌, ℤ, List, [], ◌∷◌, ◌++◌, length, if◌then◌else◌, Bool, true, false, Option, Some, None, Result, Ok, Err}
use Rattle.std.specs.List.{AllByRecursion, flat_map}
use Rattle.ui_frame.specs.Reading.{◌>>=◌}
use Rattle.ui_frame.specs.Number.{zigzag}
use Rattle.ui_strpos.specs.declared.fault.Cause.{Cause}
use Rattle.ui_strpos.specs.declared.fault.Cause.TheVariants.{BadCode}
use Rattle.ui_strpos.specs.Items.{Item, UInt, Int, Truth, Use, written, nothing}
use Rattle.ui_strpos.specs.Reading.{Context, State, Fault, fault, uint_in, int_in, truth_in, use_in, finish_in, start_in, count_of}

pub record Format (A : Type 0) : Type 1 where
  pub read : State → Result (A × State) Fault
  pub items : A → List Item
  pub fits : Context → A → Type 0

-- ---- single fields, each with a test of its value

abbrev pub checked : {A : Type 0} → Option Cause → ℕ → A → Result A Fault
checked None place x = Ok x
checked (Some c) place x = Err (fault place c)

abbrev pub one_field : {A : Type 0} → (State → Result (A × State) Fault) → (A → Item) → (Context → A → Option Cause) → Format A
one_field reading item test = record {
  read = λ s. reading s >>= λ x. checked (test s.context x.0) s.place x;
  items = λ a. item a ∷ [];
  fits = λ c a. test c a ≡ None;
}

abbrev pub uint_field : (Context → ℕ → Option Cause) → Format ℕ
uint_field test = one_field uint_in (λ n. UInt n) test

abbrev pub int_field : (Context → ℤ → Option Cause) → Format ℤ
int_field test = one_field int_in (λ z. Int z) test

abbrev pub truth_field : (Context → Bool → Option Cause) → Format Bool
truth_field test = one_field truth_in (λ b. Truth b) test

-- the use of an element of a section
abbrev pub use_field : ℕ → (Context → ℕ → Option Cause) → Format ℕ
use_field section test = one_field (use_in section) (λ k. Use section k) test

-- ---- fields together

-- one format after another, which may depend on the first value
abbrev pub seq : {A B : Type 0} → Format A → (A → Format B) → Format (A × B)
seq first second = record {
  read = λ s. first.read s >>= λ a. (second a.0).read a.1 >>= λ b. Ok ((a.0, b.0), b.1);
  items = λ x. first.items x.0 ++ (second x.0).items x.1;
  fits = λ c x. first.fits c x.0 × (second x.0).fits c x.1;
}

-- the same fields for another form of the value
abbrev pub via : {A B : Type 0} → (A → B) → (B → A) → Format A → Format B
via to from f = record {
  read = λ s. f.read s >>= λ a. Ok (to a.0, a.1);
  items = λ b. f.items (from b);
  fits = λ c b. f.fits c (from b);
}

-- no fields
abbrev pub nothing_more : {A : Type 0} → A → Format A
nothing_more a = record {
  read = λ s. Ok (a, s);
  items = λ v. [];
  fits = λ c v. v ≡ a;
}

-- no value
abbrev pub no_format : {V : Type 0} → Format V
no_format = record {
  read = λ s. Err (fault s.place BadCode);
  items = λ v. [];
  fits = λ c v. ⊥;
}

-- ---- cases

abbrev pub opt_items : {A : Type 0} → Format A → Option A → List Item
opt_items f None = []
opt_items f (Some a) = f.items a

abbrev pub opt_fits : {A : Type 0} → Format A → Context → Option A → Type 0
opt_fits f c None = ⊥
opt_fits f c (Some a) = f.fits c a

-- one case of a type: a value of another case doesn't fit
abbrev pub variant : {A V : Type 0} → (A → V) → (V → Option A) → Format A → Format V
variant to from f = record {
  read = λ s. f.read s >>= λ a. Ok (to a.0, a.1);
  items = λ v. opt_items f (from v);
  fits = λ c v. opt_fits f c (from v);
}

-- one of two formats
abbrev pub choose : {V : Type 0} → Bool → Format V → Format V → Format V
choose true f g = f
choose false f g = g

-- a tag, and the fields of the case that it says
abbrev pub tagged : {T V : Type 0} → Format T → (V → T) → (T → Format V) → Format V
tagged tag tag_of body = record {
  read = λ s. tag.read s >>= λ k. (body k.0).read k.1;
  items = λ v. tag.items (tag_of v) ++ (body (tag_of v)).items v;
  fits = λ c v. tag.fits c (tag_of v) × (body (tag_of v)).fits c v;
}

-- the fields of the case that the context says, as by an element's shape
abbrev pub by_shape : {T V : Type 0} → (Context → T) → (V → T) → (T → Format V) → Format V
by_shape wanted tag_of body = record {
  read = λ s. (body (wanted s.context)).read s;
  items = λ v. (body (tag_of v)).items v;
  fits = λ c v. (tag_of v ≡ wanted c) × (body (tag_of v)).fits c v;
}

abbrev pub there : {A : Type 0} → Bool → Format A → Context → Option A → Type 0
there true f c o = opt_fits f c o
there false f c None = Unit {0}
there false f c (Some a) = ⊥

-- fields, and others where the first ask for them
abbrev pub with_option : {A B : Type 0} → Format A → (Context → A → Bool) → Format B → Format (A × Option B)
with_option f asks g = record {
  read = λ s. f.read s >>= λ a. (if asks s.context a.0 then (g.read a.1 >>= λ b. Ok ((a.0, Some b.0), b.1)) else Ok ((a.0, None), a.1));
  items = λ x. f.items x.0 ++ opt_items g x.1;
  fits = λ c x. f.fits c x.0 × there (asks c x.0) g c x.1;
}

-- ---- lists

-- so many times the same
unfoldable pub times : {A : Type 0} → Format A → ℕ → State → Result (List A × State) Fault
times f zero s = Ok ([], s)
times f (suc n) s = f.read s >>= λ a. times f n a.1 >>= λ others. Ok (a.0 ∷ others.0, others.1)

-- as many as the context says
abbrev pub times_of : {A : Type 0} → (Context → ℕ) → Format A → Format (List A)
times_of count f = record {
  read = λ s. times f (count s.context) s;
  items = λ xs. flat_map f.items xs;
  fits = λ c xs. (length xs ≡ count c) × AllByRecursion (f.fits c) xs;
}

-- a count, and so many
abbrev pub counted : {A : Type 0} → Format A → Format (List A)
counted f = record {
  read = λ s. uint_in s >>= λ n. times f n.0 n.1;
  items = λ xs. UInt (length xs) ∷ flat_map f.items xs;
  fits = λ c xs. AllByRecursion (f.fits c) xs;
}

-- so many times, each by the one before it
unfoldable pub times_by : {A : Type 0} → (Option A → Format A) → Option A → ℕ → State → Result (List A × State) Fault
times_by f before zero s = Ok ([], s)
times_by f before (suc n) s = (f before).read s >>= λ a. times_by f (Some a.0) n a.1 >>= λ others. Ok (a.0 ∷ others.0, others.1)

abbrev pub items_by : {A : Type 0} → (Option A → Format A) → Option A → List A → List Item
items_by f before [] = []
items_by f before (x ∷ xs) = (f before).items x ++ items_by f (Some x) xs

abbrev pub fits_by : {A : Type 0} → (Option A → Format A) → Context → Option A → List A → Type 0
fits_by f c before [] = Unit {0}
fits_by f c before (x ∷ xs) = (f before).fits c x × fits_by f c (Some x) xs

-- A count, and so many, each by the one before it: so a list that has to ascend. The order is tested at an entry's
-- first field.
abbrev pub counted_by : {A : Type 0} → (Option A → Format A) → Format (List A)
counted_by f = record {
  read = λ s. uint_in s >>= λ n. times_by f None n.0 n.1;
  items = λ xs. UInt (length xs) ∷ items_by f None xs;
  fits = λ c xs. fits_by f c None xs;
}

-- ---- elements

-- what a field can hold
abbrev pub ItemFits : Context → Item → Type 0
ItemFits c (UInt n) = n < 2 ^ 64
ItemFits c (Int z) = zigzag z < 2 ^ 64
ItemFits c (Truth b) = Unit {0}
ItemFits c (Use section index) = (section < 10) × (index < count_of c section) × (index < 2 ^ 64)

-- the value is in the grammar over these counts and Strings
abbrev pub InGrammar : {A : Type 0} → Format A → Context → A → Type 0
InGrammar f c a = f.fits c a × AllByRecursion (ItemFits c) (f.items a) × (length (written nothing (f.items a)).table < 2 ^ 64)

-- the fields of an element, and its end
abbrev pub whole_in : {A : Type 0} → Format A → State → Result (A × State) Fault
whole_in f s = f.read s >>= λ a. finish_in a.1 >>= λ _. Ok a

-- all of an element
abbrev pub element_in : {A : Type 0} → Format A → Context → List ℕ → Result A Fault
element_in f c bytes = start_in c bytes >>= λ s. whole_in f s >>= λ a. Ok a.0

-- ---- the law of a format

-- one field after another is read so
abbrev pub ReadsItem : State → Item → State → Type 0
ReadsItem s (UInt n) t = uint_in s ≡ Ok (n, t)
ReadsItem s (Int z) t = int_in s ≡ Ok (z, t)
ReadsItem s (Truth b) t = truth_in s ≡ Ok (b, t)
ReadsItem s (Use section k) t = use_in section s ≡ Ok (k, t)

abbrev pub Reads : State → List Item → State → Type 0
Reads s [] t = t ≡ s
Reads s (i ∷ is) t = (mid : State) × ReadsItem s i mid × Reads mid is t

-- a fault stands at a field, and the fields before it were read
pub record Stopped (s : State) (e : Fault) : Type 0 where
  pub before : List Item
  pub at : State
  pub reads : Reads s before at
  pub place : at.place ≡ e.offset

-- What is read is these fields, and a value that fits; the fields of a value that fits are read as it; and a fault stands
-- at the first field that fails.
pub record Lawful {A : Type 0} (f : Format A) : Type 0 where
  pub takes : (s : State) (x : A × State) → f.read s ≡ Ok x → Reads s (f.items x.0) x.1 × f.fits s.context x.0
  pub again : (s t : State) (a : A) → f.fits s.context a → Reads s (f.items a) t → f.read s ≡ Ok (a, t)
  pub stops : (s : State) (e : Fault) → f.read s ≡ Err e → Stopped s e
