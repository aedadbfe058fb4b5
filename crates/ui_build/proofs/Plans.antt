-- How plans join.
use Rattle.std.proofs.Common.{◌≡◌, ap, refl, List, [], ◌++◌, Result, Ok, Err, append_assoc, append-nil}
use Rattle.ui_store.specs.Calls.{Ask}
use Rattle.ui_build.specs.Plan.{Refusal, Put, Plan, next, ◌>>=◌}

-- a plan, and what follows
abbrev along : {X Y : Type 0} → Plan X → Plan Y → Plan Y
along p n = record { value = n.value; asks = p.asks ++ n.asks; puts = p.puts ++ n.puts }

next_same : {X Y : Type 0} (v : Result X Refusal) (f g : X → Plan Y) → ((x : X) → v ≡ Ok x → f x ≡ g x) → next v f ≡ next v g
next_same (Ok x) f g same = same x refl
next_same (Err r) f g same = refl

-- what follows a value alone matters
pub bind_same : {X Y : Type 0} (p : Plan X) (f g : X → Plan Y) → ((x : X) → p.value ≡ Ok x → f x ≡ g x) → (p >>= f) ≡ (p >>= g)
bind_same p f g same = ap (along p) (next_same p.value f g same)

abbrev by_parts : {X : Type 0} → Result X Refusal → List Ask → List Put → Plan X
by_parts value asks puts = record { value = value; asks = asks; puts = puts }

assoc_by : {X Y Z : Type 0} (v : Result X Refusal) (asks : List Ask) (puts : List Put) (f : X → Plan Y) (g : Y → Plan Z) → (by_parts v asks puts >>= f >>= g) ≡ (by_parts v asks puts >>= λ x. f x >>= g)
assoc_by (Ok x) asks puts f g = λ i. by_parts (next (f x).value g).value (append_assoc asks (f x).asks (next (f x).value g).asks i) (append_assoc puts (f x).puts (next (f x).value g).puts i)
assoc_by (Err r) asks puts f g = λ i. by_parts (Err r) (append-nil (asks ++ []) i) (append-nil (puts ++ []) i)

pub bind_assoc : {X Y Z : Type 0} (p : Plan X) (f : X → Plan Y) (g : Y → Plan Z) → (p >>= f >>= g) ≡ (p >>= λ x. f x >>= g)
bind_assoc p f g = assoc_by p.value p.asks p.puts f g
