-- How steps join: what the first did and what the next did is what both together are to do.
use Rattle.std.proofs.lemmas.List.{take_all}
use Rattle.std.proofs.Common.{◌≡◌, length, take, arith, ◌∙◌, ap, sym, subst, refl, List, [], ◌∷◌, ◌++◌, ◌⊎◌, inl, inr, Option, Some, None, IfSome, Result, Ok, Err, append_assoc, append-nil}
use Rattle.ui_store.specs.Told.{more, more_none, more_twice}
use Rattle.ui_store.specs.Files.{Files, put}
use Rattle.ui_store.specs.Calls.{Ask, Calls, Torn}
use Rattle.ui_store.specs.declared.store.AskKind.TheVariants as ask
use Rattle.ui_build.specs.Plan.{Text, Refusal, Put, Plan, done, refused, settled, next, ◌>>=◌, asking, writing}
use Rattle.ui_build.specs.Stops.{State, state, with_both, Puts, PutsFront, AsksFront, IsFileOf, Ends, Stops, DoesStop, Does, DoesSeen, Carries, Settles, SettlesStop, refusal_of}
use Rattle.ui_build.specs.Heard.{IsNoRefusal}
use Rattle.ui_build.specs.declared.stop.Refusal.{Refusal as Told}
use Rattle.ui_build.specs.declared.stop.Stop.{Stop}
use Rattle.ui_build.specs.declared.stop.Stop.TheVariants as stop

-- ---- fronts of the calls

pub asks_none : (asks : List Ask) (old new : Calls) → new ≡ old → AsksFront asks old new
asks_none asks old new e = record { front = []; rest = asks; whole = refl; asked = e ∙ sym (more_none old) }

pub asks_all : (asks : List Ask) (old new : Calls) → new ≡ more old asks → AsksFront asks old new
asks_all asks old new e = record { front = asks; rest = []; whole = sym (append-nil asks); asked = e }

pub asks_first : (a b : List Ask) (old new : Calls) → AsksFront a old new → AsksFront (a ++ b) old new
asks_first a b old new f = record { front = f.front; rest = f.rest ++ b; whole = ap (λ x. x ++ b) f.whole ∙ append_assoc f.front f.rest b; asked = f.asked }

pub asks_next : (a b : List Ask) (old mid new : Calls) → mid ≡ more old a → AsksFront b mid new → AsksFront (a ++ b) old new
asks_next a b old mid new e f = record {
  front = a ++ f.front;
  rest = f.rest;
  whole = ap (λ x. a ++ x) f.whole ∙ sym (append_assoc a f.front f.rest);
  asked = f.asked ∙ ap (λ o. more o f.front) e ∙ more_twice old a f.front;
}

-- ---- fronts of the files

pub puts_none : (puts : List Put) (old new : Option Files) → new ≡ old → PutsFront puts old new
puts_none [] old new e = e
puts_none (p ∷ ps) old new e = inl e

pub puts_all : (puts : List Put) (old new : Option Files) → Puts puts old new → PutsFront puts old new
puts_all [] old new e = e
puts_all (p ∷ ps) old new e = inr (e.0, e.1, inr (puts_all ps (with_both p e.0 old) new e.2))

pub puts_first : (a b : List Put) (old new : Option Files) → PutsFront a old new → PutsFront (a ++ b) old new
puts_first [] b old new e = puts_none b old new e
puts_first (p ∷ ps) b old new (inl e) = inl e
puts_first (p ∷ ps) b old new (inr (bytes, file, inl torn)) = inr (bytes, file, inl torn)
puts_first (p ∷ ps) b old new (inr (bytes, file, inr rest)) = inr (bytes, file, inr (puts_first ps b (with_both p bytes old) new rest))

pub puts_append : (a b : List Put) (old mid new : Option Files) → Puts a old mid → Puts b mid new → Puts (a ++ b) old new
puts_append [] b old mid new e q = let P : Option Files → Type 0 = λ o. Puts b o new in subst P e q
puts_append (p ∷ ps) b old mid new e q = (e.0, e.1, puts_append ps b (with_both p e.0 old) mid new e.2 q)

pub puts_next : (a b : List Put) (old mid new : Option Files) → Puts a old mid → PutsFront b mid new → PutsFront (a ++ b) old new
puts_next [] b old mid new e q = let P : Option Files → Type 0 = λ o. PutsFront b o new in subst P e q
puts_next (p ∷ ps) b old mid new e q = inr (e.0, e.1, inr (puts_next ps b (with_both p e.0 old) mid new e.2 q))

-- ---- steps

-- a plan by its parts, with what follows a value
abbrev after : {X Y : Type 0} → Result X Refusal → List Ask → List Put → (X → Plan Y) → Plan Y
after value asks puts f = record { value = (next value f).value; asks = asks ++ (next value f).asks; puts = puts ++ (next value f).puts }

ends_after : {X Y : Type 0} (asks : List Ask) (puts : List Put) (f : X → Plan Y) (x : X) (old mid new : State) → mid.asked ≡ more old.asked asks → Puts puts old.files mid.files → Ends (f x) mid new → Ends (after (Ok x) asks puts f) old new
ends_after asks puts f x old mid new asked files e = record {
  asked = e.asked ∙ ap (λ o. more o (f x).asks) asked ∙ more_twice old.asked asks (f x).asks;
  files = puts_append puts (f x).puts old.files mid.files new.files files e.files;
}

stops_after : {X Y : Type 0} (asks : List Ask) (puts : List Put) (f : X → Plan Y) (x : X) (old mid new : State) → mid.asked ≡ more old.asked asks → Puts puts old.files mid.files → Stops (f x) mid new → Stops (after (Ok x) asks puts f) old new
stops_after asks puts f x old mid new asked files s = record {
  asked = asks_next asks (f x).asks old.asked mid.asked new.asked asked s.asked;
  files = puts_next puts (f x).puts old.files mid.files new.files files s.files;
}

stop_after : {X Y : Type 0} (asks : List Ask) (puts : List Put) (f : X → Plan Y) (x : X) (old mid new : State) (s : Stop) → mid.asked ≡ more old.asked asks → Puts puts old.files mid.files → DoesStop (f x) mid new s → DoesStop (after (Ok x) asks puts f) old new s
stop_after asks puts f x old mid new (stop.Refused r) asked files d = (d.0, ends_after asks puts f x old mid new asked files d.1)
stop_after asks puts f x old mid new (stop.ReadFault n) asked files d = stops_after asks puts f x old mid new asked files d
stop_after asks puts f x old mid new (stop.WriteFault n) asked files d = stops_after asks puts f x old mid new asked files d
stop_after asks puts f x old mid new stop.NoMemory asked files d = stops_after asks puts f x old mid new asked files d

does_after : {B X Y : Type 0} (view : B → Y) (asks : List Ask) (puts : List Put) (f : X → Plan Y) (x : X) (old mid new : State) (r : Result B Stop) → mid.asked ≡ more old.asked asks → Puts puts old.files mid.files → Does view (f x) mid new r → Does view (after (Ok x) asks puts f) old new r
does_after view asks puts f x old mid new (Ok b) asked files d = (d.0, ends_after asks puts f x old mid new asked files d.1)
does_after view asks puts f x old mid new (Err s) asked files d = stop_after asks puts f x old mid new s asked files d

-- a step that gave a value, and the next
pub does_then : {A B X Y : Type 0} (first : A → X) (view : B → Y) (p : Plan X) (f : X → Plan Y) (old mid new : State) (a : A) (r : Result B Stop) → Does first p old mid (Ok a) → Does view (f (first a)) mid new r → Does view (p >>= f) old new r
does_then first view p f old mid new a r d e =
    let P : Result _ Refusal → Type 0 = λ v. Does view (after v p.asks p.puts f) old new r in
    subst P (sym d.0) (does_after view p.asks p.puts f (first a) old mid new r d.1.asked d.1.files e)

refused_first : {X Y : Type 0} (asks : List Ask) (puts : List Put) (f : X → Plan Y) (r : Refusal) (old new : State) → new.asked ≡ more old.asked asks → Puts puts old.files new.files → Ends (after (Err r) asks puts f) old new
refused_first asks puts f r old new asked files = record {
  asked = asked ∙ sym (ap (more old.asked) (append-nil asks));
  files = puts_append puts [] old.files new.files new.files files refl;
}

stops_first : {X Y : Type 0} (p : Plan X) (f : X → Plan Y) (old new : State) → Stops p old new → Stops (p >>= f) old new
stops_first p f old new s = record {
  asked = asks_first p.asks (next p.value f).asks old.asked new.asked s.asked;
  files = puts_first p.puts (next p.value f).puts old.files new.files s.files;
}

-- a step that was stopped
pub does_stop : {X Y : Type 0} (p : Plan X) (f : X → Plan Y) (old new : State) (s : Stop) → DoesStop p old new s → DoesStop (p >>= f) old new s
does_stop p f old new (stop.Refused r) d =
    let P : Result _ Refusal → Type 0 = λ v. DoesStop (after v p.asks p.puts f) old new (stop.Refused r) in
    subst P (sym d.0) (refl, refused_first p.asks p.puts f (refusal_of r) old new d.1.asked d.1.files)
does_stop p f old new (stop.ReadFault n) d = stops_first p f old new d
does_stop p f old new (stop.WriteFault n) d = stops_first p f old new d
does_stop p f old new stop.NoMemory d = stops_first p f old new d

-- nothing was done
pub ends_none : {X : Type 0} (x : X) (s : State) → Ends (done x) s s
ends_none x s = record { asked = sym (more_none s.asked); files = refl }

pub stops_none : {X : Type 0} (p : Plan X) (s : State) → Stops p s s
stops_none p s = record { asked = asks_none p.asks s.asked s.asked refl; files = puts_none p.puts s.files s.files refl }

pub settled_stop : {X : Type 0} (want : Result X Refusal) (s : State) (st : Stop) → SettlesStop want st → DoesStop (settled want) s s st
settled_stop want s (stop.Refused r) e =
    let P : Result _ Refusal → Type 0 = λ w. DoesStop (settled w) s s (stop.Refused r) in
    subst P (sym e) (refl, record { asked = sym (more_none s.asked); files = refl })
settled_stop want s (stop.ReadFault n) e = absurd e
settled_stop want s (stop.WriteFault n) e = absurd e
settled_stop want s stop.NoMemory e = stops_none (settled want) s

-- a result of no step
pub does_settled : {A X : Type 0} (view : A → X) (want : Result X Refusal) (s : State) (r : Result A Stop) → Settles view want r → Does view (settled want) s s r
does_settled view want s (Ok a) e =
    let P : Result _ Refusal → Type 0 = λ w. Does view (settled w) s s (Ok a) in
    subst P (sym e) (refl, record { asked = sym (more_none s.asked); files = refl })
does_settled view want s (Err st) e = settled_stop want s st e

-- ---- the same where the plans are by the files that a store may tell

pub told_stop : {A B X Y : Type 0} (view : A → X) (next_view : B → Y) (p : Files → Plan X) (f : Files → X → Plan Y) (files : Option Files) (asked : Calls) (new : State) (s : Stop)
    → DoesSeen view p (state files asked) new (Err s) → DoesSeen next_view (λ told. p told >>= f told) (state files asked) new (Err s)
told_stop view next_view p f None asked new s d = tt
told_stop view next_view p f (Some told) asked new s d = does_stop (p told) (f told) (state (Some told) asked) new s d

-- a step that left the files, and the next
pub told_then : {A B X Y : Type 0} (view : A → X) (next_view : B → Y) (p : Files → Plan X) (f : Files → X → Plan Y) (files mid : Option Files) (asked mid_asked : Calls) (new : State) (a : A) (r : Result B Stop) → mid ≡ files
    → DoesSeen view p (state files asked) (state mid mid_asked) (Ok a) → DoesSeen next_view (λ told. f told (view a)) (state mid mid_asked) new r → DoesSeen next_view (λ told. p told >>= f told) (state files asked) new r
told_then view next_view p f None mid asked mid_asked new a r same d e = tt
told_then view next_view p f (Some told) mid asked mid_asked new a r same d e =
    let P : Option Files → Type 0 = λ m. IfSome m (λ t. Does next_view (f t (view a)) (state m mid_asked) new r) in
    let Q : Option Files → Type 0 = λ m. Does view (p told) (state (Some told) asked) (state m mid_asked) (Ok a) in
    does_then view next_view (p told) (f told) (state (Some told) asked) (state (Some told) mid_asked) new a r (subst Q same d) (subst P same e)

-- a step by no files
pub told_always : {A X : Type 0} (view : A → X) (p : Plan X) (old new : State) (r : Result A Stop) → Does view p old new r → DoesSeen view (λ _. p) old new r
told_always view p old new r d = at old.files
  where
    at : (files : Option Files) → IfSome files (λ _. Does view p old new r)
    at None = tt
    at (Some told) = d

pub told_none : {A X : Type 0} (view : A → X) (p : Files → Plan X) (files : Option Files) (asked : Calls) → DoesSeen view p (state files asked) (state files asked) (Err stop.NoMemory)
told_none view p None asked = tt
told_none view p (Some told) asked = stops_none (p told) (state (Some told) asked)

-- ---- want of memory in a call on the store, which may then be missing among the calls

asks_maybe : (call : Ask) (old new : Calls) → (new ≡ old) ⊎ (new ≡ more old (call ∷ [])) → AsksFront (call ∷ []) old new
asks_maybe call old new (inl e) = asks_none (call ∷ []) old new e
asks_maybe call old new (inr e) = asks_all (call ∷ []) old new e

pub told_maybe : {A X : Type 0} (view : A → X) (call : Ask) (value : Files → Result X Refusal) (files mid : Option Files) (old new : Calls) → mid ≡ files → (new ≡ old) ⊎ (new ≡ more old (call ∷ []))
    → DoesSeen view (λ told. asking call (value told)) (state files old) (state mid new) (Err stop.NoMemory)
told_maybe view call value None mid old new same asked = tt
told_maybe view call value (Some told) mid old new same asked = record { asked = asks_maybe call old new asked; files = same }

-- the first of the two writes of a package was stopped
pub first_stops : (p : Put) (bytes : Text) (files mid : Option Files) (old new : Calls) → IsFileOf files bytes p.entry → (new ≡ old) ⊎ (new ≡ more old ((ask.Write, p.unit) ∷ [])) → Torn files mid p.unit bytes → Stops (writing p) (state files old) (state mid new)
first_stops p bytes files mid old new file asked torn = record { asked = one asked; files = front torn }
  where
    one : (new ≡ old) ⊎ (new ≡ more old ((ask.Write, p.unit) ∷ [])) → AsksFront (writing p).asks old new
    one (inl e) = asks_none (writing p).asks old new e
    one (inr e) = record { front = (ask.Write, p.unit) ∷ []; rest = (ask.Write, p.linked) ∷ []; whole = refl; asked = e }

    front : Torn files mid p.unit bytes → PutsFront (p ∷ []) files mid
    front (inl e) = inl e
    front (inr (n, e)) = inr (bytes, file, inl (inl (n, e)))

-- the second of them
pub second_stops : (p : Put) (bytes : Text) (files one two : Option Files) (old mid new : Calls) → IsFileOf files bytes p.entry → mid ≡ more old ((ask.Write, p.unit) ∷ []) → one ≡ put files p.unit bytes → (new ≡ mid) ⊎ (new ≡ more mid ((ask.Write, p.linked) ∷ [])) → Torn one two p.linked bytes → Stops (writing p) (state files old) (state two new)
second_stops p bytes files one two old mid new file first written asked torn = record { asked = both asked; files = front torn }
  where
    both : (new ≡ mid) ⊎ (new ≡ more mid ((ask.Write, p.linked) ∷ [])) → AsksFront (writing p).asks old new
    both (inl e) = record { front = (ask.Write, p.unit) ∷ []; rest = (ask.Write, p.linked) ∷ []; whole = refl; asked = e ∙ first }
    both (inr e) = asks_all (writing p).asks old new (e ∙ ap (λ o. more o ((ask.Write, p.linked) ∷ [])) first ∙ more_twice old ((ask.Write, p.unit) ∷ []) ((ask.Write, p.linked) ∷ []))

    whole : one ≡ put files p.unit (take (length bytes) bytes)
    whole = written ∙ ap (put files p.unit) (sym (take_all (length bytes) bytes (omega arith)))

    front : Torn one two p.linked bytes → PutsFront (p ∷ []) files two
    front (inl e) = inr (bytes, file, inl (inl (length bytes, e ∙ whole)))
    front (inr (n, e)) = inr (bytes, file, inl (inr (n, e ∙ ap (λ o. put o p.linked (take n bytes)) written)))

-- both were done
pub both_end : (p : Put) (bytes : Text) (files one two : Option Files) (old mid new : Calls) → IsFileOf files bytes p.entry → mid ≡ more old ((ask.Write, p.unit) ∷ []) → one ≡ put files p.unit bytes → new ≡ more mid ((ask.Write, p.linked) ∷ []) → two ≡ put one p.linked bytes → Ends (writing p) (state files old) (state two new)
both_end p bytes files one two old mid new file first written second last = record {
  asked = second ∙ ap (λ o. more o ((ask.Write, p.linked) ∷ [])) first ∙ more_twice old ((ask.Write, p.unit) ∷ []) ((ask.Write, p.linked) ∷ []);
  files = (bytes, file, last ∙ ap (λ o. put o p.linked bytes) written);
}

-- a step that is stopped by no refusal does what its plan says where it did a front of it
pub no_refusal_stops : {X : Type 0} (plan : Plan X) (old new : State) (s : Stop) → IsNoRefusal s → Stops plan old new → DoesStop plan old new s
no_refusal_stops plan old new (stop.Refused r) is stops = absurd is
no_refusal_stops plan old new (stop.ReadFault n) is stops = stops
no_refusal_stops plan old new (stop.WriteFault n) is stops = stops
no_refusal_stops plan old new stop.NoMemory is stops = stops

-- ---- more on told files

pub told_done : {A X : Type 0} (view : A → X) (x : X) (a : A) (files : Option Files) (asked : Calls) → x ≡ view a → DoesSeen view (λ _. done x) (state files asked) (state files asked) (Ok a)
told_done view x a None asked e = tt
told_done view x a (Some told) asked e = (ap Ok e, ends_none x (state (Some told) asked))

-- two steps, of which the second is by no files, though the first may have changed them
pub told_both : {A B X Y : Type 0} (view : A → X) (next_view : B → Y) (p : Files → Plan X) (q : X → Plan Y) (files : Option Files) (old mid new : State) (a : A) (r : Result B Stop)
    → IfSome files (λ told. Does view (p told) old mid (Ok a)) → IfSome files (λ _. Does next_view (q (view a)) mid new r) → IfSome files (λ told. Does next_view (p told >>= q) old new r)
told_both view next_view p q None old mid new a r d e = tt
told_both view next_view p q (Some told) old mid new a r d e = does_then view next_view (p told) q old mid new a r d e

pub told_refused : {A X : Type 0} (view : A → X) (r : Refusal) (x : Told) (files : Option Files) (asked : Calls) → r ≡ refusal_of x → DoesSeen view (λ _. refused r) (state files asked) (state files asked) (Err (stop.Refused x))
told_refused view r x None asked e = tt
told_refused view r x (Some told) asked e = (ap Err e, record { asked = sym (more_none asked); files = refl })

-- a step, and a result of no step
pub told_settled : {A B X Y : Type 0} (view : A → X) (next_view : B → Y) (p : Files → Plan X) (want : X → Result Y Refusal) (files mid : Option Files) (asked mid_asked : Calls) (a : A) (r : Result B Stop) → mid ≡ files
    → DoesSeen view p (state files asked) (state mid mid_asked) (Ok a) → Settles next_view (want (view a)) r → DoesSeen next_view (λ told. p told >>= λ x. settled (want x)) (state files asked) (state mid mid_asked) r
told_settled view next_view p want files mid asked mid_asked a r same d s =
    told_then view next_view p (λ told x. settled (want x)) files mid asked mid_asked (state mid mid_asked) a r same d
    (told_always next_view (settled (want (view a))) (state mid mid_asked) (state mid mid_asked) r (does_settled next_view (want (view a)) (state mid mid_asked) r s))

-- the value alone is changed
done_asks : {X Y : Type 0} (v : Result X Refusal) (f : X → Y) → (next v (λ x. done (f x))).asks ≡ []
done_asks (Ok x) f = refl
done_asks (Err r) f = refl

done_puts : {X Y : Type 0} (v : Result X Refusal) (f : X → Y) → (next v (λ x. done (f x))).puts ≡ []
done_puts (Ok x) f = refl
done_puts (Err r) f = refl

whole_asks : {X Y : Type 0} (q : Plan X) (f : X → Y) → (q >>= λ x. done (f x)).asks ≡ q.asks
whole_asks q f = ap (λ a. q.asks ++ a) (done_asks q.value f) ∙ append-nil q.asks

whole_puts : {X Y : Type 0} (q : Plan X) (f : X → Y) → (q >>= λ x. done (f x)).puts ≡ q.puts
whole_puts q f = ap (λ a. q.puts ++ a) (done_puts q.value f) ∙ append-nil q.puts

pub ends_mapped : {X Y : Type 0} (q : Plan X) (f : X → Y) (old new : State) → Ends (q >>= λ x. done (f x)) old new → Ends q old new
ends_mapped q f old new e = let P : List Put → Type 0 = λ ps. Puts ps old.files new.files in record { asked = e.asked ∙ ap (more old.asked) (whole_asks q f); files = subst P (whole_puts q f) e.files }

stops_mapped : {X Y : Type 0} (q : Plan X) (f : X → Y) (old new : State) → Stops (q >>= λ x. done (f x)) old new → Stops q old new
stops_mapped q f old new s =
    let P : List Put → Type 0 = λ ps. PutsFront ps old.files new.files in
    let Q : List Ask → Type 0 = λ a. AsksFront a old.asked new.asked in
    record { asked = subst Q (whole_asks q f) s.asked; files = subst P (whole_puts q f) s.files }

abbrev some_refusal : {X : Type 0} → Refusal → Result X Refusal
some_refusal r = Err r

refusal_is : {X : Type 0} (a b : Refusal) → some_refusal {X = X} a ≡ some_refusal b → a ≡ b
refusal_is a b h = cc

mapped_refused : {X Y : Type 0} (v : Result X Refusal) (f : X → Y) (r : Refusal) → (next v (λ x. done (f x))).value ≡ Err r → v ≡ Err r
mapped_refused (Ok x) f r e = absurd cc
mapped_refused {Y = Y} (Err s) f r e = ap some_refusal (refusal_is {X = Y} s r e)

pub stop_mapped : {X Y : Type 0} (q : Plan X) (f : X → Y) (old new : State) (s : Stop) → DoesStop (q >>= λ x. done (f x)) old new s → DoesStop q old new s
stop_mapped q f old new (stop.Refused r) d = (mapped_refused q.value f (refusal_of r) d.0, ends_mapped q f old new d.1)
stop_mapped q f old new (stop.ReadFault n) d = stops_mapped q f old new d
stop_mapped q f old new (stop.WriteFault n) d = stops_mapped q f old new d
stop_mapped q f old new stop.NoMemory d = stops_mapped q f old new d

-- a plan that gave a value had one to go on with
next_ok : {X Y : Type 0} (v : Result X Refusal) (f : X → Plan Y) (y : Y) → (next v f).value ≡ Ok y → (x : X) × (v ≡ Ok x) × ((f x).value ≡ Ok y)
next_ok (Ok x) f y e = (x, refl, e)
next_ok (Err r) f y e = absurd cc

pub bind_ok : {X Y : Type 0} (p : Plan X) (f : X → Plan Y) (y : Y) → (p >>= f).value ≡ Ok y → (x : X) × (p.value ≡ Ok x) × ((f x).value ≡ Ok y)
bind_ok p f y e = next_ok p.value f y e

-- ---- where the code doesn't keep the value

carries_after : {B X Y : Type 0} (holds : Y → Type 0) (asks : List Ask) (puts : List Put) (f : X → Plan Y) (x : X) (old mid new : State) (r : Result B Stop) → mid.asked ≡ more old.asked asks → Puts puts old.files mid.files → Carries holds (f x) mid new r → Carries holds (after (Ok x) asks puts f) old new r
carries_after holds asks puts f x old mid new (Ok b) asked files c = (c.0, c.1, ends_after asks puts f x old mid new asked files c.2, c.3)
carries_after holds asks puts f x old mid new (Err s) asked files c = stop_after asks puts f x old mid new s asked files c

-- a step that gave a value, and the next
pub carries_then : {B X Y : Type 0} (holds : Y → Type 0) (p : Plan X) (f : X → Plan Y) (x : X) (old mid new : State) (r : Result B Stop) → p.value ≡ Ok x → Ends p old mid → Carries holds (f x) mid new r → Carries holds (p >>= f) old new r
carries_then holds p f x old mid new r is e c =
    let P : Result _ Refusal → Type 0 = λ v. Carries holds (after v p.asks p.puts f) old new r in
    subst P (sym is) (carries_after holds p.asks p.puts f x old mid new r e.asked e.files c)
