-- Turns of lists, by what the code tested.
use Rattle.std.proofs.Common.{◌≡◌, ℕ, suc, ◌-◌, Bool, true, false, List, Option, Some, None, is_some, Result, Ok, Err, refl, sym, subst, arith}
use denote.Ref.{MutBor}
use Rattle.ui_base.specs.declared.value.Spot.{Spot}
use Rattle.ui_scan.specs.declared.kind.TokenKind.{TokenKind}
use Rattle.ui_grammar.specs.Word.{Word}
use Rattle.ui_parse.specs.declared.fault.ParseError.{ParseError}
use Rattle.ui_parse.specs.declared.fault.ParseError.TheVariants.{Fault}
use Rattle.ui_parse.specs.declared.turn.Turn.{Turn}
use Rattle.ui_parse.specs.declared.turn.Turn.TheVariants.{More}
use Rattle.ui_parse.specs.Reader.{first, tail, marked, Ending}
use Rattle.ui_parse.specs.List.{Ran, Called, PartRan, stopped, went_on, behind_turn, TurnBy, TurnRan, PartsRan, AfterStep, ChainBy, ChainRan}
use Rattle.ui_parse.specs.Cursor.{after}
use Rattle.ui_parse.specs.View.{Reads}

module _ {S : Type 0} (separator close : TokenKind) (ending : Ending S) (ran : Ran S) (s : S) (ws : List Word) (t : Result (Turn S) ParseError) (left : List Word) where
  by_part : (b : Bool) (x : Option Spot) → x ≡ None → PartRan separator close ending ran s ws t left → TurnBy separator close ending ran b x s ws t left
  by_part true None e h = h
  by_part true (Some x) e h = absurd cc
  by_part false x e h = h

  pub turn_none : (us : List Word) → first (marked close) ws ≡ None → us ≡ ws → PartRan separator close ending ran s us t left → TurnRan separator close ending ran s ws t left
  unfolding TurnRan
  turn_none us e same h = by_part (ending.may s) (first (marked close) ws) e (subst (λ (v : List Word). PartRan separator close ending ran s v t left) same h)

  by_open : (b : Bool) (x : Option Spot) → b ≡ false → PartRan separator close ending ran s ws t left → TurnBy separator close ending ran b x s ws t left
  by_open true x e h = absurd cc
  by_open false x e h = h

  pub turn_open : ending.may s ≡ false → PartRan separator close ending ran s ws t left → TurnRan separator close ending ran s ws t left
  unfolding TurnRan
  turn_open e h = by_open (ending.may s) (first (marked close) ws) e h

abbrev pub Post : Type 0 → Type 1
Post S = MutBor (List Word) → S → Result S ParseError → MutBor (List Word) → Type 0

called : {S : Type 0} (post : Post S) (old new : MutBor (List Word)) (s : S) (r r2 : Result S ParseError) → post old s r new → r ≡ r2 → Called post s old.now r2 new.now
called post old new s r r2 p e = record { old = old; new = new; posted = subst (λ (r : Result _ ParseError). post old s r new) e p; at = refl; behind = refl }

module _ {S : Type 0} (separator close : TokenKind) (ending : Ending S) (post : Post S) where
  pub part_went_on : (old new : MutBor (List Word)) (s s2 : S) (r : Result S ParseError) (t : Result (Turn S) ParseError) (left : List Word) → post old s r new → r ≡ Ok s2
      → Reads (λ (x : Turn S). x) (behind_turn ending separator close s2 new.now) t left → PartRan separator close ending (Called post) s old.now t left
  part_went_on old new s s2 r t left p e h = went_on s2 new.now (called post old new s r (Ok s2) p e) h

  pub part_stopped : (old new : MutBor (List Word)) (s : S) (r : Result S ParseError) (error : ParseError) → post old s r new → r ≡ Err error
      → PartRan separator close ending (Called post) s old.now (Err error) new.now
  part_stopped old new s r error p e = stopped error (called post old new s r (Err error) p e) refl

pub fewer : (n : ℕ) → (n ≡ 0 → ⊥) → suc (n - 1) ≡ n
fewer n some = omega (arith, some)

module _ {S : Type 0} (separator close : TokenKind) (ending : Ending S) (ran : Ran S) where
  pub one_more : (n : ℕ) (s s2 : S) (ws m : List Word) (t : Result (Turn S) ParseError) (r : Result S ParseError) (left : List Word) → TurnRan separator close ending ran s ws t m → t ≡ Ok (More s2) → (n ≡ 0 → ⊥)
      → PartsRan separator close ending ran (suc (n - 1)) s2 m r left → PartsRan separator close ending ran (suc n) s ws r left
  one_more n s s2 ws m t r left turn is some h =
      (Ok (More s2), m, subst (λ (t : Result (Turn S) ParseError). TurnRan separator close ending ran s ws t m) is turn, subst (λ (k : ℕ). PartsRan separator close ending ran k s2 m r left) (fewer n some) h)

-- where a separator was taken
record Separated (separator : TokenKind) (ws us : List Word) : Type 0 where
  spot : Spot
  found : first (marked separator) ws ≡ Some spot
  left : us ≡ tail ws

separated : (separator : TokenKind) (ws us : List Word) (x : Option Spot) → x ≡ first (marked separator) ws → us ≡ after x ws → is_some x ≡ true → Separated separator ws us
separated separator ws us None found left some = absurd cc
separated separator ws us (Some s) found left some = record { spot = s; found = sym found; left = left }

none_taken : (separator : TokenKind) (ws us : List Word) (x : Option Spot) → x ≡ first (marked separator) ws → us ≡ after x ws → is_some x ≡ false → (first (marked separator) ws ≡ None) × (us ≡ ws)
none_taken separator ws us None found left absent = (sym found, left)
none_taken separator ws us (Some s) found left absent = absurd cc

module _ {S : Type 0} (separator : TokenKind) (post : Post S) (n : ℕ) (s : S) (ws us : List Word) (x : Option Spot) (found : x ≡ first (marked separator) ws) (left_is : us ≡ after x ws) where
  pub chain_stops : is_some x ≡ false → ChainRan separator (Called post) (suc n) s ws (Ok s) us
  chain_stops absent =
      let h = none_taken separator ws us x found left_is absent in
      subst (λ (o : Option Spot). ChainBy separator (Called post) (ChainRan separator (Called post) n) o s ws (Ok s) us) (sym h.0) (refl, h.1)

  stepped : (t r : Result S ParseError) (m left : List Word) → is_some x ≡ true → Called post s us t m → AfterStep separator (Called post) (ChainRan separator (Called post) n) t m r left → ChainRan separator (Called post) (suc n) s ws r left
  stepped t r m left some c a =
      let h = separated separator ws us x found left_is some in
      subst (λ (o : Option Spot). ChainBy separator (Called post) (ChainRan separator (Called post) n) o s ws r left) (sym h.found)
      (t, m, subst (λ (v : List Word). Called post s v t m) h.left c, a)

  pub chain_fails : (old new : MutBor (List Word)) (t : Result S ParseError) (e : ParseError) → is_some x ≡ true → old.now ≡ us → post old s t new → t ≡ Err e → ChainRan separator (Called post) (suc n) s ws (Err e) new.now
  chain_fails old new t e some at p is = stepped (Err e) (Err e) new.now new.now some (subst (λ (v : List Word). Called post s v (Err e) new.now) at (called post old new s t (Err e) p is)) (refl, refl)

  pub chain_spent : (old new : MutBor (List Word)) (t : Result S ParseError) (s2 : S) → is_some x ≡ true → old.now ≡ us → post old s t new → t ≡ Ok s2 → n ≡ 0 → ChainRan separator (Called post) (suc n) s ws (Err Fault) new.now
  chain_spent old new t s2 some at p is spent = stepped (Ok s2) (Err Fault) new.now new.now some (subst (λ (v : List Word). Called post s v (Ok s2) new.now) at (called post old new s t (Ok s2) p is))
      (subst (λ (k : ℕ). ChainRan separator (Called post) k s2 new.now (Err Fault) new.now) (sym spent) (refl, refl))

  pub chain_more : (old new : MutBor (List Word)) (t : Result S ParseError) (s2 : S) (r : Result S ParseError) (left : List Word) → is_some x ≡ true → old.now ≡ us → post old s t new → t ≡ Ok s2 → (n ≡ 0 → ⊥)
      → ChainRan separator (Called post) (suc (n - 1)) s2 new.now r left → ChainRan separator (Called post) (suc n) s ws r left
  chain_more old new t s2 r left some at p is more h = stepped (Ok s2) r new.now left some (subst (λ (v : List Word). Called post s v (Ok s2) new.now) at (called post old new s t (Ok s2) p is))
      (subst (λ (k : ℕ). ChainRan separator (Called post) k s2 new.now r left) (fewer n more) h)
