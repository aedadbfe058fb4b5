-- The code's lists follow the readers of lists, where each step follows the readers' step.
use Rattle.std.proofs.Common.{◌≡◌, ℕ, zero, suc, Bool, true, false, cond, List, length, Option, Some, None, Result, Ok, Err, refl, sym, ap, subst}
use denote.Ref.{MutBor}
use Rattle.ui_base.specs.declared.value.Spot.{Spot}
use Rattle.ui_scan.specs.declared.kind.TokenKind.{TokenKind}
use Rattle.ui_grammar.specs.Word.{Word}
use Rattle.ui_parse.specs.declared.fault.ParseError.{ParseError}
use Rattle.ui_parse.specs.declared.fault.ParseError.TheVariants.{NoMemory, Fault}
use Rattle.ui_parse.specs.declared.turn.Turn.{Turn}
use Rattle.ui_parse.specs.declared.turn.Turn.TheVariants.{Done, More}
use Rattle.ui_parse.specs.Reader.{Outcome, Reader, and_then, pure, refuse, first, tail, taken, take_by, marked, eat, expect, Ending, closing, behind, parts_from, parts, more_parts, chain_from, chain}
use Rattle.ui_parse.specs.View.{Reads}
use Rattle.ui_parse.specs.List.{Ran, Called, close_turn, behind_turn, PartRan, stopped, went_on, TurnBy, TurnRan, PartsRan, AfterTurn, MoreRan, ChainBy, ChainRan, AfterStep}

abbrev pub see_turn : {S V : Type 0} → (S → V) → Turn S → Turn V
see_turn see (Done s) = Done (see s)
see_turn see (More s) = More (see s)

abbrev pub after_turn : {V : Type 0} → (V → Reader V) → Turn V → Reader V
after_turn again (Done v) = pure v
after_turn again (More v) = again v

-- ---- what an answer says of the outcome, and an answer where the outcome is another's

pub read_is : {A X : Type 0} (see : X → A) (o : Outcome A) (x : X) (m : List Word) → Reads see o (Ok x) m → o ≡ Ok (see x, m)
read_is see (Ok p) x m h = rw (h.0, h.1) refl
read_is see (Err ws) x m h = absurd h

pub reads_as : {A X : Type 0} (see : X → A) (o o' : Outcome A) (r : Result X ParseError) (left : List Word) → o ≡ o' → Reads see o r left → Reads see o' r left
reads_as {A = A} see o o' r left e h = subst (λ (o : Outcome A). Reads see o r left) e h

pub reads_ok : {A X : Type 0} (see : X → A) (o : Outcome A) (x : X) (left : List Word) → o ≡ Ok (see x, left) → Reads see o (Ok x) left
reads_ok {A = A} see o x left e = subst (λ (o : Outcome A). Reads see o (Ok x) left) (sym e) (refl, refl)

pub no_memory : {A X : Type 0} (see : X → A) (o : Outcome A) (left : List Word) → Reads see o (Err NoMemory) left
no_memory see (Ok p) left = tt
no_memory see (Err ws) left = tt

-- a fault of a part is one of the whole
pub reads_fault : {A B X Y : Type 0} (see : X → A) (see' : Y → B) (o : Outcome A) (f : A → Reader B) (e : ParseError) (left : List Word) → Reads see o (Err e) left → Reads see' (and_then o f) (Err e) left
reads_fault see see' o f NoMemory left h = no_memory see' (and_then o f) left
reads_fault see see' (Ok p) f Fault left h = absurd h
reads_fault see see' (Err ws) f Fault left h = h

-- what was read goes on
pub reads_then : {A B X Y : Type 0} (see : X → A) (see' : Y → B) (o : Outcome A) (f : A → Reader B) (x : X) (m : List Word) (r : Result Y ParseError) (left : List Word) → Reads see o (Ok x) m → Reads see' (f (see x) m) r left → Reads see' (and_then o f) r left
reads_then see see' (Ok p) f x m r left h g = subst (λ (v : List Word). Reads see' (f p.0 v) r left) h.1 (subst (λ a. Reads see' (f a m) r left) h.0 g)
reads_then see see' (Err ws) f x m r left h g = absurd h

-- ---- a reader, and another with more behind it

pub then_bind : {A B C : Type 0} (o : Outcome A) (f : A → Reader C) (g : A → Reader B) (h : B → Reader C) → ((a : A) (ws : List Word) → f a ws ≡ and_then (g a ws) h) → and_then o f ≡ and_then (and_then o g) h
then_bind (Ok p) f g h same = same p.0 p.1
then_bind (Err ws) f g h same = refl

pub then_taken : {A B C : Type 0} (x : Option B) (on : B → Reader C) (other : Reader C) (on' : B → Reader A) (other' : Reader A) (h : A → Reader C) (ws : List Word)
    → ((b : B) → on b (tail ws) ≡ and_then (on' b (tail ws)) h) → other ws ≡ and_then (other' ws) h → taken x on other ws ≡ and_then (taken x on' other' ws) h
then_taken None on other on' other' h ws same others = others
then_taken (Some b) on other on' other' h ws same others = same b

pub then_take : {A B C : Type 0} (test : Word → Option B) (on : B → Reader C) (other : Reader C) (on' : B → Reader A) (other' : Reader A) (h : A → Reader C) (ws : List Word)
    → ((b : B) → on b (tail ws) ≡ and_then (on' b (tail ws)) h) → other ws ≡ and_then (other' ws) h → take_by test on other ws ≡ and_then (take_by test on' other' ws) h
unfolding take_by
then_take test on other on' other' h ws same others = then_taken (first test ws) on other on' other' h ws same others

pub then_cond : {A C : Type 0} (b b' : Bool) (p q : Reader C) (p' q' : Reader A) (h : A → Reader C) (ws : List Word) → b' ≡ b → p ws ≡ and_then (p' ws) h → q ws ≡ and_then (q' ws) h → cond b p q ws ≡ and_then (cond b' p' q' ws) h
then_cond true true p q p' q' h ws e on off = on
then_cond true false p q p' q' h ws e on off = absurd cc
then_cond false true p q p' q' h ws e on off = absurd cc
then_cond false false p q p' q' h ws e on off = off

module _ {V : Type 0} (separator close : TokenKind) (ending : Ending V) (spec : V → Reader V) where
  close_is : (again : V → Reader V) (v : V) (ws : List Word) → closing separator close ending spec v ws ≡ and_then (close_turn ending close v ws) (after_turn again)
  unfolding close_turn
  close_is again v ws = then_cond (ending.may v) (ending.may v) (λ u. and_then (expect close u) (λ _. pure v)) refuse (λ u. and_then (expect close u) (λ _. pure (Done v))) refuse (after_turn again) ws refl
      (then_bind (expect close ws) (λ _. pure v) (λ _. pure (Done v)) (after_turn again) (λ _ u. refl)) refl

  behind_is : (again : V → Reader V) (v : V) (ws : List Word) → behind separator close ending spec again v ws ≡ and_then (behind_turn ending separator close v ws) (after_turn again)
  unfolding behind_turn
  behind_is again v ws = then_cond (ending.must v) (ending.must v)
      (λ u. and_then (eat separator u) (λ _. closing separator close ending spec v)) (take_by (marked separator) (λ _. again v) (closing separator close ending spec v))
      (λ u. and_then (eat separator u) (λ _. close_turn ending close v)) (take_by (marked separator) (λ _. pure (More v)) (close_turn ending close v)) (after_turn again) ws refl
      (then_bind (eat separator ws) (λ _. closing separator close ending spec v) (λ _. close_turn ending close v) (after_turn again) (λ _ u. close_is again v u))
      (then_take (marked separator) (λ _. again v) (closing separator close ending spec v) (λ _. pure (More v)) (close_turn ending close v) (after_turn again) ws (λ _. refl) (close_is again v ws))

  one_part : V → Reader (Turn V)
  one_part v = λ ws. and_then (spec v ws) (behind_turn ending separator close)

  one_turn : V → Reader (Turn V)
  one_turn v = cond (ending.may v) (take_by (marked close) (λ _. pure (Done v)) (one_part v)) (one_part v)

  turn_is : (n : ℕ) (v : V) (ws : List Word) → parts_from separator close ending spec (suc n) v ws ≡ and_then (one_turn v ws) (after_turn (parts_from separator close ending spec n))
  unfolding parts_from one_turn one_part
  turn_is n v ws =
      let again = parts_from separator close ending spec n in
      let go = then_bind (spec v ws) (behind separator close ending spec again) (behind_turn ending separator close) (after_turn again) (λ v2 u. behind_is again v2 u) in
      then_cond (ending.may v) (ending.may v) (take_by (marked close) (λ _. pure v) (λ u. and_then (spec v u) (behind separator close ending spec again))) (λ u. and_then (spec v u) (behind separator close ending spec again))
      (take_by (marked close) (λ _. pure (Done v)) (one_part v)) (one_part v) (after_turn again) ws refl
      (then_take (marked close) (λ _. pure v) (λ u. and_then (spec v u) (behind separator close ending spec again)) (λ _. pure (Done v)) (one_part v) (after_turn again) ws (λ _. refl) go) go

reads_map : {A B : Type 0} (see : A → B) (o : Outcome A) (t : Result A ParseError) (left : List Word) → Reads (λ (x : A). x) o t left → Reads see (and_then o (λ x. pure (see x))) t left
reads_map see (Ok p) (Ok x) left h = (ap see h.0, h.1)
reads_map see (Ok p) (Err NoMemory) left h = tt
reads_map see (Ok p) (Err Fault) left h = absurd h
reads_map see (Err ws) (Ok x) left h = absurd h
reads_map see (Err ws) (Err NoMemory) left h = tt
reads_map see (Err ws) (Err Fault) left h = h

module _ {S V : Type 0} (separator close : TokenKind) (ours : Ending S) (ending : Ending V) (see : S → V) (ran : Ran S) (spec : V → Reader V)
    (may_same : (s : S) → ours.may s ≡ ending.may (see s)) (must_same : (s : S) → ours.must s ≡ ending.must (see s))
    (reads : (s : S) (ws : List Word) (r : Result S ParseError) (left : List Word) → ran s ws r left → Reads see (spec (see s) ws) r left) where
  abbrev seen : Turn S → Reader (Turn V)
  seen t = pure (see_turn see t)

  close_seen : (s : S) (ws : List Word) → close_turn ending close (see s) ws ≡ and_then (close_turn ours close s ws) seen
  unfolding close_turn
  close_seen s ws = then_cond (ending.may (see s)) (ours.may s) (λ u. and_then (expect close u) (λ _. pure (Done (see s)))) refuse (λ u. and_then (expect close u) (λ _. pure (Done s))) refuse seen ws (may_same s)
      (then_bind (expect close ws) (λ _. pure (Done (see s))) (λ _. pure (Done s)) seen (λ _ u. refl)) refl

  behind_seen : (s : S) (ws : List Word) → behind_turn ending separator close (see s) ws ≡ and_then (behind_turn ours separator close s ws) seen
  unfolding behind_turn
  behind_seen s ws = then_cond (ending.must (see s)) (ours.must s)
      (λ u. and_then (eat separator u) (λ _. close_turn ending close (see s))) (take_by (marked separator) (λ _. pure (More (see s))) (close_turn ending close (see s)))
      (λ u. and_then (eat separator u) (λ _. close_turn ours close s)) (take_by (marked separator) (λ _. pure (More s)) (close_turn ours close s)) seen ws (must_same s)
      (then_bind (eat separator ws) (λ _. close_turn ending close (see s)) (λ _. close_turn ours close s) seen (λ _ u. close_seen s u))
      (then_take (marked separator) (λ _. pure (More (see s))) (close_turn ending close (see s)) (λ _. pure (More s)) (close_turn ours close s) seen ws (λ _. refl) (close_seen s ws))

  behind_reads : (s : S) (ws : List Word) (t : Result (Turn S) ParseError) (left : List Word) → Reads (λ (x : Turn S). x) (behind_turn ours separator close s ws) t left
      → Reads (see_turn see) (behind_turn ending separator close (see s) ws) t left
  behind_reads s ws t left h = subst (λ (o : Outcome (Turn V)). Reads (see_turn see) o t left) (sym (behind_seen s ws)) (reads_map (see_turn see) (behind_turn ours separator close s ws) t left h)

  part_reads : (s : S) (ws : List Word) (t : Result (Turn S) ParseError) (left : List Word) → PartRan separator close ours ran s ws t left → Reads (see_turn see) (one_part separator close ending spec (see s) ws) t left
  unfolding one_part
  part_reads s ws t left (stopped e h is) = subst (λ (t : Result (Turn S) ParseError). Reads (see_turn see) (one_part separator close ending spec (see s) ws) t left) (sym is)
      (reads_fault see (see_turn see) (spec (see s) ws) (behind_turn ending separator close) e left (reads s ws (Err e) left h))
  part_reads s ws t left (went_on s2 m h g) = reads_then see (see_turn see) (spec (see s) ws) (behind_turn ending separator close) s2 m t left (reads s ws (Ok s2) m h) (behind_reads s2 m t left g)

  taken_reads : (x : Option Spot) (s : S) (ws : List Word) (t : Result (Turn S) ParseError) (left : List Word) → TurnBy separator close ours ran true x s ws t left
      → Reads (see_turn see) (taken x (λ _. pure (Done (see s))) (one_part separator close ending spec (see s)) ws) t left
  taken_reads (Some x) s ws t left h = subst (λ (t : Result (Turn S) ParseError). Reads (see_turn see) (Ok (Done (see s), tail ws)) t left) (sym h.0) (refl, h.1)
  taken_reads None s ws t left h = part_reads s ws t left h

  turn_by : (b : Bool) (s : S) (ws : List Word) (t : Result (Turn S) ParseError) (left : List Word) → TurnBy separator close ours ran b (first (marked close) ws) s ws t left
      → Reads (see_turn see) (cond b (take_by (marked close) (λ _. pure (Done (see s))) (one_part separator close ending spec (see s))) (one_part separator close ending spec (see s)) ws) t left
  unfolding take_by
  turn_by true s ws t left h = taken_reads (first (marked close) ws) s ws t left h
  turn_by false s ws t left h = part_reads s ws t left h

  turn_reads : (s : S) (ws : List Word) (t : Result (Turn S) ParseError) (left : List Word) → TurnRan separator close ours ran s ws t left → Reads (see_turn see) (one_turn separator close ending spec (see s) ws) t left
  unfolding TurnRan one_turn
  turn_reads s ws t left h = subst (λ (b : Bool). Reads (see_turn see) (cond b (take_by (marked close) (λ _. pure (Done (see s))) (one_part separator close ending spec (see s))) (one_part separator close ending spec (see s)) ws) t left) (may_same s)
      (turn_by (ours.may s) s ws t left h)

  -- what comes after a turn
  goes_on : (again : V → Reader V) (code : Ran S) (m : List Word) → ((s : S) (r : Result S ParseError) (left : List Word) → code s m r left → Reads see (again (see s) m) r left)
      → (o : Outcome (Turn V)) (t : Result (Turn S) ParseError) (r : Result S ParseError) (left : List Word) → Reads (see_turn see) o t m → AfterTurn separator close ours ran code t m r left → Reads see (and_then o (after_turn again)) r left
  goes_on again code m ih o (Err e) r left h a = subst (λ (r : Result S ParseError). Reads see (and_then o (after_turn again)) r left) (sym a.0)
      (subst (λ (v : List Word). Reads see (and_then o (after_turn again)) (Err e) v) (sym a.1) (reads_fault (see_turn see) see o (after_turn again) e m h))
  goes_on again code m ih o (Ok (Done s)) r left h a = reads_then (see_turn see) see o (after_turn again) (Done s) m r left h
      (subst (λ (r : Result S ParseError). Reads see (Ok (see s, m)) r left) (sym a.0) (refl, a.1))
  goes_on again code m ih o (Ok (More s)) r left h a = reads_then (see_turn see) see o (after_turn again) (More s) m r left h (ih s r left a)

  parts_from_read : (n : ℕ) (s : S) (ws : List Word) (r : Result S ParseError) (left : List Word) → PartsRan separator close ours ran n s ws r left → Reads see (parts_from separator close ending spec n (see s) ws) r left
  unfolding parts_from
  parts_from_read zero s ws r left h = subst (λ (r : Result S ParseError). Reads see (Err ws) r left) (sym h.0) h.1
  parts_from_read (suc n) s ws r left h = subst (λ (o : Outcome V). Reads see o r left) (sym (turn_is separator close ending spec n (see s) ws))
      (goes_on (parts_from separator close ending spec n) (PartsRan separator close ours ran n) h.1 (λ s2 r2 left2. parts_from_read n s2 h.1 r2 left2) (one_turn separator close ending spec (see s) ws) h.0 r left (turn_reads s ws h.0 h.1 h.2) h.3)

  pub parts_read : (s : S) (ws : List Word) (r : Result S ParseError) (left : List Word) → PartsRan separator close ours ran (suc (length ws)) s ws r left → Reads see (parts separator close ending spec (see s) ws) r left
  unfolding parts
  parts_read s ws r left h = parts_from_read (suc (length ws)) s ws r left h

  pub more_parts_read : (s : S) (ws : List Word) (r : Result S ParseError) (left : List Word) → MoreRan separator close ours ran s ws r left → Reads see (more_parts separator close ending spec (see s) ws) r left
  unfolding more_parts
  more_parts_read s ws r left h = subst (λ (o : Outcome V). Reads see o r left) (sym (behind_is separator close ending spec (parts separator close ending spec) (see s) ws))
      (goes_on (parts separator close ending spec) (PartsRan separator close ours ran (suc (length h.1))) h.1 (λ s2 r2 left2. parts_read s2 h.1 r2 left2) (behind_turn ending separator close (see s) ws) h.0 r left (behind_reads s ws h.0 h.1 h.2) h.3)

module _ {S V : Type 0} (separator : TokenKind) (see : S → V) (ran : Ran S) (spec : V → Reader V)
    (reads : (s : S) (ws : List Word) (r : Result S ParseError) (left : List Word) → ran s ws r left → Reads see (spec (see s) ws) r left) where
  chain_after : (n : ℕ) (m : List Word) → ((s : S) (r : Result S ParseError) (left : List Word) → ChainRan separator ran n s m r left → Reads see (chain_from separator spec n (see s) m) r left)
      → (o : Outcome V) (t : Result S ParseError) (r : Result S ParseError) (left : List Word) → Reads see o t m → AfterStep separator ran (ChainRan separator ran n) t m r left → Reads see (and_then o (chain_from separator spec n)) r left
  chain_after n m ih o (Err e) r left h a = subst (λ (r : Result S ParseError). Reads see (and_then o (chain_from separator spec n)) r left) (sym a.0)
      (subst (λ (v : List Word). Reads see (and_then o (chain_from separator spec n)) (Err e) v) (sym a.1) (reads_fault see see o (chain_from separator spec n) e m h))
  chain_after n m ih o (Ok s) r left h a = reads_then see see o (chain_from separator spec n) s m r left h (ih s r left a)

  chain_by : (n : ℕ) (ih : (m : List Word) (s : S) (r : Result S ParseError) (left : List Word) → ChainRan separator ran n s m r left → Reads see (chain_from separator spec n (see s) m) r left)
      → (x : Option Spot) (s : S) (ws : List Word) (r : Result S ParseError) (left : List Word) → ChainBy separator ran (ChainRan separator ran n) x s ws r left → Reads see (taken x (λ _ u. and_then (spec (see s) u) (chain_from separator spec n)) (pure (see s)) ws) r left
  chain_by n ih None s ws r left h = subst (λ (r : Result S ParseError). Reads see (Ok (see s, ws)) r left) (sym h.0) (refl, h.1)
  chain_by n ih (Some x) s ws r left h = chain_after n h.1 (ih h.1) (spec (see s) (tail ws)) h.0 r left (reads s (tail ws) h.0 h.1 h.2) h.3

  chain_from_read : (n : ℕ) (s : S) (ws : List Word) (r : Result S ParseError) (left : List Word) → ChainRan separator ran n s ws r left → Reads see (chain_from separator spec n (see s) ws) r left
  unfolding chain_from take_by
  chain_from_read zero s ws r left h = subst (λ (r : Result S ParseError). Reads see (Err ws) r left) (sym h.0) h.1
  chain_from_read (suc n) s ws r left h = chain_by n (λ m s2 r2 left2. chain_from_read n s2 m r2 left2) (first (marked separator) ws) s ws r left h

  pub chain_read : (s : S) (ws : List Word) (r : Result S ParseError) (left : List Word) → ChainRan separator ran (suc (length ws)) s ws r left → Reads see (chain separator spec (see s) ws) r left
  unfolding chain
  chain_read s ws r left h = chain_from_read (suc (length ws)) s ws r left h

-- where each call of a function value follows the readers' step
pub called_reads : {S V : Type 0} (see : S → V) (post : MutBor (List Word) → S → Result S ParseError → MutBor (List Word) → Type 0) (spec : V → Reader V)
    → ((old new : MutBor (List Word)) (s : S) (r : Result S ParseError) → post old s r new → Reads see (spec (see s) old.now) r new.now)
    → (s : S) (ws : List Word) (r : Result S ParseError) (left : List Word) → Called post s ws r left → Reads see (spec (see s) ws) r left
called_reads see post spec reads s ws r left c =
    subst (λ (v : List Word). Reads see (spec (see s) v) r left) c.at (subst (λ (v : List Word). Reads see (spec (see s) c.old.now) r v) c.behind (reads c.old c.new s r c.posted))
