-- Lists of parts, turn by turn.
use Rattle.std.proofs.Common.{◌≡◌, inl, inr, ℕ, zero, suc, ◌<◌, Bool, true, false, cond, List, ◌∷◌, length, None, Ok, refl, sym, ap, subst, ◌∙◌, arith}
use Rattle.ui_base.specs.declared.value.Spot.{Spot}
use Rattle.ui_scan.specs.declared.kind.TokenKind.{TokenKind}
use Rattle.ui_grammar.specs.Word.{Word, mark, Closes}
use Rattle.ui_parse.specs.Kind.{is_kind}
use Rattle.ui_parse.specs.Reader.{Reader, and_then, pure, refuse, first, take_by, marked, eat, expect, chain_from, chain, Ending, closing, behind, parts_from, parts, more_parts}
use Rattle.ui_parse.proofs.Outcomes.{Holds, good, bad, bind, both, choose, mark_holds, expect_holds, eat_holds, first_other, take_mark, take_other, expect_mark, eat_mark, eat_other}
use Rattle.ui_parse.proofs.Alike.{suffix_length}
use Rattle.ui_parse.proofs.Steady.{Steady, chain_fuel, parts_fuel, bind_same, behind_same}

module _ {S : Type 0} (separator : TokenKind) (step : S → Reader S) (step_is : (s : S) → Steady (step s)) where
  pub chain_end : (s : S) (ws : List Word) → first (marked separator) ws ≡ None → chain separator step s ws ≡ Ok (s, ws)
  unfolding chain chain_from
  chain_end s ws e = take_other (marked separator) _ (pure s) ws e

  -- behind a separator
  pub chain_step : (s : S) (x : Spot) (ws : List Word) → chain separator step s (mark separator x ∷ ws) ≡ and_then (step s ws) (chain separator step)
  unfolding chain chain_from
  chain_step s x ws = take_mark separator _ (pure s) x ws
      ∙ bind_same ws (step s ws) (chain_from separator step (suc (length ws))) (chain separator step) ((step_is s).ends ws)
      (λ s2 r sfx. chain_fuel separator step step_is (suc (length ws)) (suc (length r)) s2 r (omega (arith, suffix_length ws r sfx)) (omega arith))

  pub chain_next : (s : S) (x : Spot) (ws : List Word) (s2 : S) (more : List Word) → step s ws ≡ Ok (s2, more) → chain separator step s (mark separator x ∷ ws) ≡ chain separator step s2 more
  chain_next s x ws s2 more e = chain_step s x ws ∙ rw e refl

  -- what each step keeps, and its faults
  module _ (I : S → List Word → Type 0) (F : List Word → Type 0) (kept : (s : S) (x : Spot) (ws rest : List Word) → I s ws → ws ≡ mark separator x ∷ rest → Holds I F (step s rest)) where
    chain_from_holds : (n : ℕ) (s : S) (ws : List Word) → length ws < n → I s ws → Holds (λ s2 rest. I s2 rest × (first (marked separator) rest ≡ None)) F (chain_from separator step n s ws)
    unfolding chain_from
    chain_from_holds zero s ws lt i = absurd (omega arith)
    chain_from_holds (suc n) s ws lt i = mark_holds separator (λ _ rest. and_then (step s rest) (chain_from separator step n)) (pure s) ws
        (λ x rest e. bind (both ((step_is s).ends rest) (kept s x ws rest i e)) (λ s2 r h. chain_from_holds n s2 r (omega (arith, suffix_length rest r h.0, ap length e)) h.1) (λ r h. h.1))
        (λ e. good (i, e))

    pub chain_holds : (s : S) (ws : List Word) → I s ws → Holds (λ s2 rest. I s2 rest × (first (marked separator) rest ≡ None)) F (chain separator step s ws)
    unfolding chain
    chain_holds s ws i = chain_from_holds (suc (length ws)) s ws (omega arith) i

-- no part ends at the close here: it stands elsewhere, or none may come
abbrev pub GoesOn : Bool → TokenKind → List Word → Type 0
GoesOn true close ws = first (marked close) ws ≡ None
GoesOn false close ws = Unit {0}

module _ {S : Type 0} (separator close : TokenKind) (ending : Ending S) (step : S → Reader S) (step_is : (s : S) → Steady (step s)) where
  abbrev all : S → Reader S
  all s = parts separator close ending step s

  abbrev more : S → Reader S
  more s = more_parts separator close ending step s

  goes_on : (b : Bool) (s : S) (go : Reader S) (ws : List Word) → GoesOn b close ws → cond b (take_by (marked close) (λ _. pure s) go) go ws ≡ go ws
  goes_on true s go ws e = take_other (marked close) (λ _. pure s) go ws e
  goes_on false s go ws e = refl

  -- a part, and what follows it
  pub parts_step : (s : S) (ws : List Word) → GoesOn (ending.may s) close ws → all s ws ≡ and_then (step s ws) more
  unfolding parts parts_from more_parts
  parts_step s ws e = goes_on (ending.may s) s _ ws e
      ∙ bind_same ws (step s ws) (behind separator close ending step (parts_from separator close ending step (length ws))) (behind separator close ending step all) ((step_is s).ends ws)
      (λ s2 r sfx. behind_same separator close ending step step_is (parts_from separator close ending step (length ws)) all s2 r
      (λ rest less. parts_fuel separator close ending step step_is (length ws) (suc (length rest)) s2 rest (omega (arith, suffix_length ws r sfx)) (omega arith)))

  pub parts_close : (s : S) (x : Spot) (rest : List Word) → ending.may s ≡ true → all s (mark close x ∷ rest) ≡ Ok (s, rest)
  unfolding parts parts_from
  parts_close s x rest e = rw e (take_mark close (λ _. pure s) _ x rest)

  -- a separator, behind which a part may come
  pub more_next : (s : S) (x : Spot) (ws : List Word) → ending.must s ≡ false → more s (mark separator x ∷ ws) ≡ all s ws
  unfolding more_parts
  more_next s x ws e = rw e (take_mark separator (λ _. all s) _ x ws)

  closing_at : (s : S) (x : Spot) (rest : List Word) → ending.may s ≡ true → closing separator close ending step s (mark close x ∷ rest) ≡ Ok (s, rest)
  closing_at s x rest e = rw (e, expect_mark) refl

  more_close : (s : S) (x : Spot) (rest : List Word) (b : Bool) → ending.must s ≡ b → ending.may s ≡ true → is_kind close separator ≡ false → more s (mark close x ∷ rest) ≡ Ok (s, rest)
  unfolding more_parts
  more_close s x rest true must may other = rw (must, eat_other separator (mark close x ∷ rest) (first_other separator close x rest other)) (closing_at s x rest may)
  more_close s x rest false must may other = rw must (take_other (marked separator) (λ _. all s) (closing separator close ending step s) (mark close x ∷ rest) (first_other separator close x rest other) ∙ closing_at s x rest may)

  more_separated : (s : S) (x y : Spot) (rest : List Word) (b : Bool) → ending.must s ≡ b → ending.may s ≡ true → more s (mark separator x ∷ (mark close y ∷ rest)) ≡ Ok (s, rest)
  unfolding more_parts
  more_separated s x y rest true must may = rw (must, eat_mark separator x (mark close y ∷ rest)) (closing_at s y rest may)
  more_separated s x y rest false must may = more_next s x (mark close y ∷ rest) must ∙ parts_close s y rest may

  -- the end behind a part
  pub more_ends : (s : S) (ws rest : List Word) → ending.may s ≡ true → is_kind close separator ≡ false → Closes separator close ws rest → more s ws ≡ Ok (s, rest)
  more_ends s ws rest may other (inl m) = ap (more s) m.is ∙ more_close s m.spot rest (ending.must s) refl may other
  more_ends s ws rest may other (inr c) = ap (more s) (c.1.is ∙ ap (λ (v : List Word). mark separator c.1.spot ∷ v) c.2.is) ∙ more_separated s c.1.spot c.2.spot rest (ending.must s) refl may

  -- one part read, with a separator behind it
  pub parts_next : (s : S) (ws : List Word) (s2 : S) (x : Spot) (rest : List Word) → GoesOn (ending.may s) close ws → step s ws ≡ Ok (s2, mark separator x ∷ rest) → ending.must s2 ≡ false → all s ws ≡ all s2 rest
  parts_next s ws s2 x rest e h must = parts_step s ws e ∙ rw h (more_next s2 x rest must)

  -- one part read, and the end behind it
  pub parts_end : (s : S) (ws : List Word) (s2 : S) (m rest : List Word) → GoesOn (ending.may s) close ws → step s ws ≡ Ok (s2, m) → ending.may s2 ≡ true → is_kind close separator ≡ false → Closes separator close m rest → all s ws ≡ Ok (s2, rest)
  parts_end s ws s2 m rest e h may other closes = parts_step s ws e ∙ rw h (more_ends s2 m rest may other closes)

  -- What J keeps of states behind a part: over a separator and the next part, and what it gives at the end and where no form goes on.
  pub record KeepsParts (J : S → List Word → Type 0) (Q : S → List Word → Type 0) (F : List Word → Type 0) : Type 0 where
    pub part : (s : S) (x : Spot) (ws rest : List Word) → J s ws → ending.must s ≡ false → ws ≡ mark separator x ∷ rest → Holds J F (step s rest)
    pub last : (s : S) (ws rest : List Word) → J s ws → ending.may s ≡ true → Closes separator close ws rest → Q s rest
    pub stuck : (s : S) (ws : List Word) → J s ws → F ws
    pub stuck_separated : (s : S) (x : Spot) (ws rest : List Word) → J s ws → ending.must s ≡ true → ws ≡ mark separator x ∷ rest → F rest

  module _ (J : S → List Word → Type 0) (Q : S → List Word → Type 0) (F : List Word → Type 0) (keeps : KeepsParts J Q F) where
    closing_holds : (s : S) (ws : List Word) → ((x : Spot) (rest : List Word) → ending.may s ≡ true → ws ≡ mark close x ∷ rest → Q s rest) → F ws → Holds Q F (closing separator close ending step s ws)
    closing_holds s ws on off = choose (ending.may s) (λ v. and_then (expect close v) (λ _. pure s)) refuse ws
        (λ may. bind (expect_holds {Q = λ _ rest. Q s rest} {F = F} close ws (λ x rest e. on x rest may e) (λ _. off)) (λ x rest h. good h) (λ rest h. h))
        (λ _. bad off)

    behind_holds : (again : S → Reader S) (s : S) (ws : List Word) → J s ws → ((x : Spot) (rest : List Word) → ending.must s ≡ false → ws ≡ mark separator x ∷ rest → Holds Q F (again s rest)) → Holds Q F (behind separator close ending step again s ws)
    behind_holds again s ws j on =
        let close_here : Holds Q F (closing separator close ending step s ws) = closing_holds s ws (λ x rest may e. keeps.last s ws rest j may (inl (record { spot = x; is = e }))) (keeps.stuck s ws j) in
        choose (ending.must s) (λ v. and_then (eat separator v) (λ _. closing separator close ending step s)) (take_by (marked separator) (λ _. again s) (closing separator close ending step s)) ws
        (λ must. eat_holds separator (λ _. closing separator close ending step s) ws
        (λ x rest e. closing_holds s rest (λ y last may e2. keeps.last s ws last j may (inr (rest, record { spot = x; is = e }, record { spot = y; is = e2 }))) (keeps.stuck_separated s x ws rest j must e))
        (λ _. close_here))
        (λ must. mark_holds separator (λ _. again s) (closing separator close ending step s) ws (λ x rest e. on x rest must e) (λ _. close_here))

    -- before a part that is behind a separator, with the words from that on
    before_holds : (n : ℕ) (s : S) (x : Spot) (ws rest : List Word) → length rest < n → J s ws → ending.must s ≡ false → ws ≡ mark separator x ∷ rest → Holds Q F (parts_from separator close ending step n s rest)
    unfolding parts_from
    before_holds zero s x ws rest lt j must e = absurd (omega arith)
    before_holds (suc n) s x ws rest lt j must e =
        let go = bind (both ((step_is s).ends rest) (keeps.part s x ws rest j must e))
        (λ s2 r h. behind_holds (parts_from separator close ending step n) s2 r h.1 (λ y more must2 e2. before_holds n s2 y r more (omega (arith, suffix_length rest r h.0, ap length e2)) h.1 must2 e2))
        (λ r h. h.1) in
        choose (ending.may s) (take_by (marked close) (λ _. pure s) (λ v. and_then (step s v) (behind separator close ending step (parts_from separator close ending step n)))) (λ v. and_then (step s v) (behind separator close ending step (parts_from separator close ending step n))) rest
        (λ may. mark_holds close (λ _. pure s) _ rest (λ y last e2. good (keeps.last s ws last j may (inr (rest, record { spot = x; is = e }, record { spot = y; is = e2 })))) (λ _. go))
        (λ _. go)

    pub more_parts_holds : (s : S) (ws : List Word) → J s ws → Holds Q F (more s ws)
    unfolding more_parts parts
    more_parts_holds s ws j = behind_holds all s ws j (λ x rest must e. before_holds (suc (length rest)) s x ws rest (omega arith) j must e)

    -- at a first part, or at the close of none
    pub parts_holds : (s : S) (ws : List Word) → (GoesOn (ending.may s) close ws → Holds J F (step s ws)) → ((x : Spot) (rest : List Word) → ending.may s ≡ true → ws ≡ mark close x ∷ rest → Q s rest) → Holds Q F (all s ws)
    unfolding parts parts_from
    parts_holds s ws first_part empty = by_end (ending.may s) refl
      where
        go : Reader S
        go = λ v. and_then (step s v) (behind separator close ending step (parts_from separator close ending step (length ws)))

        go_holds : Holds J F (step s ws) → Holds Q F (go ws)
        go_holds h = bind (both ((step_is s).ends ws) h)
            (λ s2 r h2. behind_holds (parts_from separator close ending step (length ws)) s2 r h2.1
            (λ y rest must e. before_holds (length ws) s2 y r rest (omega (arith, suffix_length ws r h2.0, ap length e)) h2.1 must e))
            (λ r h2. h2.1)

        by_end : (b : Bool) → ending.may s ≡ b → Holds Q F (cond b (take_by (marked close) (λ _. pure s) go) go ws)
        by_end true may = mark_holds close (λ _. pure s) go ws (λ x rest e. good (empty x rest may e)) (λ none. go_holds (first_part (subst (λ (b : Bool). GoesOn b close ws) (sym may) none)))
        by_end false may = go_holds (first_part (subst (λ (b : Bool). GoesOn b close ws) (sym may) tt))
