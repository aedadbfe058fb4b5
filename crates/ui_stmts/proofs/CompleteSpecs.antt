-- One specification, or several in parentheses, are read.
use Rattle.std.proofs.Common.{◌≡◌, inl, inr, ℕ, ◌≤◌, max, List, [], ◌∷◌, ◌++◌, None, Ok, refl, sym, ap, subst, ◌∙◌, append_assoc, arith}
use Rattle.std.proofs.lemmas.List.{append-nil}
use Rattle.ui_base.specs.declared.value.Spot.{Spot}
use Rattle.ui_scan.specs.declared.kind.TokenKind.TheVariants.{LParen, RParen, RBrace, Comma, Semi, Assign}
use Rattle.ui_tree.specs.declared.part.Specs.{Specs}
use Rattle.ui_tree.specs.declared.part.Specs.TheVariants.{One, Grouped}
use Rattle.ui_grammar.specs.Word.{Word, mark, Mark, Closes}
use Rattle.ui_grammar.specs.Statement.{SpecsTail, SpecsList, SpellsSpecs, AllSpecs, FitsSpecs, deepest, specs_depth}
use Rattle.ui_parse.specs.Reader.{Reader, first, marked, parts, more_parts}
use Rattle.ui_parse.proofs.Outcomes.{take_mark, take_other}
use Rattle.ui_parse.proofs.Steady.{Steady, steady_pure, steady_bind}
use Rattle.ui_parse.proofs.TurnLaws.{parts_step, parts_close, more_next, more_ends}
use Rattle.ui_syntax.specs.Types.{Listed, add, empty, any_end}
use Rattle.ui_syntax.proofs.Quiet.{stop_semi, stop_paren, stop_brace, Stop, stop_at}
use Rattle.ui_syntax.proofs.CompleteExprsLists.{listed_is}
use Rattle.ui_stmts.specs.Common.{Sized, sized, one_spec_more, specs}
use Rattle.ui_stmts.specs.Laws.{EndsAStmt}

-- behind a specification
pub record EndsSpec (ts : List Word) : Type 0 where
  pub stop : Stop ts
  pub no_comma : first (marked Comma) ts ≡ None
  pub no_assign : first (marked Assign) ts ≡ None

spec_semi : (x : Spot) (ws : List Word) → EndsSpec (mark Semi x ∷ ws)
spec_semi x ws = record { stop = stop_at stop_semi; no_comma = refl; no_assign = refl }

spec_paren : (x : Spot) (ws : List Word) → EndsSpec (mark RParen x ∷ ws)
spec_paren x ws = record { stop = stop_at stop_paren; no_comma = refl; no_assign = refl }

spec_brace : (x : Spot) (ws : List Word) → EndsSpec (mark RBrace x ∷ ws)
spec_brace x ws = record { stop = stop_at stop_brace; no_comma = refl; no_assign = refl }

pub spec_semicolon : (ts rest : List Word) → Mark Semi ts rest → EndsSpec ts
spec_semicolon ts rest m = subst EndsSpec (sym m.is) (spec_semi m.spot rest)

spec_closes : (ts rest : List Word) → Closes Semi RParen ts rest → EndsSpec ts
spec_closes ts rest (inl m) = subst EndsSpec (sym m.is) (spec_paren m.spot rest)
spec_closes ts rest (inr c) = spec_semicolon ts c.0 c.1

pub spec_end : (ts : List Word) → EndsAStmt ts → EndsSpec ts
spec_end ts (inl m) = spec_semicolon ts m.0 m.1
spec_end ts (inr m) = subst EndsSpec (sym m.1.is) (spec_brace m.1.spot m.0)

module _ {S : Type 0} (P : S → List Word → List Word → Type 0) (F : S → Type 0) (size : S → ℕ) (budget : ℕ) (spec : Reader (Sized S)) (steady : Steady spec)
    (opens : (s : S) (ts rest : List Word) → P s ts rest → (first (marked LParen) ts ≡ None) × (first (marked RParen) ts ≡ None))
    (reads : (s : S) (ts rest : List Word) → P s ts rest → F s → size s ≤ budget → EndsSpec rest → spec ts ≡ Ok (sized s (size s), rest)) where
  -- what was read before, and then these
  abbrev with_specs : Listed S → List S → Listed S
  with_specs l ss = record { items = l.items ++ ss; depth = max l.depth (deepest size ss) }

  none_more : (l : Listed S) → l ≡ with_specs l []
  none_more l = listed_is l.items (l.items ++ []) l.depth (max l.depth 0) (sym (append-nil l.items)) (omega arith)

  one_more : (l : Listed S) (s : S) (ss : List S) → with_specs (add l s (size s)) ss ≡ with_specs l (s ∷ ss)
  one_more l s ss = listed_is _ _ _ _ (append_assoc l.items (s ∷ []) ss) (omega arith)

  step_steady : (l : Listed S) → Steady (one_spec_more spec l)
  step_steady l = steady_bind steady (λ s. steady_pure _)

  tail_ends : (ss : List S) (ts rest : List Word) → SpecsTail P ss ts rest → EndsSpec ts
  tail_ends [] ts rest s = spec_closes ts rest s
  tail_ends (x ∷ ss) ts rest s = spec_semicolon ts s.0 s.2

  first_read : (l : Listed S) (s : S) (ts rest : List Word) → P s ts rest → F s → size s ≤ budget → EndsSpec rest
      → parts Semi RParen any_end (one_spec_more spec) l ts ≡ more_parts Semi RParen any_end (one_spec_more spec) (add l s (size s)) rest
  first_read l s ts rest p f le ends =
      parts_step Semi RParen any_end (one_spec_more spec) step_steady l ts (opens s ts rest p).1 ∙ rw (reads s ts rest p f le ends) refl

  tail_read : (ss : List S) (l : Listed S) (ts rest : List Word) → SpecsTail P ss ts rest → AllSpecs F ss → deepest size ss ≤ budget
      → more_parts Semi RParen any_end (one_spec_more spec) l ts ≡ Ok (with_specs l ss, rest)
  tail_read [] l ts rest s f le =
      more_ends Semi RParen any_end (one_spec_more spec) step_steady l ts rest refl refl s ∙ ap (λ (v : Listed S). Ok (v, rest)) (none_more l)
  tail_read (x ∷ ss) l ts rest s f le =
      ap (more_parts Semi RParen any_end (one_spec_more spec) l) s.2.is
      ∙ more_next Semi RParen any_end (one_spec_more spec) step_steady l s.2.spot s.0 refl
      ∙ first_read l x s.0 s.1 s.3 f.0 (omega (arith, le)) (tail_ends ss s.1 rest s.4)
      ∙ tail_read ss (add l x (size x)) s.1 rest s.4 f.1 (omega (arith, le))
      ∙ ap (λ (v : Listed S). Ok (v, rest)) (one_more l x ss)

  list_read : (ss : List S) (l : Listed S) (ts rest : List Word) → SpecsList P ss ts rest → AllSpecs F ss → deepest size ss ≤ budget
      → parts Semi RParen any_end (one_spec_more spec) l ts ≡ Ok (with_specs l ss, rest)
  list_read [] l ts rest s f le =
      ap (parts Semi RParen any_end (one_spec_more spec) l) s.is
      ∙ parts_close Semi RParen any_end (one_spec_more spec) step_steady l s.spot rest refl ∙ ap (λ (v : Listed S). Ok (v, rest)) (none_more l)
  list_read (x ∷ ss) l ts rest s f le =
      first_read l x ts s.0 s.1 f.0 (omega (arith, le)) (tail_ends ss s.0 rest s.2)
      ∙ tail_read ss (add l x (size x)) s.0 rest s.2 f.1 (omega (arith, le))
      ∙ ap (λ (v : Listed S). Ok (v, rest)) (one_more l x ss)

  pub specs_read : (v : Specs S) (ts rest : List Word) → SpellsSpecs P v ts rest → FitsSpecs F v → specs_depth size v ≤ budget → EndsSpec rest → specs spec ts ≡ Ok (sized v (specs_depth size v), rest)
  unfolding specs
  specs_read (One s) ts rest p f le ends = take_other (marked LParen) _ _ ts (opens s ts rest p).0 ∙ rw (reads s ts rest p f le ends) refl
  specs_read (Grouped ss) ts rest p f le ends =
      ap (specs spec) p.1.is ∙ take_mark LParen _ _ p.1.spot p.0 ∙ rw (list_read ss empty p.0 rest p.2 f le) (ap (λ (k : ℕ). Ok (sized {T = Specs S} (Grouped ss) k, rest)) (omega arith))
