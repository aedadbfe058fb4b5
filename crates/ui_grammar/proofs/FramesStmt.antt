-- A spelling of a statement stays one whatever follows it; one of statements in braces, where a closing brace follows it if
-- one did before.
use Rattle.std.proofs.Common.{◌≡◌, inl, inr, Bool, true, false, List, [], ◌∷◌, ◌++◌, Option, Some, None, refl, sym, ap, subst, ◌∙◌, append_assoc}
use Rattle.ui_base.specs.declared.value.Spot.{Spot}
use Rattle.ui_scan.specs.declared.kind.TokenKind.{TokenKind}
use Rattle.ui_scan.specs.declared.kind.TokenKind.TheVariants.{LParen, RParen, LBrace, RBrace, Semi, Colon, Assign, Define, Inc, Dec, Const, Var, Return, Break, Continue, If, Else, For, Range, Switch, Case, Default}
use Rattle.ui_tree.specs.declared.part.Specs.{Specs}
use Rattle.ui_tree.specs.declared.part.Specs.TheVariants.{One, Grouped}
use Rattle.ui_tree.specs.Tree.{MaybeType, no_type, given_type}
use Rattle.ui_tree.specs.Stmt.{MaybeTrees, no_trees, given_trees, ValueGroup, Common, constants, variables, Places, no_places, places, Stmt, empty, common, block, alone, assign, op_assign, define, increment, decrement, returning, breaking, continuing, branch, loop, while_true, counting, ranging, switch, MaybeStmt, no_stmt, given_stmt, Braces, braces, Stmts, stmts_end, stmt_and, Clauses, clauses_end, clause_and}
use Rattle.ui_grammar.specs.Word.{Word, mark, Mark}
use Rattle.ui_grammar.specs.Operator.{assign_mark_of}
use Rattle.ui_grammar.specs.Statement.{SpecsTail, SpecsList, SpellsSpecs, SpellsConstantValue, SpellsVariableValue, SpellsConstant, SpellsVariable, SpellsCommon, MarkOfAssign, SpellsMaybeExprs, SpellsPlaces, SpellsCase, is_empty, EndsStmt, SpellsStmt, SpellsInit, SpellsElse, SpellsBraces, SpellsStmts, SpellsClauses}
use Rattle.ui_grammar.proofs.Frames.{Spelling, Framed, Filled, framed, Then, next, lead, framed_as, filled_as, starts_at, frame_none, fill_word, fill_mark, frame_mark, frame_closes, fill_names, fill_type, frame_maybe_type, fill, frame_maybe, fill_exprs}

-- ---- one specification or several

module _ {S : Type 0} (P : S → Spelling) (fill_one : (s : S) (ts rest : List Word) → P s ts rest → Filled (P s) ts rest) where
  pub frame_specs_tail : (ss : List S) (ts rest : List Word) → SpecsTail P ss ts rest → Framed (SpecsTail P ss) ts rest
  frame_specs_tail [] ts rest h = frame_closes Semi RParen ts rest h
  frame_specs_tail (s ∷ ss) ts rest h = framed_as (next (frame_mark Semi ts h.0 h.2) (next (framed (fill_one s h.0 h.1 h.3)) (frame_specs_tail ss h.1 rest h.4)))
      (λ us ws g. (g.0, g.2.0, g.1, g.2.1, g.2.2))

  pub frame_specs_list : (ss : List S) (ts rest : List Word) → SpecsList P ss ts rest → Framed (SpecsList P ss) ts rest
  frame_specs_list [] ts rest h = frame_mark RParen ts rest h
  frame_specs_list (s ∷ ss) ts rest h = next (framed (fill_one s ts h.0 h.1)) (frame_specs_tail ss h.0 rest h.2)

  pub fill_specs : (ss : Specs S) (ts rest : List Word) → SpellsSpecs P ss ts rest → Filled (SpellsSpecs P ss) ts rest
  fill_specs (One s) ts rest h = filled_as (fill_one s ts rest h) (λ us ws g. g)
  fill_specs (Grouped ss) ts rest h = lead (fill_mark LParen ts h.0 h.1) (frame_specs_list ss h.0 rest h.2)

  pub frame_specs : (ss : Specs S) (ts rest : List Word) → SpellsSpecs P ss ts rest → Framed (SpellsSpecs P ss) ts rest
  frame_specs ss ts rest h = framed (fill_specs ss ts rest h)

-- ---- constants and variables

pub frame_exprs_behind : (t : MaybeType) (es : MaybeTrees) (ts rest : List Word) → SpellsConstantValue t es ts rest → Framed (SpellsConstantValue t es) ts rest
frame_exprs_behind no_type no_trees ts rest e = frame_none ts rest e
frame_exprs_behind (given_type t) no_trees ts rest h = absurd h
frame_exprs_behind no_type (given_trees es) ts rest h = framed_as (next (frame_maybe_type no_type ts h.0 h.2) (next (frame_mark Assign h.0 h.1 h.3) (framed (fill_exprs es h.1 rest h.4))))
    (λ us ws g. (g.0, g.2.0, g.1, g.2.1, g.2.2))
frame_exprs_behind (given_type t) (given_trees es) ts rest h = framed_as (next (frame_maybe_type (given_type t) ts h.0 h.2) (next (frame_mark Assign h.0 h.1 h.3) (framed (fill_exprs es h.1 rest h.4))))
    (λ us ws g. (g.0, g.2.0, g.1, g.2.1, g.2.2))

pub frame_variable_value : (t : MaybeType) (es : MaybeTrees) (ts rest : List Word) → SpellsVariableValue t es ts rest → Framed (SpellsVariableValue t es) ts rest
frame_variable_value no_type no_trees ts rest h = absurd h
frame_variable_value (given_type t) no_trees ts rest h = framed (fill_type t ts rest h)
frame_variable_value no_type (given_trees es) ts rest h = framed_as (next (frame_maybe_type no_type ts h.0 h.2) (next (frame_mark Assign h.0 h.1 h.3) (framed (fill_exprs es h.1 rest h.4))))
    (λ us ws g. (g.0, g.2.0, g.1, g.2.1, g.2.2))
frame_variable_value (given_type t) (given_trees es) ts rest h = framed_as (next (frame_maybe_type (given_type t) ts h.0 h.2) (next (frame_mark Assign h.0 h.1 h.3) (framed (fill_exprs es h.1 rest h.4))))
    (λ us ws g. (g.0, g.2.0, g.1, g.2.1, g.2.2))

pub fill_constant : (v : ValueGroup) (ts rest : List Word) → SpellsConstant v ts rest → Filled (SpellsConstant v) ts rest
fill_constant v ts rest h = lead (fill_names v.names ts h.0 h.1) (frame_exprs_behind v.of v.values h.0 rest h.2)

pub fill_variable : (v : ValueGroup) (ts rest : List Word) → SpellsVariable v ts rest → Filled (SpellsVariable v) ts rest
fill_variable v ts rest h = lead (fill_names v.names ts h.0 h.1) (frame_variable_value v.of v.values h.0 rest h.2)

pub frame_constant_specs : (vs : Specs ValueGroup) (ts rest : List Word) → SpellsSpecs SpellsConstant vs ts rest → Framed (SpellsSpecs SpellsConstant vs) ts rest
frame_constant_specs = frame_specs SpellsConstant fill_constant

pub frame_variable_specs : (vs : Specs ValueGroup) (ts rest : List Word) → SpellsSpecs SpellsVariable vs ts rest → Framed (SpellsSpecs SpellsVariable vs) ts rest
frame_variable_specs = frame_specs SpellsVariable fill_variable

pub fill_common : (c : Common) (ts rest : List Word) → SpellsCommon c ts rest → Filled (SpellsCommon c) ts rest
fill_common (constants s vs) ts rest h = lead (fill_word (mark Const s) ts h.0 h.1) (frame_constant_specs vs h.0 rest h.2)
fill_common (variables s vs) ts rest h = lead (fill_word (mark Var s) ts h.0 h.1) (frame_variable_specs vs h.0 rest h.2)

-- ---- parts of statements

pub frame_mark_of_assign : (k : Option TokenKind) (ts rest : List Word) → MarkOfAssign k ts rest → Framed (MarkOfAssign k) ts rest
frame_mark_of_assign None ts rest h = absurd h
frame_mark_of_assign (Some k) ts rest h = frame_mark k ts rest h

pub frame_maybe_exprs : (es : MaybeTrees) (ts rest : List Word) → SpellsMaybeExprs es ts rest → Framed (SpellsMaybeExprs es) ts rest
frame_maybe_exprs no_trees ts rest e = frame_none ts rest e
frame_maybe_exprs (given_trees es) ts rest h = framed (fill_exprs es ts rest h)

pub frame_places : (ps : Places) (ts rest : List Word) → SpellsPlaces ps ts rest → Framed (SpellsPlaces ps) ts rest
frame_places no_places ts rest e = frame_none ts rest e
frame_places (places es true) ts rest h = framed (lead (fill_exprs es ts h.0 h.1) (frame_mark Define h.0 rest h.2))
frame_places (places es false) ts rest h = framed (lead (fill_exprs es ts h.0 h.1) (frame_mark Assign h.0 rest h.2))

pub fill_case : (s : Spot) (es : MaybeTrees) (ts rest : List Word) → SpellsCase s es ts rest → Filled (SpellsCase s es) ts rest
fill_case s no_trees ts rest e = fill_word (mark Default s) ts rest e
fill_case s (given_trees es) ts rest h = lead (fill_word (mark Case s) ts h.0 h.1) (framed (fill_exprs es h.0 rest h.2))

-- ---- statements in braces look at the brace behind them

-- a closing brace stands at k where one stands at m
abbrev pub Closed : List Word → List Word → Type 0
Closed m k = (a : List Word) → Mark RBrace m a → (b : List Word) × Mark RBrace k b

-- ts is a front, and then m; and the front has the relation to whatever has a closing brace where m has
pub record FramedBefore (R : Spelling) (ts m : List Word) : Type 0 where
  pub front : List Word
  pub parts : ts ≡ front ++ m
  pub again : (k : List Word) → Closed m k → R (front ++ k) k

pub framed_before : {R : Spelling} {ts m : List Word} → Framed R ts m → FramedBefore R ts m
framed_before f = record { front = f.front; parts = f.parts; again = λ k closed. f.again k }

pub before_as : {R T : Spelling} {ts rest : List Word} → FramedBefore R ts rest → ((us ws : List Word) → R us ws → T us ws) → FramedBefore T ts rest
before_as a f = record { front = a.front; parts = a.parts; again = λ k closed. f (a.front ++ k) k (a.again k closed) }

closed_behind : (front m k : List Word) → Closed m k → Closed (front ++ m) (front ++ k)
closed_behind [] m k closed = closed
closed_behind (w ∷ front) m k closed = λ a h. (front ++ k, record { spot = h.spot; is = let same : w ≡ mark RBrace h.spot = let e : w ∷ (front ++ m) ≡ mark RBrace h.spot ∷ a = h.is in cc in ap (λ (v : Word). v ∷ (front ++ k)) same })

pub next_before : {R S : Spelling} {ts m rest : List Word} → FramedBefore R ts m → FramedBefore S m rest → FramedBefore (Then R S) ts rest
next_before {R = R} {S = S} {ts = ts} {m = m} {rest = rest} a b = record {
  front = a.front ++ b.front;
  parts = a.parts ∙ ap (λ (v : List Word). a.front ++ v) b.parts ∙ sym (append_assoc a.front b.front rest);
  again = λ k closed. (
    b.front ++ k,
    subst (λ (u : List Word). R u (b.front ++ k)) (sym (append_assoc a.front b.front k)) (a.again (b.front ++ k) (subst (λ (u : List Word). Closed u (b.front ++ k)) (sym b.parts) (closed_behind b.front rest k closed))),
    b.again k closed,
  );
}

-- with the brace
pub and_brace : {R : Spelling} {ts m rest : List Word} (s : Spot) → FramedBefore R ts m → m ≡ mark RBrace s ∷ rest → Framed (λ us ws. (b : List Word) × R us b × (b ≡ mark RBrace s ∷ ws)) ts rest
and_brace {R = R} {ts = ts} {m = m} {rest = rest} s a e = record {
  front = a.front ++ (mark RBrace s ∷ []);
  parts = a.parts ∙ ap (λ (v : List Word). a.front ++ v) e ∙ sym (append_assoc a.front (mark RBrace s ∷ []) rest);
  again = λ k. (mark RBrace s ∷ k, subst (λ (u : List Word). R u (mark RBrace s ∷ k)) (sym (append_assoc a.front (mark RBrace s ∷ []) k)) (a.again (mark RBrace s ∷ k) (λ b h. (k, record { spot = s; is = refl }))), refl);
}

pub before_ends : (b : Bool) (ts rest : List Word) → EndsStmt b ts rest → FramedBefore (EndsStmt b) ts rest
before_ends true ts rest m = framed_before (frame_mark Semi ts rest m)
before_ends false ts rest (inl m) = before_as (framed_before (frame_mark Semi ts rest m)) (λ us ws h. inl h)
before_ends false ts rest (inr h) = record { front = []; parts = h.0; again = λ k closed. inr (refl, closed h.1.0 (subst (λ (v : List Word). Mark RBrace v h.1.0) h.0 h.1.1)) }

-- ---- statements

-- where the statement has words, it has a first one
abbrev FilledIf : Bool → Spelling → List Word → List Word → Type 0
FilledIf true R ts m = Framed R ts m
FilledIf false R ts m = Filled R ts m

framed_if : {R : Spelling} {ts m : List Word} (b : Bool) → FilledIf b R ts m → Framed R ts m
framed_if true f = f
framed_if false f = framed f

mutual
  stmt_frame : (t : Stmt) (ts rest : List Word) → SpellsStmt t ts rest → FilledIf (is_empty t) (SpellsStmt t) ts rest
  stmt_frame empty ts rest h = frame_none ts rest h
  stmt_frame (common c) ts rest h = filled_as (fill_common c ts rest h) (λ us ws g. g)
  stmt_frame (block b) ts rest h = filled_as (fill_braces b ts rest h) (λ us ws g. g)
  stmt_frame (alone e) ts rest h = filled_as (fill e ts rest h) (λ us ws g. g)
  stmt_frame (assign s l r) ts rest h = filled_as (lead (starts_at s h.2 (fill_exprs l ts h.0 h.3)) (next (frame_mark Assign h.0 h.1 h.4) (framed (fill_exprs r h.1 rest h.5))))
      (λ us ws g. (g.0, g.2.0, g.1.0, g.1.1, g.2.1, g.2.2))
  stmt_frame (op_assign s l o r) ts rest h = filled_as (lead (starts_at s h.2 (fill l ts h.0 h.3)) (next (frame_mark_of_assign (assign_mark_of o) h.0 h.1 h.4) (framed (fill r h.1 rest h.5))))
      (λ us ws g. (g.0, g.2.0, g.1.0, g.1.1, g.2.1, g.2.2))
  stmt_frame (define s ns es) ts rest h = filled_as (lead (starts_at s h.2 (fill_names ns ts h.0 h.3)) (next (frame_mark Define h.0 h.1 h.4) (framed (fill_exprs es h.1 rest h.5))))
      (λ us ws g. (g.0, g.2.0, g.1.0, g.1.1, g.2.1, g.2.2))
  stmt_frame (increment s e) ts rest h = filled_as (lead (starts_at s h.1 (fill e ts h.0 h.2)) (frame_mark Inc h.0 rest h.3)) (λ us ws g. (g.0, g.1.0, g.1.1, g.2))
  stmt_frame (decrement s e) ts rest h = filled_as (lead (starts_at s h.1 (fill e ts h.0 h.2)) (frame_mark Dec h.0 rest h.3)) (λ us ws g. (g.0, g.1.0, g.1.1, g.2))
  stmt_frame (returning s es) ts rest h = lead (fill_word (mark Return s) ts h.0 h.1) (frame_maybe_exprs es h.0 rest h.2)
  stmt_frame (breaking s) ts rest h = fill_word (mark Break s) ts rest h
  stmt_frame (continuing s) ts rest h = fill_word (mark Continue s) ts rest h
  stmt_frame (branch s init e body other) ts rest h = filled_as (lead (fill_word (mark If s) ts h.0 h.4) (next (frame_init init h.0 h.1 h.5) (next (framed (fill e h.1 h.2 h.6)) (next (framed (fill_braces body h.2 h.3 h.7)) (frame_else other h.3 rest h.8)))))
      (λ us ws g. (g.0, g.2.0, g.2.2.0, g.2.2.2.0, g.1, g.2.1, g.2.2.1, g.2.2.2.1, g.2.2.2.2))
  stmt_frame (loop s body) ts rest h = lead (fill_word (mark For s) ts h.0 h.1) (framed (fill_braces body h.0 rest h.2))
  stmt_frame (while_true s e body) ts rest h = filled_as (lead (fill_word (mark For s) ts h.0 h.2) (next (framed (fill e h.0 h.1 h.3)) (framed (fill_braces body h.1 rest h.4))))
      (λ us ws g. (g.0, g.2.0, g.1, g.2.1, g.2.2))
  stmt_frame (counting s init e post body) ts rest h =
      filled_as (lead (fill_word (mark For s) ts h.0 h.6) (next (framed_if (is_empty init) (stmt_frame init h.0 h.1 h.7)) (next (frame_mark Semi h.1 h.2 h.8) (next (frame_maybe e h.2 h.3 h.9) (next (frame_mark Semi h.3 h.4 h.10) (next (framed_if (is_empty post) (stmt_frame post h.4 h.5 h.11)) (framed (fill_braces body h.5 rest h.12))))))))
      (λ us ws g. (g.0, g.2.0, g.2.2.0, g.2.2.2.0, g.2.2.2.2.0, g.2.2.2.2.2.0, g.1, g.2.1, g.2.2.1, g.2.2.2.1, g.2.2.2.2.1, g.2.2.2.2.2.1, g.2.2.2.2.2.2))
  stmt_frame (ranging s ps e body) ts rest h = filled_as (lead (fill_word (mark For s) ts h.0 h.4) (next (frame_places ps h.0 h.1 h.5) (next (frame_mark Range h.1 h.2 h.6) (next (framed (fill e h.2 h.3 h.7)) (framed (fill_braces body h.3 rest h.8))))))
      (λ us ws g. (g.0, g.2.0, g.2.2.0, g.2.2.2.0, g.1, g.2.1, g.2.2.1, g.2.2.2.1, g.2.2.2.2))
  stmt_frame (switch s init e cs) ts rest h =
      filled_as (lead (fill_word (mark Switch s) ts h.0 h.5) (next (frame_init init h.0 h.1 h.6) (next (frame_maybe e h.1 h.2 h.7) (next (frame_mark LBrace h.2 h.3 h.8) (and_brace h.10.spot (before_clauses cs h.3 h.4 h.9) h.10.is)))))
      (λ us ws g. (g.0, g.2.0, g.2.2.0, g.2.2.2.0, g.2.2.2.2.0, g.1, g.2.1, g.2.2.1, g.2.2.2.1, g.2.2.2.2.1, record { spot = h.10.spot; is = g.2.2.2.2.2 }))

  pub frame_init : (i : MaybeStmt) (ts rest : List Word) → SpellsInit i ts rest → Framed (SpellsInit i) ts rest
  frame_init no_stmt ts rest e = frame_none ts rest e
  frame_init (given_stmt i) ts rest h = next (framed_if (is_empty i) (stmt_frame i ts h.0 h.1)) (frame_mark Semi h.0 rest h.2)

  pub frame_else : (o : MaybeStmt) (ts rest : List Word) → SpellsElse o ts rest → Framed (SpellsElse o) ts rest
  frame_else no_stmt ts rest e = frame_none ts rest e
  frame_else (given_stmt o) ts rest h = next (frame_mark Else ts h.0 h.1) (framed_if (is_empty o) (stmt_frame o h.0 rest h.2))

  pub fill_braces : (b : Braces) (ts rest : List Word) → SpellsBraces b ts rest → Filled (SpellsBraces b) ts rest
  fill_braces (braces s ss e) ts rest h = filled_as (lead (fill_word (mark LBrace s) ts h.0 h.2) (and_brace e (before_stmts ss h.0 h.1 h.3) h.4)) (λ us ws g. (g.0, g.2.0, g.1, g.2.1, g.2.2))

  pub before_stmts : (ss : Stmts) (ts rest : List Word) → SpellsStmts ss ts rest → FramedBefore (SpellsStmts ss) ts rest
  before_stmts stmts_end ts rest e = framed_before (frame_none ts rest e)
  before_stmts (stmt_and s ss) ts rest h = before_as (next_before (framed_before (framed_if (is_empty s) (stmt_frame s ts h.0 h.2))) (next_before (before_ends (is_empty s) h.0 h.1 h.3) (before_stmts ss h.1 rest h.4)))
      (λ us ws g. (g.0, g.2.0, g.1, g.2.1, g.2.2))

  pub before_clauses : (cs : Clauses) (ts rest : List Word) → SpellsClauses cs ts rest → FramedBefore (SpellsClauses cs) ts rest
  before_clauses clauses_end ts rest e = framed_before (frame_none ts rest e)
  before_clauses (clause_and s es ss cs) ts rest h =
      before_as (next_before (framed_before (framed (fill_case s es ts h.0 h.3))) (next_before (framed_before (frame_mark Colon h.0 h.1 h.4)) (next_before (before_stmts ss h.1 h.2 h.5) (before_clauses cs h.2 rest h.6))))
      (λ us ws g. (g.0, g.2.0, g.2.2.0, g.1, g.2.1, g.2.2.1, g.2.2.2))

-- ---- the same as frames

pub frame_stmt : (t : Stmt) (ts rest : List Word) → SpellsStmt t ts rest → Framed (SpellsStmt t) ts rest
frame_stmt t ts rest h = framed_if (is_empty t) (stmt_frame t ts rest h)

pub fill_stmt : (t : Stmt) (ts rest : List Word) → is_empty t ≡ false → SpellsStmt t ts rest → Filled (SpellsStmt t) ts rest
fill_stmt t ts rest words h = subst (λ (b : Bool). FilledIf b (SpellsStmt t) ts rest) words (stmt_frame t ts rest h)

pub frame_common : (c : Common) (ts rest : List Word) → SpellsCommon c ts rest → Framed (SpellsCommon c) ts rest
frame_common c ts rest h = framed (fill_common c ts rest h)

pub frame_braces : (b : Braces) (ts rest : List Word) → SpellsBraces b ts rest → Framed (SpellsBraces b) ts rest
frame_braces b ts rest h = framed (fill_braces b ts rest h)

pub frame_case : (s : Spot) (es : MaybeTrees) (ts rest : List Word) → SpellsCase s es ts rest → Framed (SpellsCase s es) ts rest
frame_case s es ts rest h = framed (fill_case s es ts rest h)

-- where a closing brace stands behind the statements
pub stmts_before_brace : (ss : Stmts) (ts rest : List Word) (s : Spot) → SpellsStmts ss ts (mark RBrace s ∷ rest) → Framed (λ us ws. (b : List Word) × SpellsStmts ss us b × (b ≡ mark RBrace s ∷ ws)) ts rest
stmts_before_brace ss ts rest s h = and_brace s (before_stmts ss ts (mark RBrace s ∷ rest) h) refl

pub clauses_before_brace : (cs : Clauses) (ts rest : List Word) (s : Spot) → SpellsClauses cs ts (mark RBrace s ∷ rest) → Framed (λ us ws. (b : List Word) × SpellsClauses cs us b × (b ≡ mark RBrace s ∷ ws)) ts rest
clauses_before_brace cs ts rest s h = and_brace s (before_clauses cs ts (mark RBrace s ∷ rest) h) refl
