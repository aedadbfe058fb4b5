-- With which words statements begin.
use Rattle.std.proofs.Common.{◌≡◌, Bool, true, false, List, [], ◌∷◌, None, refl, sym, ap, subst, ◌∙◌}
use Rattle.ui_base.specs.declared.value.Spot.{Spot}
use Rattle.ui_scan.specs.declared.kind.TokenKind.{TokenKind}
use Rattle.ui_scan.specs.declared.kind.TokenKind.TheVariants as kind
use Rattle.ui_tree.specs.declared.part.Placed.{Placed}
use Rattle.ui_tree.specs.Tree.{Tree, Trees, trees_end, tree_and}
use Rattle.ui_tree.specs.Stmt.{no_trees, given_trees, constants, variables, Stmt, empty, common, block, alone, assign, op_assign, define, increment, decrement, returning, breaking, continuing, branch, loop, while_true, counting, ranging, switch, braces, Stmts, stmts_end, stmt_and, Clauses, clauses_end, clause_and}
use Rattle.ui_grammar.specs.Word.{Word, ident, lit, mark, Mark, Names}
use Rattle.ui_grammar.specs.Spells.{Spells, SpellsExprs}
use Rattle.ui_grammar.specs.Fits.{Place, plain, takes_braces, Fits, FitsTrees}
use Rattle.ui_grammar.specs.Statement.{EndsStmt, SpellsStmt, SpellsStmts, SpellsClauses, FitsStmt, FitsStmts, is_empty, is_simple}
use Rattle.ui_parse.specs.Reader.{first, marked}
use Rattle.ui_syntax.proofs.FirstWords.{Starts, tree_mark, word_or, starts_as, starts_other, starts_at}
use Rattle.ui_syntax.proofs.FirstTrees.{first_of_tree}

-- ---- simple statements begin as expressions do

abbrev pub simple_word : Word → Bool
simple_word = word_or (tree_mark false)

module _ (p : Place) (no_braces : takes_braces p ≡ false) where
  pub first_of_expr : (e : Tree) (ts rest : List Word) → Spells e ts rest → Fits e p → Starts simple_word ts
  first_of_expr e ts rest s f = subst (λ (b : Bool). Starts (word_or (tree_mark b)) ts) no_braces (first_of_tree e p ts rest s f)

  first_of_exprs : (es : Trees) (ts rest : List Word) → SpellsExprs es ts rest → FitsTrees es p → Starts simple_word ts
  first_of_exprs trees_end ts rest s f = absurd s
  first_of_exprs (tree_and e es) ts rest s f = first_of_expr e ts s.0 s.1 f.0

  first_of_names : (ns : List Placed) (ts rest : List Word) → Names ns ts rest → Starts simple_word ts
  first_of_names [] ts rest s = absurd s
  first_of_names (p ∷ ps) ts rest s = starts_at simple_word (ident p) ts s.0 s.1 refl

  pub first_of_simple : (t : Stmt) (ts rest : List Word) → is_simple t ≡ true → is_empty t ≡ false → SpellsStmt t ts rest → FitsStmt t p → Starts simple_word ts
  first_of_simple (alone e) ts rest is words s f = first_of_expr e ts rest s f
  first_of_simple (assign x l r) ts rest is words s f = first_of_exprs l ts s.0 s.3 f.0
  first_of_simple (op_assign x l o r) ts rest is words s f = first_of_expr l ts s.0 s.3 f.0
  first_of_simple (define x ns es) ts rest is words s f = first_of_names ns ts s.0 s.3
  first_of_simple (increment x e) ts rest is words s f = first_of_expr e ts s.0 s.2 f
  first_of_simple (decrement x e) ts rest is words s f = first_of_expr e ts s.0 s.2 f
  first_of_simple empty ts rest is words s f = absurd cc
  first_of_simple _ ts rest is words s f = absurd cc

  -- a mark with which no simple statement begins
  pub not_simple : (k : TokenKind) (t : Stmt) (ts rest : List Word) → tree_mark false k ≡ false → is_simple t ≡ true → is_empty t ≡ false → SpellsStmt t ts rest → FitsStmt t p → first (marked k) ts ≡ None
  not_simple k t ts rest other is words s f = starts_other simple_word k ts (λ x. other) (first_of_simple t ts rest is words s f)

-- ---- any statement with words

abbrev pub stmt_mark : TokenKind → Bool
stmt_mark kind.Const = true
stmt_mark kind.Var = true
stmt_mark kind.LBrace = true
stmt_mark kind.Return = true
stmt_mark kind.Break = true
stmt_mark kind.Continue = true
stmt_mark kind.If = true
stmt_mark kind.For = true
stmt_mark kind.Switch = true
stmt_mark k = tree_mark false k

abbrev pub stmt_word : Word → Bool
stmt_word = word_or stmt_mark

tree_in_stmt : (k : TokenKind) → tree_mark false k ≡ true → stmt_mark k ≡ true
tree_in_stmt kind.Const h = refl
tree_in_stmt kind.Var h = refl
tree_in_stmt kind.LBrace h = refl
tree_in_stmt kind.Return h = refl
tree_in_stmt kind.Break h = refl
tree_in_stmt kind.Continue h = refl
tree_in_stmt kind.If h = refl
tree_in_stmt kind.For h = refl
tree_in_stmt kind.Switch h = refl
tree_in_stmt _ h = h

word_in_stmt : (w : Word) → simple_word w ≡ true → stmt_word w ≡ true
word_in_stmt (ident p) h = refl
word_in_stmt (lit l x v) h = refl
word_in_stmt (mark k x) h = tree_in_stmt k h

simple_starts : (t : Stmt) (ts rest : List Word) → is_simple t ≡ true → is_empty t ≡ false → SpellsStmt t ts rest → FitsStmt t plain → Starts stmt_word ts
simple_starts t ts rest is words s f = starts_as simple_word stmt_word ts word_in_stmt (first_of_simple plain refl t ts rest is words s f)

pub first_of_stmt : (t : Stmt) (ts rest : List Word) → is_empty t ≡ false → SpellsStmt t ts rest → FitsStmt t plain → Starts stmt_word ts
first_of_stmt empty ts rest words s f = absurd cc
first_of_stmt (common (constants x vs)) ts rest words s f = starts_at stmt_word (mark kind.Const x) ts s.0 s.1 refl
first_of_stmt (common (variables x vs)) ts rest words s f = starts_at stmt_word (mark kind.Var x) ts s.0 s.1 refl
first_of_stmt (block (braces x ss e)) ts rest words s f = starts_at stmt_word (mark kind.LBrace x) ts s.0 s.2 refl
first_of_stmt (returning x es) ts rest words s f = starts_at stmt_word (mark kind.Return x) ts s.0 s.1 refl
first_of_stmt (breaking x) ts rest words s f = starts_at stmt_word (mark kind.Break x) ts rest s refl
first_of_stmt (continuing x) ts rest words s f = starts_at stmt_word (mark kind.Continue x) ts rest s refl
first_of_stmt (branch x i e b o) ts rest words s f = starts_at stmt_word (mark kind.If x) ts s.0 s.4 refl
first_of_stmt (loop x b) ts rest words s f = starts_at stmt_word (mark kind.For x) ts s.0 s.1 refl
first_of_stmt (while_true x e b) ts rest words s f = starts_at stmt_word (mark kind.For x) ts s.0 s.2 refl
first_of_stmt (counting x i e p b) ts rest words s f = starts_at stmt_word (mark kind.For x) ts s.0 s.6 refl
first_of_stmt (ranging x ps e b) ts rest words s f = starts_at stmt_word (mark kind.For x) ts s.0 s.4 refl
first_of_stmt (switch x i e cs) ts rest words s f = starts_at stmt_word (mark kind.Switch x) ts s.0 s.5 refl
first_of_stmt (alone e) ts rest words s f = simple_starts (alone e) ts rest refl refl s f
first_of_stmt (assign x l r) ts rest words s f = simple_starts (assign x l r) ts rest refl refl s f
first_of_stmt (op_assign x l o r) ts rest words s f = simple_starts (op_assign x l o r) ts rest refl refl s f
first_of_stmt (define x ns es) ts rest words s f = simple_starts (define x ns es) ts rest refl refl s f
first_of_stmt (increment x e) ts rest words s f = simple_starts (increment x e) ts rest refl refl s f
first_of_stmt (decrement x e) ts rest words s f = simple_starts (decrement x e) ts rest refl refl s f

-- ---- a statement with words, or none

pub data StmtCase : Stmt → Type 0 where
  no_word : StmtCase empty
  has_words : {t : Stmt} → is_empty t ≡ false → StmtCase t

pub stmt_case : (t : Stmt) → StmtCase t
stmt_case empty = no_word
stmt_case _ = has_words refl

-- a mark with which no statement begins
pub not_stmt : (k : TokenKind) (t : Stmt) (ts rest : List Word) → stmt_mark k ≡ false → is_empty t ≡ false → SpellsStmt t ts rest → FitsStmt t plain → first (marked k) ts ≡ None
not_stmt k t ts rest other words s f = starts_other stmt_word k ts (λ x. other) (first_of_stmt t ts rest words s f)

-- ---- a closing brace ends all statements and clauses

no_close : {x : Spot} {c ts : List Word} → ts ≡ mark kind.RBrace x ∷ c → first (marked kind.RBrace) ts ≡ None → ⊥
no_close {x = x} {c = c} e h = clash (sym (ap (first (marked kind.RBrace)) e) ∙ h)
  where
    clash : first (marked kind.RBrace) (mark kind.RBrace x ∷ c) ≡ None → ⊥
    clash h = cc

no_semicolon : {x : Spot} {c ts b : List Word} → ts ≡ mark kind.RBrace x ∷ c → Mark kind.Semi ts b → ⊥
no_semicolon e m = no_close e (ap (first (marked kind.RBrace)) m.is)

pub stmts_closed : (ss : Stmts) (x : Spot) (c ts b : List Word) → ts ≡ mark kind.RBrace x ∷ c → SpellsStmts ss ts b → FitsStmts ss → (ss ≡ stmts_end) × (ts ≡ b)
stmts_closed stmts_end x c ts b e s f = (refl, s)
stmts_closed (stmt_and t ss) x c ts b e s f = absurd (by_case t (stmt_case t) s.2 s.3 f.0)
  where
    by_case : (t : Stmt) → StmtCase t → SpellsStmt t ts s.0 → EndsStmt (is_empty t) s.0 s.1 → FitsStmt t plain → ⊥
    by_case _ no_word sp ends g = no_semicolon (sym sp ∙ e) ends
    by_case t (has_words words) sp ends g = no_close e (not_stmt kind.RBrace t ts s.0 refl words sp g)

pub clauses_closed : (cs : Clauses) (x : Spot) (c ts b : List Word) → ts ≡ mark kind.RBrace x ∷ c → SpellsClauses cs ts b → (cs ≡ clauses_end) × (ts ≡ b)
clauses_closed clauses_end x c ts b e s = (refl, s)
clauses_closed (clause_and y no_trees ss cs) x c ts b e s = absurd (no_close e (ap (first (marked kind.RBrace)) s.3))
clauses_closed (clause_and y (given_trees es) ss cs) x c ts b e s = absurd (no_close e (ap (first (marked kind.RBrace)) s.3.1))
