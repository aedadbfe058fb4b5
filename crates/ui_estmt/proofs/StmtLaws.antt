-- The formats of statements and bodies are lawful.
use Rattle.std.proofs.Common.{◌≡◌, ℕ, zero, suc, List, length, Option, Some}
use Rattle.std.proofs.Common.{None, refl, sym, ap}
use Rattle.std.specs.Prelude.{nat_eq}
use Rattle.ui_base.specs.declared.kind.BinOp.{BinOp}
use Rattle.ui_strpos.specs.Reading.{Context}
use Rattle.ui_strpos.specs.Elements.{any, code_below}
use Rattle.ui_strpos.specs.Format.{Format, uint_field, seq, counted, nothing_more, times_of}
use Rattle.ui_strpos.specs.Format.{no_format, Lawful}
use Rattle.ui_strpos.specs.Laws.{uint_lawful, seq_lawful, via_lawful, variant_lawful}
use Rattle.ui_strpos.specs.Laws.{tagged_lawful, either_lawful, counted_lawful, nothing_lawful}
use Rattle.ui_strpos.specs.Laws.{no_lawful, case_only, variant_code, times_lawful}
use Rattle.ui_eexpr.specs.declared.expr.ExprEl.{ExprEl}
use Rattle.ui_eexpr.specs.Uses.{outer}
use Rattle.ui_eexpr.specs.UseLaws.{outer_lawful}
use Rattle.ui_eexpr.specs.Codes as codes
use Rattle.ui_eexpr.specs.Exprs.{expression, maybe, too_deep}
use Rattle.ui_eexpr.proofs.CodeLaws.{binary_lawful}
use Rattle.ui_eexpr.proofs.ExprLaws.{maybe_lawful, expression_lawful}
use Rattle.ui_estmt.specs.declared.stmt.RangeEl.{RangeEl}
use Rattle.ui_estmt.specs.declared.stmt.RangeEl.TheVariants as range_
use Rattle.ui_estmt.specs.declared.stmt.ClauseEl.{ClauseEl}
use Rattle.ui_estmt.specs.declared.stmt.StmtEl.{StmtEl, out-StmtEl, roll-StmtEl}
use Rattle.ui_estmt.specs.declared.stmt.StmtEl.TheOpen.{StmtEl-F}
use Rattle.ui_estmt.specs.declared.stmt.StmtEl.TheViews.{out-roll-StmtEl, roll-out-StmtEl}
use Rattle.ui_estmt.specs.Stmts as stmt
use Rattle.ui_estmt.specs.Stmts.{Layer, is_place, place_of, place_number, defined, range_cases}
use Rattle.ui_estmt.specs.Stmts.{range, clause, cases, layer, statement}
use Rattle.ui_estmt.specs.Bodies.{holds_params, locals, max_depth, body}

-- ---- parts

place_back : (v : Option ℕ) → place_of (place_number v) ≡ v
place_back None = refl
place_back (Some k) = refl

place_again : (n : ℕ) → place_number (place_of n) ≡ n
place_again zero = refl
place_again (suc k) = refl

defined_lawful : (locals : ℕ) → Lawful (defined locals)
defined_lawful locals =
    via_lawful place_of place_number (uint_field (is_place locals))
    (uint_lawful (is_place locals)) place_back (λ c n h. place_again n)

nothing_forth : (v : RangeEl) (a : Unit {0}) → stmt.as_nothing v ≡ Some a → range_.Nothing ≡ v
nothing_forth range_.Nothing a e = refl
nothing_forth v a e = absurd cc

defining_forth : (v : RangeEl) (a : Option ℕ × Option ℕ) → stmt.as_defining v ≡ Some a
    → range_.Define a.0 a.1 ≡ v
defining_forth (range_.Define b d) a e =
    (let s : (b, d) ≡ a = cc in ap (λ (x : Option ℕ × Option ℕ). range_.Define x.0 x.1) (sym s))
defining_forth v a e = absurd cc

assigning_forth : (v : RangeEl) (a : Option ExprEl × Option ExprEl) → stmt.as_assigning v ≡ Some a
    → range_.Assign a.0 a.1 ≡ v
assigning_forth (range_.Assign b d) a e =
    (let s : (b, d) ≡ a = cc in
    ap (λ (x : Option ExprEl × Option ExprEl). range_.Assign x.0 x.1) (sym s))
assigning_forth v a e = absurd cc

range_cases_lawful : (locals : ℕ) (expr : Format ExprEl) → Lawful expr → (k : ℕ)
    → Lawful (range_cases locals expr k)
range_cases_lawful locals expr le k =
    either_lawful (nat_eq k 0) _ _
    (variant_lawful _ _ _ (nothing_lawful tt) (λ a. refl) nothing_forth) (
    either_lawful (nat_eq k 1) _ _
    (variant_lawful _ _ _ (seq_lawful (defined locals) _ (defined_lawful locals)
    (λ _. defined_lawful locals)) (λ a. refl) defining_forth) (
    either_lawful (nat_eq k 2) _ _
    (variant_lawful _ _ _ (seq_lawful (maybe expr) _ (maybe_lawful expr le)
    (λ _. maybe_lawful expr le)) (λ a. refl) assigning_forth) no_lawful))

range_only : (locals : ℕ) (expr : Format ExprEl) (k : ℕ) (c : Context) (v : RangeEl)
    → (range_cases locals expr k).fits c v → stmt.range_code v ≡ k
range_only locals expr k c v h =
    case_only stmt.range_code k 0 _ _ c v h (λ f. variant_code _ _ (nothing_more tt)
    stmt.range_code 0 c v f nothing_forth (λ a. refl)) (λ h.
    case_only stmt.range_code k 1 _ _ c v h
    (λ f. variant_code _ _ (seq (defined locals) (λ _. defined locals)) stmt.range_code 1 c v f
    defining_forth (λ a. refl)) (λ h.
    case_only stmt.range_code k 2 _ _ c v h
    (λ f. variant_code _ _ (seq (maybe expr) (λ _. maybe expr)) stmt.range_code 2 c v f
    assigning_forth (λ a. refl)) (λ h. absurd h)))

range_lawful : (locals : ℕ) (expr : Format ExprEl) → Lawful expr → Lawful (range locals expr)
range_lawful locals expr le =
    tagged_lawful (uint_field (code_below 3)) stmt.range_code (range_cases locals expr)
    (uint_lawful (code_below 3)) (range_cases_lawful locals expr le) (range_only locals expr)

clause_lawful : (expr : Format ExprEl) (sub : Format StmtEl) → Lawful expr → Lawful sub
    → Lawful (clause expr sub)
clause_lawful expr sub le l =
    via_lawful _ _ _ (seq_lawful (counted expr) (λ _. counted sub) (counted_lawful expr le)
    (λ _. counted_lawful sub l)) (λ v. refl) (λ c a h. refl)

-- ---- a level is its case

alone_forth : (v : Layer) (a : ExprEl) → stmt.as_alone v ≡ Some a → StmtEl-F.Expr a ≡ v
alone_forth (StmtEl-F.Expr b) a e = cc
alone_forth v a e = absurd cc

define_forth : (v : Layer) (a : List (Option ℕ) × List ExprEl) → stmt.as_define v ≡ Some a →
    StmtEl-F.Define a.0 a.1 ≡ v
define_forth (StmtEl-F.Define b d) a e =
    (let s : (b, d) ≡ a = cc in ap (λ (x : List (Option ℕ) × List ExprEl). StmtEl-F.Define x.0 x.1)
    (sym s))
define_forth v a e = absurd cc

assign_forth : (v : Layer) (a : List (Option ExprEl) × List ExprEl) → stmt.as_assign v ≡ Some a →
    StmtEl-F.Assign a.0 a.1 ≡ v
assign_forth (StmtEl-F.Assign b d) a e =
    (let s : (b, d) ≡ a = cc in ap (λ (x : List (Option ExprEl) × List ExprEl). StmtEl-F.Assign x.0
    x.1) (sym s))
assign_forth v a e = absurd cc

op_assign_forth : (v : Layer) (a : BinOp × (ExprEl × ExprEl)) → stmt.as_op_assign v ≡ Some a →
    StmtEl-F.OpAssign a.0 a.1.0 a.1.1 ≡ v
op_assign_forth (StmtEl-F.OpAssign b d f) a e =
    (let s : (b, (d, f)) ≡ a = cc in ap (λ (x : BinOp × (ExprEl × ExprEl)). StmtEl-F.OpAssign x.0
    x.1.0 x.1.1) (sym s))
op_assign_forth v a e = absurd cc

block_forth : (v : Layer) (a : List StmtEl) → stmt.as_block v ≡ Some a → StmtEl-F.Block a ≡ v
block_forth (StmtEl-F.Block b) a e = cc
block_forth v a e = absurd cc

branch_forth : (v : Layer) (a : ExprEl × (List StmtEl × List StmtEl)) → stmt.as_branch v ≡ Some a →
    StmtEl-F.If a.0 a.1.0 a.1.1 ≡ v
branch_forth (StmtEl-F.If b d f) a e =
    (let s : (b, (d, f)) ≡ a = cc in ap (λ (x : ExprEl × (List StmtEl × List StmtEl)). StmtEl-F.If
    x.0 x.1.0 x.1.1) (sym s))
branch_forth v a e = absurd cc

loop_forth : (v : Layer) (a : List StmtEl × (Option ExprEl × (List StmtEl × List StmtEl))) →
    stmt.as_loop v ≡ Some a → StmtEl-F.For a.0 a.1.0 a.1.1.0 a.1.1.1 ≡ v
loop_forth (StmtEl-F.For b d f g) a e =
    (let s : (b, (d, (f, g))) ≡ a = cc in ap (λ (x : List StmtEl × (Option ExprEl × (List StmtEl ×
    List StmtEl))). StmtEl-F.For x.0 x.1.0 x.1.1.0 x.1.1.1) (sym s))
loop_forth v a e = absurd cc

ranging_forth : (v : Layer) (a : RangeEl × (ExprEl × List StmtEl)) → stmt.as_ranging v ≡ Some a →
    StmtEl-F.Range a.0 a.1.0 a.1.1 ≡ v
ranging_forth (StmtEl-F.Range b d f) a e =
    (let s : (b, (d, f)) ≡ a = cc in ap (λ (x : RangeEl × (ExprEl × List StmtEl)). StmtEl-F.Range
    x.0 x.1.0 x.1.1) (sym s))
ranging_forth v a e = absurd cc

switch_forth : (v : Layer) (a : ExprEl × (List (ClauseEl StmtEl) × Option (List StmtEl))) →
    stmt.as_switch v ≡ Some a → StmtEl-F.Switch a.0 a.1.0 a.1.1 ≡ v
switch_forth (StmtEl-F.Switch b d f) a e =
    (let s : (b, (d, f)) ≡ a = cc in ap (λ (x : ExprEl × (List (ClauseEl StmtEl) × Option (List
    StmtEl))). StmtEl-F.Switch x.0 x.1.0 x.1.1) (sym s))
switch_forth v a e = absurd cc

returning_forth : (v : Layer) (a : List ExprEl) → stmt.as_returning v ≡ Some a → StmtEl-F.Return a
    ≡ v
returning_forth (StmtEl-F.Return b) a e = cc
returning_forth v a e = absurd cc

breaking_forth : (v : Layer) (a : Unit {0}) → stmt.as_breaking v ≡ Some a → StmtEl-F.Break ≡ v
breaking_forth StmtEl-F.Break a e = refl
breaking_forth v a e = absurd cc

continuing_forth : (v : Layer) (a : Unit {0}) → stmt.as_continuing v ≡ Some a → StmtEl-F.Continue ≡
    v
continuing_forth StmtEl-F.Continue a e = refl
continuing_forth v a e = absurd cc

alone_lawful : (expr : Format ExprEl) → Lawful expr → Lawful (stmt.alone expr)
alone_lawful expr le =
    variant_lawful _ _ _ le (λ a. refl) alone_forth

define_lawful : (locals : ℕ) → (expr : Format ExprEl) → Lawful expr → Lawful (stmt.define locals
    expr)
define_lawful locals expr le =
    variant_lawful _ _ _ (seq_lawful (counted (defined locals)) _ (counted_lawful (defined locals)
    (defined_lawful locals)) (λ _. (counted_lawful expr le))) (λ a. refl) define_forth

assign_lawful : (expr : Format ExprEl) → Lawful expr → Lawful (stmt.assign expr)
assign_lawful expr le =
    variant_lawful _ _ _ (seq_lawful (counted (maybe expr)) _ (counted_lawful (maybe expr)
    (maybe_lawful expr le)) (λ _. (counted_lawful expr le))) (λ a. refl) assign_forth

op_assign_lawful : (expr : Format ExprEl) → Lawful expr → Lawful (stmt.op_assign expr)
op_assign_lawful expr le =
    variant_lawful _ _ _ (seq_lawful codes.binary _ binary_lawful (λ _. (seq_lawful expr _ le (λ _.
    le)))) (λ a. refl) op_assign_forth

block_lawful : (sub : Format StmtEl) → Lawful sub → Lawful (stmt.block sub)
block_lawful sub l =
    variant_lawful _ _ _ (counted_lawful sub l) (λ a. refl) block_forth

branch_lawful : (expr : Format ExprEl) → Lawful expr → (sub : Format StmtEl) → Lawful sub → Lawful
    (stmt.branch expr sub)
branch_lawful expr le sub l =
    variant_lawful _ _ _ (seq_lawful expr _ le (λ _. (seq_lawful (counted sub) _ (counted_lawful
    sub l) (λ _. (counted_lawful sub l))))) (λ a. refl) branch_forth

loop_lawful : (expr : Format ExprEl) → Lawful expr → (sub : Format StmtEl) → Lawful sub → Lawful
    (stmt.loop expr sub)
loop_lawful expr le sub l =
    variant_lawful _ _ _ (seq_lawful (counted sub) _ (counted_lawful sub l) (λ _. (seq_lawful
    (maybe expr) _ (maybe_lawful expr le) (λ _. (seq_lawful (counted sub) _ (counted_lawful sub
    l) (λ _. (counted_lawful sub l))))))) (λ a. refl) loop_forth

ranging_lawful : (locals : ℕ) → (expr : Format ExprEl) → Lawful expr → (sub : Format StmtEl) →
    Lawful sub → Lawful (stmt.ranging locals expr sub)
ranging_lawful locals expr le sub l =
    variant_lawful _ _ _ (seq_lawful (range locals expr) _ (range_lawful locals expr le) (λ _.
    (seq_lawful expr _ le (λ _. (counted_lawful sub l))))) (λ a. refl) ranging_forth

switch_lawful : (expr : Format ExprEl) → Lawful expr → (sub : Format StmtEl) → Lawful sub → Lawful
    (stmt.switch expr sub)
switch_lawful expr le sub l =
    variant_lawful _ _ _ (seq_lawful expr _ le (λ _. (seq_lawful (counted (clause expr sub)) _
    (counted_lawful (clause expr sub) (clause_lawful expr sub le l)) (λ _. (maybe_lawful
    (counted sub) (counted_lawful sub l)))))) (λ a. refl) switch_forth

returning_lawful : (expr : Format ExprEl) → Lawful expr → Lawful (stmt.returning expr)
returning_lawful expr le =
    variant_lawful _ _ _ (counted_lawful expr le) (λ a. refl) returning_forth

breaking_lawful : Lawful stmt.breaking
breaking_lawful =
    variant_lawful _ _ _ (nothing_lawful tt) (λ a. refl) breaking_forth

continuing_lawful : Lawful stmt.continuing
continuing_lawful =
    variant_lawful _ _ _ (nothing_lawful tt) (λ a. refl) continuing_forth

cases_lawful : (locals : ℕ) (expr : Format ExprEl) (sub : Format StmtEl) → Lawful expr
    → Lawful sub → (k : ℕ) → Lawful (cases locals expr sub k)
cases_lawful locals expr sub le l k =
    either_lawful (nat_eq k 0) _ _ (alone_lawful expr le) (
    either_lawful (nat_eq k 1) _ _ (define_lawful locals expr le) (
    either_lawful (nat_eq k 2) _ _ (assign_lawful expr le) (
    either_lawful (nat_eq k 3) _ _ (op_assign_lawful expr le) (
    either_lawful (nat_eq k 4) _ _ (block_lawful sub l) (
    either_lawful (nat_eq k 5) _ _ (branch_lawful expr le sub l) (
    either_lawful (nat_eq k 6) _ _ (loop_lawful expr le sub l) (
    either_lawful (nat_eq k 7) _ _ (ranging_lawful locals expr le sub l) (
    either_lawful (nat_eq k 8) _ _ (switch_lawful expr le sub l) (
    either_lawful (nat_eq k 9) _ _ (returning_lawful expr le) (
    either_lawful (nat_eq k 10) _ _ breaking_lawful (
    either_lawful (nat_eq k 11) _ _ continuing_lawful (
    no_lawful))))))))))))

cases_only : (locals : ℕ) (expr : Format ExprEl) (sub : Format StmtEl) (k : ℕ) (c : Context)
    (v : Layer) → (cases locals expr sub k).fits c v → stmt.code_of v ≡ k
cases_only locals expr sub k c v h =
    case_only stmt.code_of k 0 _ _ c v h (λ f. variant_code _ _ expr stmt.code_of 0 c v f
    alone_forth (λ a. refl)) (λ h.
    case_only stmt.code_of k 1 _ _ c v h (λ f. variant_code _ _ (seq (counted (defined locals)) (λ
    _. (counted expr))) stmt.code_of 1 c v f define_forth (λ a. refl)) (λ h.
    case_only stmt.code_of k 2 _ _ c v h (λ f. variant_code _ _ (seq (counted (maybe expr)) (λ _.
    (counted expr))) stmt.code_of 2 c v f assign_forth (λ a. refl)) (λ h.
    case_only stmt.code_of k 3 _ _ c v h (λ f. variant_code _ _ (seq codes.binary (λ _. seq expr (λ
    _. expr))) stmt.code_of 3 c v f op_assign_forth (λ a. refl)) (λ h.
    case_only stmt.code_of k 4 _ _ c v h (λ f. variant_code _ _ (counted sub) stmt.code_of 4 c v f
    block_forth (λ a. refl)) (λ h.
    case_only stmt.code_of k 5 _ _ c v h (λ f. variant_code _ _ (seq expr (λ _. seq (counted sub)
    (λ _. (counted sub)))) stmt.code_of 5 c v f branch_forth (λ a. refl)) (λ h.
    case_only stmt.code_of k 6 _ _ c v h (λ f. variant_code _ _ (seq (counted sub) (λ _. seq (maybe
    expr) (λ _. seq (counted sub) (λ _. (counted sub))))) stmt.code_of 6 c v f loop_forth (λ a.
    refl)) (λ h.
    case_only stmt.code_of k 7 _ _ c v h (λ f. variant_code _ _ (seq (range locals expr) (λ _. seq
    expr (λ _. (counted sub)))) stmt.code_of 7 c v f ranging_forth (λ a. refl)) (λ h.
    case_only stmt.code_of k 8 _ _ c v h (λ f. variant_code _ _ (seq expr (λ _. seq (counted
    (clause expr sub)) (λ _. (maybe (counted sub))))) stmt.code_of 8 c v f switch_forth (λ a.
    refl)) (λ h.
    case_only stmt.code_of k 9 _ _ c v h (λ f. variant_code _ _ (counted expr) stmt.code_of 9 c v f
    returning_forth (λ a. refl)) (λ h.
    case_only stmt.code_of k 10 _ _ c v h (λ f. variant_code _ _ (nothing_more tt) stmt.code_of 10
    c v f breaking_forth (λ a. refl)) (λ h.
    case_only stmt.code_of k 11 _ _ c v h (λ f. variant_code _ _ (nothing_more tt) stmt.code_of 11
    c v f continuing_forth (λ a. refl)) (λ h.
    absurd h))))))))))))

layer_lawful : (locals : ℕ) (expr : Format ExprEl) (sub : Format StmtEl) → Lawful expr
    → Lawful sub → Lawful (layer locals expr sub)
layer_lawful locals expr sub le l =
    tagged_lawful (uint_field (code_below 12)) stmt.code_of (cases locals expr sub)
    (uint_lawful (code_below 12)) (cases_lawful locals expr sub le l) (cases_only locals expr sub)

pub statement_lawful : (locals depth : ℕ) → Lawful (statement locals depth)
unfolding statement
statement_lawful locals zero =
    tagged_lawful (uint_field too_deep) (λ s. 0) (λ k. no_format) (uint_lawful too_deep)
    (λ k. no_lawful) (λ k c v h. absurd h)
statement_lawful locals (suc depth) =
    via_lawful roll-StmtEl out-StmtEl
    (layer locals (expression locals depth) (statement locals depth))
    (layer_lawful locals (expression locals depth) (statement locals depth)
    (expression_lawful locals depth) (statement_lawful locals depth))
    roll-out-StmtEl (λ c a h. out-roll-StmtEl a)

-- ---- bodies

locals_lawful : (params : ℕ) → Lawful (locals params)
locals_lawful params =
    via_lawful _ _ _ (seq_lawful (uint_field (holds_params params))
    (λ n. times_of (λ _. n) outer) (uint_lawful (holds_params params))
    (λ n. times_lawful (λ _. n) outer outer_lawful))
    (λ v. refl) (λ c a h. ap (λ (n : ℕ). (n, a.1)) h.1.0)

pub body_lawful : Lawful body
body_lawful =
    via_lawful _ _ _
    (seq_lawful (uint_field any) _ (uint_lawful any) (λ p.
    seq_lawful (locals p) _ (locals_lawful p) (λ ls.
    seq_lawful (counted outer) _ (counted_lawful outer outer_lawful) (λ _.
    counted_lawful (statement (length ls) max_depth) (statement_lawful (length ls) max_depth)))))
    (λ v. refl) (λ c a h. refl)
