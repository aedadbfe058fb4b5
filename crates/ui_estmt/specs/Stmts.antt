-- The grammar of statements. This project's own, after `cmd/compile/internal/noder` of the Go
-- tree.
use Rattle.std.specs.Prelude.{ℕ, zero, suc, nat_eq, nat_le, if◌then◌else◌, List, Option}
use Rattle.std.specs.Prelude.{Some, None}
use Rattle.ui_base.specs.declared.kind.BinOp.{BinOp}
use Rattle.ui_strpos.specs.declared.fault.Cause.{Cause}
use Rattle.ui_strpos.specs.declared.fault.Cause.TheVariants.{BadLocal}
use Rattle.ui_strpos.specs.Reading.{Context}
use Rattle.ui_strpos.specs.Elements.{code_below}
use Rattle.ui_strpos.specs.Format.{Format, uint_field, seq, via, variant, tagged, choose}
use Rattle.ui_strpos.specs.Format.{no_format, nothing_more, counted}
use Rattle.ui_eexpr.specs.declared.expr.ExprEl.{ExprEl}
use Rattle.ui_eexpr.specs.Codes as codes
use Rattle.ui_eexpr.specs.Exprs.{expression, maybe, too_deep}
use Rattle.ui_estmt.specs.declared.stmt.RangeEl.{RangeEl}
use Rattle.ui_estmt.specs.declared.stmt.RangeEl.TheVariants as range_
use Rattle.ui_estmt.specs.declared.stmt.ClauseEl.{ClauseEl}
use Rattle.ui_estmt.specs.declared.stmt.StmtEl.{StmtEl, out-StmtEl, roll-StmtEl}
use Rattle.ui_estmt.specs.declared.stmt.StmtEl.TheOpen.{StmtEl-F}

-- one level of a statement, whose parts are whole statements and expressions
abbrev pub Layer : Type 0
Layer = StmtEl-F StmtEl

-- ---- places to define

-- 0, or one more than the number of a local
abbrev pub is_place : ℕ → Context → ℕ → Option Cause
is_place locals c n = if nat_le n locals then None else Some BadLocal

abbrev pub place_of : ℕ → Option ℕ
place_of zero = None
place_of (suc k) = Some k

abbrev pub place_number : Option ℕ → ℕ
place_number None = zero
place_number (Some k) = suc k

abbrev pub defined : ℕ → Format (Option ℕ)
defined locals = via place_of place_number (uint_field (is_place locals))

-- ---- what a range defines or assigns

abbrev pub range_code : RangeEl → ℕ
range_code range_.Nothing = 0
range_code (range_.Define a b) = 1
range_code (range_.Assign a b) = 2

abbrev pub as_nothing : RangeEl → Option (Unit {0})
as_nothing range_.Nothing = Some tt
as_nothing v = None

abbrev pub as_defining : RangeEl → Option (Option ℕ × Option ℕ)
as_defining (range_.Define a b) = Some (a, b)
as_defining v = None

abbrev pub as_assigning : RangeEl → Option (Option ExprEl × Option ExprEl)
as_assigning (range_.Assign a b) = Some (a, b)
as_assigning v = None

abbrev pub defines_nothing : Format RangeEl
defines_nothing = variant (λ x. range_.Nothing) as_nothing (nothing_more tt)

abbrev pub defining : ℕ → Format RangeEl
defining locals =
    variant (λ x. range_.Define x.0 x.1) as_defining (seq (defined locals) (λ _. defined locals))

abbrev pub assigning : Format ExprEl → Format RangeEl
assigning expr =
    variant (λ x. range_.Assign x.0 x.1) as_assigning (seq (maybe expr) (λ _. maybe expr))

abbrev pub range_cases : ℕ → Format ExprEl → ℕ → Format RangeEl
range_cases locals expr k =
    choose (nat_eq k 0) defines_nothing (
    choose (nat_eq k 1) (defining locals) (
    choose (nat_eq k 2) (assigning expr) no_format))

abbrev pub range : ℕ → Format ExprEl → Format RangeEl
range locals expr =
    tagged (uint_field (code_below 3)) range_code (range_cases locals expr)

-- ---- clauses of a switch

-- EE SS
abbrev pub clause : Format ExprEl → Format StmtEl → Format (ClauseEl StmtEl)
clause expr sub =
    via (λ x. record { values = x.0; stmts = x.1 }) (λ v. (v.values, v.stmts))
    (seq (counted expr) (λ _. counted sub))

-- ---- the cases, by their codes
abbrev pub code_of : Layer → ℕ
code_of (StmtEl-F.Expr a) = 0
code_of (StmtEl-F.Define a b) = 1
code_of (StmtEl-F.Assign a b) = 2
code_of (StmtEl-F.OpAssign a b c) = 3
code_of (StmtEl-F.Block a) = 4
code_of (StmtEl-F.If a b c) = 5
code_of (StmtEl-F.For a b c d) = 6
code_of (StmtEl-F.Range a b c) = 7
code_of (StmtEl-F.Switch a b c) = 8
code_of (StmtEl-F.Return a) = 9
code_of StmtEl-F.Break = 10
code_of StmtEl-F.Continue = 11

abbrev pub as_alone : Layer → Option ExprEl
as_alone (StmtEl-F.Expr a) = Some a
as_alone v = None

abbrev pub as_define : Layer → Option (List (Option ℕ) × List ExprEl)
as_define (StmtEl-F.Define a b) = Some (a, b)
as_define v = None

abbrev pub as_assign : Layer → Option (List (Option ExprEl) × List ExprEl)
as_assign (StmtEl-F.Assign a b) = Some (a, b)
as_assign v = None

abbrev pub as_op_assign : Layer → Option (BinOp × (ExprEl × ExprEl))
as_op_assign (StmtEl-F.OpAssign a b c) = Some (a, (b, c))
as_op_assign v = None

abbrev pub as_block : Layer → Option (List StmtEl)
as_block (StmtEl-F.Block a) = Some a
as_block v = None

abbrev pub as_branch : Layer → Option (ExprEl × (List StmtEl × List StmtEl))
as_branch (StmtEl-F.If a b c) = Some (a, (b, c))
as_branch v = None

abbrev pub as_loop : Layer → Option (List StmtEl × (Option ExprEl × (List StmtEl × List StmtEl)))
as_loop (StmtEl-F.For a b c d) = Some (a, (b, (c, d)))
as_loop v = None

abbrev pub as_ranging : Layer → Option (RangeEl × (ExprEl × List StmtEl))
as_ranging (StmtEl-F.Range a b c) = Some (a, (b, c))
as_ranging v = None

abbrev pub as_switch : Layer → Option (ExprEl × (List (ClauseEl StmtEl) × Option (List StmtEl)))
as_switch (StmtEl-F.Switch a b c) = Some (a, (b, c))
as_switch v = None

abbrev pub as_returning : Layer → Option (List ExprEl)
as_returning (StmtEl-F.Return a) = Some a
as_returning v = None

abbrev pub as_breaking : Layer → Option (Unit {0})
as_breaking StmtEl-F.Break = Some tt
as_breaking v = None

abbrev pub as_continuing : Layer → Option (Unit {0})
as_continuing StmtEl-F.Continue = Some tt
as_continuing v = None

abbrev pub alone : Format ExprEl → Format Layer
alone expr = variant (λ x. StmtEl-F.Expr x) as_alone (expr)

abbrev pub define : ℕ → Format ExprEl → Format Layer
define locals expr = variant (λ x. StmtEl-F.Define x.0 x.1) as_define (seq (counted (defined
    locals)) (λ _. (counted expr)))

abbrev pub assign : Format ExprEl → Format Layer
assign expr = variant (λ x. StmtEl-F.Assign x.0 x.1) as_assign (seq (counted (maybe expr)) (λ _.
    (counted expr)))

abbrev pub op_assign : Format ExprEl → Format Layer
op_assign expr = variant (λ x. StmtEl-F.OpAssign x.0 x.1.0 x.1.1) as_op_assign (seq codes.binary (λ
    _. seq expr (λ _. expr)))

abbrev pub block : Format StmtEl → Format Layer
block sub = variant (λ x. StmtEl-F.Block x) as_block ((counted sub))

abbrev pub branch : Format ExprEl → Format StmtEl → Format Layer
branch expr sub = variant (λ x. StmtEl-F.If x.0 x.1.0 x.1.1) as_branch (seq expr (λ _. seq (counted
    sub) (λ _. (counted sub))))

abbrev pub loop : Format ExprEl → Format StmtEl → Format Layer
loop expr sub = variant (λ x. StmtEl-F.For x.0 x.1.0 x.1.1.0 x.1.1.1) as_loop (seq (counted sub) (λ
    _. seq (maybe expr) (λ _. seq (counted sub) (λ _. (counted sub)))))

abbrev pub ranging : ℕ → Format ExprEl → Format StmtEl → Format Layer
ranging locals expr sub = variant (λ x. StmtEl-F.Range x.0 x.1.0 x.1.1) as_ranging (seq (range
    locals expr) (λ _. seq expr (λ _. (counted sub))))

abbrev pub switch : Format ExprEl → Format StmtEl → Format Layer
switch expr sub = variant (λ x. StmtEl-F.Switch x.0 x.1.0 x.1.1) as_switch (seq expr (λ _. seq
    (counted (clause expr sub)) (λ _. (maybe (counted sub)))))

abbrev pub returning : Format ExprEl → Format Layer
returning expr = variant (λ x. StmtEl-F.Return x) as_returning ((counted expr))

abbrev pub breaking : Format Layer
breaking = variant (λ x. StmtEl-F.Break) as_breaking (nothing_more tt)

abbrev pub continuing : Format Layer
continuing = variant (λ x. StmtEl-F.Continue) as_continuing (nothing_more tt)

abbrev pub cases : ℕ → Format ExprEl → Format StmtEl → ℕ → Format Layer
cases locals expr sub k =
    choose (nat_eq k 0) (alone expr) (
    choose (nat_eq k 1) (define locals expr) (
    choose (nat_eq k 2) (assign expr) (
    choose (nat_eq k 3) (op_assign expr) (
    choose (nat_eq k 4) (block sub) (
    choose (nat_eq k 5) (branch expr sub) (
    choose (nat_eq k 6) (loop expr sub) (
    choose (nat_eq k 7) (ranging locals expr sub) (
    choose (nat_eq k 8) (switch expr sub) (
    choose (nat_eq k 9) (returning expr) (
    choose (nat_eq k 10) breaking (
    choose (nat_eq k 11) continuing (
    no_format))))))))))))

-- a code, and the fields of its case
abbrev pub layer : ℕ → Format ExprEl → Format StmtEl → Format Layer
layer locals expr sub =
    tagged (uint_field (code_below 12)) code_of (cases locals expr sub)

-- A statement among so many locals, that nests at most so deep, its expressions counted. The code
-- of one that nests deeper is refused.
unfoldable pub statement : ℕ → ℕ → Format StmtEl
statement locals zero = tagged (uint_field too_deep) (λ s. 0) (λ k. no_format)
statement locals (suc depth) =
    via roll-StmtEl out-StmtEl (layer locals (expression locals depth) (statement locals depth))
