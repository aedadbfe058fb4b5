-- The grammar of bodies. This project's own, after `cmd/compile/internal/noder` of the Go tree.
use Rattle.std.specs.Prelude.{ℕ, nat_lt, if◌then◌else◌, List, length, Option, Some, None}
use Rattle.ui_strpos.specs.declared.fault.Cause.{Cause}
use Rattle.ui_strpos.specs.declared.fault.Cause.TheVariants.{WrongCount}
use Rattle.ui_strpos.specs.Reading.{Context}
use Rattle.ui_strpos.specs.Elements.{any}
use Rattle.ui_strpos.specs.Format.{Format, uint_field, seq, via, counted, times_of}
use Rattle.ui_eexpr.specs.declared.uses.OuterUse.{OuterUse}
use Rattle.ui_eexpr.specs.Uses.{outer}
use Rattle.ui_estmt.specs.declared.body.BodyEl.{BodyEl}
use Rattle.ui_estmt.specs.declared.stmt.StmtEl.{StmtEl}
use Rattle.ui_estmt.specs.Stmts.{statement}

-- how deep statements and expressions may nest
abbrev pub max_depth : ℕ
max_depth = 1024

-- the parameters are locals
abbrev pub holds_params : ℕ → Context → ℕ → Option Cause
holds_params params c n = if nat_lt n params then Some WrongCount else None

-- how many locals there are, and their types
abbrev pub locals : ℕ → Format (List OuterUse)
locals params =
    via (λ x. x.1) (λ ts. (length ts, ts))
    (seq (uint_field (holds_params params)) (λ n. times_of (λ _. n) outer))

-- U(params), the locals, the results, and the statements
abbrev pub fields : Format (ℕ × (List OuterUse × (List OuterUse × List StmtEl)))
fields =
    seq (uint_field any) (λ p. seq (locals p) (λ ls. seq (counted outer)
    (λ _. counted (statement (length ls) max_depth))))

abbrev pub body : Format BodyEl
body =
    via (λ x. record { params = x.0; locals = x.1.0; results = x.1.1.0; stmts = x.1.1.1 })
    (λ v. (v.params, (v.locals, (v.results, v.stmts)))) fields
