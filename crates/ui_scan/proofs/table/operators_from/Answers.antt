use Rattle.std.proofs.Common.{◌∙◌, refl, arith}
use Rattle.std.specs.Prelude.{◌==◌, slice_index}
use Rattle.std.proofs.lemmas.Bool.{or_from, ne_eqb}
use Rattle.ui_scan.specs.Table.{operators}
use Rattle.ui_scan.proofs.TableLaws.{operator_by, no_operator}
use Rattle.ui_scan.proofs.table.operators_from.Goals as goal

pub returns-in-60 : goal.returns-in-60
unfolding operators
returns-in-60 c = λ bytes is. operator_by 60 _ bytes (is ∙ c.in-60.is) refl

pub returns-in-62 : goal.returns-in-62
unfolding operators
returns-in-62 c = λ bytes is. operator_by 62 _ bytes (is ∙ c.in-62.is) refl

pub returns-in-38 : goal.returns-in-38
unfolding operators
returns-in-38 c = λ bytes is. operator_by 38 _ bytes (is ∙ c.in-38.is) refl

pub returns-in-46 : goal.returns-in-46
unfolding operators
returns-in-46 c = λ bytes is. operator_by 46 _ bytes (is ∙ c.in-46.is) refl

pub returns-in-43 : goal.returns-in-43
unfolding operators
returns-in-43 c = λ bytes is. operator_by 43 _ bytes (is ∙ c.in-43.is) refl

pub returns-in-45 : goal.returns-in-45
unfolding operators
returns-in-45 c = λ bytes is. operator_by 45 _ bytes (is ∙ c.in-45.is) refl

pub returns-in-42 : goal.returns-in-42
unfolding operators
returns-in-42 c = λ bytes is. operator_by 42 _ bytes (is ∙ c.in-42.is) refl

pub returns-in-47 : goal.returns-in-47
unfolding operators
returns-in-47 c = λ bytes is. operator_by 47 _ bytes (is ∙ c.in-47.is) refl

pub returns-in-37 : goal.returns-in-37
unfolding operators
returns-in-37 c = λ bytes is. operator_by 37 _ bytes (is ∙ c.in-37.is) refl

pub returns-in-124 : goal.returns-in-124
unfolding operators
returns-in-124 c = λ bytes is. operator_by 124 _ bytes (is ∙ c.in-124.is) refl

pub returns-in-94 : goal.returns-in-94
unfolding operators
returns-in-94 c = λ bytes is. operator_by 94 _ bytes (is ∙ c.in-94.is) refl

pub returns-in-61 : goal.returns-in-61
unfolding operators
returns-in-61 c = λ bytes is. operator_by 61 _ bytes (is ∙ c.in-61.is) refl

pub returns-in-33 : goal.returns-in-33
unfolding operators
returns-in-33 c = λ bytes is. operator_by 33 _ bytes (is ∙ c.in-33.is) refl

pub returns-in-58 : goal.returns-in-58
unfolding operators
returns-in-58 c = λ bytes is. operator_by 58 _ bytes (is ∙ c.in-58.is) refl

pub returns-in-126 : goal.returns-in-126
unfolding operators
returns-in-126 c = λ bytes is. operator_by 126 _ bytes (is ∙ c.in-126.is) refl

pub returns-in-40 : goal.returns-in-40
unfolding operators
returns-in-40 c = λ bytes is. operator_by 40 _ bytes (is ∙ c.in-40.is) refl

pub returns-in-91 : goal.returns-in-91
unfolding operators
returns-in-91 c = λ bytes is. operator_by 91 _ bytes (is ∙ c.in-91.is) refl

pub returns-in-123 : goal.returns-in-123
unfolding operators
returns-in-123 c = λ bytes is. operator_by 123 _ bytes (is ∙ c.in-123.is) refl

pub returns-in-44 : goal.returns-in-44
unfolding operators
returns-in-44 c = λ bytes is. operator_by 44 _ bytes (is ∙ c.in-44.is) refl

pub returns-in-41 : goal.returns-in-41
unfolding operators
returns-in-41 c = λ bytes is. operator_by 41 _ bytes (is ∙ c.in-41.is) refl

pub returns-in-93 : goal.returns-in-93
unfolding operators
returns-in-93 c = λ bytes is. operator_by 93 _ bytes (is ∙ c.in-93.is) refl

pub returns-in-125 : goal.returns-in-125
unfolding operators
returns-in-125 c = λ bytes is. operator_by 125 _ bytes (is ∙ c.in-125.is) refl

pub returns-in-59 : goal.returns-in-59
unfolding operators
returns-in-59 c = λ bytes is. operator_by 59 _ bytes (is ∙ c.in-59.is) refl

pub returns-in_default : goal.returns-in_default
returns-in_default c = λ bytes is. no_operator bytes (
    or_from ((slice_index bytes 0) == 60) _ (ne_eqb (slice_index bytes 0) 60 (λ e. omega arith)) (or_from ((slice_index bytes 0) == 62) _ (ne_eqb (slice_index bytes 0) 62 (λ e. omega arith)) (or_from ((slice_index bytes 0) == 38) _ (ne_eqb (slice_index bytes 0) 38 (λ e. omega arith)) (or_from ((slice_index bytes 0) == 46) _ (ne_eqb (slice_index bytes 0) 46 (λ e. omega arith)) (or_from ((slice_index bytes 0) == 43) _ (ne_eqb (slice_index bytes 0) 43 (λ e. omega arith)) (or_from ((slice_index bytes 0) == 45) _ (ne_eqb (slice_index bytes 0) 45 (λ e. omega arith)) (or_from ((slice_index bytes 0) == 42) _ (ne_eqb (slice_index bytes 0) 42 (λ e. omega arith)) (or_from ((slice_index bytes 0) == 47) _ (ne_eqb (slice_index bytes 0) 47 (λ e. omega arith)) (or_from ((slice_index bytes 0) == 37) _ (ne_eqb (slice_index bytes 0) 37 (λ e. omega arith)) (or_from ((slice_index bytes 0) == 124) _ (ne_eqb (slice_index bytes 0) 124 (λ e. omega arith)) (or_from ((slice_index bytes 0) == 94) _ (ne_eqb (slice_index bytes 0) 94 (λ e. omega arith)) (or_from ((slice_index bytes 0) == 61) _ (ne_eqb (slice_index bytes 0) 61 (λ e. omega arith)) (or_from ((slice_index bytes 0) == 33) _ (ne_eqb (slice_index bytes 0) 33 (λ e. omega arith)) (or_from ((slice_index bytes 0) == 58) _ (ne_eqb (slice_index bytes 0) 58 (λ e. omega arith)) (or_from ((slice_index bytes 0) == 126) _ (ne_eqb (slice_index bytes 0) 126 (λ e. omega arith)) (or_from ((slice_index bytes 0) == 40) _ (ne_eqb (slice_index bytes 0) 40 (λ e. omega arith)) (or_from ((slice_index bytes 0) == 91) _ (ne_eqb (slice_index bytes 0) 91 (λ e. omega arith)) (or_from ((slice_index bytes 0) == 123) _ (ne_eqb (slice_index bytes 0) 123 (λ e. omega arith)) (or_from ((slice_index bytes 0) == 44) _ (ne_eqb (slice_index bytes 0) 44 (λ e. omega arith)) (or_from ((slice_index bytes 0) == 41) _ (ne_eqb (slice_index bytes 0) 41 (λ e. omega arith)) (or_from ((slice_index bytes 0) == 93) _ (ne_eqb (slice_index bytes 0) 93 (λ e. omega arith)) (or_from ((slice_index bytes 0) == 125) _ (ne_eqb (slice_index bytes 0) 125 (λ e. omega arith)) (ne_eqb (slice_index bytes 0) 59 (λ e. omega arith))))))))))))))))))))))))
