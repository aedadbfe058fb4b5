use Rattle.std.proofs.Common.{◌∙◌, length, refl, arith}
use Rattle.std.specs.Prelude.{◌==◌}
use Rattle.std.proofs.lemmas.Bool.{or_from, ne_eqb}
use Rattle.ui_scan.specs.Table.{keywords}
use Rattle.ui_scan.proofs.TableLaws.{keywords_by, no_keyword}
use Rattle.ui_scan.proofs.table.keywords_of.Goals as goal

pub returns-in-2 : goal.returns-in-2
unfolding keywords
returns-in-2 c = λ word is. keywords_by 2 _ word (is ∙ c.in-2.is) refl

pub returns-in-3 : goal.returns-in-3
unfolding keywords
returns-in-3 c = λ word is. keywords_by 3 _ word (is ∙ c.in-3.is) refl

pub returns-in-4 : goal.returns-in-4
unfolding keywords
returns-in-4 c = λ word is. keywords_by 4 _ word (is ∙ c.in-4.is) refl

pub returns-in-5 : goal.returns-in-5
unfolding keywords
returns-in-5 c = λ word is. keywords_by 5 _ word (is ∙ c.in-5.is) refl

pub returns-in-6 : goal.returns-in-6
unfolding keywords
returns-in-6 c = λ word is. keywords_by 6 _ word (is ∙ c.in-6.is) refl

pub returns-in-7 : goal.returns-in-7
unfolding keywords
returns-in-7 c = λ word is. keywords_by 7 _ word (is ∙ c.in-7.is) refl

pub returns-in-8 : goal.returns-in-8
unfolding keywords
returns-in-8 c = λ word is. keywords_by 8 _ word (is ∙ c.in-8.is) refl

pub returns-in-9 : goal.returns-in-9
unfolding keywords
returns-in-9 c = λ word is. keywords_by 9 _ word (is ∙ c.in-9.is) refl

pub returns-in-11 : goal.returns-in-11
unfolding keywords
returns-in-11 c = λ word is. keywords_by 11 _ word (is ∙ c.in-11.is) refl

pub returns-in_default : goal.returns-in_default
returns-in_default c = λ word is. no_keyword word (
    or_from ((length word) == 2) _ (ne_eqb (length word) 2 (λ e. omega arith)) (or_from ((length word) == 3) _ (ne_eqb (length word) 3 (λ e. omega arith)) (or_from ((length word) == 4) _ (ne_eqb (length word) 4 (λ e. omega arith)) (or_from ((length word) == 5) _ (ne_eqb (length word) 5 (λ e. omega arith)) (or_from ((length word) == 6) _ (ne_eqb (length word) 6 (λ e. omega arith)) (or_from ((length word) == 7) _ (ne_eqb (length word) 7 (λ e. omega arith)) (or_from ((length word) == 8) _ (ne_eqb (length word) 8 (λ e. omega arith)) (or_from ((length word) == 9) _ (ne_eqb (length word) 9 (λ e. omega arith)) (ne_eqb (length word) 11 (λ e. omega arith))))))))))
