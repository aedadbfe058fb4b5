use Rattle.std.proofs.Common.{◌≡◌, ◌+◌, ◌-◌, ◌*◌, ◌<◌, ℕ, List, ◌∷◌, suc, zero, ap, sym, ◌∙◌, get_or, arith}
use Rattle.ui_frame.specs.Opening.{word_at, words_at}
use Rattle.ui_frame.proofs.Words.{get_or-words_at}
use Rattle.ui_frame.proofs.frame.range_at.Goals as goal
use Rattle.ui_frame.proofs.frame.range_at.Goals.{then-k-eq0, else-k-eq0}

before : (bytes : List ℕ) (n table k : ℕ) → 0 < k → k < n → word_at (table + 4 * (k - 1)) bytes ≡ get_or (0 ∷ words_at n table bytes) k 0
before bytes n table zero some h = absurd (omega arith)
before bytes n table (suc k) some h =
    let one : suc k - 1 ≡ k = omega arith in
    rw one (sym (get_or-words_at n table bytes k (omega arith)))

pub returns-clause-start : goal.returns-clause-start
returns-clause-start c n h =
    elim c.if-k-eq0.branch [
      | then-k-eq0 w ↦ w.start-is ∙ ap (λ (k : ℕ). get_or (0 ∷ words_at n c.args.table c.args.bytes.now) k 0) (sym w.if-k-eq0.true)
      | else-k-eq0 w ↦ w.start-is ∙ w.read_word-start.ensures ∙ before c.args.bytes.now n c.args.table c.args.k (let ne = w.if-k-eq0.false in omega arith) h
    ]

pub returns-clause-end : goal.returns-clause-end
returns-clause-end c n h = c.read_word.ensures ∙ sym (get_or-words_at n c.args.table c.args.bytes.now c.args.k h)
