use Rattle.std.proofs.Common.{◌≡◌, ◌∙◌, false, ◌&&◌, ◌==◌, get_or, ◌+◌, arith}
use Rattle.std.proofs.lemmas.Bool.{and_left, and_right, ne_eqb}
use Rattle.ui_scan.proofs.CommentLaws.{comment_more}
use Rattle.ui_scan.proofs.piece.comment_len.Goals as goal
use Rattle.ui_scan.proofs.piece.comment_len.Goals.{else-bytes-len-eq42-via-then-bytes-len-eq42+else-byte_at-eq47, else-bytes-len-eq42-via-else-bytes-len-eq42}

pub loop-len-preserved : goal.loop-len-preserved
loop-len-preserved c =
    let at = c.loop-len.len in
    let bytes = c.args.bytes.now in
    let open_ : (get_or bytes at 0 == 42 && get_or bytes (at + 1) 0 == 47) ≡ false =
    elim c.else-bytes-len-eq42.branch [
      | else-bytes-len-eq42-via-then-bytes-len-eq42+else-byte_at-eq47 w ↦
          and_right (get_or bytes at 0 == 42) (get_or bytes (at + 1) 0 == 47) (ne_eqb _ 47 (λ e. w.if-byte_at-eq47.false (w.byte_at.ensures ∙ e)))
      | else-bytes-len-eq42-via-else-bytes-len-eq42 w ↦
          and_left (get_or bytes at 0 == 42) (get_or bytes (at + 1) 0 == 47) (ne_eqb _ 42 w.if-bytes-len-eq42.false)
    ] in
    record {
      within = omega arith;
      so_far = comment_more bytes at c.loop-len-test.true open_ ∙ c.loop-len.invariant.so_far;
    }
