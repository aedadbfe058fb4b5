use Rattle.std.proofs.Common.{length, sym, subst, arith}
use Rattle.ui_scan.specs.Piece.{IsPieceIn}
use Rattle.ui_scan.proofs.PieceLaws.{piece_in}
use Rattle.ui_scan.proofs.piece.piece_at.Goals as goal

pub returns-clause-within : goal.returns-clause-within
returns-clause-within c =
    subst (IsPieceIn (length c.args.bytes.now)) (sym c.any_piece.ensures) (piece_in c.args.bytes.now (omega arith))
