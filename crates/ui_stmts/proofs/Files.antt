-- The readers of files, over those of statements.
use Rattle.std.specs.Prelude.{◌≡◌, ℕ, suc, ◌≤◌, List, Ok}
use Rattle.ui_tree.specs.Stmt.{File}
use Rattle.ui_grammar.specs.Word.{Word}
use Rattle.ui_grammar.specs.Declaration.{SpellsFile, FitsFile, file_depth}
use Rattle.ui_parse.proofs.Outcomes.{Holds}
use Rattle.ui_syntax.proofs.ByBudget.{Stops}
use Rattle.ui_stmts.specs.Stmts.{stmt_readers}
use Rattle.ui_stmts.specs.Decls.{file}
use Rattle.ui_stmts.proofs.SteadyStmt.{stmts_steady}
use Rattle.ui_stmts.proofs.SoundStmts.{stmts_sound}
use Rattle.ui_stmts.proofs.SoundFile.{FileForm, FileRead, file_holds}
use Rattle.ui_stmts.proofs.CompleteBody.{a_body_read}
use Rattle.ui_stmts.proofs.Complete.{stmts_complete}
use Rattle.ui_stmts.proofs.CompleteDecls.{EndsFile, file_reads}
use Rattle.ui_stmts.proofs.LengthOrParams.{stays_inside}
use Rattle.ui_stmts.proofs.NoBoth.{no_both}

-- What is read is a file; a fault stands at the first word, or behind a front with which a file begins.
pub file_sound : (room : ℕ) (ts : List Word) → Holds (FileRead room ts) (Stops (FileForm room) ts) (file room ts)
file_sound room ts = file_holds room (stmts_sound (suc room)) ts

-- Each file is read.
pub file_complete : (room : ℕ) (f : File) (ts rest : List Word) → SpellsFile f ts rest → FitsFile f → file_depth f ≤ suc room → EndsFile rest → file room ts ≡ Ok (f, rest)
file_complete room = file_reads room (stays_inside room no_both) (a_body_read (suc room) (stmt_readers (suc room)) (stmts_complete (suc room)) (stmts_steady (suc room)))
