-- What readings of the front tell.
use Rattle.std.proofs.Common.{◌≡◌, ℕ, suc, ◌+◌, ◌-◌, ◌*◌, nat_eq, List, length, take, map, Result, Ok, Err, refl, ap, subst, ◌∙◌, arith}
use Rattle.ui_scan.specs.declared.kind.Token.{Token}
use Rattle.ui_grammar.specs.Word.{Word, words}
use Rattle.ui_tree.specs.declared.decl.FileTree.{FileTree}
use Rattle.ui_tree.specs.Stmt.{File}
use Rattle.ui_tree.specs.StmtView.{import_view}
use Rattle.ui_parse.specs.declared.fault.ParseError.TheVariants.{Fault}
use Rattle.ui_parse.specs.Reader.{Outcome, rest_of}
use Rattle.ui_parse.specs.View.{Reads}
use Rattle.ui_stmts.specs.Decls.{whole_file}
use Rattle.ui_pexpr.specs.declared.fault.ParseFault.{ParseFault}
use Rattle.ui_pexpr.specs.declared.fault.ParseFault.TheVariants.{NoMemory}
use Rattle.ui_pexpr.specs.Forms.{none_left}
use Rattle.ui_pexpr.specs.FormLaws.{none_is}
use Rattle.ui_pdecl.specs.declared.files.FileBody.{FileBody}
use Rattle.ui_pdecl.specs.Seen.{see_file}
use Rattle.ui_pdecl.specs.FileResult.{bad_import, with_paths, enough, reads_farther, fault_behind, result_of, file_result, IsResult}

-- ---- what is left

left_ok : {A X : Type 0} (see : X → A) (o : Outcome A) (x : X) (left : List Word) → Reads see o (Ok x) left → left ≡ rest_of o
left_ok see (Ok p) x left h = h.1
left_ok see (Err ws) x left h = absurd h

left_fault : {A X : Type 0} (see : X → A) (o : Outcome A) (left : List Word) → Reads see o (Err Fault) left → left ≡ rest_of o
left_fault see (Ok p) left h = absurd h
left_fault see (Err ws) left h = h

module _ (ws left : List Word) (k room : ℕ) (wide : room ≡ 199 + 8 * (k + 1) + 16) where
  same : whole_file room (take (k + 1) ws) ≡ whole_file (199 + enough (suc k)) (take (suc k) ws)
  same = let e : room ≡ 199 + enough (suc k) = omega (arith, wide) in let f : k + 1 ≡ suc k = omega arith in rw (e, f) refl

  told_by : left ≡ rest_of (whole_file room (take (k + 1) ws)) → nat_eq (length left) 0 ≡ reads_farther ws k
  told_by e = none_is left ∙ ap none_left (e ∙ ap rest_of same)

  pub farther_ok : (x : FileBody) → Reads see_file (whole_file room (take (k + 1) ws)) (Ok x) left → nat_eq (length left) 0 ≡ reads_farther ws k
  farther_ok x h = told_by (left_ok see_file _ x left h)

  pub farther_fault : Reads see_file (whole_file room (take (k + 1) ws)) (Err Fault) left → nat_eq (length left) 0 ≡ reads_farther ws k
  farther_fault h = told_by (left_fault see_file _ left h)

-- ---- the result of a whole file

module _ (own bytes : List ℕ) (ts : List Token) (left : List Word) where
  pub result_ok : (x : FileBody) (r : Result FileTree ParseFault) → Reads see_file (whole_file 199 (words bytes ts)) (Ok x) left
      → IsResult (with_paths ts (see_file x) (bad_import own (map import_view x.imports))) r → IsResult (file_result own bytes ts) r
  unfolding file_result
  result_ok x r h is = by_outcome (whole_file 199 (words bytes ts)) h
    where
      by_outcome : (o : Outcome File) → Reads see_file o (Ok x) left → IsResult (result_of own bytes ts o) r
      by_outcome (Ok p) g = subst (λ (f : File). IsResult (with_paths ts f (bad_import own f.imports)) r) g.0 is
      by_outcome (Err ws) g = absurd g

  pub result_fault : (k : ℕ) (g : ParseFault) → Reads see_file (whole_file 199 (words bytes ts)) (Err Fault) left → k ≡ length ts - length left
      → ((g ≡ NoMemory → ⊥) → g ≡ fault_behind bytes ts k) → IsResult (file_result own bytes ts) (Err g)
  unfolding file_result
  result_fault k g h long told = by_outcome (whole_file 199 (words bytes ts)) h
    where
      by_outcome : (o : Outcome File) → Reads see_file o (Err Fault) left → IsResult (result_of own bytes ts o) (Err g)
      by_outcome (Ok p) e = absurd e
      by_outcome (Err ws) e = λ some. told some ∙ ap (fault_behind bytes ts) (long ∙ ap (λ (v : List Word). length ts - length v) e)
