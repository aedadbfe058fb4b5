-- A file, read step by step.
use Rattle.std.proofs.Common.{◌≡◌, ℕ, List, map, Result, Ok, Err, refl}
use Rattle.ui_base.specs.declared.value.Spot.{Spot}
use Rattle.ui_scan.specs.declared.kind.TokenKind.TheVariants.{Semi, Package}
use Rattle.ui_grammar.specs.Word.{Word}
use Rattle.ui_tree.specs.declared.part.Placed.{Placed}
use Rattle.ui_tree.specs.declared.decl.ImportTree.{ImportTree}
use Rattle.ui_tree.specs.declared.decl.DeclTree.{DeclTree}
use Rattle.ui_tree.specs.Stmt.{Import, Decl, File}
use Rattle.ui_tree.specs.StmtView.{import_view, decl_view}
use Rattle.ui_parse.specs.declared.fault.ParseError.{ParseError}
use Rattle.ui_parse.specs.Reader.{Reader, ◌>>=◌, pure, expect, expect_name}
use Rattle.ui_parse.specs.View.{Reads}
use Rattle.ui_parse.proofs.ListLaws.{reads_fault, reads_then}
use Rattle.ui_stmts.specs.Decls.{maybe_import, decl_part, each, file}
use Rattle.ui_pdecl.specs.declared.files.FileBody.{FileBody}
use Rattle.ui_pdecl.specs.Seen.{see_file}

module _ (room : ℕ) (s : Spot) (p : Placed) where
  abbrev made : List Import → List Decl → File
  made is ds = record { spot = s; package_name = p; imports = is; decls = ds }

  abbrev decls_behind : List Import → Reader File
  decls_behind is = each room (decl_part room) >>= (λ ds. pure (made is ds))

  abbrev imports_behind : Reader File
  imports_behind = each room (maybe_import room) >>= decls_behind

module _ (room : ℕ) (ws m1 m2 m3 : List Word) (s e : Spot) (p : Placed)
    («package» : Reads (λ (s : Spot). s) (expect Package ws) (Ok s) m1) (name : Reads (λ (p : Placed). p) (expect_name m1) (Ok p) m2) (end : Reads (λ (s : Spot). s) (expect Semi m2) (Ok e) m3) where
  begun : (r : Result FileBody ParseError) (left : List Word) → Reads see_file (imports_behind room s p m3) r left → Reads see_file (file room ws) r left
  unfolding file
  begun r left h = reads_then (λ (s : Spot). s) see_file (expect Package ws) (λ s. expect_name >>= (λ p. expect Semi >>= (λ _. imports_behind room s p))) s m1 r left «package»
      (reads_then (λ (p : Placed). p) see_file (expect_name m1) (λ p. expect Semi >>= (λ _. imports_behind room s p)) p m2 r left name
      (reads_then (λ (s : Spot). s) see_file (expect Semi m2) (λ _. imports_behind room s p) e m3 r left end h))

  pub imports_fault : (f : ParseError) (left : List Word) → Reads (map import_view) (each room (maybe_import room) m3) (Err f) left → Reads see_file (file room ws) (Err f) left
  imports_fault f left h = begun (Err f) left (reads_fault (map import_view) see_file (each room (maybe_import room) m3) (decls_behind room s p) f left h)

  module _ (is : List ImportTree) (m4 : List Word) (imports : Reads (map import_view) (each room (maybe_import room) m3) (Ok is) m4) where
    on : (r : Result FileBody ParseError) (left : List Word) → Reads see_file (decls_behind room s p (map import_view is) m4) r left → Reads see_file (file room ws) r left
    on r left h = begun r left (reads_then (map import_view) see_file (each room (maybe_import room) m3) (decls_behind room s p) is m4 r left imports h)

    pub decls_fault : (f : ParseError) (left : List Word) → Reads (map decl_view) (each room (decl_part room) m4) (Err f) left → Reads see_file (file room ws) (Err f) left
    decls_fault f left h = on (Err f) left (reads_fault (map decl_view) see_file (each room (decl_part room) m4) (λ ds. pure (made room s p (map import_view is) ds)) f left h)

    pub file_read : (ds : List DeclTree) (left : List Word) (x : FileBody) → Reads (map decl_view) (each room (decl_part room) m4) (Ok ds) left
        → see_file x ≡ made room s p (map import_view is) (map decl_view ds) → Reads see_file (file room ws) (Ok x) left
    file_read ds left x h same = on (Ok x) left (reads_then (map decl_view) see_file (each room (decl_part room) m4) (λ ds. pure (made room s p (map import_view is) ds)) ds left (Ok x) left h (same, refl))
