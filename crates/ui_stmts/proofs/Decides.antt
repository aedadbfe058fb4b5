-- The reader of files reads exactly the files: each tree that is found is the only one of its words, and a fault stands
-- behind the longest list of words with which a file begins.
use Rattle.std.proofs.Common.{◌≡◌, inl, ℕ, suc, ◌≤◌, List, [], ◌∷◌, ◌++◌, Ok, Err, refl, subst, arith}
use Rattle.std.proofs.lemmas.List.{append-nil}
use Rattle.ui_scan.specs.declared.kind.TokenKind.TheVariants.{Semi, Package, End}
use Rattle.ui_tree.specs.Stmt.{File}
use Rattle.ui_grammar.specs.Word.{Word, mark, Mark}
use Rattle.ui_grammar.specs.Declaration.{SpellsFile, FitsFile, file_depth}
use Rattle.ui_grammar.proofs.Frames.{Spelling, Then, Framed, framed, framed_as, next, frame_mark}
use Rattle.ui_grammar.proofs.FramesDecl.{fill_file}
use Rattle.ui_grammar.specs.Parse.{HasFile}
use Rattle.ui_parse.proofs.Outcomes.{Holds, good, bind, holds_at, expect_holds, expect_mark}
use Rattle.ui_parse.proofs.Steady.{Steady, steady_pure, steady_bind, steady_expect}
use Rattle.ui_parse.proofs.Longest.{FrontHas, FrontLive, Whole, Decides, one, exactly}
use Rattle.ui_syntax.proofs.ByBudget.{Stops}
use Rattle.ui_syntax.proofs.Begun.{Short, short_as, short_then, short_mark, short_name, AName, begun_stops, then_holds}
use Rattle.ui_stmts.specs.Decls.{file, whole_file}
use Rattle.ui_stmts.specs.Laws.{ReadsFiles}
use Rattle.ui_stmts.proofs.SteadyDecls.{file_steady}
use Rattle.ui_stmts.proofs.SoundFile.{FileForm, FileRead}
use Rattle.ui_stmts.proofs.CompleteDecls.{ends_file}
use Rattle.ui_stmts.proofs.Files.{file_sound, file_complete}

module _ (room : ℕ) where
  -- a file and the end of the text
  abbrev WholeForm : Spelling
  WholeForm = Then (FileForm room) (Mark End)

  record WholeRead (ts : List Word) (f : File) (rest : List Word) : Type 0 where
    middle : List Word
    file : FileRead room ts f middle
    end : Mark End middle rest

  -- a package's name alone is a file
  short_file : Short (FileForm room)
  short_file = short_as (short_then (short_mark Package) (short_then short_name (short_mark Semi))) named_alone
    where
      named_alone : (us ws : List Word) → Then (Mark Package) (Then AName (Mark Semi)) us ws → FileForm room us ws
      named_alone us ws (a, s, (b, n, m)) = record {
        all = record { spot = s.spot; package_name = n.word; imports = []; decls = [] };
        spells = (a, b, ws, ws, s.is, n.is, m, refl, refl);
        fits = tt;
        shallow = omega arith;
      }

  frame_file : (ts : List Word) (f : File) (m : List Word) → FileRead room ts f m → Framed (FileForm room) ts m
  frame_file ts f m h = framed_as (framed (fill_file f ts m h.spells)) (λ us ws s. record { all = f; spells = s; fits = h.fits; shallow = h.shallow })

  whole_sound : (ts : List Word) → Holds (WholeRead ts) (Stops WholeForm ts) (whole_file room ts)
  whole_sound ts = then_holds (short_mark End) (file_sound room ts) (frame_file ts)
      (λ f m h. bind (expect_holds {Q = λ s rest. m ≡ mark End s ∷ rest} {F = Stops (Mark End) m} End m (λ s rest e. e) (λ _. inl refl))
      (λ s rest e. good (record { middle = m; file = h; end = record { spot = s; is = e } }))
      (λ r g. g))

  -- nothing stands behind the end
  has_file : (f : File) (ts m : List Word) → SpellsFile f ts m → Mark End m [] → FitsFile f → file_depth f ≤ suc room → HasFile (suc room) ts f
  has_file f ts m s e fits le = record { end = e.spot; spells = subst (λ (v : List Word). SpellsFile f ts v) e.is s; fits = fits; shallow = le }

  file_found : (ts : List Word) (f : File) (rest : List Word) → whole_file room ts ≡ Ok (f, rest) → FrontHas (HasFile (suc room)) ts rest f
  file_found ts f rest e =
      let h = (holds_at (whole_sound ts) e).holds in
      let w = next (framed (fill_file f ts h.middle h.file.spells)) (frame_mark End h.middle rest h.end) in
      let (m, s, x) = w.again [] in
      record { front = w.front; parts = w.parts; has = subst (λ (v : List Word). HasFile (suc room) v f) (append-nil w.front) (has_file f (w.front ++ []) m s x h.file.fits h.file.shallow) }

  file_fault : (ts rest : List Word) → whole_file room ts ≡ Err rest → FrontLive (HasFile (suc room)) ts rest
  file_fault ts rest e =
      let g = begun_stops (short_then short_file (short_mark End)) (holds_at (whole_sound ts) e).holds in
      let (m, h, x) = g.spells [] in
      record { front = g.front; parts = g.parts; live = (g.more ++ [], h.all, has_file h.all (g.front ++ (g.more ++ [])) m h.spells x h.fits h.shallow) }

  file_whole : (ts : List Word) (f : File) → HasFile (suc room) ts f → Whole (whole_file room) (λ f. f) ts f
  file_whole ts f h = record {
    x = f;
    read = rw (file_complete room f ts (mark End h.end ∷ []) h.spells h.fits h.shallow (ends_file h.end []), expect_mark End h.end []) refl;
    is = refl;
  }

  whole_steady : Steady (whole_file room)
  whole_steady = steady_bind (file_steady room) (λ f. steady_bind (steady_expect End) (λ _. steady_pure f))

  pub file_decides : Decides (HasFile (suc room)) (whole_file room) (λ f. f)
  file_decides = record { found_has = file_found; fault_live = file_fault; complete = file_whole; steady = whole_steady }

  -- no words have two trees
  pub one_file : (ws : List Word) (f g : File) → HasFile (suc room) ws f → HasFile (suc room) ws g → f ≡ g
  one_file = one (HasFile (suc room)) (whole_file room) (λ f. f) file_decides

pub reads_files : ReadsFiles
reads_files room = exactly (HasFile (suc room)) (whole_file room) (λ f. f) (file_decides room)
