-- Files as they are read: what is read is spelled and fits, and a fault stands behind a front that goes on to a file.
use Rattle.std.proofs.Common.{◌≡◌, inl, inr, ℕ, zero, suc, ◌<◌, ◌≤◌, List, [], ◌∷◌, ◌++◌, length, Option, Some, None, refl, ap, subst, arith}
use Rattle.ui_base.specs.declared.value.Spot.{Spot}
use Rattle.ui_scan.specs.declared.kind.TokenKind.TheVariants.{Semi, Package}
use Rattle.ui_tree.specs.declared.part.Placed.{Placed}
use Rattle.ui_tree.specs.Stmt.{Import, Decl, File}
use Rattle.ui_grammar.specs.Word.{Word, ident, mark, Mark}
use Rattle.ui_grammar.specs.Statement.{AllSpecs, deepest}
use Rattle.ui_grammar.specs.Declaration.{SpellsImport, SpellsDecl, FitsDecl, decl_depth, SpellsEach, SpellsFile, FitsFile, file_depth}
use Rattle.ui_grammar.proofs.Frames.{Spelling, Then, Framed, framed_as, next, frame_mark}
use Rattle.ui_grammar.proofs.FramesDecl.{frame_import, frame_decl, frame_each}
use Rattle.ui_parse.specs.Reader.{Reader, pure}
use Rattle.ui_parse.proofs.Outcomes.{Holds, good, bind, mono, both, expect_holds, expect_name_holds}
use Rattle.ui_parse.proofs.Alike.{suffix_length}
use Rattle.ui_parse.proofs.Steady.{Steady}
use Rattle.ui_syntax.proofs.ByBudget.{Begun, Stops}
use Rattle.ui_syntax.proofs.Begun.{Short, short_mark, short_then, AName, short_name, frame_name, begun_as, behind, behind_none, before}
use Rattle.ui_syntax.proofs.Runs.{FormOf, Run, run_next, run_end, run_begun}
use Rattle.ui_stmts.specs.Common.{Sized}
use Rattle.ui_stmts.specs.Stmts.{stmt_readers}
use Rattle.ui_stmts.proofs.ByBudget.{AreStmtsSound}
use Rattle.ui_stmts.specs.Decls.{maybe_import, behind_each, each_from, each, decl_alone, decl_part, file}
use Rattle.ui_stmts.proofs.SteadyDecls.{steady_maybe_import, steady_decl_part}
use Rattle.ui_stmts.proofs.SoundDecls.{ImportRead, maybe_import_holds, MaybeDeclRead, maybe_decl_holds}

-- ---- parts with a semicolon behind each

abbrev pub PartRead : {X : Type 0} → (X → Spelling) → (X → Type 0) → List Word → Option X → List Word → Type 0
PartRead P Ok ts None rest = ts ≡ rest
PartRead P Ok ts (Some x) rest = P x ts rest × Ok x

module _ {X : Type 0} (room : ℕ) (P : X → Spelling) (Ok : X → Type 0) (frame_one : (x : X) (ts rest : List Word) → P x ts rest → Framed (P x) ts rest) (p : Reader (Option X)) (p_is : Steady p)
    (p_holds : (ts : List Word) → Holds (PartRead P Ok ts) (Begun (FormOf P Ok) ts) (p ts)) where
  abbrev pub EachForm : Spelling
  EachForm = FormOf (SpellsEach P) (AllSpecs Ok)

  all_append : (xs ys : List X) → AllSpecs Ok xs → AllSpecs Ok ys → AllSpecs Ok (xs ++ ys)
  all_append [] ys h g = g
  all_append (x ∷ xs) ys h g = (h.0, all_append xs ys h.1 g)

  module _ (ts : List Word) where
    record EachAt (l : List X) (ws : List Word) : Type 0 where
      run : Run (SpellsEach P) (SpellsEach P) l ts ws
      fits : AllSpecs Ok l

    pub record EachRead (l : List X) (rest : List Word) : Type 0 where
      pub spells : SpellsEach P l ts rest
      pub fits : AllSpecs Ok l

    one_form : (us ws : List Word) → Then (FormOf P Ok) (Mark Semi) us ws → EachForm us ws
    one_form us ws (a, x, m) = record { all = x.all ∷ []; spells = (a, ws, x.spells, m, refl); ok = (x.ok, tt) }

    part_fault : (l : List X) (ws rest : List Word) → EachAt l ws → Begun (Then (FormOf P Ok) (Mark Semi)) ws rest → Begun EachForm ts rest
    part_fault l ws rest j g = run_begun (SpellsEach P) (SpellsEach P) {Ok1 = AllSpecs Ok} {Ok2 = AllSpecs Ok} l ts ws rest j.run (λ us h. all_append l us j.fits h) (begun_as g one_form)

    frame_part : (x : X) (ws m : List Word) → P x ws m → Ok x → Framed (FormOf P Ok) ws m
    frame_part x ws m h ok = framed_as (frame_one x ws m h) (λ us vs q. record { all = x; spells = q; ok = ok })

    next_part : (l : List X) (x : X) (ws m rest : List Word) → EachAt l ws → P x ws m → Ok x → Mark Semi m rest → EachAt (l ++ (x ∷ [])) rest
    next_part l x ws m rest j h ok e = record {
      run = run_next (SpellsEach P) (SpellsEach P) {R = Then (P x) (Mark Semi)} l x ts ws rest j.run (next (frame_one x ws m h) (frame_mark Semi m rest e)) (λ us a k end r g. (r.0, k, r.1, r.2, g));
      fits = all_append l (x ∷ []) j.fits (ok, tt);
    }

    each_from_holds : (n : ℕ) (l : List X) (ws : List Word) → length ws < n → EachAt l ws → Holds EachRead (Begun EachForm ts) (each_from room p n l ws)
    unfolding each_from
    each_from_holds zero l ws lt j = absurd (omega arith)
    each_from_holds (suc n) l ws lt j = bind (both (p_is.ends ws) (p_holds ws)) (λ x m h. by_part (λ l2 rest lt2 j2. each_from_holds n l2 rest lt2 j2) x m (suffix_length ws m h.0) h.1) (λ rest h. part_fault l ws rest j (before h.1 (short_mark Semi)))
      where
        by_part : ((l2 : List X) (rest : List Word) → length rest < n → EachAt l2 rest → Holds EachRead (Begun EachForm ts) (each_from room p n l2 rest)) → (x : Option X) (m : List Word) → length m ≤ length ws → PartRead P Ok ws x m → Holds EachRead (Begun EachForm ts) (behind_each room (each_from room p n) l x m)
        by_part again None m le e = good (record { spells = subst (λ (v : List Word). SpellsEach P l ts v) e (run_end (SpellsEach P) (SpellsEach P) l ts ws ws j.run refl); fits = j.fits })
        by_part again (Some x) m le h = bind (expect_holds {Q = λ s rest. m ≡ mark Semi s ∷ rest} {F = Begun EachForm ts} Semi m (λ s rest e. e) (λ _. part_fault l ws m j (behind_none (frame_part x ws m h.0 h.1) (short_mark Semi))))
            (λ s rest e. again (l ++ (x ∷ [])) rest (omega (arith, le, ap length e)) (next_part l x ws m rest j h.0 h.1 (record { spot = s; is = e })))
            (λ rest g. g)

    at_first : EachAt [] ts
    at_first = record { run = record { front = []; parts = refl; again = λ us k rest h. h }; fits = tt }

    pub each_holds : Holds EachRead (Begun EachForm ts) (each room p ts)
    unfolding each
    each_holds = each_from_holds (suc (length ts)) [] ts (omega arith) at_first

-- ---- files

abbrev pub AnyOne : Import → Type 0
AnyOne i = Unit {0}

module _ (room : ℕ) where
  abbrev budget : ℕ
  budget = suc room

  abbrev pub GoodDecl : Decl → Type 0
  GoodDecl d = FitsDecl d × decl_depth d ≤ budget

  pub record FileForm (ts rest : List Word) : Type 0 where
    pub all : File
    pub spells : SpellsFile all ts rest
    pub fits : FitsFile all
    pub shallow : file_depth all ≤ budget

  pub record FileRead (ts : List Word) (f : File) (rest : List Word) : Type 0 where
    pub spells : SpellsFile f ts rest
    pub fits : FitsFile f
    pub shallow : file_depth f ≤ budget

  all_fit : (ds : List Decl) → AllSpecs GoodDecl ds → AllSpecs FitsDecl ds
  all_fit [] h = tt
  all_fit (d ∷ ds) h = (h.0.0, all_fit ds h.1)

  all_shallow : (ds : List Decl) → AllSpecs GoodDecl ds → deepest decl_depth ds ≤ budget
  all_shallow [] h = omega arith
  all_shallow (d ∷ ds) h = omega (arith, h.0.1, all_shallow ds h.1)

  import_part : (ts : List Word) → Holds (PartRead SpellsImport AnyOne ts) (Begun (FormOf SpellsImport AnyOne) ts) (maybe_import room ts)
  import_part ts = mono (maybe_import_holds room ts) as_part (λ r g. begun_as g (λ us ws h. record { all = h.all; spells = h.spells; ok = tt }))
    where
      as_part : (x : Option Import) (r : List Word) → ImportRead ts x r → PartRead SpellsImport AnyOne ts x r
      as_part None r e = e
      as_part (Some i) r h = (h, tt)

  module _ (sound : AreStmtsSound (suc room) (stmt_readers (suc room))) where
    part_of_decl : (ts : List Word) → Holds (PartRead SpellsDecl GoodDecl ts) (Begun (FormOf SpellsDecl GoodDecl) ts) (decl_part room ts)
    part_of_decl ts = bind (maybe_decl_holds room sound ts) as_part (λ r g. begun_as g (λ us ws h. record { all = h.all; spells = h.spells; ok = (h.fits, h.shallow) }))
      where
        as_part : (x : Option (Sized Decl)) (r : List Word) → MaybeDeclRead room ts x r → Holds (PartRead SpellsDecl GoodDecl ts) (Begun (FormOf SpellsDecl GoodDecl) ts) (pure (decl_alone room x) r)
        as_part None r e = good e
        as_part (Some d) r h = good (h.spells, (h.fits, omega (arith, h.sized, h.shallow)))

    abbrev Imports : Spelling
    Imports = FormOf (SpellsEach SpellsImport) (AllSpecs AnyOne)

    abbrev Declarations : Spelling
    Declarations = FormOf (SpellsEach SpellsDecl) (AllSpecs GoodDecl)

    file_form : (us ws : List Word) → Then (Mark Package) (Then AName (Then (Mark Semi) (Then Imports Declarations))) us ws → FileForm us ws
    file_form us ws (a, s, (b, n, (c, m, (d, is, ds)))) = record {
      all = record { spot = s.spot; package_name = n.word; imports = is.all; decls = ds.all };
      spells = (a, b, c, d, s.is, n.is, m, is.spells, ds.spells);
      fits = all_fit ds.all ds.ok;
      shallow = all_shallow ds.all ds.ok;
    }

    short_imports : Short Imports
    short_imports = record { words = []; spells = λ k. record { all = []; spells = refl; ok = tt } }

    short_decls : Short Declarations
    short_decls = record { words = []; spells = λ k. record { all = []; spells = refl; ok = tt } }

    pub file_holds : (ts : List Word) → Holds (FileRead ts) (Stops FileForm ts) (file room ts)
    unfolding file
    file_holds ts = bind (expect_holds {Q = λ s a. ts ≡ mark Package s ∷ a} {F = Stops FileForm ts} Package ts (λ s a e. e) (λ _. inl refl))
        (λ s a e. bind (expect_name_holds {Q = λ n b. a ≡ ident n ∷ b} {F = Stops FileForm ts} a (λ n b e2. e2)
        (λ _. inr (begun_as (behind_none (frame_mark Package ts a (record { spot = s; is = e })) (short_then short_name (short_then (short_mark Semi) (short_then short_imports short_decls)))) file_form)))
        (λ n b e2. bind (expect_holds {Q = λ x c. b ≡ mark Semi x ∷ c} {F = Stops FileForm ts} Semi b (λ x c e3. e3)
        (λ _. inr (begun_as (behind (frame_mark Package ts a (record { spot = s; is = e })) (behind_none (frame_name n a b e2) (short_then (short_mark Semi) (short_then short_imports short_decls)))) file_form)))
        (λ x c e3. bind (each_holds room SpellsImport AnyOne frame_import (maybe_import room) (steady_maybe_import room) import_part c)
        (λ is d h. bind (each_holds room SpellsDecl GoodDecl frame_decl (decl_part room) (steady_decl_part room) part_of_decl d)
        (λ ds rest g. good (record {
          spells = (a, b, c, d, e, e2, record { spot = x; is = e3 }, h.spells, g.spells);
          fits = all_fit ds g.fits;
          shallow = all_shallow ds g.fits;
        }))
        (λ rest g. inr (begun_as (in_front s a n b x c e e2 e3 (behind (framed_as (frame_each SpellsImport frame_import is c d h.spells) (λ us ws q. record { all = is; spells = q; ok = h.fits })) g)) file_form)))
        (λ rest g. inr (begun_as (in_front s a n b x c e e2 e3 (before g short_decls)) file_form)))
        (λ r g. g))
        (λ r g. g))
        (λ r g. g)
      where
        in_front : (s : Spot) (a : List Word) (n : Placed) (b : List Word) (x : Spot) (c : List Word) → ts ≡ mark Package s ∷ a → a ≡ ident n ∷ b → b ≡ mark Semi x ∷ c → {r : List Word}
            → Begun (Then Imports Declarations) c r → Begun (Then (Mark Package) (Then AName (Then (Mark Semi) (Then Imports Declarations)))) ts r
        in_front s a n b x c e e2 e3 g = behind (frame_mark Package ts a (record { spot = s; is = e })) (behind (frame_name n a b e2) (behind (frame_mark Semi b c (record { spot = x; is = e3 })) g))
