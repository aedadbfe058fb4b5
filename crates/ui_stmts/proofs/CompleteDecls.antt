-- Declarations and files are read, given what is read of statements and behind a type's bracket.
use Rattle.std.proofs.Common.{◌≡◌, ℕ, zero, suc, ◌<◌, ◌≤◌, List, [], ◌∷◌, ◌++◌, length, Option, Some, None, Ok, refl, sym, ap, ◌∙◌, append_assoc, arith}
use Rattle.std.proofs.lemmas.List.{append-nil}
use Rattle.ui_base.specs.declared.value.Spot.{Spot}
use Rattle.ui_scan.specs.declared.kind.TokenKind.TheVariants.{Semi, Const, Var, Import as AnImport, «Type» as AType, Func, Package, End}
use Rattle.ui_tree.specs.declared.part.Specs.{Specs}
use Rattle.ui_tree.specs.declared.part.Specs.TheVariants.{One, Grouped}
use Rattle.ui_tree.specs.Stmt.{Imported, Import, constants, variables, Braces, Decl, common_decl, type_decl, method_decl, func_decl, File}
use Rattle.ui_grammar.specs.Word.{Word, mark, Mark}
use Rattle.ui_grammar.specs.Statement.{SpellsBraces, FitsBraces, braces_depth, AllSpecs, FitsSpecs, deepest, specs_depth}
use Rattle.ui_grammar.specs.Declaration.{SpellsImported, SpellsImport, SpellsTypeGroup, FitsTypeGroup, type_group_depth, SpellsDecl, FitsDecl, decl_depth, SpellsEach, SpellsFile, FitsFile, file_depth}
use Rattle.ui_grammar.proofs.Frames.{shorter}
use Rattle.ui_grammar.proofs.FramesDecl.{fill_import, fill_decl}
use Rattle.ui_parse.specs.Reader.{Reader, first, marked}
use Rattle.ui_parse.proofs.Outcomes.{take_mark, take_other, expect_mark, expect_name_ident}
use Rattle.ui_stmts.specs.Common.{sized}
use Rattle.ui_stmts.specs.Decls.{import_spec, type_spec, block, maybe_decl, maybe_import, each_from, each, decl_part, file}
use Rattle.ui_stmts.proofs.SteadyDecls.{steady_import_spec, steady_type_spec}
use Rattle.ui_stmts.proofs.CompleteSpecs.{spec_semicolon, specs_read}
use Rattle.ui_stmts.proofs.CompleteValues.{constants_read, variables_read}
use Rattle.ui_stmts.proofs.CompleteTypeSpecs.{import_reads, import_opens, StaysInside, type_spec_reads, type_opens}
use Rattle.ui_stmts.proofs.CompleteFunctions.{method_decl_reads, func_decl_reads}

-- no import and no declaration begins there
pub record EndsFile (ts : List Word) : Type 0 where
  pub no_import : first (marked AnImport) ts ≡ None
  pub no_const : first (marked Const) ts ≡ None
  pub no_var : first (marked Var) ts ≡ None
  pub no_type : first (marked AType) ts ≡ None
  pub no_func : first (marked Func) ts ≡ None

pub ends_file : (x : Spot) (ws : List Word) → EndsFile (mark End x ∷ ws)
ends_file x ws = record { no_import = refl; no_const = refl; no_var = refl; no_type = refl; no_func = refl }

-- ---- parts with a semicolon behind each

module _ {X : Type 0} (room : ℕ) (P : X → List Word → List Word → Type 0) (Ok_part : X → Type 0) (p : Reader (Option X)) (shrinks : (x : X) (ts rest : List Word) → P x ts rest → length rest < length ts)
    (reads : (x : X) (ts a b : List Word) → P x ts a → Ok_part x → Mark Semi a b → p ts ≡ Ok (Some x, a)) (rest : List Word) (none_left : p rest ≡ Ok (None, rest)) where
  each_from_reads : (xs : List X) (n : ℕ) (l : List X) (ts : List Word) → length ts < n → SpellsEach P xs ts rest → AllSpecs Ok_part xs → each_from room p n l ts ≡ Ok (l ++ xs, rest)
  unfolding each_from
  each_from_reads xs zero l ts lt s f = absurd (omega arith)
  each_from_reads [] (suc n) l ts lt s f = ap (each_from room p (suc n) l) s ∙ rw none_left (ap (λ (v : List X). Ok (v, rest)) (sym (append-nil l)))
  each_from_reads (x ∷ xs) (suc n) l ts lt (a, b, s, m, more) f =
      rw (reads x ts a b s f.0 m, m.is, expect_mark Semi m.spot b)
      (each_from_reads xs n (l ++ (x ∷ [])) b (omega (arith, lt, shrinks x ts a s, ap length m.is)) more f.1 ∙ ap (λ (v : List X). Ok (v, rest)) (append_assoc l (x ∷ []) xs))

  pub each_reads : (xs : List X) (ts : List Word) → SpellsEach P xs ts rest → AllSpecs Ok_part xs → each room p ts ≡ Ok (xs, rest)
  unfolding each
  each_reads xs ts s f = each_from_reads xs (suc (length ts)) [] ts (omega arith) s f

-- ---- imports

any_specs : (v : Specs Imported) → FitsSpecs (λ i. Unit {0}) v
any_specs (One i) = tt
any_specs (Grouped is) = any_all is
  where
    any_all : (is : List Imported) → AllSpecs (λ i. Unit {0}) is
    any_all [] = tt
    any_all (i ∷ is) = (tt, any_all is)

none_deep : (v : Specs Imported) → specs_depth (λ i. 0) v ≤ 0
none_deep (One i) = omega arith
none_deep (Grouped is) = all_none is
  where
    all_none : (is : List Imported) → deepest (λ i. 0) is ≤ 0
    all_none [] = omega arith
    all_none (i ∷ is) = omega (arith, all_none is)

module _ (room : ℕ) where
  import_read : (i : Import) (ts a b : List Word) → SpellsImport i ts a → Unit {0} → Mark Semi a b → maybe_import room ts ≡ Ok (Some i, a)
  import_read i ts a b (c, e, s) f m = ap (maybe_import room) e ∙ take_mark AnImport _ _ i.spot c
      ∙ rw (specs_read SpellsImported (λ i. Unit {0}) (λ i. 0) 0 import_spec steady_import_spec import_opens (λ i ts rest h f le ends. import_reads i ts rest h) i.specs c a s (any_specs i.specs) (none_deep i.specs) (spec_semicolon a b m)) refl

  no_import : (ts : List Word) → first (marked AnImport) ts ≡ None → maybe_import room ts ≡ Ok (None, ts)
  no_import ts e = take_other (marked AnImport) _ _ ts e

  -- ---- declarations

  module _ (inside : StaysInside room) (body_reads : (b : Braces) (ts rest : List Word) → SpellsBraces b ts rest → FitsBraces b → braces_depth b ≤ suc room → block room ts ≡ Ok (sized b (braces_depth b), rest)) where
    pub decl_reads : (d : Decl) (ts a b : List Word) → SpellsDecl d ts a → FitsDecl d → decl_depth d ≤ suc room → Mark Semi a b → maybe_decl room ts ≡ Ok (Some (sized d (decl_depth d)), a)
    unfolding maybe_decl
    decl_reads (common_decl (constants x vs)) ts a b s f le m = ap (maybe_decl room) s.1 ∙ take_mark Const _ _ x s.0 ∙ rw (constants_read (suc room) x vs s.0 a s.2 f le (spec_semicolon a b m)) refl
    decl_reads (common_decl (variables x vs)) ts a b s f le m = ap (maybe_decl room) s.1 ∙ take_other (marked Const) _ _ (mark Var x ∷ s.0) refl ∙ take_mark Var _ _ x s.0 ∙ rw (variables_read (suc room) x vs s.0 a s.2 f le (spec_semicolon a b m)) refl
    decl_reads (type_decl x vs) ts a b s f le m = ap (maybe_decl room) s.1 ∙ take_other (marked Const) _ _ (mark AType x ∷ s.0) refl ∙ take_other (marked Var) _ _ (mark AType x ∷ s.0) refl ∙ take_mark AType _ _ x s.0
        ∙ rw (specs_read SpellsTypeGroup FitsTypeGroup type_group_depth (suc room) (type_spec room) (steady_type_spec room) type_opens (type_spec_reads room inside) vs s.0 a s.2 f le (spec_semicolon a b m)) refl
    decl_reads (method_decl x v n gs r k) ts a b s f le m = ap (maybe_decl room) s.4 ∙ take_other (marked Const) _ _ (mark Func x ∷ s.0) refl ∙ take_other (marked Var) _ _ (mark Func x ∷ s.0) refl ∙ take_other (marked AType) _ _ (mark Func x ∷ s.0) refl ∙ take_mark Func _ _ x s.0
        ∙ rw (method_decl_reads room body_reads x v n gs r k ts a s f le) refl
    decl_reads (func_decl x n ps gs r k) ts a b s f le m = ap (maybe_decl room) s.4 ∙ take_other (marked Const) _ _ (mark Func x ∷ s.0) refl ∙ take_other (marked Var) _ _ (mark Func x ∷ s.0) refl ∙ take_other (marked AType) _ _ (mark Func x ∷ s.0) refl ∙ take_mark Func _ _ x s.0
        ∙ rw (func_decl_reads room body_reads x n ps gs r k ts a s f le) refl

    abbrev GoodDecl : Decl → Type 0
    GoodDecl d = FitsDecl d × decl_depth d ≤ suc room

    part_read : (d : Decl) (ts a b : List Word) → SpellsDecl d ts a → GoodDecl d → Mark Semi a b → decl_part room ts ≡ Ok (Some d, a)
    part_read d ts a b s f m = rw (decl_reads d ts a b s f.0 f.1 m) refl

    none_begins : (ts : List Word) → EndsFile ts → maybe_decl room ts ≡ Ok (None, ts)
    unfolding maybe_decl
    none_begins ts e = take_other (marked Const) _ _ ts e.no_const ∙ take_other (marked Var) _ _ ts e.no_var ∙ take_other (marked AType) _ _ ts e.no_type ∙ take_other (marked Func) _ _ ts e.no_func

    no_decl : (ts : List Word) → EndsFile ts → decl_part room ts ≡ Ok (None, ts)
    no_decl ts e = rw (none_begins ts e) refl

    -- ---- files

    decl_first : (d : Decl) (ts rest : List Word) → SpellsDecl d ts rest → first (marked AnImport) ts ≡ None
    decl_first (common_decl (constants x vs)) ts rest s = ap (first (marked AnImport)) s.1
    decl_first (common_decl (variables x vs)) ts rest s = ap (first (marked AnImport)) s.1
    decl_first (type_decl x vs) ts rest s = ap (first (marked AnImport)) s.1
    decl_first (method_decl x v n gs r k) ts rest s = ap (first (marked AnImport)) s.4
    decl_first (func_decl x n ps gs r k) ts rest s = ap (first (marked AnImport)) s.4

    no_import_ahead : (ds : List Decl) (ts rest : List Word) → SpellsEach SpellsDecl ds ts rest → EndsFile rest → first (marked AnImport) ts ≡ None
    no_import_ahead [] ts rest s e = ap (first (marked AnImport)) s ∙ e.no_import
    no_import_ahead (d ∷ ds) ts rest (a, b, s, m, more) e = decl_first d ts a s

    all_imports : (is : List Import) → AllSpecs (λ (i : Import). Unit {0}) is
    all_imports [] = tt
    all_imports (i ∷ is) = (tt, all_imports is)

    all_good : (ds : List Decl) → AllSpecs FitsDecl ds → deepest decl_depth ds ≤ suc room → AllSpecs GoodDecl ds
    all_good [] f le = tt
    all_good (d ∷ ds) f le = ((f.0, omega (arith, le)), all_good ds f.1 (omega (arith, le)))

    pub file_reads : (f : File) (ts rest : List Word) → SpellsFile f ts rest → FitsFile f → file_depth f ≤ suc room → EndsFile rest → file room ts ≡ Ok (f, rest)
    unfolding file
    file_reads f ts rest (a, b, c, d, e, n, m, is, ds) fits le ends =
        ap (file room) e
        ∙ rw (
          expect_mark Package f.spot a,
          n,
          expect_name_ident f.package_name b,
          m.is,
          expect_mark Semi m.spot c,
          each_reads room SpellsImport (λ i. Unit {0}) (maybe_import room) (λ i ts rest h. shorter (fill_import i ts rest h)) import_read d (no_import d (no_import_ahead f.decls d rest ds ends)) f.imports c is (all_imports f.imports),
          each_reads room SpellsDecl GoodDecl (decl_part room) (λ d ts rest h. shorter (fill_decl d ts rest h)) part_read rest (no_decl rest ends) f.decls d ds (all_good f.decls fits le),
        ) refl
