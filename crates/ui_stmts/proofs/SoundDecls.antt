-- Declarations as they are read, given what is read of statements.
use Rattle.std.proofs.Common.{◌≡◌, ℕ, suc, ◌≤◌, false, List, [], ◌∷◌, Option, Some, None, refl, sym, subst, arith}
use Rattle.ui_base.specs.declared.value.Spot.{Spot}
use Rattle.ui_scan.specs.declared.kind.TokenKind.TheVariants.{LParen, RParen, LBracket, Const, Var, Import as AnImport, «Type» as AType, Func}
use Rattle.ui_tree.specs.declared.part.Placed.{Placed}
use Rattle.ui_tree.specs.declared.part.Group.{Group}
use Rattle.ui_tree.specs.declared.part.Specs.TheVariants.{Grouped}
use Rattle.ui_tree.specs.Tree.{TypeTree}
use Rattle.ui_tree.specs.Stmt.{Import, Recv, MaybeGroups, no_groups, given_groups, Decl, common_decl, type_decl, method_decl, func_decl}
use Rattle.ui_tree.specs.View.{groups, kept}
use Rattle.ui_grammar.specs.Word.{Word, ident, mark, Mark}
use Rattle.ui_grammar.specs.Declaration.{SpellsImported, SpellsImport, SpellsTypeGroup, FitsTypeGroup, type_group_depth, SpellsRecv, SpellsMaybeParams, FitsMaybeParams, maybe_groups_depth, SpellsDecl, FitsDecl, decl_depth}
use Rattle.ui_grammar.proofs.Frames.{Spelling, Then, Framed, framed, framed_as, next, frame_mark}
use Rattle.ui_grammar.proofs.FramesDecl.{fill_imported, fill_type_group, fill_recv}
use Rattle.ui_parse.specs.Reader.{and_then, pure, marked, take_by, expect_name}
use Rattle.ui_parse.proofs.Outcomes.{Holds, good, bind, mark_holds, expect_name_holds}
use Rattle.ui_syntax.proofs.ByBudget.{Begun, Stops}
use Rattle.ui_syntax.proofs.Begun.{Short, short_as, short_mark, short_then, AName, short_name, frame_name, Is, frame_word, begun_as, begun_stops, behind, behind_none, behind_word, before, mark_at}
use Rattle.ui_stmts.specs.Common.{Sized}
use Rattle.ui_stmts.specs.Stmts.{stmt_readers}
use Rattle.ui_stmts.proofs.ByBudget.{AreStmtsSound}
use Rattle.ui_stmts.specs.Decls.{import_spec, type_spec, block, method_behind, func_behind, function, type_params, maybe_decl, maybe_import}
use Rattle.ui_stmts.proofs.SteadyDecls.{steady_import_spec, steady_type_spec}
use Rattle.ui_stmts.proofs.SoundSpecs.{SpecsForm, specs_holds}
use Rattle.ui_stmts.proofs.SoundCommon.{CommonForm, constant_decl_holds, variable_decl_holds}
use Rattle.ui_stmts.proofs.SoundBraces.{BracesForm, BracesRead, short_braces, a_body_holds}
use Rattle.ui_stmts.proofs.SoundTypeLists.{SpellsAs, TypeParamsForm, type_params_hold, frame_type_params_read}
use Rattle.ui_stmts.proofs.SoundTypeSpecs.{AnyImport, no_depth, import_holds, type_spec_holds}
use Rattle.ui_stmts.proofs.SoundFunctions.{RecvForm, RecvRead, receiver_holds, SignatureForm, short_signature, signature_holds, frame_signature_read}

-- none in parentheses
short_specs : {S : Type 0} {P : S → Spelling} {F : S → Type 0} {D : S → ℕ} {b : ℕ} → Short (SpecsForm P F D b)
short_specs = short_as (short_then (short_mark LParen) (short_mark RParen)) (λ us ws h. record { all = Grouped []; spells = h; ok = (tt, omega arith) })

-- ---- imports

pub record ImportForm (ts rest : List Word) : Type 0 where
  pub all : Import
  pub spells : SpellsImport all ts rest

abbrev pub ImportRead : List Word → Option Import → List Word → Type 0
ImportRead ts None rest = ts ≡ rest
ImportRead ts (Some i) rest = SpellsImport i ts rest

import_form : (s : Spot) (us ws : List Word) → Then (Is (mark AnImport s)) (SpecsForm SpellsImported AnyImport no_depth 0) us ws → ImportForm us ws
import_form s us ws (a, e, is) = record { all = record { spot = s; specs = is.all }; spells = (a, e, is.spells) }

module _ (room : ℕ) where
  abbrev budget : ℕ
  budget = suc room

  pub maybe_import_holds : (ts : List Word) → Holds (ImportRead ts) (Begun ImportForm ts) (maybe_import room ts)
  maybe_import_holds ts = mark_at ImportRead (λ us r. Begun ImportForm us r) AnImport _ (pure None) ts
      (λ s ws. bind (specs_holds SpellsImported AnyImport no_depth 0 (λ i us rest h. framed (fill_imported i us rest h)) import_spec steady_import_spec import_holds ws)
      (λ is rest h. good (ws, refl, h.spells))
      (λ rest st. begun_as (behind_word (mark AnImport s) short_specs st) (import_form s)))
      (λ _. good refl)

  -- ---- functions

  pub record DeclForm (ts rest : List Word) : Type 0 where
    pub all : Decl
    pub spells : SpellsDecl all ts rest
    pub fits : FitsDecl all
    pub shallow : decl_depth all ≤ budget

  pub record DeclRead (ts : List Word) (d : Sized Decl) (rest : List Word) : Type 0 where
    pub spells : SpellsDecl d.of ts rest
    pub fits : FitsDecl d.of
    pub sized : decl_depth d.of ≡ d.depth
    pub shallow : d.depth ≤ budget

  abbrev pub MaybeDeclRead : List Word → Option (Sized Decl) → List Word → Type 0
  MaybeDeclRead ts None rest = ts ≡ rest
  MaybeDeclRead ts (Some d) rest = DeclRead ts d rest

  -- Sig Block
  abbrev SigBody : Spelling
  SigBody = Then (SignatureForm room) (BracesForm budget)

  short_sig_body : Short SigBody
  short_sig_body = short_then (short_signature room) (short_braces budget)

  record MaybeParams (ts rest : List Word) : Type 0 where
    params : MaybeGroups
    spells : SpellsMaybeParams params ts rest
    fits : FitsMaybeParams params
    shallow : maybe_groups_depth params ≤ budget

  given : (gs : List (Group TypeTree)) (ts a rest : List Word) → Mark LBracket ts a → SpellsAs false gs a rest → SpellsMaybeParams (given_groups (groups kept gs)) ts rest
  given [] ts a rest m h = absurd h
  given (g ∷ gs) ts a rest m h = (a, m, h)

  given_form : (us ws : List Word) → Then (Mark LBracket) (TypeParamsForm room false) us ws → MaybeParams us ws
  given_form us ws (a, m, ps) = record { params = given_groups (groups kept ps.all); spells = given ps.all us a ws m ps.spells; fits = (ps.good.named, ps.good.fits); shallow = ps.good.shallow }

  func_form : (s : Spot) (us ws : List Word) → Then (Is (mark Func s)) (Then AName (Then MaybeParams SigBody)) us ws → DeclForm us ws
  func_form s us ws (a, e, (b, n, (c, ps, (d, g, k)))) = record {
    all = func_decl s n.word ps.params g.params g.of k.of;
    spells = (a, b, c, d, e, n.is, ps.spells, g.spells, k.spells);
    fits = (ps.fits, g.fits, k.fits);
    shallow = omega (arith, ps.shallow, g.shallow, k.shallow);
  }

  method_form : (s o : Spot) (us ws : List Word) → Then (Is (mark Func s)) (Then (RecvForm room o) (Then AName SigBody)) us ws → DeclForm us ws
  method_form s o us ws (a, e, (b, r, (c, n, (d, g, k)))) = record {
    all = method_decl s r.of n.word g.params g.of k.of;
    spells = (a, b, c, d, e, r.spells, n.is, g.spells, k.spells);
    fits = (g.fits, k.fits);
    shallow = omega (arith, g.shallow, k.shallow);
  }

  module _ (sound : AreStmtsSound (suc room) (stmt_readers (suc room))) where
    body_holds : (ts : List Word) → Holds (BracesRead budget ts) (Stops (BracesForm budget) ts) (block room ts)
    body_holds ts = a_body_holds (suc room) (stmt_readers (suc room)) sound ts

    module _ (s : Spot) (ws : List Word) where
      abbrev all : List Word
      all = mark Func s ∷ ws

      abbrev Fault : List Word → Type 0
      Fault rest = Begun DeclForm all rest

      -- behind the parameters
      func_behind_holds : (n : Placed) (a : List Word) (ps : MaybeGroups) (k : ℕ) (m : List Word) → ws ≡ ident n ∷ a → SpellsMaybeParams ps a m → FitsMaybeParams ps → maybe_groups_depth ps ≡ k → k ≤ budget → Framed MaybeParams a m
          → Holds (DeclRead all) Fault (func_behind room s n ps k m)
      func_behind_holds n a ps k m e spells fits sized shallow frame = bind (signature_holds room m)
          (λ g r h. bind (body_holds r)
          (λ b rest q. good (record {
            spells = (ws, a, m, r, refl, e, spells, h.spells, q.spells);
            fits = (fits, h.fits, q.fits);
            sized = omega (arith, sized, h.sized, q.sized);
            shallow = omega (arith, shallow, h.shallow, q.shallow);
          }))
          (λ rest st. begun_as (behind (frame_word (mark Func s) ws) (behind (frame_name n ws a e) (behind frame (behind (frame_signature_read room m g r h) (begun_stops (short_braces budget) st))))) (func_form s)))
          (λ rest st. begun_as (behind (frame_word (mark Func s) ws) (behind (frame_name n ws a e) (behind frame (before (begun_stops (short_signature room) st) (short_braces budget))))) (func_form s))

      frame_no_params : (a : List Word) → Framed MaybeParams a a
      frame_no_params a = record { front = []; parts = refl; again = λ k. record { params = no_groups; spells = refl; fits = tt; shallow = omega arith } }

      named_holds : Holds (DeclRead all) Fault (and_then (expect_name ws) (λ n. take_by (marked LBracket) (λ _ v. and_then (type_params room v) (λ ps. func_behind room s n (given_groups (groups kept ps.groups)) ps.depth)) (func_behind room s n no_groups 0)))
      named_holds = bind (expect_name_holds {Q = λ n a. ws ≡ ident n ∷ a} {F = Fault} ws (λ n a e. e) (λ _. begun_as (behind_none (frame_word (mark Func s) ws) (short_then short_name (short_then short_no_params short_sig_body))) (func_form s)))
          (λ n a e. mark_holds LBracket _ (func_behind room s n no_groups 0) a
          (λ x c e2. bind (type_params_hold room c)
          (λ ps m h. func_behind_holds n a (given_groups (groups kept ps.groups)) ps.depth m e (given ps.groups a c m (record { spot = x; is = e2 }) h.spells) (h.good.named, h.good.fits) h.sized (omega (arith, h.sized, h.good.shallow))
          (framed_as (next (frame_mark LBracket a c (record { spot = x; is = e2 })) (frame_type_params_read room false c ps m h)) given_form))
          (λ rest g. begun_as (behind (frame_word (mark Func s) ws) (behind (frame_name n ws a e) (before (begun_as (behind (frame_mark LBracket a c (record { spot = x; is = e2 })) g) given_form) short_sig_body))) (func_form s)))
          (λ _. func_behind_holds n a no_groups 0 a e refl tt refl (omega arith) (frame_no_params a)))
          (λ r g. g)
        where
          short_no_params : Short MaybeParams
          short_no_params = record { words = []; spells = λ k. record { params = no_groups; spells = refl; fits = tt; shallow = omega arith } }

      method_holds : (o : Spot) (a : List Word) → ws ≡ mark LParen o ∷ a → (r : Recv) (m : List Word) → RecvRead room o a r m → Holds (DeclRead all) Fault (method_behind room s r m)
      method_holds o a e r m h = bind (expect_name_holds {Q = λ n b. m ≡ ident n ∷ b} {F = Fault} m (λ n b g. g) (λ _. begun_as (behind (frame_word (mark Func s) ws) (behind_none frame_recv (short_then short_name short_sig_body))) (method_form s o)))
          (λ n b e2. bind (signature_holds room b)
          (λ g c q. bind (body_holds c)
          (λ k rest z. good (record {
            spells = (ws, m, b, c, refl, recv_spelled, e2, q.spells, z.spells);
            fits = (q.fits, z.fits);
            sized = omega (arith, q.sized, z.sized);
            shallow = omega (arith, q.shallow, z.shallow);
          }))
          (λ rest st. begun_as (behind (frame_word (mark Func s) ws) (behind frame_recv (behind (frame_name n m b e2) (behind (frame_signature_read room b g c q) (begun_stops (short_braces budget) st))))) (method_form s o)))
          (λ rest st. begun_as (behind (frame_word (mark Func s) ws) (behind frame_recv (behind (frame_name n m b e2) (before (begun_stops (short_signature room) st) (short_braces budget))))) (method_form s o)))
          (λ r f. f)
        where
          recv_spelled : SpellsRecv r ws m
          recv_spelled = subst (λ (v : List Word). SpellsRecv r v m) (sym e) h.spells

          recv_spot : r.spot ≡ o
          recv_spot = let same : mark LParen o ∷ a ≡ mark LParen r.spot ∷ h.spells.0 = h.spells.5 in cc

          frame_recv : Framed (RecvForm room o) ws m
          frame_recv = framed_as (framed (fill_recv r ws m recv_spelled)) (λ us vs q. record { of = r; spot_is = recv_spot; spells = q })

      recv_fault : (o : Spot) (a r : List Word) → ws ≡ mark LParen o ∷ a → Begun (RecvForm room o) (mark LParen o ∷ a) r → Fault r
      recv_fault o a r e g = begun_as (behind (frame_word (mark Func s) ws) (before (subst (λ (v : List Word). Begun (RecvForm room o) v r) (sym e) g) (short_then short_name short_sig_body))) (method_form s o)

      pub function_holds : Holds (DeclRead all) Fault (function room s ws)
      unfolding function
      function_holds = mark_holds LParen _ _ ws
          (λ o a e. bind (receiver_holds room o a) (λ r m h. method_holds o a e r m h) (λ r g. recv_fault o a r e g))
          (λ _. named_holds)

    -- ---- declarations

    common_form : (us ws : List Word) → CommonForm budget us ws → DeclForm us ws
    common_form us ws c = record { all = common_decl c.of; spells = c.spells; fits = c.fits; shallow = c.shallow }

    type_form : (s : Spot) (us ws : List Word) → Then (Is (mark AType s)) (SpecsForm SpellsTypeGroup FitsTypeGroup type_group_depth budget) us ws → DeclForm us ws
    type_form s us ws (a, e, vs) = record { all = type_decl s vs.all; spells = (a, e, vs.spells); fits = vs.ok.0; shallow = vs.ok.1 }

    pub maybe_decl_holds : (ts : List Word) → Holds (MaybeDeclRead ts) (Begun DeclForm ts) (maybe_decl room ts)
    unfolding maybe_decl
    maybe_decl_holds ts = mark_at MaybeDeclRead (λ us r. Begun DeclForm us r) Const _ _ ts
        (λ s ws. bind (bind (constant_decl_holds budget s ws) (λ c r h. good {P = DeclRead (mark Const s ∷ ws)} {E = Begun DeclForm (mark Const s ∷ ws)} (record { spells = h.spells; fits = h.fits; sized = h.sized; shallow = h.shallow })) (λ r g. begun_as g common_form)) (λ d r h. good h) (λ r g. g))
        (λ _. mark_at MaybeDeclRead (λ us r. Begun DeclForm us r) Var _ _ ts
        (λ s ws. bind (bind (variable_decl_holds budget s ws) (λ c r h. good {P = DeclRead (mark Var s ∷ ws)} {E = Begun DeclForm (mark Var s ∷ ws)} (record { spells = h.spells; fits = h.fits; sized = h.sized; shallow = h.shallow })) (λ r g. begun_as g common_form)) (λ d r h. good h) (λ r g. g))
        (λ _. mark_at MaybeDeclRead (λ us r. Begun DeclForm us r) AType _ _ ts
        (λ s ws. bind (bind (specs_holds SpellsTypeGroup FitsTypeGroup type_group_depth budget (λ t us rest h. framed (fill_type_group t us rest h)) (type_spec room) (steady_type_spec room) (type_spec_holds room) ws)
        (λ vs r h. good {P = DeclRead (mark AType s ∷ ws)} {E = Begun DeclForm (mark AType s ∷ ws)} (record { spells = (ws, refl, h.spells); fits = h.fits; sized = h.sized; shallow = h.shallow }))
        (λ r st. begun_as (behind_word (mark AType s) short_specs st) (type_form s)))
        (λ d r h. good h) (λ r g. g))
        (λ _. mark_at MaybeDeclRead (λ us r. Begun DeclForm us r) Func _ (pure None) ts (λ s ws. bind (function_holds s ws) (λ d r h. good h) (λ r g. g)) (λ _. good refl))))
