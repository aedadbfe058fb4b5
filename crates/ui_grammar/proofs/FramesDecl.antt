-- A spelling of a declaration stays one whatever follows it.
use Rattle.std.proofs.Common.{◌≡◌, Bool, true, false, List, [], ◌∷◌, Option, Some, None, ◌∙◌, refl}
use Rattle.ui_scan.specs.declared.kind.TokenKind.TheVariants.{LParen, RParen, LBracket, RBracket, Comma, Semi, Assign, Mul, Import as AnImport, «Type» as AType, Func, Package}
use Rattle.ui_base.specs.declared.value.Value.TheVariants as value
use Rattle.ui_tree.specs.declared.part.Placed.{Placed}
use Rattle.ui_tree.specs.declared.part.LiteralKind.TheVariants.{Text}
use Rattle.ui_tree.specs.Tree.{Groups, groups_end, group_and, MaybeType}
use Rattle.ui_tree.specs.Stmt.{Imported, Import, TypeGroup, Recv, MaybeGroups, no_groups, given_groups, Decl, common_decl, type_decl, method_decl, func_decl, File}
use Rattle.ui_grammar.specs.Word.{Word, ident, lit, mark}
use Rattle.ui_grammar.specs.Both.{is_length}
use Rattle.ui_grammar.specs.Declaration.{MaybeNamed, SpellsImported, SpellsImport, SpellsTypeParams, SpellsTypeHead, SpellsTypeGroup, RecvParams, SpellsRecv, SpellsMaybeParams, SpellsSig, SpellsDecl, SpellsEach, SpellsFile}
use Rattle.ui_grammar.proofs.Frames.{Spelling, Framed, Filled, framed, next, lead, framed_as, filled_as, frame_none, fill_word, fill_mark, frame_mark, frame_if, fill_names, frame_labels, fill_type, frame_maybe_type, frame_groups}
use Rattle.ui_grammar.proofs.FramesStmt.{frame_specs, fill_common, fill_braces}

pub frame_maybe_named : (n : Option Placed) (ts rest : List Word) → MaybeNamed n ts rest → Framed (MaybeNamed n) ts rest
frame_maybe_named None ts rest e = frame_none ts rest e
frame_maybe_named (Some p) ts rest e = framed (fill_word (ident p) ts rest e)

-- ---- imports

pub frame_imported : (i : Imported) (ts rest : List Word) → SpellsImported i ts rest → Framed (SpellsImported i) ts rest
frame_imported i ts rest h = next (frame_maybe_named i.name ts h.0 h.1) (framed (fill_word (lit Text i.path.spot (value.Str i.path.text)) h.0 rest h.2))

pub fill_imported : (i : Imported) (ts rest : List Word) → SpellsImported i ts rest → Filled (SpellsImported i) ts rest
fill_imported i ts rest h = fill_by i.name h.1
  where
    fill_by : (n : Option Placed) → MaybeNamed n ts h.0 → Filled (λ us ws. (a : List Word) × MaybeNamed n us a × (a ≡ lit Text i.path.spot (value.Str i.path.text) ∷ ws)) ts rest
    fill_by None e = filled_as (fill_word (lit Text i.path.spot (value.Str i.path.text)) ts rest (e ∙ h.2)) (λ us ws g. (us, refl, g))
    fill_by (Some p) e = lead (fill_word (ident p) ts h.0 e) (framed (fill_word (lit Text i.path.spot (value.Str i.path.text)) h.0 rest h.2))

pub fill_import : (i : Import) (ts rest : List Word) → SpellsImport i ts rest → Filled (SpellsImport i) ts rest
fill_import i ts rest h = lead (fill_word (mark AnImport i.spot) ts h.0 h.1) (frame_specs SpellsImported fill_imported i.specs h.0 rest h.2)

-- ---- type declarations

pub frame_type_params : (length : Bool) (gs : Groups) (ts rest : List Word) → SpellsTypeParams length gs ts rest → Framed (SpellsTypeParams length gs) ts rest
frame_type_params length groups_end ts rest h = absurd h
frame_type_params false (group_and ns t gs) ts rest h = frame_groups Comma RBracket (group_and ns t gs) ts rest h
frame_type_params true (group_and ns t gs) ts rest h = framed_as (next (frame_labels ns ts h.0 h.3) (next (framed (fill_type t h.0 h.1 h.4)) (next (frame_mark Comma h.1 h.2 h.5) (frame_mark RBracket h.2 rest h.6))))
    (λ us ws g. (g.0, g.2.0, g.2.2.0, g.1, g.2.1, g.2.2.1, g.2.2.2))

pub frame_type_head : (gs : Groups) (alias : Bool) (ts rest : List Word) → SpellsTypeHead gs alias ts rest → Framed (SpellsTypeHead gs alias) ts rest
frame_type_head groups_end false ts rest e = frame_none ts rest e
frame_type_head groups_end true ts rest h = frame_mark Assign ts rest h
frame_type_head (group_and ns t gs) false ts rest h = next (frame_mark LBracket ts h.0 h.1) (frame_type_params (is_length (group_and ns t gs)) (group_and ns t gs) h.0 rest h.2)
frame_type_head (group_and ns t gs) true ts rest h = absurd h

pub fill_type_group : (t : TypeGroup) (ts rest : List Word) → SpellsTypeGroup t ts rest → Filled (SpellsTypeGroup t) ts rest
fill_type_group t ts rest h = filled_as (lead (fill_word (ident t.name) ts h.0 h.2) (next (frame_type_head t.params t.alias h.0 h.1 h.3) (framed (fill_type t.of h.1 rest h.4))))
    (λ us ws g. (g.0, g.2.0, g.1, g.2.1, g.2.2))

-- ---- functions and methods

pub frame_recv_params : (ps : Option (List Placed)) (ts rest : List Word) → RecvParams ps ts rest → Framed (RecvParams ps) ts rest
frame_recv_params None ts rest e = frame_none ts rest e
frame_recv_params (Some ns) ts rest h = framed_as (next (frame_mark LBracket ts h.0 h.2) (next (framed (fill_names ns h.0 h.1 h.3)) (frame_mark RBracket h.1 rest h.4)))
    (λ us ws g. (g.0, g.2.0, g.1, g.2.1, g.2.2))

pub fill_recv : (r : Recv) (ts rest : List Word) → SpellsRecv r ts rest → Filled (SpellsRecv r) ts rest
fill_recv r ts rest h =
    filled_as (lead (fill_word (mark LParen r.spot) ts h.0 h.5) (next (frame_maybe_named r.name h.0 h.1 h.6) (next (frame_if r.pointer Mul h.1 h.2 h.7) (next (framed (fill_word (ident r.of) h.2 h.3 h.8)) (next (frame_recv_params r.params h.3 h.4 h.9) (frame_mark RParen h.4 rest h.10))))))
    (λ us ws g. (g.0, g.2.0, g.2.2.0, g.2.2.2.0, g.2.2.2.2.0, g.1, g.2.1, g.2.2.1, g.2.2.2.1, g.2.2.2.2.1, g.2.2.2.2.2))

pub frame_maybe_params : (ps : MaybeGroups) (ts rest : List Word) → SpellsMaybeParams ps ts rest → Framed (SpellsMaybeParams ps) ts rest
frame_maybe_params no_groups ts rest e = frame_none ts rest e
frame_maybe_params (given_groups groups_end) ts rest h = absurd h
frame_maybe_params (given_groups (group_and ns t gs)) ts rest h = next (frame_mark LBracket ts h.0 h.1) (frame_groups Comma RBracket (group_and ns t gs) h.0 rest h.2)

pub fill_sig : (gs : Groups) (r : MaybeType) (ts rest : List Word) → SpellsSig gs r ts rest → Filled (SpellsSig gs r) ts rest
fill_sig gs r ts rest h = filled_as (lead (fill_mark LParen ts h.0 h.2) (next (frame_groups Comma RParen gs h.0 h.1 h.3) (frame_maybe_type r h.1 rest h.4)))
    (λ us ws g. (g.0, g.2.0, g.1, g.2.1, g.2.2))

pub frame_sig : (gs : Groups) (r : MaybeType) (ts rest : List Word) → SpellsSig gs r ts rest → Framed (SpellsSig gs r) ts rest
frame_sig gs r ts rest h = framed (fill_sig gs r ts rest h)

-- ---- declarations and files

pub fill_decl : (d : Decl) (ts rest : List Word) → SpellsDecl d ts rest → Filled (SpellsDecl d) ts rest
fill_decl (common_decl c) ts rest h = filled_as (fill_common c ts rest h) (λ us ws g. g)
fill_decl (type_decl s specs) ts rest h = lead (fill_word (mark AType s) ts h.0 h.1) (frame_specs SpellsTypeGroup fill_type_group specs h.0 rest h.2)
fill_decl (method_decl s recv n gs r body) ts rest h =
    filled_as (lead (fill_word (mark Func s) ts h.0 h.4) (next (framed (fill_recv recv h.0 h.1 h.5)) (next (framed (fill_word (ident n) h.1 h.2 h.6)) (next (frame_sig gs r h.2 h.3 h.7) (framed (fill_braces body h.3 rest h.8))))))
    (λ us ws g. (g.0, g.2.0, g.2.2.0, g.2.2.2.0, g.1, g.2.1, g.2.2.1, g.2.2.2.1, g.2.2.2.2))
fill_decl (func_decl s n ps gs r body) ts rest h =
    filled_as (lead (fill_word (mark Func s) ts h.0 h.4) (next (framed (fill_word (ident n) h.0 h.1 h.5)) (next (frame_maybe_params ps h.1 h.2 h.6) (next (frame_sig gs r h.2 h.3 h.7) (framed (fill_braces body h.3 rest h.8))))))
    (λ us ws g. (g.0, g.2.0, g.2.2.0, g.2.2.2.0, g.1, g.2.1, g.2.2.1, g.2.2.2.1, g.2.2.2.2))

pub frame_decl : (d : Decl) (ts rest : List Word) → SpellsDecl d ts rest → Framed (SpellsDecl d) ts rest
frame_decl d ts rest h = framed (fill_decl d ts rest h)

pub frame_import : (i : Import) (ts rest : List Word) → SpellsImport i ts rest → Framed (SpellsImport i) ts rest
frame_import i ts rest h = framed (fill_import i ts rest h)

pub frame_each : {S : Type 0} (P : S → Spelling) (frame_one : (s : S) (ts rest : List Word) → P s ts rest → Framed (P s) ts rest) (ss : List S) (ts rest : List Word) → SpellsEach P ss ts rest → Framed (SpellsEach P ss) ts rest
frame_each P frame_one [] ts rest e = frame_none ts rest e
frame_each P frame_one (s ∷ ss) ts rest h = framed_as (next (frame_one s ts h.0 h.2) (next (frame_mark Semi h.0 h.1 h.3) (frame_each P frame_one ss h.1 rest h.4)))
    (λ us ws g. (g.0, g.2.0, g.1, g.2.1, g.2.2))

pub fill_file : (f : File) (ts rest : List Word) → SpellsFile f ts rest → Filled (SpellsFile f) ts rest
fill_file f ts rest h =
    filled_as (lead (fill_word (mark Package f.spot) ts h.0 h.4) (next (framed (fill_word (ident f.package_name) h.0 h.1 h.5)) (next (frame_mark Semi h.1 h.2 h.6) (next (frame_each SpellsImport frame_import f.imports h.2 h.3 h.7) (frame_each SpellsDecl frame_decl f.decls h.3 rest h.8)))))
    (λ us ws g. (g.0, g.2.0, g.2.2.0, g.2.2.2.0, g.1, g.2.1, g.2.2.1, g.2.2.2.1, g.2.2.2.2))
