-- Parts of statements with headers, and what was read of them.
use Rattle.std.proofs.Common.{◌≡◌, ℕ, suc, ◌≤◌, true, List, [], ◌∷◌, Option, Some, None, refl, ap, arith}
use Rattle.ui_scan.specs.declared.kind.TokenKind.TheVariants.{Semi}
use Rattle.ui_tree.specs.Tree.{Tree, MaybeTree, absent, given}
use Rattle.ui_tree.specs.Stmt.{Stmt, empty as no_words, alone, MaybeStmt, no_stmt, given_stmt, Braces}
use Rattle.ui_grammar.specs.Word.{Word, Mark}
use Rattle.ui_grammar.specs.Spells.{SpellsMaybe}
use Rattle.ui_grammar.specs.Fits.{in_header, maybe_depth}
use Rattle.ui_grammar.specs.Statement.{SpellsStmt, SpellsInit, is_simple, FitsMaybeIn, FitsStmt, FitsInit, stmt_depth, maybe_stmt_depth}
use Rattle.ui_grammar.proofs.Frames.{Spelling, Framed, Then, framed_as, next, frame_mark, frame_maybe}
use Rattle.ui_syntax.specs.Cover.{Read}
use Rattle.ui_syntax.proofs.ByBudget.{Begun}
use Rattle.ui_syntax.proofs.Begun.{Short, short_mark, begun_as, behind_none, before}
use Rattle.ui_syntax.proofs.SoundExprsTrees.{PartForm, IsPart}
use Rattle.ui_stmts.specs.Common.{Sized}
use Rattle.ui_stmts.specs.Stmts.{NestedStmt, Init, no_init, init_of, maybe_tree, tree_depth}
use Rattle.ui_stmts.proofs.ByBudget.{StmtForm, whole, any}
use Rattle.ui_stmts.proofs.SoundLists.{MaybeRead, ExprRead}
use Rattle.ui_stmts.proofs.SoundBraces.{BracesForm, BracesRead}
use Rattle.ui_stmts.proofs.SoundHeads.{SimpleForm, SimpleRead}
use Rattle.ui_grammar.proofs.FramesStmt.{frame_stmt, frame_init, frame_braces}

-- a form behind a word that was read before it
abbrev pub Under : Word → List Word → List Word
Under w ts = w ∷ ts

pub begun_under : {P : Stmt → Type 0} {b : ℕ} {ts rest : List Word} (w : Word) → Begun (StmtForm (Under w) P b) ts rest → Begun (StmtForm whole P b) (w ∷ ts) rest
begun_under w g = record {
  front = w ∷ g.front;
  parts = ap (λ (v : List Word). w ∷ v) g.parts;
  more = g.more;
  spells = λ k. let f = g.spells k in record { tree = f.tree; spells = f.spells; fits = f.fits; also = f.also };
}

pub any_form : {P : Stmt → Type 0} {b : ℕ} (us ws : List Word) → StmtForm whole P b us ws → StmtForm whole any b us ws
any_form us ws f = record { tree = f.tree; spells = f.spells; fits = f.fits; also = tt }

module _ (room : ℕ) where
  abbrev pub CondForm : Spelling
  CondForm = PartForm in_header room

  pub frame_body : {ts : List Word} {b : Sized Braces} {rest : List Word} → BracesRead room ts b rest → Framed (BracesForm room) ts rest
  frame_body {ts = ts} {b = b} {rest = rest} r = framed_as (frame_braces b.of ts rest r.spells) (λ us ws h. record { of = b.of; spells = h; fits = r.fits; shallow = omega (arith, r.sized, r.shallow) })

  -- ---- a simple statement and a semicolon

  pub record SemiForm (ts rest : List Word) : Type 0 where
    pub of : Stmt
    pub middle : List Word
    pub spells : SpellsStmt of ts middle
    pub semi : Mark Semi middle rest
    pub simple : is_simple of ≡ true
    pub fits : FitsStmt of in_header
    pub shallow : stmt_depth of ≤ room

  pub record SemiRead (ts : List Word) (s : Sized Stmt) (rest : List Word) : Type 0 where
    pub middle : List Word
    pub spells : SpellsStmt s.of ts middle
    pub semi : Mark Semi middle rest
    pub simple : is_simple s.of ≡ true
    pub fits : FitsStmt s.of in_header
    pub sized : stmt_depth s.of ≡ s.depth
    pub shallow : s.depth ≤ room

  pub semi_read : {ts m rest : List Word} {s : Sized Stmt} → SimpleRead in_header room ts s m → Mark Semi m rest → SemiRead ts s rest
  semi_read {m = m} r e = record { middle = m; spells = r.spells; semi = e; simple = r.simple; fits = r.fits; sized = r.sized; shallow = r.shallow }

  -- an expression alone
  pub alone_read : {ts m : List Word} (x : Read Tree) → IsPart in_header room ts x m → suc x.depth ≤ room → SimpleRead in_header room ts (record { of = alone x.tree; depth = suc x.depth }) m
  alone_read x h le = record { spells = h.spells; fits = h.fits; simple = refl; words = refl; sized = omega (arith, h.sized); shallow = le }

  -- no statement
  pub nothing_read : {ts rest : List Word} → 1 ≤ room → Mark Semi ts rest → SemiRead ts (record { of = no_words; depth = 1 }) rest
  nothing_read {ts = ts} le e = record { middle = ts; spells = refl; semi = e; simple = refl; fits = tt; sized = refl; shallow = le }

  pub frame_semi_read : {ts : List Word} {s : Sized Stmt} {rest : List Word} → SemiRead ts s rest → Framed SemiForm ts rest
  frame_semi_read {ts = ts} {s = s} {rest = rest} r = framed_as (next (frame_stmt s.of ts r.middle r.spells) (frame_mark Semi r.middle rest r.semi))
      (λ us ws h. record { of = s.of; middle = h.0; spells = h.1; semi = h.2; simple = r.simple; fits = r.fits; shallow = omega (arith, r.sized, r.shallow) })

  simple_semi : (us ws : List Word) → Then (SimpleForm in_header room) (Mark Semi) us ws → SemiForm us ws
  simple_semi us ws h = let s = h.1 in record { of = s.tree; middle = h.0; spells = s.spells; semi = h.2; simple = s.simple; fits = s.fits; shallow = s.shallow }

  pub semi_begun : {ts rest : List Word} → Begun (SimpleForm in_header room) ts rest → Begun SemiForm ts rest
  semi_begun g = begun_as (before g (short_mark Semi)) simple_semi

  pub semi_missing : {ts : List Word} {s : Sized Stmt} {rest : List Word} → SimpleRead in_header room ts s rest → Begun SemiForm ts rest
  semi_missing {ts = ts} {s = s} {rest = rest} r = begun_as (behind_none
      (framed_as (frame_stmt s.of ts rest r.spells) (λ us ws h. record { tree = s.of; spells = h; fits = r.fits; simple = r.simple; words = r.words; shallow = omega (arith, r.sized, r.shallow) }))
      (short_mark Semi)) simple_semi

  -- ---- the same, or nothing

  pub record InitForm (ts rest : List Word) : Type 0 where
    pub of : MaybeStmt
    pub spells : SpellsInit of ts rest
    pub fits : FitsInit of
    pub shallow : maybe_stmt_depth of ≤ room

  pub semi_init : (us ws : List Word) → SemiForm us ws → InitForm us ws
  semi_init us ws f = record { of = given_stmt f.of; spells = (f.middle, f.spells, f.semi); fits = (f.simple, f.fits); shallow = f.shallow }

  -- nothing, and what follows it
  pub none_then : (S : Spelling) (us ws : List Word) → S us ws → Then InitForm S us ws
  none_then S us ws h = (us, record { of = no_stmt; spells = refl; fits = tt; shallow = omega arith }, h)

  module _ (inner : NestedStmt) where
    pub record InitRead (ts : List Word) (i : Init room inner) (rest : List Word) : Type 0 where
      pub spells : SpellsInit i.of ts rest
      pub fits : FitsInit i.of
      pub sized : maybe_stmt_depth i.of ≡ i.depth
      pub shallow : i.depth ≤ room

    pub frame_init_read : {ts : List Word} {i : Init room inner} {rest : List Word} → InitRead ts i rest → Framed InitForm ts rest
    frame_init_read {ts = ts} {i = i} {rest = rest} r = framed_as (frame_init i.of ts rest r.spells) (λ us ws h. record { of = i.of; spells = h; fits = r.fits; shallow = omega (arith, r.sized, r.shallow) })

    pub no_init_read : (ts : List Word) → InitRead ts (no_init room inner) ts
    no_init_read ts = record { spells = refl; fits = tt; sized = refl; shallow = omega arith }

    pub init_read : {ts : List Word} {s : Sized Stmt} {rest : List Word} → SemiRead ts s rest → InitRead ts (init_of room inner s) rest
    init_read r = record { spells = (r.middle, r.spells, r.semi); fits = (r.simple, r.fits); sized = r.sized; shallow = r.shallow }

  -- ---- an expression, or nothing

  pub record MaybeCondForm (ts rest : List Word) : Type 0 where
    pub of : MaybeTree
    pub spells : SpellsMaybe of ts rest
    pub fits : FitsMaybeIn of in_header
    pub shallow : maybe_depth of ≤ room

  pub cond_maybe : (us ws : List Word) → CondForm us ws → MaybeCondForm us ws
  cond_maybe us ws f = record { of = given f.tree; spells = f.spells; fits = f.fits; shallow = f.shallow }

  pub short_no_cond : Short MaybeCondForm
  short_no_cond = record { words = []; spells = λ k. record { of = absent; spells = refl; fits = tt; shallow = omega arith } }

  pub record CondRead (ts : List Word) (e : MaybeTree) (k : ℕ) (rest : List Word) : Type 0 where
    pub spells : SpellsMaybe e ts rest
    pub fits : FitsMaybeIn e in_header
    pub sized : maybe_depth e ≡ k
    pub shallow : k ≤ room

  pub cond_read : (inner : NestedStmt) (ts : List Word) (o : Option (Read Tree)) (rest : List Word) → MaybeRead (ExprRead in_header room ts) ts o rest → CondRead ts (maybe_tree room inner o) (tree_depth room inner o) rest
  cond_read inner ts None rest e = record { spells = e; fits = tt; sized = refl; shallow = omega arith }
  cond_read inner ts (Some x) rest q = record { spells = q.part.spells; fits = q.part.fits; sized = q.part.sized; shallow = q.part.shallow }

  pub frame_cond : {ts : List Word} {e : MaybeTree} {k : ℕ} {rest : List Word} → CondRead ts e k rest → Framed MaybeCondForm ts rest
  frame_cond {ts = ts} {e = e} {rest = rest} r = framed_as (frame_maybe e ts rest r.spells) (λ us ws h. record { of = e; spells = h; fits = r.fits; shallow = omega (arith, r.sized, r.shallow) })
