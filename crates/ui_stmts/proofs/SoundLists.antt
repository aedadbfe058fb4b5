-- Lists of expressions and of names as they are read, and parts that may be left out.
use Rattle.std.proofs.Common.{◌≡◌, ◌⊎◌, inl, inr, ℕ, ◌≤◌, Bool, true, false, List, [], ◌∷◌, ◌++◌, length, Option, Some, None, Ok, Err, refl, sym, ap, arith}
use Rattle.std.specs.Prelude.{nat_eq}
use Rattle.std.proofs.lemmas.Bool.{eqb-false}
use Rattle.ui_base.specs.declared.value.Spot.{Spot}
use Rattle.ui_scan.specs.declared.kind.TokenKind.TheVariants.{Comma}
use Rattle.ui_tree.specs.declared.part.Placed.{Placed}
use Rattle.ui_tree.specs.Tree.{Tree, name}
use Rattle.ui_tree.specs.View.{trees}
use Rattle.ui_grammar.specs.Word.{Word, ident, mark, Begins, NamesTail, Names}
use Rattle.ui_grammar.specs.Spells.{SpellsMore, SpellsExprs}
use Rattle.ui_grammar.specs.Fits.{Place, trees_depth, FitsTrees}
use Rattle.ui_grammar.proofs.Frames.{Spelling, Framed, Filled, framed, framed_as, next, frame_mark, frame, fill_exprs, fill_names}
use Rattle.ui_parse.specs.Reader.{Outcome, Reader}
use Rattle.ui_parse.proofs.Outcomes.{HoldsBy, Holds, good, bad, bind, mono, expect_name_holds}
use Rattle.ui_parse.proofs.Steady.{steady_bind, steady_pure, steady_expect_name}
use Rattle.ui_parse.proofs.TurnLaws.{chain_holds}
use Rattle.ui_syntax.specs.Cover.{Read}
use Rattle.ui_syntax.specs.Types.{Listed, add, only}
use Rattle.ui_syntax.specs.Read.{place_of, expr, place_at}
use Rattle.ui_syntax.proofs.ByBudget.{Begun, Stops}
use Rattle.ui_syntax.proofs.Places.{depth_positive}
use Rattle.ui_syntax.proofs.Begun.{Short, short_as, x_name, short_name, begun_as, stops_as, begun_stops, behind, behind_none}
use Rattle.ui_syntax.proofs.Runs.{FormOf, lead_begun, Run, run_first, run_next, run_end, run_begun}
use Rattle.ui_syntax.proofs.Steady.{expr_steady}
use Rattle.ui_syntax.proofs.SoundExprsTrees.{PartForm, IsPart, AreParts, fits_append, depth_append}
use Rattle.ui_syntax.proofs.Sound.{expr_sound}
use Rattle.ui_syntax.proofs.SoundTypesStruct.{NamesRun, first_name, next_name}
use Rattle.ui_stmts.specs.Common.{none_at, maybe_of, maybe, one_expr_more, exprs_from, exprs, one_more, names}

-- ---- parts that may be left out

abbrev pub MaybeRead : {A : Type 0} → (A → List Word → Type 0) → List Word → Option A → List Word → Type 0
MaybeRead P ts None rest = ts ≡ rest
MaybeRead P ts (Some a) rest = P a rest

-- A fault either took nothing, and then the part is left out, or it stands behind a front.
pub maybe_holds : {A : Type 0} {P : A → List Word → Type 0} {F G : List Word → Type 0} (p : Reader A) (ts : List Word) → ((r : List Word) → F r → (ts ≡ r) ⊎ G r) → Holds P F (p ts) → Holds (MaybeRead P ts) G (maybe p ts)
unfolding maybe
maybe_holds {A = A} {P = P} {F = F} {G = G} p ts split h = by_outcome (p ts) h.holds
  where
    at_fault : (b : Bool) (rest : List Word) → nat_eq (length rest) (length ts) ≡ b → (ts ≡ rest) ⊎ G rest → Holds (MaybeRead P ts) G (none_at b ts rest)
    at_fault true rest e s = good refl
    at_fault false rest e (inl same) = absurd (eqb-false (length rest) (length ts) e (ap length (sym same)))
    at_fault false rest e (inr g) = bad g

    by_outcome : (o : Outcome A) → HoldsBy P F o → Holds (MaybeRead P ts) G (maybe_of ts o)
    by_outcome (Ok x) h = good h
    by_outcome (Err rest) h = at_fault (nat_eq (length rest) (length ts)) rest refl (split rest h)

-- ---- expressions in a header, or elsewhere

abbrev pub in_place : Bool → Place
in_place header = place_at (place_of header)

pub record ExprRead (p : Place) (b : ℕ) (ts : List Word) (x : Read Tree) (rest : List Word) : Type 0 where
  pub begins : Begins x.spot ts
  pub part : IsPart p b ts x rest

pub expr_holds : (b : ℕ) (header : Bool) (ts : List Word) → Holds (ExprRead (in_place header) b ts) (Stops (PartForm (in_place header) b) ts) (expr b header ts)
expr_holds b header ts = mono (expr_sound b header ts)
    (λ x r h. record { begins = h.begins; part = record { spells = h.spells; fits = h.fits.fits; sized = h.sized; shallow = omega (arith, h.sized, h.fits.shallow) } })
    (λ r s. stops_as s (λ us ws f. record { tree = f.tree; spells = f.spells; fits = f.fits.fits; shallow = f.fits.shallow }))

pub short_part : (p : Place) (b : ℕ) → 1 ≤ b → Short (PartForm p b)
short_part p b le = record { words = ident x_name ∷ []; spells = λ k. record { tree = name x_name; spells = refl; fits = tt; shallow = le } }

pub frame_part : {p : Place} {b : ℕ} {ts : List Word} {x : Read Tree} {rest : List Word} → IsPart p b ts x rest → Framed (PartForm p b) ts rest
frame_part {ts = ts} {x = x} {rest = rest} h = framed_as (frame x.tree ts rest h.spells) (λ us ws q. record { tree = x.tree; spells = q; fits = h.fits; shallow = omega (arith, h.sized, h.shallow) })

-- what was read has some depth, so there is room for it
pub part_room : {p : Place} {b : ℕ} {ts : List Word} {x : Read Tree} {rest : List Word} → IsPart p b ts x rest → 1 ≤ b
part_room {p = p} {x = x} h = omega (arith, depth_positive x.tree p h.fits, h.sized, h.shallow)

-- ---- lists of them

abbrev pub MoreExprs : List Tree → Spelling
MoreExprs es = SpellsMore (trees es)

abbrev pub Exprs : List Tree → Spelling
Exprs es = SpellsExprs (trees es)

abbrev pub GoodExprs : Place → ℕ → List Tree → Type 0
GoodExprs p b es = FitsTrees (trees es) p × trees_depth (trees es) ≤ b

good_append : (es fs : List Tree) (p : Place) (b : ℕ) → GoodExprs p b es → GoodExprs p b fs → GoodExprs p b (es ++ fs)
good_append es fs p b h g = (fits_append es fs p h.0 g.0, omega (arith, depth_append es fs, h.1, g.1))

-- expressions that fit in the place, within the depth
abbrev pub ExprsForm : Place → ℕ → Spelling
ExprsForm p b = FormOf Exprs (GoodExprs p b)

-- what was read of a list, up to ws
pub record ExprsAt (p : Place) (b : ℕ) (ts : List Word) (l : Listed Tree) (ws : List Word) : Type 0 where
  pub run : Run MoreExprs Exprs l.items ts ws
  pub are : AreParts p b l.items l.depth
  pub room : 1 ≤ b

pub one_form : {p : Place} {b : ℕ} (us ws : List Word) → PartForm p b us ws → ExprsForm p b us ws
one_form us ws f = record { all = f.tree ∷ []; spells = (ws, f.spells, refl); ok = ((f.fits, tt), omega (arith, f.shallow)) }

pub short_exprs : (p : Place) (b : ℕ) → 1 ≤ b → Short (ExprsForm p b)
short_exprs p b le = short_as (short_part p b le) one_form

pub exprs_spelled : {p : Place} {b : ℕ} {ts : List Word} {l : Listed Tree} {ws : List Word} → ExprsAt p b ts l ws → Exprs l.items ts ws
exprs_spelled {ts = ts} {l = l} {ws = ws} j = run_end MoreExprs Exprs l.items ts ws ws j.run refl

pub exprs_good : {p : Place} {b : ℕ} {ts : List Word} {l : Listed Tree} {ws : List Word} → ExprsAt p b ts l ws → GoodExprs p b l.items
exprs_good j = (j.are.fits, omega (arith, j.are.sized, j.are.shallow))

pub fill_read : {p : Place} {b : ℕ} {ts : List Word} {l : Listed Tree} {ws : List Word} → ExprsAt p b ts l ws → Filled (Exprs l.items) ts ws
fill_read {ts = ts} {l = l} {ws = ws} j = fill_exprs (trees l.items) ts ws (exprs_spelled j)

pub frame_exprs : {p : Place} {b : ℕ} {ts : List Word} {l : Listed Tree} {ws : List Word} → ExprsAt p b ts l ws → Framed (ExprsForm p b) ts ws
frame_exprs {l = l} j = framed_as (framed (fill_read j)) (λ us ws h. record { all = l.items; spells = h; ok = exprs_good j })

pub first_expr : {p : Place} {b : ℕ} (ts : List Word) (x : Read Tree) (ws : List Word) → IsPart p b ts x ws → ExprsAt p b ts (only x.tree x.depth) ws
first_expr ts x ws h = record {
  run = run_first MoreExprs Exprs x.tree ts ws (frame x.tree ts ws h.spells) (λ us a k rest s g. (k, s, g));
  are = record { fits = (h.fits, tt); sized = omega (arith, h.sized); shallow = h.shallow };
  room = part_room h;
}

pub next_expr : {p : Place} {b : ℕ} (ts : List Word) (l : Listed Tree) (x : Spot) (ws m : List Word) (y : Read Tree) (rest : List Word) → ExprsAt p b ts l ws → ws ≡ mark Comma x ∷ m → IsPart p b m y rest → ExprsAt p b ts (add l y.tree y.depth) rest
next_expr {p = p} ts l x ws m y rest j e h = record {
  run = run_next MoreExprs Exprs l.items y.tree ts ws rest j.run (next (frame_mark Comma ws m (record { spot = x; is = e })) (frame y.tree m rest h.spells)) (λ us a k end s g. (s.0, k, s.1, s.2, g));
  are = record {
    fits = fits_append l.items (y.tree ∷ []) p j.are.fits (h.fits, tt);
    sized = omega (arith, depth_append l.items (y.tree ∷ []), j.are.sized, h.sized);
    shallow = omega (arith, j.are.shallow, h.shallow);
  };
  room = j.room;
}

pub next_stops : {p : Place} {b : ℕ} (ts : List Word) (l : Listed Tree) (x : Spot) (ws m rest : List Word) → ExprsAt p b ts l ws → ws ≡ mark Comma x ∷ m → Stops (PartForm p b) m rest → Begun (ExprsForm p b) ts rest
next_stops {p = p} {b = b} ts l x ws m rest j e st = run_begun MoreExprs Exprs {Ok1 = GoodExprs p b} {Ok2 = GoodExprs p b} l.items ts ws rest j.run (λ us h. good_append l.items us p b (exprs_good j) h)
    (begun_as (behind (frame_mark Comma ws m (record { spot = x; is = e })) (begun_stops (short_part p b j.room) st)) (λ us rs h. let t = h.2 in record { all = t.tree ∷ []; spells = (h.0, rs, h.1, t.spells, refl); ok = ((t.fits, tt), omega (arith, t.shallow)) }))

module _ (header : Bool) (b : ℕ) where
  pub exprs_from_holds : (ts : List Word) (l : Listed Tree) (ws : List Word) → ExprsAt (in_place header) b ts l ws → Holds (ExprsAt (in_place header) b ts) (Begun (ExprsForm (in_place header) b) ts) (exprs_from b header l ws)
  exprs_from_holds ts l ws j = mono
      (chain_holds Comma (one_expr_more b header) (λ l. steady_bind (expr_steady b header) (λ x. steady_pure (add l x.tree x.depth))) (ExprsAt (in_place header) b ts) (Begun (ExprsForm (in_place header) b) ts)
      (λ l x u m j e. bind (expr_holds b header m) (λ y r q. good (next_expr ts l x u m y r j e q.part)) (λ r st. next_stops ts l x u m r j e st))
      l ws j)
      (λ l r h. h.0) (λ r g. g)

  pub exprs_holds : (ts : List Word) → Holds (ExprsAt (in_place header) b ts) (Stops (ExprsForm (in_place header) b) ts) (exprs b header ts)
  unfolding exprs
  exprs_holds ts = bind (expr_holds b header ts) (λ x ws h. mono (exprs_from_holds ts (only x.tree x.depth) ws (first_expr ts x ws h.part)) (λ l r q. q) (λ r g. inr g)) (λ r st. stops_as st one_form)

-- ---- names

abbrev pub NamesForm : Spelling
NamesForm = FormOf Names (λ ns. Unit {0})

pub short_names : Short NamesForm
short_names = record { words = ident x_name ∷ []; spells = λ k. record { all = x_name ∷ []; spells = (k, refl, refl); ok = tt } }

pub frame_names : (ns : List Placed) (ts rest : List Word) → Names ns ts rest → Framed NamesForm ts rest
frame_names ns ts rest h = framed_as (framed (fill_names ns ts rest h)) (λ us ws q. record { all = ns; spells = q; ok = tt })

name_missing : (ns : List Placed) (x : Spot) (ts a rest : List Word) → NamesRun ns ts a → a ≡ mark Comma x ∷ rest → Begun NamesForm ts rest
name_missing ns x ts a rest run e = lead_begun {S = NamesTail} {Ok1 = λ us. Unit {0}} (λ us. ns ++ us) ts a rest run (λ us h. h)
    (begun_as (behind_none (frame_mark Comma a rest (record { spot = x; is = e })) short_name) (λ us rs h. record { all = h.2.word ∷ []; spells = (h.0, rs, h.1, h.2.is, refl); ok = tt }))

pub names_holds : (ts : List Word) → Holds (λ ns rest. Names ns ts rest) (Stops NamesForm ts) (names ts)
unfolding names
names_holds ts = bind (expect_name_holds {Q = λ p r. ts ≡ ident p ∷ r} {F = Stops NamesForm ts} ts (λ p r e. e) (λ _. inl refl))
    (λ p ws e. mono (chain_holds Comma one_more (λ ns. steady_bind steady_expect_name (λ p. steady_pure (ns ++ (p ∷ [])))) (λ ns v. NamesRun ns ts v) (Begun NamesForm ts)
    (λ ns x v m run h. bind (expect_name_holds {Q = λ q r. m ≡ ident q ∷ r} {F = Begun NamesForm ts} m (λ q r g. g) (λ _. name_missing ns x ts v m run h))
    (λ q r g. good (next_name ns x q ts v m r run h g)) (λ r g. g))
    (p ∷ []) ws (first_name p ts ws e))
    (λ ns r h. run_end NamesTail Names ns ts r r h.0 refl) (λ r g. inr g))
    (λ r st. st)
