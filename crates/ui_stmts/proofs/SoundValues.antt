-- Constants and variables as they are read.
use Rattle.std.proofs.Common.{◌≡◌, inl, inr, ℕ, ◌≤◌, false, List, [], ◌∷◌, Option, Some, None, refl, subst, arith}
use Rattle.std.specs.Prelude.{nat_le}
use Rattle.std.proofs.lemmas.Bool.{leb-true}
use Rattle.ui_scan.specs.declared.kind.TokenKind.TheVariants.{Assign}
use Rattle.ui_tree.specs.declared.part.Placed.{Placed}
use Rattle.ui_tree.specs.Tree.{TypeTree, MaybeType, no_type, given_type, Tree}
use Rattle.ui_tree.specs.Stmt.{no_trees, given_trees, ValueGroup}
use Rattle.ui_tree.specs.View.{trees}
use Rattle.ui_grammar.specs.Word.{Word, mark, Mark, Names}
use Rattle.ui_grammar.specs.Spells.{SpellsMaybeType}
use Rattle.ui_grammar.specs.Fits.{plain, plain_type, maybe_type_depth, FitsMaybeType}
use Rattle.ui_grammar.specs.Statement.{SpellsConstantValue, SpellsVariableValue, SpellsConstant, SpellsVariable, FitsValue, value_depth}
use Rattle.ui_grammar.proofs.Frames.{Spelling, Framed, Then, framed_as, frame_none, frame_mark, frame_type}
use Rattle.ui_parse.specs.Reader.{and_then, pure, refuse, take_by, marked}
use Rattle.ui_parse.proofs.Outcomes.{Holds, good, bad, bind, mono, choose, mark_holds, expect_holds}
use Rattle.ui_syntax.specs.declared.site.TypeSite.TheVariants as at
use Rattle.ui_syntax.specs.Cover.{Read}
use Rattle.ui_syntax.specs.Types.{Listed}
use Rattle.ui_syntax.specs.Read.{readers}
use Rattle.ui_syntax.proofs.ByBudget.{Begun, Stops, TypeForm, IsTypeRead, IsMaybeRead}
use Rattle.ui_syntax.proofs.Begun.{Short, short_then, short_mark, short_type, begun_as, stops_as, behind, behind_none, behind_stops, before_stops}
use Rattle.ui_syntax.proofs.Sound.{readers_sound, type_sound}
use Rattle.ui_stmts.specs.Common.{Sized, value_of, values, names, constant_behind, constant, variable_behind, variable}
use Rattle.ui_stmts.proofs.SoundLists.{Exprs, ExprsForm, ExprsAt, short_exprs, exprs_spelled, exprs_holds, NamesForm, frame_names, names_holds}
use Rattle.ui_stmts.proofs.SoundSpecs.{SpecForm, SpecRead}

module _ (b : ℕ) where
  -- a type that may be left out
  pub record MaybeTypeForm (ts rest : List Word) : Type 0 where
    pub of : MaybeType
    pub spells : SpellsMaybeType of ts rest
    pub fits : FitsMaybeType of plain_type
    pub shallow : maybe_type_depth of ≤ b

  a_type_form : (us ws : List Word) → TypeForm at.Plain b us ws → MaybeTypeForm us ws
  a_type_form us ws f = record { of = given_type f.tree; spells = f.spells; fits = f.fits.0; shallow = f.fits.1 }

  short_maybe_type : Short MaybeTypeForm
  short_maybe_type = record { words = []; spells = λ k. record { of = no_type; spells = refl; fits = tt; shallow = omega arith } }

  frame_maybe_type : (o : Option (Read TypeTree)) (ts rest : List Word) → IsMaybeRead at.Plain b ts o rest → Framed MaybeTypeForm ts rest
  frame_maybe_type None ts rest e = framed_as (frame_none ts rest e) (λ us ws h. record { of = no_type; spells = h; fits = tt; shallow = omega arith })
  frame_maybe_type (Some t) ts rest r = framed_as (frame_type t.tree ts rest r.spells) (λ us ws h. record { of = given_type t.tree; spells = h; fits = r.fits.0; shallow = r.fits.1 })

  abbrev pub AreValues : Spelling
  AreValues = Then NamesForm (Then MaybeTypeForm (Then (Mark Assign) (ExprsForm plain b)))

  -- ---- values, of constants and of variables alike

  module _ (P : ValueGroup → Spelling) (with_values : (ns : List Placed) (t : MaybeType) (es : List Tree) (ts a m w rest : List Word) → Names ns ts a → SpellsMaybeType t a m → Mark Assign m w → Exprs es w rest
      → P (record { names = ns; of = t; values = given_trees (trees es) }) ts rest) where
    abbrev ValueForm : Spelling
    ValueForm = SpecForm P FitsValue value_depth b

    abbrev ValueRead : List Word → Sized ValueGroup → List Word → Type 0
    ValueRead = SpecRead P FitsValue value_depth b

    values_form : (us ws : List Word) → AreValues us ws → ValueForm us ws
    values_form us ws h = let ns = h.1 in let t = h.2.1 in let es = h.2.2.2 in record {
      all = record { names = ns.all; of = t.of; values = given_trees (trees es.all) };
      spells = with_values ns.all t.of es.all us h.0 h.2.0 h.2.2.0 ws ns.spells t.spells h.2.2.1 es.spells;
      ok = ((t.fits, es.ok.0), omega (arith, t.shallow, es.ok.1));
    }

    value_read : (ns : List Placed) (o : Option (Read TypeTree)) (es : Listed Tree) (ts a m w rest : List Word) → Names ns ts a → IsMaybeRead at.Plain b a o m → Mark Assign m w → ExprsAt plain b w es rest → ValueRead ts (value_of ns o (Some es)) rest
    value_read ns None es ts a m w rest n e x j = record {
      spells = with_values ns no_type es.items ts a m w rest n e x (exprs_spelled j);
      fits = (tt, j.are.fits);
      sized = omega (arith, j.are.sized);
      shallow = j.are.shallow;
    }
    value_read ns (Some t) es ts a m w rest n r x j = record {
      spells = with_values ns (given_type t.tree) es.items ts a m w rest n r.spells x (exprs_spelled j);
      fits = (r.fits.0, j.are.fits);
      sized = omega (arith, r.sized, j.are.sized);
      shallow = omega (arith, r.sized, r.fits.1, j.are.shallow);
    }

    values_holds : (ns : List Placed) (o : Option (Read TypeTree)) (ts a m w : List Word) → 1 ≤ b → Names ns ts a → IsMaybeRead at.Plain b a o m → Mark Assign m w → Holds (ValueRead ts) (Begun ValueForm ts) (values b ns o w)
    values_holds ns o ts a m w le n t x = bind (exprs_holds false b w) (λ es rest j. good (value_read ns o es ts a m w rest n t x j))
        (λ rest st. begun_as (behind (frame_names ns ts a n) (behind (frame_maybe_type o a m t) (behind_stops (frame_mark Assign m w x) (short_exprs plain b le) st))) values_form)

    -- an "=" is missing behind a type
    no_assign : (ns : List Placed) (t : Read TypeTree) (ts a m : List Word) → 1 ≤ b → Names ns ts a → IsTypeRead at.Plain b a t m → Begun ValueForm ts m
    no_assign ns t ts a m le n r = begun_as (behind (frame_names ns ts a n) (behind_none (frame_maybe_type (Some t) a m r) (short_then (short_mark Assign) (short_exprs plain b le)))) values_form

    -- a type is begun
    type_fault : (ns : List Placed) (ts a rest : List Word) → 1 ≤ b → Names ns ts a → Stops (TypeForm at.Plain b) a rest → Begun ValueForm ts rest
    type_fault ns ts a rest le n st =
        let value = short_then (short_mark Assign) (short_exprs plain b le) in
        begun_as (behind_stops (frame_names ns ts a n) (short_then short_maybe_type value) (before_stops (stops_as st a_type_form) value)) values_form

-- ---- constants

constant_value : (t : MaybeType) (es : List Tree) (a m w rest : List Word) → SpellsMaybeType t a m → Mark Assign m w → Exprs es w rest → SpellsConstantValue t (given_trees (trees es)) a rest
constant_value no_type es a m w rest t x h = (m, w, t, x, h)
constant_value (given_type u) es a m w rest t x h = (m, w, t, x, h)

constant_spelled : (ns : List Placed) (t : MaybeType) (es : List Tree) (ts a m w rest : List Word) → Names ns ts a → SpellsMaybeType t a m → Mark Assign m w → Exprs es w rest
    → SpellsConstant (record { names = ns; of = t; values = given_trees (trees es) }) ts rest
constant_spelled ns t es ts a m w rest n s x h = (a, n, constant_value t es a m w rest s x h)

abbrev pub ConstantRead : ℕ → List Word → Sized ValueGroup → List Word → Type 0
ConstantRead b = SpecRead SpellsConstant FitsValue value_depth b

abbrev pub ConstantForm : ℕ → Spelling
ConstantForm b = SpecForm SpellsConstant FitsValue value_depth b

names_alone : (b : ℕ) (us ws : List Word) → NamesForm us ws → ConstantForm b us ws
names_alone b us ws f = record { all = record { names = f.all; of = no_type; values = no_trees }; spells = (ws, f.spells, refl); ok = ((tt, tt), omega arith) }

module _ (b : ℕ) (ns : List Placed) (ts a : List Word) (n : Names ns ts a) where
  names_read : ConstantRead b ts (value_of ns None None) a
  names_read = record { spells = (a, n, refl); fits = (tt, tt); sized = refl; shallow = omega arith }

  constant_behind_holds : (o : Option (Read TypeTree)) (m : List Word) → 1 ≤ b → IsMaybeRead at.Plain b a o m → Holds (ConstantRead b ts) (Begun (ConstantForm b) ts) (constant_behind b ns o m)
  constant_behind_holds None m le e = good (subst (λ (v : List Word). ConstantRead b ts (value_of ns None None) v) e names_read)
  constant_behind_holds (Some t) m le r = bind (expect_holds {Q = λ x w. m ≡ mark Assign x ∷ w} {F = Begun (ConstantForm b) ts} Assign m (λ x w e. e) (λ _. no_assign b SpellsConstant constant_spelled ns t ts a m le n r))
      (λ x w e. values_holds b SpellsConstant constant_spelled ns (Some t) ts a m w le n r (record { spot = x; is = e })) (λ w g. g)

  behind_names : 1 ≤ b → Holds (ConstantRead b ts) (Begun (ConstantForm b) ts) (take_by (marked Assign) (λ _. values b ns None) (λ ws. and_then ((readers b).maybe_type at.Plain ws) (constant_behind b ns)) a)
  behind_names le = mark_holds Assign (λ _. values b ns None) (λ ws. and_then ((readers b).maybe_type at.Plain ws) (constant_behind b ns)) a
      (λ x w e. values_holds b SpellsConstant constant_spelled ns None ts a a w le n refl (record { spot = x; is = e }))
      (λ _. bind ((readers_sound b).own.type at.Plain a) (λ o m h. constant_behind_holds o m le h) (λ r st. type_fault b SpellsConstant constant_spelled ns ts a r le n st))

pub constant_holds : (b : ℕ) (ts : List Word) → Holds (ConstantRead b ts) (Stops (ConstantForm b) ts) (constant b ts)
unfolding constant
constant_holds b ts = bind (names_holds ts)
    (λ ns a n. choose (nat_le 1 b) (take_by (marked Assign) (λ _. values b ns None) (λ ws. and_then ((readers b).maybe_type at.Plain ws) (constant_behind b ns))) (pure (value_of ns None None)) a
    (λ le. mono (behind_names b ns ts a n (leb-true _ _ le)) (λ v r h. h) (λ r g. inr g))
    (λ _. good (names_read b ns ts a n)))
    (λ r st. stops_as st (names_alone b))

-- ---- variables

variable_value : (t : MaybeType) (es : List Tree) (a m w rest : List Word) → SpellsMaybeType t a m → Mark Assign m w → Exprs es w rest → SpellsVariableValue t (given_trees (trees es)) a rest
variable_value no_type es a m w rest t x h = (m, w, t, x, h)
variable_value (given_type u) es a m w rest t x h = (m, w, t, x, h)

variable_spelled : (ns : List Placed) (t : MaybeType) (es : List Tree) (ts a m w rest : List Word) → Names ns ts a → SpellsMaybeType t a m → Mark Assign m w → Exprs es w rest
    → SpellsVariable (record { names = ns; of = t; values = given_trees (trees es) }) ts rest
variable_spelled ns t es ts a m w rest n s x h = (a, n, variable_value t es a m w rest s x h)

abbrev pub VariableRead : ℕ → List Word → Sized ValueGroup → List Word → Type 0
VariableRead b = SpecRead SpellsVariable FitsValue value_depth b

abbrev pub VariableForm : ℕ → Spelling
VariableForm b = SpecForm SpellsVariable FitsValue value_depth b

typed_form : (b : ℕ) (us ws : List Word) → Then NamesForm (TypeForm at.Plain b) us ws → VariableForm b us ws
typed_form b us ws h = let t = h.2 in record { all = record { names = h.1.all; of = given_type t.tree; values = no_trees }; spells = (h.0, h.1.spells, t.spells); ok = ((t.fits.0, tt), omega (arith, t.fits.1)) }

module _ (b : ℕ) (ns : List Placed) (ts a : List Word) (n : Names ns ts a) (le : 1 ≤ b) where
  typed_holds : (t : Read TypeTree) (m : List Word) → IsTypeRead at.Plain b a t m → Holds (VariableRead b ts) (Begun (VariableForm b) ts) (take_by (marked Assign) (λ _. values b ns (Some t)) (pure (value_of ns (Some t) None)) m)
  typed_holds t m r = mark_holds Assign (λ _. values b ns (Some t)) (pure (value_of ns (Some t) None)) m
      (λ x w e. values_holds b SpellsVariable variable_spelled ns (Some t) ts a m w le n r (record { spot = x; is = e }))
      (λ _. good (record { spells = (a, n, r.spells); fits = (r.fits.0, tt); sized = omega (arith, r.sized); shallow = omega (arith, r.sized, r.fits.1) }))

  variable_behind_holds : Holds (VariableRead b ts) (Begun (VariableForm b) ts) (variable_behind b ns a)
  variable_behind_holds = mark_holds Assign (λ _. values b ns None) _ a
      (λ x w e. values_holds b SpellsVariable variable_spelled ns None ts a a w le n refl (record { spot = x; is = e }))
      (λ _. bind (type_sound b a) (λ t m r. typed_holds t m r) (λ r st. begun_as (behind_stops (frame_names ns ts a n) (short_type b le) st) (typed_form b)))

pub variable_holds : (b : ℕ) (ts : List Word) → Holds (VariableRead b ts) (Stops (VariableForm b) ts) (variable b ts)
unfolding variable
variable_holds b ts = choose (nat_le 1 b) (λ ws. and_then (names ws) (λ ns. variable_behind b ns)) refuse ts
    (λ le. bind (names_holds ts) (λ ns a n. mono (variable_behind_holds b ns ts a n (leb-true _ _ le)) (λ v r h. h) (λ r g. inr g)) (λ r st. stops_as (before_stops st (short_type b (leb-true _ _ le))) (typed_form b)))
    (λ _. bad (inl refl))
