-- Declarations of constants and variables as they are read, behind their keyword.
use Rattle.std.proofs.Common.{◌≡◌, ℕ, ◌≤◌, List, [], ◌∷◌, refl, arith}
use Rattle.ui_base.specs.declared.value.Spot.{Spot}
use Rattle.ui_scan.specs.declared.kind.TokenKind.TheVariants.{LParen, RParen, Const, Var}
use Rattle.ui_tree.specs.declared.part.Specs.TheVariants.{Grouped}
use Rattle.ui_tree.specs.Stmt.{ValueGroup, Common, constants, variables}
use Rattle.ui_grammar.specs.Word.{Word, mark}
use Rattle.ui_grammar.specs.Statement.{SpellsConstant, SpellsVariable, SpellsCommon, FitsValue, FitsCommon, value_depth, common_depth}
use Rattle.ui_grammar.proofs.Frames.{Spelling, Then, framed}
use Rattle.ui_parse.proofs.Outcomes.{Holds, good, bind}
use Rattle.ui_syntax.proofs.ByBudget.{Begun}
use Rattle.ui_syntax.proofs.Begun.{Short, short_as, short_then, short_mark, Is, begun_as, behind_word}
use Rattle.ui_stmts.specs.Common.{Sized, constant, variable, constant_decl, variable_decl}
use Rattle.ui_stmts.proofs.SteadyStmts.{steady_constant, steady_variable}
use Rattle.ui_stmts.proofs.SoundSpecs.{SpecsForm, specs_holds}
use Rattle.ui_stmts.proofs.SoundValues.{constant_holds, variable_holds}
use Rattle.ui_grammar.proofs.FramesStmt.{fill_constant, fill_variable}

module _ (b : ℕ) where
  pub record CommonForm (ts rest : List Word) : Type 0 where
    pub of : Common
    pub spells : SpellsCommon of ts rest
    pub fits : FitsCommon of
    pub shallow : common_depth of ≤ b

  pub record CommonRead (ts : List Word) (c : Sized Common) (rest : List Word) : Type 0 where
    pub spells : SpellsCommon c.of ts rest
    pub fits : FitsCommon c.of
    pub sized : common_depth c.of ≡ c.depth
    pub shallow : c.depth ≤ b

  -- none, in parentheses
  short_specs : {P : ValueGroup → Spelling} → Short (SpecsForm P FitsValue value_depth b)
  short_specs = short_as (short_then (short_mark LParen) (short_mark RParen)) (λ us ws h. record { all = Grouped []; spells = h; ok = (tt, omega arith) })

  constants_form : (s : Spot) (us ws : List Word) → Then (Is (mark Const s)) (SpecsForm SpellsConstant FitsValue value_depth b) us ws → CommonForm us ws
  constants_form s us ws h = let vs = h.2 in record { of = constants s vs.all; spells = (h.0, h.1, vs.spells); fits = vs.ok.0; shallow = vs.ok.1 }

  variables_form : (s : Spot) (us ws : List Word) → Then (Is (mark Var s)) (SpecsForm SpellsVariable FitsValue value_depth b) us ws → CommonForm us ws
  variables_form s us ws h = let vs = h.2 in record { of = variables s vs.all; spells = (h.0, h.1, vs.spells); fits = vs.ok.0; shallow = vs.ok.1 }

  pub constant_decl_holds : (s : Spot) (ws : List Word) → Holds (CommonRead (mark Const s ∷ ws)) (Begun CommonForm (mark Const s ∷ ws)) (constant_decl b s ws)
  unfolding constant_decl
  constant_decl_holds s ws = bind (specs_holds SpellsConstant FitsValue value_depth b (λ v ts rest h. framed (fill_constant v ts rest h)) (constant b) (steady_constant b) (constant_holds b) ws)
      (λ vs rest h. good (record { spells = (ws, refl, h.spells); fits = h.fits; sized = h.sized; shallow = h.shallow }))
      (λ rest st. begun_as (behind_word (mark Const s) short_specs st) (constants_form s))

  pub variable_decl_holds : (s : Spot) (ws : List Word) → Holds (CommonRead (mark Var s ∷ ws)) (Begun CommonForm (mark Var s ∷ ws)) (variable_decl b s ws)
  unfolding variable_decl
  variable_decl_holds s ws = bind (specs_holds SpellsVariable FitsValue value_depth b (λ v ts rest h. framed (fill_variable v ts rest h)) (variable b) (steady_variable b) (variable_holds b) ws)
      (λ vs rest h. good (record { spells = (ws, refl, h.spells); fits = h.fits; sized = h.sized; shallow = h.shallow }))
      (λ rest st. begun_as (behind_word (mark Var s) short_specs st) (variables_form s))
