-- Lists of type parameters as they are read, behind the bracket: by themselves, or where an array's length may stand.
use Rattle.std.proofs.Common.{◌≡◌, ◌⊎◌, inl, inr, ℕ, suc, ◌≤◌, Bool, true, false, ◌&&◌, List, [], ◌∷◌, ◌++◌, Option, Some, None, refl, sym, subst, arith}
use Rattle.ui_base.specs.declared.value.Spot.{Spot}
use Rattle.ui_scan.specs.declared.kind.TokenKind.TheVariants.{RBracket, Comma}
use Rattle.ui_tree.specs.declared.part.Placed.{Placed}
use Rattle.ui_tree.specs.declared.part.Group.{Group}
use Rattle.ui_tree.specs.Tree.{TypeTree, groups_end, group_and}
use Rattle.ui_tree.specs.View.{groups, kept}
use Rattle.ui_grammar.specs.Word.{Word, ident, mark, Mark, Named}
use Rattle.ui_grammar.specs.Both.{is_length}
use Rattle.ui_grammar.specs.Spells.{SpellsType}
use Rattle.ui_grammar.specs.Fits.{bound, type_depth, groups_depth, FitsType}
use Rattle.ui_grammar.specs.Declaration.{SpellsTypeParams}
use Rattle.ui_grammar.proofs.Frames.{Spelling, Then, Framed, framed_as, next, frame_type}
use Rattle.ui_grammar.proofs.FramesDecl.{frame_type_params}
use Rattle.ui_parse.specs.Reader.{and_then, pure, expect, parts, more_parts}
use Rattle.ui_parse.proofs.Outcomes.{Holds, good, bind, mono, choose, expect_holds, expect_name_holds}
use Rattle.ui_parse.proofs.TurnLaws.{KeepsParts, parts_holds}
use Rattle.ui_syntax.specs.Cover.{Read}
use Rattle.ui_syntax.proofs.ByBudget.{Begun}
use Rattle.ui_syntax.proofs.Begun.{Short, short_as, short_mark, short_then, AName, short_name, frame_name, begun_as, begun_none, begun_stops, behind, behind_none, before}
use Rattle.ui_syntax.proofs.Runs.{Lead}
use Rattle.ui_syntax.proofs.SoundTypesLists.{TypeFits}
use Rattle.ui_stmts.specs.Decls.{TypeParams, no_type_params, type_params_ending, add_bound, type_param, type_params, type_params_apart}
use Rattle.ui_stmts.proofs.SteadyDecls.{steady_type_param}
use Rattle.ui_stmts.proofs.TypeParamWords.{Starts, Whole, Something, Apart, starts_whole}
use Rattle.ui_stmts.proofs.SoundTypeParams.{GoodParams, good_none, good_group, Facts, Before, After, separated, name_added, bound_added, ParamsForm, ParamsRead, short_bound}
use Rattle.ui_stmts.proofs.SoundBounds.{BoundRead, bound_holds, part_holds, keeps, more_params_hold}

-- the list is spelled where a length may stand, or for itself
abbrev pub SpellsAs : Bool → List (Group TypeTree) → Spelling
SpellsAs apart gs = SpellsTypeParams (apart && is_length (groups kept gs)) (groups kept gs)

as_spelled : (apart : Bool) (gs : List (Group TypeTree)) (us ws : List Word) → Something gs [] → Apart apart gs → Whole gs us ws → SpellsAs apart gs us ws
as_spelled apart [] us ws some h s = absurd cc
as_spelled false (g ∷ gs) us ws some h s = s
as_spelled true (g ∷ gs) us ws some h s = subst (λ (b : Bool). SpellsTypeParams b (groups kept (g ∷ gs)) us ws) (sym h) s

-- one parameter and a comma
one_param : (length : Bool) (p : Placed) (t : TypeTree) (ts a b c rest : List Word) → Named p ts a → SpellsType t a b → Mark Comma b c → Mark RBracket c rest → SpellsTypeParams length (group_and (p ∷ []) t groups_end) ts rest
one_param true p t ts a b c rest n s m k = (a, b, c, (a, n, refl), s, m, k)
one_param false p t ts a b c rest n s m k = (a, b, (a, n, refl), s, inr (c, m, k))

module _ (room : ℕ) (apart : Bool) where
  abbrev budget : ℕ
  budget = suc room

  pub record TypeParamsForm (ts rest : List Word) : Type 0 where
    pub all : List (Group TypeTree)
    pub spells : SpellsAs apart all ts rest
    pub good : GoodParams budget all

  pub record TypeParamsRead (ts : List Word) (ps : TypeParams) (rest : List Word) : Type 0 where
    pub spells : SpellsAs apart ps.groups ts rest
    pub good : GoodParams budget ps.groups
    pub sized : groups_depth (groups kept ps.groups) ≡ ps.depth

  form_as : (ts us ws : List Word) → ParamsForm budget apart ts us ws → TypeParamsForm us ws
  form_as ts us ws h = record { all = h.all; spells = as_spelled apart h.all us ws h.ok.some h.ok.apart_is h.spells; good = h.ok.good }

  read_as : (ts : List Word) (ps : TypeParams) (rest : List Word) → ParamsRead budget apart ts ps rest → TypeParamsRead ts ps rest
  read_as ts ps rest h = record { spells = as_spelled apart ps.groups ts rest h.some h.apart_is h.spells; good = h.facts.good; sized = h.facts.sized }

  -- ---- the first parameter

  -- a name with its bound, of which a comma makes a list
  abbrev OneParam : Spelling
  OneParam = Then AName (TypeFits bound budget)

  one_form : (us ws : List Word) → Then OneParam (Then (Mark Comma) (Mark RBracket)) us ws → TypeParamsForm us ws
  one_form us ws (a, (b, n, t), (c, m, k)) = record {
    all = record { names = n.word ∷ []; of = t.tree } ∷ [];
    spells = one_param (apart && is_length (group_and (n.word ∷ []) t.tree groups_end)) n.word t.tree us b a c ws n.is t.spells m k;
    good = good_group budget [] n.word [] t.tree t.fits t.shallow;
  }

  short_end : Short (Then (Mark Comma) (Mark RBracket))
  short_end = short_then (short_mark Comma) (short_mark RBracket)

  short_one : Short OneParam
  short_one = short_then short_name (short_bound budget apart [] (omega arith))

  pub short_type_params : Short TypeParamsForm
  short_type_params = short_as (short_then short_one short_end) one_form

  module _ (ts : List Word) where
    record FirstBound (ps : TypeParams) (ws : List Word) : Type 0 where
      name : Placed
      of : TypeTree
      middle : List Word
      is : ts ≡ ident name ∷ middle
      spells : SpellsType of middle ws
      fits : FitsType of bound
      shallow : type_depth of ≤ budget
      groups_are : ps.groups ≡ record { names = name ∷ []; of = of } ∷ []

    record FirstRead (ps : TypeParams) (ws : List Word) : Type 0 where
      after : After budget false ts ps ws
      first : (ps.groups ≡ []) ⊎ FirstBound ps ws

    abbrev Fault : List Word → Type 0
    Fault rest = Begun TypeParamsForm ts rest

    at_first : Lead (Starts []) Whole (λ us. [] ++ us) ts ts
    at_first = record { front = []; parts = refl; again = λ us k rest h. starts_whole us k rest h }

    no_facts : Facts budget no_type_params
    no_facts = record { good = good_none budget; sized = refl }

    first_holds : Holds FirstRead Fault (type_param room no_type_params ts)
    first_holds = bind (expect_name_holds {Q = λ p m. ts ≡ ident p ∷ m} {F = Fault} ts (λ p m e. e) (λ _. begun_none ts short_type_params))
        (λ p m e. bind (bound_holds room m) (λ o r h. each p m e o r h)
        (λ r st. begun_as (before (behind (frame_name p ts m e) (begun_stops (short_bound budget apart ts (omega arith)) st)) short_end) one_form))
        (λ r g. g)
      where
        each : (p : Placed) (m : List Word) → ts ≡ ident p ∷ m → (o : Option (Read TypeTree)) (r : List Word) → BoundRead budget m o r → Holds FirstRead Fault (pure (add_bound no_type_params p o) r)
        each p m e None r h = good (record { after = name_added budget false ts no_type_params p ts r at_first no_facts (subst (λ (v : List Word). ts ≡ ident p ∷ v) h e); first = inl refl })
        each p m e (Some t) r h = good (record {
          after = bound_added budget false ts no_type_params p t ts m r at_first no_facts e h.spells h.fits h.sized h.shallow tt;
          first = inr (record { name = p; of = t.tree; middle = m; is = e; spells = h.spells; fits = h.fits; shallow = omega (arith, h.sized, h.shallow); groups_are = refl });
        })

    -- where the first is no length, or none may stand here
    more_after : (ps : TypeParams) (ws : List Word) → FirstRead ps ws → Apart apart ps.groups → Holds (TypeParamsRead ts) Fault (more_parts Comma RBracket type_params_ending (type_param room) ps ws)
    more_after ps ws h apart_is = mono (more_params_hold room apart ts ps ws (record { run = h.after.run; facts = h.after.facts; some = h.after.some; apart_is = λ _. apart_is }))
        (λ x r q. read_as ts x r q) (λ r g. begun_as g (form_as ts))

    -- where it is, a comma has to come
    comma_after : (ps : TypeParams) (ws : List Word) → FirstRead ps ws → FirstBound ps ws → Holds (TypeParamsRead ts) Fault (and_then (expect Comma ws) (λ _. parts Comma RBracket type_params_ending (type_param room) ps))
    comma_after ps ws h f = bind (expect_holds {Q = λ x rest. ws ≡ mark Comma x ∷ rest} {F = Fault} Comma ws (λ x rest e. e) (λ _. begun_as (behind_none frame_first short_end) one_form))
        (λ x rest e. mono (parts_holds Comma RBracket type_params_ending (type_param room) (steady_type_param room) (After budget apart ts) (TypeParamsRead ts) (Begun (ParamsForm budget apart ts) ts) keeps_read ps rest
        (λ _. part_holds room apart ts ps rest (before_first x rest e))
        (λ y last may e2. at_close x rest y last e e2))
        (λ qs r q. q) (λ r g. begun_as g (form_as ts)))
        (λ r g. g)
      where
        frame_first : Framed OneParam ts ws
        frame_first = next (frame_name f.name ts f.middle f.is) (framed_as (frame_type f.of f.middle ws f.spells) (λ us rs s. record { tree = f.of; spells = s; fits = f.fits; shallow = f.shallow }))

        before_first : (x : Spot) (rest : List Word) → ws ≡ mark Comma x ∷ rest → Before budget apart ts ps rest
        before_first x rest e = let b = separated budget false ts ps x ws rest h.after e in record { run = b.run; facts = b.facts; some = b.some }

        keeps_read : KeepsParts Comma RBracket type_params_ending (type_param room) (steady_type_param room) (After budget apart ts) (TypeParamsRead ts) (Begun (ParamsForm budget apart ts) ts)
        keeps_read = record {
          part = (keeps room apart ts).part;
          last = λ qs us r j may c. read_as ts qs r ((keeps room apart ts).last qs us r j may c);
          stuck = (keeps room apart ts).stuck;
          stuck_separated = (keeps room apart ts).stuck_separated;
        }

        at_close : (x : Spot) (rest : List Word) (y : Spot) (last : List Word) → ws ≡ mark Comma x ∷ rest → rest ≡ mark RBracket y ∷ last → TypeParamsRead ts ps last
        at_close x rest y last e e2 = record {
          spells = subst (λ (v : List (Group TypeTree)). SpellsAs apart v ts last) (sym f.groups_are)
              (one_param (apart && is_length (group_and (f.name ∷ []) f.of groups_end)) f.name f.of ts f.middle ws rest last f.is f.spells (record { spot = x; is = e }) (record { spot = y; is = e2 }));
          good = h.after.facts.good;
          sized = h.after.facts.sized;
        }

-- ---- the readers

module _ (room : ℕ) where
  pub type_params_hold : (ts : List Word) → Holds (TypeParamsRead room false ts) (Begun (TypeParamsForm room false) ts) (type_params room ts)
  unfolding type_params
  type_params_hold ts = bind (first_holds room false ts) (λ ps ws h. more_after room false ts ps ws h tt) (λ r g. g)

  pub type_params_apart_hold : (ts : List Word) → Holds (TypeParamsRead room true ts) (Begun (TypeParamsForm room true) ts) (type_params_apart room ts)
  unfolding type_params_apart
  type_params_apart_hold ts = bind (first_holds room true ts)
      (λ ps ws h. choose (is_length (groups kept ps.groups)) (λ v. and_then (expect Comma v) (λ _. parts Comma RBracket type_params_ending (type_param room) ps)) (more_parts Comma RBracket type_params_ending (type_param room) ps) ws
      (λ e. comma_after room true ts ps ws h (is_first ps ws h.first e))
      (λ e. more_after room true ts ps ws h e))
      (λ r g. g)
    where
      is_first : (ps : TypeParams) (ws : List Word) → (ps.groups ≡ []) ⊎ FirstBound room true ts ps ws → is_length (groups kept ps.groups) ≡ true → FirstBound room true ts ps ws
      is_first ps ws (inl none) e = let e2 : is_length (groups kept []) ≡ true = subst (λ (v : List (Group TypeTree)). is_length (groups kept v) ≡ true) none e in let e3 : false ≡ true = e2 in absurd cc
      is_first ps ws (inr f) e = f

-- the list again
pub frame_type_params_read : (room : ℕ) (apart : Bool) (ts : List Word) (ps : TypeParams) (rest : List Word) → TypeParamsRead room apart ts ps rest → Framed (TypeParamsForm room apart) ts rest
frame_type_params_read room apart ts ps rest h = framed_as (frame_type_params (apart && is_length (groups kept ps.groups)) (groups kept ps.groups) ts rest h.spells) (λ us ws s. record { all = ps.groups; spells = s; good = h.good })
