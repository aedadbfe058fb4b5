-- Lists of types, and types in a chain, as they are read.
use Rattle.std.proofs.Common.{◌≡◌, inl, inr, ℕ, max, ◌≤◌, List, [], ◌∷◌, ◌++◌, refl, subst, arith}
use Rattle.ui_base.specs.declared.value.Spot.{Spot}
use Rattle.ui_scan.specs.declared.kind.TokenKind.{TokenKind}
use Rattle.ui_tree.specs.Tree.{TypeTree}
use Rattle.ui_tree.specs.View.{types}
use Rattle.ui_grammar.specs.Word.{Word, mark, Mark}
use Rattle.ui_grammar.specs.Spells.{SpellsType, SpellsTypes, SpellsTypesTail}
use Rattle.ui_grammar.specs.Fits.{TypePlace, type_depth, types_depth, FitsType, FitsTypes}
use Rattle.ui_grammar.proofs.Frames.{Spelling, Then, next, frame_mark, frame_type}
use Rattle.ui_parse.specs.Reader.{Reader, parts, more_parts}
use Rattle.ui_parse.proofs.Outcomes.{Holds, good, bind}
use Rattle.ui_parse.proofs.Steady.{Steady, steady_bind, steady_pure}
use Rattle.ui_parse.proofs.TurnLaws.{KeepsParts, parts_holds, more_parts_holds}
use Rattle.ui_syntax.specs.Cover.{Read}
use Rattle.ui_syntax.specs.Types.{Listed, add, only, empty, any_end, one_more}
use Rattle.ui_syntax.proofs.ByBudget.{Begun, Stops}
use Rattle.ui_syntax.proofs.Begun.{short_as, short_mark, begun_as, begun_none, behind, behind_none, before}
use Rattle.ui_syntax.proofs.Runs.{FormOf, Run, run_first, run_next, run_end, run_begun}

-- ---- one type

-- a type that fits in the place, within the depth
pub record TypeFits (q : TypePlace) (b : ℕ) (ts rest : List Word) : Type 0 where
  pub tree : TypeTree
  pub spells : SpellsType tree ts rest
  pub fits : FitsType tree q
  pub shallow : type_depth tree ≤ b

pub record TypeOk (q : TypePlace) (b : ℕ) (ts : List Word) (x : Read TypeTree) (rest : List Word) : Type 0 where
  pub spells : SpellsType x.tree ts rest
  pub fits : FitsType x.tree q
  pub sized : type_depth x.tree ≡ x.depth
  pub shallow : x.depth ≤ b

-- ---- lists of them

pub fits_append : (us vs : List TypeTree) (q : TypePlace) → FitsTypes (types us) q → FitsTypes (types vs) q → FitsTypes (types (us ++ vs)) q
fits_append [] vs q h g = g
fits_append (u ∷ us) vs q h g = (h.0, fits_append us vs q h.1 g)

pub depth_append : (us vs : List TypeTree) → types_depth (types (us ++ vs)) ≡ max (types_depth (types us)) (types_depth (types vs))
depth_append [] vs = omega arith
depth_append (u ∷ us) vs = omega (arith, depth_append us vs)

abbrev pub GoodTypes : TypePlace → ℕ → List TypeTree → Type 0
GoodTypes q b us = FitsTypes (types us) q × types_depth (types us) ≤ b

pub good_append : (us vs : List TypeTree) (q : TypePlace) (b : ℕ) → GoodTypes q b us → GoodTypes q b vs → GoodTypes q b (us ++ vs)
good_append us vs q b h g = (fits_append us vs q h.0 g.0, omega (arith, depth_append us vs, h.1, g.1))

pub good_one : (t : TypeTree) (q : TypePlace) (b : ℕ) → FitsType t q → type_depth t ≤ b → GoodTypes q b (t ∷ [])
good_one t q b h le = ((h, tt), omega arith)

-- what was read of a list
pub record TypesOk (q : TypePlace) (b : ℕ) (l : Listed TypeTree) : Type 0 where
  pub fits : FitsTypes (types l.items) q
  pub sized : types_depth (types l.items) ≡ l.depth
  pub shallow : l.depth ≤ b

pub ok_good : (q : TypePlace) (b : ℕ) (l : Listed TypeTree) → TypesOk q b l → GoodTypes q b l.items
ok_good q b l h = (h.fits, omega (arith, h.sized, h.shallow))

pub ok_only : (q : TypePlace) (b : ℕ) (t : TypeTree) (k : ℕ) → FitsType t q → type_depth t ≡ k → k ≤ b → TypesOk q b (only t k)
ok_only q b t k h e le = record { fits = (h, tt); sized = omega (arith, e); shallow = le }

pub ok_add : (q : TypePlace) (b : ℕ) (l : Listed TypeTree) (t : TypeTree) (k : ℕ) → TypesOk q b l → FitsType t q → type_depth t ≡ k → k ≤ b → TypesOk q b (add l t k)
ok_add q b l t k h fits e le = record { fits = fits_append l.items (t ∷ []) q h.fits (fits, tt); sized = omega (arith, depth_append l.items (t ∷ []), h.sized, e); shallow = omega (arith, h.shallow) }

pub ok_empty : (q : TypePlace) (b : ℕ) → TypesOk q b empty
ok_empty q b = record { fits = tt; sized = refl; shallow = omega arith }

-- ---- lists with a separator and a closing mark

module _ (separator close : TokenKind) where
  abbrev pub TypesTail : List TypeTree → Spelling
  TypesTail us = SpellsTypesTail separator close (types us)

  abbrev pub AllTypes : List TypeTree → Spelling
  AllTypes us = SpellsTypes separator close (types us)

  closed_at_once : (us ws : List Word) → Mark close us ws → TypesTail [] us ws
  closed_at_once us ws m = inl m

  closed_behind : (us ws : List Word) → Then (Mark separator) (Mark close) us ws → TypesTail [] us ws
  closed_behind us ws h = inr h

  module _ (q : TypePlace) (b : ℕ) where
    -- a tail of no type, or of one
    pub tail_none : (ws : List Word) → Begun (FormOf TypesTail (GoodTypes q b)) ws ws
    tail_none ws = begun_none ws (short_as (short_mark close) (λ us rs m. record { all = []; spells = inl m; ok = (tt, omega arith) }))

    pub tail_separated : (x : Spot) (ws rest : List Word) → ws ≡ mark separator x ∷ rest → Begun (FormOf TypesTail (GoodTypes q b)) ws rest
    tail_separated x ws rest e = begun_as (behind_none (frame_mark separator ws rest (record { spot = x; is = e })) (short_mark close)) (λ us rs h. record { all = []; spells = inr h; ok = (tt, omega arith) })

    pub tail_begun : (x : Spot) (ws rest last : List Word) → ws ≡ mark separator x ∷ rest → Begun (TypeFits q b) rest last → Begun (FormOf TypesTail (GoodTypes q b)) ws last
    tail_begun x ws rest last e g = begun_as (behind (frame_mark separator ws rest (record { spot = x; is = e })) (before g (short_mark close)))
        (λ us rs h. let t = h.2.1 in record { all = t.tree ∷ []; spells = (h.0, h.2.0, h.1, t.spells, inl h.2.2); ok = good_one t.tree q b t.fits t.shallow })

    module _ (Whole : List TypeTree → Spelling) (ts : List Word) where
      -- behind a part
      pub record TypesAt (l : Listed TypeTree) (ws : List Word) : Type 0 where
        pub run : Run TypesTail Whole l.items ts ws
        pub ok : TypesOk q b l

      pub record TypesRead (l : Listed TypeTree) (rest : List Word) : Type 0 where
        pub spells : Whole l.items ts rest
        pub ok : TypesOk q b l

      abbrev pub TypesFault : List Word → Type 0
      TypesFault rest = Begun (FormOf Whole (GoodTypes q b)) ts rest

      from_run : (l : Listed TypeTree) (ws rest : List Word) → TypesAt l ws → Begun (FormOf TypesTail (GoodTypes q b)) ws rest → TypesFault rest
      from_run l ws rest j g = run_begun TypesTail Whole l.items ts ws rest j.run (λ us h. good_append l.items us q b (ok_good q b l j.ok) h) g

      next_stops : (l : Listed TypeTree) (x : Spot) (ws rest last : List Word) → TypesAt l ws → ws ≡ mark separator x ∷ rest → Stops (TypeFits q b) rest last → TypesFault last
      next_stops l x ws rest last j e (inl same) = from_run l ws last j (subst (λ (v : List Word). Begun (FormOf TypesTail (GoodTypes q b)) ws v) same (tail_separated x ws rest e))
      next_stops l x ws rest last j e (inr g) = from_run l ws last j (tail_begun x ws rest last e g)

      next_read : (l : Listed TypeTree) (x : Spot) (ws rest : List Word) (t : Read TypeTree) (last : List Word) → TypesAt l ws → ws ≡ mark separator x ∷ rest → TypeOk q b rest t last → TypesAt (add l t.tree t.depth) last
      next_read l x ws rest t last j e r = record {
        run = run_next TypesTail Whole l.items t.tree ts ws last j.run (next (frame_mark separator ws rest (record { spot = x; is = e })) (frame_type t.tree rest last r.spells)) (λ us a k end h g. (h.0, k, h.1, h.2, g));
        ok = ok_add q b l t.tree t.depth j.ok r.fits r.sized r.shallow;
      }

      module _ (type : Reader (Read TypeTree)) (type_is : Steady type) (type_sound : (ws : List Word) → Holds (TypeOk q b ws) (Stops (TypeFits q b) ws) (type ws)) where
        pub more_is : (l : Listed TypeTree) → Steady (one_more type l)
        more_is l = steady_bind type_is (λ t. steady_pure (add l t.tree t.depth))

        keeps : KeepsParts separator close any_end (one_more type) more_is TypesAt TypesRead TypesFault
        keeps = record {
          part = λ l x ws rest j must e. bind (type_sound rest) (λ t last r. good (next_read l x ws rest t last j e r)) (λ last s. next_stops l x ws rest last j e s);
          last = λ l ws rest j may c. record { spells = run_end TypesTail Whole l.items ts ws rest j.run c; ok = j.ok };
          stuck = λ l ws j. from_run l ws ws j (tail_none ws);
          stuck_separated = λ l x ws rest j must e. from_run l ws rest j (tail_separated x ws rest e);
        }

        pub more_types_holds : (l : Listed TypeTree) (ws : List Word) → TypesAt l ws → Holds TypesRead TypesFault (more_parts separator close any_end (one_more type) l ws)
        more_types_holds l ws j = more_parts_holds separator close any_end (one_more type) more_is TypesAt TypesRead TypesFault keeps l ws j

        -- behind a separator, where the list may end too
        pub types_behind_holds : (l : Listed TypeTree) (x : Spot) (ws rest : List Word) → TypesAt l ws → ws ≡ mark separator x ∷ rest → Holds TypesRead TypesFault (parts separator close any_end (one_more type) l rest)
        types_behind_holds l x ws rest j e = parts_holds separator close any_end (one_more type) more_is TypesAt TypesRead TypesFault keeps l rest
            (λ _. keeps.part l x ws rest j refl e)
            (λ y last may e2. record { spells = run_end TypesTail Whole l.items ts ws last j.run (inr (rest, record { spot = x; is = e }, record { spot = y; is = e2 })); ok = j.ok })

  -- a whole list, which may be empty
  module _ (q : TypePlace) (b : ℕ) (type : Reader (Read TypeTree)) (type_is : Steady type) (type_sound : (ws : List Word) → Holds (TypeOk q b ws) (Stops (TypeFits q b) ws) (type ws)) where
    first_type : (ts : List Word) (t : Read TypeTree) (ws : List Word) → TypeOk q b ts t ws → TypesAt q b AllTypes ts (add empty t.tree t.depth) ws
    first_type ts t ws r = record {
      run = run_first TypesTail AllTypes t.tree ts ws (frame_type t.tree ts ws r.spells) (λ us a k rest h g. (k, h, g));
      ok = ok_add q b empty t.tree t.depth (ok_empty q b) r.fits r.sized r.shallow;
    }

    no_types : (ts : List Word) → Begun (FormOf AllTypes (GoodTypes q b)) ts ts
    no_types ts = begun_none ts (short_as (short_mark close) (λ us rs m. record { all = []; spells = m; ok = (tt, omega arith) }))

    one_type : (ts rest : List Word) → Stops (TypeFits q b) ts rest → Begun (FormOf AllTypes (GoodTypes q b)) ts rest
    one_type ts rest (inl e) = subst (λ (v : List Word). Begun (FormOf AllTypes (GoodTypes q b)) ts v) e (no_types ts)
    one_type ts rest (inr g) = begun_as (before g (short_mark close)) (λ us rs h. let t = h.1 in record { all = t.tree ∷ []; spells = (h.0, t.spells, inl h.2); ok = good_one t.tree q b t.fits t.shallow })

    pub all_types_holds : (ts : List Word) → Holds (TypesRead q b AllTypes ts) (TypesFault q b AllTypes ts) (parts separator close any_end (one_more type) empty ts)
    all_types_holds ts = parts_holds separator close any_end (one_more type) (more_is q b AllTypes ts type type_is type_sound) (TypesAt q b AllTypes ts) (TypesRead q b AllTypes ts) (TypesFault q b AllTypes ts) (keeps q b AllTypes ts type type_is type_sound) empty ts
        (λ _. bind (type_sound ts) (λ t ws r. good (first_type ts t ws r)) (λ rest s. one_type ts rest s))
        (λ x rest may e. record { spells = record { spot = x; is = e }; ok = ok_empty q b })
