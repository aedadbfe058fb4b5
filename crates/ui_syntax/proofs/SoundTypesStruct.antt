-- The fields of structs.
use Rattle.std.proofs.Common.{◌≡◌, inl, inr, ℕ, ◌≤◌, true, List, [], ◌∷◌, ◌++◌, None, refl, sym, append_assoc, arith}
use Rattle.std.specs.Prelude.{nat_le}
use Rattle.std.proofs.lemmas.Bool.{leb-true}
use Rattle.ui_base.specs.declared.value.Spot.{Spot}
use Rattle.ui_scan.specs.declared.kind.TokenKind.TheVariants.{RBrace, Comma, Semi}
use Rattle.ui_tree.specs.declared.part.Placed.{Placed}
use Rattle.ui_tree.specs.declared.part.Group.{Group}
use Rattle.ui_tree.specs.Tree.{TypeTree}
use Rattle.ui_tree.specs.View.{groups, kept}
use Rattle.ui_grammar.specs.Word.{Word, ident, mark, Mark, Closes, NamesTail, Names}
use Rattle.ui_grammar.specs.Spells.{Labels, SpellsType}
use Rattle.ui_grammar.specs.Fits.{plain_type, groups_depth, all_named, FitsGroups}
use Rattle.ui_grammar.proofs.Frames.{Spelling, Framed, Then, framed, next, fill_word, fill_names, frame_mark, frame_type}
use Rattle.ui_parse.specs.Reader.{and_then, refuse, first, marked, expect_name, chain, parts}
use Rattle.ui_parse.proofs.Outcomes.{Holds, good, bad, bind, choose, expect_name_holds}
use Rattle.ui_parse.proofs.Steady.{Steady, steady_bind, steady_pure, steady_expect_name}
use Rattle.ui_parse.proofs.TurnLaws.{KeepsParts, parts_holds, chain_holds}
use Rattle.ui_syntax.specs.Cover.{Read}
use Rattle.ui_syntax.specs.Types.{Nested, Listed, add, empty, group, any_end, a_type, add_field, one_name_more, field}
use Rattle.ui_syntax.proofs.ByBudget.{Begun, Stops}
use Rattle.ui_syntax.proofs.Begun.{short_as, short_mark, short_name, Is, begun_as, begun_none, begun_stops, behind, behind_none, before}
use Rattle.ui_syntax.proofs.Runs.{FormOf, Lead, lead_next, lead_same, lead_begun, Run, run_first, run_next, run_end, run_begun}
use Rattle.ui_syntax.proofs.SoundTypesLists.{TypeFits, TypeOk}
use Rattle.ui_syntax.proofs.SoundTypesNamed.{short_fits}
use Rattle.ui_syntax.proofs.SoundTypesGroups.{GroupsTail, AllGroups, groups_of, groups_tail_of, fits_groups_append, groups_depth_append, named_append, AreFit, fit_none, fit_one, fit_append}

abbrev pub FieldsTail : List (Group TypeTree) → Spelling
FieldsTail = GroupsTail Semi RBrace

abbrev pub Fields : List (Group TypeTree) → Spelling
Fields = AllGroups Semi RBrace

-- ---- names

labels_of_names : (ns : List Placed) (ts rest : List Word) → Names ns ts rest → Labels ns ts rest
labels_of_names [] ts rest h = absurd h
labels_of_names (n ∷ ns) ts rest h = h

named_by : (ns : List Placed) (ts rest : List Word) (t : TypeTree) (gs : List (Group TypeTree)) → Names ns ts rest → all_named (groups kept gs) ≡ true → all_named (groups kept (group ns t ∷ gs)) ≡ true
named_by [] ts rest t gs h e = absurd h
named_by (n ∷ ns) ts rest t gs h e = e

abbrev pub NamesRun : List Placed → List Word → List Word → Type 0
NamesRun = Run NamesTail Names

pub first_name : (p : Placed) (ts ws : List Word) → ts ≡ ident p ∷ ws → NamesRun (p ∷ []) ts ws
first_name p ts ws e = run_first NamesTail Names {R = Is (ident p)} p ts ws (framed (fill_word (ident p) ts ws e)) (λ us a k rest s h. (k, s, h))

pub next_name : (ns : List Placed) (x : Spot) (p : Placed) (ts a m ws : List Word) → NamesRun ns ts a → a ≡ mark Comma x ∷ m → m ≡ ident p ∷ ws → NamesRun (ns ++ (p ∷ [])) ts ws
next_name ns x p ts a m ws run e e2 = run_next NamesTail Names {R = Then (Mark Comma) (Is (ident p))} ns p ts a ws run
    (next (frame_mark Comma a m (record { spot = x; is = e })) (framed (fill_word (ident p) m ws e2))) (λ us b k rest s h. (s.0, k, s.1, s.2, h))

names_more_is : (room : ℕ) (inner : Nested) (ns : List Placed) → Steady (one_name_more room inner ns)
names_more_is room inner ns = steady_bind steady_expect_name (λ p. steady_pure (ns ++ (p ∷ [])))

-- ---- one field

-- names with their type, and what follows them
pub record Field : Type 0 where
  pub names : List Placed
  pub of : TypeTree
  pub others : List (Group TypeTree)

abbrev Field_of : Field → Spelling
Field_of x ts rest = (a b : List Word) × Names x.names ts a × SpellsType x.of a b × FieldsTail x.others b rest

module _ (room : ℕ) where
  abbrev pub FieldsOk : List (Group TypeTree) → Type 0
  FieldsOk gs = (all_named (groups kept gs) ≡ true) × AreFit room gs

  pub record FieldsFit (l : Listed (Group TypeTree)) : Type 0 where
    pub named : all_named (groups kept l.items) ≡ true
    pub fits : FitsGroups (groups kept l.items) plain_type
    pub sized : groups_depth (groups kept l.items) ≡ l.depth
    pub shallow : l.depth ≤ room

  all_fit : (l : Listed (Group TypeTree)) → FieldsFit l → AreFit room l.items
  all_fit l f = record { fits = f.fits; shallow = omega (arith, f.sized, f.shallow) }

  module _ (ts : List Word) where
    pub record FieldsRead (l : Listed (Group TypeTree)) (rest : List Word) : Type 0 where
      pub spells : Fields l.items ts rest
      pub fit : FieldsFit l

    -- behind a field
    record FieldsAt (l : Listed (Group TypeTree)) (ws : List Word) : Type 0 where
      run : Run FieldsTail Fields l.items ts ws
      fit : FieldsFit l

    -- before one
    record FieldBefore (l : Listed (Group TypeTree)) (ws : List Word) : Type 0 where
      lead : Lead Field_of Fields (λ x. l.items ++ (group x.names x.of ∷ x.others)) ts ws
      fit : FieldsFit l

    abbrev pub FieldsFault : List Word → Type 0
    FieldsFault rest = Begun (FormOf Fields FieldsOk) ts rest

    at_first : FieldBefore empty ts
    at_first = record {
      lead = record { front = []; parts = refl; again = λ x k rest h. groups_of Semi RBrace x.names x.of x.others k h.0 h.1 rest (labels_of_names x.names k h.0 h.2) h.3 h.4 };
      fit = record { named = refl; fits = tt; sized = refl; shallow = omega arith };
    }

    none_begun : FieldsFault ts
    none_begun = begun_none ts (short_as (short_mark RBrace) (λ us rs m. record { all = []; spells = m; ok = (refl, fit_none room) }))

    separated : (l : Listed (Group TypeTree)) (x : Spot) (a ws : List Word) → FieldsAt l a → a ≡ mark Semi x ∷ ws → FieldBefore l ws
    separated l x a ws j e = record {
      lead = lead_next {S = FieldsTail} {S2 = Field_of} (λ us. l.items ++ us) (λ x. group x.names x.of ∷ x.others) ts a ws j.run (frame_mark Semi a ws (record { spot = x; is = e }))
          (λ x m k rest s h. groups_tail_of Semi RBrace x.names x.of x.others m k h.0 h.1 rest s (labels_of_names x.names k h.0 h.2) h.3 h.4);
      fit = j.fit;
    }

    -- behind a field, or behind its separator, the list may end
    ends : (l : Listed (Group TypeTree)) (ws rest : List Word) → FieldsAt l ws → Begun (Closes Semi RBrace) ws rest → FieldsFault rest
    ends l ws rest j g = run_begun FieldsTail Fields {Ok1 = λ us. FieldsOk us} l.items ts ws rest j.run
        (λ us h. (named_append l.items us j.fit.named h.0, fit_append room l.items us (all_fit l j.fit) h.1))
        (begun_as g (λ us rs h. record { all = []; spells = h; ok = (refl, fit_none room) }))

    field_fault : (l : Listed (Group TypeTree)) (ws rest : List Word) → FieldBefore l ws → 1 ≤ room → Begun (Then (FormOf Names (λ ns. Unit {0})) (TypeFits plain_type room)) ws rest → FieldsFault rest
    field_fault l ws rest j le g = lead_begun {S = Field_of} {Ok1 = λ x. FieldsOk (group x.names x.of ∷ x.others)} (λ x. l.items ++ (group x.names x.of ∷ x.others)) ts ws rest j.lead
        (λ x h. (named_append l.items (group x.names x.of ∷ x.others) j.fit.named h.0, fit_append room l.items (group x.names x.of ∷ x.others) (all_fit l j.fit) h.1))
        (begun_as (before g (short_mark RBrace)) (λ us rs h. let ns = h.1.1 in let t = h.1.2 in record {
          all = record { names = ns.all; of = t.tree; others = [] };
          spells = (h.1.0, h.0, ns.spells, t.spells, inl h.2);
          ok = (named_by ns.all us h.1.0 t.tree [] ns.spells refl, fit_one room ns.all t.tree t.fits t.shallow);
        }))

    names_frame : (ns : List Placed) (ws u : List Word) → NamesRun ns ws u → Framed (FormOf Names (λ ns. Unit {0})) ws u
    names_frame ns ws u run = record { front = run.front; parts = run.parts; again = λ k. record { all = ns ++ []; spells = run.again [] k k refl; ok = tt } }

    names_begun : (ns : List Placed) (x : Spot) (ws a rest : List Word) → NamesRun ns ws a → a ≡ mark Comma x ∷ rest → Begun (FormOf Names (λ ns. Unit {0})) ws rest
    names_begun ns x ws a rest run e = lead_begun {S = NamesTail} {Ok1 = λ us. Unit {0}} (λ us. ns ++ us) ws a rest run (λ us h. h)
        (begun_as (behind_none (frame_mark Comma a rest (record { spot = x; is = e })) short_name) (λ us rs h. record { all = h.2.word ∷ []; spells = (h.0, rs, h.1, h.2.is, refl); ok = tt }))

    added : (l : Listed (Group TypeTree)) (ns : List Placed) (t : Read TypeTree) (ws u rest : List Word) → FieldBefore l ws → NamesRun ns ws u → TypeOk plain_type room u t rest → FieldsAt (add l (group ns t.tree) t.depth) rest
    added l ns t ws u rest j run r =
        let spelled = run_end NamesTail Names ns ws u u run refl in
        let lead = lead_next {S = Field_of} {S2 = λ us. Then (SpellsType t.tree) (FieldsTail us)} (λ x. l.items ++ (group x.names x.of ∷ x.others)) (λ us. record { names = ns; of = t.tree; others = us }) ts ws u j.lead (fill_names_of ns ws u spelled)
        (λ us a k end s h. (k, h.0, s, h.1, h.2)) in
        record {
          run = lead_same (λ us. l.items ++ (group ns t.tree ∷ us)) (λ us. (l.items ++ (group ns t.tree ∷ [])) ++ us) ts rest
              (lead_next {S = λ us. Then (SpellsType t.tree) (FieldsTail us)} {S2 = FieldsTail} (λ us. l.items ++ (group ns t.tree ∷ us)) (λ us. us) ts u rest lead (frame_type t.tree u rest r.spells) (λ us a k end s h. (k, s, h)))
              (λ us. sym (append_assoc l.items (group ns t.tree ∷ []) us));
          fit = record {
            named = named_append l.items (group ns t.tree ∷ []) j.fit.named (named_by ns ws u t.tree [] spelled refl);
            fits = fits_groups_append l.items (group ns t.tree ∷ []) plain_type j.fit.fits (r.fits, tt);
            sized = omega (arith, groups_depth_append l.items (group ns t.tree ∷ []), j.fit.sized, r.sized);
            shallow = omega (arith, j.fit.shallow, r.shallow);
          };
        }
      where
        fill_names_of : (ns : List Placed) (ws u : List Word) → Names ns ws u → Framed (Names ns) ws u
        fill_names_of ns ws u h = framed (fill_names ns ws u h)

    module _ (inner : Nested) (type_sound : (us : List Word) → Holds (TypeOk plain_type room us) (Stops (TypeFits plain_type room) us) (a_type room inner us)) (field_is : (l : Listed (Group TypeTree)) → Steady (field room inner l)) where
      behind_names : (l : Listed (Group TypeTree)) (ns : List Placed) (ws u : List Word) → FieldBefore l ws → 1 ≤ room → NamesRun ns ws u → Holds FieldsAt FieldsFault (add_field room inner l ns u)
      behind_names l ns ws u j le run = bind (type_sound u) (λ t rest r. good (added l ns t ws u rest j run r))
          (λ rest st. field_fault l ws rest j le (behind (names_frame ns ws u run) (begun_stops (short_fits room le) st)))

      all_names : (l : Listed (Group TypeTree)) (p : Placed) (ws u : List Word) → FieldBefore l ws → 1 ≤ room → ws ≡ ident p ∷ u → Holds (λ ns v. NamesRun ns ws v × (first (marked Comma) v ≡ None)) FieldsFault (chain Comma (one_name_more room inner) (p ∷ []) u)
      all_names l p ws u j le e = chain_holds Comma (one_name_more room inner) (names_more_is room inner) (λ ns v. NamesRun ns ws v) FieldsFault
          (λ ns x v m run h. bind (expect_name_holds {Q = λ q r. m ≡ ident q ∷ r} {F = FieldsFault} m (λ q r g. g) (λ _. field_fault l ws m j le (before (names_begun ns x ws v m run h) (short_fits room le))))
          (λ q r g. good (next_name ns x q ws v m r run h g)) (λ r g. g))
          (p ∷ []) u (first_name p ws u e)

      field_holds : (l : Listed (Group TypeTree)) (ws : List Word) → FieldBefore l ws → FieldsFault ws → Holds FieldsAt FieldsFault (field room inner l ws)
      unfolding field
      field_holds l ws j stuck = choose (nat_le 1 room) (λ v. and_then (expect_name v) (λ p. λ v2. and_then (chain Comma (one_name_more room inner) (p ∷ []) v2) (add_field room inner l))) refuse ws
          (λ le. bind (expect_name_holds {Q = λ q r. ws ≡ ident q ∷ r} {F = FieldsFault} ws (λ q r g. g) (λ _. stuck))
          (λ p u e. bind (all_names l p ws u j (leb-true _ _ le) e) (λ ns v h. behind_names l ns ws v j (leb-true _ _ le) h.0) (λ r g. g))
          (λ r g. g))
          (λ _. bad stuck)

      behind_separator : (x : Spot) (ws rest : List Word) → ws ≡ mark Semi x ∷ rest → Begun (Closes Semi RBrace) ws rest
      behind_separator x ws rest e = begun_as (behind_none (frame_mark Semi ws rest (record { spot = x; is = e })) (short_mark RBrace)) (λ us rs h. inr h)

      keeps : KeepsParts Semi RBrace any_end (field room inner) field_is FieldsAt FieldsRead FieldsFault
      keeps = record {
        part = λ l x ws rest j must e. field_holds l rest (separated l x ws rest j e) (ends l ws rest j (behind_separator x ws rest e));
        last = λ l ws rest j may c. record { spells = run_end FieldsTail Fields l.items ts ws rest j.run c; fit = j.fit };
        stuck = λ l ws j. ends l ws ws j (begun_none ws (short_as (short_mark RBrace) (λ us rs m. inl m)));
        stuck_separated = λ l x ws rest j must e. absurd cc;
      }

      pub fields_holds : Holds FieldsRead FieldsFault (parts Semi RBrace any_end (field room inner) empty ts)
      fields_holds = parts_holds Semi RBrace any_end (field room inner) field_is FieldsAt FieldsRead FieldsFault keeps empty ts
          (λ _. field_holds empty ts at_first none_begun)
          (λ x rest may e. record { spells = record { spot = x; is = e }; fit = at_first.fit })
