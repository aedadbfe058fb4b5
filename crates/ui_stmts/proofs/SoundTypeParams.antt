-- Type parameters as they are read: what was read up to a place, and where a list of them ends or stops.
use Rattle.std.proofs.Common.{◌≡◌, inl, ℕ, ◌≤◌, Bool, true, false, List, [], ◌∷◌, ◌++◌, Some, None, refl, sym, ap, subst, ◌∙◌, append_assoc, arith}
use Rattle.std.proofs.lemmas.List.{append-nil}
use Rattle.ui_base.specs.declared.value.Spot.{Spot}
use Rattle.ui_scan.specs.declared.kind.TokenKind.TheVariants.{RBracket, Comma}
use Rattle.ui_tree.specs.declared.part.Placed.{Placed}
use Rattle.ui_tree.specs.declared.part.Group.{Group}
use Rattle.ui_tree.specs.Tree.{TypeTree, named, union, no_args, types_end, type_and}
use Rattle.ui_tree.specs.View.{groups, kept}
use Rattle.ui_grammar.specs.Word.{Word, ident, mark, Mark, Named, Closes}
use Rattle.ui_grammar.specs.Both.{bound_continues}
use Rattle.ui_grammar.specs.Spells.{SpellsType}
use Rattle.ui_grammar.specs.Fits.{bound, type_depth, groups_depth, all_named, FitsType, FitsGroups}
use Rattle.ui_grammar.proofs.Frames.{Spelling, Then, framed, next, fill_word, frame_mark, frame_type}
use Rattle.ui_syntax.specs.Types.{group, is_empty}
use Rattle.ui_syntax.specs.Cover.{Read}
use Rattle.ui_syntax.proofs.ByBudget.{Begun}
use Rattle.ui_syntax.proofs.Begun.{Short, short_as, short_mark, short_then, x_name, no_spot, AName, short_name, Is, begun_as, begun_none}
use Rattle.ui_syntax.proofs.Runs.{FormOf, Lead, lead_next, lead_same, lead_whole, lead_begun}
use Rattle.ui_syntax.proofs.SoundTypesLists.{TypeFits}
use Rattle.ui_syntax.proofs.SoundTypesGroups.{fits_groups_append, groups_depth_append, named_append}
use Rattle.ui_stmts.specs.Decls.{TypeParams, add_bound}
use Rattle.ui_stmts.proofs.TypeParamWords.{Tail, Whole, Goes, Starts, starts_goes, goes_starts, bound_starts, Something, Apart, grown_apart, plain_apart}

-- ---- what was read

abbrev pub grown : TypeParams → Placed → TypeTree → List (Group TypeTree)
grown ps p t = ps.groups ++ (group (ps.waiting ++ (p ∷ [])) t ∷ [])

module _ (b : ℕ) where
  -- parameters that fit within the depth
  pub record GoodParams (gs : List (Group TypeTree)) : Type 0 where
    pub named : all_named (groups kept gs) ≡ true
    pub fits : FitsGroups (groups kept gs) bound
    pub shallow : groups_depth (groups kept gs) ≤ b

  pub good_none : GoodParams []
  good_none = record { named = refl; fits = tt; shallow = omega arith }

  pub good_then : (us vs : List (Group TypeTree)) → GoodParams us → GoodParams vs → GoodParams (us ++ vs)
  good_then us vs h g = record {
    named = named_append us vs h.named g.named;
    fits = fits_groups_append us vs bound h.fits g.fits;
    shallow = omega (arith, groups_depth_append us vs, h.shallow, g.shallow);
  }

  all_filled : (ws : List Placed) (p : Placed) (ns : List Placed) (t : TypeTree) → all_named (groups kept (group (ws ++ (p ∷ ns)) t ∷ [])) ≡ true
  all_filled [] p ns t = refl
  all_filled (w ∷ ws) p ns t = refl

  pub good_group : (ws : List Placed) (p : Placed) (ns : List Placed) (t : TypeTree) → FitsType t bound → type_depth t ≤ b → GoodParams (group (ws ++ (p ∷ ns)) t ∷ [])
  good_group ws p ns t h le = record { named = all_filled ws p ns t; fits = (h, tt); shallow = omega (arith, le) }

  pub record Facts (ps : TypeParams) : Type 0 where
    pub good : GoodParams ps.groups
    pub sized : groups_depth (groups kept ps.groups) ≡ ps.depth

  module _ (apart : Bool) (ts : List Word) where
    -- before a part
    pub record Before (ps : TypeParams) (ws : List Word) : Type 0 where
      pub run : Lead (Starts ps.waiting) Whole (λ us. ps.groups ++ us) ts ws
      pub facts : Facts ps
      pub some : Something ps.groups ps.waiting

    -- behind one
    pub record After (ps : TypeParams) (ws : List Word) : Type 0 where
      pub run : Lead (Goes ps.waiting) Whole (λ us. ps.groups ++ us) ts ws
      pub facts : Facts ps
      pub some : Something ps.groups ps.waiting
      pub apart_is : is_empty ps.waiting ≡ true → Apart apart ps.groups

    pub separated : (ps : TypeParams) (x : Spot) (a ws : List Word) → After ps a → a ≡ mark Comma x ∷ ws → Before ps ws
    separated ps x a ws j e = record {
      run = lead_next {S = Goes ps.waiting} {S2 = Starts ps.waiting} {R = Mark Comma} (λ us. ps.groups ++ us) (λ us. us) ts a ws j.run (frame_mark Comma a ws (record { spot = x; is = e })) (λ us m k rest h g. starts_goes ps.waiting us m k rest h g);
      facts = j.facts;
      some = j.some;
    }

    waits : (ws : List Placed) (p : Placed) → is_empty (ws ++ (p ∷ [])) ≡ false
    waits [] p = refl
    waits (w ∷ ws) p = refl

    some_name : (gs : List (Group TypeTree)) (ws : List Placed) (p : Placed) → Something gs (ws ++ (p ∷ []))
    some_name [] [] p = refl
    some_name [] (w ∷ ws) p = refl
    some_name (g ∷ gs) ws p = tt

    some_group : (gs : List (Group TypeTree)) (g : Group TypeTree) (ws : List Placed) → Something (gs ++ (g ∷ [])) ws
    some_group [] g ws = tt
    some_group (f ∷ gs) g ws = tt

    -- a name alone
    pub name_added : (ps : TypeParams) (p : Placed) (a ws : List Word) → Lead (Starts ps.waiting) Whole (λ us. ps.groups ++ us) ts a → Facts ps → Named p a ws → After (add_bound ps p None) ws
    name_added ps p a ws run facts e = record {
      run = lead_next {S = Starts ps.waiting} {S2 = Goes (ps.waiting ++ (p ∷ []))} {R = Is (ident p)} (λ us. ps.groups ++ us) (λ us. us) ts a ws run (framed (fill_word (ident p) a ws e)) (λ us m k rest h g. goes_starts ps.waiting p us m k rest h g);
      facts = record { good = facts.good; sized = facts.sized };
      some = some_name ps.groups ps.waiting p;
      apart_is = λ none. let some : true ≡ false = sym none ∙ waits ps.waiting p in absurd cc;
    }

    -- a name with its bound
    pub bound_added : (ps : TypeParams) (p : Placed) (t : Read TypeTree) (a m ws : List Word) → Lead (Starts ps.waiting) Whole (λ us. ps.groups ++ us) ts a → Facts ps → Named p a m → SpellsType t.tree m ws → FitsType t.tree bound → type_depth t.tree ≡ t.depth → t.depth ≤ b
        → Apart apart (grown ps p t.tree) → After (add_bound ps p (Some t)) ws
    bound_added ps p t a m ws run facts e spells fits sized shallow apart_is = record {
      run = lead_same {S = Tail} {T = Whole} (λ us. ps.groups ++ (group (ps.waiting ++ (p ∷ [])) t.tree ∷ us)) (λ us. grown ps p t.tree ++ us) ts ws
          (lead_next {S = Starts ps.waiting} {S2 = Tail} {R = Then (Is (ident p)) (SpellsType t.tree)} (λ us. ps.groups ++ us) (λ us. group (ps.waiting ++ (p ∷ [])) t.tree ∷ us) ts a ws run
          (next (framed (fill_word (ident p) a m e)) (frame_type t.tree m ws spells)) (λ us c k rest h g. bound_starts ps.waiting p t.tree us c k rest h g))
          (λ us. sym (append_assoc ps.groups (group (ps.waiting ++ (p ∷ [])) t.tree ∷ []) us));
      facts = record {
        good = good_then ps.groups (group (ps.waiting ++ (p ∷ [])) t.tree ∷ []) facts.good (good_group ps.waiting p [] t.tree fits (omega (arith, sized, shallow)));
        sized = omega (arith, groups_depth_append ps.groups (group (ps.waiting ++ (p ∷ [])) t.tree ∷ []), facts.sized, sized);
      };
      some = some_group ps.groups (group (ps.waiting ++ (p ∷ [])) t.tree) [];
      apart_is = λ _. apart_is;
    }

    -- ---- the end, and faults

    -- a whole list
    pub record AreParams (gs : List (Group TypeTree)) : Type 0 where
      pub good : GoodParams gs
      pub some : Something gs []
      pub apart_is : Apart apart gs

    abbrev pub ParamsForm : Spelling
    ParamsForm = FormOf Whole AreParams

    pub record ParamsRead (ps : TypeParams) (rest : List Word) : Type 0 where
      pub spells : Whole ps.groups ts rest
      pub facts : Facts ps
      pub some : Something ps.groups []
      pub apart_is : Apart apart ps.groups

    empty_is : (ws : List Placed) → is_empty ws ≡ true → ws ≡ []
    empty_is [] e = refl
    empty_is (w ∷ ws) e = absurd cc

    pub params_end : (ps : TypeParams) (ws rest : List Word) → After ps ws → is_empty ps.waiting ≡ true → Closes Comma RBracket ws rest → ParamsRead ps rest
    params_end ps ws rest j may c = record {
      spells = subst (λ (v : List (Group TypeTree)). Whole v ts rest) (append-nil ps.groups)
          (lead_whole {S = Goes []} {T = Whole} (λ us. ps.groups ++ us) ts ws rest [] (subst (λ (v : List Placed). Lead (Goes v) Whole (λ us. ps.groups ++ us) ts ws) (empty_is ps.waiting may) j.run) c);
      facts = j.facts;
      some = subst (Something ps.groups) (empty_is ps.waiting may) j.some;
      apart_is = j.apart_is may;
    }

    -- a group with these names first
    record Grows (waiting : List Placed) (us : List (Group TypeTree)) : Type 0 where
      name : Placed
      names : List Placed
      of : TypeTree
      is : us ≡ group (waiting ++ (name ∷ names)) of ∷ []
      fits : FitsType of bound
      shallow : type_depth of ≤ b

    grows_good : (gs : List (Group TypeTree)) (waiting : List Placed) (us : List (Group TypeTree)) → GoodParams gs → Something gs waiting → Grows waiting us → AreParams (gs ++ us)
    grows_good gs waiting us good some g = subst (λ (v : List (Group TypeTree)). AreParams (gs ++ v)) (sym g.is) (record {
      good = good_then gs (group (waiting ++ (g.name ∷ g.names)) g.of ∷ []) good (good_group waiting g.name g.names g.of g.fits g.shallow);
      some = some_group gs (group (waiting ++ (g.name ∷ g.names)) g.of) [];
      apart_is = grown_apart apart gs waiting g.name g.names g.of [] some;
    })

    -- a bound is begun
    abbrev pub OneMore : Spelling
    OneMore = Then AName (Then (TypeFits bound b) (Mark RBracket))

    one_more_form : (waiting : List Placed) (us ws : List Word) → OneMore us ws → FormOf (Starts waiting) (Grows waiting) us ws
    one_more_form waiting us ws (m, n, (k, t, close)) = record {
      all = group (waiting ++ (n.word ∷ [])) t.tree ∷ [];
      spells = (n.word, [], m, k, refl, (m, n.is, refl), t.spells, inl close);
      ok = record { name = n.word; names = []; of = t.tree; is = refl; fits = t.fits; shallow = t.shallow };
    }

    pub before_fault : (ps : TypeParams) (ws rest : List Word) → Before ps ws → Begun OneMore ws rest → Begun ParamsForm ts rest
    before_fault ps ws rest j g = lead_begun {S = Starts ps.waiting} {T = Whole} {Ok1 = Grows ps.waiting} {Ok2 = AreParams} (λ us. ps.groups ++ us) ts ws rest j.run (λ us h. grows_good ps.groups ps.waiting us j.facts.good j.some h)
        (begun_as g (one_more_form ps.waiting))

    -- a bound's own words
    pub short_bound : 1 ≤ b → Short (TypeFits bound b)
    short_bound le = record {
      words = ident x_name ∷ [];
      spells = λ k. record { tree = union no_spot (type_and (named x_name None no_args) types_end); spells = (refl, (k, (k, k, refl, refl, refl), refl)); fits = (refl, ((refl, tt), tt)); shallow = le };
    }

    pub short_more : 1 ≤ b → Short OneMore
    short_more le = short_then short_name (short_then (short_bound le) (short_mark RBracket))

    -- a bound that is no length's
    pub record PlainBound (us rest : List Word) : Type 0 where
      pub tree : TypeTree
      pub spells : SpellsType tree us rest
      pub fits : FitsType tree bound
      pub shallow : type_depth tree ≤ b
      pub no_length : bound_continues tree ≡ false

    short_plain : 1 ≤ b → Short PlainBound
    short_plain le = record {
      words = ident x_name ∷ [];
      spells = λ k. record { tree = union no_spot (type_and (named x_name None no_args) types_end); spells = (refl, (k, (k, k, refl, refl, refl), refl)); fits = (refl, ((refl, tt), tt)); shallow = le; no_length = refl };
    }

    -- the names that wait get it
    record AreWaiting (w : Placed) (ws : List Placed) (us : List (Group TypeTree)) : Type 0 where
      of : TypeTree
      is : us ≡ group (w ∷ ws) of ∷ []
      fits : FitsType of bound
      shallow : type_depth of ≤ b
      no_length : bound_continues of ≡ false

    waiting_good : (gs : List (Group TypeTree)) (w : Placed) (ws : List Placed) (us : List (Group TypeTree)) → GoodParams gs → AreWaiting w ws us → AreParams (gs ++ us)
    waiting_good gs w ws us good g = subst (λ (v : List (Group TypeTree)). AreParams (gs ++ v)) (sym g.is) (record {
      good = good_then gs (group (w ∷ ws) g.of ∷ []) good (good_group [] w ws g.of g.fits g.shallow);
      some = some_group gs (group (w ∷ ws) g.of) [];
      apart_is = plain_apart apart gs w ws g.of g.no_length;
    })

    waiting_form : (w : Placed) (ws : List Placed) (us rs : List Word) → Then PlainBound (Mark RBracket) us rs → FormOf (Goes (w ∷ ws)) (AreWaiting w ws) us rs
    waiting_form w ws us rs (k, t, close) = record {
      all = group (w ∷ ws) t.tree ∷ [];
      spells = ([], us, k, sym (append-nil (w ∷ ws)), refl, t.spells, inl close);
      ok = record { of = t.tree; is = refl; fits = t.fits; shallow = t.shallow; no_length = t.no_length };
    }

    -- no separator and no end comes
    pub after_stuck : (ps : TypeParams) (ws : List Word) → 1 ≤ b → After ps ws → Begun ParamsForm ts ws
    after_stuck ps ws le j = by_waiting ps.waiting refl j.run
      where
        nothing_more : [] ≡ ps.waiting → (us : List (Group TypeTree)) → us ≡ [] → AreParams (ps.groups ++ us)
        nothing_more same us e = subst AreParams (sym (append-nil ps.groups) ∙ ap (λ (v : List (Group TypeTree)). ps.groups ++ v) (sym e))
            (record { good = j.facts.good; some = subst (Something ps.groups) (sym same) j.some; apart_is = j.apart_is (ap is_empty (sym same)) })

        by_waiting : (v : List Placed) → v ≡ ps.waiting → Lead (Goes v) Whole (λ us. ps.groups ++ us) ts ws → Begun ParamsForm ts ws
        by_waiting [] same run = lead_begun {S = Goes []} {T = Whole} {Ok1 = λ us. us ≡ []} {Ok2 = AreParams} (λ us. ps.groups ++ us) ts ws ws run (nothing_more same)
            (begun_none ws (short_as (short_mark RBracket) (λ us rs m. record { all = []; spells = inl m; ok = refl })))
        by_waiting (w ∷ v) same run = lead_begun {S = Goes (w ∷ v)} {T = Whole} {Ok1 = AreWaiting w v} {Ok2 = AreParams} (λ us. ps.groups ++ us) ts ws ws run
            (λ us h. waiting_good ps.groups w v us j.facts.good h)
            (begun_none ws (short_as (short_then (short_plain le) (short_mark RBracket)) (waiting_form w v)))
