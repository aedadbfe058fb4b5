-- Parameters are read, with names or without.
use Rattle.std.proofs.Common.{◌≡◌, ℕ, ◌≤◌, max, Bool, true, false, ◌||◌, List, [], ◌∷◌, None, Ok, refl, sym, ap, subst, ◌∙◌, arith}
use Rattle.std.proofs.lemmas.List.{append-nil}
use Rattle.ui_scan.specs.declared.kind.TokenKind.TheVariants.{RParen, Comma}
use Rattle.ui_tree.specs.declared.part.Placed.{Placed}
use Rattle.ui_tree.specs.declared.part.Group.{Group}
use Rattle.ui_tree.specs.Tree.{TypeTree, named, parenthesized, pointer, slice, array, counted, mapping, func, listed, struct, interface, method, union, tilde, Groups, groups_end, group_and}
use Rattle.ui_grammar.specs.Word.{Word}
use Rattle.ui_grammar.specs.Spells.{SpellsType, SpellsGroups, SpellsGroupsTail}
use Rattle.ui_grammar.specs.Fits.{plain_type, all_named, all_bare, type_depth, groups_depth, FitsType, FitsGroups}
use Rattle.ui_parse.specs.Reader.{Outcome, first, named as a_name}
use Rattle.ui_parse.proofs.Outcomes.{take_other}
use Rattle.ui_parse.proofs.TurnLaws.{parts_close, more_ends}
use Rattle.ui_syntax.specs.declared.site.Style.{Style}
use Rattle.ui_syntax.specs.declared.site.Style.TheVariants.{Open, Bare, Named}
use Rattle.ui_syntax.specs.Types.{Nested, Listed, group, Params, no_params, all_params, is_named, params_ending, param_by, param, params}
use Rattle.ui_syntax.proofs.Quiet.{Stop}
use Rattle.ui_syntax.proofs.Places.{type_positive}
use Rattle.ui_syntax.proofs.CompleteTypesBase.{not_type_first, Below, group_list}
use Rattle.ui_syntax.proofs.CompleteTypesFields.{with_groups, with_none, with_one}
use Rattle.ui_syntax.proofs.SteadyTypes.{steady_param}
use Rattle.ui_syntax.proofs.CompleteTypesNamed.{all_typed, all_parts, further_parts, turn, comma_turn, params_stop, named_params_read}
use Rattle.ui_syntax.proofs.CompleteTypesBare.{BareRead, bare_at, bare_param_read, open_bare}

module _ (room low : ℕ) (inner : Nested) (has : Below room low inner) where
  -- ---- parameters without names

  without_name : (ps : Params) (t : TypeTree) (ts rest : List Word) → SpellsType t ts rest → FitsType t plain_type → type_depth t ≤ room → Stop rest → first a_name ts ≡ None → BareRead ps t (param_by room inner Open ps ts) rest
  without_name ps t ts rest s fits le stops no_name = bare_at ps t _ _ rest (take_other a_name _ _ ts no_name) (bare_param_read room low inner has ps t ts rest s fits le stops)

  open_type : (ps : Params) (t : TypeTree) (ts rest : List Word) → SpellsType t ts rest → FitsType t plain_type → type_depth t ≤ room → Stop rest → is_named ps.style ≡ false → BareRead ps t (param_by room inner Open ps ts) rest
  open_type ps (named n m vs) ts rest s fits le stops style = open_bare room low inner has ps n m vs ts rest s fits.1 le stops style
  open_type ps (parenthesized x t) ts rest s fits le stops style = without_name ps (parenthesized x t) ts rest s fits le stops (ap (first a_name) s.2)
  open_type ps (pointer x t) ts rest s fits le stops style = without_name ps (pointer x t) ts rest s fits le stops (ap (first a_name) s.1)
  open_type ps (slice x t) ts rest s fits le stops style = without_name ps (slice x t) ts rest s fits le stops (ap (first a_name) s.2)
  open_type ps (array x e t) ts rest s fits le stops style = without_name ps (array x e t) ts rest s fits le stops (ap (first a_name) s.3)
  open_type ps (mapping x k t) ts rest s fits le stops style = without_name ps (mapping x k t) ts rest s fits le stops (ap (first a_name) s.4)
  open_type ps (func x gs r) ts rest s fits le stops style = without_name ps (func x gs r) ts rest s fits le stops (ap (first a_name) s.3)
  open_type ps (struct x gs) ts rest s fits le stops style = without_name ps (struct x gs) ts rest s fits le stops (ap (first a_name) s.2)
  open_type ps (interface x us) ts rest s fits le stops style = without_name ps (interface x us) ts rest s fits le stops (ap (first a_name) s.2)
  open_type ps (counted x t) ts rest s fits le stops style = let e = fits.0 in absurd cc
  open_type ps (listed x gs) ts rest s fits le stops style = let e = fits.0 in absurd cc
  open_type ps (method n gs r) ts rest s fits le stops style = let e = fits.0 in absurd cc
  open_type ps (union x us) ts rest s fits le stops style = let e = fits.0 in absurd cc
  open_type ps (tilde x t) ts rest s fits le stops style = let e = fits.0 in absurd cc

  bare_type : (style : Style) (ps : Params) (t : TypeTree) (ts rest : List Word) → SpellsType t ts rest → FitsType t plain_type → type_depth t ≤ room → Stop rest → is_named style ≡ false → is_named ps.style ≡ false → BareRead ps t (param_by room inner style ps ts) rest
  bare_type Open ps t ts rest s fits le stops e style = open_type ps t ts rest s fits le stops style
  bare_type Bare ps t ts rest s fits le stops e style = bare_param_read room low inner has ps t ts rest s fits le stops
  bare_type Named ps t ts rest s fits le stops e style = absurd cc

  -- all that were read, with these
  record AllRead (ps : Params) (gs : Groups) (o : Outcome Params) (rest : List Word) : Type 0 where
    next : Params
    is : o ≡ Ok (next, rest)
    all : all_params next ≡ with_groups (all_params ps) gs

  bare_and : (ps : Params) (t : TypeTree) (gs : Groups) (ts a rest : List Word) → SpellsType t ts a → FitsType t plain_type → type_depth t ≤ room → Stop a → is_named ps.style ≡ false
      → ((next : Params) → is_named next.style ≡ false → AllRead next gs (further_parts room low inner has next a) rest) → AllRead ps (group_and [] t gs) (all_parts room low inner has ps ts) rest
  bare_and ps t gs ts a rest s fits le stops style others =
      let one = bare_type ps.style ps t ts a s fits le stops style style in
      let more = others one.next one.not_named in
      record {
        next = more.next;
        is = turn room low inner has ps one.next ts a (not_type_first RParen (λ _. refl) t ts a s fits) (omega (arith, type_positive t fits)) one.is ∙ more.is;
        all = more.all ∙ ap (λ (l : Listed (Group TypeTree)). with_groups l gs) one.all ∙ with_one (all_params ps) [] t gs;
      }

  may_end : (ps : Params) → is_named ps.style ≡ false → params_ending.may ps ≡ true
  may_end ps e = rw e refl

  bare_tail_read : (gs : Groups) (ps : Params) (ts rest : List Word) → SpellsGroupsTail Comma RParen gs ts rest → all_bare gs ≡ true → FitsGroups gs plain_type → groups_depth gs ≤ room → is_named ps.style ≡ false
      → AllRead ps gs (further_parts room low inner has ps ts) rest
  bare_tail_read groups_end ps ts rest s bare fits le style =
      record { next = ps; is = more_ends Comma RParen params_ending (param room inner) (steady_param room inner has.steady) ps ts rest (may_end ps style) refl s; all = with_none (all_params ps) }
  bare_tail_read (group_and (n ∷ ns) t gs) ps ts rest s bare fits le style = absurd cc
  bare_tail_read (group_and [] t gs) ps ts rest s bare fits le style =
      let spelled : SpellsType t s.0 s.2 = subst (λ (v : List Word). SpellsType t v s.2) (sym s.4) s.5 in
      let more = bare_and ps t gs s.0 s.2 rest spelled fits.0 (omega arith) (params_stop room low inner has gs s.2 rest s.6) style (λ next e. bare_tail_read gs next s.2 rest s.6 bare fits.1 (omega arith) e) in
      record { next = more.next; is = ap (further_parts room low inner has ps) s.3.is ∙ comma_turn room low inner has ps s.3.spot s.0 ∙ more.is; all = more.all }

  -- ---- all parameters

  abbrev found : Groups → Listed (Group TypeTree)
  found gs = record { items = group_list gs; depth = groups_depth gs }

  from_none : (gs : Groups) → with_groups (all_params no_params) gs ≡ found gs
  from_none gs = let e : max (max 0 0) (groups_depth gs) ≡ groups_depth gs = omega arith in rw e refl

  as_params : (gs : Groups) (ts rest : List Word) → AllRead no_params gs (all_parts room low inner has no_params ts) rest → params room inner ts ≡ Ok (found gs, rest)
  unfolding params
  as_params gs ts rest x = rw x.is (ap (λ (l : Listed (Group TypeTree)). Ok (l, rest)) (x.all ∙ from_none gs))

  named_all : (p : Placed) (ps : List Placed) (t : TypeTree) (gs : Groups) → all_params (all_typed (group (p ∷ ps) t ∷ group_list gs) (max (type_depth t) (groups_depth gs))) ≡ with_groups (all_params no_params) (group_and (p ∷ ps) t gs)
  named_all p ps t gs =
      let e : max (max (type_depth t) (groups_depth gs)) 0 ≡ max (max 0 0) (max (type_depth t) (groups_depth gs)) = omega arith in
      rw (append-nil, e) refl

  all_read : (both : Bool) (gs : Groups) (ts rest : List Word) → all_named gs ≡ both → SpellsGroups Comma RParen gs ts rest → (both || all_bare gs) ≡ true → FitsGroups gs plain_type → groups_depth gs ≤ room → AllRead no_params gs (all_parts room low inner has no_params ts) rest
  all_read both groups_end ts rest e s kinds fits le =
      record { next = no_params; is = ap (all_parts room low inner has no_params) s.is ∙ parts_close Comma RParen params_ending (param room inner) (steady_param room inner has.steady) no_params s.spot rest refl; all = with_none (all_params no_params) }
  all_read true (group_and [] t gs) ts rest e s kinds fits le = absurd cc
  all_read true (group_and (p ∷ ps) t gs) ts rest e s kinds fits le =
      record { next = all_typed (group (p ∷ ps) t ∷ group_list gs) (max (type_depth t) (groups_depth gs)); is = named_params_read room low inner has p ps t gs ts rest s e fits.0 fits.1 (omega arith) (omega arith); all = named_all p ps t gs }
  all_read false (group_and (n ∷ ns) t gs) ts rest e s kinds fits le = absurd cc
  all_read false (group_and [] t gs) ts rest e s kinds fits le =
      let spelled : SpellsType t ts s.1 = subst (λ (v : List Word). SpellsType t v s.1) (sym s.2) s.3 in
      bare_and no_params t gs ts s.1 rest spelled fits.0 (omega arith) (params_stop room low inner has gs s.1 rest s.4) refl (λ next style. bare_tail_read gs next s.1 rest s.4 kinds fits.1 (omega arith) style)

  pub params_read : (gs : Groups) (ts rest : List Word) → SpellsGroups Comma RParen gs ts rest → (all_named gs || all_bare gs) ≡ true → FitsGroups gs plain_type → groups_depth gs ≤ room
      → params room inner ts ≡ Ok (record { items = group_list gs; depth = groups_depth gs }, rest)
  params_read gs ts rest s kinds fits le = as_params gs ts rest (all_read (all_named gs) gs ts rest refl s kinds fits le)
