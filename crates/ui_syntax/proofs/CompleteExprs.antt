-- Each expression of a level is read, and each type alone.
use Rattle.std.proofs.Common.{◌≡◌, inl, ℕ, zero, suc, ◌+◌, ◌<◌, ◌≤◌, max, true, false, List, ◌∷◌, Option, Some, None, Ok, refl, sym, ap, subst, ◌∙◌, arith}
use Rattle.std.specs.Prelude.{nat_le, not, ◌&&◌}
use Rattle.std.proofs.lemmas.Bool.{le-leb}
use Rattle.ui_base.specs.declared.value.Spot.{Spot}
use Rattle.ui_base.specs.declared.kind.BinOp.{BinOp}
use Rattle.ui_tree.specs.declared.part.PrefixOp.{PrefixOp}
use Rattle.ui_tree.specs.declared.part.PrefixOp.TheVariants.{Plus, Minus, Not, Flip, Deref, Address}
use Rattle.ui_tree.specs.Tree.{TypeTree, pointer, Tree, literal, name, paren, convert, composite, elided, keyed, instance, selector, assert, index, sliced, call, type_arg, unary, binary}
use Rattle.ui_grammar.specs.Word.{Word, mark, Mark, Begins}
use Rattle.ui_grammar.specs.Operator.{mark_of, prefix_mark_of, level_of}
use Rattle.ui_grammar.specs.Spells.{Spells, SpellsType}
use Rattle.ui_grammar.specs.Fits.{plain_type, is_pointer, level as level_in, depth, type_depth, Fits, FitsType}
use Rattle.ui_grammar.proofs.Inverse.{prefix_of-mark_of}
use Rattle.ui_parse.specs.Reader.{Reader, first, pure, take_by}
use Rattle.ui_parse.proofs.Outcomes.{take_other}
use Rattle.ui_syntax.specs.declared.site.Site.{Site}
use Rattle.ui_syntax.specs.declared.site.Site.TheVariants.{Header, Plain, Wrapped, Argument}
use Rattle.ui_syntax.specs.declared.site.TypeSite.{TypeSite}
use Rattle.ui_syntax.specs.Cover.{Read, only_type}
use Rattle.ui_syntax.specs.Types.{Nested, of_type, maybe_type}
use Rattle.ui_syntax.specs.Exprs.{of_tree, is_header, is_some, takes_types, a_prefix, an_operator, operand_site, prefix_site, prefixed, prefixed_by, primary, unary_expr, binary_of, operations, level}
use Rattle.ui_syntax.specs.Read.{place_at}
use Rattle.ui_syntax.proofs.ByBudget.{FitsExpr, FitsAlone, type_room, Quiet, QuietAlone, FitsAt, QuietAt, ReadsTo, TypeReadsTo, IsComplete}
use Rattle.ui_syntax.proofs.Places.{type_positive, depth_positive}
use Rattle.ui_syntax.proofs.FirstWords.{same_spot}
use Rattle.ui_syntax.proofs.SteadyTypes.{AreSteady}
use Rattle.ui_syntax.proofs.CompleteTypesLists.{pick_same}
use Rattle.ui_syntax.proofs.CompleteExprsTrees.{fits_within, no_type_at, read_as}
use Rattle.ui_syntax.proofs.CompleteExprsSuffixes.{suffixes_stop, suffixes_alone, Primary}
use Rattle.ui_syntax.proofs.CompleteExprsOperators.{operator_seen, operator_mono, operator_top, quiet_operator, quiet_at}
use Rattle.ui_syntax.proofs.CompleteExprsOperands.{FrontRoom, alone_behind}
use Rattle.ui_syntax.proofs.CompleteExprsHeads.{front, not_counted}
use Rattle.ui_syntax.proofs.CompleteExprsPrimary.{primary_reads}

place_operand : (s : Site) → place_at (operand_site s) ≡ place_at s
place_operand Header = refl
place_operand Plain = refl
place_operand Wrapped = refl
place_operand Argument = refl

header_operand : (s : Site) → is_header (operand_site s) ≡ is_header s
header_operand Header = refl
header_operand Plain = refl
header_operand Wrapped = refl
header_operand Argument = refl

place_prefix : (o : PrefixOp) (s : Site) → place_at (prefix_site o s) ≡ place_at s
place_prefix Plus s = place_operand s
place_prefix Minus s = place_operand s
place_prefix Not s = place_operand s
place_prefix Flip s = place_operand s
place_prefix Address s = place_operand s
place_prefix Deref s = refl

header_prefix : (o : PrefixOp) (s : Site) → is_header (prefix_site o s) ≡ is_header s
header_prefix Plus s = header_operand s
header_prefix Minus s = header_operand s
header_prefix Not s = header_operand s
header_prefix Flip s = header_operand s
header_prefix Address s = header_operand s
header_prefix Deref s = refl

pointer_room : (s : Site) (room : ℕ) (x : Spot) (t : TypeTree) → type_room s (suc room) (pointer x t) → type_room s room t
pointer_room Header room x t le = le
pointer_room Plain room x t le = le
pointer_room Wrapped room x t le = omega arith
pointer_room Argument room x t le = omega arith

alone_room_pos : (s : Site) (room : ℕ) (x : Spot) (t : TypeTree) → type_room s (suc room) (pointer x t) → 1 ≤ type_depth t → 1 ≤ room
alone_room_pos Header room x t le pos = absurd le
alone_room_pos Plain room x t le pos = absurd le
alone_room_pos Wrapped room x t le pos = omega arith
alone_room_pos Argument room x t le pos = omega arith

front_room_alone : (s : Site) (room : ℕ) (t : TypeTree) → FitsType t plain_type → type_room s (suc room) t → FrontRoom s room t
front_room_alone Header room t f le = absurd le
front_room_alone Plain room t f le = absurd le
front_room_alone Wrapped room t f le = omega arith
front_room_alone Argument room t f le = (le, λ h. absurd (cc (h, not_counted t f)))

takes_alone : (s : Site) (room : ℕ) (t : TypeTree) → type_room s (suc room) t → takes_types s ≡ true
takes_alone Header room t le = absurd le
takes_alone Plain room t le = absurd le
takes_alone Wrapped room t le = refl
takes_alone Argument room t le = refl

module _ (room : ℕ) (inner : Nested) where
  operations_stop : (s : Site) (least n : ℕ) (l : Read Tree) (ws : List Word) → first (an_operator least) ws ≡ None → operations room inner s least n l ws ≡ Ok (l, ws)
  unfolding operations
  operations_stop s least zero l ws e = refl
  operations_stop s least (suc n) l ws e =
      let on = λ (o : BinOp). Rattle.ui_parse.specs.Reader.◌>>=◌ (inner.level (operand_site s) (suc (level_of o))) (λ r. operations room inner s least n (binary_of room inner o l r)) in
      pick_same (not (is_some (only_type l.tree)) && nat_le l.depth room) (take_by (an_operator least) on (pure l)) (pure l) ws (Ok (l, ws)) (take_other (an_operator least) on (pure l) ws e) refl

  operations_alone : (s : Site) (least n : ℕ) (l : Read Tree) (t : TypeTree) (ws : List Word) → only_type l.tree ≡ Some t → operations room inner s least n l ws ≡ Ok (l, ws)
  unfolding operations
  operations_alone s least zero l t ws e = refl
  operations_alone s least (suc n) l t ws e = rw e refl

  operations_turn : (s : Site) (least n : ℕ) (l r : Tree) (x y : Spot) (o : BinOp) (a b rest : List Word) → only_type l ≡ None → depth l ≤ room → least ≤ level_of o → Mark (mark_of o) a b
      → inner.level (operand_site s) (suc (level_of o)) b ≡ Ok (of_tree r y (depth r), rest)
      → operations room inner s least (suc n) (of_tree l x (depth l)) a ≡ operations room inner s least n (of_tree (binary x o l r) x (suc (max (depth l) (depth r)))) rest
  unfolding operations take_by
  operations_turn s least n l r x y o a b rest alone le binds m is =
      let roomy : nat_le (depth l) room ≡ true = le-leb _ _ le in
      rw (alone, roomy, m.is, operator_seen least o a b binds m, is) refl

  -- no operator stands before it
  unary_passes : (s : Site) (ts : List Word) → first a_prefix ts ≡ None → unary_expr room inner s ts ≡ primary room inner s ts
  unfolding unary_expr
  unary_passes s ts e = pick_same (nat_le 1 room) (take_by a_prefix (λ o. prefixed room inner s o) (primary room inner s)) (primary room inner s) ts (primary room inner s ts) (take_other a_prefix (λ o. prefixed room inner s o) (primary room inner s) ts e) refl

  prefixed_is : (s : Site) (o : PrefixOp) (e : Tree) (m : Option TypeTree) (x y : Spot) (k : ℕ) (ts a rest : List Word) → ts ≡ mark (prefix_mark_of o) x ∷ a → 1 ≤ room → inner.level (prefix_site o s) 6 a ≡ Ok (of_tree e y k, rest) → only_type e ≡ m
      → unary_expr room inner s ts ≡ Ok (prefixed_by room inner (record { op = o; spot = x }) (of_tree e y k) m, rest)
  unfolding unary_expr prefixed take_by
  prefixed_is s o e m x y k ts a rest first_is pos is type = let roomy : nat_le 1 room ≡ true = le-leb 1 room pos in rw (first_is, roomy, prefix_of-mark_of o, is, type) refl

  -- an expression read up to here, that operators may go on with
  record Climbs (s : Site) (least : ℕ) (ts : List Word) (e : Tree) (rest : List Word) : Type 0 where
    fuel : ℕ
    enough : suc room < fuel + depth e
    spot : Spot
    begins : Begins spot ts
    same : level room inner s least ts ≡ operations room inner s least fuel (of_tree e spot (depth e)) rest

  climbs_from : (s : Site) (least : ℕ) (ts : List Word) (e : Tree) (x : Spot) (rest : List Word) → Begins x ts → unary_expr room inner s ts ≡ Ok (of_tree e x (depth e), rest) → Climbs s least ts e rest
  unfolding level
  climbs_from s least ts e x rest begins is = record { fuel = suc (suc room); enough = omega arith; spot = x; begins = begins; same = rw is refl }

  primary_climbs : (s : Site) (least k : ℕ) (ts : List Word) (e : Tree) (rest : List Word) → Primary room inner s ts e rest → Quiet s k rest → Climbs s least ts e rest
  primary_climbs s least k ts e rest p q = climbs_from s least ts e p.spot rest p.begins (unary_passes s ts p.no_prefix ∙ p.same ∙ suffixes_stop room inner s k p.fuel (of_tree e p.spot (depth e)) rest q)

  binary_climbs : (s : Site) (least : ℕ) (x : Spot) (o : BinOp) (l r : Tree) (y : Spot) (ts a b rest : List Word) → Climbs s least ts l a → Begins x ts → only_type l ≡ None → depth l ≤ room → least ≤ level_of o → Mark (mark_of o) a b
      → inner.level (operand_site s) (suc (level_of o)) b ≡ Ok (of_tree r y (depth r), rest) → Climbs s least ts (binary x o l r) rest
  binary_climbs s least x o l r y ts a b rest c begins alone le binds m is = go c.fuel c.enough (c.same ∙ ap (λ (z : Spot). operations room inner s least c.fuel (of_tree l z (depth l)) a) (same_spot c.spot x ts c.begins begins))
    where
      go : (n : ℕ) → suc room < n + depth l → level room inner s least ts ≡ operations room inner s least n (of_tree l x (depth l)) a → Climbs s least ts (binary x o l r) rest
      go zero lt same = absurd (omega arith)
      go (suc n) lt same = record { fuel = n; enough = omega arith; spot = x; begins = begins; same = same ∙ operations_turn s least n l r x y o a b rest alone le binds m is }

module _ (room low : ℕ) (inner : Nested) (c : IsComplete room low inner) (steady : AreSteady inner)
    (type_complete : (p : TypeSite) (ts rest : List Word) (t : TypeTree) → SpellsType t ts rest → FitsAt p (suc room) t → QuietAt p t rest → TypeReadsTo (maybe_type room inner p ts) t ts rest) where
  abbrev Reads : Tree → Type 0
  Reads e = (s : Site) (least : ℕ) (ts rest : List Word) → Spells e ts rest → Fits e (place_at s) → depth e ≤ suc room → least ≤ level_in e → Quiet s (suc (level_in e)) rest → Climbs room inner s least ts e rest

  primary_level : (e : Tree) → level_in e ≡ 7 → Reads e
  primary_level e is_primary s least ts rest sp f shallow le q =
      primary_climbs room inner s least (suc (level_in e)) ts e rest (primary_reads room low inner c steady type_complete (suc room) e s ts rest shallow is_primary shallow sp f) q

  unary_level : (x : Spot) (o : PrefixOp) (e : Tree) → Reads (unary x o e)
  unary_level x o e s least ts rest sp f shallow le q =
      let fits = fits_within e s f.1 in
      let r = c.own.expr (prefix_site o s) 6 sp.0 rest e sp.2 (record { fits = subst (Fits e) (sym (place_prefix o s)) fits; shallow = omega arith; binds = f.0 }) (quiet_at s (prefix_site o s) 7 6 rest (header_prefix o s) q (operator_top rest)) in
      climbs_from room inner s least ts (unary x o e) x rest (subst (Begins x) (sym sp.1) refl)
      (prefixed_is room inner s o e None x r.read.spot (depth e) ts sp.0 rest sp.1 (omega (arith, depth_positive e (place_at s) fits)) (read_as r) (no_type_at e s fits))

  binary_level : (x : Spot) (o : BinOp) (l r : Tree) → Reads l → Reads (binary x o l r)
  binary_level x o l r reads s least ts rest sp f shallow le q =
      let fits_l = fits_within l s f.2 in
      let fits_r = fits_within r s f.3 in
      let left = reads s least ts sp.0 sp.3 fits_l (omega arith) (omega (arith, f.0)) (quiet_operator s (level_in l) o sp.0 sp.1 f.0 sp.4) in
      let right = c.own.expr (operand_site s) (suc (level_of o)) sp.1 rest r sp.5 (record { fits = subst (Fits r) (sym (place_operand s)) fits_r; shallow = omega arith; binds = omega (arith, f.1) })
      (quiet_at s (operand_site s) (suc (level_of o)) (suc (level_of o)) rest (header_operand s) q q.no_operator) in
      binary_climbs room inner s least x o l r right.read.spot ts sp.0 sp.1 rest left sp.2 (no_type_at l s fits_l) (omega arith) le sp.4 (read_as right)

  level_reads : (e : Tree) → Reads e
  level_reads (unary x o e) = unary_level x o e
  level_reads (binary x o l r) = binary_level x o l r (level_reads l)
  level_reads (literal x k v) = primary_level (literal x k v) refl
  level_reads (name n) = primary_level (name n) refl
  level_reads (paren x e) = primary_level (paren x e) refl
  level_reads (convert x t e) = primary_level (convert x t e) refl
  level_reads (composite x t es) = primary_level (composite x t es) refl
  level_reads (elided x es) = primary_level (elided x es) refl
  level_reads (keyed x k e) = primary_level (keyed x k e) refl
  level_reads (instance x f us) = primary_level (instance x f us) refl
  level_reads (selector x e n) = primary_level (selector x e n) refl
  level_reads (assert x e t) = primary_level (assert x e t) refl
  level_reads (index x e i) = primary_level (index x e i) refl
  level_reads (sliced x e l h m) = primary_level (sliced x e l h m) refl
  level_reads (call x f es spread) = primary_level (call x f es spread) refl
  level_reads (type_arg t) = primary_level (type_arg t) refl

  pub level_complete : (s : Site) (least : ℕ) (ts rest : List Word) (e : Tree) → Spells e ts rest → FitsExpr s (suc room) least e → Quiet s least rest → ReadsTo (level room inner s least ts) e (depth e) ts rest
  level_complete s least ts rest e sp f q =
      let climbs = level_reads e s least ts rest sp f.fits f.shallow f.binds (quiet_at s s least (suc (level_in e)) rest refl q (operator_mono least (suc (level_in e)) rest (omega (arith, f.binds)) q.no_operator)) in
      record {
        read = of_tree e climbs.spot (depth e);
        is = climbs.same ∙ operations_stop room inner s least climbs.fuel (of_tree e climbs.spot (depth e)) rest q.no_operator;
        tree = refl;
        depth = refl;
        begins = climbs.begins;
      }

  -- ---- a type alone

  front_alone : (s : Site) (least : ℕ) (ts rest : List Word) (t : TypeTree) → SpellsType t ts rest → FitsAlone s (suc room) t → QuietAlone t rest → is_pointer t ≡ false → ReadsTo (level room inner s least ts) (type_arg t) (type_depth t) ts rest
  unfolding level primary
  front_alone s least ts rest t sp f q no_pointer =
      let h = front room low inner c type_complete s t ts rest sp (record { no_expression = f.no_expression; no_pointer = no_pointer; fits = inl f.fits }) (front_room_alone s room t f.fits f.room) q.quiet in
      let x = of_tree (type_arg t) h.spot (type_depth t) in
      let is = h.is ∙ alone_behind room low inner c type_complete s (of_type t h.spot (type_depth t)) rest (takes_alone s room t f.room) (not_counted t f.fits) q.no_paren q.no_brace in
      record {
        read = x;
        tree = refl;
        depth = refl;
        begins = h.begins;
        is = rw (unary_passes room inner s ts h.no_prefix, is, suffixes_alone room inner s (suc (suc room)) x t rest refl) (operations_alone room inner s least (suc (suc room)) x t rest refl);
      }

  pointer_alone : (s : Site) (least : ℕ) (ts rest : List Word) (x : Spot) (t : TypeTree) → SpellsType (pointer x t) ts rest → FitsAlone s (suc room) (pointer x t) → QuietAlone (pointer x t) rest → ReadsTo (level room inner s least ts) (type_arg (pointer x t)) (suc (type_depth t)) ts rest
  unfolding level
  pointer_alone s least ts rest x t sp f q =
      let quiet : QuietAlone t rest = record { quiet = record { no_dot = q.quiet.no_dot; no_bracket = q.quiet.no_bracket; no_result = q.quiet.no_result }; no_paren = q.no_paren; no_brace = q.no_brace } in
      let r = c.own.alone s 6 sp.0 rest t sp.2 (record { no_expression = f.no_expression; fits = f.fits.1; room = pointer_room s room x t f.room }) quiet in
      let y = of_tree (type_arg (pointer x t)) x (suc (type_depth t)) in
      let is = prefixed_is room inner s Deref (type_arg t) (Some t) x r.read.spot (type_depth t) ts sp.0 rest sp.1 (alone_room_pos s room x t f.room (type_positive t f.fits.1)) (read_as r) refl in
      record {
        read = y;
        tree = refl;
        depth = refl;
        begins = subst (Begins x) (sym sp.1) refl;
        is = rw is (operations_alone room inner s least (suc (suc room)) y (pointer x t) rest refl);
      }

  pub alone_complete : (s : Site) (least : ℕ) (ts rest : List Word) (t : TypeTree) → SpellsType t ts rest → FitsAlone s (suc room) t → QuietAlone t rest → ReadsTo (level room inner s least ts) (type_arg t) (type_depth t) ts rest
  alone_complete s least ts rest (pointer x t) sp f q = pointer_alone s least ts rest x t sp f q
  alone_complete s least ts rest t sp f q = front_alone s least ts rest t sp f q refl
