-- Expressions and the elements of literals beside those of greater budgets.
use Rattle.std.proofs.Common.{◌≡◌, ℕ, zero, suc, ◌+◌, ◌-◌, ◌<◌, ◌≤◌, Bool, true, false, List, ◌∷◌, Option, Some, None, Ok, Err, refl, sym, ap, subst, ◌∙◌, arith}
use Rattle.std.specs.Prelude.{◌&&◌, not, nat_le}
use Rattle.std.proofs.lemmas.Bool.{le-leb, lt-leb, leb-true, leb-false}
use Rattle.ui_base.specs.declared.value.Spot.{Spot}
use Rattle.ui_base.specs.declared.kind.BinOp.{BinOp}
use Rattle.ui_base.specs.declared.kind.BinOp.TheVariants as op
use Rattle.ui_scan.specs.declared.kind.TokenKind.TheVariants.{LBrace, RBrace, Comma, Colon}
use Rattle.ui_tree.specs.declared.part.PrefixOp.{PrefixOp}
use Rattle.ui_tree.specs.declared.part.PrefixOp.TheVariants.{Plus, Minus, Not, Flip, Deref, Address}
use Rattle.ui_tree.specs.Tree.{TypeTree, Tree}
use Rattle.ui_grammar.specs.Word.{Word, mark}
use Rattle.ui_grammar.specs.Operator.{mark_of, prefix_mark_of, level_of}
use Rattle.ui_parse.specs.Reader.{Reader, ◌>>=◌, pure, take_by, marked}
use Rattle.ui_parse.proofs.Outcomes.{mono, holds_at}
use Rattle.ui_parse.proofs.Steady.{steady_bind}
use Rattle.ui_syntax.specs.declared.site.Site.{Site}
use Rattle.ui_syntax.specs.declared.site.Site.TheVariants.{Plain}
use Rattle.ui_syntax.specs.Cover.{Read, only_type}
use Rattle.ui_syntax.specs.Types.{Nested, Listed, any_end, empty}
use Rattle.ui_syntax.specs.Exprs.{is_some, takes_types, operand_site, prefix_site, Prefix, a_prefix, an_operator, an_expr, primary, prefixed_by, prefixed, unary_expr, binary_of, operations, level, item, add_elem, elem, braces}
use Rattle.ui_syntax.specs.Read.{readers}
use Rattle.ui_syntax.proofs.SteadyExprs.{steady_operations, steady_prefixed}
use Rattle.ui_syntax.proofs.Steady.{readers_steady}
use Rattle.ui_syntax.proofs.Sound.{readers_sound}
use Rattle.ui_syntax.proofs.SoundExprsForms.{IsCover, cover_is, cover_of, level_le}
use Rattle.ui_syntax.proofs.SoundExprsInner.{no_room}
use Rattle.ui_syntax.proofs.SoundExprsOperators.{prefix_is, operator_is}
use Rattle.ui_syntax.proofs.SoundExprsLevels.{operand_takes}
use Rattle.ui_depth.proofs.Deeper.{StopsAt, reads, faults, Deeper, alike, deeper_as, same_here, Deepens, Never, deeper_then, deep_bind, deep_bind_at, deep_pure, deep_room, deeper_take, deep_take, deeper_ahead, deep_ahead, cond_on, cond_off, weaker, halt_take}
use Rattle.ui_depth.proofs.Goes.{goes, goes_kind, no_goes}
use Rattle.ui_depth.proofs.Lists.{deep_parts}
use Rattle.ui_depth.proofs.Budgets.{above, above_is, room_for, ExprStop, AnyStop, AreDeeper}
use Rattle.ui_depth.proofs.Operands.{primary_refused}
use Rattle.ui_depth.proofs.Depths.{Each, Within, expr_depth, unary_within}
use Rattle.ui_depth.proofs.DeepSuffixes.{deep_primary}

operator_goes : (o : BinOp) → goes_kind (mark_of o) ≡ true
operator_goes op.Add = refl
operator_goes op.Sub = refl
operator_goes op.Mul = refl
operator_goes op.Div = refl
operator_goes op.Rem = refl
operator_goes op.And = refl
operator_goes op.Or = refl
operator_goes op.Xor = refl
operator_goes op.AndNot = refl
operator_goes op.Shl = refl
operator_goes op.Shr = refl
operator_goes op.Equal = refl
operator_goes op.NotEqual = refl
operator_goes op.Less = refl
operator_goes op.LessEqual = refl
operator_goes op.Greater = refl
operator_goes op.GreaterEqual = refl
operator_goes op.LogicalAnd = refl
operator_goes op.LogicalOr = refl

operator_word : (least : ℕ) (w : Word) (o : BinOp) → an_operator least w ≡ Some o → goes w ≡ true
operator_word least w o e = ap goes (operator_is least w o e).is ∙ operator_goes o

-- an operand of an operator is no type alone
no_type_by : (s : Site) (b least : ℕ) (ts : List Word) (x : Read Tree) (rest : List Word) (o : Option TypeTree) → takes_types s ≡ false → only_type x.tree ≡ o → IsCover s b least ts x rest o → only_type x.tree ≡ None
no_type_by s b least ts x rest None off e h = e
no_type_by s b least ts x rest (Some t) off e h = absurd (no_room s b t off h.fits.room)

never_alone : (d : ℕ) (s : Site) (least : ℕ) (ws : List Word) → takes_types s ≡ false → least ≤ 6 → Each (λ x. only_type x.tree ≡ None) ((readers d).level s least ws)
never_alone d s least ws off le = mono ((readers_sound d).own.expr s least ws le)
    (λ x r h. no_type_by s d least ws x r (only_type x.tree) off refl (cover_is s d least ws x r (only_type x.tree) refl (cover_of h))) (λ r _. tt)

module _ (d : ℕ) (is : AreDeeper d) (site : Site) where
  -- ---- unary operators

  prefixed_stop : (o : Prefix) (x : Read Tree) (t : Option TypeTree) (w : Word) → only_type x.tree ≡ t → ExprStop d x w → ExprStop (suc d) (prefixed_by d (readers d) o x t) w
  prefixed_stop o x None w e h = record { full = λ _. omega (arith, h.full e); word = h.word }
  prefixed_stop o x (Some t) w e h = record { full = λ only_none. absurd cc; word = h.word }

  deep_prefixed : (o : Prefix) → Deepens (ExprStop (suc d)) (prefixed d (readers d) site o) (λ e. prefixed (above d e) (readers (above d e)) site o)
  unfolding prefixed
  deep_prefixed o = deep_bind (is.level (prefix_site o.op site) 6) (λ x. deep_pure _) (λ x w r h. reads _ refl (prefixed_stop o x (only_type x.tree) w refl h))

  prefix_refused : (o : PrefixOp) (s : Spot) (r : List Word) → primary d (readers d) site (mark (prefix_mark_of o) s ∷ r) ≡ Err (mark (prefix_mark_of o) s ∷ r)
  prefix_refused Plus s r = primary_refused d site (mark (prefix_mark_of Plus) s) r refl refl (record { no_func = refl; no_struct = refl; no_interface = refl; no_bracket = refl; no_map = refl }) (λ _. refl)
  prefix_refused Minus s r = primary_refused d site (mark (prefix_mark_of Minus) s) r refl refl (record { no_func = refl; no_struct = refl; no_interface = refl; no_bracket = refl; no_map = refl }) (λ _. refl)
  prefix_refused Not s r = primary_refused d site (mark (prefix_mark_of Not) s) r refl refl (record { no_func = refl; no_struct = refl; no_interface = refl; no_bracket = refl; no_map = refl }) (λ _. refl)
  prefix_refused Flip s r = primary_refused d site (mark (prefix_mark_of Flip) s) r refl refl (record { no_func = refl; no_struct = refl; no_interface = refl; no_bracket = refl; no_map = refl }) (λ _. refl)
  prefix_refused Deref s r = primary_refused d site (mark (prefix_mark_of Deref) s) r refl refl (record { no_func = refl; no_struct = refl; no_interface = refl; no_bracket = refl; no_map = refl }) (λ _. refl)
  prefix_refused Address s r = primary_refused d site (mark (prefix_mark_of Address) s) r refl refl (record { no_func = refl; no_struct = refl; no_interface = refl; no_bracket = refl; no_map = refl }) (λ _. refl)

  prefix_stops : (o : Prefix) (w : Word) (r : List Word) → a_prefix w ≡ Some o → StopsAt (ExprStop (suc d)) (primary d (readers d) site (w ∷ r)) w r
  prefix_stops o w r e = subst (λ (v : Word). StopsAt (ExprStop (suc d)) (primary d (readers d) site (v ∷ r)) v r) (sym (prefix_is w o e)) (faults (prefix_refused o.op o.spot r))

  deep_unary : Deepens (ExprStop (suc d)) (unary_expr d (readers d) site) (λ e. unary_expr (above d e) (readers (above d e)) site)
  unfolding unary_expr
  deep_unary = deep_room (nat_le 1 d) (λ e. nat_le 1 (above d e)) _ (λ e. room_for 1 d e (omega arith))
      (λ _. deep_take a_prefix deep_prefixed (deep_primary d is site))
      (λ _. deep_ahead a_prefix prefix_stops (λ e o u. (steady_prefixed (above d e) (readers (above d e)) (readers_steady (above d e)) site o).ends u) (deep_primary d is site))

-- ---- binary operators

module _ (room : ℕ) (inner : Nested) (site : Site) (least : ℕ) where
  abbrev Operand : ℕ → Read Tree → BinOp → Reader (Read Tree)
  Operand n l o = inner.level (operand_site site) (suc (level_of o)) >>= (λ r. operations room inner site least n (binary_of room inner o l r))

  operations_alone : (n : ℕ) (l : Read Tree) (t : TypeTree) (ws : List Word) → only_type l.tree ≡ Some t → operations room inner site least n l ws ≡ Ok (l, ws)
  unfolding operations
  operations_alone zero l t ws e = refl
  operations_alone (suc n) l t ws e = cond_off (not (is_some (only_type l.tree)) && nat_le l.depth room) _ (pure l) ws (ap (λ (o : Option TypeTree). not (is_some o) && nat_le l.depth room) e)

  goes_by : (l : Read Tree) (b : Bool) → only_type l.tree ≡ None → nat_le l.depth room ≡ b → (not (is_some (only_type l.tree)) && nat_le l.depth room) ≡ b
  goes_by l b e h = ap (λ (o : Option TypeTree). not (is_some o) && nat_le l.depth room) e ∙ h

  operations_more : (n : ℕ) (l : Read Tree) (ws : List Word) → only_type l.tree ≡ None → l.depth ≤ room → 1 ≤ n → operations room inner site least n l ws ≡ take_by (an_operator least) (Operand (n - 1) l) (pure l) ws
  unfolding operations
  operations_more zero l ws e le positive = absurd (omega (arith, positive))
  operations_more (suc n) l ws e le positive =
      cond_on (not (is_some (only_type l.tree)) && nat_le l.depth room) _ (pure l) ws (goes_by l true e (le-leb _ _ le)) ∙ ap (λ (k : ℕ). take_by (an_operator least) (Operand k l) (pure l) ws) less
    where
      less : n ≡ suc n - 1
      less = omega arith

  operations_full : (n : ℕ) (l : Read Tree) (ws : List Word) → only_type l.tree ≡ None → nat_le l.depth room ≡ false → operations room inner site least n l ws ≡ Ok (l, ws)
  unfolding operations
  operations_full zero l ws e off = refl
  operations_full (suc n) l ws e off = cond_off (not (is_some (only_type l.tree)) && nat_le l.depth room) _ (pure l) ws (goes_by l false e off)

module _ (d : ℕ) (is : AreDeeper d) (site : Site) (least : ℕ) where
  stop_by : (n : ℕ) (l : Read Tree) (w : Word) (r : List Word) (o : Option TypeTree) → only_type l.tree ≡ o → ExprStop (suc d) l w → StopsAt (ExprStop (suc d)) (operations d (readers d) site least n l (w ∷ r)) w r
  stop_by n l w r (Some t) e h = reads l (operations_alone d (readers d) site least n l t (w ∷ r) e) h
  stop_by n l w r None e h = reads l (operations_full d (readers d) site least n l (w ∷ r) e (lt-leb _ _ (h.full e))) h

  abbrev Loop : ℕ → (ℕ → ℕ) → Read Tree → List Word → Type 0
  Loop n ns l ws = Deeper (ExprStop (suc d)) (operations d (readers d) site least n l ws) (λ e. operations (above d e) (readers (above d e)) site least (ns e) l ws)

  -- what is made with one more operand
  abbrev Again : ℕ → (ℕ → ℕ) → Read Tree → Type 0
  Again n ns l = (o : BinOp) (r : Read Tree) (ws : List Word) → l.depth ≤ d → r.depth ≤ d → Loop (n - 1) (λ e. ns e - 1) (binary_of d (readers d) o l r) ws

  operand_stops : (n : ℕ) (l : Read Tree) (o : BinOp) (rest : List Word) (r : Read Tree) (w : Word) (u : List Word) → (readers d).level (operand_site site) (suc (level_of o)) rest ≡ Ok (r, w ∷ u) → ExprStop d r w
      → StopsAt (ExprStop (suc d)) (operations d (readers d) site least n (binary_of d (readers d) o l r) (w ∷ u)) w u
  operand_stops n l o rest r w u e h =
      let alone = (holds_at (never_alone d (operand_site site) (suc (level_of o)) rest (operand_takes site) (level_le o)) e).holds in
      stop_by n (binary_of d (readers d) o l r) w u None refl (record { full = λ _. omega (arith, h.full alone); word = h.word })

  operator_then : (n : ℕ) (ns : ℕ → ℕ) (l : Read Tree) (ws : List Word) → l.depth ≤ d → Again n ns l
      → Deeper (ExprStop (suc d)) (take_by (an_operator least) (Operand d (readers d) site least (n - 1) l) (pure l) ws) (λ e. take_by (an_operator least) (Operand (above d e) (readers (above d e)) site least (ns e - 1) l) (pure l) ws)
  operator_then n ns l ws le on = deeper_take (an_operator least) _ _ _ _ ws
      (λ o w rest _ _. deeper_then (λ r. operations d (readers d) site least (n - 1) (binary_of d (readers d) o l r)) (λ e r. operations (above d e) (readers (above d e)) site least (ns e - 1) (binary_of (above d e) (readers (above d e)) o l r))
      ((is.level (operand_site site) (suc (level_of o))).at rest)
      (λ r u e. on o r u le (holds_at (expr_depth d (operand_site site) (suc (level_of o)) rest (level_le o)) e).holds)
      (λ r v u e h. operand_stops (n - 1) l o rest r v u e h)
      (λ e r u. (steady_operations (above d e) (readers (above d e)) (readers_steady (above d e)) site least (ns e - 1) _).ends u))
      (λ _. same_here _)

  operator_ahead : (ns : ℕ → ℕ) (l : Read Tree) (ws : List Word) → suc d ≤ l.depth → Deeper (ExprStop (suc d)) (pure l ws) (λ e. take_by (an_operator least) (Operand (above d e) (readers (above d e)) site least (ns e - 1) l) (pure l) ws)
  operator_ahead ns l ws le = deeper_ahead (an_operator least) (pure l) _ _ ws
      (λ o w rest e h. reads l (ap (λ (v : List Word). Ok (l, v)) e) (record { full = λ _. le; word = operator_word least w o h }))
      (λ e o u. (steady_bind ((readers_steady (above d e)).level (operand_site site) (suc (level_of o))) (λ r. steady_operations (above d e) (readers (above d e)) (readers_steady (above d e)) site least (ns e - 1) _)).ends u)
      (same_here _)

  loop_room : (n : ℕ) (ns : ℕ → ℕ) (l : Read Tree) (ws : List Word) (b : Bool) → nat_le l.depth d ≡ b → only_type l.tree ≡ None → l.depth ≤ suc d → 1 ≤ n → ((e : ℕ) → 1 ≤ ns e) → Again n ns l → Loop n ns l ws
  loop_room n ns l ws true h e le positive positives on = deeper_as (operator_then n ns l ws (leb-true _ _ h) on)
      (operations_more d (readers d) site least n l ws e (leb-true _ _ h) positive) (λ i. operations_more (above d i) (readers (above d i)) site least (ns i) l ws e (omega (arith, above_is d i, le)) (positives i))
  loop_room n ns l ws false h e le positive positives on = deeper_as (operator_ahead ns l ws (omega (arith, leb-false _ _ h)))
      (operations_full d (readers d) site least n l ws e h) (λ i. operations_more (above d i) (readers (above d i)) site least (ns i) l ws e (omega (arith, above_is d i, le)) (positives i))

  loop_by : (n : ℕ) (ns : ℕ → ℕ) (l : Read Tree) (ws : List Word) (o : Option TypeTree) → only_type l.tree ≡ o → Within (suc d) l → suc (suc d) ≤ n + l.depth → ((e : ℕ) → suc (suc (above d e)) ≤ ns e + l.depth)
      → (only_type l.tree ≡ None → Again n ns l) → Loop n ns l ws
  loop_by n ns l ws (Some t) e within fuel fuels on = alike (λ i. operations_alone (above d i) (readers (above d i)) site least (ns i) l t ws e ∙ sym (operations_alone d (readers d) site least n l t ws e))
  loop_by n ns l ws None e within fuel fuels on =
      loop_room n ns l ws (nat_le l.depth d) refl e (within e) (omega (arith, within e, fuel)) (λ i. omega (arith, within e, fuels i, above_is d i)) (on e)

  -- The number of turns that are left serves for the depth that is left.
  loop : (n : ℕ) (ns : ℕ → ℕ) (l : Read Tree) (ws : List Word) → Within (suc d) l → suc (suc d) ≤ n + l.depth → ((e : ℕ) → suc (suc (above d e)) ≤ ns e + l.depth) → Loop n ns l ws
  loop zero ns l ws within fuel fuels = loop_by zero ns l ws (only_type l.tree) refl within fuel fuels (λ e. absurd (omega (arith, within e, fuel)))
  loop (suc n) ns l ws within fuel fuels = loop_by (suc n) ns l ws (only_type l.tree) refl within fuel fuels
      (λ e o r us l_le r_le. subst (λ (k : ℕ). Deeper (ExprStop (suc d)) (operations d (readers d) site least k (binary_of d (readers d) o l r) us) (λ i. operations (above d i) (readers (above d i)) site least (ns i - 1) (binary_of (above d i) (readers (above d i)) o l r) us)) (less n)
      (loop n (λ i. ns i - 1) (binary_of d (readers d) o l r) us (λ _. omega (arith, l_le, r_le)) (omega (arith, fuel)) (λ i. omega (arith, within e, fuels i, above_is d i))))
    where
      less : (k : ℕ) → k ≡ suc k - 1
      less k = omega arith

  pub deep_level : Deepens (ExprStop (suc d)) (level d (readers d) site least) (λ e. level (above d e) (readers (above d e)) site least)
  unfolding level
  deep_level = deep_bind_at (deep_unary d is site)
      (λ ws l u e. loop (suc (suc d)) (λ i. suc (suc (above d i))) l u (holds_at (unary_within d site ws) e).holds (omega arith) (λ i. omega arith))
      (λ ws l w r _ h. stop_by (suc (suc d)) l w r (only_type l.tree) refl h)
      (λ e l u. (steady_operations (above d e) (readers (above d e)) (readers_steady (above d e)) site least (suc (suc (above d e))) l).ends u)

-- ---- elements of literals

module _ (d : ℕ) (is : AreDeeper d) where
  -- where there is no room for braces, no expression begins with them
  brace_refused : (d : ℕ) (s : Spot) (w : Word) (r : List Word) → d < 1 → StopsAt AnyStop (an_expr d (readers d) (w ∷ r)) w r
  unfolding readers
  brace_refused zero s w r lt = faults refl
  brace_refused (suc d) s w r lt = absurd (omega arith)

  deep_an_expr : Deepens AnyStop (an_expr d (readers d)) (λ e. an_expr (above d e) (readers (above d e)))
  deep_an_expr = weaker (λ x w h. h.word) (is.level Plain 1)

  deep_item : Deepens AnyStop (item d (readers d)) (λ e. item (above d e) (readers (above d e)))
  deep_item =
      let inside : (s : Spot) → Deepens AnyStop _ (λ e. _) = λ s. deep_bind is.braces (λ es. deep_pure _) (λ es w r h. absurd h) in
      deep_room (nat_le 1 d) (λ e. nat_le 1 (above d e)) _ (λ e. room_for 1 d e (omega arith))
      (λ _. deep_take (marked LBrace) inside deep_an_expr)
      (λ off. deep_ahead (marked LBrace) (λ s w r e. brace_refused d s w r (leb-false _ _ off)) (λ e s u. (inside s).ends e u) deep_an_expr)

  deep_add_elem : (l : Listed Tree) (k : Read Tree) → Deepens AnyStop (add_elem d (readers d) l k) (λ e. add_elem (above d e) (readers (above d e)) l k)
  deep_add_elem l k = deep_take (marked Colon) (λ _. deep_bind deep_item (λ e. deep_pure _) (λ x w r g. reads _ refl g)) (deep_pure _)

  deep_elem : (l : Listed Tree) → Deepens AnyStop (elem d (readers d) l) (λ e. elem (above d e) (readers (above d e)) l)
  unfolding elem
  deep_elem l = deep_bind deep_item (deep_add_elem l) (λ k w r g. halt_take (marked Colon) _ _ (no_goes Colon w g refl) (reads _ refl g))

  pub deep_braces : Deepens Never (braces d (readers d)) (λ e. braces (above d e) (readers (above d e)))
  unfolding braces
  deep_braces = deep_parts Comma RBrace any_end (elem d (readers d)) (λ e. elem (above d e) (readers (above d e))) AnyStop Never deep_elem (λ l w g. no_goes Comma w g refl) (λ l w g. no_goes RBrace w g refl) empty
