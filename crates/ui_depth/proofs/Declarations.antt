-- Declarations and files within enough.
use Rattle.std.proofs.Common.{◌≡◌, ℕ, zero, suc, ◌+◌, ◌*◌, ◌≤◌, max, Bool, true, false, List, [], length, Option, Some, None, refl, ◌∙◌, arith}
use Rattle.std.specs.Prelude.{nat_le}
use Rattle.ui_base.specs.declared.value.Spot.{Spot}
use Rattle.ui_scan.specs.declared.kind.TokenKind.TheVariants.{LParen, RParen, LBracket, RBracket, Comma, Semi, Assign, Mul, Tilde, Const, Var, Import as AnImport, «Type» as AType, Func, Package, End}
use Rattle.ui_tree.specs.declared.part.Placed.{Placed}
use Rattle.ui_tree.specs.declared.part.Group.{Group}
use Rattle.ui_tree.specs.Tree.{TypeTree, listed, MaybeType, no_type, given_type}
use Rattle.ui_tree.specs.Stmt.{Recv, MaybeGroups, Decl, method_decl, func_decl, File}
use Rattle.ui_tree.specs.View.{groups, kept}
use Rattle.ui_grammar.specs.Word.{Word}
use Rattle.ui_parse.specs.Reader.{Reader, and_then, ◌>>=◌, pure, take_by, marked, named as a_name, expect}
use Rattle.ui_parse.proofs.Steady.{Steady, steady_pure, steady_bind, steady_expect, steady_expect_name}
use Rattle.ui_syntax.specs.declared.site.TypeSite.TheVariants as at
use Rattle.ui_syntax.specs.Cover.{Read}
use Rattle.ui_syntax.specs.Types.{Nested, maybe_union, params, Results, result_of, results}
use Rattle.ui_syntax.specs.Read.{readers}
use Rattle.ui_syntax.proofs.SteadyTypes.{steady_or_refuse}
use Rattle.ui_stmts.specs.Common.{Sized, sized}
use Rattle.ui_stmts.proofs.SteadyStmts.{steady_names, steady_specs}
use Rattle.ui_stmts.proofs.SteadyDecls.{steady_import_spec}
use Rattle.ui_stmts.specs.Decls.{TypeParams, no_type_params, type_params_ending, maybe_bound, type_param, type_params, apart, type_params_apart, plain_group, bracketed_group, generic_group, type_spec, recv_end, recv_of, recv_named, receiver, Signature, signature, block, method_behind, func_behind, function, opened, maybe_decl, maybe_import, behind_each, each_from, each, decl_part, file, whole_file}
use Rattle.ui_depth.proofs.DeepParams.{then_take, take_each, then_each, then_then}
use Rattle.ui_depth.proofs.Settled.{Settled, settled_as, settled_same, settled_pure, settled_refuse, settled_bind, settled_if, settled_room, settled_take, settled_parts, settled_more_parts, settled_farther}
use Rattle.ui_depth.proofs.Syntax.{Wide, one_room, other_room, maybe_type_settled, type_settled, params_settled, bracket_settled, plain_type_settled, union_settled}
use Rattle.ui_depth.proofs.Values.{specs_settled, constant_decl_settled, variable_decl_settled}
use Rattle.ui_depth.proofs.Bodies.{a_body_settled}
use Rattle.ui_depth.proofs.Statements.{stmts_settled}

-- ---- signatures in one with what follows them

-- what goes on with parameters, results and their depth
abbrev Continue : Type 0 → Type 0
Continue B = List (Group TypeTree) → MaybeType → ℕ → Reader B

abbrev type_in : Option (Read TypeTree) → MaybeType
type_in None = no_type
type_in (Some t) = given_type t.tree

abbrev depth_in : Option (Read TypeTree) → ℕ
depth_in None = 0
depth_in (Some t) = t.depth

module _ {B : Type 0} (room : ℕ) (inner : Nested) where
  results_then : (MaybeType → ℕ → Reader B) → Reader B
  results_then go = take_by (marked LParen) (λ s. params room inner >>= (λ gs. go (given_type (listed s (groups kept gs.items))) gs.depth)) (inner.maybe_type at.Plain >>= (λ t. go (type_in t) (depth_in t)))

  maybe_then : (go : MaybeType → ℕ → Reader B) (t : Option (Read TypeTree)) (u : List Word) → go (result_of room inner t).of (result_of room inner t).depth u ≡ go (type_in t) (depth_in t) u
  maybe_then go None u = refl
  maybe_then go (Some t) u = refl

  then_results : (MaybeType → ℕ → Reader B) → Results room inner → Reader B
  then_results go r = go r.of r.depth

  results_are : (go : MaybeType → ℕ → Reader B) (ws : List Word) → and_then (results room inner ws) (then_results go) ≡ results_then go ws
  unfolding results results_then then_results
  results_are go ws = then_take (marked LParen) _ _ (then_results go) ws
      ∙ take_each (marked LParen) _ _ _ _ ws (λ s u. then_then (params room inner u) _ (then_results go)) (then_then (inner.maybe_type at.Plain ws) _ (then_results go) ∙ then_each (inner.maybe_type at.Plain ws) _ _ (maybe_then go))

module _ {B : Type 0} (room : ℕ) where
  then_signature : Continue B → Signature room → Reader B
  then_signature go g = go g.params g.of g.depth

  signature_then : Continue B → Reader B
  signature_then go = expect LParen >>= (λ _. params room (readers room) >>= (λ gs. results_then room (readers room) (λ of k. go gs.items of (suc (max gs.depth k)))))

  signature_is : (go : Continue B) (ws : List Word) → and_then (signature room ws) (then_signature go) ≡ signature_then go ws
  unfolding signature signature_then then_signature then_results
  signature_is go ws = then_then (expect LParen ws) _ (then_signature go)
      ∙ then_each (expect LParen ws) _ _ (λ _ u. then_then (params room (readers room) u) _ (then_signature go)
      ∙ then_each (params room (readers room) u) _ _ (λ gs v. then_then (results room (readers room) v) _ (then_signature go)
      ∙ results_are room (readers room) (λ of k. go gs.items of (suc (max gs.depth k))) v))

-- ---- within enough

-- budgets that are enough for a file of fewer than n words
pub record Roomy (n b c : ℕ) : Type 0 where
  pub one : 4 * n + 8 ≤ b
  pub other : 4 * n + 8 ≤ c

module _ {n b c : ℕ} (roomy : Roomy n b c) where
  wide : Wide n b c
  wide = record { one = omega (arith, roomy.one); other = omega (arith, roomy.other) }

  results_settled : {B : Type 0} (go go' : MaybeType → ℕ → Reader B) → ((of : MaybeType) (k : ℕ) → Settled n (go of k) (go' of k)) → Settled n (results_then b (readers b) go) (results_then c (readers c) go')
  unfolding results_then
  results_settled go go' same = settled_take (marked LParen) (λ s. settled_bind (params_settled wide) (λ gs. same _ _)) (settled_bind (maybe_type_settled wide at.Plain) (λ t. same (type_in t) (depth_in t)))

  signature_then_settled : {B : Type 0} (go go' : Continue B) → ((gs : List (Group TypeTree)) (of : MaybeType) (k : ℕ) → Settled n (go gs of k) (go' gs of k)) → Settled n (signature_then b go) (signature_then c go')
  unfolding signature_then
  signature_then_settled go go' same = settled_bind (settled_same (steady_expect LParen)) (λ _. settled_bind (params_settled wide)
      (λ gs. results_settled (λ of k. go gs.items of (suc (max gs.depth k))) (λ of k. go' gs.items of (suc (max gs.depth k))) (λ of k. same gs.items of (suc (max gs.depth k)))))

  signature_settled : {B : Type 0} (go go' : Continue B) → ((gs : List (Group TypeTree)) (of : MaybeType) (k : ℕ) → Settled n (go gs of k) (go' gs of k)) → Settled n (signature b >>= then_signature b go) (signature c >>= then_signature c go')
  signature_settled go go' same = settled_as (signature b >>= then_signature b go) (signature c >>= then_signature c go') (signature_is b go) (signature_is c go') (signature_then_settled go go' same)

  -- ---- type parameters

  bound_settled : Settled n (maybe_bound b) (maybe_bound c)
  bound_settled = settled_take (marked Tilde)
      (λ s. settled_bind (settled_bind (plain_type_settled wide) (λ t. settled_same (steady_or_refuse t))) (λ t. union_settled wide _))
      (settled_bind (plain_type_settled wide) maybe_union_settled)
    where
      maybe_union_settled : (x : Option (Read TypeTree)) → Settled n (maybe_union b (readers b) x) (maybe_union c (readers c) x)
      maybe_union_settled None = settled_pure None
      maybe_union_settled (Some t) = union_settled wide t

  type_param_settled : (ps : TypeParams) → Settled n (type_param b ps) (type_param c ps)
  type_param_settled ps = settled_bind (settled_same steady_expect_name) (λ p. settled_bind bound_settled (λ t. settled_pure _))

  type_params_settled : Settled n (type_params b) (type_params c)
  unfolding type_params
  type_params_settled = settled_bind (type_param_settled no_type_params) (λ ps. settled_more_parts Comma RBracket type_params_ending (type_param b) (type_param c) type_param_settled ps)

  apart_settled : (ps : TypeParams) → Settled n (apart b ps) (apart c ps)
  apart_settled ps = settled_if _ (settled_bind (settled_same (steady_expect Comma)) (λ _. settled_parts Comma RBracket type_params_ending (type_param b) (type_param c) type_param_settled ps))
      (settled_more_parts Comma RBracket type_params_ending (type_param b) (type_param c) type_param_settled ps)

  params_apart_settled : Settled n (type_params_apart b) (type_params_apart c)
  unfolding type_params_apart
  params_apart_settled = settled_bind (type_param_settled no_type_params) apart_settled

  -- ---- type declarations

  next : Wide n (suc b) (suc c)
  next = record { one = omega (arith, roomy.one); other = omega (arith, roomy.other) }

  plain_group_settled : (p : Placed) (alias : Bool) → Settled n (plain_group b p alias) (plain_group c p alias)
  plain_group_settled p alias = settled_bind (type_settled next) (λ t. settled_pure _)

  bracketed_group_settled : (p : Placed) (s : Spot) → Settled n (bracketed_group b p s) (bracketed_group c p s)
  bracketed_group_settled p s = settled_bind (bracket_settled wide at.Plain s) (λ t. settled_pure _)

  generic_group_settled : (p : Placed) → Settled n (generic_group b p) (generic_group c p)
  generic_group_settled p = settled_bind params_apart_settled (λ ps. settled_bind (type_settled next) (λ t. settled_pure _))

  type_spec_settled : Settled n (type_spec b) (type_spec c)
  unfolding type_spec
  type_spec_settled = settled_bind (settled_same steady_expect_name) (λ p.
      settled_take (marked Assign) (λ _. plain_group_settled p true)
      (settled_take (marked LBracket)
      (λ s. settled_room (nat_le 1 b) (nat_le 1 c) _ _ (one_room 1 wide (omega arith)) (other_room 1 wide (omega arith)) (settled_farther (bracketed_group_settled p s) (generic_group_settled p)))
      (plain_group_settled p false)))

  -- ---- functions and methods

  recv_end_settled : (s : Spot) (m : Option Placed) (pointer : Bool) (of : Placed) → Settled n (recv_end b s m pointer of) (recv_end c s m pointer of)
  recv_end_settled s m pointer of =
      settled_take (marked LBracket) (λ _. settled_bind (settled_same steady_names) (λ ns. settled_bind (settled_same (steady_expect RBracket)) (λ _. settled_bind (settled_same (steady_expect RParen)) (λ _. settled_pure _))))
      (settled_bind (settled_same (steady_expect RParen)) (λ _. settled_pure _))

  recv_of_settled : (s : Spot) (m : Option Placed) (pointer : Bool) → Settled n (recv_of b s m pointer) (recv_of c s m pointer)
  recv_of_settled s m pointer = settled_bind (settled_same steady_expect_name) (λ of. recv_end_settled s m pointer of)

  recv_named_settled : (s : Spot) (p : Placed) → Settled n (recv_named b s p) (recv_named c s p)
  recv_named_settled s p = settled_take (marked Mul) (λ _. recv_of_settled s (Some p) true) (settled_take a_name (λ of. recv_end_settled s (Some p) false of) (recv_end_settled s None false p))

  receiver_settled : (s : Spot) → Settled n (receiver b s) (receiver c s)
  unfolding receiver
  receiver_settled s = settled_take a_name (λ p. recv_named_settled s p) (settled_take (marked Mul) (λ _. recv_of_settled s None true) settled_refuse)

  block_settled : Settled n (block b) (block c)
  block_settled = a_body_settled next (stmts_settled n (suc b) (suc c) (omega (arith, roomy.one)) (omega (arith, roomy.other)))

  method_then : (s : Spot) (r : Recv) (m : Placed) → (room : ℕ) → Continue (Sized Decl)
  method_then s r m room gs of k = block room >>= (λ x. pure (sized (method_decl s r m (groups kept gs) of x.of) (max k x.depth)))

  func_then : (s : Spot) (m : Placed) (ps : MaybeGroups) (i : ℕ) → (room : ℕ) → Continue (Sized Decl)
  func_then s m ps i room gs of k = block room >>= (λ x. pure (sized (func_decl s m ps (groups kept gs) of x.of) (max i (max k x.depth))))

  method_behind_settled : (s : Spot) (r : Recv) → Settled n (method_behind b s r) (method_behind c s r)
  unfolding method_then then_signature
  method_behind_settled s r = settled_bind (settled_same steady_expect_name)
      (λ m. signature_settled (method_then s r m b) (method_then s r m c) (λ gs of k. settled_bind block_settled (λ x. settled_pure _)))

  func_behind_settled : (s : Spot) (m : Placed) (ps : MaybeGroups) (i : ℕ) → Settled n (func_behind b s m ps i) (func_behind c s m ps i)
  unfolding func_then then_signature
  func_behind_settled s m ps i = signature_settled (func_then s m ps i b) (func_then s m ps i c) (λ gs of k. settled_bind block_settled (λ x. settled_pure _))

  function_settled : (s : Spot) → Settled n (function b s) (function c s)
  unfolding function
  function_settled s = settled_take (marked LParen) (λ o. settled_bind (receiver_settled o) (λ r. method_behind_settled s r))
      (settled_bind (settled_same steady_expect_name)
      (λ m. settled_take (marked LBracket) (λ _. settled_bind type_params_settled (λ ps. func_behind_settled s m _ _)) (func_behind_settled s m _ _)))

  -- ---- declarations and files

  opened_settled : {p q : Reader (Sized Decl)} → Settled n p q → Settled n (opened b p) (opened c q)
  opened_settled h = settled_bind h (λ d. settled_pure (Some d))

  maybe_decl_settled : Settled n (maybe_decl b) (maybe_decl c)
  unfolding maybe_decl
  maybe_decl_settled = settled_take (marked Const) (λ s. opened_settled (settled_bind (constant_decl_settled next s) (λ x. settled_pure _)))
      (settled_take (marked Var) (λ s. opened_settled (settled_bind (variable_decl_settled next s) (λ x. settled_pure _)))
      (settled_take (marked AType) (λ s. opened_settled (settled_bind (specs_settled type_spec_settled) (λ ts. settled_pure _)))
      (settled_take (marked Func) (λ s. opened_settled (function_settled s)) (settled_pure None))))

  decl_part_settled : Settled n (decl_part b) (decl_part c)
  decl_part_settled = settled_bind maybe_decl_settled (λ d. settled_pure _)

  import_settled : Settled n (maybe_import b) (maybe_import c)
  import_settled = settled_take (marked AnImport) (λ s. settled_bind (settled_same (steady_specs steady_import_spec)) (λ is. settled_pure _)) (settled_pure None)

  module _ {X : Type 0} (p q : Reader (Option X)) (same : Settled n p q) where
    behind_each_settled : (again again' : List X → Reader (List X)) → ((l : List X) → Settled n (again l) (again' l)) → (l : List X) (x : Option X) → Settled n (behind_each b again l x) (behind_each c again' l x)
    behind_each_settled again again' is l None = settled_pure l
    behind_each_settled again again' is l (Some x) = settled_bind (settled_same (steady_expect Semi)) (λ _. is _)

    each_from_settled : (k : ℕ) (l : List X) → Settled n (each_from b p k l) (each_from c q k l)
    unfolding each_from
    each_from_settled zero l = settled_refuse
    each_from_settled (suc k) l = settled_bind same (behind_each_settled (each_from b p k) (each_from c q k) (each_from_settled k) l)

    each_settled : Settled n (each b p) (each c q)
    unfolding each
    each_settled = record { at = λ ws lt. (each_from_settled (suc (length ws)) []).at ws lt; ends = λ ws lt. (each_from_settled (suc (length ws)) []).ends ws lt }

  file_settled : Settled n (file b) (file c)
  unfolding file
  file_settled = settled_bind (settled_same (steady_expect Package)) (λ s. settled_bind (settled_same steady_expect_name) (λ p. settled_bind (settled_same (steady_expect Semi)) (λ _.
      settled_bind (each_settled (maybe_import b) (maybe_import c) import_settled) (λ is. settled_bind (each_settled (decl_part b) (decl_part c) decl_part_settled) (λ ds. settled_pure _)))))

  pub whole_settled : Settled n (whole_file b) (whole_file c)
  whole_settled = settled_bind file_settled (λ f. settled_same (steady_end f))
    where
      steady_end : (f : File) → Steady (expect End >>= (λ _. pure f))
      steady_end f = steady_bind (steady_expect End) (λ _. steady_pure f)
