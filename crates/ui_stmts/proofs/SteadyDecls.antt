-- Readers of declarations and files depend on the words up to the next one alone.
use Rattle.std.proofs.Common.{◌≡◌, ℕ, zero, suc, ◌<◌, Bool, true, false, List, [], length, Option, Some, None, refl, arith}
use Rattle.ui_base.specs.declared.value.Spot.{Spot}
use Rattle.ui_scan.specs.declared.kind.TokenKind.TheVariants.{LParen, RParen, LBracket, RBracket, Comma, Semi, Assign, Mul, Tilde, Const, Var, Import as AnImport, «Type» as AType, Func, Package}
use Rattle.ui_tree.specs.declared.part.Placed.{Placed}
use Rattle.ui_tree.specs.Stmt.{Recv, MaybeGroups, Decl}
use Rattle.ui_grammar.specs.Word.{Word}
use Rattle.ui_parse.specs.Reader.{Reader, marked, named as a_name}
use Rattle.ui_parse.proofs.Alike.{suffix_length}
use Rattle.ui_parse.proofs.Steady.{Steady, steady_pure, steady_refuse, steady_bind, steady_if, steady_take, steady_expect, steady_expect_name, steady_parts, steady_more_parts, bind_same, steady_by_length}
use Rattle.ui_syntax.specs.declared.site.TypeSite.TheVariants as at
use Rattle.ui_syntax.proofs.Steady.{readers_steady, type_steady}
use Rattle.ui_syntax.proofs.SteadyTypes.{steady_or_refuse, steady_plain_type, steady_union_from, steady_maybe_union, steady_bracket_type, steady_params, steady_results}
use Rattle.ui_syntax.specs.Read.{readers}
use Rattle.ui_stmts.specs.Common.{Sized}
use Rattle.ui_stmts.specs.Stmts.{stmt_readers}
use Rattle.ui_stmts.specs.Decls.{a_string, expect_string, import_spec, TypeParams, no_type_params, type_params_ending, maybe_bound, type_param, type_params, apart, type_params_apart, plain_group, bracketed_group, generic_group, type_spec, recv_end, recv_of, recv_named, receiver, signature, block, method_behind, func_behind, function, opened, maybe_decl, maybe_import, behind_each, each_from, each, decl_part, file}
use Rattle.ui_stmts.proofs.SteadyParts.{steady_farther, expect_same}
use Rattle.ui_stmts.proofs.SteadyStmts.{steady_names, steady_specs, steady_constant_decl, steady_variable_decl, steady_a_body}
use Rattle.ui_stmts.proofs.SteadyStmt.{stmts_steady}

-- ---- imports

steady_expect_string : Steady expect_string
steady_expect_string = steady_take a_string (λ p. steady_pure p) steady_refuse

pub steady_import_spec : Steady import_spec
unfolding import_spec
steady_import_spec = steady_take a_name (λ n. steady_bind steady_expect_string (λ p. steady_pure _)) (steady_bind steady_expect_string (λ p. steady_pure _))

module _ (room : ℕ) where
  -- ---- type parameters

  steady_maybe_bound : Steady (maybe_bound room)
  steady_maybe_bound = steady_take (marked Tilde)
      (λ s. steady_bind (steady_bind (steady_plain_type room (readers room) (readers_steady room)) steady_or_refuse) (λ t. steady_union_from room (readers room) (readers_steady room) _))
      (steady_bind (steady_plain_type room (readers room) (readers_steady room)) (steady_maybe_union room (readers room) (readers_steady room)))

  pub steady_type_param : (ps : TypeParams) → Steady (type_param room ps)
  steady_type_param ps = steady_bind steady_expect_name (λ p. steady_bind steady_maybe_bound (λ t. steady_pure _))

  pub steady_type_params : Steady (type_params room)
  unfolding type_params
  steady_type_params = steady_bind (steady_type_param no_type_params) (λ ps. steady_more_parts Comma RBracket type_params_ending (type_param room) steady_type_param ps)

  steady_apart : (ps : TypeParams) → Steady (apart room ps)
  steady_apart ps = steady_if _ (steady_bind (steady_expect Comma) (λ _. steady_parts Comma RBracket type_params_ending (type_param room) steady_type_param ps)) (steady_more_parts Comma RBracket type_params_ending (type_param room) steady_type_param ps)

  pub steady_type_params_apart : Steady (type_params_apart room)
  unfolding type_params_apart
  steady_type_params_apart = steady_bind (steady_type_param no_type_params) steady_apart

  -- ---- type declarations

  steady_plain_group : (p : Placed) (alias : Bool) → Steady (plain_group room p alias)
  steady_plain_group p alias = steady_bind (type_steady (suc room)) (λ t. steady_pure _)

  pub steady_bracketed_group : (p : Placed) (s : Spot) → Steady (bracketed_group room p s)
  steady_bracketed_group p s = steady_bind (steady_bracket_type room (readers room) (readers_steady room) at.Plain s) (λ t. steady_pure _)

  pub steady_generic_group : (p : Placed) → Steady (generic_group room p)
  steady_generic_group p = steady_bind steady_type_params_apart (λ ps. steady_bind (type_steady (suc room)) (λ t. steady_pure _))

  pub steady_type_spec : Steady (type_spec room)
  unfolding type_spec
  steady_type_spec = steady_bind steady_expect_name (λ p.
      steady_take (marked Assign) (λ _. steady_plain_group p true)
      (steady_take (marked LBracket) (λ s. steady_if _ (steady_farther (steady_bracketed_group p s) (steady_generic_group p)) (steady_generic_group p)) (steady_plain_group p false)))

  -- ---- functions and methods

  steady_recv_end : (s : Spot) (n : Option Placed) (pointer : Bool) (of : Placed) → Steady (recv_end room s n pointer of)
  steady_recv_end s n pointer of =
      steady_take (marked LBracket) (λ _. steady_bind steady_names (λ ns. steady_bind (steady_expect RBracket) (λ _. steady_bind (steady_expect RParen) (λ _. steady_pure _))))
      (steady_bind (steady_expect RParen) (λ _. steady_pure _))

  steady_recv_of : (s : Spot) (n : Option Placed) (pointer : Bool) → Steady (recv_of room s n pointer)
  steady_recv_of s n pointer = steady_bind steady_expect_name (λ of. steady_recv_end s n pointer of)

  steady_recv_named : (s : Spot) (p : Placed) → Steady (recv_named room s p)
  steady_recv_named s p = steady_take (marked Mul) (λ _. steady_recv_of s (Some p) true) (steady_take a_name (λ of. steady_recv_end s (Some p) false of) (steady_recv_end s None false p))

  pub steady_receiver : (s : Spot) → Steady (receiver room s)
  unfolding receiver
  steady_receiver s = steady_take a_name (λ p. steady_recv_named s p) (steady_take (marked Mul) (λ _. steady_recv_of s None true) steady_refuse)

  pub steady_signature : Steady (signature room)
  unfolding signature
  steady_signature = steady_bind (steady_expect LParen) (λ _. steady_bind (steady_params room (readers room) (readers_steady room)) (λ gs. steady_bind (steady_results room (readers room) (readers_steady room)) (λ r. steady_pure _)))

  steady_block : Steady (block room)
  steady_block = steady_a_body (suc room) (stmt_readers (suc room)) (stmts_steady (suc room))

  pub steady_method_behind : (s : Spot) (r : Recv) → Steady (method_behind room s r)
  steady_method_behind s r = steady_bind steady_expect_name (λ n. steady_bind steady_signature (λ g. steady_bind steady_block (λ b. steady_pure _)))

  pub steady_func_behind : (s : Spot) (n : Placed) (ps : MaybeGroups) (k : ℕ) → Steady (func_behind room s n ps k)
  steady_func_behind s n ps k = steady_bind steady_signature (λ g. steady_bind steady_block (λ b. steady_pure _))

  pub steady_function : (s : Spot) → Steady (function room s)
  unfolding function
  steady_function s = steady_take (marked LParen) (λ o. steady_bind (steady_receiver o) (λ r. steady_method_behind s r))
      (steady_bind steady_expect_name (λ n. steady_take (marked LBracket) (λ _. steady_bind steady_type_params (λ ps. steady_func_behind s n _ _)) (steady_func_behind s n _ _)))

  -- ---- declarations and files

  steady_opened : {p : Reader (Sized Decl)} → Steady p → Steady (opened room p)
  steady_opened p_is = steady_bind p_is (λ d. steady_pure _)

  pub steady_maybe_decl : Steady (maybe_decl room)
  unfolding maybe_decl
  steady_maybe_decl = steady_take (marked Const) (λ s. steady_opened (steady_bind (steady_constant_decl (suc room) s) (λ c. steady_pure _)))
      (steady_take (marked Var) (λ s. steady_opened (steady_bind (steady_variable_decl (suc room) s) (λ c. steady_pure _)))
      (steady_take (marked AType) (λ s. steady_opened (steady_bind (steady_specs steady_type_spec) (λ ts. steady_pure _)))
      (steady_take (marked Func) (λ s. steady_opened (steady_function s)) (steady_pure None))))

  pub steady_maybe_import : Steady (maybe_import room)
  steady_maybe_import = steady_take (marked AnImport) (λ s. steady_bind (steady_specs steady_import_spec) (λ is. steady_pure _)) (steady_pure None)

  module _ {X : Type 0} (p : Reader (Option X)) (p_is : Steady p) where
    steady_behind_each : (again : List X → Reader (List X)) → ((l : List X) → Steady (again l)) → (l : List X) (x : Option X) → Steady (behind_each room again l x)
    steady_behind_each again again_is l None = steady_pure l
    steady_behind_each again again_is l (Some x) = steady_bind (steady_expect Semi) (λ _. again_is _)

    steady_each_from : (n : ℕ) (l : List X) → Steady (each_from room p n l)
    unfolding each_from
    steady_each_from zero l = steady_refuse
    steady_each_from (suc n) l = steady_bind p_is (steady_behind_each (each_from room p n) (steady_each_from n) l)

    behind_each_same : (again again' : List X → Reader (List X)) (l : List X) (x : Option X) (ws : List Word) → ((l2 : List X) (rest : List Word) → length rest < length ws → again l2 rest ≡ again' l2 rest) → behind_each room again l x ws ≡ behind_each room again' l x ws
    behind_each_same again again' l None ws same = refl
    behind_each_same again again' l (Some x) ws same = expect_same Semi _ _ ws (λ _. same _)

    pub each_fuel : (n m : ℕ) (l : List X) (ws : List Word) → length ws < n → length ws < m → each_from room p n l ws ≡ each_from room p m l ws
    unfolding each_from
    each_fuel zero m l ws lt lt' = absurd (omega arith)
    each_fuel (suc n) zero l ws lt lt' = absurd (omega arith)
    each_fuel (suc n) (suc m) l ws lt lt' = bind_same ws (p ws) (behind_each room (each_from room p n) l) (behind_each room (each_from room p m) l) (p_is.ends ws)
        (λ x r sfx. behind_each_same (each_from room p n) (each_from room p m) l x r (λ l2 rest less. each_fuel n m l2 rest (omega (arith, suffix_length ws r sfx)) (omega (arith, suffix_length ws r sfx))))

    pub steady_each : Steady (each room p)
    unfolding each
    steady_each = steady_by_length (λ n. each_from room p n []) (λ n. steady_each_from n []) (λ n m ws. each_fuel n m [] ws)

  pub steady_decl_part : Steady (decl_part room)
  steady_decl_part = steady_bind steady_maybe_decl (λ d. steady_pure _)

  pub file_steady : Steady (file room)
  unfolding file
  file_steady = steady_bind (steady_expect Package) (λ s. steady_bind steady_expect_name (λ p. steady_bind (steady_expect Semi) (λ _.
      steady_bind (steady_each (maybe_import room) steady_maybe_import) (λ is. steady_bind (steady_each (decl_part room) steady_decl_part) (λ ds. steady_pure _)))))
