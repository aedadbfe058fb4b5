-- Expressions and types: the readers of each budget that is enough for fewer than n words read the same.
use Rattle.std.proofs.Common.{◌≡◌, ℕ, ◌+◌, ◌*◌, ◌<◌, ◌≤◌, Bool, true, List, length, arith}
use Rattle.std.specs.Prelude.{nat_le}
use Rattle.std.proofs.lemmas.Bool.{le-leb}
use Rattle.ui_base.specs.declared.value.Spot.{Spot}
use Rattle.ui_tree.specs.Tree.{TypeTree}
use Rattle.ui_grammar.specs.Word.{Word}
use Rattle.ui_parse.proofs.Outcomes.{holds_at}
use Rattle.ui_syntax.specs.declared.site.TypeSite.{TypeSite}
use Rattle.ui_syntax.specs.Cover.{Read}
use Rattle.ui_syntax.specs.Types.{params, bracket_type, plain_type, union_from}
use Rattle.ui_syntax.specs.Read.{readers, place_of, expr, type}
use Rattle.ui_syntax.proofs.SteadyTypes.{steady_params, steady_bracket_type, steady_plain_type, steady_union_from}
use Rattle.ui_syntax.proofs.Steady.{readers_steady, expr_steady, type_steady}
use Rattle.ui_depth.proofs.Depths.{Each, expr_depth}
use Rattle.ui_depth.proofs.DeepParams.{deep_params}
use Rattle.ui_depth.proofs.DeepTypes.{deep_bracket_type, deep_plain_type, deep_union_from}
use Rattle.ui_depth.proofs.Readers.{are_deeper}
use Rattle.ui_depth.proofs.Passes.{expr_deeper, type_deeper}
use Rattle.ui_depth.proofs.Settled.{Settled}
use Rattle.ui_depth.proofs.Enough.{enough}

-- two budgets that are enough for fewer than n words
pub record Wide (n b c : ℕ) : Type 0 where
  pub one : 4 * n + 4 ≤ b
  pub other : 4 * n + 4 ≤ c

pub one_room : {n b c : ℕ} (k : ℕ) → Wide n b c → k ≤ 4 → nat_le k b ≡ true
one_room k w le = le-leb _ _ (omega (arith, w.one, le))

pub other_room : {n b c : ℕ} (k : ℕ) → Wide n b c → k ≤ 4 → nat_le k c ≡ true
other_room k w le = le-leb _ _ (omega (arith, w.other, le))

module _ {n b c : ℕ} (wide : Wide n b c) where
  pub expr_settled : (header : Bool) → Settled n (expr b header) (expr c header)
  expr_settled header = enough (λ k. expr k header) (expr_deeper header) (λ k ws. (expr_steady k header).ends ws) n b c (omega (arith, wide.one)) (omega (arith, wide.other))

  -- what is read of so few words is no deeper
  pub expr_small : (header : Bool) (ws : List Word) → length ws < n → Each (λ x. x.depth ≤ 4 * n) (expr b header ws)
  expr_small header ws lt =
      holds_at (expr_depth (4 * n) (place_of header) 1 ws (omega arith)) ((enough (λ k. expr k header) (expr_deeper header) (λ k ws. (expr_steady k header).ends ws) n (4 * n) b (omega arith) (omega (arith, wide.one))).at ws lt)

  pub maybe_type_settled : (p : TypeSite) → Settled n ((readers b).maybe_type p) ((readers c).maybe_type p)
  maybe_type_settled p = enough (λ k. (readers k).maybe_type p) (λ k. (are_deeper k).maybe_type p) (λ k ws. ((readers_steady k).maybe_type p).ends ws) n b c (omega (arith, wide.one)) (omega (arith, wide.other))

  pub type_settled : Settled n (type b) (type c)
  type_settled = enough type type_deeper (λ k ws. (type_steady k).ends ws) n b c (omega (arith, wide.one)) (omega (arith, wide.other))

  pub params_settled : Settled n (params b (readers b)) (params c (readers c))
  params_settled = enough (λ k. params k (readers k)) (λ k. deep_params k (are_deeper k)) (λ k ws. (steady_params k (readers k) (readers_steady k)).ends ws) n b c (omega (arith, wide.one)) (omega (arith, wide.other))

  pub bracket_settled : (p : TypeSite) (s : Spot) → Settled n (bracket_type b (readers b) p s) (bracket_type c (readers c) p s)
  bracket_settled p s = enough (λ k. bracket_type k (readers k) p s) (λ k. deep_bracket_type k (are_deeper k) p s) (λ k ws. (steady_bracket_type k (readers k) (readers_steady k) p s).ends ws) n b c (omega (arith, wide.one)) (omega (arith, wide.other))

  pub plain_type_settled : Settled n (plain_type b (readers b)) (plain_type c (readers c))
  plain_type_settled = enough (λ k. plain_type k (readers k)) (λ k. deep_plain_type k (are_deeper k)) (λ k ws. (steady_plain_type k (readers k) (readers_steady k)).ends ws) n b c (omega (arith, wide.one)) (omega (arith, wide.other))

  pub union_settled : (t : Read TypeTree) → Settled n (union_from b (readers b) t) (union_from c (readers c) t)
  union_settled t = enough (λ k. union_from k (readers k) t) (λ k. deep_union_from k (are_deeper k) t) (λ k ws. (steady_union_from k (readers k) (readers_steady k) t).ends ws) n b c (omega (arith, wide.one)) (omega (arith, wide.other))
