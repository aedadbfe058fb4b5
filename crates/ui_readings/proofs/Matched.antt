-- The brackets in the words of types and expressions are matched.
use Rattle.std.proofs.Common.{Bool, true, false, List}
use Rattle.ui_scan.specs.declared.kind.TokenKind.{TokenKind}
use Rattle.ui_scan.specs.declared.kind.TokenKind.TheVariants.{LParen, RParen, LBracket, RBracket, LBrace, RBrace, Comma, Semi, Period, Colon, Ellipsis, Mul, Or, Tilde, Map, Func, Struct, Interface}
use Rattle.ui_tree.specs.Tree.{TypeTree, named, parenthesized, pointer, slice, array, counted, mapping, func, listed, struct, interface, method, union, tilde, Args, no_args, args, Types, types_end, type_and, Groups, groups_end, group_and, MaybeType, no_type, given_type, Tree, literal, name, paren, convert, composite, elided, keyed, instance, selector, assert, index, sliced, call, type_arg, unary, binary, Trees, trees_end, tree_and, MaybeTree, absent, given}
use Rattle.ui_grammar.specs.Word.{Word}
use Rattle.ui_grammar.specs.Operator.{mark_of, prefix_mark_of}
use Rattle.ui_grammar.specs.Both.{is_expression}
use Rattle.ui_grammar.specs.Spells.{SpellsType, SpellsMaybeType, SpellsArgs, SpellsSomeTypes, SpellsTypes, SpellsTypesTail, SpellsTerms, SpellsTermsTail, SpellsGroups, SpellsGroupsTail, Spells, SpellsMaybe, SpellsThird, SpellsInstance, SpellsInstanceTail, SpellsTrees, SpellsTreesTail}
use Rattle.ui_readings.proofs.WayBack.{Level, Until, IsApart, a_literal, a_name, apart_mark, apart_until, before_until, braces, brackets, colon_flat, comma_flat, ellipsis_flat, flat_apart, flat_mark, func_flat, interface_flat, level_if, level_labels, level_member, map_flat, mul_flat, nothing, op_flat, or_flat, pair, parens, period_flat, prefix_flat, semi_apart, struct_flat, then_level, tilde_flat, until_closes, until_mark, word_at}

mutual
  pub level_type : (t : TypeTree) (ts rest : List Word) → SpellsType t ts rest → Level ts rest
  level_type (named n p vs) ts rest (a, b, e, m, s) = then_level (a_name n ts a e) (then_level (level_member p a b m) (level_args vs b rest s))
  level_type (parenthesized x t) ts rest (a, b, e, s, m) = pair LParen RParen parens x ts a rest e (before_until (level_type t a b s) (until_mark RParen b rest m))
  level_type (pointer x t) ts rest (a, e, s) = then_level (word_at Mul x ts a mul_flat e) (level_type t a rest s)
  level_type (slice x t) ts rest (a, b, e, m, s) = then_level (pair LBracket RBracket brackets x ts a b e (until_mark RBracket a b m)) (level_type t b rest s)
  level_type (array x e t) ts rest (a, b, c, w, h, m, s) = then_level (pair LBracket RBracket brackets x ts a c w (before_until (level_expr e a b h) (until_mark RBracket b c m))) (level_type t c rest s)
  level_type (counted x t) ts rest (a, b, c, w, h, m, s) = then_level (pair LBracket RBracket brackets x ts a c w (before_until (flat_mark Ellipsis a b ellipsis_flat h) (until_mark RBracket b c m))) (level_type t c rest s)
  level_type (mapping x k t) ts rest (a, b, c, d, w, o, h, m, s) = then_level (word_at Map x ts a map_flat w) (then_level (pair LBracket RBracket brackets o.spot a b d o.is (before_until (level_type k b c h) (until_mark RBracket c d m))) (level_type t d rest s))
  level_type (func x gs r) ts rest (a, b, c, w, o, g, s) = then_level (word_at Func x ts a func_flat w) (then_level (pair LParen RParen parens o.spot a b c o.is (until_groups Comma RParen (flat_apart Comma comma_flat) gs b c g)) (level_maybe_type r c rest s))
  level_type (listed x gs) ts rest (a, w, g) = pair LParen RParen parens x ts a rest w (until_groups Comma RParen (flat_apart Comma comma_flat) gs a rest g)
  level_type (struct x gs) ts rest (a, b, w, o, g) = then_level (word_at Struct x ts a struct_flat w) (pair LBrace RBrace braces o.spot a b rest o.is (until_groups Semi RBrace semi_apart gs b rest g))
  level_type (interface x vs) ts rest (a, b, w, o, g) = then_level (word_at Interface x ts a interface_flat w) (pair LBrace RBrace braces o.spot a b rest o.is (until_types Semi RBrace semi_apart vs b rest g))
  level_type (method n gs r) ts rest (a, b, c, w, o, g, s) = then_level (a_name n ts a w) (then_level (pair LParen RParen parens o.spot a b c o.is (until_groups Comma RParen (flat_apart Comma comma_flat) gs b c g)) (level_maybe_type r c rest s))
  level_type (union x vs) ts rest (b, s) = level_terms vs ts rest s
  level_type (tilde x t) ts rest (a, w, s) = then_level (word_at Tilde x ts a tilde_flat w) (level_type t a rest s)

  level_maybe_type : (t : MaybeType) (ts rest : List Word) → SpellsMaybeType t ts rest → Level ts rest
  level_maybe_type no_type ts rest e = nothing ts rest e
  level_maybe_type (given_type t) ts rest s = level_type t ts rest s

  level_args : (vs : Args) (ts rest : List Word) → SpellsArgs vs ts rest → Level ts rest
  level_args no_args ts rest e = nothing ts rest e
  level_args (args vs) ts rest (a, m, s) = pair LBracket RBracket brackets m.spot ts a rest m.is (until_some_types vs a rest s)

  until_some_types : (vs : Types) (ts rest : List Word) → SpellsSomeTypes vs ts rest → Until RBracket ts rest
  until_some_types types_end ts rest s = absurd s
  until_some_types (type_and t vs) ts rest (a, s, g) = before_until (level_type t ts a s) (until_types_tail Comma RBracket (flat_apart Comma comma_flat) vs a rest g)

  until_types : (separator close : TokenKind) → IsApart separator → (vs : Types) (ts rest : List Word) → SpellsTypes separator close vs ts rest → Until close ts rest
  until_types separator close f types_end ts rest s = until_mark close ts rest s
  until_types separator close f (type_and t vs) ts rest (a, s, g) = before_until (level_type t ts a s) (until_types_tail separator close f vs a rest g)

  until_types_tail : (separator close : TokenKind) → IsApart separator → (vs : Types) (ts rest : List Word) → SpellsTypesTail separator close vs ts rest → Until close ts rest
  until_types_tail separator close f types_end ts rest s = until_closes separator close ts rest f s
  until_types_tail separator close f (type_and t vs) ts rest (a, b, m, s, g) = apart_until (apart_mark separator ts a f m) (before_until (level_type t a b s) (until_types_tail separator close f vs b rest g))

  level_terms : (vs : Types) (ts rest : List Word) → SpellsTerms vs ts rest → Level ts rest
  level_terms types_end ts rest s = absurd s
  level_terms (type_and t vs) ts rest (a, s, g) = then_level (level_type t ts a s) (level_terms_tail vs a rest g)

  level_terms_tail : (vs : Types) (ts rest : List Word) → SpellsTermsTail vs ts rest → Level ts rest
  level_terms_tail types_end ts rest e = nothing ts rest e
  level_terms_tail (type_and t vs) ts rest (a, b, m, s, g) = then_level (flat_mark Or ts a or_flat m) (then_level (level_type t a b s) (level_terms_tail vs b rest g))

  pub until_groups : (separator close : TokenKind) → IsApart separator → (gs : Groups) (ts rest : List Word) → SpellsGroups separator close gs ts rest → Until close ts rest
  until_groups separator close f groups_end ts rest s = until_mark close ts rest s
  until_groups separator close f (group_and ns t gs) ts rest (a, b, n, s, g) = before_until (level_labels ns ts a n) (before_until (level_type t a b s) (until_groups_tail separator close f gs b rest g))

  until_groups_tail : (separator close : TokenKind) → IsApart separator → (gs : Groups) (ts rest : List Word) → SpellsGroupsTail separator close gs ts rest → Until close ts rest
  until_groups_tail separator close f groups_end ts rest s = until_closes separator close ts rest f s
  until_groups_tail separator close f (group_and ns t gs) ts rest (a, b, c, m, n, s, g) = apart_until (apart_mark separator ts a f m) (before_until (level_labels ns a b n) (before_until (level_type t b c s) (until_groups_tail separator close f gs c rest g)))

  pub level_expr : (e : Tree) (ts rest : List Word) → Spells e ts rest → Level ts rest
  level_expr (literal x k v) ts rest s = a_literal k x v ts rest s
  level_expr (name n) ts rest s = a_name n ts rest s
  level_expr (paren x e) ts rest (a, b, w, s, m) = pair LParen RParen parens x ts a rest w (before_until (level_expr e a b s) (until_mark RParen b rest m))
  level_expr (convert x t e) ts rest (a, b, c, y, s, o, h, g) = then_level (level_type t ts a s) (pair LParen RParen parens o.spot a b rest o.is (before_until (level_expr e b c h) (until_closes Comma RParen c rest (flat_apart Comma comma_flat) g)))
  level_expr (composite x t es) ts rest (a, b, y, s, o, g) = then_level (level_type t ts a s) (pair LBrace RBrace braces o.spot a b rest o.is (until_trees RBrace false es b rest g))
  level_expr (elided x es) ts rest (a, w, g) = pair LBrace RBrace braces x ts a rest w (until_trees RBrace false es a rest g)
  level_expr (keyed x k e) ts rest (a, b, y, s, m, h) = then_level (level_expr k ts a s) (then_level (flat_mark Colon a b colon_flat m) (level_expr e b rest h))
  level_expr (instance x e vs) ts rest (a, b, y, s, m, g) = then_level (level_expr e ts a s) (pair LBracket RBracket brackets m.spot a b rest m.is (until_instance vs b rest g))
  level_expr (selector x e n) ts rest (a, b, y, s, m, h) = then_level (level_expr e ts a s) (then_level (flat_mark Period a b period_flat m) (a_name n b rest h))
  level_expr (assert x e t) ts rest (a, b, c, d, y, s, m, o, h, k) = then_level (level_expr e ts a s) (then_level (flat_mark Period a b period_flat m) (pair LParen RParen parens o.spot b c rest o.is (before_until (level_type t c d h) (until_mark RParen d rest k))))
  level_expr (index x e i) ts rest (a, b, c, y, s, o, h, k) = then_level (level_expr e ts a s) (pair LBracket RBracket brackets o.spot a b rest o.is (before_until (level_expr i b c h) (until_mark RBracket c rest k)))
  level_expr (sliced x e low high most) ts rest (a, b, c, d, g, h, y, s, o, l, m, z, u, t, k) =
      then_level (level_expr e ts a s) (pair LBracket RBracket brackets o.spot a b rest o.is (before_until (level_maybe low b c l) (before_until (flat_mark Colon c d colon_flat m) (before_until (level_maybe high d g u) (before_until (level_third most g h t) (until_mark RBracket h rest k))))))
  level_expr (call x e es spread) ts rest (a, b, y, s, o, g) = then_level (level_expr e ts a s) (pair LParen RParen parens o.spot a b rest o.is (until_trees RParen spread es b rest g))
  level_expr (type_arg t) ts rest s = level_type t ts rest s
  level_expr (unary x o e) ts rest (a, w, s) = then_level (word_at (prefix_mark_of o) x ts a (prefix_flat o) w) (level_expr e a rest s)
  level_expr (binary x o l r) ts rest (a, b, y, s, m, h) = then_level (level_expr l ts a s) (then_level (flat_mark (mark_of o) a b (op_flat o) m) (level_expr r b rest h))

  level_maybe : (e : MaybeTree) (ts rest : List Word) → SpellsMaybe e ts rest → Level ts rest
  level_maybe absent ts rest e = nothing ts rest e
  level_maybe (given e) ts rest s = level_expr e ts rest s

  level_third : (e : MaybeTree) (ts rest : List Word) → SpellsThird e ts rest → Level ts rest
  level_third absent ts rest e = nothing ts rest e
  level_third (given e) ts rest (a, m, s) = then_level (flat_mark Colon ts a colon_flat m) (level_expr e a rest s)

  until_instance : (vs : Types) (ts rest : List Word) → SpellsInstance vs ts rest → Until RBracket ts rest
  until_instance types_end ts rest s = absurd s
  until_instance (type_and t vs) ts rest (a, s, g) = before_until (level_type t ts a s) (until_instance_tail (is_expression t) vs a rest g)

  until_instance_tail : (b : Bool) (vs : Types) (ts rest : List Word) → SpellsInstanceTail b vs ts rest → Until RBracket ts rest
  until_instance_tail true types_end ts rest (a, m, k) = before_until (flat_mark Comma ts a comma_flat m) (until_mark RBracket a rest k)
  until_instance_tail false types_end ts rest s = until_closes Comma RBracket ts rest (flat_apart Comma comma_flat) s
  until_instance_tail true (type_and t vs) ts rest (a, b, m, s, g) = before_until (flat_mark Comma ts a comma_flat m) (before_until (level_type t a b s) (until_types_tail Comma RBracket (flat_apart Comma comma_flat) vs b rest g))
  until_instance_tail false (type_and t vs) ts rest (a, b, m, s, g) = before_until (flat_mark Comma ts a comma_flat m) (before_until (level_type t a b s) (until_types_tail Comma RBracket (flat_apart Comma comma_flat) vs b rest g))

  until_trees : (close : TokenKind) (spread : Bool) (es : Trees) (ts rest : List Word) → SpellsTrees close spread es ts rest → Until close ts rest
  until_trees close spread trees_end ts rest (e, m) = until_mark close ts rest m
  until_trees close spread (tree_and e es) ts rest (a, s, g) = before_until (level_expr e ts a s) (until_trees_tail close spread es a rest g)

  until_trees_tail : (close : TokenKind) (spread : Bool) (es : Trees) (ts rest : List Word) → SpellsTreesTail close spread es ts rest → Until close ts rest
  until_trees_tail close spread trees_end ts rest (a, i, c) = before_until (level_if spread ts a i) (until_closes Comma close a rest (flat_apart Comma comma_flat) c)
  until_trees_tail close spread (tree_and e es) ts rest (a, b, m, s, g) = before_until (flat_mark Comma ts a comma_flat m) (before_until (level_expr e a b s) (until_trees_tail close spread es b rest g))
