-- Lists of types are read, and the names of types with their arguments.
use Rattle.std.proofs.Common.{◌≡◌, ℕ, suc, ◌≤◌, max, Bool, true, false, cond, List, ◌∷◌, ◌++◌, Option, Some, None, Ok, refl, ap, ◌∙◌, append_assoc, arith}
use Rattle.std.specs.Prelude.{nat_le}
use Rattle.std.proofs.lemmas.Bool.{le-leb}
use Rattle.std.proofs.lemmas.List.{append-nil}
use Rattle.ui_scan.specs.declared.kind.TokenKind.{TokenKind}
use Rattle.ui_scan.specs.declared.kind.TokenKind.TheVariants.{RBracket, LBracket, Comma, Period}
use Rattle.ui_tree.specs.declared.part.Placed.{Placed}
use Rattle.ui_tree.specs.Tree.{TypeTree, named, Args, no_args, args, Types, types_end, type_and}
use Rattle.ui_grammar.specs.Word.{Word, mark}
use Rattle.ui_grammar.specs.Spells.{SpellsType, SpellsArgs, SpellsTypes, SpellsTypesTail, Member}
use Rattle.ui_grammar.specs.Fits.{TypePlace, plain_type, name_depth, type_depth, types_depth, FitsType, FitsTypes, FitsArgs}
use Rattle.ui_parse.specs.Kind.{is_kind}
use Rattle.ui_parse.specs.Reader.{Outcome, Reader, and_then, pure, first, marked, take_by, parts, more_parts}
use Rattle.ui_parse.proofs.Outcomes.{take_mark, take_other, expect_name_ident, first_other}
use Rattle.ui_parse.proofs.Steady.{Steady}
use Rattle.ui_parse.proofs.TurnLaws.{parts_step, parts_close, more_next, more_ends}
use Rattle.ui_syntax.specs.Cover.{Read}
use Rattle.ui_syntax.specs.Types.{Listed, add, only, any_end, one_more, maybe_args, named_type, of_type}
use Rattle.ui_syntax.proofs.Quiet.{IsStop, stop_bracket, stop_comma, Stop, stop_mark, stop_closes, quiet_type_stop}
use Rattle.ui_syntax.proofs.SteadyTypes.{steady_one_more}
use Rattle.ui_syntax.proofs.CompleteTypesBase.{not_type_first, ReadAs, type_list, types_of_list, ReadsTypes}

pub pick_same : {A : Type 0} (c : Bool) (p q : Reader A) (ts : List Word) (y : Outcome A) → p ts ≡ y → q ts ≡ y → cond c p q ts ≡ y
pick_same true p q ts y e f = e
pick_same false p q ts y e f = f

pub room_is : (k n : ℕ) → k ≤ n → nat_le k n ≡ true
room_is k n le = le-leb _ _ le

-- what was read, and then these
abbrev pub with_types : Listed TypeTree → Types → Listed TypeTree
with_types l us = record { items = l.items ++ type_list us; depth = max l.depth (types_depth us) }

pub with_none : (l : Listed TypeTree) → l ≡ with_types l types_end
with_none l = let e : max l.depth 0 ≡ l.depth = omega arith in rw (append-nil, e) refl

pub with_one : (l : Listed TypeTree) (t : TypeTree) (us : Types) → with_types (add l t (type_depth t)) us ≡ with_types l (type_and t us)
with_one l t us =
    let e : max (max l.depth (type_depth t)) (types_depth us) ≡ max l.depth (max (type_depth t) (types_depth us)) = omega arith in
    rw (append_assoc, e) refl

module _ (separator close : TokenKind) (is_separator : IsStop separator) (is_close : IsStop close) (apart : is_kind close separator ≡ false) (q : TypePlace) (no_close : (t : TypeTree) (ts rest : List Word) → SpellsType t ts rest → FitsType t q → first (marked close) ts ≡ None) (r : ℕ) (type : Reader (Read TypeTree)) (steady : Steady type)
    (reads : (t : TypeTree) (ts rest : List Word) → SpellsType t ts rest → FitsType t q → type_depth t ≤ r → Stop rest → ReadAs (type ts) t (type_depth t) rest) where
  tail_stops : (us : Types) (ts rest : List Word) → SpellsTypesTail separator close us ts rest → Stop ts
  tail_stops types_end ts rest s = stop_closes separator close ts rest is_separator is_close s
  tail_stops (type_and t us) ts rest s = stop_mark separator ts s.0 is_separator s.2

  one_read : (l : Listed TypeTree) (t : TypeTree) (ts rest : List Word) → SpellsType t ts rest → FitsType t q → type_depth t ≤ r → Stop rest → one_more type l ts ≡ Ok (add l t (type_depth t), rest)
  one_read l t ts rest s fits le stops = rw (reads t ts rest s fits le stops).is refl

  first_read : (l : Listed TypeTree) (t : TypeTree) (ts rest : List Word) → SpellsType t ts rest → FitsType t q → type_depth t ≤ r → Stop rest
      → parts separator close any_end (one_more type) l ts ≡ more_parts separator close any_end (one_more type) (add l t (type_depth t)) rest
  first_read l t ts rest s fits le stops =
      parts_step separator close any_end (one_more type) (steady_one_more type steady) l ts (no_close t ts rest s fits)
      ∙ ap (λ (o : Outcome (Listed TypeTree)). and_then o (more_parts separator close any_end (one_more type))) (one_read l t ts rest s fits le stops)

  pub types_tail_read : (us : Types) (l : Listed TypeTree) (ts rest : List Word) → SpellsTypesTail separator close us ts rest → FitsTypes us q → types_depth us ≤ r
      → more_parts separator close any_end (one_more type) l ts ≡ Ok (with_types l us, rest)
  types_tail_read types_end l ts rest s fits le =
      more_ends separator close any_end (one_more type) (steady_one_more type steady) l ts rest refl apart s ∙ ap (λ (v : Listed TypeTree). Ok (v, rest)) (with_none l)
  types_tail_read (type_and t us) l ts rest s fits le =
      ap (more_parts separator close any_end (one_more type) l) s.2.is
      ∙ more_next separator close any_end (one_more type) (steady_one_more type steady) l s.2.spot s.0 refl
      ∙ first_read l t s.0 s.1 s.3 fits.0 (omega arith) (tail_stops us s.1 rest s.4)
      ∙ types_tail_read us (add l t (type_depth t)) s.1 rest s.4 fits.1 (omega arith)
      ∙ ap (λ (v : Listed TypeTree). Ok (v, rest)) (with_one l t us)

  pub types_read : (us : Types) (l : Listed TypeTree) (ts rest : List Word) → SpellsTypes separator close us ts rest → FitsTypes us q → types_depth us ≤ r
      → parts separator close any_end (one_more type) l ts ≡ Ok (with_types l us, rest)
  types_read types_end l ts rest s fits le =
      ap (parts separator close any_end (one_more type) l) s.is
      ∙ parts_close separator close any_end (one_more type) (steady_one_more type steady) l s.spot rest refl ∙ ap (λ (v : Listed TypeTree). Ok (v, rest)) (with_none l)
  types_read (type_and t us) l ts rest s fits le =
      first_read l t ts s.0 s.1 fits.0 (omega arith) (tail_stops us s.0 rest s.2)
      ∙ types_tail_read us (add l t (type_depth t)) s.0 rest s.2 fits.1 (omega arith)
      ∙ ap (λ (v : Listed TypeTree). Ok (v, rest)) (with_one l t us)

-- the first words of arguments, or of what follows where there are none
pub args_first : (k : TokenKind) (vs : Args) (ts rest : List Word) → is_kind LBracket k ≡ false → first (marked k) rest ≡ None → SpellsArgs vs ts rest → first (marked k) ts ≡ None
args_first k no_args ts rest other quiet s = rw s quiet
args_first k (args us) ts rest other quiet s = rw s.1.is (first_other k LBracket s.1.spot s.0 other)

pub name_within : (p : Placed) (m : Option Placed) (vs : Args) → name_depth m ≤ type_depth (named p m vs)
name_within p m no_args = omega arith
name_within p m (args us) = omega arith

-- ---- a name with its type arguments, within a budget one above the depth of those

module _ (r : ℕ) (type : Reader (Read TypeTree)) (steady : Steady type) (reads : ReadsTypes r type) where
  stopped : (t : TypeTree) (ts rest : List Word) → SpellsType t ts rest → FitsType t plain_type → type_depth t ≤ r → Stop rest → ReadAs (type ts) t (type_depth t) rest
  stopped t ts rest s fits le stops = reads t ts rest s fits le (quiet_type_stop t rest stops)

  -- behind a first argument
  pub args_tail_read : (us : Types) (l : Listed TypeTree) (ts rest : List Word) → SpellsTypesTail Comma RBracket us ts rest → FitsTypes us plain_type → types_depth us ≤ r
      → more_parts Comma RBracket any_end (one_more type) l ts ≡ Ok (with_types l us, rest)
  args_tail_read us l ts rest s fits le = types_tail_read Comma RBracket stop_comma stop_bracket refl plain_type (not_type_first RBracket (λ _. refl)) r type steady stopped us l ts rest s fits le

  pub args_tail_stops : (us : Types) (ts rest : List Word) → SpellsTypesTail Comma RBracket us ts rest → Stop ts
  args_tail_stops us ts rest s = tail_stops Comma RBracket stop_comma stop_bracket refl plain_type (not_type_first RBracket (λ _. refl)) r type steady stopped us ts rest s

  pub member_read : (p : Placed) (m : Option Placed) (vs : Args) (ts rest : List Word) → SpellsArgs vs ts rest → FitsArgs vs → type_depth (named p m vs) ≤ suc r → first (marked LBracket) rest ≡ None
      → maybe_args (suc r) type p m ts ≡ Ok (of_type (named p m vs) p.spot (type_depth (named p m vs)), rest)
  member_read p m no_args ts rest s fits le quiet =
      ap (maybe_args (suc r) type p m) s
      ∙ pick_same (nat_le (suc (name_depth m)) (suc r)) (take_by (marked LBracket) _ (pure _)) (pure _) rest (Ok (of_type (named p m no_args) p.spot (name_depth m), rest)) (take_other (marked LBracket) _ _ rest quiet) refl
  member_read p m (args types_end) ts rest s fits le quiet = absurd s.2
  member_read p m (args (type_and t us)) ts rest s fits le quiet =
      let first_arg = stopped t s.0 s.2.0 s.2.1 fits.0 (omega arith) (args_tail_stops us s.2.0 rest s.2.2) in
      let others = args_tail_read us (only t (type_depth t)) s.2.0 rest s.2.2 fits.1 (omega arith) in
      ap (maybe_args (suc r) type p m) s.1.is
      ∙ rw (room_is (suc (name_depth m)) (suc r) (omega arith), take_mark) (rw (first_arg.is, others, types_of_list us) refl)

  pub named_read : (p : Placed) (m : Option Placed) (vs : Args) (ts b rest : List Word) → Member m ts b → SpellsArgs vs b rest → FitsArgs vs → type_depth (named p m vs) ≤ suc r → first (marked Period) rest ≡ None → first (marked LBracket) rest ≡ None
      → named_type (suc r) type p ts ≡ Ok (of_type (named p m vs) p.spot (type_depth (named p m vs)), rest)
  unfolding named_type
  named_read p None vs ts b rest member s fits le no_dot no_bracket =
      let whole = member_read p None vs b rest s fits le no_bracket in
      ap (named_type (suc r) type p) member
      ∙ pick_same (nat_le 2 (suc r)) (take_by (marked Period) _ (maybe_args (suc r) type p None)) (maybe_args (suc r) type p None) b (Ok (of_type (named p None vs) p.spot (type_depth (named p None vs)), rest))
      (take_other (marked Period) _ (maybe_args (suc r) type p None) b (args_first Period vs b rest refl no_dot s) ∙ whole) whole
  named_read p (Some n) vs ts b rest member s fits le no_dot no_bracket =
      let whole = member_read p (Some n) vs b rest s fits le no_bracket in
      ap (named_type (suc r) type p) (member.1.is ∙ ap (λ (v : List Word). mark Period member.1.spot ∷ v) member.2)
      ∙ rw (room_is 2 (suc r) (omega (arith, name_within p (Some n) vs)), take_mark) (rw (expect_name_ident, whole) refl)
