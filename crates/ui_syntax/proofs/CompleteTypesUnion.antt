-- The elements of interfaces are read: methods and unions.
use Rattle.std.proofs.Common.{◌≡◌, ℕ, suc, ◌≤◌, Bool, true, false, List, ◌∷◌, Option, Some, None, Ok, refl, sym, ap, subst, ◌∙◌, arith}
use Rattle.ui_base.specs.declared.value.Spot.{Spot}
use Rattle.ui_scan.specs.declared.kind.TokenKind.TheVariants.{LParen, Period, Or, Tilde}
use Rattle.ui_tree.specs.declared.part.Placed.{Placed}
use Rattle.ui_tree.specs.Tree.{TypeTree, named, method, union, tilde, Args, Types, types_end, type_and, Groups, MaybeType}
use Rattle.ui_grammar.specs.Word.{Word, ident, mark, Begins}
use Rattle.ui_grammar.specs.Spells.{SpellsType, SpellsTermsTail, SpellsArgs, Member}
use Rattle.ui_grammar.specs.Fits.{plain_type, interface_element, term as term_place, is_named, type_depth, types_depth, FitsType, FitsTypes}
use Rattle.ui_parse.specs.Reader.{Reader, first, marked, named as a_name, chain}
use Rattle.ui_parse.proofs.Outcomes.{take_mark, take_other, take_ident}
use Rattle.ui_parse.proofs.TurnLaws.{chain_end, chain_next}
use Rattle.ui_syntax.specs.declared.site.TypeSite.TheVariants as at
use Rattle.ui_syntax.specs.Cover.{Read}
use Rattle.ui_syntax.specs.Types.{Nested, Listed, add, only, of_type, one_more, signature, method_of, plain_type as plain_reader, term, union_from, element}
use Rattle.ui_syntax.proofs.ByBudget.{QuietType, QuietAt, NoType, TypeReadsTo}
use Rattle.ui_syntax.proofs.Quiet.{no_type_or}
use Rattle.ui_syntax.proofs.Places.{TermCase, one_type, with_tilde, term_case}
use Rattle.ui_syntax.proofs.FirstWords.{same_spot}
use Rattle.ui_syntax.proofs.SteadyTypes.{steady_one_more, steady_term}
use Rattle.ui_syntax.proofs.CompleteTypesBase.{Below, ReadAs, MaybeAs, maybe_as, same_read, or_refused, not_type_first, types_of_list}
use Rattle.ui_syntax.proofs.CompleteTypesLists.{with_types, with_none, with_one, args_first}
use Rattle.ui_syntax.proofs.CompleteTypesSignature.{method_signature, quiet_method}
use Rattle.ui_syntax.proofs.CompleteTypesOperand.{found, opened_is}
use Rattle.ui_syntax.proofs.CompleteTypesPlain.{begins_with, reads_to, plain_read, other_read, name_read}

-- no type goes on
pub record QuietTerm (ts : List Word) : Type 0 where
  pub no_type : NoType ts
  pub no_dot : first (marked Period) ts ≡ None

pub quiet_term : (t : TypeTree) (ts : List Word) → QuietTerm ts → QuietType t ts
quiet_term t ts q = record { no_dot = q.no_dot; no_bracket = q.no_type.no_bracket; no_result = λ _. q.no_type }

pub terms_quiet : (us : Types) (ts rest : List Word) → SpellsTermsTail us ts rest → QuietTerm rest → QuietTerm ts
terms_quiet types_end ts rest s q = subst QuietTerm (sym s) q
terms_quiet (type_and t us) ts rest s q = subst QuietTerm (sym s.2.is) (record { no_type = no_type_or s.2.spot s.0; no_dot = refl })

module _ (room low : ℕ) (inner : Nested) (has : Below room low inner) where
  pub plain_is : (t : TypeTree) (ts rest : List Word) → SpellsType t ts rest → FitsType t plain_type → type_depth t ≤ suc room → QuietTerm rest → MaybeAs (plain_reader room inner ts) t (type_depth t) rest
  plain_is t ts rest s fits le q = maybe_as (plain_reader room inner ts) t ts rest (plain_read room low inner has t ts rest s fits le (quiet_term t rest q))

  one_term : (t : TypeTree) (ts rest : List Word) → SpellsType t ts rest → TermCase t → type_depth t ≤ suc room → QuietTerm rest → ReadAs (term room inner ts) t (type_depth t) rest
  unfolding term
  one_term t ts rest s (one_type fits) le q =
      let x = or_refused (plain_reader room inner ts) t (type_depth t) rest (plain_is t ts rest s fits le q) in
      record { spot = x.spot; is = take_other (marked Tilde) _ _ ts (not_type_first Tilde (λ _. refl) t ts rest s fits) ∙ x.is }
  one_term t ts rest s (with_tilde y u e fits) le q =
      let spelled : SpellsType (tilde y u) ts rest = subst (λ (v : TypeTree). SpellsType v ts rest) e s in
      let x = plain_is u spelled.0 rest spelled.2 fits (omega (arith, ap type_depth e)) q in
      subst (λ (v : TypeTree). ReadAs (term room inner ts) v (type_depth v) rest) (sym e) (record { spot = y; is = ap (term room inner) spelled.1 ∙ take_mark Tilde _ _ y spelled.0 ∙ rw x.is refl })

  abbrev terms : Listed TypeTree → Reader (Listed TypeTree)
  terms = chain Or (one_more (term room inner))

  terms_tail_read : (us : Types) (l : Listed TypeTree) (ts rest : List Word) → SpellsTermsTail us ts rest → FitsTypes us term_place → types_depth us ≤ suc room → QuietTerm rest → first (marked Or) rest ≡ None → terms l ts ≡ Ok (with_types l us, rest)
  terms_tail_read types_end l ts rest s fits le q no_or =
      ap (terms l) s ∙ chain_end Or (one_more (term room inner)) (steady_one_more (term room inner) (steady_term room inner has.steady)) l rest no_or ∙ ap (λ (v : Listed TypeTree). Ok (v, rest)) (with_none l)
  terms_tail_read (type_and t us) l ts rest s fits le q no_or =
      let x = one_term t s.0 s.1 s.3 (term_case t fits.0) (omega arith) (terms_quiet us s.1 rest s.4 q) in
      ap (terms l) s.2.is
      ∙ chain_next Or (one_more (term room inner)) (steady_one_more (term room inner) (steady_term room inner has.steady)) l s.2.spot s.0 (add l t (type_depth t)) s.1 (rw x.is refl)
      ∙ terms_tail_read us (add l t (type_depth t)) s.1 rest s.4 fits.1 (omega arith) q no_or
      ∙ ap (λ (v : Listed TypeTree). Ok (v, rest)) (with_one l t us)

  -- behind a first term
  pub union_is : (t : TypeTree) (us : Types) (x : Spot) (ts rest : List Word) → SpellsTermsTail us ts rest → FitsTypes us term_place → types_depth us ≤ suc room → QuietTerm rest → first (marked Or) rest ≡ None
      → union_from room inner (of_type t x (type_depth t)) ts ≡ found (union x (type_and t us)) x rest
  unfolding union_from
  union_is t us x ts rest s fits le q no_or = rw (terms_tail_read us (only t (type_depth t)) ts rest s fits le q no_or) (rw types_of_list refl)

  -- ---- by the first term

  record UnionFrom (t : TypeTree) (ts a : List Word) : Type 0 where
    spot : Spot
    is : element room inner ts ≡ union_from room inner (of_type t spot (type_depth t)) a
    begins : Begins spot ts

  not_paren : (p : Placed) (m : Option Placed) (vs : Args) (ts b rest : List Word) → Member m ts b → SpellsArgs vs b rest → first (marked LParen) rest ≡ None → first (marked LParen) ts ≡ None
  not_paren p None vs ts b rest member s no_paren = rw member (args_first LParen vs b rest refl no_paren s)
  not_paren p (Some n) vs ts b rest member s no_paren = ap (first (marked LParen)) member.1.is

  by_name : (n : Bool) (t : TypeTree) (ts a : List Word) → is_named t ≡ n → SpellsType t ts a → FitsType t plain_type → type_depth t ≤ suc room → QuietTerm a → UnionFrom t ts a
  unfolding element
  by_name true (named p m vs) ts a e s fits le q =
      record {
        spot = p.spot;
        is = ap (element room inner) s.2 ∙ take_ident _ _ p s.0 ∙ take_other (marked LParen) _ _ s.0 (not_paren p m vs s.0 s.1 a s.3 s.4 q.no_type.no_paren) ∙ rw (name_read room low inner has p m vs ts a s fits le (quiet_term (named p m vs) a q)) refl;
        begins = begins_with (ident p) ts s.0 s.2;
      }
  by_name true _ ts a e s fits le q = absurd cc
  by_name false t ts a e s fits le q =
      let x = other_read room low inner has t ts a e s fits le (quiet_term t a q) in
      record {
        spot = x.1.read.spot;
        is = take_other a_name _ _ ts x.0 ∙ take_other (marked Tilde) _ _ ts (not_type_first Tilde (λ _. refl) t ts a s fits) ∙ rw x.1.is (ap (λ (v : Read TypeTree). union_from room inner v a) (same_read x.1.read t (type_depth t) x.1.tree x.1.depth));
        begins = x.1.begins;
      }

  first_term : (t : TypeTree) (ts a : List Word) → SpellsType t ts a → TermCase t → type_depth t ≤ suc room → QuietTerm a → UnionFrom t ts a
  unfolding element
  first_term t ts a s (one_type fits) le q = by_name (is_named t) t ts a refl s fits le q
  first_term t ts a s (with_tilde y u e fits) le q =
      let spelled : SpellsType (tilde y u) ts a = subst (λ (v : TypeTree). SpellsType v ts a) e s in
      let x = plain_is u spelled.0 a spelled.2 fits (omega (arith, ap type_depth e)) q in
      subst (λ (v : TypeTree). UnionFrom v ts a) (sym e)
      (record {
        spot = y;
        is = ap (element room inner) spelled.1 ∙ take_other a_name _ _ (mark Tilde y ∷ spelled.0) refl ∙ take_mark Tilde _ _ y spelled.0 ∙ rw x.is refl;
        begins = begins_with (mark Tilde y) ts spelled.0 spelled.1;
      })

  union_by : (x : Spot) (t : TypeTree) (us : Types) (ts a rest : List Word) → UnionFrom t ts a → Begins x ts → SpellsTermsTail us a rest → FitsTypes us term_place → types_depth us ≤ suc room → QuietTerm rest → first (marked Or) rest ≡ None
      → TypeReadsTo (element room inner ts) (union x (type_and t us)) ts rest
  union_by x t us ts a rest f begins s fits le q no_or =
      subst (λ (y : Spot). TypeReadsTo (element room inner ts) (union y (type_and t us)) ts rest) (same_spot f.spot x ts f.begins begins)
      (reads_to _ (union f.spot (type_and t us)) f.spot ts rest (f.is ∙ union_is t us f.spot a rest s fits le q no_or) f.begins)

  union_read : (x : Spot) (us : Types) (ts rest : List Word) → SpellsType (union x us) ts rest → FitsType (union x us) interface_element → type_depth (union x us) ≤ suc room → QuietTerm rest → first (marked Or) rest ≡ None → TypeReadsTo (element room inner ts) (union x us) ts rest
  union_read x types_end ts rest s fits le q no_or = absurd s.1
  union_read x (type_and t us) ts rest s fits le q no_or =
      union_by x t us ts s.1.0 rest (first_term t ts s.1.0 s.1.1 (term_case t fits.1.0) (omega arith) (terms_quiet us s.1.0 rest s.1.2 q)) s.0 s.1.2 fits.1.1 (omega arith) q no_or

  method_read : (n : Placed) (gs : Groups) (r : MaybeType) (ts rest : List Word) → SpellsType (method n gs r) ts rest → FitsType (method n gs r) interface_element → type_depth (method n gs r) ≤ suc room → QuietType (method n gs r) rest → TypeReadsTo (element room inner ts) (method n gs r) ts rest
  unfolding element
  method_read n gs r ts rest s fits le q =
      reads_to _ (method n gs r) n.spot ts rest
      (ap (element room inner) (s.3 ∙ ap (λ (v : List Word). ident n ∷ v) s.4.is) ∙ take_ident _ _ n (mark LParen s.4.spot ∷ s.1) ∙ take_mark LParen _ _ s.4.spot s.1
      ∙ opened_is room inner (signature room inner (method_of room inner n)) (method n gs r) n.spot s.1 rest (method_signature room low inner has n gs r s.1 s.2 rest s.5 s.6 fits.1 fits.2 fits.3 le (quiet_method n gs r rest q)))
      (begins_with (ident n) ts s.0 s.3)

  pub element_read : (t : TypeTree) (ts rest : List Word) → SpellsType t ts rest → FitsType t interface_element → type_depth t ≤ suc room → QuietAt at.Element t rest → TypeReadsTo (element room inner ts) t ts rest
  element_read (method n gs r) ts rest s fits le q = method_read n gs r ts rest s fits le q.1
  element_read (union x us) ts rest s fits le q = union_read x us ts rest s fits le (record { no_type = q.0; no_dot = q.1.no_dot }) q.2
  element_read _ ts rest s fits le q = absurd cc
