-- The readers of one level less, and types that begin as operands do.
use Rattle.std.proofs.Common.{◌≡◌, ℕ, zero, suc, ◌-◌, Bool, true, false, cond, List, Option, Some, None, Result, Ok, Err, refl, sym, ap, subst, ◌∙◌, arith}
use Rattle.std.specs.Prelude.{nat_le}
use Rattle.ui_scan.specs.declared.kind.TokenKind.TheVariants.{LBracket, Map, Func, Struct, Interface}
use Rattle.ui_tree.specs.Tree.{TypeTree, Tree}
use Rattle.ui_grammar.specs.Word.{Word}
use Rattle.ui_parse.specs.declared.fault.ParseError.{ParseError}
use Rattle.ui_parse.specs.Reader.{Outcome, Reader, and_then, pure, first, tail, taken, take_by, marked}
use Rattle.ui_parse.specs.View.{Reads}
use Rattle.ui_ptype.specs.declared.sub.Sub.{Sub}
use Rattle.ui_ptype.specs.declared.sub.TypeSub.{TypeSub}
use Rattle.ui_ptype.specs.Seen.{see, see_maybe}
use Rattle.ui_syntax.specs.declared.site.Site.{Site}
use Rattle.ui_syntax.specs.declared.site.TypeSite.{TypeSite}
use Rattle.ui_syntax.specs.Cover.{Read}
use Rattle.ui_syntax.specs.Types.{Nested, operand_type, deep_type, map_type, bracket_type, interface_type, struct_type, func_type, some, opened}
use Rattle.ui_syntax.specs.Read.{readers}

-- the readers of the parts of the parts
lower_at : (b : ℕ) (s : Site) (least : ℕ) (ws : List Word) → (readers b).lower_level s least ws ≡ (readers (b - 1)).level s least ws
unfolding readers
lower_at zero s least ws = refl
lower_at (suc d) s least ws = let e : suc d - 1 ≡ d = omega arith in sym (ap (λ (k : ℕ). (readers k).level s least ws) e)

pub reads_lower : (b k : ℕ) (s : Site) (least : ℕ) (ws : List Word) (r : Result Sub ParseError) (left : List Word) → k ≡ b - 1 → Reads see ((readers k).level s least ws) r left → Reads see ((readers b).lower_level s least ws) r left
reads_lower b k s least ws r left e h =
    subst (λ (o : Outcome (Read Tree)). Reads see o r left) (ap (λ (d : ℕ). (readers d).level s least ws) e ∙ sym (lower_at b s least ws)) h

lower_type_at : (b : ℕ) (p : TypeSite) (ws : List Word) → (readers b).lower_maybe_type p ws ≡ (readers (b - 1)).maybe_type p ws
unfolding readers
lower_type_at zero p ws = refl
lower_type_at (suc d) p ws = let e : suc d - 1 ≡ d = omega arith in sym (ap (λ (k : ℕ). (readers k).maybe_type p ws) e)

pub reads_lower_type : (b k : ℕ) (p : TypeSite) (ws : List Word) (r : Result (Option TypeSub) ParseError) (left : List Word) → k ≡ b - 1 → Reads see_maybe ((readers k).maybe_type p ws) r left → Reads see_maybe ((readers b).lower_maybe_type p ws) r left
reads_lower_type b k p ws r left e h =
    subst (λ (o : Outcome (Option (Read TypeTree))). Reads see_maybe o r left) (ap (λ (d : ℕ). (readers d).maybe_type p ws) e ∙ sym (lower_type_at b p ws)) h

-- ---- types that begin as operands do, or as others

abbrev pub maybe_or : Reader (Option (Read TypeTree)) → Option (Read TypeTree) → Reader (Option (Read TypeTree))
maybe_or other None = other
maybe_or other (Some t) = pure (Some t)

opened_is : (o : Outcome (Read TypeTree)) (other : Reader (Option (Read TypeTree))) → and_then o some ≡ and_then (and_then o some) (maybe_or other)
opened_is (Ok p) other = refl
opened_is (Err ws) other = refl

module _ (room : ℕ) (inner : Nested) (other : Reader (Option (Read TypeTree))) (ws : List Word) where
  -- a reader goes on with the other where it finds none
  abbrev Goes : (others rest : Reader (Option (Read TypeTree))) → Type 0
  Goes others rest = others ws ≡ and_then (rest ws) (maybe_or other)

  taken_or : {B : Type 0} (x : Option B) (on : B → Reader (Read TypeTree)) (others rest : Reader (Option (Read TypeTree))) → Goes others rest
      → taken x (λ b. opened room inner (on b)) others ws ≡ and_then (taken x (λ b. opened room inner (on b)) rest ws) (maybe_or other)
  taken_or None on others rest same = same
  taken_or (Some b) on others rest same = opened_is (on b (tail ws)) other

  take_or : {B : Type 0} (test : Word → Option B) (on : B → Reader (Read TypeTree)) (others rest : Reader (Option (Read TypeTree))) → Goes others rest → Goes (take_by test (λ b. opened room inner (on b)) others) (take_by test (λ b. opened room inner (on b)) rest)
  unfolding take_by
  take_or test on others rest same = taken_or (first test ws) on others rest same

  cond_or : (b : Bool) (p q p2 q2 : Reader (Option (Read TypeTree))) → Goes p p2 → Goes q q2 → Goes (cond b p q) (cond b p2 q2)
  cond_or true p q p2 q2 e f = e
  cond_or false p q p2 q2 e f = f

  module _ (p : TypeSite) where
    abbrev map_or : Reader (Option (Read TypeTree)) → Reader (Option (Read TypeTree))
    map_or q = take_by (marked Map) (λ s. opened room inner (map_type room inner s)) q

    abbrev bracket_or : Reader (Option (Read TypeTree)) → Reader (Option (Read TypeTree))
    bracket_or q = take_by (marked LBracket) (λ s. opened room inner (bracket_type room inner p s)) (map_or q)

    abbrev interface_or : Reader (Option (Read TypeTree)) → Reader (Option (Read TypeTree))
    interface_or q = take_by (marked Interface) (λ s. opened room inner (interface_type room inner s)) (deep_type room inner p q)

    abbrev struct_or : Reader (Option (Read TypeTree)) → Reader (Option (Read TypeTree))
    struct_or q = take_by (marked Struct) (λ s. opened room inner (struct_type room inner s)) (interface_or q)

    deep_goes : Goes (deep_type room inner p other) (deep_type room inner p (pure None))
    deep_goes = cond_or (nat_le 1 room) (bracket_or other) other (bracket_or (pure None)) (pure None)
        (take_or (marked LBracket) (λ s. bracket_type room inner p s) (map_or other) (map_or (pure None))
        (take_or (marked Map) (λ s. map_type room inner s) other (pure None) refl)) refl

    operand_goes : Goes (operand_type room inner p other) (operand_type room inner p (pure None))
    unfolding operand_type
    operand_goes =
        take_or (marked Func) (λ s. func_type room inner s) (struct_or other) (struct_or (pure None))
        (take_or (marked Struct) (λ s. struct_type room inner s) (interface_or other) (interface_or (pure None))
        (take_or (marked Interface) (λ s. interface_type room inner s) (deep_type room inner p other) (deep_type room inner p (pure None)) deep_goes))

pub reads_other : (room : ℕ) (inner : Nested) (p : TypeSite) (other : Reader (Option (Read TypeTree))) (ws : List Word) (r : Result (Option TypeSub) ParseError) (left : List Word)
    → Reads see_maybe (and_then (operand_type room inner p (pure None) ws) (maybe_or other)) r left → Reads see_maybe (operand_type room inner p other ws) r left
reads_other room inner p other ws r left h = subst (λ (o : Outcome (Option (Read TypeTree))). Reads see_maybe o r left) (sym (operand_goes room inner other ws p)) h
