-- Behind a field of an open struct a string is a tag.
use Rattle.std.proofs.Common.{◌≡◌, inl, inr, ℕ, Bool, true, false, List, [], ◌∷◌, ◌++◌, length, drop, reverse, None, Ok, refl, sym, ap, subst, ◌∙◌, append_assoc, append-nil, arith}
use Rattle.std.specs.Prelude.{◌&&◌}
use Rattle.std.proofs.Math.Seq.{drop-append_seam}
use Rattle.std.proofs.lemmas.List.{length-append, length-reverse, reverse-append}
use Rattle.ui_base.specs.declared.value.Spot.{Spot}
use Rattle.ui_scan.specs.declared.kind.TokenKind.TheVariants.{Struct, LBrace, Semi, Comma}
use Rattle.ui_tree.specs.declared.part.Placed.{Placed}
use Rattle.ui_tree.specs.Tree.{TypeTree, Groups, groups_end, group_and}
use Rattle.ui_grammar.specs.Word.{Word, mark, Names}
use Rattle.ui_grammar.specs.Spells.{SpellsType}
use Rattle.ui_parse.specs.Reader.{Outcome, and_then, first, marked}
use Rattle.ui_parse.proofs.NamesLaws.{names_read}
use Rattle.ui_syntax.specs.Cover.{Read}
use Rattle.ui_syntax.specs.Read.{type}
use Rattle.ui_syntax.proofs.Complete.{type_whole}
use Rattle.ui_syntax.proofs.FirstWords.{type_mark, name_or, starts_other, first_of_type}
use Rattle.ui_pexpr.specs.declared.fault.Form.TheVariants.{Tag}
use Rattle.ui_pexpr.specs.Back.{opening}
use Rattle.ui_pexpr.specs.Forms.{is_whole, field, in_struct, behind_field, form_if}
use Rattle.ui_readings.specs.Tags.{IsField, SpellsFields, IsClosed, IsParted, TagsBehindFields}
use Rattle.ui_readings.proofs.WayBack.{Level, level_labels, then_level}
use Rattle.ui_readings.proofs.Matched.{level_type}
use Rattle.ui_readings.proofs.Parted.{Parted, none_parted, one_parted, then_parted}

-- names are labels
level_names : (ns : List Placed) (ts rest : List Word) → Names ns ts rest → Level ts rest
level_names [] ts rest h = absurd h
level_names (n ∷ ns) ts rest h = level_labels (n ∷ ns) ts rest h

level_field : (ns : List Placed) (t : TypeTree) (ts a rest : List Word) → Names ns ts a → SpellsType t a rest → Level ts rest
level_field ns t ts a rest n s = then_level (level_names ns ts a n) (level_type t a rest s)

-- ---- fields, each with its semicolon

fields_parted : (gs : Groups) (ts rest : List Word) → SpellsFields gs ts rest → Parted ts rest
fields_parted groups_end ts rest e = none_parted ts rest e
fields_parted (group_and ns t gs) ts rest (a, b, c, n, s, m, h) = then_parted ts c rest (one_parted ts b c (level_field ns t ts a b n s) m) (fields_parted gs c rest h)

-- ---- the field behind them

field_level : (ts : List Word) → IsField ts → Level ts []
field_level ts f = level_field f.names f.type ts f.rest [] f.named f.typed.spells

typed_whole : (o : Outcome (Read TypeTree)) (x : Read TypeTree) → o ≡ Ok (x, []) → is_whole o ≡ true
typed_whole o x e = ap is_whole e

field_whole : (ts : List Word) → IsField ts → is_whole (field ts) ≡ true
field_whole ts f =
    let no_comma : first (marked Comma) f.rest ≡ None = starts_other (name_or type_mark) Comma f.rest (λ s. refl) (first_of_type f.type f.rest [] f.typed.spells f.typed.fits) in
    let read = type_whole 199 f.rest f.type f.typed in
    ap (λ (o : Outcome (List Placed)). is_whole (and_then o (λ ns. type 199))) (names_read f.names ts f.rest f.named no_comma) ∙ typed_whole (type 199 f.rest) read.x read.read

-- ---- the way back

module _ (before : List Word) (s b : Spot) where
  abbrev bracket : List Word
  bracket = mark LBrace b ∷ (mark Struct s ∷ reverse before)

  abbrev front_of : List Word → List Word
  front_of ts = before ++ (mark Struct s ∷ (mark LBrace b ∷ ts))

  reversed : (ts : List Word) → reverse (front_of ts) ≡ reverse ts ++ bracket
  reversed ts =
      reverse-append before (mark Struct s ∷ (mark LBrace b ∷ ts))
      ∙ ap (λ (v : List Word). v ++ reverse before) (reverse-append (mark Struct s ∷ (mark LBrace b ∷ [])) ts)
      ∙ append_assoc (reverse ts) (mark LBrace b ∷ (mark Struct s ∷ [])) (reverse before)

  stops_at : (middle : List Word) → IsParted middle → opening true 0 (reverse middle ++ bracket) ≡ reverse middle ++ bracket
  stops_at middle (inl e) = subst (λ (m : List Word). opening true 0 (reverse m ++ bracket) ≡ reverse m ++ bracket) (sym e) refl
  stops_at middle (inr (m, x, e)) =
      subst (λ (r : List Word). opening true 0 (r ++ bracket) ≡ r ++ bracket) (sym (ap reverse e ∙ reverse-append m (mark Semi x ∷ []))) refl

  long : (middle : List Word) → length (reverse middle ++ bracket) ≡ length (before ++ (mark Struct s ∷ (mark LBrace b ∷ middle)))
  long middle =
      let a = length-append (reverse middle) bracket in
      let c = length-append before (mark Struct s ∷ (mark LBrace b ∷ middle)) in
      let d = length-reverse middle in
      let e = length-reverse before in
      omega (arith, a, c, d, e)

  pub behind : (middle last : List Word) → IsClosed (middle ++ last) → IsParted middle → IsField last → behind_field (front_of (middle ++ last)) (reverse (front_of (middle ++ last))) ≡ true
  behind middle last closed parted f =
      let l = field_level last f in
      let back = reverse middle ++ bracket in
      let same : last ≡ l.front = l.parts ∙ append-nil l.front in
      let turned : reverse (front_of (middle ++ last)) ≡ reverse l.front ++ back = reversed (middle ++ last)
      ∙ ap (λ (v : List Word). reverse (middle ++ v) ++ bracket) same
      ∙ ap (λ (v : List Word). v ++ bracket) (reverse-append middle l.front)
      ∙ append_assoc (reverse l.front) (reverse middle) bracket in
      let outer : opening false 0 (reverse (front_of (middle ++ last))) ≡ bracket = ap (opening false 0) (reversed (middle ++ last)) ∙ closed bracket in
      let inner : opening true 0 (reverse (front_of (middle ++ last))) ≡ back = ap (opening true 0) turned ∙ l.passes true 0 back tt ∙ stops_at middle parted in
      let text : front_of (middle ++ last) ≡ (before ++ (mark Struct s ∷ (mark LBrace b ∷ middle))) ++ last = sym (append_assoc before (mark Struct s ∷ (mark LBrace b ∷ middle)) last) in
      let left : drop (length back) (front_of (middle ++ last)) ≡ last = ap (λ (n : ℕ). drop n (front_of (middle ++ last))) (long middle) ∙ ap (drop (length (before ++ (mark Struct s ∷ (mark LBrace b ∷ middle))))) text ∙ drop-append_seam (before ++ (mark Struct s ∷ (mark LBrace b ∷ middle))) last in
      ap (λ (v : List Word). in_struct v && is_whole (field (drop (length (opening true 0 (reverse (front_of (middle ++ last))))) (front_of (middle ++ last))))) outer
      ∙ ap (λ (v : List Word). is_whole (field (drop (length v) (front_of (middle ++ last))))) inner
      ∙ ap (λ (v : List Word). is_whole (field v)) left
      ∙ field_whole last f

  -- fields and a field are closed
  closed_by : (ts last : List Word) → (p : Parted ts last) → IsField last → IsClosed (p.middle ++ last)
  closed_by ts last p f =
      let l = field_level last f in
      let same : last ≡ l.front = l.parts ∙ append-nil l.front in
      λ back.
      ap (λ (v : List Word). opening false 0 (reverse (p.middle ++ v) ++ back)) same
      ∙ ap (λ (v : List Word). opening false 0 (v ++ back)) (reverse-append p.middle l.front)
      ∙ ap (opening false 0) (append_assoc (reverse l.front) (reverse p.middle) back)
      ∙ l.passes false 0 (reverse p.middle ++ back) tt ∙ p.passes false 0 back refl

  behind_parted : (ts last : List Word) → Parted ts last → IsField last → behind_field (front_of ts) (reverse (front_of ts)) ≡ true
  behind_parted ts last p f = subst (λ (v : List Word). behind_field (front_of v) (reverse (front_of v)) ≡ true) (sym p.parts) (behind p.middle last (closed_by ts last p f) p.parted f)

pub tags_behind_fields : TagsBehindFields
tags_behind_fields before ts s b at v e = ap (λ (x : Bool). form_if x Tag) (behind_parted before s b ts e.last (fields_parted e.fields ts e.last e.before) e.field)
