-- There is one first fault, or none.
use Rattle.std.proofs.Common.{◌≡◌, ◌⊎◌, inl, inr, ℕ, ◌<◌, List, refl, sym, ap, subst, ◌∙◌, arith, Ok, Err, Result}
use Rattle.std.proofs.lemmas.Bool.{cases_order}
use Rattle.ui_frame.specs.Container.{Parts}
use Rattle.ui_frame.specs.Sections.{number_of}
use Rattle.ui_frame.specs.declared.section.Section.{Section}
use Rattle.ui_file.specs.Files.{bad, file_in}
use Rattle.ui_file.specs.Rules.{Rule, Keeps, count_in}
use Rattle.ui_file.specs.Verdict.{rule_number, cause_of, Obeys, FirstFault, in_element, in_rule}
use Rattle.ui_file.specs.Verdict.{Test, IsBefore, FirstBroken, IsValid}
use Rattle.ui_file.specs.declared.bad.BadFile.{BadFile}
use Rattle.ui_file.specs.declared.file.File.{File}
use Rattle.ui_file.specs.declared.kind.FileKind.{FileKind}
use Rattle.ui_file_rules.specs.First.{section_at}
use Rattle.ui_file_rules.proofs.Places.{section-back}
use Rattle.ui_valid.proofs.Sequence.{rule_at, rule-back}

same_test : (a b : Test) → a.rule ≡ b.rule → a.section ≡ b.section → a.element ≡ b.element → a ≡ b
same_test a b e f g = λ i. record { rule = e i; section = f i; element = g i }

-- of two tests one is made before the other, or they are the same
ordered : (a b : Test) → (a ≡ b) ⊎ (IsBefore a b ⊎ IsBefore b a)
ordered a b = elim (cases_order (rule_number a.rule) (rule_number b.rule)) [
  | inr apart ↦ elim apart [ inl l ↦ inr (inl (inl l)) | inr g ↦ inr (inr (inl g)) ]
  | inl same ↦ (
      let rule : a.rule ≡ b.rule = sym (rule-back a.rule) ∙ ap rule_at same ∙ rule-back b.rule in
      elim (cases_order (number_of a.section) (number_of b.section)) [
        | inr apart ↦ elim apart [
          | inl l ↦ inr (inl (inr (rule, inl l)))
          | inr g ↦ inr (inr (inr (sym rule, inl g)))
        ]
        | inl same ↦ (
            let section : a.section ≡ b.section =
            sym (section-back a.section) ∙ ap section_at same ∙ section-back b.section in
            elim (cases_order a.element b.element) [
              | inr apart ↦ elim apart [
                | inl l ↦ inr (inl (inr (rule, inr (section, l))))
                | inr g ↦ inr (inr (inr (sym rule, inr (sym section, g))))
              ]
              | inl same ↦ inl (same_test a b rule section same)
            ]
            )
      ]
      )
]

ok_same : (r : Result File BadFile) (x y : File) → r ≡ Ok x → r ≡ Ok y → x ≡ y
ok_same r x y e f = cc

module _ (kind : FileKind) (path : List ℕ) where
  one_broken : (x : File) (a b : Test) → FirstBroken kind path x a → FirstBroken kind path x b → a
      ≡ b
  one_broken x a b f g = elim (ordered a b) [
    | inl same ↦ same
    | inr apart ↦ elim apart [
      | inl l ↦ absurd (f.here (g.before a f.there l))
      | inr l ↦ absurd (g.here (f.before b g.there l))
    ]
  ]

  pub one_fault : (parts : Parts) (b c : BadFile) → FirstFault kind path parts b
      → FirstFault kind path parts c
      → b ≡ c
  one_fault parts b c (in_element e) (in_element f) = cc
  one_fault parts b c (in_element e) (in_rule y u f h) = absurd cc
  one_fault parts b c (in_rule x t e g) (in_element f) = absurd cc
  one_fault parts b c (in_rule x t e g) (in_rule y u f h) =
      let same : x ≡ y = ok_same (file_in parts) x y e f in
      let first : FirstBroken kind path y t = subst
      (λ (z : File). FirstBroken kind path z t) same g in
      ap (λ (a : Test). bad (number_of a.section) a.element 0 (cause_of a.rule))
      (one_broken y t u first h)

  pub no_fault : (parts : Parts) (x : File) (b : BadFile) → IsValid kind path parts x
      → FirstFault kind path parts b → ⊥
  no_fault parts x b v (in_element e) = let f = v.0 in absurd cc
  no_fault parts x b v (in_rule y t e g) =
      let same : x ≡ y = ok_same (file_in parts) x y v.0 e in
      let obeys : Obeys kind path y = subst (λ (z : File). Obeys kind path z) same v.1 in
      g.here (obeys t.rule t.section t.element g.there)

  pub one_file : (parts : Parts) (x y : File) → IsValid kind path parts x
      → IsValid kind path parts y → x ≡ y
  one_file parts x y v w = ok_same (file_in parts) x y v.0 w.0
