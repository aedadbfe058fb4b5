-- The rules one after another give the first test that fails.
use Rattle.std.proofs.Common.{◌≡◌, inl, inr, ℕ, zero, suc, ◌+◌, ◌<◌, ◌≤◌, List, length, Some, None, Option}
use Rattle.std.proofs.Common.{refl, sym, ap, subst, ◌∙◌, arith, Ok}
use Rattle.std.specs.Prelude.{IfSome}
use Rattle.std.proofs.lemmas.Bool.{cases_lt}
use Rattle.std.proofs.lemmas.List.{length-map}
use Rattle.ui_frame.specs.Container.{Parts, section}
use Rattle.ui_frame.specs.Sections.{number_of}
use Rattle.ui_frame.specs.declared.section.Section.{Section}
use Rattle.ui_frame.specs.declared.section.Section.TheVariants.{Str, Meta, PosBase, Pkg, Name}
use Rattle.ui_frame.specs.declared.section.Section.TheVariants.{Types, Obj, ObjExt, ObjDict, Body}
use Rattle.ui_strpos.specs.Elements as one
use Rattle.ui_strpos.specs.Format.{Format}
use Rattle.ui_strpos.specs.Items.{spelling}
use Rattle.ui_etype.specs.Types.{type_el}
use Rattle.ui_edecl.specs.Objects.{object}
use Rattle.ui_edecl.specs.Extensions.{extension}
use Rattle.ui_edecl.specs.Dictionaries.{dictionary}
use Rattle.ui_file.specs.Files.{bad, file_in, spelled_all}
use Rattle.ui_file.specs.Rules.{Rule, Keeps, count_in, twice, derived_order, bad_index, wrong_count, named_under}
use Rattle.ui_file.specs.Rules.{type_limit, stub_left, stray, wrong_path}
use Rattle.ui_file.specs.Verdict.{rule_number, cause_of, Obeys, FirstFault, in_element, in_rule, IsValid, Test, IsBefore, FirstBroken}
use Rattle.ui_file.specs.declared.bad.BadFile.{BadFile}
use Rattle.ui_file.specs.declared.file.File.{File}
use Rattle.ui_file.specs.declared.kind.FileKind.{FileKind}
use Rattle.ui_file_rules.specs.First.{Gives, FirstPlace}
use Rattle.ui_file_rules.specs.declared.rule.Place.{Place}
use Rattle.ui_sections.specs.Spelled.{IsSpelled}
use Rattle.ui_stray.proofs.Built.{same_count}
use Rattle.ui_sections.specs.Told.{FailsAs}
use Rattle.ui_sections.specs.declared.fault.ValidFault.{ValidFault}
use Rattle.ui_sections.specs.declared.fault.ValidFault.TheVariants as told
use Rattle.ui_valid.specs.Verdict.{IsFirst}
use Rattle.ui_valid.specs.Tests.{IsPlace, placed, AreKept, IsBroken, Tested}

-- a rule by its number
pub rule_at : ℕ → Rule
rule_at zero = twice
rule_at (suc zero) = derived_order
rule_at (suc (suc zero)) = bad_index
rule_at (suc (suc (suc zero))) = wrong_count
rule_at (suc (suc (suc (suc zero)))) = named_under
rule_at (suc (suc (suc (suc (suc zero))))) = type_limit
rule_at (suc (suc (suc (suc (suc (suc zero)))))) = stub_left
rule_at (suc (suc (suc (suc (suc (suc (suc zero))))))) = stray
rule_at (suc (suc (suc (suc (suc (suc (suc (suc n)))))))) = wrong_path

pub rule-back : (r : Rule) → rule_at (rule_number r) ≡ r
unfolding rule_at
rule-back twice = refl
rule-back derived_order = refl
rule-back bad_index = refl
rule-back wrong_count = refl
rule-back named_under = refl
rule-back type_limit = refl
rule-back stub_left = refl
rule-back stray = refl
rule-back wrong_path = refl

below-nine : (r : Rule) → rule_number r < 9
below-nine twice = omega arith
below-nine derived_order = omega arith
below-nine bad_index = omega arith
below-nine wrong_count = omega arith
below-nine named_under = omega arith
below-nine type_limit = omega arith
below-nine stub_left = omega arith
below-nine stray = omega arith
below-nine wrong_path = omega arith

module _ (kind : FileKind) (path : List ℕ) (x : File) where
  -- one rule
  pub one_tested : (r : Rule) (o : Option Place) → Gives (Keeps kind path x r) (count_in x) o
      → Tested kind path x (rule_number r) (rule_number r + 1) (placed (cause_of r) o)
  one_tested r None h = λ q least below.
      let same : rule_number r ≡ rule_number q = omega arith in
      let is : r ≡ q = sym (rule-back r) ∙ ap rule_at same ∙ rule-back q in
      subst (λ (p : Rule). Gives (Keeps kind path x p) (count_in x) None) is h
  one_tested r (Some p) h = record {
    rule = r;
    place = p;
    least = omega arith;
    below = omega arith;
    earlier = λ q least below. absurd (omega arith);
    here = h;
    is = refl;
  }

  -- rules that are kept, and then others
  pub both_kept : (from mid to : ℕ) → AreKept kind path x from mid → AreKept kind path x mid to
      → AreKept kind path x from to
  both_kept from mid to first others = λ r least below. elim (cases_lt (rule_number r) mid) [
    | inl l ↦ first r least l
    | inr g ↦ others r g below
  ]

  pub first_broken : (from mid to : ℕ) (b : BadFile) → mid ≤ to → IsBroken kind path x from mid b
      → IsBroken kind path x from to b
  first_broken from mid to b le h = record {
    rule = h.rule;
    place = h.place;
    least = h.least;
    below = (let l = h.below in omega arith);
    earlier = h.earlier;
    here = h.here;
    is = h.is;
  }

  pub other_broken : (from mid to : ℕ) (b : BadFile) → from ≤ mid → AreKept kind path x from mid
      → IsBroken kind path x mid to b → IsBroken kind path x from to b
  other_broken from mid to b le first h = record {
    rule = h.rule;
    place = h.place;
    least = (let l = h.least in omega arith);
    below = h.below;
    earlier = both_kept from mid (rule_number h.rule) first h.earlier;
    here = h.here;
    is = h.is;
  }

  pub then_tested : (from mid to : ℕ) (o : Option BadFile) → from ≤ mid
      → AreKept kind path x from mid
      → Tested kind path x mid to o → Tested kind path x from to o
  then_tested from mid to None le first h = both_kept from mid to first h
  then_tested from mid to (Some b) le first h = other_broken from mid to b le first h

  -- ---- all rules

  pub obeys : AreKept kind path x 0 9 → Obeys kind path x
  obeys h = λ r s k lt. h r (omega arith) (below-nine r) s k lt

  broken : (r : Rule) (p : Place) → AreKept kind path x 0 (rule_number r)
      → FirstPlace (Keeps kind path x r) (count_in x) p
      → FirstBroken kind path x (record { rule = r; section = p.section; element = p.element })
  broken r p earlier here = record {
    there = here.there;
    here = here.here;
    before = λ a lt b. elim b [
      | inl less ↦ earlier a.rule (omega arith) less a.section a.element lt
      | inr same ↦ subst (λ (q : Rule). Keeps kind path x q a.section a.element) (sym same.0)
          (here.before a.section a.element lt same.1)
    ];
  }

  pub first_fault : (parts : Parts) (b : BadFile) → file_in parts ≡ Ok x
      → IsBroken kind path x 0 9 b
      → FirstFault kind path parts b
  first_fault parts b e h =
      subst (λ (c : BadFile). FirstFault kind path parts c) (sym h.is)
      (in_rule x (record { rule = h.rule; section = h.place.section; element = h.place.element }) e
      (broken h.rule h.place h.earlier h.here))

-- ---- elements that there are

-- a place that a rule gives is an element of the container
pub given_there : (parts : Parts) (x : File) (keeps : Section → ℕ → Type 0) (p : Place)
    → IsSpelled parts x
    → Gives keeps (count_in x) (Some p) → IsPlace parts p
given_there parts x keeps p h g = let there = g.there in let many = same_count parts x h p.section
    in omega arith

pub given_all : (parts : Parts) (x : File) (keeps : Section → ℕ → Type 0) (o : Option Place)
    → IsSpelled parts x
    → Gives keeps (count_in x) o → IfSome o (IsPlace parts)
given_all parts x keeps None h g = tt
given_all parts x keeps (Some p) h g = given_there parts x keeps p h g

-- ---- the verdict

pub element_first : (kind : FileKind) (path : List ℕ) (parts : Parts) (e : ValidFault)
    → FailsAs e (file_in parts)
    → IsFirst kind path parts e
element_first kind path parts told.NoMemory h = tt
element_first kind path parts (told.Bad b) h = in_element h

pub rule_first : (kind : FileKind) (path : List ℕ) (parts : Parts) (x : File) (b : BadFile)
    → file_in parts ≡ Ok x
    → Tested kind path x 0 9 (Some b) → IsFirst kind path parts (told.Bad b)
rule_first kind path parts x b e h = first_fault kind path x parts b e h

pub all_kept : (kind : FileKind) (path : List ℕ) (parts : Parts) (x : File) → file_in parts ≡ Ok x
    → Tested kind path x 0 9 None → IsValid kind path parts x
all_kept kind path parts x e h = (e, obeys kind path x h)
