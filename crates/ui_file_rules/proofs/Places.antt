use Rattle.std.proofs.Common.{◌≡◌, inl, inr, ℕ, zero, suc, ◌+◌, ◌<◌, ◌≤◌, refl, sym, ap, subst, ◌∙◌, arith, Option, Some, None}
use Rattle.std.proofs.lemmas.Bool.{cases_lt}
use Rattle.ui_frame.specs.Sections.{number_of}
use Rattle.ui_frame.specs.declared.section.Section.{Section}
use Rattle.ui_frame.specs.declared.section.Section.TheVariants.{Str, Meta, PosBase, Pkg, Name, Types, Obj, ObjExt, ObjDict, Body}
use Rattle.ui_file_rules.specs.declared.rule.Place.{Place}
use Rattle.ui_file_rules.specs.First.{FirstOf, section_at, FirstPlace, Gives}

pub section-back : (s : Section) → section_at (number_of s) ≡ s
section-back Str = refl
section-back Meta = refl
section-back PosBase = refl
section-back Pkg = refl
section-back Name = refl
section-back Types = refl
section-back Obj = refl
section-back ObjExt = refl
section-back ObjDict = refl
section-back Body = refl

pub below-ten : (s : Section) → number_of s < 10
below-ten Str = omega arith
below-ten Meta = omega arith
below-ten PosBase = omega arith
below-ten Pkg = omega arith
below-ten Name = omega arith
below-ten Types = omega arith
below-ten Obj = omega arith
below-ten ObjExt = omega arith
below-ten ObjDict = omega arith
below-ten Body = omega arith

pub number-at : (n : ℕ) → n < 10 → number_of (section_at n) ≡ n
number-at zero h = refl
number-at (suc zero) h = refl
number-at (suc (suc zero)) h = refl
number-at (suc (suc (suc zero))) h = refl
number-at (suc (suc (suc (suc zero)))) h = refl
number-at (suc (suc (suc (suc (suc zero))))) h = refl
number-at (suc (suc (suc (suc (suc (suc zero)))))) h = refl
number-at (suc (suc (suc (suc (suc (suc (suc zero))))))) h = refl
number-at (suc (suc (suc (suc (suc (suc (suc (suc zero)))))))) h = refl
number-at (suc (suc (suc (suc (suc (suc (suc (suc (suc zero))))))))) h = refl
number-at (suc (suc (suc (suc (suc (suc (suc (suc (suc (suc n)))))))))) h = absurd (omega arith)

module _ (keeps : Section → ℕ → Type 0) (count : Section → ℕ) where
  -- the sections below a number keep the rule
  pub record KeptBelow (n : ℕ) : Type 0 where
    pub few : n ≤ 10
    pub all : (s : Section) (k : ℕ) → k < count s → number_of s < n → keeps s k

  pub kept-first : KeptBelow 0
  kept-first = record { few = omega arith; all = λ s k h l. absurd (omega arith) }

  pub kept-more : (n : ℕ) (s : Section) → n < 10 → s ≡ section_at n → KeptBelow n
      → FirstOf (keeps s) (count s) None → KeptBelow (n + 1)
  kept-more n s lt is h f = record {
    few = omega arith;
    all = λ t k c l. elim (cases_lt (number_of t) n) [
      | inl below ↦ h.all t k c below
      | inr at ↦ (let e : number_of t ≡ n = omega arith in
          let same : s ≡ t = is ∙ ap section_at (sym e) ∙ section-back t in
          subst (λ (u : Section). keeps u k) same
          (f k (subst (λ (u : Section). k < count u) (sym same) c)))
    ];
  }

  pub first-found : (n i : ℕ) (s : Section) → n < 10 → s ≡ section_at n → KeptBelow n
      → FirstOf (keeps s) (count s) (Some i)
      → FirstPlace keeps count (record { section = s; element = i })
  first-found n i s lt is h f = record {
    there = f.0;
    here = f.1;
    before = λ t k c b. elim b [
      | inl less ↦ (let e : number_of s ≡ n = ap number_of is
          ∙ number-at n lt in h.all t k c (omega arith))
      | inr at ↦ subst (λ (u : Section). keeps u k) (sym at.0) (f.2 k at.1)
    ];
  }

  pub all-kept : (n : ℕ) → 10 ≤ n → KeptBelow n → (s : Section) (k : ℕ) → k < count s → keeps s k
  all-kept n le h s k c = h.all s k c (let b = below-ten s in omega arith)

-- what is kept may be said otherwise
pub gives-same : (keeps other : Section → ℕ → Type 0) (count : Section → ℕ)
    → ((s : Section) (k : ℕ) → k < count s → keeps s k → other s k)
    → ((s : Section) (k : ℕ) → k < count s → other s k → keeps s k)
    → (o : Option Place) → Gives keeps count o → Gives other count o
gives-same keeps other count to from None h = λ s k lt. to s k lt (h s k lt)
gives-same keeps other count to from (Some p) h = record {
  there = h.there;
  here = λ r. h.here (from p.section p.element h.there r);
  before = λ s k lt b. to s k lt (h.before s k lt b);
}
