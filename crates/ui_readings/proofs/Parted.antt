-- Parts of a text that end with semicolons.
use Rattle.std.proofs.Common.{◌≡◌, inl, inr, ℕ, Bool, List, [], ◌∷◌, ◌++◌, reverse, Option, refl, sym, ap, subst, ◌∙◌, append_assoc, append-nil}
use Rattle.std.proofs.lemmas.List.{reverse-append}
use Rattle.ui_scan.specs.declared.kind.TokenKind.TheVariants.{Semi}
use Rattle.ui_grammar.specs.Word.{Word, mark, Mark}
use Rattle.ui_pexpr.specs.Back.{or_here, opening}
use Rattle.ui_readings.specs.Tags.{IsParted}
use Rattle.ui_readings.proofs.WayBack.{Level, Inside, semi_apart}

-- words that are empty or end with a semicolon
pub record Parted (ts rest : List Word) : Type 0 where
  pub middle : List Word
  pub parts : ts ≡ middle ++ rest
  pub passes : (b : Bool) (n : ℕ) (back : List Word) → Inside b n → opening b n (reverse middle ++ back) ≡ opening b n back
  pub parted : IsParted middle

pub none_parted : (ts rest : List Word) → ts ≡ rest → Parted ts rest
none_parted ts rest e = record { middle = []; parts = e; passes = λ b n back p. refl; parted = inl refl }

-- a field with its semicolon
pub one_parted : (ts a b : List Word) → Level ts a → Mark Semi a b → Parted ts b
one_parted ts a b l m = record {
  middle = l.front ++ (mark Semi m.spot ∷ []);
  parts = l.parts ∙ ap (λ (v : List Word). l.front ++ v) m.is ∙ sym (append_assoc l.front (mark Semi m.spot ∷ []) b);
  passes = λ c n back p.
      ap (λ (v : List Word). opening c n (v ++ back)) (reverse-append l.front (mark Semi m.spot ∷ []))
      ∙ ap (λ (o : Option ℕ). or_here o (mark Semi m.spot ∷ (reverse l.front ++ back)) (λ k. opening c k (reverse l.front ++ back))) (semi_apart c n p)
      ∙ l.passes c n back tt;
  parted = inr (l.front, m.spot, refl);
}

parted_more : (front middle : List Word) → IsParted front → IsParted middle → IsParted (front ++ middle)
parted_more front middle f (inr (m, x, e)) = inr (front ++ m, x, ap (λ (v : List Word). front ++ v) e ∙ sym (append_assoc front m (mark Semi x ∷ [])))
parted_more front middle f (inl e) = subst IsParted (sym (ap (λ (v : List Word). front ++ v) e ∙ append-nil front)) f

pub then_parted : (ts m rest : List Word) → Parted ts m → Parted m rest → Parted ts rest
then_parted ts m rest a b = record {
  middle = a.middle ++ b.middle;
  parts = a.parts ∙ ap (λ (v : List Word). a.middle ++ v) b.parts ∙ sym (append_assoc a.middle b.middle rest);
  passes = λ c n back p.
      ap (λ (v : List Word). opening c n (v ++ back)) (reverse-append a.middle b.middle)
      ∙ ap (opening c n) (append_assoc (reverse b.middle) (reverse a.middle) back)
      ∙ b.passes c n (reverse a.middle ++ back) p ∙ a.passes c n back p;
  parted = parted_more a.middle b.middle a.parted b.parted;
}
