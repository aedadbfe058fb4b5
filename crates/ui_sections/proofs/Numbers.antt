-- The numbers of elements, tested.
use Rattle.std.proofs.Common.{◌≡◌, ◌≢◌, ℕ, Bool, true, false, Ok, Err, length, refl}
use Rattle.std.specs.Prelude.{nat_eq, ◌&&◌}
use Rattle.std.proofs.lemmas.Bool.{eqb-true, eq-eqb}
use Rattle.ui_frame.specs.Container.{Parts, section}
use Rattle.ui_frame.specs.declared.section.Section.TheVariants.{Meta, Name, Obj, ObjExt, Body}
use Rattle.ui_strpos.specs.declared.fault.Cause.TheVariants.{BadCode, WrongCount}
use Rattle.ui_file.specs.Files.{bad, counts_in, bodies_in}
use Rattle.ui_sections.specs.Spelled.{same_counts, IsCounted}

unequal : (a b : ℕ) → a ≢ b → nat_eq a b ≡ false
unequal a b n = at (nat_eq a b) refl
  where
    at : (x : Bool) → nat_eq a b ≡ x → x ≡ false
    at true e = absurd (n (eqb-true a b e))
    at false e = refl

module _ (parts : Parts) where
  pub no_roots : length (section Meta parts) ≢ 2 → counts_in parts ≡ Err (bad 1 0 0 WrongCount)
  no_roots n = rw (unequal (length (section Meta parts)) 2 n) refl

  pub other_counts : length (section Meta parts) ≡ 2 → same_counts parts ≡ false
      → counts_in parts ≡ Err (bad 6 0 0 WrongCount)
  other_counts e h = rw (eq-eqb (length (section Meta parts)) 2 e, h) refl

  pub counts_pass : length (section Meta parts) ≡ 2 → same_counts parts ≡ true → counts_in parts
      ≡ Ok tt
  counts_pass e h = rw (eq-eqb (length (section Meta parts)) 2 e, h) refl

  both : (a b : Bool) → (a && b) ≡ true → (a ≡ true) × (b ≡ true)
  both true b e = (refl, e)
  both false b e = absurd cc

  pub are_counted : length (section Meta parts) ≡ 2 → same_counts parts ≡ true → IsCounted parts
  are_counted e h =
      let first = both (nat_eq (length (section Obj parts)) (length (section Name parts))) _ h in
      let others = both (nat_eq (length (section ObjExt parts)) (length (section Name parts))) _
      first.1 in
      record {
        roots = e;
        objects = eqb-true _ _ first.0;
        extensions = eqb-true _ _ others.0;
        dictionaries = eqb-true _ _ others.1;
      }

  pub no_bodies : length (section Body parts) ≡ 0 → bodies_in parts ≡ Ok tt
  no_bodies e = rw (eq-eqb (length (section Body parts)) 0 e) refl

  pub some_bodies : length (section Body parts) ≢ 0 → bodies_in parts ≡ Err (bad 9 0 0 BadCode)
  some_bodies n = rw (unequal (length (section Body parts)) 0 n) refl
