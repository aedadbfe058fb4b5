-- The fingerprints that a private root lists have eight bytes.
use Rattle.std.proofs.Common.{◌≡◌, ℕ, zero, suc, ◌<◌, Bool, true, false, cond, List, [], ◌∷◌, length, get_or, Option, Some, None}
use Rattle.std.proofs.Common.{refl, sym, ap, ◌∙◌, arith}
use Rattle.std.proofs.lemmas.Bool.{eqb-true}
use Rattle.ui_frame.specs.Container.{Parts, section}
use Rattle.ui_frame.specs.declared.section.Section.TheVariants.{Str}
use Rattle.ui_strpos.specs.Contexts.{context}
use Rattle.ui_strpos.specs.Reading.{Context, text_of}
use Rattle.ui_strpos.specs.Elements.{text_passes}
use Rattle.ui_strpos.specs.Format.{fits_by}
use Rattle.ui_eobj.specs.Roots.{is_print, below_entry}
use Rattle.ui_eobj.specs.declared.root.BelowEl.{BelowEl}
use Rattle.ui_file.specs.Words.{text_at}
use Rattle.ui_file.specs.declared.file.File.{File}
use Rattle.ui_sections.specs.Spelled.{IsSpelled}
use Rattle.ui_valid.specs.Prints.{HaveEight}

passed : (c : Context) (k : ℕ) → text_passes is_print c k ≡ None → length (text_of c k) ≡ 8
passed c k e = eqb-true (length (text_of c k)) 8 (at (is_print (text_of c k)) e)
  where
    at : (b : Bool) → text_passes (λ _. b) c k ≡ None → b ≡ true
    at true e = refl
    at false e = absurd cc

all_eight : (c : Context) (before : Option BelowEl) (els : List BelowEl)
    → fits_by below_entry c before els
    → (k : ℕ) (d : BelowEl) → k < length els → length (text_of c (get_or els k d).print) ≡ 8
all_eight c before [] h k d lt = absurd (omega arith)
all_eight c before (b ∷ bs) h zero d lt = passed c b.print h.0.1.0
all_eight c before (b ∷ bs) h (suc k) d lt = all_eight c (Some b) bs h.1 k d (omega arith)

pub have_eight : (parts : Parts) (x : File) → IsSpelled parts x → HaveEight x.texts x.private.below
have_eight parts x h = record {
  each = λ k d lt.
      ap (λ (texts : List (List ℕ)). length (text_at texts (get_or x.private.below k d).print))
      (sym h.texts)
      ∙ all_eight (context 1 _ parts) None x.private.below h.file.private.0 k d lt;
}
