-- The numbers of elements of a file whose sections are spelled.
use Rattle.std.proofs.Common.{◌≡◌, ℕ, List, length, sym, ap, ◌∙◌}
use Rattle.std.proofs.lemmas.List.{length-map}
use Rattle.ui_frame.specs.Container.{Parts, section}
use Rattle.ui_strpos.specs.Items.{spelling}
use Rattle.ui_strpos.specs.Format.{Format}
use Rattle.ui_strpos.specs.Elements as one
use Rattle.ui_strpos.specs.declared.name.NameEl.{NameEl}
use Rattle.ui_strpos.specs.declared.pkg.PkgEl.{PkgEl}
use Rattle.ui_strpos.specs.declared.posbase.PosBaseEl.{PosBaseEl}
use Rattle.ui_eobj.specs.Roots as root
use Rattle.ui_eobj.specs.declared.root.PublicRootEl.{PublicRootEl}
use Rattle.ui_eobj.specs.declared.root.PrivateRootEl.{PrivateRootEl}
use Rattle.ui_etype.specs.Types.{type_el}
use Rattle.ui_etype.specs.declared.types.TypeEl.{TypeEl}
use Rattle.ui_edecl.specs.Objects.{object}
use Rattle.ui_edecl.specs.Extensions.{extension}
use Rattle.ui_edecl.specs.Dictionaries.{dictionary}
use Rattle.ui_edecl.specs.declared.object.ObjEl.{ObjEl}
use Rattle.ui_edecl.specs.declared.extension.ObjExtEl.{ObjExtEl}
use Rattle.ui_edecl.specs.declared.dictionary.DictEl.{DictEl}
use Rattle.ui_frame.specs.declared.section.Section.TheVariants.{Str, Meta, PosBase, Pkg, Name, Types, Obj, ObjExt, ObjDict, Body}
use Rattle.ui_file.specs.Files.{spelled_all, plain, any_shape, object_shape, extension_shape}
use Rattle.ui_sections.specs.Spelled.{IsElement, IsSection, IsCounted, AreRoots, IsFront, AreDeclared, IsSpelled}
use Rattle.ui_sections.specs.Stages.{file_of}
use Rattle.ui_sections.specs.declared.read.Roots.{Roots}
use Rattle.ui_sections.specs.declared.read.Front.{Front}
use Rattle.ui_sections.specs.declared.read.Declared.{Declared}

same_many : {A B : Type 0} (f : Format A) (g : Format B) (xs : List A) (ys : List B)
    (bs cs : List (List ℕ))
    → bs ≡ spelled_all f xs → cs ≡ spelled_all g ys → length bs ≡ length cs → length xs ≡ length ys
same_many f g xs ys bs cs b c e =
    sym (length-map xs (λ a. spelling (f.items a))) ∙ ap (λ (l : List (List ℕ)). length l) (sym b)
    ∙ e ∙ ap (λ (l : List (List ℕ)). length l) c ∙ length-map ys (λ a. spelling (g.items a))

pub all_spelled : (parts : Parts) (r : Roots) (f : Front) (d : Declared) → AreRoots parts r
    → IsFront parts f
    → AreDeclared parts f.names d → IsSpelled parts (file_of r f d)
all_spelled parts r f d roots front declared = record {
  file = record {
    as_many = (
      same_many object one.name d.objects f.names _ _ declared.objects.bytes front.names.bytes
          roots.counted.objects,
      same_many extension one.name d.extensions f.names _ _ declared.extensions.bytes
          front.names.bytes roots.counted.extensions,
      same_many dictionary one.name d.dictionaries f.names _ _ declared.dictionaries.bytes
          front.names.bytes roots.counted.dictionaries,
    );
    public = roots.public.0;
    private = roots.private.0;
    bases = front.bases.grammar;
    packages = front.packages.grammar;
    names = front.names.grammar;
    types = front.types.grammar;
    objects = declared.objects.grammar;
    extensions = declared.extensions.grammar;
    dictionaries = declared.dictionaries.grammar;
  };
  roots = roots.counted.roots;
  texts = roots.texts;
  public = roots.public.1;
  private = roots.private.1;
  bases = front.bases.bytes;
  packages = front.packages.bytes;
  names = front.names.bytes;
  types = front.types.bytes;
  objects = declared.objects.bytes;
  extensions = declared.extensions.bytes;
  dictionaries = declared.dictionaries.bytes;
  bodies = declared.bodies;
}

module _ (parts : Parts) where
  pub roots_found : (a : PublicRootEl) (b : PrivateRootEl) (ts : List (List ℕ)) → IsCounted parts
      → IsElement root.public_root Meta plain parts 0 a
      → IsElement root.private_root Meta plain parts 1 b
      → ts ≡ section Str parts → AreRoots parts (record { texts = ts; public = a; private = b })
  roots_found a b ts c p q t = record { counted = c; texts = sym t; public = p; private = q }

  pub front_found : (a : List PosBaseEl) (b : List PkgEl) (c : List NameEl) (d : List TypeEl)
      → IsSection one.posbase PosBase any_shape parts a → IsSection one.pkg Pkg any_shape parts b
      → IsSection one.name Name any_shape parts c → IsSection type_el Types any_shape parts d
      → IsFront parts (record { bases = a; packages = b; names = c; types = d })
  front_found a b c d p q r s = record { bases = p; packages = q; names = r; types = s }

  pub declared_found : (names : List NameEl) (os : List ObjEl) (xs : List ObjExtEl)
      (ds : List DictEl)
      → IsSection object Obj (object_shape names (section ObjDict parts)) parts os
      → IsSection extension ObjExt (extension_shape names (section ObjDict parts) os) parts xs
      → IsSection dictionary ObjDict any_shape parts ds → length (section Body parts) ≡ 0
      → AreDeclared parts names (record { objects = os; extensions = xs; dictionaries = ds })
  declared_found names os xs ds p q r z = record
      { objects = p; extensions = q; dictionaries = r; bodies = z }
