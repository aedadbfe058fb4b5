-- Types that were read, as parts of what is read around them.
use Rattle.std.proofs.Common.{◌≡◌, inl, inr, ℕ, ◌≤◌, List, Option, Some, None, arith}
use Rattle.ui_tree.specs.Tree.{TypeTree}
use Rattle.ui_grammar.specs.Word.{Word}
use Rattle.ui_grammar.specs.Fits.{TypePlace, plain_type, interface_element}
use Rattle.ui_grammar.proofs.Frames.{Framed, framed_as, frame_type}
use Rattle.ui_parse.specs.Reader.{Outcome, and_then}
use Rattle.ui_parse.proofs.Outcomes.{Holds, good, bad, bind, mono}
use Rattle.ui_syntax.specs.declared.site.TypeSite.{TypeSite}
use Rattle.ui_syntax.specs.declared.site.TypeSite.TheVariants as at
use Rattle.ui_syntax.specs.Cover.{Read}
use Rattle.ui_syntax.specs.Types.{or_refuse, some}
use Rattle.ui_syntax.proofs.ByBudget.{Begun, Stops, TypeForm, IsTypeRead, IsMaybeRead}
use Rattle.ui_syntax.proofs.Begun.{stops_as}
use Rattle.ui_syntax.proofs.SoundTypesLists.{TypeFits, TypeOk}

abbrev pub MaybeOk : TypePlace → ℕ → List Word → Option (Read TypeTree) → List Word → Type 0
MaybeOk q b ts None rest = ts ≡ rest
MaybeOk q b ts (Some x) rest = TypeOk q b ts x rest

-- a type has to come
pub or_refuse_holds : {p : TypeSite} {b : ℕ} {ts : List Word} {o : Outcome (Option (Read TypeTree))} → Holds (IsMaybeRead p b ts) (Stops (TypeForm p b) ts) o → Holds (IsTypeRead p b ts) (Stops (TypeForm p b) ts) (and_then o or_refuse)
or_refuse_holds {p = p} {b = b} {ts = ts} h = bind h each (λ r s. s)
  where
    each : (x : Option (Read TypeTree)) (r : List Word) → IsMaybeRead p b ts x r → Holds (IsTypeRead p b ts) (Stops (TypeForm p b) ts) (or_refuse x r)
    each None r e = bad (inl e)
    each (Some x) r h = good h

-- ---- at plain places

pub ok_of_read : {b c : ℕ} {ts rest : List Word} {x : Read TypeTree} → b ≤ c → IsTypeRead at.Plain b ts x rest → TypeOk plain_type c ts x rest
ok_of_read le r = record { spells = r.spells; fits = r.fits.0; sized = r.sized; shallow = omega (arith, le, r.fits.1, r.sized) }

pub fits_of_form : {b c : ℕ} → b ≤ c → (us ws : List Word) → TypeForm at.Plain b us ws → TypeFits plain_type c us ws
fits_of_form le us ws h = record { tree = h.tree; spells = h.spells; fits = h.fits.0; shallow = omega (arith, le, h.fits.1) }

pub type_ok : {b c : ℕ} {ts : List Word} {o : Outcome (Read TypeTree)} → b ≤ c → Holds (IsTypeRead at.Plain b ts) (Stops (TypeForm at.Plain b) ts) o → Holds (TypeOk plain_type c ts) (Stops (TypeFits plain_type c) ts) o
type_ok le h = mono h (λ x r q. ok_of_read le q) (λ r s. stops_as s (fits_of_form le))

pub maybe_ok : {b c : ℕ} {ts : List Word} {o : Outcome (Option (Read TypeTree))} → b ≤ c → Holds (IsMaybeRead at.Plain b ts) (Stops (TypeForm at.Plain b) ts) o → Holds (MaybeOk plain_type c ts) (Stops (TypeFits plain_type c) ts) o
maybe_ok {b = b} {c = c} {ts = ts} le h = mono h each (λ r s. stops_as s (fits_of_form le))
  where
    each : (x : Option (Read TypeTree)) (r : List Word) → IsMaybeRead at.Plain b ts x r → MaybeOk plain_type c ts x r
    each None r e = e
    each (Some x) r q = ok_of_read le q

pub frame_ok : (b : ℕ) (ts : List Word) (x : Read TypeTree) (rest : List Word) → TypeOk plain_type b ts x rest → Framed (TypeFits plain_type b) ts rest
frame_ok b ts x rest r = framed_as (frame_type x.tree ts rest r.spells) (λ us ws h. record { tree = x.tree; spells = h; fits = r.fits; shallow = omega (arith, r.sized, r.shallow) })

-- with more room
pub deeper : {b c : ℕ} {ts : List Word} {o : Outcome (Read TypeTree)} → b ≤ c → Holds (IsTypeRead at.Plain b ts) (Stops (TypeForm at.Plain b) ts) o → Holds (IsTypeRead at.Plain c ts) (Stops (TypeForm at.Plain c) ts) o
deeper le h = mono h (λ x r q. record { begins = q.begins; spells = q.spells; fits = (q.fits.0, omega (arith, le, q.fits.1)); sized = q.sized; no_results = q.no_results })
    (λ r s. stops_as s (λ us ws f. record { tree = f.tree; spells = f.spells; fits = (f.fits.0, omega (arith, le, f.fits.1)); closed = f.closed }))

-- a type that came, where none had to
pub opened_holds : {p : TypeSite} {b : ℕ} {ts : List Word} {o : Outcome (Read TypeTree)} → Holds (IsTypeRead p b ts) (Begun (TypeForm p b) ts) o → Holds (IsMaybeRead p b ts) (Stops (TypeForm p b) ts) (and_then o some)
opened_holds h = bind h (λ x r q. good q) (λ r g. inr g)

-- ---- elements of interfaces

pub element_ok : {b : ℕ} {ts : List Word} {o : Outcome (Read TypeTree)} → Holds (IsTypeRead at.Element b ts) (Stops (TypeForm at.Element b) ts) o → Holds (TypeOk interface_element b ts) (Stops (TypeFits interface_element b) ts) o
element_ok h = mono h (λ x r q. record { spells = q.spells; fits = q.fits.0; sized = q.sized; shallow = omega (arith, q.fits.1, q.sized) })
    (λ r s. stops_as s (λ us ws f. record { tree = f.tree; spells = f.spells; fits = f.fits.0; shallow = f.fits.1 }))
