-- Where the parts of a container stand in its bytes.
use Rattle.std.proofs.Common.{◌≡◌, ℕ, ◌+◌, ◌-◌, ◌*◌, ◌<◌, ◌≤◌, List, [], ◌∷◌, ◌++◌, length, take, drop, get_or, sym, ap, ◌∙◌, arith}
use Rattle.std.proofs.lemmas.List.{append-nil, drop-drop}
use Rattle.std.specs.Prelude.{slice_range}
use Rattle.ui_frame.specs.Container.{Parts, contents, elements, ends_of, fingerprint, joined, IsContainer}
use Rattle.ui_frame.specs.Opening.{counts_in, ends_in, total_in, words_at}
use Rattle.ui_frame.proofs.Pieces.{at_running, piece_at, within_running}
use Rattle.ui_frame.proofs.Containers.{Tables-container}

-- the piece stands in the whole from start to end, and not past a limit
pub record IsLocated {X : Type 0} (piece whole : List X) (start end limit : ℕ) : Type 0 where
  pub count : start + length piece ≡ end
  pub within : end ≤ limit
  pub place : piece ≡ slice_range whole start end

-- start and end are what a table of n running ends at a place has for the piece k
pub record IsRange (bytes : List ℕ) (n table k start end : ℕ) : Type 0 where
  pub start_is : start ≡ get_or (0 ∷ words_at n table bytes) k 0
  pub end_is : end ≡ get_or (words_at n table bytes) k 0

located : {X : Type 0} (xss : List (List X)) (rest : List X) (k start end : ℕ) → k < length xss → start ≡ get_or (0 ∷ ends_of xss) k 0 → end ≡ get_or (ends_of xss) k 0 → IsLocated (get_or xss k []) (joined xss ++ rest) start end (length (joined xss))
located {X = X} xss rest k start end h s e =
    let within = within_running 0 xss k h in
    record {
      count = ap (λ (n : ℕ). n + length (get_or xss k [])) s ∙ at_running 0 xss k h ∙ sym e;
      within = omega arith;
      place = rw (s, e) (piece_at xss rest k h);
    }

pub section_located : (bytes : List ℕ) (parts : Parts) (k start end : ℕ) → IsContainer bytes parts → k < 10 → IsRange bytes 10 8 k start end → IsLocated (get_or parts k []) (elements parts) start end (length (elements parts))
unfolding counts_in
section_located bytes parts k start end is h r =
    let counts : words_at 10 8 bytes ≡ ends_of parts = (Tables-container bytes parts is).counts_is in
    let ten = is.fits.ten in
    let s : start ≡ get_or (0 ∷ ends_of parts) k 0 = r.start_is ∙ ap (λ (ns : List ℕ). get_or (0 ∷ ns) k 0) counts in
    let e : end ≡ get_or (ends_of parts) k 0 = r.end_is ∙ ap (λ (ns : List ℕ). get_or ns k 0) counts in
    let found = located parts [] k start end (omega arith) s e in
    let whole : elements parts ++ [] ≡ elements parts = append-nil (elements parts) in
    record { count = found.count; within = found.within; place = rw whole at found.place }

pub element_located : (bytes : List ℕ) (parts : Parts) (k start end : ℕ) → IsContainer bytes parts → k < length (elements parts) → IsRange bytes (total_in bytes) 48 k start end → IsLocated (get_or (elements parts) k []) bytes (48 + 4 * total_in bytes + start) (48 + 4 * total_in bytes + end) (length bytes - 8)
unfolding ends_in
element_located bytes parts k start end is h r =
    let t = Tables-container bytes parts is in
    let total = t.total_is in
    let long = t.length_is in
    let ends : words_at (total_in bytes) 48 bytes ≡ ends_of (elements parts) = t.ends_is in
    let s : start ≡ get_or (0 ∷ ends_of (elements parts)) k 0 = r.start_is ∙ ap (λ (ns : List ℕ). get_or (0 ∷ ns) k 0) ends in
    let e : end ≡ get_or (ends_of (elements parts)) k 0 = r.end_is ∙ ap (λ (ns : List ℕ). get_or ns k 0) ends in
    let found = located (elements parts) (fingerprint parts) k start end h s e in
    let count = found.count in
    let within = found.within in
    let base : ℕ = 48 + 4 * total_in bytes in
    let behind : drop base bytes ≡ contents parts ++ fingerprint parts = ap (λ (n : ℕ). drop (48 + 4 * n) bytes) total ∙ t.behind in
    let width : end - start ≡ base + end - (base + start) = omega arith in
    record {
      count = omega arith;
      within = omega arith;
      place = found.place ∙ ap (λ (bs : List ℕ). take (end - start) (drop start bs)) (sym behind) ∙ ap (take (end - start)) (drop-drop start base bytes) ∙ ap (λ (n : ℕ). take n (drop (base + start) bytes)) width;
    }
