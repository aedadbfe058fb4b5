-- Containers pass the tests, and nothing else does.
use Rattle.std.proofs.Common.{◌≡◌, ◌≢◌, ℕ, zero, suc, ◌+◌, ◌-◌, ◌*◌, ◌^◌, ◌<◌, ◌≤◌, Bool, true, false, cond, eqb, ltb, leb, List, [], ◌∷◌, ◌++◌, length, map, take, drop, get_or, Option, Some, None, refl, sym, ap, subst, ◌∙◌, lit<, append_assoc, arith}
use Rattle.std.proofs.lemmas.Bool.{and_parts, eq-eqb, eqb-true, false_from_ne_true, le-leb, leb-true, le-ltb, lt-leb, lt-ltb, ltb-false, ne_eqb}
use Rattle.std.proofs.lemmas.List.{append-nil, drop_at, length-append, length-drop, length-map, length-take, length-take-le, take-append-drop, take_all, take_at}
use Rattle.std.proofs.lemmas.List.Concat.{flat_map-append}
use Rattle.std.proofs.lemmas.Slice.Eq.{bytes_eq-Decides}
use Rattle.std.proofs.Math.Seq.{take-add}
use Rattle.std.specs.Prelude.{not, nat_le}
use Rattle.std.specs.Int.{w32, to_be_bytes}
use Rattle.std.specs.Str.{bytes_eq}
use Rattle.byteorder.specs.Numbers.{length-bytes_high_first, little_from-lt}
use Rattle.sha2.specs.Sha256.{sha256, digest_bytes, final_hash, initial_hash_256}
use Rattle.ui_frame.specs.Laws.{IsBytes}
use Rattle.ui_frame.specs.Container.{Parts, before_fingerprint, container, contents, elements, ends_of, fingerprint, fingerprint_after, flags, joined, version, word, words, HasContainer, IsContainer}
use Rattle.ui_frame.specs.Opening.{ascends, computed_in, counts_in, cut, ends_in, first_failing, kept_in, last_from, parts_in, total_in, word_at, words_at}
use Rattle.ui_frame.specs.declared.frame.FrameFault.TheVariants.{Short, Version, Flags, Counts, Ends, Length, Fingerprint}
use Rattle.ui_frame.proofs.Pieces.{ascends-running, cut-ends_of, joined-cut, last_from-le, last_from-running, length-cut, length-running, running-cut}
use Rattle.ui_frame.proofs.Words.{AreWords, IsBytes-drop, length-words, word_at-take, words-words_at, words_at-take, words_at-words}

-- ---- the fingerprint has eight bytes

length-digest_bytes : (h : List ℕ) (n : ℕ) → length (digest_bytes h n) ≡ 4 * n
unfolding digest_bytes
length-digest_bytes h zero = refl
length-digest_bytes h (suc n) =
    omega (arith, length-append (digest_bytes h n) (to_be_bytes w32 (get_or h n 0)), length-digest_bytes h n, length-bytes_high_first 4 (get_or h n 0))

length-sha256 : (m : List ℕ) → length (sha256 m) ≡ 32
unfolding sha256
length-sha256 m = length-digest_bytes (final_hash initial_hash_256 m) 8

pub length-fingerprint_after : (bytes : List ℕ) → length (fingerprint_after bytes) ≡ 8
unfolding fingerprint_after
length-fingerprint_after bytes = length-take-le 8 (sha256 bytes) (omega (arith, length-sha256 bytes))

-- ---- what the tests say when they pass

pub record Headed (bytes : List ℕ) : Type 0 where
  pub long : 56 ≤ length bytes
  pub version_is : word_at 0 bytes ≡ 1
  pub flags_is : word_at 4 bytes ≡ 0

pub record Passes (bytes : List ℕ) : Type 0 where
  pub headed : Headed bytes
  pub counts_up : ascends 0 (counts_in bytes) ≡ true
  pub room : 56 + 4 * total_in bytes ≤ length bytes
  pub ends_up : ascends 0 (ends_in bytes) ≡ true
  pub all : 56 + 4 * total_in bytes + last_from 0 (ends_in bytes) ≡ length bytes
  pub kept : kept_in bytes ≡ computed_in bytes

-- ---- and what the first that fails is, for each

pub failing-short : (bytes : List ℕ) → length bytes < 56 → first_failing bytes ≡ Some Short
unfolding first_failing
failing-short bytes h = let a : ltb (length bytes) 56 ≡ true = lt-ltb _ _ h in rw a refl

pub failing-version : (bytes : List ℕ) → 56 ≤ length bytes → word_at 0 bytes ≢ 1 → first_failing bytes ≡ Some Version
unfolding first_failing
failing-version bytes h ne =
    let a : ltb (length bytes) 56 ≡ false = le-ltb _ _ h in
    let b : eqb (word_at 0 bytes) 1 ≡ false = ne_eqb _ _ ne in
    rw (a, b) refl

pub failing-flags : (bytes : List ℕ) → 56 ≤ length bytes → word_at 0 bytes ≡ 1 → word_at 4 bytes ≢ 0 → first_failing bytes ≡ Some Flags
unfolding first_failing
failing-flags bytes h version_is ne =
    let a : ltb (length bytes) 56 ≡ false = le-ltb _ _ h in
    let b : eqb (word_at 0 bytes) 1 ≡ true = eq-eqb _ _ version_is in
    let c : eqb (word_at 4 bytes) 0 ≡ false = ne_eqb _ _ ne in
    rw (a, b, c) refl

pub headed_by : (bytes : List ℕ) (v f : ℕ) → 56 ≤ length bytes → v ≡ word_at 0 bytes → v ≡ 1 → f ≡ word_at 4 bytes → f ≡ 0 → Headed bytes
headed_by bytes v f long ve v1 fe f0 = record { long = long; version_is = sym ve ∙ v1; flags_is = sym fe ∙ f0 }

pub ends_by : (bytes : List ℕ) (count : ℕ) → count ≡ total_in bytes → words_at count 48 bytes ≡ ends_in bytes
unfolding ends_in
ends_by bytes count e = ap (λ (n : ℕ). words_at n 48 bytes) e

-- behind the tests of the heading
module _ (bytes : List ℕ) (h : Headed bytes) where
  a : ltb (length bytes) 56 ≡ false
  a = le-ltb _ _ h.long

  b : eqb (word_at 0 bytes) 1 ≡ true
  b = eq-eqb _ _ h.version_is

  c : eqb (word_at 4 bytes) 0 ≡ true
  c = eq-eqb _ _ h.flags_is

  pub failing-counts : ascends 0 (counts_in bytes) ≡ false → first_failing bytes ≡ Some Counts
  unfolding first_failing
  failing-counts down = rw (a, b, c, down) refl

  pub failing-room : ascends 0 (counts_in bytes) ≡ true → length bytes < 56 + 4 * total_in bytes → first_failing bytes ≡ Some Counts
  unfolding first_failing
  failing-room up short =
      let d : leb (56 + 4 * total_in bytes) (length bytes) ≡ false = lt-leb _ _ short in
      rw (a, b, c, up, d) refl

  module _ (up : ascends 0 (counts_in bytes) ≡ true) (room : 56 + 4 * total_in bytes ≤ length bytes) where
    d : leb (56 + 4 * total_in bytes) (length bytes) ≡ true
    d = le-leb _ _ room

    pub failing-ends : ascends 0 (ends_in bytes) ≡ false → first_failing bytes ≡ Some Ends
    unfolding first_failing
    failing-ends down = rw (a, b, c, up, d, down) refl

    module _ (ends_up : ascends 0 (ends_in bytes) ≡ true) where
      pub failing-length : 56 + 4 * total_in bytes + last_from 0 (ends_in bytes) ≢ length bytes → first_failing bytes ≡ Some Length
      unfolding first_failing
      failing-length ne =
          let e : eqb (56 + 4 * total_in bytes + last_from 0 (ends_in bytes)) (length bytes) ≡ false = ne_eqb _ _ ne in
          rw (a, b, c, up, d, ends_up, e) refl

      pub failing-fingerprint : 56 + 4 * total_in bytes + last_from 0 (ends_in bytes) ≡ length bytes → kept_in bytes ≢ computed_in bytes → first_failing bytes ≡ Some (Fingerprint (kept_in bytes) (computed_in bytes))
      unfolding first_failing
      failing-fingerprint all ne =
          let e : eqb (56 + 4 * total_in bytes + last_from 0 (ends_in bytes)) (length bytes) ≡ true = eq-eqb _ _ all in
          let f : bytes_eq (kept_in bytes) (computed_in bytes) ≡ false = false_from_ne_true _ (λ same. ne ((bytes_eq-Decides _ _).0 same)) in
          rw (a, b, c, up, d, ends_up, e, f) refl

pub first_failing-none : (bytes : List ℕ) → Passes bytes → first_failing bytes ≡ None
unfolding first_failing
first_failing-none bytes p =
    let room : leb (56 + 4 * total_in bytes) (length bytes) ≡ true = le-leb _ _ p.room in
    let all : eqb (56 + 4 * total_in bytes + last_from 0 (ends_in bytes)) (length bytes) ≡ true = eq-eqb _ _ p.all in
    let same : bytes_eq (kept_in bytes) (computed_in bytes) ≡ true = (bytes_eq-Decides _ _).1 p.kept in
    rw (a bytes p.headed, b bytes p.headed, c bytes p.headed, p.counts_up, room, p.ends_up, all, same) refl

none_chosen : {X : Type 0} (b : Bool) (x : X) (o : Option X) → cond b (Some x) o ≡ None → (b ≡ false) × (o ≡ None)
none_chosen true x o e = absurd cc
none_chosen false x o e = (refl, e)

not_false : (b : Bool) → not b ≡ false → b ≡ true
not_false true e = refl
not_false false e = absurd cc

pub Passes-from_none : (bytes : List ℕ) → first_failing bytes ≡ None → Passes bytes
unfolding first_failing
Passes-from_none bytes none =
    let a = none_chosen _ _ _ none in
    let b = none_chosen _ _ _ a.1 in
    let c = none_chosen _ _ _ b.1 in
    let d = none_chosen _ _ _ c.1 in
    let e = none_chosen _ _ _ d.1 in
    let f = none_chosen _ _ _ e.1 in
    let g = none_chosen _ _ _ f.1 in
    let counts = and_parts _ _ (not_false _ d.0) in
    record {
      headed = record { long = ltb-false _ _ a.0; version_is = eqb-true _ _ (not_false _ b.0); flags_is = eqb-true _ _ (not_false _ c.0) };
      counts_up = counts.0;
      room = leb-true _ _ counts.1;
      ends_up = not_false _ e.0;
      all = eqb-true _ _ (not_false _ f.0);
      kept = (bytes_eq-Decides _ _).0 (not_false _ g.0);
    }

-- ---- the tables of a container

counts_last : (bytes : List ℕ) → last_from 0 (counts_in bytes) ≡ total_in bytes
unfolding counts_in
counts_last bytes = refl

pub AreWords-ascending : (low : ℕ) (ns : List ℕ) → ascends low ns ≡ true → last_from low ns < 2 ^ 32 → AreWords ns
AreWords-ascending low [] up fits = tt
AreWords-ascending low (n ∷ ns) up fits =
    let parts = and_parts (nat_le low n) (ascends n ns) up in
    let above = last_from-le n ns parts.1 in
    (omega arith, AreWords-ascending n ns parts.1 fits)

pub AreWords-ends_of : {X : Type 0} (xss : List (List X)) → length (joined xss) < 2 ^ 32 → AreWords (ends_of xss)
AreWords-ends_of xss fits =
    AreWords-ascending 0 (ends_of xss) (ascends-running 0 (map length xss)) (omega (arith, last_from-running 0 xss))

pub length-ends_of : {X : Type 0} (xss : List (List X)) → length (ends_of xss) ≡ length xss
length-ends_of {X = X} xss = length-running 0 (map length xss) ∙ length-map xss length

-- the ten counts and what stands before them; and all four tables of a container, one after another
abbrev pub heading : Parts → List ℕ
heading parts = version ∷ flags ∷ ends_of parts

regroup : (a b c d : List ℕ) → ((a ++ b) ++ c) ++ d ≡ a ++ (b ++ (c ++ d))
regroup a b c d = simp append_assoc

pub container-is : (parts : Parts) → container parts ≡ words (heading parts) ++ (words (ends_of (elements parts)) ++ (contents parts ++ fingerprint parts))
unfolding before_fingerprint
container-is parts =
    ap (λ (ws : List ℕ). (ws ++ contents parts) ++ fingerprint parts) (flat_map-append word (heading parts) (ends_of (elements parts)))
    ∙ regroup (words (heading parts)) (words (ends_of (elements parts))) (contents parts) (fingerprint parts)

pub record Tables (bytes : List ℕ) (parts : Parts) : Type 0 where
  pub version_is : word_at 0 bytes ≡ 1
  pub flags_is : word_at 4 bytes ≡ 0
  pub counts_is : counts_in bytes ≡ ends_of parts
  pub total_is : total_in bytes ≡ length (elements parts)
  pub ends_is : ends_in bytes ≡ ends_of (elements parts)
  pub behind : drop (48 + 4 * length (elements parts)) bytes ≡ contents parts ++ fingerprint parts
  pub length_is : length bytes ≡ 56 + 4 * length (elements parts) + length (contents parts)

length-heading : (parts : Parts) → length parts ≡ 10 → length (heading parts) ≡ 12
length-heading parts ten = omega (arith, length-ends_of parts)

length-words-heading : (parts : Parts) → length parts ≡ 10 → length (words (heading parts)) ≡ 48
length-words-heading parts ten = omega (arith, length-words (heading parts), length-heading parts ten)

-- the tables of a container, over the bytes of its four parts
module _ (parts : Parts) (rest : List ℕ) (fits : HasContainer parts) where
  spelling : List ℕ
  spelling = words (heading parts) ++ (words (ends_of (elements parts)) ++ rest)

  heading-read : words_at 12 0 spelling ≡ heading parts
  unfolding spelling
  heading-read =
      let are : AreWords (heading parts) = (lit< tt, (lit< tt, AreWords-ends_of parts fits.count_fits)) in
      subst (λ (n : ℕ). words_at n 0 (words (heading parts) ++ (words (ends_of (elements parts)) ++ rest)) ≡ heading parts) (length-heading parts fits.ten)
      (words_at-words [] (heading parts) (words (ends_of (elements parts)) ++ rest) 0 refl are)

  version-read : word_at 0 spelling ≡ 1
  version-read = let e = heading-read in cc

  flags-read : word_at 4 spelling ≡ 0
  flags-read = let e = heading-read in cc

  counts-read : counts_in spelling ≡ ends_of parts
  unfolding counts_in
  counts-read = let e = heading-read in cc

  total-read : total_in spelling ≡ length (elements parts)
  total-read = sym (counts_last spelling) ∙ ap (last_from 0) counts-read ∙ last_from-running 0 parts ∙ omega arith

  ends-read : ends_in spelling ≡ ends_of (elements parts)
  unfolding ends_in spelling
  ends-read =
      let total : length (ends_of (elements parts)) ≡ total_in spelling = length-ends_of (elements parts) ∙ sym total-read in
      subst (λ (n : ℕ). words_at n 48 spelling ≡ ends_of (elements parts)) total
      (words_at-words (words (heading parts)) (ends_of (elements parts)) rest 48 (length-words-heading parts fits.ten) (AreWords-ends_of (elements parts) fits.bytes_fit))

  length-tables : length (words (heading parts) ++ words (ends_of (elements parts))) ≡ 48 + 4 * length (elements parts)
  length-tables =
      omega (arith, length-append (words (heading parts)) (words (ends_of (elements parts))), length-words-heading parts fits.ten, length-words (ends_of (elements parts)), length-ends_of (elements parts))

  behind-read : drop (48 + 4 * length (elements parts)) spelling ≡ rest
  unfolding spelling
  behind-read =
      ap (drop (48 + 4 * length (elements parts))) (sym (append_assoc (words (heading parts)) (words (ends_of (elements parts))) rest))
      ∙ drop_at (words (heading parts) ++ words (ends_of (elements parts))) rest (48 + 4 * length (elements parts)) length-tables

  length-spelling : length spelling ≡ 48 + 4 * length (elements parts) + length rest
  unfolding spelling
  length-spelling =
      ap length (sym (append_assoc (words (heading parts)) (words (ends_of (elements parts))) rest))
      ∙ length-append (words (heading parts) ++ words (ends_of (elements parts))) rest ∙ ap (λ (n : ℕ). n + length rest) length-tables

pub Tables-container : (bytes : List ℕ) (parts : Parts) → IsContainer bytes parts → Tables bytes parts
unfolding spelling
Tables-container bytes parts is =
    let rest : List ℕ = contents parts ++ fingerprint parts in
    let e : bytes ≡ spelling parts rest is.fits = is.spelled ∙ container-is parts in
    let len = length-spelling parts rest is.fits in
    rw e (record {
      version_is = version-read parts rest is.fits;
      flags_is = flags-read parts rest is.fits;
      counts_is = counts-read parts rest is.fits;
      total_is = total-read parts rest is.fits;
      ends_is = ends-read parts rest is.fits;
      behind = behind-read parts rest is.fits;
      length_is = omega (arith, len, length-append (contents parts) (fingerprint parts), length-fingerprint_after (before_fingerprint parts));
    })

-- ---- a container passes, and its tables give its parts

length-before : (parts : Parts) → length (container parts) - 8 ≡ length (before_fingerprint parts)
length-before parts =
    omega (arith, length-append (before_fingerprint parts) (fingerprint parts), length-fingerprint_after (before_fingerprint parts))

kept-container : (parts : Parts) → kept_in (container parts) ≡ fingerprint parts
unfolding kept_in
kept-container parts = drop_at (before_fingerprint parts) (fingerprint parts) _ (sym (length-before parts))

computed-container : (parts : Parts) → computed_in (container parts) ≡ fingerprint parts
unfolding computed_in
computed-container parts =
    ap fingerprint_after (take_at (before_fingerprint parts) (fingerprint parts) _ (sym (length-before parts)))

pub kept_in-container : (bytes : List ℕ) (parts : Parts) → IsContainer bytes parts → kept_in bytes ≡ fingerprint parts
kept_in-container bytes parts is = ap kept_in is.spelled ∙ kept-container parts

pub Passes-container : (bytes : List ℕ) (parts : Parts) → IsContainer bytes parts → Passes bytes
Passes-container bytes parts is =
    let t = Tables-container bytes parts is in
    let total_is = t.total_is in
    let length_is = t.length_is in
    let last = ap (last_from 0) t.ends_is ∙ last_from-running 0 (elements parts) in
    record {
      headed = record { long = omega arith; version_is = t.version_is; flags_is = t.flags_is };
      counts_up = ap (ascends 0) t.counts_is ∙ ascends-running 0 (map length parts);
      room = omega arith;
      ends_up = ap (ascends 0) t.ends_is ∙ ascends-running 0 (map length (elements parts));
      all = omega (arith, last);
      kept = rw is.spelled (kept-container parts ∙ sym (computed-container parts));
    }

pub parts_in-container : (bytes : List ℕ) (parts : Parts) → IsContainer bytes parts → parts_in bytes ≡ parts
unfolding parts_in
parts_in-container bytes parts is =
    let t = Tables-container bytes parts is in
    let pieces : cut 0 (ends_of (elements parts)) (contents parts ++ fingerprint parts) ≡ elements parts = cut-ends_of (elements parts) (fingerprint parts) in
    let whole : elements parts ++ [] ≡ elements parts = append-nil (elements parts) in
    let sections : cut 0 (ends_of parts) (elements parts) ≡ parts = rw whole at (cut-ends_of parts []) in
    rw (t.counts_is, t.ends_is, t.total_is, t.behind, pieces) sections

-- ---- bytes that pass are a container

length-words_at : (n place : ℕ) (bytes : List ℕ) → length (words_at n place bytes) ≡ n
length-words_at zero place bytes = refl
length-words_at (suc n) place bytes = ap suc (length-words_at n (place + 4) bytes)

length-counts_in : (bytes : List ℕ) → length (counts_in bytes) ≡ 10
unfolding counts_in
length-counts_in bytes = refl

length-ends_in : (bytes : List ℕ) → length (ends_in bytes) ≡ total_in bytes
unfolding ends_in
length-ends_in bytes = length-words_at (total_in bytes) 48 bytes

byte_at-lt : (bytes : List ℕ) → IsBytes bytes → (k : ℕ) → get_or bytes k 0 < 256
byte_at-lt [] fits k = lit< tt
byte_at-lt (b ∷ bytes) fits zero = fits.0
byte_at-lt (b ∷ bytes) fits (suc k) = byte_at-lt bytes fits.1 k

word_at-lt : (place : ℕ) (bytes : List ℕ) → IsBytes bytes → word_at place bytes < 2 ^ 32
unfolding word_at
word_at-lt place bytes fits =
    little_from-lt 0 4 (drop place bytes) (byte_at-lt (drop place bytes) (IsBytes-drop place bytes fits))

last_from-words_at : (low n place : ℕ) (bytes : List ℕ) → IsBytes bytes → low < 2 ^ 32 → last_from low (words_at n place bytes) < 2 ^ 32
last_from-words_at low zero place bytes fits small = small
last_from-words_at low (suc n) place bytes fits small =
    last_from-words_at (word_at place bytes) n (place + 4) bytes fits (word_at-lt place bytes fits)

last-ends_in : (bytes : List ℕ) → IsBytes bytes → last_from 0 (ends_in bytes) < 2 ^ 32
unfolding ends_in
last-ends_in bytes fits = last_from-words_at 0 (total_in bytes) 48 bytes fits (lit< tt)

words-heading_in : (bytes : List ℕ) → IsBytes bytes → Passes bytes → words (version ∷ flags ∷ counts_in bytes) ≡ take 48 bytes
unfolding counts_in
words-heading_in bytes fits p =
    let long = p.headed.long in
    let counts : List ℕ = counts_in bytes in
    ap (λ (n : ℕ). word n ++ (word flags ++ words counts)) (sym p.headed.version_is)
    ∙ ap (λ (n : ℕ). word (word_at 0 bytes) ++ (word n ++ words counts)) (sym p.headed.flags_is) ∙ words-words_at 12 0 bytes fits (omega arith)

words-ends_in : (bytes : List ℕ) → IsBytes bytes → Passes bytes → words (ends_in bytes) ≡ take (4 * total_in bytes) (drop 48 bytes)
unfolding ends_in
words-ends_in bytes fits p =
    let room = p.room in
    words-words_at (total_in bytes) 48 bytes fits (omega arith)

pub before-is : (parts : Parts) → before_fingerprint parts ≡ (words (heading parts) ++ words (ends_of (elements parts))) ++ contents parts
unfolding before_fingerprint
before-is parts = ap (λ (ws : List ℕ). ws ++ contents parts) (flat_map-append word (heading parts) (ends_of (elements parts)))

record Read (bytes : List ℕ) : Type 0 where
  ten : length (parts_in bytes) ≡ 10
  elements_is : elements (parts_in bytes) ≡ cut 0 (ends_in bytes) (drop (48 + 4 * total_in bytes) bytes)
  counts_is : ends_of (parts_in bytes) ≡ counts_in bytes
  ends_is : ends_of (elements (parts_in bytes)) ≡ ends_in bytes
  contents_is : contents (parts_in bytes) ≡ take (last_from 0 (ends_in bytes)) (drop (48 + 4 * total_in bytes) bytes)

read-passed : (bytes : List ℕ) → Passes bytes → Read bytes
unfolding parts_in
read-passed bytes p =
    let all = p.all in
    let behind : List ℕ = drop (48 + 4 * total_in bytes) bytes in
    let pieces : List (List ℕ) = cut 0 (ends_in bytes) behind in
    let count : length pieces ≡ total_in bytes = length-cut 0 (ends_in bytes) behind ∙ length-ends_in bytes in
    let last = counts_last bytes in
    let fits : last_from 0 (ends_in bytes) ≤ length behind = omega (arith, length-drop (48 + 4 * total_in bytes) bytes) in
    let elements_is : joined (cut 0 (counts_in bytes) pieces) ≡ pieces = joined-cut 0 (counts_in bytes) pieces p.counts_up ∙ take_all _ pieces (omega arith) in
    record {
      ten = length-cut 0 (counts_in bytes) pieces ∙ length-counts_in bytes;
      elements_is = elements_is;
      counts_is = running-cut 0 (counts_in bytes) pieces p.counts_up (omega arith);
      ends_is = rw elements_is (running-cut 0 (ends_in bytes) behind p.ends_up fits);
      contents_is = rw elements_is (joined-cut 0 (ends_in bytes) behind p.ends_up ∙ ap (λ (n : ℕ). take n behind) (omega arith));
    }

before-passed : (bytes : List ℕ) → IsBytes bytes → Passes bytes → before_fingerprint (parts_in bytes) ≡ take (length bytes - 8) bytes
before-passed bytes fits p =
    let r = read-passed bytes p in
    let all = p.all in
    let total : ℕ = total_in bytes in
    let last : ℕ = last_from 0 (ends_in bytes) in
    let first : words (heading (parts_in bytes)) ≡ take 48 bytes = ap (λ (ns : List ℕ). words (version ∷ flags ∷ ns)) r.counts_is ∙ words-heading_in bytes fits p in
    let second : words (ends_of (elements (parts_in bytes))) ≡ take (4 * total) (drop 48 bytes) = ap words r.ends_is ∙ words-ends_in bytes fits p in
    let whole : 48 + 4 * total + last ≡ length bytes - 8 = omega arith in
    before-is (parts_in bytes)
    ∙ ap (λ (ws : List ℕ). (ws ++ words (ends_of (elements (parts_in bytes)))) ++ contents (parts_in bytes)) first
    ∙ ap (λ (ws : List ℕ). (take 48 bytes ++ ws) ++ contents (parts_in bytes)) second
    ∙ ap (λ (bs : List ℕ). (take 48 bytes ++ take (4 * total) (drop 48 bytes)) ++ bs) r.contents_is
    ∙ ap (λ (bs : List ℕ). bs ++ take last (drop (48 + 4 * total) bytes)) (sym (take-add 48 (4 * total) bytes))
    ∙ sym (take-add (48 + 4 * total) last bytes) ∙ ap (λ (n : ℕ). take n bytes) whole

spelled-passed : (bytes : List ℕ) → IsBytes bytes → Passes bytes → bytes ≡ container (parts_in bytes)
unfolding kept_in computed_in
spelled-passed bytes fits p =
    let front : List ℕ = take (length bytes - 8) bytes in
    sym (take-append-drop (length bytes - 8) bytes) ∙ ap (λ (bs : List ℕ). front ++ bs) p.kept
    ∙ ap (λ (bs : List ℕ). bs ++ fingerprint_after bs) (sym (before-passed bytes fits p))

pub IsContainer-passed : (bytes : List ℕ) → IsBytes bytes → Passes bytes → IsContainer bytes (parts_in bytes)
IsContainer-passed bytes fits p =
    let r = read-passed bytes p in
    let all = p.all in
    let count : length (elements (parts_in bytes)) ≡ total_in bytes = ap length r.elements_is ∙ length-cut 0 (ends_in bytes) (drop (48 + 4 * total_in bytes) bytes) ∙ length-ends_in bytes in
    let small = word_at-lt 44 bytes fits in
    let last = last-ends_in bytes fits in
    record {
      fits = record {
        ten = r.ten;
        count_fits = omega arith;
        bytes_fit = omega (arith, ap length r.contents_is, length-take (last_from 0 (ends_in bytes)) (drop (48 + 4 * total_in bytes) bytes));
      };
      spelled = spelled-passed bytes fits p;
    }

-- ---- a container that is cut

counts_in-take : (n : ℕ) (bytes : List ℕ) → 48 ≤ n → counts_in (take n bytes) ≡ counts_in bytes
unfolding counts_in
counts_in-take n bytes h = words_at-take 10 8 n bytes (omega arith)

ends_in-take : (n : ℕ) (bytes : List ℕ) → 48 + 4 * total_in bytes ≤ n → ends_in (take n bytes) ≡ ends_in bytes
unfolding ends_in
ends_in-take n bytes h =
    let total : total_in (take n bytes) ≡ total_in bytes = word_at-take 44 n bytes (omega arith) in
    rw total (words_at-take (total_in bytes) 48 n bytes h)

pub first_failing-short : (bytes : List ℕ) (n : ℕ) → n < 56 → first_failing (take n bytes) ≡ Some Short
first_failing-short bytes n h = failing-short (take n bytes) (omega (arith, length-take n bytes))

headed-take : (bytes : List ℕ) (n : ℕ) → Headed bytes → 56 ≤ n → n ≤ length bytes → Headed (take n bytes)
headed-take bytes n p h k =
    let len : length (take n bytes) ≡ n = length-take-le n bytes k in
    record {
      long = omega arith;
      version_is = word_at-take 0 n bytes (omega arith) ∙ p.version_is;
      flags_is = word_at-take 4 n bytes (omega arith) ∙ p.flags_is;
    }

pub first_failing-counts : (bytes : List ℕ) (n : ℕ) → Passes bytes → 56 ≤ n → n < 56 + 4 * total_in bytes → first_failing (take n bytes) ≡ Some Counts
first_failing-counts bytes n p h k =
    let room = p.room in
    let len : length (take n bytes) ≡ n = length-take-le n bytes (omega arith) in
    let total : total_in (take n bytes) ≡ total_in bytes = word_at-take 44 n bytes (omega arith) in
    let up : ascends 0 (counts_in (take n bytes)) ≡ true = ap (ascends 0) (counts_in-take n bytes (omega arith)) ∙ p.counts_up in
    failing-room (take n bytes) (headed-take bytes n p.headed h (omega arith)) up (omega arith)

pub first_failing-length : (bytes : List ℕ) (n : ℕ) → Passes bytes → 56 + 4 * total_in bytes ≤ n → n < length bytes → first_failing (take n bytes) ≡ Some Length
first_failing-length bytes n p room h =
    let all = p.all in
    let len : length (take n bytes) ≡ n = length-take-le n bytes (omega arith) in
    let total : total_in (take n bytes) ≡ total_in bytes = word_at-take 44 n bytes (omega arith) in
    let ends : ends_in (take n bytes) ≡ ends_in bytes = ends_in-take n bytes (omega arith) in
    let last : last_from 0 (ends_in (take n bytes)) ≡ last_from 0 (ends_in bytes) = ap (last_from 0) ends in
    let counts_up : ascends 0 (counts_in (take n bytes)) ≡ true = ap (ascends 0) (counts_in-take n bytes (omega arith)) ∙ p.counts_up in
    let ends_up : ascends 0 (ends_in (take n bytes)) ≡ true = ap (ascends 0) ends ∙ p.ends_up in
    failing-length (take n bytes) (headed-take bytes n p.headed (omega arith) (omega arith)) counts_up (omega arith) ends_up (λ same. omega arith)
