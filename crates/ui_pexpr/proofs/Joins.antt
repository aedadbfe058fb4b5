-- From the readers' outcomes to the grammar.
use Rattle.std.proofs.Common.{◌≡◌, ◌↔◌, ℕ, ◌+◌, ◌-◌, ◌≤◌, List, length, drop, Result, Ok, Err, refl, sym, subst, arith}
use Rattle.std.proofs.lemmas.List.{length-map, length-drop}
use Rattle.ui_scan.specs.declared.kind.Token.{Token}
use Rattle.ui_grammar.specs.Word.{Word, words, word_of}
use Rattle.ui_grammar.specs.Parse.{IsFault, PassesDepth}
use Rattle.ui_parse.specs.Reader.{Outcome, Reader}
use Rattle.ui_parse.proofs.Longest.{Decides, found_at, fault_at}
use Rattle.ui_syntax.specs.Cover.{Read}
use Rattle.ui_depth.specs.Laws.{IsFarther, behind}
use Rattle.ui_pexpr.specs.declared.fault.ParseFault.{ParseFault}
use Rattle.ui_pexpr.specs.Faults.{StandsAt, form_behind, IsKind}
use Rattle.ui_pexpr.specs.Forms.{form_at}
use Rattle.ui_pexpr.specs.KindLaws.{stands_told, kind_told}
use Rattle.ui_pexpr.specs.Answers.{goes_farther, told_behind, Answers}
use Rattle.ui_pexpr.specs.Parsed.{IsParsed, IsFaulty, Parsed}
use Rattle.ui_pexpr.proofs.Readings.{is_farther, not_farther}

module _ {X T : Type 0} (see : X → T) (Has : ℕ → List Word → T → Type 0) (limit : ℕ) (p q : Reader (Read T)) (decides : Decides (Has limit) p (λ x. x.tree))
    (by_depth : (ws rest : List Word) → p ws ≡ Err rest → IsFarther (q ws) rest ↔ PassesDepth Has ws (behind ws rest)) (bytes : List ℕ) (ts : List Token) (from : ℕ) (le : from ≤ length ts) where
  abbrev all : List Word
  all = words bytes ts

  abbrev place : List Word
  place = drop from all

  long : length all ≡ length ts
  long = length-map ts (word_of bytes)

  inside : from ≤ length all
  inside = omega (arith, le, long)

  found : (x : Read T) (rest : List Word) (t : T) (at : ℕ) → p place ≡ Ok (x, rest) → t ≡ x.tree → at ≡ length ts - length rest → IsParsed (Has limit) all from t at
  found x rest t at e same here =
      let f = found_at (Has limit) p (λ x. x.tree) decides from all x rest inside e in
      let at_is : at ≡ length all - length rest = omega (arith, here, long) in
      record { after = omega (arith, at_is, f.1); inside = omega (arith, at_is); found = rw (same, at_is) f.2 }

  faulty : (rest : List Word) (f : ParseFault) → p place ≡ Err rest → f ≡ told_behind bytes ts from (length ts - length rest - from) (goes_farther (q place) (length rest)) → IsFaulty Has limit bytes ts from f
  faulty rest f e is =
      let g = fault_at (Has limit) p (λ x. x.tree) decides from all rest inside e in
      let k : ℕ = length ts - length rest - from in
      let count : length all - length rest - from ≡ k = omega (arith, long) in
      let after : behind place rest ≡ k = omega (arith, long, length-drop from all) in
      let deep = goes_farther (q place) (length rest) in
      let by : IsFarther (q place) rest ↔ PassesDepth Has place k = subst (λ (n : ℕ). IsFarther (q place) rest ↔ PassesDepth Has place n) after (by_depth place rest e) in
      record {
        count = k;
        fault = subst (IsFault (Has limit) place) count g.2;
        stands = subst (StandsAt bytes (drop (from + k) ts)) (sym is) (stands_told bytes (drop (from + k) ts) deep (form_behind form_at place k));
        kind = subst (IsKind Has form_at place k) (sym is) (kind_told Has form_at place k _ deep (λ on. by.0 (is_farther (q place) rest on)) (λ off more. not_farther (q place) rest off (by.1 more)));
      }

  by_outcome : (o : Outcome (Read T)) → p place ≡ o → (r : Result (X × ℕ) ParseFault) → Answers see bytes ts from o (q place) r → Parsed see Has limit bytes ts from r
  by_outcome (Ok x) e (Ok y) a = found x.0 x.1 (see y.0) y.1 e a.0 a.1
  by_outcome (Err rest) e (Err f) a = λ some. faulty rest f e (a some)
  by_outcome (Ok x) e (Err f) a = λ some. absurd (some a)
  by_outcome (Err rest) e (Ok y) a = absurd a

  -- what the readers' outcomes say of an answer, by the grammar
  pub parsed : (r : Result (X × ℕ) ParseFault) → Answers see bytes ts from (p place) (q place) r → Parsed see Has limit bytes ts from r
  parsed r a = by_outcome (p place) refl r a
