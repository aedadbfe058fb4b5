-- Of which kind a fault is.
use Rattle.std.proofs.Common.{◌≡◌, ◌↔◌, ℕ, suc, ◌+◌, ◌-◌, ◌≤◌, Bool, true, false, List, [], ◌∷◌, ◌++◌, length, take, drop, Option, Ok, Err, refl, sym, ap, subst, ◌∙◌, append_assoc, arith}
use Rattle.std.specs.Prelude.{nat_le}
use Rattle.std.proofs.lemmas.Bool.{leb-true, leb-false}
use Rattle.std.proofs.lemmas.List.{length-append, take-append-drop, drop_at, drop-map}
use Rattle.ui_base.specs.declared.value.Spot.{Spot}
use Rattle.ui_scan.specs.Tokens.{Tokens}
use Rattle.ui_scan.specs.declared.kind.Token.{Token}
use Rattle.ui_scan.specs.declared.kind.TokenKind.TheVariants.{End}
use Rattle.ui_tree.specs.Stmt.{File}
use Rattle.ui_grammar.specs.Word.{Word, mark, word_of, words}
use Rattle.ui_grammar.proofs.Frames.{framed}
use Rattle.ui_grammar.proofs.FramesDecl.{fill_file}
use Rattle.ui_grammar.specs.Parse.{HasFile, IsLive, IsLongest, IsFault, PassesDepth}
use Rattle.ui_parse.specs.Reader.{Outcome, rest_of}
use Rattle.ui_parse.proofs.Longest.{fault}
use Rattle.ui_stmts.specs.Decls.{whole_file}
use Rattle.ui_stmts.proofs.Decides.{file_decides}
use Rattle.ui_depth.specs.Laws.{IsFarther}
use Rattle.ui_depth.proofs.FilePasses.{file_shows_depth, file_passes_front}
use Rattle.ui_pexpr.specs.declared.fault.Form.{Form}
use Rattle.ui_pexpr.specs.declared.fault.ParseFault.{ParseFault}
use Rattle.ui_pexpr.specs.BackLaws.{kind_of_token}
use Rattle.ui_pexpr.specs.Faults.{first_offset, first_kind, StandsAt, NoDeeper, form_between, form_behind, IsKind, told}
use Rattle.ui_pexpr.specs.Forms.{none_left}
use Rattle.ui_pexpr.specs.KindLaws.{ReadsFault, reads_fault, stands_told, kind_told, told_is}
use Rattle.ui_pdecl.specs.Forms.{form_by_kind, form_at}
use Rattle.ui_pdecl.specs.FileResult.{enough, reads_farther, told_at, fault_behind}
use Rattle.ui_pdecl.specs.FileLaws.{FileFaultsStay}
use Rattle.ui_pdecl.proofs.LastToken.{ends_last, behind_end}

-- ---- a fault is read as one

pub reads_file : (room : ℕ) (ws : List Word) (k : ℕ) → IsFault (HasFile (suc room)) ws k → ReadsFault (whole_file room) ws k
reads_file room = reads_fault (HasFile (suc room)) (whole_file room) (λ f. f) (file_decides room)

-- ---- at greater limits

more : (limit above : ℕ) (ws : List Word) (f : File) → limit ≤ above → HasFile limit ws f → HasFile above ws f
more limit above ws f le h = record { end = h.end; spells = h.spells; fits = h.fits; shallow = omega (arith, le, h.shallow) }

module _ (room other : ℕ) (ws : List Word) (k : ℕ) (le : room ≤ other) (h : IsFault (HasFile (suc room)) ws k) (none : NoDeeper HasFile ws k) where
  low : ReadsFault (whole_file room) ws k
  low = reads_file room ws k h

  not_farther : (o : Outcome File) → whole_file other ws ≡ o → IsFarther o low.rest → ⊥
  not_farther o e far =
      none (subst (PassesDepth HasFile ws) low.place (file_shows_depth room other ws low.rest low.read (subst (λ (o : Outcome File). IsFarther o low.rest) (sym e) far)))

  as_far : (u : List Word) → whole_file other ws ≡ Err u → length low.rest ≤ length u
  as_far u e = by_length (nat_le (length low.rest) (length u)) refl
    where
      by_length : (b : Bool) → nat_le (length low.rest) (length u) ≡ b → length low.rest ≤ length u
      by_length true le = leb-true _ _ le
      by_length false lt = absurd (not_farther (Err u) e (leb-false _ _ lt))

  live_high : IsLive (HasFile (suc other)) (take k ws)
  live_high = let l = h.longest.live in (l.0, l.1, more (suc room) (suc other) _ _ (omega (arith, le)) l.2)

  not_before : (n : ℕ) → IsLongest (HasFile (suc other)) ws n → k ≤ n
  not_before n longest = by_order (nat_le k n) refl
    where
      by_order : (b : Bool) → nat_le k n ≡ b → k ≤ n
      by_order true e = leb-true _ _ e
      by_order false e = absurd (longest.no_longer k (leb-false _ _ e) h.longest.inside live_high)

  stays_by : (o : Outcome File) → whole_file other ws ≡ o → IsFault (HasFile (suc other)) ws k
  stays_by (Ok p) e = absurd (not_farther (Ok p) e tt)
  stays_by (Err u) e =
      let f = fault (HasFile (suc other)) (whole_file other) (λ f. f) (file_decides other) ws u e in
      let same : length ws - length u ≡ k = omega (arith, as_far u e, low.place, not_before (length ws - length u) f.longest) in
      subst (IsFault (HasFile (suc other)) ws) same f

pub file_faults_stay : FileFaultsStay
file_faults_stay limit above k ws some le h none =
    let below : limit ≡ suc (limit - 1) = omega (arith, some) in
    let over : suc (above - 1) ≡ above = omega (arith, some, le) in
    let lower : IsFault (HasFile (suc (limit - 1))) ws k = subst (λ (n : ℕ). IsFault (HasFile n) ws k) below h in
    subst (λ (n : ℕ). IsFault (HasFile n) ws k) over (stays_by (limit - 1) (above - 1) ws k (omega (arith, some, le)) lower none (whole_file (above - 1) ws) refl)

-- ---- a file ends with the end of the text

pub record EndsIn (front : List Word) : Type 0 where
  pub others : List Word
  pub spot : Spot
  pub parts : front ≡ others ++ (mark End spot ∷ [])

pub ends_in : (limit : ℕ) (f : File) (front : List Word) → HasFile limit front f → EndsIn front
ends_in limit f front has = let w = framed (fill_file f front (mark End has.end ∷ []) has.spells) in record { others = w.front; spot = has.end; parts = w.parts }

no_words_before : (a b : List Word) → a ++ b ≡ [] → a ≡ []
no_words_before [] b e = refl
no_words_before (w ∷ a) b e = absurd cc

-- ---- what a second reading tells

-- whether a deeper file goes on with the word behind the first k, and what is told then
pub record Tells (bytes : List ℕ) (ts : List Token) (k : ℕ) : Type 0 where
  pub passes : Bool
  pub deep : passes ≡ true → PassesDepth HasFile (words bytes ts) k
  pub shallow : passes ≡ false → NoDeeper HasFile (words bytes ts) k
  pub is : fault_behind bytes ts k ≡ told passes (form_behind form_at (words bytes ts) k) (first_offset bytes (drop k ts))

module _ (bytes : List ℕ) (ts : List Token) (scanned : Tokens bytes ts) where
  abbrev ws : List Word
  ws = words bytes ts

  -- nothing is left of the first words where they are read as a file
  none_behind : (room n : ℕ) (f : File) (u : List Word) → whole_file room (take n ws) ≡ Ok (f, u) → u ≡ []
  none_behind room n f u e =
      let w = (file_decides room).found_has (take n ws) f u e in
      let m = ends_in (suc room) f w.front w.has in
      let first : take n ws ≡ m.others ++ (mark End m.spot ∷ u) = w.parts ∙ ap (λ (v : List Word). v ++ u) m.parts ∙ append_assoc m.others (mark End m.spot ∷ []) u in
      let parts : ws ≡ m.others ++ (mark End m.spot ∷ (u ++ drop n ws)) =
      sym (take-append-drop n ws) ∙ ap (λ (v : List Word). v ++ drop n ws) first ∙ append_assoc m.others (mark End m.spot ∷ u) (drop n ws) in
      no_words_before u (drop n ws) (behind_end bytes ts (ends_last bytes ts scanned) m.others (u ++ drop n ws) m.spot parts)

  far_where_none : (w : Word) (o : Outcome File) → none_left (rest_of o) ≡ true → IsFarther o (w ∷ [])
  far_where_none w (Ok p) e = tt
  far_where_none w (Err []) e = omega arith
  far_where_none w (Err (v ∷ u)) e = absurd cc

  none_where_far : (room n : ℕ) (w : Word) (o : Outcome File) → whole_file room (take n ws) ≡ o → none_left (rest_of o) ≡ false → IsFarther o (w ∷ []) → ⊥
  none_where_far room n w (Ok p) at e far =
      let clash : true ≡ false = ap none_left (sym (none_behind room n p.0 p.1 at)) ∙ e in
      absurd cc
  none_where_far room n w (Err []) at e far = absurd cc
  none_where_far room n w (Err (v ∷ u)) at e far = absurd (omega (arith, far))

  module _ (k : ℕ) (rest : List Word) (read : whole_file 199 ws ≡ Err rest) (place : length ws - length rest ≡ k) where
    -- the words that are left
    here : drop k ws ≡ rest
    here =
        let low = (file_decides 199).fault_live ws rest read in
        let long : length low.front ≡ k = omega (arith, place, ap length low.parts, length-append low.front rest) in
        ap (drop k) low.parts ∙ drop_at low.front rest k long

    abbrev room : ℕ
    room = 199 + enough (suc k)

    second : (w : Word) (r : List Word) → rest ≡ w ∷ r → IsFarther (whole_file room (take (suc k) ws)) (w ∷ []) ↔ PassesDepth HasFile ws k
    second w r is =
        let same : length ws - length (w ∷ r) ≡ k = ap (λ (v : List Word). length ws - length v) (sym is) ∙ place in
        let next : length ws - length (w ∷ r) + 1 ≡ suc k = omega (arith, same) in
        let there = file_passes_front 199 room ws w r (read ∙ ap (λ (v : List Word). Err v) is) (omega (arith, same)) in (
          λ far. subst (PassesDepth HasFile ws) same (there.0 (subst (λ (n : ℕ). IsFarther (whole_file room (take n ws)) (w ∷ [])) (sym next) far)),
          λ deep. subst (λ (n : ℕ). IsFarther (whole_file room (take n ws)) (w ∷ [])) next (there.1 (subst (PassesDepth HasFile ws) (sym same) deep)),
        )

    -- the words of the tokens that are left
    left_words : (us : List Token) → drop k ts ≡ us → drop k ws ≡ words bytes us
    left_words us is = drop-map (word_of bytes) k ts ∙ ap (words bytes) is

    tells_by : (us : List Token) → drop k ts ≡ us → Tells bytes ts k
    tells_by [] e =
        let none : rest ≡ [] = sym here ∙ left_words [] e in
        record {
          passes = false;
          deep = λ on. absurd cc;
          shallow = λ off more. omega (arith, more.0, place, ap length none);
          is = ap (λ (v : List Token). told_at ws k (first_kind v) (first_offset bytes (drop k ts))) e
              ∙ sym (ap (λ (v : List Word). told false (form_between form_at (take k ws) v) (first_offset bytes (drop k ts))) (left_words [] e));
        }
    tells_by (t ∷ us) e =
        let w : Word = word_of bytes t in
        let some : rest ≡ w ∷ words bytes us = sym here ∙ left_words (t ∷ us) e in
        let form : form_by_kind (take k ws) t.kind ≡ form_behind form_at ws k = sym (ap (form_between form_at (take k ws)) (left_words (t ∷ us) e) ∙ ap (form_by_kind (take k ws)) (kind_of_token bytes t)) in
        record {
          passes = reads_farther ws k;
          deep = λ on. (second w (words bytes us) some).0 (far_where_none w (whole_file room (take (suc k) ws)) on);
          shallow = λ off more. none_where_far room (suc k) w (whole_file room (take (suc k) ws)) refl off ((second w (words bytes us) some).1 more);
          is = ap (λ (v : List Token). told_at ws k (first_kind v) (first_offset bytes (drop k ts))) e ∙ ap (λ (o : Option Form). told (reads_farther ws k) o (first_offset bytes (drop k ts))) form;
        }

    pub tells : Tells bytes ts k
    tells = tells_by (drop k ts) refl

-- ---- the fault that is told is of its kind, and no other is

module _ (bytes : List ℕ) (ts : List Token) (k : ℕ) (t : Tells bytes ts k) where
  pub stands_there : StandsAt bytes (drop k ts) (fault_behind bytes ts k)
  stands_there = subst (StandsAt bytes (drop k ts)) (sym t.is) (stands_told bytes (drop k ts) t.passes (form_behind form_at (words bytes ts) k))

  pub kind_is : IsKind HasFile form_at (words bytes ts) k (fault_behind bytes ts k)
  kind_is = subst (IsKind HasFile form_at (words bytes ts) k) (sym t.is) (kind_told HasFile form_at (words bytes ts) k (first_offset bytes (drop k ts)) t.passes t.deep t.shallow)

  pub is_told : (e : ParseFault) → StandsAt bytes (drop k ts) e → IsKind HasFile form_at (words bytes ts) k e → e ≡ fault_behind bytes ts k
  is_told e stands kind = told_is HasFile form_at (words bytes ts) k bytes (drop k ts) e t.passes stands kind t.deep t.shallow ∙ sym t.is
