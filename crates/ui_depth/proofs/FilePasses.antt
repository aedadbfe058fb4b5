-- Which faults of files are faults of depth. No fixed number of levels more tells them: behind `type N [` one of two readings may
-- stop for its depth before the fault of the other. A limit that is enough for the words does.
use Rattle.std.proofs.Common.{◌≡◌, ◌↔◌, ℕ, zero, suc, ◌+◌, ◌-◌, ◌*◌, ◌<◌, ◌≤◌, Bool, true, false, List, [], ◌∷◌, ◌++◌, length, take, Some, None, Ok, Err, refl, sym, ap, subst, ◌∙◌, append_assoc, lt-suc_self, arith}
use Rattle.std.specs.Prelude.{nat_le}
use Rattle.std.proofs.lemmas.Bool.{leb-true, leb-false}
use Rattle.std.proofs.lemmas.List.{length-append, append-nil, take_at}
use Rattle.ui_scan.specs.declared.kind.TokenKind.TheVariants.{End}
use Rattle.ui_tree.specs.Stmt.{File}
use Rattle.ui_grammar.specs.Word.{Word, mark}
use Rattle.ui_grammar.specs.Parse.{HasFile, IsLive, PassesDepth}
use Rattle.ui_parse.specs.Reader.{Outcome, Reader, and_then, ◌>>=◌, pure, refuse, expect, rest_of as left}
use Rattle.ui_parse.proofs.Outcomes.{expect_mark}
use Rattle.ui_parse.proofs.Longest.{FrontLive, Decides, same, fault}
use Rattle.ui_stmts.specs.Decls.{file, whole_file}
use Rattle.ui_stmts.proofs.SteadyDecls.{file_steady}
use Rattle.ui_stmts.proofs.CompleteDecls.{ends_file}
use Rattle.ui_stmts.proofs.Files.{file_complete}
use Rattle.ui_stmts.proofs.Decides.{file_decides}
use Rattle.ui_depth.specs.Laws.{IsFarther, behind}
use Rattle.ui_depth.proofs.Passes.{live_left, live_read, shorter}
use Rattle.ui_depth.proofs.Declarations.{whole_settled}
use Rattle.ui_depth.specs.Laws.{ShowsDepth, TellsFiles, TellsFronts}

-- the reader of each limit
abbrev file_of : ℕ → Reader File
file_of zero = refuse
file_of (suc room) = whole_file room

decides : (limit : ℕ) → 1 ≤ limit → Decides (HasFile limit) (file_of limit) (λ f. f)
decides zero le = absurd (omega (arith, le))
decides (suc room) le = file_decides room

more : (limit above : ℕ) (ws : List Word) (f : File) → limit ≤ above → HasFile limit ws f → HasFile above ws f
more limit above ws f le h = record { end = h.end; spells = h.spells; fits = h.fits; shallow = omega (arith, le, h.shallow) }

-- ---- nothing stands behind a file's end

module _ (room : ℕ) where
  read_before : (front : List Word) (f : File) (h : HasFile (suc room) front f) → file room front ≡ Ok (f, mark End h.end ∷ [])
  read_before front f h = file_complete room f front (mark End h.end ∷ []) h.spells h.fits h.shallow (ends_file h.end [])

  read_more : (front x : List Word) (f : File) (h : HasFile (suc room) front f) → file room (front ++ x) ≡ Ok (f, mark End h.end ∷ x)
  read_more front x f h = same (file room) (file_steady room) (Some f) front (mark End h.end) [] [] x (ap (file room) (append-nil front) ∙ read_before front f h)

  whole_more : (front x : List Word) (f : File) (h : HasFile (suc room) front f) → whole_file room (front ++ x) ≡ Ok (f, x)
  whole_more front x f h = ap (λ (o : Outcome File). and_then o (λ g. expect End >>= (λ _. pure g))) (read_more front x f h) ∙ rw (expect_mark End h.end x) refl

  end_once : (front x : List Word) (f g : File) → HasFile (suc room) front f → HasFile (suc room) (front ++ x) g → x ≡ []
  end_once front x f g h k = ap left (sym (whole_more front x f h) ∙ ((file_decides room).complete (front ++ x) g k).read)

-- ---- fronts of the same words

record Goes (a b : List Word) : Type 0 where
  on : List Word
  is : b ≡ a ++ on

goes_on : (a b r s : List Word) → a ++ r ≡ b ++ s → length a ≤ length b → Goes a b
goes_on [] b r s e le = record { on = b; is = refl }
goes_on (w ∷ a) [] r s e le = absurd (omega (arith, le))
goes_on (w ∷ a) (v ∷ b) r s e le =
    let tails : a ++ r ≡ b ++ s = cc in
    let heads : w ≡ v = cc in
    let g = goes_on a b r s tails (omega (arith, le)) in
    record { on = g.on; is = ap (λ (u : Word). u ∷ b) (sym heads) ∙ ap (λ (u : List Word). w ∷ u) g.is }

nothing_left : (a b : List Word) → a ++ b ≡ [] → (a ≡ []) × (b ≡ [])
nothing_left [] b e = (refl, e)
nothing_left (w ∷ a) b e = absurd cc

-- ---- a reading that goes farther

module _ (room : ℕ) (ws rest : List Word) (at : whole_file room ws ≡ Err rest) where
  no_file : (front : List Word) (g : File) → ws ≡ front ++ rest → HasFile (suc room) front g → ⊥
  no_file front g parts h = (fault (HasFile (suc room)) (whole_file room) (λ f. f) (file_decides room) ws rest at).none g (subst (λ (v : List Word). HasFile (suc room) v g) (sym front_is) h)
    where
      front_is : take (length ws - length rest) ws ≡ front
      front_is = ap (take (length ws - length rest)) parts ∙ take_at front rest (length ws - length rest) (omega (arith, ap length parts, length-append front rest))

  -- a file that is read stands in no front of a file that isn't
  not_before : (other : ℕ) (f : File) (r : List Word) → whole_file other ws ≡ Ok (f, r) → length rest ≤ length r → ⊥
  not_before other f r e le =
      let low = (file_decides room).fault_live ws rest at in
      let high = (file_decides other).found_has ws f r e in
      let g = goes_on high.front low.front r rest (sym high.parts ∙ low.parts) (omega (arith, le, ap length high.parts, ap length low.parts, length-append high.front r, length-append low.front rest)) in
      let whole : low.front ++ low.live.0 ≡ high.front ++ (g.on ++ low.live.0) = ap (λ (v : List Word). v ++ low.live.0) g.is ∙ append_assoc high.front g.on low.live.0 in
      let none = nothing_left g.on low.live.0 (end_once (room + other) high.front (g.on ++ low.live.0) f low.live.1
      (more (suc other) (suc (room + other)) high.front f (omega arith) high.has)
      (more (suc room) (suc (room + other)) (high.front ++ (g.on ++ low.live.0)) low.live.1 (omega arith) (subst (λ (v : List Word). HasFile (suc room) v low.live.1) whole low.live.2))) in
      no_file low.front low.live.1 low.parts (subst (λ (v : List Word). HasFile (suc room) v low.live.1) (ap (λ (v : List Word). low.front ++ v) none.1 ∙ append-nil low.front) low.live.2)

  fewer_by : (other : ℕ) (o : Outcome File) → whole_file other ws ≡ o → IsFarther o rest → length (left o) < length rest
  fewer_by other (Err u) e far = far
  fewer_by other (Ok p) e far = by_length (nat_le (length rest) (length p.1)) refl
    where
      by_length : (b : Bool) → nat_le (length rest) (length p.1) ≡ b → length p.1 < length rest
      by_length true le = absurd (not_before other p.0 p.1 e (leb-true _ _ le))
      by_length false lt = leb-false _ _ lt

  within : length rest ≤ length ws
  within = shorter HasFile file_of (λ f. f) decides (suc room) ws (Err rest) (omega arith) at

  pub file_passes : (other : ℕ) → IsFarther (whole_file other ws) rest → PassesDepth HasFile ws (behind ws rest)
  file_passes other far =
      let fewer = fewer_by other (whole_file other ws) refl far in
      (omega (arith, fewer, within), (suc other, live_left HasFile file_of (λ f. f) decides (suc other) ws (behind ws rest + 1) (whole_file other ws) (omega arith) refl (omega (arith, fewer, within))))

  farther_by : (o : Outcome File) → length (left o) < length rest → IsFarther o rest
  farther_by (Ok p) lt = tt
  farther_by (Err u) lt = lt

  pub file_beyond : (other : ℕ) → 8 * length ws + 16 ≤ suc other → PassesDepth HasFile ws (behind ws rest) → IsFarther (whole_file other ws) rest
  file_beyond other enough deep = farther_by (whole_file other ws) (omega (arith, deep.0, within, read))
    where
      limit : ℕ
      limit = deep.1.0

      live : IsLive (HasFile (suc (limit + other))) (take (behind ws rest + 1) ws)
      live = (deep.1.1.0, deep.1.1.1, more limit (suc (limit + other)) _ _ (omega arith) deep.1.1.2)

      settled : whole_file (limit + other) ws ≡ whole_file other ws
      settled = (whole_settled (record { one = omega (arith, enough); other = omega (arith, enough) })).at ws (lt-suc_self _)

      read : behind ws rest + 1 + length (left (whole_file other ws)) ≤ length ws
      read = live_read HasFile file_of (λ f. f) decides (suc (limit + other)) ws (behind ws rest + 1) (whole_file other ws) (omega arith) settled (omega (arith, deep.0)) live

-- Where a file's reader faults, the fault is one of depth where a reading whose limit is enough goes farther, and nowhere else.
pub file_passes_enough : TellsFiles
file_passes_enough room other ws rest at enough = (file_passes room ws rest at other, file_beyond room ws rest at other enough)

-- ---- the words up to the fault's own

module _ (room : ℕ) (ws : List Word) (w : Word) (r : List Word) (at : whole_file room ws ≡ Err (w ∷ r)) where
  abbrev count : ℕ
  count = behind ws (w ∷ r)

  low : FrontLive (HasFile (suc room)) ws (w ∷ r)
  low = (file_decides room).fault_live ws (w ∷ r) at

  text : List Word
  text = low.front ++ (w ∷ [])

  text_length : length text ≡ suc (length low.front)
  unfolding text
  text_length = omega (arith, length-append low.front (w ∷ []))

  text_parts : ws ≡ text ++ r
  unfolding text
  text_parts = low.parts ∙ sym (append_assoc low.front (w ∷ []) r)

  count_is : count + 1 ≡ length text
  count_is = omega (arith, text_length, ap length text_parts, length-append text r)

  text_is : take (count + 1) ws ≡ text
  text_is = ap (take (count + 1)) text_parts ∙ take_at text r (count + 1) (sym count_is)

  text_all : take (behind text (w ∷ []) + 1) text ≡ text
  text_all = ap (take (behind text (w ∷ []) + 1)) (sym (append-nil text)) ∙ take_at text [] (behind text (w ∷ []) + 1) (omega (arith, text_length))

  fault_there : whole_file room text ≡ Err (w ∷ [])
  fault_there = ap (whole_file room) (sym (append-nil text)) ∙ same (whole_file room) (file_decides room).steady None text w [] r [] (ap (whole_file room) (sym text_parts) ∙ at)

  to_text : PassesDepth HasFile ws count → PassesDepth HasFile text (behind text (w ∷ []))
  to_text h = (omega (arith, text_length), (h.1.0, subst (IsLive (HasFile h.1.0)) (text_is ∙ sym text_all) h.1.1))

  of_text : PassesDepth HasFile text (behind text (w ∷ [])) → PassesDepth HasFile ws count
  of_text h = (omega (arith, text_length, ap length text_parts, length-append text r), (h.1.0, subst (IsLive (HasFile h.1.0)) (text_all ∙ sym text_is) h.1.1))

  front_tells : (other : ℕ) → 8 * (count + 1) + 16 ≤ suc other → IsFarther (whole_file other (take (count + 1) ws)) (w ∷ []) ↔ PassesDepth HasFile ws count
  front_tells other enough =
      let there = file_passes_enough room other text (w ∷ []) fault_there (omega (arith, enough, count_is)) in (
        λ far. of_text (there.0 (subst (λ (v : List Word). IsFarther (whole_file other v) (w ∷ [])) text_is far)),
        λ deep. subst (λ (v : List Word). IsFarther (whole_file other v) (w ∷ [])) (sym text_is) (there.1 (to_text deep)),
      )

-- The words up to the fault's own are enough to tell it.
pub file_passes_front : TellsFronts
file_passes_front room other ws w r at enough = front_tells room ws w r at other enough

pub file_shows_depth : ShowsDepth
file_shows_depth room other ws rest at = file_passes room ws rest at other
