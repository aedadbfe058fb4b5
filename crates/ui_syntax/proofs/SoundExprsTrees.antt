-- Lists of expressions as they are read: arguments, and the elements of a literal.
use Rattle.std.proofs.Common.{◌≡◌, inl, inr, ℕ, max, ◌≤◌, Bool, true, false, List, [], ◌∷◌, ◌++◌, refl, sym, subst, append_assoc, arith}
use Rattle.std.proofs.lemmas.List.{append-nil}
use Rattle.ui_base.specs.declared.value.Spot.{Spot}
use Rattle.ui_scan.specs.declared.kind.TokenKind.{TokenKind}
use Rattle.ui_scan.specs.declared.kind.TokenKind.TheVariants.{Comma, Ellipsis}
use Rattle.ui_tree.specs.Tree.{Tree}
use Rattle.ui_tree.specs.View.{trees}
use Rattle.ui_grammar.specs.Word.{Word, mark, Mark, Closes}
use Rattle.ui_grammar.specs.Spells.{Spells, SpellsTrees, SpellsTreesTail}
use Rattle.ui_grammar.specs.Fits.{Place, depth, trees_depth, Fits, FitsTrees}
use Rattle.ui_grammar.proofs.Frames.{Spelling, Framed, Then, framed_as, next, frame_mark}
use Rattle.ui_syntax.specs.Cover.{Read}
use Rattle.ui_syntax.proofs.ByBudget.{Begun, Stops}
use Rattle.ui_syntax.proofs.Begun.{Short, short_as, short_mark, begun_as, begun_none, behind, behind_none, before}

-- ---- one of them

-- an expression that fits in the place, within the depth
pub record PartForm (p : Place) (b : ℕ) (ts rest : List Word) : Type 0 where
  pub tree : Tree
  pub spells : Spells tree ts rest
  pub fits : Fits tree p
  pub shallow : depth tree ≤ b

pub record IsPart (p : Place) (b : ℕ) (ts : List Word) (x : Read Tree) (rest : List Word) : Type 0 where
  pub spells : Spells x.tree ts rest
  pub fits : Fits x.tree p
  pub sized : depth x.tree ≡ x.depth
  pub shallow : x.depth ≤ b

-- ---- lists

pub fits_append : (es fs : List Tree) (p : Place) → FitsTrees (trees es) p → FitsTrees (trees fs) p → FitsTrees (trees (es ++ fs)) p
fits_append [] fs p h g = g
fits_append (e ∷ es) fs p h g = (h.0, fits_append es fs p h.1 g)

pub depth_append : (es fs : List Tree) → trees_depth (trees (es ++ fs)) ≡ max (trees_depth (trees es)) (trees_depth (trees fs))
depth_append [] fs = omega arith
depth_append (e ∷ es) fs = omega (arith, depth_append es fs)

-- what was read of a list, with its depth
pub record AreParts (p : Place) (b : ℕ) (items : List Tree) (k : ℕ) : Type 0 where
  pub fits : FitsTrees (trees items) p
  pub sized : trees_depth (trees items) ≡ k
  pub shallow : k ≤ b

pub no_parts : (p : Place) (b : ℕ) → AreParts p b [] 0
no_parts p b = record { fits = tt; sized = refl; shallow = omega arith }

pub parts_add : (p : Place) (b : ℕ) (items : List Tree) (k : ℕ) (ts : List Word) (x : Read Tree) (rest : List Word) → AreParts p b items k → IsPart p b ts x rest → AreParts p b (items ++ (x.tree ∷ [])) (max k x.depth)
parts_add p b items k ts x rest h e = record {
  fits = fits_append items (x.tree ∷ []) p h.fits (e.fits, tt);
  sized = omega (arith, depth_append items (x.tree ∷ []), h.sized, e.sized);
  shallow = omega (arith, h.shallow, e.shallow);
}

pub framed_here : {R : Spelling} {ts ws : List Word} → Framed R ts ws → R ts ws
framed_here {R = R} {ws = ws} f = subst (λ (u : List Word). R u ws) (sym f.parts) (f.again ws)

module _ (close : TokenKind) where
  -- these stand in front, and the tail of a list makes them a list
  abbrev pub Going : List Tree → Spelling
  Going items us vs = (more : List Tree) (b : Bool) (k : List Word) → SpellsTreesTail close b (trees more) vs k → SpellsTrees close b (trees (items ++ more)) us k

  pub going_first : {ts ws : List Word} (e : Tree) → Framed (Spells e) ts ws → Framed (Going (e ∷ [])) ts ws
  going_first e f = framed_as f (λ us vs h more b k tail. (vs, h, tail))

  pub going_next : {ts a ws : List Word} (items : List Tree) (e : Tree) → Framed (Going items) ts a → Framed (Then (Mark Comma) (Spells e)) a ws → Framed (Going (items ++ (e ∷ []))) ts ws
  going_next items e f g = framed_as (next f g)
      (λ us vs q more b k tail. subst (λ (v : List Tree). SpellsTrees close b (trees v) us k) (sym (append_assoc items (e ∷ []) more)) (q.1 (e ∷ more) b k (q.2.0, vs, q.2.1, q.2.2, tail)))

  pub going_end : {ts ws : List Word} (items : List Tree) (rest : List Word) → Framed (Going items) ts ws → Closes Comma close ws rest → SpellsTrees close false (trees items) ts rest
  going_end {ts = ts} {ws = ws} items rest f c = subst (λ (v : List Tree). SpellsTrees close false (trees v) ts rest) (append-nil items) (framed_here f [] false rest (ws, refl, c))

  -- with `...` behind the last, the end alone follows
  abbrev pub Spread : List Tree → Spelling
  Spread items us vs = (k : List Word) → Closes Comma close vs k → SpellsTrees close true (trees items) us k

  pub going_spread : {ts a ws : List Word} (items : List Tree) → Framed (Going items) ts a → Framed (Mark Ellipsis) a ws → Framed (Spread items) ts ws
  going_spread items f g = framed_as (next f g) (λ us vs q k c. subst (λ (v : List Tree). SpellsTrees close true (trees v) us k) (append-nil items) (q.1 [] true k (vs, q.2, c)))

  -- ---- faults

  pub record TailForm (p : Place) (b : ℕ) (ts rest : List Word) : Type 0 where
    pub items : List Tree
    pub spells : SpellsTreesTail close false (trees items) ts rest
    pub fits : FitsTrees (trees items) p
    pub shallow : trees_depth (trees items) ≤ b

  pub record ListForm (spread : Bool) (p : Place) (b : ℕ) (ts rest : List Word) : Type 0 where
    pub items : List Tree
    pub spells : SpellsTrees close spread (trees items) ts rest
    pub fits : FitsTrees (trees items) p
    pub shallow : trees_depth (trees items) ≤ b

  pub tail_none : (p : Place) (b : ℕ) (ws : List Word) → Begun (TailForm p b) ws ws
  tail_none p b ws = begun_none ws (short_as (short_mark close) (λ us k m. record { items = []; spells = (us, refl, inl m); fits = tt; shallow = omega arith }))

  pub tail_separated : (p : Place) (b : ℕ) (s : Spot) (ws rest : List Word) → ws ≡ mark Comma s ∷ rest → Begun (TailForm p b) ws rest
  tail_separated p b s ws rest e = begun_as (behind_none (frame_mark Comma ws rest (record { spot = s; is = e })) (short_mark close)) (λ us k h. record { items = []; spells = (us, refl, inr h); fits = tt; shallow = omega arith })

  pub tail_stops : (p : Place) (b : ℕ) (s : Spot) (ws rest last : List Word) → ws ≡ mark Comma s ∷ rest → Stops (PartForm p b) rest last → Begun (TailForm p b) ws last
  tail_stops p b s ws rest last e (inl same) = subst (λ (v : List Word). Begun (TailForm p b) ws v) same (tail_separated p b s ws rest e)
  tail_stops p b s ws rest last e (inr g) = begun_as (behind (frame_mark Comma ws rest (record { spot = s; is = e })) (before g (short_mark close)))
      (λ us k h. let x = h.2.1 in record { items = x.tree ∷ []; spells = (h.0, h.2.0, h.1, x.spells, (h.2.0, refl, inl h.2.2)); fits = (x.fits, tt); shallow = omega (arith, x.shallow) })

  pub going_begun : {ts ws last : List Word} (p : Place) (b : ℕ) (items : List Tree) (n : ℕ) → AreParts p b items n → Framed (Going items) ts ws → Begun (TailForm p b) ws last → Begun (ListForm false p b) ts last
  going_begun p b items n is f g = begun_as (behind f g) (λ us k q. let t = q.2 in record {
    items = items ++ t.items;
    spells = q.1 t.items false k t.spells;
    fits = fits_append items t.items p is.fits t.fits;
    shallow = omega (arith, depth_append items t.items, is.sized, is.shallow, t.shallow);
  })

  -- a first part
  pub first_stops : (p : Place) (b : ℕ) (ts last : List Word) → Stops (PartForm p b) ts last → Stops (ListForm false p b) ts last
  first_stops p b ts last (inl same) = inl same
  first_stops p b ts last (inr g) = inr (begun_as (before g (short_mark close))
      (λ us k h. let x = h.1 in record { items = x.tree ∷ []; spells = (h.0, x.spells, (h.0, refl, inl h.2)); fits = (x.fits, tt); shallow = omega (arith, x.shallow) }))

  pub short_list : (p : Place) (b : ℕ) → Short (ListForm false p b)
  short_list p b = short_as (short_mark close) (λ us k m. record { items = []; spells = (refl, m); fits = tt; shallow = omega arith })
