-- Receivers, signatures and functions are read.
use Rattle.std.proofs.Common.{◌≡◌, ℕ, suc, pred, max, ◌≤◌, Bool, true, false, List, ◌∷◌, Option, Some, None, Ok, refl, sym, ap, subst, ◌∙◌, arith}
use Rattle.ui_base.specs.declared.value.Spot.{Spot}
use Rattle.ui_scan.specs.declared.kind.TokenKind.TheVariants.{LParen, RParen, LBracket, RBracket, Comma, Mul}
use Rattle.ui_tree.specs.declared.part.Placed.{Placed}
use Rattle.ui_tree.specs.Tree.{Groups, groups_end, group_and, MaybeType}
use Rattle.ui_tree.specs.Stmt.{Recv, MaybeGroups, no_groups, given_groups, Braces, braces, Decl, method_decl, func_decl}
use Rattle.ui_tree.specs.View.{groups, kept}
use Rattle.ui_grammar.specs.Word.{Word, ident, mark, Mark, Named, If}
use Rattle.ui_grammar.specs.Statement.{SpellsBraces, FitsBraces, braces_depth}
use Rattle.ui_grammar.specs.Declaration.{MaybeNamed, RecvParams, SpellsRecv, SpellsMaybeParams, SpellsSig, FitsSig, FitsMaybeParams, maybe_groups_depth, sig_depth, SpellsDecl, FitsDecl, decl_depth}
use Rattle.ui_parse.specs.Reader.{Outcome, first, marked, named as a_name}
use Rattle.ui_parse.proofs.Outcomes.{take_mark, take_other, take_ident, expect_mark, expect_name_ident}
use Rattle.ui_syntax.specs.Read.{readers}
use Rattle.ui_syntax.proofs.Quiet.{no_type_brace}
use Rattle.ui_syntax.proofs.CompleteTypesBase.{group_list, groups_of_list}
use Rattle.ui_syntax.proofs.CompleteTypesParams.{params_read}
use Rattle.ui_syntax.proofs.CompleteTypesSignature.{QuietResult, results_read}
use Rattle.ui_stmts.specs.Common.{Sized, sized}
use Rattle.ui_stmts.specs.Decls.{recv, recv_end, receiver, signature, block, method_behind, func_behind, function}
use Rattle.ui_stmts.proofs.CompleteLists.{names_read}
use Rattle.ui_stmts.proofs.CompleteTypeParams.{readers_below, type_params_read}

module _ (room : ℕ) where
  -- ---- receivers

  end_reads : (s : Spot) (n : Option Placed) (pointer : Bool) (of : Placed) (ps : Option (List Placed)) (m k rest : List Word) → RecvParams ps m k → Mark RParen k rest → recv_end room s n pointer of m ≡ Ok (recv room s n pointer of ps, rest)
  end_reads s n pointer of None m k rest e c =
      let at : m ≡ mark RParen c.spot ∷ rest = e ∙ c.is in
      ap (recv_end room s n pointer of) at ∙ take_other (marked LBracket) _ _ (mark RParen c.spot ∷ rest) refl ∙ rw (expect_mark RParen c.spot rest) refl
  end_reads s n pointer of (Some ns) m k rest (a, b, l, h, r) c =
      ap (recv_end room s n pointer of) l.is ∙ take_mark LBracket _ _ l.spot a
      ∙ rw (names_read ns a b h (ap (first (marked Comma)) r.is), r.is, expect_mark RBracket r.spot k, c.is, expect_mark RParen c.spot rest) refl

  no_name_ahead : (s : Spot) (n : Option Placed) (pointer : Bool) (of : Placed) (ps : Option (List Placed)) (m k rest : List Word) → RecvParams ps m k → Mark RParen k rest → (first (marked Mul) m ≡ None) × (first a_name m ≡ None)
  no_name_ahead s n pointer of None m k rest e c = (ap (first (marked Mul)) (e ∙ c.is), ap (first a_name) (e ∙ c.is))
  no_name_ahead s n pointer of (Some ns) m k rest (a, b, l, h, r) c = (ap (first (marked Mul)) l.is, ap (first a_name) l.is)

  recv_by : (s : Spot) (n : Option Placed) (pointer : Bool) (of : Placed) (ps : Option (List Placed)) (ts b c d e rest : List Word) → MaybeNamed n ts b → If pointer Mul b c → Named of c d → RecvParams ps d e → Mark RParen e rest
      → receiver room s ts ≡ Ok (recv room s n pointer of ps, rest)
  unfolding receiver
  recv_by s None false of ps ts b c d e rest n i f p m =
      let ahead = no_name_ahead s None false of ps d e rest p m in
      ap (receiver room s) (n ∙ i ∙ f) ∙ take_ident _ _ of d ∙ take_other (marked Mul) _ _ d ahead.0 ∙ take_other a_name _ _ d ahead.1 ∙ end_reads s None false of ps d e rest p m
  recv_by s None true of ps ts b c d e rest n i f p m =
      ap (receiver room s) (n ∙ i.is ∙ ap (λ (v : List Word). mark Mul i.spot ∷ v) f) ∙ take_other a_name _ _ (mark Mul i.spot ∷ (ident of ∷ d)) refl ∙ take_mark Mul _ _ i.spot (ident of ∷ d)
      ∙ rw (expect_name_ident of d) (end_reads s None true of ps d e rest p m)
  recv_by s (Some q) false of ps ts b c d e rest n i f p m =
      ap (receiver room s) (n ∙ ap (λ (v : List Word). ident q ∷ v) (i ∙ f)) ∙ take_ident _ _ q (ident of ∷ d) ∙ take_other (marked Mul) _ _ (ident of ∷ d) refl ∙ take_ident _ _ of d ∙ end_reads s (Some q) false of ps d e rest p m
  recv_by s (Some q) true of ps ts b c d e rest n i f p m =
      ap (receiver room s) (n ∙ ap (λ (v : List Word). ident q ∷ v) (i.is ∙ ap (λ (v : List Word). mark Mul i.spot ∷ v) f)) ∙ take_ident _ _ q (mark Mul i.spot ∷ (ident of ∷ d)) ∙ take_mark Mul _ _ i.spot (ident of ∷ d)
      ∙ rw (expect_name_ident of d) (end_reads s (Some q) true of ps d e rest p m)

  -- behind the parenthesis
  pub receiver_reads : (r : Recv) (ts rest : List Word) → (s : SpellsRecv r ts rest) → receiver room r.spot s.0 ≡ Ok (r, rest)
  receiver_reads r ts rest (a, b, c, d, e, l, n, i, f, p, m) = recv_by r.spot r.name r.pointer r.of r.params a b c d e rest n i f p m

  -- ---- signatures

  pub signature_reads : (gs : Groups) (r : MaybeType) (ts rest : List Word) → SpellsSig gs r ts rest → FitsSig gs r → sig_depth gs r ≤ suc room → QuietResult r rest → signature room ts ≡ Ok (record { params = group_list gs; of = r; depth = sig_depth gs r }, rest)
  unfolding signature
  signature_reads gs r ts rest (a, b, l, h, t) f le q = ap (signature room) l.is
      ∙ rw (expect_mark LParen l.spot a, params_read room (pred room) (readers room) (readers_below room) gs a b h f.0 f.1 (omega (arith, le)), results_read room (pred room) (readers room) (readers_below room) r b rest t f.2 (omega (arith, le)) q) refl

  quiet_body : (r : MaybeType) (b : Braces) (ts rest : List Word) → SpellsBraces b ts rest → QuietResult r ts
  quiet_body r (braces s ss e) ts rest h = subst (QuietResult r) (sym h.2) (record { no_dot = refl; no_bracket = refl; no_result = λ _. no_type_brace s h.0 })

  -- ---- functions, given what is read of their bodies

  module _ (body_reads : (b : Braces) (ts rest : List Word) → SpellsBraces b ts rest → FitsBraces b → braces_depth b ≤ suc room → block room ts ≡ Ok (sized b (braces_depth b), rest)) where
    same_decl : (d e : Decl) (j k : ℕ) (rest : List Word) → d ≡ e → j ≡ k → ◌≡◌ {A = Outcome (Sized Decl)} (Ok (sized d j, rest)) (Ok (sized e k, rest))
    same_decl d e j k rest same sizes = rw (same, sizes) refl

    method_reads : (s : Spot) (v : Recv) (n : Placed) (gs : Groups) (r : MaybeType) (b : Braces) (ts c d rest : List Word) → Named n ts c → SpellsSig gs r c d → SpellsBraces b d rest → FitsSig gs r → FitsBraces b → max (sig_depth gs r) (braces_depth b) ≤ suc room
        → method_behind room s v ts ≡ Ok (sized (method_decl s v n gs r b) (max (sig_depth gs r) (braces_depth b)), rest)
    method_reads s v n gs r b ts c d rest e h k f g le = ap (method_behind room s v) e
        ∙ rw (expect_name_ident n c, signature_reads gs r c d h f (omega (arith, le)) (quiet_body r b d rest k), body_reads b d rest k g (omega (arith, le)))
        (same_decl _ _ (max (sig_depth gs r) (braces_depth b)) (max (sig_depth gs r) (braces_depth b)) rest (ap (λ (v2 : Groups). method_decl s v n v2 r b) (groups_of_list gs)) refl)

    func_reads : (s : Spot) (n : Placed) (ps qs : MaybeGroups) (j : ℕ) (gs : Groups) (r : MaybeType) (b : Braces) (c d rest : List Word) → ps ≡ qs → SpellsSig gs r c d → SpellsBraces b d rest → FitsSig gs r → FitsBraces b → max j (max (sig_depth gs r) (braces_depth b)) ≤ suc room
        → func_behind room s n ps j c ≡ Ok (sized (func_decl s n qs gs r b) (max j (max (sig_depth gs r) (braces_depth b))), rest)
    func_reads s n ps qs j gs r b c d rest same h k f g le =
        rw (signature_reads gs r c d h f (omega (arith, le)) (quiet_body r b d rest k), body_reads b d rest k g (omega (arith, le)))
        (same_decl _ _ (max j (max (sig_depth gs r) (braces_depth b))) (max j (max (sig_depth gs r) (braces_depth b))) rest (ap (λ (v : MaybeGroups). func_decl s n v (groups kept (group_list gs)) r b) same ∙ ap (λ (v2 : Groups). func_decl s n qs v2 r b) (groups_of_list gs)) refl)

    -- behind "func"
    pub method_decl_reads : (s : Spot) (v : Recv) (n : Placed) (gs : Groups) (r : MaybeType) (b : Braces) (ts rest : List Word) → (h : SpellsDecl (method_decl s v n gs r b) ts rest) → FitsDecl (method_decl s v n gs r b) → decl_depth (method_decl s v n gs r b) ≤ suc room
        → function room s h.0 ≡ Ok (sized (method_decl s v n gs r b) (decl_depth (method_decl s v n gs r b)), rest)
    unfolding function
    method_decl_reads s v n gs r b ts rest (a, k, c, d, e, h, m, g, w) f le =
        ap (function room s) h.5 ∙ take_mark LParen _ _ v.spot h.0 ∙ rw (receiver_reads v a k h) (method_reads s v n gs r b k c d rest m g w f.0 f.1 le)

    func_by : (s : Spot) (n : Placed) (ps : MaybeGroups) (gs : Groups) (r : MaybeType) (b : Braces) (a k c d rest : List Word) → Named n a k → SpellsMaybeParams ps k c → SpellsSig gs r c d → SpellsBraces b d rest → FitsMaybeParams ps → FitsSig gs r → FitsBraces b
        → max (maybe_groups_depth ps) (max (sig_depth gs r) (braces_depth b)) ≤ suc room → function room s a ≡ Ok (sized (func_decl s n ps gs r b) (max (maybe_groups_depth ps) (max (sig_depth gs r) (braces_depth b))), rest)
    unfolding function
    func_by s n no_groups gs r b a k c d rest m p g w fp f fb le =
        let at : k ≡ mark LParen g.2.spot ∷ g.0 = p ∙ g.2.is in
        ap (function room s) m ∙ take_other (marked LParen) _ _ (ident n ∷ k) refl
        ∙ rw (expect_name_ident n k) (take_other (marked LBracket) _ _ k (ap (first (marked LBracket)) at) ∙ ap (func_behind room s n no_groups 0) p ∙ func_reads s n no_groups no_groups 0 gs r b c d rest refl g w f fb le)
    func_by s n (given_groups groups_end) gs r b a k c d rest m p g w fp f fb le = absurd p
    func_by s n (given_groups (group_and ns t hs)) gs r b a k c d rest m (o, l, p) g w fp f fb le =
        ap (function room s) (m ∙ ap (λ (v : List Word). ident n ∷ v) l.is) ∙ take_other (marked LParen) _ _ (ident n ∷ (mark LBracket l.spot ∷ o)) refl
        ∙ rw (expect_name_ident n (mark LBracket l.spot ∷ o)) (take_mark LBracket _ _ l.spot o
        ∙ rw (type_params_read room (group_and ns t hs) o c p fp.0 fp.1 (omega (arith, le)))
        (func_reads s n _ (given_groups (group_and ns t hs)) (maybe_groups_depth (given_groups (group_and ns t hs))) gs r b c d rest (ap given_groups (groups_of_list (group_and ns t hs))) g w f fb le))

    pub func_decl_reads : (s : Spot) (n : Placed) (ps : MaybeGroups) (gs : Groups) (r : MaybeType) (b : Braces) (ts rest : List Word) → (h : SpellsDecl (func_decl s n ps gs r b) ts rest) → FitsDecl (func_decl s n ps gs r b) → decl_depth (func_decl s n ps gs r b) ≤ suc room
        → function room s h.0 ≡ Ok (sized (func_decl s n ps gs r b) (decl_depth (func_decl s n ps gs r b)), rest)
    func_decl_reads s n ps gs r b ts rest (a, k, c, d, e, m, p, g, w) f le = func_by s n ps gs r b a k c d rest m p g w f.0 f.1 f.2 le
