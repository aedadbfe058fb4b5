-- Receivers, signatures and functions as they are read.
use Rattle.std.proofs.Common.{◌≡◌, inl, inr, ℕ, suc, pred, ◌≤◌, Bool, true, false, List, [], ◌∷◌, Option, Some, None, refl, arith}
use Rattle.ui_base.specs.declared.value.Spot.{Spot}
use Rattle.ui_scan.specs.declared.kind.TokenKind.TheVariants.{LParen, RParen, LBracket, RBracket, Mul}
use Rattle.ui_tree.specs.declared.part.Placed.{Placed}
use Rattle.ui_tree.specs.Tree.{Groups, MaybeType}
use Rattle.ui_tree.specs.Stmt.{Recv}
use Rattle.ui_tree.specs.View.{groups, kept}
use Rattle.ui_grammar.specs.Word.{Word, ident, mark, Mark, Named, If}
use Rattle.ui_grammar.specs.Declaration.{MaybeNamed, RecvParams, SpellsRecv, SpellsSig, FitsSig, sig_depth}
use Rattle.ui_grammar.proofs.Frames.{Spelling, Then, Framed, framed, framed_as, next, fill_word, frame_mark, frame_if}
use Rattle.ui_grammar.proofs.FramesDecl.{frame_maybe_named, frame_sig}
use Rattle.ui_parse.specs.Reader.{refuse}
use Rattle.ui_parse.proofs.Outcomes.{Holds, good, bad, bind, mark_holds, name_holds, expect_holds, expect_name_holds}
use Rattle.ui_syntax.proofs.ByBudget.{Begun, Stops}
use Rattle.ui_syntax.proofs.Begun.{Short, short_as, short_mark, short_then, AName, short_name, Is, frame_word, begun_as, begun_none, begun_stops, behind, behind_none, before}
use Rattle.ui_syntax.proofs.Runs.{FormOf}
use Rattle.ui_syntax.specs.Read.{readers}
use Rattle.ui_syntax.proofs.Steady.{readers_steady}
use Rattle.ui_syntax.proofs.SteadyTypes.{steady_a_lower_type, steady_param}
use Rattle.ui_syntax.proofs.SoundTypesParams.{Whole}
use Rattle.ui_syntax.proofs.SoundTypesParamEnds.{GoodGroups}
use Rattle.ui_syntax.proofs.SoundTypesParam.{params_holds}
use Rattle.ui_syntax.proofs.SoundTypesSig.{short_result, SigForm, sig_read, frame_params, results_holds}
use Rattle.ui_syntax.proofs.Sound.{readers_sound, below_next}
use Rattle.ui_stmts.specs.Decls.{Signature, recv, recv_end, recv_of, recv_named, receiver, signature}
use Rattle.ui_stmts.proofs.SoundLists.{NamesForm, short_names, frame_names, names_holds}

-- ---- receivers

-- [ "[" Names "]" ] ")"
pub record RecvEnd (ts rest : List Word) : Type 0 where
  pub params : Option (List Placed)
  pub middle : List Word
  pub listed : RecvParams params ts middle
  pub closed : Mark RParen middle rest

short_recv_end : Short RecvEnd
short_recv_end = short_as (short_mark RParen) (λ us ws m. record { params = None; middle = us; listed = refl; closed = m })

names_end : (us ws : List Word) → Then (Mark LBracket) (Then NamesForm (Then (Mark RBracket) (Mark RParen))) us ws → RecvEnd us ws
names_end us ws (a, m, (b, ns, (c, k, e))) = record { params = Some ns.all; middle = c; listed = (a, b, m, ns.spells, k); closed = e }

module _ (room : ℕ) where
  -- what was read up to the type's name
  abbrev Front : Option Placed → Bool → Placed → Spelling
  Front n pointer of = Then (MaybeNamed n) (Then (If pointer Mul) (Named of))

  pub record RecvForm (s : Spot) (ts rest : List Word) : Type 0 where
    pub of : Recv
    pub spot_is : of.spot ≡ s
    pub spells : SpellsRecv of ts rest

  recv_form : (s : Spot) (n : Option Placed) (pointer : Bool) (of : Placed) (us ws : List Word) → Then (Is (mark LParen s)) (Then (Front n pointer of) RecvEnd) us ws → RecvForm s us ws
  recv_form s n pointer of us ws (a, e, (d, (b, m, (c, i, f)), r)) = record {
    of = record { spot = s; name = n; pointer = pointer; of = of; params = r.params };
    spot_is = refl;
    spells = (a, b, c, d, r.middle, e, m, i, f, r.listed, r.closed);
  }

  pub record RecvRead (s : Spot) (ts : List Word) (r : Recv) (rest : List Word) : Type 0 where
    pub spells : SpellsRecv r (mark LParen s ∷ ts) rest

  module _ (s : Spot) (ts : List Word) where
    abbrev Fault : List Word → Type 0
    Fault rest = Begun (RecvForm s) (mark LParen s ∷ ts) rest

    module _ (n : Option Placed) (pointer : Bool) (of : Placed) (m : List Word) (front : Front n pointer of ts m) where
      frame_front : Framed (Front n pointer of) ts m
      frame_front = next (frame_maybe_named n ts front.0 front.1) (next (frame_if pointer Mul front.0 front.2.0 front.2.1) (framed (fill_word (ident of) front.2.0 m front.2.2)))

      ends_fault : (r : List Word) → Begun RecvEnd m r → Fault r
      ends_fault r g = begun_as (behind (frame_word (mark LParen s) ts) (behind frame_front g)) (recv_form s n pointer of)

      end_read : (params : Option (List Placed)) (k rest : List Word) → RecvParams params m k → Mark RParen k rest → RecvRead s ts (recv room s n pointer of params) rest
      end_read params k rest h e = record { spells = (ts, front.0, front.2.0, m, k, refl, front.1, front.2.1, front.2.2, h, e) }

      pub recv_end_holds : Holds (RecvRead s ts) Fault (recv_end room s n pointer of m)
      recv_end_holds = mark_holds LBracket _ _ m
          (λ x a e. bind (names_holds a)
          (λ ns b h. bind (expect_holds {Q = λ y c. b ≡ mark RBracket y ∷ c} {F = Fault} RBracket b (λ y c g. g) (λ _. ends_fault b (names_begun x a e (behind_none (frame_names ns a b h) (short_then (short_mark RBracket) (short_mark RParen))))))
          (λ y c g. bind (expect_holds {Q = λ z d. c ≡ mark RParen z ∷ d} {F = Fault} RParen c (λ z d k. k) (λ _. ends_fault c (names_begun x a e (behind (frame_names ns a b h) (behind_none (frame_mark RBracket b c (record { spot = y; is = g })) (short_mark RParen))))))
          (λ z d k. good (end_read (Some ns) c d (a, b, record { spot = x; is = e }, h, record { spot = y; is = g }) (record { spot = z; is = k })))
          (λ r f. f))
          (λ r f. f))
          (λ r st. ends_fault r (names_begun x a e (before (begun_stops short_names st) (short_then (short_mark RBracket) (short_mark RParen))))))
          (λ _. bind (expect_holds {Q = λ z d. m ≡ mark RParen z ∷ d} {F = Fault} RParen m (λ z d k. k) (λ _. ends_fault m (begun_none m short_recv_end)))
          (λ z d k. good (end_read None m d refl (record { spot = z; is = k }))) (λ r f. f))
        where
          names_begun : (x : Spot) (a : List Word) → m ≡ mark LBracket x ∷ a → {r : List Word} → Begun (Then NamesForm (Then (Mark RBracket) (Mark RParen))) a r → Begun RecvEnd m r
          names_begun x a e g = begun_as (behind (frame_mark LBracket m a (record { spot = x; is = e })) g) names_end

    -- a name, in front of which stand these words
    pub recv_of_holds : (n : Option Placed) (pointer : Bool) (m : List Word) → Then (MaybeNamed n) (If pointer Mul) ts m → Holds (RecvRead s ts) Fault (recv_of room s n pointer m)
    recv_of_holds n pointer m (a, h, i) = bind (expect_name_holds {Q = λ p r. m ≡ ident p ∷ r} {F = Fault} m (λ p r e. e) (λ _. name_missing))
        (λ p r e. recv_end_holds n pointer p r (a, h, (m, i, e)))
        (λ r f. f)
      where
        open_form : (us ws : List Word) → Then (Is (mark LParen s)) (Then (Then (MaybeNamed n) (If pointer Mul)) (Then AName (Mark RParen))) us ws → RecvForm s us ws
        open_form us ws (b, e, (c, (d, k, j), (o, p, q))) = recv_form s n pointer p.word us ws (b, e, (o, (d, k, (c, j, p.is)), record { params = None; middle = o; listed = refl; closed = q }))

        name_missing : Fault m
        name_missing = begun_as (behind (frame_word (mark LParen s) ts) (behind_none (next (frame_maybe_named n ts a h) (frame_if pointer Mul a m i)) (short_then short_name (short_mark RParen)))) open_form

    named_holds : (p : Placed) (m : List Word) → ts ≡ ident p ∷ m → Holds (RecvRead s ts) Fault (recv_named room s p m)
    named_holds p m e = mark_holds Mul _ _ m
        (λ x r h. recv_of_holds (Some p) true r (m, e, record { spot = x; is = h }))
        (λ _. name_holds (λ of. recv_end room s (Some p) false of) (recv_end room s None false p) m
        (λ of r h. recv_end_holds (Some p) false of r (m, e, (m, refl, h)))
        (λ _. recv_end_holds None false p m (ts, refl, (ts, refl, e))))

    none_form : (us ws : List Word) → Then (Is (mark LParen s)) (Then AName (Mark RParen)) us ws → RecvForm s us ws
    none_form us ws (a, e, (b, p, q)) = recv_form s None false p.word us ws (a, e, (b, (a, refl, (a, refl, p.is)), record { params = None; middle = b; listed = refl; closed = q }))

    pub receiver_holds : Holds (RecvRead s ts) Fault (receiver room s ts)
    unfolding receiver
    receiver_holds = name_holds (λ p. recv_named room s p) _ ts (λ p m e. named_holds p m e)
        (λ _. mark_holds Mul _ refuse ts (λ x r h. recv_of_holds None true r (ts, refl, record { spot = x; is = h }))
        (λ _. bad (begun_as (behind_none (frame_word (mark LParen s) ts) (short_then short_name (short_mark RParen))) none_form)))

  -- ---- signatures

  pub record SignatureForm (ts rest : List Word) : Type 0 where
    pub params : Groups
    pub of : MaybeType
    pub spells : SpellsSig params of ts rest
    pub fits : FitsSig params of
    pub shallow : sig_depth params of ≤ suc room

  pub record SignatureRead (ts : List Word) (g : Signature room) (rest : List Word) : Type 0 where
    pub spells : SpellsSig (groups kept g.params) g.of ts rest
    pub fits : FitsSig (groups kept g.params) g.of
    pub sized : sig_depth (groups kept g.params) g.of ≡ g.depth
    pub shallow : g.depth ≤ suc room

  signature_form : (us ws : List Word) → Then (Mark LParen) (SigForm room) us ws → SignatureForm us ws
  signature_form us ws (a, m, (b, gs, r)) = record {
    params = groups kept gs.all;
    of = r.of;
    spells = (a, b, m, gs.spells, r.spells);
    fits = (gs.ok.styled, gs.ok.fit.fits, r.fits);
    shallow = omega (arith, gs.ok.fit.shallow, r.shallow);
  }

  short_params : Short (FormOf Whole (GoodGroups room))
  short_params = short_as (short_mark RParen) (λ us ws m. record { all = []; spells = m; ok = record { styled = refl; fit = record { fits = tt; shallow = omega arith } } })

  pub short_signature : Short SignatureForm
  short_signature = short_as (short_then (short_mark LParen) (short_then short_params (short_result room))) signature_form

  pub signature_holds : (ts : List Word) → Holds (SignatureRead ts) (Stops SignatureForm ts) (signature room ts)
  unfolding signature
  signature_holds ts = bind (expect_holds {Q = λ x n. ts ≡ mark LParen x ∷ n} {F = Stops SignatureForm ts} LParen ts (λ x n e. e) (λ _. inl refl))
      (λ x n e. bind (params_holds room (pred room) (readers room) (below_next room) (readers_sound room).own (readers_sound room).lower (steady_a_lower_type room (readers room) (readers_steady room)) (steady_param room (readers room) (readers_steady room)) n)
      (λ gs m h. bind (results_holds room (pred room) (readers room) (below_next room) (readers_sound room).own (readers_sound room).lower (steady_a_lower_type room (readers room) (readers_steady room)) (steady_param room (readers room) (readers_steady room)) m)
      (λ r rest g. let q = sig_read room n gs m r.of r.depth rest h g in good (record {
        spells = (n, q.middle, record { spot = x; is = e }, q.params, q.results);
        fits = (q.styled, q.params_fit, q.results_fit);
        sized = q.sized;
        shallow = q.shallow;
      }))
      (λ rest st. inr (begun_as (behind (frame_mark LParen ts n (record { spot = x; is = e })) (behind (frame_params room n gs m h) (begun_stops (short_result room) st))) signature_form)))
      (λ rest g. inr (begun_as (behind (frame_mark LParen ts n (record { spot = x; is = e })) (before g (short_result room))) signature_form)))
      (λ r g. g)

  pub frame_signature_read : (ts : List Word) (g : Signature room) (rest : List Word) → SignatureRead ts g rest → Framed SignatureForm ts rest
  frame_signature_read ts g rest h = framed_as (frame_sig (groups kept g.params) g.of ts rest h.spells) (λ us ws s. record { params = groups kept g.params; of = g.of; spells = s; fits = h.fits; shallow = omega (arith, h.sized, h.shallow) })
