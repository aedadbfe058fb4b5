-- Lists of names are read exactly.
use Rattle.std.proofs.Common.{◌≡◌, ◌⊎◌, inl, inr, List, [], ◌∷◌, ◌++◌, None, Ok, refl, sym, ap, subst, ◌∙◌, append_assoc}
use Rattle.std.proofs.lemmas.List.{append-nil}
use Rattle.ui_base.specs.declared.value.Spot.{Spot}
use Rattle.ui_scan.specs.declared.kind.TokenKind.TheVariants.{Comma}
use Rattle.ui_tree.specs.declared.part.Placed.{Placed}
use Rattle.ui_grammar.specs.Word.{Word, mark, Named, Mark, NamesTail, Names}
use Rattle.ui_parse.specs.Reader.{first, marked}
use Rattle.ui_parse.proofs.Outcomes.{Holds, good, bind, expect_name_holds, expect_name_ident}
use Rattle.ui_parse.proofs.Steady.{Steady, steady_pure, steady_bind, steady_expect_name, steady_chain}
use Rattle.ui_parse.proofs.TurnLaws.{chain_end, chain_next, chain_holds}
use Rattle.ui_parse.specs.Names.{one_name_more, more_names, names}

steady_one : (ns : List Placed) → Steady (one_name_more ns)
steady_one ns = steady_bind steady_expect_name (λ p. steady_pure (ns ++ (p ∷ [])))

pub steady_more_names : (ns : List Placed) → Steady (more_names ns)
steady_more_names ns = steady_chain Comma one_name_more steady_one ns

pub steady_names : Steady names
steady_names = steady_bind steady_expect_name (λ p. steady_more_names (p ∷ []))

-- one more at the end
tail_and : (ps : List Placed) (p : Placed) (ts m a b : List Word) → NamesTail ps ts m → Mark Comma m a → Named p a b → NamesTail (ps ++ (p ∷ [])) ts b
tail_and [] p ts m a b h c n = (a, b, subst (λ (v : List Word). Mark Comma v a) (sym h) c, n, refl)
tail_and (q ∷ ps) p ts m a b h c n = (h.0, h.1, h.2, h.3, tail_and ps p h.1 m a b h.4 c n)

names_and : (ps : List Placed) (p : Placed) (ts m a b : List Word) → Names ps ts m → Mark Comma m a → Named p a b → Names (ps ++ (p ∷ [])) ts b
names_and [] p ts m a b h c n = absurd h
names_and (q ∷ ps) p ts m a b h c n = (h.0, h.1, tail_and ps p h.0 m a b h.2 c n)

-- where a name is missing: at the front, or behind a comma
abbrev pub NameMissing : List Word → List Word → Type 0
NameMissing ts rest = (rest ≡ ts) ⊎ ((ps : List Placed) × (m : List Word) × Names ps ts m × Mark Comma m rest)

-- behind names that were read from the words ts
pub more_names_hold : (ts : List Word) (ps : List Placed) (ws : List Word) → Names ps ts ws → Holds (λ ns rest. Names ns ts rest × (first (marked Comma) rest ≡ None)) (NameMissing ts) (more_names ps ws)
more_names_hold ts ps ws h = chain_holds Comma one_name_more steady_one (λ ns rest. Names ns ts rest) (NameMissing ts) kept ps ws h
  where
    kept : (ns : List Placed) (x : Spot) (us rest : List Word) → Names ns ts us → us ≡ mark Comma x ∷ rest → Holds (λ ns rest. Names ns ts rest) (NameMissing ts) (one_name_more ns rest)
    kept ns x us rest i e = bind
        (expect_name_holds {Q = λ p r. Named p rest r} {F = NameMissing ts} rest (λ p r n. n) (λ _. inr (ns, us, i, record { spot = x; is = e })))
        (λ p r n. good (names_and ns p ts us rest r i (record { spot = x; is = e }) n)) (λ r m. m)

pub names_hold : (ts : List Word) → Holds (λ ns rest. Names ns ts rest × (first (marked Comma) rest ≡ None)) (NameMissing ts) (names ts)
names_hold ts = bind (expect_name_holds {Q = λ p r. Named p ts r} {F = NameMissing ts} ts (λ p r n. n) (λ _. inl refl)) (λ p r n. more_names_hold ts (p ∷ []) r (r, n, refl)) (λ r m. m)

pub more_names_read : (acc ps : List Placed) (ts rest : List Word) → NamesTail ps ts rest → first (marked Comma) rest ≡ None → more_names acc ts ≡ Ok (acc ++ ps, rest)
more_names_read acc [] ts rest h e = ap (more_names acc) h ∙ chain_end Comma one_name_more steady_one acc rest e ∙ ap (λ (ns : List Placed). Ok (ns, rest)) (sym (append-nil acc))
more_names_read acc (p ∷ ps) ts rest h e =
    let step : one_name_more acc h.0 ≡ Ok (acc ++ (p ∷ []), h.1) = ap (one_name_more acc) h.3 ∙ rw (expect_name_ident p h.1) refl in
    ap (more_names acc) h.2.is ∙ chain_next Comma one_name_more steady_one acc h.2.spot h.0 (acc ++ (p ∷ [])) h.1 step
    ∙ more_names_read (acc ++ (p ∷ [])) ps h.1 rest h.4 e ∙ ap (λ (ns : List Placed). Ok (ns, rest)) (append_assoc acc (p ∷ []) ps)

pub names_read : (ps : List Placed) (ts rest : List Word) → Names ps ts rest → first (marked Comma) rest ≡ None → names ts ≡ Ok (ps, rest)
names_read [] ts rest h e = absurd h
names_read (p ∷ ps) ts rest h e = ap names h.1 ∙ rw (expect_name_ident p h.0) (more_names_read (p ∷ []) ps h.0 rest h.2 e)
