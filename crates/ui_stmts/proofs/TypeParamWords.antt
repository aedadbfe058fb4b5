-- The words of type parameters up to a place: what may go on there, and what makes a list of it.
use Rattle.std.proofs.Common.{◌≡◌, Bool, true, false, ◌&&◌, List, [], ◌∷◌, ◌++◌, refl, sym, ap, subst, ◌∙◌, append_assoc}
use Rattle.ui_scan.specs.declared.kind.TokenKind.TheVariants.{RBracket, Comma}
use Rattle.ui_tree.specs.declared.part.Placed.{Placed}
use Rattle.ui_tree.specs.declared.part.Group.{Group}
use Rattle.ui_tree.specs.Tree.{TypeTree}
use Rattle.ui_tree.specs.View.{groups, names, kept}
use Rattle.ui_grammar.specs.Word.{Word, ident, Mark, NamesTail, Names}
use Rattle.ui_grammar.specs.Both.{is_length, one_name, bound_continues}
use Rattle.ui_grammar.specs.Spells.{Labels, SpellsType}
use Rattle.ui_grammar.proofs.Frames.{Spelling, Then}
use Rattle.ui_syntax.specs.Types.{group, is_empty}
use Rattle.ui_syntax.proofs.Begun.{Is}
use Rattle.ui_syntax.proofs.SoundTypesGroups.{GroupsTail, AllGroups, groups_tail_of, labels_kept}

abbrev pub Tail : List (Group TypeTree) → Spelling
Tail = GroupsTail Comma RBracket

abbrev pub Whole : List (Group TypeTree) → Spelling
Whole = AllGroups Comma RBracket

-- behind a name or a bound: the names that wait get others and a bound, and groups follow
abbrev pub Goes : List Placed → List (Group TypeTree) → Spelling
Goes [] us ts rest = Tail us ts rest
Goes (w ∷ ws) [] ts rest = ⊥
Goes (w ∷ ws) (g ∷ us) ts rest = (ns : List Placed) × (a b : List Word) × (g.names ≡ (w ∷ ws) ++ ns) × NamesTail ns ts a × SpellsType g.of a b × Tail us b rest

-- before a name
abbrev pub Starts : List Placed → List (Group TypeTree) → Spelling
Starts waiting [] ts rest = ⊥
Starts waiting (g ∷ us) ts rest = (p : Placed) × (ns : List Placed) × (a b : List Word) × (g.names ≡ waiting ++ (p ∷ ns)) × Names (p ∷ ns) ts a × SpellsType g.of a b × Tail us b rest

-- ---- steps over words

-- a comma
pub starts_goes : (waiting : List Placed) (us : List (Group TypeTree)) (a k rest : List Word) → Mark Comma a k → Starts waiting us k rest → Goes waiting us a rest
starts_goes waiting [] a k rest m h = absurd h
starts_goes [] (g ∷ us) a k rest m (p, ns, b, c, e, n, s, t) =
    subst (λ (v : Group TypeTree). Tail (v ∷ us) a rest) (same g (p ∷ ns) e) (groups_tail_of Comma RBracket (p ∷ ns) g.of us a k b c rest m n s t)
  where
    same : (g : Group TypeTree) (ns : List Placed) → g.names ≡ ns → group ns g.of ≡ g
    same g ns e = ap (λ (v : List Placed). group v g.of) (sym e)
starts_goes (w ∷ ws) (g ∷ us) a k rest m (p, ns, b, c, e, n, s, t) = (p ∷ ns, b, c, e, (k, n.0, m, n.1, n.2), s, t)

-- a name alone
pub goes_starts : (waiting : List Placed) (p : Placed) (us : List (Group TypeTree)) (a k rest : List Word) → a ≡ ident p ∷ k → Goes (waiting ++ (p ∷ [])) us k rest → Starts waiting us a rest
goes_starts [] p [] a k rest e h = absurd h
goes_starts (w ∷ ws) p [] a k rest e h = absurd h
goes_starts [] p (g ∷ us) a k rest e (ns, b, c, same, n, s, t) = (p, ns, b, c, same, (k, e, n), s, t)
goes_starts (w ∷ ws) p (g ∷ us) a k rest e (ns, b, c, same, n, s, t) = (p, ns, b, c, same ∙ append_assoc (w ∷ ws) (p ∷ []) ns, (k, e, n), s, t)

-- a name with its bound
pub bound_starts : (waiting : List Placed) (p : Placed) (t : TypeTree) (us : List (Group TypeTree)) (a k rest : List Word) → Then (Is (ident p)) (SpellsType t) a k → Tail us k rest → Starts waiting (group (waiting ++ (p ∷ [])) t ∷ us) a rest
bound_starts waiting p t us a k rest (m, e, s) h = (p, [], m, k, refl, (m, e, refl), s, h)

pub starts_whole : (us : List (Group TypeTree)) (k rest : List Word) → Starts [] us k rest → Whole us k rest
starts_whole [] k rest h = absurd h
starts_whole (g ∷ us) k rest (p, ns, a, b, e, n, s, t) = (a, b, subst (λ (v : List Placed). labels v k a) (sym e) (labels_kept (p ∷ ns) k a n), s, t)
  where
    labels : List Placed → Spelling
    labels v us ws = Labels (names kept v) us ws

-- ---- what a list is that goes on: it is no array's length

-- something was read
abbrev pub Something : List (Group TypeTree) → List Placed → Type 0
Something [] waiting = is_empty waiting ≡ false
Something (g ∷ gs) waiting = Unit {0}

-- where it matters, the parameters have no length's text
abbrev pub Apart : Bool → List (Group TypeTree) → Type 0
Apart true gs = is_length (groups kept gs) ≡ false
Apart false gs = Unit {0}

two_names : (w : Placed) (ws : List Placed) (p : Placed) (ns : List Placed) → one_name (names kept ((w ∷ ws) ++ (p ∷ ns))) ≡ false
two_names w [] p ns = refl
two_names w (v ∷ ws) p ns = refl

false_and : (b c : Bool) → b ≡ false → (b && c) ≡ false
false_and b c e = rw e refl

and_false : (b c : Bool) → c ≡ false → (b && c) ≡ false
and_false true c e = e
and_false false c e = refl

-- a further group
pub grown_apart : (b : Bool) (gs : List (Group TypeTree)) (waiting : List Placed) (p : Placed) (ns : List Placed) (t : TypeTree) (us : List (Group TypeTree)) → Something gs waiting → Apart b (gs ++ (group (waiting ++ (p ∷ ns)) t ∷ us))
grown_apart false gs waiting p ns t us h = tt
grown_apart true [] [] p ns t us h = absurd cc
grown_apart true [] (w ∷ ws) p ns t us h = false_and (one_name (names kept ((w ∷ ws) ++ (p ∷ ns)))) _ (two_names w ws p ns)
grown_apart true (g ∷ []) waiting p ns t us h = and_false (one_name (names kept g.names)) _ refl
grown_apart true (g ∷ (f ∷ gs)) waiting p ns t us h = and_false (one_name (names kept g.names)) _ refl

-- a bound that is no length's, behind names that wait
pub plain_apart : (b : Bool) (gs : List (Group TypeTree)) (w : Placed) (ws : List Placed) (t : TypeTree) → bound_continues t ≡ false → Apart b (gs ++ (group (w ∷ ws) t ∷ []))
plain_apart false gs w ws t e = tt
plain_apart true [] w ws t e = and_false (one_name (names kept (w ∷ ws))) (bound_continues t) e
plain_apart true (g ∷ []) w ws t e = and_false (one_name (names kept g.names)) _ refl
plain_apart true (g ∷ (f ∷ gs)) w ws t e = and_false (one_name (names kept g.names)) _ refl
