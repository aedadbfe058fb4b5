-- A spelling stays one whatever follows it.
use Rattle.std.proofs.Common.{◌≡◌, inl, inr, Bool, true, false, List, [], ◌∷◌, ◌++◌, Option, Some, None, refl, sym, ap, subst, ◌∙◌, append_assoc, ◌<◌, length, arith}
use Rattle.std.proofs.lemmas.List.{length-append}
use Rattle.ui_base.specs.declared.value.Spot.{Spot}
use Rattle.ui_scan.specs.declared.kind.TokenKind.{TokenKind}
use Rattle.ui_scan.specs.declared.kind.TokenKind.TheVariants.{LParen, RParen, LBracket, RBracket, LBrace, RBrace, Comma, Semi, Period, Colon, Ellipsis, Mul, Or, Tilde, Map, Func, Struct, Interface}
use Rattle.ui_tree.specs.declared.part.Placed.{Placed}
use Rattle.ui_tree.specs.Tree.{TypeTree, named, parenthesized, pointer, slice, array, counted, mapping, func, listed, struct, interface, method, union, tilde, Args, no_args, args, Types, types_end, type_and, Groups, groups_end, group_and, MaybeType, no_type, given_type, Tree, literal, name, paren, convert, composite, elided, keyed, instance, selector, assert, index, sliced, call, type_arg, unary, binary, Trees, trees_end, tree_and, MaybeTree, absent, given}
use Rattle.ui_grammar.specs.Word.{Word, ident, lit, mark, spot_at, Mark, Begins, Closes, If, NamesTail, Names}
use Rattle.ui_grammar.specs.Operator.{mark_of, prefix_mark_of}
use Rattle.ui_grammar.specs.Both.{is_expression}
use Rattle.ui_grammar.specs.Spells.{Member, Labels, SpellsType, SpellsMaybeType, SpellsArgs, SpellsSomeTypes, SpellsTypes, SpellsTypesTail, SpellsTerms, SpellsTermsTail, SpellsGroups, SpellsGroupsTail, Spells, SpellsMaybe, SpellsThird, SpellsInstance, SpellsInstanceTail, SpellsTrees, SpellsTreesTail, SpellsMore, SpellsExprs}
use Rattle.ui_grammar.specs.Parse.{SpellsSignature}

-- words, and what a form leaves of them
abbrev pub Spelling : Type 1
Spelling = List Word → List Word → Type 0

-- ts is a front, and then m; and the front has the relation to whatever follows
pub record Framed (R : Spelling) (ts m : List Word) : Type 0 where
  pub front : List Word
  pub parts : ts ≡ front ++ m
  pub again : (k : List Word) → R (front ++ k) k

-- likewise, and the front has a first word
pub record Filled (R : Spelling) (ts m : List Word) : Type 0 where
  pub word : Word
  pub others : List Word
  pub parts : ts ≡ word ∷ (others ++ m)
  pub again : (k : List Word) → R (word ∷ (others ++ k)) k

pub framed : {R : Spelling} {ts m : List Word} → Filled R ts m → Framed R ts m
framed f = record { front = f.word ∷ f.others; parts = f.parts; again = f.again }

-- ---- one part behind the other

abbrev pub Then : Spelling → Spelling → Spelling
Then R S ts rest = (m : List Word) × R ts m × S m rest

pub next : {R S : Spelling} {ts m rest : List Word} → Framed R ts m → Framed S m rest → Framed (Then R S) ts rest
next {R = R} {S = S} {ts = ts} {m = m} {rest = rest} a b = record {
  front = a.front ++ b.front;
  parts = a.parts ∙ ap (λ (v : List Word). a.front ++ v) b.parts ∙ sym (append_assoc a.front b.front rest);
  again = λ k. (b.front ++ k, subst (λ (u : List Word). R u (b.front ++ k)) (sym (append_assoc a.front b.front k)) (a.again (b.front ++ k)), b.again k);
}

pub lead : {R S : Spelling} {ts m rest : List Word} → Filled R ts m → Framed S m rest → Filled (Then R S) ts rest
lead {R = R} {S = S} {ts = ts} {m = m} {rest = rest} a b = record {
  word = a.word;
  others = a.others ++ b.front;
  parts = a.parts ∙ ap (λ (v : List Word). a.word ∷ (a.others ++ v)) b.parts ∙ sym (ap (λ (v : List Word). a.word ∷ v) (append_assoc a.others b.front rest));
  again = λ k. (b.front ++ k, subst (λ (u : List Word). R (a.word ∷ u) (b.front ++ k)) (sym (append_assoc a.others b.front k)) (a.again (b.front ++ k)), b.again k);
}

-- the same words as another form
pub framed_as : {R T : Spelling} {ts rest : List Word} → Framed R ts rest → ((us ws : List Word) → R us ws → T us ws) → Framed T ts rest
framed_as a f = record { front = a.front; parts = a.parts; again = λ k. f (a.front ++ k) k (a.again k) }

pub filled_as : {R T : Spelling} {ts rest : List Word} → Filled R ts rest → ((us ws : List Word) → R us ws → T us ws) → Filled T ts rest
filled_as a f = record { word = a.word; others = a.others; parts = a.parts; again = λ k. f (a.word ∷ (a.others ++ k)) k (a.again k) }

-- a form that begins at the spot
pub starts_at : {R : Spelling} {ts m : List Word} (s : Spot) → Begins s ts → Filled R ts m → Filled (λ us ws. Begins s us × R us ws) ts m
starts_at s b a = record { word = a.word; others = a.others; parts = a.parts; again = λ k. (subst (Begins s) a.parts b, a.again k) }

-- ---- words

pub frame_none : (ts rest : List Word) → ts ≡ rest → Framed (λ us ws. us ≡ ws) ts rest
frame_none ts rest e = record { front = []; parts = e; again = λ k. refl }

pub fill_word : (w : Word) (ts rest : List Word) → ts ≡ w ∷ rest → Filled (λ us ws. us ≡ w ∷ ws) ts rest
fill_word w ts rest e = record { word = w; others = []; parts = e; again = λ k. refl }

pub fill_mark : (k : TokenKind) (ts rest : List Word) → Mark k ts rest → Filled (Mark k) ts rest
fill_mark k ts rest m = record { word = mark k m.spot; others = []; parts = m.is; again = λ ws. record { spot = m.spot; is = refl } }

pub frame_mark : (k : TokenKind) (ts rest : List Word) → Mark k ts rest → Framed (Mark k) ts rest
frame_mark k ts rest m = framed (fill_mark k ts rest m)

pub fill_closes : (separator close : TokenKind) (ts rest : List Word) → Closes separator close ts rest → Filled (Closes separator close) ts rest
fill_closes separator close ts rest (inl m) = filled_as (fill_mark close ts rest m) (λ us ws h. inl h)
fill_closes separator close ts rest (inr s) = filled_as (lead (fill_mark separator ts s.0 s.1) (frame_mark close s.0 rest s.2)) (λ us ws h. inr h)

pub frame_closes : (separator close : TokenKind) (ts rest : List Word) → Closes separator close ts rest → Framed (Closes separator close) ts rest
frame_closes separator close ts rest h = framed (fill_closes separator close ts rest h)

pub frame_if : (b : Bool) (k : TokenKind) (ts rest : List Word) → If b k ts rest → Framed (If b k) ts rest
frame_if true k ts rest m = frame_mark k ts rest m
frame_if false k ts rest e = frame_none ts rest e

pub frame_member : (p : Option Placed) (ts rest : List Word) → Member p ts rest → Framed (Member p) ts rest
frame_member None ts rest e = frame_none ts rest e
frame_member (Some p) ts rest s = framed (lead (fill_mark Period ts s.0 s.1) (framed (fill_word (ident p) s.0 rest s.2)))

pub frame_names_tail : (ps : List Placed) (ts rest : List Word) → NamesTail ps ts rest → Framed (NamesTail ps) ts rest
frame_names_tail [] ts rest e = frame_none ts rest e
frame_names_tail (p ∷ ps) ts rest s = framed_as (next (frame_mark Comma ts s.0 s.2) (next (framed (fill_word (ident p) s.0 s.1 s.3)) (frame_names_tail ps s.1 rest s.4))) (λ us ws h. (h.0, h.2.0, h.1, h.2.1, h.2.2))

pub fill_names : (ps : List Placed) (ts rest : List Word) → Names ps ts rest → Filled (Names ps) ts rest
fill_names [] ts rest h = absurd h
fill_names (p ∷ ps) ts rest s = lead (fill_word (ident p) ts s.0 s.1) (frame_names_tail ps s.0 rest s.2)

pub frame_labels : (ps : List Placed) (ts rest : List Word) → Labels ps ts rest → Framed (Labels ps) ts rest
frame_labels [] ts rest e = frame_none ts rest e
frame_labels (p ∷ ps) ts rest h = framed (fill_names (p ∷ ps) ts rest h)

-- ---- types and expressions

mutual
  pub fill_type : (t : TypeTree) (ts rest : List Word) → SpellsType t ts rest → Filled (SpellsType t) ts rest
  fill_type (named n p vs) ts rest s = filled_as (lead (fill_word (ident n) ts s.0 s.2) (next (frame_member p s.0 s.1 s.3) (frame_args vs s.1 rest s.4)))
      (λ us ws h. (h.0, h.2.0, h.1, h.2.1, h.2.2))
  fill_type (parenthesized x t) ts rest s = filled_as (lead (fill_word (mark LParen x) ts s.0 s.2) (next (framed (fill_type t s.0 s.1 s.3)) (frame_mark RParen s.1 rest s.4)))
      (λ us ws h. (h.0, h.2.0, h.1, h.2.1, h.2.2))
  fill_type (pointer x t) ts rest s = lead (fill_word (mark Mul x) ts s.0 s.1) (framed (fill_type t s.0 rest s.2))
  fill_type (slice x t) ts rest s = filled_as (lead (fill_word (mark LBracket x) ts s.0 s.2) (next (frame_mark RBracket s.0 s.1 s.3) (framed (fill_type t s.1 rest s.4))))
      (λ us ws h. (h.0, h.2.0, h.1, h.2.1, h.2.2))
  fill_type (array x e t) ts rest s = filled_as (lead (fill_word (mark LBracket x) ts s.0 s.3) (next (framed (fill e s.0 s.1 s.4)) (next (frame_mark RBracket s.1 s.2 s.5) (framed (fill_type t s.2 rest s.6)))))
      (λ us ws h. (h.0, h.2.0, h.2.2.0, h.1, h.2.1, h.2.2.1, h.2.2.2))
  fill_type (counted x t) ts rest s = filled_as (lead (fill_word (mark LBracket x) ts s.0 s.3) (next (frame_mark Ellipsis s.0 s.1 s.4) (next (frame_mark RBracket s.1 s.2 s.5) (framed (fill_type t s.2 rest s.6)))))
      (λ us ws h. (h.0, h.2.0, h.2.2.0, h.1, h.2.1, h.2.2.1, h.2.2.2))
  fill_type (mapping x k t) ts rest s = filled_as (lead (fill_word (mark Map x) ts s.0 s.4) (next (frame_mark LBracket s.0 s.1 s.5) (next (framed (fill_type k s.1 s.2 s.6)) (next (frame_mark RBracket s.2 s.3 s.7) (framed (fill_type t s.3 rest s.8))))))
      (λ us ws h. (h.0, h.2.0, h.2.2.0, h.2.2.2.0, h.1, h.2.1, h.2.2.1, h.2.2.2.1, h.2.2.2.2))
  fill_type (func x gs r) ts rest s = filled_as (lead (fill_word (mark Func x) ts s.0 s.3) (next (frame_mark LParen s.0 s.1 s.4) (next (frame_groups Comma RParen gs s.1 s.2 s.5) (frame_maybe_type r s.2 rest s.6))))
      (λ us ws h. (h.0, h.2.0, h.2.2.0, h.1, h.2.1, h.2.2.1, h.2.2.2))
  fill_type (listed x gs) ts rest s = lead (fill_word (mark LParen x) ts s.0 s.1) (frame_groups Comma RParen gs s.0 rest s.2)
  fill_type (struct x gs) ts rest s = filled_as (lead (fill_word (mark Struct x) ts s.0 s.2) (next (frame_mark LBrace s.0 s.1 s.3) (frame_groups Semi RBrace gs s.1 rest s.4)))
      (λ us ws h. (h.0, h.2.0, h.1, h.2.1, h.2.2))
  fill_type (interface x vs) ts rest s = filled_as (lead (fill_word (mark Interface x) ts s.0 s.2) (next (frame_mark LBrace s.0 s.1 s.3) (frame_types Semi RBrace vs s.1 rest s.4)))
      (λ us ws h. (h.0, h.2.0, h.1, h.2.1, h.2.2))
  fill_type (method n gs r) ts rest s = filled_as (lead (fill_word (ident n) ts s.0 s.3) (next (frame_mark LParen s.0 s.1 s.4) (next (frame_groups Comma RParen gs s.1 s.2 s.5) (frame_maybe_type r s.2 rest s.6))))
      (λ us ws h. (h.0, h.2.0, h.2.2.0, h.1, h.2.1, h.2.2.1, h.2.2.2))
  fill_type (union x vs) ts rest s = starts_at x s.0 (fill_terms vs ts rest s.1)
  fill_type (tilde x t) ts rest s = lead (fill_word (mark Tilde x) ts s.0 s.1) (framed (fill_type t s.0 rest s.2))

  pub frame_maybe_type : (t : MaybeType) (ts rest : List Word) → SpellsMaybeType t ts rest → Framed (SpellsMaybeType t) ts rest
  frame_maybe_type no_type ts rest e = frame_none ts rest e
  frame_maybe_type (given_type t) ts rest s = framed (fill_type t ts rest s)

  pub frame_args : (vs : Args) (ts rest : List Word) → SpellsArgs vs ts rest → Framed (SpellsArgs vs) ts rest
  frame_args no_args ts rest e = frame_none ts rest e
  frame_args (args vs) ts rest s = next (frame_mark LBracket ts s.0 s.1) (frame_some_types vs s.0 rest s.2)

  pub frame_some_types : (vs : Types) (ts rest : List Word) → SpellsSomeTypes vs ts rest → Framed (SpellsSomeTypes vs) ts rest
  frame_some_types types_end ts rest s = absurd s
  frame_some_types (type_and t vs) ts rest s = next (framed (fill_type t ts s.0 s.1)) (frame_types_tail Comma RBracket vs s.0 rest s.2)

  pub frame_types : (separator close : TokenKind) (vs : Types) (ts rest : List Word) → SpellsTypes separator close vs ts rest → Framed (SpellsTypes separator close vs) ts rest
  frame_types separator close types_end ts rest s = frame_mark close ts rest s
  frame_types separator close (type_and t vs) ts rest s = next (framed (fill_type t ts s.0 s.1)) (frame_types_tail separator close vs s.0 rest s.2)

  pub frame_types_tail : (separator close : TokenKind) (vs : Types) (ts rest : List Word) → SpellsTypesTail separator close vs ts rest → Framed (SpellsTypesTail separator close vs) ts rest
  frame_types_tail separator close types_end ts rest s = frame_closes separator close ts rest s
  frame_types_tail separator close (type_and t vs) ts rest s = framed_as (next (frame_mark separator ts s.0 s.2) (next (framed (fill_type t s.0 s.1 s.3)) (frame_types_tail separator close vs s.1 rest s.4)))
      (λ us ws h. (h.0, h.2.0, h.1, h.2.1, h.2.2))

  pub fill_terms : (vs : Types) (ts rest : List Word) → SpellsTerms vs ts rest → Filled (SpellsTerms vs) ts rest
  fill_terms types_end ts rest s = absurd s
  fill_terms (type_and t vs) ts rest s = lead (fill_type t ts s.0 s.1) (frame_terms_tail vs s.0 rest s.2)

  pub frame_terms_tail : (vs : Types) (ts rest : List Word) → SpellsTermsTail vs ts rest → Framed (SpellsTermsTail vs) ts rest
  frame_terms_tail types_end ts rest e = frame_none ts rest e
  frame_terms_tail (type_and t vs) ts rest s = framed_as (next (frame_mark Or ts s.0 s.2) (next (framed (fill_type t s.0 s.1 s.3)) (frame_terms_tail vs s.1 rest s.4)))
      (λ us ws h. (h.0, h.2.0, h.1, h.2.1, h.2.2))

  pub frame_groups : (separator close : TokenKind) (gs : Groups) (ts rest : List Word) → SpellsGroups separator close gs ts rest → Framed (SpellsGroups separator close gs) ts rest
  frame_groups separator close groups_end ts rest s = frame_mark close ts rest s
  frame_groups separator close (group_and ns t gs) ts rest s = framed_as (next (frame_labels ns ts s.0 s.2) (next (framed (fill_type t s.0 s.1 s.3)) (frame_groups_tail separator close gs s.1 rest s.4)))
      (λ us ws h. (h.0, h.2.0, h.1, h.2.1, h.2.2))

  pub frame_groups_tail : (separator close : TokenKind) (gs : Groups) (ts rest : List Word) → SpellsGroupsTail separator close gs ts rest → Framed (SpellsGroupsTail separator close gs) ts rest
  frame_groups_tail separator close groups_end ts rest s = frame_closes separator close ts rest s
  frame_groups_tail separator close (group_and ns t gs) ts rest s = framed_as (next (frame_mark separator ts s.0 s.3) (next (frame_labels ns s.0 s.1 s.4) (next (framed (fill_type t s.1 s.2 s.5)) (frame_groups_tail separator close gs s.2 rest s.6))))
      (λ us ws h. (h.0, h.2.0, h.2.2.0, h.1, h.2.1, h.2.2.1, h.2.2.2))

  pub fill : (e : Tree) (ts rest : List Word) → Spells e ts rest → Filled (Spells e) ts rest
  fill (literal x k v) ts rest s = fill_word (lit k x v) ts rest s
  fill (name n) ts rest s = fill_word (ident n) ts rest s
  fill (paren x e) ts rest s = filled_as (lead (fill_word (mark LParen x) ts s.0 s.2) (next (framed (fill e s.0 s.1 s.3)) (frame_mark RParen s.1 rest s.4)))
      (λ us ws h. (h.0, h.2.0, h.1, h.2.1, h.2.2))
  fill (convert x t e) ts rest s = filled_as (lead (starts_at x s.3 (fill_type t ts s.0 s.4)) (next (frame_mark LParen s.0 s.1 s.5) (next (framed (fill e s.1 s.2 s.6)) (frame_closes Comma RParen s.2 rest s.7))))
      (λ us ws h. (h.0, h.2.0, h.2.2.0, h.1.0, h.1.1, h.2.1, h.2.2.1, h.2.2.2))
  fill (composite x t es) ts rest s = filled_as (lead (starts_at x s.2 (fill_type t ts s.0 s.3)) (next (frame_mark LBrace s.0 s.1 s.4) (frame_trees RBrace false es s.1 rest s.5)))
      (λ us ws h. (h.0, h.2.0, h.1.0, h.1.1, h.2.1, h.2.2))
  fill (elided x es) ts rest s = lead (fill_word (mark LBrace x) ts s.0 s.1) (frame_trees RBrace false es s.0 rest s.2)
  fill (keyed x k e) ts rest s = filled_as (lead (starts_at x s.2 (fill k ts s.0 s.3)) (next (frame_mark Colon s.0 s.1 s.4) (framed (fill e s.1 rest s.5))))
      (λ us ws h. (h.0, h.2.0, h.1.0, h.1.1, h.2.1, h.2.2))
  fill (instance x f vs) ts rest s = filled_as (lead (starts_at x s.2 (fill f ts s.0 s.3)) (next (frame_mark LBracket s.0 s.1 s.4) (frame_instance vs s.1 rest s.5)))
      (λ us ws h. (h.0, h.2.0, h.1.0, h.1.1, h.2.1, h.2.2))
  fill (selector x e n) ts rest s = filled_as (lead (starts_at x s.2 (fill e ts s.0 s.3)) (next (frame_mark Period s.0 s.1 s.4) (framed (fill_word (ident n) s.1 rest s.5))))
      (λ us ws h. (h.0, h.2.0, h.1.0, h.1.1, h.2.1, h.2.2))
  fill (assert x e t) ts rest s = filled_as (lead (starts_at x s.4 (fill e ts s.0 s.5)) (next (frame_mark Period s.0 s.1 s.6) (next (frame_mark LParen s.1 s.2 s.7) (next (framed (fill_type t s.2 s.3 s.8)) (frame_mark RParen s.3 rest s.9)))))
      (λ us ws h. (h.0, h.2.0, h.2.2.0, h.2.2.2.0, h.1.0, h.1.1, h.2.1, h.2.2.1, h.2.2.2.1, h.2.2.2.2))
  fill (index x e i) ts rest s = filled_as (lead (starts_at x s.3 (fill e ts s.0 s.4)) (next (frame_mark LBracket s.0 s.1 s.5) (next (framed (fill i s.1 s.2 s.6)) (frame_mark RBracket s.2 rest s.7))))
      (λ us ws h. (h.0, h.2.0, h.2.2.0, h.1.0, h.1.1, h.2.1, h.2.2.1, h.2.2.2))
  fill (sliced x e low high most) ts rest s =
      filled_as (lead (starts_at x s.6 (fill e ts s.0 s.7)) (next (frame_mark LBracket s.0 s.1 s.8) (next (frame_maybe low s.1 s.2 s.9) (next (frame_mark Colon s.2 s.3 s.10) (next (frame_maybe high s.3 s.4 s.12) (next (frame_third most s.4 s.5 s.13) (frame_mark RBracket s.5 rest s.14)))))))
      (λ us ws h. (h.0, h.2.0, h.2.2.0, h.2.2.2.0, h.2.2.2.2.0, h.2.2.2.2.2.0, h.1.0, h.1.1, h.2.1, h.2.2.1, h.2.2.2.1, s.11, h.2.2.2.2.1, h.2.2.2.2.2.1, h.2.2.2.2.2.2))
  fill (call x f es spread) ts rest s = filled_as (lead (starts_at x s.2 (fill f ts s.0 s.3)) (next (frame_mark LParen s.0 s.1 s.4) (frame_trees RParen spread es s.1 rest s.5)))
      (λ us ws h. (h.0, h.2.0, h.1.0, h.1.1, h.2.1, h.2.2))
  fill (type_arg t) ts rest s = filled_as (fill_type t ts rest s) (λ us ws h. h)
  fill (unary x o e) ts rest s = lead (fill_word (mark (prefix_mark_of o) x) ts s.0 s.1) (framed (fill e s.0 rest s.2))
  fill (binary x o l r) ts rest s = filled_as (lead (starts_at x s.2 (fill l ts s.0 s.3)) (next (frame_mark (mark_of o) s.0 s.1 s.4) (framed (fill r s.1 rest s.5))))
      (λ us ws h. (h.0, h.2.0, h.1.0, h.1.1, h.2.1, h.2.2))

  pub frame_maybe : (e : MaybeTree) (ts rest : List Word) → SpellsMaybe e ts rest → Framed (SpellsMaybe e) ts rest
  frame_maybe absent ts rest e = frame_none ts rest e
  frame_maybe (given e) ts rest s = framed (fill e ts rest s)

  pub frame_third : (e : MaybeTree) (ts rest : List Word) → SpellsThird e ts rest → Framed (SpellsThird e) ts rest
  frame_third absent ts rest e = frame_none ts rest e
  frame_third (given e) ts rest s = next (frame_mark Colon ts s.0 s.1) (framed (fill e s.0 rest s.2))

  pub frame_instance : (vs : Types) (ts rest : List Word) → SpellsInstance vs ts rest → Framed (SpellsInstance vs) ts rest
  frame_instance types_end ts rest s = absurd s
  frame_instance (type_and t vs) ts rest s = next (framed (fill_type t ts s.0 s.1)) (frame_instance_tail (is_expression t) vs s.0 rest s.2)

  pub frame_instance_tail : (b : Bool) (vs : Types) (ts rest : List Word) → SpellsInstanceTail b vs ts rest → Framed (SpellsInstanceTail b vs) ts rest
  frame_instance_tail true types_end ts rest s = next (frame_mark Comma ts s.0 s.1) (frame_mark RBracket s.0 rest s.2)
  frame_instance_tail false types_end ts rest s = frame_closes Comma RBracket ts rest s
  frame_instance_tail true (type_and t vs) ts rest s = framed_as (next (frame_mark Comma ts s.0 s.2) (next (framed (fill_type t s.0 s.1 s.3)) (frame_types_tail Comma RBracket vs s.1 rest s.4)))
      (λ us ws h. (h.0, h.2.0, h.1, h.2.1, h.2.2))
  frame_instance_tail false (type_and t vs) ts rest s = framed_as (next (frame_mark Comma ts s.0 s.2) (next (framed (fill_type t s.0 s.1 s.3)) (frame_types_tail Comma RBracket vs s.1 rest s.4)))
      (λ us ws h. (h.0, h.2.0, h.1, h.2.1, h.2.2))

  pub frame_trees : (close : TokenKind) (spread : Bool) (es : Trees) (ts rest : List Word) → SpellsTrees close spread es ts rest → Framed (SpellsTrees close spread es) ts rest
  frame_trees close spread trees_end ts rest s = framed_as (frame_mark close ts rest s.1) (λ us ws h. (s.0, h))
  frame_trees close spread (tree_and e es) ts rest s = next (framed (fill e ts s.0 s.1)) (frame_trees_tail close spread es s.0 rest s.2)

  pub frame_trees_tail : (close : TokenKind) (spread : Bool) (es : Trees) (ts rest : List Word) → SpellsTreesTail close spread es ts rest → Framed (SpellsTreesTail close spread es) ts rest
  frame_trees_tail close spread trees_end ts rest s = next (frame_if spread Ellipsis ts s.0 s.1) (frame_closes Comma close s.0 rest s.2)
  frame_trees_tail close spread (tree_and e es) ts rest s = framed_as (next (frame_mark Comma ts s.0 s.2) (next (framed (fill e s.0 s.1 s.3)) (frame_trees_tail close spread es s.1 rest s.4)))
      (λ us ws h. (h.0, h.2.0, h.1, h.2.1, h.2.2))

pub frame_type : (t : TypeTree) (ts rest : List Word) → SpellsType t ts rest → Framed (SpellsType t) ts rest
frame_type t ts rest s = framed (fill_type t ts rest s)

pub frame : (e : Tree) (ts rest : List Word) → Spells e ts rest → Framed (Spells e) ts rest
frame e ts rest s = framed (fill e ts rest s)

pub frame_terms : (vs : Types) (ts rest : List Word) → SpellsTerms vs ts rest → Framed (SpellsTerms vs) ts rest
frame_terms vs ts rest s = framed (fill_terms vs ts rest s)

pub fill_signature : (t : TypeTree) (ts rest : List Word) → SpellsSignature t ts rest → Filled (SpellsSignature t) ts rest
fill_signature (func x gs r) ts rest s = filled_as (lead (fill_word (mark LParen x) ts s.0 s.2) (next (frame_groups Comma RParen gs s.0 s.1 s.3) (frame_maybe_type r s.1 rest s.4)))
    (λ us ws h. (h.0, h.2.0, h.1, h.2.1, h.2.2))
fill_signature _ ts rest s = absurd s

pub frame_signature : (t : TypeTree) (ts rest : List Word) → SpellsSignature t ts rest → Framed (SpellsSignature t) ts rest
frame_signature t ts rest s = framed (fill_signature t ts rest s)

pub frame_more : (es : Trees) (ts rest : List Word) → SpellsMore es ts rest → Framed (SpellsMore es) ts rest
frame_more trees_end ts rest e = frame_none ts rest e
frame_more (tree_and e es) ts rest s = framed_as (next (frame_mark Comma ts s.0 s.2) (next (framed (fill e s.0 s.1 s.3)) (frame_more es s.1 rest s.4)))
    (λ us ws h. (h.0, h.2.0, h.1, h.2.1, h.2.2))

pub fill_exprs : (es : Trees) (ts rest : List Word) → SpellsExprs es ts rest → Filled (SpellsExprs es) ts rest
fill_exprs trees_end ts rest s = absurd s
fill_exprs (tree_and e es) ts rest s = lead (fill e ts s.0 s.1) (frame_more es s.0 rest s.2)

-- ---- a form with a first word

pub shorter : {R : Spelling} {ts rest : List Word} → Filled R ts rest → length rest < length ts
shorter {ts = ts} {rest = rest} a = omega (arith, ap length a.parts, length-append a.others rest)

-- something is spelled
pub not_empty_type : (t : TypeTree) (ts : List Word) → SpellsType t ts ts → ⊥
not_empty_type t ts s = omega (arith, shorter (fill_type t ts ts s))

pub not_empty : (e : Tree) (ts : List Word) → Spells e ts ts → ⊥
not_empty e ts s = omega (arith, shorter (fill e ts ts s))

-- it begins at some spot
pub begins_by : {R : Spelling} {ts rest : List Word} → Filled R ts rest → (s : Spot) × Begins s ts
begins_by a = (spot_at a.word, subst (Begins (spot_at a.word)) (sym a.parts) refl)
