-- A type that ends with a signature without results goes on with `()` as its results.
use Rattle.std.proofs.Common.{◌≡◌, true, false, List, ◌∷◌, refl}
use Rattle.ui_base.specs.declared.value.Spot.{Spot}
use Rattle.ui_scan.specs.declared.kind.TokenKind.TheVariants.{LParen, RParen}
use Rattle.ui_tree.specs.Tree.{TypeTree, named, parenthesized, pointer, slice, array, counted, mapping, func, listed, struct, interface, method, union, tilde, groups_end, no_type, given_type}
use Rattle.ui_grammar.specs.Word.{Word, mark}
use Rattle.ui_grammar.specs.Both.{is_expression, ends_open}
use Rattle.ui_grammar.specs.Spells.{SpellsType}
use Rattle.ui_grammar.specs.Fits.{TypePlace, plain_type, result, is_pointer, type_depth, FitsType}
use Rattle.ui_syntax.specs.Cover.{is_counted}

pub record Shut (s : Spot) (t : TypeTree) : Type 0 where
  pub tree : TypeTree
  pub spells : (ts rest : List Word) → SpellsType t ts (mark LParen s ∷ (mark RParen s ∷ rest)) → SpellsType tree ts rest
  pub fits : (q : TypePlace) → FitsType t q → FitsType tree q
  pub sized : type_depth tree ≡ type_depth t
  pub closed : ends_open tree ≡ false
  pub expression : is_expression tree ≡ is_expression t
  pub pointer_is : is_pointer tree ≡ is_pointer t
  pub counted_is : is_counted tree ≡ is_counted t

pub shut : (s : Spot) (t : TypeTree) → ends_open t ≡ true → Shut s t
shut s (named n m vs) o = absurd cc
shut s (parenthesized p t) o = absurd cc
shut s (pointer p t) o = let h = shut s t o in record {
  tree = pointer p h.tree;
  spells = λ ts rest q. (q.0, q.1, h.spells q.0 rest q.2);
  fits = λ q f. (f.0, h.fits plain_type f.1);
  sized = rw (h.sized) refl;
  closed = h.closed;
  expression = h.expression;
  pointer_is = refl;
  counted_is = refl;
}
shut s (slice p t) o = let h = shut s t o in record {
  tree = slice p h.tree;
  spells = λ ts rest q. (q.0, q.1, q.2, q.3, h.spells q.1 rest q.4);
  fits = λ q f. (f.0, h.fits plain_type f.1);
  sized = rw (h.sized) refl;
  closed = h.closed;
  expression = refl;
  pointer_is = refl;
  counted_is = refl;
}
shut s (array p e t) o = let h = shut s t o in record {
  tree = array p e h.tree;
  spells = λ ts rest q. (q.0, q.1, q.2, q.3, q.4, q.5, h.spells q.2 rest q.6);
  fits = λ q f. (f.0, f.1, h.fits plain_type f.2);
  sized = rw (h.sized) refl;
  closed = h.closed;
  expression = refl;
  pointer_is = refl;
  counted_is = refl;
}
shut s (counted p t) o = let h = shut s t o in record {
  tree = counted p h.tree;
  spells = λ ts rest q. (q.0, q.1, q.2, q.3, q.4, q.5, h.spells q.2 rest q.6);
  fits = λ q f. (f.0, h.fits plain_type f.1);
  sized = rw (h.sized) refl;
  closed = h.closed;
  expression = refl;
  pointer_is = refl;
  counted_is = refl;
}
shut s (mapping p k t) o = let h = shut s t o in record {
  tree = mapping p k h.tree;
  spells = λ ts rest q. (q.0, q.1, q.2, q.3, q.4, q.5, q.6, q.7, h.spells q.3 rest q.8);
  fits = λ q f. (f.0, f.1, h.fits plain_type f.2);
  sized = rw (h.sized) refl;
  closed = h.closed;
  expression = refl;
  pointer_is = refl;
  counted_is = refl;
}
shut s (func p gs no_type) o = record {
  tree = func p gs (given_type (listed s groups_end));
  spells = λ ts rest q. (q.0, q.1, q.2, q.3, q.4, q.5, (mark RParen s ∷ rest, q.6, record { spot = s; is = refl }));
  fits = λ q f. (f.0, f.1, f.2, (refl, refl, tt));
  sized = refl;
  closed = refl;
  expression = refl;
  pointer_is = refl;
  counted_is = refl;
}
shut s (func p gs (given_type t)) o = let h = shut s t o in record {
  tree = func p gs (given_type h.tree);
  spells = λ ts rest q. (q.0, q.1, q.2, q.3, q.4, q.5, h.spells q.2 rest q.6);
  fits = λ q f. (f.0, f.1, f.2, h.fits result f.3);
  sized = rw (h.sized) refl;
  closed = h.closed;
  expression = refl;
  pointer_is = refl;
  counted_is = refl;
}
shut s (listed p gs) o = absurd cc
shut s (struct p gs) o = absurd cc
shut s (interface p us) o = absurd cc
shut s (method p gs no_type) o = record {
  tree = method p gs (given_type (listed s groups_end));
  spells = λ ts rest q. (q.0, q.1, q.2, q.3, q.4, q.5, (mark RParen s ∷ rest, q.6, record { spot = s; is = refl }));
  fits = λ q f. (f.0, f.1, f.2, (refl, refl, tt));
  sized = refl;
  closed = refl;
  expression = refl;
  pointer_is = refl;
  counted_is = refl;
}
shut s (method p gs (given_type t)) o = let h = shut s t o in record {
  tree = method p gs (given_type h.tree);
  spells = λ ts rest q. (q.0, q.1, q.2, q.3, q.4, q.5, h.spells q.2 rest q.6);
  fits = λ q f. (f.0, f.1, f.2, h.fits result f.3);
  sized = rw (h.sized) refl;
  closed = h.closed;
  expression = refl;
  pointer_is = refl;
  counted_is = refl;
}
shut s (union p us) o = absurd cc
shut s (tilde p t) o = let h = shut s t o in record {
  tree = tilde p h.tree;
  spells = λ ts rest q. (q.0, q.1, h.spells q.0 rest q.2);
  fits = λ q f. (f.0, h.fits plain_type f.1);
  sized = h.sized;
  closed = h.closed;
  expression = refl;
  pointer_is = refl;
  counted_is = refl;
}
