-- The loops of expressions, by their turns.
use Rattle.std.proofs.Common.{◌≡◌, ℕ, zero, suc, Bool, true, false, cond, List, Option, Some, None, Ok, Err, refl}
use Rattle.ui_base.specs.declared.kind.BinOp.{BinOp}
use Rattle.ui_scan.specs.declared.kind.TokenKind.TheVariants.{LParen, LBracket, LBrace, Period}
use Rattle.ui_tree.specs.Tree.{TypeTree, Tree}
use Rattle.ui_grammar.specs.Word.{Word}
use Rattle.ui_grammar.specs.Operator.{level_of}
use Rattle.ui_parse.specs.Reader.{Outcome, Reader, and_then, pure, first, tail, taken, take_by, marked}
use Rattle.ui_syntax.specs.declared.site.Site.{Site}
use Rattle.ui_syntax.specs.Cover.{Read, as_type, if_named}
use Rattle.ui_syntax.specs.Types.{Nested, of_type}
use Rattle.ui_syntax.specs.Exprs.{is_header, operand_site, an_operator, literal_of, literal_or, selected, indexed, called, one_suffix, suffixes, binary_of, operations}
use Rattle.ui_pread.specs.Turns.{done, more, goes_on, literal_turn, suffix_turn, operation_turn}
use Rattle.ui_pread.proofs.Loops.{after_turn}

then_bind : {A B C : Type 0} (o : Outcome A) (f : A → Reader C) (g : A → Reader B) (h : B → Reader C) → ((a : A) (ws : List Word) → f a ws ≡ and_then (g a ws) h) → and_then o f ≡ and_then (and_then o g) h
then_bind (Ok p) f g h same = same p.0 p.1
then_bind (Err ws) f g h same = refl

then_taken : {A B C : Type 0} (x : Option B) (on : B → Reader C) (other : Reader C) (on' : B → Reader A) (other' : Reader A) (h : A → Reader C) (ws : List Word)
    → ((b : B) → on b (tail ws) ≡ and_then (on' b (tail ws)) h) → other ws ≡ and_then (other' ws) h → taken x on other ws ≡ and_then (taken x on' other' ws) h
then_taken None on other on' other' h ws same others = others
then_taken (Some b) on other on' other' h ws same others = same b

then_take : {A B C : Type 0} (test : Word → Option B) (on : B → Reader C) (other : Reader C) (on' : B → Reader A) (other' : Reader A) (h : A → Reader C) (ws : List Word)
    → ((b : B) → on b (tail ws) ≡ and_then (on' b (tail ws)) h) → other ws ≡ and_then (other' ws) h → take_by test on other ws ≡ and_then (take_by test on' other' ws) h
unfolding take_by
then_take test on other on' other' h ws same others = then_taken (first test ws) on other on' other' h ws same others

then_cond : {A C : Type 0} (b : Bool) (p q : Reader C) (p' q' : Reader A) (h : A → Reader C) (ws : List Word) → p ws ≡ and_then (p' ws) h → q ws ≡ and_then (q' ws) h → cond b p q ws ≡ and_then (cond b p' q' ws) h
then_cond true p q p' q' h ws on off = on
then_cond false p q p' q' h ws on off = off

module _ (room : ℕ) (inner : Nested) (again : Read Tree → Reader (Read Tree)) where
  next_turn : (o : Outcome (Read Tree)) → and_then o again ≡ and_then (and_then o more) (after_turn again)
  next_turn o = then_bind o again more (after_turn again) (λ f ws. refl)

  literal_is : (site : Site) (f : Read Tree) (t : Option TypeTree) (ws : List Word) → literal_or room inner again site f t ws ≡ and_then (literal_turn room inner site f t ws) (after_turn again)
  literal_is site f None ws = refl
  literal_is site f (Some t) ws =
      let go = literal_of room inner (of_type t f.spot f.depth) in
      then_cond (is_header site) (pure f) (take_by (marked LBrace) (λ _ us. and_then (go us) again) (pure f)) (done f) (take_by (marked LBrace) (λ _ us. and_then (go us) more) (done f)) (after_turn again) ws refl
      (then_take (marked LBrace) (λ _ us. and_then (go us) again) (pure f) (λ _ us. and_then (go us) more) (done f) (after_turn again) ws (λ _. next_turn (go (tail ws))) refl)

  suffix_is : (site : Site) (f : Read Tree) (ws : List Word) → one_suffix room inner again site f ws ≡ and_then (suffix_turn room inner site f ws) (after_turn again)
  suffix_is site f ws =
      let last = literal_or room inner again site f (if_named (as_type f.tree)) in
      let last' = literal_turn room inner site f (if_named (as_type f.tree)) in
      let third = take_by (marked LParen) (λ _ us. and_then (called room inner f us) again) last in
      let third' = take_by (marked LParen) (λ _ us. and_then (called room inner f us) more) last' in
      let second = take_by (marked LBracket) (λ _ us. and_then (indexed room inner f us) again) third in
      let second' = take_by (marked LBracket) (λ _ us. and_then (indexed room inner f us) more) third' in
      then_take (marked Period) (λ _ us. and_then (selected room inner f us) again) second (λ _ us. and_then (selected room inner f us) more) second' (after_turn again) ws (λ _. next_turn (selected room inner f (tail ws)))
      (then_take (marked LBracket) (λ _ us. and_then (indexed room inner f us) again) third (λ _ us. and_then (indexed room inner f us) more) third' (after_turn again) ws (λ _. next_turn (indexed room inner f (tail ws)))
      (then_take (marked LParen) (λ _ us. and_then (called room inner f us) again) last (λ _ us. and_then (called room inner f us) more) last' (after_turn again) ws (λ _. next_turn (called room inner f (tail ws)))
      (literal_is site f (if_named (as_type f.tree)) ws)))

  operation_is : (site : Site) (least : ℕ) (l : Read Tree) (ws : List Word)
      → take_by (an_operator least) (λ o us. and_then (inner.level (operand_site site) (suc (level_of o)) us) (λ r. again (binary_of room inner o l r))) (pure l) ws ≡ and_then (operation_turn room inner site least l ws) (after_turn again)
  operation_is site least l ws =
      let part : BinOp → Reader (Read Tree) = λ o. inner.level (operand_site site) (suc (level_of o)) in
      then_take (an_operator least) (λ o us. and_then (part o us) (λ r. again (binary_of room inner o l r))) (pure l) (λ o us. and_then (part o us) (λ r. more (binary_of room inner o l r))) (done l) (after_turn again) ws
      (λ o. then_bind (part o (tail ws)) (λ r. again (binary_of room inner o l r)) (λ r. more (binary_of room inner o l r)) (after_turn again) (λ r us. refl)) refl

module _ (room : ℕ) (inner : Nested) (site : Site) where
  pub suffixes_end : (f : Read Tree) (ws : List Word) → suffixes room inner site zero f ws ≡ Ok (f, ws)
  unfolding suffixes
  suffixes_end f ws = refl

  on_both : (b : Bool) (p q p' : Reader (Read Tree)) (ws : List Word) → p ws ≡ p' ws → cond b p q ws ≡ cond b p' q ws
  on_both true p q p' ws e = e
  on_both false p q p' ws e = refl

  pub suffixes_turn : (n : ℕ) (f : Read Tree) (ws : List Word) → suffixes room inner site (suc n) f ws ≡ cond (goes_on room f) (λ us. and_then (suffix_turn room inner site f us) (after_turn (suffixes room inner site n))) (pure f) ws
  unfolding suffixes
  suffixes_turn n f ws = on_both (goes_on room f) (one_suffix room inner (suffixes room inner site n) site f) (pure f) (λ us. and_then (suffix_turn room inner site f us) (after_turn (suffixes room inner site n))) ws
      (suffix_is room inner (suffixes room inner site n) site f ws)

  pub operations_end : (least : ℕ) (l : Read Tree) (ws : List Word) → operations room inner site least zero l ws ≡ Ok (l, ws)
  unfolding operations
  operations_end least l ws = refl

  pub operations_turn : (least n : ℕ) (l : Read Tree) (ws : List Word) → operations room inner site least (suc n) l ws ≡ cond (goes_on room l) (λ us. and_then (operation_turn room inner site least l us) (after_turn (operations room inner site least n))) (pure l) ws
  unfolding operations
  operations_turn least n l ws = on_both (goes_on room l)
      (take_by (an_operator least) (λ o us. and_then (inner.level (operand_site site) (suc (level_of o)) us) (λ r. operations room inner site least n (binary_of room inner o l r))) (pure l)) (pure l)
      (λ us. and_then (operation_turn room inner site least l us) (after_turn (operations room inner site least n))) ws
      (operation_is room inner (operations room inner site least n) site least l ws)
