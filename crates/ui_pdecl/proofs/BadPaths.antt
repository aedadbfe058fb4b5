-- The string of the first bad path, among the words of a file and its tokens.
use Rattle.std.proofs.Common.{◌≡◌, ℕ, Bool, true, false, cond, List, [], ◌∷◌, ◌++◌, Option, Some, None, refl, sym, ap, ◌∙◌, append_assoc}
use Rattle.ui_base.specs.declared.value.Spot.{Spot}
use Rattle.ui_base.specs.declared.value.Value.{Value}
use Rattle.ui_base.specs.declared.value.Value.TheVariants as value
use Rattle.ui_scan.specs.declared.kind.Token.{Token}
use Rattle.ui_scan.specs.declared.kind.TokenKind.{TokenKind}
use Rattle.ui_scan.specs.declared.kind.TokenKind.TheVariants as kind
use Rattle.ui_tree.specs.declared.part.Placed.{Placed}
use Rattle.ui_tree.specs.declared.part.Specs.{Specs}
use Rattle.ui_tree.specs.declared.part.Specs.TheVariants.{One, Grouped}
use Rattle.ui_tree.specs.declared.part.LiteralKind.TheVariants.{Text}
use Rattle.ui_tree.specs.Stmt.{Imported, Import, File}
use Rattle.ui_grammar.specs.Word.{Word, ident, lit, mark, word_of_kind, word_of, words, spot_at}
use Rattle.ui_grammar.specs.Statement.{SpecsTail, SpecsList, SpellsSpecs}
use Rattle.ui_grammar.specs.Declaration.{MaybeNamed, SpellsImported, SpellsImport, SpellsEach}
use Rattle.ui_grammar.proofs.FramesDecl.{frame_imported, frame_import}
use Rattle.ui_grammar.specs.Parse.{HasFile}
use Rattle.ui_pexpr.specs.Back.{kind_at}
use Rattle.ui_pexpr.specs.Forms.{or_else}
use Rattle.ui_pdecl.specs.FileResult.{is_bad, bad_spec, all_specs, bad_import}
use Rattle.ui_pexpr.specs.BackLaws.{kind_of_token}

-- the words have the string of a bad path at a spot
pub record HasString (own : List ℕ) (s : Spot) (ws : List Word) : Type 0 where
  pub before : List Word
  pub behind : List Word
  pub path : List ℕ
  pub parts : ws ≡ before ++ (lit Text s (value.Str path) ∷ behind)
  pub bad : is_bad own path ≡ true

module _ (own : List ℕ) (s : Spot) where
  behind_front : (front ws rest : List Word) → ws ≡ front ++ rest → HasString own s rest → HasString own s ws
  behind_front front ws rest e h = record {
    before = front ++ h.before;
    behind = h.behind;
    path = h.path;
    parts = e ∙ ap (λ (v : List Word). front ++ v) h.parts ∙ sym (append_assoc front h.before (lit Text s (value.Str h.path) ∷ h.behind));
    bad = h.bad;
  }

  behind_word : (w : Word) (ws rest : List Word) → ws ≡ w ∷ rest → HasString own s rest → HasString own s ws
  behind_word w ws rest e h = behind_front (w ∷ []) ws rest e h

  behind_name : (n : Option Placed) (ws rest : List Word) → MaybeNamed n ws rest → HasString own s rest → HasString own s ws
  behind_name None ws rest e h = behind_front [] ws rest e h
  behind_name (Some p) ws rest e h = behind_word (ident p) ws rest e h

  in_imported : (i : Imported) (ts rest : List Word) → SpellsImported i ts rest → i.path.spot ≡ s → is_bad own i.path.text ≡ true → HasString own s ts
  in_imported i ts rest h at bad = behind_name i.name ts h.0 h.1 (record {
    before = [];
    behind = rest;
    path = i.path.text;
    parts = h.2 ∙ ap (λ (s : Spot). lit Text s (value.Str i.path.text) ∷ rest) at;
    bad = bad;
  })

  -- this one, or one behind it
  either : {P : Type 0} (i : Imported) (rest : Option Spot) (b : Bool) → is_bad own i.path.text ≡ b → cond b (Some i.path.spot) rest ≡ Some s
      → (i.path.spot ≡ s → is_bad own i.path.text ≡ true → P) → (rest ≡ Some s → P) → P
  either i rest true e h here on = let at : i.path.spot ≡ s = cc in here at e
  either i rest false e h here on = on h

  in_tail : (is : List Imported) (ts rest : List Word) → SpecsTail SpellsImported is ts rest → bad_spec own is ≡ Some s → HasString own s ts
  in_tail [] ts rest h e = absurd cc
  in_tail (i ∷ is) ts rest h e = behind_word (mark kind.Semi h.2.spot) ts h.0 h.2.is (either i (bad_spec own is) (is_bad own i.path.text) refl e (λ at bad. in_imported i h.0 h.1 h.3 at bad)
      (λ more. let f = frame_imported i h.0 h.1 h.3 in behind_front f.front h.0 h.1 f.parts (in_tail is h.1 rest h.4 more)))

  in_list : (is : List Imported) (ts rest : List Word) → SpecsList SpellsImported is ts rest → bad_spec own is ≡ Some s → HasString own s ts
  in_list [] ts rest h e = absurd cc
  in_list (i ∷ is) ts rest h e = either i (bad_spec own is) (is_bad own i.path.text) refl e (λ at bad. in_imported i ts h.0 h.1 at bad)
      (λ more. let f = frame_imported i ts h.0 h.1 in behind_front f.front ts h.0 f.parts (in_tail is h.0 rest h.2 more))

  in_specs : (specs : Specs Imported) (ts rest : List Word) → SpellsSpecs SpellsImported specs ts rest → bad_spec own (all_specs specs) ≡ Some s → HasString own s ts
  in_specs (One i) ts rest h e = either i None (is_bad own i.path.text) refl e (λ at bad. in_imported i ts rest h at bad) (λ nothing. absurd cc)
  in_specs (Grouped is) ts rest h e = behind_word (mark kind.LParen h.1.spot) ts h.0 h.1.is (in_list is h.0 rest h.2 e)

  first_or : {P : Type 0} (a b : Option Spot) → or_else a b ≡ Some s → (a ≡ Some s → P) → (b ≡ Some s → P) → P
  first_or None b e here on = on e
  first_or (Some t) b e here on = here e

  in_imports : (is : List Import) (ts rest : List Word) → SpellsEach SpellsImport is ts rest → bad_import own is ≡ Some s → HasString own s ts
  in_imports [] ts rest h e = absurd cc
  in_imports (i ∷ is) ts rest h e = first_or (bad_spec own (all_specs i.specs)) (bad_import own is) e
      (λ here. behind_word (mark kind.Import i.spot) ts h.2.0 h.2.1 (in_specs i.specs h.2.0 h.0 h.2.2 here))
      (λ more. let f = frame_import i ts h.0 h.2 in behind_front f.front ts h.0 f.parts (behind_word (mark kind.Semi h.3.spot) h.0 h.1 h.3.is (in_imports is h.1 rest h.4 more)))

  pub in_file : (f : File) (ws : List Word) → HasFile 200 ws f → bad_import own f.imports ≡ Some s → HasString own s ws
  in_file f ws has e =
      let h = has.spells in
      behind_word (mark kind.Package f.spot) ws h.0 h.4 (behind_word (ident f.package_name) h.0 h.1 h.5 (behind_word (mark kind.Semi h.6.spot) h.1 h.2 h.6.is (in_imports f.imports h.2 h.3 h.7 e)))

-- ---- its token

pub record HasToken (bytes : List ℕ) (w : Word) (ts : List Token) : Type 0 where
  pub before : List Token
  pub token : Token
  pub behind : List Token
  pub parts : ts ≡ before ++ (token ∷ behind)
  pub is : word_of bytes token ≡ w

pub token_of : (bytes : List ℕ) (ts : List Token) (w : Word) (x y : List Word) → words bytes ts ≡ x ++ (w ∷ y) → HasToken bytes w ts
token_of bytes [] w [] y e = absurd cc
token_of bytes [] w (v ∷ x) y e = absurd cc
token_of bytes (t ∷ ts) w [] y e = record { before = []; token = t; behind = ts; parts = refl; is = cc }
token_of bytes (t ∷ ts) w (v ∷ x) y e =
    let rest : words bytes ts ≡ x ++ (w ∷ y) = cc in
    let h = token_of bytes ts w x y rest in
    record { before = t ∷ h.before; token = h.token; behind = h.behind; parts = ap (λ (v : List Token). t ∷ v) h.parts; is = h.is }

spots : (bytes : List ℕ) (t : Token) (k : TokenKind) → spot_at (word_of_kind bytes t k) ≡ record { line = t.line; col = t.col }
spots bytes t kind.Ident = refl
spots bytes t kind.Int = refl
spots bytes t kind.Rune = refl
spots bytes t kind.Str = refl
spots bytes t k = refl

pub string_kind : (bytes : List ℕ) (t : Token) (s : Spot) (v : Value) → word_of bytes t ≡ lit Text s v → t.kind ≡ kind.Str
string_kind bytes t s v e = sym (kind_of_token bytes t) ∙ ap kind_at e

pub string_spot : (bytes : List ℕ) (t : Token) (s : Spot) (v : Value) → word_of bytes t ≡ lit Text s v → record { line = t.line; col = t.col } ≡ s
string_spot bytes t s v e = sym (spots bytes t t.kind) ∙ ap spot_at e
