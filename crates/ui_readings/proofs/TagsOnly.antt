-- A word is a tag just where it is a string behind a field of an open struct.
use Rattle.std.proofs.Common.{◌≡◌, ◌⊎◌, inl, inr, ℕ, zero, suc, ◌-◌, Bool, true, false, cond, List, [], ◌∷◌, ◌++◌, length, drop, reverse, Option, Some, None, Ok, Err, refl, sym, ap, subst, ◌∙◌, append_assoc, arith}
use Rattle.std.proofs.Math.Seq.{drop-append_seam}
use Rattle.std.proofs.lemmas.Bool.{and_parts, false≢true}
use Rattle.std.proofs.lemmas.List.{length-reverse, reverse-append, reverse-reverse, take_all}
use Rattle.ui_base.specs.declared.value.Spot.{Spot}
use Rattle.ui_scan.specs.declared.kind.TokenKind.{TokenKind}
use Rattle.ui_scan.specs.declared.kind.TokenKind.TheVariants as kind
use Rattle.ui_scan.specs.declared.kind.TokenKind.TheVariants.{Struct, LBrace, Semi, Comma}
use Rattle.ui_tree.specs.declared.part.Placed.{Placed}
use Rattle.ui_tree.specs.declared.part.LiteralKind.TheVariants.{Whole, Rune as ARune, Text}
use Rattle.ui_tree.specs.Tree.{TypeTree}
use Rattle.ui_grammar.specs.Word.{Word, ident, lit, mark, Names}
use Rattle.ui_grammar.specs.Parse.{HasType}
use Rattle.ui_parse.specs.Kind.{is_kind}
use Rattle.ui_parse.specs.Reader.{Outcome, and_then, first, marked}
use Rattle.ui_parse.specs.Names.{names}
use Rattle.ui_parse.proofs.NamesLaws.{NameMissing, names_hold}
use Rattle.ui_parse.proofs.Outcomes.{Holds}
use Rattle.ui_parse.proofs.SameKinds.{same_kind}
use Rattle.ui_syntax.specs.Cover.{Read}
use Rattle.ui_syntax.specs.Read.{type}
use Rattle.ui_syntax.proofs.Decides.{reads_types}
use Rattle.ui_pexpr.specs.declared.fault.Form.TheVariants.{Tag}
use Rattle.ui_pexpr.specs.Back.{kind_at, opens, closes, outer, separates, last_is, next_level, or_here, opening}
use Rattle.ui_pexpr.specs.Forms.{is_whole, none_left, field, in_struct, behind_field, form_if, form_by_kind}
use Rattle.ui_readings.specs.Tags.{IsField, IsClosed, IsParted, IsBehindField, TagsExactly}
use Rattle.ui_readings.proofs.TagsStand.{behind}

-- ---- single words

pub never : {X : Type 0} → false ≡ true → X
never e = absurd (false≢true e)

brace_is : (w : Word) → is_kind (kind_at w) LBrace ≡ true → (s : Spot) × (w ≡ mark LBrace s)
brace_is (ident p) e = never e
brace_is (lit Whole s v) e = never e
brace_is (lit ARune s v) e = never e
brace_is (lit Text s v) e = never e
brace_is (mark k s) e = (s, ap (λ (x : TokenKind). mark x s) (same_kind k LBrace e))

struct_is : (w : Word) → is_kind (kind_at w) Struct ≡ true → (s : Spot) × (w ≡ mark Struct s)
struct_is (ident p) e = never e
struct_is (lit Whole s v) e = never e
struct_is (lit ARune s v) e = never e
struct_is (lit Text s v) e = never e
struct_is (mark k s) e = (s, ap (λ (x : TokenKind). mark x s) (same_kind k Struct e))

pub semi_is : (w : Word) → is_kind (kind_at w) Semi ≡ true → (s : Spot) × (w ≡ mark Semi s)
semi_is (ident p) e = never e
semi_is (lit Whole s v) e = never e
semi_is (lit ARune s v) e = never e
semi_is (lit Text s v) e = never e
semi_is (mark k s) e = (s, ap (λ (x : TokenKind). mark x s) (same_kind k Semi e))

-- a struct's brace, the last word first
record Braced (back : List Word) : Type 0 where
  struct_spot : Spot
  brace_spot : Spot
  before : List Word
  is : back ≡ mark LBrace brace_spot ∷ (mark Struct struct_spot ∷ before)

pub two_words : (v w x y : Word) (ws : List Word) → v ≡ x → w ≡ y → (let a : List Word = v ∷ (w ∷ ws) in a) ≡ x ∷ (y ∷ ws)
two_words v w x y ws e f = cc

braced : (back : List Word) → in_struct back ≡ true → Braced back
braced [] e = never e
braced (v ∷ []) e = never (and_parts (last_is LBrace (v ∷ [])) false e).1
braced (v ∷ (w ∷ ws)) e =
    let both = and_parts (is_kind (kind_at v) LBrace) (is_kind (kind_at w) Struct) e in
    let b = brace_is v both.0 in
    let s = struct_is w both.1 in
    record { struct_spot = s.0; brace_spot = b.0; before = ws; is = two_words v w (mark LBrace b.0) (mark Struct s.0) ws b.1 s.1 }

-- ---- the way back to a bracket

-- the way over these words comes out at the bottom, or nothing stops it before the text's front
abbrev pub Comes : ℕ → List Word → List Word → Type 0
Comes n passed bracket = (bracket ≡ []) ⊎ ((x : List Word) → opening false n (passed ++ x) ≡ opening false 0 x)

pub record Stop (n : ℕ) (back : List Word) : Type 0 where
  pub passed : List Word
  pub whole : back ≡ passed ++ opening false n back
  pub comes : Comes n passed (opening false n back)

by_next : (b : Bool) (n : ℕ) (w : Word) (ws : List Word) (o : Option ℕ) → next_level b n (kind_at w) ≡ o → opening b n (w ∷ ws) ≡ or_here o (w ∷ ws) (λ m. opening b m ws)
by_next b n w ws o e = ap (λ (x : Option ℕ). or_here x (w ∷ ws) (λ m. opening b m ws)) e

-- the way ends at the bottom
bottom_by : (c o : Bool) (n : ℕ) → cond c (Some (suc n)) (cond o (outer n) (Some n)) ≡ None → n ≡ 0
bottom_by true o n e = absurd cc
bottom_by false true zero e = refl
bottom_by false true (suc n) e = absurd cc
bottom_by false false n e = absurd cc

bottom : (n : ℕ) (w : Word) → next_level false n (kind_at w) ≡ None → n ≡ 0
bottom n w e = bottom_by (closes (kind_at w)) (opens (kind_at w)) n e

at_bottom : (n : ℕ) (w : Word) (bracket : List Word) → next_level false n (kind_at w) ≡ None → Comes n [] bracket
at_bottom n w bracket e = inr (λ x. ap (λ (k : ℕ). opening false k x) (bottom n w e))

comes_on : (n m : ℕ) (w : Word) (passed here there : List Word) → next_level false n (kind_at w) ≡ Some m → here ≡ there → Comes m passed there → Comes n (w ∷ passed) here
comes_on n m w passed here there e same (inl none) = inl (same ∙ none)
comes_on n m w passed here there e same (inr on) = inr (λ x. by_next false n w (passed ++ x) (Some m) e ∙ on x)

stop_by : (n : ℕ) (w : Word) (ws : List Word) → ((m : ℕ) → Stop m ws) → (o : Option ℕ) → next_level false n (kind_at w) ≡ o → Stop n (w ∷ ws)
stop_by n w ws go None e = record { passed = []; whole = sym (by_next false n w ws None e); comes = at_bottom n w (opening false n (w ∷ ws)) e }
stop_by n w ws go (Some m) e =
    let p = go m in
    let on = by_next false n w ws (Some m) e in
    record {
      passed = w ∷ p.passed;
      whole = ap (λ (v : List Word). w ∷ v) p.whole ∙ ap (λ (v : List Word). w ∷ (p.passed ++ v)) (sym on);
      comes = comes_on n m w p.passed (opening false n (w ∷ ws)) (opening false m ws) e on p.comes;
    }

pub stop_at : (ws : List Word) (n : ℕ) → Stop n ws
stop_at [] n = record { passed = []; whole = refl; comes = inl refl }
stop_at (w ∷ ws) n = stop_by n w ws (λ m. stop_at ws m) (next_level false n (kind_at w)) refl

-- the way back to the bracket, and the way to the last semicolon beside what was passed
record Walk (n : ℕ) (back : List Word) : Type 0 where
  passed : List Word
  middle : List Word
  whole : back ≡ passed ++ (middle ++ opening false n back)
  inner : opening true n back ≡ middle ++ opening false n back
  comes : Comes n (passed ++ middle) (opening false n back)
  parted : (middle ≡ []) ⊎ ((s : Spot) × (m : List Word) × (middle ≡ mark Semi s ∷ m))

-- the ways differ at a semicolon alone
differ : (c o s : Bool) (n : ℕ) → (cond c (Some (suc n)) (cond o (outer n) (cond s None (Some n))) ≡ cond c (Some (suc n)) (cond o (outer n) (Some n)))
    ⊎ ((cond c (Some (suc n)) (cond o (outer n) (cond s None (Some n))) ≡ None) × (cond c (Some (suc n)) (cond o (outer n) (Some n)) ≡ Some n) × (s ≡ true))
differ true o s n = inl refl
differ false true s n = inl refl
differ false false true n = inr (refl, refl, refl)
differ false false false n = inl refl

walk_semi : (n : ℕ) (w : Word) (ws : List Word) → Stop n ws → next_level true n (kind_at w) ≡ None → next_level false n (kind_at w) ≡ Some n → (s : Spot) × (w ≡ mark Semi s) → Walk n (w ∷ ws)
walk_semi n w ws p t f semi =
    let on = by_next false n w ws (Some n) f in
    let back : w ∷ ws ≡ w ∷ (p.passed ++ opening false n (w ∷ ws)) = ap (λ (v : List Word). w ∷ v) p.whole ∙ ap (λ (v : List Word). w ∷ (p.passed ++ v)) (sym on) in
    record {
      passed = [];
      middle = w ∷ p.passed;
      whole = back;
      inner = by_next true n w ws None t ∙ back;
      comes = comes_on n n w p.passed (opening false n (w ∷ ws)) (opening false n ws) f on p.comes;
      parted = inr (semi.0, p.passed, ap (λ (v : Word). v ∷ p.passed) semi.1);
    }

walk_by : (n : ℕ) (w : Word) (ws : List Word) → ((m : ℕ) → Walk m ws) → (o : Option ℕ) → next_level true n (kind_at w) ≡ o → next_level false n (kind_at w) ≡ o → Walk n (w ∷ ws)
walk_by n w ws go None t f = record {
  passed = [];
  middle = [];
  whole = sym (by_next false n w ws None f);
  inner = by_next true n w ws None t ∙ sym (by_next false n w ws None f);
  comes = at_bottom n w (opening false n (w ∷ ws)) f;
  parted = inl refl;
}
walk_by n w ws go (Some m) t f =
    let p = go m in
    let on = by_next false n w ws (Some m) f in
    record {
      passed = w ∷ p.passed;
      middle = p.middle;
      whole = ap (λ (v : List Word). w ∷ v) p.whole ∙ ap (λ (v : List Word). w ∷ (p.passed ++ (p.middle ++ v))) (sym on);
      inner = by_next true n w ws (Some m) t ∙ p.inner ∙ ap (λ (v : List Word). p.middle ++ v) (sym on);
      comes = comes_on n m w (p.passed ++ p.middle) (opening false n (w ∷ ws)) (opening false m ws) f on p.comes;
      parted = p.parted;
    }

walk_at : (ws : List Word) (n : ℕ) → Walk n ws
walk_at [] n = record { passed = []; middle = []; whole = refl; inner = refl; comes = inl refl; parted = inl refl }
walk_at (w ∷ ws) n = step (λ m. walk_at ws m) (differ (closes (kind_at w)) (opens (kind_at w)) (separates n (kind_at w)) n)
  where
    step : ((m : ℕ) → Walk m ws)
        → (next_level true n (kind_at w) ≡ next_level false n (kind_at w)) ⊎ ((next_level true n (kind_at w) ≡ None) × (next_level false n (kind_at w) ≡ Some n) × (separates n (kind_at w) ≡ true)) → Walk n (w ∷ ws)
    step go (inl same) = walk_by n w ws go (next_level false n (kind_at w)) same refl
    step go (inr (t, f, s)) = walk_semi n w ws (stop_at ws n) t f (semi_is w (and_parts _ _ s).1)

-- ---- the field

pub none_is : (ws : List Word) → none_left ws ≡ true → ws ≡ []
none_is [] e = refl
none_is (w ∷ ws) e = never e

type_sound : (ts : List Word) (o : Outcome (Read TypeTree)) → type 199 ts ≡ o → is_whole o ≡ true → (t : TypeTree) × HasType 199 ts t
type_sound ts (Err r) e whole = never whole
type_sound ts (Ok p) e whole =
    let all : (x : Read TypeTree) (r : List Word) → type 199 ts ≡ Ok (x, r) → r ≡ [] → HasType 199 ts x.tree = λ x r at none.
    let read : type 199 ts ≡ Ok (x, []) = at ∙ ap (λ (v : List Word). Ok (x, v)) none in
    let h = ((reads_types 199 (omega arith)).found ts x [] read).0.has in
    subst (λ (v : List Word). HasType 199 v x.tree) (take_all (length ts - 0) ts (omega arith)) h in
    (p.0.tree, all p.0 p.1 e (none_is p.1 whole))

named_sound : (ts : List Word) (o : Outcome (List Placed)) → Holds (λ ns rest. Names ns ts rest × (first (marked Comma) rest ≡ None)) (NameMissing ts) o → is_whole (and_then o (λ ns. type 199)) ≡ true → IsField ts
named_sound ts (Err r) h whole = never whole
named_sound ts (Ok p) h whole =
    let t = type_sound p.1 (type 199 p.1) refl whole in
    record { names = p.0; rest = p.1; type = t.0; named = h.holds.0; typed = t.1 }

field_sound : (ts : List Word) → is_whole (field ts) ≡ true → IsField ts
field_sound ts whole = named_sound ts (names ts) (names_hold ts) whole

-- ---- what the words are

parted_back : (middle : List Word) → (middle ≡ []) ⊎ ((s : Spot) × (m : List Word) × (middle ≡ mark Semi s ∷ m)) → IsParted (reverse middle)
parted_back middle (inl e) = inl (ap reverse e)
parted_back middle (inr (s, m, e)) = inr (reverse m, s, ap reverse e ∙ reverse-append (mark Semi s ∷ []) m)

-- the bracket is there
some_bracket : (back : List Word) → in_struct back ≡ true → back ≡ [] → ⊥
some_bracket back e none = never (ap in_struct (sym none) ∙ e)

closed_back : (passed middle bracket : List Word) → (bracket ≡ [] → ⊥) → Comes 0 (passed ++ middle) bracket → IsClosed (reverse middle ++ reverse passed)
closed_back passed middle bracket some (inl none) = absurd (some none)
closed_back passed middle bracket some (inr on) = λ back.
    ap (λ (v : List Word). opening false 0 (v ++ back)) (reverse-append (reverse middle) (reverse passed) ∙ ap (λ (v : List Word). v ++ reverse (reverse middle)) (reverse-reverse passed) ∙ ap (λ (v : List Word). passed ++ v) (reverse-reverse middle))
    ∙ on back

by_walk : (front : List Word) → Walk 0 (reverse front) → behind_field front (reverse front) ≡ true → IsBehindField front
by_walk front w e =
    let bracket = opening false 0 (reverse front) in
    let both = and_parts (in_struct bracket) (is_whole (field (drop (length (opening true 0 (reverse front))) front))) e in
    let at = braced bracket both.0 in
    let turned : front ≡ reverse (w.middle ++ bracket) ++ reverse w.passed = sym (reverse-reverse front) ∙ ap reverse w.whole ∙ reverse-append w.passed (w.middle ++ bracket) in
    let sides : reverse bracket ≡ reverse at.before ++ (mark Struct at.struct_spot ∷ (mark LBrace at.brace_spot ∷ [])) =
    ap reverse at.is ∙ reverse-append (mark LBrace at.brace_spot ∷ (mark Struct at.struct_spot ∷ [])) at.before in
    let long : length (opening true 0 (reverse front)) ≡ length (reverse (w.middle ++ bracket)) = ap length w.inner ∙ sym (length-reverse (w.middle ++ bracket)) in
    let left : drop (length (opening true 0 (reverse front))) front ≡ reverse w.passed =
    ap (λ (n : ℕ). drop n front) long ∙ ap (drop (length (reverse (w.middle ++ bracket)))) turned ∙ drop-append_seam (reverse (w.middle ++ bracket)) (reverse w.passed) in
    record {
      before = reverse at.before;
      struct_spot = at.struct_spot;
      brace_spot = at.brace_spot;
      middle = reverse w.middle;
      last = reverse w.passed;
      whole = turned
          ∙ ap (λ (v : List Word). v ++ reverse w.passed) (reverse-append w.middle bracket ∙ ap (λ (v : List Word). v ++ reverse w.middle) sides)
          ∙ append_assoc (reverse at.before ++ (mark Struct at.struct_spot ∷ (mark LBrace at.brace_spot ∷ []))) (reverse w.middle) (reverse w.passed)
          ∙ append_assoc (reverse at.before) (mark Struct at.struct_spot ∷ (mark LBrace at.brace_spot ∷ [])) (reverse w.middle ++ reverse w.passed);
      closed = closed_back w.passed w.middle bracket (some_bracket bracket both.0) w.comes;
      parted = parted_back w.middle w.parted;
      field = field_sound (reverse w.passed) (ap (λ (v : List Word). is_whole (field v)) (sym left) ∙ both.1);
    }

if_tag : (b : Bool) → form_if b Tag ≡ Some Tag → b ≡ true
if_tag true e = refl
if_tag false e = absurd cc

tag_is : (front : List Word) (k : TokenKind) → form_by_kind front k ≡ Some Tag → (k ≡ kind.Str) × (behind_field front (reverse front) ≡ true)
tag_is front kind.Str e = (refl, if_tag (behind_field front (reverse front)) e)
tag_is front _ e = absurd cc

is_behind : (front : List Word) → IsBehindField front → behind_field front (reverse front) ≡ true
is_behind front b = subst (λ (v : List Word). behind_field v (reverse v) ≡ true) (sym b.whole) (behind b.before b.struct_spot b.brace_spot b.middle b.last b.closed b.parted b.field)

is_tag : (front : List Word) (k : TokenKind) → k ≡ kind.Str → behind_field front (reverse front) ≡ true → form_by_kind front k ≡ Some Tag
is_tag front k e b = ap (form_by_kind front) e ∙ ap (λ (x : Bool). form_if x Tag) b

pub tags_exactly : TagsExactly
tags_exactly front w = (
  λ e. (let t = tag_is front (kind_at w) e in (t.0, by_walk front (walk_at (reverse front) 0) t.1)),
  λ h. is_tag front (kind_at w) h.0 (is_behind front h.1),
)
