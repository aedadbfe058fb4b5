-- What a function value gives is of the kind that it is asked for, and reads as the reader of that kind.
use Rattle.std.proofs.Common.{◌≡◌, ℕ, List, Option, Ok, Err, refl, sym, ap, ◌∙◌}
use Rattle.ui_tree.specs.Tree.{TypeTree, Tree}
use Rattle.ui_grammar.specs.Word.{Word}
use Rattle.ui_parse.specs.declared.fault.ParseError.{ParseError}
use Rattle.ui_parse.specs.declared.fault.ParseError.TheVariants.{NoMemory, Fault}
use Rattle.ui_parse.specs.Reader.{Outcome, and_then, pure}
use Rattle.ui_parse.specs.View.{Reads}
use Rattle.ui_syntax.specs.declared.site.Site.{Site}
use Rattle.ui_syntax.specs.declared.site.TypeSite.{TypeSite}
use Rattle.ui_syntax.specs.Cover.{Read}
use Rattle.ui_syntax.specs.Types.{Listed}
use Rattle.ui_syntax.specs.Read.{readers}
use Rattle.ui_ptype.specs.declared.sub.Sub.{Sub}
use Rattle.ui_ptype.specs.declared.sub.TypeSub.{TypeSub}
use Rattle.ui_ptype.specs.declared.sub.Subs.{Subs}
use Rattle.ui_ptype.specs.declared.nested.Ask.TheVariants as ask
use Rattle.ui_ptype.specs.declared.nested.Got.{Got}
use Rattle.ui_ptype.specs.declared.nested.Got.TheVariants.{Level, MaybeType, Braces}
use Rattle.ui_ptype.specs.Asked.{Part, level, maybe_type, braces, see_got, asked, IsLevel, IsMaybeType, AreBraces}
use Rattle.ui_ptype.specs.Seen.{see, see_maybe, see_all}

-- ---- of the kind that was asked for

type_or_level : (o : Option (Read TypeTree)) (t : Read Tree) → maybe_type o ≡ level t → ⊥
type_or_level o t e = absurd cc

braces_or_level : (l : Listed Tree) (t : Read Tree) → braces l ≡ level t → ⊥
braces_or_level l t e = absurd cc

braces_or_type : (l : Listed Tree) (o : Option (Read TypeTree)) → braces l ≡ maybe_type o → ⊥
braces_or_type l o e = absurd cc

level_is : (o : Outcome (Read Tree)) (g : Got) (left : List Word) → Reads see_got (and_then o (λ t. pure (level t))) (Ok g) left → IsLevel g
level_is (Ok p) (Level s) left h = tt
level_is (Ok p) (MaybeType s) left h = absurd (type_or_level (see_maybe s) p.0 h.0)
level_is (Ok p) (Braces s) left h = absurd (braces_or_level (see_all s) p.0 h.0)
level_is (Err ws) g left h = absurd h

type_is : (o : Outcome (Option (Read TypeTree))) (g : Got) (left : List Word) → Reads see_got (and_then o (λ t. pure (maybe_type t))) (Ok g) left → IsMaybeType g
type_is (Ok p) (Level s) left h = absurd (type_or_level p.0 (see s) (sym h.0))
type_is (Ok p) (MaybeType s) left h = tt
type_is (Ok p) (Braces s) left h = absurd (braces_or_type (see_all s) p.0 h.0)
type_is (Err ws) g left h = absurd h

braces_are : (o : Outcome (Listed Tree)) (g : Got) (left : List Word) → Reads see_got (and_then o (λ t. pure (braces t))) (Ok g) left → AreBraces g
braces_are (Ok p) (Level s) left h = absurd (braces_or_level p.0 (see s) (sym h.0))
braces_are (Ok p) (MaybeType s) left h = absurd (braces_or_type p.0 (see_maybe s) (sym h.0))
braces_are (Ok p) (Braces s) left h = tt
braces_are (Err ws) g left h = absurd h

pub is_level : (b : ℕ) (s : Site) (least : ℕ) (ws left : List Word) (g : Got) → Reads see_got (asked b (ask.Level s least) ws) (Ok g) left → IsLevel g
is_level b s least ws left g h = level_is ((readers b).level s least ws) g left h

pub is_type : (b : ℕ) (p : TypeSite) (ws left : List Word) (g : Got) → Reads see_got (asked b (ask.MaybeType p) ws) (Ok g) left → IsMaybeType g
is_type b p ws left g h = type_is ((readers b).maybe_type p ws) g left h

pub are_braces : (b : ℕ) (ws left : List Word) (g : Got) → Reads see_got (asked b ask.Braces ws) (Ok g) left → AreBraces g
are_braces b ws left g h = braces_are ((readers b).braces ws) g left h

-- ---- as its reader reads

no_memory : {A X : Type 0} (see : X → A) (o : Outcome A) (left : List Word) → Reads see o (Err NoMemory) left
no_memory see (Ok p) left = tt
no_memory see (Err ws) left = tt

module _ {A X : Type 0} (see_it : X → A) (part : A → Part) (got : X → Got) (same : (x : X) → see_got (got x) ≡ part (see_it x)) (apart : (a b : A) → part a ≡ part b → a ≡ b) where
  part_reads : (o : Outcome A) (g : Got) (x : X) (left : List Word) → g ≡ got x → Reads see_got (and_then o (λ a. pure (part a))) (Ok g) left → Reads see_it o (Ok x) left
  part_reads (Ok p) g x left is h = (apart (see_it x) p.0 (sym (same x) ∙ ap see_got (sym is) ∙ h.0), h.1)
  part_reads (Err ws) g x left is h = absurd h

  part_fault : (o : Outcome A) (e : ParseError) (left : List Word) → Reads see_got (and_then o (λ a. pure (part a))) (Err e) left → Reads see_it o (Err e) left
  part_fault o NoMemory left h = no_memory see_it o left
  part_fault (Ok p) Fault left h = absurd h
  part_fault (Err ws) Fault left h = h

  part_given : (o : Outcome A) (x : X) (left : List Word) → Reads see_it o (Ok x) left → Reads see_got (and_then o (λ a. pure (part a))) (Ok (got x)) left
  part_given (Ok p) x left h = (same x ∙ ap part h.0, h.1)
  part_given (Err ws) x left h = absurd h

same_level : (a b : Read Tree) → level a ≡ level b → a ≡ b
same_level a b e = cc

same_type : (a b : Option (Read TypeTree)) → maybe_type a ≡ maybe_type b → a ≡ b
same_type a b e = cc

same_braces : (a b : Listed Tree) → braces a ≡ braces b → a ≡ b
same_braces a b e = cc

pub level_read : (b : ℕ) (s : Site) (least : ℕ) (ws left : List Word) (g : Got) (x : Sub) → g ≡ Level x → Reads see_got (asked b (ask.Level s least) ws) (Ok g) left → Reads see ((readers b).level s least ws) (Ok x) left
level_read b s least ws left g x is h = part_reads see level Level (λ x. refl) same_level ((readers b).level s least ws) g x left is h

pub level_fault : (b : ℕ) (s : Site) (least : ℕ) (ws left : List Word) (e : ParseError) → Reads see_got (asked b (ask.Level s least) ws) (Err e) left → Reads see ((readers b).level s least ws) (Err e) left
level_fault b s least ws left e h = part_fault see level Level (λ x. refl) same_level ((readers b).level s least ws) e left h

pub type_read : (b : ℕ) (p : TypeSite) (ws left : List Word) (g : Got) (x : Option TypeSub) → g ≡ MaybeType x → Reads see_got (asked b (ask.MaybeType p) ws) (Ok g) left → Reads see_maybe ((readers b).maybe_type p ws) (Ok x) left
type_read b p ws left g x is h = part_reads see_maybe maybe_type MaybeType (λ x. refl) same_type ((readers b).maybe_type p ws) g x left is h

pub type_fault : (b : ℕ) (p : TypeSite) (ws left : List Word) (e : ParseError) → Reads see_got (asked b (ask.MaybeType p) ws) (Err e) left → Reads see_maybe ((readers b).maybe_type p ws) (Err e) left
type_fault b p ws left e h = part_fault see_maybe maybe_type MaybeType (λ x. refl) same_type ((readers b).maybe_type p ws) e left h

pub braces_read : (b : ℕ) (ws left : List Word) (g : Got) (x : Subs) → g ≡ Braces x → Reads see_got (asked b ask.Braces ws) (Ok g) left → Reads see_all ((readers b).braces ws) (Ok x) left
braces_read b ws left g x is h = part_reads see_all braces Braces (λ x. refl) same_braces ((readers b).braces ws) g x left is h

pub braces_fault : (b : ℕ) (ws left : List Word) (e : ParseError) → Reads see_got (asked b ask.Braces ws) (Err e) left → Reads see_all ((readers b).braces ws) (Err e) left
braces_fault b ws left e h = part_fault see_all braces Braces (λ x. refl) same_braces ((readers b).braces ws) e left h

-- ---- and what its reader reads is given

pub level_given : (b : ℕ) (s : Site) (least : ℕ) (ws left : List Word) (x : Sub) → Reads see ((readers b).level s least ws) (Ok x) left → Reads see_got (asked b (ask.Level s least) ws) (Ok (Level x)) left
level_given b s least ws left x h = part_given see level Level (λ x. refl) same_level ((readers b).level s least ws) x left h

pub type_given : (b : ℕ) (p : TypeSite) (ws left : List Word) (x : Option TypeSub) → Reads see_maybe ((readers b).maybe_type p ws) (Ok x) left → Reads see_got (asked b (ask.MaybeType p) ws) (Ok (MaybeType x)) left
type_given b p ws left x h = part_given see_maybe maybe_type MaybeType (λ x. refl) same_type ((readers b).maybe_type p ws) x left h

pub braces_given : (b : ℕ) (ws left : List Word) (x : Subs) → Reads see_all ((readers b).braces ws) (Ok x) left → Reads see_got (asked b ask.Braces ws) (Ok (Braces x)) left
braces_given b ws left x h = part_given see_all braces Braces (λ x. refl) same_braces ((readers b).braces ws) x left h
