-- The readers of a budget, where it is none, and where it is one above the room of the parts.
use Rattle.std.proofs.Common.{◌≡◌, ℕ, zero, suc, ◌-◌, List, Option, Result, Ok, Err, refl, sym, ap, subst, arith}
use Rattle.ui_grammar.specs.Word.{Word}
use Rattle.ui_parse.specs.declared.fault.ParseError.{ParseError}
use Rattle.ui_parse.specs.View.{Reads}
use Rattle.ui_ptype.specs.declared.sub.Sub.{Sub}
use Rattle.ui_ptype.specs.declared.sub.TypeSub.{TypeSub}
use Rattle.ui_ptype.specs.declared.sub.Subs.{Subs}
use Rattle.ui_ptype.specs.declared.nested.Ask.{Ask}
use Rattle.ui_ptype.specs.declared.nested.Ask.TheVariants as ask
use Rattle.ui_ptype.specs.declared.nested.Got.{Got}
use Rattle.ui_ptype.specs.declared.nested.Got.TheVariants.{Level, MaybeType, Braces}
use Rattle.ui_ptype.specs.Asked.{asked, see_got}
use Rattle.ui_ptype.specs.Seen.{see, see_maybe, see_all}
use Rattle.ui_ptype.proofs.AskedReads.{level_given, type_given, braces_given}
use Rattle.ui_parse.proofs.ListLaws.{reads_fault}
use Rattle.ui_syntax.specs.declared.site.Site.{Site}
use Rattle.ui_syntax.specs.declared.site.TypeSite.{TypeSite}
use Rattle.ui_syntax.specs.Types.{Nested, maybe_type, some}
use Rattle.ui_syntax.specs.Exprs.{level, braces}
use Rattle.ui_syntax.specs.Read.{readers, next, nothing}

readers_none : (b : ℕ) → b ≡ 0 → readers b ≡ nothing
unfolding readers
readers_none zero e = refl
readers_none (suc d) e = absurd (omega (arith, e))

readers_next : (room : ℕ) → readers (suc room) ≡ next room (readers room)
unfolding readers
readers_next room = refl

-- ---- the readers of trees, by those of their parts

reads_level : (room : ℕ) (s : Site) (least : ℕ) (ws : List Word) (r : Result Sub ParseError) (left : List Word) → Reads see (level room (readers room) s least ws) r left → Reads see ((readers (suc room)).level s least ws) r left
reads_level room s least ws r left h = subst (λ (n : Nested). Reads see (n.level s least ws) r left) (sym (readers_next room)) h

reads_type : (room : ℕ) (p : TypeSite) (ws : List Word) (r : Result (Option TypeSub) ParseError) (left : List Word) → Reads see_maybe (maybe_type room (readers room) p ws) r left → Reads see_maybe ((readers (suc room)).maybe_type p ws) r left
reads_type room p ws r left h = subst (λ (n : Nested). Reads see_maybe (n.maybe_type p ws) r left) (sym (readers_next room)) h

reads_braces : (room : ℕ) (ws : List Word) (r : Result Subs ParseError) (left : List Word) → Reads see_all (braces room (readers room) ws) r left → Reads see_all ((readers (suc room)).braces ws) r left
reads_braces room ws r left h = subst (λ (n : Nested). Reads see_all (n.braces ws) r left) (sym (readers_next room)) h

-- ---- what is asked for, by the readers of its parts

pub asked_level : (room : ℕ) (s : Site) (least : ℕ) (ws left : List Word) (x : Sub) → Reads see (level room (readers room) s least ws) (Ok x) left → Reads see_got (asked (suc room) (ask.Level s least) ws) (Ok (Level x)) left
asked_level room s least ws left x h = level_given (suc room) s least ws left x (reads_level room s least ws (Ok x) left h)

pub asked_level_fault : (room : ℕ) (s : Site) (least : ℕ) (ws left : List Word) (e : ParseError) → Reads see (level room (readers room) s least ws) (Err e) left → Reads see_got (asked (suc room) (ask.Level s least) ws) (Err e) left
asked_level_fault room s least ws left e h = reads_fault see see_got ((readers (suc room)).level s least ws) _ e left (reads_level room s least ws (Err e) left h)

pub asked_type : (room : ℕ) (p : TypeSite) (ws left : List Word) (x : Option TypeSub) → Reads see_maybe (maybe_type room (readers room) p ws) (Ok x) left → Reads see_got (asked (suc room) (ask.MaybeType p) ws) (Ok (MaybeType x)) left
asked_type room p ws left x h = type_given (suc room) p ws left x (reads_type room p ws (Ok x) left h)

pub asked_type_fault : (room : ℕ) (p : TypeSite) (ws left : List Word) (e : ParseError) → Reads see_maybe (maybe_type room (readers room) p ws) (Err e) left → Reads see_got (asked (suc room) (ask.MaybeType p) ws) (Err e) left
asked_type_fault room p ws left e h = reads_fault see_maybe see_got ((readers (suc room)).maybe_type p ws) _ e left (reads_type room p ws (Err e) left h)

pub asked_braces : (room : ℕ) (ws left : List Word) (x : Subs) → Reads see_all (braces room (readers room) ws) (Ok x) left → Reads see_got (asked (suc room) ask.Braces ws) (Ok (Braces x)) left
asked_braces room ws left x h = braces_given (suc room) ws left x (reads_braces room ws (Ok x) left h)

pub asked_braces_fault : (room : ℕ) (ws left : List Word) (e : ParseError) → Reads see_all (braces room (readers room) ws) (Err e) left → Reads see_got (asked (suc room) ask.Braces ws) (Err e) left
asked_braces_fault room ws left e h = reads_fault see_all see_got ((readers (suc room)).braces ws) _ e left (reads_braces room ws (Err e) left h)

-- ---- a budget is one above the room of the parts

one_above : (b : ℕ) → (b ≡ 0 → ⊥) → suc (b - 1) ≡ b
one_above b some = omega (arith, some)

pub asked_above : (b : ℕ) (ask : Ask) (ws left : List Word) (r : Result Got ParseError) → (b ≡ 0 → ⊥) → Reads see_got (asked (suc (b - 1)) ask ws) r left → Reads see_got (asked b ask ws) r left
asked_above b ask ws left r some h = subst (λ (k : ℕ). Reads see_got (asked k ask ws) r left) (one_above b some) h

-- ---- nothing is read without a budget

pub no_budget : (b : ℕ) (ask : Ask) (ws left : List Word) (r : Result Got ParseError) → b ≡ 0 → left ≡ ws → ((us : List Word) → Reads see_got (asked 0 ask us) r us) → Reads see_got (asked b ask ws) r left
no_budget b ask ws left r e f h = subst (λ (k : ℕ). Reads see_got (asked k ask ws) r left) (sym e) (subst (λ (v : List Word). Reads see_got (asked 0 ask ws) r v) (sym f) (h ws))
