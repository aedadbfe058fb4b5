-- What is read where an expression is a type too.
use Rattle.std.proofs.Common.{◌≡◌, true, List, Option, Some, None, Ok, Err}
use Rattle.ui_grammar.specs.Word.{Word}
use Rattle.ui_tree.specs.Tree.{TypeTree, Tree}
use Rattle.ui_parse.specs.declared.fault.ParseError.{ParseError}
use Rattle.ui_parse.specs.declared.fault.ParseError.TheVariants.{NoMemory, Fault}
use Rattle.ui_parse.specs.Reader.{Outcome}
use Rattle.ui_parse.specs.View.{Reads}
use Rattle.ui_syntax.specs.Cover.{Read}
use Rattle.ui_syntax.specs.Exprs.{is_some}
use Rattle.ui_ptype.specs.Parts.{covered}
use Rattle.ui_ptype.specs.Seen.{see_type}

no_memory : {A X : Type 0} (see : X → A) (o : Outcome A) (left : List Word) → Reads see o (Err NoMemory) left
no_memory see (Ok p) left = tt
no_memory see (Err ws) left = tt

-- only want of memory is in the way of a type
pub covered_fault : {A X : Type 0} (see : X → A) (o : Outcome A) (left : List Word) (x : Read Tree) (t : Option TypeTree) (ws m : List Word) (e : ParseError) → is_some t ≡ true
    → Reads see_type (covered x t ws) (Err e) m → Reads see o (Err e) left
covered_fault see o left x None ws m e some h = absurd cc
covered_fault see o left x (Some t) ws m NoMemory some h = no_memory see o left
covered_fault see o left x (Some t) ws m Fault some h = absurd h
