-- A desk on which types are spelled: all its ids are of the table.
use Rattle.std.specs.Prelude.{All, Option, Some, None, IfSome}
use Rattle.ui_types.specs.declared.id.TypeId.{TypeId}
use Rattle.ui_types.specs.declared.part.Term.{Term}
use Rattle.ui_types.specs.Table.{Table, IsId, AreIds, Grows}
use Rattle.ui_types.specs.Trees.{IsId-grows, AreIds-grows, All_by-grows}
use Rattle.ui_set_tests.specs.declared.spelling.Desk.{Desk}

pub record IsDesk (table : Table) (d : Desk) : Type 0 where
  pub stack : AreIds table d.stack.items
  pub terms : All (λ t. IsId table t.ty) d.terms.items
  pub unions : AreIds table d.unions.items
  pub sig : IfSome d.sig (IsId table)

sig-grows : {old new : Table} (o : Option TypeId) → Grows old new → IfSome o (IsId old)
    → IfSome o (IsId new)
sig-grows None g h = tt
sig-grows (Some id) g h = IsId-grows id g h

pub IsDesk-grows : {old new : Table} (d : Desk) → Grows old new → IsDesk old d → IsDesk new d
IsDesk-grows {old} {new} d g h = record {
  stack = AreIds-grows d.stack.items g h.stack;
  terms = All_by-grows (λ (t : Term). t.ty) d.terms.items g h.terms;
  unions = AreIds-grows d.unions.items g h.unions;
  sig = sig-grows d.sig g h.sig;
}

pub ruleset desks = (IsDesk-grows)
