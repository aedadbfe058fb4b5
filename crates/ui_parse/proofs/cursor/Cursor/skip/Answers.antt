use Rattle.ui_parse.proofs.cursor.Cursor.skip.Goals as goal

pub invariant_of-self : goal.invariant_of-self
invariant_of-self c = c.tail-self-inside.ensures.kept _ c.self.invariant
