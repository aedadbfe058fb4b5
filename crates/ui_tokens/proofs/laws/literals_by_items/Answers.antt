use Rattle.ui_tokens.proofs.LiteralValues.{strings_by_items, raw_strings_by_bodies, runes_by_items}
use Rattle.ui_tokens.proofs.laws.literals_by_items.Goals as goal

pub returns-clause-strings : goal.returns-clause-strings
returns-clause-strings c = strings_by_items

pub returns-clause-raw_strings : goal.returns-clause-raw_strings
returns-clause-raw_strings c = raw_strings_by_bodies

pub returns-clause-runes : goal.returns-clause-runes
returns-clause-runes c = runes_by_items
