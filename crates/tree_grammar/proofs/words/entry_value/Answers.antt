use Rattle.std.proofs.Common.{sym, ◌∙◌}
use Rattle.tree_grammar.proofs.Values.{value_some, value_none}
use Rattle.tree_grammar.proofs.words.entry_value.Goals as goal

pub returns-in-Some-clause-value : goal.returns-in-Some-clause-value
returns-in-Some-clause-value c = c.min.ensures ∙ value_some c.args.text.now (c.in-Some.number, c.in-Some.field-0-1.now) (sym c.in-Some.ensures.value)

pub returns-in-None-clause-value : goal.returns-in-None-clause-value
returns-in-None-clause-value c = value_none c.args.text.now (sym c.in-None.ensures.value)
