use Rattle.std.proofs.Common.{List, sym, subst}
use Rattle.large_trees.specs.declared.line.Line.{Line as Cells}
use Rattle.large_trees.specs.Limits.{AreLimited}
use Rattle.large_trees.specs.Large.{HasLarge}
use Rattle.large_trees.proofs.LargeTrees.{found_large, large_found}
use Rattle.large_trees.proofs.large.has_large.Goals as goal

pub is_large_rule-requires-clause-cells : goal.is_large_rule-requires-clause-cells
is_large_rule-requires-clause-cells c = subst AreLimited (sym c.as_slice.ensures.value) c.in_ok-cells.ensures.limited

pub returns-clause-yes : goal.returns-clause-yes
returns-clause-yes c = λ yes.
    let found = subst (λ (xs : List Cells). HasLarge c.args.eq.now c.args.rule.now c.args.count xs c.unit.result) c.as_slice.ensures.value (c.is_large_rule.ensures.yes yes) in
    found_large c.args.eq.now c.args.rule.now c.requires.equation c.requires.rule c.requires.subcritical c.unit.result c.unit.ensures.unit c.args.count c.in_ok-cells.cells.items c.in_ok-cells.ensures.exact found

pub returns-clause-no : goal.returns-clause-no
returns-clause-no c = λ none t candidate below large.
    let found = large_found c.args.eq.now c.args.rule.now c.requires.equation c.requires.rule c.requires.subcritical c.unit.result c.unit.ensures.unit c.args.count c.in_ok-cells.cells.items t c.in_ok-cells.ensures.exact candidate below large in
    c.is_large_rule.ensures.no none (subst (λ (xs : List Cells). HasLarge c.args.eq.now c.args.rule.now c.args.count xs c.unit.result) (sym c.as_slice.ensures.value) found)
