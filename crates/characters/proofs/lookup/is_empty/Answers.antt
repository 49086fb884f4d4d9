use Rattle.std.proofs.Common.{◌≡◌, length, arith, sym, ◌∙◌}
use Rattle.std.proofs.lemmas.Bool.Decides.{nat_tests}
use Rattle.characters.proofs.Pooled.{empty_at, edges_at}
use Rattle.characters.proofs.lookup.is_empty.Goals as goal

pub returns-then-is_empty : goal.returns-then-is_empty
returns-then-is_empty c =
    let none : length c.node.result.1.now ≡ 0 = (let e = c.if-is_empty.ensures in grind (arith, nat_tests)) in
    empty_at c.args.pool.now c.args.id.0 c.node.result.0.entries c.node.result.1.now c.is_zero.result c.node.ensures.tree none c.is_zero.ensures

pub returns-else-is_empty : goal.returns-else-is_empty
returns-else-is_empty c =
    let some : length c.node.result.1.now ≡ 0 → ⊥ = (let e = c.if-is_empty.ensures in λ h. grind (arith, nat_tests)) in
    c.is_empty.ensures ∙ sym c.if-is_empty.ensures ∙ edges_at c.args.pool.now c.args.id.0 c.node.result.0.entries c.node.result.1.now c.node.ensures.tree some
