use Rattle.std.proofs.Common.{◌+◌, ◌-◌, sym, ◌∙◌, ap}
use Rattle.equations.specs.EdgeTypes.{edge_type_order}
use Rattle.equation_file.specs.Products.{placed_often}
use Rattle.equation_file.proofs.PlacedLemmas.{often_step}
use Rattle.equation_file.proofs.resolve.place_factor_often.Goals as goal

pub loop-preserved : goal.loop-preserved
loop-preserved c =
    ap (λ xs. placed_often (c.args.times - (c.loop.counter + 1)) edge_type_order xs c.args.factor) c.in_ok-place_factor.ensures
    ∙ sym (often_step c.args.times c.loop.counter edge_type_order c.loop.factors.items c.args.factor c.loop-test.true) ∙ c.loop.invariant
