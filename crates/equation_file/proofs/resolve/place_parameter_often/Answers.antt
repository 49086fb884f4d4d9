use Rattle.std.proofs.Common.{◌+◌, ◌-◌, sym, ◌∙◌, ap}
use Rattle.std.specs.Ordering.{nat_cmp}
use Rattle.equation_file.specs.Products.{placed_often}
use Rattle.equation_file.proofs.PlacedLemmas.{often_step}
use Rattle.equation_file.proofs.resolve.place_parameter_often.Goals as goal

pub loop-preserved : goal.loop-preserved
loop-preserved c =
    ap (λ xs. placed_often (c.args.times - (c.loop.counter + 1)) nat_cmp xs c.args.parameter) c.in_ok-place_parameter.ensures
    ∙ sym (often_step c.args.times c.loop.counter nat_cmp c.loop.parameters.items c.args.parameter c.loop-test.true) ∙ c.loop.invariant
