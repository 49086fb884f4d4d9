use Rattle.std.proofs.Common.{◌<◌, ◌≤ℤ◌, pos, length, arith, rules}
use Rattle.std.proofs.lemmas.Int.{ints, to_z-of_z}
use Rattle.large_trees.specs.Lines.{most_excess}
use Rattle.large_trees.proofs.LineLaws.{put_joins}
use Rattle.large_trees.proofs.line.Line.put.Goals as goal

pub returns-then-value-le-MOST_EXCESS : goal.returns-then-value-le-MOST_EXCESS
returns-then-value-le-MOST_EXCESS c =
    let within : c.args.class < length c.args.self.now.cells = search rules in
    let few : c.args.value.a ≤ℤ pos most_excess = grind (arith, ints, to_z-of_z) in
    put_joins c.args.self.now.cells c.args.class c.args.value c.lesser.result within c.lesser.ensures few
