use Rattle.std.proofs.Common.{◌≡◌, Some, rules, pos}
use Rattle.degree_numbers.specs.declared.types.Kind.TheVariants.{Noise}
use Rattle.degree_numbers.specs.Types.{kind_of, type_degree}
use Rattle.large_trees.proofs.RoundLines.{noise_least}
use Rattle.large_trees.proofs.rounds.noise_line.Goals as goal

pub returns-then-eq : goal.returns-then-eq
returns-then-eq c =
    let noise : kind_of c.args.eq.now.types c.args.kind ≡ Some Noise = search rules in
    let is : c.of.result ≡ record { a = pos 0; b = (type_degree c.args.eq.now.types c.args.kind).b } = search rules in
    noise_least c.args.eq.now c.args.kind c.of.result c.new-line.result.cells c.put.new.self.cells c.new-line.ensures noise is c.put.ensures
