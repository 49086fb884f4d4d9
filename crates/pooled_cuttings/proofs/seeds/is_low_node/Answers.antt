use Rattle.std.proofs.Common.{◌≡◌, ◌∙◌, ℤ, ap, arith, pos, not}
use Rattle.std.proofs.lemmas.Int.{ints}
use Rattle.std.specs.Ordering.{int_cmp, is_gt}
use Rattle.degree_numbers.specs.declared.degree.Degree.{Degree}
use Rattle.plain_trees.specs.Plain.{bare}
use Rattle.plain_trees.specs.Degree.{degree_of}
use Rattle.pooled_cuttings.proofs.Degrees.{low_between}
use Rattle.pooled_cuttings.proofs.seeds.is_low_node.Goals as goal
use mir.Val.{to_z}
use mir.Syntax.{w64}

pub returns : goal.returns
returns c =
    let node = ap (λ (x : Degree). x.a) c.node_degree.ensures in
    low_between c.is_gt.result c.cmp.result c.node_degree.result.a (degree_of c.args.types.now (bare c.args.a.now.entries)).a (to_z w64 c.args.bounds.now.excess) (pos c.args.bounds.now.excess) c.is_gt.ensures c.cmp.ensures
    node (omega (arith, ints, c.requires.excess))
