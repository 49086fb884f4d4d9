use Rattle.std.proofs.Common.{[]}
use Rattle.plain_trees.specs.Plain.{bare}
use Rattle.pooled_cuttings.proofs.Groves.{grove_trans, holds_forest_grown, holds_grown}
use Rattle.pooled_cuttings.proofs.MadeKeys.{open_key_held}
use Rattle.pooled_cuttings.proofs.seeds.seed_key.Goals as goal

pub returns-clause-means : goal.returns-clause-means
returns-clause-means c =
    let g = c.args.grove.now in
    let h = c.node.new.self in
    let k = c.node-2.new.self in
    (open_key_held k c.args.none c.in_ok-part.part c.in_ok-quotient.quotient [] (bare c.args.a.now.entries) (bare c.args.rest.now.entries)
    (holds_forest_grown g k c.args.none.0 [] c.laws.ensures (grove_trans g h k c.in_ok-part.ensures.grown c.in_ok-quotient.ensures.grown) c.requires.none)
    (holds_grown h k c.in_ok-part.part.0 (bare c.args.a.now.entries) c.in_ok-quotient.ensures.grown c.in_ok-part.ensures.tree)
    c.in_ok-quotient.ensures.tree).1
