use Rattle.pooled_cuttings.specs.MadeOver.{IsGraft}
use Rattle.pooled_cuttings.proofs.Lookups.{grafts_with}
use Rattle.pooled_cuttings.proofs.Members.{in_all}
use Rattle.pooled_cuttings.proofs.once.grafted_once.Goals as goal

pub returns-in-Some-clause-tree : goal.returns-in-Some-clause-tree
returns-in-Some-clause-tree c =
    (in_all (IsGraft c.args.grove.now.pool c.args.kind.0 c.args.p.entries) c.args.grafts.now ((c.args.child.0, c.args.rest.0), c.in-Some.id) c.requires.grafts c.in-Some.ensures).tree

pub returns-clause-grafts : goal.returns-clause-grafts
returns-clause-grafts c =
    grafts_with c.args.grove.now c.grafted.new.self c.args.kind.0 c.args.p.entries c.args.grafts.now c.push.new.self c.args.child.0 c.args.rest.0 c.in_ok-id.id.0
    c.in_ok-id.ensures.grown c.requires.grafts c.requires.child c.requires.rest c.in_ok-id.ensures.tree c.in_ok-push.ensures.pushed
