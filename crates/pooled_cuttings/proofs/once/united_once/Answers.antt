use Rattle.pooled_cuttings.specs.MadeOver.{IsUnion}
use Rattle.pooled_cuttings.proofs.Lookups.{unions_with}
use Rattle.pooled_cuttings.proofs.Members.{in_all}
use Rattle.pooled_cuttings.proofs.once.united_once.Goals as goal

pub returns-in-Some-clause-forest : goal.returns-in-Some-clause-forest
returns-in-Some-clause-forest c =
    (in_all (IsUnion c.args.grove.now) c.args.unions.now ((c.args.f.0, c.args.g.0), c.in-Some.h) c.requires.unions c.in-Some.ensures).forest

pub returns-clause-unions : goal.returns-clause-unions
returns-clause-unions c =
    unions_with c.args.grove.now c.united.new.self c.args.unions.now c.push.new.self c.args.f.0 c.args.g.0 c.in_ok-h.h.0 c.laws.ensures
    c.in_ok-h.ensures.grown c.requires.unions c.requires.known_f c.requires.known_g c.in_ok-h.ensures.forest c.in_ok-push.ensures.pushed
