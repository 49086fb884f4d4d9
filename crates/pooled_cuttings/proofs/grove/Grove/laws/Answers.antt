use Rattle.pooled_cuttings.proofs.grove.Grove.laws.Goals as goal

pub returns : goal.returns
returns c = rw (← c.self.view_is) (record { pooled = c.laws.ensures; distinct = c.laws-2.ensures; fits = c.self.invariant })
