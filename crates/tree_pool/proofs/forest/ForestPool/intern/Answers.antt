use Rattle.std.proofs.lemmas.Option.{slice_get_within}
use Rattle.tree_pool.specs.Forests.{numbers}
use Rattle.tree_pool.proofs.Ids.{forest_found, fits_with}
use Rattle.tree_pool.proofs.forest.ForestPool.intern.Goals as goal

pub returns-in_err-intern_sorted-clause-fits : goal.returns-in_err-intern_sorted-clause-fits
returns-in_err-intern_sorted-clause-fits c = rw c.in_err-intern_sorted.ensures.unchanged c.requires.fits

pub returns-clause-known : goal.returns-clause-known
returns-clause-known c = slice_get_within c.intern_sorted.new.self c.in_ok-intern_sorted.field-0.0 (numbers c.as_slice.result.now) c.in_ok-intern_sorted.ensures.there

pub returns-clause-forest : goal.returns-clause-forest
returns-clause-forest c =
    rw (forest_found c.intern_sorted.new.self c.in_ok-intern_sorted.field-0.0 (numbers c.as_slice.result.now) c.in_ok-intern_sorted.ensures.there, c.as_slice.ensures.value) c.in_ok-sorted.ensures

pub returns-clause-grown : goal.returns-clause-grown
returns-clause-grown c = rw (forest_found c.intern_sorted.new.self c.in_ok-intern_sorted.field-0.0 (numbers c.as_slice.result.now) c.in_ok-intern_sorted.ensures.there) c.in_ok-intern_sorted.ensures.grown

pub returns-clause-fits : goal.returns-clause-fits
returns-clause-fits c =
    fits_with c.args.self.now c.intern_sorted.new.self c.args.pool.now (numbers c.args.ids.now) (numbers c.as_slice.result.now) c.requires.fits c.requires.known
    (rw c.as_slice.ensures.value c.in_ok-sorted.ensures) c.in_ok-intern_sorted.ensures.grown
