use Rattle.std.proofs.Common.{◌≡◌, ◌++◌, cond, map, drop}
use Rattle.symbol_polys.specs.Derivatives.{without}
use Rattle.symbol_polys.specs.View.{symbol_of}
use Rattle.symbol_polys.proofs.derivatives.without.Given as goal

abbrev pub invariant-loop-s : goal.invariant-loop-s
invariant-loop-s l =
    let later = map symbol_of (drop l.s-index l.symbols) in
    map symbol_of l.rest ++ cond l.found later (without (symbol_of l.by) later) ≡ without (symbol_of l.by) (map symbol_of l.symbols)
