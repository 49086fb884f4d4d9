use Rattle.std.proofs.Common.{◌≡◌, ◌++◌, drop, flat_map, codes}
use Rattle.extraction_coproduct.specs.Finished.{grove_of}
use Rattle.twisted_antipode.specs.Known.{pairs_in}
use Rattle.tree_details.specs.Detail.{extraction_line, section}
use Rattle.tree_details.proofs.coproducts.put_extraction.Given as goal

abbrev pub invariant-loop-term : goal.invariant-loop-term
invariant-loop-term l =
    l.out.items ++ flat_map (extraction_line l.tables.pool.types) (pairs_in (grove_of l.tables) (drop l.term-index l.terms))
    ≡ l.fn.out.items ++ section (codes "extraction ") (extraction_line l.tables.pool.types) (pairs_in (grove_of l.tables) l.terms)
