use Rattle.symbol_polys.specs.View.{terms_of}
use Rattle.tree_pool.specs.Content.{tree_over}
use Rattle.elementary_diff.proofs.KnownSymbols.{over-poly}
use Rattle.elementary_diff.proofs.known_symbols.symbols_are_known.Goals as goal

pub returns : goal.returns
returns c =
    over-poly c.args.eq.now c.args.pool.now c.args.kernel.0 c.args.id.0 (tree_over c.args.pool.now.trees c.node.result.0.entries c.node.result.1.now) c.args.f.now.mass (terms_of c.args.f.now.terms) c.requires.equation c.requires.types
    c.node.ensures.tree c.node.ensures.kept c.requires.poly c.requires.coefficients (rw c.as_slice.ensures at c.read_terms.ensures)
