use Rattle.std.proofs.Common.{List, ap, ◌∙◌, arith}
use Rattle.tree_pool.specs.Content.{tree_at}
use Rattle.tree_pool.proofs.Walks.{root_at}
use Rattle.symbol_polys.specs.Polynomials.{size_of}
use Rattle.symbol_polys.specs.View.{terms_of}
use Rattle.symbol_polys.specs.declared.Term.{Term}
use Rattle.elementary_diff.specs.Differentials.{right_terms}
use Rattle.elementary_diff.specs.Masses.{root_mass}
use Rattle.elementary_diff.proofs.LowSides.{left-low}
use Rattle.elementary_diff.proofs.NodeWalks.{root-few}
use Rattle.elementary_diff.proofs.RootPolynomials.{left-mass, left-same, mass-within, memory-alone}
use Rattle.elementary_diff.proofs.root_factors.root_polynomial.Goals as goal

pub total_derivatives-requires-clause-few : goal.total_derivatives-requires-clause-few
total_derivatives-requires-clause-few c = root-few c.args.pool.now c.node.result.0.entries c.node.result.1.now c.node.ensures.kept.small.decorations

pub total_derivatives-requires-clause-low : goal.total_derivatives-requires-clause-low
total_derivatives-requires-clause-low c =
    rw (c.from_vec-left.ensures, c.in_ok-left_at_root.ensures.value) (left-low c.args.eq.now c.args.kernel.0 (tree_at c.args.pool.now c.args.id.0) c.requires.equation)

pub total_derivatives-requires-clause-fits : goal.total_derivatives-requires-clause-fits
total_derivatives-requires-clause-fits c =
    let side = right_terms c.args.eq.now c.args.kernel.0 in
    let root = root_at c.args.pool.now c.args.id.0 c.node.result.0.entries c.node.result.1.now c.node.ensures.tree in
    let value = ap (λ (us : List Term). terms_of us) c.from_vec-left.ensures ∙ c.in_ok-left_at_root.ensures.value in
    let mass = left-mass c.args.eq.now.types side (tree_at c.args.pool.now c.args.id.0) c.node.result.0.entries (terms_of c.from_vec-left.result) root value in
    omega (arith, mass, c.requires.fits)

pub returns-clause-coefficients : goal.returns-clause-coefficients
returns-clause-coefficients c =
    let side = right_terms c.args.eq.now c.args.kernel.0 in
    let root = root_at c.args.pool.now c.args.id.0 c.node.result.0.entries c.node.result.1.now c.node.ensures.tree in
    let value = ap (λ (us : List Term). terms_of us) c.from_vec-left.ensures ∙ c.in_ok-left_at_root.ensures.value in
    left-same c.args.eq.now.types side (tree_at c.args.pool.now c.args.id.0) c.node.result.0.entries (terms_of c.from_vec-left.result) root value c.sum_of_terms.result (terms_of c.in_ok-terms.terms) (terms_of c.as_slice.result.now)
    (ap (λ (us : List Term). terms_of us) c.as_slice.ensures) c.in_ok-terms.ensures.coefficients c.sum_of_terms.ensures.coefficients

pub returns-clause-mass : goal.returns-clause-mass
returns-clause-mass c =
    let side = right_terms c.args.eq.now c.args.kernel.0 in
    let tree = tree_at c.args.pool.now c.args.id.0 in
    let root = root_at c.args.pool.now c.args.id.0 c.node.result.0.entries c.node.result.1.now c.node.ensures.tree in
    let value = ap (λ (us : List Term). terms_of us) c.from_vec-left.ensures ∙ c.in_ok-left_at_root.ensures.value in
    let mass = left-mass c.args.eq.now.types side tree c.node.result.0.entries (terms_of c.from_vec-left.result) root value in
    let same = ap (λ (us : List Term). size_of (terms_of us)) c.as_slice.ensures in
    mass-within c.sum_of_terms.result (size_of (terms_of c.as_slice.result.now)) (root_mass c.args.eq.now.types side tree) (omega (arith, mass, same, c.in_ok-terms.ensures.size)) c.sum_of_terms.ensures.mass

pub returns-clause-memory : goal.returns-clause-memory
returns-clause-memory c =
    let side = right_terms c.args.eq.now c.args.kernel.0 in
    let root = root_at c.args.pool.now c.args.id.0 c.node.result.0.entries c.node.result.1.now c.node.ensures.tree in
    let value = ap (λ (us : List Term). terms_of us) c.from_vec-left.ensures ∙ c.in_ok-left_at_root.ensures.value in
    let mass = left-mass c.args.eq.now.types side (tree_at c.args.pool.now c.args.id.0) c.node.result.0.entries (terms_of c.from_vec-left.result) root value in
    let same = ap (λ (us : List Term). size_of (terms_of us)) c.as_slice.ensures in
    memory-alone c.sum_of_terms.result (size_of (terms_of c.as_slice.result.now)) (omega (arith, mass, same, c.in_ok-terms.ensures.size, c.requires.fits)) c.sum_of_terms.ensures.refusal
