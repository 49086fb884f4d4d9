use Rattle.std.proofs.Common.{ℕ, List, sum, ap, sym, ◌∙◌, arith}
use Rattle.exact_sums.specs.Saturating.{saturated}
use Rattle.tree_pool.specs.Content.{tree_at}
use Rattle.tree_pool.proofs.Walks.{root_at}
use Rattle.symbol_polys.specs.Polynomials.{PlainTerm}
use Rattle.symbol_polys.specs.View.{terms_of}
use Rattle.symbol_polys.specs.declared.Term.{Term}
use Rattle.elementary_diff.specs.Differentials.{by_edges, noise_free, right_terms}
use Rattle.elementary_diff.specs.Masses.{weight}
use Rattle.elementary_diff.proofs.NodeWalks.{root-few}
use Rattle.elementary_diff.proofs.weights.root_mass.Goals as goal

pub total-requires : goal.total-requires
total-requires c = omega (arith, root-few c.args.pool.now c.node.result.0.entries c.node.result.1.now c.node.ensures.kept.small.decorations)

pub returns-clause-value : goal.returns-clause-value
returns-clause-value c =
    let t = tree_at c.args.pool.now c.args.id.0 in
    let left = noise_free (by_edges c.args.eq.now.types t (right_terms c.args.eq.now c.args.kernel.0)) in
    let root = root_at c.args.pool.now c.args.id.0 c.node.result.0.entries c.node.result.1.now c.node.ensures.tree in
    c.weight.ensures
    ∙ ap (λ (us : List Term). saturated (weight c.total.result (terms_of us))) c.as_slice.ensures.value
    ∙ ap (λ (us : List PlainTerm). saturated (weight c.total.result us)) c.in_ok-terms.ensures.value
    ∙ ap (λ (n : ℕ). saturated (weight n left)) (c.total.ensures ∙ ap (λ (xs : List ℕ). sum xs) (sym root))
