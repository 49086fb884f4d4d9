use Rattle.std.proofs.Common.{◌++◌, map, [], refl}
use Rattle.exact_sums.specs.Keyed.{same_by}
use Rattle.plain_trees.specs.Coproducts.{recentred_order}
use Rattle.tree_pool.specs.Content.{tree_at}
use Rattle.pooled_cuttings.specs.Lines.{recentred_terms_in}
use Rattle.pooled_cuttings.specs.RightProducts.{left_terms, right_terms}
use Rattle.pooled_cuttings.proofs.SameSums.{after_collecting}
use Rattle.pooled_cuttings.proofs.right.right_lines.Goals as goal

pub returns-clause-sums : goal.returns-clause-sums
returns-clause-sums c =
    let p = c.args.pool.now in
    let q = c.right_rows.new.pool in
    let e = c.args.edge.now in
    after_collecting (same_by recentred_order) (recentred_terms_in q c.collect_recentred.new.lines.items) (recentred_terms_in q c.in_ok-lines.lines.items) []
    (left_terms e (recentred_terms_in p c.args.above.now) (recentred_terms_in p c.args.others.now)
    ++ right_terms e (tree_at p e.child.0) (map (λ m. m.entries) c.args.shifts.now) (recentred_terms_in p c.args.others.now))
    c.collect_recentred.ensures.sums refl c.in_ok-lines.ensures.terms
