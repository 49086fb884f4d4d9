use Rattle.std.proofs.Common.{◌≡◌, ◌*◌}
use Rattle.tree_pool.specs.Content.{tree_at}
use Rattle.cutting_tables.specs.Keys.{right_factor}
use Rattle.cutting_tables.proofs.Rooted.{right_above}
use Rattle.pooled_cuttings.specs.Lines.{recentred_in}
use Rattle.pooled_cuttings.specs.RightProducts.{right_product}
use Rattle.pooled_cuttings.proofs.RightKeys.{right_value_above, right_pushed_lines, right_pushed}
use Rattle.pooled_cuttings.proofs.right_products.push_right.Goals as goal

pub returns-clause-lines : goal.returns-clause-lines
returns-clause-lines c =
    let p = c.args.pool.now in
    let y = c.args.y.now in
    let s = c.args.s.now.entries in
    let t = tree_at p c.args.edge.now.child.0 in
    let value = right_value_above (right_factor s t (recentred_in p y.0)) y.1 c.right_coefficient-coefficient.result
    (right_above s t (recentred_in p y.0)) c.requires.y.1 c.right_coefficient-coefficient.ensures in
    right_pushed_lines p c.right_key.new.pool c.args.lines.now.items c.push_line.new.lines.items (c.in_ok-key.key, c.right_coefficient-coefficient.result) c.in_ok-key.ensures.grown
    c.requires.lines (c.in_ok-key.ensures.known, value.0, value.1) c.in_ok-push_line.ensures

pub returns-clause-terms : goal.returns-clause-terms
returns-clause-terms c =
    let p = c.args.pool.now in
    let y = c.args.y.now in
    let s = c.args.s.now.entries in
    let t = tree_at p c.args.edge.now.child.0 in
    right_pushed p c.right_key.new.pool c.args.lines.now.items c.push_line.new.lines.items c.in_ok-key.key c.right_coefficient-coefficient.result
    (right_product c.args.edge.now t s (recentred_in p y.0)) (right_factor s t (recentred_in p y.0) * y.1)
    c.in_ok-key.ensures.grown c.requires.lines c.in_ok-key.ensures.means c.right_coefficient-coefficient.ensures c.in_ok-push_line.ensures
