use Rattle.std.proofs.Common.{ap, ◌∙◌, arith, map, drop, ◌+◌}
use Rattle.degree_numbers.specs.declared.degree.Degree.{Degree}
use Rattle.degree_numbers.specs.Degree.{degree_plus}
use Rattle.plain_trees.specs.Degree.{degree_of, edge_degree_of}
use Rattle.plain_trees.specs.View.{plain, labelled, grafted}
use Rattle.plain_trees.specs.declared.tree.Tree.{out-Tree}
use Rattle.plain_trees.specs.declared.tree.Edge.{out-Edge}
use Rattle.plain_trees.proofs.DegreeBounds.{limit, cut_at, none_left, small_parts, small_a, small_b, small_edge_a, small_edge_b, sum_fits, step_fits, within_fits, degree_assoc}
use Rattle.plain_trees.proofs.degrees.+degree.Goals as goal

pub plus-requires-clause-a_fits : goal.plus-requires-clause-a_fits
plus-requires-clause-a_fits t c =
    let n = (out-Tree c.args.t.now).n.entries in
    let e = out-Edge c.e-item.result in
    let child = plain e.child in
    let ty = c.args.types.now in
    let h = c.requires.types in
    let cut = cut_at n c.as_slice-e-items.result.now c.loop-e.e-index c.e-item.result c.loop-e-test.true c.e-item.is in
    let small = small_parts _ _ _ _ (rw cut at c.loop-e.invariant.small) in
    let total = rw cut at c.loop-e.invariant.sum in
    rw (c.edge_degree.ensures, c.degree.ensures) (sum_fits (edge_degree_of ty e.kind.0 e.p.entries).a (degree_of ty child).a limit limit (small_edge_a ty e.kind.0 e.p.entries h small.decoration) (small_a ty child h small.child) (omega arith))

pub plus-sum-requires-clause-a_fits : goal.plus-sum-requires-clause-a_fits
plus-sum-requires-clause-a_fits t c =
    let n = (out-Tree c.args.t.now).n.entries in
    let e = out-Edge c.e-item.result in
    let child = plain e.child in
    let ty = c.args.types.now in
    let h = c.requires.types in
    let cut = cut_at n c.as_slice-e-items.result.now c.loop-e.e-index c.e-item.result c.loop-e-test.true c.e-item.is in
    let small = small_parts _ _ _ _ (rw cut at c.loop-e.invariant.small) in
    let total = rw cut at c.loop-e.invariant.sum in
    let rest = grafted n (map labelled (drop (c.loop-e.e-index + 1) c.as_slice-e-items.result.now)) in
    rw (c.plus.ensures, c.edge_degree.ensures, c.degree.ensures)
    (step_fits c.loop-e.sum.a (edge_degree_of ty e.kind.0 e.p.entries).a (degree_of ty child).a (degree_of ty rest).a (degree_of ty (plain c.args.t.now)).a
    (small_edge_a ty e.kind.0 e.p.entries h small.decoration) (small_a ty child h small.child) (small_a ty rest h small.rest) (small_a ty (plain c.args.t.now) h c.requires.small) (ap (λ (d : Degree). d.a) total))

pub plus-requires-2-clause-a_fits : goal.plus-requires-2-clause-a_fits
plus-requires-2-clause-a_fits t c =
    let end = none_left (out-Tree c.args.t.now).n.entries c.as_slice-e-items.result.now c.loop-e.e-index c.loop-e-test.false in
    let total = rw end at c.loop-e.invariant.sum in
    let w = within_fits (degree_of c.args.types.now (plain c.args.t.now)).a (small_a c.args.types.now (plain c.args.t.now) c.requires.types c.requires.small) in
    let sum = ap (λ (d : Degree). d.a) total in
    rw (c.node_degree.ensures, sum) w

pub plus-requires-clause-b_fits : goal.plus-requires-clause-b_fits
plus-requires-clause-b_fits t c =
    let n = (out-Tree c.args.t.now).n.entries in
    let e = out-Edge c.e-item.result in
    let child = plain e.child in
    let ty = c.args.types.now in
    let h = c.requires.types in
    let cut = cut_at n c.as_slice-e-items.result.now c.loop-e.e-index c.e-item.result c.loop-e-test.true c.e-item.is in
    let small = small_parts _ _ _ _ (rw cut at c.loop-e.invariant.small) in
    let total = rw cut at c.loop-e.invariant.sum in
    rw (c.edge_degree.ensures, c.degree.ensures) (sum_fits (edge_degree_of ty e.kind.0 e.p.entries).b (degree_of ty child).b limit limit (small_edge_b ty e.kind.0 e.p.entries h) (small_b ty child h small.child) (omega arith))

pub plus-sum-requires-clause-b_fits : goal.plus-sum-requires-clause-b_fits
plus-sum-requires-clause-b_fits t c =
    let n = (out-Tree c.args.t.now).n.entries in
    let e = out-Edge c.e-item.result in
    let child = plain e.child in
    let ty = c.args.types.now in
    let h = c.requires.types in
    let cut = cut_at n c.as_slice-e-items.result.now c.loop-e.e-index c.e-item.result c.loop-e-test.true c.e-item.is in
    let small = small_parts _ _ _ _ (rw cut at c.loop-e.invariant.small) in
    let total = rw cut at c.loop-e.invariant.sum in
    let rest = grafted n (map labelled (drop (c.loop-e.e-index + 1) c.as_slice-e-items.result.now)) in
    rw (c.plus.ensures, c.edge_degree.ensures, c.degree.ensures)
    (step_fits c.loop-e.sum.b (edge_degree_of ty e.kind.0 e.p.entries).b (degree_of ty child).b (degree_of ty rest).b (degree_of ty (plain c.args.t.now)).b
    (small_edge_b ty e.kind.0 e.p.entries h) (small_b ty child h small.child) (small_b ty rest h small.rest) (small_b ty (plain c.args.t.now) h c.requires.small) (ap (λ (d : Degree). d.b) total))

pub plus-requires-2-clause-b_fits : goal.plus-requires-2-clause-b_fits
plus-requires-2-clause-b_fits t c =
    let end = none_left (out-Tree c.args.t.now).n.entries c.as_slice-e-items.result.now c.loop-e.e-index c.loop-e-test.false in
    let total = rw end at c.loop-e.invariant.sum in
    let w = within_fits (degree_of c.args.types.now (plain c.args.t.now)).b (small_b c.args.types.now (plain c.args.t.now) c.requires.types c.requires.small) in
    let sum = ap (λ (d : Degree). d.b) total in
    rw (c.node_degree.ensures, sum) w

pub loop-e-preserved : goal.loop-e-preserved
loop-e-preserved t c =
    let n = (out-Tree c.args.t.now).n.entries in
    let e = out-Edge c.e-item.result in
    let child = plain e.child in
    let ty = c.args.types.now in
    let h = c.requires.types in
    let cut = cut_at n c.as_slice-e-items.result.now c.loop-e.e-index c.e-item.result c.loop-e-test.true c.e-item.is in
    let small = small_parts _ _ _ _ (rw cut at c.loop-e.invariant.small) in
    let total = rw cut at c.loop-e.invariant.sum in
    let rest = grafted n (map labelled (drop (c.loop-e.e-index + 1) c.as_slice-e-items.result.now)) in
    let tree = rw cut at c.loop-e.invariant.tree in
    record {
      sum = rw (c.plus-sum.ensures, c.plus.ensures, c.edge_degree.ensures, c.degree.ensures)
          (degree_assoc c.loop-e.sum (degree_plus (edge_degree_of ty e.kind.0 e.p.entries) (degree_of ty child)) (degree_of ty rest) ∙ total);
      tree = tree.2;
      small = small.rest;
    }
