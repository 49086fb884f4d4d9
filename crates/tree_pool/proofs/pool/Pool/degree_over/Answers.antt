use Rattle.std.proofs.Common.{ap, ◌∙◌, arith, ◌+◌, drop, get_or}
use Rattle.degree_numbers.specs.declared.degree.Degree.{Degree}
use Rattle.degree_numbers.specs.Degree.{degree_plus}
use Rattle.plain_trees.specs.Degree.{degree_of, edge_degree_of}
use Rattle.plain_trees.proofs.DegreeBounds.{limit, small_parts, small_a, small_b, small_edge_a, small_edge_b, sum_fits, step_fits, within_fits, degree_assoc}
use Rattle.tree_pool.specs.Content.{tree_at, tree_over}
use Rattle.tree_pool.proofs.Walks.{no_edge, below_at, tree_cut, tree_end}
use Rattle.tree_pool.proofs.pool.Pool.degree_over.Goals as goal

pub degree-above-requires : goal.degree-above-requires
degree-above-requires c = below_at _ c.args.edges.now c.loop-e.e-index no_edge c.requires.known c.loop-e-test.true

pub plus-requires-clause-a_fits : goal.plus-requires-clause-a_fits
plus-requires-clause-a_fits c =
    let c0 = c.args.self.now in
    let n = c.args.n.now.entries in
    let es = c.args.edges.now in
    let e = get_or es c.loop-e.e-index no_edge in
    let child = tree_at c0 e.child.0 in
    let ty = c.args.types.now in
    let h = c.requires.accepted in
    let rest = tree_over c0.trees n (drop (c.loop-e.e-index + 1) es) in
    let cut = tree_cut c0 n es c.loop-e.e-index no_edge c.loop-e-test.true in
    let small = small_parts e.kind.0 e.p.entries child rest (rw cut at c.loop-e.invariant.small) in
    let total = rw cut at c.loop-e.invariant.sum in
    rw (c.edge_degree.ensures, c.degree-above.ensures, ← c.requires.types) (sum_fits (edge_degree_of ty e.kind.0 e.p.entries).a (degree_of ty child).a limit limit (small_edge_a ty e.kind.0 e.p.entries h small.decoration) (small_a ty child h small.child) (omega arith))

pub plus-sum-requires-clause-a_fits : goal.plus-sum-requires-clause-a_fits
plus-sum-requires-clause-a_fits c =
    let c0 = c.args.self.now in
    let n = c.args.n.now.entries in
    let es = c.args.edges.now in
    let e = get_or es c.loop-e.e-index no_edge in
    let child = tree_at c0 e.child.0 in
    let ty = c.args.types.now in
    let h = c.requires.accepted in
    let rest = tree_over c0.trees n (drop (c.loop-e.e-index + 1) es) in
    let cut = tree_cut c0 n es c.loop-e.e-index no_edge c.loop-e-test.true in
    let small = small_parts e.kind.0 e.p.entries child rest (rw cut at c.loop-e.invariant.small) in
    let total = rw cut at c.loop-e.invariant.sum in
    let whole = c.requires.small in
    rw (c.plus.ensures, c.edge_degree.ensures, c.degree-above.ensures, ← c.requires.types)
    (step_fits c.loop-e.sum.a (edge_degree_of ty e.kind.0 e.p.entries).a (degree_of ty child).a (degree_of ty rest).a (degree_of ty (tree_over c0.trees n es)).a
    (small_edge_a ty e.kind.0 e.p.entries h small.decoration) (small_a ty child h small.child) (small_a ty rest h small.rest) (small_a ty (tree_over c0.trees n es) h whole) (ap (λ (d : Degree). d.a) total))

pub plus-requires-2-clause-a_fits : goal.plus-requires-2-clause-a_fits
plus-requires-2-clause-a_fits c =
    let end = tree_end c.args.self.now c.args.n.now.entries c.args.edges.now c.loop-e.e-index c.loop-e-test.false in
    let total = rw end at c.loop-e.invariant.sum in
    let whole = c.requires.small in
    let w = within_fits (degree_of c.args.types.now (tree_over c.args.self.now.trees c.args.n.now.entries c.args.edges.now)).a (small_a c.args.types.now (tree_over c.args.self.now.trees c.args.n.now.entries c.args.edges.now) c.requires.accepted whole) in
    let sum = ap (λ (d : Degree). d.a) total in
    rw (c.node_degree.ensures, sum) w

pub plus-requires-clause-b_fits : goal.plus-requires-clause-b_fits
plus-requires-clause-b_fits c =
    let c0 = c.args.self.now in
    let n = c.args.n.now.entries in
    let es = c.args.edges.now in
    let e = get_or es c.loop-e.e-index no_edge in
    let child = tree_at c0 e.child.0 in
    let ty = c.args.types.now in
    let h = c.requires.accepted in
    let rest = tree_over c0.trees n (drop (c.loop-e.e-index + 1) es) in
    let cut = tree_cut c0 n es c.loop-e.e-index no_edge c.loop-e-test.true in
    let small = small_parts e.kind.0 e.p.entries child rest (rw cut at c.loop-e.invariant.small) in
    let total = rw cut at c.loop-e.invariant.sum in
    rw (c.edge_degree.ensures, c.degree-above.ensures, ← c.requires.types) (sum_fits (edge_degree_of ty e.kind.0 e.p.entries).b (degree_of ty child).b limit limit (small_edge_b ty e.kind.0 e.p.entries h) (small_b ty child h small.child) (omega arith))

pub plus-sum-requires-clause-b_fits : goal.plus-sum-requires-clause-b_fits
plus-sum-requires-clause-b_fits c =
    let c0 = c.args.self.now in
    let n = c.args.n.now.entries in
    let es = c.args.edges.now in
    let e = get_or es c.loop-e.e-index no_edge in
    let child = tree_at c0 e.child.0 in
    let ty = c.args.types.now in
    let h = c.requires.accepted in
    let rest = tree_over c0.trees n (drop (c.loop-e.e-index + 1) es) in
    let cut = tree_cut c0 n es c.loop-e.e-index no_edge c.loop-e-test.true in
    let small = small_parts e.kind.0 e.p.entries child rest (rw cut at c.loop-e.invariant.small) in
    let total = rw cut at c.loop-e.invariant.sum in
    let whole = c.requires.small in
    rw (c.plus.ensures, c.edge_degree.ensures, c.degree-above.ensures, ← c.requires.types)
    (step_fits c.loop-e.sum.b (edge_degree_of ty e.kind.0 e.p.entries).b (degree_of ty child).b (degree_of ty rest).b (degree_of ty (tree_over c0.trees n es)).b
    (small_edge_b ty e.kind.0 e.p.entries h) (small_b ty child h small.child) (small_b ty rest h small.rest) (small_b ty (tree_over c0.trees n es) h whole) (ap (λ (d : Degree). d.b) total))

pub plus-requires-2-clause-b_fits : goal.plus-requires-2-clause-b_fits
plus-requires-2-clause-b_fits c =
    let end = tree_end c.args.self.now c.args.n.now.entries c.args.edges.now c.loop-e.e-index c.loop-e-test.false in
    let total = rw end at c.loop-e.invariant.sum in
    let whole = c.requires.small in
    let w = within_fits (degree_of c.args.types.now (tree_over c.args.self.now.trees c.args.n.now.entries c.args.edges.now)).b (small_b c.args.types.now (tree_over c.args.self.now.trees c.args.n.now.entries c.args.edges.now) c.requires.accepted whole) in
    let sum = ap (λ (d : Degree). d.b) total in
    rw (c.node_degree.ensures, sum) w

pub loop-e-preserved : goal.loop-e-preserved
loop-e-preserved c =
    let c0 = c.args.self.now in
    let n = c.args.n.now.entries in
    let es = c.args.edges.now in
    let e = get_or es c.loop-e.e-index no_edge in
    let child = tree_at c0 e.child.0 in
    let ty = c.args.types.now in
    let h = c.requires.accepted in
    let rest = tree_over c0.trees n (drop (c.loop-e.e-index + 1) es) in
    let cut = tree_cut c0 n es c.loop-e.e-index no_edge c.loop-e-test.true in
    let small = small_parts e.kind.0 e.p.entries child rest (rw cut at c.loop-e.invariant.small) in
    let total = rw cut at c.loop-e.invariant.sum in
    let known = rw cut at c.loop-e.invariant.known in
    record {
      sum = rw (c.plus-sum.ensures, c.plus.ensures, c.edge_degree.ensures, c.degree-above.ensures, ← c.requires.types) (degree_assoc c.loop-e.sum (degree_plus (edge_degree_of ty e.kind.0 e.p.entries) (degree_of ty child)) (degree_of ty rest) ∙ total);
      small = small.rest;
      known = known.2;
    }
