use Rattle.std.proofs.Common.{◌≡◌, ℕ, ◌+◌, ◌*◌, ◌^◌, ap, ◌∙◌, arith}
use Rattle.exact_sums.specs.Saturating.{saturated}
use Rattle.coefficient_bounds.specs.Bounds.{all_sums, shift_room, sums_within}
use Rattle.cutting_sizes.specs.Sizes.{node_sum}
use Rattle.coefficient_bounds.proofs.PoolSteps.{idle_made, opened_made}
use Rattle.coefficient_bounds.proofs.sums.TreeSums.with_edge.Goals as goal

pub returns : goal.returns
returns c = λ d t above here.
    let ty = c.args.types.now in
    let b = c.args.most in
    let x = sums_within ty b d in
    let y = sums_within ty b t in
    let room = shift_room ty b c.args.kind.0 c.args.p.now.entries d in
    let nodes_here = here.nodes in
    let nodes_above = above.nodes in
    let roots : c.power-roots.result ≡ saturated ((1 + node_sum d) ^ node_sum t) =
    c.power-roots.ensures
    ∙ ap (λ (i : ℕ). saturated ((1 + i) ^ c.from.result)) nodes_above
    ∙ ap (λ (i : ℕ). saturated ((1 + node_sum d) ^ i)) (c.from.ensures ∙ nodes_here) in
    let shifts : c.power-shifts.result ≡ saturated ((1 + ty.dims) ^ room) =
    c.power-shifts.ensures
    ∙ ap (λ (i : ℕ). saturated ((1 + i) ^ c.shift_room-room.result)) c.from-2.ensures
    ∙ ap (λ (i : ℕ). saturated ((1 + ty.dims) ^ i)) (c.shift_room-room.ensures d above.lows) in
    let closed = c.all-closed.ensures ty b d above in
    let opened = c.plus-opened.ensures
    ∙ rw (c.times.ensures, c.times-2.ensures)
    (opened_made c.power-roots.result c.args.above.now.touched c.power-shifts.result
    c.all-closed.result
    ((1 + node_sum d) ^ node_sum t) x.touched ((1 + ty.dims) ^ room) (all_sums x) roots
    above.touched shifts closed) in
    record {
      idle = c.times-3.ensures ∙ idle_made c.all-closed.result c.args.self.now.idle (all_sums x)
          y.idle closed here.idle;
      touched = c.times-4.ensures
          ∙ idle_made c.plus-opened.result c.args.self.now.touched
          ((1 + node_sum d) ^ node_sum t * x.touched + (1 + ty.dims) ^ room * all_sums x) y.touched
          opened here.touched;
      nodes = omega (arith, nodes_above, nodes_here);
      lows = c.with_edge-lows.ensures d t above.lows here.lows;
    }
