use Rattle.std.proofs.Common.{◌+◌, ◌≡◌, ◌∙◌, ℕ, List, suc, sym, subst, arith}
use Rattle.large_trees.specs.declared.line.Line.{Line as Cells}
use Rattle.large_trees.specs.Limits.{AreLimited}
use Rattle.large_trees.specs.Lines.{most_excess}
use Rattle.large_trees.specs.Sums.{IsRound}
use Rattle.large_trees.proofs.Families.{AreCells, round_cells, cells_exact, stopped_exact}
use Rattle.large_trees.proofs.Sizes.{round_limited}
use Rattle.large_trees.proofs.cells.cells.Goals as goal

pub next_cells-requires-clause-cells : goal.next_cells-requires-clause-cells
next_cells-requires-clause-cells c = subst AreLimited (sym c.as_slice.ensures.value) c.loop-round.invariant.limited

pub returns-then-are_same-clause-exact : goal.returns-then-are_same-clause-exact
returns-then-are_same-clause-exact c =
    let round = subst (λ (xs : List Cells). IsRound c.args.eq.now c.args.rule.now c.args.count xs c.in_ok-next.next.items) c.as_slice.ensures.value c.in_ok-next.ensures.round in
    let same : c.loop-round.cells.items ≡ c.in_ok-next.next.items = sym c.as_slice-in-loop-round.ensures.value ∙ c.are_same.ensures c.if-are_same.true ∙ c.as_slice-in-loop-round-2.ensures.value in
    stopped_exact c.args.eq.now c.args.rule.now c.args.count c.requires.equation c.requires.rule c.requires.subcritical c.loop-round._round c.loop-round.cells.items c.in_ok-next.next.items c.loop-round-test.true
    c.loop-round.invariant.cells round same

pub returns-then-are_same-clause-limited : goal.returns-then-are_same-clause-limited
returns-then-are_same-clause-limited c =
    let round = subst (λ (xs : List Cells). IsRound c.args.eq.now c.args.rule.now c.args.count xs c.in_ok-next.next.items) c.as_slice.ensures.value c.in_ok-next.ensures.round in
    round_limited c.args.eq.now c.args.rule.now c.args.count c.loop-round.cells.items c.requires.equation.types c.requires.subcritical c.lengths_fit.ensures c.loop-round.invariant.limited c.in_ok-next.next.items c.in_ok-next.ensures.lines round

pub loop-round-preserved : goal.loop-round-preserved
loop-round-preserved c =
    let round = subst (λ (xs : List Cells). IsRound c.args.eq.now c.args.rule.now c.args.count xs c.in_ok-next.next.items) c.as_slice.ensures.value c.in_ok-next.ensures.round in
    let one : suc c.loop-round._round ≡ c.loop-round._round + 1 = omega arith in
    record {
      cells = subst (λ (r : ℕ). AreCells c.args.eq.now c.args.rule.now c.args.count r c.in_ok-next.next.items) one
          (round_cells c.args.eq.now c.args.rule.now c.args.count c.requires.equation c.requires.rule c.requires.subcritical c.loop-round._round c.loop-round.cells.items c.in_ok-next.next.items c.loop-round.invariant.cells round);
      limited = round_limited c.args.eq.now c.args.rule.now c.args.count c.loop-round.cells.items c.requires.equation.types c.requires.subcritical c.lengths_fit.ensures c.loop-round.invariant.limited c.in_ok-next.next.items
          c.in_ok-next.ensures.lines round;
    }

pub returns-clause-exact : goal.returns-clause-exact
returns-clause-exact c =
    let last : c.loop-round._round ≡ suc most_excess = let f = c.loop-round-test.false in let e = c.loop-round.auto._round-end in omega arith in
    cells_exact c.args.eq.now c.args.rule.now c.args.count c.requires.subcritical c.loop-round.cells.items
    (subst (λ (r : ℕ). AreCells c.args.eq.now c.args.rule.now c.args.count r c.loop-round.cells.items) last c.loop-round.invariant.cells)
