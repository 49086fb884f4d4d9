use Rattle.std.proofs.Common.{refl, subst}
use Rattle.std.specs.List.{All}
use Rattle.tree_budgets.specs.Bounds.{IsLowRow, IsEnoughRow}
use Rattle.tree_budgets.proofs.Closed.{low_rows, enough_rows}
use Rattle.tree_budgets.proofs.bounds.make_bounds.Goals as goal

pub returns-then-are_enough : goal.returns-then-are_enough
returns-then-are_enough c = record {
  low = low_rows c.args.eq.now c.args.rule.now c.in_ok-lows.lows c.in_ok-lows.ensures
      (subst (λ lows. All (IsLowRow c.args.eq.now.types lows) c.args.rule.now.rows) c.as_slice.ensures (c.if-are_low.ensures refl));
  budgets = enough_rows c.args.eq.now c.args.rule.now c.in_ok-lows.lows c.in_ok-mosts.mosts
      (subst (λ lows. All (IsEnoughRow c.args.eq.now.types lows c.in_ok-mosts.mosts) c.args.rule.now.rows) c.as_slice-then-are_low-2.ensures
      (subst (λ mosts. All (IsEnoughRow c.args.eq.now.types c.as_slice-then-are_low-2.result.now mosts) c.args.rule.now.rows) c.as_slice-then-are_low-3.ensures (c.if-are_enough.ensures refl)));
  lows_bounded = c.in_ok-lows.ensures.bounded;
  mosts_bounded = c.in_ok-mosts.ensures.bounded;
}
