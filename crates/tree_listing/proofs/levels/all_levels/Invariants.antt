use Rattle.std.proofs.Common.{◌<◌, ◌-◌, length}
use Rattle.ordered_lists.specs.Members.{IsIn}
use Rattle.plain_trees.specs.Plain.{Plain, edge_count_of}
use Rattle.normal_rule.specs.declared.rule.RuleRow.{RuleRow}
use Rattle.conforming_trees.specs.Budgets.{IsWhole}
use Rattle.tree_pool.specs.Content.{IsGrown}
use Rattle.tree_listing.specs.Levels.{IsSetting, AreLevels}
use Rattle.tree_listing.specs.Gathered.{gathered, IsGood, Covers}
use Rattle.tree_listing.proofs.levels.all_levels.Given as goal

abbrev pub decreases-loop-alloc : goal.decreases-loop-alloc
decreases-loop-alloc l = 25 - length l.levels.items

abbrev pub invariant-loop-alloc : goal.invariant-loop-alloc
invariant-loop-alloc l =
    let s = l.setting in
    record {
      grown : IsGrown l.fn.pool l.pool;
      setting : IsSetting s.eq.now s.rule.now s.plan.now l.pool s.empty;
      levels : AreLevels s.eq.now s.rule.now s.plan.now l.pool l.levels.items;
      good : IsGood s.eq.now s.rule.now l.pool l.found;
      covered : (r : RuleRow) (t : Plain) → IsIn r s.rule.now.rows → IsWhole s.eq.now s.rule.now s.plan.now.mosts r t → edge_count_of t < length l.levels.items → Covers s.eq.now s.rule.now (gathered l.pool l.found) t;
    }
