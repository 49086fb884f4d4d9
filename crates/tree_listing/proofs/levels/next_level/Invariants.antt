use Rattle.std.proofs.Common.{◌≡◌, ◌<◌, ℕ, length, Some}
use Rattle.std.specs.Prelude.{slice_get}
use Rattle.normal_rule.specs.declared.rule.RuleRow.{RuleRow}
use Rattle.tree_pool.specs.Content.{IsGrown}
use Rattle.tree_listing.specs.declared.level.RowLevel.{RowLevel}
use Rattle.tree_listing.specs.Levels.{IsRowLevel}
use Rattle.tree_listing.specs.Gathered.{gathered, IsGood, AreCovered, IsMore}
use Rattle.tree_listing.proofs.levels.next_level.Given as goal

abbrev pub invariant-loop-row : goal.invariant-loop-row
invariant-loop-row l =
    let s = l.setting in
    record {
      grown : IsGrown l.fn.pool l.pool;
      good : IsGood s.eq.now s.rule.now l.pool l.found;
      count : length l.rows ≡ l.row;
      rows : (r : ℕ) (row : RuleRow) (y : RowLevel) → slice_get s.rule.now.rows r ≡ Some row → slice_get l.rows r ≡ Some y → IsRowLevel s.eq.now s.rule.now s.plan.now l.pool row (length l.levels) y;
      covered : (r : ℕ) (row : RuleRow) → r < l.row → slice_get s.rule.now.rows r ≡ Some row → AreCovered s.eq.now s.rule.now s.plan.now row (length l.levels) (gathered l.pool l.found);
      more : IsMore s.eq.now s.rule.now (gathered l.fn.pool l.fn.found) (gathered l.pool l.found);
    }
