use Rattle.std.proofs.Common.{◌≡◌, length, ap, subst, arith, length-append, Some, [], ◌∷◌}
use Rattle.std.specs.Prelude.{slice_get}
use Rattle.std.specs.Prelude.{ℕ}
use Rattle.tree_pool.proofs.Growth.{grown_trans}
use Rattle.tree_listing.specs.Gathered.{gathered}
use Rattle.tree_listing.proofs.LevelLaws.{levels-grown, rows_step, covered_step, length-plans}
use Rattle.tree_listing.proofs.Members.{place_of, below_of}
use Rattle.tree_listing.proofs.levels.next_level.Goals as goal

pub row_level-requires-clause-levels : goal.row_level-requires-clause-levels
row_level-requires-clause-levels c =
    let s = c.args.setting.now in levels-grown s.eq.now s.rule.now s.plan.now c.args.pool.now c.loop-row.pool c.args.levels.now c.loop-row.invariant.grown c.requires.levels

pub loop-row-preserved : goal.loop-row-preserved
loop-row-preserved c =
    let s = c.args.setting.now in
    let now = c.loop-row.pool in
    let next = c.row_level.new.pool in
    let n = length c.args.levels.now in
    let old = gathered now c.loop-row.found in
    let new = gathered next c.row_level.new.found in
    let count = c.loop-row.invariant.count in record {
      grown = grown_trans c.args.pool.now now next c.loop-row.invariant.grown c.in_ok-row_level.ensures.grown;
      good = c.in_ok-row_level.ensures.found;
      count = omega (arith, count, ap length c.in_ok-push.ensures.ok, length-append c.loop-row.rows (c.in_ok-row_level.field-0 ∷ []));
      rows = rows_step s.eq.now s.rule.now s.plan.now now next n c.loop-row.rows c.push.new.self c.in_ok-row_level.field-0 c.in_ok-row_level.ensures.grown c.loop-row.invariant.rows
          (λ row is. c.in_ok-row_level.ensures.level row (subst (λ (k : ℕ). slice_get s.rule.now.rows k ≡ Some row) count is)) c.in_ok-push.ensures.ok;
      covered = covered_step s.eq.now s.rule.now s.plan.now n c.loop-row.row old new c.in_ok-row_level.ensures.more c.loop-row.invariant.covered c.in_ok-row_level.ensures.covered;
      more = λ t h. c.in_ok-row_level.ensures.more t (c.loop-row.invariant.more t h);
    }

pub returns-clause-level : goal.returns-clause-level
returns-clause-level c =
    let s = c.args.setting.now in
    let plans = length-plans s.eq.now s.rule.now s.plan.now s.plan.now.lows s.plan.now.mosts s.rule.now.rows s.plan.now.rows c.requires.setting.planned.rows in
    let count = c.loop-row.invariant.count in record {
      count = omega (arith, count, plans, c.loop-row-test.false, c.loop-row.auto.row-end, c.len-row-end.ensures);
      rows = c.loop-row.invariant.rows;
    }

pub returns-clause-covered : goal.returns-clause-covered
returns-clause-covered c =
    λ r m t whole count.
    let s = c.args.setting.now in
    let plans = length-plans s.eq.now s.rule.now s.plan.now s.plan.now.lows s.plan.now.mosts s.rule.now.rows s.plan.now.rows c.requires.setting.planned.rows in
    let place = place_of r s.rule.now.rows m in
    c.loop-row.invariant.covered place.0 r (omega (arith, plans, c.loop-row-test.false, c.len-row-end.ensures, below_of s.rule.now.rows place.0 r place.1)) place.1 t whole count
