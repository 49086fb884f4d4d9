use Rattle.std.proofs.Common.{[], ◌∷◌, length, ap, arith, length-append}
use Rattle.tree_pool.proofs.Growth.{grown_trans}
use Rattle.tree_listing.specs.Gathered.{gathered}
use Rattle.tree_listing.proofs.LevelLaws.{setting-grown, levels_step, all_covered_step}
use Rattle.tree_listing.proofs.levels.all_levels.Goals as goal

pub next_level-requires-clause-levels : goal.next_level-requires-clause-levels
next_level-requires-clause-levels c = rw c.as_slice-in-loop-alloc.ensures.value c.loop-alloc.invariant.levels

pub loop-alloc-preserved : goal.loop-alloc-preserved
loop-alloc-preserved c =
    let s = c.args.setting.now in
    let now = c.loop-alloc.pool in
    let next = c.next_level.new.pool in
    let old = c.loop-alloc.levels.items in
    let level = rw c.as_slice-in-loop-alloc.ensures.value at c.in_ok-level.ensures.level in
    let covered = rw c.as_slice-in-loop-alloc.ensures.value at c.in_ok-level.ensures.covered in record {
      grown = grown_trans c.args.pool.now now next c.loop-alloc.invariant.grown c.in_ok-level.ensures.grown;
      setting = setting-grown s.eq.now s.rule.now s.plan.now now next s.empty c.in_ok-level.ensures.grown c.loop-alloc.invariant.setting;
      levels = levels_step s.eq.now s.rule.now s.plan.now now next old c.push_level.new.levels.items c.in_ok-level.level c.in_ok-level.ensures.grown c.loop-alloc.invariant.levels level c.in_ok-push_level.ensures;
      good = c.in_ok-level.ensures.found;
      covered = λ r t i whole lt.
          all_covered_step s.eq.now s.rule.now s.plan.now (length old) (gathered now c.loop-alloc.found) (gathered next c.next_level.new.found) c.in_ok-level.ensures.more c.loop-alloc.invariant.covered covered r t i whole
          (omega (arith, lt, ap length c.in_ok-push_level.ensures, length-append old (c.in_ok-level.level ∷ [])));
    }
