use Rattle.std.proofs.Common.{◌≡◌, subst, sym, ◌∙◌, ap, map, length}
use Rattle.std.proofs.lemmas.Result.{IfOk-weaker}
use Rattle.plain_trees.specs.Degree.{empty_tree}
use Rattle.tree_listing.specs.Levels.{AreSprouts, sprouts, sprout_of_growth}
use Rattle.tree_listing.proofs.Growing.{holds_below}
use Rattle.tree_listing.proofs.Settings.{growths_in, growths_are, plan_in_range, levels_in, row_item}
use Rattle.tree_listing.proofs.levels.grown_stems.Goals as goal

pub growths-requires-clause-plan : goal.growths-requires-clause-plan
growths-requires-clause-plan c =
    let s = c.args.setting.now in
    plan_in_range s.eq.now s.rule.now s.plan.now c.args.pool.now s.empty c.index-as_slice-row.result c.args.row c.requires.setting c.requires.row (row_item c.as_slice.result.now s.plan.now.rows c.args.row c.index-as_slice-row.result c.as_slice.ensures c.index-as_slice-row.is)

pub growths-requires-clause-levels : goal.growths-requires-clause-levels
growths-requires-clause-levels c =
    let s = c.args.setting.now in
    levels_in s.eq.now s.rule.now s.plan.now c.args.pool.now s.empty c.index-as_slice-row.result c.args.row c.args.levels.now c.requires.setting c.requires.levels c.requires.row (row_item c.as_slice.result.now s.plan.now.rows c.args.row c.index-as_slice-row.result c.as_slice.ensures c.index-as_slice-row.is)

pub growths-requires-clause-empty : goal.growths-requires-clause-empty
growths-requires-clause-empty c = holds_below c.args.pool.now c.args.setting.now.empty.0 empty_tree c.requires.setting.empty_tree

pub stems_of-requires : goal.stems_of-requires
stems_of-requires c =
    let s = c.args.setting.now in
    growths_in s.eq.now s.rule.now s.plan.now c.args.pool.now s.empty c.index-as_slice-row.result c.args.row c.args.levels.now c.as_slice-2.result.now c.requires.setting c.requires.levels c.requires.row
    (row_item c.as_slice.result.now s.plan.now.rows c.args.row c.index-as_slice-row.result c.as_slice.ensures c.index-as_slice-row.is) c.requires.few (c.as_slice-2.ensures.value ∙ c.in_ok-growths.ensures)

pub returns-clause-stems : goal.returns-clause-stems
returns-clause-stems c =
    let s = c.args.setting.now in
    let gs = c.as_slice-2.result.now in
    IfOk-weaker c.stems_of.result (λ stems. sprouts c.stems_of.new.pool stems ≡ map (sprout_of_growth c.args.pool.now) gs) _
    (λ stems trees r is.
    let made = growths_are s.eq.now s.rule.now s.plan.now c.args.pool.now s.empty c.index-as_slice-row.result c.args.row c.args.levels.now r c.requires.setting c.requires.levels c.requires.row
    (row_item c.as_slice.result.now s.plan.now.rows c.args.row c.index-as_slice-row.result c.as_slice.ensures c.index-as_slice-row.is) c.requires.few c.requires.some is in
    let same = trees ∙ ap (map (sprout_of_growth c.args.pool.now)) (c.as_slice-2.ensures.value ∙ c.in_ok-growths.ensures) in
    subst (AreSprouts s.eq.now s.rule.now s.plan.now r (length c.args.levels.now)) (sym same) made) c.stems_of.ensures.trees
