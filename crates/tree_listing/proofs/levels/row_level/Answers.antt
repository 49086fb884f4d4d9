use Rattle.std.proofs.Common.{◌≡◌, ◌∙◌, refl, subst, rules, length}
use Rattle.conforming_trees.specs.Listed.{HasTooManyTrees}
use Rattle.tree_listing.specs.declared.refusal.ListRefusal.TheVariants.{TooManyTrees}
use Rattle.tree_listing.specs.Levels.{stem_trees}
use Rattle.tree_listing.specs.Made.{IsLeast}
use Rattle.tree_listing.specs.Gathered.{decorated_all}
use Rattle.tree_listing.proofs.Gathers.{row_sound, row_covers, row_more, row_many, any_of}
use Rattle.tree_listing.proofs.Keeping.{keeping-grown}
use Rattle.tree_listing.proofs.LevelLaws.{row_made, made_wholes, keeping_none}
use Rattle.tree_listing.proofs.Members.{member_of}
use Rattle.tree_listing.proofs.RowWholes.{row_decorable}
use Rattle.tree_listing.proofs.Settings.{row_item, row_planned, row_planned_at}
use Rattle.tree_listing.proofs.levels.row_level.Goals as goal

pub wholes_of-requires-clause-stems : goal.wholes_of-requires-clause-stems
wholes_of-requires-clause-stems c =
    let s = c.args.setting.now in
    let item = row_item c.as_slice.result.now s.plan.now.rows c.args.row c.index-as_slice-row.result c.as_slice.ensures c.index-as_slice-row.is in
    let row = row_planned s.eq.now s.rule.now s.plan.now c.args.pool.now s.empty c.index-as_slice-row.result c.args.row c.requires.setting c.requires.row item in
    rw c.as_slice-2.ensures (row_decorable s.eq.now s.rule.now s.plan.now c.row_stems.new.pool row.0 c.index-as_slice-row.result.most (length c.args.levels.now) c.in_ok-stems.stems (c.in_ok-stems.ensures.grown.types ∙ c.requires.setting.types) c.requires.setting.equation.types.scaling.most row.2.most
    (c.in_ok-stems.ensures.stems row.0 row.1) c.in_ok-stems.ensures.known)

pub wholes_of-requires-clause-keeping : goal.wholes_of-requires-clause-keeping
wholes_of-requires-clause-keeping c = keeping-grown c.args.pool.now c.row_stems.new.pool c.args.found.now _ c.in_ok-stems.ensures.grown c.requires.found.keeping

pub returns-in_err-wholes-clause-many : goal.returns-in_err-wholes-clause-many
returns-in_err-wholes-clause-many c =
    let s = c.args.setting.now in
    let first = c.args.pool.now in
    let then = c.row_stems.new.pool in
    let p = c.index-as_slice-row.result in
    let item = row_item c.as_slice.result.now s.plan.now.rows c.args.row p c.as_slice.ensures c.index-as_slice-row.is in
    let row = row_planned s.eq.now s.rule.now s.plan.now first s.empty p c.args.row c.requires.setting c.requires.row item in
    let types = c.in_ok-stems.ensures.grown.types ∙ c.requires.setting.types in
    let ts = decorated_all then.types p.most (stem_trees then c.as_slice-2.result.now) in
    let wholes = made_wholes s.eq.now s.rule.now s.plan.now then row.0 p.most (length c.args.levels.now) c.as_slice-2.result.now c.in_ok-stems.stems types c.requires.setting.equation.types.scaling.most row.2.most (c.in_ok-stems.ensures.stems row.0 row.1) c.as_slice-2.ensures in
    let many : c.in_err-wholes.field-0.0 ≡ TooManyTrees → HasTooManyTrees s.eq.now s.rule.now =
    λ e. row_many s.eq.now s.rule.now s.plan.now first then c.args.found.now ts c.in_ok-stems.ensures.grown c.requires.found.keeping.found types
    (any_of s.eq.now s.rule.now s.plan.now row.0 (length c.args.levels.now) ts (member_of s.rule.now.rows c.args.row row.0 row.1) wholes) c.requires.found.sound (c.in_err-wholes.ensures.many e) in
    search rules

pub returns-clause-level : goal.returns-clause-level
returns-clause-level c =
    λ r is.
    let s = c.args.setting.now in
    let then = c.row_stems.new.pool in
    let p = c.index-as_slice-row.result in
    let item = row_item c.as_slice.result.now s.plan.now.rows c.args.row p c.as_slice.ensures c.index-as_slice-row.is in
    let planned = row_planned_at s.eq.now s.rule.now s.plan.now c.args.pool.now s.empty p c.args.row r c.requires.setting c.requires.row item is in
    row_made s.eq.now s.rule.now s.plan.now then c.wholes_of.new.pool p r (length c.args.levels.now) c.in_ok-stems.stems c.in_ok-wholes.wholes.items _ c.in_ok-wholes.ensures.grown (c.in_ok-stems.ensures.grown.types ∙ c.requires.setting.types) c.requires.setting.equation.types.scaling.most planned
    (c.in_ok-stems.ensures.stems r is) c.in_ok-stems.ensures.known c.in_ok-wholes.ensures.keeping.wholes (rw c.as_slice-2.ensures at c.in_ok-wholes.ensures.trees) refl refl c.from_vec.ensures (subst (λ is. IsLeast c.wholes_of.new.pool is c.least_degree-least.result) c.as_slice-3.ensures.value c.least_degree-least.ensures)

pub returns-clause-found : goal.returns-clause-found
returns-clause-found c =
    let s = c.args.setting.now in
    let first = c.args.pool.now in
    let then = c.row_stems.new.pool in
    let p = c.index-as_slice-row.result in
    let item = row_item c.as_slice.result.now s.plan.now.rows c.args.row p c.as_slice.ensures c.index-as_slice-row.is in
    let row = row_planned s.eq.now s.rule.now s.plan.now first s.empty p c.args.row c.requires.setting c.requires.row item in
    let types = c.in_ok-stems.ensures.grown.types ∙ c.requires.setting.types in
    let ts = decorated_all then.types p.most (stem_trees then c.as_slice-2.result.now) in
    let wholes = made_wholes s.eq.now s.rule.now s.plan.now then row.0 p.most (length c.args.levels.now) c.as_slice-2.result.now c.in_ok-stems.stems types c.requires.setting.equation.types.scaling.most row.2.most (c.in_ok-stems.ensures.stems row.0 row.1) c.as_slice-2.ensures in record {
      keeping = keeping_none s.eq.now s.rule.now s.plan.now c.wholes_of.new.pool c.wholes_of.new.found c.in_ok-wholes.wholes.items c.in_ok-wholes.ensures.keeping;
      sound = row_sound s.eq.now s.rule.now s.plan.now first then c.wholes_of.new.pool c.args.found.now c.wholes_of.new.found ts c.in_ok-stems.ensures.grown c.requires.found.keeping.found types
          (any_of s.eq.now s.rule.now s.plan.now row.0 (length c.args.levels.now) ts (member_of s.rule.now.rows c.args.row row.0 row.1) wholes) c.requires.found.sound c.in_ok-wholes.ensures.gathered;
    }

pub returns-clause-covered : goal.returns-clause-covered
returns-clause-covered c =
    λ r is t whole count.
    let s = c.args.setting.now in
    let first = c.args.pool.now in
    let then = c.row_stems.new.pool in
    let p = c.index-as_slice-row.result in
    let item = row_item c.as_slice.result.now s.plan.now.rows c.args.row p c.as_slice.ensures c.index-as_slice-row.is in
    let planned = row_planned_at s.eq.now s.rule.now s.plan.now first s.empty p c.args.row r c.requires.setting c.requires.row item is in
    let types = c.in_ok-stems.ensures.grown.types ∙ c.requires.setting.types in
    let ts = decorated_all then.types p.most (stem_trees then c.as_slice-2.result.now) in
    let wholes = made_wholes s.eq.now s.rule.now s.plan.now then r p.most (length c.args.levels.now) c.as_slice-2.result.now c.in_ok-stems.stems types c.requires.setting.equation.types.scaling.most planned.most (c.in_ok-stems.ensures.stems r is) c.as_slice-2.ensures in
    row_covers s.eq.now s.rule.now s.plan.now first then c.wholes_of.new.pool c.args.found.now c.wholes_of.new.found ts t c.in_ok-stems.ensures.grown c.requires.found.keeping.found types c.in_ok-wholes.ensures.gathered (wholes.whole t whole count)

pub returns-clause-more : goal.returns-clause-more
returns-clause-more c =
    let s = c.args.setting.now in
    let then = c.row_stems.new.pool in
    let ts = decorated_all then.types c.index-as_slice-row.result.most (stem_trees then c.as_slice-2.result.now) in
    row_more s.eq.now s.rule.now s.plan.now c.args.pool.now then c.wholes_of.new.pool c.args.found.now c.wholes_of.new.found ts c.in_ok-stems.ensures.grown c.requires.found.keeping.found (c.in_ok-stems.ensures.grown.types ∙ c.requires.setting.types) c.in_ok-wholes.ensures.gathered
