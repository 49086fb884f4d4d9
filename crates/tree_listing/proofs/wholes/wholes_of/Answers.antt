use Rattle.std.proofs.Common.{◌≡◌, ◌∙◌, get_or, rules}
use Rattle.tree_pool.proofs.Growth.{grown_trans}
use Rattle.tree_pool.specs.Content.{tree_at}
use Rattle.tree_listing.specs.declared.level.Stem.{Stem}
use Rattle.tree_listing.specs.declared.refusal.ListRefusal.TheVariants.{TooManyTrees}
use Rattle.tree_listing.specs.Gathered.{IsOverfull, gathered, room_of}
use Rattle.tree_listing.proofs.Keeping.{decorable-grown, kept_all, roots_same, taken, stems_overfull, stems_trees, stems_gathered, all_of}
use Rattle.tree_listing.proofs.wholes.wholes_of.Goals as goal

abbrev no_stem : Stem
no_stem = record { id = record { 0 = 0 }; node = 0 }

pub put_wholes-requires-clause-kept : goal.put_wholes-requires-clause-kept
put_wholes-requires-clause-kept c =
    let now = c.loop-stem.pool in
    let s = get_or c.args.stems.now c.loop-stem.stem-index no_stem in
    let here = decorable-grown c.args.pool.now now c.args.most.now s c.loop-stem.invariant.grown (c.requires.stems c.loop-stem.stem-index no_stem c.loop-stem-test.true) in
    let same = roots_same c.types.result.now now.types c.room_of-room.result (room_of now.types c.args.most.now (tree_at now s.id.0)) c.types.ensures.types c.room_of-room.ensures.room in
    kept_all now c.args.most.now s c.as_slice.result.now here (c.as_slice.ensures.value ∙ c.in_ok-roots.ensures ∙ same)

pub returns-in_err-put_wholes-clause-many : goal.returns-in_err-put_wholes-clause-many
returns-in_err-put_wholes-clause-many c =
    let first = c.args.pool.now in
    let now = c.loop-stem.pool in
    let s = get_or c.args.stems.now c.loop-stem.stem-index no_stem in
    let here = c.requires.stems c.loop-stem.stem-index no_stem c.loop-stem-test.true in
    let same = roots_same c.types.result.now now.types c.room_of-room.result (room_of now.types c.args.most.now (tree_at now s.id.0)) c.types.ensures.types c.room_of-room.ensures.room in
    let took = taken first now c.args.most.now c.args.stems.now c.loop-stem.stem-index no_stem c.as_slice.result.now c.loop-stem.invariant.grown here.id (c.as_slice.ensures.value ∙ c.in_ok-roots.ensures ∙ same) in
    let many : c.in_err-put_wholes.field-0.0 ≡ TooManyTrees → IsOverfull first.types (gathered first c.args.found.now) (all_of first c.args.most.now c.args.stems.now) =
    λ e. stems_overfull first now (gathered first c.args.found.now) (gathered now c.loop-stem.found) c.args.most.now c.args.stems.now c.loop-stem.stem-index no_stem _ c.loop-stem-test.true c.loop-stem.invariant.grown c.loop-stem.invariant.gathered took (c.in_err-put_wholes.ensures.many e) in
    search rules

pub loop-stem-preserved : goal.loop-stem-preserved
loop-stem-preserved c =
    let first = c.args.pool.now in
    let now = c.loop-stem.pool in
    let s = get_or c.args.stems.now c.loop-stem.stem-index no_stem in
    let here = c.requires.stems c.loop-stem.stem-index no_stem c.loop-stem-test.true in
    let same = roots_same c.types.result.now now.types c.room_of-room.result (room_of now.types c.args.most.now (tree_at now s.id.0)) c.types.ensures.types c.room_of-room.ensures.room in
    let took = taken first now c.args.most.now c.args.stems.now c.loop-stem.stem-index no_stem c.as_slice.result.now c.loop-stem.invariant.grown here.id (c.as_slice.ensures.value ∙ c.in_ok-roots.ensures ∙ same) in record {
      grown = grown_trans first now c.put_wholes.new.pool c.loop-stem.invariant.grown c.in_ok-put_wholes.ensures.grown;
      trees = stems_trees first c.args.most.now c.args.stems.now c.loop-stem.stem-index no_stem _ _ _ c.loop-stem-test.true c.loop-stem.invariant.trees took c.in_ok-put_wholes.ensures.trees;
      gathered = stems_gathered first now c.args.most.now c.args.stems.now c.loop-stem.stem-index no_stem (gathered first c.args.found.now) _ _ _ c.loop-stem-test.true c.loop-stem.invariant.grown c.loop-stem.invariant.gathered took c.in_ok-put_wholes.ensures.gathered;
      keeping = c.in_ok-put_wholes.ensures.keeping;
    }
