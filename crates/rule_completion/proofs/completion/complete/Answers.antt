use Rattle.std.proofs.Common.{◌≡◌, ℕ, ◌∙◌, subst, arith, rules}
use Rattle.std.specs.Option.{option_map}
use Rattle.normal_rule.specs.declared.rule.Rule.{Rule}
use Rattle.normal_rule.specs.Regularity.{IsGap}
use Rattle.conforming_trees.specs.Listed.{IsWholeList, IsFirstZero, HasTooManyTrees, HasTooLargeTree}
use Rattle.tree_pool.specs.Content.{tree_at}
use Rattle.tree_pool.specs.declared.node.TreeId.{TreeId}
use Rattle.tree_pool.proofs.Growth.{grown_refl, grown_trans}
use Rattle.rule_stages.specs.Stages.{IsNextStage}
use Rattle.rule_stages.proofs.ClosedCuttings.{closed_under_cutting}
use Rattle.rule_stages.proofs.KeptGap.{stage_gap}
use Rattle.rule_steps.specs.Steps.{trees_of}
use Rattle.rule_completion.specs.Reached.{IsReached, IsStageFault}
use Rattle.rule_completion.specs.declared.refusal.StageFault.{StageFault}
use Rattle.rule_completion.specs.declared.refusal.StageRefusal.TheVariants.{Stage}
use Rattle.rule_completion.proofs.Faults.{listing_refused, next_refused}
use Rattle.rule_completion.proofs.Stages.{same_stage, stage_small, other_counts, first_stage, at_rule, at_subcritical, at_count, at_same, reached_completion, next_at}
use Rattle.rule_completion.proofs.completion.complete.Goals as goal

pub loop-reached-init : goal.loop-reached-init
loop-reached-init c = record { grown = grown_refl c.args.pool.now; at = first_stage c.args.eq.now c.requires.equation c.args.base.now c.requires.normal }

pub list_stage-requires-clause-rule : goal.list_stage-requires-clause-rule
list_stage-requires-clause-rule c = let here = same_stage c.rule_of-rule.ensures c.loop-reached.invariant.at in at_rule c.args.eq.now c.requires.equation c.args.base.now c.normal_rule_is_rule.ensures c.loop-reached.stage c.rule_of-rule.result.now c.rule_of-rule.result.now here

pub list_stage-requires-clause-subcritical : goal.list_stage-requires-clause-subcritical
list_stage-requires-clause-subcritical c = let here = same_stage c.rule_of-rule.ensures c.loop-reached.invariant.at in at_subcritical c.args.eq.now c.requires.equation c.args.base.now c.normal_rule_is_rule.ensures c.loop-reached.stage c.rule_of-rule.result.now c.rule_of-rule.result.now here c.requires.subcritical

pub list_stage-requires-clause-types : goal.list_stage-requires-clause-types
list_stage-requires-clause-types c = c.loop-reached.invariant.grown.types ∙ c.requires.types

pub returns-in_err-listing-clause-refused : goal.returns-in_err-listing-clause-refused
returns-in_err-listing-clause-refused c =
    let here = same_stage c.rule_of-rule.ensures c.loop-reached.invariant.at in
    let fault : (j : ℕ) (what : StageFault) → c.in_err-listing.field-0.0 ≡ Stage j what → IsStageFault c.args.eq.now c.args.base.now j what =
    λ j what e. listing_refused c.args.eq.now c.args.base.now c.rule_of-rule.result.now c.loop-reached.stage j what here.reached (c.in_err-listing.ensures.refused j what e) in
    search rules

pub returns-in_err-listing-clause-grown : goal.returns-in_err-listing-clause-grown
returns-in_err-listing-clause-grown c = grown_trans c.args.pool.now c.loop-reached.pool c.list_stage.new.pool c.loop-reached.invariant.grown c.list_stage.ensures.grown

pub stage_after-requires-clause-rule : goal.stage_after-requires-clause-rule
stage_after-requires-clause-rule c = let here = same_stage c.rule_of-rule.ensures c.loop-reached.invariant.at in at_rule c.args.eq.now c.requires.equation c.args.base.now c.normal_rule_is_rule.ensures c.loop-reached.stage c.rule_of-rule.result.now c.rule_of-rule.result.now here

pub stage_after-requires-clause-small : goal.stage_after-requires-clause-small
stage_after-requires-clause-small c = let here = same_stage c.rule_of-rule.ensures c.loop-reached.invariant.at in stage_small c.args.eq.now c.args.base.now c.rule_of-rule.result.now c.loop-reached.stage here

pub stage_after-requires-clause-stage : goal.stage_after-requires-clause-stage
stage_after-requires-clause-stage c = let bound = c.loop-reached.invariant.at.bound in omega (arith, bound)

pub stage_after-requires-clause-types : goal.stage_after-requires-clause-types
stage_after-requires-clause-types c = c.list_stage.ensures.grown.types ∙ c.loop-reached.invariant.grown.types ∙ c.requires.types

pub returns-in_err-next-clause-refused : goal.returns-in_err-next-clause-refused
returns-in_err-next-clause-refused c =
    let here = same_stage c.rule_of-rule.ensures c.loop-reached.invariant.at in
    let fault : (j : ℕ) (what : StageFault) → c.in_err-next.field-0.0 ≡ Stage j what → IsStageFault c.args.eq.now c.args.base.now j what =
    λ j what e. next_refused c.args.eq.now c.args.base.now c.rule_of-rule.result.now c.loop-reached.stage j what here.reached record { few = c.in_ok-listing.ensures.few; fit = c.in_ok-listing.ensures.fit } (c.in_err-next.ensures.refused j what e) in
    search rules

pub returns-in_err-next-clause-grown : goal.returns-in_err-next-clause-grown
returns-in_err-next-clause-grown c = grown_trans c.args.pool.now c.loop-reached.pool c.list_stage.new.pool c.loop-reached.invariant.grown c.list_stage.ensures.grown

pub node_type_count-requires-in-loop-reached : goal.node_type_count-requires-in-loop-reached
node_type_count-requires-in-loop-reached c = let here = same_stage c.rule_of-rule.ensures c.loop-reached.invariant.at in at_count c.args.eq.now c.requires.equation c.args.base.now c.normal_rule_is_rule.ensures c.loop-reached.stage c.rule_of-rule.result.now c.in_ok-next.next here c.in_ok-next.ensures.next c.in_ok-next.ensures.few

pub returns-then-node_type_count-clause-completion : goal.returns-then-node_type_count-clause-completion
returns-then-node_type_count-clause-completion c =
    let here = same_stage c.rule_of-rule.ensures c.loop-reached.invariant.at in
    let same = at_same c.args.eq.now c.requires.equation c.args.base.now c.normal_rule_is_rule.ensures c.loop-reached.stage c.rule_of-rule.result.now c.in_ok-next.next here c.in_ok-next.ensures.next c.node_type_count.ensures c.node_type_count-in-loop-reached.ensures c.if-node_type_count.true in
    reached_completion c.args.eq.now c.requires.equation c.args.base.now c.loop-reached.stage c.rule_of-rule.result.now c.in_ok-next.next here.reached c.in_ok-next.ensures.next same

pub returns-then-node_type_count-clause-reached : goal.returns-then-node_type_count-clause-reached
returns-then-node_type_count-clause-reached c =
    let here = same_stage c.rule_of-rule.ensures c.loop-reached.invariant.at in
    let same = at_same c.args.eq.now c.requires.equation c.args.base.now c.normal_rule_is_rule.ensures c.loop-reached.stage c.rule_of-rule.result.now c.in_ok-next.next here c.in_ok-next.ensures.next c.node_type_count.ensures c.node_type_count-in-loop-reached.ensures c.if-node_type_count.true in
    subst (IsReached c.args.eq.now c.args.base.now c.loop-reached.stage) same here.reached

pub returns-then-node_type_count-clause-trees : goal.returns-then-node_type_count-clause-trees
returns-then-node_type_count-clause-trees c =
    let here = same_stage c.rule_of-rule.ensures c.loop-reached.invariant.at in
    let same = at_same c.args.eq.now c.requires.equation c.args.base.now c.normal_rule_is_rule.ensures c.loop-reached.stage c.rule_of-rule.result.now c.in_ok-next.next here c.in_ok-next.ensures.next c.node_type_count.ensures c.node_type_count-in-loop-reached.ensures c.if-node_type_count.true in
    subst (λ (r : Rule). IsWholeList c.args.eq.now r (trees_of c.list_stage.new.pool c.in_ok-listing.listing.trees)) same c.in_ok-listing.ensures.trees

pub returns-then-node_type_count-clause-zero : goal.returns-then-node_type_count-clause-zero
returns-then-node_type_count-clause-zero c =
    let here = same_stage c.rule_of-rule.ensures c.loop-reached.invariant.at in
    let same = at_same c.args.eq.now c.requires.equation c.args.base.now c.normal_rule_is_rule.ensures c.loop-reached.stage c.rule_of-rule.result.now c.in_ok-next.next here c.in_ok-next.ensures.next c.node_type_count.ensures c.node_type_count-in-loop-reached.ensures c.if-node_type_count.true in
    subst (λ (r : Rule). IsFirstZero c.args.eq.now r (option_map (λ (id : TreeId). tree_at c.list_stage.new.pool id.0) c.in_ok-listing.listing.zero)) same c.in_ok-listing.ensures.zero

pub returns-then-node_type_count-clause-few : goal.returns-then-node_type_count-clause-few
returns-then-node_type_count-clause-few c =
    let here = same_stage c.rule_of-rule.ensures c.loop-reached.invariant.at in
    let same = at_same c.args.eq.now c.requires.equation c.args.base.now c.normal_rule_is_rule.ensures c.loop-reached.stage c.rule_of-rule.result.now c.in_ok-next.next here c.in_ok-next.ensures.next c.node_type_count.ensures c.node_type_count-in-loop-reached.ensures c.if-node_type_count.true in
    subst (λ (r : Rule). HasTooManyTrees c.args.eq.now r → ⊥) same c.in_ok-listing.ensures.few

pub returns-then-node_type_count-clause-fit : goal.returns-then-node_type_count-clause-fit
returns-then-node_type_count-clause-fit c =
    let here = same_stage c.rule_of-rule.ensures c.loop-reached.invariant.at in
    let same = at_same c.args.eq.now c.requires.equation c.args.base.now c.normal_rule_is_rule.ensures c.loop-reached.stage c.rule_of-rule.result.now c.in_ok-next.next here c.in_ok-next.ensures.next c.node_type_count.ensures c.node_type_count-in-loop-reached.ensures c.if-node_type_count.true in
    subst (λ (r : Rule). HasTooLargeTree c.args.eq.now r → ⊥) same c.in_ok-listing.ensures.fit

pub returns-then-node_type_count-clause-gap : goal.returns-then-node_type_count-clause-gap
returns-then-node_type_count-clause-gap c =
    let here = same_stage c.rule_of-rule.ensures c.loop-reached.invariant.at in
    let same = at_same c.args.eq.now c.requires.equation c.args.base.now c.normal_rule_is_rule.ensures c.loop-reached.stage c.rule_of-rule.result.now c.in_ok-next.next here c.in_ok-next.ensures.next c.node_type_count.ensures c.node_type_count-in-loop-reached.ensures c.if-node_type_count.true in
    λ g gap. subst (λ (r : Rule). IsGap c.args.eq.now r g) same (stage_gap c.args.eq.now c.args.base.now c.rule_of-rule.result.now c.loop-reached.stage g c.normal_rule_is_rule.ensures c.requires.subcritical gap here.reached.stage)

pub returns-then-node_type_count-clause-closed : goal.returns-then-node_type_count-clause-closed
returns-then-node_type_count-clause-closed c =
    let here = same_stage c.rule_of-rule.ensures c.loop-reached.invariant.at in
    let same = at_same c.args.eq.now c.requires.equation c.args.base.now c.normal_rule_is_rule.ensures c.loop-reached.stage c.rule_of-rule.result.now c.in_ok-next.next here c.in_ok-next.ensures.next c.node_type_count.ensures c.node_type_count-in-loop-reached.ensures c.if-node_type_count.true in
    λ t listed. closed_under_cutting c.args.eq.now c.in_ok-next.next t c.requires.equation c.in_ok-next.ensures.next.is_rule (subst (λ (r : Rule). IsNextStage c.args.eq.now r c.in_ok-next.next) same c.in_ok-next.ensures.next) listed.candidate.types listed.candidate.conforming

pub returns-then-node_type_count-clause-grown : goal.returns-then-node_type_count-clause-grown
returns-then-node_type_count-clause-grown c = grown_trans c.args.pool.now c.loop-reached.pool c.list_stage.new.pool c.loop-reached.invariant.grown c.list_stage.ensures.grown

pub overflow_add-stage : goal.overflow_add-stage
overflow_add-stage c = let bound = c.loop-reached.invariant.at.bound in omega (arith, bound)

pub loop-reached-smaller : goal.loop-reached-smaller
loop-reached-smaller c = let bound = c.loop-reached.invariant.at.bound in omega (arith, bound)

pub loop-reached-preserved : goal.loop-reached-preserved
loop-reached-preserved c =
    let here = same_stage c.rule_of-rule.ensures c.loop-reached.invariant.at in
    let other = other_counts c.node_type_count.ensures c.node_type_count-in-loop-reached.ensures c.if-node_type_count.false in
    record {
      grown = grown_trans c.args.pool.now c.loop-reached.pool c.list_stage.new.pool c.loop-reached.invariant.grown c.list_stage.ensures.grown;
      at = next_at c.args.eq.now c.requires.equation c.args.base.now c.normal_rule_is_rule.ensures c.loop-reached.stage c.rule_of-rule.result.now c.in_ok-next.next here c.in_ok-next.ensures.next c.in_ok-next.ensures.few other c.in_ok-listing.ensures.few c.in_ok-listing.ensures.fit;
    }
