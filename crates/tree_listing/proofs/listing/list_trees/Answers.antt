use Rattle.std.proofs.Common.{◌≡◌, arith, rules}
use Rattle.conforming_trees.specs.Listed.{HasTooManyTrees, HasTooLargeTree}
use Rattle.tree_listing.specs.declared.refusal.ListRefusal.TheVariants.{TreeTooLarge}
use Rattle.tree_listing.specs.Gathered.{gathered}
use Rattle.tree_listing.proofs.Listings.{whole_list, first_zero, not_many}
use Rattle.tree_listing.proofs.Places.{length-trees}
use Rattle.tree_listing.proofs.listing.list_trees.Goals as goal

pub returns-in_err-found-clause-large : goal.returns-in_err-found-clause-large
returns-in_err-found-clause-large c =
    let never : c.in_err-found.field-0.0 ≡ TreeTooLarge → HasTooLargeTree c.args.eq.now c.args.rule.now = λ e. absurd (c.in_err-found.ensures.large e) in
    search rules

pub returns-in_err-found-clause-not_many : goal.returns-in_err-found-clause-not_many
returns-in_err-found-clause-not_many c =
    let never : c.in_err-found.field-0.0 ≡ TreeTooLarge → HasTooManyTrees c.args.eq.now c.args.rule.now → ⊥ = λ e. absurd (c.in_err-found.ensures.large e) in
    search rules

pub returns-then-branch-clause-not_many : goal.returns-then-branch-clause-not_many
returns-then-branch-clause-not_many c =
    let pool = c.gather.new.pool in
    let found = c.in_ok-found.found in
    let few = c.in_ok-found.ensures.found.keeping.few in
    λ _. not_many c.args.eq.now c.args.rule.now c.in_ok-plan.plan (gathered pool found) c.in_ok-plan.ensures c.in_ok-found.ensures.covered c.in_ok-found.ensures.found.sound (omega (arith, few, length-trees pool found.listed.items))

pub returns-clause-trees : goal.returns-clause-trees
returns-clause-trees c =
    rw c.from_vec.ensures
    (whole_list c.args.eq.now c.args.rule.now c.in_ok-plan.plan (gathered c.gather.new.pool c.in_ok-found.found) c.in_ok-plan.ensures c.in_ok-found.ensures.covered c.in_ok-found.ensures.found.sound (c.in_ok-has_too_large_tree.ensures.no c.if-branch.false))

pub returns-clause-zero : goal.returns-clause-zero
returns-clause-zero c =
    first_zero c.args.eq.now c.args.rule.now c.in_ok-plan.plan (gathered c.gather.new.pool c.in_ok-found.found) c.in_ok-plan.ensures c.in_ok-found.ensures.covered c.in_ok-found.ensures.found.sound (c.in_ok-has_too_large_tree.ensures.no c.if-branch.false)

pub returns-clause-few : goal.returns-clause-few
returns-clause-few c =
    let pool = c.gather.new.pool in
    let found = c.in_ok-found.found in
    let few = c.in_ok-found.ensures.found.keeping.few in
    not_many c.args.eq.now c.args.rule.now c.in_ok-plan.plan (gathered pool found) c.in_ok-plan.ensures c.in_ok-found.ensures.covered c.in_ok-found.ensures.found.sound (omega (arith, few, length-trees pool found.listed.items))
