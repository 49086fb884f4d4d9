use Rattle.std.proofs.Common.{arith, ap, ◌≡◌, ◌∙◌, length, List, ℕ, ◌++◌}
use Rattle.tree_pool.specs.Content.{tree_at}
use Rattle.gaussian_pairings.specs.Pairings.{numbered, pairs_of}
use Rattle.gaussian_pairings.specs.Vanishing.{noise_groups}
use Rattle.gaussian_pairings.proofs.NoiseCounts.{groups_within}
use Rattle.gaussian_pairings.proofs.PairingOrder.{length-numbered, are_pairings}
use Rattle.gaussian_pairings.proofs.pairing.pairings.Goals as goal

pub overflow_cast-result : goal.overflow_cast-result
overflow_cast-result c =
    let groups = noise_groups c.args.types.now (tree_at c.args.pool.now c.args.id.0) in
    let is : c.as_slice-groups.result.now ≡ groups = c.as_slice-groups.ensures.value ∙ c.in_ok-put_groups.ensures ∙ ap (λ (gs : List ℕ). gs ++ groups) c.new-groups.ensures.items in
    omega (arith, ap length is, groups_within c.args.types.now c.args.pool.now c.args.id.0 c.laws.ensures c.requires.known)

pub returns-then-groups-gt-MOST_NOISES-clause-refusal : goal.returns-then-groups-gt-MOST_NOISES-clause-refusal
returns-then-groups-gt-MOST_NOISES-clause-refusal c =
    let groups = noise_groups c.args.types.now (tree_at c.args.pool.now c.args.id.0) in
    let is : c.as_slice-groups.result.now ≡ groups = c.as_slice-groups.ensures.value ∙ c.in_ok-put_groups.ensures ∙ ap (λ (gs : List ℕ). gs ++ groups) c.new-groups.ensures.items in
    let long = length-numbered 1 groups in
    (omega (arith, ap length is, long), omega (arith, ap length is, long))

pub returns-clause-pairings : goal.returns-clause-pairings
returns-clause-pairings c =
    let groups = noise_groups c.args.types.now (tree_at c.args.pool.now c.args.id.0) in
    let is : c.as_slice-groups.result.now ≡ groups = c.as_slice-groups.ensures.value ∙ c.in_ok-put_groups.ensures ∙ ap (λ (gs : List ℕ). gs ++ groups) c.new-groups.ensures.items in
    let noises : c.as_slice.result.now ≡ numbered 1 groups = c.as_slice.ensures.value ∙ c.in_ok-noises.ensures ∙ ap (numbered 1) is in
    are_pairings groups c.as_slice.result.now (pairs_of c.new-all.result.items) (pairs_of c.put_pairings.new.all.items) noises (ap pairs_of c.new-all.ensures.items) c.in_ok-put_pairings.ensures

pub returns-clause-few : goal.returns-clause-few
returns-clause-few c =
    let groups = noise_groups c.args.types.now (tree_at c.args.pool.now c.args.id.0) in
    let is : c.as_slice-groups.result.now ≡ groups = c.as_slice-groups.ensures.value ∙ c.in_ok-put_groups.ensures ∙ ap (λ (gs : List ℕ). gs ++ groups) c.new-groups.ensures.items in
    omega (arith, ap length is, length-numbered 1 groups)
