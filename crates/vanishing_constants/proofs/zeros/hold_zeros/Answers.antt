use Rattle.std.proofs.Common.{List, get_or, refl, subst}
use Rattle.std.proofs.lemmas.List.{get_or_default, take_all}
use Rattle.tree_pool.specs.Content.{tree_at, trees_of}
use Rattle.tree_pool.specs.declared.TreeId.{TreeId}
use Rattle.antipode_laws.proofs.OtherTerms.{member_of}
use Rattle.plain_trees.specs.Degree.{HasTypes}
use Rattle.vanishing_constants.proofs.HeldZeros.{IsZeroSoFar, trees_typed, constant_zero, listed_tree, known_at, zero_next, all_zero}
use Rattle.vanishing_constants.proofs.zeros.hold_zeros.Goals as goal

abbrev blank : TreeId
blank = record { 0 = 0 }

pub loop-id-preserved : goal.loop-id-preserved
loop-id-preserved c =
    let pool = c.args.pool.now in
    let hs = c.args.constants.now in
    let ids = c.args.ids.now in
    let i = c.loop-id.id-index in
    let below = c.loop-id-test.true in
    let id = get_or ids i blank in
    let is = get_or_default ids i blank id below in
    let typed = trees_typed pool pool.types ids c.laws.ensures refl c.requires.known in
    let known = c.are_zeros.ensures.0 (let e = c.if-not-are_zeros.false in cc) in
    zero_next pool hs c.loop-id.constants c.hold_zero.new.constants ids i id c.laws.ensures below is (known_at pool ids i id c.requires.known below is)
    (λ v. constant_zero c.small_coefficients_are_in_range.ensures.range pool hs (trees_of pool ids) c.laws.ensures typed c.requires.closed known (tree_at pool id.0) (listed_tree pool ids i id below is) v)
    c.in_ok-hold_zero.ensures.held c.loop-id.invariant

pub returns-clause-zeros : goal.returns-clause-zeros
returns-clause-zeros c = λ known t j v.
    let pool = c.args.pool.now in
    let hs = c.args.constants.now in
    let ids = c.args.ids.now in
    let ts = trees_of pool ids in
    let typed = trees_typed pool pool.types ids c.laws.ensures refl c.requires.known in
    all_zero pool hs c.loop-id.constants ts t (subst (λ (js : List TreeId). IsZeroSoFar pool hs c.loop-id.constants (trees_of pool js)) (take_all c.loop-id.id-index ids c.loop-id-test.false) c.loop-id.invariant)
    (member_of (HasTypes pool.types) ts t typed j) j v
    (constant_zero c.small_coefficients_are_in_range.ensures.range pool hs ts c.laws.ensures typed c.requires.closed known t j v)
