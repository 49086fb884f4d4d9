use Rattle.std.proofs.Common.{get_or}
use Rattle.std.proofs.lemmas.List.{get_or_default}
use Rattle.tree_pool.specs.Content.{tree_at, trees_of}
use Rattle.tree_pool.specs.declared.TreeId.{TreeId}
use Rattle.antipode_laws.proofs.OtherTerms.{member_of}
use Rattle.twisted_antipode.specs.Held.{held_over}
use Rattle.vanishing_constants.specs.Zeros.{IsKnownZero}
use Rattle.vanishing_constants.proofs.HeldZeros.{listed_tree}
use Rattle.vanishing_constants.proofs.zeros.are_zeros.Goals as goal

abbrev blank : TreeId
blank = record { 0 = 0 }

pub returns-then-not-is_zero : goal.returns-then-not-is_zero
returns-then-not-is_zero c =
    let pool = c.args.pool.now in
    let ids = c.args.ids.now in
    let i = c.loop-id.id-index in
    let below = c.loop-id-test.true in
    let id = get_or ids i blank in (
      λ e. absurd cc,
      λ all.
          let one = member_of (IsKnownZero pool.types (held_over pool c.args.constants.now)) (trees_of pool ids) (tree_at pool id.0) all (listed_tree pool ids i id below (get_or_default ids i blank id below)) in
          let yes = c.is_zero.ensures.1 one in
          let no = c.if-not-is_zero.true in
          absurd cc,
    )
