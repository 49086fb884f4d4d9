use Rattle.std.proofs.Common.{arith}
use Rattle.type_contexts.proofs.Decided.{directions_at}
use Rattle.type_contexts.proofs.file_types.are_directions.Goals as goal
use Rattle.type_contexts.proofs.file_types.are_directions.Goals.{then-direction-past-via-then-direction-past, then-direction-past-via-else-direction-past+then-direction-dims}

pub returns-then-direction-past : goal.returns-then-direction-past
returns-then-direction-past c = (
  λ t. absurd cc,
  λ h. let at = directions_at c.loop-direction.past c.args.dims c.args.directions.now c.loop-direction.direction-index c.loop-direction-test.true (c.loop-direction.invariant.0 h) in
      elim c.then-direction-past.branch [
        | then-direction-past-via-then-direction-past w ↦ absurd (omega (arith, at.0, w.if-direction-past.true))
        | then-direction-past-via-else-direction-past+then-direction-dims w ↦ absurd (omega (arith, at.1, w.if-direction-dims.true))
      ],
)
