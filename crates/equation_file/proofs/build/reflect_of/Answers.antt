use Rattle.std.proofs.Common.{◌+◌, ◌++◌, ◌∷◌, [], cond, arith, sym, ap, ◌∙◌}
use Rattle.equation_file.specs.Meaning.{is_written}
use Rattle.equation_file.proofs.DirectionLemmas.{directions_more}
use Rattle.equation_file.proofs.build.reflect_of.Goals as goal

pub loop-before-preserved : goal.loop-before-preserved
loop-before-preserved c =
    let next = c.loop-before.before + 1 in
    c.in_ok-add_direction.ensures ∙ ap (λ xs. xs ++ cond (is_written c.args.written.now next) (next ∷ []) []) c.loop-before.invariant ∙ sym (directions_more (is_written c.args.written.now) 1 c.loop-before.before next (omega arith))
