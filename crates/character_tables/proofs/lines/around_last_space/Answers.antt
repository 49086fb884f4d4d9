use Rattle.character_tables.proofs.LastSpaces.{no_cut_left}
use Rattle.character_tables.proofs.lines.around_last_space.Goals as goal

pub returns : goal.returns
returns c = λ x y e. no_cut_left 32 c.args.line.now c.loop-at.at c.loop-at-test.false c.loop-at.invariant.behind x y e
