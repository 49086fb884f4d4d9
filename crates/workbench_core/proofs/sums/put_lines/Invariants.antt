use Rattle.std.proofs.Common.{◌≡◌, ◌++◌, take, flat_map}
use Rattle.characters.specs.Sums.{lines_over}
use Rattle.workbench_core.specs.Characters.{line_text}
use Rattle.workbench_core.proofs.sums.put_lines.Given as goal

-- the lines so far were written
abbrev pub invariant-loop-line : goal.invariant-loop-line
invariant-loop-line l = l.text.items ≡ l.fn.text.items ++ flat_map (line_text l.pool.types) (lines_over l.pool (take l.line-index l.lines))
