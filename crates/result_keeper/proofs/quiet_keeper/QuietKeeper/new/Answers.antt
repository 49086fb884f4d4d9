use Rattle.std.proofs.Common.{map, sym, subst}
use Rattle.std.specs.List.{IsDistinct}
use Rattle.result_keeper.specs.Kept.{bytes_cmp, row_cmp}
use Rattle.result_keeper.specs.Entries.{AreApart, project_entry, row_entry}
use Rattle.result_keeper.proofs.quiet_keeper.QuietKeeper.new.Goals as goal

pub new-requires-3-clause-names : goal.new-requires-3-clause-names
unfolding IsDistinct
new-requires-3-clause-names c = subst (λ ps. AreApart bytes_cmp (map project_entry ps)) (sym c.new.ensures.items) tt

pub new-requires-3-clause-rows : goal.new-requires-3-clause-rows
unfolding IsDistinct
new-requires-3-clause-rows c = subst (λ rs. AreApart row_cmp (map row_entry rs)) (sym c.new-2.ensures.items) tt
