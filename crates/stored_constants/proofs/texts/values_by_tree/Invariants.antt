use Rattle.std.proofs.Common.{◌≡◌, ℕ, List, map, take, option_map, bytes_eq}
use Rattle.std.specs.HashMap as hash
use Rattle.std.specs.FinMap.{find}
use Rattle.result_keeper.specs.Kept.{bytes_cmp}
use Rattle.result_keeper.specs.Entries.{pair_of}
use Rattle.stored_constants.proofs.texts.values_by_tree.Given as goal

-- the values of the rows so far
abbrev pub invariant-loop-row : goal.invariant-loop-row
invariant-loop-row l = (text : List ℕ) → option_map (λ v. v.now) (hash.get_by (λ k. bytes_eq text k.now) l.values) ≡ find bytes_cmp text (map pair_of (take l.row-index l.rows))
