use Rattle.std.proofs.Common.{◌≡◌, ◌++◌, drop, flat_map, codes}
use Rattle.gaussian_pairings.specs.Pairings.{pairs_of}
use Rattle.tree_details.specs.Detail.{pairing_line, section}
use Rattle.tree_details.proofs.pairings.put_pairings.Given as goal

abbrev pub invariant-loop-pairing : goal.invariant-loop-pairing
invariant-loop-pairing l = l.out.items ++ flat_map pairing_line (pairs_of (drop l.pairing-index l.pairings)) ≡ l.fn.out.items ++ section (codes "pairings ") pairing_line (pairs_of l.pairings)
