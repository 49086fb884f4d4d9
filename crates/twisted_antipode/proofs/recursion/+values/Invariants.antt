use Rattle.std.proofs.Common.{◌≡◌, ℕ, ◌+◌, ◌*◌, ◌≤◌, ◌++◌, List, [], ◌∷◌, drop, length}
use Rattle.std.specs.List.{AllByRecursion}
use Rattle.plain_trees.specs.Plain.{Plain}
use Rattle.plain_trees.specs.Coproducts.{Extracted}
use Rattle.tree_pool.specs.Content.{tree_at, trees_of}
use Rattle.extraction_coproduct.specs.Finished.{coproduct_of, grove_of, AreGrown}
use Rattle.extraction_coproduct.specs.Terms.{AreKnownTerms}
use Rattle.antipode_laws.specs.Weighed.{Weighed}
use Rattle.twisted_antipode.specs.RunTerms.{IsCoefficient}
use Rattle.twisted_antipode.specs.Values.{IsKept, IsValueOf, forest_weighed}
use Rattle.twisted_antipode.specs.Counts.{IsCountOf, AreFinishedOver}
use Rattle.twisted_antipode.specs.Known.{IsGood, IsKnownMore, pairs_in, other_pairs, part_value, rank}
use Rattle.twisted_antipode.proofs.recursion.+values.Given as goal

abbrev pub decreases-value_at : goal.decreases-value_at
decreases-value_at l = 5 * rank (tree_at l.tables.now.pool l.id.0) + 4

abbrev pub decreases-new_value : goal.decreases-new_value
decreases-new_value l = 5 * rank (tree_at l.tables.now.pool l.id.0) + 3

abbrev pub decreases-sum_of_runs : goal.decreases-sum_of_runs
decreases-sum_of_runs l = 5 * rank (tree_at l.tables.now.pool l.id.0) + 2

abbrev pub decreases-with_run : goal.decreases-with_run
decreases-with_run l = 5 * rank (tree_at l.tables.now.pool l.id.0) + 1

abbrev pub decreases-forest_value : goal.decreases-forest_value
decreases-forest_value l = 5 * rank (tree_at l.tables.now.pool l.id.0)

abbrev pub invariant-sum_of_runs-loop-left : goal.invariant-sum_of_runs-loop-left
invariant-sum_of_runs-loop-left l = record {
  kept : IsKept l.total;
  done : List (Extracted × ℕ);
  terms : done ++ pairs_in (grove_of l.tables) l.left ≡ coproduct_of l.fn.tables.pool l.id.0;
  value : (a : Plain → Weighed) → IsGood l.reading l.fn.tables.pool l.fn.memo a →
      IsValueOf (part_value l.reading l.fn.tables.pool.types a (other_pairs (tree_at l.fn.tables.pool l.id.0) done)) l.total;
  listed : AreKnownTerms (grove_of l.tables) l.left;
  numbers : AllByRecursion (λ e. IsCoefficient e.coefficient) l.left;
  more : IsKnownMore l.reading l.fn.tables.pool l.tables.pool l.fn.memo l.memo;
  grown : AreGrown l.fn.tables l.tables;
  counted : IsCountOf l.fn.tables l.tables l.fn.work.tables l.work.tables;
  finished : AreFinishedOver l.fn.tables l.tables l.fn.memo (tree_at l.fn.tables.pool l.id.0 ∷ []);
}

abbrev pub decreases-sum_of_runs-loop-left : goal.decreases-sum_of_runs-loop-left
decreases-sum_of_runs-loop-left l = length l.left

abbrev pub invariant-forest_value-loop-i : goal.invariant-forest_value-loop-i
invariant-forest_value-loop-i l = record {
  most : l.i ≤ length l.trees;
  kept : IsKept l.all;
  value : (a : Plain → Weighed) → IsGood l.reading l.fn.tables.pool l.fn.memo a → IsValueOf (forest_weighed a (trees_of l.fn.tables.pool (drop l.i l.trees))) l.all;
  more : IsKnownMore l.reading l.fn.tables.pool l.tables.pool l.fn.memo l.memo;
  grown : AreGrown l.fn.tables l.tables;
  counted : IsCountOf l.fn.tables l.tables l.fn.work.tables l.work.tables;
  finished : AreFinishedOver l.fn.tables l.tables l.fn.memo (trees_of l.fn.tables.pool l.trees);
}

abbrev pub decreases-forest_value-loop-i : goal.decreases-forest_value-loop-i
decreases-forest_value-loop-i l = l.i
