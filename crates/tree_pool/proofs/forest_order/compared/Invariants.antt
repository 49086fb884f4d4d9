use Rattle.std.proofs.Common.{◌≡◌, drop, length}
use Rattle.std.specs.Cmp.Lexicographic.{slice_cmp}
use Rattle.tree_pool.specs.Content.{id_order}
use Rattle.tree_pool.specs.Forests.{numbers}
use Rattle.tree_pool.proofs.forest_order.compared.Given as goal

abbrev pub invariant-loop-i : goal.invariant-loop-i
invariant-loop-i l =
    record {
      long : length l.xs ≡ length l.ys;
      left : slice_cmp (id_order l.pool.trees) (numbers (drop l.i l.xs)) (numbers (drop l.i l.ys)) ≡ slice_cmp (id_order l.pool.trees) (numbers l.xs) (numbers l.ys);
    }
