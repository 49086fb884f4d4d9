-- The ordered trees that are one tree, drawn with the edges of each node in some order.
--   node_factorials t == the product, over the nodes of t, of the factorial of the number of edges
--       that leave the node upward
--   factorials_above t == the same over the nodes other than the root
--   AreDrawings t ss == ss are the ordered trees whose canonical form is t, each once
use Rattle.std.specs.Prelude.{◌≡◌, ◌↔◌, ℕ, ◌*◌, List, length}
use Rattle.multiplicities.specs.Distinct.{AreDistinct}
use Rattle.exact_sums.specs.Binomials.{factorial}
use Rattle.ordered_lists.specs.Members.{IsIn}
use Rattle.plain_trees.specs.Plain.{Plain, bare, graft}
use Rattle.plain_trees.specs.Canon.{canon}
use Rattle.elementary_diff.specs.Symmetry.{root_edges}

abbrev pub factorials_above : Plain → ℕ
factorials_above (bare n) = 1
factorials_above (graft k p c t) =
    factorial (length (root_edges c)) * factorials_above c * factorials_above t

abbrev pub node_factorials : Plain → ℕ
node_factorials t = factorial (length (root_edges t)) * factorials_above t

pub record AreDrawings (t : Plain) (ss : List Plain) : Type 0 where
  pub all : (s : Plain) → (canon s ≡ t) ↔ IsIn s ss
  pub distinct : AreDistinct ss
