-- What is done at the root of a tree.
--   raised, joined == the notions of plain_trees, for use with these
--   has_edge t == t has an edge
pub use Rattle.plain_trees.specs.Joined.{raised, joined}
use Rattle.std.specs.Prelude.{Bool, true, false}
use Rattle.plain_trees.specs.Plain.{Plain, bare, graft}

abbrev pub has_edge : Plain → Bool
has_edge (bare n) = false
has_edge (graft k p c t) = true
