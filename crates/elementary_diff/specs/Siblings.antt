-- Edges of a node that have one differential above them.
-- Working notions of the code and of proofs, which no contract of a public call names:
--   edge_at es i == the i-th edge
--   IsRepeated es i == behind the i-th edge there is another, of the same type and with the same
--       tree above it
use Rattle.std.specs.Prelude.{◌≡◌, ℕ, ◌+◌, ◌<◌, List, [], length, slice_index_or}
use Rattle.tree_pool.specs.declared.node.EdgeTo.{EdgeTo}

abbrev pub edge_at : List EdgeTo → ℕ → EdgeTo
edge_at es i =
    slice_index_or es i
    (record { kind = record { 0 = 0 }; p = record { entries = [] }; child = record { 0 = 0 } })

pub record IsRepeated (es : List EdgeTo) (i : ℕ) : Type 0 where
  pub there : i + 1 < length es
  pub kind : (edge_at es (i + 1)).kind ≡ (edge_at es i).kind
  pub child : (edge_at es (i + 1)).child ≡ (edge_at es i).child
