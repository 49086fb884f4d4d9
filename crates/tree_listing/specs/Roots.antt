-- Decorations that a stem may have at its root.
-- Working notions of the code and of proofs, which no contract of a public call names:
--   Room == the degree of a stem, the most of its row, and what the entries of a decoration may add
--       up to
--   IsRoom room == what every room meets, so that sums stay in range
--   fits ty room n == the test whether the decoration n keeps within the room
--   with_entry i v n == n with the entry v in direction i
--   entries_below ty room i n k == those of the decorations n with an entry less than k in
--       direction i that fit
--   with_entries ty room i n == those with any entry in direction i that fit
--   no_decoration == the decoration 0
--   roots_to ty room i == the decorations in the first i directions that fit
use Rattle.std.specs.Prelude.{◌≤◌, ℕ, zero, suc, ◌+◌, ◌&&◌, Bool, nat_le, List, [], ◌++◌, flat_map, set, sum}
use Rattle.degree_numbers.specs.declared.multi.Multi.{Multi}
use Rattle.degree_numbers.specs.declared.types.Types.{Types}
use Rattle.degree_numbers.specs.Degree.{degree_plus, IsWithin}
use Rattle.plain_trees.specs.Building.{zeros}
use Rattle.plain_trees.specs.Degree.{node_degree_of}
use Rattle.tree_listing.specs.declared.roots.Room.{Room}
use Rattle.tree_listing.specs.Made.{one_if, is_not_above}

-- what every room meets
pub record IsRoom (room : Room) : Type 0 where
  pub entries : room.entries ≤ 64
  pub degree_a : IsWithin room.degree.a 100000000000
  pub degree_b : IsWithin room.degree.b 100000000000

abbrev pub fits : Types → Room → Multi → Bool
fits ty room n = nat_le (sum n.entries) room.entries
    && is_not_above (degree_plus (node_degree_of ty n.entries) room.degree) room.most

abbrev pub with_entry : ℕ → ℕ → Multi → Multi
with_entry i v n = record { entries = set n.entries i v }

abbrev pub entries_below : Types → Room → ℕ → Multi → ℕ → List Multi
entries_below ty room i n zero = []
entries_below ty room i n (suc k) = entries_below ty room i n k
    ++ one_if (fits ty room (with_entry i k n)) (with_entry i k n)

abbrev pub with_entries : Types → Room → ℕ → Multi → List Multi
with_entries ty room i n = entries_below ty room i n (room.entries + 1)

abbrev pub no_decoration : Multi
no_decoration = record { entries = zeros }

abbrev pub roots_to : Types → Room → ℕ → List Multi
roots_to ty room zero = one_if (fits ty room no_decoration) no_decoration
roots_to ty room (suc i) = flat_map (with_entries ty room i) (roots_to ty room i)
