-- How low the degree of a component can be, and how far above that it is. All are standard parts of
-- degrees, in units.
--   low ty t == the least degree of a component with the root of t as its lowest node: the sum of
--       the degrees of its edges, where no edge gives 0
--   lowest ty t == the least of the lows of the trees that stand above the nodes of t
--   excess ty t part == by how much the degree of the component `part` of t is above the low of t
--   IsLive ty b t part == the excess is at most b
use Rattle.std.specs.Prelude.{ℕ, ℤ, pos, ◌+ℤ◌, ◌-ℤ◌, ◌≤ℤ◌}
use Rattle.std.specs.Int.{int_min}
use Rattle.degree_numbers.specs.declared.types.Types.{Types}
use Rattle.plain_trees.specs.Plain.{Plain, bare, graft}
use Rattle.plain_trees.specs.Degree.{edge_degree_of, degree_of}

-- an edge is taken with the lowest component above it, or left out
abbrev pub low : Types → Plain → ℤ
low ty (bare n) = pos 0
low ty (graft k p c t) = int_min ((edge_degree_of ty k p).a +ℤ low ty c) (pos 0) +ℤ low ty t

abbrev pub lowest : Types → Plain → ℤ
lowest ty (bare n) = pos 0
lowest ty (graft k p c t) = int_min (low ty (graft k p c t)) (int_min (lowest ty c) (lowest ty t))

abbrev pub excess : Types → Plain → Plain → ℤ
excess ty t part = (degree_of ty part).a -ℤ low ty t

abbrev pub IsLive : Types → ℕ → Plain → Plain → Type 0
IsLive ty b t part = excess ty t part ≤ℤ pos b
