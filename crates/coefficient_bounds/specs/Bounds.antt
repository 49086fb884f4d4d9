-- An upper bound of the sum of all coefficients of a tree's extraction coproduct, by a recursion
-- down the tree, without trees and forests. A component that is extracted has a degree below 0, so
-- its decorations are at most by what its low is below 0: that bounds the shifts, and so both
-- their number and the binomials.
--   Sums == `idle`, of the cuttings with no edge of the set at the root, and `touched`, of those in
--       which the root counts as touched
--   all_sums x == of both together
--   missed ty k p c == by how much, in units, the degree of a component is above the low of the
--       tree at least, where it does not hold the edge (k, p) with the tree c above
--   shift_room ty b k p c == the most that the entries of a shift of that edge sum up to, in a
--       component of an excess of at most b
--   with_sums roots shifts x y == one more edge at the root of a tree with the sums y, and a tree
--       with the sums x above it: where it is in the set the roots of the two quotients become one,
--       with binomials that are at most `roots`; where it is outside, the binomials of all its
--       shifts sum up to at most `shifts`
--   sums_within ty b t == bounds of the sums of the coefficients of the cuttings of t in which
--       components are extracted, or have an excess of at most b while they are open
--   coefficient_bound ty t == a bound of the sum of all coefficients of the extraction coproduct
--   has_small_coefficients ty t == that bound is at most 2^127-1
use Rattle.std.specs.Prelude.{ℕ, ◌+◌, ◌-◌, ◌*◌, ◌/◌, ◌^◌, pos, ◌+ℤ◌, unsigned_abs, nat_lt, Bool, List, sum}
use Rattle.std.specs.Int.{int_min}
use Rattle.degree_numbers.specs.declared.types.Types.{Types}
use Rattle.exact_sums.specs.Saturating.{overflow}
use Rattle.plain_trees.specs.Plain.{Plain, bare, graft}
use Rattle.plain_trees.specs.Degree.{edge_degree_of}
use Rattle.cutting_sizes.specs.Lows.{low, lowest}
use Rattle.cutting_sizes.specs.Sizes.{node_sum}

pub record Sums : Type 0 where
  pub idle : ℕ
  pub touched : ℕ

abbrev pub all_sums : Sums → ℕ
all_sums x = x.idle + x.touched

abbrev pub missed : Types → ℕ → List ℕ → Plain → ℕ
missed ty k p c = unsigned_abs (int_min ((edge_degree_of ty k p).a +ℤ low ty c) (pos 0))

abbrev pub shift_room : Types → ℕ → ℕ → List ℕ → Plain → ℕ
shift_room ty b k p c = (b - missed ty k p c) / unsigned_abs ty.units.den

abbrev pub with_sums : ℕ → ℕ → Sums → Sums → Sums
with_sums roots shifts x y =
    record {
      idle = all_sums x * y.idle;
      touched = (roots * x.touched + shifts * all_sums x) * y.touched;
    }

abbrev pub sums_within : Types → ℕ → Plain → Sums
sums_within ty b (bare n) = record { idle = 1; touched = 2 ^ sum n }
sums_within ty b (graft k p c t) =
    with_sums ((1 + node_sum c) ^ node_sum t) ((1 + ty.dims) ^ shift_room ty b k p c)
    (sums_within ty b c) (sums_within ty b t)

abbrev pub coefficient_bound : Types → Plain → ℕ
coefficient_bound ty t = all_sums (sums_within ty (unsigned_abs (lowest ty t)) t)

abbrev pub has_small_coefficients : Types → Plain → Bool
has_small_coefficients ty t = nat_lt (coefficient_bound ty t) overflow
