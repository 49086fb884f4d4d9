-- Laws of the lows.
use Rattle.std.proofs.Common.{ℕ, pos, neg_ℤ, ◌+ℤ◌, ◌≤ℤ◌, List, arith}
use Rattle.std.proofs.lemmas.Int.{ints, clamps}
use Rattle.degree_numbers.specs.declared.types.Types.{Types}
use Rattle.plain_trees.specs.Plain.{Plain, bare, graft}
use Rattle.plain_trees.specs.Degree.{degree_of, edge_degree_of}
use Rattle.cutting_sizes.specs.Lows.{low, lowest, IsLive}

pub low_most : (ty : Types) (t : Plain) → low ty t ≤ℤ pos 0
low_most ty (bare n) = omega (arith, ints)
low_most ty (graft k p c t) = let rest = low_most ty t in omega (arith, ints, clamps, rest)

-- an edge with what stands above it adds at least as much to a component as to the low, and leaving
-- it out too
pub low_inside : (ty : Types) (k : ℕ) (p : List ℕ) (c t : Plain) → low ty (graft k p c t) ≤ℤ (((edge_degree_of ty k p).a +ℤ low ty c) +ℤ low ty t)
low_inside ty k p c t = omega (arith, ints, clamps)

pub low_outside : (ty : Types) (k : ℕ) (p : List ℕ) (c t : Plain) → low ty (graft k p c t) ≤ℤ low ty t
low_outside ty k p c t = omega (arith, ints, clamps)

pub lowest_low : (ty : Types) (t : Plain) → lowest ty t ≤ℤ low ty t
lowest_low ty (bare n) = omega (arith, ints)
lowest_low ty (graft k p c t) = omega (arith, ints, clamps)

pub lowest_child : (ty : Types) (k : ℕ) (p : List ℕ) (c t : Plain) → lowest ty (graft k p c t) ≤ℤ lowest ty c
lowest_child ty k p c t = omega (arith, ints, clamps)

pub lowest_rest : (ty : Types) (k : ℕ) (p : List ℕ) (c t : Plain) → lowest ty (graft k p c t) ≤ℤ lowest ty t
lowest_rest ty k p c t = omega (arith, ints, clamps)

-- a component of a degree of at most 0 is live
pub closing_live : (ty : Types) (b : ℕ) (t part : Plain) → neg_ℤ (pos b) ≤ℤ lowest ty t → (degree_of ty part).a ≤ℤ pos 0 → IsLive ty b t part
closing_live ty b t part enough most = let l = lowest_low ty t in omega (arith, ints, enough, most, l)
