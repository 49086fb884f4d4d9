-- The pairings of a list of noise edges one by one: the first is paired with each later one of its
-- group in turn.
-- Working notions of the code and of proofs, which no contract of a public call names:
--   paired x y pss == the pair of x and y in front of each of pss, where x and y are of one group
--   partners rec x before after == x is paired with each of `after` in turn; rec gives the pairings
--       of what is left then
--   pairings_by n ns == the pairings of ns, as far as n steps find them
--   pairings_of ns == the pairings of ns
use Rattle.std.specs.Prelude.{ℕ, zero, suc, ◌==◌, cond, List, [], ◌∷◌, ◌++◌, map, length}
use Rattle.gaussian_pairings.specs.declared.noises.NoiseEdge.{NoiseEdge}
use Rattle.gaussian_pairings.specs.Pairings.{Pair}

abbrev pub paired : NoiseEdge → NoiseEdge → List (List Pair) → List (List Pair)
paired x y pss = cond (x.group == y.group) (map (λ ps. (x.number, y.number) ∷ ps) pss) []

abbrev pub partners : (List NoiseEdge → List (List Pair)) → NoiseEdge → List NoiseEdge →
    List NoiseEdge → List (List Pair)
partners rec x before [] = []
partners rec x before (y ∷ after) =
    paired x y (rec (before ++ after)) ++ partners rec x (before ++ y ∷ []) after

abbrev pub pairings_by : ℕ → List NoiseEdge → List (List Pair)
pairings_by zero [] = [] ∷ []
pairings_by zero (x ∷ xs) = []
pairings_by (suc n) [] = [] ∷ []
pairings_by (suc n) (x ∷ xs) = partners (pairings_by n) x [] xs

abbrev pub pairings_of : List NoiseEdge → List (List Pair)
pairings_of ns = pairings_by (length ns) ns
