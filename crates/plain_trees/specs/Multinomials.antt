-- Sums, binomials and multinomials of multiindices.
--   plus_all ms == the sum of a list of multiindices, entry by entry
--   zeros m == the multiindex with as many entries, all 0
--   down_from n == the numbers from n down to 0
--   below m == the list of all multiindices that are at most m, entry by entry
--   choose n k == the binomial of multiindices: the product over the entries of the binomials
--   multinomial_of ms == the multinomial of multiindices: the product over the entries of the
--       multinomials
use Rattle.std.specs.Prelude.{ℕ, zero, suc, ◌*◌, List, [], ◌∷◌, map, flat_map}
use Rattle.exact_sums.specs.Binomials.{binomial}
use Rattle.degree_numbers.specs.Multi.{plus_of}

abbrev pub plus_all : List (List ℕ) → List ℕ
plus_all [] = []
plus_all (m ∷ ms) = plus_of m (plus_all ms)

abbrev pub zeros : List ℕ → List ℕ
zeros = map (λ x. 0)

-- the numbers from n down to 0
abbrev pub down_from : ℕ → List ℕ
down_from zero = 0 ∷ []
down_from (suc n) = suc n ∷ down_from n

abbrev pub below : List ℕ → List (List ℕ)
below [] = [] ∷ []
below (x ∷ xs) = flat_map (λ k. map (λ ks. k ∷ ks) (below xs)) (down_from x)

abbrev pub choose : List ℕ → List ℕ → ℕ
choose ns [] = 1
choose [] (k ∷ ks) = binomial 0 k * choose [] ks
choose (n ∷ ns) (k ∷ ks) = binomial n k * choose ns ks

-- the first part is chosen, then the rest is parted; in each entry
abbrev pub multinomial_of : List (List ℕ) → ℕ
multinomial_of [] = 1
multinomial_of (m ∷ ms) = choose (plus_all (m ∷ ms)) m * multinomial_of ms
