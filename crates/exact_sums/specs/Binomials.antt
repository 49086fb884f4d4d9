-- Factorials, binomials and multinomials.
--   factorial n == n!
--   binomial n k == the number of ways to choose k of n things, by Pascal's rule
--   multinomial xs == (x1 + .. + xm)! / (x1! * .. * xm!), where x1 to xm are the members of xs: the
--       number of ways to part so many things into parts of these sizes
use Rattle.std.specs.Prelude.{ℕ, zero, suc, ◌+◌, ◌*◌, List, [], ◌∷◌, sum}

unfoldable pub factorial : ℕ → ℕ
factorial zero = 1
factorial (suc n) = suc n * factorial n

unfoldable pub binomial : ℕ → ℕ → ℕ
binomial n zero = 1
binomial zero (suc k) = 0
binomial (suc n) (suc k) = binomial n k + binomial n (suc k)

-- the first part is chosen, then the rest is parted
unfoldable pub multinomial : List ℕ → ℕ
multinomial [] = 1
multinomial (x ∷ xs) = binomial (sum (x ∷ xs)) x * multinomial xs
