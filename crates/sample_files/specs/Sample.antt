-- The sample file of a number: equations of KPZ type, of one to four unknowns, that are coupled in
-- their slopes.
--   size_of n == how many unknowns the file has, and how many noises
--   coefficient n i j == the coefficient of the product of the slopes of the unknowns i and j in
--       the equation of the unknown i
--   joined_to m text == the texts of 1 to m, one after the other
--   noise_text i == the table of the noise `xI`
--   slope_text i == the space derivative of the unknown `uI`, as it is written
--   product_text n i j == the product of the slopes of the unknowns i and j with its coefficient
--   right_text n i == the right side of the unknown i: these products for all j, and its noise
--   unknown_head i == the table of the unknown `uI` up to its right side
--   unknown_text n i == the table of the unknown `uI`
--   sample_text n == the file of the number n: the scaling of KPZ, the noises, the unknowns
use Rattle.std.specs.Prelude.{ℕ, zero, suc, ◌+◌, ◌*◌, ◌/◌, ◌%◌, List, [], ◌++◌, codes, decimal}

abbrev pub size_of : ℕ → ℕ
size_of n = 1 + n % 4

abbrev pub coefficient : ℕ → ℕ → ℕ → ℕ
coefficient n i j = 1 + (n / 4 + 3 * i + 5 * j) % 7

abbrev pub joined_to : ℕ → (ℕ → List ℕ) → List ℕ
joined_to zero text = []
joined_to (suc m) text = joined_to m text ++ text (suc m)

abbrev pub noise_text : ℕ → List ℕ
noise_text i = codes "\n[[noise]]\nname = \"x" ++ decimal i ++ codes "\"\ndegree = \"-3/2-k\"\n"

abbrev pub slope_text : ℕ → List ℕ
slope_text i = codes "u" ++ decimal i ++ codes "'(0,1)"

abbrev pub product_text : ℕ → ℕ → ℕ → List ℕ
product_text n i j =
    decimal (coefficient n i j) ++ codes "*" ++ slope_text i ++ codes "*" ++ slope_text j

abbrev pub right_text : ℕ → ℕ → List ℕ
right_text n i =
    joined_to (size_of n) (λ j. product_text n i j ++ codes "+") ++ codes "x" ++ decimal i

abbrev pub unknown_head : ℕ → List ℕ
unknown_head i =
    codes "\n[[unknown]]\nname = \"u" ++ decimal i
    ++ codes "\"\ndegree = \"2\"\nregularity = \"1/4\"\nright = \""

abbrev pub unknown_text : ℕ → ℕ → List ℕ
unknown_text n i = unknown_head i ++ right_text n i ++ codes "\"\n"

abbrev pub sample_text : ℕ → List ℕ
sample_text n =
    codes "version = 1\nscaling = [2, 1]\n"
    ++ joined_to (size_of n) noise_text
    ++ joined_to (size_of n) (unknown_text n)
