-- The limits of a file.
--   most_bytes == bytes
--   most_dimensions == entries of the scaling
--   largest_scaling == an entry of the scaling
--   most_names == parameters, and noises, and unknowns
--   largest_number == a written number
--   largest_degree == the size of the standard part or of the k part of a degree
--   largest_moment == a moment number of a kernel
--   largest_denominator == a least common denominator
--   most_terms == terms of a right side
--   most_factors == factors of a term, counted with their powers
--   largest_entry == an entry of a derivative
use Rattle.std.specs.Prelude.{ℕ}

abbrev pub most_bytes : ℕ
most_bytes = 65536

abbrev pub most_dimensions : ℕ
most_dimensions = 5

abbrev pub largest_scaling : ℕ
largest_scaling = 10

abbrev pub most_names : ℕ
most_names = 8

abbrev pub largest_number : ℕ
largest_number = 1000000

abbrev pub largest_degree : ℕ
largest_degree = 20

abbrev pub largest_moment : ℕ
largest_moment = 20

abbrev pub largest_denominator : ℕ
largest_denominator = 1000000

abbrev pub most_terms : ℕ
most_terms = 64

abbrev pub most_factors : ℕ
most_factors = 24

abbrev pub largest_entry : ℕ
largest_entry = 8
