-- Degrees a + b*k, in units of one over a common denominator.
--   degree_plus d e == the sum, part by part
--   degree_zero == 0
--   degree_order d e == by the standard part, then by the coefficient of k
--   IsWithin z n == the absolute value of z is at most n
use Rattle.std.specs.Prelude.{ℕ, ℤ, pos, neg_ℤ, ◌+ℤ◌, ◌≤ℤ◌}
use Rattle.std.specs.Ordering.{int_cmp, on, then_cmp}
use Rattle.std.specs.declared.cmp.Ordering.{Ordering}
use Rattle.degree_numbers.specs.declared.degree.Degree.{Degree}

abbrev pub degree_plus : Degree → Degree → Degree
degree_plus d e = record { a = d.a +ℤ e.a; b = d.b +ℤ e.b }

abbrev pub degree_zero : Degree
degree_zero = record { a = pos 0; b = pos 0 }

abbrev pub degree_order : Degree → Degree → Ordering
degree_order = then_cmp (on (λ d. d.a) int_cmp) (on (λ d. d.b) int_cmp)

pub record IsWithin (z : ℤ) (n : ℕ) : Type 0 where
  pub low : neg_ℤ (pos n) ≤ℤ z
  pub high : z ≤ℤ pos n
