-- The types of equations that people know.
--   one_noise dims scaling degree moments reflect == a noise `xi` of this degree and a kernel `u`
--       of degree 2, in halves, with this moment number and these reflections
--   kpz, kpz_symmetric == the types of the KPZ equation, without a declaration, and with that of
--       the reflection of space
--   phi43, phi43_mean_zero == the types of the dynamic Phi^4 model in three dimensions, without a
--       declaration, and with a kernel whose mean is 0
--   two_noises group groups == noises `xi` and `eta`, in the first and in this noise group, and a
--       kernel `u`, with the degrees and the scaling of the KPZ equation
--   apart, together == each noise in a group of its own, and both in the group `g`
use Rattle.std.specs.Prelude.{ℕ, pos, neg_ℤ, List, [], ◌∷◌, Option, Some, None}
use Rattle.degree_numbers.specs.declared.Degree.{Degree}
use Rattle.degree_numbers.specs.declared.Kind.TheVariants.{Noise, Kernel}
use Rattle.degree_numbers.specs.declared.Types.{Types}

abbrev pub one_noise : ℕ → List ℕ → Degree → Option ℕ → List ℕ → Types
one_noise dims scaling degree moments reflect =
    record {
      dims = dims;
      scaling = scaling;
      units = record { den = pos 2 };
      list = record { name = 120 ∷ 105 ∷ []; kind = Noise; degree = degree; group = 0; moments = None } ∷ record { name = 117 ∷ []; kind = Kernel; degree = record { a = pos 4; b = pos 0 }; group = 0; moments = moments } ∷ [];
      groups = (120 ∷ 105 ∷ []) ∷ [];
      reflect = reflect;
    }

abbrev pub kpz : Types
kpz = one_noise 2 (2 ∷ 1 ∷ 0 ∷ 0 ∷ 0 ∷ []) record { a = neg_ℤ (pos 3); b = neg_ℤ (pos 2) } None []

abbrev pub kpz_symmetric : Types
kpz_symmetric = one_noise 2 (2 ∷ 1 ∷ 0 ∷ 0 ∷ 0 ∷ []) record { a = neg_ℤ (pos 3); b = neg_ℤ (pos 2) }
    None (2 ∷ [])

abbrev pub phi43 : Types
phi43 = one_noise 4 (2 ∷ 1 ∷ 1 ∷ 1 ∷ 0 ∷ []) record { a = neg_ℤ (pos 5); b = neg_ℤ (pos 2) } None []

abbrev pub phi43_mean_zero : Types
phi43_mean_zero =
    one_noise 4 (2 ∷ 1 ∷ 1 ∷ 1 ∷ 0 ∷ []) record { a = neg_ℤ (pos 5); b = neg_ℤ (pos 2) } (Some 0) []

abbrev pub two_noises : ℕ → List (List ℕ) → Types
two_noises group groups =
    record {
      dims = 2;
      scaling = 2 ∷ 1 ∷ 0 ∷ 0 ∷ 0 ∷ [];
      units = record { den = pos 2 };
      list =
          record { name = 120 ∷ 105 ∷ []; kind = Noise; degree = record { a = neg_ℤ (pos 3); b = neg_ℤ (pos 2) }; group = 0; moments = None }
          ∷ record { name = 101 ∷ 116 ∷ 97 ∷ []; kind = Noise; degree = record { a = neg_ℤ (pos 3); b = neg_ℤ (pos 2) }; group = group; moments = None }
          ∷ record { name = 117 ∷ []; kind = Kernel; degree = record { a = pos 4; b = pos 0 }; group = 0; moments = None }
          ∷ [];
      groups = groups;
      reflect = [];
    }

abbrev pub apart : Types
apart = two_noises 1 ((120 ∷ 105 ∷ []) ∷ (101 ∷ 116 ∷ 97 ∷ []) ∷ [])

abbrev pub together : Types
together = two_noises 0 ((103 ∷ []) ∷ [])
