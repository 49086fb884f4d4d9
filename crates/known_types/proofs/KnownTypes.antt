-- They are types of accepted files.
use Rattle.std.proofs.Common.{◌≡◌, ℕ, pos, neg_ℤ, List, [], ◌∷◌, refl, sym, arith, inl, inr, Option, Some, None}
use Rattle.std.proofs.lemmas.Int.{ints}
use Rattle.std.proofs.lemmas.Nat.Gcd.{IsGcd-from_mod, IsGcd-from_zero}
use Rattle.std.specs.Int.{IsGcd}
use Rattle.degree_numbers.specs.declared.Kind.TheVariants.{Noise, Kernel}
use Rattle.degree_numbers.specs.Types.{AreTypes, IsWritable, IsMoments, IsNoiseEntry, IsKernelEntry, AreNames}
use Rattle.known_types.specs.Known.{kpz, kpz_symmetric, phi43, phi43_mean_zero, apart, together}

-- odd halves, and whole numbers
three_is_lowest : IsGcd 3 2 1
three_is_lowest = IsGcd-from_mod 3 2 1 (IsGcd-from_mod 2 1 1 (IsGcd-from_zero 1 0 refl))

five_is_lowest : IsGcd 5 2 1
five_is_lowest = IsGcd-from_mod 5 2 1 (IsGcd-from_mod 2 1 1 (IsGcd-from_zero 1 0 refl))

one_is_lowest : IsGcd 1 1 1
one_is_lowest = IsGcd-from_mod 1 1 1 (IsGcd-from_zero 1 0 refl)

two_is_lowest : IsGcd 2 1 1
two_is_lowest = IsGcd-from_mod 2 1 1 (IsGcd-from_zero 1 0 refl)

noise_b : IsWritable 2 (neg_ℤ (pos 2))
noise_b = record { size = omega arith; written = (1, 1, record { den_above = omega arith; equal = refl; in_lowest = one_is_lowest }, omega arith, omega arith) }

kernel_a : IsWritable 2 (pos 4)
kernel_a = record { size = omega arith; written = (2, 1, record { den_above = omega arith; equal = refl; in_lowest = two_is_lowest }, omega arith, omega arith) }

abbrev xi : List ℕ
xi = 120 ∷ 105 ∷ []

abbrev u : List ℕ
u = 117 ∷ []

different : xi ≡ u → ⊥
different h = absurd cc

kernel_entry : (moments : Option ℕ) → IsMoments moments → IsKernelEntry 2 record { name = 117 ∷ []; kind = Kernel; degree = record { a = pos 4; b = pos 0 }; group = 0; moments = moments }
kernel_entry moments few = record { kind = refl; a = kernel_a; above = omega (arith, ints); without_k = refl; group = refl; moments = few }

names : AreNames ((120 ∷ 105 ∷ []) ∷ (117 ∷ []) ∷ [])
names = record { are_names = (refl, (refl, tt)); different = ((λ h. different (sym h), tt), (tt, tt)) }

groups : AreNames ((120 ∷ 105 ∷ []) ∷ [])
groups = record { are_names = (refl, tt); different = (tt, tt) }

kpz_a : IsWritable 2 (neg_ℤ (pos 3))
kpz_a = record { size = omega arith; written = (3, 2, record { den_above = omega arith; equal = refl; in_lowest = three_is_lowest }, omega arith, omega arith) }

phi43_a : IsWritable 2 (neg_ℤ (pos 5))
phi43_a = record { size = omega arith; written = (5, 2, record { den_above = omega arith; equal = refl; in_lowest = five_is_lowest }, omega arith, omega arith) }

pub kpz_types : AreTypes kpz
kpz_types =
    record {
      scaling = record { some = omega arith; most = omega arith; entries = refl; within = ((omega arith, omega arith), ((omega arith, omega arith), tt)); rest = (refl, (refl, (refl, tt))) };
      den_above = omega (arith, ints);
      den_most = omega (arith, ints);
      noises_most = omega arith;
      kernels_some = omega arith;
      kernels_most = omega arith;
      of_noises = (record { kind = refl; a = kpz_a; b = noise_b; moments = refl }, tt);
      of_kernels = (kernel_entry None tt, tt);
      names = names;
      groups = groups;
      numbered = inr (refl, refl);
      reflected = tt;
    }

pub kpz_symmetric_types : AreTypes kpz_symmetric
kpz_symmetric_types =
    record {
      scaling = record { some = omega arith; most = omega arith; entries = refl; within = ((omega arith, omega arith), ((omega arith, omega arith), tt)); rest = (refl, (refl, (refl, tt))) };
      den_above = omega (arith, ints);
      den_most = omega (arith, ints);
      noises_most = omega arith;
      kernels_some = omega arith;
      kernels_most = omega arith;
      of_noises = (record { kind = refl; a = kpz_a; b = noise_b; moments = refl }, tt);
      of_kernels = (kernel_entry None tt, tt);
      names = names;
      groups = groups;
      numbered = inr (refl, refl);
      reflected = (omega arith, omega arith, tt);
    }

pub phi43_types : AreTypes phi43
phi43_types =
    record {
      scaling = record { some = omega arith; most = omega arith; entries = refl; within = ((omega arith, omega arith), ((omega arith, omega arith), ((omega arith, omega arith), ((omega arith, omega arith), tt)))); rest = (refl, tt) };
      den_above = omega (arith, ints);
      den_most = omega (arith, ints);
      noises_most = omega arith;
      kernels_some = omega arith;
      kernels_most = omega arith;
      of_noises = (record { kind = refl; a = phi43_a; b = noise_b; moments = refl }, tt);
      of_kernels = (kernel_entry None tt, tt);
      names = names;
      groups = groups;
      numbered = inr (refl, refl);
      reflected = tt;
    }

pub phi43_mean_zero_types : AreTypes phi43_mean_zero
phi43_mean_zero_types =
    record {
      scaling = record { some = omega arith; most = omega arith; entries = refl; within = ((omega arith, omega arith), ((omega arith, omega arith), ((omega arith, omega arith), ((omega arith, omega arith), tt)))); rest = (refl, tt) };
      den_above = omega (arith, ints);
      den_most = omega (arith, ints);
      noises_most = omega arith;
      kernels_some = omega arith;
      kernels_most = omega arith;
      of_noises = (record { kind = refl; a = phi43_a; b = noise_b; moments = refl }, tt);
      of_kernels = (kernel_entry (Some 0) (omega arith), tt);
      names = names;
      groups = groups;
      numbered = inr (refl, refl);
      reflected = tt;
    }

-- two noises
abbrev eta : List ℕ
eta = 101 ∷ 116 ∷ 97 ∷ []

xi_is_not_eta : xi ≡ eta → ⊥
xi_is_not_eta h = absurd cc

u_is_not_eta : u ≡ eta → ⊥
u_is_not_eta h = absurd cc

noise_entry : (name : List ℕ) (group : ℕ) → IsNoiseEntry 2 record { name = name; kind = Noise; degree = record { a = neg_ℤ (pos 3); b = neg_ℤ (pos 2) }; group = group; moments = None }
noise_entry name group = record { kind = refl; a = kpz_a; b = noise_b; moments = refl }

three_names : AreNames ((120 ∷ 105 ∷ []) ∷ (101 ∷ 116 ∷ 97 ∷ []) ∷ (117 ∷ []) ∷ [])
three_names = record { are_names = (refl, (refl, (refl, tt))); different = (((λ h. xi_is_not_eta (sym h)), ((λ h. different (sym h)), tt)), ((u_is_not_eta, tt), (tt, tt))) }

pub apart_types : AreTypes apart
apart_types =
    record {
      scaling = record { some = omega arith; most = omega arith; entries = refl; within = ((omega arith, omega arith), ((omega arith, omega arith), tt)); rest = (refl, (refl, (refl, tt))) };
      den_above = omega (arith, ints);
      den_most = omega (arith, ints);
      noises_most = omega arith;
      kernels_some = omega arith;
      kernels_most = omega arith;
      of_noises = (noise_entry xi 0, (noise_entry eta 1, tt));
      of_kernels = (kernel_entry None tt, tt);
      names = three_names;
      groups = record { are_names = (refl, (refl, tt)); different = (((λ h. xi_is_not_eta (sym h)), tt), (tt, tt)) };
      numbered = inr (refl, inr (refl, refl));
      reflected = tt;
    }

pub together_types : AreTypes together
together_types =
    record {
      scaling = record { some = omega arith; most = omega arith; entries = refl; within = ((omega arith, omega arith), ((omega arith, omega arith), tt)); rest = (refl, (refl, (refl, tt))) };
      den_above = omega (arith, ints);
      den_most = omega (arith, ints);
      noises_most = omega arith;
      kernels_some = omega arith;
      kernels_most = omega arith;
      of_noises = (noise_entry xi 0, (noise_entry eta 0, tt));
      of_kernels = (kernel_entry None tt, tt);
      names = three_names;
      groups = record { are_names = (refl, tt); different = (tt, tt) };
      numbered = inr (refl, inl (omega arith, refl));
      reflected = tt;
    }
