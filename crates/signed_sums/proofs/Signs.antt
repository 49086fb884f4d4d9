-- Products of whole numbers, by their signs and their absolute values.
use Rattle.std.proofs.Common.{◌≡◌, ℕ, zero, suc, ◌+◌, ◌*◌, ◌<◌, ℤ, pos, negsuc, neg_ℤ, ◌*ℤ◌, unsigned_abs, Bool, true, false, not, cond, List, [], ◌∷◌, drop, length, get_or, ◌≤◌, Option, Some, None, MatchOption, refl, sym, ap, ◌∙◌, arith}
use Rattle.std.proofs.lemmas.Grind.{common_steps}
use Rattle.std.proofs.lemmas.List.{drop_all}
use Rattle.std.proofs.Math.IntN.{pos-*ℤ-pos, pos-*ℤ-negsuc, negsuc-*ℤ-pos, negsuc-*ℤ-negsuc, *ℤ-zero}
use Rattle.exact_sums.specs.Saturating.{overflow, saturated, saturating_times}
use Rattle.exact_sums.proofs.SaturatingLaws.{saturated_mul_left, saturated_mul_right}
use Rattle.signed_sums.specs.Signed.{is_below, product_of, size_of_product}

-- an odd number of them is below 0
abbrev pub minus : List ℤ → Bool
minus [] = false
minus (z ∷ zs) = cond (is_below z) (not (minus zs)) (minus zs)

abbrev pub signed : Bool → ℕ → ℤ
signed b n = cond b (neg_ℤ (pos n)) (pos n)

nothing_times : (m : ℕ) → m * zero ≡ zero
nothing_times m = omega arith

times_signed : (z : ℤ) (b : Bool) (n : ℕ) → z *ℤ signed b n ≡ signed (cond (is_below z) (not b) b) (unsigned_abs z * n)
times_signed (pos m) false n = pos-*ℤ-pos m n
times_signed (pos m) true zero = *ℤ-zero (pos m) ∙ sym (ap (λ (n : ℕ). neg_ℤ (pos n)) (nothing_times m))
times_signed (pos m) true (suc n) = pos-*ℤ-negsuc m n
times_signed (negsuc m) false n = negsuc-*ℤ-pos m n
times_signed (negsuc m) true zero = *ℤ-zero (negsuc m) ∙ sym (ap (λ (n : ℕ). pos n) (nothing_times (suc m)))
times_signed (negsuc m) true (suc n) = negsuc-*ℤ-negsuc m n

pub product_signed : (zs : List ℤ) → product_of zs ≡ signed (minus zs) (size_of_product zs)
product_signed [] = refl
product_signed (z ∷ zs) = ap (λ (y : ℤ). z *ℤ y) (product_signed zs) ∙ times_signed z (minus zs) (size_of_product zs)

factors_left : (zs : List ℤ) (i : ℕ) (z : ℤ) → i < length zs → z ≡ get_or zs i (pos 0) → drop i zs ≡ z ∷ drop (i + 1) zs
factors_left zs i z h e = grind (arith, common_steps)

times_assoc : (a b c : ℕ) → a * b * c ≡ a * (b * c)
times_assoc a b c = omega arith

-- signs met so far
abbrev pub turned : Bool → Bool → Bool
turned b c = cond b (not c) c

pub turned_back : (b c : Bool) → turned (not b) c ≡ turned b (not c)
turned_back true true = refl
turned_back true false = refl
turned_back false true = refl
turned_back false false = refl

pub turned_last : (b : Bool) → turned b false ≡ b
turned_last true = refl
turned_last false = refl

-- factors that are gone through one by one
module _ (zs : List ℤ) (i : ℕ) (z : ℤ) (within : i < length zs) (at : z ≡ get_or zs i (pos 0)) where
  cut : drop i zs ≡ z ∷ drop (i + 1) zs
  cut = factors_left zs i z within at

  pub size_step : (done next whole a : ℕ) → saturated (done * size_of_product (drop i zs)) ≡ whole → a ≡ saturated (unsigned_abs z) →
      next ≡ saturating_times done a → saturated (next * size_of_product (drop (i + 1) zs)) ≡ whole
  size_step done next whole a h e f =
      let rest = size_of_product (drop (i + 1) zs) in
      ap (λ (n : ℕ). saturated (n * rest)) (f ∙ ap (saturating_times done) e ∙ saturated_mul_right done (unsigned_abs z))
      ∙ saturated_mul_left (done * unsigned_abs z) rest
      ∙ ap saturated (times_assoc done (unsigned_abs z) rest)
      ∙ (rw cut at h)

  pub sign_turned : (b whole : Bool) → is_below z ≡ true → turned b (minus (drop i zs)) ≡ whole → turned (not b) (minus (drop (i + 1) zs)) ≡ whole
  sign_turned b whole e h = turned_back b (minus (drop (i + 1) zs)) ∙ (rw (cut, e) at h)

  pub sign_kept : (b whole : Bool) → is_below z ≡ false → turned b (minus (drop i zs)) ≡ whole → turned b (minus (drop (i + 1) zs)) ≡ whole
  sign_kept b whole e h = rw (cut, e) at h

-- what is found at the end
pub found_product : (zs : List ℤ) (i size : ℕ) (b : Bool) (r : Option ℤ) → length zs ≤ i → size ≤ overflow →
    saturated (size * size_of_product (drop i zs)) ≡ saturated (size_of_product zs) → turned b (minus (drop i zs)) ≡ minus zs →
    MatchOption r (overflow ≤ size) (λ z. (z ≡ signed b size) × (size < overflow)) →
    MatchOption r (overflow ≤ size_of_product zs) (λ z. (z ≡ product_of zs) × (size_of_product zs < overflow))
found_product zs i size b None past most h s e =
    let left : drop i zs ≡ [] = drop_all i zs past in
    let found : saturated (size * 1) ≡ saturated (size_of_product zs) = rw left at h in
    omega (arith, found, e)
found_product zs i size b (Some z) past most h s e =
    let left : drop i zs ≡ [] = drop_all i zs past in
    let found : saturated (size * 1) ≡ saturated (size_of_product zs) = rw left at h in
    let sign : turned b false ≡ minus zs = rw left at s in
    let below : size < overflow = e.1 in
    let same : size ≡ size_of_product zs = omega (arith, found, below) in
    (e.0 ∙ ap (λ (n : ℕ). signed b n) same ∙ ap (λ (c : Bool). signed c (size_of_product zs)) (sym (turned_last b) ∙ sign) ∙ sym (product_signed zs), omega (arith, same, below))
