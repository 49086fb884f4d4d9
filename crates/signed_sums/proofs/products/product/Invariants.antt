use Rattle.std.proofs.Common.{◌≡◌, ◌≤◌, ◌*◌, drop}
use Rattle.exact_sums.specs.Saturating.{overflow, saturated}
use Rattle.signed_sums.specs.Signed.{size_of_product}
use Rattle.signed_sums.proofs.Signs.{minus, turned}
use Rattle.signed_sums.proofs.products.product.Given as goal

abbrev pub invariant-loop-factor : goal.invariant-loop-factor
invariant-loop-factor l =
    record {
      within : l.size ≤ overflow;
      size : saturated (l.size * size_of_product (drop l.factor-index l.factors)) ≡ saturated (size_of_product l.factors);
      sign : turned l.is_negative (minus (drop l.factor-index l.factors)) ≡ minus l.factors;
    }
