-- The orders of texts, of pairs and of rows: they are total, and only what is equal ties.
use Rattle.std.proofs.Common.{◌≡◌, ℕ, ◌&&◌, List, refl, ◌∙◌, Ordering, Less, Equal, Greater}
use Rattle.std.specs.Ordering.{ordering_then, then_cmp, on, eq_by_cmp, is_eq}
use Rattle.std.specs.Cmp.{IsTotalOrder}
use Rattle.std.specs.Str.{bytes_eq}
use Rattle.std.proofs.lemmas.Cmp.{then_total, on_total, nat_list_cmp_total}
use Rattle.std.proofs.lemmas.Map.Text.{is_eq-slice_cmp}
use Rattle.std.specs.FinMap.{IsAntisymmetric, slice_cmp-IsAntisymmetric, nat_cmp-IsAntisymmetric}
use Rattle.result_keeper.specs.Kept.{bytes_cmp, row_cmp}

pub bytes_total : IsTotalOrder bytes_cmp
bytes_total = nat_list_cmp_total

pub bytes_exact : IsAntisymmetric bytes_cmp
bytes_exact = slice_cmp-IsAntisymmetric nat_cmp-IsAntisymmetric

-- pairs by the first, then by the second
abbrev pub pair_cmp : {K X : Type 0} → (K → K → Ordering) → (X → X → Ordering) → K × X → K × X → Ordering
pair_cmp R S = then_cmp (on (λ p. p.0) R) (on (λ p. p.1) S)

both_equal : (a b : Ordering) → ordering_then a b ≡ Equal → (a ≡ Equal) × (b ≡ Equal)
both_equal Less b e = absurd cc
both_equal Equal b e = (refl, e)
both_equal Greater b e = absurd cc

module _ {K X : Type 0} {R : K → K → Ordering} {S : X → X → Ordering} where
  pub pair_total : IsTotalOrder R → IsTotalOrder S → IsTotalOrder (pair_cmp R S)
  pair_total o p = then_total (on_total (λ (e : K × X). e.0) o) (on_total (λ (e : K × X). e.1) p)

  pub pair_exact : IsAntisymmetric R → IsAntisymmetric S → IsAntisymmetric (pair_cmp R S)
  pair_exact r s x y e =
      let both = both_equal (R x.0 y.0) (S x.1 y.1) e in
      let first : x.0 ≡ y.0 = r x.0 y.0 both.0 in
      let second : x.1 ≡ y.1 = s x.1 y.1 both.1 in
      λ i. (first i, second i)

pub row_total : IsTotalOrder row_cmp
row_total = pair_total bytes_total bytes_total

pub row_exact : IsAntisymmetric row_cmp
row_exact = pair_exact bytes_exact bytes_exact

tied_both : (a b : Ordering) → is_eq (ordering_then a b) ≡ (is_eq a && is_eq b)
tied_both Less b = refl
tied_both Equal b = refl
tied_both Greater b = refl

-- rows tie where their contexts and their trees are equal
pub row_tied : (x y : List ℕ × List ℕ) → eq_by_cmp row_cmp x y ≡ (bytes_eq x.0 y.0 && bytes_eq x.1 y.1)
row_tied x y = tied_both (bytes_cmp x.0 y.0) (bytes_cmp x.1 y.1) ∙ (λ i. is_eq-slice_cmp x.0 y.0 i && is_eq-slice_cmp x.1 y.1 i)
