-- Multiindices and degrees are totally ordered, and what compares equal is equal.
use Rattle.std.proofs.Common.{◌≡◌, ℤ, ◌+ℤ◌, ◌<ℤ◌, refl, ap, sym, ◌∙◌, arith, Ordering, Less, Equal, Greater}
use Rattle.std.specs.Ordering.{int_cmp, ordering_then, MatchOrdering}
use Rattle.std.specs.Cmp.{IsTotalOrder, int_cmp_is}
use Rattle.std.proofs.lemmas.Cmp.{on_total, then_total, nat_list_cmp_total, int_cmp_total, int_ranked}
use Rattle.std.proofs.lemmas.Map.Lookups.{exact_bytes, exact_signed, CmpEqualImpliesEq}
use Rattle.std.proofs.lemmas.Int.{ints}
use Rattle.degree_numbers.specs.declared.degree.Degree.{Degree}
use Rattle.degree_numbers.specs.Multi.{multi_order}
use Rattle.degree_numbers.specs.Degree.{degree_order, degree_plus}

pub multi_order_total : IsTotalOrder multi_order
multi_order_total = nat_list_cmp_total

pub multi_exact : CmpEqualImpliesEq multi_order
multi_exact = exact_bytes

pub degree_order_total : IsTotalOrder degree_order
degree_order_total = then_total (on_total (λ d. d.a) int_cmp_total) (on_total (λ d. d.b) int_cmp_total)

both_equal : (a b : Ordering) → ordering_then a b ≡ Equal → (a ≡ Equal) × (b ≡ Equal)
both_equal Less b h = absurd cc
both_equal Equal b h = (refl, h)
both_equal Greater b h = absurd cc

abbrev degree_of_parts : ℤ → ℤ → Degree
degree_of_parts a b = record { a = a; b = b }

-- degrees with equal parts are equal
pub degree_is : (d e : Degree) → d.a ≡ e.a → d.b ≡ e.b → d ≡ e
degree_is d e a b = ap (λ x. degree_of_parts x d.b) a ∙ ap (λ y. degree_of_parts e.a y) b

pub degree_exact : CmpEqualImpliesEq degree_order
degree_exact d e h = let parts = both_equal _ _ h in degree_is d e (exact_signed d.a e.a parts.0) (exact_signed d.b e.b parts.1)

ranks_with : (x y z : ℤ) (r : Ordering) → MatchOrdering r (x <ℤ y) (x ≡ y) (y <ℤ x) →
    MatchOrdering r ((x +ℤ z) <ℤ (y +ℤ z)) ((x +ℤ z) ≡ (y +ℤ z)) ((y +ℤ z) <ℤ (x +ℤ z))
ranks_with x y z Less h = omega (arith, ints)
ranks_with x y z Equal h = ap (λ w. w +ℤ z) h
ranks_with x y z Greater h = omega (arith, ints)

int_cmp_plus : (x y z : ℤ) → int_cmp (x +ℤ z) (y +ℤ z) ≡ int_cmp x y
int_cmp_plus x y z = sym (int_cmp_is (x +ℤ z) (y +ℤ z) (int_cmp x y) (ranks_with x y z (int_cmp x y) (int_ranked x y (int_cmp x y) refl)))

-- adding the same degree to both changes no comparison
pub degree_order_plus : (d e f : Degree) → degree_order (degree_plus d f) (degree_plus e f) ≡ degree_order d e
degree_order_plus d e f = rw (int_cmp_plus d.a e.a f.a, int_cmp_plus d.b e.b f.b) refl
