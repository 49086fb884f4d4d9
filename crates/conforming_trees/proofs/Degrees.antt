-- The order of degrees and their sums.
use Rattle.std.proofs.Common.{◌≡◌, ◌≢◌, ℤ, ◌<ℤ◌, ◌≤ℤ◌, refl, arith, Ordering, Less, Equal, Greater}
use Rattle.std.specs.Ordering.{int_cmp, ordering_then, MatchOrdering}
use Rattle.std.proofs.lemmas.Cmp.{int_ranked}
use Rattle.std.proofs.lemmas.Int.{ints}
use Rattle.degree_numbers.specs.declared.degree.Degree.{Degree}
use Rattle.degree_numbers.specs.Degree.{degree_plus, degree_zero}
use Rattle.degree_numbers.proofs.Orders.{degree_is}
use Rattle.conforming_trees.specs.Budgets.{IsNotAbove}

-- d is at most e, by parts
pub record IsAtMostBy (d : Degree) (e : Degree) : Type 0 where
  pub standard : d.a ≤ℤ e.a
  pub tied : d.a ≡ e.a → d.b ≤ℤ e.b

ranked : (x y : ℤ) → MatchOrdering (int_cmp x y) (x <ℤ y) (x ≡ y) (y <ℤ x)
ranked x y = int_ranked x y (int_cmp x y) refl

by_ranks : (d e : Degree) (r s : Ordering) → MatchOrdering r (d.a <ℤ e.a) (d.a ≡ e.a) (e.a <ℤ d.a) →
    MatchOrdering s (d.b <ℤ e.b) (d.b ≡ e.b) (e.b <ℤ d.b) → ordering_then r s ≢ Greater →
    IsAtMostBy d e
by_ranks d e Less s h k n = record { standard = omega (arith, ints); tied = λ same. omega (arith, ints) }
by_ranks d e Equal Less h k n = record { standard = omega (arith, ints); tied = λ same. omega (arith, ints) }
by_ranks d e Equal Equal h k n = record { standard = omega (arith, ints); tied = λ same. omega (arith, ints) }
by_ranks d e Equal Greater h k n = absurd (n refl)
by_ranks d e Greater s h k n = absurd (n refl)

pub by_parts : (d e : Degree) → IsNotAbove d e → IsAtMostBy d e
by_parts d e h = by_ranks d e (int_cmp d.a e.a) (int_cmp d.b e.b) (ranked d.a e.a) (ranked d.b e.b) h

from_ranks : (d e : Degree) (r s : Ordering) →
    MatchOrdering r (d.a <ℤ e.a) (d.a ≡ e.a) (e.a <ℤ d.a) →
    MatchOrdering s (d.b <ℤ e.b) (d.b ≡ e.b) (e.b <ℤ d.b) → IsAtMostBy d e →
    ordering_then r s ≢ Greater
from_ranks d e Less s h k p = λ g. absurd cc
from_ranks d e Equal Less h k p = λ g. absurd cc
from_ranks d e Equal Equal h k p = λ g. absurd cc
from_ranks d e Equal Greater h k p = λ g. let tied = p.tied h in absurd (omega (arith, ints))
from_ranks d e Greater s h k p = λ g. let standard = p.standard in absurd (omega (arith, ints))

pub from_parts : (d e : Degree) → IsAtMostBy d e → IsNotAbove d e
from_parts d e p = from_ranks d e (int_cmp d.a e.a) (int_cmp d.b e.b) (ranked d.a e.a) (ranked d.b e.b) p

pub not_above_self : (d : Degree) → IsNotAbove d d
not_above_self d = from_parts d d record { standard = omega (arith, ints); tied = λ same. omega (arith, ints) }

pub not_above_trans : (d e f : Degree) → IsNotAbove d e → IsNotAbove e f → IsNotAbove d f
not_above_trans d e f h k =
    let p = by_parts d e h in
    let q = by_parts e f k in
    let ps = p.standard in
    let qs = q.standard in
    from_parts d f record {
      standard = omega (arith, ints);
      tied = λ same. let x = p.tied (omega (arith, ints)) in let y = q.tied (omega (arith, ints)) in omega (arith, ints);
    }

-- sums keep the order
pub plus_not_above : (d e f g : Degree) → IsNotAbove d e → IsNotAbove f g → IsNotAbove (degree_plus d f) (degree_plus e g)
plus_not_above d e f g h k =
    let p = by_parts d e h in
    let q = by_parts f g k in
    let ps = p.standard in
    let qs = q.standard in
    from_parts (degree_plus d f) (degree_plus e g) record {
      standard = omega (arith, ints);
      tied = λ same. let x = p.tied (omega (arith, ints)) in let y = q.tied (omega (arith, ints)) in omega (arith, ints);
    }

-- what is at most in a sum, where the other summand is not less
pub plus_cancels : (d e f g : Degree) → IsNotAbove (degree_plus d f) (degree_plus e g) → IsNotAbove g f → IsNotAbove d e
plus_cancels d e f g h k =
    let p = by_parts (degree_plus d f) (degree_plus e g) h in
    let q = by_parts g f k in
    let ps = p.standard in
    let qs = q.standard in
    from_parts d e record {
      standard = omega (arith, ints);
      tied = λ same. let x = p.tied (omega (arith, ints)) in let y = q.tied (omega (arith, ints)) in omega (arith, ints);
    }

pub plus_commutes : (d e : Degree) → degree_plus d e ≡ degree_plus e d
plus_commutes d e = degree_is (degree_plus d e) (degree_plus e d) (omega (arith, ints)) (omega (arith, ints))

pub plus_associates : (d e f : Degree) → degree_plus (degree_plus d e) f ≡ degree_plus d (degree_plus e f)
plus_associates d e f = degree_is (degree_plus (degree_plus d e) f) (degree_plus d (degree_plus e f)) (omega (arith, ints)) (omega (arith, ints))

pub plus_zero : (d : Degree) → degree_plus d degree_zero ≡ d
plus_zero d = degree_is (degree_plus d degree_zero) d (omega (arith, ints)) (omega (arith, ints))

pub zero_plus : (d : Degree) → degree_plus degree_zero d ≡ d
zero_plus d = degree_is (degree_plus degree_zero d) d (omega (arith, ints)) (omega (arith, ints))

pub plus_exchanges : (d e f : Degree) → degree_plus d (degree_plus e f) ≡ degree_plus e (degree_plus d f)
plus_exchanges d e f = degree_is (degree_plus d (degree_plus e f)) (degree_plus e (degree_plus d f)) (omega (arith, ints)) (omega (arith, ints))

-- the same summand on both sides
pub plus_passes : (d e f g : Degree) → IsNotAbove d (degree_plus e f) → IsNotAbove (degree_plus d g) (degree_plus (degree_plus e g) f)
plus_passes d e f g h =
    let p = by_parts d (degree_plus e f) h in
    let ps = p.standard in
    from_parts (degree_plus d g) (degree_plus (degree_plus e g) f) record {
      standard = omega (arith, ints);
      tied = λ same. let x = p.tied (omega (arith, ints)) in omega (arith, ints);
    }
