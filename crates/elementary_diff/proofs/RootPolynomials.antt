-- The polynomial at the root of a tree: what is left there, and the sum of its total derivatives.
use Rattle.std.proofs.Common.{◌≡◌, ℕ, ◌<◌, ◌≤◌, pos, ◌≤ℤ◌, List, sum, refl, sym, ap, ◌∙◌, arith, Result, Ok, Err}
use Rattle.std.specs.Prelude.{IfOk, IfErr, IsOkUnless}
use Rattle.std.proofs.lemmas.Int.{ints}
use Rattle.exact_sums.specs.Saturating.{overflow}
use Rattle.degree_numbers.specs.declared.Types.{Types}
use Rattle.plain_trees.specs.Plain.{Plain, root_of}
use Rattle.symbol_polys.specs.Polynomials.{PlainTerm, coefficient_of, HaveSameCoefficients, IsRefused}
use Rattle.symbol_polys.specs.View.{terms_of}
use Rattle.symbol_polys.specs.declared.Poly.{Poly}
use Rattle.symbol_polys.specs.declared.PolyError.{PolyError}
use Rattle.symbol_polys.specs.declared.PolyError.TheVariants.{CoefficientTooLarge, PolyText, Memory}
use Rattle.elementary_diff.specs.Differentials.{by_edges, noise_free, total_derivatives, root_factor}
use Rattle.elementary_diff.specs.Masses.{weight, root_mass}

-- with n as the root's decoration, and left as what the edges leave
module _ (ty : Types) (side : List PlainTerm) (t : Plain) (n : List ℕ) (left : List PlainTerm) (root : root_of t ≡ n) (is : left ≡ noise_free (by_edges ty t side)) where
  pub left-mass : weight (sum n) left ≡ root_mass ty side t
  left-mass = ap (λ (ms : List ℕ). weight (sum ms) left) (sym root) ∙ ap (weight (sum (root_of t))) is

  left-factor : total_derivatives 0 n left ≡ root_factor ty side t
  left-factor = ap (λ (ms : List ℕ). total_derivatives 0 ms left) (sym root) ∙ ap (total_derivatives 0 (root_of t)) is

  pub left-same : (r : Result Poly PolyError) (ts us : List PlainTerm) → us ≡ ts →
      HaveSameCoefficients ts (total_derivatives 0 n left) →
      IfOk r (λ p. HaveSameCoefficients (terms_of p.terms) us) →
      IfOk r (λ p. HaveSameCoefficients (terms_of p.terms) (root_factor ty side t))
  left-same (Ok p) ts us e same h = λ m. h m ∙ ap (coefficient_of m) e ∙ same m ∙ ap (coefficient_of m) left-factor
  left-same (Err e) ts us i same h = h

-- a sum that is in range
pub mass-within : (r : Result Poly PolyError) (size most : ℕ) → size ≤ most → IfOk r (λ p. p.mass ≡ pos size) → IfOk r (λ p. p.mass ≤ℤ pos most)
mass-within (Ok p) size most h e = omega (arith, ints, h, e)
mass-within (Err e) size most h i = i

pub memory-alone : (r : Result Poly PolyError) (size : ℕ) → size < overflow → IfErr r (IsRefused (overflow ≤ size)) → IsOkUnless r Memory
memory-alone (Ok p) size h e = tt
memory-alone (Err CoefficientTooLarge) size h e = absurd (omega (arith, h, e))
memory-alone (Err PolyText) size h e = absurd e
memory-alone (Err Memory) size h e = refl
