-- The entries in the terms of a right side are low, and so are those of what the edges of a root
-- leave of it.
use Rattle.std.proofs.Common.{ℕ, ◌≤◌, ◌==◌, true, false, Bool, cond, not, List, [], ◌∷◌, length, map, Some, None, Option}
use Rattle.std.specs.List.{All, AllByRecursion, list_any}
use Rattle.std.specs.Ordering.{is_eq}
use Rattle.std.proofs.lemmas.List.Elements.{All-head, All-tail}
use Rattle.degree_numbers.specs.declared.Types.{Types}
use Rattle.degree_numbers.specs.declared.Kind.{Kind}
use Rattle.degree_numbers.specs.declared.Kind.TheVariants.{Noise, Kernel}
use Rattle.degree_numbers.specs.Multi.{is_zero}
use Rattle.degree_numbers.specs.Types.{kind_of}
use Rattle.equations.specs.declared.Equation.{Equation}
use Rattle.equations.specs.declared.RightTerm.{RightTerm}
use Rattle.equations.specs.declared.Unknown.{Unknown}
use Rattle.equations.specs.Accepted.{IsFactor, IsRightTerm, IsUnknown, IsEquation}
use Rattle.equations.specs.EdgeTypes.{EdgeType}
use Rattle.plain_trees.specs.Plain.{Plain, bare, graft}
use Rattle.symbol_polys.specs.Symbols.{PlainSymbol, parameter, variable, noise, symbol_order}
use Rattle.symbol_polys.specs.Polynomials.{PlainTerm}
use Rattle.symbol_polys.specs.Products.{monomial_product}
use Rattle.symbol_polys.specs.Derivatives.{without, derivatives}
use Rattle.symbol_polys.proofs.MonomialLaws.{all-monomial_product}
use Rattle.symbol_polys.proofs.DerivativeLaws.{is_monomial-without}
use Rattle.elementary_diff.specs.Differentials.{symbol_by, factor_symbol, right_term, side_of, right_terms, edge_derivatives_by, edge_derivatives, by_edges, is_noise_symbol, noise_free}
use Rattle.elementary_diff.specs.Low.{AreAtMost, IsLow, IsLowMonomial, AreLow}
use Rattle.elementary_diff.proofs.Rooms.{right-monomial}

-- right sides
entries-low : (xs : List ℕ) → All (λ n. n ≤ 8) xs → AreAtMost 8 xs
entries-low [] h = tt
entries-low (x ∷ xs) h = (All-head (λ n. n ≤ 8) x xs h, entries-low xs (All-tail (λ n. n ≤ 8) x xs h))

symbol-low : (o : Option Kind) (k : ℕ) (p : List ℕ) → AreAtMost 8 p → IsLow 8 (symbol_by o k p)
symbol-low None k p h = h
symbol-low (Some Noise) k p h = tt
symbol-low (Some Kernel) k p h = h

factors-low : (ty : Types) (fs : List EdgeType) → All (IsFactor ty) fs → AllByRecursion (IsLow 8) (map (factor_symbol ty) fs)
factors-low ty [] h = tt
factors-low ty (f ∷ fs) h =
    (symbol-low (kind_of ty f.0.0) f.0.0 f.1.entries (entries-low f.1.entries (All-head (IsFactor ty) f fs h).small), factors-low ty fs (All-tail (IsFactor ty) f fs h))

parameters-low : (ps : List ℕ) → AllByRecursion (IsLow 8) (map parameter ps)
parameters-low [] = tt
parameters-low (p ∷ ps) = (tt, parameters-low ps)

right-low : (ty : Types) (count : ℕ) (t : RightTerm) → IsRightTerm ty count t → IsLowMonomial 8 (right_term ty t).symbols
right-low ty count t h =
    let factors = map (factor_symbol ty) t.factors in
    record {
      monomial = right-monomial ty t.parameters t.factors;
      low = all-monomial_product (IsLow 8) (map parameter t.parameters) (monomial_product factors []) (parameters-low t.parameters)
          (all-monomial_product (IsLow 8) factors [] (factors-low ty t.factors h.factors_known) tt);
    }

rights-low : (ty : Types) (count : ℕ) (ts : List RightTerm) → All (IsRightTerm ty count) ts → AreLow 8 (map (right_term ty) ts)
rights-low ty count [] h = tt
rights-low ty count (t ∷ ts) h = (right-low ty count t (All-head (IsRightTerm ty count) t ts h), rights-low ty count ts (All-tail (IsRightTerm ty count) t ts h))

side-low : (ty : Types) (count k : ℕ) (us : List Unknown) → All (IsUnknown ty count) us → AreLow 8 (side_of ty us k)
side-low ty count k [] h = tt
side-low ty count k (u ∷ us) h =
    elim (u.kernel.0 == k) as (λ (b : Bool). AreLow 8 (cond b (map (right_term ty) u.right) (side_of ty us k))) [
      | true ↦ rights-low ty count u.right (All-head (IsUnknown ty count) u us h).terms
      | false ↦ side-low ty count k us (All-tail (IsUnknown ty count) u us h)
    ]

-- what the edges leave
symbols-without : (b : ℕ) (s : PlainSymbol) (m : List PlainSymbol) → AllByRecursion (IsLow b) m → AllByRecursion (IsLow b) (without s m)
symbols-without b s [] h = tt
symbols-without b s (t ∷ m) h =
    elim (is_eq (symbol_order s t)) as (λ (c : Bool). AllByRecursion (IsLow b) (cond c m (t ∷ without s m))) [ true ↦ h.1 | false ↦ (h.0, symbols-without b s m h.1) ]

derivatives-low : (b : ℕ) (s : PlainSymbol) (ts : List PlainTerm) → AreLow b ts → AreLow b (derivatives s ts)
derivatives-low b s [] h = tt
derivatives-low b s (t ∷ ts) h =
    (record { monomial = is_monomial-without s t.symbols h.0.monomial; low = symbols-without b s t.symbols h.0.low }, derivatives-low b s ts h.1)

edge-low : (b : ℕ) (o : Option Kind) (k : ℕ) (p : List ℕ) (ts : List PlainTerm) → AreLow b ts → AreLow b (edge_derivatives_by o k p ts)
edge-low b None k p ts h = tt
edge-low b (Some Noise) k p ts h = elim (is_zero p) as (λ (c : Bool). AreLow b (cond c (derivatives (noise k) ts) [])) [ true ↦ derivatives-low b (noise k) ts h | false ↦ tt ]
edge-low b (Some Kernel) k p ts h = derivatives-low b (variable k p) ts h

edges-low : (b : ℕ) (ty : Types) (t : Plain) (ts : List PlainTerm) → AreLow b ts → AreLow b (by_edges ty t ts)
edges-low b ty (bare n) ts h = h
edges-low b ty (graft k p c t) ts h = edges-low b ty t (edge_derivatives ty k p ts) (edge-low b (kind_of ty k) k p ts h)

noise_free-low : (b : ℕ) (ts : List PlainTerm) → AreLow b ts → AreLow b (noise_free ts)
noise_free-low b [] h = tt
noise_free-low b (t ∷ ts) h =
    elim (not (list_any is_noise_symbol t.symbols)) as (λ (c : Bool). AreLow b (cond c (t ∷ noise_free ts) (noise_free ts))) [ true ↦ (h.0, noise_free-low b ts h.1) | false ↦ noise_free-low b ts h.1 ]

pub left-low : (eq : Equation) (k : ℕ) (t : Plain) → IsEquation eq → AreLow 8 (noise_free (by_edges eq.types t (right_terms eq k)))
left-low eq k t h = noise_free-low 8 (by_edges eq.types t (right_terms eq k)) (edges-low 8 eq.types t (right_terms eq k) (side-low eq.types (length eq.parameters) k eq.unknowns h.unknowns))
