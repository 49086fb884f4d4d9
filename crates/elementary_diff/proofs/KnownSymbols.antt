-- The symbols of an elementary differential are those of the equation.
use Rattle.std.proofs.Common.{◌≡◌, ℕ, zero, suc, ◌+◌, ◌<◌, ◌≤◌, ◌==◌, ℤ, Bool, true, false, not, cond, List, [], ◌∷◌, ◌++◌, length, map, drop, get_or, slice_get, refl, sym, subst, ◌∙◌, inl, inr, arith, Some, None, Option}
use Rattle.std.specs.Prelude.{slice_index, option_map}
use Rattle.std.specs.List.{All, AllByRecursion, list_any}
use Rattle.std.specs.Ordering.{is_eq}
use Rattle.std.proofs.lemmas.Bool.{cases_lt}
use Rattle.std.proofs.lemmas.Grind.{common_steps}
use Rattle.std.proofs.lemmas.List.{drop_all}
use Rattle.std.proofs.lemmas.List.Elements.{All-head, All-tail}
use Rattle.degree_numbers.specs.declared.Types.{Types}
use Rattle.degree_numbers.specs.declared.TypeEntry.{TypeEntry}
use Rattle.degree_numbers.specs.declared.Kind.{Kind}
use Rattle.degree_numbers.specs.declared.Kind.TheVariants.{Noise, Kernel}
use Rattle.degree_numbers.specs.Multi.{is_zero}
use Rattle.degree_numbers.specs.Types.{kind_of}
use Rattle.equations.specs.Accepted.{IsEquation, IsUnknown, IsRightTerm, IsFactor}
use Rattle.equations.specs.EdgeTypes.{EdgeType}
use Rattle.equations.specs.declared.Equation.{Equation}
use Rattle.equations.specs.declared.RightTerm.{RightTerm}
use Rattle.equations.specs.declared.Unknown.{Unknown}
use Rattle.plain_trees.specs.Plain.{Plain, bare, graft, root_of}
use Rattle.plain_trees.specs.Degree.{HasTypes, IsMultiIndex}
use Rattle.symbol_polys.specs.Symbols.{PlainSymbol, parameter, variable, noise, tree, expectation, symbol_order, IsMonomial}
use Rattle.symbol_polys.specs.Polynomials.{PlainTerm, monomials, HaveSameCoefficients, IsPolynomial}
use Rattle.symbol_polys.specs.Products.{with_symbol, monomial_product, products_with, products}
use Rattle.symbol_polys.specs.Text.{IsOver, IsTermOver}
use Rattle.symbol_polys.specs.View.{symbol_of, terms_of}
use Rattle.symbol_polys.specs.declared.Symbol.{Symbol}
use Rattle.symbol_polys.specs.declared.Term.{Term}
use Rattle.symbol_polys.specs.Derivatives.{without, derivatives}
use Rattle.tree_pool.specs.Content.{Content, tree_at, Holds, IsKept}
use Rattle.tree_pool.proofs.Walks.{at_holds}
use Rattle.symbol_polys.proofs.Collected.{collected-all}
use Rattle.symbol_polys.proofs.MonomialLaws.{all-monomial_product}
use Rattle.elementary_diff.specs.Differentials.{Sides, symbol_by, factor_symbol, right_term, side_of, right_terms, edge_derivatives_by, edge_derivatives, by_edges, is_noise_symbol, noise_free, one_more, further_symbol, further, total_derivative, repeated, total_derivatives, root_factor, kernel_factor, above_factor, differential_of, differential_terms}
use Rattle.elementary_diff.specs.Known.{IsKnown, AreKnown, IsFiveLong, AreFiveLong}

-- entries behind the directions
abbrev IsZeroFrom : ℕ → List ℕ → Type 0
IsZeroFrom dims m = (i : ℕ) → dims ≤ i → slice_index m i ≡ 0

other-entry : (d i : ℕ) (m : List ℕ) → d < i → slice_index (one_more d m) i ≡ slice_index m i
other-entry d i [] h = refl
other-entry zero zero (x ∷ m) h = absurd (omega (arith, h))
other-entry zero (suc i) (x ∷ m) h = refl
other-entry (suc d) zero (x ∷ m) h = absurd (omega (arith, h))
other-entry (suc d) (suc i) (x ∷ m) h = other-entry d i m (omega (arith, h))

more-within : (d dims : ℕ) (m : List ℕ) → d < dims → IsZeroFrom dims m → IsZeroFrom dims (one_more d m)
more-within d dims m h z = λ i le. other-entry d i m (omega (arith, h, le)) ∙ z i le

zero-at : (dims i : ℕ) (m : List ℕ) → AllByRecursion (λ x. x ≡ 0) (drop dims m) → dims ≤ i → slice_index m i ≡ 0
zero-at dims i [] h le = refl
zero-at zero zero (x ∷ m) h le = h.0
zero-at zero (suc i) (x ∷ m) h le = zero-at zero i m h.1 (omega arith)
zero-at (suc dims) zero (x ∷ m) h le = absurd (omega (arith, le))
zero-at (suc dims) (suc i) (x ∷ m) h le = zero-at dims i m h (omega (arith, le))

zeros-from : (dims : ℕ) (m : List ℕ) → IsZeroFrom dims m → AllByRecursion (λ x. x ≡ 0) (drop dims m)
zeros-from zero [] h = tt
zeros-from (suc dims) [] h = tt
zeros-from zero (x ∷ m) h = (h zero (omega arith), zeros-from zero m (λ i le. h (suc i) (omega arith)))
zeros-from (suc dims) (x ∷ m) h = zeros-from dims m (λ i le. h (suc i) (omega (arith, le)))

root-multi : (ty : Types) (t : Plain) → HasTypes ty t → IsMultiIndex ty.dims (root_of t)
root-multi ty (bare n) h = h
root-multi ty (graft k p c t) h = root-multi ty t h.2

no-kind : (es : List TypeEntry) (k : ℕ) → k < length es → option_map (λ e. e.kind) (slice_get es k) ≡ None → ⊥
no-kind [] k h e = absurd (omega (arith, h))
no-kind (x ∷ es) zero h e = absurd cc
no-kind (x ∷ es) (suc k) h e = no-kind es k (omega (arith, h)) e

module _ (ty : Types) (ps : List (List ℕ)) where
  abbrev Known : PlainSymbol → Type 0
  Known s = IsKnown ty ps s

  abbrev AllKnown : List (List PlainSymbol) → Type 0
  AllKnown ms = AllByRecursion (λ m. AllByRecursion Known m) ms

  -- right sides
  known-factor : (f : EdgeType) → IsFactor ty f → Known (factor_symbol ty f)
  known-factor f h = at (kind_of ty f.0.0) refl
    where
      at : (o : Option Kind) → kind_of ty f.0.0 ≡ o → IsKnown ty ps (symbol_by o f.0.0 f.1.entries)
      at None e = absurd (no-kind ty.list f.0.0 h.known e)
      at (Some Noise) e = e
      at (Some Kernel) e = (e, λ i le. zero-at ty.dims i f.1.entries h.derivative.rest le)

  known-with : (s : PlainSymbol) (m : List PlainSymbol) → Known s → AllByRecursion Known m → AllByRecursion Known (with_symbol s m)
  known-with s m h a = all-monomial_product Known (s ∷ []) m (h, tt) a

  known-factors : (fs : List EdgeType) → All (IsFactor ty) fs → AllByRecursion Known (monomial_product (map (factor_symbol ty) fs) [])
  known-factors [] h = tt
  known-factors (f ∷ fs) h = known-with (factor_symbol ty f) (monomial_product (map (factor_symbol ty) fs) []) (known-factor f (All-head (IsFactor ty) f fs h)) (known-factors fs (All-tail (IsFactor ty) f fs h))

  known-parameters : (qs : List ℕ) (m : List PlainSymbol) → All (λ p. p < length ps) qs →
      AllByRecursion Known m → AllByRecursion Known (monomial_product (map parameter qs) m)
  known-parameters [] m h a = a
  known-parameters (q ∷ qs) m h a =
      known-with (parameter q) (monomial_product (map parameter qs) m) (All-head (λ p. p < length ps) q qs h) (known-parameters qs m (All-tail (λ p. p < length ps) q qs h) a)

  known-rights : (ts : List RightTerm) → All (IsRightTerm ty (length ps)) ts → AreKnown ty ps (map (right_term ty) ts)
  known-rights [] h = tt
  known-rights (t ∷ ts) h =
      let first = All-head (IsRightTerm ty (length ps)) t ts h in
      (known-parameters t.parameters (monomial_product (map (factor_symbol ty) t.factors) []) first.parameters_known (known-factors t.factors first.factors_known), known-rights ts (All-tail (IsRightTerm ty (length ps)) t ts h))

  known-side : (k : ℕ) (us : List Unknown) → All (IsUnknown ty (length ps)) us → AreKnown ty ps (side_of ty us k)
  known-side k [] h = tt
  known-side k (u ∷ us) h =
      elim (u.kernel.0 == k) as (λ (b : Bool). AreKnown ty ps (cond b (map (right_term ty) u.right) (side_of ty us k))) [
        | true ↦ known-rights u.right (All-head (IsUnknown ty (length ps)) u us h).terms
        | false ↦ known-side k us (All-tail (IsUnknown ty (length ps)) u us h)
      ]

  -- derivatives
  known-without : (s : PlainSymbol) (m : List PlainSymbol) → AllByRecursion Known m → AllByRecursion Known (without s m)
  known-without s [] h = tt
  known-without s (t ∷ m) h = elim (is_eq (symbol_order s t)) as (λ (b : Bool). AllByRecursion Known (cond b m (t ∷ without s m))) [ true ↦ h.1 | false ↦ (h.0, known-without s m h.1) ]

  known-derivatives : (s : PlainSymbol) (ts : List PlainTerm) → AreKnown ty ps ts → AreKnown ty ps (derivatives s ts)
  known-derivatives s [] h = tt
  known-derivatives s (t ∷ ts) h = (known-without s t.symbols h.0, known-derivatives s ts h.1)

  known-edge : (o : Option Kind) (k : ℕ) (p : List ℕ) (ts : List PlainTerm) → AreKnown ty ps ts → AreKnown ty ps (edge_derivatives_by o k p ts)
  known-edge None k p ts h = tt
  known-edge (Some Noise) k p ts h = elim (is_zero p) as (λ (b : Bool). AreKnown ty ps (cond b (derivatives (noise k) ts) [])) [ true ↦ known-derivatives (noise k) ts h | false ↦ tt ]
  known-edge (Some Kernel) k p ts h = known-derivatives (variable k p) ts h

  known-edges : (t : Plain) (ts : List PlainTerm) → AreKnown ty ps ts → AreKnown ty ps (by_edges ty t ts)
  known-edges (bare n) ts h = h
  known-edges (graft k p c t) ts h = known-edges t (edge_derivatives ty k p ts) (known-edge (kind_of ty k) k p ts h)

  known-noise_free : (ts : List PlainTerm) → AreKnown ty ps ts → AreKnown ty ps (noise_free ts)
  known-noise_free [] h = tt
  known-noise_free (t ∷ ts) h =
      elim (not (list_any is_noise_symbol t.symbols)) as (λ (b : Bool). AreKnown ty ps (cond b (t ∷ noise_free ts) (noise_free ts))) [ true ↦ (h.0, known-noise_free ts h.1) | false ↦ known-noise_free ts h.1 ]

  -- total derivatives
  all-append : (xs ys : List (List PlainSymbol)) → AllKnown xs → AllKnown ys → AllKnown (xs ++ ys)
  all-append [] ys h k = k
  all-append (x ∷ xs) ys h k = (h.0, all-append xs ys h.1 k)

  known-append : (ts us : List PlainTerm) → AreKnown ty ps ts → AreKnown ty ps us → AreKnown ty ps (ts ++ us)
  known-append [] us h k = k
  known-append (t ∷ ts) us h k = (h.0, known-append ts us h.1 k)

  known-own : (d : ℕ) (s : PlainSymbol) (m : List PlainSymbol) → d < ty.dims → Known s →
      AllByRecursion Known m → AllKnown (map (λ r. with_symbol r m) (further_symbol d s))
  known-own d (parameter i) m lt h a = tt
  known-own d (variable k p) m lt h a = (known-with (variable k (one_more d p)) m (h.0, more-within d ty.dims p lt h.1) a, tt)
  known-own d (noise k) m lt h a = tt
  known-own d (tree t) m lt h a = tt
  known-own d (expectation t) m lt h a = tt

  known-each : (s : PlainSymbol) (ms : List (List PlainSymbol)) → Known s → AllKnown ms → AllKnown (map (with_symbol s) ms)
  known-each s [] h a = tt
  known-each s (m ∷ ms) h a = (known-with s m h a.0, known-each s ms h a.1)

  known-further : (d : ℕ) (m : List PlainSymbol) → d < ty.dims → AllByRecursion Known m → AllKnown (further d m)
  known-further d [] lt h = tt
  known-further d (s ∷ m) lt h =
      all-append (map (λ r. with_symbol r m) (further_symbol d s)) (map (with_symbol s) (further d m)) (known-own d s m lt h.0 h.1) (known-each s (further d m) h.0 (known-further d m lt h.1))

  known-made : (c : ℤ) (ms : List (List PlainSymbol)) → AllKnown ms → AreKnown ty ps (map (λ m. record { coefficient = c; symbols = m }) ms)
  known-made c [] h = tt
  known-made c (m ∷ ms) h = (h.0, known-made c ms h.1)

  known-total : (d : ℕ) (ts : List PlainTerm) → d < ty.dims → AreKnown ty ps ts → AreKnown ty ps (total_derivative d ts)
  known-total d [] lt h = tt
  known-total d (t ∷ ts) lt h =
      known-append (map (λ m. record { coefficient = t.coefficient; symbols = m }) (further d t.symbols)) (total_derivative d ts) (known-made t.coefficient (further d t.symbols) (known-further d t.symbols lt h.0)) (known-total d ts lt h.1)

  known-repeated : (n d : ℕ) (ts : List PlainTerm) → d < ty.dims → AreKnown ty ps ts → AreKnown ty ps (repeated n (total_derivative d) ts)
  known-repeated zero d ts lt h = h
  known-repeated (suc n) d ts lt h = known-repeated n d (total_derivative d ts) lt (known-total d ts lt h)

  known-times : (n d : ℕ) (ts : List PlainTerm) → (ty.dims ≤ d → n ≡ 0) → AreKnown ty ps ts → AreKnown ty ps (repeated n (total_derivative d) ts)
  known-times n d ts z h = elim (cases_lt d ty.dims) [
    | inl below ↦ known-repeated n d ts below h
    | inr above ↦ subst (λ (x : ℕ). AreKnown ty ps (repeated x (total_derivative d) ts)) (sym (z above)) h
  ]

  known-totals : (d : ℕ) (ms : List ℕ) (ts : List PlainTerm) →
      ((i : ℕ) → ty.dims ≤ d + i → slice_index ms i ≡ 0) → AreKnown ty ps ts →
      AreKnown ty ps (total_derivatives d ms ts)
  known-totals d [] ts z h = h
  known-totals d (n ∷ ms) ts z h =
      known-totals (suc d) ms (repeated n (total_derivative d) ts) (λ i le. z (suc i) (omega (arith, le))) (known-times n d ts (λ le. z 0 (omega (arith, le))) h)

  -- products
  known-products_with : (t : PlainTerm) (us : List PlainTerm) → AllByRecursion Known t.symbols → AreKnown ty ps us → AreKnown ty ps (products_with t us)
  known-products_with t [] h k = tt
  known-products_with t (u ∷ us) h k = (all-monomial_product Known t.symbols u.symbols h k.0, known-products_with t us h k.1)

  known-products : (ts us : List PlainTerm) → AreKnown ty ps ts → AreKnown ty ps us → AreKnown ty ps (products ts us)
  known-products [] us h k = tt
  known-products (t ∷ ts) us h k = known-append (products_with t us) (products ts us) (known-products_with t us h.0 k) (known-products ts us h.1 k)

  known-root : (side : List PlainTerm) (t : Plain) → HasTypes ty t → AreKnown ty ps side → AreKnown ty ps (root_factor ty side t)
  known-root side t types h =
      known-totals 0 (root_of t) (noise_free (by_edges ty t side)) (λ i le. zero-at ty.dims i (root_of t) (root-multi ty t types).rest (omega (arith, le))) (known-noise_free (by_edges ty t side) (known-edges t side h))

  known-kernel : (o : Option Kind) (ts : List PlainTerm) → AreKnown ty ps ts → AreKnown ty ps (kernel_factor o ts)
  known-kernel None ts h = (tt, tt)
  known-kernel (Some Noise) ts h = (tt, tt)
  known-kernel (Some Kernel) ts h = h

  known-above : (sides : Sides) (t : Plain) → ((k : ℕ) → AreKnown ty ps (sides k)) → HasTypes ty t → AreKnown ty ps (above_factor ty sides t)
  known-above sides (bare n) h types = (tt, tt)
  known-above sides (graft k p c t) h types =
      let whole = products (root_factor ty (sides k) c) (above_factor ty sides c) in
      known-products (kernel_factor (kind_of ty k) whole) (above_factor ty sides t)
      (known-kernel (kind_of ty k) whole (known-products (root_factor ty (sides k) c) (above_factor ty sides c) (known-root (sides k) c types.1 (h k)) (known-above sides c h types.1)))
      (known-above sides t h types.2)

  known-differential : (sides : Sides) (k : ℕ) (t : Plain) → ((k : ℕ) → AreKnown ty ps (sides k)) →
      HasTypes ty t → AreKnown ty ps (differential_of ty sides k t)
  known-differential sides k t h types = known-products (root_factor ty (sides k) t) (above_factor ty sides t) (known-root (sides k) t types (h k)) (known-above sides t h types)

  -- from terms to their monomials and back
  monomials-known : (ts : List PlainTerm) → AreKnown ty ps ts → AllKnown (monomials ts)
  monomials-known [] h = tt
  monomials-known (t ∷ ts) h = (h.0, monomials-known ts h.1)

  known-monomials : (ts : List PlainTerm) → AllKnown (monomials ts) → AreKnown ty ps ts
  known-monomials [] h = tt
  known-monomials (t ∷ ts) h = (h.0, known-monomials ts h.1)

  collected-known : (mass : ℤ) (ts us : List PlainTerm) → IsPolynomial mass ts → HaveSameCoefficients ts us → AreKnown ty ps us → AreKnown ty ps ts
  collected-known mass ts us p same h = known-monomials ts (collected-all (λ m. AllByRecursion Known m) mass ts us p same (monomials-known us h))

pub known-sides : (eq : Equation) (k : ℕ) → IsEquation eq → AreKnown eq.types eq.parameters (right_terms eq k)
known-sides eq k h = known-side eq.types eq.parameters k eq.unknowns h.unknowns

-- the symbols of a polynomial that is an elementary differential
pub known-poly : (eq : Equation) (k : ℕ) (t : Plain) (mass : ℤ) (ts : List PlainTerm) →
    IsEquation eq → HasTypes eq.types t → IsPolynomial mass ts →
    HaveSameCoefficients ts (differential_terms eq k t) →
    AreKnown eq.types eq.parameters ts
known-poly eq k t mass ts h types p same =
    collected-known eq.types eq.parameters mass ts (differential_terms eq k t) p same (known-differential eq.types eq.parameters (right_terms eq) k t (λ i. known-sides eq i h) types)

-- what is read of the symbols
over-symbol : (ty : Types) (ps : List (List ℕ)) (s : PlainSymbol) → IsKnown ty ps s → IsFiveLong s → IsOver ty ps s
over-symbol ty ps (parameter i) h five = h
over-symbol ty ps (variable k m) h five = (h.0, record { entries = five; rest = zeros-from ty.dims m h.1 })
over-symbol ty ps (noise k) h five = h
over-symbol ty ps (tree t) h five = absurd h
over-symbol ty ps (expectation t) h five = absurd h

over-symbols : (ty : Types) (ps : List (List ℕ)) (m : List PlainSymbol) →
    AllByRecursion (IsKnown ty ps) m → AllByRecursion IsFiveLong m → AllByRecursion (IsOver ty ps) m
over-symbols ty ps [] h five = tt
over-symbols ty ps (s ∷ m) h five = (over-symbol ty ps s h.0 five.0, over-symbols ty ps m h.1 five.1)

over-terms : (ty : Types) (ps : List (List ℕ)) (ts : List PlainTerm) → AreKnown ty ps ts →
    AreFiveLong ts → AllByRecursion IsMonomial (monomials ts) → AllByRecursion (IsTermOver ty ps) ts
over-terms ty ps [] h five each = tt
over-terms ty ps (t ∷ ts) h five each = (record { over = over-symbols ty ps t.symbols h.0 five.0; trees = each.0.trees }, over-terms ty ps ts h.1 five.1 each.1)

pub over-poly : (eq : Equation) (c : Content) (k i : ℕ) (t : Plain) (mass : ℤ) (ts : List PlainTerm) →
    IsEquation eq → c.types ≡ eq.types → Holds c i t → IsKept c.types t → IsPolynomial mass ts →
    HaveSameCoefficients ts (differential_terms eq k (tree_at c i)) → AreFiveLong ts → AllByRecursion (IsTermOver eq.types eq.parameters) ts
over-poly eq c k i t mass ts h e holds kept p same five =
    let types : HasTypes eq.types (tree_at c i) = rw (at_holds c i t holds) (subst (λ (ty : Types). HasTypes ty t) e kept.known) in
    over-terms eq.types eq.parameters ts (known-poly eq k (tree_at c i) mass ts h types p same) five p.each

pub symbols-step : (ss : List Symbol) (i : ℕ) (s : Symbol) → i < length ss → s ≡ get_or ss i s →
    IsFiveLong (symbol_of s) →
    (AllByRecursion IsFiveLong (map symbol_of (drop i ss)) → AllByRecursion IsFiveLong (map symbol_of ss)) →
    AllByRecursion IsFiveLong (map symbol_of (drop (i + 1) ss)) → AllByRecursion IsFiveLong (map symbol_of ss)
symbols-step ss i s lt e five h rest =
    let cut : drop i ss ≡ s ∷ drop (i + 1) ss = grind (arith, common_steps) in
    h (rw cut (five, rest))

pub symbols-end : (ss : List Symbol) (i : ℕ) → length ss ≤ i →
    (AllByRecursion IsFiveLong (map symbol_of (drop i ss)) → AllByRecursion IsFiveLong (map symbol_of ss)) →
    AllByRecursion IsFiveLong (map symbol_of ss)
symbols-end ss i end h = h (rw (drop_all i ss end) tt)

pub terms-step : (ts : List Term) (i : ℕ) (t : Term) → i < length ts → t ≡ get_or ts i t →
    AllByRecursion IsFiveLong (map symbol_of t.symbols) →
    (AreFiveLong (terms_of (drop i ts)) → AreFiveLong (terms_of ts)) →
    AreFiveLong (terms_of (drop (i + 1) ts)) → AreFiveLong (terms_of ts)
terms-step ts i t lt e five h rest =
    let cut : drop i ts ≡ t ∷ drop (i + 1) ts = grind (arith, common_steps) in
    h (rw cut (five, rest))

pub terms-end : (ts : List Term) (i : ℕ) → length ts ≤ i → (AreFiveLong (terms_of (drop i ts)) → AreFiveLong (terms_of ts)) → AreFiveLong (terms_of ts)
terms-end ts i end h = h (rw (drop_all i ts end) tt)
