-- Room for derivatives: what the terms of a right side have of it, and that derivatives keep it.
use Rattle.std.proofs.Common.{◌≡◌, ℕ, zero, suc, ◌+◌, ◌*◌, ◌<◌, ◌≤◌, ◌==◌, pos, ◌*ℤ◌, unsigned_abs, true, false, Bool, cond, List, [], ◌∷◌, length, map, get_or, refl, sym, ap, ◌∙◌, arith, Some, None, Option}
use Rattle.std.specs.List.{All}
use Rattle.std.specs.Ordering.{is_gt}
use Rattle.std.proofs.lemmas.Nat.{mul-le}
use Rattle.std.proofs.lemmas.Int.{unsigned_abs-mul}
use Rattle.std.proofs.lemmas.List.{length-map}
use Rattle.std.proofs.lemmas.List.Elements.{All-head, All-tail}
use Rattle.exact_sums.specs.Saturating.{overflow}
use Rattle.exact_sums.specs.Binomials.{factorial}
use Rattle.exact_sums.proofs.MultinomialLaws.{factorial_pos}
use Rattle.multiplicities.proofs.Factorials.{factorial-suc, factorial_most}
use Rattle.degree_numbers.specs.declared.Types.{Types}
use Rattle.degree_numbers.specs.declared.Kind.{Kind}
use Rattle.degree_numbers.specs.declared.Kind.TheVariants.{Noise, Kernel}
use Rattle.degree_numbers.specs.Multi.{is_zero}
use Rattle.degree_numbers.specs.Types.{kind_of}
use Rattle.equations.specs.declared.Equation.{Equation}
use Rattle.equations.specs.declared.RightTerm.{RightTerm}
use Rattle.equations.specs.declared.Unknown.{Unknown}
use Rattle.equations.specs.Accepted.{IsRightTerm, IsUnknown, IsEquation}
use Rattle.equations.specs.EdgeTypes.{EdgeType}
use Rattle.plain_trees.specs.Canon.{IsCanonical}
use Rattle.plain_trees.specs.Plain.{bare, IsSmall}
use Rattle.symbol_polys.specs.Symbols.{PlainSymbol, parameter, variable, noise, symbol_order, HasBoundedTree, IsMonomial}
use Rattle.symbol_polys.specs.Polynomials.{PlainTerm}
use Rattle.symbol_polys.specs.Products.{with_symbol, monomial_product}
use Rattle.symbol_polys.specs.Derivatives.{power_of, without, derivative, derivatives}
use Rattle.symbol_polys.specs.View.{term_of, terms_of}
use Rattle.symbol_polys.specs.declared.Term.{Term}
use Rattle.symbol_polys.proofs.PolyLaws.{no_symbols, one_symbol}
use Rattle.symbol_polys.proofs.MonomialLaws.{is_monomial-product}
use Rattle.symbol_polys.proofs.DerivativeLaws.{is_monomial-without, length-without, power_within}
use Rattle.elementary_diff.specs.Differentials.{symbol_by, factor_symbol, right_term, side_of, right_terms, edge_derivatives_by, edge_derivatives}
use Rattle.elementary_diff.specs.Room.{HasRoom, HaveRoom}
use Rattle.elementary_diff.proofs.Repeats.{factorial_24}

-- monomials of parameters, variables and noises
pub no_tree : IsCanonical (bare []) × IsSmall (bare [])
no_tree = (tt, record { edges = omega arith; decorations = omega arith })

bounded_by : (o : Option Kind) (k : ℕ) (p : List ℕ) → HasBoundedTree (symbol_by o k p)
bounded_by None k p = no_tree
bounded_by (Some Noise) k p = no_tree
bounded_by (Some Kernel) k p = no_tree

pub factor-bounded : (ty : Types) (f : EdgeType) → HasBoundedTree (factor_symbol ty f)
factor-bounded ty f = bounded_by (kind_of ty f.0.0) f.0.0 f.1.entries

pub is_monomial-with : (s : PlainSymbol) (m : List PlainSymbol) → HasBoundedTree s → IsMonomial m → IsMonomial (with_symbol s m)
is_monomial-with s m b h = is_monomial-product (s ∷ []) m (one_symbol s b) h

pub factors-monomial : (ty : Types) (fs : List EdgeType) → IsMonomial (monomial_product (map (factor_symbol ty) fs) [])
factors-monomial ty [] = no_symbols
factors-monomial ty (f ∷ fs) = is_monomial-with (factor_symbol ty f) (monomial_product (map (factor_symbol ty) fs) []) (factor-bounded ty f) (factors-monomial ty fs)

pub right-monomial : (ty : Types) (ps : List ℕ) (fs : List EdgeType) →
    IsMonomial (monomial_product (map parameter ps) (monomial_product (map (factor_symbol ty) fs) []))
right-monomial ty [] fs = factors-monomial ty fs
right-monomial ty (p ∷ ps) fs = is_monomial-with (parameter p) (monomial_product (map parameter ps) (monomial_product (map (factor_symbol ty) fs) [])) no_tree (right-monomial ty ps fs)

length-with : (s : PlainSymbol) (m : List PlainSymbol) → length (with_symbol s m) ≡ suc (length m)
length-with s [] = refl
length-with s (t ∷ m) = at (is_gt (symbol_order s t)) (length-with s m)
  where
    at : (b : Bool) → length (with_symbol s m) ≡ suc (length m) → length (cond b (t ∷ with_symbol s m) (s ∷ t ∷ m)) ≡ suc (length (t ∷ m))
    at true h = omega (arith, h)
    at false h = refl

length-product : (m n : List PlainSymbol) → length (monomial_product m n) ≡ length m + length n
length-product [] n = omega arith
length-product (s ∷ m) n = let rest = length-product m n in omega (arith, length-with s (monomial_product m n), rest)

-- right sides
right-room : (ty : Types) (count : ℕ) (t : RightTerm) → IsRightTerm ty count t → HasRoom (right_term ty t)
right-room ty count t h =
    let c = unsigned_abs t.coefficient in
    let factors = monomial_product (map (factor_symbol ty) t.factors) [] in
    let m = monomial_product (map parameter t.parameters) factors in
    let long = length-product (map parameter t.parameters) factors in
    let rest = length-product (map (factor_symbol ty) t.factors) [] in
    let ps = length-map t.parameters parameter in
    let fs = length-map t.factors (factor_symbol ty) in
    let few : length m ≤ 24 = omega (arith, long, rest, ps, fs, h.few) in
    let both = mul-le c (factorial (length m)) (64 * (1000000 * 1000000)) (factorial 24) h.bounded (factorial_most (length m) 24 few) in
    record { monomial = right-monomial ty t.parameters t.factors; fits = omega (arith, both, factorial_24) }

rights-room : (ty : Types) (count : ℕ) (ts : List RightTerm) → All (IsRightTerm ty count) ts → HaveRoom (map (right_term ty) ts)
rights-room ty count [] h = tt
rights-room ty count (t ∷ ts) h =
    (right-room ty count t (All-head (IsRightTerm ty count) t ts h), rights-room ty count ts (All-tail (IsRightTerm ty count) t ts h))

side-room : (ty : Types) (count k : ℕ) (us : List Unknown) → All (IsUnknown ty count) us → HaveRoom (side_of ty us k)
side-room ty count k [] h = tt
side-room ty count k (u ∷ us) h =
    elim (u.kernel.0 == k) as (λ (b : Bool). HaveRoom (cond b (map (right_term ty) u.right) (side_of ty us k))) [
      | true ↦ rights-room ty count u.right (All-head (IsUnknown ty count) u us h).terms
      | false ↦ side-room ty count k us (All-tail (IsUnknown ty count) u us h)
    ]

pub right_terms-room : (eq : Equation) (k : ℕ) → IsEquation eq → HaveRoom (right_terms eq k)
right_terms-room eq k h = side-room eq.types (length eq.parameters) k eq.unknowns h.unknowns

-- derivatives
falls : (p c l k : ℕ) → p ≤ l → k + 1 ≡ l → c * factorial l < overflow → p * c * factorial k < overflow
falls p c l k h e f =
    let is : factorial l ≡ suc k * factorial k = ap factorial (omega (arith, e)) ∙ factorial-suc k in
    let more = mul-le p (c * factorial k) (suc k) (c * factorial k) (omega (arith, h, e)) (omega arith) in
    omega (arith, more, turned c k (factorial k), sym (grouped p c (factorial k)), ap (λ (x : ℕ). c * x) is, f)
  where
    turned : (c k x : ℕ) → c * (suc k * x) ≡ suc k * (c * x)
    turned c k x = grind arith

    grouped : (p c x : ℕ) → p * (c * x) ≡ p * c * x
    grouped p c x = grind arith

pub derivative-room : (s : PlainSymbol) (t : PlainTerm) → HasRoom t → HasRoom (derivative s t)
derivative-room s t h = record {
  monomial = is_monomial-without s t.symbols h.monomial;
  fits = at (power_of s t.symbols) refl;
}
  where
    size : (p : ℕ) → unsigned_abs (pos p *ℤ t.coefficient) ≡ p * unsigned_abs t.coefficient
    size p = unsigned_abs-mul (pos p) t.coefficient

    at : (p : ℕ) → power_of s t.symbols ≡ p → unsigned_abs (pos p *ℤ t.coefficient) * factorial (length (without s t.symbols)) < overflow
    at zero e = rw (size 0) (omega arith)
    at (suc p) e =
        rw (size (suc p))
        (falls (suc p) (unsigned_abs t.coefficient) (length t.symbols) (length (without s t.symbols)) (omega (arith, e, power_within s t.symbols)) (length-without s t.symbols (omega (arith, e))) h.fits)

pub derivative-fits : (s : PlainSymbol) (t : PlainTerm) → HasRoom t → power_of s t.symbols * unsigned_abs t.coefficient < overflow
derivative-fits s t h = small (length t.symbols) (power_of s t.symbols) (unsigned_abs t.coefficient) (power_within s t.symbols) h.fits
  where
    small : (l p c : ℕ) → p ≤ l → c * factorial l < overflow → p * c < overflow
    small zero p c h f = let none : p ≡ 0 = omega (arith, h) in rw none (omega arith)
    small (suc l) p c h f =
        let one : 1 ≤ factorial l = factorial_pos l in
        let least = mul-le (suc l) 1 (suc l) (factorial l) (omega arith) one in
        let within : p ≤ factorial (suc l) = omega (arith, h, least, factorial-suc l) in
        let both = mul-le c p c (factorial (suc l)) (omega arith) within in
        omega (arith, both, f, turned p c)
      where
        turned : (p c : ℕ) → p * c ≡ c * p
        turned p c = grind arith

pub derivatives-room : (s : PlainSymbol) (ts : List PlainTerm) → HaveRoom ts → HaveRoom (derivatives s ts)
derivatives-room s [] h = tt
derivatives-room s (t ∷ ts) h = (derivative-room s t h.0, derivatives-room s ts h.1)

edge-room : (o : Option Kind) (k : ℕ) (p : List ℕ) (ts : List PlainTerm) → HaveRoom ts → HaveRoom (edge_derivatives_by o k p ts)
edge-room None k p ts h = tt
edge-room (Some Noise) k p ts h = elim (is_zero p) as (λ (b : Bool). HaveRoom (cond b (derivatives (noise k) ts) [])) [ true ↦ derivatives-room (noise k) ts h | false ↦ tt ]
edge-room (Some Kernel) k p ts h = derivatives-room (variable k p) ts h

pub edge_derivatives-room : (ty : Types) (k : ℕ) (p : List ℕ) (ts : List PlainTerm) → HaveRoom ts → HaveRoom (edge_derivatives ty k p ts)
edge_derivatives-room ty k p ts h = edge-room (kind_of ty k) k p ts h

pub room_at : (ts : List Term) (i : ℕ) (t : Term) → i < length ts → t ≡ get_or ts i t → HaveRoom (terms_of ts) → HasRoom (term_of t)
room_at [] i t h e a = absurd (omega arith)
room_at (u ∷ ts) zero t h e a = rw e a.0
room_at (u ∷ ts) (suc i) t h e a = room_at ts i t (omega arith) e a.1
