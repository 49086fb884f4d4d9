-- The mass of an elementary differential, node by node.
use Rattle.std.proofs.Common.{◌≡◌, ℕ, zero, suc, ◌+◌, ◌*◌, ◌^◌, ℤ, pos, ◌*ℤ◌, unsigned_abs, true, false, Bool, not, cond, List, [], ◌∷◌, ◌++◌, length, map, sum, refl, sym, ap, ◌∙◌, arith, Some, None, Option}
use Rattle.std.specs.List.{AllByRecursion, list_any}
use Rattle.std.specs.Ordering.{is_gt}
use Rattle.std.proofs.Math.Nat.{pow-zero, pow-suc}
use Rattle.std.proofs.lemmas.Int.{unsigned_abs-mul}
use Rattle.std.proofs.lemmas.List.Sums.{sum_by_from}
use Rattle.exact_sums.specs.Sums.{total}
use Rattle.exact_sums.proofs.SumLaws.{total-map, total-flat_map, total_ext}
use Rattle.degree_numbers.specs.declared.Types.{Types}
use Rattle.degree_numbers.specs.declared.Kind.{Kind}
use Rattle.degree_numbers.specs.declared.Kind.TheVariants.{Noise, Kernel}
use Rattle.degree_numbers.specs.Multi.{is_zero}
use Rattle.degree_numbers.specs.Types.{kind_of}
use Rattle.equations.specs.declared.Equation.{Equation}
use Rattle.plain_trees.specs.Plain.{Plain, bare, graft, root_of}
use Rattle.symbol_polys.specs.Symbols.{PlainSymbol, parameter, variable, noise, tree, expectation, symbol_order}
use Rattle.symbol_polys.specs.Polynomials.{PlainTerm, size_of}
use Rattle.symbol_polys.specs.Products.{with_symbol, products}
use Rattle.symbol_polys.specs.Derivatives.{derivatives, power_of, without}
use Rattle.symbol_polys.proofs.ProductLaws.{size_of-products}
use Rattle.elementary_diff.specs.Differentials.{Sides, edge_derivatives_by, edge_derivatives, by_edges, is_noise_symbol, noise_free, further_symbol, further, total_derivative, repeated, total_derivatives, root_factor, kernel_factor, above_factor, differential_of, absolute_terms, one_term, right_terms, differential_mass}
use Rattle.elementary_diff.specs.Masses.{variable_count, weight, root_mass, kernel_mass, above_mass, mass_of}

-- the places at which a total derivative acts
count-with : (s : PlainSymbol) (m : List PlainSymbol) → variable_count (with_symbol s m) ≡ variable_count (s ∷ m)
count-with s [] = refl
count-with s (t ∷ m) = at (is_gt (symbol_order s t)) refl (count-with s m)
  where
    at : (b : Bool) → is_gt (symbol_order s t) ≡ b → variable_count (with_symbol s m) ≡ variable_count (s ∷ m) → variable_count (with_symbol s (t ∷ m)) ≡ variable_count (s ∷ t ∷ m)
    at true q ih = rw q (omega (arith, ih))
    at false q ih = rw q refl

AllCount : ℕ → List (List PlainSymbol) → Type 0
AllCount n ms = AllByRecursion (λ m. variable_count m ≡ n) ms

all-append : (n : ℕ) (xs ys : List (List PlainSymbol)) → AllCount n xs → AllCount n ys → AllCount n (xs ++ ys)
unfolding AllCount
all-append n [] ys h k = k
all-append n (x ∷ xs) ys h k = (h.0, all-append n xs ys h.1 k)

all-with : (s : PlainSymbol) (n k : ℕ) (ms : List (List PlainSymbol)) → k ≡ variable_count (s ∷ []) + n → AllCount n ms → AllCount k (map (with_symbol s) ms)
unfolding AllCount
all-with s n k [] e h = tt
all-with s n k (m ∷ ms) e h = (let first = h.0 in let c = count-with s m in omega (arith, e, first, c), all-with s n k ms e h.1)

own-further : (d : ℕ) (s : PlainSymbol) (m : List PlainSymbol) → AllCount (variable_count (s ∷ m)) (map (λ r. with_symbol r m) (further_symbol d s))
unfolding AllCount
own-further d (parameter i) m = tt
own-further d (variable k p) m = (count-with (variable k _) m, tt)
own-further d (noise k) m = tt
own-further d (tree t) m = tt
own-further d (expectation t) m = tt

further-counts : (d : ℕ) (m : List PlainSymbol) → AllCount (variable_count m) (further d m)
unfolding AllCount
further-counts d [] = tt
further-counts d (s ∷ m) =
    all-append (variable_count (s ∷ m)) (map (λ r. with_symbol r m) (further_symbol d s)) (map (with_symbol s) (further d m)) (own-further d s m)
    (all-with s (variable_count m) (variable_count (s ∷ m)) (further d m) (omega arith) (further-counts d m))

length-map-with : (s : PlainSymbol) (ms : List (List PlainSymbol)) → length (map (with_symbol s) ms) ≡ length ms
length-map-with s [] = refl
length-map-with s (m ∷ ms) = ap suc (length-map-with s ms)

length-app : (xs ys : List (List PlainSymbol)) → length (xs ++ ys) ≡ length xs + length ys
length-app [] ys = omega arith
length-app (x ∷ xs) ys = let rest = length-app xs ys in omega (arith, rest)

length-own : (d : ℕ) (s : PlainSymbol) (m : List PlainSymbol) → length (map (λ r. with_symbol r m) (further_symbol d s)) ≡ variable_count (s ∷ [])
length-own d (parameter i) m = refl
length-own d (variable k p) m = refl
length-own d (noise k) m = refl
length-own d (tree t) m = refl
length-own d (expectation t) m = refl

length-further : (d : ℕ) (m : List PlainSymbol) → length (further d m) ≡ variable_count m
length-further d [] = refl
length-further d (s ∷ m) =
    let both = length-app (map (λ r. with_symbol r m) (further_symbol d s)) (map (with_symbol s) (further d m)) in
    let rest = length-map-with s (further d m) in
    omega (arith, both, rest, length-own d s m, length-further d m)

-- a total derivative
all-weights : (c n k : ℕ) (ms : List (List PlainSymbol)) → AllCount k ms → total (λ m. c * variable_count m ^ n) ms ≡ length ms * (c * k ^ n)
unfolding AllCount
all-weights c n k [] h = omega arith
all-weights c n k (m ∷ ms) h =
    let first = ap (λ (x : ℕ). c * x ^ n) h.0 in
    let rest = all-weights c n k ms h.1 in
    let more : suc (length ms) * (c * k ^ n) ≡ c * k ^ n + length ms * (c * k ^ n) = grind arith in
    omega (arith, first, rest, more)

weight-term : (d n : ℕ) (t : PlainTerm) →
    total (λ m. unsigned_abs t.coefficient * variable_count m ^ n) (further d t.symbols) ≡ unsigned_abs t.coefficient * variable_count t.symbols ^ suc n
weight-term d n t =
    let c = unsigned_abs t.coefficient in
    let k = variable_count t.symbols in
    all-weights c n k (further d t.symbols) (further-counts d t.symbols) ∙ ap (λ (x : ℕ). x * (c * k ^ n)) (length-further d t.symbols) ∙ turned c k (k ^ n) ∙ ap (λ (x : ℕ). c * x) (sym (pow-suc k n))
  where
    turned : (c k p : ℕ) → k * (c * p) ≡ c * (p * k)
    turned c k p = grind arith

pub weight-total : (d n : ℕ) (ts : List PlainTerm) → weight n (total_derivative d ts) ≡ weight (suc n) ts
weight-total d n ts =
    let made : PlainTerm → List PlainTerm = λ t. map (λ m. record { coefficient = t.coefficient; symbols = m }) (further d t.symbols) in
    let one : PlainTerm → ℕ = λ u. unsigned_abs u.coefficient * variable_count u.symbols ^ n in
    total-flat_map one made ts
    ∙ total_ext (λ t. total one (made t)) (λ t. unsigned_abs t.coefficient * variable_count t.symbols ^ suc n) ts
    (λ t. total-map one (λ m. record { coefficient = t.coefficient; symbols = m }) (further d t.symbols) ∙ weight-term d n t)

weight-repeated : (k d n : ℕ) (ts : List PlainTerm) → weight n (repeated k (total_derivative d) ts) ≡ weight (k + n) ts
weight-repeated zero d n ts = ap (λ (x : ℕ). weight x ts) (omega arith)
weight-repeated (suc k) d n ts = weight-repeated k d n (total_derivative d ts) ∙ weight-total d (k + n) ts ∙ ap (λ (x : ℕ). weight x ts) (omega arith)

weight-totals : (d n : ℕ) (ms : List ℕ) (ts : List PlainTerm) → weight n (total_derivatives d ms ts) ≡ weight (sum ms + n) ts
weight-totals d n [] ts = ap (λ (x : ℕ). weight x ts) (omega arith)
weight-totals d n (m ∷ ms) ts =
    let all : sum (m ∷ ms) ≡ 0 + m + sum ms = sum_by_from (λ x. x) (0 + m) ms in
    weight-totals (suc d) n ms (repeated m (total_derivative d) ts) ∙ weight-repeated m d (sum ms + n) ts ∙ ap (λ (x : ℕ). weight x ts) (omega (arith, all))

pub weight-none : (ts : List PlainTerm) → weight 0 ts ≡ size_of ts
weight-none ts = total_ext (λ t. unsigned_abs t.coefficient * variable_count t.symbols ^ 0) (λ t. unsigned_abs t.coefficient) ts (λ t. ap (λ (x : ℕ). unsigned_abs t.coefficient * x) (pow-zero (variable_count t.symbols)) ∙ omega arith)

pub root_factor-size : (ty : Types) (side : List PlainTerm) (t : Plain) → size_of (root_factor ty side t) ≡ root_mass ty side t
root_factor-size ty side t =
    let left = noise_free (by_edges ty t side) in
    sym (weight-none (total_derivatives 0 (root_of t) left)) ∙ weight-totals 0 0 (root_of t) left ∙ ap (λ (x : ℕ). weight x left) (omega arith)

one-size : 1 ≡ size_of one_term
one-size = refl

kernel_factor-size : (o : Option Kind) (ts : List PlainTerm) (n : ℕ) → size_of ts ≡ n → size_of (kernel_factor o ts) ≡ kernel_mass o n
kernel_factor-size None ts n h = sym one-size
kernel_factor-size (Some Noise) ts n h = sym one-size
kernel_factor-size (Some Kernel) ts n h = h

above-size : (ty : Types) (sides : Sides) (t : Plain) → size_of (above_factor ty sides t) ≡ above_mass ty sides t
above-size ty sides (bare n) = sym one-size
above-size ty sides (graft k p c t) =
    let root = root_factor ty (sides k) c in
    let above = above_factor ty sides c in
    let whole : size_of (products root above) ≡ root_mass ty (sides k) c * above_mass ty sides c =
    size_of-products root above ∙ ap (λ (x : ℕ). x * size_of above) (root_factor-size ty (sides k) c) ∙ ap (λ (x : ℕ). root_mass ty (sides k) c * x) (above-size ty sides c) in
    let first = kernel_factor-size (kind_of ty k) (products root above) (root_mass ty (sides k) c * above_mass ty sides c) whole in
    size_of-products (kernel_factor (kind_of ty k) (products root above)) (above_factor ty sides t)
    ∙ ap (λ (x : ℕ). x * size_of (above_factor ty sides t)) first
    ∙ ap (λ (x : ℕ). kernel_mass (kind_of ty k) (root_mass ty (sides k) c * above_mass ty sides c) * x) (above-size ty sides t)

-- the sum of the absolute coefficients, before terms are collected
pub differential-size : (ty : Types) (sides : Sides) (k : ℕ) (t : Plain) → size_of (differential_of ty sides k t) ≡ mass_of ty sides k t
differential-size ty sides k t =
    size_of-products (root_factor ty (sides k) t) (above_factor ty sides t) ∙ ap (λ (x : ℕ). x * size_of (above_factor ty sides t)) (root_factor-size ty (sides k) t) ∙ ap (λ (x : ℕ). root_mass ty (sides k) t * x) (above-size ty sides t)

-- absolute values of the coefficients of the right sides change no mass
derivative-absolute : (s : PlainSymbol) (ts : List PlainTerm) → derivatives s (absolute_terms ts) ≡ absolute_terms (derivatives s ts)
derivative-absolute s [] = refl
derivative-absolute s (t ∷ ts) =
    let here : pos (power_of s t.symbols) *ℤ pos (unsigned_abs t.coefficient) ≡ pos (unsigned_abs (pos (power_of s t.symbols) *ℤ t.coefficient)) =
    positive (power_of s t.symbols) (unsigned_abs t.coefficient) ∙ ap pos (sym (unsigned_abs-mul (pos (power_of s t.symbols)) t.coefficient)) in
    let rest = derivative-absolute s ts in
    ap (λ (z : ℤ). record { coefficient = z; symbols = without s t.symbols } ∷ derivatives s (absolute_terms ts)) here
    ∙ ap (λ (us : List PlainTerm). record { coefficient = pos (unsigned_abs (pos (power_of s t.symbols) *ℤ t.coefficient)); symbols = without s t.symbols } ∷ us) rest
  where
    positive : (m n : ℕ) → pos m *ℤ pos n ≡ pos (m * n)
    positive m n = refl

edge-absolute-by : (o : Option Kind) (k : ℕ) (p : List ℕ) (ts : List PlainTerm) →
    edge_derivatives_by o k p (absolute_terms ts) ≡ absolute_terms (edge_derivatives_by o k p ts)
edge-absolute-by None k p ts = refl
edge-absolute-by (Some Noise) k p ts = at (is_zero p)
  where
    at : (b : Bool) → cond b (derivatives (noise k) (absolute_terms ts)) [] ≡ absolute_terms (cond b (derivatives (noise k) ts) [])
    at true = derivative-absolute (noise k) ts
    at false = refl
edge-absolute-by (Some Kernel) k p ts = derivative-absolute (variable k p) ts

edges-absolute : (ty : Types) (t : Plain) (ts : List PlainTerm) → by_edges ty t (absolute_terms ts) ≡ absolute_terms (by_edges ty t ts)
edges-absolute ty (bare n) ts = refl
edges-absolute ty (graft k p c t) ts =
    ap (by_edges ty t) (edge-absolute-by (kind_of ty k) k p ts) ∙ edges-absolute ty t (edge_derivatives ty k p ts)

noise_free-absolute : (ts : List PlainTerm) → noise_free (absolute_terms ts) ≡ absolute_terms (noise_free ts)
noise_free-absolute [] = refl
noise_free-absolute (t ∷ ts) = at (not (list_any is_noise_symbol t.symbols)) (noise_free-absolute ts)
  where
    at : (b : Bool) → noise_free (absolute_terms ts) ≡ absolute_terms (noise_free ts) →
        cond b (record { coefficient = pos (unsigned_abs t.coefficient); symbols = t.symbols } ∷ noise_free (absolute_terms ts)) (noise_free (absolute_terms ts)) ≡ absolute_terms (cond b (t ∷ noise_free ts) (noise_free ts))
    at true rest = ap (λ (us : List PlainTerm). record { coefficient = pos (unsigned_abs t.coefficient); symbols = t.symbols } ∷ us) rest
    at false rest = rest

weight-absolute : (n : ℕ) (ts : List PlainTerm) → weight n (absolute_terms ts) ≡ weight n ts
weight-absolute n ts = total-map (λ t. unsigned_abs t.coefficient * variable_count t.symbols ^ n) (λ t. record { coefficient = pos (unsigned_abs t.coefficient); symbols = t.symbols }) ts

root-absolute : (ty : Types) (side : List PlainTerm) (t : Plain) → root_mass ty (absolute_terms side) t ≡ root_mass ty side t
root-absolute ty side t =
    ap (λ (us : List PlainTerm). weight (sum (root_of t)) (noise_free us)) (edges-absolute ty t side)
    ∙ ap (weight (sum (root_of t))) (noise_free-absolute (by_edges ty t side)) ∙ weight-absolute (sum (root_of t)) (noise_free (by_edges ty t side))

above-absolute : (ty : Types) (sides : Sides) (t : Plain) → above_mass ty (λ i. absolute_terms (sides i)) t ≡ above_mass ty sides t
above-absolute ty sides (bare n) = refl
above-absolute ty sides (graft k p c t) =
    ap (λ (x : ℕ). kernel_mass (kind_of ty k) (x * above_mass ty (λ i. absolute_terms (sides i)) c) * above_mass ty (λ i. absolute_terms (sides i)) t) (root-absolute ty (sides k) c)
    ∙ ap (λ (x : ℕ). kernel_mass (kind_of ty k) (root_mass ty (sides k) c * x) * above_mass ty (λ i. absolute_terms (sides i)) t) (above-absolute ty sides c)
    ∙ ap (λ (x : ℕ). kernel_mass (kind_of ty k) (root_mass ty (sides k) c * above_mass ty sides c) * x) (above-absolute ty sides t)

-- the differential mass is the product of the masses at the nodes
pub differential_mass-is : (eq : Equation) (k : ℕ) (t : Plain) → differential_mass eq k t ≡ mass_of eq.types (right_terms eq) k t
differential_mass-is eq k t =
    differential-size eq.types (λ i. absolute_terms (right_terms eq i)) k t
    ∙ ap (λ (x : ℕ). x * above_mass eq.types (λ i. absolute_terms (right_terms eq i)) t) (root-absolute eq.types (right_terms eq k) t)
    ∙ ap (λ (x : ℕ). root_mass eq.types (right_terms eq k) t * x) (above-absolute eq.types (right_terms eq) t)
