-- Walks over the edges of a node of a pool, from the last: the product of the differentials above
-- the kernel edges.
use Rattle.std.proofs.Common.{◌≡◌, ℕ, zero, suc, ◌+◌, ◌*◌, ◌<◌, ◌≤◌, List, [], ◌∷◌, drop, length, map, get_or, refl, sym, ap, ◌∙◌, arith, Some, None, Option}
use Rattle.std.proofs.lemmas.Nat.{mul-le}
use Rattle.degree_numbers.specs.declared.Types.{Types}
use Rattle.degree_numbers.specs.declared.Kind.{Kind}
use Rattle.degree_numbers.specs.declared.Kind.TheVariants.{Noise, Kernel}
use Rattle.degree_numbers.specs.Types.{kind_of}
use Rattle.plain_trees.specs.View.{Labelled, grafted}
use Rattle.symbol_polys.specs.Polynomials.{PlainTerm, coefficient_of, HaveSameCoefficients}
use Rattle.symbol_polys.specs.Products.{products}
use Rattle.symbol_polys.proofs.CongruenceLaws.{products_same}
use Rattle.symbol_polys.proofs.ProductRules.{products-one}
use Rattle.tree_pool.specs.Content.{Content, tree_at, Holds, edge_over, tree_over}
use Rattle.tree_pool.specs.declared.EdgeTo.{EdgeTo}
use Rattle.tree_pool.proofs.Walks.{no_edge, at_holds, tree_cut}
use Rattle.elementary_diff.specs.Differentials.{Sides, root_factor, kernel_edge, kernel_factor, above_factor, differential_of, one_term}
use Rattle.elementary_diff.specs.Masses.{root_mass, kernel_mass, above_mass, mass_of}
use Rattle.elementary_diff.proofs.NodeWalks.{kernel_is, other_is}

factor_is : (o : Option Kind) (ts : List PlainTerm) → kernel_edge o ≡ 1 → kernel_factor o ts ≡ ts
factor_is None ts h = absurd cc
factor_is (Some Noise) ts h = absurd cc
factor_is (Some Kernel) ts h = refl

no_factor : (o : Option Kind) (ts : List PlainTerm) → kernel_edge o ≡ 0 → kernel_factor o ts ≡ one_term
no_factor None ts h = refl
no_factor (Some Noise) ts h = refl
no_factor (Some Kernel) ts h = absurd cc

-- what stands above the edges that are left
abbrev pub left_factor : Types → Sides → Content → List EdgeTo → ℕ → List PlainTerm
left_factor ty sides c es i = above_factor ty sides (tree_over c.trees [] (drop i es))

abbrev pub left_mass : Types → Sides → Content → List EdgeTo → ℕ → ℕ
left_mass ty sides c es i = above_mass ty sides (tree_over c.trees [] (drop i es))

abbrev pub child_mass : Types → Sides → Content → List EdgeTo → ℕ → ℕ
child_mass ty sides c es i = mass_of ty sides (get_or es i no_edge).kind.0 (tree_at c (get_or es i no_edge).child.0)

abbrev pub child_factor : Types → Sides → Content → List EdgeTo → ℕ → List PlainTerm
child_factor ty sides c es i = differential_of ty sides (get_or es i no_edge).kind.0 (tree_at c (get_or es i no_edge).child.0)

pub left-kernel : (ty : Types) (sides : Sides) (c : Content) (es : List EdgeTo) (i : ℕ) →
    i < length es → kernel_edge (kind_of ty (get_or es i no_edge).kind.0) ≡ 1 →
    (left_factor ty sides c es i ≡ products (child_factor ty sides c es i) (left_factor ty sides c es (i + 1))) × (left_mass ty sides c es i ≡ child_mass ty sides c es i * left_mass ty sides c es (i + 1))
left-kernel ty sides c es i lt is =
    let o = kind_of ty (get_or es i no_edge).kind.0 in
    let cut = tree_cut c [] es i no_edge lt in (
      ap (above_factor ty sides) cut ∙ ap (λ (ts : List PlainTerm). products ts (left_factor ty sides c es (i + 1))) (factor_is o (child_factor ty sides c es i) is),
      ap (above_mass ty sides) cut ∙ ap (λ (n : ℕ). n * left_mass ty sides c es (i + 1)) (kernel_is o (child_mass ty sides c es i) is),
    )

pub left-other : (ty : Types) (sides : Sides) (c : Content) (es : List EdgeTo) (i : ℕ) →
    i < length es → kernel_edge (kind_of ty (get_or es i no_edge).kind.0) ≡ 0 →
    (left_factor ty sides c es i ≡ left_factor ty sides c es (i + 1)) × (left_mass ty sides c es i ≡ left_mass ty sides c es (i + 1))
left-other ty sides c es i lt is =
    let o = kind_of ty (get_or es i no_edge).kind.0 in
    let cut = tree_cut c [] es i no_edge lt in (
      ap (above_factor ty sides) cut ∙ ap (λ (ts : List PlainTerm). products ts (left_factor ty sides c es (i + 1))) (no_factor o (child_factor ty sides c es i) is) ∙ products-one (left_factor ty sides c es (i + 1)),
      ap (above_mass ty sides) cut ∙ ap (λ (n : ℕ). n * left_mass ty sides c es (i + 1)) (other_is o (child_mass ty sides c es i) is) ∙ single (left_mass ty sides c es (i + 1)),
    )
  where
    single : (n : ℕ) → 1 * n ≡ n
    single n = omega arith

-- factors of what is not 0
pub positive-factors : (a b : ℕ) → 0 < a * b → (0 < a) × (0 < b)
positive-factors zero b h = absurd (omega (arith, h))
positive-factors (suc a) zero h = absurd (omega (arith, h))
positive-factors (suc a) (suc b) h = (omega arith, omega arith)

pub at-most-product : (a b : ℕ) → 0 < a * b → (a ≤ a * b) × (b ≤ a * b)
at-most-product a b h =
    let both = positive-factors a b h in
    (omega (arith, mul-le a 1 a b (omega arith) both.1), omega (arith, mul-le 1 b a b both.0 (omega arith)))

above-after : (ty : Types) (sides : Sides) (es : List Labelled) (e : Labelled) → 0 < above_mass ty sides (grafted [] (e ∷ es)) →
    (0 < above_mass ty sides (grafted [] es)) × (above_mass ty sides (grafted [] es) ≤ above_mass ty sides (grafted [] (e ∷ es)))
above-after ty sides es e h =
    let first = kernel_mass (kind_of ty e.kind.0) (mass_of ty sides e.kind.0 e.child) in
    ((positive-factors first (above_mass ty sides (grafted [] es)) h).1, (at-most-product first (above_mass ty sides (grafted [] es)) h).1)

pub left-within : (ty : Types) (sides : Sides) (c : Content) (es : List EdgeTo) (i : ℕ) →
    0 < left_mass ty sides c es 0 →
    (0 < left_mass ty sides c es i) × (left_mass ty sides c es i ≤ left_mass ty sides c es 0)
left-within ty sides c es zero h = (h, omega arith)
left-within ty sides c [] (suc i) h = (h, omega arith)
left-within ty sides c (e ∷ es) (suc i) h =
    let after = above-after ty sides (map (edge_over c.trees) es) (edge_over c.trees e) h in
    let rest = left-within ty sides c es i after.0 in
    (rest.0, omega (arith, rest.1, after.1))

above-root : (ty : Types) (sides : Sides) (n m : List ℕ) (es : List Labelled) →
    (above_mass ty sides (grafted n es) ≡ above_mass ty sides (grafted m es)) × (above_factor ty sides (grafted n es) ≡ above_factor ty sides (grafted m es))
above-root ty sides n m [] = (refl, refl)
above-root ty sides n m (e ∷ es) =
    let rest = above-root ty sides n m es in (
      ap (λ (x : ℕ). kernel_mass (kind_of ty e.kind.0) (root_mass ty (sides e.kind.0) e.child * above_mass ty sides e.child) * x) rest.0,
      ap (λ (ts : List PlainTerm). products (kernel_factor (kind_of ty e.kind.0) (products (root_factor ty (sides e.kind.0) e.child) (above_factor ty sides e.child))) ts) rest.1,
    )

pub left-whole : (ty : Types) (sides : Sides) (c : Content) (i : ℕ) (n : List ℕ) (es : List EdgeTo) → Holds c i (tree_over c.trees n es) →
    (left_mass ty sides c es 0 ≡ above_mass ty sides (tree_at c i)) × (left_factor ty sides c es 0 ≡ above_factor ty sides (tree_at c i))
left-whole ty sides c i n es h =
    let both = above-root ty sides [] n (map (edge_over c.trees) es) in
    let is = sym (at_holds c i (tree_over c.trees n es) h) in
    (both.0 ∙ ap (above_mass ty sides) is, both.1 ∙ ap (above_factor ty sides) is)

pub product-step : (p f a fs gs whole : List PlainTerm) → HaveSameCoefficients f fs →
    HaveSameCoefficients a gs → HaveSameCoefficients p (products f a) → whole ≡ products fs gs →
    HaveSameCoefficients p whole
product-step p f a fs gs whole hf ha hp e = λ m. hp m ∙ products_same f fs a gs hf ha m ∙ ap (coefficient_of m) (sym e)
