-- The steps of the product over the kernel edges of a node, from the last edge.
use Rattle.std.proofs.Common.{◌≡◌, ℕ, ◌+◌, ◌-◌, ◌*◌, ◌<◌, ◌≤◌, List, [], ℤ, pos, ◌≤ℤ◌, unsigned_abs, length, get_or, refl, sym, ap, subst, ◌∙◌, arith, Ok, Err, Result, IfOk, IfErr, IsOkUnless}
use Rattle.std.proofs.lemmas.Int.{ints}
use Rattle.std.proofs.lemmas.Nat.{mul-le}
use Rattle.exact_sums.specs.Saturating.{overflow}
use Rattle.degree_numbers.specs.declared.Types.{Types}
use Rattle.degree_numbers.specs.declared.types.TypeId.{TypeId}
use Rattle.degree_numbers.specs.Types.{kind_of}
use Rattle.symbol_polys.specs.Polynomials.{PlainTerm, coefficient_of, size_of, HaveSameCoefficients, IsRefused}
use Rattle.symbol_polys.specs.Products.{products}
use Rattle.symbol_polys.specs.View.{terms_of, IsPoly}
use Rattle.symbol_polys.specs.declared.poly.Poly.{Poly}
use Rattle.symbol_polys.specs.declared.error.PolyError.{PolyError}
use Rattle.symbol_polys.specs.declared.error.PolyError.TheVariants.{CoefficientTooLarge, PolyText, Memory}
use Rattle.symbol_polys.proofs.CongruenceLaws.{products_same}
use Rattle.tree_pool.specs.Content.{Content, tree_at, Holds, tree_over}
use Rattle.tree_pool.specs.declared.node.EdgeTo.{EdgeTo}
use Rattle.tree_pool.specs.declared.node.TreeId.{TreeId}
use Rattle.tree_pool.proofs.Walks.{no_edge, tree_end}
use Rattle.elementary_diff.specs.Differentials.{Sides, root_factor, kernel_edge, differential_of, one_term}
use Rattle.elementary_diff.specs.Masses.{root_mass, above_mass, mass_of}
use Rattle.elementary_diff.specs.Siblings.{IsRepeated}
use Rattle.elementary_diff.specs.Within.{IsSumWithin}
use Rattle.elementary_diff.proofs.FactorWalks.{left_factor, left_mass, child_mass, child_factor, left-kernel, left-other, positive-factors, at-most-product, left-within, left-whole}

-- products of polynomials that stand for lists of terms
between : (s m : ℕ) (z : ℤ) → pos s ≤ℤ z → z ≤ℤ pos m → unsigned_abs z ≤ m
between s m z h k = omega (arith, ints, h, k)

product-masses : (f a : Poly) (fs gs : List PlainTerm) (m n : ℕ) → IsSumWithin fs m f → IsSumWithin gs n a → unsigned_abs f.mass * unsigned_abs a.mass ≤ m * n
product-masses f a fs gs m n hf ha =
    mul-le (unsigned_abs f.mass) (unsigned_abs a.mass) m n (between (size_of (terms_of f.terms)) m f.mass hf.poly.within hf.mass) (between (size_of (terms_of a.terms)) n a.mass ha.poly.within ha.mass)

at_most : (x y : ℕ) (z : ℤ) → z ≡ pos x → x ≤ y → z ≤ℤ pos y
at_most x y z h k = omega (arith, ints, h, k)

pub product-within : (f a p : Poly) (fs gs whole : List PlainTerm) (m n w : ℕ) →
    IsSumWithin fs m f → IsSumWithin gs n a → whole ≡ products fs gs → w ≡ m * n → IsPoly p →
    HaveSameCoefficients (terms_of p.terms) (products (terms_of f.terms) (terms_of a.terms)) → p.mass ≡ pos (unsigned_abs f.mass * unsigned_abs a.mass) → IsSumWithin whole w p
product-within f a p fs gs whole m n w hf ha e k poly same mass = rw (e, k) (
    record {
      poly = poly;
      coefficients = λ s. same s ∙ products_same (terms_of f.terms) fs (terms_of a.terms) gs hf.coefficients ha.coefficients s;
      mass = at_most (unsigned_abs f.mass * unsigned_abs a.mass) (m * n) p.mass mass (product-masses f a fs gs m n hf ha);
    }
    )

-- a product in range fails only for want of memory
pub memory_alone : (past : Type 0) (e : PolyError) → (past → ⊥) → IsRefused past e → e ≡ Memory
memory_alone past CoefficientTooLarge never h = absurd (never h)
memory_alone past PolyText never h = absurd h
memory_alone past Memory never h = refl

pub product-fits : (f a : Poly) (fs gs : List PlainTerm) (m n : ℕ) → IsSumWithin fs m f →
    IsSumWithin gs n a → m * n < overflow → overflow ≤ unsigned_abs f.mass * unsigned_abs a.mass → ⊥
product-fits f a fs gs m n hf ha fits past = absurd (omega (arith, product-masses f a fs gs m n hf ha, fits, past))

-- no factor of a mass that is not 0 is more than it
pub record HasMassAt (ty : Types) (sides : Sides) (c : Content) (es : List EdgeTo) (i : ℕ) : Type 0 where
  pub some : 0 < child_mass ty sides c es i
  pub fits : child_mass ty sides c es i < overflow
  pub left : child_mass ty sides c es i * left_mass ty sides c es (i + 1) < overflow

pub mass-at : (ty : Types) (sides : Sides) (k : ℕ) (c : Content) (id : ℕ) (n : List ℕ) (es : List EdgeTo) (i : ℕ) →
    Holds c id (tree_over c.trees n es) → 0 < mass_of ty sides k (tree_at c id) →
    mass_of ty sides k (tree_at c id) < overflow → i < length es → kernel_edge (kind_of ty (get_or es i no_edge).kind.0) ≡ 1 → HasMassAt ty sides c es i
mass-at ty sides k c id n es i holds some fits lt is =
    let root = root_mass ty (sides k) (tree_at c id) in
    let above = above_mass ty sides (tree_at c id) in
    let child = child_mass ty sides c es i in
    let rest = left_mass ty sides c es (i + 1) in
    let whole = (left-whole ty sides c id n es holds).0 in
    let least = (positive-factors root above some).1 in
    let most = (at-most-product root above some).1 in
    let left = left-within ty sides c es i (omega (arith, whole, least)) in
    let cut = (left-kernel ty sides c es i lt is).1 in
    let product : 0 < child * rest = omega (arith, cut, left.0) in
    let first = (positive-factors child rest product).0 in
    let within = (at-most-product child rest product).0 in
    record {
      some = first;
      fits = omega (arith, within, cut, left.1, whole, most, fits);
      left = omega (arith, cut, left.1, whole, most, fits);
    }

pub memory_at : (ty : Types) (sides : Sides) (c : Content) (es : List EdgeTo) (l : ℕ) (f above : Poly) (e : PolyError) →
    0 < l → HasMassAt ty sides c es (l - 1) →
    IsSumWithin (child_factor ty sides c es (l - 1)) (child_mass ty sides c es (l - 1)) f → IsSumWithin (left_factor ty sides c es l) (left_mass ty sides c es l) above →
    IsRefused (overflow ≤ unsigned_abs f.mass * unsigned_abs above.mass) e → e ≡ Memory
memory_at ty sides c es l f above e some mass hf ha =
    let back : l - 1 + 1 ≡ l = omega (arith, some) in
    let fits : child_mass ty sides c es (l - 1) * left_mass ty sides c es l < overflow = subst (λ (i : ℕ). child_mass ty sides c es (l - 1) * left_mass ty sides c es i < overflow) back mass.left in
    memory_alone (overflow ≤ unsigned_abs f.mass * unsigned_abs above.mass) e
    (product-fits f above (child_factor ty sides c es (l - 1)) (left_factor ty sides c es l) (child_mass ty sides c es (l - 1)) (left_mass ty sides c es l) hf ha fits)

pub root-within : (root above : ℕ) → 0 < root * above → root * above < overflow → root < overflow
root-within root above some fits = omega (arith, (at-most-product root above some).0, fits)

-- the walk from the last edge, where l edges are left
pub product-none : (ty : Types) (sides : Sides) (c : Content) (es : List EdgeTo) (l : ℕ) (p : Poly) →
    length es ≤ l → IsPoly p → terms_of p.terms ≡ one_term → p.mass ≡ pos 1 →
    IsSumWithin (left_factor ty sides c es l) (left_mass ty sides c es l) p
product-none ty sides c es l p end poly terms mass = rw (tree_end c [] es l end) (
    record { poly = poly; coefficients = λ m. ap (coefficient_of m) terms; mass = at_most 1 1 p.mass mass (omega arith) }
    )

pub product-kernel : (ty : Types) (sides : Sides) (c : Content) (es : List EdgeTo) (l : ℕ) (f above p : Poly) →
    0 < l → l ≤ length es → kernel_edge (kind_of ty (get_or es (l - 1) no_edge).kind.0) ≡ 1 →
    IsSumWithin (child_factor ty sides c es (l - 1)) (child_mass ty sides c es (l - 1)) f → IsSumWithin (left_factor ty sides c es l) (left_mass ty sides c es l) above → IsPoly p →
    HaveSameCoefficients (terms_of p.terms) (products (terms_of f.terms) (terms_of above.terms)) → p.mass ≡ pos (unsigned_abs f.mass * unsigned_abs above.mass) →
    IsSumWithin (left_factor ty sides c es (l - 1)) (left_mass ty sides c es (l - 1)) p
product-kernel ty sides c es l f above p some within is hf ha poly same mass =
    let back : l - 1 + 1 ≡ l = omega (arith, some) in
    let cut = left-kernel ty sides c es (l - 1) (omega (arith, some, within)) is in
    let fs = child_factor ty sides c es (l - 1) in
    let m = child_mass ty sides c es (l - 1) in
    product-within f above p fs (left_factor ty sides c es l) (left_factor ty sides c es (l - 1)) m (left_mass ty sides c es l) (left_mass ty sides c es (l - 1)) hf ha
    (cut.0 ∙ ap (λ (i : ℕ). products fs (left_factor ty sides c es i)) back) (cut.1 ∙ ap (λ (i : ℕ). m * left_mass ty sides c es i) back) poly same mass

pub product-other : (ty : Types) (sides : Sides) (c : Content) (es : List EdgeTo) (l : ℕ) (above : Poly) →
    0 < l → l ≤ length es → kernel_edge (kind_of ty (get_or es (l - 1) no_edge).kind.0) ≡ 0 →
    IsSumWithin (left_factor ty sides c es l) (left_mass ty sides c es l) above → IsSumWithin (left_factor ty sides c es (l - 1)) (left_mass ty sides c es (l - 1)) above
product-other ty sides c es l above some within is h =
    let back : l - 1 + 1 ≡ l = omega (arith, some) in
    let same = left-other ty sides c es (l - 1) (omega (arith, some, within)) is in
    subst (λ (ts : List PlainTerm). IsSumWithin ts (left_mass ty sides c es (l - 1)) above) (sym (same.0 ∙ ap (left_factor ty sides c es) back))
    (subst (λ (n : ℕ). IsSumWithin (left_factor ty sides c es l) n above) (sym (same.1 ∙ ap (left_mass ty sides c es) back)) h)

pub product-skipped : (ty : Types) (sides : Sides) (c : Content) (es : List EdgeTo) (i : ℕ) (f : Poly) →
    kernel_edge (kind_of ty (get_or es i no_edge).kind.0) ≡ 0 → i < length es →
    kernel_edge (kind_of ty (get_or es i no_edge).kind.0) ≡ 1 → IsSumWithin (child_factor ty sides c es i) (child_mass ty sides c es i) f
product-skipped ty sides c es i f other lt is = absurd (omega (arith, other, is))

-- the polynomial above an edge is that above the next edge, where the edges are alike
pub product-repeated : (ty : Types) (sides : Sides) (c : Content) (es : List EdgeTo) (l : ℕ) (f : Poly) →
    0 < l → IsRepeated es (l - 1) →
    kernel_edge (kind_of ty (get_or es (l - 1) no_edge).kind.0) ≡ 1 →
    (l < length es → kernel_edge (kind_of ty (get_or es l no_edge).kind.0) ≡ 1 → IsSumWithin (child_factor ty sides c es l) (child_mass ty sides c es l) f) →
    IsSumWithin (child_factor ty sides c es (l - 1)) (child_mass ty sides c es (l - 1)) f
product-repeated ty sides c es l f some r is h =
    let back : l - 1 + 1 ≡ l = omega (arith, some) in
    let here = get_or es (l - 1) no_edge in
    let next = get_or es l no_edge in
    let kind : next.kind ≡ here.kind = ap (λ (i : ℕ). (get_or es i no_edge).kind) (sym back) ∙ r.kind in
    let child : next.child ≡ here.child = ap (λ (i : ℕ). (get_or es i no_edge).child) (sym back) ∙ r.child in
    let kernel : kernel_edge (kind_of ty next.kind.0) ≡ 1 = ap (λ (k : TypeId). kernel_edge (kind_of ty k.0)) kind ∙ is in
    subst (λ (t : TreeId). IsSumWithin (differential_of ty sides here.kind.0 (tree_at c t.0)) (mass_of ty sides here.kind.0 (tree_at c t.0)) f) child
    (subst (λ (k : TypeId). IsSumWithin (differential_of ty sides k.0 (tree_at c next.child.0)) (mass_of ty sides k.0 (tree_at c next.child.0)) f) kind (h (omega (arith, r.there, back)) kernel))

-- the whole product
pub product-whole : (ty : Types) (sides : Sides) (k : ℕ) (c : Content) (id : ℕ) (n : List ℕ) (es : List EdgeTo) (root above p : Poly) →
    Holds c id (tree_over c.trees n es) →
    IsSumWithin (root_factor ty (sides k) (tree_at c id)) (root_mass ty (sides k) (tree_at c id)) root → IsSumWithin (left_factor ty sides c es 0) (left_mass ty sides c es 0) above → IsPoly p →
    HaveSameCoefficients (terms_of p.terms) (products (terms_of root.terms) (terms_of above.terms)) → p.mass ≡ pos (unsigned_abs root.mass * unsigned_abs above.mass) →
    IsSumWithin (differential_of ty sides k (tree_at c id)) (mass_of ty sides k (tree_at c id)) p
product-whole ty sides k c id n es root above p holds hr ha poly same mass =
    let whole = left-whole ty sides c id n es holds in
    let first = root_factor ty (sides k) (tree_at c id) in
    let m = root_mass ty (sides k) (tree_at c id) in
    product-within root above p first (left_factor ty sides c es 0) (differential_of ty sides k (tree_at c id)) m (left_mass ty sides c es 0) (mass_of ty sides k (tree_at c id)) hr ha
    (ap (products first) (sym whole.1)) (ap (λ (x : ℕ). m * x) (sym whole.0)) poly same mass

pub memory_whole : (ty : Types) (sides : Sides) (k : ℕ) (c : Content) (id : ℕ) (n : List ℕ) (es : List EdgeTo) (root above : Poly) (e : PolyError) →
    Holds c id (tree_over c.trees n es) →
    IsSumWithin (root_factor ty (sides k) (tree_at c id)) (root_mass ty (sides k) (tree_at c id)) root → IsSumWithin (left_factor ty sides c es 0) (left_mass ty sides c es 0) above →
    mass_of ty sides k (tree_at c id) < overflow → IsRefused (overflow ≤ unsigned_abs root.mass * unsigned_abs above.mass) e → e ≡ Memory
memory_whole ty sides k c id n es root above e holds hr ha fits =
    let m = root_mass ty (sides k) (tree_at c id) in
    let within : m * left_mass ty sides c es 0 < overflow = omega (arith, fits, ap (λ (x : ℕ). m * x) (left-whole ty sides c id n es holds).0) in
    memory_alone (overflow ≤ unsigned_abs root.mass * unsigned_abs above.mass) e
    (product-fits root above (root_factor ty (sides k) (tree_at c id)) (left_factor ty sides c es 0) m (left_mass ty sides c es 0) hr ha within)

-- the last product as the answer of a call
pub answer_whole : (ty : Types) (sides : Sides) (k : ℕ) (c : Content) (id : ℕ) (n : List ℕ) (es : List EdgeTo) (root above : Poly) (r : Result Poly PolyError) →
    Holds c id (tree_over c.trees n es) →
    IsSumWithin (root_factor ty (sides k) (tree_at c id)) (root_mass ty (sides k) (tree_at c id)) root → IsSumWithin (left_factor ty sides c es 0) (left_mass ty sides c es 0) above → IfOk r IsPoly →
    IfOk r (λ p. HaveSameCoefficients (terms_of p.terms) (products (terms_of root.terms) (terms_of above.terms))) → IfOk r (λ p. p.mass ≡ pos (unsigned_abs root.mass * unsigned_abs above.mass)) →
    IfOk r (IsSumWithin (differential_of ty sides k (tree_at c id)) (mass_of ty sides k (tree_at c id)))
answer_whole ty sides k c id n es root above (Ok p) holds hr ha poly same mass = product-whole ty sides k c id n es root above p holds hr ha poly same mass
answer_whole ty sides k c id n es root above (Err e) holds hr ha poly same mass = tt

pub memory_answer : (ty : Types) (sides : Sides) (k : ℕ) (c : Content) (id : ℕ) (n : List ℕ) (es : List EdgeTo) (root above : Poly) (r : Result Poly PolyError) →
    Holds c id (tree_over c.trees n es) →
    IsSumWithin (root_factor ty (sides k) (tree_at c id)) (root_mass ty (sides k) (tree_at c id)) root → IsSumWithin (left_factor ty sides c es 0) (left_mass ty sides c es 0) above →
    mass_of ty sides k (tree_at c id) < overflow → IfErr r (IsRefused (overflow ≤ unsigned_abs root.mass * unsigned_abs above.mass)) → IsOkUnless r Memory
memory_answer ty sides k c id n es root above (Ok p) holds hr ha fits refused = tt
memory_answer ty sides k c id n es root above (Err e) holds hr ha fits refused = memory_whole ty sides k c id n es root above e holds hr ha fits refused
