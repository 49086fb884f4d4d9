-- What the decorations of a tree add to its degree, and what one decoration at the root adds.
use Rattle.std.proofs.Common.{◌≡◌, ℕ, zero, suc, ◌+◌, ◌*◌, ◌<◌, ◌≤◌, ◌&&◌, ◌==◌, Bool, true, false, pos, ◌+ℤ◌, ◌≤ℤ◌, List, [], ◌∷◌, length, drop, take, sum, slice_index, refl, sym, ap, ◌∙◌, arith, unsigned_abs}
use Rattle.std.specs.Prelude.{if◌then◌else◌}
use Rattle.std.specs.List.{AllByRecursion, list_all}
use Rattle.std.proofs.lemmas.Bool.Decides.{nat_tests}
use Rattle.std.proofs.lemmas.Int.{ints}
use Rattle.std.proofs.Math.Nat.{mul-le-mul}
use Rattle.degree_numbers.specs.declared.degree.Degree.{Degree}
use Rattle.degree_numbers.specs.declared.types.Types.{Types}
use Rattle.degree_numbers.specs.Multi.{scaled_size, is_zero}
use Rattle.degree_numbers.specs.Types.{AreTypes, size_in_units}
use Rattle.plain_trees.specs.Plain.{Plain, bare, graft}
use Rattle.plain_trees.specs.Building.{zeros}
use Rattle.plain_trees.specs.Degree.{IsMultiIndex, HasTypes, degree_of, is_kernel, planted}
use Rattle.plain_trees.proofs.ReadTrees.{sum_cons}
use Rattle.conforming_trees.proofs.Roots.{zeros_degree}
use Rattle.conforming_trees.specs.Budgets.{with_root}
use Rattle.large_trees.specs.Cells.{root_labels}
use Rattle.large_trees.specs.Large.{planted_lack, IsUnit}
use Rattle.large_trees.proofs.Drawings.{strip, node_sum}

-- the sum of a list of zeros
sum_zero : (ms : List ℕ) → AllByRecursion (λ x. x ≡ 0) ms → sum ms ≡ 0
sum_zero [] h = refl
sum_zero (m ∷ ms) h = let first = h.0 in omega (arith, sum_cons m ms, sum_zero ms h.1)

product_more : (u den s m : ℕ) → u ≤ den * s → u * m ≤ den * s * m
product_more u den s m h = let same : m ≤ m = omega arith in mul-le-mul h same

-- each entry adds at least the unit
size_least : (u den d : ℕ) (ss ms : List ℕ) → length ss ≡ length ms →
    AllByRecursion (λ x. x ≡ 0) (drop d ms) → ((i : ℕ) → i < d → u ≤ den * slice_index ss i) →
    u * sum ms ≤ den * scaled_size ss ms
size_least u den d ss [] l z h = let none : u * sum [] ≡ 0 = omega arith in omega (arith, none)
size_least u den d [] (m ∷ ms) l z h = absurd (omega arith)
size_least u den zero (s ∷ ss) (m ∷ ms) l z h = let none : sum (m ∷ ms) ≡ 0 = sum_zero (m ∷ ms) z in rw none (omega arith)
size_least u den (suc d) (s ∷ ss) (m ∷ ms) l z h =
    let first : u * m ≤ den * s * m = product_more u den s m (h 0 (omega arith)) in
    let rest = size_least u den d ss ms (omega arith) z (λ i lt. h (suc i) (omega arith)) in
    let all : u * sum (m ∷ ms) ≡ u * m + u * sum ms = rw (sum_cons m ms) (grind arith) in
    let size : den * (s * m + scaled_size ss ms) ≡ den * s * m + den * scaled_size ss ms = grind arith in
    omega (arith, first, rest, all, size)

-- the decorations of nodes add at least the unit for each entry
module _ (ty : Types) (types : AreTypes ty) (unit : ℕ) (is : IsUnit ty unit) where
  pub node_least : (n : List ℕ) → IsMultiIndex ty.dims n → unit * sum n ≤ size_in_units ty n
  node_least n h = size_least unit (unsigned_abs ty.units.den) ty.dims ty.scaling n (types.scaling.entries ∙ sym h.entries) h.rest is.least

  pub strip_degree : (t : Plain) → HasTypes ty t →
      (((degree_of ty (strip t)).a +ℤ pos (unit * node_sum t)) ≤ℤ (degree_of ty t).a) × ((degree_of ty (strip t)).b ≡ (degree_of ty t).b)
  strip_degree (bare n) h =
      let none : (degree_of ty (bare zeros)).a ≡ pos 0 = ap (λ (d : Degree). d.a) (zeros_degree ty) in
      let least = node_least n h in
      (omega (arith, ints), refl)
  strip_degree (graft k p c t) h =
      let child = strip_degree c h.1 in
      let rest = strip_degree t h.2 in
      let c0 = child.0 in
      let t0 = rest.0 in
      let c1 = child.1 in
      let t1 = rest.1 in
      let all : unit * (node_sum c + node_sum t) ≡ unit * node_sum c + unit * node_sum t = grind arith in
      (omega (arith, ints, all), omega (arith, ints))

-- an unplanted tree has the decoration at the root that its node type lacks
zero_all : (ms : List ℕ) → sum ms ≡ 0 → is_zero ms ≡ true
zero_all [] h = refl
zero_all (m ∷ ms) h =
    let first : m ≡ 0 = omega (arith, sum_cons m ms, h) in
    let rest = zero_all ms (omega (arith, sum_cons m ms, h)) in
    rw (first, rest) refl

kernel_lack : (kernel : Bool) (n : List ℕ) → (kernel && is_zero n) ≡ false → (if kernel then 1 else 0) ≤ sum n
kernel_lack false n h = omega arith
kernel_lack true n h = some (sum n) refl
  where
    some : (s : ℕ) → sum n ≡ s → 1 ≤ sum n
    some zero e = let z = zero_all n e in absurd cc
    some (suc s) e = omega arith

pub unplanted_lack : (ty : Types) (t : Plain) → planted ty t ≡ false → planted_lack ty (root_labels t) ≤ node_sum t
unplanted_lack ty (bare n) h = omega arith
unplanted_lack ty (graft k p c (bare n)) h = omega (arith, kernel_lack (is_kernel ty k) n h)
unplanted_lack ty (graft k p c (graft l q d t)) h = omega arith

-- a decoration in one direction
abbrev pub single : ℕ → ℕ → ℕ → List ℕ
single zero i l = []
single (suc n) zero l = l ∷ single n 0 0
single (suc n) (suc i) l = 0 ∷ single n i l

pub single_length : (n i l : ℕ) → length (single n i l) ≡ n
single_length zero i l = refl
single_length (suc n) zero l = ap suc (single_length n 0 0)
single_length (suc n) (suc i) l = ap suc (single_length n i l)

single_none : (n : ℕ) → AllByRecursion (λ x. x ≡ 0) (single n 0 0)
single_none zero = tt
single_none (suc n) = (refl, single_none n)

pub single_rest : (n i l d : ℕ) → i < d → AllByRecursion (λ x. x ≡ 0) (drop d (single n i l))
single_rest zero i l zero lt = tt
single_rest zero i l (suc d) lt = tt
single_rest (suc n) i l zero lt = absurd (omega arith)
single_rest (suc n) zero l (suc d) lt = drop_zero d (single n 0 0) (single_none n)
  where
    drop_zero : (j : ℕ) (ms : List ℕ) → AllByRecursion (λ x. x ≡ 0) ms → AllByRecursion (λ x. x ≡ 0) (drop j ms)
    drop_zero zero ms h = h
    drop_zero (suc j) [] h = tt
    drop_zero (suc j) (m ∷ ms) h = drop_zero j ms h.1
single_rest (suc n) (suc i) l (suc d) lt = single_rest n i l d (omega arith)

pub single_sum : (n i l : ℕ) → i < n → sum (single n i l) ≡ l
single_sum zero i l lt = absurd (omega arith)
single_sum (suc n) zero l lt = omega (arith, sum_cons l (single n 0 0), sum_zero (single n 0 0) (single_none n))
single_sum (suc n) (suc i) l lt = omega (arith, sum_cons 0 (single n i l), single_sum n i l (omega arith))

zero_size : (ss ms : List ℕ) → AllByRecursion (λ x. x ≡ 0) ms → scaled_size ss ms ≡ 0
zero_size [] ms h = refl
zero_size (s ∷ ss) [] h = refl
zero_size (s ∷ ss) (m ∷ ms) h = rw (h.0, zero_size ss ms h.1) (omega arith)

pub single_size : (ss : List ℕ) (n i l : ℕ) → length ss ≡ n → i < n → scaled_size ss (single n i l) ≡ slice_index ss i * l
single_size [] zero i l e lt = absurd (omega arith)
single_size [] (suc n) i l e lt = absurd (omega arith)
single_size (s ∷ ss) zero i l e lt = absurd (omega arith)
single_size (s ∷ ss) (suc n) zero l e lt = omega (arith, zero_size ss (single n 0 0) (single_none n))
single_size (s ∷ ss) (suc n) (suc i) l e lt = omega (arith, single_size ss n i l (omega arith) (omega arith))

-- with enough decoration at the root a tree is unplanted
both : (a b : Bool) → (a && b) ≡ true → (a ≡ true) × (b ≡ true)
both true true h = (refl, refl)
both true false h = absurd cc
both false b h = absurd cc

is_zero_sum : (ms : List ℕ) → is_zero ms ≡ true → sum ms ≡ 0
is_zero_sum [] h = refl
is_zero_sum (m ∷ ms) h =
    let parts = both (m == 0) (list_all (λ x. x == 0) ms) h in
    let first : m ≡ 0 = let test = parts.0 in grind (arith, nat_tests) in
    omega (arith, sum_cons m ms, is_zero_sum ms parts.1)

kernel_unplanted : (kernel : Bool) (n : List ℕ) → (if kernel then 1 else 0) ≤ sum n → (kernel && is_zero n) ≡ false
kernel_unplanted false n h = refl
kernel_unplanted true n h = test (is_zero n) refl
  where
    test : (b : Bool) → is_zero n ≡ b → is_zero n ≡ false
    test true z = absurd (omega (arith, is_zero_sum n z))
    test false z = z

and_false : (b : Bool) → (b && false) ≡ false
and_false true = refl
and_false false = refl

pub lack_unplanted : (ty : Types) (t : Plain) (n : List ℕ) → planted_lack ty (root_labels t) ≤ sum n → planted ty (with_root n t) ≡ false
lack_unplanted ty (bare m) n h = refl
lack_unplanted ty (graft k p c (bare m)) n h = kernel_unplanted (is_kernel ty k) n h
lack_unplanted ty (graft k p c (graft l q d t)) n h = and_false (is_kernel ty k)

-- the unit is above 0
index_above : (d i : ℕ) (ss : List ℕ) → i < d → i < length ss → AllByRecursion (λ s. (0 < s) × (s ≤ 10)) (take d ss) → 1 ≤ slice_index ss i
index_above zero i ss lt l h = absurd (omega arith)
index_above (suc d) i [] lt l h = absurd (omega arith)
index_above (suc d) zero (s ∷ ss) lt l h = h.0.0
index_above (suc d) (suc i) (s ∷ ss) lt l h = index_above d i ss (omega arith) (omega arith) h.1

pub unit_above : (ty : Types) → AreTypes ty → (unit : ℕ) → IsUnit ty unit → 1 ≤ unit
unit_above ty t unit is =
    let den : 1 ≤ unsigned_abs ty.units.den = let d = t.den_above in omega (arith, ints) in
    let lt = is.within in
    let dims = t.scaling.most in
    let entry = index_above ty.dims is.direction ty.scaling is.within (omega (arith, t.scaling.entries)) t.scaling.within in
    let product : 1 * 1 ≤ unsigned_abs ty.units.den * slice_index ty.scaling is.direction = mul-le-mul den entry in
    omega (arith, product, is.is)
