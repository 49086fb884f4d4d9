-- Walks over the edges of a node of a pool: what the edges that are left make of terms and of
-- masses.
use Rattle.std.proofs.Common.{◌≡◌, ℕ, ◌+◌, ◌*◌, ◌^◌, ◌<◌, ◌≤◌, List, [], ◌∷◌, drop, length, map, sum, get_or, refl, sym, ap, ◌∙◌, arith, Some, None, Option}
use Rattle.exact_sums.specs.Saturating.{overflow, saturated, saturating_times}
use Rattle.exact_sums.proofs.SaturatingLaws.{saturated_mul_left, saturated_mul_right}
use Rattle.std.proofs.Math.Nat.{pow-suc}
use Rattle.degree_numbers.specs.declared.Types.{Types}
use Rattle.degree_numbers.specs.declared.Kind.{Kind}
use Rattle.degree_numbers.specs.declared.Kind.TheVariants.{Noise, Kernel}
use Rattle.degree_numbers.specs.Types.{kind_of}
use Rattle.plain_trees.specs.Plain.{Plain, bare, graft, root_of, decoration_sum_of}
use Rattle.plain_trees.specs.View.{Labelled, grafted}
use Rattle.symbol_polys.specs.Polynomials.{PlainTerm}
use Rattle.tree_pool.specs.Content.{Content, tree_at, Holds, edge_over, tree_over}
use Rattle.tree_pool.specs.declared.EdgeTo.{EdgeTo}
use Rattle.plain_trees.proofs.Views.{root_of-grafted}
use Rattle.tree_pool.proofs.Walks.{no_edge, at_holds, tree_cut, tree_end}
use Rattle.elementary_diff.specs.Differentials.{Sides, edge_derivatives, by_edges, kernel_edge}
use Rattle.elementary_diff.specs.Masses.{root_mass, kernel_mass, above_mass, mass_of}

-- the edges' derivatives do not hang on the root's decoration
edges-root : (ty : Types) (n m : List ℕ) (es : List Labelled) (ts : List PlainTerm) → by_edges ty (grafted n es) ts ≡ by_edges ty (grafted m es) ts
edges-root ty n m [] ts = refl
edges-root ty n m (e ∷ es) ts = edges-root ty n m es (edge_derivatives ty e.kind.0 e.p.entries ts)

pub edges-whole : (ty : Types) (c : Content) (i : ℕ) (n : List ℕ) (es : List EdgeTo) (ts us : List PlainTerm) → Holds c i (tree_over c.trees n es) → ts ≡ us →
    by_edges ty (tree_over c.trees [] es) ts ≡ by_edges ty (tree_at c i) us
edges-whole ty c i n es ts us h e =
    ap (by_edges ty (tree_over c.trees [] es)) e ∙ edges-root ty [] n (map (edge_over c.trees) es) us ∙ ap (λ (t : Plain). by_edges ty t us) (sym (at_holds c i (tree_over c.trees n es) h))

pub edges-step : (ty : Types) (c : Content) (es : List EdgeTo) (i : ℕ) (ts us whole : List PlainTerm) → i < length es →
    us ≡ edge_derivatives ty (get_or es i no_edge).kind.0 (get_or es i no_edge).p.entries ts → by_edges ty (tree_over c.trees [] (drop i es)) ts ≡ whole →
    by_edges ty (tree_over c.trees [] (drop (i + 1) es)) us ≡ whole
edges-step ty c es i ts us whole h e k = ap (by_edges ty (tree_over c.trees [] (drop (i + 1) es))) e ∙ rw (tree_cut c [] es i no_edge h) at k

pub edges-end : (ty : Types) (c : Content) (es : List EdgeTo) (i : ℕ) (ts whole : List PlainTerm) →
    length es ≤ i → by_edges ty (tree_over c.trees [] (drop i es)) ts ≡ whole → ts ≡ whole
edges-end ty c es i ts whole h k = rw (tree_end c [] es i h) at k

-- the masses above the edges
above-root : (ty : Types) (sides : Sides) (n m : List ℕ) (es : List Labelled) → above_mass ty sides (grafted n es) ≡ above_mass ty sides (grafted m es)
above-root ty sides n m [] = refl
above-root ty sides n m (e ∷ es) =
    ap (λ (x : ℕ). kernel_mass (kind_of ty e.kind.0) (root_mass ty (sides e.kind.0) e.child * above_mass ty sides e.child) * x) (above-root ty sides n m es)

pub masses-whole : (ty : Types) (sides : Sides) (k : ℕ) (c : Content) (i : ℕ) (n : List ℕ) (es : List EdgeTo) (p : ℕ) →
    Holds c i (tree_over c.trees n es) → p ≡ saturated (root_mass ty (sides k) (tree_at c i)) →
    saturated (p * above_mass ty sides (tree_over c.trees [] es)) ≡ saturated (mass_of ty sides k (tree_at c i))
masses-whole ty sides k c i n es p h e =
    let above : above_mass ty sides (tree_over c.trees [] es) ≡ above_mass ty sides (tree_at c i) =
    above-root ty sides [] n (map (edge_over c.trees) es) ∙ ap (above_mass ty sides) (sym (at_holds c i (tree_over c.trees n es) h)) in
    rw (e, above) (saturated_mul_left (root_mass ty (sides k) (tree_at c i)) (above_mass ty sides (tree_at c i)))

pub kernel_is : (o : Option Kind) (n : ℕ) → kernel_edge o ≡ 1 → kernel_mass o n ≡ n
kernel_is None n h = absurd cc
kernel_is (Some Noise) n h = absurd cc
kernel_is (Some Kernel) n h = refl

pub other_is : (o : Option Kind) (n : ℕ) → kernel_edge o ≡ 0 → kernel_mass o n ≡ 1
other_is None n h = refl
other_is (Some Noise) n h = refl
other_is (Some Kernel) n h = absurd cc

times_step : (p q m r w : ℕ) → q ≡ saturating_times p (saturated m) → saturated (p * (m * r)) ≡ w → saturated (q * r) ≡ w
times_step p q m r w e h =
    ap (λ (x : ℕ). saturated (x * r)) e ∙ saturated_mul_left (p * saturated m) r ∙ ap saturated (turned p (saturated m) r)
    ∙ saturated_mul_right (p * r) m ∙ ap saturated (back p m r) ∙ h
  where
    turned : (p m r : ℕ) → p * m * r ≡ p * r * m
    turned p m r = grind arith

    back : (p m r : ℕ) → p * r * m ≡ p * (m * r)
    back p m r = grind arith

pub masses-kernel : (ty : Types) (sides : Sides) (c : Content) (es : List EdgeTo) (i p q m whole : ℕ) →
    i < length es → kernel_edge (kind_of ty (get_or es i no_edge).kind.0) ≡ 1 →
    m ≡ saturated (mass_of ty sides (get_or es i no_edge).kind.0 (tree_at c (get_or es i no_edge).child.0)) → q ≡ saturating_times p m →
    saturated (p * above_mass ty sides (tree_over c.trees [] (drop i es))) ≡ saturated whole → saturated (q * above_mass ty sides (tree_over c.trees [] (drop (i + 1) es))) ≡ saturated whole
masses-kernel ty sides c es i p q m whole lt is e f h =
    let k = (get_or es i no_edge).kind.0 in
    let child = mass_of ty sides k (tree_at c (get_or es i no_edge).child.0) in
    let rest = above_mass ty sides (tree_over c.trees [] (drop (i + 1) es)) in
    let cut = rw (tree_cut c [] es i no_edge lt) at h in
    times_step p q child rest (saturated whole) (f ∙ ap (saturating_times p) e) (ap (λ (x : ℕ). saturated (p * (x * rest))) (sym (kernel_is (kind_of ty k) child is)) ∙ cut)

pub masses-other : (ty : Types) (sides : Sides) (c : Content) (es : List EdgeTo) (i p whole : ℕ) →
    i < length es → kernel_edge (kind_of ty (get_or es i no_edge).kind.0) ≡ 0 →
    saturated (p * above_mass ty sides (tree_over c.trees [] (drop i es))) ≡ saturated whole → saturated (p * above_mass ty sides (tree_over c.trees [] (drop (i + 1) es))) ≡ saturated whole
masses-other ty sides c es i p whole lt is h =
    let k = (get_or es i no_edge).kind.0 in
    let child = mass_of ty sides k (tree_at c (get_or es i no_edge).child.0) in
    let rest = above_mass ty sides (tree_over c.trees [] (drop (i + 1) es)) in
    let cut = rw (tree_cut c [] es i no_edge lt) at h in
    ap (λ (x : ℕ). saturated (p * x)) (single rest) ∙ ap (λ (x : ℕ). saturated (p * (x * rest))) (sym (other_is (kind_of ty k) child is)) ∙ cut
  where
    single : (r : ℕ) → r ≡ 1 * r
    single r = omega arith

pub masses-end : (ty : Types) (sides : Sides) (c : Content) (es : List EdgeTo) (i p whole : ℕ) →
    length es ≤ i → p ≤ overflow →
    saturated (p * above_mass ty sides (tree_over c.trees [] (drop i es))) ≡ saturated whole →
    p ≡ saturated whole
masses-end ty sides c es i p whole end within h =
    let cut = rw (tree_end c [] es i end) at h in
    in_range p (saturated whole) within cut
  where
    in_range : (p w : ℕ) → p ≤ overflow → saturated (p * 1) ≡ w → p ≡ w
    in_range p w h e = omega (arith, h, e)

-- the sum of the root's decoration is small
pub root-sum : (t : Plain) → sum (root_of t) ≤ decoration_sum_of t
root-sum (bare n) = omega arith
root-sum (graft k p c t) = omega (arith, root-sum t)

pub power-step : (b n p : ℕ) → p ≡ saturated (b ^ n) → saturating_times p b ≡ saturated (b ^ (n + 1))
power-step b n p h =
    ap (λ (x : ℕ). saturated (x * b)) h ∙ saturated_mul_left (b ^ n) b ∙ ap saturated (sym (pow-suc b n) ∙ ap (λ (k : ℕ). b ^ k) (omega arith))

pub root-few : (c : Content) (n : List ℕ) (es : List EdgeTo) → decoration_sum_of (tree_over c.trees n es) ≤ 4096 → sum n ≤ 4096
root-few c n es h =
    let most = root-sum (tree_over c.trees n es) in
    let same : sum (root_of (tree_over c.trees n es)) ≡ sum n = ap (λ (xs : List ℕ). sum xs) (root_of-grafted n (map (edge_over c.trees) es)) in
    omega (arith, h, most, same)

pub capped : (p m q : ℕ) → q ≡ saturating_times p m → q ≤ overflow
capped p m q h = omega (arith, h)
