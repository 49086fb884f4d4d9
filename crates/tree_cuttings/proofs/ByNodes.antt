-- The definition by nodes and edges, in the words of the proofs: touched nodes, components,
-- quotient and splitting coefficient of a cutting that is read down the tree.
use Rattle.std.proofs.Common.{◌≡◌, ℕ, ◌*◌, ◌==◌, Bool, true, false, cond, not, ◌&&◌, ◌||◌, List, [], ◌∷◌, ◌++◌, map, filter, refl, ap, ◌∙◌, arith}
use Rattle.std.specs.List.{list_all}
use Rattle.exact_sums.specs.Sums.{product_over}
use Rattle.degree_numbers.specs.Multi.{is_zero}
use Rattle.plain_trees.specs.Multinomials.{plus_all, multinomial_of}
use Rattle.plain_trees.specs.Flat.{Link, tree_at}
use Rattle.plain_trees.specs.Cutting.{Marked, Cutting, Node, node_above, root_node, nodes_of, is_touched, is_cutting, base, parts_at, lefts_at, component, components, outer_link, quotient, splitting_coefficient}
use Rattle.tree_cuttings.specs.CutTree.{CutTree, is_cut, root_component, cut_components, contracted, cut_coefficient}
use Rattle.tree_cuttings.proofs.ByNumbers.{is_numbered_cut, lefts_of, numbered_component, numbered_components, outer_of, numbered_quotient, numbered_coefficient, rows_from, flat_of}
use Rattle.tree_cuttings.proofs.FlatComponents.{numbered_component_is, numbered_components_are}
use Rattle.tree_cuttings.proofs.FlatQuotients.{base_root, numbered_quotient_is, numbered_coefficient_is}
use Rattle.tree_cuttings.proofs.FlatLaw.{numbered_cut_is}
use Rattle.tree_cuttings.proofs.Untouched.{touched_product}

map_ext : {X Y : Type 0} (f g : X → Y) → ((x : X) → f x ≡ g x) → (xs : List X) → map f xs ≡ map g xs
map_ext f g h [] = refl
map_ext f g h (x ∷ xs) = ap (λ y. y ∷ map f xs) (h x) ∙ ap (λ ys. g x ∷ ys) (map_ext f g h xs)

filter-map : {X Y Z : Type 0} (f : X → Y) (p : Y → Bool) (g : Y → Z) (xs : List X) → map g (filter p (map f xs)) ≡ map (λ x. g (f x)) (filter (λ x. p (f x)) xs)
filter-map f p g [] = refl
filter-map f p g (x ∷ xs) =
    elim (p (f x)) as (λ b. map g (cond b (f x ∷ filter p (map f xs)) (filter p (map f xs))) ≡ map (λ y. g (f y)) (cond b (x ∷ filter (λ y. p (f y)) xs) (filter (λ y. p (f y)) xs))) [
      | true ↦ ap (λ ys. g (f x) ∷ ys) (filter-map f p g xs)
      | false ↦ filter-map f p g xs
    ]

list_all-map : {X Y : Type 0} (f : X → Y) (p : Y → Bool) (xs : List X) → list_all p (map f xs) ≡ list_all (λ x. p (f x)) xs
list_all-map f p [] = refl
list_all-map f p (x ∷ xs) = ap (λ b. p (f x) && b) (list_all-map f p xs)

and_mixed : (a b c d : Bool) → (a && c) && (b && d) ≡ (a && b) && (c && d)
and_mixed true true c d = refl
and_mixed true false true d = refl
and_mixed true false false d = refl
and_mixed false b c d = refl

list_all-both : {X : Type 0} (p q : X → Bool) (xs : List X) → list_all p xs && list_all q xs ≡ list_all (λ x. p x && q x) xs
list_all-both p q [] = refl
list_all-both p q (x ∷ xs) = and_mixed (p x) (q x) (list_all p xs) (list_all q xs) ∙ ap (λ b. (p x && q x) && b) (list_all-both p q xs)

and_assoc : (a b c : Bool) → (a && b) && c ≡ a && (b && c)
and_assoc true b c = refl
and_assoc false b c = refl

numbered_cut : (forced : Bool) (x : Cutting) → is_cutting forced x ≡ is_numbered_cut forced x
numbered_cut forced x =
    let touched : Node → Bool = λ v. is_touched forced x.edges v.number || is_zero v.taken in
    let raised : Marked → Bool = λ e. (is_touched forced x.edges e.parent && not e.inside) || is_zero e.shift in
    let first : Bool = is_touched forced x.edges 0 || is_zero x.taken in
    ap (λ b. (first && b) && list_all raised x.edges) (list_all-map node_above touched x.edges)
    ∙ and_assoc first (list_all (λ e. touched (node_above e)) x.edges) (list_all raised x.edges)
    ∙ ap (λ b. first && b) (list_all-both (λ e. touched (node_above e)) raised x.edges)

pub is_cutting_same : (forced : Bool) (m : CutTree) → is_cutting forced (flat_of m) ≡ is_cut forced m
is_cutting_same forced m = numbered_cut forced (flat_of m) ∙ numbered_cut_is forced m

pub component_same : (m : CutTree) → component (rows_from 0 1 m) (root_node (flat_of m)) ≡ root_component m
component_same m = numbered_component_is m

numbered_trees : (forced : Bool) (x : Cutting) → components forced x ≡ numbered_components forced x
numbered_trees forced x =
    let lowest : Node → Bool = λ v. is_touched forced x.edges v.number && not v.entered in
    let above : map (component x.edges) (filter lowest (map node_above x.edges)) ≡ map (λ e. component x.edges (node_above e)) (filter (λ e. lowest (node_above e)) x.edges) =
    filter-map node_above lowest (component x.edges) x.edges in
    elim (is_touched forced x.edges 0) as (λ b. map (component x.edges) (cond (b && true) (root_node x ∷ filter lowest (map node_above x.edges)) (filter lowest (map node_above x.edges))) ≡ cond b (numbered_component x 0 x.taken ∷ []) [] ++ map (λ e. component x.edges (node_above e)) (filter (λ e. lowest (node_above e)) x.edges)) [
      | true ↦ ap (λ ts. numbered_component x 0 x.taken ∷ ts) above
      | false ↦ above
    ]

pub components_same : (forced : Bool) (m : CutTree) → components forced (flat_of m) ≡ cut_components forced m
components_same forced m = numbered_trees forced (flat_of m) ∙ numbered_components_are forced m

lefts_same : (x : Cutting) → base x.edges 0 ≡ 0 → (r : ℕ) → lefts_at x r ≡ lefts_of x r
lefts_same x root r =
    let here : Node → Bool = λ v. base x.edges v.number == r in
    let rest = filter here (map node_above x.edges) in
    let above : map (λ (v : Node). v.left) rest ≡ map (λ (e : Marked). e.left) (filter (λ e. here (node_above e)) x.edges) = filter-map node_above here (λ (v : Node). v.left) x.edges in
    ap (λ (j : ℕ). map (λ (v : Node). v.left) (cond (j == r) (root_node x ∷ rest) rest)) root
    ∙ elim (0 == r) as (λ b. map (λ (v : Node). v.left) (cond b (root_node x ∷ rest) rest) ≡ cond b (x.left ∷ []) [] ++ map (λ (e : Marked). e.left) (filter (λ e. here (node_above e)) x.edges)) [
      | true ↦ ap (λ ls. x.left ∷ ls) above
      | false ↦ above
    ]

abbrev link_at : Cutting → Marked → List ℕ → Link
link_at x e n = record { number = e.number; parent = base x.edges e.parent; kind = e.kind; p = (outer_link x e).p; n = n }

numbered_contraction : (x : Cutting) → base x.edges 0 ≡ 0 → quotient x ≡ numbered_quotient x
numbered_contraction x root =
    ap (λ ls. tree_at 0 (plus_all ls) (map (outer_link x) (filter (λ e. not e.inside) x.edges))) (lefts_same x root 0)
    ∙ ap (tree_at 0 (plus_all (lefts_of x 0))) (map_ext (outer_link x) (outer_of x) (λ e. ap (λ ls. link_at x e (plus_all ls)) (lefts_same x root e.number)) (filter (λ e. not e.inside) x.edges))

pub quotient_same : (m : CutTree) → quotient (flat_of m) ≡ contracted m
quotient_same m = numbered_contraction (flat_of m) (base_root m) ∙ numbered_quotient_is m

product-map : {X Y : Type 0} (f : Y → ℕ) (g : X → Y) (xs : List X) → product_over f (map g xs) ≡ product_over (λ x. f (g x)) xs
product-map f g [] = refl
product-map f g (x ∷ xs) = ap (λ (n : ℕ). f (g x) * n) (product-map f g xs)

product_ext : {X : Type 0} (f g : X → ℕ) → ((x : X) → f x ≡ g x) → (xs : List X) → product_over f xs ≡ product_over g xs
product_ext f g h [] = refl
product_ext f g h (x ∷ xs) = rw (h x, product_ext f g h xs) refl

product-times : {X : Type 0} (f g : X → ℕ) (xs : List X) → product_over f xs * product_over g xs ≡ product_over (λ x. f x * g x) xs
product-times f g [] = refl
product-times f g (x ∷ xs) = let e = ap (λ (n : ℕ). f x * g x * n) (product-times f g xs) in omega (arith, e)

-- a product over the nodes into which no edge of the set goes
lowest_product : (f : Node → ℕ) (es : List Marked) →
    product_over f (filter (λ v. not v.entered) (map node_above es)) ≡ product_over (λ e. cond e.inside 1 (f (node_above e))) es
lowest_product f [] = refl
lowest_product f (e ∷ es) =
    elim e.inside as (λ b. product_over f (cond (not b) (node_above e ∷ filter (λ v. not v.entered) (map node_above es)) (filter (λ v. not v.entered) (map node_above es))) ≡ cond b 1 (f (node_above e)) * product_over (λ d. cond d.inside 1 (f (node_above d))) es) [
      | true ↦ let rest = lowest_product f es in omega (arith, rest)
      | false ↦ ap (λ (n : ℕ). f (node_above e) * n) (lowest_product f es)
    ]

numbered_splitting : (forced : Bool) (x : Cutting) → base x.edges 0 ≡ 0 → is_cutting forced x ≡ true → splitting_coefficient forced x ≡ numbered_coefficient x
numbered_splitting forced x root h =
    let f : Node → ℕ = λ v. multinomial_of (parts_at x.edges v) in
    let g : Node → ℕ = λ v. multinomial_of (lefts_at x v.number) in
    let i : Marked → ℕ = λ e. multinomial_of (lefts_of x e.number) in
    let parts : product_over f (filter (λ v. is_touched forced x.edges v.number) (nodes_of x)) ≡ f (root_node x) * product_over (λ e. f (node_above e)) x.edges =
    touched_product forced x h ∙ ap (λ (n : ℕ). f (root_node x) * n) (product-map f node_above x.edges) in
    let lefts : product_over g (filter (λ v. not v.entered) (nodes_of x)) ≡ multinomial_of (lefts_of x 0) * product_over (λ e. cond e.inside 1 (i e)) x.edges =
    ap (λ (n : ℕ). g (root_node x) * n) (lowest_product g x.edges
    ∙ product_ext (λ e. cond e.inside 1 (g (node_above e))) (λ e. cond e.inside 1 (i e)) (λ e. ap (λ ls. cond e.inside 1 (multinomial_of ls)) (lefts_same x root e.number)) x.edges)
    ∙ ap (λ ls. multinomial_of ls * product_over (λ e. cond e.inside 1 (i e)) x.edges) (lefts_same x root 0) in
    let both = product-times (λ e. f (node_above e)) (λ e. cond e.inside 1 (i e)) x.edges in
    rw (parts, lefts, ← both) (omega arith)

pub coefficient_same : (forced : Bool) (m : CutTree) → is_cutting forced (flat_of m) ≡ true → splitting_coefficient forced (flat_of m) ≡ cut_coefficient m
coefficient_same forced m h = numbered_splitting forced (flat_of m) (base_root m) h ∙ numbered_coefficient_is m
