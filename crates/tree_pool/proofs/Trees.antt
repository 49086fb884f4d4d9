-- The trees of a pool's nodes, at a place and after one more.
use Rattle.std.proofs.Common.{◌≡◌, ℕ, zero, suc, ◌+◌, ◌<◌, ◌≤◌, ◌≢◌, List, [], ◌∷◌, ◌++◌, take, length, slice_get, slice_index_or, Some, refl, sym, ap, ◌∙◌, arith, append_assoc, length-append, ◌⊎◌, inl, inr}
use Rattle.std.proofs.lemmas.Grind.{common_steps}
use Rattle.std.proofs.lemmas.Option.{slice_get_within, slice_get-get_or}
use Rattle.std.proofs.Math.ListN.{get_or-append}
use Rattle.degree_numbers.specs.declared.types.Types.{Types}
use Rattle.ordered_lists.specs.Members.{IsIn}
use Rattle.plain_trees.specs.Plain.{Plain, bare}
use Rattle.tree_pool.specs.Content.{tree_over, AreBelow, IsDistinct, IsKept, HasChildrenAmong}
use Rattle.tree_pool.specs.Nodes.{Shape, shapes, tree_of_shape, trees_after, made_trees, IsMadeFrom, AreNodes, LacksShape}
use Rattle.tree_pool.specs.declared.node.EdgeTo.{EdgeTo}
use Rattle.tree_pool.specs.declared.node.Node.{Node}

pub length-trees_after : (ts : List Plain) (xs : List Shape) → length (trees_after ts xs) ≡ length ts + length xs
length-trees_after ts [] = omega arith
length-trees_after ts (x ∷ xs) = length-trees_after (ts ++ tree_of_shape ts x ∷ []) xs ∙ omega (arith, length-append ts (tree_of_shape ts x ∷ []))

pub length-made_trees : (xs : List Shape) → length (made_trees xs) ≡ length xs
length-made_trees xs = omega (arith, length-trees_after [] xs)

pub length-shapes : (xs : List Node) → length (shapes xs) ≡ length xs
length-shapes xs = grind (arith, common_steps)

pub trees_after-push : (ts : List Plain) (xs : List Shape) (x : Shape) →
    trees_after ts (xs ++ x ∷ []) ≡ trees_after ts xs ++ tree_of_shape (trees_after ts xs) x ∷ []
trees_after-push ts [] x = refl
trees_after-push ts (y ∷ ys) x = trees_after-push (ts ++ tree_of_shape ts y ∷ []) ys x

-- trees beyond those that are named change nothing
pub tree_over-append : (ts us : List Plain) (n : List ℕ) (es : List EdgeTo) → AreBelow (length ts) es → tree_over (ts ++ us) n es ≡ tree_over ts n es
tree_over-append ts us n [] h = refl
tree_over-append ts us n (e ∷ es) h =
    let child : slice_index_or (ts ++ us) e.child.0 (bare []) ≡ slice_index_or ts e.child.0 (bare []) = get_or-append ts us (bare []) e.child.0 h.0 in
    rw (child, tree_over-append ts us n es h.1) refl

pub trees_after-extends : (ts : List Plain) (xs : List Shape) → (us : List Plain) × (trees_after ts xs ≡ ts ++ us)
trees_after-extends ts [] = ([], grind (arith, common_steps))
trees_after-extends ts (x ∷ xs) =
    let more = trees_after-extends (ts ++ tree_of_shape ts x ∷ []) xs in
    (tree_of_shape ts x ∷ more.0, more.1 ∙ append_assoc ts (tree_of_shape ts x ∷ []) more.0)

pub slice_get-append : {X : Type 0} (xs ys : List X) (i : ℕ) (x : X) → slice_get xs i ≡ Some x → slice_get (xs ++ ys) i ≡ Some x
slice_get-append [] ys i x h = cc
slice_get-append (y ∷ xs) ys zero x h = h
slice_get-append (y ∷ xs) ys (suc i) x h = slice_get-append xs ys i x h

pub slice_get-end : {X : Type 0} (xs : List X) (x : X) → slice_get (xs ++ x ∷ []) (length xs) ≡ Some x
slice_get-end [] x = refl
slice_get-end (y ∷ xs) x = slice_get-end xs x

-- the tree at a position is that of the node there, whose children stand before it
pub trees_after-at : (ts : List Plain) (xs : List Shape) (i : ℕ) (x : Shape) → IsMadeFrom (length ts) xs → slice_get xs i ≡ Some x →
    (slice_get (trees_after ts xs) (length ts + i) ≡ Some (tree_of_shape (trees_after ts xs) x)) × AreBelow (length ts + i) x.edges
trees_after-at ts [] i x made h = cc
trees_after-at ts (y ∷ ys) zero x made h =
    let same : y ≡ x = cc in
    let next = ts ++ tree_of_shape ts y ∷ [] in
    let more = trees_after-extends next ys in
    let base : length ts + 0 ≡ length ts = omega arith in
    let grown : trees_after next ys ≡ ts ++ (tree_of_shape ts y ∷ more.0) = more.1 ∙ append_assoc ts (tree_of_shape ts y ∷ []) more.0 in
    let there : slice_get (trees_after next ys) (length ts) ≡ Some (tree_of_shape ts y) = rw more.1 (slice_get-append next more.0 (length ts) (tree_of_shape ts y) (slice_get-end ts (tree_of_shape ts y))) in
    let stays : tree_of_shape (trees_after next ys) y ≡ tree_of_shape ts y = rw grown (tree_over-append ts (tree_of_shape ts y ∷ more.0) y.n y.edges made.0) in
    rw (base, ← same, stays) (there, made.0)
trees_after-at ts (y ∷ ys) (suc i) x made h =
    let next = ts ++ tree_of_shape ts y ∷ [] in
    let one : length next ≡ length ts + 1 = length-append ts (tree_of_shape ts y ∷ []) in
    let place : length ts + suc i ≡ length next + i = omega arith in
    let made' : IsMadeFrom (length next) ys = rw one made.1 in
    rw place (trees_after-at next ys i x made' h)

pub made_trees-at : (xs : List Shape) (i : ℕ) (x : Shape) → IsMadeFrom 0 xs → slice_get xs i ≡ Some x →
    (slice_get (made_trees xs) i ≡ Some (tree_of_shape (made_trees xs) x)) × AreBelow i x.edges
made_trees-at xs i x made h = let zero-plus : 0 + i ≡ i = omega arith in rw zero-plus at (trees_after-at [] xs i x made h)

pub AreBelow-le : (i j : ℕ) (es : List EdgeTo) → i ≤ j → AreBelow i es → AreBelow j es
AreBelow-le i j [] h b = tt
AreBelow-le i j (e ∷ es) h b = (omega (arith, b.0), AreBelow-le i j es h b.1)

abbrev edge_made : ℕ → List ℕ → ℕ → EdgeTo
edge_made k p i = record { kind = record { 0 = k }; p = record { entries = p }; child = record { 0 = i } }

-- distinct trees: a tree says its root's edges
pub tree_over-injective : (ts : List Plain) (n m : List ℕ) (es fs : List EdgeTo) → IsDistinct ts → AreBelow (length ts) es → AreBelow (length ts) fs →
    tree_over ts n es ≡ tree_over ts m fs → (n ≡ m) × (es ≡ fs)
tree_over-injective ts n m [] [] d he hf h = (cc, refl)
tree_over-injective ts n m [] (f ∷ fs) d he hf h = absurd cc
tree_over-injective ts n m (e ∷ es) [] d he hf h = absurd cc
tree_over-injective ts n m (e ∷ es) (f ∷ fs) d he hf h =
    let child : slice_index_or ts e.child.0 (bare []) ≡ slice_index_or ts f.child.0 (bare []) = cc in
    let rest : tree_over ts n es ≡ tree_over ts m fs = cc in
    let se = slice_get-get_or ts e.child.0 (bare []) he.0 in
    let sf = slice_get-get_or ts f.child.0 (bare []) hf.0 in
    let place : e.child.0 ≡ f.child.0 = d e.child.0 f.child.0 (slice_index_or ts f.child.0 (bare [])) (se ∙ ap Some child) sf in
    let edge : edge_made e.kind.0 e.p.entries e.child.0 ≡ edge_made f.kind.0 f.p.entries f.child.0 = cc in
    let below = tree_over-injective ts n m es fs d he.1 hf.1 rest in
    let both : (e ∷ es) ≡ (f ∷ fs) = rw (below.1) (ap (λ (g : EdgeTo). g ∷ fs) edge) in
    (below.0, both)

IsMadeFrom-push : (i : ℕ) (xs : List Shape) (x : Shape) → IsMadeFrom i xs → AreBelow (i + length xs) x.edges → IsMadeFrom i (xs ++ x ∷ [])
IsMadeFrom-push i [] x made b = let same : i + 0 ≡ i = omega arith in (rw same at b, tt)
IsMadeFrom-push i (y ∷ ys) x made b =
    let shifted : i + suc (length ys) ≡ i + 1 + length ys = omega arith in
    (made.0, IsMadeFrom-push (i + 1) ys x made.1 (rw shifted at b))

pub slice_get-append_cases : {X : Type 0} (xs : List X) (y : X) (i : ℕ) (x : X) →
    slice_get (xs ++ y ∷ []) i ≡ Some x → (slice_get xs i ≡ Some x) ⊎ ((i ≡ length xs) × (y ≡ x))
slice_get-append_cases [] y zero x h = inr (refl, cc)
slice_get-append_cases [] y (suc i) x h = absurd cc
slice_get-append_cases (z ∷ xs) y zero x h = inl h
slice_get-append_cases (z ∷ xs) y (suc i) x h = elim (slice_get-append_cases xs y i x h) [ inl g ↦ inl g | inr g ↦ inr (omega (arith, g.0), g.1) ]

-- distinct values and one more that is not among them
pub distinct-push : {X : Type 0} (xs : List X) (x : X) →
    ((i j : ℕ) (y : X) → slice_get xs i ≡ Some y → slice_get xs j ≡ Some y → i ≡ j) →
    ((i : ℕ) → slice_get xs i ≢ Some x) →
    (i j : ℕ) (y : X) → slice_get (xs ++ x ∷ []) i ≡ Some y → slice_get (xs ++ x ∷ []) j ≡ Some y → i ≡ j
distinct-push xs x d lacks i j y hi hj =
    elim (slice_get-append_cases xs x i y hi) [
      | inl gi ↦ elim (slice_get-append_cases xs x j y hj) [
        | inl gj ↦ d i j y gi gj
        | inr gj ↦ absurd (lacks i (gi ∙ ap Some (sym gj.1)))
      ]
      | inr gi ↦ elim (slice_get-append_cases xs x j y hj) [
        | inl gj ↦ absurd (lacks j (gj ∙ ap Some (sym gi.1)))
        | inr gj ↦ gi.0 ∙ sym gj.0
      ]
    ]

pub slice_get_some : {X : Type 0} (xs : List X) (i : ℕ) → i < length xs → (x : X) × (slice_get xs i ≡ Some x)
slice_get_some [] i h = absurd (omega (arith, h))
slice_get_some (x ∷ xs) zero h = (x, refl)
slice_get_some (x ∷ xs) (suc i) h = slice_get_some xs i (omega (arith, h))

-- a node that is not there makes a tree that is not there
pub lacks_tree : (xs : List Shape) (n : List ℕ) (es : List EdgeTo) → IsMadeFrom 0 xs →
    IsDistinct (made_trees xs) → AreBelow (length xs) es → LacksShape xs n es →
    (i : ℕ) → slice_get (made_trees xs) i ≢ Some (tree_over (made_trees xs) n es)
lacks_tree xs n es made distinct b lacks i h =
    let len = length-made_trees xs in
    let within : i < length xs = omega (arith, slice_get_within (made_trees xs) i (tree_over (made_trees xs) n es) h, len) in
    let node = slice_get_some xs i within in
    let at = made_trees-at xs i node.0 made node.1 in
    let same : tree_of_shape (made_trees xs) node.0 ≡ tree_over (made_trees xs) n es = cc (at.0, h) in
    let parts = tree_over-injective (made_trees xs) node.0.n n node.0.edges es distinct
    (AreBelow-le i (length (made_trees xs)) node.0.edges (omega (arith, len)) at.1) (rw len b) same in
    let shape : (λ (m : List ℕ) (fs : List EdgeTo). let s : Shape = record { n = m; edges = fs } in s) node.0.n node.0.edges ≡ record { n = n; edges = es } = rw (parts.0, parts.1) refl in
    lacks i (node.1 ∙ ap Some shape)

-- the nodes with one more
pub AreNodes-push : (ty : Types) (xs : List Shape) (n : List ℕ) (es : List EdgeTo) →
    AreNodes ty xs → AreBelow (length xs) es → LacksShape xs n es →
    IsKept ty (tree_over (made_trees xs) n es) →
    AreNodes ty (xs ++ record { n = n; edges = es } ∷ [])
AreNodes-push ty xs n es nodes b lacks keeps =
    let trees : made_trees (xs ++ record { n = n; edges = es } ∷ []) ≡ made_trees xs ++ tree_over (made_trees xs) n es ∷ [] = trees_after-push [] xs record { n = n; edges = es } in
    record {
      types = nodes.types;
      made = IsMadeFrom-push 0 xs record { n = n; edges = es } nodes.made (let same : 0 + length xs ≡ length xs = omega arith in rw same b);
      distinct = rw trees (distinct-push (made_trees xs) (tree_over (made_trees xs) n es) nodes.distinct (lacks_tree xs n es nodes.made nodes.distinct b lacks));
      kept = rw trees (λ i t h. elim (slice_get-append_cases (made_trees xs) (tree_over (made_trees xs) n es) i t h) [ inl old ↦ nodes.kept i t old | inr new ↦ rw (sym new.1) keeps ]);
    }

-- the trees above the edges of a root stand before it
IsIn-at : (ts : List Plain) (i j : ℕ) → j < i → i ≤ length ts → IsIn (slice_index_or ts j (bare [])) (take i ts)
IsIn-at [] i j h k = absurd (omega (arith, h, k))
IsIn-at (t ∷ ts) zero j h k = absurd (omega (arith, h))
IsIn-at (t ∷ ts) (suc i) zero h k = inl refl
IsIn-at (t ∷ ts) (suc i) (suc j) h k = inr (IsIn-at ts i j (omega (arith, h)) (omega (arith, k)))

pub children_among : (ts : List Plain) (i : ℕ) (n : List ℕ) (es : List EdgeTo) → i ≤ length ts →
    AreBelow i es → HasChildrenAmong (take i ts) (tree_over ts n es)
children_among ts i n [] k b = tt
children_among ts i n (e ∷ es) k b = (IsIn-at ts i e.child.0 b.0 k, children_among ts i n es k b.1)

pub ruleset trees_facts = (length-made_trees, length-shapes)
