-- `==` decides equality: of edges, numbers, nodes and forests.
use Rattle.std.proofs.Common.{◌≡◌, ◌∙◌, ℕ, Bool, List, [], ◌∷◌, ap, refl}
use Rattle.std.specs.Bool.{Decides}
use Rattle.std.proofs.lemmas.Bool.Decides.{Decides-eqb, Decides-and, Decides-like}
use Rattle.std.proofs.lemmas.Slice.Eq.{bytes_eq-Decides, slice_eq-Decides}
use Rattle.std.specs.Cmp.Lexicographic.{pointwise}
use Rattle.tree_pool.specs.Forests.{numbers, numbers_of}
use Rattle.tree_pool.specs.Nodes.{Shape, shape_of}
use Rattle.tree_pool.specs.contracts.forest.ForestPartialEq.TheImpl.{eq-value as forest-eq}
use Rattle.tree_pool.specs.contracts.node.EdgeToPartialEq.TheImpl.{eq-value}
use Rattle.tree_pool.specs.contracts.node.NodePartialEq.TheImpl.{eq-value as node-eq}
use Rattle.tree_pool.specs.contracts.node.TreeIdPartialEq.TheImpl.{eq-value as id-eq}
use Rattle.tree_pool.specs.declared.forest.Forest.{Forest}
use Rattle.tree_pool.specs.declared.node.EdgeTo.{EdgeTo}
use Rattle.tree_pool.specs.declared.node.Node.{Node}
use Rattle.tree_pool.specs.declared.node.TreeId.{TreeId}

abbrev pub edge_made : ℕ → List ℕ → ℕ → EdgeTo
edge_made k p i = record { kind = record { 0 = k }; p = record { entries = p }; child = record { 0 = i } }

pub EdgeTo-Decides : (a b : EdgeTo) → Decides (eq-value.it a b) (a ≡ b)
EdgeTo-Decides a b =
    let both = Decides-and _ _ (Decides-eqb a.kind.0 b.kind.0) (Decides-and _ _ (bytes_eq-Decides a.p.entries b.p.entries) (Decides-eqb a.child.0 b.child.0)) in
    Decides-like _
    (λ (h : (a.kind.0 ≡ b.kind.0) × ((a.p.entries ≡ b.p.entries) × (a.child.0 ≡ b.child.0))). let e : edge_made a.kind.0 a.p.entries a.child.0 ≡ edge_made b.kind.0 b.p.entries b.child.0 = cc (h.0, h.1.0, h.1.1) in e)
    (λ (h : a ≡ b). (ap (λ (e : EdgeTo). e.kind.0) h, (ap (λ (e : EdgeTo). e.p.entries) h, ap (λ (e : EdgeTo). e.child.0) h))) both

edges-Decides : (xs ys : List EdgeTo) (r : Bool) → r ≡ pointwise eq-value.it xs ys → Decides r (xs ≡ ys)
edges-Decides = slice_eq-Decides EdgeTo-Decides

abbrev shape_made : List ℕ → List EdgeTo → Shape
shape_made n es = record { n = n; edges = es }

pub Node-Decides : (a b : Node) → Decides (node-eq.it a b) (shape_of a ≡ shape_of b)
Node-Decides a b =
    let both = Decides-and _ _ (bytes_eq-Decides a.n.entries b.n.entries) (edges-Decides a.edges.now b.edges.now (pointwise eq-value.it a.edges.now b.edges.now) refl) in
    Decides-like _
    (λ (h : (a.n.entries ≡ b.n.entries) × (a.edges.now ≡ b.edges.now)). let e : shape_made a.n.entries a.edges.now ≡ shape_made b.n.entries b.edges.now = cc (h.0, h.1) in e)
    (λ (h : shape_of a ≡ shape_of b). (ap (λ (s : Shape). s.n) h, ap (λ (s : Shape). s.edges) h)) both

abbrev id_made : ℕ → TreeId
id_made i = record { 0 = i }

pub TreeId-Decides : (a b : TreeId) → Decides (id-eq.it a b) (a ≡ b)
TreeId-Decides a b = Decides-like _ (λ (h : a.0 ≡ b.0). let e : id_made a.0 ≡ id_made b.0 = cc in e) (λ (h : a ≡ b). ap (λ (i : TreeId). i.0) h) (Decides-eqb a.0 b.0)

numbers-injective : (xs ys : List TreeId) → numbers xs ≡ numbers ys → xs ≡ ys
numbers-injective [] [] h = refl
numbers-injective [] (y ∷ ys) h = absurd cc
numbers-injective (x ∷ xs) [] h = absurd cc
numbers-injective (x ∷ xs) (y ∷ ys) h =
    let first : x.0 ≡ y.0 = cc in
    let rest : numbers xs ≡ numbers ys = cc in
    let head : id_made x.0 ≡ id_made y.0 = cc in
    let tails = numbers-injective xs ys rest in
    ap (λ (z : TreeId). z ∷ xs) head ∙ ap (λ (zs : List TreeId). y ∷ zs) tails

pub Forest-Decides : (f g : Forest) → Decides (forest-eq.it f g) (numbers_of f ≡ numbers_of g)
Forest-Decides f g =
    Decides-like _ (λ (h : f.trees.now ≡ g.trees.now). ap numbers h) (λ (h : numbers_of f ≡ numbers_of g). numbers-injective f.trees.now g.trees.now h)
    (slice_eq-Decides TreeId-Decides f.trees.now g.trees.now (pointwise id-eq.it f.trees.now g.trees.now) refl)
