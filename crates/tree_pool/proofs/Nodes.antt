-- The nodes of a pool and their trees.
use Rattle.std.proofs.Common.{◌≡◌, ℕ, ◌<◌, List, [], ◌∷◌, ◌++◌, length, map, get_or, slice_get, Some, sym, ap, ◌∙◌, arith, inr}
use Rattle.std.specs.Option.{option_map}
use Rattle.std.proofs.lemmas.List.{get_or-map, length-map, map-append}
use Rattle.std.proofs.lemmas.Option.{slice_get_within, slice_get-map}
use Rattle.degree_numbers.specs.declared.types.Types.{Types}
use Rattle.plain_trees.specs.Plain.{Plain, bare}
use Rattle.tree_pool.specs.Content.{Content, tree_over, AreBelow, IsKept, IsPooled, IsGrownBy, Holds, tree_at}
use Rattle.tree_pool.specs.Nodes.{Shape, shape_of, shapes, tree_of_shape, made_trees, AreNodes, LacksShape, measure, AreMeasured, IsShapeAt, GainsShape}
use Rattle.tree_pool.specs.declared.node.EdgeTo.{EdgeTo}
use Rattle.tree_pool.specs.declared.node.Measures.{Measures}
use Rattle.tree_pool.specs.declared.node.Node.{Node}
use Rattle.tree_pool.proofs.Trees.{made_trees-at, trees_after-push, length-made_trees, length-shapes, AreNodes-push, slice_get-end, slice_get_some, children_among}

pub node_at : (nodes : List Node) (c : Content) (ty : Types) (i : ℕ) (x : Node) → record { types = ty; trees = made_trees (shapes nodes) } ≡ c → AreNodes ty (shapes nodes) → slice_get nodes i ≡ Some x →
    (slice_get c.trees i ≡ Some (tree_over c.trees x.n.entries x.edges.now)) × AreBelow i x.edges.now × IsKept c.types (tree_over c.trees x.n.entries x.edges.now)
node_at nodes c ty i x e pool at =
    let ts : made_trees (shapes nodes) ≡ c.trees = ap (λ (d : Content). d.trees) e in
    let same : ty ≡ c.types = ap (λ (d : Content). d.types) e in
    let there : slice_get (shapes nodes) i ≡ Some (shape_of x) = slice_get-map shape_of nodes i ∙ ap (option_map shape_of) at in
    let found = made_trees-at (shapes nodes) i (shape_of x) pool.made there in
    let keeps : IsKept ty (tree_over (made_trees (shapes nodes)) x.n.entries x.edges.now) = pool.kept i _ found.0 in
    rw (← ts, ← same) (found.0, found.1, keeps)

abbrev content : Types → List Node → Content
content ty nodes = record { types = ty; trees = made_trees (shapes nodes) }

pub tree_there : (nodes : List Node) (c : Content) (ty : Types) (i : ℕ) (n : List ℕ) (es : List EdgeTo) →
    content ty nodes ≡ c → AreNodes ty (shapes nodes) → IsShapeAt (shapes nodes) i n es →
    Holds c i (tree_over c.trees n es)
tree_there nodes c ty i n es e pool h = rw (ap (λ (d : Content). d.trees) e) at (made_trees-at (shapes nodes) i record { n = n; edges = es } pool.made h).0

pub trees_pushed : (nodes more : List Node) (ts : List Plain) (n : List ℕ) (es : List EdgeTo) →
    made_trees (shapes nodes) ≡ ts → GainsShape (shapes nodes) (shapes more) n es →
    made_trees (shapes more) ≡ ts ++ tree_over ts n es ∷ []
trees_pushed nodes more ts n es e gains = ap made_trees gains ∙ rw e at (trees_after-push [] (shapes nodes) record { n = n; edges = es })

pub pool_pushed : (nodes more : List Node) (c : Content) (ty : Types) (n : List ℕ) (es : List EdgeTo) →
    content ty nodes ≡ c → AreNodes ty (shapes nodes) → AreBelow (length c.trees) es →
    LacksShape (shapes nodes) n es → GainsShape (shapes nodes) (shapes more) n es → IsKept c.types (tree_over c.trees n es) → AreNodes ty (shapes more)
pool_pushed nodes more c ty n es e pool b lacks gains keeps =
    let ts : made_trees (shapes nodes) ≡ c.trees = ap (λ (d : Content). d.trees) e in
    let same : ty ≡ c.types = ap (λ (d : Content). d.types) e in
    let len : length c.trees ≡ length (shapes nodes) = ap length (sym ts) ∙ length-made_trees (shapes nodes) in
    rw gains (AreNodes-push ty (shapes nodes) n es pool (rw len at b) lacks (rw (ts, same) keeps))

pub pushed_holds : (nodes more : List Node) (c : Content) (ty : Types) (n : List ℕ) (es : List EdgeTo) (i : ℕ) →
    content ty nodes ≡ c → GainsShape (shapes nodes) (shapes more) n es → i ≡ length nodes →
    Holds (content ty more) i (tree_over c.trees n es)
pushed_holds nodes more c ty n es i e gains is =
    let ts : made_trees (shapes nodes) ≡ c.trees = ap (λ (d : Content). d.trees) e in
    let len : i ≡ length c.trees = is ∙ sym (length-shapes nodes) ∙ sym (length-made_trees (shapes nodes)) ∙ ap length ts in
    rw (trees_pushed nodes more c.trees n es ts gains, len) (slice_get-end c.trees (tree_over c.trees n es))

pub pushed_grown : (nodes more : List Node) (c : Content) (ty : Types) (n : List ℕ) (es : List EdgeTo) →
    content ty nodes ≡ c → GainsShape (shapes nodes) (shapes more) n es →
    IsGrownBy c (content ty more) (tree_over c.trees n es)
pushed_grown nodes more c ty n es e gains = record {
  types = ap (λ (d : Content). d.types) e;
  trees = inr (trees_pushed nodes more c.trees n es (ap (λ (d : Content). d.trees) e) gains);
}

-- the measures that are kept of a tree are its own
pub measures_at : (nodes : List Node) (ms : List Measures) (c : Content) (ty : Types) (i : ℕ) (m : Measures) →
    content ty nodes ≡ c → AreMeasured ty nodes ms → i < length c.trees → m ≡ get_or ms i m →
    m ≡ measure c.types (tree_at c i)
measures_at nodes ms c ty i m e measured h at =
    let ts : made_trees (shapes nodes) ≡ c.trees = ap (λ (d : Content). d.trees) e in
    let same : ty ≡ c.types = ap (λ (d : Content). d.types) e in
    let there : i < length (made_trees (shapes nodes)) = omega (arith, h, ap length ts) in
    let known : get_or (map (measure ty) (made_trees (shapes nodes))) i m ≡ measure ty (get_or (made_trees (shapes nodes)) i (bare [])) = get_or-map (measure ty) (made_trees (shapes nodes)) i (bare []) m there in
    let found : m ≡ measure ty (get_or (made_trees (shapes nodes)) i (bare [])) = at ∙ ap (λ (ks : List Measures). get_or ks i m) measured ∙ known in
    rw (ts, same) at found

-- there are as many as there are trees
pub length-measures : (nodes : List Node) (ms : List Measures) (c : Content) (ty : Types) →
    content ty nodes ≡ c → AreMeasured ty nodes ms → length ms ≡ length c.trees
length-measures nodes ms c ty e measured = ap length measured ∙ length-map (made_trees (shapes nodes)) (measure ty) ∙ ap (λ (d : Content). length d.trees) e

-- one more node, and the measures of its tree
pub measures_pushed : (nodes more : List Node) (ms ks : List Measures) (c : Content) (ty : Types) (n : List ℕ) (es : List EdgeTo) (m : Measures) →
    content ty nodes ≡ c → AreMeasured ty nodes ms →
    GainsShape (shapes nodes) (shapes more) n es → ks ≡ ms ++ m ∷ [] → m ≡ measure c.types (tree_over c.trees n es) → AreMeasured ty more ks
measures_pushed nodes more ms ks c ty n es m e measured gains kept is =
    let same : ty ≡ c.types = ap (λ (d : Content). d.types) e in
    let ts : made_trees (shapes nodes) ≡ c.trees = ap (λ (d : Content). d.trees) e in
    let t : Plain = tree_over c.trees n es in
    let before : ms ≡ map (measure ty) c.trees = measured ∙ ap (map (measure ty)) ts in
    let last : m ≡ measure ty t = is ∙ ap (λ (u : Types). measure u t) (sym same) in
    let both : ms ++ m ∷ [] ≡ map (measure ty) c.trees ++ measure ty t ∷ [] = ap (λ (ns : List Measures). ns ++ m ∷ []) before ∙ ap (λ (k : Measures). map (measure ty) c.trees ++ k ∷ []) last in
    kept ∙ both ∙ sym (map-append (measure ty) c.trees (t ∷ [])) ∙ ap (map (measure ty)) (sym (trees_pushed nodes more c.trees n es ts gains))

-- the nodes of a pool as its content
pub pooled : (ty : Types) (xs : List Shape) → AreNodes ty xs → IsPooled record { types = ty; trees = made_trees xs }
pooled ty xs nodes = record {
  types = nodes.types;
  distinct = nodes.distinct;
  kept = nodes.kept;
  children = λ i t h.
      let len = length-made_trees xs in
      let within : i < length (made_trees xs) = slice_get_within (made_trees xs) i t h in
      let node = slice_get_some xs i (omega (arith, within, len)) in
      let at = made_trees-at xs i node.0 nodes.made node.1 in
      let same : tree_of_shape (made_trees xs) node.0 ≡ t = cc (at.0, h) in
      rw (sym same) (children_among (made_trees xs) i node.0.n node.0.edges (omega (arith, within)) at.1);
}
