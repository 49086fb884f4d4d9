-- The drawings of a canonical tree as ordered trees, and how many there are.
use Rattle.std.proofs.Common.{◌≡◌, ℕ, zero, suc, ◌*◌, ◌<◌, List, [], ◌∷◌, length, map, flat_map, refl, sym, ap, subst, ◌∙◌, inl, inr, arith}
use Rattle.std.proofs.lemmas.List.{length-map}
use Rattle.exact_sums.specs.Sums.{total}
use Rattle.exact_sums.proofs.SumLaws.{total-scale}
use Rattle.multiplicities.specs.Distinct.{distinct_by, AreDistinct}
use Rattle.exact_sums.specs.Binomials.{factorial}
use Rattle.multiplicities.proofs.DistinctLists.{distinct_map, distinct_flat_map, length-flat_map, from_distinct, in_distinct, distinct_distinct, distinct_length}
use Rattle.multiplicities.proofs.Grouping.{total_multiplicities}
use Rattle.ordered_lists.specs.Members.{IsIn}
use Rattle.ordered_lists.specs.Subs.{count_of}
use Rattle.ordered_lists.proofs.Members.{in_map, from_map, in_flat_map, from_flat_map}
use Rattle.plain_trees.specs.Plain.{Plain, bare, graft, edge_count_of}
use Rattle.plain_trees.specs.Canon.{Planted, planted_order, with_edge, canon, IsCanonical}
use Rattle.plain_trees.proofs.CanonLaws.{planted_total, planted_exact}
use Rattle.elementary_diff.specs.Symmetry.{root_edge, root_edges, symmetry_of}
use Rattle.elementary_diff.specs.Orders.{factorials_above, node_factorials, AreDrawings}
use Rattle.elementary_diff.proofs.RootEdges.{without, with-without, without-with, in-with, without-canonical, child-canonical, length-without, edge_count-without, factorials-without, symmetry-without}

-- each of the trees cs above one edge of the type of e, in front of the root edges of each of the
-- trees ts
abbrev grafts : Planted → List Plain → List Plain → List Plain
grafts e cs ts = flat_map (λ c. map (λ t. graft e.kind e.p c t) ts) cs

-- the drawings in which a drawing of e comes first
abbrev first_drawn : (Plain → List Plain) → Plain → Planted → List Plain
first_drawn r t e = grafts e (r e.child) (r (without e t))

-- the drawings of a tree with fewer than n edges
abbrev drawings_by : ℕ → Plain → List Plain
drawings_by zero t = []
drawings_by (suc n) (bare m) = bare m ∷ []
drawings_by (suc n) (graft k p c t) = flat_map (first_drawn (drawings_by n) (graft k p c t)) (distinct_by planted_order (root_edges (graft k p c t)))

-- what stands among grafts
record Graft (e : Planted) (cs ts : List Plain) (s : Plain) : Type 0 where
  child : Plain
  rest : Plain
  child_in : IsIn child cs
  rest_in : IsIn rest ts
  is : graft e.kind e.p child rest ≡ s

from_grafts : (e : Planted) (cs ts : List Plain) (s : Plain) → IsIn s (grafts e cs ts) → Graft e cs ts s
from_grafts e cs ts s h =
    let f = from_flat_map (λ c. map (λ t. graft e.kind e.p c t) ts) s cs h in
    let g = from_map (λ t. graft e.kind e.p f.0 t) s ts f.2 in
    record { child = f.0; rest = g.0; child_in = f.1; rest_in = g.1; is = g.2 }

in_grafts : (e : Planted) (cs ts : List Plain) (c t : Plain) → IsIn c cs → IsIn t ts → IsIn (graft e.kind e.p c t) (grafts e cs ts)
in_grafts e cs ts c t h k = in_flat_map (λ c. map (λ t. graft e.kind e.p c t) ts) (graft e.kind e.p c t) c cs h (in_map (λ t. graft e.kind e.p c t) t ts k)

-- each is one
pub drawing_is : (n : ℕ) (t s : Plain) → IsCanonical t → IsIn s (drawings_by n t) → canon s ≡ t
drawing_is zero t s h k = absurd k
drawing_is (suc n) (bare m) s h k = elim k [ inl e ↦ subst (λ (u : Plain). canon u ≡ bare m) e refl | inr r ↦ absurd r ]
drawing_is (suc n) (graft l q d u) s h k =
    let t = graft l q d u in
    let f = from_flat_map (first_drawn (drawings_by n) t) s (distinct_by planted_order (root_edges t)) k in
    let e = f.0 in
    let there = from_distinct planted_order planted_total planted_exact e (root_edges t) f.1 in
    let g = from_grafts e (drawings_by n e.child) (drawings_by n (without e t)) s f.2 in
    let above = drawing_is n e.child g.child (child-canonical e t h there) g.child_in in
    let beside = drawing_is n (without e t) g.rest (without-canonical e t h) g.rest_in in
    subst (λ (v : Plain). canon v ≡ t) g.is
    (ap (λ (c : Plain). with_edge (root_edge e.kind e.p c) (canon g.rest)) above ∙ ap (with_edge e) beside ∙ with-without e t h there)

-- all are there
in_drawings : (n : ℕ) (t : Plain) (e : Planted) (c u : Plain) → IsIn e (root_edges t) →
    IsIn c (drawings_by n e.child) → IsIn u (drawings_by n (without e t)) →
    IsIn (graft e.kind e.p c u) (drawings_by (suc n) t)
in_drawings n (bare m) e c u there above beside = absurd there
in_drawings n (graft l q d v) e c u there above beside =
    let t = graft l q d v in
    in_flat_map (first_drawn (drawings_by n) t) (graft e.kind e.p c u) e (distinct_by planted_order (root_edges t)) (in_distinct planted_order planted_total planted_exact e (root_edges t) there)
    (in_grafts e (drawings_by n e.child) (drawings_by n (without e t)) c u above beside)

pub drawing_there : (n : ℕ) (t s : Plain) → edge_count_of t < n → canon s ≡ t → IsIn s (drawings_by n t)
drawing_there zero t s h k = absurd (omega (arith, h))
drawing_there (suc n) t (bare m) h k = subst (λ (u : Plain). IsIn (bare m) (drawings_by (suc n) u)) k (inl refl)
drawing_there (suc n) t (graft l q d v) h k =
    let e = root_edge l q (canon d) in
    let there : IsIn e (root_edges t) = subst (λ (u : Plain). IsIn e (root_edges u)) k (in-with e (canon v)) in
    let rest : without e t ≡ canon v = ap (without e) (sym k) ∙ without-with e (canon v) in
    let fewer = edge_count-without e t there in
    in_drawings n t e d v there (drawing_there n e.child d (omega (arith, h, fewer)) refl) (drawing_there n (without e t) v (omega (arith, h, fewer)) (sym rest))

-- none is there twice
first_child : Plain → Plain
first_child (bare n) = bare n
first_child (graft k p c t) = c

rest_of : Plain → Plain
rest_of (bare n) = bare n
rest_of (graft k p c t) = t

first_edge : Plain → Planted
first_edge (bare n) = root_edge 0 [] (bare n)
first_edge (graft k p c t) = root_edge k p (canon c)

distinct_grafts : (e : Planted) (cs ts : List Plain) → AreDistinct cs → AreDistinct ts → AreDistinct (grafts e cs ts)
unfolding first_child rest_of
distinct_grafts e cs ts h k =
    distinct_flat_map (λ c. map (λ t. graft e.kind e.p c t) ts) first_child cs
    (λ c m. distinct_map (λ t. graft e.kind e.p c t) ts (λ t u q. ap rest_of q) k)
    (λ c s m g. let f = from_map (λ t. graft e.kind e.p c t) s ts g in ap first_child (sym f.2)) h

pub drawings_distinct : (n : ℕ) (t : Plain) → IsCanonical t → AreDistinct (drawings_by n t)
unfolding first_edge
drawings_distinct zero t h = tt
drawings_distinct (suc n) (bare m) h = ((λ k. k), tt)
drawings_distinct (suc n) (graft l q d u) h =
    let t = graft l q d u in
    let there : (e : Planted) → IsIn e (distinct_by planted_order (root_edges t)) → IsIn e (root_edges t) = λ e k. from_distinct planted_order planted_total planted_exact e (root_edges t) k in
    distinct_flat_map (first_drawn (drawings_by n) t) first_edge (distinct_by planted_order (root_edges t))
    (λ e k. distinct_grafts e (drawings_by n e.child) (drawings_by n (without e t)) (drawings_distinct n e.child (child-canonical e t h (there e k))) (drawings_distinct n (without e t) (without-canonical e t h)))
    (λ e s k m. let g = from_grafts e (drawings_by n e.child) (drawings_by n (without e t)) s m in
    ap first_edge (sym g.is) ∙ ap (λ (c : Plain). root_edge e.kind e.p c) (drawing_is n e.child g.child (child-canonical e t h (there e k)) g.child_in))
    (distinct_distinct planted_order planted_total planted_exact (root_edges t))

-- how many there are
total-same : {X : Type 0} (f g : X → ℕ) (xs : List X) → ((x : X) → IsIn x xs → f x ≡ g x) → total f xs ≡ total g xs
total-same f g [] h = refl
total-same f g (x ∷ xs) h = omega (arith, h x (inl refl), total-same f g xs (λ y k. h y (inr k)))

total-constant : {X : Type 0} (k : ℕ) (xs : List X) → total (λ x. k) xs ≡ length xs * k
total-constant k [] = omega arith
total-constant k (x ∷ xs) = omega (arith, total-constant k xs)

total-multiple : {X : Type 0} (f : X → ℕ) (k : ℕ) (xs : List X) → total (λ x. f x * k) xs ≡ total f xs * k
total-multiple f k [] = omega arith
total-multiple f k (x ∷ xs) = omega (arith, total-multiple f k xs)

length-grafts : (e : Planted) (cs ts : List Plain) → length (grafts e cs ts) ≡ length cs * length ts
length-grafts e cs ts =
    length-flat_map (λ c. map (λ t. graft e.kind e.p c t) ts) cs
    ∙ total-same (λ c. length (map (λ t. graft e.kind e.p c t) ts)) (λ c. length ts) cs (λ c h. length-map ts (λ t. graft e.kind e.p c t))
    ∙ total-constant (length ts) cs

product_step : (s c b w x y F m g G : ℕ) → s ≡ c * b * w → c * x ≡ F → w * y ≡ m * g → G ≡ F * g → s * (x * y) ≡ b * (m * G)
product_step s c b w x y F m g G hs hc hw hg =
    let one : c * x * (w * y) ≡ F * (m * g) = ap (λ (n : ℕ). n * (w * y)) hc ∙ ap (λ (n : ℕ). F * n) hw in
    let two : b * (c * x * (w * y)) ≡ b * (F * (m * g)) = ap (λ (n : ℕ). b * n) one in
    rw (hs, hg) (omega (arith, two))

pub ordering : (n : ℕ) (t : Plain) → edge_count_of t < n → symmetry_of t * length (drawings_by n t) ≡ node_factorials t
unfolding factorial
ordering zero t h = absurd (omega (arith, h))
ordering (suc n) (bare m) h = refl
ordering (suc n) (graft l q d u) h =
    let t = graft l q d u in
    let es = root_edges t in
    let ds = distinct_by planted_order es in
    let K = factorial (length (root_edges u)) * factorials_above t in
    let term : (e : Planted) → IsIn e ds → symmetry_of t * length (first_drawn (drawings_by n) t e) ≡ count_of planted_order e es * K =
    λ e k.
    let there = from_distinct planted_order planted_total planted_exact e es k in
    let fewer = edge_count-without e t there in
    let many : length (root_edges (without e t)) ≡ length (root_edges u) = omega (arith, length-without e t there) in
    ap (λ (i : ℕ). symmetry_of t * i) (length-grafts e (drawings_by n e.child) (drawings_by n (without e t)))
    ∙ product_step (symmetry_of t) (symmetry_of e.child) (count_of planted_order e es) (symmetry_of (without e t)) (length (drawings_by n e.child)) (length (drawings_by n (without e t))) (node_factorials e.child) (factorial (length (root_edges u))) (factorials_above (without e t)) (factorials_above t)
    (symmetry-without e t there) (ordering n e.child (omega (arith, h, fewer))) (ordering n (without e t) (omega (arith, h, fewer)) ∙ ap (λ (i : ℕ). factorial i * factorials_above (without e t)) many) (factorials-without e t there)
    in
    ap (λ (i : ℕ). symmetry_of t * i) (length-flat_map (first_drawn (drawings_by n) t) ds)
    ∙ sym (total-scale (symmetry_of t) (λ e. length (first_drawn (drawings_by n) t e)) ds)
    ∙ total-same (λ e. symmetry_of t * length (first_drawn (drawings_by n) t e)) (λ e. count_of planted_order e es * K) ds term
    ∙ total-multiple (λ e. count_of planted_order e es) K ds
    ∙ ap (λ (i : ℕ). i * K) (total_multiplicities planted_order planted_total planted_exact es)
    ∙ omega arith

abbrev drawings : Plain → List Plain
drawings t = drawings_by (suc (edge_count_of t)) t

pub are_drawings : (t : Plain) → IsCanonical t → (ss : List Plain) × AreDrawings t ss
are_drawings t h =
    (drawings t, record { all = λ s. (drawing_there (suc (edge_count_of t)) t s (omega arith), drawing_is (suc (edge_count_of t)) t s h); distinct = drawings_distinct (suc (edge_count_of t)) t h })

pub ordering_of : (t : Plain) (ss : List Plain) → IsCanonical t → AreDrawings t ss → symmetry_of t * length ss ≡ node_factorials t
unfolding are_drawings
ordering_of t ss h d =
    let own = (are_drawings t h).1 in
    let fewer = distinct_length ss (drawings t) d.distinct (λ s k. (own.all s).0 ((d.all s).1 k)) in
    let more = distinct_length (drawings t) ss own.distinct (λ s k. (d.all s).0 ((own.all s).1 k)) in
    let long : length ss ≡ length (drawings t) = omega (arith, fewer, more) in
    rw long (ordering (suc (edge_count_of t)) t (omega arith))
