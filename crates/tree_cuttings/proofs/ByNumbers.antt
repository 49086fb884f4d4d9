-- Cuttings by numbers: words for the proofs, and the rows of a cutting that is read down the tree.
use Rattle.std.proofs.Common.{ℕ, ◌+◌, ◌*◌, ◌==◌, Bool, cond, not, ◌&&◌, ◌||◌, List, [], ◌∷◌, ◌++◌, map, filter}
use Rattle.std.specs.List.{list_all}
use Rattle.exact_sums.specs.Sums.{product_over}
use Rattle.degree_numbers.specs.Multi.{is_zero, plus_of}
use Rattle.plain_trees.specs.Plain.{Plain}
use Rattle.plain_trees.specs.Multinomials.{plus_all, multinomial_of}
use Rattle.plain_trees.specs.Flat.{Link, tree_at}
use Rattle.plain_trees.specs.Cutting.{Marked, Cutting, is_touched, base, inner_link}
use Rattle.tree_cuttings.specs.CutTree.{CutTree, node, edge, taken_of, left_of}

abbrev pub is_numbered_cut : Bool → Cutting → Bool
is_numbered_cut forced x =
    (is_touched forced x.edges 0 || is_zero x.taken)
    && list_all (λ e. (is_touched forced x.edges e.number || is_zero e.taken) && ((is_touched forced x.edges e.parent && not e.inside) || is_zero e.shift)) x.edges

abbrev pub parts_of : List Marked → ℕ → List ℕ → List (List ℕ)
parts_of es j a = map (λ e. e.shift) (filter (λ e. (e.parent == j) && not e.inside) es) ++ a ∷ []

abbrev pub lefts_of : Cutting → ℕ → List (List ℕ)
lefts_of x r = cond (0 == r) (x.left ∷ []) [] ++ map (λ e. e.left) (filter (λ e. base x.edges e.number == r) x.edges)

abbrev pub numbered_component : Cutting → ℕ → List ℕ → Plain
numbered_component x r a = tree_at r (plus_all (parts_of x.edges r a)) (map (inner_link x.edges) (filter (λ e. e.inside) x.edges))

abbrev pub numbered_components : Bool → Cutting → List Plain
numbered_components forced x =
    cond (is_touched forced x.edges 0) (numbered_component x 0 x.taken ∷ []) []
    ++ map (λ e. numbered_component x e.number e.taken) (filter (λ e. is_touched forced x.edges e.number && not e.inside) x.edges)

abbrev pub outer_of : Cutting → Marked → Link
outer_of x e = record { number = e.number; parent = base x.edges e.parent; kind = e.kind; p = plus_of e.p e.shift; n = plus_all (lefts_of x e.number) }

abbrev pub numbered_quotient : Cutting → Plain
numbered_quotient x = tree_at 0 (plus_all (lefts_of x 0)) (map (outer_of x) (filter (λ e. not e.inside) x.edges))

abbrev pub numbered_coefficient : Cutting → ℕ
numbered_coefficient x =
    multinomial_of (parts_of x.edges 0 x.taken) * multinomial_of (lefts_of x 0)
    * product_over (λ e. multinomial_of (parts_of x.edges e.number e.taken) * cond e.inside 1 (multinomial_of (lefts_of x e.number))) x.edges

-- a cutting that is read down the tree, by numbers
abbrev pub cut_size : CutTree → ℕ
cut_size (node a l) = 0
cut_size (edge b s k p c r) = 1 + cut_size c + cut_size r

abbrev pub rows_from : ℕ → ℕ → CutTree → List Marked
rows_from r next (node a l) = []
rows_from r next (edge b s k p c m) =
    record { number = next; parent = r; kind = k; p = p; inside = b; shift = s; taken = taken_of c; left = left_of c }
    ∷ (rows_from next (1 + next) c ++ rows_from r (1 + next + cut_size c) m)

abbrev pub flat_of : CutTree → Cutting
flat_of m = record { taken = taken_of m; left = left_of m; edges = rows_from 0 1 m }
