-- The products of lines of recentring at one more edge.
--   IsRightFit ty x == both trees of x are small and of the types ty
--   IsRightEdge c e == the edge e is of the types of the pool, has a small decoration, and leads to
--       a tree that is there
--   left_product e x y == of two pairs: the edge e is one of the left tree
--   right_product e c s y == of a pair: the edge e, raised by s, leaves the right tree, with the
--       whole tree c above it
--   right_seed n a == of the tree with one node of decoration n: the part a stays in the left tree
--   left_terms e xs ys == all products of the first kind
--   right_terms e c ss ys == all products of the second kind with the shifts ss
--   AreLeftFit c e xs ys, AreRightFit c e s ys == what the lines give together is small
--   branch_of c e == the degree of the edge e and of the tree above it together
--   lowered ty d s == the degree d less the scaled size of the shift s
--   IsRightShifts c e ss == for some ample bound, ss are the shifts within it that leave the branch
--       of e a degree above 0
use Rattle.std.specs.Prelude.{◌≡◌, ◌≤◌, ◌<◌, ◌*◌, ◌-ℤ◌, ◌<ℤ◌, ℕ, suc, pos, unsigned_abs, List, length, flat_map, sum}
use Rattle.std.specs.List.{AllByRecursion}
use Rattle.exact_sums.specs.Keyed.{products, products_with}
use Rattle.degree_numbers.specs.declared.types.Types.{Types}
use Rattle.degree_numbers.specs.declared.degree.Degree.{Degree}
use Rattle.degree_numbers.specs.Degree.{degree_plus}
use Rattle.degree_numbers.specs.Types.{size_in_units}
use Rattle.degree_numbers.specs.Multi.{minus_of}
use Rattle.plain_trees.specs.Plain.{Plain, bare}
use Rattle.plain_trees.specs.Degree.{edge_degree_of, degree_of}
use Rattle.plain_trees.specs.Coproducts.{Recentred, each_direction}
use Rattle.tree_pool.specs.declared.node.EdgeTo.{EdgeTo}
use Rattle.tree_pool.specs.Content.{Content, tree_at}
use Rattle.cutting_sizes.specs.Bounds.{most_shift}
use Rattle.cutting_tables.specs.Tables.{right_shifts}
use Rattle.cutting_tables.specs.Keys.{left_inside, left_factor, right_outside, right_factor}
use Rattle.pooled_cuttings.specs.declared.keys.RightKey.{RightKey}
use Rattle.pooled_cuttings.specs.Lines.{recentred_in}
use Rattle.pooled_cuttings.specs.Products.{CanHold}

pub record IsRightFit (ty : Types) (x : Recentred) : Type 0 where
  pub left : CanHold ty x.0
  pub right : CanHold ty x.1

pub record IsRightEdge (c : Content) (e : EdgeTo) : Type 0 where
  pub kind : e.kind.0 < length c.types.list
  pub small : sum e.p.entries ≤ 4096
  pub child : e.child.0 < length c.trees

abbrev pub left_product : EdgeTo → Recentred → Recentred → Recentred
left_product e x y = left_inside e.kind.0 e.p.entries x y

abbrev pub right_product : EdgeTo → Plain → List ℕ → Recentred → Recentred
right_product e c s y = right_outside s e.kind.0 e.p.entries c y

abbrev pub right_seed : List ℕ → List ℕ → Recentred × ℕ
right_seed n a = ((bare a, bare (minus_of n a)), 1)

abbrev pub left_terms : EdgeTo → List (Recentred × ℕ) → List (Recentred × ℕ) → List (Recentred × ℕ)
left_terms e xs ys = products left_factor (left_inside e.kind.0 e.p.entries) xs ys

abbrev pub right_terms : EdgeTo → Plain → List (List ℕ) → List (Recentred × ℕ) →
    List (Recentred × ℕ)
right_terms e c ss ys =
    flat_map (λ s. products_with (right_factor s) (right_outside s e.kind.0 e.p.entries) c ys) ss

abbrev pub AreLeftFit : Content → EdgeTo → List (RightKey × ℕ) → List (RightKey × ℕ) → Type 0
AreLeftFit c e xs ys =
    AllByRecursion
    (λ x. AllByRecursion
    (λ y. IsRightFit c.types (left_product e (recentred_in c x.0) (recentred_in c y.0))) ys) xs

abbrev pub AreRightFit : Content → EdgeTo → List ℕ → List (RightKey × ℕ) → Type 0
AreRightFit c e s ys =
    AllByRecursion
    (λ y. IsRightFit c.types (right_product e (tree_at c e.child.0) s (recentred_in c y.0))) ys

abbrev pub branch_of : Content → EdgeTo → Degree
branch_of c e =
    degree_plus (edge_degree_of c.types e.kind.0 e.p.entries)
    (degree_of c.types (tree_at c e.child.0))

abbrev pub lowered : Types → Degree → List ℕ → Degree
lowered ty d s = record { a = d.a -ℤ pos (size_in_units ty s); b = d.b }

pub record IsRightShifts (c : Content) (e : EdgeTo) (ss : List (List ℕ)) : Type 0 where
  pub most : ℕ
  pub within : most ≤ most_shift
  pub ample : (branch_of c e).a <ℤ pos (unsigned_abs c.types.units.den * suc most)
  pub shifts :
      ss ≡ right_shifts c.types (each_direction c.types.dims most) e.kind.0 e.p.entries
      (tree_at c e.child.0)
