-- The products of lines at one more edge.
--   is_low ty most t == the standard part of the degree of t is at most `most`
--   low_terms ty most ts == the terms with a low part
--   kept_terms ty most ts == the same with the values of their coefficients
--   inside_term, beside_term == the product of two terms
--   raised_open s y == y with its part raised by s
--   raised_term s t == the same of a term, with the binomial of s and of what is taken at the root
--       so far in its coefficient
--   over k p x y == one more edge at the root of y, outside the set, with the components and the
--       quotient x above it, where the part and the edge are raised already
--   over_term k p x y == the product of two terms over such an edge
--   touched_products e ss above closed touched == all products over the edge of e: in the set, or
--       outside it with each of the shifts ss
--   seed n a == of the tree with one node of decoration n: the part a is taken
--   IsPart ty n a == a is at most n; it and what it leaves are small multiindices
--   HoldsForest g i ts == the forest with the number i is ts
--   CanHold ty t == t is small and of the types ty
--   IsEdgeStep ty e == the step e is over an edge of the types ty, with a small decoration
--   IsOpenFit ty x == the part and the quotient of x are small and of the types ty
--   IsInsideFit, IsOutsideFit, IsBesideFit == so is what two terms give together; it is known only
--       where the part is low
--   IsRaisedFit ty e s y == the part of y, raised by s, is small and of the types ty, where it is
--       low
--   IsOverFit ty k p x y == so is the quotient of what x and y give over an edge
--   AreInsideFit, AreOutsideFit, AreBesideFit, AreOverFit == so it is with each pair of some lines
use Rattle.std.specs.Prelude.{◌≡◌, ◌<◌, ◌≤◌, ◌*◌, ℕ, ℤ, Bool, true, not, List, [], ◌++◌, length, filter, flat_map, sum}
use Rattle.std.specs.List.{AllByRecursion}
use Rattle.std.specs.Ordering.{int_cmp, is_gt}
use Rattle.exact_sums.specs.Keyed.{saturated_terms, products}
use Rattle.degree_numbers.specs.declared.types.Types.{Types}
use Rattle.degree_numbers.specs.declared.multi.Multi.{Multi}
use Rattle.degree_numbers.specs.Multi.{minus_of, plus_of, IsAtMost, IsMultiIndex}
use Rattle.plain_trees.specs.Plain.{Plain, bare, graft, root_of, IsSmall}
use Rattle.plain_trees.specs.Canon.{canon}
use Rattle.plain_trees.specs.Degree.{degree_of, HasTypes}
use Rattle.plain_trees.specs.Joined.{raised}
use Rattle.plain_trees.specs.Multinomials.{choose}
use Rattle.plain_trees.specs.Coproducts.{Extracted, canon_forest}
use Rattle.cutting_tables.specs.Keys.{Opened, inside, inside_factor, outside, outside_factor, beside}
use Rattle.pooled_cuttings.specs.declared.keys.OpenKey.{OpenKey}
use Rattle.pooled_cuttings.specs.declared.keys.ExtractKey.{ExtractKey}
use Rattle.pooled_cuttings.specs.declared.steps.EdgeStep.{EdgeStep}
use Rattle.pooled_cuttings.specs.Groves.{GroveContent, forest_in}
use Rattle.pooled_cuttings.specs.Lines.{opened_in, extracted_in}

abbrev pub is_low : Types → ℤ → Plain → Bool
is_low ty most t = not (is_gt (int_cmp (degree_of ty t).a most))

abbrev pub low_terms : Types → ℤ → List (Opened × ℕ) → List (Opened × ℕ)
low_terms ty most ts = filter (λ e. is_low ty most e.0.part) ts

abbrev pub kept_terms : Types → ℤ → List (Opened × ℕ) → List (Opened × ℕ)
kept_terms ty most ts = saturated_terms (low_terms ty most ts)

abbrev pub inside_term : EdgeStep → Opened × ℕ → Opened × ℕ → Opened × ℕ
inside_term e x y =
    (inside e.kind.0 e.p.entries x.0 y.0, x.1 * (inside_factor x.0 y.0 * y.1))

abbrev pub raised_open : List ℕ → Opened → Opened
raised_open s y = record { above = y.above; part = raised s y.part; quotient = y.quotient }

abbrev pub raised_term : List ℕ → Opened × ℕ → Opened × ℕ
raised_term s t = (raised_open s t.0, choose (plus_of s (root_of t.0.part)) s * t.1)

abbrev pub over : ℕ → List ℕ → Extracted → Opened → Opened
over k p x y =
    record {
      above = canon_forest (x.0 ++ y.above);
      part = y.part;
      quotient = canon (graft k p x.1 y.quotient);
    }

abbrev pub over_term : ℕ → List ℕ → Extracted × ℕ → Opened × ℕ → Opened × ℕ
over_term k p x y = (over k p x.0 y.0, x.1 * (1 * y.1))

abbrev pub beside_term : EdgeStep → Extracted × ℕ → Extracted × ℕ → Extracted × ℕ
beside_term e x y = (beside e.kind.0 e.p.entries x.0 y.0, x.1 * (1 * y.1))

abbrev pub touched_products : EdgeStep → List (List ℕ) → List (Opened × ℕ) →
    List (Extracted × ℕ) → List (Opened × ℕ) → List (Opened × ℕ)
touched_products e ss above closed touched =
    products inside_factor (inside e.kind.0 e.p.entries) above touched
    ++ flat_map
    (λ s. products (outside_factor s) (outside s e.kind.0 e.p.entries) closed touched) ss

abbrev pub seed : List ℕ → List ℕ → Opened × ℕ
seed n a = (record { above = []; part = bare a; quotient = bare (minus_of n a) }, 1)

pub record IsPart (ty : Types) (n a : List ℕ) : Type 0 where
  pub taken : IsMultiIndex ty.dims a
  pub left : IsMultiIndex ty.dims (minus_of n a)
  pub most : IsAtMost a n
  pub taken_small : sum a ≤ 4096
  pub left_small : sum (minus_of n a) ≤ 4096

pub record HoldsForest (g : GroveContent) (i : ℕ) (ts : List Plain) : Type 0 where
  pub known : i < length g.forests
  pub trees : forest_in g i ≡ ts

pub record CanHold (ty : Types) (t : Plain) : Type 0 where
  pub types : HasTypes ty t
  pub small : IsSmall t

pub record IsEdgeStep (ty : Types) (e : EdgeStep) : Type 0 where
  pub known : e.kind.0 < length ty.list
  pub small : sum e.p.entries ≤ 4096

pub record IsOpenFit (ty : Types) (x : Opened) : Type 0 where
  pub part : CanHold ty x.part
  pub quotient : CanHold ty x.quotient

abbrev pub IsInsideFit : Types → EdgeStep → Opened → Opened → Type 0
IsInsideFit ty e x y =
    is_low ty e.most (inside e.kind.0 e.p.entries x y).part ≡ true →
    IsOpenFit ty (inside e.kind.0 e.p.entries x y)

abbrev pub IsOutsideFit : Types → EdgeStep → List ℕ → Extracted → Opened → Type 0
IsOutsideFit ty e s x y =
    is_low ty e.most (outside s e.kind.0 e.p.entries x y).part ≡ true →
    IsOpenFit ty (outside s e.kind.0 e.p.entries x y)

abbrev pub IsBesideFit : Types → EdgeStep → Extracted → Extracted → Type 0
IsBesideFit ty e x y = CanHold ty (beside e.kind.0 e.p.entries x y).1

abbrev pub IsRaisedFit : Types → EdgeStep → List ℕ → Opened → Type 0
IsRaisedFit ty e s y = is_low ty e.most (raised s y.part) ≡ true → CanHold ty (raised s y.part)

abbrev pub IsOverFit : Types → ℕ → List ℕ → Extracted → Opened → Type 0
IsOverFit ty k p x y = CanHold ty (over k p x y).quotient

abbrev pub AreInsideFit : GroveContent → EdgeStep → List (OpenKey × ℕ) → List (OpenKey × ℕ) →
    Type 0
AreInsideFit g e xs ys =
    AllByRecursion
    (λ x. AllByRecursion
    (λ y. IsInsideFit g.pool.types e (opened_in g x.0) (opened_in g y.0)) ys) xs

abbrev pub AreOutsideFit : GroveContent → EdgeStep → List ℕ → List (ExtractKey × ℕ) →
    List (OpenKey × ℕ) → Type 0
AreOutsideFit g e s xs ys =
    AllByRecursion
    (λ x. AllByRecursion
    (λ y. IsOutsideFit g.pool.types e s (extracted_in g x.0) (opened_in g y.0)) ys) xs

abbrev pub AreBesideFit : GroveContent → EdgeStep → List (ExtractKey × ℕ) →
    List (ExtractKey × ℕ) → Type 0
AreBesideFit g e xs ys =
    AllByRecursion
    (λ x. AllByRecursion
    (λ y. IsBesideFit g.pool.types e (extracted_in g x.0) (extracted_in g y.0)) ys) xs

abbrev pub AreOverFit : GroveContent → ℕ → List ℕ → List (ExtractKey × ℕ) →
    List (OpenKey × ℕ) → Type 0
AreOverFit g k p xs ys =
    AllByRecursion
    (λ x. AllByRecursion
    (λ y. IsOverFit g.pool.types k p (extracted_in g x.0) (opened_in g y.0)) ys) xs
