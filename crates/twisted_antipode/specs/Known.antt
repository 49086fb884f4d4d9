-- What is known of the values of trees, by the numbers of the trees, while values of more trees are
-- asked.
--   first_held hs i == the first value of hs for the number i
--   IsWellHeld c h == the number is that of a tree of the pool, and the value is a polynomial with
--       a mass in range
--   AreWellHeld c hs == so is each of hs
--   IsGood reading c hs a == the function a has the values hs, up to the order of their terms; no
--       mass passes the overflow; at each other tree it solves the recursion
--   IsValueIn reading c hs t v == v stands for the value that each such function gives the tree t
--   IsKnownMore reading c d hs ks == ks holds what hs holds, and besides it only values of such
--       functions
--   IsHeldAs hs i v == v stands for the first value of hs for the number i
--   IsHeldWith hs ks i v == ks is hs with a polynomial that v is, for the number i for which
--       nothing was held
--   pairs_in g es == the terms es, as forests and quotients with their coefficients
--   other_pairs t xs == the terms xs without that of the whole tree t
--   part_value reading ty a xs == the part of the right side of the recursion that the terms xs
--       make
--   IsPartIn c t i == the tree with the number i is bounded and smaller than t
--   AreParts c t is == so is each with a number in is
--   IsRun g xs f es == es are some of the terms xs, all with the forest f
--   IsRunOf g xs es == the same, with the forest of the first of them
--   rank t == what falls from a tree to the trees of its forests
use Rattle.std.specs.Prelude.{◌≡◌, ◌≤◌, ◌<◌, ◌⊎◌, ◌+◌, ◌*◌, ◌==◌, ℕ, not, pos, if◌then◌else◌, unsigned_abs, List, [], ◌∷◌, map, filter, length, get_or, Option, Some, None}
use Rattle.std.specs.List.{AllByRecursion}
use Rattle.std.specs.Ordering.{is_eq}
use Rattle.exact_sums.specs.Saturating.{overflow}
use Rattle.ordered_lists.specs.Members.{IsIn}
use Rattle.degree_numbers.specs.declared.types.Types.{Types}
use Rattle.plain_trees.specs.Plain.{Plain, edge_count_of}
use Rattle.plain_trees.specs.Canon.{canon}
use Rattle.plain_trees.specs.Degree.{HasTypes, empty_tree}
use Rattle.plain_trees.specs.Coproducts.{Extracted, extracted_order}
use Rattle.tree_pool.specs.Content.{Content, tree_at}
use Rattle.cutting_sizes.specs.Bounds.{IsBounded, IsSmaller}
use Rattle.cutting_sizes.specs.Sizes.{node_sum}
use Rattle.pooled_cuttings.specs.Groves.{GroveContent}
use Rattle.pooled_cuttings.specs.Lines.{extracted_in}
use Rattle.extraction_coproduct.specs.declared.term.ExtractTerm.{ExtractTerm}
use Rattle.extraction_coproduct.specs.Terms.{key_of}
use Rattle.symbol_polys.specs.Polynomials.{IsPolynomial}
use Rattle.antipode_laws.specs.Weighed.{Weighed, negated_sum, mass_sum}
use Rattle.antipode_laws.specs.Antipode.{value_at}
use Rattle.antipode_laws.specs.Sameness.{AreSameValues}
use Rattle.twisted_antipode.specs.declared.quotient.Reading.{Reading}
use Rattle.twisted_antipode.specs.declared.value.Value.{Value}
use Rattle.twisted_antipode.specs.Quotients.{quotient_terms}
use Rattle.twisted_antipode.specs.RunTerms.{IsCoefficient}
use Rattle.symbol_polys.specs.declared.poly.Poly.{Poly}
use Rattle.symbol_polys.specs.View.{IsPoly}
use Rattle.tree_pool.specs.declared.ForestId.{ForestId}
use Rattle.extraction_coproduct.specs.Terms.{AreKnownTerms}
use Rattle.twisted_antipode.specs.Values.{IsValueOf, IsPolyOf}
use Rattle.twisted_antipode.specs.Held.{Held, held_over, with_held, weighed_of}

abbrev pub first_held : List Held → ℕ → Option Weighed
first_held [] i = None
first_held (h ∷ hs) i = if i == h.0 then Some h.1 else first_held hs i

pub record IsWellHeld (c : Content) (h : Held) : Type 0 where
  pub known : h.0 < length c.trees
  pub polynomial : IsPolynomial (pos h.1.mass) h.1.terms
  pub range : h.1.mass < overflow

abbrev pub AreWellHeld : Content → List Held → Type 0
AreWellHeld c hs = AllByRecursion (IsWellHeld c) hs

pub record IsGood (reading : Reading) (c : Content) (hs : List Held) (a : Plain → Weighed) :
    Type 0 where
  pub entries :
      (t : Plain) (w : Weighed) → HasTypes c.types t → held_over c hs t ≡ Some w →
      AreSameValues w (a t)
  pub most : (t : Plain) → HasTypes c.types t → (a t).mass ≤ overflow
  pub solves :
      (t : Plain) → HasTypes c.types t → held_over c hs t ≡ None →
      a t ≡ value_at c.types (quotient_terms reading c.types) None a t

abbrev pub IsValueIn : Reading → Content → List Held → Plain → Value → Type 0
IsValueIn reading c hs t v = (a : Plain → Weighed) → IsGood reading c hs a → IsValueOf (a t) v

pub record IsKnownMore (reading : Reading) (c d : Content) (hs ks : List Held) : Type 0 where
  pub good : (a : Plain → Weighed) → IsGood reading c hs a → IsGood reading d ks a
  pub kept : (h : Held) → IsIn h hs → IsIn h ks
  pub added :
      (a : Plain → Weighed) → IsGood reading c hs a → (h : Held) → IsIn h ks →
      IsIn h hs ⊎ AreSameValues h.1 (a (tree_at d h.0))
  pub held : AreWellHeld d ks

abbrev pub pairs_in : GroveContent → List ExtractTerm → List (Extracted × ℕ)
pairs_in g = map (λ e. (extracted_in g (key_of e), unsigned_abs e.coefficient))

abbrev pub other_pairs : Plain → List (Extracted × ℕ) → List (Extracted × ℕ)
other_pairs t xs = filter (λ x. not (is_eq (extracted_order x.0 (canon t ∷ [], empty_tree)))) xs

abbrev pub part_value : Reading → Types → (Plain → Weighed) → List (Extracted × ℕ) → Weighed
part_value reading ty a xs = record {
  terms = negated_sum (quotient_terms reading ty) a xs;
  mass = mass_sum (quotient_terms reading ty) a xs;
}

pub record IsPartIn (c : Content) (t : Plain) (i : ℕ) : Type 0 where
  pub known : i < length c.trees
  pub bounded : IsBounded (tree_at c i)
  pub smaller : IsSmaller (tree_at c i) t

abbrev pub AreParts : Content → Plain → List ℕ → Type 0
AreParts c t is = AllByRecursion (IsPartIn c t) is

abbrev pub rank : Plain → ℕ
rank t = 1121 * edge_count_of t + node_sum t

pub record IsHeldAs (hs : List Held) (i : ℕ) (v : Value) : Type 0 where
  pub weighed : Weighed
  pub is : first_held hs i ≡ Some weighed
  pub value : IsValueOf weighed v

pub record IsHeldWith (hs ks : List Held) (i : ℕ) (v : Value) : Type 0 where
  pub poly : Poly
  pub lacking : first_held hs i ≡ None
  pub is : ks ≡ with_held hs i (weighed_of poly)
  pub well : IsPoly poly
  pub range : unsigned_abs poly.mass < overflow
  pub value : (w : Weighed) → w.mass ≤ overflow → IsValueOf w v → IsPolyOf w poly

pub record IsRun (g : GroveContent) (xs : List (Extracted × ℕ)) (f : ForestId)
    (es : List ExtractTerm) : Type 0 where
  pub known : AreKnownTerms g es
  pub numbers : AllByRecursion (λ e. IsCoefficient e.coefficient) es
  pub forest : AllByRecursion (λ e. e.forest ≡ f) es
  pub listed : AllByRecursion (λ x. IsIn x xs) (pairs_in g es)

pub record IsRunOf (g : GroveContent) (xs : List (Extracted × ℕ)) (es : List ExtractTerm) :
    Type 0 where
  pub some : 0 < length es
  pub forest : (d : ExtractTerm) → IsRun g xs (get_or es 0 d).forest es
