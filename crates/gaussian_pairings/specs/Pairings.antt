-- Pairings of the noise edges of a tree: what the expectation of a product of Gaussian variables
-- sums over (Isserlis).
--   numbered i gs == noise edges of the groups gs, numbered from i
--   numbers ns == the numbers of the noise edges ns
--   noise_edges ty t == the noise edges of t, numbered from 1 in preorder, each with its group
--   Pair == the numbers of two noise edges
--   ends ps == the numbers in the pairs ps
--   pair_order, pairing_order == lexicographic order of pairs, and of lists of pairs
--   IsPair ns p == the smaller number of p stands first, and the two are those of noise edges of
--       one group
--   IsPairing ns ps == the pairs ps are a partition of the noise edges ns into pairs within one
--       group, written in order
--   ArePairings ns pss == pss are all pairings of ns, each once, in order
--   pairs_of xs == the pairs of each of the pairings xs
--   IsRefused ns e == why there is no answer: there are more than 12 noise edges
--       (`MOST_PAIRED_NOISES`), or memory is wanted
use Rattle.std.specs.Prelude.{◌≡◌, ◌<◌, ◌↔◌, ℕ, ◌+◌, List, [], ◌∷◌, map, length, ⊤}
use Rattle.std.specs.List.{AllByRecursion}
use Rattle.std.specs.List.Sorted.{IsStrictlySortedBy}
use Rattle.std.specs.Ordering.{nat_cmp, ordering_then}
use Rattle.std.specs.Cmp.Lexicographic.{slice_cmp}
use Rattle.std.specs.declared.cmp.Ordering.{Ordering}
use Rattle.degree_numbers.specs.declared.Types.{Types}
use Rattle.ordered_lists.specs.Members.{IsIn}
use Rattle.ordered_lists.specs.Subs.{count_of}
use Rattle.plain_trees.specs.Plain.{Plain}
use Rattle.gaussian_pairings.specs.declared.noises.NoiseEdge.{NoiseEdge}
use Rattle.gaussian_pairings.specs.declared.pairing.Pairing.{Pairing}
use Rattle.gaussian_pairings.specs.declared.pairing.PairingError.{PairingError}
use Rattle.gaussian_pairings.specs.declared.pairing.PairingError.TheVariants.{TooManyNoises, Memory}
use Rattle.gaussian_pairings.specs.Vanishing.{noise_groups}

abbrev pub numbered : ℕ → List ℕ → List NoiseEdge
numbered i [] = []
numbered i (g ∷ gs) = record { number = i; group = g } ∷ numbered (i + 1) gs

abbrev pub noise_edges : Types → Plain → List NoiseEdge
noise_edges ty t = numbered 1 (noise_groups ty t)

abbrev pub numbers : List NoiseEdge → List ℕ
numbers ns = map (λ n. n.number) ns

abbrev pub Pair : Type 0
Pair = ℕ × ℕ

abbrev pub ends : List Pair → List ℕ
ends [] = []
ends (p ∷ ps) = p.0 ∷ p.1 ∷ ends ps

abbrev pub pair_order : Pair → Pair → Ordering
pair_order p q = ordering_then (nat_cmp p.0 q.0) (nat_cmp p.1 q.1)

abbrev pub pairing_order : List Pair → List Pair → Ordering
pairing_order = slice_cmp pair_order

pub record IsPair (ns : List NoiseEdge) (p : Pair) : Type 0 where
  pub ascending : p.0 < p.1
  pub noises : (a b : NoiseEdge) × IsIn a ns × IsIn b ns × (a.number ≡ p.0) × (b.number ≡ p.1)
      × (a.group ≡ b.group)

pub record IsPairing (ns : List NoiseEdge) (ps : List Pair) : Type 0 where
  pub pairs : AllByRecursion (IsPair ns) ps
  pub ascending : IsStrictlySortedBy pair_order ps
  -- each number stands in the pairs as often as among the noise edges
  pub partition : (i : ℕ) → count_of nat_cmp i (ends ps) ≡ count_of nat_cmp i (numbers ns)

pub record ArePairings (ns : List NoiseEdge) (pss : List (List Pair)) : Type 0 where
  pub all : (ps : List Pair) → IsPairing ns ps ↔ IsIn ps pss
  pub ascending : IsStrictlySortedBy pairing_order pss

abbrev pub pairs_of : List Pairing → List (List Pair)
pairs_of xs = map (λ x. x.pairs) xs

abbrev pub IsRefused : List NoiseEdge → PairingError → Type 0
IsRefused ns (TooManyNoises count) = (count ≡ length ns) × (12 < length ns)
IsRefused ns Memory = ⊤
