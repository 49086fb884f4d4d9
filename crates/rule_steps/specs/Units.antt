-- Edge types raised by one unit in a direction: the step by which raised edge types are found.
-- Working notions of the code and of proofs, which no contract of a public call names:
--   bump d m == the multiindex m with one more in direction d
--   bump_label d e == the edge type e with one more derivative in direction d
--   IsBumped d qs rs == rs are qs with one of them raised so
--   bumped_at d i qs == the list qs in which the one at place i is raised
--   first_bumped d n es == the lists in which one of the first n of es is raised, each in order
--   all_bumped d es == the lists in which one of es is raised, each in order
use Rattle.std.specs.Prelude.{◌≡◌, ℕ, zero, suc, List, [], ◌∷◌, ◌⊎◌, map, length}
use Rattle.std.specs.List.{range_with_len}
use Rattle.conforming_trees.specs.Conforming.{EdgeLabel}
use Rattle.rule_stages.specs.Stages.{join}

abbrev pub bump : ℕ → List ℕ → List ℕ
bump d [] = []
bump zero (x ∷ xs) = suc x ∷ xs
bump (suc d) (x ∷ xs) = x ∷ bump d xs

abbrev pub bump_label : ℕ → EdgeLabel → EdgeLabel
bump_label d e = (e.0, bump d e.1)

abbrev pub IsBumped : ℕ → List EdgeLabel → List EdgeLabel → Type 0
IsBumped d [] rs = ⊥
IsBumped d (q ∷ qs) [] = ⊥
IsBumped d (q ∷ qs) (r ∷ rs) = ((r ≡ bump_label d q) × (rs ≡ qs)) ⊎ ((r ≡ q) × IsBumped d qs rs)

-- the list in which the one at place i is raised
abbrev pub bumped_at : ℕ → ℕ → List EdgeLabel → List EdgeLabel
bumped_at d i [] = []
bumped_at d zero (q ∷ qs) = bump_label d q ∷ qs
bumped_at d (suc i) (q ∷ qs) = q ∷ bumped_at d i qs

-- the lists in which one of the first n is raised, in order
abbrev pub first_bumped : ℕ → ℕ → List EdgeLabel → List (List EdgeLabel)
first_bumped d n es = map (λ i. join (bumped_at d i es) []) (range_with_len 0 n)

abbrev pub all_bumped : ℕ → List EdgeLabel → List (List EdgeLabel)
all_bumped d es = first_bumped d (length es) es
