-- What a listed tree makes, as it is found: node by node, the sums of what can be added there.
-- Working notions of the code and of proofs, which no contract of a public call names:
--   without es fs == the list es without those of fs, each once, where they all stand there
--   raisings n ms == all ways to raise the edge types ms by multiindices that are together at most
--       n
--   nodes_of_kernel rows k == the node types of the row of kernel k
--   listed_option x == the list of what is there: one, or none
--   options_in ns es == the edge types that can be added to es to make one of the node types ns
--   options_by kind rule k es == the same for the node types of the rule of k; above a noise no
--       edge alone
--   options ty rule k es == the edge types that can be added to es so that the rule of type k
--       allows them together
--   additions_to ty rule k n es == all additions at a node with the decoration n and the edge types
--       es, above an edge of type k
--   additions_at ty rule k t == all additions at the root of t, above an edge of type k
--   sums xs ys == each of xs with each of ys together
--   additions_above ty rule t == all additions above the root of t together
--   all_additions ty rule k t == all additions at all nodes of t together
use Rattle.std.specs.Prelude.{ℕ, ◌==◌, List, [], ◌∷◌, map, flat_map, if◌then◌else◌}
use Rattle.std.specs.Option.{option_map}
use Rattle.std.specs.Ordering.{is_eq}
use Rattle.std.specs.declared.option.Option.{Option}
use Rattle.std.specs.declared.option.Option.TheVariants.{Some, None}
use Rattle.degree_numbers.specs.declared.types.Types.{Types}
use Rattle.degree_numbers.specs.declared.types.Kind.{Kind}
use Rattle.degree_numbers.specs.declared.types.Kind.TheVariants.{Noise, Kernel}
use Rattle.degree_numbers.specs.Multi.{plus_of, minus_of}
use Rattle.degree_numbers.specs.Types.{kind_of}
use Rattle.plain_trees.specs.Plain.{Plain, bare, graft, root_of}
use Rattle.plain_trees.specs.Multinomials.{below}
use Rattle.normal_rule.specs.declared.rule.NodeType.{NodeType}
use Rattle.normal_rule.specs.declared.rule.RuleRow.{RuleRow}
use Rattle.normal_rule.specs.declared.rule.Rule.{Rule}
use Rattle.conforming_trees.specs.Conforming.{EdgeLabel, edge_label_order, labels, node_type_of}
use Rattle.rule_stages.specs.Stages.{join}

abbrev pub without : List EdgeLabel → List EdgeLabel → Option (List EdgeLabel)
without es [] = Some es
without [] (f ∷ fs) = None
without (e ∷ es) (f ∷ fs) = if is_eq (edge_label_order e f) then without es fs
    else option_map (λ ms. e ∷ ms) (without es (f ∷ fs))

abbrev pub raisings : List ℕ → List EdgeLabel → List (List EdgeLabel)
raisings n [] = [] ∷ []
raisings n (m ∷ ms) =
    flat_map (λ s. map (λ rs. (m.0, plus_of m.1 s) ∷ rs) (raisings (minus_of n s) ms)) (below n)

abbrev pub nodes_of_kernel : List RuleRow → ℕ → List NodeType
nodes_of_kernel [] k = []
nodes_of_kernel (row ∷ rows) k = if row.kernel.0 == k then row.nodes else nodes_of_kernel rows k

abbrev pub listed_option : Option (List EdgeLabel) → List (List EdgeLabel)
listed_option None = []
listed_option (Some ms) = ms ∷ []

abbrev pub options_in : List NodeType → List EdgeLabel → List (List EdgeLabel)
options_in ns es = flat_map (λ n. listed_option (without (labels n) es)) ns

-- above an edge of a noise nothing can be added
abbrev pub options_by : Option Kind → Rule → ℕ → List EdgeLabel → List (List EdgeLabel)
options_by None rule k es = []
options_by (Some Noise) rule k es = [] ∷ []
options_by (Some Kernel) rule k es = options_in (nodes_of_kernel rule.rows k) es

abbrev pub options : Types → Rule → ℕ → List EdgeLabel → List (List EdgeLabel)
options ty rule k es = options_by (kind_of ty k) rule k es

abbrev pub additions_to : Types → Rule → ℕ → List ℕ → List EdgeLabel → List (List EdgeLabel)
additions_to ty rule k n es = flat_map (raisings n) (options ty rule k es)

abbrev pub additions_at : Types → Rule → ℕ → Plain → List (List EdgeLabel)
additions_at ty rule k t = additions_to ty rule k (root_of t) (node_type_of t)

abbrev pub sums : List (List EdgeLabel) → List (List EdgeLabel) → List (List EdgeLabel)
sums xs ys = flat_map (λ x. map (join x) ys) xs

abbrev pub additions_above : Types → Rule → Plain → List (List EdgeLabel)
additions_above ty rule (bare n) = [] ∷ []
additions_above ty rule (graft k p c t) =
    sums (additions_at ty rule k c) (sums (additions_above ty rule c) (additions_above ty rule t))

abbrev pub all_additions : Types → Rule → ℕ → Plain → List (List EdgeLabel)
all_additions ty rule k t = sums (additions_at ty rule k t) (additions_above ty rule t)
