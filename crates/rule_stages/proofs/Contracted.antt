-- What a contraction makes of the node types: the edges that leave a component, raised, are
-- additions at its nodes.
use Rattle.std.proofs.Common.{◌≡◌, ℕ, true, false, List, [], ◌∷◌, refl, sym, ap, ◌∙◌, subst, arith}
use Rattle.degree_numbers.specs.declared.types.Types.{Types}
use Rattle.degree_numbers.specs.Multi.{plus_of}
use Rattle.plain_trees.specs.Plain.{Plain, bare, graft, root_of}
use Rattle.normal_rule.specs.declared.rule.Rule.{Rule}
use Rattle.tree_cuttings.specs.Roots.{raised, joined}
use Rattle.tree_cuttings.specs.CutTree.{CutTree, node, edge, tree_of, root_component, contracted}
use Rattle.conforming_trees.specs.Conforming.{EdgeLabel, put_label, node_type_of, IsInRule, IsAllowedAbove, ConformsAbove}
use Rattle.conforming_trees.proofs.Labels.{IsInLabelOrder, count-put, put-sorted, node_type-sorted, same_labels}
use Rattle.rule_stages.specs.Stages.{join, IsRaised, IsAddition, AreAdditionsAbove, AreAdditions}
use Rattle.rule_stages.proofs.Joins.{count-join, join-sorted}
use Rattle.rule_stages.proofs.Parts.{additions-sorted}

-- the edge types of the edges at the root that are not in the set, as they are and raised by their
-- shifts
abbrev pub outside : CutTree → List EdgeLabel
outside (node a l) = []
outside (edge true s k p c r) = outside r
outside (edge false s k p c r) = (k, p) ∷ outside r

abbrev pub outside_raised : CutTree → List EdgeLabel
outside_raised (node a l) = []
outside_raised (edge true s k p c r) = outside_raised r
outside_raised (edge false s k p c r) = (k, plus_of p s) ∷ outside_raised r

pub node_type-raised : (m : List ℕ) (t : Plain) → node_type_of (raised m t) ≡ node_type_of t
node_type-raised m (bare n) = refl
node_type-raised m (graft k p c t) = ap (put_label (k, p)) (node_type-raised m t)

root-raised : (m : List ℕ) (t : Plain) → root_of (raised m t) ≡ plus_of m (root_of t)
root-raised m (bare n) = refl
root-raised m (graft k p c t) = root-raised m t

pub conforms-raised : (ty : Types) (rule : Rule) (m : List ℕ) (t : Plain) → ConformsAbove ty rule t → ConformsAbove ty rule (raised m t)
conforms-raised ty rule m (bare n) h = tt
conforms-raised ty rule m (graft k p c t) h = (h.0, h.1, conforms-raised ty rule m t h.2)

additions-raised : (ty : Types) (rule : Rule) (m : List ℕ) (t : Plain) (rs : List EdgeLabel) →
    AreAdditionsAbove ty rule t rs → AreAdditionsAbove ty rule (raised m t) rs
additions-raised ty rule m (bare n) rs h = h
additions-raised ty rule m (graft k p c t) rs h = (h.0, h.1, h.2, h.3, h.4, additions-raised ty rule m t h.2 h.5, h.6)

outside-raised : (m : CutTree) → IsRaised (root_of (root_component m)) (outside m) (outside_raised m)
outside-raised (node a l) = tt
outside-raised (edge true s k p c r) = outside-raised r
outside-raised (edge false s k p c r) = (s, root_of (root_component r), root-raised s (root_component r), refl, refl, outside-raised r)

join-put : (e : EdgeLabel) (es fs : List EdgeLabel) → IsInLabelOrder fs → join es (put_label e fs) ≡ put_label e (join es fs)
join-put e es fs h =
    same_labels (join es (put_label e fs)) (put_label e (join es fs)) (join-sorted es (put_label e fs) (put-sorted e fs h)) (put-sorted e (join es fs) (join-sorted es fs h))
    (λ z. omega (arith, count-join z es (put_label e fs), count-put z e fs, count-put z e (join es fs), count-join z es fs))

put-join : (e : EdgeLabel) (es fs : List EdgeLabel) → IsInLabelOrder fs → join (put_label e es) fs ≡ put_label e (join es fs)
put-join e es fs h =
    same_labels (join (put_label e es) fs) (put_label e (join es fs)) (join-sorted (put_label e es) fs h) (put-sorted e (join es fs) (join-sorted es fs h))
    (λ z. omega (arith, count-join z (put_label e es) fs, count-put z e es, count-put z e (join es fs), count-join z es fs))

pub node_type-parted : (m : CutTree) → node_type_of (tree_of m) ≡ join (outside m) (node_type_of (root_component m))
node_type-parted (node a l) = refl
node_type-parted (edge true s k p c r) =
    ap (put_label (k, p)) (node_type-parted r) ∙ sym (join-put (k, p) (outside r) (node_type_of (root_component r)) (node_type-sorted (root_component r)))
node_type-parted (edge false s k p c r) =
    ap (put_label (k, p)) (node_type-parted r) ∙ sym (ap (λ (es : List EdgeLabel). put_label (k, p) (join (outside r) es)) (node_type-raised s (root_component r)))

pub node_type-joined : (s t : Plain) → node_type_of (joined s t) ≡ join (node_type_of s) (node_type_of t)
node_type-joined (bare n) t = node_type-raised n t
node_type-joined (graft k p c s) t = ap (put_label (k, p)) (node_type-joined s t) ∙ sym (put-join (k, p) (node_type_of s) (node_type_of t) (node_type-sorted t))

pub conforms-joined : (ty : Types) (rule : Rule) (s t : Plain) → ConformsAbove ty rule s → ConformsAbove ty rule t → ConformsAbove ty rule (joined s t)
conforms-joined ty rule (bare n) t h k = conforms-raised ty rule n t k
conforms-joined ty rule (graft l p c s) t h k = (h.0, h.1, conforms-joined ty rule s t h.2 k)

component-addition : (ty : Types) (rule : Rule) (k : ℕ) (m : CutTree) →
    IsAllowedAbove ty rule k (tree_of m) →
    IsAddition ty rule k (root_component m) (outside_raised m)
component-addition ty rule k m h = (outside m, subst (IsInRule ty rule k) (node_type-parted m) h, outside-raised m)

-- the four parts of what a contraction makes, in two orders
four : (u above v others : List EdgeLabel) → IsInLabelOrder others → IsInLabelOrder above →
    join (join u above) (join v others) ≡ join v (join u (join above others))
four u above v others h k =
    same_labels (join (join u above) (join v others)) (join v (join u (join above others))) (join-sorted (join u above) (join v others) (join-sorted v others h)) (join-sorted v (join u (join above others)) (join-sorted u (join above others) (join-sorted above others h)))
    (λ z. omega (arith, count-join z (join u above) (join v others), count-join z u above, count-join z v others, count-join z v (join u (join above others)), count-join z u (join above others), count-join z above others))

pub additions_above : (ty : Types) (rule : Rule) (m : CutTree) → ConformsAbove ty rule (tree_of m) →
    (above : List EdgeLabel) × AreAdditionsAbove ty rule (root_component m) above × (node_type_of (contracted m) ≡ join (outside_raised m) above)
additions_above ty rule (node a l) h = ([], refl, refl)
additions_above ty rule (edge true s k p c r) h =
    let up = additions_above ty rule c h.1 in
    let beside = additions_above ty rule r h.2 in
    let all : List EdgeLabel = join (outside_raised c) (join up.0 beside.0) in
    let same : node_type_of (joined (contracted c) (contracted r)) ≡ join (outside_raised r) all =
    node_type-joined (contracted c) (contracted r) ∙ ap (λ (es : List EdgeLabel). join es (node_type_of (contracted r))) up.2
    ∙ ap (λ (es : List EdgeLabel). join (join (outside_raised c) up.0) es) beside.2
    ∙ four (outside_raised c) up.0 (outside_raised r) beside.0 (additions-sorted ty rule (root_component r) beside.0 beside.1) (additions-sorted ty rule (root_component c) up.0 up.1) in
    (all, (outside_raised c, up.0, beside.0, component-addition ty rule k c h.0, up.1, beside.1, refl), same)
additions_above ty rule (edge false s k p c r) h =
    let beside = additions_above ty rule r h.2 in
    (beside.0, additions-raised ty rule s (root_component r) beside.0 beside.1, ap (put_label (k, plus_of p s)) beside.2)

-- a component, with what its contraction makes at its node
pub component-additions : (ty : Types) (rule : Rule) (k : ℕ) (m : CutTree) →
    IsAllowedAbove ty rule k (tree_of m) → ConformsAbove ty rule (tree_of m) →
    AreAdditions ty rule k (root_component m) (node_type_of (contracted m))
component-additions ty rule k m allowed conforms =
    let above = additions_above ty rule m conforms in
    (outside_raised m, above.0, component-addition ty rule k m allowed, above.1, above.2)
