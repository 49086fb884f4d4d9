-- What a plan says at a place.
use Rattle.std.proofs.Common.{◌≡◌, ℕ, zero, suc, ◌+◌, ◌<◌, length, take, get_or, arith, List, [], ◌∷◌, ◌++◌, Some, subst, refl}
use Rattle.std.specs.Prelude.{slice_get}
use Rattle.std.proofs.lemmas.List.{take_more}
use Rattle.degree_numbers.specs.declared.Degree.{Degree}
use Rattle.equations.specs.declared.Equation.{Equation}
use Rattle.normal_rule.specs.declared.NodeType.{NodeType}
use Rattle.normal_rule.specs.declared.RuleRow.{RuleRow}
use Rattle.conforming_trees.specs.Conforming.{labels}
use Rattle.conforming_trees.specs.Budgets.{IsUsable, IsReserve}
use Rattle.tree_budgets.specs.Bounds.{IsModest}
use Rattle.tree_budgets.specs.Fronts.{AreExtensions}
use Rattle.tree_budgets.specs.declared.plan.Extension.{Extension}
use Rattle.tree_budgets.specs.declared.plan.PlanNode.{PlanNode}
use Rattle.tree_budgets.specs.declared.plan.RowPlan.{RowPlan}
use Rattle.tree_budgets.specs.Plan.{IsNodePlan, AreNodePlans, IsRowPlan, AreRowPlans}

some_same : {A : Type 0} (x y : A) → Some x ≡ Some y → x ≡ y
some_same x y h = cc

pub node_plan_at : (eq : Equation) (lows : List Degree) (row : RuleRow) (ns : List NodeType) (ps : List PlanNode) (i : ℕ) (n : NodeType) →
    AreNodePlans eq lows row ns ps → slice_get ns i ≡ Some n →
    (p : PlanNode) × (slice_get ps i ≡ Some p) × IsNodePlan eq lows row n p
node_plan_at eq lows row [] [] i n h at = absurd cc
node_plan_at eq lows row [] (p ∷ ps) i n h at = absurd h
node_plan_at eq lows row (m ∷ ns) [] i n h at = absurd h
node_plan_at eq lows row (m ∷ ns) (p ∷ ps) zero n h at = (p, refl, subst (λ (x : NodeType). IsNodePlan eq lows row x p) (some_same m n at) h.0)
node_plan_at eq lows row (m ∷ ns) (p ∷ ps) (suc i) n h at = node_plan_at eq lows row ns ps i n h.1 at

pub row_plan_at : (eq : Equation) (lows mosts : List Degree) (rs : List RuleRow) (ps : List RowPlan) (i : ℕ) (r : RuleRow) →
    AreRowPlans eq lows mosts rs ps → slice_get rs i ≡ Some r →
    (p : RowPlan) × (slice_get ps i ≡ Some p) × IsRowPlan eq lows mosts r p
row_plan_at eq lows mosts [] [] i r h at = absurd cc
row_plan_at eq lows mosts [] (p ∷ ps) i r h at = absurd h
row_plan_at eq lows mosts (s ∷ rs) [] i r h at = absurd h
row_plan_at eq lows mosts (s ∷ rs) (p ∷ ps) zero r h at = (p, refl, subst (λ (x : RuleRow). IsRowPlan eq lows mosts x p) (some_same s r at) h.0)
row_plan_at eq lows mosts (s ∷ rs) (p ∷ ps) (suc i) r h at = row_plan_at eq lows mosts rs ps i r h.1 at

pub node_of_plan : (eq : Equation) (lows : List Degree) (row : RuleRow) (ns : List NodeType) (ps : List PlanNode) (i : ℕ) (p : PlanNode) →
    AreNodePlans eq lows row ns ps → slice_get ps i ≡ Some p →
    (n : NodeType) × (slice_get ns i ≡ Some n) × IsNodePlan eq lows row n p
node_of_plan eq lows row [] [] i p h at = absurd cc
node_of_plan eq lows row [] (q ∷ ps) i p h at = absurd h
node_of_plan eq lows row (m ∷ ns) [] i p h at = absurd h
node_of_plan eq lows row (m ∷ ns) (q ∷ ps) zero p h at = (m, refl, subst (IsNodePlan eq lows row m) (some_same q p at) h.0)
node_of_plan eq lows row (m ∷ ns) (q ∷ ps) (suc i) p h at = node_of_plan eq lows row ns ps i p h.1 at

pub row_of_plan : (eq : Equation) (lows mosts : List Degree) (rs : List RuleRow) (ps : List RowPlan) (i : ℕ) (p : RowPlan) →
    AreRowPlans eq lows mosts rs ps → slice_get ps i ≡ Some p →
    (r : RuleRow) × (slice_get rs i ≡ Some r) × IsRowPlan eq lows mosts r p
row_of_plan eq lows mosts [] [] i p h at = absurd cc
row_of_plan eq lows mosts [] (q ∷ ps) i p h at = absurd h
row_of_plan eq lows mosts (s ∷ rs) [] i p h at = absurd h
row_of_plan eq lows mosts (s ∷ rs) (q ∷ ps) zero p h at = (s, refl, subst (IsRowPlan eq lows mosts s) (some_same q p at) h.0)
row_of_plan eq lows mosts (s ∷ rs) (q ∷ ps) (suc i) p h at = row_of_plan eq lows mosts rs ps i p h.1 at

-- one more node type, or row, with its plan
pub node_plans_more : (eq : Equation) (lows : List Degree) (row : RuleRow) (ns : List NodeType) (ps : List PlanNode) (n : NodeType) (p : PlanNode) →
    AreNodePlans eq lows row ns ps → IsNodePlan eq lows row n p →
    AreNodePlans eq lows row (ns ++ n ∷ []) (ps ++ p ∷ [])
node_plans_more eq lows row [] [] n p h k = (k, tt)
node_plans_more eq lows row [] (q ∷ ps) n p h k = absurd h
node_plans_more eq lows row (m ∷ ns) [] n p h k = absurd h
node_plans_more eq lows row (m ∷ ns) (q ∷ ps) n p h k = (h.0, node_plans_more eq lows row ns ps n p h.1 k)

pub row_plans_more : (eq : Equation) (lows mosts : List Degree) (rs : List RuleRow) (ps : List RowPlan) (r : RuleRow) (p : RowPlan) →
    AreRowPlans eq lows mosts rs ps → IsRowPlan eq lows mosts r p →
    AreRowPlans eq lows mosts (rs ++ r ∷ []) (ps ++ p ∷ [])
row_plans_more eq lows mosts [] [] r p h k = (k, tt)
row_plans_more eq lows mosts [] (q ∷ ps) r p h k = absurd h
row_plans_more eq lows mosts (s ∷ rs) [] r p h k = absurd h
row_plans_more eq lows mosts (s ∷ rs) (q ∷ ps) r p h k = (h.0, row_plans_more eq lows mosts rs ps r p h.1 k)

pub node_plans_step : (eq : Equation) (lows : List Degree) (row : RuleRow) (items : List NodeType) (i : ℕ) (n none : NodeType) (ps qs : List PlanNode) (p : PlanNode) →
    i < length items → n ≡ get_or items i none → qs ≡ ps ++ p ∷ [] →
    AreNodePlans eq lows row (take i items) ps → IsNodePlan eq lows row n p → AreNodePlans eq lows row (take (i + 1) items) qs
node_plans_step eq lows row items i n none ps qs p lt is pushed h k =
    rw (take_more items i none lt, pushed, ← is) (node_plans_more eq lows row (take i items) ps n p h k)

pub row_plans_step : (eq : Equation) (lows mosts : List Degree) (items : List RuleRow) (i : ℕ) (r none : RuleRow) (ps qs : List RowPlan) (p : RowPlan) →
    i < length items → r ≡ get_or items i none → qs ≡ ps ++ p ∷ [] →
    AreRowPlans eq lows mosts (take i items) ps → IsRowPlan eq lows mosts r p → AreRowPlans eq lows mosts (take (i + 1) items) qs
row_plans_step eq lows mosts items i r none ps qs p lt is pushed h k =
    rw (take_more items i none lt, pushed, ← is) (row_plans_more eq lows mosts (take i items) ps r p h k)

get_within : (ns : List NodeType) (i : ℕ) (n : NodeType) → slice_get ns i ≡ Some n → i < length ns
get_within [] i n h = absurd cc
get_within (m ∷ ns) zero n h = omega arith
get_within (m ∷ ns) (suc i) n h = omega (arith, get_within ns i n h)

pub node_plan_is : (eq : Equation) (lows : List Degree) (row : RuleRow) (n : NodeType) (r : Degree) (xs : List Extension) →
    (IsUsable (labels n) → IsReserve eq lows row (labels n) r) → IsModest r →
    AreExtensions row.nodes n.edges (length row.nodes) xs → IsNodePlan eq lows row n record { reserve = r; extensions = xs }
node_plan_is eq lows row n r xs reserve modest h = record {
  reserve = reserve;
  modest = modest;
  ascending = h.ascending;
  extension = λ x i. let m = h.extension x i in (m.0, m.1, m.2.edges, m.2.usable);
  whole = λ i m e at edges usable. h.whole i m e (get_within row.nodes i m at) at record { edges = edges; usable = usable };
}
