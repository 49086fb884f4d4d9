-- The completion of a rule is closed under cutting: by the definition of cuttings.
use Rattle.std.proofs.Common.{◌≡◌, ℕ, ◌/◌, true, false, Bool, cond, List, [], ◌∷◌, filter, refl, sym, ap, ◌∙◌, subst, inl, inr, unsigned_abs}
use Rattle.std.proofs.lemmas.Bool.{and_parts}
use Rattle.std.specs.List.{AllByRecursion, list_all}
use Rattle.equations.specs.declared.equation.Equation.{Equation}
use Rattle.equations.specs.Accepted.{IsEquation}
use Rattle.ordered_lists.specs.Members.{IsIn}
use Rattle.plain_trees.specs.Plain.{Plain}
use Rattle.plain_trees.specs.Canon.{canon}
use Rattle.plain_trees.specs.Degree.{HasTypes}
use Rattle.plain_trees.specs.Cutting.{Cutting, is_cutting, components, quotient, markings}
use Rattle.plain_trees.specs.Coproducts.{negative_size, is_extracted, is_admissible, extraction_bound}
use Rattle.normal_rule.specs.declared.rule.Rule.{Rule}
use Rattle.tree_cuttings.specs.CutTree.{CutTree, tree_of, leaves, fits, cut_components, contracted}
use Rattle.tree_cuttings.proofs.ByNodes.{is_cutting_same, components_same, quotient_same}
use Rattle.conforming_trees.specs.Conforming.{IsConforming, IsRule}
use Rattle.conforming_trees.specs.Listed.{IsListed}
use Rattle.rule_stages.specs.Closure.{AreComponentsListed, IsQuotientConforming, IsClosedUnderCutting}
use Rattle.rule_stages.specs.Stages.{IsNextStage}
use Rattle.rule_stages.proofs.Closed.{part-listed, quotient-conforms, components-are_parts}
use Rattle.rule_stages.proofs.Components.{IsPart}
use Rattle.rule_stages.proofs.ReadDown.{IsReadDown, marking_read_down}

from_filter-at : {X : Type 0} (p : X → Bool) (x y : X) (ys : List X) (b : Bool) → p y ≡ b →
    (IsIn x (filter p ys) → IsIn x ys × (p x ≡ true)) →
    IsIn x (cond b (y ∷ filter p ys) (filter p ys)) → IsIn x (y ∷ ys) × (p x ≡ true)
from_filter-at {X} p x y ys true q ih h = elim h [ inl e ↦ (inl e, subst (λ (z : X). p z ≡ true) e q) | inr later ↦ (let rest = ih later in (inr rest.0, rest.1)) ]
from_filter-at p x y ys false q ih h = let rest = ih h in (inr rest.0, rest.1)

from_filter : {X : Type 0} (p : X → Bool) (x : X) (xs : List X) → IsIn x (filter p xs) → IsIn x xs × (p x ≡ true)
from_filter p x [] h = absurd h
from_filter p x (y ∷ ys) h = from_filter-at p x y ys (p y) refl (from_filter p x ys) h

all-passing : (p : Plain → Bool) (ts : List Plain) → list_all p ts ≡ true → AllByRecursion (λ t. p t ≡ true) ts
all-passing p [] h = tt
all-passing p (t ∷ ts) h = let tests = and_parts (p t) (list_all p ts) h in (tests.0, all-passing p ts tests.1)

-- each part that is extracted is listed
each-listed : (eq : Equation) (rule : Rule) (ts : List Plain) → AllByRecursion (IsPart eq rule) ts →
    AllByRecursion (λ t. is_extracted eq.types t ≡ true) ts → (t : Plain) → IsIn t ts →
    IsListed eq rule (canon t)
each-listed eq rule [] parts extracted t h = absurd h
each-listed eq rule (u ∷ us) parts extracted t h =
    elim h [
      | inl e ↦ subst (λ (x : Plain). IsListed eq rule (canon x)) e (part-listed eq rule u parts.0 extracted.0)
      | inr later ↦ each-listed eq rule us parts.1 extracted.1 t later
    ]

closed-cut : (eq : Equation) (rule : Rule) (m : CutTree) (c : Cutting) → IsEquation eq →
    IsRule eq rule → IsNextStage eq rule rule → IsReadDown eq.types.dims (tree_of m) c →
    HasTypes eq.types (tree_of m) → IsConforming eq.types rule (tree_of m) →
    is_cutting false c ≡ true → is_admissible eq.types c ≡ true → AreComponentsListed eq rule c × IsQuotientConforming eq rule c
closed-cut eq rule m c equation is_rule fixed read types conforms cutting admissible =
    let cut = read.cut in
    let same = sym read.tree in
    let own_types = subst (HasTypes eq.types) same types in
    let own_conforms = subst (IsConforming eq.types rule) same conforms in
    let components_are : components false c ≡ cut_components false cut = ap (components false) read.is ∙ components_same false cut in
    let quotient_is : quotient c ≡ contracted cut = ap quotient read.is ∙ quotient_same cut in
    let fit : fits (leaves cut) cut ≡ true = sym (is_cutting_same false cut) ∙ sym (ap (is_cutting false) read.is) ∙ cutting in
    let extracted = subst (AllByRecursion (λ t. is_extracted eq.types t ≡ true)) components_are (all-passing (is_extracted eq.types) (components false c) admissible) in
    let parts = components-are_parts eq rule equation is_rule fixed cut read.multis own_types own_conforms in (
      λ t h. each-listed eq rule (cut_components false cut) parts extracted t (subst (IsIn t) components_are h),
      subst (λ (q : Plain). IsConforming eq.types rule (canon q)) (sym quotient_is) (quotient-conforms eq rule equation is_rule fixed cut read.multis own_types own_conforms fit extracted),
    )

read-as : (dims : ℕ) (t : Plain) (c : Cutting) (h : IsReadDown dims t c) → IsReadDown dims (tree_of h.cut) c
read-as dims t c h = record { cut = h.cut; tree = refl; multis = h.multis; is = h.is }

pub closed_under_cutting : (eq : Equation) (rule : Rule) (t : Plain) → IsEquation eq →
    IsRule eq rule → IsNextStage eq rule rule → HasTypes eq.types t → IsConforming eq.types rule t →
    IsClosedUnderCutting eq rule t
closed_under_cutting eq rule t equation is_rule fixed types conforms c h admissible =
    let member = from_filter (is_cutting false) c (markings (extraction_bound eq.types t) t) h in
    let read = marking_read_down eq.types (negative_size eq.types t / unsigned_abs eq.types.units.den) t c types member.0 in
    let same = sym read.tree in
    closed-cut eq rule read.cut c equation is_rule fixed (read-as eq.types.dims t c read) (subst (HasTypes eq.types) same types) (subst (IsConforming eq.types rule) same conforms) member.1 admissible
