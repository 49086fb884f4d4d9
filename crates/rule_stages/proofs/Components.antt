-- The components of a cutting of a conforming tree are conforming trees.
use Rattle.std.proofs.Common.{◌≡◌, ℕ, true, false, Bool, cond, List, [], ◌∷◌, ◌++◌, length, refl, sym, ap, ◌∙◌, subst, arith, inl, inr}
use Rattle.std.specs.List.{AllByRecursion}
use Rattle.degree_numbers.specs.declared.types.Types.{Types}
use Rattle.degree_numbers.specs.Multi.{plus_of}
use Rattle.equations.specs.declared.equation.Equation.{Equation}
use Rattle.ordered_lists.specs.Subs.{IsSubMultiset}
use Rattle.ordered_lists.proofs.Subs.{sub_refl}
use Rattle.plain_trees.specs.Plain.{Plain, bare, graft}
use Rattle.plain_trees.specs.Degree.{IsMultiIndex, IsEdge, HasTypes, empty_tree}
use Rattle.normal_rule.specs.declared.rule.Rule.{Rule}
use Rattle.tree_pool.proofs.Makings.{multi_plus}
use Rattle.tree_cuttings.specs.Roots.{raised, has_edge}
use Rattle.tree_cuttings.specs.CutTree.{CutTree, node, edge, tree_of, leaves, root_component, components_above}
use Rattle.tree_cuttings.proofs.Images.{has_edge-root_component}
use Rattle.conforming_trees.specs.Conforming.{node_type_of, IsAllowedAbove, IsAllowedAtRoot, ConformsAbove, IsRule}
use Rattle.conforming_trees.proofs.Labels.{node_type-sorted}
use Rattle.rule_stages.proofs.Joins.{join-part, put-some}
use Rattle.rule_stages.proofs.Parts.{in_rule-part}
use Rattle.rule_stages.proofs.Contracted.{outside, node_type-parted, conforms-raised}

-- the parts of decorations and the shifts of a cutting are multiindices
abbrev pub HasMultis : ℕ → CutTree → Type 0
HasMultis dims (node a l) = IsMultiIndex dims a × IsMultiIndex dims l
HasMultis dims (edge b s k p c r) = IsMultiIndex dims s × HasMultis dims c × HasMultis dims r

component-part : (m : CutTree) → IsSubMultiset (node_type_of (root_component m)) (node_type_of (tree_of m))
component-part m =
    let part = node_type_of (root_component m) in
    let sorted = node_type-sorted (root_component m) in
    subst (IsSubMultiset part) (sym (node_type-parted m)) (join-part [] (outside m) part part sorted sorted tt (sub_refl part))

pub component-allowed : (eq : Equation) (rule : Rule) (k : ℕ) (m : CutTree) → IsRule eq rule →
    IsAllowedAbove eq.types rule k (tree_of m) → IsAllowedAbove eq.types rule k (root_component m)
component-allowed eq rule k m h allowed = in_rule-part eq rule k (node_type_of (root_component m)) (node_type_of (tree_of m)) h allowed (component-part m)

pub component-conforms : (eq : Equation) (rule : Rule) (m : CutTree) → IsRule eq rule →
    ConformsAbove eq.types rule (tree_of m) → ConformsAbove eq.types rule (root_component m)
component-conforms eq rule (node a l) h c = tt
component-conforms eq rule (edge true s k p c r) h conforms = (component-allowed eq rule k c h conforms.0, component-conforms eq rule c h conforms.1, component-conforms eq rule r h conforms.2)
component-conforms eq rule (edge false s k p c r) h conforms = conforms-raised eq.types rule s (root_component r) (component-conforms eq rule r h conforms.2)

-- the types of a component
types-raised : (ty : Types) (s : List ℕ) (t : Plain) → IsMultiIndex ty.dims s → HasTypes ty t → HasTypes ty (raised s t)
types-raised ty s (bare n) h k = multi_plus ty.dims s n h k
types-raised ty s (graft l p c t) h k = (k.0, k.1, types-raised ty s t h k.2)

zero-left : (xs ys : List ℕ) (count : ℕ) → length xs ≡ count → length ys ≡ count → AllByRecursion (λ x. x ≡ 0) (plus_of xs ys) → AllByRecursion (λ x. x ≡ 0) xs
zero-left [] ys count h k z = tt
zero-left (x ∷ xs) [] count h k z = absurd (omega (arith, h, k))
zero-left (x ∷ xs) (y ∷ ys) count h k z = (omega (arith, z.0), zero-left xs ys (length xs) refl (omega (arith, h, k)) z.1)

zeros-are : (xs : List ℕ) → length xs ≡ 5 → AllByRecursion (λ x. x ≡ 0) xs → xs ≡ 0 ∷ 0 ∷ 0 ∷ 0 ∷ 0 ∷ []
zeros-are [] h z = absurd (omega (arith, h))
zeros-are (a ∷ []) h z = absurd (omega (arith, h))
zeros-are (a ∷ b ∷ []) h z = absurd (omega (arith, h))
zeros-are (a ∷ b ∷ c ∷ []) h z = absurd (omega (arith, h))
zeros-are (a ∷ b ∷ c ∷ d ∷ []) h z = absurd (omega (arith, h))
zeros-are (a ∷ b ∷ c ∷ d ∷ e ∷ []) h z = let p = z.0 in let q = z.1.0 in let r = z.1.1.0 in let s = z.1.1.1.0 in let t = z.1.1.1.1.0 in cc
zeros-are (a ∷ b ∷ c ∷ d ∷ e ∷ f ∷ xs) h z = absurd (omega (arith, h))

component-empty : (dims : ℕ) (m : CutTree) → HasMultis dims m → tree_of m ≡ empty_tree → root_component m ≡ empty_tree
component-empty dims (node a l) h e =
    let none : plus_of a l ≡ 0 ∷ 0 ∷ 0 ∷ 0 ∷ 0 ∷ [] = cc in
    let zero : AllByRecursion (λ x. x ≡ 0) (plus_of a l) = subst (AllByRecursion (λ x. x ≡ 0)) (sym none) (refl, (refl, (refl, (refl, (refl, tt))))) in
    ap bare (zeros-are a h.0.entries (zero-left a l 5 h.0.entries h.1.entries zero))
component-empty dims (edge b s k p c r) h e = absurd cc

pub component-types : (ty : Types) (m : CutTree) → HasMultis ty.dims m → HasTypes ty (tree_of m) → HasTypes ty (root_component m)
component-types ty (node a l) h t = h.0
component-types ty (edge true s k p c r) h t =
    let over : IsEdge ty k p (root_component c) = record { known = t.0.known; decoration = t.0.decoration; noise = λ n. component-empty ty.dims c h.1 (t.0.noise n) } in
    (over, component-types ty c h.1 t.1, component-types ty r h.2 t.2)
component-types ty (edge false s k p c r) h t = types-raised ty s (root_component r) h.0 (component-types ty r h.2 t.2)

-- a component, before it is made canonical
pub record IsPart (eq : Equation) (rule : Rule) (t : Plain) : Type 0 where
  pub types : HasTypes eq.types t
  pub root : IsAllowedAtRoot rule t
  pub above : ConformsAbove eq.types rule t
  pub edges : has_edge t ≡ true

root-allowed : (eq : Equation) (rule : Rule) (k : ℕ) (t : Plain) → has_edge t ≡ true → IsAllowedAbove eq.types rule k t → IsAllowedAtRoot rule t
root-allowed eq rule k (bare n) h allowed = absurd cc
root-allowed eq rule k (graft l p c t) h allowed =
    elim allowed [
      | inl noise ↦ absurd (put-some (l, p) (node_type_of t) noise.1)
      | inr kernel ↦ (kernel.0, kernel.1, kernel.3)
    ]

pub component-is_part : (eq : Equation) (rule : Rule) (k : ℕ) (m : CutTree) → IsRule eq rule →
    HasMultis eq.types.dims m → HasTypes eq.types (tree_of m) →
    IsAllowedAbove eq.types rule k (tree_of m) → ConformsAbove eq.types rule (tree_of m) →
    leaves m ≡ true →
    IsPart eq rule (root_component m)
component-is_part eq rule k m h multis types allowed conforms leaving =
    let edges = has_edge-root_component m ∙ leaving in
    record {
      types = component-types eq.types m multis types;
      root = root-allowed eq rule k (root_component m) edges (component-allowed eq rule k m h allowed);
      above = component-conforms eq rule m h conforms;
      edges = edges;
    }

all-append : (P : Plain → Type 0) (xs ys : List Plain) → AllByRecursion P xs → AllByRecursion P ys → AllByRecursion P (xs ++ ys)
all-append P [] ys h k = k
all-append P (x ∷ xs) ys h k = (h.0, all-append P xs ys h.1 k)

pub own-parts : (P : Plain → Type 0) (b : Bool) (t : Plain) (ts : List Plain) → (b ≡ true → P t) → AllByRecursion P ts → AllByRecursion P (cond b (t ∷ ts) ts)
own-parts P true t ts h k = (h refl, k)
own-parts P false t ts h k = k

pub parts_above : (eq : Equation) (rule : Rule) (m : CutTree) → IsRule eq rule →
    HasMultis eq.types.dims m → HasTypes eq.types (tree_of m) →
    ConformsAbove eq.types rule (tree_of m) → AllByRecursion (IsPart eq rule) (components_above m)
parts_above eq rule (node a l) h multis types conforms = tt
parts_above eq rule (edge true s k p c r) h multis types conforms =
    all-append (IsPart eq rule) (components_above c) (components_above r) (parts_above eq rule c h multis.1 types.1 conforms.1) (parts_above eq rule r h multis.2 types.2 conforms.2)
parts_above eq rule (edge false s k p c r) h multis types conforms =
    let own = own-parts (IsPart eq rule) (leaves c) (root_component c) (components_above c) (component-is_part eq rule k c h multis.1 types.1 conforms.0 conforms.1) (parts_above eq rule c h multis.1 types.1 conforms.1) in
    all-append (IsPart eq rule) (cond (leaves c) (root_component c ∷ components_above c) (components_above c)) (components_above r) own (parts_above eq rule r h multis.2 types.2 conforms.2)
