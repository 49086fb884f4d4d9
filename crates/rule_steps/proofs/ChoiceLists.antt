-- What can be added to edge types: how it is found, and what it has of the rule.
use Rattle.std.proofs.Common.{◌≡◌, ℕ, ◌≤◌, ◌<◌, ◌^◌, ◌==◌, true, false, Bool, cond, List, [], ◌∷◌, ◌++◌, length, map, drop, refl, sym, ap, ◌∙◌, subst, arith, inl, inr, Some, None, Option}
use Rattle.std.specs.List.{All, AllByRecursion}
use Rattle.std.specs.Option.{option_map, is_some}
use Rattle.std.specs.Ordering.{is_eq}
use Rattle.std.proofs.lemmas.Bool.Decides.{nat_tests}
use Rattle.std.proofs.lemmas.List.Elements.{All-tail, All-cons, All-nil}
use Rattle.std.proofs.lemmas.List.{append-nil, drop_all, length-map}
use Rattle.degree_numbers.specs.declared.types.Kind.{Kind}
use Rattle.degree_numbers.specs.declared.types.Kind.TheVariants.{Noise, Kernel}
use Rattle.degree_numbers.specs.Types.{kind_of}
use Rattle.equations.specs.declared.equation.Equation.{Equation}
use Rattle.equations.specs.Accepted.{IsEquation}
use Rattle.ordered_lists.specs.Members.{IsIn}
use Rattle.ordered_lists.proofs.Members.{from_flat_map}
use Rattle.plain_trees.specs.Degree.{IsMultiIndex}
use Rattle.normal_rule.specs.declared.rule.EdgeType.{EdgeType}
use Rattle.normal_rule.specs.declared.rule.NodeType.{NodeType}
use Rattle.normal_rule.specs.declared.rule.Rule.{Rule}
use Rattle.conforming_trees.specs.Conforming.{EdgeLabel, edge_label_order, label, labels, IsRule}
use Rattle.conforming_trees.proofs.Labels.{part-sorted}
use Rattle.rule_steps.specs.Choices.{IsSmallLabel, IsChoice}
use Rattle.rule_steps.specs.Sets.{IsSmallRule}
use Rattle.rule_steps.specs.Sums.{without, nodes_of_kernel, listed_option, options_in, options_by, options}
use Rattle.rule_steps.proofs.Made.{all-part}
use Rattle.rule_steps.proofs.Options.{without-rest}
use Rattle.rule_steps.proofs.Rows.{in_rows, node_labels_sorted, node_directions}

is_some-map : {X Y : Type 0} (f : X → Y) (o : Option X) → is_some (option_map f o) ≡ is_some o
is_some-map f None = refl
is_some-map f (Some x) = refl

-- nothing is left of the list
without-end : (es : List EdgeType) (i : ℕ) (fs : List EdgeLabel) → length es ≤ i → without (map label (drop i es)) fs ≡ without [] fs
without-end es i fs h = ap (λ l. without (map label l) fs) (drop_all i es h)

pub all_end : (es rest : List EdgeType) (i : ℕ) (b whole : Bool) → length es ≤ i →
    b ≡ (length rest == 0) → is_some (without (map label (drop i es)) (map label rest)) ≡ whole →
    b ≡ whole
all_end es rest i b whole le is h = is ∙ empty rest ∙ sym (ap is_some (without-end es i (map label rest) le)) ∙ h
  where
    empty : (fs : List EdgeType) → (length fs == 0) ≡ is_some (without [] (map label fs))
    empty [] = refl
    empty (f ∷ fs) = grind (arith, nat_tests)

left-end : (front rest : List EdgeLabel) (o : Option (List EdgeLabel)) →
    option_map (λ ms. front ++ ms) (without [] rest) ≡ o → is_some o ≡ true → Some front ≡ o
left-end front [] o h s = ap Some (sym (append-nil front)) ∙ h
left-end front (r ∷ rest) None h s = absurd cc
left-end front (r ∷ rest) (Some ms) h s = absurd cc

pub left_whole : (es fs rest left made : List EdgeType) (i : ℕ) → length es ≤ i → is_some (without (map label es) (map label fs)) ≡ true →
    option_map (λ ms. map label left ++ ms) (without (map label (drop i es)) (map label rest)) ≡ without (map label es) (map label fs) → made ≡ left → Some (map label made) ≡ without (map label es) (map label fs)
left_whole es fs rest left made i le all h is =
    let behind : List EdgeLabel → List EdgeLabel = λ ms. map label left ++ ms in
    ap (λ l. Some (map label l)) is
    ∙ left-end (map label left) (map label rest) (without (map label es) (map label fs)) (sym (ap (option_map behind) (without-end es i (map label rest) le)) ∙ h) all

-- others that are more do not stand there
without-short : (es fs : List EdgeLabel) → length es < length fs → is_some (without es fs) ≡ false
without-short es [] h = absurd (omega (arith, h))
without-short [] (f ∷ fs) h = refl
without-short (e ∷ es) (f ∷ fs) h = at (is_eq (edge_label_order e f)) (without-short es fs (omega (arith, h))) (without-short es (f ∷ fs) (omega (arith, h)))
  where
    at : (b : Bool) → is_some (without es fs) ≡ false → is_some (without es (f ∷ fs)) ≡ false → is_some (cond b (without es fs) (option_map (λ ms. e ∷ ms) (without es (f ∷ fs)))) ≡ false
    at true one two = one
    at false one two = is_some-map (λ ms. e ∷ ms) (without es (f ∷ fs)) ∙ two

pub all_short : (es fs : List EdgeType) → length es < length fs → false ≡ is_some (without (map label es) (map label fs))
all_short es fs h = sym (without-short (map label es) (map label fs) (omega (arith, h, length-map es label, length-map fs label)))

-- what holds of each, in both forms
by_recursion : {X : Type 0} (P : X → Type 0) (xs : List X) → All P xs → AllByRecursion P xs
by_recursion P [] h = tt
by_recursion P (x ∷ xs) h = (h 0 x (omega arith), by_recursion P xs (All-tail P x xs h))

pub from_recursion : {X : Type 0} (P : X → Type 0) (xs : List X) → AllByRecursion P xs → All P xs
from_recursion P [] h = All-nil P
from_recursion P (x ∷ xs) h = All-cons P x xs h.0 (from_recursion P xs h.1)

-- the edge types of the rule are small
small_labels : (dims most : ℕ) (es : List EdgeType) → All (λ e. IsMultiIndex dims e.p.entries) es →
    All (λ e. All (λ m. m ≤ most) e.p.entries) es →
    AllByRecursion (IsSmallLabel most) (map label es)
small_labels dims most [] h k = tt
small_labels dims most (e ∷ es) h k = (
  record { directions = (h 0 e (omega arith)).entries; small = by_recursion (λ m. m ≤ most) e.p.entries (k 0 e (omega arith)) },
  small_labels dims most es (All-tail (λ (x : EdgeType). IsMultiIndex dims x.p.entries) e es h) (All-tail (λ (x : EdgeType). All (λ m. m ≤ most) x.p.entries) e es k),
)

module _ (eq : Equation) (rule : Rule) (equation : IsEquation eq) (is_rule : IsRule eq rule) (small : IsSmallRule (2 ^ 30) rule) where
  small_node : (k : ℕ) (n : NodeType) → IsIn n (nodes_of_kernel rule.rows k) → AllByRecursion (IsSmallLabel (2 ^ 30)) (labels n)
  small_node k n h =
      let row = in_rows rule.rows k n h in
      small_labels eq.types.dims (2 ^ 30) n.edges (node_directions eq rule equation is_rule k n h) (small row.0 row.1 n row.3)

  in_row : (k : ℕ) (fs ms : List EdgeLabel) → IsIn ms (options_in (nodes_of_kernel rule.rows k) fs) → IsChoice ms
  in_row k fs ms h =
      let n = from_flat_map (λ n. listed_option (without (labels n) fs)) ms (nodes_of_kernel rule.rows k) h in
      let part = (without-rest (labels n.0) fs ms (listed (without (labels n.0) fs) n.2)).part in
      record {
        in_order = part-sorted ms (labels n.0) part (node_labels_sorted eq rule equation is_rule k n.0 n.1);
        small = all-part (IsSmallLabel (2 ^ 30)) ms (labels n.0) part (small_node k n.0 n.1);
      }
    where
      listed : (o : Option (List EdgeLabel)) → IsIn ms (listed_option o) → o ≡ Some ms
      listed None i = absurd i
      listed (Some ns) i = elim i [ inl e ↦ ap Some e | inr none ↦ absurd none ]

  -- all that can be added is a choice
  pub option-choice : (k : ℕ) (fs ms : List EdgeLabel) → IsIn ms (options eq.types rule k fs) → IsChoice ms
  option-choice k fs ms h = at (kind_of eq.types k) h
    where
      at : (o : Option Kind) → IsIn ms (options_by o rule k fs) → IsChoice ms
      at None i = absurd i
      at (Some Noise) i =
          elim i [
            | inl e ↦ subst IsChoice e record { in_order = λ k d l m. absurd (omega arith); small = tt }
            | inr none ↦ absurd none
          ]
      at (Some Kernel) i = in_row k fs ms i
