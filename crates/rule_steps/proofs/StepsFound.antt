-- What is found in the rows and at the listed trees is what the next stage has.
use Rattle.std.proofs.Common.{◌≡◌, ◌≢◌, ℕ, length, List, [], ◌∷◌, refl, sym, ap, ◌∙◌, subst, arith, inl, inr, Some}
use Rattle.degree_numbers.specs.declared.types.Kind.TheVariants.{Kernel}
use Rattle.degree_numbers.specs.Types.{kind_of}
use Rattle.equations.specs.declared.equation.Equation.{Equation}
use Rattle.equations.specs.Accepted.{IsEquation}
use Rattle.ordered_lists.specs.Members.{IsIn}
use Rattle.ordered_lists.proofs.Members.{from_flat_map}
use Rattle.ordered_lists.proofs.Subs.{sub_refl}
use Rattle.plain_trees.specs.Plain.{Plain, root_of}
use Rattle.normal_rule.specs.declared.rule.NodeType.{NodeType}
use Rattle.normal_rule.specs.declared.rule.Rule.{Rule}
use Rattle.conforming_trees.specs.Conforming.{EdgeLabel, labels, node_type_of, IsAllowedAbove, ConformsAbove, IsRule}
use Rattle.conforming_trees.specs.Listed.{IsListed, IsWholeList}
use Rattle.conforming_trees.proofs.Labels.{node_type-sorted}
use Rattle.rule_stages.specs.Stages.{join, IsMade, IsInNext}
use Rattle.rule_stages.proofs.Joins.{join-part}
use Rattle.rule_stages.proofs.Next.{row_closed}
use Rattle.rule_stages.proofs.Parts.{made-part}
use Rattle.rule_steps.specs.Sets.{IsSetOf, HasMany, HasOnly, IsSumOf, IsAdditionAt}
use Rattle.rule_steps.specs.Steps.{IsMadeOf, IsFound}
use Rattle.rule_steps.specs.Sums.{raisings, options, additions_at, additions_above}
use Rattle.rule_steps.proofs.Made.{additions-are, additions-there, in_sums, from_sums, option-in_row, options-kernel}
use Rattle.rule_steps.proofs.AboveSets.{IsAbove, above-sorted, put_twice, nil-at, nil-above}
use Rattle.rule_steps.proofs.NodeSets.{set_by, many_more}

module _ (eq : Equation) (rule : Rule) (equation : IsEquation eq) (is_rule : IsRule eq rule) where
  -- where something can be added above a kernel, the root is allowed there
  allowed : (k : ℕ) (t : Plain) (rs : List EdgeLabel) → kind_of eq.types k ≡ Some Kernel →
      IsIn rs (additions_at eq.types rule k t) → IsAllowedAbove eq.types rule k t
  allowed k t rs kind h =
      let es = node_type_of t in
      let ms = from_flat_map (raisings (root_of t)) rs (options eq.types rule k es) h in
      let row = option-in_row eq rule equation is_rule k t ms.0 (subst (IsIn ms.0) (options-kernel eq rule equation is_rule k es kind) ms.1) in
      let sorted = node_type-sorted t in
      inr (row_closed eq rule k es (join ms.0 es) is_rule row (join-part [] ms.0 es es sorted sorted tt (sub_refl es)))

  pub found_is : (k : ℕ) (ts : List Plain) (es : List EdgeLabel) →
      kind_of eq.types k ≡ Some Kernel → ((t : Plain) → IsIn t ts → IsListed eq rule t) →
      IsFound eq rule k ts es → IsInNext eq rule k es
  found_is k ts es kind listed h =
      elim h [
        | inl old ↦ inl old
        | inr new ↦
            let t = new.0 in
            let is = listed t new.1 in
            let first = from_sums (additions_at eq.types rule k t) (additions_above eq.types rule t) es new.2 in
            let made : IsMade eq rule k es = record {
              tree = t;
              listed = is;
              kernel = kind;
              additions = additions-are eq rule equation is_rule k t es (allowed k t first.0 kind first.2) is.candidate.conforming.above new.2;
            } in
            inr (es, made, sub_refl es)
      ]

  pub next_is_found : (k : ℕ) (ts : List Plain) (es : List EdgeLabel) → IsWholeList eq rule ts → IsInNext eq rule k es → IsFound eq rule k ts es
  next_is_found k ts es whole h =
      elim h [
        | inl old ↦ inl old
        | inr new ↦
            let made = made-part eq rule k es new.0 is_rule new.1 new.2 in
            inr (made.tree, whole.whole made.tree made.listed, additions-there eq rule equation is_rule k made.tree es made.listed.candidate.types made.additions)
      ]

  -- what is made of a tree, from the sets of its parts
  module _ (k : ℕ) (t : Plain) (kind : kind_of eq.types k ≡ Some Kernel) (conforms : ConformsAbove eq.types rule t) where
    abbrev pub AtRoot : List EdgeLabel → Type 0
    AtRoot = IsAdditionAt eq.types rule k t

    abbrev pub Above : List EdgeLabel → Type 0
    Above = IsAbove eq.types rule t

    abbrev pub OfTree : List EdgeLabel → Type 0
    OfTree = IsMadeOf eq.types rule k t

    pub many_at : HasMany AtRoot → HasMany OfTree
    many_at h =
        many_more AtRoot OfTree
        (λ es a. subst OfTree (sym a.2) (in_sums (additions_at eq.types rule k t) (additions_above eq.types rule t) a.0 [] a.1 (nil-above eq rule equation is_rule t conforms))) h

    pub many_above : (xs : List NodeType) → length xs ≢ 0 → IsSetOf AtRoot xs → HasMany Above → HasMany OfTree
    many_above [] some at h = absurd (some refl)
    many_above (x ∷ xs) some at h =
        let first = at.only x (inl refl) in
        let none = nil-at eq rule equation is_rule k t (allowed k t first.0 kind first.1) in
        many_more Above OfTree (λ es b. in_sums (additions_at eq.types rule k t) (additions_above eq.types rule t) [] es none b) h

    sum_is : (xs ys : List NodeType) (es : List EdgeLabel) → HasOnly AtRoot xs → HasOnly Above ys → IsSumOf xs ys es → OfTree es
    sum_is xs ys es at above s =
        let a = at s.0 s.2 in
        let b = above s.1 s.3 in
        let same : join a.0 (labels s.1) ≡ es = sym (put_twice a.0 (labels s.1) (above-sorted eq.types rule t (labels s.1) b)) ∙ ap (λ (l : List EdgeLabel). join l (labels s.1)) (sym a.2) ∙ sym s.4 in
        subst OfTree same (in_sums (additions_at eq.types rule k t) (additions_above eq.types rule t) a.0 (labels s.1) a.1 b)

    pub many_sums : (xs ys : List NodeType) → IsSetOf AtRoot xs → IsSetOf Above ys → HasMany (IsSumOf xs ys) → HasMany OfTree
    many_sums xs ys at above h = many_more (IsSumOf xs ys) OfTree (λ es s. sum_is xs ys es at.only above.only s) h

    sum_there : (xs ys : List NodeType) (es : List EdgeLabel) → IsSetOf AtRoot xs → IsSetOf Above ys → OfTree es → IsSumOf xs ys es
    sum_there xs ys es at above h =
        let parts = from_sums (additions_at eq.types rule k t) (additions_above eq.types rule t) es h in
        let x = at.all (join parts.0 []) (parts.0, parts.2, refl) in
        let y = above.all parts.1 parts.3 in
        let same : es ≡ join (labels x.0) (labels y.0) =
        parts.4 ∙ sym (put_twice parts.0 parts.1 (above-sorted eq.types rule t parts.1 parts.3)) ∙ ap (λ (l : List EdgeLabel). join l parts.1) (sym x.2) ∙ ap (join (labels x.0)) (sym y.2) in
        (x.0, y.0, x.1, y.1, same)

    pub sums_made : (xs ys ns : List NodeType) → IsSetOf AtRoot xs → IsSetOf Above ys → IsSetOf (IsSumOf xs ys) ns → IsSetOf OfTree ns
    sums_made xs ys ns at above h = set_by (IsSumOf xs ys) OfTree ns (λ es s. sum_is xs ys es at.only above.only s) (λ es m. sum_there xs ys es at above m) h

    pub none_made : (xs : List NodeType) → length xs ≡ 0 → IsSetOf AtRoot xs → IsSetOf OfTree xs
    none_made [] none at = record {
      ascending = at.ascending;
      all = λ es h.
          (let parts = from_sums (additions_at eq.types rule k t) (additions_above eq.types rule t) es h in
          absurd (at.all (join parts.0 []) (parts.0, parts.2, refl)).1);
      only = λ n i. absurd i;
    }
    none_made (x ∷ xs) none at = absurd (omega (arith, none))
