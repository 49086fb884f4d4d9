-- The node types of a row of the next stage, tree by tree.
use Rattle.std.proofs.Common.{◌≡◌, ℕ, zero, suc, ◌+◌, ◌<◌, ◌≤◌, List, [], ◌∷◌, ◌++◌, length, take, get_or, refl, sym, ap, ◌∙◌, subst, inl, inr, Some}
use Rattle.std.proofs.lemmas.List.{take_more, take_all, map-append}
use Rattle.std.specs.List.{take-map}
use Rattle.degree_numbers.specs.declared.types.Kind.TheVariants.{Kernel}
use Rattle.degree_numbers.specs.Types.{kind_of}
use Rattle.equations.specs.declared.equation.Equation.{Equation}
use Rattle.equations.specs.Accepted.{IsEquation}
use Rattle.ordered_lists.specs.Members.{IsIn, insert_all}
use Rattle.ordered_lists.proofs.Members.{in_append_left, in_append_right, from_append, in_map, member_at}
use Rattle.plain_trees.specs.Plain.{Plain}
use Rattle.tree_pool.specs.Content.{Content, tree_at}
use Rattle.tree_pool.specs.declared.node.TreeId.{TreeId}
use Rattle.normal_rule.specs.declared.rule.NodeType.{NodeType}
use Rattle.normal_rule.specs.declared.rule.Rule.{Rule}
use Rattle.normal_rule.specs.declared.rule.RuleRow.{RuleRow}
use Rattle.normal_rule.specs.Order.{node_order}
use Rattle.conforming_trees.specs.Conforming.{EdgeLabel, ConformsAbove, IsRule}
use Rattle.conforming_trees.specs.Listed.{IsWholeList}
use Rattle.conforming_trees.proofs.Kernels.{row_kind}
use Rattle.rule_stages.specs.Stages.{IsInNext}
use Rattle.rule_steps.specs.Sets.{IsSetOf, HasMany}
use Rattle.rule_steps.specs.Steps.{trees_of, IsMadeOf, IsFound}
use Rattle.rule_steps.proofs.NodeSets.{set_none, set_by, set_put, many_of, many_more}
use Rattle.rule_steps.proofs.Rows.{from_kernel_row, nodes_of_row}
use Rattle.rule_steps.proofs.StepsFound.{found_is, next_is_found}

from_take : (xs : List Plain) (i : ℕ) (x : Plain) → IsIn x (take i xs) → IsIn x xs
from_take [] zero x h = absurd h
from_take [] (suc i) x h = absurd h
from_take (y ∷ ys) zero x h = absurd h
from_take (y ∷ ys) (suc i) x h = elim h [ inl e ↦ inl e | inr r ↦ inr (from_take ys i x r) ]

found_put : (eq : Equation) (rule : Rule) (k : ℕ) (ts : List Plain) (t : Plain) (keys ns : List NodeType) →
    IsSetOf (IsFound eq rule k ts) keys → IsSetOf (IsMadeOf eq.types rule k t) ns →
    IsSetOf (IsFound eq rule k (ts ++ t ∷ [])) (insert_all node_order keys ns)
found_put eq rule k ts t keys ns h made =
    set_put (IsFound eq rule k ts) (IsFound eq rule k (ts ++ t ∷ [])) keys ns h
    (λ es f. elim f [ inl old ↦ inl old | inr new ↦ inr (new.0, in_append_left new.0 ts (t ∷ []) new.1, new.2) ])
    (λ es there. inr (t, in_append_right t ts (t ∷ []) (inl refl), subst (IsMadeOf eq.types rule k t) there.2 (made.only there.0 there.1)))
    (λ es f. elim f [
      | inl old ↦ inl (inl old)
      | inr new ↦
          elim (from_append new.0 ts (t ∷ []) new.1) [
            | inl before ↦ inl (inr (new.0, before, new.2))
            | inr last ↦ inr (made.all es (elim last [ inl e ↦ subst (λ (u : Plain). IsMadeOf eq.types rule k u es) (sym e) new.2 | inr none ↦ absurd none ]))
          ]
    ])

module _ (eq : Equation) (rule : Rule) (equation : IsEquation eq) (is_rule : IsRule eq rule) (row : RuleRow) (member : IsIn row rule.rows) where
  pub kernel_kind : kind_of eq.types row.kernel.0 ≡ Some Kernel
  kernel_kind = row_kind eq rule row equation is_rule.rows member

  row_found : IsSetOf (IsFound eq rule row.kernel.0 []) row.nodes
  row_found = record {
    ascending = (is_rule.normal row member).ascending;
    all = λ es f. elim f [
      | inl old ↦ let n = from_kernel_row eq rule equation is_rule row.kernel.0 es old in (n.0, subst (IsIn n.0) (nodes_of_row eq rule equation is_rule row member) n.1, n.2)
      | inr new ↦ absurd new.1
    ];
    only = λ n i. inl (row, member, refl, (n, i, refl));
  }

  row_put : IsSetOf (IsFound eq rule row.kernel.0 []) (insert_all node_order [] row.nodes)
  row_put =
      set_put (λ es. ⊥) (IsFound eq rule row.kernel.0 []) [] row.nodes (set_none (λ es. ⊥) (λ es none. none))
      (λ es none. absurd none)
      (λ es there. subst (IsFound eq rule row.kernel.0 []) there.2 (row_found.only there.0 there.1))
      (λ es f. inr (row_found.all es f))

  -- before the first tree
  pub found_first : (nodes copies keys next : List NodeType) → nodes ≡ row.nodes → copies ≡ nodes →
      keys ≡ [] → next ≡ insert_all node_order keys copies →
      IsSetOf (IsFound eq rule row.kernel.0 []) next
  found_first nodes copies keys next of copied empty put =
      let same : next ≡ insert_all node_order [] row.nodes = put ∙ ap (λ (l : List NodeType). insert_all node_order l copies) empty ∙ ap (insert_all node_order []) (copied ∙ of) in
      subst (IsSetOf (IsFound eq rule row.kernel.0 [])) (sym same) row_put

  module _ (c : Content) (ids : List TreeId) (whole : IsWholeList eq rule (trees_of c ids)) where
    pub tree_conforms : (i : ℕ) (id : TreeId) → i < length ids → id ≡ get_or ids i id → ConformsAbove eq.types rule (tree_at c id.0)
    tree_conforms i id lt is = (whole.listed (tree_at c id.0) (in_map (λ (x : TreeId). tree_at c x.0) id ids (member_at ids i id lt is))).candidate.conforming.above

    found_sound : (ts : List Plain) → ((t : Plain) → IsIn t ts → IsIn t (trees_of c ids)) → (es : List EdgeLabel) → IsFound eq rule row.kernel.0 ts es → IsInNext eq rule row.kernel.0 es
    found_sound ts among es f = found_is eq rule equation is_rule row.kernel.0 ts es kernel_kind (λ t i. whole.listed t (among t i)) f

    among_taken : (i : ℕ) (t : Plain) → IsIn t (trees_of c (take i ids)) → IsIn t (trees_of c ids)
    among_taken i t h = from_take (trees_of c ids) i t (subst (IsIn t) (sym (take-map (λ (x : TreeId). tree_at c x.0) i ids)) h)

    one_more : (i : ℕ) (id : TreeId) → i < length ids → id ≡ get_or ids i id → trees_of c (take (i + 1) ids) ≡ trees_of c (take i ids) ++ tree_at c id.0 ∷ []
    one_more i id lt is =
        let tree : TreeId → Plain = λ x. tree_at c x.0 in
        ap (trees_of c) (take_more ids i id lt ∙ ap (λ (x : TreeId). take i ids ++ x ∷ []) (sym is)) ∙ map-append tree (take i ids) (id ∷ [])

    -- one tree more
    pub found_step : (i : ℕ) (id : TreeId) (keys ns next : List NodeType) → i < length ids → id ≡ get_or ids i id → IsSetOf (IsFound eq rule row.kernel.0 (trees_of c (take i ids))) keys →
        IsSetOf (IsMadeOf eq.types rule row.kernel.0 (tree_at c id.0)) ns → next ≡ insert_all node_order keys ns → IsSetOf (IsFound eq rule row.kernel.0 (trees_of c (take (i + 1) ids))) next
    found_step i id keys ns next lt is h made put =
        subst (IsSetOf (IsFound eq rule row.kernel.0 (trees_of c (take (i + 1) ids)))) (sym put)
        (subst (λ (ts : List Plain). IsSetOf (IsFound eq rule row.kernel.0 ts) (insert_all node_order keys ns)) (sym (one_more i id lt is)) (found_put eq rule row.kernel.0 (trees_of c (take i ids)) (tree_at c id.0) keys ns h made))

    pub found_last : (i : ℕ) (keys : List NodeType) → length ids ≤ i → IsSetOf (IsFound eq rule row.kernel.0 (trees_of c (take i ids))) keys → IsSetOf (IsInNext eq rule row.kernel.0) keys
    found_last i keys end h =
        set_by (IsFound eq rule row.kernel.0 (trees_of c ids)) (IsInNext eq rule row.kernel.0) keys (found_sound (trees_of c ids) (λ t j. j)) (λ es n. next_is_found eq rule equation is_rule row.kernel.0 (trees_of c ids) es whole n)
        (subst (λ (l : List TreeId). IsSetOf (IsFound eq rule row.kernel.0 (trees_of c l)) keys) (take_all i ids end) h)

    -- more than 2,000 on the way
    pub many_first : (nodes copies keys : List NodeType) → nodes ≡ row.nodes → copies ≡ nodes → keys ≡ [] → 2000 < length (insert_all node_order keys copies) → HasMany (IsInNext eq rule row.kernel.0)
    many_first nodes copies keys of copied empty more =
        let put = insert_all node_order keys copies in
        many_more (IsFound eq rule row.kernel.0 []) (IsInNext eq rule row.kernel.0) (found_sound [] (λ t j. absurd j)) (many_of (IsFound eq rule row.kernel.0 []) put (found_first nodes copies keys put of copied empty refl) more)

    pub many_made : (i : ℕ) (id : TreeId) → i < length ids → id ≡ get_or ids i id → HasMany (IsMadeOf eq.types rule row.kernel.0 (tree_at c id.0)) → HasMany (IsInNext eq rule row.kernel.0)
    many_made i id lt is h =
        let tree : TreeId → Plain = λ x. tree_at c x.0 in
        let there : IsIn (tree_at c id.0) (trees_of c ids) = in_map tree id ids (member_at ids i id lt is) in
        many_more (IsMadeOf eq.types rule row.kernel.0 (tree_at c id.0)) (IsInNext eq rule row.kernel.0) (λ es m. found_sound (trees_of c ids) (λ t j. j) es (inr (tree_at c id.0, there, m))) h

    pub many_put : (i : ℕ) (id : TreeId) (keys ns : List NodeType) → i < length ids → id ≡ get_or ids i id → IsSetOf (IsFound eq rule row.kernel.0 (trees_of c (take i ids))) keys →
        IsSetOf (IsMadeOf eq.types rule row.kernel.0 (tree_at c id.0)) ns → 2000 < length (insert_all node_order keys ns) → HasMany (IsInNext eq rule row.kernel.0)
    many_put i id keys ns lt is h made more =
        let next = insert_all node_order keys ns in
        let ts = trees_of c (take (i + 1) ids) in
        many_more (IsFound eq rule row.kernel.0 ts) (IsInNext eq rule row.kernel.0) (found_sound ts (among_taken (i + 1)))
        (many_of (IsFound eq rule row.kernel.0 ts) next (found_step i id keys ns next lt is h made refl) more)
