-- What the normal rule has: a row for each kernel, few edges, small entries, known types.
use Rattle.std.proofs.Common.{◌≡◌, ℕ, ◌<◌, ◌≤◌, List, [], ◌∷◌, length, map, refl, ap, sym, ◌∙◌, subst, inl, inr, arith}
use Rattle.std.specs.List.{All}
use Rattle.std.proofs.lemmas.List.{length-map}
use Rattle.std.proofs.lemmas.List.Elements.{All-tail}
use Rattle.degree_numbers.specs.declared.types.TypeId.{TypeId}
use Rattle.degree_numbers.specs.declared.types.Types.{Types}
use Rattle.degree_numbers.specs.Multi.{IsMultiIndex}
use Rattle.equations.specs.declared.equation.Equation.{Equation}
use Rattle.equations.specs.declared.equation.RightTerm.{RightTerm}
use Rattle.equations.specs.declared.equation.Unknown.{Unknown}
use Rattle.equations.specs.Accepted.{IsEquation, IsUnknown, IsRightTerm, IsFactor}
use Rattle.ordered_lists.specs.Members.{IsIn}
use Rattle.ordered_lists.specs.Subs.{IsSubMultiset}
use Rattle.ordered_lists.proofs.Members.{all_at, all_from_members, in_map}
use Rattle.ordered_lists.proofs.Subs.{sub_member}
use Rattle.normal_rule.specs.declared.rule.EdgeType.{EdgeType}
use Rattle.normal_rule.specs.declared.rule.NodeType.{NodeType}
use Rattle.normal_rule.specs.declared.rule.RuleRow.{RuleRow}
use Rattle.normal_rule.specs.declared.rule.Rule.{Rule}
use Rattle.normal_rule.specs.Order.{pair_of, pairs, empty_node}
use Rattle.normal_rule.specs.OverTypes.{HasDirections}
use Rattle.normal_rule.specs.Regularity.{HasRows, IsMeasuredNode, AreMeasured}
use Rattle.normal_rule.specs.Rule.{IsRow, AreRows, IsNormalRule}
use Rattle.normal_rule.specs.Text.{IsKnownNode, AreKnown}

-- a sub-multiset is no longer
sub_length : {X : Type 0} (ns xs : List X) → IsSubMultiset ns xs → length ns ≤ length xs
sub_length [] xs h = omega arith
sub_length (n ∷ ns) [] h = absurd h
sub_length (n ∷ ns) (x ∷ xs) h = elim h [ inl taken ↦ omega (arith, sub_length ns xs taken.1) | inr left ↦ omega (arith, sub_length (n ∷ ns) xs left) ]

-- a node type without edge types has what is asked of each edge type
none : (P : EdgeType → Type 0) → All P []
none P = λ k d lt. absurd (omega arith)

-- an edge type of a node type is a factor of the term
factor_at : (n : NodeType) (e : EdgeType) (t : RightTerm) → IsSubMultiset (pairs n) t.factors → IsIn e n.edges → IsIn (pair_of e) t.factors
factor_at n e t h k = sub_member (pair_of e) (pairs n) t.factors h (in_map pair_of e n.edges k)

module _ (ty : Types) (count : ℕ) where
  node_measured : (u : Unknown) (row : RuleRow) (n : NodeType) → All (IsRightTerm ty count) u.right → IsRow u row → IsIn n row.nodes → IsMeasuredNode n
  node_measured u row n terms h k =
      elim (h.allowed n k) [
        | inl e ↦ subst IsMeasuredNode (sym e) (omega arith, none (λ e. All (λ m. m ≤ 4096) e.p.entries))
        | inr t ↦
            let term = all_at (IsRightTerm ty count) u.right t.0 terms t.1 in (
              omega (arith, term.few, sub_length (pairs n) t.0.factors t.3, length-map n.edges pair_of),
              all_from_members (λ e. All (λ m. m ≤ 4096) e.p.entries) n.edges
                  (λ e m. let small = (all_at (IsFactor ty) t.0.factors (pair_of e) term.factors_known (factor_at n e t.0 t.3 m)).small in λ i d lt. let few = small i d lt in omega (arith, few)),
            )
      ]

  node_known : (u : Unknown) (row : RuleRow) (n : NodeType) → All (IsRightTerm ty count) u.right → IsRow u row → IsIn n row.nodes → IsKnownNode ty n
  node_known u row n terms h k =
      elim (h.allowed n k) [
        | inl e ↦ subst (IsKnownNode ty) (sym e) (none (λ e. e.kind.0 < length ty.list))
        | inr t ↦
            let term = all_at (IsRightTerm ty count) u.right t.0 terms t.1 in
            all_from_members (λ e. e.kind.0 < length ty.list) n.edges (λ e m. (all_at (IsFactor ty) t.0.factors (pair_of e) term.factors_known (factor_at n e t.0 t.3 m)).known)
      ]

  node_directions : (u : Unknown) (row : RuleRow) (n : NodeType) →
      All (IsRightTerm ty count) u.right → IsRow u row → IsIn n row.nodes →
      All (λ e. IsMultiIndex ty.dims e.p.entries) n.edges
  node_directions u row n terms h k =
      elim (h.allowed n k) [
        | inl e ↦ subst (λ (m : NodeType). All (λ e. IsMultiIndex ty.dims e.p.entries) m.edges) (sym e) (none (λ e. IsMultiIndex ty.dims e.p.entries))
        | inr t ↦
            let term = all_at (IsRightTerm ty count) u.right t.0 terms t.1 in
            all_from_members (λ e. IsMultiIndex ty.dims e.p.entries) n.edges (λ e m. (all_at (IsFactor ty) t.0.factors (pair_of e) term.factors_known (factor_at n e t.0 t.3 m)).derivative)
      ]

  -- what holds of each row of an unknown holds of all
  each_row : (P : RuleRow → Type 0) →
      ((u : Unknown) (row : RuleRow) → All (IsRightTerm ty count) u.right → IsRow u row → P row) →
      (us : List Unknown) (rows : List RuleRow) → All (IsUnknown ty count) us → AreRows us rows
      → (row : RuleRow) → IsIn row rows → P row
  each_row P one [] [] h r row k = absurd k
  each_row P one [] (x ∷ rows) h r row k = absurd r
  each_row P one (u ∷ us) [] h r row k = absurd r
  each_row P one (u ∷ us) (x ∷ rows) h r row k =
      elim k [
        | inl e ↦ subst P e (one u x ((h 0 u (omega arith)).terms) r.0)
        | inr later ↦ each_row P one us rows (All-tail (IsUnknown ty count) u us h) r.1 row later
      ]

same_kernels : (us : List Unknown) (rows : List RuleRow) → AreRows us rows → map (λ (r : RuleRow). r.kernel) rows ≡ map (λ (u : Unknown). u.kernel) us
same_kernels [] [] h = refl
same_kernels [] (r ∷ rows) h = absurd h
same_kernels (u ∷ us) [] h = absurd h
same_kernels (u ∷ us) (r ∷ rows) h =
    let first : r.kernel ≡ u.kernel = h.0.kernel in
    ap (λ (k : TypeId). k ∷ map (λ (s : RuleRow). s.kernel) rows) first ∙ ap (λ (ks : List TypeId). u.kernel ∷ ks) (same_kernels us rows h.1)

pub rule_rows : (eq : Equation) (rule : Rule) → IsEquation eq → IsNormalRule eq rule → HasRows eq rule
rule_rows eq rule h r = record {
  kernels = same_kernels eq.unknowns rule.rows r;
  empty = each_row eq.types (length eq.parameters) (λ row. IsIn empty_node row.nodes) (λ u row terms is. is.whole empty_node (inl refl)) eq.unknowns rule.rows h.unknowns r;
}

pub rule_measured : (eq : Equation) (rule : Rule) → IsEquation eq → IsNormalRule eq rule → AreMeasured rule.rows
rule_measured eq rule h r =
    all_from_members (λ (row : RuleRow). All IsMeasuredNode row.nodes) rule.rows
    (each_row eq.types (length eq.parameters) (λ row. All IsMeasuredNode row.nodes) (λ u row terms is. all_from_members IsMeasuredNode row.nodes (λ n k. node_measured eq.types (length eq.parameters) u row n terms is k)) eq.unknowns rule.rows h.unknowns r)

pub rule_known : (eq : Equation) (rule : Rule) → IsEquation eq → IsNormalRule eq rule → AreKnown eq.types rule.rows
rule_known eq rule h r =
    all_from_members (λ (row : RuleRow). All (IsKnownNode eq.types) row.nodes) rule.rows
    (each_row eq.types (length eq.parameters) (λ row. All (IsKnownNode eq.types) row.nodes) (λ u row terms is. all_from_members (IsKnownNode eq.types) row.nodes (λ n k. node_known eq.types (length eq.parameters) u row n terms is k)) eq.unknowns rule.rows h.unknowns r)

pub rule_directions : (eq : Equation) (rule : Rule) → IsEquation eq → IsNormalRule eq rule → HasDirections eq.types.dims rule.rows
rule_directions eq rule h r =
    let Directed = λ (n : NodeType). All (λ e. IsMultiIndex eq.types.dims e.p.entries) n.edges in
    all_from_members (λ (row : RuleRow). All Directed row.nodes) rule.rows
    (each_row eq.types (length eq.parameters) (λ row. All Directed row.nodes) (λ u row terms is. all_from_members Directed row.nodes (λ n k. node_directions eq.types (length eq.parameters) u row n terms is k)) eq.unknowns rule.rows h.unknowns r)
