-- The kernels of the rows, and the edge types of their node types.
use Rattle.std.proofs.Common.{◌≡◌, ℕ, zero, suc, ◌+◌, ◌-◌, ◌<◌, ◌≤◌, List, [], ◌∷◌, length, map, drop, sym, ap, ◌∙◌, subst, inl, inr, arith, Some, length-drop, unsigned_abs}
use Rattle.std.specs.Prelude.{slice_get}
use Rattle.std.specs.List.{All, AllByRecursion, range_with_len}
use Rattle.std.specs.Option.{option_map}
use Rattle.std.proofs.lemmas.Simd.{map-map}
use Rattle.degree_numbers.specs.declared.types.TypeId.{TypeId}
use Rattle.degree_numbers.specs.declared.types.TypeEntry.{TypeEntry}
use Rattle.degree_numbers.specs.declared.types.Kind.{Kind}
use Rattle.degree_numbers.specs.declared.types.Kind.TheVariants.{Kernel}
use Rattle.degree_numbers.specs.Types.{kind_of, kernels, noise_count, IsKernelEntry}
use Rattle.equations.specs.declared.equation.Equation.{Equation}
use Rattle.equations.specs.declared.equation.Unknown.{Unknown}
use Rattle.equations.specs.Accepted.{IsEquation}
use Rattle.ordered_lists.specs.Members.{IsIn}
use Rattle.ordered_lists.proofs.Members.{all_at, in_map}
use Rattle.plain_trees.specs.Degree.{IsMultiIndex}
use Rattle.normal_rule.specs.declared.rule.EdgeType.{EdgeType}
use Rattle.normal_rule.specs.declared.rule.NodeType.{NodeType}
use Rattle.normal_rule.specs.declared.rule.RuleRow.{RuleRow}
use Rattle.normal_rule.specs.declared.rule.Rule.{Rule}
use Rattle.normal_rule.specs.Regularity.{HasRows}
use Rattle.normal_rule.specs.Text.{IsKnownNode}
use Rattle.conforming_trees.specs.Conforming.{EdgeLabel, label, labels, IsRule}

-- a member of a range of numbers
in_range : (a n k : ℕ) → IsIn k (range_with_len a n) → (a ≤ k) × (k < a + n)
in_range a zero k h = absurd h
in_range a (suc n) k (inl e) = (omega (arith, e), omega (arith, e))
in_range a (suc n) k (inr h) = let later = in_range (a + 1) n k h in (omega (arith, later.0), omega (arith, later.1))

-- an entry behind the front
kind_behind : (P : TypeEntry → Type 0) (kind : Kind) (es : List TypeEntry) (m k : ℕ) →
    ((e : TypeEntry) → P e → e.kind ≡ kind) → AllByRecursion P (drop m es) → m ≤ k → k < length es →
    option_map (λ e. e.kind) (slice_get es k) ≡ Some kind
kind_behind P kind [] m k one h l lt = absurd (omega (arith, lt))
kind_behind P kind (e ∷ es) zero zero one h l lt = ap Some (one e h.0)
kind_behind P kind (e ∷ es) zero (suc k) one h l lt = kind_behind P kind es zero k one h.1 (omega arith) (omega (arith, lt))
kind_behind P kind (e ∷ es) (suc m) zero one h l lt = absurd (omega (arith, l))
kind_behind P kind (e ∷ es) (suc m) (suc k) one h l lt = kind_behind P kind es m k one h (omega (arith, l)) (omega (arith, lt))

abbrev number : TypeId → ℕ
number k = k.0

abbrev first_of : EdgeLabel → List EdgeLabel → EdgeLabel
first_of e [] = e
first_of e (f ∷ fs) = f

module _ (eq : Equation) (rule : Rule) where
  -- the type of a row is that of a kernel
  pub row_kind : (row : RuleRow) → IsEquation eq → HasRows eq rule → IsIn row rule.rows → kind_of eq.types row.kernel.0 ≡ Some Kernel
  row_kind row q h i =
      let numbers : map (λ (r : RuleRow). r.kernel.0) rule.rows ≡ map (λ (u : Unknown). u.kernel.0) eq.unknowns =
      sym (map-map number (λ (r : RuleRow). r.kernel) rule.rows) ∙ ap (map number) h.kernels ∙ map-map number (λ (u : Unknown). u.kernel) eq.unknowns in
      let place = in_range (noise_count eq.types) (length (kernels eq.types)) row.kernel.0
      (subst (IsIn row.kernel.0) (numbers ∙ q.kernels) (in_map (λ (r : RuleRow). r.kernel.0) row rule.rows i)) in
      let count : length (kernels eq.types) ≡ length eq.types.list - noise_count eq.types = length-drop (noise_count eq.types) eq.types.list in
      kind_behind (IsKernelEntry (unsigned_abs eq.types.units.den)) Kernel eq.types.list (noise_count eq.types) row.kernel.0 (λ e p. p.kind) q.types.of_kernels place.0 (omega (arith, place.1, count, place.0))

  first_edge : (P : EdgeType → Type 0) (edges : List EdgeType) (k : ℕ) (p : List ℕ) (es : List EdgeLabel) →
      All P edges → map label edges ≡ (k, p) ∷ es →
      (e : EdgeType) × P e × (e.kind.0 ≡ k) × (e.p.entries ≡ p)
  first_edge P [] k p es h same = absurd cc
  first_edge P (e ∷ edges) k p es h same = (e, h 0 e (omega arith), ap (λ (l : List EdgeLabel). (first_of (k, p) l).0) same, ap (λ (l : List EdgeLabel). (first_of (k, p) l).1) same)

  -- the first edge type of a node type of the rule
  pub edge_known : (row : RuleRow) (n : NodeType) (k : ℕ) (p : List ℕ) (es : List EdgeLabel) →
      IsRule eq rule → IsIn row rule.rows → IsIn n row.nodes → labels n ≡ (k, p) ∷ es →
      k < length eq.types.list
  edge_known row n k p es r i m same =
      let e = first_edge (λ e. e.kind.0 < length eq.types.list) n.edges k p es (all_at (IsKnownNode eq.types) row.nodes n (all_at (λ (w : RuleRow). All (IsKnownNode eq.types) w.nodes) rule.rows row r.known i) m) same in
      subst (λ (x : ℕ). x < length eq.types.list) e.2 e.1

  pub edge_directions : (row : RuleRow) (n : NodeType) (k : ℕ) (p : List ℕ) (es : List EdgeLabel) →
      IsRule eq rule → IsIn row rule.rows → IsIn n row.nodes → labels n ≡ (k, p) ∷ es →
      IsMultiIndex eq.types.dims p
  edge_directions row n k p es r i m same =
      let e = first_edge (λ e. IsMultiIndex eq.types.dims e.p.entries) n.edges k p es
      (all_at (λ (x : NodeType). All (λ e. IsMultiIndex eq.types.dims e.p.entries) x.edges) row.nodes n (all_at (λ (w : RuleRow). All (λ x. All (λ e. IsMultiIndex eq.types.dims e.p.entries) x.edges) w.nodes) rule.rows row r.directions i) m) same in
      subst (IsMultiIndex eq.types.dims) e.3 e.1
