-- The edge types of the next stage are in order, of known types, and have the directions of the
-- rule.
use Rattle.std.proofs.Common.{◌≡◌, ℕ, zero, suc, ◌≤◌, ◌<◌, true, false, Bool, cond, List, [], ◌∷◌, length, map, drop, refl, sym, ◌∙◌, subst, arith, inl, inr}
use Rattle.std.specs.List.{All, AllByRecursion}
use Rattle.std.specs.Ordering.{is_gt}
use Rattle.std.proofs.lemmas.List.Elements.{All-tail, All-nil, All-cons}
use Rattle.degree_numbers.specs.declared.types.Types.{Types}
use Rattle.degree_numbers.specs.Multi.{plus_of}
use Rattle.equations.specs.declared.equation.Equation.{Equation}
use Rattle.equations.specs.Accepted.{IsEquation}
use Rattle.ordered_lists.specs.Subs.{IsSubMultiset}
use Rattle.ordered_lists.proofs.Members.{all_at}
use Rattle.ordered_lists.proofs.Subs.{sub_trans}
use Rattle.plain_trees.specs.Plain.{Plain, bare, graft, root_of}
use Rattle.plain_trees.specs.Degree.{IsMultiIndex, HasTypes}
use Rattle.plain_trees.proofs.WrittenTrees.{root_index}
use Rattle.normal_rule.specs.declared.rule.EdgeType.{EdgeType}
use Rattle.normal_rule.specs.declared.rule.NodeType.{NodeType}
use Rattle.normal_rule.specs.declared.rule.Rule.{Rule}
use Rattle.normal_rule.specs.declared.rule.RuleRow.{RuleRow}
use Rattle.normal_rule.specs.Text.{IsKnownNode}
use Rattle.conforming_trees.specs.Conforming.{EdgeLabel, edge_label_order, label, put_label, node_type_of, IsInKernelRow, IsRule}
use Rattle.conforming_trees.proofs.Labels.{IsInLabelOrder, put-all, part-sorted}
use Rattle.rule_stages.specs.Stages.{join, IsRaised, IsAddition, AreAdditionsAbove, IsInNext}
use Rattle.rule_stages.proofs.Joins.{join-sorted}
use Rattle.rule_stages.proofs.Next.{row_closed}
use Rattle.rule_stages.proofs.Parts.{additions-sorted}
use Rattle.rule_steps.proofs.Made.{all-part}
use Rattle.rule_steps.proofs.Rows.{from_kernel_row, node_labels_sorted}

-- multiindices that are 0 past the directions
abbrev EndsInZeros : ℕ → List ℕ → Type 0
EndsInZeros d n = AllByRecursion (λ x. x ≡ 0) (drop d n)

zeros_left : (d : ℕ) (s r : List ℕ) → EndsInZeros d (plus_of s r) → EndsInZeros d s
zeros_left zero [] r h = tt
zeros_left (suc d) [] r h = tt
zeros_left zero (x ∷ xs) [] h = h
zeros_left zero (x ∷ xs) (y ∷ ys) h = let first = h.0 in (omega (arith, first), zeros_left zero xs ys h.1)
zeros_left (suc d) (x ∷ xs) [] h = h
zeros_left (suc d) (x ∷ xs) (y ∷ ys) h = zeros_left d xs ys h

zeros_right : (d : ℕ) (s r : List ℕ) → EndsInZeros d (plus_of s r) → EndsInZeros d r
zeros_right d [] r h = h
zeros_right zero (x ∷ xs) [] h = tt
zeros_right (suc d) (x ∷ xs) [] h = tt
zeros_right zero (x ∷ xs) (y ∷ ys) h = let first = h.0 in (omega (arith, first), zeros_right zero xs ys h.1)
zeros_right (suc d) (x ∷ xs) (y ∷ ys) h = zeros_right d xs ys h

zeros_both : (d : ℕ) (s r : List ℕ) → EndsInZeros d s → EndsInZeros d r → EndsInZeros d (plus_of s r)
zeros_both d [] r h k = k
zeros_both d (x ∷ xs) [] h k = h
zeros_both zero (x ∷ xs) (y ∷ ys) h k = let first = h.0 in let second = k.0 in (omega (arith, first, second), zeros_both zero xs ys h.1 k.1)
zeros_both (suc d) (x ∷ xs) (y ∷ ys) h k = zeros_both d xs ys h k

length_left : (s r : List ℕ) → length s ≤ length (plus_of s r)
length_left [] r = omega arith
length_left (x ∷ xs) [] = omega arith
length_left (x ∷ xs) (y ∷ ys) = omega (arith, length_left xs ys)

length_right : (s r : List ℕ) → length r ≤ length (plus_of s r)
length_right [] r = omega arith
length_right (x ∷ xs) [] = omega arith
length_right (x ∷ xs) (y ∷ ys) = omega (arith, length_right xs ys)

length_same : (s r : List ℕ) → length r ≤ length s → length (plus_of s r) ≡ length s
length_same [] [] h = refl
length_same [] (y ∷ ys) h = absurd (omega (arith, h))
length_same (x ∷ xs) [] h = refl
length_same (x ∷ xs) (y ∷ ys) h = omega (arith, length_same xs ys (omega (arith, h)))

record IsPartIndex (dims : ℕ) (n : List ℕ) : Type 0 where
  pub short : length n ≤ 5
  pub rest : EndsInZeros dims n

first_part : (dims : ℕ) (s r : List ℕ) → IsPartIndex dims (plus_of s r) → IsPartIndex dims s
first_part dims s r h = let short = h.short in record { short = omega (arith, short, length_left s r); rest = zeros_left dims s r h.rest }

second_part : (dims : ℕ) (s r : List ℕ) → IsPartIndex dims (plus_of s r) → IsPartIndex dims r
second_part dims s r h = let short = h.short in record { short = omega (arith, short, length_right s r); rest = zeros_right dims s r h.rest }

with_part : (dims : ℕ) (m s : List ℕ) → IsMultiIndex dims m → IsPartIndex dims s → IsMultiIndex dims (plus_of m s)
with_part dims m s h k =
    let short = k.short in
    let five = h.entries in
    record { entries = length_same m s (omega (arith, short, five)) ∙ five; rest = zeros_both dims m s h.rest k.rest }

-- edge types of known types whose derivative decorations are multiindices
abbrev pub IsKnownLabel : Types → EdgeLabel → Type 0
IsKnownLabel ty e = (e.0 < length ty.list) × IsMultiIndex ty.dims e.1

abbrev pub AreKnownLabels : Types → List EdgeLabel → Type 0
AreKnownLabels ty es = AllByRecursion (IsKnownLabel ty) es

raised_known : (ty : Types) (n : List ℕ) (ms rs : List EdgeLabel) → IsPartIndex ty.dims n → IsRaised n ms rs → AreKnownLabels ty ms → AreKnownLabels ty rs
raised_known ty n [] [] part h k = tt
raised_known ty n [] (r ∷ rs) part h k = absurd h
raised_known ty n (m ∷ ms) [] part h k = absurd h
raised_known ty n (m ∷ ms) (r ∷ rs) part h k =
    let both : IsPartIndex ty.dims (plus_of h.0 h.1) = subst (IsPartIndex ty.dims) h.2 part in
    let kind : r.0 < length ty.list = subst (λ (x : ℕ). x < length ty.list) (sym h.3) k.0.0 in
    let label : IsMultiIndex ty.dims r.1 = subst (IsMultiIndex ty.dims) (sym h.4) (with_part ty.dims m.1 h.0 k.0.1 (first_part ty.dims h.0 h.1 both)) in
    ((kind, label), raised_known ty h.1 ms rs (second_part ty.dims h.0 h.1 both) h.5 k.1)

-- what holds of each member of a joined list
put_all_back : (P : EdgeLabel → Type 0) (e : EdgeLabel) (es : List EdgeLabel) → AllByRecursion P (put_label e es) → P e × AllByRecursion P es
put_all_back P e [] h = h
put_all_back P e (f ∷ fs) h = at (is_gt (edge_label_order e f)) refl h (put_all_back P e fs)
  where
    at : (b : Bool) → is_gt (edge_label_order e f) ≡ b → AllByRecursion P (cond b (f ∷ put_label e fs) (e ∷ f ∷ fs)) → (AllByRecursion P (put_label e fs) → P e × AllByRecursion P fs) → P e × AllByRecursion P (f ∷ fs)
    at true q k later = let rest = later k.1 in (rest.0, (k.0, rest.1))
    at false q k later = (k.0, k.1)

join_front_all : (P : EdgeLabel → Type 0) (es fs : List EdgeLabel) → AllByRecursion P (join es fs) → AllByRecursion P es
join_front_all P [] fs h = tt
join_front_all P (e ∷ es) fs h = let both = put_all_back P e (join es fs) h in (both.0, join_front_all P es fs both.1)

join_all : (P : EdgeLabel → Type 0) (es fs : List EdgeLabel) → AllByRecursion P es → AllByRecursion P fs → AllByRecursion P (join es fs)
join_all P [] fs h k = k
join_all P (e ∷ es) fs h k = put-all P e (join es fs) h.0 (join_all P es fs h.1 k)

known_edges : (ty : Types) (es : List EdgeType) → All (λ e. e.kind.0 < length ty.list) es →
    All (λ e. IsMultiIndex ty.dims e.p.entries) es → AreKnownLabels ty (map label es)
known_edges ty [] h k = tt
known_edges ty (e ∷ es) h k =
    ((h 0 e (omega arith), k 0 e (omega arith)), known_edges ty es (All-tail (λ (x : EdgeType). x.kind.0 < length ty.list) e es h) (All-tail (λ (x : EdgeType). IsMultiIndex ty.dims x.p.entries) e es k))

pub edges_known : (ty : Types) (es : List EdgeType) → AreKnownLabels ty (map label es) → All (λ e. e.kind.0 < length ty.list) es
edges_known ty [] h = All-nil (λ (x : EdgeType). x.kind.0 < length ty.list)
edges_known ty (e ∷ es) h = All-cons (λ (x : EdgeType). x.kind.0 < length ty.list) e es h.0.0 (edges_known ty es h.1)

pub edges_directed : (ty : Types) (es : List EdgeType) → AreKnownLabels ty (map label es) → All (λ e. IsMultiIndex ty.dims e.p.entries) es
edges_directed ty [] h = All-nil (λ (x : EdgeType). IsMultiIndex ty.dims x.p.entries)
edges_directed ty (e ∷ es) h = All-cons (λ (x : EdgeType). IsMultiIndex ty.dims x.p.entries) e es h.0.1 (edges_directed ty es h.1)

module _ (eq : Equation) (rule : Rule) (equation : IsEquation eq) (is_rule : IsRule eq rule) where
  row_known : (k : ℕ) (es : List EdgeLabel) → IsInKernelRow rule k es → AreKnownLabels eq.types es
  row_known k es h =
      let n = h.3.0 in
      let known = all_at (IsKnownNode eq.types) h.0.nodes n (all_at (λ (w : RuleRow). All (IsKnownNode eq.types) w.nodes) rule.rows h.0 is_rule.known h.1) h.3.1 in
      let directed = all_at (λ (x : NodeType). All (λ e. IsMultiIndex eq.types.dims e.p.entries) x.edges) h.0.nodes n
      (all_at (λ (w : RuleRow). All (λ x. All (λ e. IsMultiIndex eq.types.dims e.p.entries) x.edges) w.nodes) rule.rows h.0 is_rule.directions h.1) h.3.1 in
      subst (AreKnownLabels eq.types) h.3.2 (known_edges eq.types n.edges known directed)

  addition_known : (k : ℕ) (t : Plain) (rs : List EdgeLabel) → HasTypes eq.types t → IsAddition eq.types rule k t rs → AreKnownLabels eq.types rs
  addition_known k t rs types h =
      let own = root_index eq.types t types in
      let five = own.entries in
      let part : IsPartIndex eq.types.dims (root_of t) = record { short = omega (arith, five); rest = own.rest } in
      let whole : AreKnownLabels eq.types (join h.0 (node_type_of t)) = elim h.1 [ inl noise ↦ subst (AreKnownLabels eq.types) (sym noise.1) tt | inr kernel ↦ row_known k (join h.0 (node_type_of t)) kernel ] in
      raised_known eq.types (root_of t) h.0 rs part h.2 (join_front_all (IsKnownLabel eq.types) h.0 (node_type_of t) whole)

  above_known : (t : Plain) (rs : List EdgeLabel) → HasTypes eq.types t → AreAdditionsAbove eq.types rule t rs → AreKnownLabels eq.types rs
  above_known (bare n) rs types h = subst (AreKnownLabels eq.types) (sym h) tt
  above_known (graft k p c t) rs types h =
      let above = join_all (IsKnownLabel eq.types) h.1 h.2 (above_known c h.1 types.1 h.4) (above_known t h.2 types.2 h.5) in
      subst (AreKnownLabels eq.types) (sym h.6) (join_all (IsKnownLabel eq.types) h.0 (join h.1 h.2) (addition_known k c h.0 types.1 h.3) above)

  pub next_known : (k : ℕ) (es : List EdgeLabel) → IsInNext eq rule k es → AreKnownLabels eq.types es
  next_known k es h =
      elim h [
        | inl old ↦ row_known k es old
        | inr new ↦
            let t = new.1.tree in
            let types = new.1.listed.candidate.types in
            let a = new.1.additions in
            let whole = subst (AreKnownLabels eq.types) (sym a.4) (join_all (IsKnownLabel eq.types) a.0 a.1 (addition_known k t a.0 types a.2) (above_known t a.1 types a.3)) in
            all-part (IsKnownLabel eq.types) es new.0 new.2 whole
      ]

  pub next_in_order : (k : ℕ) (es : List EdgeLabel) → IsInNext eq rule k es → IsInLabelOrder es
  next_in_order k es h =
      elim h [
        | inl old ↦ let n = from_kernel_row eq rule equation is_rule k es old in subst IsInLabelOrder n.2 (node_labels_sorted eq rule equation is_rule k n.0 n.1)
        | inr new ↦
            let a = new.1.additions in
            let whole = subst IsInLabelOrder (sym a.4) (join-sorted a.0 a.1 (additions-sorted eq.types rule new.1.tree a.1 a.3)) in
            part-sorted es new.0 new.2 whole
      ]

  pub next_part : (k : ℕ) (ds es : List EdgeLabel) → IsInNext eq rule k es → IsSubMultiset ds es → IsInNext eq rule k ds
  next_part k ds es h sub = elim h [ inl old ↦ inl (row_closed eq rule k ds es is_rule old sub) | inr new ↦ inr (new.0, new.1, sub_trans ds es new.0 sub new.2) ]
