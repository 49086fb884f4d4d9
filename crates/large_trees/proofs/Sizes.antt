-- How great the excesses in cells are: the coefficient of k is bounded by the standard part, since
-- each kernel edge adds at least 1 to that.
use Rattle.std.proofs.Common.{inl, inr, unsigned_abs, map, drop, get_or, ◌-◌, length-drop, ◌≡◌, ℕ, zero, suc, ◌+◌, ◌*◌, ◌<◌, ◌≤◌, pos, ◌≤ℤ◌, List, [], ◌∷◌, length, refl, sym, ap, subst, arith}
use Rattle.std.proofs.lemmas.Int.{ints}
use Rattle.std.proofs.lemmas.List.{length-map}
use Rattle.std.proofs.lemmas.Grind.{common_steps}
use Rattle.normal_rule.specs.declared.rule.EdgeType.{EdgeType}
use Rattle.degree_numbers.specs.Types.{AreTypes}
use Rattle.degree_numbers.proofs.TypeBounds.{type_b_within}
use Rattle.equations.specs.declared.equation.Equation.{Equation}
use Rattle.ordered_lists.specs.Members.{IsIn}
use Rattle.normal_rule.specs.declared.rule.NodeType.{NodeType}
use Rattle.normal_rule.specs.declared.rule.RuleRow.{RuleRow}
use Rattle.normal_rule.specs.declared.rule.Rule.{Rule}
use Rattle.normal_rule.specs.Regularity.{IsSubcritical}
use Rattle.large_trees.proofs.Trees.{gap_above}
use Rattle.conforming_trees.specs.Conforming.{EdgeLabel, label, labels}
use Rattle.large_trees.specs.declared.count.Count.{Count}
use Rattle.large_trees.specs.declared.excess.Excess.{Excess}
use Rattle.large_trees.specs.declared.line.Line.{Line as Cells}
use Rattle.large_trees.specs.Classes.{most_of, weight_at}
use Rattle.large_trees.specs.Lines.{Line, HasCell, IsAtMost, IsLeast, IsSmall, AreSmall, most_excess, excess_plus, no_excess}
use Rattle.large_trees.specs.Cells.{line_at}
use Rattle.large_trees.specs.Limits.{greatest, step, IsLimited, AreLimited, AreShort}
use Rattle.large_trees.specs.Sums.{IsPartial, IsSum, gap_of, HasNode, HasRow, HasNoise, HasExcess, IsRound}
use Rattle.large_trees.proofs.LineLaws.{at_most_self, at_most_plus, least_same}

pub limited_small : (base : ℕ) (v : Excess) → IsLimited base v → base ≤ step → v.a ≤ℤ pos most_excess → IsSmall v
limited_small base v h few most =
    let size = h.a in
    let low = h.b.low in
    let high = h.b.high in
    record { a = record { low = omega (arith, ints); high = omega (arith, ints) }; b = record { low = omega (arith, ints); high = omega (arith, ints) } }

limited_plus : (m n : ℕ) (x y : Excess) → IsLimited m x → IsLimited n y → IsLimited (m + n) (excess_plus x y)
limited_plus m n x y h k =
    let ha = h.a in
    let ka = k.a in
    let hl = h.b.low in
    let hh = h.b.high in
    let kl = k.b.low in
    let kh = k.b.high in
    record { size = h.size + k.size; a = omega (arith, ints); b = record { low = omega (arith, ints); high = omega (arith, ints) } }

module _ (q : Count) (cells : List Cells) (limited : AreLimited cells) where
  pub partial_limited : (es : List EdgeLabel) (m : ℕ) (v : Excess) → IsPartial q cells es m v → IsLimited (greatest * length es) v
  partial_limited [] m v p = subst (IsLimited (greatest * 0)) (sym p.1) record { size = 0; a = refl; b = record { low = omega (arith, ints); high = omega (arith, ints) } }
  partial_limited (e ∷ es) m v p =
      let first = partial_limited es p.0 p.1 p.2 in
      let second = (limited e.0 p.3.0 p.3.1 p.3.2).0 in
      let longer : greatest * length es + greatest ≡ greatest * length (e ∷ es) = omega arith in
      subst (λ (n : ℕ). IsLimited n v) longer (subst (IsLimited (greatest * length es + greatest)) (sym p.3.4) (limited_plus (greatest * length es) greatest p.1 p.3.1 first second))

  pub cells_small : (k : ℕ) → AreSmall (line_at cells k)
  cells_small k m v h = let is = limited k m v h in limited_small greatest v is.0 (omega arith) is.1

  pub line_small : (es : List EdgeLabel) (line : Line) → length es < 18446744073709551616 → IsLeast (IsPartial q cells es) line → AreSmall line
  line_small es line few l m v h = let is = l.attained m v h in limited_small (greatest * length es) v (partial_limited es m v is.0) (omega arith) is.1

  pub partial_class : (es : List EdgeLabel) (m : ℕ) (v : Excess) → IsPartial q cells es m v → m ≤ most_of q
  partial_class [] m v p = let z = p.0 in omega arith
  partial_class (e ∷ es) m v p = let z = p.3.3 in omega arith

  -- one edge more
  pub partial_step : (e : EdgeLabel) (es : List EdgeLabel) (line next : Line) →
      IsLeast (IsPartial q cells es) line →
      IsLeast (IsSum (most_of q) (weight_at q e.1) line (line_at cells e.0)) next →
      IsLeast (IsPartial q cells (e ∷ es)) next
  partial_step e es line next l h =
      least_same (IsSum (most_of q) (weight_at q e.1) line (line_at cells e.0)) (IsPartial q cells (e ∷ es)) next
      (λ m v p few. (p.0, p.1, (l.attained p.0 p.1 p.2).0, p.3))
      (λ m v p few.
      let above = (limited e.0 p.3.0 p.3.1 p.3.2).0.a in
      let sum = ap (λ (x : Excess). x.a) p.3.4 in
      let u = l.least p.0 p.1 p.2 (omega (arith, ints)) in (
        excess_plus u.0 p.3.1,
        (p.0, u.0, u.1, (p.3.0, p.3.1, p.3.2, p.3.3, refl)),
        subst (IsAtMost (excess_plus u.0 p.3.1)) (sym p.3.4) (at_most_plus u.0 p.3.1 p.1 p.3.1 u.2 (at_most_self p.3.1)),
      ))
      h

module _ (q : Count) (cells : List Cells) (limited : AreLimited cells) where
  pub node_start : (xs : List EdgeType) (line : Line) →
      IsLeast (λ m v. (m ≡ 0) × (v ≡ no_excess)) line →
      IsLeast (IsPartial q cells (map label (drop (length xs) xs))) line
  node_start xs line l = let none : drop (length xs) xs ≡ [] = grind (arith, common_steps) in rw none l

  pub node_step : (xs : List EdgeType) (left : ℕ) (d : EdgeType) (line next : Line) → 0 < left →
      left ≤ length xs → IsLeast (IsPartial q cells (map label (drop left xs))) line →
      IsLeast (IsSum (most_of q) (weight_at q (get_or xs (left - 1) d).p.entries) line (line_at cells (get_or xs (left - 1) d).kind.0)) next → IsLeast (IsPartial q cells (map label (drop (left - 1) xs))) next
  node_step xs left d line next some lt l h =
      let e = get_or xs (left - 1) d in
      let more : drop (left - 1) xs ≡ e ∷ drop left xs = grind (arith, common_steps) in
      rw more (partial_step q cells limited (label e) (map label (drop left xs)) line next l h)

  pub rest_small : (xs : List EdgeType) (left : ℕ) (line : Line) →
      length xs < 18446744073709551616 →
      IsLeast (IsPartial q cells (map label (drop left xs))) line → AreSmall line
  rest_small xs left line few l =
      let shorter : length (map label (drop left xs)) ≤ length xs = omega (arith, length-map (drop left xs) label, length-drop left xs) in
      line_small q cells limited (map label (drop left xs)) line (omega (arith, shorter)) l

-- what stands above an edge
module _ (eq : Equation) (rule : Rule) (q : Count) (cells : List Cells) (types : AreTypes eq.types) (sub : IsSubcritical eq rule) (short : AreShort rule.rows) (limited : AreLimited cells) where
  noise_limited : (k m : ℕ) (v : Excess) → HasNoise eq k m v → IsLimited greatest v
  noise_limited k m v p =
      let bound = type_b_within eq.types k types in
      let low = bound.low in
      let high = bound.high in
      subst (IsLimited greatest) (sym p.2) record { size = 0; a = refl; b = record { low = omega (arith, ints); high = omega (arith, ints) } }

  node_limited : (k m : ℕ) (v : Excess) (n : NodeType) → length n.edges < 18446744073709551616 →
      pos 1 ≤ℤ (gap_of eq k n).a → HasNode eq q cells k n m v → IsLimited greatest v
  node_limited k m v n few gap p =
      let bound = type_b_within eq.types k types in
      let low = bound.low in
      let high = bound.high in
      let partial = partial_limited q cells limited (labels n) m p.0 p.1 in
      let is = partial.a in
      let pl = partial.b.low in
      let ph = partial.b.high in
      let long : length (labels n) ≡ length n.edges = length-map n.edges label in
      let g : (gap_of eq k n).a ≡ pos (unsigned_abs (gap_of eq k n).a) = omega (arith, ints) in
      subst (IsLimited greatest) (sym p.2) record {
        size = unsigned_abs (gap_of eq k n).a + partial.size;
        a = omega (arith, ints);
        b = record { low = omega (arith, ints); high = omega (arith, ints) };
      }

  row_limited : (k m : ℕ) (v : Excess) (row : RuleRow) → IsIn row rule.rows → HasRow eq q cells k row m v → IsLimited greatest v
  row_limited k m v row i p =
      let gap : pos 1 ≤ℤ (gap_of eq k p.1.0).a = subst (λ (j : ℕ). pos 1 ≤ℤ (gap_of eq j p.1.0).a) p.0 (gap_above eq rule row p.1.0 sub i p.1.1) in
      node_limited k m v p.1.0 (short row p.1.0 i p.1.1) gap p.1.2

  excess_limited : (k m : ℕ) (v : Excess) → HasExcess eq rule q cells k m v → IsLimited greatest v
  excess_limited k m v p = elim p [ inl z ↦ noise_limited k m v z | inr r ↦ row_limited k m v r.0 r.1 r.2 ]

  pub round_limited : (next : List Cells) → length next ≡ length eq.types.list → IsRound eq rule q cells next → AreLimited next
  round_limited next long round k m v h =
      let lt = inside next k m v h in
      let is = (round k (omega (arith, long, lt))).attained m v h in
      (excess_limited k m v is.0, is.1)
    where
      inside : (lines : List Cells) (i m : ℕ) (v : Excess) → HasCell (line_at lines i) m v → i < length lines
      inside [] i m v h = absurd cc
      inside (l ∷ ls) zero m v h = omega arith
      inside (l ∷ ls) (suc i) m v h = let lt = inside ls i m v h in omega arith

pub none_limited : AreLimited []
none_limited k m v h = absurd cc
