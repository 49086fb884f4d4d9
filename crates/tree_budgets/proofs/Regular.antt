-- The low degrees and the budgets that the regularities give.
use Rattle.std.proofs.Common.{◌≡◌, ℕ, zero, suc, ◌+◌, ◌<◌, ℤ, pos, ◌+ℤ◌, ◌<ℤ◌, List, [], ◌∷◌, ◌++◌, ◌⊎◌, inl, inr, FitsSigned, w64, map, length, fold, refl, sym, ap, ◌∙◌, subst, arith, Some, true, cond, Less, Equal, Greater}
use Rattle.std.specs.Prelude.{slice_get, unwrap_or, int_lt}
use Rattle.std.specs.Ordering.{ordering_reverse}
use Rattle.std.proofs.lemmas.Cmp.{int_ranked}
use Rattle.std.specs.List.{All, range_with_len}
use Rattle.std.specs.Option.{option_map}
use Rattle.std.specs.declared.option.Option.{Option}
use Rattle.std.specs.declared.option.Option.TheVariants.{None}
use Rattle.std.proofs.lemmas.Int.{ints}
use Rattle.std.proofs.lemmas.List.Elements.{All-tail}
use Rattle.std.proofs.lemmas.List.FromFn.{length-map-range_with_len, get_or-map-range_with_len, map-range_with_len_more}
use Rattle.degree_numbers.specs.declared.Degree.{Degree}
use Rattle.degree_numbers.specs.declared.TypeEntry.{TypeEntry}
use Rattle.degree_numbers.specs.declared.Kind.{Kind}
use Rattle.degree_numbers.specs.declared.Kind.TheVariants.{Noise, Kernel}
use Rattle.degree_numbers.specs.Degree.{IsWithin, degree_plus, degree_order, degree_zero}
use Rattle.degree_numbers.specs.Types.{type_degree}
use Rattle.degree_numbers.proofs.Orders.{degree_is, degree_order_total}
use Rattle.degree_numbers.proofs.TypeBounds.{type_a_within, type_b_within, type_count_most}
use Rattle.equations.specs.declared.Equation.{Equation}
use Rattle.equations.specs.Accepted.{IsEquation}
use Rattle.ordered_lists.specs.Members.{IsIn}
use Rattle.ordered_lists.proofs.Members.{all_at, all_from_members}
use Rattle.normal_rule.specs.declared.EdgeType.{EdgeType}
use Rattle.normal_rule.specs.declared.NodeType.{NodeType}
use Rattle.normal_rule.specs.declared.RuleRow.{RuleRow}
use Rattle.normal_rule.specs.declared.Rule.{Rule}
use Rattle.normal_rule.specs.Regularity.{regularity_of, edge_regularity, node_regularity, regularity_at, regularity_by, kernel_regularity, right_side, holds, IsSubcritical}
use Rattle.normal_rule.specs.Text.{IsKnownNode}
use Rattle.normal_rule.proofs.Sizes.{regularity_within}
use Rattle.conforming_trees.specs.Conforming.{label, labels, IsRule}
use Rattle.conforming_trees.specs.Budgets.{IsNotAbove, low_at, lows_of}
use Rattle.conforming_trees.proofs.Degrees.{by_parts, from_parts, not_above_trans}
use Rattle.conforming_trees.proofs.Kernels.{row_kind}
use Rattle.tree_budgets.specs.Bounds.{IsBounded, AreTypeBounds, IsTypeTable, IsLowAt, IsLowRow, IsEnough, AreEnough, IsEnoughRow, HasBounds, regular_low, slack, IsSlackMost, regular_most}
use Rattle.tree_budgets.proofs.Closed.{low_rows, enough_rows}
use Rattle.tree_budgets.proofs.TypeLists.{known_kind}

-- a list with a value for each number
abbrev pub by_number : (ℕ → Degree) → ℕ → List Degree
by_number f n = map f (range_with_len 0 n)

pub number_more : (f : ℕ → Degree) (n : ℕ) (ds : List Degree) (d : Degree) → ds ≡ by_number f n → d ≡ f n → ds ++ d ∷ [] ≡ by_number f (n + 1)
number_more f n ds d h is = rw (h, is) (sym (map-range_with_len_more f 0 n n (omega arith)))

pub at_number : (f : ℕ → Degree) (n k : ℕ) → k < n → low_at (by_number f n) k ≡ f k
at_number f n k lt = get_or-map-range_with_len f 0 n k k degree_zero lt (omega arith)

none_bounded : IsBounded degree_zero
none_bounded = record { a = record { low = omega (arith, ints); high = omega (arith, ints) }; b = record { low = omega (arith, ints); high = omega (arith, ints) } }

from_bounded : (f : ℕ → Degree) → ((k : ℕ) → IsBounded (f k)) → (a n k : ℕ) → IsBounded (low_at (map f (range_with_len a n)) k)
from_bounded f h a zero k = none_bounded
from_bounded f h a (suc n) zero = h a
from_bounded f h a (suc n) (suc k) = from_bounded f h (a + 1) n k

pub above_other : (d e : Degree) → degree_order d e ≡ Greater → IsNotAbove e d
above_other d e h = λ g. let both : degree_order d e ≡ ordering_reverse (degree_order e d) = degree_order_total.antisymm d e in let less : Greater ≡ Less = sym h ∙ both ∙ ap ordering_reverse g in absurd cc

module _ (eq : Equation) (q : IsEquation eq) where
  low_bounded : (k : ℕ) → IsBounded (regular_low eq k)
  low_bounded k =
      let a = regularity_within eq k q in
      let b = type_b_within eq.types k q.types in
      record { a = record { low = omega (arith, ints); high = omega (arith, ints) }; b = record { low = omega (arith, ints); high = omega (arith, ints) } }

  noise_low : (o : Option TypeEntry) (reg : ℤ) → option_map (λ e. e.kind) o ≡ Some Noise →
      regularity_at o reg ≡ (unwrap_or (option_map (λ e. e.degree) o) degree_zero).a
  noise_low None reg h = absurd cc
  noise_low (Some e) reg h = noise_by e.kind h
    where
      noise_by : (k : Kind) → Some k ≡ Some Noise → regularity_by k e.degree.a reg ≡ e.degree.a
      noise_by Noise h = refl
      noise_by Kernel h = absurd cc

  pub regular_lows : AreTypeBounds eq.types (by_number (regular_low eq) (length eq.types.list))
  regular_lows = record {
    each = length-map-range_with_len (regular_low eq) 0 (length eq.types.list);
    bounded = λ k. from_bounded (regular_low eq) low_bounded 0 (length eq.types.list) k;
    noises = λ k noise.
        at_number (regular_low eq) (length eq.types.list) k (known_kind eq.types k Noise noise)
        ∙ degree_is (regular_low eq k) (type_degree eq.types k) (noise_low (slice_get eq.types.list k) (kernel_regularity eq.unknowns k) noise) refl;
  }

  -- what a node type brings, in standard parts
  brought : (lows : List Degree) (es : List EdgeType) (z : ℤ) →
      ((k : ℕ) → k < length eq.types.list → low_at lows k ≡ regular_low eq k) →
      All (λ e. e.kind.0 < length eq.types.list) es →
      fold (λ sum e. sum +ℤ edge_regularity eq e) z es ≡ z +ℤ (lows_of eq.types lows (map label es)).a
  brought lows [] z h known = omega (arith, ints)
  brought lows (e ∷ es) z h known =
      let rest = brought lows es (z +ℤ edge_regularity eq e) h (All-tail (λ f. f.kind.0 < length eq.types.list) e es known) in
      let first : (low_at lows e.kind.0).a ≡ regularity_of eq e.kind.0 = ap (λ (d : Degree). d.a) (h e.kind.0 (known 0 e (omega arith))) in
      rest ∙ omega (arith, ints, first)

  node_brought : (rule : Rule) (row : RuleRow) (n : NodeType) → IsRule eq rule → IsIn row rule.rows → IsIn n row.nodes →
      (lows_of eq.types (by_number (regular_low eq) (length eq.types.list)) (labels n)).a ≡ node_regularity eq n
  node_brought rule row n r i m =
      let known = all_at (IsKnownNode eq.types) row.nodes n (all_at (λ (w : RuleRow). All (IsKnownNode eq.types) w.nodes) rule.rows row r.known i) m in
      let sum = brought (by_number (regular_low eq) (length eq.types.list)) n.edges (pos 0) (at_number (regular_low eq) (length eq.types.list)) known in
      omega (arith, ints, sum)

  below_right : (k : ℕ) (n : NodeType) → holds eq k n ≡ true → regularity_of eq k <ℤ ((type_degree eq.types k).a +ℤ node_regularity eq n)
  below_right k n h = int_ranked (regularity_of eq k) (right_side eq k n) Less (sym (ap (λ b. cond b Less (cond (int_lt (right_side eq k n) (regularity_of eq k)) Greater Equal)) h))

  lower_standard : (d e : Degree) → d.a <ℤ e.a → IsNotAbove d e
  lower_standard d e h = from_parts d e record { standard = omega (arith, ints); tied = λ same. absurd (omega (arith, ints)) }

  pub regular_rows : (rule : Rule) → IsRule eq rule → IsSubcritical eq rule → (row : RuleRow) →
      IsIn row rule.rows → IsLowRow eq.types (by_number (regular_low eq) (length eq.types.list)) row
  regular_rows rule r sub row i = record {
    each = all_from_members (IsLowAt eq.types lows row.kernel.0) row.nodes
        (λ n m. record {
          low = λ usable.
              lower_standard (low_at lows row.kernel.0) (degree_plus (type_degree eq.types row.kernel.0) (lows_of eq.types lows (labels n)))
              (omega (arith, ints, below_right row.kernel.0 n (sub row n i m), node_brought rule row n r i m, ap (λ (d : Degree). d.a) own));
        });
  }
    where
      lows : List Degree
      lows = by_number (regular_low eq) (length eq.types.list)

      own : low_at lows row.kernel.0 ≡ regular_low eq row.kernel.0
      own = at_number (regular_low eq) (length eq.types.list) row.kernel.0 (known_kind eq.types row.kernel.0 Kernel (row_kind eq rule row q r.rows i))

  slack_a : (k : ℕ) → IsWithin (slack eq k).a 40000000
  slack_a k =
      let a = regularity_within eq k q in
      let d = type_a_within eq.types k q.types in
      record { low = omega (arith, ints); high = omega (arith, ints) }

  slack_b : (k : ℕ) → IsWithin (slack eq k).b 40000000
  slack_b k = record { low = omega (arith, ints); high = omega (arith, ints) }

  pub slack_fits : (k : ℕ) → FitsSigned w64 (slack eq k).a × FitsSigned w64 (slack eq k).b
  slack_fits k = let a = slack_a k in let b = slack_b k in (omega (arith, ints), omega (arith, ints))

  pub most_fits : (s : Degree) (k : ℕ) → IsWithin s.a 40000000 → IsWithin s.b 40000000 →
      FitsSigned w64 (regular_most eq s k).a × FitsSigned w64 (regular_most eq s k).b
  most_fits s k ha hb = let a = slack_a k in let b = slack_b k in (omega (arith, ints), omega (arith, ints))

  most_bounded : (s : Degree) (k : ℕ) → IsWithin s.a 40000000 → IsWithin s.b 40000000 → IsBounded (regular_most eq s k)
  most_bounded s k ha hb =
      let a = slack_a k in
      let b = slack_b k in
      record { a = record { low = omega (arith, ints); high = omega (arith, ints) }; b = record { low = omega (arith, ints); high = omega (arith, ints) } }

  pub few_types : (k : ℕ) → k < length eq.types.list → k < 256
  few_types k lt = omega (arith, lt, type_count_most eq.types q.types)

  nat_split : (j k : ℕ) → j < k + 1 → (j < k) ⊎ (k ≡ j)
  nat_split zero zero lt = inr refl
  nat_split zero (suc k) lt = inl (omega arith)
  nat_split (suc j) zero lt = absurd (omega (arith, lt))
  nat_split (suc j) (suc k) lt = elim (nat_split j k (omega (arith, lt))) [ inl l ↦ inl (omega (arith, l)) | inr e ↦ inr (ap suc e) ]

  pub slack_none : IsSlackMost eq 0 degree_zero
  slack_none = record { each = λ k lt. absurd (omega (arith, lt)); a = record { low = omega (arith, ints); high = omega (arith, ints) }; b = record { low = omega (arith, ints); high = omega (arith, ints) } }

  -- one more type
  pub slack_more : (k : ℕ) (d e : Degree) → IsSlackMost eq k d → (e ≡ d) ⊎ (e ≡ slack eq k) →
      IsNotAbove d e → IsNotAbove (slack eq k) e → IsSlackMost eq (k + 1) e
  slack_more k d e h is old new = record {
    each = λ j lt. elim (nat_split j k lt) [ inl below ↦ not_above_trans (slack eq j) d e (h.each j below) old | inr same ↦ subst (λ (x : ℕ). IsNotAbove (slack eq x) e) same new ];
    a = elim is [ inl same ↦ subst (λ (x : Degree). IsWithin x.a 40000000) (sym same) h.a | inr same ↦ subst (λ (x : Degree). IsWithin x.a 40000000) (sym same) (slack_a k) ];
    b = elim is [ inl same ↦ subst (λ (x : Degree). IsWithin x.b 40000000) (sym same) h.b | inr same ↦ subst (λ (x : Degree). IsWithin x.b 40000000) (sym same) (slack_b k) ];
  }

  pub regular_table : (s : Degree) → IsWithin s.a 40000000 → IsWithin s.b 40000000 → IsTypeTable eq.types (by_number (regular_most eq s) (length eq.types.list))
  regular_table s ha hb = record {
    each = length-map-range_with_len (regular_most eq s) 0 (length eq.types.list);
    bounded = λ k. from_bounded (regular_most eq s) (λ l. most_bounded s l ha hb) 0 (length eq.types.list) k;
  }

  root_left : (s : Degree) (k : ℕ) → IsNotAbove (slack eq k) s → IsNotAbove degree_zero (regular_most eq s k)
  root_left s k h =
      let p = by_parts (slack eq k) s h in
      let ps = p.standard in
      from_parts degree_zero (regular_most eq s k) record { standard = omega (arith, ints); tied = λ same. let pt = p.tied (omega (arith, ints)) in omega (arith, ints) }

  pub regular_enough : (rule : Rule) (s : Degree) → IsRule eq rule → IsSubcritical eq rule →
      IsSlackMost eq (length eq.types.list) s → (row : RuleRow) → IsIn row rule.rows →
      IsEnoughRow eq.types (by_number (regular_low eq) (length eq.types.list)) (by_number (regular_most eq s) (length eq.types.list)) row
  regular_enough rule s r sub most row i = record {
    root = subst (IsNotAbove degree_zero) (sym own) (root_left s row.kernel.0 (most.each row.kernel.0 known));
    each = all_from_members (AreEnough eq.types lows mosts row.kernel.0) row.nodes
        (λ n m. record {
          each = λ usable. all_from_members (IsEnough eq.types lows mosts row.kernel.0 n.edges) n.edges
              (λ e j. record {
                enough = λ kernel.
                    let there = known_kind eq.types e.kind.0 Kernel kernel in
                    let low : low_at lows e.kind.0 ≡ regular_low eq e.kind.0 = at_number (regular_low eq) (length eq.types.list) e.kind.0 there in
                    let next : low_at mosts e.kind.0 ≡ regular_most eq s e.kind.0 = at_number (regular_most eq s) (length eq.types.list) e.kind.0 there in
                    lower_standard (degree_plus (low_at mosts row.kernel.0) (low_at lows e.kind.0)) (degree_plus (degree_plus (low_at mosts e.kind.0) (type_degree eq.types e.kind.0)) (lows_of eq.types lows (labels n)))
                    (omega (arith, ints, below_right row.kernel.0 n (sub row n i m), node_brought rule row n r i m, ap (λ (d : Degree). d.a) own, ap (λ (d : Degree). d.a) low, ap (λ (d : Degree). d.a) next));
              });
        });
  }
    where
      lows : List Degree
      lows = by_number (regular_low eq) (length eq.types.list)

      mosts : List Degree
      mosts = by_number (regular_most eq s) (length eq.types.list)

      known : row.kernel.0 < length eq.types.list
      known = known_kind eq.types row.kernel.0 Kernel (row_kind eq rule row q r.rows i)

      own : low_at mosts row.kernel.0 ≡ regular_most eq s row.kernel.0
      own = at_number (regular_most eq s) (length eq.types.list) row.kernel.0 known

  pub regular_bounds_are : (rule : Rule) (s : Degree) → IsRule eq rule → IsSubcritical eq rule → IsSlackMost eq (length eq.types.list) s →
      HasBounds eq rule (by_number (regular_low eq) (length eq.types.list)) (by_number (regular_most eq s) (length eq.types.list))
  regular_bounds_are rule s r sub most = record {
    low = low_rows eq rule (by_number (regular_low eq) (length eq.types.list)) regular_lows (all_from_members (IsLowRow eq.types (by_number (regular_low eq) (length eq.types.list))) rule.rows (regular_rows rule r sub));
    budgets = enough_rows eq rule (by_number (regular_low eq) (length eq.types.list)) (by_number (regular_most eq s) (length eq.types.list))
        (all_from_members (IsEnoughRow eq.types (by_number (regular_low eq) (length eq.types.list)) (by_number (regular_most eq s) (length eq.types.list))) rule.rows (regular_enough rule s r sub most));
    lows_bounded = regular_lows.bounded;
    mosts_bounded = (regular_table s most.a most.b).bounded;
  }
