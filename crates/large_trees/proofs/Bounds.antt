-- How great the numbers of the inequality are, for node types of any length.
use Rattle.std.proofs.Common.{List, take, get_or, length, ap, sym, ◌∙◌, ◌≡◌, ℕ, ◌+◌, ◌*◌, ◌≤◌, ◌<◌, ℤ, pos, ◌+ℤ◌, ◌-ℤ◌, arith}
use Rattle.std.specs.Prelude.{FitsSigned, fold}
use Rattle.std.proofs.lemmas.List.Sums.{fold_more}
use Rattle.equations.specs.declared.equation.Equation.{Equation}
use Rattle.normal_rule.specs.declared.rule.EdgeType.{EdgeType}
use Rattle.normal_rule.specs.declared.rule.NodeType.{NodeType}
use Rattle.normal_rule.specs.Regularity.{edge_regularity}
use Rattle.std.specs.Int.{w128}
use Rattle.std.proofs.lemmas.Int.{ints}
use Rattle.std.proofs.Math.Nat.{mul-le-mul}
use Rattle.degree_numbers.specs.Degree.{IsWithin}
use Rattle.large_trees.specs.declared.excess.Excess.{Excess}
use Rattle.large_trees.specs.Lines.{IsSmall, small, standard, excess_plus}

pub units_product : (den size n : ℕ) → den ≤ 1000000 → size ≤ 10 * n → n ≤ 50000000000 → den * size ≤ 500000000000000000
units_product den size n h k l = let most : size ≤ 500000000000 = omega arith in mul-le-mul h most

pub fine_product : (den size n : ℕ) → den ≤ 1000000 → size ≤ 10 * n → n ≤ 1000 → den * size ≤ 10000000000
fine_product den size n h k l = let most : size ≤ 10000 = omega arith in mul-le-mul h most

pub within_plus : (x y : ℤ) (m n l : ℕ) → IsWithin x m → IsWithin y n → m + n ≤ l → IsWithin (x +ℤ y) l
within_plus x y m n l h k lt =
    let h0 = h.low in
    let h1 = h.high in
    let k0 = k.low in
    let k1 = k.high in
    record { low = omega (arith, ints); high = omega (arith, ints) }

pub within_minus : (x y : ℤ) (m n l : ℕ) → IsWithin x m → IsWithin y n → m + n ≤ l → IsWithin (x -ℤ y) l
within_minus x y m n l h k lt =
    let h0 = h.low in
    let h1 = h.high in
    let k0 = k.low in
    let k1 = k.high in
    record { low = omega (arith, ints); high = omega (arith, ints) }

pub within_more : (x : ℤ) (m n : ℕ) → IsWithin x m → m ≤ n → IsWithin x n
within_more x m n h lt =
    let h0 = h.low in
    let h1 = h.high in
    record { low = omega (arith, ints); high = omega (arith, ints) }

pub within_fits : (x : ℤ) (n : ℕ) → IsWithin x n → n ≤ 100000000000000000000000000000000000000 → FitsSigned w128 x
within_fits x n h lt =
    let h0 = h.low in
    let h1 = h.high in
    omega (arith, ints)

pub sum_small : (x y : ℤ) (m n : ℕ) → IsWithin x m → IsWithin y n → m + n ≤ 100000000000000000000000000000000000000 → FitsSigned w128 (x +ℤ y)
sum_small x y m n h k lt = within_fits (x +ℤ y) (m + n) (within_plus x y m n (m + n) h k (omega arith)) lt

pub gap_small : (x y z b u w : ℤ) → IsWithin x 20000000 →
    IsWithin y 20000000000000000000000000000000000000 → IsWithin z 20000000 → IsWithin b 20000000 →
    u ≡ pos 0 → w ≡ pos 0 →
    IsSmall record { a = (x +ℤ y) -ℤ z; b = (b +ℤ u) -ℤ w }
gap_small x y z b u w h k l m hu hw = record {
  a = within_minus (x +ℤ y) z 20000000000000000000000000000020000000 20000000 small (within_plus x y 20000000 20000000000000000000000000000000000000 20000000000000000000000000000020000000 h k (omega arith)) l (omega arith);
  b = let m0 = m.low in let m1 = m.high in record { low = omega (arith, ints); high = omega (arith, ints) };
}

abbrev plus_edge : Equation → ℤ → EdgeType → ℤ
plus_edge eq s e = s +ℤ edge_regularity eq e

-- one edge more, from what the loop reads
pub step_sum : (eq : Equation) (n : NodeType) (es : List EdgeType) (i : ℕ) (d : EdgeType) (sum edge next : Excess) → es ≡ n.edges → i < length es
    → sum ≡ standard (fold (λ s e. s +ℤ edge_regularity eq e) (pos 0) (take i n.edges)) → edge ≡ standard (edge_regularity eq (get_or es i d)) → next ≡ excess_plus sum edge
    → next ≡ standard (fold (λ s e. s +ℤ edge_regularity eq e) (pos 0) (take (i + 1) n.edges))
step_sum eq n es i d sum edge next same lt before now step =
    let here : length es ≡ length n.edges = ap length same in
    let read : edge_regularity eq (get_or es i d) ≡ edge_regularity eq (get_or n.edges i d) = ap (λ (xs : List EdgeType). edge_regularity eq (get_or xs i d)) same in
    let so_far = fold (plus_edge eq) (pos 0) (take i n.edges) in
    step ∙ ap (λ (s : Excess). excess_plus s edge) before ∙ ap (excess_plus (standard so_far)) (now ∙ ap standard read) ∙ ap standard (sym (fold_more (plus_edge eq) (pos 0) n.edges i d (omega arith)))
