-- The least difference of a list, and of rows.
use Rattle.std.proofs.Common.{◌≡◌, ℕ, ◌+◌, ◌<◌, ◌≤◌, suc, zero, List, [], ◌∷◌, ◌++◌, length, take, drop, get_or, map, Bool, true, false, cond, ℤ, pos, refl, ap, sym, ◌∙◌, subst, inl, inr, ◌⊎◌, arith}
use Rattle.std.specs.Prelude.{fold, ◌≤ℤ◌, int_lt, slice_index_or}
use Rattle.std.specs.Int.{int_min}
use Rattle.std.specs.List.{All, prefix_len, range_with_len}
use Rattle.std.proofs.lemmas.Int.{ints, clamps}
use Rattle.std.proofs.lemmas.List.{take_more, take_all, length-map}
use Rattle.std.proofs.lemmas.List.FromFn.{length-range_with_len}
use Rattle.std.proofs.lemmas.List.Sums.{prefix_len_passes}
use Rattle.degree_numbers.specs.declared.degree.Degree.{Degree}
use Rattle.equations.specs.declared.equation.Equation.{Equation}
use Rattle.equations.specs.declared.equation.Unknown.{Unknown}
use Rattle.degree_numbers.specs.Types.{noise_count, kernels}
use Rattle.equations.specs.Accepted.{IsEquation}
use Rattle.ordered_lists.specs.Members.{IsIn}
use Rattle.ordered_lists.proofs.Places.{fold_at}
use Rattle.ordered_lists.proofs.Members.{all_at, from_append}
use Rattle.normal_rule.specs.declared.rule.NodeType.{NodeType}
use Rattle.normal_rule.specs.declared.rule.RuleRow.{RuleRow}
use Rattle.normal_rule.specs.declared.rule.Rule.{Rule}
use Rattle.normal_rule.specs.declared.regularity.NotSubcritical.{NotSubcritical}
use Rattle.normal_rule.specs.Order.{empty_node}
use Rattle.normal_rule.specs.Gaps.{greatest, nodes_gap, least_gap, rows_gap}
use Rattle.normal_rule.specs.Regularity.{holds, left_side, right_side, difference, standard, HoldAll, IsGap, IsFirstFailure, HasRows, IsMeasuredNode, AreMeasured}
use Rattle.normal_rule.proofs.Sizes.{regularity_within, right_within}

-- the least so far, from what a loop reads
pub step_gap : {X : Type 0} (f : ℤ → X → ℤ) (a : ℤ) (xs : List X) (i : ℕ) (x : X) (gap next : Degree) → i < length xs → x ≡ get_or xs i x
    → gap ≡ standard (fold f a (take i xs)) → next ≡ standard (f gap.a x) → next ≡ standard (fold f a (take (i + 1) xs))
step_gap f a xs i x gap next lt is before step =
    step ∙ ap standard (fold_at f a xs i x x gap.a (f gap.a x) lt is refl (ap (λ (d : Degree). d.a) before) refl)

module _ {X : Type 0} (f : X → ℤ) where
  abbrev least : ℤ → X → ℤ
  least gap x = int_min gap (f x)

  pub below_start : (a : ℤ) (xs : List X) → fold least a xs ≤ℤ a
  below_start a [] = omega (arith, ints)
  below_start a (x ∷ xs) = let h = below_start (least a x) xs in omega (arith, ints, clamps)

  pub below_each : (a : ℤ) (xs : List X) (x : X) → IsIn x xs → fold least a xs ≤ℤ f x
  below_each a [] x h = absurd h
  below_each a (y ∷ xs) x h =
      elim h [
        | inl e ↦ let low = below_start (least a y) xs in subst (λ z. fold least (least a y) xs ≤ℤ f z) e (omega (arith, ints, clamps))
        | inr r ↦ below_each (least a y) xs x r
      ]

  chosen : (a b : ℤ) → (int_min a b ≡ a) ⊎ (int_min a b ≡ b)
  chosen a b = elim (int_lt b a) as (λ (t : Bool). (cond t b a ≡ a) ⊎ (cond t b a ≡ b)) [ true ↦ inr refl | false ↦ inl refl ]

  pub reached : (a : ℤ) (xs : List X) → (fold least a xs ≡ a) ⊎ ((x : X) × IsIn x xs × (fold least a xs ≡ f x))
  reached a [] = inl refl
  reached a (x ∷ xs) =
      elim (reached (least a x) xs) [
        | inl start ↦ elim (chosen a (f x)) [ inl old ↦ inl (start ∙ old) | inr new ↦ inr (x, inl refl, start ∙ new) ]
        | inr later ↦ inr (later.0, inr later.1, later.2)
      ]

-- where a test passes up to the end, it passes at each member
pub passes_at : {X : Type 0} (p : X → Bool) (xs : List X) (n d : X) → prefix_len p xs ≡ length xs → IsIn n xs → p n ≡ true
passes_at p xs n d e h = all_at (λ x. p x ≡ true) xs n (λ k d l. prefix_len_passes p xs k d (omega (arith, e, l))) h

pub split_at : {X : Type 0} (xs : List X) (i : ℕ) (x : X) → i < length xs → x ≡ get_or xs i x → xs ≡ take i xs ++ x ∷ drop (i + 1) xs
split_at [] i x lt is = absurd (omega arith)
split_at (y ∷ ys) zero x lt is = ap (λ z. z ∷ ys) (sym is)
split_at (y ∷ ys) (suc i) x lt is = let s : suc i + 1 ≡ suc (i + 1) = omega arith in rw s (ap (λ zs. y ∷ zs) (split_at ys i x (omega arith) is))

pub hold_none : (eq : Equation) (rows : List RuleRow) → HoldAll eq (take 0 rows)
hold_none eq rows row n h k = absurd h

pub hold_more : (eq : Equation) (rows : List RuleRow) (i : ℕ) (row : RuleRow) (nodes : List NodeType) →
    i < length rows → row ≡ get_or rows i row → nodes ≡ row.nodes
    → HoldAll eq (take i rows) → prefix_len (holds eq row.kernel.0) nodes ≡ length nodes → HoldAll eq (take (i + 1) rows)
hold_more eq rows i row nodes lt is same before here r n h k =
    let one_more : take (i + 1) rows ≡ take i rows ++ row ∷ [] = take_more rows i row lt ∙ ap (λ (x : RuleRow). take i rows ++ x ∷ []) (sym is) in
    let all : prefix_len (holds eq row.kernel.0) row.nodes ≡ length row.nodes = subst (λ (ns : List NodeType). prefix_len (holds eq row.kernel.0) ns ≡ length ns) same here in
    elim (from_append r (take i rows) (row ∷ []) (subst (IsIn r) one_more h)) [
      | inl old ↦ before r n old k
      | inr new ↦ elim new [
        | inl e ↦ subst (λ (s : RuleRow). IsIn n s.nodes → holds eq s.kernel.0 n ≡ true) e (λ m. passes_at (holds eq row.kernel.0) row.nodes n empty_node all m) k
        | inr none ↦ absurd none
      ]
    ]

pub hold_all : (eq : Equation) (rows : List RuleRow) (i : ℕ) → length rows ≤ i → HoldAll eq (take i rows) → HoldAll eq rows
hold_all eq rows i past h = subst (HoldAll eq) (take_all i rows past) h

pub gap_all : (eq : Equation) (rows : List RuleRow) (i : ℕ) (gap : Degree) → length rows ≤ i →
    gap ≡ standard (rows_gap eq (take i rows)) → gap ≡ standard (rows_gap eq rows)
gap_all eq rows i gap past e = e ∙ ap (λ (rs : List RuleRow). standard (rows_gap eq rs)) (take_all i rows past)

pub first_failure : (eq : Equation) (rows : List RuleRow) (i : ℕ) (row : RuleRow) (nodes : List NodeType) (f : NotSubcritical) →
    i < length rows → row ≡ get_or rows i row → nodes ≡ row.nodes
    → HoldAll eq (take i rows) → f.kernel ≡ row.kernel → f.node ≡ prefix_len (holds eq row.kernel.0) nodes → f.node < length nodes → f.left ≡ standard (left_side eq row.kernel.0)
    → f.right ≡ standard (right_side eq row.kernel.0 (slice_index_or nodes f.node empty_node)) → IsFirstFailure eq rows f
first_failure eq rows i row nodes f lt is same before kernel node inside left right = record {
  before = take i rows;
  row = row;
  after = drop (i + 1) rows;
  rows = split_at rows i row lt is;
  hold = before;
  kernel = kernel;
  node = subst (λ (ns : List NodeType). f.node ≡ prefix_len (holds eq row.kernel.0) ns) same node;
  inside = subst (λ (ns : List NodeType). f.node < length ns) same inside;
  left = left;
  right = subst (λ (ns : List NodeType). f.right ≡ standard (right_side eq row.kernel.0 (slice_index_or ns f.node empty_node))) same right;
}

pub measured_row : (rows : List RuleRow) (i : ℕ) (row : RuleRow) (nodes : List NodeType) →
    i < length rows → row ≡ get_or rows i row → nodes ≡ row.nodes → AreMeasured rows →
    All IsMeasuredNode nodes
measured_row rows i row nodes lt is same h = subst (All IsMeasuredNode) (sym same) (subst (λ (r : RuleRow). All IsMeasuredNode r.nodes) (sym is) (h i row lt))

pub step_rows : (eq : Equation) (rows : List RuleRow) (i : ℕ) (row : RuleRow) (nodes : List NodeType) (gap of_row next : Degree) →
    i < length rows → row ≡ get_or rows i row → nodes ≡ row.nodes
    → gap ≡ standard (rows_gap eq (take i rows)) → of_row ≡ standard (nodes_gap eq row.kernel.0 nodes) → next ≡ standard (int_min gap.a of_row.a)
    → next ≡ standard (rows_gap eq (take (i + 1) rows))
step_rows eq rows i row nodes gap of_row next lt is same before own step =
    let here : of_row ≡ standard (nodes_gap eq row.kernel.0 row.nodes) = own ∙ ap (λ (ns : List NodeType). standard (nodes_gap eq row.kernel.0 ns)) same in
    step_gap (least_gap eq) greatest rows i row gap next lt is before (step ∙ ap (λ (d : Degree). standard (int_min gap.a d.a)) here)

-- a difference is smaller than the number that the least starts from
small_difference : (eq : Equation) (k : ℕ) (n : NodeType) → IsEquation eq → IsMeasuredNode n → difference eq k n ≤ℤ pos 10000000000000
small_difference eq k n h m = let left = regularity_within eq k h in let right = right_within eq k n h m in omega (arith, ints)

not_start : (g : ℤ) → g ≡ greatest → g ≤ℤ pos 10000000000000 → ⊥
not_start g e low = let w : greatest ≤ℤ pos 10000000000000 = subst (λ (z : ℤ). z ≤ℤ pos 10000000000000) e low in absurd (omega (arith, ints))

least_of_rows : (eq : Equation) (rows : List RuleRow) (r : RuleRow) (n : NodeType) → IsIn r rows →
    IsIn n r.nodes → rows_gap eq rows ≤ℤ difference eq r.kernel.0 n
least_of_rows eq rows r n h k =
    let row = below_each (λ (s : RuleRow). nodes_gap eq s.kernel.0 s.nodes) greatest rows r h in
    let node = below_each (difference eq r.kernel.0) greatest r.nodes n k in
    omega (arith, ints, row, node)

is_gap : (eq : Equation) (rule : Rule) (r : RuleRow) → IsEquation eq → IsIn r rule.rows →
    IsIn empty_node r.nodes → AreMeasured rule.rows → IsGap eq rule (rows_gap eq rule.rows)
is_gap eq rule r h there empty small =
    let least = least_of_rows eq rule.rows in
    let low : rows_gap eq rule.rows ≤ℤ pos 10000000000000 =
    let a = least r empty_node there empty in
    let b = small_difference eq r.kernel.0 empty_node h (all_at IsMeasuredNode r.nodes empty_node (all_at (λ (s : RuleRow). All IsMeasuredNode s.nodes) rule.rows r small there) empty) in
    omega (arith, ints, a, b) in
    elim (reached (λ (s : RuleRow). nodes_gap eq s.kernel.0 s.nodes) greatest rule.rows) [
      | inl start ↦ absurd (not_start (rows_gap eq rule.rows) start low)
      | inr row ↦ elim (reached (difference eq row.0.kernel.0) greatest row.0.nodes) [
        | inl start ↦ absurd (not_start (rows_gap eq rule.rows) (row.2 ∙ start) low)
        | inr node ↦ record { row = row.0; node = node.0; row_of_rule = row.1; node_of_row = node.1; is = row.2 ∙ node.2; least = least }
      ]
    ]

-- there is a kernel, and so a row
kernel_there : (eq : Equation) → IsEquation eq → 0 < length eq.unknowns
kernel_there eq h =
    let some = h.types.kernels_some in
    let count : length (map (λ (u : Unknown). u.kernel.0) eq.unknowns) ≡ length (range_with_len (noise_count eq.types) (length (kernels eq.types))) = ap length h.kernels in
    omega (arith, some, count, length-map eq.unknowns (λ (u : Unknown). u.kernel.0), length-range_with_len (noise_count eq.types) (length (kernels eq.types)))

first_there : (rows : List RuleRow) → 0 < length rows → (r : RuleRow) × IsIn r rows
first_there [] h = absurd (omega arith)
first_there (r ∷ rows) h = (r, inl refl)

pub rule_gap : (eq : Equation) (rule : Rule) → IsEquation eq → HasRows eq rule → AreMeasured rule.rows → IsGap eq rule (rows_gap eq rule.rows)
rule_gap eq rule h rows small =
    let count : length (map (λ (r : RuleRow). r.kernel) rule.rows) ≡ length (map (λ (u : Unknown). u.kernel) eq.unknowns) = ap length rows.kernels in
    let some : 0 < length rule.rows = omega (arith, count, kernel_there eq h, length-map rule.rows (λ (r : RuleRow). r.kernel), length-map eq.unknowns (λ (u : Unknown). u.kernel)) in
    let first = first_there rule.rows some in
    is_gap eq rule first.0 h first.1 (rows.empty first.0 first.1) small

pub gap_from : (eq : Equation) (rule : Rule) (gap : Degree) (rows : List RuleRow) → IsEquation eq →
    HasRows eq rule → AreMeasured rule.rows → rows ≡ rule.rows → gap ≡ standard (rows_gap eq rows)
    → IsGap eq rule gap.a × (gap.b ≡ pos 0)
gap_from eq rule gap rows h has small same e =
    let found : gap ≡ standard (rows_gap eq rule.rows) = e ∙ ap (λ (rs : List RuleRow). standard (rows_gap eq rs)) same in
    (subst (λ (d : Degree). IsGap eq rule d.a) (sym found) (rule_gap eq rule h has small), ap (λ (d : Degree). d.b) found)
