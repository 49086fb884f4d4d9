-- The lines of a round, node type by node type and row by row.
use Rattle.std.proofs.Common.{◌++◌, ◌≡◌, ℕ, zero, suc, ◌+◌, ◌<◌, ◌≤◌, pos, ◌≤ℤ◌, ◌<ℤ◌, List, [], ◌∷◌, length, get_or, refl, sym, ap, ◌∙◌, subst, inl, inr, arith, Some}
use Rattle.std.proofs.lemmas.Int.{ints}
use Rattle.ordered_lists.specs.Members.{IsIn}
use Rattle.ordered_lists.proofs.Members.{member_at}
use Rattle.degree_numbers.specs.declared.types.Kind.TheVariants.{Noise}
use Rattle.degree_numbers.specs.Types.{kind_of, type_degree}
use Rattle.equations.specs.declared.equation.Equation.{Equation}
use Rattle.normal_rule.specs.declared.rule.NodeType.{NodeType}
use Rattle.normal_rule.specs.declared.rule.Rule.{Rule}
use Rattle.conforming_trees.specs.Conforming.{labels}
use Rattle.large_trees.proofs.Passed.{IsAt, at_one, in_at, same_place}
use Rattle.large_trees.specs.declared.count.Count.{Count}
use Rattle.large_trees.specs.declared.excess.Excess.{Excess}
use Rattle.large_trees.specs.declared.line.Line.{Line as Cells}
use Rattle.large_trees.specs.Classes.{most_of}
use Rattle.large_trees.specs.Lines.{Line, IsNone, IsAtMost, Joins, IsLeast, most_excess, excess_plus}
use Rattle.large_trees.specs.Cells.{line_at}
use Rattle.large_trees.specs.Limits.{AreLimited}
use Rattle.large_trees.specs.Sums.{IsShifted, IsPartial, gap_of, HasNode, HasRow, HasNoise, HasExcess}
use Rattle.large_trees.proofs.LineLaws.{at_most_self, at_most_plus, at_most_trans, joins_same, joins_nothing, joins_more, joins_none_least}
use Rattle.large_trees.proofs.Sizes.{partial_limited, partial_class}

-- families of members
module _ {X : Type 0} (G : X → ℕ → Excess → Type 0) (xs : List X) (old : Line) where
  abbrev pub UpTo : ℕ → ℕ → Excess → Type 0
  UpTo i m v = (j : ℕ) × (j < i) × ((x : X) × IsAt xs j x × G x m v)

  pub none_yet : Joins old (UpTo 0) old
  none_yet = joins_nothing old (UpTo 0) (λ m v p few. let lt = p.1 in absurd (omega arith))

  pub one_more : (i : ℕ) (x : X) (now new : Line) → i < length xs → x ≡ get_or xs i x →
      Joins old (UpTo i) now → Joins now (G x) new → Joins old (UpTo (i + 1)) new
  one_more i x now new lt is h k =
      joins_more old (λ j m v. (y : X) × IsAt xs j y × G y m v) i now new h
      (joins_same now (G x) (λ m v. (y : X) × IsAt xs i y × G y m v) new (λ m v p few. (x, (lt, is), p))
      (λ m v p few. (v, subst (λ (y : X). G y m v) (at_one xs i p.0 x p.1 (lt, is)) p.2, at_most_self v)) k)

  pub all_of : (i : ℕ) (new : Line) → length xs ≤ i → Joins old (UpTo i) new → Joins old (λ m v. (x : X) × IsIn x xs × G x m v) new
  all_of i new all h =
      joins_same old (UpTo i) (λ m v. (x : X) × IsIn x xs × G x m v) new (λ m v p few. (p.2.0, member_at xs p.0 p.2.0 p.2.1.0 p.2.1.1, p.2.2))
      (λ m v p few. let at = in_at xs p.0 p.1 in let lt = at.1.0 in (v, (at.0, omega arith, (p.0, at.1, p.2)), at_most_self v)) h

-- a node type
module _ (eq : Equation) (q : Count) (cells : List Cells) (limited : AreLimited cells) (k : ℕ) (n : NodeType) (old : Line) where
  pub node_joins : (above new : Line) → pos 1 ≤ℤ (gap_of eq k n).a →
      IsLeast (IsPartial q cells (labels n)) above →
      Joins old (IsShifted (most_of q) 0 (gap_of eq k n) above) new →
      Joins old (HasNode eq q cells k n) new
  node_joins above new gap l h =
      joins_same old (IsShifted (most_of q) 0 (gap_of eq k n) above) (HasNode eq q cells k n) new
      (λ m v p few.
      let partial = (l.attained p.0 p.1 p.2).0 in
      let most = partial_class q cells limited (labels n) p.0 p.1 partial in
      let is = p.3 in
      let same : p.0 ≡ m = omega arith in
      (p.1, subst (λ (i : ℕ). IsPartial q cells (labels n) i p.1) same partial, p.4))
      (λ m v p few.
      let most = partial_class q cells limited (labels n) m p.0 p.1 in
      let sum = ap (λ (x : Excess). x.a) p.2 in
      let u = l.least m p.0 p.1 (omega (arith, ints)) in (
        excess_plus (gap_of eq k n) u.0,
        (m, u.0, u.1, omega arith, refl),
        subst (IsAtMost (excess_plus (gap_of eq k n) u.0)) (sym p.2) (at_most_plus (gap_of eq k n) u.0 (gap_of eq k n) p.0 (at_most_self (gap_of eq k n)) u.2),
      ))
      h

  pub node_past : pos most_excess <ℤ (gap_of eq k n).a → Joins old (HasNode eq q cells k n) old
  node_past past =
      joins_nothing old (HasNode eq q cells k n)
      (λ m v p few.
      let size = (partial_limited q cells limited (labels n) m p.0 p.1).a in
      let sum = ap (λ (x : Excess). x.a) p.2 in
      absurd (omega (arith, ints)))

-- a type
pub noise_least : (eq : Equation) (k : ℕ) (x : Excess) (old new : Line) → IsNone old → kind_of eq.types k ≡ Some Noise → x ≡ record { a = pos 0; b = (type_degree eq.types k).b } → Joins old (λ m v. (m ≡ 0) × (v ≡ x)) new → IsLeast (HasNoise eq k) new
noise_least eq k x old new none noise is h =
    joins_none_least old (HasNoise eq k) new none
    (joins_same old (λ m v. (m ≡ 0) × (v ≡ x)) (HasNoise eq k) new (λ m v p few. (noise, p.0, p.1 ∙ is)) (λ m v p few. (v, (p.1, p.2 ∙ sym is), at_most_self v)) h)

pub line_least : (eq : Equation) (rule : Rule) (q : Count) (cells : List Cells) (k i : ℕ) (noise new : Line) →
    length rule.rows ≤ i → IsLeast (HasNoise eq k) noise →
    Joins noise (UpTo (HasRow eq q cells k) rule.rows noise i) new →
    IsLeast (HasExcess eq rule q cells k) new
line_least eq rule q cells k i noise new all l h =
    let j = all_of (HasRow eq q cells k) rule.rows noise i new all h in
    record {
      attained = λ m v c. elim (j.attained m v c) [
        | inl o ↦ let p = l.attained m v o in (inl p.0, p.1)
        | inr p ↦ (inr p.0, p.1)
      ];
      least = λ m v p few. elim p [
        | inl z ↦ let u = l.least m v z few in let w = j.kept m u.0 u.1 in (w.0, w.1, at_most_trans w.0 u.0 v w.2 u.2)
        | inr r ↦ j.least m v r few
      ];
    }

-- one line more
line_last : (lines : List Cells) (line : Cells) → line_at (lines ++ line ∷ []) (length lines) ≡ line.cells
line_last [] line = refl
line_last (l ∷ ls) line = line_last ls line

line_before : (lines more : List Cells) (k : ℕ) → k < length lines → line_at (lines ++ more) k ≡ line_at lines k
line_before [] more k lt = absurd (omega arith)
line_before (l ∷ ls) more zero lt = refl
line_before (l ∷ ls) more (suc k) lt = line_before ls more k (omega arith)

pub lines_more : (P : ℕ → ℕ → Excess → Type 0) (lines : List Cells) (line : Cells) (i : ℕ) →
    length lines ≡ i → ((k : ℕ) → k < i → IsLeast (P k) (line_at lines k)) →
    IsLeast (P i) line.cells → (k : ℕ) → k < i + 1 → IsLeast (P k) (line_at (lines ++ line ∷ []) k)
lines_more P lines line i long h l k lt =
    elim (same_place k i) [
      | inl e ↦
          let last : line.cells ≡ line_at (lines ++ line ∷ []) k = sym (ap (λ (j : ℕ). line_at (lines ++ line ∷ []) j) (e ∙ sym long) ∙ line_last lines line) in
          subst (IsLeast (P k)) last (subst (λ (j : ℕ). IsLeast (P j) line.cells) (sym e) l)
      | inr n ↦ subst (IsLeast (P k)) (sym (line_before lines (line ∷ []) k (omega (arith, long)))) (h k (omega arith))
    ]
