-- Lines of cells: order of excesses, and lines that grow.
use Rattle.std.proofs.Common.{◌≡◌, ◌≢◌, zero, ℕ, suc, ◌+◌, ◌<◌, ◌≤◌, ℤ, pos, ◌+ℤ◌, ◌≤ℤ◌, [], ◌∷◌, length, get_or, refl, sym, ap, ◌∙◌, subst, arith, inl, inr, Some, None}
use Rattle.std.specs.Prelude.{◌⊎◌, slice_set, FitsSigned}
use Rattle.std.specs.Int.{w128}
use Rattle.degree_numbers.specs.Degree.{IsWithin}
use Rattle.std.proofs.Math.ListN.{replicate}
use Rattle.std.specs.declared.option.Option.{Option}
use Rattle.std.proofs.lemmas.Int.{ints}
use Rattle.std.proofs.lemmas.List.{get_or-set_same, get_or-set_other}
use Rattle.large_trees.proofs.Passed.{same_place}
use Rattle.large_trees.specs.declared.excess.Excess.{Excess}
use Rattle.large_trees.specs.Lines.{Line, HasCell, IsAtMost, IsLesser, IsNone, Joins, IsLeast, most_excess, small, excess_plus}
use Rattle.large_trees.specs.Sums.{IsShifted, IsSum}

pub at_most_self : (x : Excess) → IsAtMost x x
at_most_self x = record { standard = omega (arith, ints); tied = λ same. omega (arith, ints) }

pub at_most_trans : (x y z : Excess) → IsAtMost x y → IsAtMost y z → IsAtMost x z
at_most_trans x y z h k =
    let hs = h.standard in
    let ks = k.standard in
    record {
      standard = omega (arith, ints);
      tied = λ same. let s = h.tied (omega (arith, ints)) in let t = k.tied (omega (arith, ints)) in omega (arith, ints);
    }

pub at_most_plus : (x y u v : Excess) → IsAtMost x u → IsAtMost y v → IsAtMost (excess_plus x y) (excess_plus u v)
at_most_plus x y u v h k =
    let hs = h.standard in
    let ks = k.standard in
    record {
      standard = omega (arith, ints);
      tied = λ same. let s = h.tied (omega (arith, ints)) in let t = k.tied (omega (arith, ints)) in omega (arith, ints);
    }

pub small_sum : (x y : ℤ) → IsWithin x small → IsWithin y small → FitsSigned w128 (x +ℤ y)
small_sum x y h k = let h0 = h.low in let h1 = h.high in let k0 = k.low in let k1 = k.high in omega (arith, ints)

pub excess_is : (x y : Excess) → x.a ≡ y.a → x.b ≡ y.b → x ≡ y
excess_is x y h k = λ i. record { a = h i; b = k i }

-- no cell
abbrev no_cell : Option Excess
no_cell = None

none_at : (n m : ℕ) → get_or (replicate n no_cell) m None ≡ None
none_at zero m = refl
none_at (suc n) zero = refl
none_at (suc n) (suc m) = none_at n m

pub none_replicate : (n : ℕ) → IsNone (replicate n None)
none_replicate n m v h = let none = none_at n m in absurd cc

-- one cell is written
some_is : (u v : Excess) → Some u ≡ Some v → u ≡ v
some_is u v h = cc

lesser_one : (cell : Option Excess) (v w : Excess) → IsLesser cell v w → (cell ≡ Some w) ⊎ (w ≡ v)
lesser_one None v w h = inr h
lesser_one (Some u) v w h = elim h.0 [ inl e ↦ inl (ap Some (sym e)) | inr e ↦ inr e ]

lesser_old : (cell : Option Excess) (u v w : Excess) → IsLesser cell v w → cell ≡ Some u → IsAtMost w u
lesser_old None u v w h e = absurd cc
lesser_old (Some x) u v w h e = subst (IsAtMost w) (some_is x u e) h.1

lesser_new : (cell : Option Excess) (v w : Excess) → IsLesser cell v w → IsAtMost w v
lesser_new None v w h = subst (IsAtMost w) h (at_most_self w)
lesser_new (Some x) v w h = h.2

put_value : (old : Line) (c : ℕ) (w v : Excess) → c < length old → HasCell (slice_set old c (Some w)) c v → w ≡ v
put_value old c w v lt h = some_is w v (sym (get_or-set_same old c (Some w) None lt) ∙ h)

module _ (old : Line) (c : ℕ) (v w : Excess) (lt : c < length old) (l : IsLesser (get_or old c None) v w) (few : v.a ≤ℤ pos most_excess) where
  put_attained : (m : ℕ) (u : Excess) → (m ≡ c) ⊎ (m ≢ c) → HasCell (slice_set old c (Some w)) m u →
      HasCell old m u ⊎ (((m ≡ c) × (u ≡ v)) × (u.a ≤ℤ pos most_excess))
  put_attained m u (inl e) h =
      let here : w ≡ u = put_value old c w u lt (subst (λ (i : ℕ). HasCell (slice_set old c (Some w)) i u) e h) in
      elim (lesser_one (get_or old c None) v w l) [
        | inl same ↦ inl (ap (λ (i : ℕ). get_or old i None) e ∙ same ∙ ap Some here)
        | inr new ↦ let is : u ≡ v = sym here ∙ new in inr ((e, is), subst (λ (x : Excess). x.a ≤ℤ pos most_excess) (sym is) few)
      ]
  put_attained m u (inr n) h = inl (sym (get_or-set_other old c m (Some w) None n) ∙ h)

  put_kept : (m : ℕ) (u : Excess) → (m ≡ c) ⊎ (m ≢ c) → HasCell old m u → (x : Excess) × HasCell (slice_set old c (Some w)) m x × IsAtMost x u
  put_kept m u (inl e) h =
      (w, ap (λ (i : ℕ). get_or (slice_set old c (Some w)) i None) e ∙ get_or-set_same old c (Some w) None lt, lesser_old (get_or old c None) u v w l (ap (λ (i : ℕ). get_or old i None) (sym e) ∙ h))
  put_kept m u (inr n) h = (u, get_or-set_other old c m (Some w) None n ∙ h, at_most_self u)

  pub put_joins : Joins old (λ m u. (m ≡ c) × (u ≡ v)) (slice_set old c (Some w))
  put_joins = record {
    attained = λ m u h. put_attained m u (same_place m c) h;
    kept = λ m u h. put_kept m u (same_place m c) h;
    least = λ m u p few2.
        (w, ap (λ (i : ℕ). get_or (slice_set old c (Some w)) i None) p.0 ∙ get_or-set_same old c (Some w) None lt, subst (IsAtMost w) (sym p.1) (lesser_new (get_or old c None) v w l));
  }

-- lines that grow
pub joins_nothing : (old : Line) (P : ℕ → Excess → Type 0) → ((m : ℕ) (v : Excess) → P m v → v.a ≤ℤ pos most_excess → ⊥) → Joins old P old
joins_nothing old P none = record {
  attained = λ m v h. inl h;
  kept = λ m v h. (v, h, at_most_self v);
  least = λ m v p few. absurd (none m v p few);
}

pub joins_same : (old : Line) (P Q : ℕ → Excess → Type 0) (new : Line) →
    ((m : ℕ) (v : Excess) → P m v → v.a ≤ℤ pos most_excess → Q m v) →
    ((m : ℕ) (v : Excess) → Q m v → v.a ≤ℤ pos most_excess → (u : Excess) × P m u × IsAtMost u v) →
    Joins old P new → Joins old Q new
joins_same old P Q new to from j = record {
  attained = λ m v h. elim (j.attained m v h) [ inl o ↦ inl o | inr p ↦ inr (to m v p.0 p.1, p.1) ];
  kept = j.kept;
  least = λ m v q few.
      let found = from m v q few in
      let standard = found.2.standard in
      let u = j.least m found.0 found.1 (omega (arith, ints)) in
      (u.0, u.1, at_most_trans u.0 found.0 v u.2 found.2);
}

-- one more of a row of families
pub joins_more : (old : Line) (F : ℕ → ℕ → Excess → Type 0) (i : ℕ) (now new : Line) →
    Joins old (λ m v. (j : ℕ) × (j < i) × F j m v) now → Joins now (F i) new →
    Joins old (λ m v. (j : ℕ) × (j < i + 1) × F j m v) new
joins_more old F i now new h k = record {
  attained = λ m v c. elim (k.attained m v c) [
    | inl o ↦ elim (h.attained m v o) [ inl older ↦ inl older | inr p ↦ inr ((p.0.0, omega (arith, p.0.1), p.0.2), p.1) ]
    | inr p ↦ inr ((i, omega arith, p.0), p.1)
  ];
  kept = λ m v c. let u = h.kept m v c in let w = k.kept m u.0 u.1 in (w.0, w.1, at_most_trans w.0 u.0 v w.2 u.2);
  least = λ m v p few. elim (same_place p.0 i) [
    | inl e ↦ k.least m v (subst (λ (j : ℕ). F j m v) e p.2) few
    | inr n ↦ let u = h.least m v (p.0, omega (arith, p.1), p.2) few in let w = k.kept m u.0 u.1 in (w.0, w.1, at_most_trans w.0 u.0 v w.2 u.2)
  ];
}

pub joins_both : (old : Line) (P Q : ℕ → Excess → Type 0) (now new : Line) → Joins old P now → Joins now Q new → Joins old (λ m v. P m v ⊎ Q m v) new
joins_both old P Q now new h k = record {
  attained = λ m v c. elim (k.attained m v c) [
    | inl o ↦ elim (h.attained m v o) [ inl older ↦ inl older | inr p ↦ inr (inl p.0, p.1) ]
    | inr p ↦ inr (inr p.0, p.1)
  ];
  kept = λ m v c. let u = h.kept m v c in let w = k.kept m u.0 u.1 in (w.0, w.1, at_most_trans w.0 u.0 v w.2 u.2);
  least = λ m v p few. elim p [
    | inl a ↦ let u = h.least m v a few in let w = k.kept m u.0 u.1 in (w.0, w.1, at_most_trans w.0 u.0 v w.2 u.2)
    | inr b ↦ k.least m v b few
  ];
}

pub joins_none_least : (old : Line) (P : ℕ → Excess → Type 0) (new : Line) → IsNone old → Joins old P new → IsLeast P new
joins_none_least old P new none j = record {
  attained = λ m v c. elim (j.attained m v c) [ inl o ↦ absurd (none m v o) | inr p ↦ p ];
  least = j.least;
}

-- the least of a family is that of each with the same least values
pub least_same : (P Q : ℕ → Excess → Type 0) (line : Line) →
    ((m : ℕ) (v : Excess) → P m v → v.a ≤ℤ pos most_excess → Q m v) →
    ((m : ℕ) (v : Excess) → Q m v → v.a ≤ℤ pos most_excess → (u : Excess) × P m u × IsAtMost u v) →
    IsLeast P line → IsLeast Q line
least_same P Q line to from j = record {
  attained = λ m v h. let p = j.attained m v h in (to m v p.0 p.1, p.1);
  least = λ m v q few.
      let found = from m v q few in
      let standard = found.2.standard in
      let u = j.least m found.0 found.1 (omega (arith, ints)) in
      (u.0, u.1, at_most_trans u.0 found.0 v u.2 found.2);
}

-- a value stands at a class below the length
pub cell_below : (line : Line) (m : ℕ) (v : Excess) → HasCell line m v → m < length line
cell_below [] m v h = absurd cc
cell_below (x ∷ xs) zero v h = omega arith
cell_below (x ∷ xs) (suc m) v h = omega (arith, cell_below xs m v h)

pub sums_least : (most weight : ℕ) (xs ys old new : Line) (n : ℕ) → length xs ≤ n → IsNone old →
    Joins old (λ m v. (i : ℕ) × (i < n) × ((x : Excess) × HasCell xs i x × IsShifted most (weight + i) x ys m v)) new →
    IsLeast (IsSum most weight xs ys) new
sums_least most weight xs ys old new n all none j =
    least_same (λ m v. (i : ℕ) × (i < n) × ((x : Excess) × HasCell xs i x × IsShifted most (weight + i) x ys m v)) (IsSum most weight xs ys) new
    (λ m v p few. (p.0, p.2.0, p.2.1, p.2.2))
    (λ m v p few. (v, (p.0, omega (arith, cell_below xs p.0 p.1 p.2), (p.1, p.2, p.3)), at_most_self v))
    (joins_none_least old (λ m v. (i : ℕ) × (i < n) × ((x : Excess) × HasCell xs i x × IsShifted most (weight + i) x ys m v)) new none j)
