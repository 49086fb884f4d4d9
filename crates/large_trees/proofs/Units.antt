-- The least entry of the scaling.
use Rattle.std.proofs.Common.{◌≡◌, ℕ, ◌+◌, ◌≤◌, min, List, slice_index, sym, ◌∙◌, subst, inl, inr, arith}
use Rattle.large_trees.specs.Large.{IsLeastEntry}
use Rattle.large_trees.proofs.Passed.{same_place}

pub entry_more : (ss : List ℕ) (i s x r : ℕ) → IsLeastEntry ss i s → x ≡ slice_index ss i → r ≡ min s x → IsLeastEntry ss (i + 1) r
entry_more ss i s x r h is least =
    elim (same_place r s) [
      | inl same ↦ record {
        direction = h.direction;
        within = let lt = h.within in omega arith;
        is = same ∙ h.is;
        least = λ j lt. elim (same_place j i) [
          | inl e ↦ subst (λ (k : ℕ). r ≤ slice_index ss k) (sym e) (omega (arith, is, least))
          | inr n ↦ omega (arith, same, h.least j (omega arith))
        ];
      }
      | inr other ↦ record {
        direction = i;
        within = omega arith;
        is = let one : r ≡ x = omega (arith, least) in one ∙ is;
        least = λ j lt. elim (same_place j i) [
          | inl e ↦ subst (λ (k : ℕ). r ≤ slice_index ss k) (sym e) (omega (arith, is, least))
          | inr n ↦ omega (arith, least, h.least j (omega arith))
        ];
      }
    ]
