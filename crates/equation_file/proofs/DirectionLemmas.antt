-- Directions that are sought one after the other.
use Rattle.std.proofs.Common.{◌≡◌, ℕ, zero, suc, ◌+◌, ◌≤◌, Bool, true, false, cond, List, [], ◌∷◌, ◌++◌, map, refl, sym, ap, ◌∙◌, arith}
use Rattle.std.specs.List.{filter, range_with_len}
use Rattle.std.proofs.lemmas.List.{map-id}
use Rattle.std.proofs.lemmas.List.FromFn.{filter_of_map_range_with_len_more}
use Rattle.degree_numbers.specs.Types.{AreDirections}

-- one more direction
pub directions_more : (p : ℕ → Bool) (a n j : ℕ) → a + n ≡ j → filter p (range_with_len a (n + 1)) ≡ filter p (range_with_len a n) ++ cond (p j) (j ∷ []) []
directions_more p a n j e =
    ap (filter p) (sym (map-id (range_with_len a (n + 1)))) ∙ filter_of_map_range_with_len_more p (λ i. i) a n j e ∙ ap (λ xs. filter p xs ++ cond (p j) (j ∷ []) []) (map-id (range_with_len a n))

directions_later : (low past dims : ℕ) (is : List ℕ) → low ≤ past → AreDirections past dims is → AreDirections low dims is
directions_later low past dims [] le h = tt
directions_later low past dims (i ∷ is) le h = (let above = h.0 in omega (arith, le, above), h.1, h.2)

-- what is kept of directions in order is in order
pub directions_kept : (p : ℕ → Bool) (past n dims : ℕ) → past + n ≤ dims → AreDirections past dims (filter p (range_with_len (past + 1) n))
directions_kept p past zero dims le = tt
directions_kept p past (suc n) dims le =
    let more : AreDirections (past + 1) dims (filter p (range_with_len (past + 1 + 1) n)) = directions_kept p (past + 1) n dims (omega (arith, le)) in
    chosen (p (past + 1)) more
  where
    chosen : (b : Bool) → AreDirections (past + 1) dims (filter p (range_with_len (past + 1 + 1) n)) → AreDirections past dims (cond b ((past + 1) ∷ filter p (range_with_len (past + 1 + 1) n)) (filter p (range_with_len (past + 1 + 1) n)))
    chosen true more = (omega arith, omega (arith, le), more)
    chosen false more = directions_later past (past + 1) dims (filter p (range_with_len (past + 1 + 1) n)) (omega arith) more
