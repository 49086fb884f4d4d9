-- What a loop over a list keeps of the members that it has passed.
use Rattle.std.proofs.Common.{◌≡◌, ℕ, zero, suc, ◌+◌, ◌<◌, ◌≤◌, List, [], ◌∷◌, length, take, get_or, sym, subst, inl, inr, ◌∙◌, arith}
use Rattle.std.specs.List.{All}
use Rattle.std.proofs.lemmas.List.{take_all}
use Rattle.std.proofs.lemmas.List.Elements.{All-more}
use Rattle.ordered_lists.specs.Members.{IsIn}
use Rattle.normal_rule.specs.declared.EdgeType.{EdgeType}

-- one step of the loop, with the member that it reads
pub all_step : {X : Type 0} (P : X → Type 0) (xs : List X) (i : ℕ) (x d : X) → i < length xs →
    x ≡ get_or xs i d → All P (take i xs) → P x → All P (take (i + 1) xs)
all_step P xs i x d lt is h k = All-more P xs i d lt h (subst P is k)

-- its end, over the list that the items are read from
pub all_done : {X : Type 0} (P : X → Type 0) (xs ys : List X) (i : ℕ) → length xs ≤ i → xs ≡ ys → All P (take i xs) → All P ys
all_done P xs ys i le same h = subst (All P) (take_all i xs le ∙ same) h

-- what a loop reads is a member
pub read_member : {X : Type 0} (xs ys : List X) (i : ℕ) (x d : X) → i < length xs → x ≡ get_or xs i d → xs ≡ ys → IsIn x ys
read_member {X} xs ys i x d lt is same = subst (IsIn x) same (member xs i lt is)
  where
    member : (zs : List X) (j : ℕ) → j < length zs → x ≡ get_or zs j d → IsIn x zs
    member [] j l e = absurd (omega (arith, l))
    member (z ∷ zs) zero l e = inl (sym e)
    member (z ∷ zs) (suc j) l e = inr (member zs j (omega (arith, l)) e)

abbrev pub no_edge : EdgeType
no_edge = record { kind = record { 0 = 0 }; p = record { entries = [] } }
