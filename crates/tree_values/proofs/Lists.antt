-- One more at the end of a list.
use Rattle.std.proofs.Common.{◌≡◌, inl, inr, List, [], ◌∷◌, ◌++◌, sym, subst}
use Rattle.std.specs.List.{All}
use Rattle.std.proofs.lemmas.List.Elements.{All-append}
use Rattle.ordered_lists.proofs.Members.{all_from_members}

pub all_put : {X : Type 0} (P : X → Type 0) (xs ys : List X) (x : X) → ys ≡ xs ++ x ∷ [] → All P xs → P x → All P ys
all_put P xs ys x is h k =
    subst (All P) (sym is) (All-append P xs (x ∷ []) h (all_from_members P (x ∷ []) (λ y i. elim i [ inl e ↦ subst P e k | inr r ↦ absurd r ])))
