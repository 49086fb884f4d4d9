-- Two lists that are read side by side.
use Rattle.std.proofs.Common.{◌≡◌, ℕ, ◌+◌, ◌<◌, ◌≤◌, List, [], ◌∷◌, length, map, drop, get_or, refl, ap, sym, ◌∙◌}
use Rattle.std.proofs.Math.ListN.{drop_of_length-le}
use Rattle.std.proofs.lemmas.List.{drop_more}
use Rattle.std.specs.List.{AllByRecursion}

module _ {A X T : Type 0} (P : X → Type 0) (of : A → T) (text : X → T) where
  -- xs are what the rest writes
  pub record Writes (rest : List A) (xs : List X) : Type 0 where
    pub all : AllByRecursion P xs
    pub texts : map of rest ≡ map text xs

  -- the first of them
  pub record Splits (first : A) (rest : List A) (xs : List X) : Type 0 where
    pub head : X
    pub tail : List X
    pub is : xs ≡ head ∷ tail
    pub holds : P head
    pub written : of first ≡ text head
    pub others : Writes rest tail

  split_cons : (a : A) (rest : List A) (xs : List X) → Writes (a ∷ rest) xs → Splits a rest xs
  split_cons a rest [] h = let w : of a ∷ map of rest ≡ [] = h.texts in absurd cc
  split_cons a rest (x ∷ xs) h =
      let w : of a ∷ map of rest ≡ text x ∷ map text xs = h.texts in
      record { head = x; tail = xs; is = refl; holds = h.all.0; written = cc; others = record { all = h.all.1; texts = cc } }

  pub split_at : (list : List A) (i : ℕ) (d : A) (xs : List X) → i < length list → Writes (drop i list) xs → Splits (get_or list i d) (drop (i + 1) list) xs
  split_at list i d xs l h =
      let first : drop i list ≡ get_or list i d ∷ drop (i + 1) list = drop_more list i d l in
      split_cons (get_or list i d) (drop (i + 1) list) xs record { all = h.all; texts = ap (map of) (sym first) ∙ h.texts }

  -- at the end nothing is left
  none_at : (rest : List A) (xs : List X) → rest ≡ [] → Writes rest xs → xs ≡ []
  none_at rest [] e h = refl
  none_at rest (x ∷ xs) e h = let w : [] ≡ text x ∷ map text xs = ap (map of) (sym e) ∙ h.texts in absurd cc

  pub none_left : (list : List A) (i : ℕ) (xs : List X) → length list ≤ i → Writes (drop i list) xs → xs ≡ []
  none_left list i xs l h = none_at (drop i list) xs (drop_of_length-le list l) h
