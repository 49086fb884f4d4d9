-- Loops that put rows behind each other.
use Rattle.std.proofs.Common.{◌≡◌, ℕ, zero, suc, ◌+◌, ◌<◌, ◌≤◌, List, [], ◌∷◌, ◌++◌, drop, length, get_or, refl, sym, ap, ◌∙◌, arith, append_assoc, append-nil, subst}
use Rattle.std.specs.List.{AllByRecursion}
use Rattle.std.proofs.lemmas.Grind.{common_steps}

pub cut_at : {Y : Type 0} (ys : List Y) (i : ℕ) (y : Y) → i < length ys → y ≡ get_or ys i y → drop i ys ≡ y ∷ drop (i + 1) ys
cut_at ys i y lt is = grind (arith, common_steps)

pub none_left : {Y : Type 0} (ys : List Y) (i : ℕ) → length ys ≤ i → drop i ys ≡ []
none_left ys i h = grind (arith, common_steps)

all_drop : {Y : Type 0} (P : Y → Type 0) (ys : List Y) (i : ℕ) → AllByRecursion P ys → AllByRecursion P (drop i ys)
all_drop P ys zero a = a
all_drop P [] (suc i) a = tt
all_drop P (y ∷ ys) (suc i) a = all_drop P ys i a.1

pub all_at : {Y : Type 0} (P : Y → Type 0) (ys : List Y) (i : ℕ) (y : Y) → i < length ys → y ≡ get_or ys i y → AllByRecursion P ys → P y
all_at P ys i y lt is a = (subst (AllByRecursion P) (cut_at ys i y lt is) (all_drop P ys i a)).0

pub all_append : {Y : Type 0} (P : Y → Type 0) (xs ys : List Y) → AllByRecursion P xs → AllByRecursion P ys → AllByRecursion P (xs ++ ys)
all_append P [] ys a b = b
all_append P (x ∷ xs) ys a b = (a.0, all_append P xs ys a.1 b)

-- rows, where that of a list is that of its first member and then that of the rest
module _ {Y Z : Type 0} (row : List Y → List Z) (one : Y → List Z) (parts : (y : Y) (ys : List Y) → row (y ∷ ys) ≡ one y ++ row ys) where
  pub row_step : (ys : List Y) (i : ℕ) (y : Y) (old new whole : List Z) → i < length ys → y ≡ get_or ys i y → new ≡ old ++ one y →
      old ++ row (drop i ys) ≡ whole → new ++ row (drop (i + 1) ys) ≡ whole
  row_step ys i y old new whole lt is put inv =
      let rest = drop (i + 1) ys in
      ap (λ (zs : List Z). zs ++ row rest) put
      ∙ append_assoc old (one y) (row rest)
      ∙ ap (λ (zs : List Z). old ++ zs) (sym (parts y rest))
      ∙ ap (λ (zs : List Y). old ++ row zs) (sym (cut_at ys i y lt is))
      ∙ inv

pub row_end : {Y Z : Type 0} (row : List Y → List Z) (ys : List Y) (i : ℕ) (new whole : List Z) → row [] ≡ [] → length ys ≤ i →
    new ++ row (drop i ys) ≡ whole → new ≡ whole
row_end row ys i new whole none h inv =
    sym (append-nil new) ∙ ap (λ (zs : List _). new ++ zs) (sym none) ∙ ap (λ (zs : List _). new ++ row zs) (sym (none_left ys i h)) ∙ inv
