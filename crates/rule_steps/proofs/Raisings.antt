-- All ways to raise edge types, and all edge types that can be added.
use Rattle.std.proofs.Common.{◌≡◌, ℕ, zero, suc, ◌+◌, ◌-◌, ◌≤◌, List, [], ◌∷◌, length, map, refl, sym, ap, ◌∙◌, subst, arith, inl, inr, ◌⊎◌}
use Rattle.std.specs.List.{AllByRecursion}
use Rattle.degree_numbers.specs.Multi.{plus_of, minus_of}
use Rattle.ordered_lists.specs.Members.{IsIn}
use Rattle.ordered_lists.proofs.Members.{in_map, in_flat_map, from_map, from_flat_map}
use Rattle.plain_trees.specs.Multinomials.{below, down_from}
use Rattle.tree_cuttings.proofs.Multinomials.{plus_assoc}
use Rattle.conforming_trees.specs.Conforming.{EdgeLabel}
use Rattle.rule_stages.specs.Stages.{IsRaised}
use Rattle.rule_stages.proofs.Parts.{raised-more}
use Rattle.rule_stages.proofs.ReadDown.{IsBelow, in_below, plus-minus}
use Rattle.rule_steps.specs.Sums.{raisings}

-- each of the ways is one
pub raising-is : (n : List ℕ) (ms rs : List EdgeLabel) → IsIn rs (raisings n ms) → IsRaised n ms rs
raising-is n [] rs h = elim h [ inl e ↦ subst (IsRaised n []) e tt | inr none ↦ absurd none ]
raising-is n (m ∷ ms) rs h =
    let shift = from_flat_map (λ s. map (λ rest. (m.0, plus_of m.1 s) ∷ rest) (raisings (minus_of n s) ms)) rs (below n) h in
    let rest = from_map (λ rest. (m.0, plus_of m.1 shift.0) ∷ rest) rs (raisings (minus_of n shift.0) ms) shift.2 in
    subst (IsRaised n (m ∷ ms)) rest.2 (shift.0, minus_of n shift.0, sym (plus-minus shift.0 n (in_below n shift.0 shift.1)), refl, refl, raising-is (minus_of n shift.0) ms rest.0 rest.1)

-- a multiindex with as many entries as n, where it has fewer
abbrev pub zeros : List ℕ → List ℕ
zeros [] = []
zeros (x ∷ xs) = 0 ∷ zeros xs

abbrev padded : List ℕ → List ℕ → List ℕ
padded n x = plus_of (zeros n) x

pub zeros-below : (n : List ℕ) → IsBelow (zeros n) n
zeros-below [] = tt
zeros-below (x ∷ xs) = (omega arith, zeros-below xs)

zeros-plus_self : (n : List ℕ) → plus_of (zeros n) n ≡ n
zeros-plus_self [] = refl
zeros-plus_self (x ∷ xs) = let first : 0 + x ≡ x = omega arith in let rest : plus_of (zeros xs) xs ≡ xs = zeros-plus_self xs in cc

zeros-plus_nil : (n : List ℕ) → plus_of (zeros n) [] ≡ zeros n
zeros-plus_nil [] = refl
zeros-plus_nil (x ∷ xs) = refl

minus-zeros : (n : List ℕ) → minus_of n (zeros n) ≡ n
minus-zeros [] = refl
minus-zeros (x ∷ xs) = let first : x - 0 ≡ x = omega arith in let rest : minus_of xs (zeros xs) ≡ xs = minus-zeros xs in cc

minus-self : (n : List ℕ) → minus_of n n ≡ zeros n
minus-self [] = refl
minus-self (x ∷ xs) = let first : x - x ≡ 0 = omega arith in let rest : minus_of xs xs ≡ zeros xs = minus-self xs in cc

below-self : (n : List ℕ) → IsBelow n n
below-self [] = tt
below-self (x ∷ xs) = (omega arith, below-self xs)

-- n is parted in two
record IsParted (n shift rest : List ℕ) : Type 0 where
  pub below : IsBelow (padded n shift) n
  pub left : minus_of n (padded n shift) ≡ padded n rest

parted : (shift rest : List ℕ) → IsParted (plus_of shift rest) shift rest
parted [] rest = record {
  below = subst (λ l. IsBelow l rest) (sym (zeros-plus_nil rest)) (zeros-below rest);
  left = ap (minus_of rest) (zeros-plus_nil rest) ∙ minus-zeros rest ∙ sym (zeros-plus_self rest);
}
parted (s ∷ ss) [] =
    let self = zeros-plus_self (s ∷ ss) in
    record {
      below = subst (λ l. IsBelow l (s ∷ ss)) (sym self) (below-self (s ∷ ss));
      left = ap (minus_of (s ∷ ss)) self ∙ minus-self (s ∷ ss) ∙ sym (zeros-plus_nil (s ∷ ss));
    }
parted (s ∷ ss) (r ∷ rs) =
    let more = parted ss rs in
    record {
      below = (omega arith, more.below);
      left = let first : s + r - (0 + s) ≡ 0 + r = omega arith in let rest : minus_of (plus_of ss rs) (padded (plus_of ss rs) ss) ≡ padded (plus_of ss rs) rs = more.left in cc;
    }

top_or_below : (x k : ℕ) → k ≤ suc x → (k ≡ suc x) ⊎ (k ≤ x)
top_or_below x zero h = inr (omega arith)
top_or_below zero (suc k) h = inl (omega (arith, h))
top_or_below (suc x) (suc k) h = elim (top_or_below x k (omega (arith, h))) [ inl e ↦ inl (ap suc e) | inr less ↦ inr (omega (arith, less)) ]

in_down_from-le : (x k : ℕ) → k ≤ x → IsIn k (down_from x)
in_down_from-le zero k h = inl (omega (arith, h))
in_down_from-le (suc x) k h = elim (top_or_below x k h) [ inl e ↦ inl (sym e) | inr less ↦ inr (in_down_from-le x k less) ]

in_below-back : (n a : List ℕ) → IsBelow a n → IsIn a (below n)
in_below-back [] [] h = inl refl
in_below-back [] (k ∷ ks) h = absurd h
in_below-back (x ∷ xs) [] h = absurd h
in_below-back (x ∷ xs) (k ∷ ks) h =
    in_flat_map (λ k. map (λ ks. k ∷ ks) (below xs)) (k ∷ ks) k (down_from x) (in_down_from-le x k h.0) (in_map (λ ks. k ∷ ks) ks (below xs) (in_below-back xs ks h.1))

zeros-more : (m n : List ℕ) → length m ≡ length n → plus_of m (zeros n) ≡ m
zeros-more [] [] h = refl
zeros-more [] (x ∷ n) h = absurd (omega (arith, h))
zeros-more (x ∷ m) [] h = refl
zeros-more (x ∷ m) (y ∷ n) h = let first : x + 0 ≡ x = omega arith in let rest : plus_of m (zeros n) ≡ m = zeros-more m n (omega (arith, h)) in cc

-- each edge type has as many directions as n
abbrev pub HasLength : List ℕ → EdgeLabel → Type 0
HasLength n m = length m.1 ≡ length n

zeros-minus : (n a : List ℕ) → IsBelow a n → zeros (minus_of n a) ≡ zeros n
zeros-minus [] [] h = refl
zeros-minus [] (k ∷ ks) h = absurd h
zeros-minus (x ∷ xs) [] h = refl
zeros-minus (x ∷ xs) (k ∷ ks) h = ap (λ l. 0 ∷ l) (zeros-minus xs ks h.1)

length-minus : (n a : List ℕ) → IsBelow a n → length (minus_of n a) ≡ length n
length-minus [] [] h = refl
length-minus [] (k ∷ ks) h = absurd h
length-minus (x ∷ xs) [] h = refl
length-minus (x ∷ xs) (k ∷ ks) h = ap suc (length-minus xs ks h.1)

lengths-minus : (n a : List ℕ) (ms : List EdgeLabel) → IsBelow a n → AllByRecursion (HasLength n) ms → AllByRecursion (HasLength (minus_of n a)) ms
lengths-minus n a [] h all = tt
lengths-minus n a (m ∷ ms) h all = (all.0 ∙ sym (length-minus n a h), lengths-minus n a ms h all.1)

-- and each way to raise them is there
pub raising-there : (n : List ℕ) (ms rs : List EdgeLabel) → AllByRecursion (HasLength n) ms → IsRaised n ms rs → IsIn rs (raisings n ms)
raising-there n [] [] lengths h = inl refl
raising-there n [] (r ∷ rs) lengths h = absurd h
raising-there n (m ∷ ms) [] lengths h = absurd h
raising-there n (m ∷ ms) (r ∷ rs) lengths h =
    let parts = subst (λ l. IsParted l h.0 h.1) (sym h.2) (parted h.0 h.1) in
    let shift = padded n h.0 in
    let label : plus_of m.1 shift ≡ r.1 =
    sym (plus_assoc m.1 (zeros n) h.0) ∙ ap (λ l. plus_of l h.0) (zeros-more m.1 n lengths.0) ∙ sym h.4 in
    let rest : IsRaised (minus_of n shift) ms rs = subst (λ l. IsRaised l ms rs) (sym parts.left) (raised-more (zeros n) h.1 ms rs h.5) in
    let there = raising-there (minus_of n shift) ms rs (lengths-minus n shift ms parts.below lengths.1) rest in
    let same : (m.0, plus_of m.1 shift) ≡ r = ap (λ (k : ℕ). (k, plus_of m.1 shift)) (sym h.3) ∙ ap (λ (l : List ℕ). (r.0, l)) label in
    let whole : (m.0, plus_of m.1 shift) ∷ rs ≡ r ∷ rs = ap (λ (x : EdgeLabel). x ∷ rs) same in
    subst (λ l. IsIn l (raisings n (m ∷ ms))) whole
    (in_flat_map (λ s. map (λ more. (m.0, plus_of m.1 s) ∷ more) (raisings (minus_of n s) ms)) ((m.0, plus_of m.1 shift) ∷ rs) shift (below n) (in_below-back n shift parts.below)
    (in_map (λ more. (m.0, plus_of m.1 shift) ∷ more) rs (raisings (minus_of n shift) ms) there))
