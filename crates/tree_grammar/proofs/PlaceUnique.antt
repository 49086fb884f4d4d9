-- A text has one place at most at which it stops being the beginning of a tree text.
use Rattle.std.proofs.Common.{◌≡◌, ℕ, ◌+◌, ◌<◌, ◌≤◌, Bool, true, false, List, ◌++◌, take, drop, refl, sym, subst, arith, nat_lt, append_assoc}
use Rattle.std.proofs.lemmas.Bool.Decides.{nat_tests}
use Rattle.std.proofs.lemmas.List.{take-append-drop, take-take}
use Rattle.degree_numbers.specs.declared.types.Types.{Types}
use Rattle.tree_grammar.specs.Places.{IsTreeText, IsFront, IsPlace}

front_of : (ty : Types) (xs ys : List ℕ) → IsFront ty (xs ++ ys) → IsFront ty xs
front_of ty xs ys h = (ys ++ h.0, subst (IsTreeText ty) (append_assoc xs ys h.0) h.1)

shorter : (ty : Types) (text : List ℕ) (i j : ℕ) → i ≤ j → IsFront ty (take j text) → IsFront ty (take i text)
shorter ty text i j le h =
    let parts : take i (take j text) ++ drop i (take j text) ≡ take j text = take-append-drop i (take j text) in
    let same = take-take i j text le in
    subst (IsFront ty) same (front_of ty (take i (take j text)) (drop i (take j text)) (subst (IsFront ty) (sym parts) h))

unique_at : (ty : Types) (text : List ℕ) (i j : ℕ) (b c : Bool) → nat_lt i j ≡ b → nat_lt j i ≡ c → IsPlace ty text i → IsPlace ty text j → i ≡ j
unique_at ty text i j true c hb hc p q =
    let lt : i < j = grind (arith, nat_tests) in
    absurd (p.here (omega (arith, lt, q.within)) (shorter ty text (i + 1) j (omega (arith, lt)) q.before))
unique_at ty text i j false true hb hc p q =
    let lt : j < i = grind (arith, nat_tests) in
    absurd (q.here (omega (arith, lt, p.within)) (shorter ty text (j + 1) i (omega (arith, lt)) p.before))
unique_at ty text i j false false hb hc p q = grind (arith, nat_tests)

pub place_unique : (ty : Types) (text : List ℕ) (i j : ℕ) → IsPlace ty text i → IsPlace ty text j → i ≡ j
place_unique ty text i j p q = unique_at ty text i j (nat_lt i j) (nat_lt j i) refl refl p q
