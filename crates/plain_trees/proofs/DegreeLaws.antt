-- What does not depend on the order in which the edges of a tree are drawn.
use Rattle.std.proofs.Common.{◌≡◌, ℕ, zero, suc, ◌==◌, ◌&&◌, Bool, true, false, List, [], ◌∷◌, length, refl, sym, ap, ◌∙◌, subst, arith, Some, None}
use Rattle.std.proofs.lemmas.Bool.{and_parts}
use Rattle.std.specs.List.{list_all}
use Rattle.std.specs.declared.option.Option.{Option}
use Rattle.std.proofs.lemmas.Bool.Decides.{nat_tests}
use Rattle.std.proofs.lemmas.Int.{ints}
use Rattle.degree_numbers.specs.declared.types.Types.{Types}
use Rattle.degree_numbers.specs.declared.types.Kind.{Kind}
use Rattle.degree_numbers.specs.declared.types.Kind.TheVariants.{Noise, Kernel}
use Rattle.degree_numbers.specs.declared.degree.Degree.{Degree}
use Rattle.degree_numbers.specs.Degree.{degree_plus}
use Rattle.degree_numbers.specs.Types.{kind_of}
use Rattle.plain_trees.specs.Plain.{Plain, bare, graft, root_of}
use Rattle.plain_trees.specs.Canon.{canon, IsSame, exchanged, on_both, unchanged, chained}
use Rattle.plain_trees.specs.Degree.{degree_of, edge_degree_of, empty_tree, is_empty_tree, is_kernel, is_kernel_kind, planted, IsPlanted, IsMultiIndex, HasTypes}
use Rattle.plain_trees.proofs.CanonLaws.{canon_same}

abbrev made : (a b : Degree) → Degree
made a b = record { a = a.a; b = b.b }

plus_exchange : (x y z : Degree) → degree_plus x (degree_plus y z) ≡ degree_plus y (degree_plus x z)
plus_exchange x y z =
    let l = degree_plus x (degree_plus y z) in
    let r = degree_plus y (degree_plus x z) in
    let a : l.a ≡ r.a = omega (arith, ints) in
    let b : l.b ≡ r.b = omega (arith, ints) in
    let e : made l l ≡ made r r = cc in
    e

pub same_degree : (ty : Types) {s t : Plain} → IsSame s t → degree_of ty s ≡ degree_of ty t
same_degree ty (exchanged k p c l q d t) = plus_exchange (degree_plus (edge_degree_of ty k p) (degree_of ty c)) (degree_plus (edge_degree_of ty l q) (degree_of ty d)) (degree_of ty t)
same_degree ty (on_both {c = c} {d = d} {s = s} {t = t} k p h j) = rw (same_degree ty h, same_degree ty j) refl
same_degree ty (unchanged t) = refl
same_degree ty (chained h j) = same_degree ty h ∙ same_degree ty j

pub canon_degree : (ty : Types) (t : Plain) → degree_of ty (canon t) ≡ degree_of ty t
canon_degree ty t = sym (same_degree ty (canon_same t))

false_and : (a b : Bool) → (a && false) ≡ (b && false)
false_and true true = refl
false_and true false = refl
false_and false true = refl
false_and false false = refl

pub same_empty : {s t : Plain} → IsSame s t → is_empty_tree s ≡ is_empty_tree t
same_empty (exchanged k p c l q d t) = refl
same_empty (on_both k p h j) = refl
same_empty (unchanged t) = refl
same_empty (chained h j) = same_empty h ∙ same_empty j

pub same_planted : (ty : Types) {s t : Plain} → IsSame s t → planted ty s ≡ planted ty t
same_planted ty (exchanged k p c l q d t) = false_and (is_kernel ty k) (is_kernel ty l)
same_planted ty (on_both {c = c} {d = d} {s = s} {t = t} k p h j) = ap (λ b. is_kernel ty k && b) (same_empty j)
same_planted ty (unchanged t) = refl
same_planted ty (chained h j) = same_planted ty h ∙ same_planted ty j

same_bare : {s t : Plain} (n : List ℕ) → IsSame s t → s ≡ bare n → t ≡ bare n
same_bare n (exchanged k p c l q d t) e = absurd cc
same_bare n (on_both k p h j) e = absurd cc
same_bare n (unchanged t) e = e
same_bare n (chained h j) e = same_bare n j (same_bare n h e)

pub same_types : (ty : Types) {s t : Plain} → IsSame s t → HasTypes ty s → HasTypes ty t
same_types ty (exchanged k p c l q d t) h = (h.2.0, h.2.1, (h.0, h.1, h.2.2))
same_types ty (on_both k p i j) h =
    (record { known = h.0.known; decoration = h.0.decoration; noise = λ e. same_bare _ i (h.0.noise e) }, same_types ty i h.1, same_types ty j h.2)
same_types ty (unchanged t) h = h
same_types ty (chained i j) h = same_types ty j (same_types ty i h)

pub canon_types : (ty : Types) (t : Plain) → HasTypes ty t → HasTypes ty (canon t)
canon_types ty t h = same_types ty (canon_same t) h

-- planted trees
zero_test : (x : ℕ) → (x == 0) ≡ true → x ≡ 0
zero_test x h = grind (arith, nat_tests)

abbrev zeros : ℕ → List ℕ
zeros zero = []
zeros (suc i) = 0 ∷ zeros i

all_zero : (m : List ℕ) → list_all (λ x. x == 0) m ≡ true → m ≡ zeros (length m)
all_zero [] h = refl
all_zero (x ∷ xs) h =
    let parts = and_parts (x == 0) (list_all (λ x. x == 0) xs) h in
    let first = zero_test x parts.0 in
    let rest = all_zero xs parts.1 in
    cc

pub empty_is : (t : Plain) (dims : ℕ) → ((n : List ℕ) → t ≡ bare n → IsMultiIndex dims n) → is_empty_tree t ≡ true → t ≡ empty_tree
empty_is (bare n) dims h e = ap bare (all_zero n e ∙ ap zeros (h n refl).entries)
empty_is (graft k p c t) dims h e = absurd cc

kernel_kind : (k : Option Kind) → is_kernel_kind k ≡ true → k ≡ Some Kernel
kernel_kind None h = absurd cc
kernel_kind (Some Noise) h = absurd cc
kernel_kind (Some Kernel) h = refl

root_multi : (ty : Types) (t : Plain) → HasTypes ty t → (n : List ℕ) → t ≡ bare n → IsMultiIndex ty.dims n
root_multi ty (bare m) h n e = subst (IsMultiIndex ty.dims) (ap (λ (s : Plain). root_of s) e) h
root_multi ty (graft k p c t) h n e = absurd cc

pub planted_is : (ty : Types) (t : Plain) → HasTypes ty t → planted ty t ≡ true → IsPlanted ty t
planted_is ty (bare n) h e = absurd cc
planted_is ty (graft k p c t) h e =
    let parts = and_parts (is_kernel ty k) (is_empty_tree t) e in
    (k, p, c, kernel_kind (kind_of ty k) parts.0, ap (graft k p c) (empty_is t ty.dims (root_multi ty t h.2) parts.1))

pub is_planted : (ty : Types) (t : Plain) → IsPlanted ty t → planted ty t ≡ true
is_planted ty t h = let kernel = h.3 in let tree = h.4 in rw (tree, kernel) refl
