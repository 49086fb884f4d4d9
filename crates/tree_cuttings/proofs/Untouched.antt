-- At a node that is not touched all parts are 0 and their multinomial is 1, so a product over the
-- touched nodes is one over all nodes.
use Rattle.std.proofs.Common.{◌≡◌, ℕ, zero, suc, ◌*◌, ◌==◌, Bool, true, false, cond, not, ◌&&◌, ◌||◌, List, [], ◌∷◌, ◌++◌, map, filter, refl, sym, ap, ◌∙◌, arith}
use Rattle.std.proofs.lemmas.Bool.{and_parts}
use Rattle.std.specs.List.{list_all}
use Rattle.exact_sums.specs.Binomials.{binomial}
use Rattle.exact_sums.specs.Sums.{product_over}
use Rattle.degree_numbers.specs.Multi.{is_zero}
use Rattle.plain_trees.specs.Multinomials.{plus_all, choose, multinomial_of}
use Rattle.plain_trees.specs.Cutting.{Marked, Cutting, Node, nodes_of, is_touched, is_cutting, parts_at}

or_first : (a : Bool) → a || false ≡ true → a ≡ true
or_first true h = refl
or_first false h = h

pub choose_zero : (ns s : List ℕ) → is_zero s ≡ true → choose ns s ≡ 1
unfolding binomial
choose_zero ns [] h = refl
choose_zero [] (zero ∷ s) h = omega (arith, choose_zero [] s h)
choose_zero (n ∷ ns) (zero ∷ s) h = omega (arith, choose_zero ns s h)
choose_zero [] (suc k ∷ s) h = let z : (suc k == 0) ≡ false = grind arith in let e : false ≡ true = sym z ∙ (and_parts (suc k == 0) (is_zero s) h).0 in absurd cc
choose_zero (n ∷ ns) (suc k ∷ s) h = let z : (suc k == 0) ≡ false = grind arith in let e : false ≡ true = sym z ∙ (and_parts (suc k == 0) (is_zero s) h).0 in absurd cc

multinomial_zero : (ms : List (List ℕ)) → list_all is_zero ms ≡ true → multinomial_of ms ≡ 1
multinomial_zero [] h = refl
multinomial_zero (m ∷ ms) h =
    let z = (and_parts (is_zero m) (list_all is_zero ms) h).0 in
    let rest = multinomial_zero ms (and_parts (is_zero m) (list_all is_zero ms) h).1 in
    rw (choose_zero (plus_all (m ∷ ms)) m z, rest) refl

same_number : (a b : ℕ) → (a == b) ≡ true → a ≡ b
same_number a b h = grind (arith, h)

or_second : (a b : Bool) → a ≡ false → a || b ≡ true → b ≡ true
or_second true b e h = absurd cc
or_second false b e h = h

and_false : (a b : Bool) → a ≡ false → a && b ≡ false
and_false true b e = absurd cc
and_false false b e = refl

-- the shifts of the edges that leave such a node
abbrev zero_shift : Bool → List Marked → Marked → Bool
zero_shift forced whole e = (is_touched forced whole e.parent && not e.inside) || is_zero e.shift

shifts_zero : (forced : Bool) (whole : List Marked) (j : ℕ) (es : List Marked) →
    is_touched forced whole j ≡ false → list_all (zero_shift forced whole) es ≡ true →
    list_all is_zero (map (λ (e : Marked). e.shift) (filter (λ e. (e.parent == j) && not e.inside) es)) ≡ true
shifts_zero forced whole j [] t h = refl
shifts_zero forced whole j (e ∷ es) t h =
    let first = (and_parts (zero_shift forced whole e) (list_all (zero_shift forced whole) es) h).0 in
    let rest = shifts_zero forced whole j es t (and_parts (zero_shift forced whole e) (list_all (zero_shift forced whole) es) h).1 in
    let ys = filter (λ (d : Marked). (d.parent == j) && not d.inside) es in
    (elim (e.parent == j) as (λ b. (e.parent == j) ≡ b → list_all is_zero (map (λ (d : Marked). d.shift) (cond (b && not e.inside) (e ∷ ys) ys)) ≡ true) [
      | true ↦ λ q.
          let at : is_touched forced whole e.parent ≡ false = ap (is_touched forced whole) (same_number e.parent j q) ∙ t in
          let z : is_zero e.shift ≡ true = or_second (is_touched forced whole e.parent && not e.inside) (is_zero e.shift) (and_false (is_touched forced whole e.parent) (not e.inside) at) first in
          elim (not e.inside) as (λ b. list_all is_zero (map (λ (d : Marked). d.shift) (cond b (e ∷ ys) ys)) ≡ true) [
            | true ↦ rw z rest
            | false ↦ rest
          ]
      | false ↦ λ q. rest
    ]) refl

all-append : (xs ys : List (List ℕ)) → list_all is_zero xs ≡ true → list_all is_zero ys ≡ true → list_all is_zero (xs ++ ys) ≡ true
all-append [] ys a b = b
all-append (x ∷ xs) ys a b =
    let z = (and_parts (is_zero x) (list_all is_zero xs) a).0 in
    rw z (all-append xs ys (and_parts (is_zero x) (list_all is_zero xs) a).1 b)

and_true : (a b : Bool) → a ≡ true → b ≡ true → a && b ≡ true
and_true true b p q = q
and_true false b p q = absurd cc

untouched : (forced : Bool) (whole : List Marked) (v : Node) →
    list_all (zero_shift forced whole) whole ≡ true →
    is_touched forced whole v.number || is_zero v.taken ≡ true →
    is_touched forced whole v.number ≡ false → multinomial_of (parts_at whole v) ≡ 1
untouched forced whole v all h t =
    let z : is_zero v.taken ≡ true = or_second (is_touched forced whole v.number) (is_zero v.taken) t h in
    multinomial_zero (parts_at whole v)
    (all-append (map (λ (e : Marked). e.shift) (filter (λ e. (e.parent == v.number) && not e.inside) whole)) (v.taken ∷ [])
    (shifts_zero forced whole v.number whole t all) (and_true (is_zero v.taken) true z refl))

-- a product over those that pass a test, where the others have the factor 1
product_passed : {X : Type 0} (f : X → ℕ) (p q : X → Bool) →
    ((x : X) → q x ≡ true → p x ≡ false → f x ≡ 1) → (xs : List X) → list_all q xs ≡ true →
    product_over f (filter p xs) ≡ product_over f xs
product_passed f p q one [] h = refl
product_passed f p q one (x ∷ xs) h =
    let rest = product_passed f p q one xs (and_parts (q x) (list_all q xs) h).1 in
    (elim (p x) as (λ b. p x ≡ b → product_over f (cond b (x ∷ filter p xs) (filter p xs)) ≡ f x * product_over f xs) [
      | true ↦ λ e. ap (λ (n : ℕ). f x * n) rest
      | false ↦ λ e. rw (one x (and_parts (q x) (list_all q xs) h).0 e) (omega (arith, rest))
    ]) refl

pub touched_product : (forced : Bool) (c : Cutting) → is_cutting forced c ≡ true →
    product_over (λ v. multinomial_of (parts_at c.edges v)) (filter (λ v. is_touched forced c.edges v.number) (nodes_of c)) ≡ product_over (λ v. multinomial_of (parts_at c.edges v)) (nodes_of c)
touched_product forced c h =
    let nodes = (and_parts (list_all (λ v. is_touched forced c.edges v.number || is_zero v.taken) (nodes_of c)) (list_all (zero_shift forced c.edges) c.edges) h).0 in
    let edges = (and_parts (list_all (λ v. is_touched forced c.edges v.number || is_zero v.taken) (nodes_of c)) (list_all (zero_shift forced c.edges) c.edges) h).1 in
    product_passed (λ v. multinomial_of (parts_at c.edges v)) (λ v. is_touched forced c.edges v.number) (λ v. is_touched forced c.edges v.number || is_zero v.taken)
    (λ v q t. untouched forced c.edges v edges q t) (nodes_of c) nodes
