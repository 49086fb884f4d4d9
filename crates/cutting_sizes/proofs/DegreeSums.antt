-- Degrees add up over what the cuttings of a tree give.
use Rattle.std.proofs.Common.{◌≡◌, ℕ, ℤ, ◌++◌, pos, ◌+ℤ◌, inl, inr, Bool, true, false, cond, List, [], ◌∷◌, refl, ap, ◌∙◌, subst, arith}
use Rattle.std.proofs.lemmas.Int.{ints}
use Rattle.degree_numbers.specs.declared.degree.Degree.{Degree}
use Rattle.degree_numbers.specs.declared.types.Types.{Types}
use Rattle.degree_numbers.specs.Degree.{degree_plus}
use Rattle.degree_numbers.specs.Multi.{plus_of, minus_of}
use Rattle.degree_numbers.specs.Types.{size_in_units}
use Rattle.plain_trees.specs.Plain.{Plain, bare, graft}
use Rattle.plain_trees.specs.Multinomials.{zeros}
use Rattle.plain_trees.specs.Degree.{degree_of}
use Rattle.tree_cuttings.specs.Roots.{raised, joined, has_edge}
use Rattle.tree_cuttings.specs.Entries.{Entry, forest_of}
use Rattle.tree_cuttings.proofs.Degrees.{size_plus, degree_raised, edge_raised}
use Rattle.cutting_sizes.specs.Sizes.{IsAdditive, degrees_of}
use Rattle.cutting_sizes.proofs.Additive.{nodes-zeros, nodes-nothing}
use Rattle.cutting_sizes.proofs.Made.{IsShift, IsMade, taken, idle, whole, inside, over_idle, over_component, plus-minus, IsClosed}
use Rattle.cutting_sizes.proofs.AddsUp.{no_edge}

abbrev made : ℤ → ℤ → Degree
made a b = record { a = a; b = b }

pub same_degree : (d e : Degree) → d.a ≡ e.a → d.b ≡ e.b → d ≡ e
same_degree d e p q = let same : made d.a d.b ≡ made e.a e.b = cc in same

module _ (ty : Types) where
  abbrev A : Plain → ℤ
  A t = (degree_of ty t).a

  abbrev B : Plain → ℤ
  B t = (degree_of ty t).b

  abbrev As : List Plain → ℤ
  As ts = (degrees_of ty ts).a

  abbrev Bs : List Plain → ℤ
  Bs ts = (degrees_of ty ts).b

  pub of_sizes : IsAdditive (size_in_units ty) (λ k p. 0) (λ s. 0)
  of_sizes = record { nodes = size_plus ty; shifts = λ m n. omega arith; edges = λ k p s. omega arith }

  size-zeros : (n : List ℕ) → size_in_units ty (zeros n) ≡ 0
  size-zeros = nodes-zeros (size_in_units ty) (λ k p. 0) (λ s. 0) of_sizes

  size-nothing : size_in_units ty [] ≡ 0
  size-nothing = nodes-nothing (size_in_units ty) (λ k p. 0) (λ s. 0) of_sizes

  a-append : (xs ys : List Plain) → As (xs ++ ys) ≡ As xs +ℤ As ys
  a-append [] ys = omega (arith, ints)
  a-append (x ∷ xs) ys = let e = a-append xs ys in omega (arith, ints, e)

  b-append : (xs ys : List Plain) → Bs (xs ++ ys) ≡ Bs xs +ℤ Bs ys
  b-append [] ys = omega (arith, ints)
  b-append (x ∷ xs) ys = let e = b-append xs ys in omega (arith, ints, e)

  b-raised : (s : List ℕ) (t : Plain) → B (raised s t) ≡ B t
  b-raised s (bare n) = refl
  b-raised s (graft k p c t) = let e = b-raised s t in omega (arith, ints, e)

  a-joined : (s t : Plain) → A (joined s t) ≡ A s +ℤ A t
  a-joined (bare n) t = let e = degree_raised ty n t in omega (arith, ints, e)
  a-joined (graft k p c s) t = let e = a-joined s t in omega (arith, ints, e)

  b-joined : (s t : Plain) → B (joined s t) ≡ B s +ℤ B t
  b-joined (bare n) t = let e = b-raised n t in omega (arith, ints, e)
  b-joined (graft k p c s) t = let e = b-joined s t in omega (arith, ints, e)

  module _ (good : Plain → Bool) (w : List ℕ) where
    size-shift : (b : Bool) (p s : List ℕ) → IsShift b w p s → b ≡ false → size_in_units ty s ≡ 0
    size-shift b p s i q = ap (size_in_units ty) (subst (λ b. IsShift b w p s) q i) ∙ size-zeros p

    -- where the root is not touched, the root's component has degree 0
    a-none : {b : Bool} {t : Plain} {e : Entry} → IsMade good w b t e → b ≡ false → A e.part ≡ pos 0
    a-none (taken n a i) q = absurd cc
    a-none (idle n) q = let z = size-zeros n in omega (arith, ints, z)
    a-none (whole c) q = let z = size-nothing in omega (arith, ints, z)
    a-none (inside k p m n) q = absurd cc
    a-none (over_idle {b = b} {y = y} s k p i m n) q = let r = degree_raised ty s y.part in let z = size-shift b p s i q in let o = a-none n q in omega (arith, ints, r, z, o)
    a-none (over_component {b = b} {y = y} s k p i m e g n) q = let r = degree_raised ty s y.part in let z = size-shift b p s i q in let o = a-none n q in omega (arith, ints, r, z, o)

    b-none : {b : Bool} {t : Plain} {e : Entry} → IsMade good w b t e → b ≡ false → B e.part ≡ pos 0
    b-none (taken n a i) q = absurd cc
    b-none (idle n) q = refl
    b-none (whole c) q = refl
    b-none (inside k p m n) q = absurd cc
    b-none (over_idle {y = y} s k p i m n) q = b-raised s y.part ∙ b-none n q
    b-none (over_component {y = y} s k p i m e g n) q = b-raised s y.part ∙ b-none n q

    a-idle : {c : Plain} (x : Entry) → IsMade good w false c x → As (forest_of x) ≡ As x.above +ℤ A x.part
    a-idle x m = let same : As (forest_of x) ≡ As x.above = ap (λ b. As (cond b (x.part ∷ x.above) x.above)) (no_edge good w m refl) in let z = a-none m refl in omega (arith, ints, same, z)

    b-idle : {c : Plain} (x : Entry) → IsMade good w false c x → Bs (forest_of x) ≡ Bs x.above +ℤ B x.part
    b-idle x m = let same : Bs (forest_of x) ≡ Bs x.above = ap (λ b. Bs (cond b (x.part ∷ x.above) x.above)) (no_edge good w m refl) in let z = b-none m refl in omega (arith, ints, same, z)

    a-with : (x : Entry) → has_edge x.part ≡ true → As (forest_of x) ≡ As x.above +ℤ A x.part
    a-with x e = let same : As (forest_of x) ≡ A x.part +ℤ As x.above = ap (λ b. As (cond b (x.part ∷ x.above) x.above)) e in omega (arith, ints, same)

    b-with : (x : Entry) → has_edge x.part ≡ true → Bs (forest_of x) ≡ Bs x.above +ℤ B x.part
    b-with x e = let same : Bs (forest_of x) ≡ B x.part +ℤ Bs x.above = ap (λ b. Bs (cond b (x.part ∷ x.above) x.above)) e in omega (arith, ints, same)

    a-outside : (s : List ℕ) (k : ℕ) (p : List ℕ) (c t : Plain) (x y : Entry) → As (forest_of x) ≡ As x.above +ℤ A x.part → (As x.above +ℤ A x.part) +ℤ A x.quotient ≡ A c → (As y.above +ℤ A y.part) +ℤ A y.quotient ≡ A t →
        (As (forest_of x ++ y.above) +ℤ A (raised s y.part)) +ℤ A (graft k (plus_of p s) x.quotient y.quotient) ≡ A (graft k p c t)
    a-outside s k p c t x y f u v =
        let above = a-append (forest_of x) y.above in
        let part = degree_raised ty s y.part in
        let edge = edge_raised ty k p s in
        omega (arith, ints, f, u, v, above, part, edge)

    b-outside : (s : List ℕ) (k : ℕ) (p : List ℕ) (c t : Plain) (x y : Entry) → Bs (forest_of x) ≡ Bs x.above +ℤ B x.part → (Bs x.above +ℤ B x.part) +ℤ B x.quotient ≡ B c → (Bs y.above +ℤ B y.part) +ℤ B y.quotient ≡ B t →
        (Bs (forest_of x ++ y.above) +ℤ B (raised s y.part)) +ℤ B (graft k (plus_of p s) x.quotient y.quotient) ≡ B (graft k p c t)
    b-outside s k p c t x y f u v =
        let above = b-append (forest_of x) y.above in
        let part = b-raised s y.part in
        omega (arith, ints, f, u, v, above, part)

    a-sums : {b : Bool} {t : Plain} {e : Entry} → IsMade good w b t e → (As e.above +ℤ A e.part) +ℤ A e.quotient ≡ A t
    a-sums (taken n a i) = let parted = size_plus ty a (minus_of n a) in let all = ap (size_in_units ty) (plus-minus n a i) in omega (arith, ints, parted, all)
    a-sums (idle n) = let z = size-zeros n in omega (arith, ints, z)
    a-sums (whole c) = let z = size-nothing in omega (arith, ints, z)
    a-sums (inside {x = x} {y = y} k p m n) =
        let above = a-append x.above y.above in
        let quotient = a-joined x.quotient y.quotient in
        let u = a-sums m in
        let v = a-sums n in
        omega (arith, ints, above, quotient, u, v)
    a-sums (over_idle {c = c} {t = t} {x = x} {y = y} s k p i m n) = a-outside s k p c t x y (a-idle x m) (a-sums m) (a-sums n)
    a-sums (over_component {c = c} {t = t} {x = x} {y = y} s k p i m e g n) = a-outside s k p c t x y (a-with x e) (a-sums m) (a-sums n)

    b-sums : {b : Bool} {t : Plain} {e : Entry} → IsMade good w b t e → (Bs e.above +ℤ B e.part) +ℤ B e.quotient ≡ B t
    b-sums (taken n a i) = omega (arith, ints)
    b-sums (idle n) = omega (arith, ints)
    b-sums (whole c) = omega (arith, ints)
    b-sums (inside {x = x} {y = y} k p m n) =
        let above = b-append x.above y.above in
        let quotient = b-joined x.quotient y.quotient in
        let u = b-sums m in
        let v = b-sums n in
        omega (arith, ints, above, quotient, u, v)
    b-sums (over_idle {c = c} {t = t} {x = x} {y = y} s k p i m n) = b-outside s k p c t x y (b-idle x m) (b-sums m) (b-sums n)
    b-sums (over_component {c = c} {t = t} {x = x} {y = y} s k p i m e g n) = b-outside s k p c t x y (b-with x e) (b-sums m) (b-sums n)

    pub open_degrees : {b : Bool} {t : Plain} (e : Entry) → IsMade good w b t e → degree_plus (degrees_of ty (e.part ∷ e.above)) (degree_of ty e.quotient) ≡ degree_of ty t
    open_degrees {t = t} e m =
        let u = a-sums m in
        let v = b-sums m in
        same_degree (degree_plus (degrees_of ty (e.part ∷ e.above)) (degree_of ty e.quotient)) (degree_of ty t) (omega (arith, ints, u)) (omega (arith, ints, v))

    closed-degrees : (t : Plain) (e : Entry) → As (forest_of e) ≡ As e.above +ℤ A e.part → Bs (forest_of e) ≡ Bs e.above +ℤ B e.part → (As e.above +ℤ A e.part) +ℤ A e.quotient ≡ A t → (Bs e.above +ℤ B e.part) +ℤ B e.quotient ≡ B t →
        degree_plus (degrees_of ty (forest_of e)) (degree_of ty e.quotient) ≡ degree_of ty t
    closed-degrees t e f g u v = same_degree (degree_plus (degrees_of ty (forest_of e)) (degree_of ty e.quotient)) (degree_of ty t) (omega (arith, ints, f, u)) (omega (arith, ints, g, v))

    pub closed_degrees : (t : Plain) (e : Entry) → IsClosed good w t e → degree_plus (degrees_of ty (forest_of e)) (degree_of ty e.quotient) ≡ degree_of ty t
    closed_degrees t e (inl m) = closed-degrees t e (a-idle e m) (b-idle e m) (a-sums m) (b-sums m)
    closed_degrees t e (inr m) = closed-degrees t e (a-with e m.1) (b-with e m.1) (a-sums m.0) (b-sums m.0)

    pub alone_degrees : (t : Plain) (e : Entry) → IsMade good w true t e → e.above ≡ [] → degree_plus (degree_of ty e.part) (degree_of ty e.quotient) ≡ degree_of ty t
    alone_degrees t e m alone =
        let u = a-sums m in
        let v = b-sums m in
        let x = ap As alone in
        let y = ap Bs alone in
        same_degree (degree_plus (degree_of ty e.part) (degree_of ty e.quotient)) (degree_of ty t) (omega (arith, ints, u, x)) (omega (arith, ints, v, y))
