-- A canonical tree without one of its root's edges.
use Rattle.std.proofs.Common.{◌≡◌, ℕ, suc, ◌+◌, ◌*◌, Bool, true, false, cond, if◌then◌else◌, List, [], ◌∷◌, length, refl, sym, ap, subst, ◌∙◌, inl, inr, arith, Ordering, Less, Equal, Greater}
use Rattle.std.specs.Ordering.{is_eq, is_gt, ordering_reverse}
use Rattle.std.proofs.lemmas.Cmp.{upto, tied_itself}
use Rattle.ordered_lists.specs.Members.{IsIn}
use Rattle.ordered_lists.specs.Subs.{count_of}
use Rattle.ordered_lists.proofs.Unique.{own}
use Rattle.plain_trees.specs.Plain.{Plain, bare, graft, edge_count_of}
use Rattle.plain_trees.specs.Canon.{Planted, planted_order, with_edge, IsAtMostFirst, IsCanonical}
use Rattle.plain_trees.proofs.CanonLaws.{planted_total, planted_exact}
use Rattle.elementary_diff.specs.Symmetry.{root_edge, root_edges, symmetry_of}
use Rattle.elementary_diff.specs.Orders.{factorials_above, node_factorials}
use Rattle.elementary_diff.proofs.SymmetryLaws.{symmetry-graft}

abbrev same : Planted → Planted → Bool
same e f = is_eq (planted_order e f)

abbrev pub without : Planted → Plain → Plain
without e (bare n) = bare n
without e (graft k p c t) = if same e (root_edge k p c) then t else graft k p c (without e t)

abbrev over : Planted → Plain → Plain
over e t = graft e.kind e.p e.child t

-- the two cases of the test
stops : (e f : Planted) (t : Plain) → same e f ≡ true → without e (over f t) ≡ t
stops e f t h = rw h refl

passes : (e f : Planted) (t : Plain) → same e f ≡ false → without e (over f t) ≡ over f (without e t)
passes e f t h = rw h refl

same_is : (e f : Planted) → same e f ≡ true → e ≡ f
same_is e f h = planted_exact e f (equal (planted_order e f) h)
  where
    equal : (r : Ordering) → is_eq r ≡ true → r ≡ Equal
    equal Less k = absurd cc
    equal Equal k = refl
    equal Greater k = absurd cc

other_counts : (r : Ordering) → is_eq r ≡ false → (λ (n : ℕ). n ≡ 0) (cond (is_eq r) 1 0)
other_counts r h = rw h refl

-- an edge that is not the first stands behind it
later : (e f : Planted) (t : Plain) → same e f ≡ false → IsIn e (root_edges (over f t)) → IsIn e (root_edges t)
later e f t h k = elim k [ inl q ↦ absurd (differ (sym h ∙ subst (λ (g : Planted). same e g ≡ true) (sym q) (itself e))) | inr r ↦ r ]
  where
    differ : false ≡ true → ⊥
    differ q = absurd cc

    itself : (g : Planted) → same g g ≡ true
    itself g = ap is_eq (tied_itself planted_total g)

-- what stands behind the first is not less
not_less : (f e : Planted) (t : Plain) → IsCanonical (over f t) → IsIn e (root_edges t) → is_gt (planted_order f e) ≡ false
not_less f e (bare n) h k = absurd k
not_less f e (graft l q d t) h k =
    elim k [
      | inl s ↦ subst (λ (g : Planted). is_gt (planted_order f g) ≡ false) s h.2
      | inr r ↦ upto planted_total f (root_edge l q d) e h.2 (not_less (root_edge l q d) e t h.1 r)
    ]

greater : (e f : Planted) → same e f ≡ false → is_gt (planted_order f e) ≡ false → is_gt (planted_order e f) ≡ true
greater e f h k = at (planted_order e f) h (sym (ap is_gt (planted_total.antisymm f e)) ∙ k)
  where
    at : (r : Ordering) → is_eq r ≡ false → is_gt (ordering_reverse r) ≡ false → is_gt r ≡ true
    at Less q s = absurd cc
    at Equal q s = absurd cc
    at Greater q s = refl

first_stays : (e : Planted) (t : Plain) → IsAtMostFirst e t → with_edge e t ≡ over e t
first_stays e (bare n) h = refl
first_stays e (graft k p c t) h = rw h refl

inserted_behind : (e f : Planted) (t : Plain) → is_gt (planted_order e f) ≡ true → with_edge e (over f t) ≡ over f (with_edge e t)
inserted_behind e f t h = rw h refl

inserted_before : (e f : Planted) (t : Plain) → is_gt (planted_order e f) ≡ false → with_edge e (over f t) ≡ over e (over f t)
inserted_before e f t h = rw h refl

-- put back
pub with-without : (e : Planted) (t : Plain) → IsCanonical t → IsIn e (root_edges t) → with_edge e (without e t) ≡ t
with-without e (bare n) h k = absurd k
with-without e (graft l q d t) h k =
    let f = root_edge l q d in
    (elim (same e f) as (λ b. same e f ≡ b → with_edge e (without e (over f t)) ≡ over f t) [
      | true ↦ λ s. ap (with_edge e) (stops e f t s) ∙ subst (λ (g : Planted). with_edge g t ≡ over f t) (sym (same_is e f s)) (first_stays f t h.2)
      | false ↦ λ s.
          let r = later e f t s k in
          ap (with_edge e) (passes e f t s) ∙ inserted_behind e f (without e t) (greater e f s (not_less f e t h r)) ∙ ap (over f) (with-without e t h.1 r)
    ]) refl

-- and taken out again
pub without-with : (e : Planted) (t : Plain) → without e (with_edge e t) ≡ t
without-with e (bare n) = stops e e (bare n) (ap is_eq (tied_itself planted_total e))
without-with e (graft l q d t) =
    let f = root_edge l q d in
    (elim (planted_order e f) as (λ r. planted_order e f ≡ r → without e (with_edge e (over f t)) ≡ over f t) [
      | Less ↦ λ s. ap (without e) (inserted_before e f t (ap is_gt s)) ∙ stops e e (over f t) (ap is_eq (tied_itself planted_total e))
      | Equal ↦ λ s. ap (without e) (inserted_before e f t (ap is_gt s)) ∙ stops e e (over f t) (ap is_eq (tied_itself planted_total e))
      | Greater ↦ λ s. ap (without e) (inserted_behind e f t (ap is_gt s)) ∙ passes e f (with_edge e t) (ap is_eq s) ∙ ap (over f) (without-with e t)
    ]) refl

pub in-with : (e : Planted) (t : Plain) → IsIn e (root_edges (with_edge e t))
in-with e (bare n) = inl refl
in-with e (graft l q d t) =
    let f = root_edge l q d in
    (elim (is_gt (planted_order e f)) as (λ b. is_gt (planted_order e f) ≡ b → IsIn e (root_edges (with_edge e (over f t)))) [
      | true ↦ λ s. subst (λ (u : Plain). IsIn e (root_edges u)) (sym (inserted_behind e f t s)) (inr (in-with e t))
      | false ↦ λ s. subst (λ (u : Plain). IsIn e (root_edges u)) (sym (inserted_before e f t s)) (inl refl)
    ]) refl

in_without : (g e : Planted) (t : Plain) → IsIn g (root_edges (without e t)) → IsIn g (root_edges t)
in_without g e (bare n) h = h
in_without g e (graft l q d t) h =
    let f = root_edge l q d in
    (elim (same e f) as (λ b. same e f ≡ b → IsIn g (root_edges (if b then t else graft l q d (without e t))) → IsIn g (root_edges (graft l q d t))) [
      | true ↦ λ s k. inr k
      | false ↦ λ s k. elim k [ inl r ↦ inl r | inr r ↦ inr (in_without g e t r) ]
    ]) refl h

at_most_all : (f : Planted) (t : Plain) → ((g : Planted) → IsIn g (root_edges t) → is_gt (planted_order f g) ≡ false) → IsAtMostFirst f t
at_most_all f (bare n) h = tt
at_most_all f (graft l q d t) h = h (root_edge l q d) (inl refl)

pub without-canonical : (e : Planted) (t : Plain) → IsCanonical t → IsCanonical (without e t)
without-canonical e (bare n) h = tt
without-canonical e (graft l q d t) h =
    let f = root_edge l q d in
    (elim (same e f) as (λ b. same e f ≡ b → IsCanonical (if b then t else graft l q d (without e t))) [
      | true ↦ λ s. h.1
      | false ↦ λ s. (h.0, without-canonical e t h.1, at_most_all f (without e t) (λ g k. not_less f g t h (in_without g e t k)))
    ]) refl

pub child-canonical : (e : Planted) (t : Plain) → IsCanonical t → IsIn e (root_edges t) → IsCanonical e.child
child-canonical e (bare n) h k = absurd k
child-canonical e (graft l q d t) h k = elim k [ inl s ↦ subst (λ (g : Planted). IsCanonical g.child) s h.0 | inr r ↦ child-canonical e t h.1 r ]

-- what is less without the edge
one_less : (e : Planted) (l : ℕ) (q : List ℕ) (d t : Plain) (P : Plain → Type 0) →
    (same e (root_edge l q d) ≡ true → e ≡ root_edge l q d → P t) →
    (same e (root_edge l q d) ≡ false → P (graft l q d (without e t))) →
    P (without e (graft l q d t))
one_less e l q d t P taken kept =
    (elim (same e (root_edge l q d)) as (λ b. same e (root_edge l q d) ≡ b → P (if b then t else graft l q d (without e t))) [
      | true ↦ λ s. taken s (same_is e (root_edge l q d) s)
      | false ↦ λ s. kept s
    ]) refl

pub length-without : (e : Planted) (t : Plain) → IsIn e (root_edges t) → length (root_edges t) ≡ suc (length (root_edges (without e t)))
length-without e (bare n) k = absurd k
length-without e (graft l q d t) k =
    one_less e l q d t (λ u. length (root_edges (graft l q d t)) ≡ suc (length (root_edges u))) (λ s i. refl) (λ s. ap suc (length-without e t (later e (root_edge l q d) t s k)))

pub edge_count-without : (e : Planted) (t : Plain) → IsIn e (root_edges t) → edge_count_of t ≡ 1 + edge_count_of e.child + edge_count_of (without e t)
edge_count-without e (bare n) k = absurd k
edge_count-without e (graft l q d t) k =
    one_less e l q d t (λ u. edge_count_of (graft l q d t) ≡ 1 + edge_count_of e.child + edge_count_of u) (λ s i. ap (λ (g : Planted). 1 + edge_count_of g.child + edge_count_of t) (sym i))
    (λ s. omega (arith, edge_count-without e t (later e (root_edge l q d) t s k)))

pub factorials-without : (e : Planted) (t : Plain) → IsIn e (root_edges t) → factorials_above t ≡ node_factorials e.child * factorials_above (without e t)
factorials-without e (bare n) k = absurd k
factorials-without e (graft l q d t) k =
    one_less e l q d t (λ u. factorials_above (graft l q d t) ≡ node_factorials e.child * factorials_above u) (λ s i. ap (λ (g : Planted). node_factorials g.child * factorials_above t) (sym i))
    (λ s. step (node_factorials d) (factorials_above t) (node_factorials e.child) (factorials_above (without e t)) (factorials-without e t (later e (root_edge l q d) t s k)))
  where
    step : (a b x y : ℕ) → b ≡ x * y → a * b ≡ x * (a * y)
    step a b x y h = rw h (omega arith)

-- how often an edge stands at the root of what is left
pub counts-without : (z e : Planted) (t : Plain) → IsIn e (root_edges t) →
    count_of planted_order z (root_edges t) ≡ count_of planted_order z (e ∷ []) + count_of planted_order z (root_edges (without e t))
counts-without z e (bare n) k = absurd k
counts-without z e (graft l q d t) k =
    one_less e l q d t (λ u. count_of planted_order z (root_edges (graft l q d t)) ≡ count_of planted_order z (e ∷ []) + count_of planted_order z (root_edges u))
    (λ s i. omega (arith, ap (λ (g : Planted). count_of planted_order z (g ∷ [])) i)) (λ s. omega (arith, counts-without z e t (later e (root_edge l q d) t s k)))

symmetry_step : (f g b m w r : ℕ) → r ≡ g * b * w → f * suc m * r ≡ g * b * (f * suc m * w)
symmetry_step f g b m w r h = rw h (omega arith)

-- the symmetry factor by any edge of the root
pub symmetry-without : (e : Planted) (t : Plain) → IsIn e (root_edges t) →
    symmetry_of t ≡ symmetry_of e.child * count_of planted_order e (root_edges t) * symmetry_of (without e t)
symmetry-without e (bare n) k = absurd k
symmetry-without e (graft l q d t) k =
    one_less e l q d t (λ u. symmetry_of (graft l q d t) ≡ symmetry_of e.child * count_of planted_order e (root_edges (graft l q d t)) * symmetry_of u)
    (λ s i. subst (λ (g : Planted). symmetry_of (graft l q d t) ≡ symmetry_of g.child * count_of planted_order g (root_edges (graft l q d t)) * symmetry_of t) (sym i)
    (symmetry-graft l q d t ∙ ap (λ (n : ℕ). symmetry_of d * n * symmetry_of t) (omega (arith, own planted_order planted_total (root_edge l q d)))))
    (λ s.
    let f = root_edge l q d in
    let r = later e f t s k in
    let mine : count_of planted_order e (root_edges (graft l q d t)) ≡ count_of planted_order e (root_edges t) = omega (arith, other_counts (planted_order e f) s) in
    let others : count_of planted_order f (root_edges t) ≡ count_of planted_order f (root_edges (without e t)) = omega (arith, counts-without f e t r, other_counts (planted_order f e) (turned e f s)) in
    symmetry-graft l q d t
    ∙ symmetry_step (symmetry_of d) (symmetry_of e.child) (count_of planted_order e (root_edges t)) (count_of planted_order f (root_edges t)) (symmetry_of (without e t)) (symmetry_of t) (symmetry-without e t r)
    ∙ rw (mine, others, symmetry-graft l q d (without e t)) refl)
  where
    turned : (x y : Planted) → same x y ≡ false → same y x ≡ false
    turned x y h = at (planted_order x y) h (planted_total.antisymm y x)
      where
        at : (r : Ordering) → is_eq r ≡ false → planted_order y x ≡ ordering_reverse r → same y x ≡ false
        at Less q s = ap is_eq s
        at Equal q s = absurd cc
        at Greater q s = ap is_eq s
