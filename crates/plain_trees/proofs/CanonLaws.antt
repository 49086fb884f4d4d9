-- The laws of canonical form.
use Rattle.std.proofs.Common.{◌≡◌, ℕ, Bool, true, false, List, refl, sym, ap, ◌∙◌, Equal, nat_cmp, subst}
use Rattle.std.specs.Ordering.{is_gt}
use Rattle.std.specs.Cmp.{IsTotalOrder}
use Rattle.std.specs.Cmp.Lexicographic.{slice_cmp}
use Rattle.std.proofs.lemmas.Cmp.{on_total, then_total, nat_cmp_total, nat_list_cmp_total}
use Rattle.std.proofs.lemmas.Map.Lookups.{exact_unsigned, exact_bytes}
use Rattle.plain_trees.specs.Plain.{Plain, bare, graft, tree_order}
use Rattle.plain_trees.proofs.OrderLaws.{tree_order_total, tree_exact, tree_order_self, both_equal}
use Rattle.plain_trees.specs.Canon.{Planted, planted_order, with_edge, canon, IsAtMostFirst, IsCanonical, IsSame, exchanged, on_both, unchanged, chained}
use Rattle.ordered_lists.proofs.Above.{asymmetric, above, neither}

pub planted_total : IsTotalOrder planted_order
planted_total = then_total (on_total (λ (e : Planted). e.kind) nat_cmp_total) (then_total (on_total (λ (e : Planted). e.p) nat_list_cmp_total) (on_total (λ (e : Planted). e.child) tree_order_total))

abbrev planted : ℕ → List ℕ → Plain → Planted
planted k p c = record { kind = k; p = p; child = c }

abbrev over : Planted → Plain → Plain
over e t = graft e.kind e.p e.child t

pub planted_exact : (e f : Planted) → planted_order e f ≡ Equal → e ≡ f
planted_exact e f h =
    let kinds = both_equal (nat_cmp e.kind f.kind) _ h in
    let rest = both_equal (slice_cmp nat_cmp e.p f.p) (tree_order e.child f.child) kinds.1 in
    let kind : e.kind ≡ f.kind = exact_unsigned e.kind f.kind kinds.0 in
    let label : e.p ≡ f.p = exact_bytes e.p f.p rest.0 in
    let child : e.child ≡ f.child = tree_exact e.child f.child rest.1 in
    let whole : planted e.kind e.p e.child ≡ planted f.kind f.p f.child = cc in
    whole

abbrev gt : Planted → Planted → Bool
gt e f = is_gt (planted_order e f)

-- an insertion before an edge, and past it
stops : (e f : Planted) (t : Plain) → gt e f ≡ false → with_edge e (over f t) ≡ over e (over f t)
stops e f t h = rw h refl

passes : (e f : Planted) (t : Plain) → gt e f ≡ true → with_edge e (over f t) ≡ over f (with_edge e t)
passes e f t h = rw h refl

-- two edges in front of what neither passes
front : (e f : Planted) (t : Plain) (a b : Bool) → gt e f ≡ a → gt f e ≡ b → with_edge e t ≡ over e t → with_edge f t ≡ over f t →
    with_edge e (over f t) ≡ with_edge f (over e t)
front e f t true b h k ht kt = passes e f t h ∙ ap (over f) ht ∙ sym (stops f e t (asymmetric planted_order planted_total e f h))
front e f t false true h k ht kt = stops e f t h ∙ sym (ap (over e) kt) ∙ sym (passes f e t k)
front e f t false false h k ht kt = ap (λ (x : Planted). with_edge x (over f t)) same ∙ ap (λ (x : Planted). with_edge f (over x t)) (sym same)
  where
    same : e ≡ f
    same = planted_exact e f (neither planted_order planted_total e f h k)

-- the first passes g, and the second does not
middle : (e f g : Planted) (t : Plain) → gt e g ≡ true → gt f g ≡ false → with_edge e (with_edge f (over g t)) ≡ with_edge f (with_edge e (over g t))
middle e f g t h k =
    ap (with_edge e) (stops f g t k) ∙ passes e f (over g t) (above planted_order planted_total e f g h k) ∙ ap (over f) (passes e g t h)
    ∙ sym (ap (with_edge f) (passes e g t h) ∙ stops f g (with_edge e t) k)

commute-at : (e f g : Planted) (t : Plain) (a b : Bool) → gt e g ≡ a → gt f g ≡ b → with_edge e (with_edge f t) ≡ with_edge f (with_edge e t) →
    with_edge e (with_edge f (over g t)) ≡ with_edge f (with_edge e (over g t))
commute-at e f g t true true h k ih = rw (passes f g t k, passes e g t h, passes e g (with_edge f t) h, passes f g (with_edge e t) k) (ap (over g) ih)
commute-at e f g t true false h k ih = middle e f g t h k
commute-at e f g t false true h k ih = sym (middle f e g t k h)
commute-at e f g t false false h k ih =
    ap (with_edge e) (stops f g t k) ∙ front e f (over g t) (gt e f) (gt f e) refl refl (stops e g t h) (stops f g t k) ∙ sym (ap (with_edge f) (stops e g t h))

commute : (e f : Planted) (t : Plain) → with_edge e (with_edge f t) ≡ with_edge f (with_edge e t)
commute e f (bare n) = front e f (bare n) (gt e f) (gt f e) refl refl refl refl
commute e f (graft k p c t) = commute-at e f (planted k p c) t (gt e (planted k p c)) (gt f (planted k p c)) refl refl (commute e f t)

-- canonical trees
at_most-at : (e f g : Planted) (t : Plain) (a : Bool) → gt e g ≡ a → gt e f ≡ true → gt f g ≡ false → IsAtMostFirst f (with_edge e (over g t))
at_most-at e f g t true h k l = rw (passes e g t h) l
at_most-at e f g t false h k l = rw (stops e g t h) (asymmetric planted_order planted_total e f k)

at_most-with : (e f : Planted) (t : Plain) → gt e f ≡ true → IsAtMostFirst f t → IsAtMostFirst f (with_edge e t)
at_most-with e f (bare n) h k = asymmetric planted_order planted_total e f h
at_most-with e f (graft k p c t) h l = at_most-at e f (planted k p c) t (gt e (planted k p c)) refl h l

with-canonical-at : (e f : Planted) (t : Plain) (a : Bool) → gt e f ≡ a → IsCanonical e.child →
    IsCanonical (over f t) → IsCanonical (with_edge e t) → IsCanonical (with_edge e (over f t))
with-canonical-at e f t true h c d ih = rw (passes e f t h) (d.0, ih, at_most-with e f t h d.2)
with-canonical-at e f t false h c d ih = rw (stops e f t h) (c, d, h)

with-canonical : (e : Planted) (t : Plain) → IsCanonical e.child → IsCanonical t → IsCanonical (with_edge e t)
with-canonical e (bare n) c d = (c, tt, tt)
with-canonical e (graft k p b t) c d = with-canonical-at e (planted k p b) t (gt e (planted k p b)) refl c d (with-canonical e t c d.1)

pub canon_canonical : (t : Plain) → IsCanonical (canon t)
canon_canonical (bare n) = tt
canon_canonical (graft k p c t) = with-canonical (planted k p (canon c)) (canon t) (canon_canonical c) (canon_canonical t)

with-first : (e : Planted) (t : Plain) → IsAtMostFirst e t → with_edge e t ≡ over e t
with-first e (bare n) h = refl
with-first e (graft k p c t) h = stops e (planted k p c) t h

pub canon_fixed : (t : Plain) → IsCanonical t → canon t ≡ t
canon_fixed (bare n) h = refl
canon_fixed (graft k p c t) h = rw (canon_fixed c h.0, canon_fixed t h.1) (with-first (planted k p c) t h.2)

-- the same tree
with-same-at : (e f : Planted) (t : Plain) (a : Bool) → gt e f ≡ a → IsSame (over e t) (with_edge e t) → IsSame (over e (over f t)) (with_edge e (over f t))
with-same-at e f t true h ih =
    rw (passes e f t h) (chained (exchanged e.kind e.p e.child f.kind f.p f.child t) (on_both f.kind f.p (unchanged f.child) ih))
with-same-at e f t false h ih = rw (stops e f t h) (unchanged (over e (over f t)))

with-same : (e : Planted) (t : Plain) → IsSame (over e t) (with_edge e t)
with-same e (bare n) = unchanged (over e (bare n))
with-same e (graft k p c t) = with-same-at e (planted k p c) t (gt e (planted k p c)) refl (with-same e t)

pub canon_same : (t : Plain) → IsSame t (canon t)
canon_same (bare n) = unchanged (bare n)
canon_same (graft k p c t) = chained (on_both k p (canon_same c) (canon_same t)) (with-same (planted k p (canon c)) (canon t))

reversed : {s t : Plain} → IsSame s t → IsSame t s
reversed (exchanged k p c l q d t) = exchanged l q d k p c t
reversed (on_both k p h j) = on_both k p (reversed h) (reversed j)
reversed (unchanged t) = unchanged t
reversed (chained h j) = chained (reversed j) (reversed h)

pub same_canon : {s t : Plain} → IsSame s t → canon s ≡ canon t
same_canon (exchanged k p c l q d t) = commute (planted k p (canon c)) (planted l q (canon d)) (canon t)
same_canon (on_both {c = c} {d = d} {s = s} {t = t} k p h j) = rw (same_canon h, same_canon j) refl
same_canon (unchanged t) = refl
same_canon (chained h j) = same_canon h ∙ same_canon j

pub canon_same_back : (s t : Plain) → canon s ≡ canon t → IsSame s t
canon_same_back s t h = chained (canon_same s) (rw h (reversed (canon_same t)))

-- canonical trees are the same where tree order says so
pub same_order : (s t : Plain) → IsCanonical s → IsCanonical t → IsSame s t → tree_order s t ≡ Equal
same_order s t h k same =
    let one : s ≡ t = sym (canon_fixed s h) ∙ same_canon same ∙ canon_fixed t k in
    rw one (tree_order_self t)

pub order_same : (s t : Plain) → tree_order s t ≡ Equal → IsSame s t
order_same s t h = subst (IsSame s) (tree_exact s t h) (unchanged s)
