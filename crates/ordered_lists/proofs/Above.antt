-- "greater than" of a total order in which equal is equal.
use Rattle.std.proofs.Common.{◌≡◌, true, false, refl, ap, ◌∙◌, Ordering, Less, Equal, Greater}
use Rattle.std.specs.Ordering.{ordering_reverse, is_gt}
use Rattle.std.specs.Cmp.{IsTotalOrder}

greater : (a : Ordering) → is_gt a ≡ true → a ≡ Greater
greater Less h = absurd cc
greater Equal h = absurd cc
greater Greater h = refl

not_both : (a : Ordering) → is_gt a ≡ true → is_gt (ordering_reverse a) ≡ false
not_both Less h = absurd cc
not_both Equal h = absurd cc
not_both Greater h = refl

equal : (a : Ordering) → is_gt a ≡ false → is_gt (ordering_reverse a) ≡ false → a ≡ Equal
equal Less h k = absurd cc
equal Equal h k = refl
equal Greater h k = absurd cc

module _ {X : Type 0} (R : X → X → Ordering) (o : IsTotalOrder R) where
  pub asymmetric : (x y : X) → is_gt (R x y) ≡ true → is_gt (R y x) ≡ false
  asymmetric x y h = rw (o.antisymm y x) (not_both (R x y) h)

  less : (x y : X) → is_gt (R x y) ≡ true → R y x ≡ Less
  less x y h = o.antisymm y x ∙ ap ordering_reverse (greater (R x y) h)

  below : (x y z : X) (a : Ordering) → R y z ≡ a → is_gt a ≡ false → R z x ≡ Less → R y x ≡ Less
  below x y z Less e h k = o.trans y z x e k
  below x y z Equal e h k = o.congr y z x e ∙ k
  below x y z Greater e h k = absurd cc

  -- y ≤ z < x
  pub above : (x y z : X) → is_gt (R x z) ≡ true → is_gt (R y z) ≡ false → is_gt (R x y) ≡ true
  above x y z h k = rw (o.antisymm x y, below x y z (R y z) refl k (less x z h)) refl

  pub neither : (x y : X) → is_gt (R x y) ≡ false → is_gt (R y x) ≡ false → R x y ≡ Equal
  neither x y h k = equal (R x y) h (rw (o.antisymm y x) at k)
