-- Products of signed numbers: they are distributive and associative.
use Rattle.std.proofs.Common.{◌≡◌, ℕ, zero, suc, ℤ, pos, negsuc, ◌+ℤ◌, ◌-ℤ◌, ◌*ℤ◌, refl, sym, ap, ◌∙◌, arith}
use Rattle.std.proofs.lemmas.Int.{ints}
use Rattle.std.proofs.Math.IntN.{zero-*ℤ, suc_ℤ-*ℤ, pred_ℤ-*ℤ, *ℤ_comm}

more : (p q r p' q' r' a b : ℤ) → p' ≡ p +ℤ (a +ℤ b) → q' ≡ q +ℤ a → r' ≡ r +ℤ b → p ≡ q +ℤ r → p' ≡ q' +ℤ r'
more p q r p' q' r' a b h i j k = omega (arith, ints)

less : (p q r p' q' r' a b : ℤ) → p' ≡ p -ℤ (a +ℤ b) → q' ≡ q -ℤ a → r' ≡ r -ℤ b → p ≡ q +ℤ r → p' ≡ q' +ℤ r'
less p q r p' q' r' a b h i j k = omega (arith, ints)

natural_times_sum : (n : ℕ) (a b : ℤ) → pos n *ℤ (a +ℤ b) ≡ pos n *ℤ a +ℤ pos n *ℤ b
natural_times_sum zero a b = rw (zero-*ℤ (a +ℤ b), zero-*ℤ a, zero-*ℤ b) refl
natural_times_sum (suc n) a b =
    more (pos n *ℤ (a +ℤ b)) (pos n *ℤ a) (pos n *ℤ b) _ _ _ a b (suc_ℤ-*ℤ (pos n) (a +ℤ b)) (suc_ℤ-*ℤ (pos n) a) (suc_ℤ-*ℤ (pos n) b) (natural_times_sum n a b)

negative_times_sum : (n : ℕ) (a b : ℤ) → negsuc n *ℤ (a +ℤ b) ≡ negsuc n *ℤ a +ℤ negsuc n *ℤ b
negative_times_sum zero a b =
    less (pos 0 *ℤ (a +ℤ b)) (pos 0 *ℤ a) (pos 0 *ℤ b) _ _ _ a b (pred_ℤ-*ℤ (pos 0) (a +ℤ b)) (pred_ℤ-*ℤ (pos 0) a) (pred_ℤ-*ℤ (pos 0) b) (natural_times_sum 0 a b)
negative_times_sum (suc n) a b =
    less (negsuc n *ℤ (a +ℤ b)) (negsuc n *ℤ a) (negsuc n *ℤ b) _ _ _ a b (pred_ℤ-*ℤ (negsuc n) (a +ℤ b)) (pred_ℤ-*ℤ (negsuc n) a) (pred_ℤ-*ℤ (negsuc n) b) (negative_times_sum n a b)

pub times_sum : (z a b : ℤ) → z *ℤ (a +ℤ b) ≡ z *ℤ a +ℤ z *ℤ b
times_sum (pos n) a b = natural_times_sum n a b
times_sum (negsuc n) a b = negative_times_sum n a b

pub sum_times : (a b z : ℤ) → (a +ℤ b) *ℤ z ≡ a *ℤ z +ℤ b *ℤ z
sum_times a b z = *ℤ_comm (a +ℤ b) z ∙ times_sum z a b ∙ ap (λ (x : ℤ). x +ℤ z *ℤ b) (*ℤ_comm z a) ∙ ap (λ (x : ℤ). a *ℤ z +ℤ x) (*ℤ_comm z b)

back : (a b : ℤ) → a -ℤ b +ℤ b ≡ a
back a b = omega (arith, ints)

taken : (x y z : ℤ) → x +ℤ y ≡ z → x ≡ z -ℤ y
taken x y z h = omega (arith, ints, h)

difference_times : (a b z : ℤ) → (a -ℤ b) *ℤ z ≡ a *ℤ z -ℤ b *ℤ z
difference_times a b z = taken ((a -ℤ b) *ℤ z) (b *ℤ z) (a *ℤ z) (sym (sum_times (a -ℤ b) b z) ∙ ap (λ (x : ℤ). x *ℤ z) (back a b))

none_times : (b c : ℤ) → (pos 0 *ℤ b) *ℤ c ≡ pos 0 *ℤ (b *ℤ c)
none_times b c = ap (λ (x : ℤ). x *ℤ c) (zero-*ℤ b) ∙ zero-*ℤ c ∙ sym (zero-*ℤ (b *ℤ c))

natural_times_times : (n : ℕ) (b c : ℤ) → (pos n *ℤ b) *ℤ c ≡ pos n *ℤ (b *ℤ c)
natural_times_times zero b c = none_times b c
natural_times_times (suc n) b c =
    ap (λ (x : ℤ). x *ℤ c) (suc_ℤ-*ℤ (pos n) b)
    ∙ sum_times (pos n *ℤ b) b c
    ∙ ap (λ (x : ℤ). x +ℤ b *ℤ c) (natural_times_times n b c)
    ∙ sym (suc_ℤ-*ℤ (pos n) (b *ℤ c))

negative_times_times : (n : ℕ) (b c : ℤ) → (negsuc n *ℤ b) *ℤ c ≡ negsuc n *ℤ (b *ℤ c)
negative_times_times zero b c =
    ap (λ (x : ℤ). x *ℤ c) (pred_ℤ-*ℤ (pos 0) b)
    ∙ difference_times (pos 0 *ℤ b) b c
    ∙ ap (λ (x : ℤ). x -ℤ b *ℤ c) (none_times b c)
    ∙ sym (pred_ℤ-*ℤ (pos 0) (b *ℤ c))
negative_times_times (suc n) b c =
    ap (λ (x : ℤ). x *ℤ c) (pred_ℤ-*ℤ (negsuc n) b)
    ∙ difference_times (negsuc n *ℤ b) b c
    ∙ ap (λ (x : ℤ). x -ℤ b *ℤ c) (negative_times_times n b c)
    ∙ sym (pred_ℤ-*ℤ (negsuc n) (b *ℤ c))

pub times_times : (a b c : ℤ) → (a *ℤ b) *ℤ c ≡ a *ℤ (b *ℤ c)
times_times (pos n) b c = natural_times_times n b c
times_times (negsuc n) b c = negative_times_times n b c
