-- The decorations that fit are those of the list.
use Rattle.std.proofs.Common.{◌≡◌, ℕ, zero, suc, ◌+◌, ◌*◌, ◌<◌, ◌≤◌, List, [], ◌∷◌, sum, set, length, get_or, drop, Bool, true, false, nat_le, refl, sym, ap, ◌∙◌, subst, arith, All, inl, inr, ◌⊎◌, unsigned_abs}
use Rattle.std.specs.List.{AllByRecursion}
use Rattle.std.proofs.lemmas.Int.{ints}
use Rattle.std.proofs.lemmas.Bool.Decides.{nat_tests}
use Rattle.std.proofs.lemmas.List.{append-nil}
use Rattle.std.proofs.lemmas.Nat.{mul-le}
use Rattle.degree_numbers.specs.declared.types.Types.{Types}
use Rattle.degree_numbers.specs.declared.multi.Multi.{Multi}
use Rattle.degree_numbers.specs.Degree.{degree_plus}
use Rattle.degree_numbers.specs.Multi.{scaled_size}
use Rattle.degree_numbers.specs.Types.{size_in_units}
use Rattle.ordered_lists.specs.Members.{IsIn}
use Rattle.ordered_lists.proofs.Members.{in_append_left, in_append_right, from_append, in_flat_map, from_flat_map}
use Rattle.plain_trees.specs.Degree.{node_degree_of, IsMultiIndex}
use Rattle.plain_trees.specs.Building.{zeros}
use Rattle.conforming_trees.specs.Budgets.{IsNotAbove}
use Rattle.conforming_trees.proofs.Degrees.{from_parts, not_above_trans, plus_not_above, not_above_self}
use Rattle.tree_listing.specs.declared.roots.Room.{Room}
use Rattle.tree_listing.specs.Made.{one_if, is_not_above}
use Rattle.tree_listing.specs.Roots.{IsRoom, fits, with_entry, entries_below, with_entries, no_decoration, roots_to}
use Rattle.tree_listing.proofs.RootLaws.{sum_cons, all_of_members, from_one_if, in_one_if, from_both, both, from_not_above, not_above_test}

at_last : (k v : ℕ) → v < suc k → (v < k) ⊎ (v ≡ k)
at_last zero zero h = inr refl
at_last zero (suc v) h = absurd (omega (arith, h))
at_last (suc k) zero h = inl (omega arith)
at_last (suc k) (suc v) h = elim (at_last k v (omega (arith, h))) [ inl l ↦ inl (omega (arith, l)) | inr e ↦ inr (ap suc e) ]

nat_most : (a b : ℕ) → nat_le a b ≡ true → b ≤ 64 → a ≤ 64
nat_most a b h k = grind (arith, nat_tests)

nat_less : (a b c : ℕ) → a ≤ b → nat_le b c ≡ true → nat_le a c ≡ true
nat_less a b c h k = grind (arith, nat_tests)

nat_entry : (v a b : ℕ) → v ≤ a → nat_le a b ≡ true → v < b + 1
nat_entry v a b h k = grind (arith, nat_tests)

node_not_above : (ty : Types) (m n : List ℕ) → size_in_units ty m ≤ size_in_units ty n → IsNotAbove (node_degree_of ty m) (node_degree_of ty n)
node_not_above ty m n h = from_parts (node_degree_of ty m) (node_degree_of ty n) record { standard = omega (arith, ints, h); tied = λ same. omega (arith, ints) }

pub from_entries : (ty : Types) (room : Room) (i : ℕ) (n m : Multi) (k : ℕ) →
    IsIn m (entries_below ty room i n k) →
    (v : ℕ) × (with_entry i v n ≡ m) × (fits ty room m ≡ true)
from_entries ty room i n m zero h = absurd h
from_entries ty room i n m (suc k) h =
    elim (from_append m (entries_below ty room i n k) (one_if (fits ty room (with_entry i k n)) (with_entry i k n)) h) [
      | inl old ↦ from_entries ty room i n m k old
      | inr new ↦ let one = from_one_if (fits ty room (with_entry i k n)) (with_entry i k n) m new in (k, one.1, ap (fits ty room) (sym one.1) ∙ one.0)
    ]

pub in_entries : (ty : Types) (room : Room) (i : ℕ) (n : Multi) (k v : ℕ) → v < k →
    fits ty room (with_entry i v n) ≡ true → IsIn (with_entry i v n) (entries_below ty room i n k)
in_entries ty room i n zero v h f = absurd (omega (arith, h))
in_entries ty room i n (suc k) v h f =
    let last = one_if (fits ty room (with_entry i k n)) (with_entry i k n) in
    elim (at_last k v h) [
      | inl below ↦ in_append_left (with_entry i v n) (entries_below ty room i n k) last (in_entries ty room i n k v below f)
      | inr same ↦ in_append_right (with_entry i v n) (entries_below ty room i n k) last (subst (λ (w : ℕ). IsIn (with_entry i v n) (one_if (fits ty room (with_entry i w n)) (with_entry i w n))) same (in_one_if (fits ty room (with_entry i v n)) (with_entry i v n) f))
    ]

pub roots_fit : (ty : Types) (room : Room) (i : ℕ) (m : Multi) → IsIn m (roots_to ty room i) → fits ty room m ≡ true
roots_fit ty room zero m h = let one = from_one_if (fits ty room no_decoration) no_decoration m h in ap (fits ty room) (sym one.1) ∙ one.0
roots_fit ty room (suc i) m h = let from = from_flat_map (with_entries ty room i) m (roots_to ty room i) h in (from_entries ty room i from.0 m (room.entries + 1) from.2).2

pub roots_small : (ty : Types) (room : Room) (i : ℕ) → IsRoom room → All (λ n. sum n.entries ≤ 64) (roots_to ty room i)
roots_small ty room i r = all_of_members (λ (n : Multi). sum n.entries ≤ 64) (roots_to ty room i) (λ m h. let most = r.entries in
    let within = from_both (nat_le (sum m.entries) room.entries) (is_not_above (degree_plus (node_degree_of ty m.entries) room.degree) room.most) (roots_fit ty room i m h) in nat_most (sum m.entries) room.entries within.0 most)

-- entries past a direction
set_rest : (xs : List ℕ) (i v : ℕ) → i < length xs → AllByRecursion (λ x. x ≡ 0) (drop i xs) → AllByRecursion (λ x. x ≡ 0) (drop (suc i) (set xs i v))
set_rest [] i v h a = absurd (omega (arith, h))
set_rest (x ∷ xs) zero v h a = a.1
set_rest (x ∷ xs) (suc i) v h a = set_rest xs i v (omega (arith, h)) a

unset_rest : (xs : List ℕ) (i : ℕ) → i < length xs → AllByRecursion (λ x. x ≡ 0) (drop (suc i) xs) → AllByRecursion (λ x. x ≡ 0) (drop i (set xs i 0))
unset_rest [] i h a = absurd (omega (arith, h))
unset_rest (x ∷ xs) zero h a = (refl, a)
unset_rest (x ∷ xs) (suc i) h a = unset_rest xs i (omega (arith, h)) a

length-set : (xs : List ℕ) (i v : ℕ) → length (set xs i v) ≡ length xs
length-set [] i v = refl
length-set (x ∷ xs) zero v = refl
length-set (x ∷ xs) (suc i) v = omega (arith, length-set xs i v)

set_back : (xs : List ℕ) (i : ℕ) → i < length xs → set (set xs i 0) i (get_or xs i 0) ≡ xs
set_back [] i h = absurd (omega (arith, h))
set_back (x ∷ xs) zero h = refl
set_back (x ∷ xs) (suc i) h = ap (λ (ys : List ℕ). x ∷ ys) (set_back xs i (omega (arith, h)))

entry_within : (xs : List ℕ) (i : ℕ) → i < length xs → get_or xs i 0 ≤ sum xs
entry_within [] i h = absurd (omega (arith, h))
entry_within (x ∷ xs) zero h = omega (arith, sum_cons x xs)
entry_within (x ∷ xs) (suc i) h = omega (arith, sum_cons x xs, entry_within xs i (omega (arith, h)))

sum_unset : (xs : List ℕ) (i : ℕ) → sum (set xs i 0) ≤ sum xs
sum_unset [] i = omega arith
sum_unset (x ∷ xs) zero = omega (arith, sum_cons 0 xs, sum_cons x xs)
sum_unset (x ∷ xs) (suc i) = omega (arith, sum_cons x (set xs i 0), sum_cons x xs, sum_unset xs i)

size_unset : (ss xs : List ℕ) (i : ℕ) → scaled_size ss (set xs i 0) ≤ scaled_size ss xs
size_unset [] xs i = omega arith
size_unset (s ∷ ss) [] i = omega arith
size_unset (s ∷ ss) (x ∷ xs) zero = let none : s * 0 ≡ 0 = omega arith in omega (arith, none)
size_unset (s ∷ ss) (x ∷ xs) (suc i) = omega (arith, size_unset ss xs i)

units_unset : (ty : Types) (xs : List ℕ) (i : ℕ) → size_in_units ty (set xs i 0) ≤ size_in_units ty xs
units_unset ty xs i = mul-le (unsigned_abs ty.units.den) (scaled_size ty.scaling (set xs i 0)) (unsigned_abs ty.units.den) (scaled_size ty.scaling xs) (omega arith) (size_unset ty.scaling xs i)

-- what fits still fits where it is less
fits_less : (ty : Types) (room : Room) (m n : Multi) → sum m.entries ≤ sum n.entries →
    size_in_units ty m.entries ≤ size_in_units ty n.entries → fits ty room n ≡ true →
    fits ty room m ≡ true
fits_less ty room m n sums sizes h =
    let parts = from_both (nat_le (sum n.entries) room.entries) (is_not_above (degree_plus (node_degree_of ty n.entries) room.degree) room.most) h in
    let less = node_not_above ty m.entries n.entries sizes in
    let top = from_not_above (degree_plus (node_degree_of ty n.entries) room.degree) room.most parts.1 in
    both (nat_le (sum m.entries) room.entries) (is_not_above (degree_plus (node_degree_of ty m.entries) room.degree) room.most)
    (nat_less (sum m.entries) (sum n.entries) room.entries sums parts.0)
    (not_above_test (degree_plus (node_degree_of ty m.entries) room.degree) room.most
    (not_above_trans (degree_plus (node_degree_of ty m.entries) room.degree) (degree_plus (node_degree_of ty n.entries) room.degree) room.most
    (plus_not_above (node_degree_of ty m.entries) (node_degree_of ty n.entries) room.degree room.degree less (not_above_self room.degree)) top))

-- without an entry
unset_fits : (ty : Types) (room : Room) (i : ℕ) (m : Multi) → fits ty room m ≡ true → fits ty room (with_entry i 0 m) ≡ true
unset_fits ty room i m h = fits_less ty room (with_entry i 0 m) m (sum_unset m.entries i) (units_unset ty m.entries i) h

-- with a less entry
sum_entry : (xs : List ℕ) (i v w : ℕ) → v ≤ w → sum (set xs i v) ≤ sum (set xs i w)
sum_entry [] i v w h = omega arith
sum_entry (x ∷ xs) zero v w h = omega (arith, h, sum_cons v xs, sum_cons w xs)
sum_entry (x ∷ xs) (suc i) v w h = omega (arith, sum_cons x (set xs i v), sum_cons x (set xs i w), sum_entry xs i v w h)

size_entry : (ss xs : List ℕ) (i v w : ℕ) → v ≤ w → scaled_size ss (set xs i v) ≤ scaled_size ss (set xs i w)
size_entry [] xs i v w h = omega arith
size_entry (s ∷ ss) [] i v w h = omega arith
size_entry (s ∷ ss) (x ∷ xs) zero v w h = let more : s * v ≤ s * w = mul-le s v s w (omega arith) h in omega (arith, more)
size_entry (s ∷ ss) (x ∷ xs) (suc i) v w h = omega (arith, size_entry ss xs i v w h)

entry_fits : (ty : Types) (room : Room) (i : ℕ) (n : Multi) (v w : ℕ) → v ≤ w → fits ty room (with_entry i w n) ≡ true → fits ty room (with_entry i v n) ≡ true
entry_fits ty room i n v w h f =
    let sizes = mul-le (unsigned_abs ty.units.den) (scaled_size ty.scaling (set n.entries i v)) (unsigned_abs ty.units.den) (scaled_size ty.scaling (set n.entries i w)) (omega arith) (size_entry ty.scaling n.entries i v w h) in
    fits_less ty room (with_entry i v n) (with_entry i w n) (sum_entry n.entries i v w h) sizes f

-- where an entry does not fit, no greater one does
entry_past : (ty : Types) (room : Room) (i : ℕ) (n : Multi) (v w : ℕ) (b : Bool) → v ≤ w →
    fits ty room (with_entry i v n) ≡ false → fits ty room (with_entry i w n) ≡ b → b ≡ false
entry_past ty room i n v w false h none is = refl
entry_past ty room i n v w true h none is = let some = entry_fits ty room i n v w h is in absurd cc

pub entries_past : (ty : Types) (room : Room) (i : ℕ) (n : Multi) (v k : ℕ) → v ≤ k →
    fits ty room (with_entry i v n) ≡ false →
    entries_below ty room i n k ≡ entries_below ty room i n v
entries_past ty room i n zero zero h none = refl
entries_past ty room i n (suc v) zero h none = absurd (omega (arith, h))
entries_past ty room i n v (suc k) h none =
    elim (at_last (suc k) v (omega (arith, h))) [
      | inl below ↦
          let past = entry_past ty room i n v k (fits ty room (with_entry i k n)) (omega (arith, below)) none refl in
          rw past (append-nil (entries_below ty room i n k) ∙ entries_past ty room i n v k (omega (arith, below)) none)
      | inr same ↦ ap (entries_below ty room i n) (sym same)
    ]

pub roots_multi : (ty : Types) (room : Room) (i : ℕ) (m : Multi) → i ≤ 5 → IsMultiIndex 5 zeros → IsIn m (roots_to ty room i) → IsMultiIndex i m.entries
roots_multi ty room zero m l z h =
    let one = from_one_if (fits ty room no_decoration) no_decoration m h in
    subst (λ (n : Multi). IsMultiIndex 0 n.entries) one.1 record { entries = refl; rest = (refl, (refl, (refl, (refl, (refl, tt))))) }
roots_multi ty room (suc i) m l z h =
    let from = from_flat_map (with_entries ty room i) m (roots_to ty room i) h in
    let n = from.0 in
    let put = from_entries ty room i n m (room.entries + 1) from.2 in
    let multi = roots_multi ty room i n (omega (arith, l)) z from.1 in
    let five = multi.entries in
    subst (λ (x : Multi). IsMultiIndex (suc i) x.entries) put.1
    record { entries = length-set n.entries i put.0 ∙ five; rest = set_rest n.entries i put.0 (omega (arith, l, five)) multi.rest }

abbrev multi_made : List ℕ → Multi
multi_made es = record { entries = es }

all_zeros : (xs : List ℕ) → length xs ≡ 5 → AllByRecursion (λ x. x ≡ 0) xs → zeros ≡ xs
all_zeros [] l h = absurd (omega (arith, l))
all_zeros (a ∷ []) l h = absurd (omega (arith, l))
all_zeros (a ∷ b ∷ []) l h = absurd (omega (arith, l))
all_zeros (a ∷ b ∷ c ∷ []) l h = absurd (omega (arith, l))
all_zeros (a ∷ b ∷ c ∷ d ∷ []) l h = absurd (omega (arith, l))
all_zeros (a ∷ b ∷ c ∷ d ∷ e ∷ []) l h = rw (h.0, h.1.0, h.1.1.0, h.1.1.1.0, h.1.1.1.1.0) refl
all_zeros (a ∷ b ∷ c ∷ d ∷ e ∷ f ∷ xs) l h = absurd (omega (arith, l))

pub in_roots : (ty : Types) (room : Room) (i : ℕ) (m : Multi) → i ≤ 5 → IsMultiIndex i m.entries → fits ty room m ≡ true → IsIn m (roots_to ty room i)
in_roots ty room zero m l h f =
    let same : no_decoration ≡ m = ap multi_made (all_zeros m.entries h.entries h.rest) in
    subst (λ (n : Multi). IsIn n (one_if (fits ty room no_decoration) no_decoration)) same (in_one_if (fits ty room no_decoration) no_decoration (ap (fits ty room) same ∙ f))
in_roots ty room (suc i) m l h f =
    let five = h.entries in
    let within : i < length m.entries = omega (arith, l, five) in
    let n = with_entry i 0 m in
    let multi : IsMultiIndex i n.entries = record { entries = length-set m.entries i 0 ∙ five; rest = unset_rest m.entries i within h.rest } in
    let lower = in_roots ty room i n (omega (arith, l)) multi (unset_fits ty room i m f) in
    let back : with_entry i (get_or m.entries i 0) n ≡ m = ap multi_made (set_back m.entries i within) in
    let parts = from_both (nat_le (sum m.entries) room.entries) (is_not_above (degree_plus (node_degree_of ty m.entries) room.degree) room.most) f in
    let put = in_entries ty room i n (room.entries + 1) (get_or m.entries i 0) (nat_entry (get_or m.entries i 0) (sum m.entries) room.entries (entry_within m.entries i within) parts.0) (ap (fits ty room) back ∙ f) in
    in_flat_map (with_entries ty room i) m n (roots_to ty room i) lower (subst (λ (x : Multi). IsIn x (entries_below ty room i n (room.entries + 1))) back put)
