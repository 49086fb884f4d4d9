-- Places in a sorted list of trees.
use Rattle.std.proofs.Common.{◌≡◌, ℕ, zero, suc, ◌+◌, ◌<◌, ◌≤◌, ◌⊎◌, List, [], ◌∷◌, ◌++◌, take, drop, length, get_or, refl, sym, ap, ◌∙◌, subst, arith, All, inl, inr}
use Rattle.std.specs.BTreeSet.{insert_key}
use Rattle.std.specs.List.{AllByRecursion}
use Rattle.std.specs.List.Sorted.{IsStrictlySortedBy}
use Rattle.std.specs.Ordering.{match_ordering, ordering_reverse, ordering_then}
use Rattle.std.specs.declared.cmp.Ordering.{Ordering}
use Rattle.std.specs.declared.cmp.Ordering.TheVariants.{Less, Equal, Greater}
use Rattle.std.proofs.lemmas.Cmp.{tied_itself}
use Rattle.degree_numbers.specs.declared.types.Types.{Types}
use Rattle.ordered_lists.specs.Members.{IsIn}
use Rattle.ordered_lists.proofs.Insertion.{all_at_member}
use Rattle.plain_trees.specs.Plain.{Plain, bare, tree_order}
use Rattle.plain_trees.specs.Degree.{degree_of}
use Rattle.degree_numbers.specs.Degree.{degree_order}
use Rattle.plain_trees.proofs.OrderLaws.{tree_exact}
use Rattle.conforming_trees.specs.Listed.{listing_order}
use Rattle.conforming_trees.proofs.Orders.{listing_order_total}
use Rattle.tree_pool.specs.Content.{Content, tree_at}
use Rattle.tree_pool.specs.declared.node.TreeId.{TreeId}
use Rattle.tree_listing.specs.Levels.{trees}
use Rattle.tree_listing.specs.Gathered.{IsThere}
use Rattle.tree_listing.proofs.RootLaws.{in_at, all_of_members}
use Rattle.ordered_lists.proofs.Members.{from_append, all_at}

abbrev pub AreBefore : Types → List Plain → Plain → ℕ → Type 0
AreBefore ty ts t i = (k : ℕ) → k < i → listing_order ty t (get_or ts k (bare [])) ≡ Greater

abbrev pub AreAfter : Types → List Plain → Plain → ℕ → Type 0
AreAfter ty ts t i = (k : ℕ) → i ≤ k → k < length ts → listing_order ty t (get_or ts k (bare [])) ≡ Less

pub tree_of_id : (c : Content) (is : List TreeId) (k : ℕ) (d : TreeId) → k < length is → get_or (trees c is) k (bare []) ≡ tree_at c (get_or is k d).0
tree_of_id c [] k d h = absurd (omega (arith, h))
tree_of_id c (i ∷ is) zero d h = refl
tree_of_id c (i ∷ is) (suc k) d h = tree_of_id c is k d (omega (arith, h))

-- where all before are less and the next is greater
pub insert_at : (ty : Types) (ts : List Plain) (t : Plain) (i : ℕ) → i ≤ length ts →
    AreBefore ty ts t i → AreAfter ty ts t i →
    insert_key (listing_order ty) ts t ≡ take i ts ++ t ∷ drop i ts
insert_at ty [] t zero h before after = refl
insert_at ty [] t (suc i) h before after = absurd (omega (arith, h))
insert_at ty (x ∷ ts) t zero h before after = ap (λ (o : Ordering). match_ordering o (t ∷ x ∷ ts) (x ∷ ts) (x ∷ insert_key (listing_order ty) ts t)) (after 0 (omega arith) (omega arith))
insert_at ty (x ∷ ts) t (suc i) h before after =
    ap (λ (o : Ordering). match_ordering o (t ∷ x ∷ ts) (x ∷ ts) (x ∷ insert_key (listing_order ty) ts t)) (before 0 (omega arith))
    ∙ ap (λ (us : List Plain). x ∷ us) (insert_at ty ts t i (omega (arith, h)) (λ k l. before (suc k) (omega (arith, l))) (λ k l m. after (suc k) (omega (arith, l)) (omega (arith, m))))

above : (ty : Types) (s t : Plain) → listing_order ty s t ≡ Less → listing_order ty t s ≡ Greater
above ty s t h = (listing_order_total ty).antisymm t s ∙ ap ordering_reverse h

-- a member is put nowhere
pub insert_there : (ty : Types) (ts : List Plain) (t : Plain) → IsStrictlySortedBy (listing_order ty) ts → IsIn t ts → insert_key (listing_order ty) ts t ≡ ts
unfolding IsStrictlySortedBy
insert_there ty [] t s h = absurd h
insert_there ty (x ∷ ts) t s (inl e) =
    ap (λ (o : Ordering). match_ordering o (t ∷ x ∷ ts) (x ∷ ts) (x ∷ insert_key (listing_order ty) ts t)) (ap (listing_order ty t) e ∙ tied_itself (listing_order_total ty) t)
insert_there ty (x ∷ ts) t s (inr h) =
    let less : listing_order ty x t ≡ Less = all_at_member (λ y. listing_order ty x y ≡ Less) ts t s.0 h in
    ap (λ (o : Ordering). match_ordering o (t ∷ x ∷ ts) (x ∷ ts) (x ∷ insert_key (listing_order ty) ts t)) (above ty x t less) ∙ ap (λ (us : List Plain). x ∷ us) (insert_there ty ts t s.1 h)

all_by_at : (P : Plain → Type 0) (ts : List Plain) (k : ℕ) (d : Plain) → AllByRecursion P ts → k < length ts → P (get_or ts k d)
all_by_at P ts k d h l = all_at_member P ts (get_or ts k d) h (in_at ts k d l)

-- in a strictly ascending list an earlier one is less
pub earlier : (ty : Types) (ts : List Plain) (i k : ℕ) → IsStrictlySortedBy (listing_order ty) ts →
    i < k → k < length ts → listing_order ty (get_or ts i (bare [])) (get_or ts k (bare [])) ≡ Less
unfolding IsStrictlySortedBy
earlier ty [] i k s h l = absurd (omega (arith, l))
earlier ty (x ∷ ts) i zero s h l = absurd (omega (arith, h))
earlier ty (x ∷ ts) zero (suc k) s h l = all_by_at (λ y. listing_order ty x y ≡ Less) ts k (bare []) s.0 (omega (arith, l))
earlier ty (x ∷ ts) (suc i) (suc k) s h l = earlier ty ts i k s.1 (omega (arith, h)) (omega (arith, l))

-- what is above one in the middle is above all before
pub all_before : (ty : Types) (ts : List Plain) (t : Plain) (m : ℕ) →
    IsStrictlySortedBy (listing_order ty) ts → m < length ts →
    listing_order ty t (get_or ts m (bare [])) ≡ Greater → AreBefore ty ts t (m + 1)
all_before ty ts t m s l h k b =
    elim (at_most k m (omega (arith, b))) [
      | inl less ↦ above ty (get_or ts k (bare [])) t ((listing_order_total ty).trans (get_or ts k (bare [])) (get_or ts m (bare [])) t (earlier ty ts k m s less l) ((listing_order_total ty).antisymm (get_or ts m (bare [])) t ∙ ap ordering_reverse h))
      | inr same ↦ subst (λ (j : ℕ). listing_order ty t (get_or ts j (bare [])) ≡ Greater) (sym same) h
    ]
  where
    at_most : (a b : ℕ) → a ≤ b → (a < b) ⊎ (a ≡ b)
    at_most zero zero g = inr refl
    at_most zero (suc b) g = inl (omega arith)
    at_most (suc a) zero g = absurd (omega (arith, g))
    at_most (suc a) (suc b) g = elim (at_most a b (omega (arith, g))) [ inl x ↦ inl (omega (arith, x)) | inr x ↦ inr (ap suc x) ]

pub all_after : (ty : Types) (ts : List Plain) (t : Plain) (m : ℕ) →
    IsStrictlySortedBy (listing_order ty) ts → m < length ts →
    listing_order ty t (get_or ts m (bare [])) ≡ Less → AreAfter ty ts t m
all_after ty ts t m s l h k a b =
    elim (at_least m k a) [
      | inl less ↦ (listing_order_total ty).trans t (get_or ts m (bare [])) (get_or ts k (bare [])) h (earlier ty ts m k s less b)
      | inr same ↦ subst (λ (j : ℕ). listing_order ty t (get_or ts j (bare [])) ≡ Less) same h
    ]
  where
    at_least : (a b : ℕ) → a ≤ b → (a < b) ⊎ (a ≡ b)
    at_least zero zero g = inr refl
    at_least zero (suc b) g = inl (omega arith)
    at_least (suc a) zero g = absurd (omega (arith, g))
    at_least (suc a) (suc b) g = elim (at_least a b (omega (arith, g))) [ inl x ↦ inl (omega (arith, x)) | inr x ↦ inr (ap suc x) ]

second : (a b : Ordering) → ordering_then a b ≡ Equal → b ≡ Equal
second Less b h = absurd cc
second Equal b h = h
second Greater b h = absurd cc

pub listing_exact : (ty : Types) (s t : Plain) → listing_order ty s t ≡ Equal → s ≡ t
listing_exact ty s t h = tree_exact s t (second (degree_order (degree_of ty s) (degree_of ty t)) (tree_order s t) h)

pub there_at : (ty : Types) (ts : List Plain) (t : Plain) (m : ℕ) →
    IsStrictlySortedBy (listing_order ty) ts → m < length ts →
    listing_order ty t (get_or ts m (bare [])) ≡ Equal → IsThere ty ts t
there_at ty ts t m s l h = insert_there ty ts t s (subst (λ (u : Plain). IsIn u ts) (sym (listing_exact ty t (get_or ts m (bare [])) h)) (in_at ts m (bare []) l))

-- past the end of a list of numbers
abbrev pub no_id : TreeId
no_id = record { 0 = 0 }

pub length-trees : (c : Content) (is : List TreeId) → length (trees c is) ≡ length is
length-trees c [] = refl
length-trees c (i ∷ is) = omega (arith, length-trees c is)

pub trees-insert : (c : Content) (is : List TreeId) (i : ℕ) (id : TreeId) →
    trees c (take i is ++ id ∷ drop i is) ≡ take i (trees c is) ++ tree_at c id.0 ∷ drop i (trees c is)
trees-insert c [] zero id = refl
trees-insert c [] (suc i) id = refl
trees-insert c (x ∷ is) zero id = refl
trees-insert c (x ∷ is) (suc i) id = ap (λ (ts : List Plain). tree_at c x.0 ∷ ts) (trees-insert c is i id)

take_in : (is : List TreeId) (i : ℕ) (x : TreeId) → IsIn x (take i is) → IsIn x is
take_in [] zero x h = absurd h
take_in [] (suc i) x h = absurd h
take_in (y ∷ is) zero x h = absurd h
take_in (y ∷ is) (suc i) x (inl e) = inl e
take_in (y ∷ is) (suc i) x (inr h) = inr (take_in is i x h)

drop_in : (is : List TreeId) (i : ℕ) (x : TreeId) → IsIn x (drop i is) → IsIn x is
drop_in [] zero x h = absurd h
drop_in [] (suc i) x h = absurd h
drop_in (y ∷ is) zero x h = h
drop_in (y ∷ is) (suc i) x h = inr (drop_in is i x h)

pub ids-insert : (c : Content) (is : List TreeId) (i : ℕ) (id : TreeId) →
    All (λ j. j.0 < length c.trees) is → id.0 < length c.trees →
    All (λ j. j.0 < length c.trees) (take i is ++ id ∷ drop i is)
ids-insert c is i id h k = all_of_members (λ (j : TreeId). j.0 < length c.trees) (take i is ++ id ∷ drop i is) (λ x m.
    elim (from_append x (take i is) (id ∷ drop i is) m) [
      | inl a ↦ all_at (λ (j : TreeId). j.0 < length c.trees) is x h (take_in is i x a)
      | inr b ↦ elim b [ inl e ↦ subst (λ (j : TreeId). j.0 < length c.trees) e k | inr d ↦ all_at (λ (j : TreeId). j.0 < length c.trees) is x h (drop_in is i x d) ]
    ])
