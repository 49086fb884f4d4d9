-- The extensions of a node type, as they are found.
use Rattle.std.proofs.Common.{◌≡◌, ℕ, zero, suc, ◌+◌, ◌<◌, List, [], ◌∷◌, ◌++◌, ◌⊎◌, map, length, refl, sym, ap, ◌∙◌, subst, inl, inr, arith, Some, Less, get_or}
use Rattle.std.specs.Prelude.{slice_get}
use Rattle.std.specs.List.{AllByRecursion}
use Rattle.std.specs.List.Sorted.{IsStrictlySortedBy}
use Rattle.std.specs.Ordering.{nat_cmp}
use Rattle.std.specs.Cmp.{nat_cmp_is}
use Rattle.std.proofs.lemmas.Option.{slice_get-get_or}
use Rattle.ordered_lists.specs.Members.{IsIn}
use Rattle.ordered_lists.proofs.Members.{in_append_left, in_append_right, from_append}
use Rattle.normal_rule.specs.declared.EdgeType.{EdgeType}
use Rattle.normal_rule.specs.declared.NodeType.{NodeType}
use Rattle.tree_budgets.specs.declared.plan.Extension.{Extension}
use Rattle.tree_budgets.specs.Fronts.{IsExtension, AreExtensions}

abbrev places : List Extension → List ℕ
places xs = map (λ x. x.node) xs

all_below : (xs : List Extension) (i : ℕ) (y : Extension) → y.node ≡ i → (k : ℕ) → k < i →
    AllByRecursion (λ l. nat_cmp k l ≡ Less) (places xs) →
    AllByRecursion (λ l. nat_cmp k l ≡ Less) (places (xs ++ y ∷ []))
all_below [] i y is k lt h = (sym (nat_cmp_is k y.node Less (omega (arith, lt, is))), tt)
all_below (x ∷ xs) i y is k lt h = (h.0, all_below xs i y is k lt h.1)

sorted_more : (xs : List Extension) (i : ℕ) (y : Extension) → y.node ≡ i →
    ((x : Extension) → IsIn x xs → x.node < i) → IsStrictlySortedBy nat_cmp (places xs) →
    IsStrictlySortedBy nat_cmp (places (xs ++ y ∷ []))
unfolding IsStrictlySortedBy
sorted_more [] i y is below h = (tt, tt)
sorted_more (x ∷ xs) i y is below h = (all_below xs i y is x.node (below x (inl refl)) h.0, sorted_more xs i y is (λ z m. below z (inr m)) h.1)

below_or : (j i : ℕ) → j < i + 1 → (j < i) ⊎ (j ≡ i)
below_or zero zero lt = inr refl
below_or zero (suc i) lt = inl (omega arith)
below_or (suc j) zero lt = absurd (omega (arith, lt))
below_or (suc j) (suc i) lt = elim (below_or j i (omega (arith, lt))) [ inl l ↦ inl (omega (arith, l)) | inr e ↦ inr (ap suc e) ]

some_same : {A : Type 0} (x y : A) → Some x ≡ Some y → x ≡ y
some_same x y h = cc

front_same : (e f : EdgeType) (es : List EdgeType) → e ∷ es ≡ f ∷ es → e ≡ f
front_same e f es h = ap (λ (xs : List EdgeType). first xs) h
  where
    first : List EdgeType → EdgeType
    first [] = e
    first (x ∷ xs) = x

module _ (nodes : List NodeType) (es : List EdgeType) where
  pub none_yet : AreExtensions nodes es 0 []
  unfolding IsStrictlySortedBy
  none_yet = record { ascending = tt; below = λ x h. absurd h; extension = λ x h. absurd h; whole = λ j m e lt. absurd (omega (arith, lt)) }

  -- the node type at the next place is an extension
  pub one_more : (i : ℕ) (m : NodeType) (e : EdgeType) (xs : List Extension) → slice_get nodes i ≡ Some m → IsExtension m es e → AreExtensions nodes es i xs → AreExtensions nodes es (i + 1) (xs ++ record { edge = e; node = i } ∷ [])
  one_more i m e xs at is h = record {
    ascending = sorted_more xs i y refl h.below h.ascending;
    below = λ x k. elim (from_append x xs (y ∷ []) k) [ inl old ↦ omega (arith, h.below x old) | inr new ↦ elim new [ inl same ↦ let n : i ≡ x.node = ap (λ (z : Extension). z.node) same in omega (arith, n) | inr none ↦ absurd none ] ];
    extension = λ x k. elim (from_append x xs (y ∷ []) k) [
      | inl old ↦ h.extension x old
      | inr new ↦ elim new [ inl same ↦ subst (λ (z : Extension). (n : NodeType) × (slice_get nodes z.node ≡ Some n) × IsExtension n es z.edge) same (m, at, is) | inr none ↦ absurd none ]
    ];
    whole = λ j n f lt there ext. elim (below_or j i lt) [
      | inl before ↦ in_append_left record { edge = f; node = j } xs (y ∷ []) (h.whole j n f before there ext)
      | inr here ↦
          let node : m ≡ n = some_same m n (sym at ∙ ap (slice_get nodes) (sym here) ∙ there) in
          let edge : e ≡ f = front_same e f es (sym is.edges ∙ ap (λ (k : NodeType). k.edges) node ∙ ext.edges) in
          in_append_right record { edge = f; node = j } xs (y ∷ []) (inl (ap (λ (g : EdgeType). made g i) edge ∙ ap (made f) (sym here)))
    ];
  }
    where
      y : Extension
      y = record { edge = e; node = i }

      made : EdgeType → ℕ → Extension
      made g k = record { edge = g; node = k }

  -- the node type at the next place is none
  pub no_more : (i : ℕ) (m : NodeType) (xs : List Extension) → slice_get nodes i ≡ Some m →
      ((e : EdgeType) → IsExtension m es e → ⊥) → AreExtensions nodes es i xs →
      AreExtensions nodes es (i + 1) xs
  no_more i m xs at none h = record {
    ascending = h.ascending;
    below = λ x k. omega (arith, h.below x k);
    extension = h.extension;
    whole = λ j n f lt there ext. elim (below_or j i lt) [
      | inl before ↦ h.whole j n f before there ext
      | inr here ↦ absurd (none f (subst (λ (k : NodeType). IsExtension k es f) (some_same n m (sym there ∙ ap (slice_get nodes) here ∙ at)) ext))
    ];
  }

-- what is read at a place
pub read_at : (nodes items : List NodeType) (i : ℕ) (m none : NodeType) → i < length nodes →
    items ≡ nodes → m ≡ get_or items i none → slice_get nodes i ≡ Some m
read_at nodes items i m none lt same is = slice_get-get_or nodes i none lt ∙ ap Some (sym (is ∙ ap (λ (xs : List NodeType). get_or xs i none) same))
