-- Steps of the recursion: trees of a forest, and terms of a coproduct.
use Rattle.std.proofs.Common.{◌≡◌, ℕ, zero, suc, ◌+◌, ◌<◌, ◌≤◌, ℤ, pos, unsigned_abs, inl, inr, List, [], ◌∷◌, map, drop, get_or, length, refl, sym, ap, ◌∙◌, subst, arith, Result, Ok, Err, IfOk, Option, Some, None, MatchOption}
use Rattle.std.proofs.lemmas.Grind.{common_steps}
use Rattle.std.proofs.lemmas.Int.{ints}
use Rattle.plain_trees.specs.Plain.{Plain}
use Rattle.plain_trees.specs.Coproducts.{Extracted}
use Rattle.tree_pool.specs.Content.{Content, IsGrown, tree_at, trees_of}
use Rattle.tree_pool.specs.Forests.{numbers}
use Rattle.tree_pool.specs.declared.TreeId.{TreeId}
use Rattle.tree_pool.proofs.Growth.{grown_at, grown_length}
use Rattle.cutting_sizes.specs.Bounds.{IsBounded, IsSmaller}
use Rattle.cutting_sizes.specs.Sizes.{node_sum}
use Rattle.pooled_cuttings.specs.Groves.{GroveContent}
use Rattle.extraction_coproduct.specs.declared.term.ExtractTerm.{ExtractTerm}
use Rattle.extraction_coproduct.specs.Terms.{terms_in, whole_terms, key_of}
use Rattle.pooled_cuttings.specs.Lines.{extracted_in}
use Rattle.antipode_laws.specs.Weighed.{Weighed}
use Rattle.twisted_antipode.specs.declared.value.Value.{Value}
use Rattle.twisted_antipode.specs.Values.{IsValueOf, product_of, forest_weighed}
use Rattle.twisted_antipode.specs.Known.{IsPartIn, AreParts, pairs_in, rank}
use Rattle.twisted_antipode.proofs.PartLaws.{forest_step}

abbrev pub no_tree : TreeId
no_tree = record { 0 = 0 }

falls : (s t : Plain) → IsBounded s → IsSmaller s t → rank s < rank t
falls s t b (inl l) = let few : node_sum s ≤ 1120 = b.decorations in omega (arith, l, few)
falls s t b (inr l) = let e = l.0 in let m = l.1 in omega (arith, e, m)

pub record IsAskedAt (d : Content) (t : Plain) (i : ℕ) : Type 0 where
  pub known : i < length d.trees
  pub bounded : IsBounded (tree_at d i)
  pub falls : rank (tree_at d i) < rank t

pub part_at : (c : Content) (t : Plain) (ids : List TreeId) (j : ℕ) → AreParts c t (numbers ids) → j < length ids → IsPartIn c t (get_or ids j no_tree).0
part_at c t [] j h l = absurd (omega (arith, l))
part_at c t (i ∷ ids) zero h l = h.0
part_at c t (i ∷ ids) (suc j) h l = part_at c t ids j h.1 (omega (arith, l))

pub part_asked : (c d : Content) (t : Plain) (ids : List TreeId) (j : ℕ) → IsGrown c d → AreParts c t (numbers ids) → j < length ids → IsAskedAt d t (get_or ids j no_tree).0
part_asked c d t ids j g h l =
    let p = part_at c t ids j h l in
    let i = (get_or ids j no_tree).0 in
    let more = grown_length c d g in
    let same = grown_at c d i g p.known in
    let k = p.known in
    record {
      known = omega (arith, more, k);
      bounded = subst IsBounded (sym same) p.bounded;
      falls = subst (λ (s : Plain). rank s < rank t) (sym same) (falls (tree_at c i) t p.bounded p.smaller);
    }

left : (ids : List TreeId) (j : ℕ) → j < length ids → drop j ids ≡ get_or ids j no_tree ∷ drop (j + 1) ids
left ids j l = grind (arith, common_steps)

pub forest_more : (c d : Content) (t : Plain) (ids : List TreeId) (i j : ℕ) (a : Plain → Weighed) (value all new : Value) → IsGrown c d → AreParts c t (numbers ids) → j + 1 ≡ i → j < length ids →
    IsValueOf (a (tree_at d (get_or ids j no_tree).0)) value → IsValueOf (forest_weighed a (trees_of c (drop i ids))) all →
    ((w u : Weighed) → IsValueOf w value → IsValueOf u all → IsValueOf (product_of w u) new) → IsValueOf (forest_weighed a (trees_of c (drop j ids))) new
forest_more c d t ids i j a value all new g h e l hv ha step =
    let p = part_at c t ids j h l in
    let k = (get_or ids j no_tree).0 in
    let here = subst (λ (s : Plain). IsValueOf (a s) value) (grown_at c d k g p.known) hv in
    let list : drop j ids ≡ get_or ids j no_tree ∷ drop i ids = left ids j l ∙ ap (λ (n : ℕ). get_or ids j no_tree ∷ drop n ids) e in
    subst (λ (xs : List TreeId). IsValueOf (forest_weighed a (trees_of c xs)) new) (sym list)
    (forest_step a (tree_at c k) (trees_of c (drop i ids)) new (step (a (tree_at c k)) (forest_weighed a (trees_of c (drop i ids))) here ha))

-- terms of a coproduct
abbrev whole : Extracted × ℕ → Extracted × ℤ
whole x = (x.0, pos x.1)

abbrev counted : Extracted × ℤ → Extracted × ℕ
counted y = (y.0, unsigned_abs y.1)

back : (xs : List (Extracted × ℕ)) → map counted (whole_terms xs) ≡ xs
back [] = refl
back (x ∷ xs) =
    let same : unsigned_abs (pos x.1) ≡ x.1 = omega (arith, ints) in
    let one : Extracted → ℕ → Extracted × ℕ = λ k n. (k, n) in
    ap (λ (n : ℕ). one x.0 n ∷ map counted (whole_terms xs)) same ∙ ap (λ (ys : List (Extracted × ℕ)). x ∷ ys) (back xs)

counted_in : (g : GroveContent) (ts : List ExtractTerm) → pairs_in g ts ≡ map counted (terms_in g ts)
counted_in g [] = refl
counted_in g (e ∷ ts) = ap (λ (ys : List (Extracted × ℕ)). (extracted_in g (key_of e), unsigned_abs e.coefficient) ∷ ys) (counted_in g ts)

pub pairs_of_terms : (g : GroveContent) (ts : List ExtractTerm) (xs : List (Extracted × ℕ)) → terms_in g ts ≡ whole_terms xs → pairs_in g ts ≡ xs
pairs_of_terms g ts xs h = counted_in g ts ∙ ap (map counted) h ∙ back xs

pub if_ok : {T E : Type 0} (r : Result T E) (P R : T → Type 0) → ((v : T) → P v → R v) → IfOk r P → IfOk r R
if_ok (Ok v) P R f h = f v h
if_ok (Err e) P R f h = tt

pub some_value : {V : Type 0} (A : Type 0) (P : V → Type 0) (o : Option V) (v : V) → o ≡ Some v → MatchOption o A P → P v
some_value A P None v e h = absurd cc
some_value A P (Some u) v e h = (let same : u ≡ v = cc in subst P same h)

pub no_value : {V : Type 0} (A : Type 0) (P : V → Type 0) (o : Option V) → ((v : V) → o ≡ Some v → ⊥) → MatchOption o A P → A
no_value A P None none h = h
no_value A P (Some u) none h = absurd (none u refl)
