-- The forest of a run: it is the whole tree, or its trees are smaller.
use Rattle.std.proofs.Common.{◌≡◌, ℕ, ◌<◌, ◌≤◌, unsigned_abs, inl, inr, Some, List, [], ◌∷◌, get_or, length, refl, sym, ap, ◌∙◌, subst, arith}
use Rattle.std.specs.List.{AllByRecursion}
use Rattle.ordered_lists.specs.Members.{IsIn}
use Rattle.ordered_lists.proofs.Members.{in_map}
use Rattle.exact_sums.specs.Saturating.{overflow}
use Rattle.exact_sums.specs.Keyed.{keys}
use Rattle.plain_trees.specs.Plain.{Plain}
use Rattle.plain_trees.specs.Degree.{HasTypes}
use Rattle.plain_trees.specs.Coproducts.{Extracted, extraction_terms}
use Rattle.plain_trees.proofs.CanonLaws.{canon_fixed}
use Rattle.tree_pool.specs.Content.{Content, IsKept, IsPooled, tree_at, trees_at, trees_of}
use Rattle.tree_pool.specs.Forests.{numbers, forest_at, AreKnown}
use Rattle.tree_pool.specs.declared.TreeId.{TreeId}
use Rattle.tree_pool.specs.declared.ForestId.{ForestId}
use Rattle.tree_pool.proofs.Ids.{known_forest}
use Rattle.cutting_sizes.specs.Bounds.{IsBounded, IsSmaller}
use Rattle.cutting_sizes.proofs.Bounded.{terms_bounded}
use Rattle.cutting_sizes.proofs.Falls.{term_falls}
use Rattle.symbol_polys.specs.Polynomials.{HaveSameCoefficients}
use Rattle.pooled_cuttings.specs.Groves.{GroveContent, IsGrove, forest_in}
use Rattle.pooled_cuttings.specs.Lines.{extracted_in, IsExtractKey}
use Rattle.extraction_coproduct.specs.declared.term.ExtractTerm.{ExtractTerm}
use Rattle.extraction_coproduct.specs.Finished.{TablesContent, IsTables, coproduct_of, grove_of}
use Rattle.extraction_coproduct.specs.Terms.{key_of}
use Rattle.antipode_laws.specs.Weighed.{Weighed}
use Rattle.antipode_laws.specs.Runs.{with_forest}
use Rattle.antipode_laws.proofs.OtherTerms.{whole, all_both, member_of}
use Rattle.twisted_antipode.specs.declared.quotient.Reading.{Reading}
use Rattle.twisted_antipode.specs.declared.value.Value.{Value}
use Rattle.twisted_antipode.specs.RunTerms.{IsCoefficient, IsRunTerm, quotients_in, run_value}
use Rattle.twisted_antipode.specs.Values.{IsValueOf, sum_of, product_of, negative_of, forest_weighed}
use Rattle.twisted_antipode.specs.Known.{AreParts, IsRun, IsRunOf, pairs_in, other_pairs, part_value}
use Rattle.twisted_antipode.specs.Counts.{HasAll, HasAllComponents, AreFinishedOver}
use Rattle.twisted_antipode.specs.Held.{Held}
use Rattle.twisted_antipode.proofs.Pooled.{holds_at, kept_at}
use Rattle.twisted_antipode.proofs.RunSums.{no_term}
use Rattle.twisted_antipode.proofs.PartLaws.{is_whole, others_none, others_all, run_pairs, run_added, run_passed, nothing_passed}
use Rattle.twisted_antipode.proofs.RunLaws.{run_first}

-- the terms of a run, one by one
abbrev pair_in : GroveContent → ExtractTerm → Extracted × ℕ
pair_in g e = (extracted_in g (key_of e), unsigned_abs e.coefficient)

run_all : (g : GroveContent) (xs : List (Extracted × ℕ)) (f : ForestId) (P : Extracted × ℕ → Type 0) (es : List ExtractTerm) →
    ((x : Extracted × ℕ) → IsIn x xs → x.0.0 ≡ forest_in g f.0 → P x) → AllByRecursion (λ e. e.forest ≡ f) es → AllByRecursion (λ x. IsIn x xs) (pairs_in g es) →
    AllByRecursion P (pairs_in g es)
run_all g xs f P [] h same listed = tt
run_all g xs f P (e ∷ es) h same listed = (h (pair_in g e) listed.0 (ap (λ (i : ForestId). forest_in g i.0) same.0), run_all g xs f P es h same.1 listed.1)

first_of : (g : GroveContent) (xs : List (Extracted × ℕ)) (es : List ExtractTerm) → IsRunOf g xs es → (x : Extracted × ℕ) × IsIn x xs × (x.0.0 ≡ forest_in g (get_or es 0 no_term).forest.0)
first_of g xs [] r = let some = r.some in absurd (omega (arith, some))
first_of g xs (e ∷ es) r = (pair_in g e, (r.forest no_term).listed.0, refl)

-- the numbers of a forest
same_trees : (c : Content) (ids : List TreeId) → trees_at c (numbers ids) ≡ trees_of c ids
same_trees c [] = refl
same_trees c (i ∷ ids) = ap (λ (ts : List Plain). tree_at c i.0 ∷ ts) (same_trees c ids)

same_id : (c : Content) (i j : ℕ) → IsPooled c → i < length c.trees → j < length c.trees → tree_at c i ≡ tree_at c j → i ≡ j
same_id c i j pooled li lj e = pooled.distinct i j (tree_at c j) (holds_at c i li ∙ ap (λ (t : Plain). Some t) e) (holds_at c j lj)

alone : (c : Content) (is : List ℕ) (i : ℕ) → IsPooled c → i < length c.trees → AreKnown c is → trees_at c is ≡ tree_at c i ∷ [] → is ≡ i ∷ []
alone c [] i pooled l k e = absurd cc
alone c (j ∷ []) i pooled l k e = let same : tree_at c j ≡ tree_at c i = cc in ap (λ (m : ℕ). m ∷ []) (same_id c j i pooled k.0 l same)
alone c (j ∷ m ∷ is) i pooled l k e = absurd cc

parts_in : (c : Content) (t : Plain) (is : List ℕ) → AreKnown c is → AllByRecursion IsBounded (trees_at c is) → AllByRecursion (λ f. IsSmaller f t) (trees_at c is) → AreParts c t is
parts_in c t [] k b s = tt
parts_in c t (i ∷ is) k b s = (record { known = k.0; bounded = b.0; smaller = s.0 }, parts_in c t is k.1 b.1 s.1)

-- a run of the coproduct of a tree, with the trees of its forest
pub record IsRunOver (g : GroveContent) (i : ℕ) (ids : List TreeId) (es : List ExtractTerm) : Type 0 where
  pub grove : IsGrove g
  pub known : i < length g.pool.trees
  pub run : IsRunOf g (coproduct_of g.pool i) es
  pub trees : numbers ids ≡ forest_at g.forests (get_or es 0 no_term).forest.0

pub run_over : (b : TablesContent) (fs : List (List ℕ)) (i : ℕ) (ids : List TreeId) (es : List ExtractTerm) → IsTables b → i < length b.pool.trees → IsRunOf (grove_of b) (coproduct_of b.pool i) es →
    fs ≡ b.forests → numbers ids ≡ forest_at fs (get_or es 0 no_term).forest.0 → IsRunOver (grove_of b) i ids es
run_over b fs i ids es is l run same trees = record {
  grove = is.grove;
  known = l;
  run = run;
  trees = trees ∙ ap (λ (gs : List (List ℕ)). forest_at gs (get_or es 0 no_term).forest.0) same;
}

abbrev pub IsAlone : ℕ → List TreeId → Type 0
IsAlone i ids = numbers ids ≡ i ∷ []

module _ (g : GroveContent) (i : ℕ) (ids : List TreeId) (es : List ExtractTerm) (over : IsRunOver g i ids es) where
  abbrev t : Plain
  t = tree_at g.pool i

  abbrev f : ForestId
  f = (get_or es 0 no_term).forest

  abbrev xs : List (Extracted × ℕ)
  xs = coproduct_of g.pool i

  abbrev Pair : Type 0
  Pair = Extracted × ℕ

  run : IsRun g xs f es
  run = over.run.forest no_term

  kept : IsKept g.pool.types t
  kept = kept_at g.pool i over.grove.pooled over.known

  typed : HasTypes g.pool.types t
  typed = kept.known

  forest : forest_in g f.0 ≡ trees_at g.pool (numbers ids)
  forest = ap (trees_at g.pool) (sym over.trees)

  pub run_terms : AllByRecursion (IsRunTerm g.pool) es
  run_terms = all_both (λ e. IsExtractKey g (key_of e)) (λ e. IsCoefficient e.coefficient) (IsRunTerm g.pool) es (λ e k n. record { quotient = k.quotient; coefficient = n }) run.known run.numbers

  -- the whole tree
  whole_run : IsAlone i ids → other_pairs t (pairs_in g es) ≡ []
  whole_run e =
      others_none t (pairs_in g es)
      (run_all g xs f (λ x. x.0 ≡ whole t) es (λ x j h. is_whole g.pool.types t x typed j (h ∙ forest ∙ ap (trees_at g.pool) e)) run.forest run.listed)

  -- smaller trees
  known_ids : AreKnown g.pool (numbers ids)
  known_ids = subst (AreKnown g.pool) (sym over.trees) (known_forest g.forests g.pool f.0 over.grove.fits (run_first g xs es over.run))

  not_whole : (IsAlone i ids → ⊥) → (x : Pair) → x.0.0 ≡ forest_in g f.0 → x.0 ≡ whole t → ⊥
  not_whole not x h e =
      let same : trees_at g.pool (numbers ids) ≡ t ∷ [] = sym (h ∙ forest) ∙ ap (λ (k : Extracted). k.0) e ∙ ap (λ (s : Plain). s ∷ []) (canon_fixed t kept.canonical) in
      not (alone g.pool (numbers ids) i over.grove.pooled over.known known_ids same)

  pairs : (IsAlone i ids → ⊥) → other_pairs t (pairs_in g es) ≡ with_forest (forest_in g f.0) (quotients_in g.pool es)
  pairs not =
      others_all t (pairs_in g es) (run_all g xs f (λ x. x.0 ≡ whole t → ⊥) es (λ x j h. not_whole not x h) run.forest run.listed) ∙ run_pairs g f es run.forest

  pub run_parts : (IsAlone i ids → ⊥) → IsBounded t → AreParts g.pool t (numbers ids)
  run_parts not bounded =
      let first = first_of g xs es over.run in
      let x = first.0 in
      let key : IsIn x.0 (keys (extraction_terms g.pool.types t)) = in_map (λ (y : Pair). y.0) x xs first.1 in
      let small : AllByRecursion (λ s. IsSmaller s t) x.0.0 = elim (term_falls g.pool.types t x.0 typed key) [ inl e ↦ absurd (not_whole not x first.2 e) | inr s ↦ s ] in
      let trees : x.0.0 ≡ trees_at g.pool (numbers ids) = first.2 ∙ forest in
      parts_in g.pool t (numbers ids) known_ids (subst (AllByRecursion IsBounded) trees (terms_bounded g.pool.types t x.0 over.grove.pooled.types typed bounded key).0)
      (subst (AllByRecursion (λ s. IsSmaller s t)) trees small)

  -- its trees are components of the tree
  pub run_has : (ts : List Plain) → IsIn t ts → HasAllComponents g.pool.types ts → HasAll (trees_of g.pool ids) ts
  run_has ts h all =
      let first = first_of g xs es over.run in
      subst (λ (fs : List Plain). HasAll fs ts) (first.2 ∙ forest ∙ same_trees g.pool ids) (member_of (λ (x : Pair). HasAll x.0.0 ts) xs first.0 (all t h) first.1)

  module _ (reading : Reading) (a : Plain → Weighed) (w : Weighed) (v : Value) where
    abbrev Sum : List Pair → Weighed
    Sum ys = sum_of w (part_value reading g.pool.types a ys)

    abbrev quotients : Weighed
    quotients = run_value reading g.pool.types (quotients_in g.pool es)

    abbrev Added : List Plain → Weighed
    Added fs = sum_of w (negative_of (product_of (forest_weighed a fs) quotients))

    pub whole_value : IsAlone i ids → w.mass ≤ overflow → IsValueOf w v → IsValueOf (Sum (other_pairs t (pairs_in g es))) v
    whole_value e most h = subst (λ (ys : List Pair). IsValueOf (Sum ys) v) (sym (whole_run e)) (nothing_passed reading g.pool.types a w v most h)

    pub passed_value : (IsAlone i ids → ⊥) → w.mass ≤ overflow → quotients.mass ≡ 0 → HaveSameCoefficients quotients.terms [] → IsValueOf w v → IsValueOf (Sum (other_pairs t (pairs_in g es))) v
    passed_value not most none empty h =
        subst (λ (ys : List Pair). IsValueOf (Sum ys) v) (sym (pairs not)) (run_passed reading g.pool.types a w (forest_in g f.0) (quotients_in g.pool es) v most none empty h)

    pub added_value : (IsAlone i ids → ⊥) → IsValueOf (Added (trees_of g.pool ids)) v → IsValueOf (Sum (other_pairs t (pairs_in g es))) v
    added_value not h =
        subst (λ (ys : List Pair). IsValueOf (Sum ys) v) (sym (pairs not))
        (run_added reading g.pool.types a w (forest_in g f.0) (quotients_in g.pool es) v
        (subst (λ (fs : List Plain). IsValueOf (Added fs) v) (sym (forest ∙ same_trees g.pool ids)) h))

pub over_run : (b c : TablesContent) (hs : List Held) (i : ℕ) (ids : List TreeId) (es : List ExtractTerm) → IsRunOver (grove_of b) i ids es → AreFinishedOver b c hs (trees_of b.pool ids) →
    AreFinishedOver b c hs (tree_at b.pool i ∷ [])
over_run b c hs i ids es over h = λ ts has all. h ts (run_has (grove_of b) i ids es over ts has.0 all) all
