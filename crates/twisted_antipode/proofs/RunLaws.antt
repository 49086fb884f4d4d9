-- Runs of the terms of a coproduct.
use Rattle.std.proofs.Common.{◌≡◌, ℕ, zero, suc, ◌<◌, ◌≤◌, ℤ, pos, unsigned_abs, List, [], ◌∷◌, ◌++◌, take, drop, get_or, length, refl, sym, ap, ◌∙◌, subst, arith, append_assoc}
use Rattle.std.specs.List.{AllByRecursion}
use Rattle.std.proofs.lemmas.Int.{ints}
use Rattle.std.proofs.lemmas.List.{map-append, take-append-drop}
use Rattle.ordered_lists.specs.Members.{IsIn}
use Rattle.ordered_lists.proofs.Members.{in_append_left, in_append_right}
use Rattle.plain_trees.specs.Coproducts.{Extracted}
use Rattle.tree_cuttings.proofs.Terms.{extraction_positive}
use Rattle.tree_pool.specs.Content.{Content, IsGrown, tree_at}
use Rattle.pooled_cuttings.specs.Groves.{GroveContent, IsGrove, IsGrownGrove}
use Rattle.pooled_cuttings.specs.Lines.{extracted_in, IsExtractKey}
use Rattle.pooled_cuttings.proofs.Means.{extract_key_grown, extracted_grown}
use Rattle.extraction_coproduct.specs.declared.term.ExtractTerm.{ExtractTerm}
use Rattle.extraction_coproduct.specs.Finished.{coproduct_of}
use Rattle.extraction_coproduct.specs.Terms.{terms_in, whole_terms, key_of, AreKnownTerms, AreInRange}
use Rattle.extraction_coproduct.proofs.Grown.{coproduct_grown}
use Rattle.antipode_laws.proofs.OtherTerms.{all_members}
use Rattle.twisted_antipode.specs.RunTerms.{IsCoefficient}
use Rattle.twisted_antipode.specs.Known.{pairs_in, IsRunOf}
use Rattle.twisted_antipode.proofs.RecursionLaws.{pairs_of_terms}
use Rattle.twisted_antipode.proofs.RunSums.{no_term}

-- the coefficients of a coproduct in range
abbrev entry : Extracted → ℤ → Extracted × ℤ
entry k z = (k, z)

numbers_of : (g : GroveContent) (ts : List ExtractTerm) (xs : List (Extracted × ℕ)) → terms_in g ts ≡ whole_terms xs → AllByRecursion (λ (x : Extracted × ℕ). 0 < x.1) xs → AreInRange xs →
    AllByRecursion (λ e. IsCoefficient e.coefficient) ts
numbers_of g [] xs h p r = tt
numbers_of g (e ∷ ts) [] h p r = absurd cc
numbers_of g (e ∷ ts) (x ∷ xs) h p r =
    let first : entry (extracted_in g (key_of e)) e.coefficient ≡ entry x.0 (pos x.1) = cc in
    let z : e.coefficient ≡ pos x.1 = ap (λ (y : Extracted × ℤ). y.1) first in
    let rest : terms_in g ts ≡ whole_terms xs = cc in
    let above = p.0 in
    let fits = r.0 in
    (record { above = omega (arith, ints, z, above); is = omega (arith, ints, z); fits = omega (arith, ints, z, fits) }, numbers_of g ts xs rest p.1 r.1)

pub record IsCoproduct (g : GroveContent) (i : ℕ) (ts : List ExtractTerm) : Type 0 where
  pub terms : pairs_in g ts ≡ coproduct_of g.pool i
  pub numbers : AllByRecursion (λ e. IsCoefficient e.coefficient) ts

pub coproduct_in : (c : Content) (g : GroveContent) (i : ℕ) (ts : List ExtractTerm) → IsGrown c g.pool → i < length c.trees → terms_in g ts ≡ whole_terms (coproduct_of c i) → AreInRange (coproduct_of c i) →
    IsCoproduct g i ts
coproduct_in c g i ts grown l h r = record {
  terms = pairs_of_terms g ts (coproduct_of c i) h ∙ sym (coproduct_grown c g.pool i grown l);
  numbers = numbers_of g ts (coproduct_of c i) h (extraction_positive c.types (tree_at c i)) r;
}

-- the front of a list and the rest
pub all_front : {X : Type 0} (P : X → Type 0) (n : ℕ) (xs : List X) → AllByRecursion P xs → AllByRecursion P (take n xs)
all_front P zero xs h = tt
all_front P (suc n) [] h = tt
all_front P (suc n) (x ∷ xs) h = (h.0, all_front P n xs h.1)

pub all_back : {X : Type 0} (P : X → Type 0) (n : ℕ) (xs : List X) → AllByRecursion P xs → AllByRecursion P (drop n xs)
all_back P zero xs h = h
all_back P (suc n) [] h = tt
all_back P (suc n) (x ∷ xs) h = all_back P n xs h.1

front_some : {X : Type 0} (n : ℕ) (xs : List X) → 0 < n → n ≤ length xs → 0 < length (take n xs)
front_some zero xs h l = absurd (omega (arith, h))
front_some (suc n) [] h l = absurd (omega (arith, l))
front_some (suc n) (x ∷ xs) h l = omega arith

front_first : {X : Type 0} (n : ℕ) (xs : List X) (d : X) → 0 < n → get_or (take n xs) 0 d ≡ get_or xs 0 d
front_first zero xs d h = absurd (omega (arith, h))
front_first (suc n) [] d h = refl
front_first (suc n) (x ∷ xs) d h = refl

pub pairs_split : (g : GroveContent) (n : ℕ) (es : List ExtractTerm) → pairs_in g es ≡ pairs_in g (take n es) ++ pairs_in g (drop n es)
pairs_split g n es =
    ap (pairs_in g) (sym (take-append-drop n es)) ∙ map-append (λ (e : ExtractTerm). (extracted_in g (key_of e), unsigned_abs e.coefficient)) (take n es) (drop n es)

-- the first term of a run
pub run_first : (g : GroveContent) (xs : List (Extracted × ℕ)) (es : List ExtractTerm) → IsRunOf g xs es → (get_or es 0 no_term).forest.0 < length g.forests
run_first g xs [] r = let some = r.some in absurd (omega (arith, some))
run_first g xs (e ∷ es) r = (r.forest no_term).known.0.forest

pub run_of : (g : GroveContent) (xs done : List (Extracted × ℕ)) (es : List ExtractTerm) (n : ℕ) → 0 < n → n ≤ length es → done ++ pairs_in g es ≡ xs → AreKnownTerms g es →
    AllByRecursion (λ e. IsCoefficient e.coefficient) es → ((d : ExtractTerm) → AllByRecursion (λ e. e.forest ≡ (get_or es 0 d).forest) (take n es)) → IsRunOf g xs (take n es)
run_of g xs done es n some most all known numbers forest =
    let front = take n es in
    record {
      some = front_some n es some most;
      forest = λ d. record {
        known = all_front (λ e. IsExtractKey g (key_of e)) n es known;
        numbers = all_front (λ e. IsCoefficient e.coefficient) n es numbers;
        forest = subst (λ (f : ExtractTerm). AllByRecursion (λ e. e.forest ≡ f.forest) front) (sym (front_first n es d some)) (forest d);
        listed = all_members (λ x. IsIn x xs) (pairs_in g front)
            (λ x i. subst (λ (ys : List (Extracted × ℕ)). IsIn x ys) all
            (in_append_right x done (pairs_in g es)
            (subst (λ (ys : List (Extracted × ℕ)). IsIn x ys) (sym (pairs_split g n es)) (in_append_left x (pairs_in g front) (pairs_in g (drop n es)) i))));
      };
    }

-- trees and forests grow
abbrev counted : ℕ → Extracted → Extracted × ℕ
counted n k = (k, n)

module _ (g h : GroveContent) (grove : IsGrove g) (grown : IsGrownGrove g h) where
  pub pairs_grown : (es : List ExtractTerm) → AreKnownTerms g es → pairs_in h es ≡ pairs_in g es
  pairs_grown [] a = refl
  pairs_grown (e ∷ es) a =
      ap (λ (k : Extracted). counted (unsigned_abs e.coefficient) k ∷ pairs_in h es) (extracted_grown g h (key_of e) grove grown a.0)
      ∙ ap (λ (xs : List (Extracted × ℕ)). counted (unsigned_abs e.coefficient) (extracted_in g (key_of e)) ∷ xs) (pairs_grown es a.1)

  pub known_grown : (es : List ExtractTerm) → AreKnownTerms g es → AreKnownTerms h es
  known_grown [] a = tt
  known_grown (e ∷ es) a = (extract_key_grown g h (key_of e) grown a.0, known_grown es a.1)

  -- what is left after a run
  pub left_terms : (xs done : List (Extracted × ℕ)) (es : List ExtractTerm) (n : ℕ) → done ++ pairs_in g es ≡ xs → AreKnownTerms g es →
      (done ++ pairs_in g (take n es)) ++ pairs_in h (drop n es) ≡ xs
  left_terms xs done es n all known =
      append_assoc done (pairs_in g (take n es)) (pairs_in h (drop n es))
      ∙ ap (λ (ys : List (Extracted × ℕ)). done ++ (pairs_in g (take n es) ++ ys)) (pairs_grown (drop n es) (all_back (λ e. IsExtractKey g (key_of e)) n es known))
      ∙ ap (λ (ys : List (Extracted × ℕ)). done ++ ys) (sym (pairs_split g n es)) ∙ all
