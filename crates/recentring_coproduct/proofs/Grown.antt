-- What is held stays right while the pool grows.
use Rattle.std.proofs.Common.{append-nil, ◌≡◌, ℕ, ℤ, ◌<◌, List, [], ◌∷◌, ◌++◌, map, length, refl, sym, ap, ◌∙◌, arith, subst}
use Rattle.degree_numbers.specs.declared.types.Types.{Types}
use Rattle.exact_sums.specs.Keyed.{saturated_terms}
use Rattle.plain_trees.specs.Coproducts.{Recentred, recentring_terms}
use Rattle.ordered_lists.specs.Members.{IsIn}
use Rattle.ordered_lists.proofs.Insertion.{all_at_member}
use Rattle.tree_pool.specs.Content.{Content, tree_at, IsGrown}
use Rattle.tree_pool.proofs.Growth.{grown_at, grown_length}
use Rattle.pooled_cuttings.specs.declared.RightKey.{RightKey}
use Rattle.pooled_cuttings.specs.Lines.{recentred_in, recentred_terms_in, AreRightLines}
use Rattle.pooled_cuttings.proofs.Means.{right_key_grown, recentred_grown}
use Rattle.pooled_cuttings.proofs.Rows.{all_append}
use Rattle.recentring_coproduct.specs.declared.term.RightTerm.{RightTerm}
use Rattle.recentring_coproduct.specs.Held.{recentring_of, IsTerms, FitsPool, HasGrown}
use Rattle.recentring_coproduct.specs.Terms.{key_of, right_terms_in, AreKnownTerms, AreInRange, term_of}
use Rattle.recentring_coproduct.proofs.TermsFound.{terms_of_lines, lines_in_range}

abbrev line : Recentred → ℤ → Recentred × ℤ
line k c = (k, c)

pub recentring_grown : (c d : Content) (i : ℕ) → IsGrown c d → i < length c.trees → recentring_of d i ≡ recentring_of c i
recentring_grown c d i g h =
    ap (λ (ty : Types). recentring_terms ty (tree_at d i)) g.types ∙ ap (recentring_terms c.types) (grown_at c d i g h)

module _ (c d : Content) (grown : IsGrown c d) where
  known_grown : (ts : List RightTerm) → AreKnownTerms c ts → AreKnownTerms d ts
  known_grown [] a = tt
  known_grown (t ∷ ts) a = (right_key_grown c d (key_of t) grown a.0, known_grown ts a.1)

  terms_grown : (ts : List RightTerm) → AreKnownTerms c ts → right_terms_in d ts ≡ right_terms_in c ts
  terms_grown [] a = refl
  terms_grown (t ∷ ts) a =
      ap (λ (k : Recentred). line k t.coefficient ∷ right_terms_in d ts) (recentred_grown c d (key_of t) grown a.0)
      ∙ ap (λ (us : List (Recentred × ℤ)). line (recentred_in c (key_of t)) t.coefficient ∷ us) (terms_grown ts a.1)

  held_terms : (i : ℕ) (ts : List RightTerm) → IsTerms c i ts → IsTerms d i ts
  held_terms i ts a =
      let same = recentring_grown c d i grown a.tree in
      record {
        tree = omega (arith, grown_length c d grown, a.tree);
        known = known_grown ts a.known;
        terms = rw (terms_grown ts a.known, same) a.terms;
        range = rw same a.range;
      }

  pub fits_grown : (fs : List (ℕ × List RightTerm)) → FitsPool fs c → FitsPool fs d
  fits_grown [] a = tt
  fits_grown (f ∷ fs) a = (held_terms f.0 f.1 a.0, fits_grown fs a.1)

pub fits_with_growth : (held : List (ℕ × List RightTerm)) (c d : Content) → FitsPool held c → IsGrown c d → FitsPool held d
fits_with_growth held c d fits grown = fits_grown c d grown held fits

-- what is held, by number
pub held_at : (c : Content) (fs : List (ℕ × List RightTerm)) (i : ℕ) (ts : List RightTerm) → FitsPool fs c → IsIn (i, ts) fs → IsTerms c i ts
held_at c fs i ts a h = all_at_member (λ (f : ℕ × List RightTerm). IsTerms c f.0 f.1) fs (i, ts) a h

pub fits_push : (c : Content) (fs gs : List (ℕ × List RightTerm)) (i : ℕ) (ts : List RightTerm) → gs ≡ fs ++ (i, ts) ∷ [] → FitsPool fs c → IsTerms c i ts → FitsPool gs c
fits_push c fs gs i ts e a h = rw e (all_append (λ (f : ℕ × List RightTerm). IsTerms c f.0 f.1) fs ((i, ts) ∷ []) a (h, tt))

-- from lines in a pool that has grown to the terms of a tree that it held before
module _ (c d : Content) (i : ℕ) (ls : List (RightKey × ℕ)) (grown : IsGrown c d) (known : i < length c.trees)
    (are : recentred_terms_in d ls ≡ saturated_terms (recentring_of c i)) where
  same : recentring_of d i ≡ recentring_of c i
  same = recentring_grown c d i grown known

  are_now : recentred_terms_in d ls ≡ saturated_terms (recentring_of d i)
  are_now = are ∙ ap saturated_terms (sym same)

  pub terms_found : AreRightLines d ls → AreInRange ls → IsTerms d i (map term_of ls)
  terms_found lines range = terms_of_lines d i ls are_now (omega (arith, grown_length c d grown, known)) lines range

  pub values_in_range : AreInRange (recentring_of c i) → AreInRange ls
  values_in_range range =
      let Range : List (Recentred × ℕ) → Type 0 = AreInRange in
      lines_in_range d i ls are_now (subst Range (sym same) range)

pub none_more : (old new : List (ℕ × List RightTerm)) → new ≡ old → HasGrown old new
none_more old new e = ([], e ∙ sym (append-nil old))
