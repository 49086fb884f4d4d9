-- The three sums, by what they ask of the terms of the coproducts.
use Rattle.std.proofs.Common.{◌≡◌, ℕ, ◌<◌, ℤ, pos, ◌*ℤ◌, List, [], ◌∷◌, ◌++◌, refl, sym, ap, ◌∙◌, subst, append-nil, Result, Ok, Err, ◌⊎◌, inl, inr}
use Rattle.std.specs.Prelude.{IfErr, OnOk}
use Rattle.std.proofs.Math.IntN.{*ℤ_comm, *ℤ-one}
use Rattle.exact_sums.specs.Saturating.{overflow}
use Rattle.signed_sums.specs.Signed.{size_of}
use Rattle.plain_trees.specs.Plain.{Plain}
use Rattle.plain_trees.specs.Coproducts.{Extracted, Recentred}
use Rattle.tree_pool.specs.Content.{Content, IsGrown}
use Rattle.ordered_lists.specs.Members.{IsIn}
use Rattle.extraction_coproduct.specs.Finished.{TablesContent, IsUncounted, IsFinishedNow}
use Rattle.extraction_coproduct.specs.Terms.{whole_terms, AreInRange}
use Rattle.recentring_coproduct.specs.Terms.{whole_terms as whole_right_terms}
use Rattle.extraction_coproduct.specs.declared.CoproductError.{CoproductError}
use Rattle.extraction_coproduct.specs.declared.CoproductError.TheVariants as extraction_error
use Rattle.recentring_coproduct.specs.declared.CoproductError.{CoproductError as RecentringError}
use Rattle.recentring_coproduct.specs.declared.CoproductError.TheVariants as recentring_error
use Rattle.character_tables.specs.declared.CharacterRow.{CharacterRow}
use Rattle.character_tables.specs.declared.CharacterError.{CharacterError}
use Rattle.character_tables.specs.declared.CharacterError.TheVariants.{TableRefused, CoefficientTooLarge, Missing, Memory}
use Rattle.character_tables.specs.declared.CharacterPart.TheVariants.{Coproduct, Sum}
use Rattle.character_tables.specs.Rows.{Row, rows_over, AreKnownRows}
use Rattle.character_tables.proofs.Tables.{rows_grown}
use Rattle.characters.specs.Asked.{left_answers, left_missing, right_answers, right_missing, both_answers, both_missing, refusal_of, right_refusal_of, IsNotGiven}
use Rattle.characters.specs.Sums.{value_of, on_forest, lacking, left_products, right_products, products, lacking_left, lacking_right, lacking_both, IsGiven, IsRefused, IsAskedOnce}

abbrev pair : Plain → ℤ → Plain × ℤ
pair t z = (t, z)

-- with coefficients as whole numbers
left_products_are : (gs : List Row) (xs : List (Extracted × ℕ)) → left_answers gs (whole_terms xs) ≡ left_products gs xs
left_products_are gs [] = refl
left_products_are gs (x ∷ xs) = ap (λ (ps : List (Plain × ℤ)). pair x.0.1 (pos x.1 *ℤ on_forest gs x.0.0) ∷ ps) (left_products_are gs xs)

left_lacking_are : (gs : List Row) (xs : List (Extracted × ℕ)) → left_missing gs (whole_terms xs) ≡ lacking_left gs xs
left_lacking_are gs [] = refl
left_lacking_are gs (x ∷ xs) =
    ap (λ (ts : List Plain). ts ++ left_missing gs (whole_terms xs)) (append-nil (lacking gs x.0.0)) ∙ ap (λ (ts : List Plain). lacking gs x.0.0 ++ ts) (left_lacking_are gs xs)

times_one : (z : ℤ) → z *ℤ pos 1 ≡ z
unfolding lib.IntN.one
times_one z = *ℤ-one z

right_products_are : (fs : List Row) (xs : List (Recentred × ℕ)) → right_answers fs (whole_right_terms xs) ≡ right_products fs xs
right_products_are fs [] = refl
right_products_are fs (x ∷ xs) =
    ap (λ (z : ℤ). pair x.0.0 (pos x.1 *ℤ z) ∷ right_answers fs (whole_right_terms xs)) (times_one (value_of fs x.0.1))
    ∙ ap (λ (ps : List (Plain × ℤ)). pair x.0.0 (pos x.1 *ℤ value_of fs x.0.1) ∷ ps) (right_products_are fs xs)

right_lacking_are : (fs : List Row) (xs : List (Recentred × ℕ)) → right_missing fs (whole_right_terms xs) ≡ lacking_right fs xs
right_lacking_are fs [] = refl
right_lacking_are fs (x ∷ xs) = ap (λ (ts : List Plain). lacking fs (x.0.1 ∷ []) ++ ts) (right_lacking_are fs xs)

both_products_are : (gs hs : List Row) (xs : List (Extracted × ℕ)) → both_answers gs hs (whole_terms xs) ≡ products gs hs xs
both_products_are gs hs [] = refl
both_products_are gs hs (x ∷ xs) =
    ap (λ (z : ℤ). pair x.0.1 (pos x.1 *ℤ z) ∷ both_answers gs hs (whole_terms xs)) (*ℤ_comm (value_of hs x.0.1) (on_forest gs x.0.0))
    ∙ ap (λ (ps : List (Plain × ℤ)). pair x.0.1 (pos x.1 *ℤ (on_forest gs x.0.0 *ℤ value_of hs x.0.1)) ∷ ps) (both_products_are gs hs xs)

both_lacking_are : (gs hs : List Row) (xs : List (Extracted × ℕ)) → both_missing gs hs (whole_terms xs) ≡ lacking_both gs hs xs
both_lacking_are gs hs [] = refl
both_lacking_are gs hs (x ∷ xs) = ap (λ (ts : List Plain). (lacking gs x.0.0 ++ lacking hs (x.0.1 ∷ [])) ++ ts) (both_lacking_are gs hs xs)

-- in a pool that has grown
module _ (c d : Content) (grown : IsGrown c d) (g : List CharacterRow) (known_g : AreKnownRows c g) where
  rows : rows_over d g ≡ rows_over c g
  rows = rows_grown c d g grown known_g

  module _ (ts : List (Extracted × ℤ)) (xs : List (Extracted × ℕ)) (are : ts ≡ whole_terms xs) where
    pub left_sum : left_answers (rows_over d g) ts ≡ left_products (rows_over c g) xs
    left_sum = ap (λ (rs : List Row). left_answers rs ts) rows ∙ ap (left_answers (rows_over c g)) are ∙ left_products_are (rows_over c g) xs

    pub left_lacks : left_missing (rows_over d g) ts ≡ lacking_left (rows_over c g) xs
    left_lacks = ap (λ (rs : List Row). left_missing rs ts) rows ∙ ap (left_missing (rows_over c g)) are ∙ left_lacking_are (rows_over c g) xs

  module _ (ts : List (Recentred × ℤ)) (xs : List (Recentred × ℕ)) (are : ts ≡ whole_right_terms xs) where
    pub right_sum : right_answers (rows_over d g) ts ≡ right_products (rows_over c g) xs
    right_sum = ap (λ (rs : List Row). right_answers rs ts) rows ∙ ap (right_answers (rows_over c g)) are ∙ right_products_are (rows_over c g) xs

    pub right_lacks : right_missing (rows_over d g) ts ≡ lacking_right (rows_over c g) xs
    right_lacks = ap (λ (rs : List Row). right_missing rs ts) rows ∙ ap (right_missing (rows_over c g)) are ∙ right_lacking_are (rows_over c g) xs

  module _ (h : List CharacterRow) (known_h : AreKnownRows c h) (ts : List (Extracted × ℤ)) (xs : List (Extracted × ℕ)) (are : ts ≡ whole_terms xs) where
    other : rows_over d h ≡ rows_over c h
    other = rows_grown c d h grown known_h

    pub both_sum : both_answers (rows_over d g) (rows_over d h) ts ≡ products (rows_over c g) (rows_over c h) xs
    both_sum =
        ap (λ (rs : List Row). both_answers rs (rows_over d h) ts) rows ∙ ap (λ (rs : List Row). both_answers (rows_over c g) rs ts) other
        ∙ ap (both_answers (rows_over c g) (rows_over c h)) are ∙ both_products_are (rows_over c g) (rows_over c h) xs

    pub both_lacks : both_missing (rows_over d g) (rows_over d h) ts ≡ lacking_both (rows_over c g) (rows_over c h) xs
    both_lacks =
        ap (λ (rs : List Row). both_missing rs (rows_over d h) ts) rows ∙ ap (λ (rs : List Row). both_missing (rows_over c g) rs ts) other
        ∙ ap (both_missing (rows_over c g) (rows_over c h)) are ∙ both_lacking_are (rows_over c g) (rows_over c h) xs

-- what stands against a sum
module _ {K T : Type 0} (c : Content) (xs : List (K × ℕ)) (range : AreInRange xs) (ms ns : List Plain) (ps qs : List (Plain × ℤ)) (same : ms ≡ ns) (sums : ps ≡ qs)
    (r : Result T CharacterError) where
  pub given_is : OnOk r ((ms ≡ []) × (size_of ps < overflow)) → OnOk r (IsGiven xs ns (size_of qs))
  given_is h = all r (subst (λ (us : List (Plain × ℤ)). OnOk r ((ns ≡ []) × (size_of us < overflow))) sums (subst (λ (ts : List Plain). OnOk r ((ts ≡ []) × (size_of ps <
      overflow))) same h))
    where
      all : (s : Result T CharacterError) → OnOk s ((ns ≡ []) × (size_of qs < overflow)) → OnOk s (IsGiven xs ns (size_of qs))
      all (Ok t) g = record { range = range; rows = g.0; size = g.1 }
      all (Err e) g = g

  one : (e : CharacterError) → IsNotGiven c ns (size_of qs) e → IsRefused c xs ns (size_of qs) e
  one (CoefficientTooLarge Coproduct) h = absurd h
  one (CoefficientTooLarge Sum) h = (range, h.0, h.1)
  one (Missing i) h = (range, h.0, h.1)
  one (TableRefused line) h = h
  one Memory h = h

  pub refused_is : IfErr r (IsNotGiven c ms (size_of ps)) → IfErr r (IsRefused c xs ns (size_of qs))
  refused_is h =
      all r (subst (λ (us : List (Plain × ℤ)). IfErr r (IsNotGiven c ns (size_of us))) sums (subst (λ (ts : List Plain). IfErr r (IsNotGiven c ts (size_of ps))) same h))
    where
      all : (s : Result T CharacterError) → IfErr s (IsNotGiven c ns (size_of qs)) → IfErr s (IsRefused c xs ns (size_of qs))
      all (Ok t) g = g
      all (Err e) g = one e g

-- a coproduct that is refused
pub coproduct_refused : {K : Type 0} (c : Content) (xs : List (K × ℕ)) (ms : List Plain) (most : ℕ) (e : CoproductError) (r : CharacterError) →
    r ≡ refusal_of e →
    (e ≡ extraction_error.CoefficientTooLarge → AreInRange xs → ⊥) → IsRefused c xs ms most r
coproduct_refused {K} c xs ms most extraction_error.CoefficientTooLarge r is h = subst (λ (s : CharacterError). IsRefused c xs ms most s) (sym is) (h refl)
coproduct_refused {K} c xs ms most extraction_error.Memory r is h = subst (λ (s : CharacterError). IsRefused c xs ms most s) (sym is) tt

pub recentring_refused : {K : Type 0} (c : Content) (xs : List (K × ℕ)) (ms : List Plain) (most : ℕ) (e : RecentringError) (r : CharacterError) →
    r ≡ right_refusal_of e →
    (e ≡ recentring_error.CoefficientTooLarge → AreInRange xs → ⊥) → IsRefused c xs ms most r
recentring_refused {K} c xs ms most recentring_error.CoefficientTooLarge r is h = subst (λ (s : CharacterError). IsRefused c xs ms most s) (sym is) (h refl)
recentring_refused {K} c xs ms most recentring_error.Memory r is h = subst (λ (s : CharacterError). IsRefused c xs ms most s) (sym is) tt

-- what a coproduct counts
pub asked_once : (old new : TablesContent) (id before after : ℕ) →
    IsFinishedNow old new id before after ⊎ (IsIn id old.finished × IsUncounted old new before after) →
    IsAskedOnce old new id before after
asked_once old new id before after (inl now) = inr now
asked_once old new id before after (inr there) = inl there.1
