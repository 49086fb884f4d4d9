-- What the loops over lines of recentring put behind others, line by line.
use Rattle.std.proofs.Common.{◌≡◌, ℕ, ◌*◌, ◌<◌, ◌≤◌, List, [], ◌∷◌, ◌++◌, map, flat_map, length, refl, sym, ap, ◌∙◌, subst, arith}
use Rattle.std.specs.List.{AllByRecursion}
use Rattle.exact_sums.specs.Keyed.{scaled, products, products_with, saturated_terms}
use Rattle.degree_numbers.specs.declared.types.Types.{Types}
use Rattle.degree_numbers.specs.declared.multi.Multi.{Multi}
use Rattle.plain_trees.specs.Plain.{Plain}
use Rattle.plain_trees.specs.Coproducts.{Recentred}
use Rattle.tree_pool.specs.declared.node.EdgeTo.{EdgeTo}
use Rattle.tree_pool.specs.Content.{Content, tree_at, IsGrown}
use Rattle.tree_pool.proofs.Growth.{grown_length, grown_at}
use Rattle.cutting_tables.specs.Keys.{left_inside, left_factor, right_outside, right_factor}
use Rattle.pooled_cuttings.specs.declared.keys.RightKey.{RightKey}
use Rattle.pooled_cuttings.specs.Lines.{recentred_in, recentred_terms_in, IsRightLine, AreRightLines}
use Rattle.pooled_cuttings.specs.RightProducts.{IsRightFit, IsRightEdge, left_product, left_terms, right_product, right_terms, right_seed, AreLeftFit, AreRightFit}
use Rattle.pooled_cuttings.proofs.Means.{recentred_grown, right_terms_grown}
use Rattle.pooled_cuttings.proofs.ProductRows.{saturated_terms-append}

abbrev pub left_one : Content → EdgeTo → RightKey × ℕ → RightKey × ℕ → List (Recentred × ℕ)
left_one c e x y =
    saturated_terms
    ((left_product e (recentred_in c x.0) (recentred_in c y.0), x.1 * (left_factor (recentred_in c x.0) (recentred_in c y.0) * y.1)) ∷ [])

abbrev pub left_row : Content → EdgeTo → RightKey × ℕ → List (RightKey × ℕ) → List (Recentred × ℕ)
left_row c e x ys =
    saturated_terms (scaled x.1 (products_with left_factor (left_inside e.kind.0 e.p.entries) (recentred_in c x.0) (recentred_terms_in c ys)))

abbrev pub left_rows : Content → EdgeTo → List (RightKey × ℕ) → List (RightKey × ℕ) → List (Recentred × ℕ)
left_rows c e ys xs = saturated_terms (left_terms e (recentred_terms_in c xs) (recentred_terms_in c ys))

abbrev pub right_one : Content → EdgeTo → List ℕ → RightKey × ℕ → List (Recentred × ℕ)
right_one c e s y =
    saturated_terms
    ((right_product e (tree_at c e.child.0) s (recentred_in c y.0), right_factor s (tree_at c e.child.0) (recentred_in c y.0) * y.1) ∷ [])

abbrev pub right_row : Content → EdgeTo → List ℕ → List (RightKey × ℕ) → List (Recentred × ℕ)
right_row c e s ys =
    saturated_terms (products_with (right_factor s) (right_outside s e.kind.0 e.p.entries) (tree_at c e.child.0) (recentred_terms_in c ys))

abbrev pub right_rows : Content → EdgeTo → List (RightKey × ℕ) → List Multi → List (Recentred × ℕ)
right_rows c e ys ss = saturated_terms (right_terms e (tree_at c e.child.0) (map (λ m. m.entries) ss) (recentred_terms_in c ys))

-- rows, line by line
pub left_row_parts : (c : Content) (e : EdgeTo) (x y : RightKey × ℕ) (ys : List (RightKey × ℕ)) → left_row c e x (y ∷ ys) ≡ left_one c e x y ++ left_row c e x ys
left_row_parts c e x y ys = refl

pub left_rows_parts : (c : Content) (e : EdgeTo) (ys : List (RightKey × ℕ)) (x : RightKey × ℕ) (xs : List (RightKey × ℕ)) →
    left_rows c e ys (x ∷ xs) ≡ left_row c e x ys ++ left_rows c e ys xs
left_rows_parts c e ys x xs =
    saturated_terms-append (scaled x.1 (products_with left_factor (left_inside e.kind.0 e.p.entries) (recentred_in c x.0) (recentred_terms_in c ys)))
    (left_terms e (recentred_terms_in c xs) (recentred_terms_in c ys))

pub right_row_parts : (c : Content) (e : EdgeTo) (s : List ℕ) (y : RightKey × ℕ) (ys : List (RightKey × ℕ)) →
    right_row c e s (y ∷ ys) ≡ right_one c e s y ++ right_row c e s ys
right_row_parts c e s y ys = refl

pub right_rows_parts : (c : Content) (e : EdgeTo) (ys : List (RightKey × ℕ)) (s : Multi) (ss : List Multi) →
    right_rows c e ys (s ∷ ss) ≡ right_row c e s.entries ys ++ right_rows c e ys ss
right_rows_parts c e ys s ss =
    saturated_terms-append (products_with (right_factor s.entries) (right_outside s.entries e.kind.0 e.p.entries) (tree_at c e.child.0) (recentred_terms_in c ys))
    (right_terms e (tree_at c e.child.0) (map (λ m. m.entries) ss) (recentred_terms_in c ys))

-- what is made of lines in a pool that has grown
module _ (c d : Content) (a : IsGrown c d) (e : EdgeTo) where
  abbrev fit_with : Types → Recentred → Recentred → Type 0
  fit_with ty u v = IsRightFit ty (left_product e u v)

  pub left_one_grown : (x y : RightKey × ℕ) → IsRightLine c x → IsRightLine c y → left_one d e x y ≡ left_one c e x y
  left_one_grown x y i j =
      let term : Recentred → Recentred → List (Recentred × ℕ) = λ u v. saturated_terms ((left_product e u v, x.1 * (left_factor u v * y.1)) ∷ []) in
      ap (λ (u : Recentred). term u (recentred_in d y.0)) (recentred_grown c d x.0 a i.0)
      ∙ ap (λ (v : Recentred). term (recentred_in c x.0) v) (recentred_grown c d y.0 a j.0)

  pub left_fit_grown : (x y : RightKey × ℕ) → IsRightLine c x → IsRightLine c y → IsRightFit c.types (left_product e (recentred_in c x.0) (recentred_in c y.0)) →
      IsRightFit d.types (left_product e (recentred_in d x.0) (recentred_in d y.0))
  left_fit_grown x y i j fit =
      subst (λ (ty : Types). fit_with ty (recentred_in d x.0) (recentred_in d y.0)) (sym a.types)
      (subst (λ (u : Recentred). fit_with c.types u (recentred_in d y.0)) (sym (recentred_grown c d x.0 a i.0))
      (subst (λ (v : Recentred). fit_with c.types (recentred_in c x.0) v) (sym (recentred_grown c d y.0 a j.0)) fit))

  pub left_row_grown : (x : RightKey × ℕ) (ys : List (RightKey × ℕ)) → IsRightLine c x → AreRightLines c ys → left_row d e x ys ≡ left_row c e x ys
  left_row_grown x ys i j =
      let terms : Recentred → List (Recentred × ℕ) → List (Recentred × ℕ) =
      λ u vs. saturated_terms (scaled x.1 (products_with left_factor (left_inside e.kind.0 e.p.entries) u vs)) in
      ap (λ (u : Recentred). terms u (recentred_terms_in d ys)) (recentred_grown c d x.0 a i.0)
      ∙ ap (λ (vs : List (Recentred × ℕ)). terms (recentred_in c x.0) vs) (right_terms_grown c d ys a j)

  pub left_fits_grown : (x : RightKey × ℕ) (ys : List (RightKey × ℕ)) → IsRightLine c x → AreRightLines c ys →
      AllByRecursion (λ y. IsRightFit c.types (left_product e (recentred_in c x.0) (recentred_in c y.0))) ys →
      AllByRecursion (λ y. IsRightFit d.types (left_product e (recentred_in d x.0) (recentred_in d y.0))) ys
  left_fits_grown x [] i j fits = tt
  left_fits_grown x (y ∷ ys) i j fits = (left_fit_grown x y i j.0 fits.0, left_fits_grown x ys i j.1 fits.1)

  pub edge_grown : IsRightEdge c e → IsRightEdge d e
  edge_grown h =
      let more = grown_length c d a in
      let child = h.child in
      record { kind = subst (λ (ty : Types). e.kind.0 < length ty.list) (sym a.types) h.kind; small = h.small; child = omega (arith, more, child) }

  module _ (edge : IsRightEdge c e) (s : List ℕ) where
    child_same : tree_at d e.child.0 ≡ tree_at c e.child.0
    child_same = grown_at c d e.child.0 a edge.child

    pub right_one_grown : (y : RightKey × ℕ) → IsRightLine c y → right_one d e s y ≡ right_one c e s y
    right_one_grown y j =
        let term : Plain → Recentred → List (Recentred × ℕ) = λ t v. saturated_terms ((right_product e t s v, right_factor s t v * y.1) ∷ []) in
        ap (λ (t : Plain). term t (recentred_in d y.0)) child_same
        ∙ ap (λ (v : Recentred). term (tree_at c e.child.0) v) (recentred_grown c d y.0 a j.0)

    pub right_fit_grown : (y : RightKey × ℕ) → IsRightLine c y → IsRightFit c.types (right_product e (tree_at c e.child.0) s (recentred_in c y.0)) →
        IsRightFit d.types (right_product e (tree_at d e.child.0) s (recentred_in d y.0))
    right_fit_grown y j fit =
        subst (λ (ty : Types). IsRightFit ty (right_product e (tree_at d e.child.0) s (recentred_in d y.0))) (sym a.types)
        (subst (λ (t : Plain). IsRightFit c.types (right_product e t s (recentred_in d y.0))) (sym child_same)
        (subst (λ (v : Recentred). IsRightFit c.types (right_product e (tree_at c e.child.0) s v)) (sym (recentred_grown c d y.0 a j.0)) fit))

    pub right_row_grown : (ys : List (RightKey × ℕ)) → AreRightLines c ys → right_row d e s ys ≡ right_row c e s ys
    right_row_grown ys j =
        let terms : Plain → List (Recentred × ℕ) → List (Recentred × ℕ) =
        λ t vs. saturated_terms (products_with (right_factor s) (right_outside s e.kind.0 e.p.entries) t vs) in
        ap (λ (t : Plain). terms t (recentred_terms_in d ys)) child_same
        ∙ ap (λ (vs : List (Recentred × ℕ)). terms (tree_at c e.child.0) vs) (right_terms_grown c d ys a j)

    pub right_fits_grown : (ys : List (RightKey × ℕ)) → AreRightLines c ys → AreRightFit c e s ys → AreRightFit d e s ys
    right_fits_grown [] j fits = tt
    right_fits_grown (y ∷ ys) j fits = (right_fit_grown y j.0 fits.0, right_fits_grown ys j.1 fits.1)

  pub right_rows_grown : IsRightEdge c e → (ys : List (RightKey × ℕ)) (ss : List Multi) → AreRightLines c ys → right_rows d e ys ss ≡ right_rows c e ys ss
  right_rows_grown edge ys ss j =
      let terms : Plain → List (Recentred × ℕ) → List (Recentred × ℕ) = λ t vs. saturated_terms (right_terms e t (map (λ m. m.entries) ss) vs) in
      ap (λ (t : Plain). terms t (recentred_terms_in d ys)) (grown_at c d e.child.0 a edge.child)
      ∙ ap (λ (vs : List (Recentred × ℕ)). terms (tree_at c e.child.0) vs) (right_terms_grown c d ys a j)

  pub all_right_fits_grown : IsRightEdge c e → (ys : List (RightKey × ℕ)) → AreRightLines c ys → (ss : List Multi) → AllByRecursion (λ s. AreRightFit c e s.entries ys) ss →
      AllByRecursion (λ s. AreRightFit d e s.entries ys) ss
  all_right_fits_grown edge ys j [] fits = tt
  all_right_fits_grown edge ys j (s ∷ ss) fits = (right_fits_grown edge s.entries ys j fits.0, all_right_fits_grown edge ys j ss fits.1)

  -- both kinds of products
  pub both_rows : IsRightEdge c e → (f : Content) (xs ys : List (RightKey × ℕ)) (ss : List Multi) (start left all : List (RightKey × ℕ)) → AreRightLines c ys → start ≡ [] →
      recentred_terms_in d left ≡ recentred_terms_in c start ++ left_rows c e ys xs →
      recentred_terms_in f all ≡ recentred_terms_in d left ++ right_rows d e ys ss →
      recentred_terms_in f all
      ≡ saturated_terms
      (left_terms e (recentred_terms_in c xs) (recentred_terms_in c ys)
      ++ right_terms e (tree_at c e.child.0) (map (λ m. m.entries) ss) (recentred_terms_in c ys))
  both_rows edge f xs ys ss start left all j none first second =
      second
      ∙ ap (λ (us : List (Recentred × ℕ)). us ++ right_rows d e ys ss) (first ∙ ap (λ (ls : List (RightKey × ℕ)). recentred_terms_in c ls ++ left_rows c e ys xs) none)
      ∙ ap (λ (us : List (Recentred × ℕ)). left_rows c e ys xs ++ us) (right_rows_grown edge ys ss j)
      ∙ sym (saturated_terms-append (left_terms e (recentred_terms_in c xs) (recentred_terms_in c ys))
      (right_terms e (tree_at c e.child.0) (map (λ m. m.entries) ss) (recentred_terms_in c ys)))

-- parts of the decoration of one node
abbrev pub right_seeds_row : List ℕ → List Multi → List (Recentred × ℕ)
right_seeds_row n ms = map (right_seed n) (map (λ a. a.entries) ms)

pub right_seeds_parts : (n : List ℕ) (a : Multi) (ms : List Multi) → right_seeds_row n (a ∷ ms) ≡ right_seed n a.entries ∷ [] ++ right_seeds_row n ms
right_seeds_parts n a ms = refl
