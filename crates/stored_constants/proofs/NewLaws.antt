-- The rows of what was computed, one after the other.
use Rattle.std.proofs.Common.{◌≡◌, ◌<◌, ◌≤◌, ◌+◌, inl, inr, ℕ, Bool, true, false, cond, List, [], ◌∷◌, ◌++◌, map, filter, take, length, get_or, is_some, is_none, option_map, Option, Some, None, refl, sym, ap, ◌∙◌, take_all, append-nil, Bor, lt_of_not-le, bytes_eq}
use Rattle.std.specs.HashMap as hash
use Rattle.std.specs.List.{All, AllZip}
use Rattle.std.specs.FinMap.{find}
use Rattle.std.proofs.lemmas.List.{take_more, map-append}
use Rattle.exact_sums.specs.Saturating.{overflow}
use Rattle.ordered_lists.specs.Members.{IsIn}
use Rattle.ordered_lists.proofs.Members.{all_at}
use Rattle.degree_numbers.specs.declared.types.Types.{Types}
use Rattle.plain_trees.specs.Plain.{Plain}
use Rattle.plain_trees.specs.Text.{tree_text}
use Rattle.plain_trees.specs.View.{plain}
use Rattle.equations.specs.declared.equation.Equation.{Equation}
use Rattle.antipode_laws.specs.Weighed.{Weighed}
use Rattle.counterterm_report.specs.declared.values.TreeValues.{TreeValues}
use Rattle.counterterm_report.specs.Values.{IsValue, IsTreeValues}
use Rattle.symbol_polys.specs.View.{terms_of}
use Rattle.tree_values.specs.Values.{IsValuesOf, AreValuesOf}
use Rattle.result_keeper.specs.declared.parts.StoredRow.{StoredRow}
use Rattle.result_keeper.specs.Entries.{pair_of}
use Rattle.result_keeper.specs.Kept.{bytes_cmp}
use Rattle.stored_constants.specs.Rows.{row_for, AreHeldRows, IsRowOf, AreNewRows, IsStored, row_of_values, rows_of_values, lacking}
use Rattle.stored_constants.proofs.ConstantTexts.{constant_text}
use Rattle.stored_constants.proofs.Lookups.{AreValues}
use Rattle.stored_constants.proofs.HoldLaws.{none_there}

module _ (ty : Types) (rows : List (List ℕ × List ℕ)) where
  abbrev lacks : TreeValues → Bool
  lacks v = is_none (row_for ty rows (plain v.tree))

  -- one more
  rows_put : (vs : List TreeValues) (v : TreeValues) →
      rows_of_values ty rows (vs ++ v ∷ []) ≡ rows_of_values ty rows vs ++ cond (lacks v) (row_of_values ty v ∷ []) []
  rows_put [] v = elim (lacks v) as (λ b. map (row_of_values ty) (cond b (v ∷ []) []) ≡ cond b (row_of_values ty v ∷ []) []) [ true ↦ refl | false ↦ refl ]
  rows_put (u ∷ vs) v =
      let rest = rows_put vs v in
      elim (lacks u) as (λ b. map (row_of_values ty) (cond b (u ∷ filter lacks (vs ++ v ∷ [])) (filter lacks (vs ++ v ∷ []))) ≡ map (row_of_values ty) (cond b (u ∷ filter lacks vs) (filter lacks vs)) ++ cond (lacks v) (row_of_values ty v ∷ []) []) [
        | true ↦ ap (λ rs. row_of_values ty u ∷ rs) rest
        | false ↦ rest
      ]

  more_values : (vs : List TreeValues) (i : ℕ) (v : TreeValues) → i < length vs → v ≡ get_or vs i v → take (i + 1) vs ≡ take i vs ++ v ∷ []
  more_values vs i v below is = take_more vs i v below ∙ ap (λ (u : TreeValues). take i vs ++ u ∷ []) (sym is)

  pub rows_next_new : (vs : List TreeValues) (i : ℕ) (v : TreeValues) (old new : List (List ℕ × List ℕ)) →
      i < length vs → v ≡ get_or vs i v → is_some (row_for ty rows (plain v.tree)) ≡ false →
      new ≡ old ++ row_of_values ty v ∷ [] → old ≡ rows_of_values ty rows (take i vs) → new ≡ rows_of_values ty rows (take (i + 1) vs)
  rows_next_new vs i v old new below is none put h =
      put ∙ ap (λ rs. rs ++ row_of_values ty v ∷ []) h
      ∙ sym (ap (λ us. rows_of_values ty rows us) (more_values vs i v below is) ∙ rows_put (take i vs) v ∙ ap (λ b. rows_of_values ty rows (take i vs) ++ cond b (row_of_values ty v ∷ []) []) (lacks_is (row_for ty rows (plain v.tree)) none))
    where
      lacks_is : (o : Option (List ℕ)) → is_some o ≡ false → is_none o ≡ true
      lacks_is None e = refl
      lacks_is (Some x) e = absurd cc

  pub rows_next_same : (vs : List TreeValues) (i : ℕ) (v : TreeValues) (old new : List (List ℕ × List ℕ)) →
      i < length vs → v ≡ get_or vs i v → is_some (row_for ty rows (plain v.tree)) ≡ true →
      new ≡ old → old ≡ rows_of_values ty rows (take i vs) → new ≡ rows_of_values ty rows (take (i + 1) vs)
  rows_next_same vs i v old new below is some put h =
      put ∙ h
      ∙ sym (ap (λ us. rows_of_values ty rows us) (more_values vs i v below is) ∙ rows_put (take i vs) v ∙ ap (λ b. rows_of_values ty rows (take i vs) ++ cond b (row_of_values ty v ∷ []) []) (lacks_not (row_for ty rows (plain v.tree)) some)
      ∙ append-nil (rows_of_values ty rows (take i vs)))
    where
      lacks_not : (o : Option (List ℕ)) → is_some o ≡ true → is_none o ≡ false
      lacks_not None e = absurd cc
      lacks_not (Some x) e = refl

  pub rows_all : (vs : List TreeValues) (i : ℕ) (new : List (List ℕ × List ℕ)) → length vs ≤ i →
      new ≡ rows_of_values ty rows (take i vs) → new ≡ rows_of_values ty rows vs
  rows_all vs i new end h = h ∙ ap (λ us. rows_of_values ty rows us) (take_all i vs end)

  -- they are the rows of the trees that have none
  module _ (eq : Equation) (held : Plain → Option Weighed) (k : Plain → Weighed) where
    row_is : (t : Plain) (v : TreeValues) → IsValuesOf eq k t v → IsStored ty v → (k t).mass < overflow → IsRowOf ty k t (row_of_values ty v)
    row_is t v is stored range = record { tree = ap (tree_text ty) is.tree; value = constant_text ty (k t) v.constant is.constant stored.constant range }

    new_by : (ts : List Plain) (vs : List TreeValues) → ((t : Plain) → IsIn t ts → row_for ty rows t ≡ None → held t ≡ None) → ((v : TreeValues) → IsIn v vs → IsStored ty v) → AreValuesOf eq held k ts vs →
        AreNewRows ty rows k ts (rows_of_values ty rows vs)
    new_by [] [] unheld stored h = tt
    new_by [] (v ∷ vs) unheld stored h = absurd h
    new_by (t ∷ ts) [] unheld stored h = absurd h
    new_by (t ∷ ts) (v ∷ vs) unheld stored h =
        let rest = new_by ts vs (λ s i. unheld s (inr i)) (λ u i. stored u (inr i)) h.2 in
        by_row (row_for ty rows t) (row_for ty rows (plain v.tree)) refl (ap (row_for ty rows) (sym h.1.tree)) rest
      where
        by_row : (o p : Option (List ℕ)) → row_for ty rows t ≡ o → o ≡ p → AreNewRows ty rows k ts (rows_of_values ty rows vs) →
            AllZip (IsRowOf ty k) (cond (is_none o) (t ∷ lacking ty rows ts) (lacking ty rows ts)) (map (row_of_values ty) (cond (is_none p) (v ∷ filter lacks vs) (filter lacks vs)))
        by_row None None e same rest =
            (row_is t v h.1 (stored v (inl refl)) (lt_of_not-le (λ large. h.0.1.0 (unheld t (inl refl) e, large))), rest)
        by_row None (Some y) e same rest = absurd cc
        by_row (Some x) None e same rest = absurd cc
        by_row (Some x) (Some y) e same rest = rest

    pub new_are : (ts : List Plain) (vs : List TreeValues) → AreHeldRows ty rows ts held → All (IsStored ty) vs → AreValuesOf eq held k ts vs → AreNewRows ty rows k ts (rows_of_values ty rows vs)
    new_are ts vs rows_held stored h = new_by ts vs (λ t i none. none_there ty rows ts held t rows_held none) (λ v i. all_at (IsStored ty) vs v stored i) h

-- whether a tree has a row
pub looked_is : {S : Type 0} (m : hash.HashMap (Bor (List ℕ)) (Bor (List ℕ)) S) (es : List (List ℕ × List ℕ)) (q : List ℕ) →
    AreValues m es → is_some (hash.get_by (λ k. bytes_eq q k.now) m) ≡ is_some (find bytes_cmp q es)
looked_is m es q values = some_mapped (hash.get_by (λ k. bytes_eq q k.now) m) ∙ ap is_some (values q)
  where
    some_mapped : (x : Option (Bor (List ℕ))) → is_some x ≡ is_some (option_map (λ v. v.now) x)
    some_mapped None = refl
    some_mapped (Some x) = refl

-- values that can be reported and stored
pub are_stored : (eq : Equation) (vs : List TreeValues) → All (IsTreeValues eq) vs →
    All (λ v. IsValue eq.types v.constant.mass (terms_of v.constant.terms)) vs →
    All (IsStored eq.types) vs
are_stored eq vs printed values k d below = let one = printed k d below in record { types = one.types; small = one.small; constant = values k d below }

-- whether the tree of v has a row
pub row_known : {S : Type 0} (ty : Types) (m : hash.HashMap (Bor (List ℕ)) (Bor (List ℕ)) S) (rows : List (List ℕ × List ℕ)) (key : List ℕ) (v : TreeValues) (found b : Bool) →
    AreValues m rows → key ≡ tree_text ty (plain v.tree) →
    found ≡ is_some (hash.get_by (λ k. bytes_eq key k.now) m) → found ≡ b → is_some (row_for ty rows (plain v.tree)) ≡ b
row_known ty m rows key v found b values text is answer = ap (λ q. is_some (find bytes_cmp q rows)) (sym text) ∙ (sym (looked_is m rows key values) ∙ (sym is ∙ answer))

pub pushed : (old new : List StoredRow) (row : StoredRow) (r : List ℕ × List ℕ) →
    new ≡ old ++ row ∷ [] → pair_of row ≡ r → map pair_of new ≡ map pair_of old ++ r ∷ []
pushed old new row r is pair = ap (λ rs. map pair_of rs) is ∙ (map-append pair_of old (row ∷ []) ∙ ap (λ q. map pair_of old ++ q ∷ []) pair)
