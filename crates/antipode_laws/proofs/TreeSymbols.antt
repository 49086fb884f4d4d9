-- Sums over symbols of trees alone: their products, and what expectation makes of them.
use Rattle.std.proofs.Common.{◌≡◌, ℤ, ◌*ℤ◌, Bool, true, false, cond, ◌||◌, List, [], ◌∷◌, ◌++◌, map, refl, sym, ap, ◌∙◌, subst}
use Rattle.std.specs.List.{AllByRecursion}
use Rattle.std.specs.Ordering.{is_gt}
use Rattle.std.proofs.lemmas.List.{map-append}
use Rattle.std.proofs.lemmas.Grind.{flat_map-append}
use Rattle.degree_numbers.specs.declared.types.Types.{Types}
use Rattle.plain_trees.specs.Plain.{Plain}
use Rattle.symbol_polys.specs.Symbols.{PlainSymbol, tree, expectation, symbol_order}
use Rattle.symbol_polys.specs.Polynomials.{PlainTerm, times, times_all}
use Rattle.symbol_polys.specs.Products.{with_symbol, monomial_product, term_product, products_with, products}
use Rattle.symbol_polys.proofs.MonomialLaws.{all-monomial_product}
use Rattle.tree_cuttings.proofs.Positive.{all_append}
use Rattle.antipode_laws.specs.Constants.{expected_symbol, is_vanishing, has_vanishing, expectation_of, expectation_terms}

abbrev pub IsTree : PlainSymbol → Type 0
IsTree s = (t : Plain) × (s ≡ tree t)

abbrev pub IsOverTrees : PlainTerm → Type 0
IsOverTrees t = AllByRecursion IsTree t.symbols

abbrev pub AreOverTrees : List PlainTerm → Type 0
AreOverTrees ts = AllByRecursion IsOverTrees ts

same_order : (s t : PlainSymbol) → IsTree s → IsTree t → symbol_order s t ≡ symbol_order (expected_symbol s) (expected_symbol t)
same_order s t h k =
    subst (λ (u : PlainSymbol). symbol_order u t ≡ symbol_order (expected_symbol u) (expected_symbol t)) (sym h.1)
    (subst (λ (v : PlainSymbol). symbol_order (tree h.0) v ≡ symbol_order (expectation h.0) (expected_symbol v)) (sym k.1) refl)

map-with_symbol : (s : PlainSymbol) (m : List PlainSymbol) → IsTree s → AllByRecursion IsTree m →
    map expected_symbol (with_symbol s m) ≡ with_symbol (expected_symbol s) (map expected_symbol m)
map-with_symbol s [] h k = refl
map-with_symbol s (t ∷ m) h k =
    (elim (is_gt (symbol_order s t)) as
    (λ b. map expected_symbol (cond b (t ∷ with_symbol s m) (s ∷ t ∷ m)) ≡ cond b (expected_symbol t ∷ with_symbol (expected_symbol s) (map expected_symbol m)) (expected_symbol s ∷ expected_symbol t ∷ map expected_symbol m)) [
      | true ↦ ap (λ (n : List PlainSymbol). expected_symbol t ∷ n) (map-with_symbol s m h k.1)
      | false ↦ refl
    ])
    ∙ ap (λ o. cond (is_gt o) (expected_symbol t ∷ with_symbol (expected_symbol s) (map expected_symbol m)) (expected_symbol s ∷ expected_symbol t ∷ map expected_symbol m)) (same_order s t h k.0)

map-monomial_product : (m n : List PlainSymbol) → AllByRecursion IsTree m →
    AllByRecursion IsTree n →
    map expected_symbol (monomial_product m n) ≡ monomial_product (map expected_symbol m) (map expected_symbol n)
map-monomial_product [] n h k = refl
map-monomial_product (s ∷ m) n h k =
    map-with_symbol s (monomial_product m n) h.0 (all-monomial_product IsTree m n h.1 k) ∙ ap (with_symbol (expected_symbol s)) (map-monomial_product m n h.1 k)

pub or_swap : (a b c : Bool) → a || (b || c) ≡ b || (a || c)
or_swap true true c = refl
or_swap true false c = refl
or_swap false b c = refl

or_assoc : (a b c : Bool) → a || (b || c) ≡ (a || b) || c
or_assoc true b c = refl
or_assoc false b c = refl

module _ (ty : Types) where
  any-with_symbol : (s : PlainSymbol) (m : List PlainSymbol) → has_vanishing ty (with_symbol s m) ≡ is_vanishing ty s || has_vanishing ty m
  any-with_symbol s [] = refl
  any-with_symbol s (t ∷ m) =
      elim (is_gt (symbol_order s t)) as (λ b. has_vanishing ty (cond b (t ∷ with_symbol s m) (s ∷ t ∷ m)) ≡ is_vanishing ty s || has_vanishing ty (t ∷ m)) [
        | true ↦ ap (λ b. is_vanishing ty t || b) (any-with_symbol s m) ∙ or_swap (is_vanishing ty t) (is_vanishing ty s) (has_vanishing ty m)
        | false ↦ refl
      ]

  any-monomial_product : (m n : List PlainSymbol) → has_vanishing ty (monomial_product m n) ≡ has_vanishing ty m || has_vanishing ty n
  any-monomial_product [] n = refl
  any-monomial_product (s ∷ m) n =
      any-with_symbol s (monomial_product m n) ∙ ap (λ b. is_vanishing ty s || b) (any-monomial_product m n) ∙ or_assoc (is_vanishing ty s) (has_vanishing ty m) (has_vanishing ty n)

  abbrev expects : PlainTerm → PlainTerm
  expects t = record { coefficient = t.coefficient; symbols = map expected_symbol t.symbols }

  pub expected-append : (ts us : List PlainTerm) → expectation_terms ty (ts ++ us) ≡ expectation_terms ty ts ++ expectation_terms ty us
  expected-append ts us = flat_map-append (expectation_of ty) ts us

  expected-times : (z : ℤ) (t : PlainTerm) → expectation_of ty (times z t) ≡ times_all z (expectation_of ty t)
  expected-times z t =
      elim (has_vanishing ty t.symbols) as (λ b. cond b [] (expects (times z t) ∷ []) ≡ times_all z (cond b [] (expects t ∷ []))) [ true ↦ refl | false ↦ refl ]

  pub expected-times_all : (z : ℤ) (ts : List PlainTerm) → expectation_terms ty (times_all z ts) ≡ times_all z (expectation_terms ty ts)
  expected-times_all z [] = refl
  expected-times_all z (t ∷ ts) =
      ap (λ (us : List PlainTerm). us ++ expectation_terms ty (times_all z ts)) (expected-times z t)
      ∙ ap (λ (us : List PlainTerm). times_all z (expectation_of ty t) ++ us) (expected-times_all z ts)
      ∙ sym (map-append (times z) (expectation_of ty t) (expectation_terms ty ts))

  abbrev term : ℤ → List PlainSymbol → PlainTerm
  term z m = record { coefficient = z; symbols = m }

  -- a product with a term that vanishes, and with one that does not
  none_with : (t : PlainTerm) (us : List PlainTerm) → has_vanishing ty t.symbols ≡ true → expectation_terms ty (products_with t us) ≡ []
  none_with t [] h = refl
  none_with t (u ∷ us) h =
      ap (λ b. cond b [] (expects (term_product t u) ∷ []) ++ expectation_terms ty (products_with t us)) (any-monomial_product t.symbols u.symbols ∙ ap (λ b. b || has_vanishing ty u.symbols) h)
      ∙ none_with t us h

  some_with : (t : PlainTerm) (us : List PlainTerm) → has_vanishing ty t.symbols ≡ false →
      IsOverTrees t → AreOverTrees us →
      expectation_terms ty (products_with t us) ≡ products_with (expects t) (expectation_terms ty us)
  some_with t [] h k l = refl
  some_with t (u ∷ us) h k l =
      ap (λ b. cond b [] (expects (term_product t u) ∷ []) ++ expectation_terms ty (products_with t us)) (any-monomial_product t.symbols u.symbols ∙ ap (λ b. b || has_vanishing ty u.symbols) h)
      ∙ ap (λ (vs : List PlainTerm). cond (has_vanishing ty u.symbols) [] (expects (term_product t u) ∷ []) ++ vs) (some_with t us h k l.1)
      ∙ (elim (has_vanishing ty u.symbols) as
      (λ b. cond b [] (expects (term_product t u) ∷ []) ++ products_with (expects t) (expectation_terms ty us) ≡ products_with (expects t) (cond b [] (expects u ∷ []) ++ expectation_terms ty us)) [
        | true ↦ refl
        | false ↦ ap (λ (m : List PlainSymbol). term (t.coefficient *ℤ u.coefficient) m ∷ products_with (expects t) (expectation_terms ty us)) (map-monomial_product t.symbols u.symbols k l.0)
      ])

  pub expected-products : (ts us : List PlainTerm) → AreOverTrees ts → AreOverTrees us →
      expectation_terms ty (products ts us) ≡ products (expectation_terms ty ts) (expectation_terms ty us)
  expected-products [] us h k = refl
  expected-products (t ∷ ts) us h k =
      expected-append (products_with t us) (products ts us)
      ∙ ap (λ (vs : List PlainTerm). expectation_terms ty (products_with t us) ++ vs) (expected-products ts us h.1 k)
      ∙ (elim (has_vanishing ty t.symbols) as
      (λ b. has_vanishing ty t.symbols ≡ b →
      expectation_terms ty (products_with t us) ++ products (expectation_terms ty ts) (expectation_terms ty us) ≡ products (cond b [] (expects t ∷ []) ++ expectation_terms ty ts) (expectation_terms ty us)) [
        | true ↦ λ e. ap (λ (vs : List PlainTerm). vs ++ products (expectation_terms ty ts) (expectation_terms ty us)) (none_with t us e)
        | false ↦ λ e. ap (λ (vs : List PlainTerm). vs ++ products (expectation_terms ty ts) (expectation_terms ty us)) (some_with t us e h.0 k)
      ]) refl

-- what is over symbols of one kind
module _ (P : PlainSymbol → Type 0) where
  abbrev pub AreOver : List PlainTerm → Type 0
  AreOver ts = AllByRecursion (λ (t : PlainTerm). AllByRecursion P t.symbols) ts

  over_with : (t : PlainTerm) (us : List PlainTerm) → AllByRecursion P t.symbols → AreOver us → AreOver (products_with t us)
  over_with t [] h k = tt
  over_with t (u ∷ us) h k = (all-monomial_product P t.symbols u.symbols h k.0, over_with t us h k.1)

  pub over-products : (ts us : List PlainTerm) → AreOver ts → AreOver us → AreOver (products ts us)
  over-products [] us h k = tt
  over-products (t ∷ ts) us h k = all_append (λ (v : PlainTerm). AllByRecursion P v.symbols) (products_with t us) (products ts us) (over_with t us h.0 k) (over-products ts us h.1 k)

  pub over-times_all : (z : ℤ) (ts : List PlainTerm) → AreOver ts → AreOver (times_all z ts)
  over-times_all z [] h = tt
  over-times_all z (t ∷ ts) h = (h.0, over-times_all z ts h.1)
