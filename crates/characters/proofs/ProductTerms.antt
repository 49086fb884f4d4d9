-- The products of a sum, one by one.
use Rattle.std.proofs.Common.{◌≡◌, ℕ, ◌+◌, ◌*◌, ◌<◌, ◌≤◌, ℤ, unsigned_abs, List, [], ◌∷◌, ◌++◌, map, drop, length, get_or, refl, sym, ap, ◌∙◌, subst, arith, ◌⊎◌, inl, inr, Result, Ok, Err}
use Rattle.std.specs.Prelude.{IfErr, OnOk}
use Rattle.std.proofs.lemmas.Int.{unsigned_abs-mul}
use Rattle.std.proofs.lemmas.List.{map-append}
use Rattle.exact_sums.specs.Saturating.{overflow}
use Rattle.signed_sums.specs.Signed.{product_of, size_of, size_of_product}
use Rattle.plain_trees.specs.Plain.{Plain}
use Rattle.tree_pool.specs.Content.{Content, tree_at, trees_of}
use Rattle.tree_pool.specs.declared.TreeId.{TreeId}
use Rattle.pooled_cuttings.proofs.Rows.{all_append, row_step, cut_at}
use Rattle.character_tables.specs.Rows.{Row}
use Rattle.characters.specs.declared.asked.Asked.{Asked}
use Rattle.character_tables.specs.declared.CharacterError.{CharacterError}
use Rattle.character_tables.specs.declared.CharacterError.TheVariants.{CoefficientTooLarge, Memory}
use Rattle.character_tables.specs.declared.CharacterPart.TheVariants.{Sum}
use Rattle.characters.specs.Asked.{AreKnownTerms, IsNotGiven, asked_in, factors, answer, answers, terms_over}
use Rattle.characters.proofs.Summed.{size_over}
use Rattle.characters.specs.Sums.{value_of}

-- values
pub values_step : (c : Content) (rs : List Row) (ids : List TreeId) (i : ℕ) (id : TreeId) (old new whole : List ℤ) → i < length ids → id ≡ get_or ids i id →
    new ≡ old ++ value_of rs (tree_at c id.0) ∷ [] → old ++ map (value_of rs) (trees_of c (drop i ids)) ≡ whole → new ++ map (value_of rs) (trees_of c (drop (i + 1) ids)) ≡ whole
values_step c rs =
    row_step (λ (ids : List TreeId). map (value_of rs) (trees_of c ids)) (λ (id : TreeId). value_of rs (tree_at c id.0) ∷ []) (λ id ids. refl)

-- the size of a product is the product of the sizes
pub product_size : (zs : List ℤ) → unsigned_abs (product_of zs) ≡ size_of_product zs
product_size [] = refl
product_size (z ∷ zs) = unsigned_abs-mul z (product_of zs) ∙ ap (λ (n : ℕ). unsigned_abs z * n) (product_size zs)

size_append : {K : Type 0} (xs ys : List (K × ℤ)) → size_of (xs ++ ys) ≡ size_of xs + size_of ys
size_append [] ys = omega arith
size_append (x ∷ xs) ys = omega (arith, size_append xs ys)

-- terms
module _ (c : Content) (gs hs : List Row) (asks : List Asked) (i : ℕ) (a : Asked) (terms : List (TreeId × ℤ)) (whole : List (Plain × ℤ))
    (within : i < length asks) (at : a ≡ get_or asks i a) (so_far : terms_over c terms ++ answers gs hs (map (asked_in c) (drop i asks)) ≡ whole) where
  split : terms_over c terms ++ (answer gs hs (asked_in c a) ∷ answers gs hs (map (asked_in c) (drop (i + 1) asks))) ≡ whole
  split = ap (λ (bs : List Asked). terms_over c terms ++ answers gs hs (map (asked_in c) bs)) (sym (cut_at asks i a within at)) ∙ so_far

  -- one that is too large
  pub term_too_large : overflow ≤ size_of_product (factors gs hs (asked_in c a)) → overflow ≤ size_of whole
  term_too_large h =
      let rest = answers gs hs (map (asked_in c) (drop (i + 1) asks)) in
      let one = answer gs hs (asked_in c a) in
      let all : size_of whole ≡ size_of (terms_over c terms) + (unsigned_abs one.1 + size_of rest) = ap size_of (sym split) ∙ size_append (terms_over c terms) (one ∷ rest) in
      omega (arith, all, product_size (factors gs hs (asked_in c a)), h)

-- one term more
pub term_pushed : (c : Content) (gs hs : List Row) (a : Asked) (terms new : List (TreeId × ℤ)) (z : ℤ) → z ≡ product_of (factors gs hs (asked_in c a)) → new ≡ terms ++ (
  a.key,
  z,
) ∷ [] →
    terms_over c new ≡ terms_over c terms ++ answer gs hs (asked_in c a) ∷ []
term_pushed c gs hs a terms new z e p =
    ap (terms_over c) p ∙ map-append (λ (t : TreeId × ℤ). (tree_at c t.0.0, t.1)) terms ((a.key, z) ∷ [])
    ∙ ap (λ (y : ℤ). terms_over c terms ++ (tree_at c a.key.0, y) ∷ []) e

pub term_step : (c : Content) (gs hs : List Row) (asks : List Asked) (i : ℕ) (a : Asked) (old new whole : List (Plain × ℤ)) →
    i < length asks → a ≡ get_or asks i a →
    new ≡ old ++ answer gs hs (asked_in c a) ∷ [] → old ++ answers gs hs (map (asked_in c) (drop i asks)) ≡ whole → new ++ answers gs hs (map (asked_in c) (drop (i + 1) asks)) ≡
    whole
term_step c gs hs = row_step (λ (asks : List Asked). answers gs hs (map (asked_in c) asks)) (λ (a : Asked). answer gs hs (asked_in c a) ∷ []) (λ a asks. refl)

-- what the sizes say of the trees
pub size_is : (c : Content) (terms : List (TreeId × ℤ)) (ps : List (Plain × ℤ)) → terms_over c terms ≡ ps → size_of ps ≡ size_of terms
size_is c terms ps are = sym (ap (λ (qs : List (Plain × ℤ)). size_of qs) are) ∙ size_over c terms

module _ {T : Type 0} (c : Content) (terms : List (TreeId × ℤ)) (ps : List (Plain × ℤ)) (ms : List Plain) (are : terms_over c terms ≡ ps) (none : ms ≡ []) where
  pub in_range_now : (r : Result T CharacterError) → OnOk r (size_of terms < overflow) → OnOk r (size_of ps < overflow)
  in_range_now (Ok t) h = omega (arith, size_is c terms ps are, h)
  in_range_now (Err e) h = h

  pub past_range : (r : Result T CharacterError) →
      IfErr r (λ e. (e ≡ CoefficientTooLarge Sum) × (overflow ≤ size_of terms)) →
      IfErr r (IsNotGiven c ms (size_of ps))
  past_range (Ok t) h = h
  past_range (Err e) h = subst (λ (f : CharacterError). IsNotGiven c ms (size_of ps) f) (sym h.0) (none, omega (arith, size_is c terms ps are, h.1))

-- why a product is refused
pub not_given : (c : Content) (ms : List Plain) (most : ℕ) (e : CharacterError) → ms ≡ [] →
    (e ≡ Memory) ⊎ ((e ≡ CoefficientTooLarge Sum) × (overflow ≤ most)) → IsNotGiven c ms
    most e
not_given c ms most e none (inl m) = subst (λ (f : CharacterError). IsNotGiven c ms most f) (sym m) tt
not_given c ms most e none (inr t) = subst (λ (f : CharacterError). IsNotGiven c ms most f) (sym t.0) (none, t.1)

pub terms_known : (c : Content) (terms new : List (TreeId × ℤ)) (key : TreeId) (z : ℤ) →
    new ≡ terms ++ (key, z) ∷ [] → key.0 < length c.trees → AreKnownTerms c terms →
    AreKnownTerms c new
terms_known c terms new key z e k h = rw e (all_append (λ (t : TreeId × ℤ). t.0.0 < length c.trees) terms ((key, z) ∷ []) h (k, tt))
