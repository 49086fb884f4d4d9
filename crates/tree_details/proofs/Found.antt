-- What calls find of a tree, in the pool that they leave.
use Rattle.std.proofs.Common.{◌≡◌, ℕ, ℤ, pos, ◌<◌, List, [], ◌∷◌, map, length, unsigned_abs, refl, sym, ap, ◌∙◌, subst, arith}
use Rattle.std.proofs.lemmas.Int.{ints}
use Rattle.exact_sums.specs.Saturating.{overflow}
use Rattle.degree_numbers.specs.declared.types.Types.{Types}
use Rattle.equations.specs.declared.equation.Equation.{Equation}
use Rattle.plain_trees.specs.Plain.{Plain}
use Rattle.plain_trees.specs.Coproducts.{Recentred}
use Rattle.tree_pool.specs.Content.{Content, IsGrown, tree_at}
use Rattle.tree_pool.proofs.Growth.{grown_length, grown_at}
use Rattle.pooled_cuttings.specs.Groves.{IsGrove}
use Rattle.pooled_cuttings.specs.Lines.{recentred_in}
use Rattle.extraction_coproduct.specs.declared.term.ExtractTerm.{ExtractTerm}
use Rattle.extraction_coproduct.specs.Finished.{TablesContent, grove_of, coproduct_of, IsTerms, AreGrown}
use Rattle.extraction_coproduct.specs.Terms.{AreKnownTerms, AreInRange, terms_in, whole_terms}
use Rattle.extraction_coproduct.proofs.Grown.{coproduct_grown, finished_grown}
use Rattle.recentring_coproduct.specs.declared.term.RightTerm.{RightTerm}
use Rattle.recentring_coproduct.specs.Held as recentring
use Rattle.recentring_coproduct.specs.Terms as lines
use Rattle.recentring_coproduct.proofs.Grown.{fits_grown}
use Rattle.symbol_polys.specs.declared.poly.Poly.{Poly}
use Rattle.symbol_polys.specs.View.{terms_of, IsPoly}
use Rattle.antipode_laws.specs.Weighed.{Weighed}
use Rattle.antipode_laws.specs.Antipode.{nothing, IsAntipode}
use Rattle.antipode_laws.specs.Constants.{IsConstants}
use Rattle.twisted_antipode.specs.Held.{AreOverExpectations}
use Rattle.twisted_antipode.specs.Kinds.{AreTyped, AreOverTrees}
use Rattle.twisted_antipode.specs.Values.{IsPolyOf}
use Rattle.tree_details.specs.Values.{IsPolynomialOf, recentred_pairs}
use Rattle.tree_details.proofs.ValueSymbols.{over_trees, over_expectations}

-- the terms of the coproducts
pub terms_found : (b d : TablesContent) (i : ℕ) (ts : List ExtractTerm) → AreGrown b d →
    i < length b.pool.trees → AreKnownTerms (grove_of d) ts →
    terms_in (grove_of d) ts ≡ whole_terms (coproduct_of b.pool i)
    → AreInRange (coproduct_of b.pool i) → IsTerms (grove_of d) i ts
terms_found b d i ts grown known terms same range =
    let stays : coproduct_of d.pool i ≡ coproduct_of b.pool i = coproduct_grown b.pool d.pool i grown.pool known in
    record {
      tree = omega (arith, grown_length b.pool d.pool grown.pool, known);
      known = terms;
      terms = same ∙ ap whole_terms (sym stays);
      range = rw stays range;
    }

pub terms_stay : (b d : TablesContent) (i : ℕ) (ts : List ExtractTerm) → IsGrove (grove_of b) →
    AreGrown b d → IsTerms (grove_of b) i ts → IsTerms (grove_of d) i ts
terms_stay b d i ts grove grown h = (finished_grown (grove_of b) (grove_of d) grove grown ((i, ts) ∷ []) (h, tt)).0

pub recentred_stay : (c d : Content) (i : ℕ) (ts : List RightTerm) → IsGrown c d → recentring.IsTerms c i ts → recentring.IsTerms d i ts
recentred_stay c d i ts grown h = (fits_grown c d grown ((i, ts) ∷ []) (h, tt)).0

-- a tree stays where it is
pub still_there : (b d : TablesContent) (i : ℕ) → AreGrown b d → i < length b.pool.trees → (i < length d.pool.trees) × (tree_at d.pool i ≡ tree_at b.pool i)
still_there b d i grown known = (omega (arith, grown_length b.pool d.pool grown.pool, known), grown_at b.pool d.pool i grown.pool known)

-- recentring terms, as pairs
abbrev counted : Recentred × ℤ → Recentred × ℕ
counted x = (x.0, unsigned_abs x.1)

back : (xs : List (Recentred × ℕ)) → map counted (lines.whole_terms xs) ≡ xs
back [] = refl
back (x ∷ xs) =
    let same : unsigned_abs (pos x.1) ≡ x.1 = omega (arith, ints) in
    let one : Recentred → ℕ → Recentred × ℕ = λ k n. (k, n) in
    ap (λ (n : ℕ). one x.0 n ∷ map counted (lines.whole_terms xs)) same ∙ ap (λ (ys : List (Recentred × ℕ)). x ∷ ys) (back xs)

counted_in : (c : Content) (ts : List RightTerm) → recentred_pairs c ts ≡ map counted (lines.right_terms_in c ts)
counted_in c [] = refl
counted_in c (e ∷ ts) = ap (λ (ys : List (Recentred × ℕ)). (recentred_in c (lines.key_of e), unsigned_abs e.coefficient) ∷ ys) (counted_in c ts)

pub recentred_pairs_of : (c : Content) (ts : List RightTerm) (xs : List (Recentred × ℕ)) →
    lines.right_terms_in c ts ≡ lines.whole_terms xs → recentred_pairs c ts ≡ xs
recentred_pairs_of c ts xs h = counted_in c ts ∙ ap (map counted) h ∙ back xs

-- the values of a tree
mass_fits : (p : Poly) (n : ℕ) → unsigned_abs p.mass < overflow → p.mass ≡ pos n → n < overflow
mass_fits p n h e = let same : unsigned_abs p.mass ≡ n = ap unsigned_abs e ∙ whole n in omega (arith, h, same)
  where
    whole : (n : ℕ) → unsigned_abs (pos n) ≡ n
    whole n = omega (arith, ints)

module _ (eq : Equation) (c : Content) (t : Plain) (p : Poly) (types : c.types ≡ eq.types) (poly : IsPoly p) (range : unsigned_abs p.mass < overflow) where
  pub antipode_found : AreOverTrees c.types (terms_of p.terms) →
      ((a : Plain → Weighed) → IsAntipode c.types a → IsPolyOf (a t) p) → (a : Plain → Weighed) →
      IsAntipode eq.types a
      → IsPolynomialOf eq (a t).terms p × ((a t).mass < overflow)
  antipode_found trees found a is =
      let value = found a (subst (λ (ty : Types). IsAntipode ty a) (sym types) is) in
      let typed = subst (λ (ty : Types). AreOverTrees ty (terms_of p.terms)) types trees in
      (record { poly = poly; coefficients = value.coefficients; printed = over_trees eq.types eq.parameters (terms_of p.terms) poly.each typed }, mass_fits p (a t).mass range value.mass)

  pub constant_found : AreTyped c.types (terms_of p.terms) →
      AreOverExpectations (terms_of p.terms) →
      ((k : Plain → Weighed) → IsConstants c.types nothing k → IsPolyOf (k t) p)
      → (k : Plain → Weighed) → IsConstants eq.types nothing k → IsPolynomialOf eq (k t).terms p × ((k t).mass < overflow)
  constant_found types_of expected found k is =
      let value = found k (subst (λ (ty : Types). IsConstants ty nothing k) (sym types) is) in
      let typed = subst (λ (ty : Types). AreTyped ty (terms_of p.terms)) types types_of in
      (record { poly = poly; coefficients = value.coefficients; printed = over_expectations eq.types eq.parameters (terms_of p.terms) poly.each typed expected }, mass_fits p (k t).mass range value.mass)
