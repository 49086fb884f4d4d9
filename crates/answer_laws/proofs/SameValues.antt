-- Values of trees that no text tells apart: the same tree, numbers and polynomials.
use Rattle.std.proofs.Common.{◌≡◌, ◌+◌, ℕ, suc, List, [], ◌∷◌, length, inl, inr, refl, sym, ap, ◌∙◌, subst}
use Rattle.std.specs.Prelude.{⊤}
use Rattle.std.specs.List.{sum_by}
use Rattle.std.proofs.lemmas.List.Sums.{sum_by-cons}
use Rattle.ordered_lists.specs.Members.{IsIn}
use Rattle.equations.specs.declared.equation.Equation.{Equation}
use Rattle.equations.specs.declared.equation.Unknown.{Unknown}
use Rattle.plain_trees.specs.Plain.{Plain}
use Rattle.plain_trees.specs.View.{plain}
use Rattle.symbol_polys.specs.declared.poly.Poly.{Poly}
use Rattle.symbol_polys.specs.declared.poly.Term.{Term}
use Rattle.symbol_polys.specs.Polynomials.{PlainTerm, HaveSameCoefficients}
use Rattle.symbol_polys.specs.View.{terms_of, IsPoly}
use Rattle.symbol_polys.proofs.LinearLaws.{determined}
use Rattle.antipode_laws.specs.Weighed.{Weighed}
use Rattle.antipode_laws.specs.Antipode.{nothing}
use Rattle.counterterm_report.specs.declared.values.DiffValue.{DiffValue}
use Rattle.counterterm_report.specs.declared.values.TreeValues.{TreeValues}
use Rattle.counterterm_report.specs.Report.{has_no_terms, is_zero}
use Rattle.tree_values.specs.Values.{AreDifferentialsOf, IsValuesOf, AreValuesOf}

abbrev pub AreAlike : List DiffValue → List DiffValue → Type 0
AreAlike [] [] = ⊤
AreAlike [] (e ∷ es) = ⊥
AreAlike (d ∷ ds) [] = ⊥
AreAlike (d ∷ ds) (e ∷ es) = (terms_of d.poly.terms ≡ terms_of e.poly.terms) × (d.denominator ≡ e.denominator) × AreAlike ds es

pub record IsAlike (v w : TreeValues) : Type 0 where
  pub tree : plain v.tree ≡ plain w.tree
  pub degree : v.degree ≡ w.degree
  pub symmetry : v.symmetry ≡ w.symmetry
  pub constant : terms_of v.constant.terms ≡ terms_of w.constant.terms
  pub differentials : AreAlike v.differentials w.differentials

abbrev pub AllAlike : List TreeValues → List TreeValues → Type 0
AllAlike [] [] = ⊤
AllAlike [] (w ∷ ws) = ⊥
AllAlike (v ∷ vs) [] = ⊥
AllAlike (v ∷ vs) (w ∷ ws) = IsAlike v w × AllAlike vs ws

-- a polynomial is determined by its coefficients
poly_one : (p q : Poly) (us : List PlainTerm) → IsPoly p → IsPoly q →
    HaveSameCoefficients (terms_of p.terms) us → HaveSameCoefficients (terms_of q.terms) us →
    terms_of p.terms ≡ terms_of q.terms
poly_one p q us h k a b = determined (terms_of p.terms) (terms_of q.terms) h.ascending k.ascending h.not_zero k.not_zero (λ m. a m ∙ sym (b m))

module _ (eq : Equation) where
  differentials_alike : (t : Plain) (us : List Unknown) (ds es : List DiffValue) →
      AreDifferentialsOf eq t us ds → AreDifferentialsOf eq t us es → AreAlike ds es
  differentials_alike t [] [] [] h k = tt
  differentials_alike t [] [] (e ∷ es) h k = absurd k
  differentials_alike t [] (d ∷ ds) es h k = absurd h
  differentials_alike t (u ∷ us) [] es h k = absurd h
  differentials_alike t (u ∷ us) (d ∷ ds) [] h k = absurd k
  differentials_alike t (u ∷ us) (d ∷ ds) (e ∷ es) h k =
      (poly_one d.poly e.poly _ h.0.polynomial k.0.polynomial h.0.coefficients k.0.coefficients, h.0.denominator ∙ sym k.0.denominator, differentials_alike t us ds es h.1 k.1)

  values_alike : (a b : Plain → Weighed) (t : Plain) (v w : TreeValues) → a t ≡ b t → IsValuesOf eq a t v → IsValuesOf eq b t w → IsAlike v w
  values_alike a b t v w same h k = record {
    tree = h.tree ∙ sym k.tree;
    degree = h.degree ∙ sym k.degree;
    symmetry = h.symmetry ∙ sym k.symmetry;
    constant = poly_one v.constant w.constant (b t).terms h.polynomial k.polynomial (subst (λ (x : Weighed). HaveSameCoefficients (terms_of v.constant.terms) x.terms) same h.constant.coefficients)
        k.constant.coefficients;
    differentials = differentials_alike t eq.unknowns v.differentials w.differentials h.differentials k.differentials;
  }

  pub all_alike : (a b : Plain → Weighed) (ts : List Plain) (vs ws : List TreeValues) →
      ((t : Plain) → IsIn t ts → a t ≡ b t) → AreValuesOf eq nothing a ts vs →
      AreValuesOf eq nothing b ts ws → AllAlike vs ws
  all_alike a b [] [] [] same h k = tt
  all_alike a b [] [] (w ∷ ws) same h k = absurd k
  all_alike a b [] (v ∷ vs) ws same h k = absurd h
  all_alike a b (t ∷ ts) [] ws same h k = absurd h
  all_alike a b (t ∷ ts) (v ∷ vs) [] same h k = absurd k
  all_alike a b (t ∷ ts) (v ∷ vs) (w ∷ ws) same h k = (values_alike a b t v w (same t (inl refl)) h.1 k.1, all_alike a b ts vs ws (λ u i. same u (inr i)) h.2 k.2)

-- which polynomials are 0
pub zero_one : (p q : Poly) → terms_of p.terms ≡ terms_of q.terms → is_zero p ≡ is_zero q
zero_one p q same = empty_one p.terms q.terms same
  where
    empty_one : (ts us : List Term) → terms_of ts ≡ terms_of us → has_no_terms ts ≡ has_no_terms us
    empty_one [] [] h = refl
    empty_one [] (u ∷ us) h = absurd cc
    empty_one (t ∷ ts) [] h = absurd cc
    empty_one (t ∷ ts) (u ∷ us) h = refl

-- how many there are
pub length_one : (vs ws : List TreeValues) → AllAlike vs ws → length vs ≡ length ws
length_one [] [] h = refl
length_one [] (w ∷ ws) h = absurd h
length_one (v ∷ vs) [] h = absurd h
length_one (v ∷ vs) (w ∷ ws) h = ap (λ (n : ℕ). suc n) (length_one vs ws h.1)

pub summed_one : (f : TreeValues → ℕ) → ((v w : TreeValues) → IsAlike v w → f v ≡ f w) → (vs ws : List TreeValues) → AllAlike vs ws → sum_by f vs ≡ sum_by f ws
summed_one f same [] [] h = refl
summed_one f same [] (w ∷ ws) h = absurd h
summed_one f same (v ∷ vs) [] h = absurd h
summed_one f same (v ∷ vs) (w ∷ ws) h =
    sum_by-cons f v vs ∙ ap (λ (n : ℕ). n + sum_by f vs) (same v w h.0) ∙ ap (λ (n : ℕ). f w + n) (summed_one f same vs ws h.1) ∙ sym (sum_by-cons f w ws)

pub differing_one : (f : DiffValue → ℕ) →
    ((d e : DiffValue) → terms_of d.poly.terms ≡ terms_of e.poly.terms → f d ≡ f e) →
    (ds es : List DiffValue) → AreAlike ds es → sum_by f ds ≡ sum_by f es
differing_one f same [] [] h = refl
differing_one f same [] (e ∷ es) h = absurd h
differing_one f same (d ∷ ds) [] h = absurd h
differing_one f same (d ∷ ds) (e ∷ es) h =
    sum_by-cons f d ds ∙ ap (λ (n : ℕ). n + sum_by f ds) (same d e h.0) ∙ ap (λ (n : ℕ). f e + n) (differing_one f same ds es h.2) ∙ sym (sum_by-cons f e es)
