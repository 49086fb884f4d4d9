-- A row is true over types in other units.
use Rattle.std.proofs.Common.{◌≡◌, ℕ, unsigned_abs, not, List, [], ◌∷◌, filter, if◌then◌else◌, None, sym, ap, ◌∙◌}
use Rattle.std.specs.List.{AllZip}
use Rattle.std.specs.Ordering.{is_eq}
use Rattle.limits.specs.declared.TheConstants.{MOST_LISTED_DECORATIONS}
use Rattle.exact_sums.specs.Saturating.{overflow}
use Rattle.degree_numbers.specs.declared.types.TypeEntry.{TypeEntry}
use Rattle.degree_numbers.specs.declared.types.Types.{Types}
use Rattle.degree_numbers.specs.Types.{AreTypes}
use Rattle.plain_trees.specs.Plain.{Plain}
use Rattle.plain_trees.specs.Canon.{canon}
use Rattle.plain_trees.specs.Coproducts.{Extracted, extracted_order}
use Rattle.plain_trees.specs.Degree.{empty_tree, is_empty_tree}
use Rattle.symbol_polys.specs.Polynomials.{PlainTerm}
use Rattle.symbol_polys.specs.Symbols.{expectation}
use Rattle.antipode_laws.specs.Weighed.{Weighed, one, unit, symbol_term, negated_sum, mass_sum}
use Rattle.antipode_laws.specs.Antipode.{are_in_range, value_at, nothing}
use Rattle.antipode_laws.specs.Constants.{expected, IsConstants}
use Rattle.type_contexts.specs.Same.{IsSameEntry, AreSameTypes}
use Rattle.type_contexts.proofs.SameNumbers.{same_sym}
use Rattle.stored_constants.specs.Sound.{IsTrueFor, IsTrueRow}
use Rattle.row_laws.proofs.SameDegrees.{terms_same}
use Rattle.row_laws.proofs.SameTexts.{typed, tree_of}
use Rattle.row_laws.proofs.SameValueTexts.{constant_text_same}
use Rattle.row_laws.proofs.SameVanishing.{vanishing_same}

-- the other way round
entry_back : (d e : ℕ) (x y : TypeEntry) → IsSameEntry d e x y → IsSameEntry e d y x
entry_back d e x y h = record {
  name = sym h.name;
  kind = sym h.kind;
  group = sym h.group;
  moments = sym h.moments;
  a = same_sym x.degree.a d y.degree.a e h.a;
  b = same_sym x.degree.b d y.degree.b e h.b;
}

entries_back : (d e : ℕ) (xs ys : List TypeEntry) → AllZip (IsSameEntry d e) xs ys →
    AllZip (IsSameEntry e d) ys xs
entries_back d e [] [] h = tt
entries_back d e [] (y ∷ ys) h = absurd h
entries_back d e (x ∷ xs) [] h = absurd h
entries_back d e (x ∷ xs) (y ∷ ys) h = (entry_back d e x y h.0, entries_back d e xs ys h.1)

pub same_back : (s t : Types) → AreSameTypes s t → AreSameTypes t s
same_back s t h = record {
  dims = sym h.dims;
  scaling = sym h.scaling;
  list = entries_back (unsigned_abs s.units.den) (unsigned_abs t.units.den) s.list t.list h.list;
  groups = sym h.groups;
  reflect = sym h.reflect;
}

module _ (s t : Types) (s_types : AreTypes s) (t_types : AreTypes t) (same : AreSameTypes s t) where
  expected_same : (q : Plain) → expected s q ≡ expected t q
  expected_same q = λ i. if vanishing_same s t same q i then [] else
      if is_empty_tree q then one else symbol_term (expectation q)

  -- the right side of the recursion, by the terms and the values of quotients
  abbrev from_terms : (Plain → List PlainTerm) → List (Extracted × ℕ) → (Plain → Weighed) →
      Plain → Weighed
  from_terms of_quotient xs a u =
      let others = filter (λ x. not (is_eq (extracted_order x.0 (canon u ∷ [], empty_tree)))) xs in
      record {
        terms = negated_sum of_quotient a others;
        mass = if are_in_range xs then mass_sum of_quotient a others else overflow;
      }

  recursion_same : (a : Plain → Weighed) (u : Plain) →
      value_at s (expected s) None a u ≡ value_at t (expected t) None a u
  recursion_same a u = λ i. if is_empty_tree u then unit else
      from_terms (λ q. expected_same q i) (terms_same s t s_types t_types same u i) a u

  constants_same : (a : Plain → Weighed) → IsConstants s nothing a → IsConstants t nothing a
  constants_same a h u u_typed =
      h u (typed t s (same_back s t same) u u_typed) ∙ recursion_same a u

  true_for : (u : Plain) (value : List ℕ) → IsTrueFor s u value → IsTrueFor t u value
  true_for u value h = record {
    coefficients = ap are_in_range (sym (terms_same s t s_types t_types same u)) ∙ h.coefficients;
    constants = h.constants;
    are_constants = constants_same h.constants h.are_constants;
    mass = h.mass;
    text = constant_text_same s t same (h.constants u) value h.text;
  }

  pub true_row : (row : List ℕ × List ℕ) → IsTrueRow s row → IsTrueRow t row
  true_row row h = record {
    tree = h.tree;
    text = tree_of s t same MOST_LISTED_DECORATIONS row.0 h.tree h.text;
    is_true = true_for h.tree row.1 h.is_true;
  }
