-- Rows that are audited, one after the other.
use Rattle.std.proofs.Common.{◌≡◌, ◌<◌, ◌+◌, ℕ, zero, suc, Bool, true, false, List, [], ◌∷◌, ◌++◌, map, take, length, get_or, Option, Some, None, Result, Ok, Err, IfOk, MatchOption, refl, sym, ap, subst, ◌∙◌, arith, length-append, unsigned_abs}
use Rattle.std.specs.List.{AllZip}
use Rattle.std.proofs.lemmas.List.{map_more, length-map, get_or-map, get_or_default}
use Rattle.std.proofs.lemmas.Option.{slice_get_within}
use Rattle.limits.specs.declared.TheConstants.{MOST_LISTED_DECORATIONS}
use Rattle.exact_sums.specs.Saturating.{overflow}
use Rattle.degree_numbers.specs.declared.types.Types.{Types}
use Rattle.plain_trees.specs.Plain.{Plain, IsSmall}
use Rattle.plain_trees.specs.Canon.{canon}
use Rattle.plain_trees.specs.Degree.{HasTypes}
use Rattle.plain_trees.specs.Coproducts.{extraction_terms}
use Rattle.plain_trees.specs.Reading.{IsTreeOf}
use Rattle.plain_trees.proofs.CanonLaws.{canon_fixed}
use Rattle.tree_pool.specs.Content.{Content, Holds, IsGrown, tree_at}
use Rattle.tree_pool.specs.declared.TreeId.{TreeId}
use Rattle.tree_pool.proofs.Growth.{grown_at}
use Rattle.tree_pool.proofs.Walks.{at_holds}
use Rattle.cutting_sizes.specs.Bounds.{IsFit}
use Rattle.symbol_polys.specs.declared.poly.Poly.{Poly}
use Rattle.symbol_polys.specs.View.{terms_of}
use Rattle.antipode_laws.specs.Weighed.{Weighed}
use Rattle.antipode_laws.specs.Antipode.{are_in_range, nothing}
use Rattle.antipode_laws.specs.Constants.{expected, IsConstants}
use Rattle.antipode_laws.proofs.Solutions.{solution, is_solution}
use Rattle.twisted_antipode.specs.declared.AntipodeError.{AntipodeError}
use Rattle.twisted_antipode.specs.declared.AntipodeError.TheVariants as antipodes
use Rattle.twisted_antipode.specs.declared.Quantity.TheVariants as parts
use Rattle.twisted_antipode.specs.Held.{Held, held_over, IsExtended, IsConstantRefused}
use Rattle.twisted_antipode.specs.Values.{IsPolyOf}
use Rattle.twisted_antipode.proofs.HeldLaws.{value_before, refused_before}
use Rattle.tree_values.proofs.Ranges.{large_mass}
use Rattle.counterterm_report.specs.Stored.{value_text}
use Rattle.counterterm_report.specs.Values.{IsValue}
use Rattle.result_keeper.specs.declared.parts.StoredRow.{StoredRow}
use Rattle.result_keeper.specs.Entries.{pair_of}
use Rattle.stored_constants.specs.declared.audit.AuditCause.{AuditCause}
use Rattle.stored_constants.specs.declared.audit.AuditCause.TheVariants as causes
use Rattle.stored_constants.specs.declared.error.AuditError.{AuditError}
use Rattle.stored_constants.specs.Sound.{IsTrueFor, IsFalseFor, IsTrueRow}
use Rattle.stored_constants.specs.Audits.{IsTreeAt, IsCauseOf, IsOtherText}
use Rattle.stored_constants.proofs.ConstantTexts.{constant_text}
use Rattle.stored_constants.proofs.ReadLaws.{Row}

-- trees in the pool
pub tree_fits : (ty : Types) (text : List ℕ) (t : Plain) → IsTreeOf ty MOST_LISTED_DECORATIONS text t → IsFit t
tree_fits ty text t h = record { edges = h.edges; decorations = h.decorations }

pub tree_small : (ty : Types) (text : List ℕ) (t : Plain) → IsTreeOf ty MOST_LISTED_DECORATIONS text t → IsSmall t
tree_small ty text t h = record { edges = h.edges; decorations = omega (arith, h.decorations) }

pub tree_there : (c : Content) (ty : Types) (row : Row) (id : TreeId) (t : Plain) → c.types ≡ ty →
    IsTreeOf ty MOST_LISTED_DECORATIONS row.0 t → Holds c id.0 (canon t) → IsTreeAt c row id
tree_there c ty row id t types is holds =
    let same : tree_at c id.0 ≡ t = at_holds c id.0 (canon t) holds ∙ canon_fixed t is.canonical in
    record {
      known = slice_get_within c.trees id.0 (canon t) holds;
      tree = subst (λ (u : Types). IsTreeOf u MOST_LISTED_DECORATIONS row.0 (tree_at c id.0)) (sym types) (subst (λ (s : Plain). IsTreeOf ty MOST_LISTED_DECORATIONS row.0 s) (sym same) is);
    }

pub there_still : (c d : Content) (row : Row) (id : TreeId) → IsGrown c d → IsTreeAt c row id → IsTreeAt d row id
there_still c d row id g h = record {
  known = (let more = ap (λ (ts : List Plain). length ts) g.trees.1 ∙ length-append c.trees g.trees.0 in let here = h.known in omega (arith, more, here));
  tree = subst (λ (u : Types). IsTreeOf u MOST_LISTED_DECORATIONS row.0 (tree_at d id.0)) (sym g.types)
      (subst (λ (s : Plain). IsTreeOf c.types MOST_LISTED_DECORATIONS row.0 s) (sym (grown_at c d id.0 g h.known)) h.tree);
}

pub all_still : (c d : Content) (rows : List Row) (ids : List TreeId) → IsGrown c d → AllZip (IsTreeAt c) rows ids → AllZip (IsTreeAt d) rows ids
all_still c d [] [] g h = tt
all_still c d [] (id ∷ ids) g h = absurd h
all_still c d (row ∷ rows) [] g h = absurd h
all_still c d (row ∷ rows) (id ∷ ids) g h = (there_still c d row id g h.0, all_still c d rows ids g h.1)

zip_push : (c : Content) (rows : List Row) (ids : List TreeId) (row : Row) (id : TreeId) →
    AllZip (IsTreeAt c) rows ids → IsTreeAt c row id →
    AllZip (IsTreeAt c) (rows ++ row ∷ []) (ids ++ id ∷ [])
zip_push c [] [] row id h one = (one, tt)
zip_push c [] (j ∷ ids) row id h one = absurd h
zip_push c (r ∷ rows) [] row id h one = absurd h
zip_push c (r ∷ rows) (j ∷ ids) row id h one = (h.0, zip_push c rows ids row id h.1 one)

pub zip_at : (c : Content) (rows : List Row) (ids : List TreeId) (i : ℕ) (row : Row) (id : TreeId) →
    AllZip (IsTreeAt c) rows ids → i < length rows →
    IsTreeAt c (get_or rows i row) (get_or ids i id)
zip_at c [] ids i row id h below = absurd (omega (arith, below))
zip_at c (r ∷ rows) [] i row id h below = absurd h
zip_at c (r ∷ rows) (j ∷ ids) zero row id h below = h.0
zip_at c (r ∷ rows) (j ∷ ids) (suc i) row id h below = zip_at c rows ids i row id h.1 (omega (arith, below))

pub zip_length : (c : Content) (rows : List Row) (ids : List TreeId) → AllZip (IsTreeAt c) rows ids → length rows ≡ length ids
zip_length c [] [] h = refl
zip_length c [] (id ∷ ids) h = absurd h
zip_length c (row ∷ rows) [] h = absurd h
zip_length c (row ∷ rows) (id ∷ ids) h = ap suc (zip_length c rows ids h.1)

-- the answer for one tree
module _ (c : Content) (hs : List Held) (t : Plain) (typed : HasTypes c.types t) (extended : IsExtended c [] hs) where
  abbrev constants : Plain → Weighed
  constants = solution c.types (expected c.types) nothing

  are_constants : IsConstants c.types nothing constants
  are_constants = is_solution c.types (expected c.types) nothing

  true_for : (p : Poly) →
      ((k : Plain → Weighed) → IsConstants c.types (held_over c hs) k → IsPolyOf (k t) p) →
      unsigned_abs p.mass < overflow → IsValue c.types p.mass (terms_of p.terms) →
      IsTrueFor c.types t (value_text c.types p.mass (terms_of p.terms))
  true_for p value range stored =
      let is : IsPolyOf (constants t) p = value_before c [] hs t p extended typed value constants are_constants in
      let mass : unsigned_abs p.mass ≡ (constants t).mass = ap unsigned_abs is.mass in
      let small : (constants t).mass < overflow = omega (arith, range, mass) in
      record {
        coefficients = in_range (are_in_range (extraction_terms c.types t)) refl small;
        constants = constants;
        are_constants = are_constants;
        mass = small;
        text = constant_text c.types (constants t) p is stored small;
      }
    where
      in_range : (b : Bool) → are_in_range (extraction_terms c.types t) ≡ b → (constants t).mass < overflow → b ≡ true
      in_range true e small = refl
      in_range false e small = let large = large_mass c.types nothing constants t are_constants typed refl e in absurd (omega (arith, large, small))

  pub judged : (p : Poly) (value : List ℕ) (r : Result (Option AuditCause) AuditError) →
      ((k : Plain → Weighed) → IsConstants c.types (held_over c hs) k → IsPolyOf (k t) p) →
      unsigned_abs p.mass < overflow → IsValue c.types p.mass (terms_of p.terms) →
      IfOk r (λ o. MatchOption o (value ≡ value_text c.types p.mass (terms_of p.terms)) (IsOtherText value (value_text c.types p.mass (terms_of p.terms)))) →
      IfOk r (λ o. MatchOption o (IsTrueFor c.types t value) (IsFalseFor c.types t value))
  judged p value (Err e) says range stored h = h
  judged p value (Ok None) says range stored h = subst (IsTrueFor c.types t) (sym h) (true_for p says range stored)
  judged p value (Ok (Some causes.Extraction)) says range stored h = absurd h
  judged p value (Ok (Some causes.Constant)) says range stored h = absurd h
  judged p value (Ok (Some (causes.Differs computed))) says range stored h =
      (subst (IsTrueFor c.types t) (sym h.0) (true_for p says range stored), λ e. h.1 (e ∙ h.0))

  caused : (e : AntipodeError) (value : List ℕ) (o : Option AuditCause) →
      IsConstantRefused c.types nothing t e → IsCauseOf e o →
      MatchOption o (IsTrueFor c.types t value) (IsFalseFor c.types t value)
  caused antipodes.Memory value o h is = absurd is
  caused (antipodes.CoefficientTooLarge parts.Extraction) value o h is = subst (λ (x : Option AuditCause). MatchOption x (IsTrueFor c.types t value) (IsFalseFor c.types t value)) (sym is) h.1
  caused (antipodes.CoefficientTooLarge parts.Antipode) value o h is = absurd h
  caused (antipodes.CoefficientTooLarge parts.Constant) value o h is =
      subst (λ (x : Option AuditCause). MatchOption x (IsTrueFor c.types t value) (IsFalseFor c.types t value)) (sym is) (h.1, (constants, are_constants, h.2 constants are_constants))

  pub not_computed : (e : AntipodeError) (value : List ℕ) (r : Result (Option AuditCause) AuditError) →
      IsConstantRefused c.types (held_over c hs) t e → IfOk r (IsCauseOf e) →
      IfOk r (λ o. MatchOption o (IsTrueFor c.types t value) (IsFalseFor c.types t value))
  not_computed e value (Ok o) h is = caused e value o (refused_before c [] hs t e extended typed h) is
  not_computed e value (Err f) h is = is

-- the tree of each row
pub ids_length : (c : Content) (rows : List StoredRow) (ids : List TreeId) → AllZip (IsTreeAt c) (map pair_of rows) ids → length ids ≡ length rows
ids_length c rows ids h = sym (zip_length c (map pair_of rows) ids h) ∙ length-map rows pair_of

pub tree_of : (c : Content) (rows : List StoredRow) (ids : List TreeId) (i : ℕ) (row : StoredRow) (id : TreeId) →
    AllZip (IsTreeAt c) (map pair_of rows) ids → i < length rows → row ≡ get_or rows i row →
    id ≡ get_or ids i id →
    IsTreeAt c (pair_of row) id
tree_of c rows ids i row id h below is named =
    let many : length (map pair_of rows) ≡ length rows = length-map rows pair_of in
    let at : get_or (map pair_of rows) i (pair_of row) ≡ pair_of row = get_or-map pair_of rows i row (pair_of row) below ∙ ap pair_of (sym is) in
    subst (λ (r : Row). IsTreeAt c r id) at (subst (λ (j : TreeId). IsTreeAt c (get_or (map pair_of rows) i (pair_of row)) j) (sym named) (zip_at c (map pair_of rows) ids i (pair_of row) id h (omega (arith, below, many))))

pub row_is_true : (ty : Types) (row : Row) (t : Plain) → IsTreeOf ty MOST_LISTED_DECORATIONS row.0 t → IsTrueFor ty t row.1 → IsTrueRow ty row
row_is_true ty row t text is_true = record { tree = t; text = text; is_true = is_true }

-- one tree more
pub trees_next : (c d : Content) (rows : List StoredRow) (i : ℕ) (row : StoredRow) (ids next : List TreeId) (id : TreeId) →
    IsGrown c d → i < length rows → row ≡ get_or rows i row →
    AllZip (IsTreeAt c) (map pair_of (take i rows)) ids → IsTreeAt d (pair_of row) id → next ≡ ids ++ id ∷ [] → AllZip (IsTreeAt d) (map pair_of (take (i + 1) rows)) next
trees_next c d rows i row ids next id g below is before one put =
    subst (λ (js : List TreeId). AllZip (IsTreeAt d) (map pair_of (take (i + 1) rows)) js) (sym put)
    (subst (λ (rs : List Row). AllZip (IsTreeAt d) rs (ids ++ id ∷ [])) (sym (map_more pair_of rows i row below ∙ ap (λ (r : StoredRow). map pair_of (take i rows) ++ pair_of r ∷ []) (sym is)))
    (zip_push d (map pair_of (take i rows)) ids (pair_of row) id (all_still c d (map pair_of (take i rows)) ids g before) one))

-- the answer, over the pool of the start
pub at_start : (c d : Content) (row : Row) (id : TreeId) (value : List ℕ) (o p : Option AuditCause) → IsGrown c d → IsTreeAt c row id → value ≡ row.1 → o ≡ p →
    MatchOption o (IsTrueFor d.types (tree_at d id.0) value) (IsFalseFor d.types (tree_at d id.0) value) → MatchOption p (IsTrueFor c.types (tree_at c id.0) row.1) (IsFalseFor c.types (tree_at c id.0) row.1)
at_start c d row id value o p g there is same h =
    subst (λ (x : Option AuditCause). MatchOption x (IsTrueFor c.types (tree_at c id.0) row.1) (IsFalseFor c.types (tree_at c id.0) row.1)) same
    (subst (λ (v : List ℕ). MatchOption o (IsTrueFor c.types (tree_at c id.0) v) (IsFalseFor c.types (tree_at c id.0) v)) is
    (subst (λ (t : Plain). MatchOption o (IsTrueFor c.types t value) (IsFalseFor c.types t value)) (grown_at c d id.0 g there.known)
    (subst (λ (ty : Types). MatchOption o (IsTrueFor ty (tree_at d id.0) value) (IsFalseFor ty (tree_at d id.0) value)) g.types h)))

abbrev pub blank : TreeId
blank = record { 0 = 0 }

pub there_at : (c : Content) (rows : List StoredRow) (ids : List TreeId) (i : ℕ) (row : StoredRow) →
    AllZip (IsTreeAt c) (map pair_of rows) ids → i < length rows → row ≡ get_or rows i row →
    IsTreeAt c (pair_of row) (get_or ids i blank)
there_at c rows ids i row h below is =
    let many = ids_length c rows ids h in
    let bound : i < length ids = omega (arith, below, many) in
    tree_of c rows ids i row (get_or ids i blank) h below is (get_or_default ids i blank (get_or ids i blank) bound)
