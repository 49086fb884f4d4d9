-- What `audit` answers on sound tables.
use Rattle.std.proofs.Common.{◌≡◌, ◌≢◌, ◌<◌, ◌≤◌, inl, inr, ℕ, zero, suc, pos, true, false, List, [], ◌∷◌, ◌++◌, map, Option, Some, None, Result, Ok, Err, refl, sym, ap, subst, ◌∙◌, arith}
use Rattle.std.specs.Prelude.{slice_get}
use Rattle.std.specs.List.{AllByRecursion}
use Rattle.limits.specs.declared.TheConstants.{MOST_LISTED_DECORATIONS}
use Rattle.exact_sums.specs.Saturating.{overflow}
use Rattle.degree_numbers.specs.declared.types.Types.{Types}
use Rattle.degree_numbers.specs.Types.{AreTypes}
use Rattle.plain_trees.specs.Plain.{Plain}
use Rattle.plain_trees.specs.Degree.{HasTypes}
use Rattle.plain_trees.proofs.Readings as readings
use Rattle.symbol_polys.specs.Polynomials.{HaveSameCoefficients}
use Rattle.symbol_polys.proofs.LinearLaws.{determined}
use Rattle.antipode_laws.specs.Weighed.{Weighed}
use Rattle.antipode_laws.specs.Antipode.{nothing}
use Rattle.antipode_laws.specs.Constants.{expected}
use Rattle.antipode_laws.proofs.Solutions.{unique}
use Rattle.counterterm_report.specs.Stored.{value_text}
use Rattle.type_contexts.specs.Context.{IsContextText}
use Rattle.result_keeper.specs.Kept.{Kept, contexts_of, results_of}
use Rattle.stored_constants.specs.declared.audit.AuditCause.{AuditCause}
use Rattle.stored_constants.specs.declared.audit.AuditCause.TheVariants.{Extraction, Constant, Differs}
use Rattle.stored_constants.specs.Sound.{IsReadRow, IsTrueFor, IsTrueRow, IsFalseFor, IsFalseRow}
use Rattle.workbench_core.specs.declared.refusal.Refusal.{Refusal}
use Rattle.workbench_store.specs.Audit.{Page, pages_of, row_count, IsUnreadAt, IsFalsePage, audit_text, AuditsPages, Audits}
use Rattle.store_laws.proofs.SoundRows.{AreSound, IsContext, contexts_known, results_true}

-- two texts that are true for one tree are one
module _ (ty : Types) (t : Plain) (typed : HasTypes ty t) where
  constants_one : (v w : List ℕ) (h : IsTrueFor ty t v) (g : IsTrueFor ty t w) →
      h.constants t ≡ g.constants t
  constants_one v w h g = unique ty (expected ty) nothing h.constants g.constants h.are_constants
      g.are_constants t typed

  text_one : (v w : List ℕ) → IsTrueFor ty t v → IsTrueFor ty t w → v ≡ w
  text_one v w h g =
      let x = h.text.0 in
      let y = g.text.0 in
      let both = constants_one v w h g in
      let mass : x.mass ≡ y.mass =
      h.text.1.mass ∙ ap (λ (u : Weighed). u.mass) both ∙ sym g.text.1.mass in
      let alike = subst (λ (u : Weighed). HaveSameCoefficients x.terms u.terms) both
      h.text.1.coefficients in
      let p = h.text.2.is_value.polynomial in
      let q = g.text.2.is_value.polynomial in
      let terms : x.terms ≡ y.terms = determined x.terms y.terms p.ascending q.ascending p.not_zero
      q.not_zero (λ m. alike m ∙ sym (g.text.1.coefficients m)) in
      sym h.text.2.text ∙ (λ i. value_text ty (pos (mass i)) (terms i)) ∙ g.text.2.text

  not_false_for : (v : List ℕ) (cause : AuditCause) → IsTrueFor ty t v →
      IsFalseFor ty t v cause → ⊥
  not_false_for v Extraction h is =
      let both : true ≡ false = sym h.coefficients ∙ is in cc
  not_false_for v Constant h is =
      let k = is.1.0 in
      let one : k t ≡ h.constants t =
      unique ty (expected ty) nothing k h.constants is.1.1 h.are_constants t typed in
      let past : overflow ≤ (h.constants t).mass =
      subst (λ (u : Weighed). overflow ≤ u.mass) one is.1.2 in
      let within = h.mass in
      omega (arith, past, within)
  not_false_for v (Differs computed) h is = is.1 (text_one v computed.items h is.0)

not_false : (ty : Types) (row : List ℕ × List ℕ) (cause : AuditCause) → AreTypes ty →
    IsTrueRow ty row → IsFalseRow ty row cause → ⊥
not_false ty row cause types h is =
    let one = readings.unique ty types MOST_LISTED_DECORATIONS (omega arith) row.0 is.tree h.tree is.text h.text in
    not_false_for ty h.tree h.text.types row.1 cause h.is_true
    (subst (λ (t : Plain). IsFalseFor ty t row.1 cause) one is.is_false)

read_from_true : (ty : Types) (row : List ℕ × List ℕ) → IsTrueRow ty row → IsReadRow ty row
read_from_true ty row h = record {
  tree = h.tree;
  text = h.text;
  weighed = h.is_true.text.0;
  value = h.is_true.text.2;
}

all_at : (P : List ℕ × List ℕ → Type 0) (rows : List (List ℕ × List ℕ)) (i : ℕ)
    (row : List ℕ × List ℕ) → AllByRecursion P rows → slice_get rows i ≡ Some row → P row
all_at P [] i row all at = absurd cc
all_at P (r ∷ rows) zero row all at = (let same : r ≡ row = cc in subst P same all.0)
all_at P (r ∷ rows) (suc i) row all at = all_at P rows i row all.1 at

page_at : (P : Page → Type 0) (front rest : List Page) (p : Page) →
    AllByRecursion P (front ++ p ∷ rest) → P p
page_at P [] rest p all = all.0
page_at P (q ∷ front) rest p all = page_at P front rest p all.1

module _ (k : Kept) (sound : AreSound k.rows) where
  abbrev IsPageOf : Page → Type 0
  IsPageOf p = (p.1 ≡ results_of k p.0) × IsContext p.0

  pages_by : (cs : List (List ℕ)) → AllByRecursion IsContext cs →
      AllByRecursion IsPageOf (map (λ c. (c, results_of k c)) cs)
  pages_by [] all = tt
  pages_by (c ∷ cs) all = ((refl, all.0), pages_by cs all.1)

  pages : AllByRecursion IsPageOf (pages_of k)
  pages = pages_by (contexts_of k) (contexts_known k sound)

  rows_true : (p : Page) (ty : Types) → IsPageOf p → AreTypes ty → IsContextText ty p.0 →
      AllByRecursion (IsTrueRow ty) p.1
  rows_true p ty is types text = subst (AllByRecursion (IsTrueRow ty)) (sym is.0)
      (results_true ty k p.0 types text sound)

  never_unread : (p : Page) (place : ℕ) → IsPageOf p → IsUnreadAt p place → ⊥
  never_unread p place is (inl h) = h.0 is.1.0 is.1.1 is.1.2
  never_unread p place is (inr h) =
      let first = h.3 in
      first.unread (read_from_true h.0 first.row (all_at (IsTrueRow h.0) p.1 place first.row
      (rows_true p h.0 is h.1 h.2) first.at))

  never_false : (p : Page) (e : Refusal) → IsPageOf p → IsFalsePage p e → ⊥
  never_false p e is h = not_false h.types h.first.row h.cause h.are_types
      (all_at (IsTrueRow h.types) p.1 h.place h.first.row
      (rows_true p h.types is h.are_types h.context) h.first.at) h.first.is_false

  page_there : (front rest : List Page) (p : Page) → pages_of k ≡ front ++ p ∷ rest → IsPageOf p
  page_there front rest p parts =
      page_at IsPageOf front rest p (subst (AllByRecursion IsPageOf) parts pages)

  pages_audited : (r : Result (List ℕ) Refusal) → AuditsPages (pages_of k) r →
      r ≡ Ok (audit_text (row_count (pages_of k)))
  pages_audited r (inl h) = absurd (never_unread h.page h.there.1.place
      (page_there h.front h.rest h.page h.parts) h.there.1.unread)
  pages_audited r (inr (inl h)) = absurd (never_false h.1.page h.1.there.0
      (page_there h.1.front h.1.rest h.1.page h.1.parts) h.1.there.1)
  pages_audited r (inr (inr h)) = h.1

  pub audited_true : (r : Result (List ℕ) Refusal) (next : Kept) → k.version ≢ 1 →
      Audits k r next → r ≡ Ok (audit_text (row_count (pages_of k)))
  audited_true r next version (next_is, inl old) = absurd (version old.0)
  audited_true r next version (next_is, inr h) = pages_audited r h.1
