-- The report of a completed rule over rows.
use Rattle.std.proofs.Common.{◌≡◌, ◌⊎◌, inl, inr, ◌≤◌, ◌+◌, ℕ, suc, Bool, true, false, cond, List, [], ◌∷◌, map, length, Option, Result, Ok, Err, IfOk, refl, sym, ap, ◌∙◌, subst, arith}
use Rattle.std.specs.Prelude.{filter, is_some}
use Rattle.std.proofs.lemmas.List.{length-map}
use Rattle.result_keeper.specs.Entries.{pair_of}
use Rattle.limits.specs.declared.TheConstants.{MOST_LISTED_TREES}
use Rattle.equations.specs.declared.equation.Equation.{Equation}
use Rattle.counterterm_report.specs.declared.TreeValues.{TreeValues}
use Rattle.tree_values.specs.Values.{AreValuesOf}
use Rattle.degree_numbers.specs.declared.types.Types.{Types}
use Rattle.plain_trees.specs.Plain.{Plain}
use Rattle.plain_trees.specs.Text.{tree_text}
use Rattle.tree_pool.specs.Content.{tree_at, trees_of}
use Rattle.antipode_laws.specs.Weighed.{Weighed}
use Rattle.twisted_antipode.specs.Held.{Held, held_over}
use Rattle.stored_constants.specs.Rows.{AreHeldRows, AreNewRows, IsFirstNoValue}
use Rattle.workbench_core.specs.declared.completed.Completed.{Completed}
use Rattle.workbench_core.specs.declared.compute.Reported.{Reported}
use Rattle.workbench_core.specs.declared.refusal.Refusal.{Refusal}
use Rattle.workbench_core.specs.declared.refusal.Refusal.TheVariants.{StoredRow, Memory}
use Rattle.workbench_core.specs.Completed.{CompletedRule, completed_rule, HasFacts}
use Rattle.workbench_core.specs.Compute.{held_among, unheld_among, computing, HasValues, GivesValues, IsReport}
use Rattle.workbench_core.specs.declared.compute.Computed.{Computed}
use Rattle.workbench_core.proofs.ComputeLemmas.{few_trees}
use Rattle.workbench_store.specs.declared.report.NewReport.{NewReport}
use Rattle.workbench_store.specs.Computing.{Stored, IsForRows}
use Rattle.workbench_store.specs.NewReports.{stored}

-- what rows hold for the trees of a pool is what they hold for those of the rule
module _ (c : Completed) (types : c.pool.types ≡ c.eq.types) (rows : List (List ℕ × List ℕ)) (context : List ℕ) where
  pub held_for : (hs : List Held) →
      AreHeldRows c.pool.types rows (trees_of c.pool c.trees) (held_over c.pool hs) →
      AreHeldRows c.eq.types rows (completed_rule c).trees (held_over c.pool hs)
  held_for hs h = subst (λ (ty : Types). AreHeldRows ty rows (trees_of c.pool c.trees) (held_over c.pool hs)) types h

  pub unread_row : (e : Refusal) →
      (e ≡ Memory) ⊎ ((t : Plain) × IsFirstNoValue c.pool.types rows (trees_of c.pool c.trees) t × (e ≡ StoredRow context (tree_text c.pool.types t))) →
      (e ≡ Memory) ⊎ IsForRows rows context (completed_rule c) (Err e)
  unread_row e (inl memory) = inl memory
  unread_row e (inr h) = inr (inl (record {
    tree = h.0;
    first = subst (λ (ty : Types). IsFirstNoValue ty rows (trees_of c.pool c.trees) h.0) types h.1;
    answer = ap Err (h.2 ∙ ap (λ (ty : Types). StoredRow context (tree_text ty h.0)) types);
  }))

-- a report over what rows hold
module _ (c : CompletedRule) (rows : List (List ℕ × List ℕ)) (context : List ℕ) (held : Plain → Option Weighed) (are : AreHeldRows c.eq.types rows c.trees held) where
  pub values_past : (e : Refusal) → (e ≡ Memory) ⊎ GivesValues held c (Err e) → (e ≡ Memory) ⊎ IsForRows rows context c (Err e)
  values_past e (inl memory) = inl memory
  values_past e (inr h) = inr (inr (record { held = held; are_held = are; writes = h }))

  pub report_made : (r : Reported) (s : Stored) → GivesValues held c (Ok r) → s.context ≡ context
      → ((k : Plain → Weighed) → HasValues c held k r.values → IsReport c held k s.computing)
      → ((k : Plain → Weighed) → HasValues c held k r.values → AreNewRows c.eq.types rows k c.trees s.rows) → IsForRows rows context c (Ok s)
  report_made r s h same report new = inr (record {
    held = held;
    are_held = are;
    writes = (same, (h.1.0, h.1.1, (report h.1.0 h.1.2, new h.1.0 h.1.2)));
  })

-- how many trees there are
pub few_listed : (done : Completed) → HasFacts done → length done.trees ≤ MOST_LISTED_TREES
few_listed done facts =
    let few = few_trees done.eq done.rule facts.fit (trees_of done.pool done.trees) facts.few facts.whole in
    let same = length-map done.trees (λ id. tree_at done.pool id.0) in
    omega (arith, few, same)

count_values : (eq : Equation) (held : Plain → Option Weighed) (k : Plain → Weighed) (ts : List Plain) (vs : List TreeValues) →
    AreValuesOf eq held k ts vs → length vs ≡ length ts
count_values eq held k [] [] h = refl
count_values eq held k [] (v ∷ vs) h = absurd h
count_values eq held k (t ∷ ts) [] h = absurd h
count_values eq held k (t ∷ ts) (v ∷ vs) h = ap suc (count_values eq held k ts vs h.2)

some_of : {X : Type 0} (p : X → Bool) (xs : List X) → length (filter p xs) ≤ length xs
some_of p [] = omega arith
some_of p (x ∷ xs) = let rest = some_of p xs in elim (p x) as (λ b. length (cond b (x ∷ filter p xs) (filter p xs)) ≤ length (x ∷ xs)) [ true ↦ omega (arith, rest) | false ↦ omega (arith, rest) ]

pub reused_at_most : (c : CompletedRule) (held : Plain → Option Weighed) (r : Reported) (reused : ℕ) →
    GivesValues held c (Ok r) → reused ≡ length (held_among held c.trees) →
    reused ≤ length r.values.trees
reused_at_most c held r reused h is =
    let count = count_values c.eq held h.1.0 c.trees r.values.trees h.1.2.trees in
    let most = some_of (λ t. is_some (held t)) c.trees in
    omega (arith, count, most, is)

pub work_of_new : (c : CompletedRule) (held : Plain → Option Weighed) (r : Reported) (g : Computed) (before after : ℕ) →
    GivesValues held c (Ok r) →
    ((k : Plain → Weighed) → HasValues c held k r.values → IsReport c held k (computing g))
    → after ≤ before + length (unheld_among held c.trees) → after ≤ before + g.computed
work_of_new c held r g before after h report most =
    let computed = (report h.1.0 h.1.2).computed in
    omega (arith, computed, most)

-- what the program says of a report with its rows
abbrev pub MakesReport : Reported → ℕ → NewReport → Type 0
MakesReport r reused n = (c : CompletedRule) (held : Plain → Option Weighed) (k : Plain → Weighed) → r.eq ≡ c.eq → HasValues c held k r.values → reused ≡ length (held_among held c.trees) → IsReport c held k (computing n.computed)

abbrev pub MakesRows : Reported → List (List ℕ × List ℕ) → NewReport → Type 0
MakesRows r rows n = (eq : Equation) (held : Plain → Option Weighed) (k : Plain → Weighed) (ts : List Plain) → eq.types ≡ r.eq.types → AreHeldRows r.eq.types rows ts held → AreValuesOf eq held k ts r.values.trees
    → AreNewRows r.eq.types rows k ts (map pair_of n.rows.items)

module _ (c : CompletedRule) (rows : List (List ℕ × List ℕ)) (context : List ℕ) (held : Plain → Option Weighed) (are : AreHeldRows c.eq.types rows c.trees held) (r : Reported) (reused : ℕ)
    (gives : GivesValues held c (Ok r)) (is : reused ≡ length (held_among held c.trees)) where
  new_rows_made : (n : NewReport) → MakesRows r rows n → (k : Plain → Weighed) →
      HasValues c held k r.values → AreNewRows c.eq.types rows k c.trees (map pair_of n.rows.items)
  new_rows_made n makes k values =
      subst (λ (eq : Equation). AreNewRows eq.types rows k c.trees (map pair_of n.rows.items)) gives.0
      (makes c.eq held k c.trees (ap (λ (eq : Equation). eq.types) (sym gives.0)) (subst (λ (eq : Equation). AreHeldRows eq.types rows c.trees held) (sym gives.0) are) values.trees)

  pub reported_by : (result : Result NewReport Refusal) → IfOk result (MakesReport r reused) →
      IfOk result (MakesRows r rows) →
      IfOk result (λ n. IsForRows rows context c (Ok (stored context n)))
  reported_by (Ok n) report new = report_made c rows context held are r (stored context n) gives refl (λ k values. report c held k gives.0 values is) (new_rows_made n new)
  reported_by (Err e) report new = report

  pub worked_by : (result : Result NewReport Refusal) (before after : ℕ) →
      IfOk result (MakesReport r reused) → after ≤ before + length (unheld_among held c.trees) →
      IfOk result (λ n. after ≤ before + n.computed.computed)
  worked_by (Ok n) before after report most = work_of_new c held r n.computed before after gives (λ k values. report c held k gives.0 values is) most
  worked_by (Err e) before after report most = report
