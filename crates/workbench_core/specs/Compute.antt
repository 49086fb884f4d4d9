-- What `compute` answers for a file, where the constants of some trees are held: `held` gives the
-- value that is held for a tree, which need not be the constant of the tree.
-- What contracts of public calls say:
--   HasValues c held k vs == vs are the rules of c, and the values of its listed trees with the
--       constants k over the values `held`, all of them in range
--   ForConstants ty held holds == something holds with the constants over the values `held`
--   of_tree ty t q == the refusal that names the tree t and its quantity q
--   IsPastIn eq held ts k e == e names the first of the trees ts with a quantity that is out of
--       range, and its first one; a tree that is held is not asked for coefficients and constant
--   GivesValues held c r == r is the equation and these values, or that refusal
--   Computing == a report, and the numbers of values that are reused and computed
--   computing c == these three of what the program makes
--   held_among held ts, unheld_among held ts == those of the trees ts that are held, and the others
--   IsReport c held k g == g is the text of these values, with the numbers of the listed trees that
--       are held and of the others
--   WritesReport held c r == r is that report, or that refusal
--   IsComputed file r == r is that for the completed rule of the file, where nothing is held, or
--       why there is no such rule
-- Working notions of the code and of proofs:
--   of_values pool e == the refusal e of values, in texts
use Rattle.std.specs.Prelude.{◌≡◌, ℕ, List, filter, length, Option, is_some, is_none, Result, Ok, Err}
use Rattle.degree_numbers.specs.declared.types.Types.{Types}
use Rattle.equations.specs.declared.equation.Equation.{Equation}
use Rattle.plain_trees.specs.Plain.{Plain}
use Rattle.plain_trees.specs.Text.{tree_text}
use Rattle.tree_pool.specs.Content.{Content, tree_at}
use Rattle.antipode_laws.specs.Weighed.{Weighed}
use Rattle.antipode_laws.specs.Antipode.{nothing}
use Rattle.antipode_laws.specs.Constants.{IsConstants}
use Rattle.counterterm_report.specs.declared.values.ReportValues.{ReportValues}
use Rattle.counterterm_report.specs.Report.{IsReportText}
use Rattle.tree_values.specs.declared.quantity.Quantity.{Quantity}
use Rattle.tree_values.specs.declared.error.ValuesError.{ValuesError}
use Rattle.tree_values.specs.declared.error.ValuesError.TheVariants.{TooLarge}
use Rattle.tree_values.specs.declared.error.ValuesError.TheVariants as too_large
use Rattle.tree_values.specs.Quantities.{quantity_text}
use Rattle.tree_values.specs.Ranges.{IsFirstRefused}
use Rattle.tree_values.specs.Values.{AreValuesOf}
use Rattle.workbench_core.specs.declared.compute.Computed.{Computed}
use Rattle.workbench_core.specs.declared.compute.Reported.{Reported}
use Rattle.workbench_core.specs.declared.refusal.Refusal.{Refusal}
use Rattle.workbench_core.specs.declared.refusal.Refusal.TheVariants.{CoefficientTooLarge, Memory}
use Rattle.workbench_core.specs.Completed.{CompletedRule, IsForCompleted}

pub record HasValues (c : CompletedRule) (held : Plain → Option Weighed) (k : Plain → Weighed)
    (vs : ReportValues) : Type 0 where
  pub base : vs.base ≡ c.base
  pub completed : vs.completed ≡ c.rule
  pub trees : AreValuesOf c.eq held k c.trees vs.trees

abbrev pub of_tree : Types → Plain → Quantity → Refusal
of_tree ty t q = CoefficientTooLarge (tree_text ty t) (quantity_text ty q)

abbrev pub of_values : Content → ValuesError → Refusal
of_values pool (TooLarge tree q) = of_tree pool.types (tree_at pool tree.0) q
of_values pool too_large.Memory = Memory

pub record IsPastIn (eq : Equation) (held : Plain → Option Weighed) (ts : List Plain)
    (k : Plain → Weighed) (e : Refusal) : Type 0 where
  pub tree : Plain
  pub quantity : Quantity
  pub first : IsFirstRefused eq held k ts tree quantity
  pub is : e ≡ of_tree eq.types tree quantity

abbrev pub ForConstants : Types → (Plain → Option Weighed) → ((Plain → Weighed) → Type 0) → Type 0
ForConstants ty held holds = (k : Plain → Weighed) × IsConstants ty held k × holds k

abbrev pub GivesValues : (Plain → Option Weighed) → CompletedRule → Result Reported Refusal → Type 0
GivesValues held c (Ok r) = (r.eq ≡ c.eq)
    × ForConstants c.eq.types held (λ k. HasValues c held k r.values)
GivesValues held c (Err e) = ForConstants c.eq.types held (λ k. IsPastIn c.eq held c.trees k e)

pub record Computing : Type 0 where
  pub report : List ℕ
  pub reused : ℕ
  pub computed : ℕ

abbrev pub computing : Computed → Computing
computing c = record { report = c.report.items; reused = c.reused; computed = c.computed }

abbrev pub held_among : (Plain → Option Weighed) → List Plain → List Plain
held_among held ts = filter (λ t. is_some (held t)) ts

abbrev pub unheld_among : (Plain → Option Weighed) → List Plain → List Plain
unheld_among held ts = filter (λ t. is_none (held t)) ts

pub record IsReport (c : CompletedRule) (held : Plain → Option Weighed) (k : Plain → Weighed)
    (g : Computing) : Type 0 where
  pub values : ReportValues
  pub has_values : HasValues c held k values
  pub text : IsReportText c.eq values g.report
  pub reused : g.reused ≡ length (held_among held c.trees)
  pub computed : g.computed ≡ length (unheld_among held c.trees)

abbrev pub WritesReport : (Plain → Option Weighed) → CompletedRule → Result Computing Refusal →
    Type 0
WritesReport held c (Ok g) = ForConstants c.eq.types held (λ k. IsReport c held k g)
WritesReport held c (Err e) = ForConstants c.eq.types held (λ k. IsPastIn c.eq held c.trees k e)

abbrev pub IsComputed : List ℕ → Result Computing Refusal → Type 0
IsComputed file r = IsForCompleted (WritesReport nothing) file r
