use Rattle.std.proofs.Common.{List, Ok, refl, subst, sym}
use Rattle.std.specs.List.{All}
use Rattle.std.proofs.lemmas.Result.{err_from_is_err_and}
use Rattle.degree_numbers.specs.declared.types.Types.{Types}
use Rattle.symbol_polys.specs.View.{terms_of}
use Rattle.counterterm_report.specs.declared.TreeValues.{TreeValues}
use Rattle.counterterm_report.specs.Values.{IsValue, IsTreeValues}
use Rattle.equations.specs.Accepted.{IsEquation}
use Rattle.equations.specs.declared.equation.Equation.{Equation}
use Rattle.twisted_antipode.specs.Held.{held_over}
use Rattle.workbench_core.proofs.ComputeLemmas.{known_in, bounded_in, closed_in, held_in, values_in_done, refused_in_done, work_on, few_values, gives_values, can_be_printed}
use Rattle.workbench_core.proofs.compute.report_over.Goals as goal

pub values_over-requires-clause-known : goal.values_over-requires-clause-known
values_over-requires-clause-known c = known_in c.args.completed c.args.completed.eq c.in_ok-tables.tables.pool c.as_slice.result.now refl c.in_ok-tables.ensures.pool c.as_slice.ensures c.requires.facts

pub values_over-requires-clause-bounded : goal.values_over-requires-clause-bounded
values_over-requires-clause-bounded c = bounded_in c.args.completed c.args.completed.eq c.in_ok-tables.tables.pool c.as_slice.result.now refl c.in_ok-tables.ensures.pool c.as_slice.ensures c.requires.facts

pub values_over-requires-clause-closed : goal.values_over-requires-clause-closed
values_over-requires-clause-closed c = closed_in c.args.completed c.args.completed.eq c.in_ok-tables.tables.pool c.as_slice.result.now refl c.in_ok-tables.ensures.pool c.as_slice.ensures c.requires.facts

pub values_over-requires-clause-held : goal.values_over-requires-clause-held
values_over-requires-clause-held c = held_in c.args.completed c.args.completed.eq c.in_ok-tables.tables.pool c.as_slice.result.now refl c.in_ok-tables.ensures.pool c.as_slice.ensures c.args.constants.now c.requires.held

pub returns-in_err-values-clause-refused : goal.returns-in_err-values-clause-refused
returns-in_err-values-clause-refused c =
    let p = err_from_is_err_and c.from_residual-in_err-values.result c.from_residual-in_err-values.ensures.1 in
    rw (p.1, p.2) (refused_in_done c.args.completed c.args.completed.eq c.in_ok-tables.tables.pool c.as_slice.result.now refl c.in_ok-tables.ensures.pool c.as_slice.ensures c.args.constants.now _ c.in_err-values.ensures.refused)

pub returns-clause-values : goal.returns-clause-values
returns-clause-values c =
    gives_values c.args.completed (held_over c.args.completed.pool c.args.constants.now) c.with_values.result c.with_values.ensures.equation c.with_values.ensures.base c.with_values.ensures.completed
    (values_in_done c.args.completed c.args.completed.eq c.in_ok-tables.tables.pool c.as_slice.result.now refl c.in_ok-tables.ensures.pool c.as_slice.ensures c.args.constants.now c.in_ok-values.values c.with_values.result.values.trees c.with_values.ensures.trees c.in_ok-values.ensures.values)

pub returns-clause-printed : goal.returns-clause-printed
returns-clause-printed c =
    can_be_printed c.args.completed c.with_values.result c.requires.facts c.with_values.ensures.equation c.with_values.ensures.base c.with_values.ensures.completed
    (subst (λ (vs : List TreeValues). All (IsTreeValues c.args.completed.eq) vs) (sym c.with_values.ensures.trees) c.in_ok-values.ensures.printed)

pub returns-clause-stored : goal.returns-clause-stored
returns-clause-stored c =
    subst (λ (x : Equation). All (λ v. IsValue x.types v.constant.mass (terms_of v.constant.terms)) c.with_values.result.values.trees) (sym c.with_values.ensures.equation)
    (subst (λ (vs : List TreeValues). All (λ v. IsValue c.args.completed.eq.types v.constant.mass (terms_of v.constant.terms)) vs) (sym c.with_values.ensures.trees) c.in_ok-values.ensures.stored)

pub returns-clause-few : goal.returns-clause-few
returns-clause-few c = few_values c.args.completed (held_over c.args.completed.pool c.args.constants.now) c.with_values.result c.requires.facts (returns-clause-values c)

pub returns-clause-work : goal.returns-clause-work
returns-clause-work c =
    work_on c.args.completed c.args.completed.eq c.in_ok-tables.tables.pool c.as_slice.result.now refl c.in_ok-tables.ensures.pool c.as_slice.ensures c.args.constants.now c.args.work.now.tables c.values_over.new.work.tables c.in_ok-values.ensures.work

pub returns-clause-equation : goal.returns-clause-equation
returns-clause-equation c = subst IsEquation (sym c.with_values.ensures.equation) c.requires.facts.equation
