use Rattle.std.proofs.Common.{◌≡◌, ◌≤◌, ◌∙◌, ◌++◌, ap, subst, arith, length, List, ℕ}
use Rattle.std.specs.Prelude.{OnOk}
use Rattle.std.proofs.lemmas.Bool.Decides.{nat_tests}
use Rattle.cutting_tables.specs.Keys.{Opened}
use Rattle.pooled_cuttings.specs.Lines.{opened_terms_in}
use Rattle.pooled_cuttings.proofs.Loops.{outside_rows, over_rows}
use Rattle.pooled_cuttings.proofs.Lookups.{unions_grown}
use Rattle.pooled_cuttings.proofs.MadeKeys.{plus_fits}
use Rattle.pooled_cuttings.proofs.Means.{open_lines_grown, extract_lines_grown, open_terms_grown}
use Rattle.pooled_cuttings.proofs.Raised.{first_fits, nothing_outside, over_fits, over_rows_raised}
use Rattle.pooled_cuttings.proofs.outside.push_outside_shift.Goals as goal

pub returns-then-is_empty-clause-terms : goal.returns-then-is_empty-clause-terms
returns-then-is_empty-clause-terms c =
    let none : length c.args.xs.now ≡ 0 = grind (arith, nat_tests, c.is_empty.ensures, c.if-is_empty.true) in
    nothing_outside c.args.grove.now c.args.step.now c.args.s.now.entries c.args.xs.now c.args.ys.now _ none

pub raised_lines-requires-clause-fits : goal.raised_lines-requires-clause-fits
raised_lines-requires-clause-fits c =
    let some : 1 ≤ length c.args.xs.now = grind (arith, nat_tests, c.is_empty.ensures, c.if-is_empty.false) in
    first_fits c.args.grove.now c.args.step.now c.args.s.now.entries c.args.xs.now c.args.ys.now some c.requires.fits

pub plus-p-requires : goal.plus-p-requires
plus-p-requires c = λ k lt. plus_fits c.args.step.now.p.entries c.args.s.now.entries c.requires.step.small c.requires.shift k

pub push_outside_rows-requires-clause-xs : goal.push_outside_rows-requires-clause-xs
push_outside_rows-requires-clause-xs c =
    extract_lines_grown c.args.grove.now c.raised_lines.new.grove c.args.xs.now c.in_ok-raised.ensures.grown c.requires.xs

pub push_outside_rows-requires-clause-ys : goal.push_outside_rows-requires-clause-ys
push_outside_rows-requires-clause-ys c = rw c.as_slice.ensures.value c.in_ok-raised.ensures.lines

pub push_outside_rows-requires-clause-lines : goal.push_outside_rows-requires-clause-lines
push_outside_rows-requires-clause-lines c =
    open_lines_grown c.args.grove.now c.raised_lines.new.grove c.args.lines.now.items c.in_ok-raised.ensures.grown c.requires.lines

pub push_outside_rows-requires-clause-made : goal.push_outside_rows-requires-clause-made
push_outside_rows-requires-clause-made c =
    record {
      grafts = rw c.clear.ensures tt;
      unions = unions_grown c.args.grove.now c.raised_lines.new.grove c.args.made.now.unions c.laws.ensures c.in_ok-raised.ensures.grown c.requires.made;
    }

pub push_outside_rows-requires-clause-fits : goal.push_outside_rows-requires-clause-fits
push_outside_rows-requires-clause-fits c =
    let h = c.raised_lines.new.grove in
    over_fits c.args.grove.now h c.laws.ensures c.in_ok-raised.ensures.grown c.args.step.now c.args.s.now.entries c.plus-p.result.entries c.plus-p.ensures c.args.ys.now c.as_slice.result.now
    (ap (opened_terms_in h) c.as_slice.ensures.value ∙ c.in_ok-raised.ensures.terms) c.args.xs.now c.requires.xs c.requires.fits

pub returns-clause-terms : goal.returns-clause-terms
returns-clause-terms c =
    let g = c.args.grove.now in
    let h = c.raised_lines.new.grove in
    let e = c.args.step.now in
    let s = c.args.s.now.entries in
    let xs = c.args.xs.now in
    let ys = c.args.ys.now in
    let raised = c.as_slice.result.now in
    let ls = c.args.lines.now.items in
    let made = ap (opened_terms_in h) c.as_slice.ensures.value ∙ c.in_ok-raised.ensures.terms in
    let products = over_rows_raised g h c.laws.ensures c.in_ok-raised.ensures.grown e s c.plus-p.result.entries c.plus-p.ensures ys raised made xs c.requires.xs in
    let same = ap (λ (ts : List (Opened × ℕ)). ts ++ over_rows h e.kind.0 c.plus-p.result.entries raised xs) (open_terms_grown g h ls c.laws.ensures c.in_ok-raised.ensures.grown c.requires.lines)
    ∙ ap (λ (ts : List (Opened × ℕ)). opened_terms_in g ls ++ ts) products in
    subst (λ (ts : List (Opened × ℕ)). OnOk c.push_outside_rows.result (opened_terms_in c.push_outside_rows.new.grove c.push_outside_rows.new.lines.items ≡ ts)) same
    c.push_outside_rows.ensures.terms
