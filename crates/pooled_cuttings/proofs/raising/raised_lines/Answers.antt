use Rattle.std.proofs.Common.{◌≡◌, ◌∙◌, ◌++◌, ap, List, ℕ}
use Rattle.pooled_cuttings.specs.declared.keys.OpenKey.{OpenKey}
use Rattle.pooled_cuttings.specs.Lines.{opened_terms_in}
use Rattle.pooled_cuttings.proofs.Loops.{raised_row}
use Rattle.pooled_cuttings.proofs.raising.raised_lines.Goals as goal

pub returns-clause-terms : goal.returns-clause-terms
returns-clause-terms c =
    let g = c.args.grove.now in
    c.in_ok-push_all_raised.ensures.terms
    ∙ ap (λ (ls : List (OpenKey × ℕ)). opened_terms_in g ls ++ raised_row g c.args.step.now c.args.s.now.entries c.args.ys.now) c.new-lines.ensures.items
