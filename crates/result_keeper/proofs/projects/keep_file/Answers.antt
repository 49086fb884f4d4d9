use Rattle.std.proofs.Common.{map, sym, ap, subst, ◌∙◌}
use Rattle.std.specs.FinMap.{insert}
use Rattle.result_keeper.specs.declared.parts.KeptProject.{KeptProject}
use Rattle.result_keeper.specs.Kept.{bytes_cmp}
use Rattle.result_keeper.specs.Entries.{AreApart, project_entry, projects_of, place_of, put_at}
use Rattle.result_keeper.proofs.Orders.{bytes_total, bytes_exact}
use Rattle.result_keeper.proofs.PlaceLemmas.{puts, puts_apart}
use Rattle.result_keeper.proofs.projects.keep_file.Goals as goal

pub returns-clause-ok : goal.returns-clause-ok
returns-clause-ok c =
    let xs = c.args.projects.now.items in
    let y : KeptProject = record { name = c.args.name.now; file = c.in_ok-file.file } in
    let place = c.place_of_project-place.ensures.place ∙ ap (λ ps. place_of bytes_cmp c.args.name.now (map project_entry ps)) c.deref.ensures.value in
    ap projects_of (c.in_ok-put_at.ensures.ok ∙ ap (λ p. put_at p y xs) place)
    ∙ puts bytes_cmp bytes_total bytes_exact project_entry xs y
    ∙ ap (insert (projects_of xs) c.args.name.now) c.in_ok-file.ensures.items

pub returns-clause-apart : goal.returns-clause-apart
returns-clause-apart c =
    let xs = c.args.projects.now.items in
    let y : KeptProject = record { name = c.args.name.now; file = c.in_ok-file.file } in
    let place = c.place_of_project-place.ensures.place ∙ ap (λ ps. place_of bytes_cmp c.args.name.now (map project_entry ps)) c.deref.ensures.value in
    subst (λ ps. AreApart bytes_cmp (map project_entry ps)) (sym (c.in_ok-put_at.ensures.ok ∙ ap (λ p. put_at p y xs) place)) (puts_apart bytes_cmp bytes_total bytes_exact project_entry xs y c.requires)
