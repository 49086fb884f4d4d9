use Rattle.std.proofs.Common.{◌≡◌, true, false, is_some, map, length, rules, tests, refl, sym, ap, ◌∙◌}
use Rattle.std.specs.FinMap.{contains_key, len}
use Rattle.std.proofs.lemmas.List.{length-map}
use Rattle.result_keeper.specs.Kept.{bytes_cmp}
use Rattle.result_keeper.specs.Entries.{project_entry, projects_of}
use Rattle.result_keeper.proofs.Orders.{bytes_total, bytes_exact}
use Rattle.result_keeper.proofs.Maps.{len-from_entries}
use Rattle.result_keeper.proofs.PlaceLemmas.{is_some-place}
use Rattle.result_keeper.proofs.projects.answer_of.Goals as goal

pub returns-then-is_some : goal.returns-then-is_some
returns-then-is_some c =
    let xs = c.args.projects.now in
    let kept : contains_key (projects_of xs) c.args.name.now ≡ true = sym (is_some-place bytes_cmp bytes_total bytes_exact c.args.name.now (map project_entry xs)) ∙ ap is_some (sym c.place_of_project.ensures.place) ∙ sym c.is_some.ensures ∙ c.if-is_some.true in
    rw kept refl

pub returns-then-projects-ge-MOST_PROJECTS : goal.returns-then-projects-ge-MOST_PROJECTS
returns-then-projects-ge-MOST_PROJECTS c =
    let xs = c.args.projects.now in
    let new : contains_key (projects_of xs) c.args.name.now ≡ false = sym (is_some-place bytes_cmp bytes_total bytes_exact c.args.name.now (map project_entry xs)) ∙ ap is_some (sym c.place_of_project.ensures.place) ∙ sym c.is_some.ensures ∙ c.if-is_some.false in
    let count : len (projects_of xs) ≡ length xs = len-from_entries bytes_cmp bytes_total (map project_entry xs) c.requires ∙ length-map xs project_entry in
    rw (new, count) (search (rules, tests))

pub returns-else-projects-ge-MOST_PROJECTS : goal.returns-else-projects-ge-MOST_PROJECTS
returns-else-projects-ge-MOST_PROJECTS c =
    let xs = c.args.projects.now in
    let new : contains_key (projects_of xs) c.args.name.now ≡ false = sym (is_some-place bytes_cmp bytes_total bytes_exact c.args.name.now (map project_entry xs)) ∙ ap is_some (sym c.place_of_project.ensures.place) ∙ sym c.is_some.ensures ∙ c.if-is_some.false in
    let count : len (projects_of xs) ≡ length xs = len-from_entries bytes_cmp bytes_total (map project_entry xs) c.requires ∙ length-map xs project_entry in
    rw (new, count) (search (rules, tests))
