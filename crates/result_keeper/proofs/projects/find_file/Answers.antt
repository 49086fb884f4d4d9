use Rattle.std.proofs.Common.{Some, map, sym, ap, ◌∙◌}
use Rattle.std.proofs.Math.ListN.{get_or-map}
use Rattle.result_keeper.specs.Kept.{bytes_cmp}
use Rattle.result_keeper.specs.Entries.{project_entry}
use Rattle.result_keeper.proofs.Orders.{bytes_total, bytes_exact}
use Rattle.result_keeper.proofs.PlaceLemmas.{get-place, get-no_place}
use Rattle.result_keeper.proofs.projects.find_file.Goals as goal

pub returns-in_ok-from_slice-in-Some : goal.returns-in_ok-from_slice-in-Some
returns-in_ok-from_slice-in-Some c =
    let xs = c.args.projects.now in
    let i = c.in-Some.place in
    let p = c.index-projects-place.result in
    let found = get-place bytes_cmp bytes_total bytes_exact c.args.name.now (map project_entry xs) i (project_entry p) (sym c.place_of_project.ensures.place ∙ c.in-Some.is) in
    let at = get_or-map project_entry xs i p in
    ap (λ f. Some f) (c.in_ok-from_slice-in-Some.ensures.items ∙ c.deref.ensures.value) ∙ sym (found ∙ ap (λ e. Some e.1) at)

pub returns-in-None : goal.returns-in-None
returns-in-None c = sym (get-no_place bytes_cmp bytes_total bytes_exact c.args.name.now (map project_entry c.args.projects.now) (sym c.place_of_project.ensures.place ∙ c.in-None.is))
