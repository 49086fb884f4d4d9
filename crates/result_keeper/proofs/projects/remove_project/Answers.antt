use Rattle.std.proofs.Common.{not, is_some, map, rules, sym, ap, subst, ◌∙◌}
use Rattle.std.specs.Ordering.{eq_by_cmp}
use Rattle.std.proofs.lemmas.Fn.{filter_same}
use Rattle.result_keeper.specs.Kept.{bytes_cmp}
use Rattle.result_keeper.specs.Entries.{AreApart, project_entry, projects_of, place_of}
use Rattle.result_keeper.proofs.Orders.{bytes_total, bytes_exact}
use Rattle.result_keeper.proofs.PlaceLemmas.{is_some-place, removes, removes_apart}
use Rattle.result_keeper.proofs.projects.remove_project.Goals as goal

pub returns-clause-kept : goal.returns-clause-kept
returns-clause-kept c =
    c.is_some-kept.ensures
    ∙ ap is_some (c.place_of_project.ensures.place ∙ ap (λ ps. place_of bytes_cmp c.args.name.now (map project_entry ps)) c.deref.ensures.value)
    ∙ is_some-place bytes_cmp bytes_total bytes_exact c.args.name.now (map project_entry c.args.projects.now.items)

pub returns-clause-removed : goal.returns-clause-removed
returns-clause-removed c =
    let xs = c.args.projects.now.items in
    let left = filter_same _ (λ p. not (eq_by_cmp bytes_cmp c.args.name.now p.name)) _ (λ x b g r. search rules) xs c.retain.new.self.items c.retain.ensures.filtered in
    ap projects_of left ∙ removes bytes_cmp bytes_total bytes_exact project_entry c.args.name.now xs

pub returns-clause-apart : goal.returns-clause-apart
returns-clause-apart c =
    let xs = c.args.projects.now.items in
    let left = filter_same _ (λ p. not (eq_by_cmp bytes_cmp c.args.name.now p.name)) _ (λ x b g r. search rules) xs c.retain.new.self.items c.retain.ensures.filtered in
    subst (λ ps. AreApart bytes_cmp (map project_entry ps)) (sym left) (removes_apart bytes_cmp bytes_total bytes_exact project_entry c.args.name.now xs c.requires)
