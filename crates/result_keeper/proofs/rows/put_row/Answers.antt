use Rattle.std.proofs.Common.{map, sym, ap, subst, ◌∙◌}
use Rattle.result_keeper.specs.Kept.{row_cmp}
use Rattle.result_keeper.specs.Entries.{AreApart, row_entry, rows_of, place_of, put_at}
use Rattle.result_keeper.proofs.Orders.{row_total, row_exact}
use Rattle.result_keeper.proofs.PlaceLemmas.{puts, puts_apart}
use Rattle.result_keeper.proofs.rows.put_row.Goals as goal

pub returns-clause-ok : goal.returns-clause-ok
returns-clause-ok c =
    let xs = c.args.rows.now.items in
    let y = c.args.row in
    let place = c.place_of_row-place.ensures.place ∙ (λ i. place_of row_cmp (c.deref-2.ensures.value i, c.deref-3.ensures.value i) (map row_entry (c.deref.ensures.value i))) in
    ap rows_of (c.in_ok-put_at.ensures.ok ∙ ap (λ p. put_at p y xs) place) ∙ puts row_cmp row_total row_exact row_entry xs y

pub returns-clause-apart : goal.returns-clause-apart
returns-clause-apart c =
    let xs = c.args.rows.now.items in
    let y = c.args.row in
    let place = c.place_of_row-place.ensures.place ∙ (λ i. place_of row_cmp (c.deref-2.ensures.value i, c.deref-3.ensures.value i) (map row_entry (c.deref.ensures.value i))) in
    subst (λ rs. AreApart row_cmp (map row_entry rs)) (sym (c.in_ok-put_at.ensures.ok ∙ ap (λ p. put_at p y xs) place)) (puts_apart row_cmp row_total row_exact row_entry xs y c.requires)
