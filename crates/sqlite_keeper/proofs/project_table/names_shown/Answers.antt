use Rattle.std.proofs.Common.{◌++◌, [], ◌∷◌, take, sym, ap, ◌∙◌}
use Rattle.std.specs.List.{filter_map}
use Rattle.std.proofs.lemmas.List.{take_more}
use Rattle.std.proofs.lemmas.List.Elements.{filter_map-append}
use Rattle.sqlite_keeper.specs.Tables.{shown_name}
use Rattle.sqlite_keeper.proofs.project_table.names_shown.Goals as goal

pub loop-row-preserved : goal.loop-row-preserved
loop-row-preserved c =
    let rows = c.args.rows.now in
    let row = c.row-item.result in
    let at = c.loop-row.row-index in
    let more = take_more rows at row c.loop-row-test.true ∙ ap (λ r. take at rows ++ r ∷ []) (sym c.row-item.is) in
    c.in_ok-push_name.ensures ∙ ap (λ l. l ++ filter_map shown_name (row ∷ [])) c.loop-row.invariant ∙ sym (filter_map-append shown_name (take at rows) (row ∷ [])) ∙ ap (filter_map shown_name) (sym more)
