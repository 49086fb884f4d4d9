use Rattle.std.proofs.Common.{map, subst}
use Rattle.std.specs.List.{AllByRecursion}
use Rattle.result_keeper.specs.Entries.{pair_of}
use Rattle.type_contexts.specs.declared.form.Form.TheVariants.{New}
use Rattle.type_contexts.specs.Context.{IsContextText}
use Rattle.stored_constants.specs.Sound.{IsReadRow}
use Rattle.workbench_store.proofs.auditing.compare_page.Goals as goal

pub compare_over-requires-clause-read : goal.compare_over-requires-clause-read
compare_over-requires-clause-read c =
    let text = subst (λ t. IsContextText c.in-Ok.types t) c.deref.ensures.value c.in-Ok.ensures.text in
    let same = c.contexts_determine_types.ensures.least New c.requires.types c.in-Ok.types c.args.page.now.context.items c.requires.are_types c.in-Ok.ensures.types c.requires.least c.in-Ok.ensures.units c.requires.context text in
    subst (λ ty. AllByRecursion (IsReadRow ty) (map pair_of c.args.page.now.rows.items)) same c.requires.rows
