use Rattle.std.proofs.Common.{map, sym, ap, subst, ◌∙◌, arith}
use Rattle.std.specs.FinMap.{from_entries}
use Rattle.result_keeper.specs.Kept.{row_cmp, contexts_of, moved, Rows}
use Rattle.result_keeper.specs.Entries.{AreApart, context_pair, row_entry, projects_of}
use Rattle.result_keeper.proofs.Moves.{moves, moves_apart}
use Rattle.result_keeper.proofs.tables.Tables.migrate.Goals as goal

pub invariant_of-self : goal.invariant_of-self
invariant_of-self c =
    let pairs = map context_pair c.args.pairs.now in
    let next = c.in_ok-self-inside.ensures ∙ ap (λ rs. map (moved pairs) (map row_entry rs)) c.deref.ensures.value in
    let olds = c.requires.olds ∙ ap contexts_of (sym c.self.view_is) in
    ((omega arith, omega arith), (c.self.invariant.1.0, subst (AreApart row_cmp) (sym next) (moves_apart pairs (map row_entry c.self.inside.rows.items) c.self.invariant.1.1 olds c.requires.news)))

pub returns-clause-migrated : goal.returns-clause-migrated
returns-clause-migrated c =
    let pairs = map context_pair c.args.pairs.now in
    let next = c.in_ok-self-inside.ensures ∙ ap (λ rs. map (moved pairs) (map row_entry rs)) c.deref.ensures.value in
    let olds = c.requires.olds ∙ ap contexts_of (sym c.self.view_is) in
    let rows = ap (λ es. from_entries {R = row_cmp} es) next ∙ moves pairs (map row_entry c.self.inside.rows.items) c.self.invariant.1.1 olds c.requires.news in
    rw (← c.self.view_is) (ap (λ (r : Rows). record { version = 2; projects = projects_of c.self.inside.projects.items; rows = r }) rows)
