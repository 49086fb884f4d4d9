use Rattle.std.proofs.Common.{◌≡◌, codes, ap, subst, ◌∙◌}
use Rattle.sqlite.specs.Effect.{Database}
use Rattle.sqlite.specs.Held.{state}
use Rattle.sqlite_keeper.specs.Schema.{has_table, first_schema}
use Rattle.sqlite_keeper.specs.Changes.{IsGrown}
use Rattle.sqlite_keeper.proofs.Making.{makes_project, makes_result, makes_store, made_empty, made_last}
use Rattle.sqlite_keeper.proofs.schema.make_tables.Goals as goal

pub returns-clause-made : goal.returns-clause-made
returns-clause-made g c = λ steady has.
    let none = state g.S.Store c.args.conn.now in
    let one = state g.S.Store c.make_table.new.conn in
    let two = state g.S.Store c.make_table-2.new.conn in
    let three = state g.S.Store c.make_table-3.new.conn in
    let first = c.in_ok-make_table.ensures.made steady (ap (has_table (codes "project")) has) in
    let project = makes_project none one first.0 has first.1 in
    let second = c.in_ok-make_table-2.ensures.made steady (ap (has_table (codes "result")) project.schema) in
    let result = makes_result one two second.0 project.schema second.1 in
    let third = c.in_ok-make_table-3.ensures.made steady (ap (has_table (codes "store")) result.schema) in
    made_empty none.now one.now two.now three.now project result (makes_store two three third.0 result.schema third.1)

pub returns-clause-grown : goal.returns-clause-grown
returns-clause-grown g c = λ steady has.
    let none = state g.S.Store c.args.conn.now in
    let one = state g.S.Store c.make_table.new.conn in
    let two = state g.S.Store c.make_table-2.new.conn in
    let three = state g.S.Store c.make_table-3.new.conn in
    let first : one.now ≡ none.now = c.make_table.ensures.there (ap (has_table (codes "project")) has) in
    let after : one.now.schema ≡ first_schema = ap (λ (d : Database). d.schema) first ∙ has in
    let second : two.now ≡ one.now = c.make_table-2.ensures.there (ap (has_table (codes "result")) after) in
    let there : two.now.schema ≡ first_schema = ap (λ (d : Database). d.schema) second ∙ after in
    let third = c.in_ok-make_table-3.ensures.made steady (ap (has_table (codes "store")) there) in
    subst (λ d. IsGrown d three.now) (second ∙ first) (made_last two.now three.now (makes_store two three third.0 there third.1))
