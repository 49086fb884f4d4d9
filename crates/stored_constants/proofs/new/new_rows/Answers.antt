use Rattle.std.proofs.Common.{map, sym, ap, subst, ◌∙◌}
use Rattle.result_keeper.specs.Entries.{pair_of}
use Rattle.stored_constants.specs.Rows.{AreNewRows, row_of_values}
use Rattle.stored_constants.proofs.NewLaws.{rows_next_new, rows_next_same, rows_all, new_are, row_known, pushed}
use Rattle.stored_constants.proofs.new.new_rows.Goals as goal
use Rattle.stored_constants.proofs.new.new_rows.Goals.{then-not-contains_key+in_ok-row_of+in_ok-put, else-not-contains_key}

pub loop-value-preserved : goal.loop-value-preserved
loop-value-preserved c =
    let ty = c.args.types.now in
    let rows = map pair_of c.args.rows.now in
    let vs = c.args.values.now in
    let v = c.value-item.result in
    let i = c.loop-value.value-index in
    let old = map pair_of c.loop-value.new.items in
    let text = c.as_slice.ensures.value ∙ c.in_ok-tree.ensures.text in
    elim c.if-not-contains_key.branch [
      | then-not-contains_key+in_ok-row_of+in_ok-put w ↦
          rows_next_new ty rows vs i v old (map pair_of c.if-not-contains_key.new.items) c.loop-value-test.true c.value-item.is
          (row_known ty c.in_ok-by_tree.by_tree rows c.as_slice.result.now v c.contains_key.result _ c.in_ok-by_tree.ensures text c.contains_key.ensures w.if-not-contains_key.true)
          (ap (λ n. map pair_of n.items) w.new-is ∙ pushed c.loop-value.new.items w.put.new.rows.items w.in_ok-row_of.field-0 (row_of_values ty v) w.in_ok-put.ensures.put w.in_ok-row_of.ensures.row)
          c.loop-value.invariant
      | else-not-contains_key w ↦
          rows_next_same ty rows vs i v old (map pair_of c.if-not-contains_key.new.items) c.loop-value-test.true c.value-item.is
          (row_known ty c.in_ok-by_tree.by_tree rows c.as_slice.result.now v c.contains_key.result _ c.in_ok-by_tree.ensures text c.contains_key.ensures w.if-not-contains_key.false)
          (ap (λ n. map pair_of n.items) w.new-is)
          c.loop-value.invariant
    ]

pub returns-clause-new : goal.returns-clause-new
returns-clause-new c = λ eq held k ts types rows_held values.
    let ty = c.args.types.now in
    let rows = map pair_of c.args.rows.now in
    subst (λ new. AreNewRows ty rows k ts new) (sym (rows_all ty rows c.args.values.now c.loop-value.value-index (map pair_of c.loop-value.new.items) c.loop-value-test.false c.loop-value.invariant))
    (new_are ty rows eq held k ts c.args.values.now rows_held c.requires.stored values)
