use Rattle.std.proofs.Common.{◌++◌, ◌∷◌, [], take, map, sym, ◌∙◌, subst}
use Rattle.result_keeper.specs.Entries.{pair_of}
use Rattle.stored_constants.proofs.Lookups.{AreValues, values_present, values_absent, values_next}
use Rattle.stored_constants.proofs.texts.values_by_tree.Goals as goal
use Rattle.stored_constants.proofs.texts.values_by_tree.Goals.{then-not-contains_key+in_ok-insert, else-not-contains_key}

pub loop-row-preserved : goal.loop-row-preserved
loop-row-preserved c =
    let row = c.row-item.result in
    let es = map pair_of (take c.loop-row.row-index c.args.rows.now) in
    values_next c.if-not-contains_key.values c.args.rows.now c.loop-row.row-index row c.loop-row-test.true c.row-item.is
    (elim c.if-not-contains_key.branch [
      | then-not-contains_key+in_ok-insert w ↦ subst (λ m. AreValues m (es ++ pair_of row ∷ [])) (sym w.values-is)
          (values_absent c.loop-row.values w.insert.new.self es (pair_of row) c.as_slice.result.now w.as_slice-then-not-contains_key-2.result c.as_slice.ensures.value w.as_slice-then-not-contains_key-2.ensures.value c.loop-row.invariant (sym c.contains_key.ensures ∙ w.if-not-contains_key.true) w.as_slice-then-not-contains_key.result.now w.as_slice-then-not-contains_key.ensures.value w.in_ok-insert.ensures.updates)
      | else-not-contains_key w ↦ subst (λ m. AreValues m (es ++ pair_of row ∷ [])) (sym w.values-is)
          (values_present c.loop-row.values es (pair_of row) c.as_slice.result.now c.as_slice.ensures.value c.loop-row.invariant (sym c.contains_key.ensures ∙ w.if-not-contains_key.false))
    ])
