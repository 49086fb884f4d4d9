use Rattle.std.proofs.Common.{take}
use Rattle.std.specs.List.{All}
use Rattle.plain_trees.specs.Plain.{Plain}
use Rattle.tree_pool.specs.Content.{trees_of}
use Rattle.extraction_coproduct.specs.Finished.{AreGrown}
use Rattle.counterterm_report.specs.Values.{IsTreeValues}
use Rattle.antipode_laws.specs.Weighed.{Weighed}
use Rattle.antipode_laws.specs.Constants.{IsConstants}
use Rattle.twisted_antipode.specs.Counts.{IsCountOf, AreFinishedOver}
use Rattle.twisted_antipode.specs.Held.{held_over, AreHeldOver, IsExtended}
use Rattle.twisted_antipode.specs.Kinds.{AreHeldTyped}
use Rattle.tree_values.specs.Values.{AreValuesOf}
use Rattle.tree_values.proofs.list.all_values.Given as goal

-- the values of the trees so far, with the constants over what was held at the start
abbrev pub invariant-loop-id : goal.invariant-loop-id
invariant-loop-id l = record {
  grown : AreGrown l.fn.tables l.tables;
  held : AreHeldOver l.tables.pool l.constants;
  typed : AreHeldTyped l.eq.types l.constants;
  extended : IsExtended l.tables.pool l.fn.constants l.constants;
  values : (c : Plain → Weighed) → IsConstants l.eq.types (held_over l.fn.tables.pool l.fn.constants) c →
      AreValuesOf l.eq (held_over l.fn.tables.pool l.fn.constants) c (trees_of l.fn.tables.pool (take l.id-index l.ids)) l.values;
  printed : All (IsTreeValues l.eq) l.values;
  counted : IsCountOf l.fn.tables l.tables l.fn.work.tables l.work.tables;
  finished : AreFinishedOver l.fn.tables l.tables l.fn.constants (trees_of l.fn.tables.pool l.ids);
}
