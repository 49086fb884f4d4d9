use Rattle.std.proofs.Common.{[], take, map}
use Rattle.std.specs.List.{AllByRecursion}
use Rattle.extraction_coproduct.specs.Finished.{AreGrown}
use Rattle.twisted_antipode.specs.Held.{AreHeldOver, IsExtended}
use Rattle.twisted_antipode.specs.Kinds.{AreHeldTyped}
use Rattle.result_keeper.specs.Entries.{pair_of}
use Rattle.stored_constants.specs.Sound.{IsTrueRow}
use Rattle.stored_constants.proofs.audit.audit_trees.Given as goal

-- only constants are held, and the rows so far are true
abbrev pub invariant-loop-place : goal.invariant-loop-place
invariant-loop-place l = record {
  grown : AreGrown l.fn.tables l.tables;
  held : AreHeldOver l.tables.pool l.constants;
  typed : AreHeldTyped l.tables.pool.types l.constants;
  computed : IsExtended l.tables.pool [] l.constants;
  are_true : AllByRecursion (IsTrueRow l.fn.tables.pool.types) (map pair_of (take l.place l.rows));
}
