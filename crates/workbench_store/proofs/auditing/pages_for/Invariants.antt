use Rattle.std.proofs.Common.{◌≡◌, ◌≤◌, map, take, IfSome}
use Rattle.result_keeper.specs.Kept.{results_of}
use Rattle.result_keeper.specs.Told.{Stays}
use Rattle.workbench_store.specs.Pages.{page_of}
use Rattle.workbench_store.proofs.auditing.pages_for.Given as goal

abbrev pub invariant-loop-context : goal.invariant-loop-context
invariant-loop-context g l =
    let told = g.K.Keeper.told in
    record {
      stays : Stays (told l.fn.keeper) (told l.keeper);
      pages : IfSome (told l.fn.keeper) (λ k. map page_of l.pages.items ≡ map (λ c. (c.items, results_of k c.items)) (take l.context-index l.contexts));
      later : g.K.Keeper.faults l.fn.keeper ≤ g.K.Keeper.faults l.keeper;
      version : g.K.Keeper.version l.keeper ≡ g.K.Keeper.version l.fn.keeper;
    }
