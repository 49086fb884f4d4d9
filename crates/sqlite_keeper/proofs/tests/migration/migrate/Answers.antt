use Rattle.std.proofs.Common.{◌≡◌, map, ℕ, List, Option, None, Some, IfSome, sym, ap, subst, ◌∙◌}
use Rattle.result_keeper.specs.Entries.{context_pair}
use Rattle.result_keeper.specs.Kept.{Kept, CanMigrate, contexts_of}
use Rattle.sqlite_keeper.proofs.tests.migration.migrate.Goals as goal

-- what holds of the told store implies what follows from it
told_too : (P Q : Kept → Type 0) (told : Option Kept) → IfSome told P → ((k : Kept) → P k → Q k) → IfSome told Q
told_too P Q None h f = tt
told_too P Q (Some k) h f = f k h

pub migrate-requires-clause-pairs : goal.migrate-requires-clause-pairs
migrate-requires-clause-pairs g c =
    told_too (λ k. map (λ cs. cs.items) c.in_ok-contexts.contexts.items ≡ contexts_of k) (CanMigrate (map context_pair c.deref-2.result.now)) (g.K.Keeper.told c.contexts.new.self) c.in_ok-contexts.ensures.contexts
    (λ k h. subst (λ ps. CanMigrate (map context_pair ps) k) (sym c.deref-2.ensures.value) (c.in_ok-pairs.ensures k (ap (map (λ v. v.items)) c.deref.ensures.value ∙ h)))
