use Rattle.std.proofs.Common.{◌≡◌, [], ◌∷◌, codes, refl, rules}
use Rattle.matchit.specs.declared.InsertError.TheVariants.{OutOfMemory}
use Rattle.desk_requests.specs.Places.{project_row, projects_row}
use Rattle.desk_requests.specs.declared.place.Part.TheVariants as Parts
use Rattle.desk_requests.proofs.Inserting.{only_memory}
use Rattle.matchit.proofs.OnLiterals.{matchit_on_literals}
use Rattle.desk_requests.proofs.place.router_of.Goals as goal

pub returns-clause-ok : goal.returns-clause-ok
unfolding matchit_on_literals
returns-clause-ok c = rw (c.in_ok-insert-4.ensures.1, c.in_ok-insert-3.ensures.1, c.in_ok-insert-2.ensures.1, c.in_ok-insert.ensures.1, c.new-router.ensures) at c.in_ok-insert-5.ensures.1

pub returns-in_err-insert-clause-err : goal.returns-in_err-insert-clause-err
unfolding matchit_on_literals
returns-in_err-insert-clause-err c =
    let why : c.in_err-insert.field-0.0 ≡ OutOfMemory = only_memory (codes "/projects") ([]) c.in_err-insert.field-0.0 refl (rw (c.new-router.ensures) at c.in_err-insert.ensures.1) in
    search (rules, why)

pub returns-in_err-insert-2-clause-err : goal.returns-in_err-insert-2-clause-err
unfolding matchit_on_literals
returns-in_err-insert-2-clause-err c =
    let why : c.in_err-insert-2.field-0.0 ≡ OutOfMemory = only_memory ((project_row Parts.File).0) (projects_row ∷ []) c.in_err-insert-2.field-0.0 refl (rw (c.in_ok-insert.ensures.1, c.new-router.ensures) at c.in_err-insert-2.ensures.1) in
    search (rules, why)

pub returns-in_err-insert-3-clause-err : goal.returns-in_err-insert-3-clause-err
unfolding matchit_on_literals
returns-in_err-insert-3-clause-err c =
    let why : c.in_err-insert-3.field-0.0 ≡ OutOfMemory = only_memory ((project_row Parts.Report).0) (project_row Parts.File ∷ projects_row ∷ []) c.in_err-insert-3.field-0.0 refl (rw (c.in_ok-insert-2.ensures.1, c.in_ok-insert.ensures.1, c.new-router.ensures) at c.in_err-insert-3.ensures.1) in
    search (rules, why)

pub returns-in_err-insert-4-clause-err : goal.returns-in_err-insert-4-clause-err
unfolding matchit_on_literals
returns-in_err-insert-4-clause-err c =
    let why : c.in_err-insert-4.field-0.0 ≡ OutOfMemory = only_memory ((project_row Parts.Trees).0) (project_row Parts.Report ∷ project_row Parts.File ∷ projects_row ∷ []) c.in_err-insert-4.field-0.0 refl (rw (c.in_ok-insert-3.ensures.1, c.in_ok-insert-2.ensures.1, c.in_ok-insert.ensures.1, c.new-router.ensures) at c.in_err-insert-4.ensures.1) in
    search (rules, why)

pub returns-in_err-insert-5-clause-err : goal.returns-in_err-insert-5-clause-err
unfolding matchit_on_literals
returns-in_err-insert-5-clause-err c =
    let why : c.in_err-insert-5.field-0.0 ≡ OutOfMemory = only_memory ((project_row Parts.Detail).0) (project_row Parts.Report ∷ project_row Parts.Trees ∷ project_row Parts.File ∷ projects_row ∷ []) c.in_err-insert-5.field-0.0 refl (rw (c.in_ok-insert-4.ensures.1, c.in_ok-insert-3.ensures.1, c.in_ok-insert-2.ensures.1, c.in_ok-insert.ensures.1, c.new-router.ensures) at c.in_err-insert-5.ensures.1) in
    search (rules, why)
