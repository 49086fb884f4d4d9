use Rattle.std.proofs.Common.{◌≡◌, inl, inr, arith, [], map, string_bytes}
use Rattle.http_desk.specs.Seen.{seen}
use Rattle.http_desk.specs.Series.{RoseBy}
use Rattle.wb_outside.specs.Told.{writing}
use Rattle.desk_clerk.specs.Replies.{IsDoneBy}
use Rattle.desk_clerk.specs.Served.{Goes}
use Rattle.workbench_cli.specs.Serving.{IsServed}
use Rattle.workbench_cli.proofs.ServingLemmas.{for_serving, serving_is_no_request, lengthens_nothing}
use Rattle.workbench_cli.proofs.program.workbench.Goals as goal

-- serving
pub returns-in-Some-clause-words : goal.returns-in-Some-clause-words
returns-in-Some-clause-words g c = (
  λ two. absurd (elim c.run_serving.ensures.code [
    | inl zero ↦ omega (arith, two, zero)
    | inr (inl fifteen) ↦ omega (arith, two, fifteen)
    | inr (inr sixteen) ↦ omega (arith, two, sixteen)
  ]),
  λ no. absurd (no.1 _ _ c.in-Some.ensures.found),
)

pub returns-in-Some-clause-file_fault : goal.returns-in-Some-clause-file_fault
returns-in-Some-clause-file_fault g c = λ three. absurd (elim c.run_serving.ensures.code [
  | inl zero ↦ omega (arith, three, zero)
  | inr (inl fifteen) ↦ omega (arith, three, fifteen)
  | inr (inr sixteen) ↦ omega (arith, three, sixteen)
])

pub returns-in-Some-clause-store_fault : goal.returns-in-Some-clause-store_fault
returns-in-Some-clause-store_fault g c = λ eleven. absurd (elim c.run_serving.ensures.code [
  | inl zero ↦ omega (arith, eleven, zero)
  | inr (inl fifteen) ↦ omega (arith, eleven, fifteen)
  | inr (inr sixteen) ↦ omega (arith, eleven, sixteen)
])

pub returns-in-Some-clause-served : goal.returns-in-Some-clause-served
returns-in-Some-clause-served g c =
    let at = seen g.D.Door.is_open g.D.Door.taken g.D.Door.door_faults g.D.Door.line_faults g.D.Door.told in
    for_serving _ _ _ c.in-Some.ensures.found
    (λ n m. IsServed (IsDoneBy g.K.Keeper.told g.K.Keeper.faults g.K.Keeper.version) n m (at c.args.door.now) (c.args.keeper.now, c.args.work.now) c.run_serving.result.code
    (at c.run_serving.new.door) (c.run_serving.new.keeper, c.run_serving.new.work) (writing g.O.Sink.told g.O.Sink.faults c.args.out.now c.run_serving.new.out)
    (writing g.E.Sink.told g.E.Sink.faults c.args.err.now c.run_serving.new.err))
    c.run_serving.ensures.served

pub returns-in-Some-clause-taken : goal.returns-in-Some-clause-taken
returns-in-Some-clause-taken g c =
    for_serving _ _ _ c.in-Some.ensures.found
    (λ n m. c.run_serving.result.code ≡ 0 → RoseBy n (g.D.Door.taken c.args.door.now) (g.D.Door.taken c.run_serving.new.door))
    c.run_serving.ensures.taken

pub returns-in-Some-clause-tables : goal.returns-in-Some-clause-tables
returns-in-Some-clause-tables g c =
    for_serving _ _ _ c.in-Some.ensures.found (λ n m. Goes n (g.K.Keeper.told c.args.keeper.now) (g.K.Keeper.told c.run_serving.new.keeper))
    c.run_serving.ensures.tables

pub returns-in-Some-clause-untouched : goal.returns-in-Some-clause-untouched
returns-in-Some-clause-untouched g c = λ no. absurd (no _ _ c.in-Some.ensures.found)

pub returns-in-Some-clause-answer : goal.returns-in-Some-clause-answer
returns-in-Some-clause-answer g c = λ no. absurd (no _ _ c.in-Some.ensures.found)

pub returns-in-Some-clause-told : goal.returns-in-Some-clause-told
returns-in-Some-clause-told g c = λ r texts is. absurd (serving_is_no_request _ _ _ c.in-Some.ensures.found r is)

pub returns-in-Some-clause-whole : goal.returns-in-Some-clause-whole
returns-in-Some-clause-whole g c = λ r texts is. absurd (serving_is_no_request _ _ _ c.in-Some.ensures.found r is)

pub returns-in-Some-clause-work : goal.returns-in-Some-clause-work
returns-in-Some-clause-work g c = λ r texts is. absurd (serving_is_no_request _ _ _ c.in-Some.ensures.found r is)

pub returns-in-Some-clause-asked : goal.returns-in-Some-clause-asked
returns-in-Some-clause-asked g c = inr (serving_is_no_request _ _ _ c.in-Some.ensures.found, lengthens_nothing _)

-- other words
pub returns-in-None-clause-words : goal.returns-in-None-clause-words
returns-in-None-clause-words g c = (λ two. (c.run_command.ensures.words.0 two, c.in-None.ensures.none), λ no. c.run_command.ensures.words.1 no.0)

pub returns-in-None-clause-door_fault : goal.returns-in-None-clause-door_fault
returns-in-None-clause-door_fault g c = λ sixteen. absurd (c.run_command.ensures.no_door_fault sixteen)

pub returns-in-None-clause-served : goal.returns-in-None-clause-served
returns-in-None-clause-served g c = λ n m h. absurd (c.in-None.ensures.none n m h)

pub returns-in-None-clause-statuses : goal.returns-in-None-clause-statuses
returns-in-None-clause-statuses g c = λ n m h. absurd (c.in-None.ensures.none n m h)

pub returns-in-None-clause-taken : goal.returns-in-None-clause-taken
returns-in-None-clause-taken g c = λ n m h. absurd (c.in-None.ensures.none n m h)

pub returns-in-None-clause-tables : goal.returns-in-None-clause-tables
returns-in-None-clause-tables g c = λ n m h. absurd (c.in-None.ensures.none n m h)
