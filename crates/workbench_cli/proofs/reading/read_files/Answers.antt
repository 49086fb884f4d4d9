use Rattle.std.proofs.Common.{◌≡◌, ◌≤◌, ◌+◌, ◌++◌, ◌∷◌, [], ℕ, List, map, take, ap, sym, ◌∙◌, subst, arith, refl}
use Rattle.std.proofs.lemmas.List.{map-append}
use Rattle.std.proofs.lemmas.Result.{err_from_is_err_and}
use Rattle.workbench_core.specs.declared.refusal.Refusal.TheVariants.{FileFault, Memory}
use Rattle.workbench_cli.specs.Reading.{AreRead}
use Rattle.workbench_cli.proofs.ReadLemmas.{texts_of, next_read, next_asked, asks_unread, asks_unkept}
use Rattle.workbench_cli.proofs.reading.read_files.Goals as goal

pub returns-in_err-text-clause-stopped : goal.returns-in_err-text-clause-stopped
returns-in_err-text-clause-stopped g c =
    let p = err_from_is_err_and c.from_residual.result c.from_residual.ensures.1 in
    let e = c.in_err-text.ensures in
    rw (p.1, p.2) (asks_unread c.args.names.now c.loop-name.name-index _ c.loop-name-test.true _ _ _ _ _ e.refused c.loop-name.invariant.1 e.stopped)

pub returns-in_err-push-clause-stopped : goal.returns-in_err-push-clause-stopped
returns-in_err-push-clause-stopped g c =
    let p = err_from_is_err_and c.from_residual-in_err-push.result c.from_residual-in_err-push.ensures.1 in
    rw (p.1, p.2) (asks_unkept c.args.names.now c.loop-name.name-index _ c.loop-name-test.true Memory _ _ _ refl c.loop-name.invariant.1 c.in_ok-text.ensures.asked)

pub loop-name-preserved : goal.loop-name-preserved
loop-name-preserved g c =
    let so_far = c.loop-name.invariant in
    let e = c.in_ok-text.ensures in
    let names = c.args.names.now in
    let read = next_read names c.loop-name.name-index _ c.loop-name-test.true (g.F.Files.text c.args.files.now) (g.F.Files.text c.loop-name.files) _ c.in_ok-text.text.items so_far.0 so_far.2 e.read in
    let asked = next_asked names c.loop-name.name-index _ c.loop-name-test.true _ _ _ so_far.1 e.asked in
    let pieces = ap (map (λ v. v.items)) c.in_ok-push.ensures.items ∙ map-append (λ v. v.items) c.loop-name.texts.items (c.in_ok-text.text ∷ []) in (
      subst (AreRead (g.F.Files.text c.args.files.now) (texts_of (take (c.loop-name.name-index + 1) names))) (sym pieces) read,
      asked,
      λ n. e.same n ∙ so_far.2 n,
      (let before = so_far.3 in let now = e.later in omega (arith, before, now)),
    )
