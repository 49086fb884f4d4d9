use Rattle.std.proofs.Common.{map, string_bytes, arith}
use Rattle.std.proofs.lemmas.List.{length-map}
use Rattle.workbench_cli.proofs.ServingLemmas.{three_words}
use Rattle.workbench_cli.proofs.serving.read_serving.Goals as goal

pub returns-in_default-clause-none : goal.returns-in_default-clause-none
returns-in_default-clause-none c = λ n m h.
    let count = three_words (map string_bytes c.args.words.now) n m h in
    let same = length-map c.args.words.now string_bytes in
    omega (arith, count, same)
