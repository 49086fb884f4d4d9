use Rattle.std.proofs.Common.{◌≡◌, ◌∷◌, [], map, IfNone, subst, arith, string_bytes}
use Rattle.std.proofs.lemmas.List.{length-map}
use Rattle.workbench_store.specs.Requests.{IsNoRequest}
use Rattle.workbench_cli.proofs.WordLemmas.{count_of_words, all_five}
use Rattle.workbench_cli.proofs.words.read_words.Goals as goal

pub returns-in-5-clause-none : goal.returns-in-5-clause-none
returns-in-5-clause-none c =
    let count = c.in-5.is in
    let words =
    all_five string_bytes c.args.words.now c.index-words-0-in-5.result c.index-words-1-in-5.result c.index-words-2-in-5.result c.index-words-3-in-5.result c.index-words-4.result
    (omega (arith, count)) (omega (arith, count)) c.index-words-0-in-5.is c.index-words-1-in-5.is c.index-words-2-in-5.is c.index-words-3-in-5.is c.index-words-4.is in
    let one = c.as_str-in-5.ensures.value in
    let two = c.as_str-in-5-2.ensures.value in
    let three = c.as_str-in-5-3.ensures.value in
    let four = c.as_str-in-5-4.ensures.value in
    let five = c.as_str-in-5-5.ensures.value in
    let same : c.as_str-in-5.result.now ∷ c.as_str-in-5-2.result.now ∷ c.as_str-in-5-3.result.now ∷ c.as_str-in-5-4.result.now ∷ c.as_str-in-5-5.result.now ∷ [] ≡ map string_bytes c.args.words.now = cc in
    subst (λ ws. IfNone c.read_five.result (IsNoRequest ws)) same c.read_five.ensures.none

pub returns-in_default-clause-none : goal.returns-in_default-clause-none
returns-in_default-clause-none c = λ r h.
    let count = count_of_words (map string_bytes c.args.words.now) r h in
    let least = count.0 in
    let most = count.1 in
    let same = length-map c.args.words.now string_bytes in
    omega (arith, least, most, same)
