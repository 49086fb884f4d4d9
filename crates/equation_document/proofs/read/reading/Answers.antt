-- Each exit meets the reading of the bytes by what `from_utf8` says of them.
use Rattle.std.proofs.Common.{◌≡◌, sym, ap, ◌∙◌, subst}
use Rattle.toml.specs.Parse.{parse_document}
use Rattle.equation_document.specs.File.{table_document, reading}
use Rattle.equation_document.specs.Gives.{Gives}
use Rattle.equation_document.proofs.ReadFacts.{reading-short, reading-not_utf8}
use Rattle.equation_document.proofs.read.reading.Goals as goal

pub returns-in_default : goal.returns-in_default
returns-in_default c = reading-not_utf8 c.args.bytes.now c.if-bytes-gt-MOST_BYTES.false c.in_default.ensures.cases.0

pub returns : goal.returns
returns c =
    let text = c.in-Ok.ensures.cases in
    let read : reading c.args.bytes.now ≡ table_document (parse_document c.in-Ok.text.now) =
    reading-short c.args.bytes.now c.if-bytes-gt-MOST_BYTES.false text.1 ∙ ap (λ t. table_document (parse_document t)) (sym text.0) in
    subst (λ r. Gives (λ d. d) c.text_document.result r) (sym read) c.text_document.ensures
