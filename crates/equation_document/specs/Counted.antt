-- How the names of a document count its noises and unknowns.
--   AreCounted doc == the names are the parameters', then one for each noise, then one for each
--       unknown
use Rattle.std.specs.Prelude.{◌≡◌, ◌+◌, length}
use Rattle.equation_document.specs.declared.document.Document.{Document}

pub record AreCounted (doc : Document) : Type 0 where
  pub noises : doc.names.first_unknown ≡ doc.names.first_noise + length doc.noises
  pub unknowns : length doc.names.list ≡ doc.names.first_unknown + length doc.unknowns
