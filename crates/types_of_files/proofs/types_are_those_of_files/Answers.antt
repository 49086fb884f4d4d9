use Rattle.equation_document.proofs.DocumentFacts.{document_is_read}
use Rattle.equation_document.proofs.ReadFacts.{accepted_parts}
use Rattle.equation_file.proofs.AcceptedTypes.{accepted_types}
use Rattle.types_of_files.proofs.TypesWritten.{types_written}
use Rattle.types_of_files.proofs.types_are_those_of_files.Goals as goal

pub returns : goal.returns
returns c = record {
  types = λ ms doc h. let parts = accepted_parts ms doc h in accepted_types doc (document_is_read ms doc parts.0) parts.1;
  file = types_written;
}
