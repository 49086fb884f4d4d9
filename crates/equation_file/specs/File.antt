-- The equation of a file.
--   told read == the equation of a document that is read, or the refusal for its fault
--   equation_of bytes == the equation that the bytes write down, or their refusal
use Rattle.std.specs.Prelude.{ℕ, List, Result, Ok, Err}
use Rattle.equation_document.specs.declared.document.Document.{Document}
use Rattle.equation_document.specs.declared.fault.Fault.{Fault}
use Rattle.equation_document.specs.File.{reading}
use Rattle.equations.specs.declared.equation.Equation.{Equation}
use Rattle.equation_file.specs.declared.refusal.FileRefusal.{FileRefusal}
use Rattle.equation_file.specs.Meaning.{document_equation}
use Rattle.equation_file.specs.Refusals.{refusal_of}

abbrev pub told : Result Document Fault → Result Equation FileRefusal
told (Ok doc) = Ok (document_equation doc)
told (Err f) = Err (refusal_of f)

abbrev pub equation_of : List ℕ → Result Equation FileRefusal
equation_of bytes = told (reading bytes)
