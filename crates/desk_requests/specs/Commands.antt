-- Statuses of refusals, and the keys of bodies.
--   status_of r == the HTTP status of a refusal
--   key_of m == the key of the member that a body has
use Rattle.std.specs.Prelude.{ℕ, List, codes}
use Rattle.desk_requests.specs.declared.decision.Refusal.{Refusal}
use Rattle.desk_requests.specs.declared.decision.Refusal.TheVariants.{BadRequest, NotFound, MethodNotAllowed, LengthRequired, TooLarge}
use Rattle.desk_requests.specs.declared.decision.Member.{Member}
use Rattle.desk_requests.specs.declared.decision.Member.TheVariants.{File, Tree}

abbrev pub status_of : Refusal → ℕ
status_of BadRequest = 400
status_of NotFound = 404
status_of (MethodNotAllowed m) = 405
status_of LengthRequired = 411
status_of TooLarge = 413

abbrev pub key_of : Member → List ℕ
key_of File = codes "file"
key_of Tree = codes "tree"
