-- The bytes of a response.
--   code_of s, phrase_of s == the number and the phrase of a status
--   refused_with r == the status of a request that is refused before any command acts
--   line text == the text with CR and LF behind it
--   response_of s content body == the response: its status, the type of its content, its length,
--       for 405 the methods that there are, that the connection closes, and the body
--   refused_of s == the body of a refusal that no command gave
--   unavailable_of == the response where there is no memory: 503 with the line of status 17
--   type_of c == the type of a content
--   methods_of ms == the names of methods, joined
--   start_of, length_of, allow_of, end_of == the first line, that of the length, for 405 that of
--       the methods, and the lines from there to the empty one
--   head_of s content n == all lines, where the body has n bytes
use Rattle.std.specs.Prelude.{ℕ, List, [], ◌∷◌, ◌++◌, codes, length}
use Rattle.http.specs.StatusCode.{code_digits}
use Rattle.numerals.specs.Numerals.{numeral}
use Rattle.desk_requests.specs.declared.Methods.{Methods}
use Rattle.desk_requests.specs.declared.Methods.TheVariants as Allowed
use Rattle.desk_requests.specs.declared.Refusal.{Refusal}
use Rattle.desk_requests.specs.declared.Refusal.TheVariants as Refusals
use Rattle.desk_responses.specs.declared.response.Content.{Content}
use Rattle.desk_responses.specs.declared.response.Content.TheVariants.{Text, Json}
use Rattle.desk_responses.specs.declared.status.Status.{Status}
use Rattle.desk_responses.specs.declared.status.Status.TheVariants as Statuses

abbrev pub code_of : Status → ℕ
code_of Statuses.Ok = 200
code_of Statuses.Created = 201
code_of Statuses.BadRequest = 400
code_of Statuses.NotFound = 404
code_of (Statuses.MethodNotAllowed methods) = 405
code_of Statuses.Conflict = 409
code_of Statuses.LengthRequired = 411
code_of Statuses.ContentTooLarge = 413
code_of Statuses.UnprocessableContent = 422
code_of Statuses.InternalServerError = 500
code_of Statuses.ServiceUnavailable = 503
code_of Statuses.InsufficientStorage = 507

abbrev pub phrase_of : Status → List ℕ
phrase_of Statuses.Ok = codes "OK"
phrase_of Statuses.Created = codes "Created"
phrase_of Statuses.BadRequest = codes "Bad Request"
phrase_of Statuses.NotFound = codes "Not Found"
phrase_of (Statuses.MethodNotAllowed methods) = codes "Method Not Allowed"
phrase_of Statuses.Conflict = codes "Conflict"
phrase_of Statuses.LengthRequired = codes "Length Required"
phrase_of Statuses.ContentTooLarge = codes "Content Too Large"
phrase_of Statuses.UnprocessableContent = codes "Unprocessable Content"
phrase_of Statuses.InternalServerError = codes "Internal Server Error"
phrase_of Statuses.ServiceUnavailable = codes "Service Unavailable"
phrase_of Statuses.InsufficientStorage = codes "Insufficient Storage"

abbrev pub refused_with : Refusal → Status
refused_with Refusals.BadRequest = Statuses.BadRequest
refused_with Refusals.NotFound = Statuses.NotFound
refused_with (Refusals.MethodNotAllowed methods) = Statuses.MethodNotAllowed methods
refused_with Refusals.LengthRequired = Statuses.LengthRequired
refused_with Refusals.TooLarge = Statuses.ContentTooLarge

abbrev pub line : List ℕ → List ℕ
line text = text ++ 13 ∷ 10 ∷ []

abbrev pub type_of : Content → List ℕ
type_of Text = codes "text/plain; charset=utf-8"
type_of Json = codes "application/json"

abbrev pub methods_of : Methods → List ℕ
methods_of Allowed.Get = codes "GET"
methods_of Allowed.GetPutDelete = codes "GET, PUT, DELETE"
methods_of Allowed.Post = codes "POST"

abbrev pub allow_of : Status → List ℕ
allow_of (Statuses.MethodNotAllowed methods) = line (codes "Allow: " ++ methods_of methods)
allow_of _ = []

unfoldable pub start_of : Status → List ℕ
start_of status = line (codes "HTTP/1.1 " ++ code_digits (code_of status) ++ codes " "
    ++ phrase_of status)

unfoldable pub length_of : ℕ → List ℕ
length_of n = line (codes "Content-Length: " ++ numeral n)

unfoldable pub end_of : Status → List ℕ
end_of status = allow_of status ++ line (codes "Connection: close") ++ line []

abbrev pub head_of : Status → Content → ℕ → List ℕ
head_of status content n = start_of status ++ line (codes "Content-Type: " ++ type_of content)
    ++ length_of n ++ end_of status

abbrev pub response_of : Status → Content → List ℕ → List ℕ
response_of status content body = head_of status content (length body) ++ body

abbrev pub refused_of : Status → List ℕ
refused_of status = codes "refused " ++ code_digits (code_of status) ++ codes "\n"

abbrev pub unavailable_of : List ℕ
unavailable_of = response_of Statuses.ServiceUnavailable Text (codes "refused 17 Memory\n")
