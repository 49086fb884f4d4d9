-- The responses to commands.
--   names_page names, text_page text == the names of projects as JSON; a text
--   put_page put name == the response where a file was to be kept under the name: it was added, or
--       replaced another, or there are too many projects
--   removed_page name == the response where the project was removed
--   status_for code is_full == the status of the response to a command that is refused with this
--       status of the program; `is_full` tells the two refusals of status 10 apart
--   refused_page code is_full line == that response, with the line of the refusal as its body
--   named word name == the word, the name and a line feed
use Rattle.std.specs.Prelude.{ℕ, Bool, ◌==◌, ◌||◌, List, ◌++◌, codes, if◌then◌else◌}
use Rattle.result_keeper.specs.declared.Put.{Put}
use Rattle.result_keeper.specs.declared.Put.TheVariants.{Added, Replaced, Full}
use Rattle.desk_responses.specs.declared.Content.TheVariants.{Text, Json}
use Rattle.desk_responses.specs.declared.Status.{Status}
use Rattle.desk_responses.specs.declared.Status.TheVariants as Statuses
use Rattle.desk_responses.specs.Names.{names_of}
use Rattle.http_desk.specs.Pages.{Page}

abbrev pub named : List ℕ → List ℕ → List ℕ
named word name = word ++ name ++ codes "\n"

abbrev pub names_page : List (List ℕ) → Page
names_page names = record { status = Statuses.Ok; content = Json; body = names_of names }

abbrev pub text_page : List ℕ → Page
text_page text = record { status = Statuses.Ok; content = Text; body = text }

abbrev pub put_page : Put → List ℕ → Page
put_page Added name = record {
  status = Statuses.Created;
  content = Text;
  body = named (codes "added ") name;
}
put_page Replaced name = text_page (named (codes "replaced ") name)
put_page Full name = record {
  status = Statuses.InsufficientStorage;
  content = Text;
  body = codes "refused 10 Full\n";
}

abbrev pub removed_page : List ℕ → Page
removed_page name = text_page (named (codes "removed ") name)

abbrev pub status_for : ℕ → Bool → Status
status_for code is_full =
    if code == 10 then (if is_full then Statuses.InsufficientStorage else Statuses.NotFound)
    else if code == 12 || code == 19 then Statuses.Conflict
    else if code == 11 then Statuses.InternalServerError
    else if code == 17 then Statuses.ServiceUnavailable
    else Statuses.UnprocessableContent

abbrev pub refused_page : ℕ → Bool → List ℕ → Page
refused_page code is_full line = record {
  status = status_for code is_full;
  content = Text;
  body = line;
}
