-- The places of the desk, and what each method asks for there.
--   desk_rows == the routes, as `matchit` keeps them, in the order in which they are tried; 256
--       stands for the name
--   tail_of part == what stands behind the name in the path of a part of a project
--   name_in target == the bytes after `/projects/`, up to the next slash
--   place_of target == the place of a target; None where no route takes it, or the name in it is no
--       name of a project
--   path_of p == the path of a place
--   has_name p == a name in it is one of a project
--   methods_of p == the methods that a place has
--   ask_of p method == what a method asks for at a place; None where the place has no such method
--   Row, project_row, projects_row == a route, that of a part of a project, that of all projects
--   place_at part name, place_on route target == the place of a route whose value is `part`, of the
--       route that was found
--   methods_at part == the methods that a part of a project has
--   method_of text == the method with this name; None for every other
--   ask_of_all, ask_of_project, ask_at == what a method asks for at all projects, at a part of a
--       project, at a place
use Rattle.std.specs.Prelude.{ℕ, List, [], ◌∷◌, ◌++◌, codes, drop, Bool, true, not, ◌==◌, if◌then◌else◌, Option, Some, None, option_and_then}
use Rattle.std.specs.List.{take_while}
use Rattle.std.specs.Str.{bytes_eq}
use Rattle.matchit.specs.Rows.{RowsOf, param_token}
use Rattle.matchit.specs.Router.{RouteOf}
use Rattle.matchit.specs.Seek.{first}
use Rattle.result_keeper.specs.ProjectName.{is_project_name}
use Rattle.desk_requests.specs.declared.place.Part.{Part}
use Rattle.desk_requests.specs.declared.place.Part.TheVariants as Parts
use Rattle.desk_requests.specs.declared.place.Place.{Place}
use Rattle.desk_requests.specs.declared.place.Place.TheVariants.{AllProjects, Project}
use Rattle.desk_requests.specs.declared.place.Method.{Method}
use Rattle.desk_requests.specs.declared.place.Method.TheVariants.{Get, Put, Delete, Post}
use Rattle.desk_requests.specs.declared.decision.Methods.{Methods}
use Rattle.desk_requests.specs.declared.decision.Methods.TheVariants as Allowed
use Rattle.desk_requests.specs.declared.decision.Member.TheVariants as Members
use Rattle.desk_requests.specs.declared.decision.Command.TheVariants as Commands
use Rattle.desk_requests.specs.declared.decision.Ask.{Ask}
use Rattle.desk_requests.specs.declared.decision.Ask.TheVariants.{Plain, WithText}

abbrev pub Row : Type 0
Row = List ℕ × RouteOf (Option Part)

abbrev pub tail_of : Part → List ℕ
tail_of Parts.File = []
tail_of Parts.Report = codes "/report"
tail_of Parts.Trees = codes "/trees"
tail_of Parts.Detail = codes "/detail"

-- the route of a part of a project, after its name
abbrev pub project_row : Part → Row
project_row part = (
  codes "/projects/" ++ param_token ∷ tail_of part,
  record {
    pattern = codes "/projects/" ++ param_token ∷ tail_of part;
    text = codes "/projects/{name}" ++ tail_of part;
    names = (11, 15) ∷ [];
    value = Some part;
  },
)

abbrev pub projects_row : Row
projects_row = (
  codes "/projects",
  record { pattern = codes "/projects"; text = codes "/projects"; names = []; value = None },
)

abbrev pub desk_rows : RowsOf (RouteOf (Option Part))
desk_rows =
    project_row Parts.Detail
    ∷ project_row Parts.Report
    ∷ project_row Parts.Trees
    ∷ project_row Parts.File
    ∷ projects_row
    ∷ []

abbrev pub name_in : List ℕ → List ℕ
name_in target = take_while (λ b. not (b == 47)) (drop 10 target)

abbrev pub place_at : Option Part → List ℕ → Option Place
place_at None name = Some AllProjects
place_at (Some part) name = if is_project_name name then Some (Project part name) else None

abbrev pub place_on : Option (RouteOf (Option Part)) → List ℕ → Option Place
place_on None target = None
place_on (Some route) target = place_at route.value (name_in target)

abbrev pub place_of : List ℕ → Option Place
place_of target = place_on (first desk_rows target) target

-- the path of a place
abbrev pub path_of : Place → List ℕ
path_of AllProjects = codes "/projects"
path_of (Project part name) = codes "/projects/" ++ (name ++ tail_of part)

abbrev pub has_name : Place → Bool
has_name AllProjects = true
has_name (Project part name) = is_project_name name

abbrev pub methods_at : Part → Methods
methods_at Parts.File = Allowed.GetPutDelete
methods_at Parts.Report = Allowed.Get
methods_at Parts.Trees = Allowed.Get
methods_at Parts.Detail = Allowed.Post

abbrev pub methods_of : Place → Methods
methods_of AllProjects = Allowed.Get
methods_of (Project part name) = methods_at part

abbrev pub method_of : List ℕ → Option Method
method_of text =
    if bytes_eq text (codes "GET") then Some Get
    else if bytes_eq text (codes "PUT") then Some Put
    else if bytes_eq text (codes "DELETE") then Some Delete
    else if bytes_eq text (codes "POST") then Some Post
    else None

abbrev pub ask_of_all : Method → Option Ask
ask_of_all Get = Some (Plain Commands.Names)
ask_of_all _ = None

abbrev pub ask_of_project : Part → Method → List ℕ → Option Ask
ask_of_project Parts.File Get name = Some (Plain (Commands.Show name))
ask_of_project Parts.File Put name = Some (WithText Members.File name)
ask_of_project Parts.File Delete name = Some (Plain (Commands.Remove name))
ask_of_project Parts.Report Get name = Some (Plain (Commands.Report name))
ask_of_project Parts.Trees Get name = Some (Plain (Commands.Trees name))
ask_of_project Parts.Detail Post name = Some (WithText Members.Tree name)
ask_of_project _ _ name = None

abbrev pub ask_at : Place → Method → Option Ask
ask_at AllProjects method = ask_of_all method
ask_at (Project part name) method = ask_of_project part method name

abbrev pub ask_of : Place → List ℕ → Option Ask
ask_of place text = option_and_then (ask_at place) (method_of text)
