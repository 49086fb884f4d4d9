-- Requests: the lines of the table of commands.
--   fresh_words fresh == the word `--fresh`, where rows are made anew
--   words_of r == the words of a request
--   IsName name == name is the name of a project
--   IsOperand word == word can name a file or a table, or be the text of a tree
--   IsAllowed r == each word in it is one that its place takes
--   IsRequest words r == the words are those of r, which is allowed
--   IsNoRequest words == the words are those of no allowed request
--   files_of r == the names of the files that a request reads, in their order
--   command_of r files == what is asked of the store, where these are the bytes of its files
use Rattle.std.specs.Prelude.{◌≡◌, ◌≤◌, ⊤, ℕ, Bool, true, false, List, [], ◌∷◌, codes, decimal}
use Rattle.result_keeper.specs.ProjectName.{is_project_name}
use Rattle.sample_files.specs.declared.TheConstants.{LARGEST_SAMPLE}
use Rattle.workbench_core.specs.Answers.{file_at}
use Rattle.workbench_core.specs.Requests.{is_operand, recentre_words}
use Rattle.workbench_store.specs.declared.command.Command.{Command}
use Rattle.workbench_store.specs.declared.command.Command.TheVariants as commands
use Rattle.workbench_store.specs.declared.request.Request.{Request}
use Rattle.workbench_store.specs.declared.request.Request.TheVariants.{Check, Add, Show, Remove, Names, Compute, Trees, Detail, Act, Multiply, Sample, Audit, Migrate}

abbrev pub fresh_words : Bool → List (List ℕ)
fresh_words true = codes "--fresh" ∷ []
fresh_words false = []

abbrev pub words_of : Request → List (List ℕ)
words_of (Check file) = codes "check" ∷ file ∷ []
words_of (Add name file) = codes "add" ∷ name ∷ file ∷ []
words_of (Show name) = codes "show" ∷ name ∷ []
words_of (Remove name) = codes "remove" ∷ name ∷ []
words_of Names = codes "names" ∷ []
words_of (Compute name fresh) = codes "compute" ∷ name ∷ fresh_words fresh
words_of (Trees name) = codes "trees" ∷ name ∷ []
words_of (Detail name tree) = codes "detail" ∷ name ∷ tree ∷ []
words_of (Act name tree table recentre) =
    codes "act" ∷ name ∷ tree ∷ table ∷ recentre_words recentre
words_of (Multiply name tree first second) =
    codes "multiply" ∷ name ∷ tree ∷ first ∷ second ∷ []
words_of (Sample number) = codes "sample" ∷ decimal number ∷ []
words_of Audit = codes "audit" ∷ []
words_of Migrate = codes "migrate" ∷ []

abbrev pub IsName : List ℕ → Type 0
IsName name = is_project_name name ≡ true

abbrev pub IsOperand : List ℕ → Type 0
IsOperand word = is_operand word ≡ true

abbrev pub IsAllowed : Request → Type 0
IsAllowed (Check file) = IsOperand file
IsAllowed (Add name file) = IsName name × IsOperand file
IsAllowed (Show name) = IsName name
IsAllowed (Remove name) = IsName name
IsAllowed Names = ⊤
IsAllowed (Compute name fresh) = IsName name
IsAllowed (Trees name) = IsName name
IsAllowed (Detail name tree) = IsName name × IsOperand tree
IsAllowed (Act name tree table recentre) = IsName name × IsOperand tree × IsOperand table
IsAllowed (Multiply name tree first second) =
    IsName name × IsOperand tree × IsOperand first × IsOperand second
IsAllowed (Sample number) = number ≤ LARGEST_SAMPLE
IsAllowed Audit = ⊤
IsAllowed Migrate = ⊤

pub record IsRequest (words : List (List ℕ)) (r : Request) : Type 0 where
  pub words_are : words ≡ words_of r
  pub allowed : IsAllowed r

abbrev pub IsNoRequest : List (List ℕ) → Type 0
IsNoRequest words = (r : Request) → IsRequest words r → ⊥

abbrev pub files_of : Request → List (List ℕ)
files_of (Check file) = file ∷ []
files_of (Add name file) = file ∷ []
files_of (Act name tree table recentre) = table ∷ []
files_of (Multiply name tree first second) = first ∷ second ∷ []
files_of r = []

abbrev pub command_of : Request → List (List ℕ) → Command
command_of (Check file) files = commands.Check (file_at files 0)
command_of (Add name file) files = commands.Add name (file_at files 0)
command_of (Show name) files = commands.Show name
command_of (Remove name) files = commands.Remove name
command_of Names files = commands.Names
command_of (Compute name fresh) files = commands.Compute name fresh
command_of (Trees name) files = commands.Trees name
command_of (Detail name tree) files = commands.Detail name tree
command_of (Act name tree table recentre) files =
    commands.Act name tree (file_at files 0) recentre
command_of (Multiply name tree first second) files =
    commands.Multiply name tree (file_at files 0) (file_at files 1)
command_of (Sample number) files = commands.Sample number
command_of Audit files = commands.Audit
command_of Migrate files = commands.Migrate
