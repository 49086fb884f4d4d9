-- Requests: the lines of the table of commands.
--   is_operand w == w can name a file or a table, or be the text of a tree: 1 to 4,096 bytes, the
--       first of which is not `-`
--   is_project_start c == c is a small letter or a digit
--   is_project_byte c == c is one of these, `-` or `_`
--   is_project_word w == w can name a project: 1 to 32 such bytes, the first a small letter or a
--       digit
--   recentre_words recentre == the word `--recentre`, where it is asked for
--   words_of r == the words of a request
--   IsAllowed r == each word in it is one that its place takes
--   IsRequest words r == the words are those of r, which is allowed
--   IsNoRequest words == the words are those of no allowed request
--   files_of r == the names of the files that a request reads, in their order; as long as projects
--       are not kept, a project is the file of its name
use Rattle.std.specs.Prelude.{◌≡◌, ◌≤◌, ◌==◌, ◌&&◌, ◌||◌, ℕ, Bool, true, false, not, nat_le, List, [], ◌∷◌, codes, decimal, length}
use Rattle.std.specs.Char.{is_ascii_lowercase, is_ascii_digit}
use Rattle.std.specs.List.{list_all}
use Rattle.limits.specs.declared.TheConstants.{MOST_WORD_BYTES, MOST_PROJECT_NAME_BYTES}
use Rattle.sample_files.specs.declared.TheConstants.{LARGEST_SAMPLE}
use Rattle.workbench_core.specs.declared.request.Request.{Request}
use Rattle.workbench_core.specs.declared.request.Request.TheVariants.{Check, Compute, Trees, Detail, Act, Multiply, Sample}

abbrev pub is_operand : List ℕ → Bool
is_operand [] = false
is_operand (c ∷ cs) = not (c == 45) && nat_le (length (c ∷ cs)) MOST_WORD_BYTES

abbrev pub is_project_start : ℕ → Bool
is_project_start c = is_ascii_lowercase c || is_ascii_digit c

abbrev pub is_project_byte : ℕ → Bool
is_project_byte c = (is_project_start c || (c == 45)) || (c == 95)

abbrev pub is_project_word : List ℕ → Bool
is_project_word [] = false
is_project_word (c ∷ cs) =
    (is_project_start c && list_all is_project_byte cs)
    && nat_le (length (c ∷ cs)) MOST_PROJECT_NAME_BYTES

abbrev pub recentre_words : Bool → List (List ℕ)
recentre_words false = []
recentre_words true = codes "--recentre" ∷ []

abbrev pub words_of : Request → List (List ℕ)
words_of (Check file) = codes "check" ∷ file ∷ []
words_of (Compute name) = codes "compute" ∷ name ∷ []
words_of (Trees name) = codes "trees" ∷ name ∷ []
words_of (Detail name tree) = codes "detail" ∷ name ∷ tree ∷ []
words_of (Act name tree table recentre) =
    codes "act" ∷ name ∷ tree ∷ table ∷ recentre_words recentre
words_of (Multiply name tree first second) = codes "multiply" ∷ name ∷ tree ∷ first ∷ second ∷ []
words_of (Sample number) = codes "sample" ∷ decimal number ∷ []

abbrev pub IsAllowed : Request → Type 0
IsAllowed (Check file) = is_operand file ≡ true
IsAllowed (Compute name) = is_project_word name ≡ true
IsAllowed (Trees name) = is_project_word name ≡ true
IsAllowed (Detail name tree) = (is_project_word name ≡ true) × (is_operand tree ≡ true)
IsAllowed (Act name tree table recentre) =
    (is_project_word name ≡ true) × (is_operand tree ≡ true) × (is_operand table ≡ true)
IsAllowed (Multiply name tree first second) =
    (is_project_word name ≡ true) × (is_operand tree ≡ true)
    × (is_operand first ≡ true) × (is_operand second ≡ true)
IsAllowed (Sample number) = number ≤ LARGEST_SAMPLE

pub record IsRequest (words : List (List ℕ)) (r : Request) : Type 0 where
  pub words_are : words ≡ words_of r
  pub allowed : IsAllowed r

abbrev pub IsNoRequest : List (List ℕ) → Type 0
IsNoRequest words = (r : Request) → IsRequest words r → ⊥

abbrev pub files_of : Request → List (List ℕ)
files_of (Check file) = file ∷ []
files_of (Compute name) = name ∷ []
files_of (Trees name) = name ∷ []
files_of (Detail name tree) = name ∷ []
files_of (Act name tree table recentre) = name ∷ table ∷ []
files_of (Multiply name tree first second) = name ∷ first ∷ second ∷ []
files_of (Sample number) = []
