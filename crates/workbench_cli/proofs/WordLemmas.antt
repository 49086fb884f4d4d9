-- Words ask for one thing.
use Rattle.std.proofs.Common.{◌≡◌, ◌≤◌, ℕ, Bool, List, [], ◌∷◌, length, codes, Option, None, Some, true, false, if◌then◌else◌, ◌&&◌, ◌<◌, map, get_or, refl, sym, ap, ◌∙◌, subst, arith}
use Rattle.std.specs.Str.{bytes_eq}
use Rattle.std.specs.Str.Parse.{digits_value}
use Rattle.std.proofs.lemmas.Fmt.{decimal_is_IsNumeral}
use Rattle.workbench_store.specs.declared.request.Request.{Request}
use Rattle.workbench_store.specs.declared.request.Request.TheVariants.{Check, Add, Show, Remove, Names, Compute, Trees, Detail, Act, Multiply, Sample, Audit, Migrate}
use Rattle.workbench_store.specs.Requests.{words_of, IsAllowed, IsRequest, IsNoRequest}

-- what words could ask for, by their number
abbrev pub one_word : List ℕ → Option Request
one_word command =
    if bytes_eq command (codes "names") then Some Names
    else if bytes_eq command (codes "audit") then Some Audit
    else if bytes_eq command (codes "migrate") then Some Migrate else None

abbrev pub project_words : List ℕ → List ℕ → Option Request
project_words command name =
    if bytes_eq command (codes "show") then Some (Show name)
    else if bytes_eq command (codes "remove") then Some (Remove name)
    else if bytes_eq command (codes "compute") then Some (Compute name false)
    else if bytes_eq command (codes "trees") then Some (Trees name) else None

abbrev pub two_words : List ℕ → List ℕ → Option Request
two_words command word =
    if bytes_eq command (codes "check") then Some (Check word)
    else if bytes_eq command (codes "sample") then Some (Sample (digits_value 10 word)) else project_words command word

abbrev pub operand_words : List ℕ → List ℕ → List ℕ → Option Request
operand_words command name word =
    if bytes_eq command (codes "add") then Some (Add name word)
    else if bytes_eq command (codes "detail") then Some (Detail name word) else None

abbrev pub three_words : List ℕ → List ℕ → List ℕ → Option Request
three_words command name last =
    if bytes_eq command (codes "compute") && bytes_eq last (codes "--fresh") then Some (Compute name true)
    else operand_words command name last

abbrev pub four_words : List ℕ → List ℕ → List ℕ → List ℕ → Option Request
four_words command name tree table = if bytes_eq command (codes "act") then Some (Act name tree table false) else None

abbrev pub five_words : List ℕ → List ℕ → List ℕ → List ℕ → List ℕ → Option Request
five_words command name tree table last =
    if bytes_eq command (codes "multiply") then Some (Multiply name tree table last)
    else if bytes_eq command (codes "act") && bytes_eq last (codes "--recentre") then Some (Act name tree table true) else None

-- what these are the words of, where they are those of a request
abbrev pub request_of : List (List ℕ) → Option Request
request_of (command ∷ []) = one_word command
request_of (command ∷ word ∷ []) = two_words command word
request_of (command ∷ name ∷ last ∷ []) = three_words command name last
request_of (command ∷ name ∷ tree ∷ table ∷ []) = four_words command name tree table
request_of (command ∷ name ∷ tree ∷ table ∷ last ∷ []) = five_words command name tree table last
request_of _ = None

request_back : (r : Request) → IsAllowed r → request_of (words_of r) ≡ Some r
request_back (Check file) allowed = refl
request_back (Add name file) allowed = refl
request_back (Show name) allowed = refl
request_back (Remove name) allowed = refl
request_back Names allowed = refl
request_back (Compute name true) allowed = refl
request_back (Compute name false) allowed = refl
request_back (Trees name) allowed = refl
request_back (Detail name tree) allowed = refl
request_back (Act name tree table true) allowed = refl
request_back (Act name tree table false) allowed = refl
request_back (Multiply name tree first second) allowed = refl
request_back (Sample number) allowed = ap (λ n. Some (Sample n)) (decimal_is_IsNumeral number (omega (arith, allowed))).1
request_back Audit allowed = refl
request_back Migrate allowed = refl

pub request_found : (words : List (List ℕ)) (r : Request) → IsRequest words r → request_of words ≡ Some r
request_found words r h = ap request_of h.words_are ∙ request_back r h.allowed

pub same_request : (words : List (List ℕ)) (r s : Request) → IsRequest words r → IsRequest words s → r ≡ s
same_request words r s h k =
    let e : Some r ≡ Some s = sym (request_found words r h) ∙ request_found words s k in
    cc

-- words that ask for nothing
pub asks_for_nothing : (words : List (List ℕ)) → request_of words ≡ None → IsNoRequest words
asks_for_nothing words none r h = let e = request_found words r h in cc

-- words that could only ask for one thing, which is not allowed
pub asks_only_for : (words : List (List ℕ)) (only : Request) → request_of words ≡ Some only → (IsAllowed only → ⊥) → IsNoRequest words
asks_only_for words only found wrong r h =
    let e : Some r ≡ Some only = sym (request_found words r h) ∙ found in
    let same : r ≡ only = cc in
    wrong (subst IsAllowed same h.allowed)

-- requests have one to five words
pub count_of_words : (words : List (List ℕ)) (r : Request) → IsRequest words r → (1 ≤ length words) × (length words ≤ 5)
count_of_words words (Check file) h = let is : length words ≡ 2 = ap length h.words_are in (omega arith, omega arith)
count_of_words words (Add name file) h = let is : length words ≡ 3 = ap length h.words_are in (omega arith, omega arith)
count_of_words words (Show name) h = let is : length words ≡ 2 = ap length h.words_are in (omega arith, omega arith)
count_of_words words (Remove name) h = let is : length words ≡ 2 = ap length h.words_are in (omega arith, omega arith)
count_of_words words Names h = let is : length words ≡ 1 = ap length h.words_are in (omega arith, omega arith)
count_of_words words (Compute name true) h = let is : length words ≡ 3 = ap length h.words_are in (omega arith, omega arith)
count_of_words words (Compute name false) h = let is : length words ≡ 2 = ap length h.words_are in (omega arith, omega arith)
count_of_words words (Trees name) h = let is : length words ≡ 2 = ap length h.words_are in (omega arith, omega arith)
count_of_words words (Detail name tree) h = let is : length words ≡ 3 = ap length h.words_are in (omega arith, omega arith)
count_of_words words (Act name tree table true) h = let is : length words ≡ 5 = ap length h.words_are in (omega arith, omega arith)
count_of_words words (Act name tree table false) h = let is : length words ≡ 4 = ap length h.words_are in (omega arith, omega arith)
count_of_words words (Multiply name tree first second) h = let is : length words ≡ 5 = ap length h.words_are in (omega arith, omega arith)
count_of_words words (Sample number) h = let is : length words ≡ 2 = ap length h.words_are in (omega arith, omega arith)
count_of_words words Audit h = let is : length words ≡ 1 = ap length h.words_are in (omega arith, omega arith)
count_of_words words Migrate h = let is : length words ≡ 1 = ap length h.words_are in (omega arith, omega arith)

-- words by their number
pub all_five : {S : Type 0} (view : S → List ℕ) (words : List S) (a b c d e : S) → 5 ≤ length words → length words < 6
    → a ≡ get_or words 0 a → b ≡ get_or words 1 b → c ≡ get_or words 2 c → d ≡ get_or words 3 d → e ≡ get_or words 4 e → map view words ≡ view a ∷ view b ∷ view c ∷ view d ∷ view e ∷ []
all_five view [] a b c d e least most p q r s t = absurd (omega arith)
all_five view (v ∷ []) a b c d e least most p q r s t = absurd (omega arith)
all_five view (v ∷ w ∷ []) a b c d e least most p q r s t = absurd (omega arith)
all_five view (v ∷ w ∷ x ∷ []) a b c d e least most p q r s t = absurd (omega arith)
all_five view (v ∷ w ∷ x ∷ y ∷ []) a b c d e least most p q r s t = absurd (omega arith)
all_five view (v ∷ w ∷ x ∷ y ∷ z ∷ []) a b c d e least most p q r s t = cc
all_five view (v ∷ w ∷ x ∷ y ∷ z ∷ u ∷ words) a b c d e least most p q r s t = absurd (omega arith)
