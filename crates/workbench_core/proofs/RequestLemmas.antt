-- Words ask for one thing.
use Rattle.std.proofs.Common.{◌≡◌, ◌≤◌, ℕ, List, [], ◌∷◌, length, codes, Option, None, Some, true, false, if◌then◌else◌, refl, sym, ap, ◌∙◌, subst, arith}
use Rattle.std.specs.Str.{bytes_eq}
use Rattle.std.specs.Str.Parse.{digits_value}
use Rattle.std.proofs.lemmas.Fmt.{decimal_is_IsNumeral}
use Rattle.workbench_core.specs.declared.request.Request.{Request}
use Rattle.workbench_core.specs.declared.request.Request.TheVariants.{Check, Compute, Trees, Detail, Act, Multiply, Sample}
use Rattle.workbench_core.specs.Requests.{words_of, IsAllowed, IsRequest, IsNoRequest}

-- the request of two words
abbrev pub request_of_two : List ℕ → List ℕ → Option Request
request_of_two command word =
    if bytes_eq command (codes "check") then Some (Check word)
    else if bytes_eq command (codes "compute") then Some (Compute word)
    else if bytes_eq command (codes "trees") then Some (Trees word)
    else if bytes_eq command (codes "sample") then Some (Sample (digits_value 10 word)) else None

abbrev pub request_of_three : List ℕ → List ℕ → List ℕ → Option Request
request_of_three command name tree = if bytes_eq command (codes "detail") then Some (Detail name tree) else None

abbrev pub request_of_four : List ℕ → List ℕ → List ℕ → List ℕ → Option Request
request_of_four command name tree table = if bytes_eq command (codes "act") then Some (Act name tree table false) else None

abbrev pub request_of_five : List ℕ → List ℕ → List ℕ → List ℕ → List ℕ → Option Request
request_of_five command name tree table last =
    if bytes_eq command (codes "multiply") then Some (Multiply name tree table last)
    else if bytes_eq command (codes "act") then (if bytes_eq last (codes "--recentre") then Some (Act name tree table true) else None) else None

-- what these are the words of, where they are those of a request
abbrev pub request_of : List (List ℕ) → Option Request
request_of (command ∷ word ∷ []) = request_of_two command word
request_of (command ∷ name ∷ tree ∷ []) = request_of_three command name tree
request_of (command ∷ name ∷ tree ∷ table ∷ []) = request_of_four command name tree table
request_of (command ∷ name ∷ tree ∷ table ∷ last ∷ []) = request_of_five command name tree table last
request_of _ = None

request_back : (r : Request) → IsAllowed r → request_of (words_of r) ≡ Some r
request_back (Check file) allowed = refl
request_back (Compute name) allowed = refl
request_back (Trees name) allowed = refl
request_back (Detail name tree) allowed = refl
request_back (Act name tree table false) allowed = refl
request_back (Act name tree table true) allowed = refl
request_back (Multiply name tree first second) allowed = refl
request_back (Sample number) allowed = ap (λ n. Some (Sample n)) (decimal_is_IsNumeral number (omega (arith, allowed))).1

pub request_found : (words : List (List ℕ)) (r : Request) → IsRequest words r → request_of words ≡ Some r
request_found words r h = ap request_of h.words_are ∙ request_back r h.allowed

pub same_request : (words : List (List ℕ)) (r s : Request) → IsRequest words r → IsRequest words s → r ≡ s
same_request words r s h k =
    let e : Some r ≡ Some s = sym (request_found words r h) ∙ request_found words s k in
    cc

-- words that ask for nothing
pub asks_for_nothing : (words : List (List ℕ)) → request_of words ≡ None → IsNoRequest words
asks_for_nothing words none r h = let e = request_found words r h in cc

-- words that could only ask for one thing, which is not allowed
pub asks_only_for : (words : List (List ℕ)) (only : Request) → request_of words ≡ Some only → (IsAllowed only → ⊥) → IsNoRequest words
asks_only_for words only found wrong r h =
    let e : Some r ≡ Some only = sym (request_found words r h) ∙ found in
    let same : r ≡ only = cc in
    wrong (subst IsAllowed same h.allowed)

-- requests have two to five words
pub count_of_words : (words : List (List ℕ)) (r : Request) → IsRequest words r → (2 ≤ length words) × (length words ≤ 5)
count_of_words words (Check file) h = let is : length words ≡ 2 = ap length h.words_are in (omega arith, omega arith)
count_of_words words (Compute name) h = let is : length words ≡ 2 = ap length h.words_are in (omega arith, omega arith)
count_of_words words (Trees name) h = let is : length words ≡ 2 = ap length h.words_are in (omega arith, omega arith)
count_of_words words (Detail name tree) h = let is : length words ≡ 3 = ap length h.words_are in (omega arith, omega arith)
count_of_words words (Act name tree table false) h = let is : length words ≡ 4 = ap length h.words_are in (omega arith, omega arith)
count_of_words words (Act name tree table true) h = let is : length words ≡ 5 = ap length h.words_are in (omega arith, omega arith)
count_of_words words (Multiply name tree first second) h = let is : length words ≡ 5 = ap length h.words_are in (omega arith, omega arith)
count_of_words words (Sample number) h = let is : length words ≡ 2 = ap length h.words_are in (omega arith, omega arith)
