-- The multiindex of a variable is read back.
use Rattle.std.proofs.Common.{◌≡◌, ℕ, zero, suc, ◌-◌, ◌<◌, ◌≤◌, ◌^◌, min, true, List, [], ◌∷◌, ◌++◌, length, take, drop, decimal, Some, None, refl, ap, sym, ◌∙◌, arith, append_assoc}
use Rattle.std.proofs.lemmas.Bool.{and_parts}
use Rattle.std.proofs.lemmas.Bool.Decides.{nat_tests}
use Rattle.std.proofs.lemmas.List.{take-append-drop, length-drop, length-take}
use Rattle.std.specs.Prelude.{◌==◌}
use Rattle.std.specs.List.{AllByRecursion}
use Rattle.text_parts.specs.Reading.{number_at}
use Rattle.text_parts.proofs.Back.{number_back, Stops}
use Rattle.degree_numbers.specs.EdgeText.{further_text, listed_text}
use Rattle.degree_numbers.specs.Multi.{is_zero}
use Rattle.degree_numbers.specs.Name.{padding}
use Rattle.plain_trees.specs.Degree.{IsMultiIndex}
use Rattle.tree_grammar.specs.Words.{behind_comma}
use Rattle.symbol_polys.specs.SymbolReading.{entry_at, entries_at, within}

nothing_there : number_at [] ≡ None
unfolding number_at
nothing_there = refl

no_entries : (k : ℕ) → entries_at k [] ≡ padding k
no_entries zero = refl
no_entries (suc k) = rw nothing_there (ap (λ (m : List ℕ). 0 ∷ m) (no_entries k))

stops : (es : List ℕ) → Stops (further_text es ++ 41 ∷ [])
stops [] = (refl, refl)
stops (e ∷ es) = (refl, refl)

entry_back : (e : ℕ) (es : List ℕ) → e < 2 ^ 32 → entry_at (decimal e ++ (further_text es ++ 41 ∷ [])) ≡ (e, behind_comma (further_text es ++ 41 ∷ []))
entry_back e es fits =
    let rest = further_text es ++ 41 ∷ [] in
    let least : min e (2 ^ 32 - 1) ≡ e = omega arith in
    rw (number_back e rest (omega arith) (stops es), least) refl

one_more : (k e : ℕ) (es : List ℕ) → e < 2 ^ 32 →
    entries_at (suc k) (listed_text (e ∷ es) ++ 41 ∷ []) ≡ e ∷ entries_at k (behind_comma (further_text es ++ 41 ∷ []))
one_more k e es fits =
    ap (entries_at (suc k)) (append_assoc (decimal e) (further_text es) (41 ∷ [])) ∙ rw (entry_back e es fits) refl

entries_back : (k : ℕ) (es : List ℕ) → 0 < length es → length es ≤ k →
    AllByRecursion (λ x. x < 2 ^ 32) es →
    entries_at k (listed_text es ++ 41 ∷ []) ≡ es ++ padding (k - length es)
entries_back k [] some l h = absurd (omega arith)
entries_back zero (e ∷ es) some l h = absurd (omega arith)
entries_back (suc k) (e ∷ []) some l h =
    let left : suc k - 1 ≡ k = omega arith in
    one_more k e [] h.0 ∙ ap (λ (m : List ℕ). e ∷ m) (no_entries k ∙ ap padding (sym left))
entries_back (suc k) (e ∷ f ∷ es) some l h =
    let left : suc k - length (e ∷ f ∷ es) ≡ k - length (f ∷ es) = omega arith in
    one_more k e (f ∷ es) h.0 ∙ ap (λ (m : List ℕ). e ∷ m) (entries_back k (f ∷ es) (omega arith) (omega arith) h.1 ∙ ap (λ (n : ℕ). f ∷ (es ++ padding n)) (sym left))

zeros : (xs : List ℕ) → AllByRecursion (λ x. x ≡ 0) xs → xs ≡ padding (length xs)
zeros [] h = refl
zeros (x ∷ xs) h = let w : x ≡ 0 = h.0 in ap (λ (y : ℕ). y ∷ xs) w ∙ ap (λ (m : List ℕ). 0 ∷ m) (zeros xs h.1)

pub all_zero : (xs : List ℕ) → is_zero xs ≡ true → AllByRecursion (λ x. x ≡ 0) xs
all_zero [] h = tt
all_zero (x ∷ xs) h = let t = and_parts (x == 0) (is_zero xs) h in (grind (arith, nat_tests), all_zero xs t.1)

pub is_all_zero : (xs : List ℕ) → AllByRecursion (λ x. x ≡ 0) xs → is_zero xs ≡ true
is_all_zero [] h = refl
is_all_zero (x ∷ xs) h = let one : (x == 0) ≡ true = grind (arith, nat_tests) in rw one (is_all_zero xs h.1)

all_front : (n : ℕ) (xs : List ℕ) → AllByRecursion (λ x. x < 2 ^ 32) xs → AllByRecursion (λ x. x < 2 ^ 32) (take n xs)
all_front zero xs h = tt
all_front (suc n) [] h = tt
all_front (suc n) (x ∷ xs) h = (h.0, all_front n xs h.1)

-- a multiindex that is 0
pub zero_index : (m : List ℕ) → length m ≡ 5 → is_zero m ≡ true → 0 ∷ 0 ∷ 0 ∷ 0 ∷ 0 ∷ [] ≡ m
zero_index m five h = sym (zeros m (all_zero m h) ∙ ap padding five)

-- the entries of a printed multiindex
pub index_back : (dims : ℕ) (m : List ℕ) → 0 < dims → dims ≤ 5 → IsMultiIndex dims m →
    AllByRecursion (λ x. x < 2 ^ 32) m → entries_at 5 (listed_text (take dims m) ++ 41 ∷ []) ≡ m
index_back dims m some most h fits =
    let front : length (take dims m) ≡ dims = omega (arith, length-take dims m, h.entries) in
    let back : length (drop dims m) ≡ 5 - length (take dims m) = omega (arith, length-drop dims m, h.entries, front) in
    entries_back 5 (take dims m) (omega (arith, front)) (omega (arith, front)) (all_front dims m fits)
    ∙ ap (λ (n : ℕ). take dims m ++ padding n) (sym back)
    ∙ ap (λ (xs : List ℕ). take dims m ++ xs) (sym (zeros (drop dims m) h.rest))
    ∙ take-append-drop dims m

pub within_back : (dims : ℕ) (m : List ℕ) → IsMultiIndex dims m → within dims m ≡ Some m
within_back dims m h = rw (is_all_zero (drop dims m) h.rest) refl
