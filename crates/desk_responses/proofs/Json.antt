-- The list of names as a JSON text.
use Rattle.std.proofs.Common.{◌≡◌, ℕ, ◌==◌, nat_lt, List, [], ◌∷◌, ◌++◌, true, false, refl, sym, ap, ◌∙◌, inl, inr, arith, rules, tests}
use Rattle.std.specs.List.{list_all}
use Rattle.std.proofs.lemmas.Bool.{cases_Bool, false≢true}
use Rattle.std.proofs.lemmas.Bool.Decides.{nat_tests}
use Rattle.std.proofs.lemmas.List.{append_assoc}
use Rattle.json.specs.Print as print
use Rattle.serde_json.specs.Data.{array}
use Rattle.serde_json.specs.Written.{compact_text, items_text}
use Rattle.result_keeper.specs.ProjectName.{is_project_byte, is_project_name}
use Rattle.desk_requests.proofs.ProjectNames.{both, name_bytes}
use Rattle.desk_responses.specs.Names.{quoted, further_of, items_of, names_of, texts_of}

-- a byte of a name is none that is no byte of names
other : (b k : ℕ) → is_project_byte b ≡ true → is_project_byte k ≡ false → (b == k) ≡ false
other b k h none =
    elim (cases_Bool (b == k)) [
      | inl same ↦ let is : b ≡ k = grind (arith, nat_tests, same) in absurd (false≢true (sym none ∙ rw is at h))
      | inr differs ↦ differs
    ]

visible : (b : ℕ) → is_project_byte b ≡ true → nat_lt b 32 ≡ false
visible b h = search (rules, tests)

plain_byte : (b : ℕ) → is_project_byte b ≡ true → print.escape_byte b ≡ b ∷ []
unfolding print.escape_byte
plain_byte b h =
    rw (other b 34 h refl, other b 92 h refl, other b 8 h refl, other b 12 h refl, other b 10 h refl, other b 13 h refl, other b 9 h refl, visible b h) refl

plain_text : (name : List ℕ) → list_all is_project_byte name ≡ true → print.escape name ≡ name
plain_text [] h = refl
plain_text (b ∷ name) h =
    let parts = both (is_project_byte b) (list_all is_project_byte name) h in
    rw (plain_byte b parts.0, plain_text name parts.1) refl

quoted_is : (name : List ℕ) → is_project_name name ≡ true → print.quoted name ≡ quoted name
quoted_is [] h = absurd (false≢true h)
quoted_is (c ∷ cs) h = ap (λ s. 34 ∷ (s ++ 34 ∷ [])) (plain_text (c ∷ cs) (name_bytes c cs h).1)

further_is : (names : List (List ℕ)) → list_all is_project_name names ≡ true → items_text true (texts_of names) ≡ further_of names ++ 93 ∷ []
further_is [] h = refl
further_is (name ∷ names) h =
    let parts = both (is_project_name name) (list_all is_project_name names) h in
    ap (λ s. 44 ∷ s) (ap (λ q. q ++ items_text true (texts_of names)) (quoted_is name parts.0) ∙ (ap (λ s. quoted name ++ s) (further_is names parts.1) ∙ sym (append_assoc (quoted name) (further_of names) (93 ∷ []))))

items_are : (names : List (List ℕ)) → list_all is_project_name names ≡ true → items_text false (texts_of names) ≡ items_of names ++ 93 ∷ []
items_are [] h = refl
items_are (name ∷ names) h =
    let parts = both (is_project_name name) (list_all is_project_name names) h in
    ap (λ q. q ++ items_text true (texts_of names)) (quoted_is name parts.0) ∙ (ap (λ s. quoted name ++ s) (further_is names parts.1) ∙ sym (append_assoc (quoted name) (further_of names) (93 ∷ [])))

pub names_json : (names : List (List ℕ)) → list_all is_project_name names ≡ true → names_of names ≡ compact_text (array (texts_of names)) ++ 10 ∷ []
names_json names h = sym (ap (λ s. 91 ∷ (s ++ 10 ∷ [])) (items_are names h) ∙ ap (λ s. 91 ∷ s) (append_assoc (items_of names) (93 ∷ []) (10 ∷ [])))
