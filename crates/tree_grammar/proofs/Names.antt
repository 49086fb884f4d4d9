-- What a name is made of.
use Rattle.std.proofs.Common.{◌≡◌, ℕ, ◌<◌, Bool, true, false, List, [], ◌∷◌, length, refl, arith, nat_lt}
use Rattle.std.proofs.lemmas.Bool.{and_parts, not-true}
use Rattle.std.proofs.lemmas.Bool.Decides.{nat_tests}
use Rattle.std.specs.Prelude.{◌&&◌, not}
use Rattle.std.specs.Char.{is_ascii_alphabetic}
use Rattle.std.specs.List.{AllByRecursion, list_all}
use Rattle.degree_numbers.specs.Name.{is_name, is_name_byte, is_reserved}

abbrev pub IsName : List ℕ → Type 0
IsName [] = ⊥
IsName (b ∷ bs) = (is_ascii_alphabetic b ≡ true) × AllByRecursion (λ c. is_name_byte c ≡ true) bs × (length bs < 16) × (is_reserved (b ∷ bs) ≡ false)

pub and_true : (a b : Bool) → a ≡ true → b ≡ true → (a && b) ≡ true
and_true true true h k = refl
and_true true false h k = absurd cc
and_true false b h k = absurd cc

pub all_bytes : (bs : List ℕ) → list_all is_name_byte bs ≡ true → AllByRecursion (λ c. is_name_byte c ≡ true) bs
all_bytes [] h = tt
all_bytes (b ∷ bs) h = let t = and_parts (is_name_byte b) (list_all is_name_byte bs) h in (t.0, all_bytes bs t.1)

pub list_all_bytes : (bs : List ℕ) → AllByRecursion (λ c. is_name_byte c ≡ true) bs → list_all is_name_byte bs ≡ true
list_all_bytes [] h = refl
list_all_bytes (b ∷ bs) h = and_true (is_name_byte b) (list_all is_name_byte bs) h.0 (list_all_bytes bs h.1)

pub name_parts : (n : List ℕ) → is_name n ≡ true → IsName n
name_parts [] h = absurd cc
name_parts (b ∷ bs) h =
    let t = and_parts (is_ascii_alphabetic b && list_all is_name_byte bs) (nat_lt (length bs) 16 && not (is_reserved (b ∷ bs))) h in
    let u = and_parts (is_ascii_alphabetic b) (list_all is_name_byte bs) t.0 in
    let v = and_parts (nat_lt (length bs) 16) (not (is_reserved (b ∷ bs))) t.1 in
    (u.0, all_bytes bs u.1, grind (arith, nat_tests), not-true (is_reserved (b ∷ bs)) v.1)

pub parts_name : (n : List ℕ) → IsName n → is_name n ≡ true
parts_name [] h = absurd h
parts_name (b ∷ bs) h =
    let short : nat_lt (length bs) 16 ≡ true = grind (arith, nat_tests) in
    rw (h.0, list_all_bytes bs h.1, short, h.3) refl
