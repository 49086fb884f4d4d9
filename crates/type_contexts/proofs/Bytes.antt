-- Bytes that a text lacks, so that it is found again where texts are joined by them.
use Rattle.std.proofs.Common.{◌≡◌, ℕ, ◌<◌, ◌^◌, Bool, true, false, List, [], ◌∷◌, ◌++◌, decimal, arith, rules, tests, refl, ap, sym, ◌∙◌, eqb-true}
use Rattle.std.specs.Prelude.{◌==◌, ◌&&◌, if◌then◌else◌, codes}
use Rattle.std.specs.Char.{is_ascii_digit, is_ascii_alphabetic}
use Rattle.std.specs.Int.{IsInRange}
use Rattle.std.specs.List.{AllByRecursion, join_with_byte, list_all, slice_split}
use Rattle.std.specs.Str.Parse.{AllDigits}
use Rattle.std.proofs.lemmas.Bool.{and_parts, false≢true}
use Rattle.std.proofs.lemmas.Fmt.{decimal_is_IsNumeral}
use Rattle.std.proofs.lemmas.List.Elements.{All-from_recursion}
use Rattle.std.proofs.lemmas.List.Splits.{slice_split_none, slice_split_at}
use Rattle.std.proofs.lemmas.Str.Parse.{digit_from_value}
use Rattle.degree_numbers.specs.Fraction.{Fraction}
use Rattle.degree_numbers.specs.Name.{is_name, is_name_byte}
use Rattle.degree_numbers.specs.Printing.{fraction_text, plain_text, k_text, k_sign, degree_text}

-- no byte is c
abbrev pub Lacks : ℕ → List ℕ → Type 0
Lacks c text = AllByRecursion (λ x. (x == c) ≡ false) text

pub lacks-append : (c : ℕ) (xs ys : List ℕ) → Lacks c xs → Lacks c ys → Lacks c (xs ++ ys)
lacks-append c [] ys h k = k
lacks-append c (x ∷ xs) ys h k = (h.0, lacks-append c xs ys h.1 k)

pub lacks_join : (c d : ℕ) (ws : List (List ℕ)) → (d == c) ≡ false → AllByRecursion (Lacks c) ws → Lacks c (join_with_byte d ws)
lacks_join c d [] other h = tt
lacks_join c d (w ∷ []) other h = h.0
lacks_join c d (w ∷ v ∷ ws) other h = lacks-append c w (d ∷ join_with_byte d (v ∷ ws)) h.0 (other, lacks_join c d (v ∷ ws) other h.1)

-- texts that are joined by a byte that they lack are found again
pub split_join : (c : ℕ) (w : List ℕ) (ws : List (List ℕ)) → (c == c) ≡ true → Lacks c w →
    AllByRecursion (Lacks c) ws → slice_split (λ b. b == c) (join_with_byte c (w ∷ ws)) ≡ w ∷ ws
split_join c w [] same h hs = slice_split_none (λ b. b == c) w (All-from_recursion (λ x. (x == c) ≡ false) w h)
split_join c w (v ∷ ws) same h hs =
    slice_split_at (λ b. b == c) w c (join_with_byte c (v ∷ ws)) (All-from_recursion (λ x. (x == c) ≡ false) w h) same ∙ ap (λ ps. w ∷ ps) (split_join c v ws same hs.0 hs.1)

apart_by : (p : ℕ → Bool) (x c : ℕ) → p x ≡ true → p c ≡ false → (x == c) ≡ false
apart_by p x c here there =
    (elim (x == c) as (λ b. (x == c) ≡ b → b ≡ false) [
      | true ↦ λ e. absurd (false≢true (sym there ∙ ap p (sym (eqb-true x c e)) ∙ here))
      | false ↦ λ e. refl
    ]) refl

digit_test : (c : ℕ) → IsInRange 48 57 c → is_ascii_digit c ≡ true
digit_test c h = search (rules, tests)

lacks_digits : (c : ℕ) (xs : List ℕ) → is_ascii_digit c ≡ false → AllDigits 10 xs → Lacks c xs
lacks_digits c [] other h = tt
lacks_digits c (x ∷ xs) other h = (apart_by is_ascii_digit x c (digit_test x (digit_from_value x h.0)) other, lacks_digits c xs other h.1)

pub lacks_decimal : (c n : ℕ) → is_ascii_digit c ≡ false → n < 2 ^ 63 → Lacks c (decimal n)
lacks_decimal c n other fits = lacks_digits c (decimal n) other (decimal_is_IsNumeral n (omega (arith, fits))).0.1

first_byte : (x : ℕ) → is_ascii_alphabetic x ≡ true → is_name_byte x ≡ true
first_byte x h = rw h refl

name_bytes : (c : ℕ) (xs : List ℕ) → is_name_byte c ≡ false → list_all is_name_byte xs ≡ true → Lacks c xs
name_bytes c [] other h = tt
name_bytes c (x ∷ xs) other h = let both = and_parts (is_name_byte x) (list_all is_name_byte xs) h in (apart_by is_name_byte x c both.0 other, name_bytes c xs other both.1)

pub lacks_name : (c : ℕ) (name : List ℕ) → is_name_byte c ≡ false → is_name name ≡ true → Lacks c name
lacks_name c [] other h = tt
lacks_name c (x ∷ xs) other h =
    let whole = and_parts (is_ascii_alphabetic x && list_all is_name_byte xs) _ h in
    let front = and_parts (is_ascii_alphabetic x) (list_all is_name_byte xs) whole.0 in
    (apart_by is_name_byte x c (first_byte x front.0) other, name_bytes c xs other front.1)

-- c is no byte of a degree text
pub record IsOther (c : ℕ) : Type 0 where
  pub digit : is_ascii_digit c ≡ false
  pub plus : (43 == c) ≡ false
  pub minus : (45 == c) ≡ false
  pub slash : (47 == c) ≡ false
  pub star : (42 == c) ≡ false
  pub k : (107 == c) ≡ false
  pub nought : (48 == c) ≡ false

chosen : (c : ℕ) (b : Bool) (xs ys : List ℕ) → Lacks c xs → Lacks c ys → Lacks c (if b then xs else ys)
chosen c true xs ys h k = h
chosen c false xs ys h k = k

lacks_fraction : (c : ℕ) (f : Fraction) → IsOther c → f.num < 2 ^ 63 → f.den < 2 ^ 63 → Lacks c (fraction_text f)
lacks_fraction c f o num den =
    lacks-append c (decimal f.num) _ (lacks_decimal c f.num o.digit num)
    (chosen c (f.den == 1) [] (codes "/" ++ decimal f.den) tt (o.slash, lacks_decimal c f.den o.digit den))

lacks_plain : (c : ℕ) (f : Fraction) → IsOther c → f.num < 2 ^ 63 → f.den < 2 ^ 63 → Lacks c (plain_text f)
lacks_plain c f o num den =
    chosen c (f.num == 0) [] ((if f.negative then codes "-" else []) ++ fraction_text f) tt
    (lacks-append c (if f.negative then codes "-" else []) (fraction_text f) (chosen c f.negative (codes "-") [] (o.minus, tt) tt) (lacks_fraction c f o num den))

lacks_sign : (c : ℕ) (first : Bool) (f : Fraction) → IsOther c → Lacks c (k_sign first f)
lacks_sign c first f o = chosen c f.negative (codes "-") (if first then [] else codes "+") (o.minus, tt) (chosen c first [] (codes "+") tt (o.plus, tt))

lacks_k : (c : ℕ) (f : Fraction) → IsOther c → f.num < 2 ^ 63 → f.den < 2 ^ 63 → Lacks c (k_text f)
lacks_k c f o num den =
    chosen c (f.num == 1 && f.den == 1) (codes "k") (fraction_text f ++ codes "*k") (o.k, tt)
    (lacks-append c (fraction_text f) (codes "*k") (lacks_fraction c f o num den) (o.star, (o.k, tt)))

pub lacks_degree : (c : ℕ) (a b : Fraction) → IsOther c → a.num < 2 ^ 63 → a.den < 2 ^ 63 → b.num < 2 ^ 63 → b.den < 2 ^ 63 → Lacks c (degree_text a b)
lacks_degree c a b o a_num a_den b_num b_den =
    chosen c (b.num == 0) (if a.num == 0 then codes "0" else plain_text a) (plain_text a ++ k_sign (a.num == 0) b ++ k_text b)
    (chosen c (a.num == 0) (codes "0") (plain_text a) (o.nought, tt) (lacks_plain c a o a_num a_den))
    (lacks-append c (plain_text a ++ k_sign (a.num == 0) b) (k_text b)
    (lacks-append c (plain_text a) (k_sign (a.num == 0) b) (lacks_plain c a o a_num a_den) (lacks_sign c (a.num == 0) b o)) (lacks_k c b o b_num b_den))

pub space_is_other : IsOther 32
space_is_other = record { digit = refl; plus = refl; minus = refl; slash = refl; star = refl; k = refl; nought = refl }

pub bar_is_other : IsOther 124
bar_is_other = record { digit = refl; plus = refl; minus = refl; slash = refl; star = refl; k = refl; nought = refl }
