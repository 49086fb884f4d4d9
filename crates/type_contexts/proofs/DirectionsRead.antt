-- The directions that may be reflected, read of what is printed.
use Rattle.std.proofs.Common.{◌≡◌, ℕ, zero, suc, ◌+◌, ◌<◌, ◌≤◌, Bool, true, false, true≢false, List, [], ◌∷◌, ◌++◌, map, take, length, get_or, decimal, arith, refl, ap, sym, subst, ◌∙◌, Option, Some, None}
use Rattle.std.specs.Prelude.{◌==◌, slice_index, codes}
use Rattle.std.proofs.lemmas.List.{length-map, take_more}
use Rattle.std.specs.Char.{is_ascii_digit}
use Rattle.std.specs.List.{AllByRecursion, join_with_byte, slice_split}
use Rattle.degree_numbers.specs.Types.{IsMoments, AreDirections, AreTypes}
use Rattle.degree_numbers.specs.declared.types.Types.{Types}
use Rattle.degree_numbers.proofs.TypeBounds.{all_weaker}
use Rattle.type_contexts.specs.Context.{moments_text, directions_text, reflect_text}
use Rattle.type_contexts.specs.Scaling.{second_of}
use Rattle.type_contexts.proofs.Bytes.{Lacks, lacks_join, lacks_decimal, split_join}

directions_most : (past dims : ℕ) (is : List ℕ) → AreDirections past dims is → AllByRecursion (λ i. i ≤ dims) is
directions_most past dims [] h = tt
directions_most past dims (i ∷ is) h = (h.1, directions_most i dims is h.2)

-- the directions of types are few
pub directions_small : (ty : Types) → AreTypes ty → AllByRecursion (λ i. i ≤ 5) ty.reflect
directions_small ty h = all_weaker (λ i. i ≤ ty.dims) (λ i. i ≤ 5) ty.reflect (λ i le. let most = h.scaling.most in omega (arith, le, most)) (directions_most 0 ty.dims ty.reflect h.reflected)

numbers_lack : (c : ℕ) (is : List ℕ) → is_ascii_digit c ≡ false → AllByRecursion (λ i. i ≤ 5) is → AllByRecursion (Lacks c) (map decimal is)
numbers_lack c [] other h = tt
numbers_lack c (i ∷ is) other h = let small = h.0 in (lacks_decimal c i other (omega (arith, small)), numbers_lack c is other h.1)

pub directions_lack : (c : ℕ) (is : List ℕ) → is_ascii_digit c ≡ false → (45 == c) ≡ false →
    (44 == c) ≡ false → AllByRecursion (λ i. i ≤ 5) is → Lacks c (directions_text is)
directions_lack c [] digit minus comma h = (minus, tt)
directions_lack c (i ∷ is) digit minus comma h = lacks_join c 44 (map decimal (i ∷ is)) comma (numbers_lack c (i ∷ is) digit h)

pub reflect_lacks : (ty : Types) → AreTypes ty → Lacks 124 (reflect_text ty)
reflect_lacks ty h =
    lacks_join 124 32 (codes "reflect" ∷ directions_text ty.reflect ∷ []) refl ((refl, (refl, (refl, (refl, (refl, (refl, (refl, tt))))))), (directions_lack 124 ty.reflect refl refl refl (directions_small ty h), tt))

-- the words of the piece
pub reflect_words : (ty : Types) → AreTypes ty → slice_split (λ b. b == 32) (reflect_text ty) ≡ codes "reflect" ∷ directions_text ty.reflect ∷ []
reflect_words ty h =
    split_join 32 (codes "reflect") (directions_text ty.reflect ∷ []) refl (refl, (refl, (refl, (refl, (refl, (refl, (refl, tt))))))) (directions_lack 32 ty.reflect refl refl refl (directions_small ty h), tt)

pub text_found : {A : Type 0} (f : A → List ℕ) (ty : Types) (piece : List ℕ) (items slice : List A) (r : Option (List ℕ)) →
    AreTypes ty → piece ≡ reflect_text ty → map f items ≡ slice_split (λ b. b == 32) piece →
    slice ≡ items → r ≡ second_of (map f slice) → r ≡ Some (directions_text ty.reflect)
text_found f ty piece items slice r h is cut same told = told ∙ ap second_of (ap (map f) same ∙ cut ∙ ap (slice_split (λ b. b == 32)) is ∙ reflect_words ty h)

-- and its numbers
pub directions_cut : (i : ℕ) (is : List ℕ) → AllByRecursion (λ n. n ≤ 5) (i ∷ is) → slice_split (λ b. b == 44) (directions_text (i ∷ is)) ≡ map decimal (i ∷ is)
directions_cut i is h = let all = numbers_lack 44 (i ∷ is) refl h in split_join 44 (decimal i) (map decimal is) refl all.0 all.1

pub numbers_found : {A : Type 0} (f : A → List ℕ) (i : ℕ) (is text : List ℕ) (items slice : List A) →
    AllByRecursion (λ n. n ≤ 5) (i ∷ is) → text ≡ directions_text (i ∷ is) →
    map f items ≡ slice_split (λ b. b == 44) text → slice ≡ items →
    map f slice ≡ map decimal (i ∷ is)
numbers_found f i is text items slice h e cut same =
    ap (map f) same ∙ cut ∙ ap (slice_split (λ b. b == 44)) e ∙ directions_cut i is h

-- a number has no minus sign in it
pub minus_is_none : (n : ℕ) → n ≤ 20 → codes "-" ≡ decimal n → ⊥
minus_is_none n le e = let lacks = subst (Lacks 45) (sym e) (lacks_decimal 45 n refl (omega (arith, le))) in true≢false lacks.0

pub minus_read : (m : Option ℕ) → IsMoments m → codes "-" ≡ moments_text m → ◌≡◌ {A = Option (Option ℕ)} (Some None) (Some m)
minus_read None h e = refl
minus_read (Some n) h e = absurd (minus_is_none n h e)

pub numbers_are : (i : ℕ) (is : List ℕ) → AllByRecursion (λ n. n ≤ 5) (i ∷ is) → codes "-" ≡ directions_text (i ∷ is) → ⊥
numbers_are i is h e =
    let lacks = subst (Lacks 45) (sym e) (lacks_join 45 44 (map decimal (i ∷ is)) refl (numbers_lack 45 (i ∷ is) refl h)) in true≢false lacks.0

pub minus_directions : (is : List ℕ) → AllByRecursion (λ n. n ≤ 5) is → codes "-" ≡ directions_text is → [] ≡ is
minus_directions [] h e = refl
minus_directions (i ∷ is) h e = absurd (numbers_are i is h e)

pub numbers_said : {A : Type 0} (f : A → List ℕ) (is text : List ℕ) (items slice : List A) →
    (text ≡ codes "-" → ⊥) → AllByRecursion (λ n. n ≤ 5) is → text ≡ directions_text is →
    map f items ≡ slice_split (λ b. b == 44) text → slice ≡ items → map f slice ≡ map decimal is
numbers_said f [] text items slice other h e cut same = absurd (other e)
numbers_said f (i ∷ is) text items slice other h e cut same = numbers_found f i is text items slice h e cut same

pub never_found : {n : ℕ} → ◌≡◌ {A = Option ℕ} None (Some n) → ⊥
never_found e = absurd cc

some_number : {m n : ℕ} → ◌≡◌ {A = Option ℕ} (Some m) (Some n) → m ≡ n
some_number e = cc

index_is : (xs : List ℕ) (i : ℕ) → slice_index xs i ≡ get_or xs i 0
index_is [] i = refl
index_is (x ∷ xs) zero = refl
index_is (x ∷ xs) (suc i) = index_is xs i

-- one more number
pub one_more_number : (found is : List ℕ) (i n : ℕ) → i < length is → found ≡ take i is → ◌≡◌ {A = Option ℕ} (Some n) (Some (slice_index is i)) → found ++ n ∷ [] ≡ take (i + 1) is
one_more_number found is i n lt told e =
    ap (λ xs. xs ++ n ∷ []) told ∙ ap (λ m. take i is ++ m ∷ []) (some_number e ∙ index_is is i) ∙ sym (take_more is i 0 lt)

pub numbers_long : {A : Type 0} (f : A → List ℕ) (parts : List A) (is : List ℕ) → map f parts ≡ map decimal is → length is ≡ length parts
numbers_long f parts is same = sym (length-map is decimal) ∙ ap length (sym same) ∙ length-map parts f

take_all : (xs : List ℕ) (i : ℕ) → length xs ≤ i → take i xs ≡ xs
take_all [] zero le = refl
take_all [] (suc i) le = refl
take_all (x ∷ xs) zero le = absurd (omega (arith, le))
take_all (x ∷ xs) (suc i) le = ap (λ ys. x ∷ ys) (take_all xs i (omega (arith, le)))

-- all numbers
pub all_numbers : {A : Type 0} (f : A → List ℕ) (parts : List A) (is : List ℕ) (i : ℕ) → map f parts ≡ map decimal is → length parts ≤ i → take i is ≡ is
all_numbers f parts is i same le = let long = numbers_long f parts is same in take_all is i (omega (arith, le, long))

pub moments_lack : (c : ℕ) (m : Option ℕ) → is_ascii_digit c ≡ false → (45 == c) ≡ false → IsMoments m → Lacks c (moments_text m)
moments_lack c None digit minus h = (minus, tt)
moments_lack c (Some r) digit minus h = lacks_decimal c r digit (omega (arith, h))
