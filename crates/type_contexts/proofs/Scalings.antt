-- Scalings, read of what is printed.
use Rattle.std.proofs.Common.{◌≡◌, ℕ, zero, suc, ◌^◌, ◌<◌, ◌≤◌, false, List, [], ◌∷◌, map, take, drop, length, get_or, decimal, arith, refl, ap, sym, ◌∙◌, Option, Some, None, append-nil}
use Rattle.std.specs.Prelude.{◌==◌, slice_index, codes}
use Rattle.std.specs.Char.{is_ascii_digit}
use Rattle.std.specs.List.{AllByRecursion, join_with_byte, slice_split}
use Rattle.std.proofs.lemmas.List.{length-map, length-take}
use Rattle.text_parts.specs.Reading.{number_at}
use Rattle.text_parts.proofs.Back.{number_back}
use Rattle.degree_numbers.specs.Types.{IsScaling}
use Rattle.degree_numbers.specs.declared.types.Types.{Types}
use Rattle.type_contexts.specs.Context.{scaling_text}
use Rattle.type_contexts.specs.Scaling.{second_of}
use Rattle.type_contexts.proofs.Bytes.{Lacks, lacks_join, lacks_decimal, split_join}
use Rattle.degree_numbers.proofs.TypeBounds.{all_weaker}

pub number_read : (part : List ℕ) (n : ℕ) → n < 2 ^ 63 → part ≡ decimal n → number_at part ≡ Some (n, [])
number_read part n le is = ap number_at (is ∙ sym (append-nil (decimal n))) ∙ number_back n [] le tt

pub same_number : (x n : ℕ) (rest part : List ℕ) → Some (x, rest) ≡ number_at part → number_at part ≡ Some (n, []) → x ≡ n
same_number x n rest part e f = ap front (e ∙ f)
  where
    front : Option (ℕ × List ℕ) → ℕ
    front None = 0
    front (Some r) = r.0

-- the part at a place is the number there
pub part_at : {A : Type 0} (f : A → List ℕ) (most : ℕ) (parts : List A) (entries : List ℕ) (i : ℕ) (d : A) →
    i < length parts → map f parts ≡ map decimal entries → AllByRecursion (λ n. n ≤ most) entries →
    (f (get_or parts i d) ≡ decimal (slice_index entries i)) × (slice_index entries i ≤ most)
part_at f most [] entries i d lt same few = absurd (omega (arith, lt))
part_at f most (p ∷ parts) [] i d lt same few = absurd cc
part_at f most (p ∷ parts) (e ∷ entries) zero d lt same few = let here : f p ≡ decimal e = cc in (here, few.0)
part_at f most (p ∷ parts) (e ∷ entries) (suc i) d lt same few = let there : map f parts ≡ map decimal entries = cc in part_at f most parts entries i d (omega (arith, lt)) there few.1

zero_at : (s : List ℕ) (k : ℕ) → AllByRecursion (λ n. n ≡ 0) s → 0 ≡ slice_index s k
zero_at [] k h = refl
zero_at (x ∷ xs) zero h = sym h.0
zero_at (x ∷ xs) (suc k) h = zero_at xs k h.1

index_taken : (n : ℕ) (s : List ℕ) (k : ℕ) → AllByRecursion (λ x. x ≡ 0) (drop n s) → slice_index (take n s) k ≡ slice_index s k
index_taken zero s k rest = zero_at s k rest
index_taken (suc n) [] k rest = refl
index_taken (suc n) (x ∷ xs) zero rest = refl
index_taken (suc n) (x ∷ xs) (suc k) rest = index_taken n xs k rest

five_are : (s : List ℕ) → length s ≡ 5 → slice_index s 0 ∷ slice_index s 1 ∷ slice_index s 2 ∷ slice_index s 3 ∷ slice_index s 4 ∷ [] ≡ s
five_are (a ∷ b ∷ c ∷ d ∷ e ∷ []) five = refl
five_are [] five = absurd (omega (arith, five))
five_are (a ∷ []) five = absurd (omega (arith, five))
five_are (a ∷ b ∷ []) five = absurd (omega (arith, five))
five_are (a ∷ b ∷ c ∷ []) five = absurd (omega (arith, five))
five_are (a ∷ b ∷ c ∷ d ∷ []) five = absurd (omega (arith, five))
five_are (a ∷ b ∷ c ∷ d ∷ e ∷ x ∷ xs) five = absurd (omega (arith, five))

-- a scaling is determined by its entries
pub scaling_back : (dims : ℕ) (s : List ℕ) → IsScaling dims s →
    slice_index (take dims s) 0 ∷ slice_index (take dims s) 1 ∷ slice_index (take dims s) 2 ∷ slice_index (take dims s) 3 ∷ slice_index (take dims s) 4 ∷ [] ≡ s
scaling_back dims s h =
    rw (index_taken dims s 0 h.rest, index_taken dims s 1 h.rest, index_taken dims s 2 h.rest, index_taken dims s 3 h.rest, index_taken dims s 4 h.rest) (five_are s h.entries)

pub entries_small : (dims : ℕ) (s : List ℕ) → IsScaling dims s → AllByRecursion (λ n. n ≤ 10) (take dims s)
entries_small dims s h = all_weaker (λ n. (0 < n) × (n ≤ 10)) (λ n. n ≤ 10) (take dims s) (λ n p. p.1) h.within

pub parts_long : {A : Type 0} (f : A → List ℕ) (parts : List A) (dims : ℕ) (s : List ℕ) →
    IsScaling dims s → map f parts ≡ map decimal (take dims s) → length parts ≡ dims
parts_long f parts dims s h same =
    sym (length-map parts f) ∙ ap length same ∙ length-map (take dims s) decimal ∙ length-take dims s ∙ omega (arith, h.most, h.entries)

pub both_same : {m n : ℕ} {xs ys : List ℕ} → m ≡ n → xs ≡ ys → ◌≡◌ {A = Option (ℕ × List ℕ)} (Some (m, xs)) (Some (n, ys))
both_same e f = rw (e, f) refl

decimals_lack : (c : ℕ) (es : List ℕ) → is_ascii_digit c ≡ false → AllByRecursion (λ n. n ≤ 10) es → AllByRecursion (Lacks c) (map decimal es)
decimals_lack c [] other h = tt
decimals_lack c (e ∷ es) other h = let small = h.0 in (lacks_decimal c e other (omega (arith, small)), decimals_lack c es other h.1)

pub entries_lack : (c dims : ℕ) (s : List ℕ) → is_ascii_digit c ≡ false → IsScaling dims s → AllByRecursion (Lacks c) (map decimal (take dims s))
entries_lack c dims s other h = decimals_lack c (take dims s) other (entries_small dims s h)

scaling_lacks : (dims : ℕ) (s : List ℕ) → IsScaling dims s → Lacks 32 (join_with_byte 44 (map decimal (take dims s)))
scaling_lacks dims s h = lacks_join 32 44 (map decimal (take dims s)) refl (entries_lack 32 dims s refl h)

-- the words of the first piece
pub scaling_words : (ty : Types) → IsScaling ty.dims ty.scaling →
    slice_split (λ b. b == 32) (scaling_text ty) ≡ codes "scaling" ∷ join_with_byte 44 (map decimal (take ty.dims ty.scaling)) ∷ []
scaling_words ty h = split_join 32 (codes "scaling") (join_with_byte 44 (map decimal (take ty.dims ty.scaling)) ∷ []) refl (refl, (refl, (refl, (refl, (refl, (refl, (refl, tt))))))) (scaling_lacks ty.dims ty.scaling h, tt)

-- and its entries
pub scaling_entries : (dims : ℕ) (s : List ℕ) → IsScaling dims s →
    slice_split (λ b. b == 44) (join_with_byte 44 (map decimal (take dims s))) ≡ map decimal (take dims s)
scaling_entries (suc dims) (x ∷ s) h = let all = entries_lack 44 (suc dims) (x ∷ s) refl h in split_join 44 (decimal x) (map decimal (take dims s)) refl all.0 all.1
scaling_entries zero s h = absurd (omega (arith, h.some))
scaling_entries (suc dims) [] h = absurd (omega (arith, h.entries))

pub entries_found : {A : Type 0} (f : A → List ℕ) (ty : Types) (head : List ℕ) (items slice : List A) (r : Option (List ℕ)) →
    IsScaling ty.dims ty.scaling → head ≡ scaling_text ty →
    map f items ≡ slice_split (λ b. b == 32) head → slice ≡ items → r ≡ second_of (map f slice) →
    r ≡ Some (join_with_byte 44 (map decimal (take ty.dims ty.scaling)))
entries_found f ty head items slice r h is cut same told = told ∙ ap second_of (ap (map f) same ∙ cut ∙ ap (slice_split (λ b. b == 32)) is ∙ scaling_words ty h)

pub parts_found : {A : Type 0} (f : A → List ℕ) (dims : ℕ) (s entries : List ℕ) (items slice : List A) →
    IsScaling dims s → entries ≡ join_with_byte 44 (map decimal (take dims s)) →
    map f items ≡ slice_split (λ b. b == 44) entries → slice ≡ items →
    map f slice ≡ map decimal (take dims s)
parts_found f dims s entries items slice h is cut same = ap (map f) same ∙ cut ∙ ap (slice_split (λ b. b == 44)) is ∙ scaling_entries dims s h

pub entries_are : {xs ys : List ℕ} → Some xs ≡ Some ys → xs ≡ ys
entries_are e = cc

pub none_found : {xs : List ℕ} → None ≡ Some xs → ⊥
none_found e = cc
