-- How the routes are sought: literal bytes, then a name, then what follows it.
use Rattle.std.proofs.Common.{◌≡◌, ℕ, zero, suc, ◌-◌, ◌<◌, ◌&&◌, ◌==◌, List, [], ◌∷◌, ◌++◌, length, drop, Bool, true, false, ltb, Option, Some, None, refl, sym, ap, ◌∙◌, inl, inr, arith, nat_eq, ◌⊎◌}
use Rattle.std.specs.List.{AllByRecursion}
use Rattle.std.specs.Cmp.Lexicographic.{pointwise}
use Rattle.std.proofs.lemmas.Bool.{cases_Bool, false≢true}
use Rattle.std.proofs.lemmas.Bool.Decides.{nat_tests}
use Rattle.std.proofs.Math.Seq.{drop-append_seam}
use Rattle.std.proofs.lemmas.List.{length-append}
use Rattle.matchit.specs.Rows.{RowsOf, param_token, catch_all_token}
use Rattle.matchit.specs.Seek.{seek, step, or_else, param_step, own, has_slash, segment, cuts}
use Rattle.matchit.proofs.OnLiterals.{matchit_on_literals}

abbrev is_there : {K : Type 0} → Option K → Bool
is_there None = false
is_there (Some key) = true

pub none_some : {K : Type 0} (r : K) → None ≡ Some r → ⊥
none_some r e = false≢true (ap is_there e)

module _ {K : Type 0} where
  -- no rows, no route
  pub seek_none : (skip : ℕ) (path : List ℕ) → seek {K = K} skip [] path ≡ None
  unfolding matchit_on_literals
  seek_none skip [] = refl
  seek_none (suc skip) (b ∷ path) = seek_none skip path
  seek_none zero (b ∷ path) =
      elim (cases_Bool (has_slash (b ∷ path))) [
        | inl some ↦ rw (some, seek_none zero path) refl
        | inr none ↦ rw (none, seek_none zero path, seek_none (length (b ∷ path) - 1) path) refl
      ]

  -- the rest of the path is skipped
  pub seek_skip : (rs : RowsOf K) (path : List ℕ) → seek (length path) rs path ≡ own rs
  unfolding matchit_on_literals
  seek_skip rs [] = refl
  seek_skip rs (b ∷ path) = seek_skip rs path

  pub seek_over : (rs : RowsOf K) (front path : List ℕ) → seek (length front) rs (front ++ path) ≡ seek 0 rs path
  unfolding matchit_on_literals
  seek_over rs [] path = refl
  seek_over rs (b ∷ front) path = seek_over rs front path

  none_of_none : (path : List ℕ) → (param_step {K = K} [] path).1 ≡ []
  unfolding matchit_on_literals
  none_of_none path =
      elim (cases_Bool (has_slash path)) [
        | inl some ↦ rw some refl
        | inr none ↦ rw none refl
      ]

  pub or_none : (a : Option K) → or_else a None ≡ a
  or_none None = refl
  or_none (Some key) = refl

  -- where no route goes on with a parameter, the next byte decides
  pub seek_byte : (rs : RowsOf K) (b : ℕ) (path : List ℕ) → step param_token rs ≡ [] →
      step catch_all_token rs ≡ [] → seek 0 rs (b ∷ path) ≡ seek 0 (step b rs) path
  unfolding seek
  seek_byte rs b path no_param no_rest =
      rw (no_param, no_rest, none_of_none (b ∷ path), seek_none ((param_step {K = K} [] (b ∷ path)).0 - 1) path) (or_none (seek 0 (step b rs) path))

  -- the rows with these bytes in front
  abbrev pub before : List ℕ → RowsOf K → RowsOf K
  before w [] = []
  before w ((t, key) ∷ rest) = (w ++ t, key) ∷ before w rest

  before_nil : (rs : RowsOf K) → before [] rs ≡ rs
  before_nil [] = refl
  before_nil ((t, key) ∷ rest) = ap (λ more. (t, key) ∷ more) (before_nil rest)

  own_before : (x : ℕ) (w : List ℕ) (rs : RowsOf K) → own (before (x ∷ w) rs) ≡ None
  own_before x w [] = refl
  own_before x w ((t, key) ∷ rest) = own_before x w rest

  step_same : (x b : ℕ) (w : List ℕ) (rs : RowsOf K) → (x == b) ≡ true → step b (before (x ∷ w) rs) ≡ before w rs
  step_same x b w [] same = refl
  step_same x b w ((t, key) ∷ rest) same = rw same (ap (λ more. (w ++ t, key) ∷ more) (step_same x b w rest same))

  step_other : (x b : ℕ) (w : List ℕ) (rs : RowsOf K) → (x == b) ≡ false → step b (before (x ∷ w) rs) ≡ []
  step_other x b w [] other = refl
  step_other x b w ((t, key) ∷ rest) other = rw other (step_other x b w rest other)

  -- bytes in front of all routes come first in each path that has one
  pub strip : (w : List ℕ) (rs : RowsOf K) (path : List ℕ) (r : K) → AllByRecursion (λ b. b < 256) w → seek 0 (before w rs) path ≡ Some r
      → (rest : List ℕ) × (path ≡ w ++ rest) × (seek 0 rs rest ≡ Some r)
  unfolding seek
  strip [] rs path r small h = (path, refl, rw (before_nil rs) at h)
  strip (x ∷ w) rs [] r small h = absurd (none_some r (sym (own_before x w rs) ∙ h))
  strip (x ∷ w) rs (b ∷ path) r small h =
      let one : (x == 256) ≡ false = grind (arith, nat_tests, small.0) in
      let two : (x == 257) ≡ false = grind (arith, nat_tests, small.0) in
      let next : seek 0 (step b (before (x ∷ w) rs)) path ≡ Some r = sym (seek_byte (before (x ∷ w) rs) b path (step_other x 256 w rs one) (step_other x 257 w rs two)) ∙ h in
      elim (cases_Bool (x == b)) [
        | inl same ↦
            let found = strip w rs path r small.1 (rw (step_same x b w rs same) at next) in
            let is : x ≡ b = grind (arith, nat_tests, same) in
            (found.0, ap (λ y. y ∷ path) (sym is) ∙ ap (λ l. x ∷ l) found.1, found.2)
        | inr other ↦ absurd (none_some r (sym (seek_none 0 path) ∙ (rw (step_other x b w rs other) at next)))
      ]

  -- and are followed
  pub follow : (w : List ℕ) (rs : RowsOf K) (path : List ℕ) → AllByRecursion (λ b. b < 256) w → seek 0 (before w rs) (w ++ path) ≡ seek 0 rs path
  follow [] rs path small = rw (before_nil rs) refl
  follow (x ∷ w) rs path small =
      let one : (x == 256) ≡ false = grind (arith, nat_tests, small.0) in
      let two : (x == 257) ≡ false = grind (arith, nat_tests, small.0) in
      let same : (x == x) ≡ true = grind (arith, nat_tests) in
      seek_byte (before (x ∷ w) rs) x (w ++ path) (step_other x 256 w rs one) (step_other x 257 w rs two)
      ∙ (rw (step_same x x w rs same) (follow w rs path small.1))

-- a name without a slash is one segment
pub segment_whole : (name : List ℕ) → has_slash name ≡ false → segment name ≡ name
segment_whole [] h = refl
segment_whole (b ∷ rest) h =
    elim (cases_Bool (b == 47)) [
      | inl same ↦ absurd (false≢true (sym (rw same at h)))
      | inr other ↦ rw other (ap (λ l. b ∷ l) (segment_whole rest (rw other at h)))
    ]

-- a name and the slash behind it are one
pub segment_front : (front back : List ℕ) → has_slash front ≡ false → segment (front ++ 47 ∷ back) ≡ front ++ 47 ∷ []
segment_front [] back h = refl
segment_front (b ∷ front) back h =
    elim (cases_Bool (b == 47)) [
      | inl same ↦ absurd (false≢true (sym (rw same at h)))
      | inr other ↦ rw other (ap (λ l. b ∷ l) (segment_front front back (rw other at h)))
    ]

pub slash_there : (front back : List ℕ) → has_slash (front ++ 47 ∷ back) ≡ true
slash_there [] back = refl
slash_there (b ∷ front) back =
    elim (cases_Bool (b == 47)) [
      | inl same ↦ rw same refl
      | inr other ↦ rw other (slash_there front back)
    ]

-- a path is one segment, or has a first slash
pub parts_of : (path : List ℕ) → (has_slash path ≡ false) ⊎ ((front : List ℕ) × (back : List ℕ) × (path ≡ front ++ 47 ∷ back) × (has_slash front ≡ false))
parts_of [] = inl refl
parts_of (b ∷ path) =
    elim (cases_Bool (b == 47)) [
      | inl same ↦ let is : b ≡ 47 = grind (arith, nat_tests, same) in inr ([], path, rw is refl, refl)
      | inr other ↦ elim (parts_of path) [
        | inl none ↦ inl (rw other none)
        | inr some ↦ inr (b ∷ some.0, some.1, ap (λ l. b ∷ l) some.2, rw other some.3)
      ]
    ]

has_slash-drop : (n : ℕ) (name : List ℕ) → has_slash name ≡ false → has_slash (drop n name) ≡ false
has_slash-drop zero name h = h
has_slash-drop (suc n) [] h = h
has_slash-drop (suc n) (b ∷ rest) h =
    elim (cases_Bool (b == 47)) [
      | inl same ↦ absurd (false≢true (sym (rw same at h)))
      | inr other ↦ has_slash-drop n rest (rw other at h)
    ]

not_slash : (q : List ℕ) → has_slash q ≡ false → pointwise nat_eq (47 ∷ []) q ≡ false
not_slash [] h = refl
not_slash (b ∷ rest) h =
    elim (cases_Bool (b == 47)) [
      | inl same ↦ absurd (false≢true (sym (rw same at h)))
      | inr other ↦ let flipped : (47 == b) ≡ false = grind (arith, nat_tests, other) in rw flipped refl
    ]

and_false : (b : Bool) → (b && false) ≡ false
and_false true = refl
and_false false = refl

pub no_cut : (name : List ℕ) → has_slash name ≡ false → cuts name (47 ∷ []) ≡ false
no_cut name h = rw (not_slash (drop (length name - 1) name) (has_slash-drop (length name - 1) name h)) (and_false _)

pub cut : (c : ℕ) (front : List ℕ) → cuts ((c ∷ front) ++ 47 ∷ []) (47 ∷ []) ≡ true
cut c front =
    let size : length ((c ∷ front) ++ 47 ∷ []) - 1 ≡ length (c ∷ front) = omega (arith, length-append (c ∷ front) (47 ∷ [])) in
    let more : ltb 1 (length ((c ∷ front) ++ 47 ∷ [])) ≡ true = grind (arith, nat_tests, length-append (c ∷ front) (47 ∷ [])) in
    let last : drop (length ((c ∷ front) ++ 47 ∷ []) - 1) ((c ∷ front) ++ 47 ∷ []) ≡ 47 ∷ [] = ap (λ n. drop n ((c ∷ front) ++ 47 ∷ [])) size ∙ drop-append_seam (c ∷ front) (47 ∷ []) in
    rw (more, last) refl
