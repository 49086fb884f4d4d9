-- Texts through which no cut goes.
use Rattle.std.proofs.Common.{◌≡◌, ℕ, ◌+◌, ◌-◌, ◌<◌, Bool, true, false, List, [], ◌∷◌, ◌++◌, Some, None, Option, refl, ap, sym, subst, ◌∙◌, arith, append_assoc, append-nil, eqb-true}
use Rattle.std.proofs.lemmas.Bool.Decides.{nat_tests}
use Rattle.std.specs.Prelude.{◌==◌, ◌&&◌}
use Rattle.std.specs.List.{AllByRecursion}
use Rattle.degree_numbers.specs.Name.{is_name_byte}
use Rattle.degree_numbers.specs.declared.types.Types.{Types}
use Rattle.tree_grammar.specs.Grammar.{Written, root, leaf, planted, entries_onto, quoted_onto, written_root, unstarred, inside, starred_onto, written_text, IsNumber, IsMulti, IsGrammatical}
use Rattle.tree_grammar.proofs.WordSums.{AreNameBytes, name_bytes, number_bytes}
use Rattle.symbol_polys.specs.Pieces.{is_mark, depth_after, pieces_from}

-- from d open brackets the text leads to e open brackets, and no mark in it stands outside all
-- brackets
abbrev pub Passes : List ℕ → ℕ → List ℕ → ℕ → Type 0
Passes marks d [] e = d ≡ e
Passes marks d (c ∷ cs) e = ((d == 0 && is_mark marks c) ≡ false) × Passes marks (depth_after d c) cs e

pub passes-append : (marks xs ys : List ℕ) (d e f : ℕ) → Passes marks d xs e → Passes marks e ys f → Passes marks d (xs ++ ys) f
passes-append marks [] ys d e f h k = subst (λ n. Passes marks n ys f) (sym h) k
passes-append marks (x ∷ xs) ys d e f h k = (h.0, passes-append marks xs ys (depth_after d x) e f h.1 k)

-- such a text is met by one piece
pub pieces_pass : (marks xs ys w : List ℕ) (d e : ℕ) → Passes marks d xs e → pieces_from marks d w (xs ++ ys) ≡ pieces_from marks e (w ++ xs) ys
pieces_pass marks [] ys w d e h = ap (λ (n : ℕ). pieces_from marks n w ys) h ∙ ap (λ (x : List ℕ). pieces_from marks e x ys) (sym (append-nil w))
pieces_pass marks (x ∷ xs) ys w d e h =
    rw h.0 (pieces_pass marks xs ys (w ++ x ∷ []) (depth_after d x) e h.1 ∙ ap (λ (v : List ℕ). pieces_from marks e v ys) (append_assoc w (x ∷ []) xs))

abbrev NoBracket : ℕ → Type 0
NoBracket c = ((c == 91) ≡ false) × ((c == 93) ≡ false)

no_bracket_at : (c b : ℕ) (a : Bool) → (c == b) ≡ a → is_name_byte b ≡ false → is_name_byte c ≡ true → (c == b) ≡ false
no_bracket_at c b true e n h = let w : is_name_byte b ≡ true = rw (eqb-true c b e) at h in let v : true ≡ false = sym w ∙ n in absurd cc
no_bracket_at c b false e n h = e

pub apart_from : (c b : ℕ) → is_name_byte b ≡ false → is_name_byte c ≡ true → (c == b) ≡ false
apart_from c b n h = no_bracket_at c b (c == b) refl n h

name_no_bracket : (c : ℕ) → is_name_byte c ≡ true → NoBracket c
name_no_bracket c h = (apart_from c 91 refl h, apart_from c 93 refl h)

same_depth : (d c : ℕ) → NoBracket c → depth_after d c ≡ d
same_depth d c h = rw (h.0, h.1) refl

above : (d : ℕ) → 0 < d → (d == 0) ≡ false
above d h = grind (arith, nat_tests)

not_both : (a b : Bool) → b ≡ false → (a && b) ≡ false
not_both true b h = h
not_both false b h = refl

-- bytes that are neither marks nor brackets
abbrev pub AreFree : List ℕ → List ℕ → Type 0
AreFree marks xs = AllByRecursion (λ c. (is_mark marks c ≡ false) × (((c == 91) ≡ false) × ((c == 93) ≡ false))) xs

pub free_pass : (marks xs : List ℕ) (d : ℕ) → AreFree marks xs → Passes marks d xs d
free_pass marks [] d h = refl
free_pass marks (c ∷ xs) d h =
    (not_both (d == 0) (is_mark marks c) h.0.0, subst (λ n. Passes marks n xs d) (sym (same_depth d c h.0.1)) (free_pass marks xs d h.1))

pub free-append : (marks xs ys : List ℕ) → AreFree marks xs → AreFree marks ys → AreFree marks (xs ++ ys)
free-append marks [] ys h k = k
free-append marks (x ∷ xs) ys h k = (h.0, free-append marks xs ys h.1 k)

-- inside brackets: what goes on behind the text goes on before it
module _ (marks : List ℕ) (e : ℕ) where
  byte_inside : (d c : ℕ) (s : List ℕ) → 0 < d → NoBracket c → Passes marks d s e → Passes marks d (c ∷ s) e
  byte_inside d c s p h k = (rw (above d p) refl, subst (λ n. Passes marks n s e) (sym (same_depth d c h)) k)

  bytes_inside : (d : ℕ) (xs s : List ℕ) → 0 < d → AreNameBytes xs → Passes marks d s e → Passes marks d (xs ++ s) e
  bytes_inside d [] s p h k = k
  bytes_inside d (x ∷ xs) s p h k = byte_inside d x (xs ++ s) p (name_no_bracket x h.0) (bytes_inside d xs s p h.1 k)

  open_inside : (d : ℕ) (s : List ℕ) → 0 < d → Passes marks (d + 1) s e → Passes marks d (91 ∷ s) e
  open_inside d s p k = (rw (above d p) refl, k)

  close_inside : (d : ℕ) (s : List ℕ) → Passes marks d s e → Passes marks (d + 1) (93 ∷ s) e
  close_inside d s k =
      let back : d + 1 - 1 ≡ d = omega arith in
      (rw (above (d + 1) (omega arith)) refl, subst (λ n. Passes marks n s e) (sym back) k)

  entries_inside : (d : ℕ) (es : List (List ℕ)) (s : List ℕ) → 0 < d → AllByRecursion IsNumber es → Passes marks d s e → Passes marks d (entries_onto es s) e
  entries_inside d [] s p h k = k
  entries_inside d (v ∷ []) s p h k = bytes_inside d v (41 ∷ s) p (number_bytes v h.0) (byte_inside d 41 s p (refl, refl) k)
  entries_inside d (v ∷ w ∷ es) s p h k =
      bytes_inside d v (44 ∷ entries_onto (w ∷ es) s) p (number_bytes v h.0) (byte_inside d 44 (entries_onto (w ∷ es) s) p (refl, refl) (entries_inside d (w ∷ es) s p h.1 k))

  opened_inside : (d c : ℕ) (es : List (List ℕ)) (s : List ℕ) → 0 < d → NoBracket c →
      AllByRecursion IsNumber es → Passes marks d s e →
      Passes marks d (c ∷ 40 ∷ entries_onto es s) e
  opened_inside d c es s p b h k = byte_inside d c (40 ∷ entries_onto es s) p b (byte_inside d 40 (entries_onto es s) p (refl, refl) (entries_inside d es s p h k))

  multi_inside : (dims d : ℕ) (x : Option (List (List ℕ))) (s : List ℕ) → 0 < d → IsMulti dims x → Passes marks d s e → Passes marks d (quoted_onto x s) e
  multi_inside dims d None s p h k = k
  multi_inside dims d (Some es) s p h k = opened_inside d 39 es s p (refl, refl) h.1 k

  behind_first : (d c : ℕ) (s : List ℕ) → NoBracket c → Passes marks d (c ∷ s) e → Passes marks d s e
  behind_first d c s h k = subst (λ n. Passes marks n s e) (same_depth d c h) k.1

  unstarred_inside : (d : ℕ) (t : Written) (s : List ℕ) → Passes marks d (starred_onto t s) e → Passes marks d (unstarred t (starred_onto t s)) e
  unstarred_inside d (root x) s k = k
  unstarred_inside d (leaf n p t) s k = behind_first d 42 (n ++ quoted_onto p (starred_onto t s)) (refl, refl) k
  unstarred_inside d (planted n p c t) s k = behind_first d 42 (n ++ quoted_onto p (91 ∷ inside (written_root c) c (starred_onto c (93 ∷ starred_onto t s)))) (refl, refl) k

  inside_inside : (dims d : ℕ) (x : Option (List (List ℕ))) (t : Written) (s : List ℕ) → 0 < d →
      IsMulti dims x → Passes marks d (starred_onto t s) e →
      Passes marks d (inside x t (starred_onto t s)) e
  inside_inside dims d None t s p h k = unstarred_inside d t s k
  inside_inside dims d (Some es) t s p h k = opened_inside d 88 es (starred_onto t s) p (refl, refl) h.1 k

  root_multi : (ty : Types) (t : Written) → IsGrammatical ty t → IsMulti ty.dims (written_root t)
  root_multi ty (root x) h = h
  root_multi ty (leaf n p t) h = root_multi ty t h.3
  root_multi ty (planted n p c t) h = root_multi ty t h.4

  starred_inside : (ty : Types) (t : Written) (d : ℕ) (s : List ℕ) → 0 < d → IsGrammatical ty t → Passes marks d s e → Passes marks d (starred_onto t s) e
  starred_inside ty (root x) d s p h k = k
  starred_inside ty (leaf n q t) d s p h k =
      let rest = starred_onto t s in
      let multi = multi_inside ty.dims d q rest p h.1 (starred_inside ty t d s p h.3 k) in
      byte_inside d 42 (n ++ quoted_onto q rest) p (refl, refl) (bytes_inside d n (quoted_onto q rest) p (name_bytes n h.0) multi)
  starred_inside ty (planted n q c t) d s p h k =
      let rest = starred_onto t s in
      let tree = inside (written_root c) c (starred_onto c (93 ∷ rest)) in
      let child = starred_inside ty c (d + 1) (93 ∷ rest) (omega arith) h.3 (close_inside d rest (starred_inside ty t d s p h.4 k)) in
      let opened = open_inside d tree p (inside_inside ty.dims (d + 1) (written_root c) c (93 ∷ rest) (omega arith) (root_multi ty c h.3) child) in
      let multi = multi_inside ty.dims d q (91 ∷ tree) p h.1 opened in
      byte_inside d 42 (n ++ quoted_onto q (91 ∷ tree)) p (refl, refl) (bytes_inside d n (quoted_onto q (91 ∷ tree)) p (name_bytes n h.0) multi)

-- the text of a tree
pub written_passes : (marks : List ℕ) (ty : Types) (t : Written) → is_mark marks 91 ≡ false → IsGrammatical ty t → Passes marks 0 (written_text t) 0
written_passes marks ty t m h =
    let closing = close_inside marks 0 0 [] refl in
    (m, inside_inside marks 0 ty.dims (0 + 1) (written_root t) t (93 ∷ []) (omega arith) (root_multi marks 0 ty t h) (starred_inside marks 0 ty t (0 + 1) (93 ∷ []) (omega arith) h closing))
