-- A tree text is the text of a written tree.
use Rattle.std.proofs.Common.{◌≡◌, ℕ, zero, suc, ◌+◌, ◌-◌, ◌<◌, Bool, true, false, List, [], ◌∷◌, ◌++◌, length, Option, Some, None, refl, sym, ap, ◌∙◌, subst, arith, inl, inr, nat_lt, append_assoc, length-append}
use Rattle.std.proofs.lemmas.Bool.{and_parts}
use Rattle.std.proofs.lemmas.Bool.Decides.{nat_tests}
use Rattle.std.specs.Char.{is_ascii_digit, is_ascii_alphabetic}
use Rattle.std.specs.List.{AllByRecursion}
use Rattle.std.specs.Prelude.{◌==◌, ◌&&◌, ◌⊎◌}
use Rattle.tree_grammar.specs.Step.{step_by, place_from, place_in, or_place, closed, opened, follow_by}
use Rattle.tree_grammar.specs.Grammar.{Written, root, leaf, planted, entries_onto, quoted_onto, written_root, inside, starred_onto, written_text, IsNumber, IsMulti, IsGrammatical, kind_named, may_end, may_open}
use Rattle.degree_numbers.specs.Name.{is_name_byte, is_reserved}
use Rattle.tree_grammar.proofs.Names.{IsName, parts_name}
use Rattle.degree_numbers.specs.declared.types.Types.{Types}
use Rattle.tree_grammar.specs.declared.state.State.{State}
use Rattle.tree_grammar.specs.declared.state.At.{At}
use Rattle.tree_grammar.specs.declared.state.At.TheVariants.{Start, Factor, Name, Quote, Entry, Digits, After, Done}
use Rattle.tree_grammar.proofs.Live.{st}
use Rattle.std.specs.Str.{bytes_eq}
use Rattle.std.proofs.lemmas.Slice.Eq.{bytes_eq-Decides}

module _ (ty : Types) where
  -- what is left after a factor that has ended, in d open brackets
  abbrev Tail : ℕ → List ℕ → Type 0
  Tail zero text = text ≡ []
  Tail (suc d) text = (x : Option (List (List ℕ))) → IsMulti ty.dims x →
      (t : Written) × (u : List ℕ) × IsGrammatical ty t × (written_root t ≡ x) × (text ≡ starred_onto t (93 ∷ u)) × Tail d u

  -- what is left within a tree, before its first factor
  abbrev Inner : ℕ → List ℕ → Type 0
  Inner d text = (c : Written) × (u : List ℕ) × IsGrammatical ty c × (text ≡ inside (written_root c) c (starred_onto c (93 ∷ u))) × Tail d u

  -- what is left after a factor
  abbrev Next : Bool → Bool → ℕ → List ℕ → Type 0
  Next e o d text = ((e ≡ true) × Tail (suc d) text) ⊎ ((o ≡ true) × (v : List ℕ) × (text ≡ 91 ∷ v) × Inner (suc d) v)

  -- what is left at a factor
  abbrev Here : Bool → ℕ → List ℕ → Type 0
  Here true d text = Inner d text
  Here false d text = Tail (suc d) (42 ∷ text)

  -- an edge that is whole
  tail_edge : (d : ℕ) (m : List ℕ) (p : Option (List (List ℕ))) (text : List ℕ) → IsName m → IsMulti ty.dims p →
      Next (may_end (kind_named ty m)) (may_open (kind_named ty m)) d text → Tail (suc d) (42 ∷ (m ++ quoted_onto p text))
  tail_edge d m p text h q (inl n) = λ x w.
      let r = n.1 x w in
      (leaf m p r.0, r.1, (parts_name m h, q, n.0, r.2), r.3, ap (λ (s : List ℕ). 42 ∷ (m ++ quoted_onto p s)) r.4, r.5)
  tail_edge d m p text h q (inr n) = λ x w.
      let c = n.3 in
      let r = c.4 x w in (
        planted m p c.0 r.0,
        r.1,
        (parts_name m h, q, n.0, c.2, r.2),
        r.3,
        ap (λ (s : List ℕ). 42 ∷ (m ++ quoted_onto p s)) (n.2 ∙ ap (λ (s : List ℕ). 91 ∷ s) (c.3 ∙ ap (λ (s : List ℕ). inside (written_root c.0) c.0 (starred_onto c.0 (93 ∷ s))) r.4)),
        r.5,
      )

  -- the same as the first factor of a tree
  first_edge : (d : ℕ) (m : List ℕ) (p : Option (List (List ℕ))) (text : List ℕ) → IsName m → IsMulti ty.dims p →
      Next (may_end (kind_named ty m)) (may_open (kind_named ty m)) d text → Inner d (m ++ quoted_onto p text)
  first_edge d m p text h q (inl n) =
      let r = n.1 None tt in
      let t : Written = leaf m p r.0 in
      let same : inside (written_root t) t (starred_onto t (93 ∷ r.1)) ≡ m ++ quoted_onto p (starred_onto r.0 (93 ∷ r.1)) = rw r.3 refl in
      (t, r.1, (parts_name m h, q, n.0, r.2), ap (λ (s : List ℕ). m ++ quoted_onto p s) r.4 ∙ sym same, r.5)
  first_edge d m p text h q (inr n) =
      let c = n.3 in
      let r = c.4 None tt in
      let t : Written = planted m p c.0 r.0 in
      let sub = λ (s : List ℕ). 91 ∷ inside (written_root c.0) c.0 (starred_onto c.0 (93 ∷ s)) in
      let same : inside (written_root t) t (starred_onto t (93 ∷ r.1)) ≡ m ++ quoted_onto p (sub (starred_onto r.0 (93 ∷ r.1))) = rw r.3 refl in
      (t, r.1, (parts_name m h, q, n.0, c.2, r.2), ap (λ (s : List ℕ). m ++ quoted_onto p s) (n.2 ∙ ap (λ (s : List ℕ). 91 ∷ s) c.3 ∙ ap sub r.4) ∙ sym same, r.5)

  one_edge : (f : Bool) (d : ℕ) (m : List ℕ) (p : Option (List (List ℕ))) (text : List ℕ) → IsName m → IsMulti ty.dims p →
      Next (may_end (kind_named ty m)) (may_open (kind_named ty m)) d text → Here f d (m ++ quoted_onto p text)
  one_edge true d m p text h q n = first_edge d m p text h q n
  one_edge false d m p text h q n = tail_edge d m p text h q n

  -- the end of a tree
  tail_end : (d : ℕ) (text : List ℕ) → Tail d text → Tail (suc d) (93 ∷ text)
  tail_end d text h = λ x w. (root x, text, w, refl, refl, h)

  inner_end : (d : ℕ) (text : List ℕ) → Tail d text → Inner d (93 ∷ text)
  inner_end d text h = (root None, text, tt, refl, h)

  -- the root's multiindex as the first factor
  inner_root : (d : ℕ) (es : List (List ℕ)) (text : List ℕ) → IsMulti ty.dims (Some es) → Tail (suc d) text → Inner d (88 ∷ 40 ∷ entries_onto es text)
  inner_root d es text h k =
      let r = k (Some es) h in
      let same : inside (written_root r.0) r.0 (starred_onto r.0 (93 ∷ r.1)) ≡ 88 ∷ 40 ∷ entries_onto es (starred_onto r.0 (93 ∷ r.1)) = rw r.3 refl in
      (r.0, r.1, r.2, ap (λ (s : List ℕ). 88 ∷ 40 ∷ entries_onto es s) r.4 ∙ sym same, r.5)

  -- what is left in an entry that has begun, or begins
  record Rest (l d : ℕ) (e o : Bool) (text : List ℕ) : Type 0 where
    pub es : List (List ℕ)
    pub long : length es ≡ suc l
    pub numbers : AllByRecursion IsNumber es
    pub after : List ℕ
    pub is : text ≡ entries_onto es after
    pub next : Next e o d after

  -- this state takes the text
  abbrev Taken : State → List ℕ → Type 0
  Taken s text = (i : ℕ) × (place_from ty i s text ≡ None)

  peel : (s : State) (b : ℕ) (t : State) (bs : List ℕ) → step_by s.at ty s b ≡ Some t → Taken s (b ∷ bs) → Taken t bs
  peel s b t bs h w = (w.0 + 1, sym (ap (λ (x : Option State). or_place x w.0 (λ u. place_from ty (w.0 + 1) u bs)) h) ∙ w.1)

  dead : (s : State) (b : ℕ) (bs : List ℕ) → step_by s.at ty s b ≡ None → Taken s (b ∷ bs) → ⊥
  dead s b bs h w = let e : Some w.0 ≡ None = sym (ap (λ (x : Option State). or_place x w.0 (λ u. place_from ty (w.0 + 1) u bs)) h) ∙ w.1 in absurd cc

  -- the beginning of a name
  abbrev IsPartial : List ℕ → Type 0
  IsPartial [] = ⊥
  IsPartial (b ∷ bs) = (is_ascii_alphabetic b ≡ true) × AllByRecursion (λ c. is_name_byte c ≡ true) bs × (length bs < 16)

  record Quoted (k : ℕ) (e o : Bool) (text : List ℕ) : Type 0 where
    pub es : List (List ℕ)
    pub multi : IsMulti ty.dims (Some es)
    pub after : List ℕ
    pub is : text ≡ 40 ∷ entries_onto es after
    pub next : Next e o k after

  -- what each state says of the text that it takes, in k + 1 open brackets
  record Says (text : List ℕ) : Type 0 where
    pub done : (s : State) → s.at ≡ Done → Taken s text → text ≡ []
    pub after : (k : ℕ) (f : Bool) (n : List ℕ) (e o : Bool) (l : ℕ) → Taken (st After f n e o l (suc k)) text → Next e o k text
    pub factor : (k : ℕ) (f : Bool) (n : List ℕ) (e o : Bool) (l : ℕ) → Taken (st Factor f n e o l (suc k)) text → Here f k text
    pub name : (k : ℕ) (f : Bool) (n : List ℕ) (e o : Bool) (l : ℕ) → IsPartial n → Taken (st Name f n e o l (suc k)) text → Here f k (n ++ text)
    pub quote : (k : ℕ) (f : Bool) (n : List ℕ) (e o : Bool) (l : ℕ) → Taken (st Quote f n e o l (suc k)) text → Quoted k e o text
    pub entry : (k : ℕ) (f : Bool) (n : List ℕ) (e o : Bool) (l : ℕ) → Taken (st Entry f n e o l (suc k)) text → Rest l k e o text
    pub digits : (k : ℕ) (f : Bool) (n : List ℕ) (e o : Bool) (l c : ℕ) → is_ascii_digit c ≡ true → Taken (st Digits f n e o l (suc k)) text → Rest l k e o (c ∷ text)

  is_byte : (b c : ℕ) → (b == c) ≡ true → b ≡ c
  is_byte b c h = grind (arith, nat_tests)

  closed_says : (k : ℕ) (a : At) (f : Bool) (n : List ℕ) (e o : Bool) (l : ℕ) (bs : List ℕ) → Says bs → Taken (closed (st a f n e o l (suc k))) bs → Tail k bs
  closed_says zero a f n e o l bs ih w = ih.done (st Done f n e o l 0) refl w
  closed_says (suc k) a f n e o l bs ih w =
      let more : nat_lt 1 (suc (suc k)) ≡ true = grind (arith, nat_tests) in
      let less : suc (suc k) - 1 ≡ suc k = omega arith in
      ended k bs (ih.after k f n true false l (rw (more, less) at w))
    where
      ended : (k : ℕ) (bs : List ℕ) → Next true false k bs → Tail (suc k) bs
      ended k bs (inl h) = h.1
      ended k bs (inr h) = let e : false ≡ true = h.0 in absurd cc

  opened_says : (k : ℕ) (a : At) (f : Bool) (n : List ℕ) (e o : Bool) (l : ℕ) (bs : List ℕ) →
      Says bs → Taken (opened (st a f n e o l (suc k))) bs → Inner (suc k) bs
  opened_says k a f n e o l bs ih w = let more : suc k + 1 ≡ suc (suc k) = omega arith in ih.factor (suc k) true n e o l (rw more at w)

  follow_at : (k : ℕ) (f : Bool) (n : List ℕ) (e o : Bool) (l b : ℕ) (bs : List ℕ) (x y z : Bool) →
      (b == 91 && o) ≡ x → (b == 93 && e) ≡ y → (b == 42 && e) ≡ z → Says bs →
      Taken (st After f n e o l (suc k)) (b ∷ bs) → Next e o k (b ∷ bs)
  follow_at k f n e o l b bs true y z hx hy hz ih w =
      let s : State = st After f n e o l (suc k) in
      let t = and_parts (b == 91) o hx in
      inr (t.1, bs, ap (λ (c : ℕ). c ∷ bs) (is_byte b 91 t.0), opened_says k After f n e o l bs ih (peel s b (opened s) bs (rw hx refl) w))
  follow_at k f n e o l b bs false true z hx hy hz ih w =
      let s : State = st After f n e o l (suc k) in
      let t = and_parts (b == 93) e hy in
      let same : b ≡ 93 = is_byte b 93 t.0 in
      inl (t.1, rw same (tail_end k bs (closed_says k After f n e o l bs ih (peel s b (closed s) bs (rw (hx, hy) refl) w))))
  follow_at k f n e o l b bs false false true hx hy hz ih w =
      let s : State = st After f n e o l (suc k) in
      let t = and_parts (b == 42) e hz in
      let same : b ≡ 42 = is_byte b 42 t.0 in
      inl (t.1, rw same (ih.factor k false n e o l (peel s b (st Factor false n e o l (suc k)) bs (rw (hx, hy, hz) refl) w)))
  follow_at k f n e o l b bs false false false hx hy hz ih w = absurd (dead (st After f n e o l (suc k)) b bs (rw (hx, hy, hz) refl) w)

  -- one more digit in front
  prepend : (l d : ℕ) (e o : Bool) (c : ℕ) (text : List ℕ) (es : List (List ℕ)) (after : List ℕ) →
      is_ascii_digit c ≡ true → length es ≡ suc l → AllByRecursion IsNumber es →
      text ≡ entries_onto es after → Next e o d after → Rest l d e o (c ∷ text)
  prepend l d e o c text [] after h long num is next = absurd (omega (arith, long))
  prepend l d e o c text ([] ∷ es) after h long num is next = absurd num.0
  prepend l d e o c text ((y ∷ ys) ∷ []) after h long num is next =
      record { es = (c ∷ y ∷ ys) ∷ []; long = long; numbers = ((h, num.0), num.1); after = after; is = ap (λ (s : List ℕ). c ∷ s) is; next = next }
  prepend l d e o c text ((y ∷ ys) ∷ z ∷ es) after h long num is next =
      record { es = (c ∷ y ∷ ys) ∷ z ∷ es; long = long; numbers = ((h, num.0), num.1); after = after; is = ap (λ (s : List ℕ). c ∷ s) is; next = next }

  comma : (l d : ℕ) (e o : Bool) (c : ℕ) (text : List ℕ) (es : List (List ℕ)) (after : List ℕ) →
      is_ascii_digit c ≡ true → length es ≡ suc l → AllByRecursion IsNumber es →
      text ≡ entries_onto es after → Next e o d after → Rest (suc l) d e o (c ∷ 44 ∷ text)
  comma l d e o c text [] after h long num is next = absurd (omega (arith, long))
  comma l d e o c text (x ∷ es) after h long num is next =
      record { es = (c ∷ []) ∷ x ∷ es; long = omega (arith, long); numbers = ((h, tt), num); after = after; is = ap (λ (s : List ℕ). c ∷ 44 ∷ s) is; next = next }

  digits_at : (k : ℕ) (f : Bool) (n : List ℕ) (e o : Bool) (l c b : ℕ) (bs : List ℕ) (x y z : Bool) →
      is_ascii_digit b ≡ x → (b == 44) ≡ y → (b == 41) ≡ z → Says bs → is_ascii_digit c ≡ true →
      Taken (st Digits f n e o l (suc k)) (b ∷ bs) → Rest l k e o (c ∷ b ∷ bs)
  digits_at k f n e o l c b bs true y z hx hy hz ih h w =
      let s : State = st Digits f n e o l (suc k) in
      let r = ih.digits k f n e o l b hx (peel s b s bs (rw hx refl) w) in
      prepend l k e o c (b ∷ bs) r.es r.after h r.long r.numbers r.is r.next
  digits_at k f n e o (suc l) c b bs false true z hx hy hz ih h w =
      let s : State = st Digits f n e o (suc l) (suc k) in
      let more : nat_lt 0 (suc l) ≡ true = grind (arith, nat_tests) in
      let less : suc l - 1 ≡ l = omega arith in
      let r = ih.entry k f n e o l (peel s b (st Entry f n e o l (suc k)) bs (rw (hx, hy, more, less) refl) w) in
      rw (is_byte b 44 hy) (comma l k e o c bs r.es r.after h r.long r.numbers r.is r.next)
  digits_at k f n e o zero c b bs false true z hx hy hz ih h w =
      let it : b ≡ 44 = is_byte b 44 hy in
      let other : (b == 41) ≡ false = ap (λ (v : ℕ). v == 41) it in
      absurd (dead (st Digits f n e o 0 (suc k)) b bs (rw (hx, hy, other) refl) w)
  digits_at k f n e o zero c b bs false false true hx hy hz ih h w =
      let s : State = st Digits f n e o 0 (suc k) in
      let r = ih.after k f n e o 0 (peel s b (st After f n e o 0 (suc k)) bs (rw (hx, hy, hz) refl) w) in
      rw (is_byte b 41 hz) record { es = (c ∷ []) ∷ []; long = refl; numbers = ((h, tt), tt); after = bs; is = refl; next = r }
  digits_at k f n e o (suc l) c b bs false false true hx hy hz ih h w =
      let none : (suc l == 0) ≡ false = grind (arith, nat_tests) in
      absurd (dead (st Digits f n e o (suc l) (suc k)) b bs (rw (hx, hy, hz, none) refl) w)
  digits_at k f n e o l c b bs false false false hx hy hz ih h w = absurd (dead (st Digits f n e o l (suc k)) b bs (rw (hx, hy, hz) refl) w)

  entry_at : (k : ℕ) (f : Bool) (n : List ℕ) (e o : Bool) (l b : ℕ) (bs : List ℕ) (x : Bool) →
      is_ascii_digit b ≡ x → Says bs → Taken (st Entry f n e o l (suc k)) (b ∷ bs) →
      Rest l k e o (b ∷ bs)
  entry_at k f n e o l b bs true h ih w = ih.digits k f n e o l b h (peel (st Entry f n e o l (suc k)) b (st Digits f n e o l (suc k)) bs (rw h refl) w)
  entry_at k f n e o l b bs false h ih w = absurd (dead (st Entry f n e o l (suc k)) b bs (rw h refl) w)

  quote_at : (k : ℕ) (f : Bool) (n : List ℕ) (e o : Bool) (l b : ℕ) (bs : List ℕ) (x : Bool) →
      0 < ty.dims → (b == 40) ≡ x → Says bs → Taken (st Quote f n e o l (suc k)) (b ∷ bs) →
      Quoted k e o (b ∷ bs)
  quote_at k f n e o l b bs true v h ih w =
      let r = ih.entry k f n e o (ty.dims - 1) (peel (st Quote f n e o l (suc k)) b (st Entry f n e o (ty.dims - 1) (suc k)) bs (rw h refl) w) in
      rw (is_byte b 40 h) record { es = r.es; multi = (omega (arith, v, r.long), r.numbers); after = r.after; is = ap (λ (s : List ℕ). 40 ∷ s) r.is; next = r.next }
  quote_at k f n e o l b bs false v h ih w = absurd (dead (st Quote f n e o l (suc k)) b bs (rw h refl) w)

  factor_at : (k : ℕ) (f : Bool) (n : List ℕ) (e o : Bool) (l b : ℕ) (bs : List ℕ) (x y : Bool) →
      (b == 93 && f) ≡ x → is_ascii_alphabetic b ≡ y → Says bs →
      Taken (st Factor f n e o l (suc k)) (b ∷ bs) → Here f k (b ∷ bs)
  factor_at k true n e o l b bs true y hx hy ih w =
      let s : State = st Factor true n e o l (suc k) in
      let t = and_parts (b == 93) true hx in
      rw (is_byte b 93 t.0) (inner_end k bs (closed_says k Factor true n e o l bs ih (peel s b (closed s) bs (rw hx refl) w)))
  factor_at k false n e o l b bs true y hx hy ih w = let t = and_parts (b == 93) false hx in let u : false ≡ true = t.1 in absurd cc
  factor_at k f n e o l b bs false true hx hy ih w =
      ih.name k f (b ∷ []) e o l (hy, tt, omega arith) (peel (st Factor f n e o l (suc k)) b (st Name f (b ∷ []) e o l (suc k)) bs (rw (hx, hy) refl) w)
  factor_at k f n e o l b bs false false hx hy ih w = absurd (dead (st Factor f n e o l (suc k)) b bs (rw (hx, hy) refl) w)

  ended_tail : (k : ℕ) (text : List ℕ) → Next true false k text → Tail (suc k) text
  ended_tail k text (inl h) = h.1
  ended_tail k text (inr h) = let e : false ≡ true = h.0 in absurd cc

  all_more : (n : List ℕ) (b : ℕ) → AllByRecursion (λ c. is_name_byte c ≡ true) n →
      is_name_byte b ≡ true → AllByRecursion (λ c. is_name_byte c ≡ true) (n ++ b ∷ [])
  all_more [] b h j = (j, tt)
  all_more (c ∷ n) b h j = (h.0, all_more n b h.1 j)

  partial_more : (n : List ℕ) (b : ℕ) → IsPartial n → is_name_byte b ≡ true → nat_lt (length n) 16 ≡ true → IsPartial (n ++ b ∷ [])
  partial_more [] b h j r = absurd h
  partial_more (c ∷ n) b h j r =
      let room : suc (length n) < 16 = grind (arith, nat_tests) in
      (h.0, all_more n b h.1 j, omega (arith, room, length-append n (b ∷ [])))

  whole : (n : List ℕ) → IsPartial n → is_reserved n ≡ false → IsName n
  whole [] h r = absurd h
  whole (c ∷ n) h r = (h.0, h.1, h.2, r)

  root_at : (k : ℕ) (f : Bool) (n : List ℕ) (b : ℕ) (bs : List ℕ) → 0 < ty.dims → (b == 40) ≡ true →
      f ≡ true → bytes_eq n (88 ∷ []) ≡ true → Rest (ty.dims - 1) k true false bs →
      Here f k (n ++ b ∷ bs)
  root_at k true n b bs v hb hf hn r =
      let it : n ≡ 88 ∷ [] = (bytes_eq-Decides n (88 ∷ [])).0 hn in
      let es = r.es in
      let root_text : Inner k (88 ∷ 40 ∷ entries_onto es r.after) = inner_root k es r.after (omega (arith, v, r.long), r.numbers) (ended_tail k r.after r.next) in
      let text : n ++ b ∷ bs ≡ 88 ∷ 40 ∷ entries_onto es r.after = ap (λ (m : List ℕ). m ++ b ∷ bs) it ∙ ap (λ (c : ℕ). 88 ∷ c ∷ bs) (is_byte b 40 hb) ∙ ap (λ (s : List ℕ). 88 ∷ 40 ∷ s) r.is in
      subst (λ (s : List ℕ). Inner k s) (sym text) root_text
  root_at k false n b bs v hb hf hn r = absurd cc

  name_at : (k : ℕ) (f : Bool) (n : List ℕ) (e o : Bool) (l b : ℕ) (bs : List ℕ) (x y z u v : Bool) → 0 < ty.dims →
      is_name_byte b ≡ x → nat_lt (length n) 16 ≡ y → is_reserved n ≡ z → (b == 40 && f && bytes_eq n (88 ∷ [])) ≡ u → (b == 39) ≡ v → Says bs → IsPartial n →
      Taken (st Name f n e o l (suc k)) (b ∷ bs) → Here f k (n ++ b ∷ bs)
  name_at k f n e o l b bs true true z u v d hx hy hz hu hv ih p w =
      subst (λ (s : List ℕ). Here f k s) (append_assoc n (b ∷ []) bs)
      (ih.name k f (n ++ b ∷ []) e o l (partial_more n b p hx hy) (peel (st Name f n e o l (suc k)) b (st Name f (n ++ b ∷ []) e o l (suc k)) bs (rw (hx, hy) refl) w))
  name_at k f n e o l b bs true false z u v d hx hy hz hu hv ih p w = absurd (dead (st Name f n e o l (suc k)) b bs (rw (hx, hy) refl) w)
  name_at k f n e o l b bs false y true true v d hx hy hz hu hv ih p w =
      let t = and_parts (b == 40 && f) (bytes_eq n (88 ∷ [])) hu in
      let r = and_parts (b == 40) f t.0 in
      root_at k f n b bs d r.0 r.1 t.1 (ih.entry k f n true false (ty.dims - 1) (peel (st Name f n e o l (suc k)) b (st Entry f n true false (ty.dims - 1) (suc k)) bs (rw (hx, hz, hu) refl) w))
  name_at k f n e o l b bs false y true false v d hx hy hz hu hv ih p w = absurd (dead (st Name f n e o l (suc k)) b bs (rw (hx, hz, hu) refl) w)
  name_at k f n e o l b bs false y false u true d hx hy hz hu hv ih p w =
      let e' = may_end (kind_named ty n) in
      let o' = may_open (kind_named ty n) in
      let q = ih.quote k f n e' o' l (peel (st Name f n e o l (suc k)) b (st Quote f n e' o' l (suc k)) bs (rw (hx, hz, hv) refl) w) in
      let text : b ∷ bs ≡ 39 ∷ 40 ∷ entries_onto q.es q.after = ap (λ (c : ℕ). c ∷ bs) (is_byte b 39 hv) ∙ ap (λ (s : List ℕ). 39 ∷ s) q.is in
      subst (λ (s : List ℕ). Here f k (n ++ s)) (sym text) (one_edge f k n (Some q.es) q.after (whole n p hz) q.multi q.next)
  name_at k f n e o l b bs false y false u false d hx hy hz hu hv ih p w =
      let e' = may_end (kind_named ty n) in
      let o' = may_open (kind_named ty n) in
      let same : step_by Name ty (st Name f n e o l (suc k)) b ≡ follow_by (st After f n e' o' l (suc k)) b = rw (hx, hz, hv) refl in
      let next : Taken (st After f n e' o' l (suc k)) (b ∷ bs) = (w.0, sym (ap (λ (x : Option State). or_place x w.0 (λ u. place_from ty (w.0 + 1) u bs)) same) ∙ w.1) in
      one_edge f k n None (b ∷ bs) (whole n p hz) tt (follow_at k f n e' o' l b bs (b == 91 && o') (b == 93 && e') (b == 42 && e') refl refl refl ih next)

  gone : (i : ℕ) → Some i ≡ None → ⊥
  gone i h = absurd cc

  says : (text : List ℕ) → 0 < ty.dims → Says text
  says [] d = record {
    done = λ s h w. refl;
    after = λ k f n e o l w. absurd (gone w.0 w.1);
    factor = λ k f n e o l w. absurd (gone w.0 w.1);
    name = λ k f n e o l p w. absurd (gone w.0 w.1);
    quote = λ k f n e o l w. absurd (gone w.0 w.1);
    entry = λ k f n e o l w. absurd (gone w.0 w.1);
    digits = λ k f n e o l c h w. absurd (gone w.0 w.1);
  }
  says (b ∷ bs) d =
      let ih = says bs d in
      record {
        done = λ s h w. absurd (dead s b bs (rw h refl) w);
        after = λ k f n e o l w. follow_at k f n e o l b bs (b == 91 && o) (b == 93 && e) (b == 42 && e) refl refl refl ih w;
        factor = λ k f n e o l w. factor_at k f n e o l b bs (b == 93 && f) (is_ascii_alphabetic b) refl refl ih w;
        name = λ k f n e o l p w. name_at k f n e o l b bs (is_name_byte b) (nat_lt (length n) 16) (is_reserved n) (b == 40 && f && bytes_eq n (88 ∷ [])) (b == 39) d refl refl refl refl refl ih p w;
        quote = λ k f n e o l w. quote_at k f n e o l b bs (b == 40) d refl ih w;
        entry = λ k f n e o l w. entry_at k f n e o l b bs (is_ascii_digit b) refl ih w;
        digits = λ k f n e o l c h w. digits_at k f n e o l c b bs (is_ascii_digit b) (b == 44) (b == 41) refl refl refl ih h w;
      }

  start_at : (b : ℕ) (bs : List ℕ) (x : Bool) → (b == 91) ≡ x → 0 < ty.dims →
      Taken (st Start false [] false false 0 0) (b ∷ bs) →
      (t : Written) × IsGrammatical ty t × (b ∷ bs ≡ written_text t)
  start_at b bs true h d w =
      let i = (says bs d).factor 0 true [] false false 0 (peel (st Start false [] false false 0 0) b (st Factor true [] false false 0 1) bs (rw h refl) w) in
      (i.0, i.2, ap (λ (c : ℕ). c ∷ bs) (is_byte b 91 h) ∙ ap (λ (s : List ℕ). 91 ∷ s) (i.3 ∙ ap (λ (s : List ℕ). inside (written_root i.0) i.0 (starred_onto i.0 (93 ∷ s))) i.4))
  start_at b bs false h d w = absurd (dead (st Start false [] false false 0 0) b bs (rw h refl) w)

  pub taken_written : (text : List ℕ) → 0 < ty.dims → place_in ty text ≡ None → (t : Written) × IsGrammatical ty t × (text ≡ written_text t)
  taken_written [] d h = absurd (gone 0 h)
  taken_written (b ∷ bs) d h = start_at b bs (b == 91) refl d (0, h)
