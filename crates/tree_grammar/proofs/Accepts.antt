-- A written tree's text is a tree text.
use Rattle.std.proofs.Common.{◌≡◌, ℕ, zero, suc, ◌+◌, ◌-◌, ◌<◌, ◌≤◌, Bool, true, false, List, [], ◌∷◌, ◌++◌, length, Option, Some, None, refl, sym, ap, ◌∙◌, subst, arith, nat_lt, append_assoc, append-nil, length-append}
use Rattle.std.proofs.lemmas.Bool.Decides.{nat_tests}
use Rattle.std.specs.Char.{is_ascii_digit, is_ascii_alphabetic}
use Rattle.std.specs.List.{AllByRecursion}
use Rattle.std.specs.Prelude.{◌==◌}
use Rattle.tree_grammar.specs.Step.{step_by, place_from, place_in, or_place, closed, follow_by}
use Rattle.tree_grammar.specs.Grammar.{Written, root, leaf, planted, entries_onto, quoted_onto, written_root, unstarred, inside, starred_onto, written_text, IsNumber, IsMulti, IsGrammatical, kind_named, may_end, may_open}
use Rattle.degree_numbers.specs.Name.{is_name_byte, is_reserved}
use Rattle.tree_grammar.proofs.Names.{IsName, name_parts}
use Rattle.degree_numbers.specs.declared.types.Types.{Types}
use Rattle.tree_grammar.specs.declared.state.State.{State}
use Rattle.tree_grammar.specs.declared.state.At.{At}
use Rattle.tree_grammar.specs.declared.state.At.TheVariants.{Start, Factor, Name, Quote, Entry, Digits, After}
use Rattle.tree_grammar.proofs.Live.{st}

is_it : (b c : ℕ) → (b == c) ≡ true → b ≡ c
is_it b c h = grind (arith, nat_tests)

none_is_some : (j : ℕ) → Some j ≡ None → ⊥
none_is_some j h = absurd cc

-- what passes a test is not a byte that fails it
apart : (c : ℕ) (p : ℕ → Bool) (b : ℕ) (t : Bool) → (b == c) ≡ t → p c ≡ false → p b ≡ true → (b == c) ≡ false
apart c p b false h fails passes = h
apart c p b true h fails passes = let w : true ≡ false = sym passes ∙ ap p (is_it b c h) ∙ fails in absurd cc

module _ (ty : Types) where
  abbrev Takes : State → List ℕ → Type 0
  Takes s text = (i : ℕ) → place_from ty i s text ≡ None

  go : (s : State) (b : ℕ) (t : State) (text : List ℕ) → step_by s.at ty s b ≡ Some t → Takes t text → Takes s (b ∷ text)
  go s b t text h l = λ i. ap (λ (o : Option State). or_place o i (λ u. place_from ty (i + 1) u text)) h ∙ l (i + 1)

  -- after a factor that may end, in d + 1 open brackets
  abbrev Ends : ℕ → List ℕ → Type 0
  Ends d text = (f : Bool) (n : List ℕ) (o : Bool) (l : ℕ) → Takes (st After f n true o l (suc d)) text

  digits : (f : Bool) (n : List ℕ) (e o : Bool) (l d : ℕ) (bs text : List ℕ) →
      AllByRecursion (λ c. is_ascii_digit c ≡ true) bs → Takes (st Digits f n e o l d) text →
      Takes (st Digits f n e o l d) (bs ++ text)
  digits f n e o l d [] text h k = k
  digits f n e o l d (b ∷ bs) text h k = go (st Digits f n e o l d) b (st Digits f n e o l d) (bs ++ text) (rw h.0 refl) (digits f n e o l d bs text h.1 k)

  number : (f : Bool) (n : List ℕ) (e o : Bool) (l d : ℕ) (bs text : List ℕ) → IsNumber bs →
      Takes (st Digits f n e o l d) text → Takes (st Entry f n e o l d) (bs ++ text)
  number f n e o l d [] text h k = absurd h
  number f n e o l d (b ∷ bs) text h k = go (st Entry f n e o l d) b (st Digits f n e o l d) (bs ++ text) (rw h.0 refl) (digits f n e o l d bs text h.1 k)

  entries : (f : Bool) (n : List ℕ) (e o : Bool) (l d : ℕ) (es : List (List ℕ)) (text : List ℕ) →
      length es ≡ suc l → AllByRecursion IsNumber es → Takes (st After f n e o 0 d) text →
      Takes (st Entry f n e o l d) (entries_onto es text)
  entries f n e o l d [] text h k a = absurd (omega (arith, h))
  entries f n e o zero d (x ∷ []) text h k a = number f n e o 0 d x (41 ∷ text) k.0 (go (st Digits f n e o 0 d) 41 (st After f n e o 0 d) text refl a)
  entries f n e o (suc l) d (x ∷ []) text h k a = absurd (omega (arith, h))
  entries f n e o zero d (x ∷ y ∷ es) text h k a = absurd (omega (arith, h))
  entries f n e o (suc l) d (x ∷ y ∷ es) text h k a =
      let more : nat_lt 0 (suc l) ≡ true = grind (arith, nat_tests) in
      let less : suc l - 1 ≡ l = omega arith in
      number f n e o (suc l) d x (44 ∷ entries_onto (y ∷ es) text) k.0
      (go (st Digits f n e o (suc l) d) 44 (st Entry f n e o l d) (entries_onto (y ∷ es) text) (rw (more, less) refl) (entries f n e o l d (y ∷ es) text (omega (arith, h)) k.1 a))

  more_name : (f : Bool) (n : List ℕ) (e o : Bool) (l d : ℕ) (bs text : List ℕ) → AllByRecursion (λ c. is_name_byte c ≡ true) bs → length n + length bs ≤ 16 →
      Takes (st Name f (n ++ bs) e o l d) text → Takes (st Name f n e o l d) (bs ++ text)
  more_name f n e o l d [] text h long k = subst (λ (m : List ℕ). Takes (st Name f m e o l d) text) (append-nil n) k
  more_name f n e o l d (b ∷ bs) text h long k =
      let room : nat_lt (length n) 16 ≡ true = grind (arith, nat_tests) in
      let longer : length (n ++ b ∷ []) + length bs ≤ 16 = omega (arith, length-append n (b ∷ [])) in
      go (st Name f n e o l d) b (st Name f (n ++ b ∷ []) e o l d) (bs ++ text) (rw (h.0, room) refl)
      (more_name f (n ++ b ∷ []) e o l d bs text h.1 longer (subst (λ (m : List ℕ). Takes (st Name f m e o l d) text) (sym (append_assoc n (b ∷ []) bs)) k))

  whole_name : (f : Bool) (n : List ℕ) (e o : Bool) (l d : ℕ) (m text : List ℕ) → IsName m →
      Takes (st Name f m e o l d) text → Takes (st Factor f n e o l d) (m ++ text)
  whole_name f n e o l d [] text h k = absurd h
  whole_name f n e o l d (b ∷ bs) text h k =
      let no_bracket : (b == 93) ≡ false = apart 93 is_ascii_alphabetic b (b == 93) refl refl h.0 in
      go (st Factor f n e o l d) b (st Name f (b ∷ []) e o l d) (bs ++ text) (rw (no_bracket, h.0) refl) (more_name f (b ∷ []) e o l d bs text h.1 (omega (arith, h.2)) k)

  -- a name that has ended is followed by what may follow the factor
  named_by : (f : Bool) (n : List ℕ) (e o : Bool) (l d b : ℕ) (bs : List ℕ) → is_reserved n ≡ false → is_name_byte b ≡ false → (b == 39) ≡ false →
      Takes (st After f n (may_end (kind_named ty n)) (may_open (kind_named ty n)) l d) (b ∷ bs) → Takes (st Name f n e o l d) (b ∷ bs)
  named_by f n e o l d b bs r nb nq k =
      let same : step_by Name ty (st Name f n e o l d) b ≡ follow_by (st After f n (may_end (kind_named ty n)) (may_open (kind_named ty n)) l d) b = rw (nb, r, nq) refl in
      λ i. ap (λ (x : Option State). or_place x i (λ u. place_from ty (i + 1) u bs)) same ∙ k i

  named_at : (f : Bool) (n : List ℕ) (e o : Bool) (l d b : ℕ) (bs : List ℕ) (x y z : Bool) →
      (b == 91) ≡ x → (b == 93) ≡ y → (b == 42) ≡ z → is_reserved n ≡ false →
      Takes (st After f n (may_end (kind_named ty n)) (may_open (kind_named ty n)) l d) (b ∷ bs) → Takes (st Name f n e o l d) (b ∷ bs)
  named_at f n e o l d b bs true y z hx hy hz r k = named_by f n e o l d b bs r (ap is_name_byte (is_it b 91 hx)) (ap (λ (c : ℕ). c == 39) (is_it b 91 hx)) k
  named_at f n e o l d b bs false true z hx hy hz r k = named_by f n e o l d b bs r (ap is_name_byte (is_it b 93 hy)) (ap (λ (c : ℕ). c == 39) (is_it b 93 hy)) k
  named_at f n e o l d b bs false false true hx hy hz r k = named_by f n e o l d b bs r (ap is_name_byte (is_it b 42 hz)) (ap (λ (c : ℕ). c == 39) (is_it b 42 hz)) k
  named_at f n e o l d b bs false false false hx hy hz r k =
      let none : follow_by (st After f n (may_end (kind_named ty n)) (may_open (kind_named ty n)) l d) b ≡ None = rw (hx, hy, hz) refl in
      absurd (none_is_some 0 (sym (ap (λ (x : Option State). or_place x 0 (λ u. place_from ty 1 u bs)) none) ∙ k 0))

  named : (f : Bool) (n : List ℕ) (e o : Bool) (l d : ℕ) (text : List ℕ) → is_reserved n ≡ false →
      Takes (st After f n (may_end (kind_named ty n)) (may_open (kind_named ty n)) l d) text → Takes (st Name f n e o l d) text
  named f n e o l d [] r k = k
  named f n e o l d (b ∷ bs) r k = named_at f n e o l d b bs (b == 91) (b == 93) (b == 42) refl refl refl r k

  quoted : (f : Bool) (n : List ℕ) (e o : Bool) (l d : ℕ) (p : Option (List (List ℕ))) (text : List ℕ) →
      0 < ty.dims → is_reserved n ≡ false → IsMulti ty.dims p →
      ((k : ℕ) → Takes (st After f n (may_end (kind_named ty n)) (may_open (kind_named ty n)) k d) text) → Takes (st Name f n e o l d) (quoted_onto p text)
  quoted f n e o l d None text w r h k = named f n e o l d text r (k l)
  quoted f n e o l d (Some es) text w r h k =
      let e' = may_end (kind_named ty n) in
      let o' = may_open (kind_named ty n) in
      go (st Name f n e o l d) 39 (st Quote f n e' o' l d) (40 ∷ entries_onto es text) (rw r refl)
      (go (st Quote f n e' o' l d) 40 (st Entry f n e' o' (ty.dims - 1) d) (entries_onto es text) refl (entries f n e' o' (ty.dims - 1) d es text (omega (arith, w, h.0)) h.1 (k 0)))

  not_reserved : (m : List ℕ) → IsName m → is_reserved m ≡ false
  not_reserved [] h = absurd h
  not_reserved (b ∷ bs) h = h.3

  edge : (f : Bool) (n : List ℕ) (e o : Bool) (l d : ℕ) (m : List ℕ) (p : Option (List (List ℕ))) (text : List ℕ) → 0 < ty.dims → IsName m → IsMulti ty.dims p →
      ((k : ℕ) → Takes (st After f m (may_end (kind_named ty m)) (may_open (kind_named ty m)) k d) text) → Takes (st Factor f n e o l d) (m ++ quoted_onto p text)
  edge f n e o l d m p text w h q k = whole_name f n e o l d m (quoted_onto p text) h (quoted f m e o l d p text w (not_reserved m h) q k)

  record Both (t : Written) : Type 0 where
    pub starred : (d : ℕ) (text : List ℕ) → Ends d text → Ends d (starred_onto t text)
    pub first : (d : ℕ) (text n : List ℕ) (e o : Bool) (l : ℕ) → Ends d (93 ∷ text) → Takes (st Factor true n e o l (suc d)) (93 ∷ text) →
        Takes (st Factor true n e o l (suc d)) (unstarred t (starred_onto t (93 ∷ text)))

  in_tree : (t : Written) → Both t → (x : Option (List (List ℕ))) → 0 < ty.dims → IsMulti ty.dims x → (d : ℕ) (text n : List ℕ) (e o : Bool) (l : ℕ) →
      ((a : At) (f : Bool) (n : List ℕ) (e o : Bool) (l : ℕ) → Takes (closed (st a f n e o l (suc d))) text) →
      Takes (st Factor true n e o l (suc d)) (inside x t (starred_onto t (93 ∷ text)))
  in_tree t b None w h d text n e o l c =
      b.first d text n e o l (λ f m o l. go (st After f m true o l (suc d)) 93 (closed (st After f m true o l (suc d))) text refl (c After f m true o l))
      (go (st Factor true n e o l (suc d)) 93 (closed (st Factor true n e o l (suc d))) text refl (c Factor true n e o l))
  in_tree t b (Some es) w h d text n e o l c =
      let rest = starred_onto t (93 ∷ text) in
      let x : List ℕ = 88 ∷ [] in
      go (st Factor true n e o l (suc d)) 88 (st Name true x e o l (suc d)) (40 ∷ entries_onto es rest) refl
      (go (st Name true x e o l (suc d)) 40 (st Entry true x true false (ty.dims - 1) (suc d)) (entries_onto es rest) refl
      (entries true x true false (ty.dims - 1) (suc d) es rest (omega (arith, w, h.0)) h.1
      (b.starred d (93 ∷ text) (λ f m o l. go (st After f m true o l (suc d)) 93 (closed (st After f m true o l (suc d))) text refl (c After f m true o l)) true x false 0)))

  closes_inner : (d : ℕ) (text : List ℕ) → Ends d text →
      (a : At) (f : Bool) (n : List ℕ) (e o : Bool) (l : ℕ) →
      Takes (closed (st a f n e o l (suc (suc d)))) text
  closes_inner d text h a f n e o l =
      let more : nat_lt 1 (suc (suc d)) ≡ true = grind (arith, nat_tests) in
      let less : suc (suc d) - 1 ≡ suc d = omega arith in
      rw (more, less) (h f n false l)

  root_multi : (t : Written) → IsGrammatical ty t → IsMulti ty.dims (written_root t)
  root_multi (root x) h = h
  root_multi (leaf n p t) h = root_multi t h.3
  root_multi (planted n p c t) h = root_multi t h.4

  -- an edge's subtree
  subtree : (c : Written) → Both c → 0 < ty.dims → IsGrammatical ty c → (d : ℕ) (text : List ℕ) → Ends d text → (f : Bool) (m : List ℕ) (e : Bool) (k : ℕ) →
      Takes (st After f m e true k (suc d)) (91 ∷ inside (written_root c) c (starred_onto c (93 ∷ text)))
  subtree c b w h d text ends f m e k =
      let more : suc d + 1 ≡ suc (suc d) = omega arith in
      let s : State = st After f m e true k (suc d) in
      go s 91 (st Factor true m e true k (suc (suc d))) (inside (written_root c) c (starred_onto c (93 ∷ text))) (rw more refl)
      (in_tree c b (written_root c) w (root_multi c h) (suc d) text m e true k (closes_inner d text ends))

  both : (t : Written) → 0 < ty.dims → IsGrammatical ty t → Both t
  both (root x) w h = record { starred = λ d text k. k; first = λ d text n e o l k j. j }
  both (leaf m p t) w h =
      let b = both t w h.3 in
      record {
        starred = λ d text ends f n o l.
            go (st After f n true o l (suc d)) 42 (st Factor false n true o l (suc d)) (m ++ quoted_onto p (starred_onto t text)) refl
            (edge false n true o l (suc d) m p (starred_onto t text) w (name_parts m h.0) h.1 (λ k. rw h.2 (b.starred d text ends false m (may_open (kind_named ty m)) k)));
        first = λ d text n e o l ends j.
            edge true n e o l (suc d) m p (starred_onto t (93 ∷ text)) w (name_parts m h.0) h.1 (λ k. rw h.2 (b.starred d (93 ∷ text) ends true m (may_open (kind_named ty m)) k));
      }
  both (planted m p c t) w h =
      let b = both t w h.4 in
      let a = both c w h.3 in
      record {
        starred = λ d text ends f n o l.
            let rest = starred_onto t text in
            let sub = 91 ∷ inside (written_root c) c (starred_onto c (93 ∷ rest)) in
            go (st After f n true o l (suc d)) 42 (st Factor false n true o l (suc d)) (m ++ quoted_onto p sub) refl
            (edge false n true o l (suc d) m p sub w (name_parts m h.0) h.1 (λ k. rw h.2 (subtree c a w h.3 d rest (b.starred d text ends) false m (may_end (kind_named ty m)) k)));
        first = λ d text n e o l ends j.
            let rest = starred_onto t (93 ∷ text) in
            let sub = 91 ∷ inside (written_root c) c (starred_onto c (93 ∷ rest)) in
            edge true n e o l (suc d) m p sub w (name_parts m h.0) h.1 (λ k. rw h.2 (subtree c a w h.3 d rest (b.starred d (93 ∷ text) ends) true m (may_end (kind_named ty m)) k));
      }

  pub written_taken : (t : Written) → 0 < ty.dims → IsGrammatical ty t → place_in ty (written_text t) ≡ None
  written_taken t w h =
      go (st Start false [] false false 0 0) 91 (st Factor true [] false false 0 1) (inside (written_root t) t (starred_onto t (93 ∷ []))) refl
      (in_tree t (both t w h) (written_root t) w (root_multi t h) 0 [] [] false false 0 (λ a f n e o l i. refl)) 0
