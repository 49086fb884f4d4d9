-- From every state that a text leads to, some text leads to the end.
use Rattle.std.proofs.Common.{◌≡◌, ℕ, zero, suc, ◌+◌, ◌-◌, ◌≤◌, Bool, true, false, List, [], ◌∷◌, ◌++◌, length, Option, Some, None, refl, ap, ◌∙◌, arith, nat_lt}
use Rattle.std.proofs.lemmas.Bool.Decides.{nat_tests}
use Rattle.std.specs.Char.{is_ascii_digit, is_ascii_alphabetic}
use Rattle.std.specs.Str.{bytes_eq}
use Rattle.std.specs.Prelude.{if◌then◌else◌, IfSome, ◌==◌, ◌&&◌}
use Rattle.tree_grammar.specs.Step.{step_by, step_factor, step_name, step_digits, place_from, or_place, closed, opened, follow_by, step_named}
use Rattle.degree_numbers.specs.Name.{is_name_byte, is_reserved}
use Rattle.tree_grammar.specs.Grammar.{kind_named, may_end, may_open}
use Rattle.degree_numbers.specs.declared.types.Kind.{Kind}
use Rattle.degree_numbers.specs.declared.types.Kind.TheVariants.{Noise, Kernel}
use Rattle.degree_numbers.specs.declared.types.Types.{Types}
use Rattle.tree_grammar.specs.declared.state.State.{State}
use Rattle.tree_grammar.specs.declared.state.At.{At}
use Rattle.tree_grammar.specs.declared.state.At.TheVariants.{Start, Factor, Name, Quote, Entry, Digits, After, Done}

abbrev pub st : At → Bool → List ℕ → Bool → Bool → ℕ → ℕ → State
st a f n e o l d = record { at = a; first = f; name = n; ends = e; opens = o; left = l; depth = d }

module _ (ty : Types) where
  -- some text leads from here to the end
  abbrev pub IsLive : State → Type 0
  IsLive s = (more : List ℕ) × ((i : ℕ) → place_from ty i s more ≡ None)

  pub takes : (s : State) (b : ℕ) (t : State) → step_by s.at ty s b ≡ Some t → IsLive t → IsLive s
  takes s b t h l = (b ∷ l.0, λ i. ap (λ (o : Option State). or_place o i (λ u. place_from ty (i + 1) u l.0)) h ∙ l.1 (i + 1))

  live-done : (f : Bool) (n : List ℕ) (e o : Bool) (l d : ℕ) → IsLive (st Done f n e o l d)
  live-done f n e o l d = ([], λ i. refl)

  live-closed : (k : ℕ) (a : At) (f : Bool) (n : List ℕ) (e o : Bool) (l : ℕ) → IsLive (closed (st a f n e o l (suc k)))
  live-closed zero a f n e o l = live-done f n e o l 0
  live-closed (suc k) a f n e o l =
      let more : nat_lt 1 (suc (suc k)) ≡ true = grind (arith, nat_tests) in
      let less : suc (suc k) - 1 ≡ suc k = omega arith in
      rw (more, less) (takes (st After f n true false l (suc k)) 93 (closed (st After f n true false l (suc k))) refl (live-closed k After f n true false l))

  live-opened : (k : ℕ) (a : At) (f : Bool) (n : List ℕ) (e o : Bool) (l : ℕ) → IsLive (opened (st a f n e o l (suc k)))
  live-opened k a f n e o l =
      let more : suc k + 1 ≡ suc (suc k) = omega arith in
      rw more (takes (st Factor true n e o l (suc (suc k))) 93 (closed (st Factor true n e o l (suc (suc k)))) refl (live-closed (suc k) Factor true n e o l))

  -- the factor may end or have a subtree
  live-after : (k : ℕ) (f : Bool) (n : List ℕ) (e o : Bool) (l : ℕ) → (e ≡ false → o ≡ true) → IsLive (st After f n e o l (suc k))
  live-after k f n true o l h = takes (st After f n true o l (suc k)) 93 (closed (st After f n true o l (suc k))) refl (live-closed k After f n true o l)
  live-after k f n false true l h = takes (st After f n false true l (suc k)) 91 (opened (st After f n false true l (suc k))) refl (live-opened k After f n false true l)
  live-after k f n false false l h = let w : false ≡ true = h refl in absurd cc

  live-digits : (k : ℕ) (f : Bool) (n : List ℕ) (e o : Bool) (l : ℕ) → (e ≡ false → o ≡ true) → IsLive (st Digits f n e o l (suc k))
  live-digits k f n e o zero h = takes (st Digits f n e o 0 (suc k)) 41 (st After f n e o 0 (suc k)) refl (live-after k f n e o 0 h)
  live-digits k f n e o (suc l) h =
      let more : nat_lt 0 (suc l) ≡ true = grind (arith, nat_tests) in
      let less : suc l - 1 ≡ l = omega arith in
      takes (st Digits f n e o (suc l) (suc k)) 44 (st Entry f n e o l (suc k)) (rw (more, less) refl)
      (takes (st Entry f n e o l (suc k)) 48 (st Digits f n e o l (suc k)) refl (live-digits k f n e o l h))

  live-entry : (k : ℕ) (f : Bool) (n : List ℕ) (e o : Bool) (l : ℕ) → (e ≡ false → o ≡ true) → IsLive (st Entry f n e o l (suc k))
  live-entry k f n e o l h = takes (st Entry f n e o l (suc k)) 48 (st Digits f n e o l (suc k)) refl (live-digits k f n e o l h)

  live-quote : (k : ℕ) (f : Bool) (n : List ℕ) (e o : Bool) (l : ℕ) → (e ≡ false → o ≡ true) → IsLive (st Quote f n e o l (suc k))
  live-quote k f n e o l h = takes (st Quote f n e o l (suc k)) 40 (st Entry f n e o (ty.dims - 1) (suc k)) refl (live-entry k f n e o (ty.dims - 1) h)

  -- a name that is not reserved
  ends-or-opens : (kind : Option Kind) → may_end kind ≡ false → may_open kind ≡ true
  ends-or-opens None h = refl
  ends-or-opens (Some Noise) h = absurd cc
  ends-or-opens (Some Kernel) h = refl

  live-named : (k : ℕ) (f : Bool) (n : List ℕ) (e o : Bool) (l : ℕ) → is_reserved n ≡ false → IsLive (st Name f n e o l (suc k))
  live-named k f n e o l h =
      takes (st Name f n e o l (suc k)) 39 (st Quote f n (may_end (kind_named ty n)) (may_open (kind_named ty n)) l (suc k)) (rw h refl)
      (live-quote k f n (may_end (kind_named ty n)) (may_open (kind_named ty n)) l (ends-or-opens (kind_named ty n)))

  not_reserved : (b c : ℕ) (n : List ℕ) → is_reserved ((b ∷ n) ++ c ∷ []) ≡ false
  not_reserved b c [] = refl
  not_reserved b c (d ∷ n) = refl

  live-name-at : (k : ℕ) (f : Bool) (n : List ℕ) (e o : Bool) (l : ℕ) (r : Bool) → is_reserved n ≡ r → IsLive (st Name f n e o l (suc k))
  live-name-at k f n e o l false h = live-named k f n e o l h
  live-name-at k f [] e o l true h = absurd cc
  live-name-at k f (b ∷ []) e o l true h =
      takes (st Name f (b ∷ []) e o l (suc k)) 97 (st Name f (b ∷ 97 ∷ []) e o l (suc k)) refl (live-named k f (b ∷ 97 ∷ []) e o l refl)
  live-name-at k f (b ∷ c ∷ n) e o l true h = absurd cc

  live-name : (k : ℕ) (f : Bool) (n : List ℕ) (e o : Bool) (l : ℕ) → IsLive (st Name f n e o l (suc k))
  live-name k f n e o l = live-name-at k f n e o l (is_reserved n) refl

  live-factor : (k : ℕ) (f : Bool) (n : List ℕ) (e o : Bool) (l : ℕ) → IsLive (st Factor f n e o l (suc k))
  live-factor k f n e o l = takes (st Factor f n e o l (suc k)) 97 (st Name f (97 ∷ []) e o l (suc k)) refl (live-name k f (97 ∷ []) e o l)

  -- what a text keeps: brackets are open, and a factor may end or have a subtree
  abbrev pub IsKept : At → State → Type 0
  IsKept Start s = s.depth ≡ 0
  IsKept Factor s = 1 ≤ s.depth
  IsKept Name s = 1 ≤ s.depth
  IsKept Done s = Unit {0}
  IsKept _ s = (1 ≤ s.depth) × (s.ends ≡ false → s.opens ≡ true)

  pub live-kept : (a : At) (f : Bool) (n : List ℕ) (e o : Bool) (l d : ℕ) → IsKept a (st a f n e o l d) → IsLive (st a f n e o l d)
  live-kept Start f n e o l d h = rw h (takes (st Start f n e o l 0) 91 (opened (st Start f n e o l 0)) refl (live-factor 0 true n e o l))
  live-kept Factor f n e o l zero h = absurd (omega arith)
  live-kept Factor f n e o l (suc k) h = live-factor k f n e o l
  live-kept Name f n e o l zero h = absurd (omega arith)
  live-kept Name f n e o l (suc k) h = live-name k f n e o l
  live-kept Quote f n e o l zero h = absurd (omega (arith, h.0))
  live-kept Quote f n e o l (suc k) h = live-quote k f n e o l h.1
  live-kept Entry f n e o l zero h = absurd (omega (arith, h.0))
  live-kept Entry f n e o l (suc k) h = live-entry k f n e o l h.1
  live-kept Digits f n e o l zero h = absurd (omega (arith, h.0))
  live-kept Digits f n e o l (suc k) h = live-digits k f n e o l h.1
  live-kept After f n e o l zero h = absurd (omega (arith, h.0))
  live-kept After f n e o l (suc k) h = live-after k f n e o l h.1
  live-kept Done f n e o l d h = live-done f n e o l d

  -- each step keeps it
  abbrev Keeps : Option State → Type 0
  Keeps o = IfSome o (λ t. IsKept t.at t)

  either : (c : Bool) (x y : Option State) → Keeps x → Keeps y → Keeps (if c then x else y)
  either true x y h k = h
  either false x y h k = k

  kept-closed-at : (c : Bool) (s : State) → nat_lt 1 s.depth ≡ c → IsKept (closed s).at (closed s)
  kept-closed-at true s h = rw h ((grind (arith, nat_tests), λ e. absurd cc))
  kept-closed-at false s h = rw h tt

  kept-closed : (s : State) → Keeps (Some (closed s))
  kept-closed s = kept-closed-at (nat_lt 1 s.depth) s refl

  kept-follow : (s : State) (b : ℕ) → 1 ≤ s.depth → Keeps (follow_by s b)
  kept-follow s b h =
      either (b == 91 && s.opens) (Some (opened s)) _ (omega arith)
      (either (b == 93 && s.ends) (Some (closed s)) _ (kept-closed s) (either (b == 42 && s.ends) (Some record s { at = Factor; first = false }) None h tt))

  kept-factor : (s : State) (b : ℕ) → 1 ≤ s.depth → Keeps (step_factor s b)
  kept-factor s b h = either (b == 93 && s.first) (Some (closed s)) _ (kept-closed s) (either (is_ascii_alphabetic b) (Some record s { at = Name; name = b ∷ [] }) None h tt)

  kept-named : (s : State) (b : ℕ) → 1 ≤ s.depth → Keeps (step_named ty s b)
  kept-named s b h =
      let t : State = record s { ends = may_end (kind_named ty s.name); opens = may_open (kind_named ty s.name) } in
      either (b == 39) (Some record t { at = Quote }) (follow_by t b) (h, ends-or-opens (kind_named ty s.name)) (kept-follow t b h)

  kept-name : (f : Bool) (n : List ℕ) (e o : Bool) (l d b : ℕ) → 1 ≤ d → Keeps (step_name ty (st Name f n e o l d) b)
  kept-name f n e o l d b h =
      either (is_name_byte b) (if nat_lt (length n) 16 then Some (st Name f (n ++ b ∷ []) e o l d) else None) _
      (either (nat_lt (length n) 16) (Some (st Name f (n ++ b ∷ []) e o l d)) None h tt)
      (either (is_reserved n) (if b == 40 && f && bytes_eq n (88 ∷ []) then Some (st Entry f n true false (ty.dims - 1) d) else None) (step_named ty (st Name f n e o l d) b)
      (either (b == 40 && f && bytes_eq n (88 ∷ [])) (Some (st Entry f n true false (ty.dims - 1) d)) None (h, λ e. absurd cc) tt)
      (kept-named (st Name f n e o l d) b h))

  kept-digits : (f : Bool) (n : List ℕ) (e o : Bool) (l d b : ℕ) → IsKept Digits (st Digits f n e o l d) → Keeps (step_digits (st Digits f n e o l d) b)
  kept-digits f n e o l d b h =
      either (is_ascii_digit b) (Some (st Digits f n e o l d)) _ h
      (either (b == 44 && nat_lt 0 l) (Some (st Entry f n e o (l - 1) d)) _ h (either (b == 41 && l == 0) (Some (st After f n e o l d)) None h tt))

  pub kept : (a : At) (f : Bool) (n : List ℕ) (e o : Bool) (l d b : ℕ) → IsKept a (st a f n e o l d) → Keeps (step_by a ty (st a f n e o l d) b)
  kept Start f n e o l d b h = either (b == 91) (Some (opened (st Start f n e o l d))) None (omega arith) tt
  kept Factor f n e o l d b h = kept-factor (st Factor f n e o l d) b h
  kept Name f n e o l d b h = kept-name f n e o l d b h
  kept Quote f n e o l d b h = either (b == 40) (Some (st Entry f n e o (ty.dims - 1) d)) None h tt
  kept Entry f n e o l d b h = either (is_ascii_digit b) (Some (st Digits f n e o l d)) None h tt
  kept Digits f n e o l d b h = kept-digits f n e o l d b h
  kept After f n e o l d b h = kept-follow (st After f n e o l d) b h.0
  kept Done f n e o l d b h = tt
