-- Choices that are raised unit by unit.
use Rattle.std.proofs.Common.{◌≡◌, ℕ, zero, suc, ◌+◌, ◌≤◌, ◌<◌, ◌^◌, List, [], ◌∷◌, length, map, get_or, sum, refl, sym, ap, ◌∙◌, subst, arith, inl, inr}
use Rattle.std.specs.List.{All, AllByRecursion}
use Rattle.std.proofs.lemmas.List.Elements.{All-cons, All-nil}
use Rattle.std.proofs.lemmas.List.Sums.{sum_by-cons}
use Rattle.degree_numbers.specs.Multi.{plus_of, minus_of}
use Rattle.degree_numbers.proofs.TypeBounds.{all_weaker}
use Rattle.equations.specs.declared.equation.Equation.{Equation}
use Rattle.equations.specs.Accepted.{IsEquation}
use Rattle.ordered_lists.specs.Members.{IsIn}
use Rattle.ordered_lists.proofs.Members.{in_flat_map, from_flat_map}
use Rattle.normal_rule.specs.declared.rule.EdgeType.{EdgeType}
use Rattle.normal_rule.specs.declared.rule.NodeType.{NodeType}
use Rattle.normal_rule.specs.declared.rule.Rule.{Rule}
use Rattle.tree_cuttings.proofs.Multinomials.{plus_comm}
use Rattle.conforming_trees.specs.Conforming.{EdgeLabel, label, labels, IsRule}
use Rattle.conforming_trees.proofs.Labels.{IsInLabelOrder, put-all, same_labels}
use Rattle.rule_stages.specs.Stages.{join, IsRaised}
use Rattle.rule_stages.proofs.Joins.{count-join, join-nil-sorted}
use Rattle.rule_stages.proofs.Parts.{raised-more}
use Rattle.rule_stages.proofs.ReadDown.{IsBelow, plus-minus}
use Rattle.rule_steps.specs.Choices.{IsSmallLabel, IsChoice, AreChoices, IsRaisedOf, IsWithBumped}
use Rattle.rule_steps.specs.Sets.{IsSetOf, HasMany, IsAdditionTo, IsRaisedFrom, IsBumpedFrom, AreSmallEntries, IsSmallRule}
use Rattle.rule_steps.specs.Sums.{raisings, options}
use Rattle.rule_steps.proofs.ChoiceLists.{from_recursion, option-choice}
use Rattle.rule_steps.proofs.NodeSets.{set_by, many_more}
use Rattle.rule_steps.proofs.Raisings.{zeros, zeros-below, HasLength, raising-is, raising-there}
use Rattle.rule_steps.proofs.UnitSets.{raised_from-more, raised_from-same, raised_from-less}
use Rattle.rule_steps.proofs.Units.{unit_at, HasDirection, length-plus-left}

-- the multiindex n as far as it is walked: the entries before direction d, and i units in it
abbrev pub so_far : ℕ → ℕ → List ℕ → List ℕ
so_far d i [] = []
so_far zero i (x ∷ xs) = i ∷ zeros xs
so_far (suc d) i (x ∷ xs) = x ∷ so_far d i xs

so_far-start : (n : List ℕ) → so_far 0 0 n ≡ zeros n
so_far-start [] = refl
so_far-start (x ∷ xs) = refl

so_far-unit : (d i : ℕ) (n : List ℕ) → d < length n → so_far d (i + 1) n ≡ plus_of (unit_at d) (so_far d i n)
so_far-unit d i [] h = absurd (omega (arith, h))
so_far-unit zero i (x ∷ xs) h = ap (λ (k : ℕ). k ∷ zeros xs) (omega arith)
so_far-unit (suc d) i (x ∷ xs) h =
    let first : x ≡ 0 + x = omega arith in
    let rest : so_far d (i + 1) xs ≡ plus_of (unit_at d) (so_far d i xs) = so_far-unit d i xs (omega (arith, h)) in
    cc

so_far-next : (d : ℕ) (n : List ℕ) (z : ℕ) → d < length n → so_far d (get_or n d z) n ≡ so_far (d + 1) 0 n
so_far-next d [] z h = absurd (omega (arith, h))
so_far-next zero (x ∷ xs) z h = ap (λ (l : List ℕ). x ∷ l) (sym (so_far-start xs))
so_far-next (suc d) (x ∷ xs) z h = let s : suc d + 1 ≡ suc (d + 1) = omega arith in rw s (ap (λ (l : List ℕ). x ∷ l) (so_far-next d xs z (omega (arith, h))))

so_far-end : (d : ℕ) (n : List ℕ) → length n ≤ d → so_far d 0 n ≡ n
so_far-end d [] h = refl
so_far-end zero (x ∷ xs) h = absurd (omega (arith, h))
so_far-end (suc d) (x ∷ xs) h = ap (λ (l : List ℕ). x ∷ l) (so_far-end d xs (omega (arith, h)))

so_far-below : (d i : ℕ) (n : List ℕ) (z : ℕ) → d < length n → i ≤ get_or n d z → IsBelow (so_far d i n) n
so_far-below d i [] z h le = absurd (omega (arith, h))
so_far-below zero i (x ∷ xs) z h le = (le, zeros-below xs)
so_far-below (suc d) i (x ∷ xs) z h le = (omega arith, so_far-below d i xs z (omega (arith, h)) le)

so_far-length : (d i : ℕ) (n : List ℕ) → length (so_far d i n) ≡ length n
so_far-length d i [] = refl
so_far-length zero i (x ∷ xs) = ap suc (zeros-length xs)
  where
    zeros-length : (l : List ℕ) → length (zeros l) ≡ length l
    zeros-length [] = refl
    zeros-length (y ∷ ys) = ap suc (zeros-length ys)
so_far-length (suc d) i (x ∷ xs) = ap suc (so_far-length d i xs)

-- raised by nothing
abbrev AreZero : List ℕ → Type 0
AreZero xs = AllByRecursion (λ x. x ≡ 0) xs

are_zero : (n : List ℕ) → AreZero (zeros n)
are_zero [] = tt
are_zero (x ∷ xs) = (refl, are_zero xs)

zero-parts : (xs ys : List ℕ) → AreZero (plus_of xs ys) → AreZero xs × AreZero ys
zero-parts [] ys h = (tt, h)
zero-parts (x ∷ xs) [] h = (h, tt)
zero-parts (x ∷ xs) (y ∷ ys) h =
    let first : x + y ≡ 0 = h.0 in
    let rest = zero-parts xs ys h.1 in
    ((omega (arith, first), rest.0), (omega (arith, first), rest.1))

plus-zero : (m s : List ℕ) → AreZero s → length s ≤ length m → plus_of m s ≡ m
plus-zero [] [] h l = refl
plus-zero [] (y ∷ ys) h l = absurd (omega (arith, l))
plus-zero (x ∷ xs) [] h l = refl
plus-zero (x ∷ xs) (y ∷ ys) h l =
    let zero_y : y ≡ 0 = h.0 in
    let first : x + y ≡ x = omega (arith, zero_y) in
    let rest : plus_of xs ys ≡ xs = plus-zero xs ys h.1 (omega (arith, l)) in
    cc

length-plus-right : (xs ys : List ℕ) → length ys ≤ length (plus_of xs ys)
length-plus-right xs ys = subst (λ (l : List ℕ). length ys ≤ length l) (plus_comm ys xs) (length-plus-left ys xs)

abbrev HasFive : EdgeLabel → Type 0
HasFive e = length e.1 ≡ 5

raised-nothing : (z : List ℕ) (ms rs : List EdgeLabel) → AreZero z → length z ≤ 5 → AllByRecursion HasFive ms → IsRaised z ms rs → rs ≡ ms
raised-nothing z [] [] none few wide h = refl
raised-nothing z [] (r ∷ rs) none few wide h = absurd h
raised-nothing z (m ∷ ms) [] none few wide h = absurd h
raised-nothing z (m ∷ ms) (r ∷ rs) none few wide h =
    let parts = zero-parts h.0 h.1 (subst AreZero h.2 none) in
    let whole : length z ≡ length (plus_of h.0 h.1) = ap length h.2 in
    let short : length h.0 ≤ length m.1 = (let l = length-plus-left h.0 h.1 in let w : length m.1 ≡ 5 = wide.0 in omega (arith, l, w, whole, few)) in
    let less : length h.1 ≤ 5 = (let l = length-plus-right h.0 h.1 in omega (arith, l, whole, few)) in
    let entries : r.1 ≡ m.1 = h.4 ∙ plus-zero m.1 h.0 parts.0 short in
    let first : r ≡ m = ap (λ (k : ℕ). (k, r.1)) h.3 ∙ ap (λ (l : List ℕ). (m.0, l)) entries in
    let rest : rs ≡ ms = raised-nothing h.1 ms rs parts.1 less wide.1 h.5 in
    cc

raised-self : (n : List ℕ) (ms : List EdgeLabel) → IsRaised n ms ms
raised-self n [] = tt
raised-self n (m ∷ ms) = ([], n, refl, refl, sym (nil m.1), raised-self n ms)
  where
    nil : (l : List ℕ) → plus_of l [] ≡ l
    nil [] = refl
    nil (x ∷ xs) = refl

join-self : (ms : List EdgeLabel) → IsInLabelOrder ms → ms ≡ join ms []
join-self ms h = same_labels ms (join ms []) h (join-nil-sorted ms) (λ z. let c = count-join z ms [] in omega (arith, c))

five : (ms : List EdgeLabel) → IsChoice ms → AllByRecursion HasFive ms
five ms h = all_weaker (IsSmallLabel (2 ^ 30)) HasFive ms (λ e s. s.directions) h.small

-- raised by less is raised by more
raised_from-below : (m n : List ℕ) (ms es : List EdgeLabel) → IsBelow m n → IsRaisedFrom m ms es → IsRaisedFrom n ms es
raised_from-below m n ms es below h =
    let whole : plus_of (minus_of n m) m ≡ n = plus_comm (minus_of n m) m ∙ plus-minus m n below in
    (h.0, subst (λ (l : List ℕ). IsRaised l ms h.0) whole (raised-more (minus_of n m) m ms h.0 h.1), h.2)

-- the entries of what is raised
abbrev HasEntries : ℕ → EdgeLabel → Type 0
HasEntries most e = AllByRecursion (λ m. m ≤ most) e.1

most-parts : (b : ℕ) (xs ys : List ℕ) → AllByRecursion (λ m. m ≤ b) (plus_of xs ys) → AllByRecursion (λ m. m ≤ b) xs × AllByRecursion (λ m. m ≤ b) ys
most-parts b [] ys h = (tt, h)
most-parts b (x ∷ xs) [] h = (h, tt)
most-parts b (x ∷ xs) (y ∷ ys) h =
    let first : x + y ≤ b = h.0 in
    let rest = most-parts b xs ys h.1 in
    ((omega (arith, first), rest.0), (omega (arith, first), rest.1))

most-plus : (a b : ℕ) (xs ys : List ℕ) → AllByRecursion (λ m. m ≤ a) xs → AllByRecursion (λ m. m ≤ b) ys → AllByRecursion (λ m. m ≤ a + b) (plus_of xs ys)
most-plus a b [] ys h k = all_weaker (λ m. m ≤ b) (λ m. m ≤ a + b) ys (λ m le. omega (arith, le)) k
most-plus a b (x ∷ xs) [] h k = all_weaker (λ m. m ≤ a) (λ m. m ≤ a + b) (x ∷ xs) (λ m le. omega (arith, le)) h
most-plus a b (x ∷ xs) (y ∷ ys) h k =
    let one : x ≤ a = h.0 in
    let two : y ≤ b = k.0 in
    (omega (arith, one, two), most-plus a b xs ys h.1 k.1)

most-raised : (a b : ℕ) (n : List ℕ) (ms rs : List EdgeLabel) → AllByRecursion (λ m. m ≤ b) n →
    AllByRecursion (HasEntries a) ms → IsRaised n ms rs → AllByRecursion (HasEntries (a + b)) rs
most-raised a b n [] [] most small h = tt
most-raised a b n [] (r ∷ rs) most small h = absurd h
most-raised a b n (m ∷ ms) [] most small h = absurd h
most-raised a b n (m ∷ ms) (r ∷ rs) most small h =
    let parts = most-parts b h.0 h.1 (subst (AllByRecursion (λ x. x ≤ b)) h.2 most) in
    (subst (AllByRecursion (λ x. x ≤ a + b)) (sym h.4) (most-plus a b m.1 h.0 small.0 parts.0), most-raised a b h.1 ms rs parts.1 small.1 h.5)

most-join : (P : EdgeLabel → Type 0) (rs : List EdgeLabel) → AllByRecursion P rs → AllByRecursion P (join rs [])
most-join P [] h = tt
most-join P (r ∷ rs) h = put-all P r (join rs []) h.0 (most-join P rs h.1)

entries-most : (b : ℕ) (n : List ℕ) → sum n ≤ b → AllByRecursion (λ m. m ≤ b) n
entries-most b [] h = tt
entries-most b (x ∷ xs) h =
    let whole : sum (x ∷ xs) ≡ x + sum xs = sum_by-cons (λ y. y) x xs in
    (omega (arith, whole, h), entries-most b xs (omega (arith, whole, h)))

small_edges : (most : ℕ) (es : List EdgeType) → AllByRecursion (HasEntries most) (map label es) → All (λ e. All (λ m. m ≤ most) e.p.entries) es
small_edges most [] h = All-nil (λ (e : EdgeType). All (λ m. m ≤ most) e.p.entries)
small_edges most (e ∷ es) h = All-cons (λ (x : EdgeType). All (λ m. m ≤ most) x.p.entries) e es (from_recursion (λ m. m ≤ most) e.p.entries h.0) (small_edges most es h.1)

wide : (d : ℕ) (ms : List EdgeLabel) → d < 5 → IsChoice ms → AllByRecursion (HasDirection d) ms
wide d ms lt h = all_weaker (IsSmallLabel (2 ^ 30)) (HasDirection d) ms (λ e s. (let l = s.directions in omega (arith, lt, l))) h.small

-- choices, raised as far as n is walked
module _ (ns : List NodeType) (are : AreChoices ns) (n : List ℕ) (directions : length n ≡ 5) where
  start : IsSetOf (IsRaisedOf (zeros n) ns) ns
  start = record {
    ascending = are.ascending;
    all = λ es p. (
      p.0,
      p.1,
      (let choice = are.choices p.0 p.1 in
          let none = raised-nothing (zeros n) (labels p.0) p.2.0 (are_zero n) (zeros-most n directions) (five (labels p.0) choice) p.2.1 in
          join-self (labels p.0) choice.in_order ∙ ap (λ l. join l []) (sym none) ∙ sym p.2.2),
    );
    only = λ m h. (m, h, (labels m, raised-self (zeros n) (labels m), join-self (labels m) (are.choices m h).in_order));
  }
    where
      zeros-most : (l : List ℕ) → length l ≡ 5 → length (zeros l) ≤ 5
      zeros-most l h = let s = so_far-length 0 0 l in let e = ap length (so_far-start l) in omega (arith, h, s, e)

  pub raised_start : IsSetOf (IsRaisedOf (so_far 0 0 n) ns) ns
  raised_start = subst (λ l. IsSetOf (IsRaisedOf l ns) ns) (sym (so_far-start n)) start

  more : (d : ℕ) (m : List ℕ) (found : List NodeType) → d < 5 → IsSetOf (IsRaisedOf m ns) found →
      (es : List EdgeLabel) → IsWithBumped d found es → IsRaisedOf (plus_of (unit_at d) m) ns es
  more d m found lt old es h =
      elim h [
        | inl same ↦
            let p = old.only same.0 same.1 in
            (p.0, p.1, subst (IsRaisedFrom (plus_of (unit_at d) m) (labels p.0)) same.2 (raised_from-same d m (labels p.0) (labels same.0) p.2))
        | inr bumped ↦
            let p = old.only bumped.0 bumped.1 in
            (p.0, p.1, raised_from-more d m (labels p.0) (labels bumped.0) es (wide d (labels p.0) lt (are.choices p.0 p.1)) p.2 bumped.2)
      ]

  less : (d : ℕ) (m : List ℕ) (found : List NodeType) → d < 5 → length m ≡ 5 →
      IsSetOf (IsRaisedOf m ns) found → (es : List EdgeLabel) →
      IsRaisedOf (plus_of (unit_at d) m) ns es → IsWithBumped d found es
  less d m found lt long old es h =
      elim (raised_from-less d m (labels h.0) es (omega (arith, lt, long)) (wide d (labels h.0) lt (are.choices h.0 h.1)) h.2) [
        | inl before ↦ let there = old.all es (h.0, h.1, before) in inl (there.0, there.1, there.2)
        | inr new ↦
            let there = old.all new.0 (h.0, h.1, new.1) in
            inr (there.0, there.1, subst (λ l. IsBumpedFrom d l es) (sym there.2) new.2)
      ]

  -- one more unit
  pub raised_unit : (d i : ℕ) (found next : List NodeType) → d < 5 →
      IsSetOf (IsRaisedOf (so_far d i n) ns) found → IsSetOf (IsWithBumped d found) next →
      IsSetOf (IsRaisedOf (so_far d (i + 1) n) ns) next
  raised_unit d i found next lt old new =
      let m = so_far d i n in
      let long : length m ≡ 5 = so_far-length d i n ∙ directions in
      let unit : plus_of (unit_at d) m ≡ so_far d (i + 1) n = sym (so_far-unit d i n (omega (arith, lt, directions))) in
      subst (λ l. IsSetOf (IsRaisedOf l ns) next) unit
      (set_by (IsWithBumped d found) (IsRaisedOf (plus_of (unit_at d) m) ns) next (more d m found lt old) (less d m found lt long old) new)

  -- the next direction
  pub raised_next : (d i z : ℕ) (found : List NodeType) → d < 5 → i ≡ get_or n d z →
      IsSetOf (IsRaisedOf (so_far d i n) ns) found →
      IsSetOf (IsRaisedOf (so_far (d + 1) 0 n) ns) found
  raised_next d i z found lt is old =
      let next : so_far d i n ≡ so_far (d + 1) 0 n = ap (λ k. so_far d k n) is ∙ so_far-next d n z (omega (arith, lt, directions)) in
      subst (λ l. IsSetOf (IsRaisedOf l ns) found) next old

  pub raised_end : (d : ℕ) (found : List NodeType) → 5 ≤ d → IsSetOf (IsRaisedOf (so_far d 0 n) ns) found → IsSetOf (IsRaisedOf n ns) found
  raised_end d found le old = subst (λ l. IsSetOf (IsRaisedOf l ns) found) (so_far-end d n (omega (arith, le, directions))) old

  -- what is too large after a unit is so at the end
  pub raised_many : (d i z : ℕ) (found : List NodeType) → d < 5 → i < get_or n d z →
      IsSetOf (IsRaisedOf (so_far d i n) ns) found → HasMany (IsWithBumped d found) →
      HasMany (IsRaisedOf n ns)
  raised_many d i z found lt le old many =
      let m = so_far d i n in
      let within : d < length n = omega (arith, lt, directions) in
      let below : IsBelow (plus_of (unit_at d) m) n = subst (λ l. IsBelow l n) (so_far-unit d i n within) (so_far-below d (i + 1) n z within (omega (arith, le))) in
      many_more (IsWithBumped d found) (IsRaisedOf n ns)
      (λ es w. (let p = more d m found lt old es w in (p.0, p.1, raised_from-below (plus_of (unit_at d) m) n (labels p.0) es below p.2)))
      many

  pub raised_small : (d i z : ℕ) (found : List NodeType) → d < 5 → i < get_or n d z → sum n ≤ 4096 →
      IsSetOf (IsRaisedOf (so_far d i n) ns) found → AreSmallEntries (2 ^ 31) found
  raised_small d i z found lt le most old x h =
      let below : IsBelow (so_far d i n) n = so_far-below d i n z (omega (arith, lt, directions)) (omega (arith, le)) in
      let p = old.only x h in
      let q = raised_from-below (so_far d i n) n (labels p.0) (labels x) below p.2 in
      let own = all_weaker (IsSmallLabel (2 ^ 30)) (HasEntries (2 ^ 30)) (labels p.0) (λ e s. s.small) (are.choices p.0 p.1).small in
      let entries = most-raised (2 ^ 30) 4096 n (labels p.0) q.0 (entries-most 4096 n most) own q.1 in
      let all = subst (AllByRecursion (HasEntries (2 ^ 30 + 4096))) (sym q.2) (most-join (HasEntries (2 ^ 30 + 4096)) q.0 entries) in
      let top : 2 ^ 30 + 4096 ≤ 2 ^ 31 = omega arith in
      small_edges (2 ^ 31) x.edges
      (all_weaker (HasEntries (2 ^ 30 + 4096)) (HasEntries (2 ^ 31)) (labels x) (λ e s. all_weaker (λ m. m ≤ 2 ^ 30 + 4096) (λ m. m ≤ 2 ^ 31) e.1 (λ m k. omega (arith, top, k)) s) all)

-- all that is raised from the choices is all that can be added
module _ (eq : Equation) (rule : Rule) (equation : IsEquation eq) (is_rule : IsRule eq rule) (small : IsSmallRule (2 ^ 30) rule) (k : ℕ) (n : List ℕ) (fs : List EdgeLabel) (opts : List NodeType) (directions : length n ≡ 5)
    (found : map labels opts ≡ options eq.types rule k fs) where
  choice : (ms : List EdgeLabel) → IsIn ms (options eq.types rule k fs) → IsChoice ms
  choice ms h = option-choice eq rule equation is_rule small k fs ms h

  lengths : (ms : List EdgeLabel) → IsIn ms (options eq.types rule k fs) → AllByRecursion (HasLength n) ms
  lengths ms h = all_weaker HasFive (HasLength n) ms (λ e f. f ∙ sym directions) (five ms (choice ms h))

  -- more than 2,000 choices are more than 2,000 additions
  pub options_many : HasMany (λ es. IsIn es (map labels opts)) → HasMany (IsAdditionTo eq.types rule k n fs)
  options_many h =
      many_more (λ es. IsIn es (map labels opts)) (IsAdditionTo eq.types rule k n fs)
      (λ es m. (let o = subst (IsIn es) found m in
      (es, in_flat_map (raisings n) es es (options eq.types rule k fs) o (raising-there n es es (lengths es o) (raised-self n es)), join-self es (choice es o).in_order)))
      h

  module _ (set : List NodeType) (is : IsSetOf (λ es. IsIn es (map labels opts)) set) where
    option : (m : NodeType) → IsIn m set → IsIn (labels m) (options eq.types rule k fs)
    option m h = subst (IsIn (labels m)) found (is.only m h)

    pub are_choices : AreChoices set
    are_choices = record { ascending = is.ascending; choices = λ m h. choice (labels m) (option m h) }

    to : (es : List EdgeLabel) → IsRaisedOf n set es → IsAdditionTo eq.types rule k n fs es
    to es h =
        let o = option h.0 h.1 in
        (h.2.0, in_flat_map (raisings n) h.2.0 (labels h.0) (options eq.types rule k fs) o (raising-there n (labels h.0) h.2.0 (lengths (labels h.0) o) h.2.1), h.2.2)

    back : (es : List EdgeLabel) → IsAdditionTo eq.types rule k n fs es → IsRaisedOf n set es
    back es h =
        let ms = from_flat_map (raisings n) h.0 (options eq.types rule k fs) h.1 in
        let there = is.all ms.0 (subst (IsIn ms.0) (sym found) ms.1) in
        (there.0, there.1, (h.0, subst (λ l. IsRaised n l h.0) (sym there.2) (raising-is n ms.0 h.0 ms.2), h.2))

    pub additions_set : (v : List NodeType) → IsSetOf (IsRaisedOf n set) v → IsSetOf (IsAdditionTo eq.types rule k n fs) v
    additions_set v h = set_by (IsRaisedOf n set) (IsAdditionTo eq.types rule k n fs) v to back h

    pub additions_many : HasMany (IsRaisedOf n set) → HasMany (IsAdditionTo eq.types rule k n fs)
    additions_many h = many_more (IsRaisedOf n set) (IsAdditionTo eq.types rule k n fs) to h
