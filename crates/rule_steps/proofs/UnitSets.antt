-- Sets of raised edge types, unit by unit.
use Rattle.std.proofs.Common.{◌≡◌, ℕ, ◌+◌, ◌≤◌, ◌<◌, List, [], ◌∷◌, length, refl, sym, ap, ◌∙◌, arith, inl, inr, ◌⊎◌, Ordering, Less, Equal, Greater, cond}
use Rattle.std.specs.List.{AllByRecursion}
use Rattle.std.specs.Ordering.{is_eq}
use Rattle.degree_numbers.specs.Multi.{plus_of}
use Rattle.ordered_lists.specs.Members.{IsIn}
use Rattle.ordered_lists.proofs.Unique.{own}
use Rattle.conforming_trees.specs.Conforming.{EdgeLabel, edge_label_order}
use Rattle.conforming_trees.proofs.Labels.{edge_label_total, edge_label_exact, count, same_labels}
use Rattle.rule_stages.specs.Stages.{join}
use Rattle.rule_stages.proofs.Joins.{count-join, join-nil-sorted}
use Rattle.rule_stages.proofs.Parts.{raised-more}
use Rattle.rule_steps.specs.Sets.{IsRaisedFrom, IsBumpedFrom}
use Rattle.rule_steps.specs.Units.{bump_label, IsBumped}
use Rattle.rule_steps.proofs.Units.{unit_at, HasDirection, one_more, one_less}

-- what is counted where one edge type is raised
Moved : ℕ → EdgeLabel → List EdgeLabel → List EdgeLabel → Type 0
Moved d q qs rs = (z : EdgeLabel) → count z rs + count z (q ∷ []) ≡ count z qs + count z (bump_label d q ∷ [])

bumped-member : (d : ℕ) (qs rs : List EdgeLabel) → IsBumped d qs rs → (q : EdgeLabel) × IsIn q qs × Moved d q qs rs
unfolding Moved
bumped-member d [] rs h = absurd h
bumped-member d (q ∷ qs) [] h = absurd h
bumped-member d (q ∷ qs) (r ∷ rs) h =
    elim h [
      | inl here ↦ (q, inl refl, λ z. (let one = ap (λ (x : EdgeLabel). count z (x ∷ [])) here.0 in let rest = ap (count z) here.1 in omega (arith, one, rest)))
      | inr later ↦
          let rest = bumped-member d qs rs later.1 in
          (rest.0, inr rest.1, λ z. (let same = ap (λ (x : EdgeLabel). count z (x ∷ [])) later.0 in let m = rest.2 z in omega (arith, same, m)))
    ]

member-bumped : (d : ℕ) (q : EdgeLabel) (qs : List EdgeLabel) → IsIn q qs → (rs : List EdgeLabel) × IsBumped d qs rs × Moved d q qs rs
unfolding Moved
member-bumped d q [] h = absurd h
member-bumped d q (x ∷ xs) h =
    elim h [
      | inl e ↦ (bump_label d x ∷ xs, inl (refl, refl), λ z. (let one = ap (λ (y : EdgeLabel). count z (y ∷ [])) e in let two = ap (λ (y : EdgeLabel). count z (bump_label d y ∷ [])) e in omega (arith, one, two)))
      | inr later ↦
          let rest = member-bumped d q xs later in
          (x ∷ rest.0, inr (refl, rest.1), λ z. (let m = rest.2 z in omega (arith, m)))
    ]

-- members by how often they stand there
member-counts : (q : EdgeLabel) (qs : List EdgeLabel) → IsIn q qs → 1 ≤ count q qs
member-counts q [] h = absurd h
member-counts q (x ∷ xs) h =
    elim h [
      | inl e ↦ (let one = own edge_label_order edge_label_total q in let same = ap (λ (y : EdgeLabel). count q (y ∷ [])) e in omega (arith, one, same))
      | inr later ↦ (let rest = member-counts q xs later in omega (arith, rest))
    ]

abbrev one_if : Ordering → ℕ
one_if o = cond (is_eq o) 1 0

counts-member : (q : EdgeLabel) (qs : List EdgeLabel) → 1 ≤ count q qs → IsIn q qs
counts-member q [] h = absurd (omega (arith, h))
counts-member q (x ∷ xs) h = at (edge_label_order q x) refl (counts-member q xs)
  where
    at : (o : Ordering) → edge_label_order q x ≡ o → (1 ≤ count q xs → IsIn q xs) → IsIn q (x ∷ xs)
    at Less e later = inr (later (let none = ap one_if e in omega (arith, h, none)))
    at Equal e later = inl (sym (edge_label_exact q x e))
    at Greater e later = inr (later (let none = ap one_if e in omega (arith, h, none)))

-- a list in order, raised in one place, and the list before it was put in order
in_order : (d : ℕ) (qs ls rs : List EdgeLabel) → ((z : EdgeLabel) → count z ls ≡ count z qs) →
    IsBumped d qs rs → (ss : List EdgeLabel) × IsBumped d ls ss × (join ss [] ≡ join rs [])
unfolding Moved
in_order d qs ls rs same h =
    let q = bumped-member d qs rs h in
    let there = counts-member q.0 ls (let m = member-counts q.0 qs q.1 in let s = same q.0 in omega (arith, m, s)) in
    let ss = member-bumped d q.0 ls there in (
      ss.0,
      ss.1,
      same_labels (join ss.0 []) (join rs []) (join-nil-sorted ss.0) (join-nil-sorted rs)
          (λ z. (let a = ss.2 z in let b = q.2 z in let s = same z in let c = count-join z ss.0 [] in let e = count-join z rs [] in omega (arith, a, b, s, c, e))),
    )

-- one more unit: what there was, and each of these raised by it
pub raised_from-more : (d : ℕ) (n : List ℕ) (ms es fs : List EdgeLabel) →
    AllByRecursion (HasDirection d) ms → IsRaisedFrom n ms es → IsBumpedFrom d es fs →
    IsRaisedFrom (plus_of (unit_at d) n) ms fs
raised_from-more d n ms es fs wide h b =
    let same : (z : EdgeLabel) → count z h.0 ≡ count z es = λ z. (let a = ap (count z) h.2 in let c = count-join z h.0 [] in omega (arith, a, c)) in
    let back = in_order d es h.0 b.0 same b.1 in
    (back.0, one_more d n ms h.0 back.0 wide h.1 back.1, b.2 ∙ sym back.2)

pub raised_from-same : (d : ℕ) (n : List ℕ) (ms es : List EdgeLabel) → IsRaisedFrom n ms es → IsRaisedFrom (plus_of (unit_at d) n) ms es
raised_from-same d n ms es h = (h.0, raised-more (unit_at d) n ms h.0 h.1, h.2)

pub raised_from-less : (d : ℕ) (n : List ℕ) (ms fs : List EdgeLabel) → d < length n →
    AllByRecursion (HasDirection d) ms → IsRaisedFrom (plus_of (unit_at d) n) ms fs →
    IsRaisedFrom n ms fs ⊎ ((es : List EdgeLabel) × IsRaisedFrom n ms es × IsBumpedFrom d es fs)
raised_from-less d n ms fs long wide h =
    elim (one_less d n ms h.0 long wide h.1) [
      | inl old ↦ inl (h.0, old, h.2)
      | inr new ↦
          let es = join new.0 [] in
          let same : (z : EdgeLabel) → count z es ≡ count z new.0 = λ z. (let c = count-join z new.0 [] in omega (arith, c)) in
          let forth = in_order d new.0 es h.0 same new.2 in
          inr (es, (new.0, new.1, refl), (forth.0, forth.1, h.2 ∙ sym forth.2))
    ]
