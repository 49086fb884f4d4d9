-- What is made of a tree is made of its canonical form.
use Rattle.std.proofs.Common.{◌≡◌, ℕ, true, false, Bool, List, refl, sym, ap, ◌∙◌, subst, arith}
use Rattle.std.specs.Ordering.{is_gt}
use Rattle.degree_numbers.specs.declared.types.Types.{Types}
use Rattle.plain_trees.specs.Plain.{Plain, bare, graft, root_of}
use Rattle.plain_trees.specs.Canon.{Planted, planted_order, with_edge, canon}
use Rattle.normal_rule.specs.declared.rule.Rule.{Rule}
use Rattle.conforming_trees.specs.Conforming.{EdgeLabel, IsInRule}
use Rattle.conforming_trees.proofs.Labels.{IsInLabelOrder, same_labels}
use Rattle.conforming_trees.proofs.Canonical.{node_type-canon}
use Rattle.rule_stages.specs.Stages.{join, IsRaised, IsAddition, AreAdditionsAbove, AreAdditions}
use Rattle.rule_stages.proofs.Joins.{count-join, join-sorted}
use Rattle.rule_stages.proofs.Parts.{additions-sorted}

abbrev over : Planted → Plain → Plain
over e t = graft e.kind e.p e.child t

root-with-at : (e f : Planted) (t : Plain) (a : Bool) → is_gt (planted_order e f) ≡ a →
    root_of (with_edge e t) ≡ root_of t → root_of (with_edge e (over f t)) ≡ root_of t
root-with-at e f t true h ih = rw h ih
root-with-at e f t false h ih = rw h refl

root-with : (e : Planted) (t : Plain) → root_of (with_edge e t) ≡ root_of t
root-with e (bare n) = refl
root-with e (graft k p c t) = root-with-at e record { kind = k; p = p; child = c } t (is_gt (planted_order e record { kind = k; p = p; child = c })) refl (root-with e t)

root-canon : (t : Plain) → root_of (canon t) ≡ root_of t
root-canon (bare n) = refl
root-canon (graft k p c t) = root-with record { kind = k; p = p; child = canon c } (canon t) ∙ root-canon t

addition-canon : (ty : Types) (rule : Rule) (k : ℕ) (t : Plain) (rs : List EdgeLabel) → IsAddition ty rule k t rs → IsAddition ty rule k (canon t) rs
addition-canon ty rule k t rs h =
    (h.0, subst (λ (es : List EdgeLabel). IsInRule ty rule k (join h.0 es)) (sym (node_type-canon t)) h.1, subst (λ (n : List ℕ). IsRaised n h.0 rs) (sym (root-canon t)) h.2)

exchanged : (at above u v others : List EdgeLabel) → IsInLabelOrder others →
    join u (join v (join at (join above others))) ≡ join at (join above (join u (join v others)))
exchanged at above u v others h =
    same_labels (join u (join v (join at (join above others)))) (join at (join above (join u (join v others))))
    (join-sorted u _ (join-sorted v _ (join-sorted at _ (join-sorted above others h)))) (join-sorted at _ (join-sorted above _ (join-sorted u _ (join-sorted v others h))))
    (λ z. omega (
      arith,
      count-join z u (join v (join at (join above others))),
      count-join z v (join at (join above others)),
      count-join z at (join above others),
      count-join z above others,
      count-join z at (join above (join u (join v others))),
      count-join z above (join u (join v others)),
      count-join z u (join v others),
      count-join z v others,
    ))

additions-with-at : (ty : Types) (rule : Rule) (e f : Planted) (t : Plain) (at above rs : List EdgeLabel) (a : Bool) →
    is_gt (planted_order e f) ≡ a → IsAddition ty rule e.kind e.child at →
    AreAdditionsAbove ty rule e.child above →
    AreAdditionsAbove ty rule (over f t) rs → ((others : List EdgeLabel) → AreAdditionsAbove ty rule t others → AreAdditionsAbove ty rule (with_edge e t) (join at (join above others))) →
    AreAdditionsAbove ty rule (with_edge e (over f t)) (join at (join above rs))
additions-with-at ty rule e f t at above rs true gt add up h ih =
    let rest = ih h.2 h.5 in
    let same : join at (join above rs) ≡ join h.0 (join h.1 (join at (join above h.2))) =
    ap (λ (es : List EdgeLabel). join at (join above es)) h.6 ∙ sym (exchanged at above h.0 h.1 h.2 (additions-sorted ty rule t h.2 h.5)) in
    rw gt (h.0, h.1, join at (join above h.2), h.3, h.4, rest, same)
additions-with-at ty rule e f t at above rs false gt add up h ih = rw gt (at, above, rs, add, up, h, refl)

additions-with : (ty : Types) (rule : Rule) (e : Planted) (t : Plain) (at above rs : List EdgeLabel) →
    IsAddition ty rule e.kind e.child at → AreAdditionsAbove ty rule e.child above →
    AreAdditionsAbove ty rule t rs →
    AreAdditionsAbove ty rule (with_edge e t) (join at (join above rs))
additions-with ty rule e (bare n) at above rs add up h = (at, above, rs, add, up, h, refl)
additions-with ty rule e (graft k p c t) at above rs add up h =
    let f : Planted = record { kind = k; p = p; child = c } in
    additions-with-at ty rule e f t at above rs (is_gt (planted_order e f)) refl add up h (λ others m. additions-with ty rule e t at above others add up m)

additions_above-canon : (ty : Types) (rule : Rule) (t : Plain) (rs : List EdgeLabel) → AreAdditionsAbove ty rule t rs → AreAdditionsAbove ty rule (canon t) rs
additions_above-canon ty rule (bare n) rs h = h
additions_above-canon ty rule (graft k p c t) rs h =
    subst (AreAdditionsAbove ty rule (canon (graft k p c t))) (sym h.6)
    (additions-with ty rule record { kind = k; p = p; child = canon c } (canon t) h.0 h.1 h.2 (addition-canon ty rule k c h.0 h.3) (additions_above-canon ty rule c h.1 h.4) (additions_above-canon ty rule t h.2 h.5))

pub additions-canon : (ty : Types) (rule : Rule) (k : ℕ) (t : Plain) (rs : List EdgeLabel) → AreAdditions ty rule k t rs → AreAdditions ty rule k (canon t) rs
additions-canon ty rule k t rs h = (h.0, h.1, addition-canon ty rule k t h.0 h.2, additions_above-canon ty rule t h.1 h.3, h.4)
