-- `==` at edge types decides equality.
use Rattle.std.proofs.Common.{◌≡◌, ℕ, List, ap}
use Rattle.std.specs.Bool.{Decides}
use Rattle.std.proofs.lemmas.Bool.Decides.{Decides-eqb, Decides-and, Decides-like}
use Rattle.std.proofs.lemmas.Slice.Eq.{bytes_eq-Decides}
use Rattle.normal_rule.specs.contracts.rule.EdgeTypePartialEq.TheImpl.{eq-value}
use Rattle.normal_rule.specs.declared.EdgeType.{EdgeType}

abbrev edge_made : ℕ → List ℕ → EdgeType
edge_made k p = record { kind = record { 0 = k }; p = record { entries = p } }

pub EdgeType-Decides : (a b : EdgeType) → Decides (eq-value.it a b) (a ≡ b)
EdgeType-Decides a b =
    Decides-like _ (λ (h : (a.kind.0 ≡ b.kind.0) × (a.p.entries ≡ b.p.entries)). let e : edge_made a.kind.0 a.p.entries ≡ edge_made b.kind.0 b.p.entries = cc (h.0, h.1) in e)
    (λ (h : a ≡ b). (ap (λ (e : EdgeType). e.kind.0) h, ap (λ (e : EdgeType). e.p.entries) h)) (Decides-and _ _ (Decides-eqb a.kind.0 b.kind.0) (bytes_eq-Decides a.p.entries b.p.entries))
