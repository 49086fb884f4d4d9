-- What is held after a value is kept.
use Rattle.std.proofs.Common.{◌≡◌, ◌⊎◌, ◌≤◌, ℕ, inl, inr, List, Result, Ok, Err, OnOk, OnErr, None, subst}
use Rattle.exact_sums.specs.Saturating.{overflow}
use Rattle.symbol_polys.specs.declared.poly.Poly.{Poly}
use Rattle.antipode_laws.specs.Weighed.{Weighed}
use Rattle.twisted_antipode.specs.declared.value.Value.{Value}
use Rattle.twisted_antipode.specs.declared.value.Value.TheVariants.{Sum}
use Rattle.twisted_antipode.specs.Values.{IsValueOf, IsKept}
use Rattle.twisted_antipode.specs.Held.{Held, weighed_of, with_held}
use Rattle.twisted_antipode.specs.Known.{first_held, IsHeldWith}

pub held_after : {T E : Type 0} (r : Result T E) (hs ks : List Held) (i : ℕ) (p : Poly) (u v : Value) → first_held hs i ≡ None → u ≡ Sum p → IsKept u →
    ((w : Weighed) → w.mass ≤ overflow → IsValueOf w v → IsValueOf w u) → OnOk r (ks ≡ with_held hs i (weighed_of p)) → OnErr r (ks ≡ hs) → (ks ≡ hs) ⊎ IsHeldWith hs ks i v
held_after (Ok x) hs ks i p u v none is kept value ok err =
    inr record {
      poly = p;
      lacking = none;
      is = ok;
      well = (subst IsKept is kept).poly;
      range = (subst IsKept is kept).range;
      value = λ w l h. subst (IsValueOf w) is (value w l h);
    }
held_after (Err x) hs ks i p u v none is kept value ok err = inl err
