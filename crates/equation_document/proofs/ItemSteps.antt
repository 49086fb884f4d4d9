-- One step through the items of a list.
use Rattle.std.proofs.Common.{◌≡◌, ℕ, ◌+◌, ◌<◌, ◌≤◌, List, [], length, drop, get_or, sym, ap, ◌∙◌, refl, Result, Ok, Err, ◌∷◌, arith}
use Rattle.std.proofs.Math.ListN.{drop_of_length-le}
use Rattle.toml.specs.Data.{item, no_items}
use Rattle.toml.specs.View.{view, items_view}
use Rattle.toml.specs.declared.value.Value.{Value}
use Rattle.toml.proofs.Views.{items_view-drop}
use Rattle.equation_document.specs.Gives.{Fails}
use Rattle.equation_document.specs.Reading.{some_items}
use Rattle.equation_document.specs.declared.fault.Section.{Section}
use Rattle.equation_document.specs.declared.fault.Fault.{Fault}
use Rattle.equation_document.specs.declared.fault.ReadError.{ReadError}
use Rattle.equation_document.specs.declared.fault.ReadError.TheVariants as errors

-- the items that are left, where one stands at this place
pub items_at : (vs : List Value) (i : ℕ) (v : Value) → i < length vs → v ≡ get_or vs i v → items_view (drop i vs) ≡ item (view v) (items_view (drop (i + 1) vs))
items_at vs i v lt e = items_view-drop vs i v lt ∙ ap (λ x. item (view x) (items_view (drop (i + 1) vs))) (sym e)

-- no items are left past the end
pub items_over : (vs : List Value) (i : ℕ) → length vs ≤ i → items_view (drop i vs) ≡ no_items
items_over vs i le = ap items_view (drop_of_length-le vs le)

-- a refusal of a part is one of the whole
pub fails_too : {A B : Type 0} (e : ReadError) (part : Result A Fault) (whole : Result B Fault) →
    Fails e part → ((f : Fault) → part ≡ Err f → whole ≡ Err f) → Fails e whole
fails_too errors.Memory part whole h on = tt
fails_too (errors.Wrong f) part whole h on = on f h

pub some_items-full : (s : Section) (vs : List Value) → 1 ≤ length vs → some_items s (items_view vs) ≡ Ok (items_view vs)
some_items-full s [] h = absurd (omega (arith, h))
some_items-full s (v ∷ vs) h = refl
