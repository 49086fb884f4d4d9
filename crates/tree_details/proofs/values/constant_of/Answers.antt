use Rattle.std.proofs.Common.{List, sym, subst}
use Rattle.degree_numbers.specs.declared.types.Types.{Types}
use Rattle.plain_trees.specs.Plain.{Plain}
use Rattle.tree_pool.specs.Content.{tree_at}
use Rattle.antipode_laws.specs.Weighed.{Weighed}
use Rattle.antipode_laws.specs.Antipode.{nothing}
use Rattle.antipode_laws.specs.Constants.{IsConstants}
use Rattle.twisted_antipode.specs.Held.{Held, held_over}
use Rattle.twisted_antipode.specs.Kinds.{AreHeldTyped}
use Rattle.tree_details.proofs.Found.{constant_found}
use Rattle.tree_details.proofs.Refused.{constant_refused}
use Rattle.tree_details.proofs.values.constant_of.Goals as goal

pub returns-in-Ok-constant-clause-value : goal.returns-in-Ok-constant-clause-value
returns-in-Ok-constant-clause-value c =
    let pool = c.args.tables.now.pool in
    let none = c.in-Ok.ensures.nothing in
    let e = c.in-Ok-constant.ensures in
    constant_found c.args.eq.now pool (tree_at pool c.args.id.0) c.in-Ok-constant.value c.requires.types e.poly e.range (e.typed (subst (AreHeldTyped pool.types) (sym none) tt)) e.expectations
    (λ k is. e.value k (subst (λ (hs : List Held). IsConstants pool.types (held_over pool hs) k) (sym none) is))

pub returns-clause-refusal : goal.returns-clause-refusal
returns-clause-refusal c =
    let pool = c.args.tables.now.pool in
    let none = c.in-Ok.ensures.nothing in
    let same : (k : Plain → Weighed) → IsConstants c.args.eq.now.types nothing k → IsConstants pool.types (held_over pool c.in-Ok.constants) k =
    λ k is. subst (λ (hs : List Held). IsConstants pool.types (held_over pool hs) k) (sym none) (subst (λ (ty : Types). IsConstants ty nothing k) (sym c.requires.types) is) in
    rw c.of_antipode.ensures
    (constant_refused c.args.eq.now pool.types (tree_at pool c.args.id.0) c.args.id c.in-Err.e c.requires.types (held_over pool c.in-Ok.constants) same c.requires.range c.in-Err.ensures.refusal)
