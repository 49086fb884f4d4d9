use Rattle.std.proofs.Common.{◌≡◌, ◌++◌, drop}
use Rattle.characters.specs.Asked.{AreKnownTerms, answers_in, terms_over}
use Rattle.characters.proofs.products.answers.Given as goal

abbrev pub invariant-loop-one : goal.invariant-loop-one
invariant-loop-one l =
    record {
      known : AreKnownTerms l.pool l.terms.items;
      terms : terms_over l.pool l.terms.items ++ answers_in l.pool l.g.rows l.h.rows (drop l.one-index l.asked) ≡ answers_in l.pool l.g.rows l.h.rows l.asked;
    }
