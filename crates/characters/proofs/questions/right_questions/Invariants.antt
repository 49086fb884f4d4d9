use Rattle.std.proofs.Common.{◌≡◌, ◌++◌, map, drop}
use Rattle.recentring_coproduct.specs.Terms.{right_terms_in}
use Rattle.characters.specs.Asked.{AreKnown, asked_in, right_question}
use Rattle.characters.proofs.questions.right_questions.Given as goal

abbrev pub invariant-loop-term : goal.invariant-loop-term
invariant-loop-term l =
    record {
      known : AreKnown l.pool l.asked.items;
      questions : map (asked_in l.pool) l.asked.items ++ map right_question (right_terms_in l.pool (drop l.term-index l.terms)) ≡ map right_question (right_terms_in l.pool
          l.terms);
    }
