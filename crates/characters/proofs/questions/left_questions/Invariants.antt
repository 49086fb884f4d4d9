use Rattle.std.proofs.Common.{◌≡◌, ◌++◌, map, drop}
use Rattle.extraction_coproduct.specs.Finished.{grove_of}
use Rattle.extraction_coproduct.specs.Terms.{terms_in}
use Rattle.characters.specs.Asked.{AreKnown, asked_in, left_question}
use Rattle.characters.proofs.questions.left_questions.Given as goal

abbrev pub invariant-loop-term : goal.invariant-loop-term
invariant-loop-term l =
    record {
      known : AreKnown l.tables.pool l.asked.items;
      questions : map (asked_in l.tables.pool) l.asked.items ++ map left_question (terms_in (grove_of l.tables) (drop l.term-index l.terms)) ≡ map left_question (terms_in
          (grove_of l.tables) l.terms);
    }
