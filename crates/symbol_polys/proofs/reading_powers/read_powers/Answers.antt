use Rattle.std.proofs.Common.{[], List, ℕ, map, rules, sym, ◌∙◌, append-nil, Bor}
use Rattle.symbol_polys.specs.Pieces.{unmarked}
use Rattle.symbol_polys.specs.TermReading.{IsPowerOf, expanded}
use Rattle.symbol_polys.specs.Text.{power_text}
use Rattle.symbol_polys.specs.View.{symbol_of}
use Rattle.symbol_polys.proofs.Following.{split_at, none_left}
use Rattle.symbol_polys.proofs.PowerReading.{power_met}
use Rattle.symbol_polys.proofs.reading_powers.read_powers.Goals as goal

abbrev no_piece : Bor (List ℕ)
no_piece = record { ref_ptr = (0, 0); now = [] }

pub returns-in_err-read_power-clause-back : goal.returns-in_err-read_power-clause-back
returns-in_err-read_power-clause-back c = λ xs all texts.
    let ty = c.args.names.now.types.now in
    let ps = c.args.names.now.parameters.now in
    let left = c.loop-power.invariant.back xs record { all = all; texts = texts } in
    let first = split_at (IsPowerOf ty ps) (λ p. unmarked 42 p.now) (power_text ty ps) c.args.powers.now c.loop-power.power-index no_piece left.0 c.loop-power-test.true left.1 in
    let m = c.in_err-read_power.ensures.back first.head first.holds (sym first.written ∙ sym c.unmarked.ensures) in
    search rules

pub loop-power-preserved : goal.loop-power-preserved
loop-power-preserved c =
    let ty = c.args.names.now.types.now in
    let ps = c.args.names.now.parameters.now in
    record {
      symbols = c.in_ok-read_power.ensures.symbols c.loop-power.invariant.symbols;
      back = λ xs writes.
          let left = c.loop-power.invariant.back xs writes in
          let first = split_at (IsPowerOf ty ps) (λ p. unmarked 42 p.now) (power_text ty ps) c.args.powers.now c.loop-power.power-index no_piece left.0 c.loop-power-test.true left.1 in
          let met = c.in_ok-read_power.ensures.back first.head first.holds (sym first.written ∙ sym c.unmarked.ensures) in
          (first.tail, first.others, power_met (map symbol_of c.loop-power.symbols) (expanded first.tail) (expanded xs) first.head.exponent first.head.symbol (map symbol_of c.read_power.new.symbols) met (rw first.is at left.2));
    }

pub returns-clause-back : goal.returns-clause-back
returns-clause-back c = λ xs all texts.
    let ty = c.args.names.now.types.now in
    let ps = c.args.names.now.parameters.now in
    let left = c.loop-power.invariant.back xs record { all = all; texts = texts } in
    let none = none_left (IsPowerOf ty ps) (λ p. unmarked 42 p.now) (power_text ty ps) c.args.powers.now c.loop-power.power-index left.0 c.loop-power-test.false left.1 in
    sym (append-nil (map symbol_of c.loop-power.symbols)) ∙ rw none at left.2
