use Rattle.std.proofs.Common.{◌++◌, map, take, drop, ◌+◌, ◌∙◌, get_or}
use Rattle.std.proofs.lemmas.List.{get_or_default}
use Rattle.gaussian_pairings.specs.Pairings.{pairs_of}
use Rattle.gaussian_pairings.specs.Listing.{pairings_of}
use Rattle.gaussian_pairings.proofs.ListingSteps.{no_noise, step_taken, partner_taken}
use Rattle.gaussian_pairings.proofs.pairing.+put_pairings.Goals as goal

pub put_pairings-loop-place-preserved : goal.put_pairings-loop-place-preserved
put_pairings-loop-place-preserved t c =
    step_taken (pairs_of c.loop-place.all.items) (pairs_of c.put_partner.new.all.items) (pairs_of c.args.all.now.items ++ map (λ ps. c.args.chosen.now ++ ps) (pairings_of c.args.left.now)) c.args.chosen.now c.in-Some.first.now c.in-Some.rest.now c.loop-place.place c.loop-place-test.true c.loop-place.invariant c.in_ok-put_partner.ensures

pub put_partner-returns : goal.put_partner-returns
put_partner-returns t c =
    rw (get_or_default c.args.rest.now c.args.place c.args.first no_noise c.requires)
    (partner_taken (pairs_of c.args.all.now.items) (pairs_of c.put_pairings.new.all.items) c.args.chosen.now c.as_slice.result.now c.args.first (get_or c.args.rest.now c.args.place no_noise) c.as_slice-2.result.now (take c.args.place c.args.rest.now ++ drop (c.args.place + 1) c.args.rest.now)
    c.if-partner-first.false (c.as_slice.ensures.value ∙ c.in_ok-pairs.ensures) (c.as_slice-2.ensures.value ∙ c.in_ok-others.ensures) c.in_ok-put_pairings.ensures)
