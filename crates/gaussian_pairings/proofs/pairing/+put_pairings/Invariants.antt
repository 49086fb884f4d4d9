use Rattle.std.proofs.Common.{◌≡◌, ◌+◌, ◌*◌, ◌++◌, map, length, take, drop}
use Rattle.gaussian_pairings.specs.Pairings.{pairs_of}
use Rattle.gaussian_pairings.specs.Listing.{partners, pairings_by, pairings_of}
use Rattle.gaussian_pairings.proofs.pairing.+put_pairings.Given as goal

abbrev pub decreases-put_pairings : goal.decreases-put_pairings
decreases-put_pairings l = 2 * length l.left.now

abbrev pub decreases-put_partner : goal.decreases-put_partner
decreases-put_partner l = 2 * length l.rest.now + 1

abbrev pub invariant-put_pairings-loop-place : goal.invariant-put_pairings-loop-place
invariant-put_pairings-loop-place l =
    pairs_of l.all.items ++ map (λ ps. l.chosen ++ ps) (partners (pairings_by (length l.rest)) l.first (take l.place l.rest) (drop l.place l.rest)) ≡ pairs_of l.fn.all.items ++ map (λ ps. l.chosen ++ ps) (pairings_of l.left)
