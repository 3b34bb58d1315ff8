-- The place is that of `place_is_exact`.
use Rattle.exactness.specs.PlaceExact.{place_is_exact}
use Rattle.demands.proofs.clients.place.Goals as goal

pub returns : goal.returns
returns c = rw c.cartheron_place.ensures (place_is_exact c.args.text.now)
