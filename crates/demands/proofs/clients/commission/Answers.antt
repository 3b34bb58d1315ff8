-- The number and the room are those of `c_caller_is_exact`.
use Rattle.exactness.specs.CallerExact.{c_caller_is_exact}
use Rattle.demands.proofs.clients.commission.Goals as goal

pub returns : goal.returns
returns c = let called = c.cartheron_plan in
    rw (called.ensures.0, called.ensures.1) (c_caller_is_exact c.args.text.now c.args.room.now)
