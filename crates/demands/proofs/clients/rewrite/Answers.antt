-- The number and the room are those of `rewrite_is_exact`.
use Rattle.exactness.specs.RewriteExact.{rewrite_is_exact}
use Rattle.demands.proofs.clients.rewrite.Goals as goal

pub returns : goal.returns
returns c = let called = c.cartheron_rewrite in
    rw (called.ensures.0, called.ensures.1) (rewrite_is_exact c.args.text.now c.args.room.now)
