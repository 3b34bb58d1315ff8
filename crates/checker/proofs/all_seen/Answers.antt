-- The fold asks the marks in front one after the other.
use Rattle.std.proofs.Common.{◌≡◌, ℕ, zero, suc, ◌≤◌, Bool, true, false, ◌&&◌, List, length, take, get_or, fold, refl, ◌∙◌, arith}
use Rattle.std.proofs.Math.Bool.{and_comm}
use Rattle.std.proofs.Math.Seq.{take-suc}
use Rattle.std.proofs.lemmas.Grind.{common_steps}
use Rattle.std.proofs.lemmas.List.Sums.{fold_push}
use Rattle.model.specs.Counting.{all_below}
use Rattle.checker.proofs.all_seen.Goals as goal

all_in_front : (marks : List Bool) (n : ℕ) → n ≤ length marks → fold (λ all mark. all && mark) true (take n marks) ≡ all_below n (λ c. get_or marks c false)
unfolding all_below
all_in_front marks zero l = refl
all_in_front marks (suc n) l =
    rw (take-suc marks n false (omega arith), fold_push (λ all mark. all && mark) true (take n marks) (get_or marks n false), all_in_front marks n (omega arith))
    (and_comm (all_below n (λ c. get_or marks c false)) (get_or marks n false))

pub returns : goal.returns
returns c =
    let folded : c.fold.result ≡ fold (λ all mark. all && mark) true (take c.args.n c.args.seen.now) = grind (arith, common_steps) in
    folded ∙ all_in_front c.args.seen.now c.args.n (omega arith)
