use Rattle.std.proofs.Common.{◌≡◌, true, not, ◌&&◌, eqb, arith, ◌∙◌, fold}
use Rattle.std.proofs.lemmas.Grind.{common_steps}
use Rattle.hexline.specs.Loops.{every_fold}
use Rattle.hexline.proofs.goes_on.Goals as goal

pub returns : goal.returns
returns c =
    let folded : c.fold.result ≡ fold (λ all b. all && not (eqb b 10)) true c.args.part.now = grind (arith, common_steps) in
    folded ∙ every_fold (λ b. not (eqb b 10)) 0 c.args.part.now true
