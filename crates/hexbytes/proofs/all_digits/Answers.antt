use Rattle.std.proofs.Common.{◌≡◌, true, ◌&&◌, arith, ◌∙◌, fold}
use Rattle.std.proofs.lemmas.Grind.{common_steps}
use Rattle.hexline.specs.Digits.{is_digit, all_digits}
use Rattle.hexline.specs.Loops.{every_fold}
use Rattle.hexbytes.proofs.all_digits.Goals as goal

pub returns : goal.returns
unfolding all_digits
returns c =
    let folded : c.fold.result ≡ fold (λ all b. all && is_digit b) true c.args.chars.now = grind (arith, common_steps) in
    folded ∙ every_fold is_digit 0 c.args.chars.now true
