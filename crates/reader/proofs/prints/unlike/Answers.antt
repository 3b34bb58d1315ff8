-- The fold meets every print, and one that is p settles it.
use Rattle.std.proofs.Common.{◌≡◌, refl, ◌∙◌, Bool, true, false, not, eqb, ◌&&◌, List, [], ◌∷◌, ℕ, rules, tests}
use Rattle.std.specs.List.{fold, list_all}
use Rattle.std.proofs.lemmas.Iterator.{YieldsList-from_slice}
use Rattle.std.proofs.lemmas.Iterator.Consumers.{fold_from_yields_List}
use Rattle.reader.proofs.prints.unlike.Goals as goal

all_by_fold : (p : ℕ → Bool) (all : Bool) (xs : List ℕ) → fold (λ b x. b && p x) all xs ≡ (all && list_all p xs)
all_by_fold p true [] = refl
all_by_fold p false [] = refl
all_by_fold p true (x ∷ xs) = all_by_fold p (p x) xs
all_by_fold p false (x ∷ xs) = all_by_fold p false xs

pub returns : goal.returns
returns c =
    let xs = c.args.prints.now in
    fold_from_yields_List _ (λ b x. b && not (eqb x c.args.p)) true c.fold.result c.fold.ensures.ran (YieldsList-from_slice xs cc) (λ a x b q k. search (rules, tests))
    ∙ all_by_fold (λ q. not (eqb q c.args.p)) true xs
