-- A law of a list that is stored over another from its first place on.
use Rattle.std.specs.Prelude.{◌≡◌, List, ◌∷◌, ◌++◌, ℕ, suc, ◌+◌, ◌<◌, length, get_or, set, take, drop}
use Rattle.std.proofs.Common.{sym, ap, ◌∙◌, le_of_lt, add-one, drop-cons, take-suc, length-take-le}
use Rattle.std.proofs.Math.Seq.{append_snoc, set-append_seam}

-- one element more
pub stored_next : {A : Type 0} (xs ys : List A) (i : ℕ) (d : A) → i < length xs → i < length ys → set (take i xs ++ drop i ys) i (get_or xs i d) ≡ take (i + 1) xs ++ drop (i + 1) ys
stored_next {A} xs ys i d h k =
    let behind : i ≡ length (take i xs) = sym (length-take-le i xs (le_of_lt h)) in
    let stored : set (take i xs ++ drop i ys) i (get_or xs i d) ≡ take i xs ++ get_or xs i d ∷ drop (suc i) ys =
    ap (λ (zs : List A). set (take i xs ++ zs) i (get_or xs i d)) (drop-cons ys i d k)
    ∙ ap (λ (n : ℕ). set (take i xs ++ get_or ys i d ∷ drop (suc i) ys) n (get_or xs i d)) behind
    ∙ set-append_seam (take i xs) (get_or ys i d) (drop (suc i) ys) (get_or xs i d) in
    rw (add-one, take-suc xs i d h, append_snoc) stored
