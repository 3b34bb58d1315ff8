-- Two results that one contract allows are equal (docs/PROMISES.md, "Theorems").
-- A contract of this product says that the result is d, or that the result is d and the room is e, with d and e made of the arguments alone. So the law is stated
-- once for each of the two shapes. `EqualResults` of the crate exactness has the instance of each public function.
use Rattle.std.specs.Prelude.{◌≡◌}
use Rattle.std.proofs.Common.{sym, ◌∙◌}

-- the result is d
pub equal_results : {A : Type 0} (d : A) (r₁ r₂ : A) → r₁ ≡ d → r₂ ≡ d → r₁ ≡ r₂
equal_results d r₁ r₂ p q = p ∙ sym q

-- the result is d, and the room after it is e
pub equal_results_in_room : {A B : Type 0} (d : A) (e : B) (r₁ r₂ : A) (room₁ room₂ : B)
    → (r₁ ≡ d) × (room₁ ≡ e) → (r₂ ≡ d) × (room₂ ≡ e) → (r₁ ≡ r₂) × (room₁ ≡ room₂)
equal_results_in_room d e r₁ r₂ room₁ room₂ p q = (equal_results d r₁ r₂ p.0 q.0, equal_results e room₁ room₂ p.1 q.1)
