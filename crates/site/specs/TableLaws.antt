-- Laws of the table: which kind is due, what it means that no test holds, and the line reader's answer test by test.
use Rattle.std.specs.Prelude.{◌≡◌, refl, Bool, true, false, ◌||◌, List, [], ◌∷◌, ◌++◌, map, ◌⊎◌, ℕ, ◌+◌, ◌≤◌, ◌<◌, leb}
use Rattle.std.proofs.Common.{sym, ◌∙◌, inl, inr, arith}
use borrow.Author.Tests.{leb-true, leb-false, eq-eqb, ne_eqb}
use Rattle.hexline.specs.Loops.{decide}
use Rattle.hexline.specs.Digits.{between, byte_at}
use Rattle.hexline.specs.DigitLaws.{between_true}
use Rattle.hexline.specs.Lines.{Row, any_of, malformed}
use Rattle.model.specs.Counting.{Each}
use Rattle.model.specs.CountingLaws.{or_neither}
use Rattle.site.specs.declared.Cluster.{Cluster}
use Rattle.std.specs.Prelude.{Ok, Err}
use Rattle.site.specs.Refusals.{Verdict, accepted}
use Rattle.site.specs.Told.{refusal}
use Rattle.site.specs.Table.{refused_if, first_of, due, wrong_kind, wrong_length, fields_verdict, misplaced, repeated, line_verdicts, entry_of, fields_of, line_verdict, record_number, own_number}

-- line k by its place: the header, a cluster, a flow, or none due
pub data Place (k n f : ℕ) : Type 0 where
  header : k ≤ 1 → due k n f ≡ 1 → Place k n f
  cluster : 1 < k → k ≤ 1 + n → due k n f ≡ 2 → Place k n f
  flow : 1 + n < k → k ≤ 1 + n + f → due k n f ≡ 3 → Place k n f
  beyond : 1 + n + f < k → due k n f ≡ 0 → Place k n f

pub place : (k n f : ℕ) → Place k n f
unfolding due
place k n f = elim (decide (leb k 1)) [
  | inl p ↦ header (leb-true k 1 p) (rw p)
  | inr p ↦ let h = leb-false k 1 p in elim (decide (leb k (1 + n))) [
    | inl q ↦ cluster h (leb-true k (1 + n) q) (rw (p, q))
    | inr q ↦ let g = leb-false k (1 + n) q in elim (decide (leb k (1 + n + f))) [
      | inl r ↦ flow g (leb-true k (1 + n + f) r) (rw (p, q, r))
      | inr r ↦ beyond (leb-false k (1 + n + f) r) (rw (p, q, r))
    ]
  ]
]

module _ (k n f : ℕ) where
  pub due_cluster : due k n f ≡ 2 → 1 < k
  due_cluster e = elim (place k n f) [
    | header _ d ↦ absurd (let z : ◌≡◌ {A = ℕ} 1 2 = sym d ∙ e in omega arith)
    | cluster h _ _ ↦ h
    | flow _ _ d ↦ absurd (let z : ◌≡◌ {A = ℕ} 3 2 = sym d ∙ e in omega arith)
    | beyond _ d ↦ absurd (let z : ◌≡◌ {A = ℕ} 0 2 = sym d ∙ e in omega arith)
  ]

  pub due_flow : (due k n f ≡ 0 → ⊥) → (due k n f ≡ 1 → ⊥) → (due k n f ≡ 2 → ⊥) → due k n f ≡ 3
  due_flow e₀ e₁ e₂ = elim (place k n f) [ header _ d ↦ absurd (e₁ d) | cluster _ _ d ↦ absurd (e₂ d) | flow _ _ d ↦ d | beyond _ d ↦ absurd (e₀ d) ]

-- the line reader's answer, test by test
module _ (k n f : ℕ) (r : Row) where
  pub entry_malformed : malformed 136 r ≡ true → entry_of k n f r ≡ Err (refusal 1 k 255)
  unfolding entry_of
  entry_malformed e = rw e

  module _ (well : malformed 136 r ≡ false) where
    pub entry_none_due : due k n f ≡ 0 → entry_of k n f r ≡ Err (refusal 2 k 255)
    unfolding entry_of wrong_kind
    entry_none_due d = simp (well, d)

    pub entry_other_kind : (due k n f ≡ 0 → ⊥) → (byte_at r.chars 0 ≡ due k n f → ⊥) → entry_of k n f r ≡ Err (refusal 2 k 255)
    unfolding entry_of wrong_kind
    entry_other_kind d h = simp (well, ne_eqb _ _ d, ne_eqb _ _ h)

    pub entry_fields : (d : ℕ) → due k n f ≡ d → (d ≡ 0 → ⊥) → byte_at r.chars 0 ≡ d → entry_of k n f r ≡ fields_of d k n r.chars
    unfolding entry_of fields_of wrong_kind
    entry_fields d p z h = simp (well, p, ne_eqb _ _ z, eq-eqb _ _ h)

-- only a flow's fields depend on the number of clusters
pub header_alone : (k n : ℕ) (l : List ℕ) → fields_of 1 k n l ≡ fields_of 1 k 0 l
unfolding fields_of fields_verdict
header_alone k n l = refl

pub cluster_alone : (k n : ℕ) (l : List ℕ) → fields_of 2 k n l ≡ fields_of 2 k 0 l
unfolding fields_of fields_verdict
cluster_alone k n l = refl

-- what a line that is taken says of itself, verdict by verdict
pub record Passed (k n f : ℕ) (cs : List Cluster) (r : Row) : Type 0 where
  pub well : malformed 136 r ≡ false
  pub kind : wrong_kind (due k n f) r.chars ≡ false
  pub long : wrong_length (due k n f) r.chars ≡ false
  pub fields : fields_verdict (due k n f) k n r.chars ≡ accepted
  pub below : misplaced (due k n f) k r.chars ≡ false
  pub alone : repeated (due k n f) k cs r.chars ≡ false

-- no test of the elements of a list holds
pub none_holds : {A : Type 0} (test : A → Bool) (xs : List A) → any_of (map test xs) ≡ false → Each (λ x. test x ≡ false) xs
none_holds test [] e = tt
none_holds test (x ∷ xs) e = let h = or_neither (test x) (any_of (map test xs)) e in (h.0, none_holds test xs h.1)

-- no verdict of a list refuses
abbrev pub AllAccept : List Verdict → Type 0
AllAccept [] = Unit {0}
AllAccept (v ∷ vs) = (v ≡ accepted) × AllAccept vs

pub all_accept : (vs : List Verdict) → first_of vs ≡ accepted → AllAccept vs
all_accept [] e = tt
all_accept (Ok _ ∷ vs) e = (refl, all_accept vs e)
all_accept (Err (refusal m k p) ∷ vs) e = absurd (let z : ◌≡◌ {A = ℕ} 0 1 = cc in omega arith)

pub test_accepts : (m k : ℕ) (t : Bool) → refused_if m k t ≡ accepted → t ≡ false
test_accepts m k true e = absurd (let z : ◌≡◌ {A = ℕ} 0 1 = cc in omega arith)
test_accepts m k false e = refl

-- in whatever order the verdicts stand
pub line_passed : (k n f : ℕ) (cs : List Cluster) (r : Row) → line_verdict k n f cs r ≡ accepted → Passed k n f cs r
unfolding line_verdict
line_passed k n f cs r e =
    let d : ℕ = due k n f in let l : List ℕ = r.chars in
    let all = all_accept (line_verdicts k n f r ++ (refused_if 6 k (repeated d k cs l) ∷ [])) e in
    record {
      well = test_accepts 1 k (malformed 136 r) (cc);
      kind = test_accepts 2 k (wrong_kind d l) (cc);
      long = test_accepts 3 k (wrong_length d l) (cc);
      fields = cc;
      below = test_accepts 5 k (misplaced d k l) (cc);
      alone = test_accepts 6 k (repeated d k cs l) (cc);
    }

pub passed_line : (k n f : ℕ) (cs : List Cluster) (r : Row) → Passed k n f cs r → line_verdict k n f cs r ≡ accepted
unfolding line_verdict
passed_line k n f cs r h = rw (h.well, h.kind, h.long, h.fields, h.below, h.alone)

-- the site's own numbers leave out 7, 8 and 9
either_true : (a b : Bool) → a || b ≡ true → (a ≡ true) ⊎ (b ≡ true)
either_true true b e = inl refl
either_true false b e = inr e

pub record_range : (m : ℕ) → record_number m ≡ true → ((5 ≤ m) × (m ≤ 6)) ⊎ ((10 ≤ m) × (m ≤ 14))
record_range m e = elim (either_true (between 5 6 m) (between 10 14 m) e) [ inl h ↦ inl (between_true 5 6 m h) | inr h ↦ inr (between_true 10 14 m h) ]

pub own_range : (m : ℕ) → own_number m ≡ true → ((1 ≤ m) × (m ≤ 6)) ⊎ ((10 ≤ m) × (m ≤ 14))
own_range m e = elim (either_true (between 1 3 m) (record_number m) e) [
  | inl h ↦ let low = between_true 1 3 m h in inl (low.0, omega arith)
  | inr h ↦ elim (record_range m h) [ inl g ↦ inl (omega arith, g.1) | inr g ↦ inr g ]
]
