-- The ranges of docs/FORMATS.md, "Site text", at both sides of every limit, with the number and the place of a refusal ("The place"; request 2026-01): one table under
-- one statement, by computing. The rows with two bad fields show that the first decides.
use Rattle.std.specs.Prelude.{◌≡◌, refl, [], ◌∷◌, ℕ}
use Rattle.std.specs.Prelude.{Err}
use Rattle.site.specs.Refusals.{Verdict, accepted}
use Rattle.site.specs.Told.{refusal}
use Rattle.site.specs.Fields.{first_bad, header_verdict, untagged_verdict, tag_verdict, flow_verdict}

-- a header in line 1
abbrev header : ℕ → ℕ → ℕ → Verdict
header version clusters flows = header_verdict 1 version clusters flows

-- a cluster in line 2: what stands before its tag, and a tag of three bytes
abbrev untagged : ℕ → ℕ → Verdict
untagged order len = untagged_verdict 2 order len

abbrev tag : ℕ → ℕ → ℕ → Verdict
tag a b c = tag_verdict 2 (record { bytes = a ∷ b ∷ c ∷ []; len = 3 })

-- a flow in line 4, between two clusters
abbrev flow : ℕ → ℕ → ℕ → ℕ → Verdict
flow source sink period deadline = flow_verdict 4 2 (record { source = source; sink = sink; period = period; deadline = deadline })

pub record WorkedFields : Type 0 where
  pub version : (header 0 1 0 ≡ Err (refusal 10 1 1)) × (header 1 1 0 ≡ accepted) × (header 2 1 0 ≡ Err (refusal 10 1 1))
  pub clusters : (header 1 0 0 ≡ Err (refusal 10 1 2)) × (header 1 1 0 ≡ accepted) × (header 1 64 0 ≡ accepted) × (header 1 65 0 ≡ Err (refusal 10 1 2))
  pub flows : (header 1 1 128 ≡ accepted) × (header 1 1 129 ≡ Err (refusal 10 1 3))
  pub two_of_a_header : (header 2 0 0 ≡ Err (refusal 10 1 1)) × (header 1 65 129 ≡ Err (refusal 10 1 2))
  pub order : (untagged 14 1 ≡ accepted) × (untagged 15 1 ≡ Err (refusal 11 2 2))
  pub tag-length : (untagged 0 0 ≡ Err (refusal 12 2 3)) × (untagged 0 1 ≡ accepted) × (untagged 0 64 ≡ accepted) × (untagged 0 65 ≡ Err (refusal 12 2 3))
  pub order_and_length : untagged 15 0 ≡ Err (refusal 11 2 2)
  pub first_tag_byte : (tag 32 65 65 ≡ Err (refusal 12 2 4)) × (tag 33 65 65 ≡ accepted) × (tag 126 65 65 ≡ accepted) × (tag 127 65 65 ≡ Err (refusal 12 2 4))
  pub last_tag_byte : (tag 65 65 32 ≡ Err (refusal 12 2 6)) × (tag 65 65 33 ≡ accepted) × (tag 65 65 126 ≡ accepted) × (tag 65 65 127 ≡ Err (refusal 12 2 6))
  pub two_tag_bytes : tag 65 127 32 ≡ Err (refusal 12 2 5)
  pub source : (flow 1 0 1 1 ≡ accepted) × (flow 2 0 1 1 ≡ Err (refusal 13 4 1))
  pub sink : (flow 0 1 1 1 ≡ accepted) × (flow 0 2 1 1 ≡ Err (refusal 13 4 2))
  pub period : (flow 0 1 0 1 ≡ Err (refusal 14 4 3)) × (flow 0 1 1 1 ≡ accepted) × (flow 0 1 1000000000 1 ≡ accepted) × (flow 0 1 1000000001 1 ≡ Err (refusal 14 4 3))
  pub deadline : (flow 0 1 1 0 ≡ Err (refusal 14 4 7)) × (flow 0 1 1 1 ≡ accepted) × (flow 0 1 1 1000000000 ≡ accepted) × (flow 0 1 1 1000000001 ≡ Err (refusal 14 4 7))
  pub two_of_a_flow : (flow 2 2 1 1 ≡ Err (refusal 13 4 1)) × (flow 0 2 0 1 ≡ Err (refusal 13 4 2)) × (flow 0 1 0 0 ≡ Err (refusal 14 4 3))

pub worked_fields : WorkedFields
unfolding first_bad header_verdict untagged_verdict tag_verdict flow_verdict
worked_fields = record {
  version = (refl, refl, refl);
  clusters = (refl, refl, refl, refl);
  flows = (refl, refl);
  two_of_a_header = (refl, refl);
  order = (refl, refl);
  tag-length = (refl, refl, refl, refl);
  order_and_length = refl;
  first_tag_byte = (refl, refl, refl, refl);
  last_tag_byte = (refl, refl, refl, refl);
  two_tag_bytes = refl;
  source = (refl, refl);
  sink = (refl, refl);
  period = (refl, refl, refl, refl);
  deadline = (refl, refl, refl, refl);
  two_of_a_flow = (refl, refl, refl);
}
