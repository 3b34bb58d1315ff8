-- The check of records refuses by 10 to 14, 5 or 6 and by no other number (docs/FORMATS.md, "Records handed in").
use Rattle.std.specs.Prelude.{◌≡◌, refl, true, ℕ, ◌+◌, get_or}
use Rattle.site.specs.declared.Site.{Site}
use Rattle.std.specs.Prelude.{Ok, Err}
use Rattle.site.specs.Refusals.{Verdict}
use Rattle.site.specs.Told.{refusal}
use Rattle.site.specs.Records.{absent, no_flow}
use Rattle.site.specs.Fields.{header_verdict, cluster_verdict, flow_verdict}
use Rattle.site.specs.Table.{record_number}
use Rattle.site.specs.Places.{ByField, field_record, header_place, cluster_place, flow_place}
use Rattle.records.specs.Check.{checked}
use Rattle.records.specs.CheckLaws.{cluster_has, check_has}

abbrev pub ByRecords : Verdict → Type 0
ByRecords (Ok _) = Unit {0}
ByRecords (Err (refusal number line place)) = record_number number ≡ true

fields_by_records : (v : Verdict) → ByField v → ByRecords v
fields_by_records (Ok _) h = tt
fields_by_records (Err (refusal m k p)) h = field_record m p h

pub check_by_records : (s : Site) → ByRecords (checked s)
check_by_records s =
    let n : ℕ = s.cluster_count in let f : ℕ = s.flow_count in
    check_has ByRecords tt s
    (fields_by_records (header_verdict 1 1 n f) (header_place 1 1 n f))
    (λ i l. let c = get_or s.clusters i absent in cluster_has ByRecords tt s.clusters i (fields_by_records (cluster_verdict (2 + i) c) (cluster_place (2 + i) c)) refl refl)
    (λ j l. let w = get_or s.flows j no_flow in fields_by_records (flow_verdict (2 + n + j) n w) (flow_place (2 + n + j) n w))
