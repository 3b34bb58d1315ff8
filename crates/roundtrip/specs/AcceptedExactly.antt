-- A text is accepted exactly if it is the text of some records that the check accepts: the two round trips together.
use Rattle.std.specs.Prelude.{◌≡◌, List, ◌↔◌, ℕ}
use Rattle.site.specs.declared.Site.{Site}
use Rattle.site.specs.Refusals.{accepted}
use Rattle.reader.specs.Reading.{accepted as taken, read_text}
use Rattle.records.specs.Check.{checked}
use Rattle.writer.specs.Text.{text_of}
use Rattle.roundtrip.specs.Kept.{kept}
use Rattle.roundtrip.specs.ReadOfWrite.{read_of_write}
use Rattle.roundtrip.specs.WriteOfRead.{write_of_read}

pub accepted_exactly : (t : List ℕ) → ((s : Site) × (read_text t ≡ taken s)) ↔ ((s : Site) × (checked s ≡ accepted) × (text_of s ≡ t))
accepted_exactly t = (
  (λ read. let h = write_of_read t read.0 read.1 in (read.0, h.0, h.1)),
  (λ made. (kept made.0, rw made.2 at (read_of_write made.0 made.1))),
)
