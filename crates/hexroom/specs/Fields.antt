-- The fields of a line: numbers, each with the bytes that it takes.
use Rattle.std.specs.Prelude.{◌≡◌, List, ◌++◌, map, ℕ, ◌+◌, ◌*◌, ◌<◌, length, get_or, drop}
use Rattle.std.proofs.Common.{ap, ◌∙◌, add-one, arith, length-append, drop-cons}
use Rattle.hexline.specs.Digits.{hexes, number_bytes, field_bytes}
use Rattle.hexroom.specs.Room.{put, put-append, hexes-append, hexes-length, number-length}
use Rattle.hexroom.specs.declared.Field.{Field}

-- the bytes of a line's fields: each value at its width
abbrev pub bytes_of_fields : List Field → List ℕ
bytes_of_fields fs = field_bytes (map (λ f. f.width) fs) (map (λ f. f.value) fs)

-- what stands behind the last field
abbrev no_field : Field
no_field = record { width = 0; value = 0 }

module _ (fs : List Field) (i : ℕ) (h : i < length fs) where
  abbrev field : List ℕ
  field = number_bytes (get_or fs i no_field).width (get_or fs i no_field).value

  abbrev rest : List ℕ
  rest = bytes_of_fields (drop (i + 1) fs)

  pub fields_more : bytes_of_fields (drop i fs) ≡ field ++ rest
  unfolding field_bytes
  fields_more = rw (add-one i, drop-cons fs i no_field h)

  pub fields-length : length (bytes_of_fields (drop i fs)) ≡ (get_or fs i no_field).width + length rest
  fields-length =
      ap length fields_more ∙ length-append field rest ∙ omega (arith, number-length (get_or fs i no_field).width (get_or fs i no_field).value)

  -- the field at i, then those behind it
  pub fields_next : (l : List ℕ) (at to : ℕ) → to ≡ at + 2 * (get_or fs i no_field).width → put (put l at (hexes field)) to (hexes rest) ≡ put l at (hexes (bytes_of_fields (drop i fs)))
  fields_next l at to e =
      put-append l at to (hexes field) (hexes rest) (omega (arith, e, hexes-length field, number-length (get_or fs i no_field).width (get_or fs i no_field).value))
      ∙ rw (← hexes-append field rest, ← fields_more)
