-- The header takes 9 bytes, whatever its order and number of clusters are.
use Rattle.hexline.specs.Digits.{hexes, number_bytes, field_bytes, line_of}
use Rattle.plantext.specs.PlanText.{plan_header}
use Rattle.plantext.proofs.put_header.Goals as goal

pub put_line-requires : goal.put_line-requires
unfolding plan_header field_bytes number_bytes line_of hexes
put_line-requires c = rw (c.byte.ensures, c.byte-2.ensures, c.byte-3.ensures, c.byte-4.ensures) c.requires
