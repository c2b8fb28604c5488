use Rattle.tag_text.proofs.OctetLemmas.{cut_after_blanks}
use Rattle.tag_text.proofs.octets.after_blanks.Goals as goal

pub split_at-requires : goal.split_at-requires
split_at-requires c =
    rw (c.blank_octets.ensures.count, c.as_bytes.ensures.value) (cut_after_blanks c.args.text.now c.utf8.text)
