use Rattle.tag_text.proofs.OctetLemmas.{cut_after_text}
use Rattle.tag_text.proofs.octets.after_text.Goals as goal

pub split_at-requires : goal.split_at-requires
split_at-requires c = rw (c.text_octets.ensures.count, c.as_bytes.ensures.value) (cut_after_text c.args.text.now)
