use Rattle.tag_text.proofs.OctetLemmas.{cut_after_name}
use Rattle.tag_text.proofs.octets.name_at.Goals as goal

pub split_at-requires : goal.split_at-requires
split_at-requires c =
    rw (c.name_octets.ensures.count, c.as_bytes-then-begins_name.ensures.value) (cut_after_name c.args.text.now)
