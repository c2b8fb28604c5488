use Rattle.tag_text.proofs.ValueLemmas.{cut_after_plain, plain_end, spaced_cut}
use Rattle.tag_text.proofs.value.cut_at_break.Goals as goal

pub split_at-requires : goal.split_at-requires
split_at-requires c = rw c.plain_octets.ensures.count (cut_after_plain c.args.text.now)

pub returns-clause-plain : goal.returns-clause-plain
returns-clause-plain c =
    rw (c.split_at.ensures.back, c.split_at.ensures.front, c.plain_octets.ensures.count) (spaced_cut c.args.text.now)

pub returns-clause-end : goal.returns-clause-end
returns-clause-end c = rw (c.split_at.ensures.back, c.plain_octets.ensures.count) (plain_end c.args.text.now)
