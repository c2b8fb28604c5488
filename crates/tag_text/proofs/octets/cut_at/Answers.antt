use Rattle.tag_text.proofs.OctetLemmas.{cut_at_is}
use Rattle.tag_text.proofs.octets.cut_at.Goals as goal

pub returns : goal.returns
returns c = record {
  parts = cut_at_is c.args.octet c.args.text.now c.split_once.result (rw c.from.ensures at c.split_once.ensures.cases)
      c.requires.ascii;
}
