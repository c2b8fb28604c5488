use Rattle.tag_text.proofs.OctetLemmas.{after_first_mark_is}
use Rattle.tag_text.proofs.octets.after_first_mark.Goals as goal

pub returns-in-Some : goal.returns-in-Some
returns-in-Some c = record {
  after = rw c.in-Some.is at (after_first_mark_is c.args.mark.now c.args.text.now c.split_once.result c.requires.some
      c.split_once.ensures.cases);
}

pub returns-in-None : goal.returns-in-None
returns-in-None c = record {
  after = rw c.in-None.is at (after_first_mark_is c.args.mark.now c.args.text.now c.split_once.result c.requires.some
      c.split_once.ensures.cases);
}
