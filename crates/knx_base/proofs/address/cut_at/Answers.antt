use Rattle.std.proofs.lemmas.Str.Pattern.{split_parts}
use Rattle.knx_base.proofs.Pieces.{pieces_of-cut}
use Rattle.knx_base.proofs.address.cut_at.Goals as goal

pub returns : goal.returns
returns c = record {
  cut = pieces_of-cut c.args.separator c.args.text.now c.split_once.result
      (split_parts c.args.separator c.args.text.now c.split_once.result c.split_once.ensures.cases c.requires.ascii);
}
