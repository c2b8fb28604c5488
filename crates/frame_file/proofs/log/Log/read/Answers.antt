use Rattle.std.proofs.Common.{rules, subst}
use Rattle.tag_text.specs.Grammar.{IsDocument}
use Rattle.frame_file.proofs.CountLemmas.{few_records}
use Rattle.frame_file.proofs.log.Log.read.Goals as goal

pub telegrams-init : goal.telegrams-init
telegrams-init c = record {
  list = search rules;
  few = few_records c.args.text.now (subst (IsDocument c.args.text.now) c.new-reader.ensures.all
      c.new-reader.ensures.document) c.requires.short;
}
