use Rattle.text_lines.proofs.LineTexts.{text_is_utf8}
use Rattle.text_lines.proofs.lines.text_of.Goals as goal

pub from_utf8_unchecked-requires : goal.from_utf8_unchecked-requires
from_utf8_unchecked-requires c = text_is_utf8 c.args.word.now c.requires.text
