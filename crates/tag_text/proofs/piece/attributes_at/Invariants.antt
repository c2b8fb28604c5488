use Rattle.std.proofs.Common.{◌≡◌, length}
use Rattle.std.specs.Str.{IsUtf8}
use Rattle.tag_text.specs.Pieces.{attributes_at}
use Rattle.tag_text.specs.Pieces.{with_firsts}
use Rattle.tag_text.proofs.piece.attributes_at.Given as goal

-- the attributes so far and those of what is left are all
abbrev pub invariant-attributes : goal.invariant-attributes
invariant-attributes l = record {
  whole : with_firsts l.attributes (attributes_at l.rest) ≡ attributes_at l.text;
  utf8 : IsUtf8 l.rest;
}

abbrev pub decreases-attributes : goal.decreases-attributes
decreases-attributes l = length l.rest
