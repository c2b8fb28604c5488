use Rattle.std.proofs.Common.{◌≡◌, ◌++◌, length}
use Rattle.std.specs.Str.{IsUtf8}
use Rattle.std.specs.String.{string_bytes}
use Rattle.tag_text.specs.Values.{spaced}
use Rattle.tag_text.proofs.value.push_spaced.Given as goal

-- what was appended and what is left are the whole text
abbrev pub invariant-breaks : goal.invariant-breaks
invariant-breaks l = record {
  whole : string_bytes l.value ++ spaced l.rest ≡ string_bytes l.fn.value ++ spaced l.text;
  utf8 : IsUtf8 l.rest;
}

abbrev pub decreases-breaks : goal.decreases-breaks
decreases-breaks l = length l.rest
