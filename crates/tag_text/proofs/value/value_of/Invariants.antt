use Rattle.std.proofs.Common.{◌≡◌}
use Rattle.std.specs.Option.{option_map, IfSome}
use Rattle.std.specs.Str.{IsUtf8}
use Rattle.std.specs.String.{string_bytes}
use Rattle.tag_text.specs.Values.{with_front, value_after, value_of}
use Rattle.tag_text.specs.Values.{parts_left, octets_left}
use Rattle.tag_text.proofs.value.value_of.Given as goal

-- what was appended and the value of the parts that are left are the whole value
abbrev pub invariant-parts : goal.invariant-parts
invariant-parts l = record {
  whole : with_front (string_bytes l.value) (value_after (parts_left (option_map (λ rest. rest.now) l.rest)))
      ≡ value_of l.raw;
  utf8 : IfSome l.rest (λ rest. IsUtf8 rest.now);
}

abbrev pub decreases-parts : goal.decreases-parts
decreases-parts l = octets_left (option_map (λ rest. rest.now) l.rest)
