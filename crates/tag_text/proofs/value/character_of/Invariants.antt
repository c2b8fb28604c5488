use Rattle.std.proofs.Common.{◌≡◌, ◌+◌, ◌*◌, nat_lt, true, take, fold, min}
use Rattle.std.specs.List.{list_all}
use Rattle.std.specs.Char.{digit_value}
use Rattle.tag_text.proofs.value.character_of.Given as goal

-- the number of the digits so far, or one that is too great
abbrev pub invariant-digits : goal.invariant-digits
invariant-digits l = record {
  number : l.number ≡ min (fold (λ number octet. number * l.base + digit_value octet) 0 (take l.digit-index l.digits))
      0x11_0000;
  digits : list_all (λ octet. nat_lt (digit_value octet) l.base) (take l.digit-index l.digits) ≡ true;
}
