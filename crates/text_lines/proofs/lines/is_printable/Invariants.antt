use Rattle.std.proofs.Common.{◌≡◌, take}
use Rattle.std.specs.List.{list_all}
use Rattle.text_lines.specs.Lines.{is_text}
use Rattle.text_lines.proofs.lines.is_printable.Given as goal

-- those so far are printable, or one of them is not
abbrev pub invariant-octets : goal.invariant-octets
invariant-octets l = l.printable ≡ list_all is_text (take l.octet-index l.line)
