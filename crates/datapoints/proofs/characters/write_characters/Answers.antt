use Rattle.std.proofs.Common.{◌≡◌, true, ap, ◌∙◌}
use Rattle.std.specs.List.{list_all}
use Rattle.std.proofs.lemmas.List.{take-append-drop}
use Rattle.datapoints.specs.Values.{is_printable}
use Rattle.datapoints.proofs.CharacterLemmas.{is_zero, parts_of, built_of, quoted}
use Rattle.datapoints.proofs.characters.write_characters.Goals as goal

pub returns-then-not-are_printable : goal.returns-then-not-are_printable
returns-then-not-are_printable c = λ text is.
    let end = c.end_of_characters in
    let parts = parts_of c.args.octets.now text end.result is end.ensures.within end.ensures.before end.ensures.end in
    let all : c.are_printable.result ≡ true =
    c.are_printable.ensures ∙ ap (list_all is_printable) c.split_at.ensures.front ∙ parts.0
    in
    cc

pub returns-then-not-are_zero : goal.returns-then-not-are_zero
returns-then-not-are_zero c = λ text is.
    let end = c.end_of_characters in
    let parts = parts_of c.args.octets.now text end.result is end.ensures.within end.ensures.before end.ensures.end in
    let all : c.are_zero.result ≡ true =
    c.are_zero.ensures ∙ ap (list_all is_zero) c.split_at.ensures.back ∙ parts.1
    in
    cc

pub returns : goal.returns
returns c =
    let octets = c.args.octets.now in
    let cut = take-append-drop c.end_of_characters.result octets in
    built_of octets c.split_at.result.0.now c.split_at.result.1.now c.octet-2.new.self c.requires.size (cc) (cc) (cc)
    (quoted c.args.out.now c.octet.new.self c.octets.new.self c.octet-2.new.self c.split_at.result.0.now
    c.requires.empty c.octet.ensures.added c.octets.ensures.added c.octet-2.ensures.added)
