use Rattle.std.proofs.Common.{◌+◌, ℕ, [], length, Ok, refl, ap, subst, ◌∙◌, arith}
use Rattle.knx_base.specs.Files.{Seen}
use Rattle.text_lines.specs.Reading.{GoesOn, count_of}
use Rattle.text_lines.proofs.Readers.{goes_octet, goes_then, takes_less, octet_taken, none_taken}
use Rattle.frame_file.specs.Lead.{LeadState, Takes}
use Rattle.frame_file.specs.LeadView.{lead_of}
use Rattle.frame_file.proofs.FrontLemmas.{more_read}
use Rattle.frame_file.proofs.EndLemmas.{ended_read}
use Rattle.frame_file.proofs.lead.Lead.read.Goals as goal

pub octets-preserved : goal.octets-preserved
octets-preserved g c =
    let start : Seen = g.F.Files.seen c.args.files.now in
    let now : Seen = g.F.Files.seen c.octets.files in
    let next : Seen = g.F.Files.seen c.next.new.files in
    let new : LeadState = lead_of c.take.new.self in
    let before = c.octets.invariant in
    let count : ℕ = length before.front in
    more_read start next c.next.new.self new before.front c.in-Ok-Some.octet
    (goes_octet start now next [] c.octets.source c.next.new.self count (count + 1) c.in-Ok-Some.octet
    c.in-Ok-Some.field-0 c.in-Ok-Some.field-0-is refl before.goes c.in-Ok-Some.ensures.goes)
    (octet_taken start now next [] c.octets.source c.next.new.self before.front count c.in-Ok-Some.octet
    c.in-Ok-Some.field-0 c.in-Ok-Some.field-0-is before.goes before.given c.in-Ok-Some.ensures.given)
    (subst (Takes new before.front c.in-Ok-Some.octet c.take.new.octets)
    (c.in-Ok-More.is ∙ ap Ok c.in-Ok-More.field-0-is) (c.take.ensures.takes before.front before.is))

pub returns-in-Ok-None-clause-reads : goal.returns-in-Ok-None-clause-reads
returns-in-Ok-None-clause-reads g c =
    let start : Seen = g.F.Files.seen c.args.files.now in
    let now : Seen = g.F.Files.seen c.octets.files in
    let next : Seen = g.F.Files.seen c.next.new.files in
    let before = c.octets.invariant in
    let count : ℕ = length before.front in
    let end = none_taken start now next [] c.octets.source c.next.new.self before.front count c.in-Ok-None.field-0
    c.in-Ok-None.field-0-is before.goes before.given c.in-Ok-None.ensures.given in
    ended_read start next c.next.new.self c.finish.new.octets (lead_of c.finish.new.self) before.front c.finish.result
    (takes_less start next [] c.next.new.self c.next.new.self (count + 0) count (omega arith)
    (goes_then start now next [] c.octets.source c.next.new.self count 0 before.goes
    (subst (λ octet. GoesOn now next c.octets.source c.next.new.self (count_of octet)) c.in-Ok-None.field-0-is
    c.in-Ok-None.ensures.goes)))
    end.0 end.1 (c.finish.ensures.ends before.front before.is)
