use Rattle.std.proofs.Common.{rules, arith, ◌+◌, ap, sym, ◌∙◌}
use Rattle.knx_base.specs.Files.{Seen}
use Rattle.text_lines.proofs.Readers.{goes_then, others_then}
use Rattle.knxsec_app.proofs.SoFar.{goes_on, wants_memory, stops_at_line, finishes, refuses, reads_to_end, some_given, none_given, fault_given, gives_told, gives_others, few_given}
use Rattle.knxsec_app.proofs.auditing.audit_current.Goals as goal

pub records-preserved : goal.records-preserved
records-preserved g c =
    let before = c.records.invariant in
    let start : Seen = g.F.Files.seen c.args.files.now in
    let now : Seen = g.F.Files.seen c.records.files in
    let later : Seen = g.F.Files.seen c.next.new.files in
    let given = some_given now later _ _ c.next.result c.in-Ok-Some.field-0 c.in-Ok-Some.record c.in-Ok-Some.is
    c.in-Ok-Some.field-0-is c.next.follows.holds-at-none in
    record {
      no_fault = given.still_none;
      at = given.at;
      goes = goes_then start now later _ _ _ 0 0 before.goes given.reads;
      counted = c.in-Ok-frame.ensures.counted ∙ ap (λ n. n + 1) before.counted
          ∙ sym (given.number_is.1 ∙ given.number_is.0);
      few = omega (arith, given.few, given.number_is.1, few_given c.next.follows.lender-at-none.log);
      so_far = goes_on (g.W.Showing.shown c.args.showing.now) start now later _ _ _ _ _ _ _ _ _ _ _ _
          c.in-Ok-frame.line _
          (c.show-behind.ensures ∙ ap (g.W.Showing.shown c.args.showing.now c.in-Ok-frame.line) c.bytes.ensures.octets)
          before.so_far before.goes given.left_is
          (λ past knows. (c.in-Ok-frame.ensures.line past knows, c.in-Ok-frame.ensures.knows past knows))
          c.frame.ensures.rows c.in-Ok-frame.ensures.opened c.in-Ok-pass_line.ensures.text;
      kept = search rules;
    }

pub returns-in_default-frame-clause-answer : goal.returns-in_default-frame-clause-answer
returns-in_default-frame-clause-answer g c octets has =
    wants_memory (g.W.Showing.shown c.args.showing.now) (g.F.Files.seen c.args.files.now) (g.F.Files.seen
    c.records.files) _ _ _ _ _ _ _ _
    c.records.invariant.so_far c.stop_without_memory.ensures.answer octets has

pub returns-in_default-pass_line-clause-answer : goal.returns-in_default-pass_line-clause-answer
returns-in_default-pass_line-clause-answer g c =
    let before = c.records.invariant in
    let now : Seen = g.F.Files.seen c.records.files in
    let later : Seen = g.F.Files.seen c.next.new.files in
    let given = some_given now later _ _ c.next.result c.in-Ok-Some.field-0 c.in-Ok-Some.record c.in-Ok-Some.is
    c.in-Ok-Some.field-0-is c.next.follows.holds-at-none in
    stops_at_line (g.W.Showing.shown c.args.showing.now) (g.F.Files.seen c.args.files.now) now later _ _ _ _
    c.next.follows.lender-at-none _ _ _ _ _ _ c.in-Ok-frame.line _
    (c.show-behind.ensures ∙ ap (g.W.Showing.shown c.args.showing.now c.in-Ok-frame.line) c.bytes.ensures.octets)
    before.so_far before.goes given.left_is
    (λ past knows. (c.in-Ok-frame.ensures.line past knows, c.in-Ok-frame.ensures.knows past knows))
    c.in-Ok-frame.ensures.opened c.in_default-pass_line.ensures.text

pub returns-in-Ok-None-clause-answer : goal.returns-in-Ok-None-clause-answer
returns-in-Ok-None-clause-answer g c =
    let before = c.records.invariant in
    let now : Seen = g.F.Files.seen c.records.files in
    let given = none_given now (g.F.Files.seen c.next.new.files) _ _ c.next.result c.in-Ok-None.field-0 c.in-Ok-None.is
    c.in-Ok-None.field-0-is c.next.follows.holds-at-none in
    finishes (g.W.Showing.shown c.args.showing.now) (g.F.Files.seen c.args.files.now) now _ _ _ _ _ _ _ _
    before.so_far before.goes
    (λ all has. (given.none_left all has).0) c.finish.ensures.answer

pub returns-in-Ok-None-clause-whole : goal.returns-in-Ok-None-clause-whole
returns-in-Ok-None-clause-whole g c whole =
    let before = c.records.invariant in
    let now : Seen = g.F.Files.seen c.records.files in
    let given = none_given now (g.F.Files.seen c.next.new.files) _ _ c.next.result c.in-Ok-None.field-0 c.in-Ok-None.is
    c.in-Ok-None.field-0-is c.next.follows.holds-at-none in
    reads_to_end (g.F.Files.seen c.args.files.now) now (g.F.Files.seen c.next.new.files) c.requires.start
    before.goes given.reads given.whole

pub returns-in-Err-clause-answer : goal.returns-in-Err-clause-answer
returns-in-Err-clause-answer g c =
    let before = c.records.invariant in
    let now : Seen = g.F.Files.seen c.records.files in
    let refused = fault_given now (g.F.Files.seen c.next.new.files) _ _ c.next.result c.in-Err.fault c.in-Err.is
    before.no_fault c.next.follows.holds-at-none in
    refuses (g.W.Showing.shown c.args.showing.now) (g.F.Files.seen c.args.files.now) now (g.F.Files.seen
    c.next.new.files) _ _ _ _ _ _ _ _ c.in-Err.fault
    before.so_far before.goes refused c.finish_frames.ensures.answer

pub returns-in_default-frame-clause-told : goal.returns-in_default-frame-clause-told
returns-in_default-frame-clause-told g c =
    let before = c.records.invariant in
    gives_told (g.F.Files.seen c.records.files) (g.F.Files.seen c.next.new.files) _ _ c.next.result before.no_fault
    c.next.follows.holds-at-none ∙ before.goes.told

pub returns-in_default-pass_line-clause-told : goal.returns-in_default-pass_line-clause-told
returns-in_default-pass_line-clause-told g c =
    let before = c.records.invariant in
    gives_told (g.F.Files.seen c.records.files) (g.F.Files.seen c.next.new.files) _ _ c.next.result before.no_fault
    c.next.follows.holds-at-none ∙ before.goes.told

pub returns-in-Ok-None-clause-told : goal.returns-in-Ok-None-clause-told
returns-in-Ok-None-clause-told g c =
    let before = c.records.invariant in
    gives_told (g.F.Files.seen c.records.files) (g.F.Files.seen c.next.new.files) _ _ c.next.result before.no_fault
    c.next.follows.holds-at-none ∙ before.goes.told

pub returns-in-Err-clause-told : goal.returns-in-Err-clause-told
returns-in-Err-clause-told g c =
    let before = c.records.invariant in
    gives_told (g.F.Files.seen c.records.files) (g.F.Files.seen c.next.new.files) _ _ c.next.result before.no_fault
    c.next.follows.holds-at-none ∙ before.goes.told

pub returns-in_default-frame-clause-others : goal.returns-in_default-frame-clause-others
returns-in_default-frame-clause-others g c =
    let before = c.records.invariant in
    let now : Seen = g.F.Files.seen c.records.files in
    let later : Seen = g.F.Files.seen c.next.new.files in
    others_then (g.F.Files.seen c.args.files.now) now later before.goes.current before.goes.others
    (gives_others now later _ _ c.next.result before.no_fault c.next.follows.holds-at-none)

pub returns-in_default-pass_line-clause-others : goal.returns-in_default-pass_line-clause-others
returns-in_default-pass_line-clause-others g c =
    let before = c.records.invariant in
    let now : Seen = g.F.Files.seen c.records.files in
    let later : Seen = g.F.Files.seen c.next.new.files in
    others_then (g.F.Files.seen c.args.files.now) now later before.goes.current before.goes.others
    (gives_others now later _ _ c.next.result before.no_fault c.next.follows.holds-at-none)

pub returns-in-Ok-None-clause-others : goal.returns-in-Ok-None-clause-others
returns-in-Ok-None-clause-others g c =
    let before = c.records.invariant in
    let now : Seen = g.F.Files.seen c.records.files in
    let later : Seen = g.F.Files.seen c.next.new.files in
    others_then (g.F.Files.seen c.args.files.now) now later before.goes.current before.goes.others
    (gives_others now later _ _ c.next.result before.no_fault c.next.follows.holds-at-none)

pub returns-in-Err-clause-others : goal.returns-in-Err-clause-others
returns-in-Err-clause-others g c =
    let before = c.records.invariant in
    let now : Seen = g.F.Files.seen c.records.files in
    let later : Seen = g.F.Files.seen c.next.new.files in
    others_then (g.F.Files.seen c.args.files.now) now later before.goes.current before.goes.others
    (gives_others now later _ _ c.next.result before.no_fault c.next.follows.holds-at-none)
