use Rattle.std.proofs.Common.{[]}
use Rattle.tag_text.specs.Scan.{state_of}
use Rattle.tag_text.proofs.DocumentLemmas.{step_less}
use Rattle.tag_text.proofs.ScanLemmas.{gives, fails, skips}
use Rattle.tag_text.proofs.scan.Scan.next.Goals as goal

pub returns-in-Ok-Some : goal.returns-in-Ok-Some
returns-in-Ok-Some c = record {
  left = gives _ (state_of c.pieces.self) (state_of c.advance.new.self) c.in-Ok-Some.given c.pieces.invariant
      (rw c.in-Ok-Some.field-0-is at c.in-Ok-Some.ensures.answer);
}

pub pieces-smaller : goal.pieces-smaller
pieces-smaller c = step_less (state_of c.pieces.self) (state_of c.advance.new.self) []
    (rw c.in-Ok-None.field-0-is at c.in-Ok-None.ensures.answer)

pub pieces-preserved : goal.pieces-preserved
pieces-preserved c = skips _ (state_of c.pieces.self) (state_of c.advance.new.self) c.pieces.invariant
    (rw c.in-Ok-None.field-0-is at c.in-Ok-None.ensures.answer)

pub returns-in-Err : goal.returns-in-Err
returns-in-Err c = record {
  left = fails _ (state_of c.pieces.self) (state_of c.advance.new.self) c.in-Err.fault c.pieces.invariant
      c.in-Err.ensures.answer;
}
