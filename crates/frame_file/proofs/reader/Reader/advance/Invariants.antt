use Rattle.std.proofs.Common.{◌≡◌, ◌-◌}
use Rattle.text_lines.specs.Reading.{GoesOn, WhereTold, to_come}
use Rattle.frame_file.specs.Reader.{IsAt, TakesMemory, least_taken, left}
use Rattle.frame_file.specs.State.{state_of}
use Rattle.frame_file.proofs.reader.Reader.advance.Given as goal

abbrev pub invariant-lines : goal.invariant-lines
invariant-lines g l = record {
  goes : GoesOn (g.F.Files.seen l.fn.files) (g.F.Files.seen l.files) (state_of l.fn.self).held (state_of l.self).held
      (least_taken (state_of l.fn.self).stage - least_taken (state_of l.self).stage);
  at : IsAt (g.F.Files.seen l.files) (state_of l.self);
  counted : (state_of l.self).given ≡ (state_of l.fn.self).given;
  left_is : WhereTold (g.F.Files.seen l.fn.files) (λ octets. left (g.F.Files.seen l.fn.files) (state_of l.fn.self)
      octets ≡ left (g.F.Files.seen l.files) (state_of l.self) octets);
  memory : TakesMemory (g.F.Files.seen l.files) (state_of l.self)
      → TakesMemory (g.F.Files.seen l.fn.files) (state_of l.fn.self);
}

abbrev pub decreases-lines : goal.decreases-lines
decreases-lines g l = to_come (g.F.Files.seen l.files) (state_of l.self).held
