use Rattle.std.proofs.Common.{rules, ◌++◌, ◌∷◌, [], sym, subst, refl}
use Rattle.std.specs.Str.Lines.{lines}
use Rattle.datapoints.specs.Types.{IsTextFault, types_of}
use Rattle.datapoints.proofs.TypeLines.{HasRead, line_taken, line_refused, text_read}
use Rattle.datapoints.proofs.types.read_types.Goals as goal

pub lines-preserved : goal.lines-preserved
lines-preserved c =
    let done = c.lines.invariant.0 ++ c.in-Some.line.now ∷ [] in (
      done,
      subst (λ given. HasRead (lines c.args.bytes.now) done c.next.new.self.left given c.take_line.new.self)
          (sym c.in-Some.ensures.number.1)
          (line_taken _ _ _ _ _ _ _ _ _ c.lines.invariant.1 c.in-Some.ensures.line c.in-Some.ensures.number.0
          c.in_ok-take_line.ensures.taken (c.in_ok-take_line.ensures.right refl)),
    )

pub returns-in_err-take_line-clause-fault : goal.returns-in_err-take_line-clause-fault
returns-in_err-take_line-clause-fault c =
    let refused : IsTextFault c.in_err-take_line.field-0.0 (types_of c.args.bytes.now) =
    line_refused _ _ _ _ _ _ _ _ _ c.lines.invariant.1 c.in-Some.ensures.line c.in-Some.ensures.number.0
    c.in_err-take_line.ensures.fault
    in
    search (rules, refused)

pub returns-clause-rows : goal.returns-clause-rows
returns-clause-rows c = text_read _ _ _ _ _ c.lines.invariant.1 c.in_default.ensures.line

pub returns-clause-once : goal.returns-clause-once
returns-clause-once c = c.lines.invariant.1.once
