use Rattle.std.proofs.lemmas.Bool.{le-leb, lt-leb}
use Rattle.script_text.proofs.draws.Draws.event_of.Goals as goal

pub returns-then-kind-le5-clause-made : goal.returns-then-kind-le5-clause-made
returns-then-kind-le5-clause-made c =
    let made = c.set.ensures.made in rw (
      lt-leb c.args.kind 4 c.if-kind-le4.false,
      le-leb c.args.kind 5
          c.if-kind-le5.true,
    ) made

pub returns-then-kind-le11-clause-made : goal.returns-then-kind-le11-clause-made
returns-then-kind-le11-clause-made c =
    let made = c.deliver.ensures.made in rw (
      lt-leb c.args.kind 4 c.if-kind-le4.false,
      lt-leb c.args.kind 5
          c.if-kind-le5.false,
      le-leb c.args.kind 11 c.if-kind-le11.true,
    ) made

pub returns-then-kind-le12-clause-made : goal.returns-then-kind-le12-clause-made
returns-then-kind-le12-clause-made c =
    let made = c.ask.ensures.made in
    rw (
      lt-leb c.args.kind 4 c.if-kind-le4.false,
      lt-leb c.args.kind 5 c.if-kind-le5.false,
      lt-leb c.args.kind 11
          c.if-kind-le11.false,
      le-leb c.args.kind 12 c.if-kind-le12.true,
    ) made

pub returns-then-kind-le13-clause-made : goal.returns-then-kind-le13-clause-made
returns-then-kind-le13-clause-made c =
    let made = c.cut.ensures.made in
    rw (
      lt-leb c.args.kind 4 c.if-kind-le4.false,
      lt-leb c.args.kind 5 c.if-kind-le5.false,
      lt-leb c.args.kind 11
          c.if-kind-le11.false,
      lt-leb c.args.kind 12 c.if-kind-le12.false,
      le-leb c.args.kind 13 c.if-kind-le13.true,
    )
    made

pub returns-else-kind-le13-clause-made : goal.returns-else-kind-le13-clause-made
returns-else-kind-le13-clause-made c =
    let made = c.on.ensures.made in
    rw (
      lt-leb c.args.kind 4 c.if-kind-le4.false,
      lt-leb c.args.kind 5 c.if-kind-le5.false,
      lt-leb c.args.kind 11
          c.if-kind-le11.false,
      lt-leb c.args.kind 12 c.if-kind-le12.false,
      lt-leb c.args.kind 13 c.if-kind-le13.false,
    )
    made
