use Rattle.std.proofs.Common.{sym, ◌∙◌, arith}
use Rattle.keyring_reader.proofs.FormLemmas.{here_long, not_here}
use Rattle.keyring_reader.proofs.form.has_long.Goals.{in-Some+else-is_signed_and_long, in_default}
use Rattle.keyring_reader.proofs.form.has_long.Goals as goal

pub returns-then-is_signed_and_long : goal.returns-then-is_signed_and_long
returns-then-is_signed_and_long c =
    sym (here_long c.args.attributes.now c.attributes.index (c.in-Some.name.now, c.in-Some.value.now)
    c.attributes.invariant (sym c.in-Some.ensures.pair)
    (sym c.is_signed_and_long.ensures ∙ c.if-is_signed_and_long.true))

pub attributes-preserved : goal.attributes-preserved
attributes-preserved c = elim c.match-pair.branch [
  | in-Some+else-is_signed_and_long w ↦
      not_here c.args.attributes.now c.attributes.index (w.in-Some.name.now, w.in-Some.value.now) c.attributes.invariant
      (sym w.in-Some.ensures.pair)
      (sym w.is_signed_and_long.ensures ∙ w.if-is_signed_and_long.false)
  | in_default w ↦ absurd (omega (
    arith,
    w.in_default.ensures.none,
    c.len-index-end.ensures.len,
    c.attributes-test.true,
  ))
]
