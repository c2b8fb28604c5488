use Rattle.std.proofs.Common.{◌≡◌, ◌++◌, length, take, drop, sym, ap, ◌∙◌, subst, arith}
use Rattle.std.proofs.lemmas.Grind.{common_steps}
use Rattle.seq_store.specs.Laws.{IsUnformattedAt}
use Rattle.seq_store.specs.Runs.{Numbers, numbers_in}
use Rattle.seq_store.proofs.Restored.{numbers_restored}
use Rattle.seq_store.proofs.Starts.{restores_all, tells_unformatted}
use Rattle.seq_store.proofs.store.SeqStore.start.Goals as goal

pub returns-in-Ok-read_values-clause-numbers : goal.returns-in-Ok-read_values-clause-numbers
returns-in-Ok-read_values-clause-numbers g c =
    let size : length c.read_values.new.marks ≡ c.args.lanes = grind (arith, common_steps) in
    let items : take c.in-Ok.marks.len (c.read_values.new.marks
    ++ drop (length c.read_values.new.marks) c.in-Ok.marks.items) ≡ c.read_values.new.marks =
    grind (arith, common_steps) in
    let numbers : Numbers = record { reserved = c.in-Ok-read_values.reserved; marks = c.read_values.new.marks } in
    ap (λ marks. let n : Numbers = record { reserved = c.in-Ok-read_values.reserved; marks = marks } in n) items
    ∙ sym (subst (λ lanes. numbers_in lanes (g.M.Nvm.state c.args.memory).octets ≡ numbers) size
    (numbers_restored numbers (g.M.Nvm.state c.args.memory).octets c.in-Ok-read_values.ensures.restores))

pub returns-in-Ok-read_values-clause-unformatted : goal.returns-in-Ok-read_values-clause-unformatted
returns-in-Ok-read_values-clause-unformatted g c = λ place. (
  λ is. absurd cc,
  λ missing.
      let size : c.args.lanes ≡ length c.read_values.new.marks = grind (arith, common_steps) in
      absurd (restores_all _ _ c.read_values.new.marks place c.in-Ok-read_values.ensures.restores
      (subst (λ lanes. IsUnformattedAt lanes (g.M.Nvm.state c.args.memory).octets place) size missing.0)),
)

pub returns-in-Err-clause-unformatted : goal.returns-in-Err-clause-unformatted
returns-in-Err-clause-unformatted g c = λ place.
    let size : length c.deref_mut.result.now ≡ c.args.lanes = grind (arith, common_steps) in
    tells_unformatted c.args.lanes (g.M.Nvm.state c.args.memory).octets c.in-Err.fault place
    (λ p is. subst (λ lanes. IsUnformattedAt lanes (g.M.Nvm.state c.args.memory).octets p) size
    (c.in-Err.ensures.unformatted p (cc)))
