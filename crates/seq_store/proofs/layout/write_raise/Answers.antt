use Rattle.std.proofs.Common.{◌≡◌, ◌+◌, ◌*◌, ◌≤◌, List, ℕ, false, length, sym, ap, subst, ◌∙◌, arith}
use Rattle.std.proofs.lemmas.Grind.{common_steps}
use Rattle.nvm_model.specs.Gate.{is_open, gated_writes}
use Rattle.nvm_model.specs.Nvm.{Makes, fault_of}
use Rattle.seq_store.proofs.Making.{zeros_taken, record_place, writes_record, writes_bank, small_generation}
use Rattle.seq_store.proofs.RaiseLaws.{has_banks}
use Rattle.seq_store.proofs.layout.write_raise.Goals as goal

pub returns-in_default : goal.returns-in_default
returns-in_default g c =
    absurd (has_banks c.args.lanes c.args.value c.args.number c.args.image.now c.requires.may
    (sym c.banks_of.ensures.banks ∙ c.in_default.is))

pub write_record-requires-clause-inside : goal.write_record-requires-clause-inside
write_record-requires-clause-inside g c =
    subst (λ (o : List ℕ). c.in-Some-first_shut.place + 8 ≤ length o) c.requires.image
    (record_place (1 + c.args.lanes) c.in-Some.banks.current c.in-Some-first_shut.place c.args.image.now
    c.in-Some.ensures.current_inside
    (sym c.first_shut.ensures ∙ c.in-Some-first_shut.is)).0

pub write_record-requires-clause-shut : goal.write_record-requires-clause-shut
write_record-requires-clause-shut g c =
    subst (λ (o : List ℕ). is_open o c.in-Some-first_shut.place ≡ false) c.requires.image
    (record_place (1 + c.args.lanes) c.in-Some.banks.current c.in-Some-first_shut.place c.args.image.now
    c.in-Some.ensures.current_inside
    (sym c.first_shut.ensures ∙ c.in-Some-first_shut.is)).1

pub returns-in-Some-first_shut : goal.returns-in-Some-first_shut
returns-in-Some-first_shut g c =
    subst (λ ws. Makes ws (fault_of c.write_record.result) (g.M.Nvm.state c.args.memory.now)
    (g.M.Nvm.state c.write_record.new.memory)
    (g.M.Nvm.images c.args.memory.now) (g.M.Nvm.images c.write_record.new.memory))
    (sym (writes_record c.args.lanes c.args.value c.args.number c.args.image.now c.in-Some.banks
    c.in-Some-first_shut.place
    (sym c.banks_of.ensures.banks ∙ c.in-Some.is) (sym c.first_shut.ensures ∙ c.in-Some-first_shut.is)))
    c.write_record.ensures.makes

pub next_body-requires-clause-zeros : goal.next_body-requires-clause-zeros
next_body-requires-clause-zeros g c =
    zeros_taken _ 526 (8 + 6 * (1 + c.args.lanes) + 128) (omega (arith, c.requires.may.lanes_fit))
    (omega (arith, c.bank_size.ensures))

pub next_body-requires-clause-small : goal.next_body-requires-clause-small
next_body-requires-clause-small g c =
    small_generation c.args.lanes c.args.image.now c.in-Some.banks c.requires.may.lanes_fit
    (sym c.banks_of.ensures.banks ∙ c.in-Some.is)

pub returns : goal.returns
returns g c =
    subst (λ ws. Makes ws (fault_of c.write_gated.result) (g.M.Nvm.state c.args.memory.now)
    (g.M.Nvm.state c.write_gated.new.memory)
    (g.M.Nvm.images c.args.memory.now) (g.M.Nvm.images c.write_gated.new.memory))
    (ap (gated_writes c.in-Some.banks.other (is_open c.args.image.now c.in-Some.banks.other)) c.next_body.ensures
    ∙ sym (writes_bank c.args.lanes c.args.value c.args.number c.args.image.now c.in-Some.banks
    (sym c.banks_of.ensures.banks ∙ c.in-Some.is) (sym c.first_shut.ensures ∙ c.in_default-first_shut.is)))
    c.write_gated.ensures.makes
