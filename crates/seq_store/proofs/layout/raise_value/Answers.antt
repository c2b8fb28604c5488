use Rattle.std.proofs.Common.{subst}
use Rattle.nvm_model.specs.Nvm.{Makes, fault_of}
use Rattle.nvm_model.proofs.Runs.{makes_after_read}
use Rattle.seq_store.specs.Layout.{raise_writes}
use Rattle.seq_store.proofs.Making.{makes_no_raise}
use Rattle.seq_store.proofs.Raises.{raises}
use Rattle.seq_store.proofs.layout.raise_value.Goals as goal

pub returns-in-Err : goal.returns-in-Err
returns-in-Err g c =
    raises c.args.lanes c.args.value c.args.number c.requires.may
    (makes_no_raise c.args.lanes c.args.value c.args.number c.requires.may c.in-Err.ensures.reads)

pub returns : goal.returns
returns g c =
    raises c.args.lanes c.args.value c.args.number c.requires.may
    (subst (λ o. Makes (raise_writes c.args.lanes o c.args.value c.args.number) (fault_of c.write_raise.result)
    (g.M.Nvm.state c.args.memory.now)
    (g.M.Nvm.state c.write_raise.new.memory) (g.M.Nvm.images c.args.memory.now)
    (g.M.Nvm.images c.write_raise.new.memory))
    c.in_default.ensures.octets (makes_after_read c.in_default.ensures.reads c.write_raise.ensures))
