use Rattle.std.proofs.Common.{refl}
use Rattle.knxsec_app.specs.declared.status.Status.TheVariants.{NoMemory}
use Rattle.knxsec_app.specs.Replaying.{make_answer}
use Rattle.knxsec_app.proofs.Stopping.{nothing_written}
use Rattle.knxsec_app.proofs.playing.make.Goals as goal

pub returns-in_default-stepped-clause-answer : goal.returns-in_default-stepped-clause-answer
returns-in_default-stepped-clause-answer g c =
    nothing_written (make_answer c.args.number c.args.count.now) NoMemory _ _ (λ served. served) refl
