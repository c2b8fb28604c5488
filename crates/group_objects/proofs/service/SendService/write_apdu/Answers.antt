use Rattle.std.proofs.Common.{sym, subst}
use Rattle.group_objects.specs.Apdus.{service_apdu}
use Rattle.group_objects.specs.Effects.{ReadsBack}
use Rattle.group_objects.proofs.Reading.{read_back, write_back, response_back}
use Rattle.group_objects.proofs.service.SendService.write_apdu.Goals as goal

pub returns-in-Read-clause-reads_back : goal.returns-in-Read-clause-reads_back
returns-in-Read-clause-reads_back c =
    subst (λ service. ReadsBack service c.args.value.now (service_apdu service c.args.value.now)) (sym c.in-Read.is)
    (read_back c.args.value.now)

pub returns-in-Write-clause-reads_back : goal.returns-in-Write-clause-reads_back
returns-in-Write-clause-reads_back c =
    subst (λ service. ReadsBack service c.args.value.now (service_apdu service c.args.value.now)) (sym c.in-Write.is)
    (write_back c.args.value.now c.write_value.ensures.is_value)

pub returns-in-Response-clause-reads_back : goal.returns-in-Response-clause-reads_back
returns-in-Response-clause-reads_back c =
    subst (λ service. ReadsBack service c.args.value.now (service_apdu service c.args.value.now)) (sym c.in-Response.is)
    (response_back c.args.value.now c.write_value-in-Response.ensures.is_value)
