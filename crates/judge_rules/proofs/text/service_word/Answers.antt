use Rattle.std.proofs.Common.{length, ap, arith}
use Rattle.judge_rules.proofs.Names.{length-name_of}
use Rattle.judge_rules.proofs.text.service_word.Goals as goal

pub returns-clause-short : goal.returns-clause-short
returns-clause-short c = omega (arith, length-name_of c.args.service, ap length c.service_name.ensures.name)
