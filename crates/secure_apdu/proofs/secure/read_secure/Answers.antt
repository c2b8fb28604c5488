use Rattle.std.proofs.Common.{refl, ◌∙◌, arith}
use Rattle.std.proofs.lemmas.List.{take_rest}
use Rattle.knx_base.specs.Number.{number_at}
use Rattle.secure_apdu.proofs.SecureLemmas.{bad_secure-short, bad_secure_from}
use Rattle.secure_apdu.proofs.secure.read_secure.Goals as goal

pub returns-then-length-lt-SHORTEST-clause-exact : goal.returns-then-length-lt-SHORTEST-clause-exact
returns-then-length-lt-SHORTEST-clause-exact c = bad_secure-short c.args.frame.now.content.now _ (omega arith)

pub returns-in-Some-clause-exact : goal.returns-in-Some-clause-exact
returns-in-Some-clause-exact c =
    bad_secure_from c.args.frame.now.content.now _ _ _ (omega arith) c.is_group.ensures c.fault_of.ensures
    ∙ c.in-Some.is

pub returns-in-None-clause-exact : goal.returns-in-None-clause-exact
returns-in-None-clause-exact c =
    bad_secure_from c.args.frame.now.content.now _ _ _ (omega arith) c.is_group.ensures c.fault_of.ensures
    ∙ c.in-None.is

pub returns-in-None-clause-parts : goal.returns-in-None-clause-parts
unfolding number_at
returns-in-None-clause-parts c = record {
  field_is = refl;
  shown_is = c.from_bytes.ensures.value;
  body_is = take_rest c.args.frame.now.content.now 9;
}
