use Rattle.std.proofs.Common.{◌≡◌, length, sym, ap, ◌∙◌, rules}
use Rattle.knx_base.specs.Number.{number_of}
use Rattle.knx_base.proofs.NumberLemmas.{length-octets_of}
use Rattle.secure_apdu.specs.Sync.{xor_octets}
use Rattle.secure_apdu.proofs.SyncLemmas.{xor_octets-six, xor_octets-twice}
use Rattle.secure_apdu.proofs.sync.xor_number.Goals as goal

pub returns-clause-octets : goal.returns-clause-octets
returns-clause-octets c = c.from_bytes.ensures.back ∙ xor_octets-six c.args.challenge c.to_bytes.result (search rules)
    (ap length c.to_bytes.ensures.octets ∙ length-octets_of c.args.number)
    ∙ ap (xor_octets c.args.challenge) c.to_bytes.ensures.octets

pub returns-clause-value : goal.returns-clause-value
returns-clause-value c = c.from_bytes.ensures.value ∙ ap number_of
    (xor_octets-six c.args.challenge c.to_bytes.result (search rules)
    (ap length c.to_bytes.ensures.octets ∙ length-octets_of c.args.number)
    ∙ ap (xor_octets c.args.challenge) c.to_bytes.ensures.octets)

pub returns-clause-back : goal.returns-clause-back
returns-clause-back c = let six : length c.args.challenge ≡ 6 = search rules in
    ap (xor_octets c.args.challenge) (returns-clause-octets c)
    ∙ xor_octets-twice c.args.challenge _ (six ∙ sym (length-octets_of c.args.number))

pub returns-clause-twice : goal.returns-clause-twice
returns-clause-twice c =
    ap number_of (returns-clause-back c) ∙ sym (ap number_of c.to_bytes.ensures.octets) ∙ c.to_bytes.ensures.back
