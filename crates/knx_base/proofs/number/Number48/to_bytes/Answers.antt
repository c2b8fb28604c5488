use Rattle.std.proofs.Common.{refl, ap, ◌∙◌, arith}
use Rattle.knx_base.specs.Number.{number_of, octets_of}
use Rattle.knx_base.proofs.NumberLemmas.{number_at-octets_of}
use Rattle.knx_base.proofs.number.Number48.to_bytes.Goals as goal

pub returns-clause-octets : goal.returns-clause-octets
unfolding octets_of
returns-clause-octets c = rw (c.to_be_bytes.ensures, ← c.self.view_is) refl

pub returns-clause-back : goal.returns-clause-back
returns-clause-back c =
    ap number_of (returns-clause-octets c) ∙ number_at-octets_of _ (omega (arith, c.self.view_is))
