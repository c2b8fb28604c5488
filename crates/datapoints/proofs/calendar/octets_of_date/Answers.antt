use Rattle.std.proofs.Common.{arith, rules}
use Rattle.std.specs.Prelude.{IsTrue}
use Rattle.datapoints.proofs.FixedTexts.{date_read}
use Rattle.datapoints.proofs.calendar.octets_of_date.Goals as goal

pub returns : goal.returns
returns c =
    let is_date : IsTrue c.is_date.result = search rules in
    date_read c.as_bytes.result.now c.args.text.now c.of.result c.in_ok-century.century c.in_ok-year.year
    c.in_ok-month.month c.in_ok-day.day c.as_bytes.ensures.value (omega arith) (omega arith)
    c.in_ok-century.ensures.1 c.in_ok-year.ensures.1 (omega arith) c.in_ok-month.ensures.1 (omega arith)
    c.in_ok-day.ensures.1 (cc) c.in_ok-year.ensures.0 (c.is_date.ensures.0 is_date) c.of.ensures
