use Rattle.std.proofs.Common.{ap, ◌∙◌, arith, length, sym, Some}
use Rattle.cemi_frames.specs.Frames.{telegram}
use Rattle.secure_apdu.proofs.SecureLemmas.{faultless_length, faultless_sync}
use Rattle.judge_rules.proofs.Judging.{opened_as, opened_verdict, opened_kept}
use Rattle.judge_rules.proofs.entered.Entered.judge_under.Goals as goal

pub judge_opened-requires-clause-two : goal.judge_opened-requires-clause-two
judge_opened-requires-clause-two c =
    omega (arith, ap length c.bytes.ensures.octets, c.in-Ok.ensures.length, faultless_length _ _ c.args.self.now.faultless)

pub judge_opened-requires-clause-six : goal.judge_opened-requires-clause-six
judge_opened-requires-clause-six c =
    λ asks. omega (
      arith,
      ap length c.bytes.ensures.octets,
      c.in-Ok.ensures.length,
      (faultless_sync _ _ c.args.self.now.faultless).0 asks,
    )

pub judge_opened-requires-clause-twelve : goal.judge_opened-requires-clause-twelve
judge_opened-requires-clause-twelve c =
    λ not_data not_ask. omega (
      arith,
      ap length c.bytes.ensures.octets,
      c.in-Ok.ensures.length,
      (faultless_sync _ _ c.args.self.now.faultless).1 not_data not_ask,
    )

pub returns-in-Ok-clause-verdict : goal.returns-in-Ok-clause-verdict
returns-in-Ok-clause-verdict c =
    let said = opened_as _ _ _ (telegram c.args.self.now.frame) _ _ _ _ _ c.args.self.now.keyed c.args.self.now.parts
    (c.in-Ok.ensures.answer ∙ ap Some (sym c.bytes.ensures.octets)) in
    opened_verdict c.args.self.now.tables.now c.args.kept c.args.number c.args.self.now.channel
    (telegram c.args.self.now.frame) c.bytes.result.now
    c.judge_opened.result.verdict said (λ failed is. (c.judge_opened.ensures.refused failed is).0)
    (λ is. (c.judge_opened.ensures.passed is).0)

pub returns-in-Ok-clause-keeps : goal.returns-in-Ok-clause-keeps
returns-in-Ok-clause-keeps c =
    let said = opened_as _ _ _ (telegram c.args.self.now.frame) _ _ _ _ _ c.args.self.now.keyed c.args.self.now.parts
    (c.in-Ok.ensures.answer ∙ ap Some (sym c.bytes.ensures.octets)) in
    opened_kept c.args.self.now.tables.now c.args.kept c.args.number c.args.self.now.channel
    (telegram c.args.self.now.frame) c.bytes.result.now
    c.judge_opened.result.keeps said (λ failed is. (c.judge_opened.ensures.refused failed is).1)
    (λ is. (c.judge_opened.ensures.passed is).1)

pub returns-in-Ok-clause-two : goal.returns-in-Ok-clause-two
returns-in-Ok-clause-two c = λ good. omega (arith, c.in-Ok.ensures.length, faultless_length _ _ c.args.self.now.faultless)
