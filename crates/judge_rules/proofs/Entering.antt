-- From the checks of an entered frame to those of its judgement.
use Rattle.std.proofs.Common.{◌≡◌, ℕ, List, [], ◌∷◌, Option, Some, None, sym, ap, ◌∙◌}
use Rattle.std.specs.Prelude.{if◌then◌else◌}
use Rattle.std.specs.Option.{is_some}
use Rattle.cemi_frames.specs.Frames.{Telegram}
use Rattle.key_tables.specs.declared.types.Channel.{Channel}
use Rattle.key_tables.specs.declared.types.Row.{Row}
use Rattle.judge_rules.specs.declared.verdict.Verdict.{Verdict}
use Rattle.judge_rules.specs.declared.verdict.Verdict.TheVariants as verdict
use Rattle.judge_rules.specs.Parts.{number_in, channel_in}
use Rattle.judge_rules.specs.Checks.{check_pending, lane_checks, entry_checks, first_failing, on_channel, verdict_or, verdict_on, verdict_of, kept_on, kept_by, opened_on, opened_by}
use Rattle.judge_rules.proofs.Failing.{first_failing-after, first_failing-stays}

-- ---- one that has a lane

pub entered_passes : (rows : List Row) (asked : Option (List ℕ)) (t : Telegram)
    → first_failing (lane_checks rows t) ≡ None → check_pending asked t ≡ None
    → first_failing (entry_checks rows asked t) ≡ None
entered_passes rows asked t passes pending =
    first_failing-after (lane_checks rows t) (check_pending asked t ∷ []) passes
    ∙ ap (λ check. first_failing (check ∷ [])) pending

pub verdict_as : (rows : List Row) (mark : ℕ) (asked : Option (List ℕ)) (t : Telegram) (number : ℕ) (c : Channel)
    (said : Verdict)
    → first_failing (entry_checks rows asked t) ≡ None → channel_in rows t ≡ Some c → number ≡ number_in asked t
    → said ≡ verdict_on rows mark number c t → said ≡ verdict_of rows mark asked t
unfolding verdict_of
verdict_as rows mark asked t number c said passes is_channel is_number is =
    is ∙ ap (λ n. verdict_on rows mark n c t) is_number
    ∙ sym (λ i. verdict_or (on_channel verdict.NoKey (is_channel i)
    (λ c. verdict_on rows mark (number_in asked t) c t)) (passes i))

-- ---- one that was refused before

refused_stays : (rows : List Row) (asked : Option (List ℕ)) (t : Telegram) (failed : Verdict)
    → first_failing (lane_checks rows t) ≡ Some failed → first_failing (entry_checks rows asked t) ≡ Some failed
refused_stays rows asked t = first_failing-stays (lane_checks rows t) (check_pending asked t ∷ [])

pub refused_verdict : (rows : List Row) (mark : ℕ) (asked : Option (List ℕ)) (t : Telegram) (failed : Verdict)
    → first_failing (lane_checks rows t) ≡ Some failed → verdict_of rows mark asked t ≡ failed
unfolding verdict_of
refused_verdict rows mark asked t failed is =
    ap (verdict_or (on_channel verdict.NoKey (channel_in rows t) (λ c. verdict_on rows mark (number_in asked t) c t)))
    (refused_stays rows asked t failed is)

pub refused_keeps : (rows : List Row) (mark : ℕ) (asked : Option (List ℕ)) (t : Telegram) (failed : Verdict)
    → first_failing (lane_checks rows t) ≡ Some failed → kept_by rows mark asked t ≡ None
unfolding kept_by
refused_keeps rows mark asked t failed is =
    ap (λ first. if is_some first then None
    else on_channel None (channel_in rows t) (λ c. kept_on rows mark (number_in asked t) c t))
    (refused_stays rows asked t failed is)

pub refused_opened : (rows : List Row) (asked : Option (List ℕ)) (t : Telegram) (failed : Verdict)
    → first_failing (lane_checks rows t) ≡ Some failed → opened_by rows asked t ≡ []
unfolding opened_by
refused_opened rows asked t failed is =
    ap (λ first. if is_some first then []
    else on_channel [] (channel_in rows t) (λ c. opened_on rows (number_in asked t) c t))
    (refused_stays rows asked t failed is)
