-- Statement: what opening a frame under a key answers: the first check that fails, or the APDU.
use Rattle.std.specs.Prelude.{ℕ, List, [], ◌∷◌, ◌++◌, Option, None, option_map}
use Rattle.cemi_frames.specs.Frames.{Telegram}
use Rattle.cemi_frames.specs.Faults.{frame_fault}
use Rattle.cemi_frames.specs.Reading.{frame_at}
use Rattle.judge_rules.specs.declared.verdict.Verdict.{Verdict}
use Rattle.judge_rules.specs.declared.verdict.Verdict.TheVariants as verdict
use Rattle.judge_rules.specs.Parts.{shown_in}
use Rattle.judge_rules.specs.Checks.{secure_checks, check_pending, check_code, apdu_in, first_failing}

abbrev pub check_frame : List ℕ → Option Verdict
check_frame octets = option_map verdict.NotFrame (frame_fault octets)

-- under the number that the frame shows, and nobody asked for a synchronisation
abbrev pub telegram_checks : List ℕ → Telegram → List (Option Verdict)
telegram_checks key telegram =
    secure_checks telegram ++ check_pending None telegram ∷ check_code key (shown_in telegram) telegram ∷ []

-- the verdict on octets that do not open
unfoldable pub refusal_of : List ℕ → List ℕ → Option Verdict
refusal_of key octets = first_failing (check_frame octets ∷ telegram_checks key (frame_at octets))

-- the APDU of octets that open
unfoldable pub apdu_of : List ℕ → List ℕ → List ℕ
apdu_of key octets = apdu_in key (shown_in (frame_at octets)) (frame_at octets)
