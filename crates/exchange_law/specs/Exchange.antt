-- What the judgement says of the two telegrams of a synchronisation. This is statement.
use Rattle.std.specs.Prelude.{◌≡◌, ℕ, ◌⊎◌, List, false, true, Option, Some}
use Rattle.knx_base.specs.declared.address.IndAddr.{IndAddr}
use Rattle.cemi_frames.specs.Frames.{Telegram}
use Rattle.cemi_frames.specs.Reading.{frame_at}
use Rattle.key_tables.specs.declared.types.Channel.{Channel}
use Rattle.key_tables.specs.declared.types.Row.{Row}
use Rattle.key_tables.specs.Rows.{key_of}
use Rattle.judge_rules.specs.declared.verdict.Verdict.{Verdict}
use Rattle.judge_rules.specs.declared.verdict.Verdict.TheVariants as verdict
use Rattle.judge_rules.specs.Parts.{is_group, has_tool_access, source_of, channel_in}
use Rattle.judge_rules.specs.Checks.{verdict_of}
use Rattle.sync_service.specs.Frames.{ask_frame, answer_frame}

-- ---- how they are read

-- a telegram from this device to that one, with tool access
pub record IsBetween (source destination : IndAddr) (t : Telegram) : Type 0 where
  pub source_is : source_of t ≡ source
  pub destination_is : t.destination ≡ destination.0
  pub device : is_group t ≡ false
  pub tool : has_tool_access t ≡ true

pub record AreBetween (key : List ℕ) (source destination : IndAddr) (number : ℕ) (challenge : List ℕ) (kept : ℕ)
    : Type 0 where
  pub request : IsBetween source destination (frame_at (ask_frame key source destination number challenge))
  pub answer : IsBetween source destination (frame_at (answer_frame key source destination number challenge kept))

-- ---- how they are judged

-- this verdict, unless the sender may not send or the receiver is not on the channel
abbrev pub OrSender : Verdict → Verdict → Type 0
OrSender good said = (said ≡ good) ⊎ (said ≡ verdict.Sender)

-- The channel of the telegram that these octets are has this key.
pub record IsUnder (rows : List Row) (key octets : List ℕ) : Type 0 where
  pub channel : Channel
  pub channel_is : channel_in rows (frame_at octets) ≡ Some channel
  pub key_is : key_of rows channel ≡ Some key

-- A request is one, whatever was kept and whoever asks.
abbrev pub RequestIsJudged : List ℕ → IndAddr → IndAddr → ℕ → List ℕ → Type 0
RequestIsJudged key source destination number challenge =
    (rows : List Row) (mark : ℕ) (asked : Option (List ℕ))
    → (let octets = ask_frame key source destination number challenge in
    IsUnder rows key octets
    → OrSender (verdict.SyncAsk number challenge) (verdict_of rows mark asked (frame_at octets)))

-- An answer is one under the challenge that it answers, whatever was kept.
abbrev pub AnswerIsJudged : List ℕ → IndAddr → IndAddr → ℕ → List ℕ → ℕ → Type 0
AnswerIsJudged key source destination number challenge kept =
    (rows : List Row) (mark : ℕ)
    → (let octets = answer_frame key source destination number challenge kept in
    IsUnder rows key octets
    → OrSender (verdict.SyncAnswer number kept) (verdict_of rows mark (Some challenge) (frame_at octets)))
