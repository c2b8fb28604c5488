-- Statement: the report and the status of a command, and how what was written is of them.
use Rattle.std.specs.Prelude.{◌≡◌, ℕ, List, ◌++◌, Option, Result, Ok, Err}
use Rattle.std.specs.Io.KnownBytes.{append_known}
use Rattle.knx_base.specs.Sink.{AppendsPrefix}
use Rattle.knxsec_app.specs.declared.status.Status.{Status}
use Rattle.knxsec_app.specs.declared.status.Status.TheVariants.{Done, Alarm, Usage, Refused, ReadFault, WriteFault, NoMemory}

pub record Answer : Type 0 where
  pub report : List ℕ
  pub status : Status

-- an answer with a text before its report
abbrev pub after : List ℕ → Answer → Answer
after text answer = record { report = text ++ answer.report; status = answer.status }

-- what follows a value, unless a refusal stands in its place
infixl 10 ◌>>=◌
abbrev pub ◌>>=◌ : {A B : Type 0} → Result A Answer → (A → Result B Answer) → Result B Answer
Ok value >>= next = next value
Err refusal >>= next = Err refusal

-- the answer that follows a value, or the refusal in its place
abbrev pub answer_from : {A : Type 0} → Result A Answer → (A → Answer) → Answer
answer_from (Ok value) next = next value
answer_from (Err refusal) next = refusal

-- what was written, and the status, are of this answer: the whole report, or after a fault a prefix of it
abbrev pub Answers : Answer → Status → Option (List ℕ) → Option (List ℕ) → Type 0
Answers answer Done old new = (answer.status ≡ Done) × (new ≡ append_known old answer.report)
Answers answer Alarm old new = (answer.status ≡ Alarm) × (new ≡ append_known old answer.report)
Answers answer Usage old new = (answer.status ≡ Usage) × (new ≡ append_known old answer.report)
Answers answer Refused old new = (answer.status ≡ Refused) × (new ≡ append_known old answer.report)
Answers answer ReadFault old new = AppendsPrefix old new answer.report
Answers answer WriteFault old new = AppendsPrefix old new answer.report
Answers answer NoMemory old new = AppendsPrefix old new answer.report

-- a status with which the whole report stands
abbrev pub IsOfAnswer : Status → Type 0
IsOfAnswer Done = Unit {0}
IsOfAnswer Alarm = Unit {0}
IsOfAnswer Usage = Unit {0}
IsOfAnswer Refused = Unit {0}
IsOfAnswer ReadFault = ⊥
IsOfAnswer WriteFault = ⊥
IsOfAnswer NoMemory = ⊥
