-- From a call for a value, which may stop, to the answer of the command.
use Rattle.std.proofs.Common.{◌≡◌, inl, inr, ℕ, List, [], Option, Result, Err, refl, sym, subst, ◌∙◌}
use Rattle.knx_base.proofs.Printing.{append_known-nil}
use Rattle.knxsec_app.specs.declared.status.Status.{Status}
use Rattle.knxsec_app.specs.declared.status.Status.TheVariants.{Done, Alarm, Usage, Refused, ReadFault, WriteFault, NoMemory}
use Rattle.knxsec_app.specs.Answer.{Answer, Answers, answer_from}
use Rattle.knxsec_app.specs.Commands.{IsServed}
use Rattle.knxsec_app.specs.Ends.{Stops}

-- what was not written is a prefix of every report
pub nothing_written : (answer : Answer) (status : Status) (old new : Option (List ℕ)) → (IsServed status → ⊥)
    → new ≡ old
    → Answers answer status old new
nothing_written answer Done old new cut same = elim (cut tt) [ ]
nothing_written answer Alarm old new cut same = elim (cut tt) [ ]
nothing_written answer Usage old new cut same = elim (cut tt) [ ]
nothing_written answer Refused old new cut same = elim (cut tt) [ ]
nothing_written answer ReadFault old new cut same = ([], (answer.report, refl), same ∙ sym (append_known-nil old))
nothing_written answer WriteFault old new cut same = elim (cut tt) [ ]
nothing_written answer NoMemory old new cut same = ([], (answer.report, refl), same ∙ sym (append_known-nil old))

-- where a call stopped its status is that of the command
pub stops_command : {A : Type 0} (expected : Result A Answer) (next : A → Answer) (status : Status)
    (old new : Option (List ℕ)) → Stops expected status old new
    → Answers (answer_from expected next) status old new
stops_command expected next status old new (inl nothing) =
    nothing_written (answer_from expected next) status old new nothing.0 nothing.1
stops_command expected next status old new (inr told) =
    subst (λ e. Answers (answer_from e next) status old new) (sym told.1) told.2

-- a refusal was told
pub refusal_told : {A : Type 0} (expected : Result A Answer) (refusal : Answer) (status : Status)
    (old new : Option (List ℕ)) → expected ≡ Err refusal
    → Answers refusal status old new → Stops expected status old new
refusal_told expected refusal status old new is told = inr (refusal, is, told)
