-- From what was printed to the answer of a command.
use Rattle.std.proofs.Common.{◌≡◌, ℕ, ◌==◌, Bool, true, false, List, [], ◌++◌, length, take, Option, Some, Result, Ok, Err, refl, sym, ap, subst, ◌∙◌, append-nil, ◌⊎◌, inl, inr}
use Rattle.std.specs.Prelude.{MatchResult, if◌then◌else◌}
use Rattle.std.specs.Result.{IsErr}
use Rattle.std.specs.Io.KnownBytes.{append_known}
use Rattle.std.proofs.Math.Seq.{take-append_seam}
use Rattle.knx_base.specs.Faults.{HasCause, Rose}
use Rattle.knx_base.specs.Sink.{AppendsPrefix, Prints}
use Rattle.knx_base.proofs.Printing.{append_known-append, prints_then, prints_no_more}
use Rattle.audit_core.specs.Audit.{Total}
use Rattle.knxsec_app.specs.declared.status.Status.{Status}
use Rattle.knxsec_app.specs.declared.status.Status.TheVariants.{Done, Alarm, Usage, Refused, ReadFault, WriteFault, NoMemory}
use Rattle.knxsec_app.specs.Answer.{Answer, Answers, IsOfAnswer, after}
use Rattle.knxsec_app.specs.Auditing.{total_status}
use Rattle.knxsec_app.specs.Page.{Passes}

-- ---- reports

answers_whole : (old new : Option (List ℕ)) (text : List ℕ) (status : Status) → IsOfAnswer status
    → new ≡ append_known old text
    → Answers (record { report = text; status = status }) status old new
answers_whole old new text Done of_answer printed = (refl, printed)
answers_whole old new text Alarm of_answer printed = (refl, printed)
answers_whole old new text Usage of_answer printed = (refl, printed)
answers_whole old new text Refused of_answer printed = (refl, printed)
answers_whole old new text ReadFault of_answer printed = absurd of_answer
answers_whole old new text WriteFault of_answer printed = absurd of_answer
answers_whole old new text NoMemory of_answer printed = absurd of_answer

-- a report was printed, or the sink failed
pub ended_answers : {T E : Type 0} (printed : Result T E) (old new : Option (List ℕ)) (text : List ℕ)
    (status ended : Status) → IsOfAnswer status
    → Prints old new printed text → MatchResult printed (λ _. ended ≡ status) (λ _. ended ≡ WriteFault)
    → Answers (record { report = text; status = status }) ended old new
ended_answers (Ok x) old new text status ended of_answer prints ends =
    subst (λ e. Answers (record { report = text; status = status }) e old new) (sym ends)
    (answers_whole old new text status of_answer prints)
ended_answers (Err e) old new text status ended of_answer prints ends =
    subst (λ e. Answers (record { report = text; status = status }) e old new) (sym ends) prints

pub total_status-of_answer : (total : Total) → IsOfAnswer (total_status total)
total_status-of_answer total = either (total.alarms == 0) where
  either : (none : Bool) → IsOfAnswer (if none then Done else Alarm)
  either true = tt
  either false = tt

pub prefix_more : (old new : Option (List ℕ)) (front back : List ℕ) → AppendsPrefix old new front
    → AppendsPrefix old new (front ++ back)
prefix_more old new front back begun =
    prints_no_more {T = Unit {0}} {E = Unit {0}} old new (Err tt) front back refl begun

-- what was written is of an answer that has more before it
pub answers_after : (old mid new : Option (List ℕ)) (front : List ℕ) (answer : Answer) (status : Status)
    → mid ≡ append_known old front
    → Answers answer status mid new → Answers (after front answer) status old new
answers_after old mid new front answer status before = by_status status where
  whole : new ≡ append_known mid answer.report → new ≡ append_known old (front ++ answer.report)
  whole printed =
      printed ∙ ap (λ known. append_known known answer.report) before ∙ append_known-append old front answer.report

  part : AppendsPrefix mid new answer.report → AppendsPrefix old new (front ++ answer.report)
  part begun = prints_then {T = Unit {0}} {E = Unit {0}} old mid new (Err tt) front answer.report before begun

  by_status : (status : Status) → Answers answer status mid new → Answers (after front answer) status old new
  by_status Done said = (said.0, whole said.1)
  by_status Alarm said = (said.0, whole said.1)
  by_status Usage said = (said.0, whole said.1)
  by_status Refused said = (said.0, whole said.1)
  by_status ReadFault said = part said
  by_status WriteFault said = part said
  by_status NoMemory said = part said

-- ---- the page

-- what was printed in part is cut off again
pub cut_back : (held later text : List ℕ) (len : ℕ) (cut : List ℕ) → AppendsPrefix (Some held) (Some later) text
    → len ≡ length held → cut ≡ take len later → cut ≡ held
cut_back held later text len cut begun is_len is_cut =
    is_cut ∙ (λ i. take (is_len i) (unwrapped i)) ∙ take-append_seam held begun.0 where
      unwrapped : later ≡ held ++ begun.0
      unwrapped = cc begun.2

-- all that waited went on, and then the text
pub passes_through : {T E : Type 0} (old mid new : Option (List ℕ)) (result : Result T E) (held kept text : List ℕ)
    → mid ≡ append_known old held → kept ≡ []
    → Prints mid new result text → Passes held kept old new result text
passes_through {T} {E} old mid new (Ok x) held kept text handed empty prints = (
  held ++ text,
  prints_then {T = T} {E = E} old mid new (Ok x) held text handed prints,
  ap (λ rest. (held ++ text) ++ rest) empty ∙ append-nil (held ++ text),
)
passes_through {T} {E} old mid new (Err e) held kept text handed empty prints =
    prints_then {T = T} {E = E} old mid new (Err e) held text handed prints

-- what waited went on in part
pub fails_through : {T E : Type 0} (result : Result T E) (old new : Option (List ℕ)) (held kept text : List ℕ)
    → IsErr result → AppendsPrefix old new held
    → Passes held kept old new result text
fails_through (Ok x) old new held kept text failed begun = absurd cc
fails_through (Err e) old new held kept text failed begun = prefix_more old new held text begun

-- all that waited went on, or the sink counted a fault
pub handed_or_rose : {T E : Type 0} (result : Result T E) (old new : Option (List ℕ)) (held : List ℕ) (before now : ℕ)
    → Prints old new result held → HasCause before now result
    → (new ≡ append_known old held) ⊎ Rose before now
handed_or_rose (Ok x) old new held before now printed cause = inl printed
handed_or_rose (Err e) old new held before now printed cause = inr cause.failed
