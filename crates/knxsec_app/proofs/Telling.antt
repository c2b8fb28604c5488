-- From lines that were passed on, and the end behind them, to the answer of the command.
use Rattle.std.proofs.Common.{ℕ, List, [], ◌++◌, Option, sym, ap, subst, ◌∙◌, append_assoc}
use Rattle.knxsec_app.specs.declared.status.Status.{Status}
use Rattle.knxsec_app.specs.declared.status.Status.TheVariants.{Done}
use Rattle.knxsec_app.specs.Answer.{Answers}
use Rattle.knxsec_app.proofs.Answering.{answers_after}
use Rattle.knxsec_app.proofs.Paging.{Handed}

pub told_behind : (held text end : List ℕ) (status : Status) (old mid new : Option (List ℕ))
    → Handed [] held old mid text
    → Answers (record { report = held ++ end; status = Done }) status mid new
    → Answers (record { report = text ++ end; status = Done }) status old new
told_behind held text end status old mid new passed told =
    subst (λ (r : List ℕ). Answers (record { report = r; status = Done }) status old new)
    (sym (append_assoc passed.0 held end) ∙ ap (λ (front : List ℕ). front ++ end) passed.2)
    (answers_after old mid new passed.0 (record { report = held ++ end; status = Done }) status passed.1 told)
