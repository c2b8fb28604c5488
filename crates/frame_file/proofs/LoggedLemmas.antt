-- How the records of a log are given.
use Rattle.std.proofs.Common.{◌≡◌, ℕ, ◌+◌, ◌≤◌, List, length, Result, Ok, Err, refl, sym, ap, subst, ◌∙◌, arith}
use Rattle.std.specs.Prelude.{IfSome}
use Rattle.knx_base.specs.Files.{Seen}
use Rattle.text_lines.specs.Reading.{GoesOn, ahead}
use Rattle.text_lines.proofs.Readers.{stays}
use Rattle.frame_file.specs.declared.fault.RecordFault.{RecordFault}
use Rattle.frame_file.specs.declared.reader.Step.{Step}
use Rattle.frame_file.specs.declared.reader.Step.TheVariants as step
use Rattle.frame_file.specs.declared.stage.Stage.{Stage}
use Rattle.frame_file.specs.declared.stage.Stage.TheVariants as stage
use Rattle.frame_file.specs.Lists.{RecordList, IsOfText, no_records, with_record}
use Rattle.frame_file.specs.Logs.{most_logged}
use Rattle.frame_file.specs.Reader.{ReaderState, IsAt, IsAtStage, GivesRecord, FindsEnd, Steps, left, left_ahead, least_taken, most_given}
use Rattle.frame_file.specs.Stages.{IfLog, IsStageLog, GivesNext}
use Rattle.frame_file.proofs.BeginLemmas.{refuses}

pub log_gives : (seen : Seen) (old new : ReaderState) (list : RecordList) (said : Result Step RecordFault)
    → IsAt seen old → old.stage ≡ stage.Log list → IfLog old.stage (λ list. GivesNext list old new said)
    → Steps seen seen old new said
log_gives seen old new list said at stage_is gives =
    by said (subst (λ s. IfLog s (λ list. GivesNext list old new said)) stage_is gives) where
      here : IsAtStage seen old (stage.Log list)
      here = subst (λ s. IsAtStage seen old s) stage_is at.stage

      went : new.held ≡ old.held → GoesOn seen seen old.held new.held (least_taken old.stage)
      went held = subst (λ h. GoesOn seen seen old.held h (least_taken old.stage)) (sym held)
          (subst (λ n. GoesOn seen seen old.held old.held n) (sym (ap least_taken stage_is)) (stays seen old.held))

      left_old : (octets : List ℕ) → left seen old octets ≡ list
      left_old octets = ap (λ s. left_ahead s old (ahead seen old.held octets)) stage_is

      left_new : (rest : RecordList) (octets : List ℕ) → new.stage ≡ stage.Log rest → left seen new octets ≡ rest
      left_new rest octets is = ap (λ s. left_ahead s new (ahead seen new.held octets)) is

      at_rest : (rest : RecordList) → new.stage ≡ stage.Log rest → new.held ≡ old.held → new.lines ≡ old.lines
          → new.given + length rest.records ≤ most_logged → rest.refused ≡ list.refused → IsAt seen new
      at_rest rest is held lines few refused = record {
        current = at.current;
        counted = omega (arith, at.counted, lines, ap length held);
        last = at.last;
        stage = subst (λ s. IsAtStage seen new s) (sym is) (
          few,
          subst (λ o. IfSome o IsOfText) (sym refused) here.1,
          here.2,
        );
      }

      given : (s : Stage) → new.stage ≡ s → IsStageLog s → IfLog s (λ rest. list ≡ with_record new.record_ rest)
          → new.given ≡ old.given + 1 → new.held ≡ old.held → new.lines ≡ old.lines → GivesRecord seen seen old new
      given stage.Start is log says counted held lines = elim log [ ]
      given stage.Lines is log says counted held lines = elim log [ ]
      given (stage.Log rest) is log says counted held lines =
          let one : length list.records ≡ length rest.records + 1 =
          omega (arith, ap (λ (l : RecordList). length l.records) says) in
          record {
            goes = went held;
            at = at_rest rest is held lines (omega (arith, one, counted, here.0))
                (sym (ap (λ (l : RecordList). l.refused) says));
            counted = counted;
            few = omega (arith, ap most_given is, one, counted, here.0);
            left_is = λ octets has. left_old octets ∙ says
                ∙ ap (with_record new.record_) (sym (left_new rest octets is));
          }

      ended : (s : Stage) → new.stage ≡ s → IsStageLog s → IfLog s (λ rest. (list ≡ no_records) × (rest ≡ no_records))
          → new.given ≡ old.given → new.held ≡ old.held → new.lines ≡ old.lines → FindsEnd seen seen old new
      ended stage.Start is log says counted held lines = elim log [ ]
      ended stage.Lines is log says counted held lines = elim log [ ]
      ended (stage.Log rest) is log says counted held lines = record {
        goes = subst (λ n. GoesOn seen seen old.held new.held n) (ap least_taken stage_is) (went held);
        at = at_rest rest is held lines (omega (
          arith,
          counted,
          here.0,
          ap (λ (l : RecordList). length l.records) says.1,
        ))
            (ap (λ (l : RecordList). l.refused) (says.1 ∙ sym says.0));
        counted = counted;
        none_left = λ octets has. (left_old octets ∙ says.0, left_new rest octets is ∙ says.1);
        whole = here.2;
      }

      by : (said : Result Step RecordFault) → GivesNext list old new said → Steps seen seen old new said
      by (Ok step.Given) (counted, held, lines, says, log) = given new.stage refl log says counted held lines
      by (Ok step.Skipped) gives = elim gives [ ]
      by (Ok step.End) (counted, held, lines, says, log) = ended new.stage refl log says counted held lines
      by (Err why) (counted, held, says) =
          let text : IsOfText why = subst (λ o. IfSome o IsOfText) (ap (λ (l : RecordList). l.refused) says) here.1 in (
            refuses seen seen old why text (λ octets has. left_old octets ∙ says),
            record {
              told = refl;
              counted = counted;
              others = record { opened = refl; places = λ other not_current. refl };
              goes = λ other. went held;
            },
          )
