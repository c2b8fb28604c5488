-- How the reading of a file begins.
use Rattle.std.proofs.Common.{◌≡◌, ◌≢◌, ℕ, ◌+◌, ◌≤◌, true, List, [], ◌∷◌, ◌++◌, length, drop, IsSome, Option, Some, Result, Ok, Err, refl, sym, ap, subst, ◌∙◌, arith}
use Rattle.std.specs.Prelude.{IfOk}
use Rattle.std.specs.Str.Lines.{lines}
use Rattle.std.specs.Option.{IsSomeAnd}
use Rattle.knx_base.specs.Faults.{Rose}
use Rattle.knx_base.specs.Files.{File, Seen, Holds, last_place, octets_named}
use Rattle.text_lines.specs.Reading.{WhereTold, CurrentHas, GoesOn, OthersStay, ahead}
use Rattle.text_lines.proofs.Readers.{takes_less, goes_then, others_then, has_same}
use Rattle.tag_text.specs.declared.tag.TagFault.TheVariants as tag
use Rattle.frame_file.specs.declared.fault.RecordFault.{RecordFault}
use Rattle.frame_file.specs.declared.fault.RecordFault.TheVariants as fault
use Rattle.frame_file.specs.declared.lead.LeadStep.{LeadStep}
use Rattle.frame_file.specs.declared.lead.LeadStep.TheVariants as shown
use Rattle.frame_file.specs.declared.reader.Step.{Step}
use Rattle.frame_file.specs.declared.reader.Step.TheVariants as step
use Rattle.frame_file.specs.declared.stage.Stage.{Stage}
use Rattle.frame_file.specs.declared.stage.Stage.TheVariants as stage
use Rattle.frame_file.specs.Lists.{RecordList, IsOfText, untimed, refused_by, with_record}
use Rattle.frame_file.specs.Logs.{is_log}
use Rattle.frame_file.specs.Records.{records_from, records_of}
use Rattle.frame_file.specs.Lead.{LeadState, LeadIs, ReadsFront, may_begin}
use Rattle.frame_file.specs.LogReads.{LogIs, ReadsLog}
use Rattle.frame_file.specs.Reader.{ReaderState, IsAt, IsAtStage, SkipsLine, Refuses, Leaves, Steps, left, left_ahead, least_taken, most_given}
use Rattle.frame_file.specs.Stages.{IsStageLog, log_in, step_of, given_at_first}
use Rattle.frame_file.proofs.MarginLemmas.{log_begins}
use Rattle.frame_file.proofs.LeadLemmas.{is_log_of}

-- ---- what was left at the start

left_first : (seen : Seen) (old : ReaderState) (octets : List ℕ) → old.stage ≡ stage.Start → old.held ≡ []
    → left seen old octets ≡ records_of (drop seen.place octets)
left_first seen old octets start nothing =
    ap (λ s. left_ahead s old (ahead seen old.held octets)) start
    ∙ ap (λ held. records_of (held ++ drop seen.place octets)) nothing

-- the file is refused
pub refuses : (seen later : Seen) (old : ReaderState) (why : RecordFault) → IsOfText why
    → WhereTold seen (λ octets. left seen old octets ≡ refused_by why) → Refuses seen later old why
refuses seen later old (fault.Line number cause) text is = is
refuses seen later old (fault.LongLine number) text is = is
refuses seen later old (fault.TooMany number) text is = is
refuses seen later old fault.LongFile text is = is
refuses seen later old (fault.Tag (tag.Bad place)) text is = is
refuses seen later old (fault.Tag (tag.Utf8 place)) text is = is
refuses seen later old (fault.Tag (tag.Deep place)) text is = is
refuses seen later old (fault.Tag tag.NoMemory) text is = elim text [ ]
refuses seen later old (fault.Missing field place) text is = is
refuses seen later old (fault.Time place) text is = is
refuses seen later old (fault.Digits place) text is = is
refuses seen later old fault.ReadFault text is = elim text [ ]
refuses seen later old fault.NoMemory text is = elim text [ ]

-- ---- a list was begun

-- what is the same at the beginning of each list
pub record Begun (seen later : Seen) (kept : List ℕ) (count : ℕ) (old new : ReaderState) : Type 0 where
  pub current : IsSome seen.current
  pub last : seen.place ≤ last_place
  pub start : old.stage ≡ stage.Start
  pub given : old.given ≡ 0
  pub nothing : old.held ≡ []
  pub stage : new.stage ≡ stage.Lines
  pub lines : new.lines ≡ count
  pub held : new.held ≡ kept
  pub told : later.told ≡ seen.told
  pub others : OthersStay seen later

begun_goes : (seen later : Seen) (held : List ℕ) (count n m : ℕ) (old new : ReaderState)
    → Begun seen later held count old new → m ≤ n → GoesOn seen later [] held n
    → GoesOn seen later old.held new.held m
begun_goes seen later held count n m old new begun less goes =
    subst (λ h. GoesOn seen later h new.held m) (sym begun.nothing)
    (subst (λ h. GoesOn seen later [] h m) (sym begun.held)
    (takes_less seen later [] held held n m (omega (arith, less)) goes))

begun_at : (seen later : Seen) (held : List ℕ) (count : ℕ) (old new : ReaderState)
    → Begun seen later held count old new → GoesOn seen later [] held count → IsAt later new
begun_at seen later held count old new begun goes = record {
  current = subst (λ (o : Option (List ℕ)). IsSome o) (sym goes.current) begun.current;
  counted = omega (arith, goes.taken, begun.lines, ap length begun.held);
  last = goes.last begun.last;
  stage = subst (λ s. IsAtStage later new s) (sym begun.stage) tt;
}

left_listed : (later : Seen) (new : ReaderState) (held : List ℕ) (count given : ℕ) (octets : List ℕ)
    → new.stage ≡ stage.Lines → new.lines ≡ count → new.given ≡ given → new.held ≡ held
    → left later new octets ≡ records_from count given (lines (ahead later held octets))
left_listed later new held count given octets stage_is lines_are given_is held_is =
    ap (λ s. left_ahead s new (ahead later new.held octets)) stage_is
    ∙ (λ i. records_from (lines_are i) (given_is i) (lines (ahead later (held_is i) octets)))

pub list_begun : (seen later : Seen) (held octets : List ℕ) (lead : LeadState) (old new : ReaderState)
    (said : Result LeadStep RecordFault) → Begun seen later held lead.lines old new
    → new.given ≡ given_at_first said → new.record_ ≡ untimed octets → said ≢ Ok shown.Log
    → ReadsFront seen later held lead octets said → Steps seen later old new (step_of said)
list_begun seen later held octets lead old new (Ok shown.More) begun given entry listed reads = elim reads [ ]
list_begun seen later held octets lead old new (Ok shown.Log) begun given entry listed reads = elim (listed refl) [ ]
list_begun seen later held octets lead old new (Ok shown.Given) begun given entry listed reads = record {
  goes = subst (λ n. GoesOn seen later old.held new.held n) (sym (ap least_taken begun.start))
      (begun_goes seen later held lead.lines lead.lines 1 old new begun reads.1 reads.0);
  at = begun_at seen later held lead.lines old new begun reads.0;
  counted = given ∙ sym (ap (λ n. n + 1) begun.given);
  few = omega (arith, given, ap most_given begun.stage);
  left_is = λ all has. left_first seen old all begun.start begun.nothing ∙ reads.2 all has
      ∙ (λ i. with_record (sym entry i)
      (sym (left_listed later new held lead.lines 1 all begun.stage begun.lines given begun.held) i));
}
list_begun seen later held octets lead old new (Ok shown.Skipped) begun given entry listed reads = record {
  goes = begun_goes seen later held lead.lines lead.lines 1 old new begun reads.1 reads.0;
  at = begun_at seen later held lead.lines old new begun reads.0;
  known = λ e. absurd (cc (sym begun.stage ∙ e));
  counted = given ∙ sym begun.given;
  left_is = λ all has. left_first seen old all begun.start begun.nothing ∙ reads.2 all has
      ∙ sym (left_listed later new held lead.lines 0 all begun.stage begun.lines given begun.held);
}
list_begun seen later held octets lead old new (Ok shown.End) begun given entry listed reads = record {
  goes = begun_goes seen later held lead.lines lead.lines 0 old new begun (omega arith) reads.0;
  at = begun_at seen later held lead.lines old new begun reads.0;
  counted = given ∙ sym begun.given;
  none_left = λ all has. (
    left_first seen old all begun.start begun.nothing ∙ (reads.2 all has).0,
    left_listed later new held lead.lines 0 all begun.stage begun.lines given begun.held
        ∙ (λ i. records_from lead.lines 0 (lines (reads.1 i ++ (reads.2 all has).1 i))),
  );
  whole = λ all has. (reads.2 all has).1;
}
list_begun seen later held octets lead old new (Err why) begun given entry listed reads = by why reads where
  leaves : (why : RecordFault) → (why ≢ fault.ReadFault → GoesOn seen later [] held 1) → Leaves seen later old new why
  leaves why goes = record {
    told = begun.told;
    others = begun.others;
    counted = given ∙ sym begun.given;
    goes = λ other. subst (λ n. GoesOn seen later old.held new.held n) (sym (ap least_taken begun.start))
        (begun_goes seen later held lead.lines 1 1 old new begun (omega arith) (goes other));
  }

  list : (why : RecordFault) → GoesOn seen later [] held 1 × IsOfText why
      × WhereTold seen (λ all. records_of (drop seen.place all) ≡ refused_by why)
      → Refuses seen later old why × Leaves seen later old new why
  list why reads = (
    refuses seen later old why reads.1
        (λ all has. left_first seen old all begun.start begun.nothing ∙ reads.2 all has),
    leaves why (λ other. reads.0),
  )

  by : (why : RecordFault) → ReadsFront seen later held lead octets (Err why)
      → Refuses seen later old why × Leaves seen later old new why
  by fault.ReadFault reads = (reads, leaves fault.ReadFault (λ other. absurd (other refl)))
  by (fault.Line number cause) reads = list (fault.Line number cause) reads
  by (fault.LongLine number) reads = list (fault.LongLine number) reads
  by (fault.TooMany number) reads = list (fault.TooMany number) reads
  by fault.LongFile reads = list fault.LongFile reads
  by (fault.Tag why) reads = list (fault.Tag why) reads
  by (fault.Missing field place) reads = list (fault.Missing field place) reads
  by (fault.Time place) reads = list (fault.Time place) reads
  by (fault.Digits place) reads = list (fault.Digits place) reads
  by fault.NoMemory reads = list fault.NoMemory reads

-- ---- a log was read

-- what is told of the current file at one moment was told before
has_before : (old new : Seen) (held kept : List ℕ) (n : ℕ) → GoesOn old new held kept n → (octets : List ℕ)
    → CurrentHas new octets → CurrentHas old octets
has_before old new held kept n goes octets has =
    let by_current : IsSomeAnd old.current (λ name. Holds new name octets) =
    subst (λ (o : Option (List ℕ)). IsSomeAnd o (λ name. Holds new name octets)) goes.current has in
    subst (λ (told : Option (List File)). IsSomeAnd old.current
    (λ name. IsSomeAnd told (λ files. octets_named files name ≡ Some octets))) goes.told by_current

-- the list of the log whose first `<` was taken
log_list : (seen mid : Seen) (held : List ℕ) (lead : LeadState) (list : RecordList) (octets : List ℕ)
    → may_begin lead.margin ≡ true → (front : List ℕ) → LeadIs lead front
    → drop seen.place octets ≡ front ++ 60 ∷ ahead mid held octets → LogIs mid held lead list octets
    → records_of (drop seen.place octets) ≡ list
log_list seen mid held lead list octets may front is whole says =
    ap records_of whole
    ∙ is_log_of _ (log_begins lead.margin front (ahead mid held octets) is.margin may) ∙ says front is may

pub log_begun : (seen mid later : Seen) (held octets : List ℕ) (lead : LeadState) (old new : ReaderState)
    (said : Result Step RecordFault) → IsAt seen old → old.stage ≡ stage.Start
    → new.lines ≡ old.lines → new.given ≡ old.given
    → ReadsFront seen mid held lead octets (Ok shown.Log)
    → IfOk said (λ found. (found ≡ step.Skipped) × IsStageLog new.stage)
    → ReadsLog mid later held new.held lead (log_in new.stage said) → Steps seen later old new said
log_begun seen mid later held octets lead old new said at start lines_are given_is (goes, may, (front, is, whole)) log
    reads =
    by said log reads where
      first : (old.given ≡ 0) × (old.held ≡ [])
      first = subst (λ s. IsAtStage seen old s) start at.stage

      went : GoesOn mid later held new.held 0 → GoesOn seen later old.held new.held 1
      went on = subst (λ h. GoesOn seen later h new.held 1) (sym first.1)
          (goes_then seen mid later [] held new.held 1 0 goes on)

      list_is : (list : RecordList) → WhereTold mid (λ all. LogIs mid held lead list all)
          → WhereTold seen (λ all. left seen old all ≡ list)
      list_is list says = λ all has. left_first seen old all start first.1
          ∙ log_list seen mid held lead list all may front is (whole all has)
          (says all (has_same seen mid [] held 1 goes all has))

      begun : (s : Stage) → new.stage ≡ s → IsStageLog s
          → ReadsLog mid later held new.held lead (log_in s (Ok step.Skipped))
          → SkipsLine seen later old new
      begun stage.Start stage_is log reads = elim log [ ]
      begun stage.Lines stage_is log reads = elim log [ ]
      begun (stage.Log list) stage_is log (on, none, few, text, says) = record {
        known = λ e. absurd (cc (sym stage_is ∙ e));
        goes = went on;
        at = record {
          current = subst (λ (o : Option (List ℕ)). IsSome o) (sym (went on).current) at.current;
          counted = omega (arith, lines_are, ap length none, ap length first.1, at.counted, (went on).forward);
          last = (went on).last at.last;
          stage = subst (λ s. IsAtStage later new s) (sym stage_is) (
            omega (arith, few, given_is, first.0),
            text,
            λ all has. (says all (has_before mid later held new.held 0 on all has)).0,
          );
        };
        counted = given_is;
        left_is = λ all has. list_is list (λ all has. (says all has).1) all has
            ∙ sym (ap (λ s. left_ahead s new (ahead later new.held all)) stage_is);
      }

      leaves : (why : RecordFault) → later.told ≡ seen.told → OthersStay seen later
          → (why ≢ fault.ReadFault → GoesOn seen later old.held new.held 1) → Leaves seen later old new why
      leaves why told others goes = record {
        told = told;
        others = others;
        counted = given_is;
        goes = λ other. subst (λ n. GoesOn seen later old.held new.held n) (sym (ap least_taken start)) (goes other);
      }

      log_is : WhereTold seen (λ all. is_log (ahead seen old.held all) ≡ true)
      log_is = λ all has. ap (λ held. is_log (held ++ drop seen.place all)) first.1 ∙ ap is_log (whole all has)
          ∙ log_begins lead.margin front (ahead mid held all) is.margin may

      failed : (why : RecordFault) → ReadsLog mid later held new.held lead (Err why)
          → Refuses seen later old why × Leaves seen later old new why
      failed fault.LongFile reads = (
        list_is (refused_by fault.LongFile) reads.1,
        leaves fault.LongFile (went reads.0).told (went reads.0).others (λ other. went reads.0),
      )
      failed fault.ReadFault reads = (
        subst (λ n. Rose n later.faults) goes.no_fault reads.2,
        leaves fault.ReadFault (reads.0 ∙ goes.told) (others_then seen mid later goes.current goes.others reads.1)
            (λ other. absurd (other refl)),
      )
      failed fault.NoMemory reads =
          ((start, log_is), leaves fault.NoMemory (went reads).told (went reads).others (λ other. went reads))
      failed (fault.Line number cause) reads = elim reads [ ]
      failed (fault.LongLine number) reads = elim reads [ ]
      failed (fault.TooMany number) reads = elim reads [ ]
      failed (fault.Tag why) reads = elim reads [ ]
      failed (fault.Missing field place) reads = elim reads [ ]
      failed (fault.Time place) reads = elim reads [ ]
      failed (fault.Digits place) reads = elim reads [ ]

      by : (said : Result Step RecordFault) → IfOk said (λ found. (found ≡ step.Skipped) × IsStageLog new.stage)
          → ReadsLog mid later held new.held lead (log_in new.stage said) → Steps seen later old new said
      by (Ok found) log reads = subst (λ s. Steps seen later old new (Ok s)) (sym log.0)
          (begun new.stage refl log.1
          (subst (λ s. ReadsLog mid later held new.held lead (log_in new.stage (Ok s))) log.0
          reads))
      by (Err why) log reads = failed why reads
