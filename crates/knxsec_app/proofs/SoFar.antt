-- The loop over the records: what was printed, what waits, and the answer to what is left are the whole answer.
use Rattle.std.proofs.Common.{◌≡◌, ◌≤◌, ℕ, Bool, true, false, List, [], ◌∷◌, ◌++◌, length, drop, Option, Some, None, Result, Ok, Err, refl, sym, ap, subst, ◌∙◌, append_assoc, ◌-◌, ◌⊎◌, inl, inr, arith}
use Rattle.std.specs.Prelude.{codes}
use Rattle.std.proofs.lemmas.List.{length-drop}
use Rattle.std.proofs.lemmas.Option.{none-some}
use Rattle.std.specs.Io.KnownBytes.{append_known}
use Rattle.knx_base.specs.Files.{Seen}
use Rattle.text_lines.specs.Reading.{CurrentHas, WhereTold, OthersStay}
use Rattle.knx_base.specs.Sink.{AppendsPrefix}
use Rattle.knx_base.proofs.Printing.{append_known-append, append_known-nil}
use Rattle.text_lines.proofs.Readers.{has_same, goes_then}
use Rattle.key_tables.specs.declared.types.Row.{Row}
use Rattle.frame_file.specs.declared.fault.RecordFault.{RecordFault}
use Rattle.frame_file.specs.declared.fault.RecordFault.TheVariants as fault_
use Rattle.frame_file.specs.declared.records.Record.{Record}
use Rattle.frame_file.specs.Given.{Gives}
use Rattle.frame_file.specs.Lists.{Entry, RecordList, with_record, no_records, refused_by}
use Rattle.frame_file.specs.Logs.{most_logged}
use Rattle.frame_file.specs.Next.{RecordsState, IsFresh, ReadsOn, TakesRecord, Ends, Refuses, left, left_of, most_given}
use Rattle.frame_file.specs.Records.{records_of}
use Rattle.tag_text.specs.declared.tag.TagFault.TheVariants as tag
use Rattle.audit_core.specs.declared.line.Line.{Line}
use Rattle.audit_core.specs.Audit.{apdu_of, line_of, total_of}
use Rattle.audit_core.specs.State.{AuditState, Knows}
use Rattle.audit_core.specs.Text.{line_text_with, total_text}
use Rattle.knxsec_app.specs.declared.status.Status.{Status}
use Rattle.knxsec_app.specs.declared.status.Status.TheVariants.{Done, Alarm, Usage, Refused, ReadFault, WriteFault, NoMemory}
use Rattle.knxsec_app.specs.Answer.{Answer, Answers, after}
use Rattle.knxsec_app.specs.Auditing.{record_line, frames_answer, total_status}
use Rattle.knxsec_app.specs.Ends.{ReadsToEnd}
use Rattle.knxsec_app.specs.Refusing.{refused, frames_reason, EndsList}
use Rattle.knxsec_app.specs.Showing.{Behind}
use Rattle.knxsec_app.proofs.Answering.{answers_after, prefix_more}

pub record SoFar (shown : Behind) (start now : Seen) (rows : List Row) (audit : AuditState) (records : RecordsState)
    (held : List ℕ)
    (old new : Option (List ℕ)) : Type 0 where
  pub past : List (List ℕ)
  pub knows : Knows audit past
  pub rows_are : audit.rows ≡ rows
  pub front : List ℕ
  pub printed : new ≡ append_known old front
  pub left_is : WhereTold start (λ octets. frames_answer shown rows [] (records_of octets)
      ≡ after (front ++ held) (frames_answer shown rows past (left_of now records octets)))

after_nil : (answer : Answer) → after [] answer ≡ answer
after_nil answer = refl

-- nothing was read
pub begins : (shown : Behind) (start : Seen) (rows : List Row) (audit : AuditState) (records : RecordsState)
    (held : List ℕ)
    (out : Option (List ℕ))
    → start.place ≡ 0 → Knows audit [] → audit.rows ≡ rows → IsFresh records → held ≡ []
    → SoFar shown start start rows audit records held out out
begins shown start rows audit records held out at_start knows rows_are fresh empty = record {
  past = [];
  knows = knows;
  rows_are = rows_are;
  front = [];
  printed = sym (append_known-nil out);
  left_is = λ octets has.
      ap (frames_answer shown rows []) (sym (fresh.all_left octets))
      ∙ ap (λ place. frames_answer shown rows [] (left records (drop place octets))) (sym at_start)
      ∙ ap (λ text. after text (frames_answer shown rows [] (left_of start records octets))) (sym empty);
}

-- the answer to a list with one record more
one_more : (shown : Behind) (rows : List Row) (past : List (List ℕ)) (entry : Entry) (list : RecordList)
    → frames_answer shown rows past (with_record entry list) ≡ after (record_line shown rows past entry)
    (frames_answer shown rows (entry.octets ∷ past) list)
unfolding frames_answer
one_more shown rows past entry list = refl

-- a text that waited, and one after it, of which a front was handed on
regrouped : (front held line handed kept : List ℕ) → handed ++ kept ≡ held ++ line → (answer : Answer)
    → after (front ++ held) (after line answer) ≡ after ((front ++ handed) ++ kept) answer
regrouped front held line handed kept same answer = ap (λ text. record { report = text; status = answer.status })
    (sym (append_assoc (front ++ held) line answer.report)
    ∙ ap (λ text. text ++ answer.report) (append_assoc front held line ∙ ap (λ rest. front ++ rest) (sym same)
    ∙ sym (append_assoc front handed kept)))

-- one more record was taken, and its line passed on
pub goes_on : (shown : Behind) (start now later : Seen) (rows : List Row) (audit next : AuditState)
    (records following : RecordsState) (held kept : List ℕ)
    (old mid new : Option (List ℕ)) (entry : Entry) (apdu : List ℕ) (line : Line) (behind : List ℕ)
    → behind ≡ shown line apdu
    → SoFar shown start now rows audit records held old mid
    → ReadsOn start now
    → WhereTold now (λ all. left_of now records all ≡ with_record entry (left_of later following all))
    → ((past : List (List ℕ)) → Knows audit past → (line ≡ line_of audit.rows past entry.octets)
    × Knows next (entry.octets ∷ past))
    → next.rows ≡ audit.rows
    → ((past : List (List ℕ)) → Knows audit past → apdu ≡ apdu_of audit.rows past entry.octets)
    → (handed : List ℕ) × (new ≡ append_known mid handed) × (handed ++ kept ≡ held ++ line_text_with line entry.time
    apdu behind)
    → SoFar shown start later rows next following kept old new
goes_on shown start now later rows audit next records following held kept old mid new entry apdu line behind is so_far
    goes taken
    knows rows_stay opened passed =
    let told = knows so_far.past so_far.knows in
    let is_line : line_text_with line entry.time apdu behind ≡ record_line shown rows so_far.past entry =
    ap (line_text_with line entry.time apdu) is
    ∙ (λ i. line_text_with (told.0 i) entry.time (opened so_far.past so_far.knows i)
    (shown (told.0 i) (opened so_far.past so_far.knows i)))
    ∙ ap (λ rows. record_line shown rows so_far.past entry) so_far.rows_are in
    record {
      past = entry.octets ∷ so_far.past;
      knows = told.1;
      rows_are = rows_stay ∙ so_far.rows_are;
      front = so_far.front ++ passed.0;
      printed = passed.1 ∙ ap (λ known. append_known known passed.0) so_far.printed
          ∙ append_known-append old so_far.front passed.0;
      left_is = λ all has.
          so_far.left_is all has
          ∙ ap (λ list. after (so_far.front ++ held) (frames_answer shown rows so_far.past list))
          (taken all (has_same start now [] [] 0 goes all has))
          ∙ ap (after (so_far.front ++ held)) (one_more shown rows so_far.past entry (left_of later following all))
          ∙ regrouped so_far.front held (record_line shown rows so_far.past entry) passed.0 kept
          (passed.2 ∙ ap (λ text. held ++ text) is_line) (frames_answer shown rows (entry.octets ∷ so_far.past)
          (left_of later following all));
    }

-- ---- the ends

-- what was written on, of what waits and the answer to what is left, is of the whole answer
pub answers_all : (shown : Behind) (start now : Seen) (rows : List Row) (audit : AuditState) (records : RecordsState)
    (held : List ℕ)
    (old mid new : Option (List ℕ)) (status : Status)
    → (so_far : SoFar shown start now rows audit records held old mid) → (octets : List ℕ) → CurrentHas start octets
    → Answers (after held (frames_answer shown rows so_far.past (left_of now records octets))) status mid new
    → Answers (frames_answer shown rows [] (records_of octets)) status old new
answers_all shown start now rows audit records held old mid new status so_far octets has said =
    let answer = frames_answer shown rows so_far.past (left_of now records octets) in
    let whole : after so_far.front (after held answer) ≡ frames_answer shown rows [] (records_of octets)
    = ap (λ text. record { report = text; status = answer.status }) (sym (append_assoc so_far.front held answer.report))
    ∙ sym (so_far.left_is octets has) in
    subst (λ a. Answers a status old new) whole (answers_after old mid new so_far.front (after held answer) status
    so_far.printed said)

-- the report could not go on
pub stops : (shown : Behind) (start now : Seen) (rows : List Row) (audit : AuditState) (records : RecordsState)
    (held : List ℕ)
    (old mid new : Option (List ℕ))
    → SoFar shown start now rows audit records held old mid → AppendsPrefix mid new held
    → WhereTold start (λ octets. AppendsPrefix old new (frames_answer shown rows [] (records_of octets)).report)
stops shown start now rows audit records held old mid new so_far begun octets has =
    answers_all shown start now rows audit records held old mid new WriteFault so_far octets has
    (prefix_more mid new held (frames_answer shown rows so_far.past (left_of now records octets)).report begun)

-- memory was wanting, and what waited was handed on, unless the sink failed
pub wants_memory : (shown : Behind) (start now : Seen) (rows : List Row) (audit : AuditState) (records : RecordsState)
    (held : List ℕ)
    (old mid new : Option (List ℕ)) (status : Status)
    → SoFar shown start now rows audit records held old mid
    → Answers (record { report = held; status = NoMemory }) status mid new
    → WhereTold start (λ octets. Answers (frames_answer shown rows [] (records_of octets)) status old new)
wants_memory shown start now rows audit records held old mid new status so_far said octets has =
    by_status status said where
      begun : AppendsPrefix mid new held
          → AppendsPrefix old new (frames_answer shown rows [] (records_of octets)).report
      begun part = stops shown start now rows audit records held old mid new so_far part octets has

      by_status : (status : Status) → Answers (record { report = held; status = NoMemory }) status mid new
          → Answers (frames_answer shown rows [] (records_of octets)) status old new
      by_status Done said = absurd cc
      by_status Alarm said = absurd cc
      by_status Usage said = absurd cc
      by_status Refused said = absurd cc
      by_status ReadFault said = begun said
      by_status WriteFault said = begun said
      by_status NoMemory said = begun said

-- the sink failed at the line of one more record
pub stops_at_line : (shown : Behind) (start now later : Seen) (rows : List Row) (audit next : AuditState)
    (records following : RecordsState) (held : List ℕ)
    (old mid new : Option (List ℕ)) (entry : Entry) (apdu : List ℕ) (line : Line) (behind : List ℕ)
    → behind ≡ shown line apdu
    → SoFar shown start now rows audit records held old mid
    → ReadsOn start now
    → WhereTold now (λ all. left_of now records all ≡ with_record entry (left_of later following all))
    → ((past : List (List ℕ)) → Knows audit past → (line ≡ line_of audit.rows past entry.octets)
    × Knows next (entry.octets ∷ past))
    → ((past : List (List ℕ)) → Knows audit past → apdu ≡ apdu_of audit.rows past entry.octets)
    → AppendsPrefix mid new (held ++ line_text_with line entry.time apdu behind)
    → WhereTold start (λ all. AppendsPrefix old new (frames_answer shown rows [] (records_of all)).report)
stops_at_line shown start now later rows audit next records following held old mid new entry apdu line behind is so_far
    goes taken
    knows opened begun all has =
    let told = knows so_far.past so_far.knows in
    let is_line : line_text_with line entry.time apdu behind ≡ record_line shown rows so_far.past entry =
    ap (line_text_with line entry.time apdu) is
    ∙ (λ i. line_text_with (told.0 i) entry.time (opened so_far.past so_far.knows i)
    (shown (told.0 i) (opened so_far.past so_far.knows i)))
    ∙ ap (λ rows. record_line shown rows so_far.past entry) so_far.rows_are in
    let rest = frames_answer shown rows (entry.octets ∷ so_far.past) (left_of later following all) in
    let is_left : frames_answer shown rows so_far.past (left_of now records all)
    ≡ after (record_line shown rows so_far.past entry) rest =
    ap (frames_answer shown rows so_far.past) (taken all (has_same start now [] [] 0 goes all has))
    ∙ one_more shown rows so_far.past entry (left_of later following all) in
    let text : (held ++ line_text_with line entry.time apdu behind) ++ rest.report ≡ held
    ++ (frames_answer shown rows so_far.past (left_of now records all)).report =
    append_assoc held (line_text_with line entry.time apdu behind) rest.report ∙ ap (λ text. held ++ (text ++
    rest.report)) is_line
    ∙ ap (λ answer. held ++ answer.report) (sym is_left) in
    answers_all shown start now rows audit records held old mid new WriteFault so_far all has
    (subst (AppendsPrefix mid new) text (prefix_more mid new (held ++ line_text_with line entry.time apdu behind)
    rest.report begun))

none_left : (shown : Behind) (rows : List Row) (past : List (List ℕ)) → frames_answer shown rows past no_records
    ≡ record { report = total_text (total_of rows past); status = total_status (total_of rows past) }
unfolding frames_answer
none_left shown rows past = refl

fault_left : (shown : Behind) (rows : List Row) (past : List (List ℕ)) (fault : RecordFault)
    → frames_answer shown rows past (refused_by fault) ≡ refused (codes "frames") (frames_reason fault)
unfolding frames_answer
fault_left shown rows past fault = refl

-- the report was ended with the total
pub finishes : (shown : Behind) (start now : Seen) (rows : List Row) (audit : AuditState) (records : RecordsState)
    (held : List ℕ)
    (old mid new : Option (List ℕ)) (status : Status)
    → SoFar shown start now rows audit records held old mid → ReadsOn start now
    → WhereTold now (λ all. left_of now records all ≡ no_records)
    → Answers (after held (record { report = total_text audit.total; status = total_status audit.total })) status mid
    new
    → WhereTold start (λ all. Answers (frames_answer shown rows [] (records_of all)) status old new)
finishes shown start now rows audit records held old mid new status so_far goes none said all has =
    let total : audit.total ≡ total_of rows so_far.past =
    so_far.knows.total ∙ ap (λ rows. total_of rows so_far.past) so_far.rows_are in
    answers_all shown start now rows audit records held old mid new status so_far all has
    (subst (λ answer. Answers (after held answer) status mid new)
    (ap (λ t. record { report = total_text t; status = total_status t }) total ∙ sym (none_left shown rows so_far.past)
    ∙ ap (frames_answer shown rows so_far.past) (sym (none all (has_same start now [] [] 0 goes all has))))
    said)

-- the report was ended with a refusal, or the reader stopped
pub refuses : (shown : Behind) (start now later : Seen) (rows : List Row) (audit : AuditState) (records : RecordsState)
    (held : List ℕ)
    (old mid new : Option (List ℕ)) (status : Status) (fault : RecordFault)
    → SoFar shown start now rows audit records held old mid → ReadsOn start now
    → Refuses now later records fault → EndsList fault held status mid new
    → WhereTold start (λ all. Answers (frames_answer shown rows [] (records_of all)) status old new)
refuses shown start now later rows audit records held old mid new status fault so_far goes = by_fault fault where
  at_text : (fault : RecordFault) → WhereTold now (λ all. left_of now records all ≡ refused_by fault)
      → Answers (after held (refused (codes "frames") (frames_reason fault))) status mid new
      → WhereTold start (λ all. Answers (frames_answer shown rows [] (records_of all)) status old new)
  at_text fault is said all has = answers_all shown start now rows audit records held old mid new status so_far all has
      (subst (λ answer. Answers (after held answer) status mid new)
      (sym (fault_left shown rows so_far.past fault) ∙ ap (frames_answer shown rows so_far.past)
      (sym (is all (has_same start now [] [] 0 goes all has))))
      said)

  by_fault : (fault : RecordFault) → Refuses now later records fault → EndsList fault held status mid new
      → WhereTold start (λ all. Answers (frames_answer shown rows [] (records_of all)) status old new)
  by_fault (fault_.Line number cause) is said = at_text (fault_.Line number cause) is said
  by_fault (fault_.LongLine number) is said = at_text (fault_.LongLine number) is said
  by_fault (fault_.TooMany number) is said = at_text (fault_.TooMany number) is said
  by_fault fault_.LongFile is said = at_text fault_.LongFile is said
  by_fault (fault_.Tag (tag.Bad place)) is said = at_text (fault_.Tag (tag.Bad place)) is said
  by_fault (fault_.Tag (tag.Utf8 place)) is said = at_text (fault_.Tag (tag.Utf8 place)) is said
  by_fault (fault_.Tag (tag.Deep place)) is said = at_text (fault_.Tag (tag.Deep place)) is said
  by_fault (fault_.Tag tag.NoMemory) is said = absurd is
  by_fault (fault_.Missing field place) is said = at_text (fault_.Missing field place) is said
  by_fault (fault_.Time place) is said = at_text (fault_.Time place) is said
  by_fault (fault_.Digits place) is said = at_text (fault_.Digits place) is said
  by_fault fault_.ReadFault is said = λ all has. subst (λ s. Answers (frames_answer shown rows [] (records_of all)) s
      old new)
      (sym said.0) (stops shown start now rows audit records held old mid new so_far said.1 all has)
  by_fault fault_.NoMemory is said =
      λ all has. wants_memory shown start now rows audit records held old mid new status so_far said all has

-- the file was read to its end
pub reads_to_end : (start now later : Seen) → start.place ≡ 0 → ReadsOn start now → ReadsOn now later
    → WhereTold now (λ all. drop later.place all ≡ []) → ReadsToEnd start later
reads_to_end start now later at_start first then_ whole =
    let goes = goes_then start now later [] [] [] 0 0 first then_ in
    record {
      end = λ all has.
          let within = goes.within all has (omega (arith, at_start)) in
          let none : length all - later.place ≡ 0 =
          sym (length-drop later.place all) ∙ ap length (whole all (has_same start now [] [] 0 first all has)) in
          omega (arith, within, none);
      placed = goes.placed;
      others = goes.others.places;
    }

-- ---- what a call for the next record gave

pub some_given : (seen later : Seen) (old new : RecordsState) (result : Result (Option Record) RecordFault)
    (found : Option Record) (given : Record)
    → result ≡ Ok found → found ≡ Some given → Gives seen later old new result
    → TakesRecord seen later old new given.number (record { time = given.time; octets = given.octets.now })
some_given seen later old new result found given is some gives =
    subst (Gives seen later old new) (is ∙ ap Ok some) gives

pub none_given : (seen later : Seen) (old new : RecordsState) (result : Result (Option Record) RecordFault)
    (found : Option Record)
    → result ≡ Ok found → found ≡ None → Gives seen later old new result → Ends seen later old new
none_given seen later old new result found is none gives = subst (Gives seen later old new) (is ∙ ap Ok none) gives

pub fault_given : (seen later : Seen) (old new : RecordsState) (result : Result (Option Record) RecordFault)
    (fault : RecordFault)
    → result ≡ Err fault → old.fault ≡ None → Gives seen later old new result → Refuses seen later old fault
fault_given seen later old new result fault is no_fault gives =
    cause (subst (Gives seen later old new) is gives).cause where
      cause : ((old.fault ≡ Some fault) ⊎ ((old.fault ≡ None) × Refuses seen later old fault))
          → Refuses seen later old fault
      cause (inl before) = elim (none-some fault (sym no_fault ∙ before)) [ ]
      cause (inr said) = said.1

-- whatever was given, the files tell the same
pub gives_told : (seen later : Seen) (old new : RecordsState) (result : Result (Option Record) RecordFault)
    → old.fault ≡ None → Gives seen later old new result
    → later.told ≡ seen.told
gives_told seen later old new (Ok (Some given)) no_fault gives = gives.reads.told
gives_told seen later old new (Ok None) no_fault gives = gives.reads.told
gives_told seen later old new (Err fault) no_fault gives = (gives.first no_fault).told

-- whatever was given, no other file was read
pub gives_others : (seen later : Seen) (old new : RecordsState) (result : Result (Option Record) RecordFault)
    → old.fault ≡ None → Gives seen later old new result
    → OthersStay seen later
gives_others seen later old new (Ok (Some given)) no_fault gives = gives.reads.others
gives_others seen later old new (Ok None) no_fault gives = gives.reads.others
gives_others seen later old new (Err fault) no_fault gives = (gives.first no_fault).others

-- no file has more records than a log may have octets
pub few_given : (log : Bool) → most_given log ≤ most_logged
few_given true = grind (arith)
few_given false = grind (arith)
