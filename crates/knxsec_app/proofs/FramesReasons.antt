-- A file of records is refused for what it says: neither for a fault of reading nor for want of memory.
use Rattle.std.proofs.Common.{ℕ, ◌+◌, nat_lt, ℤ, List, [], ◌∷◌, length, codes, Option, Some, None, IfSome, Result, Ok, Err, IfErr}
use Rattle.std.specs.Str.{bytes_eq}
use Rattle.std.specs.Str.Lines.{lines}
use Rattle.knx_base.specs.declared.cause.Cause.{Cause}
use Rattle.knx_base.specs.declared.cause.Cause.TheVariants as cause
use Rattle.tag_text.specs.declared.tag.Tag.{Tag}
use Rattle.tag_text.specs.declared.tag.Tag.TheVariants.{Start, End, Finish}
use Rattle.tag_text.specs.declared.tag.TagFault.{TagFault}
use Rattle.tag_text.specs.declared.tag.TagFault.TheVariants as tag
use Rattle.tag_text.specs.Attributes.{value_named}
use Rattle.tag_text.specs.Document.{outcome_of}
use Rattle.frame_file.specs.declared.fault.RecordFault.{RecordFault}
use Rattle.frame_file.specs.declared.fault.RecordFault.TheVariants as fault
use Rattle.frame_file.specs.Lists.{Entry, RecordList, IsOfText}
use Rattle.frame_file.specs.Logs.{most_logged, is_log, millisecond_of, octets_of_digits, entry_of, entry_told, telegram_of, from_entry, entries_in, log_of}
use Rattle.frame_file.specs.Records.{most_records, record_of, records_in, refusal_of, from_line, records_from, records_of}
use Rattle.knxsec_app.proofs.Firsts.{chosen, mapped}
use Rattle.knxsec_app.proofs.DocumentReasons.{IsOfDocument, document_so}

abbrev IsRight : RecordList → Type 0
IsRight list = IfSome list.refused IsOfText

-- ---- a list of frames

refused_so : (number : ℕ) (why : Cause) → IsOfText (refusal_of number why)
refused_so number cause.Words = tt
refused_so number cause.Address = tt
refused_so number cause.Key = tt
refused_so number cause.Level = tt
refused_so number cause.Role = tt
refused_so number cause.Any = tt
refused_so number cause.Name = tt
refused_so number cause.Lane = tt
refused_so number cause.Number = tt
refused_so number cause.Flags = tt
refused_so number cause.Size = tt
refused_so number cause.Value = tt
refused_so number cause.Service = tt
refused_so number cause.Digits = tt
refused_so number cause.Long = tt

line_so : (number before : ℕ) (found : Result (Option (List ℕ)) Cause) (rest : RecordList) → IsRight rest
    → IsRight (from_line number before found rest)
line_so number before (Ok None) rest is = is
line_so number before (Ok (Some octets)) rest is = chosen IsRight (nat_lt before most_records) _ _ is tt
line_so number before (Err why) rest is = refused_so number why

lines_so : (number before : ℕ) (left : List (List ℕ)) → IsRight (records_from number before left)
lines_so number before [] = tt
lines_so number before (line ∷ rest) =
    line_so (number + 1) before (record_of line) _ (lines_so (number + 1) (before + records_in (record_of line)) rest)

-- ---- a log

entry_of_so : (place : ℕ) (time : Option ℤ) (octets : Option (List ℕ)) → IfErr (entry_of place time octets) IsOfText
entry_of_so place None octets = tt
entry_of_so place (Some time) None = tt
entry_of_so place (Some time) (Some octets) = tt

told_so : (place : ℕ) (text digits : Option (List ℕ)) → IfErr (entry_told place text digits) IsOfText
told_so place None digits = tt
told_so place (Some text) None = tt
told_so place (Some text) (Some digits) = entry_of_so place (millisecond_of text) (octets_of_digits digits)

entry_so : (found : Result Entry RecordFault) (rest : RecordList) → IfErr found IsOfText → IsRight rest
    → IsRight (from_entry found rest)
entry_so (Ok entry) rest is later = later
entry_so (Err why) rest is later = is

of_document : (why : TagFault) → IsOfDocument why → IsOfText (fault.Tag why)
of_document (tag.Bad place) is = tt
of_document (tag.Utf8 place) is = tt
of_document (tag.Deep place) is = tt
of_document tag.NoMemory is = is

tags_so : (tags : List Tag) (why : Option TagFault) → IfSome why IsOfDocument → IsRight (entries_in tags why)
tags_so [] why is = mapped IsOfDocument IsOfText fault.Tag why of_document is
tags_so (Start name attributes place ∷ tags) why is =
    let rest = tags_so tags why is in
    chosen IsRight (bytes_eq name (codes "Telegram")) _ _
    (entry_so (telegram_of attributes place) _ (told_so place (value_named attributes (codes "Timestamp"))
    (value_named attributes (codes "RawData"))) rest) rest
tags_so (End place ∷ tags) why is = tags_so tags why is
tags_so (Finish ∷ tags) why is = tags_so tags why is

log_so : (octets : List ℕ) → IsRight (log_of octets)
log_so octets =
    chosen IsRight (nat_lt most_logged (length octets)) _ _ tt
    (tags_so (outcome_of octets).tags (outcome_of octets).fault (document_so octets))

-- ---- either

pub of_text : (octets : List ℕ) → IfSome (records_of octets).refused IsOfText
unfolding records_of
of_text octets = chosen IsRight (is_log octets) _ _ (log_so octets) (lines_so 0 0 (lines octets))
