-- The records of a document, one tag after the other.
use Rattle.std.proofs.Common.{◌≡◌, ℕ, ◌<◌, ◌≤◌, true, false, cond, List, [], ◌∷◌, ◌++◌, length, codes, Option, Result, Ok, Err, sym, ap, ◌∙◌, append_assoc, append-nil, arith}
use Rattle.std.specs.Str.{bytes_eq}
use Rattle.tag_text.specs.Document.{Left}
use Rattle.tag_text.specs.Giving.{Gives}
use Rattle.tag_text.specs.declared.tag.Tag.TheVariants as given
use Rattle.tag_text.specs.declared.tag.TagFault.{TagFault}
use Rattle.tag_text.specs.declared.tag.TagFault.TheVariants as tag
use Rattle.frame_file.specs.declared.fault.RecordFault.{RecordFault}
use Rattle.frame_file.specs.declared.fault.RecordFault.TheVariants as fault
use Rattle.frame_file.specs.Lists.{Entry, RecordList, no_records, with_record}
use Rattle.frame_file.specs.Logs.{telegram_of, from_entry, from_element, entries_of}
use Rattle.frame_file.specs.LogTurns.{tag_refusal, found_in, TakesTelegram, with_records}

-- a start was taken
pub start_taken : (old new : Left) (name : List ℕ) (attributes : List (List ℕ × List ℕ)) (place : ℕ)
    → Gives old new (Ok (given.Start name attributes place))
    → (entries_of old ≡ from_element name attributes place (entries_of new)) × (length new.tags < length old.tags)
start_taken old new name attributes place gives =
    (ap entries_of gives, omega (arith, ap (λ (left : Left). length left.tags) gives))

-- an end was taken
pub end_taken : (old new : Left) (place : ℕ) → Gives old new (Ok (given.End place))
    → (entries_of old ≡ entries_of new) × (length new.tags < length old.tags)
end_taken old new place gives = (ap entries_of gives, omega (arith, ap (λ (left : Left). length left.tags) gives))

-- another element was passed over
pub other_taken : (old new : Left) (name : List ℕ) (attributes : List (List ℕ × List ℕ)) (place : ℕ)
    → bytes_eq name (codes "Telegram") ≡ false → Gives old new (Ok (given.Start name attributes place))
    → (entries_of old ≡ entries_of new) × (length new.tags < length old.tags)
other_taken old new name attributes place e gives =
    let taken = start_taken old new name attributes place gives in (
      taken.0 ∙ ap (λ b. cond b (from_entry (telegram_of attributes place) (entries_of new)) (entries_of new)) e,
      taken.1,
    )

-- one named Telegram is a record, or refused
pub telegram_taken : (start old new : Left) (name : List ℕ) (attributes : List (List ℕ × List ℕ)) (place : ℕ)
    (said : Result Entry RecordFault)
    → entries_of start ≡ entries_of old → length old.tags ≤ length start.tags
    → bytes_eq name (codes "Telegram") ≡ true → Gives old new (Ok (given.Start name attributes place))
    → telegram_of attributes place ≡ said → TakesTelegram start new (found_in said)
telegram_taken start old new name attributes place said same less e gives says = by said says where
  taken : (entries_of old ≡ from_element name attributes place (entries_of new)) × (length new.tags < length old.tags)
  taken = start_taken old new name attributes place gives

  list : (said : Result Entry RecordFault) → telegram_of attributes place ≡ said
      → entries_of start ≡ from_entry said (entries_of new)
  list said says = same ∙ taken.0
      ∙ ap (λ b. cond b (from_entry (telegram_of attributes place) (entries_of new)) (entries_of new)) e
      ∙ ap (λ s. from_entry s (entries_of new)) says

  by : (said : Result Entry RecordFault) → telegram_of attributes place ≡ said → TakesTelegram start new (found_in said)
  by (Ok entry) says = (list (Ok entry) says, omega (arith, less, taken.1))
  by (Err (fault.Line number why)) says = list (Err (fault.Line number why)) says
  by (Err (fault.LongLine number)) says = list (Err (fault.LongLine number)) says
  by (Err (fault.TooMany number)) says = list (Err (fault.TooMany number)) says
  by (Err fault.LongFile) says = list (Err fault.LongFile) says
  by (Err (fault.Tag why)) says = list (Err (fault.Tag why)) says
  by (Err (fault.Missing field place)) says = list (Err (fault.Missing field place)) says
  by (Err (fault.Time place)) says = list (Err (fault.Time place)) says
  by (Err (fault.Digits place)) says = list (Err (fault.Digits place)) says
  by (Err fault.ReadFault) says = list (Err fault.ReadFault) says
  by (Err fault.NoMemory) says = tt

-- the document has ended
pub none_left : (start old new : Left) → entries_of start ≡ entries_of old → Gives old new (Ok given.Finish)
    → entries_of start ≡ no_records
none_left start old new same gives = same ∙ ap entries_of gives.0

-- the document is refused
pub document_refused : (start old new : Left) (why : TagFault) → entries_of start ≡ entries_of old
    → Gives old new (Err why) → TakesTelegram start new (Err (tag_refusal why))
document_refused start old new (tag.Bad place) same gives = same ∙ ap entries_of gives.0
document_refused start old new (tag.Utf8 place) same gives = same ∙ ap entries_of gives.0
document_refused start old new (tag.Deep place) same gives = same ∙ ap entries_of gives.0
document_refused start old new tag.NoMemory same gives = tt

-- ---- all records

pub one_more : (whole old new : RecordList) (entries all : List Entry) (entry : Entry)
    → whole ≡ with_records entries old → old ≡ with_record entry new → all ≡ entries ++ entry ∷ []
    → whole ≡ with_records all new
one_more whole old new entries all entry so_far first all_is =
    so_far ∙ ap (with_records entries) first
    ∙ ap (λ es. record { records = es; refused = new.refused }) (sym (append_assoc entries (entry ∷ []) new.records))
    ∙ ap (λ es. with_records es new) (sym all_is)

pub all_told : (whole old : RecordList) (entries : List Entry) (refused : Option RecordFault)
    → whole ≡ with_records entries old → old ≡ record { records = []; refused = refused }
    → whole ≡ record { records = entries; refused = refused }
all_told whole old entries refused so_far end =
    so_far ∙ ap (with_records entries) end ∙ ap (λ es. record { records = es; refused = refused }) (append-nil entries)
