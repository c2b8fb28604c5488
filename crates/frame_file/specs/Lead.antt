-- What the front of a file says, before and after it shows of which kind the file is: plumbing for proofs.
use Rattle.std.specs.Prelude.{◌≡◌, ◌≢◌, ℕ, ◌+◌, ◌≤◌, ◌<◌, ◌==◌, ◌||◌, nat_lt, Bool, true, false, if◌then◌else◌, List, [], ◌∷◌, ◌++◌, length, take, drop, replicate, ◌-◌, ◌⊎◌, Option, Some, None, IfSome, Result, Ok, Err, IfErr}
use Rattle.std.specs.List.{list_all, All}
use Rattle.std.specs.Str.Lines.{lines}
use Rattle.knx_base.specs.Faults.{Rose}
use Rattle.knx_base.specs.Files.{Seen}
use Rattle.text_lines.specs.Reading.{WhereTold, GoesOn, ahead}
use Rattle.tag_text.specs.Octets.{is_blank}
use Rattle.frame_file.specs.declared.fault.RecordFault.{RecordFault}
use Rattle.frame_file.specs.declared.fault.RecordFault.TheVariants.{ReadFault}
use Rattle.frame_file.specs.declared.lead.LeadStep.{LeadStep}
use Rattle.frame_file.specs.declared.lead.LeadStep.TheVariants.{More, Log, Given, Skipped, End}
use Rattle.frame_file.specs.declared.margin.Margin.{Margin}
use Rattle.frame_file.specs.declared.margin.Margin.TheVariants as margin
use Rattle.frame_file.specs.Lists.{IsOfText, no_records, refused_by, with_record, untimed}
use Rattle.frame_file.specs.Logs.{is_log, most_logged}
use Rattle.frame_file.specs.Records.{refusal_of, records_from, records_of, listed_in}
use Rattle.knx_base.specs.declared.cause.Cause.{Cause}

-- ---- the margin: a byte order mark and white space

abbrev pub mark_if : Bool → List ℕ
mark_if true = 0xEF ∷ 0xBB ∷ 0xBF ∷ []
mark_if false = []

-- a byte order mark and white space
pub record IsMarked (front : List ℕ) : Type 0 where
  pub blanks : List ℕ
  pub whole : front ≡ mark_if true ++ blanks
  pub blank : list_all is_blank blanks ≡ true

-- the octets that were taken are such a margin, or show that the file is no log
abbrev pub MarginIs : Margin → List ℕ → Type 0
MarginIs margin.Nothing front = front ≡ []
MarginIs margin.OneOctet front = front ≡ 0xEF ∷ []
MarginIs margin.TwoOctets front = front ≡ 0xEF ∷ 0xBB ∷ []
MarginIs (margin.Blanks true) front = IsMarked front
MarginIs (margin.Blanks false) front = (0 < length front) × (list_all is_blank front ≡ true)
MarginIs margin.Over front = (rest : List ℕ) → is_log (front ++ rest) ≡ false

-- ---- the lines, if the file is a list

-- the octets that were taken are so many lines that say nothing, and this part of a line
pub record LinesAre (count : ℕ) (part front : List ℕ) : Type 0 where
  pub one : All (λ octet. (octet == 10) ≡ false) part
  pub list : (rest : List ℕ) → listed_in (front ++ rest) ≡ records_from count 0 (lines (part ++ rest))

-- what a line says that has this number
abbrev pub step_said : ℕ → Result Bool Cause → Result LeadStep RecordFault
step_said number (Ok true) = Ok Given
step_said number (Ok false) = Ok Skipped
step_said number (Err cause) = Err (refusal_of number cause)

abbrev pub may_begin : Margin → Bool
may_begin margin.Nothing = true
may_begin (margin.Blanks marked) = true
may_begin _ = false

abbrev pub is_over : Margin → Bool
is_over margin.Over = true
is_over _ = false

-- the margin with one more octet
abbrev pub margin_after : Margin → ℕ → Margin
margin_after margin.Nothing octet =
    if octet == 0xEF then margin.OneOctet else if is_blank octet then margin.Blanks false else margin.Over
margin_after margin.OneOctet octet = if octet == 0xBB then margin.TwoOctets else margin.Over
margin_after margin.TwoOctets octet = if octet == 0xBF then margin.Blanks true else margin.Over
margin_after (margin.Blanks marked) octet = if is_blank octet then margin.Blanks marked else margin.Over
margin_after margin.Over octet = margin.Over

-- ---- the front that was read

-- an octet of a margin: white space, or one that is not ASCII
abbrev pub is_of_margin : ℕ → Bool
is_of_margin octet = is_blank octet || nat_lt 127 octet

-- what the octets say that were taken so far, where they are this front: of the margin, and of the lines if the file is
-- a list, unless it is refused then
abbrev pub LinesOrRefusal : Option RecordFault → ℕ → List ℕ → List ℕ → Type 0
LinesOrRefusal None count part front = LinesAre count part front
LinesOrRefusal (Some fault) count part front = (rest : List ℕ) → listed_in (front ++ rest) ≡ refused_by fault

pub record LeadState : Type 0 where
  pub margin : Margin
  pub taken : ℕ
  pub lines : ℕ
  pub part : List ℕ
  pub refused : Option RecordFault

pub record LeadIs (lead : LeadState) (front : List ℕ) : Type 0 where
  pub margin : MarginIs lead.margin front
  pub taken : lead.taken ≡ length front
  pub few : lead.lines + length lead.part ≤ lead.taken
  pub listed : LinesOrRefusal lead.refused lead.lines lead.part front
  pub blank : is_over lead.margin ≡ false → list_all is_of_margin lead.part ≡ true
  pub text : IfSome lead.refused IsOfText

-- one more octet of a list was taken
abbrev pub Listed : LeadState → List ℕ → List ℕ → Result LeadStep RecordFault → Type 0
Listed new front octets (Ok More) = (new.refused ≡ None) × LinesAre new.lines new.part front
Listed new front octets (Ok Skipped) = (new.refused ≡ None) × (new.part ≡ []) × LinesAre new.lines [] front
Listed new front octets (Ok Given) =
    (rest : List ℕ) → listed_in (front ++ rest) ≡ with_record (untimed octets) (records_from new.lines 1 (lines rest))
Listed new front octets (Ok _) = ⊥
Listed new front octets (Err fault) = (rest : List ℕ) → listed_in (front ++ rest) ≡ refused_by fault

pub record TakesListed (old new : LeadState) (octet : ℕ) (octets : List ℕ)
    (result : Result LeadStep RecordFault) : Type 0 where
  pub list : (front : List ℕ) → LinesOrRefusal old.refused old.lines old.part front
      → Listed new (front ++ octet ∷ []) octets result
  pub few : new.lines + length new.part ≤ old.lines + length old.part + 1
  pub ended : (result ≡ Ok Given) ⊎ (result ≡ Ok Skipped) → (octet ≡ 10) × (new.lines ≡ old.lines + 1) × (new.part ≡ [])
  pub blank : list_all is_of_margin old.part ≡ true → is_of_margin octet ≡ true
      → (list_all is_of_margin new.part ≡ true) × (result ≢ Ok Given)
  pub text : IfSome old.refused IsOfText → IfErr result IsOfText

-- one more octet was taken
abbrev pub Takes : LeadState → List ℕ → ℕ → List ℕ → Result LeadStep RecordFault → Type 0
Takes new front octet octets (Ok More) = LeadIs new (front ++ octet ∷ [])
Takes new front octet octets (Ok Log) = (octet ≡ 60) × (may_begin new.margin ≡ true) × LeadIs new front
Takes new front octet octets (Ok Given) = (1 ≤ new.lines) × (new.lines ≤ length front + 1)
    × ((rest : List ℕ) → records_of (front ++ octet ∷ rest)
    ≡ with_record (untimed octets) (records_from new.lines 1 (lines rest)))
Takes new front octet octets (Ok Skipped) = (1 ≤ new.lines) × (new.lines ≤ length front + 1)
    × ((rest : List ℕ) → records_of (front ++ octet ∷ rest) ≡ records_from new.lines 0 (lines rest))
Takes new front octet octets (Ok End) = ⊥
Takes new front octet octets (Err fault) =
    ((rest : List ℕ) → records_of (front ++ octet ∷ rest) ≡ refused_by fault) × IsOfText fault

-- the file ends here
abbrev pub EndsFront : LeadState → List ℕ → List ℕ → Result LeadStep RecordFault → Type 0
EndsFront new front octets (Ok More) = ⊥
EndsFront new front octets (Ok Log) = ⊥
EndsFront new front octets (Ok Given) = (1 ≤ new.lines) × (new.lines ≤ length front)
    × (records_of front ≡ with_record (untimed octets) no_records)
EndsFront new front octets (Ok Skipped) = (1 ≤ new.lines) × (new.lines ≤ length front)
    × (records_of front ≡ no_records)
EndsFront new front octets (Ok End) = (new.lines ≤ length front) × (records_of front ≡ no_records)
EndsFront new front octets (Err fault) = (records_of front ≡ refused_by fault) × IsOfText fault

-- so far a front of the current file was read
pub record FrontSoFar (start now : Seen) (held : List ℕ) (lead : LeadState) : Type 0 where
  pub front : List ℕ
  pub is : LeadIs lead front
  pub goes : GoesOn start now [] held (length front)
  pub given : WhereTold start (λ all. drop start.place all ≡ front ++ ahead now held all)

-- the front of the current file was read, up to what shows of which kind it is
abbrev pub ReadsFront : Seen → Seen → List ℕ → LeadState → List ℕ → Result LeadStep RecordFault → Type 0
ReadsFront seen later held new octets (Ok More) = ⊥
ReadsFront seen later held new octets (Ok Log) = GoesOn seen later [] held 1
    × (may_begin new.margin ≡ true) × ((front : List ℕ) × LeadIs new front
    × WhereTold seen (λ all. drop seen.place all ≡ front ++ 60 ∷ ahead later held all))
ReadsFront seen later held new octets (Ok Given) = GoesOn seen later [] held new.lines × (1 ≤ new.lines)
    × WhereTold seen (λ all. records_of (drop seen.place all)
    ≡ with_record (untimed octets) (records_from new.lines 1 (lines (ahead later held all))))
ReadsFront seen later held new octets (Ok Skipped) = GoesOn seen later [] held new.lines × (1 ≤ new.lines)
    × WhereTold seen (λ all. records_of (drop seen.place all)
    ≡ records_from new.lines 0 (lines (ahead later held all)))
ReadsFront seen later held new octets (Ok End) = GoesOn seen later [] held new.lines × (held ≡ [])
    × WhereTold seen (λ all. (records_of (drop seen.place all) ≡ no_records) × (drop later.place all ≡ []))
ReadsFront seen later held new octets (Err ReadFault) = Rose seen.faults later.faults
ReadsFront seen later held new octets (Err fault) = GoesOn seen later [] held 1 × IsOfText fault
    × WhereTold seen (λ all. records_of (drop seen.place all) ≡ refused_by fault)

-- ---- the front of a log, with spaces for its white space

abbrev pub marks : Margin → Bool
marks (margin.Blanks marked) = marked
marks _ = false

-- so many octets
abbrev pub margin_text : Margin → ℕ → List ℕ
margin_text margin taken =
    take taken (mark_if (marks margin)) ++ replicate (taken - length (mark_if (marks margin))) 32

-- the front of a log, up to its first `<`, unless that is too long
abbrev pub IsFront : Margin → ℕ → Option (List ℕ) → Type 0
IsFront margin taken None = most_logged ≤ taken
IsFront margin taken (Some text) = (taken < most_logged) × (text ≡ margin_text margin taken ++ 60 ∷ [])
