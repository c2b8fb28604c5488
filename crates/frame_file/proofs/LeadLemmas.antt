-- What one more octet at the front of a file says, if the file is a list.
use Rattle.std.proofs.Common.{◌≡◌, ◌≢◌, ℕ, ◌+◌, ◌<◌, nat_lt, Bool, true, false, List, [], ◌∷◌, ◌++◌, length, None, Result, Ok, Err, refl, sym, ap, ◌∙◌, append_assoc, append-nil, length-append, arith}
use Rattle.std.specs.Str.Lines.{lines, strip_carriage_return}
use Rattle.std.proofs.lemmas.Bool.Decides.{nat_tests}
use Rattle.text_lines.specs.Lines.{most_octets, line_of}
use Rattle.knx_base.specs.declared.cause.Cause.{Cause}
use Rattle.knx_base.specs.declared.cause.Cause.TheVariants as cause
use Rattle.frame_file.specs.declared.fault.RecordFault.{RecordFault}
use Rattle.frame_file.specs.declared.fault.RecordFault.TheVariants as fault
use Rattle.frame_file.specs.Lists.{untimed, no_records, refused_by, with_record}
use Rattle.frame_file.specs.Logs.{is_log, log_of}
use Rattle.frame_file.specs.Records.{record_of, record_of_judged, said_by, records_in, from_line, records_from, listed_in, records_of}
use Rattle.frame_file.specs.Lead.{LeadState, LinesAre, Listed, step_said}
use Rattle.frame_file.proofs.LineLemmas.{LongFirst, none_yet, one_more, line_ended, last_line, long_line}

-- ---- the two kinds

pub is_list : (octets : List ℕ) → is_log octets ≡ false → records_of octets ≡ listed_in octets
unfolding records_of
is_list octets e = rw e refl

pub is_log_of : (octets : List ℕ) → is_log octets ≡ true → records_of octets ≡ log_of octets
unfolding records_of
is_log_of octets e = rw e refl

-- ---- a line

-- what the line of a list adds, that a line feed ends
pub fed : (count : ℕ) (part front octets : List ℕ) (said : Result Bool Cause) → LinesAre count part front
    → record_of (strip_carriage_return part) ≡ said_by said octets → (rest : List ℕ)
    → listed_in ((front ++ 10 ∷ []) ++ rest) ≡ from_line (count + 1) 0 (said_by said octets)
    (records_from (count + 1) (0 + records_in (said_by said octets)) (lines rest))
fed count part front octets said are says rest =
    ap listed_in (append_assoc front (10 ∷ []) rest) ∙ are.list (10 ∷ rest)
    ∙ ap (records_from count 0) (line_ended part rest are.one)
    ∙ ap (λ s. from_line (count + 1) 0 s (records_from (count + 1) (0 + records_in s) (lines rest))) says

pub line_fed : (new : LeadState) (count : ℕ) (part front octets : List ℕ) (said : Result Bool Cause)
    → LinesAre count part front → record_of (strip_carriage_return part) ≡ said_by said octets
    → new.lines ≡ count + 1 → new.part ≡ [] → new.refused ≡ None
    → Listed new (front ++ 10 ∷ []) octets (step_said (count + 1) said)
line_fed new count part front octets (Ok true) are says lines_are part_is none = λ rest.
    fed count part front octets (Ok true) are says rest
    ∙ ap (λ n. with_record (untimed octets) (records_from n 1 (lines rest))) (sym lines_are)
line_fed new count part front octets (Ok false) are says lines_are part_is none = (
  none,
  part_is,
  record {
    one = none_yet;
    list = λ rest. fed count part front octets (Ok false) are says rest
        ∙ ap (λ n. records_from n 0 (lines rest)) (sym lines_are);
  },
)
line_fed new count part front octets (Err why) are says lines_are part_is none = λ rest.
    fed count part front octets (Err why) are says rest

-- an octet of the line
pub pushed : (count : ℕ) (part front : List ℕ) (octet : ℕ) → LinesAre count part front → octet ≢ 10
    → LinesAre count (part ++ octet ∷ []) (front ++ octet ∷ [])
pushed count part front octet are other = record {
  one = one_more part octet are.one other;
  list = λ rest. ap listed_in (append_assoc front (octet ∷ []) rest) ∙ are.list (octet ∷ rest)
      ∙ ap (λ text. records_from count 0 (lines text)) (sym (append_assoc part (octet ∷ []) rest));
}

judged_long : (line : List ℕ) → 1024 < length line → line_of line ≡ Err cause.Long
judged_long line long =
    let over : nat_lt most_octets (length line) ≡ true = grind (arith, nat_tests, long) in rw over refl

refused_long : (count : ℕ) (texts : List (List ℕ)) → LongFirst texts
    → records_from count 0 texts ≡ refused_by (fault.LongLine (count + 1))
refused_long count texts (first, rest, is, long) =
    ap (records_from count 0) is ∙ ap (λ s. from_line (count + 1) 0 (record_of_judged s)
    (records_from (count + 1) (0 + records_in (record_of_judged s)) rest)) (judged_long first long)

-- one octet more than a line may have
pub overlong : (count : ℕ) (part front : List ℕ) (octet : ℕ) → LinesAre count part front → octet ≢ 10
    → length part ≡ 1025 → (rest : List ℕ)
    → listed_in ((front ++ octet ∷ []) ++ rest) ≡ refused_by (fault.LongLine (count + 1))
overlong count part front octet are other full rest =
    let more = pushed count part front octet are other in
    more.list rest ∙ refused_long count _ (long_line (part ++ octet ∷ []) rest more.one
    (omega (arith, full, length-append part (octet ∷ []))))

-- the file is refused before
pub refused_before : (front : List ℕ) (octet : ℕ) (why : RecordFault)
    → ((rest : List ℕ) → listed_in (front ++ rest) ≡ refused_by why)
    → (rest : List ℕ) → listed_in ((front ++ octet ∷ []) ++ rest) ≡ refused_by why
refused_before front octet why is rest = ap listed_in (append_assoc front (octet ∷ []) rest) ∙ is (octet ∷ rest)

-- ---- the end of the file

listed_last : (count : ℕ) (part front : List ℕ) → LinesAre count part front
    → listed_in front ≡ records_from count 0 (lines part)
listed_last count part front are =
    ap listed_in (sym (append-nil front)) ∙ are.list []
    ∙ ap (λ text. records_from count 0 (lines text)) (append-nil part)

pub ends_empty : (count : ℕ) (front : List ℕ) → LinesAre count [] front → listed_in front ≡ no_records
ends_empty count front are = listed_last count [] front are

pub ends_with : (count : ℕ) (part front octets : List ℕ) (said : Result Bool Cause) → LinesAre count part front
    → part ≢ [] → record_of part ≡ said_by said octets
    → listed_in front ≡ from_line (count + 1) 0 (said_by said octets) no_records
ends_with count [] front octets said are some says = absurd (some refl)
ends_with count (octet ∷ part) front octets said are some says =
    listed_last count (octet ∷ part) front are ∙ ap (records_from count 0) (last_line octet part are.one)
    ∙ ap (λ s. from_line (count + 1) 0 s no_records) says
