-- What the front of a file says where the file ends.
use Rattle.std.proofs.Common.{◌≡◌, ◌≢◌, ℕ, ◌+◌, ◌≤◌, Bool, true, false, List, [], ◌∷◌, ◌++◌, length, drop, Some, None, Result, Ok, Err, refl, sym, ap, subst, ◌∙◌, append-nil, arith}
use Rattle.std.specs.Prelude.{IfSome, IfErr}
use Rattle.std.specs.Str.Lines.{lines}
use Rattle.knx_base.specs.Files.{Seen}
use Rattle.knx_base.specs.declared.cause.Cause.{Cause}
use Rattle.text_lines.specs.Reading.{WhereTold, GoesOn, ahead}
use Rattle.text_lines.proofs.Readers.{takes_less}
use Rattle.frame_file.specs.declared.fault.RecordFault.{RecordFault}
use Rattle.frame_file.specs.declared.fault.RecordFault.TheVariants as fault
use Rattle.frame_file.specs.declared.lead.LeadStep.{LeadStep}
use Rattle.frame_file.specs.declared.lead.LeadStep.TheVariants as step
use Rattle.frame_file.specs.declared.margin.Margin.TheVariants as margin
use Rattle.frame_file.specs.Lists.{RecordList, IsOfText, untimed, no_records, refused_by, with_record}
use Rattle.frame_file.specs.Records.{record_of, said_by, records_from, records_of, listed_in, refusal_of}
use Rattle.frame_file.specs.Lead.{LeadState, LeadIs, LinesAre, LinesOrRefusal, EndsFront, ReadsFront, step_said}
use Rattle.frame_file.proofs.MarginLemmas.{margin_alone}
use Rattle.frame_file.proofs.LeadLemmas.{is_list, ends_empty, ends_with}

listed_front : (lead : LeadState) (front : List ℕ) → LeadIs lead front → records_of front ≡ listed_in front
listed_front lead front is = is_list front (margin_alone lead.margin front is.margin)

pub ends_refused : (lead : LeadState) (front : List ℕ) (why : RecordFault) → LeadIs lead front
    → lead.refused ≡ Some why → (records_of front ≡ refused_by why) × IsOfText why
ends_refused lead front why is refused =
    let listed = subst (λ o. LinesOrRefusal o lead.lines lead.part front) refused is.listed in (
      listed_front lead front is ∙ ap listed_in (sym (append-nil front)) ∙ listed [],
      subst (λ o. IfSome o IsOfText) refused is.text,
    )

pub ends_nothing : (lead : LeadState) (front : List ℕ) → LeadIs lead front → lead.refused ≡ None → lead.part ≡ []
    → (lead.lines ≤ length front) × (records_of front ≡ no_records)
ends_nothing lead front is none empty =
    let listed = subst (λ o. LinesOrRefusal o lead.lines lead.part front) none is.listed in (
      omega (arith, is.few, is.taken),
      listed_front lead front is
          ∙ ends_empty lead.lines front (subst (λ part. LinesAre lead.lines part front) empty listed),
    )

some_part : (part : List ℕ) → part ≢ [] → 1 ≤ length part
some_part [] some = absurd (some refl)
some_part (octet ∷ part) some = omega arith

pub ends_line : (old new : LeadState) (front octets : List ℕ) (said : Result Bool Cause) → LeadIs old front
    → old.refused ≡ None → old.part ≢ [] → record_of old.part ≡ said_by said octets → new.lines ≡ old.lines + 1
    → IfErr (step_said new.lines said) IsOfText
    → EndsFront new front octets (step_said new.lines said)
ends_line old new front octets said is none some says lines_are text = by said says text where
  few : new.lines ≤ length front
  few = omega (arith, lines_are, some_part old.part some, is.few, is.taken)

  one : 1 ≤ new.lines
  one = omega (arith, lines_are)

  listed : LinesAre old.lines old.part front
  listed = subst (λ o. LinesOrRefusal o old.lines old.part front) none is.listed

  by : (said : Result Bool Cause) → record_of old.part ≡ said_by said octets
      → IfErr (step_said new.lines said) IsOfText → EndsFront new front octets (step_said new.lines said)
  by (Ok true) says text =
      (one, few, listed_front old front is ∙ ends_with old.lines old.part front octets (Ok true) listed some says)
  by (Ok false) says text =
      (one, few, listed_front old front is ∙ ends_with old.lines old.part front octets (Ok false) listed some says)
  by (Err why) says text = (
    listed_front old front is
        ∙ ends_with old.lines old.part front octets (Err why) listed some says
        ∙ ap (λ n. refused_by (refusal_of n why)) (sym lines_are),
    text,
  )

-- ---- the current file

-- no file without octets is refused
some_front : (front : List ℕ) (why : RecordFault) → records_of front ≡ refused_by why → 1 ≤ length front
some_front [] why e =
    absurd (cc (ap (λ (l : RecordList). l.refused) (sym (is_list [] (margin_alone margin.Nothing [] refl)) ∙ e)))
some_front (octet ∷ front) why e = omega arith

pub ended_read : (start next : Seen) (kept octets : List ℕ) (new : LeadState) (front : List ℕ)
    (shown : Result LeadStep RecordFault)
    → GoesOn start next [] kept (length front) → kept ≡ []
    → WhereTold start (λ all. (drop start.place all ≡ front) × (drop next.place all ≡ []))
    → EndsFront new front octets shown → ReadsFront start next kept new octets shown
ended_read start next kept octets new front (Ok step.More) goes empty given ends = elim ends [ ]
ended_read start next kept octets new front (Ok step.Log) goes empty given ends = elim ends [ ]
ended_read start next kept octets new front (Ok step.Given) goes empty given ends = (
  takes_less start next [] kept kept (length front) new.lines (omega (arith, ends.1)) goes,
  ends.0,
  λ all has.
      let here = given all has in
      let nothing : ahead next kept all ≡ [] = ap (λ text. text ++ drop next.place all) empty ∙ here.1 in
      ap records_of here.0 ∙ ends.2
      ∙ ap (λ text. with_record (untimed octets) (records_from new.lines 1 (lines text))) (sym nothing),
)
ended_read start next kept octets new front (Ok step.Skipped) goes empty given ends = (
  takes_less start next [] kept kept (length front) new.lines (omega (arith, ends.1)) goes,
  ends.0,
  λ all has.
      let here = given all has in
      let nothing : ahead next kept all ≡ [] = ap (λ text. text ++ drop next.place all) empty ∙ here.1 in
      ap records_of here.0 ∙ ends.2 ∙ ap (λ text. records_from new.lines 0 (lines text)) (sym nothing),
)
ended_read start next kept octets new front (Ok step.End) goes empty given ends = (
  takes_less start next [] kept kept (length front) new.lines (omega (arith, ends.0)) goes,
  empty,
  λ all has. let here = given all has in (ap records_of here.0 ∙ ends.1, here.1),
)
ended_read start next kept octets new front (Err why) goes empty given ends = by why ends where
  list : (why : RecordFault) → EndsFront new front octets (Err why)
      → GoesOn start next [] kept 1 × IsOfText why
      × WhereTold start (λ all. records_of (drop start.place all) ≡ refused_by why)
  list why ends = (
    takes_less start next [] kept kept (length front) 1 (omega (arith, some_front front why ends.0)) goes,
    ends.1,
    λ all has. ap records_of (given all has).0 ∙ ends.0,
  )

  by : (why : RecordFault) → EndsFront new front octets (Err why) → ReadsFront start next kept new octets (Err why)
  by fault.ReadFault ends = elim ends.1 [ ]
  by (fault.Line number why) ends = list (fault.Line number why) ends
  by (fault.LongLine number) ends = list (fault.LongLine number) ends
  by (fault.TooMany number) ends = list (fault.TooMany number) ends
  by fault.LongFile ends = list fault.LongFile ends
  by (fault.Tag why) ends = list (fault.Tag why) ends
  by (fault.Missing field place) ends = list (fault.Missing field place) ends
  by (fault.Time place) ends = list (fault.Time place) ends
  by (fault.Digits place) ends = list (fault.Digits place) ends
  by fault.NoMemory ends = list fault.NoMemory ends
