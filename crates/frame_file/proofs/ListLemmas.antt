-- The list of lines, taken line by line, is that of the lines before the first refused one.
use Rattle.std.proofs.Common.{◌≡◌, ℕ, ◌+◌, Bool, true, false, List, [], ◌∷◌, ◌++◌, length, map, Option, Some, None, Result, Ok, Err, refl, sym, ap, ◌∙◌, subst}
use Rattle.std.specs.Prelude.{nat_lt, if◌then◌else◌}
use Rattle.std.specs.List.{cons_option}
use Rattle.std.specs.Str.Lines.{lines}
use Rattle.std.proofs.lemmas.List.{length-append, append_assoc, append-nil}
use Rattle.std.proofs.lemmas.List.Elements.{filter_map-append}
use Rattle.knx_base.specs.declared.cause.Cause.{Cause}
use Rattle.frame_file.specs.declared.fault.RecordFault.{RecordFault}
use Rattle.frame_file.specs.declared.fault.RecordFault.TheVariants.{TooMany}
use Rattle.frame_file.specs.Lists.{RecordList, untimed, refused_by, with_record}
use Rattle.frame_file.specs.Records.{most_records, record_of, records_in, from_line, records_from, listed_in, refusal_of, octets_said, said_in, refusal, refusal_after, Stand, IsRefusedAfter, IsListOf}

-- the list of these lines after those
record IsFrom (before rest : List (List ℕ)) (list : RecordList) : Type 0 where
  standing : List (List ℕ)
  left : List (List ℕ)
  lines_are : rest ≡ standing ++ left
  stand : Stand before standing
  records_are : list.records ≡ map untimed (said_in standing)
  refused_is : IsRefusedAfter (before ++ standing) left list.refused

module _ (before : List (List ℕ)) (line : List ℕ) (rest : List (List ℕ)) where
  abbrev number : ℕ
  number = length before + 1

  abbrev given : ℕ
  given = length (said_in before)

  -- with a line before it that may stand
  after_line : (said : Result (Option (List ℕ)) Cause) (list new : RecordList) → record_of line ≡ said
      → refusal_after before line ≡ None → IsFrom (before ++ line ∷ []) rest list
      → ((octets : List (List ℕ)) → list.records ≡ map untimed octets
      → new.records ≡ map untimed (cons_option (octets_said said) octets))
      → new.refused ≡ list.refused → IsFrom before (line ∷ rest) new
  after_line said list new is stands from records_are refused_is = record {
    standing = line ∷ from.standing;
    left = from.left;
    lines_are = ap (λ lines. line ∷ lines) from.lines_are;
    stand = (stands, from.stand);
    records_are = subst (λ s. new.records ≡ map untimed (cons_option (octets_said s) (said_in from.standing))) (sym is)
        (records_are (said_in from.standing) from.records_are);
    refused_is = subst (λ refused. IsRefusedAfter (before ++ line ∷ from.standing) from.left refused) (sym refused_is)
        (subst (λ lines. IsRefusedAfter lines from.left list.refused) (append_assoc before (line ∷ []) from.standing)
        from.refused_is);
  }

  -- with one that may not
  at_refused : (fault : RecordFault) → refusal_after before line ≡ Some fault
      → IsFrom before (line ∷ rest) (refused_by fault)
  at_refused fault refused = record {
    standing = [];
    left = line ∷ rest;
    lines_are = refl;
    stand = tt;
    records_are = refl;
    refused_is = subst (λ lines. IsRefusedAfter lines (line ∷ rest) (Some fault)) (sym (append-nil before))
        (refl, sym refused);
  }

  -- with one that says a record, where there is room for one more or not
  one_more : (room : Bool) (octets : List ℕ) (list : RecordList) → record_of line ≡ Ok (Some octets)
      → refusal_after before line ≡ (if room then None else Some (TooMany number))
      → IsFrom (before ++ line ∷ []) rest list
      → IsFrom before (line ∷ rest) (if room then with_record (untimed octets) list else refused_by (TooMany number))
  one_more true octets list is stands from =
      after_line (Ok (Some octets)) list (with_record (untimed octets) list) is stands from
      (λ others are. ap (λ records. untimed octets ∷ records) are) refl
  one_more false octets list is refused from = at_refused (TooMany number) refused

  by_line : (said : Result (Option (List ℕ)) Cause) (list : RecordList) → record_of line ≡ said
      → IsFrom (before ++ line ∷ []) rest list → IsFrom before (line ∷ rest) (from_line number given said list)
  by_line (Ok None) list is from =
      after_line (Ok None) list list is (ap (refusal number given) is) from (λ others are. are) refl
  by_line (Ok (Some octets)) list is from =
      one_more (nat_lt given most_records) octets list is (ap (refusal number given) is) from
  by_line (Err fault) list is from = at_refused (refusal_of number fault) (ap (refusal number given) is)

  said_one : (said : Result (Option (List ℕ)) Cause) → length (cons_option (octets_said said) []) ≡ records_in said
  said_one (Ok None) = refl
  said_one (Ok (Some octets)) = refl
  said_one (Err fault) = refl

  one_line_more : length (before ++ line ∷ []) ≡ number
  one_line_more = length-append before (line ∷ [])

  said_more : length (said_in (before ++ line ∷ [])) ≡ given + records_in (record_of line)
  said_more = ap length (filter_map-append (λ line. octets_said (record_of line)) before (line ∷ []))
      ∙ length-append (said_in before) (cons_option (octets_said (record_of line)) [])
      ∙ ap (λ n. given + n) (said_one (record_of line))

from_there : (before rest : List (List ℕ)) → IsFrom before rest (records_from (length before) (length (said_in before)) rest)
from_there before [] = record {
  standing = [];
  left = [];
  lines_are = refl;
  stand = tt;
  records_are = refl;
  refused_is = refl;
}
from_there before (line ∷ rest) =
    by_line before line rest (record_of line)
    (records_from (length before + 1) (length (said_in before) + records_in (record_of line)) rest) refl
    (subst (λ given. IsFrom (before ++ line ∷ []) rest (records_from (length before + 1) given rest))
    (said_more before line rest)
    (subst (λ number. IsFrom (before ++ line ∷ []) rest
    (records_from number (length (said_in (before ++ line ∷ []))) rest)) (one_line_more before line rest)
    (from_there (before ++ line ∷ []) rest)))

pub is_list : (octets : List ℕ) → IsListOf (lines octets) (listed_in octets)
is_list octets =
    let from = from_there [] (lines octets) in
    record {
      standing = from.standing;
      left = from.left;
      lines_are = from.lines_are;
      stand = from.stand;
      records_are = from.records_are;
      refused_is = from.refused_is;
    }
