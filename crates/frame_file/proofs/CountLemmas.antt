-- A log has no more records than octets: each record is an element, and its start takes an octet at least.
use Rattle.std.proofs.Common.{◌≡◌, ℕ, nat_eq, ◌+◌, ◌<◌, ◌≤◌, inl, inr, Bool, true, false, cond, List, [], ◌∷◌, ◌++◌, length, drop, codes, Option, Some, None, Result, Ok, Err, refl, ap, subst, length-append, length-drop, arith}
use Rattle.std.specs.Prelude.{unwrap_or}
use Rattle.std.specs.List.{starts_with}
use Rattle.std.specs.Str.{bytes_eq}
use Rattle.tag_text.specs.Octets.{after_mark}
use Rattle.tag_text.specs.Pieces.{Piece}
use Rattle.tag_text.specs.Pieces as piece
use Rattle.tag_text.specs.Document.{Left, State, Step, Goes, Stops, place_of, may_begin, has_room, bad, begins, ends, judged, is_inside, start_of, outcome_of, after_order_mark}
use Rattle.tag_text.specs.Grammar.{IsAttribute, IsAttributes, NoMore, OneMore, IsTag, IsEnclosed, IsPiece, IsLeft, Whole, Next, Misplaced, NoPiece, IsDocument, tag_end}
use Rattle.tag_text.specs.declared.tag.Tag.{Tag}
use Rattle.tag_text.specs.declared.tag.Tag.TheVariants as tag
use Rattle.tag_text.specs.declared.tag.TagFault.{TagFault}
use Rattle.tag_text.specs.declared.tag.TagFault.TheVariants as fault
use Rattle.frame_file.specs.declared.fault.RecordFault.{RecordFault}
use Rattle.frame_file.specs.Lists.{Entry, RecordList}
use Rattle.frame_file.specs.Logs.{most_logged, telegram_of, from_entry, entries_in, entries_of}
use Rattle.frame_file.specs.LogTurns.{with_records}

starts : List Tag → ℕ
starts [] = 0
starts (tag.Start name attributes place ∷ tags) = starts tags + 1
starts (tag.End place ∷ tags) = starts tags
starts (tag.Finish ∷ tags) = starts tags

starts_both : (xs ys : List Tag) → starts (xs ++ ys) ≡ starts xs + starts ys
unfolding starts
starts_both [] ys = omega arith
starts_both (tag.Start name attributes place ∷ xs) ys = omega (arith, starts_both xs ys)
starts_both (tag.End place ∷ xs) ys = starts_both xs ys
starts_both (tag.Finish ∷ xs) ys = starts_both xs ys

-- ---- records are starts

one_entry : (said : Result Entry RecordFault) (rest : RecordList)
    → length (from_entry said rest).records ≤ length rest.records + 1
one_entry (Ok entry) rest = omega arith
one_entry (Err why) rest = omega arith

one_element : (named : Bool) (said : Result Entry RecordFault) (rest : RecordList)
    → length (cond named (from_entry said rest) rest).records ≤ length rest.records + 1
one_element true said rest = one_entry said rest
one_element false said rest = omega arith

records_start : (tags : List Tag) (why : Option TagFault) → length (entries_in tags why).records ≤ starts tags
unfolding starts
records_start [] why = omega arith
records_start (tag.Start name attributes place ∷ tags) why =
    omega (
      arith,
      records_start tags why,
      one_element (bytes_eq name (codes "Telegram"))
          (telegram_of attributes place) (entries_in tags why),
    )
records_start (tag.End place ∷ tags) why = records_start tags why
records_start (tag.Finish ∷ tags) why = records_start tags why

-- ---- a piece

attribute_less : (text rest name value : List ℕ) → IsAttribute text rest name value → length rest < length text
attribute_less text rest name value is =
    let last = is.raw ++ is.quote ∷ rest in
    omega (
      arith,
      ap length is.spelled,
      length-append is.blanks (name ++ (is.before ++ 61 ∷ (is.after ++ is.quote ∷ last))),
      length-append name (is.before ++ 61 ∷ (is.after ++ is.quote ∷ last)),
      length-append is.before (61 ∷ (is.after ++ is.quote ∷ last)),
      length-append is.after (is.quote ∷ last),
      length-append is.raw (is.quote ∷ rest),
    )

attributes_less : (rest text : List ℕ) (attributes : List (List ℕ × List ℕ)) → IsAttributes rest text attributes
    → length rest ≤ length text
attributes_less rest text attributes NoMore = omega arith
attributes_less rest text attributes (OneMore {middle = middle} {name = name} {value = value}
    {attributes = more} one others) =
    omega (arith, attribute_less text middle name value one, attributes_less rest middle more others)

tag_less : (text rest : List ℕ) (empty : Bool) (name : List ℕ) (attributes : List (List ℕ × List ℕ))
    → IsTag text rest empty name attributes → length rest < length text
tag_less text rest empty name attributes is =
    omega (
      arith,
      ap length is.spelled,
      length-append name is.body,
      attributes_less (is.blanks ++ (tag_end empty ++ rest)) is.body attributes is.attributed,
      length-append is.blanks (tag_end empty ++ rest),
      length-append (tag_end empty) rest,
    )

enclosed_less : (opening closing text rest : List ℕ) → IsEnclosed opening closing text rest → length rest ≤ length text
enclosed_less opening closing text rest is =
    omega (
      arith,
      ap length is.spelled,
      length-append opening (is.content ++ (closing ++ rest)),
      length-append is.content (closing ++ rest),
      length-append closing rest,
    )

-- a step gives no more starts than this, and leaves so many octets
GivesStarts : ℕ → ℕ → Step → Type 0
GivesStarts most count (Goes tags next) = (starts tags ≤ most) × (length next.rest ≡ count)
GivesStarts most count (Stops why) = Unit {0}

either : (b : Bool) (most count : ℕ) (x y : Step) → GivesStarts most count x → GivesStarts most count y
    → GivesStarts most count (cond b x y)
either true most count x y first second = first
either false most count x y first second = second

begun : (s : State) (tags : List Tag) (opened : List (List ℕ)) (after : List ℕ) → starts tags ≤ 1
    → GivesStarts 1 (length after) (begins s tags opened after)
unfolding GivesStarts
begun s tags opened after one =
    let next : State = record { total = s.total; opened = opened; begun = true; rest = after } in
    either (may_begin s) 1 (length after) (cond (has_room s) (Goes tags next) (Stops (Some (fault.Deep (place_of s)))))
    (bad s) (either (has_room s) 1 (length after) (Goes tags next) (Stops (Some (fault.Deep (place_of s)))) (one, refl)
    tt) tt

ended : (s : State) (opened : List (List ℕ)) (name after : List ℕ)
    → GivesStarts 0 (length after) (ends s opened name after)
unfolding GivesStarts starts
ended s [] name after = tt
ended s (innermost ∷ opened) name after =
    either (bytes_eq innermost name) 0 (length after) (Goes (tag.End (place_of s) ∷ [])
    (record { total = s.total; opened = opened; begun = s.begun; rest = after })) (bad s) (omega arith, refl) tt

-- each piece takes as many octets as it gives starts
piece_takes : (s next : State) (tags : List Tag) (p : Piece) (rest : List ℕ) → IsPiece (is_inside s) s.rest rest p
    → judged s p rest ≡ Goes tags next → starts tags + length next.rest ≤ length s.rest
unfolding GivesStarts starts
piece_takes s next tags (piece.Start name attributes) rest is goes =
    let gives : GivesStarts 1 (length rest) (Goes tags next) = subst (GivesStarts 1 (length rest)) goes
    (begun s (tag.Start name attributes (place_of s) ∷ []) (name ∷ s.opened) rest (omega arith)) in
    omega (arith, gives.0, gives.1, tag_less s.rest rest false name attributes is)
piece_takes s next tags (piece.Empty name attributes) rest is goes =
    let gives : GivesStarts 1 (length rest) (Goes tags next) = subst (GivesStarts 1 (length rest)) goes
    (begun s (tag.Start name attributes (place_of s) ∷ tag.End (place_of s) ∷ []) s.opened rest (omega arith)) in
    omega (arith, gives.0, gives.1, tag_less s.rest rest true name attributes is)
piece_takes s next tags (piece.End name) rest is goes =
    let gives : GivesStarts 0 (length rest) (Goes tags next) = subst (GivesStarts 0 (length rest)) goes
    (ended s s.opened name rest) in
    omega (
      arith,
      gives.0,
      gives.1,
      ap length is.spelled,
      length-append name (is.blanks ++ 62 ∷ rest),
      length-append is.blanks (62 ∷ rest),
    )
piece_takes s next tags piece.Skipped rest is goes =
    let gives : GivesStarts 0 (length rest) (Goes tags next) =
    subst (GivesStarts 0 (length rest)) goes (omega arith, refl) in
    omega (arith, gives.0, gives.1, less is) where
      less : IsPiece (is_inside s) s.rest rest piece.Skipped → length rest ≤ length s.rest
      less (inl is) = enclosed_less (codes "<?") (codes "?>") s.rest rest is
      less (inr (inl is)) = enclosed_less (codes "<!--") (codes "-->") s.rest rest is
      less (inr (inr is)) = omega (arith, ap length is.spelled, length-append is.others rest)

-- ---- the document

starts_left : (s : State) (left : Left) → IsLeft s left → starts left.tags ≤ length s.rest
unfolding starts
starts_left s left (Whole whole) = omega arith
starts_left s left (Next {next = next} {tags = tags} {later = later} p rest is goes more) =
    omega (arith, starts_both tags later.tags, piece_takes s next tags p rest is goes, starts_left next later more)
starts_left s left (Misplaced p rest is stops) = omega arith
starts_left s left (NoPiece whole none) = omega arith

marked_less : (octets : List ℕ) (b : Bool)
    → length (unwrap_or (cond {A = Option (List ℕ)} b (Some (drop 3 octets)) None) octets) ≤ length octets
marked_less octets true = omega (arith, length-drop 3 octets)
marked_less octets false = omega arith

order_mark_less : (octets : List ℕ) → length (after_order_mark octets) ≤ length octets
unfolding after_mark
order_mark_less octets = marked_less octets (starts_with nat_eq octets (0xEF ∷ 0xBB ∷ 0xBF ∷ []))

document_starts : (octets : List ℕ) (left : Left) → IsDocument octets left → starts left.tags ≤ length octets
unfolding starts
document_starts octets left (inl is) =
    omega (arith, starts_left (start_of octets) left is.1, order_mark_less octets)
document_starts octets left (inr is) =
    let none : starts left.tags ≡ 0 = ap (λ (l : Left). starts l.tags) is.2 in omega (arith, none)

-- no log has more records than octets
pub few_records : (octets : List ℕ) → IsDocument octets (outcome_of octets) → length octets ≤ most_logged
    → length (entries_of (outcome_of octets)).records ≤ most_logged
few_records octets is short =
    omega (
      arith,
      short,
      document_starts octets (outcome_of octets) is,
      records_start (outcome_of octets).tags (outcome_of octets).fault,
    )

-- and no more were taken
pub few_taken : (whole rest : RecordList) (entries : List Entry) → whole ≡ with_records entries rest
    → length whole.records ≤ most_logged → length entries ≤ most_logged
few_taken whole rest entries is few =
    omega (arith, few, ap (λ (l : RecordList). length l.records) is, length-append entries rest.records)
