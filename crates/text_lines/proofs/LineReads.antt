-- What the octets before a line feed, before the end of a file, and before too many more say of the lines that are
-- ahead.
use Rattle.std.proofs.Common.{◌≡◌, ℕ, ◌+◌, ◌<◌, ◌≤◌, ◌-◌, Bool, true, false, nat_lt, eqb, cond, ◌≢◌, List, [], ◌∷◌, ◌++◌, length, get_or, get_or-take, take, drop, Some, None, suc, subst, refl, sym, ap, ◌∙◌, append_assoc, append-nil, length-append, length-drop, length-take-le, arith}
use Rattle.std.specs.Prelude.{position, ◌==◌}
use Rattle.std.specs.List.{slice_split, onto_first}
use Rattle.std.specs.Str.Lines.{lines, lines_of_parts, strip_carriage_return}
use Rattle.std.proofs.Math.Seq.{split_at}
use Rattle.std.proofs.lemmas.Bool.Decides.{nat_tests}
use Rattle.std.proofs.lemmas.List.Elements.{All-append, All-from_get_or, All-head, All-tail}
use Rattle.std.proofs.lemmas.List.Quantifiers.{position-Some}
use Rattle.std.proofs.lemmas.List.Splits.{slice_split-cons_no, slice_split_none, slice_split_at, length-slice_split}
use Rattle.std.proofs.lemmas.List.Sums.{fails_before_first}
use Rattle.knx_base.specs.Files.{Seen}
use Rattle.text_lines.specs.Lines.{most_octets}
use Rattle.text_lines.specs.Pieces.{IsOneLine, TakesPiece}
use Rattle.text_lines.specs.Reading.{WhereTold, ahead, BeginsLong, ReadsLine}
use Rattle.text_lines.specs.declared.text_line.LineRead.{LineRead}
use Rattle.text_lines.specs.declared.text_line.LineRead.TheVariants.{End, Whole, Long}
use Rattle.text_lines.proofs.LineTexts.{no_place}

-- no line feed
abbrev NoFeed : ℕ → Type 0
NoFeed octet = eqb octet 10 ≡ false

lines_of_more : (part : List ℕ) (parts : List (List ℕ)) → 0 < length parts
    → lines_of_parts (part ∷ parts) ≡ strip_carriage_return part ∷ lines_of_parts parts
lines_of_more part [] some = absurd (omega arith)
lines_of_more part (first ∷ parts) some = refl

line_ended : (line rest : List ℕ) → IsOneLine line → lines (line ++ 10 ∷ rest) ≡ strip_carriage_return line ∷ lines rest
line_ended line rest none =
    ap lines_of_parts (slice_split_at (λ octet. eqb octet 10) line 10 rest none refl)
    ∙ lines_of_more line _ (omega (arith, length-slice_split (λ (octet : ℕ). eqb octet 10) rest))

last_line : (octet : ℕ) (line : List ℕ) → IsOneLine (octet ∷ line) → lines (octet ∷ line) ≡ (octet ∷ line) ∷ []
last_line octet line none =
    ap lines_of_parts (slice_split_none (λ octet. eqb octet 10) (octet ∷ line) none) ∙ (grind (arith, nat_tests))

-- the first part of a text, where another part without a line feed comes before it
front_parts : (part more first : List ℕ) (parts : List (List ℕ)) → IsOneLine part
    → slice_split (λ octet. eqb octet 10) more ≡ first ∷ parts
    → slice_split (λ octet. eqb octet 10) (part ++ more) ≡ (part ++ first) ∷ parts
front_parts [] more first parts none is = is
front_parts (octet ∷ part) more first parts none is =
    slice_split-cons_no (λ octet. eqb octet 10) octet (part ++ more) (All-head NoFeed octet part none)
    ∙ ap (onto_first octet) (front_parts part more first parts (All-tail NoFeed octet part none) is)

strip_long : (line : List ℕ) → most_octets + 2 ≤ length line → most_octets < length (strip_carriage_return line)
strip_long line long = by (eqb (get_or line (length line - 1) 0) 13)
  where
    by : (b : Bool) → most_octets < length (cond b (take (length line - 1) line) line)
    by true = omega (arith, length-take-le (length line - 1) line)
    by false = omega arith

begins_long : (texts : List (List ℕ)) (first : List ℕ) (rest : List (List ℕ)) → texts ≡ first ∷ rest
    → most_octets < length first → BeginsLong texts
begins_long texts first rest is long = (first, rest, is, long)

long_line : (part more : List ℕ) → IsOneLine part → most_octets + 2 ≤ length part → BeginsLong (lines (part ++ more))
long_line part more none long = by (slice_split (λ octet. eqb octet 10) more) refl
    (omega (arith, length-slice_split (λ (octet : ℕ). eqb octet 10) more))
  where
    by : (parts : List (List ℕ)) → slice_split (λ octet. eqb octet 10) more ≡ parts → 0 < length parts
        → BeginsLong (lines (part ++ more))
    by [] is some = absurd (omega arith)
    by (first ∷ []) is some =
        let wide : most_octets < length (part ++ first) = omega (arith, length-append part first) in
        begins_long _ (part ++ first) [] (ap lines_of_parts (front_parts part more first [] none is)
        ∙ (grind (arith, nat_tests))) wide
    by (first ∷ next ∷ parts) is some =
        let wide : most_octets + 2 ≤ length (part ++ first) = omega (arith, length-append part first) in
        begins_long _ (strip_carriage_return (part ++ first)) (lines_of_parts (next ∷ parts))
        (ap lines_of_parts (front_parts part more first (next ∷ parts) none is)) (strip_long (part ++ first) wide)

-- ---- the three exits

-- whether a line is too long
abbrev by_length : List ℕ → LineRead
by_length line = cond (nat_lt most_octets (length line)) Long Whole

-- a line with its length, for the lines that go on from it
reads_by_length : (start next : Seen) (held kept line : List ℕ)
    → WhereTold start (λ octets. lines (ahead start held octets) ≡ line ∷ lines (ahead next kept octets))
    → ReadsLine start next held kept line (by_length line)
reads_by_length start next held kept line first = by (nat_lt most_octets (length line)) refl
  where
    by : (b : Bool) → nat_lt most_octets (length line) ≡ b → ReadsLine start next held kept line (cond b Long Whole)
    by true over = λ octets has. begins_long _ line _ (first octets has) (grind (arith, nat_tests, over))
    by false under = (grind (arith, nat_tests, under), first)

pub reads_to_end : (start next : Seen) (held kept line : List ℕ) (read : LineRead) → IsOneLine line
    → (line ≡ [] → read ≡ End) → (line ≢ [] → read ≡ by_length line)
    → (kept ≡ []) × WhereTold start (λ octets. (ahead start held octets ≡ line) × (drop next.place octets ≡ []))
    → ReadsLine start next held kept line read
reads_to_end start next held kept [] read none end_is line_is ended =
    subst (ReadsLine start next held kept []) (sym (end_is refl))
    (ended.0, λ octets has. (ap lines (ended.1 octets has).0, (ended.1 octets has).1))
reads_to_end start next held kept (octet ∷ line) read none end_is line_is ended =
    subst (ReadsLine start next held kept (octet ∷ line)) (sym (line_is (λ nothing. cc)))
    (reads_by_length start next held kept (octet ∷ line) (λ octets has.
    let last = ended.1 octets has in
    let nothing : ahead next kept octets ≡ [] =
    ap (λ (front : List ℕ). front ++ drop next.place octets) ended.0 ∙ last.1 in
    ap lines last.0 ∙ last_line octet line none ∙ ap (λ (rest : List ℕ). (octet ∷ line) ∷ lines rest) (sym nothing)))

-- ---- the octets of a piece

-- before a line feed that was found
before_feed : (held : List ℕ) (end : ℕ) → position (λ octet. octet == 10) held ≡ Some end
    → (IsOneLine (take end held)) × (held ≡ take end held ++ 10 ∷ drop (end + 1) held) × (end < length held)
before_feed held end found =
    let at = position-Some (λ (octet : ℕ). octet == 10) held end 0 found in
    let ten : get_or held end 0 ≡ 10 = grind (arith, nat_tests, at.1) in
    let next : suc end ≡ end + 1 = omega arith in (
      All-from_get_or NoFeed (take end held) 0 (λ i within.
          let early : i < end = omega (arith, within, length-take-le end held) in
          subst NoFeed (sym (get_or-take end held i 0 early)) (at.2 i early)),
      (split_at held end 0 at.0 ∙ ap (λ (octet : ℕ). take end held ++ octet ∷ drop (suc end) held) ten
          ∙ ap (λ (n : ℕ). take end held ++ 10 ∷ drop n held) next),
      at.0,
    )

-- where none was found
without_feed : (held : List ℕ) → position (λ octet. octet == 10) held ≡ None → IsOneLine held
without_feed held none =
    let over = no_place (λ octet. octet == 10) held none in
    All-from_get_or NoFeed held 0 (λ i within.
    fails_before_first (λ octet. octet == 10) held i 0 (omega (arith, within, over)))

long_piece : (front part back more : List ℕ) → IsOneLine front → IsOneLine part
    → most_octets + 2 ≤ length front + length part → BeginsLong (lines (front ++ ((part ++ back) ++ more)))
long_piece front part back more none also long =
    let wide : most_octets + 2 ≤ length (front ++ part) = omega (arith, long, length-append front part) in
    let all : front ++ ((part ++ back) ++ more) ≡ (front ++ part) ++ (back ++ more) =
    ap (λ (rest : List ℕ). front ++ rest) (append_assoc part back more) ∙ sym (append_assoc front part (back ++ more)) in
    subst (λ (text : List ℕ). BeginsLong (lines text)) (sym all)
    (long_line (front ++ part) (back ++ more) (All-append NoFeed front part none also) wide)

pub piece_goes_on : (front held line kept : List ℕ) → IsOneLine front → position (λ octet. octet == 10) held ≡ None
    → line ≡ front ++ held → length line ≤ 1025 → kept ≡ [] → TakesPiece front held line kept None
piece_goes_on front held line kept none no_feed is room empty = (
  is,
  room,
  empty,
  subst IsOneLine (sym is) (All-append NoFeed front held none (without_feed held no_feed)),
)

pub piece_too_long : (front held line kept : List ℕ) → IsOneLine front
    → position (λ octet. octet == 10) held ≡ None → 1025 < length front + length held → held ≢ [] → kept ≡ []
    → TakesPiece front held line kept (Some Long)
piece_too_long front [] line kept none no_feed long some empty = absurd (some refl)
piece_too_long front (octet ∷ held) line kept none no_feed long some empty = (
  omega (arith, ap length empty),
  λ more. subst (λ (all : List ℕ). BeginsLong (lines (front ++ (all ++ more)))) (append-nil (octet ∷ held))
      (long_piece front (octet ∷ held) [] more none (without_feed (octet ∷ held) no_feed) (omega (arith, long))),
)

pub piece_long_to_feed : (front held line kept : List ℕ) (end : ℕ) → IsOneLine front
    → position (λ octet. octet == 10) held ≡ Some end → 1025 < length front + length (take end held)
    → kept ≡ drop (end + 1) held → TakesPiece front held line kept (Some Long)
piece_long_to_feed front held line kept end none found long kept_is =
    let cut = before_feed held end found in (
      omega (arith, cut.2, ap length kept_is, length-drop (end + 1) held),
      λ more. subst (λ (all : List ℕ). BeginsLong (lines (front ++ (all ++ more)))) (sym cut.1)
          (long_piece front (take end held) (10 ∷ drop (end + 1) held) more none cut.0 (omega (arith, long))),
    )

ended_by_length : (front held line kept : List ℕ) → length kept < length held
    → ((more : List ℕ) → lines (front ++ (held ++ more)) ≡ line ∷ lines (kept ++ more))
    → TakesPiece front held line kept (Some (by_length line))
ended_by_length front held line kept less first = by (nat_lt most_octets (length line)) refl
  where
    by : (b : Bool) → nat_lt most_octets (length line) ≡ b → TakesPiece front held line kept (Some (cond b Long Whole))
    by true over = (less, λ more. begins_long _ line _ (first more) (grind (arith, nat_tests, over)))
    by false under = (less, (grind (arith, nat_tests, under)), first)

pub piece_to_feed : (front held whole line kept : List ℕ) (end : ℕ) (read : LineRead) → IsOneLine front
    → position (λ octet. octet == 10) held ≡ Some end → whole ≡ front ++ take end held
    → line ≡ strip_carriage_return whole → read ≡ by_length line → kept ≡ drop (end + 1) held
    → TakesPiece front held line kept (Some read)
piece_to_feed front held whole line kept end read none found whole_is line_is read_is kept_is =
    let cut = before_feed held end found in
    let less : length kept < length held = omega (arith, cut.2, ap length kept_is, length-drop (end + 1) held) in
    let one : IsOneLine (front ++ take end held) = All-append NoFeed front (take end held) none cut.0 in
    subst (λ (r : LineRead). TakesPiece front held line kept (Some r)) (sym read_is)
    (ended_by_length front held line kept less (λ more.
    let all : front ++ (held ++ more) ≡ (front ++ take end held) ++ 10 ∷ (drop (end + 1) held ++ more) =
    ap (λ (rest : List ℕ). front ++ (rest ++ more)) cut.1
    ∙ ap (λ (rest : List ℕ). front ++ rest) (append_assoc (take end held) (10 ∷ drop (end + 1) held) more)
    ∙ sym (append_assoc front (take end held) (10 ∷ (drop (end + 1) held ++ more))) in
    ap lines all ∙ line_ended (front ++ take end held) (drop (end + 1) held ++ more) one
    ∙ ap (λ (text : List ℕ). strip_carriage_return text ∷ lines (drop (end + 1) held ++ more)) (sym whole_is)
    ∙ ap (λ (text : List ℕ). text ∷ lines (drop (end + 1) held ++ more)) (sym line_is)
    ∙ ap (λ (rest : List ℕ). line ∷ lines (rest ++ more)) (sym kept_is)))

-- ---- a piece of the file

pub reads_piece : (start next : Seen) (held front between line kept : List ℕ) (read : LineRead)
    → WhereTold start (λ octets. ahead start held octets ≡ front ++ ahead next between octets)
    → TakesPiece front between line kept (Some read) → ReadsLine start next held kept line read
reads_piece start next held front between line kept End given takes = absurd takes
reads_piece start next held front between line kept Whole given takes =
    (takes.1, λ octets has. ap lines (given octets has) ∙ takes.2 (drop next.place octets))
reads_piece start next held front between line kept Long given takes = λ octets has.
    subst (λ (text : List ℕ). BeginsLong (lines text)) (sym (given octets has)) (takes.1 (drop next.place octets))
