-- What the octets before a line feed, before the end of a file, and before too many more say of its lines.
use Rattle.std.proofs.Common.{◌≡◌, ℕ, ◌<◌, ◌≤◌, ◌-◌, Bool, true, false, eqb, cond, ◌≢◌, List, [], ◌∷◌, ◌++◌, length, get_or, take, refl, ap, ◌∙◌, length-append, length-take-le, arith}
use Rattle.std.specs.List.{slice_split, onto_first, All}
use Rattle.std.specs.Str.Lines.{lines, lines_of_parts, strip_carriage_return}
use Rattle.std.proofs.lemmas.Bool.{ne_eqb}
use Rattle.std.proofs.lemmas.Bool.Decides.{nat_tests}
use Rattle.std.proofs.lemmas.List.Elements.{All-append, All-cons, All-nil, All-head, All-tail}
use Rattle.std.proofs.lemmas.List.Splits.{slice_split-cons_no, slice_split_none, slice_split_at, length-slice_split}

-- a text without a line feed
abbrev NoFeed : ℕ → Type 0
NoFeed octet = eqb octet 10 ≡ false

abbrev pub IsOneLine : List ℕ → Type 0
IsOneLine text = All (λ octet. eqb octet 10 ≡ false) text

pub none_yet : IsOneLine []
none_yet = All-nil NoFeed

pub one_more : (line : List ℕ) (octet : ℕ) → IsOneLine line → octet ≢ 10 → IsOneLine (line ++ octet ∷ [])
one_more line octet none other =
    let here : eqb octet 10 ≡ false = ne_eqb octet 10 other in
    All-append NoFeed line (octet ∷ []) none (All-cons NoFeed octet [] here (All-nil NoFeed))

lines_of_more : (part : List ℕ) (parts : List (List ℕ)) → 0 < length parts
    → lines_of_parts (part ∷ parts) ≡ strip_carriage_return part ∷ lines_of_parts parts
lines_of_more part [] some = absurd (omega arith)
lines_of_more part (first ∷ parts) some = refl

pub line_ended : (line rest : List ℕ) → IsOneLine line
    → lines (line ++ 10 ∷ rest) ≡ strip_carriage_return line ∷ lines rest
line_ended line rest none =
    ap lines_of_parts (slice_split_at (λ octet. eqb octet 10) line 10 rest none refl)
    ∙ lines_of_more line _ (omega (arith, length-slice_split (λ (octet : ℕ). eqb octet 10) rest))

pub last_line : (octet : ℕ) (line : List ℕ) → IsOneLine (octet ∷ line)
    → lines (octet ∷ line) ≡ (octet ∷ line) ∷ []
last_line octet line none =
    ap lines_of_parts (slice_split_none (λ octet. eqb octet 10) (octet ∷ line) none) ∙ (grind (arith, nat_tests))

-- the first part of a text, where another part without a line feed comes before it
front_parts : (part more first : List ℕ) (parts : List (List ℕ)) → IsOneLine part
    → slice_split (λ octet. eqb octet 10) more ≡ first ∷ parts
    → slice_split (λ octet. eqb octet 10) (part ++ more) ≡ (part ++ first) ∷ parts
front_parts [] more first parts none is = is
front_parts (octet ∷ part) more first parts none is =
    slice_split-cons_no (λ octet. eqb octet 10) octet (part ++ more) (All-head NoFeed octet part none)
    ∙ ap (onto_first octet) (front_parts part more first parts (All-tail NoFeed octet part none) is)

strip_long : (line : List ℕ) → 1026 ≤ length line → 1024 < length (strip_carriage_return line)
strip_long line long = by (eqb (get_or line (length line - 1) 0) 13)
  where
    by : (b : Bool) → 1024 < length (cond b (take (length line - 1) line) line)
    by true = omega (arith, length-take-le (length line - 1) line)
    by false = omega arith

-- a line of more octets than any may have comes first
abbrev pub LongFirst : List (List ℕ) → Type 0
LongFirst texts = (first : List ℕ) × (rest : List (List ℕ)) × (texts ≡ first ∷ rest) × (1024 < length first)

begins_long : (texts : List (List ℕ)) (first : List ℕ) (rest : List (List ℕ)) → texts ≡ first ∷ rest
    → 1024 < length first → LongFirst texts
begins_long texts first rest is long = (first, rest, is, long)

pub long_line : (part more : List ℕ) → IsOneLine part → 1026 ≤ length part → LongFirst (lines (part ++ more))
long_line part more none long = by (slice_split (λ octet. eqb octet 10) more) refl
    (omega (arith, length-slice_split (λ (octet : ℕ). eqb octet 10) more))
  where
    by : (parts : List (List ℕ)) → slice_split (λ octet. eqb octet 10) more ≡ parts → 0 < length parts
        → LongFirst (lines (part ++ more))
    by [] is some = absurd (omega arith)
    by (first ∷ []) is some =
        let wide : 1024 < length (part ++ first) = omega (arith, length-append part first) in
        begins_long _ (part ++ first) [] (ap lines_of_parts (front_parts part more first [] none is)
        ∙ (grind (arith, nat_tests))) wide
    by (first ∷ next ∷ parts) is some =
        let wide : 1026 ≤ length (part ++ first) = omega (arith, length-append part first) in
        begins_long _ (strip_carriage_return (part ++ first)) (lines_of_parts (next ∷ parts))
        (ap lines_of_parts (front_parts part more first (next ∷ parts) none is)) (strip_long (part ++ first) wide)
