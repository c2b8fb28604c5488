-- Octets are a value with at most one text.
use Rattle.std.proofs.Common.{◌≡◌, ◌≢◌, ℕ, ◌+◌, ◌-◌, ◌*◌, ◌/◌, ◌%◌, ◌^◌, ◌<◌, Bool, true, false, cond, List, [], ◌∷◌, length, take, get_or, replicate, refl, sym, ap, ◌∙◌, arith, length-append}
use Rattle.std.specs.Prelude.{codes}
use Rattle.std.specs.Int.{Width, byte_len, to_be_bytes, w8, w16, w32}
use Rattle.std.proofs.lemmas.List.{length-replicate, get_or-replicate, get_or-append_right, get_or_append_left}
use Rattle.std.proofs.lemmas.List.Folds.{list_all_at}
use Rattle.std.proofs.Math.Seq.{take-append_seam}
use Rattle.datapoints.specs.declared.dpt.Dpt.{Dpt}
use Rattle.datapoints.specs.declared.dpt.Dpt.TheVariants.{Switch, Scaling, U8, U16, U32, I8, I16, I32, Hundredths, Time, Date, Text14}
use Rattle.datapoints.specs.Values.{is_printable, IsNumber, IsFloat, IsTime, IsDay, IsCharacters, IsSwitch, HasOneText}
use Rattle.datapoints.proofs.CharacterLemmas.{end_is}

pub one_octet : (a b : ℕ) → a < 256 → b < 256 → to_be_bytes w8 a ≡ to_be_bytes w8 b → a ≡ b
one_octet a b small_a small_b same = let low : a % 256 ≡ b % 256 = cc in omega arith

pub two_octets : (a b : ℕ) → a < 65536 → b < 65536 → to_be_bytes w16 a ≡ to_be_bytes w16 b → a ≡ b
two_octets a b small_a small_b same =
    let high : a / 256 % 256 ≡ b / 256 % 256 = cc in let low : a % 256 ≡ b % 256 = cc in omega arith

pub four_octets : (a b : ℕ) → a < 4294967296 → b < 4294967296 → to_be_bytes w32 a ≡ to_be_bytes w32 b → a ≡ b
four_octets a b small_a small_b same =
    let first : a / 16777216 % 256 ≡ b / 16777216 % 256 = cc in
    let second : a / 65536 % 256 ≡ b / 65536 % 256 = cc in
    let third : a / 256 % 256 ≡ b / 256 % 256 = cc in
    let last : a % 256 ≡ b % 256 = cc in
    omega arith

one_number : (w : Width) (text_of : ℕ → List ℕ) (octets text other : List ℕ)
    → ((a b : ℕ) → a < 256 ^ byte_len w → b < 256 ^ byte_len w → to_be_bytes w a ≡ to_be_bytes w b → a ≡ b)
    → IsNumber w text_of octets text → IsNumber w text_of octets other → text ≡ other
one_number w text_of octets text other injective p q =
    p.spelled ∙ ap text_of (injective p.number q.number p.bound q.bound (sym p.octets_are ∙ q.octets_are))
    ∙ sym q.spelled

one_float : (octets text other : List ℕ) → IsFloat octets text → IsFloat octets other → text ≡ other
one_float octets text other p q =
    let same = two_octets p.number q.number p.bound q.bound (sym p.octets_are ∙ q.octets_are) in cc

one_time : (octets text other : List ℕ) → IsTime octets text → IsTime octets other → text ≡ other
one_time octets text other p q =
    let both = sym p.octets_are ∙ q.octets_are in
    let first : 32 * p.day + p.hour ≡ 32 * q.day + q.hour = cc in
    let minutes : p.minute ≡ q.minute = cc in
    let seconds : p.second ≡ q.second = cc in
    let days : p.day ≡ q.day = omega (arith, p.hour_bound, q.hour_bound) in
    let hours : p.hour ≡ q.hour = omega (arith, p.hour_bound, q.hour_bound) in
    cc

one_day : (octets text other : List ℕ) → IsDay octets text → IsDay octets other → text ≡ other
one_day octets text other p q =
    let both = sym p.octets_are ∙ q.octets_are in
    let days : p.day ≡ q.day = cc in
    let months : p.month ≡ q.month = cc in
    let years : p.year ≡ q.year = cc in
    cc

abbrev bit_octets : Bool → List ℕ
bit_octets b = cond b 1 0 ∷ []

abbrev bit_text : Bool → List ℕ
bit_text b = cond b (codes "on") (codes "off")

one_zero : bit_octets true ≡ bit_octets false → ⊥
one_zero same =
    let heads : get_or (bit_octets true) 0 0 ≡ get_or (bit_octets false) 0 0 =
    ap (λ l. get_or l 0 0) same
    in
    omega arith

one_bit : (b c : Bool) → bit_octets b ≡ bit_octets c → bit_text b ≡ bit_text c
one_bit true true same = refl
one_bit false false same = refl
one_bit true false same = absurd (one_zero same)
one_bit false true same = absurd (one_zero (sym same))

one_switch : (octets text other : List ℕ) → IsSwitch octets text → IsSwitch octets other → text ≡ other
one_switch octets text other p q =
    p.spelled ∙ one_bit p.is_on q.is_on (sym p.octets_are ∙ q.octets_are) ∙ sym q.spelled

one_row : (octets text other : List ℕ) → IsCharacters octets text → IsCharacters octets other → text ≡ other
one_row octets text other p q =
    let k : ℕ = 14 - length q.characters in
    let size : length octets ≡ length q.characters + k =
    ap length q.octets_are ∙ length-append q.characters (replicate k 0)
    ∙ ap (λ n. length q.characters + n) (length-replicate k 0) in
    let before : (j : ℕ) → j < length q.characters → get_or octets j 0 ≢ 0 =
    λ j within none.
    let here : get_or q.characters j 0 ≡ 0 =
    sym (get_or_append_left q.characters (replicate k 0) 0 j within)
    ∙ ap (λ l. get_or l j 0) (sym q.octets_are) ∙ none in
    let no = list_all_at is_printable q.characters j 0 within (ap is_printable here) in let yes = q.printable in cc
    in
    let at : length q.characters < length octets → get_or octets (length q.characters) 0 ≡ 0 =
    λ within. ap (λ l. get_or l (length q.characters) 0) q.octets_are
    ∙ get_or-append_right q.characters (replicate k 0) (length q.characters) (length q.characters) 0 refl (omega arith)
    ∙ ap (λ n. get_or (replicate k 0) n 0) (omega arith) ∙ get_or-replicate k 0 0 0 (omega arith)
    in
    let ends = end_is octets p.characters (14 - length p.characters) (length q.characters) p.octets_are p.printable
    (omega arith) before at in
    let same : p.characters ≡ q.characters =
    sym (take-append_seam p.characters (replicate (14 - length p.characters) 0))
    ∙ ap (take (length p.characters)) (sym p.octets_are) ∙ ap (λ n. take n octets) (sym ends)
    ∙ ap (take (length q.characters)) q.octets_are ∙ take-append_seam q.characters (replicate k 0)
    in
    cc

pub one_text : (dpt : Dpt) (octets : List ℕ) → HasOneText dpt octets
one_text Switch octets text other = one_switch octets text other
one_text Scaling octets text other = one_number w8 _ octets text other one_octet
one_text U8 octets text other = one_number w8 _ octets text other one_octet
one_text U16 octets text other = one_number w16 _ octets text other two_octets
one_text U32 octets text other = one_number w32 _ octets text other four_octets
one_text I8 octets text other = one_number w8 _ octets text other one_octet
one_text I16 octets text other = one_number w16 _ octets text other two_octets
one_text I32 octets text other = one_number w32 _ octets text other four_octets
one_text Hundredths octets text other = one_float octets text other
one_text Time octets text other = one_time octets text other
one_text Date octets text other = one_day octets text other
one_text Text14 octets text other = one_row octets text other
