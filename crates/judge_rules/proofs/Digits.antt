-- Octets in hexadecimal, piece by piece.
use Rattle.std.proofs.Common.{◌≡◌, ℕ, List, [], ◌∷◌, ◌++◌, take, drop, Option, Result, refl, sym, ap, ◌∙◌, subst, append_assoc, take-append-drop}
use Rattle.std.specs.Prelude.{slice_index, ◌/◌, ◌%◌}
use Rattle.std.specs.Result.{IsErr}
use Rattle.std.specs.Io.KnownBytes.{append_known}
use Rattle.hex.specs.Hex.{encode_lower, encode_with}
use Rattle.knx_base.specs.Sink.{AppendsPrefix, Prints}
use Rattle.knx_base.proofs.Printing.{append_known-nil, append_known-append, prints_then, prints_no_more}

encode_with-append : (digits front back : List ℕ)
    → encode_with digits (front ++ back) ≡ encode_with digits front ++ encode_with digits back
unfolding encode_with
encode_with-append digits [] back = refl
encode_with-append digits (octet ∷ front) back =
    ap (λ rest. slice_index digits (octet / 16) ∷ slice_index digits (octet % 16) ∷ rest)
    (encode_with-append digits front back)

encode_lower-append : (front back : List ℕ) → encode_lower (front ++ back) ≡ encode_lower front ++ encode_lower back
encode_lower-append front back = encode_with-append _ front back

-- after one more piece the octets so far and what is left are still all octets
pub one_piece : (start before after : Option (List ℕ)) (octets rest front piece more : List ℕ) → front ++ rest ≡ octets
    → piece ++ more ≡ rest → before ≡ append_known start (encode_lower front)
    → after ≡ append_known before (encode_lower piece)
    → (next : List ℕ) × (next ++ more ≡ octets) × (after ≡ append_known start (encode_lower next))
one_piece start before after octets rest front piece more whole parts so_far printed = (
  front ++ piece,
  append_assoc front piece more ∙ ap (λ back. front ++ back) parts ∙ whole,
  printed ∙ ap (λ known. append_known known (encode_lower piece)) so_far
      ∙ append_known-append start (encode_lower front) (encode_lower piece)
      ∙ ap (append_known start) (sym (encode_lower-append front piece)),
)

-- where a piece fails, the octets were printed in part
pub in_part : {T E : Type 0} (start before after : Option (List ℕ)) (result : Result T E)
    (octets rest front piece more : List ℕ) → front ++ rest ≡ octets → piece ++ more ≡ rest
    → before ≡ append_known start (encode_lower front) → IsErr result
    → AppendsPrefix before after (encode_lower piece) → Prints start after result (encode_lower octets)
in_part start before after result octets rest front piece more whole parts so_far failed begun =
    subst (Prints start after result) (ap (λ back. encode_lower front ++ back) (sym (encode_lower-append piece more))
    ∙ sym (encode_lower-append front (piece ++ more))
    ∙ ap encode_lower (ap (λ back. front ++ back) parts ∙ whole))
    (prints_then start before after result (encode_lower front) (encode_lower piece ++ encode_lower more) so_far
    (prints_no_more before after result (encode_lower piece) (encode_lower more) failed begun))

pub none_yet : (known : Option (List ℕ)) → known ≡ append_known known (encode_lower [])
unfolding encode_with
none_yet known = sym (append_known-nil known)

pub both_parts : (n : ℕ) (octets : List ℕ) {front back : List ℕ} → front ≡ take n octets → back ≡ drop n octets
    → front ++ back ≡ octets
both_parts n octets front_is back_is = (λ i. front_is i ++ back_is i) ∙ take-append-drop n octets
